-- The text of the lines that a run prints. Numbers are decimal; hexadecimal is lower case; each line
-- ends with the byte 10.
use Rattle.std.specs.Prelude.{ℕ, List, ◌++◌, codes}
use Rattle.std.specs.List.{flat_map}
use Rattle.std.specs.Fmt.{decimal}
use Rattle.hex.specs.Hex.{encode_lower}
use Rattle.log_format.specs.declared.line.IdleCause.{IdleCause}
use Rattle.log_format.specs.declared.line.IdleCause.TheVariants.{NotLive, AtEnd, Behind, NoBytes, NotRebuilding}
use Rattle.log_format.specs.declared.line.Line.{Line}
use Rattle.log_format.specs.declared.line.Line.TheVariants.{Reply, Silent, Stable, Idle, Down, Fetching, Rebuilt, At, AtDown, AtRebuilding}

-- why a record did nothing
abbrev pub cause_text : IdleCause → List ℕ
cause_text NotLive = codes "not-live"
cause_text AtEnd = codes "at-end"
cause_text Behind = codes "behind"
cause_text NoBytes = codes "no-bytes"
cause_text NotRebuilding = codes "not-rebuilding"

-- a number, and what follows it behind a blank
abbrev pub number_and : ℕ → List ℕ → List ℕ
number_and n rest = decimal n ++ (codes " " ++ rest)

-- a number at the end of a line
abbrev pub last_number : ℕ → List ℕ
last_number n = decimal n ++ codes "\n"

-- the text of a line, with the byte 10 that ends it
unfoldable pub line_text : Line → List ℕ
line_text (Reply place bytes) =
    codes "reply " ++ number_and place (encode_lower bytes ++ codes "\n")
line_text (Silent place) = codes "silent " ++ last_number place
line_text (Stable place root) =
    codes "stable " ++ number_and place (encode_lower root ++ codes "\n")
line_text (Idle r cause) = codes "idle " ++ number_and r (cause_text cause ++ codes "\n")
line_text (Down r) = codes "down " ++ last_number r
line_text (Fetching r place got) =
    codes "fetching " ++ number_and r (number_and place (last_number got))
line_text (Rebuilt r place nodes objects) =
    codes "rebuilt " ++ number_and r (number_and place (number_and nodes (last_number objects)))
line_text (At r place) = codes "at " ++ number_and r (last_number place)
line_text (AtDown r) = codes "at " ++ (decimal r ++ codes " down\n")
line_text (AtRebuilding r) = codes "at " ++ (decimal r ++ codes " rebuilding\n")

-- the text of some lines
abbrev pub text_of : List Line → List ℕ
text_of lines = flat_map line_text lines
