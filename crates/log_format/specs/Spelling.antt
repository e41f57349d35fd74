-- The one text of a header and of a record, apart from how they are read.
use Rattle.std.specs.Prelude.{ℕ, ◌<◌, ◌≤◌, List, ◌++◌, length, true, false}
use Rattle.nfs2_types.specs.declared.Word.{Word}
use Rattle.nfs2_types.specs.declared.Word.TheVariants.{Silent, Reply}
use Rattle.xdr_core.specs.Items.{spell_word, spell_bool, spell_opaque, spell_fixed}
use Rattle.xdr_core.specs.Grammar.{Spells}
use Rattle.log_format.specs.declared.header.Header.{Header}
use Rattle.log_format.specs.declared.event.Event.{Event}
use Rattle.log_format.specs.declared.event.Event.TheVariants.{Request, Run, RunAll, Reboot, Fetch, Rogue, Skip, Scratch, LieReply, LieRoot, LieItem, Wipe, Swap, End}
use Rattle.log_format.specs.Records.{event_form}

-- the letters BASELOG1 as two words, and four words
abbrev pub header_text : Header → List ℕ
header_text h = spell_word 1111577413 ++ (spell_word 1280263985
    ++ (spell_word h.f ++ (spell_word h.n ++ (spell_word h.k ++ spell_word h.t))))

-- false where there is no reply; else true and the reply
abbrev pub cast_text : Word → List ℕ
cast_text Silent = spell_bool false
cast_text (Reply b) = spell_bool true ++ spell_opaque b

-- three words and opaque data
abbrev pub payload_text : ℕ → ℕ → ℕ → List ℕ → List ℕ
payload_text a b d bytes = spell_word a ++ (spell_word b ++ (spell_word d ++ spell_opaque bytes))

-- the kind of a record and its fields
abbrev pub event_text : Event → List ℕ
event_text (Request client time b) = spell_word 1 ++ payload_text client time.secs time.micros b
event_text (Run r) = spell_word 2 ++ spell_word r
event_text RunAll = spell_word 3
event_text (Reboot r) = spell_word 4 ++ spell_word r
event_text (Fetch r n) = spell_word 5 ++ (spell_word r ++ spell_word n)
event_text (Rogue r time b) = spell_word 6 ++ payload_text r time.secs time.micros b
event_text (Skip r) = spell_word 7 ++ spell_word r
event_text (Scratch r index offset b) = spell_word 8 ++ payload_text r index offset b
event_text (LieReply r place w) = spell_word 9 ++ (spell_word r ++ (spell_word place ++ cast_text w))
event_text (LieRoot r place root) = spell_word 10 ++ (spell_word r ++ (spell_word place ++ spell_fixed root))
event_text (LieItem r level n b) = spell_word 11 ++ payload_text r level n b
event_text (Wipe r) = spell_word 12 ++ spell_word r
event_text (Swap r spare) = spell_word 13 ++ (spell_word r ++ spell_word spare)
event_text End = spell_word 14

-- how many bytes a record takes
unfoldable pub record_len : Event → ℕ
record_len e = length (event_text e)

-- its bytes are at most 65,536
abbrev pub IsShortWord : Word → Type 0
IsShortWord Silent = Unit {0}
IsShortWord (Reply b) = length b ≤ 65536

-- its microseconds are below 1,000,000, and its bytes at most 65,536
abbrev pub IsWithin : Event → Type 0
IsWithin (Request client time b) = (time.micros < 1000000) × (length b ≤ 65536)
IsWithin (Run r) = Unit {0}
IsWithin RunAll = Unit {0}
IsWithin (Reboot r) = Unit {0}
IsWithin (Fetch r n) = Unit {0}
IsWithin (Rogue r time b) = (time.micros < 1000000) × (length b ≤ 65536)
IsWithin (Skip r) = Unit {0}
IsWithin (Scratch r index offset b) = length b ≤ 65536
IsWithin (LieReply r place w) = IsShortWord w
IsWithin (LieRoot r place root) = length root ≤ 32
IsWithin (LieItem r level n b) = length b ≤ 65536
IsWithin (Wipe r) = Unit {0}
IsWithin (Swap r spare) = Unit {0}
IsWithin End = Unit {0}

-- for some f and some number of servers the event is a record
abbrev pub HasText : Event → Type 0
HasText e = (f : ℕ) × (servers : ℕ) × (text : List ℕ) × Spells (event_form f servers) e text
