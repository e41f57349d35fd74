-- Objects that have a text: each of their lengths is a word (RFC 4506, 4.10).
use Rattle.std.specs.Prelude.{◌<◌, ◌^◌, length, All}
use Rattle.abs_model.specs.declared.Object.{Object}
use Rattle.abs_model.specs.declared.Object.TheVariants.{Null, File, Dir, Link}

-- of bytes, of a link's text, of a directory's names and of each name
abbrev pub HasText : Object → Type 0
HasText Null = Unit {0}
HasText (File a bytes) = length bytes < 2 ^ 32
HasText (Dir a names) = (length names < 2 ^ 32) × All (λ r. length r.name < 2 ^ 32) names
HasText (Link a text) = length text < 2 ^ 32
