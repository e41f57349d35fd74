-- The text of an entry, and of a node of the digest tree: words, high byte first, and opaque bytes (RFC
-- 4506,
-- 4.2 and 4.10).
use Rattle.std.specs.Prelude.{ℕ, zero, suc, List, [], ◌∷◌, ◌++◌, length, take, drop}
use Rattle.std.specs.List.{flat_map}
use Rattle.xdr_core.specs.Items.{spell_word, spell_opaque}
use Rattle.abs_model.specs.declared.Attr.{Attr}
use Rattle.abs_model.specs.declared.NameRow.{NameRow}
use Rattle.abs_model.specs.declared.Object.{Object}
use Rattle.abs_model.specs.declared.Object.TheVariants.{Null, File, Dir, Link}
use Rattle.abs_model.specs.declared.Entry.{Entry}

-- mode, owners and times, and what follows
abbrev pub attr_text : Attr → List ℕ → List ℕ
attr_text a rest =
    spell_word a.mode ++ (spell_word a.uid
    ++ (spell_word a.gid ++ (spell_word a.atime.secs ++ (spell_word a.atime.micros ++
    (spell_word a.mtime.secs
    ++ (spell_word a.mtime.micros
    ++ (spell_word a.ctime.secs ++ (spell_word a.ctime.micros ++ rest))))))))

-- the names of a directory, each with where it leads
abbrev pub rows_text : List NameRow → List ℕ
rows_text [] = []
rows_text (r ∷ rs) = spell_opaque r.name
    ++ (spell_word r.index ++ (spell_word r.generation ++ rows_text rs))

-- the kind of an object, and what it holds
abbrev pub object_text : Object → List ℕ
object_text Null = spell_word 0 ++ []
object_text (File a bytes) = spell_word 1 ++ attr_text a (spell_opaque bytes ++ [])
object_text (Dir a names) = spell_word 2 ++ attr_text a (spell_word (length names) ++ rows_text names)
object_text (Link a text) = spell_word 5 ++ attr_text a (spell_opaque text ++ [])

-- entry i
abbrev pub entry_text : ℕ → Entry → List ℕ
entry_text i e = spell_word 0 ++ (spell_word i ++ (spell_word e.generation ++ object_text e.object))

-- a node: its level, its number, and its sixteen digests
abbrev pub node_text : ℕ → ℕ → List (List ℕ) → List ℕ
node_text l k ds = spell_word 1 ++ (spell_word l ++ (spell_word k ++ flat_map (λ (d : List ℕ). d) ds))

-- the first n pieces of 32 bytes
abbrev pub chunks : ℕ → List ℕ → List (List ℕ)
chunks zero t = []
chunks (suc n) t = take 32 t ∷ chunks n (drop 32 t)

-- the digests that stand in the text of a node
abbrev pub node_parts : List ℕ → List (List ℕ)
node_parts t = chunks 16 (drop 12 t)
