-- The one spelling of a result, and the results that have one (RFC 1094, 2.2 and 2.3).
use Rattle.std.specs.Prelude.{◌≡◌, ◌≢◌, ℕ, ◌^◌, ◌<◌, ◌≤◌, true, false, List, [], ◌∷◌, ◌++◌, length, All}
use Rattle.xdr_core.specs.Items.{AreWords, spell_word, spell_words, spell_bool, spell_fixed, spell_opaque}
use Rattle.xdr_core.specs.Grammar.{Spells}
use Rattle.nfs2_types.specs.Sizes.{max_name, max_path, max_data}
use Rattle.nfs2_types.specs.declared.fattr.Fattr.{Fattr}
use Rattle.nfs2_types.specs.declared.results.ListEntry.{ListEntry}
use Rattle.nfs2_types.specs.declared.results.NfsResult.{NfsResult}
use Rattle.nfs2_types.specs.declared.results.NfsResult.TheVariants.{Nothing, Refused, Done, Attr, Node, Path, Content}
use Rattle.nfs2_types.specs.declared.results.NfsResult.TheVariants.{Entries, Space}
use Rattle.nfs2_results.specs.Forms.{fattr_form, entry_form}

-- the seventeen words of the attributes, in their order (2.3.5)
abbrev pub fattr_words : Fattr → List ℕ
fattr_words a =
    a.ftype ∷ a.mode ∷ a.nlink ∷ a.uid ∷ a.gid ∷ a.size ∷ a.blocksize ∷ a.rdev ∷ a.blocks ∷ a.fsid ∷ a.fileid
    ∷ a.atime_secs ∷ a.atime_micros ∷ a.mtime_secs ∷ a.mtime_micros ∷ a.ctime_secs ∷ a.ctime_micros ∷ []

-- the spelling of the attributes
unfoldable pub fattr_text : Fattr → List ℕ
fattr_text a = spell_words (fattr_words a)

-- an entry behind the word 1 that announces it (2.2.17)
abbrev pub entry_text : ListEntry → List ℕ
entry_text e = spell_bool true ++ (spell_word e.fileid ++ (spell_opaque e.name ++ spell_word e.cookie))

-- the entries in their order, and the word 0 behind the last
abbrev pub entries_text : List ListEntry → List ℕ
entries_text [] = spell_bool false
entries_text (e ∷ es) = entry_text e ++ entries_text es

-- a status stands first; OK is 0, and its arm follows
abbrev pub result_text : NfsResult → List ℕ
result_text Nothing = []
result_text (Refused stat) = spell_word stat.0
result_text Done = spell_word 0
result_text (Attr a) = spell_word 0 ++ fattr_text a
result_text (Node handle a) = spell_word 0 ++ (spell_fixed handle ++ fattr_text a)
result_text (Path text) = spell_word 0 ++ spell_opaque text
result_text (Content a bytes) = spell_word 0 ++ (fattr_text a ++ spell_opaque bytes)
result_text (Entries entries eof) = spell_word 0 ++ (entries_text entries ++ spell_bool eof)
result_text (Space tsize bsize blocks bfree bavail) =
    spell_words (0 ∷ tsize ∷ bsize ∷ blocks ∷ bfree ∷ bavail ∷ [])

-- the results that have a spelling: no refusal is OK, and texts, bytes and names are within their limits
abbrev pub HasSpelling : NfsResult → Type 0
HasSpelling Nothing = Unit {0}
HasSpelling (Refused stat) = stat.0 ≢ 0
HasSpelling Done = Unit {0}
HasSpelling (Attr a) = Unit {0}
HasSpelling (Node handle a) = Unit {0}
HasSpelling (Path text) = length text ≤ max_path
HasSpelling (Content a bytes) = length bytes ≤ max_data
HasSpelling (Entries entries eof) = All (λ e. length e.name ≤ max_name) entries
HasSpelling (Space tsize bsize blocks bfree bavail) = Unit {0}

-- ---- the parts of a result are what they are read as

-- an entry behind the word that announces it
abbrev pub IsEntrySpelled : ListEntry → Type 0
IsEntrySpelled e = Spells entry_form e (spell_word e.fileid ++ (spell_opaque e.name ++ spell_word e.cookie))

-- what the parts of a result are known to spell, once they are written
abbrev pub AreSpelled : NfsResult → Type 0
AreSpelled Nothing = Unit {0}
AreSpelled (Refused stat) = stat.0 < 2 ^ 32
AreSpelled Done = Unit {0}
AreSpelled (Attr a) = Spells fattr_form a (fattr_text a)
AreSpelled (Node handle a) = (length handle ≡ 32) × Spells fattr_form a (fattr_text a)
AreSpelled (Path text) = Unit {0}
AreSpelled (Content a bytes) = Spells fattr_form a (fattr_text a)
AreSpelled (Entries entries eof) = All IsEntrySpelled entries
AreSpelled (Space tsize bsize blocks bfree bavail) = AreWords (0 ∷ tsize ∷ bsize ∷ blocks ∷ bfree ∷ bavail ∷ [])
