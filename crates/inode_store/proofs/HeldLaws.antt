-- A change of one inode of a medium is one of the table of what the inodes hold.
use Rattle.std.proofs.Common.{◌≡◌, ℕ, ◌<◌, ◌≤◌, cond, true, false, Option, None, IsSome, sym, ap, subst, ◌∙◌, inl, inr}
use Rattle.std.specs.Option.{option_map}
use Rattle.std.proofs.lemmas.Bool.{cases_lt, lt-ltb, le-ltb}
use Rattle.pointer_tree.specs.Tree.{Content}
use Rattle.pointer_tree.specs.declared.node.Area.{Area}
use Rattle.inode_dirs.specs.Files.{File, entry_of, table_of}
use Rattle.inode_dirs.specs.Table.{Entry}
use Rattle.inode_dirs.proofs.TableLaws.{IsSameBut}
use Rattle.inode_store.specs.Inodes.{file_at}
use Rattle.inode_store.specs.Keeps.{Changes}
use Rattle.inode_store.specs.Held.{files_of}

pub files_of-within : (area : Area) (n i : ℕ) (c : Content) → i < n → files_of area n c i ≡ file_at area c i
files_of-within area n i c l = ap (λ b. cond b (file_at area c i) None) (lt-ltb i n l)

pub files_of-past : (area : Area) (n i : ℕ) (c : Content) → n ≤ i → files_of area n c i ≡ None
files_of-past area n i c l = ap (λ b. cond b (file_at area c i) None) (le-ltb i n l)

-- every other inode holds what it held
pub table-same : (area : Area) (n i : ℕ) (file : Option File) (c c' : Content) → Changes area n i file c c' →
    IsSameBut (table_of (files_of area n c)) (table_of (files_of area n c')) i
table-same area n i file c c' changes j ne = ap (option_map entry_of) (elim (cases_lt j n) [
  | inl l ↦ files_of-within area n j c' l ∙ changes.others j l ne ∙ sym (files_of-within area n j c l)
  | inr l ↦ files_of-past area n j c' l ∙ sym (files_of-past area n j c l)
])

-- the inode holds its file
pub table-here : (area : Area) (n i : ℕ) (file : Option File) (c c' : Content) → i < n → Changes area n i file c c' →
    table_of (files_of area n c') i ≡ option_map entry_of file
table-here area n i file c c' l changes =
    ap (option_map entry_of) (files_of-within area n i c' l ∙ changes.here)

-- a used inode is one of the medium's
pub table-within : (area : Area) (n i : ℕ) (c : Content) → IsSome (table_of (files_of area n c) i) → i < n
table-within area n i c some = elim (cases_lt i n) [
  | inl l ↦ l
  | inr l ↦ absurd (let bad : IsSome {T = Entry} None =
      subst (λ (o : Option Entry). IsSome o) (ap (option_map entry_of) (files_of-past area n i c l)) some in
      let no : false ≡ true = bad in cc)
]
