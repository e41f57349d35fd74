-- The size of a node is that of its entry: bytes, or names.
use Rattle.std.proofs.Common.{◌≡◌, ℕ, ◌+◌, ◌*◌, arith, true, false, List, [], ◌∷◌, length, Option, Some, refl, sym, ap, ◌∙◌, subst}
use Rattle.std.specs.Prelude.{sum_by}
use Rattle.std.specs.FinMap.{len}
use Rattle.std.proofs.lemmas.List.Sums.{sum_by-cons}
use Rattle.nfs2_types.specs.declared.Limits.{Limits}
use Rattle.server_trait.specs.Tree.{Tree, Node, Names, Content, BytesOf, TextOf, NamesOf, names_in, size_of}
use Rattle.server_trait.specs.Tree as tree
use Rattle.server_trait.proofs.SumLaws.{total-ones}
use Rattle.server_trait.proofs.TreeLaws.{some_and, some_none, some_same}
use Rattle.server_trait.specs.declared.bench.ConfEntry.{ConfEntry}
use Rattle.server_trait.specs.declared.bench.ConfTable.{ConfTable}
use Rattle.abs_model.specs.declared.entry.NameRow.{NameRow}
use Rattle.abs_model.specs.declared.entry.Object.{Object}
use Rattle.abs_model.specs.declared.entry.Object.TheVariants.{Null, File, Dir, Link}
use Rattle.abs_model.specs.declared.entry.Entry.{Entry}
use Rattle.abs_model.specs.Objects.{is_dir, names_of, bytes_of}
use Rattle.abs_model.specs.Objects as entries
use Rattle.abs_model.specs.Valid.{is_rising, Valid}
use Rattle.conf_map.specs.Stands.{SameNames, SameContent, Stands}
use Rattle.conf_map.specs.Moves.{IsAt}
use Rattle.conf_map.proofs.ArrayFacts.{fits_at}
use Rattle.conf_map.proofs.Counted.{names_total}
use Rattle.conf_map.proofs.LiveRows.{same_content}

sum_by-ones : (rows : List NameRow) → sum_by (λ _. 1) rows ≡ length rows
sum_by-ones [] = refl
sum_by-ones (r ∷ rows) = let a = sum_by-cons (λ (r : NameRow). 1) r rows in let b = sum_by-ones rows in
    omega (arith, a, b)

-- as many names in a node's map as in its entry's list
len_names : (rows : List ConfEntry) (names : List NameRow) (m : Names) → is_rising names ≡ true →
    SameNames rows names m → len m ≡ length names
len_names rows names m rising same = sym (total-ones m)
    ∙ names_total rows names m (λ _. 1) (λ _. 1) rising same (λ r h _. refl) ∙ sum_by-ones names

-- the size of what has names is their number
pub size_names : (c : Content) (m : Names) → names_in c ≡ Some m → size_of c ≡ len m
size_names (BytesOf b) m is = absurd (some_none is refl)
size_names (TextOf b) m is = absurd (some_none is refl)
size_names (NamesOf k) m is = ap len (some_same refl is)

-- and it uses 512 bytes for each
pub used_names : (c : Content) (m : Names) → names_in c ≡ Some m → tree.used_by c ≡ 512 * len m
used_names (BytesOf b) m is = absurd (some_none is refl)
used_names (TextOf b) m is = absurd (some_none is refl)
used_names (NamesOf k) m is = ap (λ m. 512 * len m) (some_same refl is)

size_content : (rows : List ConfEntry) (g : ℕ) (o : Object) (c : Content) →
    is_rising (names_of (record { generation = g; object = o })) ≡ true → SameContent rows o c →
    size_of c ≡ length (bytes_of (record { generation = g; object = o })) + length
    (names_of (record { generation = g; object = o }))
size_content rows g Null c rising k = absurd k
size_content rows g (File a b) c rising k = let e : size_of c ≡ length b = ap size_of k in omega (arith, e)
size_content rows g (Link a b) c rising k = let e : size_of c ≡ length b = ap size_of k in omega (arith, e)
size_content rows g (Dir a names) c rising k =
    let m = some_and (names_in c) (SameNames rows names) k in
    let e = size_names c m.0 m.1 in
    let l = len_names rows names m.0 rising m.2 in
    omega (arith, e, l)

-- a node uses what its entry uses
pub used_content : (rows : List ConfEntry) (g : ℕ) (o : Object) (c : Content) →
    is_rising (names_of (record { generation = g; object = o })) ≡ true → SameContent rows o c →
    tree.used_by c ≡ entries.used_by (record { generation = g; object = o })
used_content rows g Null c rising k = absurd k
used_content rows g (File a b) c rising k = let e : tree.used_by c ≡ length b = ap tree.used_by k in omega (arith, e)
used_content rows g (Link a b) c rising k = let e : tree.used_by c ≡ length b = ap tree.used_by k in omega (arith, e)
used_content rows g (Dir a names) c rising k =
    let m = some_and (names_in c) (SameNames rows names) k in
    let e = used_names c m.0 m.1 in
    let l = len_names rows names m.0 rising m.2 in
    omega (arith, e, l)

-- the node of a directory has names, which lead where the entry's do
pub names_content : (rows : List ConfEntry) (g : ℕ) (o : Object) (c : Content) →
    is_dir (record { generation = g; object = o }) ≡ true → SameContent rows o c →
    (m : Names) × (names_in c ≡ Some m) × SameNames rows (names_of (record { generation = g; object = o })) m
names_content rows g Null c dir k = absurd k
names_content rows g (File a b) c dir k = absurd (let bad : false ≡ true = dir in cc)
names_content rows g (Link a b) c dir k = absurd (let bad : false ≡ true = dir in cc)
names_content rows g (Dir a names) c dir k = some_and (names_in c) (SameNames rows names) k

-- and what has names is a directory
pub dir_content : (rows : List ConfEntry) (g : ℕ) (o : Object) (c : Content) (m : Names) → SameContent rows o c →
    names_in c ≡ Some m → is_dir (record { generation = g; object = o }) ≡ true
dir_content rows g Null c m k is = absurd k
dir_content rows g (File a b) c m k is = absurd (some_none is (ap names_in k))
dir_content rows g (Link a b) c m k is = absurd (some_none is (ap names_in k))
dir_content rows g (Dir a names) c m k is = refl

module _ (limits : Limits) (s : Option Tree) (table : ConfTable) (A : List Entry) (st : Stands s table A)
    (v : Valid limits A)
    (i : ℕ) (h : List ℕ) (r : ConfEntry) (n : Node) (e : Entry) (at : IsAt st.tree table A i h r n e) where
  -- a node has as many bytes or names as its entry, of which one is none
  pub size_agrees : size_of n.content ≡ length (bytes_of e) + length (names_of e)
  size_agrees = size_content table.rows.items e.generation e.object n.content
      (fits_at limits A v i e at.is_entry).rising (same_content s table A st i h r n e at)

  -- a row's node that has names is a directory
  pub is_dir_row : (m : Names) → names_in n.content ≡ Some m → is_dir e ≡ true
  is_dir_row m is = dir_content table.rows.items e.generation e.object n.content m
      (same_content s table A st i h r n e at) is

  -- the node of a directory has a map of names, which lead where the entry's names lead
  pub dir_names : is_dir e ≡ true → (m : Names) × (names_in n.content ≡ Some m)
      × SameNames table.rows.items (names_of e) m
  dir_names dir = names_content table.rows.items e.generation e.object n.content dir
      (same_content s table A st i h r n e at)

  -- its names lead where the entry's lead
  pub same_names : (m : Names) → names_in n.content ≡ Some m → SameNames table.rows.items (names_of e) m
  same_names m is = let k = dir_names (is_dir_row m is) in
      subst (SameNames table.rows.items (names_of e)) (some_same k.1 is) k.2

  -- a directory's map has as many names as its entry
  pub names_agree : (m : Names) → names_in n.content ≡ Some m → len m ≡ length (names_of e)
  names_agree m is = len_names table.rows.items (names_of e) m (fits_at limits A v i e at.is_entry).rising
      (same_names m is)
