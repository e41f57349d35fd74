-- What is read of a row and its node is the entry.
use Rattle.std.proofs.Common.{◌≡◌, ℕ, ◌^◌, ◌<◌, ◌≤◌, arith, true, false, List, [], length, All, take, drop, get_or, slice_get, Option, Some, None, refl, sym, ap, ◌∙◌, subst}
use Rattle.std.specs.List.{list_all}
use Rattle.std.proofs.lemmas.Option.{slice_get-get_or}
use Rattle.std.proofs.lemmas.List.{take_all}
use Rattle.std.proofs.lemmas.List.Sums.{AllPass-from_list_all}
use Rattle.nfs2_types.specs.Names.{is_name}
use Rattle.nfs2_types.specs.Sizes.{max_name}
use Rattle.nfs2_types.specs.declared.fattr.Kind.TheVariants as kinds
use Rattle.server_trait.specs.Tree.{Tree, Node}
use Rattle.server_trait.proofs.TreeLaws.{some_none, some_same}
use Rattle.server_trait.specs.declared.NodeAttr.{NodeAttr}
use Rattle.server_trait.specs.declared.ConfEntry.{ConfEntry}
use Rattle.server_trait.specs.declared.ConfTable.{ConfTable}
use Rattle.abs_model.specs.declared.Attr.{Attr}
use Rattle.abs_model.specs.declared.NameRow.{NameRow}
use Rattle.abs_model.specs.declared.Object.{Object}
use Rattle.abs_model.specs.declared.Object.TheVariants.{Null, File, Dir, Link}
use Rattle.abs_model.specs.declared.Entry.{Entry}
use Rattle.abs_model.specs.Objects.{is_file, is_dir, is_link, names_of, bytes_of, attr_of, used_by}
use Rattle.abs_model.specs.Array.{entry_at}
use Rattle.abs_model.specs.Valid.{most_bytes}
use Rattle.conf_map.specs.Stands.{handle_at, IsObject, SameAttr, RowIs, StandValid}
use Rattle.conf_map.specs.Found.{is_file_kind, is_dir_kind, is_link_kind, IsSeen}
use Rattle.conf_map.specs.Shown.{attr_by}
use Rattle.conf_map.proofs.ArrayFacts.{Fits, le_of, within_at, entry_used, fits_at}
use Rattle.conf_map.proofs.RowFacts.{and_left, and_right}
use Rattle.conf_map.proofs.Frames.{entry_at-some, handle_of_row}
use Rattle.conf_map.proofs.LiveRows.{at_handle, same_attr}
use Rattle.conf_map.proofs.Shows.{row_read}
use Rattle.abs_text.specs.Lengths.{HasText}
use Rattle.abstraction_fn.specs.Bytes.{with_bytes, without_bytes}

abbrev pub entry : ℕ → Object → Entry
entry g o = record { generation = g; object = o }

-- each entry of a valid array has a text

name_short : (name : List ℕ) → is_name name ≡ true → length name < 2 ^ 32
name_short name is =
    let most : length name ≤ max_name = le_of (length name) max_name (and_right _ _ (and_left _ _ is)) in
    omega (arith, most)

names_short : (names : List NameRow) → list_all (λ r. is_name r.name) names ≡ true →
    All (λ (r : NameRow). length r.name < 2 ^ 32) names
names_short names all =
    let each = AllPass-from_list_all (λ (r : NameRow). is_name r.name) names all in
    λ k d lt. name_short _ (each k d lt)

has_text : (g : ℕ) (o : Object) → Fits (entry g o) → used_by (entry g o) ≤ 16777216 → HasText o
has_text g Null f used = tt
has_text g (File a bytes) f used = omega (arith, f.bytes)
has_text g (Dir a names) f used = (omega (arith, used), names_short names f.names)
has_text g (Link a text) f used = omega (arith, f.bytes)

pub text_there : (s : Option Tree) (table : ConfTable) (A : List Entry) → StandValid s table A → (i : ℕ) →
    i < length table.rows.items → HasText (entry_at A i).object
text_there s table A k i within =
    let at = within_at A i (omega (arith, within, k.stands.size)) in
    let used : used_by (entry_at A i) ≤ 16777216
    = omega (arith, entry_used A i (entry_at A i) at, k.valid.room, k.within.3) in
    has_text (entry_at A i).generation (entry_at A i).object (fits_at k.limits A k.valid i (entry_at A i) at) used

-- objects by their parts

file_made : (g : ℕ) (o : Object) (attr : Attr) → is_file (entry g o) ≡ true → attr ≡ attr_of (entry g o) →
    File attr [] ≡ (without_bytes (entry g o)).object
file_made g (File a b) attr is p = λ j. File (p j) []
file_made g _ attr is p = absurd (let bad : false ≡ true = is in cc)

link_made : (g : ℕ) (o : Object) (attr : Attr) (text : List ℕ) → is_link (entry g o) ≡ true →
    attr ≡ attr_of (entry g o) → text ≡ bytes_of (entry g o) → Link attr text ≡ (without_bytes (entry g o)).object
link_made g (Link a b) attr text is p q = λ j. Link (p j) (q j)
link_made g _ attr text is p q = absurd (let bad : false ≡ true = is in cc)

dir_made : (g : ℕ) (o : Object) (attr : Attr) (names : List NameRow) → is_dir (entry g o) ≡ true →
    attr ≡ attr_of (entry g o) → names ≡ names_of (entry g o) → Dir attr names ≡ (without_bytes (entry g o)).object
dir_made g (Dir a b) attr names is p q = λ j. Dir (p j) (q j)
dir_made g _ attr names is p q = absurd (let bad : false ≡ true = is in cc)

attr_made : (e : Entry) (a : NodeAttr) (r : ConfEntry) (n : Node) → IsSeen e a → SameAttr (attr_of e) r n →
    attr_by a r ≡ attr_of e
attr_made e a r n seen k = λ j. record {
  mode = seen.mode j;
  uid = seen.uid j;
  gid = seen.gid j;
  atime = k.atime j;
  mtime = k.mtime j;
  ctime = k.ctime j;
}

module _ (s : Option Tree) (table : ConfTable) (A : List Entry) (k : StandValid s table A) (i : ℕ) (h : List ℕ)
    (at : handle_at table.rows.items i ≡ Some h) (r : ConfEntry) (read : r ≡ get_or table.rows.items i r)
    (a : NodeAttr) (seen : IsSeen (entry_at A i) a) where
  attr_is : attr_by a r ≡ attr_of (entry_at A i)
  attr_is =
      let row = row_read table.rows.items i h r at read in
      let e = at_handle s table A k.stands i h at in
      let same = entry_at-some A i e.2 e.3.is_entry in
      let one : e.0 ≡ r = some_same e.3.is_row row.is_row in
      let attr = same_attr s table A k.stands i h e.0 e.1 e.2 e.3 in
      let attr_r = subst (λ (x : ConfEntry). SameAttr (attr_of e.2) x e.1) one attr in
      attr_made (entry_at A i) a r e.1 seen (subst (λ (x : Entry). SameAttr (attr_of x) r e.1) (sym same) attr_r)

  pub file_is : a.kind ≡ kinds.File → File (attr_by a r) [] ≡ (without_bytes (entry_at A i)).object
  file_is kind =
      file_made (entry_at A i).generation (entry_at A i).object (attr_by a r)
      (sym seen.file ∙ ap is_file_kind kind) attr_is

  pub link_is : (text : List ℕ) → a.kind ≡ kinds.Link → text ≡ bytes_of (entry_at A i) →
      Link (attr_by a r) text ≡ (without_bytes (entry_at A i)).object
  link_is text kind is =
      link_made (entry_at A i).generation (entry_at A i).object (attr_by a r) text
      (sym seen.link ∙ ap is_link_kind kind) attr_is is

  pub dir_is : (names : List NameRow) → a.kind ≡ kinds.Dir → names ≡ names_of (entry_at A i) →
      Dir (attr_by a r) names ≡ (without_bytes (entry_at A i)).object
  dir_is names kind is =
      dir_made (entry_at A i).generation (entry_at A i).object (attr_by a r) names
      (sym seen.dir ∙ ap is_dir_kind kind) attr_is is

-- entries

null_object : (t : Tree) (rows : List ConfEntry) (r : ConfEntry) (o : Object) → IsObject t rows r o →
    r.handle ≡ None → Null ≡ o
null_object t rows r Null k is = refl
null_object t rows r (File a b) k is = absurd (some_none k.is_handle is)
null_object t rows r (Dir a b) k is = absurd (some_none k.is_handle is)
null_object t rows r (Link a b) k is = absurd (some_none k.is_handle is)

module _ (s : Option Tree) (table : ConfTable) (A : List Entry) (k : StandValid s table A) (i : ℕ)
    (within : i < length table.rows.items) (r : ConfEntry) (read : r ≡ get_or table.rows.items i r) where
  row_is : slice_get table.rows.items i ≡ Some r
  row_is = slice_get-get_or table.rows.items i r within ∙ ap (λ (x : ConfEntry). Some x) (sym read)

  row_object : RowIs k.stands.tree table.rows.items A i r (entry_at A i)
  row_object = k.stands.each i r (entry_at A i) row_is (within_at A i (omega (arith, within, k.stands.size)))

  null_is : r.handle ≡ None → Null ≡ (entry_at A i).object
  null_is none = null_object k.stands.tree table.rows.items r (entry_at A i).object row_object.object none

  -- what is read of a row without a handle
  pub null_read : r.handle ≡ None → entry r.generation Null ≡ without_bytes (entry_at A i)
  null_read none =
      ap (λ (g : ℕ). entry g Null) row_object.generation
      ∙ ap (λ (o : Object). without_bytes (entry (entry_at A i).generation o)) (null_is none)

  -- and of another
  pub live_read : (o : Object) → o ≡ (without_bytes (entry_at A i)).object →
      entry r.generation o ≡ without_bytes (entry_at A i)
  live_read o object = λ j. record { generation = row_object.generation j; object = object j }

  pub handle_is : (h : List ℕ) → r.handle ≡ Some h → handle_at table.rows.items i ≡ Some h
  handle_is h is = handle_of_row table.rows.items i r row_is ∙ is

  -- without a handle there are no bytes to be read
  pub null_whole : r.handle ≡ None → without_bytes (entry_at A i) ≡ entry_at A i
  null_whole none =
      let same = null_is none in
      let g = (entry_at A i).generation in
      ap (λ (o : Object). without_bytes (entry g o)) (sym same) ∙ ap (λ (o : Object). entry g o) same

-- with the bytes of a file

-- nor has what is none
other : (g : ℕ) (o : Object) → is_file (entry g o) ≡ false → without_bytes (entry g o) ≡ entry g o
other g Null is = refl
other g (File a b) is = absurd (let bad : true ≡ false = is in cc)
other g (Dir a b) is = refl
other g (Link a b) is = refl

pub still_file : (e : Entry) → is_file (without_bytes e) ≡ is_file e
still_file e = by e.generation e.object
  where
    by : (g : ℕ) (o : Object) → is_file (without_bytes (entry g o)) ≡ is_file (entry g o)
    by g Null = refl
    by g (File a b) = refl
    by g (Dir a b) = refl
    by g (Link a b) = refl

pub other_whole : (e : Entry) → is_file e ≡ false → without_bytes e ≡ e
other_whole e is = other e.generation e.object is

refilled : (g : ℕ) (o : Object) → is_file (entry g o) ≡ true →
    with_bytes (bytes_of (entry g o)) (without_bytes (entry g o)) ≡ entry g o
refilled g (File a b) is = refl
refilled g _ is = absurd (let bad : false ≡ true = is in cc)

most_of : (g : ℕ) (o : Object) → is_file (entry g o) ≡ true → most_bytes (entry g o) ≡ 1048576
most_of g (File a b) is = refl
most_of g _ is = absurd (let bad : false ≡ true = is in cc)

-- a file with all its bytes
pub file_whole : (s : Option Tree) (table : ConfTable) (A : List Entry) → StandValid s table A → (i : ℕ) →
    i < length table.rows.items → is_file (entry_at A i) ≡ true → (bytes : List ℕ) →
    bytes ≡ take 1048576 (drop 0 (bytes_of (entry_at A i))) →
    with_bytes bytes (without_bytes (entry_at A i)) ≡ entry_at A i
file_whole s table A k i within file bytes is =
    let e = entry_at A i in
    let at = within_at A i (omega (arith, within, k.stands.size)) in
    let few = (fits_at k.limits A k.valid i e at).bytes in
    let whole : take 1048576 (bytes_of e) ≡ bytes_of e
    = take_all 1048576 (bytes_of e) (omega (arith, few, most_of e.generation e.object file)) in
    ap (λ (b : List ℕ). with_bytes b (without_bytes e)) (is ∙ whole) ∙ refilled e.generation e.object file
