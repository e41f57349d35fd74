-- The bytes that arrays use: what each change of entries adds to them or takes away.
use Rattle.std.proofs.Common.{◌≡◌, ◌≢◌, ℕ, ◌+◌, ◌*◌, ◌<◌, arith, true, false, List, [], length, set, replicate, Option, Some, None, refl, sym, ap, ◌∙◌}
use Rattle.std.proofs.lemmas.List.{length-set, length-replicate, get_or-set_other}
use Rattle.nfs2_types.specs.declared.Time.{Time}
use Rattle.abs_model.specs.declared.entry.Attr.{Attr}
use Rattle.abs_model.specs.declared.entry.NameRow.{NameRow}
use Rattle.abs_model.specs.declared.entry.Object.{Object}
use Rattle.abs_model.specs.declared.entry.Object.TheVariants.{Null, File, Dir, Link}
use Rattle.abs_model.specs.declared.entry.Entry.{Entry}
use Rattle.abs_model.specs.Objects.{is_file, is_dir, is_null, names_of, bytes_of, row_of, placed, without, used_by, with_attr}
use Rattle.abs_model.specs.Array.{entry_at, null_entry, used}
use Rattle.abs_model.specs.Machine.{with_bytes, with_names}
use Rattle.abs_model.specs.Valid.{is_rising}
use Rattle.abs_model.proofs.Facts.{length-placed}
use Rattle.abs_model.proofs.Kept.{used_names}
use Rattle.abs_model.proofs.RowLists.{length_dropped}
use Rattle.abs_model.proofs.Shapes.{used-set}
use Rattle.abs_model.proofs.Steps.{null_is}
use Rattle.node_changes.specs.News.{entry_of}
use Rattle.node_changes.specs.Objects.{New, new_dir, new_file, new_link, byte_count, object_of}

-- ENTRIES

-- two entries are put in place of two others
pub used_twice : (A : List Entry) (d i : ℕ) (a b : Entry) → d ≢ i → d < length A → i < length A →
    used (set (set A d a) i b) + (used_by (entry_at A d) + used_by (entry_at A i)) ≡ used A + (used_by a + used_by b)
used_twice A d i a b apart d_below i_below =
    let first = used-set A d a d_below in
    let size = length-set A d a in
    let second = used-set (set A d a) i b (omega (arith, size, i_below)) in
    let stays : entry_at (set A d a) i ≡ entry_at A i = get_or-set_other A d i a null_entry (λ e. apart (sym e)) in
    let same = ap used_by stays in
    omega (arith, first, second, same)

-- a file's bytes
pub used_file : (e : Entry) → is_file e ≡ true → used_by e ≡ length (bytes_of e)
used_file e = by_object e.object
  where
    by_object : (o : Object) → is_file (record { generation = e.generation; object = o }) ≡ true →
        used_by (record { generation = e.generation; object = o })
        ≡ length (bytes_of (record { generation = e.generation; object = o }))
    by_object Null is = absurd (let bad : false ≡ true = is in cc)
    by_object (File a b) is = omega arith
    by_object (Dir a b) is = absurd (let bad : false ≡ true = is in cc)
    by_object (Link a b) is = absurd (let bad : false ≡ true = is in cc)

-- the bytes that a file gets
pub used_bytes : (f : List ℕ → List ℕ) (t : Time) (e : Entry) → used_by (with_bytes f t e) ≡ length (f (bytes_of e))
used_bytes f t e = omega arith

-- a null entry
pub used_null : (e : Entry) → is_null e ≡ true → used_by e ≡ 0
used_null e null = (null_is e null).used

-- a new object
pub used_new : (g : ℕ) (new : New) (attr : Attr) → used_by (entry_of g (object_of new attr)) ≡ byte_count new
used_new g new_dir attr = omega arith
used_new g (new_file size) attr = let n = length-replicate {A = ℕ} size 0 in omega (arith, n)
used_new g (new_link text) attr = omega arith

-- other attributes
pub used_attr : (a : Attr) (e : Entry) → used_by (with_attr a e) ≡ used_by e
used_attr a e = by_object e.object
  where
    by_object : (o : Object) → used_by (with_attr a (record { generation = e.generation; object = o }))
        ≡ used_by (record { generation = e.generation; object = o })
    by_object Null = refl
    by_object (File x b) = refl
    by_object (Dir x b) = refl
    by_object (Link x b) = refl

-- NAMES

-- a directory with a name more
pub used_placed : (row : NameRow) (t : Time) (e : Entry) → is_dir e ≡ true →
    used_by (with_names (placed row) t e) ≡ used_by e + 512
used_placed row t e dir =
    let parts = used_names (placed row) t e dir in
    let more = length-placed row (names_of e) in
    let now = parts.0 in
    let was = parts.1 in
    omega (arith, now, was, more)

-- and with one less
pub used_without : (name : List ℕ) (r : NameRow) (t : Time) (e : Entry) → is_dir e ≡ true →
    is_rising (names_of e) ≡ true → row_of name (names_of e) ≡ Some r →
    used_by (with_names (without name) t e) + 512 ≡ used_by e
used_without name r t e dir rising is =
    let parts = used_names (without name) t e dir in
    let less = length_dropped name (names_of e) r rising is in
    let now = parts.0 in
    let was = parts.1 in
    omega (arith, now, was, less)
