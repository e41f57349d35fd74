-- The bytes of arrays go with what tables count.
use Rattle.std.proofs.Common.{◌≡◌, ◌≢◌, inl, inr, ℕ, ◌+◌, ◌*◌, ◌^◌, ◌<◌, ◌≤◌, max, arith, true, false, List, [], ◌++◌, length, set, Option, Some, None, slice_get, refl, sym, ap, ◌∙◌, subst}
use Rattle.std.specs.Prelude.{◌==◌, nat_le, is_some, unwrap_or, if◌then◌else◌}
use Rattle.std.proofs.lemmas.Bool.{cases_Bool, cond-true, cond-false}
use Rattle.std.proofs.lemmas.Option.{slice_get_within}
use Rattle.nfs2_types.specs.declared.Limits.{Limits}
use Rattle.nfs2_types.specs.declared.Sattr.{Sattr}
use Rattle.nfs2_types.specs.declared.Time.{Time}
use Rattle.nfs2_types.specs.Bytes.{resized, overwritten}
use Rattle.server_trait.specs.Tree.{Server}
use Rattle.server_trait.specs.declared.bench.ConfTable.{ConfTable}
use Rattle.server_trait.specs.declared.server.NodeAttr.{NodeAttr}
use Rattle.abs_model.specs.declared.entry.Object.{Object}
use Rattle.abs_model.specs.declared.entry.Entry.{Entry}
use Rattle.abs_model.specs.declared.entry.NameRow.{NameRow}
use Rattle.abs_model.specs.Objects.{is_file, is_dir, names_of, bytes_of, attr_of, row_of, placed, without, used_by, with_attr, changed_at, nulled, written, set_attr_of}
use Rattle.abs_model.specs.Array.{entry_at, changed, used, links}
use Rattle.abs_model.specs.Machine.{with_bytes, with_names, row_to, unlinked, rows_move}
use Rattle.abs_model.specs.Valid.{Valid, is_rising}
use Rattle.abs_model.proofs.Facts.{dir_is, length-placed}
use Rattle.abs_model.proofs.Kept.{used_names}
use Rattle.abs_model.proofs.RowLists.{length_dropped, without_absent, row_of-without_none}
use Rattle.abs_model.proofs.Shapes.{used-set}
use Rattle.server_trait.proofs.TreeLaws.{one_or_not}
use Rattle.conf_map.specs.Stands.{AreWithin}
use Rattle.conf_map.specs.Tallied.{Tallied}
use Rattle.conf_map.proofs.ArrayFacts.{eq_is, eq_not}
use Rattle.node_changes.specs.News.{entry_of, with_new}
use Rattle.node_changes.specs.Objects.{New, byte_count, object_of}
use Rattle.node_changes.specs.Puts.{size_after, with_bytes_at}
use Rattle.node_changes.specs.Rows.{entry_timed, entry_of_generation}
use Rattle.node_changes.specs.Settings.{entry_set}
use Rattle.node_changes.specs.Tallies.{CanShift}
use Rattle.node_changes.proofs.ByteLaws.{length-resized, length-overwritten}
use Rattle.node_changes.proofs.MovedArrays.{comes, writes, moved_by}
use Rattle.node_changes.proofs.TallyLaws.{can_shift}
use Rattle.node_changes.proofs.UsedLaws.{used_attr, used_twice, used_file, used_bytes, used_null, used_new, used_placed, used_without}

-- where bytes go and come in an array within the limits, the table can count them
pub can_count : (limits : Limits) {table : ConfTable} {A : List Entry} (A' : List Entry) (goes comes : ℕ) →
    AreWithin limits → used A ≤ limits.t → Tallied table A → comes < 2 ^ 32 → used A' + goes ≡ used A + comes →
    CanShift table goes comes
can_count limits {table} {A} A' goes comes within room tallied few moves =
    let most = within.3 in
    can_shift goes comes tallied (omega (arith, room, most)) few (omega (arith, moves))

-- BYTES

pub put_moves : (A : List Entry) (i : ℕ) (f : List ℕ → List ℕ) (t : Time) (before after : ℕ) → i < length A →
    is_file (entry_at A i) ≡ true → length (bytes_of (entry_at A i)) ≡ before →
    length (f (bytes_of (entry_at A i))) ≡ after → used (with_bytes_at A i f t) + before ≡ used A + after
put_moves A i f t before after below file was now =
    let moves = used-set A i (with_bytes f t (entry_at A i)) below in
    let old = used_file (entry_at A i) file in
    let new = used_bytes f t (entry_at A i) in
    omega (arith, moves, old, new, was, now)

pub length-written : (offset : ℕ) (p b : List ℕ) → length (written offset p b) ≡ size_after offset (length p) (length b)
length-written offset p b = elim (cases_Bool (length p == 0)) [
  | inl none ↦ ap length (cond-true (length p == 0) b (overwritten offset p b) none)
      ∙ sym (cond-true (length p == 0) (length b) (max (length b) (offset + length p)) none)
  | inr some ↦ ap length (cond-false (length p == 0) b (overwritten offset p b) some) ∙ length-overwritten offset p b
      ∙ sym (cond-false (length p == 0) (length b) (max (length b) (offset + length p)) some)
]

-- what is set of an object
pub set_moves : (A : List Entry) (i : ℕ) (s : Sattr) (t : Time) (size : ℕ) → i < length A →
    (is_some s.size ≡ true → used_by (entry_at A i) ≡ size) →
    used (set A i (entry_set (entry_at A i) s t)) + (if is_some s.size then size else 0) ≡ used A + unwrap_or s.size 0
set_moves A i s t size below was = by_size s.size was (used-set A i (entry_set (entry_at A i) s t) below)
  where
    by_size : (o : Option ℕ) → (is_some o ≡ true → used_by (entry_at A i) ≡ size) →
        used (set A i (entry_set (entry_at A i) (record s { size = o }) t)) + used_by (entry_at A i)
        ≡ used A + used_by (entry_set (entry_at A i) (record s { size = o }) t) →
        used (set A i (entry_set (entry_at A i) (record s { size = o }) t)) + (if is_some o then size else 0)
        ≡ used A + unwrap_or o 0
    by_size None was moves =
        let same = used_attr (set_attr_of (record s { size = None }) t (attr_of (entry_at A i))) (entry_at A i) in
        omega (arith, moves, same)
    by_size (Some n) was moves =
        let before = was refl in
        let now = length-resized n (bytes_of (entry_at A i)) in
        omega (arith, moves, before, now)

-- the same bytes with other times, and at another generation
pub timed_same : (A : List Entry) (i : ℕ) (atime mtime ctime : Time) → i < length A →
    used (set A i (entry_timed atime mtime ctime (entry_at A i))) ≡ used A
timed_same A i atime mtime ctime below =
    let moves = used-set A i (entry_timed atime mtime ctime (entry_at A i)) below in
    let same = used_attr (record (attr_of (entry_at A i)) { atime = atime; mtime = mtime; ctime = ctime })
    (entry_at A i) in
    omega (arith, moves, same)

pub generation_same : (A : List Entry) (i g : ℕ) → i < length A →
    used (set A i (entry_of_generation g (entry_at A i))) ≡ used A
generation_same A i g below =
    let moves = used-set A i (entry_of_generation g (entry_at A i)) below in
    let same : used_by (entry_of_generation g (entry_at A i)) ≡ used_by (entry_at A i) = refl in
    omega (arith, moves, same)

-- NAMES AND OBJECTS

-- a new object
pub add_moves : (A : List Entry) (d i g : ℕ) (row : NameRow) (t : Time) (new : New) (o : Object) → d ≢ i →
    d < length A →
    i < length A → is_dir (entry_at A d) ≡ true → used_by (entry_at A i) ≡ 0 → used_by (entry_of g o) ≡ byte_count new →
    used (set (set A d (with_names (placed row) t (entry_at A d))) i (entry_of g o)) + 0 ≡ used A +
    (512 + byte_count new)
add_moves A d i g row t new o apart d_below i_below dir null bytes =
    let moves = used_twice A d i (with_names (placed row) t (entry_at A d)) (entry_of g o) apart d_below i_below in
    let more = used_placed row t (entry_at A d) dir in
    omega (arith, moves, more, null, bytes)

-- a name more of an object
pub link_moves : (A : List Entry) (d i : ℕ) (row : NameRow) (t : Time) → d ≢ i → d < length A → i < length A →
    is_dir (entry_at A d) ≡ true →
    used (set (set A d (with_names (placed row) t (entry_at A d))) i
    (with_attr (changed_at t (attr_of (entry_at A i))) (entry_at A i))) + 0 ≡ used A + 512
link_moves A d i row t apart d_below i_below dir =
    let new : Entry = with_attr (changed_at t (attr_of (entry_at A i))) (entry_at A i) in
    let moves = used_twice A d i (with_names (placed row) t (entry_at A d)) new apart d_below i_below in
    let more = used_placed row t (entry_at A d) dir in
    let same = used_attr (changed_at t (attr_of (entry_at A i))) (entry_at A i) in
    omega (arith, moves, more, same)

module _ (A : List Entry) (d i : ℕ) (name : List ℕ) (row : NameRow) (t : Time) (apart : d ≢ i) (d_below : d < length A)
    (i_below : i < length A) (dir : is_dir (entry_at A d) ≡ true) (rising : is_rising (names_of (entry_at A d)) ≡ true)
    (found : row_of name (names_of (entry_at A d)) ≡ Some row) where
  drop_both : (new : Entry) →
      used (set (set A d (with_names (without name) t (entry_at A d))) i new) + (512 + used_by (entry_at A i))
      ≡ used A + used_by new
  drop_both new =
      let moves = used_twice A d i (with_names (without name) t (entry_at A d)) new apart d_below i_below in
      let less = used_without name row t (entry_at A d) dir rising found in
      omega (arith, moves, less)

  -- a name of several goes
  pub drop_moves : nat_le (links A i) 1 ≡ false →
      used (set (set A d (with_names (without name) t (entry_at A d))) i (unlinked A i t)) + 512 ≡ used A + 0
  drop_moves more =
      let moves = drop_both (unlinked A i t) in
      let kept : used_by (unlinked A i t) ≡ used_by (entry_at A i) =
      ap (λ b. used_by (if b then nulled (entry_at A i) else with_attr (changed_at t (attr_of (entry_at A i)))
      (entry_at A i))) more
      ∙ used_attr (changed_at t (attr_of (entry_at A i))) (entry_at A i) in
      omega (arith, moves, kept)

  -- the last name goes, and its object
  pub last_moves : nat_le (links A i) 1 ≡ true → (bytes : ℕ) → 512 + used_by (entry_at A i) ≡ bytes →
      used (set (set A d (with_names (without name) t (entry_at A d))) i (unlinked A i t)) + bytes ≡ used A + 0
  last_moves last bytes are =
      let moves = drop_both (unlinked A i t) in
      let gone : used_by (unlinked A i t) ≡ 0 =
      ap (λ b. used_by (if b then nulled (entry_at A i) else with_attr (changed_at t (attr_of (entry_at A i)))
      (entry_at A i))) last
      ∙ (omega arith) in
      omega (arith, moves, gone, are)

-- A NAME THAT MOVES

came_length : (row : NameRow) (rows : List NameRow) → row_of row.name rows ≡ None →
    length (comes row rows) ≡ length rows + 1
came_length row rows none =
    ap (λ l. length (placed row l)) (without_absent row.name rows none) ∙ length-placed row rows

-- within one directory
one_moves : (A : List Entry) (d : ℕ) (name : List ℕ) (old row : NameRow) (t : Time) → d < length A →
    is_dir (entry_at A d) ≡ true → is_rising (names_of (entry_at A d)) ≡ true →
    row_of name (names_of (entry_at A d)) ≡ Some old → row_of row.name (names_of (entry_at A d)) ≡ None →
    used (changed (writes true A d name d row t) A) ≡ used A
one_moves A d name old row t below dir rising found lacks =
    let f : List NameRow → List NameRow = λ l. comes row (without name l) in
    let moves = used-set A d (with_names f t (entry_at A d)) below in
    let parts = used_names f t (entry_at A d) dir in
    let less = length_dropped name (names_of (entry_at A d)) old rising found in
    let more = came_length row (without name (names_of (entry_at A d)))
    (row_of-without_none row.name name (names_of (entry_at A d)) lacks) in
    let now = parts.0 in
    let was = parts.1 in
    omega (arith, moves, now, was, less, more)

-- from one directory to another
two_move : (A : List Entry) (d e : ℕ) (name : List ℕ) (old row : NameRow) (t : Time) → d ≢ e → d < length A →
    e < length A → is_dir (entry_at A d) ≡ true → is_dir (entry_at A e) ≡ true →
    is_rising (names_of (entry_at A d)) ≡ true → row_of name (names_of (entry_at A d)) ≡ Some old →
    row_of row.name (names_of (entry_at A e)) ≡ None → used (changed (writes false A d name e row t) A) ≡ used A
two_move A d e name old row t two d_below e_below d_dir e_dir rising found lacks =
    let moves = used_twice A d e (with_names (without name) t (entry_at A d)) (with_names (comes row) t (entry_at A e))
    two d_below e_below in
    let less = used_without name old t (entry_at A d) d_dir rising found in
    let parts = used_names (comes row) t (entry_at A e) e_dir in
    let more = came_length row (names_of (entry_at A e)) lacks in
    let now = parts.0 in
    let was = parts.1 in
    omega (arith, moves, less, now, was, more)

pub move_same : (A : List Entry) (d e : ℕ) (name : List ℕ) (old row : NameRow) (t : Time) → d < length A →
    e < length A → is_dir (entry_at A d) ≡ true → is_dir (entry_at A e) ≡ true →
    is_rising (names_of (entry_at A d)) ≡ true → row_of name (names_of (entry_at A d)) ≡ Some old →
    row_of row.name (names_of (entry_at A e)) ≡ None → used (changed (rows_move A d name e row t) A) ≡ used A
move_same A d e name old row t d_below e_below d_dir e_dir rising found lacks =
    elim (one_or_not d e) as (λ _. used (changed (rows_move A d name e row t) A) ≡ used A) [
      | inl x ↦ ap used (moved_by true A d name e row t (eq_is d e x))
          ∙ subst (λ e. used (changed (writes true A d name e row t) A) ≡ used A) x
          (one_moves A d name old row t d_below d_dir rising found
          (ap (λ k. row_of row.name (names_of (entry_at A k))) x ∙ lacks))
      | inr two ↦ ap used (moved_by false A d name e row t (eq_not d e two))
          ∙ two_move A d e name old row t two d_below e_below d_dir e_dir rising found lacks
    ]
