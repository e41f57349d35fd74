-- A file that has just begun gets its bytes.
use Rattle.std.proofs.Common.{◌≡◌, ◌≤◌, ◌<◌, ◌+◌, ℕ, zero, suc, List, [], ◌∷◌, Option, Some, None, IsSomeAnd, length, slice_get, max, refl, sym, ap, ◌∙◌, subst, arith, rules}
use Rattle.std.specs.Prelude.{set}
use Rattle.std.specs.Option.{option_and_then}
use Rattle.std.proofs.lemmas.List.{nil_from_length}
use Rattle.nfs2_types.specs.Bytes.{overwritten}
use Rattle.server_trait.specs.Tree.{Tree, Server, Node, bytes_at, bytes_in, with_bytes, edited}
use Rattle.server_trait.proofs.TreeLaws.{some_and, is_some_and, some_none, some_same, slice_get-along}
use Rattle.server_trait.specs.declared.server.ServerLimits.{ServerLimits}
use Rattle.server_trait.specs.declared.bench.ConfEntry.{ConfEntry}
use Rattle.server_trait.specs.declared.bench.ConfTable.{ConfTable}
use Rattle.abs_model.specs.declared.entry.NameRow.{NameRow}
use Rattle.abs_model.specs.declared.entry.Attr.{Attr}
use Rattle.abs_model.specs.declared.entry.Object.{Object}
use Rattle.abs_model.specs.declared.entry.Object.TheVariants.{Null, File, Dir, Link}
use Rattle.abs_model.specs.declared.entry.Entry.{Entry}
use Rattle.abs_model.specs.Objects.{zero_attr}
use Rattle.conf_map.specs.Stands.{handle_at}
use Rattle.conf_map.proofs.Frames.{handle_of_row}
use Rattle.node_changes.specs.Puts.{CanHold}
use Rattle.staging.specs.Fill.{CanFill, file_bytes, filled_at}
use Rattle.staging.specs.Forms.{begun, whole}
use Rattle.staging.specs.Staged.{Staged, StagedAt}
use Rattle.staging.proofs.Contents.{bytes_put}

-- bytes over none
all_written : (bytes : List ℕ) → overwritten 0 bytes [] ≡ bytes
all_written bytes = search rules

-- what stands at an index is put there again
same_set : {X : Type 0} (xs : List X) (i : ℕ) (x : X) → slice_get xs i ≡ Some x → set xs i x ≡ xs
same_set [] i x at = refl
same_set (y ∷ xs) zero x at = ap (λ z. z ∷ xs) (sym (some_same {o = Some y} refl at))
same_set (y ∷ xs) (suc i) x at = ap (λ zs. y ∷ zs) (same_set xs i x at)

-- what has no bytes is whole as it begins
pub begun_whole : (e : Entry) → length (file_bytes e) ≡ 0 → begun e ≡ whole e
begun_whole e none = by_object e.object none
  where
    by_object : (o : Object) → length (file_bytes (record { generation = e.generation; object = o })) ≡ 0 →
        begun (record { generation = e.generation; object = o }) ≡ whole (record { generation = e.generation; object = o })
    by_object Null none = refl
    by_object (Dir a names) none = refl
    by_object (Link a x) none = refl
    by_object (File a b) none =
        ap (λ b. record { generation = e.generation; object = File zero_attr b }) (sym (nil_from_length b none))

-- what has bytes is a file
pub record IsFile (e : Entry) : Type 0 where
  pub attr : Attr
  pub is : e.object ≡ File attr (file_bytes e)

file_of : (e : Entry) → 0 < length (file_bytes e) → IsFile e
file_of e some = by_object e.object refl some
  where
    by_object : (o : Object) → e.object ≡ o → 0 < length (file_bytes (record { generation = e.generation; object = o })) → IsFile e
    by_object Null is some = absurd (omega (arith, some))
    by_object (Dir a names) is some = absurd (omega (arith, some))
    by_object (Link a x) is some = absurd (omega (arith, some))
    by_object (File a b) is some = record {
      attr = a;
      is = is ∙ ap (File a) (sym (ap (λ o. file_bytes (record { generation = e.generation; object = o })) is));
    }

module _ (t : Tree) (limits : ServerLimits) (area : List ℕ) (table : ConfTable) (A : List Entry) (S : List NameRow) (i : ℕ) (e : Entry)
    (c : CanFill t limits area table A S i e) where
  -- without bytes nothing is to be done
  pub filled_none : length (file_bytes e) ≡ 0 → Staged t area table (filled_at A i e) S
  filled_none none = subst (λ A. Staged t area table A S)
      (sym (ap (set A i) (sym (begun_whole e none)) ∙ same_set A i (begun e) c.begun)) c.staged

  module _ (some : 0 < length (file_bytes e)) where
    f : IsFile e
    f = file_of e some

    is_entry : slice_get A i ≡ Some (record { generation = e.generation; object = File zero_attr [] })
    is_entry = c.begun ∙ ap (λ o. Some (begun (record { generation = e.generation; object = o }))) f.is

    is_whole : whole e ≡ record { generation = e.generation; object = File zero_attr (file_bytes e) }
    is_whole = ap (λ o. whole (record { generation = e.generation; object = o })) f.is

    row : (r : ConfEntry) × (slice_get table.rows.items i ≡ Some r)
    row = let r = slice_get-along A table.rows.items i (record { generation = e.generation; object = File zero_attr [] }) (sym c.staged.size) is_entry in (r.0, r.1)

    pub fill_handle : (h : List ℕ) × (handle_at table.rows.items i ≡ Some h) × (bytes_at t h ≡ Some [])
    fill_handle =
        let k = c.staged.each i row.0 (record { generation = e.generation; object = File zero_attr [] }) row.1 is_entry in
        let o = k.object in (
          o.handle,
          handle_of_row table.rows.items i row.0 row.1 ∙ o.is_handle,
          ap (option_and_then (λ (n : Node). bytes_in n.content)) o.is_node ∙ ap bytes_in o.content,
        )

    pub filled_there : (h : List ℕ) → handle_at table.rows.items i ≡ Some h →
        Staged (edited t h (with_bytes (overwritten 0 (file_bytes e)))) area table (filled_at A i e) S
    filled_there h at = subst (λ x. Staged (edited t h (with_bytes (overwritten 0 (file_bytes e)))) area table (set A i x) S) (sym is_whole)
        (bytes_put t area table A S c.staged i h at e.generation zero_attr [] (file_bytes e) is_entry (overwritten 0 (file_bytes e)) (all_written (file_bytes e)))

-- OF WHAT A SERVER HAS

module _ (s : Server) (area : List ℕ) (table : ConfTable) (i : ℕ) (e : Entry)
    (can : IsSomeAnd s.tree (λ t. (A : List Entry) × (S : List NameRow) × CanFill t s.limits area table A S i e)) (some : 0 < length (file_bytes e)) where
  known : (t : Tree) × (s.tree ≡ Some t) × ((A : List Entry) × (S : List NameRow) × CanFill t s.limits area table A S i e)
  known = some_and s.tree (λ t. (A : List Entry) × (S : List NameRow) × CanFill t s.limits area table A S i e) can

  pub can_hold : (h bytes : List ℕ) → bytes ≡ file_bytes e → Some h ≡ handle_at table.rows.items i →
      (b : List ℕ) × (CanHold s h b (max (length b) (0 + length bytes))) × (0 ≤ length b)
  can_hold h bytes same at =
      let c = known.2.2 in
      let f = fill_handle known.0 s.limits area table known.2.0 known.2.1 i e c some in
      let size : max 0 (0 + length bytes) ≡ length (file_bytes e) = (let l = ap length same in omega (arith, l)) in (
        [],
        record {
          tree = known.0;
          has_tree = known.1;
          has_bytes = ap (bytes_at known.0) (some_same (sym at) f.1) ∙ f.2;
          room = (let a = c.room.0 in a, let b = c.room.1 in omega (arith, b, size));
          small = (let b = c.small in omega (arith, b, size));
        },
        omega arith,
      )

pub fill_never : {X : Type 0} (t : Tree) (limits : ServerLimits) (area : List ℕ) (table : ConfTable) (A : List Entry) (S : List NameRow) (i : ℕ) (e : Entry) →
    CanFill t limits area table A S i e → 0 < length (file_bytes e) → None ≡ handle_at table.rows.items i → X
fill_never t limits area table A S i e c some none =
    let f = fill_handle t limits area table A S i e c some in absurd (some_none f.1 (sym none))

pub fill_after : (t : Tree) (limits : ServerLimits) (area : List ℕ) (table : ConfTable) (A : List Entry) (S : List NameRow) (i : ℕ) (e : Entry) →
    CanFill t limits area table A S i e → 0 < length (file_bytes e) → (h bytes : List ℕ) → bytes ≡ file_bytes e → Some h ≡ handle_at table.rows.items i →
    (s : Option Tree) → s ≡ Some (edited t h (with_bytes (overwritten 0 bytes))) → StagedAt s area table (filled_at A i e) S
fill_after t limits area table A S i e c some h bytes same at s after =
    is_some_and (λ t. Staged t area table (filled_at A i e) S) (after ∙ ap (λ b. Some (edited t h (with_bytes (overwritten 0 b)))) same)
    (filled_there t limits area table A S i e c some h (sym at))
