-- What a table and a server tell of the array that they stand for: objects by handle, names, and free indexes.
use Rattle.std.proofs.Common.{◌≡◌, ℕ, zero, suc, ◌+◌, ◌-◌, ◌^◌, arith, true, false, cond, Bool, List, [], ◌∷◌, length, Option, Some, None, slice_get, refl, sym, ap, ◌∙◌, subst}
use Rattle.std.specs.Prelude.{◌&&◌, not, ◌==◌, nat_lt, if◌then◌else◌, is_none, unwrap_or, position}
use Rattle.std.specs.List.{prefix_len, position_or_len}
use Rattle.std.specs.Option.{option_and_then, option_map}
use Rattle.nfs2_types.specs.declared.handle.Oid.{Oid}
use Rattle.nfs2_types.specs.Handle.{oid_in}
use Rattle.server_trait.specs.Tree.{Tree}
use Rattle.server_trait.proofs.TreeLaws.{some_none, some_same, and_then_some, slice_get-along}
use Rattle.server_trait.specs.declared.bench.ConfEntry.{ConfEntry}
use Rattle.server_trait.specs.declared.bench.ConfTable.{ConfTable}
use Rattle.abs_model.specs.declared.entry.Entry.{Entry}
use Rattle.abs_model.specs.Objects.{is_null}
use Rattle.abs_model.specs.Array.{entry_at, null_entry, is_named_by, live, can_take, free}
use Rattle.conf_map.specs.declared.table.Located.{Located}
use Rattle.conf_map.specs.Stands.{Stands}
use Rattle.conf_map.specs.Tables.{live_in, located, IsLive}
use Rattle.conf_map.specs.Tallied.{is_free_row}
use Rattle.conf_map.proofs.Frames.{entry_at-is, entry_at-some, handle_of_row, map_some}
use Rattle.conf_map.proofs.LiveRows.{live_object, at_live}

-- LISTS

-- lists of one length end together
pub slice_get-along_none : {X Y : Type 0} (xs : List X) (ys : List Y) (i : ℕ) → length xs ≡ length ys →
    slice_get xs i ≡ None → slice_get ys i ≡ None
slice_get-along_none xs [] i n h = refl
slice_get-along_none [] (y ∷ ys) i n h = absurd (omega arith)
slice_get-along_none (z ∷ xs) (y ∷ ys) zero n h = absurd (let bad : Some z ≡ None = h in cc)
slice_get-along_none (z ∷ xs) (y ∷ ys) (suc i) n h = slice_get-along_none xs ys i (omega arith) h

prefix_len-along : {X Y : Type 0} (p : X → Bool) (q : Y → Bool) (xs : List X) (ys : List Y) → length xs ≡ length ys →
    ((i : ℕ) (x : X) (y : Y) → slice_get xs i ≡ Some x → slice_get ys i ≡ Some y → p x ≡ q y) →
    prefix_len p xs ≡ prefix_len q ys
prefix_len-along p q [] [] n same = refl
prefix_len-along p q [] (y ∷ ys) n same = absurd (omega arith)
prefix_len-along p q (x ∷ xs) [] n same = absurd (omega arith)
prefix_len-along p q (x ∷ xs) (y ∷ ys) n same =
    ap (λ b. cond b (1 + prefix_len p xs) 0) (same 0 x y refl refl)
    ∙ ap (λ n. cond (q y) (1 + n) 0) (prefix_len-along p q xs ys (omega arith) (λ i. same (suc i)))

-- tests that agree along two lists pass first at one place
position-along : {X Y : Type 0} (p : X → Bool) (q : Y → Bool) (xs : List X) (ys : List Y) → length xs ≡ length ys →
    ((i : ℕ) (x : X) (y : Y) → slice_get xs i ≡ Some x → slice_get ys i ≡ Some y → p x ≡ q y) →
    position p xs ≡ position q ys
position-along p q xs ys n same =
    let k = prefix_len-along (λ x. not (p x)) (λ y. not (q y)) xs ys n
    (λ i x y at_x at_y. ap not (same i x y at_x at_y)) in
    (ap (λ k. cond (nat_lt k (length xs)) (Some k) None) k)
    ∙ ap (λ n. cond (nat_lt (position_or_len q ys) n) (Some (position_or_len q ys)) None) n

module _ (s : Option Tree) (table : ConfTable) (A : List Entry) (st : Stands s table A) where
  -- a row is null where its entry is
  pub null_agrees : (i : ℕ) (r : ConfEntry) (e : Entry) → slice_get table.rows.items i ≡ Some r →
      slice_get A i ≡ Some e → is_none r.handle ≡ is_null e
  null_agrees i r e at_r at_e = by_handle r.handle refl
    where
      by_handle : (o : Option (List ℕ)) → r.handle ≡ o → is_none o ≡ is_null e
      by_handle (Some h) is = sym
          (live_object st.tree table.rows.items r e.generation e.object h (st.each i r e at_r at_e).object is)
      by_handle None is = elim (is_null e) as (λ b. is_null e ≡ b → true ≡ b) [
        | true ↦ λ _. refl
        | false ↦ λ l.
            let k = at_live s table A st i (ap is_null (entry_at-some A i e at_e) ∙ l) in
            absurd (some_none (ap (λ (r : ConfEntry). r.handle) (some_same at_r k.3.is_row) ∙ k.3.is_handle) is)
      ] refl

  -- FREE INDEXES

  pub free_agrees : position is_free_row table.rows.items ≡ free A
  free_agrees = position-along is_free_row can_take table.rows.items A st.size
      (λ i r e at_r at_e. ap (λ b. b && nat_lt r.generation (2 ^ 32 - 1)) (null_agrees i r e at_r at_e)
      ∙ ap (λ g. is_null e && nat_lt g (2 ^ 32 - 1)) (st.each i r e at_r at_e).generation)

  -- HANDLES

  named_agrees : (o : Oid) → (if is_named_by o.generation (entry_at A o.index) then Some o.index else None) ≡ option_map
      (λ (x : List ℕ). o.index) (live_in table.rows.items o)
  named_agrees o = by_row (slice_get table.rows.items o.index) refl
    where
      in_row : (b : Bool) (h : Option (List ℕ)) → (if not (is_none h) && b then Some o.index else None) ≡ option_map
          (λ (x : List ℕ). o.index) (if b then h else None)
      in_row true None = refl
      in_row false None = refl
      in_row true (Some h) = refl
      in_row false (Some h) = refl

      by_row : (r : Option ConfEntry) → slice_get table.rows.items o.index ≡ r →
          (if is_named_by o.generation (entry_at A o.index) then Some o.index else None) ≡ option_map
          (λ (x : List ℕ). o.index) (live_in table.rows.items o)
      by_row None none =
          let past : entry_at A o.index ≡ null_entry = entry_at-is A o.index
          ∙ ap (λ e. unwrap_or e null_entry) (slice_get-along_none table.rows.items A o.index st.size none) in
          ap (λ e. if is_named_by o.generation e then Some o.index else None) past
          ∙ sym (ap (λ r. option_map (λ (x : List ℕ). o.index)
          (option_and_then (λ (r : ConfEntry). if r.generation == o.generation then r.handle else None) r)) none)
      by_row (Some r) at_r =
          let e = slice_get-along table.rows.items A o.index r st.size at_r in
          let same = (st.each o.index r e.0 at_r e.1).generation in
          ap (λ e. if is_named_by o.generation e then Some o.index else None) (entry_at-some A o.index e.0 e.1)
          ∙ ap (λ b. if not b && e.0.generation == o.generation then Some o.index else None)
          (sym (null_agrees o.index r e.0 at_r e.1))
          ∙ ap (λ g. if not (is_none r.handle) && g == o.generation then Some o.index else None) (sym same)
          ∙ in_row (r.generation == o.generation) r.handle
          ∙ sym (ap (λ r. option_map (λ (x : List ℕ). o.index)
          (option_and_then (λ (r : ConfEntry). if r.generation == o.generation then r.handle else None) r)) at_r)

  -- a handle names the object whose row the table has for it
  pub live_agrees : (h : List ℕ) → live A h ≡ option_map (λ (l : Located). l.index) (located table.rows.items h)
  live_agrees h = by_oid (oid_in h)
    where
      mapped : (o : Oid) (x : Option (List ℕ)) → option_map (λ (x : List ℕ). o.index) x ≡ option_map
          (λ (l : Located). l.index) (option_map (λ x. record { index = o.index; handle = x }) x)
      mapped o None = refl
      mapped o (Some x) = refl

      by_oid : (o : Option Oid) →
          option_and_then (λ o. if is_named_by o.generation (entry_at A o.index) then Some o.index else None) o
          ≡ option_map (λ (l : Located). l.index)
          (option_and_then (λ o. option_map (λ x. record { index = o.index; handle = x })
          (live_in table.rows.items o)) o)
      by_oid None = refl
      by_oid (Some o) = named_agrees o ∙ mapped o (live_in table.rows.items o)

-- what is located is live
pub located_live : (rows : List ConfEntry) (h : List ℕ) (l : Located) → located rows h ≡ Some l → IsLive rows l
located_live rows h l is =
    let o = and_then_some
    (λ (o : Oid). option_map (λ (x : List ℕ). let l : Located = record { index = o.index; handle = x } in l)
    (live_in rows o)) (oid_in h) l is in
    let x = map_some (λ (x : List ℕ). let l : Located = record { index = o.0.index; handle = x } in l)
    (live_in rows o.0) l o.2 in
    let r = and_then_some (λ (r : ConfEntry). if r.generation == o.0.generation then r.handle else None)
    (slice_get rows o.0.index) x.0 x.1 in
    subst (IsLive rows) x.2
    (handle_of_row rows o.0.index r.0 r.1 ∙ here (r.0.generation == o.0.generation) r.0.handle x.0 r.2)
  where
    here : (b : Bool) (o : Option (List ℕ)) (x : List ℕ) → (if b then o else None) ≡ Some x → o ≡ Some x
    here true o x is = is
    here false o x is = absurd (let bad : None ≡ Some x = is in cc)
