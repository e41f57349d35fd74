-- Rows under other parents stand for the same objects.
use Rattle.std.proofs.Common.{◌≡◌, inl, inr, ℕ, List, Option, Some, None, IsSomeAnd, length, slice_get, slice_set, refl, sym, ap, ◌∙◌}
use Rattle.std.specs.Ordering.{nat_cmp}
use Rattle.std.specs.Cmp.Lexicographic.{slice_cmp}
use Rattle.std.specs.BTreeMap as ordered
use Rattle.std.proofs.lemmas.List.{length-set}
use Rattle.server_trait.specs.Tree.{Tree, Content, names_at, names_in}
use Rattle.server_trait.proofs.TreeLaws.{some_and, is_some_and, some_none, some_same, one_or_not, slice_get-along}
use Rattle.server_trait.specs.declared.bench.ConfEntry.{ConfEntry}
use Rattle.server_trait.specs.declared.bench.ConfTable.{ConfTable}
use Rattle.abs_model.specs.declared.entry.Attr.{Attr}
use Rattle.abs_model.specs.declared.entry.NameRow.{NameRow}
use Rattle.abs_model.specs.declared.entry.Object.{Object}
use Rattle.abs_model.specs.declared.entry.Object.TheVariants.{Null, File, Dir, Link}
use Rattle.abs_model.specs.declared.entry.Entry.{Entry}
use Rattle.conf_map.specs.Stands.{handle_at, SameNames, SameContent, Holds, IsObject}
use Rattle.conf_map.specs.Tables.{IsInStep, index_in}
use Rattle.conf_map.proofs.Frames.{handle_of_row}
use Rattle.conf_map.proofs.InStep.{slice_get-set_same, slice_get-set_other}
use Rattle.staging.specs.Parents.{OnlyParents, under}
use Rattle.staging.specs.Staged.{Staged, StagedAt}
use Rattle.staging.proofs.Frames.{names_frame, sited_kept}

pub only_same : (table : ConfTable) → OnlyParents table table
only_same table = record { size = refl; rows = λ i r at. (r, at, refl); by_handle = refl }

module _ (old new : ConfTable) (k : OnlyParents old new) where
  -- each row is there again
  was_row : (i : ℕ) (r : ConfEntry) → slice_get old.rows.items i ≡ Some r → (r' : ConfEntry) × (slice_get new.rows.items i ≡ Some r') × (r' ≡ under r'.parent r)
  was_row i r at =
      let n = slice_get-along old.rows.items new.rows.items i r (sym k.size) at in
      let b = k.rows i n.0 n.1 in
      (n.0, n.1, b.2 ∙ ap (under n.0.parent) (some_same b.1 at))

  same_handles : (i : ℕ) → handle_at new.rows.items i ≡ handle_at old.rows.items i
  same_handles i = by_row (slice_get new.rows.items i) refl
    where
      by_row : (o : Option ConfEntry) → slice_get new.rows.items i ≡ o → handle_at new.rows.items i ≡ handle_at old.rows.items i
      by_row (Some r) at =
          let b = k.rows i r at in
          handle_of_row new.rows.items i r at ∙ ap (λ (r : ConfEntry). r.handle) b.2 ∙ sym (handle_of_row old.rows.items i b.0 b.1)
      by_row None at = by_old (slice_get old.rows.items i) refl
        where
          by_old : (o : Option ConfEntry) → slice_get old.rows.items i ≡ o → handle_at new.rows.items i ≡ handle_at old.rows.items i
          by_old (Some r) is = absurd (let n = was_row i r is in some_none n.1 at)
          by_old None is = ap (λ (o : Option ConfEntry). elim o as (λ _. Option (List ℕ)) [ None ↦ None | Some r ↦ r.handle ]) (at ∙ sym is)

  in_step : IsInStep old → IsInStep new
  in_step s h i =
      let m : index_in new h ≡ index_in old h = ap (λ m. ordered.get (slice_cmp nat_cmp) m h) k.by_handle in
      ((λ e. same_handles i ∙ (s h i).0 (sym m ∙ e)), (λ e. m ∙ (s h i).1 (sym (same_handles i) ∙ e)))

  module _ (t : Tree) (r r' : ConfEntry) (is : r' ≡ under r'.parent r) where
    holds_still : (o : Object) (a : Attr) → Holds t old.rows.items r o a → ((c : Content) → SameContent old.rows.items o c → SameContent new.rows.items o c) → Holds t new.rows.items r' o a
    holds_still o a h content = record {
      handle = h.handle;
      node = h.node;
      is_handle = ap (λ (r : ConfEntry). r.handle) is ∙ h.is_handle;
      is_node = h.is_node;
      attr = record {
        number = ap (λ (r : ConfEntry). r.number) is ∙ h.attr.number;
        mode = h.attr.mode;
        uid = h.attr.uid;
        gid = h.attr.gid;
        atime = ap (λ (r : ConfEntry). r.atime) is ∙ h.attr.atime;
        mtime = ap (λ (r : ConfEntry). r.mtime) is ∙ h.attr.mtime;
        ctime = ap (λ (r : ConfEntry). r.ctime) is ∙ h.attr.ctime;
      };
      content = content h.node.content h.content;
    }

    object_still : (o : Object) → IsObject t old.rows.items r o → IsObject t new.rows.items r' o
    object_still Null h = ap (λ (r : ConfEntry). r.handle) is ∙ h
    object_still (File a b) h = holds_still (File a b) a h (λ c s. s)
    object_still (Link a x) h = holds_still (Link a x) a h (λ c s. s)
    object_still (Dir a names) h = holds_still (Dir a names) a h (same_names names)
      where
        same_names : (names : List NameRow) (c : Content) → IsSomeAnd (names_in c) (SameNames old.rows.items names) → IsSomeAnd (names_in c) (SameNames new.rows.items names)
        same_names names c s =
            let m = some_and (names_in c) (SameNames old.rows.items names) s in
            is_some_and (SameNames new.rows.items names) m.1 (names_frame old.rows.items new.rows.items names m.0 (λ x row _ q at. same_handles row.index ∙ at) m.2)

  pub still_staged : (t : Tree) (area : List ℕ) (A : List Entry) (S : List NameRow) → Staged t area old A S → Staged t area new A S
  still_staged t area A S st = record {
    sited = sited_kept t t area old new S S st.sited refl refl
        (let m = some_and (names_at t area) (SameNames old.rows.items S) st.sited.staging_has in
        is_some_and (SameNames new.rows.items S) m.1 (names_frame old.rows.items new.rows.items S m.0 (λ x row _ q at. same_handles row.index ∙ at) m.2))
        (λ q. refl) same_handles (in_step st.sited.in_step);
    size = k.size ∙ st.size;
    each = λ i r e is_r is_e.
        let b = k.rows i r is_r in
        let h = st.each i b.0 e b.1 is_e in
        record { generation = ap (λ (r : ConfEntry). r.generation) b.2 ∙ h.generation; object = object_still t b.0 r b.2 e.object h.object };
  }

  -- one more row comes under a parent
  pub only_more : (last : ConfTable) (i p : ℕ) (r : ConfEntry) → slice_get new.rows.items i ≡ Some r →
      last.rows.items ≡ slice_set new.rows.items i (under p r) → last.by_handle ≡ new.by_handle → OnlyParents old last
  only_more last i p r at set_is map_is = record {
    size = ap length set_is ∙ length-set new.rows.items i (under p r) ∙ k.size;
    rows = λ j x at_j. elim (one_or_not j i) as (λ _. (before : ConfEntry) × (slice_get old.rows.items j ≡ Some before) × (x ≡ under x.parent before)) [
      | inl e ↦
          let b = k.rows i r at in
          let is_x : x ≡ under p r = some_same at_j (ap (λ j. slice_get last.rows.items j) e ∙ ap (λ l. slice_get l i) set_is ∙ slice_get-set_same new.rows.items i (under p r) r at) in
          (b.0, ap (λ j. slice_get old.rows.items j) e ∙ b.1, is_x ∙ ap (under p) b.2 ∙ ap (λ (y : ConfEntry). under y.parent b.0) (sym is_x))
      | inr ne ↦ k.rows j x (sym (ap (λ l. slice_get l j) set_is ∙ slice_get-set_other new.rows.items i j (under p r) ne) ∙ at_j)
    ];
    by_handle = map_is ∙ k.by_handle;
  }

pub still_staged_at : (old new : ConfTable) → OnlyParents old new → (s : Option Tree) (area : List ℕ) (A : List Entry) (S : List NameRow) → StagedAt s area old A S → StagedAt s area new A S
still_staged_at old new k s area A S at =
    let x = some_and s (λ t. Staged t area old A S) at in
    is_some_and (λ t. Staged t area new A S) x.1 (still_staged old new k x.0 area A S x.2)
