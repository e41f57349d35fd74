-- What was found is put into the table, and tree and table stand for the array again.
use Rattle.std.proofs.Common.{Err, ◌≡◌, ◌<◌, ◌^◌, ◌-◌, arith, ℕ, true, false, List, Option, Some, None, IsSome, is_some, length, slice_get, refl, sym, ap, ◌∙◌}
use Rattle.std.specs.Prelude.{◌&&◌, nat_lt, is_none}
use Rattle.std.specs.Option.{option_map}
use Rattle.server_trait.specs.Tree.{Tree, Node, Server, node_at}
use Rattle.server_trait.proofs.SoftLaws.{some_of}
use Rattle.server_trait.proofs.TreeLaws.{some_none, some_same, slice_get-along}
use Rattle.server_trait.specs.declared.bench.ConfEntry.{ConfEntry}
use Rattle.server_trait.specs.declared.bench.ConfTable.{ConfTable}
use Rattle.abs_model.specs.declared.entry.Entry.{Entry}
use Rattle.abs_model.specs.Objects.{is_null}
use Rattle.abs_model.specs.Array.{entry_at}
use Rattle.abs_model.specs.declared.entry.Object.{Object}
use Rattle.abs_model.specs.declared.entry.Object.TheVariants.{Null, File, Dir, Link}
use Rattle.nfs2_types.specs.declared.Limits.{Limits}
use Rattle.server_trait.specs.Calls.{Reboot, Rebooted}
use Rattle.server_trait.specs.Step.{IsBroken, Outcome}
use Rattle.server_trait.specs.declared.server.SrvErr.{SrvErr}
use Rattle.server_trait.specs.declared.server.SrvErr.TheVariants.{Stale, NoEnt, Exists, NotDir, WrongKind, NotEmpty, Subtree, Refused, Full, Fault, NoMemory}
use Rattle.abs_model.specs.Valid.{Valid}
use Rattle.conf_map.specs.Stands.{Stands, StandValid, StandsValid, IsObject}
use Rattle.conf_map.specs.Tallied.{Tallied}
use Rattle.conf_map.specs.Tables.{IsInStep, emptied}
use Rattle.conf_map.proofs.Frames.{handle_of_row}
use Rattle.conf_map.proofs.LiveRows.{at_row, is_live}
use Rattle.restart.specs.Rows.{AreApart, AreRelinked, handle_of}
use Rattle.restart.specs.Walk.{Restarts, is_found, IsGoing}
use Rattle.restart.specs.declared.found.Found.{Found}
use Rattle.restart.proofs.MovedRows.{moved_row, same_row}
use Rattle.restart.proofs.Rebooted.{stands_rebooted}

module _ (s : Option Tree) (table : ConfTable) (A : List Entry) (k : Restarts s table A) (f : Found) (g : IsGoing table k.new A f) where
  -- no handle was found twice
  pub found_apart : AreApart f.handles.items
  found_apart i j q at_i at_j =
      let x = g.right i q at_i in
      let y = g.right j q at_j in
      let a = moved_row s table A k i x.0 x.1 in
      let b = moved_row s table A k j y.0 y.1 in
      let node : a.node' ≡ b.node' = some_same a.now (ap (node_at k.now) (sym x.2 ∙ y.2) ∙ b.now) in
      same_row s table A k i j x.0 y.0 a b (a.number ∙ ap (λ (n : Node). n.number) node ∙ sym b.number)

  module _ (all : (i : ℕ) → is_null (entry_at A i) ≡ false → is_found f i ≡ true) where
    -- a row's new handle
    new_handle : (i : ℕ) (r : ConfEntry) → slice_get table.rows.items i ≡ Some r → handle_of f.handles.items i ≡ option_map k.new r.handle
    new_handle i r at = by_handle r.handle refl
      where
        by_handle : (o : Option (List ℕ)) → r.handle ≡ o → handle_of f.handles.items i ≡ option_map k.new o
        by_handle (Some h) is =
            let n = at_row k.before table A k.stands i r h at is in
            let q = some_of (handle_of f.handles.items i) (all i (is_live k.before table A k.stands i h r n.0 n.1 n.2)) in
            let x = g.right i q.0 q.1 in
            q.1 ∙ ap Some (x.2 ∙ ap k.new (some_same x.1 (handle_of_row table.rows.items i r at ∙ is)))
        by_handle None is = none (handle_of f.handles.items i) refl
          where
            none : (o : Option (List ℕ)) → handle_of f.handles.items i ≡ o → handle_of f.handles.items i ≡ None
            none None e = e
            none (Some q) e = let x = g.right i q e in absurd (some_none x.1 (handle_of_row table.rows.items i r at ∙ is))

    pub relinked : (cleared table' : ConfTable) → length cleared.rows.items ≡ length table.rows.items → ((i : ℕ) (r : ConfEntry) → slice_get table.rows.items i ≡ Some r → slice_get cleared.rows.items i ≡ Some (emptied r)) →
        length table'.rows.items ≡ length cleared.rows.items → ((i : ℕ) (r : ConfEntry) → slice_get cleared.rows.items i ≡ Some r → slice_get table'.rows.items i ≡ Some (record r { handle = handle_of f.handles.items i })) →
        IsInStep table' → (s' : Option Tree) → s' ≡ s → Stands s' table' A
    relinked cleared table' size_c rows_c size rows in_step s' same =
        stands_rebooted k.before s' table table' A k.now k.stands (record {
          new = k.new;
          moved = k.moved;
          size = size ∙ size_c;
          rows = λ i r at. rows i (emptied r) (rows_c i r at) ∙ ap (λ (h : Option (List ℕ)). Some (let x : ConfEntry = record r { handle = h } in x)) (new_handle i r at);
          by_handle = in_step;
        }) (same ∙ k.has_tree)

-- nothing but handles has changed
pub are_relinked : (table cleared table' : ConfTable) (handles : List (Option (List ℕ))) → length cleared.rows.items ≡ length table.rows.items →
    ((i : ℕ) (r : ConfEntry) → slice_get table.rows.items i ≡ Some r → slice_get cleared.rows.items i ≡ Some (emptied r)) → cleared.used ≡ table.used →
    length table'.rows.items ≡ length cleared.rows.items →
    ((i : ℕ) (r : ConfEntry) → slice_get cleared.rows.items i ≡ Some r → slice_get table'.rows.items i ≡ Some (record r { handle = handle_of handles i })) →
    table'.used ≡ cleared.used → table'.lowest ≡ table.lowest → AreRelinked table table'
are_relinked table cleared table' handles size_c rows_c used_c size rows used lowest = record {
  size = size ∙ size_c;
  rows = λ i r at. (handle_of handles i, rows i (emptied r) (rows_c i r at));
  used = used ∙ used_c;
  lowest = lowest;
}

-- a row is null where its entry is
null_object : (t : Tree) (rows : List ConfEntry) (r : ConfEntry) (g : ℕ) (o : Object) → IsObject t rows r o → is_none r.handle ≡ is_null (record { generation = g; object = o })
null_object t rows r g Null k = ap is_none k
null_object t rows r g (File a b) k = ap is_none k.is_handle
null_object t rows r g (Link a b) k = ap is_none k.is_handle
null_object t rows r g (Dir a b) k = ap is_none k.is_handle

-- what a table counts is as it was
tallied_relinked : (s s' : Option Tree) (table table' : ConfTable) (A : List Entry) → Stands s table A → Stands s' table' A → AreRelinked table table' → Tallied table A → Tallied table' A
tallied_relinked s s' table table' A old new k t = record {
  used = k.used ∙ t.used;
  none_below = λ i r' low at.
      let r = slice_get-along table'.rows.items table.rows.items i r' k.size at in
      let e = slice_get-along table.rows.items A i r.0 old.size r.1 in
      let is : r' ≡ record r.0 { handle = (k.rows i r.0 r.1).0 } = some_same at (k.rows i r.0 r.1).1 in
      let was = null_object old.tree table.rows.items r.0 e.0.generation e.0.object (old.each i r.0 e.0 r.1 e.1).object in
      let now = null_object new.tree table'.rows.items r' e.0.generation e.0.object (new.each i r' e.0 at e.1).object in
      let none : is_none r'.handle ≡ is_none r.0.handle = now ∙ sym was in
      let generation : r'.generation ≡ r.0.generation = ap (λ (r : ConfEntry). r.generation) is in
      ap (λ b. b && nat_lt r'.generation (2 ^ 32 - 1)) none ∙ ap (λ g. is_none r.0.handle && nat_lt g (2 ^ 32 - 1)) generation
      ∙ t.none_below i r.0 (let same = k.lowest in omega (arith, low, same)) r.1;
}

-- where no other error applies the server failed, or memory was wanting
broken_of : {T : Type 0} (done : T → Option Tree → Type 0) (t : Tree) (e : SrvErr) (after : Option Tree) → Outcome done (λ _. ⊥) t (Err e) after → IsBroken e
broken_of done t Fault after k = tt
broken_of done t NoMemory after k = tt
broken_of done t Stale after k = absurd k.0
broken_of done t NoEnt after k = absurd k.0
broken_of done t Exists after k = absurd k.0
broken_of done t NotDir after k = absurd k.0
broken_of done t WrongKind after k = absurd k.0
broken_of done t NotEmpty after k = absurd k.0
broken_of done t Subtree after k = absurd k.0
broken_of done t Refused after k = absurd k.0
broken_of done t Full after k = absurd k.0

pub reboot_broken : (old new : Server) (e : SrvErr) → IsSome old.tree → Reboot old (Err e) new → IsBroken e
reboot_broken old new e has r = let t = some_of old.tree has in broken_of {T = Unit {0}} (λ _. Rebooted t.0) t.0 e new.tree (r.tree t.0 t.1)

-- a server that stands for an array has a tree
pub stands_tree : (s : Option Tree) (table : ConfTable) (A : List Entry) → Stands s table A → IsSome s
stands_tree s table A st = ap is_some st.has_tree

-- after a reboot there is what a walk asks for
pub restarted : (limits : Limits) (s s' : Option Tree) (table : ConfTable) (A : List Entry) → Valid limits A → (st : Stands s table A) → Rebooted st.tree s' → Restarts s' table A
restarted limits s s' table A valid st r = record { limits = limits; valid = valid; before = s; stands = st; now = r.tree; has_tree = r.has_tree; new = r.new; moved = r.moved }

-- and they stand for it again
pub stands_again : (limits : Limits) (s s' : Option Tree) (table table' : ConfTable) (A : List Entry) → StandsValid limits s table A → Stands s' table' A → AreRelinked table table' → StandsValid limits s' table' A
stands_again limits s s' table table' A old new k = record {
  valid = old.valid;
  stands = new;
  tallied = tallied_relinked s s' table table' A old.stands new k old.tallied;
}

-- a service has few rows
pub few_rows : (s : Option Tree) (table : ConfTable) (A : List Entry) → StandValid s table A → length table.rows.items < 2 ^ 32
few_rows s table A st =
    let size = st.stands.size in
    let n = st.valid.size in
    let few = st.within.1 in
    omega (arith, size, n, few)
