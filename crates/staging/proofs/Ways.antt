-- Ways down the tree are ways in any array that has the names that are there; and none leads to the staging directory.
use Rattle.std.proofs.Common.{◌≡◌, ℕ, zero, suc, List, Option, Some, None, slice_get, refl, ap, ◌∙◌, subst}
use Rattle.server_trait.specs.Tree.{Tree, Node, Names, names_in, target}
use Rattle.server_trait.specs.Step.{LeadsIn, IsAtOrBelow}
use Rattle.server_trait.proofs.TreeLaws.{some_and, some_none, some_same, and_then_some, slice_get-along, target_found}
use Rattle.server_trait.specs.declared.bench.ConfEntry.{ConfEntry}
use Rattle.server_trait.specs.declared.bench.ConfTable.{ConfTable}
use Rattle.abs_model.specs.declared.entry.NameRow.{NameRow}
use Rattle.abs_model.specs.declared.entry.Object.{Object}
use Rattle.abs_model.specs.declared.entry.Object.TheVariants.{Null, File, Dir, Link}
use Rattle.abs_model.specs.declared.entry.Entry.{Entry}
use Rattle.abs_model.specs.Objects.{names_of, row_of}
use Rattle.abs_model.specs.Array.{entry_at}
use Rattle.abs_model.specs.Valid.{Walk}
use Rattle.abs_model.proofs.Parents.{found_leads}
use Rattle.conf_map.specs.Stands.{handle_at, Leads, SameNames, SameContent}
use Rattle.conf_map.proofs.Frames.{entry_at-some}
use Rattle.conf_map.proofs.LiveRows.{object_holds}
use Rattle.staging.specs.Place.{AreAmong}
use Rattle.staging.specs.Staged.{Staged}

leads_from : (rows : List ConfEntry) (h : List ℕ) (o : Option NameRow) → Leads rows (Some h) o → (row : NameRow) × (o ≡ Some row) × (handle_at rows row.index ≡ Some h)
leads_from rows h None l = absurd l
leads_from rows h (Some row) l = (row, refl, l)

-- the names of a row's node are those of its entry
names_back : (rows : List ConfEntry) (g : ℕ) (o : Object) (n : Node) (m : Names) → SameContent rows o n.content → names_in n.content ≡ Some m → SameNames rows (names_of (record { generation = g; object = o })) m
names_back rows g Null n m c is = absurd c
names_back rows g (File a b) n m c is = absurd (some_none is (ap names_in c))
names_back rows g (Link a b) n m c is = absurd (some_none is (ap names_in c))
names_back rows g (Dir a names) n m c is = let k = some_and (names_in n.content) (SameNames rows names) c in subst (SameNames rows names) (some_same k.1 is) k.2

module _ (t : Tree) (area : List ℕ) (table : ConfTable) (A : List Entry) (S : List NameRow) (st : Staged t area table A S) where
  -- a name below a row's handle is one of its entry, and leads to a row
  pub led : (i : ℕ) (h name x : List ℕ) → handle_at table.rows.items i ≡ Some h → target t h name ≡ Some x →
      (row : NameRow) × (row_of name (names_of (entry_at A i)) ≡ Some row) × (handle_at table.rows.items row.index ≡ Some x)
  led i h name x at is =
      let r = and_then_some (λ (r : ConfEntry). r.handle) (slice_get table.rows.items i) h at in
      let e = slice_get-along table.rows.items A i r.0 st.size r.1 in
      let f = target_found t h name x is in
      let holds = object_holds t table.rows.items r.0 e.0.generation e.0.object h f.node (st.each i r.0 e.0 r.1 e.1).object r.2 f.is_node in
      let same = names_back table.rows.items e.0.generation e.0.object f.node f.names holds.1 f.is_dir name in
      let row = leads_from table.rows.items x (row_of name (names_of e.0)) (subst (λ o. Leads table.rows.items o (row_of name (names_of e.0))) f.leads same) in
      (row.0, ap (λ e. row_of name (names_of e)) (entry_at-some A i e.0 e.1) ∙ row.1, row.2)

  -- ways down from a row's handle lead to rows' handles, by names that each entry has
  pub way_back : (k i : ℕ) (h q : List ℕ) → handle_at table.rows.items i ≡ Some h → LeadsIn t k h q → (j : ℕ) × (handle_at table.rows.items j ≡ Some q) × Walk A k i j
  way_back zero i h q at l = (i, at ∙ ap Some l, refl)
  way_back (suc k) i h q at l =
      let r = led i h l.0 l.1 at l.2 in
      let rest = way_back k r.0.index l.1 q r.2 l.3 in
      (rest.0, rest.1, (r.0.index, found_leads l.0 (names_of (entry_at A i)) r.0 r.1, rest.2))

  -- the staging directory is not below an object
  pub staging_not_below : (i : ℕ) (h : List ℕ) → handle_at table.rows.items i ≡ Some h → IsAtOrBelow t h area → ⊥
  staging_not_below i h at below = let w = way_back below.0 i h area at below.1 in (st.sited.apart w.0 area w.1).1 refl

pub walk_among : (A C : List Entry) → AreAmong A C → (k a b : ℕ) → Walk A k a b → Walk C k a b
walk_among A C among zero a b w = w
walk_among A C among (suc k) a b w = (w.0, among a w.0 w.1, walk_among A C among k w.0 b w.2)
