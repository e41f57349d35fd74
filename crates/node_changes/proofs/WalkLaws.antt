-- Ways of a tree are ways of the array for which it stands.
use Rattle.std.proofs.Common.{◌≡◌, ℕ, zero, suc, true, List, Option, Some, is_some, sym, ap, ◌∙◌}
use Rattle.server_trait.specs.Tree.{Tree, names_at}
use Rattle.server_trait.specs.Step.{LeadsIn}
use Rattle.server_trait.specs.Calls.{IsDir}
use Rattle.server_trait.proofs.TreeLaws.{names_at-node}
use Rattle.server_trait.proofs.SoftLaws.{some_of, dir_of_target}
use Rattle.server_trait.specs.declared.bench.ConfTable.{ConfTable}
use Rattle.abs_model.specs.declared.entry.Entry.{Entry}
use Rattle.abs_model.specs.Objects.{is_dir, names_of}
use Rattle.abs_model.specs.Array.{entry_at}
use Rattle.abs_model.specs.Valid.{Walk}
use Rattle.abs_model.proofs.Parents.{found_leads}
use Rattle.conf_map.specs.Stands.{handle_at, Stands}
use Rattle.conf_map.proofs.Kept.{one_row}
use Rattle.conf_map.proofs.LiveRows.{same_content}
use Rattle.conf_map.proofs.Sizes.{dir_content}
use Rattle.conf_map.proofs.Targets.{row_of_target}
use Rattle.node_changes.proofs.DirNames.{found}

module _ (s : Option Tree) (table : ConfTable) (A : List Entry) (st : Stands s table A) where
  -- what is a directory to the server is one
  pub dir_back : (i : ℕ) (h : List ℕ) → handle_at table.rows.items i ≡ Some h → IsDir st.tree h →
      is_dir (entry_at A i) ≡ true
  dir_back i h live dir =
      let k = found s table A st i h live in
      let m = some_of (names_at st.tree h) dir in
      dir_content table.rows.items (entry_at A i).generation (entry_at A i).object k.1.content m.0
      (same_content s table A st i h k.0 k.1 (entry_at A i) k.2) (sym (names_at-node st.tree h k.1 k.2.is_node) ∙ m.1)

  -- a way down the tree is one in the array
  pub way_back : (k i j : ℕ) (h q : List ℕ) → handle_at table.rows.items i ≡ Some h →
      handle_at table.rows.items j ≡ Some q →
      LeadsIn st.tree k h q → Walk A k i j
  way_back zero i j h q at_i at_j l = one_row st.tree table st.placed q i j (at_i ∙ ap Some l) at_j
  way_back (suc k) i j h q at_i at_j l =
      let f = found s table A st i h at_i in
      let dir = dir_back i h at_i (ap is_some (dir_of_target st.tree h l.0 l.1 l.2).1) in
      let r = row_of_target s table A st i h f.0 f.1 (entry_at A i) f.2 dir l.0 l.1 l.2 in
      (r.0.index, found_leads l.0 (names_of (entry_at A i)) r.0 r.1, way_back k r.0.index j l.1 q r.2 at_j l.3)
