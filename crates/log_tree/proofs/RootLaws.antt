-- An empty root is a tree.
use Rattle.std.proofs.Common.{◌≡◌, ◌∙◌, ℕ, List, [], ◌∷◌, true, false, Some, cond, length, take, drop, refl, sym, ap, bytes_eq, arith}
use Rattle.std.specs.Prelude.{option_and_then, nat_le, max, is_some}
use Rattle.std.specs.Int.{from_be_bytes, w64}
use Rattle.std.specs.List.{list_all}
use Rattle.std.proofs.lemmas.Bool.Decides.{nat_tests}
use Rattle.std.proofs.lemmas.Slice.Eq.{bytes_eq-Decides}
use Rattle.std.specs.Ordering.{nat_cmp}
use Rattle.std.specs.Cmp.Lexicographic.{slice_cmp, nat_list_cmp_total}
use Rattle.std.specs.FinMap.{insert, empty, entries, put, len, from_entries, get-empty, get-from_entries, entries-insert, len-entries, len-empty}
use Rattle.nfs2_types.specs.declared.fattr.Kind.TheVariants.{Dir}
use Rattle.server_trait.specs.Tree.{ByBytes, NamesOf, Node, Tree, new_node, names_in, names_at, node_at, names_to, links, used, used_by, with_node, one_if}
use Rattle.server_trait.specs.Sums.{total, sum_values}
use Rattle.server_trait.specs.declared.server.ServerLimits.{ServerLimits}
use Rattle.server_trait.proofs.SumLaws.{total-insert_new}
use Rattle.server_trait.proofs.TreeLaws.{get-insert_same, same_answers}
use Rattle.log_segments.specs.Record.{is_gone, key_of}
use Rattle.log_records.specs.declared.node.NodeRecord.{NodeRecord}
use Rattle.log_records.specs.Layout.{node_key, value_of, node_in}
use Rattle.log_tree.specs.Held.{Records, handle_of, root_id, names_of, content_of, id_of, node_of, tree_of, is_dir, has_place, is_tied, is_within, tree_in}
use Rattle.log_tree.specs.Laws.{RootIsHeld}
use Rattle.log_tree.proofs.TreeLaws.{node_puts}

-- NOTHING

from_none : {X : Type 0} → ◌≡◌ {A = ByBytes X} (from_entries []) empty
from_none {X} = same_answers (from_entries []) empty (λ q. get-from_entries nat_list_cmp_total [] q
    ∙ sym (get-empty (slice_cmp nat_cmp) q))

none_long : {X : Type 0} (xs : List X) → length xs ≡ 0 → xs ≡ []
none_long [] h = refl
none_long (x ∷ xs) h = absurd (omega arith)

entries_none : {X : Type 0} → entries (empty {X = X} {R = slice_cmp nat_cmp}) ≡ []
entries_none {X} = none_long (entries (empty {X = X} {R = slice_cmp nat_cmp})) (sym (len-entries
    (empty {X = X} {R = slice_cmp nat_cmp})) ∙ len-empty (slice_cmp nat_cmp) X)

total_none : {X : Type 0} (f : X → ℕ) → total f (empty {X = X} {R = slice_cmp nat_cmp}) ≡ 0
unfolding total
total_none f = ap (sum_values f) entries_none

-- THE ROOT ALONE

abbrev root : List ℕ
root = handle_of root_id

abbrev root_node : Node
root_node = new_node (from_be_bytes w64 root_id) (NamesOf empty)

abbrev alone : Tree
alone = record { root = root; nodes = insert empty root root_node }

no_tree : (tree_of []).nodes ≡ empty
unfolding tree_of
no_tree = from_none

no_names : names_of [] root_id ≡ empty
unfolding names_of
no_names = from_none

module _ (r : List ℕ) (key : key_of r ≡ node_key root_id) (stands : is_gone r ≡ false)
    (node : node_in (value_of r) ≡ record { kind = Dir; mode = 0; uid = 0; gid = 0 }) where
  live : Records
  live = r ∷ []

  node_is : node_of [] r ≡ root_node
  node_is =
      ap (λ (n : NodeRecord). record {
        number = from_be_bytes w64 (id_of r);
        mode = n.mode;
        uid = n.uid;
        gid = n.gid;
        content = content_of [] (id_of r) n.kind;
      }) node
      ∙ (ap (λ k. new_node (from_be_bytes w64 (take 8 (drop 1 k))) (NamesOf (names_of [] (take 8 (drop 1 k))))) key
      ∙ ap (λ m. new_node (from_be_bytes w64 root_id) (NamesOf m)) no_names)

  tree_is : tree_of (r ∷ []) ≡ alone
  unfolding tree_of
  tree_is =
      ap (λ g. tree_of (cond g [] (r ∷ []))) (sym stands)
      ∙ (node_puts [] r root_id (record { size = refl; key = key }) stands
      ∙ (ap (with_node (tree_of []) root) node_is
      ∙ ap (λ (m : ByBytes Node). record { root = root; nodes = insert m root root_node }) no_tree))

  node_there : node_at alone root ≡ Some root_node
  node_there = get-insert_same empty root root_node

  there : is_dir (r ∷ []) root_id ≡ true
  there = ap (λ t. is_some (names_at t root)) tree_is
      ∙ ap (λ o. is_some (option_and_then (λ (n : Node). names_in n.content) o)) node_there

  placed : list_all (has_place (r ∷ [])) (r ∷ []) ≡ true
  placed = rw key refl

  entries_alone : entries alone.nodes ≡ (root, root_node) ∷ []
  entries_alone = entries-insert nat_list_cmp_total empty root root_node
      ∙ ap (put (slice_cmp nat_cmp) root root_node) entries_none

  no_links : links alone root ≡ 0
  unfolding links
  no_links =
      total-insert_new nat_list_cmp_total (λ n. names_to root n.content) empty root root_node (get-empty
      (slice_cmp nat_cmp) root)
      ∙ omega (arith, total_none (λ x. one_if (bytes_eq x root)), total_none (λ (n : Node). names_to root n.content))

  no_bytes : used alone ≡ 0
  unfolding used
  no_bytes =
      total-insert_new nat_list_cmp_total (λ n. used_by n.content) empty root root_node (get-empty
      (slice_cmp nat_cmp) root)
      ∙ omega (arith, len-empty (slice_cmp nat_cmp) (List ℕ), total_none (λ (n : Node). used_by n.content))

  one_node : len alone.nodes ≡ 1
  one_node = len-entries alone.nodes ∙ ap length entries_alone

  tied : list_all (λ e. is_tied alone e.0 e.1) (entries alone.nodes) ≡ true
  tied =
      ap (list_all (λ e. is_tied alone e.0 e.1)) entries_alone
      ∙ rw (no_links, (bytes_eq-Decides root root).1 refl, entries_none {X = List ℕ}) refl

  within : (limits : ServerLimits) → is_within limits alone ≡ true
  within limits =
      let one : nat_le 1 (max limits.nodes 1) ≡ true = grind (arith, nat_tests) in
      let none : nat_le 0 limits.bytes ≡ true = grind (arith, nat_tests) in
      rw (one_node, no_bytes, one, none) refl

  held : (limits : ServerLimits) → tree_in limits (r ∷ []) ≡ Some alone
  held limits = rw (placed, there, tree_is, tied, within limits) refl

pub root_is_held : RootIsHeld
root_is_held limits r key stands node = record {
  root = root;
  number = from_be_bytes w64 root_id;
  after = held r key
      stands node limits;
}
