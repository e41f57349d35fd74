-- One record of a root is a sound tree, and the memory that begins with it is that of the tree.
use Rattle.std.proofs.Common.{inl, inr, ◌≡◌, ◌≢◌, ◌∙◌, ◌*◌, ℕ, List, [], Option, Some, None, refl, sym, ap, subst, cond, arith}
use Rattle.std.specs.Prelude.{option_map}
use Rattle.std.specs.Int.{from_be_bytes, w64}
use Rattle.std.specs.Ordering.{nat_cmp}
use Rattle.std.specs.Cmp.Lexicographic.{slice_cmp, nat_list_cmp_total}
use Rattle.std.specs.FinMap.{get, insert, empty, len, from_entries, get-empty, get-from_entries, len-empty}
use Rattle.nfs2_types.specs.declared.fattr.Kind.TheVariants.{Dir}
use Rattle.server_trait.specs.Tree.{ByBytes, Tree, Node, Names, NamesOf, IsNamed, new_node, node_at, names_in, with_node, links, used, used_by}
use Rattle.server_trait.specs.Calls.{IsFresh}
use Rattle.server_trait.specs.declared.server.ServerLimits.{ServerLimits}
use Rattle.server_trait.proofs.SumLaws.{total-none}
use Rattle.server_trait.proofs.TreeLaws.{bytes_or_not, same_answers, get-insert_same, get-insert_other, some_none, some_same, target_found, used-with_node, links-none}
use Rattle.server_trait.proofs.CountLaws.{links-with_node}
use Rattle.tree_laws.proofs.CountChanges.{len-insert_new}
use Rattle.log_segments.specs.Newest.{find}
use Rattle.log_records.specs.declared.node.NodeRecord.{NodeRecord}
use Rattle.log_records.specs.Layout.{node_key, name_key, chunk_key, value_of, node_in}
use Rattle.log_tree.specs.Held.{Records, handle_of, root_id, most_names, names_of, tree_of}
use Rattle.log_store.specs.Store.{KeepsOthers, Puts, PutsNode, node_with}
use Rattle.log_files.specs.Chunked.{IsChunked}
use Rattle.log_files.proofs.ReadLaws.{length-bytes}
use Rattle.log_held.specs.Sound.{IsSound}
use Rattle.log_index.specs.declared.info.NodeInfo.{NodeInfo}
use Rattle.log_index.specs.Memory.{Memory, IsIndexed, none_kept}
use Rattle.log_index.specs.Changes.{AddsNode}
use Rattle.log_index.proofs.Ties.{matches_by, same_bytes}
use Rattle.log_index.proofs.NodeAdds.{node_added, names_to-bare}

-- NOTHING

from_none : {X : Type 0} → ◌≡◌ {A = ByBytes X} (from_entries []) empty
from_none {X} = same_answers (from_entries []) empty (λ q. get-from_entries nat_list_cmp_total [] q
    ∙ sym (get-empty (slice_cmp nat_cmp) q))

no_nodes : (tree_of []).nodes ≡ empty
unfolding tree_of
no_nodes = from_none

no_names : names_of [] root_id ≡ empty
unfolding names_of
no_names = from_none

abbrev bare : Tree
bare = tree_of []

none_at : (q : List ℕ) → node_at bare q ≡ None
none_at q = ap (λ m. get m q) no_nodes ∙ get-empty (slice_cmp nat_cmp) q

none_named : (h : List ℕ) → ¬ (IsNamed bare h)
none_named h is =
    let f = target_found bare is.0 is.1 h is.2 in
    some_none f.is_node (none_at is.0)

none_used : used bare ≡ 0
unfolding used
none_used = total-none nat_list_cmp_total (λ (n : Node). used_by n.content) bare.nodes (λ k v is. absurd (some_none is
    (none_at k)))

none_there : len bare.nodes ≡ 0
none_there = ap len no_nodes ∙ len-empty (slice_cmp nat_cmp) Node

pub nothing_indexed : IsIndexed bare none_kept
nothing_indexed = record {
  nodes = λ q eight. matches_by bare (handle_of q) (node_at bare (handle_of q)) None (get none_kept.nodes q) None
      (none_at (handle_of q)) (get-empty (slice_cmp nat_cmp) q) tt;
  ids = λ q i is. absurd (some_none is (get-empty (slice_cmp nat_cmp) q));
  below = λ q i is. absurd (some_none is (get-empty (slice_cmp nat_cmp) q));
  parents = λ q i dir name is kind long leads. absurd (some_none is (get-empty (slice_cmp nat_cmp) q));
  count_is = sym none_there;
  used_is = sym none_used;
}

-- THE ROOT

abbrev root : List ℕ
root = handle_of root_id

abbrev root_node : Node
root_node = new_node (from_be_bytes w64 root_id) (NamesOf empty)

abbrev pub root_record : NodeRecord
root_record = record { kind = Dir; mode = 0; uid = 0; gid = 0 }

abbrev pub root_info : NodeInfo
root_info = record { kind = Dir; mode = 0; uid = 0; gid = 0; size = 0; links = 0; parent = root_id }

no_name : (m : Names) → root_node.content ≡ NamesOf m → m ≡ empty
no_name m e = cc

module _ (limits : ServerLimits) (live new : Records) (none : live ≡ [])
    (puts : PutsNode live root_id root_record new) (here : Puts node_in live (node_key root_id) root_record new)
    (others : KeepsOthers live (node_key root_id) new) where
  tree_is : tree_of new ≡ with_node bare root root_node
  tree_is =
      puts ∙ (ap (λ l. with_node (tree_of l) root (node_with (from_be_bytes w64 root_id) root_record
      (NamesOf (names_of l root_id)))) none
      ∙ ap (λ (m : Names). with_node bare root (new_node (from_be_bytes w64 root_id) (NamesOf m))) no_names)

  fresh_is : with_node bare root root_node ≡ record { root = root; nodes = insert empty root root_node }
  unfolding tree_of
  fresh_is = ap (λ (m : ByBytes Node). let t : Tree = record { root = root; nodes = insert m root root_node } in t) no_nodes

  pub fresh : IsFresh (Some (tree_of new))
  fresh = record { root = root; number = from_be_bytes w64 root_id; after = ap Some (tree_is ∙ fresh_is) }

  abbrev u : Tree
  u = with_node bare root root_node

  there : node_at u root ≡ Some root_node
  there = get-insert_same bare.nodes root root_node

  elsewhere : (q : List ℕ) → q ≢ root → node_at u q ≡ None
  elsewhere q ne = get-insert_other bare.nodes root root_node q ne ∙ none_at q

  no_other : (k : List ℕ) → k ≢ node_key root_id → find k new ≡ None
  no_other k ne = others k ne ∙ ap (find k) none

  no_chunks : (id : List ℕ) → IsChunked new id 0
  no_chunks id = record {
    few = omega arith;
    there = λ p below. absurd (omega arith);
    absent = λ p past few. no_other (chunk_key id p) (λ e. cc);
  }

  kind_read : (o : Option (List ℕ)) → option_map (λ r. node_in (value_of r)) o ≡ Some root_record
      → option_map (λ r. (node_in (value_of r)).kind) o ≡ Some Dir
  kind_read None e = absurd (let bad : None ≡ Some root_record = e in cc)
  kind_read (Some r) e = let same : node_in (value_of r) ≡ root_record = cc in ap (λ (m : NodeRecord). Some m.kind) same

  -- the only directory is the root, and it has no names
  only_root : (q : List ℕ) (a : Node) → node_at (tree_of new) q ≡ Some a → (q ≡ root) × (a ≡ root_node)
  only_root q a is = elim (bytes_or_not q root) [
    | inl e ↦ (e, some_same (ap (λ t. node_at t q) (sym tree_is) ∙ is) (ap (node_at u) e ∙ there))
    | inr ne ↦ absurd (some_none (ap (λ t. node_at t q) (sym tree_is) ∙ is) (elsewhere q ne))
  ]

  no_links : links u root ≡ 0
  no_links =
      let more = links-with_node bare root root_node root (none_at root) in
      let old = links-none bare root (none_named root) in
      let own = names_to-bare root_node.content root no_name in
      omega (arith, more, old, own)

  pub sound : IsSound limits new
  sound = record {
    placed = record {
      form = λ k r is. elim (bytes_or_not k (node_key root_id)) [
        | inl e ↦ inl (root_id, e, refl)
        | inr ne ↦ absurd (some_none is (no_other k ne))
      ];
      of_dir = λ dir name r eight is. absurd (some_none is (no_other (name_key dir name) (λ e. cc)));
      of_leaf = λ id p r eight few is. absurd (some_none is (no_other (chunk_key id p) (λ e. cc)));
      chunks = λ id eight. subst (IsChunked new id) (sym (length-bytes new id 0 (no_chunks id))) (no_chunks id);
    };
    tied = record {
      root = kind_read (find (node_key root_id) new) here.here;
      one = λ q a m is has.
          let w = only_root q a is in
          let zero_names : most_names root ≡ 0 = ap (λ b. cond b 0 1) (same_bytes root root refl) in
          ap (λ t. links t q) tree_is ∙ (ap (links u) w.0 ∙ (no_links ∙ (sym zero_names ∙ ap most_names (sym w.0))));
      leads = λ q a m name x is has leads.
          let w = only_root q a is in
          let empty_is : Some m ≡ Some empty = sym has ∙ ap (λ (b : Node). names_in b.content) w.1 in
          let same : m ≡ empty = cc in
          absurd (some_none leads (ap (λ k. get k name) same ∙ get-empty (slice_cmp nat_cmp) name));
    };
    few_nodes =
        let one = len-insert_new bare.nodes root root_node (none_at root) in
        let same : len (tree_of new).nodes ≡ len u.nodes = ap (λ (t : Tree). len t.nodes) tree_is in
        let old = none_there in
        omega arith;
    few_bytes =
        let all = used-with_node bare root root_node (none_at root) in
        let old = none_used in
        let own : used_by root_node.content ≡ 0 =
        ap (λ n. 512 * n) (len-empty (slice_cmp nat_cmp) (List ℕ)) in
        let same = ap used tree_is in
        omega arith;
  }

  pub indexed : (y : Memory) → AddsNode none_kept root_id root_info 0 y → IsIndexed (tree_of new) y
  indexed y adds = subst (λ t. IsIndexed t y) (sym tree_is)
      (node_added bare none_kept y root_id root_node root_info 0 nothing_indexed refl (none_at root) (none_named root)
      (record {
        kind = refl;
        mode = refl;
        uid = refl;
        gid = refl;
        size = sym (len-empty (slice_cmp nat_cmp) (List ℕ));
        links = refl;
        uses = sym (ap (λ n. 512 * n) (len-empty (slice_cmp nat_cmp) (List ℕ)));
        none = no_name;
      }) adds)
