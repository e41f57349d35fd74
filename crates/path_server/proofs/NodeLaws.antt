-- The nodes of the tree, from what is kept.
use Rattle.std.proofs.Common.{◌≡◌, ℕ, ◌+◌, Bool, true, false, cond, ◌&&◌, List, [], ◌∷◌, map, length, Option, Some, None, is_some, refl, sym, ap, ◌∙◌, add-one}
use Rattle.std.specs.Prelude.{T}
use Rattle.std.specs.declared.cmp.Ordering.{Ordering}
use Rattle.std.specs.declared.cmp.Ordering.TheVariants.{Less, Equal, Greater}
use Rattle.std.specs.Option.{option_map, option_and_then}
use Rattle.std.specs.Ordering.{nat_cmp, is_eq, is_lt}
use Rattle.std.specs.Cmp.Lexicographic.{slice_cmp, nat_list_cmp_total}
use Rattle.std.specs.FinMap.{FinMap, find, get, len, entries, from_entries, is_sorted, entries_sorted, get-entries, get-from_entries, len-entries, len-empty, len-insert}
use Rattle.std.specs.FinMap.Entries.{below_all}
use Rattle.server_trait.specs.Tree.{Node, Names, ByBytes, node_at, names_in, is_dir_at}
use Rattle.server_trait.proofs.TreeLaws.{same-keys}
use Rattle.nfs2_types.specs.declared.fattr.Kind.{Kind}
use Rattle.path_server.specs.Nodes.{is_dir}
use Rattle.path_server.specs.Bytes.{Contents, bytes_under}
use Rattle.path_server.specs.Kept.{Kept, full_node, nodes_of, the_tree}
use Rattle.path_store.specs.Stored.{Paths, names_of}
use Rattle.path_server.proofs.ContentLaws.{has_names}
use Rattle.path_server.specs.declared.node.PathNode.{PathNode}

-- HOW MANY

both_first : (a b : Bool) → T (a && b) → T a
both_first true b p = tt
both_first false b p = absurd p

both_second : (a b : Bool) → T (a && b) → T b
both_second true b p = p
both_second false b p = absurd p

less : (r : Ordering) → T (is_lt r) → r ≡ Less
less Less p = refl
less Equal p = absurd p
less Greater p = absurd p

module _ {A B : Type 0} (f : List ℕ → A → B) where
  find_below : (x : List ℕ) (es : List (List ℕ × A)) → T (below_all (slice_cmp nat_cmp) x es) →
      find (slice_cmp nat_cmp) x (map (λ e. (e.0, f e.0 e.1)) es) ≡ None
  find_below x [] h = refl
  find_below x (e ∷ es) h =
      ap (λ r. cond (is_eq r) (Some (f e.0 e.1)) (find (slice_cmp nat_cmp) x (map (λ e. (e.0, f e.0 e.1)) es)))
      (less _ (both_first _ (below_all (slice_cmp nat_cmp) x es) h))
      ∙ find_below x es (both_second (is_lt (slice_cmp nat_cmp x e.0)) _ h)

  len-mapped : (es : List (List ℕ × A)) → T (is_sorted (slice_cmp nat_cmp) es) →
      len (from_entries {R = slice_cmp nat_cmp} (map (λ e. (e.0, f e.0 e.1)) es)) ≡ length es
  len-mapped [] h = len-empty (slice_cmp nat_cmp) B
  len-mapped (e ∷ es) h =
      let m : FinMap (slice_cmp nat_cmp) B = from_entries (map (λ e. (e.0, f e.0 e.1)) es) in
      len-insert nat_list_cmp_total m e.0 (f e.0 e.1)
      ∙ ap (λ o. cond (is_some o) (len m) (len m + 1))
      (get-from_entries nat_list_cmp_total (map (λ e. (e.0, f e.0 e.1)) es) e.0
      ∙ find_below e.0 es (both_first _ (is_sorted (slice_cmp nat_cmp) es) h))
      ∙ ap (λ n. n + 1) (len-mapped es (both_second (below_all (slice_cmp nat_cmp) e.0 es) _ h)) ∙ add-one _

  pub find-mapped : (es : List (List ℕ × A)) (h : List ℕ) → find (slice_cmp nat_cmp) h (map (λ e. (
    e.0,
    f e.0 e.1,
  )) es) ≡ option_map (f h) (find (slice_cmp nat_cmp) h es)
  find-mapped [] h = refl
  find-mapped (e ∷ es) h =
      elim (is_eq (slice_cmp nat_cmp h e.0)) as (λ b. is_eq (slice_cmp nat_cmp h e.0) ≡ b →
      cond b (Some (f e.0 e.1)) (find (slice_cmp nat_cmp) h (map (λ e. (
        e.0,
        f e.0 e.1,
      )) es)) ≡ option_map (f h) (cond b (Some e.1) (find (slice_cmp nat_cmp) h es))) [
        | true ↦ λ t. ap (λ k. Some (f k e.1)) (sym (same-keys h e.0 t))
        | false ↦ λ _. find-mapped es h
      ] refl

-- the tree has as many nodes as are kept
pub len-nodes_of : (nodes : ByBytes PathNode) (contents : Contents) (paths : Paths) →
    len (nodes_of nodes contents paths) ≡ len nodes
unfolding nodes_of
len-nodes_of nodes contents paths = len-mapped (full_node contents paths) (entries nodes) (entries_sorted nodes)
    ∙ sym (len-entries nodes)

-- WHICH

-- what the tree has under a handle
pub get-nodes_of : (nodes : ByBytes PathNode) (contents : Contents) (paths : Paths) (h : List ℕ) →
    get (nodes_of nodes contents paths) h ≡ option_map (full_node contents paths h) (get nodes h)
unfolding nodes_of
get-nodes_of nodes contents paths h = get-from_entries nat_list_cmp_total _ h
    ∙ find-mapped (full_node contents paths) (entries nodes) h
    ∙ ap (option_map (full_node contents paths h)) (sym (get-entries nodes h))

abbrev has : Option Names → Bool
has o = elim o as (λ _. Bool) [ None ↦ false | Some m ↦ true ]

abbrev pub is_dir_kind : Option Kind → Bool
is_dir_kind o = elim o as (λ _. Bool) [ None ↦ false | Some kind ↦ is_dir kind ]

module _ (k : Kept) where
  abbrev pub node_here : List ℕ → PathNode → Node
  node_here h p = full_node k.contents k.paths h p

  pub node_at-kept : (h : List ℕ) (p : PathNode) → get k.nodes h ≡ Some p →
      node_at (the_tree k) h ≡ Some (node_here h p)
  node_at-kept h p e = get-nodes_of k.nodes k.contents k.paths h ∙ ap (option_map (node_here h)) e

  pub node_at-none : (h : List ℕ) → get k.nodes h ≡ None → node_at (the_tree k) h ≡ None
  node_at-none h e = get-nodes_of k.nodes k.contents k.paths h ∙ ap (option_map (node_here h)) e

  -- a kept node, from one that the tree has
  pub kept-node_at : (h : List ℕ) (n : Node) → node_at (the_tree k) h ≡ Some n →
      (p : PathNode) × (get k.nodes h ≡ Some p) × (n ≡ node_here h p)
  kept-node_at h n e =
      elim (get k.nodes h) as (λ o. option_map (node_here h) o ≡ Some n →
      (p : PathNode) × (o ≡ Some p) × (n ≡ node_here h p)) [
        | None ↦ λ no. absurd (let bad : None ≡ Some n = no in cc)
        | Some p ↦ λ is. (
          p,
          refl,
          (let f : Some (node_here h p) ≡ Some n = is in let same : n ≡ node_here h p = cc in same),
        )
      ] (sym (get-nodes_of k.nodes k.contents k.paths h) ∙ e)

  -- DIRECTORIES

  abbrev pub kind_at : List ℕ → Option Kind
  kind_at h = option_map (λ (p : PathNode). p.kind) (get k.nodes h)

  pub is_dir_at-kind : (h : List ℕ) → is_dir_at (the_tree k) h ≡ is_dir_kind (kind_at h)
  is_dir_at-kind h =
      elim (get k.nodes h) as (λ o. get k.nodes h ≡ o → is_dir_at (the_tree k) h ≡ is_dir_kind (option_map (λ (p :
      PathNode). p.kind) o)) [
        | None ↦ λ e. ap (λ o. has (option_and_then (λ (n : Node). names_in n.content) o)) (node_at-none h e)
        | Some p ↦ λ e. ap (λ o. has (option_and_then (λ (n : Node). names_in n.content) o)) (node_at-kept h p e)
            ∙ has_names p.kind (bytes_under k.contents h) (names_of k.paths h)
      ] refl

-- where the kinds are the same, so are the directories
pub same_dirs : (k l : Kept) (h : List ℕ) → kind_at k h ≡ kind_at l h →
    is_dir_at (the_tree k) h ≡ is_dir_at (the_tree l) h
same_dirs k l h same = is_dir_at-kind k h ∙ ap is_dir_kind same ∙ sym (is_dir_at-kind l h)
