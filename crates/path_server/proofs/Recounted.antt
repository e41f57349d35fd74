-- Nodes that are kept with other counts, while the names of one directory change.
use Rattle.std.proofs.Common.{inl, inr, ◌≡◌, ◌≢◌, ℕ, ◌<◌, Bool, true, false, List, length, Option, Some, None, IsSome, IsSomeAnd, refl, sym, ap, ◌∙◌, subst}
use Rattle.std.specs.Prelude.{bytes_eq}
use Rattle.std.specs.Option.{option_map}
use Rattle.std.specs.FinMap.{get, insert, len}
use Rattle.std.proofs.lemmas.Slice.Eq.{bytes_eq-Decides}
use Rattle.nfs2_types.specs.declared.fattr.Kind.TheVariants.{Dir}
use Rattle.server_trait.specs.Tree.{Tree, Node, Names, ByBytes, node_at, edited, with_names}
use Rattle.server_trait.proofs.OrderLaws.{same_trees}
use Rattle.server_trait.proofs.SoftLaws.{some_of}
use Rattle.server_trait.proofs.TreeLaws.{some_none, bytes_or_not, edited-some, root-edited, node_at-edited_same, node_at-edited_other, get-insert_same, get-insert_other}
use Rattle.path_store.specs.Stored.{Paths, names_of}
use Rattle.path_server.specs.Bytes.{bytes_under}
use Rattle.path_server.specs.Kept.{Kept, kept_as, node_of, full_node, the_tree}
use Rattle.path_store.specs.Tables.{place_of}
use Rattle.path_server.specs.Serials.{serial_bytes}
use Rattle.path_server.specs.Sound.{IsSerial, AreSerials}
use Rattle.path_server.specs.declared.node.PathNode.{PathNode}
use Rattle.path_server.proofs.ContentLaws.{fuller_content}
use Rattle.path_server.proofs.CountChanges.{len-insert_old}
use Rattle.path_server.proofs.NamedLaws.{IsDirNode, dir_same, some_is}
use Rattle.path_server.proofs.NodeLaws.{len-nodes_of, get-nodes_of, node_at-kept, node_here, kind_at}
use Rattle.path_server.proofs.Serials.{kept_fits}

-- TWO NODES

pub bytes_differ : (a b : List ℕ) → a ≢ b → bytes_eq a b ≡ false
bytes_differ a b ne = elim (bytes_eq a b) as (λ x. bytes_eq a b ≡ x → x ≡ false) [
  | true ↦ λ t. absurd (ne ((bytes_eq-Decides a b).0 t))
  | false ↦ λ _. refl
] refl

pub bytes_same : (a b : List ℕ) → a ≡ b → bytes_eq a b ≡ true
bytes_same a b same = (bytes_eq-Decides a b).1 same

-- two nodes that are put in anew, by what of the two each node is
pub two_puts : (nodes : ByBytes PathNode) (d h : List ℕ) (p p' x x' : PathNode)
    (f : Bool → Bool → PathNode → PathNode) →
    get nodes d ≡ Some p → get nodes h ≡ Some x → h ≢ d → f true false p ≡ p' → f false true x ≡ x' →
    ((y : PathNode) → f false false y ≡ y) → (q : List ℕ) →
    get (insert (insert nodes d p') h x') q ≡ option_map (f (bytes_eq d q) (bytes_eq h q)) (get nodes q)
two_puts nodes d h p p' x x' f at_d at_h ne is_p is_x is_y q =
    elim (bytes_or_not q h) as
    (λ _. get (insert (insert nodes d p') h x') q ≡ option_map (f (bytes_eq d q) (bytes_eq h q)) (get nodes q)) [
      | inl same ↦ subst (λ q. get (insert (insert nodes d p') h x') q ≡ option_map (f (bytes_eq d q) (bytes_eq h q))
          (get nodes q)) (sym same)
          (get-insert_same (insert nodes d p') h x' ∙ ap Some (sym is_x)
          ∙ sym (ap (option_map (f (bytes_eq d h) (bytes_eq h h))) at_h
          ∙ ap (λ b. Some (f b (bytes_eq h h) x)) (bytes_differ d h (λ e. ne (sym e)))
          ∙ ap (λ b. Some (f false b x)) (bytes_same h h refl)))
      | inr not_h ↦ get-insert_other (insert nodes d p') h x' q not_h
          ∙ (elim (bytes_or_not q d) as
          (λ _. get (insert nodes d p') q ≡ option_map (f (bytes_eq d q) (bytes_eq h q)) (get nodes q)) [
            | inl same ↦ subst (λ q. get (insert nodes d p') q ≡ option_map (f (bytes_eq d q) (bytes_eq h q))
                (get nodes q)) (sym same)
                (get-insert_same nodes d p' ∙ ap Some (sym is_p)
                ∙ sym (ap (option_map (f (bytes_eq d d) (bytes_eq h d))) at_d
                ∙ ap (λ b. Some (f b (bytes_eq h d) p)) (bytes_same d d refl)
                ∙ ap (λ b. Some (f true b p)) (bytes_differ h d ne)))
            | inr not_d ↦ get-insert_other nodes d p' q not_d ∙ sym (
                ap (λ b. option_map (f b (bytes_eq h q)) (get nodes q)) (bytes_differ d q (λ e. not_d (sym e)))
                ∙ ap (λ b. option_map (f false b) (get nodes q)) (bytes_differ h q (λ e. not_h (sym e)))
                ∙ stays (get nodes q))
          ])
    ]
  where
    stays : (o : Option PathNode) → option_map (f false false) o ≡ o
    stays None = refl
    stays (Some y) = ap Some (is_y y)

-- a node put in after another
pub two_sets : {X : Type 0} (nodes : ByBytes X) (h k : List ℕ) {one two : ByBytes X} {v v' w w' : X} →
    one ≡ insert nodes h v → two ≡ insert one k w → v ≡ v' → w ≡ w' → two ≡ insert (insert nodes h v') k w'
two_sets nodes h k {v' = v'} {w = w} first second is_v is_w = second
    ∙ ap (λ m. insert m k w) (first ∙ ap (insert nodes h) is_v) ∙ ap (insert (insert nodes h v') k) is_w

-- ALL NODES

-- the same node, but for its counts
pub record IsRecount (p x : PathNode) : Type 0 where
  pub node : (b : List ℕ) (m : Names) → node_of x b m ≡ node_of p b m
  pub number : x.number ≡ p.number
  pub kind : x.kind ≡ p.kind

module _ (k : Kept) (nodes' : ByBytes PathNode) (paths' : Paths) (f : List ℕ → PathNode → PathNode) (alike : (q : List
    ℕ) (p : PathNode) → IsRecount p (f q p))
    (are : (q : List ℕ) → get nodes' q ≡ option_map (f q) (get k.nodes q)) where
  abbrev after : Kept
  after = kept_as k.root nodes' k.contents paths'

  pub kept_after : (q : List ℕ) (p : PathNode) → get k.nodes q ≡ Some p → get nodes' q ≡ Some (f q p)
  kept_after q p is = are q ∙ ap (option_map (f q)) is

  pub none_after : (q : List ℕ) → get k.nodes q ≡ None → get nodes' q ≡ None
  none_after q is = are q ∙ ap (option_map (f q)) is

  pub kept_before : (q : List ℕ) (x : PathNode) → get nodes' q ≡ Some x →
      (p : PathNode) × (get k.nodes q ≡ Some p) × (x ≡ f q p)
  kept_before q x is =
      elim (get k.nodes q) as (λ o. option_map (f q) o ≡ Some x → (p : PathNode) × (o ≡ Some p) × (x ≡ f q p)) [
        | None ↦ λ no. absurd (some_none no refl)
        | Some p ↦ λ e. (p, refl, (let g : Some (f q p) ≡ Some x = e in let same : x ≡ f q p = cc in same))
      ] (sym (are q) ∙ is)

  -- a claim of each node that is kept after
  pub each_after : (P : List ℕ → PathNode → Type 0) → ((q : List ℕ) (p : PathNode) → get k.nodes q ≡ Some p →
      P q (f q p)) → (q : List ℕ) (x : PathNode) → get nodes' q ≡ Some x → P q x
  each_after P here q x is = let b = kept_before q x is in subst (P q) (sym b.2) (here q b.0 b.1)

  pub kinds_after : (q : List ℕ) → kind_at after q ≡ kind_at k q
  kinds_after q =
      elim (get k.nodes q) as
      (λ o. get k.nodes q ≡ o → option_map (λ (p : PathNode). p.kind) (get nodes' q) ≡ option_map
      (λ (p : PathNode). p.kind) o) [
        | None ↦ λ is. ap (option_map (λ (p : PathNode). p.kind)) (none_after q is)
        | Some p ↦ λ is. ap (option_map (λ (p : PathNode). p.kind)) (kept_after q p is) ∙ ap Some (alike q p).kind
      ] refl

  pub dir_after : (q : List ℕ) → IsSomeAnd (get k.nodes q) IsDirNode → IsSomeAnd (get nodes' q) IsDirNode
  dir_after q = dir_same (get k.nodes q) (get nodes' q) (sym (kinds_after q))

  pub dir_before : (q : List ℕ) → IsSomeAnd (get nodes' q) IsDirNode → IsSomeAnd (get k.nodes q) IsDirNode
  dir_before q = dir_same (get nodes' q) (get k.nodes q) (kinds_after q)

  pub grows : (q : List ℕ) → IsSome (get k.nodes q) → IsSome (get nodes' q)
  grows q there = let p = some_of (get k.nodes q) there in some_is (kept_after q p.0 p.1)

  pub serials_after : (next : ℕ) → AreSerials k.nodes next → AreSerials nodes' next
  serials_after next serials = each_after (IsSerial next) (λ q p is. subst (λ n. (q ≡ serial_bytes n (place_of q))
      × (n < next)) (sym (alike q p).number) (serials q p is))

  -- THE TREE

  module _ (next : ℕ) (serials : AreSerials k.nodes next) (dir : List ℕ) (p : PathNode) (is : get k.nodes dir ≡ Some p)
      (is_directory : p.kind ≡ Dir) (g : Names → Names) (here : names_of paths' dir ≡ g (names_of k.paths dir))
      (others : (q : List ℕ) → length q ≡ 32 → q ≢ dir → names_of paths' q ≡ names_of k.paths q) where
    abbrev now : Tree
    now = the_tree k

    abbrev old_dir : Node
    old_dir = node_here k dir p

    abbrev changed : Tree
    changed = edited now dir (with_names g)

    at_dir : node_at now dir ≡ Some old_dir
    at_dir = node_at-kept k dir p is

    node_dir : full_node k.contents paths' dir (f dir p) ≡ with_names g old_dir
    node_dir = (alike dir p).node (bytes_under k.contents dir) (names_of paths' dir)
        ∙ ap (λ c. let n : Node = record { number = p.number; mode = p.mode; uid = p.uid; gid = p.gid; content = c } in
        n)
        (fuller_content p.kind (bytes_under k.contents dir) (bytes_under k.contents dir) (names_of k.paths dir)
        (names_of
        paths' dir) g is_directory here)

    same_node : (q : List ℕ) → q ≢ dir → option_map (full_node k.contents paths' q) (get nodes' q) ≡
        option_map (full_node k.contents k.paths q) (get k.nodes q)
    same_node q ne =
        elim (get k.nodes q) as (λ o. get k.nodes q ≡ o → option_map (full_node k.contents paths' q) (get nodes' q) ≡
        option_map (full_node k.contents k.paths q) o) [
          | None ↦ λ e. ap (option_map (full_node k.contents paths' q)) (none_after q e)
          | Some x ↦ λ e. ap (option_map (full_node k.contents paths' q)) (kept_after q x e)
              ∙ ap Some ((alike q x).node (bytes_under k.contents q) (names_of paths' q)
              ∙ ap (node_of x (bytes_under k.contents q)) (others q (kept_fits k.nodes next serials q x e) ne))
        ] refl

    at : (q : List ℕ) → node_at (the_tree after) q ≡ node_at changed q
    at q = elim (bytes_or_not q dir) as (λ _. node_at (the_tree after) q ≡ node_at changed q) [
      | inl same ↦ subst (λ q. node_at (the_tree after) q ≡ node_at changed q) (sym same)
          (node_at-kept after dir (f dir p) (kept_after dir p is) ∙ ap Some node_dir
          ∙ sym (node_at-edited_same now dir (with_names g) old_dir at_dir))
      | inr ne ↦ get-nodes_of nodes' k.contents paths' q ∙ same_node q ne
          ∙ sym (node_at-edited_other now dir (with_names g) q ne ∙ get-nodes_of k.nodes k.contents k.paths q)
    ]

    pub tree_after : the_tree after ≡ changed
    tree_after = same_trees (the_tree after) changed (sym (root-edited now dir (with_names g))) at

    pub len_after : len nodes' ≡ len k.nodes
    len_after = sym (len-nodes_of nodes' k.contents paths')
        ∙ ap (λ (t : Tree). len t.nodes) (tree_after ∙ edited-some now dir (with_names g) old_dir at_dir)
        ∙ len-insert_old now.nodes dir (with_names g old_dir) old_dir at_dir ∙ len-nodes_of k.nodes k.contents k.paths
