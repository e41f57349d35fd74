-- A server whose name has moved: the name has gone, and another has come.
use Rattle.std.proofs.Common.{inl, inr, ◌≡◌, ℕ, ◌+◌, ◌-◌, ◌^◌, ◌≤◌, ◌<◌, ◌++◌, Bool, true, false, cond, List, map, Option, Some, None, is_some, IsSomeAnd, refl, sym, ap, ◌∙◌, subst, arith}
use Rattle.std.specs.Prelude.{bytes_eq}
use Rattle.std.specs.Option.{option_map}
use Rattle.std.specs.Cmp.Lexicographic.{nat_list_cmp_total}
use Rattle.std.specs.FinMap.{get, insert, remove, entries, from_entries, get-entries, get-from_entries}
use Rattle.std.proofs.lemmas.Slice.Eq.{bytes_eq-Decides}
use Rattle.nfs2_types.specs.declared.fattr.Kind.{Kind}
use Rattle.nfs2_types.specs.declared.fattr.Kind.TheVariants.{Dir}
use Rattle.path_store.specs.Stored.{Paths, Stored, Moves, moved_path, joined}
use Rattle.server_trait.specs.Tree.{ByBytes, one_if, named, unnamed}
use Rattle.server_trait.specs.declared.server.ServerLimits.{ServerLimits}
use Rattle.server_trait.proofs.SoftLaws.{some_of}
use Rattle.server_trait.proofs.TreeLaws.{some_and, is_some_and, some_same, some_none, bytes_or_not, get-insert_same, get-insert_other, get-remove_same, get-remove_other}
use Rattle.path_server.specs.Bytes.{Contents}
use Rattle.path_server.specs.Kept.{Kept, kept_as, the_tree}
use Rattle.path_server.specs.Movable.{CanMove}
use Rattle.path_server.specs.Nodes.{is_dir, one_less, one_more}
use Rattle.path_server.specs.Sound.{IsSound, IsStored}
use Rattle.path_server.specs.declared.node.PathNode.{PathNode}
use Rattle.path_server.proofs.DropLaws as drop_laws
use Rattle.path_server.proofs.DropLaws.{less_if}
use Rattle.path_server.proofs.LinkLaws.{more_if, tree_more, sound_more}
use Rattle.path_server.proofs.NamedLaws.{IsDirNode, dir_same}
use Rattle.path_server.proofs.NodeLaws.{find-mapped}
use Rattle.path_server.proofs.Recounted.{bytes_differ, bytes_same}
use Rattle.path_server.proofs.SoundLaws.{few_names, few_subdirs}

abbrev kind_in : Option PathNode → Option Kind
kind_in o = option_map (λ (p : PathNode). p.kind) o

-- THE STORE

has_path : {A B : Type 0} (f : A → B) (o : Option A) → is_some (option_map f o) ≡ is_some o
has_path f None = refl
has_path f (Some x) = refl

-- each directory has its path still, and one name at most
stored_again : (nodes nodes' : ByBytes PathNode) (s s' : Stored) (from name to to_name h : List ℕ) →
    IsStored nodes s → IsSomeAnd (get nodes from) IsDirNode → IsSomeAnd (get nodes to) IsDirNode →
    Moves s from name to to_name h s' → ((x : List ℕ) → kind_in (get nodes' x) ≡ kind_in (get nodes x)) →
    ((x : List ℕ) (p : PathNode) → get nodes' x ≡ Some p → p.kind ≡ Dir → p.links ≤ 1) → IsStored nodes' s'
stored_again nodes nodes' s s' from name to to_name h stored from_dir to_dir moves kinds once = record {
  whole = moves.whole;
  dirs = λ x. (
    λ some. dir_same (get nodes x) (get nodes' x) (sym (kinds x)) ((stored.dirs x).0 (sym (still_dirs x) ∙ some)),
    λ d. still_dirs x ∙ (stored.dirs x).1 (dir_same (get nodes' x) (get nodes x) (kinds x) d),
  );
  once = once;
}
  where
    still_dirs : (x : List ℕ) → is_some (get s'.dirs x) ≡ is_some (get s.dirs x)
    still_dirs x =
        let p = some_of (get s.dirs from) ((stored.dirs from).1 from_dir) in
        let q = some_of (get s.dirs to) ((stored.dirs to).1 to_dir) in
        ap is_some (moves.dirs p.0 q.0 x p.1 q.1)
        ∙ has_path (moved_path (joined p.0 name) (joined q.0 to_name)) (get s.dirs x)

-- NODES WITH OTHER COUNTS

recounted : (List ℕ → PathNode → PathNode) → ByBytes PathNode → ByBytes PathNode
recounted f nodes = from_entries (map (λ e. (e.0, f e.0 e.1)) (entries nodes))

get-recounted : (f : List ℕ → PathNode → PathNode) (nodes : ByBytes PathNode) (q : List ℕ) →
    get (recounted f nodes) q ≡ option_map (f q) (get nodes q)
unfolding recounted
get-recounted f nodes q = get-from_entries nat_list_cmp_total _ q ∙ find-mapped f (entries nodes) q
    ∙ ap (option_map (f q)) (sym (get-entries nodes q))

-- a directory put in with one name less
one_put : (nodes : ByBytes PathNode) (from : List ℕ) (p : PathNode) (kind : Kind) → get nodes from ≡ Some p →
    (q : List ℕ) → get (insert nodes from (one_less kind p)) q
    ≡ option_map (less_if kind (bytes_eq from q) false) (get nodes q)
one_put nodes from p kind is q = elim (bytes_or_not q from) as (λ _. get (insert nodes from (one_less kind p)) q
    ≡ option_map (less_if kind (bytes_eq from q) false) (get nodes q)) [
      | inl same ↦ ap (get (insert nodes from (one_less kind p))) same ∙ get-insert_same nodes from (one_less kind p)
          ∙ sym (ap (λ x. option_map (less_if kind (bytes_eq from x) false) (get nodes x)) same
          ∙ ap (option_map (less_if kind (bytes_eq from from) false)) is
          ∙ ap (λ b. Some (less_if kind b false p)) (bytes_same from from refl))
      | inr ne ↦ get-insert_other nodes from (one_less kind p) q ne
          ∙ sym (ap (λ b. option_map (less_if kind b false) (get nodes q)) (bytes_differ from q (λ e. ne (sym e)))
          ∙ stays (get nodes q))
    ]
  where
    stays : (o : Option PathNode) → option_map (less_if kind false false) o ≡ o
    stays None = refl
    stays (Some y) = refl

module _ (limits : ServerLimits) (next bytes : ℕ) (k : Kept) (sound : IsSound limits next bytes k)
    (from name : List ℕ) (p : PathNode) (is_from : get k.nodes from ≡ Some p) (from_dir : p.kind ≡ Dir) (h : List ℕ)
    (leads : get k.paths (from ++ name) ≡ Some h) (x : PathNode) (at_h : get k.nodes h ≡ Some x)
    (to to_name : List ℕ) (q : PathNode) (at_to : get k.nodes to ≡ Some q) (to_dir : q.kind ≡ Dir)
    (new_name : get k.paths (to ++ to_name) ≡ None)
    (into : PathNode) (is_into : get (insert k.nodes from (one_less x.kind p)) to ≡ Some into) where
  -- THE NAME HAS GONE

  abbrev counts : List ℕ → PathNode → PathNode
  counts r y = less_if x.kind (bytes_eq from r) (bytes_eq h r) y

  nodes_between : ByBytes PathNode
  nodes_between = recounted counts k.nodes

  between_by : (r : List ℕ) → get nodes_between r ≡ option_map (counts r) (get k.nodes r)
  unfolding nodes_between
  between_by r = get-recounted counts k.nodes r

  abbrev between : Kept
  between = kept_as k.root nodes_between k.contents (remove k.paths (from ++ name))

  sound_between : IsSound limits next (bytes - 512) between
  sound_between = drop_laws.sound_less limits next bytes k sound from name p is_from from_dir h leads x at_h
      nodes_between between_by

  tree_between : the_tree between ≡ unnamed (the_tree k) from name
  tree_between = drop_laws.tree_less limits next bytes k sound from name p is_from from_dir h leads x at_h
      nodes_between between_by

  still_none : get between.paths (to ++ to_name) ≡ None
  still_none = elim (bytes_or_not (to ++ to_name) (from ++ name)) as (λ _. get between.paths (to ++ to_name) ≡ None) [
    | inl same ↦ ap (get between.paths) same ∙ get-remove_same k.paths (from ++ name)
    | inr ne ↦ get-remove_other k.paths (from ++ name) (to ++ to_name) ne ∙ new_name
  ]

  -- THE COUNTS AFTER BOTH

  into_is : into ≡ less_if x.kind (bytes_eq from to) false q
  into_is = some_same is_into (one_put k.nodes from p x.kind is_from to
      ∙ ap (option_map (less_if x.kind (bytes_eq from to) false)) at_to)

  -- the new counts fit
  few_into : limits.bytes ≤ 1073741824 → (into.names + 1 < 2 ^ 32) × (into.subdirs + 1 < 2 ^ 32)
  few_into most =
      let names = few_names limits next bytes k sound to q at_to to_dir most in
      let subs = few_subdirs limits next bytes k sound to q at_to to_dir most in
      subst (λ (y : PathNode). (y.names + 1 < 2 ^ 32) × (y.subdirs + 1 < 2 ^ 32)) (sym into_is)
      (elim (bytes_eq from to) as (λ b. (cond b (q.names - 1) q.names + 1 < 2 ^ 32)
      × (cond b (q.subdirs - one_if (is_dir x.kind)) q.subdirs + 1 < 2 ^ 32)) [
        | true ↦ (omega (arith, names), omega (arith, subs))
        | false ↦ (names, subs)
      ])

  -- a node's counts, but for the names that lead to it, which are as many
  abbrev final : Bool → Bool → PathNode → PathNode
  final a b y = more_if x.kind b false (less_if x.kind a false y)

  links_again : (a b l : Bool) (y : PathNode) → (l ≡ true → 1 ≤ y.links) →
      final a b y ≡ more_if x.kind b l (less_if x.kind a l y)
  links_again a b true y some = ap (λ n. let z : PathNode = record (final a b y) { links = n } in z)
      (let least = some refl in let same : y.links ≡ (y.links - 1) + 1 = omega (arith, least) in same)
  links_again a b false y some = refl

  some_link : (r : List ℕ) (y : PathNode) → get k.nodes r ≡ Some y → bytes_eq h r ≡ true → 1 ≤ y.links
  some_link r y is t =
      let left = drop_laws.links_left limits next bytes k sound from name p is_from from_dir h leads x at_h
      nodes_between between_by in
      let same : y ≡ x = some_same is (ap (get k.nodes) (sym ((bytes_eq-Decides h r).0 t)) ∙ at_h) in
      let as_many = ap (λ (z : PathNode). z.links) same in
      omega (arith, left, as_many)

  module _ (nodes' : ByBytes PathNode)
      (is_nodes : nodes' ≡ insert (insert k.nodes from (one_less x.kind p)) to (one_more x.kind into)) where
    nodes_final : (r : List ℕ) → get nodes' r ≡ option_map (final (bytes_eq from r) (bytes_eq to r)) (get k.nodes r)
    nodes_final r = ap (λ m. get m r) is_nodes ∙ (elim (bytes_or_not r to) as (λ _.
        get (insert (insert k.nodes from (one_less x.kind p)) to (one_more x.kind into)) r
        ≡ option_map (final (bytes_eq from r) (bytes_eq to r)) (get k.nodes r)) [
          | inl same ↦ ap (get (insert (insert k.nodes from (one_less x.kind p)) to (one_more x.kind into))) same
              ∙ get-insert_same (insert k.nodes from (one_less x.kind p)) to (one_more x.kind into)
              ∙ ap (λ y. Some (one_more x.kind y)) into_is
              ∙ sym (ap (λ s. option_map (final (bytes_eq from s) (bytes_eq to s)) (get k.nodes s)) same
              ∙ ap (option_map (final (bytes_eq from to) (bytes_eq to to))) at_to
              ∙ ap (λ b. Some (final (bytes_eq from to) b q)) (bytes_same to to refl))
          | inr ne ↦ get-insert_other (insert k.nodes from (one_less x.kind p)) to (one_more x.kind into) r ne
              ∙ one_put k.nodes from p x.kind is_from r
              ∙ sym (ap (λ b. option_map (final (bytes_eq from r) b) (get k.nodes r))
              (bytes_differ to r (λ e. ne (sym e))) ∙ no_more (get k.nodes r))
        ])
      where
        no_more : (o : Option PathNode) → option_map (final (bytes_eq from r) false) o
            ≡ option_map (less_if x.kind (bytes_eq from r) false) o
        no_more None = refl
        no_more (Some y) = refl

    nodes_by : (r : List ℕ) → get nodes' r ≡ option_map (more_if x.kind (bytes_eq to r) (bytes_eq h r))
        (get nodes_between r)
    nodes_by r = nodes_final r ∙ (elim (get k.nodes r) as (λ o. get k.nodes r ≡ o →
        option_map (final (bytes_eq from r) (bytes_eq to r)) o
        ≡ option_map (more_if x.kind (bytes_eq to r) (bytes_eq h r)) (option_map (counts r) o)) [
          | None ↦ λ _. refl
          | Some y ↦ λ is. ap Some (links_again (bytes_eq from r) (bytes_eq to r) (bytes_eq h r) y (some_link r y is))
        ] refl) ∙ sym (ap (option_map (more_if x.kind (bytes_eq to r) (bytes_eq h r))) (between_by r))

    abbrev after : Kept
    after = kept_as k.root nodes' k.contents (insert between.paths (to ++ to_name) h)

    at_between : (r : List ℕ) (y : PathNode) → get k.nodes r ≡ Some y → get nodes_between r ≡ Some (counts r y)
    at_between r y is = between_by r ∙ ap (option_map (counts r)) is

    tree_after : the_tree after ≡ named (unnamed (the_tree k) from name) to to_name h
    tree_after = tree_more limits next (bytes - 512) between sound_between to to_name (counts to q)
        (at_between to q at_to) to_dir still_none h (counts h x) (at_between h x at_h) nodes' nodes_by
        ∙ ap (λ t. named t to to_name h) tree_between

    sound_after : IsSound limits next bytes after
    sound_after =
        let least = drop_laws.name_used limits next bytes k sound from name p is_from from_dir h leads x at_h
        nodes_between between_by in
        let most = sound.bytes_most in
        let sum : (bytes - 512) + 512 ≡ bytes = omega (arith, least) in
        subst (λ b. IsSound limits next b after) sum
        (sound_more limits next (bytes - 512) between sound_between to to_name (counts to q) (at_between to q at_to)
        to_dir still_none h (counts h x) (at_between h x at_h) nodes' nodes_by (omega (arith, sum, most)))

    stored_after : (s s' : Stored) → IsStored k.nodes s → Moves s from name to to_name h s' → IsStored nodes' s'
    stored_after s s' stored moves = stored_again k.nodes nodes' s s' from name to to_name h stored
        (is_some_and IsDirNode is_from from_dir) (is_some_and IsDirNode at_to to_dir) moves kinds once
      where
        kinds : (r : List ℕ) → kind_in (get nodes' r) ≡ kind_in (get k.nodes r)
        kinds r = ap kind_in (nodes_final r) ∙ same (get k.nodes r)
          where
            same : (o : Option PathNode) → kind_in (option_map (final (bytes_eq from r) (bytes_eq to r)) o) ≡ kind_in o
            same None = refl
            same (Some y) = refl

        once : (r : List ℕ) (y : PathNode) → get nodes' r ≡ Some y → y.kind ≡ Dir → y.links ≤ 1
        once r y is d = elim (get k.nodes r) as (λ o. get k.nodes r ≡ o →
            option_map (final (bytes_eq from r) (bytes_eq to r)) o ≡ Some y → y.links ≤ 1) [
              | None ↦ λ _ no. absurd (some_none no refl)
              | Some z ↦ λ was e.
                  let same : final (bytes_eq from r) (bytes_eq to r) z ≡ y = sym (some_same e refl) in
                  subst (λ (z' : PathNode). z'.links ≤ 1) same (stored.once r z was
                  (ap (λ (z' : PathNode). z'.kind) same ∙ d))
            ] refl (sym (nodes_final r) ∙ is)

-- the directory counts the name
module _ (limits : ServerLimits) (next bytes : ℕ) (k : Kept) (sound : IsSound limits next bytes k) (from name h : List
    ℕ) (p : PathNode) (kind : Kind) (is_from : get k.nodes from ≡ Some p) (from_dir : p.kind ≡ Dir) (is_moved :
    IsSomeAnd (get k.nodes h) (λ m. m.kind ≡ kind)) (leads : get k.paths (from ++ name) ≡ Some h) where
  kept_moved : (m : PathNode) × (get k.nodes h ≡ Some m) × (m.kind ≡ kind)
  kept_moved = some_and (get k.nodes h) (λ (m : PathNode). m.kind ≡ kind) is_moved

  pub enough_names : 1 ≤ p.names
  enough_names = drop_laws.some_name limits next bytes k sound from name p is_from from_dir h leads kept_moved.0
      kept_moved.1

  pub enough_subdirs : one_if (is_dir kind) ≤ p.subdirs
  enough_subdirs = subst (λ z. one_if (is_dir z) ≤ p.subdirs) kept_moved.2 (drop_laws.some_subdir limits next bytes k
      sound from name p is_from from_dir h leads kept_moved.0 kept_moved.1)

-- WHAT A SERVER CAME TO

-- what is known of a name that moves
pub record Moving (limits : ServerLimits) (next bytes : ℕ) (k : Kept) (from name to to_name h : List ℕ) (kind : Kind)
    (p into : PathNode) : Type 0 where
  pub sound : IsSound limits next bytes k
  pub is_from : (get k.nodes from ≡ Some p) × (p.kind ≡ Dir)
  pub can : CanMove k from name to to_name h kind
  pub is_into : get (insert k.nodes from (one_less kind p)) to ≡ Some into

module _ {limits : ServerLimits} {next bytes : ℕ} {k : Kept} {from name to to_name h : List ℕ} {kind : Kind} {p into :
    PathNode} (m : Moving limits next bytes k from name to to_name h kind p into) where
  moved : (x : PathNode) × (get k.nodes h ≡ Some x) × (x.kind ≡ kind)
  moved = some_and (get k.nodes h) (λ (x : PathNode). x.kind ≡ kind) m.can.is_moved

  goal_dir : (q : PathNode) × (get k.nodes to ≡ Some q) × (q.kind ≡ Dir)
  goal_dir = some_and (get k.nodes to) (λ (q : PathNode). q.kind ≡ Dir) m.can.to_dir

  into_here : get (insert k.nodes from (one_less moved.0.kind p)) to ≡ Some into
  into_here = ap (λ z. get (insert k.nodes from (one_less z p)) to) moved.2 ∙ m.is_into

  -- the new counts fit
  pub few_moved : limits.bytes ≤ 1073741824 → (into.names + 1 < 2 ^ 32) × (into.subdirs + 1 < 2 ^ 32)
  few_moved = few_into limits next bytes k m.sound from name p m.is_from.0 m.is_from.1 h m.can.leads moved.0 moved.1
      to to_name goal_dir.0 goal_dir.1 goal_dir.2 m.can.new_name into into_here

  module _ {nodes' : ByBytes PathNode} {contents' : Contents} {paths' : Paths} (is_nodes : nodes' ≡ insert (insert k.nodes from (one_less kind
      p)) to (one_more kind into)) (is_contents : contents' ≡ k.contents) (is_paths : paths' ≡ insert (remove k.paths (from ++ name)) (to ++ to_name) h) where
    nodes_here : nodes' ≡ insert (insert k.nodes from (one_less moved.0.kind p)) to (one_more moved.0.kind into)
    nodes_here = is_nodes ∙ ap (λ z. insert (insert k.nodes from (one_less z p)) to (one_more z into)) (sym moved.2)

    pub tree_moved : the_tree (kept_as k.root nodes' contents' paths') ≡ named (unnamed (the_tree k) from name) to
        to_name h
    tree_moved = rw (is_contents, is_paths) (tree_after limits next bytes k m.sound from name p m.is_from.0 m.is_from.1 h m.can.leads
        moved.0 moved.1 to to_name goal_dir.0 goal_dir.1 goal_dir.2 m.can.new_name into into_here nodes' nodes_here)

    pub sound_moved : IsSound limits next bytes (kept_as k.root nodes' contents' paths')
    sound_moved = rw (is_contents, is_paths) (sound_after limits next bytes k m.sound from name p m.is_from.0 m.is_from.1 h
        m.can.leads moved.0 moved.1 to to_name goal_dir.0 goal_dir.1 goal_dir.2 m.can.new_name into into_here nodes'
        nodes_here)

    pub stored_moved : (s s' : Stored) → IsStored k.nodes s → Moves s from name to to_name h s' → IsStored nodes' s'
    stored_moved = stored_after limits next bytes k m.sound from name p m.is_from.0 m.is_from.1 h m.can.leads moved.0
        moved.1 to to_name goal_dir.0 goal_dir.1 goal_dir.2 m.can.new_name into into_here nodes' nodes_here
