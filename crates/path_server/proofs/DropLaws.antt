-- A server of which one name less leads to a node that is kept.
use Rattle.std.proofs.Common.{inl, inr, ◌≡◌, ◌≢◌, ◌↔◌, ℕ, ◌+◌, ◌-◌, ◌≤◌, ◌++◌, Bool, true, false, cond, List, length, take, Some, IsSome, IsSomeAnd, is_some, refl, sym, ap, ◌∙◌, subst, arith}
use Rattle.std.specs.Prelude.{bytes_eq}
use Rattle.std.specs.Option.{option_map}
use Rattle.std.specs.FinMap.{get, insert, remove, len}
use Rattle.std.proofs.lemmas.Slice.Eq.{bytes_eq-Decides}
use Rattle.nfs2_types.specs.declared.fattr.Kind.{Kind}
use Rattle.nfs2_types.specs.declared.fattr.Kind.TheVariants.{Dir}
use Rattle.server_trait.specs.Tree.{Tree, Names, ByBytes, NamesOf, is_dir_at, one_if, used, links, subdirs, unnamed, let_go}
use Rattle.server_trait.specs.declared.server.ServerLimits.{ServerLimits}
use Rattle.server_trait.proofs.CountLaws.{subdirs-same}
use Rattle.server_trait.proofs.TreeLaws.{some_none, some_same, bytes_or_not, get-remove_same, get-remove_other}
use Rattle.path_store.specs.Stored.{Paths, Stored, Drops, names_of}
use Rattle.path_server.specs.Bytes.{Contents, bytes_under}
use Rattle.path_server.specs.Kept.{Kept, kept_as, the_tree}
use Rattle.path_server.specs.Nodes.{is_dir, one_less, one_link_less}
use Rattle.path_server.specs.Sound.{IsSound, IsStored, IsCounted, AreNamed}
use Rattle.path_server.specs.declared.node.PathNode.{PathNode}
use Rattle.path_server.proofs.ContentLaws.{dir_content}
use Rattle.path_server.proofs.CountChanges.{len-remove_old, links-unnamed, let_go-linked, subdirs-remove, used-unnamed}
use Rattle.path_store.proofs.NameLaws.{get-names_of}
use Rattle.path_server.proofs.NamesWithout.{names_of-remove_same, names_of-remove_other}
use Rattle.path_server.proofs.NamedLaws.{IsDirNode, leaf_is_no_dir, no_path}
use Rattle.path_server.proofs.NodeLaws.{node_at-kept, node_here, kind_at, is_dir_kind, is_dir_at-kind, same_dirs}
use Rattle.path_server.proofs.Recounted as recount
use Rattle.path_server.proofs.Serials.{kept_fits}

-- The node with its counts after a name went that led to a node of this kind: `here` where it is the directory that had
-- the name, `there` where it is the node.
abbrev pub less_if : Kind → Bool → Bool → PathNode → PathNode
less_if kind here there p = record p {
  names = cond here (p.names - 1) p.names;
  subdirs = cond here (p.subdirs - one_if (is_dir kind)) p.subdirs;
  links = cond there (p.links - 1) p.links;
}

module _ (limits : ServerLimits) (next bytes : ℕ) (k : Kept) (sound : IsSound limits next bytes k)
    (dir name : List ℕ) (p : PathNode) (is : get k.nodes dir ≡ Some p) (is_directory : p.kind ≡ Dir) (h : List ℕ)
    (leads :
    get k.paths (dir ++ name) ≡ Some h) (x : PathNode) (at_h : get k.nodes h ≡ Some x) where
  abbrev paths_less : Paths
  paths_less = remove k.paths (dir ++ name)

  abbrev now : Tree
  now = the_tree k

  abbrev names : Names
  names = names_of k.paths dir

  dir_fits : length dir ≡ 32
  dir_fits = kept_fits k.nodes next sound.serials dir p is

  names_dir : names_of paths_less dir ≡ remove names name
  names_dir = names_of-remove_same dir dir_fits k.paths name

  names_other : (q : List ℕ) → length q ≡ 32 → q ≢ dir → names_of paths_less q ≡ names_of k.paths q
  names_other q fits ne = names_of-remove_other k.paths dir name q dir_fits fits ne

  name_old : get names name ≡ Some h
  name_old = get-names_of dir dir_fits k.paths name ∙ leads

  old_content : (node_here k dir p).content ≡ NamesOf names
  old_content = dir_content p.kind (bytes_under k.contents dir) names is_directory

  len_names : len (remove names name) + 1 ≡ len names
  len_names = len-remove_old names name h name_old

  -- the directory counts the name
  pub some_name : 1 ≤ p.names
  some_name = let size = len_names in let count = (sound.counted dir p is).names in omega (arith, size, count)

  is_dir_here : one_if (is_dir_at now h) ≡ one_if (is_dir x.kind)
  is_dir_here = ap one_if (is_dir_at-kind k h ∙ ap (λ o. is_dir_kind (option_map (λ (p : PathNode). p.kind) o)) at_h)

  pub some_subdir : one_if (is_dir x.kind) ≤ p.subdirs
  some_subdir =
      let less = subdirs-remove now names name h name_old in
      let here = is_dir_here in
      let count = (sound.counted dir p is).subdirs in
      omega (arith, less, here, count)

  module _ (nodes' : ByBytes PathNode) (are : (q : List ℕ) → get nodes' q ≡ option_map (less_if x.kind (bytes_eq dir q)
      (bytes_eq h q)) (get k.nodes q)) where
    abbrev after : Kept
    after = kept_as k.root nodes' k.contents paths_less

    abbrev counts : List ℕ → PathNode → PathNode
    counts q y = less_if x.kind (bytes_eq dir q) (bytes_eq h q) y

    alike : (q : List ℕ) (y : PathNode) → recount.IsRecount y (counts q y)
    alike q y = record { node = λ b m. refl; number = refl; kind = refl }

    -- THE TREE

    pub tree_less : the_tree after ≡ unnamed now dir name
    tree_less = recount.tree_after k nodes' paths_less counts alike are next sound.serials dir p is is_directory (λ m.
        remove m name) names_dir names_other

    len_less : len nodes' ≡ len k.nodes
    len_less = recount.len_after k nodes' paths_less counts alike are next sound.serials dir p is is_directory (λ m.
        remove m name) names_dir names_other

    used_less : used (the_tree after) + 512 ≡ used now
    used_less = ap (λ t. used t + 512) tree_less ∙ used-unnamed now dir name (node_here k dir p) names
        (node_at-kept k dir p
        is) old_content h name_old

    -- COUNTS

    kinds_less : (q : List ℕ) → kind_at after q ≡ kind_at k q
    kinds_less = recount.kinds_after k nodes' paths_less counts alike are

    links_less : (q : List ℕ) → links (the_tree after) q + one_if (bytes_eq h q) ≡ links now q
    links_less q = ap (λ t. links t q + one_if (bytes_eq h q)) tree_less
        ∙ links-unnamed now dir name h (node_here k dir p)
        names q (node_at-kept k dir p is) old_content name_old

    subdirs_old : (m : Names) → subdirs (the_tree after) m ≡ subdirs now m
    subdirs_old m = subdirs-same (the_tree after) now m (λ _ y _. same_dirs after k y (kinds_less y))

    subdirs_dir : subdirs (the_tree after) (remove names name) + one_if (is_dir x.kind) ≡ subdirs now names
    subdirs_dir =
        let less = subdirs-remove now names name h name_old in
        let here = is_dir_here in
        let old = subdirs_old (remove names name) in
        omega (arith, less, here, old)

    names_count : (q : List ℕ) (y : PathNode) → get k.nodes q ≡ Some y → (b : Bool) → bytes_eq dir q ≡ b →
        cond b (y.names - 1) y.names ≡ len (names_of paths_less q)
    names_count q y e true t =
        let same : dir ≡ q = (bytes_eq-Decides dir q).0 t in
        let count = (sound.counted q y e).names in
        let size : len (names_of paths_less q) + 1 ≡ len (names_of k.paths q) = subst
        (λ q. len (names_of paths_less q) + 1 ≡
        len (names_of k.paths q)) same (ap (λ m. len m + 1) names_dir ∙ len_names) in
        omega (arith, count, size)
    names_count q y e false f = (sound.counted q y e).names ∙ sym (ap len (names_other q (kept_fits k.nodes next
        sound.serials q y e) (apart q f)))
      where
        apart : (q : List ℕ) → bytes_eq dir q ≡ false → q ≢ dir
        apart q f same = let bad : true ≡ false = sym (recount.bytes_same dir q (sym same)) ∙ f in cc

    subdirs_count : (q : List ℕ) (y : PathNode) → get k.nodes q ≡ Some y → (b : Bool) → bytes_eq dir q ≡ b →
        cond b (y.subdirs - one_if (is_dir x.kind)) y.subdirs ≡ subdirs (the_tree after) (names_of paths_less q)
    subdirs_count q y e true t =
        let same : dir ≡ q = (bytes_eq-Decides dir q).0 t in
        let count = (sound.counted q y e).subdirs in
        let size : subdirs (the_tree after) (names_of paths_less q) + one_if (is_dir x.kind) ≡ subdirs now
        (names_of k.paths
        q) = subst (λ q. subdirs (the_tree after) (names_of paths_less q) + one_if (is_dir x.kind) ≡ subdirs now
        (names_of
        k.paths q)) same (ap (λ m. subdirs (the_tree after) m + one_if (is_dir x.kind)) names_dir ∙ subdirs_dir) in
        omega (arith, count, size)
    subdirs_count q y e false f = (sound.counted q y e).subdirs ∙ sym (ap (subdirs (the_tree after)) (names_other q
        (kept_fits k.nodes next sound.serials q y e) (apart q f)) ∙ subdirs_old (names_of k.paths q))
      where
        apart : (q : List ℕ) → bytes_eq dir q ≡ false → q ≢ dir
        apart q f same = let bad : true ≡ false = sym (recount.bytes_same dir q (sym same)) ∙ f in cc

    links_count : (q : List ℕ) (y : PathNode) → get k.nodes q ≡ Some y → (b : Bool) → bytes_eq h q ≡ b →
        cond b (y.links - 1) y.links ≡ links (the_tree after) q
    links_count q y e true t = let count = (sound.counted q y e).links in let all = links_less q in
        let one = ap one_if t in omega (arith, count, all, one)
    links_count q y e false f = let count = (sound.counted q y e).links in let all = links_less q in
        let none = ap one_if f in omega (arith, count, all, none)

    counted_less : (q : List ℕ) (y : PathNode) → get k.nodes q ≡ Some y → IsCounted after q (counts q y)
    counted_less q y e = record {
      names = names_count q y e (bytes_eq dir q) refl;
      subdirs = subdirs_count q y e (bytes_eq dir q) refl;
      links = links_count q y e (bytes_eq h q) refl;
    }

    -- WHAT HOLDS AFTER

    named_less : AreNamed nodes' paths_less
    named_less key to at = elim (bytes_or_not key (dir ++ name)) as
        (λ _. IsSomeAnd (get nodes' (take 32 key)) IsDirNode ×
        IsSome (get nodes' to)) [
          | inl same ↦ absurd (some_none at (ap (get paths_less) same ∙ get-remove_same k.paths (dir ++ name)))
          | inr ne ↦
              let both = sound.named key to (sym (get-remove_other k.paths (dir ++ name) key ne) ∙ at) in (
                recount.dir_after k nodes' paths_less counts alike are (take 32 key) both.0,
                recount.grows k nodes' paths_less counts alike are to both.1,
              )
        ]

    -- the name's bytes were counted
    pub name_used : 512 ≤ bytes
    name_used = let all = sound.bytes_used in let change = used_less in omega (arith, all, change)

    pub sound_less : IsSound limits next (bytes - 512) after
    sound_less = record {
      serials = recount.serials_after k nodes' paths_less counts alike are next sound.serials;
      named = named_less;
      counted = recount.each_after k nodes' paths_less counts alike are (IsCounted after) counted_less;
      bytes_used = let all = sound.bytes_used in let change = used_less in omega (arith, all, change);
      bytes_most = let most = sound.bytes_most in omega (arith, most);
      nodes_most = let same = len_less in let most = sound.nodes_most in omega (arith, same, most);
    }

    -- a store with as many directories
    pub stored_less : (store store' : Stored) → IsStored k.nodes store → store'.whole ≡ true → ((q : List ℕ) →
        IsSome (get store'.dirs q) ↔ IsSome (get store.dirs q)) → IsStored nodes' store'
    stored_less store store' stored whole dirs = record {
      whole = whole;
      dirs = λ q. (
        λ there. recount.dir_after k nodes' paths_less counts alike are q ((stored.dirs q).0 ((dirs q).0 there)),
        λ there. (dirs q).1 ((stored.dirs q).1 (recount.dir_before k nodes' paths_less counts alike are q there)),
      );
      once = recount.each_after k nodes' paths_less counts alike are (λ q y. y.kind ≡ Dir → y.links ≤ 1)
          (λ q y e is_dir. few
          y (bytes_eq h q) (stored.once q y e is_dir));
    }
      where
        few : (y : PathNode) → (b : Bool) → y.links ≤ 1 → cond b (y.links - 1) y.links ≤ 1
        few y true most = omega (arith, most)
        few y false most = most

    -- the links that the node has left
    pub links_left : links (the_tree after) h + 1 ≡ x.links
    links_left = let all = links_less h in let one = ap one_if (recount.bytes_same h h refl) in
        let count = (sound.counted h x at_h).links in omega (arith, all, one, count)

-- the same, of what a server came to: the node is no directory, and keeps other names
module _ (limits : ServerLimits) (next bytes : ℕ) (k : Kept) (sound : IsSound limits next bytes k)
    (dir name : List ℕ) (p : PathNode) (is : get k.nodes dir ≡ Some p) (is_directory : p.kind ≡ Dir) (h : List ℕ)
    (leads :
    get k.paths (dir ++ name) ≡ Some h) (x : PathNode) (at_h : get k.nodes h ≡ Some x) (other : x.kind ≢ Dir)
    (nodes' : ByBytes PathNode)
    (is_nodes : nodes' ≡ insert (insert k.nodes dir (one_less x.kind p)) h (one_link_less x))
    (contents' : Contents) (is_contents : contents' ≡ k.contents)
    (store store' : Stored) (is_paths : k.paths ≡ store.names) (drops : Drops store dir name h store') where
  are_dropped : (q : List ℕ) → get nodes' q ≡ option_map (less_if x.kind (bytes_eq dir q) (bytes_eq h q))
      (get k.nodes q)
  are_dropped q = ap (λ m. get m q) is_nodes ∙ recount.two_puts k.nodes dir h p (one_less x.kind p) x (one_link_less x)
      (less_if x.kind) is at_h
      (λ same. other (ap (λ (p : PathNode). p.kind) (some_same at_h (ap (get k.nodes) same ∙ is))
      ∙ is_directory)) refl refl (λ y. refl) q

  abbrev dropped : Kept
  dropped = kept_as k.root nodes' contents' store'.names

  kept_dropped : dropped ≡ kept_as k.root nodes' k.contents (remove k.paths (dir ++ name))
  kept_dropped = ap (λ c. kept_as k.root nodes' c store'.names) is_contents
      ∙ ap (λ m. kept_as k.root nodes' k.contents m) drops.names
      ∙ ap (λ m. kept_as k.root nodes' k.contents (remove m (dir ++ name))) (sym is_paths)

  pub few_dropped : 512 ≤ bytes
  few_dropped = name_used limits next bytes k sound dir name p is is_directory h leads x at_h nodes' are_dropped

  pub tree_dropped : 2 ≤ x.links → the_tree dropped ≡ let_go (unnamed (the_tree k) dir name) h
  tree_dropped more =
      let left = links_left limits next bytes k sound dir name p is is_directory h leads x at_h nodes' are_dropped in
      let tree = tree_less limits next bytes k sound dir name p is is_directory h leads x at_h nodes' are_dropped in
      ap the_tree kept_dropped ∙ tree
      ∙ sym (let_go-linked (unnamed (the_tree k) dir name) h (let same = ap (λ t. links t h) tree in
      omega (arith, left, same, more)))

  pub sound_dropped : IsSound limits next (bytes - 512) dropped
  sound_dropped = subst (IsSound limits next (bytes - 512)) (sym kept_dropped)
      (sound_less limits next bytes k sound dir name p is is_directory h leads x at_h nodes' are_dropped)

  pub stored_dropped : IsStored k.nodes store → IsStored nodes' store'
  stored_dropped stored =
      stored_less limits next bytes k sound dir name p is is_directory h leads x at_h nodes' are_dropped
      store store' stored drops.whole (λ q. (
        λ there. ap is_some (sym (dirs_same q)) ∙ there,
        λ there. ap is_some
            (dirs_same q) ∙ there,
      ))
    where
      dirs_same : (q : List ℕ) → get store'.dirs q ≡ get store.dirs q
      dirs_same q = ap (λ m. get m q) drops.dirs ∙ (elim (bytes_or_not q h) as (λ _. get (remove store.dirs h) q ≡ get
          store.dirs q) [
            | inl same ↦ ap (get (remove store.dirs h)) same ∙ get-remove_same store.dirs h
                ∙ sym (ap (get store.dirs) same ∙ no_path k.nodes store stored h
                (leaf_is_no_dir k.nodes h x (at_h, other)))
            | inr ne ↦ get-remove_other store.dirs h q ne
          ])
