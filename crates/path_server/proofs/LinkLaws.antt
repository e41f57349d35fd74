-- A server of which one name more leads to a node that is kept.
use Rattle.std.proofs.Common.{inl, inr, ◌≡◌, ◌≢◌, ◌↔◌, ℕ, ◌+◌, ◌≤◌, ◌++◌, Bool, true, false, cond, List, length, take, Some, None, IsSome, IsSomeAnd, is_some, refl, sym, ap, ◌∙◌, subst, arith}
use Rattle.std.specs.Prelude.{bytes_eq}
use Rattle.std.specs.Option.{option_map}
use Rattle.std.specs.FinMap.{get, insert, len}
use Rattle.std.proofs.lemmas.Slice.Eq.{bytes_eq-Decides}
use Rattle.nfs2_types.specs.declared.fattr.Kind.{Kind}
use Rattle.nfs2_types.specs.declared.fattr.Kind.TheVariants.{Dir}
use Rattle.server_trait.specs.Tree.{Tree, Names, ByBytes, NamesOf, is_dir_at, one_if, used, links, subdirs, named}
use Rattle.server_trait.specs.declared.server.ServerLimits.{ServerLimits}
use Rattle.server_trait.proofs.CountLaws.{links-named, subdirs-same, subdirs-insert_new}
use Rattle.server_trait.proofs.TreeLaws.{some_same, is_some_and, bytes_or_not, get-insert_same, get-insert_other}
use Rattle.path_store.specs.Stored.{Paths, Stored, names_of, with_name}
use Rattle.path_server.specs.Bytes.{Contents, bytes_under}
use Rattle.path_server.specs.Kept.{Kept, kept_as, the_tree}
use Rattle.path_server.specs.Nodes.{is_dir, one_more, one_link_more}
use Rattle.path_server.specs.Sound.{IsSound, IsStored, IsCounted, AreNamed}
use Rattle.path_server.specs.declared.node.PathNode.{PathNode}
use Rattle.path_server.proofs.ContentLaws.{dir_content}
use Rattle.path_server.proofs.CountChanges.{len-insert_new, used-named}
use Rattle.path_store.proofs.NameLaws.{start_of, get-names_of, names_of-insert_same, names_of-insert_other}
use Rattle.path_server.proofs.NamedLaws.{IsDirNode, some_is}
use Rattle.path_server.proofs.NodeLaws.{node_at-kept, node_here, kind_at, is_dir_kind, is_dir_at-kind, same_dirs}
use Rattle.path_server.proofs.Recounted as recount
use Rattle.path_server.proofs.Serials.{kept_fits}

-- The node with its counts after a name was added that leads to a node of this kind: `here` where it is the directory
-- that has the name, `there` where it is the node.
abbrev pub more_if : Kind → Bool → Bool → PathNode → PathNode
more_if kind here there p = record p {
  names = cond here (p.names + 1) p.names;
  subdirs = cond here (p.subdirs + one_if (is_dir kind)) p.subdirs;
  links = cond there (p.links + 1) p.links;
}

module _ (limits : ServerLimits) (next bytes : ℕ) (k : Kept) (sound : IsSound limits next bytes k)
    (dir name : List ℕ) (p : PathNode) (is : get k.nodes dir ≡ Some p) (is_directory : p.kind ≡ Dir) (new_name : get
    k.paths (dir ++ name) ≡ None)
    (h : List ℕ) (x : PathNode) (at_h : get k.nodes h ≡ Some x)
    (nodes' : ByBytes PathNode) (are : (q : List ℕ) → get nodes' q ≡ option_map (more_if x.kind (bytes_eq dir q)
    (bytes_eq h q)) (get k.nodes q)) where
  abbrev paths_more : Paths
  paths_more = insert k.paths (dir ++ name) h

  abbrev after : Kept
  after = kept_as k.root nodes' k.contents paths_more

  abbrev now : Tree
  now = the_tree k

  abbrev names : Names
  names = names_of k.paths dir

  abbrev counts : List ℕ → PathNode → PathNode
  counts q y = more_if x.kind (bytes_eq dir q) (bytes_eq h q) y

  alike : (q : List ℕ) (y : PathNode) → recount.IsRecount y (counts q y)
  alike q y = record { node = λ b m. refl; number = refl; kind = refl }

  dir_fits : length dir ≡ 32
  dir_fits = kept_fits k.nodes next sound.serials dir p is

  names_dir : names_of paths_more dir ≡ insert names name h
  names_dir = names_of-insert_same dir dir_fits k.paths name h

  names_other : (q : List ℕ) → length q ≡ 32 → q ≢ dir → names_of paths_more q ≡ names_of k.paths q
  names_other q fits ne = names_of-insert_other k.paths dir name h q dir_fits fits ne

  name_new : get names name ≡ None
  name_new = get-names_of dir dir_fits k.paths name ∙ new_name

  old_content : (node_here k dir p).content ≡ NamesOf names
  old_content = dir_content p.kind (bytes_under k.contents dir) names is_directory

  -- THE TREE

  pub tree_more : the_tree after ≡ named now dir name h
  tree_more = recount.tree_after k nodes' paths_more counts alike are next sound.serials dir p is is_directory (λ m.
      insert m name h) names_dir names_other

  len_more : len nodes' ≡ len k.nodes
  len_more = recount.len_after k nodes' paths_more counts alike are next sound.serials dir p is is_directory (λ m.
      insert m name h) names_dir names_other

  used_more : used (the_tree after) ≡ used now + 512
  used_more = ap used tree_more ∙ used-named now dir name (node_here k dir p) names
      (node_at-kept k dir p is) old_content
      h name_new

  -- COUNTS

  kinds_more : (q : List ℕ) → kind_at after q ≡ kind_at k q
  kinds_more = recount.kinds_after k nodes' paths_more counts alike are

  links_more : (q : List ℕ) → links (the_tree after) q ≡ links now q + one_if (bytes_eq h q)
  links_more q = ap (λ t. links t q) tree_more ∙ links-named now dir name h (node_here k dir p) names q (node_at-kept k
      dir p is) old_content name_new

  subdirs_old : (m : Names) → subdirs (the_tree after) m ≡ subdirs now m
  subdirs_old m = subdirs-same (the_tree after) now m (λ _ y _. same_dirs after k y (kinds_more y))

  subdirs_dir : subdirs (the_tree after) (insert names name h) ≡ subdirs now names + one_if (is_dir x.kind)
  subdirs_dir =
      let more = subdirs-insert_new (the_tree after) names name h name_new in
      let here : one_if (is_dir_at (the_tree after) h) ≡ one_if (is_dir x.kind) = ap one_if (is_dir_at-kind after h
      ∙ ap is_dir_kind (kinds_more h ∙ ap (option_map (λ (p : PathNode). p.kind)) at_h)) in
      let old = subdirs_old names in
      omega (arith, more, here, old)

  len_names : len (insert names name h) ≡ len names + 1
  len_names = len-insert_new names name h name_new

  names_count : (q : List ℕ) (y : PathNode) → get k.nodes q ≡ Some y → (b : Bool) → bytes_eq dir q ≡ b →
      cond b (y.names + 1) y.names ≡ len (names_of paths_more q)
  names_count q y e true t =
      let same : dir ≡ q = (bytes_eq-Decides dir q).0 t in
      let count = (sound.counted q y e).names in
      let size : len (names_of paths_more q) ≡ len (names_of k.paths q) + 1 = subst (λ q. len (names_of paths_more q) ≡
      len (names_of k.paths q) + 1) same (ap len names_dir ∙ len_names) in
      omega (arith, count, size)
  names_count q y e false f = (sound.counted q y e).names ∙ sym (ap len (names_other q (kept_fits k.nodes next
      sound.serials q y e) (apart q f)))
    where
      apart : (q : List ℕ) → bytes_eq dir q ≡ false → q ≢ dir
      apart q f same = let bad : true ≡ false = sym (recount.bytes_same dir q (sym same)) ∙ f in cc

  subdirs_count : (q : List ℕ) (y : PathNode) → get k.nodes q ≡ Some y → (b : Bool) → bytes_eq dir q ≡ b →
      cond b (y.subdirs + one_if (is_dir x.kind)) y.subdirs ≡ subdirs (the_tree after) (names_of paths_more q)
  subdirs_count q y e true t =
      let same : dir ≡ q = (bytes_eq-Decides dir q).0 t in
      let count = (sound.counted q y e).subdirs in
      let size : subdirs (the_tree after) (names_of paths_more q) ≡ subdirs now (names_of k.paths q) + one_if (is_dir
      x.kind) = subst (λ q. subdirs (the_tree after) (names_of paths_more q) ≡ subdirs now (names_of k.paths q) + one_if
      (is_dir x.kind)) same (ap (subdirs (the_tree after)) names_dir ∙ subdirs_dir) in
      omega (arith, count, size)
  subdirs_count q y e false f = (sound.counted q y e).subdirs ∙ sym (ap (subdirs (the_tree after)) (names_other q
      (kept_fits k.nodes next sound.serials q y e) (apart q f)) ∙ subdirs_old (names_of k.paths q))
    where
      apart : (q : List ℕ) → bytes_eq dir q ≡ false → q ≢ dir
      apart q f same = let bad : true ≡ false = sym (recount.bytes_same dir q (sym same)) ∙ f in cc

  links_count : (q : List ℕ) (y : PathNode) → get k.nodes q ≡ Some y → (b : Bool) → bytes_eq h q ≡ b →
      cond b (y.links + 1) y.links ≡ links (the_tree after) q
  links_count q y e true t = let count = (sound.counted q y e).links in let all = links_more q in
      let one = ap one_if t in omega (arith, count, all, one)
  links_count q y e false f = let count = (sound.counted q y e).links in let all = links_more q in
      let none = ap one_if f in omega (arith, count, all, none)

  counted_more : (q : List ℕ) (y : PathNode) → get k.nodes q ≡ Some y → IsCounted after q (counts q y)
  counted_more q y e = record {
    names = names_count q y e (bytes_eq dir q) refl;
    subdirs = subdirs_count q y e (bytes_eq dir q) refl;
    links = links_count q y e (bytes_eq h q) refl;
  }

  -- WHAT HOLDS AFTER

  named_more : AreNamed nodes' paths_more
  named_more key to at = elim (bytes_or_not key (dir ++ name)) as (λ _. IsSomeAnd (get nodes' (take 32 key)) IsDirNode ×
      IsSome (get nodes' to)) [
        | inl same ↦
            let is_dir : take 32 key ≡ dir = ap (take 32) same ∙ start_of dir name dir_fits in
            let is_to : h ≡ to = some_same (get-insert_same k.paths (dir ++ name) h)
            (ap (get paths_more) (sym same) ∙ at) in (
              subst (λ d. IsSomeAnd (get nodes' d) IsDirNode) (sym is_dir)
                  (recount.dir_after k nodes' paths_more counts alike
                  are dir (is_some_and IsDirNode is is_directory)),
              subst (λ d. IsSome (get nodes' d)) is_to
                  (recount.grows k nodes' paths_more counts alike are h (some_is at_h)),
            )
        | inr ne ↦
            let both = sound.named key to (sym (get-insert_other k.paths (dir ++ name) h key ne) ∙ at) in (
              recount.dir_after k nodes' paths_more counts alike are (take 32 key) both.0,
              recount.grows k nodes' paths_more counts alike are to both.1,
            )
      ]

  pub sound_more : bytes + 512 ≤ limits.bytes → IsSound limits next (bytes + 512) after
  sound_more room = record {
    serials = recount.serials_after k nodes' paths_more counts alike are next sound.serials;
    named = named_more;
    counted = recount.each_after k nodes' paths_more counts alike are (IsCounted after) counted_more;
    bytes_used = let all = sound.bytes_used in let change = used_more in omega (arith, all, change);
    bytes_most = room;
    nodes_most = let same = len_more in let most = sound.nodes_most in omega (arith, same, most);
  }

  -- a store with as many directories, where a directory had no name before
  pub stored_more : (store store' : Stored) → IsStored k.nodes store → store'.whole ≡ true → ((q : List ℕ) →
      IsSome (get store'.dirs q) ↔ IsSome (get store.dirs q)) → (x.kind ≡ Dir → x.links ≡ 0) → IsStored nodes' store'
  stored_more store store' stored whole dirs first = record {
    whole = whole;
    dirs = λ q. (
      λ there. recount.dir_after k nodes' paths_more counts alike are q ((stored.dirs q).0 ((dirs q).0 there)),
      λ there. (dirs q).1 ((stored.dirs q).1 (recount.dir_before k nodes' paths_more counts alike are q there)),
    );
    once = recount.each_after k nodes' paths_more counts alike are (λ q y. y.kind ≡ Dir → y.links ≤ 1)
        (λ q y e. few q y e
        (bytes_eq h q) refl);
  }
    where
      few : (q : List ℕ) (y : PathNode) → get k.nodes q ≡ Some y → (b : Bool) → bytes_eq h q ≡ b → y.kind ≡ Dir →
          cond b (y.links + 1) y.links ≤ 1
      few q y e true t is_dir =
          let same : y ≡ x = some_same e (ap (get k.nodes) (sym ((bytes_eq-Decides h q).0 t)) ∙ at_h) in
          let none = first (ap (λ (p : PathNode). p.kind) (sym same) ∙ is_dir) in
          let as_many = ap (λ (p : PathNode). p.links) same in
          omega (arith, none, as_many)
      few q y e false f is_dir = stored.once q y e is_dir

-- the same, of what a server came to: the node is no directory
module _ (limits : ServerLimits) (next bytes : ℕ) (k : Kept) (sound : IsSound limits next bytes k)
    (dir name : List ℕ) (p : PathNode) (is : get k.nodes dir ≡ Some p) (is_directory : p.kind ≡ Dir) (new_name : get
    k.paths (dir ++ name) ≡ None)
    (h : List ℕ) (x : PathNode) (at_h : get k.nodes h ≡ Some x) (other : x.kind ≢ Dir)
    (nodes' : ByBytes PathNode)
    (is_nodes : nodes' ≡ insert (insert k.nodes dir (one_more x.kind p)) h (one_link_more x))
    (contents' : Contents) (is_contents : contents' ≡ k.contents)
    (store store' : Stored) (is_paths : k.paths ≡ store.names) (is_store : store' ≡ with_name store dir name h) where
  not_one : h ≢ dir
  not_one same = other (ap (λ (p : PathNode). p.kind) (some_same at_h (ap (get k.nodes) same ∙ is)) ∙ is_directory)

  are_linked : (q : List ℕ) → get nodes' q ≡ option_map (more_if x.kind (bytes_eq dir q) (bytes_eq h q)) (get k.nodes q)
  are_linked q = ap (λ m. get m q) is_nodes ∙ recount.two_puts k.nodes dir h p (one_more x.kind p) x (one_link_more x)
      (more_if x.kind) is at_h not_one refl refl (λ y. refl) q

  kept_linked : kept_as k.root nodes' contents' store'.names
      ≡ kept_as k.root nodes' k.contents (insert k.paths (dir ++ name) h)
  kept_linked = ap (λ c. kept_as k.root nodes' c store'.names) is_contents
      ∙ ap (λ (s : Stored). kept_as k.root nodes' k.contents s.names) is_store
      ∙ ap (λ m. kept_as k.root nodes' k.contents (insert m (dir ++ name) h)) (sym is_paths)

  pub tree_linked : the_tree (kept_as k.root nodes' contents' store'.names) ≡ named (the_tree k) dir name h
  tree_linked = ap the_tree kept_linked
      ∙ tree_more limits next bytes k sound dir name p is is_directory new_name h x at_h nodes' are_linked

  pub sound_linked : bytes + 512 ≤ limits.bytes →
      IsSound limits next (bytes + 512) (kept_as k.root nodes' contents' store'.names)
  sound_linked room = subst (IsSound limits next (bytes + 512)) (sym kept_linked)
      (sound_more limits next bytes k sound dir name p is is_directory new_name h x at_h nodes' are_linked room)

  pub stored_linked : IsStored k.nodes store → IsStored nodes' store'
  stored_linked stored = stored_more limits next bytes k sound dir name p is is_directory new_name h x at_h nodes'
      are_linked store store' stored (ap (λ (s : Stored). s.whole) is_store ∙ stored.whole) (λ q.
      let same = ap (λ (s : Stored). is_some (get s.dirs q)) is_store in (
        λ there. sym same ∙ there,
        λ there. same ∙ there,
      )) (λ is_dir. absurd (other is_dir))
