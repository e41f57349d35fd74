-- What one record more does to the tree.
use Rattle.std.proofs.Common.{◌≡◌, ◌≢◌, ◌∙◌, inl, inr, ◌+◌, ◌++◌, ◌<◌, ◌≤◌, ◌&&◌, ℕ, suc, zero, List, ◌∷◌, true, false, Some, None, cond, length, take, drop, refl, sym, ap, subst, bytes_eq, arith}
use Rattle.std.specs.Prelude.{◌==◌, option_map, option_and_then, replicate}
use Rattle.std.proofs.lemmas.Grind.{common_steps}
use Rattle.std.specs.Int.{to_be_bytes, from_be_bytes, w32, w64}
use Rattle.std.proofs.lemmas.List.{take_at, drop_at, take_all, take-append-drop, length-take}
use Rattle.std.proofs.lemmas.Slice.Eq.{bytes_eq-Decides}
use Rattle.std.specs.FinMap.{get, insert, remove, from_entries}
use Rattle.nfs2_types.specs.declared.fattr.Kind.{Kind}
use Rattle.nfs2_types.specs.declared.fattr.Kind.TheVariants.{File, Dir, Link}
use Rattle.server_trait.specs.Tree.{ByBytes, Node, Tree, Content, with_node, without_node}
use Rattle.server_trait.proofs.TreeLaws.{bytes_or_not, get-insert_same, get-insert_other, get-remove_same, get-remove_other, same_answers}
use Rattle.log_segments.specs.Newest.{after, find}
use Rattle.log_segments.specs.Record.{is_gone, key_of}
use Rattle.log_segments.proofs.Finds.{find-after}
use Rattle.log_records.specs.Layout.{node_key, name_key, chunk_key, value_of, node_in, child_in}
use Rattle.log_tree.specs.Held.{Records, handle_of, root_id, node_view, name_view, chunk_and, bytes_from, bytes_of, names_of, content_of, id_of, node_of, tree_of}
use Rattle.log_tree.specs.Laws.{IsOfNode, IsInside, InsideLaws, OfInside}
use Rattle.log_tree.proofs.Views.{seen, get-view, after_unseen, find-key, name_back, names_inverse, node_back, node_back-handle, nodes_inverse}

-- WHAT A RECORD LEAVES ALONE

-- the same chunks are the same bytes
pub bytes_from-same : (most : ℕ) (live new : Records) (id : List ℕ) (place : ℕ)
    → ((p : ℕ) → place ≤ p → p < place + most → find (chunk_key id p) new ≡ find (chunk_key id p) live)
    → bytes_from most new id place ≡ bytes_from most live id place
unfolding bytes_from
bytes_from-same zero live new id place same = refl
bytes_from-same (suc most) live new id place same =
    ap (λ o. chunk_and o (bytes_from most new id (place + 1))) (same place (omega arith) (omega arith))
    ∙ ap (chunk_and (find (chunk_key id place) live))
    (bytes_from-same most live new id (place + 1) (λ p low high. same p (omega arith) (omega arith)))

pub bytes_of-same : (live new : Records) (id : List ℕ) → ((p : ℕ)
    → find (chunk_key id p) new ≡ find (chunk_key id p) live)
    → bytes_of new id ≡ bytes_of live id
unfolding bytes_of
bytes_of-same live new id same = bytes_from-same 17477 live new id 0 (λ p low high. same p)

pub names_of-same : (live : Records) (r dir : List ℕ) → name_view dir (key_of r) ≡ None
    → names_of (after live r) dir ≡ names_of live dir
unfolding names_of
names_of-same live r dir none = ap from_entries (after_unseen (name_view dir) (λ x. handle_of (child_in
    (value_of x))) live r none)

-- another key is found as before
pub find-other : (live : Records) (r k : List ℕ) → bytes_eq (key_of r) k ≡ false → find k (after live r) ≡ find k live
find-other live r k other = find-after live r k ∙ ap (λ b. cond b (cond (is_gone r) None (Some r)) (find k live)) other

pub apart : (a b : List ℕ) → a ≢ b → bytes_eq a b ≡ false
apart a b ne = elim (bytes_eq a b) as (λ t. bytes_eq a b ≡ t → t ≡ false)
    [ true ↦ (λ e. absurd (ne ((bytes_eq-Decides a b).0 e))) | false ↦ (λ e. refl) ] refl

content_of-same : (live new : Records) (id : List ℕ) (kind : Kind) → bytes_of new id ≡ bytes_of live id
    → names_of new id ≡ names_of live id
    → content_of new id kind ≡ content_of live id kind
content_of-same live new id File bytes names = ap Content.BytesOf bytes
content_of-same live new id Dir bytes names = ap Content.NamesOf names
content_of-same live new id Link bytes names = ap Content.TextOf bytes

pub node_of-same : (live new : Records) (x : List ℕ) → bytes_of new (id_of x) ≡ bytes_of live (id_of x)
    → names_of new (id_of x) ≡ names_of live (id_of x)
    → node_of new x ≡ node_of live x
node_of-same live new x bytes names =
    let n = node_in (value_of x) in
    ap (λ c. record { number = from_be_bytes w64 (id_of x); mode = n.mode; uid = n.uid; gid = n.gid; content = c })
    (content_of-same live new (id_of x) n.kind bytes names)

-- THE NODES OF A TREE

-- the node at a handle
pub node_at-tree : (live : Records) (q : List ℕ)
    → get (tree_of live).nodes q ≡ seen node_view node_back (node_of live) nodes_inverse live q
unfolding tree_of
node_at-tree live q = get-view node_view node_back (node_of live) nodes_inverse live q

-- the node of an id
pub node_at-id : (live : Records) (id : List ℕ) → length id ≡ 8
    → get (tree_of live).nodes (handle_of id) ≡ option_map (node_of live) (find (node_key id) live)
node_at-id live id eight =
    node_at-tree live (handle_of id) ∙ ap (λ o. option_and_then (λ k. option_map (node_of live) (find k live)) o)
    (node_back-handle id eight)

-- trees with the same nodes at each handle
same_tree : (live new : Records) (t : Tree) → t.root ≡ handle_of root_id → ((q : List ℕ)
    → get (tree_of new).nodes q ≡ get t.nodes q) → tree_of new ≡ t
unfolding tree_of
same_tree live new t root nodes =
    ap (λ (m : ByBytes Node). record { root = handle_of root_id; nodes = m }) (same_answers
    (tree_of new).nodes t.nodes nodes)
    ∙ ap (λ (h : List ℕ). record { root = h; nodes = t.nodes }) (sym root)

pub root-tree : (live : Records) → (tree_of live).root ≡ handle_of root_id
unfolding tree_of
root-tree live = refl

-- where a handle leads back to
pub record IsBack (q k : List ℕ) : Type 0 where
  pub key : k ≡ 1 ∷ take 8 q
  pub eight : length (take 8 q) ≡ 8
  pub handle : q ≡ handle_of (take 8 q)

pub back_is : (q k : List ℕ) → node_back q ≡ Some k → IsBack q k
back_is q k h =
    elim (length q == 32) as (λ b. (length q == 32) ≡ b
    → cond (b && bytes_eq (drop 8 q) (replicate 24 0)) (Some (1 ∷ take 8 q)) None ≡ Some k → IsBack q k) [
      | true ↦ (λ e. elim (bytes_eq (drop 8 q) (replicate 24 0)) as (λ m. bytes_eq (drop 8 q) (replicate 24 0) ≡ m
          → cond m (Some (1 ∷ take 8 q)) None ≡ Some k → IsBack q k) [
            | true ↦ (λ f w.
                let long : length q ≡ 32 = grind (arith, common_steps) in
                let rest : drop 8 q ≡ replicate 24 0 = (bytes_eq-Decides (drop 8 q) (replicate 24 0)).0 f in
                record {
                  key = cc;
                  eight = omega (arith, length-take 8 q);
                  handle = sym (take-append-drop 8 q) ∙ ap (λ xs. take 8 q ++ xs) rest;
                })
            | false ↦ (λ f w. cc)
          ] refl)
      | false ↦ (λ e w. cc)
    ] refl h

-- a node that no record touches
pub kept_node : (live new : Records) (q : List ℕ) → ((k : List ℕ) → IsBack q k → find k new ≡ find k live)
    → ((k x : List ℕ) → IsBack q k → find k live ≡ Some x → node_of new x ≡ node_of live x)
    → get (tree_of new).nodes q ≡ get (tree_of live).nodes q
kept_node live new q keys nodes =
    node_at-tree new q
    ∙ (elim (node_back q) as (λ o. node_back q ≡ o
    → option_and_then (λ k. option_map (node_of new) (find k new)) o
    ≡ option_and_then (λ k. option_map (node_of live) (find k live)) o) [
      | None ↦ (λ e. refl)
      | Some k ↦ (λ e.
          let back = back_is q k e in
          ap (option_map (node_of new)) (keys k back)
          ∙ elim (find k live) as (λ o. find k live ≡ o → option_map (node_of new) o ≡ option_map (node_of live) o)
          [ None ↦ (λ w. refl) | Some x ↦ (λ w. ap Some (nodes k x back w)) ] refl)
    ] refl
    ∙ sym (node_at-tree live q))

-- A NODE'S RECORD

module _ (live : Records) (r id : List ℕ) (is : IsOfNode r id) where
  -- what any node contains stays
  nodes_stay : (x : List ℕ) → node_of (after live r) x ≡ node_of live x
  nodes_stay x =
      node_of-same live (after live r) x
      (bytes_of-same live (after live r) (id_of x) (λ p. find-other live r (chunk_key (id_of x) p) (ap
      (λ k. bytes_eq k (chunk_key (id_of x) p)) is.key)))
      (names_of-same live r (id_of x) (ap (name_view (id_of x)) is.key))

  other_nodes : (q : List ℕ) → q ≢ handle_of id → get (tree_of (after live r)).nodes q ≡ get (tree_of live).nodes q
  other_nodes q ne = kept_node live (after live r) q
      (λ k back. find-other live r k (apart (key_of r) k (λ e.
      let same : 1 ∷ id ≡ 1 ∷ take 8 q = sym is.key ∙ (e ∙ back.key) in
      let ids : id ≡ take 8 q = cc in
      ne (back.handle ∙ ap handle_of (sym ids)))))
      (λ k x back w. nodes_stay x)

  found : find (node_key id) (after live r) ≡ cond (is_gone r) None (Some r)
  found =
      find-after live r (node_key id)
      ∙ ap (λ b. cond b (cond (is_gone r) None (Some r)) (find (node_key id) live)) ((bytes_eq-Decides (key_of r)
      (node_key id)).1 is.key)

  here : get (tree_of (after live r)).nodes (handle_of id)
      ≡ option_map (node_of (after live r)) (cond (is_gone r) None (Some r))
  here = node_at-id (after live r) id is.size ∙ ap (option_map (node_of (after live r))) found

  pub node_puts : is_gone r ≡ false → tree_of (after live r) ≡ with_node (tree_of live) (handle_of id) (node_of live r)
  node_puts stands = same_tree live (after live r) (with_node (tree_of live) (handle_of id) (node_of live r))
      (root-tree live) (λ q.
      elim (bytes_or_not q (handle_of id)) as (λ _. get (tree_of (after live r)).nodes q
      ≡ get (insert (tree_of live).nodes (handle_of id) (node_of live r)) q) [
        | inl e ↦ subst (λ h. get (tree_of (after live r)).nodes h
            ≡ get (insert (tree_of live).nodes (handle_of id) (node_of live r)) h) (sym e)
            (here ∙ (ap (λ g. option_map (node_of (after live r)) (cond g None (Some r))) stands
            ∙ (ap Some (nodes_stay r)
            ∙ sym (get-insert_same (tree_of live).nodes (handle_of id) (node_of live r)))))
        | inr ne ↦ other_nodes q ne ∙ sym (get-insert_other (tree_of live).nodes (handle_of id) (node_of live r) q ne)
      ])

  pub node_takes : is_gone r ≡ true → tree_of (after live r) ≡ without_node (tree_of live) (handle_of id)
  node_takes gone = same_tree live (after live r) (without_node (tree_of live) (handle_of id)) (root-tree live) (λ q.
      elim (bytes_or_not q (handle_of id)) as (λ _. get (tree_of (after live r)).nodes q
      ≡ get (remove (tree_of live).nodes (handle_of id)) q) [
        | inl e ↦ subst (λ h. get (tree_of (after live r)).nodes h
            ≡ get (remove (tree_of live).nodes (handle_of id)) h) (sym e)
            (here ∙ (ap (λ g. option_map (node_of (after live r)) (cond g None (Some r))) gone
            ∙ sym (get-remove_same (tree_of live).nodes (handle_of id))))
        | inr ne ↦ other_nodes q ne ∙ sym (get-remove_other (tree_of live).nodes (handle_of id) q ne)
      ])

-- A RECORD OF A NAME OR A CHUNK

module _ (live : Records) (r id : List ℕ) (is : IsInside r id) where
  -- another node contains what it contained
  others_stay : (x : List ℕ) → length (id_of x) ≡ 8 → id_of x ≢ id → node_of (after live r) x ≡ node_of live x
  others_stay x eight ne =
      let head : take 8 (id ++ is.rest) ≡ id = take_at id is.rest 8 is.size in
      let not_chunk : (p : ℕ) → key_of r ≢ chunk_key (id_of x) p = λ p e.
      (let tails : id ++ is.rest ≡ id_of x ++ to_be_bytes w32 p = cc (is.key, e) in
      ne (sym (sym head ∙ (ap (take 8) tails ∙ take_at (id_of x) (to_be_bytes w32 p) 8 eight)))) in
      let not_name : bytes_eq (take 9 (key_of r)) (2 ∷ id_of x) ≡ false = apart (take 9 (key_of r)) (2 ∷ id_of x) (λ e.
      (let front : take 9 (key_of r) ≡ is.about ∷ id = ap (take 9) is.key ∙ ap (λ xs. is.about ∷ xs) head in
      let ids : id ≡ id_of x = cc (front, e) in ne (sym ids))) in
      node_of-same live (after live r) x
      (bytes_of-same live (after live r) (id_of x) (λ p. find-other live r (chunk_key (id_of x) p) (apart _ _
      (not_chunk p))))
      (names_of-same live r (id_of x) (ap (λ b. cond b (Some (drop 9 (key_of r))) None) not_name))

  -- no node comes or goes
  keys_stay : (q k : List ℕ) → IsBack q k → find k (after live r) ≡ find k live
  keys_stay q k back = find-other live r k (apart (key_of r) k (λ e. (let heads : is.about ∷ (id ++ is.rest)
      ≡ 1 ∷ take 8 q = sym is.key ∙ (e ∙ back.key) in is.not_node cc)))

  -- the id of what is found under a node's key
  id_found : (q k x : List ℕ) → IsBack q k → find k live ≡ Some x → id_of x ≡ take 8 q
  id_found q k x back w =
      ap (λ a. take 8 (drop 1 a)) (find-key k live x w ∙ back.key) ∙ take_all 8 (take 8 q) (omega (arith, back.eight))

  other_node : (q : List ℕ) → q ≢ handle_of id → get (tree_of (after live r)).nodes q ≡ get (tree_of live).nodes q
  other_node q ne = kept_node live (after live r) q (keys_stay q) (λ k x back w.
      let here = id_found q k x back w in
      others_stay x (ap length here ∙ back.eight) (λ e. ne (back.handle ∙ ap handle_of (sym here ∙ e))))

  found_still : find (node_key id) (after live r) ≡ find (node_key id) live
  found_still = find-other live r (node_key id) (apart _ _ (λ e. (let heads : is.about ∷ (id ++ is.rest)
      ≡ 1 ∷ id = sym is.key ∙ e in is.not_node cc)))

  there : (node : List ℕ) → find (node_key id) live ≡ Some node
      → tree_of (after live r) ≡ with_node (tree_of live) (handle_of id) (node_of (after live r) node)
  there node w = same_tree live (after live r) (with_node (tree_of live) (handle_of id) (node_of
      (after live r) node)) (root-tree live) (λ q.
      elim (bytes_or_not q (handle_of id)) as (λ _. get (tree_of (after live r)).nodes q
      ≡ get (insert (tree_of live).nodes (handle_of id) (node_of (after live r) node)) q) [
        | inl e ↦ subst (λ h. get (tree_of (after live r)).nodes h
            ≡ get (insert (tree_of live).nodes (handle_of id) (node_of (after live r) node)) h) (sym e)
            (node_at-id (after live r) id is.size ∙ (ap (option_map (node_of (after live r))) (found_still ∙ w)
            ∙ sym (get-insert_same (tree_of live).nodes (handle_of id) (node_of (after live r) node))))
        | inr ne ↦ other_node q ne ∙ sym (get-insert_other (tree_of live).nodes (handle_of id) (node_of
            (after live r) node) q ne)
      ])

  absent : find (node_key id) live ≡ None → tree_of (after live r) ≡ tree_of live
  absent w = same_tree live (after live r) (tree_of live) (root-tree live) (λ q.
      elim (bytes_or_not q (handle_of id)) as (λ _. get (tree_of (after live r)).nodes q ≡ get (tree_of live).nodes q) [
        | inl e ↦ subst (λ h. get (tree_of (after live r)).nodes h ≡ get (tree_of live).nodes h) (sym e)
            (node_at-id (after live r) id is.size ∙ (ap (option_map (node_of (after live r))) (found_still ∙ w)
            ∙ sym (node_at-id live id is.size ∙ ap (option_map (node_of live)) w)))
        | inr ne ↦ other_node q ne
      ])

  pub inside_laws : InsideLaws live r id
  inside_laws = record { there = there; absent = absent }

pub of_inside : OfInside
of_inside = inside_laws

-- A NAME'S RECORD

module _ (live : Records) (r dir name : List ℕ) (eight : length dir ≡ 8) (key : key_of r ≡ name_key dir name) where
  abbrev child : List ℕ → List ℕ
  child x = handle_of (child_in (value_of x))

  name_at : (rs : Records) (q : List ℕ) → get (names_of rs dir) q ≡ option_map child (find (name_key dir q) rs)
  unfolding names_of
  name_at rs q = get-view (name_view dir) (name_back dir) child (names_inverse dir eight) rs q

  name_here : get (names_of (after live r) dir) name ≡ option_map child (cond (is_gone r) None (Some r))
  name_here =
      name_at (after live r) name ∙ ap (option_map child) (find-after live r (name_key dir name)
      ∙ ap (λ b. cond b (cond (is_gone r) None (Some r)) (find (name_key dir name) live)) ((bytes_eq-Decides
      (key_of r) (name_key dir name)).1 key))

  name_other : (q : List ℕ) → q ≢ name → get (names_of (after live r) dir) q ≡ get (names_of live dir) q
  name_other q ne =
      let not_key : key_of r ≢ name_key dir q = λ e.
      (let tails : dir ++ name ≡ dir ++ q = cc (key, e) in
      ne (sym (drop_at dir q 8 eight) ∙ (ap (drop 8) (sym tails) ∙ drop_at dir name 8 eight))) in
      name_at (after live r) q ∙ (ap (option_map child) (find-other live r (name_key dir q) (apart _ _ not_key))
      ∙ sym (name_at live q))

  pub name_puts : is_gone r ≡ false → names_of (after live r) dir ≡ insert (names_of live dir) name (child r)
  name_puts stands = same_answers (names_of (after live r) dir) (insert (names_of live dir) name (child r)) (λ q.
      elim (bytes_or_not q name) as (λ _. get (names_of (after live r) dir) q
      ≡ get (insert (names_of live dir) name (child r)) q) [
        | inl e ↦ subst (λ h. get (names_of (after live r) dir) h
            ≡ get (insert (names_of live dir) name (child r)) h) (sym e)
            (name_here ∙ (ap (λ g. option_map child (cond g None (Some r))) stands
            ∙ sym (get-insert_same (names_of live dir) name (child r))))
        | inr ne ↦ name_other q ne ∙ sym (get-insert_other (names_of live dir) name (child r) q ne)
      ])

  pub name_takes : is_gone r ≡ true → names_of (after live r) dir ≡ remove (names_of live dir) name
  name_takes gone = same_answers (names_of (after live r) dir) (remove (names_of live dir) name) (λ q.
      elim (bytes_or_not q name) as (λ _. get (names_of (after live r) dir) q
      ≡ get (remove (names_of live dir) name) q) [
        | inl e ↦ subst (λ h. get (names_of (after live r) dir) h ≡ get (remove (names_of live dir) name) h) (sym e)
            (name_here ∙ (ap (λ g. option_map child (cond g None (Some r))) gone
            ∙ sym (get-remove_same (names_of live dir) name)))
        | inr ne ↦ name_other q ne ∙ sym (get-remove_other (names_of live dir) name q ne)
      ])

  pub other_dirs : (q : List ℕ) → length q ≡ 8 → q ≢ dir → names_of (after live r) q ≡ names_of live q
  other_dirs q long ne =
      let front : take 9 (key_of r) ≡ 2 ∷ dir = ap (take 9) key ∙ ap (λ xs. 2 ∷ xs) (take_at dir name 8 eight) in
      let no : bytes_eq (take 9 (key_of r)) (2 ∷ q)
      ≡ false = apart (take 9 (key_of r)) (2 ∷ q) (λ e. (let same : dir ≡ q = cc (front, e) in ne (sym same))) in
      names_of-same live r q (ap (λ b. cond b (Some (drop 9 (key_of r))) None) no)
