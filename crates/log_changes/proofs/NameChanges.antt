-- One name of a directory that comes or goes.
use Rattle.std.proofs.Common.{inl, inr, ◌≡◌, ◌≢◌, ◌∙◌, ◌⊎◌, ◌+◌, ◌≤◌, ℕ, List, ◌++◌, length, take, Some, None, IsSome, refl, sym, ap, subst, bytes_eq, cond, arith}
use Rattle.std.specs.Prelude.{option_map}
use Rattle.std.specs.FinMap.{get, insert, remove, len}
use Rattle.std.proofs.lemmas.List.{take_at}
use Rattle.nfs2_types.specs.declared.fattr.Kind.TheVariants.{Dir}
use Rattle.server_trait.specs.Tree.{Tree, Node, Names, Content, BytesOf, TextOf, NamesOf, node_at, names_in, names_at, kind_of, links, one_if, used, with_names, named, unnamed, edited}
use Rattle.server_trait.specs.declared.server.ServerLimits.{ServerLimits}
use Rattle.server_trait.proofs.TreeLaws.{and_then_some, bytes_or_not, get-insert_same, get-insert_other, get-remove_same, get-remove_other, node_at-edited_same, node_at-edited_other, some_same, some_none}
use Rattle.server_trait.proofs.CountLaws.{links-named}
use Rattle.tree_laws.proofs.CountChanges.{links-unnamed, unlinked, used-named, used-unnamed}
use Rattle.log_segments.specs.Newest.{find}
use Rattle.log_records.specs.Layout.{node_key, name_key, chunk_key, value_of, node_in}
use Rattle.log_tree.specs.Held.{Records, handle_of, root_id, most_names, bytes_of, tree_of}
use Rattle.log_tree.proofs.TreeLaws.{bytes_of-same}
use Rattle.log_store.specs.Store.{KeepsOthers}
use Rattle.log_files.specs.Chunked.{IsChunked}
use Rattle.log_held.specs.Sound.{kind_at, IsLeaf, ArePlaced, IsSound}
use Rattle.log_index.specs.Memory.{Memory, IsIndexed}
use Rattle.log_index.specs.Changes.{AddsName, DropsName}
use Rattle.log_index.proofs.Ties.{handle_back, nodes_same, same_bytes, other_bytes}
use Rattle.log_index.proofs.NameAdds.{name_added}
use Rattle.log_index.proofs.NameDrops.{name_dropped}
use Rattle.log_changes.specs.Kept.{IsSoundBut}
use Rattle.log_changes.proofs.PlainLaws.{chunked_same}
use Rattle.log_changes.proofs.ButLaws.{all_sound, but_one, kind_is}

-- RECORDS

module _ (live new : Records) (dir name : List ℕ) (placed : ArePlaced live) (eight : length dir ≡ 8)
    (short : length name ≤ 255) (is_dir : kind_at live dir ≡ Some Dir) (others : KeepsOthers live (name_key dir name) new)
  where
    kind_same : (q : List ℕ) → kind_at new q ≡ kind_at live q
    kind_same q = ap (option_map (λ r. (node_in (value_of r)).kind)) (others (node_key q) (λ e. cc))

    chunk_same : (q : List ℕ) (p : ℕ) → find (chunk_key q p) new ≡ find (chunk_key q p) live
    chunk_same q p = others (chunk_key q p) (λ e. cc)

    same_dir : (q other : List ℕ) → length q ≡ 8 → name_key q other ≡ name_key dir name → q ≡ dir
    same_dir q other long e =
        let tails : q ++ other ≡ dir ++ name = cc in
        sym (take_at q other 8 long) ∙ (ap (take 8) tails ∙ take_at dir name 8 eight)

    name_placed : ArePlaced new
    name_placed = record {
      form = λ k r is. elim (bytes_or_not k (name_key dir name)) [
        | inl e ↦ inr (inl (dir, name, e, eight, short))
        | inr ne ↦ placed.form k r (sym (others k ne) ∙ is)
      ];
      of_dir = λ q other r long is. kind_same q ∙ elim (bytes_or_not (name_key q other) (name_key dir name)) [
        | inl e ↦ ap (kind_at live) (same_dir q other long e) ∙ is_dir
        | inr ne ↦ placed.of_dir q other r long (sym (others (name_key q other) ne) ∙ is)
      ];
      of_leaf = λ q p r long low is. subst IsLeaf (sym (kind_same q)) (placed.of_leaf q p r long low
          (sym (chunk_same q p) ∙ is));
      chunks = λ q long. subst (IsChunked new q) (ap length (sym (bytes_of-same live new q (chunk_same q))))
          (chunked_same live new q (length (bytes_of live q)) (chunk_same q) (placed.chunks q long));
    }

-- THE TREE

-- a directory's names change, so that each name leads where it led or to one node
module _ (limits : ServerLimits) (live new : Records) (D C : List ℕ) (nd : Node) (m k : Names)
    (change : Names → Names) (s : IsSoundBut C limits live) (placed : ArePlaced new)
    (root : kind_at new root_id ≡ Some Dir) (is : node_at (tree_of live) D ≡ Some nd) (has : nd.content ≡ NamesOf m)
    (becomes : change m ≡ k) (tree : tree_of new ≡ edited (tree_of live) D (with_names change))
    (gets : (q x : List ℕ) → get k q ≡ Some x → (get m q ≡ Some x) ⊎ (x ≡ C))
    (there : IsSome (node_at (tree_of live) C))
    (counts : (q : List ℕ) → q ≢ C → links (edited (tree_of live) D (with_names change)) q ≡ links (tree_of live) q)
    (fits : used (tree_of new) ≤ limits.bytes) where
  abbrev t : Tree
  t = tree_of live

  abbrev f : Node → Node
  f = with_names change

  abbrev u : Tree
  u = edited t D f

  names_now : (f nd).content ≡ NamesOf k
  names_now = ap (λ c. let n : Node = record nd { content = c } in (f n).content) has ∙ ap NamesOf becomes

  -- a directory was one before
  pub record WasDir (q : List ℕ) : Type 0 where
    pub node : Node
    pub names : Names
    pub is_node : node_at t q ≡ Some node
    pub is_names : names_in node.content ≡ Some names

  was_dir : (q : List ℕ) (n : Node) (j : Names) → node_at u q ≡ Some n → names_in n.content ≡ Some j → WasDir q
  was_dir q n j at names = elim (bytes_or_not q D) [
    | inl e ↦ record { node = nd; names = m; is_node = ap (node_at t) e ∙ is; is_names = ap names_in has }
    | inr ne ↦ record {
      node = n;
      names = j;
      is_node = sym (node_at-edited_other t D f q ne) ∙ at;
      is_names = names;
    }
  ]

  still_there : (q : List ℕ) → IsSome (node_at t q) → IsSome (node_at u q)
  still_there q some = elim (bytes_or_not q D) [
    | inl e ↦ subst (λ o. IsSome o) (sym (ap (node_at u) e ∙ node_at-edited_same t D f nd is)) refl
    | inr ne ↦ subst (λ o. IsSome o) (sym (node_at-edited_other t D f q ne)) some
  ]

  leads_on : (q : List ℕ) (n : Node) (j : Names) (name x : List ℕ) → node_at u q ≡ Some n → names_in n.content ≡ Some j
      → get j name ≡ Some x → IsSome (node_at u x)
  leads_on q n j name x at names to = elim (bytes_or_not q D) [
    | inl e ↦
        let node : n ≡ f nd = some_same at (ap (node_at u) e ∙ node_at-edited_same t D f nd is) in
        let same : j ≡ k = some_same names (ap (λ (c : Node). names_in c.content) node ∙ ap names_in names_now) in
        elim (gets name x (ap (λ i. get i name) (sym same) ∙ to)) [
          | inl old ↦ still_there x (s.leads D nd m name x is (ap names_in has) old)
          | inr here ↦ still_there x (subst (λ h. IsSome (node_at t h)) (sym here) there)
        ]
    | inr ne ↦ still_there x (s.leads q n j name x (sym (node_at-edited_other t D f q ne) ∙ at) names to)
  ]

  pub names_sound : IsSoundBut C limits new
  names_sound = record {
    placed = placed;
    root = root;
    one = λ q n j ne at names.
        let w = was_dir q n j (ap (λ v. node_at v q) (sym tree) ∙ at) names in
        ap (λ v. links v q) tree ∙ (counts q ne ∙ s.one q w.node w.names ne w.is_node w.is_names);
    leads = λ q n j name x at names to. subst (λ v. IsSome (node_at v x)) (sym tree)
        (leads_on q n j name x (ap (λ v. node_at v q) (sym tree) ∙ at) names to);
    few_nodes =
        let same : len (tree_of new).nodes ≡ len t.nodes =
        ap (λ (v : Tree). len v.nodes) tree ∙ nodes_same t D f nd is in
        let few = s.few_nodes in
        omega arith;
    few_bytes = fits;
  }

  -- what leads to no directory before leads to none now
  pub dir_before : (q : List ℕ) (j : Names) → names_at (tree_of new) q ≡ Some j → WasDir q
  dir_before q j at =
      let n = and_then_some (λ (n : Node). names_in n.content) (node_at (tree_of new) q) j at in
      was_dir q n.0 j (ap (λ v. node_at v q) (sym tree) ∙ n.1) n.2

-- A NAME MORE

-- a directory has a name more, in the log and in memory
pub record NameAdded (limits : ServerLimits) (new : Records) (y : Memory) : Type 0 where
  pub sound : IsSound limits new
  pub indexed : IsIndexed (tree_of new) y

pub name_comes : (limits : ServerLimits) (live new : Records) (dir child name : List ℕ) (nd nc : Node) (m : Names)
    (x y : Memory) → IsSoundBut (handle_of child) limits live → IsIndexed (tree_of live) x → length dir ≡ 8
    → length child ≡ 8 → length name ≤ 255 → node_at (tree_of live) (handle_of dir) ≡ Some nd → nd.content ≡ NamesOf m
    → get m name ≡ None → node_at (tree_of live) (handle_of child) ≡ Some nc
    → (kind_of nc.content ≡ Dir → (links (tree_of live) (handle_of child) ≡ 0) × (child ≢ root_id))
    → used (tree_of live) + 512 ≤ limits.bytes
    → tree_of new ≡ named (tree_of live) (handle_of dir) name (handle_of child) → KeepsOthers live (name_key dir name) new
    → AddsName x dir child y → NameAdded limits new y
name_comes limits live new dir child name nd nc m x y s h eight eight_child short is has none there single fits tree others
    adds =
    let t = tree_of live in
    let D = handle_of dir in
    let C = handle_of child in
    let change : Names → Names = λ k. insert k name C in
    let u = edited t D (with_names change) in
    let is_dir : kind_at live dir ≡ Some Dir = kind_is live dir nd eight is ∙ ap (λ c. Some (kind_of c)) has in
    let placed = name_placed live new dir name s.placed eight short is_dir others in
    let root = kind_same live new dir name s.placed eight short is_dir others root_id ∙ s.root in
    let all : (q : List ℕ) → links u q ≡ links t q + one_if (bytes_eq C q) = λ q. links-named t D name C nd m q is has none in
    let counts : (q : List ℕ) → q ≢ C → links u q ≡ links t q = λ q ne.
    let more = all q in
    let zero : one_if (bytes_eq C q) ≡ 0 = ap one_if (other_bytes C q (λ e. ne (sym e))) in
    omega arith in
    let gets : (q z : List ℕ) → get (insert m name C) q ≡ Some z → (get m q ≡ Some z) ⊎ (z ≡ C) = λ q z at.
    elim (bytes_or_not q name) [
      | inl e ↦ inr (some_same (sym (ap (get (insert m name C)) e) ∙ at) (get-insert_same m name C))
      | inr ne ↦ inl (sym (get-insert_other m name C q ne) ∙ at)
    ] in
    let uses : used (tree_of new) ≡ used t + 512 = ap used tree ∙ used-named t D name nd m is has C none in
    let some : IsSome (node_at t C) = subst (λ o. IsSome o) (sym there) refl in
    let but = names_sound limits live new D C nd m (insert m name C) change s placed root is has refl tree gets some counts
    (omega arith) in
    record {
      sound = all_sound C limits new but (λ j at.
          let w = dir_before limits live new D C nd m (insert m name C) change s placed root is has refl tree gets some
          counts (omega arith) C j at in
          let node : w.node ≡ nc = some_same w.is_node there in
          let dir_kind : kind_of nc.content ≡ Dir =
          ap (λ (n : Node). kind_of n.content) (sym node) ∙ kind_by_names w.node.content w.names w.is_names in
          let free = single dir_kind in
          let more = all C in
          let one : one_if (bytes_eq C C) ≡ 1 = ap one_if (same_bytes C C refl) in
          let most : most_names C ≡ 1 = ap (λ b. cond b 0 1)
          (other_bytes C (handle_of root_id) (λ e. free.1 (handle_back child root_id eight_child refl e))) in
          let before = free.0 in
          ap (λ v. links v C) tree ∙ omega arith);
      indexed = subst (λ v. IsIndexed v y) (sym tree)
          (name_added t x y dir child name nd nc m h eight eight_child is has none there
          (λ e named. unlinked t C named.0 named.1 (single e).0 named.2) adds);
    }
  where
    kind_by_names : (c : Content) (j : Names) → names_in c ≡ Some j → kind_of c ≡ Dir
    kind_by_names (BytesOf b) j e = absurd cc
    kind_by_names (TextOf b) j e = absurd cc
    kind_by_names (NamesOf i) j e = refl

-- A NAME LESS

pub record NameDropped (limits : ServerLimits) (free : List ℕ) (new : Records) (y : Memory) : Type 0 where
  pub sound : IsSoundBut free limits new
  pub indexed : IsIndexed (tree_of new) y

pub name_goes : (limits : ServerLimits) (live new : Records) (dir child name : List ℕ) (nd nc : Node) (m : Names)
    (x y : Memory) → IsSound limits live → IsIndexed (tree_of live) x → length dir ≡ 8
    → length child ≡ 8 → length name ≤ 255 → node_at (tree_of live) (handle_of dir) ≡ Some nd → nd.content ≡ NamesOf m
    → get m name ≡ Some (handle_of child) → node_at (tree_of live) (handle_of child) ≡ Some nc
    → tree_of new ≡ unnamed (tree_of live) (handle_of dir) name → KeepsOthers live (name_key dir name) new
    → DropsName x dir child y → NameDropped limits (handle_of child) new y
name_goes limits live new dir child name nd nc m x y sound h eight eight_child short is has to there tree others drops =
    let t = tree_of live in
    let D = handle_of dir in
    let C = handle_of child in
    let s = but_one C limits live sound in
    let change : Names → Names = λ k. remove k name in
    let u = edited t D (with_names change) in
    let is_dir : kind_at live dir ≡ Some Dir = kind_is live dir nd eight is ∙ ap (λ c. Some (kind_of c)) has in
    let placed = name_placed live new dir name s.placed eight short is_dir others in
    let root = kind_same live new dir name s.placed eight short is_dir others root_id ∙ s.root in
    let counts : (q : List ℕ) → q ≢ C → links u q ≡ links t q = λ q ne.
    let less = links-unnamed t D name C nd m q is has to in
    let zero : one_if (bytes_eq C q) ≡ 0 = ap one_if (other_bytes C q (λ e. ne (sym e))) in
    omega arith in
    let gets : (q z : List ℕ) → get (remove m name) q ≡ Some z → (get m q ≡ Some z) ⊎ (z ≡ C) = λ q z at.
    elim (bytes_or_not q name) [
      | inl e ↦ absurd (some_none at (ap (get (remove m name)) e ∙ get-remove_same m name))
      | inr ne ↦ inl (sym (get-remove_other m name q ne) ∙ at)
    ] in
    let uses = used-unnamed t D name nd m is has C to in
    let same : used (tree_of new) ≡ used (unnamed t D name) = ap used tree in
    let few = s.few_bytes in
    let some : IsSome (node_at t C) = subst (λ o. IsSome o) (sym there) refl in
    record {
      sound = names_sound limits live new D C nd m (remove m name) change s placed root is has refl tree gets some counts
          (omega arith);
      indexed = subst (λ v. IsIndexed v y) (sym tree)
          (name_dropped t x y dir child name nd nc m h eight eight_child is has to there drops);
    }
