-- One record more while names are told.
use Rattle.std.proofs.Common.{inl, inr, ◌≡◌, ◌∙◌, ◌+◌, ◌≤◌, ◌++◌, ℕ, true, false, cond, List, [], ◌∷◌, length, take, drop, Option, Some, None, IsSome, refl, sym, ap, subst, bytes_eq, arith}
use Rattle.std.specs.Prelude.{option_map, replicate}
use Rattle.std.specs.FinMap.{get, remove}
use Rattle.std.proofs.lemmas.List.{take_at}
use Rattle.std.proofs.lemmas.Slice.Eq.{bytes_eq-Decides}
use Rattle.nfs2_types.specs.declared.fattr.Kind.{Kind}
use Rattle.nfs2_types.specs.declared.fattr.Kind.TheVariants.{Dir}
use Rattle.server_trait.specs.Tree.{Tree, Node, Names, Content, BytesOf, TextOf, NamesOf, IsNamed, node_at, names_in, target, kind_of, one_if, links, with_names, unnamed}
use Rattle.server_trait.proofs.TreeLaws.{bytes_or_not, get-remove_other, node_at-edited_same, node_at-edited_other, some_none, some_same, target_found, target-node, links-some}
use Rattle.tree_laws.proofs.CountChanges.{links-unnamed}
use Rattle.log_segments.specs.Newest.{find, live, after}
use Rattle.log_segments.specs.Record.{is_gone, key_of}
use Rattle.log_segments.proofs.Finds.{find-after}
use Rattle.log_records.specs.Layout.{node_key, name_key, value_of, node_in, child_in}
use Rattle.log_tree.specs.Held.{Records, handle_of, root_id, most_names, names_of, content_of, id_of, node_of, tree_of}
use Rattle.log_tree.proofs.TreeLaws.{node_at-id}
use Rattle.log_tree.proofs.StepLaws.{name_laws}
use Rattle.log_store.proofs.StoreLaws.{name_at}
use Rattle.log_held.specs.Sound.{ArePlaced, AreTied}
use Rattle.log_held.proofs.Nodes.{node_found}
use Rattle.log_index.proofs.Ties.{same_bytes, at_node}
use Rattle.log_index.specs.Memory.{Memory, IsIndexed}
use Rattle.log_index.specs.Changes.{AddsName}
use Rattle.log_index.proofs.NameAdds.{name_added}
use Rattle.log_mount.specs.Told.{is_name_key, among_names, IsTold, HasTold}
use Rattle.log_mount.proofs.Parts.{content_names, kind_of-content, id_under}
use Rattle.log_mount.proofs.Walks.{told_here, told_other, found_in, moved, IsNext, is_next}

-- A RECORD THAT IS NONE OF A NAME

names_skip : (all told : Records) (b k : List ℕ) → is_name_key (key_of b) ≡ false
    → among_names all told k ≡ among_names all (told ++ b ∷ []) k
names_skip all told b k other =
    elim (bytes_eq (key_of b) k) as (λ t. bytes_eq (key_of b) k ≡ t
    → among_names all told k ≡ among_names all (told ++ b ∷ []) k) [
      | true ↦ (λ e.
          let name : is_name_key k ≡ false = ap is_name_key (sym ((bytes_eq-Decides (key_of b) k).0 e)) ∙ other in
          ap (λ d. cond d (find k told) (find k all)) name
          ∙ sym (ap (λ d. cond d (find k (told ++ b ∷ [])) (find k all)) name))
      | false ↦ (λ e. ap (λ o. cond (is_name_key k) o (find k all)) (sym (told_other told b k e)))
    ] refl

-- TWO NAMES

-- two names that lead to a node are counted
pub two_links : (t : Tree) (top name dir nm h : List ℕ) → target t top name ≡ Some h → target t dir nm ≡ Some h
    → (dir ≡ top → nm ≡ name → ⊥) → 2 ≤ links t h
two_links t top name dir nm h one two other =
    let a = target_found t top name h one in
    let b = target_found t dir nm h two in
    let f = with_names (λ m. remove m name) in
    let has = names_content a.node a.names a.is_dir in
    let less = links-unnamed t top name h a.node a.names h a.is_node has a.leads in
    let still : target (unnamed t top name) dir nm ≡ Some h = elim (bytes_or_not dir top) [
      | inl e ↦
          let node : b.node ≡ a.node = some_same b.is_node (ap (node_at t) e ∙ a.is_node) in
          let names : b.names ≡ a.names = some_same b.is_dir (ap (λ (n : Node). names_in n.content) node ∙ a.is_dir) in
          let here : node_at (unnamed t top name) dir ≡ Some (f a.node) =
          ap (node_at (unnamed t top name)) e ∙ node_at-edited_same t top f a.node a.is_node in
          let now : names_in (f a.node).content ≡ Some (remove a.names name) =
          ap (λ c. let n : Node = record a.node { content = c } in names_in (f n).content) has in
          target-node (unnamed t top name) dir (f a.node) (remove a.names name) nm here now
          ∙ (get-remove_other a.names name nm (other e) ∙ (ap (λ m. get m nm) (sym names) ∙ b.leads))
      | inr ne ↦ target-node (unnamed t top name) dir b.node b.names nm
          (node_at-edited_other t top f dir ne ∙ b.is_node) b.is_dir ∙ b.leads
    ] in
    let some = links-some (unnamed t top name) h dir nm still in
    let self = ap one_if (same_bytes h h refl) in
    omega (arith, less, some, self)
  where
    names_content : (n : Node) (m : Names) → names_in n.content ≡ Some m → n.content ≡ NamesOf m
    names_content n m is = in_names n.content m is
      where
        in_names : (c : Content) (m : Names) → names_in c ≡ Some m → c ≡ NamesOf m
        in_names (BytesOf b) m is = absurd (let bad : None ≡ Some m = is in cc)
        in_names (TextOf b) m is = absurd (let bad : None ≡ Some m = is in cc)
        in_names (NamesOf k) m is = let e : Some k ≡ Some m = is in cc

few_names : (h : List ℕ) → most_names h ≤ 1
few_names h = elim (bytes_eq h (handle_of root_id)) as (λ b. cond b 0 1 ≤ 1) [ true ↦ omega arith | false ↦ omega arith ]

-- A RECORD OF A NAME

-- a record under a node's key with its kind
pub record OfKind (o : Option (List ℕ)) (kind : Kind) : Type 0 where
  pub block : List ℕ
  pub is : o ≡ Some block
  pub says : (node_in (value_of block)).kind ≡ kind

of_kind : (o : Option (List ℕ)) (kind : Kind) → option_map (λ r. (node_in (value_of r)).kind) o ≡ Some kind
    → OfKind o kind
of_kind None kind e = absurd (let bad : None ≡ Some kind = e in cc)
of_kind (Some r) kind e = record { block = r; is = refl; says = let s : Some (node_in (value_of r)).kind ≡ Some kind = e in cc }

-- what a look-up of a record gave
record Mapped {X : Type 0} (f : List ℕ → X) (o : Option (List ℕ)) (x : X) : Type 0 where
  block : List ℕ
  is : o ≡ Some block
  says : f block ≡ x

mapped : {X : Type 0} (f : List ℕ → X) (o : Option (List ℕ)) (x : X) → option_map f o ≡ Some x → Mapped f o x
mapped f None x e = absurd (some_none {x = x} {o = None} e refl)
mapped f (Some r) x e = record { block = r; is = refl; says = sym (some_same e refl) }

-- a record that there is
pub record IsThere (o : Option (List ℕ)) : Type 0 where
  pub block : List ℕ
  pub is : o ≡ Some block

there_is : {X : Type 0} (f : List ℕ → X) (o : Option (List ℕ)) → IsSome (option_map f o) → IsThere o
there_is f None some = absurd (let bad : false ≡ true = some in cc)
there_is f (Some r) some = record { block = r; is = refl }

module _ (all told part : Records) (parts : (k : List ℕ) → find k part ≡ among_names all told k) (placed : ArePlaced all)
    (tied : AreTied all) (before : (k r : List ℕ) → find k told ≡ Some r → find k all ≡ Some r) where
  abbrev child : List ℕ → List ℕ
  child r = handle_of (child_in (value_of r))

  -- a node of all is one of the part
  node_in_part : (id r : List ℕ) → length id ≡ 8 → find (node_key id) all ≡ Some r
      → node_at (tree_of part) (handle_of id) ≡ Some (node_of part r)
  node_in_part id r eight is = node_at-id part id eight ∙ ap (option_map (node_of part)) (parts (node_key id) ∙ is)

  node_in_all : (id r : List ℕ) → length id ≡ 8 → find (node_key id) all ≡ Some r
      → node_at (tree_of all) (handle_of id) ≡ Some (node_of all r)
  node_in_all id r eight is = node_at-id all id eight ∙ ap (option_map (node_of all)) is

  -- the names of a directory
  names_in_part : (rs : Records) (id r : List ℕ) → id_of r ≡ id → (node_in (value_of r)).kind ≡ Dir
      → (node_of rs r).content ≡ NamesOf (names_of rs id)
  names_in_part rs id r is kind = ap (content_of rs (id_of r)) kind ∙ ap (λ i. NamesOf (names_of rs i)) is

  -- a name that is told leads where it leads among all
  record WasTold (h dir name : List ℕ) : Type 0 where
    id : List ℕ
    eight : length id ≡ 8
    handle : dir ≡ handle_of id
    block : List ℕ
    is : find (name_key id name) told ≡ Some block
    leads : target (tree_of all) dir name ≡ Some h

  was_told : (h dir name : List ℕ) → target (tree_of part) dir name ≡ Some h → WasTold h dir name
  was_told h dir name is =
      let t = target_found (tree_of part) dir name h is in
      let f = node_found part dir t.node t.is_node in
      let id = take 8 dir in
      let kind = (node_in (value_of f.block)).kind in
      let names = content_names part (id_of f.block) kind t.names
      (ap (λ (n : Node). names_in n.content) f.is ∙ t.is_dir) in
      let found : find (node_key id) all ≡ Some f.block = sym (parts (node_key id)) ∙ f.found in
      let led : option_map child (find (name_key id name) part) ≡ Some h =
      sym (name_at part id name f.eight) ∙ (ap (λ i. get (names_of part i) name) (sym f.id_is)
      ∙ (ap (λ m. get m name) (sym names.names_are) ∙ t.leads)) in
      let m = mapped child (find (name_key id name) part) h led in
      let in_told : find (name_key id name) told ≡ Some m.block = sym (parts (name_key id name)) ∙ m.is in
      let in_all : find (name_key id name) all ≡ Some m.block = before (name_key id name) m.block in_told in
      let at : node_at (tree_of all) dir ≡ Some (node_of all f.block) =
      ap (node_at (tree_of all)) f.handle ∙ node_in_all id f.block f.eight found in
      let content : names_in (node_of all f.block).content ≡ Some (names_of all id) =
      ap names_in (names_in_part all id f.block f.id_is names.kind_is) in
      record {
        id = id;
        eight = f.eight;
        handle = f.handle;
        block = m.block;
        is = in_told;
        leads = target-node (tree_of all) dir (node_of all f.block) (names_of all id) name at content
            ∙ (name_at all id name f.eight ∙ (ap (option_map child) in_all ∙ ap Some m.says));
      }

  module _ (b dir name : List ℕ) (eight : length dir ≡ 8) (key : key_of b ≡ name_key dir name)
      (long : length (child_in (value_of b)) ≡ 8) (stands : is_gone b ≡ false)
      (here : find (key_of b) all ≡ Some b) (fresh : find (key_of b) told ≡ None) where
    abbrev to : List ℕ
    to = child_in (value_of b)

    found : find (name_key dir name) all ≡ Some b
    found = ap (λ k. find k all) (sym key) ∙ here

    pub dir_is : OfKind (find (node_key dir) all) Dir
    dir_is = of_kind (find (node_key dir) all) Dir (placed.of_dir dir name b eight found)

    dir_id : id_of dir_is.block ≡ dir
    dir_id = id_under all dir dir_is.block eight dir_is.is

    all_dir : node_at (tree_of all) (handle_of dir) ≡ Some (node_of all dir_is.block)
    all_dir = node_in_all dir dir_is.block eight dir_is.is

    all_names : names_in (node_of all dir_is.block).content ≡ Some (names_of all dir)
    all_names = ap names_in (names_in_part all dir dir_is.block dir_id dir_is.says)

    all_leads : get (names_of all dir) name ≡ Some (handle_of to)
    all_leads = name_at all dir name eight ∙ ap (option_map child) found

    pub child_is : IsThere (find (node_key to) all)
    child_is = there_is (node_of all) (find (node_key to) all) (subst (λ o. IsSome o) (node_at-id all to long)
        (tied.leads (handle_of dir) (node_of all dir_is.block) (names_of all dir) name (handle_of to) all_dir all_names
        all_leads))

    pub dir_there : node_at (tree_of part) (handle_of dir) ≡ Some (node_of part dir_is.block)
    dir_there = node_in_part dir dir_is.block eight dir_is.is

    pub child_there : node_at (tree_of part) (handle_of to) ≡ Some (node_of part child_is.block)
    child_there = node_in_part to child_is.block long child_is.is

    -- no other name leads to a directory
    single : kind_of (node_of part child_is.block).content ≡ Dir → ¬ (IsNamed (tree_of part) (handle_of to))
    single kind is =
        let w = was_told (handle_of to) is.0 is.1 is.2 in
        let says : (node_in (value_of child_is.block)).kind ≡ Dir =
        sym (kind_of-content part (id_of child_is.block) (node_in (value_of child_is.block)).kind) ∙ kind in
        let content = names_in_part all to child_is.block (id_under all to child_is.block long child_is.is) says in
        let one = tied.one (handle_of to) (node_of all child_is.block) (names_of all to)
        (node_in_all to child_is.block long child_is.is) (ap names_in content) in
        let leads : target (tree_of all) (handle_of dir) name ≡ Some (handle_of to) =
        target-node (tree_of all) (handle_of dir) (node_of all dir_is.block) (names_of all dir) name all_dir all_names
        ∙ all_leads in
        let other : is.0 ≡ handle_of dir → is.1 ≡ name → ⊥ = λ tops names.
        some_none w.is (ap (λ k. find k told) (ap (λ i. name_key i is.1)
        (sym (take_at w.id (replicate 24 0) 8 w.eight) ∙ (ap (take 8) (sym w.handle ∙ tops)
        ∙ take_at dir (replicate 24 0) 8 eight)) ∙ (ap (name_key dir) names ∙ sym key)) ∙ fresh) in
        let two = two_links (tree_of all) (handle_of dir) name is.0 is.1 (handle_of to) leads w.leads other in
        let few = few_names (handle_of to) in
        omega (arith, two, one, few)

    names_found : (k : List ℕ) → find k (after part b) ≡ among_names all (told ++ b ∷ []) k
    names_found k = find-after part b k
        ∙ (elim (bytes_eq (key_of b) k) as (λ t. bytes_eq (key_of b) k ≡ t
        → cond t (cond (is_gone b) None (Some b)) (find k part) ≡ among_names all (told ++ b ∷ []) k) [
          | true ↦ (λ e.
              let same : key_of b ≡ k = (bytes_eq-Decides (key_of b) k).0 e in
              let yes : is_name_key k ≡ true = ap is_name_key (sym same ∙ key) in
              ap (λ g. cond g None (Some b)) stands
              ∙ sym (ap (λ c. cond c (find k (told ++ b ∷ [])) (find k all)) yes
              ∙ (ap (λ q. find q (told ++ b ∷ [])) (sym same) ∙ told_here told b fresh)))
          | false ↦ (λ e. parts k ∙ ap (λ o. cond (is_name_key k) o (find k all)) (sym (told_other told b k e)))
        ] refl)

    pub name_told : (x y : Memory) → IsIndexed (tree_of part) x → AddsName x dir to y
        → IsTold (among_names all (told ++ b ∷ [])) y
    name_told x y indexed adds = record {
      part = after part b;
      parts = names_found;
      indexed = subst (λ t. IsIndexed t y) (sym ((name_laws part b dir name eight key).named stands))
          (name_added (tree_of part) x y dir to name (node_of part dir_is.block) (node_of part child_is.block)
          (names_of part dir) indexed eight long dir_there (names_in_part part dir dir_is.block dir_id dir_is.says)
          (name_at part dir name eight ∙ ap (option_map child) (parts (name_key dir name)
          ∙ (ap (λ k. find k told) (sym key) ∙ fresh)))
          child_there single adds);
    }

-- ONE TURN

pub turn_skip : (records : Records) (n : ℕ) (b : List ℕ) (x : Memory) → live (drop n records)
    ≡ b ∷ live (drop (n + 1) records) → is_name_key (key_of b) ≡ false → HasTold among_names records n x
    → HasTold among_names records (n + 1) x
turn_skip records n b x next other h = record {
  told = h.told ++ b ∷ [];
  rest = moved h.told (live (drop n records)) (live records) (live (drop (n + 1) records)) b h.rest next;
  is = record {
    part = h.is.part;
    parts = λ k. h.is.parts k ∙ names_skip (live records) h.told b k other;
    indexed = h.is.indexed;
  };
}

module _ (records : Records) (n : ℕ) (b dir name : List ℕ) (x : Memory) (placed : ArePlaced (live records))
    (tied : AreTied (live records)) (next : live (drop n records) ≡ b ∷ live (drop (n + 1) records))
    (eight : length dir ≡ 8) (key : key_of b ≡ name_key dir name) (long : length (child_in (value_of b)) ≡ 8)
    (stands : is_gone b ≡ false) (h : HasTold among_names records n x) where
  it : IsNext h.told (live records) b
  it = is_next records h.told n b h.rest next

  before : (k r : List ℕ) → find k h.told ≡ Some r → find k (live records) ≡ Some r
  before k r is = ap (find k) (sym h.rest) ∙ found_in k h.told (live (drop n records)) r is

  -- both are in memory
  pub dir_kept : IsSome (get x.nodes dir)
  dir_kept =
      let t = dir_there (live records) h.told h.is.part h.is.parts placed tied before b dir name eight key long stands it.here
      it.fresh in
      let b = at_node (tree_of h.is.part) x dir _ h.is.indexed eight t in
      subst (λ o. IsSome o) (sym b.is_info) refl

  pub child_kept : IsSome (get x.nodes (child_in (value_of b)))
  child_kept =
      let t = child_there (live records) h.told h.is.part h.is.parts placed tied before b dir name eight key long stands
      it.here it.fresh in
      let b = at_node (tree_of h.is.part) x (child_in (value_of b)) _ h.is.indexed long t in
      subst (λ o. IsSome o) (sym b.is_info) refl

  pub turn_name : (y : Memory) → AddsName x dir (child_in (value_of b)) y → HasTold among_names records (n + 1) y
  turn_name y adds = record {
    told = h.told ++ b ∷ [];
    rest = moved h.told (live (drop n records)) (live records) (live (drop (n + 1) records)) b h.rest next;
    is = name_told (live records) h.told h.is.part h.is.parts placed tied before b dir name eight key long stands it.here
        it.fresh x y h.is.indexed adds;
  }
