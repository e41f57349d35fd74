-- Records stay sound where a node changes that keeps its kind and its names.
use Rattle.std.proofs.Common.{inl, inr, ◌≡◌, ◌∙◌, ◌⊎◌, ◌*◌, ◌-◌, ◌<◌, ◌≤◌, ℕ, List, length, Some, IsSome, IsSomeAnd, refl, sym, ap, subst, arith}
use Rattle.std.specs.Prelude.{min}
use Rattle.std.specs.FinMap.{len}
use Rattle.server_trait.specs.Tree.{Tree, Node, Names, node_at, names_in, names_to, links, used, edited}
use Rattle.server_trait.specs.declared.server.ServerLimits.{ServerLimits}
use Rattle.server_trait.proofs.TreeLaws.{bytes_or_not, node_at-edited_same, node_at-edited_other, some_same}
use Rattle.server_trait.proofs.CountLaws.{links-edited}
use Rattle.log_segments.specs.Newest.{find}
use Rattle.log_records.specs.Layout.{name_key, chunk_key, value_of, chunk_in}
use Rattle.log_tree.specs.Held.{Records, handle_of, root_id, bytes_of, tree_of}
use Rattle.log_files.specs.Chunked.{IsChunked}
use Rattle.log_held.specs.Sound.{kind_at, IsLeaf, IsNodeKey, IsNameKey, IsChunkKey, ArePlaced, AreTied, IsSound}
use Rattle.log_index.proofs.Ties.{nodes_same}

-- chunks that are found as before are chunks as before
pub chunked_same : (live new : Records) (id : List ℕ) (size : ℕ)
    → ((p : ℕ) → find (chunk_key id p) new ≡ find (chunk_key id p) live) → IsChunked live id size → IsChunked new id size
chunked_same live new id size same c = record {
  few = c.few;
  there = λ p below. subst (λ o. IsSomeAnd o (λ r. length (chunk_in (value_of r)) ≡ min 480 (size - 480 * p)))
      (sym (same p)) (c.there p below);
  absent = λ p past few. same p ∙ c.absent p past few;
}

-- what is asked of the records
pub record KeepsPlaces (live new : Records) : Type 0 where
  pub kinds : (id : List ℕ) → length id ≡ 8 → kind_at new id ≡ kind_at live id
  pub form : (k r : List ℕ) → find k new ≡ Some r → IsNodeKey k ⊎ (IsNameKey k ⊎ IsChunkKey k)
  pub names : (dir name : List ℕ) → length dir ≡ 8 → find (name_key dir name) new ≡ find (name_key dir name) live
  pub leaf : (id : List ℕ) (place : ℕ) (r : List ℕ) → length id ≡ 8 → place < 17477 →
      find (chunk_key id place) new ≡ Some r → IsLeaf (kind_at live id)
  pub chunks : (id : List ℕ) → length id ≡ 8 → IsChunked new id (length (bytes_of new id))

module _ (limits : ServerLimits) (live new : Records) (s : IsSound limits live) (k : KeepsPlaces live new)
    (id : List ℕ) (n : Node) (f : Node → Node) (is : node_at (tree_of live) (handle_of id) ≡ Some n)
    (tree : tree_of new ≡ edited (tree_of live) (handle_of id) f)
    (names : names_in (f n).content ≡ names_in n.content)
    (to : (q : List ℕ) → names_to q (f n).content ≡ names_to q n.content)
    (fits : used (tree_of new) ≤ limits.bytes) where
  abbrev t : Tree
  t = tree_of live

  abbrev at : List ℕ
  at = handle_of id

  abbrev u : Tree
  u = edited t at f

  placed : ArePlaced new
  placed = record {
    form = k.form;
    of_dir = λ dir name r eight there. k.kinds dir eight
        ∙ s.placed.of_dir dir name r eight (sym (k.names dir name eight) ∙ there);
    of_leaf = λ q place r eight few there. subst IsLeaf (sym (k.kinds q eight)) (k.leaf q place r eight few there);
    chunks = k.chunks;
  }

  -- a node with names was there with these names
  record WasThere (q : List ℕ) (m : Names) : Type 0 where
    node : Node
    is_node : node_at t q ≡ Some node
    has : names_in node.content ≡ Some m

  was_there : (q : List ℕ) (a : Node) (m : Names) → node_at u q ≡ Some a → names_in a.content ≡ Some m → WasThere q m
  was_there q a m there has = elim (bytes_or_not q at) [
    | inl e ↦
        let same : a ≡ f n = some_same there (ap (node_at u) e ∙ node_at-edited_same t at f n is) in
        record {
          node = n;
          is_node = ap (node_at t) e ∙ is;
          has = sym names ∙ (ap (λ (b : Node). names_in b.content) (sym same) ∙ has);
        }
    | inr ne ↦ record { node = a; is_node = sym (node_at-edited_other t at f q ne) ∙ there; has = has }
  ]

  still_there : (q : List ℕ) → IsSome (node_at t q) → IsSome (node_at u q)
  still_there q some = elim (bytes_or_not q at) [
    | inl e ↦ subst (λ o. IsSome o) (sym (ap (node_at u) e ∙ node_at-edited_same t at f n is)) refl
    | inr ne ↦ subst (λ o. IsSome o) (sym (node_at-edited_other t at f q ne)) some
  ]

  links_stay : (q : List ℕ) → links u q ≡ links t q
  links_stay q =
      let all = links-edited t at f n q is in
      let same = to q in
      omega (arith, all, same)

  tied : AreTied new
  tied = record {
    root = k.kinds root_id refl ∙ s.tied.root;
    one = λ q a m there has.
        let w = was_there q a m (ap (λ v. node_at v q) (sym tree) ∙ there) has in
        ap (λ v. links v q) tree ∙ (links_stay q ∙ s.tied.one q w.node m w.is_node w.has);
    leads = λ q a m name x there has leads.
        let w = was_there q a m (ap (λ v. node_at v q) (sym tree) ∙ there) has in
        subst (λ v. IsSome (node_at v x)) (sym tree)
        (still_there x (s.tied.leads q w.node m name x w.is_node w.has leads));
  }

  pub plain_sound : IsSound limits new
  plain_sound = record {
    placed = placed;
    tied = tied;
    few_nodes = let same : len (tree_of new).nodes ≡ len t.nodes =
        ap (λ (v : Tree). len v.nodes) tree ∙ nodes_same t at f n is in
        let few = s.few_nodes in
        omega arith;
    few_bytes = fits;
  }
