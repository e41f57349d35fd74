-- How many records a sound tree has: those of each node, counted by the keys that they may have.
use Rattle.std.proofs.Common.{inl, inr, ◌≡◌, ◌∙◌, ◌⊎◌, ◌+◌, ◌*◌, ◌<◌, ◌≤◌, ℕ, suc, zero, true, false, cond, List, [], ◌∷◌, length, take, drop, Option, Some, None, IsSome, refl, sym, ap, subst, arith}
use Rattle.std.specs.Prelude.{max, option_map}
use Rattle.std.proofs.lemmas.List.{take_at, take_all}
use Rattle.std.specs.Ordering.{eq_by_cmp}
use Rattle.std.specs.FinMap.{len, entries, get-entries, len-entries, find as find_entry}
use Rattle.std.specs.Int.{to_be_bytes, w32}
use Rattle.nfs2_types.specs.declared.fattr.Kind.{Kind}
use Rattle.nfs2_types.specs.declared.fattr.Kind.TheVariants.{File, Dir, Link}
use Rattle.server_trait.specs.Tree.{Tree, Node, used, used_by}
use Rattle.server_trait.specs.Sums.{sum_values, total}
use Rattle.server_trait.specs.declared.server.ServerLimits.{ServerLimits}
use Rattle.server_trait.proofs.TreeLaws.{one_or_not, same-keys}
use Rattle.log_segments.specs.Newest.{find}
use Rattle.log_segments.specs.Record.{key_of}
use Rattle.log_segments.specs.Segments.{half_size}
use Rattle.log_records.specs.Layout.{node_key, name_key, chunk_key, value_of, node_in, child_in}
use Rattle.log_tree.specs.Held.{Records, handle_of, bytes_of, names_of, content_of, id_of, node_of, tree_of}
use Rattle.log_tree.specs.Room.{IsBudget, HasRoom}
use Rattle.log_tree.proofs.Views.{find-key}
use Rattle.log_tree.proofs.TreeLaws.{node_at-id}
use Rattle.log_store.proofs.StoreLaws.{name_at}
use Rattle.log_files.specs.Chunked.{chunks_of}
use Rattle.log_files.proofs.ChunkLaws.{below_or_not}
use Rattle.log_held.specs.Sound.{kind_at, IsLeaf, ArePlaced, AreOnce}
use Rattle.log_held.specs.Room.{IsLarge, LeavesRoom}
use Rattle.log_held.proofs.Lists.{Each, each_found, each_entry}
use Rattle.log_held.proofs.Chunks.{none_some}
use Rattle.log_held.proofs.Nodes.{IsFoundNode, node_found, kind_found}
use Rattle.log_held.proofs.Counting.{IsAmong, count_of, count_most, order, counts, HasOwner, counts_all}

-- WHAT ONE NODE HAS

-- a node's records: itself, and names or chunks
pub record IsCost (size : ℕ) (n : Node) : Type 0 where
  pub names : ℕ
  pub chunks : ℕ
  pub bytes : ℕ
  pub all : size ≤ 1 + names + chunks
  pub used_is : bytes + 512 * names ≡ used_by n.content
  pub full : 480 * chunks ≤ bytes + 479

pub record AreCosts (es : List (List ℕ × Node)) (size : ℕ) : Type 0 where
  pub names : ℕ
  pub chunks : ℕ
  pub bytes : ℕ
  pub all : size ≤ length es + names + chunks
  pub used_is : bytes + 512 * names ≡ sum_values (λ (n : Node). used_by n.content) es
  pub full : 480 * chunks ≤ bytes + 479 * length es

costs : (es : List (List ℕ × Node)) (rs : Records) → Each (λ e. IsCost (count_of (take 8 e.0) rs) e.1) es
    → AreCosts es (counts es rs)
costs [] rs h =
    record { names = 0; chunks = 0; bytes = 0; all = omega arith; used_is = omega arith; full = omega arith }
costs (e ∷ es) rs h =
    let one = h.0 in
    let rest = costs es rs h.1 in
    record {
      names = one.names + rest.names;
      chunks = one.chunks + rest.chunks;
      bytes = one.bytes + rest.bytes;
      all = omega (arith, one.all, rest.all);
      used_is = omega (arith, one.used_is, rest.used_is);
      full = omega (arith, one.full, rest.full);
    }

-- the keys of so many chunks
abbrev chunk_keys : List ℕ → ℕ → List (List ℕ)
chunk_keys id zero = []
chunk_keys id (suc n) = chunk_key id n ∷ chunk_keys id n

length-chunk_keys : (id : List ℕ) (n : ℕ) → length (chunk_keys id n) ≡ n
length-chunk_keys id zero = refl
length-chunk_keys id (suc n) = let rest = length-chunk_keys id n in omega arith

among_chunks : (id : List ℕ) (n p : ℕ) → p < n → IsAmong (chunk_key id p) (chunk_keys id n)
among_chunks id zero p below = absurd (omega arith)
among_chunks id (suc n) p below = elim (one_or_not p n) [
  | inl e ↦ inl (ap (chunk_key id) e)
  | inr ne ↦ inr (among_chunks id n p (omega arith))
]

-- the keys of the names of these entries
abbrev name_keys : List ℕ → List (List ℕ × List ℕ) → List (List ℕ)
name_keys id [] = []
name_keys id (e ∷ es) = name_key id e.0 ∷ name_keys id es

length-name_keys : (id : List ℕ) (es : List (List ℕ × List ℕ)) → length (name_keys id es) ≡ length es
length-name_keys id [] = refl
length-name_keys id (e ∷ es) = let rest = length-name_keys id es in omega arith

among_names : (id name x : List ℕ) (es : List (List ℕ × List ℕ)) → find_entry order name es ≡ Some x
    → IsAmong (name_key id name) (name_keys id es)
among_names id name x [] is = absurd (let bad : None ≡ Some x = is in cc)
among_names id name x (e ∷ es) is =
    elim (eq_by_cmp order name e.0) as (λ b. eq_by_cmp order name e.0 ≡ b
    → cond b (Some e.1) (find_entry order name es) ≡ Some x
    → (name_key id name ≡ name_key id e.0) ⊎ IsAmong (name_key id name) (name_keys id es)) [
      | true ↦ (λ t w. inl (ap (name_key id) (same-keys name e.0 t)))
      | false ↦ (λ t w. inr (among_names id name x es w))
    ] refl is

-- the records of a file or a link
leaf_keys : (live : Records) (h : ArePlaced live) (id : List ℕ) → length id ≡ 8 → (kind_at live id ≡ Some Dir → ⊥)
    → (k r : List ℕ) → find k live ≡ Some r → id_of r ≡ id
    → IsAmong (key_of r) (node_key id ∷ chunk_keys id (chunks_of (length (bytes_of live id))))
leaf_keys live h id eight no_dir k r is same =
    let key = find-key k live r is in
    let here : take 8 (drop 1 k) ≡ id = ap (λ q. take 8 (drop 1 q)) (sym key) ∙ same in
    elim (h.form k r is) [
      | inl n ↦
          let at : n.0 ≡ id = sym (ap (λ q. take 8 (drop 1 q)) n.1 ∙ take_all 8 n.0 (omega (arith, n.2))) ∙ here in
          inl (key ∙ (n.1 ∙ ap node_key at))
      | inr rest ↦ elim rest [
        | inl n ↦
            let at : n.0 ≡ id = sym (ap (λ q. take 8 (drop 1 q)) n.2 ∙ take_at n.0 n.1 8 n.3) ∙ here in
            absurd (no_dir (ap (kind_at live) (sym at) ∙ h.of_dir n.0 n.1 r n.3 (ap (λ q. find q live) (sym n.2) ∙ is)))
        | inr c ↦
            let at : c.0 ≡ id = sym (ap (λ q. take 8 (drop 1 q)) c.2 ∙ take_at c.0 (to_be_bytes w32 c.1) 8 c.3) ∙ here in
            let key_is : k ≡ chunk_key id c.1 = c.2 ∙ ap (λ i. chunk_key i c.1) at in
            let size = length (bytes_of live id) in
            let low : c.1 < chunks_of size = elim (below_or_not (480 * c.1) size) [
              | inl l ↦ omega arith
              | inr g ↦ absurd (let bad : Some r ≡ None = sym is ∙ (ap (λ q. find q live) key_is
                  ∙ (h.chunks id eight).absent c.1 g (omega (arith, c.4))) in cc)
            ] in
            inr (subst (λ q. IsAmong q (chunk_keys id (chunks_of size))) (sym (key ∙ key_is))
            (among_chunks id (chunks_of size) c.1 low))
      ]
    ]

-- the records of a directory
dir_keys : (live : Records) (h : ArePlaced live) (id : List ℕ) → length id ≡ 8 → kind_at live id ≡ Some Dir
    → (k r : List ℕ) → find k live ≡ Some r → id_of r ≡ id
    → IsAmong (key_of r) (node_key id ∷ name_keys id (entries (names_of live id)))
dir_keys live h id eight is_dir k r is same =
    let key = find-key k live r is in
    let here : take 8 (drop 1 k) ≡ id = ap (λ q. take 8 (drop 1 q)) (sym key) ∙ same in
    elim (h.form k r is) [
      | inl n ↦
          let at : n.0 ≡ id = sym (ap (λ q. take 8 (drop 1 q)) n.1 ∙ take_all 8 n.0 (omega (arith, n.2))) ∙ here in
          inl (key ∙ (n.1 ∙ ap node_key at))
      | inr rest ↦ elim rest [
        | inl n ↦
            let at : n.0 ≡ id = sym (ap (λ q. take 8 (drop 1 q)) n.2 ∙ take_at n.0 n.1 8 n.3) ∙ here in
            let key_is : k ≡ name_key id n.1 = n.2 ∙ ap (λ i. name_key i n.1) at in
            let there : find_entry order n.1 (entries (names_of live id)) ≡ Some (handle_of (child_in (value_of r))) =
            sym (get-entries (names_of live id) n.1) ∙ (name_at live id n.1 eight
            ∙ ap (option_map (λ r. handle_of (child_in (value_of r)))) (ap (λ q. find q live) (sym key_is) ∙ is)) in
            inr (subst (λ q. IsAmong q (name_keys id (entries (names_of live id)))) (sym (key ∙ key_is))
            (among_names id n.1 (handle_of (child_in (value_of r))) (entries (names_of live id)) there))
        | inr c ↦
            let at : c.0 ≡ id = sym (ap (λ q. take 8 (drop 1 q)) c.2 ∙ take_at c.0 (to_be_bytes w32 c.1) 8 c.3) ∙ here in
            let leaf = h.of_leaf c.0 c.1 r c.3 c.4 (ap (λ q. find q live) (sym c.2) ∙ is) in
            absurd (not_leaf (kind_at live c.0) leaf (ap (kind_at live) at ∙ is_dir))
      ]
    ]
  where
    not_leaf : (o : Option Kind) → IsLeaf o → o ≡ Some Dir → ⊥
    not_leaf None h e = h
    not_leaf (Some File) h e = absurd (let bad : Some File ≡ Some Dir = e in cc)
    not_leaf (Some Dir) h e = h
    not_leaf (Some Link) h e = absurd (let bad : Some Link ≡ Some Dir = e in cc)

module _ (live : Records) (once : AreOnce live) (h : ArePlaced live) (q : List ℕ) (n : Node)
    (f : IsFoundNode live q n) where
  abbrev id : List ℕ
  id = take 8 q

  abbrev kind : Kind
  kind = (node_in (value_of f.block)).kind

  -- what the node contains
  content_is : n.content ≡ content_of live id kind
  content_is = ap (λ (m : Node). m.content) (sym f.is) ∙ ap (λ i. content_of live i kind) f.id_is

  leaf_cost : (used_by (content_of live id kind) ≡ length (bytes_of live id)) → (kind ≡ Dir → ⊥)
      → IsCost (count_of id live) n
  leaf_cost uses no_dir =
      let size = length (bytes_of live id) in
      let keys = node_key id ∷ chunk_keys id (chunks_of size) in
      let most = count_most id keys live once (each_found (λ r. id_of r ≡ id → IsAmong (key_of r) keys) live once
      (leaf_keys live h id f.eight (λ e. no_dir (some_same (sym (kind_found live q n f) ∙ e))))) in
      let long = length-chunk_keys id (chunks_of size) in
      record {
        names = 0;
        chunks = chunks_of size;
        bytes = size;
        all = omega arith;
        used_is = omega (arith, ap used_by content_is, uses);
        full = omega arith;
      }
    where
      some_same : {A : Type 0} {x y : A} → Some x ≡ Some y → x ≡ y
      some_same e = cc

  dir_cost : kind ≡ Dir → IsCost (count_of id live) n
  dir_cost is_dir =
      let names = names_of live id in
      let keys = node_key id ∷ name_keys id (entries names) in
      let most = count_most id keys live once (each_found (λ r. id_of r ≡ id → IsAmong (key_of r) keys) live once
      (dir_keys live h id f.eight (kind_found live q n f ∙ ap Some is_dir))) in
      let long = length-name_keys id (entries names) in
      let size = len-entries names in
      let uses : used_by n.content ≡ 512 * len names = ap used_by (content_is ∙ ap (content_of live id) is_dir) in
      record {
        names = len names;
        chunks = 0;
        bytes = 0;
        all = omega arith;
        used_is = omega (arith, uses);
        full = omega arith;
      }

  cost : IsCost (count_of id live) n
  cost = elim kind as (λ (k : Kind). kind ≡ k → IsCost (count_of id live) n) [
    | File ↦ (λ e. leaf_cost (ap (λ k. used_by (content_of live id k)) e) (λ d. absurd (let bad = sym e ∙ d in cc)))
    | Dir ↦ (λ e. dir_cost e)
    | Link ↦ (λ e. leaf_cost (ap (λ k. used_by (content_of live id k)) e) (λ d. absurd (let bad = sym e ∙ d in cc)))
  ] refl

-- ALL NODES

owner : (live : Records) (id : List ℕ) → length id ≡ 8 → IsSome (kind_at live id)
    → IsSome (find_entry order (handle_of id) (entries (tree_of live).nodes))
owner live id eight some =
    subst (λ o. IsSome o) (get-entries (tree_of live).nodes (handle_of id)) (subst (λ o. IsSome o)
    (sym (node_at-id live id eight)) (both (find (node_key id) live) some))
  where
    both : (o : Option (List ℕ)) → IsSome (option_map (λ r. (node_in (value_of r)).kind) o)
        → IsSome (option_map (node_of live) o)
    both None h = absurd (none_some Kind None refl h)
    both (Some r) h = refl

owned : (live : Records) (h : ArePlaced live) (k r : List ℕ) → find k live ≡ Some r
    → HasOwner (entries (tree_of live).nodes) r
owned live h k r is =
    let key = find-key k live r is in
    elim (h.form k r is) [
      | inl n ↦
          let at : id_of r ≡ n.0 = ap (λ q. take 8 (drop 1 q)) (key ∙ n.1) ∙ take_all 8 n.0 (omega (arith, n.2)) in
          own n.0 at n.2 (subst (λ o. IsSome o) (sym (ap (option_map (λ r. (node_in (value_of r)).kind))
          (ap (λ q. find q live) (sym n.1) ∙ is))) refl)
      | inr rest ↦ elim rest [
        | inl n ↦
            let at : id_of r ≡ n.0 = ap (λ q. take 8 (drop 1 q)) (key ∙ n.2) ∙ take_at n.0 n.1 8 n.3 in
            own n.0 at n.3 (subst (λ o. IsSome o) (sym (h.of_dir n.0 n.1 r n.3
            (ap (λ q. find q live) (sym n.2) ∙ is))) refl)
        | inr c ↦
            let at : id_of r ≡ c.0 = ap (λ q. take 8 (drop 1 q)) (key ∙ c.2)
            ∙ take_at c.0 (to_be_bytes w32 c.1) 8 c.3 in
            own c.0 at c.3 (leaf_some (kind_at live c.0) (h.of_leaf c.0 c.1 r c.3 c.4
            (ap (λ q. find q live) (sym c.2) ∙ is)))
      ]
    ]
  where
    own : (id : List ℕ) → id_of r ≡ id → length id ≡ 8 → IsSome (kind_at live id)
        → HasOwner (entries (tree_of live).nodes) r
    own id at eight some = record {
      eight = ap length at ∙ eight;
      owner = subst (λ i. IsSome (find_entry order (handle_of i) (entries (tree_of live).nodes))) (sym at)
          (owner live id eight some);
    }

    leaf_some : (o : Option Kind) → IsLeaf o → IsSome o
    leaf_some None h = absurd h
    leaf_some (Some k) h = refl

pub room_law : HasRoom
room_law nodes names chunks bytes most_nodes most_bytes blocks half budget = omega arith

used_sum : (t : Tree) → used t ≡ sum_values (λ (n : Node). used_by n.content) (entries t.nodes)
unfolding used total
used_sum t = refl

-- names, chunks and bytes of all nodes
pub record AreCounted (live : Records) : Type 0 where
  pub names : ℕ
  pub chunks : ℕ
  pub bytes : ℕ
  pub all : length live ≤ len (tree_of live).nodes + names + chunks
  pub used_is : bytes + 512 * names ≡ used (tree_of live)
  pub full : 480 * chunks ≤ bytes + 479 * len (tree_of live).nodes

pub counted : (live : Records) → AreOnce live → ArePlaced live → AreCounted live
counted live once placed =
    let T = tree_of live in
    let es = entries T.nodes in
    let all = counts_all es live (each_found (HasOwner es) live once (owned live placed)) in
    let c = costs es live (each_entry (λ e. IsCost (count_of (take 8 e.0) live) e.1) T.nodes
    (λ q n is. cost live once placed q n (node_found live q n is))) in
    let size = len-entries T.nodes in
    let uses = used_sum T in
    record {
      names = c.names;
      chunks = c.chunks;
      bytes = c.bytes;
      all = omega (arith, c.all);
      used_is = omega (arith, c.used_is);
      full = omega (arith, c.full);
    }

-- records that have their places leave room, where their tree is within the limits
pub leaves_room_placed : (limits : ServerLimits) (live : Records) (blocks : ℕ) → AreOnce live → ArePlaced live
    → len (tree_of live).nodes ≤ max limits.nodes 1 → used (tree_of live) ≤ limits.bytes → IsLarge limits blocks
    → length live + 61 + 2 * limits.nodes ≤ half_size blocks
leaves_room_placed limits live blocks once placed few bytes large =
    let c = counted live once placed in
    let budget : IsBudget (len (tree_of live).nodes) c.names c.chunks c.bytes limits.nodes limits.bytes blocks
    (half_size blocks) =
    record {
      few_nodes = few;
      few_bytes = omega (arith, c.used_is);
      full_chunks = c.full;
      blocks_are = large;
      half_is = refl;
    } in
    let room = room_law (len (tree_of live).nodes) c.names c.chunks c.bytes limits.nodes limits.bytes blocks
    (half_size blocks) budget in
    omega (arith, c.all)

pub leaves_room : LeavesRoom
leaves_room limits live blocks once s large =
    leaves_room_placed limits live blocks once s.placed s.few_nodes s.few_bytes large
