-- What one record more does to the tree, in the words of the calls of a file server.
use Rattle.std.proofs.Common.{◌≡◌, ◌≢◌, ◌∙◌, ◌+◌, ◌-◌, ◌++◌, ◌<◌, ◌≤◌, ◌^◌, ℕ, suc, zero, List, false, Option, Some, None, IsSome, cond, length, take, drop, refl, sym, ap, subst, bytes_eq, arith}
use Rattle.std.specs.Prelude.{option_map}
use Rattle.std.specs.Int.{to_be_bytes, from_be_bytes, w32, w64}
use Rattle.std.proofs.lemmas.List.{append_assoc, append-nil, drop_at, take_all}
use Rattle.std.proofs.lemmas.Nat.{from_be_bytes-to_be_bytes_4}
use Rattle.std.proofs.lemmas.Slice.Eq.{bytes_eq-Decides}
use Rattle.std.specs.FinMap.{insert, remove}
use Rattle.nfs2_types.specs.declared.fattr.Kind.{Kind}
use Rattle.nfs2_types.specs.declared.fattr.Kind.TheVariants.{File, Dir, Link}
use Rattle.server_trait.specs.Tree.{Node, Names, Content, BytesOf, TextOf, NamesOf, with_node, with_names, with_attr, with_bytes, edited}
use Rattle.server_trait.proofs.TreeLaws.{edited-some, edited-none}
use Rattle.log_segments.specs.Newest.{after, find}
use Rattle.log_segments.specs.Record.{is_gone, key_of}
use Rattle.log_segments.proofs.Finds.{find-after}
use Rattle.log_records.specs.Layout.{node_key, name_key, chunk_key, value_of, node_in, child_in, chunk_in}
use Rattle.log_tree.specs.Held.{Records, handle_of, chunk_and, bytes_from, bytes_of, names_of, content_of, id_of, node_of, tree_of}
use Rattle.log_tree.specs.Laws.{IsOfNode, IsInside, OfNode, NameLaws, OfName, ChunkLaws, OfChunk}
use Rattle.log_tree.proofs.Views.{find-key}
use Rattle.log_tree.proofs.TreeLaws.{apart, find-other, bytes_from-same, bytes_of-same, node_at-id, node_puts, node_takes, inside_laws, name_puts, name_takes, other_dirs}

-- a node as its parts
abbrev made : List ℕ → ℕ → ℕ → ℕ → Content → Node
made id mode uid gid content = record {
  number = from_be_bytes w64 id;
  mode = mode;
  uid = uid;
  gid = gid;
  content =
      content;
}

-- the id of what stands under a node's key
id_under : (live : Records) (id node : List ℕ) → length id ≡ 8 → find (node_key id) live ≡ Some node → id_of node ≡ id
id_under live id node eight w = ap (λ a. take 8 (drop 1 a)) (find-key (node_key id) live node w)
    ∙ take_all 8 id (omega arith)

-- A NODE'S RECORD

sets : (live : Records) (r id : List ℕ) (is : IsOfNode r id) (node : List ℕ) → find (node_key id) live ≡ Some node
    → (node_in (value_of node)).kind ≡ (node_in (value_of r)).kind → is_gone r ≡ false
    → tree_of (after live r) ≡ edited (tree_of live) (handle_of id) (with_attr (node_in (value_of r)).mode (node_in
    (value_of r)).uid (node_in (value_of r)).gid)
sets live r id is node w kind stands =
    let n = node_in (value_of r) in
    let h = handle_of id in
    let id_r : id_of r ≡ id = ap (λ a. take 8 (drop 1 a)) is.key ∙ take_all 8 id (omega (arith, is.size)) in
    let id_node = id_under live id node is.size w in
    let ids : id_of r ≡ id_of node = id_r ∙ sym id_node in
    let same : node_of live r ≡ with_attr n.mode n.uid n.gid (node_of live node) =
    ap (λ i. made i n.mode n.uid n.gid (content_of live i n.kind)) ids
    ∙ ap (λ k. made (id_of node) n.mode n.uid n.gid (content_of live (id_of node) k)) (sym kind) in
    node_puts live r id is stands
    ∙ (ap (with_node (tree_of live) h) same
    ∙ sym (edited-some (tree_of live) h (with_attr n.mode n.uid n.gid) (node_of live node)
    (node_at-id live id is.size ∙ ap (option_map (node_of live)) w)))

pub of_node : OfNode
of_node live r id is = record {
  puts = node_puts live r id is;
  takes = node_takes live r id is;
  sets = sets live r id
      is;
}

-- A NAME'S RECORD

-- what a node contains, where a name came or went
named_content : (live new : Records) (id : List ℕ) (f : Names → Names) (kind : Kind)
    → bytes_of new id ≡ bytes_of live id → names_of new id ≡ f (names_of live id)
    → content_of new id kind ≡ elim (content_of live id kind) [
      | BytesOf b ↦ BytesOf b
      | TextOf x ↦ TextOf x
      | NamesOf
          m ↦ NamesOf (f m)
    ]
named_content live new id f File bytes names = ap BytesOf bytes
named_content live new id f Dir bytes names = ap NamesOf names
named_content live new id f Link bytes names = ap TextOf bytes

module _ (live : Records) (r dir name : List ℕ) (eight : length dir ≡ 8) (key : key_of r ≡ name_key dir name) where
  inside : IsInside r dir
  inside = record { size = eight; about = 2; rest = name; not_node = λ e. omega arith; key = key }

  bytes_stay : bytes_of (after live r) dir ≡ bytes_of live dir
  bytes_stay = bytes_of-same live (after live r) dir (λ p. find-other live r (chunk_key dir p) (ap (λ k. bytes_eq k
      (chunk_key dir p)) key))

  -- the tree, where the directory's names are changed so
  changed : (f : Names → Names) → names_of (after live r) dir ≡ f (names_of live dir)
      → tree_of (after live r) ≡ edited (tree_of live) (handle_of dir) (with_names f)
  changed f names =
      elim (find (node_key dir) live) as (λ o. find (node_key dir) live ≡ o
      → tree_of (after live r) ≡ edited (tree_of live) (handle_of dir) (with_names f)) [
        | None ↦ (λ w. (inside_laws live r dir inside).absent w
            ∙ sym (edited-none (tree_of live) (handle_of dir) (with_names f) (node_at-id live dir eight
            ∙ ap (option_map (node_of live)) w)))
        | Some node ↦ (λ w.
            let n = node_in (value_of node) in
            let id_node = id_under live dir node eight w in
            let content = named_content live (after live r) (id_of node) f n.kind
            (ap (bytes_of (after live r)) id_node ∙ (bytes_stay ∙ ap (bytes_of live) (sym id_node)))
            (ap (names_of (after live r)) id_node ∙ (names ∙ ap (λ i. f (names_of live i)) (sym id_node))) in
            (inside_laws live r dir inside).there node w
            ∙ (ap (λ c. with_node (tree_of live) (handle_of dir) (made (id_of node) n.mode n.uid n.gid c)) content
            ∙ sym (edited-some (tree_of live) (handle_of dir) (with_names f) (node_of live node)
            (node_at-id live dir eight ∙ ap (option_map (node_of live)) w))))
      ] refl

  pub name_laws : NameLaws live r dir name
  name_laws = record {
    puts = name_puts live r dir name eight key;
    takes = name_takes live r dir name eight key;
    others = other_dirs live r dir name eight key;
    named = λ stands. changed (λ m. insert m name (handle_of (child_in (value_of r))))
        (name_puts live r dir name eight key stands);
    unnamed = λ gone. changed (λ m. remove m name) (name_takes live r dir name eight key gone);
  }

pub of_name : OfName
of_name = name_laws

-- A CHUNK'S RECORD

-- chunks that are there, and those behind them
split : (live : Records) (id : List ℕ) (i k m p q : ℕ) → m ≡ i + k → q ≡ p + i → ((j : ℕ) → p ≤ j → j < q
    → IsSome (find (chunk_key id j) live))
    → bytes_from m live id p ≡ bytes_from i live id p ++ bytes_from k live id q
unfolding bytes_from
split live id zero k m p q whole at there = let e : m ≡ k = omega arith in let f : p
    ≡ q = omega arith in ap (λ n. bytes_from n live id p) e ∙ ap (bytes_from k live id) f
split live id (suc i) k zero p q whole at there = absurd (omega arith)
split live id (suc i) k (suc m) p q whole at there =
    let rest : bytes_from m live id (p + 1) ≡ bytes_from i live id (p + 1) ++ bytes_from k live id q =
    split live id i k m (p + 1) q (omega arith) (omega arith) (λ j low high. there j (omega arith) high) in
    elim (find (chunk_key id p) live) as (λ (o : Option (List ℕ)). IsSome o
    → chunk_and o (bytes_from m live id (p + 1))
    ≡ chunk_and o (bytes_from i live id (p + 1)) ++ bytes_from k live id q) [
      | None ↦ (λ s. cc)
      | Some b ↦ (λ s. ap (λ xs. chunk_in (value_of b) ++ xs) rest
          ∙ sym (append_assoc (chunk_in (value_of b)) (bytes_from i live id (p + 1)) (bytes_from k live id q)))
    ] (there p (omega arith) (omega arith))

chunk_apart : (id : List ℕ) (p q : ℕ) → length id ≡ 8 → p < 2 ^ 32 → q < 2 ^ 32 → p ≢ q
    → chunk_key id p ≢ chunk_key id q
chunk_apart id p q eight few_p few_q ne e =
    let tails : id ++ to_be_bytes w32 p ≡ id ++ to_be_bytes w32 q = cc e in
    let words : to_be_bytes w32 p ≡ to_be_bytes w32 q = sym (drop_at id (to_be_bytes w32 p) 8 eight)
    ∙ (ap (drop 8) tails ∙ drop_at id (to_be_bytes w32 q) 8 eight) in
    ne (sym (from_be_bytes-to_be_bytes_4 p few_p) ∙ (ap (from_be_bytes w32) words
    ∙ from_be_bytes-to_be_bytes_4 q few_q))

module _ (live : Records) (r id : List ℕ) (place : ℕ) (eight : length id ≡ 8) (few : place < 17477) (key : key_of r
    ≡ chunk_key id place)
    (below : (p : ℕ) → p < place → IsSome (find (chunk_key id p) live)) where
  other_chunk : (p : ℕ) → p < 2 ^ 32 → p ≢ place → find (chunk_key id p) (after live r) ≡ find (chunk_key id p) live
  other_chunk p fits ne = find-other live r (chunk_key id p) (apart (key_of r) (chunk_key id p)
      (λ e. chunk_apart id place p eight (omega arith) fits (λ s. ne (sym s)) (sym key ∙ e)))

  this_chunk : find (chunk_key id place) (after live r) ≡ cond (is_gone r) None (Some r)
  this_chunk =
      find-after live r (chunk_key id place)
      ∙ ap (λ b. cond b (cond (is_gone r) None (Some r)) (find (chunk_key id place) live)) ((bytes_eq-Decides
      (key_of r) (chunk_key id place)).1 key)

  front : bytes_from place (after live r) id 0 ≡ bytes_from place live id 0
  front = bytes_from-same place live (after live r) id 0 (λ p low high. other_chunk p (omega arith) (λ e. omega arith))

  back : bytes_from (17476 - place) (after live r) id (place + 1) ≡ bytes_from (17476 - place) live id (place + 1)
  back = bytes_from-same (17476 - place) live (after live r) id (place + 1) (λ p low high. other_chunk p
      (omega arith) (λ e. omega arith))

  parts : (rs : Records) → ((p : ℕ) → p < place → IsSome (find (chunk_key id p) rs))
      → bytes_of rs id ≡ bytes_from place rs id 0 ++ chunk_and (find (chunk_key id place) rs) (bytes_from
      (17476 - place) rs id (place + 1))
  unfolding bytes_of bytes_from
  parts rs all = split rs id place (suc (17476 - place)) 17477 0 place (omega arith) (omega arith)
      (λ j low high. all j high)

  still_below : (p : ℕ) → p < place → IsSome (find (chunk_key id p) (after live r))
  still_below p fits = subst IsSome (sym (other_chunk p (omega arith) (λ e. omega arith))) (below p fits)

  now : bytes_of (after live r) id ≡ bytes_from place live id 0 ++ chunk_and (cond (is_gone r) None (Some r))
      (bytes_from (17476 - place) live id (place + 1))
  now =
      parts (after live r) still_below
      ∙ (ap (λ xs. xs ++ chunk_and (find (chunk_key id place) (after live r)) (bytes_from (17476 - place)
      (after live r) id (place + 1))) front
      ∙ (ap (λ o. bytes_from place live id 0 ++ chunk_and o (bytes_from (17476 - place) (after live r) id
      (place + 1))) this_chunk
      ∙ ap (λ xs. bytes_from place live id 0 ++ chunk_and (cond (is_gone r) None (Some r)) xs) back))

  inside_chunk : IsInside r id
  inside_chunk = record {
    size = eight;
    about = 3;
    rest = to_be_bytes w32 place;
    not_node = λ e. omega arith;
    key =
        key;
  }

  file : (node : List ℕ) → find (node_key id) live ≡ Some node → (node_in (value_of node)).kind ≡ File
      → tree_of (after live r) ≡ edited (tree_of live) (handle_of id) (with_bytes (λ _. bytes_of (after live r) id))
  file node w kind =
      let n = node_in (value_of node) in
      let id_node = id_under live id node eight w in
      let bytes = bytes_of (after live r) id in
      let new_content : content_of (after live r) (id_of node) n.kind
      ≡ BytesOf bytes = ap (content_of (after live r) (id_of node)) kind
      ∙ ap (λ i. BytesOf (bytes_of (after live r) i)) id_node in
      let old_content : elim (content_of live (id_of node) n.kind) [
        | BytesOf b ↦ BytesOf bytes
        | TextOf x ↦ TextOf x
        | NamesOf m ↦ NamesOf m
      ] ≡ BytesOf bytes =
      ap (λ k. elim (content_of live (id_of node) k) [
        | BytesOf b ↦ BytesOf bytes
        | TextOf x ↦ TextOf x
        | NamesOf m ↦
            NamesOf m
      ]) kind in
      (inside_laws live r id inside_chunk).there node w
      ∙ (ap (λ c. with_node (tree_of live) (handle_of id) (made (id_of node) n.mode n.uid n.gid c)) (new_content
      ∙ sym old_content)
      ∙ sym (edited-some (tree_of live) (handle_of id) (with_bytes (λ _. bytes)) (node_of live node)
      (node_at-id live id eight ∙ ap (option_map (node_of live)) w)))

  pub chunk_laws : ChunkLaws live r id place
  chunk_laws = record {
    before = parts live below;
    puts = λ stands. now ∙ ap (λ g. bytes_from place live id 0 ++ chunk_and (cond g None (Some r)) (bytes_from
        (17476 - place) live id (place + 1))) stands;
    takes = λ gone. now ∙ (ap (λ g. bytes_from place live id 0 ++ chunk_and (cond g None (Some r)) (bytes_from
        (17476 - place) live id (place + 1))) gone ∙ append-nil (bytes_from place live id 0));
    file = file;
  }

pub of_chunk : OfChunk
of_chunk = chunk_laws
