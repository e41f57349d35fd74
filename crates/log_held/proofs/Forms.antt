-- What it says of a record that it has a place, and what gives it one.
use Rattle.std.proofs.Common.{inl, inr, ◌≡◌, ◌∙◌, ◌⊎◌, ◌+◌, ◌-◌, ◌<◌, ◌≤◌, ◌^◌, ℕ, Bool, true, false, ◌&&◌, ◌||◌, List, [], ◌∷◌, length, take, drop, get_or, Option, Some, None, IsSomeAnd, refl, sym, ap, bytes_eq, arith}
use Rattle.std.specs.Prelude.{◌==◌, is_some, not, nat_le, nat_lt, option_map, option_and_then, if◌then◌else◌}
use Rattle.std.specs.Int.{to_be_bytes, from_be_bytes, w32}
use Rattle.std.proofs.lemmas.Bool.Decides.{nat_tests}
use Rattle.std.proofs.lemmas.List.{take-append-drop, take_at, drop_at, length-append, length-take, length-drop}
use Rattle.std.proofs.lemmas.Nat.{from_be_bytes-to_be_bytes_4}
use Rattle.std.proofs.lemmas.Slice.Eq.{bytes_eq-Decides}
use Rattle.nfs2_types.specs.declared.fattr.Kind.{Kind}
use Rattle.nfs2_types.specs.declared.fattr.Kind.TheVariants.{File, Dir, Link}
use Rattle.server_trait.specs.Tree.{Node, names_in, node_at}
use Rattle.log_segments.specs.Newest.{find}
use Rattle.log_segments.specs.Record.{key_of}
use Rattle.log_records.specs.Layout.{node_key, name_key, chunk_key, value_of, node_in, chunk_in}
use Rattle.log_tree.specs.Held.{Records, handle_of, content_of, id_of, node_of, tree_of, is_node, is_name, is_chunk, is_dir, is_leaf, place_of, has_bytes, is_behind_full, has_place}
use Rattle.log_tree.proofs.Views.{find-key}
use Rattle.log_tree.proofs.TreeLaws.{node_at-id}
use Rattle.log_held.specs.Sound.{kind_at, IsLeaf, IsNodeKey, IsNameKey, IsChunkKey, ArePlaced}
use Rattle.log_held.proofs.Lists.{Each, found_each}
use Rattle.log_held.proofs.Chunks.{AreBehind, are_chunked}

-- TESTS

pub both : (a b : Bool) → (a && b) ≡ true → (a ≡ true) × (b ≡ true)
both true b h = (refl, h)
both false b h = cc

pub and_is : (a b : Bool) → a ≡ true → b ≡ true → (a && b) ≡ true
and_is true b e h = h
and_is false b e h = cc

one_of : (a b x y z : Bool) → (if a then x else (if b then y else z)) ≡ true
    → ((a ≡ true) × (x ≡ true)) ⊎ (((b ≡ true) × (y ≡ true)) ⊎ (z ≡ true))
one_of true b x y z h = inl (refl, h)
one_of false true x y z h = inr (inl (refl, h))
one_of false false x y z h = inr (inr h)

pub first_of_three : (a b x y z : Bool) → a ≡ true → x ≡ true → (if a then x else (if b then y else z)) ≡ true
first_of_three true b x y z e h = h
first_of_three false b x y z e h = cc

pub second_of_three : (a b x y z : Bool) → a ≡ false → b ≡ true → y ≡ true
    → (if a then x else (if b then y else z)) ≡ true
second_of_three true b x y z e f h = cc
second_of_three false true x y z e f h = h
second_of_three false false x y z e f h = cc

pub third_of_three : (a b x y z : Bool) → a ≡ false → b ≡ false → z ≡ true
    → (if a then x else (if b then y else z)) ≡ true
third_of_three true b x y z e f h = cc
third_of_three false true x y z e f h = cc
third_of_three false false x y z e f h = h

pub same_number : (a b : ℕ) → (a == b) ≡ true → a ≡ b
same_number a b h = grind (arith, nat_tests)

pub number_is : (a b : ℕ) → a ≡ b → (a == b) ≡ true
number_is a b h = grind (arith, nat_tests)

pub at_most : (a b : ℕ) → nat_le a b ≡ true → a ≤ b
at_most a b h = grind (arith, nat_tests)

pub at_most_is : (a b : ℕ) → a ≤ b → nat_le a b ≡ true
at_most_is a b h = grind (arith, nat_tests)

less_than : (a b : ℕ) → nat_lt a b ≡ true → a < b
less_than a b h = grind (arith, nat_tests)

pub less_than_is : (a b : ℕ) → a < b → nat_lt a b ≡ true
less_than_is a b h = grind (arith, nat_tests)

-- KINDS

abbrev dir_test : Option Kind → Bool
dir_test None = false
dir_test (Some File) = false
dir_test (Some Dir) = true
dir_test (Some Link) = false

-- a node's content has names where it is a directory
names_test : (live : Records) (id : List ℕ) (kind : Kind) → is_some (names_in (content_of live id kind))
    ≡ dir_test (Some kind)
names_test live id File = refl
names_test live id Dir = refl
names_test live id Link = refl

pub is_dir_is : (live : Records) (id : List ℕ) → length id ≡ 8 → is_dir live id ≡ dir_test (kind_at live id)
is_dir_is live id eight =
    ap (λ o. is_some (option_and_then (λ (n : Node). names_in n.content) o)) (node_at-id live id eight)
    ∙ elim (find (node_key id) live) as (λ o. is_some (option_and_then (λ (n : Node). names_in n.content)
    (option_map (node_of live) o)) ≡ dir_test (option_map (λ r. (node_in (value_of r)).kind) o)) [
      | None ↦ refl
      | Some r ↦ names_test live (id_of r) (node_in (value_of r)).kind
    ]

pub is_some_is : (live : Records) (id : List ℕ) → length id ≡ 8
    → is_some (node_at (tree_of live) (handle_of id)) ≡ is_some (kind_at live id)
is_some_is live id eight =
    ap is_some (node_at-id live id eight)
    ∙ elim (find (node_key id) live) as (λ o. is_some (option_map (node_of live) o)
    ≡ is_some (option_map (λ r. (node_in (value_of r)).kind) o)) [ None ↦ refl | Some r ↦ refl ]

dir_kind : (o : Option Kind) → dir_test o ≡ true → o ≡ Some Dir
dir_kind None h = cc
dir_kind (Some File) h = cc
dir_kind (Some Dir) h = refl
dir_kind (Some Link) h = cc

leaf_kind : (o : Option Kind) → (is_some o && not (dir_test o)) ≡ true → IsLeaf o
leaf_kind None h = absurd cc
leaf_kind (Some File) h = tt
leaf_kind (Some Dir) h = absurd cc
leaf_kind (Some Link) h = tt

pub kind_leaf : (o : Option Kind) → IsLeaf o → (is_some o && not (dir_test o)) ≡ true
kind_leaf None h = absurd h
kind_leaf (Some File) h = refl
kind_leaf (Some Dir) h = absurd h
kind_leaf (Some Link) h = refl

pub dir_there : (live : Records) (id : List ℕ) → length id ≡ 8 → is_dir live id ≡ true → kind_at live id ≡ Some Dir
dir_there live id eight h = dir_kind (kind_at live id) (sym (is_dir_is live id eight) ∙ h)

pub there_dir : (live : Records) (id : List ℕ) → length id ≡ 8 → kind_at live id ≡ Some Dir → is_dir live id ≡ true
there_dir live id eight h = is_dir_is live id eight ∙ ap dir_test h

pub is_leaf_is : (live : Records) (id : List ℕ) → length id ≡ 8
    → is_leaf live id ≡ (is_some (kind_at live id) && not (dir_test (kind_at live id)))
is_leaf_is live id eight =
    ap (λ b. is_some (node_at (tree_of live) (handle_of id)) && not b) (is_dir_is live id eight)
    ∙ ap (λ b. b && not (dir_test (kind_at live id))) (is_some_is live id eight)

-- KEYS

-- a key's first byte, and the rest
headed : (k : List ℕ) (b : ℕ) → (get_or k 0 0 == b) ≡ true → 1 ≤ length k → k ≡ b ∷ drop 1 k
headed [] b h some = absurd (omega arith)
headed (x ∷ xs) b h some = let same : x ≡ b = same_number x b h in ap (λ y. y ∷ xs) same

-- what the tests of a chunk say
record IsChunkRecord (live : Records) (r : List ℕ) : Type 0 where
  chunk : is_chunk r ≡ true
  key : key_of r ≡ chunk_key (id_of r) (place_of r)
  leaf : is_leaf live (id_of r) ≡ true
  few : place_of r < 17477
  bytes : has_bytes r ≡ true
  behind : is_behind_full live r ≡ true

chunk_tests : (live : Records) (r : List ℕ) → (is_chunk r && bytes_eq (key_of r) (chunk_key (id_of r) (place_of r))
    && is_leaf live (id_of r) && nat_lt (place_of r) 17477 && has_bytes r && is_behind_full live r) ≡ true
    → IsChunkRecord live r
chunk_tests live r h =
    let a = is_chunk r in
    let b = bytes_eq (key_of r) (chunk_key (id_of r) (place_of r)) in
    let c = is_leaf live (id_of r) in
    let d = nat_lt (place_of r) 17477 in
    let e = has_bytes r in
    let five = both (a && b && c && d && e) (is_behind_full live r) h in
    let four = both (a && b && c && d) e five.0 in
    let three = both (a && b && c) d four.0 in
    let two = both (a && b) c three.0 in
    let one = both a b two.0 in
    record {
      chunk = one.0;
      key = (bytes_eq-Decides (key_of r) (chunk_key (id_of r) (place_of r))).0 one.1;
      leaf = two.1;
      few = less_than (place_of r) 17477 three.1;
      bytes = four.1;
      behind = five.1;
    }

-- the id in a key of a chunk has 8 bytes
id_long : (k : List ℕ) (n : ℕ) → k ≡ chunk_key (take 8 (drop 1 k)) n → length (take 8 (drop 1 k)) ≡ 8
id_long k n is =
    let id = take 8 (drop 1 k) in
    let whole : length k ≡ length (chunk_key id n) = ap length is in
    omega (arith, length-append id (to_be_bytes w32 n), length-take 8 (drop 1 k), length-drop 1 k)

-- A RECORD HAS A PLACE

module _ (live : Records) (placed : Each (λ r. has_place live r ≡ true) live) where
  abbrev Cases : List ℕ → Type 0
  Cases r = ((is_node r ≡ true) × ((length (key_of r) == 9) ≡ true)) ⊎
      (((is_name r ≡ true) × ((is_dir live (id_of r) && nat_le 9 (length (key_of r)) && nat_le (length (key_of r)) 264)
      ≡ true)) ⊎ IsChunkRecord live r)

  cases : (k r : List ℕ) → find k live ≡ Some r → Cases r
  cases k r is = elim (one_of (is_node r) (is_name r) (length (key_of r) == 9)
      (is_dir live (id_of r) && nat_le 9 (length (key_of r)) && nat_le (length (key_of r)) 264)
      (is_chunk r && bytes_eq (key_of r) (chunk_key (id_of r) (place_of r)) && is_leaf live (id_of r)
      && nat_lt (place_of r) 17477 && has_bytes r && is_behind_full live r)
      (found_each (λ r. has_place live r ≡ true) live k r placed is)) [
        | inl node ↦ inl node
        | inr rest ↦ elim rest [
          | inl name ↦ inr (inl name)
          | inr chunk ↦ inr (inr (chunk_tests live r chunk))
        ]
      ]

  form : (k r : List ℕ) → find k live ≡ Some r → IsNodeKey k ⊎ (IsNameKey k ⊎ IsChunkKey k)
  form k r is =
      let key = find-key k live r is in
      elim (cases k r is) [
        | inl node ↦
            let long : length k ≡ 9 = sym (ap length key) ∙ same_number (length (key_of r)) 9 node.1 in
            let head = headed k 1 (ap (λ q. get_or q 0 0 == 1) (sym key) ∙ node.0) (omega arith) in
            inl (drop 1 k, head, omega (arith, length-drop 1 k))
        | inr rest ↦ elim rest [
          | inl name ↦
              let n = length (key_of r) in
              let same : n ≡ length k = ap length key in
              let two = both (is_dir live (id_of r) && nat_le 9 n) (nat_le n 264) name.1 in
              let one = both (is_dir live (id_of r)) (nat_le 9 n) two.0 in
              let low = at_most 9 n one.1 in
              let high = at_most n 264 two.1 in
              let head = headed k 2 (ap (λ q. get_or q 0 0 == 2) (sym key) ∙ name.0) (omega arith) in
              let rest = drop 1 k in
              let long = length-drop 1 k in
              inr (inl (
                take 8 rest,
                drop 8 rest,
                head ∙ ap (λ xs. 2 ∷ xs) (sym (take-append-drop 8 rest)),
                omega (arith, length-take 8 rest),
                omega (arith, length-drop 8 rest),
              ))
          | inr chunk ↦
              let at : key_of r ≡ chunk_key (take 8 (drop 1 (key_of r))) (place_of r) = chunk.key in
              inr (inr (id_of r, place_of r, sym key ∙ chunk.key, id_long (key_of r) (place_of r) at, chunk.few))
        ]
      ]

  of_dir : (dir name r : List ℕ) → length dir ≡ 8 → find (name_key dir name) live ≡ Some r
      → kind_at live dir ≡ Some Dir
  of_dir dir name r eight is =
      let key = find-key (name_key dir name) live r is in
      let id_is : id_of r ≡ dir = ap (λ k. take 8 (drop 1 k)) key ∙ take_at dir name 8 eight in
      elim (cases (name_key dir name) r is) [
        | inl node ↦ absurd (let bad : (2 == 1) ≡ true = ap (λ k. get_or k 0 0 == 1) (sym key) ∙ node.0 in cc)
        | inr rest ↦ elim rest [
          | inl h ↦
              let n = length (key_of r) in
              let two = both (is_dir live (id_of r) && nat_le 9 n) (nat_le n 264) h.1 in
              let one = both (is_dir live (id_of r)) (nat_le 9 n) two.0 in
              dir_there live dir eight (ap (is_dir live) (sym id_is) ∙ one.0)
          | inr chunk ↦ absurd (let bad : (2 == 3) ≡ true = ap (λ k. get_or k 0 0 == 3) (sym key) ∙ chunk.chunk in cc)
        ]
      ]

  -- a chunk's record, by its key
  record IsChunkOf (id : List ℕ) (place : ℕ) (r : List ℕ) : Type 0 where
    all : IsChunkRecord live r
    id_is : id_of r ≡ id
    place_is : place_of r ≡ place

  chunk_of : (id : List ℕ) (place : ℕ) (r : List ℕ) → length id ≡ 8 → place < 2 ^ 32
      → find (chunk_key id place) live ≡ Some r → IsChunkOf id place r
  chunk_of id place r eight fits is =
      let key = find-key (chunk_key id place) live r is in
      let tail : drop 9 (chunk_key id place) ≡ to_be_bytes w32 place = drop_at (3 ∷ id) (to_be_bytes w32 place) 9
      (omega arith) in
      elim (cases (chunk_key id place) r is) [
        | inl node ↦ absurd (let bad : (3 == 1) ≡ true = ap (λ k. get_or k 0 0 == 1) (sym key) ∙ node.0 in cc)
        | inr rest ↦ elim rest [
          | inl h ↦ absurd (let bad : (3 == 2) ≡ true = ap (λ k. get_or k 0 0 == 2) (sym key) ∙ h.0 in cc)
          | inr chunk ↦ record {
            all = chunk;
            id_is = ap (λ k. take 8 (drop 1 k)) key ∙ take_at id (to_be_bytes w32 place) 8 eight;
            place_is = ap (λ k. from_be_bytes w32 (drop 9 k)) key ∙ (ap (from_be_bytes w32) tail
                ∙ from_be_bytes-to_be_bytes_4 place fits);
          }
        ]
      ]

  of_leaf : (id : List ℕ) (place : ℕ) (r : List ℕ) → length id ≡ 8 → place < 17477
      → find (chunk_key id place) live ≡ Some r → IsLeaf (kind_at live id)
  of_leaf id place r eight few is =
      let c = chunk_of id place r eight (omega arith) is in
      leaf_kind (kind_at live id) (sym (is_leaf_is live id eight) ∙ (ap (is_leaf live) (sym c.id_is) ∙ c.all.leaf))

  behind_at : (id : List ℕ) (n p : ℕ) → n ≡ p + 1 → ((n == 0) || elim (find (chunk_key id (n - 1)) live) [
    | None ↦ false
    | Some before ↦ length (chunk_in (value_of before)) == 480
  ]) ≡ true → IsSomeAnd (find (chunk_key id p) live) (λ r. length (chunk_in (value_of r)) ≡ 480)
  behind_at id n p is h =
      let no : (n == 0) ≡ false = grind (arith, nat_tests) in
      let at : n - 1 ≡ p = omega arith in
      elim (find (chunk_key id p) live) as (λ (o : Option (List ℕ)). (false || elim o [
        | None ↦ false
        | Some before ↦ length (chunk_in (value_of before)) == 480
      ]) ≡ true → IsSomeAnd o (λ r. length (chunk_in (value_of r)) ≡ 480)) [
        | None ↦ (λ e. absurd cc)
        | Some r ↦ (λ e. same_number (length (chunk_in (value_of r))) 480 e)
      ] (ap (λ b. b || elim (find (chunk_key id p) live) [
        | None ↦ false
        | Some before ↦ length (chunk_in (value_of before)) == 480
      ]) (sym no) ∙ (ap (λ i. (n == 0) || elim (find (chunk_key id i) live) [
        | None ↦ false
        | Some before ↦ length (chunk_in (value_of before)) == 480
      ]) (sym at) ∙ h))

  are_behind : (id : List ℕ) → length id ≡ 8 → AreBehind live id
  are_behind id eight = record {
    below = λ p r fits is.
        let c = chunk_of id p r eight fits is in
        omega (arith, c.all.few, c.place_is);
    some = λ p r few is.
        let c = chunk_of id p r eight (omega arith) is in
        let n = length (chunk_in (value_of r)) in
        let tests = both (nat_lt 0 n) (nat_le n 480) c.all.bytes in
        let low = less_than 0 n tests.0 in
        (omega arith, at_most n 480 tests.1);
    behind = λ p r few is.
        let c = chunk_of id (p + 1) r eight (omega arith) is in
        behind_at id (p + 1) p refl
        (ap (λ i. (p + 1 == 0) || elim (find (chunk_key i (p + 1 - 1)) live) [
          | None ↦ false
          | Some before ↦ length (chunk_in (value_of before)) == 480
        ]) (sym c.id_is) ∙ (ap (λ n. (n == 0) || elim (find (chunk_key (id_of r) (n - 1)) live) [
          | None ↦ false
          | Some before ↦ length (chunk_in (value_of before)) == 480
        ]) (sym c.place_is) ∙ c.all.behind));
  }

  pub are_placed : ArePlaced live
  are_placed = record {
    form = form;
    of_dir = of_dir;
    of_leaf = of_leaf;
    chunks = λ id eight. are_chunked live id (are_behind id eight);
  }
