-- What the steps of another size do to the bytes of a file: zeros behind them, chunks less, and a last chunk that is cut.
use Rattle.std.proofs.Common.{◌≡◌, ◌≢◌, ◌∙◌, inl, inr, ◌+◌, ◌-◌, ◌*◌, ◌/◌, ◌%◌, ◌++◌, ◌<◌, ◌≤◌, ◌^◌, ℕ, List, [], Option, Some, None, IsSome, IsSomeAnd, length, take, drop, replicate, refl, sym, ap, subst, arith}
use Rattle.std.specs.Prelude.{min, max, option_map}
use Rattle.std.proofs.lemmas.List.{append-nil, append_assoc, length-append, length-take, length-replicate, take_all, drop_all, take-append-le, replicate-append-replicate, take-replicate, take-take}
use Rattle.nfs2_types.specs.Bytes.{resized, overwritten}
use Rattle.server_trait.specs.Tree.{Tree, Node, BytesOf, TextOf, NamesOf, with_bytes, edited, node_at}
use Rattle.server_trait.proofs.TreeLaws.{bytes_or_not, one_or_not, edited-none, root-edited, node_at-edited_same, node_at-edited_other}
use Rattle.server_trait.proofs.OrderLaws.{same_trees}
use Rattle.log_segments.specs.Newest.{find}
use Rattle.log_records.specs.Layout.{node_key, chunk_key, value_of, chunk_in}
use Rattle.log_tree.specs.Held.{Records, bytes_from, bytes_of, content_of, handle_of, id_of, node_of, tree_of}
use Rattle.log_tree.proofs.Views.{find-key}
use Rattle.log_tree.proofs.TreeLaws.{node_at-id}
use Rattle.log_store.specs.Store.{HasOtherBytes, KeepsOthers, KeepsTree, Puts, Drops, PutsChunk, DropsChunk}
use Rattle.log_files.specs.Chunked.{IsChunked, ResizedBytes, WroteBytes, chunks_of, bytes_in}
use Rattle.log_files.proofs.ChunkLaws.{overwritten_is, take_behind, none_behind, length-front, length-chunk, chunk_apart}
use Rattle.log_files.proofs.ReadLaws.{parted, bytes_more, length-bytes, there_is, are_there}

-- TREES

-- a file gets other bytes twice
other_twice : (t : Tree) (h x y : List ℕ) → edited (edited t h (with_bytes (λ _. x))) h (with_bytes (λ _. y))
    ≡ edited t h (with_bytes (λ _. y))
other_twice t h x y =
    let f = with_bytes (λ _. x) in
    let g = with_bytes (λ _. y) in
    elim (node_at t h) as (λ (o : Option Node). node_at t h ≡ o → edited (edited t h f) h g ≡ edited t h g) [
      | None ↦ (λ none. ap (λ u. edited u h g) (edited-none t h f none))
      | Some n ↦ (λ is. same_trees (edited (edited t h f) h g) (edited t h g)
          (root-edited (edited t h f) h g ∙ (root-edited t h f ∙ sym (root-edited t h g))) (λ q.
          elim (bytes_or_not q h) as (λ _. node_at (edited (edited t h f) h g) q ≡ node_at (edited t h g) q) [
            | inl e ↦ subst (λ p. node_at (edited (edited t h f) h g) p ≡ node_at (edited t h g) p) (sym e)
                (node_at-edited_same (edited t h f) h g (f n) (node_at-edited_same t h f n is)
                ∙ (ap Some (twice n) ∙ sym (node_at-edited_same t h g n is)))
            | inr ne ↦ node_at-edited_other (edited t h f) h g q ne ∙ (node_at-edited_other t h f q ne
                ∙ sym (node_at-edited_other t h g q ne))
          ]))
    ] refl
  where
    twice : (n : Node) → with_bytes (λ _. y) (with_bytes (λ _. x) n) ≡ with_bytes (λ _. y) n
    twice n = elim n.content as (λ c. let m : Node = record n { content = c } in
        with_bytes (λ _. y) (with_bytes (λ _. x) m) ≡ with_bytes (λ _. y) m)
        [ BytesOf b ↦ refl | TextOf b ↦ refl | NamesOf m ↦ refl ]

module _ (live mid new : Records) (id : List ℕ) (same : find (node_key id) mid ≡ find (node_key id) live) where
  pub other_bytes : HasOtherBytes live id mid → HasOtherBytes mid id new → HasOtherBytes live id new
  other_bytes first second node is kind =
      second node (same ∙ is) kind
      ∙ (ap (λ t. edited t (handle_of id) (with_bytes (λ _. bytes_of new id))) (first node is kind)
      ∙ other_twice (tree_of live) (handle_of id) (bytes_of mid id) (bytes_of new id))

  pub keeps_tree : KeepsTree live id mid → KeepsTree mid id new → KeepsTree live id new
  keeps_tree first second none = second (same ∙ none) ∙ first none

-- BYTES

-- bytes that are filled a bit further
pub filled_more : (b : List ℕ) (now k next : ℕ) → length b ≤ now → next ≡ now + k
    → overwritten now (replicate k 0) (resized now b) ≡ resized next b
filled_more b now k next fits is =
    let B = resized now b in
    let Z : List ℕ = replicate k 0 in
    let whole : take now b ≡ b = take_all now b fits in
    let whole_next : take next b ≡ b = take_all next b (omega arith) in
    let long : length B ≡ now =
    omega (
      arith,
      length-append (take now b) (replicate (now - length b) 0),
      ap length whole,
      length-replicate (now - length b) (let z : ℕ = 0 in z),
    ) in
    let zeros : length Z ≡ k = length-replicate k (let z : ℕ = 0 in z) in
    overwritten_is now Z B (omega arith)
    ∙ (ap (λ xs. xs ++ (Z ++ drop (now + length Z) B)) (take_all now B (omega arith))
    ∙ (ap (λ xs. B ++ (Z ++ xs)) (drop_all (now + length Z) B (omega arith))
    ∙ (ap (λ xs. B ++ xs) (append-nil Z)
    ∙ (append_assoc (take now b) (replicate (now - length b) 0) Z
    ∙ (ap (λ xs. take now b ++ xs) (replicate-append-replicate (now - length b) k 0)
    ∙ (ap (λ xs. xs ++ replicate (now - length b + k) 0) (whole ∙ sym whole_next)
    ∙ ap (λ n. take next b ++ replicate n 0) (omega arith)))))))

pub resized_same : (b : List ℕ) (size : ℕ) → length b ≡ size → resized size b ≡ b
resized_same b size is =
    let none : size - length b ≡ 0 = omega arith in
    ap (λ n. take size b ++ replicate n 0) none ∙ (append-nil (take size b) ∙ take_all size b (omega arith))

pub resized_cut : (b : List ℕ) (size : ℕ) → size ≤ length b → resized size b ≡ take size b
resized_cut b size fits =
    let none : size - length b ≡ 0 = omega arith in
    ap (λ n. take size b ++ replicate n 0) none ∙ append-nil (take size b)

-- a chunk of so many bytes
longer : (o : Option (List ℕ)) (m n : ℕ) → m ≡ n → IsSomeAnd o (λ r. length (chunk_in (value_of r)) ≡ m)
    → IsSomeAnd o (λ r. length (chunk_in (value_of r)) ≡ n)
longer o m n e w = subst (λ k. IsSomeAnd o (λ r. length (chunk_in (value_of r)) ≡ k)) e w

long_here : (o : Option (List ℕ)) (bytes : List ℕ) (n : ℕ) → option_map (λ r. chunk_in (value_of r)) o ≡ Some bytes
    → length bytes ≡ n → IsSomeAnd o (λ r. length (chunk_in (value_of r)) ≡ n)
long_here None bytes n is long = cc
long_here (Some r) bytes n is long = let same : chunk_in (value_of r) ≡ bytes = cc in ap length same ∙ long

-- NO STEP

-- a file that gets the bytes that it has
same_bytes : (n : Node) (b : List ℕ) → n.content ≡ BytesOf b → with_bytes (λ _. b) n ≡ n
same_bytes n b is = ap (λ c. let m : Node = record n { content = c } in with_bytes (λ _. b) m) is
    ∙ ap (λ c. let m : Node = record n { content = c } in m) (sym is)

other_none : (live : Records) (id : List ℕ) → length id ≡ 8 → HasOtherBytes live id live
other_none live id eight node is kind =
    let t = tree_of live in
    let h = handle_of id in
    let f = with_bytes (λ _. bytes_of live id) in
    let n = node_of live node in
    let id_is : id_of node ≡ id = ap (λ a. take 8 (drop 1 a)) (find-key (node_key id) live node is)
    ∙ take_all 8 id (omega arith) in
    let there : node_at t h ≡ Some n = node_at-id live id eight ∙ ap (option_map (node_of live)) is in
    let content : n.content ≡ BytesOf (bytes_of live id) =
    ap (content_of live (id_of node)) kind ∙ ap (λ i. BytesOf (bytes_of live i)) id_is in
    let same : f n ≡ n = same_bytes n (bytes_of live id) content in
    same_trees t (edited t h f) (sym (root-edited t h f)) (λ q.
    elim (bytes_or_not q h) as (λ _. node_at t q ≡ node_at (edited t h f) q) [
      | inl e ↦ subst (λ p. node_at t p ≡ node_at (edited t h f) p) (sym e)
          (there ∙ (ap Some (sym same) ∙ sym (node_at-edited_same t h f n there)))
      | inr ne ↦ sym (node_at-edited_other t h f q ne)
    ])

pub resized_none : (live : Records) (id : List ℕ) (size : ℕ) → length id ≡ 8 → IsChunked live id size
    → ResizedBytes live live id size size
resized_none live id size eight h = record {
  bytes_are = sym (resized_same (bytes_of live id) size (length-bytes live id size h));
  chunked = h;
  file = other_none live id eight;
  alone = λ none. refl;
  others = λ k ne. refl;
  few = omega arith;
}

-- keys of chunks are none of nodes
node_apart : (id : List ℕ) (place : ℕ) → node_key id ≢ chunk_key id place
node_apart id place e = cc

-- ZEROS BEHIND

pub resized_more : (live mid new : Records) (id : List ℕ) (size now k next count : ℕ) (zeros : List ℕ)
    → ResizedBytes live mid id size now → IsChunked live id size → size ≤ now
    → WroteBytes mid new id now now zeros count → zeros ≡ replicate k 0 → next ≡ now + k → now % 480 + k ≤ 480
    → ResizedBytes live new id size next
resized_more live mid new id size now k next count zeros r h above w zeros_are is fits =
    let b = bytes_of live id in
    let long = length-bytes live id size h in
    let size_is : length zeros ≡ k = ap length zeros_are ∙ length-replicate k (let z : ℕ = 0 in z) in
    let ends = w.ends in
    let some : count ≡ k = omega arith in
    let end : max now (now + count) ≡ next = omega arith in
    let node : find (node_key id) mid ≡ find (node_key id) live = r.others (node_key id) (node_apart id) in
    let all : take count zeros ≡ replicate k 0 =
    ap (λ n. take n zeros) some ∙ (ap (take k) zeros_are ∙ take-replicate k k (let z : ℕ = 0 in z) (omega arith)) in
    record {
      bytes_are = w.bytes_are ∙ (ap (λ xs. overwritten now xs (bytes_of mid id)) all
          ∙ (ap (overwritten now (replicate k 0)) r.bytes_are ∙ filled_more b now k next (omega arith) is));
      chunked = subst (IsChunked new id) end w.chunked;
      file = other_bytes live mid new id node r.file w.file;
      alone = keeps_tree live mid new id node r.alone w.alone;
      others = λ key ne. w.others key (ne (now / 480)) ∙ r.others key ne;
      few = let more : length new + chunks_of now ≤ length mid + chunks_of next =
          subst (λ n. length new + chunks_of now ≤ length mid + chunks_of n) end w.few in
          let before = r.few in
          omega arith;
    }

-- two cuts
pub resized_twice : (live mid new : Records) (id : List ℕ) (size s to : ℕ) → IsChunked live id size
    → ResizedBytes live mid id size s → ResizedBytes mid new id s to → s ≤ size → to ≤ s
    → ResizedBytes live new id size to
resized_twice live mid new id size s to h r w low below =
    let b = bytes_of live id in
    let long = length-bytes live id size h in
    let node : find (node_key id) mid ≡ find (node_key id) live = r.others (node_key id) (node_apart id) in
    let one : bytes_of mid id ≡ take s b = r.bytes_are ∙ resized_cut b s (omega arith) in
    let short : length (take s b) ≡ s = length-take s b ∙ omega arith in
    record {
      bytes_are = w.bytes_are ∙ (ap (resized to) one ∙ (resized_cut (take s b) to (omega arith)
          ∙ (take-take to s b below ∙ sym (resized_cut b to (omega arith)))));
      chunked = w.chunked;
      file = other_bytes live mid new id node r.file w.file;
      alone = keeps_tree live mid new id node r.alone w.alone;
      others = λ key ne. w.others key ne ∙ r.others key ne;
      few = let before = r.few in let after = w.few in omega arith;
    }

-- CHUNKS LESS

-- the chunks in front of a place
pub front_is : (live : Records) (id : List ℕ) (size p : ℕ) → IsChunked live id size → 480 * p ≤ size
    → bytes_from p live id 0 ≡ take (480 * p) (bytes_of live id)
unfolding bytes_of
front_is live id size p h within =
    let few = h.few in
    let F = bytes_from p live id 0 in
    let R = bytes_from (17477 - p) live id p in
    let whole : bytes_from 17477 live id 0 ≡ F ++ R = parted live id p (17477 - p) 17477 0 p (omega arith) (omega arith)
    (λ j a c. there_is live id size h j (omega arith)) in
    let long = length-front live id size h p 0 (omega arith) in
    sym (ap (take (480 * p)) whole ∙ (take-append-le (480 * p) F R (omega arith) ∙ take_all (480 * p) F (omega arith)))

-- how many chunks there are up to a place
some_there : (live : Records) (id : List ℕ) (size p : ℕ) → IsChunked live id size → 480 * p < size
    → IsSome (find (chunk_key id p) live)
some_there live id size p h below = there_is live id size h p below

pub resized_less : (live mid new : Records) (id : List ℕ) (size s p : ℕ) → length id ≡ 8 → IsChunked live id size
    → ResizedBytes live mid id size s → s ≤ size → 480 * p < s → s ≤ 480 * (p + 1)
    → DropsChunk mid id p new → Drops mid (chunk_key id p) new → KeepsOthers mid (chunk_key id p) new
    → ResizedBytes live new id size (480 * p)
resized_less live mid new id size s p eight h r low below reach d gone others =
    let b = bytes_of live id in
    let few = h.few in
    let long = length-bytes live id size h in
    let node : find (node_key id) mid ≡ find (node_key id) live = r.others (node_key id) (node_apart id) in
    let other : (q : ℕ) → q < 2 ^ 32 → q ≢ p → find (chunk_key id q) new ≡ find (chunk_key id q) mid =
    λ q fits ne. others (chunk_key id q) (λ e. chunk_apart id q p eight fits (omega arith) ne e) in
    let fewer = gone.less (some_there mid id s p r.chunked below) in
    record {
      bytes_are = d.bytes_are ∙ (front_is mid id s p r.chunked (omega arith)
          ∙ (ap (take (480 * p)) (r.bytes_are ∙ resized_cut b s (omega arith))
          ∙ (take-take (480 * p) s b (omega arith) ∙ sym (resized_cut b (480 * p) (omega arith)))));
      chunked = record {
        few = omega arith;
        there = λ q inside. subst (λ o. IsSomeAnd o (λ r. length (chunk_in (value_of r)) ≡ min 480 (480 * p - 480 * q)))
            (sym (other q (omega arith) (λ e. omega arith)))
            (longer (find (chunk_key id q) mid) (min 480 (s - 480 * q)) (min 480 (480 * p - 480 * q)) (omega arith)
            (r.chunked.there q (omega arith)));
        absent = λ q past fits. elim (one_or_not q p) [
          | inl e ↦ ap (λ i. find (chunk_key id i) new) e ∙ gone.none
          | inr ne ↦ other q fits ne ∙ r.chunked.absent q (omega arith) fits
        ];
      };
      file = other_bytes live mid new id node r.file d.file;
      alone = keeps_tree live mid new id node r.alone d.alone;
      others = λ key ne. others key (ne p) ∙ r.others key ne;
      few = let before = r.few in omega arith;
    }

-- A LAST CHUNK THAT IS CUT

-- the chunks up to the one at a place
up_to : (live : Records) (id : List ℕ) (size p : ℕ) → IsChunked live id size → 480 * p < size → size ≤ 480 * (p + 1)
    → bytes_of live id ≡ bytes_from p live id 0 ++ bytes_in (find (chunk_key id p) live)
unfolding bytes_of
up_to live id size p h below reach =
    let few = h.few in
    let F = bytes_from (p + 1) live id 0 in
    let R = bytes_from (17477 - (p + 1)) live id (p + 1) in
    let whole : bytes_from 17477 live id 0 ≡ F ++ R = parted live id (p + 1) (17477 - (p + 1)) 17477 0 (p + 1)
    (omega arith) (omega arith) (λ j a c. there_is live id size h j (omega arith)) in
    let none : R ≡ [] = none_behind live id (17477 - (p + 1)) (p + 1) (h.absent (p + 1) reach (omega arith)) in
    let last : F ≡ bytes_from p live id 0 ++ bytes_in (find (chunk_key id (0 + p)) live) =
    bytes_more live id p 0 (p + 1) (omega arith) (are_there live id size 0 (p + 1) h (omega arith)) in
    let zero : 0 + p ≡ p = omega arith in
    whole ∙ (ap (λ xs. F ++ xs) none ∙ (append-nil F ∙ (last
    ∙ ap (λ i. bytes_from p live id 0 ++ bytes_in (find (chunk_key id i) live)) zero)))

pub resized_last : (live mid new : Records) (id : List ℕ) (size s p at to : ℕ) → length id ≡ 8 → IsChunked live id size
    → ResizedBytes live mid id size s → s ≤ size → to ≡ 480 * p + at → 1 ≤ at → at < 480 → to < s → s ≤ 480 * (p + 1)
    → PutsChunk mid id p (take at (bytes_in (find (chunk_key id p) mid))) new
    → Puts chunk_in mid (chunk_key id p) (take at (bytes_in (find (chunk_key id p) mid))) new
    → KeepsOthers mid (chunk_key id p) new
    → ResizedBytes live new id size to
resized_last live mid new id size s p at to eight h r low is some small below reach d put others =
    let b = bytes_of live id in
    let few = h.few in
    let long = length-bytes live id size h in
    let C = bytes_in (find (chunk_key id p) mid) in
    let F = bytes_from p mid id 0 in
    let node : find (node_key id) mid ≡ find (node_key id) live = r.others (node_key id) (node_apart id) in
    let other : (q : ℕ) → q < 2 ^ 32 → q ≢ p → find (chunk_key id q) new ≡ find (chunk_key id q) mid =
    λ q fits ne. others (chunk_key id q) (λ e. chunk_apart id q p eight fits (omega arith) ne e) in
    let no_more = put.over (some_there mid id s p r.chunked (omega arith)) in
    let none : bytes_from (17476 - p) mid id (p + 1) ≡ [] =
    none_behind mid id (17476 - p) (p + 1) (r.chunked.absent (p + 1) reach (omega arith)) in
    let front = length-front mid id s r.chunked p 0 (omega arith) in
    let chunk = length-chunk mid id s p r.chunked (omega arith) (omega arith) in
    let cut : take to (bytes_of mid id) ≡ F ++ take at C =
    ap (take to) (up_to mid id s p r.chunked (omega arith) reach) ∙ take_behind F C to at (omega arith) in
    record {
      bytes_are = d.bytes_are ∙ (ap (λ xs. F ++ (take at C ++ xs)) none ∙ (ap (λ xs. F ++ xs) (append-nil (take at C))
          ∙ (sym cut ∙ (ap (take to) (r.bytes_are ∙ resized_cut b s (omega arith))
          ∙ (take-take to s b (omega arith) ∙ sym (resized_cut b to (omega arith)))))));
      chunked = record {
        few = omega arith;
        there = λ q inside. elim (one_or_not q p) [
          | inl e ↦ subst (λ i. IsSomeAnd (find (chunk_key id i) new) (λ r. length (chunk_in (value_of r))
              ≡ min 480 (to - 480 * i))) (sym e)
              (long_here (find (chunk_key id p) new) (take at C) (min 480 (to - 480 * p)) d.here
              (length-take at C ∙ omega arith))
          | inr ne ↦ subst (λ o. IsSomeAnd o (λ r. length (chunk_in (value_of r)) ≡ min 480 (to - 480 * q)))
              (sym (other q (omega arith) ne))
              (longer (find (chunk_key id q) mid) (min 480 (s - 480 * q)) (min 480 (to - 480 * q)) (omega arith)
              (r.chunked.there q (omega arith)))
        ];
        absent = λ q past fits. other q fits (λ e. omega arith) ∙ r.chunked.absent q (omega arith) fits;
      };
      file = other_bytes live mid new id node r.file d.file;
      alone = keeps_tree live mid new id node r.alone d.alone;
      others = λ key ne. others key (ne p) ∙ r.others key ne;
      few = let before = r.few in omega arith;
    }
