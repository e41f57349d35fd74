-- The numbers in the block of an inode.
use Rattle.std.proofs.Common.{◌≡◌, ◌≢◌, ℕ, ◌+◌, ◌*◌, ◌<◌, ◌^◌, List, [], ◌∷◌, length, get_or, Some, refl, sym, ap, ◌∙◌, inl, inr, arith}
use Rattle.std.proofs.lemmas.Bool.{cases_eq}
use Rattle.std.specs.Int.{w32, to_be_bytes, from_be_bytes}
use Rattle.std.proofs.lemmas.Nat.{from_be_bytes-to_be_bytes_4}
use Rattle.std.specs.Option.{option_map}
use Rattle.nfs2_types.specs.declared.fattr.Kind.{Kind}
use Rattle.nfs2_types.specs.declared.fattr.Kind.TheVariants.{File, Dir, Link}
use Rattle.pointer_tree.specs.Tree.{word_at, as_pointer}
use Rattle.pointer_tree.specs.Changes.{IsTop}
use Rattle.pointer_tree.specs.declared.node.Area.{Area}
use Rattle.pointer_tree.proofs.Words.{four, word_written, as_pointer-top}
use Rattle.inode_store.specs.Kinds.{kind_in, word_of}
use Rattle.inode_store.specs.Inodes.{inode_in}
use Rattle.inode_store.specs.declared.inode.Inode.{Inode}

pub word_set : (xs bytes : List ℕ) (j w : ℕ) → 4 * j + 3 < length xs → w < 2 ^ 32 → bytes ≡ to_be_bytes w32 w →
    word_at (four xs (4 * j) (get_or bytes 0 0) (get_or bytes 1 0) (get_or bytes 2 0) (get_or bytes 3 0)) (4 * j) ≡ w
word_set xs bytes j w l small e = word_written xs j _ _ _ _ l
    ∙ ap (λ (bs : List ℕ). from_be_bytes w32 (get_or bs 0 0 ∷ get_or bs 1 0 ∷ get_or bs 2 0 ∷ get_or bs 3 0 ∷ [])) e
    ∙ from_be_bytes-to_be_bytes_4 w small

pub kind_in-word_of : (k : Kind) → kind_in (word_of k) ≡ Some k
kind_in-word_of File = refl
kind_in-word_of Dir = refl
kind_in-word_of Link = refl

-- what a block says of an inode of some kind
abbrev read : Area → List ℕ → Kind → Inode
read area b kind = record {
  kind = kind;
  mode = word_at b 4;
  uid = word_at b 8;
  gid = word_at b 12;
  size = word_at b 16;
  depth = word_at b 20;
  top = as_pointer area (word_at b 24);
}

-- a block with these numbers is an inode's
pub inode_in-words : (b : List ℕ) (n : Inode) (words : List ℕ) →
    words ≡ word_of n.kind ∷ n.mode ∷ n.uid ∷ n.gid ∷ n.size ∷ n.depth ∷ n.top ∷ [] →
    ((i : ℕ) → i < 7 → word_at b (4 * i) ≡ get_or words i 0) → (area : Area) → IsTop area n.top → inode_in area
    b ≡ Some n
unfolding inode_in
inode_in-words b n words are at area top =
    let w : (i : ℕ) → i < 7 → word_at b (4 * i) ≡ get_or (word_of n.kind ∷ n.mode ∷ n.uid ∷ n.gid ∷ n.size ∷ n.depth ∷
    n.top ∷ []) i 0 =
    λ i l. at i l ∙ ap (λ (xs : List ℕ). get_or xs i 0) are in
    let kind : kind_in (word_at b 0) ≡ Some n.kind = ap kind_in (w 0 (omega arith)) ∙ kind_in-word_of n.kind in
    let mode : word_at b 4 ≡ n.mode = w 1 (omega arith) in
    let uid : word_at b 8 ≡ n.uid = w 2 (omega arith) in
    let gid : word_at b 12 ≡ n.gid = w 3 (omega arith) in
    let size : word_at b 16 ≡ n.size = w 4 (omega arith) in
    let depth : word_at b 20 ≡ n.depth = w 5 (omega arith) in
    let last : as_pointer area (word_at b 24) ≡ n.top =
    ap (as_pointer area) (w 6 (omega arith)) ∙ as_pointer-top area n.top top in
    ap (option_map (λ (k : Kind). read area b k)) kind
    ∙ (λ t. Some (record {
      kind = n.kind;
      mode = mode t;
      uid = uid t;
      gid = gid t;
      size = size t;
      depth = depth t;
      top = last t;
    }))

pub words_more : (b b' words : List ℕ) (j : ℕ) → ((i : ℕ) → i < j → word_at b (4 * i) ≡ get_or words i 0) →
    word_at b' (4 * j) ≡ get_or words j 0 → ((i : ℕ) → i ≢ j → word_at b' (4 * i) ≡ word_at b (4 * i)) →
    (i : ℕ) → i < j + 1 → word_at b' (4 * i) ≡ get_or words i 0
words_more b b' words j before here there i l = elim (cases_eq i j) [
  | inl e ↦ ap (λ (k : ℕ). word_at b' (4 * k)) e ∙ here ∙ ap (λ (k : ℕ). get_or words k 0) (sym e)
  | inr ne ↦ there i ne ∙ before i (omega arith)
]
