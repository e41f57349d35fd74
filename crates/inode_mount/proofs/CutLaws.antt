-- A directory that is cut to its first slots.
use Rattle.std.proofs.Common.{◌≡◌, ℕ, zero, suc, ◌*◌, ◌/◌, ◌%◌, ◌≤◌, arith, List, [], ◌∷◌, ◌++◌, take, length, slice_get, Some, refl, ap, ◌∙◌, sym}
use Rattle.std.proofs.lemmas.List.{length-take-le, take_all}
use Rattle.nfs2_types.specs.declared.fattr.Kind.{Kind}
use Rattle.nfs2_types.specs.declared.fattr.Kind.TheVariants.{File as AFile, Dir, Link}
use Rattle.server_trait.proofs.TreeLaws.{some_none, some_same}
use Rattle.inode_dirs.specs.Files.{File, slots_of}
use Rattle.inode_dirs.specs.SlotBytes.{slots_in}
use Rattle.inode_dirs.proofs.DirectoryLaws.{length-slots_of}
use Rattle.inode_dirs.proofs.FileLaws.{span-times}
use Rattle.inode_dirs.proofs.SlotBytesLaws.{slots-cut}
use Rattle.inode_mount.specs.Reading.{cut_bytes, cut}

-- an element more
pub take-more : {X : Type 0} (xs : List X) (k : ℕ) (x : X) → slice_get xs k ≡ Some x →
    take (suc k) xs ≡ take k xs ++ x ∷ []
take-more [] k x at = absurd (some_none at refl)
take-more (y ∷ xs) zero x at = ap (λ y. y ∷ []) (some_same refl at)
take-more (y ∷ xs) (suc k) x at = ap (λ ys. y ∷ ys) (take-more xs k x at)

module _ (f : File) (is_dir : f.kind ≡ Dir) (filled : length f.bytes % 288 ≡ 0) (k : ℕ)
    (within : k ≤ length (slots_of f)) where
  bytes-cut : (cut k f).bytes ≡ take (288 * k) f.bytes
  bytes-cut = ap (λ (kind : Kind). cut_bytes kind k f.bytes) is_dir

  pub length-cut : length (cut k f).bytes ≡ 288 * k
  length-cut = ap length bytes-cut ∙ length-take-le (288 * k) f.bytes
      (let n = length-slots_of f in omega (arith, n, within))

  pub filled-cut : length (cut k f).bytes % 288 ≡ 0
  filled-cut = let n = length-cut in omega (arith, n)

  pub slots_of-cut : slots_of (cut k f) ≡ take k (slots_of f)
  slots_of-cut =
      let count : length (cut k f).bytes / 288 ≡ k = (let n = length-cut in omega (arith, n)) in
      ap (λ (n : ℕ). slots_in n (cut k f).bytes) count ∙ ap (slots_in k) bytes-cut
      ∙ ap (λ (n : ℕ). slots_in k (take n f.bytes)) (sym (span-times k))
      ∙ slots-cut k (length f.bytes / 288) f.bytes (let n = length-slots_of f in omega (arith, n, within))

-- a directory with all its slots is whole
pub cut-all : (f : File) (k : ℕ) → (f.kind ≡ Dir → k ≡ length (slots_of f)) →
    (f.kind ≡ Dir → length f.bytes % 288 ≡ 0) → cut k f ≡ f
cut-all f k all filled = ap (λ (b : List ℕ). let g : File = record f { bytes = b } in g) (by f.kind refl)
  where
    by : (kind : Kind) → f.kind ≡ kind → cut_bytes f.kind k f.bytes ≡ f.bytes
    by AFile e = ap (λ (kind : Kind). cut_bytes kind k f.bytes) e
    by Link e = ap (λ (kind : Kind). cut_bytes kind k f.bytes) e
    by Dir e = ap (λ (kind : Kind). cut_bytes kind k f.bytes) e
        ∙ take_all (288 * k) f.bytes (let n = length-slots_of f in let a = all e in let w = filled e in
        omega (arith, n, a, w))
