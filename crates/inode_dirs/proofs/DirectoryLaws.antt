-- The slots of a directory's bytes, after one slot more and after one less.
use Rattle.std.proofs.Common.{◌≡◌, ℕ, suc, ◌-◌, ◌*◌, ◌/◌, ◌^◌, ◌<◌, arith, List, [], ◌∷◌, ◌++◌, take, drop, set, length, slice_get, Some, refl, sym, ap, ◌∙◌}
use Rattle.std.proofs.lemmas.List.{length-append, length-take-le, length-drop, take_all}
use Rattle.inode_dirs.specs.Files.{File, IsDirectory, slots_of, entry_of}
use Rattle.inode_dirs.specs.Slots.{IsDropped}
use Rattle.inode_dirs.specs.SlotBytes.{span, with_piece, slot_in, slot_bytes, slots_in}
use Rattle.inode_dirs.proofs.FileLaws.{span-times, dir_entry}
use Rattle.inode_dirs.proofs.PieceLaws.{length-pieces, pieces-get, pieces-put}
use Rattle.inode_dirs.proofs.SlotBytesLaws.{slots-append, slots-cut}

-- how many slots there are
pub length-slots_of : (f : File) → length (slots_of f) ≡ length f.bytes / 288
length-slots_of f = length-pieces 288 slot_in (length f.bytes / 288) f.bytes

-- one of them, by its own bytes
pub slots_of-get : (f : File) (k : ℕ) → k < length (slots_of f) →
    slice_get (slots_of f) k ≡ Some (slot_in (take 288 (drop (288 * k) f.bytes)))
slots_of-get f k l =
    pieces-get 288 slot_in (length f.bytes / 288) k f.bytes (let n = length-slots_of f in omega (arith, n, l))
    ∙ ap (λ (n : ℕ). Some (slot_in (take 288 (drop n f.bytes)))) (span-times k)

-- what a directory holds is its slots
pub entry-slots : (f : File) → IsDirectory f → entry_of f ≡ dir_entry f (slots_of f)
entry-slots f d = ap (λ k. entry_of (let g : File = record f { kind = k } in g)) d.kind

module _ (f : File) (d : IsDirectory f) where
  spanned : (n : ℕ) → n ≡ length f.bytes / 288 → length f.bytes ≡ span 288 slot_in n
  spanned n e = let times = span-times n in let whole = d.whole in omega (arith, times, whole, e)

  -- one slot more
  pub slots_of-more : (g : File) (name : List ℕ) (inode : ℕ) → length (slot_bytes name inode) ≡ 288 → inode < 2 ^ 32 →
      g.bytes ≡ f.bytes ++ slot_bytes name inode → slots_of g ≡ slots_of f ++ (name, inode) ∷ []
  slots_of-more g name inode fits in_word e =
      let n : ℕ = length f.bytes / 288 in
      let long = ap length e ∙ length-append f.bytes (slot_bytes name inode) in
      let more : length g.bytes / 288 ≡ suc n = omega (arith, long, fits) in
      ap (λ (k : ℕ). slots_in k g.bytes) more ∙ ap (slots_in (suc n)) e
      ∙ slots-append n f.bytes name inode (spanned n refl) fits in_word

  pub directory-more : (g : File) (s : List ℕ) → length s ≡ 288 → g.kind ≡ f.kind → g.bytes ≡ f.bytes ++ s →
      IsDirectory g
  directory-more g s fits kind e = record {
    kind = kind ∙ d.kind;
    whole = let long = ap length e ∙ length-append f.bytes s in let whole = d.whole in omega (arith, long, fits, whole);
  }

  -- the last slot moved over slot k
  module _ (g : File) (k : ℕ) (there : k < length (slots_of f)) (last : List ℕ)
      (is_last : last ≡ drop (length f.bytes - 288) f.bytes)
      (e : g.bytes ≡ take (length f.bytes - 288) (with_piece 288 slot_in k last f.bytes)) where
    abbrev rest : ℕ
    rest = length f.bytes / 288 - 1

    some : length f.bytes / 288 ≡ suc rest
    some = let n = length-slots_of f in omega (arith, n, there)

    end : length f.bytes - 288 ≡ 288 * rest
    end = let whole = d.whole in let s = some in omega (arith, whole, s)

    fits : length last ≡ 288
    fits =
        let n = ap length is_last ∙ length-drop (length f.bytes - 288) f.bytes in
        let s = some in
        omega (arith, n, s)

    within : k < suc rest
    within = let n = length-slots_of f in let s = some in omega (arith, n, s, there)

    abbrev put : List ℕ
    put = with_piece 288 slot_in k last f.bytes

    length-put : length put ≡ length f.bytes
    length-put =
        let low = span-times k in
        let high = span-times (suc k) in
        let whole = d.whole in
        let s = some in
        let w = within in
        let head = length-take-le (span 288 slot_in k) f.bytes (omega (arith, low, whole, s, w)) in
        let tail = length-drop (span 288 slot_in (suc k)) f.bytes in
        let back = length-append last (drop (span 288 slot_in (suc k)) f.bytes) in
        let all = length-append (take (span 288 slot_in k) f.bytes) (last ++ drop (span 288 slot_in (suc k)) f.bytes) in
        omega (arith, low, high, whole, s, w, head, tail, back, all, fits)

    length-less : length g.bytes ≡ 288 * rest
    length-less =
        ap length e
        ∙ length-take-le (length f.bytes - 288) put (let n = length-put in omega (arith, n)) ∙ end

    pub slots_of-less : (name : List ℕ) (inode : ℕ) → slot_in last ≡ (name, inode) →
        IsDropped (slots_of f) k name inode (slots_of g)
    slots_of-less name inode reads = record {
      rest = rest;
      size = length-slots_of f ∙ some;
      is_last =
          slots_of-get f rest (let n = length-slots_of f in let s = some in omega (arith, n, s))
          ∙ ap (λ (n : ℕ). Some (slot_in (take 288 (drop n f.bytes)))) (sym end)
          ∙ ap (λ (l : List ℕ). Some (slot_in (take 288 l))) (sym is_last)
          ∙ ap (λ (l : List ℕ). Some (slot_in l)) (take_all 288 last (let n = fits in omega (arith, n)))
          ∙ ap Some reads;
      are =
          let fewer : length g.bytes / 288 ≡ rest = (let n = length-less in omega (arith, n)) in
          let at : length f.bytes - 288 ≡ span 288 slot_in rest = end ∙ sym (span-times rest) in
          ap (λ (n : ℕ). slots_in n g.bytes) fewer ∙ ap (slots_in rest) e
          ∙ ap (λ (n : ℕ). slots_in rest (take n (with_piece 288 slot_in k last f.bytes))) at
          ∙ slots-cut rest (suc rest) (with_piece 288 slot_in k last f.bytes) (omega arith)
          ∙ ap (take rest) (pieces-put 288 slot_in (suc rest) k f.bytes last (spanned (suc rest) (sym some)) fits within)
          ∙ ap (λ (s : List ℕ × ℕ). take rest (set (slots_in (suc rest) f.bytes) k s)) reads
          ∙ ap (λ (n : ℕ). take rest (set (slots_in n f.bytes) k (name, inode))) (sym some);
    }

    pub directory-less : g.kind ≡ f.kind → IsDirectory g
    directory-less kind = record {
      kind = kind ∙ d.kind;
      whole = let n = length-less in omega (arith, n);
    }
