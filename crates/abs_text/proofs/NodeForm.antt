-- The first three words tell whether 524 bytes are the text of a node.
use Rattle.std.proofs.Common.{◌≡◌, ℕ, zero, suc, ◌+◌, ◌*◌, ◌≤◌, List, [], ◌∷◌, ◌++◌, length, take, drop, refl, sym, ◌∙◌, ap, arith, length-drop}
use Rattle.std.specs.List.{flat_map}
use Rattle.std.specs.Int.{to_be_bytes, w32}
use Rattle.std.proofs.lemmas.List.{take-append-drop, drop-drop, take_all}
use Rattle.xdr_core.specs.Items.{spell_word}
use Rattle.abs_text.specs.Text.{chunks, node_parts}
use Rattle.abs_text.specs.Node.{IsNodeText, HasHead}

take_nil : (n : ℕ) → take n (let none : List ℕ = [] in none) ≡ []
take_nil zero = refl
take_nil (suc n) = refl

take_both : (n m : ℕ) (xs : List ℕ) → take (n + m) xs ≡ take n xs ++ take m (drop n xs)
take_both zero m xs = ap (λ k. take k xs) (let e : 0 + m ≡ m = omega arith in e)
take_both (suc n) m [] = take_nil (suc n + m) ∙ sym (take_nil m)
take_both (suc n) m (x ∷ xs) = ap (λ k. take k (x ∷ xs)) (let e : suc n + m ≡ suc (n + m) = omega arith in e)
    ∙ ap (λ ys. x ∷ ys) (take_both n m xs)

-- pieces in a row are the bytes up to their end
chunks_joined : (n : ℕ) (t : List ℕ) → flat_map (λ (d : List ℕ). d) (chunks n t) ≡ take (32 * n) t
chunks_joined zero t = refl
chunks_joined (suc n) t =
    ap (λ ys. take 32 t ++ ys) (chunks_joined n (drop 32 t)) ∙ sym (take_both 32 (32 * n) t)
    ∙ ap (λ k. take k t) (let e : 32 + 32 * n ≡ 32 * suc n = omega arith in e)

pub head_is : (level number : ℕ) (bytes : List ℕ) → HasHead level number bytes → IsNodeText level number bytes
unfolding spell_word
head_is level number bytes k =
    let size = k.size in
    let short : length (drop 12 bytes) ≤ 512 = omega (arith, length-drop 12 bytes) in
    let digests = flat_map (λ (d : List ℕ). d) (node_parts bytes) in
    let rest : drop 12 bytes ≡ digests = sym (chunks_joined 16 (drop 12 bytes) ∙ take_all 512 (drop 12 bytes) short) in
    let third : drop 8 bytes ≡ to_be_bytes w32 number ++ digests = sym (take-append-drop 4 (drop 8 bytes))
    ∙ ap (λ ys. ys ++ drop 4 (drop 8 bytes)) k.third
    ∙ ap (λ ys. to_be_bytes w32 number ++ ys) (drop-drop 4 8 bytes ∙ rest) in
    let second : drop 4 bytes ≡ to_be_bytes w32 level ++ (to_be_bytes w32 number ++ digests)
    = sym (take-append-drop 4 (drop 4 bytes)) ∙ ap (λ ys. ys ++ drop 4 (drop 4 bytes)) k.second
    ∙ ap (λ ys. to_be_bytes w32 level ++ ys) (drop-drop 4 4 bytes ∙ third) in
    record {
      size = k.size;
      spelled = sym (sym (take-append-drop 4 bytes) ∙ ap (λ ys. ys ++ drop 4 bytes) k.first
          ∙ ap (λ ys. to_be_bytes w32 1 ++ ys) second);
    }

pub head_of : (level number : ℕ) (bytes : List ℕ) → IsNodeText level number bytes → HasHead level number bytes
unfolding spell_word
head_of level number bytes k = record {
  size = k.size;
  first = ap (take 4) (sym k.spelled);
  second = ap (λ xs. take 4 (drop 4 xs)) (sym k.spelled);
  third = ap (λ xs. take 4 (drop 8 xs)) (sym k.spelled);
}
