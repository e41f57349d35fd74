-- A slot's bytes give its name and its inode back; the slots of a directory's bytes after each change.
use Rattle.std.proofs.Common.{◌≡◌, ℕ, suc, ◌-◌, ◌^◌, ◌<◌, ◌≤◌, arith, List, [], ◌∷◌, ◌++◌, take, drop, set, length, replicate, refl, ap, ◌∙◌}
use borrow.Rule.Slice.PartMut.{put_mid}
use Rattle.std.specs.Int.{w32, to_be_bytes, from_be_bytes}
use Rattle.std.proofs.lemmas.Nat.{from_be_bytes-to_be_bytes_4}
use Rattle.inode_dirs.specs.SlotBytes.{span, with_piece, slot_in, slot_bytes, slots_in}
use Rattle.std.proofs.lemmas.List.{take_all, take-append-le, length-append, length-replicate, drop-replicate}
use Rattle.inode_dirs.proofs.PieceLaws.{pieces-append, pieces-put, pieces-cut}

four : (a b c d : ℕ) (name rest : List ℕ) → slot_in (a ∷ b ∷ c ∷ d ∷ length name ∷ 0 ∷ 0 ∷ 0 ∷ name ++ rest) ≡
    (name, from_be_bytes w32 (a ∷ b ∷ c ∷ d ∷ []))
four a b c d name rest = ap (λ l. (l, from_be_bytes w32 (a ∷ b ∷ c ∷ d ∷ []))) (take-append-le (length name) name rest
    (omega arith) ∙ take_all (length name) name (omega arith))

of_four : (bs : List ℕ) → length bs ≡ 4 → (name rest : List ℕ) → slot_in (bs ++ length name ∷ 0 ∷ 0 ∷ 0 ∷ name
    ++ rest) ≡ (name, from_be_bytes w32 bs)
of_four [] l name rest = absurd (omega (arith, l))
of_four (a ∷ []) l name rest = absurd (omega (arith, l))
of_four (a ∷ b ∷ []) l name rest = absurd (omega (arith, l))
of_four (a ∷ b ∷ c ∷ []) l name rest = absurd (omega (arith, l))
of_four (a ∷ b ∷ c ∷ d ∷ []) l name rest = four a b c d name rest
of_four (a ∷ b ∷ c ∷ d ∷ e ∷ bs) l name rest = absurd (omega (arith, l))

-- what is written is read
pub slot_again : (name : List ℕ) (inode : ℕ) → inode < 2 ^ 32 → slot_in (slot_bytes name inode) ≡ (name, inode)
slot_again name inode fits = of_four (to_be_bytes w32 inode) refl name (replicate (280 - length name) 0)
    ∙ ap (λ i. (name, i)) (from_be_bytes-to_be_bytes_4 inode fits)

-- a slot has 288 bytes
pub length-slot_bytes : (name : List ℕ) (inode : ℕ) → length name ≤ 280 → length (slot_bytes name inode) ≡ 288
length-slot_bytes name inode l =
    let number : length (to_be_bytes w32 inode) ≡ 4 = refl in
    let front = length-append (to_be_bytes w32 inode) (length name ∷ 0 ∷ 0 ∷ 0 ∷ name) in
    let all = length-append (to_be_bytes w32 inode ++ length name ∷ 0 ∷ 0 ∷ 0 ∷ name)
    (replicate (280 - length name) 0) in
    let rest = length-replicate {A = ℕ} (280 - length name) 0 in
    omega (arith, number, front, all, rest, l)

-- one slot more, another in a place, and fewer
pub slots-append : (n : ℕ) (b : List ℕ) (name : List ℕ) (inode : ℕ) → length b ≡ span 288 slot_in n →
    length (slot_bytes name inode) ≡ 288 → inode < 2 ^ 32 →
    slots_in (suc n) (b ++ slot_bytes name inode) ≡ slots_in n b ++ (name, inode) ∷ []
slots-append n b name inode size fits in_word = pieces-append 288 slot_in n b (slot_bytes name inode) size fits
    ∙ ap (λ s. slots_in n b ++ s ∷ []) (slot_again name inode in_word)

pub slots-put : (n k : ℕ) (b : List ℕ) (name : List ℕ) (inode : ℕ) → length b ≡ span 288 slot_in n →
    length (slot_bytes name inode) ≡ 288 → inode < 2 ^ 32 → k < n →
    slots_in n (with_piece 288 slot_in k (slot_bytes name inode) b) ≡ set (slots_in n b) k (name, inode)
slots-put n k b name inode size fits in_word l = pieces-put 288 slot_in n k b (slot_bytes name inode) size fits l
    ∙ ap (λ s. set (slots_in n b) k s) (slot_again name inode in_word)

pub slots-cut : (n m : ℕ) (b : List ℕ) → n ≤ m → slots_in n (take (span 288 slot_in n) b) ≡ take n (slots_in m b)
slots-cut n m b l = pieces-cut 288 slot_in n m b l

-- four bytes, a fifth and a name written over zeros
pub written : (bs name : List ℕ) (k : ℕ) → length bs ≡ 4 → k ≡ length name →
    put_mid 8 k (set (bs ++ drop 4 (replicate 288 0)) 4 (length name)) name ≡
    bs ++ length name ∷ 0 ∷ 0 ∷ 0 ∷ name ++ replicate (280 - length name) 0
written [] name k l e = absurd (omega (arith, l))
written (a ∷ []) name k l e = absurd (omega (arith, l))
written (a ∷ b ∷ []) name k l e = absurd (omega (arith, l))
written (a ∷ b ∷ c ∷ []) name k l e = absurd (omega (arith, l))
written (a ∷ b ∷ c ∷ d ∷ []) name k l e =
    ap (λ (z : List ℕ). a ∷ b ∷ c ∷ d ∷ length name ∷ 0 ∷ 0 ∷ 0 ∷ (name ++ z))
    (ap (λ (n : ℕ). drop n (replicate 280 0)) e ∙ drop-replicate (length name) 280 0)
written (a ∷ b ∷ c ∷ d ∷ x ∷ bs) name k l e = absurd (omega (arith, l))
