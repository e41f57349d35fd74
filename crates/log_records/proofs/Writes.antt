-- Two parts of a list that are written side by side.
use Rattle.std.proofs.Common.{◌≡◌, ◌∙◌, ◌+◌, ◌-◌, ◌++◌, ℕ, List, [], ◌∷◌, length, take, drop, replicate, refl, sym, ap, arith}
use Rattle.std.proofs.lemmas.List.{append_assoc, append-nil, length-append, take_at, drop_at, drop-drop, drop-replicate}
use borrow.Rule.Slice.PartMut.{put_mid}

-- a part behind a front
pub written : (head part rest : List ℕ) (a k : ℕ) → length head ≡ a → k ≡ length part
    → put_mid a k (head ++ rest) part ≡ head ++ (part ++ drop (length part) rest)
written head part rest a k here size =
    ap (λ xs. xs ++ (part ++ drop k (drop a (head ++ rest)))) (take_at head rest a here)
    ∙ (ap (λ xs. head ++ (part ++ drop k xs)) (drop_at head rest a here) ∙ ap (λ n. head ++ (part ++ drop n rest)) size)

-- and another behind it
pub written_twice : (head part more rest : List ℕ) (a e f : ℕ) → length head ≡ a → e ≡ a + length part
    → f ≡ e + length more
    → put_mid e (f - e) (put_mid a (e - a) (head ++ rest) part) more
    ≡ head ++ (part ++ (more ++ drop (length part + length more) rest))
written_twice head part more rest a e f here first second =
    let size : e - a ≡ length part = omega arith in
    let size_more : f - e ≡ length more = omega arith in
    let front : length (head ++ part) ≡ e = omega (arith, length-append head part) in
    ap (λ xs. put_mid e (f - e) xs more) (written head part rest a (e - a) here size
    ∙ sym (append_assoc head part (drop (length part) rest)))
    ∙ (written (head ++ part) more (drop (length part) rest) e (f - e) front size_more
    ∙ (append_assoc head part (more ++ drop (length more) (drop (length part) rest))
    ∙ ap (λ xs. head ++ (part ++ (more ++ xs))) (drop-drop (length more) (length part) rest)))

-- a record's mark and size, its key and its value
pub block_spelled : (m a b : ℕ) (key value : List ℕ)
    → put_mid (3 + length key) (3 + length key + length value - (3 + length key))
    (put_mid 3 (3 + length key - 3) (m ∷ a ∷ b ∷ replicate 509 0) key) value
    ≡ m ∷ a ∷ b ∷ (key ++ (value ++ replicate (509 - (length key + length value)) 0))
block_spelled m a b key value =
    written_twice (m ∷ a ∷ b ∷ []) key value (replicate 509 0) 3 (3 + length key)
    (3 + length key + length value) refl refl refl
    ∙ ap (λ xs. m ∷ a ∷ b ∷ (key ++ (value ++ xs))) (drop-replicate (length key + length value) 509 0)

-- a byte and two parts
pub name_spelled : (b : ℕ) (dir name : List ℕ) (n : ℕ) → length dir ≡ 8 → n ≡ 9 + length name
    → take n (put_mid 9 (n - 9) (put_mid 1 8 (b ∷ replicate 263 0) dir) name) ≡ b ∷ (dir ++ name)
name_spelled b dir name n eight is =
    let first : 9 ≡ 1 + length dir = omega arith in
    let rest : List ℕ = drop (length dir + length name) (replicate 263 0) in
    let size : length (b ∷ (dir ++ name)) ≡ n = omega (arith, length-append dir name) in
    ap (take n) (written_twice (b ∷ []) dir name (replicate 263 0) 1 9 n refl first is
    ∙ ap (λ xs. b ∷ xs) (sym (append_assoc dir name rest)))
    ∙ take_at (b ∷ (dir ++ name)) rest n size

-- two bytes and a part
pub chunk_spelled : (a b : ℕ) (bytes : List ℕ) (n : ℕ) → n ≡ 2 + length bytes
    → take n (put_mid 2 (n - 2) (a ∷ b ∷ replicate 480 0) bytes) ≡ a ∷ b ∷ bytes
chunk_spelled a b bytes n is =
    let size : n - 2 ≡ length bytes = omega arith in
    let whole : length (a ∷ b ∷ bytes) ≡ n = omega arith in
    ap (take n) (written (a ∷ b ∷ []) bytes (replicate 480 0) 2 (n - 2) refl size)
    ∙ take_at (a ∷ b ∷ bytes) (drop (length bytes) (replicate 480 0)) n whole

-- a byte and two parts, and nothing behind them
pub place_spelled : (b : ℕ) (id place : List ℕ) → length id ≡ 8 → length place ≡ 4
    → put_mid 9 4 (put_mid 1 8 (b ∷ replicate 12 b) id) place ≡ b ∷ (id ++ place)
place_spelled b id place eight four =
    let first : 9 ≡ 1 + length id = omega arith in
    let second : 13 ≡ 9 + length place = omega arith in
    let none : drop (length id + length place) (replicate 12 b) ≡ [] = rw (eight, four) refl in
    written_twice (b ∷ []) id place (replicate 12 b) 1 9 13 refl first second
    ∙ ap (λ xs. b ∷ (id ++ xs)) (ap (λ xs. place ++ xs) none ∙ append-nil place)
