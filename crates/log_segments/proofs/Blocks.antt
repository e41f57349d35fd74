-- A medium's blocks as lists, and what a write changes in them.
use Rattle.std.proofs.Common.{◌≡◌, ◌≢◌, ◌∙◌, ◌+◌, ◌++◌, ◌<◌, ◌≤◌, ◌⊎◌, inl, inr, ℕ, zero, suc, List, [], ◌∷◌, get_or, length, take, set, refl, sym, ap, arith, add-one, Result, Ok, Err, OnErr}
use Rattle.log_segments.specs.Segments.{blocks_from}

abbrev pub Content : Type 0
Content = ℕ → List ℕ

abbrev pub Blocks : Type 0
Blocks = List (List ℕ)

-- one block has these bytes, and the others are as they were
pub record IsWrite (c new : Content) (block : ℕ) (bytes : List ℕ) : Type 0 where
  pub at : new block ≡ bytes
  pub others : (k : ℕ) → k ≢ block → new k ≡ c k

-- what holds, holds after an error
pub on_err : {T E : Type 0} (r : Result T E) (P : Type 0) → P → OnErr r P
on_err (Ok x) P holds = tt
on_err (Err e) P holds = holds

-- a write that failed wrote something
pub torn : (c new : Content) (block : ℕ) → ((k : ℕ) → k ≢ block → new k ≡ c k) → IsWrite c new block (new block)
torn c new block others = record { at = refl; others = others }

pub length-blocks_from : (c : Content) (at n : ℕ) → length (blocks_from c at n) ≡ n
length-blocks_from c at zero = refl
length-blocks_from c at (suc n) = ap suc (length-blocks_from c (at + 1) n)

pub get_or-blocks_from : (c : Content) (at n i : ℕ) → i < n → get_or (blocks_from c at n) i [] ≡ c (at + i)
get_or-blocks_from c at zero i within = absurd (omega arith)
get_or-blocks_from c at (suc n) zero within = let e : at ≡ at + zero = omega arith in ap c e
get_or-blocks_from c at (suc n) (suc i) within =
    let e : at + 1 + i ≡ at + suc i = omega arith in get_or-blocks_from c (at + 1) n i (omega arith) ∙ ap c e

pub blocks_from-same : (c new : Content) (at n : ℕ) → ((k : ℕ) → at ≤ k → k < at + n → new k ≡ c k)
    → blocks_from new at n ≡ blocks_from c at n
blocks_from-same c new at zero same = refl
blocks_from-same c new at (suc n) same =
    let here : new at ≡ c at = same at (omega arith) (omega arith) in
    let rest : blocks_from new (at + 1) n ≡ blocks_from c (at + 1) n = blocks_from-same c new (at + 1) n
    (λ k low high. same k (omega arith) (omega arith)) in
    ap (λ b. b ∷ blocks_from new (at + 1) n) here ∙ ap (λ bs. c at ∷ bs) rest

-- a write among them
pub blocks_from-write : (c new : Content) (at n i : ℕ) (b : List ℕ) → i < n → IsWrite c new (at + i) b
    → blocks_from new at n ≡ set (blocks_from c at n) i b
blocks_from-write c new at zero i b within w = absurd (omega arith)
blocks_from-write c new at (suc n) zero b within w =
    let e : at ≡ at + zero = omega arith in
    let here : new at ≡ b = ap new e ∙ w.at in
    let rest : blocks_from new (at + 1) n ≡ blocks_from c (at + 1) n = blocks_from-same c new (at + 1) n
    (λ k low high. w.others k (λ q. omega arith)) in
    ap (λ x. x ∷ blocks_from new (at + 1) n) here ∙ ap (λ bs. b ∷ bs) rest
blocks_from-write c new at (suc n) (suc i) b within w =
    let e : at + suc i ≡ at + 1 + i = omega arith in
    let moved : IsWrite c new (at + 1 + i) b = record {
      at = ap new (sym e)
          ∙ w.at;
      others = λ k apart. w.others k (λ q. apart (q ∙ e));
    } in
    let here : new at ≡ c at = w.others at (λ q. omega arith) in
    ap (λ x. x ∷ blocks_from new (at + 1) n) here
    ∙ ap (λ bs. c at ∷ bs) (blocks_from-write c new (at + 1) n i b (omega arith) moved)

-- a write beside them
pub blocks_from-beside : (c new : Content) (at n i : ℕ) (b : List ℕ) → (i < at) ⊎ (at + n ≤ i) → IsWrite c new i b
    → blocks_from new at n ≡ blocks_from c at n
blocks_from-beside c new at n i b beside w = blocks_from-same c new at n (λ k low high.
    w.others k (λ q. elim beside [ inl below ↦ omega arith | inr above ↦ omega arith ]))

pub take-blocks_from : (c : Content) (at n m : ℕ) → m ≤ n → take m (blocks_from c at n) ≡ blocks_from c at m
take-blocks_from c at n zero within = refl
take-blocks_from c at zero (suc m) within = absurd (omega arith)
take-blocks_from c at (suc n) (suc m) within = ap (λ bs. c at ∷ bs) (take-blocks_from c (at + 1) n m (omega arith))

blocks_from-suc : (c : Content) (at n : ℕ) (b : List ℕ) → c (at + n) ≡ b
    → blocks_from c at (suc n) ≡ blocks_from c at n ++ b ∷ []
blocks_from-suc c at zero b is = let e : at ≡ at + zero = omega arith in ap (λ x. x ∷ []) (ap c e ∙ is)
blocks_from-suc c at (suc n) b is =
    let e : at + 1 + n ≡ at + suc n = omega arith in
    ap (λ bs. c at ∷ bs) (blocks_from-suc c (at + 1) n b (ap c e ∙ is))

pub blocks_from-more : (c : Content) (at n : ℕ) (b : List ℕ) → c (at + n) ≡ b
    → blocks_from c at (n + 1) ≡ blocks_from c at n ++ b ∷ []
blocks_from-more c at n b is = rw add-one (blocks_from-suc c at n b is)
