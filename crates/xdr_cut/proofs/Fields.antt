-- The needs of all records are true: one induction on the fields.
use Rattle.std.proofs.Common.{ℕ, ◌^◌, ◌<◌, ◌≤◌, Bool, true, false, cond, List, [], ◌∷◌, length, Some, None, arith}
use Rattle.xdr_core.specs.Items.{any_opaque}
use Rattle.xdr_core.specs.Grammar.{Spells}
use Rattle.xdr_cut.specs.Cut.{Plan, item, plain}
use Rattle.xdr_cut.specs.Needs.{opaque_need}
use Rattle.xdr_cut.specs.Fields.{Field, number, blob, exactly, maybe, Maker, least, plan_of}
use Rattle.xdr_cut.proofs.Cuts.{IsPlan}
use Rattle.xdr_cut.proofs.CutWords.{AreRanges, HasLeast, least_gives, word_means, bool_means, bool_least, least_of_word}
use Rattle.xdr_cut.proofs.CutOpaques.{opaque_means, fixed_means, least_of_opaque, least_of_fixed}

-- a field that has a value
abbrev pub IsOpen : Field → Type 0
IsOpen (number []) = ⊥
IsOpen (number (range ∷ ranges)) = AreRanges (range ∷ ranges)
IsOpen (blob max) = max < 2 ^ 32
IsOpen (exactly size) = Unit {0}
IsOpen (maybe max) = max < 2 ^ 32

abbrev pub AreOpen : List Field → Type 0
AreOpen [] = Unit {0}
AreOpen (x ∷ xs) = IsOpen x × AreOpen xs

abbrev arm : {A : Type 0} (max : ℕ) (xs : List Field) → Maker (maybe max ∷ xs) A → Bool → Plan A
arm max xs make b = cond b (item (any_opaque max) (opaque_need max (least xs)) λ x. plan_of xs (make (Some x)))
    (plan_of xs (make None))

arm_least : {A : Type 0} (max : ℕ) (xs : List Field) (make : Maker (maybe max ∷ xs) A) →
    ((m : Maker xs A) → HasLeast (plain (plan_of xs m)) (least xs))
    → (b : Bool) (value : A) (text : List ℕ) → Spells (plain (arm max xs make b)) value text → least xs ≤ length text
arm_least max xs make h true value text s = let l =
    (least_of_opaque max (least xs) (λ x. plain (plan_of xs (make (Some x))))
    (λ x le. h (make (Some x)))).least value text s in omega (arith, l)
arm_least max xs make h false value text s = (h (make None)).least value text s

pub least_plan : {A : Type 0} (xs : List Field) (make : Maker xs A) → AreOpen xs →
    HasLeast (plain (plan_of xs make)) (least xs)
least_plan [] make h = least_gives make
least_plan (number [] ∷ xs) make h = absurd h.0
least_plan (number (range ∷ ranges) ∷ xs) make h = least_of_word range ranges (least xs)
    (λ x. plain (plan_of xs (make x))) h.0 (λ x. least_plan xs (make x) h.1)
least_plan (blob max ∷ xs) make h = least_of_opaque max (least xs) (λ x. plain (plan_of xs (make x)))
    (λ x le. least_plan xs (make x) h.1)
least_plan (exactly size ∷ xs) make h = least_of_fixed size (least xs) (λ x. plain (plan_of xs (make x)))
    (λ x. least_plan xs (make x) h.1)
least_plan (maybe max ∷ xs) make h = bool_least (least xs) (λ b. plain (arm max xs make b))
    (least_plan xs (make None) h.1) (arm_least max xs make (λ m. least_plan xs m h.1))

arm_plan : {A : Type 0} (max : ℕ) (xs : List Field) (make : Maker (maybe max ∷ xs) A) → max < 2 ^ 32 →
    ((m : Maker xs A) → HasLeast (plain (plan_of xs m)) (least xs)) → ((m : Maker xs A) → IsPlan (plan_of xs m)) →
    (b : Bool) → IsPlan (arm max xs make b)
arm_plan max xs make lim l h true = (
  opaque_means max (least xs) (λ x. plain (plan_of xs (make (Some x)))) lim (λ x le. l (make (Some x))),
  λ x fits. h (make (Some x)),
)
arm_plan max xs make lim l h false = h (make None)

pub is_plan : (A : Type 0) (xs : List Field) (make : Maker xs A) → AreOpen xs → IsPlan (plan_of xs make)
is_plan A [] make h = tt
is_plan A (number [] ∷ xs) make h = absurd h.0
is_plan A (number (range ∷ ranges) ∷ xs) make h = (
  word_means (range ∷ ranges) (least xs) (λ x. plain (plan_of xs (make x))) h.0 (λ x. least_plan xs (make x) h.1),
  λ x fits. is_plan A xs (make x) h.1,
)
is_plan A (blob max ∷ xs) make h = (
  opaque_means max (least xs) (λ x. plain (plan_of xs (make x))) h.0 (λ x le. least_plan xs (make x) h.1),
  λ x fits. is_plan A xs (make x) h.1,
)
is_plan A (exactly size ∷ xs) make h = (
  λ bytes why fits. fixed_means size (least xs) (λ x. plain (plan_of xs (make x)))
      (λ x. least_plan xs (make x) h.1) bytes why,
  λ x fits. is_plan A xs (make x) h.1,
)
is_plan A (maybe max ∷ xs) make h = (
  bool_means (least xs) (λ b. plain (arm max xs make b)) (least_plan xs (make None) h.1)
      (arm_least max xs make (λ m. least_plan xs m h.1)),
  λ b fits. arm_plan max xs make h.0 (λ m. least_plan xs m h.1) (λ m. is_plan A xs m h.1) b,
)
