-- End marks among blocks: what a record, a mark or a torn write does to the records before the first mark.
use Rattle.std.proofs.Common.{◌≡◌, ◌+◌, ◌++◌, ◌<◌, ◌≤◌, ℕ, zero, suc, List, [], ◌∷◌, true, false, cond, get_or, length, take, set, refl, ap, arith}
use Rattle.log_segments.specs.Newest.{has_key, standing, live}
use Rattle.log_segments.specs.Record.{is_end, is_gone, key_of}
use Rattle.log_segments.specs.Segments.{records_in}
use Rattle.log_segments.proofs.Blocks.{Blocks}

pub length-records_in : (bs : Blocks) → length (records_in bs) ≤ length bs
length-records_in [] = search arith
length-records_in (b ∷ bs) = elim (is_end b) as (λ e. length (cond e [] (b ∷ records_in bs)) ≤ suc (length bs))
    [ true ↦ omega arith | false ↦ omega (arith, length-records_in bs) ]

-- a record over the mark, behind which a new mark was written
over_end : (bs : Blocks) (r mark : List ℕ) → suc (length (records_in bs)) < length bs → is_end r ≡ false
    → is_end mark ≡ true
    → records_in (set (set bs (suc (length (records_in bs))) mark) (length (records_in bs)) r) ≡ records_in bs ++ r ∷ []
over_end [] r mark fits stands ends = absurd (omega arith)
over_end (b ∷ []) r mark fits stands ends = absurd (omega arith)
over_end (b ∷ c ∷ bs) r mark fits stands ends =
    elim (is_end b) as (λ e. is_end b ≡ e → (suc (length (cond e [] (b ∷ records_in (c ∷ bs)))) < suc (suc
    (length bs))) → records_in (set (set (b ∷ c ∷ bs) (suc (length (cond e [] (b ∷ records_in (c ∷ bs))))) mark)
    (length (cond e [] (b ∷ records_in (c ∷ bs)))) r) ≡ cond e [] (b ∷ records_in (c ∷ bs)) ++ r ∷ []) [
      | true ↦ (λ e w. rw (stands, ends) refl)
      | false ↦ (λ e w. rw e (ap (λ xs. b ∷ xs) (over_end (c ∷ bs) r mark (omega arith) stands ends)))
    ] refl fits

pub records_in-append : (bs : Blocks) (e f : ℕ) (r mark : List ℕ) → e ≡ length (records_in bs) → f ≡ e + 1
    → f < length bs
    → is_end r ≡ false → is_end mark ≡ true → records_in (set (set bs f mark) e r) ≡ records_in bs ++ r ∷ []
records_in-append bs e f r mark is next fits stands ends =
    let f_is : f ≡ suc (length (records_in bs)) = omega arith in
    rw (f_is, is) (over_end bs r mark (omega arith) stands ends)

-- anything behind the mark
pub records_in-behind : (bs : Blocks) (f : ℕ) (x : List ℕ) → length (records_in bs) < f
    → records_in (set bs f x) ≡ records_in bs
records_in-behind [] f x behind = refl
records_in-behind (b ∷ bs) zero x behind = absurd (omega arith)
records_in-behind (b ∷ bs) (suc f) x behind =
    elim (is_end b) as (λ e. length (cond e [] (b ∷ records_in bs)) < suc f
    → cond e [] (b ∷ records_in (set bs f x)) ≡ cond e [] (b ∷ records_in bs))
    [ true ↦ (λ w. refl) | false ↦ (λ w. ap (λ xs. b ∷ xs) (records_in-behind bs f x (omega arith))) ] behind

-- a mark over the mark
pub records_in-over : (bs : Blocks) (e : ℕ) (x : List ℕ) → e ≡ length (records_in bs) → is_end x ≡ true
    → records_in (set bs e x) ≡ records_in bs
records_in-over [] e x is ends = refl
records_in-over (b ∷ bs) zero x is ends =
    elim (is_end b) as (λ e. zero ≡ length (cond e [] (b ∷ records_in bs))
    → cond (is_end x) [] (x ∷ records_in bs) ≡ cond e [] (b ∷ records_in bs))
    [ true ↦ (λ w. rw ends refl) | false ↦ (λ w. absurd (omega arith)) ] is
records_in-over (b ∷ bs) (suc n) x is ends =
    elim (is_end b) as (λ e. suc n ≡ length (cond e [] (b ∷ records_in bs))
    → cond e [] (b ∷ records_in (set bs n x)) ≡ cond e [] (b ∷ records_in bs))
    [ true ↦ (λ w. refl) | false ↦ (λ w. ap (λ xs. b ∷ xs) (records_in-over bs n x (omega arith) ends)) ] is

-- BLOCKS THAT ARE ALL RECORDS

standing_parts : (r : List ℕ) (rs : Blocks) → records_in (r ∷ rs) ≡ r ∷ rs → (is_end r ≡ false) × (records_in rs ≡ rs)
standing_parts r rs h = elim (is_end r) as (λ e. cond e [] (r ∷ records_in rs) ≡ r ∷ rs
    → (e ≡ false) × (records_in rs ≡ rs))
    [ true ↦ (λ q. cc) | false ↦ (λ q. (refl, cc)) ] h

pub records_in-records_in : (bs : Blocks) → records_in (records_in bs) ≡ records_in bs
records_in-records_in [] = refl
records_in-records_in (b ∷ bs) =
    elim (is_end b) as (λ e. is_end b ≡ e → records_in (cond e [] (b ∷ records_in bs)) ≡ cond e [] (b ∷ records_in bs))
    [ true ↦ (λ q. refl) | false ↦ (λ q. rw q (ap (λ xs. b ∷ xs) (records_in-records_in bs))) ] refl

pub records_in-live : (rs : Blocks) → records_in rs ≡ rs → records_in (live rs) ≡ live rs
records_in-live [] h = refl
records_in-live (r ∷ rs) h =
    let w = standing_parts r rs h in
    let rest = records_in-live rs w.1 in
    elim (has_key (key_of r) rs) as (λ b. records_in (cond b (live rs) (standing r ++ live rs))
    ≡ cond b (live rs) (standing r ++ live rs)) [
      | true ↦ rest
      | false ↦ elim (is_gone r) as (λ g. records_in (cond g [] (r ∷ []) ++ live rs) ≡ cond g [] (r ∷ []) ++ live rs)
          [ true ↦ rest | false ↦ rw w.0 (ap (λ xs. r ∷ xs) rest) ]
    ]

-- a new mark behind records
pub records_in-cut : (bs : Blocks) (n : ℕ) (mark : List ℕ) → n < length bs → records_in (take n bs) ≡ take n bs
    → is_end mark ≡ true
    → records_in (set bs n mark) ≡ take n bs
records_in-cut [] n mark fits h ends = absurd (omega arith)
records_in-cut (b ∷ bs) zero mark fits h ends = rw ends refl
records_in-cut (b ∷ bs) (suc n) mark fits h ends =
    let w = standing_parts b (take n bs) h in
    rw w.0 (ap (λ xs. b ∷ xs) (records_in-cut bs n mark (omega arith) w.1 ends))

pub get_or-records_in : (bs : Blocks) (n : ℕ) → n < length (records_in bs)
    → get_or (records_in bs) n [] ≡ get_or bs n []
get_or-records_in [] n fits = absurd (omega arith)
get_or-records_in (b ∷ bs) zero fits = elim (is_end b) as (λ e. zero < length (cond e [] (b ∷ records_in bs))
    → get_or (cond e [] (b ∷ records_in bs)) zero [] ≡ b)
    [ true ↦ (λ w. absurd (omega arith)) | false ↦ (λ w. refl) ] fits
get_or-records_in (b ∷ bs) (suc n) fits = elim (is_end b) as (λ e. suc n < length (cond e [] (b ∷ records_in bs))
    → get_or (cond e [] (b ∷ records_in bs)) (suc n) [] ≡ get_or bs n [])
    [ true ↦ (λ w. absurd (omega arith)) | false ↦ (λ w. get_or-records_in bs n (omega arith)) ] fits
