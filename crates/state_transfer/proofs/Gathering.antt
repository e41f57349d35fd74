-- What is wanted below a node, as it is gathered one by one.
use Rattle.std.proofs.Common.{◌≡◌, ℕ, zero, suc, ◌+◌, ◌-◌, ◌*◌, ◌^◌, ◌<◌, ◌≤◌, Bool, true, false, cond, List, [], ◌∷◌, ◌++◌, take, drop, length, All, refl, sym, ap, subst, ◌∙◌, arith, append_assoc}
use Rattle.std.specs.Prelude.{not, bytes_eq, filter, zip}
use Rattle.std.proofs.lemmas.List.{append-nil, drop-drop}
use Rattle.std.proofs.lemmas.List.Elements.{All-nil, All-cons, filter-append}
use Rattle.abs_text.specs.Text.{chunks, node_parts}
use Rattle.partition_tree.specs.Digests.{numbers, children, IsDigest}
use Rattle.partition_tree.specs.Levels.{width}
use Rattle.partition_tree.proofs.Places.{width_step}
use Rattle.state_transfer.specs.Stand.{Own, differing, expected}

-- from a place on, so many of the sixteen below a node
abbrev rest_of : ℕ → List ℕ → ℕ → ℕ → List (ℕ × List ℕ)
rest_of number text j n = zip (numbers (16 * number + j) n) (chunks n (drop (12 + 32 * j) text))

rest_begins : (number : ℕ) (text : List ℕ) → rest_of number text 0 16 ≡ expected number text
rest_begins number text =
    let e : 16 * number + 0 ≡ 16 * number = omega arith in
    ap (λ (k : ℕ). zip (numbers k 16) (node_parts text)) e

rest_goes_on : (number : ℕ) (text : List ℕ) (j n : ℕ) → rest_of number text j (suc n) ≡
    (16 * number + j, take 32 (drop (12 + 32 * j) text)) ∷ rest_of number text (j + 1) n
rest_goes_on number text j n =
    let e : suc (16 * number + j) ≡ 16 * number + (j + 1) = omega arith in
    let d : (12 + 32 * j) + 32 ≡ 12 + 32 * (j + 1) = omega arith in
    let behind : drop 32 (drop (12 + 32 * j) text) ≡ drop (12 + 32 * (j + 1)) text
    = drop-drop 32 (12 + 32 * j) text ∙ ap (λ (k : ℕ). drop k text) d in
    ap (λ (k : ℕ). (16 * number + j, take 32 (drop (12 + 32 * j) text))
    ∷ zip (numbers k n) (chunks n (drop 32 (drop (12 + 32 * j) text)))) e
    ∙ ap (λ (t : List ℕ). (16 * number + j, take 32 (drop (12 + 32 * j) text))
    ∷ zip (numbers (16 * number + (j + 1)) n) (chunks n t)) behind

take_front : {X : Type 0} (xs ys : List X) → take (length xs) (xs ++ ys) ≡ xs
take_front [] ys = refl
take_front (x ∷ xs) ys = ap (λ zs. x ∷ zs) (take_front xs ys)

-- of the sixteen below a node those before a place are looked at, from the list that there was at first
pub record Wanting (own : Own) (level number : ℕ) (text : List ℕ) (start now : List (ℕ × List ℕ)) (j : ℕ) : Type 0 where
  pub goes : now ++ differing own level (rest_of number text j (16 - j)) ≡
      start ++ differing own level (expected number text)
  pub more : List (ℕ × List ℕ)
  pub front : now ≡ start ++ more

module _ (own : Own) (level number : ℕ) (text : List ℕ) (start : List (ℕ × List ℕ)) where
  pub wanting_begins : Wanting own level number text start start 0
  wanting_begins = record {
    goes = ap (λ xs. start ++ differing own level xs) (rest_begins number text);
    more = [];
    front = sym (append-nil start);
  }

  pub wanting_more : (now next : List (ℕ × List ℕ)) (j : ℕ) (d : List ℕ) → j < 16 →
      d ≡ take 32 (drop (12 + 32 * j) text) → next ≡ now ++ differing own level ((16 * number + j, d) ∷ []) →
      Wanting own level number text start now j → Wanting own level number text start next (j + 1)
  wanting_more now next j d lt is e w =
      let one = differing own level ((16 * number + j, d) ∷ []) in
      let left = rest_of number text (j + 1) (16 - (j + 1)) in
      let n : 16 - j ≡ suc (16 - (j + 1)) = omega (arith, lt) in
      let whole : rest_of number text j (16 - j) ≡ (16 * number + j, d) ∷ left
      = ap (rest_of number text j) n ∙ rest_goes_on number text j (16 - (j + 1))
      ∙ ap (λ (t : List ℕ). (16 * number + j, t) ∷ left) (sym is) in
      let here : next ≡ now ++ one = e in
      let front : now ≡ start ++ w.more = w.front in
      record {
        goes = ap (λ xs. xs ++ differing own level left) here
            ∙ append_assoc now one (differing own level left)
            ∙ ap (λ xs. now ++ xs) (sym (filter-append (λ (x : ℕ × List ℕ). not (bytes_eq (own level x.0) x.1))
            ((16 * number + j, d) ∷ []) left))
            ∙ ap (λ xs. now ++ differing own level xs) (sym whole)
            ∙ w.goes;
        more = w.more ++ one;
        front = here ∙ ap (λ xs. xs ++ one) front ∙ append_assoc start w.more one;
      }

  pub wanting_ends : (now : List (ℕ × List ℕ)) (j : ℕ) → 16 ≤ j → Wanting own level number text start now j →
      now ≡ start ++ differing own level (expected number text)
  wanting_ends now j le w =
      let z : 0 ≡ 16 - j = omega (arith, le) in
      sym (append-nil now) ∙ ap (λ (n : ℕ). now ++ differing own level (rest_of number text j n)) z ∙ w.goes

  pub wanting_cut : (now : List (ℕ × List ℕ)) (j n : ℕ) → n ≡ length start →
      Wanting own level number text start now j → take n now ≡ start
  wanting_cut now j n e w =
      ap (λ (k : ℕ). take k now) e ∙ ap (take (length start)) w.front ∙ take_front start w.more

-- Where the items below a node lie

pub step_up : (levels level : ℕ) → 0 < level → level ≤ levels → width levels (level - 1) ≡ 16 * width levels level
step_up levels level some le =
    let e : suc (level - 1) ≡ level = omega (arith, some) in
    width_step levels (level - 1) (omega (arith, some, le)) ∙ ap (λ (l : ℕ). 16 * width levels l) e

pub inside_below : (n levels level number : ℕ) → n ≡ 16 ^ levels → 0 < level → level ≤ levels →
    number < width levels level → (j : ℕ) → j < 16 → IsDigest n (level - 1) (16 * number + j)
inside_below n levels level number size some le within j few =
    let wide = step_up levels level some le in
    record {
      levels = levels;
      size = size;
      below = omega (arith, le);
      within = omega (arith, wide, within, few);
    }

-- numbers in a row that are wanted lie below their end, and are no more than there are
pub differing_small : (own : Own) (level s n m : ℕ) (ts : List (List ℕ)) → s + n ≤ m →
    All (λ x. x.0 < m) (differing own level (zip (numbers s n) ts))
differing_small own level s zero m ts le = All-nil (λ (x : ℕ × List ℕ). x.0 < m)
differing_small own level s (suc n) m [] le = All-nil (λ (x : ℕ × List ℕ). x.0 < m)
differing_small own level s (suc n) m (t ∷ ts) le =
    go (not (bytes_eq (own level s) t)) (differing_small own level (suc s) n m ts (omega (arith, le)))
  where
    go : (b : Bool) → All (λ x. x.0 < m) (differing own level (zip (numbers (suc s) n) ts)) →
        All (λ x. x.0 < m) (cond b ((s, t) ∷ differing own level (zip (numbers (suc s) n) ts))
        (differing own level (zip (numbers (suc s) n) ts)))
    go true h = All-cons (λ (x : ℕ × List ℕ). x.0 < m) (s, t) (differing own level (zip (numbers (suc s) n) ts))
        (omega (arith, le)) h
    go false h = h

pub differing_few : (own : Own) (level s n : ℕ) (ts : List (List ℕ)) →
    length (differing own level (zip (numbers s n) ts)) ≤ n
differing_few own level s zero ts = omega arith
differing_few own level s (suc n) [] = omega arith
differing_few own level s (suc n) (t ∷ ts) =
    go (not (bytes_eq (own level s) t)) (differing_few own level (suc s) n ts)
  where
    go : (b : Bool) → length (differing own level (zip (numbers (suc s) n) ts)) ≤ n →
        length (cond b ((s, t) ∷ differing own level (zip (numbers (suc s) n) ts))
        (differing own level (zip (numbers (suc s) n) ts))) ≤ suc n
    go true h = omega (arith, h)
    go false h = omega (arith, h)
