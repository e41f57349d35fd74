-- One digest is written: all nodes stay right but the one over it.
use Rattle.std.proofs.Common.{◌≡◌, ℕ, zero, suc, ◌+◌, ◌-◌, ◌*◌, ◌^◌, ◌/◌, ◌<◌, ◌≤◌, List, [], ◌∷◌, length, take, get_or, set, refl, sym, ap, subst, ◌∙◌, inl, inr, arith, length-set}
use Rattle.std.proofs.lemmas.Bool.{cases_eq}
use Rattle.std.proofs.lemmas.List.{get_or-set_same, get_or-set_other, take-set-le}
use Rattle.sha2.specs.Sha256.{sha256}
use Rattle.partition_tree.specs.Digests.{node_over}
use Rattle.partition_tree.specs.Levels.{width, start, from, IsRight, AreRight, AreRightBut, IsTree}
use Rattle.partition_tree.proofs.Places.{width_step, width_zero, whole_width, start_le, before, one_place, over}
use Rattle.partition_tree.proofs.Nodes.{node_same}

-- a node that is neither the one that is written nor the one over it
written : (levels : ℕ) (kept : List (List ℕ)) (level number : ℕ) (d : List ℕ) → number < width levels level → (l n : ℕ) → l < levels → n < width levels (suc l)
    → ((suc l ≡ level) × (n ≡ number) → ⊥) → ((l ≡ level) × (n ≡ number / 16) → ⊥) → IsRight levels kept l n → IsRight levels (set kept (start levels level + number) d) l n
written levels kept level number d fits l n lt within not_it not_over right =
    let kept' = set kept (start levels level + number) d in
    let many = width_step levels l lt in
    let here : get_or kept' (start levels (suc l) + n) [] ≡ get_or kept (start levels (suc l) + n) []
    = get_or-set_other kept (start levels level + number) (start levels (suc l) + n) d [] (λ same. not_it (one_place levels (suc l) level n number within fits same)) in
    let children = node_same (from kept (start levels l)) (from kept' (start levels l)) (suc l) n
    (λ m low high. sym (get_or-set_other kept (start levels level + number) (start levels l + m) d []
    (λ same. let p = one_place levels l level m number (omega (arith, high, within, many)) fits same in not_over (p.0, over m n low high ∙ ap (λ (k : ℕ). k / 16) p.1)))) in
    here ∙ right ∙ ap sha256 children

-- a leaf is written
pub path_begins : (levels : ℕ) (kept : List (List ℕ)) (index : ℕ) (d : List ℕ) → index < 16 ^ levels → AreRight levels kept levels → AreRightBut levels (set kept index d) 0 index
path_begins levels kept index d fits right l n lt within not_over =
    let first : 0 + index ≡ index = omega arith in
    subst (λ (p : ℕ). IsRight levels (set kept p d) l n) first
    (written levels kept 0 index d (omega (arith, fits, width_zero levels)) l n lt within (λ e. absurd (omega (arith, e.0))) not_over (right l n lt within))

below_node : (levels level number : ℕ) → level < levels → number < width levels level → number / 16 < width levels (suc level)
below_node levels level number lt within = omega (arith, within, width_step levels level lt)

-- the node over it is written
pub path_goes_on : (levels : ℕ) (kept : List (List ℕ)) (level number : ℕ) → level < levels → number < width levels level → length kept ≡ start levels (suc levels) → AreRightBut levels kept level number
    → AreRightBut levels (set kept (start levels (suc level) + number / 16) (sha256 (node_over (from kept (start levels level)) (suc level) (number / 16)))) (suc level) (number / 16)
path_goes_on levels kept level number less fits size right l n lt within not_over =
    let up = number / 16 in
    let up_fits = below_node levels level number less fits in
    let d = sha256 (node_over (from kept (start levels level)) (suc level) up) in
    let place = start levels (suc level) + up in
    let inside : place < length kept = omega (arith, size, up_fits, start_le levels (suc (suc level)) (suc levels) (omega (arith, less))) in
    let many = width_step levels level less in
    let it : IsRight levels (set kept place d) level up
    = get_or-set_same kept place d [] inside ∙ ap sha256 (node_same (from kept (start levels level)) (from (set kept place d) (start levels level)) (suc level) up
    (λ m low high. sym (get_or-set_other kept place (start levels level + m) d [] (λ same. absurd (omega (arith, same, before levels level (suc level) m up (omega arith) (omega (arith, high, up_fits, many)))))))) in
    elim (cases_eq l level) [
      | inl at_level ↦
          elim (cases_eq n up) [
            | inl at_number ↦ subst (λ (j : ℕ). IsRight levels (set kept place d) j n) (sym at_level) (subst (λ (k : ℕ). IsRight levels (set kept place d) level k) (sym at_number) it)
            | inr other ↦ written levels kept (suc level) up d up_fits l n lt within (λ e. other e.1) not_over (right l n lt within (λ e. other e.1))
          ]
      | inr other ↦ written levels kept (suc level) up d up_fits l n lt within (λ e. other (omega (arith, e.0))) not_over (right l n lt within (λ e. other e.0))
    ]

-- above the top there is none
pub path_ends : (levels : ℕ) (kept : List (List ℕ)) (number : ℕ) → AreRightBut levels kept levels number → AreRight levels kept levels
path_ends levels kept number right l n lt within = right l n lt within (λ e. absurd (omega (arith, lt, e.0)))

-- ---- as the loop needs them

take-set : (n i : ℕ) (xs : List (List ℕ)) (d : List ℕ) → take n (set xs i d) ≡ set (take n xs) i d
take-set zero i xs d = refl
take-set (suc n) i [] d = refl
take-set (suc n) zero (x ∷ xs) d = refl
take-set (suc n) (suc i) (x ∷ xs) d = ap (λ (v : List (List ℕ)). x ∷ v) (take-set n i xs d)

-- on the way from a leaf to the root: the digests of this level and below are right
pub record IsPath (levels leaves : ℕ) (first kept : List (List ℕ)) (index level number below many : ℕ) (d : List ℕ) : Type 0 where
  pub below_is : below ≡ start levels level
  pub many_is : many ≡ width levels level
  pub number_in : number < width levels level
  pub right : AreRightBut levels kept level number
  pub size : length kept ≡ length first
  pub leaf : take leaves kept ≡ set (take leaves first) index d

pub path_first : (levels leaves : ℕ) (first kept : List (List ℕ)) (index : ℕ) (d : List ℕ) → IsTree levels first → leaves ≡ 16 ^ levels → index < leaves → kept ≡ set first index d → IsPath levels leaves first kept index 0 index 0 leaves d
path_first levels leaves first kept index d t whole within is =
    let none : levels - 0 ≡ levels = omega arith in
    let wide : leaves ≡ width levels 0 = whole ∙ ap (λ (n : ℕ). 16 ^ n) (sym none) in
    let fits : index < 16 ^ levels = omega (arith, within, whole) in
    subst (λ (v : List (List ℕ)). IsPath levels leaves first v index 0 index 0 leaves d) (sym is) (record {
      below_is = refl;
      many_is = wide;
      number_in = omega (arith, within, wide);
      right = path_begins levels first index d fits t.right;
      size = length-set first index d;
      leaf = take-set leaves index first d;
    })

-- the place of the next node
pub path_place : (levels leaves : ℕ) (first kept : List (List ℕ)) (index level number below many : ℕ) (d : List ℕ) → IsTree levels first → level < levels → IsPath levels leaves first kept index level number below many d → below + many + number / 16 < length kept
path_place levels leaves first kept index level number below many d t less p =
    let up = below_node levels level number less p.number_in in
    let end = start_le levels (suc (suc level)) (suc levels) (omega (arith, less)) in
    omega (arith, up, end, p.below_is, p.many_is, p.size, t.size)

-- sixteen digests stand below it
pub path_inside : (levels leaves : ℕ) (first kept : List (List ℕ)) (index level number below many : ℕ) (d : List ℕ) → IsTree levels first → level < levels → IsPath levels leaves first kept index level number below many d → below + 16 * (number / 16) + 16 ≤ length kept
path_inside levels leaves first kept index level number below many d t less p =
    let up = below_node levels level number less p.number_in in
    let end = start_le levels (suc level) (suc levels) (omega (arith, less)) in
    omega (arith, up, end, width_step levels level less, p.below_is, p.size, t.size)

pub path_next : (levels leaves : ℕ) (first kept new : List (List ℕ)) (index level number below many : ℕ) (d text digest : List ℕ) → IsTree levels first → leaves ≡ 16 ^ levels → level < levels → IsPath levels leaves first kept index level number below many d
    → text ≡ node_over (from kept below) (suc level) (number / 16) → digest ≡ sha256 text → new ≡ set kept (below + many + number / 16) digest
    → IsPath levels leaves first new index (suc level) (number / 16) (below + many) (many / 16) d
path_next levels leaves first kept new index level number below many d text digest t whole less p over is written =
    let up = number / 16 in
    let place : below + many + up ≡ start levels (suc level) + up = omega (arith, p.below_is, p.many_is) in
    let one : digest ≡ sha256 (node_over (from kept (start levels level)) (suc level) up)
    = is ∙ ap sha256 (over ∙ ap (λ (b : ℕ). node_over (from kept b) (suc level) up) p.below_is) in
    let at : new ≡ set kept (start levels (suc level) + up) (sha256 (node_over (from kept (start levels level)) (suc level) up))
    = written ∙ ap (λ (k : ℕ). set kept k digest) place ∙ ap (set kept (start levels (suc level) + up)) one in
    let size : length kept ≡ start levels (suc levels) = p.size ∙ t.size in
    let above : leaves ≤ start levels (suc level) = omega (arith, whole, start_le levels 1 (suc level) (omega arith), whole_width levels) in
    subst (λ (v : List (List ℕ)). IsPath levels leaves first v index (suc level) up (below + many) (many / 16) d) (sym at) (record {
      below_is = omega (arith, p.below_is, p.many_is);
      many_is = omega (arith, p.many_is, width_step levels level less);
      number_in = below_node levels level number less p.number_in;
      right = path_goes_on levels kept level number less p.number_in size p.right;
      size = length-set kept (start levels (suc level) + up) (sha256 (node_over (from kept (start levels level)) (suc level) up)) ∙ p.size;
      leaf = take-set-le leaves kept (start levels (suc level) + up) (sha256 (node_over (from kept (start levels level)) (suc level) up)) (omega (arith, above)) ∙ p.leaf;
    })

pub path_done : (levels leaves : ℕ) (first kept : List (List ℕ)) (index level number below many : ℕ) (d : List ℕ) → IsTree levels first → levels ≤ level → level ≤ levels → IsPath levels leaves first kept index level number below many d → IsTree levels kept
path_done levels leaves first kept index level number below many d t high low p =
    let top : level ≡ levels = omega (arith, high, low) in
    record {
      some = t.some;
      few = t.few;
      size = p.size ∙ t.size;
      right = path_ends levels kept number (subst (λ (l : ℕ). AreRightBut levels kept l number) top p.right);
    }

pub path_up : (levels leaves : ℕ) (first kept new : List (List ℕ)) (index level next number below many : ℕ) (d text digest : List ℕ) → next ≡ suc level → IsTree levels first → leaves ≡ 16 ^ levels → level < levels → IsPath levels leaves first kept index level number below many d
    → text ≡ node_over (from kept below) next (number / 16) → digest ≡ sha256 text → new ≡ set kept (below + many + number / 16) digest
    → IsPath levels leaves first new index next (number / 16) (below + many) (many / 16) d
path_up levels leaves first kept new index level next number below many d text digest e t whole less p over is written =
    subst (λ (l : ℕ). IsPath levels leaves first new index l (number / 16) (below + many) (many / 16) d) (sym e)
    (path_next levels leaves first kept new index level number below many d text digest t whole less p (over ∙ ap (λ (l : ℕ). node_over (from kept below) l (number / 16)) e) is written)
