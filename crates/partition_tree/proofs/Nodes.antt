-- The nodes of a level, and what the digests that are kept are.
use Rattle.std.proofs.Common.{◌≡◌, ℕ, zero, suc, true, false, ◌+◌, ◌-◌, ◌*◌, ◌^◌, ◌/◌, ◌<◌, ◌≤◌, List, [], ◌∷◌, ◌++◌, length, take, drop, map, get_or, refl, sym, ap, subst, ◌∙◌, inl, inr, arith, append_assoc, length-append}
use Rattle.std.proofs.lemmas.Bool.{cases_lt}
use Rattle.std.proofs.lemmas.List.{drop_more, get_or_append_left, get_or-append-add, get_or_push, get_or-take, get_or_default, length_push, length-take-le, take-append-le}
use Rattle.sha2.specs.Sha256.{sha256}
use Rattle.abs_text.specs.Text.{node_text}
use Rattle.partition_tree.specs.Digests.{numbers, node_over, digest_at, node_at, IsRoot, IsNode}
use Rattle.partition_tree.specs.Levels.{width, start, from, nodes_upto, IsRight, AreRight, IsTree}
use Rattle.partition_tree.proofs.Places.{width_step, width_top, width_zero, whole_width, start_le, same_levels}

-- ---- texts over the same digests

digests_same : (f g : ℕ → List ℕ) (s n : ℕ) → ((m : ℕ) → s ≤ m → m < s + n → f m ≡ g m) → map f (numbers s n) ≡ map g (numbers s n)
digests_same f g s zero same = refl
digests_same f g s (suc n) same =
    let here : f s ≡ g s = same s (omega arith) (omega arith) in
    let rest : map f (numbers (suc s) n) ≡ map g (numbers (suc s) n)
    = digests_same f g (suc s) n (λ m low high. same m (omega (arith, low)) (omega (arith, high))) in
    cc

pub node_same : (f g : ℕ → List ℕ) (level number : ℕ) → ((m : ℕ) → 16 * number ≤ m → m < 16 * number + 16 → f m ≡ g m) → node_over f level number ≡ node_over g level number
node_same f g level number same = ap (node_text level number) (digests_same f g (16 * number) 16 same)

in_a_row : (kept : List (List ℕ)) (below s n : ℕ) → below + s + n ≤ length kept → map (from kept below) (numbers s n) ≡ take n (drop (below + s) kept)
in_a_row kept below s zero le = refl
in_a_row kept below s (suc n) le =
    let here = drop_more kept (below + s) [] (omega (arith, le)) in
    let next : below + s + 1 ≡ below + suc s = omega arith in
    let rest = in_a_row kept below (suc s) n (omega (arith, le)) in
    ap (λ (t : List (List ℕ)). from kept below s ∷ t) (rest ∙ ap (λ (p : ℕ). take n (drop p kept)) (sym next))
    ∙ sym (ap (λ (t : List (List ℕ)). take (suc n) t) here)

-- the text over sixteen digests in a row
pub node_is : (kept : List (List ℕ)) (below level number : ℕ) → below + 16 * number + 16 ≤ length kept
    → node_over (from kept below) level number ≡ node_text level number (take 16 (drop (below + 16 * number) kept))
node_is kept below level number le = ap (node_text level number) (in_a_row kept below (16 * number) 16 le)

-- ---- a level that is appended

pub length-nodes : (f : ℕ → List ℕ) (level n : ℕ) → length (nodes_upto f level n) ≡ n
length-nodes f level zero = refl
length-nodes f level (suc n) = omega (arith, length_push (nodes_upto f level n) (sha256 (node_over f level n)), length-nodes f level n)

get_or-nodes : (f : ℕ → List ℕ) (level n k : ℕ) → k < n → get_or (nodes_upto f level n) k [] ≡ sha256 (node_over f level k)
get_or-nodes f level zero k lt = absurd (omega (arith, lt))
get_or-nodes f level (suc n) k lt =
    elim (cases_lt k n) [
      | inl less ↦ get_or_append_left (nodes_upto f level n) _ [] k (omega (arith, less, length-nodes f level n)) ∙ get_or-nodes f level n k less
      | inr ge ↦
          let same : k ≡ n = omega (arith, lt, ge) in
          subst (λ (j : ℕ). get_or (nodes_upto f level (suc n)) j [] ≡ sha256 (node_over f level j)) (sym same)
          (get_or_push (nodes_upto f level n) (sha256 (node_over f level n)) [] n (length-nodes f level n))
    ]

-- what is appended leaves the text of a node below
node_longer : (levels : ℕ) (kept more : List (List ℕ)) (level number : ℕ) → level < levels → number < width levels (suc level) → start levels (suc level) ≤ length kept
    → node_over (from (kept ++ more) (start levels level)) (suc level) number ≡ node_over (from kept (start levels level)) (suc level) number
node_longer levels kept more level number lt within le =
    let many = width_step levels level lt in
    node_same (from (kept ++ more) (start levels level)) (from kept (start levels level)) (suc level) number
    (λ m low high. get_or_append_left kept more [] (start levels level + m) (omega (arith, le, high, within, many)))

pub right_longer : (levels : ℕ) (kept more : List (List ℕ)) (upto : ℕ) → upto ≤ levels → start levels (suc upto) ≤ length kept → AreRight levels kept upto → AreRight levels (kept ++ more) upto
right_longer levels kept more upto few size right l n lt within =
    let end = start_le levels (suc (suc l)) (suc upto) (omega (arith, lt)) in
    let below = start_le levels (suc l) (suc upto) (omega (arith, lt)) in
    get_or_append_left kept more [] (start levels (suc l) + n) (omega (arith, end, size, within))
    ∙ right l n lt within
    ∙ ap sha256 (sym (node_longer levels kept more l n (omega (arith, lt, few)) within (omega (arith, below, size))))

-- one level more
pub level_done : (levels : ℕ) (kept : List (List ℕ)) (level : ℕ) → level < levels → length kept ≡ start levels (suc level) → AreRight levels kept level
    → AreRight levels (kept ++ nodes_upto (from kept (start levels level)) (suc level) (width levels (suc level))) (suc level)
level_done levels kept level less size right l n lt within =
    let nodes = nodes_upto (from kept (start levels level)) (suc level) (width levels (suc level)) in
    elim (cases_lt l level) [
      | inl before ↦ right_longer levels kept nodes level (omega (arith, less)) (omega (arith, size)) right l n before within
      | inr after ↦
          let here : l ≡ level = omega (arith, after, lt) in
          let fits : n < width levels (suc level) = subst (λ (j : ℕ). n < width levels (suc j)) here within in
          let read : get_or (kept ++ nodes) (start levels (suc level) + n) [] ≡ sha256 (node_over (from kept (start levels level)) (suc level) n)
          = ap (λ (p : ℕ). get_or (kept ++ nodes) (p + n) []) (sym size) ∙ get_or-append-add kept nodes n [] ∙ get_or-nodes (from kept (start levels level)) (suc level) (width levels (suc level)) n fits in
          let done : IsRight levels (kept ++ nodes) level n
          = read ∙ ap sha256 (sym (node_longer levels kept nodes level n less fits (omega (arith, size)))) in
          subst (λ (j : ℕ). IsRight levels (kept ++ nodes) j n) (sym here) done
    ]

-- ---- the digests that are kept are those of the levels

pub kept_are : (levels : ℕ) (kept : List (List ℕ)) → AreRight levels kept levels → (level number : ℕ) → level ≤ levels → number < width levels level
    → get_or kept (start levels level + number) [] ≡ digest_at (take (16 ^ levels) kept) level number
kept_are levels kept right zero number le within =
    let first : 0 + number ≡ number = omega arith in
    ap (λ (p : ℕ). get_or kept p []) first ∙ sym (get_or-take (16 ^ levels) kept number [] (omega (arith, within, width_zero levels)))
kept_are levels kept right (suc level) number le within =
    right level number (omega (arith, le)) within
    ∙ ap sha256 (node_same (from kept (start levels level)) (digest_at (take (16 ^ levels) kept) level) (suc level) number
    (λ m low high. kept_are levels kept right level m (omega (arith, le)) (omega (arith, high, within, width_step levels level (omega (arith, le))))))

pub size_of : (levels : ℕ) (kept : List (List ℕ)) → length kept ≡ start levels (suc levels) → 16 ^ levels ≤ length kept
size_of levels kept size = omega (arith, size, start_le levels 1 (suc levels) (omega arith), whole_width levels)

pub root_kept : (levels : ℕ) (kept : List (List ℕ)) → IsTree levels kept →
    get_or kept (length kept - 1) [] ≡ digest_at (take (16 ^ levels) kept) levels 0
root_kept levels kept t =
    let place : length kept - 1 ≡ start levels levels + 0 = omega (arith, t.size, width_top levels) in
    ap (λ (p : ℕ). get_or kept p []) place
    ∙ kept_are levels kept t.right levels 0 (omega arith) (omega (arith, width_top levels))

-- the text of a node, read off what is kept
pub text_kept : (levels : ℕ) (kept : List (List ℕ)) → AreRight levels kept levels → (level number : ℕ) → level < levels → number < width levels (suc level)
    → node_over (from kept (start levels level)) (suc level) number ≡ node_at (take (16 ^ levels) kept) (suc level) number
text_kept levels kept right level number lt within =
    let same : suc level - 1 ≡ level = omega arith in
    node_same (from kept (start levels level)) (digest_at (take (16 ^ levels) kept) level) (suc level) number
    (λ m low high. kept_are levels kept right level m (omega (arith, lt)) (omega (arith, high, within, width_step levels level lt)))
    ∙ ap (λ (l : ℕ). node_over (digest_at (take (16 ^ levels) kept) l) (suc level) number) (sym same)

-- ---- as the calls need them

pub count_is : (levels leaves : ℕ) (kept : List (List ℕ)) → leaves ≡ 16 ^ levels → IsTree levels kept →
    length (take leaves kept) ≡ leaves
count_is levels leaves kept size t = length-take-le leaves kept (omega (arith, size, size_of levels kept t.size))

-- as many levels as the leaves make
pub levels_is : (levels leaves : ℕ) (kept : List (List ℕ)) → leaves ≡ 16 ^ levels → IsTree levels kept →
    (l : ℕ) → length (take leaves kept) ≡ 16 ^ l → l ≡ levels
levels_is levels leaves kept size t l is =
    same_levels l levels (sym is ∙ count_is levels leaves kept size t ∙ size)

-- the last digest is the root's
pub root_read : (levels leaves : ℕ) (kept : List (List ℕ)) (i : ℕ) (x : List ℕ) → x ≡ get_or kept i x →
    i ≡ length kept - 1 → leaves ≡ 16 ^ levels → IsTree levels kept → IsRoot (take leaves kept) x
root_read levels leaves kept i x read last size t l is =
    let inside : i < length kept = omega (arith, last, t.size, width_top levels) in
    read ∙ get_or_default kept i x [] inside ∙ ap (λ (k : ℕ). get_or kept k []) last ∙ root_kept levels kept t
    ∙ ap (λ (n : ℕ). digest_at (take n kept) levels 0) (sym size)
    ∙ ap (λ (k : ℕ). digest_at (take leaves kept) k 0) (sym (levels_is levels leaves kept size t l is))

-- what is outside is no node, and what is inside is one
pub no_node : (n levels level number many : ℕ) → n ≡ 16 ^ levels → many ≡ width levels level → many ≤ number →
    (false ≡ true → IsNode n level number) × (IsNode n level number → false ≡ true)
no_node n levels level number many is size out = (
  λ e. absurd cc,
  λ node. let same = same_levels node.levels levels (sym node.size ∙ is) in
      absurd (omega (arith, out, size, subst (λ (l : ℕ). number < 16 ^ (l - level)) same node.within)),
)

pub no_level : (n levels level number : ℕ) → n ≡ 16 ^ levels → levels < level →
    (false ≡ true → IsNode n level number) × (IsNode n level number → false ≡ true)
no_level n levels level number is out = (
  λ e. absurd cc,
  λ node. let same = same_levels node.levels levels (sym node.size ∙ is) in
      absurd (omega (arith, out, same, node.below)),
)

pub no_leaf : (n level number : ℕ) → level ≡ 0 →
    (false ≡ true → IsNode n level number) × (IsNode n level number → false ≡ true)
no_leaf n level number none = (λ e. absurd cc, λ node. absurd (omega (arith, none, node.above)))

pub is_a_node : (n levels level number many : ℕ) → n ≡ 16 ^ levels → 1 ≤ level → level ≤ levels →
    many ≡ width levels level → number < many →
    (true ≡ true → IsNode n level number) × (IsNode n level number → true ≡ true)
is_a_node n levels level number many is some few size within = (
  λ e. record { levels = levels; size = is; above = some; below = few; within = omega (arith, within, size) },
  λ node. refl,
)

-- the text over what is kept is that of the node
pub text_read : (levels leaves : ℕ) (kept : List (List ℕ)) (below level number many : ℕ) → leaves ≡ 16 ^ levels → IsTree levels kept → 1 ≤ level → level ≤ levels → below ≡ start levels (level - 1) → many ≡ width levels level → number < many
    → node_over (from kept below) level number ≡ node_at (take leaves kept) level number
text_read levels leaves kept below (suc l) number many size t some few place wide within =
    let less : suc l - 1 ≡ l = omega arith in
    let at : below ≡ start levels l = place ∙ ap (start levels) less in
    let inside : number < width levels (suc l) = omega (arith, within, wide) in
    ap (λ (b : ℕ). node_over (from kept b) (suc l) number) at
    ∙ text_kept levels kept t.right l number (omega (arith, few)) inside
    ∙ ap (λ (n : ℕ). node_at (take n kept) (suc l) number) (sym size)
text_read levels leaves kept below zero number many size t some few place wide within = absurd (omega (arith, some))

-- sixteen digests stand there
pub text_inside : (levels : ℕ) (kept : List (List ℕ)) (below level number many : ℕ) → IsTree levels kept → 1 ≤ level → level ≤ levels → below ≡ start levels (level - 1) → many ≡ width levels level → number < many → below + 16 * number + 16 ≤ length kept
text_inside levels kept below (suc l) number many t some few place wide within =
    let less : suc l - 1 ≡ l = omega arith in
    let at : below ≡ start levels l = place ∙ ap (start levels) less in
    let step = width_step levels l (omega (arith, few)) in
    omega (arith, at, within, wide, step, t.size, start_le levels (suc l) (suc levels) (omega (arith, few)))
text_inside levels kept below zero number many t some few place wide within = absurd (omega (arith, some))

-- the first so many levels are done
pub record IsBuilt (levels : ℕ) (kept : List (List ℕ)) (level leaves : ℕ) (ds : List (List ℕ)) : Type 0 where
  pub size : length kept ≡ start levels (suc level)
  pub right : AreRight levels kept level
  pub leaves_are : take leaves kept ≡ ds

pub built_more : (levels : ℕ) (kept new : List (List ℕ)) (level leaves below many : ℕ) (ds : List (List ℕ)) → level < levels → leaves ≡ 16 ^ levels → below ≡ start levels level → many ≡ width levels (suc level) → IsBuilt levels kept level leaves ds
    → new ≡ kept ++ nodes_upto (from kept below) (suc level) many → IsBuilt levels new (suc level) leaves ds
built_more levels kept new level leaves below many ds lt whole place wide b is =
    let nodes = nodes_upto (from kept (start levels level)) (suc level) (width levels (suc level)) in
    let at : new ≡ kept ++ nodes
    = is ∙ ap (λ (p : ℕ). kept ++ nodes_upto (from kept p) (suc level) many) place ∙ ap (λ (n : ℕ). kept ++ nodes_upto (from kept (start levels level)) (suc level) n) wide in
    let few = start_le levels 1 (suc level) (omega arith) in
    subst (λ (v : List (List ℕ)). IsBuilt levels v (suc level) leaves ds) (sym at) (record {
      size = omega (arith, length-append kept nodes, length-nodes (from kept (start levels level)) (suc level) (width levels (suc level)), b.size);
      right = level_done levels kept level lt b.size b.right;
      leaves_are = take-append-le leaves kept nodes (omega (arith, whole, few, b.size, whole_width levels)) ∙ b.leaves_are;
    })

-- one node more of the level that is appended
pub nodes_more : (init kept new : List (List ℕ)) (below level number wide : ℕ) (text digest : List ℕ) → below + 16 * wide ≤ length init → number < wide → kept ≡ init ++ nodes_upto (from init below) level number
    → text ≡ node_over (from kept below) level number → digest ≡ sha256 text → new ≡ kept ++ digest ∷ [] → new ≡ init ++ nodes_upto (from init below) level (suc number)
nodes_more init kept new below level number wide text digest fits lt so_far over is pushed =
    let nodes = nodes_upto (from init below) level number in
    let same : node_over (from kept below) level number ≡ node_over (from init below) level number
    = ap (λ (v : List (List ℕ)). node_over (from v below) level number) so_far
    ∙ node_same (from (init ++ nodes) below) (from init below) level number (λ m low high. get_or_append_left init nodes [] (below + m) (omega (arith, high, lt, fits))) in
    let d : digest ≡ sha256 (node_over (from init below) level number) = is ∙ ap sha256 (over ∙ same) in
    pushed
    ∙ ap (λ (v : List (List ℕ)). v ++ digest ∷ []) so_far
    ∙ append_assoc init nodes (digest ∷ [])
    ∙ ap (λ (x : List ℕ). init ++ (nodes ++ x ∷ [])) d

pub built_next : (levels : ℕ) (kept new : List (List ℕ)) (level next leaves below many : ℕ) (ds : List (List ℕ)) → next ≡ suc level → level < levels → leaves ≡ 16 ^ levels → below ≡ start levels level → many ≡ width levels level → IsBuilt levels kept level leaves ds
    → new ≡ kept ++ nodes_upto (from kept below) next (many / 16) → IsBuilt levels new next leaves ds
built_next levels kept new level next leaves below many ds e lt whole place wide b is =
    let up : many / 16 ≡ width levels (suc level) = omega (arith, wide, width_step levels level lt) in
    subst (λ (l : ℕ). IsBuilt levels new l leaves ds) (sym e)
    (built_more levels kept new level leaves below (many / 16) ds lt whole place up b
    (is ∙ ap (λ (l : ℕ). kept ++ nodes_upto (from kept below) l (many / 16)) e))
