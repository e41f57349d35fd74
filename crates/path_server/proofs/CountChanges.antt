-- Laws of what a tree counts, where a name is added or taken out and a node without names goes.
use Rattle.std.proofs.Common.{◌≡◌, ◌≢◌, ℕ, ◌+◌, ◌*◌, ◌≤◌, arith, Bool, true, false, cond, List, [], ◌∷◌, Option, Some, None, is_some, ap, ◌∙◌}
use Rattle.std.specs.Prelude.{bytes_eq, ◌==◌, if◌then◌else◌}
use Rattle.std.specs.Cmp.Lexicographic.{nat_list_cmp_total}
use Rattle.std.specs.FinMap.{get, insert, remove, entries, len, len-insert}
use Rattle.std.proofs.lemmas.Bool.Decides.{nat_tests}
use Rattle.server_trait.specs.Sums.{sum_values, total}
use Rattle.server_trait.specs.Tree.{Tree, Node, Names, Content, BytesOf, TextOf, NamesOf, ByBytes, node_at, target, is_dir_at, one_if, links, names_to, subdirs, used, used_by, named, unnamed, let_go, with_names, without_node}
use Rattle.server_trait.proofs.CountLaws.{links-edited}
use Rattle.server_trait.proofs.SumLaws.{total-ones}
use Rattle.server_trait.proofs.TreeLaws.{total-remove, used-edited, links-some}

-- HOW MANY

pub len-insert_new : {X : Type 0} (m : ByBytes X) (k : List ℕ) (v : X) → get m k ≡ None → len (insert m k v) ≡ len m + 1
len-insert_new m k v none = len-insert nat_list_cmp_total m k v ∙ ap (λ o. cond (is_some o) (len m) (len m + 1)) none

pub len-insert_old : {X : Type 0} (m : ByBytes X) (k : List ℕ) (v u : X) → get m k ≡ Some u → len (insert m k v) ≡ len m
len-insert_old m k v u is = len-insert nat_list_cmp_total m k v ∙ ap (λ o. cond (is_some o) (len m) (len m + 1)) is

pub len-remove_old : {X : Type 0} (m : ByBytes X) (k : List ℕ) (u : X) → get m k ≡ Some u → len (remove m k) + 1 ≡ len m
len-remove_old {X} m k u is =
    let share = total-remove {X = X} (λ _. 1) m k u is in
    let before = total-ones m in
    let after = total-ones (remove m k) in
    omega (arith, share, before, after)

-- NAMES THAT LEAD TO A NODE

abbrev leading : List ℕ → Node → ℕ
leading q n = names_to q n.content

-- a name that goes no longer counts where it led
pub links-unnamed : (t : Tree) (dir name h : List ℕ) (n : Node) (m : Names) (q : List ℕ) → node_at t dir ≡ Some n →
    n.content ≡ NamesOf m → get m name ≡ Some h →
    links (unnamed t dir name) q + one_if (bytes_eq h q) ≡ links t q
links-unnamed t dir name h n m q is has leads =
    let e = links-edited t dir (with_names (λ m. remove m name)) n q is in
    let before : names_to q n.content ≡ names_to q (NamesOf m) = ap (names_to q) has in
    let after : names_to q (with_names (λ m. remove m name) n).content ≡ names_to q (NamesOf (remove m name)) =
    ap (λ c. let x : Node = record n { content = c } in names_to q (with_names (λ m. remove m name) x).content) has in
    let less = total-remove (λ x. one_if (bytes_eq x q)) m name h leads in
    omega (arith, e, before, after, less)

-- a node that goes takes its names with it
pub links-without_node : (t : Tree) (h : List ℕ) (n : Node) (q : List ℕ) → node_at t h ≡ Some n →
    links (without_node t h) q + names_to q n.content ≡ links t q
unfolding links
links-without_node t h n q is = let e = total-remove (leading q) t.nodes h n is in omega (arith, e)

-- a name leads only to what counts it
pub unlinked : (t : Tree) (h dir name : List ℕ) → links t h ≡ 0 → target t dir name ≢ Some h
unlinked t h dir name none is = let some = links-some t h dir name is in omega (arith, none, some)

not_zero : (n : ℕ) → 1 ≤ n → (n == 0) ≡ false
not_zero n some = grind (arith, nat_tests)

-- a node that has names stays, and one that has none goes
pub let_go-linked : (t : Tree) (h : List ℕ) → 1 ≤ links t h → let_go t h ≡ t
unfolding let_go
let_go-linked t h some = ap (λ b. if b then without_node t h else t) (not_zero (links t h) some)

pub let_go-unlinked : (t : Tree) (h : List ℕ) → links t h ≡ 0 → let_go t h ≡ without_node t h
unfolding let_go
let_go-unlinked t h none = ap (λ n. if n == 0 then without_node t h else t) none

-- SUBDIRECTORIES

-- the names without one of them
pub subdirs-remove : (t : Tree) (m : Names) (name h : List ℕ) → get m name ≡ Some h →
    subdirs t m ≡ one_if (is_dir_at t h) + subdirs t (remove m name)
unfolding subdirs
subdirs-remove t m name h is = total-remove (λ x. one_if (is_dir_at t x)) m name h is

abbrev has : Option Names → Bool
has o = elim o as (λ _. Bool) [ None ↦ false | Some m ↦ true ]

-- BYTES

module _ (t : Tree) (dir name : List ℕ) (n : Node) (m : Names) (is : node_at t dir ≡ Some n)
    (has_names : n.content ≡ NamesOf m) where
  pub used-named : (h : List ℕ) → get m name ≡ None → used (named t dir name h) ≡ used t + 512
  used-named h none =
      let change = used-edited t dir (with_names (λ m. insert m name h)) n is in
      let before : used_by n.content ≡ 512 * len m = ap used_by has_names in
      let after : used_by (with_names (λ m. insert m name h) n).content ≡ 512 * len (insert m name h) =
      ap (λ c. let x : Node = record n { content = c } in
      used_by (with_names (λ m. insert m name h) x).content) has_names in
      let size = len-insert_new m name h none in
      omega (arith, change, before, after, size)

  pub used-unnamed : (h : List ℕ) → get m name ≡ Some h → used (unnamed t dir name) + 512 ≡ used t
  used-unnamed h leads =
      let change = used-edited t dir (with_names (λ m. remove m name)) n is in
      let before : used_by n.content ≡ 512 * len m = ap used_by has_names in
      let after : used_by (with_names (λ m. remove m name) n).content ≡ 512 * len (remove m name) =
      ap (λ c. let x : Node = record n { content = c } in
      used_by (with_names (λ m. remove m name) x).content) has_names in
      let size = len-remove_old m name h leads in
      omega (arith, change, before, after, size)

-- a node's names cost bytes
one_most : (b : Bool) → one_if b ≤ 1
one_most true = omega arith
one_most false = omega arith

module _ (h : List ℕ) where
  sum_most : {K : Type 0} (es : List (K × List ℕ)) → sum_values (λ x. one_if (bytes_eq x h)) es ≤ sum_values (λ _. 1) es
  sum_most [] = omega arith
  sum_most (e ∷ es) = let rest = sum_most es in let here = one_most (bytes_eq e.1 h) in omega (arith, rest, here)

  names_most : (m : Names) → total (λ x. one_if (bytes_eq x h)) m ≤ total (λ _. 1) m
  unfolding total
  names_most m = sum_most (entries m)

  names_cost : (c : Content) → 512 * names_to h c ≤ used_by c
  names_cost (BytesOf b) = omega arith
  names_cost (TextOf x) = omega arith
  names_cost (NamesOf m) = let most = names_most m in let size = total-ones m in omega (arith, most, size)

  sum_cost : {K : Type 0} (es : List (K × Node)) → 512 * sum_values (leading h) es ≤ sum_values
      (λ n. used_by n.content) es
  sum_cost [] = omega arith
  sum_cost (e ∷ es) = let rest = sum_cost es in let here = names_cost e.1.content in omega (arith, rest, here)

pub links-cost : (t : Tree) (h : List ℕ) → 512 * links t h ≤ used t
unfolding links used total
links-cost t h = sum_cost h (entries t.nodes)
