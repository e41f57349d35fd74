-- Laws of what a tree counts: the names that lead to a node, and the subdirectories among a directory's names.
use Rattle.std.proofs.Common.{◌≡◌, ℕ, ◌+◌, ◌-◌, ◌≤◌, arith, Bool, true, false, List, [], ◌∷◌, length, Some, None, refl, ap}
use Rattle.std.specs.Prelude.{bytes_eq}
use Rattle.std.specs.Cmp.Lexicographic.{nat_list_cmp_total}
use Rattle.std.specs.FinMap.{get, insert, entries, len, len-entries}
use Rattle.server_trait.specs.Sums.{sum_values, total}
use Rattle.server_trait.specs.Tree.{Tree, Node, NamesOf, Names, ByBytes, node_at, is_dir_at, one_if, links, names_to, subdirs, edited, named, with_node, with_names}
use Rattle.server_trait.proofs.SumLaws.{total-insert_new, total-insert_old, total-none}
use Rattle.server_trait.proofs.TreeLaws.{edited-some}

-- SUMS

module _ {K X : Type 0} (f g : X → ℕ) where
  sum_both : (es : List (K × X)) → sum_values f es + sum_values (λ x. g x - f x) es ≡ sum_values g es + sum_values (λ
      x. f x - g x) es
  sum_both [] = refl
  sum_both (e ∷ es) = let rest = sum_both es in omega (arith, rest)

-- two weights that agree at each value
pub total-same : {X : Type 0} (f g : X → ℕ) (m : ByBytes X) → ((k : List ℕ) (x : X) → get m k ≡ Some x → f x ≡ g x) →
    total f m ≡ total g m
unfolding total
total-same f g m same =
    let both = sum_both f g (entries m) in
    let less = total-none nat_list_cmp_total (λ x. f x - g x) m (λ k x is. let e = same k x is in omega arith) in
    let more = total-none nat_list_cmp_total (λ x. g x - f x) m (λ k x is. let e = same k x is in omega arith) in
    omega (arith, both, less, more)

one_most : (b : Bool) → one_if b ≤ 1
one_most true = omega arith
one_most false = omega arith

sum_most : {K X : Type 0} (test : X → Bool) (es : List (K × X)) → sum_values (λ x. one_if (test x)) es ≤ length es
sum_most test [] = omega arith
sum_most test (e ∷ es) = let rest = sum_most test es in let here = one_most (test e.1) in omega (arith, rest, here)

-- NAMES THAT LEAD TO A NODE

abbrev leading : List ℕ → Node → ℕ
leading q n = names_to q n.content

pub links-with_node : (t : Tree) (h : List ℕ) (n : Node) (q : List ℕ) → node_at t h ≡ None →
    links (with_node t h n) q ≡ links t q + names_to q n.content
unfolding links
links-with_node t h n q none = let e = total-insert_new nat_list_cmp_total (leading q) t.nodes h n none in
    omega (arith, e)

pub links-edited : (t : Tree) (h : List ℕ) (f : Node → Node) (n : Node) (q : List ℕ) → node_at t h ≡ Some n →
    links (edited t h f) q + names_to q n.content ≡ links t q + names_to q (f n).content
unfolding links
links-edited t h f n q is =
    let e = total-insert_old nat_list_cmp_total (leading q) t.nodes h (f n) n is in
    let same : total (leading q) (edited t h f).nodes ≡ total (leading q) (insert t.nodes h (f n)) =
    ap (λ (t : Tree). total (leading q) t.nodes) (edited-some t h f n is) in
    omega (arith, e, same)

-- a directory's new name counts where it leads
pub links-named : (t : Tree) (dir name h : List ℕ) (n : Node) (m : Names) (q : List ℕ) → node_at t dir ≡ Some n →
    n.content ≡ NamesOf m → get m name ≡ None →
    links (named t dir name h) q ≡ links t q + one_if (bytes_eq h q)
links-named t dir name h n m q is has none =
    let e = links-edited t dir (with_names (λ m. insert m name h)) n q is in
    let before : names_to q n.content ≡ names_to q (NamesOf m) = ap (names_to q) has in
    let after : names_to q (with_names (λ m. insert m name h) n).content ≡ names_to q (NamesOf (insert m name h)) =
    ap (λ c. let x : Node = record n { content = c } in names_to q (with_names (λ m. insert m name h) x).content) has in
    let more = total-insert_new nat_list_cmp_total (λ x. one_if (bytes_eq x q)) m name h none in
    omega (arith, e, before, after, more)

-- SUBDIRECTORIES

pub subdirs-same : (t u : Tree) (m : Names) → ((name h : List ℕ) → get m name ≡ Some h →
    is_dir_at t h ≡ is_dir_at u h) → subdirs t m ≡ subdirs u m
unfolding subdirs
subdirs-same t u m same = total-same (λ h. one_if (is_dir_at t h)) (λ h. one_if (is_dir_at u h)) m (λ name h is. ap
    one_if (same name h is))

pub subdirs-insert_new : (t : Tree) (m : Names) (name h : List ℕ) → get m name ≡ None →
    subdirs t (insert m name h) ≡ one_if (is_dir_at t h) + subdirs t m
unfolding subdirs
subdirs-insert_new t m name h none = total-insert_new nat_list_cmp_total (λ x. one_if (is_dir_at t x)) m name h none

pub subdirs-most : (t : Tree) (m : Names) → subdirs t m ≤ len m
unfolding subdirs total
subdirs-most t m = let most = sum_most (is_dir_at t) (entries m) in let size = len-entries m in
    omega (arith, most, size)
