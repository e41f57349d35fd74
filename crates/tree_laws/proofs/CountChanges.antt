-- Laws of what a tree counts, where a name is added or taken out and a node without names goes.
use Rattle.std.proofs.Common.{◌≡◌, ◌≢◌, ℕ, ◌+◌, ◌*◌, arith, cond, List, Some, None, is_some, ap, ◌∙◌}
use Rattle.std.specs.Prelude.{bytes_eq}
use Rattle.std.specs.Cmp.Lexicographic.{nat_list_cmp_total}
use Rattle.std.specs.FinMap.{get, insert, remove, len, len-insert}
use Rattle.server_trait.specs.Tree.{Tree, Node, Names, NamesOf, ByBytes, node_at, target, is_dir_at, one_if, links, names_to, subdirs, used, used_by, named, unnamed, with_names, without_node}
use Rattle.server_trait.proofs.CountLaws.{links-edited}
use Rattle.server_trait.proofs.SumLaws.{total-ones}
use Rattle.server_trait.proofs.TreeLaws.{total-remove, used-edited, links-some}

-- HOW MANY

pub len-insert_new : {X : Type 0} (m : ByBytes X) (k : List ℕ) (v : X) → get m k ≡ None → len (insert m k v) ≡ len m + 1
len-insert_new m k v none = len-insert nat_list_cmp_total m k v ∙ ap (λ o. cond (is_some o) (len m) (len m + 1)) none

pub len-remove_old : {X : Type 0} (m : ByBytes X) (k : List ℕ) (u : X) → get m k ≡ Some u → len (remove m k) + 1 ≡ len m
len-remove_old {X} m k u is =
    let share = total-remove {X = X} (λ _. 1) m k u is in
    let before = total-ones m in
    let after = total-ones (remove m k) in
    omega (arith, share, before, after)

-- NAMES THAT LEAD TO A NODE

abbrev leading : List ℕ → Node → ℕ
leading q n = names_to q n.content

-- a name that goes no longer counts where it led
pub links-unnamed : (t : Tree) (dir name h : List ℕ) (n : Node) (m : Names) (q : List ℕ) → node_at t dir ≡ Some n →
    n.content ≡ NamesOf m → get m name ≡ Some h →
    links (unnamed t dir name) q + one_if (bytes_eq h q) ≡ links t q
links-unnamed t dir name h n m q is has leads =
    let e = links-edited t dir (with_names (λ m. remove m name)) n q is in
    let before : names_to q n.content ≡ names_to q (NamesOf m) = ap (names_to q) has in
    let after : names_to q (with_names (λ m. remove m name) n).content ≡ names_to q (NamesOf (remove m name)) =
    ap (λ c. let x : Node = record n { content = c } in names_to q (with_names (λ m. remove m name) x).content) has in
    let less = total-remove (λ x. one_if (bytes_eq x q)) m name h leads in
    omega (arith, e, before, after, less)

-- a node that goes takes its names with it
pub links-without_node : (t : Tree) (h : List ℕ) (n : Node) (q : List ℕ) → node_at t h ≡ Some n →
    links (without_node t h) q + names_to q n.content ≡ links t q
unfolding links
links-without_node t h n q is = let e = total-remove (leading q) t.nodes h n is in omega (arith, e)

-- a name leads only to what counts it
pub unlinked : (t : Tree) (h dir name : List ℕ) → links t h ≡ 0 → target t dir name ≢ Some h
unlinked t h dir name none is = let some = links-some t h dir name is in omega (arith, none, some)

-- SUBDIRECTORIES

-- the names without one of them
pub subdirs-remove : (t : Tree) (m : Names) (name h : List ℕ) → get m name ≡ Some h →
    subdirs t m ≡ one_if (is_dir_at t h) + subdirs t (remove m name)
unfolding subdirs
subdirs-remove t m name h is = total-remove (λ x. one_if (is_dir_at t x)) m name h is

-- BYTES

module _ (t : Tree) (dir name : List ℕ) (n : Node) (m : Names) (is : node_at t dir ≡ Some n)
    (has_names : n.content ≡ NamesOf m) where
  pub used-named : (h : List ℕ) → get m name ≡ None → used (named t dir name h) ≡ used t + 512
  used-named h none =
      let change = used-edited t dir (with_names (λ m. insert m name h)) n is in
      let before : used_by n.content ≡ 512 * len m = ap used_by has_names in
      let after : used_by (with_names (λ m. insert m name h) n).content ≡ 512 * len (insert m name h) =
      ap (λ c. let x : Node = record n { content = c } in
      used_by (with_names (λ m. insert m name h) x).content) has_names in
      let size = len-insert_new m name h none in
      omega (arith, change, before, after, size)

  pub used-unnamed : (h : List ℕ) → get m name ≡ Some h → used (unnamed t dir name) + 512 ≡ used t
  used-unnamed h leads =
      let change = used-edited t dir (with_names (λ m. remove m name)) n is in
      let before : used_by n.content ≡ 512 * len m = ap used_by has_names in
      let after : used_by (with_names (λ m. remove m name) n).content ≡ 512 * len (remove m name) =
      ap (λ c. let x : Node = record n { content = c } in
      used_by (with_names (λ m. remove m name) x).content) has_names in
      let size = len-remove_old m name h leads in
      omega (arith, change, before, after, size)
