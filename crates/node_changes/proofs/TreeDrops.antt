-- A name is taken out of a tree, and with its last name the node.
use Rattle.std.proofs.Common.{◌≡◌, ◌≢◌, ℕ, zero, suc, ◌+◌, ◌≤◌, arith, false, List, Option, Some, None, refl, ap, ◌∙◌}
use Rattle.std.specs.Prelude.{bytes_eq, ◌==◌, if◌then◌else◌}
use Rattle.std.specs.FinMap.{get, remove}
use Rattle.std.proofs.lemmas.Bool.Decides.{nat_tests}
use Rattle.std.proofs.lemmas.Slice.Eq.{bytes_eq-Decides}
use Rattle.server_trait.specs.Tree.{Tree, Node, Names, Content, BytesOf, TextOf, NamesOf, node_at, names_in, target, one_if, links, names_to, with_names, unnamed, without_node, let_go}
use Rattle.server_trait.specs.Calls.{Removed}
use Rattle.server_trait.proofs.TreeLaws.{some_and, some_none, some_same, target_found, total-remove, node_at-edited_same, node_at-edited_other, get-remove_same, get-remove_other, root-edited}
use Rattle.server_trait.proofs.CountLaws.{links-edited}

-- A NAME IN THE COUNT

abbrev less : List ℕ → Node → Node
less name = with_names (λ m. remove m name)

one_counts : (h : List ℕ) → one_if (bytes_eq h h) ≡ suc zero
one_counts h = ap one_if ((bytes_eq-Decides h h).1 refl)

-- a node that loses the name counts one less
name_counts : (name h : List ℕ) (n : Node) (c : Content) (m : Names) → n.content ≡ c → names_in c ≡ Some m →
    get m name ≡ Some h → names_to h n.content ≡ 1 + names_to h (less name n).content
name_counts name h n (BytesOf b) m same is leads = absurd (some_none is refl)
name_counts name h n (TextOf b) m same is leads = absurd (some_none is refl)
name_counts name h n (NamesOf k) m same is leads =
    let e : k ≡ m = some_same {o = Some k} refl is in
    let before : names_to h n.content ≡ names_to h (NamesOf k) = ap (names_to h) same in
    let after : names_to h (less name n).content ≡ names_to h (NamesOf (remove k name)) =
    ap (λ c. let x : Node = record n { content = c } in names_to h (less name x).content) same in
    let all = total-remove (λ (x : List ℕ). one_if (bytes_eq x h)) k name h (ap (λ k. get k name) e ∙ leads) in
    let one = one_counts h in
    omega (arith, before, after, all, one)

some_is : (n : ℕ) → 1 ≤ n → (n == 0) ≡ false
some_is n below = grind (arith, nat_tests)

module _ (t : Tree) (dir name h : List ℕ) (leads : target t dir name ≡ Some h) where
  abbrev without_name : Tree
  without_name = unnamed t dir name

  links_less : links without_name h + 1 ≡ links t h
  links_less =
      let f = target_found t dir name h leads in
      let all = links-edited t dir (less name) f.node h f.is_node in
      let one = name_counts name h f.node f.node.content f.names refl f.is_dir f.leads in
      omega (arith, all, one)

  -- with its last name the node goes
  pub node_goes : links t h ≤ 1 → let_go without_name h ≡ without_node without_name h
  unfolding let_go
  node_goes few =
      let all = links_less in
      let none : links without_name h ≡ 0 = omega (arith, all, few) in
      ap (λ n. if n == 0 then without_node without_name h else without_name) none

  -- with another name it stays
  pub node_stays : 2 ≤ links t h → let_go without_name h ≡ without_name
  unfolding let_go
  node_stays many =
      let all = links_less in
      ap (λ b. if b then without_node without_name h else without_name)
      (some_is (links without_name h) (omega (arith, all, many)))

  -- what stands then is known, since the name leads to one node
  pub removed_is : (s : Option Tree) → Removed t dir name s → s ≡ Some (let_go without_name h)
  removed_is s removed =
      let x = some_and (target t dir name) (λ h. s ≡ Some (let_go without_name h)) removed in
      x.2 ∙ ap (λ h. Some (let_go without_name h)) (some_same x.1 leads)

  -- THE NODES

  pub dir_stays : (n : Node) → node_at t dir ≡ Some n → node_at without_name dir ≡ Some (less name n)
  dir_stays n at = node_at-edited_same t dir (less name) n at

  pub others_stay : (q : List ℕ) → q ≢ dir → node_at without_name q ≡ node_at t q
  others_stay q ne = node_at-edited_other t dir (less name) q ne

  pub root_stays : without_name.root ≡ t.root
  root_stays = root-edited t dir (less name)

  pub node_gone : node_at (without_node without_name h) h ≡ None
  node_gone = get-remove_same without_name.nodes h

  pub others_left : (q : List ℕ) → q ≢ h → node_at (without_node without_name h) q ≡ node_at without_name q
  others_left q ne = get-remove_other without_name.nodes h q ne
