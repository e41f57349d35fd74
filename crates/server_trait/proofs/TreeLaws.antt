-- Laws of trees, for the crates above.
use Rattle.std.proofs.Common.{◌⊎◌, inl, inr, ◌≡◌, ◌≢◌, ℕ, zero, suc, ◌+◌, ◌≤◌, arith, length, slice_get, [], ◌∷◌, Bool, true, false, cond, List, Option, Some, None, IsSomeAnd, refl, sym, ap, ◌∙◌, subst}
use Rattle.std.specs.Prelude.{bytes_eq, option_and_then, ◌==◌, if◌then◌else◌}
use Rattle.std.specs.Ordering.{nat_cmp, is_eq}
use Rattle.std.specs.Cmp.Lexicographic.{slice_cmp, nat_list_cmp_total}
use Rattle.std.specs.FinMap.{get, insert, remove, get-insert, get-remove, same_map, slice_cmp-IsAntisymmetric, nat_cmp-IsAntisymmetric}
use Rattle.std.proofs.lemmas.Bool.Decides.{nat_tests}
use Rattle.std.proofs.lemmas.Map.Text.{is_eq-slice_cmp}
use Rattle.std.proofs.lemmas.Slice.Eq.{bytes_eq-Decides}
use Rattle.server_trait.specs.Sums.{total}
use Rattle.server_trait.proofs.SumLaws.{total-insert_new, total-insert_old, total-none}
use Rattle.server_trait.specs.Tree.{Tree, Node, Content, BytesOf, TextOf, NamesOf, Names, ByBytes, node_at, names_at, names_in, target, IsNamed, links, names_to, used, used_by, edited, let_go, without_node, with_node}

-- BYTE STRINGS AS KEYS

pub same-keys : (h q : List ℕ) → is_eq (slice_cmp nat_cmp h q) ≡ true → h ≡ q
same-keys h q e = (bytes_eq-Decides h q).0 (sym (is_eq-slice_cmp h q) ∙ e)

pub same-key_refl : (h : List ℕ) → is_eq (slice_cmp nat_cmp h h) ≡ true
same-key_refl h = is_eq-slice_cmp h h ∙ (bytes_eq-Decides h h).1 refl

not_true : (b : Bool) → b ≢ true → b ≡ false
not_true true h = absurd (h refl)
not_true false h = refl

pub other-keys : (h q : List ℕ) → h ≢ q → is_eq (slice_cmp nat_cmp h q) ≡ false
other-keys h q ne = not_true _ (λ e. ne (same-keys h q e))

-- two byte strings are one or not
pub bytes_or_not : (h q : List ℕ) → (h ≡ q) ⊎ (h ≢ q)
bytes_or_not h q =
    elim (bytes_eq h q) as (λ b. bytes_eq h q ≡ b → (h ≡ q) ⊎ (h ≢ q)) [
      | true ↦ λ t. inl ((bytes_eq-Decides h q).0 t)
      | false ↦ λ f. inr (λ e. let t : bytes_eq h q ≡ true = (bytes_eq-Decides h q).1 e in
          let bad : true ≡ false = sym t ∙ f in cc)
    ] refl

-- two numbers are one or not
pub one_or_not : (i j : ℕ) → (i ≡ j) ⊎ (i ≢ j)
one_or_not zero zero = inl refl
one_or_not zero (suc j) = inr (λ e. absurd (omega arith))
one_or_not (suc i) zero = inr (λ e. absurd (omega arith))
one_or_not (suc i) (suc j) = elim (one_or_not i j) as
    (λ _. (suc i ≡ suc j) ⊎ (suc i ≢ suc j)) [ inl e ↦ inl (ap suc e) | inr n ↦ inr (λ e. n (omega arith)) ]

-- MAPS

module _ {X : Type 0} (m : ByBytes X) where
  pub get-insert_same : (k : List ℕ) (v : X) → get (insert m k v) k ≡ Some v
  get-insert_same k v = get-insert nat_list_cmp_total m k v k ∙ ap (λ b. cond b (Some v) (get m k)) (same-key_refl k)

  pub get-insert_other : (k : List ℕ) (v : X) (q : List ℕ) → q ≢ k → get (insert m k v) q ≡ get m q
  get-insert_other k v q ne = get-insert nat_list_cmp_total m k v q
      ∙ ap (λ b. cond b (Some v) (get m q)) (other-keys q k ne)

  pub get-remove_same : (k : List ℕ) → get (remove m k) k ≡ None
  get-remove_same k = get-remove nat_list_cmp_total m k k ∙ ap (λ b. cond b None (get m k)) (same-key_refl k)

  pub get-remove_other : (k q : List ℕ) → q ≢ k → get (remove m k) q ≡ get m q
  get-remove_other k q ne = get-remove nat_list_cmp_total m k q ∙ ap (λ b. cond b None (get m q)) (other-keys q k ne)

-- maps that answer alike are one
pub same_answers : {X : Type 0} (m n : ByBytes X) → ((q : List ℕ) → get m q ≡ get n q) → m ≡ n
same_answers m n h = same_map nat_list_cmp_total (slice_cmp-IsAntisymmetric nat_cmp-IsAntisymmetric) m n h

-- what goes and comes back changes nothing
put_back : {X : Type 0} (m : ByBytes X) (k : List ℕ) (v : X) → get m k ≡ Some v → insert (remove m k) k v ≡ m
put_back m k v is = same_answers (insert (remove m k) k v) m
    (λ q. elim (bytes_or_not q k) as (λ _. get (insert (remove m k) k v) q ≡ get m q) [
      | inl e ↦ subst (λ x. get (insert (remove m k) k v) x ≡ get m x) (sym e)
          (get-insert_same (remove m k) k v ∙ sym is)
      | inr ne ↦ get-insert_other (remove m k) k v q ne ∙ get-remove_other m k q ne
    ])

-- a value's share of a sum
pub total-remove : {X : Type 0} (f : X → ℕ) (m : ByBytes X) (k : List ℕ) (v : X) → get m k ≡ Some v →
    total f m ≡ f v + total f (remove m k)
total-remove f m k v is = ap (total f) (sym (put_back m k v is))
    ∙ total-insert_new nat_list_cmp_total f (remove m k) k v (get-remove_same m k)

pub share : {X : Type 0} (f : X → ℕ) (m : ByBytes X) (k : List ℕ) (v : X) → get m k ≡ Some v → f v ≤ total f m
share f m k v is = let e = total-remove f m k v is in omega arith

-- WHAT THERE IS

pub some_and : {A : Type 0} (o : Option A) (P : A → Type 0) → IsSomeAnd o P → (x : A) × (o ≡ Some x) × P x
some_and None P h = absurd h
some_and (Some x) P h = (x, refl, h)

pub is_some_and : {A : Type 0} {o : Option A} {x : A} (P : A → Type 0) → o ≡ Some x → P x → IsSomeAnd o P
is_some_and P e h = subst (λ o. IsSomeAnd o P) (sym e) h

pub some_none : {A : Type 0} {x : A} {o : Option A} → o ≡ Some x → o ≡ None → ⊥
some_none p q = cc

pub some_same : {A : Type 0} {x y : A} {o : Option A} → o ≡ Some x → o ≡ Some y → x ≡ y
some_same p q = cc

-- what a look-up in two steps found
pub and_then_some : {A B : Type 0} (f : A → Option B) (o : Option A) (y : B) → option_and_then f o ≡ Some y →
    (x : A) × (o ≡ Some x) × (f x ≡ Some y)
and_then_some f None y h = absurd (let bad : None ≡ Some y = h in cc)
and_then_some f (Some x) y h = (x, refl, h)

pub and_then : {A B : Type 0} (f : A → Option B) (o : Option A) (x : A) → o ≡ Some x → option_and_then f o ≡ f x
and_then f o x e = ap (option_and_then f) e

-- where a name leads, its directory has names
pub record Target (t : Tree) (dir name h : List ℕ) : Type 0 where
  pub node : Node
  pub names : Names
  pub is_node : node_at t dir ≡ Some node
  pub is_dir : names_in node.content ≡ Some names
  pub leads : get names name ≡ Some h

pub target_found : (t : Tree) (dir name h : List ℕ) → target t dir name ≡ Some h → Target t dir name h
target_found t dir name h is =
    let m = and_then_some (λ (m : Names). get m name) (names_at t dir) h is in
    let n = and_then_some (λ (n : Node). names_in n.content) (node_at t dir) m.0 m.1 in
    record { node = n.0; names = m.0; is_node = n.1; is_dir = n.2; leads = m.2 }

pub names_at-node : (t : Tree) (h : List ℕ) (n : Node) → node_at t h ≡ Some n → names_at t h ≡ names_in n.content
names_at-node t h n is = and_then (λ (n : Node). names_in n.content) (node_at t h) n is

pub target-node : (t : Tree) (h : List ℕ) (n : Node) (m : Names) (name : List ℕ) → node_at t h ≡ Some n →
    names_in n.content ≡ Some m → target t h name ≡ get m name
target-node t h n m name is has = and_then (λ (m : Names). get m name) (names_at t h) m (names_at-node t h n is ∙ has)

-- CHANGED TREES

pub edited-some : (t : Tree) (h : List ℕ) (f : Node → Node) (n : Node) → node_at t h ≡ Some n →
    edited t h f ≡ with_node t h (f n)
unfolding edited
edited-some t h f n is = ap
    (λ o. let kept : Tree =
    record t { nodes = elim o as (λ _. ByBytes Node) [ None ↦ t.nodes | Some n ↦ insert t.nodes h (f n) ] } in kept) is

pub edited-none : (t : Tree) (h : List ℕ) (f : Node → Node) → node_at t h ≡ None → edited t h f ≡ t
unfolding edited
edited-none t h f is = ap
    (λ o. let kept : Tree =
    record t { nodes = elim o as (λ _. ByBytes Node) [ None ↦ t.nodes | Some n ↦ insert t.nodes h (f n) ] } in kept) is

pub root-edited : (t : Tree) (h : List ℕ) (f : Node → Node) → (edited t h f).root ≡ t.root
unfolding edited
root-edited t h f = refl

pub node_at-edited_same : (t : Tree) (h : List ℕ) (f : Node → Node) (n : Node) → node_at t h ≡ Some n →
    node_at (edited t h f) h ≡ Some (f n)
node_at-edited_same t h f n is = ap (λ t. node_at t h) (edited-some t h f n is) ∙ get-insert_same t.nodes h (f n)

pub node_at-edited_other : (t : Tree) (h : List ℕ) (f : Node → Node) (q : List ℕ) → q ≢ h →
    node_at (edited t h f) q ≡ node_at t q
node_at-edited_other t h f q ne = elim (node_at t h) as
    (λ o. node_at t h ≡ o → node_at (edited t h f) q ≡ node_at t q) [
      | None ↦ λ is. ap (λ t. node_at t q) (edited-none t h f is)
      | Some n ↦ λ is. ap (λ t. node_at t q) (edited-some t h f n is) ∙ get-insert_other t.nodes h (f n) q ne
    ] refl

-- THE BYTES THAT A TREE USES

abbrev bytes_of_node : Node → ℕ
bytes_of_node n = used_by n.content

pub used-with_node : (t : Tree) (h : List ℕ) (n : Node) → node_at t h ≡ None →
    used (with_node t h n) ≡ used t + used_by n.content
unfolding used
used-with_node t h n none = let e = total-insert_new nat_list_cmp_total bytes_of_node t.nodes h n none in omega arith

pub used-edited : (t : Tree) (h : List ℕ) (f : Node → Node) (n : Node) → node_at t h ≡ Some n →
    used (edited t h f) + used_by n.content ≡ used t + used_by (f n).content
unfolding used
used-edited t h f n is =
    let e = total-insert_old nat_list_cmp_total bytes_of_node t.nodes h (f n) n is in
    let same : total bytes_of_node (edited t h f).nodes ≡ total bytes_of_node (insert t.nodes h (f n)) = ap
    (λ (t : Tree). total bytes_of_node t.nodes) (edited-some t h f n is) in
    omega arith

pub used-without_node : (t : Tree) (h : List ℕ) (n : Node) → node_at t h ≡ Some n →
    used (without_node t h) + used_by n.content ≡ used t
unfolding used
used-without_node t h n is = let e = total-remove bytes_of_node t.nodes h n is in omega arith

-- NAMES OF A NODE

abbrev names_of_node : List ℕ → Node → ℕ
names_of_node h n = names_to h n.content

one : (h : List ℕ) → cond (bytes_eq h h) 1 0 ≡ suc zero
one h = ap (λ b. cond b 1 0) ((bytes_eq-Decides h h).1 refl)

names_to-some : (c : Content) (m : Names) (h name : List ℕ) → names_in c ≡ Some m → get m name ≡ Some h →
    1 ≤ names_to h c
names_to-some (BytesOf b) m h name is e = absurd (let bad : None ≡ Some m = is in cc)
names_to-some (TextOf x) m h name is e = absurd (let bad : None ≡ Some m = is in cc)
names_to-some (NamesOf k) m h name is e =
    let big = share (λ x. cond (bytes_eq x h) 1 0) k name h
    (let same : k ≡ m = (let q : Some k ≡ Some m = is in cc) in ap (λ k. get k name) same ∙ e) in
    let here = one h in
    omega (arith, big, here)

-- a name that leads to a node counts
pub links-some : (t : Tree) (h dir name : List ℕ) → target t dir name ≡ Some h → 1 ≤ links t h
unfolding links
links-some t h dir name is =
    let f = target_found t dir name h is in
    let big = share (names_of_node h) t.nodes dir f.node f.is_node in
    let here = names_to-some f.node.content f.names h name f.is_dir f.leads in
    omega arith

some_not_zero : (n : ℕ) → 1 ≤ n → (n == 0) ≡ false
some_not_zero n below = grind (arith, nat_tests)

-- what has a name stays
pub let_go-named : (t : Tree) (h dir name : List ℕ) → target t dir name ≡ Some h → let_go t h ≡ t
unfolding let_go
let_go-named t h dir name is = ap (λ b. if b then without_node t h else t)
    (some_not_zero (links t h) (links-some t h dir name is))

names_to-none : (c : Content) (h : List ℕ) → ((m : Names) (name : List ℕ) → names_in c ≡ Some m → get m name ≢ Some h) →
    names_to h c ≡ 0
names_to-none (BytesOf b) h none = refl
names_to-none (TextOf x) h none = refl
names_to-none (NamesOf m) h none = total-none nat_list_cmp_total (λ x. cond (bytes_eq x h) 1 0) m
    (λ q x is. elim (bytes_eq x h) as (λ b. bytes_eq x h ≡ b → cond b 1 0 ≡ zero) [
      | true ↦ λ t. absurd (none m q refl (is ∙ ap Some ((bytes_eq-Decides x h).0 t)))
      | false ↦ λ _. refl
    ] refl)

-- to what has no name no name counts
pub links-none : (t : Tree) (h : List ℕ) → ¬ (IsNamed t h) → links t h ≡ 0
unfolding links
links-none t h none = total-none nat_list_cmp_total (names_of_node h) t.nodes
    (λ q n is. names_to-none n.content h (λ m name has leads. none (q, name, target-node t q n m name is has ∙ leads)))

-- what has no name goes
pub let_go-unnamed : (t : Tree) (h : List ℕ) → ¬ (IsNamed t h) → let_go t h ≡ without_node t h
unfolding let_go
let_go-unnamed t h none = ap (λ n. if n == 0 then without_node t h else t) (links-none t h none)

-- LISTS

-- lists of one length have elements at the same places
pub slice_get-along : {X Y : Type 0} (xs : List X) (ys : List Y) (i : ℕ) (x : X) → length xs ≡ length ys →
    slice_get xs i ≡ Some x → (y : Y) × (slice_get ys i ≡ Some y)
slice_get-along [] ys i x n h = absurd (let bad : None ≡ Some x = h in cc)
slice_get-along (z ∷ xs) [] i x n h = absurd (omega arith)
slice_get-along (z ∷ xs) (y ∷ ys) zero x n h = (y, refl)
slice_get-along (z ∷ xs) (y ∷ ys) (suc i) x n h = slice_get-along xs ys i x (omega arith) h
