-- Whether a directory lies below another, by a walk upward.
use Rattle.std.proofs.Common.{inl, inr, true, false, cond, ◌≡◌, ◌≢◌, ◌∙◌, ◌⊎◌, ◌+◌, ◌<◌, ◌≤◌, ℕ, suc, zero, List, [], ◌∷◌, length, take, Some, IsSome, refl, sym, ap, subst, bytes_eq, arith}
use Rattle.std.proofs.lemmas.Slice.Eq.{bytes_eq-Decides}
use Rattle.std.specs.FinMap.{get, remove, len, entries}
use Rattle.nfs2_types.specs.declared.fattr.Kind.TheVariants.{Dir}
use Rattle.server_trait.specs.Sums.{sum_values, total}
use Rattle.server_trait.specs.Tree.{ByBytes, Tree, Node, Names, Content, BytesOf, TextOf, NamesOf, node_at, names_at, names_in, names_to, target, links, one_if, kind_of}
use Rattle.server_trait.specs.Step.{LeadsIn, IsAtOrBelow}
use Rattle.server_trait.specs.declared.server.ServerLimits.{ServerLimits}
use Rattle.server_trait.proofs.SoftLaws.{some_of}
use Rattle.server_trait.proofs.TreeLaws.{bytes_or_not, get-remove_same, get-remove_other, names_at-node, some_none, some_same, target-node, target_found}
use Rattle.tree_laws.proofs.CountChanges.{len-remove_old, unlinked}
use Rattle.log_tree.specs.Held.{Records, handle_of, root_id, most_names, tree_of}
use Rattle.log_held.specs.Sound.{IsSound}
use Rattle.log_held.proofs.Lists.{Each, each_entry}
use Rattle.log_held.proofs.Nodes.{node_found}
use Rattle.log_index.specs.declared.info.NodeInfo.{NodeInfo}
use Rattle.log_index.specs.Memory.{Memory, IsIndexed}
use Rattle.log_index.proofs.Ties.{at_node, handle_back, other_bytes, same_bytes}
use Rattle.log_changes.proofs.DirLaws.{dir_of, target_of}

-- PATHS

-- the last name of a path
pub record IsLast (t : Tree) (k : ℕ) (h q : List ℕ) : Type 0 where
  pub dir : List ℕ
  pub name : List ℕ
  pub leads : target t dir name ≡ Some q
  pub path : LeadsIn t k h dir

pub leads_last : (t : Tree) (k : ℕ) (h q : List ℕ) → LeadsIn t (suc k) h q → IsLast t k h q
leads_last t zero h q p = record {
  dir = h;
  name = p.0;
  leads = p.2 ∙ ap Some p.3;
  path = refl;
}
leads_last t (suc k) h q p =
    let rest = leads_last t k p.1 q p.3 in
    record { dir = rest.dir; name = rest.name; leads = rest.leads; path = (p.0, p.1, p.2, rest.path) }

-- a path whose nodes are all of a set
abbrev Within : {X : Type 0} → ByBytes X → Tree → ℕ → List ℕ → List ℕ → Type 0
Within s t zero h q = (h ≡ q) × IsSome (get s h)
Within s t (suc k) h q =
    IsSome (get s h) × ((name : List ℕ) × (x : List ℕ) × (target t h name ≡ Some x) × Within s t k x q)

-- a path without a node, or what is left of it behind that node
record IsCut {X : Type 0} (s : ByBytes X) (t : Tree) (a q : List ℕ) : Type 0 where
  length_is : ℕ
  name : List ℕ
  next : List ℕ
  leads : target t a name ≡ Some next
  rest : Within (remove s a) t length_is next q

avoid : {X : Type 0} (s : ByBytes X) (t : Tree) (k : ℕ) (h q a : List ℕ) → Within s t k h q
    → ((j : ℕ) × Within (remove s a) t j h q) ⊎ (IsCut s t a q ⊎ (a ≡ q))
avoid s t zero h q a p = elim (bytes_or_not h a) [
  | inl e ↦ inr (inr (sym e ∙ p.0))
  | inr ne ↦ inl (0, (p.0, subst (λ o. IsSome o) (sym (get-remove_other s a h ne)) p.1))
]
avoid s t (suc k) h q a p =
    elim (avoid s t k p.1.1 q a p.1.3) [
      | inl rest ↦ elim (bytes_or_not h a) [
        | inl e ↦ inr (inl (record {
          length_is = rest.0;
          name = p.1.0;
          next = p.1.1;
          leads = ap (λ d. target t d p.1.0) (sym e) ∙ p.1.2;
          rest = rest.1;
        }))
        | inr ne ↦ inl (
          suc rest.0,
          (
            subst (λ o. IsSome o) (sym (get-remove_other s a h ne)) p.0,
            (p.1.0, p.1.1, p.1.2, rest.1),
          ),
        )
      ]
      | inr other ↦ inr other
    ]

here : {X : Type 0} (s : ByBytes X) (t : Tree) (k : ℕ) (h q : List ℕ) → Within s t k h q → IsSome (get s h)
here s t zero h q p = p.1
here s t (suc k) h q p = p.0

-- a path need not be longer than the set
short : {X : Type 0} (n : ℕ) (s : ByBytes X) (t : Tree) (k : ℕ) (h q : List ℕ) → len s ≡ n → Within s t k h q
    → (j : ℕ) × (j < n) × LeadsIn t j h q
short zero s t k h q size p =
    let x = some_of (get s h) (here s t k h q p) in
    let less = len-remove_old s h x.0 x.1 in
    absurd (omega arith)
short (suc n) s t k h q size p =
    let x = some_of (get s h) (here s t k h q p) in
    let less = len-remove_old s h x.0 x.1 in
    elim (avoid s t k h q h p) [
      | inl rest ↦
          let y = some_of (get (remove s h) h) (here (remove s h) t rest.0 h q rest.1) in
          absurd (some_none y.1 (get-remove_same s h))
      | inr other ↦ elim other [
        | inl cut ↦
            let less_one = short n (remove s h) t cut.length_is cut.next q (omega arith) cut.rest in
            (suc less_one.0, omega (arith, less_one.1), (cut.name, cut.next, cut.leads, less_one.2))
        | inr e ↦ (0, omega arith, e)
      ]
    ]

-- NAMES THAT LEAD TO A NODE

some_entry : {X : Type 0} (f : X → ℕ) (P : List ℕ × X → Type 0) (es : List (List ℕ × X)) → Each P es
    → 1 ≤ sum_values f es → (e : List ℕ × X) × P e × (1 ≤ f e.1)
some_entry f P [] all some = absurd (omega arith)
some_entry f P (e ∷ es) all some = elim (some_or_none (f e.1)) [
  | inl one ↦ (e, all.0, one)
  | inr none ↦ some_entry f P es all.1 (omega arith)
]
  where
    some_or_none : (n : ℕ) → (1 ≤ n) ⊎ (n ≡ 0)
    some_or_none zero = inr refl
    some_or_none (suc n) = inl (omega arith)

total_entry : {X : Type 0} (f : X → ℕ) (m : ByBytes X) → 1 ≤ total f m
    → (k : List ℕ) × (v : X) × (get m k ≡ Some v) × (1 ≤ f v)
unfolding total
total_entry f m some =
    let e = some_entry f (λ e. get m e.0 ≡ Some e.1) (entries m)
    (each_entry (λ e. get m e.0 ≡ Some e.1) m (λ k v is. is)) some in
    (e.0.0, e.0.1, e.1, e.2)

-- what some name leads to, some name of some directory leads to
pub linked_by : (t : Tree) (h : List ℕ) → 1 ≤ links t h → (dir : List ℕ) × (name : List ℕ) × (target t dir name ≡ Some h)
unfolding links
linked_by t h some =
    let n = total_entry (λ (n : Node). names_to h n.content) t.nodes some in
    let c = in_content n.1.content n.3 in
    (n.0, c.1, target-node t n.0 n.1 c.0 c.1 n.2 c.2 ∙ c.3)
  where
    same : (x : List ℕ) → 1 ≤ one_if (bytes_eq x h) → x ≡ h
    same x one = elim (bytes_eq x h) as (λ b. bytes_eq x h ≡ b → 1 ≤ one_if b → x ≡ h) [
      | true ↦ (λ e o. (bytes_eq-Decides x h).0 e)
      | false ↦ (λ e o. absurd (omega arith))
    ] refl one

    in_content : (c : Content) → 1 ≤ names_to h c
        → (m : Names) × (name : List ℕ) × (names_in c ≡ Some m) × (get m name ≡ Some h)
    in_content (BytesOf b) one = absurd (omega arith)
    in_content (TextOf b) one = absurd (omega arith)
    in_content (NamesOf m) one =
        let e = total_entry (λ x. one_if (bytes_eq x h)) m one in
        (m, e.0, refl, e.2 ∙ ap Some (same e.1 e.3))

-- A WALK UPWARD

-- so many steps up from the start the walk stands at a directory, and has not met the top
pub record IsWalk (t : Tree) (top start : List ℕ) (steps : ℕ) (now : List ℕ) : Type 0 where
  pub eight : length now ≡ 8
  pub is_dir : IsSome (names_at t (handle_of now))
  pub down : LeadsIn t steps (handle_of now) (handle_of start)
  pub up : (k : ℕ) → LeadsIn t k (handle_of top) (handle_of start) → (j : ℕ) × (j + steps ≡ k)
      × LeadsIn t j (handle_of top) (handle_of now)

pub walk_begins : (t : Tree) (top start : List ℕ) → length start ≡ 8 → IsSome (names_at t (handle_of start))
    → IsWalk t top start 0 start
walk_begins t top start eight dir = record {
  eight = eight;
  is_dir = dir;
  down = refl;
  up = λ k p. (k, omega arith, p);
}

module _ (limits : ServerLimits) (live : Records) (x : Memory) (s : IsSound limits live) (h : IsIndexed (tree_of live) x)
    (top start : List ℕ) (eight_top : length top ≡ 8) where
  abbrev t : Tree
  t = tree_of live

  module _ (steps : ℕ) (now : List ℕ) (w : IsWalk t top start steps now) where
    pub met : now ≡ top → IsAtOrBelow t (handle_of top) (handle_of start)
    met e = (steps, subst (λ q. LeadsIn t steps (handle_of q) (handle_of start)) e w.down)

    -- the directory above
    above : (k : ℕ) → LeadsIn t k (handle_of top) (handle_of now) → now ≢ top → (j : ℕ) × (suc j ≡ k)
        × IsLast t j (handle_of top) (handle_of now)
    above zero p ne = absurd (ne (sym (handle_back top now eight_top w.eight p)))
    above (suc k) p ne = (k, refl, leads_last t k (handle_of top) (handle_of now) p)

    pub at_root : now ≢ top → now ≡ root_id → IsAtOrBelow t (handle_of top) (handle_of start) → ⊥
    at_root ne e below =
        let p = w.up below.0 below.1 in
        let l = above p.0 p.2 ne in
        let m = some_of (names_at t (handle_of now)) w.is_dir in
        let d = dir_of t (handle_of now) m.0 m.1 in
        let one = s.tied.one (handle_of now) d.node m.0 d.is_node (ap names_in d.has) in
        let none : most_names (handle_of now) ≡ 0 =
        ap (λ b. cond b 0 1) (same_bytes (handle_of now) (handle_of root_id) (ap handle_of e)) in
        unlinked t (handle_of now) l.2.dir l.2.name (one ∙ none) l.2.leads

    pub step_up : (i : NodeInfo) → now ≢ top → now ≢ root_id → get x.nodes now ≡ Some i → IsWalk t top start (suc steps) i.parent
    step_up i ne not_root is =
        let m = some_of (names_at t (handle_of now)) w.is_dir in
        let d = dir_of t (handle_of now) m.0 m.1 in
        let one = s.tied.one (handle_of now) d.node m.0 d.is_node (ap names_in d.has) in
        let most : most_names (handle_of now) ≡ 1 = ap (λ b. cond b 0 1) (other_bytes (handle_of now) (handle_of root_id)
        (λ e. not_root (handle_back now root_id w.eight refl e))) in
        let by = linked_by t (handle_of now) (omega arith) in
        let both = at_node t x now d.node h w.eight d.is_node in
        let kind : i.kind ≡ Dir = ap (λ (j : NodeInfo). j.kind) (some_same is both.is_info) ∙ (both.says.kind
        ∙ (ap (λ (n : Node). kind_of n.content) (some_same both.is_node d.is_node) ∙ ap kind_of d.has)) in
        let parent : (dir name : List ℕ) → target t dir name ≡ Some (handle_of now) → (dir ≡ handle_of i.parent)
        × (length i.parent ≡ 8) × IsSome (names_at t dir) = λ dir name leads.
        let f = target_of limits live dir name (handle_of now) s leads in
        let back = node_found live dir f.dir f.is_dir in
        let same : i.parent ≡ take 8 dir = h.parents now i (take 8 dir) name is kind back.eight
        (ap (λ q. target t q name) (sym back.handle) ∙ leads) in (
          back.handle ∙ ap handle_of (sym same),
          ap length same ∙ back.eight,
          subst (λ o. IsSome o) (sym (names_at-node t dir f.dir f.is_dir ∙ ap names_in f.has)) refl,
        ) in
        let p = parent by.0 by.1 by.2 in
        record {
          eight = p.1;
          is_dir = subst (λ q. IsSome (names_at t q)) p.0 p.2;
          down = (by.1, handle_of now, ap (λ q. target t q by.1) (sym p.0) ∙ by.2, w.down);
          up = λ k path.
              let old = w.up k path in
              let l = above old.0 old.2 ne in
              let dir = parent l.2.dir l.2.name l.2.leads in
              (l.0, omega (arith, l.1, old.1), subst (LeadsIn t l.0 (handle_of top)) dir.0 l.2.path);
        }

    -- a walk of as many steps as there are nodes meets whatever it can meet
    pub walked_all : len t.nodes ≤ steps → IsSome (node_at t (handle_of top))
        → IsAtOrBelow t (handle_of top) (handle_of start) → ⊥
    walked_all all there below =
        let p = short (len t.nodes) t.nodes t below.0 (handle_of top) (handle_of start) refl
        (within below.0 (handle_of top) (handle_of start) there below.1) in
        let q = w.up p.0 p.2 in
        omega (arith, p.1, q.1)
      where
        within : (k : ℕ) (a b : List ℕ) → IsSome (node_at t a) → LeadsIn t k a b → Within t.nodes t k a b
        within zero a b there e = (e, there)
        within (suc k) a b there path =
            let f = target_found t a path.0 path.1 path.2 in (
              there,
              (
                path.0,
                path.1,
                path.2,
                within k path.1 b
                    (s.tied.leads a f.node f.names path.0 path.1 f.is_node f.is_dir f.leads) path.3,
              ),
            )
