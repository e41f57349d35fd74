-- Changes of more than one step.
use Rattle.std.proofs.Common.{inl, inr, ◌≡◌, ◌≢◌, ◌∙◌, ◌+◌, ◌≤◌, ℕ, Bool, true, false, List, length, Some, None, IsSome, refl, sym, ap, subst, bytes_eq, arith}
use Rattle.std.specs.Prelude.{◌==◌, if◌then◌else◌, option_and_then}
use Rattle.std.proofs.lemmas.Bool.Decides.{nat_tests}
use Rattle.std.specs.FinMap.{get, remove, get-empty}
use Rattle.std.specs.Ordering.{nat_cmp}
use Rattle.std.specs.Cmp.Lexicographic.{slice_cmp}
use Rattle.nfs2_types.specs.declared.fattr.Kind.{Kind}
use Rattle.nfs2_types.specs.declared.fattr.Kind.TheVariants.{File, Dir, Link}
use Rattle.server_trait.specs.Tree.{Tree, Node, Names, Content, BytesOf, TextOf, NamesOf, node_at, names_at, names_in, target, kind_of, links, links_of, let_go, new_node, one_if, used, unnamed, with_names, with_node, without_node}
use Rattle.server_trait.specs.Step.{LacksName}
use Rattle.server_trait.specs.declared.server.ServerLimits.{ServerLimits}
use Rattle.server_trait.proofs.SoftLaws.{some_of}
use Rattle.server_trait.proofs.TreeLaws.{and_then_some, bytes_or_not, get-insert_same, get-insert_other, get-remove_same, get-remove_other, is_some_and, links-some, names_at-node, node_at-edited_same, node_at-edited_other, some_and, some_none, some_same, used-with_node}
use Rattle.tree_laws.proofs.CountChanges.{links-unnamed}
use Rattle.log_tree.specs.Held.{Records, handle_of, root_id, most_names, tree_of}
use Rattle.log_held.specs.Sound.{kind_at, IsSound}
use Rattle.log_index.specs.declared.info.NodeInfo.{NodeInfo}
use Rattle.log_index.specs.Memory.{IsInfo}
use Rattle.log_index.proofs.Ties.{dir_names, handle_back, same_bytes, other_bytes}
use Rattle.log_changes.specs.Made.{HasText, IsBareDir, IsFreeDir, is_last, made_content}
use Rattle.log_changes.proofs.NodeComes.{made_uses}
use Rattle.log_changes.proofs.ButLaws.{kind_is}
use Rattle.log_changes.proofs.DirLaws.{IsTarget, target_of}

-- A NODE WITHOUT NAMES GOES

pub let_go-none : (t : Tree) (h : List ℕ) → links t h ≡ 0 → let_go t h ≡ without_node t h
unfolding let_go
let_go-none t h none = ap (λ n. if n == 0 then without_node t h else t) none

not_zero : (n : ℕ) → 1 ≤ n → (n == 0) ≡ false
not_zero n below = grind (arith, nat_tests)

pub let_go-some : (t : Tree) (h : List ℕ) → 1 ≤ links t h → let_go t h ≡ t
unfolding let_go
let_go-some t h some = ap (λ b. if b then without_node t h else t) (not_zero (links t h) some)

-- A NAME GOES

module _ (limits : ServerLimits) (live : Records) (D name child : List ℕ) (s : IsSound limits live)
    (eight : length child ≡ 8) (leads : target (tree_of live) D name ≡ Some (handle_of child)) where
  abbrev t : Tree
  t = tree_of live

  abbrev C : List ℕ
  C = handle_of child

  abbrev u : Tree
  u = unnamed t D name

  f : IsTarget t D name C
  f = target_of limits live D name C s leads

  linked : 1 ≤ links t C
  linked = links-some t C D name leads

  less : links u C + 1 ≡ links t C
  less =
      let all = links-unnamed t D name C f.dir f.names C f.is_dir f.has f.leads in
      let one : one_if (bytes_eq C C) ≡ 1 = ap one_if (same_bytes C C refl) in
      omega arith

  pub apart : child ≢ root_id
  apart e =
      let same : C ≡ handle_of root_id = ap handle_of e in
      let dir : kind_of f.child.content ≡ Dir = some_back (sym (kind_is live child f.child eight f.is_child)
      ∙ (ap (kind_at live) e ∙ s.tied.root)) in
      let m = dir_names f.child.content dir in
      let one = s.tied.one C f.child m.0 f.is_child (ap names_in m.1) in
      let none : most_names C ≡ 0 = ap (λ b. if b then 0 else 1) (same_bytes C (handle_of root_id) same) in
      let some = linked in
      absurd (omega arith)
    where
      some_back : {x y : Kind} → Some x ≡ Some y → x ≡ y
      some_back e = cc

  -- one name leads to a directory
  pub free_dir_after : IsFreeDir u child
  free_dir_after some =
      let m = some_of (names_at u C) some in
      let w = was_dir C m.0 m.1 in
      let one = s.tied.one C w.0 w.1 w.2 w.3 in
      let most : most_names C ≡ 1 = ap (λ b. if b then 0 else 1) (other_bytes C (handle_of root_id)
      (λ e. apart (handle_back child root_id eight refl e))) in
      let after = less in
      (omega arith, apart)
    where
      -- a directory was one before
      was_dir : (q : List ℕ) (k : Names) → names_at u q ≡ Some k
          → (n : Node) × (j : Names) × (node_at t q ≡ Some n) × (names_in n.content ≡ Some j)
      was_dir q k at = elim (bytes_or_not q D) [
        | inl e ↦ (f.dir, f.names, ap (node_at t) e ∙ f.is_dir, ap names_in f.has)
        | inr ne ↦
            let n = and_then_some (λ (n : Node). names_in n.content) (node_at u q) k at in
            (n.0, k, sym (node_at-edited_other t D (with_names (λ m. remove m name)) q ne) ∙ n.1, n.2)
      ]

  pub child_there : IsSome (node_at u C)
  child_there = elim (bytes_or_not C D) [
    | inl e ↦ subst (λ o. IsSome o) (sym (ap (node_at u) e
        ∙ node_at-edited_same t D (with_names (λ m. remove m name)) f.dir f.is_dir)) refl
    | inr ne ↦ subst (λ o. IsSome o) (sym (node_at-edited_other t D (with_names (λ m. remove m name)) C ne
        ∙ f.is_child)) refl
  ]

  -- a directory without names is not the one that loses a name
  pub bare_after : IsBareDir t C → IsBareDir u C
  bare_after bare m at = elim (bytes_or_not C D) [
    | inl e ↦
        let none = bare f.names (names_at-node t C f.dir (ap (node_at t) e ∙ f.is_dir) ∙ ap names_in f.has) in
        absurd (some_none f.leads (ap (λ k. get k name) none ∙ get-empty (slice_cmp nat_cmp) name))
    | inr ne ↦ bare m (sym (ap (λ o. option_and_then (λ (n : Node). names_in n.content) o)
        (node_at-edited_other t D (with_names (λ m. remove m name)) C ne)) ∙ at)
  ]

  module _ (n : Node) (info : NodeInfo) (is : node_at t C ≡ Some n) (says : IsInfo t C n info) where
    leaf_links : (c : Content) → (kind_of c ≡ Dir → ⊥) → links_of t C c ≡ links t C
    leaf_links (BytesOf b) other = refl
    leaf_links (TextOf b) other = refl
    leaf_links (NamesOf m) other = absurd (other refl)

    dir_links : kind_of n.content ≡ Dir → links t C ≡ 1
    dir_links e =
        let m = dir_names n.content e in
        let one = s.tied.one C n m.0 is (ap names_in m.1) in
        let most : most_names C ≡ 1 = ap (λ b. if b then 0 else 1) (other_bytes C (handle_of root_id)
        (λ e. apart (handle_back child root_id eight refl e))) in
        omega arith

    number_is : (a b : ℕ) → (a == b) ≡ true → a ≡ b
    number_is a b h = grind (arith, nat_tests)

    number_not : (a b : ℕ) → (a == b) ≡ false → a ≢ b
    number_not a b h = grind (arith, nat_tests)

    abbrev by_kind : Kind → Bool
    by_kind k = elim k [ File ↦ info.links == 1 | Dir ↦ true | Link ↦ info.links == 1 ]

    last_of : (k : Kind) → kind_of n.content ≡ k → by_kind k ≡ true → links t C ≡ 1
    last_of File e h = sym (leaf_links n.content (λ d. absurd (let bad : File ≡ Dir = sym e ∙ d in cc))) ∙ (sym says.links
        ∙ number_is info.links 1 h)
    last_of Dir e h = dir_links e
    last_of Link e h = sym (leaf_links n.content (λ d. absurd (let bad : Link ≡ Dir = sym e ∙ d in cc))) ∙ (sym says.links
        ∙ number_is info.links 1 h)

    more_of : (k : Kind) → kind_of n.content ≡ k → by_kind k ≡ false
        → (links t C ≢ 1) × (kind_of n.content ≡ Dir → ⊥)
    more_of File e h =
        let leaf : kind_of n.content ≡ Dir → ⊥ = λ d. absurd (let bad : File ≡ Dir = sym e ∙ d in cc) in
        (λ one. number_not info.links 1 h (says.links ∙ (leaf_links n.content leaf ∙ one)), leaf)
    more_of Dir e h = absurd (let bad : true ≡ false = h in cc)
    more_of Link e h =
        let leaf : kind_of n.content ≡ Dir → ⊥ = λ d. absurd (let bad : Link ≡ Dir = sym e ∙ d in cc) in
        (λ one. number_not info.links 1 h (says.links ∙ (leaf_links n.content leaf ∙ one)), leaf)

    pub last_links : is_last info ≡ true → links u C ≡ 0
    last_links h =
        let one = last_of info.kind (sym says.kind) h in
        let after = less in
        omega arith

    pub more_links : is_last info ≡ false → (1 ≤ links u C) × (kind_of n.content ≡ Dir → ⊥)
    more_links h =
        let many = more_of info.kind (sym says.kind) h in
        let ne = many.0 in
        let some = linked in
        let after = less in
        (omega arith, many.1)

    -- a leaf is none afterwards either
    pub leaf_after : (kind_of n.content ≡ Dir → ⊥) → names_at u C ≡ None
    leaf_after leaf = elim (bytes_or_not C D) [
      | inl e ↦ absurd (leaf (ap (λ (k : Node). kind_of k.content) (some_same is (ap (node_at t) e ∙ f.is_dir))
          ∙ ap kind_of f.has))
      | inr ne ↦ names_at-node u C n (node_at-edited_other t D (with_names (λ m. remove m name)) C ne ∙ is)
          ∙ leaf_names n.content leaf
    ]
      where
        leaf_names : (c : Content) → (kind_of c ≡ Dir → ⊥) → names_in c ≡ None
        leaf_names (BytesOf b) other = refl
        leaf_names (TextOf b) other = refl
        leaf_names (NamesOf m) other = absurd (other refl)

-- A NAME MOVES

-- a name that another directory lacks, it lacks still where one goes
pub lacks_after : (t : Tree) (D name E other : List ℕ) (n : Node) (m : Names) → node_at t D ≡ Some n
    → n.content ≡ NamesOf m → LacksName t E other → LacksName (unnamed t D name) E other
lacks_after t D name E other n m is has lacks =
    let k = some_and (names_at t E) (λ m. get m other ≡ None) lacks in
    let u = unnamed t D name in
    let g = with_names (λ m. remove m name) in
    elim (bytes_or_not E D) [
      | inl e ↦
          let now : (g n).content ≡ NamesOf (remove m name) =
          ap (λ c. let x : Node = record n { content = c } in (g x).content) has in
          let at : names_at u E ≡ Some (remove m name) = names_at-node u E (g n)
          (ap (node_at u) e ∙ node_at-edited_same t D g n is) ∙ ap names_in now in
          let same : k.0 ≡ m = some_same k.1 (names_at-node t E n (ap (node_at t) e ∙ is) ∙ ap names_in has) in
          let old : get m other ≡ None = ap (λ j. get j other) (sym same) ∙ k.2 in
          is_some_and (λ (j : Names). get j other ≡ None) at (elim (bytes_or_not other name) [
            | inl f ↦ ap (get (remove m name)) f ∙ get-remove_same m name
            | inr ne ↦ get-remove_other m name other ne ∙ old
          ])
      | inr ne ↦ is_some_and (λ (j : Names). get j other ≡ None)
          (ap (λ o. option_and_then (λ (x : Node). names_in x.content) o) (node_at-edited_other t D g E ne) ∙ k.1) k.2
    ]

-- A NODE IS MADE

-- a name that a directory lacks, it lacks still beside a new node
pub lacks_beside : (t : Tree) (h : List ℕ) (N : Node) (E other : List ℕ) → node_at t h ≡ None → LacksName t E other
    → LacksName (with_node t h N) E other
lacks_beside t h N E other absent lacks =
    let k = some_and (names_at t E) (λ m. get m other ≡ None) lacks in
    let n = and_then_some (λ (n : Node). names_in n.content) (node_at t E) k.0 k.1 in
    let ne : E ≢ h = λ e. some_none n.1 (ap (node_at t) e ∙ absent) in
    is_some_and (λ (j : Names). get j other ≡ None)
    (names_at-node (with_node t h N) E n.0 (get-insert_other t.nodes h N E ne ∙ n.1) ∙ n.2) k.2

-- the new node is there, and uses what its text uses
pub there_beside : (t u : Tree) (h : List ℕ) (N : Node) → u ≡ with_node t h N → IsSome (node_at u h)
there_beside t u h N is = subst (λ o. IsSome o) (sym (ap (λ v. node_at v h) is ∙ get-insert_same t.nodes h N)) refl

pub room_beside : (t u : Tree) (h : List ℕ) (number : ℕ) (kind : Kind) (text : List ℕ) → node_at t h ≡ None
    → u ≡ with_node t h (new_node number (made_content kind text)) → HasText kind text → used u ≡ used t + length text
room_beside t u h number kind text absent is plain =
    let all = used-with_node t h (new_node number (made_content kind text)) absent in
    let own = made_uses kind text plain in
    ap used is ∙ omega arith
