-- The tree that a service begins with: an empty root, and two directories that are made in it.
use Rattle.std.proofs.Common.{◌≡◌, ◌≢◌, ◌⊎◌, inl, inr, ℕ, ◌+◌, ◌≤◌, arith, cond, List, Option, Some, None, IsSome, IsSomeAnd, refl, sym, ap, ◌∙◌, subst}
use Rattle.std.specs.Option.{is_some}
use Rattle.std.specs.Ordering.{nat_cmp}
use Rattle.std.specs.Cmp.Lexicographic.{slice_cmp, nat_list_cmp_total}
use Rattle.std.specs.FinMap.{get, insert, empty, len, get-empty, len-empty, len-insert}
use Rattle.server_trait.specs.Tree.{Tree, Node, Content, BytesOf, TextOf, NamesOf, Names, ByBytes, node_at, names_at, names_in, new_node, with_attr, with_node, with_names, edited, used, used_by}
use Rattle.server_trait.specs.Step.{LacksName}
use Rattle.server_trait.specs.Calls.{IsFresh, IsNewNumber, Made}
use Rattle.server_trait.specs.declared.server.ServerLimits.{ServerLimits}
use Rattle.server_trait.proofs.TreeLaws.{get-insert_same, get-insert_other, bytes_or_not, some_same, some_none, is_some_and, names_at-node, edited-some, root-edited, node_at-edited_same, node_at-edited_other, used-with_node, used-edited}
use Rattle.server_trait.proofs.SumLaws.{total-none}
use Rattle.conf_map.specs.Stands.{export_name, staging_name, root_names, DifferInNumber}
use Rattle.conf_map.specs.Fresh.{HoldsUpTo, export_node, IsEmptyTree}

-- THE NAMES OF THE ROOT

abbrev export_names : List ℕ → Names
export_names export = insert empty export_name export

names_differ : staging_name ≢ export_name
names_differ e = cc

export_new : get (empty {X = List ℕ} {R = slice_cmp nat_cmp}) export_name ≡ None
export_new = get-empty (slice_cmp nat_cmp) export_name

staging_new : (export : List ℕ) → get (export_names export) staging_name ≡ None
staging_new export = get-insert_other empty export_name export staging_name names_differ
    ∙ get-empty (slice_cmp nat_cmp) staging_name

-- A DIRECTORY IS MADE

len_more : {X : Type 0} (m : ByBytes X) (k : List ℕ) (v : X) → get m k ≡ None → len (insert m k v) ≡ len m + 1
len_more m k v none = len-insert nat_list_cmp_total m k v ∙ ap (λ o. cond (is_some o) (len m) (len m + 1)) none

len_same : {X : Type 0} (m : ByBytes X) (k : List ℕ) (v u : X) → get m k ≡ Some u → len (insert m k v) ≡ len m
len_same m k v u is = len-insert nat_list_cmp_total m k v ∙ ap (λ o. cond (is_some o) (len m) (len m + 1)) is

-- a name that is new takes 512 bytes
used_named : (c : Content) (m : Names) (name h : List ℕ) → names_in c ≡ Some m → get m name ≡ None →
    used_by (with_names (λ m. insert m name h) (new_node 0 c)).content ≡ used_by c + 512
used_named (BytesOf b) m name h is none = absurd (some_none is refl)
used_named (TextOf x) m name h is none = absurd (some_none is refl)
used_named (NamesOf k) m name h is none =
    let same : k ≡ m = some_same {o = Some k} refl is in
    let more = len_more k name h (ap (λ k. get k name) same ∙ none) in
    omega (arith, more)

-- what stands after a directory was made
pub record IsMade (t : Tree) (dir name h : List ℕ) (n : Node) (new : Option Tree) : Type 0 where
  pub tree : Tree
  pub after : new ≡ Some tree
  pub root : tree.root ≡ t.root
  pub apart : h ≢ dir
  pub number : ℕ
  pub new_number : IsNewNumber t number
  pub new_handle : node_at t h ≡ None
  pub at_new : node_at tree h ≡ Some (new_node number (NamesOf empty))
  pub at_dir : node_at tree dir ≡ Some (with_names (λ m. insert m name h) n)
  pub others : (q : List ℕ) → q ≢ h → q ≢ dir → node_at tree q ≡ node_at t q
  pub nodes : len tree.nodes ≡ len t.nodes + 1
  pub bytes : used tree ≡ used t + 512

pub made_facts : (t : Tree) (dir name h : List ℕ) (n : Node) (m : Names) (new : Option Tree) → node_at t dir ≡ Some n →
    names_in n.content ≡ Some m → get m name ≡ None →
    Made t dir name (NamesOf empty) h new → IsMade t dir name h n new
made_facts t dir name h n m new is_dir has lacks made = record {
  tree = t2;
  after = made.after;
  root = root-edited t1 dir f;
  apart = apart;
  number = made.number;
  new_number = made.new_number;
  new_handle = made.new_handle;
  at_new = node_at-edited_other t1 dir f h apart ∙ get-insert_same t.nodes h x;
  at_dir = node_at-edited_same t1 dir f n at_dir;
  others = λ q not_h not_dir. node_at-edited_other t1 dir f q not_dir ∙ get-insert_other t.nodes h x q not_h;
  nodes = ap (λ (t : Tree). len t.nodes) (edited-some t1 dir f n at_dir) ∙ len_same t1.nodes dir (f n) n at_dir
      ∙ len_more t.nodes h x made.new_handle;
  bytes =
      let a = used-edited t1 dir f n at_dir in
      let b = used-with_node t h x made.new_handle in
      let c : used_by (f n).content ≡ used_by n.content + 512 = used_named n.content m name h has lacks in
      let d = len-empty (slice_cmp nat_cmp) (List ℕ) in
      omega (arith, a, b, c, d);
}
  where
    x : Node
    x = new_node made.number (NamesOf empty)

    f : Node → Node
    f = with_names (λ m. insert m name h)

    t1 : Tree
    t1 = with_node t h x

    t2 : Tree
    t2 = edited t1 dir f

    apart : h ≢ dir
    apart e = some_none is_dir (ap (node_at t) (sym e) ∙ made.new_handle)

    at_dir : node_at t1 dir ≡ Some n
    at_dir = get-insert_other t.nodes h x dir (λ e. apart (sym e)) ∙ is_dir

-- AN EMPTY ROOT

-- the tree after a wipe
abbrev wiped : List ℕ → ℕ → Tree
wiped root number = record { root = root; nodes = insert empty root (new_node number (NamesOf empty)) }

at_root : (root : List ℕ) (number : ℕ) → node_at (wiped root number) root ≡ Some (new_node number (NamesOf empty))
at_root root number = get-insert_same empty root (new_node number (NamesOf empty))

nowhere_else : (root : List ℕ) (number : ℕ) (q : List ℕ) → q ≢ root → node_at (wiped root number) q ≡ None
nowhere_else root number q ne = get-insert_other empty root (new_node number (NamesOf empty)) q ne
    ∙ get-empty (slice_cmp nat_cmp) q

wiped_nodes : (root : List ℕ) (number : ℕ) → len (wiped root number).nodes ≡ 1
wiped_nodes root number = len_more empty root (new_node number (NamesOf empty)) (get-empty (slice_cmp nat_cmp) root)
    ∙ ap (λ n. n + 1) (len-empty (slice_cmp nat_cmp) Node)

nothing_used : (root : List ℕ) → used (record { root = root; nodes = empty }) ≡ 0
unfolding used
nothing_used root = total-none nat_list_cmp_total (λ (n : Node). used_by n.content) empty
    (λ k v is. absurd (some_none is (get-empty (slice_cmp nat_cmp) k)))

wiped_bytes : (root : List ℕ) (number : ℕ) → used (wiped root number) ≡ 0
wiped_bytes root number =
    let a = used-with_node (record { root = root; nodes = empty }) root (new_node number (NamesOf empty))
    (get-empty (slice_cmp nat_cmp) root) in
    let b = nothing_used root in
    let d = len-empty (slice_cmp nat_cmp) (List ℕ) in
    omega (arith, a, b, d)

lacks_at : (t : Tree) (dir name : List ℕ) (n : Node) (m : Names) → node_at t dir ≡ Some n →
    names_in n.content ≡ Some m → get m name ≡ None → LacksName t dir name
lacks_at t dir name n m is has none = is_some_and (λ m. get m name ≡ None) (names_at-node t dir n is ∙ has) none

-- the tree has room for one more directory
abbrev HasRoomIn : Option Tree → ServerLimits → Type 0
HasRoomIn s limits = IsSomeAnd s (λ t. HoldsUpTo limits (len t.nodes + 1) (used t + 512))

has_room : (s : Option Tree) (limits : ServerLimits) (t : Tree) → s ≡ Some t → len t.nodes ≤ 2 → used t ≤ 512 →
    HoldsUpTo limits 3 1024 → HasRoomIn s limits
has_room s limits t is few small holds = is_some_and (λ t. HoldsUpTo limits (len t.nodes + 1) (used t + 512)) is
    ((let h = holds.0 in omega arith), (let h = holds.1 in omega arith))

-- the directories are made one after the other
module _ (s0 : Option Tree) (root : List ℕ) (fresh : IsFresh s0)
    (is_root : (t : Tree) → s0 ≡ Some t → root ≡ t.root) where
  pub is_wiped : s0 ≡ Some (wiped root fresh.number)
  is_wiped = subst (λ r. s0 ≡ Some (wiped r fresh.number))
      (sym (is_root (wiped fresh.root fresh.number) fresh.after)) fresh.after

  pub lacks_export : IsSomeAnd s0 (λ t. LacksName t root export_name)
  lacks_export = is_some_and (λ t. LacksName t root export_name) is_wiped
      (lacks_at (wiped root fresh.number) root export_name (new_node fresh.number (NamesOf empty)) empty
      (at_root root fresh.number) refl export_new)

  pub room_export : (limits : ServerLimits) → HoldsUpTo limits 3 1024 → HasRoomIn s0 limits
  room_export limits holds = let a = wiped_nodes root fresh.number in let b = wiped_bytes root fresh.number in
      has_room s0 limits (wiped root fresh.number) is_wiped (omega (arith, a)) (omega (arith, b)) holds

  module _ (s1 : Option Tree) (export : List ℕ)
      (made : (t : Tree) → s0 ≡ Some t → Made t root export_name (NamesOf empty) export s1) where
    pub first : IsMade (wiped root fresh.number) root export_name export (new_node fresh.number (NamesOf empty)) s1
    first = made_facts (wiped root fresh.number) root export_name export
        (new_node fresh.number (NamesOf empty)) empty s1 (at_root root fresh.number) refl export_new
        (made (wiped root fresh.number) is_wiped)

    abbrev root_node : Node
    root_node = new_node fresh.number (NamesOf (export_names export))

    pub lacks_staging : IsSomeAnd s1 (λ t. LacksName t root staging_name)
    lacks_staging = is_some_and (λ t. LacksName t root staging_name) first.after
        (lacks_at first.tree root staging_name root_node (export_names export) first.at_dir refl (staging_new export))

    pub room_staging : (limits : ServerLimits) → HoldsUpTo limits 3 1024 → HasRoomIn s1 limits
    room_staging limits holds =
        let a = wiped_nodes root fresh.number in
        let b = wiped_bytes root fresh.number in
        let c = first.nodes in
        let d = first.bytes in
        has_room s1 limits first.tree first.after (omega (arith, a, c)) (omega (arith, b, d)) holds

    module _ (s2 : Option Tree) (staging : List ℕ)
        (made_too : (t : Tree) → s1 ≡ Some t → Made t root staging_name (NamesOf empty) staging s2) where
      pub second : IsMade first.tree root staging_name staging root_node s2
      second = made_facts first.tree root staging_name staging root_node (export_names export) s2 first.at_dir refl
          (staging_new export) (made_too first.tree first.after)

      apart : export ≢ staging
      apart e = some_none first.at_new (ap (node_at first.tree) e ∙ second.new_handle)

      pub at_export : node_at second.tree export ≡ Some (new_node first.number (NamesOf empty))
      at_export = second.others export apart first.apart ∙ first.at_new

      pub has_export : IsSomeAnd s2 (λ t. IsSome (node_at t export))
      has_export = is_some_and (λ t. IsSome (node_at t export)) second.after (ap is_some at_export)

      module _ (s3 : Option Tree)
          (set : (t : Tree) → s2 ≡ Some t → s3 ≡ Some (edited t export (with_attr 511 0 0))) where
        abbrev last : Tree
        last = edited second.tree export (with_attr 511 0 0)

        is_last : s3 ≡ Some last
        is_last = set second.tree second.after

        export_now : node_at last export ≡ Some (export_node first.number)
        export_now = node_at-edited_same second.tree export (with_attr 511 0 0)
            (new_node first.number (NamesOf empty)) at_export

        pub still_export : IsSomeAnd s3 (λ t. IsSome (node_at t export))
        still_export = is_some_and (λ t. IsSome (node_at t export)) is_last (ap is_some export_now)

        staging_now : node_at last staging ≡ Some (new_node second.number (NamesOf empty))
        staging_now = node_at-edited_other second.tree export (with_attr 511 0 0) staging (λ e. apart (sym e))
            ∙ second.at_new

        root_now : node_at last root ≡ Some (new_node fresh.number (NamesOf (root_names export staging)))
        root_now = node_at-edited_other second.tree export (with_attr 511 0 0) root (λ e. first.apart (sym e))
            ∙ second.at_dir

        root_is : last.root ≡ root
        root_is = root-edited second.tree export (with_attr 511 0 0) ∙ second.root ∙ first.root

        none_else : (q : List ℕ) → q ≢ root → q ≢ staging → q ≢ export → node_at last q ≡ None
        none_else q not_root not_staging not_export =
            node_at-edited_other second.tree export (with_attr 511 0 0) q not_export
            ∙ second.others q not_staging not_root ∙ first.others q not_export not_root
            ∙ nowhere_else root fresh.number q not_root

        -- a node is one of three
        three : (P : List ℕ → Node → Type 0) → P root (new_node fresh.number (NamesOf (root_names export staging))) →
            P staging (new_node second.number (NamesOf empty)) → P export (export_node first.number) →
            (q : List ℕ) (n : Node) → node_at last q ≡ Some n → P q n
        three P a b c q n is = elim (bytes_or_not q root) as (λ _. P q n) [
          | inl e ↦ subst (λ q. P q n) (sym e) (subst (P root) (some_same root_now (ap (node_at last) (sym e) ∙ is)) a)
          | inr not_root ↦ elim (bytes_or_not q staging) as (λ _. P q n) [
            | inl e ↦ subst (λ q. P q n) (sym e)
                (subst (P staging) (some_same staging_now (ap (node_at last) (sym e) ∙ is)) b)
            | inr not_staging ↦ elim (bytes_or_not q export) as (λ _. P q n) [
              | inl e ↦ subst (λ q. P q n) (sym e)
                  (subst (P export) (some_same export_now (ap (node_at last) (sym e) ∙ is)) c)
              | inr not_export ↦ absurd (some_none is (none_else q not_root not_staging not_export))
            ]
          ]
        ]

        differ_first : first.number ≢ fresh.number
        differ_first e = first.new_number root (new_node fresh.number (NamesOf empty)) (at_root root fresh.number)
            (sym e)

        differ_second : second.number ≢ fresh.number
        differ_second e = second.new_number root root_node first.at_dir (sym e)

        differ_both : second.number ≢ first.number
        differ_both e = second.new_number export (new_node first.number (NamesOf empty)) first.at_new (sym e)

        numbers : DifferInNumber last
        numbers p q m n is_m is_n = three (λ p m. m.number ≡ n.number → p ≡ q)
            (three (λ q n. fresh.number ≡ n.number → root ≡ q) (λ _. refl) (λ e. absurd (differ_second (sym e)))
            (λ e. absurd (differ_first (sym e))) q n is_n)
            (three (λ q n. second.number ≡ n.number → staging ≡ q) (λ e. absurd (differ_second e)) (λ _. refl)
            (λ e. absurd (differ_both e)) q n is_n)
            (three (λ q n. first.number ≡ n.number → export ≡ q) (λ e. absurd (differ_first e))
            (λ e. absurd (differ_both (sym e))) (λ _. refl) q n is_n)
            p m is_m

        pub is_empty_tree : (s : Option Tree) (number : ℕ) → s ≡ s3 →
            ((t : Tree) (n : Node) → s3 ≡ Some t → node_at t export ≡ Some n → number ≡ n.number) →
            IsEmptyTree s export number
        is_empty_tree s number same told = record {
          tree = last;
          has_tree = same ∙ is_last;
          staging = staging;
          root_has = ap (names_at last) root_is ∙ names_at-node last root
              (new_node fresh.number (NamesOf (root_names export staging))) root_now;
          staging_has = names_at-node last staging (new_node second.number (NamesOf empty)) staging_now;
          export_is = export_now ∙ ap (λ n. Some (export_node n))
              (sym (told last (export_node first.number) is_last export_now));
          root_apart = λ e. second.apart (e ∙ root_is);
          export_apart = ((λ e. first.apart (e ∙ root_is)), apart);
          covered = λ q n is. three (λ q _. (q ≡ last.root) ⊎ ((q ≡ staging) ⊎ (q ≡ export))) (inl (sym root_is))
              (inr (inl refl)) (inr (inr refl)) q n is;
          numbers = numbers;
        }
