-- What a medium holds is a tree exactly where its live records are sound.
use Rattle.std.proofs.Common.{◌≡◌, ◌∙◌, ℕ, Bool, true, false, ◌&&◌, List, Option, Some, None, IsSome, refl, sym, ap}
use Rattle.std.specs.Prelude.{◌==◌, is_some, nat_le, max, if◌then◌else◌}
use Rattle.std.specs.List.{list_all}
use Rattle.std.specs.FinMap.{get, len, entries}
use Rattle.server_trait.specs.Tree.{Tree, Node, Names, names_in, node_at, links, used}
use Rattle.server_trait.specs.declared.server.ServerLimits.{ServerLimits}
use Rattle.log_tree.specs.Held.{Records, root_id, most_names, tree_of, has_place, is_dir, is_tied, is_within, tree_in}
use Rattle.log_held.specs.Sound.{AreOnce, IsSound}
use Rattle.log_held.proofs.Lists.{each_all, all_each, each_entry, entry_each}
use Rattle.log_held.proofs.Forms.{both, and_is, same_number, number_is, at_most, at_most_is, dir_there, there_dir, are_placed}
use Rattle.log_held.proofs.Places.{each_placed}

some_is : {A : Type 0} (o : Option A) → is_some o ≡ true → IsSome o
some_is None h = absurd (let bad : false ≡ true = h in cc)
some_is (Some x) h = refl

is_some_of : {A : Type 0} (o : Option A) → IsSome o → is_some o ≡ true
is_some_of None h = absurd (let bad : false ≡ true = h in cc)
is_some_of (Some x) h = refl

-- NODES AND NAMES

-- what the tests of a directory say
record IsDirTied (t : Tree) (h : List ℕ) (m : Names) : Type 0 where
  one : links t h ≡ most_names h
  leads : (name x : List ℕ) → get m name ≡ Some x → IsSome (node_at t x)

tied_dir : (t : Tree) (h : List ℕ) (n : Node) (m : Names) → is_tied t h n ≡ true → names_in n.content ≡ Some m
    → IsDirTied t h m
tied_dir t h n m tied is =
    let tests : ((links t h == most_names h) && list_all (λ e. is_some (node_at t e.1)) (entries m)) ≡ true =
    ap (λ (o : Option Names). elim o [
      | None ↦ true
      | Some names ↦ (links t h == most_names h) && list_all (λ e. is_some (node_at t e.1)) (entries names)
    ]) (sym is) ∙ tied in
    let two = both (links t h == most_names h) (list_all (λ e. is_some (node_at t e.1)) (entries m)) tests in
    let each = each_all (λ e. is_some (node_at t e.1)) (entries m) two.1 in
    record {
      one = same_number (links t h) (most_names h) two.0;
      leads = λ name x to. some_is (node_at t x) (entry_each (λ e. is_some (node_at t e.1) ≡ true) m name x each to);
    }

dir_tied : (t : Tree) (h : List ℕ) (n : Node) → ((m : Names) → names_in n.content ≡ Some m → IsDirTied t h m)
    → is_tied t h n ≡ true
dir_tied t h n tied =
    elim (names_in n.content) as (λ (o : Option Names). ((m : Names) → o ≡ Some m → IsDirTied t h m) → elim o [
      | None ↦ true
      | Some names ↦ (links t h == most_names h) && list_all (λ e. is_some (node_at t e.1)) (entries names)
    ] ≡ true) [
      | None ↦ (λ f. refl)
      | Some m ↦ (λ f.
          let d = f m refl in
          and_is (links t h == most_names h) (list_all (λ e. is_some (node_at t e.1)) (entries m))
          (number_is (links t h) (most_names h) d.one)
          (all_each (λ e. is_some (node_at t e.1)) (entries m) (each_entry (λ e. is_some (node_at t e.1) ≡ true) m
          (λ name x to. is_some_of (node_at t x) (d.leads name x to)))))
    ] tied

-- THE TREE

chosen : (b : Bool) (t u : Tree) → (if b then Some t else None) ≡ Some u → (b ≡ true) × (u ≡ t)
chosen true t u h = (refl, cc)
chosen false t u h = absurd (let bad : None ≡ Some u = h in cc)

-- a tree that is held is that of the live records, which are sound
pub held_sound : (limits : ServerLimits) (live : Records) (t : Tree) → tree_in limits live ≡ Some t
    → (t ≡ tree_of live) × IsSound limits live
held_sound limits live t h =
    let T = tree_of live in
    let a = list_all (has_place live) live in
    let b = is_dir live root_id in
    let c = list_all (λ e. is_tied T e.0 e.1) (entries T.nodes) in
    let d = is_within limits T in
    let all = chosen (a && b && c && d) T t h in
    let three = both (a && b && c) d all.0 in
    let two = both (a && b) c three.0 in
    let one = both a b two.0 in
    let within = both (nat_le (len T.nodes) (max limits.nodes 1)) (nat_le (used T) limits.bytes) three.1 in
    let each = each_all (λ e. is_tied T e.0 e.1) (entries T.nodes) two.1 in
    let at : (q : List ℕ) (n : Node) → node_at T q ≡ Some n → is_tied T q n ≡ true =
    λ q n is. entry_each (λ e. is_tied T e.0 e.1 ≡ true) T.nodes q n each is in (
      all.1,
      record {
        placed = are_placed live (each_all (has_place live) live one.0);
        tied = record {
          root = dir_there live root_id refl one.1;
          one = λ q n m is has. (tied_dir T q n m (at q n is) has).one;
          leads = λ q n m name x is has to. (tied_dir T q n m (at q n is) has).leads name x to;
        };
        few_nodes = at_most (len T.nodes) (max limits.nodes 1) within.0;
        few_bytes = at_most (used T) limits.bytes within.1;
      },
    )

-- sound records of which no two have one key are held
pub sound_held : (limits : ServerLimits) (live : Records) → AreOnce live → IsSound limits live
    → tree_in limits live ≡ Some (tree_of live)
sound_held limits live once s =
    let T = tree_of live in
    let a = list_all (has_place live) live in
    let b = is_dir live root_id in
    let c = list_all (λ e. is_tied T e.0 e.1) (entries T.nodes) in
    let d = is_within limits T in
    let placed : a ≡ true = all_each (has_place live) live (each_placed live s.placed once) in
    let root : b ≡ true = there_dir live root_id refl s.tied.root in
    let tied : c ≡ true = all_each (λ e. is_tied T e.0 e.1) (entries T.nodes)
    (each_entry (λ e. is_tied T e.0 e.1 ≡ true) T.nodes (λ q n is. dir_tied T q n (λ m has. record {
      one = s.tied.one q n m is has;
      leads = λ name x to. s.tied.leads q n m name x is has to;
    }))) in
    let within : d ≡ true = and_is (nat_le (len T.nodes) (max limits.nodes 1)) (nat_le (used T) limits.bytes)
    (at_most_is (len T.nodes) (max limits.nodes 1) s.few_nodes) (at_most_is (used T) limits.bytes s.few_bytes) in
    ap (λ x. if x then Some T else None) (and_is (a && b && c) d (and_is (a && b) c (and_is a b placed root) tied) within)
