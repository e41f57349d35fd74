-- After another start the tree is the same under other handles.
use Rattle.std.proofs.Common.{◌≡◌, ◌≢◌, ℕ, ◌≤◌, ◌<◌, ◌^◌, Bool, true, List, ◌++◌, take, replicate, Option, Some, None, is_some, IfSome, IsSome, IsSomeAnd, Result, Ok, refl, sym, ap, ◌∙◌, subst, take_at}
use Rattle.std.specs.Prelude.{max}
use Rattle.std.specs.Option.{option_map}
use Rattle.std.specs.Int.{w64, to_be_bytes}
use Rattle.std.specs.FinMap.{get, len}
use Rattle.server_trait.specs.Tree.{Tree, Node, Content, BytesOf, TextOf, NamesOf, Server, node_at, used}
use Rattle.server_trait.specs.Step.{HasTree, OnlySoft}
use Rattle.server_trait.specs.Calls.{IsMovedContent, IsMovedNode, IsMovedTree, Rebooted, Reboot}
use Rattle.server_trait.specs.declared.server.SrvErr.{SrvErr}
use Rattle.server_trait.specs.declared.server.ServerLimits.{ServerLimits}
use Rattle.server_trait.proofs.TreeLaws.{is_some_and}
use Rattle.server_trait.proofs.SoftLaws.{some_of}
use Rattle.path_server.specs.Kept.{Kept, the_tree, tree_of}
use Rattle.path_store.specs.Tables.{place_of}
use Rattle.path_server.specs.Serials.{serial_bytes}
use Rattle.path_server.specs.Shown.{shown_at, shown_content, shown_node, shown_tree, shown_server, NoneStays}
use Rattle.path_server.specs.Sound.{IsSound}
use Rattle.path_server.proofs.CallLaws.{held_tree}
use Rattle.path_server.proofs.NodeLaws.{kept-node_at}
use Rattle.path_server.proofs.ShownCalls.{mapped_some}
use Rattle.path_server.proofs.ShownLaws.{get-shown_names, node_at-shown, node_at-any, len-shown, used-shown}
use Rattle.path_server.proofs.StartLaws.{shown_twice, shown_inside, shown_before}

module _ (a b : ℕ) where
  -- the handle after the second start, from the one after the first
  abbrev moves : List ℕ → List ℕ
  moves h = shown_at b (shown_at a h)

  back_again : (h : List ℕ) → shown_at b h ≡ moves (shown_at a h)
  back_again h = ap (shown_at b) (sym (shown_twice a h))

  moved_handle : (o : Option (List ℕ)) → option_map (shown_at b) o ≡ option_map moves (option_map (shown_at a) o)
  moved_handle None = refl
  moved_handle (Some h) = ap Some (back_again h)

  moved_content : (c : Content) → IsMovedContent moves (shown_content (shown_at a) c) (shown_content (shown_at b) c)
  moved_content (BytesOf b) = refl
  moved_content (TextOf x) = refl
  moved_content (NamesOf m) = λ name. get-shown_names (shown_at b) (shown_twice b) m name ∙ moved_handle (get m name)
      ∙ ap (option_map moves) (sym (get-shown_names (shown_at a) (shown_twice a) m name))

  moved_node : (n : Node) → IsMovedNode moves (shown_node (shown_at a) n) (shown_node (shown_at b) n)
  moved_node n = record {
    number = refl;
    mode = refl;
    uid = refl;
    gid = refl;
    content = moved_content n.content;
  }

  module _ (t : Tree) where
    there : (q : List ℕ) (n : Node) → node_at (shown_tree (shown_at a) t) q ≡ Some n →
        IsSomeAnd (node_at (shown_tree (shown_at b) t) (moves q)) (IsMovedNode moves n)
    there q n is =
        let m = mapped_some (shown_node (shown_at a)) (node_at t (shown_at a q)) n
        (sym (node_at-any (shown_at a) (shown_twice a) t q) ∙ is) in
        is_some_and (IsMovedNode moves n) (node_at-shown (shown_at b) (shown_twice b) t (shown_at a q)
        ∙ ap (option_map (shown_node (shown_at b))) m.1)
        (subst (λ x. IsMovedNode moves x (shown_node (shown_at b) m.0)) m.2 (moved_node m.0))

    some_mapped : {A B C : Type 0} (f : A → B) (g : A → C) (o : Option A) → IsSome (option_map f o) →
        IsSome (option_map g o)
    some_mapped f g None s = s
    some_mapped f g (Some x) s = refl

    back : (q : List ℕ) → IsSome (node_at (shown_tree (shown_at b) t) q) →
        (p : List ℕ) × (q ≡ moves p) × IsSome (node_at (shown_tree (shown_at a) t) p)
    back q some = (
      shown_at a (shown_at b q),
      sym (shown_twice b q) ∙ back_again (shown_at b q),
      subst IsSome (sym (node_at-shown (shown_at a) (shown_twice a) t (shown_at b q)))
          (some_mapped (shown_node (shown_at b)) (shown_node (shown_at a)) (node_at t (shown_at b q))
          (subst IsSome (node_at-any (shown_at b) (shown_twice b) t q) some)),
    )

    moved_tree : IsMovedTree moves (shown_tree (shown_at a) t) (shown_tree (shown_at b) t)
    moved_tree = record {
      root = back_again t.root;
      there = there;
      back = back;
      apart = λ p q _ _ e. sym (shown_twice a p) ∙ ap (shown_at a)
          (sym (shown_twice b (shown_at a p)) ∙ ap (shown_at b) e
          ∙ shown_twice b (shown_at a q)) ∙ shown_twice a q;
    }

  pub rebooted : (s : Server) (r : Unit {0}) → Reboot (shown_server (shown_at a) s) (Ok r) (shown_server (shown_at b) s)
  rebooted s r = record {
    tree = λ u is. let t = mapped_some (shown_tree (shown_at a)) s.tree u is in
        subst (λ u. Rebooted u (option_map (shown_tree (shown_at b)) s.tree) × OnlySoft (λ _. ⊥)) t.2 (
          record {
            tree = shown_tree (shown_at b) t.0;
            new = moves;
            moved = moved_tree t.0;
            has_tree = ap (option_map (shown_tree (shown_at b))) t.1;
          },
          λ e none. absurd none,
        );
    limits = refl;
    faults = refl;
  }

-- a server that had a tree has one after it has started anew
pub still_there : (old new : Server) (r : Result (Unit {0}) SrvErr) (x : Unit {0}) → HasTree old → Reboot old r new →
    r ≡ Ok x → HasTree new
still_there old new r x there c is =
    let t = some_of old.tree there in
    let again : Reboot old (Ok x) new = subst (λ r. Reboot old r new) is c in
    ap is_some ((again.tree t.0 t.1).0.has_tree)

-- OLD HANDLES

-- each handle inside begins with zeros
abbrev BeginInside : Tree → Type 0
BeginInside t = (h : List ℕ) → IsSome (node_at t h) → (r : List ℕ) × (h ≡ replicate 8 0 ++ r)

serial_inside : (n place : ℕ) → (r : List ℕ) × (serial_bytes n place ≡ replicate 8 0 ++ r)
unfolding serial_bytes
serial_inside n place = (to_be_bytes w64 n ++ (to_be_bytes w64 place ++ replicate 8 0), refl)

begin_inside : (limits : ServerLimits) (next bytes : ℕ) (k : Kept) → IsSound limits next bytes k →
    BeginInside (the_tree k)
begin_inside limits next bytes k sound h some =
    let n = some_of (node_at (the_tree k) h) some in
    let p = kept-node_at k h n.0 n.1 in
    let r = serial_inside p.0.number (place_of h) in
    (r.0, (sound.serials h p.0 p.1).0 ∙ r.1)

none_stays : (a b : ℕ) → a < 2 ^ 64 → b < 2 ^ 64 → a ≢ b → (t : Tree) → BeginInside t → (h : List ℕ) →
    IsSome (node_at (shown_tree (shown_at a) t) h) → node_at (shown_tree (shown_at b) t) h ≡ None
none_stays a b fits fits' apart t begins h some =
    let n = some_of (node_at (shown_tree (shown_at a) t) h) some in
    let m = mapped_some (shown_node (shown_at a)) (node_at t (shown_at a h)) n.0
    (sym (node_at-any (shown_at a) (shown_twice a) t h) ∙ n.1) in
    let r = begins (shown_at a h) (ap is_some m.1) in
    let old : h ≡ to_be_bytes w64 a ++ r.0 = sym (shown_twice a h) ∙ shown_inside a (shown_at a h) r.0 r.1 in
    node_at-any (shown_at b) (shown_twice b) t h ∙ none_at (shown_at b h) (λ x e.
    shown_before a b fits fits' apart r.0 (ap (λ z. take 8 (shown_at b z)) (sym old) ∙ ap (take 8) e
    ∙ take_at (replicate 8 0) x 8 refl))
  where
    none_at : (q : List ℕ) → ((x : List ℕ) → q ≡ replicate 8 0 ++ x → ⊥) →
        option_map (shown_node (shown_at b)) (node_at t q) ≡ None
    none_at q out = elim (node_at t q) as (λ o. node_at t q ≡ o → option_map (shown_node (shown_at b)) o ≡ None) [
      | None ↦ λ _. refl
      | Some n ↦ λ is. absurd (let x = begins q (ap is_some is) in out x.0 x.1)
    ] refl

-- no handle from before leads to a node
pub old_handles_stale : (a b : ℕ) → a < 2 ^ 64 → b < 2 ^ 64 → a ≢ b → (held : Bool) (limits : ServerLimits)
    (next bytes : ℕ) (k : Kept) → (held ≡ true → IsSound limits next bytes k) →
    NoneStays (option_map (shown_tree (shown_at a)) (tree_of held k))
    (option_map (shown_tree (shown_at b)) (tree_of held k))
old_handles_stale a b fits fits' apart held limits next bytes k sound t u at_t at_u h some =
    let x = mapped_some (shown_tree (shown_at a)) (tree_of held k) t at_t in
    let y = mapped_some (shown_tree (shown_at b)) (tree_of held k) u at_u in
    let begins : BeginInside x.0 = held_tree held (the_tree k) BeginInside
    (λ there. begin_inside limits next bytes k (sound there)) x.0 x.1 in
    let one : y.0 ≡ x.0 = (let e : Some y.0 ≡ Some x.0 = sym y.1 ∙ x.1 in cc) in
    ap (λ v. node_at v h) (sym (ap (shown_tree (shown_at b)) (sym one) ∙ y.2))
    ∙ none_stays a b fits fits' apart x.0 begins h (subst (λ v. IsSome (node_at v h)) (sym x.2) some)

-- LIMITS

pub within_seen : (shown : List ℕ → List ℕ) → ((h : List ℕ) → shown (shown h) ≡ h) → (limits : ServerLimits)
    (o : Option Tree) → IfSome o (λ (t : Tree). (len t.nodes ≤ max 1 limits.nodes) × (used t ≤ limits.bytes)) →
    IfSome (option_map (shown_tree shown) o)
    (λ (t : Tree). (len t.nodes ≤ max 1 limits.nodes) × (used t ≤ limits.bytes))
within_seen shown twice limits None w = w
within_seen shown twice limits (Some t) w = (
  subst (λ n. n ≤ max 1 limits.nodes) (sym (len-shown shown twice t)) w.0,
  subst (λ n. n ≤ limits.bytes) (sym (used-shown shown twice t)) w.1,
)
