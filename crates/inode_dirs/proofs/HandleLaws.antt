-- A free inode may get another handle: the tree stays.
use Rattle.std.proofs.Common.{◌≡◌, ℕ, List, Option, Some, None, IsSome, refl, sym, ap, ◌∙◌, subst}
use Rattle.std.specs.Option.{option_map}
use Rattle.server_trait.specs.Tree.{Node, NamesOf, node_at}
use Rattle.server_trait.proofs.TreeLaws.{some_none, same_answers}
use Rattle.server_trait.proofs.OrderLaws.{same_trees}
use Rattle.inode_dirs.specs.Slots.{Slots, IsIndexOf, names_of}
use Rattle.inode_dirs.specs.Table.{Body, FileBytes, LinkText, DirSlots, Entry, Table, content_of, node_of, tree_of, AreApart}
use Rattle.inode_dirs.specs.declared.index.Place.{Place}
use Rattle.inode_dirs.proofs.SlotLaws.{names-indexed}
use Rattle.inode_dirs.proofs.TableLaws.{node-used, node-from}

-- each directory's slots have an index, and lead to used inodes
pub record IsIndexed (t : Table) (f : ℕ → List ℕ → Option Place) : Type 0 where
  pub index : (i : ℕ) (e : Entry) (ss : Slots) → t i ≡ Some e → e.body ≡ DirSlots ss → IsIndexOf (f i) ss
  pub led : (i : ℕ) (e : Entry) (ss : Slots) (q : List ℕ) (p : Place) → t i ≡ Some e → e.body ≡ DirSlots ss →
      f i q ≡ Some p → IsSome (t p.inode)

module _ (handle handle' : ℕ → List ℕ) (n : ℕ) (t : Table) (apart : AreApart handle n t) (apart' : AreApart handle' n t)
    (f : ℕ → List ℕ → Option Place) (indexed : IsIndexed t f) (same : (i : ℕ) → IsSome (t i) → handle' i ≡ handle i)
  where
    names-same : (i : ℕ) (e : Entry) (ss : Slots) → t i ≡ Some e → e.body ≡ DirSlots ss → names_of handle' ss ≡ names_of
        handle ss
    names-same i e ss is has = same_answers (names_of handle' ss) (names_of handle ss) (λ q.
        names-indexed handle' (f i) ss (indexed.index i e ss is has) q ∙ by q (f i q) refl
        ∙ sym (names-indexed handle (f i) ss (indexed.index i e ss is has) q))
      where
        by : (q : List ℕ) (o : Option Place) → f i q ≡ o → option_map (λ (p : Place). handle' p.inode) o ≡ option_map
            (λ (p : Place). handle p.inode) o
        by q None at = refl
        by q (Some p) at = ap Some (same p.inode (indexed.led i e ss q p is has at))

    content-same : (i : ℕ) (e : Entry) (b : Body) → t i ≡ Some e → e.body ≡ b → content_of handle' b ≡ content_of handle b
    content-same i e (FileBytes b) is has = refl
    content-same i e (LinkText x) is has = refl
    content-same i e (DirSlots ss) is has = ap NamesOf (names-same i e ss is has)

    used_some : (j : ℕ) (e : Entry) → t j ≡ Some e → IsSome (t j)
    used_some j e is = subst (λ o. IsSome o) (sym is) refl

    node-kept : (i : ℕ) (e : Entry) → t i ≡ Some e → node_at (tree_of handle' n t) (handle i) ≡ Some (node_of handle i e)
    node-kept i e is = ap (node_at (tree_of handle' n t)) (sym (same i (used_some i e is))) ∙ node-used handle' n t
        apart' i e is
        ∙ ap (λ c. let x : Node = record { number = i; mode = e.mode; uid = e.uid; gid = e.gid; content = c } in Some x)
        (content-same i e e.body is refl)

    pub tree-handles : handle' 0 ≡ handle 0 → tree_of handle' n t ≡ tree_of handle n t
    tree-handles root = same_trees (tree_of handle' n t) (tree_of handle n t) root
        (λ q. by q (node_at (tree_of handle n t) q) refl (node_at (tree_of handle' n t) q) refl)
      where
        by : (q : List ℕ) (o : Option Node) → node_at (tree_of handle n t) q ≡ o → (r : Option Node) →
            node_at (tree_of handle' n t) q ≡ r →
            node_at (tree_of handle' n t) q ≡ node_at (tree_of handle n t) q
        by q None a None b = b ∙ sym a
        by q None a (Some x) b =
            let r = node-from handle' n t apart' q x b in
            let here = node-used handle n t apart r.0 r.1 r.2 in
            absurd (some_none here (ap (node_at (tree_of handle n t)) (sym (same r.0 (used_some r.0 r.1 r.2)) ∙ r.3) ∙ a))
        by q (Some y) a r b =
            let o = node-from handle n t apart q y a in
            ap (node_at (tree_of handle' n t)) (sym o.3) ∙ node-kept o.0 o.1 o.2 ∙ ap Some o.4 ∙ sym a
