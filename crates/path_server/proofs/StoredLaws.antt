-- The store, where a node is put in: in the place of one that is there, or a new one.
use Rattle.std.proofs.Common.{inl, inr, ◌≡◌, ◌↔◌, ℕ, ◌≤◌, List, Some, IsSome, IsSomeAnd, is_some, sym, ap, ◌∙◌, subst, arith}
use Rattle.std.specs.Option.{option_map}
use Rattle.std.specs.FinMap.{get, insert}
use Rattle.nfs2_types.specs.declared.fattr.Kind.TheVariants.{Dir}
use Rattle.server_trait.specs.Tree.{ByBytes}
use Rattle.server_trait.proofs.TreeLaws.{some_same, some_and, is_some_and, bytes_or_not, get-insert_same, get-insert_other}
use Rattle.path_store.specs.Stored.{Stored}
use Rattle.path_server.specs.Sound.{IsStored, AddsNode}
use Rattle.path_server.specs.declared.node.PathNode.{PathNode}
use Rattle.path_server.proofs.NamedLaws.{IsDirNode, dir_same}

module _ (nodes : ByBytes PathNode) (h : List ℕ) (x : PathNode) where
  abbrev after : ByBytes PathNode
  after = insert nodes h x

  -- a claim of each node that is kept after
  by_place : (P : PathNode → Type 0) → P x → ((q : List ℕ) (y : PathNode) → get nodes q ≡ Some y → P y) →
      (q : List ℕ) (y : PathNode) → get after q ≡ Some y → P y
  by_place P here others q y at = elim (bytes_or_not q h) as (λ _. P y) [
    | inl same ↦ subst P (some_same (get-insert_same nodes h x) (ap (get after) (sym same) ∙ at)) here
    | inr ne ↦ others q y (sym (get-insert_other nodes h x q ne) ∙ at)
  ]

  -- in the place of a node of one kind, to which as many names lead
  pub stored_put : (store : Stored) (p : PathNode) → get nodes h ≡ Some p → x.kind ≡ p.kind → x.links ≡ p.links →
      IsStored nodes store → IsStored after store
  stored_put store p is kind links stored = record {
    whole = stored.whole;
    dirs = λ q. (
      λ there. dir_same (get nodes q) (get after q) (sym (kinds q)) ((stored.dirs q).0 there),
      λ there. (stored.dirs q).1 (dir_same (get after q) (get nodes q) (kinds q) there),
    );
    once = by_place (λ y. y.kind ≡ Dir → y.links ≤ 1) (λ is_dir. let few = stored.once h p is (sym kind ∙ is_dir) in
        omega (arith, few, links)) stored.once;
  }
    where
      kinds : (q : List ℕ) → option_map (λ (p : PathNode). p.kind) (get after q) ≡ option_map (λ (p : PathNode). p.kind)
          (get nodes q)
      kinds q =
          elim (bytes_or_not q h) as (λ _. option_map (λ (p : PathNode). p.kind) (get after q) ≡ option_map (λ (p :
          PathNode). p.kind) (get nodes q)) [
            | inl same ↦ ap (option_map (λ (p : PathNode). p.kind)) (ap (get after) same ∙ get-insert_same nodes h x)
                ∙ ap Some kind ∙ sym (ap (option_map (λ (p : PathNode). p.kind)) (ap (get nodes) same ∙ is))
            | inr ne ↦ ap (option_map (λ (p : PathNode). p.kind)) (get-insert_other nodes h x q ne)
          ]

  -- a new one, to which a new name leads
  pub stored_new : (store store' : Stored) (dir name : List ℕ) → x.links ≤ 1 → AddsNode x.kind store dir name h store' →
      IsStored nodes store → IsStored after store'
  stored_new store store' dir name few adds stored = record {
    whole = adds.whole;
    dirs = λ q. elim (bytes_or_not q h) as (λ _. IsSome (get store'.dirs q) ↔ IsSomeAnd (get after q) IsDirNode) [
      | inl same ↦ subst (λ q. IsSome (get store'.dirs q) ↔ IsSomeAnd (get after q) IsDirNode) (sym same) (
        λ there. is_some_and IsDirNode (get-insert_same nodes h x) (adds.here.0 there),
        λ there. adds.here.1 (let y = some_and (get after h) IsDirNode there in
            ap (λ (p : PathNode). p.kind) (some_same (get-insert_same nodes h x) y.1) ∙ y.2),
      )
      | inr ne ↦ (
        λ there. subst (λ o. IsSomeAnd o IsDirNode) (sym (get-insert_other nodes h x q ne))
            ((stored.dirs q).0 (ap is_some
            (sym (adds.others q ne)) ∙ there)),
        λ there. ap is_some (adds.others q ne) ∙ (stored.dirs q).1 (subst (λ o. IsSomeAnd o IsDirNode) (get-insert_other
            nodes h x q ne) there),
      )
    ];
    once = by_place (λ y. y.kind ≡ Dir → y.links ≤ 1) (λ _. few) stored.once;
  }
