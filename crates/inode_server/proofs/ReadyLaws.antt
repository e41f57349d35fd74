-- What a server keeps true, before and after its calls.
use Rattle.std.proofs.Common.{◌≡◌, ℕ, ◌+◌, ◌*◌, ◌/◌, ◌^◌, ◌<◌, ◌≤◌, max, Bool, true, false, List, Some, None, Result, refl, sym, ap, ◌∙◌, subst}
use Rattle.std.proofs.Props.{props}
use Rattle.std.proofs.Math.Logic.{∥∥₁_elim}
use Rattle.server_trait.specs.Tree.{Tree, Server}
use Rattle.server_trait.specs.Step.{HasTree}
use Rattle.pointer_tree.specs.declared.node.Area.{Area}
use Rattle.server_trait.specs.declared.server.ServerLimits.{ServerLimits}
use Rattle.server_trait.specs.declared.server.SrvErr.{SrvErr}
use Rattle.server_trait.proofs.TreeLaws.{some_same}
use Rattle.inode_store.specs.Layout.{superblock}
use Rattle.inode_tree.specs.Kept.{tables_of}
use Rattle.inode_tree.specs.Whole.{IsWhole}
use Rattle.inode_tree.specs.declared.tree.InodeTree.{InodeTree}
use Rattle.inode_server.specs.Answers.{stands}
use Rattle.inode_server.specs.Ready.{IsReady}
use Rattle.inode_server.specs.State.{Does, server_of}
use Rattle.inode_server.proofs.OnceLaws.{sound-prop}

module _ {M : Type 0} (content : M → ℕ → List ℕ) (size faults : M → ℕ) where
  ready-prop : (up : Bool) (s : InodeTree M) → IsProp (IsReady content size up s)
  ready-prop up s =
      let sound : IsProp (IsWhole content size s) = sound-prop s.limits s.store.area s.store.inodes
      (content s.store.medium) (size s.store.medium) s.store.map (tables_of s.tables) in
      hlevel (sound, props)

  pub ready : (up : Bool) (s : InodeTree M) → ∥ IsReady content size up s ∥₁ → IsReady content size up s
  ready up s r = ∥∥₁_elim r (ready-prop up s) (λ x. x)

  -- a server with a tree is up
  pub is_up : (up : Bool) (s : InodeTree M) → HasTree (server_of content faults up s) → up ≡ true
  is_up true s has = refl
  is_up false s has = absurd (let bad : false ≡ true = has in cc)

  pub whole_now : (up : Bool) (s : InodeTree M) → ∥ IsReady content size up s ∥₁ →
      HasTree (server_of content faults up s) → IsWhole content size s
  whole_now up s r has = (ready up s r).whole (is_up up s has)

  pub named_now : (up : Bool) (s : InodeTree M) → ∥ IsReady content size up s ∥₁ →
      HasTree (server_of content faults up s) → content s.store.medium 0 ≡ superblock s.limits
  named_now up s r has = (ready up s r).name (is_up up s has)

  -- the root is inode 0
  pub root_is : (up : Bool) (s : InodeTree M) (t : Tree) → (server_of content faults up s).tree ≡ Some t →
      (tables_of s.tables).handle 0 ≡ t.root
  root_is true s t is = ap (λ (t : Tree). t.root) (some_same refl is)
  root_is false s t bad = absurd (let no : None ≡ Some t = bad in cc)

  module _ {T : Type 0} (call : Server → Result T SrvErr → Server → Type 0) (up : Bool) (old : InodeTree M)
      (has : HasTree (server_of content faults up old)) (r : Result T SrvErr) (new : InodeTree M)
      (does : Does content size faults call old r new) (up' : Bool) (is : up' ≡ stands r) where
    -- what the server answers
    pub answers : call (server_of content faults up old) r (server_of content faults up' new)
    answers = subst (λ u. call (server_of content faults u old) r (server_of content faults up' new))
        (sym (is_up up old has))
        (subst (λ u. call (server_of content faults true old) r (server_of content faults u new)) (sym is) does.answers)

    -- what it keeps
    pub again : ∥ IsReady content size up old ∥₁ → ∥ IsReady content size up' new ∥₁
    again kept =
        let was = ready up old kept in
        let stays = does.stays in
        let plan = was.planned in
        ∣ record {
          planned = record {
            inodes = stays.inodes ∙ plan.inodes ∙ ap (λ (l : ServerLimits). max 1 l.nodes) (sym stays.limits);
            first = ap (λ (a : Area). a.first) stays.area ∙ plan.first ∙ ap (λ n. 1 + n) (sym stays.inodes);
            blocks = ap (λ (a : Area). a.end) stays.area ∙ plan.blocks
                ∙ ap (λ n. 64 + 8 * n + old.limits.bytes / 256) (sym stays.inodes)
                ∙ ap (λ (l : ServerLimits). 64 + 8 * new.store.inodes + l.bytes / 256) (sym stays.limits);
            on_medium = subst (λ n. new.store.area.end ≤ n) (sym stays.on_medium)
                (subst (λ (a : Area). a.end ≤ size old.store.medium) (sym stays.area) plan.on_medium);
            small = subst (λ n. n < 2 ^ 32) (sym stays.on_medium) plan.small;
            limited = subst (λ (l : ServerLimits). l.bytes ≤ 1073741824) (sym stays.limits) plan.limited;
          };
          whole = λ u. stays.whole (sym is ∙ u);
          name = λ u. stays.name (sym is ∙ u) ∙ was.name (is_up up old has) ∙ ap superblock (sym stays.limits);
        } ∣₁
