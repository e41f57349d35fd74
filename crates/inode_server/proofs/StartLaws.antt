-- A server begins over a medium, and gives it back.
use Rattle.std.proofs.Common.{◌≡◌, ℕ, ◌+◌, ◌*◌, ◌/◌, ◌^◌, ◌<◌, ◌≤◌, Bool, true, false, List, Some, None, refl, sym, ap, ◌∙◌, subst}
use Rattle.std.specs.Prelude.{Result, OnOk, if◌then◌else◌}
use Rattle.pointer_tree.specs.Tree.{Content}
use Rattle.pointer_tree.specs.declared.node.Area.{Area}
use Rattle.server_trait.specs.Tree.{Tree}
use Rattle.server_trait.specs.declared.server.ServerLimits.{ServerLimits}
use Rattle.server_trait.specs.declared.server.SrvErr.{SrvErr}
use Rattle.server_trait.proofs.TreeLaws.{some_same}
use Rattle.inode_store.specs.Held.{held}
use Rattle.inode_store.specs.Layout.{HoldsTree}
use Rattle.inode_mount.proofs.SoundLaws.{holds-tree}
use Rattle.inode_tree.specs.Kept.{tables_of}
use Rattle.inode_tree.specs.Planned.{blocks_for}
use Rattle.inode_tree.specs.Sound.{IsPlanned}
use Rattle.inode_tree.specs.Whole.{tree_in}
use Rattle.inode_tree.specs.declared.tree.InodeTree.{InodeTree}
use Rattle.inode_server.specs.Answers.{stands}
use Rattle.inode_server.specs.Ready.{IsReady}
use Rattle.inode_server.specs.Served.{inodes_for, area_for, Holds, tree_held}
use Rattle.inode_server.specs.State.{server_of}
use Rattle.inode_server.proofs.LifeLaws.{tree_mounted}
use Rattle.inode_server.proofs.ReadyLaws.{ready}

module _ (limits : ServerLimits) (area : Area) (n size : ℕ) (plan : IsPlanned limits area n size) where
  -- the blocks are those that the limits ask for
  area-planned : area ≡ area_for limits
  area-planned =
      ap (λ b. let a : Area = record { first = b; end = area.end } in a) (plan.first ∙ ap (λ n. 1 + n) plan.inodes)
      ∙ ap (λ e. let a : Area = record { first = 1 + inodes_for limits; end = e } in a)
      (plan.blocks ∙ ap (λ n. 64 + 8 * n + limits.bytes / 256) plan.inodes)

  pub holds-here : (c : Content) → Holds limits c → HoldsTree limits area n c
  holds-here c holds = subst (λ a. HoldsTree limits a n c) (sym area-planned)
      (subst (λ n. HoldsTree limits (area_for limits) n c) (sym plan.inodes) holds)

  pub holds-there : (c : Content) → HoldsTree limits area n c → Holds limits c
  holds-there c holds = subst (λ n. HoldsTree limits (area_for limits) n c) plan.inodes
      (subst (λ a. HoldsTree limits a n c) area-planned holds)

  pub held-there : (handle : ℕ → List ℕ) (c : Content) → held handle area n c ≡ tree_held handle limits c
  held-there handle c = ap (λ a. held handle a n c) area-planned
      ∙ ap (λ n. held handle (area_for limits) n c) plan.inodes

module _ {M : Type 0} (content : M → ℕ → List ℕ) (size faults : M → ℕ) (up : Bool) (s : InodeTree M)
    (kept : ∥ IsReady content size up s ∥₁) where
  is : IsReady content size up s
  is = ready content size faults up s kept

  -- a medium that holds a tree is mounted
  pub can-mount : Holds s.limits (content s.store.medium) →
      HoldsTree s.limits s.store.area s.store.inodes (content s.store.medium)
  can-mount holds = holds-here s.limits s.store.area s.store.inodes (size s.store.medium) is.planned
      (content s.store.medium) holds

  pub mounted : (n : InodeTree M) (r : Result Unit SrvErr) → n.limits ≡ s.limits → n.store.area ≡ s.store.area →
      n.store.inodes ≡ s.store.inodes → size n.store.medium ≡ size s.store.medium →
      content n.store.medium ≡ content s.store.medium → (up' : Bool) → up' ≡ stands r →
      OnOk r ((server_of content faults up' n).tree ≡
      Some (tree_held (tables_of n.tables).handle s.limits (content s.store.medium)))
  mounted n r limits area inodes on_medium blocks up' stands_as =
      subst (λ t. OnOk r ((server_of content faults up' n).tree ≡ Some t))
      (held-there s.limits s.store.area s.store.inodes (size s.store.medium) is.planned (tables_of n.tables).handle
      (content s.store.medium))
      (tree_mounted content size s n is.planned limits area inodes on_medium faults r blocks up' stands_as)

  -- what the limits ask for is there
  pub has-room : blocks_for s.limits ≤ size s.store.medium
  has-room =
      let blocks = is.planned.blocks ∙ ap (λ n. 64 + 8 * n + s.limits.bytes / 256) is.planned.inodes in
      subst (λ end. end ≤ size s.store.medium) blocks is.planned.on_medium

  pub is-small : size s.store.medium < 2 ^ 32
  is-small = is.planned.small

  pub is-limited : s.limits.bytes ≤ 1073741824
  is-limited = is.planned.limited

  -- the medium of a server with a tree holds it
  pub holds : (t : Tree) → (server_of content faults up s).tree ≡ Some t →
      Holds s.limits (content s.store.medium) ×
      (t ≡ tree_held (tables_of s.tables).handle s.limits (content s.store.medium))
  holds t shows = by up refl shows
    where
      by : (b : Bool) → up ≡ b → (if b then Some (tree_in content s) else None) ≡ Some t →
          Holds s.limits (content s.store.medium) ×
          (t ≡ tree_held (tables_of s.tables).handle s.limits (content s.store.medium))
      by true at shows = (
        holds-there s.limits s.store.area s.store.inodes (size s.store.medium) is.planned (content s.store.medium)
            (holds-tree s.limits s.store.area s.store.inodes (size s.store.medium) (content s.store.medium) s.store.map
            (tables_of s.tables) (is.whole at) (is.name at)),
        sym (some_same refl shows)
            ∙ held-there s.limits s.store.area s.store.inodes (size s.store.medium) is.planned
            (tables_of s.tables).handle (content s.store.medium),
      )
      by false at bad = absurd (let no : None ≡ Some t = bad in cc)
