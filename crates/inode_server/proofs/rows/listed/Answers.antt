use Rattle.std.proofs.Common.{◌<◌, List, ℕ, sym, ap, ◌∙◌, subst}
use Rattle.server_trait.specs.declared.server.Listed.{Listed}
use Rattle.inode_tree.specs.Kept.{tables_of}
use Rattle.inode_server.specs.Rows.{row_of}
use Rattle.inode_server.proofs.rows.listed.Goals as goal

pub handle-handle-requires : goal.handle-handle-requires
handle-handle-requires c =
    let is = c.in_ok-slot.ensures in
    subst (λ (x : List ℕ × ℕ). x.1 < (tables_of c.args.tables.now).counts.inodes) is c.requires.led

pub returns : goal.returns
returns c =
    let is = c.in_ok-slot.ensures in
    let h : List ℕ → List ℕ → Listed = λ n h. record { name = n; handle = h } in
    ap (λ x. h x c.handle-handle.result) c.new.ensures ∙ ap (λ x. h c.in_ok-slot.slot.name.items x) c.handle-handle.ensures
    ∙ ap (row_of (tables_of c.args.tables.now).handle) (sym is)
