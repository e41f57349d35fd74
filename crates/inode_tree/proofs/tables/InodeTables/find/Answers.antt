use Rattle.std.proofs.Common.{arith, sym, ap, ◌∙◌, subst, IsSome, not, true, false, None, ◌≡◌}
use Rattle.std.proofs.lemmas.Slice.Eq.{bytes_eq-Decides}
use Rattle.std.specs.Prelude.{slice_index, slice_get, option_and_then}
use Rattle.nfs2_types.specs.declared.fattr.Kind.{Kind}
use Rattle.inode_tree.specs.Handles.{handle_bytes}
use Rattle.inode_tree.proofs.RowLaws.{number_in, used_within}
use Rattle.inode_tree.proofs.tables.InodeTables.find.Goals as goal

pub returns-then-inode-blocks : goal.returns-then-inode-blocks
returns-then-inode-blocks c i some is =
    let s = c.args.self.now in
    let l = used_within s.kinds.items i some in
    let kinds = s.same_kinds in
    let free = s.same_free in
    let blocks = c.blocks-2.ensures in
    let same = number_in i s.epoch (slice_index s.salts.items i) c.from_be_bytes-inode.result c.args.handle.now
    (omega (arith, l, kinds, free, blocks)) is c.from_be_bytes-inode.ensures in
    omega (arith, same, l, kinds, free, blocks)

pub returns-in_default : goal.returns-in_default
returns-in_default c i some is =
    let s = c.args.self.now in
    let l = used_within s.kinds.items i some in
    let kinds = s.same_kinds in
    let free = s.same_free in
    let blocks = c.blocks-2.ensures in
    let same = number_in i s.epoch (slice_index s.salts.items i) c.from_be_bytes-inode.result c.args.handle.now
    (omega (arith, l, kinds, free, blocks)) is c.from_be_bytes-inode.ensures in
    let none : IsSome {T = Kind} None = subst (λ o. IsSome o) (ap (λ i. option_and_then (λ k. k) (slice_get s.kinds.items i)) same
    ∙ sym c.kind.ensures ∙ c.in_default.is) some in
    absurd (let bad : false ≡ true = none in cc)

pub returns-then-ne : goal.returns-then-ne
returns-then-ne c i some is =
    let s = c.args.self.now in
    let l = used_within s.kinds.items i some in
    let kinds = s.same_kinds in
    let free = s.same_free in
    let blocks = c.blocks-2.ensures in
    let same = number_in i s.epoch (slice_index s.salts.items i) c.from_be_bytes-inode.result c.args.handle.now
    (omega (arith, l, kinds, free, blocks)) is c.from_be_bytes-inode.ensures in
    let here : c.handle.result ≡ c.args.handle.now = c.handle.ensures
    ∙ ap (λ i. handle_bytes i s.epoch (slice_index s.salts.items i)) (sym same) ∙ is in
    let eq = (bytes_eq-Decides c.handle.result c.args.handle.now).1 here in
    absurd (let bad : false ≡ true = ap not (sym eq) ∙ sym c.ne.ensures ∙ c.if-ne.true in cc)
