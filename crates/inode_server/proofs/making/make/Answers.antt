use Rattle.std.proofs.Common.{◌+◌, length, refl, sym, ◌∙◌, arith}
use Rattle.std.proofs.lemmas.Result.{err_from_is_err_and}
use Rattle.server_trait.specs.Calls.{Make}
use Rattle.server_trait.specs.declared.server.SrvErr.TheVariants.{Exists, Full}
use Rattle.inode_store.specs.Held.{files_of}
use Rattle.inode_tree.specs.Kept.{tables_of}
use Rattle.inode_tree.specs.Whole.{tree_in}
use Rattle.inode_tree.proofs.LookLaws.{no-bytes_left}
use Rattle.inode_tree.proofs.TiedLaws.{some_of}
use Rattle.inode_server.specs.Made.{content_with}
use Rattle.inode_server.proofs.AskLaws.{dir_kept}
use Rattle.inode_server.proofs.CallLaws.{same_refl, refused}
use Rattle.inode_server.proofs.FoundLaws.{has, none_is}
use Rattle.inode_server.proofs.MakeLaws.{make_call, dir_make}
use Rattle.inode_server.proofs.making.make.Goals as goal

pub returns-in_err-within : goal.returns-in_err-within
returns-in_err-within g c =
    let s = c.args.tree.now in
    let p = err_from_is_err_and c.from_residual.result c.from_residual.ensures.1 in
    rw (p.1, p.2) (refused g.M.Medium.content g.M.Medium.size g.M.Medium.faults (λ a. Make (content_with c.args.kind c.args.text.now) (length c.args.text.now) a c.args.dir.now c.args.name.now) s (make_call g.M.Medium.content g.M.Medium.faults s (content_with c.args.kind c.args.text.now) (length c.args.text.now) c.args.dir.now c.args.name.now) s c.in_err-within.field-0.0 (dir_kept (tree_in g.M.Medium.content s) c.args.dir.now c.in_err-within.field-0.0 c.in_err-within.ensures) (dir_make s.limits (tree_in g.M.Medium.content s) c.args.dir.now c.args.name.now (length c.args.text.now) c.in_err-within.field-0.0 c.in_err-within.ensures) (same_refl g.M.Medium.content g.M.Medium.size g.M.Medium.faults s) c.requires.whole)

pub place-requires : goal.place-requires
place-requires g c =
    c.in_ok-within.ensures.within

pub returns-then-is_some : goal.returns-then-is_some
returns-then-is_some g c =
    let s = c.args.tree.now in
    let found = c.in_ok-within.ensures in
    let p = some_of c.place.result (sym c.is_some.ensures ∙ c.if-is_some.true) in
    refused g.M.Medium.content g.M.Medium.size g.M.Medium.faults (λ a. Make (content_with c.args.kind c.args.text.now) (length c.args.text.now) a c.args.dir.now c.args.name.now) s (make_call g.M.Medium.content g.M.Medium.faults s (content_with c.args.kind c.args.text.now) (length c.args.text.now) c.args.dir.now c.args.name.now) s Exists refl
    (has g.M.Medium.content g.M.Medium.size s c.requires.whole c.args.dir.now c.in_ok-within.within found.handle found.kind_is c.args.name.now p.0
    (sym c.place.ensures ∙ p.1)) (same_refl g.M.Medium.content g.M.Medium.size g.M.Medium.faults s) c.requires.whole

pub returns-then-used-text : goal.returns-then-used-text
returns-then-used-text g c =
    let s = c.args.tree.now in
    let over = c.if-used-text.true in
    let used = c.used.ensures in
    refused g.M.Medium.content g.M.Medium.size g.M.Medium.faults (λ a. Make (content_with c.args.kind c.args.text.now) (length c.args.text.now) a c.args.dir.now c.args.name.now) s (make_call g.M.Medium.content g.M.Medium.faults s (content_with c.args.kind c.args.text.now) (length c.args.text.now) c.args.dir.now c.args.name.now) s Full refl
    (no-bytes_left s.store.inodes (files_of s.store.area s.store.inodes (g.M.Medium.content s.store.medium)) (tables_of s.tables)
    c.requires.whole.tied s.limits 1 0 (512 + length c.args.text.now) (omega (arith, over, used)))
    (same_refl g.M.Medium.content g.M.Medium.size g.M.Medium.faults s) c.requires.whole

pub make_new-requires-clause-new : goal.make_new-requires-clause-new
make_new-requires-clause-new g c =
    sym c.place.ensures ∙ none_is c.place.result (sym c.is_some.ensures ∙ c.if-is_some.false)
