use Rattle.std.proofs.Common.{◌≡◌, ◌∙◌, true, false, Some, sym, ap}
use Rattle.inode_tree.specs.Kept.{tables_of}
use Rattle.inode_mount.specs.Reading.{files_in}
use Rattle.inode_mount.proofs.NamedLaws.{named-next, kind-of_file}
use Rattle.inode_mount.proofs.names.enter_dir.Goals as goal

pub enter_slots-requires-clause-dir : goal.enter_slots-requires-clause-dir
enter_slots-requires-clause-dir g c = sym c.kind-kind.ensures ∙ c.is_dir.ensures.0 c.if-is_dir.true

pub returns-clause-so_far : goal.returns-clause-so_far
returns-clause-so_far g c =
    let s = c.args.tree.now in
    let files = files_in g.M.Medium.content s.store in
    let sound = c.requires.readable.holds.files in
    let t = tables_of s.tables in
    named-next s.limits s.store.inodes files sound c.args.dir 0 t c.requires.so_far (λ f is is_dir. absurd
    (let kind = c.kind-kind.ensures ∙ kind-of_file s.limits s.store.inodes files sound c.args.dir 0 t c.requires.so_far
    c.args.dir f is ∙ ap Some is_dir in
    let bad : true ≡ false = sym (c.is_dir.ensures.1 kind) ∙ c.if-is_dir.false in cc))
