use Rattle.std.proofs.Common.{◌∷◌, []}
use Rattle.abs_model.specs.Objects.{is_dir}
use Rattle.abs_model.specs.Array.{entry_at, at, target}
use Rattle.abs_model.specs.Machine.{◌answers◌}
use Rattle.nfs2_types.specs.declared.stat.TheConstants.{ISDIR}
use Rattle.wrap_names.proofs.OldTests.{old_refused, is_old, dir_refused, file_found}
use Rattle.wrap_names.proofs.remove.find_file.Goals as goal

pub returns-in-Err-clause-found : goal.returns-in-Err-clause-found
returns-in-Err-clause-found g c A k = old_refused _ c.args.table.now c.args.dir.now c.args.name.now
    c.in_ok-old.field-0 c.in_ok-old.ensures.found
    (λ A. (is_dir (entry_at A (target A (at A c.args.dir.now) c.args.name.now)) answers ISDIR) ∷ [])
    A k c.in-Err.refused c.in-Err.is

pub is_dir-requires-clause-live : goal.is_dir-requires-clause-live
is_dir-requires-clause-live g c = (is_old _ c.args.table.now c.args.dir.now c.args.name.now
    c.in_ok-old.field-0 c.in_ok-old.ensures.found c.in-Ok.old c.in-Ok.is
    c.requires.stands.0 c.requires.stands.1).led.live

pub returns-then-branch-clause-found : goal.returns-then-branch-clause-found
returns-then-branch-clause-found g c A k = dir_refused _ c.args.table.now c.args.dir.now c.args.name.now
    c.in_ok-old.field-0 c.in_ok-old.ensures.found c.in-Ok.old c.in-Ok.is _ c.in_ok-old.ensures.same
    c.in_ok-is_dir.field-0 c.in_ok-is_dir.ensures.is_dir A k c.if-branch.true

pub returns-clause-found : goal.returns-clause-found
returns-clause-found g c A k = file_found _ c.args.table.now c.args.dir.now c.args.name.now
    c.in_ok-old.field-0 c.in_ok-old.ensures.found c.in-Ok.old c.in-Ok.is _ c.in_ok-old.ensures.same
    c.in_ok-is_dir.field-0 c.in_ok-is_dir.ensures.is_dir A k c.if-branch.false
