use Rattle.dispatch.proofs.Calls.{read_performs, is_read}
use Rattle.dispatch.proofs.nfs.procedure.Goals as goal

pub returns-in_default : goal.returns-in_default
returns-in_default g c = record {
  performs = read_performs _ _ _ _ _ _ _ _ _ _ _ c.read_proc.result
      (is_read c.args.args.now c.in_default.not-SetAttr c.in_default.not-Write c.in_default.not-Create c.in_default.not-Remove c.in_default.not-Rename c.in_default.not-Link c.in_default.not-Symlink c.in_default.not-MkDir c.in_default.not-RmDir)
      c.read_proc.ensures.result c.read_proc.ensures.same;
  watched = c.read_proc.ensures.watched;
}
