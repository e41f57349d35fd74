use Rattle.std.proofs.Common.{refl}
use Rattle.inode_mount.proofs.tests.first_block.Goals as goal

pub returns : goal.returns
returns c = rw (
  c.copy_from_slice.ensures.after,
  c.copy_from_slice-2.ensures.after,
  c.copy_from_slice-3.ensures.after,
  c.to_be_bytes.ensures,
  c.to_be_bytes-2.ensures,
) refl
