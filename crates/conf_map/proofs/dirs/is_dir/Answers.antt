use Rattle.std.proofs.Common.{◌∙◌}
use Rattle.conf_map.proofs.KindTests.{dir_test}
use Rattle.conf_map.proofs.dirs.is_dir.Goals as goal

pub returns-clause-is_dir : goal.returns-clause-is_dir
returns-clause-is_dir g c A k =
    dir_test c.is_dir.result c.in_ok-attr.attr.kind c.is_dir.ensures ∙ (c.in_ok-attr.ensures.seen A k).dir
