use Rattle.std.proofs.Common.{length, ap, ◌∙◌}
use Rattle.path_server.specs.Bytes.{bytes_under}
use Rattle.path_server.specs.State.{kept_by}
use Rattle.path_server.proofs.ContentLaws.{used-bare_dir, used-bare_leaf}
use Rattle.path_server.proofs.tree.PathTree.bytes_alone.Goals as goal

pub returns-in-Dir : goal.returns-in-Dir
returns-in-Dir c = used-bare_dir c.args.kind (bytes_under (kept_by c.args.self.now).contents c.args.node.now)
    c.in-Dir.is

pub returns-in-File : goal.returns-in-File
returns-in-File c = ap length c.bytes.ensures ∙ used-bare_leaf c.args.kind (bytes_under (kept_by c.args.self.now).contents
    c.args.node.now) c.in-File.is
