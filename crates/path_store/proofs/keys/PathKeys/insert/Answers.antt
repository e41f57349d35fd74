use Rattle.path_store.proofs.Rows.{inserted-rows}
use Rattle.path_store.proofs.keys.PathKeys.insert.Goals as goal

pub returns : goal.returns
returns c = inserted-rows c.self.inside.keys.entries c.args.self.now c.self.view_is c.insert.new.self.entries
    c.args.path c.args.key c.in-Ok.ensures.entries
