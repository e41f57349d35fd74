use Rattle.path_store.proofs.Rows.{got-rows, removed-rows}
use Rattle.path_store.proofs.keys.PathKeys.remove.Goals as goal

pub returns-clause-value : goal.returns-clause-value
returns-clause-value c = got-rows c.self.inside.keys.entries c.args.self.now c.self.view_is c.remove.result
    c.args.path.now c.remove.ensures.value

pub returns-clause-rest : goal.returns-clause-rest
returns-clause-rest c = removed-rows c.self.inside.keys.entries c.args.self.now c.self.view_is
    c.remove.new.self.entries c.args.path.now c.remove.ensures.updates.0
