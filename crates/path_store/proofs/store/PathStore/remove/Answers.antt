use Rattle.path_store.proofs.RemoveLaws.{removed}
use Rattle.path_store.proofs.store.PathStore.remove.Goals as goal

pub invariant_of-self-2 : goal.invariant_of-self-2
invariant_of-self-2 c = λ _. (removed c.args.dir.now c.args.name.now c.args.to.now c.in-Ok.gone
    c.self.inside.keys c.self.inside.rows
    c.self.inside.dirs c.take_row.new.keys c.take_row.new.rows c.remove.new.self c.self.inside.whole c.args.self.now
    c.self.invariant c.requires.name c.in-Ok.ensures c.take_row.ensures
    c.remove.ensures c.self.view_is c.requires.whole c.requires.dir c.requires.leads c.requires.empty).0

pub returns-clause-dropped : goal.returns-clause-dropped
returns-clause-dropped c =
    (removed c.args.dir.now c.args.name.now c.args.to.now c.in-Ok.gone c.self.inside.keys
    c.self.inside.rows
    c.self.inside.dirs c.take_row.new.keys c.take_row.new.rows c.remove.new.self c.self.inside.whole c.args.self.now
    c.self.invariant c.requires.name c.in-Ok.ensures
    c.take_row.ensures
    c.remove.ensures c.self.view_is c.requires.whole c.requires.dir c.requires.leads c.requires.empty).1
