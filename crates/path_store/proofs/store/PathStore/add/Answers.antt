use Rattle.path_store.proofs.AddLaws.{added}
use Rattle.path_store.proofs.store.PathStore.add.Goals as goal

pub invariant_of-self-2 : goal.invariant_of-self-2
invariant_of-self-2 c = λ _. (added c.args.dir.now c.args.name.now c.args.to.now c.in-Ok.path c.self.inside.keys
    c.self.inside.rows
    c.self.inside.dirs c.put_row.new.keys c.put_row.new.rows c.self.inside.whole c.self.invariant c.requires.name
    c.told-to c.in-Ok.ensures c.in-Ok-put_row.ensures c.args.self.now c.self.view_is c.requires.whole c.requires.dir
    c.requires.new_name c.requires.no_dir).0

pub returns-clause-added : goal.returns-clause-added
returns-clause-added c =
    (added c.args.dir.now c.args.name.now c.args.to.now c.in-Ok.path c.self.inside.keys c.self.inside.rows
    c.self.inside.dirs c.put_row.new.keys c.put_row.new.rows c.self.inside.whole c.self.invariant c.requires.name
    c.told-to c.in-Ok.ensures c.in-Ok-put_row.ensures c.args.self.now c.self.view_is c.requires.whole c.requires.dir
    c.requires.new_name c.requires.no_dir).1
