use Rattle.path_store.proofs.AddLaws.{dir_added}
use Rattle.path_store.proofs.store.PathStore.add_dir.Goals as goal

pub invariant_of-self-2 : goal.invariant_of-self-2
invariant_of-self-2 c = λ _. (dir_added c.args.dir.now c.args.name.now c.args.to.now c.in-Ok.path
    c.self.inside.keys c.self.inside.rows
    c.self.inside.dirs c.put_row.new.keys c.put_row.new.rows c.self.inside.whole c.self.invariant c.requires.name
    c.told-to c.in-Ok.ensures c.in-Ok-put_row.ensures c.args.self.now c.insert.new.self c.in-Ok-share.copy
    c.in-Ok-share.ensures c.in-Ok-insert.ensures c.self.view_is
    c.requires.whole c.requires.dir c.requires.new_name c.requires.no_dir c.requires.unnamed).0

pub returns-clause-added : goal.returns-clause-added
returns-clause-added c =
    (dir_added c.args.dir.now c.args.name.now c.args.to.now c.in-Ok.path c.self.inside.keys
    c.self.inside.rows
    c.self.inside.dirs c.put_row.new.keys c.put_row.new.rows c.self.inside.whole c.self.invariant c.requires.name
    c.told-to c.in-Ok.ensures c.in-Ok-put_row.ensures c.args.self.now c.insert.new.self
    c.in-Ok-share.copy
    c.in-Ok-share.ensures c.in-Ok-insert.ensures c.self.view_is
    c.requires.whole c.requires.dir c.requires.new_name c.requires.no_dir c.requires.unnamed).1
