use Rattle.path_store.proofs.CallLaws.{has_key, is_placed, renamed}
use Rattle.path_store.proofs.store.PathStore.rename.Goals as goal

pub move_under-requires-clause-keyed : goal.move_under-requires-clause-keyed
move_under-requires-clause-keyed c = (is_placed c.args.self.now c.self.inside.whole c.self.inside.keys
    c.self.inside.rows
    c.self.inside.dirs c.self.view_is c.self.invariant c.requires.whole).keyed

pub move_under-requires-clause-has_key : goal.move_under-requires-clause-has_key
move_under-requires-clause-has_key c = has_key c.args.from.now c.args.name.now c.args.moved.now c.in-Ok.old
    c.self.inside.keys c.self.inside.rows c.self.inside.dirs c.self.inside.whole c.args.self.now c.self.view_is
    c.self.invariant c.requires.whole c.in-Ok.ensures c.requires.from
    c.requires.leads

pub invariant_of-self-2 : goal.invariant_of-self-2
invariant_of-self-2 c = λ _. (renamed c.args.from.now c.args.name.now c.args.to.now c.args.to_name.now
    c.args.moved.now c.in-Ok.old
    c.in-Ok-path_of.new c.self.inside.keys c.self.inside.rows c.self.inside.dirs c.move_under.new.keys
    c.move_under.new.rows c.move_under.new.dirs c.self.inside.whole c.args.self.now c.self.view_is c.self.invariant
    c.requires.whole c.requires.name c.requires.to_name c.in-Ok.ensures
    c.in-Ok-path_of.ensures c.in-Ok-move_under.ensures c.requires.from
    c.requires.to c.requires.leads c.requires.new_name c.requires.apart).0

pub returns-clause-moved : goal.returns-clause-moved
returns-clause-moved c =
    (renamed c.args.from.now c.args.name.now c.args.to.now c.args.to_name.now c.args.moved.now
    c.in-Ok.old
    c.in-Ok-path_of.new c.self.inside.keys c.self.inside.rows c.self.inside.dirs c.move_under.new.keys
    c.move_under.new.rows c.move_under.new.dirs c.self.inside.whole c.args.self.now c.self.view_is c.self.invariant
    c.requires.whole c.requires.name c.requires.to_name c.in-Ok.ensures
    c.in-Ok-path_of.ensures c.in-Ok-move_under.ensures
    c.requires.from
    c.requires.to c.requires.leads c.requires.new_name c.requires.apart).1
