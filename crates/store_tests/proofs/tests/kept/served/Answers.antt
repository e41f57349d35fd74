use Rattle.std.proofs.Common.{sym, subst}
use Rattle.conf_map.specs.Stands.{HasRoom}
use Rattle.store_tests.proofs.Beside.{size_told, taken_told}
use Rattle.store_tests.proofs.tests.kept.served.Goals as goal

pub returns-in-Ok-clause-ready : goal.returns-in-Ok-clause-ready
returns-in-Ok-clause-ready g c =
    let a = c.in-Ok.ensures.answers c.requires.array c.requires.stands in
    record {
      within = c.requires.within;
      entries = c.requires.entries;
      room = subst (HasRoom c.args.limits.now) (sym c.in-Ok.ensures.watched.limits) c.requires.room;
      array = _;
      stands = record { valid = a.valid; stands = a.stands; tallied = a.tallied };
    }

pub returns-in-Ok-clause-size : goal.returns-in-Ok-clause-size
returns-in-Ok-clause-size g c =
    let a = c.in-Ok.ensures.answers c.requires.array c.requires.stands in
    size_told c.requires.array _ c.args.store.now c.answer.new.saver a.notices

pub returns-in-Ok-clause-taken : goal.returns-in-Ok-clause-taken
returns-in-Ok-clause-taken g c =
    let a = c.in-Ok.ensures.answers c.requires.array c.requires.stands in
    taken_told c.requires.array _ c.args.store.now c.answer.new.saver a.notices
