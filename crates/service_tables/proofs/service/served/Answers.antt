use Rattle.std.proofs.Common.{sym, subst}
use Rattle.conf_map.specs.Stands.{HasRoom}
use Rattle.service_tables.proofs.service.served.Goals as goal

pub returns-in-Ok : goal.returns-in-Ok
returns-in-Ok g c =
    let a = c.in-Ok.ensures.answers c.requires.array c.requires.stands in
    record {
      within = c.requires.within;
      room = subst (HasRoom c.args.limits.now) (sym c.in-Ok.ensures.watched.limits) c.requires.room;
      array = _;
      stands = record { valid = a.valid; stands = a.stands; tallied = a.tallied };
    }
