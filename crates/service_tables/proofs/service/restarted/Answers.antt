use Rattle.std.proofs.Common.{sym, subst}
use Rattle.conf_map.specs.Stands.{HasRoom}
use Rattle.service_tables.proofs.service.restarted.Goals as goal

pub restart-requires : goal.restart-requires
restart-requires g c =
    let s = c.requires.stands in (
      c.requires.array,
      record {
        limits = c.args.limits.now;
        within = c.requires.within;
        valid = s.valid;
        stands = s.stands;
        tallied = s.tallied;
      },
    )

pub returns-in-Ok : goal.returns-in-Ok
returns-in-Ok g c = record {
  within = c.requires.within;
  room = subst (HasRoom c.args.limits.now) (sym c.restart.ensures.watched.limits) c.requires.room;
  array = c.requires.array;
  stands = c.in-Ok.ensures.stands c.args.limits.now c.requires.array c.requires.stands;
}
