use Rattle.std.proofs.Common.{sym, ◌∙◌, subst, arith}
use Rattle.nfs2_types.specs.declared.Limits.{Limits}
use Rattle.abs_model.specs.Array.{empty_array}
use Rattle.abs_model.proofs.EmptyFacts.{empty_valid}
use Rattle.conf_map.specs.Stands.{HasRoom}
use Rattle.service_tables.proofs.service.Service.with_room.Goals as goal

pub returns : goal.returns
returns g c =
    let limits : Limits = record { n = c.args.n; k = 1024; t = c.args.t; f = 0 } in
    let room : HasRoom limits c.limits-most.result = record {
      nodes = omega (arith, c.if-most-n.false);
      bytes = omega (arith, c.if-most-from.false, c.from.ensures);
    } in
    record {
      within = (c.requires.some, c.requires.few, c.requires.least, c.requires.most);
      room = subst (HasRoom limits) (c.limits-most.ensures ∙ sym c.in-Ok.ensures.watched.limits) room;
      array = empty_array c.args.n;
      stands = record {
        valid = empty_valid limits c.requires.some;
        stands = c.in-Ok.ensures.stands;
        tallied = c.in-Ok.ensures.tallied;
      };
    }
