use Rattle.std.proofs.Common.{◌≡◌, ◌≤◌, sym, ◌∙◌, subst, arith}
use Rattle.abs_model.specs.Array.{empty_array}
use Rattle.abs_model.specs.Valid.{Valid}
use Rattle.abs_model.proofs.EmptyFacts.{empty_valid}
use Rattle.conf_map.specs.Stands.{AreWithin, HasRoom}
use Rattle.store_tests.proofs.tests.kept.started.Goals as goal

pub returns-in-Ok : goal.returns-in-Ok
returns-in-Ok g c =
    let limits = c.args.limits.now in
    let n : limits.n ≡ 16 = c.requires.n in
    let t : limits.t ≡ 65536 = c.requires.t in
    let some : 1 ≤ limits.n = omega (arith, n) in
    let within : AreWithin limits = (some, omega (arith, n), omega (arith, t), omega (arith, t)) in
    let room : HasRoom limits c.limits-most.result = record {
      nodes = omega (arith, n, c.if-most-lt19.false);
      bytes = omega (arith, t, c.if-most-lt1114112.false);
    } in
    record {
      within = within;
      entries = n;
      room = subst (HasRoom limits) (c.limits-most.ensures ∙ sym c.in-Ok.ensures.watched.limits) room;
      array = empty_array 16;
      stands = record {
        valid = subst (λ k. Valid limits (empty_array k)) n (empty_valid limits some);
        stands = c.in-Ok.ensures.stands;
        tallied = c.in-Ok.ensures.tallied;
      };
    }
