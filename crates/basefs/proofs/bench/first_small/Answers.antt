use Rattle.std.proofs.Common.{refl, sym, ap, ◌∙◌}
use Rattle.basefs.specs.Log.{is_small as is_small_for}
use Rattle.basefs.proofs.Benches.{passes_here, passes_later, passes_never}
use Rattle.basefs.proofs.bench.first_small.Goals as goal

pub loop-r-init : goal.loop-r-init
loop-r-init g c = refl

pub returns-then-is_small : goal.returns-then-is_small
returns-then-is_small g c =
    sym (passes_here _ c.args.servers.now c.loop-r.r c.index-servers-r.result c.loop-r-test.true c.index-servers-r.is c.loop-r.invariant
    (ap (is_small_for c.args.header.now) (sym c.limits.ensures) ∙ sym c.if-is_small.ensures))

pub loop-r-preserved : goal.loop-r-preserved
loop-r-preserved g c =
    passes_later _ c.args.servers.now c.loop-r.r c.index-servers-r.result c.loop-r-test.true c.index-servers-r.is c.loop-r.invariant
    (ap (is_small_for c.args.header.now) (sym c.limits.ensures) ∙ sym c.if-is_small.ensures)

pub returns : goal.returns
returns g c = sym (passes_never _ c.args.servers.now c.loop-r.r c.loop-r-test.false c.loop-r.invariant)
