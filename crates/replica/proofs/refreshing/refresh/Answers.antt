use Rattle.std.proofs.Common.{get_or, ◌∙◌, sym, ap, subst, arith}
use Rattle.std.proofs.lemmas.List.{take_all, get_or_default}
use Rattle.conf_map.specs.Stands.{StandValid}
use Rattle.replica.specs.Replicas.{refreshed}
use Rattle.replica.proofs.Refreshed.{refreshed_more}
use Rattle.replica.proofs.refreshing.refresh.Goals as goal

pub refresh_one-requires-clause-leaf : goal.refresh_one-requires-clause-leaf
refresh_one-requires-clause-leaf g c =
    let low = c.requires.leaves c.loop-index.index-index 0 c.loop-index-test.true in
    let size = c.loop-index.invariant.size in
    omega (arith, low, size)

pub loop-index-preserved : goal.loop-index-preserved
loop-index-preserved g c =
    let is = c.args.indexes.now in
    let k = c.loop-index.index-index in
    let h = c.loop-index.invariant in
    let one = c.in_ok-refresh_one.ensures in
    record {
      refreshed = λ A st. refreshed_more A is k (get_or is k 0) c.args.tree.now c.loop-index.tree c.refresh_one.new.tree
          c.loop-index-test.true (get_or_default is k 0 (get_or is k 0) c.loop-index-test.true) (h.refreshed A st)
          (one.refreshed A (subst (λ t. StandValid t c.args.table.now A) (sym h.same) st));
      size = c.refresh_one.ensures.size ∙ h.size;
      same = one.same ∙ h.same;
      limits = one.watched.limits ∙ h.limits;
      faults = one.watched.faults ∙ h.faults;
    }

pub returns-clause-refreshed : goal.returns-clause-refreshed
returns-clause-refreshed g c =
    let is = c.args.indexes.now in
    let k = c.loop-index.index-index in
    λ A st. c.loop-index.invariant.refreshed A st
    ∙ ap (λ js. refreshed A js c.args.tree.now) (take_all k is c.loop-index-test.false)
