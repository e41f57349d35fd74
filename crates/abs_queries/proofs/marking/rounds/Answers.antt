use Rattle.std.proofs.Common.{◌≡◌, List, Bool, sym, ap, subst, arith, ◌-◌, ◌+◌, ◌∙◌, length, replicate, false, true}
use Rattle.std.proofs.lemmas.List.{length-set, length-replicate}
use Rattle.abs_queries.proofs.MarkFacts.{start_sound, start_complete, more_complete, closed_complete, shows_all}
use Rattle.abs_queries.specs.Marks.{Shows, is_marked}
use Rattle.abs_queries.proofs.marking.rounds.Goals as goal

pub loop-i-init : goal.loop-i-init
loop-i-init c = rw (c.mark-first.ensures.marks, c.requires.clear) (record { long = length-set (replicate (length c.args.entries.now) false) 0 true ∙ length-replicate (length c.args.entries.now) false; sound = start_sound c.args.entries.now; complete = start_complete c.args.entries.now c.requires.some })

pub loop-i-preserved : goal.loop-i-preserved
loop-i-preserved c = record {
  long = c.round.ensures.long ∙ c.loop-i.invariant.long;
  sound = c.round.ensures.sound;
  complete = more_complete c.args.entries.now c.loop-i.marked c.round.new.marked (c.loop-i.i - 1) (c.loop-i.i + 1 - 1) c.loop-i.invariant.long (omega arith) c.loop-i.invariant.complete c.round.ensures.grows c.round.ensures.spreads;
}

pub returns-clause-shows : goal.returns-clause-shows
returns-clause-shows c = shows_all c.args.entries.now c.loop-i.marked (c.loop-i.i - 1) (omega arith) c.loop-i.invariant.sound c.loop-i.invariant.complete

pub returns-then-not-round-clause-shows : goal.returns-then-not-round-clause-shows
returns-then-not-round-clause-shows c =
    let A = c.args.entries.now in
    let marks = c.loop-i.marked in
    let same : c.round.new.marked ≡ marks = c.round.ensures.same c.if-not-round.true in
    let k = c.loop-i.i - 1 in
    let all = closed_complete A marks k (length A) c.loop-i.invariant.long c.loop-i.invariant.complete
    (λ d i d_in i_in marked row. ap (λ (m : List Bool). is_marked m i) (sym same) ∙ c.round.ensures.spreads d i d_in i_in marked row) in
    subst (λ (m : List Bool). Shows A m) (sym same) (shows_all A marks (k + length A) (omega arith) c.loop-i.invariant.sound all)
