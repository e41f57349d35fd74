use Rattle.std.proofs.Common.{◌≡◌, ◌<◌, length, sym, ◌∙◌, subst, arith}
use Rattle.conf_map.specs.Stands.{StandValid}
use Rattle.inverse_fn.proofs.Putting.{read_more, read_all}
use Rattle.inverse_fn.proofs.reading.entries_of.Goals as goal

pub entry_of-requires-clause-stands : goal.entry_of-requires-clause-stands
entry_of-requires-clause-stands g c = (c.requires.stands.0, subst (λ t. StandValid t c.args.table.now c.requires.stands.0) (sym c.loop-i.invariant.tree) c.requires.stands.1)

pub loop-i-preserved : goal.loop-i-preserved
loop-i-preserved g c =
    let test = c.loop-i-test.true in
    let size = c.args.table.now.rows.ok.0 in
    let low : c.loop-i.i < length c.args.table.now.rows.items = omega (arith, test, size) in
    record {
      limits = c.in-Ok.ensures.watched.limits ∙ c.loop-i.invariant.limits;
      faults = c.in-Ok.ensures.watched.faults ∙ c.loop-i.invariant.faults;
      tree = c.in-Ok.ensures.same ∙ c.loop-i.invariant.tree;
      read = λ A st. read_more _ c.args.table.now A c.loop-i.entries.items c.add.new.entries.items c.loop-i.i c.in-Ok.entry st low (c.loop-i.invariant.read A st)
          (c.in-Ok.ensures.entry A (subst (λ t. StandValid t c.args.table.now A) (sym c.loop-i.invariant.tree) st)) c.in_ok-add.ensures;
    }

pub returns-clause-entries : goal.returns-clause-entries
returns-clause-entries g c A st =
    let test = c.loop-i-test.false in
    let size = c.args.table.now.rows.ok.0 in
    read_all _ c.args.table.now A c.loop-i.entries.items c.loop-i.i st (omega (arith, test, size)) (c.loop-i.invariant.read A st)
