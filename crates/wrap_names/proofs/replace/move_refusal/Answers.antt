use Rattle.std.proofs.Common.{true, false, sym, subst, ◌∙◌}
use Rattle.conf_map.specs.Stands.{StandValid}
use Rattle.wrap_names.proofs.MoveTests.{below_refused}
use Rattle.wrap_names.proofs.replace.move_refusal.Goals as goal

pub returns-then-is_below-clause-refused : goal.returns-then-is_below-clause-refused
returns-then-is_below-clause-refused g c A k dir =
    below_refused A c.args.ends.now c.in_ok-moves_dir.moves_dir (c.in_ok-moves_dir.ensures.is_dir A k)
    (c.in_ok-refused.ensures.refused A
    (subst (λ s. StandValid s c.args.table.now A) (sym c.in_ok-moves_dir.ensures.same) k) ∙ c.in-None.is)
    c.if-not-moves_dir.false true (c.if-is_below.ensures _ A k dir)

pub returns-clause-refused : goal.returns-clause-refused
returns-clause-refused g c A k dir =
    below_refused A c.args.ends.now c.in_ok-moves_dir.moves_dir (c.in_ok-moves_dir.ensures.is_dir A k)
    (c.in_ok-refused.ensures.refused A
    (subst (λ s. StandValid s c.args.table.now A) (sym c.in_ok-moves_dir.ensures.same) k) ∙ c.in-None.is)
    c.if-not-moves_dir.false false (c.if-is_below.ensures _ A k dir)
