use Rattle.std.proofs.Common.{false, refl, ap, sym, ◌∙◌, length, arith}
use Rattle.std.specs.Prelude.{not}
use Rattle.std.proofs.lemmas.List.{length-set, length-replicate}
use Rattle.abs_model.specs.Array.{null_entry}
use Rattle.abs_model.specs.Objects.{is_null}
use Rattle.rebuilding.proofs.Finals.{clear_marks, marked_more, marked_none}
use Rattle.rebuilding.specs.Name.{bit_at}
use Rattle.rebuilding.proofs.Makings.{get_same}
use Rattle.rebuilding.proofs.building.mark_objects.Goals as goal

pub loop-i-init : goal.loop-i-init
loop-i-init c = record {
  size = ap length c.requires.clear ∙ length-replicate (length c.args.entries.now) false;
  bits = marked_none c.args.entries.now c.args.marks.now (λ j. ap (λ b. bit_at b j) c.requires.clear ∙ clear_marks (length c.args.entries.now) j);
  rest = λ j _. ap (λ b. bit_at b j) c.requires.clear ∙ clear_marks (length c.args.entries.now) j;
}

pub loop-i-preserved : goal.loop-i-preserved
loop-i-preserved c =
    let size = c.loop-i.invariant.size in
    let test = c.loop-i-test.true in
    let first = c.loop-i.auto.i in
    let more = marked_more c.args.entries.now c.loop-i.i c.loop-i.marks _ (λ e. absurd (omega (arith, e, first))) c.loop-i.invariant.bits c.loop-i.invariant.rest _
    (ap not (c.is_null_entry.ensures ∙ ap is_null (c.index-entries-i.is ∙ get_same c.args.entries.now c.loop-i.i c.index-entries-i.result null_entry test)))
    (omega (arith, size, test)) refl in
    record { size = length-set c.loop-i.marks c.loop-i.i _ ∙ size; bits = more.0; rest = more.1 }

pub returns-clause-bits : goal.returns-clause-bits
returns-clause-bits c i low = let test = c.loop-i-test.false in c.loop-i.invariant.bits i (omega (arith, low, test))
