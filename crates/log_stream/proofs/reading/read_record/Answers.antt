use Rattle.std.proofs.Common.{ℕ, List, Err, ap, subst, arith}
use Rattle.xdr_cut.specs.Cut.{IsShort, IsNoStart, Begins}
use Rattle.log_format.specs.Records.{event_form}
use Rattle.log_format.proofs.EventTexts.{len_told}
use Rattle.log_stream.specs.declared.reading.Record.{Record}
use Rattle.log_stream.proofs.RecordSteps.{hand_more, hand_spells, reads_cut, part_cut, reads_whole, reads_wrong, reads_exit, part_exit}
use Rattle.log_stream.proofs.reading.read_record.Goals as goal

pub returns-in-Ok-clause-bytes : goal.returns-in-Ok-clause-bytes
returns-in-Ok-clause-bytes g c =
    let form = event_form c.args.f c.args.servers in
    let hand = c.loop-event.invariant.hand in
    let spells = hand_spells form _ _ _ _ _ hand
    (subst (λ (t : List ℕ). Begins form t c.in-Ok.event c.in-Ok.field-0-1) c.as_slice.ensures.value c.in-Ok.ensures.read.found) in
    reads_whole form (λ (r : Record). r.event) _ _ c.loop-event.bytes.items _ hand.fits hand.consumed spells

pub returns-in-Ok-clause-text : goal.returns-in-Ok-clause-text
returns-in-Ok-clause-text g c =
    let form = event_form c.args.f c.args.servers in
    let hand = c.loop-event.invariant.hand in
    record {
      consumed = hand.consumed;
      spells = hand_spells form _ _ _ _ _ hand
          (subst (λ (t : List ℕ). Begins form t c.in-Ok.event c.in-Ok.field-0-1) c.as_slice.ensures.value c.in-Ok.ensures.read.found);
    }

pub returns-in-Ok-clause-len : goal.returns-in-Ok-clause-len
returns-in-Ok-clause-len g c =
    let form = event_form c.args.f c.args.servers in
    let hand = c.loop-event.invariant.hand in
    let spells = hand_spells form _ _ _ _ _ hand
    (subst (λ (t : List ℕ). Begins form t c.in-Ok.event c.in-Ok.field-0-1) c.as_slice.ensures.value c.in-Ok.ensures.read.found) in
    let len = len_told c.args.f c.args.servers c.in-Ok.event c.loop-event.bytes.items spells in
    omega (arith, len, c.loop-event.bytes.ok)

pub loop-event-preserved : goal.loop-event-preserved
loop-event-preserved g c =
    let form = event_form c.args.f c.args.servers in
    let short : IsShort form c.loop-event.bytes.items c.in-Err-Short.need = subst
    (λ (b : List ℕ). IsShort form b c.in-Err-Short.need) c.as_slice.ensures.value
    (c.in-Err-Short.ensures.read.short c.in-Err-Short.need (ap (λ e. Err e) c.in-Err-Short.field-0-is)) in
    let small = c.in-Err-Short.ensures.small c.in-Err-Short.need (ap (λ e. Err e) c.in-Err-Short.field-0-is) in
    record {
      hand = hand_more form _ _ _ _ c.take_up_to.new.bytes.items _ _ c.loop-event.invariant.hand short small c.in_ok-take_up_to-in-Err-Short.ensures.fits c.in_ok-take_up_to-in-Err-Short.ensures.bytes;
      later = omega (arith, c.in_ok-take_up_to-in-Err-Short.ensures.cause.later, c.loop-event.invariant.later);
    }

pub returns-in_err-take_up_to-in-Err-Short-clause-bytes : goal.returns-in_err-take_up_to-in-Err-Short-clause-bytes
returns-in_err-take_up_to-in-Err-Short-clause-bytes g c =
    let form = event_form c.args.f c.args.servers in
    let short : IsShort form c.loop-event.bytes.items c.in-Err-Short.need = subst
    (λ (b : List ℕ). IsShort form b c.in-Err-Short.need) c.as_slice.ensures.value
    (c.in-Err-Short.ensures.read.short c.in-Err-Short.need (ap (λ e. Err e) c.in-Err-Short.field-0-is)) in
    reads_exit _ c.from_residual.ensures.1
    (reads_cut form (λ (r : Record). r.event) _ _ _ _ _ _ _ c.loop-event.invariant.hand short c.in_err-take_up_to-in-Err-Short.ensures.bytes)

pub returns-in_err-take_up_to-in-Err-Short-clause-part : goal.returns-in_err-take_up_to-in-Err-Short-clause-part
returns-in_err-take_up_to-in-Err-Short-clause-part g c =
    let form = event_form c.args.f c.args.servers in
    let short : IsShort form c.loop-event.bytes.items c.in-Err-Short.need = subst
    (λ (b : List ℕ). IsShort form b c.in-Err-Short.need) c.as_slice.ensures.value
    (c.in-Err-Short.ensures.read.short c.in-Err-Short.need (ap (λ e. Err e) c.in-Err-Short.field-0-is)) in
    part_exit _ _ c.from_residual.ensures.1
    (part_cut form _ _ _ _ _ _ _ c.loop-event.invariant.hand short c.in_err-take_up_to-in-Err-Short.ensures.bytes)

pub returns-in-Err-Wrong-clause-bytes : goal.returns-in-Err-Wrong-clause-bytes
returns-in-Err-Wrong-clause-bytes g c =
    let form = event_form c.args.f c.args.servers in
    let hand = c.loop-event.invariant.hand in
    let wrong : IsNoStart form c.loop-event.bytes.items = subst
    (λ (b : List ℕ). IsNoStart form b) c.as_slice.ensures.value
    (c.in-Err-Wrong.ensures.read.wrong (ap (λ e. Err e) c.in-Err-Wrong.field-0-is)) in
    reads_wrong form (λ (r : Record). r.event) _ _ c.loop-event.bytes.items hand.fits hand.consumed wrong
