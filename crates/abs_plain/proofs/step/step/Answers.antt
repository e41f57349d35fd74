use Rattle.std.proofs.Common.{List, Some, None, sym, ◌∙◌, subst, ap}
use Rattle.nfs2_types.specs.Call.{call_of}
use Rattle.abs_model.specs.declared.Entry.{Entry}
use Rattle.abs_model.specs.Bounds.{HasBounds}
use Rattle.abs_plain.specs.Ready.{CanRead, CanChange}
use Rattle.abs_plain.specs.Steps.{write_answer}
use Rattle.abs_plain.proofs.Ready.{is_allowed, can_read, can_change}
use Rattle.abs_plain.proofs.Steps.{refused, reading, wrote, same_refusal, same_answer}
use Rattle.abs_plain.proofs.step.step.Goals as goal

pub returns-in-Some-clause-result : goal.returns-in-Some-clause-result
returns-in-Some-clause-result c =
    let stat = same_refusal c.args.limits.now c.args.array.now c.entries.result.now (call_of c.args.args.now) c.refusal.result (Some c.in-Some.stat) c.entries.ensures c.refusal.ensures c.in-Some.is in
    (refused c.args.limits.now c.args.array.now c.args.cred.now c.args.time (call_of c.args.args.now) c.in-Some.stat stat).answers

pub returns-in-Some-clause-array : goal.returns-in-Some-clause-array
returns-in-Some-clause-array c =
    let stat = same_refusal c.args.limits.now c.args.array.now c.entries.result.now (call_of c.args.args.now) c.refusal.result (Some c.in-Some.stat) c.entries.ensures c.refusal.ensures c.in-Some.is in
    (refused c.args.limits.now c.args.array.now c.args.cred.now c.args.time (call_of c.args.args.now) c.in-Some.stat stat).becomes

pub answer-requires : goal.answer-requires
answer-requires c =
    let none = same_refusal c.args.limits.now c.args.array.now c.entries.result.now (call_of c.args.args.now) c.refusal.result None c.entries.ensures c.refusal.ensures c.in_default.is in
    let ok = is_allowed c.args.limits.now c.args.array.now (call_of c.args.args.now) c.requires.valid c.known.ensures.n c.known.ensures.t none in
    subst (λ (E : List Entry). CanRead c.args.limits.now E (call_of c.args.args.now)) (sym c.entries-2.ensures) (can_read c.args.limits.now c.args.array.now (call_of c.args.args.now) ok)

pub returns-in-Some-2-clause-result : goal.returns-in-Some-2-clause-result
returns-in-Some-2-clause-result c =
    let none = same_refusal c.args.limits.now c.args.array.now c.entries.result.now (call_of c.args.args.now) c.refusal.result None c.entries.ensures c.refusal.ensures c.in_default.is in
    let answer = same_answer c.args.limits.now c.args.array.now c.entries-2.result.now (call_of c.args.args.now) c.in_ok-answer.field-0 (Some c.in-Some-2.answer) c.entries-2.ensures c.in_ok-answer.ensures c.in-Some-2.is in
    (reading c.args.limits.now c.args.array.now c.args.cred.now c.args.time (call_of c.args.args.now) c.in-Some-2.answer none answer).answers

pub returns-in-Some-2-clause-array : goal.returns-in-Some-2-clause-array
returns-in-Some-2-clause-array c =
    let none = same_refusal c.args.limits.now c.args.array.now c.entries.result.now (call_of c.args.args.now) c.refusal.result None c.entries.ensures c.refusal.ensures c.in_default.is in
    let answer = same_answer c.args.limits.now c.args.array.now c.entries-2.result.now (call_of c.args.args.now) c.in_ok-answer.field-0 (Some c.in-Some-2.answer) c.entries-2.ensures c.in_ok-answer.ensures c.in-Some-2.is in
    (reading c.args.limits.now c.args.array.now c.args.cred.now c.args.time (call_of c.args.args.now) c.in-Some-2.answer none answer).becomes

pub changes-requires : goal.changes-requires
changes-requires c =
    let none = same_refusal c.args.limits.now c.args.array.now c.entries.result.now (call_of c.args.args.now) c.refusal.result None c.entries.ensures c.refusal.ensures c.in_default.is in
    let ok = is_allowed c.args.limits.now c.args.array.now (call_of c.args.args.now) c.requires.valid c.known.ensures.n c.known.ensures.t none in
    subst (λ (E : List Entry). CanChange E (call_of c.args.args.now)) (sym c.entries-4.ensures) (can_change c.args.limits.now c.args.array.now (call_of c.args.args.now) ok)

pub answer-requires-2 : goal.answer-requires-2
answer-requires-2 c =
    let none = same_refusal c.args.limits.now c.args.array.now c.entries.result.now (call_of c.args.args.now) c.refusal.result None c.entries.ensures c.refusal.ensures c.in_default.is in
    let ok = is_allowed c.args.limits.now c.args.array.now (call_of c.args.args.now) c.requires.valid c.known.ensures.n c.known.ensures.t none in
    let writes = same_answer c.args.limits.now c.args.array.now c.entries-2.result.now (call_of c.args.args.now) c.in_ok-answer.field-0 None c.entries-2.ensures c.in_ok-answer.ensures c.in_default-2.is in
    let after = wrote c.args.limits.now c.args.array.now c.entries-4.result.now c.entries-3.result.now c.put_all.new.self c.args.cred.now c.args.time (call_of c.args.args.now) c.in_ok-edits.edits.items c.place_of-i.result
    c.requires.moment c.requires.fits ok none writes c.entries-4.ensures c.in_ok-edits.ensures c.put_all.ensures c.entries-3.ensures c.place_of-i.ensures in
    subst (λ (B : List Entry). HasBounds B c.place_of-i.result) (sym c.entries-5.ensures) after.bounds

pub returns-clause-result : goal.returns-clause-result
returns-clause-result c =
    let none = same_refusal c.args.limits.now c.args.array.now c.entries.result.now (call_of c.args.args.now) c.refusal.result None c.entries.ensures c.refusal.ensures c.in_default.is in
    let ok = is_allowed c.args.limits.now c.args.array.now (call_of c.args.args.now) c.requires.valid c.known.ensures.n c.known.ensures.t none in
    let writes = same_answer c.args.limits.now c.args.array.now c.entries-2.result.now (call_of c.args.args.now) c.in_ok-answer.field-0 None c.entries-2.ensures c.in_ok-answer.ensures c.in_default-2.is in
    let after = wrote c.args.limits.now c.args.array.now c.entries-4.result.now c.entries-3.result.now c.put_all.new.self c.args.cred.now c.args.time (call_of c.args.args.now) c.in_ok-edits.edits.items c.place_of-i.result
    c.requires.moment c.requires.fits ok none writes c.entries-4.ensures c.in_ok-edits.ensures c.put_all.ensures c.entries-3.ensures c.place_of-i.ensures in
    c.answer-2.ensures ∙ (ap (λ (B : List Entry). write_answer B c.place_of-i.result (call_of c.args.args.now)) c.entries-5.ensures ∙ after.answers)

pub returns-clause-array : goal.returns-clause-array
returns-clause-array c =
    let none = same_refusal c.args.limits.now c.args.array.now c.entries.result.now (call_of c.args.args.now) c.refusal.result None c.entries.ensures c.refusal.ensures c.in_default.is in
    let ok = is_allowed c.args.limits.now c.args.array.now (call_of c.args.args.now) c.requires.valid c.known.ensures.n c.known.ensures.t none in
    let writes = same_answer c.args.limits.now c.args.array.now c.entries-2.result.now (call_of c.args.args.now) c.in_ok-answer.field-0 None c.entries-2.ensures c.in_ok-answer.ensures c.in_default-2.is in
    let after = wrote c.args.limits.now c.args.array.now c.entries-4.result.now c.entries-3.result.now c.put_all.new.self c.args.cred.now c.args.time (call_of c.args.args.now) c.in_ok-edits.edits.items c.place_of-i.result
    c.requires.moment c.requires.fits ok none writes c.entries-4.ensures c.in_ok-edits.ensures c.put_all.ensures c.entries-3.ensures c.place_of-i.ensures in
    after.becomes
