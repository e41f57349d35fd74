use Rattle.std.proofs.Common.{◌≡◌, ◌<◌, ◌≤◌, ℕ, arith, sym, ap, ◌∙◌, true, get_or, length, []}
use Rattle.std.proofs.lemmas.List.Sums.{position_or_len_is}
use Rattle.abs_model.specs.declared.NameRow.{NameRow}
use Rattle.abs_model.specs.Objects.{name_lt}
use Rattle.abs_plain.proofs.rows.place_of.Goals as goal

pub returns-then-name_lt-clause-place : goal.returns-then-name_lt-clause-place
returns-then-name_lt-clause-place c =
    let p = λ (r : NameRow). name_lt c.args.name.now r.name in
    let here : name_lt c.args.name.now (get_or c.args.rows.now c.loop-i.i c.index-rows-i.result).name ≡ true =
    ap (λ (r : NameRow). name_lt c.args.name.now r.name) (sym c.index-rows-i.is) ∙ cc in
    sym (position_or_len_is p c.args.rows.now c.loop-i.i c.index-rows-i.result (omega arith)
    (λ k l. c.loop-i.invariant k c.index-rows-i.result l) (λ _. here))

pub returns-clause-place : goal.returns-clause-place
returns-clause-place c =
    let none : NameRow = record { name = []; index = 0; generation = 0 } in
    let all : c.loop-i.i ≡ length c.args.rows.now = omega arith in
    let past : (n : ℕ) → n ≤ c.loop-i.i → c.loop-i.i ≤ n → (n < length c.args.rows.now → name_lt c.args.name.now (get_or c.args.rows.now n none).name ≡ true) = λ n low high l. absurd (omega arith) in
    sym all ∙ sym (position_or_len_is (λ (r : NameRow). name_lt c.args.name.now r.name) c.args.rows.now c.loop-i.i none (omega arith) (λ k l. c.loop-i.invariant k none l) (past c.loop-i.i (omega arith) (omega arith)))
