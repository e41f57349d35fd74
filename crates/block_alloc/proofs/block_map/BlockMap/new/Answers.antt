use Rattle.std.proofs.Common.{ℕ, ap, ◌∙◌, ◌≡◌, ◌-◌, arith, replicate, false, ◌++◌, true}
use Rattle.std.proofs.lemmas.List.{append-nil}
use Rattle.block_alloc.proofs.MapLaws.{filled_within, filled_taken, filled_more}
use Rattle.block_alloc.proofs.block_map.BlockMap.new.Goals as goal

pub give-requires-clause-within : goal.give-requires-clause-within
give-requires-clause-within c = filled_within _ _ _ c.loop-block.invariant c.loop-block-test.true

pub give-requires-clause-taken : goal.give-requires-clause-taken
give-requires-clause-taken c = filled_taken _ _ _ c.loop-block.invariant c.loop-block-test.true

pub loop-block-init : goal.loop-block-init
loop-block-init c = c.in_ok-map.ensures ∙ ap (λ (n : ℕ). replicate n false) (let e : c.args.blocks ≡ c.args.blocks - 0
    = omega arith in e)

pub loop-block-preserved : goal.loop-block-preserved
loop-block-preserved c = c.give.ensures.after ∙ filled_more _ _ _ c.loop-block.invariant c.loop-block-test.true

pub returns : goal.returns
returns c =
    let end : c.loop-block.block ≡ c.args.blocks = omega arith in
    let none : c.args.blocks - c.loop-block.block ≡ 0 = omega arith in
    c.loop-block.invariant ∙ ap (λ (n : ℕ). replicate c.loop-block.block true ++ replicate n false) none
    ∙ append-nil (replicate c.loop-block.block true) ∙ ap (λ (n : ℕ). replicate n true) end
