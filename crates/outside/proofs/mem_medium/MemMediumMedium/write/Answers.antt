use Rattle.std.proofs.Common.{◌≡◌, ◌≢◌, ℕ, List, length, replicate, None, Some, arith, rules}
use Rattle.std.specs.Option.{ForSome}
use Rattle.std.specs.Global.{Box}
use Rattle.std.proofs.lemmas.Grind.{common_steps}
use Rattle.outside.specs.Media.{IsKept}
use Rattle.outside.proofs.Kept.{all_after, all_inserted, only}
use Rattle.outside.proofs.mem_medium.MemMediumMedium.write.Goals as goal

pub invariant_of-self-then-eq : goal.invariant_of-self-then-eq
invariant_of-self-then-eq c =
    let s = c.args.self.now in
    let none : ForSome {T = Box (List ℕ)} None (λ b. IsKept b.value) = λ b is. cc in
    record {
      kept_blocks = all_after _ s.kept c.remove.new.self c.args.block None s.kept_blocks none c.remove.ensures.updates;
    }

pub invariant_of-self-2 : goal.invariant_of-self-2
invariant_of-self-2 c =
    let s = c.args.self.now in
    let copy = c.in_ok-copy.copy in
    let size : length c.args.from.now ≡ 512 = search rules in
    let apart : c.args.from.now ≢ replicate 512 0 = grind (arith, common_steps) in
    let kept : IsKept copy.value = rw c.in_ok-copy.ensures.ok (size, apart) in
    let new = only (λ b. IsKept b.value) copy kept in
    let puts = c.insert.ensures in
    record {
      kept_blocks = all_inserted _ s.kept c.insert.new.self c.args.block (Some copy) c.insert.result s.kept_blocks new
          puts.updates puts.err;
    }
