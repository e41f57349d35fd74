use Rattle.std.proofs.Common.{◌≡◌, ◌≤◌, ◌⊎◌, ℕ, None}
use Rattle.std.specs.BTreeMap.{btree_map_len}
use Rattle.reply_vote.specs.Ballots.{ballot}
use Rattle.reply_vote.proofs.standing.Standing.drop_to.Given as goal

-- each word is as it was, or it is one for a place up to this and gone
abbrev pub invariant-loop-lowest : goal.invariant-loop-lowest
invariant-loop-lowest l = (q : ℕ) →
    (ballot l.self q ≡ ballot l.initial.self q) ⊎ ((q ≤ l.place) × (ballot l.self q ≡ None))

abbrev pub decreases-loop-lowest : goal.decreases-loop-lowest
decreases-loop-lowest l = btree_map_len l.self.words
