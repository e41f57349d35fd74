-- The standing words of voters, as functions from places to words, and what is decided by them.
use Rattle.std.specs.Prelude.{◌≡◌, ◌≢◌, ℕ, ◌<◌, ◌≤◌, List, map, length, slice_get, count_by, cond, nat_le, Option, None, Some}
use Rattle.std.specs.Option.{option_and_then}
use Rattle.std.specs.Ordering.{nat_cmp}
use Rattle.std.specs.BTreeMap as ordered
use Rattle.nfs2_types.specs.declared.Word.{Word}
use Rattle.cluster_model.specs.State.{is_word}
use Rattle.reply_vote.specs.declared.standing.Standing.{Standing}
use Rattle.reply_vote.specs.declared.votes.Votes.{Votes}

-- the words of one voter, by place
abbrev pub Ballot : Type 0
Ballot = ℕ → Option Word

abbrev pub ballot : Standing → Ballot
ballot s p = ordered.get nat_cmp s.words p

-- the words of each voter
abbrev pub ballots : Votes → List Ballot
ballots v = map ballot v.voters.items

-- the word of this voter for this place, if it stands
abbrev pub word_at : List Ballot → ℕ → ℕ → Option Word
word_at bs r p = option_and_then (λ (b : Ballot). b p) (slice_get bs r)

-- how many voters have this word for this place
abbrev pub votes_for : List Ballot → ℕ → Word → ℕ
votes_for bs p w = count_by (λ (b : Ballot). is_word w (b p)) bs

-- this voter's word for this place is w, and all else is as before
pub record Casts (r p : ℕ) (w : Word) (old new : List Ballot) : Type 0 where
  pub size : length new ≡ length old
  pub here : word_at new r p ≡ Some w
  pub places : (q : ℕ) → q ≢ p → word_at new r q ≡ word_at old r q
  pub voters : (k q : ℕ) → k ≢ r → word_at new k q ≡ word_at old k q

-- no word of this voter stands, and all else is as before
pub record Withdraws (r : ℕ) (old new : List Ballot) : Type 0 where
  pub size : length new ≡ length old
  pub here : (p : ℕ) → word_at new r p ≡ None
  pub voters : (k q : ℕ) → k ≢ r → word_at new k q ≡ word_at old k q

-- no word for place p stands, and all else is as before
pub record Forgets (p : ℕ) (old new : List Ballot) : Type 0 where
  pub size : length new ≡ length old
  pub here : (k : ℕ) → word_at new k p ≡ None
  pub places : (k q : ℕ) → q ≢ p → word_at new k q ≡ word_at old k q

-- no word for a place up to p stands, and all else is as before
pub record Drops (p : ℕ) (old new : List Ballot) : Type 0 where
  pub size : length new ≡ length old
  pub words : (k q : ℕ) → word_at new k q ≡ cond (nat_le q p) None (word_at old k q)

-- the same words stand
pub record SameWords (old new : List Ballot) : Type 0 where
  pub size : length new ≡ length old
  pub words : (k q : ℕ) → word_at new k q ≡ word_at old k q

-- the word of the lowest voter whose word has the threshold
pub record IsLowest (threshold p : ℕ) (bs : List Ballot) (w : Word) : Type 0 where
  pub voter : ℕ
  pub has : word_at bs voter p ≡ Some w
  pub enough : threshold ≤ votes_for bs p w
  pub lower : (k : ℕ) (v : Word) → k < voter → word_at bs k p ≡ Some v → votes_for bs p v < threshold

-- what is decided for this place: nothing exactly where no word has the threshold
abbrev pub IsDecided : ℕ → ℕ → List Ballot → Option Word → Type 0
IsDecided threshold p bs None = (k : ℕ) (v : Word) → word_at bs k p ≡ Some v → votes_for bs p v < threshold
IsDecided threshold p bs (Some w) = IsLowest threshold p bs w
