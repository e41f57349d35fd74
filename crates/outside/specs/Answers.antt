-- What a clock answers.
use Rattle.std.specs.Prelude.{◌≡◌, ◌∷◌, List, [], Option, IfSome}
use Rattle.std.specs.Option.{option_map}
use Rattle.nfs2_types.specs.declared.time.Time.{Time}

-- the answer is the first of the times, or zero where there is none
abbrev pub first_time : List Time → Time
first_time [] = record { secs = 0; micros = 0 }
first_time (time ∷ times) = time

-- the first of the times is taken off, but the last one stays
abbrev pub later_times : List Time → List Time
later_times [] = []
later_times (time ∷ []) = time ∷ []
later_times (time ∷ next ∷ times) = next ∷ times

-- what a call does to the answers to come, where the clock tells them
pub record Answers (old new : Option (List Time)) (result : Time) : Type 0 where
  pub first : IfSome old (λ times. result ≡ first_time times)
  pub later : new ≡ option_map later_times old
