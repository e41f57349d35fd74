-- No vote waits: what every state keeps, fair or not, and what makes the code's count that of the model.
use Rattle.std.specs.Prelude.{◌≡◌, ℕ, ◌*◌, ◌<◌, ◌≤◌, false, List}
use Rattle.nfs2_types.specs.declared.Word.{Word}
use Rattle.cluster_model.specs.Service.{Service}
use Rattle.cluster_model.specs.State.{State}
use Rattle.cluster_model.specs.Moments.{votes, root_votes, is_decided}

-- no undecided place has f + 1 equal standing words
abbrev pub IsSettled : Service → State → Type 0
IsSettled S s = (p : ℕ) (w : Word) → is_decided p s ≡ false → votes p w s ≤ S.f

-- no place above the stable one has 2f + 1 equal standing root words
abbrev pub IsRootSettled : Service → State → Type 0
IsRootSettled S s = (p : ℕ) (d : List ℕ) → s.stable < p → root_votes p d s ≤ 2 * S.f
