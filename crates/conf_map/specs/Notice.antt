-- Notices before changes, and how a server's failures are watched.
use Rattle.std.specs.Prelude.{◌≡◌, ◌≤◌, ℕ, List, [], ◌∷◌, Result, Ok, Err}
use Rattle.abs_model.specs.declared.entry.Entry.{Entry}
use Rattle.server_trait.specs.Tree.{Server}
use Rattle.nfs2_types.specs.Counts.{Rose}
use Rattle.server_trait.specs.declared.server.SrvErr.{SrvErr}
use Rattle.server_trait.specs.declared.server.SrvErr.TheVariants.{Fault}
use Rattle.server_trait.specs.declared.bench.WrapErr.{WrapErr}
use Rattle.server_trait.specs.declared.bench.WrapErr.TheVariants.{Down, NoMemory}

-- what a server's failure is to the wrapper
abbrev pub wrap_of : SrvErr → WrapErr
wrap_of Fault = Down
wrap_of e = NoMemory

-- the count by an answer: Down exactly where it rose
abbrev pub Counted : {T : Type 0} → ℕ → ℕ → Result T WrapErr → Type 0
Counted before now (Ok x) = now ≡ before
Counted before now (Err Down) = (before ≤ now) × Rose before now
Counted before now (Err NoMemory) = now ≡ before

-- the limits are as before, and the count never falls
pub record Watched {T : Type 0} (old new : Server) (r : Result T WrapErr) : Type 0 where
  pub limits : new.limits ≡ old.limits
  pub faults : Counted old.faults new.faults r

-- these notices were given one after the other, all while the array was A
abbrev pub NoticedAll : {M : Type 0} → (M → List Entry → ℕ → M → Type 0) → List Entry → M → List ℕ → M → Type 0
NoticedAll noticed A old [] new = new ≡ old
NoticedAll {M} noticed A old (i ∷ is) new = (next : M) × noticed old A i next × NoticedAll noticed A next is new
