-- When an object of the outside may answer a fault.
use Rattle.std.specs.Prelude.{◌≡◌, ℕ, ◌<◌, ◌≤◌, Result, OnOk, OnErr, IsErrOf}
use Rattle.outside.specs.declared.link.LinkErr.{LinkErr}
use Rattle.outside.specs.declared.medium.MediumErr.{MediumErr}
use Rattle.outside.specs.declared.sink.SinkErr.{SinkErr}
pub use Rattle.nfs2_types.specs.Counts.{Rose}

-- the count never falls, and a call answers an error only where it rose
pub record HasCause {T E : Type 0} (before now : ℕ) (result : Result T E) : Type 0 where
  pub later : before ≤ now
  pub failed : OnErr result (Rose before now)

-- the same for a sink: want of memory raises nothing, and no byte taken of a piece that has one is a fault
pub record SinkHasCause (before now : ℕ) (size : ℕ) (result : Result ℕ SinkErr) : Type 0 where
  pub later : before ≤ now
  pub failed : IsErrOf result SinkErr.Failed → Rose before now
  pub no_memory : IsErrOf result SinkErr.NoMemory → now ≡ before
  pub nothing_taken : result ≡ Result.Ok 0 → 0 < size → Rose before now

-- the same for a link
pub record LinkHasCause {T : Type 0} (before now : ℕ) (result : Result T LinkErr) : Type 0 where
  pub later : before ≤ now
  pub failed : IsErrOf result LinkErr.Failed → Rose before now
  pub no_memory : IsErrOf result LinkErr.NoMemory → now ≡ before

-- the same for a read of a medium, of which an Ok leaves the count
pub record ReadHasCause {T E : Type 0} (before now : ℕ) (result : Result T E) : Type 0 where
  pub later : before ≤ now
  pub failed : OnErr result (Rose before now)
  pub ok : OnOk result (now ≡ before)

-- the same for a write of a medium
pub record WriteHasCause {T : Type 0} (before now : ℕ) (result : Result T MediumErr) : Type 0 where
  pub later : before ≤ now
  pub failed : IsErrOf result MediumErr.Failed → Rose before now
  pub no_memory : IsErrOf result MediumErr.NoMemory → now ≡ before
  pub ok : OnOk result (now ≡ before)
