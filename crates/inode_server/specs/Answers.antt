-- What the answers of a tree on a medium are to a caller.
use Rattle.std.specs.Prelude.{Bool, true, false, Result, Ok, Err}
use Rattle.outside.specs.declared.medium.MediumErr.{MediumErr}
use Rattle.outside.specs.declared.medium.MediumErr.TheVariants.{Failed, NoMemory as Spent}
use Rattle.server_trait.specs.declared.server.SrvErr.{SrvErr}
use Rattle.server_trait.specs.declared.server.SrvErr.TheVariants.{Stale, NoEnt, Exists, NotDir, WrongKind, NotEmpty, Subtree, Refused, Full, Fault, NoMemory}

-- what an error of the medium is to a caller
abbrev pub srv_err : MediumErr → SrvErr
srv_err Failed = Fault
srv_err Spent = NoMemory

-- whether the server has a tree after an error
abbrev pub is_kept : SrvErr → Bool
is_kept Stale = true
is_kept NoEnt = true
is_kept Exists = true
is_kept NotDir = true
is_kept WrongKind = true
is_kept NotEmpty = true
is_kept Subtree = true
is_kept Refused = true
is_kept Full = true
is_kept Fault = false
is_kept NoMemory = false

-- whether the server has a tree after an answer
abbrev pub stands : {T : Type 0} → Result T SrvErr → Bool
stands (Ok x) = true
stands (Err e) = is_kept e
