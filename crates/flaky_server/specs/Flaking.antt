-- What a server is that fails at times.
use Rattle.std.specs.Prelude.{◌≡◌, ◌≤◌, ℕ, Bool, true, false, cond, None, Result, Ok, Err}
use Rattle.nfs2_types.specs.Counts.{Rose}
use Rattle.server_trait.specs.declared.SrvErr.{SrvErr}
use Rattle.server_trait.specs.declared.SrvErr.TheVariants.{Fault, NoMemory}
use Rattle.server_trait.specs.Tree.{Server}

-- the server inside, but with no tree while it is down, and with a count of its own
abbrev pub flaking : Server → Bool → ℕ → Server
flaking inner down faults = record { tree = cond down None inner.tree; limits = inner.limits; faults = faults }

-- after an answer of the server inside: down after Fault and NoMemory, and one more fault after Fault
abbrev pub Noted : {T : Type 0} → Result T SrvErr → Bool → Bool → ℕ → ℕ → Type 0
Noted (Err Fault) d d' n n' = (d' ≡ true) × Rose n n' × (n ≤ n')
Noted (Err NoMemory) d d' n n' = (d' ≡ true) × (n' ≡ n)
Noted r d d' n n' = (d' ≡ d) × (n' ≡ n)
