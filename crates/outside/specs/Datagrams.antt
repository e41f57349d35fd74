-- What a link's calls do to its inbox and to what was sent, where it tells them.
use Rattle.std.specs.Prelude.{◌≡◌, ◌≤◌, ℕ, List, [], ◌∷◌, ◌++◌, Option, None, Some, IfSome, Result, Ok, Err, length}
use Rattle.std.specs.Option.{option_map}
use Rattle.outside.specs.declared.datagram.TheConstants.{DATAGRAM_MAX}
use Rattle.outside.specs.declared.datagram.Datagram.{Datagram}
use Rattle.outside.specs.declared.link.LinkErr.{LinkErr}

-- a link carries at most 65,536 bytes at once
abbrev pub FitsALink : Datagram → Type 0
FitsALink datagram = length datagram.bytes ≤ DATAGRAM_MAX

-- a datagram is the first of the inbox and is taken off it, and none comes only where the inbox is empty
abbrev pub Receives : Option (List Datagram) → Option (List Datagram) → Result (Option Datagram) LinkErr → Type 0
Receives old new (Ok (Some datagram)) = old ≡ option_map (λ rest. datagram ∷ rest) new
Receives old new (Ok None) = (new ≡ old) × IfSome old (λ inbox. inbox ≡ [])
Receives old new (Err _) = new ≡ old

-- a piece that is sent comes last, with the peer that it goes to
abbrev pub Sends : {T : Type 0} → Option (List Datagram) → Option (List Datagram) → List ℕ → List ℕ →
    Result T LinkErr → Type 0
Sends old new to piece (Ok _) = new ≡ option_map (λ sent. sent ++ record { from = to; bytes = piece } ∷ []) old
Sends old new to piece (Err _) = new ≡ old
