-- Bytes of a file: cut, filled with zeros, and written over (RFC 1094, 2.2.3 and 2.2.9).
use Rattle.std.specs.Prelude.{ℕ, ◌+◌, ◌-◌, List, ◌++◌, length, take, drop, replicate}

-- cut, or filled with zeros
abbrev pub resized : ℕ → List ℕ → List ℕ
resized size bytes = take size bytes ++ replicate (size - length bytes) 0

-- the piece stands at the offset, and a gap before it is zeros
abbrev pub overwritten : ℕ → List ℕ → List ℕ → List ℕ
overwritten offset piece bytes = resized offset bytes ++ piece ++ drop (offset + length piece) bytes
