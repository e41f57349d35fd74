-- What READDIR gives of a directory (RFC 1094, 2.2.17).
use Rattle.std.specs.Prelude.{ℕ, ◌+◌, ◌-◌, ◌*◌, ◌/◌, min, List, [], ◌∷◌, ◌++◌, ◌==◌, nat_le, if◌then◌else◌, length, drop}
use Rattle.nfs2_types.specs.declared.ListEntry.{ListEntry}
use Rattle.nfs2_types.specs.declared.NfsResult.{NfsResult}
use Rattle.nfs2_types.specs.declared.NfsResult.TheVariants.{Entries}
use Rattle.abs_model.specs.declared.entry.NameRow.{NameRow}
use Rattle.abs_model.specs.declared.entry.Entry.{Entry}
use Rattle.nfs2_types.specs.Names.{name_dot, name_dots}
use Rattle.abs_model.specs.Numbers.{transfer_limit}
use Rattle.abs_model.specs.Objects.{names_of}
use Rattle.abs_model.specs.Array.{entry_at, parent}

-- the names in order, their cookies counted from this one
abbrev pub numbered : ℕ → List NameRow → List ListEntry
numbered cookie [] = []
numbered cookie (r ∷ rs) = record { fileid = r.index + 1; name = r.name; cookie = cookie } ∷ numbered (cookie + 1) rs

-- "." with a directory's fileid, and ".." with its parent's
abbrev pub dots : ℕ → ℕ → List ListEntry
dots d parent =
    record { fileid = d + 1; name = name_dot; cookie = 1 } ∷
    record { fileid = parent + 1; name = name_dots; cookie = 2 } ∷ []

-- all entries of a directory
abbrev pub listing : List Entry → ℕ → List ListEntry
listing A d = dots d (parent A d) ++ numbered 3 (names_of (entry_at A d))

-- the words 1, fileid and cookie, and the name with its length and padding
abbrev pub room_of : ListEntry → ℕ
room_of e = 16 + (length e.name + 3) / 4 * 4

-- the longest run from the first that takes at most this room
abbrev pub fitting : ℕ → List ListEntry → List ListEntry
fitting room [] = []
fitting room (e ∷ es) = if nat_le (room_of e) room then e ∷ fitting (room - room_of e) es else []

-- the part of a list that answers a cookie and a count; eight bytes close it
abbrev pub page : List ListEntry → ℕ → ℕ → NfsResult
page es cookie count =
    let rest = drop cookie es in
    let given = fitting (min count transfer_limit - 8) rest in
    Entries given (length given == length rest)

-- the answer of a directory to a cookie and a count
abbrev pub listed : List Entry → ℕ → ℕ → ℕ → NfsResult
listed A d cookie count = page (listing A d) cookie count
