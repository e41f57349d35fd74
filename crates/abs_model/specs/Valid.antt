-- Which lists of entries are arrays of a service.
use Rattle.std.specs.Prelude.{ℕ, zero, suc, ◌<◌, ◌≤◌, ◌≡◌, ◌≢◌, List, [], ◌∷◌, Bool, true, false, not, ◌&&◌, ◌==◌, nat_le, nat_lt, if◌then◌else◌, length}
use Rattle.std.specs.List.{list_all}
use Rattle.nfs2_types.specs.declared.Limits.{Limits}
use Rattle.nfs2_types.specs.Names.{is_name}
use Rattle.nfs2_types.specs.Times.{is_time}
use Rattle.abs_model.specs.declared.entry.Attr.{Attr}
use Rattle.abs_model.specs.declared.entry.NameRow.{NameRow}
use Rattle.abs_model.specs.declared.entry.Entry.{Entry}
use Rattle.abs_model.specs.Numbers.{file_limit, text_limit}
use Rattle.abs_model.specs.Objects.{is_null, is_dir, is_link, names_of, bytes_of, attr_of, name_lt}
use Rattle.abs_model.specs.Array.{entry_at, has_row_to, links, used, is_named_by}

-- AN ENTRY BY ITSELF

-- each name lies below all that follow it
abbrev pub is_rising : List NameRow → Bool
is_rising [] = true
is_rising (r ∷ rs) = list_all (λ s. name_lt r.name s.name) rs && is_rising rs

-- the bytes that an entry may have: of a link's text, or of a file
abbrev pub most_bytes : Entry → ℕ
most_bytes e = if is_link e then text_limit else file_limit

-- the microseconds of its times are below a million
abbrev pub times_fit : Attr → Bool
times_fit a = is_time a.atime && is_time a.mtime && is_time a.ctime

-- a mode has twelve bits, names rise and may stand in a directory, and the bytes are not too many
abbrev pub entry_fits : Entry → Bool
entry_fits e =
    nat_lt (attr_of e).mode 4096 &&
    times_fit (attr_of e) &&
    is_rising (names_of e) &&
    list_all (λ r. is_name r.name) (names_of e) &&
    nat_le (length (bytes_of e)) (most_bytes e)

-- ENTRIES AMONG EACH OTHER

-- a name leads to a live entry other than the root, of its generation
abbrev pub leads : List Entry → NameRow → Bool
leads A r = not (r.index == 0) && is_named_by r.generation (entry_at A r.index)

-- in this many steps from names to names one comes from here to i
abbrev pub Walk : List Entry → ℕ → ℕ → ℕ → Type 0
Walk A zero here i = here ≡ i
Walk A (suc k) here i = (next : ℕ) × (has_row_to next (entry_at A here) ≡ true) × Walk A k next i

-- the root leads to i in fewer steps than there are entries
abbrev pub IsReached : List Entry → ℕ → Type 0
IsReached A i = (k : ℕ) × (k < length A) × Walk A k 0 i

-- It has N entries, the first a directory; each entry fits; names lead to live entries of their
-- generation; each live entry is reached from the first; each other directory has one name; and at
-- most T bytes are in use.
pub record Valid (limits : Limits) (A : List Entry) : Type 0 where
  pub size : length A ≡ limits.n
  pub root : is_dir (entry_at A 0) ≡ true
  pub fits : (i : ℕ) → i < length A → entry_fits (entry_at A i) ≡ true
  pub lead : (d : ℕ) → d < length A → list_all (leads A) (names_of (entry_at A d)) ≡ true
  pub reached : (i : ℕ) → is_null (entry_at A i) ≡ false → IsReached A i
  pub one_name : (i : ℕ) → is_dir (entry_at A i) ≡ true → i ≢ 0 → links A i ≡ 1
  pub room : used A ≤ limits.t
