-- Lists of entries that are an array, and for each rule of an array lists that break it.
use Rattle.std.proofs.Common.{◌≡◌, ◌≢◌, ℕ, zero, suc, List, [], ◌∷◌, true, false, length, replicate, refl, sym, ◌∙◌, ap, arith, codes, lit<, lit≤}
use Rattle.std.specs.Prelude.{nat_le}
use Rattle.std.specs.List.{list_all}
use Rattle.std.proofs.lemmas.Bool.{false≢true, true≢false}
use Rattle.nfs2_types.specs.declared.Limits.{Limits}
use Rattle.nfs2_types.specs.declared.Time.{Time}
use Rattle.abs_model.specs.declared.entry.Attr.{Attr}
use Rattle.abs_model.specs.declared.entry.NameRow.{NameRow}
use Rattle.abs_model.specs.declared.entry.Entry.{Entry}
use Rattle.abs_model.specs.declared.entry.Object.TheVariants.{Null, File, Dir, Link}
use Rattle.abs_model.specs.Objects.{is_null, is_dir, names_of, zero_attr}
use Rattle.abs_model.specs.Array.{entry_at, links}
use Rattle.abs_model.specs.Valid.{Valid, IsReached, entry_fits, leads}

-- entries of generation 1, and a row
abbrev file_of : Attr → List ℕ → Entry
file_of attr bytes = record { generation = 1; object = File attr bytes }

abbrev file : List ℕ → Entry
file bytes = file_of zero_attr bytes

abbrev link : List ℕ → Entry
link text = record { generation = 1; object = Link zero_attr text }

abbrev dir : List NameRow → Entry
dir rows = record { generation = 1; object = Dir zero_attr rows }

abbrev row : List ℕ → ℕ → NameRow
row name index = record { name = name; index = index; generation = 1 }

-- limits with as many entries as the list has, and with so many bytes
abbrev limits_of : ℕ → List Entry → Limits
limits_of t A = record { n = length A; k = 4; t = t; f = 0 }

abbrev IsArray : List Entry → Type 0
IsArray A = Valid (limits_of 16777216 A) A

abbrev IsNoArray : List Entry → Type 0
IsNoArray A = IsArray A → ⊥

-- A FILE, A LINK, A DIRECTORY WITH A SECOND NAME OF THE FILE, AND AN ENTRY THAT IS FREE AGAIN

abbrev all_kinds : List Entry
all_kinds =
    dir (row (codes "a") 1 ∷ row (codes "b") 2 ∷ row (codes "c") 3 ∷ []) ∷
    file (codes "bytes") ∷
    link (codes "text") ∷
    dir (row (codes "a") 1 ∷ []) ∷
    record { generation = 7; object = Null } ∷ []

-- what holds of each of its entries, and past the end, holds everywhere
each_kind : (P : ℕ → Type 0) → P 0 → P 1 → P 2 → P 3 → P 4 →
    ((i : ℕ) → P (suc (suc (suc (suc (suc i)))))) → (i : ℕ) → P i
each_kind P a b c d e past zero = a
each_kind P a b c d e past (suc zero) = b
each_kind P a b c d e past (suc (suc zero)) = c
each_kind P a b c d e past (suc (suc (suc zero))) = d
each_kind P a b c d e past (suc (suc (suc (suc zero)))) = e
each_kind P a b c d e past (suc (suc (suc (suc (suc i))))) = past i

-- it is valid, where exactly the bytes that it uses may be in use: nine bytes and four names
pub all_kinds_are_valid : Valid (limits_of 2057 all_kinds) all_kinds
all_kinds_are_valid = record {
  size = refl;
  root = refl;
  fits = λ i _. each_kind (λ i. entry_fits (entry_at all_kinds i) ≡ true)
      refl refl refl refl refl (λ _. refl) i;
  lead = λ d _. each_kind (λ d. list_all (leads all_kinds) (names_of (entry_at all_kinds d)) ≡ true)
      refl refl refl refl refl (λ _. refl) d;
  reached = each_kind (λ i. is_null (entry_at all_kinds i) ≡ false → IsReached all_kinds i)
      (λ _. (0, lit< tt, refl))
      (λ _. (1, lit< tt, (1, refl, refl)))
      (λ _. (1, lit< tt, (2, refl, refl)))
      (λ _. (1, lit< tt, (3, refl, refl)))
      (λ live. absurd (true≢false live))
      (λ _ live. absurd (true≢false live));
  one_name = each_kind (λ i. is_dir (entry_at all_kinds i) ≡ true → i ≢ 0 → links all_kinds i ≡ 1)
      (λ _ other. absurd (other refl))
      (λ is _. absurd (false≢true is))
      (λ is _. absurd (false≢true is))
      (λ _ _. refl)
      (λ is _. absurd (false≢true is))
      (λ _ is _. absurd (false≢true is));
  room = lit≤ tt;
}

pub a_byte_too_many : Valid (limits_of 2056 all_kinds) all_kinds → ⊥
a_byte_too_many v = absurd (omega (arith, v.room))

-- THE FIRST ENTRY, AND THEIR NUMBER

pub no_entry : IsNoArray []
no_entry v = false≢true v.root

pub a_file_first : IsNoArray (file [] ∷ [])
a_file_first v = false≢true v.root

pub an_entry_missing : Valid (record { n = 2; k = 4; t = 16777216; f = 0 }) (dir [] ∷ []) → ⊥
an_entry_missing v = absurd (omega (arith, v.size))

-- AN ENTRY BY ITSELF

-- the array of a root with one name "a", which leads there
abbrev with_a : Entry → List Entry
with_a e = dir (row (codes "a") 1 ∷ []) ∷ e ∷ []

abbrev moment_of : ℕ → Time
moment_of micros = record { secs = 0; micros = micros }

pub a_mode_of_13_bits : IsNoArray (with_a (file_of (record zero_attr { mode = 4096 }) []))
a_mode_of_13_bits v = false≢true (v.fits 1 (lit< tt))

pub an_atime_of_a_million : IsNoArray (with_a (file_of (record zero_attr { atime = moment_of 1000000 }) []))
an_atime_of_a_million v = false≢true (v.fits 1 (lit< tt))

pub an_mtime_of_a_million : IsNoArray (with_a (file_of (record zero_attr { mtime = moment_of 1000000 }) []))
an_mtime_of_a_million v = false≢true (v.fits 1 (lit< tt))

pub a_ctime_of_a_million : IsNoArray (with_a (file_of (record zero_attr { ctime = moment_of 1000000 }) []))
a_ctime_of_a_million v = false≢true (v.fits 1 (lit< tt))

-- the bytes of a file of one more than a mebibyte, of a text of one more than 1,024
pub a_file_too_long : (bytes : List ℕ) → length bytes ≡ 1048577 → IsNoArray (with_a (file bytes))
a_file_too_long bytes long v = false≢true (sym (ap (λ n. nat_le n 1048576) long) ∙ v.fits 1 (lit< tt))

pub a_text_too_long : (text : List ℕ) → length text ≡ 1025 → IsNoArray (with_a (link text))
a_text_too_long text long v = false≢true (sym (ap (λ n. nat_le n 1024) long) ∙ v.fits 1 (lit< tt))

-- NAMES

-- a root with this name of a file, and with two
abbrev named : List ℕ → List Entry
named name = dir (row name 1 ∷ []) ∷ file [] ∷ []

abbrev twice_named : List ℕ → List ℕ → List Entry
twice_named a b = dir (row a 1 ∷ row b 1 ∷ []) ∷ file [] ∷ []

pub no_name : IsNoArray (named [])
no_name v = false≢true (v.fits 0 (lit< tt))

pub a_dot : IsNoArray (named (codes "."))
a_dot v = false≢true (v.fits 0 (lit< tt))

pub two_dots : IsNoArray (named (codes ".."))
two_dots v = false≢true (v.fits 0 (lit< tt))

pub a_slash : IsNoArray (named (codes "a/b"))
a_slash v = false≢true (v.fits 0 (lit< tt))

pub a_zero_byte : IsNoArray (named (97 ∷ 0 ∷ []))
a_zero_byte v = false≢true (v.fits 0 (lit< tt))

pub a_name_of_256 : IsNoArray (named (replicate 256 97))
a_name_of_256 v = false≢true (v.fits 0 (lit< tt))

pub a_name_twice : IsNoArray (twice_named (codes "a") (codes "a"))
a_name_twice v = false≢true (v.fits 0 (lit< tt))

pub names_that_fall : IsNoArray (twice_named (codes "b") (codes "a"))
names_that_fall v = false≢true (v.fits 0 (lit< tt))

-- WHERE NAMES LEAD

pub a_name_of_the_root : IsNoArray (dir (row (codes "a") 0 ∷ []) ∷ [])
a_name_of_the_root v = false≢true (v.lead 0 (lit< tt))

pub a_name_of_nothing : IsNoArray (with_a (record { generation = 1; object = Null }))
a_name_of_nothing v = false≢true (v.lead 0 (lit< tt))

pub a_name_past_the_end : IsNoArray (dir (row (codes "a") 1 ∷ []) ∷ [])
a_name_past_the_end v = false≢true (v.lead 0 (lit< tt))

pub a_name_of_an_older_object : IsNoArray (with_a (record { generation = 2; object = File zero_attr [] }))
a_name_of_an_older_object v = false≢true (v.lead 0 (lit< tt))

-- WHAT IS REACHED

one : ◌≢◌ {A = ℕ} 1 0
one e = absurd (omega (arith, e))

-- a root without names leads nowhere else
rootless : (es : List Entry) (i : ℕ) → i ≢ 0 → IsReached (dir [] ∷ es) i → ⊥
rootless es i other (zero, _, here) = other (sym here)
rootless es i other (suc k, _, step) = false≢true step.1

pub a_file_without_a_name : IsNoArray (dir [] ∷ file [] ∷ [])
a_file_without_a_name v = rootless (file [] ∷ []) 1 one (v.reached 1 refl)

abbrev of_each_other : List Entry
of_each_other = dir (row (codes "a") 2 ∷ []) ∷ dir (row (codes "b") 1 ∷ []) ∷ []

pub two_directories_of_each_other : IsNoArray (dir [] ∷ of_each_other)
two_directories_of_each_other v = rootless of_each_other 1 one (v.reached 1 refl)

pub a_directory_with_two_names : IsNoArray (dir (row (codes "a") 1 ∷ row (codes "b") 1 ∷ []) ∷ dir [] ∷ [])
a_directory_with_two_names v = absurd (omega (arith, v.one_name 1 refl one))
