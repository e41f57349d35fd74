-- The results of calls: each has a spelling, and calls that read change nothing.
use Rattle.std.proofs.Common.{◌≡◌, ◌≢◌, ◌≤◌, ◌<◌, ℕ, Bool, true, false, not, cond, List, [], ◌∷◌, length, Option, Some, None, All, refl, sym, ap, subst, arith, inl, inr}
use Rattle.std.specs.Prelude.{is_some, map, min, drop, ◌==◌, ◌&&◌, ◌-◌, ◌+◌, nat_le, if◌then◌else◌}
use Rattle.std.specs.List.{list_all}
use Rattle.std.proofs.lemmas.Bool.{and_parts, not-true, not-false, eqb-false, leb-true, cases_lt}
use Rattle.std.proofs.lemmas.List.{get_or_past, get_or-drop, length-drop, length-take}
use Rattle.std.proofs.lemmas.List.Elements.{All-nil, All-cons, All-head, All-tail}
use Rattle.nfs2_types.specs.declared.Limits.{Limits}
use Rattle.nfs2_types.specs.declared.Time.{Time}
use Rattle.nfs2_types.specs.declared.Cred.{Cred}
use Rattle.nfs2_types.specs.declared.Stat.{Stat}
use Rattle.nfs2_types.specs.declared.ListEntry.{ListEntry}
use Rattle.nfs2_types.specs.declared.NfsResult.{NfsResult}
use Rattle.nfs2_types.specs.declared.NfsResult.TheVariants as Result
use Rattle.nfs2_types.specs.Call.{Call, null, root, write_cache, get_attr, lookup, read_link, read, read_dir, stat_fs}
use Rattle.nfs2_types.specs.Names.{is_name, is_bad, is_dot, name_dot, name_dots}
use Rattle.nfs2_results.specs.Spelling.{HasSpelling}
use Rattle.abs_model.specs.declared.Entry.{Entry}
use Rattle.abs_model.specs.declared.NameRow.{NameRow}
use Rattle.abs_model.specs.Objects.{is_link, names_of, bytes_of}
use Rattle.abs_model.specs.Array.{changed, entry_at, null_entry, at, parent}
use Rattle.abs_model.specs.Listed.{numbered, listing, room_of, fitting}
use Rattle.abs_model.specs.Machine.{Refusal, first_of, refusals, changes, answer, effect, array_after, result_of, told}
use Rattle.abs_model.specs.Valid.{Valid, most_bytes}
use Rattle.abs_model.proofs.Shapes.{fits_parts}
use Rattle.abs_model.proofs.Facts.{none_holds, live_at}
use Rattle.wrap_read.specs.Reads.{is_read_call}

-- CALLS THAT CHANGE NOTHING

pub no_effect : (A : List Entry) (limits : Limits) (cred : Cred) (t : Time) (call : Call) →
    changes A cred t call ≡ [] → effect A limits cred t call ≡ []
unfolding effect
no_effect A limits cred t call none = by (is_some (first_of (refusals A limits call)))
  where
    by : (b : Bool) → cond b [] (changes A cred t call) ≡ []
    by true = refl
    by false = none

no_change : (A : List Entry) (limits : Limits) (cred : Cred) (t : Time) (call : Call) →
    changes A cred t call ≡ [] → array_after A limits cred t call ≡ A
unfolding array_after
no_change A limits cred t call none = ap (λ cs. changed cs A) (no_effect A limits cred t call none)

no_changes : (A : List Entry) (cred : Cred) (t : Time) (call : Call) → is_read_call call ≡ true →
    changes A cred t call ≡ []
no_changes A cred t null h = refl
no_changes A cred t root h = refl
no_changes A cred t write_cache h = refl
no_changes A cred t (get_attr node) h = refl
no_changes A cred t (lookup dir name) h = refl
no_changes A cred t (read_link node) h = refl
no_changes A cred t (read file offset count) h = refl
no_changes A cred t (read_dir dir cookie count) h = refl
no_changes A cred t (stat_fs node) h = refl
no_changes A cred t _ h = absurd (let bad : false ≡ true = h in cc)

pub read_array : (A : List Entry) (limits : Limits) (cred : Cred) (t : Time) (call : Call) →
    is_read_call call ≡ true → array_after A limits cred t call ≡ A
read_array A limits cred t call h = no_change A limits cred t call (no_changes A cred t call h)

pub read_told : (A : List Entry) (limits : Limits) (cred : Cred) (t : Time) (call : Call) →
    is_read_call call ≡ true → told A limits cred t call ≡ []
unfolding told
read_told A limits cred t call h = ap (map (λ c. c.index))
    (no_effect A limits cred t call (no_changes A cred t call h))

-- WHAT IS REFUSED HAS A SPELLING

-- its status is not OK
abbrev is_error : Refusal → Bool
is_error r = not (r.stat.0 == 0)

all_errors : (A : List Entry) (limits : Limits) (call : Call) →
    list_all is_error (refusals A limits call) ≡ true
all_errors A limits null = refl
all_errors A limits _ = refl

first_error : (rs : List Refusal) → list_all is_error rs ≡ true → (s : Stat) → first_of rs ≡ Some s → s.0 ≢ 0
first_error [] h s e = absurd (let bad : None ≡ Some s = e in cc)
first_error (r ∷ rs) h s e = let k = and_parts (is_error r) (list_all is_error rs) h in
    by r.holds k.0 (first_error rs k.1 s) e
  where
    by : (b : Bool) → is_error r ≡ true → (first_of rs ≡ Some s → s.0 ≢ 0) →
        cond b (Some r.stat) (first_of rs) ≡ Some s → s.0 ≢ 0
    by true h rest e =
        let same : r.stat ≡ s = (let h : Some r.stat ≡ Some s = e in cc) in
        subst (λ (x : Stat). x.0 ≢ 0) same (eqb-false r.stat.0 0 (not-true (r.stat.0 == 0) h))
    by false h rest e = rest e

refused_spelled : (rs : List Refusal) (other : NfsResult) → list_all is_error rs ≡ true →
    (first_of rs ≡ None → HasSpelling other) →
    HasSpelling (elim (first_of rs) [ Some s ↦ Result.Refused s | None ↦ other ])
refused_spelled rs other errors spelled = by (first_of rs) refl
  where
    by : (o : Option Stat) → first_of rs ≡ o → HasSpelling
        (elim o [ Some s ↦ Result.Refused s | None ↦ other ])
    by (Some s) e = first_error rs errors s e
    by None e = spelled e

-- NAMES AND TEXTS OF A VALID ARRAY

abbrev IsShort : ListEntry → Type 0
IsShort e = length e.name ≤ 255

short_name : (name : List ℕ) → is_name name ≡ true → length name ≤ 255
short_name name h =
    let a = and_parts (not (is_bad name) && nat_le (length name) 255) (not (is_dot name)) h in
    leb-true (length name) 255 (and_parts (not (is_bad name)) (nat_le (length name) 255) a.0).1

numbered_short : (c : ℕ) (rows : List NameRow) → list_all (λ (r : NameRow). is_name r.name) rows ≡ true →
    All IsShort (numbered c rows)
numbered_short c [] h = All-nil IsShort
numbered_short c (r ∷ rs) h =
    let k = and_parts (is_name r.name) (list_all (λ (r : NameRow). is_name r.name) rs) h in
    All-cons IsShort (record { fileid = r.index + 1; name = r.name; cookie = c }) (numbered (c + 1) rs)
    (short_name r.name k.0) (numbered_short (c + 1) rs k.1)

drop_short : (n : ℕ) (es : List ListEntry) → All IsShort es → All IsShort (drop n es)
drop_short n es h k d below = let l = length-drop n es in
    subst IsShort (sym (get_or-drop n es k d)) (h (n + k) d (omega arith))

fitting_short : (room : ℕ) (es : List ListEntry) → All IsShort es → All IsShort (fitting room es)
fitting_short room [] h = h
fitting_short room (e ∷ es) h =
    elim (nat_le (room_of e) room) as
    (λ b. All IsShort (if b then e ∷ fitting (room - room_of e) es else [])) [
      | true ↦ All-cons IsShort e (fitting (room - room_of e) es) (All-head IsShort e es h)
          (fitting_short (room - room_of e) es (All-tail IsShort e es h))
      | false ↦ All-nil IsShort
    ]

module _ (limits : Limits) (A : List Entry) (valid : Valid limits A) where
  rows_named : (d : ℕ) → list_all (λ (r : NameRow). is_name r.name) (names_of (entry_at A d)) ≡ true
  rows_named d = elim (cases_lt d (length A)) [
    | inl below ↦ (fits_parts (entry_at A d) (valid.fits d below)).named
    | inr past ↦ ap (λ (e : Entry). list_all (λ (r : NameRow). is_name r.name) (names_of e))
        (get_or_past A d null_entry past)
  ]

  listing_short : (d : ℕ) → All IsShort (listing A d)
  listing_short d =
      let names : List ListEntry = numbered 3 (names_of (entry_at A d)) in
      let parent : ListEntry = record { fileid = parent A d + 1; name = name_dots; cookie = 2 } in
      let itself : ListEntry = record { fileid = d + 1; name = name_dot; cookie = 1 } in
      All-cons IsShort itself (parent ∷ names) (omega arith)
      (All-cons IsShort parent names (omega arith)
      (numbered_short 3 (names_of (entry_at A d)) (rows_named d)))

  text_short : (i : ℕ) → i < length A → is_link (entry_at A i) ≡ true →
      length (bytes_of (entry_at A i)) ≤ 1024
  text_short i below link =
      let most = leb-true (length (bytes_of (entry_at A i))) (most_bytes (entry_at A i))
      (fits_parts (entry_at A i) (valid.fits i below)).bytes in
      let same : most_bytes (entry_at A i) ≡ 1024 = ap (λ b. if b then 1024 else 1048576) link in
      omega (arith, most, same)

-- EACH RESULT HAS A SPELLING

module _ (limits : Limits) (A : List Entry) (valid : Valid limits A) (cred : Cred) (t : Time) where
  answer_spelled : (call : Call) → first_of (refusals A limits call) ≡ None →
      HasSpelling (answer A (array_after A limits cred t call) limits call)
  answer_spelled (read_link node) none =
      let f = none_holds (refusals A limits (read_link node)) none in
      text_short limits A valid (at A node) (live_at A node f.0).below
      (not-false (is_link (entry_at A (at A node))) f.1.0)
  answer_spelled (read file offset count) none =
      let n = length-take (min count 8192) (drop offset (bytes_of (entry_at A (at A file)))) in
      omega (arith, n)
  answer_spelled (read_dir dir cookie count) none =
      let rest = λ (B : List Entry). drop cookie (listing B (at A dir)) in
      fitting_short (min count 8192 - 8) (rest (array_after A limits cred t (read_dir dir cookie count)))
      (subst (λ (B : List Entry). All IsShort (rest B))
      (sym (no_change A limits cred t (read_dir dir cookie count) refl))
      (drop_short cookie (listing A (at A dir)) (listing_short limits A valid (at A dir))))
  answer_spelled _ none = tt

  pub result_spelled : (call : Call) → HasSpelling (result_of A limits cred t call)
  unfolding result_of
  result_spelled call =
      refused_spelled (refusals A limits call) (answer A (array_after A limits cred t call) limits call)
      (all_errors A limits call) (answer_spelled call)
