-- The needs of the fourteen kinds are true.
use Rattle.std.proofs.Common.{◌≡◌, ℕ, ◌+◌, ◌*◌, ◌^◌, ◌<◌, ◌≤◌, Bool, true, false, cond, ltb, eqb, List, [], ◌∷◌, drop, length, Option, Err, refl, ap, subst, length-append, arith, inl, inr}
use Rattle.std.specs.Prelude.{◌==◌, ◌-◌}
use Rattle.std.proofs.lemmas.Bool.{cases_lt, eqb-true, le-ltb, lt-ltb}
use Rattle.std.proofs.lemmas.Bool.Decides.{nat_tests}
use Rattle.xdr_core.specs.declared.error.XdrKind.{XdrKind}
use Rattle.xdr_core.specs.Items.{word, IsBytes, spell_word, item_in}
use Rattle.xdr_core.specs.Grammar.{Grammar}
use Rattle.xdr_core.specs.Grammar as grammar
use Rattle.log_format.specs.declared.event.Event.{Event}
use Rattle.log_format.specs.declared.event.Event.TheVariants.{RunAll, LieReply}
use Rattle.xdr_cut.specs.Cut.{Plan, plain, Means}
use Rattle.xdr_cut.specs.Needs.{least_word, most_word}
use Rattle.xdr_cut.specs.Fields.{exactly, maybe, from, any}
use Rattle.log_format.specs.Records.{micros, payload, replica, word_of, fields_of, is_kind, kind_need, event_plan}
use Rattle.xdr_cut.proofs.Cuts.{IsPlan}
use Rattle.xdr_cut.proofs.CutWords.{AreRanges, no_item, cut_short, cut_wrong, word_len, word_all, least_gives, least_big, in_range, completes}
use Rattle.xdr_cut.proofs.Fields.{is_plan}

-- one of two
if_plan : (b : Bool) (p q : Plan Event) → (b ≡ true → IsPlan p) → (b ≡ false → IsPlan q) → IsPlan (cond b p q)
if_plan true p q h k = h refl
if_plan false p q h k = k refl

any_open : AreRanges ((0, 4294967295) ∷ [])
any_open = ((omega arith, omega arith), tt)

micros_open : AreRanges ((0, 999999) ∷ [])
micros_open = ((omega arith, omega arith), tt)

replica_open : (f : ℕ) → f ≤ 2 → AreRanges ((0, 3 * f) ∷ [])
replica_open f le = ((omega arith, omega (arith, le)), tt)

swap_room : (f servers : ℕ) → servers < 2 ^ 32 → (is_kind f servers 13) ≡ true →
    AreRanges ((3 * f + 1, servers - 1) ∷ [])
swap_room f servers lim e = let lt : 3 * f + 1 < servers = grind (arith, nat_tests, e) in
    ((omega (arith, lt), omega (arith, lim)), tt)

is_thirteen : (f servers kind : ℕ) → (kind == 13) ≡ true → is_kind f servers kind ≡ true → is_kind f servers 13 ≡ true
is_thirteen f servers kind e ok = let k : kind ≡ 13 = eqb-true kind 13 e in
    subst (λ (n : ℕ). is_kind f servers n ≡ true) k ok

most_three : (bytes : List ℕ) → length bytes < 4 → 3 ≤ most_word bytes
most_three [] lt = omega arith
most_three (a ∷ []) lt = omega arith
most_three (a ∷ b ∷ []) lt = omega arith
most_three (a ∷ b ∷ d ∷ []) lt = omega arith
most_three (a ∷ b ∷ d ∷ e ∷ bytes) lt = absurd (omega arith)

fields_plan : (f servers kind : ℕ) → f ≤ 2 → servers < 2 ^ 32 → is_kind f servers kind ≡ true →
    IsPlan (fields_of f servers kind)
unfolding fields_of
fields_plan f servers kind le lim ok =
    let r = replica_open f le in
    let big : 65536 < 2 ^ 32 = omega arith in
    if_plan (kind == 1) _ _
    (λ e. is_plan Event (any ∷ any ∷ micros ∷ payload ∷ []) _ (any_open, (any_open, (micros_open, (big, tt))))) λ e.
    if_plan (kind == 2) _ _ (λ e. is_plan Event (replica f ∷ []) _ (r, tt)) λ e.
    if_plan (kind == 3) _ _ (λ e. tt) λ e.
    if_plan (kind == 4) _ _ (λ e. is_plan Event (replica f ∷ []) _ (r, tt)) λ e.
    if_plan (kind == 5) _ _
    (λ e. is_plan Event (replica f ∷ from 1 4294967295 ∷ []) _ (r, (((omega arith, omega arith), tt), tt))) λ e.
    if_plan (kind == 6) _ _
    (λ e. is_plan Event (replica f ∷ any ∷ micros ∷ payload ∷ []) _ (r, (any_open, (micros_open, (big, tt))))) λ e.
    if_plan (kind == 7) _ _ (λ e. is_plan Event (replica f ∷ []) _ (r, tt)) λ e.
    if_plan (kind == 8) _ _
    (λ e. is_plan Event (replica f ∷ any ∷ any ∷ payload ∷ []) _ (r, (any_open, (any_open, (big, tt))))) λ e.
    if_plan (kind == 9) _ _
    (λ e. is_plan Event (replica f ∷ any ∷ maybe 65536 ∷ []) (λ r place w. LieReply r place (word_of w))
    (r, (any_open, (big, tt)))) λ e.
    if_plan (kind == 10) _ _ (λ e. is_plan Event (replica f ∷ any ∷ exactly 32 ∷ []) _ (r, (any_open, (tt, tt)))) λ e.
    if_plan (kind == 11) _ _
    (λ e. is_plan Event (replica f ∷ any ∷ any ∷ payload ∷ []) _ (r, (any_open, (any_open, (big, tt))))) λ e.
    if_plan (kind == 12) _ _ (λ e. is_plan Event (replica f ∷ []) _ (r, tt)) λ e.
    if_plan (kind == 13) _ _
    (λ e. is_plan Event (replica f ∷ from (3 * f + 1) (servers - 1) ∷ []) _
    (r, (swap_room f servers lim (is_thirteen f servers kind e ok), tt))) λ e.
    tt

kind_small : (f servers n : ℕ) → is_kind f servers n ≡ true → n ≤ 14
kind_small f servers n e = grind (arith, nat_tests, e)

abbrev behind_kind : ℕ → ℕ → ℕ → Grammar Event
behind_kind f servers kind = plain (fields_of f servers kind)

kind_means : (f servers : ℕ) (bytes : List ℕ) (why : Option XdrKind) → IsBytes bytes →
    item_in (word (is_kind f servers)) bytes ≡ Err why →
    Means (grammar.item (word (is_kind f servers)) (behind_kind f servers)) bytes (kind_need bytes)
unfolding fields_of
kind_means f servers bytes why fits e = elim (cases_lt (length bytes) 4) [
  | inr le ↦ let t : ltb (length bytes) 4 ≡ false = le-ltb _ _ le in
      rw t (no_item (word (is_kind f servers)) 4 (behind_kind f servers) bytes why (λ x h. word_len x) le e)
  | inl lt ↦ let t : ltb (length bytes) 4 ≡ true = lt-ltb _ _ lt in
      elim (least_big bytes lt) [
        | inl z ↦ let u : eqb (least_word bytes) 0 ≡ true = grind (arith, nat_tests, z) in
            rw (t, u) (cut_short (word (is_kind f servers)) (behind_kind f servers) bytes
            (drop (length bytes) (spell_word 3)) 3 4 0 (omega arith, refl)
            (completes bytes 3 lt fits (omega (arith, z)) (most_three bytes lt)) (least_gives RunAll)
            (word_len 3) lt
            (λ value text s. omega (arith, ap length s.3, length-append (spell_word s.0) s.1, word_len s.0)))
        | inr big ↦ let u : eqb (least_word bytes) 0 ≡ false = grind (arith, nat_tests, big) in
            rw (t, u) (cut_wrong (word (is_kind f servers)) (behind_kind f servers) bytes 4
            (word_all (is_kind f servers)) lt (λ x more behind h is.
            let r = in_range bytes more behind x lt h.0 is in omega (arith, r.0, big, kind_small f servers x h.1)))
      ]
]

pub event_is_plan : (f servers : ℕ) → f ≤ 2 → servers < 2 ^ 32 → IsPlan (event_plan f servers)
unfolding event_plan
event_is_plan f servers le lim = (kind_means f servers, λ kind fits. fields_plan f servers kind le lim fits.1)
