-- Scanning gives exactly the values, and else what the bytes need.
use Rattle.std.proofs.Common.{◌≡◌, ℕ, ◌+◌, ◌≤◌, List, ◌++◌, length, take, drop, Option, Some, None, Result, Ok, Err, refl, sym, ap, subst, ◌∙◌, append_assoc, length-append, arith, inl, inr}
use Rattle.std.proofs.lemmas.List.{take_at, take-append-drop, take-append-le}
use Rattle.std.proofs.lemmas.Bool.{cases_lt}
use Rattle.xdr_core.specs.Items.{item_in}
use Rattle.std.specs.Prelude.{IsOkAnd, IsOk}
use Rattle.xdr_core.specs.Grammar.{Cursor, Stop, placed, item_at, reads, Grammar, Spells, ◌>>=◌}
use Rattle.xdr_core.proofs.Formats.{reads_found, reads_again, no_prefix}
use Rattle.xdr_core.proofs.ItemLaws.{IsBytes}
use Rattle.xdr_cut.specs.declared.error.CutErr.{CutErr}
use Rattle.xdr_cut.specs.declared.error.CutErr.TheVariants.{Short, Wrong}
use Rattle.xdr_cut.specs.declared.error.ScanErr.{ScanErr}
use Rattle.xdr_cut.specs.declared.error.ScanErr.TheVariants as errors
use Rattle.xdr_cut.specs.Cut.{IsShort, IsNoStart, Means, Plan, gives, item, plain, cut_err, scan_item, scans, Begins, ScansFront, IsScan}
use Rattle.xdr_cut.proofs.Cuts.{IsPlan, scanned_ok, scans_stop}

-- ---- scanning gives exactly the values

bind_ok : {A B E : Type 0} (r : Result A E) (f : A → Result B E) (y : B) → (r >>= f) ≡ Ok y →
    (x : A) × (r ≡ Ok x) × (f x ≡ Ok y)
bind_ok (Ok x) f y e = (x, refl, e)
bind_ok (Err k) f y e = absurd cc

pub scans_reads : {A : Type 0} (p : Plan A) (c : Cursor) (x : A × Cursor) → scans p c ≡ Ok x → reads (plain p) c ≡ Ok x
unfolding scan_item item_at
scans_reads (gives a) c x e = let same : (a, c) ≡ x = cc in ap (λ y. Ok y) same
scans_reads (item i need next) c x e =
    let b = bind_ok (scan_item i need c) (λ y. scans (next y.0) y.1) x e in
    let w = scanned_ok c (need c.rest) (item_in i c.rest) b.0 b.1 in
    let one : item_at i c ≡ Ok b.0 = ap (placed c) w.1 ∙ ap (λ (d : Cursor). Ok (b.0.0, d)) (sym w.2) in
    ap (λ r. r >>= λ y. reads (plain (next y.0)) y.1) one ∙ scans_reads (next b.0.0) b.0.1 x b.2

zero_plus : (n : ℕ) → 0 + n ≡ n
zero_plus n = omega arith

abbrev start : List ℕ → Cursor
start bytes = record { at = 0; rest = bytes }

short_is : {A : Type 0} (g : Grammar A) (bytes : List ℕ) (m : Option ℕ) (need : ℕ) → cut_err 0 m ≡ Short need →
    Means g bytes m → IsShort g bytes need
short_is g bytes None need e h = absurd cc
short_is g bytes (Some n) need e h = let same : 0 + n ≡ need = cc in
    subst (λ (k : ℕ). IsShort g bytes k) (sym (zero_plus n) ∙ same) h

wrong_is : {A : Type 0} (g : Grammar A) (bytes : List ℕ) (m : Option ℕ) → cut_err 0 m ≡ Wrong → Means g bytes m →
    IsNoStart g bytes
wrong_is g bytes None e h = h
wrong_is g bytes (Some n) e h = absurd cc

pub begins_at : {A : Type 0} (p : Plan A) (bytes : List ℕ) (y : A × Cursor) → IsBytes bytes →
    scans p (start bytes) ≡ Ok y → Begins (plain p) bytes y.0 y.1.at
begins_at p bytes y fits e =
    let f = reads_found (plain p) (start bytes) y fits (scans_reads p (start bytes) y e) in
    (f.text, y.1.rest, f.spells, f.parts, f.place ∙ zero_plus (length f.text))

found_at : {A : Type 0} (p : Plan A) (bytes : List ℕ) (r : Result (A × Cursor) CutErr) (value : A) (n : ℕ) →
    IsBytes bytes → scans p (start bytes) ≡ r → IsOkAnd r (λ y. (y.0 ≡ value) × (y.1.at ≡ n)) →
    Begins (plain p) bytes value n
found_at p bytes (Ok y) value n fits e h = subst (λ v. Begins (plain p) bytes v n) h.0
    (subst (λ (k : ℕ). Begins (plain p) bytes y.0 k) h.1 (begins_at p bytes y fits e))
found_at p bytes (Err d) value n fits e h = absurd h

same_read : {A : Type 0} (v w : A) (c d : Cursor) → (let r : Result (A × Cursor) Stop = Ok (v, c) in r) ≡ Ok (w, d) →
    (v ≡ w) × (c.at ≡ d.at)
same_read {A = A} v w c d e = let a : A × Cursor = (v, c) in let b : A
    × Cursor = (w, d) in let p : a ≡ b = cc in (ap (λ z. z.0) p, ap (λ z. z.1.at) p)

-- bytes begin with one value at most
one_value : {A : Type 0} (g : Grammar A) (bytes : List ℕ) (v w : A) (m n : ℕ) → Begins g bytes v m →
    Begins g bytes w n → (v ≡ w) × (m ≡ n)
one_value g bytes v w m n s t =
    let p = ap (λ (z : List ℕ). reads g (start z)) s.3 ∙ reads_again g v s.0 s.1 0 s.2 in
    let q = ap (λ (z : List ℕ). reads g (start z)) t.3 ∙ reads_again g w t.0 t.1 0 t.2 in
    let e = same_read v w _ _ (sym p ∙ q) in
    (e.0, s.4 ∙ sym (zero_plus (length s.0)) ∙ e.1 ∙ zero_plus (length t.0) ∙ sym t.4)

-- bytes that begin with a value are not short
pub not_short : {A : Type 0} (g : Grammar A) (bytes : List ℕ) (value : A) (n need : ℕ) → Begins g bytes value n →
    IsShort g bytes need → ⊥
not_short g bytes value n need s h =
    let e : bytes ++ h.attained.1 ≡ s.0 ++ (s.1 ++ h.attained.1) = ap (λ (z : List ℕ). z ++ h.attained.1) s.3
    ∙ append_assoc s.0 s.1 h.attained.1 in
    let t : Spells g h.attained.0 (s.0 ++ (s.1 ++ h.attained.1)) = subst
    (λ (z : List ℕ). Spells g h.attained.0 z) e h.attained.2 in
    let none = (no_prefix g value h.attained.0 s.0 (s.1 ++ h.attained.1) s.2 t).0 in
    omega (
      arith,
      h.proper,
      h.attained.3,
      length-append bytes h.attained.1,
      ap length none,
      length-append s.1 h.attained.1,
    )

abbrev err : {X : Type 0} → ScanErr → Result X ScanErr
err e = Err e

err_is : {X : Type 0} (d e : ScanErr) → err {X = X} d ≡ Err e → d ≡ e
err_is d e h = cc

need_is : (m n : ℕ) → errors.Short m ≡ errors.Short n → m ≡ n
need_is m n e = cc

ok_no_err : {X : Type 0} (x : X) (e : ScanErr) → (let r : Result X ScanErr = Ok x in r) ≡ Err e → ⊥
ok_no_err x e h = cc

not_ok : {A : Type 0} (r : Result (A × Cursor) CutErr) → IsOk r → (y : A × Cursor) × (r ≡ Ok y)
not_ok (Ok y) h = (y, refl)
not_ok (Err e) h = absurd cc

pub is_scan : {X Y : Type 0} (view : X → Y × ℕ) (p : Plan Y) (bytes : List ℕ) (r : Result X ScanErr) → IsPlan p →
    IsBytes bytes → ScansFront view r (scans p (start bytes)) → IsScan view (plain p) bytes r
is_scan view p bytes (Ok x) h fits s =
    let f = found_at p bytes (scans p (start bytes)) (view x).0 (view x).1 fits refl s in
    record {
      found = f;
      only = λ value n b. one_value (plain p) bytes (view x).0 value (view x).1 n f b;
      short = λ need e. absurd (ok_no_err x (errors.Short need) e);
      wrong = λ e. absurd (ok_no_err x errors.Wrong e);
      memory = λ e. absurd (ok_no_err x errors.NoMemory e);
    }
is_scan view p bytes (Err (errors.Short need)) h fits s =
    let w = scans_stop p (start bytes) (Short need) h fits s in
    let short : IsShort (plain p) bytes need = short_is (plain p) bytes w.0 need (sym w.1) w.2 in
    record {
      found = tt;
      only = λ value n b. not_short (plain p) bytes value n need b short;
      short = λ k e. subst (λ (j : ℕ). IsShort (plain p) bytes j)
          (need_is need k (err_is (errors.Short need) (errors.Short k) e)) short;
      wrong = λ e. absurd cc;
      memory = λ e. absurd cc;
    }
is_scan view p bytes (Err errors.Wrong) h fits s =
    let w = scans_stop p (start bytes) Wrong h fits s in
    let none : IsNoStart (plain p) bytes = wrong_is (plain p) bytes w.0 (sym w.1) w.2 in
    record {
      found = tt;
      only = λ value n b. none.none_before value b.0 b.1 b.2 b.3;
      short = λ k e. absurd cc;
      wrong = λ e. none;
      memory = λ e. absurd cc;
    }
is_scan view p bytes (Err errors.NoMemory) h fits s =
    let y = not_ok (scans p (start bytes)) s in
    record {
      found = tt;
      only = λ value n b. tt;
      short = λ k e. absurd cc;
      wrong = λ e. absurd cc;
      memory = λ e. (y.0.0, y.0.1.at, begins_at p bytes y.0 fits y.1);
    }

-- of two fronts of the same bytes the longer begins with the other
pub overlap : (a b c d : List ℕ) → a ++ b ≡ c ++ d → length c ≤ length a → a ≡ c ++ drop (length c) a
overlap a b c d e le =
    let same : take (length c) a ≡ c = sym (take-append-le (length c) a b le) ∙ ap (take (length c)) e
    ∙ take_at c d (length c) refl in
    sym (take-append-drop (length c) a) ∙ ap (λ (t : List ℕ). t ++ drop (length c) a) same

-- behind a short front no value ends before the need
pub not_before : {A : Type 0} (g : Grammar A) (front piece : List ℕ) (need : ℕ) (value : A) (n : ℕ) →
    IsShort g front need → Begins g (front ++ piece) value n → need ≤ n
not_before g front piece need value n h b = elim (cases_lt (length b.0) (length front)) [
  | inl lt ↦ absurd (not_short g front value (length b.0) need
      (b.0, drop (length b.0) front, b.2, overlap front piece b.0 b.1 b.3 (omega arith), refl) h)
  | inr le ↦
      let parts : b.0 ≡ front ++ drop (length front) b.0 = overlap b.0 b.1 front piece (sym b.3) le in
      let least = h.least value (drop (length front) b.0) (subst (λ (t : List ℕ). Spells g value t) parts b.2) in
      omega (arith, least, ap length (sym parts), b.4)
]

-- a short front that is filled up to its need has no value that ends before
pub taken_whole : {A : Type 0} (g : Grammar A) (front new : List ℕ) (need : ℕ) (value : A) (n : ℕ) →
    IsShort g front need → length (front ++ new) ≡ need → Begins g (front ++ new) value n → n ≡ need
taken_whole g front new need value n h len b = omega
    (arith, not_before g front new need value n h b, len, ap length b.3, length-append b.0 b.1, b.4)

-- ---- short and wrong come wherever they hold

same_need : {A : Type 0} (g : Grammar A) (bytes : List ℕ) (m n : ℕ) → IsShort g bytes m → IsShort g bytes n → m ≡ n
same_need g bytes m n s t =
    let a = s.least t.attained.0 t.attained.1 t.attained.2 in
    let b = t.least s.attained.0 s.attained.1 s.attained.2 in
    omega (arith, a, b, s.attained.3, t.attained.3)

pub exact_short : {X Y : Type 0} (view : X → Y × ℕ) (g : Grammar Y) (bytes : List ℕ) (r : Result X ScanErr) →
    IsScan view g bytes r → (need : ℕ) → IsShort g bytes need → r ≡ Err (errors.Short need)
exact_short view g bytes (Ok x) h need s = absurd (not_short g bytes (view x).0 (view x).1 need h.found s)
exact_short view g bytes (Err (errors.Short n)) h need s = ap (λ (k : ℕ). Err (errors.Short k))
    (same_need g bytes n need (h.short n refl) s)
exact_short view g bytes (Err errors.Wrong) h need s = absurd
    ((h.wrong refl).none_behind s.attained.0 s.attained.1 s.attained.2)
exact_short view g bytes (Err errors.NoMemory) h need s = let m = h.memory refl in
    absurd (not_short g bytes m.0 m.1 need m.2 s)

pub exact_wrong : {X Y : Type 0} (view : X → Y × ℕ) (g : Grammar Y) (bytes : List ℕ) (r : Result X ScanErr) →
    IsScan view g bytes r → IsNoStart g bytes → r ≡ Err errors.Wrong
exact_wrong view g bytes (Ok x) h none = absurd (none.none_before (view x).0 h.found.0 h.found.1 h.found.2 h.found.3)
exact_wrong view g bytes (Err (errors.Short n)) h none = let s = h.short n refl in
    absurd (none.none_behind s.attained.0 s.attained.1 s.attained.2)
exact_wrong view g bytes (Err errors.Wrong) h none = refl
exact_wrong view g bytes (Err errors.NoMemory) h none = let m = h.memory refl in
    absurd (none.none_before m.0 m.2.0 m.2.1 m.2.2 m.2.3)
