-- Reading entries: as many as there are bytes is no limit.
use Rattle.std.proofs.Common.{◌≡◌, ℕ, zero, suc, ◌<◌, ◌≤◌, Bool, true, false, cond, ltb, List, [], ◌∷◌, ◌++◌, length}
use Rattle.std.proofs.Common.{take, drop, Option, Some, Result, Ok, Err, refl, sym, ap, ◌∙◌, length-drop, arith}
use Rattle.std.specs.Prelude.{◌==◌}
use Rattle.std.specs.Int.{w32, from_be_bytes}
use Rattle.std.proofs.lemmas.Bool.{ltb-false}
use Rattle.nfs2_types.specs.declared.results.ListEntry.{ListEntry}
use Rattle.xdr_core.specs.declared.error.XdrKind.{XdrKind}
use Rattle.xdr_core.specs.declared.error.XdrKind.TheVariants.{Short, BadBool}
use Rattle.xdr_core.specs.Items.{Item, Value, boolean, item_in}
use Rattle.xdr_core.specs.Grammar.{Cursor, Stop, Grammar, gives, item, skip, placed, item_at, ◌>>=◌, reads, and_then}
use Rattle.xdr_core.proofs.Sequence.{reads_then}
use Rattle.nfs2_results.specs.declared.error.ResErr.{ResErr}
use Rattle.nfs2_results.specs.declared.error.ResErr.TheVariants.{Xdr, NoMemory}
use Rattle.nfs2_results.specs.Reading.{FailsAs}
use Rattle.nfs2_results.specs.Forms.{entry_form, last_word, entries_form}

-- ---- what is read leaves no more bytes

bind_ok : {A B E : Type 0} (r : Result A E) (f : A → Result B E) (y : B) → (r >>= f) ≡ Ok y → (x : A) × (r ≡ Ok x)
    × (f x ≡ Ok y)
bind_ok (Ok x) f y e = (x, refl, e)
bind_ok (Err k) f y e = absurd cc

bind_same : {A B E : Type 0} (r : Result A E) (f g : A → Result B E) → ((x : A) → r ≡ Ok x → f x ≡ g x)
    → (r >>= f) ≡ (r >>= g)
bind_same (Ok x) f g same = same x refl
bind_same (Err k) f g same = refl

placed_shorter : {V : Type 0} (c : Cursor) (r : Result (V × ℕ) (Option XdrKind)) (x : V × Cursor) → placed c r ≡ Ok x
    → length x.1.rest ≤ length c.rest
placed_shorter c (Ok y) x e =
    let same : (y.0, skip y.1 c) ≡ x = cc in
    let rest : drop y.1 c.rest ≡ x.1.rest = ap (λ p. p.1.rest) same in
    omega (arith, ap length rest, length-drop y.1 c.rest)
placed_shorter c (Err k) x e = absurd cc

pub item_shorter : (i : Item) (c : Cursor) (x : Value i × Cursor) → item_at i c ≡ Ok x → length x.1.rest ≤ length c.rest
unfolding item_at
item_shorter i c x e = placed_shorter c (item_in i c.rest) x e

pub reads_shorter : {A : Type 0} (g : Grammar A) (c : Cursor) (x : A × Cursor) → reads g c ≡ Ok x
    → length x.1.rest ≤ length c.rest
reads_shorter (gives a) c x e = let same : c ≡ x.1 = cc in omega (arith, ap (λ (d : Cursor). length d.rest) same)
reads_shorter (item i next) c x e =
    let b = bind_ok (item_at i c) (λ y. reads (next y.0) y.1) x e in
    omega (arith, item_shorter i c b.0 b.1, reads_shorter (next b.0.0) b.0.1 x b.2)

-- a bool takes four bytes
bool_at : (c : Cursor) (short bad : Bool) (b : Bool) (x : Bool × Cursor) → ltb (length c.rest) 4 ≡ short
    → placed c (cond short (Err (Some Short)) (cond bad (Err (Some BadBool)) (Ok (b, 4)))) ≡ Ok x
    → length x.1.rest < length c.rest
bool_at c true bad b x is e = absurd cc
bool_at c false true b x is e = absurd cc
bool_at c false false b x is e =
    let same : (b, skip 4 c) ≡ x = cc in
    let rest : drop 4 c.rest ≡ x.1.rest = ap (λ p. p.1.rest) same in
    omega (arith, ltb-false (length c.rest) 4 is, ap length rest, length-drop 4 c.rest)

pub bool_shorter : (c : Cursor) (x : Bool × Cursor) → item_at boolean c ≡ Ok x → length x.1.rest < length c.rest
unfolding item_at item_in
bool_shorter c x e = bool_at c (ltb (length c.rest) 4) (ltb 1 (from_be_bytes w32 (take 4 c.rest)))
    (from_be_bytes w32 (take 4 c.rest) == 1) x refl e

-- ---- the limit

abbrev short_at : Cursor → Stop
short_at c = record { at = c.at; why = Some Short }

no_bool : (c : Cursor) → length c.rest ≡ 0 → item_at boolean c ≡ Err (short_at c)
unfolding item_at item_in
no_bool c none = rw none refl

no_last : (c : Cursor) → length c.rest ≡ 0 → item_at last_word c ≡ Err (short_at c)
unfolding item_at item_in
no_last c none = rw none refl

-- what reading gives behind a bool
abbrev behind_bool : ℕ → List ListEntry → Bool × Cursor → Result (List ListEntry × Cursor) Stop
behind_bool limit before x = reads (cond x.0 (and_then entry_form (λ e. entries_form limit (before ++ e ∷ [])))
    (gives before)) x.1

abbrev IsEnough : ℕ → ℕ → Type 0
IsEnough n m = (before : List ListEntry) (c : Cursor) → length c.rest ≤ n → length c.rest ≤ m
    → reads (entries_form n before) c ≡ reads (entries_form m before) c

enough_behind : (n m : ℕ) → IsEnough n m → (before : List ListEntry) (more : Bool) (c : Cursor) → length c.rest ≤ n
    → length c.rest ≤ m → behind_bool n before (more, c) ≡ behind_bool m before (more, c)
enough_behind n m same before false c p q = refl
enough_behind n m same before true c p q =
    reads_then entry_form (λ e. entries_form n (before ++ e ∷ [])) c
    ∙ bind_same (reads entry_form c) (λ y. reads (entries_form n (before ++ y.0 ∷ [])) y.1)
    (λ y. reads (entries_form m (before ++ y.0 ∷ [])) y.1)
    (λ y is. same (before ++ y.0 ∷ []) y.1 (omega (arith, p, reads_shorter entry_form c y is))
    (omega (arith, q, reads_shorter entry_form c y is)))
    ∙ sym (reads_then entry_form (λ e. entries_form m (before ++ e ∷ [])) c)

pub enough : (n m : ℕ) (before : List ListEntry) (c : Cursor) → length c.rest ≤ n → length c.rest ≤ m
    → reads (entries_form n before) c ≡ reads (entries_form m before) c
unfolding entries_form
enough zero zero before c p q = refl
enough zero (suc m) before c p q = let none : length c.rest ≡ 0 = omega (arith, p) in
    rw (no_last c none, no_bool c none) refl
enough (suc n) zero before c p q = let none : length c.rest ≡ 0 = omega (arith, q) in
    rw (no_last c none, no_bool c none) refl
enough (suc n) (suc m) before c p q =
    bind_same (item_at boolean c) (behind_bool n before) (behind_bool m before)
    (λ x is. enough_behind n m (λ b d. enough n m b d) before x.0 x.1 (omega (arith, p, bool_shorter c x is))
    (omega (arith, q, bool_shorter c x is)))

-- ---- the ways of a loop

-- one more turn is made than there are bytes
one_turn : (before : List ListEntry) (c : Cursor) → reads (entries_form (length c.rest) before) c ≡
    (item_at boolean c >>= behind_bool (length c.rest) before)
unfolding entries_form
one_turn before c = enough (length c.rest) (suc (length c.rest)) before c (omega arith) (omega arith)

pub entries_end : (before : List ListEntry) (c d : Cursor) → item_at boolean c ≡ Ok (false, d)
    → reads (entries_form (length c.rest) before) c ≡ Ok (before, d)
entries_end before c d is = one_turn before c ∙ ap (λ r. r >>= behind_bool (length c.rest) before) is

pub bool_stops : (before : List ListEntry) (c : Cursor) (stop : Stop) → item_at boolean c ≡ Err stop
    → reads (entries_form (length c.rest) before) c ≡ Err stop
bool_stops before c stop is = one_turn before c ∙ ap (λ r. r >>= behind_bool (length c.rest) before) is

-- behind a true bool an entry is read
entry_next : (before : List ListEntry) (c d : Cursor) → item_at boolean c ≡ Ok (true, d)
    → reads (entries_form (length c.rest) before) c ≡ (reads entry_form d >>= λ y. reads
    (entries_form (length c.rest) (before ++ y.0 ∷ [])) y.1)
entry_next before c d is =
    one_turn before c ∙ ap (λ r. r >>= behind_bool (length c.rest) before) is
    ∙ reads_then entry_form (λ e. entries_form (length c.rest) (before ++ e ∷ [])) d

pub entry_stops : (before : List ListEntry) (c d : Cursor) (stop : Stop) → item_at boolean c ≡ Ok (true, d)
    → reads entry_form d ≡ Err stop → reads (entries_form (length c.rest) before) c ≡ Err stop
entry_stops before c d stop is wrong = entry_next before c d is
    ∙ ap (λ r. r >>= λ y. reads (entries_form (length c.rest) (before ++ y.0 ∷ [])) y.1) wrong

pub entries_go_on : (before : List ListEntry) (c d : Cursor) (e : ListEntry) (f : Cursor)
    → item_at boolean c ≡ Ok (true, d) → reads entry_form d ≡ Ok (e, f)
    → reads (entries_form (length c.rest) before) c ≡ reads (entries_form (length f.rest) (before ++ e ∷ [])) f
entries_go_on before c d e f is took =
    entry_next before c d is ∙ ap (λ r. r >>= λ y. reads (entries_form (length c.rest) (before ++ y.0 ∷ [])) y.1) took
    ∙ enough (length c.rest) (length f.rest) (before ++ e ∷ []) f
    (omega (arith, bool_shorter c (true, d) is, reads_shorter entry_form d (e, f) took)) (omega arith)

-- ---- as a loop meets them

pub bool_is : (c : Cursor) (b known : Bool) (d : Cursor) → item_at boolean c ≡ Ok (b, d) → b ≡ known
    → item_at boolean c ≡ Ok (known, d)
bool_is c b known d is e = is ∙ ap (λ (v : Bool). Ok (v, d)) e

-- the loop ends with the error of its round
pub entry_fails : (whole : Result (List ListEntry × Cursor) Stop) (before : List ListEntry) (c d : Cursor)
    (e : ResErr) → item_at boolean c ≡ Ok (true, d)
    → FailsAs e (reads entry_form d) → reads (entries_form (length c.rest) before) c ≡ whole → FailsAs e whole
entry_fails whole before c d (Xdr e) is wrong so_far = sym so_far
    ∙ entry_stops before c d (record { at = e.at; why = Some e.kind }) is wrong
entry_fails whole before c d NoMemory is wrong so_far = tt
