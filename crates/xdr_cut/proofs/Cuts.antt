-- What bytes that are no whole item need, and a plan with true needs.
use Rattle.std.proofs.Common.{◌≡◌, ℕ, ◌+◌, List, ◌++◌, length, drop, Option, Some, None, Result, Ok, Err, refl, sym, ap, subst, ◌∙◌, append_assoc, length-append, arith, inl, inr, ◌⊎◌}
use Rattle.std.proofs.lemmas.List.{drop_at}
use Rattle.xdr_core.specs.declared.error.XdrKind.{XdrKind}
use Rattle.xdr_core.specs.Items.{Item, Value, spell, Fits, item_in}
use Rattle.xdr_core.specs.Grammar.{Cursor, Stop, skip, placed, item_at, reads, Grammar, Spells, ◌>>=◌}
use Rattle.xdr_core.specs.Grammar as grammar
use Rattle.xdr_core.proofs.ItemLaws.{IsBytes, IsBytes-drop, item_took, item_again}
use Rattle.xdr_cut.specs.declared.error.CutErr.{CutErr}
use Rattle.xdr_cut.specs.declared.error.CutErr.TheVariants.{Short}
use Rattle.xdr_cut.specs.Cut.{Means, Plan, gives, item, plain, cut_err, scanned, scan_item, scans}

-- ---- what stands behind an item

abbrev pair : {V : Type 0} → V → ℕ → V × ℕ
pair x n = (x, n)

abbrev found : {V : Type 0} → V × ℕ → Result (V × ℕ) (Option XdrKind)
found x = Ok x

same_pair : {V : Type 0} (x y : V) (m n : ℕ) → found (pair x m) ≡ Ok (y, n) → pair x m ≡ pair y n
same_pair x y m n e = cc

same_front : {V : Type 0} (x y : V) (m n : ℕ) (r : Result (V × ℕ) (Option XdrKind)) → r ≡ Ok (x, m) → r ≡ Ok (y, n) →
    (x ≡ y) × (m ≡ n)
same_front x y m n r p q =
    let same : pair x m ≡ pair y n = same_pair x y m n (sym p ∙ q) in
    (ap (λ z. z.0) same, ap (λ z. z.1) same)

behind_spelled : {A : Type 0} (i : Item) (next : Value i → Grammar A) (x : Value i) (value : A) (tail : List ℕ) →
    Fits i x → Spells (grammar.item i next) value (spell i x ++ tail) → Spells (next x) value tail
behind_spelled i next x value tail fits s =
    let one = item_again i x tail fits in
    let two : item_in i (spell i x ++ tail) ≡ Ok (s.0, length (spell i s.0)) = ap (item_in i) s.3
    ∙ item_again i s.0 s.1 s.2 in
    let p = same_front x s.0 (length (spell i x)) (length (spell i s.0)) (item_in i (spell i x ++ tail)) one two in
    let behind : tail ≡ s.1 = sym (drop_at (spell i x) tail (length (spell i x)) refl)
    ∙ ap (drop (length (spell i x))) s.3 ∙ drop_at (spell i s.0) s.1 (length (spell i x)) (sym p.1) in
    subst (λ (y : Value i). Spells (next y) value tail) (sym p.0)
    (subst (λ (t : List ℕ). Spells (next s.0) value t) (sym behind) s.4)

abbrev further : ℕ → Option ℕ → Option ℕ
further k None = None
further k (Some n) = Some (k + n)

means_behind : {A : Type 0} (i : Item) (next : Value i → Grammar A) (x : Value i) (rest : List ℕ) (m : Option ℕ) →
    Fits i x → Means (next x) rest m → Means (grammar.item i next) (spell i x ++ rest) (further (length (spell i x)) m)
means_behind i next x rest (Some n) fits h =
    let k = length (spell i x) in
    record {
      proper = omega (arith, h.proper, length-append (spell i x) rest);
      attained = (
        h.attained.0,
        h.attained.1,
        (x, rest ++ h.attained.1, fits, append_assoc (spell i x) rest h.attained.1, h.attained.2),
        ap length (append_assoc (spell i x) rest h.attained.1) ∙ length-append (spell i x) (rest ++ h.attained.1)
            ∙ ap (λ (j : ℕ). length (spell i x) + j) h.attained.3,
      );
      least = λ value more s.
          let t = h.least value more
          (behind_spelled i next x value (rest ++ more) fits
          (subst (λ (t : List ℕ). Spells (grammar.item i next) value t) (append_assoc (spell i x) rest more) s)) in
          let len : length ((spell i x ++ rest) ++ more) ≡ length (spell i x) + length (rest ++ more) = ap length
          (append_assoc (spell i x) rest more) ∙ length-append (spell i x) (rest ++ more) in
          omega (arith, t, len);
    }
means_behind i next x rest None fits h = record {
  none_before = λ value text more s is.
      let one : item_in i (spell i x ++ rest) ≡ Ok (s.0, length (spell i s.0)) = ap (item_in i)
      (is ∙ ap (λ (t : List ℕ). t ++ more) s.3 ∙ append_assoc (spell i s.0) s.1 more)
      ∙ item_again i s.0 (s.1 ++ more) s.2 in
      let p = same_front x s.0 (length (spell i x)) (length (spell i s.0)) (item_in i (spell i x ++ rest))
      (item_again i x rest fits) one in
      let whole : spell i x ++ rest ≡ spell i s.0 ++ (s.1 ++ more) = is ∙ ap (λ (t : List ℕ). t ++ more) s.3
      ∙ append_assoc (spell i s.0) s.1 more in
      let tail : rest ≡ s.1 ++ more = sym (drop_at (spell i x) rest (length (spell i x)) refl)
      ∙ ap (drop (length (spell i x))) whole ∙ drop_at (spell i s.0) (s.1 ++ more) (length (spell i x)) (sym p.1) in
      h.none_before value s.1 more (subst (λ (y : Value i). Spells (next y) value s.1) (sym p.0) s.4) tail;
  none_behind = λ value more s. h.none_behind value more
      (behind_spelled i next x value (rest ++ more) fits
      (subst (λ (t : List ℕ). Spells (grammar.item i next) value t) (append_assoc (spell i x) rest more) s));
}

-- ---- plans whose needs are true

abbrev pub IsPlan : {A : Type 0} → Plan A → Type 0
IsPlan (gives a) = Unit {0}
IsPlan (item i need next) =
    ((bytes : List ℕ) (why : Option XdrKind) → IsBytes bytes → item_in i bytes ≡ Err why →
    Means (plain (item i need next)) bytes (need bytes)) × ((x : Value i) → Fits i x → IsPlan (next x))

bind_err : {A B E : Type 0} (r : Result A E) (f : A → Result B E) (k : E) → (r >>= f) ≡ Err k →
    (r ≡ Err k) ⊎ ((x : A) × (r ≡ Ok x) × (f x ≡ Err k))
bind_err (Ok x) f k e = inr (x, refl, e)
bind_err (Err d) f k e = inl cc

scanned_err : {V : Type 0} (c : Cursor) (need : Option ℕ) (r : Result (V × ℕ) (Option XdrKind)) (e : CutErr) →
    scanned c need r ≡ Err e → (why : Option XdrKind) × (r ≡ Err why) × (e ≡ cut_err c.at need)
scanned_err c need (Ok x) e h = absurd cc
scanned_err c need (Err why) e h = (why, refl, cc)

pub scanned_ok : {V : Type 0} (c : Cursor) (need : Option ℕ) (r : Result (V × ℕ) (Option XdrKind)) (x : V × Cursor) →
    scanned c need r ≡ Ok x → (n : ℕ) × (r ≡ Ok (x.0, n)) × (x.1 ≡ skip n c)
scanned_ok c need (Ok y) x e =
    let same : (y.0, skip y.1 c) ≡ x = cc in
    (y.1, ap (λ v. Ok (v, y.1)) (ap (λ p. p.0) same), sym (ap (λ p. p.1) same))
scanned_ok c need (Err k) x e = absurd cc

cut_further : (at k : ℕ) (m : Option ℕ) → cut_err (at + k) m ≡ cut_err at (further k m)
cut_further at k None = refl
cut_further at k (Some n) = ap (λ (j : ℕ). Short j) (omega arith)

pub scans_stop : {A : Type 0} (p : Plan A) (c : Cursor) (e : CutErr) → IsPlan p → IsBytes c.rest → scans p c ≡ Err e →
    (m : Option ℕ) × (e ≡ cut_err c.at m) × Means (plain p) c.rest m
unfolding scan_item
scans_stop (gives a) c e h fits s = absurd cc
scans_stop (item i need next) c e h fits s =
    elim (bind_err (scan_item i need c) (λ x. scans (next x.0) x.1) e s) [
      | inl d ↦ let w = scanned_err c (need c.rest) (item_in i c.rest) e d in
          (need c.rest, w.2, h.0 c.rest w.0 fits w.1)
      | inr d ↦
          let x = d.0.0 in
          let w = scanned_ok c (need c.rest) (item_in i c.rest) d.0 d.1 in
          let t = item_took i c.rest d.0.0 w.0 fits w.1 in
          let behind : d.0.1.rest ≡ drop w.0 c.rest = ap (λ (z : Cursor). z.rest) w.2 in
          let place : d.0.1.at ≡ c.at + length (spell i d.0.0) = ap (λ (z : Cursor). z.at) w.2
          ∙ ap (λ (k : ℕ). c.at + k) t.size in
          let r = scans_stop (next d.0.0) d.0.1 e (h.1 d.0.0 t.fits)
          (subst IsBytes (sym behind) (IsBytes-drop w.0 c.rest fits)) d.2 in
          let parts : spell i d.0.0 ++ d.0.1.rest ≡ c.rest = ap (λ (z : List ℕ). spell i d.0.0 ++ z) behind
          ∙ sym t.parts in (
            further (length (spell i d.0.0)) r.0,
            r.1 ∙ ap (λ (k : ℕ). cut_err k r.0) place ∙ cut_further c.at (length (spell i d.0.0)) r.0,
            subst (λ (z : List ℕ). Means (plain (item i need next)) z (further (length (spell i d.0.0)) r.0)) parts
                (means_behind i (λ y. plain (next y)) d.0.0 d.0.1.rest r.0 t.fits r.2),
          )
    ]
