-- What stands at the front of some bytes, whatever follows them.
use Rattle.std.proofs.Common.{◌≡◌, ℕ, zero, suc, ◌+◌, ◌<◌, ◌≤◌, List, [], ◌∷◌, ◌++◌, length, drop, Some, None, Result, Ok, Err, refl, sym, ap, subst, ◌∙◌, length-append, arith, inl, inr}
use Rattle.std.specs.Prelude.{◌%◌, map}
use Rattle.std.proofs.lemmas.List.{drop_at, length-map, length-drop}
use Rattle.std.proofs.lemmas.Bool.{cases_lt}
use Rattle.xdr_core.specs.Items.{IsBytes}
use Rattle.xdr_core.specs.Grammar.{Cursor, Stop, Grammar, Spells, reads}
use Rattle.xdr_core.proofs.Formats.{reads_found, reads_again}
use Rattle.xdr_cut.specs.Cut.{IsShort, IsNoStart, Begins, value_and_rest, front_at}
use Rattle.xdr_cut.proofs.Scans.{overlap, not_before}

-- numbers as bytes
abbrev pub low : List ℕ → List ℕ
low bytes = map (λ b. b % 256) bytes

byte_is : (b : ℕ) → b < 256 → b % 256 ≡ b
byte_is b lt = omega arith

pub low_bytes : (bytes : List ℕ) → IsBytes (low bytes)
low_bytes [] i = omega arith
low_bytes (b ∷ bytes) zero = omega arith
low_bytes (b ∷ bytes) (suc i) = low_bytes bytes i

pub low_same : (bytes : List ℕ) → IsBytes bytes → low bytes ≡ bytes
low_same [] h = refl
low_same (b ∷ bytes) h = ap (λ (n : ℕ). n ∷ low bytes) (byte_is b (h 0))
    ∙ ap (λ (t : List ℕ). b ∷ t) (low_same bytes (λ i. h (suc i)))

low_then : (a b : List ℕ) → low (a ++ b) ≡ low a ++ low b
low_then [] b = refl
low_then (x ∷ a) b = ap (λ (t : List ℕ). x % 256 ∷ t) (low_then a b)

low_more : (bytes more : List ℕ) → IsBytes bytes → low (bytes ++ more) ≡ bytes ++ low more
low_more bytes more h = low_then bytes more ∙ ap (λ (t : List ℕ). t ++ low more) (low_same bytes h)

abbrev start : List ℕ → Cursor
start bytes = record { at = 0; rest = bytes }

zero_plus : (n : ℕ) → 0 + n ≡ n
zero_plus n = omega arith

-- a spelling is found at the front again, whatever stands behind it
pub front_again : {A : Type 0} (g : Grammar A) (value : A) (text more : List ℕ) → IsBytes text → Spells g value text →
    front_at g (text ++ more) ≡ Some (value, more)
unfolding front_at
front_again g value text more fits s =
    let read = ap (λ (t : List ℕ). reads g (start t)) (low_more text more fits)
    ∙ reads_again g value text (low more) 0 s in
    ap (value_and_rest (text ++ more)) read ∙ ap (λ (t : List ℕ). Some (value, t))
    (drop_at text more (0 + length text) (sym (zero_plus (length text))))

none_if : {A : Type 0} (g : Grammar A) (bytes : List ℕ) (r : Result (A × Cursor) Stop) →
    reads g (start (low bytes)) ≡ r → ((value : A) (n : ℕ) → Begins g (low bytes) value n → ⊥) →
    value_and_rest bytes r ≡ None
none_if g bytes (Ok x) e none =
    let f = reads_found g (start (low bytes)) x (low_bytes bytes) e in
    absurd (none x.0 (length f.text) (f.text, x.1.rest, f.spells, f.parts, refl))
none_if g bytes (Err stop) e none = refl

front_if : {A : Type 0} (g : Grammar A) (bytes : List ℕ) → ((value : A) (n : ℕ) → Begins g (low bytes) value n → ⊥) →
    front_at g bytes ≡ None
unfolding front_at
front_if g bytes none = none_if g bytes (reads g (start (low bytes))) refl none

no_start : {A : Type 0} (g : Grammar A) (bytes more : List ℕ) (value : A) (n : ℕ) → IsNoStart g bytes →
    Begins g (bytes ++ more) value n → ⊥
no_start g bytes more value n h b = elim (cases_lt (length b.0) (length bytes)) [
  | inl lt ↦ h.none_before value b.0 (drop (length b.0) bytes) b.2 (overlap bytes more b.0 b.1 b.3 (omega arith))
  | inr le ↦ h.none_behind value (drop (length bytes) b.0)
      (subst (λ (t : List ℕ). Spells g value t) (overlap b.0 b.1 bytes more (sym b.3) le) b.2)
]

-- bytes that begin no value have none at their front, whatever stands behind them
pub front_wrong : {A : Type 0} (g : Grammar A) (bytes more : List ℕ) → IsBytes bytes → IsNoStart g bytes →
    front_at g (bytes ++ more) ≡ None
front_wrong g bytes more fits h = front_if g (bytes ++ more)
    (λ value n b. no_start g bytes (low more) value n h
    (subst (λ (t : List ℕ). Begins g t value n) (low_more bytes more fits) b))

length_low : (bytes : List ℕ) → length (low bytes) ≡ length bytes
length_low bytes = length-map bytes (λ b. b % 256)

-- short bytes have none at their front as long as they are fewer than they need
pub front_short : {A : Type 0} (g : Grammar A) (front piece : List ℕ) (need : ℕ) → IsBytes front →
    IsShort g front need → length (front ++ piece) < need → front_at g (front ++ piece) ≡ None
front_short g front piece need fits h lt = front_if g (front ++ piece) (λ value n b.
    let c : Begins g (front ++ low piece) value n = subst (λ (t : List ℕ). Begins g t value n)
    (low_more front piece fits) b in
    let least = not_before g front (low piece) need value n h c in
    omega (
      arith,
      least,
      lt,
      ap length c.3,
      length-append c.0 c.1,
      c.4,
      length-append front piece,
      length-append front (low piece),
      length_low piece,
    ))

-- a value that is found at the front is spelled there
pub record Spelled {A : Type 0} (g : Grammar A) (bytes rest : List ℕ) (value : A) : Type 0 where
  pub text : List ℕ
  pub spells : Spells g value text
  pub len : length bytes ≡ length text + length rest

found_if : {A : Type 0} (g : Grammar A) (bytes rest : List ℕ) (value : A) (r : Result (A × Cursor) Stop) →
    reads g (start (low bytes)) ≡ r → value_and_rest bytes r ≡ Some (value, rest) → Spelled g bytes rest value
found_if {A = A} g bytes rest value (Ok x) e is =
    let f = reads_found g (start (low bytes)) x (low_bytes bytes) e in
    let front : A × List ℕ = (x.0, drop x.1.at bytes) in
    let wanted : A × List ℕ = (value, rest) in
    let same : front ≡ wanted = cc in
    let behind : drop x.1.at bytes ≡ rest = ap (λ p. p.1) same in
    record {
      text = f.text;
      spells = subst (λ v. Spells g v f.text) (ap (λ p. p.0) same) f.spells;
      len = omega (
        arith,
        f.place,
        ap length f.parts,
        length-append f.text x.1.rest,
        length_low bytes,
        ap length behind,
        length-drop x.1.at bytes,
      );
    }
found_if g bytes rest value (Err stop) e is = absurd cc

pub front_spelled : {A : Type 0} (g : Grammar A) (bytes rest : List ℕ) (value : A) →
    front_at g bytes ≡ Some (value, rest) → Spelled g bytes rest value
unfolding front_at
front_spelled g bytes rest value e = found_if g bytes rest value (reads g (start (low bytes))) refl e

-- bytes that are fewer than each value takes have none at their front
pub front_fewer : {A : Type 0} (g : Grammar A) (size : ℕ) (bytes : List ℕ) →
    ((value : A) (text : List ℕ) → Spells g value text → size ≤ length text) → length bytes < size →
    front_at g bytes ≡ None
front_fewer g size bytes least lt = front_if g bytes
    (λ value n b. omega (arith, least value b.0 b.2, ap length b.3, length-append b.0 b.1, length_low bytes))
