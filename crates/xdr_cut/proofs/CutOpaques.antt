-- What opaque bytes need.
use Rattle.std.proofs.Common.{◌≡◌, ℕ, zero, suc, ◌+◌, ◌-◌, ◌^◌, ◌<◌, ◌≤◌, Bool, true, false, ltb, List, [], ◌∷◌, ◌++◌, length, take, drop, replicate, Option, Ok, Err, refl, sym, ap, subst, ◌∙◌, append_assoc, length-append, arith, inl, inr}
use Rattle.std.specs.Prelude.{◌==◌, ◌&&◌}
use Rattle.std.specs.List.{list_all}
use Rattle.std.specs.Int.{w32, from_be_bytes}
use Rattle.std.proofs.lemmas.List.{append-nil, drop_at, take_at, take-append-drop, take-append-le, length-replicate, length-drop, length-take-le, nil_from_length}
use Rattle.std.proofs.lemmas.Bool.{cases_lt, le-ltb, lt-ltb}
use Rattle.xdr_core.specs.declared.error.XdrKind.{XdrKind}
use Rattle.xdr_core.specs.Items.{fixed, any_opaque, padding, spell_word, spell_fixed, spell_opaque, item_in, piece_in}
use Rattle.xdr_core.specs.Grammar.{Grammar, Spells}
use Rattle.xdr_core.specs.Grammar as grammar
use Rattle.xdr_core.proofs.ItemLaws.{IsBytes, item_again, front_word, piece_took}
use Rattle.xdr_cut.specs.Cut.{IsShort, IsNoStart, Means}
use Rattle.xdr_cut.specs.Needs.{least_word, piece_need, opaque_need}
use Rattle.xdr_cut.proofs.CutWords.{HasLeast, filling, filled, least_is, word_len, word_back, not_both, no_item, cut_short, cut_wrong, least_item, which}

pub size_le : (m n : ℕ) → m ≤ n → m + padding m ≤ n + padding n
size_le m n le = omega arith

abbrev zeros : ℕ → List ℕ
zeros n = replicate n 0

zeros_len : (n : ℕ) → length (zeros n) ≡ n
zeros_len n = length-replicate n 0

abbrev are_zeros : List ℕ → Bool
are_zeros l = list_all (λ b. b == 0) l

pub fixed_len : (x : List ℕ) → length (spell_fixed x) ≡ length x + padding (length x)
unfolding spell_fixed
fixed_len x = length-append x (zeros (padding (length x)))
    ∙ ap (λ (k : ℕ). length x + k) (zeros_len (padding (length x)))

-- a spelling, taken apart
pub record OpaqueAt {A : Type 0} (max : ℕ) (next : List ℕ → Grammar A) (value : A) (text : List ℕ) : Type 0 where
  pub x : List ℕ
  pub more : List ℕ
  pub small : length x < 2 ^ 32
  pub le : length x ≤ max
  pub whole : text ≡ spell_opaque x ++ more
  pub parts : text ≡ spell_word (length x) ++ (spell_fixed x ++ more)
  pub len : length text ≡ 4 + ((length x + padding (length x)) + length more)
  pub spells : Spells (next x) value more

opaque_at : {A : Type 0} (max : ℕ) (next : List ℕ → Grammar A) (value : A) (text : List ℕ) →
    Spells (grammar.item (any_opaque max) next) value text → OpaqueAt max next value text
unfolding spell_opaque
opaque_at max next value text s =
    let p : text ≡ spell_word (length s.0) ++ (spell_fixed s.0 ++ s.1) = s.3
    ∙ append_assoc (spell_word (length s.0)) (spell_fixed s.0) s.1 in
    record {
      x = s.0;
      more = s.1;
      small = s.2.0;
      le = s.2.1;
      whole = s.3;
      parts = p;
      len = ap length p ∙ length-append (spell_word (length s.0)) (spell_fixed s.0 ++ s.1)
          ∙ ap (λ (k : ℕ). k + length (spell_fixed s.0 ++ s.1)) (word_len (length s.0))
          ∙ ap (λ (k : ℕ). 4 + k)
          (length-append (spell_fixed s.0) s.1 ∙ ap (λ (k : ℕ). k + length s.1) (fixed_len s.0));
      spells = s.4;
    }

-- the first word of a spelling is the length
first_is : {A : Type 0} {max : ℕ} {next : List ℕ → Grammar A} {value : A} {text : List ℕ}
    (o : OpaqueAt max next value text) → from_be_bytes w32 (take 4 text) ≡ length o.x
first_is o = ap (λ (t : List ℕ). from_be_bytes w32 (take 4 t)) o.parts
    ∙ ap (from_be_bytes w32) (take_at (spell_word (length o.x)) (spell_fixed o.x ++ o.more) 4 (word_len (length o.x)))
    ∙ word_back (length o.x) o.small

-- ---- fewer than four bytes

early : {A : Type 0} (max after : ℕ) (next : List ℕ → Grammar A) → max < 2 ^ 32 →
    ((x : List ℕ) → length x ≤ max → HasLeast (next x) after) → (bytes : List ℕ) → IsBytes bytes → length bytes < 4 →
    least_word bytes ≤ max
    → IsShort (grammar.item (any_opaque max) next) bytes (4 + (least_word bytes + padding (least_word bytes)) + after)
unfolding spell_opaque opaque_at
early max after next lim h bytes fits lt low =
    let n = least_word bytes in
    let f = filled bytes lt fits in
    let x = zeros (least_word bytes) in
    let len : length (zeros (least_word bytes)) ≡ least_word bytes = zeros_len (least_word bytes) in
    let small : length (zeros (least_word bytes)) ≤ max = omega (arith, len) in
    let l = h (zeros (least_word bytes)) small in
    let whole : bytes ++ (filling bytes ++ (spell_fixed (zeros (least_word bytes)) ++ l.text)) ≡ spell_opaque
    (zeros (least_word bytes)) ++ l.text
    = sym (append_assoc bytes (filling bytes) (spell_fixed (zeros (least_word bytes)) ++ l.text))
    ∙ ap (λ (t : List ℕ). t ++ (spell_fixed (zeros (least_word bytes)) ++ l.text))
    (sym f.word_is ∙ ap spell_word (sym len)) ∙ sym
    (append_assoc (spell_word (length (zeros (least_word bytes))))
    (spell_fixed (zeros (least_word bytes))) l.text) in
    let s : Spells (grammar.item (any_opaque max) next) l.value
    (bytes ++ (filling bytes ++ (spell_fixed (zeros (least_word bytes)) ++ l.text))) =
    (zeros (least_word bytes), l.text, (omega (arith, len), small, refl), whole, l.spells) in
    let o = opaque_at max next l.value _ s in
    record {
      proper = omega arith;
      attained = (
        l.value,
        filling bytes ++ (spell_fixed (zeros (least_word bytes)) ++ l.text),
        s,
        o.len ∙ ap (λ (k : ℕ). 4 + ((k + padding k) + length l.text)) len
            ∙ ap (λ (k : ℕ). 4 + ((least_word bytes + padding (least_word bytes)) + k)) l.len ∙ omega arith,
      );
      least = λ value more t.
          let w = opaque_at max next value (bytes ++ more) t in
          let a : least_word bytes ≤ length w.x = omega (arith, least_is bytes more lt, first_is w) in
          let b = size_le (least_word bytes) (length w.x) a in
          let d = (h w.x w.le).least value w.more w.spells in
          omega (arith, b, d, w.len);
    }

early_none : {A : Type 0} (max : ℕ) (next : List ℕ → Grammar A) (bytes : List ℕ) → length bytes < 4 →
    max < least_word bytes → IsNoStart (grammar.item (any_opaque max) next) bytes
early_none max next bytes lt high = record {
  none_before = λ value text more s is.
      let w = opaque_at max next value text s in
      let n : length bytes ≡ length text + length more = ap length is ∙ length-append text more in
      omega (arith, n, w.len);
  none_behind = λ value more s.
      let w = opaque_at max next value (bytes ++ more) s in
      omega (arith, least_is bytes more lt, first_is w, w.le);
}

-- ---- zeros

and_parts : (a b : Bool) → (a && b) ≡ true → (a ≡ true) × (b ≡ true)
and_parts true b e = (refl, e)
and_parts false b e = absurd cc

and_both : (a b : Bool) → a ≡ true → b ≡ true → (a && b) ≡ true
and_both true b e f = f
and_both false b e f = absurd cc

zeros_rest : (m k : ℕ) → are_zeros (drop m (zeros k)) ≡ true
zeros_rest zero zero = refl
zeros_rest zero (suc k) = zeros_rest zero k
zeros_rest (suc m) zero = refl
zeros_rest (suc m) (suc k) = zeros_rest m k

zeros_more : (tail : List ℕ) (k : ℕ) → are_zeros tail ≡ true → are_zeros (tail ++ zeros k) ≡ true
zeros_more [] k e = zeros_rest 0 k
zeros_more (b ∷ tail) k e = let p = and_parts (b == 0) (are_zeros tail) e in
    and_both (b == 0) (are_zeros (tail ++ zeros k)) p.0 (zeros_more tail k p.1)

zeros_drop : (n : ℕ) (tail : List ℕ) (k : ℕ) → are_zeros (drop n tail) ≡ true →
    are_zeros (drop n (tail ++ zeros k)) ≡ true
zeros_drop zero tail k e = zeros_more tail k e
zeros_drop (suc n) [] k e = zeros_rest (suc n) k
zeros_drop (suc n) (b ∷ tail) k e = zeros_drop n tail k e

zeros_take : (m : ℕ) (l : List ℕ) → are_zeros l ≡ true → are_zeros (take m l) ≡ true
zeros_take zero l e = refl
zeros_take (suc m) [] e = refl
zeros_take (suc m) (b ∷ l) e = let p = and_parts (b == 0) (are_zeros l) e in
    and_both (b == 0) (are_zeros (take m l)) p.0 (zeros_take m l p.1)

zeros_front : (a b m : List ℕ) (p : ℕ) → length a ≤ p → a ++ b ≡ zeros p ++ m → are_zeros a ≡ true
zeros_front [] b m p le e = refl
zeros_front (c ∷ a) b m zero le e = absurd (omega arith)
zeros_front (c ∷ a) b m (suc p) le e =
    let head : c ≡ 0 = cc in
    let tail : a ++ b ≡ zeros p ++ m = cc in
    let test : (c == 0) ≡ true = rw head refl in
    and_both (c == 0) (are_zeros a) test (zeros_front a b m p (omega arith) tail)

-- ---- four bytes or more

not_true : (b : Bool) → b ≡ false → b ≡ true → ⊥
not_true b e f = cc

abbrev size_of : List ℕ → ℕ
size_of bytes = from_be_bytes w32 (take 4 bytes)

len_before : {A : Type 0} {max : ℕ} {next : List ℕ → Grammar A} {value : A} {text : List ℕ}
    (o : OpaqueAt max next value text) (bytes more : List ℕ) → bytes ≡ text ++ more → size_of bytes ≡ length o.x
len_before {text = text} o bytes more is =
    let four : 4 ≤ length text = omega (arith, o.len) in
    ap size_of is ∙ ap (from_be_bytes w32) (take-append-le 4 text more four) ∙ first_is o

len_behind : {A : Type 0} {max : ℕ} {next : List ℕ → Grammar A} {value : A} (bytes more : List ℕ)
    (o : OpaqueAt max next value (bytes ++ more)) → 4 ≤ length bytes → size_of bytes ≡ length o.x
len_behind bytes more o four = ap (from_be_bytes w32) (sym (take-append-le 4 bytes more four)) ∙ first_is o

late_long : {A : Type 0} (max : ℕ) (next : List ℕ → Grammar A) (bytes : List ℕ) → 4 ≤ length bytes →
    max < size_of bytes → IsNoStart (grammar.item (any_opaque max) next) bytes
late_long max next bytes four high = record {
  none_before = λ value text more s is. let w = opaque_at max next value text s in let n = len_before w bytes more is in
      omega (arith, n, w.le);
  none_behind = λ value more s. let w = opaque_at max next value (bytes ++ more) s in
      let n = len_behind bytes more w four in omega (arith, n, w.le);
}

refuted : (max : ℕ) (bytes : List ℕ) (why : Option XdrKind) → item_in (any_opaque max) bytes ≡ Err why →
    (x more : List ℕ) → length x < 2 ^ 32 → length x ≤ max → bytes ≡ spell_opaque x ++ more → ⊥
refuted max bytes why e x more small le is = not_both (item_in (any_opaque max) bytes) why
    (x, length (spell_opaque x)) e
    (ap (item_in (any_opaque max)) is ∙ item_again (any_opaque max) x more (small, le, refl))

pub opaque_len : (x : List ℕ) → length (spell_opaque x) ≡ 4 + (length x + padding (length x))
unfolding spell_opaque
opaque_len x = length-append (spell_word (length x)) (spell_fixed x)
    ∙ ap (λ (k : ℕ). k + length (spell_fixed x)) (word_len (length x)) ∙ ap (λ (k : ℕ). 4 + k) (fixed_len x)

late_whole : {A : Type 0} (max : ℕ) (next : List ℕ → Grammar A) (bytes : List ℕ) (why : Option XdrKind) →
    item_in (any_opaque max) bytes ≡ Err why → 4 + (size_of bytes + padding (size_of bytes)) ≤ length bytes →
    IsNoStart (grammar.item (any_opaque max) next) bytes
late_whole max next bytes why e long = record {
  none_before = λ value text more s is.
      let w = opaque_at max next value text s in
      refuted max bytes why e w.x (w.more ++ more) w.small w.le
      (is ∙ ap (λ (t : List ℕ). t ++ more) w.whole ∙ append_assoc (spell_opaque w.x) w.more more);
  none_behind = λ value more s.
      let w = opaque_at max next value (bytes ++ more) s in
      let n = len_behind bytes more w (omega arith) in
      let le : length (spell_opaque w.x) ≤ length bytes = subst (λ (k : ℕ). k ≤ length bytes)
      (ap (λ (k : ℕ). 4 + (k + padding k)) n ∙ sym (opaque_len w.x)) long in
      let front : take (length (spell_opaque w.x)) bytes ≡ spell_opaque w.x = sym
      (take-append-le (length (spell_opaque w.x)) bytes more le) ∙ ap (take (length (spell_opaque w.x))) w.whole
      ∙ take_at (spell_opaque w.x) w.more (length (spell_opaque w.x)) refl in
      refuted max bytes why e w.x (drop (length (spell_opaque w.x)) bytes) w.small w.le
      (sym (take-append-drop (length (spell_opaque w.x)) bytes)
      ∙ ap (λ (t : List ℕ). t ++ drop (length (spell_opaque w.x)) bytes) front);
}

-- padding that has come and is not zero is that of no spelling
zeros_fail : (n : ℕ) (tail more x m : List ℕ) → length x ≡ n → length tail < n + padding n →
    tail ++ more ≡ x ++ (zeros (padding (length x)) ++ m) → are_zeros (drop n tail) ≡ false → ⊥
zeros_fail n tail more x m len lt e bad = elim (cases_lt (length tail) n) [
  | inl few ↦ let none : drop n tail ≡ [] = nil_from_length (drop n tail) (omega (arith, length-drop n tail)) in
      not_true (are_zeros (drop n tail)) bad (ap are_zeros none)
  | inr many ↦
      let front : drop n tail ++ more ≡ zeros (padding (length x)) ++ m
      = sym (drop_at (take n tail) (drop n tail ++ more) n (length-take-le n tail many))
      ∙ ap (drop n) (sym (append_assoc (take n tail) (drop n tail) more)
      ∙ ap (λ (t : List ℕ). t ++ more) (take-append-drop n tail) ∙ e)
      ∙ drop_at x (zeros (padding (length x)) ++ m) n len in
      let few : length (drop n tail) ≤ padding (length x) = subst (λ (k : ℕ). length (drop n tail) ≤ padding k)
      (sym len) (omega (arith, length-drop n tail)) in
      not_true (are_zeros (drop n tail)) bad (zeros_front (drop n tail) more m (padding (length x)) few front)
]

late_bad : {A : Type 0} (max : ℕ) (next : List ℕ → Grammar A) (bytes : List ℕ) → 4 ≤ length bytes →
    length (drop 4 bytes) < size_of bytes + padding (size_of bytes) →
    are_zeros (drop (size_of bytes) (drop 4 bytes)) ≡ false → IsNoStart (grammar.item (any_opaque max) next) bytes
unfolding spell_fixed
late_bad max next bytes four lt bad = record {
  none_before = λ value text more s is.
      let w = opaque_at max next value text s in
      let n = len_before w bytes more is in
      let whole : length bytes ≡ length text + length more = ap length is ∙ length-append text more in
      let one : length w.x + padding (length w.x) ≡ size_of bytes + padding (size_of bytes) = ap
      (λ (k : ℕ). k + padding k) (sym n) in
      omega (arith, whole, w.len, one, length-drop 4 bytes);
  none_behind = λ value more s.
      let w = opaque_at max next value (bytes ++ more) s in
      let n = len_behind bytes more w four in
      let tail = drop 4 bytes in
      let joined : take 4 bytes ++ (drop 4 bytes ++ more) ≡ spell_word (length w.x)
      ++ (spell_fixed w.x ++ w.more) = sym (append_assoc (take 4 bytes) (drop 4 bytes) more)
      ∙ ap (λ (t : List ℕ). t ++ more) (take-append-drop 4 bytes) ∙ w.parts in
      let behind : drop 4 bytes ++ more ≡ spell_fixed w.x
      ++ w.more = sym (drop_at (take 4 bytes) (drop 4 bytes ++ more) 4 (length-take-le 4 bytes four))
      ∙ ap (drop 4) joined ∙ drop_at (spell_word (length w.x)) (spell_fixed w.x ++ w.more) 4
      (word_len (length w.x)) in
      zeros_fail (size_of bytes) (drop 4 bytes) more w.x w.more (sym n) lt
      (behind ∙ append_assoc w.x (zeros (padding (length w.x))) w.more) bad;
}

-- a piece that is whole once zeros stand behind what has come
record Completed (n : ℕ) (tail : List ℕ) : Type 0 where
  x : List ℕ
  filler : List ℕ
  len : length x ≡ n
  whole : tail ++ filler ≡ spell_fixed x

completed : (n : ℕ) (tail : List ℕ) → length tail < n + padding n → are_zeros (drop n tail) ≡ true → Completed n tail
completed n tail lt ok =
    let k = n + padding n - length tail in
    let size : length (tail ++ zeros (n + padding n - length tail)) ≡ n + padding n = length-append tail
    (zeros (n + padding n - length tail)) ∙ ap (λ (j : ℕ). length tail + j)
    (zeros_len (n + padding n - length tail)) ∙ omega arith in
    let full = tail ++ zeros (n + padding n - length tail) in
    let long : ltb (length (tail ++ zeros (n + padding n - length tail))) (n + padding n) ≡ false = le-ltb _ _
    (omega (arith, size)) in
    let pad : are_zeros (take (padding n) (drop n (tail ++ zeros (n + padding n - length tail)))) ≡ true = zeros_take
    (padding n) _ (zeros_drop n tail (n + padding n - length tail) ok) in
    let e : piece_in n (tail ++ zeros (n + padding n - length tail)) ≡ Ok
    (take n (tail ++ zeros (n + padding n - length tail)), n + padding n) = rw (long, pad) refl in
    let p = piece_took n (tail ++ zeros (n + padding n - length tail))
    (take n (tail ++ zeros (n + padding n - length tail)), n + padding n) e in
    let none : drop (n + padding n) (tail ++ zeros (n + padding n - length tail)) ≡ [] = nil_from_length _
    (omega (arith, size, length-drop (n + padding n) (tail ++ zeros (n + padding n - length tail)))) in
    record {
      x = take n (tail ++ zeros (n + padding n - length tail));
      filler = zeros (n + padding n - length tail);
      len = p.len;
      whole = p.parts ∙ ap (λ (t : List ℕ). spell_fixed (take n (tail ++ zeros (n + padding n - length tail)))
          ++ t) none ∙ append-nil (spell_fixed (take n (tail ++ zeros (n + padding n - length tail))));
    }

late_short : {A : Type 0} (max after : ℕ) (next : List ℕ → Grammar A) →
    ((x : List ℕ) → length x ≤ max → HasLeast (next x) after) → (bytes : List ℕ) → IsBytes bytes → 4 ≤ length bytes →
    size_of bytes ≤ max
    → length (drop 4 bytes) < size_of bytes + padding (size_of bytes) →
    are_zeros (drop (size_of bytes) (drop 4 bytes)) ≡ true →
    IsShort (grammar.item (any_opaque max) next) bytes (size_of bytes + padding (size_of bytes) + (4 + after))
unfolding spell_opaque spell_word opaque_at
late_short max after next h bytes fits four le lt ok =
    let k = size_of bytes + padding (size_of bytes) - length (drop 4 bytes) in
    let c = completed (size_of bytes) (drop 4 bytes) lt ok in
    let f = front_word bytes fits four in
    let x_le : length c.x ≤ max = omega (arith, c.len) in
    let l = h c.x x_le in
    let front : take 4 bytes ≡ spell_word (length c.x) = sym f.0 ∙ ap spell_word (sym c.len) in
    let whole : bytes ++ (c.filler ++ l.text) ≡ spell_opaque c.x ++ l.text
    = ap (λ (t : List ℕ). t ++ (c.filler ++ l.text)) (sym (take-append-drop 4 bytes))
    ∙ append_assoc (take 4 bytes) (drop 4 bytes) (c.filler ++ l.text)
    ∙ ap (λ (t : List ℕ). take 4 bytes ++ t)
    (sym (append_assoc (drop 4 bytes) c.filler l.text) ∙ ap (λ (t : List ℕ). t ++ l.text) c.whole)
    ∙ ap (λ (t : List ℕ). t ++ (spell_fixed c.x ++ l.text)) front
    ∙ sym (append_assoc (spell_word (length c.x)) (spell_fixed c.x) l.text) in
    let s : Spells (grammar.item (any_opaque max) next) l.value (bytes ++ (c.filler ++ l.text)) =
    (c.x, l.text, (omega (arith, f.1, c.len), x_le, refl), whole, l.spells) in
    let o = opaque_at max next l.value _ s in
    record {
      proper = omega (arith, length-drop 4 bytes);
      attained = (
        l.value,
        c.filler ++ l.text,
        s,
        o.len ∙ ap (λ (k : ℕ). 4 + ((k + padding k) + length l.text)) c.len
            ∙ ap (λ (k : ℕ). 4 + ((size_of bytes + padding (size_of bytes)) + k)) l.len ∙ omega arith,
      );
      least = λ value more t.
          let w = opaque_at max next value (bytes ++ more) t in
          let n = len_behind bytes more w four in
          let d = (h w.x w.le).least value w.more w.spells in
          let one : length w.x + padding (length w.x) ≡ size_of bytes + padding (size_of bytes) = ap
          (λ (k : ℕ). k + padding k) (sym n) in
          omega (arith, d, w.len, one);
    }

pub opaque_means : {A : Type 0} (max after : ℕ) (next : List ℕ → Grammar A) → max < 2 ^ 32 →
    ((x : List ℕ) → length x ≤ max → HasLeast (next x) after) → (bytes : List ℕ) (why : Option XdrKind) →
    IsBytes bytes → item_in (any_opaque max) bytes ≡ Err why
    → Means (grammar.item (any_opaque max) next) bytes (opaque_need max after bytes)
opaque_means max after next lim h bytes why fits e = elim (cases_lt (length bytes) 4) [
  | inl lt ↦ let t : ltb (length bytes) 4 ≡ true = lt-ltb _ _ lt in elim (cases_lt max (least_word bytes)) [
    | inl high ↦ let u : ltb max (least_word bytes) ≡ true = lt-ltb _ _ high in
        rw (t, u) (early_none max next bytes lt high)
    | inr low ↦ let u : ltb max (least_word bytes) ≡ false = le-ltb _ _ low in
        rw (t, u) (early max after next lim h bytes fits lt low)
  ]
  | inr four ↦ let t : ltb (length bytes) 4 ≡ false = le-ltb _ _ four in elim (cases_lt max (size_of bytes)) [
    | inl high ↦ let u : ltb max (size_of bytes) ≡ true = lt-ltb _ _ high in
        rw (t, u) (late_long max next bytes four high)
    | inr low ↦ let u : ltb max (size_of bytes) ≡ false = le-ltb _ _ low in
        elim (cases_lt (length (drop 4 bytes)) (size_of bytes + padding (size_of bytes))) [
          | inr long ↦ let v : ltb (length (drop 4 bytes)) (size_of bytes + padding (size_of bytes)) ≡ false =
              le-ltb _ _ long in rw (t, u, v) (late_whole max next bytes why e (omega (arith, length-drop 4 bytes)))
          | inl short ↦ let v : ltb (length (drop 4 bytes)) (size_of bytes + padding (size_of bytes)) ≡ true =
              lt-ltb _ _ short in elim (which (are_zeros (drop (size_of bytes) (drop 4 bytes)))) [
                | inl ok ↦ rw (t, u, v, ok) (late_short max after next h bytes fits four low short ok)
                | inr bad ↦ rw (t, u, v, bad) (late_bad max next bytes four short bad)
              ]
        ]
  ]
]

-- ---- the least of a field and what stands behind it

pub least_of_opaque : {A : Type 0} (max after : ℕ) (next : List ℕ → Grammar A) →
    ((x : List ℕ) → length x ≤ max → HasLeast (next x) after) →
    HasLeast (grammar.item (any_opaque max) next) (4 + after)
least_of_opaque max after next h =
    let l = h [] (omega arith) in
    record {
      value = l.value;
      text = spell_opaque [] ++ l.text;
      spells = ([], l.text, (omega arith, omega arith, refl), refl, l.spells);
      len = length-append (spell_opaque []) l.text ∙ ap (λ (k : ℕ). k + length l.text) (opaque_len [])
          ∙ ap (λ (k : ℕ). 4 + k) l.len;
      least = λ other text s.
          let w = opaque_at max next other text s in
          let d = (h w.x w.le).least other w.more w.spells in
          omega (arith, d, w.len);
    }

-- ---- bytes of a fixed number

fixed_len_of : (size : ℕ) (x : List ℕ) → length x ≡ size → length (spell_fixed x) ≡ size + padding size
fixed_len_of size x len = fixed_len x ∙ ap (λ (k : ℕ). k + padding k) len

fixed_all : (size : ℕ) (x : List ℕ) → length x ≡ size → size + padding size ≤ length (spell_fixed x)
fixed_all size x len = omega (arith, fixed_len_of size x len)

abbrev fixed_size : ℕ → ℕ
fixed_size size = size + padding size

pub fixed_means : {A : Type 0} (size after : ℕ) (next : List ℕ → Grammar A) → ((x : List ℕ) → HasLeast (next x) after) →
    (bytes : List ℕ) (why : Option XdrKind) → item_in (fixed size) bytes ≡ Err why
    → Means (grammar.item (fixed size) next) bytes (piece_need size after bytes)
unfolding spell_fixed
fixed_means size after next h bytes why e = elim (cases_lt (length bytes) (size + padding size)) [
  | inr long ↦ let v : ltb (length bytes) (size + padding size) ≡ false = le-ltb _ _ long in
      rw v (no_item (fixed size) (size + padding size) next bytes why (λ x f. fixed_len_of size x f) long e)
  | inl short ↦ let v : ltb (length bytes) (size + padding size) ≡ true = lt-ltb _ _ short in
      elim (which (are_zeros (drop size bytes))) [
        | inl ok ↦ let c = completed size bytes short ok in
            rw (v, ok) (cut_short (fixed size) next bytes c.filler c.x (size + padding size) after c.len c.whole (h c.x)
            (fixed_len_of size c.x c.len) short
            (λ value text s.
            let n : length text ≡ length (spell_fixed s.0) + length s.1 = ap length s.3
            ∙ length-append (spell_fixed s.0) s.1 in
            omega (arith, n, fixed_len_of size s.0 s.2, (h s.0).least value s.1 s.4)))
        | inr bad ↦ rw (v, bad) (cut_wrong (fixed size) next bytes (size + padding size) (fixed_all size) short
            (λ x more behind f is. zeros_fail size bytes more x behind f short
            (is ∙ append_assoc x (zeros (padding (length x))) behind) bad))
      ]
]

pub least_of_fixed : {A : Type 0} (size after : ℕ) (next : List ℕ → Grammar A) →
    ((x : List ℕ) → HasLeast (next x) after) → HasLeast (grammar.item (fixed size) next) ((size + padding size) + after)
least_of_fixed size after next h = least_item (fixed size) next (size + padding size) after (zeros size)
    (zeros_len size) (fixed_len_of size (zeros size) (zeros_len size)) (h (zeros size)) (fixed_all size)
    (λ y f. (h y).least)
