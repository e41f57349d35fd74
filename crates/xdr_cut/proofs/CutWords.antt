-- What cut words and cut bools need.
use Rattle.std.proofs.Common.{◌≡◌, ℕ, zero, suc, ◌+◌, ◌^◌, ◌<◌, ◌≤◌, Bool, true, false, cond, ltb, eqb, get_or, List, [], ◌∷◌, ◌++◌, length, take, drop, Option, Result, Ok, Err, refl, sym, ap, ◌∙◌, append_assoc, length-append, arith, inl, inr, ◌⊎◌}
use Rattle.std.specs.Int.{w32, from_be_bytes}
use Rattle.std.proofs.lemmas.List.{take_at, take-append-drop, take-append-le}
use Rattle.std.proofs.lemmas.Bool.{cases_lt, le-ltb, lt-ltb}
use Rattle.std.proofs.lemmas.Bool.Decides.{nat_tests}
use Rattle.std.proofs.lemmas.Nat.{be_bytes_4, from_be_bytes-to_be_bytes_4}
use Rattle.xdr_core.specs.declared.error.XdrKind.{XdrKind}
use Rattle.xdr_core.specs.Items.{Item, word, boolean, Value, spell, spell_word, Fits, item_in}
use Rattle.std.specs.Prelude.{nat_le, ◌&&◌, ◌||◌}
use Rattle.xdr_core.specs.Grammar.{Cursor, Stop, skip, placed, item_at, reads, Grammar, Spells, ◌>>=◌}
use Rattle.xdr_core.specs.Grammar as grammar
use Rattle.xdr_core.proofs.ItemLaws.{IsBytes, item_again}
use Rattle.xdr_cut.specs.Cut.{IsShort, IsNoStart, Means}
use Rattle.xdr_cut.specs.Needs.{is_in, within, least_word, most_word, meets, touches, word_need, bool_need}

-- ---- the least of a format

-- a format of which each value has `size` bytes at least, and one has no more
pub record HasLeast {A : Type 0} (g : Grammar A) (size : ℕ) : Type 0 where
  pub value : A
  pub text : List ℕ
  pub spells : Spells g value text
  pub len : length text ≡ size
  pub least : (other : A) (text : List ℕ) → Spells g other text → size ≤ length text

-- what fills fewer than four bytes up to the least word
abbrev pub filling : List ℕ → List ℕ
filling [] = 0 ∷ 0 ∷ 0 ∷ 0 ∷ []
filling (a ∷ []) = 0 ∷ 0 ∷ 0 ∷ []
filling (a ∷ b ∷ []) = 0 ∷ 0 ∷ []
filling (a ∷ b ∷ d ∷ rest) = 0 ∷ []

bytes_cons : (a : ℕ) (bytes : List ℕ) → a < 256 → IsBytes bytes → IsBytes (a ∷ bytes)
bytes_cons a bytes lt h zero = lt
bytes_cons a bytes lt h (suc i) = h i

bytes_nil : IsBytes []
bytes_nil i = omega arith

pub record Filled (bytes : List ℕ) : Type 0 where
  pub word_is : spell_word (least_word bytes) ≡ bytes ++ filling bytes
  pub small : least_word bytes < 2 ^ 32

four : (a b d e : ℕ) → a < 256 → b < 256 → d < 256 → e < 256 →
    (spell_word (from_be_bytes w32 (a ∷ b ∷ d ∷ e ∷ [])) ≡ a ∷ b ∷ d ∷ e ∷ [])
    × (from_be_bytes w32 (a ∷ b ∷ d ∷ e ∷ []) < 2 ^ 32)
unfolding spell_word
four a b d e p q r s = (
  be_bytes_4 (a ∷ b ∷ d ∷ e ∷ []) _ refl
      (bytes_cons a (b ∷ d ∷ e ∷ []) p
      (bytes_cons b (d ∷ e ∷ []) q (bytes_cons d (e ∷ []) r (bytes_cons e [] s bytes_nil)))) refl,
  omega arith,
)

pub filled : (bytes : List ℕ) → length bytes < 4 → IsBytes bytes → Filled bytes
unfolding spell_word
filled [] lt fits = record { word_is = refl; small = omega arith }
filled (a ∷ []) lt fits = let f = four a 0 0 0 (fits 0) (omega arith) (omega arith) (omega arith) in
    record { word_is = f.0; small = f.1 }
filled (a ∷ b ∷ []) lt fits = let f = four a b 0 0 (fits 0) (fits 1) (omega arith) (omega arith) in
    record { word_is = f.0; small = f.1 }
filled (a ∷ b ∷ d ∷ []) lt fits = let f = four a b d 0 (fits 0) (fits 1) (fits 2) (omega arith) in
    record { word_is = f.0; small = f.1 }
filled (a ∷ b ∷ d ∷ e ∷ bytes) lt fits = absurd (omega arith)

-- no word that begins so is less
pub least_is : (bytes more : List ℕ) → length bytes < 4 → least_word bytes ≤ from_be_bytes w32 (take 4 (bytes ++ more))
least_is [] more lt = omega arith
least_is (a ∷ []) more lt = omega arith
least_is (a ∷ b ∷ []) more lt = omega arith
least_is (a ∷ b ∷ d ∷ []) more lt = omega arith
least_is (a ∷ b ∷ d ∷ e ∷ bytes) more lt = absurd (omega arith)

pub word_len : (n : ℕ) → length (spell_word n) ≡ 4
unfolding spell_word
word_len n = refl

pub word_back : (n : ℕ) → n < 2 ^ 32 → from_be_bytes w32 (spell_word n) ≡ n
unfolding spell_word
word_back n lt = from_be_bytes-to_be_bytes_4 n lt

-- of bytes that are no whole item there is no start where they are as many as its spellings
pub not_both : {A : Type 0} (r : Result A (Option XdrKind)) (k : Option XdrKind) (x : A) → r ≡ Err k → r ≡ Ok x → ⊥
not_both r k x e d = cc

refuted : (i : Item) (bytes : List ℕ) (why : Option XdrKind) → item_in i bytes ≡ Err why →
    (x : Value i) (more : List ℕ) → Fits i x → bytes ≡ spell i x ++ more → ⊥
refuted i bytes why e x more fits is = not_both (item_in i bytes) why (x, length (spell i x)) e
    (ap (item_in i) is ∙ item_again i x more fits)

pub no_item : {A : Type 0} (i : Item) (n : ℕ) (next : Value i → Grammar A) (bytes : List ℕ) (why : Option XdrKind) →
    ((x : Value i) → Fits i x → length (spell i x) ≡ n) → n ≤ length bytes → item_in i bytes ≡ Err why →
    IsNoStart (grammar.item i next) bytes
no_item i n next bytes why size le e = record {
  none_before = λ value text more s is. refuted i bytes why e s.0 (s.1 ++ more) s.2
      (is ∙ ap (λ (t : List ℕ). t ++ more) s.3 ∙ append_assoc (spell i s.0) s.1 more);
  none_behind = λ value more s.
      let front : take n bytes ≡ spell i s.0 = sym (take-append-le n bytes more le) ∙ ap (take n) s.3
      ∙ take_at (spell i s.0) s.1 n (size s.0 s.2) in
      refuted i bytes why e s.0 (drop n bytes) s.2
      (sym (take-append-drop n bytes) ∙ ap (λ (t : List ℕ). t ++ drop n bytes) front);
}

-- ---- cut words

-- the words between the least and the greatest are those that begin so
pub in_range : (bytes more behind : List ℕ) (x : ℕ) → length bytes < 4 → x < 2 ^ 32 →
    bytes ++ more ≡ spell_word x ++ behind → (least_word bytes ≤ x) × (x ≤ most_word bytes)
unfolding spell_word
in_range [] more behind x lt small e = (omega arith, omega (arith, small))
in_range (a ∷ []) more behind x lt small e =
    let p : a ≡ get_or (spell_word x) 0 0 = ap (λ (t : List ℕ). get_or t 0 0) e in
    (omega (arith, p, small), omega (arith, p, small))
in_range (a ∷ b ∷ []) more behind x lt small e =
    let p : a ≡ get_or (spell_word x) 0 0 = ap (λ (t : List ℕ). get_or t 0 0) e in
    let q : b ≡ get_or (spell_word x) 1 0 = ap (λ (t : List ℕ). get_or t 1 0) e in
    (omega (arith, p, q, small), omega (arith, p, q, small))
in_range (a ∷ b ∷ d ∷ []) more behind x lt small e =
    let p : a ≡ get_or (spell_word x) 0 0 = ap (λ (t : List ℕ). get_or t 0 0) e in
    let q : b ≡ get_or (spell_word x) 1 0 = ap (λ (t : List ℕ). get_or t 1 0) e in
    let r : d ≡ get_or (spell_word x) 2 0 = ap (λ (t : List ℕ). get_or t 2 0) e in
    (omega (arith, p, q, r, small), omega (arith, p, q, r, small))
in_range (a ∷ b ∷ d ∷ e ∷ bytes) more behind x lt small is = absurd (omega arith)

pub completes : (bytes : List ℕ) (x : ℕ) → length bytes < 4 → IsBytes bytes → least_word bytes ≤ x →
    x ≤ most_word bytes → bytes ++ drop (length bytes) (spell_word x) ≡ spell_word x
unfolding spell_word
completes [] x lt fits low high = refl
completes (a ∷ []) x lt fits low high =
    let p : a ≡ get_or (spell_word x) 0 0 = omega (arith, low, high, fits 0) in
    ap (λ (n : ℕ). n ∷ drop 1 (spell_word x)) p
completes (a ∷ b ∷ []) x lt fits low high =
    let p : a ≡ get_or (spell_word x) 0 0 = omega (arith, low, high, fits 0, fits 1) in
    let q : b ≡ get_or (spell_word x) 1 0 = omega (arith, low, high, fits 0, fits 1) in
    ap (λ (n : ℕ). n ∷ b ∷ drop 2 (spell_word x)) p ∙ ap
    (λ (n : ℕ). get_or (spell_word x) 0 0 ∷ n ∷ drop 2 (spell_word x)) q
completes (a ∷ b ∷ d ∷ []) x lt fits low high =
    let p : a ≡ get_or (spell_word x) 0 0 = omega (arith, low, high, fits 0, fits 1, fits 2) in
    let q : b ≡ get_or (spell_word x) 1 0 = omega (arith, low, high, fits 0, fits 1, fits 2) in
    let r : d ≡ get_or (spell_word x) 2 0 = omega (arith, low, high, fits 0, fits 1, fits 2) in
    ap (λ (n : ℕ). n ∷ b ∷ d ∷ drop 3 (spell_word x)) p
    ∙ ap (λ (n : ℕ). get_or (spell_word x) 0 0 ∷ n ∷ d ∷ drop 3 (spell_word x)) q
    ∙ ap (λ (n : ℕ). get_or (spell_word x) 0 0 ∷ get_or (spell_word x) 1 0 ∷ n ∷ drop 3 (spell_word x)) r
completes (a ∷ b ∷ d ∷ e ∷ bytes) x lt fits low high = absurd (omega arith)

-- bytes that some value of an item completes, behind which no value needs less
pub cut_short : {A : Type 0} (i : Item) (next : Value i → Grammar A) (bytes filler : List ℕ) (x : Value i)
    (size after : ℕ) → Fits i x → bytes ++ filler ≡ spell i x → HasLeast (next x) after → length (spell i x) ≡ size →
    length bytes < size
    → ((value : A) (text : List ℕ) → Spells (grammar.item i next) value text → size + after ≤ length text) →
    IsShort (grammar.item i next) bytes (size + after)
cut_short i next bytes filler x size after fits is l len lt least =
    let whole : bytes ++ (filler ++ l.text) ≡ spell i x ++ l.text = sym (append_assoc bytes filler l.text)
    ∙ ap (λ (t : List ℕ). t ++ l.text) is in
    record {
      proper = omega (arith, lt);
      attained = (
        l.value,
        filler ++ l.text,
        (x, l.text, fits, whole, l.spells),
        ap length whole
            ∙ length-append (spell i x) l.text ∙ ap (λ (k : ℕ). k + length l.text) len ∙ ap (λ (k : ℕ). size + k) l.len,
      );
      least = λ value more s. least value (bytes ++ more) s;
    }

-- bytes that no value completes
pub cut_wrong : {A : Type 0} (i : Item) (next : Value i → Grammar A) (bytes : List ℕ) (size : ℕ) →
    ((x : Value i) → Fits i x → size ≤ length (spell i x)) → length bytes < size →
    ((x : Value i) (more behind : List ℕ) → Fits i x → bytes ++ more ≡ spell i x ++ behind → ⊥) →
    IsNoStart (grammar.item i next) bytes
cut_wrong i next bytes size len lt never = record {
  none_before = λ value text more s is.
      let n : length bytes ≡ length (spell i s.0) + length s.1 + length more = ap length is ∙ length-append text more
      ∙ ap (λ (k : ℕ). k + length more) (ap length s.3 ∙ length-append (spell i s.0) s.1) in
      omega (arith, n, len s.0 s.2, lt);
  none_behind = λ value more s. never s.0 more s.1 s.2 s.3;
}

-- each spelling of an item and what is behind it
item_least : {A : Type 0} (i : Item) (next : Value i → Grammar A) (size after : ℕ) →
    ((x : Value i) → Fits i x → size ≤ length (spell i x)) →
    ((x : Value i) → Fits i x → (value : A) (text : List ℕ) → Spells (next x) value text → after ≤ length text)
    → (value : A) (text : List ℕ) → Spells (grammar.item i next) value text → size + after ≤ length text
item_least i next size after len h value text s =
    let n : length text ≡ length (spell i s.0) + length s.1 = ap length s.3 ∙ length-append (spell i s.0) s.1 in
    omega (arith, n, len s.0 s.2, h s.0 s.2 value s.1 s.4)

pub least_item : {A : Type 0} (i : Item) (next : Value i → Grammar A) (size after : ℕ) (x : Value i) → Fits i x →
    length (spell i x) ≡ size → HasLeast (next x) after → ((x : Value i) → Fits i x → size ≤ length (spell i x))
    → ((x : Value i) → Fits i x → (value : A) (text : List ℕ) → Spells (next x) value text → after ≤ length text) →
    HasLeast (grammar.item i next) (size + after)
least_item i next size after x fits len l all h = record {
  value = l.value;
  text = spell i x ++ l.text;
  spells = (x, l.text, fits, refl, l.spells);
  len = length-append (spell i x) l.text ∙ ap (λ (k : ℕ). k + length l.text) len ∙ ap (λ (k : ℕ). size + k) l.len;
  least = λ other text s. item_least i next size after all h other text s;
}

-- ---- a first word that is small

or_big : (n : ℕ) → (0 < n → 255 < n) → (n ≡ 0) ⊎ (255 < n)
or_big zero h = inl refl
or_big (suc n) h = inr (h (omega arith))

pub least_big : (bytes : List ℕ) → length bytes < 4 → (least_word bytes ≡ 0) ⊎ (255 < least_word bytes)
least_big [] lt = inl refl
least_big (a ∷ []) lt = or_big (least_word (a ∷ [])) (λ p. omega arith)
least_big (a ∷ b ∷ []) lt = or_big (least_word (a ∷ b ∷ [])) (λ p. omega arith)
least_big (a ∷ b ∷ d ∷ []) lt = or_big (least_word (a ∷ b ∷ d ∷ [])) (λ p. omega arith)
least_big (a ∷ b ∷ d ∷ e ∷ bytes) lt = absurd (omega arith)

top_of : (low least high most : ℕ) (x : (n : ℕ) × (low ≤ n) × (least ≤ n) × ((n ≡ low) ⊎ (n ≡ least))) → low ≤ high →
    (least ≤ high) × (low ≤ most) → least ≤ most → (x.0 ≤ high) × (x.0 ≤ most)
top_of low least high most x order p m = elim x.3 [
  | inl e ↦ (omega (arith, e, order), omega (arith, e, p.1))
  | inr e ↦ (omega (arith, e, p.0), omega (arith, e, m))
]

-- ---- words from a limit to a limit

both : (a b : Bool) → (a && b) ≡ true → (a ≡ true) × (b ≡ true)
both true b e = (refl, e)
both false b e = absurd cc

both_true : (a b : Bool) → a ≡ true → b ≡ true → (a && b) ≡ true
both_true true b e f = f
both_true false b e f = absurd cc

pub which : (b : Bool) → (b ≡ true) ⊎ (b ≡ false)
which true = inl refl
which false = inr refl

differ : (b : Bool) → b ≡ true → b ≡ false → ⊥
differ b p q = cc

pub either : (a b : Bool) → (a || b) ≡ true → (a ≡ true) ⊎ (b ≡ true)
either true b e = inl refl
either false b e = inr e

neither : (a b : Bool) → (a || b) ≡ false → (a ≡ false) × (b ≡ false)
neither true b e = absurd cc
neither false b e = (refl, e)

or_left : (a b : Bool) → a ≡ true → (a || b) ≡ true
or_left true b e = refl
or_left false b e = absurd cc

or_right : (a b : Bool) → b ≡ true → (a || b) ≡ true
or_right true b e = refl
or_right false b e = e

pub in_one : (n : ℕ) (range : ℕ × ℕ) → is_in n range ≡ true → (range.0 ≤ n) × (n ≤ range.1)
in_one n range e = let p = both (nat_le range.0 n) (nat_le n range.1) e in
    (grind (arith, nat_tests, p.0), grind (arith, nat_tests, p.1))

one_in : (n : ℕ) (range : ℕ × ℕ) → range.0 ≤ n → n ≤ range.1 → is_in n range ≡ true
one_in n range p q = both_true (nat_le range.0 n) (nat_le n range.1) (grind (arith, nat_tests, p))
    (grind (arith, nat_tests, q))

-- ranges that have words
abbrev pub AreRanges : List (ℕ × ℕ) → Type 0
AreRanges [] = Unit {0}
AreRanges (range ∷ ranges) = ((range.0 ≤ range.1) × (range.1 < 2 ^ 32)) × AreRanges ranges

most_small : (bytes : List ℕ) → length bytes < 4 → IsBytes bytes →
    (most_word bytes < 2 ^ 32) × (least_word bytes ≤ most_word bytes)
most_small [] lt fits = (omega arith, omega arith)
most_small (a ∷ []) lt fits = (omega (arith, fits 0), omega arith)
most_small (a ∷ b ∷ []) lt fits = (omega (arith, fits 0, fits 1), omega arith)
most_small (a ∷ b ∷ d ∷ []) lt fits = (omega (arith, fits 0, fits 1, fits 2), omega arith)
most_small (a ∷ b ∷ d ∷ e ∷ bytes) lt fits = absurd (omega arith)

pick : (a b : ℕ) → (n : ℕ) × (a ≤ n) × (b ≤ n) × ((n ≡ a) ⊎ (n ≡ b))
pick a b = elim (cases_lt a b) [
  | inl lt ↦ (b, omega arith, omega arith, inr refl)
  | inr le ↦ (a, omega arith, le, inl refl)
]

-- a word of the ranges that begins so
pub record Touch (ranges : List (ℕ × ℕ)) (bytes : List ℕ) : Type 0 where
  pub x : ℕ
  pub is_one : within ranges x ≡ true
  pub small : x < 2 ^ 32
  pub low : least_word bytes ≤ x
  pub high : x ≤ most_word bytes

touched : (ranges : List (ℕ × ℕ)) (bytes : List ℕ) → AreRanges ranges → length bytes < 4 → IsBytes bytes →
    touches ranges bytes ≡ true → Touch ranges bytes
touched [] bytes h lt fits e = absurd cc
touched (range ∷ ranges) bytes h lt fits e = elim (either (meets bytes range) (touches ranges bytes) e) [
  | inl on ↦
      let q = both (nat_le (least_word bytes) range.1) (nat_le range.0 (most_word bytes)) on in
      let p : (least_word bytes ≤ range.1) × (range.0 ≤ most_word bytes) =
      (grind (arith, nat_tests, q.0), grind (arith, nat_tests, q.1)) in
      let m = most_small bytes lt fits in
      let x = pick range.0 (least_word bytes) in
      let top = top_of range.0 (least_word bytes) range.1 (most_word bytes) x h.0.0 p m.1 in
      record {
        x = x.0;
        is_one = or_left (is_in x.0 range) (within ranges x.0) (one_in x.0 range x.1 top.0);
        small = omega (arith, top.0, h.0.1);
        low = x.2;
        high = top.1;
      }
  | inr on ↦ let t = touched ranges bytes h.1 lt fits on in
      record {
        x = t.x;
        is_one = or_right (is_in t.x range) (within ranges t.x) t.is_one;
        small = t.small;
        low = t.low;
        high = t.high;
      }
]

untouched : (ranges : List (ℕ × ℕ)) (bytes : List ℕ) (x : ℕ) → touches ranges bytes ≡ false → within ranges x ≡ true →
    least_word bytes ≤ x → x ≤ most_word bytes → ⊥
untouched [] bytes x e is p q = absurd cc
untouched (range ∷ ranges) bytes x e is p q =
    let n = neither (meets bytes range) (touches ranges bytes) e in
    elim (either (is_in x range) (within ranges x) is) [
      | inl on ↦
          let w = in_one x range on in
          let t : meets bytes range ≡ true = both_true (nat_le (least_word bytes) range.1)
          (nat_le range.0 (most_word bytes)) (grind (arith, nat_tests, p, w.1))
          (grind (arith, nat_tests, q, w.0)) in
          differ (meets bytes range) t n.0
      | inr on ↦ untouched ranges bytes x n.1 on p q
    ]

pub word_all : (rule : ℕ → Bool) (x : ℕ) → Fits (word rule) x → 4 ≤ length (spell_word x)
word_all rule x fits = omega (arith, word_len x)

pub word_means : {A : Type 0} (ranges : List (ℕ × ℕ)) (after : ℕ) (next : ℕ → Grammar A) → AreRanges ranges →
    ((x : ℕ) → HasLeast (next x) after) → (bytes : List ℕ) (why : Option XdrKind) → IsBytes bytes →
    item_in (word (within ranges)) bytes ≡ Err why
    → Means (grammar.item (word (within ranges)) next) bytes (word_need ranges after bytes)
word_means ranges after next open_all h bytes why fits e = elim (cases_lt (length bytes) 4) [
  | inr le ↦ let t : ltb (length bytes) 4 ≡ false = le-ltb _ _ le in
      rw t (no_item (word (within ranges)) 4 next bytes why (λ x f. word_len x) le e)
  | inl lt ↦ let t : ltb (length bytes) 4 ≡ true = lt-ltb _ _ lt in
      elim (which (touches ranges bytes)) [
        | inl on ↦
            let x = touched ranges bytes open_all lt fits on in
            rw (t, on) (cut_short (word (within ranges)) next bytes (drop (length bytes) (spell_word x.x)) x.x 4 after
            (x.small, x.is_one) (completes bytes x.x lt fits x.low x.high) (h x.x) (word_len x.x) lt
            (item_least (word (within ranges)) next 4 after (word_all (within ranges)) (λ y f. (h y).least)))
        | inr off ↦ rw (t, off)
            (cut_wrong (word (within ranges)) next bytes 4 (word_all (within ranges)) lt (λ x more behind f is.
            let r = in_range bytes more behind x lt f.0 is in
            untouched ranges bytes x off f.1 r.0 r.1))
      ]
]

pub least_of_word : {A : Type 0} (range : ℕ × ℕ) (ranges : List (ℕ × ℕ)) (after : ℕ) (next : ℕ → Grammar A) →
    AreRanges (range ∷ ranges) → ((x : ℕ) → HasLeast (next x) after) →
    HasLeast (grammar.item (word (within (range ∷ ranges))) next) (4 + after)
least_of_word range ranges after next open_all h = least_item (word (within (range ∷ ranges))) next 4 after range.0 (
  omega (arith, open_all.0.0, open_all.0.1),
  or_left (is_in range.0 range) (within ranges range.0)
      (one_in range.0 range (omega arith) open_all.0.0),
) (word_len range.0) (h range.0)
    (word_all (within (range ∷ ranges))) (λ y f. (h y).least)

-- ---- bools

bool_len : (b : Bool) → length (spell boolean b) ≡ 4
bool_len b = word_len (cond b 1 0)

bool_small : (b : Bool) → cond b 1 0 ≤ 1
bool_small true = omega arith
bool_small false = omega arith

pub bool_means : {A : Type 0} (after : ℕ) (next : Bool → Grammar A) → HasLeast (next false) after →
    ((b : Bool) (value : A) (text : List ℕ) → Spells (next b) value text → after ≤ length text) →
    (bytes : List ℕ) (why : Option XdrKind) → IsBytes bytes → item_in boolean bytes ≡ Err why
    → Means (grammar.item boolean next) bytes (bool_need after bytes)
bool_means after next l h bytes why fits e = elim (cases_lt (length bytes) 4) [
  | inr le ↦ let t : ltb (length bytes) 4 ≡ false = le-ltb _ _ le in
      rw t (no_item boolean 4 next bytes why (λ x f. bool_len x) le e)
  | inl lt ↦ let t : ltb (length bytes) 4 ≡ true = lt-ltb _ _ lt in
      elim (least_big bytes lt) [
        | inl z ↦ let u : eqb (least_word bytes) 0 ≡ true = grind (arith, nat_tests, z) in
            rw (t, u) (cut_short boolean next bytes (drop (length bytes) (spell_word 0)) false 4 after tt
            (completes bytes 0 lt fits (omega (arith, z)) (omega arith)) l (word_len 0) lt
            (item_least boolean next 4 after (λ x f. omega (arith, bool_len x)) (λ y f. h y)))
        | inr big ↦ let u : eqb (least_word bytes) 0 ≡ false = grind (arith, nat_tests, big) in
            rw (t, u) (cut_wrong boolean next bytes 4 (λ x f. omega (arith, bool_len x)) lt (λ x more behind f is.
            let r = in_range bytes more behind (cond x 1 0) lt (omega (arith, bool_small x)) is in
            omega (arith, r.0, big, bool_small x)))
      ]
]

pub bool_least : {A : Type 0} (after : ℕ) (next : Bool → Grammar A) → HasLeast (next false) after →
    ((b : Bool) (value : A) (text : List ℕ) → Spells (next b) value text → after ≤ length text) →
    HasLeast (grammar.item boolean next) (4 + after)
bool_least after next l h = least_item boolean next 4 after false tt (word_len 0) l (λ x f. omega (arith, bool_len x))
    (λ y f. h y)

-- a value alone
pub least_gives : {A : Type 0} (a : A) → HasLeast (grammar.gives a) 0
least_gives a = record { value = a; text = []; spells = (refl, refl); len = refl; least = λ other text s. omega arith }
