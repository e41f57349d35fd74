-- The texts of records.
use Rattle.std.proofs.Common.{◌≡◌, ℕ, ◌+◌, ◌<◌, ◌≤◌, Bool, true, false, cond, List, [], ◌∷◌, ◌++◌, length, Option, Some, None, Result, Ok, Err, refl, sym, ap, subst, ◌∙◌, length-append, arith}
use Rattle.std.specs.Prelude.{◌==◌, ◌*◌, ◌-◌, IfOk}
use Rattle.std.proofs.lemmas.Bool.{eqb-true}
use Rattle.std.proofs.lemmas.Bool.Decides.{nat_tests}
use Rattle.std.proofs.lemmas.List.{append-nil}
use Rattle.nfs2_types.specs.declared.word.Word.{Word}
use Rattle.xdr_core.specs.Items.{spell_word, spell_bool, spell_opaque, spell_fixed}
use Rattle.xdr_core.specs.Grammar.{Spells}
use Rattle.log_format.specs.declared.event.Event.{Event}
use Rattle.log_format.specs.declared.event.Event.TheVariants.{Request, Run, RunAll, Reboot, Fetch, Rogue, Skip, Scratch, LieReply, LieRoot, LieItem, Wipe, Swap, End}
use Rattle.xdr_cut.specs.declared.ScanErr.{ScanErr}
use Rattle.xdr_cut.specs.declared.ScanErr.TheVariants as errors
use Rattle.xdr_cut.specs.Cut.{IsScan, Plan, plain}
use Rattle.xdr_cut.specs.Needs.{within}
use Rattle.xdr_cut.specs.Fields.{Field, exactly, maybe, from, any, Maker, plan_of}
use Rattle.log_format.specs.Records.{is_kind, micros, payload, replica, word_of, time_of, fields_of, event_plan, event_form}
use Rattle.log_format.specs.Spelling.{event_text, record_len, cast_text, IsWithin, IsShortWord, HasText}
use Rattle.nfs2_types.specs.declared.word.Word.TheVariants.{Silent, Reply}
use Rattle.xdr_cut.proofs.CutWords.{word_len}
use Rattle.xdr_cut.proofs.CutOpaques.{opaque_len, fixed_len, size_le}
use Rattle.xdr_cut.proofs.FieldTexts.{Givens, made, maybe_text, fields_text, MaybeFits, FieldsFit, told}

-- ---- the fourteen kinds

row : (kind n : ℕ) (xs : List Field) (make : Maker xs Event) (e : Event) (more : List ℕ) → (kind == n) ≡ true →
    ((g : Givens xs) → FieldsFit xs g → (event_text (made xs make g) ≡ spell_word n ++ fields_text xs g)
    × IsWithin (made xs make g))
    → Spells (plain (plan_of xs make)) e more → (event_text e ≡ spell_word kind ++ more) × IsWithin e
row kind n xs make e more k h s =
    let t = told Event xs make e more s in
    let g = h t.givens t.fits in
    let small : IsWithin e = subst (λ (d : Event). IsWithin d) (sym t.is) g.1 in (
      ap event_text t.is ∙ g.0 ∙ ap (λ (r : List ℕ). spell_word n ++ r) (sym t.text_is)
          ∙ ap (λ (m : ℕ). spell_word m ++ more) (sym (eqb-true kind n k)),
      small,
    )

if_text : (G : Type 0) (b : Bool) (p q : Plan Event) (e : Event) (more : List ℕ) →
    (b ≡ true → Spells (plain p) e more → G) → (b ≡ false → Spells (plain q) e more → G) →
    Spells (plain (cond b p q)) e more → G
if_text G true p q e more h k s = h refl s
if_text G false p q e more h k s = k refl s

end_nil : (a : List ℕ) → a ≡ a ++ []
end_nil a = sym (append-nil a)

tail_nil : (a b : List ℕ) → a ++ b ≡ a ++ (b ++ [])
tail_nil a b = ap (λ (t : List ℕ). a ++ t) (end_nil b)

one_nil : (a b : List ℕ) → a ++ b ≡ a ++ (b ++ [])
one_nil a b = tail_nil a b

two_nil : (a b d : List ℕ) → a ++ (b ++ d) ≡ a ++ (b ++ (d ++ []))
two_nil a b d = ap (λ (t : List ℕ). a ++ t) (tail_nil b d)

three_nil : (a b d e : List ℕ) → a ++ (b ++ (d ++ e)) ≡ a ++ (b ++ (d ++ (e ++ [])))
three_nil a b d e = ap (λ (t : List ℕ). a ++ t) (two_nil b d e)

four_nil : (a b d e g : List ℕ) → a ++ (b ++ (d ++ (e ++ g))) ≡ a ++ (b ++ (d ++ (e ++ (g ++ []))))
four_nil a b d e g = ap (λ (t : List ℕ). a ++ t) (three_nil b d e g)

lie_row : (f r place : ℕ) (w : Option (List ℕ)) → MaybeFits 65536 w →
    (event_text (LieReply r place (word_of w)) ≡ spell_word 9
    ++ (spell_word r ++ (spell_word place ++ (maybe_text w ++ [])))) × IsWithin (LieReply r place (word_of w))
lie_row f r place (Some x) fits =
    (three_nil (spell_word 9) (spell_word r) (spell_word place) (spell_bool true ++ spell_opaque x), fits)
lie_row f r place None fits = (three_nil (spell_word 9) (spell_word r) (spell_word place) (spell_bool false), tt)

micros_small : (n : ℕ) → within ((0, 999999) ∷ []) n ≡ true → n < 1000000
micros_small n e = grind (arith, nat_tests, e)

-- a kind that is none of the first thirteen is the last
abbrev IsLast : ℕ → Type 0
IsLast kind = (kind == 1) ≡ false → (kind == 2) ≡ false → (kind == 3) ≡ false → (kind == 4) ≡ false →
    (kind == 5) ≡ false → (kind == 6) ≡ false → (kind == 7) ≡ false → (kind == 8) ≡ false → (kind == 9) ≡ false →
    (kind == 10) ≡ false → (kind == 11) ≡ false → (kind == 12) ≡ false → (kind == 13) ≡ false → (kind == 14) ≡ true

pub fields_told : (f servers kind : ℕ) (e : Event) (more : List ℕ) → IsLast kind →
    Spells (plain (fields_of f servers kind)) e more → (event_text e ≡ spell_word kind ++ more) × IsWithin e
unfolding fields_of
fields_told f servers kind e more last =
    if_text ((event_text e ≡ spell_word kind ++ more) × IsWithin e) (kind == 1) _ _ e more
    (λ k. row kind 1 (any ∷ any ∷ micros ∷ payload ∷ [])
    (λ client secs micros b. Request client (time_of secs micros) b) e more k
    (λ g fits. (
      four_nil (spell_word 1) (spell_word g.0) (spell_word g.1.0) (spell_word g.1.1.0)
          (spell_opaque g.1.1.1.0),
      (micros_small g.1.1.0 fits.1.1.0.1, fits.1.1.1.0),
    ))) λ k1.
    if_text ((event_text e ≡ spell_word kind ++ more) × IsWithin e) (kind == 2) _ _ e more
    (λ k. row kind 2 (replica f ∷ []) (λ r. Run r) e more k
    (λ g fits. (one_nil (spell_word 2) (spell_word g.0), tt))) λ k2.
    if_text ((event_text e ≡ spell_word kind ++ more) × IsWithin e) (kind == 3) _ _ e more
    (λ k. row kind 3 [] RunAll e more k (λ g fits. (end_nil (spell_word 3), tt))) λ k3.
    if_text ((event_text e ≡ spell_word kind ++ more) × IsWithin e) (kind == 4) _ _ e more
    (λ k. row kind 4 (replica f ∷ []) (λ r. Reboot r) e more k
    (λ g fits. (one_nil (spell_word 4) (spell_word g.0), tt))) λ k4.
    if_text ((event_text e ≡ spell_word kind ++ more) × IsWithin e) (kind == 5) _ _ e more
    (λ k. row kind 5 (replica f ∷ from 1 4294967295 ∷ []) (λ r n. Fetch r n) e more k
    (λ g fits. (two_nil (spell_word 5) (spell_word g.0) (spell_word g.1.0), tt))) λ k5.
    if_text ((event_text e ≡ spell_word kind ++ more) × IsWithin e) (kind == 6) _ _ e more
    (λ k. row kind 6 (replica f ∷ any ∷ micros ∷ payload ∷ [])
    (λ r secs micros b. Rogue r (time_of secs micros) b) e more k
    (λ g fits. (
      four_nil (spell_word 6) (spell_word g.0) (spell_word g.1.0) (spell_word g.1.1.0)
          (spell_opaque g.1.1.1.0),
      (micros_small g.1.1.0 fits.1.1.0.1, fits.1.1.1.0),
    ))) λ k6.
    if_text ((event_text e ≡ spell_word kind ++ more) × IsWithin e) (kind == 7) _ _ e more
    (λ k. row kind 7 (replica f ∷ []) (λ r. Skip r) e more k
    (λ g fits. (one_nil (spell_word 7) (spell_word g.0), tt))) λ k7.
    if_text ((event_text e ≡ spell_word kind ++ more) × IsWithin e) (kind == 8) _ _ e more
    (λ k. row kind 8 (replica f ∷ any ∷ any ∷ payload ∷ []) (λ r index offset b. Scratch r index offset b) e more k
    (λ g fits. (
      four_nil (spell_word 8) (spell_word g.0) (spell_word g.1.0) (spell_word g.1.1.0)
          (spell_opaque g.1.1.1.0),
      fits.1.1.1.0,
    ))) λ k8.
    if_text ((event_text e ≡ spell_word kind ++ more) × IsWithin e) (kind == 9) _ _ e more
    (λ k. row kind 9 (replica f ∷ any ∷ maybe 65536 ∷ []) (λ r place w. LieReply r place (word_of w)) e more k
    (λ g fits. lie_row f g.0 g.1.0 g.1.1.0 fits.1.1.0)) λ k9.
    if_text ((event_text e ≡ spell_word kind ++ more) × IsWithin e) (kind == 10) _ _ e more
    (λ k. row kind 10 (replica f ∷ any ∷ exactly 32 ∷ []) (λ r place root. LieRoot r place root) e more k
    (λ g fits. (
      three_nil (spell_word 10) (spell_word g.0) (spell_word g.1.0) (spell_fixed g.1.1.0),
      omega (arith, fits.1.1.0),
    ))) λ k10.
    if_text ((event_text e ≡ spell_word kind ++ more) × IsWithin e) (kind == 11) _ _ e more
    (λ k. row kind 11 (replica f ∷ any ∷ any ∷ payload ∷ []) (λ r level n b. LieItem r level n b) e more k
    (λ g fits. (
      four_nil (spell_word 11) (spell_word g.0) (spell_word g.1.0) (spell_word g.1.1.0)
          (spell_opaque g.1.1.1.0),
      fits.1.1.1.0,
    ))) λ k11.
    if_text ((event_text e ≡ spell_word kind ++ more) × IsWithin e) (kind == 12) _ _ e more
    (λ k. row kind 12 (replica f ∷ []) (λ r. Wipe r) e more k
    (λ g fits. (one_nil (spell_word 12) (spell_word g.0), tt))) λ k12.
    if_text ((event_text e ≡ spell_word kind ++ more) × IsWithin e) (kind == 13) _ _ e more
    (λ k. row kind 13 (replica f ∷ from (3 * f + 1) (servers - 1) ∷ []) (λ r spare. Swap r spare) e more k
    (λ g fits. (two_nil (spell_word 13) (spell_word g.0) (spell_word g.1.0), tt))) λ k13.
    row kind 14 [] End e more (last k1 k2 k3 k4 k5 k6 k7 k8 k9 k10 k11 k12 k13)
    (λ g fits. (end_nil (spell_word 14), tt))

kind_last : (f servers kind : ℕ) → is_kind f servers kind ≡ true → IsLast kind
kind_last f servers kind ok a b d e g h i j k l m n o = grind
    (arith, nat_tests, ok, a, b, d, e, g, h, i, j, k, l, m, n, o)

pub event_told : (f servers : ℕ) (e : Event) (text : List ℕ) → Spells (plain (event_plan f servers)) e text →
    (event_text e ≡ text) × IsWithin e
unfolding event_plan
event_told f servers e text s =
    let t = fields_told f servers s.0 e s.1 (kind_last f servers s.0 s.2.1) s.4 in
    (t.0 ∙ sym s.3, t.1)

pub has_within : (e : Event) → HasText e → IsWithin e
has_within e h = (event_told h.0 h.1 e h.2 h.3).1

-- ---- no record is long

len_one : (a b : List ℕ) (n : ℕ) → length b ≤ n → length (a ++ b) ≤ length a + n
len_one a b n le = omega (arith, length-append a b)

opaque_small : (b : List ℕ) → length b ≤ 65536 → length (spell_opaque b) ≤ 65540
opaque_small b le = omega (arith, opaque_len b, size_le (length b) 65536 le)

fixed_small : (b : List ℕ) → length b ≤ 32 → length (spell_fixed b) ≤ 32
fixed_small b le = omega (arith, fixed_len b, size_le (length b) 32 le)

words_small : (a b d e : ℕ) (x : List ℕ) → length x ≤ 65540 →
    length (spell_word a ++ (spell_word b ++ (spell_word d ++ (spell_word e ++ x)))) ≤ 65556
words_small a b d e x le = omega (
  arith,
  le,
  length-append (spell_word a) (spell_word b ++ (spell_word d ++ (spell_word e ++ x))),
  length-append (spell_word b) (spell_word d ++ (spell_word e ++ x)),
  length-append (spell_word d) (spell_word e ++ x),
  length-append (spell_word e) x,
  word_len a,
  word_len b,
  word_len d,
  word_len e,
)

three_small : (a b d : ℕ) (x : List ℕ) → length x ≤ 65544 →
    length (spell_word a ++ (spell_word b ++ (spell_word d ++ x))) ≤ 65556
three_small a b d x le = omega (
  arith,
  le,
  length-append (spell_word a) (spell_word b ++ (spell_word d ++ x)),
  length-append (spell_word b) (spell_word d ++ x),
  length-append (spell_word d) x,
  word_len a,
  word_len b,
  word_len d,
)

two_small : (a b : ℕ) → length (spell_word a ++ spell_word b) ≤ 65556
two_small a b = omega (arith, length-append (spell_word a) (spell_word b), word_len a, word_len b)

one_small : (a : ℕ) → length (spell_word a) ≤ 65556
one_small a = omega (arith, word_len a)

words_three : (a b d : ℕ) → length (spell_word a ++ (spell_word b ++ spell_word d)) ≤ 65556
words_three a b d = omega (
  arith,
  length-append (spell_word a) (spell_word b ++ spell_word d),
  length-append (spell_word b) (spell_word d),
  word_len a,
  word_len b,
  word_len d,
)

cast_small : (w : Word) → IsShortWord w → length (cast_text w) ≤ 65544
cast_small Silent h = omega (arith, word_len 0)
cast_small (Reply b) h = omega (arith, length-append (spell_bool true) (spell_opaque b), word_len 1, opaque_small b h)

text_small : (e : Event) → IsWithin e → length (event_text e) ≤ 65556
text_small (Request client time b) h = words_small 1 client time.secs time.micros (spell_opaque b) (opaque_small b h.1)
text_small (Run r) h = two_small 2 r
text_small RunAll h = one_small 3
text_small (Reboot r) h = two_small 4 r
text_small (Fetch r n) h = words_three 5 r n
text_small (Rogue r time b) h = words_small 6 r time.secs time.micros (spell_opaque b) (opaque_small b h.1)
text_small (Skip r) h = two_small 7 r
text_small (Scratch r index offset b) h = words_small 8 r index offset (spell_opaque b) (opaque_small b h)
text_small (LieReply r place w) h = three_small 9 r place (cast_text w) (cast_small w h)
text_small (LieRoot r place root) h = three_small 10 r place (spell_fixed root) (omega (arith, fixed_small root h))
text_small (LieItem r level n b) h = words_small 11 r level n (spell_opaque b) (opaque_small b h)
text_small (Wipe r) h = two_small 12 r
text_small (Swap r spare) h = words_three 13 r spare
text_small End h = one_small 14

pub event_small : (f servers : ℕ) (e : Event) (text : List ℕ) → Spells (event_form f servers) e text →
    length text ≤ 65556
event_small f servers e text s = let t = event_told f servers e text s in
    subst (λ (z : List ℕ). length z ≤ 65556) t.0 (text_small e t.1)

abbrev IsRead : ℕ → ℕ → List ℕ → Result (Event × ℕ) ScanErr → Type 0
IsRead f servers bytes r = IsScan (λ x. (x.0, x.1)) (event_form f servers) bytes r

pub has_text : (f servers : ℕ) (bytes : List ℕ) (r : Result (Event × ℕ) ScanErr) → IsRead f servers bytes r →
    IfOk r (λ x. HasText x.0)
has_text f servers bytes (Ok x) h = (f, servers, h.found.0, h.found.2)
has_text f servers bytes (Err e) h = tt

pub short_small : (f servers : ℕ) (bytes : List ℕ) (r : Result (Event × ℕ) ScanErr) → IsRead f servers bytes r →
    (need : ℕ) → r ≡ Err (errors.Short need) → need ≤ 65556
short_small f servers bytes r h need e =
    let s = h.short need e in
    omega (arith, event_small f servers s.attained.0 (bytes ++ s.attained.1) s.attained.2, s.attained.3)

pub len_told : (f servers : ℕ) (e : Event) (text : List ℕ) → Spells (event_form f servers) e text →
    length text ≡ record_len e
unfolding record_len
len_told f servers e text s = ap length (sym (event_told f servers e text s).0)
