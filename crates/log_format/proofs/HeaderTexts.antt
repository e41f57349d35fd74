-- Headers.
use Rattle.std.proofs.Common.{◌≡◌, ℕ, ◌+◌, ◌≤◌, true, false, List, [], ◌∷◌, ◌++◌, length, inl, inr, Result, Ok, Err, refl, sym, ap, subst, ◌∙◌, length-append, arith}
use Rattle.std.specs.Prelude.{IsOkAnd, IsErr}
use Rattle.std.proofs.lemmas.List.{append-nil, nil_from_length}
use Rattle.xdr_core.specs.Items.{IsBytes, spell_word}
use Rattle.xdr_core.specs.Grammar.{Cursor, Spells}
use Rattle.xdr_cut.specs.declared.CutErr.{CutErr}
use Rattle.log_format.specs.declared.header.Header.{Header}
use Rattle.xdr_cut.specs.Cut.{IsNoStart, plain, scans}
use Rattle.xdr_cut.specs.Needs.{within, is_in}
use Rattle.xdr_cut.specs.Fields.{number, from}
use Rattle.log_format.specs.Records.{header_of, header_plan}
use Rattle.log_format.specs.Spelling.{header_text}
use Rattle.xdr_cut.proofs.Scans.{begins_at}
use Rattle.xdr_cut.proofs.CutWords.{either, in_one}
use Rattle.xdr_cut.proofs.Fields.{least_plan}
use Rattle.xdr_cut.proofs.FieldTexts.{told, scans_again}

abbrev start : List ℕ → Cursor
start bytes = record { at = 0; rest = bytes }

header_size : (h : Header) (text : List ℕ) → Spells (plain header_plan) h text → 24 ≤ length text
unfolding header_plan
header_size h text s =
    (least_plan (from 1111577413 1111577413 ∷ from 1280263985 1280263985 ∷ from 0 2
    ∷ number ((16, 16) ∷ (256, 256) ∷ (4096, 4096) ∷ []) ∷ from 1 1024 ∷ from 512 16777216 ∷ [])
    (λ base log f n k t. header_of f n k t) (
      ((omega arith, omega arith), tt),
      (
        ((omega arith, omega arith), tt),
        (
          ((omega arith, omega arith), tt),
          (
            ((omega arith, omega arith), ((omega arith, omega arith), ((omega arith, omega arith), tt))),
            (((omega arith, omega arith), tt), (((omega arith, omega arith), tt), tt)),
          ),
        ),
      ),
    )).least h text s

found_in : (bytes : List ℕ) (h : Header) (r : Result (Header × Cursor) CutErr) → IsBytes bytes → length bytes ≡ 24 →
    scans header_plan (start bytes) ≡ r → IsOkAnd r (λ y. y.0 ≡ h) → Spells (plain header_plan) h bytes
found_in bytes h (Ok y) fits len e is =
    let b = begins_at header_plan bytes y fits e in
    let size = header_size y.0 b.0 b.2 in
    let none : b.1 ≡ [] = nil_from_length b.1 (omega (arith, len, ap length b.3, length-append b.0 b.1, size)) in
    let all : b.0 ≡ bytes = sym (b.3 ∙ ap (λ (t : List ℕ). b.0 ++ t) none ∙ append-nil b.0) in
    subst (λ (x : Header). Spells (plain header_plan) x bytes) is
    (subst (λ (t : List ℕ). Spells (plain header_plan) y.0 t) all b.2)
found_in bytes h (Err e) fits len s is = absurd is

pub header_found : (bytes : List ℕ) (h : Header) → IsBytes bytes → length bytes ≡ 24 →
    IsOkAnd (scans header_plan (start bytes)) (λ y. y.0 ≡ h) → Spells (plain header_plan) h bytes
header_found bytes h fits len is = found_in bytes h (scans header_plan (start bytes)) fits len refl is

scanned_whole : (bytes : List ℕ) (h : Header) → Spells (plain header_plan) h bytes →
    scans header_plan (start bytes) ≡ Ok (h, record { at = 0 + length bytes; rest = [] })
scanned_whole bytes h s = ap (λ (t : List ℕ). scans header_plan (start t)) (sym (append-nil bytes))
    ∙ scans_again header_plan h bytes [] s

pub header_same : (bytes : List ℕ) (x h : Header) → IsOkAnd (scans header_plan (start bytes)) (λ y. y.0 ≡ x) →
    Spells (plain header_plan) h bytes → x ≡ h
header_same bytes x h is s =
    let e : h ≡ x = subst (λ (r : Result (Header × Cursor) CutErr). IsOkAnd r (λ y. y.0 ≡ x))
    (scanned_whole bytes h s) is in sym e

pub header_none : (bytes : List ℕ) (h : Header) → IsErr (scans header_plan (start bytes)) →
    Spells (plain header_plan) h bytes → ⊥
header_none bytes h is s =
    let e = subst (λ (r : Result (Header × Cursor) CutErr). IsErr r) (scanned_whole bytes h s) is in absurd cc

only_one : (a n : ℕ) → within ((a, a) ∷ []) n ≡ true → n ≡ a
only_one a n e = elim (either (is_in n (a, a)) false e) [
  | inl on ↦ let p = in_one n (a, a) on in omega (arith, p.0, p.1)
  | inr off ↦ absurd cc
]

five_nil : (a b d e g h : List ℕ) → a ++ (b ++ (d ++ (e ++ (g ++ h)))) ≡ a ++ (b ++ (d ++ (e ++ (g ++ (h ++ [])))))
five_nil a b d e g h = ap (λ (t : List ℕ). a ++ (b ++ (d ++ (e ++ (g ++ t))))) (sym (append-nil h))

text_of : (h : Header) (a b f n k t : ℕ) → h ≡ header_of f n k t → a ≡ 1111577413 → b ≡ 1280263985 →
    header_text h ≡ spell_word a
    ++ (spell_word b ++ (spell_word f ++ (spell_word n ++ (spell_word k ++ (spell_word t ++ [])))))
text_of h a b f n k t e p q = ap header_text e ∙ five_nil (spell_word 1111577413) (spell_word 1280263985) (spell_word f)
    (spell_word n) (spell_word k) (spell_word t)
    ∙ ap (λ (x : ℕ). spell_word x
    ++ (spell_word 1280263985 ++ (spell_word f ++ (spell_word n ++ (spell_word k ++ (spell_word t ++ []))))))
    (sym p)
    ∙ ap (λ (x : ℕ). spell_word a
    ++ (spell_word x ++ (spell_word f ++ (spell_word n ++ (spell_word k ++ (spell_word t ++ [])))))) (sym q)

pub header_told : (h : Header) (text : List ℕ) → Spells (plain header_plan) h text → header_text h ≡ text
unfolding header_plan
header_told h text s =
    let t = told Header (from 1111577413 1111577413 ∷ from 1280263985 1280263985 ∷ from 0 2
    ∷ number ((16, 16) ∷ (256, 256) ∷ (4096, 4096) ∷ []) ∷ from 1 1024 ∷ from 512 16777216 ∷ [])
    (λ base log f n k t. header_of f n k t) h text s in
    let g = t.givens in
    text_of h g.0 g.1.0 g.1.1.0 g.1.1.1.0 g.1.1.1.1.0 g.1.1.1.1.1.0 t.is (only_one 1111577413 g.0 t.fits.0.1)
    (only_one 1280263985 g.1.0 t.fits.1.0.1) ∙ sym t.text_is

text_len : (h : Header) → length (header_text h) ≡ 24
unfolding spell_word
text_len h = refl

-- each header has 24 bytes
pub header_len : (h : Header) (text : List ℕ) → Spells (plain header_plan) h text → length text ≡ 24
header_len h text s = ap length (sym (header_told h text s)) ∙ text_len h

-- 24 bytes that are no header begin none, whatever stands behind them
pub header_no_start : (bytes : List ℕ) → length bytes ≡ 24 → ((h : Header) → Spells (plain header_plan) h bytes → ⊥) →
    IsNoStart (plain header_plan) bytes
header_no_start bytes len none = record {
  none_before = λ h text more s is.
      let nil : more ≡ [] = nil_from_length more
      (omega (arith, header_len h text s, ap length is, length-append text more, len)) in
      let all : text ≡ bytes = sym (is ∙ ap (λ (t : List ℕ). text ++ t) nil ∙ append-nil text) in
      none h (subst (λ (t : List ℕ). Spells (plain header_plan) h t) all s);
  none_behind = λ h more s.
      let nil : more ≡ [] = nil_from_length more
      (omega (arith, header_len h (bytes ++ more) s, length-append bytes more, len)) in
      none h (subst (λ (t : List ℕ). Spells (plain header_plan) h t)
      (ap (λ (t : List ℕ). bytes ++ t) nil ∙ append-nil bytes) s);
}
