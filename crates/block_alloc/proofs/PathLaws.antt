-- A bit is written with those above it, from the bottom up.
use Rattle.std.proofs.Common.{◌≡◌, ◌≢◌, ℕ, ◌+◌, ◌-◌, ◌*◌, ◌/◌, ◌<◌, ◌≤◌, List, length, Bool, get_or, refl, sym, ap, ◌∙◌, inl, inr, arith}
use Rattle.std.proofs.lemmas.Bool.{cases_eq}
use Rattle.block_alloc.specs.Bits.{is_set, has_bits}

-- each bit is right but for the one that stands for the word of `at`
pub record IsWritten (old words : List ℕ) (leaf bit : ℕ) (value : Bool) (at : ℕ) : Type 0 where
  pub within : at / 64 < length words
  pub below : at < 64 * (leaf + 1)
  pub links : (b : ℕ) → b < leaf → b + 1 ≢ at / 64 → is_set words b ≡ has_bits words (b + 1)
  pub here : is_set words bit ≡ value
  pub others : (b : ℕ) → leaf ≤ b → b ≢ bit → is_set words b ≡ is_set old b

-- what a write of one bit did
pub record WritesBit (old words : List ℕ) (bit : ℕ) (value : Bool) : Type 0 where
  pub size : length words ≡ length old
  pub here : is_set words bit ≡ value
  pub others : (b : ℕ) → b ≢ bit → is_set words b ≡ is_set old b
  pub apart : (i : ℕ) → i ≢ bit / 64 → get_or words i 0 ≡ get_or old i 0

has_bits-other : (old words : List ℕ) (i : ℕ) → get_or words i 0 ≡ get_or old i 0 → has_bits words i ≡ has_bits old i
unfolding has_bits
has_bits-other old words i e = rw e refl

pub written_first : (old words : List ℕ) (leaf bit : ℕ) (value : Bool) → bit / 64 < length old → bit < 64 * (leaf + 1)
    → ((b : ℕ) → b < leaf → is_set old b ≡ has_bits old (b + 1)) → leaf ≤ bit → WritesBit old words bit value →
    IsWritten old words leaf bit value bit
written_first old words leaf bit value within below kept low w = record {
  within = rw w.size within;
  below = below;
  links = λ b l ne. let other : b ≢ bit = omega arith in w.others b other ∙ kept b l
      ∙ sym (has_bits-other old words (b + 1) (w.apart (b + 1) ne));
  here = w.here;
  others = λ b l ne. w.others b ne;
}

pub written_next : (first old words : List ℕ) (leaf bit : ℕ) (value : Bool) (at : ℕ) → 64 ≤ at → leaf ≤ bit →
    IsWritten first old leaf bit value at → WritesBit old words (at / 64 - 1) (has_bits old (at / 64)) →
    IsWritten first words leaf bit value (at / 64 - 1)
written_next first old words leaf bit value at more low was w =
    let up : at / 64 - 1 < leaf = omega (arith, was.below) in
    record {
      within = rw w.size (omega (arith, was.within));
      below = omega arith;
      links = λ b l ne. elim (cases_eq b (at / 64 - 1)) [
        | inl e ↦
            let this : b + 1 ≡ at / 64 = omega arith in
            let lower : at / 64 ≢ (at / 64 - 1) / 64 = omega arith in
            ap (is_set words) e ∙ w.here ∙ sym (has_bits-other old words (at / 64) (w.apart (at / 64) lower))
            ∙ ap (has_bits words) (sym this)
        | inr other ↦
            let apart : b + 1 ≢ at / 64 = omega arith in
            w.others b other ∙ was.links b l apart ∙ sym (has_bits-other old words (b + 1) (w.apart (b + 1) ne))
      ];
      here = let other : bit ≢ at / 64 - 1 = omega arith in w.others bit other ∙ was.here;
      others = λ b l ne. let other : b ≢ at / 64 - 1 = omega arith in w.others b other ∙ was.others b l ne;
    }
