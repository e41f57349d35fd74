-- The text of a value that is made of fields.
use Rattle.std.proofs.Common.{◌≡◌, ℕ, ◌+◌, ◌^◌, ◌<◌, ◌≤◌, Bool, true, false, cond, List, [], ◌∷◌, ◌++◌, length, Option, Some, None, Result, Ok, Err, refl, sym, ap, ◌∙◌, append_assoc}
use Rattle.xdr_core.specs.declared.error.XdrKind.{XdrKind}
use Rattle.xdr_core.specs.Items.{any_opaque, spell_word, spell_bool, spell_opaque, spell_fixed, item_in}
use Rattle.xdr_core.specs.Grammar.{Cursor, Spells, ◌>>=◌, skip, placed, item_at, reads}
use Rattle.xdr_core.proofs.Formats.{reads_again}
use Rattle.xdr_cut.specs.Cut.{Plan, gives, item, plain, scanned, scan_item, scans}
use Rattle.xdr_cut.specs.Needs.{within, opaque_need}
use Rattle.xdr_cut.specs.Fields.{least, Field, number, blob, exactly, maybe, Given, Maker, plan_of}

-- ---- what reading gives, scanning gives

placed_ok : {V : Type 0} (c : Cursor) (r : Result (V × ℕ) (Option XdrKind)) (x : V × Cursor) → placed c r ≡ Ok x →
    (n : ℕ) × (r ≡ Ok (x.0, n)) × (x.1 ≡ skip n c)
placed_ok c (Ok y) x e =
    let same : (y.0, skip y.1 c) ≡ x = cc in
    (y.1, ap (λ v. Ok (v, y.1)) (ap (λ p. p.0) same), sym (ap (λ p. p.1) same))
placed_ok c (Err k) x e = absurd cc

bind_ok : {A B E : Type 0} (r : Result A E) (f : A → Result B E) (y : B) → (r >>= f) ≡ Ok y →
    (x : A) × (r ≡ Ok x) × (f x ≡ Ok y)
bind_ok (Ok x) f y e = (x, refl, e)
bind_ok (Err k) f y e = absurd cc

pub reads_scans : {A : Type 0} (p : Plan A) (c : Cursor) (x : A × Cursor) → reads (plain p) c ≡ Ok x → scans p c ≡ Ok x
unfolding scan_item item_at
reads_scans (gives a) c x e = let same : (a, c) ≡ x = cc in ap (λ y. Ok y) same
reads_scans (item i need next) c x e =
    let b = bind_ok (item_at i c) (λ y. reads (plain (next y.0)) y.1) x e in
    let w = placed_ok c (item_in i c.rest) b.0 b.1 in
    let one : scan_item i need c ≡ Ok b.0 = ap (scanned c (need c.rest)) w.1
    ∙ ap (λ (d : Cursor). Ok (b.0.0, d)) (sym w.2) in
    ap (λ r. r >>= λ y. scans (next y.0) y.1) one ∙ reads_scans (next b.0.0) b.0.1 x b.2

pub scans_again : {A : Type 0} (p : Plan A) (value : A) (text more : List ℕ) → Spells (plain p) value text →
    scans p (record { at = 0; rest = text ++ more }) ≡ Ok (value, record { at = 0 + length text; rest = more })
scans_again p value text more s = reads_scans p _ _ (reads_again (plain p) value text more 0 s)

-- ---- what the fields of a text are

abbrev pub Givens : List Field → Type 0
Givens [] = Unit {0}
Givens (x ∷ xs) = Given x × Givens xs

abbrev pub made : {A : Type 0} (xs : List Field) → Maker xs A → Givens xs → A
made [] make g = make
made (x ∷ xs) make g = made xs (make g.0) g.1

abbrev pub maybe_text : Option (List ℕ) → List ℕ
maybe_text (Some x) = spell_bool true ++ spell_opaque x
maybe_text None = spell_bool false

abbrev pub field_text : (x : Field) → Given x → List ℕ
field_text (number ranges) n = spell_word n
field_text (blob max) b = spell_opaque b
field_text (exactly size) b = spell_fixed b
field_text (maybe max) w = maybe_text w

abbrev pub fields_text : (xs : List Field) → Givens xs → List ℕ
fields_text [] g = []
fields_text (x ∷ xs) g = field_text x g.0 ++ fields_text xs g.1

abbrev pub MaybeFits : ℕ → Option (List ℕ) → Type 0
MaybeFits max (Some x) = length x ≤ max
MaybeFits max None = Unit {0}

abbrev pub FieldFits : (x : Field) → Given x → Type 0
FieldFits (number ranges) n = (n < 2 ^ 32) × (within ranges n ≡ true)
FieldFits (blob max) b = length b ≤ max
FieldFits (exactly size) b = length b ≡ size
FieldFits (maybe max) w = MaybeFits max w

abbrev pub FieldsFit : (xs : List Field) → Givens xs → Type 0
FieldsFit [] g = Unit {0}
FieldsFit (x ∷ xs) g = FieldFits x g.0 × FieldsFit xs g.1

pub record Told {A : Type 0} (xs : List Field) (make : Maker xs A) (value : A) (text : List ℕ) : Type 0 where
  pub givens : Givens xs
  pub is : value ≡ made xs make givens
  pub text_is : text ≡ fields_text xs givens
  pub fits : FieldsFit xs givens

behind : (a b c : List ℕ) (text : List ℕ) → text ≡ a ++ b → b ≡ c → text ≡ a ++ c
behind a b c text e f = e ∙ ap (λ (t : List ℕ). a ++ t) f

arm_told : {A : Type 0} (max : ℕ) (xs : List Field) (make : Maker (maybe max ∷ xs) A) (value : A) (text more : List ℕ)
    (b : Bool) → text ≡ spell_bool b ++ more
    → Spells (plain (cond b (item (any_opaque max) (opaque_need max (least xs)) λ x. plan_of xs (make (Some x)))
    (plan_of xs (make None)))) value more
    → ((m : Maker xs A) (t : List ℕ) → Spells (plain (plan_of xs m)) value t → Told xs m value t) →
    Told (maybe max ∷ xs) make value text
arm_told max xs make value text more true e s h =
    let r = h (make (Some s.0)) s.1 s.4 in
    record {
      givens = (Some s.0, r.givens);
      is = r.is;
      text_is = e ∙ ap (λ (t : List ℕ). spell_bool true ++ t)
          (behind (spell_opaque s.0) s.1 (fields_text xs r.givens) more s.3 r.text_is)
          ∙ sym (append_assoc (spell_bool true) (spell_opaque s.0) (fields_text xs r.givens));
      fits = (s.2.1, r.fits);
    }
arm_told max xs make value text more false e s h =
    let r = h (make None) more s in
    record {
      givens = (None, r.givens);
      is = r.is;
      text_is = behind (spell_bool false) more
          (fields_text xs r.givens) text e r.text_is;
      fits = (tt, r.fits);
    }

pub told : (A : Type 0) (xs : List Field) (make : Maker xs A) (value : A) (text : List ℕ) →
    Spells (plain (plan_of xs make)) value text → Told xs make value text
told A [] make value text s = record { givens = tt; is = s.0; text_is = s.1; fits = tt }
told A (number ranges ∷ xs) make value text s =
    let r = told A xs (make s.0) value s.1 s.4 in
    record {
      givens = (s.0, r.givens);
      is = r.is;
      text_is = behind (spell_word s.0) s.1
          (fields_text xs r.givens) text s.3 r.text_is;
      fits = (s.2, r.fits);
    }
told A (blob max ∷ xs) make value text s =
    let r = told A xs (make s.0) value s.1 s.4 in
    record {
      givens = (s.0, r.givens);
      is = r.is;
      text_is = behind (spell_opaque s.0) s.1
          (fields_text xs r.givens) text s.3 r.text_is;
      fits = (s.2.1, r.fits);
    }
told A (exactly size ∷ xs) make value text s =
    let r = told A xs (make s.0) value s.1 s.4 in
    record {
      givens = (s.0, r.givens);
      is = r.is;
      text_is = behind (spell_fixed s.0) s.1
          (fields_text xs r.givens) text s.3 r.text_is;
      fits = (s.2, r.fits);
    }
told A (maybe max ∷ xs) make value text s = arm_told max xs make value text s.1 s.0 s.3 s.4 (λ m t. told A xs m value t)
