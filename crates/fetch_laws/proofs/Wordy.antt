-- An entry whose text was read has numbers that words hold.
use Rattle.std.proofs.Common.{◌≡◌, ℕ, ◌^◌, ◌<◌, ◌⊎◌, List, [], ◌∷◌, ◌++◌, true, refl, sym, ap, subst, ◌∙◌, ⊎_elim, inl, inr, arith}
use Rattle.std.specs.Prelude.{◌==◌, ◌||◌}
use Rattle.std.proofs.lemmas.Bool.{eqb-true, or_cases}
use Rattle.xdr_core.specs.Items.{any_opaque}
use Rattle.xdr_core.specs.Grammar.{Grammar, Spells, gives, item, and_then}
use Rattle.abs_model.specs.declared.Attr.{Attr}
use Rattle.abs_model.specs.declared.Object.{Object}
use Rattle.abs_model.specs.declared.Object.TheVariants.{Null, File, Dir, Link}
use Rattle.abs_model.specs.declared.Entry.{Entry}
use Rattle.abs_model.specs.Objects.{attr_of}
use Rattle.abs_text.specs.Forms.{time_form, attr_form, names_form, file_form, dir_form, link_form, kind_form, object_form, entry_form}
use Rattle.abs_text.specs.Wordy.{IsWordy}

-- owners and seconds are words
record AreWords (a : Attr) : Type 0 where
  uid : a.uid < 2 ^ 32
  gid : a.gid < 2 ^ 32
  atime : a.atime.secs < 2 ^ 32
  mtime : a.mtime.secs < 2 ^ 32
  ctime : a.ctime.secs < 2 ^ 32

-- the attributes of an object, as an entry with this generation has them
abbrev entry : ℕ → Object → Entry
entry g o = record { generation = g; object = o }

abbrev HasWords : Object → Type 0
HasWords o = AreWords (attr_of (entry 0 o))

zero_words : HasWords Null
zero_words = record { uid = omega arith; gid = omega arith; atime = omega arith; mtime = omega arith; ctime = omega arith }

-- attributes that stand before something
attr_words : {A : Type 0} (f : Attr → Grammar A) (value : A) (text : List ℕ) → Spells (and_then attr_form f) value text →
    (a : Attr) × (more : List ℕ) × AreWords a × Spells (f a) value more
unfolding attr_form time_form
attr_words f value text s0 =
    let s1 = s0.4 in
    let s2 = s1.4 in
    let s3 = s2.4 in
    let s4 = s3.4 in
    let s5 = s4.4 in
    let s6 = s5.4 in
    let s7 = s6.4 in
    let s8 = s7.4 in (
      record {
        mode = s0.0;
        uid = s1.0;
        gid = s2.0;
        atime = record { secs = s3.0; micros = s4.0 };
        mtime = record { secs = s5.0; micros = s6.0 };
        ctime = record { secs = s7.0; micros = s8.0 };
      },
      s8.1,
      record { uid = s1.2.0; gid = s2.2.0; atime = s3.2.0; mtime = s5.2.0; ctime = s7.2.0 },
      s8.4,
    )

abbrev OfKind : ℕ → Type 0
OfKind kind = (o : Object) (more : List ℕ) → Spells (kind_form kind) o more → HasWords o

null_words : OfKind 0
null_words o more s = subst HasWords (sym s.0) zero_words

file_words : OfKind 1
unfolding file_form
file_words o more s =
    let a = attr_words (λ b. item (any_opaque 1048576) λ piece. gives (File b piece)) o more s in
    subst HasWords (sym a.3.4.0) a.2

link_words : OfKind 5
unfolding link_form
link_words o more s =
    let a = attr_words (λ b. item (any_opaque 1024) λ piece. gives (Link b piece)) o more s in
    subst HasWords (sym a.3.4.0) a.2

-- what is given behind a format
last_of : {A B : Type 0} (g : Grammar A) (f : A → B) (value : B) (text : List ℕ) →
    Spells (and_then g (λ a. gives (f a))) value text → (a : A) × (value ≡ f a)
last_of (gives b) f value text s = (b, s.0)
last_of (item i next) f value text s = last_of (next s.0) f value s.1 s.4

dir_words : OfKind 2
unfolding dir_form
dir_words o more s =
    let a = attr_words (λ b. and_then names_form (λ names. gives (Dir b names))) o more s in
    let last = last_of names_form (Dir a.0) o a.1 a.3 in
    subst HasWords (sym last.1) a.2

kind_is : (k : ℕ) → (k == 0 || k == 1 || k == 2 || k == 5) ≡ true → (k ≡ 0) ⊎ ((k ≡ 1) ⊎ ((k ≡ 2) ⊎ (k ≡ 5)))
kind_is k h = ⊎_elim
    (λ a. ⊎_elim
    (λ b. ⊎_elim (λ d. inl (eqb-true k 0 d)) (λ d. inr (inl (eqb-true k 1 d))) (or_cases (k == 0) (k == 1) b))
    (λ b. inr (inr (inl (eqb-true k 2 b)))) (or_cases (k == 0 || k == 1) (k == 2) a))
    (λ a. inr (inr (inr (eqb-true k 5 a)))) (or_cases (k == 0 || k == 1 || k == 2) (k == 5) h)

object_words : (o : Object) (text : List ℕ) → Spells object_form o text → HasWords o
unfolding object_form
object_words o text s = ⊎_elim
    (λ h. at 0 h null_words) (λ h. ⊎_elim (λ h. at 1 h file_words)
    (λ h. ⊎_elim (λ h. at 2 h dir_words) (λ h. at 5 h link_words) h) h)
    (kind_is s.0 s.2.1) o s.1 s.4
  where
    at : (n : ℕ) → s.0 ≡ n → OfKind n → OfKind s.0
    at n h is = subst OfKind (sym h) is

-- a format before another, and what stands behind it
parts_of : {A B : Type 0} (g : Grammar A) (f : A → Grammar B) (value : B) (text : List ℕ) → Spells (and_then g f) value text →
    (a : A) × (front more : List ℕ) × Spells g a front × Spells (f a) value more
parts_of (gives b) f value text s = (b, [], text, (refl, refl), s)
parts_of (item i next) f value text s =
    let p = parts_of (next s.0) f value s.1 s.4 in
    (p.0, _, p.2, (s.0, p.1, s.2, refl, p.3), p.4)

attr_same : (g : ℕ) (o : Object) → attr_of (entry g o) ≡ attr_of (entry 0 o)
attr_same g o = refl

pub read_wordy : (i : ℕ) (e : Entry) (text : List ℕ) → Spells entry_form (i, e) text → IsWordy e
unfolding entry_form
read_wordy i e text s0 =
    let s1 = s0.4 in
    let s2 = s1.4 in
    let p = parts_of object_form (λ o. gives (s1.0, entry s2.0 o)) (i, e) s2.1 s2.4 in
    let same : e ≡ entry s2.0 p.0 = ap (λ (x : ℕ × Entry). x.1) p.4.0 in
    let words = object_words p.0 p.1 p.3 in
    subst IsWordy (sym same) (record {
      generation = s2.2.0;
      uid = words.uid;
      gid = words.gid;
      atime = words.atime;
      mtime = words.mtime;
      ctime = words.ctime;
    })
