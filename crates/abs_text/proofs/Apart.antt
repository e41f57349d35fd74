-- The entries of two good arrays are spelled apart.
use Rattle.std.proofs.Common.{◌≡◌, ℕ, ◌*◌, ◌^◌, ◌<◌, ◌≤◌, true, List, [], ◌∷◌, ◌++◌, length, refl, ◌∙◌, ap, subst, arith}
use Rattle.std.specs.Prelude.{Some, slice_get, ◌&&◌, not, nat_le}
use Rattle.std.specs.List.{list_all}
use Rattle.std.proofs.lemmas.Bool.{and_parts, leb-true, ltb-true}
use Rattle.std.proofs.lemmas.Option.{get_or_from_slice_get, slice_get_within}
use Rattle.nfs2_types.specs.declared.Limits.{Limits}
use Rattle.nfs2_types.specs.declared.Time.{Time}
use Rattle.nfs2_types.specs.Names.{is_bad, is_dot, is_name}
use Rattle.nfs2_types.specs.Times.{is_time}
use Rattle.xdr_core.specs.Items.{any_word, any_opaque, spell_word, spell_opaque}
use Rattle.xdr_core.proofs.ItemLaws.{one_spelling}
use Rattle.abs_model.specs.declared.entry.Attr.{Attr}
use Rattle.abs_model.specs.declared.entry.NameRow.{NameRow}
use Rattle.abs_model.specs.declared.entry.Object.{Object}
use Rattle.abs_model.specs.declared.entry.Object.TheVariants.{Null, File, Dir, Link}
use Rattle.abs_model.specs.declared.Entry.{Entry}
use Rattle.abs_model.specs.Objects.{names_of, bytes_of, attr_of}
use Rattle.abs_model.specs.Array.{entry_at, null_entry}
use Rattle.abs_model.specs.Valid.{leads}
use Rattle.abs_model.specs.Bounds.{HasBounds}
use Rattle.abs_model.proofs.Bounded.{bounded}
use Rattle.abs_model.proofs.Shapes.{fits_parts, live_below}
use Rattle.abs_model.proofs.Facts.{led_is}
use Rattle.abs_text.specs.Text.{attr_text, rows_text, object_text, entry_text}
use Rattle.abs_text.specs.Wordy.{IsGood}

-- Words and opaques

word_same : (m n : ℕ) (more behind : List ℕ) → m < 2 ^ 32 → n < 2 ^ 32 → spell_word m ++ more ≡ spell_word n ++ behind →
    (m ≡ n) × (more ≡ behind)
word_same m n more behind h g e = one_spelling any_word m n more behind (h, refl) (g, refl) e

opaque_same : (xs ys more behind : List ℕ) → length xs ≤ 1048576 → length ys ≤ 1048576 →
    spell_opaque xs ++ more ≡ spell_opaque ys ++ behind → (xs ≡ ys) × (more ≡ behind)
opaque_same xs ys more behind h g e = one_spelling (any_opaque 1048576) xs ys more behind (omega arith, h, refl)
    (omega arith, g, refl) e

-- Attributes

record AttrFits (a : Attr) : Type 0 where
  mode : a.mode < 2 ^ 32
  uid : a.uid < 2 ^ 32
  gid : a.gid < 2 ^ 32
  asecs : a.atime.secs < 2 ^ 32
  amicros : a.atime.micros < 2 ^ 32
  msecs : a.mtime.secs < 2 ^ 32
  mmicros : a.mtime.micros < 2 ^ 32
  csecs : a.ctime.secs < 2 ^ 32
  cmicros : a.ctime.micros < 2 ^ 32

same_attr : (a b : Attr) → a.mode ≡ b.mode → a.uid ≡ b.uid → a.gid ≡ b.gid → a.atime.secs ≡ b.atime.secs →
    a.atime.micros ≡ b.atime.micros →
    a.mtime.secs ≡ b.mtime.secs → a.mtime.micros ≡ b.mtime.micros → a.ctime.secs ≡ b.ctime.secs →
    a.ctime.micros ≡ b.ctime.micros → a ≡ b
same_attr a b e1 e2 e3 e4 e5 e6 e7 e8 e9 =
    let at : a.atime ≡ b.atime = λ i. record { secs = e4 i; micros = e5 i } in
    let mt : a.mtime ≡ b.mtime = λ i. record { secs = e6 i; micros = e7 i } in
    let ct : a.ctime ≡ b.ctime = λ i. record { secs = e8 i; micros = e9 i } in
    λ i. record { mode = e1 i; uid = e2 i; gid = e3 i; atime = at i; mtime = mt i; ctime = ct i }

attr_same : (a b : Attr) (more behind : List ℕ) → AttrFits a → AttrFits b → attr_text a more ≡ attr_text b behind →
    (a ≡ b) × (more ≡ behind)
attr_same a b more behind h g e =
    let s1 = word_same a.mode b.mode _ _ h.mode g.mode e in
    let s2 = word_same a.uid b.uid _ _ h.uid g.uid s1.1 in
    let s3 = word_same a.gid b.gid _ _ h.gid g.gid s2.1 in
    let s4 = word_same a.atime.secs b.atime.secs _ _ h.asecs g.asecs s3.1 in
    let s5 = word_same a.atime.micros b.atime.micros _ _ h.amicros g.amicros s4.1 in
    let s6 = word_same a.mtime.secs b.mtime.secs _ _ h.msecs g.msecs s5.1 in
    let s7 = word_same a.mtime.micros b.mtime.micros _ _ h.mmicros g.mmicros s6.1 in
    let s8 = word_same a.ctime.secs b.ctime.secs _ _ h.csecs g.csecs s7.1 in
    let s9 = word_same a.ctime.micros b.ctime.micros _ _ h.cmicros g.cmicros s8.1 in
    (same_attr a b s1.0 s2.0 s3.0 s4.0 s5.0 s6.0 s7.0 s8.0 s9.0, s9.1)

-- Rows

record RowFits (r : NameRow) : Type 0 where
  name : length r.name ≤ 1048576
  index : r.index < 2 ^ 32
  generation : r.generation < 2 ^ 32

abbrev RowsFit : List NameRow → Type 0
RowsFit [] = Unit {0}
RowsFit (r ∷ rs) = RowFits r × RowsFit rs

same_row : (r s : NameRow) → r.name ≡ s.name → r.index ≡ s.index → r.generation ≡ s.generation → r ≡ s
same_row r s e1 e2 e3 = λ i. record { name = e1 i; index = e2 i; generation = e3 i }

rows_same : (rs ss : List NameRow) → length rs ≡ length ss → RowsFit rs → RowsFit ss → rows_text rs ≡ rows_text ss →
    rs ≡ ss
rows_same [] [] n h g e = refl
rows_same [] (s ∷ ss) n h g e = absurd (omega arith)
rows_same (r ∷ rs) [] n h g e = absurd (omega arith)
rows_same (r ∷ rs) (s ∷ ss) n h g e =
    let s1 = opaque_same r.name s.name _ _ h.0.name g.0.name e in
    let s2 = word_same r.index s.index _ _ h.0.index g.0.index s1.1 in
    let s3 = word_same r.generation s.generation _ _ h.0.generation g.0.generation s2.1 in
    let here : r ≡ s = same_row r s s1.0 s2.0 s3.0 in
    let rest : rs ≡ ss = rows_same rs ss (omega arith) h.1 g.1 s3.1 in
    ap (λ x. x ∷ rs) here ∙ ap (λ xs. s ∷ xs) rest

-- Objects

abbrev ObjectFits : Object → Type 0
ObjectFits Null = Unit {0}
ObjectFits (File a bytes) = AttrFits a × (length bytes ≤ 1048576)
ObjectFits (Dir a names) = AttrFits a × (length names < 2 ^ 32) × RowsFit names
ObjectFits (Link a text) = AttrFits a × (length text ≤ 1048576)

object_same : (x y : Object) → ObjectFits x → ObjectFits y → object_text x ≡ object_text y → x ≡ y
object_same Null Null h g e = refl
object_same (File a bytes) (File b text) h g e =
    let s1 = word_same 1 1 _ _ (omega arith) (omega arith) e in
    let s2 = attr_same a b _ _ h.0 g.0 s1.1 in
    let s3 = opaque_same bytes text [] [] h.1 g.1 s2.1 in
    ap (λ x. File x bytes) s2.0 ∙ ap (λ x. File b x) s3.0
object_same (Link a bytes) (Link b text) h g e =
    let s1 = word_same 5 5 _ _ (omega arith) (omega arith) e in
    let s2 = attr_same a b _ _ h.0 g.0 s1.1 in
    let s3 = opaque_same bytes text [] [] h.1 g.1 s2.1 in
    ap (λ x. Link x bytes) s2.0 ∙ ap (λ x. Link b x) s3.0
object_same (Dir a rs) (Dir b ss) h g e =
    let s1 = word_same 2 2 _ _ (omega arith) (omega arith) e in
    let s2 = attr_same a b _ _ h.0 g.0 s1.1 in
    let s3 = word_same (length rs) (length ss) _ _ h.1 g.1 s2.1 in
    let s4 : rs ≡ ss = rows_same rs ss s3.0 h.2 g.2 s3.1 in
    ap (λ x. Dir x rs) s2.0 ∙ ap (λ x. Dir b x) s4
object_same Null (File b t) h g e = absurd
    (let s = word_same 0 1 _ _ (omega arith) (omega arith) e in omega (arith, s.0))
object_same Null (Dir b t) h g e = absurd
    (let s = word_same 0 2 _ _ (omega arith) (omega arith) e in omega (arith, s.0))
object_same Null (Link b t) h g e = absurd
    (let s = word_same 0 5 _ _ (omega arith) (omega arith) e in omega (arith, s.0))
object_same (File a t) Null h g e = absurd
    (let s = word_same 1 0 _ _ (omega arith) (omega arith) e in omega (arith, s.0))
object_same (File a t) (Dir b u) h g e = absurd
    (let s = word_same 1 2 _ _ (omega arith) (omega arith) e in omega (arith, s.0))
object_same (File a t) (Link b u) h g e = absurd
    (let s = word_same 1 5 _ _ (omega arith) (omega arith) e in omega (arith, s.0))
object_same (Dir a t) Null h g e = absurd
    (let s = word_same 2 0 _ _ (omega arith) (omega arith) e in omega (arith, s.0))
object_same (Dir a t) (File b u) h g e = absurd
    (let s = word_same 2 1 _ _ (omega arith) (omega arith) e in omega (arith, s.0))
object_same (Dir a t) (Link b u) h g e = absurd
    (let s = word_same 2 5 _ _ (omega arith) (omega arith) e in omega (arith, s.0))
object_same (Link a t) Null h g e = absurd
    (let s = word_same 5 0 _ _ (omega arith) (omega arith) e in omega (arith, s.0))
object_same (Link a t) (File b u) h g e = absurd
    (let s = word_same 5 1 _ _ (omega arith) (omega arith) e in omega (arith, s.0))
object_same (Link a t) (Dir b u) h g e = absurd
    (let s = word_same 5 2 _ _ (omega arith) (omega arith) e in omega (arith, s.0))

entry_same : (i : ℕ) (x y : Entry) → i < 2 ^ 32 → x.generation < 2 ^ 32 → y.generation < 2 ^ 32 → ObjectFits x.object →
    ObjectFits y.object → entry_text i x ≡ entry_text i y → x ≡ y
entry_same i x y low gx gy ox oy e =
    let s1 = word_same 0 0 _ _ (omega arith) (omega arith) e in
    let s2 = word_same i i _ _ low low s1.1 in
    let s3 = word_same x.generation y.generation _ _ gx gy s2.1 in
    let object : x.object ≡ y.object = object_same x.object y.object ox oy s3.1 in
    λ j. record { generation = s3.0 j; object = object j }

-- What fits in a good array

module _ (limits : Limits) (n_small : limits.n < 2 ^ 32) (t_small : limits.t < 2 ^ 32) (A : List Entry)
    (good : IsGood limits A) (i : ℕ) (below : i < length A) where
  e : Entry
  e = entry_at A i

  bounds : HasBounds A i
  bounds = bounded limits A i good.valid n_small t_small below

  micros : (t : Time) → is_time t ≡ true → t.micros < 2 ^ 32
  micros t h = let low : t.micros < 1000000 = ltb-true t.micros 1000000 h in omega arith

  attr_fits : AttrFits (attr_of (entry_at A i))
  attr_fits =
      let own = (fits_parts (entry_at A i) (good.valid.fits i below)).attr in
      let a = attr_of (entry_at A i) in
      let all = and_parts (is_time a.atime && is_time a.mtime) (is_time a.ctime) own.times in
      let two = and_parts (is_time a.atime) (is_time a.mtime) all.0 in
      let w = good.wordy i in
      let low : a.mode < 4096 = ltb-true a.mode 4096 own.mode in
      record {
        mode = omega arith;
        uid = w.uid;
        gid = w.gid;
        asecs = w.atime;
        amicros = micros a.atime two.0;
        msecs = w.mtime;
        mmicros = micros a.mtime two.1;
        csecs = w.ctime;
        cmicros = micros a.ctime all.1;
      }

  rows_fit : (rows : List NameRow) → list_all (λ (r : NameRow). is_name r.name) rows ≡ true →
      list_all (leads A) rows ≡ true → RowsFit rows
  rows_fit [] h g = tt
  rows_fit (r ∷ rs) h g =
      let hp = and_parts (is_name r.name) (list_all (λ (r : NameRow). is_name r.name) rs) h in
      let gp = and_parts (leads A r) (list_all (leads A) rs) g in
      let name = and_parts (not (is_bad r.name) && nat_le (length r.name) 255) (not (is_dot r.name)) hp.0 in
      let short = and_parts (not (is_bad r.name)) (nat_le (length r.name) 255) name.0 in
      let few : length r.name ≤ 255 = leb-true (length r.name) 255 short.1 in
      let led = led_is A r gp.0 in
      let within : r.index < length A = live_below A r.index led.live in
      let size : length A ≡ limits.n = good.valid.size in
      let w : (entry_at A r.index).generation < 2 ^ 32 = (good.wordy r.index).generation in (
        record { name = omega arith; index = omega arith; generation = subst (λ x. x < 2 ^ 32) led.generation w },
        rows_fit rs hp.1 gp.1,
      )

  object_fits : (o : Object) → attr_of (entry_at A i) ≡ attr_of (record { generation = 0; object = o }) →
      bytes_of (entry_at A i) ≡ bytes_of (record { generation = 0; object = o }) →
      names_of (entry_at A i) ≡ names_of (record { generation = 0; object = o }) → ObjectFits o
  object_fits Null ea eb en = tt
  object_fits (File a bytes) ea eb en = (subst AttrFits ea attr_fits, subst (λ xs. length xs ≤ 1048576) eb bounds.bytes)
  object_fits (Link a text) ea eb en = (subst AttrFits ea attr_fits, subst (λ xs. length xs ≤ 1048576) eb bounds.bytes)
  object_fits (Dir a names) ea eb en =
      let own = fits_parts (entry_at A i) (good.valid.fits i below) in
      let few : 512 * length (names_of (entry_at A i)) < 2 ^ 32 = bounds.names in
      let less : length (names_of (entry_at A i)) < 2 ^ 32 = omega arith in (
        subst AttrFits ea attr_fits,
        subst (λ rs. length rs < 2 ^ 32) en less,
        subst RowsFit en (rows_fit (names_of (entry_at A i)) own.named (good.valid.lead i below)),
      )

  fits_here : ObjectFits (entry_at A i).object
  fits_here = object_fits (entry_at A i).object refl refl refl

pub text_apart : (limits : Limits) → limits.n < 2 ^ 32 → limits.t < 2 ^ 32 → (a b : List Entry) → IsGood limits a →
    IsGood limits b → (i : ℕ) (x y : Entry) →
    slice_get a i ≡ Some x → slice_get b i ≡ Some y → entry_text i x ≡ entry_text i y → x ≡ y
text_apart limits n t a b ga gb i x y ea eb e =
    let la = slice_get_within a i x ea in
    let lb = slice_get_within b i y eb in
    let xa : entry_at a i ≡ x = get_or_from_slice_get a i x null_entry ea in
    let yb : entry_at b i ≡ y = get_or_from_slice_get b i y null_entry eb in
    let size : length a ≡ limits.n = ga.valid.size in
    entry_same i x y (omega arith) (subst (λ (z : Entry). z.generation < 2 ^ 32) xa (ga.wordy i).generation)
    (subst (λ (z : Entry). z.generation < 2 ^ 32) yb (gb.wordy i).generation)
    (subst (λ (z : Entry). ObjectFits z.object) xa (fits_here limits n t a ga i la))
    (subst (λ (z : Entry). ObjectFits z.object) yb (fits_here limits n t b gb i lb)) e
