-- The text of an entry is its spelling in the format, and there is no other.
use Rattle.std.proofs.Common.{◌≡◌, ◌⊎◌, inl, inr, ⊎_elim, ℕ, zero, suc, ◌-◌, ◌^◌, ◌<◌, ◌≤◌, true, List, [], ◌∷◌, ◌++◌, length, refl, sym, ap, subst, ◌∙◌, append_assoc, arith}
use Rattle.std.specs.Prelude.{◌==◌, ◌&&◌, ◌||◌, not, nat_lt, nat_le, slice_get}
use Rattle.std.specs.List.{list_all}
use Rattle.std.proofs.lemmas.List.{append-nil}
use Rattle.std.proofs.lemmas.Bool.{and_parts, and_from, or_cases, eqb-true, ltb-true, leb-true}
use Rattle.nfs2_types.specs.declared.Time.{Time}
use Rattle.nfs2_types.specs.Times.{is_time}
use Rattle.nfs2_types.specs.Names.{is_name, is_bad, is_dot}
use Rattle.xdr_core.specs.Items.{spell, spell_word, spell_opaque, any_opaque}
use Rattle.xdr_core.specs.Grammar.{Grammar, gives, item, and_then, listed, Spells}
use Rattle.xdr_core.proofs.Formats.{spells_after}
use Rattle.abs_model.specs.declared.Attr.{Attr}
use Rattle.abs_model.specs.declared.NameRow.{NameRow}
use Rattle.abs_model.specs.declared.Object.{Object}
use Rattle.abs_model.specs.declared.Object.TheVariants.{Null, File, Dir, Link}
use Rattle.abs_model.specs.declared.Entry.{Entry}
use Rattle.abs_model.specs.Objects.{attr_of, name_lt}
use Rattle.abs_model.specs.Valid.{is_rising}
use Rattle.abs_model.proofs.Shapes.{fits_parts}
use Rattle.abs_text.specs.Text.{attr_text, rows_text, object_text, entry_text}
use Rattle.abs_text.specs.Forms.{time_form, attr_form, is_behind, last_row, may_follow, row_form, names_form, file_form, dir_form, link_form, kind_form, object_form, entry_form}
use Rattle.abs_text.specs.Spelled.{AreWordyRows, IsSpelled}

-- An entry's text is a spelling

abbrev made : ℕ → ℕ → ℕ → Time → Time → Time → Attr
made mode uid gid atime mtime ctime =
    record { mode = mode; uid = uid; gid = gid; atime = atime; mtime = mtime; ctime = ctime }

-- the numbers of attributes are words, and within their rules
record IsAttr (a : Attr) : Type 0 where
  mode : a.mode < 4096
  uid : a.uid < 2 ^ 32
  gid : a.gid < 2 ^ 32
  atime : (a.atime.secs < 2 ^ 32) × (a.atime.micros < 1000000)
  mtime : (a.mtime.secs < 2 ^ 32) × (a.mtime.micros < 1000000)
  ctime : (a.ctime.secs < 2 ^ 32) × (a.ctime.micros < 1000000)

below : (n m : ℕ) → n < m → nat_lt n m ≡ true
below n m h = grind (arith, h)

attr_spelled : {A : Type 0} (a : Attr) (f : Attr → Grammar A) (value : A) (more : List ℕ) → IsAttr a →
    Spells (f a) value more → Spells (and_then attr_form f) value (attr_text a more)
unfolding attr_form time_form
attr_spelled a f value more k s =
    let small : a.mode < 2 ^ 32 = let h = k.mode in omega (arith, h) in
    let am : a.atime.micros < 2 ^ 32 = let h = k.atime.1 in omega (arith, h) in
    let mm : a.mtime.micros < 2 ^ 32 = let h = k.mtime.1 in omega (arith, h) in
    let cm : a.ctime.micros < 2 ^ 32 = let h = k.ctime.1 in omega (arith, h) in (
      a.mode,
      _,
      (small, below a.mode 4096 k.mode),
      refl,
      (
        a.uid,
        _,
        (k.uid, refl),
        refl,
        (
          a.gid,
          _,
          (k.gid, refl),
          refl,
          (
            a.atime.secs,
            _,
            (k.atime.0, refl),
            refl,
            (
              a.atime.micros,
              _,
              (am, below a.atime.micros 1000000 k.atime.1),
              refl,
              (
                a.mtime.secs,
                _,
                (k.mtime.0, refl),
                refl,
                (
                  a.mtime.micros,
                  _,
                  (mm, below a.mtime.micros 1000000 k.mtime.1),
                  refl,
                  (
                    a.ctime.secs,
                    _,
                    (k.ctime.0, refl),
                    refl,
                    (a.ctime.micros, more, (cm, below a.ctime.micros 1000000 k.ctime.1), refl, s),
                  ),
                ),
              ),
            ),
          ),
        ),
      ),
    )

-- a name lies behind the last of those before it
behind_last : (front : List NameRow) (r : NameRow) (rs : List NameRow) → is_rising (front ++ r ∷ rs) ≡ true →
    is_behind (last_row front) r.name ≡ true
behind_last [] r rs rising = refl
behind_last (f ∷ []) r rs rising =
    let here = and_parts (list_all (λ (s : NameRow). name_lt f.name s.name) (r ∷ rs)) (is_rising (r ∷ rs)) rising in
    (and_parts (name_lt f.name r.name) (list_all (λ (s : NameRow). name_lt f.name s.name) rs) here.0).0
behind_last (f ∷ g ∷ gs) r rs rising =
    let n = length gs in
    let one : suc (suc n) - 1 ≡ suc n = omega arith in
    let two : suc n - 1 ≡ n = omega arith in
    let rest = and_parts (list_all (λ (s : NameRow). name_lt f.name s.name) (g ∷ gs ++ r ∷ rs))
    (is_rising (g ∷ gs ++ r ∷ rs)) rising in
    ap (λ (k : ℕ). is_behind (slice_get (f ∷ g ∷ gs) k) r.name) one
    ∙ ap (λ (k : ℕ). is_behind (slice_get (g ∷ gs) k) r.name) (sym two)
    ∙ behind_last (g ∷ gs) r rs rest.1

short : (name : List ℕ) → is_name name ≡ true → length name ≤ 255
short name h =
    let p = and_parts (not (is_bad name) && nat_le (length name) 255) (not (is_dot name)) h in
    leb-true (length name) 255 (and_parts (not (is_bad name)) (nat_le (length name) 255) p.0).1

rows_spelled : (rows front : List NameRow) → is_rising (front ++ rows) ≡ true →
    list_all (λ r. is_name r.name) rows ≡ true → AreWordyRows rows →
    Spells (listed row_form (length rows) front) (front ++ rows) (rows_text rows)
unfolding listed row_form
rows_spelled [] front rising names words = (append-nil front, refl)
rows_spelled (r ∷ rs) front rising names words =
    let n = and_parts (is_name r.name) (list_all (λ (s : NameRow). is_name s.name) rs) names in
    let whole : (front ++ r ∷ []) ++ rs ≡ front ++ r ∷ rs = append_assoc front (r ∷ []) rs in
    let le : length r.name ≤ 255 = short r.name n.0 in
    let small : length r.name < 2 ^ 32 = omega (arith, le) in
    let follows : may_follow front r.name ≡ true = and_from (is_name r.name) (is_behind (last_row front) r.name) n.0
    (behind_last front r rs rising) in
    let rest = rows_spelled rs (front ++ r ∷ []) (ap is_rising whole ∙ rising) n.1 words.2 in (
      r.name,
      _,
      (small, le, follows),
      refl,
      (
        r.index,
        _,
        (words.0, refl),
        refl,
        (
          r.generation,
          rows_text rs,
          (words.1, refl),
          refl,
          subst (λ (v : List NameRow). Spells (listed row_form (length rs) (front ++ r ∷ [])) v (rows_text rs)) whole rest,
        ),
      ),
    )

attr_fits : (i : ℕ) (e : Entry) → IsSpelled i e → IsAttr (attr_of e)
attr_fits i e k =
    let p = (fits_parts e k.fits).attr in
    let a = attr_of e in
    let all = and_parts (is_time a.atime && is_time a.mtime) (is_time a.ctime) p.times in
    let two = and_parts (is_time a.atime) (is_time a.mtime) all.0 in
    let w = k.wordy in
    record {
      mode = ltb-true a.mode 4096 p.mode;
      uid = w.uid;
      gid = w.gid;
      atime = (w.atime, ltb-true a.atime.micros 1000000 two.0);
      mtime = (w.mtime, ltb-true a.mtime.micros 1000000 two.1);
      ctime = (w.ctime, ltb-true a.ctime.micros 1000000 all.1);
    }

abbrev entry : ℕ → Object → Entry
entry g o = record { generation = g; object = o }

opaque_last : {A : Type 0} (max : ℕ) (f : List ℕ → A) (bytes : List ℕ) → length bytes ≤ max → max < 2 ^ 32 →
    Spells (item (any_opaque max) λ b. gives (f b)) (f bytes) (spell_opaque bytes ++ [])
opaque_last max f bytes le few = (bytes, [], (omega (arith, le, few), le, refl), refl, (refl, refl))

object_spelled : (i g : ℕ) (o : Object) → IsSpelled i (entry g o) → Spells object_form o (object_text o)
unfolding object_form file_form dir_form link_form names_form
object_spelled i g Null k = (0, [], (omega arith, refl), refl, (refl, refl))
object_spelled i g (File a bytes) k =
    let p = fits_parts (entry g (File a bytes)) k.fits in
    let le : length bytes ≤ 1048576 = leb-true (length bytes) 1048576 p.bytes in (
      1,
      _,
      (omega arith, refl),
      refl,
      attr_spelled a (λ b. item (any_opaque 1048576) λ piece. gives (File b piece)) (File a bytes) (spell_opaque bytes ++ [])
          (attr_fits i (entry g (File a bytes)) k) (opaque_last 1048576 (File a) bytes le (omega arith)),
    )
object_spelled i g (Dir a rows) k =
    let p = fits_parts (entry g (Dir a rows)) k.fits in
    let few : length rows ≤ 32768 = k.few in
    let small : length rows < 2 ^ 32 = omega (arith, few) in
    let fits : nat_le (length rows) 32768 ≡ true = grind (arith, few) in
    let listed_rows : Spells (and_then names_form (λ names. gives (Dir a names))) (Dir a rows)
    (spell_word (length rows) ++ rows_text rows)
    = (
      length rows,
      rows_text rows,
      (small, fits),
      refl,
      subst (λ (t : List ℕ). Spells (and_then (listed row_form (length rows) []) (λ names. gives (Dir a names))) (Dir a rows) t)
          (append-nil (rows_text rows))
          (spells_after (listed row_form (length rows) []) (λ names. gives (Dir a names)) rows (Dir a rows) (rows_text rows) []
          (rows_spelled rows [] p.rising p.named k.rows) (refl, refl)),
    ) in (
      2,
      _,
      (omega arith, refl),
      refl,
      attr_spelled a (λ b. and_then names_form (λ names. gives (Dir b names))) (Dir a rows)
          (spell_word (length rows) ++ rows_text rows) (attr_fits i (entry g (Dir a rows)) k) listed_rows,
    )
object_spelled i g (Link a text) k =
    let p = fits_parts (entry g (Link a text)) k.fits in
    let le : length text ≤ 1024 = leb-true (length text) 1024 p.bytes in (
      5,
      _,
      (omega arith, refl),
      refl,
      attr_spelled a (λ b. item (any_opaque 1024) λ piece. gives (Link b piece)) (Link a text) (spell_opaque text ++ [])
          (attr_fits i (entry g (Link a text)) k) (opaque_last 1024 (Link a) text le (omega arith)),
    )

pub entry_spelled : (i : ℕ) (e : Entry) → IsSpelled i e → Spells entry_form (i, e) (entry_text i e)
unfolding entry_form
entry_spelled i e k =
    let tag : 0 < 2 ^ 32 = omega arith in
    let last = λ (o : Object). gives (i, entry e.generation o) in
    let whole = subst (λ (t : List ℕ). Spells (and_then object_form last) (i, e) t) (append-nil (object_text e.object))
    (spells_after object_form last e.object (i, e) (object_text e.object) []
    (object_spelled i e.generation e.object k) (refl, refl)) in (
      0,
      _,
      (tag, refl),
      refl,
      (i, _, (k.index, refl), refl, (e.generation, _, (k.wordy.generation, refl), refl, whole)),
    )

-- A spelling is the entry's text

-- what stands before a format, and what it is
spells_parts : {A B : Type 0} (g : Grammar A) (f : A → Grammar B) (value : B) (text : List ℕ) →
    Spells (and_then g f) value text →
    (a : A) × (front : List ℕ) × (more : List ℕ) × Spells g a front × Spells (f a) value more × (text ≡ front ++ more)
spells_parts (gives b) f value text s = (b, [], text, (refl, refl), s, refl)
spells_parts (item i next) f value text s =
    let p = spells_parts (next s.0) f value s.1 s.4 in (
      p.0,
      spell i s.0 ++ p.1,
      p.2,
      (s.0, p.1, s.2, refl, p.3),
      p.4,
      s.3 ∙ ap (λ z. spell i s.0 ++ z) p.5 ∙ sym (append_assoc (spell i s.0) p.1 p.2),
    )

-- what the front of some bytes is
record Fronted {A : Type 0} (f : Attr → Grammar A) (value : A) (text : List ℕ) : Type 0 where
  attr : Attr
  more : List ℕ
  is : text ≡ attr_text attr more
  goes : Spells (f attr) value more

attr_is : {A : Type 0} (f : Attr → Grammar A) (value : A) (text : List ℕ) → Spells (and_then attr_form f) value text →
    Fronted f value text
unfolding attr_form time_form
attr_is f value text s0 =
    let s1 = s0.4 in
    let s2 = s1.4 in
    let s3 = s2.4 in
    let s4 = s3.4 in
    let s5 = s4.4 in
    let s6 = s5.4 in
    let s7 = s6.4 in
    let s8 = s7.4 in
    record {
      attr = made s0.0 s1.0 s2.0 (record { secs = s3.0; micros = s4.0 }) (record { secs = s5.0; micros = s6.0 })
          (record { secs = s7.0; micros = s8.0 });
      more = s8.1;
      is = s0.3 ∙ ap (λ t. spell_word s0.0 ++ t) (s1.3 ∙ ap (λ t. spell_word s1.0 ++ t) (s2.3
          ∙ ap (λ t. spell_word s2.0 ++ t) (s3.3 ∙ ap (λ t. spell_word s3.0 ++ t) (s4.3 ∙ ap (λ t. spell_word s4.0 ++ t)
          (s5.3 ∙ ap (λ t. spell_word s5.0 ++ t) (s6.3 ∙ ap (λ t. spell_word s6.0 ++ t)
          (s7.3 ∙ ap (λ t. spell_word s7.0 ++ t) s8.3)))))));
      goes = s8.4;
    }

-- rows that were read behind others
record Listed (front value : List NameRow) (n : ℕ) (text : List ℕ) : Type 0 where
  rows : List NameRow
  is : value ≡ front ++ rows
  many : length rows ≡ n
  spelled : text ≡ rows_text rows

rows_are : (n : ℕ) (front value : List NameRow) (text : List ℕ) → Spells (listed row_form n front) value text →
    Listed front value n text
unfolding listed row_form
rows_are zero front value text s =
    record { rows = []; is = s.0 ∙ sym (append-nil front); many = refl; spelled = s.1 }
rows_are (suc n) front value text s0 =
    let s1 = s0.4 in
    let s2 = s1.4 in
    let r : NameRow = record { name = s0.0; index = s1.0; generation = s2.0 } in
    let rest = rows_are n (front ++ r ∷ []) value s2.1 s2.4 in
    record {
      rows = r ∷ rest.rows;
      is = rest.is ∙ append_assoc front (r ∷ []) rest.rows;
      many = let h = rest.many in omega (arith, h);
      spelled = s0.3 ∙ ap (λ t. spell_opaque s0.0 ++ t) (s1.3 ∙ ap (λ t. spell_word s1.0 ++ t)
          (s2.3 ∙ ap (λ t. spell_word s2.0 ++ t) rest.spelled));
    }

kind_is : (k : ℕ) → (k == 0 || k == 1 || k == 2 || k == 5) ≡ true → (k ≡ 0) ⊎ ((k ≡ 1) ⊎ ((k ≡ 2) ⊎ (k ≡ 5)))
kind_is k h = ⊎_elim
    (λ a. ⊎_elim
    (λ b. ⊎_elim (λ d. inl (eqb-true k 0 d)) (λ d. inr (inl (eqb-true k 1 d))) (or_cases (k == 0) (k == 1) b))
    (λ b. inr (inr (inl (eqb-true k 2 b)))) (or_cases (k == 0 || k == 1) (k == 2) a))
    (λ a. inr (inr (inr (eqb-true k 5 a)))) (or_cases (k == 0 || k == 1 || k == 2) (k == 5) h)

opaque_is : {A : Type 0} (max : ℕ) (f : List ℕ → A) (value : A) (text : List ℕ) →
    Spells (item (any_opaque max) λ b. gives (f b)) value text →
    (bytes : List ℕ) × (value ≡ f bytes) × (text ≡ spell_opaque bytes ++ [])
opaque_is max f value text s = (s.0, s.4.0, s.3 ∙ ap (λ t. spell_opaque s.0 ++ t) s.4.1)

abbrev OfKind : ℕ → Type 0
OfKind kind = (o : Object) (more : List ℕ) → Spells (kind_form kind) o more → spell_word kind ++ more ≡ object_text o

null_is : OfKind 0
null_is o more s = ap (λ t. spell_word 0 ++ t) s.1 ∙ ap object_text (sym s.0)

file_is : OfKind 1
unfolding file_form
file_is o more s =
    let a = attr_is (λ b. item (any_opaque 1048576) λ piece. gives (File b piece)) o more s in
    let b = opaque_is 1048576 (File a.attr) o a.more a.goes in
    ap (λ t. spell_word 1 ++ t) (a.is ∙ ap (attr_text a.attr) b.2) ∙ ap object_text (sym b.1)

link_is : OfKind 5
unfolding link_form
link_is o more s =
    let a = attr_is (λ b. item (any_opaque 1024) λ piece. gives (Link b piece)) o more s in
    let b = opaque_is 1024 (Link a.attr) o a.more a.goes in
    ap (λ t. spell_word 5 ++ t) (a.is ∙ ap (attr_text a.attr) b.2) ∙ ap object_text (sym b.1)

dir_is : OfKind 2
unfolding dir_form names_form
dir_is o more s =
    let a = attr_is (λ b. and_then names_form (λ names. gives (Dir b names))) o more s in
    let c = counted a.attr o a.more a.goes in
    ap (λ t. spell_word 2 ++ t) (a.is ∙ ap (attr_text a.attr) c.2) ∙ ap object_text (sym c.1)
  where
    counted : (b : Attr) (o : Object) (text : List ℕ) → Spells (and_then names_form (λ names. gives (Dir b names))) o text →
        (rows : List NameRow) × (o ≡ Dir b rows) × (text ≡ spell_word (length rows) ++ rows_text rows)
    counted b o text s =
        let p = spells_parts (listed row_form s.0 []) (λ names. gives (Dir b names)) o s.1 s.4 in
        let rows = rows_are s.0 [] p.0 p.1 p.3 in
        let n : s.0 ≡ length rows.rows = sym rows.many in (
          rows.rows,
          p.4.0 ∙ ap (Dir b) rows.is,
          s.3 ∙ ap (λ t. spell_word s.0 ++ t) (p.5 ∙ ap (λ t. p.1 ++ t) p.4.1 ∙ append-nil p.1 ∙ rows.spelled)
              ∙ ap (λ (m : ℕ). spell_word m ++ rows_text rows.rows) n,
        )

object_is : (o : Object) (text : List ℕ) → Spells object_form o text → text ≡ object_text o
unfolding object_form
object_is o text s = s.3 ∙ ⊎_elim
    (λ h. at 0 h null_is) (λ h. ⊎_elim (λ h. at 1 h file_is) (λ h. ⊎_elim (λ h. at 2 h dir_is) (λ h. at 5 h link_is) h) h)
    (kind_is s.0 s.2.1) o s.1 s.4
  where
    at : (n : ℕ) → s.0 ≡ n → OfKind n → OfKind s.0
    at n h is = subst OfKind (sym h) is

pub text_is : (i : ℕ) (e : Entry) (text : List ℕ) → Spells entry_form (i, e) text → text ≡ entry_text i e
unfolding entry_form
text_is i e text s0 =
    let s1 = s0.4 in
    let s2 = s1.4 in
    let p = spells_parts object_form (λ o. gives (s1.0, entry s2.0 o)) (i, e) s2.1 s2.4 in
    let zero_tag : s0.0 ≡ 0 = eqb-true s0.0 0 s0.2.1 in
    let last : s2.1 ≡ object_text p.0 = p.5 ∙ ap (λ t. p.1 ++ t) p.4.1 ∙ append-nil p.1 ∙ object_is p.0 p.1 p.3 in
    s0.3 ∙ ap (λ (n : ℕ). spell_word n ++ s0.1) zero_tag
    ∙ ap (λ t. spell_word 0 ++ t) (s1.3 ∙ ap (λ t. spell_word s1.0 ++ t) (s2.3 ∙ ap (λ t. spell_word s2.0 ++ t) last))
    ∙ ap (λ (x : ℕ × Entry). entry_text x.0 x.1) (sym p.4.0)
