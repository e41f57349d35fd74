-- the machine keeps valid arrays valid: calls that change names
use Rattle.std.proofs.Common.{◌≡◌, ◌≢◌, ℕ, suc, ◌+◌, ◌-◌, ◌*◌, ◌^◌, ◌<◌, ◌≤◌, List, [], ◌∷◌, Bool, true, false, not, cond, length, set, refl, sym, ◌∙◌, ap, subst, arith, inl, inr, Option, Some, None, get_or-set_same, get_or-set_other}
use Rattle.std.specs.Prelude.{◌==◌, unwrap_or, bytes_eq, nat_lt, nat_le}
use Rattle.std.specs.List.{list_all}
use Rattle.std.proofs.lemmas.Bool.{true≢false, and_parts, and_from, leb-true, leb-false, not_from_false, cases_Bool, eq-eqb, ne_eqb}
use Rattle.std.proofs.lemmas.List.{set_comm, length-set}
use Rattle.std.proofs.lemmas.List.Quantifiers.{position-Some}
use Rattle.nfs2_types.specs.declared.Limits.{Limits}
use Rattle.nfs2_types.specs.declared.Time.{Time}
use Rattle.abs_model.specs.declared.entry.Attr.{Attr}
use Rattle.abs_model.specs.declared.entry.NameRow.{NameRow}
use Rattle.abs_model.specs.declared.entry.Entry.{Entry}
use Rattle.abs_model.specs.declared.entry.Change.{Change}
use Rattle.abs_model.specs.declared.entry.Object.{Object}
use Rattle.abs_model.specs.declared.entry.Object.TheVariants.{Null, File, Dir, Link}
use Rattle.abs_model.specs.Objects.{is_null, is_dir, names_of, attr_of, used_by, row_of, without, placed, with_attr, changed_at, nulled}
use Rattle.abs_model.specs.Array.{entry_at, null_entry, changed, used, free, can_take, links, is_named_by}
use Rattle.abs_model.specs.Machine.{adds, with_names, made, row_to, to_be, unlinked}
use Rattle.nfs2_types.specs.Names.{is_name}
use Rattle.nfs2_types.specs.Times.{is_time}
use Rattle.abs_model.specs.Valid.{Walk, Valid, leads, entry_fits, is_rising}
use Rattle.abs_model.proofs.AttrBounds.{attr_written, attr_changed}
use Rattle.abs_model.proofs.RowLists.{rising_placed, rising_filter, all_filter, all_placed}
use Rattle.abs_model.proofs.Shapes.{IsLike, IsAttr, valid_like, fits_parts, fits_from, live_below, used-set}
use Rattle.abs_model.proofs.Steps.{ValidBut, IsNode, unnamed, named, gone, still, came, links_unnamed, null_is, ends_here}
use Rattle.abs_model.proofs.Facts.{dir_is, found_passes, led_is, length-placed}

-- DIRECTORIES WITH OTHER NAMES

pub node_names : (f : List NameRow → List NameRow) (t : Time) (e : Entry) → is_dir e ≡ true → IsNode e (with_names f t e)
node_names f t e dir = record { generation = refl; dir = sym dir; null = sym (dir_is e dir).null }

pub fits_names : (f : List NameRow → List NameRow) (t : Time) (e : Entry) → is_time t ≡ true → entry_fits e ≡ true →
    is_rising (f (names_of e)) ≡ true → list_all (λ r. is_name r.name) (f (names_of e)) ≡ true → entry_fits (with_names f t e) ≡ true
fits_names f t e moment fits rising names = fits_from (with_names f t e) (record { attr = attr_written t (attr_of e) moment (fits_parts e fits).attr; rising = rising; named = names; bytes = refl })

pub used_names : (f : List NameRow → List NameRow) (t : Time) (e : Entry) → is_dir e ≡ true →
    (used_by (with_names f t e) ≡ 512 * length (f (names_of e))) × (used_by e ≡ 512 * length (names_of e))
used_names f t e dir = (omega arith, (let none = ap length (dir_is e dir).bytes in omega arith))

-- A NEW OBJECT GETS A NAME

pub free_is : (A : List Entry) (i : ℕ) → free A ≡ Some i → (i < length A) × (can_take (entry_at A i) ≡ true)
free_is A i e = let at = position-Some can_take A i null_entry e in (at.0, at.1)

added : (limits : Limits) (A : List Entry) (d i : ℕ) (o : Entry) (name : List ℕ) (t : Time) → is_time t ≡ true → Valid limits A → d < length A →
    is_dir (entry_at A d) ≡ true → is_name name ≡ true → row_of name (names_of (entry_at A d)) ≡ None → i < length A → is_null (entry_at A i) ≡ true →
    is_null o ≡ false → names_of o ≡ [] → entry_fits o ≡ true → used A + (512 + used_by o) ≤ limits.t →
    Valid limits (set (set A d (with_names (placed (row_to name i o.generation)) t (entry_at A d))) i o)
added limits A d i o name t moment valid below dir is_ok absent i_below null live none fits room =
    let old = entry_at A d in
    let row = row_to name i o.generation in
    let e = with_names (placed row) t old in
    let C = set A i o in
    let apart : d ≢ i = λ same. true≢false (sym null ∙ subst (λ (x : ℕ). is_null (entry_at A x) ≡ false) same (dir_is old dir).null) in
    let not_root : i ≢ 0 = λ same. true≢false (sym null ∙ subst (λ (x : ℕ). is_null (entry_at A x) ≡ false) (sym same) (dir_is (entry_at A 0) valid.root).null) in
    let stays : entry_at C d ≡ old = get_or-set_other A i d o null_entry apart in
    let here : entry_at C i ≡ o = get_or-set_same A i o null_entry i_below in
    let but = came limits A i o valid i_below null none fits (omega arith) in
    let reach : (k : ℕ) × Walk C k 0 d = elim (but.reached d (ap is_null stays ∙ (dir_is old dir).null)) [
      | inl root ↦ root
      | inr from ↦ absurd (apart (sym (ends_here C i from.0 d (ap names_of here ∙ none) from.1)))
    ] in
    let own = fits_parts old (valid.fits d below) in
    let led : leads C row ≡ true =
    and_from (not (i == 0)) _ (not_from_false (i == 0) (ne_eqb i 0 not_root))
    (ap (is_named_by o.generation) here ∙ and_from (not (is_null o)) _ (not_from_false (is_null o) live) (eq-eqb o.generation o.generation refl)) in
    let moves = used-set A i o i_below in
    let zero_used = (null_is (entry_at A i) null).used in
    let more = length-placed row (names_of old) in
    let parts = used_names (placed row) t old dir in
    let same_used = ap used_by stays in
    subst (λ (B : List Entry). Valid limits B) (set_comm A i d o e (λ x. apart (sym x)))
    (named limits C d e row reach.0 but (subst (λ (n : ℕ). d < n) (sym (length-set A i o)) below)
    (subst (λ (x : Entry). IsNode x e) (sym stays) (node_names (placed row) t old dir))
    (ap (λ (x : Entry). placed row (names_of x)) (sym stays)) led reach.1
    (fits_names (placed row) t old moment (valid.fits d below)
    (rising_placed row (names_of old) own.rising absent)
    (all_placed (λ (r : NameRow). is_name r.name) row (names_of old) is_ok own.named))
    (let first = parts.0 in let second = parts.1 in omega arith))

pub adds_valid : (limits : Limits) (A : List Entry) (d : ℕ) (name : List ℕ) (t : Time) (new : Object) (i : ℕ) → is_time t ≡ true → Valid limits A → d < length A →
    is_dir (entry_at A d) ≡ true → is_name name ≡ true → row_of name (names_of (entry_at A d)) ≡ None → free A ≡ Some i →
    is_null (made new (entry_at A i)) ≡ false → names_of (made new (entry_at A i)) ≡ [] → entry_fits (made new (entry_at A i)) ≡ true →
    used A + (512 + used_by (made new (entry_at A i))) ≤ limits.t → Valid limits (changed (adds A d name t new) A)
adds_valid limits A d name t new i moment valid below dir is_ok absent free_at live none fits room =
    let at_i = free_is A i free_at in
    let null = (and_parts (is_null (entry_at A i)) (nat_lt (entry_at A i).generation (2 ^ 32 - 1)) at_i.1).0 in
    subst (λ (x : Option ℕ). Valid limits (changed (adds_at A d name t new (unwrap_or x (length A))) A)) (sym free_at)
    (added limits A d i (made new (entry_at A i)) name t moment valid below dir is_ok absent at_i.0 null live none fits room)
  where
    adds_at : List Entry → ℕ → List ℕ → Time → Object → ℕ → List Change
    adds_at A d name t new i = to_be d (with_names (placed (row_to name i ((entry_at A i).generation + 1))) t (entry_at A d)) ∷ to_be i (made new (entry_at A i)) ∷ []

-- OTHER ATTRIBUTES

pub like_attr : (a : Attr) (e : Entry) → IsLike e (with_attr a e)
like_attr a e = go e.object
  where
    go : (o : Object) → IsLike (record { generation = e.generation; object = o }) (with_attr a (record { generation = e.generation; object = o }))
    go Null = record { generation = refl; names = refl; dir = refl; null = refl }
    go (File attr bytes) = record { generation = refl; names = refl; dir = refl; null = refl }
    go (Dir attr names) = record { generation = refl; names = refl; dir = refl; null = refl }
    go (Link attr text) = record { generation = refl; names = refl; dir = refl; null = refl }

fits_attr : (a : Attr) (e : Entry) → IsAttr a → entry_fits e ≡ true → entry_fits (with_attr a e) ≡ true
fits_attr a e ok fits = go e.object fits
  where
    go : (o : Object) → entry_fits (record { generation = e.generation; object = o }) ≡ true → entry_fits (with_attr a (record { generation = e.generation; object = o })) ≡ true
    go Null h = refl
    go (File attr bytes) h = let own = fits_parts (record { generation = e.generation; object = File attr bytes }) h in
        fits_from (record { generation = e.generation; object = File a bytes }) (record { attr = ok; rising = refl; named = refl; bytes = own.bytes })
    go (Dir attr names) h = let own = fits_parts (record { generation = e.generation; object = Dir attr names }) h in
        fits_from (record { generation = e.generation; object = Dir a names }) (record { attr = ok; rising = own.rising; named = own.named; bytes = refl })
    go (Link attr text) h = let own = fits_parts (record { generation = e.generation; object = Link attr text }) h in
        fits_from (record { generation = e.generation; object = Link a text }) (record { attr = ok; rising = refl; named = refl; bytes = own.bytes })

used_attr : (a : Attr) (e : Entry) → used_by (with_attr a e) ≡ used_by e
used_attr a e = go e.object
  where
    go : (o : Object) → used_by (with_attr a (record { generation = e.generation; object = o })) ≡ used_by (record { generation = e.generation; object = o })
    go Null = refl
    go (File attr bytes) = refl
    go (Dir attr names) = refl
    go (Link attr text) = refl

pub attr_valid : (limits : Limits) (A : List Entry) (i : ℕ) (a : Attr) → Valid limits A → i < length A → IsAttr a →
    Valid limits (set A i (with_attr a (entry_at A i)))
attr_valid limits A i a valid below ok =
    valid_like limits A i (with_attr a (entry_at A i)) valid below (like_attr a (entry_at A i)) (fits_attr a (entry_at A i) ok (valid.fits i below))
    (let same = used_attr a (entry_at A i) in let most = valid.room in omega arith)

-- an entry that changed at t
touched_valid : (limits : Limits) (A : List Entry) (i : ℕ) (t : Time) → is_time t ≡ true → Valid limits A → i < length A →
    Valid limits (set A i (with_attr (changed_at t (attr_of (entry_at A i))) (entry_at A i)))
touched_valid limits A i t moment valid below =
    attr_valid limits A i (changed_at t (attr_of (entry_at A i))) valid below
    (attr_changed t (attr_of (entry_at A i)) moment (fits_parts (entry_at A i) (valid.fits i below)).attr)

-- A NAME GOES, AND MAYBE ITS OBJECT

length-without : (name : List ℕ) (rows : List NameRow) → length (without name rows) ≤ length rows
length-without name [] = omega arith
length-without name (r ∷ rs) = go (not (bytes_eq r.name name)) (length-without name rs)
  where
    go : (b : Bool) → length (without name rs) ≤ length rs → length (cond b (r ∷ without name rs) (without name rs)) ≤ suc (length rs)
    go true h = omega arith
    go false h = omega arith

-- what is known once the name of a row is dropped
pub record Dropped (limits : Limits) (A B : List Entry) (i : ℕ) : Type 0 where
  pub but : ValidBut limits B i
  pub fewer : links B i + 1 ≡ links A i

pub drop_valid : (limits : Limits) (A : List Entry) (d : ℕ) (name : List ℕ) (t : Time) (r : NameRow) → is_time t ≡ true → Valid limits A → d < length A →
    is_dir (entry_at A d) ≡ true → row_of name (names_of (entry_at A d)) ≡ Some r →
    Dropped limits A (set A d (with_names (without name) t (entry_at A d))) r.index
drop_valid limits A d name t r moment valid below dir found =
    let old = entry_at A d in
    let own = fits_parts old (valid.fits d below) in
    let led = led_is A r (found_passes (leads A) name (names_of old) r found (valid.lead d below)) in
    let parts = used_names (without name) t old dir in
    let less = length-without name (names_of old) in
    record {
      but = unnamed limits A d (with_names (without name) t old) name r valid below (node_names (without name) t old dir) refl found led.not_root
          (fits_names (without name) t old moment (valid.fits d below) (rising_filter _ (names_of old) own.rising) (all_filter (λ (r : NameRow). is_name r.name) _ (names_of old) own.named))
          (let first = parts.0 in let second = parts.1 in omega arith);
      fewer = links_unnamed A d (with_names (without name) t old) name r below own.rising refl found;
    }

-- REMOVE: the entry goes with its last name, else it stays, changed at t
pub unlinked_valid : (limits : Limits) (A : List Entry) (d : ℕ) (name : List ℕ) (t : Time) (r : NameRow) → is_time t ≡ true → Valid limits A → d < length A →
    is_dir (entry_at A d) ≡ true → row_of name (names_of (entry_at A d)) ≡ Some r → r.index ≢ d → names_of (entry_at A r.index) ≡ [] →
    (is_dir (entry_at A r.index) ≡ true → links A r.index ≡ 1) →
    Valid limits (set (set A d (with_names (without name) t (entry_at A d))) r.index (unlinked A r.index t))
unlinked_valid limits A d name t r moment valid below dir found apart none one =
    let i = r.index in
    let B = set A d (with_names (without name) t (entry_at A d)) in
    let gone_name = drop_valid limits A d name t r moment valid below dir found in
    let led = led_is A r (found_passes (leads A) name (names_of (entry_at A d)) r found (valid.lead d below)) in
    let stays : entry_at B i ≡ entry_at A i = get_or-set_other A d i (with_names (without name) t (entry_at A d)) null_entry apart in
    let i_below : i < length B = live_below B i (ap is_null stays ∙ led.live) in
    let fewer = gone_name.fewer in
    go (nat_le (links A i) 1) refl B stays i_below gone_name.but fewer led.not_root
  where
    go : (b : Bool) → nat_le (links A r.index) 1 ≡ b → (B : List Entry) → entry_at B r.index ≡ entry_at A r.index → r.index < length B → ValidBut limits B r.index →
        links B r.index + 1 ≡ links A r.index → r.index ≢ 0 →
        Valid limits (set B r.index (cond b (nulled (entry_at A r.index)) (with_attr (changed_at t (attr_of (entry_at A r.index))) (entry_at A r.index))))
    go true last B stays i_below but fewer not_root =
        let few = leb-true (links A r.index) 1 last in
        subst (λ (x : Entry). Valid limits (set B r.index (nulled x))) stays
        (gone limits B r.index but i_below not_root (ap names_of stays ∙ none) (omega arith))
    go false more B stays i_below but fewer not_root =
        let many = leb-false (links A r.index) 1 more in
        let no_dir : is_dir (entry_at A r.index) ≡ false = elim (cases_Bool (is_dir (entry_at A r.index))) [
          | inl dir ↦ absurd (let single = one dir in omega arith)
          | inr other ↦ other
        ] in
        subst (λ (x : Entry). Valid limits (set B r.index (with_attr (changed_at t (attr_of x)) x))) stays
        (touched_valid limits B r.index t moment (still limits B r.index but (ap is_dir stays ∙ no_dir) (ap names_of stays ∙ none) (omega arith)) i_below)

-- RMDIR: the directory goes with its one name
pub dir_gone_valid : (limits : Limits) (A : List Entry) (d : ℕ) (name : List ℕ) (t : Time) (r : NameRow) → is_time t ≡ true → Valid limits A → d < length A →
    is_dir (entry_at A d) ≡ true → row_of name (names_of (entry_at A d)) ≡ Some r → r.index ≢ d → names_of (entry_at A r.index) ≡ [] →
    is_dir (entry_at A r.index) ≡ true →
    Valid limits (set (set A d (with_names (without name) t (entry_at A d))) r.index (nulled (entry_at A r.index)))
dir_gone_valid limits A d name t r moment valid below dir found apart none is_d =
    let i = r.index in
    let B = set A d (with_names (without name) t (entry_at A d)) in
    let gone_name = drop_valid limits A d name t r moment valid below dir found in
    let led = led_is A r (found_passes (leads A) name (names_of (entry_at A d)) r found (valid.lead d below)) in
    let stays : entry_at B i ≡ entry_at A i = get_or-set_other A d i (with_names (without name) t (entry_at A d)) null_entry apart in
    let fewer = gone_name.fewer in
    let single = valid.one_name i is_d led.not_root in
    subst (λ (x : Entry). Valid limits (set B i (nulled x))) stays
    (gone limits B i gone_name.but (live_below B i (ap is_null stays ∙ led.live)) led.not_root (ap names_of stays ∙ none) (omega arith))

-- LINK
but_of : (limits : Limits) (A : List Entry) (i : ℕ) → Valid limits A → is_dir (entry_at A i) ≡ false → ValidBut limits A i
but_of limits A i valid no_dir = record {
  size = valid.size;
  root = valid.root;
  fits = valid.fits;
  lead = valid.lead;
  reached = λ j live. let was = valid.reached j live in inl (was.0, was.2);
  one_name = λ j dir other away. valid.one_name j dir other;
  no_name = λ dir. absurd (true≢false (sym dir ∙ no_dir));
  room = valid.room;
}

pub linked_valid : (limits : Limits) (A : List Entry) (d i : ℕ) (name : List ℕ) (t : Time) → is_time t ≡ true → Valid limits A → d < length A →
    is_dir (entry_at A d) ≡ true → is_null (entry_at A i) ≡ false → is_dir (entry_at A i) ≡ false → is_name name ≡ true →
    row_of name (names_of (entry_at A d)) ≡ None → used A + 512 ≤ limits.t →
    Valid limits (set (set A d (with_names (placed (row_to name i (entry_at A i).generation)) t (entry_at A d))) i
    (with_attr (changed_at t (attr_of (entry_at A i))) (entry_at A i)))
linked_valid limits A d i name t moment valid below dir live no_dir is_ok absent room =
    let old = entry_at A d in
    let row = row_to name i (entry_at A i).generation in
    let e = with_names (placed row) t old in
    let B = set A d e in
    let apart : i ≢ d = λ same. true≢false (sym dir ∙ subst (λ (x : ℕ). is_dir (entry_at A x) ≡ false) same no_dir) in
    let not_root : i ≢ 0 = λ same. true≢false (sym valid.root ∙ subst (λ (x : ℕ). is_dir (entry_at A x) ≡ false) same no_dir) in
    let stays : entry_at B i ≡ entry_at A i = get_or-set_other A d i e null_entry apart in
    let reach = valid.reached d (dir_is old dir).null in
    let own = fits_parts old (valid.fits d below) in
    let more = length-placed row (names_of old) in
    let parts = used_names (placed row) t old dir in
    let led : leads A row ≡ true = and_from (not (i == 0)) _ (not_from_false (i == 0) (ne_eqb i 0 not_root))
    (and_from (not (is_null (entry_at A i))) _ (not_from_false (is_null (entry_at A i)) live) (eq-eqb (entry_at A i).generation (entry_at A i).generation refl)) in
    let added_name = named limits A d e row reach.0 (but_of limits A i valid no_dir) below (node_names (placed row) t old dir) refl led reach.2
    (fits_names (placed row) t old moment (valid.fits d below) (rising_placed row (names_of old) own.rising absent)
    (all_placed (λ (r : NameRow). is_name r.name) row (names_of old) is_ok own.named))
    (let first = parts.0 in let second = parts.1 in omega arith) in
    subst (λ (x : Entry). Valid limits (set B i (with_attr (changed_at t (attr_of x)) x))) stays
    (touched_valid limits B i t moment added_name (live_below B i (ap is_null stays ∙ live)))
