-- what a write to one entry leaves of the array, by what it keeps of that entry
use Rattle.std.proofs.Common.{◌≡◌, ℕ, zero, suc, ◌+◌, ◌<◌, ◌≤◌, List, [], ◌∷◌, Bool, true, false, not, ◌&&◌, length, set, refl, sym, ◌∙◌, ap, subst, arith, inl, inr, get_or-set_same, get_or-set_other, count_by}
use Rattle.std.specs.List.{list_all, list_any}
use Rattle.std.specs.Prelude.{◌==◌, nat_lt, nat_le}
use Rattle.std.proofs.lemmas.Bool.{cases_eq, cases_lt, true≢false, and_parts, and_from}
use Rattle.std.proofs.lemmas.List.Sums.{sum_by-set}
use Rattle.std.proofs.lemmas.List.{get_or_past, length-set, set_past}
use Rattle.nfs2_types.specs.declared.Limits.{Limits}
use Rattle.abs_model.specs.declared.entry.NameRow.{NameRow}
use Rattle.abs_model.specs.declared.entry.Entry.{Entry}
use Rattle.abs_model.specs.Objects.{is_null, is_dir, names_of, used_by, bytes_of, attr_of}
use Rattle.abs_model.specs.Array.{entry_at, null_entry, has_row_to, links, used, is_named_by}
use Rattle.nfs2_types.specs.Names.{is_name}
use Rattle.abs_model.specs.declared.entry.Attr.{Attr}
use Rattle.abs_model.specs.Valid.{Walk, Valid, leads, entry_fits, is_rising, most_bytes, times_fit}

-- two tests that agree hold of the same lists
pub list_all_agree : {X : Type 0} (p q : X → Bool) → ((x : X) → p x ≡ q x) → (xs : List X) → list_all p xs ≡ list_all q xs
list_all_agree p q same [] = refl
list_all_agree p q same (x ∷ xs) = rw (same x, list_all_agree p q same xs)

pub live_below : (A : List Entry) (i : ℕ) → is_null (entry_at A i) ≡ false → i < length A
live_below A i live = elim (cases_lt i (length A)) [
  | inl below ↦ below
  | inr past ↦ absurd (true≢false (sym (ap is_null (get_or_past A i null_entry past)) ∙ live))
]

-- each way from name to name is kept
pub walk_kept : (A B : List Entry) → ((here next : ℕ) → has_row_to next (entry_at A here) ≡ true → has_row_to next (entry_at B here) ≡ true) →
    (k a i : ℕ) → Walk A k a i → Walk B k a i
walk_kept A B kept zero a i w = w
walk_kept A B kept (suc k) a i w = (w.0, kept a w.0 w.1, walk_kept A B kept k w.0 i w.2)

-- the same kind, names and generation
pub record IsLike (old new : Entry) : Type 0 where
  pub generation : new.generation ≡ old.generation
  pub names : names_of new ≡ names_of old
  pub dir : is_dir new ≡ is_dir old
  pub null : is_null new ≡ is_null old

like_itself : (e : Entry) → IsLike e e
like_itself e = record { generation = refl; names = refl; dir = refl; null = refl }

pub like_at : (A : List Entry) (i j : ℕ) (e : Entry) → i < length A → IsLike (entry_at A i) e → IsLike (entry_at A j) (entry_at (set A i e) j)
like_at A i j e below like = elim (cases_eq j i) [
  | inl same ↦ subst (λ (x : ℕ). IsLike (entry_at A x) (entry_at (set A i e) x)) (sym same)
      (subst (λ (x : Entry). IsLike (entry_at A i) x) (sym (get_or-set_same A i e null_entry below)) like)
  | inr other ↦ subst (λ (x : Entry). IsLike (entry_at A j) x) (sym (get_or-set_other A i j e null_entry other)) (like_itself (entry_at A j))
]

-- what holds of the entry written and of the one that stood there holds after the write
pub at_set : (P : Entry → Type 0) (A : List Entry) (i j : ℕ) (e : Entry) → P e → P (entry_at A j) → P (entry_at (set A i e) j)
at_set P A i j e new old = elim (cases_eq j i) [
  | inl same ↦ elim (cases_lt i (length A)) [
    | inl below ↦ subst P (sym (ap (λ (x : ℕ). entry_at (set A i e) x) same ∙ get_or-set_same A i e null_entry below)) new
    | inr past ↦ subst (λ (B : List Entry). P (entry_at B j)) (sym (set_past A i e past)) old
  ]
  | inr other ↦ subst P (sym (get_or-set_other A i j e null_entry other)) old
]

pub links-set : (A : List Entry) (i j : ℕ) (e : Entry) → i < length A →
    links (set A i e) j + count_by (λ r. r.index == j) (names_of (entry_at A i)) ≡ links A j + count_by (λ r. r.index == j) (names_of e)
links-set A i j e below = sum_by-set (λ (x : Entry). count_by (λ r. r.index == j) (names_of x)) A i e null_entry below

pub used-set : (A : List Entry) (i : ℕ) (e : Entry) → i < length A → used (set A i e) + used_by (entry_at A i) ≡ used A + used_by e
used-set A i e below = sum_by-set used_by A i e null_entry below

-- a name leads to alike entries or to neither
led_alike : (old new : Entry) (r : NameRow) → IsLike old new →
    (not (r.index == 0) && is_named_by r.generation new) ≡ (not (r.index == 0) && is_named_by r.generation old)
led_alike old new r like = rw (like.null, like.generation)

-- a write that keeps kind, names and generation, fits, and leaves room
pub valid_like : (limits : Limits) (A : List Entry) (i : ℕ) (e : Entry) → Valid limits A → i < length A →
    IsLike (entry_at A i) e → entry_fits e ≡ true → used A + used_by e ≤ limits.t + used_by (entry_at A i) → Valid limits (set A i e)
valid_like limits A i e valid below like fits room =
    let at = λ (j : ℕ). like_at A i j e below like in
    record {
      size = length-set A i e ∙ valid.size;
      root = (at 0).dir ∙ valid.root;
      fits = λ j l. at_set (λ (x : Entry). entry_fits x ≡ true) A i j e fits (valid.fits j (subst (λ (n : ℕ). j < n) (length-set A i e) l));
      lead = λ d l.
          let same = λ (r : NameRow). led_alike (entry_at A r.index) (entry_at (set A i e) r.index) r (at r.index) in
          list_all_agree (leads (set A i e)) (leads A) same (names_of (entry_at (set A i e) d)) ∙
          ap (list_all (leads A)) (at d).names ∙ valid.lead d (subst (λ (n : ℕ). d < n) (length-set A i e) l);
      reached = λ j live.
          let was = valid.reached j (sym (at j).null ∙ live) in (
            was.0,
            rw (length-set A i e) was.1,
            walk_kept A (set A i e) (λ here next h. ap (list_any (λ (r : NameRow). r.index == next)) (at here).names ∙ h) was.0 0 j was.2,
          );
      one_name = λ j dir other.
          let was = valid.one_name j (sym (at j).dir ∙ dir) other in
          let rows = ap (count_by (λ (r : NameRow). r.index == j)) like.names in
          let moves = links-set A i j e below in
          omega arith;
      room = let moves = used-set A i e below in omega (arith, valid.room);
    }

-- the rules of attributes, one by one
pub record IsAttr (a : Attr) : Type 0 where
  pub mode : nat_lt a.mode 4096 ≡ true
  pub times : times_fit a ≡ true

-- the rules of an entry by itself, one by one
pub record Fits (e : Entry) : Type 0 where
  pub attr : IsAttr (attr_of e)
  pub rising : is_rising (names_of e) ≡ true
  pub named : list_all (λ r. is_name r.name) (names_of e) ≡ true
  pub bytes : nat_le (length (bytes_of e)) (most_bytes e) ≡ true

pub fits_parts : (e : Entry) → entry_fits e ≡ true → Fits e
fits_parts e h =
    let a = nat_lt (attr_of e).mode 4096 && times_fit (attr_of e) in
    let b = is_rising (names_of e) in
    let c = list_all (λ (r : NameRow). is_name r.name) (names_of e) in
    let all = and_parts ((a && b) && c) (nat_le (length (bytes_of e)) (most_bytes e)) h in
    let three = and_parts (a && b) c all.0 in
    let two = and_parts a b three.0 in
    let one = and_parts (nat_lt (attr_of e).mode 4096) (times_fit (attr_of e)) two.0 in
    record { attr = record { mode = one.0; times = one.1 }; rising = two.1; named = three.1; bytes = all.1 }

pub fits_from : (e : Entry) → Fits e → entry_fits e ≡ true
fits_from e h =
    let a = nat_lt (attr_of e).mode 4096 && times_fit (attr_of e) in
    let b = is_rising (names_of e) in
    let c = list_all (λ (r : NameRow). is_name r.name) (names_of e) in
    and_from ((a && b) && c) _ (and_from (a && b) c (and_from a b (and_from (nat_lt (attr_of e).mode 4096) _ h.attr.mode h.attr.times) h.rising) h.named) h.bytes
