-- The first names of a directory, whose names rise.
use Rattle.std.proofs.Common.{◌≡◌, ◌≢◌, ℕ, zero, suc, List, [], ◌∷◌, Bool, true, false, cond, Option, Some, None, length, take, slice_get, refl, sym, ap, ◌∙◌, arith}
use Rattle.std.specs.Prelude.{◌&&◌, ◌||◌, if◌then◌else◌, bytes_eq}
use Rattle.std.specs.List.{list_all, list_any}
use Rattle.std.proofs.lemmas.Bool.{and_parts, and_from}
use Rattle.server_trait.proofs.TreeLaws.{some_same}
use Rattle.abs_model.specs.declared.entry.NameRow.{NameRow}
use Rattle.abs_model.specs.declared.entry.Object.{Object}
use Rattle.abs_model.specs.declared.entry.Object.TheVariants.{Null, File, Dir, Link}
use Rattle.abs_model.specs.declared.entry.Entry.{Entry}
use Rattle.abs_model.specs.Objects.{is_dir, is_null, names_of, bytes_of, name_lt, row_of, placed}
use Rattle.abs_model.specs.Valid.{is_rising}
use Rattle.abs_model.proofs.RowLists.{lt_trans}
use Rattle.conf_map.proofs.RowFacts.{all_at, not_below}
use Rattle.staging.specs.Forms.{with_names}
use Rattle.staging.proofs.Places.{not_eq}

pub any_take : (p : NameRow → Bool) (k : ℕ) (rows : List NameRow) → list_any p (take k rows) ≡ true → list_any p rows ≡ true
any_take p zero rows h = absurd (let bad : false ≡ true = h in cc)
any_take p (suc k) [] h = h
any_take p (suc k) (r ∷ rows) h = by_first (p r) h (λ h. any_take p k rows h)
  where
    by_first : (b : Bool) → (b || list_any p (take k rows)) ≡ true → (list_any p (take k rows) ≡ true → list_any p rows ≡ true) → (b || list_any p rows) ≡ true
    by_first true h rest = refl
    by_first false h rest = rest h

pub all_take : (p : NameRow → Bool) (k : ℕ) (rows : List NameRow) → list_all p rows ≡ true → list_all p (take k rows) ≡ true
all_take p zero rows h = refl
all_take p (suc k) [] h = refl
all_take p (suc k) (r ∷ rows) h =
    let parts = and_parts (p r) (list_all p rows) h in
    and_from (p r) (list_all p (take k rows)) parts.0 (all_take p k rows parts.1)

pub rising_take : (k : ℕ) (rows : List NameRow) → is_rising rows ≡ true → is_rising (take k rows) ≡ true
rising_take zero rows h = refl
rising_take (suc k) [] h = refl
rising_take (suc k) (r ∷ rows) h =
    let parts = and_parts (list_all (λ (s : NameRow). name_lt r.name s.name) rows) (is_rising rows) h in
    and_from (list_all (λ (s : NameRow). name_lt r.name s.name) (take k rows)) (is_rising (take k rows))
    (all_take (λ (s : NameRow). name_lt r.name s.name) k rows parts.0) (rising_take k rows parts.1)

lt_not : (a b : List ℕ) → name_lt a b ≡ true → name_lt b a ≡ false
lt_not a b low = elim (name_lt b a) as (λ x. name_lt b a ≡ x → x ≡ false) [
  | true ↦ λ t. absurd (not_below a a (lt_trans a b a low t) refl)
  | false ↦ λ _. refl
] refl

-- the next name comes last
pub placed_next : (rows : List NameRow) (k : ℕ) (row : NameRow) → is_rising rows ≡ true → slice_get rows k ≡ Some row → placed row (take k rows) ≡ take (suc k) rows
placed_next [] k row h at = absurd (let bad : None ≡ Some row = at in cc)
placed_next (r ∷ rows) zero row h at = ap (λ (x : NameRow). x ∷ []) (sym (some_same {o = Some r} refl at))
placed_next (r ∷ rows) (suc k) row h at =
    let parts = and_parts (list_all (λ (s : NameRow). name_lt r.name s.name) rows) (is_rising rows) h in
    let above = all_at (λ (s : NameRow). name_lt r.name s.name) rows k row parts.0 at in
    ap (λ b. if b then row ∷ r ∷ take k rows else r ∷ placed row (take k rows)) (lt_not r.name row.name above)
    ∙ ap (λ xs. r ∷ xs) (placed_next rows k row parts.1 at)

-- and is none of those before it
pub lacks_next : (rows : List NameRow) (k : ℕ) (row : NameRow) → is_rising rows ≡ true → slice_get rows k ≡ Some row → row_of row.name (take k rows) ≡ None
lacks_next [] k row h at = absurd (let bad : None ≡ Some row = at in cc)
lacks_next (r ∷ rows) zero row h at = refl
lacks_next (r ∷ rows) (suc k) row h at =
    let parts = and_parts (list_all (λ (s : NameRow). name_lt r.name s.name) rows) (is_rising rows) h in
    let above = all_at (λ (s : NameRow). name_lt r.name s.name) rows k row parts.0 at in
    ap (λ b. cond b (Some r) (row_of row.name (take k rows))) (not_eq r.name row.name (not_below r.name row.name above))
    ∙ lacks_next rows k row parts.1 at

-- ENTRIES WITH OTHER NAMES

take_none : (k : ℕ) → take {A = NameRow} k [] ≡ []
take_none zero = refl
take_none (suc k) = refl

module _ (e : Entry) where
  abbrev at : Object → Entry
  at o = record { generation = e.generation; object = o }

  pub names_with : (names : List NameRow) → is_dir e ≡ true → names_of (with_names names e) ≡ names
  names_with names dir = by_object e.object dir
    where
      by_object : (o : Object) → is_dir (at o) ≡ true → names_of (with_names names (at o)) ≡ names
      by_object Null d = absurd (let bad : false ≡ true = d in cc)
      by_object (File a b) d = absurd (let bad : false ≡ true = d in cc)
      by_object (Dir a b) d = refl
      by_object (Link a b) d = absurd (let bad : false ≡ true = d in cc)

  pub names_take : (k : ℕ) → names_of (with_names (take k (names_of e)) e) ≡ take k (names_of e)
  names_take k = by_object e.object
    where
      by_object : (o : Object) → names_of (with_names (take k (names_of (at o))) (at o)) ≡ take k (names_of (at o))
      by_object Null = sym (take_none k)
      by_object (File a b) = sym (take_none k)
      by_object (Dir a b) = refl
      by_object (Link a b) = sym (take_none k)

  pub bytes_with : (names : List NameRow) → bytes_of (with_names names e) ≡ bytes_of e
  bytes_with names = by_object e.object
    where
      by_object : (o : Object) → bytes_of (with_names names (at o)) ≡ bytes_of (at o)
      by_object Null = refl
      by_object (File a b) = refl
      by_object (Dir a b) = refl
      by_object (Link a b) = refl

  pub dir_with : (names : List NameRow) → is_dir (with_names names e) ≡ is_dir e
  dir_with names = by_object e.object
    where
      by_object : (o : Object) → is_dir (with_names names (at o)) ≡ is_dir (at o)
      by_object Null = refl
      by_object (File a b) = refl
      by_object (Dir a b) = refl
      by_object (Link a b) = refl

  pub null_with : (names : List NameRow) → is_null (with_names names e) ≡ is_null e
  null_with names = by_object e.object
    where
      by_object : (o : Object) → is_null (with_names names (at o)) ≡ is_null (at o)
      by_object Null = refl
      by_object (File a b) = refl
      by_object (Dir a b) = refl
      by_object (Link a b) = refl

  pub again_with : (names old : List NameRow) → with_names names (with_names old e) ≡ with_names names e
  again_with names old = by_object e.object
    where
      by_object : (o : Object) → with_names names (with_names old (at o)) ≡ with_names names (at o)
      by_object Null = refl
      by_object (File a b) = refl
      by_object (Dir a b) = refl
      by_object (Link a b) = refl

  pub own_names : with_names (names_of e) e ≡ e
  own_names = by_object e.object
    where
      by_object : (o : Object) → with_names (names_of (at o)) (at o) ≡ at o
      by_object Null = refl
      by_object (File a b) = refl
      by_object (Dir a b) = refl
      by_object (Link a b) = refl
