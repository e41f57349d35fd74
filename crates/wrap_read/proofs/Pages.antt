-- The part of a list that answers a cookie and a count, entry by entry.
use Rattle.std.proofs.Common.{◌≡◌, ◌≢◌, ℕ, zero, suc, ◌+◌, ◌-◌, ◌<◌, ◌≤◌, max, min, arith, true, false, List, [], ◌∷◌, ◌++◌, length, drop, get_or, slice_get, Some, None, refl, sym, ap, ◌∙◌, subst}
use Rattle.std.specs.Prelude.{◌==◌, unwrap_or}
use Rattle.std.proofs.Math.ListN.{drop_of_length-le}
use Rattle.std.proofs.lemmas.Bool.{le-leb, lt-leb}
use Rattle.std.proofs.lemmas.Bool.Decides.{nat_tests}
use Rattle.std.proofs.lemmas.List.{append-nil, length-drop}
use Rattle.std.proofs.lemmas.Option.{slice_get_within, slice_get_read}
use Rattle.nfs2_types.specs.declared.ListEntry.{ListEntry}
use Rattle.nfs2_types.specs.declared.NfsResult.TheVariants.{Entries}
use Rattle.server_trait.proofs.TreeLaws.{some_same}
use Rattle.server_trait.specs.declared.server.Listed.{Listed}
use Rattle.server_trait.specs.declared.bench.ConfTable.{ConfTable}
use Rattle.abs_model.specs.declared.entry.NameRow.{NameRow}
use Rattle.abs_model.specs.Listed.{room_of, fitting, page, numbered}
use Rattle.conf_map.specs.Contents.{AreRows}
use Rattle.wrap_read.specs.Rows.{fileid_of, entries_of, all_entries}

-- LISTS

-- what begins at a place begins with the element there
pub drop_at : {X : Type 0} (xs : List X) (k : ℕ) (x : X) → slice_get xs k ≡ Some x → drop k xs ≡ x ∷ drop (k + 1) xs
drop_at [] k x is = absurd (let bad : None ≡ Some x = is in cc)
drop_at (y ∷ ys) zero x is = ap (λ z. z ∷ ys) (some_same refl is)
drop_at (y ∷ ys) (suc k) x is = drop_at ys k x is ∙ ap (λ n. x ∷ drop n (y ∷ ys))
    (let e : suc (k + 1) ≡ suc k + 1 = omega arith in e)

same_number : (a b : ℕ) → a ≡ b → (a == b) ≡ true
same_number a b same = grind (arith, nat_tests)

other_number : (a b : ℕ) → a < b → (a == b) ≡ false
other_number a b below = grind (arith, nat_tests)

append_assoc : {X : Type 0} (xs ys zs : List X) → (xs ++ ys) ++ zs ≡ xs ++ (ys ++ zs)
append_assoc [] ys zs = refl
append_assoc (x ∷ xs) ys zs = ap (λ l. x ∷ l) (append_assoc xs ys zs)

length_append : {X : Type 0} (xs : List X) (x : X) → length (xs ++ x ∷ []) ≡ length xs + 1
length_append [] x = refl
length_append (y ∷ xs) x = ap suc (length_append xs x) ∙ (omega arith)

-- RUNS

module _ (all : List ListEntry) (cookie count : ℕ) where
  abbrev room : ℕ
  room = min count 8192 - 8

  -- the entries given up to a place, with this room left: what fits behind them completes the part
  pub record IsGiven (given : List ListEntry) (left place : ℕ) : Type 0 where
    pub run : given ++ fitting left (drop place all) ≡ fitting room (drop cookie all)
    pub count_is : length given + cookie ≡ place
    pub within : place ≤ max cookie (length all)

  -- none at first
  pub given_none : IsGiven [] room cookie
  given_none = record { run = refl; count_is = omega arith; within = omega arith }

  module _ (given : List ListEntry) (left place : ℕ) (is : IsGiven given left place) where
    -- one more, where it fits
    one_more : (e : ListEntry) → slice_get all place ≡ Some e → room_of e ≤ left →
        IsGiven (given ++ e ∷ []) (left - room_of e) (place + 1)
    one_more e at fits =
        let below = slice_get_within all place e at in
        let next : fitting left (drop place all) ≡ e ∷ fitting (left - room_of e) (drop (place + 1) all) =
        ap (fitting left) (drop_at all place e at) ∙ rw (le-leb (room_of e) left fits) refl in
        let size = length_append given e in
        record {
          run = append_assoc given (e ∷ []) (fitting (left - room_of e) (drop (place + 1) all))
              ∙ ap (λ l. given ++ l) (sym next) ∙ is.run;
          count_is = let old = is.count_is in omega (arith, size, old);
          within = omega (arith, below);
        }

    pub given_next : (e : ListEntry) → slice_get all place ≡ Some e → (more : List ListEntry) (needed : ℕ) →
        more ≡ given ++ e ∷ [] → needed ≡ room_of e → needed ≤ left → IsGiven more (left - needed) (place + 1)
    given_next e at more needed are is fits =
        subst (λ es. IsGiven es (left - needed) (place + 1)) (sym are)
        (subst (λ n. IsGiven (given ++ e ∷ []) (left - n) (place + 1)) (sym is)
        (one_more e at (subst (λ n. n ≤ left) is fits)))

    -- the part ends before an entry that does not fit
    pub page_stops : (e : ListEntry) → slice_get all place ≡ Some e → left < room_of e →
        Entries given false ≡ page all cookie count
    page_stops e at over =
        let below = slice_get_within all place e at in
        let none : fitting left (drop place all) ≡ [] =
        ap (fitting left) (drop_at all place e at) ∙ rw (lt-leb (room_of e) left over) refl in
        let run : given ≡ fitting room (drop cookie all) =
        sym (append-nil given) ∙ ap (λ l. given ++ l) (sym none) ∙ is.run in
        let rest = length-drop cookie all in
        let old = is.count_is in
        let fewer : length given < length (drop cookie all) = omega (arith, below, rest, old) in
        ap (λ b. Entries given b) (sym (other_number (length given) (length (drop cookie all)) fewer))
        ∙ ap (λ es. Entries es (length es == length (drop cookie all))) run

    -- or at the end of the list
    pub page_ends : length all ≤ place → Entries given true ≡ page all cookie count
    page_ends past =
        let none : fitting left (drop place all) ≡ [] = ap (fitting left) (drop_of_length-le all past) in
        let run : given ≡ fitting room (drop cookie all) =
        sym (append-nil given) ∙ ap (λ l. given ++ l) (sym none) ∙ is.run in
        let rest = length-drop cookie all in
        let old = is.count_is in
        let most = is.within in
        let same : length given ≡ length (drop cookie all) = omega (arith, past, rest, old, most) in
        ap (λ b. Entries given b) (sym (same_number (length given) (length (drop cookie all)) same))
        ∙ ap (λ es. Entries es (length es == length (drop cookie all))) run

-- ENTRIES

-- the names of rows have their entries
pub entries_are : (table : ConfTable) (cookie : ℕ) (ls : List Listed) (rows : List NameRow) → AreRows table ls rows →
    entries_of table cookie ls ≡ numbered cookie rows
entries_are table cookie [] [] are = refl
entries_are table cookie [] (r ∷ rs) are = absurd are
entries_are table cookie (l ∷ ls) [] are = absurd are
entries_are table cookie (l ∷ ls) (r ∷ rs) are =
    (λ j. record { fileid = unwrap_or (are.0.index j) 0 + 1; name = are.0.name j; cookie = cookie }
    ∷ entries_of table (cookie + 1) ls)
    ∙ ap (λ es. record { fileid = r.index + 1; name = r.name; cookie = cookie } ∷ es)
    (entries_are table (cookie + 1) ls rs are.1)

abbrev entry : ConfTable → Listed → ℕ → ListEntry
entry table l cookie = record { fileid = fileid_of table l; name = l.name; cookie = cookie }

-- the entry of a name
pub entry_at : (table : ConfTable) (cookie : ℕ) (ls : List Listed) (k : ℕ) (l : Listed) → slice_get ls k ≡ Some l →
    slice_get (entries_of table cookie ls) k ≡ Some
    (record { fileid = fileid_of table l; name = l.name; cookie = cookie + k })
entry_at table cookie [] k l is = absurd (let bad : None ≡ Some l = is in cc)
entry_at table cookie (x ∷ xs) zero l is =
    ap (λ (x : Listed). Some (entry table x cookie)) (some_same refl is)
    ∙ ap (λ n. Some (entry table l n)) (omega arith)
entry_at table cookie (x ∷ xs) (suc k) l is =
    entry_at table (cookie + 1) xs k l is ∙ ap (λ n. Some (entry table l n)) (omega arith)

-- a name's entry stands behind those of "." and ".."
pub entry_listed : (table : ConfTable) (d parent : ℕ) (names : List Listed) (place : ℕ) (l : Listed) →
    place ≢ 0 → place ≢ 1 → place < 2 + length names → l ≡ get_or names (place - 2) l →
    slice_get (all_entries table d parent names) place ≡ Some (entry table l (place + 1))
entry_listed table d parent names zero l other next below read = absurd (other refl)
entry_listed table d parent names (suc zero) l other next below read = absurd (next refl)
entry_listed table d parent names (suc (suc k)) l other next below read =
    entry_at table 3 names k l (slice_get_read names (length names) k l refl (omega (arith, below))
    (read ∙ ap (λ n. get_or names n l) (let e : suc (suc k) - 2 ≡ k = omega arith in e)))
    ∙ ap (λ n. Some (entry table l n)) (omega arith)

-- as many entries as names
pub entries_length : (table : ConfTable) (cookie : ℕ) (names : List Listed) →
    length (entries_of table cookie names) ≡ length names
entries_length table cookie [] = refl
entries_length table cookie (l ∷ ls) = ap suc (entries_length table (cookie + 1) ls)
