-- What a walk from a path's slash on finds: all paths under it, and the names of its directory.
use Rattle.std.proofs.Common.{inl, inr, ◌≡◌, ℕ, zero, suc, ◌+◌, ◌<◌, Bool, true, false, not, cond, ◌&&◌, if◌then◌else◌, List, [], ◌∷◌, ◌++◌, length, drop, map, slice_get, Option, Some, None, option_map, reverse, option_to_list, nat_lt, bytes_eq, refl, sym, ap, ◌∙◌, subst, arith, append_assoc, length-append, drop_at}
use Rattle.std.specs.List.{filter}
use Rattle.std.specs.List.Sorted.{IsStrictlySortedBy}
use Rattle.std.specs.Ordering.{nat_cmp, is_le}
use Rattle.std.specs.Cmp.Lexicographic.{slice_cmp}
use Rattle.std.specs.FinMap.{get, entries, entries_sorted, from_entries}
use Rattle.std.proofs.lemmas.Bool.{not-true, lt-ltb}
use Rattle.std.proofs.lemmas.Slice.Eq.{bytes_eq-Decides}
use Rattle.slab.specs.Slab.{get as slot}
use Rattle.server_trait.proofs.TreeLaws.{some_none}
use Rattle.server_trait.specs.declared.server.Listed.{Listed}
use Rattle.path_store.specs.Stored.{joined, is_under}
use Rattle.path_store.specs.Placed.{Keys, Rows}
use Rattle.path_store.specs.Walks.{IsAmong, IsAlone, AreUnder, ListsRows, pair, listed_at, listed_of, paths_from}
use Rattle.path_store.specs.declared.row.PathRow.{PathRow}
use Rattle.path_store.proofs.AmongLaws.{among_reverse, reverse_among, among_left, among_right, among_either, among_filter, among_kept, AreApart, sorted_apart, entry_got, got_entry}
use Rattle.path_store.proofs.OrderLaws.{in_between, from_slash, before_next}
use Rattle.path_store.proofs.PlacedLaws.{row_of_key, key_of_row}
use Rattle.path_store.proofs.Rows.{entries-rows}
use Rattle.path_store.proofs.SlashLaws.{under_refl, under_slash, under_cases}

abbrev pub Entry : Type 0
Entry = List ℕ × ℕ

-- ROWS OF A LIST

slice_among : (listed : List Listed) (k : ℕ) (r : Listed) → slice_get listed k ≡ Some r →
    IsAmong (pair r) (map pair listed)
slice_among [] k r at_k = absurd (some_none at_k refl)
slice_among (x ∷ listed)
    zero r at_k = inl (ap pair (let same : Some x ≡ Some r = at_k in let one : x ≡ r = cc in one))
slice_among (x ∷ listed) (suc k) r at_k = inr (slice_among listed k r at_k)

among_slice : (listed : List Listed) (name h : List ℕ) → IsAmong (name, h) (map pair listed) →
    (k : ℕ) × (slice_get listed k ≡ Some (record { name = name; handle = h }))
among_slice [] name h m = absurd m
among_slice (x ∷ listed)
    name h (inl e) = (
      zero,
      ap (λ (p : List ℕ × List ℕ). let r : Listed = record { name = p.0; handle = p.1 } in Some
          r) e,
    )
among_slice (x ∷ listed) name h (inr m) = let k = among_slice listed name h m in (suc k.0, k.1)

only_once : (listed : List Listed) (j k : ℕ) (a b : Listed) → AreApart (map pair listed) →
    slice_get listed j ≡ Some a → slice_get listed k ≡ Some b → a.name ≡ b.name → j ≡ k
only_once [] j k a b apart at_j at_k same = absurd (some_none at_j refl)
only_once (x ∷ listed) zero zero a b apart at_j at_k same = refl
only_once (x ∷ listed) zero (suc k) a b apart at_j at_k same =
    let one : x ≡ a = (let e : Some x ≡ Some a = at_j in cc) in
    absurd (apart.0 b.handle (subst (λ n. IsAmong (n, b.handle) (map pair listed))
    (sym (ap (λ (z : Listed). z.name) one ∙ same)) (slice_among listed k b at_k)))
only_once (x ∷ listed) (suc j) zero a b apart at_j at_k same =
    let one : x ≡ b = (let e : Some x ≡ Some b = at_k in cc) in
    absurd (apart.0 a.handle (subst (λ n. IsAmong (n, a.handle) (map pair listed))
    (sym (ap (λ (z : Listed). z.name) one ∙ sym same)) (slice_among listed j a at_j)))
only_once (x ∷ listed) (suc j) (suc k) a b apart at_j at_k same = ap suc (only_once listed j k a b apart.1 at_j at_k
    same)

nothing_is : (x : List ℕ × List ℕ) → ◌≡◌ {A = Option (List ℕ × List ℕ)} None (Some x) → ⊥
nothing_is x e = cc

same_pair : (x y : List ℕ × List ℕ) → ◌≡◌ {A = Option (List ℕ × List ℕ)} (Some x) (Some y) → x ≡ y
same_pair x y e = cc

-- a name, and its row
pub record ListedBy (o : Option PathRow) (dir : List ℕ) (size : ℕ) (path name h : List ℕ) : Type 0 where
  pub row : PathRow
  pub found : o ≡ Some row
  pub dir_is : row.dir ≡ dir
  pub name_is : drop (size + 1) path ≡ name
  pub leads : row.to ≡ h

pub listed_by : (o : Option PathRow) (dir : List ℕ) (size : ℕ) (path name h : List ℕ) →
    listed_at o dir size path ≡ Some (name, h) → ListedBy o dir size path name h
listed_by None dir size path name h is = absurd (nothing_is (name, h) is)
listed_by (Some r) dir size path name h is =
    elim (bytes_eq r.dir dir) as (λ b. bytes_eq r.dir dir ≡ b →
    ◌≡◌ {A = Option (List ℕ × List ℕ)}
    (if b then (if nat_lt size (length path) then Some (drop (size + 1) path, r.to) else None) else None)
    (Some (name, h)) →
    ListedBy (Some r) dir size path name h) [
      | true ↦ λ t s. elim (nat_lt size (length path)) as (λ b. ◌≡◌ {A = Option (List ℕ × List ℕ)}
          (if b then Some (drop (size + 1) path, r.to) else None) (Some (name, h)) →
          ListedBy (Some r) dir size path name h) [
            | true ↦ λ u.
                let same = same_pair (drop (size + 1) path, r.to) (name, h) u in
                record {
                  row = r;
                  found = refl;
                  dir_is = (bytes_eq-Decides r.dir dir).0 t;
                  name_is = ap (λ (p : List ℕ × List ℕ). p.0) same;
                  leads = ap (λ (p : List ℕ × List ℕ). p.1) same;
                }
            | false ↦ λ u. absurd (nothing_is (name, h) u)
          ] s
      | false ↦ λ _ s. absurd (nothing_is (name, h) s)
    ] refl is

drop_name : (top rest : List ℕ) → drop (length top + 1) (top ++ 47 ∷ rest) ≡ rest
drop_name top rest = ap (drop (length top + 1)) (sym (append_assoc top (47 ∷ []) rest))
    ∙ drop_at (top ++ 47 ∷ []) rest (length top + 1) (length-append top (47 ∷ []))

by_listed : (o : Option PathRow) (dir top path rest : List ℕ) (r : PathRow) → o ≡ Some r → r.dir ≡ dir →
    path ≡ top ++ 47 ∷ rest →
    listed_at o dir (length top) path ≡ Some (rest, r.to)
by_listed o dir top path rest r found dir_is path_is =
    let long : length top < length path = (let n : length path ≡ length top + suc (length rest) = ap length path_is
    ∙ length-append top (47 ∷ rest) in omega arith) in
    ap (λ x. listed_at x dir (length top) path) found
    ∙ ap (λ b. if b then (if nat_lt (length top) (length path) then Some (drop (length top + 1) path, r.to) else None)
    else None) ((bytes_eq-Decides r.dir dir).1 dir_is)
    ∙ ap (λ b. if b then Some (drop (length top + 1) path, r.to) else None) (lt-ltb (length top) (length path) long)
    ∙ ap (λ l. Some (l, r.to)) (ap (drop (length top + 1)) path_is ∙ drop_name top rest)

module _ (rows : Rows) (dir : List ℕ) (size : ℕ) where
  listed_some : (x : List ℕ × List ℕ) (fs : List (List ℕ × ℕ)) → IsAmong x (listed_of rows dir size fs) →
      (f : List ℕ × ℕ) × IsAmong f fs × (listed_at (slot rows f.1) dir size f.0 ≡ Some x)
  listed_some x [] m = absurd m
  listed_some x (f ∷ fs) m = elim (among_either x (option_to_list (listed_at (slot rows f.1) dir size f.0))
      (listed_of rows dir size fs) m) as (λ _. (g : List ℕ × ℕ) × IsAmong g (f ∷ fs) ×
      (listed_at (slot rows g.1) dir size g.0 ≡ Some x)) [
        | inl a ↦ (f, inl refl, alone (listed_at (slot rows f.1) dir size f.0) a)
        | inr b ↦ (let g = listed_some x fs b in (g.0, inr g.1, g.2))
      ]
    where
      alone : (o : Option (List ℕ × List ℕ)) → IsAmong x (option_to_list o) → o ≡ Some x
      alone None m = absurd m
      alone (Some y) (inl e) = ap Some e
      alone (Some y) (inr m) = absurd m

  some_listed : (x : List ℕ × List ℕ) (f : List ℕ × ℕ) (fs : List (List ℕ × ℕ)) → IsAmong f fs →
      listed_at (slot rows f.1) dir size f.0 ≡ Some x → IsAmong x (listed_of rows dir size fs)
  some_listed x f [] m is = absurd m
  some_listed x f (g ∷ fs) (inl e) is =
      let here : listed_at (slot rows g.1) dir size g.0 ≡ Some x = ap (λ (z : List ℕ × ℕ). listed_at (slot rows z.1)
      dir size z.0) e ∙ is in
      among_left x (option_to_list (listed_at (slot rows g.1) dir size g.0)) (listed_of rows dir size fs)
      (subst (λ o. IsAmong x (option_to_list o)) (sym here) (inl refl))
  some_listed x f (g ∷ fs) (inr m) is = among_right x (option_to_list (listed_at (slot rows g.1) dir size g.0))
      (listed_of rows dir size fs) (some_listed x f fs m is)

-- ALL THAT A WALK FINDS

pub and_parts : (a b : Bool) → (a && b) ≡ true → (a ≡ true) × (b ≡ true)
and_parts true b p = (refl, p)
and_parts false b p = absurd (let bad : false ≡ true = p in cc)

module _ (top : List ℕ) where
  -- the test of a walk from a path on
  abbrev pub inside : List ℕ → Entry → Bool
  inside low e = is_le (slice_cmp nat_cmp low e.0) && not (is_le (slice_cmp nat_cmp (top ++ 48 ∷ []) e.0))

  pub inside_is : (e : Entry) → inside (top ++ 47 ∷ []) e ≡ true → (rest : List ℕ) × (e.0 ≡ top ++ 47 ∷ rest)
  inside_is e t =
      let parts = and_parts (is_le (slice_cmp nat_cmp (top ++ 47 ∷ []) e.0))
      (not (is_le (slice_cmp nat_cmp (top ++ 48 ∷ []) e.0))) t in
      in_between top e.0 parts.0 (not-true (is_le (slice_cmp nat_cmp (top ++ 48 ∷ []) e.0)) parts.1)

  pub is_inside : (e : Entry) (rest : List ℕ) → e.0 ≡ top ++ 47 ∷ rest → inside (top ++ 47 ∷ []) e ≡ true
  is_inside e rest is =
      ap (λ b. b && not (is_le (slice_cmp nat_cmp (top ++ 48 ∷ []) e.0)))
      (ap (λ l. is_le (slice_cmp nat_cmp (top ++ 47 ∷ []) l)) is ∙ from_slash top rest)
      ∙ ap not (ap (λ l. is_le (slice_cmp nat_cmp (top ++ 48 ∷ []) l)) is ∙ before_next top rest)

  -- a range over the map's entries is a walk
  pub walk_is : (keys : Keys) (low high from : List ℕ) → low ≡ from → high ≡ top ++ 48 ∷ [] →
      (es : List Entry) → IsStrictlySortedBy (slice_cmp nat_cmp) (map (λ e. e.0) es) → from_entries es ≡ keys →
      (found : List Entry) → found
      ≡ filter (λ e. is_le (slice_cmp nat_cmp low e.0) && not (is_le (slice_cmp nat_cmp high e.0))) es →
      found ≡ paths_from top from (entries keys)
  walk_is keys low high from low_is high_is es sorted view found is =
      is ∙ ap (λ l. filter (λ e. is_le (slice_cmp nat_cmp l e.0) && not (is_le (slice_cmp nat_cmp high e.0))) es) low_is
      ∙ ap (λ h. filter (λ e. is_le (slice_cmp nat_cmp from e.0) && not (is_le (slice_cmp nat_cmp h e.0))) es) high_is
      ∙ ap (paths_from top from) (sym (entries-rows es sorted) ∙ ap entries view)

  filter_apart : (p : Entry → Bool) (fs : List Entry) → AreApart fs → AreApart (filter p fs)
  filter_apart p [] apart = tt
  filter_apart p (e ∷ fs) apart = elim (p e) as (λ b. AreApart (cond b (e ∷ filter p fs) (filter p fs))) [
    | true ↦ (λ k m. apart.0 k (among_filter p (e.0, k) fs m).0, filter_apart p fs apart.1)
    | false ↦ filter_apart p fs apart.1
  ]

  module _ (keys : Keys) where
    abbrev all : List Entry
    all = paths_from top (top ++ 47 ∷ []) (entries keys)

    among_all : (e : Entry) → IsAmong e all → (get keys e.0 ≡ Some e.1) × (inside (top ++ 47 ∷ []) e ≡ true)
    among_all e m =
        let part = among_filter (inside (top ++ 47 ∷ [])) e (entries keys) m in (entry_got keys e.0 e.1 part.0, part.1)

    all_among : (path rest : List ℕ) (key : ℕ) → get keys path ≡ Some key → path ≡ top ++ 47 ∷ rest →
        IsAmong (path, key) all
    all_among path rest key is path_is = among_kept (inside (top ++ 47 ∷ [])) (path, key) (entries keys)
        (got_entry keys path key is) (is_inside (path, key) rest path_is)

    alone_got : (path : List ℕ) (key : ℕ) (o : Option ℕ) →
        IsAmong {A = List ℕ × ℕ} (path, key) (option_to_list (option_map (λ k. (top, k)) o)) →
        (o ≡ Some key) × (path ≡ top)
    alone_got path key None m = absurd m
    alone_got path key (Some k) (inl e) = (ap (λ (p : List ℕ × ℕ). Some p.1) e, sym (ap (λ (p : List ℕ × ℕ). p.0) e))
    alone_got path key (Some k) (inr m) = absurd m

    pub under_found : (first found : List Entry) → IsAlone top keys first → found ≡ first ++ all →
        AreUnder top keys found
    under_found first found alone found_is = record { sound = sound; complete = complete }
      where
        sound : (path : List ℕ) (key : ℕ) → IsAmong (path, key) found → (get keys path ≡ Some key) ×
            (is_under top path ≡ true)
        sound path key m = elim (among_either (path, key) first all (subst (IsAmong (path, key)) found_is m)) as
            (λ _. (get keys path ≡ Some key) × (is_under top path ≡ true)) [
              | inl a ↦
                  let own = alone_got path key (get keys top) (subst (IsAmong (path, key)) alone a) in
                  (ap (get keys) own.1 ∙ own.0, ap (is_under top) own.1 ∙ under_refl top)
              | inr b ↦
                  let part = among_all (path, key) b in
                  let rest = inside_is (path, key) part.1 in
                  (part.0, ap (is_under top) rest.1 ∙ under_slash top rest.0)
            ]

        complete : (path : List ℕ) (key : ℕ) → get keys path ≡ Some key → is_under top path ≡ true →
            IsAmong (path, key) found
        complete path key is t = subst (IsAmong (path, key)) (sym found_is)
            (elim (under_cases top path t) as (λ _. IsAmong (path, key) (first ++ all)) [
              | inl same ↦ among_left (path, key) first all (subst (IsAmong (path, key))
                  (sym (alone ∙ ap (λ o. option_to_list (option_map (λ k. (top, k)) o))
                  (ap (get keys) (sym same) ∙ is)))
                  (inl (ap (λ l. (l, key)) (sym same))))
              | inr rest ↦ among_right (path, key) first all (all_among path rest.0 key is rest.1)
            ])

    pub under_reversed : (found : List Entry) → AreUnder top keys found → AreUnder top keys (reverse found)
    under_reversed found under = record {
      sound = λ path key m. under.sound path key (reverse_among (path, key) found m);
      complete = λ path key is t. among_reverse (path, key) found (under.complete path key is t);
    }

    module _ (rows : Rows) (dir : List ℕ) where
      path_of : (f : Entry) (name h : List ℕ) → inside (top ++ 47 ∷ []) f ≡ true →
          listed_at (slot rows f.1) dir (length top) f.0 ≡ Some (name, h) → f.0 ≡ top ++ 47 ∷ name
      path_of f name h t is =
          let rest = inside_is f t in
          let by = listed_by (slot rows f.1) dir (length top) f.0 name h is in
          rest.1 ∙ ap (λ l. top ++ 47 ∷ l) (sym (drop_name top rest.0) ∙ ap (drop (length top + 1)) (sym rest.1)
          ∙ by.name_is)

      -- names of one directory are apart, since their paths are
      first_apart : (e : Entry) (fs : List Entry) → AreApart (e ∷ fs) →
          ((f : Entry) → IsAmong f (e ∷ fs) → inside (top ++ 47 ∷ []) f ≡ true) →
          AreApart (listed_of rows dir (length top) fs) → (o : Option (List ℕ × List ℕ)) →
          listed_at (slot rows e.1) dir (length top) e.0 ≡ o →
          AreApart (option_to_list o ++ listed_of rows dir (length top) fs)
      first_apart e fs apart within later None is = later
      first_apart e fs apart within later (Some x) is = (
        λ h m.
            let f = listed_some rows dir (length top) (x.0, h) fs m in
            let same : f.0.0 ≡ e.0 = path_of f.0 x.0 h (within f.0 (inr f.1)) f.2
            ∙ sym (path_of e x.0 x.1 (within e (inl refl)) is) in
            apart.0 f.0.1 (subst (λ l. IsAmong (l, f.0.1) fs) same f.1),
        later,
      )

      names_apart : (fs : List Entry) → AreApart fs → ((e : Entry) → IsAmong e fs → inside (top ++ 47 ∷ []) e ≡ true) →
          AreApart (listed_of rows dir (length top) fs)
      names_apart [] apart within = tt
      names_apart (e ∷ fs) apart within =
          first_apart e fs apart within (names_apart fs apart.1 (λ f m. within f (inr m)))
          (listed_at (slot rows e.1) dir (length top) e.0) refl

      pub list_found : (listed : List Listed) → map pair listed ≡ listed_of rows dir (length top) all →
          ListsRows dir top keys rows listed
      list_found listed listed_is = record {
        sound = λ k r at_k.
            let f = listed_some rows dir (length top) (pair r) all
            (subst (IsAmong (pair r)) listed_is (slice_among listed k r at_k)) in
            let part = among_all f.0 f.1 in
            let by = listed_by (slot rows f.0.1) dir (length top) f.0.0 r.name r.handle f.2 in
            let key : get keys (joined top r.name) ≡ Some f.0.1 = ap (get keys)
            (sym (path_of f.0 r.name r.handle part.1 f.2)) ∙ part.0 in (
              by.row,
              row_of_key keys rows (joined top r.name) f.0.1 key ∙ by.found,
              by.dir_is,
              by.leads,
            );
        complete = λ name r found dir_is.
            let key = key_of_row keys rows (joined top name) r found in
            among_slice listed name r.to (subst (IsAmong (name, r.to)) (sym listed_is)
            (some_listed rows dir (length top) (name, r.to) (joined top name, key.0) all
            (all_among (joined top name) name key.0 key.1 refl)
            (by_listed (slot rows key.0) dir top (joined top name) name r key.2 dir_is refl)));
        once = λ j k a b at_j at_k same. only_once listed j k a b
            (subst AreApart (sym listed_is) (names_apart all
            (filter_apart (inside (top ++ 47 ∷ [])) (entries keys) (sorted_apart (entries keys) (entries_sorted keys)))
            (λ e m. (among_all e m).1))) at_j at_k same;
      }
