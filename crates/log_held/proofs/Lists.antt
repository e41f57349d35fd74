-- Lists of records whose keys differ, lists of entries, and what holds of each of them.
use Rattle.std.proofs.Common.{◌≡◌, ◌≢◌, ◌∙◌, ℕ, Bool, true, false, cond, ◌&&◌, List, [], ◌∷◌, ◌++◌, Some, None, refl, sym, ap, subst, bytes_eq}
use Rattle.std.specs.Prelude.{T, ⊤}
use Rattle.std.specs.List.{list_all}
use Rattle.std.proofs.lemmas.Slice.Eq.{bytes_eq-Decides}
use Rattle.std.specs.declared.cmp.Ordering.{Ordering}
use Rattle.std.specs.declared.cmp.Ordering.TheVariants.{Less, Equal, Greater}
use Rattle.std.specs.Ordering.{nat_cmp, is_eq, is_lt, eq_by_cmp}
use Rattle.std.specs.Cmp.Lexicographic.{slice_cmp, nat_list_cmp_total}
use Rattle.std.specs.FinMap.{find as find_entry, is_sorted, get, entries, entries_sorted, get-entries}
use Rattle.std.specs.FinMap.Entries.{below_all}
use Rattle.server_trait.specs.Tree.{ByBytes}
use Rattle.server_trait.proofs.TreeLaws.{same-keys, same-key_refl}
use Rattle.log_segments.specs.Newest.{has_key, find, live, standing, without}
use Rattle.log_segments.specs.Record.{is_gone, key_of}
use Rattle.log_tree.specs.Held.{Records}
use Rattle.log_tree.proofs.TreeLaws.{apart}
use Rattle.log_held.specs.Sound.{AreOnce}

-- it holds of each element
abbrev pub Each : {X : Type 0} → (X → Type 0) → List X → Type 0
Each P [] = ⊤
Each P (x ∷ xs) = P x × Each P xs

pub each_weaker : {X : Type 0} (P Q : X → Type 0) (xs : List X) → ((x : X) → P x → Q x) → Each P xs → Each Q xs
each_weaker P Q [] f h = tt
each_weaker P Q (x ∷ xs) f h = (f x h.0, each_weaker P Q xs f h.1)

and_both : (a b : Bool) → (a && b) ≡ true → (a ≡ true) × (b ≡ true)
and_both true b h = (refl, h)
and_both false b h = cc

pub each_all : {X : Type 0} (test : X → Bool) (xs : List X) → list_all test xs ≡ true → Each (λ x. test x ≡ true) xs
each_all test [] h = tt
each_all test (x ∷ xs) h =
    let both = and_both (test x) (list_all test xs) h in (both.0, each_all test xs both.1)

pub all_each : {X : Type 0} (test : X → Bool) (xs : List X) → Each (λ x. test x ≡ true) xs → list_all test xs ≡ true
all_each test [] h = refl
all_each test (x ∷ xs) h = rw h.0 (all_each test xs h.1)

-- RECORDS

-- what holds of each record holds of one that is found
pub found_each : (P : List ℕ → Type 0) (rs : Records) (k r : List ℕ) → Each P rs → find k rs ≡ Some r → P r
found_each P [] k r h is = absurd (let bad : None ≡ Some r = is in cc)
found_each P (x ∷ rs) k r h is =
    elim (bytes_eq (key_of x) k) as (λ b. cond b (Some x) (find k rs) ≡ Some r → P r) [
      | true ↦ (λ e. let same : x ≡ r = cc in subst P same h.0)
      | false ↦ (λ e. found_each P rs k r h.1 e)
    ] is

pub none_found : (k : List ℕ) (rs : Records) → has_key k rs ≡ false → find k rs ≡ None
none_found k [] h = refl
none_found k (r ∷ rs) h =
    elim (bytes_eq (key_of r) k) as (λ b. cond b true (has_key k rs) ≡ false → cond b (Some r) (find k rs) ≡ None) [
      | true ↦ (λ e. cc)
      | false ↦ (λ e. none_found k rs e)
    ] h

key_itself : (a : List ℕ) → bytes_eq a a ≡ true
key_itself a = (bytes_eq-Decides a a).1 refl

-- where keys differ, what holds of each record that is found holds of each
pub each_found : (P : List ℕ → Type 0) (rs : Records) → AreOnce rs → ((k r : List ℕ) → find k rs ≡ Some r → P r)
    → Each P rs
each_found P [] once h = tt
each_found P (x ∷ rs) once h = (
  h (key_of x) x (ap (λ b. cond b (Some x) (find (key_of x) rs)) (key_itself (key_of x))),
  each_found P rs once.1 (λ k r is. h k r (
      let other : key_of x ≢ k = λ e. (let none = none_found (key_of x) rs once.0 in
      let bad : None ≡ Some r = sym none ∙ (ap (λ q. find q rs) e ∙ is) in absurd cc) in
      ap (λ b. cond b (Some x) (find k rs)) (apart (key_of x) k other) ∙ is)),
)

-- a key that no record has is none of the live ones
has_key-live : (k : List ℕ) (rs : Records) → has_key k rs ≡ false → has_key k (live rs) ≡ false
has_key-live k [] none = refl
has_key-live k (r ∷ rs) none =
    elim (bytes_eq (key_of r) k) as (λ b. bytes_eq (key_of r) k ≡ b → cond b true (has_key k rs) ≡ false
    → has_key k (cond (has_key (key_of r) rs) (live rs) (standing r ++ live rs)) ≡ false) [
      | true ↦ (λ e h. cc)
      | false ↦ (λ e h.
          let rest = has_key-live k rs h in
          elim (has_key (key_of r) rs) as (λ b. has_key k (cond b (live rs) (standing r ++ live rs)) ≡ false) [
            | true ↦ rest
            | false ↦ elim (is_gone r) as (λ g. has_key k (cond g [] (r ∷ []) ++ live rs) ≡ false)
                [ true ↦ rest | false ↦ rw e rest ]
          ])
    ] refl none

once-append : (r : List ℕ) (ls : Records) → has_key (key_of r) ls ≡ false → AreOnce ls → AreOnce (standing r ++ ls)
once-append r ls none once = elim (is_gone r) as (λ g. AreOnce (cond g [] (r ∷ []) ++ ls))
    [ true ↦ once | false ↦ (none, once) ]

-- of each key only the newest record is live
pub live_once : (rs : Records) → AreOnce (live rs)
live_once [] = tt
live_once (r ∷ rs) =
    elim (has_key (key_of r) rs) as (λ b. has_key (key_of r) rs ≡ b
    → AreOnce (cond b (live rs) (standing r ++ live rs))) [
      | true ↦ (λ e. live_once rs)
      | false ↦ (λ e. once-append r (live rs) (has_key-live (key_of r) rs e) (live_once rs))
    ] refl

has_key-without : (k key : List ℕ) (rs : Records) → has_key k rs ≡ false → has_key k (without key rs) ≡ false
has_key-without k key [] h = refl
has_key-without k key (r ∷ rs) h =
    elim (bytes_eq (key_of r) k) as (λ b. bytes_eq (key_of r) k ≡ b → cond b true (has_key k rs) ≡ false
    → has_key k (cond (bytes_eq (key_of r) key) (without key rs) (r ∷ without key rs)) ≡ false) [
      | true ↦ (λ e w. cc)
      | false ↦ (λ e w. elim (bytes_eq (key_of r) key) as (λ b. has_key k (cond b (without key rs) (r ∷ without key rs))
          ≡ false) [
            | true ↦ has_key-without k key rs w
            | false ↦ rw e (has_key-without k key rs w)
          ])
    ] refl h

pub once-without : (key : List ℕ) (rs : Records) → AreOnce rs → AreOnce (without key rs)
once-without key [] once = tt
once-without key (r ∷ rs) once = elim (bytes_eq (key_of r) key) as (λ b. AreOnce (cond b (without key rs)
    (r ∷ without key rs))) [
      | true ↦ once-without key rs once.1
      | false ↦ (has_key-without (key_of r) key rs once.0, once-without key rs once.1)
    ]

pub each-without : (P : List ℕ → Type 0) (key : List ℕ) (rs : Records) → Each P rs
    → Each (λ r. P r × (key_of r ≢ key)) (without key rs)
each-without P key [] h = tt
each-without P key (r ∷ rs) h =
    elim (bytes_eq (key_of r) key) as (λ b. bytes_eq (key_of r) key ≡ b
    → Each (λ r. P r × (key_of r ≢ key)) (cond b (without key rs) (r ∷ without key rs))) [
      | true ↦ (λ e. each-without P key rs h.1)
      | false ↦ (λ e. (
        (h.0, λ same. absurd (let yes = (bytes_eq-Decides (key_of r) key).1 same in cc)),
        each-without P key rs h.1,
      ))
    ] refl

-- ENTRIES

first : (a b : Bool) → T (a && b) → T a
first true b p = tt
first false b p = absurd p

second : (a b : Bool) → T (a && b) → T b
second true b p = p
second false b p = absurd p

less : (r : Ordering) → T (is_lt r) → r ≡ Less
less Less p = refl
less Equal p = absurd p
less Greater p = absurd p

abbrev order : List ℕ → List ℕ → Ordering
order = slice_cmp nat_cmp

module _ {X : Type 0} where
  find_tied : (x y : List ℕ) (es : List (List ℕ × X)) → order x y ≡ Equal → T (below_all order y es)
      → find_entry order x es ≡ None
  find_tied x y [] p h = refl
  find_tied x y (e ∷ es) p h =
      ap (λ r. cond (is_eq r) (Some e.1) (find_entry order x es))
      (nat_list_cmp_total.congr x y e.0 p ∙ less _ (first (is_lt (order y e.0)) (below_all order y es) h))
      ∙ find_tied x y es p (second (is_lt (order y e.0)) (below_all order y es) h)

  each_sorted : (P : List ℕ × X → Type 0) (es : List (List ℕ × X)) → T (is_sorted order es)
      → ((k : List ℕ) (v : X) → find_entry order k es ≡ Some v → P (k, v)) → Each P es
  each_sorted P [] s h = tt
  each_sorted P (e ∷ es) s h = (
    h e.0 e.1 (ap (λ b. cond b (Some e.1) (find_entry order e.0 es)) (same-key_refl e.0)),
    each_sorted P es (second (below_all order e.0 es) (is_sorted order es) s) (λ k v is. h k v (later k v is)),
  )
    where
      later : (k : List ℕ) (v : X) → find_entry order k es ≡ Some v → find_entry order k (e ∷ es) ≡ Some v
      later k v is = elim (order k e.0) as (λ r. order k e.0 ≡ r → cond (is_eq r) (Some e.1) (find_entry order k es)
          ≡ Some v) [
            | Less ↦ λ _. is
            | Equal ↦ λ p. absurd
                (let none = find_tied k e.0 es p (first (below_all order e.0 es) (is_sorted order es) s) in
                let bad : None ≡ Some v = sym none ∙ is in cc)
            | Greater ↦ λ _. is
          ] refl

  -- what holds of what is under each key holds of each entry
  pub each_entry : (P : List ℕ × X → Type 0) (m : ByBytes X) → ((k : List ℕ) (v : X) → get m k ≡ Some v → P (k, v))
      → Each P (entries m)
  each_entry P m h = each_sorted P (entries m) (entries_sorted m) (λ k v is. h k v (get-entries m k ∙ is))

  found_entry : (P : List ℕ × X → Type 0) (es : List (List ℕ × X)) (k : List ℕ) (v : X) → Each P es
      → find_entry order k es ≡ Some v → P (k, v)
  found_entry P [] k v h is = absurd (let bad : None ≡ Some v = is in cc)
  found_entry P (e ∷ es) k v h is =
      elim (eq_by_cmp order k e.0) as (λ b. eq_by_cmp order k e.0 ≡ b
      → cond b (Some e.1) (find_entry order k es) ≡ Some v → P (k, v)) [
        | true ↦ (λ t w.
            let key : k ≡ e.0 = same-keys k e.0 t in
            let value : e.1 ≡ v = cc in
            subst (λ q. P (q, v)) (sym key) (subst (λ x. P (e.0, x)) value h.0))
        | false ↦ (λ t w. found_entry P es k v h.1 w)
      ] refl is

  -- and the other way
  pub entry_each : (P : List ℕ × X → Type 0) (m : ByBytes X) (k : List ℕ) (v : X) → Each P (entries m)
      → get m k ≡ Some v → P (k, v)
  entry_each P m k v h is = found_entry P (entries m) k v h (sym (get-entries m k) ∙ is)
