-- Paths: how they are joined and taken apart, and which lie under which.
use Rattle.std.proofs.Common.{◌⊎◌, inl, inr, ◌≡◌, ◌≢◌, ℕ, Bool, true, false, not, ◌&&◌, ◌||◌, ◌==◌, if◌then◌else◌, List, [], ◌∷◌, ◌++◌, length, take, drop, refl, sym, ap, ◌∙◌, subst, arith, append_assoc, append-nil, length-append, take_at, drop_at, take-append-drop, eq-eqb, ne_eqb, bytes_eq}
use Rattle.std.proofs.lemmas.Bool.{not-true}
use Rattle.std.proofs.lemmas.List.{append_cancel_left}
use Rattle.std.proofs.lemmas.Slice.Eq.{bytes_eq-Decides}
use Rattle.std.specs.List.{list_any}
use Rattle.nfs2_types.specs.Names.{is_name, is_bad}
use Rattle.path_store.specs.Stored.{joined, is_under, moved_path}
use Rattle.path_store.specs.Placed.{has_slash, last_part}

-- TESTS

pub true_or_false : (b : Bool) → (b ≡ true) ⊎ (b ≡ false)
true_or_false true = inl refl
true_or_false false = inr refl

pub not_both : {b : Bool} → b ≡ true → b ≡ false → ⊥
not_both t f = let bad : true ≡ false = sym t ∙ f in cc

both : (a b : Bool) → a ≡ true → b ≡ true → (a && b) ≡ true
both true b p q = q
both false b p q = absurd (let bad : false ≡ true = p in cc)

first_true : (a b : Bool) → (a && b) ≡ true → a ≡ true
first_true true b p = refl
first_true false b p = p

second_true : (a b : Bool) → (a && b) ≡ true → b ≡ true
second_true true b p = p
second_true false b p = absurd (let bad : false ≡ true = p in cc)

or_false : (a b : Bool) → (a || b) ≡ false → (a ≡ false) × (b ≡ false)
or_false false b e = (refl, e)
or_false true b e = absurd (let bad : true ≡ false = e in cc)

neither : (a b : Bool) → a ≡ false → b ≡ false → (a || b) ≡ false
neither false b p q = q
neither true b p q = absurd (let bad : true ≡ false = p in cc)

second_or : (a b : Bool) → b ≡ true → (a || b) ≡ true
second_or true b p = refl
second_or false b p = p

if_true : (b c : Bool) → c ≡ true → (if b then true else c) ≡ true
if_true true c p = refl
if_true false c p = p

-- LISTS

pub same_head : {A : Type 0} (x y : A) (xs ys : List A) → x ∷ xs ≡ y ∷ ys → x ≡ y
same_head x y xs ys e = cc

pub same_tail : {A : Type 0} (x y : A) (xs ys : List A) → x ∷ xs ≡ y ∷ ys → xs ≡ ys
same_tail x y xs ys e = cc

pub not_nil : {A : Type 0} (x : A) (xs : List A) → x ∷ xs ≢ []
not_nil x xs e = cc

pub joined_not_nil : (top name : List ℕ) → joined top name ≢ []
joined_not_nil [] name e = not_nil _ _ e
joined_not_nil (b ∷ top) name e = not_nil _ _ e

-- SLASHES

pub has_slash_in : (top name : List ℕ) → has_slash (top ++ 47 ∷ name) ≡ true
has_slash_in [] name = refl
has_slash_in (b ∷ top) name = second_or (b == 47) _ (has_slash_in top name)

no_slash_in : (top name whole : List ℕ) → whole ≡ top ++ 47 ∷ name → has_slash whole ≡ false → ⊥
no_slash_in top name whole e f = not_both (ap has_slash e ∙ has_slash_in top name) f

pub last_part-joined : (top name : List ℕ) → has_slash name ≡ false → last_part (joined top name) ≡ name
last_part-joined [] name f = ap (λ b. if b then last_part name else name) f
last_part-joined (b ∷ top) name f =
    ap (λ t. if t then last_part (top ++ 47 ∷ name) else (if b == 47 then top ++ 47 ∷ name else b ∷ top ++ 47 ∷ name))
    (has_slash_in top name)
    ∙ last_part-joined top name f

no_bad_byte : (name : List ℕ) → list_any (λ b. b == 47 || b == 0) name ≡ false → has_slash name ≡ false
no_bad_byte [] e = refl
no_bad_byte (b ∷ name) e =
    let parts = or_false (b == 47 || b == 0) (list_any (λ b. b == 47 || b == 0) name) e in
    neither (b == 47) (has_slash name) (or_false (b == 47) (b == 0) parts.0).0 (no_bad_byte name parts.1)

-- a name has no slash
pub name_no_slash : (name : List ℕ) → is_name name ≡ true → has_slash name ≡ false
name_no_slash name is =
    no_bad_byte name (or_false (length name == 0)
    _ (not-true (is_bad name) (first_true (not (is_bad name)) _ (first_true _ _ is)))).1

pub joined_same : (p q n m : List ℕ) → joined p n ≡ joined q m → has_slash n ≡ false → has_slash m ≡ false →
    (p ≡ q) × (n ≡ m)
joined_same [] [] n m e f g = (refl, same_tail _ _ _ _ e)
joined_same [] (y ∷ q) n m e f g = absurd (no_slash_in q m n (same_tail _ _ _ _ e) f)
joined_same (x ∷ p) [] n m e f g = absurd (no_slash_in p n m (sym (same_tail _ _ _ _ e)) g)
joined_same (x ∷ p) (y ∷ q) n m e f g =
    let rest = joined_same p q n m (same_tail _ _ _ _ e) f g in
    let head : x ≡ y = same_head _ _ _ _ e in
    (ap (λ z. z ∷ p) head ∙ ap (λ l. y ∷ l) rest.0, rest.1)

-- WHAT LIES UNDER A PATH

-- nothing follows, or a slash
abbrev pub starts : List ℕ → Bool
starts [] = true
starts (b ∷ bs) = bytes_eq (b ∷ []) (47 ∷ [])

abbrev pub Under : List ℕ → List ℕ → Type 0
Under top path = (rest : List ℕ) × (path ≡ top ++ rest) × (starts rest ≡ true)

slash_starts : (b : ℕ) (bs : List ℕ) → b ≡ 47 → starts (b ∷ bs) ≡ true
slash_starts b bs e = (bytes_eq-Decides (b ∷ []) (47 ∷ [])).1 (ap (λ z. z ∷ []) e)

starts_slash : (b : ℕ) (bs : List ℕ) → starts (b ∷ bs) ≡ true → b ≡ 47
starts_slash b bs s = same_head _ _ _ _ ((bytes_eq-Decides (b ∷ []) (47 ∷ [])).0 s)

starts-append : (r s : List ℕ) → starts r ≡ true → starts s ≡ true → starts (r ++ s) ≡ true
starts-append [] s p q = q
starts-append (b ∷ r) s p q = p

past_end : (top : List ℕ) (y : ℕ) (ys : List ℕ) → (length (top ++ y ∷ ys) == length top) ≡ false
past_end top y ys = ne_eqb _ _ (λ e. absurd (let n = length-append top (y ∷ ys) in omega arith))

pub under_test : (top rest : List ℕ) → starts rest ≡ true → is_under top (top ++ rest) ≡ true
under_test top rest s =
    both (bytes_eq (take (length top) (top ++ rest)) top)
    _ ((bytes_eq-Decides _ _).1 (take_at top rest (length top) refl)) (behind rest s)
  where
    behind : (rest : List ℕ) → starts rest ≡ true →
        (if length (top ++ rest) == length top then true else bytes_eq (take 1 (drop (length top) (top ++ rest)))
        (47 ∷ [])) ≡ true
    behind [] s = ap (λ b. if b then true else bytes_eq (take 1 (drop (length top) (top ++ []))) (47 ∷ []))
        (eq-eqb (length (top ++ [])) (length top) (ap length (append-nil top)))
    behind (y ∷ ys) s = if_true (length (top ++ y ∷ ys) == length top) _
        (ap (λ l. bytes_eq (take 1 l) (47 ∷ [])) (drop_at top (y ∷ ys) (length top) refl) ∙ s)

pub under_of : (top path : List ℕ) → is_under top path ≡ true → Under top path
under_of top path is =
    let begins = (bytes_eq-Decides (take (length top) path) top).0 (first_true _ _ is) in
    let whole : path ≡ top ++ drop (length top) path = sym (take-append-drop (length top) path)
    ∙ ap (λ l. l ++ drop (length top) path) begins in (
      drop (length top) path,
      whole,
      behind (drop (length top) path)
          whole (second_true (bytes_eq (take (length top) path) top) _ is),
    )
  where
    behind : (rest : List ℕ) → path ≡ top ++ rest →
        (if length path == length top then true else bytes_eq (take 1 rest) (47 ∷ [])) ≡ true → starts rest ≡ true
    behind [] e t = refl
    behind (y ∷ ys) e t = sym (ap (λ b. if b then true else bytes_eq (take 1 (y ∷ ys)) (47 ∷ []))
        (ap (λ l. length l == length top) e ∙ past_end top y ys)) ∙ t

pub under_is : (top path : List ℕ) → Under top path → is_under top path ≡ true
under_is top path u = subst (λ l. is_under top l ≡ true) (sym u.1) (under_test top u.0 u.2)

pub under_refl : (top : List ℕ) → is_under top top ≡ true
under_refl top = under_is top top ([], sym (append-nil top), refl)

pub under_slash : (top rest : List ℕ) → is_under top (top ++ 47 ∷ rest) ≡ true
under_slash top rest = under_test top (47 ∷ rest) (slash_starts 47 rest refl)

-- it is the path, or a slash follows it
pub under_cases : (top path : List ℕ) → is_under top path ≡ true →
    (path ≡ top) ⊎ ((rest : List ℕ) × (path ≡ top ++ 47 ∷ rest))
under_cases top path is = let u = under_of top path is in by_rest u.0 u.1 u.2
  where
    by_rest : (rest : List ℕ) → path ≡ top ++ rest → starts rest ≡ true →
        (path ≡ top) ⊎ ((rest : List ℕ) × (path ≡ top ++ 47 ∷ rest))
    by_rest [] e s = inl (e ∙ append-nil top)
    by_rest (y ∷ ys) e s = inr (ys, e ∙ ap (λ b. top ++ b ∷ ys) (starts_slash y ys s))

pub under_trans : (a b c : List ℕ) → is_under a b ≡ true → is_under b c ≡ true → is_under a c ≡ true
under_trans a b c p q =
    let u = under_of a b p in
    let v = under_of b c q in
    under_is a c (u.0 ++ v.0, v.1 ∙ ap (λ l. l ++ v.0) u.1 ∙ append_assoc a u.0 v.0, starts-append u.0 v.0 u.2 v.2)

-- where a name's path goes on from another, its directory's path does
pub slash_split : (a ys b n : List ℕ) → a ++ 47 ∷ ys ≡ b ++ 47 ∷ n → has_slash n ≡ false → Under a b
slash_split [] ys [] n e f = ([], refl, refl)
slash_split [] ys (y ∷ b) n e f = (y ∷ b, refl, slash_starts y b (sym (same_head _ _ _ _ e)))
slash_split (x ∷ a) ys [] n e f = absurd (no_slash_in a ys n (sym (same_tail _ _ _ _ e)) f)
slash_split (x ∷ a) ys (y ∷ b) n e f =
    let u = slash_split a ys b n (same_tail _ _ _ _ e) f in
    (u.0, ap (λ z. z ∷ b) (sym (same_head _ _ _ _ e)) ∙ ap (λ l. x ∷ l) u.1, u.2)

-- of two that a path lies under, one lies under the other
pub under_both : (a b r s : List ℕ) → a ++ r ≡ b ++ s → starts r ≡ true → starts s ≡ true → Under a b ⊎ Under b a
under_both [] [] r s e p q = inl ([], refl, refl)
under_both [] (y ∷ b) r s e p q = inl (y ∷ b, refl, subst (λ l. starts l ≡ true) e p)
under_both (x ∷ a) [] r s e p q = inr (x ∷ a, refl, subst (λ l. starts l ≡ true) (sym e) q)
under_both (x ∷ a) (y ∷ b) r s e p q =
    let head : x ≡ y = same_head _ _ _ _ e in
    elim (under_both a b r s (same_tail _ _ _ _ e) p q) [
      | inl u ↦ inl (u.0, ap (λ z. z ∷ b) (sym head) ∙ ap (λ l. x ∷ l) u.1, u.2)
      | inr u ↦ inr (u.0, ap (λ z. z ∷ a) head ∙ ap (λ l. y ∷ l) u.1, u.2)
    ]

-- MOVED PATHS

module _ (old new : List ℕ) where
  pub moved_under : (rest : List ℕ) → starts rest ≡ true → moved_path old new (old ++ rest) ≡ new ++ rest
  moved_under rest s =
      ap (λ b. if b then new ++ drop (length old) (old ++ rest) else old ++ rest) (under_test old rest s)
      ∙ ap (λ l. new ++ l) (drop_at old rest (length old) refl)

  pub moved_other : (path : List ℕ) → is_under old path ≡ false → moved_path old new path ≡ path
  moved_other path f = ap (λ b. if b then new ++ drop (length old) path else path) f

  pub moved_from : (path : List ℕ) (u : Under old path) → moved_path old new path ≡ new ++ u.0
  moved_from path u = ap (moved_path old new) u.1 ∙ moved_under u.0 u.2

  pub moved_self : moved_path old new old ≡ new
  moved_self = moved_from old ([], sym (append-nil old), refl) ∙ append-nil new

  pub moved_is_under : (path : List ℕ) → is_under old path ≡ true → is_under new (moved_path old new path) ≡ true
  moved_is_under path t = let u = under_of old path t in under_is new (moved_path old new path)
      (u.0, moved_from path u, u.2)

  -- it moves no two to one
  pub moved_apart : (p q : List ℕ) → is_under old p ≡ true → is_under old q ≡ true →
      moved_path old new p ≡ moved_path old new q → p ≡ q
  moved_apart p q s t e =
      let u = under_of old p s in
      let v = under_of old q t in
      u.1 ∙ ap (λ l. old ++ l) (append_cancel_left new u.0 v.0 (sym (moved_from p u) ∙ e ∙ moved_from q v)) ∙ sym v.1

  -- a name's path moves as its directory's, but for the moved one
  pub moved_joined : (top name : List ℕ) → has_slash name ≡ false → joined top name ≢ old →
      moved_path old new (joined top name) ≡ joined (moved_path old new top) name
  moved_joined top name f ne = elim (true_or_false (is_under old top)) [
    | inl t ↦
        let u = under_of old top t in
        let longer : joined top name ≡ old ++ (u.0 ++ 47 ∷ name) = ap (λ l. l ++ 47 ∷ name) u.1
        ∙ append_assoc old u.0 (47 ∷ name) in
        moved_from (joined top name) (
          u.0 ++ 47 ∷ name,
          longer,
          starts-append u.0 (47 ∷ name)
              u.2 (slash_starts 47 name refl),
        )
        ∙ sym (append_assoc new u.0 (47 ∷ name)) ∙ ap (λ l. l ++ 47 ∷ name) (sym (moved_from top u))
    | inr g ↦ moved_other (joined top name) (outside g) ∙ ap (λ l. joined l name) (sym (moved_other top g))
  ]
    where
      outside : is_under old top ≡ false → is_under old (joined top name) ≡ false
      outside g = elim (true_or_false (is_under old (joined top name))) [
        | inr h ↦ h
        | inl t ↦ absurd (elim (under_cases old (joined top name) t) [
          | inl e ↦ ne e
          | inr r ↦ not_both (under_is old top (slash_split old r.0 top name (sym r.1) f)) g
        ])
      ]
