-- Of each key the newest record: what a further record changes, and that dropping replaced records changes nothing.
use Rattle.std.proofs.Common.{◌≡◌, ◌∙◌, ◌+◌, ◌++◌, ◌<◌, ℕ, List, [], ◌∷◌, Bool, true, false, Option, Some, None, cond, length, refl, sym, ap, arith, bytes_eq}
use Rattle.std.proofs.lemmas.List.{append_assoc, append-nil}
use Rattle.std.specs.Cmp.Lexicographic.{nat_list_eq_equiv}
use Rattle.log_segments.specs.Record.{is_gone, key_of}
use Rattle.log_segments.specs.Newest.{has_key, standing, live, without, after, place_from, place_of}

abbrev pub Records : Type 0
Records = List (List ℕ)

neither : (b c : Bool) → cond b true c ≡ false → (b ≡ false) × (c ≡ false)
neither true c h = cc
neither false c h = (refl, h)

-- a key of the longer list is one of the list or of the record
has_key-append : (k : List ℕ) (rs ss : Records) → has_key k (rs ++ ss) ≡ cond (has_key k rs) true (has_key k ss)
has_key-append k [] ss = refl
has_key-append k (r ∷ rs) ss = elim (bytes_eq (key_of r) k) as (λ b. cond b true (has_key k (rs ++ ss))
    ≡ cond (cond b true (has_key k rs)) true (has_key k ss)) [ true ↦ refl | false ↦ has_key-append k rs ss ]

has_key-standing : (k r : List ℕ) → bytes_eq (key_of r) k ≡ false → has_key k (standing r) ≡ false
has_key-standing k r h = elim (is_gone r) as (λ g. has_key k (cond g [] (r ∷ []))
    ≡ false) [ true ↦ refl | false ↦ rw h refl ]

-- a key that no record has is none of the live ones
has_key-live : (k : List ℕ) (rs : Records) → has_key k rs ≡ false → has_key k (live rs) ≡ false
has_key-live k [] none = refl
has_key-live k (r ∷ rs) none =
    let h = neither (bytes_eq (key_of r) k) (has_key k rs) none in
    let rest = has_key-live k rs h.1 in
    elim (has_key (key_of r) rs) as (λ b. has_key k (cond b (live rs) (standing r ++ live rs)) ≡ false)
    [ true ↦ rest | false ↦ rw (has_key-append k (standing r) (live rs), has_key-standing k r h.0, rest) refl ]

-- a record in front whose key no later one has
live-standing : (r : List ℕ) (ls : Records) → has_key (key_of r) ls ≡ false
    → live (standing r ++ ls) ≡ standing r ++ live ls
live-standing r ls none =
    elim (is_gone r) as (λ g. is_gone r ≡ g → live (cond g [] (r ∷ []) ++ ls) ≡ cond g [] (r ∷ []) ++ live ls)
    [ true ↦ (λ e. refl) | false ↦ (λ e. rw (none, e) refl) ] refl

-- live records are live once more
pub live-live : (rs : Records) → live (live rs) ≡ live rs
live-live [] = refl
live-live (r ∷ rs) =
    elim (has_key (key_of r) rs) as (λ b. has_key (key_of r) rs ≡ b
    → live (cond b (live rs) (standing r ++ live rs)) ≡ cond b (live rs) (standing r ++ live rs)) [
      | true ↦ (λ e. live-live rs)
      | false ↦ (λ e. live-standing r (live rs) (has_key-live (key_of r) rs e)
          ∙ ap (λ xs. standing r ++ xs) (live-live rs))
    ] refl

without-append : (k : List ℕ) (rs ss : Records) → without k (rs ++ ss) ≡ without k rs ++ without k ss
without-append k [] ss = refl
without-append k (r ∷ rs) ss = elim (bytes_eq (key_of r) k) as (λ b. cond b (without k (rs ++ ss)) (r ∷ without k
    (rs ++ ss)) ≡ cond b (without k rs) (r ∷ without k rs) ++ without k ss)
    [ true ↦ without-append k rs ss | false ↦ ap (λ xs. r ∷ xs) (without-append k rs ss) ]

without-standing : (k r : List ℕ) → without k (standing r) ≡ cond (bytes_eq (key_of r) k) [] (standing r)
without-standing k r = elim (is_gone r) as (λ g. without k (cond g [] (r ∷ []))
    ≡ cond (bytes_eq (key_of r) k) [] (cond g [] (r ∷ []))) [
      | true ↦ elim (bytes_eq (key_of r) k) as (λ b. ◌≡◌ {A = Records} []
          (cond b [] [])) [ true ↦ refl | false ↦ refl ]
      | false ↦ refl
    ]

-- one record more
pub live-append : (rs : Records) (r : List ℕ) → live (rs ++ r ∷ []) ≡ after (live rs) r
live-append [] r = append-nil (standing r)
live-append (s ∷ rs) r =
    let L = live (rs ++ r ∷ []) in
    let k = key_of r in
    let more : has_key (key_of s) (rs ++ r ∷ []) ≡ cond (has_key (key_of s) rs) true (bytes_eq k (key_of s)) =
    has_key-append (key_of s) rs (r ∷ []) ∙ ap (λ b. cond (has_key (key_of s) rs) true b) (elim (bytes_eq k
    (key_of s)) as (λ b. cond b true false ≡ b) [ true ↦ refl | false ↦ refl ]) in
    rw more (elim (has_key (key_of s) rs) as (λ b. cond (cond b true (bytes_eq k (key_of s))) L (standing s ++ L)
    ≡ without k (cond b (live rs) (standing s ++ live rs)) ++ standing r) [
      | true ↦ live-append rs r
      | false ↦ rw (without-append k (standing s) (live rs), without-standing k s, nat_list_eq_equiv.symm (key_of s) k)
          (elim (bytes_eq k (key_of s)) as (λ b. cond b L (standing s ++ L)
          ≡ (cond b [] (standing s) ++ without k (live rs)) ++ standing r) [
            | true ↦ live-append rs r
            | false ↦ ap (λ xs. standing s ++ xs) (live-append rs r)
                ∙ sym (append_assoc (standing s) (without k (live rs)) (standing r))
          ])
    ])

-- where the newest record of each key stands, in two parts
place-split : (at : ℕ) (place : Option ℕ) (xs ys : Records) (k : List ℕ) (n : ℕ) → at + length xs ≡ n
    → place_from at place (xs ++ ys) k ≡ place_from n (place_from at place xs k) ys k
place-split at place [] ys k n is = let e : at ≡ n = omega arith in ap (λ m. place_from m place ys k) e
place-split at place (x ∷ xs) ys k n is = place-split (at + 1) (cond (bytes_eq (key_of x) k) (cond (is_gone x) None
    (Some at)) place) xs ys k n (omega arith)

-- where the newest record of each key stands, once one more record stands behind them
pub place-append : (rs : Records) (r : List ℕ) (k : List ℕ)
    → place_of (rs ++ r ∷ []) k ≡ cond (bytes_eq (key_of r) k) (cond (is_gone r) None (Some (length rs)))
    (place_of rs k)
place-append rs r k = place-split 0 None rs (r ∷ []) k (length rs) (omega arith)

-- no record of the list has the key
place-none : (at : ℕ) (place : Option ℕ) (rs : Records) (k : List ℕ) → has_key k rs ≡ false
    → place_from at place rs k ≡ place
place-none at place [] k none = refl
place-none at place (r ∷ rs) k none =
    let h = neither (bytes_eq (key_of r) k) (has_key k rs) none in
    rw h.0 (place-none (at + 1) place rs k h.1)

-- one has it: then nothing before the list counts
place-some : (at : ℕ) (place : Option ℕ) (rs : Records) (k : List ℕ) (p : ℕ) → p < at → has_key k rs ≡ true
    → place_from at place rs k ≡ Some p → ⊥
place-some at place [] k p below some is = cc
place-some at place (r ∷ rs) k p below some is =
    elim (has_key k rs) as (λ b. has_key k rs ≡ b → ⊥) [
      | true ↦ (λ e. place-some (at + 1) (cond (bytes_eq (key_of r) k) (cond (is_gone r) None
          (Some at)) place) rs k p (omega arith) e is)
      | false ↦ (λ e.
          let here : place_from (at + 1) (cond (bytes_eq (key_of r) k) (cond (is_gone r) None
          (Some at)) place) rs k ≡ cond (bytes_eq (key_of r) k) (cond (is_gone r) None
          (Some at)) place = place-none _ _ rs k e in
          elim (bytes_eq (key_of r) k) as (λ b. cond b true (has_key k rs) ≡ true
          → cond b (cond (is_gone r) None (Some at)) place ≡ Some p → ⊥) [
            | true ↦ (λ t q. elim (is_gone r) as (λ g. cond g None (Some at) ≡ Some p
                → ⊥) [ true ↦ (λ w. cc) | false ↦ (λ w. let same : at ≡ p = cc in omega arith) ] q)
            | false ↦ (λ t q. cc)
          ] some (sym here ∙ is))
    ] refl

-- what the newest of the key of r is, at r
place-at : (xs rest : Records) (r : List ℕ) (p : ℕ) → length xs ≡ p
    → place_of (xs ++ r ∷ rest) (key_of r) ≡ place_from (p + 1) (cond (is_gone r) None (Some p)) rest (key_of r)
place-at xs rest r p is = rw (place-split 0 None xs (r ∷ rest) (key_of r) p (omega arith)) (rw
    (nat_list_eq_equiv.refl (key_of r)) refl)

-- the newest record of its key, which stands, is live
pub live-at : (xs rest : Records) (r : List ℕ) (p : ℕ) → length xs ≡ p
    → place_of (xs ++ r ∷ rest) (key_of r) ≡ Some p → live (r ∷ rest) ≡ r ∷ live rest
live-at xs rest r p is newest =
    let at = sym (place-at xs rest r p is) ∙ newest in
    elim (has_key (key_of r) rest) as (λ b. has_key (key_of r) rest ≡ b
    → cond b (live rest) (standing r ++ live rest) ≡ r ∷ live rest) [
      | true ↦ (λ e. absurd (place-some (p + 1) (cond (is_gone r) None (Some p)) rest (key_of r) p (omega arith) e at))
      | false ↦ (λ e. elim (is_gone r) as (λ g. cond g None (Some p) ≡ Some p
          → cond g [] (r ∷ []) ++ live rest ≡ r ∷ live rest)
          [ true ↦ (λ w. cc) | false ↦ (λ w. refl) ] (sym (place-none (p + 1) (cond (is_gone r) None (Some p)) rest
          (key_of r) e) ∙ at))
    ] refl

-- any other is not
pub live-not_at : (xs rest : Records) (r : List ℕ) (p : ℕ) → length xs ≡ p
    → (place_of (xs ++ r ∷ rest) (key_of r) ≡ Some p → ⊥) → live (r ∷ rest) ≡ live rest
live-not_at xs rest r p is other =
    elim (has_key (key_of r) rest) as (λ b. has_key (key_of r) rest ≡ b
    → cond b (live rest) (standing r ++ live rest) ≡ live rest) [
      | true ↦ (λ e. refl)
      | false ↦ (λ e. elim (is_gone r) as (λ g. (cond g None (Some p) ≡ Some p → ⊥)
          → cond g [] (r ∷ []) ++ live rest ≡ live rest)
          [ true ↦ (λ w. refl) | false ↦ (λ w. absurd (w refl)) ]
          (λ q. other (place-at xs rest r p is ∙ (place-none (p + 1) (cond (is_gone r) None (Some p)) rest
          (key_of r) e ∙ q))))
    ] refl

-- the newest record of its key, which stands, is not gone
pub stands-at : (xs rest : Records) (r : List ℕ) (p : ℕ) → length xs ≡ p
    → place_of (xs ++ r ∷ rest) (key_of r) ≡ Some p → is_gone r ≡ false
stands-at xs rest r p is newest =
    let at = sym (place-at xs rest r p is) ∙ newest in
    elim (has_key (key_of r) rest) as (λ b. has_key (key_of r) rest ≡ b → is_gone r ≡ false) [
      | true ↦ (λ e. absurd (place-some (p + 1) (cond (is_gone r) None (Some p)) rest (key_of r) p (omega arith) e at))
      | false ↦ (λ e. elim (is_gone r) as (λ g. cond g None (Some p) ≡ Some p → g ≡ false)
          [ true ↦ (λ w. cc) | false ↦ (λ w. refl) ] (sym (place-none (p + 1) (cond (is_gone r) None (Some p)) rest
          (key_of r) e) ∙ at))
    ] refl
