-- What is found among live records, and where.
use Rattle.std.proofs.Common.{◌≡◌, ◌∙◌, ◌++◌, ◌<◌, ℕ, List, [], ◌∷◌, true, false, Option, Some, None, cond, get_or, length, refl, sym, ap, subst, arith, bytes_eq}
use Rattle.std.proofs.lemmas.List.{append_assoc, append-nil, get_or_push, get_or_append_left, length_push}
use Rattle.std.specs.Cmp.Lexicographic.{nat_list_eq_equiv}
use Rattle.std.specs.Prelude.{option_map}
use Rattle.log_segments.specs.Record.{is_gone, key_of}
use Rattle.log_segments.specs.Newest.{standing, live, without, after, find, place_of}
use Rattle.log_segments.proofs.LiveLaws.{Records, live-append, place-append}

find-append : (k : List ℕ) (rs ss : Records) → find k rs ≡ None → find k (rs ++ ss) ≡ find k ss
find-append k [] ss h = refl
find-append k (r ∷ rs) ss h =
    elim (bytes_eq (key_of r) k) as (λ b. cond b (Some r) (find k rs) ≡ None
    → cond b (Some r) (find k (rs ++ ss)) ≡ find k ss)
    [ true ↦ (λ e. cc) | false ↦ (λ e. find-append k rs ss e) ] h

find-append-none : (k : List ℕ) (rs ss : Records) → find k ss ≡ None → find k (rs ++ ss) ≡ find k rs
find-append-none k [] ss h = h
find-append-none k (r ∷ rs) ss h = ap (λ o. cond (bytes_eq (key_of r) k) (Some r) o) (find-append-none k rs ss h)

find-standing : (k r : List ℕ) → find k (standing r)
    ≡ cond (bytes_eq (key_of r) k) (cond (is_gone r) None (Some r)) None
find-standing k r = elim (is_gone r) as (λ g. find k (cond g [] (r ∷ []))
    ≡ cond (bytes_eq (key_of r) k) (cond g None (Some r)) None) [
      | true ↦ elim (bytes_eq (key_of r) k) as (λ b. ◌≡◌ {A = Option (List ℕ)} None
          (cond b None None)) [ true ↦ refl | false ↦ refl ]
      | false ↦ refl
    ]

find-without : (k key : List ℕ) (ls : Records) → bytes_eq key k ≡ true → find k (without key ls) ≡ None
find-without k key [] same = refl
find-without k key (s ∷ ls) same =
    let alike : bytes_eq (key_of s) key ≡ bytes_eq (key_of s) k = nat_list_eq_equiv.symm (key_of s) key
    ∙ (nat_list_eq_equiv.congr key k (key_of s) same ∙ nat_list_eq_equiv.symm k (key_of s)) in
    rw alike (elim (bytes_eq (key_of s) k) as (λ b. bytes_eq (key_of s) k ≡ b
    → find k (cond b (without key ls) (s ∷ without key ls)) ≡ None)
    [ true ↦ (λ e. find-without k key ls same) | false ↦ (λ e. rw e (find-without k key ls same)) ] refl)

find-without-other : (k key : List ℕ) (ls : Records) → bytes_eq key k ≡ false → find k (without key ls) ≡ find k ls
find-without-other k key [] other = refl
find-without-other k key (s ∷ ls) other =
    elim (bytes_eq (key_of s) key) as (λ b. bytes_eq (key_of s) key ≡ b
    → find k (cond b (without key ls) (s ∷ without key ls)) ≡ cond (bytes_eq (key_of s) k) (Some s) (find k ls)) [
      | true ↦ (λ e. rw (nat_list_eq_equiv.congr (key_of s) key k e, other) (find-without-other k key ls other))
      | false ↦ (λ e. ap (λ o. cond (bytes_eq (key_of s) k) (Some s) o) (find-without-other k key ls other))
    ] refl

-- what is found once one more record stands behind the live ones
pub find-after : (ls : Records) (r k : List ℕ)
    → find k (after ls r) ≡ cond (bytes_eq (key_of r) k) (cond (is_gone r) None (Some r)) (find k ls)
find-after ls r k =
    elim (bytes_eq (key_of r) k) as (λ b. bytes_eq (key_of r) k ≡ b
    → find k (without (key_of r) ls ++ standing r) ≡ cond b (cond (is_gone r) None (Some r)) (find k ls)) [
      | true ↦ (λ e. find-append k (without (key_of r) ls) (standing r) (find-without k (key_of r) ls e)
          ∙ (find-standing k r ∙ rw e refl))
      | false ↦ (λ e. find-append-none k (without (key_of r) ls) (standing r) (find-standing k r ∙ rw e refl)
          ∙ find-without-other k (key_of r) ls e)
    ] refl

-- the places tell what is found
pub record Tells (rs : Records) (k : List ℕ) : Type 0 where
  pub found : find k (live rs) ≡ option_map (λ p. get_or rs p []) (place_of rs k)
  pub below : (p : ℕ) → place_of rs k ≡ Some p → p < length rs

tells-more : (rs : Records) (r k : List ℕ) → Tells rs k → Tells (rs ++ r ∷ []) k
tells-more rs r k h =
    let place = place-append rs r k in
    let there : find k (live (rs ++ r ∷ [])) ≡ cond (bytes_eq (key_of r) k) (cond (is_gone r) None (Some r)) (find k
    (live rs)) = ap (find k) (live-append rs r) ∙ find-after (live rs) r k in
    let old : (o : Option ℕ) → place_of rs k ≡ o
    → option_map (λ p. get_or rs p []) o ≡ option_map (λ p. get_or (rs ++ r ∷ []) p []) o =
    λ o e. elim o as (λ w. place_of rs k ≡ w → option_map (λ p. get_or rs p []) w
    ≡ option_map (λ p. get_or (rs ++ r ∷ []) p []) w)
    [ None ↦ (λ q. refl) | Some p ↦ (λ q. ap Some (sym (get_or_append_left rs (r ∷ []) [] p (h.below p q)))) ] e in
    record {
      found = there ∙ (elim (bytes_eq (key_of r) k) as (λ b. cond b (cond (is_gone r) None (Some r)) (find k
          (live rs)) ≡ option_map (λ p. get_or (rs ++ r ∷ []) p []) (cond b (cond (is_gone r) None (Some
          (length rs))) (place_of rs k))) [
            | true ↦ elim (is_gone r) as (λ g. cond g None (Some r)
                ≡ option_map (λ p. get_or (rs ++ r ∷ []) p []) (cond g None (Some
                (length rs)))) [ true ↦ refl | false ↦ ap Some (sym (get_or_push rs r [] (length rs) refl)) ]
            | false ↦ h.found ∙ old (place_of rs k) refl
          ] ∙ ap (option_map (λ p. get_or (rs ++ r ∷ []) p [])) (sym place));
      below = λ p q. elim (bytes_eq (key_of r) k) as (λ b. cond b (cond (is_gone r) None (Some (length rs)))
          (place_of rs k) ≡ Some p → p < length (rs ++ r ∷ [])) [
            | true ↦ elim (is_gone r) as (λ g. cond g None (Some (length rs)) ≡ Some p
                → p < length (rs ++ r ∷ [])) [
                  | true ↦ (λ w. cc)
                  | false ↦ (λ w. let e : length rs
                      ≡ p = cc in omega (arith, length_push rs r))
                ]
            | false ↦ (λ w. let l = h.below p w in omega (arith, length_push rs r))
          ] (sym place ∙ q);
    }

tells-on : (rs ss : Records) (k : List ℕ) → Tells rs k → Tells (rs ++ ss) k
tells-on rs [] k h = subst (λ xs. Tells xs k) (sym (append-nil rs)) h
tells-on rs (s ∷ ss) k h = subst (λ xs. Tells xs k) (append_assoc rs (s ∷ []) ss) (tells-on (rs ++ s ∷ []) ss k
    (tells-more rs s k h))

pub places_tell : (rs : Records) (k : List ℕ) → Tells rs k
places_tell rs k = tells-on [] rs k (record { found = refl; below = λ p q. cc })
