-- The handles that are shown after so many starts.
use Rattle.std.proofs.Common.{inl, inr, ◌≡◌, ◌≢◌, ℕ, ◌<◌, ◌^◌, Bool, true, false, List, ◌++◌, length, take, drop, replicate, if◌then◌else◌, bytes_eq, refl, sym, ap, ◌∙◌, take_at, drop_at, take-append-drop}
use Rattle.std.specs.Int.{w64, to_be_bytes, from_be_bytes}
use Rattle.std.proofs.lemmas.Nat.{from_be_bytes-to_be_bytes_8}
use Rattle.std.proofs.lemmas.Slice.Eq.{bytes_eq-Decides}
use Rattle.path_server.specs.Shown.{exchanged, shown_at}
use Rattle.server_trait.proofs.TreeLaws.{bytes_or_not}

is_same : (a b : List ℕ) → a ≡ b → bytes_eq a b ≡ true
is_same a b e = (bytes_eq-Decides a b).1 e

not_true : (b : Bool) → b ≢ true → b ≡ false
not_true true h = absurd (h refl)
not_true false h = refl

is_other : (a b : List ℕ) → a ≢ b → bytes_eq a b ≡ false
is_other a b ne = not_true _ (λ t. ne ((bytes_eq-Decides a b).0 t))

module _ (a b : List ℕ) (size_a : length a ≡ 8) (size_b : length b ≡ 8) where
  abbrev by_tests : Bool → Bool → List ℕ → List ℕ
  by_tests s t h = if s then b ++ drop 8 h else (if t then a ++ drop 8 h else h)

  from_first : (h r : List ℕ) → h ≡ a ++ r → exchanged a b h ≡ b ++ r
  from_first h r e =
      ap (λ s. by_tests s (bytes_eq (take 8 h) b) h) (is_same (take 8 h) a (ap (take 8) e ∙ take_at a r 8 size_a))
      ∙ ap (λ x. b ++ x) (ap (drop 8) e ∙ drop_at a r 8 size_a)

  from_second : (h r : List ℕ) → h ≡ b ++ r → exchanged a b h ≡ a ++ r
  from_second h r e = elim (bytes_or_not b a) as (λ _. exchanged a b h ≡ a ++ r) [
    | inl same ↦ from_first h r (e ∙ ap (λ x. x ++ r) same) ∙ ap (λ x. x ++ r) same
    | inr ne ↦
        let start : take 8 h ≡ b = ap (take 8) e ∙ take_at b r 8 size_b in
        ap (λ s. by_tests s (bytes_eq (take 8 h) b) h) (is_other (take 8 h) a (λ s. ne (sym start ∙ s)))
        ∙ ap (λ t. by_tests false t h) (is_same (take 8 h) b start)
        ∙ ap (λ x. a ++ x) (ap (drop 8) e ∙ drop_at b r 8 size_b)
  ]

  neither : (h : List ℕ) → take 8 h ≢ a → take 8 h ≢ b → exchanged a b h ≡ h
  neither h not_a not_b = ap (λ s. by_tests s (bytes_eq (take 8 h) b) h) (is_other (take 8 h) a not_a)
      ∙ ap (λ t. by_tests false t h) (is_other (take 8 h) b not_b)

  whole : (h x : List ℕ) → take 8 h ≡ x → h ≡ x ++ drop 8 h
  whole h x e = sym (take-append-drop 8 h) ∙ ap (λ y. y ++ drop 8 h) e

  exchanged_twice : (h : List ℕ) → exchanged a b (exchanged a b h) ≡ h
  exchanged_twice h = elim (bytes_or_not (take 8 h) a) as (λ _. exchanged a b (exchanged a b h) ≡ h) [
    | inl e ↦ from_second (exchanged a b h) (drop 8 h) (from_first h (drop 8 h) (whole h a e)) ∙ sym (whole h a e)
    | inr not_a ↦ elim (bytes_or_not (take 8 h) b) as (λ _. exchanged a b (exchanged a b h) ≡ h) [
      | inl e ↦ from_first (exchanged a b h) (drop 8 h) (from_second h (drop 8 h) (whole h b e)) ∙ sym (whole h b e)
      | inr not_b ↦ ap (exchanged a b) (neither h not_a not_b) ∙ neither h not_a not_b
    ]
  ]

abbrev inside : List ℕ
inside = replicate 8 0

length-number : (starts : ℕ) → length (to_be_bytes w64 starts) ≡ 8
length-number starts = refl

-- what is shown inside of what is shown is the same
pub shown_twice : (starts : ℕ) (h : List ℕ) → shown_at starts (shown_at starts h) ≡ h
unfolding shown_at
shown_twice starts h = exchanged_twice inside (to_be_bytes w64 starts) refl (length-number starts) h

-- a handle that is shown begins with the number of starts
pub shown_inside : (starts : ℕ) (h r : List ℕ) → h ≡ inside ++ r → shown_at starts h ≡ to_be_bytes w64 starts ++ r
unfolding shown_at
shown_inside starts h r e = from_first inside (to_be_bytes w64 starts) refl (length-number starts) h r e

same_number : (a b : ℕ) → a < 2 ^ 64 → b < 2 ^ 64 → to_be_bytes w64 a ≡ to_be_bytes w64 b → a ≡ b
same_number a b fits fits' e = sym (from_be_bytes-to_be_bytes_8 a fits) ∙ ap (from_be_bytes w64) e
    ∙ from_be_bytes-to_be_bytes_8 b fits'

-- A handle that was shown after other starts is none that begins with zeros inside.
pub shown_before : (before starts : ℕ) → before < 2 ^ 64 → starts < 2 ^ 64 → before ≢ starts →
    (r : List ℕ) → take 8 (shown_at starts (to_be_bytes w64 before ++ r)) ≢ inside
unfolding shown_at
shown_before before starts fits fits' apart r is =
    let old : List ℕ = to_be_bytes w64 before in
    let new : List ℕ = to_be_bytes w64 starts in
    let h : List ℕ = old ++ r in
    let start : take 8 h ≡ old = take_at old r 8 (length-number before) in
    elim (bytes_or_not old inside) [
      | inl zeros ↦
          let out : exchanged inside new h ≡ new ++ r = from_first inside new refl (length-number starts) h r
          (ap (λ x. x ++ r) zeros) in
          let begins : new ≡ inside = sym (take_at new r 8 (length-number starts)) ∙ sym (ap (take 8) out) ∙ is in
          apart (same_number before starts fits fits' (zeros ∙ sym begins))
      | inr ne ↦
          let out : exchanged inside new h ≡ h = neither inside new refl (length-number starts) h
          (λ e. ne (sym start ∙ e))
          (λ e. apart (same_number before starts fits fits' (sym start ∙ e))) in
          ne (sym start ∙ sym (ap (take 8) out) ∙ is)
    ]
