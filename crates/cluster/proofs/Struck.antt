-- How often servers failed, by the `down` lines that tell of it; and what is known of servers whatever happened.
use Rattle.std.proofs.Common.{◌≡◌, ◌≢◌, ℕ, zero, suc, ◌+◌, ◌<◌, ◌≤◌, Bool, true, false, List, [], ◌∷◌, ◌++◌, length, get_or, slice_get, Some, Result, Ok, Err, inl, inr, refl, sym, ◌∙◌, ap, subst, arith}
use Rattle.std.specs.Prelude.{◌==◌, if◌then◌else◌}
use Rattle.std.specs.List.{flat_map}
use Rattle.std.proofs.lemmas.Bool.Decides.{nat_tests}
use Rattle.std.proofs.lemmas.List.{length-append, get_or_append_left}
use Rattle.std.proofs.Math.Seq.{get_or-append_seam}
use Rattle.std.proofs.lemmas.Option.{slice_get_within, slice_get-get_or}
use Rattle.nfs2_types.specs.Counts.{Rose}
use Rattle.nfs2_types.specs.declared.Limits.{Limits}
use Rattle.server_trait.specs.Tree.{Server}
use Rattle.server_trait.specs.declared.ServerLimits.{ServerLimits}
use Rattle.server_trait.specs.declared.WrapErr.{WrapErr}
use Rattle.server_trait.specs.declared.WrapErr.TheVariants as errors
use Rattle.server_trait.proofs.TreeLaws.{one_or_not, some_same}
use Rattle.conf_map.specs.Stands.{HasRoom}
use Rattle.conf_map.specs.Notice.{Counted}
use Rattle.log_format.specs.declared.Line.{Line}
use Rattle.log_format.specs.declared.Line.TheVariants as lines
use Rattle.cluster_model.specs.Tree.{below}
use Rattle.cluster_model.specs.Run.{failed_of, strikes_in}
use Rattle.cluster_model.specs.Struck.{IsLater}
use Rattle.seats.specs.Positions.{ChangesAt, WatchedAt, AreLater}
use Rattle.cluster.specs.OverBench.{HaveRoom}
use Rattle.cluster.specs.Turned.{AreStruckBy}
use Rattle.cluster.proofs.ListFacts.{flat_map-append}

pub strikes_in-append : (s : ℕ) (bench rs qs : List ℕ) →
    strikes_in s bench (rs ++ qs) ≡ strikes_in s bench rs + strikes_in s bench qs
strikes_in-append s bench [] qs = omega arith
strikes_in-append s bench (r ∷ rs) qs =
    let rest : strikes_in s bench (rs ++ qs) ≡ strikes_in s bench rs + strikes_in s bench qs =
    strikes_in-append s bench rs qs in
    omega arith

pub length-below : (n : ℕ) → length (below n) ≡ n
length-below zero = refl
length-below (suc n) =
    let e : length (below n ++ n ∷ []) ≡ length (below n) + 1 = length-append (below n) (n ∷ []) in
    let rest : length (below n) ≡ n = length-below n in
    omega arith

-- each of the numbers below n stands at its own place
pub below_at : (n r : ℕ) → r < n → get_or (below n) r 0 ≡ r
below_at zero r within = absurd (omega arith)
below_at (suc n) r within = elim (one_or_not r n) as (λ _. get_or (below n ++ n ∷ []) r 0 ≡ r) [
  | inl last ↦
      let seam : get_or (below n ++ n ∷ []) (length (below n)) 0 ≡ n = get_or-append_seam (below n) n [] 0 in
      ap (λ k. get_or (below n ++ n ∷ []) k 0) (last ∙ sym (length-below n)) ∙ seam ∙ sym last
  | inr ne ↦
      let inside : r < length (below n) = (let e = length-below n in omega arith) in
      get_or_append_left (below n) (n ∷ []) 0 r inside ∙ below_at n r (omega arith)
]

-- what stands at a place of the numbers below n is the place
pub below_is : (n i s : ℕ) → slice_get (below n) i ≡ Some s → i ≡ s
below_is n i s e =
    let within : i < length (below n) = slice_get_within (below n) i s e in
    let at : slice_get (below n) i ≡ Some (get_or (below n) i 0) = slice_get-get_or (below n) i 0 within in
    sym (below_at n i (let l = length-below n in omega arith)) ∙ some_same at e

module _ (n s r : ℕ) (within : r < n) where
  pub strikes_here : r ≡ s → strikes_in s (below n) (r ∷ []) ≡ 1
  strikes_here e =
      let t : (get_or (below n) r 0 == s) ≡ true = (let a = below_at n r within in grind (arith, nat_tests)) in
      ap (λ (b : Bool). (if b then 1 else 0) + 0) t ∙ omega arith

  pub strikes_not : r ≢ s → strikes_in s (below n) (r ∷ []) ≡ 0
  strikes_not ne =
      let t : (get_or (below n) r 0 == s) ≡ false = (let a = below_at n r within in grind (arith, nat_tests)) in
      ap (λ (b : Bool). (if b then 1 else 0) + 0) t ∙ omega arith

module _ {X : Type 0} (state : X → Server) where
  abbrev Later : ℕ → X → X → Type 0
  Later = IsLater X ServerLimits (λ z. (state z).faults) (λ z. (state z).limits)

  same_later : (n : ℕ) (x y : X) → n ≡ 0 → x ≡ y → Later n x y
  same_later n x y none e = record {
    same_limits = ap (λ z. (state z).limits) (sym e);
    rose = (let f : (state x).faults ≡ (state y).faults = ap (λ z. (state z).faults) e in omega arith);
    quiet = λ _. ap (λ z. (state z).faults) (sym e);
  }

  later_both : (a b : ℕ) (x y z : X) → Later a x y → Later b y z → Later (a + b) x z
  later_both a b x y z h g = record {
    same_limits = g.same_limits ∙ h.same_limits;
    rose = omega (arith, h.rose, g.rose);
    quiet = λ e. g.quiet (omega arith) ∙ h.quiet (omega arith);
  }

  -- nothing happened
  pub struck_none : (ls : List Line) (servers : List X) → flat_map failed_of ls ≡ [] → AreStruckBy state ls servers servers
  struck_none ls servers none s x y ex ey =
      same_later (strikes_in s (below (length servers)) (flat_map failed_of ls)) x y
      (ap (strikes_in s (below (length servers))) none) (some_same ex ey)

  -- one position may have changed
  module _ (servers servers' : List X) (r : ℕ) (within : r < length servers) (change : ChangesAt r servers servers') where
    module _ {T : Type 0} (result : Result T WrapErr)
        (h : WatchedAt state (slice_get servers r) (slice_get servers' r) result) where
      -- by what is known of the count of that position
      at_position : (n : ℕ → ℕ) → Later (n r) h.before h.after → ((s : ℕ) → s ≢ r → n s ≡ 0) → (s : ℕ) (x y : X) →
          slice_get servers s ≡ Some x → slice_get servers' s ≡ Some y → Later (n s) x y
      at_position n here none s x y ex ey = elim (one_or_not s r) as (λ _. Later (n s) x y) [
        | inl e ↦
            let x_is : h.before ≡ x = some_same h.is_before (ap (slice_get servers) (sym e) ∙ ex) in
            let y_is : h.after ≡ y = some_same h.is_after (ap (slice_get servers') (sym e) ∙ ey) in
            subst (λ k. Later (n k) x y) (sym e)
            (subst (λ z. Later (n r) x z) y_is (subst (λ z. Later (n r) z h.after) x_is here))
        | inr ne ↦ same_later (n s) x y (none s ne) (some_same ex (sym (change.others s ne) ∙ ey))
      ]

      pub struck_ok : (ls : List Line) → flat_map failed_of ls ≡ [] →
          (state h.after).limits ≡ (state h.before).limits → (state h.after).faults ≡ (state h.before).faults →
          AreStruckBy state ls servers servers'
      struck_ok ls none limits quiet =
          let count : ℕ → ℕ = λ s. strikes_in s (below (length servers)) (flat_map failed_of ls) in
          let zero' : (s : ℕ) → count s ≡ 0 = λ s. ap (strikes_in s (below (length servers))) none in
          at_position count (record {
            same_limits = limits;
            rose = (let z = zero' r in omega (arith, quiet));
            quiet = λ _. quiet;
          }) (λ s ne. zero' s)

      pub struck_down : (state h.after).limits ≡ (state h.before).limits →
          Rose (state h.before).faults (state h.after).faults →
          AreStruckBy state (lines.Down r ∷ []) servers servers'
      struck_down limits rose =
          let n = length servers in
          let one : strikes_in r (below n) (r ∷ []) ≡ 1 = strikes_here n r r within refl in
          at_position (λ s. strikes_in s (below n) (r ∷ [])) (record {
            same_limits = limits;
            rose = omega (arith, one, rose);
            quiet = λ e. absurd (omega arith);
          }) (λ s ne. strikes_not n s r within (λ e. ne (sym e)))

      -- whatever came of the call
      pub later_at : (n : ℕ) → r < n → AreLater state n servers servers'
      later_at n low = record {
        size = change.size;
        limits = λ s x y ex ey. elim (one_or_not s r) as (λ _. (state y).limits ≡ (state x).limits) [
          | inl e ↦
              let x_is : h.before ≡ x = some_same h.is_before (ap (slice_get servers) (sym e) ∙ ex) in
              let y_is : h.after ≡ y = some_same h.is_after (ap (slice_get servers') (sym e) ∙ ey) in
              ap (λ z. (state z).limits) (sym y_is) ∙ h.watched.limits ∙ ap (λ z. (state z).limits) x_is
          | inr ne ↦ ap (λ z. (state z).limits) (sym (some_same ex (sym (change.others s ne) ∙ ey)))
        ];
        faults = λ s x y ex ey. elim (one_or_not s r) as (λ _. (state x).faults ≤ (state y).faults) [
          | inl e ↦
              let x_is : h.before ≡ x = some_same h.is_before (ap (slice_get servers) (sym e) ∙ ex) in
              let y_is : h.after ≡ y = some_same h.is_after (ap (slice_get servers') (sym e) ∙ ey) in
              subst (λ z. (state z).faults ≤ (state y).faults) x_is
              (subst (λ z. (state h.before).faults ≤ (state z).faults) y_is
              (by (state h.before).faults (state h.after).faults result h.watched.faults))
          | inr ne ↦
              let f : (state x).faults ≡ (state y).faults = ap (λ z. (state z).faults)
              (some_same ex (sym (change.others s ne) ∙ ey)) in
              omega arith
        ];
        beyond = λ k far. change.others k (λ e. omega (arith, e, far, low));
      }
        where
          by : (before now : ℕ) (q : Result T WrapErr) → Counted before now q → before ≤ now
          by before now (Ok v) e = omega arith
          by before now (Err errors.Down) e = e.0
          by before now (Err errors.NoMemory) e = omega arith

  -- one after the other
  pub struck_then : (la lb : List Line) (xs ys zs : List X) → length ys ≡ length xs → length zs ≡ length ys →
      AreStruckBy state la xs ys → AreStruckBy state lb ys zs → AreStruckBy state (la ++ lb) xs zs
  struck_then la lb xs ys zs size size' h g s x z ex ez =
      let within : s < length ys = (let w = slice_get_within zs s z ez in omega arith) in
      let y = get_or ys s x in
      let ey : slice_get ys s ≡ Some y = slice_get-get_or ys s x within in
      let n = length xs in
      let sum : strikes_in s (below n) (flat_map failed_of (la ++ lb))
      ≡ strikes_in s (below n) (flat_map failed_of la) + strikes_in s (below n) (flat_map failed_of lb) =
      ap (strikes_in s (below n)) (flat_map-append failed_of la lb)
      ∙ strikes_in-append s (below n) (flat_map failed_of la) (flat_map failed_of lb) in
      subst (λ k. Later k x z) (sym sum)
      (later_both (strikes_in s (below n) (flat_map failed_of la)) (strikes_in s (below n) (flat_map failed_of lb)) x y z
      (h s x y ex ey)
      (subst (λ k. Later (strikes_in s (below k) (flat_map failed_of lb)) y z) size (g s y z ey ez)))

  pub later_none : (n : ℕ) (servers : List X) → AreLater state n servers servers
  later_none n servers = record {
    size = refl;
    limits = λ r x y ex ey. ap (λ z. (state z).limits) (sym (some_same ex ey));
    faults = λ r x y ex ey. (let f : (state x).faults ≡ (state y).faults = ap (λ z. (state z).faults) (some_same ex ey) in
        omega arith);
    beyond = λ k far. refl;
  }

  pub later_then : (n : ℕ) (xs ys zs : List X) → AreLater state n xs ys → AreLater state n ys zs → AreLater state n xs zs
  later_then n xs ys zs h g = record {
    size = g.size ∙ h.size;
    limits = λ r x z ex ez. (let m = mid r x z ez in g.limits r m.0 z m.1 ez ∙ h.limits r x m.0 ex m.1);
    faults = λ r x z ex ez. (let m = mid r x z ez in
        let a = h.faults r x m.0 ex m.1 in let b = g.faults r m.0 z m.1 ez in omega arith);
    beyond = λ k far. g.beyond k far ∙ h.beyond k far;
  }
    where
      mid : (r : ℕ) (x z : X) → slice_get zs r ≡ Some z → (y : X) × (slice_get ys r ≡ Some y)
      mid r x z ez = (let w = slice_get_within zs r z ez in let e = g.size in
          (get_or ys r x, slice_get-get_or ys r x (omega arith)))

  -- the same, where the position is said in another way
  pub later_more : (n k : ℕ) (xs ys zs : List X) → k ≡ n → AreLater state n xs ys → AreLater state k ys zs →
      AreLater state n xs zs
  later_more n k xs ys zs e h g = later_then n xs ys zs h (subst (λ j. AreLater state j ys zs) e g)

  -- room stays where limits do
  pub room_later : (limits : Limits) (n : ℕ) (xs ys : List X) → AreLater state n xs ys → HaveRoom state limits xs →
      HaveRoom state limits ys
  room_later limits n xs ys h room r = record {
    room = λ y ey.
        let w = slice_get_within ys r y ey in
        let within : r < length xs = (let e = h.size in omega arith) in
        let x = get_or xs r y in
        let ex : slice_get xs r ≡ Some x = slice_get-get_or xs r y within in
        subst (HasRoom limits) (sym (h.limits r x y ex ey)) ((room r).room x ex);
  }
