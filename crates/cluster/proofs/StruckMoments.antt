-- The strikes of moments are those of their lines, as long as no server changes its position.
use Rattle.std.proofs.Common.{◌≡◌, ℕ, ◌+◌, List, [], ◌∷◌, ◌++◌, drop, length, slice_get, refl, sym, ◌∙◌, ap, subst}
use Rattle.std.specs.List.{flat_map}
use Rattle.std.proofs.lemmas.List.{append-nil, append_assoc, append_cancel_left}
use Rattle.server_trait.specs.Tree.{Server}
use Rattle.server_trait.specs.declared.ServerLimits.{ServerLimits}
use Rattle.log_format.specs.declared.Line.{Line}
use Rattle.cluster_model.specs.Tree.{below}
use Rattle.cluster_model.specs.Moments.{Moment}
use Rattle.cluster_model.specs.Turns.{last}
use Rattle.cluster_model.specs.Run.{Always, failed_of, strikes, strikes_in}
use Rattle.cluster_model.specs.Struck.{IsLater}
use Rattle.cluster_model.proofs.Lines.{Chain}
use Rattle.cluster.specs.Steps.{ServersAreStruck}
use Rattle.cluster.specs.Turned.{AreStruckBy}
use Rattle.cluster.proofs.ListFacts.{flat_map-append}
use Rattle.cluster.proofs.Struck.{strikes_in-append, below_is}

drop_front : {X : Type 0} (xs ys : List X) → drop (length xs) (xs ++ ys) ≡ ys
drop_front [] ys = refl
drop_front (x ∷ xs) ys = drop_front xs ys

-- what moments add, and that their strikes are read off it
record Adds (s : ℕ) (b : List ℕ) (m : Moment) (ms : List Moment) : Type 0 where
  more : List Line
  is : (last m ms).lines ≡ m.lines ++ more
  strike : strikes s m ms ≡ strikes_in s b (flat_map failed_of more)

adds : (s : ℕ) (b : List ℕ) (m : Moment) (ms : List Moment) → Chain m ms → Always (λ (n : Moment). n.state.bench ≡ b) ms →
    Adds s b m ms
adds s b m [] chain same = record { more = []; is = sym (append-nil m.lines); strike = refl }
adds s b m (n ∷ ms) chain same =
    let rest = adds s b n ms chain.1 same.1 in
    let a = chain.0.longer.more in
    let here : n.lines ≡ m.lines ++ a = chain.0.longer.is in
    let new : drop (length m.lines) n.lines ≡ a = ap (drop (length m.lines)) here ∙ drop_front m.lines a in
    let first : strikes_in s n.state.bench (flat_map failed_of (drop (length m.lines) n.lines))
    ≡ strikes_in s b (flat_map failed_of a) = ap (λ ls. strikes_in s n.state.bench (flat_map failed_of ls)) new
    ∙ ap (λ k. strikes_in s k (flat_map failed_of a)) same.0 in
    record {
      more = a ++ rest.more;
      is = rest.is ∙ ap (λ ls. ls ++ rest.more) here ∙ append_assoc m.lines a rest.more;
      strike = ap (λ k. k + strikes s n ms) first
          ∙ ap (λ k. strikes_in s b (flat_map failed_of a) + k) rest.strike
          ∙ sym (ap (strikes_in s b) (flat_map-append failed_of a rest.more)
          ∙ strikes_in-append s b (flat_map failed_of a) (flat_map failed_of rest.more));
    }

module _ {X : Type 0} (state : X → Server) where
  abbrev Later : ℕ → X → X → Type 0
  Later = IsLater X ServerLimits (λ z. (state z).faults) (λ z. (state z).limits)

  pub struck_moments : (m : Moment) (ms : List Moment) (ls : List Line) (servers servers' : List X) → Chain m ms →
      m.state.bench ≡ below (length servers) →
      Always (λ (n : Moment). n.state.bench ≡ below (length servers)) ms →
      (last m ms).state.bench ≡ below (length servers) →
      (last m ms).lines ≡ m.lines ++ ls → AreStruckBy state ls servers servers' →
      ServersAreStruck state m ms servers servers'
  struck_moments m ms ls servers servers' chain first same end said h s i j x y ei ej ex ey =
      let n = length servers in
      let out = adds s (below n) m ms chain same in
      let lines_are : out.more ≡ ls = append_cancel_left m.lines out.more ls (sym out.is ∙ said) in
      let at_i : i ≡ s = below_is n i s (ap (λ b. slice_get b i) (sym first) ∙ ei) in
      let at_j : j ≡ s = below_is n j s (ap (λ b. slice_get b j) (sym end) ∙ ej) in
      subst (λ k. Later k x y) (sym (out.strike ∙ ap (λ l. strikes_in s (below n) (flat_map failed_of l)) lines_are))
      (h s x y (ap (slice_get servers) (sym at_i) ∙ ex) (ap (slice_get servers') (sym at_j) ∙ ey))
