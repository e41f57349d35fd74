-- A list of names that stands the other way round.
use Rattle.std.proofs.Common.{◌≡◌, ℕ, ◌-◌, ◌<◌, arith, List, length, Option, Some, IsSomeAnd, slice_get, get_or, sym, ap, ◌∙◌, subst}
use Rattle.std.specs.Prelude.{reverse}
use Rattle.std.proofs.lemmas.List.{get_or-reverse, length-reverse}
use Rattle.std.proofs.lemmas.Option.{slice_get_within, slice_get-get_or, get_or_from_slice_get}
use Rattle.server_trait.specs.Tree.{Names}
use Rattle.server_trait.specs.Calls.{Lists}
use Rattle.server_trait.proofs.TreeLaws.{some_and, is_some_and}
use Rattle.server_trait.specs.declared.server.Listed.{Listed}

module _ {X : Type 0} (xs : List X) (k : ℕ) (x : X) where
  within : slice_get (reverse xs) k ≡ Some x → k < length xs
  within is = let below = slice_get_within (reverse xs) k x is in let same = length-reverse xs in omega (arith, below, same)

  -- what stands in the one list stands in the other, as far from the other end
  before : slice_get (reverse xs) k ≡ Some x → slice_get xs (length xs - 1 - k) ≡ Some x
  before is =
      let below = within is in
      slice_get-get_or xs (length xs - 1 - k) x (omega (arith, below))
      ∙ ap Some (sym (get_or-reverse xs k x below) ∙ get_or_from_slice_get (reverse xs) k x x is)

  after : slice_get xs k ≡ Some x → slice_get (reverse xs) (length xs - 1 - k) ≡ Some x
  after is =
      let below = slice_get_within xs k x is in
      let same = length-reverse xs in
      let back : length xs - 1 - (length xs - 1 - k) ≡ k = omega (arith, below) in
      slice_get-get_or (reverse xs) (length xs - 1 - k) x (omega (arith, below, same))
      ∙ ap Some (get_or-reverse xs (length xs - 1 - k) x (omega (arith, below)) ∙ ap (λ i. get_or xs i x) back ∙ get_or_from_slice_get xs k x x is)

lists_reversed : (rows : List Listed) (names : Names) → Lists rows names → Lists (reverse rows) names
lists_reversed rows names l = record {
  sound = λ k row is. l.sound (length rows - 1 - k) row (before rows k row is);
  complete = λ name h has. let k = l.complete name h has in (length rows - 1 - k.0, after rows k.0 _ k.1);
  once = λ j k a b at_j at_k same.
      let one = l.once (length rows - 1 - j) (length rows - 1 - k) a b (before rows j a at_j) (before rows k b at_k) same in
      let low_j = within rows j a at_j in
      let low_k = within rows k b at_k in
      omega (arith, one, low_j, low_k);
}

pub listed_reversed : (rows now : List Listed) (o : Option Names) → now ≡ reverse rows → IsSomeAnd o (Lists rows) → IsSomeAnd o (Lists now)
listed_reversed rows now o is l =
    let m = some_and o (Lists rows) l in
    is_some_and (Lists now) m.1 (subst (λ rows. Lists rows m.0) (sym is) (lists_reversed rows m.0 m.2))
