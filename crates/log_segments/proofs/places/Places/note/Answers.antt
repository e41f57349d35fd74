use Rattle.std.proofs.Common.{◌≡◌, ◌∙◌, List, ℕ, Some, None, cond, bytes_eq, ap}
use Rattle.std.proofs.lemmas.Map.Text.{is_eq-slice_cmp}
use Rattle.std.specs.Cmp.Lexicographic.{nat_list_cmp_total, nat_list_eq_equiv, slice_cmp}
use Rattle.std.specs.FinMap as map
use Rattle.std.specs.FinMap.{FinMap, get-insert, get-remove}
use Rattle.std.specs.Ordering.{nat_cmp}
use Rattle.log_segments.proofs.places.Places.note.Goals as goal

removed : (m : FinMap (slice_cmp nat_cmp) ℕ) (key k : List ℕ)
    → map.get (map.remove m key) k ≡ cond (bytes_eq key k) None (map.get m k)
removed m key k = get-remove nat_list_cmp_total m key k
    ∙ ap (λ b. cond b None (map.get m k)) (is_eq-slice_cmp k key ∙ nat_list_eq_equiv.symm k key)

inserted : (m : FinMap (slice_cmp nat_cmp) ℕ) (key k : List ℕ) (v : ℕ)
    → map.get (map.insert m key v) k ≡ cond (bytes_eq key k) (Some v) (map.get m k)
inserted m key k v = get-insert nat_list_cmp_total m key v k
    ∙ ap (λ b. cond b (Some v) (map.get m k)) (is_eq-slice_cmp k key ∙ nat_list_eq_equiv.symm k key)

pub returns-then-gone : goal.returns-then-gone
returns-then-gone c = record { at = λ k. rw (c.remove.ensures, c.if-gone.true) (removed c.args.self.now c.args.key k) }

pub returns : goal.returns
returns c = record {
  at = λ k. rw (c.in_ok-insert.ensures, c.if-gone.false)
      (inserted c.args.self.now c.args.key k c.args.place);
}
