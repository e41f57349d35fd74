use Rattle.std.proofs.Common.{◌≡◌, true, false, drop, length, sym, ◌∙◌, subst, rules}
use Rattle.std.proofs.lemmas.Bool.Decides.{Decides-eqb}
use Rattle.std.proofs.lemmas.Slice.Eq.{starts_is}
use Rattle.log_segments.proofs.Prefixes.{IsPassed, begun, passed, walk_ends, walked}
use Rattle.log_segments.proofs.places.Places.under.Goals.{in-None, in-Some+then-not-starts_with}
use Rattle.log_segments.proofs.places.Places.under.Goals as goal

pub loop-key-init : goal.loop-key-init
loop-key-init c =
    let range = c.range-key-items.ensures in
    let is = c.into_iter-key-iterator.ensures.into_iter_gives in
    begun c.self.inside.places c.args.self.now c.args.prefix.now c.into_iter-key-iterator.result c.new-places.result
    c.self.view_is range.ordered (is ∙ range.between tt) (rw is (range.in_range tt).0) c.new-places.ensures.empty

pub loop-key-preserved : goal.loop-key-preserved
loop-key-preserved c =
    let m = c.args.self.now in
    let prefix = c.args.prefix.now in
    let key = c.in-Some.key.now in
    let walk = subst (λ l. IsPassed m prefix l c.loop-key.places) c.in-Some.ensures.steps c.loop-key.invariant in
    let begins : c.starts_with.result ≡ true = search rules in
    let is = (starts_is Decides-eqb key prefix c.starts_with.result (search rules)).0 begins in
    passed m prefix (key, c.in-Some.place.now) c.next.new.self c.loop-key.places walk c.insert.new.self
    (drop (length prefix) key) is c.in_ok-insert.ensures.updates.0

pub returns : goal.returns
returns c = elim c.match-next.branch [
  | in-None w ↦ walked c.args.self.now c.args.prefix.now c.loop-key.places
      (subst (λ l. IsPassed c.args.self.now c.args.prefix.now l c.loop-key.places) w.in-None.ensures.steps.0
      c.loop-key.invariant)
  | in-Some+then-not-starts_with w ↦
      let m = c.args.self.now in
      let prefix = c.args.prefix.now in
      let key = w.in-Some.key.now in
      let walk = subst (λ l. IsPassed m prefix l c.loop-key.places) w.in-Some.ensures.steps c.loop-key.invariant in
      let other : w.starts_with.result ≡ false = search rules in
      let is = (starts_is Decides-eqb key prefix w.starts_with.result (search rules)).1 in
      walk_ends m prefix (key, w.in-Some.place.now) c.next.new.self c.loop-key.places walk
      (λ more e. let bad : true ≡ false = sym (is more e) ∙ other in cc)
]
