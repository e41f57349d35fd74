use Rattle.std.proofs.Common.{true, false, ◌≡◌, ◌≢◌, ◌∙◌, List, ℕ, bytes_eq, sym, subst, arith}
use Rattle.std.proofs.lemmas.Slice.Eq.{bytes_eq-Decides}
use Rattle.std.specs.FinMap.{get}
use Rattle.server_trait.specs.Tree.{names_at}
use Rattle.server_trait.proofs.SoftLaws.{some_of}
use Rattle.server_trait.proofs.TreeLaws.{some_none}
use Rattle.log_tree.specs.Held.{handle_of, root_id}
use Rattle.log_index.specs.Memory.{memory_of}
use Rattle.log_changes.specs.Kept.{log_live, log_tree}
use Rattle.log_changes.proofs.DirLaws.{dir_of, kept_there}
use Rattle.log_calls.proofs.BelowLaws.{IsWalk, at_root, met, step_up, walk_begins, walked_all}
use Rattle.log_calls.proofs.below.is_below.Goals as goal

same_is : (a b : List ℕ) → bytes_eq a b ≡ true → a ≡ b
same_is a b e = (bytes_eq-Decides a b).0 e

same_not : (a b : List ℕ) → bytes_eq a b ≡ false → a ≢ b
same_not a b e is = let yes = (bytes_eq-Decides a b).1 is in absurd (let bad : true ≡ false = sym yes ∙ e in cc)

pub loop-step-init : goal.loop-step-init
loop-step-init g c = walk_begins (log_tree g.M.Medium.content g.M.Medium.size c.args.tree.now) c.args.top.now
    c.args.start.now c.told-start c.requires.start

pub returns-then-eq : goal.returns-then-eq
returns-then-eq g c =
    let t = c.args.tree.now in
    let k = c.requires.kept in
    met t.limits (log_live g.M.Medium.content g.M.Medium.size t) (memory_of t.index) k.sound k.indexed c.args.top.now
    c.args.start.now c.told-top c.loop-step._step c.loop-step.now c.loop-step.invariant
    (same_is c.loop-step.now c.args.top.now (sym c.if-eq.ensures))

pub returns-then-eq-2 : goal.returns-then-eq-2
returns-then-eq-2 g c =
    let t = c.args.tree.now in
    let k = c.requires.kept in
    at_root t.limits (log_live g.M.Medium.content g.M.Medium.size t) (memory_of t.index) k.sound k.indexed c.args.top.now
    c.args.start.now c.told-top c.loop-step._step c.loop-step.now c.loop-step.invariant
    (same_not c.loop-step.now c.args.top.now (sym c.if-eq.ensures))
    (same_is c.loop-step.now root_id (sym c.if-eq-2.ensures))

pub unreachable-requires : goal.unreachable-requires
unreachable-requires g c =
    let t = c.args.tree.now in
    let k = c.requires.kept in
    let tree = log_tree g.M.Medium.content g.M.Medium.size t in
    let w = c.loop-step.invariant in
    let m = some_of (names_at tree (handle_of c.loop-step.now)) w.is_dir in
    let d = dir_of tree (handle_of c.loop-step.now) m.0 m.1 in
    let there = some_of (get (memory_of t.index).nodes c.loop-step.now)
    (kept_there tree (memory_of t.index) c.loop-step.now d.node k.indexed w.eight d.is_node) in
    absurd (some_none there.1 (sym c.get.ensures ∙ c.in_default.is))

pub loop-step-preserved : goal.loop-step-preserved
loop-step-preserved g c =
    let t = c.args.tree.now in
    let k = c.requires.kept in
    let up = step_up t.limits (log_live g.M.Medium.content g.M.Medium.size t) (memory_of t.index) k.sound k.indexed
    c.args.top.now c.args.start.now c.told-top c.loop-step._step c.loop-step.now c.loop-step.invariant c.in-Some.info
    (same_not c.loop-step.now c.args.top.now (sym c.if-eq.ensures))
    (same_not c.loop-step.now root_id (sym c.if-eq-2.ensures)) (sym c.get.ensures ∙ c.in-Some.is) in
    subst (λ (n : ℕ). IsWalk (log_tree g.M.Medium.content g.M.Medium.size t) c.args.top.now c.args.start.now n
    c.in-Some.info.parent) (omega arith) up

pub returns : goal.returns
returns g c =
    let t = c.args.tree.now in
    let k = c.requires.kept in
    let count = k.indexed.count_is in
    walked_all t.limits (log_live g.M.Medium.content g.M.Medium.size t) (memory_of t.index) k.sound k.indexed
    c.args.top.now c.args.start.now c.told-top c.loop-step._step c.loop-step.now c.loop-step.invariant
    (omega (arith, c.count-step-end.ensures, c.loop-step-test.false)) c.requires.top
