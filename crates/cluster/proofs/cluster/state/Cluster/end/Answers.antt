use Rattle.std.proofs.Common.{◌≡◌, ◌<◌, ◌≤◌, ◌+◌, ◌∷◌, [], ◌++◌, length, take, refl, sym, ap, ◌∙◌, arith, suc}
use Rattle.std.proofs.lemmas.List.{append_assoc, take_all}
use Rattle.std.proofs.lemmas.Option.{slice_get_read}
use Rattle.cluster.specs.Went.{end_lines, end_line}
use Rattle.cluster.proofs.Ends.{end_more}
use Rattle.cluster.proofs.cluster.state.Cluster.end.Goals as goal

pub loop-r-preserved : goal.loop-r-preserved
loop-r-preserved c =
    let xs = c.args.self.now.seats.items in
    let r = c.loop-r.r in
    let x = c.index.result.now in
    let within : r < length xs = omega (arith, c.loop-r-test.true, c.len-r-end.ensures, c.args.self.now.seats.ok.0) in
    let at = slice_get_read xs (length xs) r x refl within c.index.ensures in
    let more = end_more 0 r xs x at in
    let e : suc r ≡ r + 1 = omega arith in
    let z : 0 + r ≡ r = omega arith in
    c.in_ok-push_line.ensures
    ∙ ap (λ l. c.loop-r.lines.items ++ l ∷ []) (c.end_line.ensures ∙ ap (λ j. end_line j x) (sym z))
    ∙ ap (λ ls. ls ++ end_line (0 + r) x ∷ []) c.loop-r.invariant
    ∙ append_assoc c.args.lines.now.items (end_lines 0 (take r xs)) (end_line (0 + r) x ∷ [])
    ∙ ap (λ ls. c.args.lines.now.items ++ ls) (sym more ∙ ap (λ k. end_lines 0 (take k xs)) e)

pub returns : goal.returns
returns c =
    let xs = c.args.self.now.seats.items in
    let all : length xs ≤ c.loop-r.r =
    omega (arith, c.loop-r-test.false, c.len-r-end.ensures, c.args.self.now.seats.ok.0) in
    c.loop-r.invariant ∙ ap (λ ls. c.args.lines.now.items ++ end_lines 0 ls) (take_all c.loop-r.r xs all)
