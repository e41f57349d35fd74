use Rattle.std.proofs.Common.{rules, ◌<◌, length, sym}
use Rattle.restart.proofs.Turns.{found_dir}
use Rattle.restart.proofs.walk.next_dir.Goals as goal

pub go_through-requires : goal.go_through-requires
go_through-requires g c =
    let s = c.requires.going in
    let below : c.args.turn < length c.args.found.now.dirs.items = search (rules, c.if-turn-len.false, c.len.ensures) in
    let x = found_dir s.0 s.2.new s.1 c.args.found.now c.args.turn c.index-d.result.now c.index-d.result.now c.in-Some.dir s.3 below c.index-d.ensures (sym c.in-Some.ensures) in
    record { dir = (s.0, s.1, s.2, c.index-d.result.now, x.handle, x.live, x.is_new, x.dir, s.3) }

pub returns-clause-gone : goal.returns-clause-gone
returns-clause-gone g c table A k going =
    let below : c.args.turn < length c.args.found.now.dirs.items = search (rules, c.if-turn-len.false, c.len.ensures) in
    let x = found_dir table k.new A c.args.found.now c.args.turn c.index-d.result.now c.index-d.result.now c.in-Some.dir going below c.index-d.ensures (sym c.in-Some.ensures) in
    let n = c.in_ok-go_through.ensures.gone table A k c.index-d.result.now x.handle x.live x.is_new x.dir going in
    (n.0, (c.index-d.result.now, x.at, n.1))
