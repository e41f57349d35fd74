use Rattle.restart.proofs.Turns.{still}
use Rattle.restart.proofs.handles.find_handles.Goals as goal

pub relink-requires-clause-going : goal.relink-requires-clause-going
relink-requires-clause-going g c =
    let s = c.requires.restarts in
    let n = c.in_ok-found.ensures.begun s.0 s.1 in
    (s.0, still _ _ c.args.table.now s.0 c.in_ok-found.ensures.same s.1, n.0, n.1)

pub returns-clause-stands : goal.returns-clause-stands
returns-clause-stands g c A k =
    let n = c.in_ok-found.ensures.begun A k in
    c.in_ok-relink.ensures.stands A (still _ _ c.args.table.now A c.in_ok-found.ensures.same k) n.0 n.1
