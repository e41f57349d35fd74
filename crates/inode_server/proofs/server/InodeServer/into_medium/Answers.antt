use Rattle.inode_server.proofs.StartLaws.{holds, has-room, is-small, is-limited}
use Rattle.inode_server.proofs.server.InodeServer.into_medium.Goals as goal

pub returns-clause-holds : goal.returns-clause-holds
returns-clause-holds g c t is =
    let s = c.args.self in
    rw c.into_medium.ensures (holds g.M.Medium.content g.M.Medium.size g.M.Medium.faults s.up s.tree s.ready t is)

pub returns-clause-room : goal.returns-clause-room
returns-clause-room g c =
    let s = c.args.self in
    rw c.into_medium.ensures (has-room g.M.Medium.content g.M.Medium.size g.M.Medium.faults s.up s.tree s.ready)

pub returns-clause-small : goal.returns-clause-small
returns-clause-small g c =
    let s = c.args.self in
    rw c.into_medium.ensures (is-small g.M.Medium.content g.M.Medium.size g.M.Medium.faults s.up s.tree s.ready)

pub returns-clause-limited : goal.returns-clause-limited
returns-clause-limited g c =
    let s = c.args.self in
    is-limited g.M.Medium.content g.M.Medium.size g.M.Medium.faults s.up s.tree s.ready
