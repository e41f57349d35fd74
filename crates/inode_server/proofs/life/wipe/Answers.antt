use Rattle.std.proofs.Common.{◌∙◌}
use Rattle.inode_server.proofs.LifeLaws.{nested, wiped, wipe_failed, ready_fresh, ready_down}
use Rattle.inode_server.proofs.life.wipe.Goals as goal

pub superblock_of-name-requires : goal.superblock_of-name-requires
superblock_of-name-requires g c =
    c.requires.limited

pub returns-in-Ok-clause-wipe : goal.returns-in-Ok-clause-wipe
returns-in-Ok-clause-wipe g c up =
    let e = c.in-Ok.ensures in
    wiped g.M.Medium.content g.M.Medium.size g.M.Medium.faults c.args.tree.now c.wipe.new.self up e.fresh e.limits e.cause.ok

pub returns-in-Ok-clause-ready : goal.returns-in-Ok-clause-ready
returns-in-Ok-clause-ready g c =
    let e = c.in-Ok.ensures in
    ready_fresh g.M.Medium.content g.M.Medium.size c.args.tree.now c.wipe.new.self c.requires e.limits e.area e.inodes e.size e.whole
    (e.name ∙ c.superblock_of-name.ensures ∙ nested c.args.tree.now.limits)

pub returns-in-Err-clause-wipe : goal.returns-in-Err-clause-wipe
returns-in-Err-clause-wipe g c up =
    let e = c.in-Err.ensures in
    wipe_failed g.M.Medium.content g.M.Medium.size g.M.Medium.faults c.args.tree.now c.wipe.new.self up c.in-Err.e c.srv_error.result c.srv_error.ensures e.limits e.cause

pub returns-in-Err-clause-ready : goal.returns-in-Err-clause-ready
returns-in-Err-clause-ready g c =
    let e = c.in-Err.ensures in
    ready_down g.M.Medium.content g.M.Medium.size c.args.tree.now c.wipe.new.self c.requires e.limits e.area e.inodes e.size c.in-Err.e c.srv_error.result
    c.srv_error.ensures
