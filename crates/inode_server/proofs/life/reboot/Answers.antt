use Rattle.std.proofs.Common.{refl, ap}
use Rattle.server_trait.specs.Calls.{Reboot}
use Rattle.inode_tree.specs.Kept.{tables_of}
use Rattle.inode_server.proofs.CallLaws.{broke, did}
use Rattle.inode_server.proofs.LifeLaws.{reboot_call, rebooted_as, planned}
use Rattle.inode_server.proofs.StaleLaws.{none-stays}
use Rattle.inode_server.proofs.life.reboot.Goals as goal

pub read_tables-requires-clause-planned : goal.read_tables-requires-clause-planned
read_tables-requires-clause-planned g c =
    let s = c.args.tree.now in
    planned s.limits s.store.area s.store.inodes (g.M.Medium.content s.store.medium) (g.M.Medium.size s.store.medium) s.store.map
    (tables_of s.tables) c.requires.whole

pub returns-in-Ok-clause-does : goal.returns-in-Ok-clause-does
returns-in-Ok-clause-does g c =
    let s = c.args.tree.now in
    let n = c.read_tables.new.tree in
    let e = c.in-Ok.ensures in
    did g.M.Medium.content g.M.Medium.size g.M.Medium.faults Reboot s (reboot_call g.M.Medium.content g.M.Medium.faults s) n tt
    (rebooted_as g.M.Medium.content g.M.Medium.size s n c.requires.whole e.whole e.area e.inodes e.content)
    (λ e bad. absurd bad) record { limits = e.limits; area = e.area; inodes = e.inodes; on_medium = e.size } e.cause.ok e.whole (ap (λ b. b 0) e.content)

pub returns-in-Ok-clause-stale : goal.returns-in-Ok-clause-stale
returns-in-Ok-clause-stale g c =
    let e = c.in-Ok.ensures in
    none-stays g.M.Medium.content g.M.Medium.size c.args.tree.now c.read_tables.new.tree c.requires.whole e.whole e.epoch e.few

pub returns-in-Err-clause-does : goal.returns-in-Err-clause-does
returns-in-Err-clause-does g c =
    let s = c.args.tree.now in
    let e = c.in-Err.ensures in
    broke g.M.Medium.content g.M.Medium.size g.M.Medium.faults Reboot s (reboot_call g.M.Medium.content g.M.Medium.faults s) c.read_tables.new.tree c.in-Err.e c.srv_error.result
    c.srv_error.ensures (g.M.Medium.faults s.store.medium) refl record { limits = e.limits; area = e.area; inodes = e.inodes; on_medium = e.size } e.cause
