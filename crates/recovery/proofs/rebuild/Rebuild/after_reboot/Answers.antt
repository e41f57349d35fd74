use Rattle.std.proofs.Common.{sym, subst}
use Rattle.conf_map.specs.Stands.{StandsValid}
use Rattle.partition_tree.specs.Digests.{IsTreeSize}
use Rattle.recovery.proofs.Standing.{stand_again}
use Rattle.recovery.proofs.rebuild.Rebuild.after_reboot.Goals as goal

pub read_tree-requires-clause-stands : goal.read_tree-requires-clause-stands
read_tree-requires-clause-stands g c =
    let s = c.requires.stands in
    (s.0, stand_again _ _ c.args.table.now c.restart.new.table s.0 s.1 (c.in_ok-restart.ensures.stands s.1.limits s.0))

pub read_tree-requires-clause-size : goal.read_tree-requires-clause-size
read_tree-requires-clause-size g c = subst IsTreeSize (sym c.in_ok-restart.ensures.rows.size) c.requires.size

pub returns-clause-stands : goal.returns-clause-stands
returns-clause-stands g c limits A st =
    subst (λ t. StandsValid limits t c.restart.new.table A) (sym c.in_ok-own.ensures.same)
    (c.in_ok-restart.ensures.stands limits A st)

pub returns-clause-begins : goal.returns-clause-begins
returns-clause-begins g c A st =
    c.in_ok-rebuild.ensures A (c.in_ok-own.ensures.digests A
    (stand_again _ _ c.args.table.now c.restart.new.table A st (c.in_ok-restart.ensures.stands st.limits A)))
