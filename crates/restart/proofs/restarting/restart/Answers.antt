use Rattle.restart.proofs.Relinked.{restarted, stands_again, few_rows, stands_tree}
use Rattle.restart.proofs.restarting.restart.Goals as goal

pub reboot-requires : goal.reboot-requires
reboot-requires g c = stands_tree _ _ _ c.requires.1.stands

pub find_handles-requires-clause-restarts : goal.find_handles-requires-clause-restarts
find_handles-requires-clause-restarts g c =
    let st = c.requires.1 in
    (c.requires.0, restarted st.limits _ _ c.args.table.now c.requires.0 st.valid st.stands (c.in_ok-reboot.ensures.rebooted st.stands.tree st.stands.has_tree))

pub find_handles-requires-clause-few : goal.find_handles-requires-clause-few
find_handles-requires-clause-few g c = few_rows _ c.args.table.now c.requires.0 c.requires.1

pub returns-clause-stands : goal.returns-clause-stands
returns-clause-stands g c limits A st =
    let k = restarted limits _ _ c.args.table.now A st.valid st.stands (c.in_ok-reboot.ensures.rebooted st.stands.tree st.stands.has_tree) in
    stands_again limits _ _ c.args.table.now c.find_handles.new.table A st (c.in_ok-find_handles.ensures.stands A k) c.in_ok-find_handles.ensures.rows
