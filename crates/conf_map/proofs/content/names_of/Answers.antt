use Rattle.conf_map.proofs.DirCalls.{dir_names}
use Rattle.conf_map.proofs.ListedRows.{rows_agree}
use Rattle.conf_map.proofs.content.names_of.Goals as goal

pub list-requires : goal.list-requires
list-requires g c =
    let dir = c.requires.dir in
    dir_names _ c.args.table.now dir.0 dir.1 c.args.d.now.index c.args.d.now.handle c.requires.live dir.2

pub returns-clause-rows : goal.returns-clause-rows
returns-clause-rows g c A k is_d =
    rows_agree _ c.args.table.now A k c.args.d.now.index c.args.d.now.handle c.requires.live is_d
    c.in_ok-names.names.items c.sort_names.new.names.items c.in_ok-names.ensures.names c.sort_names.ensures
