use Rattle.wrap_read.proofs.Contents.{file_stale, file_found, file_dir, file_link}
use Rattle.wrap_read.proofs.content.in_file.Goals as goal

pub returns-in_default-clause-found : goal.returns-in_default-clause-found
returns-in_default-clause-found g c A k = file_stale _ c.args.table.now A k c.args.file.now c.in_default.ensures

pub returns-in-File-clause-found : goal.returns-in-File-clause-found
returns-in-File-clause-found g c A k = file_found _ c.args.table.now A k c.args.file.now c.in-Some.at c.in-Some.ensures
    c.in_ok-attr.attr (c.in_ok-attr.ensures.seen A k) c.in-File.is (c.in_ok-attr.ensures.told A k)

pub returns-in-Dir-clause-found : goal.returns-in-Dir-clause-found
returns-in-Dir-clause-found g c A k = file_dir _ c.args.table.now A k c.args.file.now c.in-Some.at c.in-Some.ensures
    c.in_ok-attr.attr (c.in_ok-attr.ensures.seen A k) c.in-Dir.is

pub returns-in-Link-clause-found : goal.returns-in-Link-clause-found
returns-in-Link-clause-found g c A k = file_link _ c.args.table.now A k c.args.file.now c.in-Some.at c.in-Some.ensures
    c.in_ok-attr.attr (c.in_ok-attr.ensures.seen A k) c.in-Link.is
