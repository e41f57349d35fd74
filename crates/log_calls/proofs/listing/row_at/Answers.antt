use Rattle.std.proofs.Common.{◌∙◌, ap, sym}
use Rattle.log_mount.proofs.Keys.{fits, name_here}
use Rattle.log_calls.specs.Rows.{row_in}
use Rattle.log_calls.proofs.RowLaws.{place_within, read_at}
use Rattle.log_calls.proofs.listing.row_at.Goals as goal

pub read-requires-clause-within : goal.read-requires-clause-within
read-requires-clause-within g c = place_within _ c.args.place c.requires.named

pub row_of-requires-clause-long : goal.row_of-requires-clause-long
row_of-requires-clause-long g c =
    let e = c.in_ok-block.ensures in
    let b = read_at _ c.args.place c.in_ok-block.block c.requires.named e.read in
    (fits _ c.in_ok-block.block c.requires.placed e.whole b.found).long

pub row_of-requires-clause-room : goal.row_of-requires-clause-room
row_of-requires-clause-room g c =
    let e = c.in_ok-block.ensures in
    let b = read_at _ c.args.place c.in_ok-block.block c.requires.named e.read in
    (name_here _ c.in_ok-block.block c.requires.placed e.whole b.found b.of_name).room

pub returns-clause-row : goal.returns-clause-row
returns-clause-row g c =
    let b = read_at _ c.args.place c.in_ok-block.block c.requires.named c.in_ok-block.ensures.read in
    c.in_ok-row_of.ensures ∙ ap row_in (sym b.is)
