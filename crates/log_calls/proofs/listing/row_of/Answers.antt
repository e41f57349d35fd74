use Rattle.std.proofs.Common.{◌∙◌, ap, drop, arith}
use Rattle.log_segments.specs.Record.{key_of}
use Rattle.log_tree.specs.Held.{handle_of}
use Rattle.log_calls.proofs.RowLaws.{name_in, row}
use Rattle.log_calls.proofs.listing.row_of.Goals as goal

pub returns : goal.returns
returns c =
    let b = c.args.block.now in
    let name = c.in_ok-name.ensures ∙ name_in b _ c.requires.long (omega arith) in
    ap (λ n. row n c.handle_of.result) name
    ∙ ap (row (drop 9 (key_of b))) (c.handle_of.ensures ∙ ap handle_of c.read_child.ensures)
