use Rattle.std.proofs.Common.{◌+◌, ◌-◌, ◌*◌, get_or, drop, arith}
use Rattle.std.proofs.lemmas.List.{take_all, length-drop}
use Rattle.log_records.specs.Layout.{value_of}
use Rattle.log_records.proofs.read.value.Goals as goal

pub returns-clause-value : goal.returns-clause-value
unfolding value_of
returns-clause-value c =
    let b = c.args.block.now in
    let at = 3 + (256 * get_or b 1 0 + get_or b 2 0) in
    take_all (512 - at) (drop at b) (omega (arith, length-drop at b, c.told-block))
