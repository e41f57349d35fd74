use Rattle.std.proofs.Common.{arith, sym, subst}
use Rattle.wrap_make.specs.Places.{IndexFound}
use Rattle.wrap_make.proofs.Refusals.{low_is}
use Rattle.wrap_make.proofs.Spots.{new_index_found, new_full}
use Rattle.wrap_make.proofs.spot.index_of_file.Goals as goal

pub returns-in-Some : goal.returns-in-Some
returns-in-Some c s A k =
    let few = c.if-size-gt-FILE_LIMIT.false in
    new_index_found A c.args.limits.now c.args.size (low_is 1048576 c.args.size (omega (arith, few))) c.in-Some.index
    (subst (IndexFound A c.args.limits.now c.args.size) c.in-Some.is (c.new_index.ensures s A k))

pub returns-in-None : goal.returns-in-None
returns-in-None c s A k =
    let few = c.if-size-gt-FILE_LIMIT.false in
    new_full A c.args.limits.now c.args.size (low_is 1048576 c.args.size (omega (arith, few)))
    (subst (IndexFound A c.args.limits.now c.args.size) c.in-None.is (c.new_index.ensures s A k))
