use Rattle.std.proofs.Common.{arith, true, false, Some, Ok, ap, sym, ◌∙◌, subst}
use Rattle.abs_model.specs.Array.{entry_at}
use Rattle.abs_model.specs.Machine.{no_room}
use Rattle.conf_map.specs.Found.{Finds}
use Rattle.conf_map.proofs.KindTests.{file_test}
use Rattle.conf_map.proofs.Shows.{stand_valid}
use Rattle.wrap_make.specs.Files.{present_tests, IsPresent}
use Rattle.wrap_make.proofs.Refusals.{low_is}
use Rattle.wrap_make.proofs.Spots.{no_file, is_present, told_size}
use Rattle.wrap_make.proofs.spot.present_file.Goals as goal

pub returns-then-not-is_file-clause-found : goal.returns-then-not-is_file-clause-found
returns-then-not-is_file-clause-found g c A k =
    let seen = c.in_ok-attr.ensures.seen A (stand_valid c.args.limits.now _ c.args.table.now A c.requires.within k) in
    no_file A c.args.limits.now c.args.at.now.index c.args.size
    (sym seen.file ∙ sym (file_test false c.in_ok-attr.attr.kind c.if-not-is_file.ensures))

pub returns-clause-found : goal.returns-clause-found
returns-clause-found g c A k =
    let limits = c.args.limits.now in
    let i = c.args.at.now.index in
    let size = c.in-Some.size in
    let seen = c.in_ok-attr.ensures.seen A (stand_valid limits _ c.args.table.now A c.requires.within k) in
    let file = sym seen.file ∙ sym (file_test true c.in_ok-attr.attr.kind c.if-not-is_file.ensures) in
    let few = c.if-size-gt-FILE_LIMIT.false in
    let before = told_size (entry_at A i) c.in_ok-attr.attr seen file in
    subst (λ size. Finds (present_tests A limits i size) (IsPresent A limits i size) (Ok c.in_ok-attr.attr.size))
    (sym c.in-Some.is)
    (is_present A limits i (Some size) file (low_is 1048576 size (omega (arith, few))) c.in_ok-attr.attr.size before
    (ap (λ n. no_room A limits n size) before ∙ sym (c.if-no_room.ensures.full A k.tallied)))
