use Rattle.std.proofs.Common.{◌≡◌, true, false, sym, ap, ◌∙◌}
use Rattle.abs_model.specs.Array.{null_entry}
use Rattle.abs_model.specs.Objects.{is_dir}
use Rattle.rebuilding.proofs.Makings.{get_same}
use Rattle.rebuilding.proofs.parents.dir_parent.Goals as goal

pub returns : goal.returns
returns c = λ dir. absurd (let bad : false ≡ true = sym c.if-is_dir.false ∙ c.is_dir.ensures
    ∙ ap is_dir (c.index-entries-index.is ∙ get_same c.args.entries.now c.args.index c.index-entries-index.result null_entry c.requires.within) ∙ dir in cc)
