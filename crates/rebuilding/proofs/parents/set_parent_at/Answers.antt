use Rattle.std.proofs.Common.{◌≡◌, slice_get, length, refl, sym, ap, ◌∙◌, arith}
use Rattle.server_trait.proofs.TreeLaws.{some_same}
use Rattle.server_trait.specs.declared.bench.ConfEntry.{ConfEntry}
use Rattle.conf_map.proofs.InStep.{slice_get-set_same, slice_get-set_other}
use Rattle.staging.proofs.Begins.{there}
use Rattle.staging.proofs.OtherParents.{only_same, only_more}
use Rattle.staging.specs.Parents.{under}
use Rattle.rebuilding.proofs.parents.set_parent_at.Goals as goal

pub returns : goal.returns
returns c =
    let low = c.requires.within in
    let size = c.requires.size in
    let r = there c.args.table.now.rows.items c.args.index (omega (arith, low, size)) in
    let set_is = c.set_parent.ensures.row r.0 r.1 in
    record {
      only = only_more c.args.table.now c.args.table.now (only_same c.args.table.now) c.set_parent.new.table c.args.index c.dir_parent.result r.0 r.1 set_is c.set_parent.ensures.by_handle;
      others = λ i ne. ap (λ l. slice_get l i) set_is ∙ slice_get-set_other c.args.table.now.rows.items c.args.index i (under c.dir_parent.result r.0) ne;
      here = λ x at dir. ap (λ (y : ConfEntry). y.parent) (some_same at (ap (λ l. slice_get l c.args.index) set_is ∙ slice_get-set_same c.args.table.now.rows.items c.args.index (under c.dir_parent.result r.0) r.0 r.1)) ∙ c.dir_parent.ensures dir;
    }
