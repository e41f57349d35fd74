use Rattle.std.proofs.Common.{sym, ap, ◌≡◌, subst, is_some}
use Rattle.std.specs.Prelude.{Result, Ok, Err, OnOk}
use Rattle.nfs2_types.specs.declared.Limits.{Limits}
use Rattle.server_trait.specs.Tree.{Server}
use Rattle.server_trait.specs.declared.bench.ConfTable.{ConfTable}
use Rattle.conf_map.specs.Stands.{HasRoom, StandsValid}
use Rattle.service_tables.specs.Ready.{IsReady}
use Rattle.service_tables.proofs.service.renewed.Goals as goal

-- a server whose tree and limits stay is ready still
ready_still : {T E : Type 0} (r : Result T E) (limits : Limits) (now before : Server) (table : ConfTable)
    → IsReady limits before table → OnOk r (now.tree ≡ before.tree) → OnOk r (now.limits ≡ before.limits)
    → OnOk r (IsReady limits now table)
ready_still (Ok x) limits now before table ready same most = record {
  within = ready.within;
  room = subst (HasRoom limits) (sym most) ready.room;
  array = ready.array;
  stands = subst (λ t. StandsValid limits t table ready.array) (sym same) ready.stands;
}
ready_still (Err e) limits now before table ready same most = tt

pub are_stale-requires : goal.are_stale-requires
are_stale-requires g c = ap is_some c.in_ok-restarted.ensures.stands.stands.has_tree

pub returns : goal.returns
returns g c =
    let before = (goal.FileServer-dyn g (c.restarted.new.server.vtable, c.restarted.new.server.value)).state
    c.restarted.new.server.value in
    let now = (goal.FileServer-dyn g (c.are_stale.new.server.vtable, c.are_stale.new.server.value)).state
    c.are_stale.new.server.value in
    ready_still c.are_stale.result c.args.limits.now now before c.restarted.new.table c.in_ok-restarted.ensures
    c.are_stale.ensures.same c.are_stale.ensures.limits
