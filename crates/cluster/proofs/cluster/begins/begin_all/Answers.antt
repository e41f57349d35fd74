use Rattle.std.proofs.Common.{ap, ◌∙◌}
use Rattle.std.specs.Prelude.{Vec}
use Rattle.std.specs.declared.alloc.Global.{Global}
use Rattle.server_trait.specs.declared.FaultPoint.{FaultPoint}
use Rattle.cluster.proofs.BeginClauses.{begun_first, later_first, begun_more}
use Rattle.cluster.proofs.Struck.{later_then, room_later}
use Rattle.cluster.proofs.cluster.begins.begin_all.Goals as goal

pub loop-r-init : goal.loop-r-init
loop-r-init g c = record {
  begun = begun_first _ c.args.limits.now _ _ _ _ _ _ c.prepare.ensures.servers c.new.ensures.items
      c.new-2.ensures.items c.new-3.ensures.items;
  later = later_first _ c.args.limits.now _ _ _ c.prepare.ensures.servers;
  tables = c.in_ok-prepare.ensures.tables;
  downs = c.prepare.ensures.downs;
}

pub begin-requires-clause-room : goal.begin-requires-clause-room
begin-requires-clause-room g c = room_later _ c.args.limits.now _ _ _ c.loop-r.invariant.later c.requires.room

pub returns-in_err-begin-clause-servers : goal.returns-in_err-begin-clause-servers
returns-in_err-begin-clause-servers g c = later_then _ _ _ _ _ c.loop-r.invariant.later
    (c.begin.ensures.servers c.args.replicas c.loop-r-test.true)

pub loop-r-preserved : goal.loop-r-preserved
loop-r-preserved g c = record {
  begun = begun_more _ c.args.limits.now c.requires.within.0 c.loop-r.r _ _ _ _ _ _ _ _ _ _ _ c.loop-r.invariant.begun
      c.in_ok-begin.ensures.begins;
  later = later_then _ _ _ _ _ c.loop-r.invariant.later (c.begin.ensures.servers c.args.replicas c.loop-r-test.true);
  tables = c.begin.ensures.tables ∙ c.loop-r.invariant.tables;
  downs = ap (λ (d : Vec FaultPoint Global). d.items) c.begin.ensures.downs ∙ c.loop-r.invariant.downs;
}
