use Rattle.std.proofs.Common.{Option, sym, subst}
use Rattle.server_trait.specs.Tree.{Tree}
use Rattle.conf_map.specs.Stands.{StandValid}
use Rattle.wrap_read.specs.Reads.{StepFound}
use Rattle.wrap_read.proofs.ReadAnswers.{lookup_refused, lookup_missing, lookup_answer}
use Rattle.wrap_read.proofs.lookup.lookup.Goals as goal

pub returns-in-Err-clause-result : goal.returns-in-Err-clause-result
returns-in-Err-clause-result g c A limits cred t k =
    lookup_refused A limits cred t c.args.dir.now c.args.name.now c.in-Err.status
    ((c.in_ok-d.ensures.found A k).refused c.in-Err.status c.in-Err.is)

pub step-requires-clause-dir : goal.step-requires-clause-dir
step-requires-clause-dir g c =
    let A = c.requires.stands.0 in
    let d = ((c.in_ok-d.ensures.found A c.requires.stands.1).found c.in-Ok.d c.in-Ok.is).1 in (
      A,
      subst (λ (s : Option Tree). StandValid s c.args.table.now A) (sym c.in_ok-d.ensures.same) c.requires.stands.1,
      d.is_dir,
    )

pub step-requires-clause-live : goal.step-requires-clause-live
step-requires-clause-live g c =
    ((c.in_ok-d.ensures.found c.requires.stands.0 c.requires.stands.1).found c.in-Ok.d c.in-Ok.is).1.live

pub step-requires-clause-good : goal.step-requires-clause-good
step-requires-clause-good g c =
    ((c.in_ok-d.ensures.found c.requires.stands.0 c.requires.stands.1).found c.in-Ok.d c.in-Ok.is).1.good

pub returns-in_default-clause-result : goal.returns-in_default-clause-result
returns-in_default-clause-result g c A limits cred t k =
    let found = (c.in_ok-d.ensures.found A k).found c.in-Ok.d c.in-Ok.is in
    let d = found.1 in
    let k' = subst (λ (s : Option Tree). StandValid s c.args.table.now A) (sym c.in_ok-d.ensures.same) k in
    lookup_missing A limits cred t c.args.table.now.rows.items c.args.dir.now c.args.name.now c.in-Ok.d found.0 d
    (subst (StepFound A c.args.table.now.rows.items c.in-Ok.d.index c.args.name.now) c.in_default.is
    (c.in_ok-found.ensures.found A k' d.is_dir))

pub returns-clause-result : goal.returns-clause-result
returns-clause-result g c A limits cred t k =
    let found = (c.in_ok-d.ensures.found A k).found c.in-Ok.d c.in-Ok.is in
    let d = found.1 in
    let k' = subst (λ (s : Option Tree). StandValid s c.args.table.now A) (sym c.in_ok-d.ensures.same) k in
    let k'' = subst (λ (s : Option Tree). StandValid s c.args.table.now A) (sym c.in_ok-found.ensures.same) k' in
    lookup_answer A limits cred t c.args.table.now.rows.items c.args.dir.now c.args.name.now c.in-Ok.d found.0 d c.in-Some.found c.in_ok-node.node
    (subst (StepFound A c.args.table.now.rows.items c.in-Ok.d.index c.args.name.now) c.in-Some.is
    (c.in_ok-found.ensures.found A k' d.is_dir)) (c.in_ok-node.ensures.node A k'')
