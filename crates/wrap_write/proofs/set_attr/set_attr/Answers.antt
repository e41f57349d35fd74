use Rattle.std.proofs.Common.{refl, sym, ◌∙◌, subst}
use Rattle.nfs2_types.specs.Call as calls
use Rattle.abs_model.specs.Array.{entry_at}
use Rattle.node_changes.specs.Settings.{entry_set}
use Rattle.conf_map.specs.Stands.{HasRoom}
use Rattle.conf_map.proofs.Performed.{refusal_performs}
use Rattle.conf_map.proofs.Shows.{stand_valid, live_within}
use Rattle.wrap_write.proofs.Asked.{can_set}
use Rattle.wrap_write.proofs.OneObject.{nobody, one_again, one_performs}
use Rattle.wrap_write.proofs.set_attr.set_attr.Goals as goal

pub to_set-requires : goal.to_set-requires
to_set-requires g c = (
  c.requires.can.array,
  stand_valid c.args.limits.now _ c.args.table.now c.requires.can.array c.requires.can.within c.requires.can.stands,
)

pub returns-in-Err-clause-performs : goal.returns-in-Err-clause-performs
returns-in-Err-clause-performs g c A cred k =
    let k' = stand_valid c.args.limits.now _ c.args.table.now A c.requires.can.within k in
    refusal_performs ((c.in_ok-target.ensures.found A k').refused c.in-Err.refused c.in-Err.is)
    c.in_ok-target.ensures.same k

pub modify-requires-clause-within : goal.modify-requires-clause-within
modify-requires-clause-within g c =
    let k = stand_valid c.args.limits.now _ c.args.table.now c.requires.can.array c.requires.can.within c.requires.can.stands in
    let found = (c.in_ok-target.ensures.found c.requires.can.array k).found c.in-Ok.target c.in-Ok.is in
    live_within c.args.table.now.rows.items c.in-Ok.target.at.index c.in-Ok.target.at.handle found.1.live

pub set_object-requires : goal.set_object-requires
set_object-requires g c = (
  c.requires.can.array,
  can_set c.args.limits.now c.requires.can.within _ c.args.table.now c.requires.can.array c.requires.can.stands _
      (c.in_ok-modify.ensures.tree ∙ c.in_ok-target.ensures.same)
      (subst (HasRoom c.args.limits.now)
      (sym (c.in_ok-modify.ensures.watched.limits ∙ c.in_ok-target.ensures.watched.limits)) c.requires.can.room)
      c.args.node.now c.in-Ok.target c.args.sattr.now
      ((c.in_ok-target.ensures.found c.requires.can.array
      (stand_valid c.args.limits.now _ c.args.table.now c.requires.can.array c.requires.can.within c.requires.can.stands)).found c.in-Ok.target c.in-Ok.is),
)

pub fattr_at-requires-clause-stands : goal.fattr_at-requires-clause-stands
fattr_at-requires-clause-stands g c =
    let asked = can_set c.args.limits.now c.requires.can.within _ c.args.table.now c.requires.can.array c.requires.can.stands _
    (c.in_ok-modify.ensures.tree ∙ c.in_ok-target.ensures.same)
    (subst (HasRoom c.args.limits.now)
    (sym (c.in_ok-modify.ensures.watched.limits ∙ c.in_ok-target.ensures.watched.limits)) c.requires.can.room)
    c.args.node.now c.in-Ok.target c.args.sattr.now
    ((c.in_ok-target.ensures.found c.requires.can.array
    (stand_valid c.args.limits.now _ c.args.table.now c.requires.can.array c.requires.can.within c.requires.can.stands)).found c.in-Ok.target c.in-Ok.is) in (
      _,
      one_again c.args.limits.now c.requires.can.within _ c.args.table.now c.requires.can.array c.requires.can.stands nobody c.args.time
          c.requires.can.time (calls.set_attr c.args.node.now c.args.sattr.now) c.requires.fits
          c.args.node.now c.in-Ok.target
          ((c.in_ok-target.ensures.found c.requires.can.array
          (stand_valid c.args.limits.now _ c.args.table.now c.requires.can.array c.requires.can.within c.requires.can.stands)).found c.in-Ok.target c.in-Ok.is)
          (λ i. entry_set (entry_at c.requires.can.array i) c.args.sattr.now c.args.time) refl
          _ c.set_object.new.table (c.in_ok-set_object.ensures.stands c.requires.can.array asked)
          (c.in_ok-set_object.ensures.tallied c.requires.can.array asked),
    )

pub returns-clause-performs : goal.returns-clause-performs
returns-clause-performs g c A cred k =
    let asked = can_set c.args.limits.now c.requires.can.within _ c.args.table.now A k _
    (c.in_ok-modify.ensures.tree ∙ c.in_ok-target.ensures.same)
    (subst (HasRoom c.args.limits.now)
    (sym (c.in_ok-modify.ensures.watched.limits ∙ c.in_ok-target.ensures.watched.limits)) c.requires.can.room)
    c.args.node.now c.in-Ok.target c.args.sattr.now
    ((c.in_ok-target.ensures.found A
    (stand_valid c.args.limits.now _ c.args.table.now A c.requires.can.within k)).found c.in-Ok.target c.in-Ok.is) in
    one_performs c.args.limits.now c.requires.can.within _ c.args.table.now A k cred c.args.time
    c.requires.can.time (calls.set_attr c.args.node.now c.args.sattr.now) c.requires.fits
    c.args.node.now c.in-Ok.target
    ((c.in_ok-target.ensures.found A
    (stand_valid c.args.limits.now _ c.args.table.now A c.requires.can.within k)).found c.in-Ok.target c.in-Ok.is)
    (λ i. entry_set (entry_at A i) c.args.sattr.now c.args.time) refl
    _ c.set_object.new.table (c.in_ok-set_object.ensures.stands A asked) (c.in_ok-set_object.ensures.tallied A asked)
    (λ B. refl) c.in_ok-fattr.ensures.fattr c.in_ok-fattr.ensures.same c.in_ok-modify.ensures.told
    c.in_ok-modify.ensures.noticed c.in_ok-target.ensures.same
