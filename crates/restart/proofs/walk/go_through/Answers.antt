use Rattle.std.proofs.Common.{sym, subst, length, List}
use Rattle.server_trait.specs.declared.server.Listed.{Listed}
use Rattle.restart.specs.Walk.{AreLive, AreSeen}
use Rattle.restart.proofs.Turns.{still}
use Rattle.restart.proofs.Listing.{has_names, all_live, all_gone}
use Rattle.restart.proofs.walk.go_through.Goals as goal

pub list-requires : goal.list-requires
list-requires g c =
    let s = c.requires.dir in
    record { dir = has_names _ s.0 s.1 s.2 s.3 s.4 s.5 s.7 c.args.dir.now s.6 }

pub see_all-requires : goal.see_all-requires
see_all-requires g c =
    let s = c.requires.dir in
    record {
      seen = (
        s.0,
        s.1,
        still _ _ s.0 s.1 c.in_ok-listed.ensures.same s.2,
        subst (AreLive s.0 s.2.new) (sym c.deref.ensures.value)
            (all_live _ s.0 s.1 s.2 s.3 s.4 s.5 s.7 c.args.dir.now c.in_ok-listed.listed.items s.6 c.in_ok-listed.ensures.listed),
        s.8,
      );
    }

pub returns-clause-gone : goal.returns-clause-gone
returns-clause-gone g c table A k d h at is dir going =
    let live = subst (AreLive table k.new) (sym c.deref.ensures.value)
    (all_live _ table A k d h at dir c.args.dir.now c.in_ok-listed.listed.items is c.in_ok-listed.ensures.listed) in
    let seen = c.in_ok-see_all.ensures.seen table A (still _ _ table A c.in_ok-listed.ensures.same k) live going in (
      seen.0,
      all_gone _ table A k d h at dir c.args.dir.now c.in_ok-listed.listed.items c.see_all.new.found is c.in_ok-listed.ensures.listed
          (subst (λ (rows : List Listed). AreSeen table k.new rows (length rows) c.see_all.new.found) c.deref.ensures.value seen.1),
    )
