use Rattle.std.proofs.Common.{None, slice_index_or, option_copied, sym, ap, ◌∙◌, subst}
use Rattle.std.proofs.lemmas.Slice.Eq.{bytes_eq-Decides}
use Rattle.server_trait.proofs.TreeLaws.{some_same, some_none}
use Rattle.path_store.specs.Placed.{Dirs}
use Rattle.path_store.specs.Stored.{Stored}
use Rattle.path_store.specs.Tables.{HasRoom}
use Rattle.path_store.specs.declared.dirs.DirRow.{DirRow}
use Rattle.path_store.proofs.DirRows.{room_alone}
use Rattle.path_store.proofs.tests.case.has_room.Goals as goal

pub returns-in-Some : goal.returns-in-Some
returns-in-Some c = λ t. subst (λ (m : Dirs). HasRoom m c.args.dir.now) (ap (λ (s : Stored). s.dirs) c.store.view_is)
    (room_alone c.dirs.inside.rows.items c.store.inside.dirs c.dirs.view_is c.dirs.invariant c.place_of.result
    c.args.dir.now (option_copied c.row_at.result) c.place_of.ensures
    (c.row_at.ensures ∙ ap (λ l. slice_index_or l c.place_of.result None) c.as_slice.ensures.value)
    (λ r is. ap (λ (x : DirRow). x.handle) (some_same is (ap option_copied c.in-Some.is))
    ∙ (bytes_eq-Decides c.in-Some.row.now.handle c.args.dir.now).0 (sym c.eq.ensures ∙ t)))

pub returns-in-None : goal.returns-in-None
returns-in-None c = λ _. subst (λ (m : Dirs). HasRoom m c.args.dir.now) (ap (λ (s : Stored). s.dirs) c.store.view_is)
    (room_alone c.dirs.inside.rows.items c.store.inside.dirs c.dirs.view_is c.dirs.invariant c.place_of.result
    c.args.dir.now (option_copied c.row_at.result) c.place_of.ensures
    (c.row_at.ensures ∙ ap (λ l. slice_index_or l c.place_of.result None) c.as_slice.ensures.value)
    (λ r is. absurd (some_none is (ap option_copied c.in-None.is))))
