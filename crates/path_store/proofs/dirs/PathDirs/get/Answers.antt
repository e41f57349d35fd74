use Rattle.std.proofs.Common.{None, is_some, slice_index_or, option_copied, sym, ap, ◌∙◌}
use Rattle.path_store.proofs.DirRows.{none_got, other_got, path_got, room_there}
use Rattle.path_store.proofs.Rows.{alike, unlike}
use Rattle.path_store.proofs.dirs.PathDirs.get.Goals as goal

pub returns-in_default-clause-value : goal.returns-in_default-clause-value
returns-in_default-clause-value c = none_got c.self.inside.rows.items c.args.self.now c.self.view_is c.self.invariant
    c.place_of.result c.args.dir.now (option_copied c.row_at.result) c.place_of.ensures
    (c.row_at.ensures ∙ ap (λ l. slice_index_or l c.place_of.result None) c.as_slice.ensures.value)
    (ap option_copied c.in_default.is)

pub returns-then-ne-clause-value : goal.returns-then-ne-clause-value
returns-then-ne-clause-value c = other_got c.self.inside.rows.items c.args.self.now c.self.view_is c.self.invariant
    c.place_of.result c.args.dir.now (option_copied c.row_at.result) c.in-Some.row.now c.place_of.ensures
    (c.row_at.ensures ∙ ap (λ l. slice_index_or l c.place_of.result None) c.as_slice.ensures.value)
    (ap option_copied c.in-Some.is) (unlike _ _ (sym c.ne.ensures ∙ c.if-ne.true))

pub returns-clause-value : goal.returns-clause-value
returns-clause-value c = path_got c.self.inside.rows.items c.args.self.now c.self.view_is c.self.invariant
    c.place_of.result c.args.dir.now (option_copied c.row_at.result) c.in-Some.row.now c.place_of.ensures
    (c.row_at.ensures ∙ ap (λ l. slice_index_or l c.place_of.result None) c.as_slice.ensures.value)
    (ap option_copied c.in-Some.is) (alike _ _ (sym c.ne.ensures ∙ c.if-ne.false))

pub returns-clause-room : goal.returns-clause-room
returns-clause-room c = λ _. room_there c.self.inside.rows.items c.args.self.now c.self.view_is c.self.invariant
    c.args.dir.now (ap is_some (sym (path_got c.self.inside.rows.items c.args.self.now c.self.view_is c.self.invariant
    c.place_of.result c.args.dir.now (option_copied c.row_at.result) c.in-Some.row.now c.place_of.ensures
    (c.row_at.ensures ∙ ap (λ l. slice_index_or l c.place_of.result None) c.as_slice.ensures.value)
    (ap option_copied c.in-Some.is) (alike _ _ (sym c.ne.ensures ∙ c.if-ne.false)))))
