use Rattle.std.proofs.Common.{sym, ◌∙◌}
use Rattle.restart.proofs.MovedRows.{has_node}
use Rattle.restart.proofs.Noting.{never_none, seen_noted, noted_within}
use Rattle.restart.proofs.walk.see.Goals as goal

pub attr_of-requires : goal.attr_of-requires
attr_of-requires g c =
    let s = c.requires.seen in
    has_node _ s.0 s.1 s.2 s.3 s.4 c.args.handle.now s.5 s.6

pub note-requires : goal.note-requires
note-requires g c =
    let s = c.requires.seen in
    noted_within s.0 s.2.new s.1 c.args.found.now c.in_ok-attr.attr.number c.in-Some.index s.7 (sym c.row_with.ensures ∙ c.in-Some.is)

pub returns-in_default-clause-seen : goal.returns-in_default-clause-seen
returns-in_default-clause-seen g c table A k i h at is going = absurd (never_none _ table A k i h c.args.handle.now c.in_ok-attr.attr c.args.found.now at is
    c.in_ok-attr.ensures.attr going (sym c.row_with.ensures ∙ c.in_default.is))

pub returns-in-Ok-clause-seen : goal.returns-in-Ok-clause-seen
returns-in-Ok-clause-seen g c table A k i h at is going =
    let n = seen_noted _ table A k i c.in-Some.index h c.args.handle.now c.in_ok-attr.attr c.is_dir_attr.result c.args.found.now c.note.new.found at is
    c.in_ok-attr.ensures.attr (sym c.row_with.ensures ∙ c.in-Some.is) c.is_dir_attr.ensures going c.in-Ok.ensures in
    (n.going, n.here)

pub returns-in-Ok-clause-grows : goal.returns-in-Ok-clause-grows
returns-in-Ok-clause-grows g c =
    let s = c.requires.seen in
    (seen_noted _ s.0 s.1 s.2 s.3 c.in-Some.index s.4 c.args.handle.now c.in_ok-attr.attr c.is_dir_attr.result c.args.found.now c.note.new.found s.5 s.6
    c.in_ok-attr.ensures.attr (sym c.row_with.ensures ∙ c.in-Some.is) c.is_dir_attr.ensures s.7 c.in-Ok.ensures).grows
