use Rattle.std.proofs.Common.{Bor, arith, refl, ◌∙◌}
use Rattle.path_store.specs.declared.path.Path.{Path}
use Rattle.path_store.proofs.DirRows.{is_there, there_within, taken_dir, remove_absent}
use Rattle.path_store.proofs.Rows.{none_of}
use Rattle.path_store.proofs.dirs.PathDirs.remove.Goals as goal

pub set_row-requires : goal.set_row-requires
set_row-requires c =
    let there = is_there c.args.self.now c.args.dir.now (λ (x : Bor Path). x.now) c.get.result c.is_some.result
    c.get.ensures.value c.is_some.ensures ∙ c.if-is_some.true in
    let within = there_within c.self.inside.rows.items c.args.self.now c.self.view_is c.self.invariant
    c.args.dir.now there in
    omega (arith, within, c.place_of.ensures, c.self.inside.rows.ok.0)

pub returns-then-is_some : goal.returns-then-is_some
returns-then-is_some c =
    let there = is_there c.args.self.now c.args.dir.now (λ (x : Bor Path). x.now) c.get.result c.is_some.result
    c.get.ensures.value c.is_some.ensures ∙ c.if-is_some.true in
    let within = there_within c.self.inside.rows.items c.args.self.now c.self.view_is c.self.invariant
    c.args.dir.now there in
    taken_dir c.self.inside.rows.items c.args.self.now c.self.view_is c.self.invariant c.self.inside.rows.items
    (λ _. refl) c.place_of.result (omega (arith, within, c.place_of.ensures)) c.set_row.new.rows.items
    c.set_row.ensures c.args.dir.now c.place_of.ensures there

pub returns-else-is_some : goal.returns-else-is_some
returns-else-is_some c = remove_absent c.args.self.now c.args.dir.now (none_of _ (is_there c.args.self.now
    c.args.dir.now (λ (x : Bor Path). x.now) c.get.result c.is_some.result c.get.ensures.value c.is_some.ensures
    ∙ c.if-is_some.false))
