use Rattle.std.proofs.Common.{sym, ◌∙◌}
use Rattle.path_server.specs.State.{kept_by}
use Rattle.path_server.proofs.CallLaws.{attr-ok, attr-stale}
use Rattle.path_server.proofs.tree.PathTree.attr.Goals as goal

pub size_and_links-size-requires-clause-kept : goal.size_and_links-size-requires-clause-kept
size_and_links-size-requires-clause-kept c = sym c.get.ensures ∙ c.in-Some.is

pub returns : goal.returns
returns c =
    let s = c.args.self.now in
    attr-ok s.held s.limits s.next s.bytes (kept_by s) s.sound c.args.node.now c.in-Some.kept
    c.size_and_links-size.result.0 c.size_and_links-size.result.1 (record { secs = 0; micros = 0 })
    (sym c.get.ensures
    ∙ c.in-Some.is) (λ _. (c.size_and_links-size.ensures.size, c.size_and_links-size.ensures.links))

pub returns-in_default : goal.returns-in_default
returns-in_default c =
    let s = c.args.self.now in
    attr-stale s.held s.limits s.next s.bytes (kept_by s) s.sound c.args.node.now (sym c.get.ensures ∙ c.in_default.is)
