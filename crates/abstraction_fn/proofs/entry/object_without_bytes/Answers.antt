use Rattle.std.proofs.Common.{[], Option, sym, ap, ◌∙◌, subst}
use Rattle.server_trait.specs.Tree.{Tree}
use Rattle.abs_model.specs.declared.Object.TheVariants.{File, Dir, Link}
use Rattle.conf_map.specs.Stands.{StandValid}
use Rattle.conf_map.specs.Found.{is_dir_kind, is_link_kind}
use Rattle.abstraction_fn.proofs.Entries.{file_is, dir_is, link_is}
use Rattle.abstraction_fn.proofs.entry.object_without_bytes.Goals as goal

pub returns-in-File-clause-object : goal.returns-in-File-clause-object
returns-in-File-clause-object g c A k =
    let at = c.args.at.now in
    let seen = c.in_ok-seen.ensures.seen A k in
    ap (λ b. File c.attr_of-attr.result b) (c.new-in-File.ensures ∙ c.new.ensures.items)
    ∙ ap (λ a. File a []) c.attr_of-attr.ensures
    ∙ file_is _ c.args.table.now A k at.index at.handle c.requires.live c.args.row.now c.requires.row
    c.in_ok-seen.seen seen c.in-File.is

pub returns-in_ok-names-in-Dir-clause-object : goal.returns-in_ok-names-in-Dir-clause-object
returns-in_ok-names-in-Dir-clause-object g c A k =
    let at = c.args.at.now in
    let seen = c.in_ok-seen.ensures.seen A k in
    let k' = subst (λ (s : Option Tree). StandValid s c.args.table.now A) (sym c.in_ok-seen.ensures.same) k in
    let dir = sym seen.dir ∙ ap is_dir_kind c.in-Dir.is in
    let names = c.in_ok-names-in-Dir.names in
    ap (λ a. Dir a names) c.attr_of-attr.ensures
    ∙ dir_is _ c.args.table.now A k at.index at.handle c.requires.live c.args.row.now c.requires.row
    c.in_ok-seen.seen seen names c.in-Dir.is (c.in_ok-names-in-Dir.ensures.rows A k' dir)

pub returns-in_ok-text-in-Link-clause-object : goal.returns-in_ok-text-in-Link-clause-object
returns-in_ok-text-in-Link-clause-object g c A k =
    let at = c.args.at.now in
    let seen = c.in_ok-seen.ensures.seen A k in
    let k' = subst (λ (s : Option Tree). StandValid s c.args.table.now A) (sym c.in_ok-seen.ensures.same) k in
    let link = sym seen.link ∙ ap is_link_kind c.in-Link.is in
    let text = c.new-in-Link.ensures ∙ c.in_ok-text-in-Link.ensures.text A k' link in
    ap (λ a. Link a c.new-in-Link.result) c.attr_of-attr.ensures
    ∙ link_is _ c.args.table.now A k at.index at.handle c.requires.live c.args.row.now c.requires.row
    c.in_ok-seen.seen seen c.new-in-Link.result c.in-Link.is text
