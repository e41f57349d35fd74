use Rattle.std.proofs.Common.{◌++◌, Option, sym, ap, ◌∙◌, subst}
use Rattle.server_trait.specs.Tree.{Tree}
use Rattle.abs_model.specs.Objects.{names_of}
use Rattle.abs_model.specs.Array.{entry_at, parent}
use Rattle.abs_model.specs.Listed.{dots}
use Rattle.conf_map.specs.Contents.{AreRows}
use Rattle.conf_map.specs.Stands.{StandValid}
use Rattle.conf_map.proofs.Seen.{located_live}
use Rattle.wrap_read.specs.Rows.{all_entries}
use Rattle.wrap_read.proofs.ListAnswers.{small, fileids_small, listed_few, parent_row, parent_small, list_stale, list_other, list_answer}
use Rattle.wrap_read.proofs.Pages.{entries_are}
use Rattle.wrap_read.proofs.read_dir.read_dir.Goals as goal

pub returns-in_default-clause-result : goal.returns-in_default-clause-result
returns-in_default-clause-result g c A limits cred t k =
    list_stale A limits cred t _ c.args.table.now k c.args.dir.now c.args.cookie c.args.count c.in_default.ensures

pub returns-then-not-branch-clause-result : goal.returns-then-not-branch-clause-result
returns-then-not-branch-clause-result g c A limits cred t k =
    list_other A limits cred t _ c.args.table.now k c.args.dir.now c.args.cookie c.args.count
    c.in-Some.d c.in-Some.ensures (sym (c.in_ok-is_dir.ensures.is_dir A k) ∙ c.if-not-branch.true)

pub names_of-requires-clause-dir : goal.names_of-requires-clause-dir
names_of-requires-clause-dir g c =
    let A = c.requires.0 in (
      A,
      subst (λ (s : Option Tree). StandValid s c.args.table.now A) (sym c.in_ok-is_dir.ensures.same) c.requires.1,
      sym (c.in_ok-is_dir.ensures.is_dir A c.requires.1) ∙ c.if-not-branch.false,
    )

pub names_of-requires-clause-live : goal.names_of-requires-clause-live
names_of-requires-clause-live g c =
    located_live c.args.table.now.rows.items c.args.dir.now c.in-Some.d (sym c.in-Some.ensures)

pub page-requires : goal.page-requires
page-requires g c =
    let A = c.requires.0 in
    let k = c.requires.1 in
    let table = c.args.table.now in
    let is_d = sym (c.in_ok-is_dir.ensures.is_dir A k) ∙ c.if-not-branch.false in
    let k' = subst (λ (s : Option Tree). StandValid s table A) (sym c.in_ok-is_dir.ensures.same) k in
    let live = located_live table.rows.items c.args.dir.now c.in-Some.d (sym c.in-Some.ensures) in
    record {
      dir = small _ table A k c.in-Some.d live;
      parent_dir = parent_small _ table A k c.in-Some.d live is_d c.index.result.now c.index.ensures;
      fileids = fileids_small _ table A k;
      few = listed_few _ table A k c.in-Some.d live c.deref.result.now
          (subst (λ ls. AreRows table ls (names_of (entry_at A c.in-Some.d.index))) (sym c.deref.ensures.value)
          (c.in_ok-names.ensures.rows A k' is_d));
    }

pub returns-clause-result : goal.returns-clause-result
returns-clause-result g c A limits cred t k =
    let table = c.args.table.now in
    let d = c.in-Some.d in
    let is_d = sym (c.in_ok-is_dir.ensures.is_dir A k) ∙ c.if-not-branch.false in
    let k' = subst (λ (s : Option Tree). StandValid s table A) (sym c.in_ok-is_dir.ensures.same) k in
    let live = located_live table.rows.items c.args.dir.now d (sym c.in-Some.ensures) in
    let names = names_of (entry_at A d.index) in
    let listed = ap (all_entries table d.index c.index.result.now.parent) c.deref.ensures.value
    ∙ ap (λ p. all_entries table d.index p c.in_ok-names.names.items)
    (parent_row _ table A k d live is_d c.index.result.now c.index.ensures)
    ∙ ap (λ es. dots d.index (parent A d.index) ++ es)
    (entries_are table 3 c.in_ok-names.names.items names (c.in_ok-names.ensures.rows A k' is_d)) in
    list_answer A limits cred t _ table k c.args.dir.now c.args.cookie c.args.count
    d c.in-Some.ensures is_d _ c.in_ok-listed.listed listed c.in_ok-listed.ensures
