use Rattle.std.proofs.Common.{Option, sym, ◌∙◌, subst}
use Rattle.server_trait.specs.Tree.{Tree}
use Rattle.conf_map.specs.Stands.{StandValid}
use Rattle.conf_map.proofs.KindTests.{link_test}
use Rattle.conf_map.proofs.Seen.{located_live}
use Rattle.wrap_read.proofs.ContentAnswers.{link_stale, link_other, link_answer}
use Rattle.wrap_read.proofs.content.read_link.Goals as goal

pub returns-in_default-clause-result : goal.returns-in_default-clause-result
returns-in_default-clause-result g c A limits cred t k =
    link_stale A limits cred t _ c.args.table.now k.stands c.args.node.now c.in_default.ensures

pub returns-then-not-is_link-clause-result : goal.returns-then-not-is_link-clause-result
returns-then-not-is_link-clause-result g c A limits cred t k =
    link_other A limits cred t _ c.args.table.now k.stands c.args.node.now c.in-Some.at c.in-Some.ensures
    (sym (c.in_ok-attr.ensures.seen A k).link
    ∙ sym (link_test c.is_link.result c.in_ok-attr.attr.kind c.is_link.ensures)
    ∙ c.if-not-is_link.true)

pub text_of-requires : goal.text_of-requires
text_of-requires g c =
    let A = c.requires.0 in
    record {
      link = (
        A,
        subst (λ (s : Option Tree). StandValid s c.args.table.now A) (sym c.in_ok-attr.ensures.same) c.requires.1,
        sym (c.in_ok-attr.ensures.seen A c.requires.1).link
            ∙ sym (link_test c.is_link.result c.in_ok-attr.attr.kind c.is_link.ensures) ∙ c.if-not-is_link.false,
      );
      live = located_live c.args.table.now.rows.items c.args.node.now c.in-Some.at (sym c.in-Some.ensures);
    }

pub returns-clause-result : goal.returns-clause-result
returns-clause-result g c A limits cred t k =
    let kind = sym (c.in_ok-attr.ensures.seen A k).link
    ∙ sym (link_test c.is_link.result c.in_ok-attr.attr.kind c.is_link.ensures) ∙ c.if-not-is_link.false in
    let k' = subst (λ (s : Option Tree). StandValid s c.args.table.now A) (sym c.in_ok-attr.ensures.same) k in
    link_answer A limits cred t _ c.args.table.now k.stands c.args.node.now c.in-Some.at c.in-Some.ensures c.new.result
    kind (c.new.ensures ∙ c.in_ok-text.ensures.text A k' kind)
