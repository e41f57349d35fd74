use Rattle.conf_map.proofs.Contents.{has_text, text_read}
use Rattle.conf_map.proofs.content.text_of.Goals as goal

pub text_at-requires : goal.text_at-requires
text_at-requires g c =
    let link = c.requires.link in
    has_text _ c.args.table.now link.0 link.1 c.args.at.now.index c.args.at.now.handle c.requires.live link.2

pub returns-clause-text : goal.returns-clause-text
returns-clause-text g c A k is =
    text_read _ c.args.table.now A k c.args.at.now.index c.args.at.now.handle c.requires.live
    c.in_ok-text.text.items is c.in_ok-text.ensures.text
