use Rattle.conf_map.proofs.Contents.{has_bytes, bytes_read}
use Rattle.conf_map.proofs.content.bytes_of.Goals as goal

pub bytes_at-requires : goal.bytes_at-requires
bytes_at-requires g c =
    let file = c.requires.file in
    has_bytes _ c.args.table.now file.0 file.1 c.args.at.now.index c.args.at.now.handle c.requires.live file.2

pub returns-clause-bytes : goal.returns-clause-bytes
returns-clause-bytes g c A k is =
    bytes_read _ c.args.table.now A k c.args.at.now.index c.args.at.now.handle c.requires.live
    c.args.offset c.args.count c.in_ok-bytes.bytes.items is c.in_ok-bytes.ensures.bytes
