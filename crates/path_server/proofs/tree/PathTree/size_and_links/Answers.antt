use Rattle.std.proofs.Common.{inl, inr, length, ap, arith}
use Rattle.path_server.specs.State.{kept_by}
use Rattle.path_server.proofs.SoundLaws.{few_bytes, short_text}
use Rattle.path_server.proofs.tree.PathTree.size_and_links.Goals as goal

pub overflow_cast-result : goal.overflow_cast-result
overflow_cast-result c =
    let s = c.args.self.now in
    let same = ap length c.bytes.ensures in
    let most = (s.sound c.requires.held).bytes_most in
    let limited = s.limited in
    elim c.in-File.is [
      | inl is ↦ let few = few_bytes s.limits s.next s.bytes (kept_by s) (s.sound c.requires.held) c.args.node.now
          c.args.kept c.requires.kept is in omega (arith, same, most, limited, few)
      | inr is ↦ let few = short_text s.limits s.next s.bytes (kept_by s) (s.sound c.requires.held) c.args.node.now
          c.args.kept c.requires.kept is in omega (arith, same, most, limited, few)
    ]
