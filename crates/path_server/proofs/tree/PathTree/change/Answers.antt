use Rattle.std.proofs.Common.{Some, ap, length}
use Rattle.path_server.specs.Slots.{nodes_in, bytes_in}
use Rattle.path_server.specs.State.{kept_by}
use Rattle.path_server.proofs.FileLaws.{few_taken, sound_rewritten, tree_rewritten}
use Rattle.path_server.proofs.tree.PathTree.change.Goals as goal

pub overflow_sub-self : goal.overflow_sub-self
overflow_sub-self c =
    let s = c.args.self.now in
    few_taken (kept_by s) c.args.file.now c.requires.file c.args.size c.args.offset c.args.piece.now c.requires.end
    (nodes_in c.rewrite.new.self) c.in_ok-rewrite.ensures.nodes (bytes_in c.rewrite.new.self)
    c.in_ok-rewrite.ensures.bytes s.limits s.next s.bytes (s.sound c.requires.held) (length c.bytes-len.result.now)
    (ap length c.bytes-len.ensures)

pub invariant_of-self-2 : goal.invariant_of-self-2
invariant_of-self-2 c =
    let s = c.args.self.now in
    record {
      limited = s.limited;
      sound = λ _. sound_rewritten (kept_by s) c.args.file.now c.requires.file c.args.size c.args.offset
          c.args.piece.now c.requires.end (nodes_in c.rewrite.new.self) c.in_ok-rewrite.ensures.nodes
          (bytes_in c.rewrite.new.self) c.in_ok-rewrite.ensures.bytes s.limits s.next s.bytes
          (s.sound c.requires.held) (length c.bytes-len.result.now) (ap length c.bytes-len.ensures) c.requires.room;
      stored = λ _. rw c.in_ok-rewrite.ensures.nodes (s.stored c.requires.held);
    }

pub returns-clause-ok : goal.returns-clause-ok
returns-clause-ok c =
    let s = c.args.self.now in
    ap Some (tree_rewritten (kept_by s) c.args.file.now c.requires.file c.args.size c.args.offset c.args.piece.now
    c.requires.end (nodes_in c.rewrite.new.self) c.in_ok-rewrite.ensures.nodes (bytes_in c.rewrite.new.self)
    c.in_ok-rewrite.ensures.bytes)
