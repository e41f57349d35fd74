use Rattle.std.proofs.Common.{refl, arith, ◌∙◌}
use Rattle.path_server.specs.Slots.{nodes_in, bytes_in}
use Rattle.path_server.proofs.Recounted.{two_sets}
use Rattle.path_server.specs.State.{kept_by}
use Rattle.path_server.proofs.DropLaws.{some_name, some_subdir, few_dropped, tree_dropped, sound_dropped, stored_dropped}
use Rattle.path_server.proofs.LastLaws.{no_names_in}
use Rattle.path_server.proofs.NamedLaws.{grown, dir_stored}
use Rattle.path_server.proofs.NameCallLaws.{removed_is}
use Rattle.path_server.proofs.tree.PathTree.drop_name.Goals as goal

pub remove-requires-clause-whole : goal.remove-requires-clause-whole
remove-requires-clause-whole c = (c.args.self.now.stored c.requires.held).whole

pub remove-requires-clause-dir : goal.remove-requires-clause-dir
remove-requires-clause-dir c = let s = c.args.self.now in
    dir_stored (kept_by s).nodes s.names (s.stored c.requires.held) c.args.dir.now c.args.within c.requires.dir

pub remove-requires-clause-empty : goal.remove-requires-clause-empty
remove-requires-clause-empty c = let s = c.args.self.now in
    no_names_in s.limits s.next s.bytes (kept_by s) (s.sound c.requires.held) c.args.node.now c.args.kept
    c.requires.node.0 (λ is_dir. absurd (c.requires.node.1 is_dir))

pub without_name-requires-clause-names : goal.without_name-requires-clause-names
without_name-requires-clause-names c =
    let s = c.args.self.now in
    let sound = s.sound c.requires.held in
    some_name s.limits s.next s.bytes (kept_by s) sound c.args.dir.now c.args.name.now c.args.within
    c.requires.dir.0 c.requires.dir.1 c.args.node.now c.requires.leads c.args.kept c.requires.node.0

pub without_name-requires-clause-subdirs : goal.without_name-requires-clause-subdirs
without_name-requires-clause-subdirs c =
    let s = c.args.self.now in
    let sound = s.sound c.requires.held in
    some_subdir s.limits s.next s.bytes (kept_by s) sound c.args.dir.now c.args.name.now c.args.within
    c.requires.dir.0 c.requires.dir.1 c.args.node.now c.requires.leads c.args.kept c.requires.node.0

pub unlinked-requires : goal.unlinked-requires
unlinked-requires c = let more = c.requires.more in omega (arith, more)

pub overflow_sub-self : goal.overflow_sub-self
overflow_sub-self c =
    let s = c.args.self.now in
    let sound = s.sound c.requires.held in
    let put = two_sets (kept_by s).nodes c.args.dir.now c.args.node.now c.set.ensures.nodes c.set-2.ensures.nodes c.without_name.ensures c.unlinked.ensures in
    few_dropped s.limits s.next s.bytes (kept_by s) sound c.args.dir.now c.args.name.now c.args.within
    c.requires.dir.0 c.requires.dir.1 c.args.node.now c.requires.leads c.args.kept c.requires.node.0
    c.requires.node.1 (nodes_in c.set-2.new.self) put (bytes_in c.set-2.new.self)
    (c.set-2.ensures.bytes ∙ c.set.ensures.bytes) s.names c.remove.new.self refl c.in_ok-remove.ensures.dropped

pub set-requires-2 : goal.set-requires-2
set-requires-2 c = grown _ _ _ _ _ c.set.ensures.nodes c.requires.node.0

pub invariant_of-self-2 : goal.invariant_of-self-2
invariant_of-self-2 c =
    let s = c.args.self.now in
    let sound = s.sound c.requires.held in
    let put = two_sets (kept_by s).nodes c.args.dir.now c.args.node.now c.set.ensures.nodes c.set-2.ensures.nodes c.without_name.ensures c.unlinked.ensures in
    record {
      limited = s.limited;
      sound = λ _. sound_dropped s.limits s.next s.bytes (kept_by s) sound c.args.dir.now c.args.name.now c.args.within
          c.requires.dir.0 c.requires.dir.1 c.args.node.now c.requires.leads c.args.kept c.requires.node.0
          c.requires.node.1 (nodes_in c.set-2.new.self) put (bytes_in c.set-2.new.self)
          (c.set-2.ensures.bytes ∙ c.set.ensures.bytes) s.names c.remove.new.self refl
          c.in_ok-remove.ensures.dropped;
      stored = λ _. stored_dropped s.limits s.next s.bytes
          (kept_by s) sound c.args.dir.now c.args.name.now c.args.within
          c.requires.dir.0 c.requires.dir.1 c.args.node.now c.requires.leads c.args.kept c.requires.node.0
          c.requires.node.1 (nodes_in c.set-2.new.self) put (bytes_in c.set-2.new.self)
          (c.set-2.ensures.bytes ∙ c.set.ensures.bytes) s.names c.remove.new.self refl
          c.in_ok-remove.ensures.dropped (s.stored c.requires.held);
    }

pub returns-clause-ok : goal.returns-clause-ok
returns-clause-ok c =
    let s = c.args.self.now in
    let sound = s.sound c.requires.held in
    let put = two_sets (kept_by s).nodes c.args.dir.now c.args.node.now c.set.ensures.nodes c.set-2.ensures.nodes c.without_name.ensures c.unlinked.ensures in
    removed_is s.held s.limits s.next s.bytes (kept_by s) s.sound c.args.dir.now c.args.name.now c.args.within
    c.requires.dir c.args.node.now c.requires.leads c.requires.held _
    (tree_dropped s.limits s.next s.bytes (kept_by s) sound c.args.dir.now c.args.name.now c.args.within
    c.requires.dir.0 c.requires.dir.1 c.args.node.now c.requires.leads c.args.kept c.requires.node.0
    c.requires.node.1 (nodes_in c.set-2.new.self) put (bytes_in c.set-2.new.self)
    (c.set-2.ensures.bytes ∙ c.set.ensures.bytes) s.names c.remove.new.self refl
    c.in_ok-remove.ensures.dropped c.requires.more)
