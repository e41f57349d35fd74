use Rattle.std.proofs.Common.{Some, refl, ap, ◌∙◌}
use Rattle.path_server.specs.Slots.{nodes_in, bytes_in}
use Rattle.path_server.proofs.Recounted.{two_sets}
use Rattle.path_server.specs.State.{kept_by}
use Rattle.path_server.proofs.LinkLaws.{tree_linked, sound_linked, stored_linked}
use Rattle.path_server.proofs.NamedLaws.{grown, dir_stored, no_path, leaf_is_no_dir}
use Rattle.path_server.proofs.SoundLaws.{few_names, few_subdirs, few_links}
use Rattle.path_server.proofs.tree.PathTree.add_name.Goals as goal

pub add-requires-clause-whole : goal.add-requires-clause-whole
add-requires-clause-whole c = (c.args.self.now.stored c.requires.held).whole

pub add-requires-clause-dir : goal.add-requires-clause-dir
add-requires-clause-dir c = let s = c.args.self.now in
    dir_stored (kept_by s).nodes s.names (s.stored c.requires.held) c.args.dir.now c.args.within c.requires.dir

pub add-requires-clause-no_dir : goal.add-requires-clause-no_dir
add-requires-clause-no_dir c = let s = c.args.self.now in
    no_path (kept_by s).nodes s.names (s.stored c.requires.held) c.args.node.now (leaf_is_no_dir (kept_by s).nodes
    c.args.node.now c.args.kept c.requires.node)

pub with_name-requires-clause-names : goal.with_name-requires-clause-names
with_name-requires-clause-names c = let s = c.args.self.now in
    few_names s.limits s.next s.bytes (kept_by s) (s.sound c.requires.held) c.args.dir.now c.args.within
    c.requires.dir.0 c.requires.dir.1 s.limited

pub with_name-requires-clause-subdirs : goal.with_name-requires-clause-subdirs
with_name-requires-clause-subdirs c = let s = c.args.self.now in
    few_subdirs s.limits s.next s.bytes (kept_by s) (s.sound c.requires.held) c.args.dir.now c.args.within
    c.requires.dir.0 c.requires.dir.1 s.limited

pub linked-requires : goal.linked-requires
linked-requires c = let s = c.args.self.now in
    few_links s.limits s.next s.bytes (kept_by s) (s.sound c.requires.held) c.args.node.now c.args.kept
    c.requires.node.0 s.limited

pub set-requires-2 : goal.set-requires-2
set-requires-2 c = grown _ _ _ _ _ c.set.ensures.nodes c.requires.node.0

pub invariant_of-self-2 : goal.invariant_of-self-2
invariant_of-self-2 c =
    let s = c.args.self.now in
    let sound = s.sound c.requires.held in
    let put = two_sets (kept_by s).nodes c.args.dir.now c.args.node.now c.set.ensures.nodes c.set-2.ensures.nodes c.with_name.ensures c.linked.ensures in
    record {
      limited = s.limited;
      sound = λ _. sound_linked s.limits s.next s.bytes (kept_by s) sound c.args.dir.now c.args.name.now c.args.within
          c.requires.dir.0 c.requires.dir.1 c.requires.new_name c.args.node.now c.args.kept c.requires.node.0
          c.requires.node.1 (nodes_in c.set-2.new.self) put (bytes_in c.set-2.new.self)
          (c.set-2.ensures.bytes ∙ c.set.ensures.bytes) s.names c.add.new.self refl
          c.in_ok-add.ensures.added c.requires.room;
      stored = λ _. stored_linked s.limits s.next s.bytes (kept_by s) sound c.args.dir.now c.args.name.now c.args.within
          c.requires.dir.0 c.requires.dir.1 c.requires.new_name c.args.node.now c.args.kept c.requires.node.0
          c.requires.node.1 (nodes_in c.set-2.new.self) put (bytes_in c.set-2.new.self)
          (c.set-2.ensures.bytes ∙ c.set.ensures.bytes) s.names c.add.new.self refl
          c.in_ok-add.ensures.added (s.stored c.requires.held);
    }

pub returns-clause-ok : goal.returns-clause-ok
returns-clause-ok c =
    let s = c.args.self.now in
    let put = two_sets (kept_by s).nodes c.args.dir.now c.args.node.now c.set.ensures.nodes c.set-2.ensures.nodes c.with_name.ensures c.linked.ensures in
    ap Some (tree_linked s.limits s.next s.bytes (kept_by s) (s.sound c.requires.held) c.args.dir.now c.args.name.now
    c.args.within c.requires.dir.0 c.requires.dir.1 c.requires.new_name c.args.node.now c.args.kept c.requires.node.0
    c.requires.node.1 (nodes_in c.set-2.new.self) put (bytes_in c.set-2.new.self)
    (c.set-2.ensures.bytes ∙ c.set.ensures.bytes) s.names c.add.new.self refl c.in_ok-add.ensures.added)
