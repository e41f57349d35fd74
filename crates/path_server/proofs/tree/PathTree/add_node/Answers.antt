use Rattle.std.specs.FinMap.{insert}
use Rattle.std.proofs.Common.{ap, ◌∙◌}
use Rattle.path_server.specs.Slots.{nodes_in, bytes_in}
use Rattle.path_server.specs.State.{kept_by}
use Rattle.path_server.proofs.MakeLaws.{made_after, sound_made, stored_made}
use Rattle.path_server.proofs.NamedLaws.{IsDirNode, dir_stored, no_path, is_and_none, some_is, grown, unkept_unnamed}
use Rattle.server_trait.proofs.TreeLaws.{some_and}
use Rattle.path_server.proofs.Recounted.{two_sets}
use Rattle.path_server.proofs.SoundLaws.{few_names, few_subdirs}
use Rattle.path_server.proofs.tree.PathTree.add_node.Goals as goal

pub with_name-requires-clause-names : goal.with_name-requires-clause-names
with_name-requires-clause-names c = let s = c.args.self.now in
    few_names s.limits s.next s.bytes (kept_by s) (s.sound c.requires.held) c.args.dir.now c.args.kept
    c.requires.kept c.requires.is_dir s.limited

pub with_name-requires-clause-subdirs : goal.with_name-requires-clause-subdirs
with_name-requires-clause-subdirs c = let s = c.args.self.now in
    few_subdirs s.limits s.next s.bytes (kept_by s) (s.sound c.requires.held) c.args.dir.now c.args.kept
    c.requires.kept c.requires.is_dir s.limited

pub add_new-requires-clause-whole : goal.add_new-requires-clause-whole
add_new-requires-clause-whole c = (c.args.self.now.stored c.requires.held).whole

pub add_new-requires-clause-dir : goal.add_new-requires-clause-dir
add_new-requires-clause-dir c = let s = c.args.self.now in
    dir_stored (kept_by s).nodes s.names (s.stored c.requires.held) c.args.dir.now c.args.kept (
      c.requires.kept,
      c.requires.is_dir,
    )

pub add_new-requires-clause-no_dir : goal.add_new-requires-clause-no_dir
add_new-requires-clause-no_dir c = let s = c.args.self.now in
    no_path (kept_by s).nodes s.names (s.stored c.requires.held) c.in_ok-handle.handle
    (λ there. is_and_none _ IsDirNode there c.in_ok-handle.ensures.absent)

pub add_new-requires-clause-unnamed : goal.add_new-requires-clause-unnamed
add_new-requires-clause-unnamed c = let s = c.args.self.now in
    unkept_unnamed (kept_by s).nodes s.names.names (s.sound c.requires.held).named c.in_ok-handle.handle
    c.in_ok-handle.ensures.absent

pub add_new-requires-clause-room : goal.add_new-requires-clause-room
add_new-requires-clause-room c = λ q there same. absurd (c.in_ok-handle.ensures.apart q
    (some_is (some_and _ IsDirNode (((c.args.self.now.stored c.requires.held).dirs q).0 there)).1) same)

pub set-requires : goal.set-requires
set-requires c = grown _ _ _ _ _ c.in_ok-handle.ensures.nodes c.requires.kept

pub invariant_of-self-2 : goal.invariant_of-self-2
invariant_of-self-2 c =
    let s = c.args.self.now in
    record {
      limited = s.limited;
      sound = λ _. sound_made s.limits s.next s.bytes (kept_by s) (s.sound c.requires.held) c.args.dir.now
          c.args.name.now c.args.kept c.requires.kept c.requires.is_dir c.requires.new_name c.args.kind c.args.bytes.now
          c.in_ok-handle.handle c.in_ok-handle.ensures.handle_is c.in_ok-handle.ensures.absent c.requires.bytes
          c.requires.room c.requires.nodes (nodes_in c.set.new.self)
          (two_sets (kept_by s).nodes c.in_ok-handle.handle c.args.dir.now c.in_ok-handle.ensures.nodes c.set.ensures.nodes
          c.new-node.ensures c.with_name.ensures) (bytes_in c.set.new.self)
          (c.set.ensures.bytes ∙ c.in_ok-handle.ensures.bytes
          ∙ ap (insert (kept_by s).contents c.in_ok-handle.handle) c.in_ok-copy.ensures.items) c.add_new.new.names.names
          c.in_ok-add_new.ensures.added.names c.in-Some.next
          c.in-Some.ensures.1;
      stored = λ _. stored_made s.limits s.next s.bytes (kept_by s) (s.sound c.requires.held) c.args.dir.now
          c.args.name.now c.args.kept c.requires.kept c.requires.is_dir c.requires.new_name c.args.kind c.args.bytes.now
          c.in_ok-handle.handle c.in_ok-handle.ensures.handle_is c.in_ok-handle.ensures.absent c.requires.bytes
          c.requires.room c.requires.nodes (nodes_in c.set.new.self)
          (two_sets (kept_by s).nodes c.in_ok-handle.handle c.args.dir.now c.in_ok-handle.ensures.nodes c.set.ensures.nodes
          c.new-node.ensures c.with_name.ensures) (bytes_in c.set.new.self)
          (c.set.ensures.bytes ∙ c.in_ok-handle.ensures.bytes
          ∙ ap (insert (kept_by s).contents c.in_ok-handle.handle) c.in_ok-copy.ensures.items) c.add_new.new.names.names
          c.in_ok-add_new.ensures.added.names s.names
          c.add_new.new.names (s.stored c.requires.held) c.in_ok-add_new.ensures.added;
    }

pub returns-clause-ok : goal.returns-clause-ok
returns-clause-ok c =
    let s = c.args.self.now in
    made_after s.limits s.next s.bytes (kept_by s) (s.sound c.requires.held) c.args.dir.now
    c.args.name.now c.args.kept c.requires.kept c.requires.is_dir c.requires.new_name c.args.kind c.args.bytes.now
    c.in_ok-handle.handle c.in_ok-handle.ensures.handle_is c.in_ok-handle.ensures.absent c.requires.bytes
    c.requires.room c.requires.nodes (nodes_in c.set.new.self)
    (two_sets (kept_by s).nodes c.in_ok-handle.handle c.args.dir.now c.in_ok-handle.ensures.nodes c.set.ensures.nodes
    c.new-node.ensures c.with_name.ensures) (bytes_in c.set.new.self)
    (c.set.ensures.bytes ∙ c.in_ok-handle.ensures.bytes
    ∙ ap (insert (kept_by s).contents c.in_ok-handle.handle) c.in_ok-copy.ensures.items) c.add_new.new.names.names
    c.in_ok-add_new.ensures.added.names
