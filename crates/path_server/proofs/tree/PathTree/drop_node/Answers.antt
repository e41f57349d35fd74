use Rattle.std.specs.FinMap.{insert, remove}
use Rattle.std.proofs.Common.{refl, ap, arith, ◌∙◌}
use Rattle.path_server.specs.State.{kept_by}
use Rattle.path_server.specs.Slots.{nodes_in, bytes_in}
use Rattle.path_server.proofs.DropLaws.{some_name, some_subdir}
use Rattle.path_server.proofs.LastLaws.{no_names_in, few_last, tree_last, sound_last, stored_last}
use Rattle.path_server.proofs.NamedLaws.{grown, dir_stored}
use Rattle.path_server.proofs.NameCallLaws.{removed_is}
use Rattle.path_server.proofs.tree.PathTree.drop_node.Goals as goal

pub remove-requires-clause-whole : goal.remove-requires-clause-whole
remove-requires-clause-whole c = (c.args.self.now.stored c.requires.held).whole

pub remove-requires-clause-dir : goal.remove-requires-clause-dir
remove-requires-clause-dir c = let s = c.args.self.now in
    dir_stored (kept_by s).nodes s.names (s.stored c.requires.held) c.args.dir.now c.args.within c.requires.dir

pub remove-requires-clause-empty : goal.remove-requires-clause-empty
remove-requires-clause-empty c = let s = c.args.self.now in
    no_names_in s.limits s.next s.bytes (kept_by s) (s.sound c.requires.held) c.args.node.now c.args.kept
    c.requires.node c.requires.bare

pub without_name-requires-clause-names : goal.without_name-requires-clause-names
without_name-requires-clause-names c =
    let s = c.args.self.now in
    let sound = s.sound c.requires.held in
    some_name s.limits s.next s.bytes (kept_by s) sound c.args.dir.now c.args.name.now c.args.within
    c.requires.dir.0 c.requires.dir.1 c.args.node.now c.requires.leads c.args.kept c.requires.node

pub without_name-requires-clause-subdirs : goal.without_name-requires-clause-subdirs
without_name-requires-clause-subdirs c =
    let s = c.args.self.now in
    let sound = s.sound c.requires.held in
    some_subdir s.limits s.next s.bytes (kept_by s) sound c.args.dir.now c.args.name.now c.args.within
    c.requires.dir.0 c.requires.dir.1 c.args.node.now c.requires.leads c.args.kept c.requires.node

pub overflow_add-self : goal.overflow_add-self
overflow_add-self c =
    let s = c.args.self.now in
    let sound = s.sound c.requires.held in
    let put = c.remove-2.ensures.nodes ∙ ap (λ m. remove m c.args.node.now) (c.set.ensures.nodes
    ∙ ap (insert (kept_by s).nodes c.args.dir.now) c.without_name.ensures) in
    let bytes = c.remove-2.ensures.bytes ∙ ap (λ m. remove m c.args.node.now) c.set.ensures.bytes in
    let few = few_last
    s.limits s.next s.bytes (kept_by s) sound c.args.node.now c.args.kept c.requires.node c.requires.bare
    c.args.dir.now c.args.name.now c.args.within c.requires.dir.0 c.requires.dir.1 c.requires.leads c.requires.last
    (nodes_in c.remove-2.new.self) put (bytes_in c.remove-2.new.self) bytes s.names c.remove.new.self refl
    c.in_ok-remove.ensures.dropped c.bytes_alone-bytes.result c.bytes_alone-bytes.ensures in
    let most = sound.bytes_most in
    let limited = s.limited in
    omega (arith, few, most, limited)

pub overflow_sub-self : goal.overflow_sub-self
overflow_sub-self c =
    let s = c.args.self.now in
    let sound = s.sound c.requires.held in
    let put = c.remove-2.ensures.nodes ∙ ap (λ m. remove m c.args.node.now) (c.set.ensures.nodes
    ∙ ap (insert (kept_by s).nodes c.args.dir.now) c.without_name.ensures) in
    let bytes = c.remove-2.ensures.bytes ∙ ap (λ m. remove m c.args.node.now) c.set.ensures.bytes in
    few_last
    s.limits s.next s.bytes (kept_by s) sound c.args.node.now c.args.kept c.requires.node c.requires.bare
    c.args.dir.now c.args.name.now c.args.within c.requires.dir.0 c.requires.dir.1 c.requires.leads c.requires.last
    (nodes_in c.remove-2.new.self) put (bytes_in c.remove-2.new.self) bytes s.names c.remove.new.self refl
    c.in_ok-remove.ensures.dropped c.bytes_alone-bytes.result c.bytes_alone-bytes.ensures

pub remove-requires-2 : goal.remove-requires-2
remove-requires-2 c = grown _ _ _ _ _ c.set.ensures.nodes c.requires.node

pub invariant_of-self-2 : goal.invariant_of-self-2
invariant_of-self-2 c =
    let s = c.args.self.now in
    let sound = s.sound c.requires.held in
    let put = c.remove-2.ensures.nodes ∙ ap (λ m. remove m c.args.node.now) (c.set.ensures.nodes
    ∙ ap (insert (kept_by s).nodes c.args.dir.now) c.without_name.ensures) in
    let bytes = c.remove-2.ensures.bytes ∙ ap (λ m. remove m c.args.node.now) c.set.ensures.bytes in
    record {
      limited = s.limited;
      sound = λ _. sound_last
          s.limits s.next s.bytes (kept_by s) sound c.args.node.now c.args.kept c.requires.node c.requires.bare
          c.args.dir.now c.args.name.now c.args.within c.requires.dir.0 c.requires.dir.1 c.requires.leads c.requires.last
          (nodes_in c.remove-2.new.self) put (bytes_in c.remove-2.new.self) bytes s.names c.remove.new.self refl
          c.in_ok-remove.ensures.dropped c.bytes_alone-bytes.result c.bytes_alone-bytes.ensures;
      stored = λ _. stored_last
          s.limits s.next s.bytes (kept_by s) sound c.args.node.now c.args.kept c.requires.node c.requires.bare
          c.args.dir.now c.args.name.now c.args.within c.requires.dir.0 c.requires.dir.1 c.requires.leads c.requires.last
          (nodes_in c.remove-2.new.self) put (bytes_in c.remove-2.new.self) bytes s.names c.remove.new.self refl
          c.in_ok-remove.ensures.dropped (s.stored c.requires.held);
    }

pub returns-clause-ok : goal.returns-clause-ok
returns-clause-ok c =
    let s = c.args.self.now in
    let sound = s.sound c.requires.held in
    let put = c.remove-2.ensures.nodes ∙ ap (λ m. remove m c.args.node.now) (c.set.ensures.nodes
    ∙ ap (insert (kept_by s).nodes c.args.dir.now) c.without_name.ensures) in
    let bytes = c.remove-2.ensures.bytes ∙ ap (λ m. remove m c.args.node.now) c.set.ensures.bytes in
    removed_is s.held s.limits s.next s.bytes (kept_by s) s.sound c.args.dir.now c.args.name.now c.args.within
    c.requires.dir c.args.node.now c.requires.leads c.requires.held _
    (tree_last
    s.limits s.next s.bytes (kept_by s) sound c.args.node.now c.args.kept c.requires.node c.requires.bare
    c.args.dir.now c.args.name.now c.args.within c.requires.dir.0 c.requires.dir.1 c.requires.leads c.requires.last
    (nodes_in c.remove-2.new.self) put (bytes_in c.remove-2.new.self) bytes s.names c.remove.new.self refl
    c.in_ok-remove.ensures.dropped)
