use Rattle.log_mount.proofs.MountLaws.{sound_of}
use Rattle.log_mount.proofs.mount.read_log.Goals as goal

pub tell_nodes-requires-clause-placed : goal.tell_nodes-requires-clause-placed
tell_nodes-requires-clause-placed g c =
    let s = sound_of c.args.tree.now.limits _ c.requires.held in
    let e = c.in_ok-replay.ensures in
    rw (e.content, e.size) s.placed

pub tell_names-requires-clause-placed : goal.tell_names-requires-clause-placed
tell_names-requires-clause-placed g c =
    let s = sound_of c.args.tree.now.limits _ c.requires.held in
    let e = c.in_ok-replay.ensures in
    let r = c.in_ok-tell_nodes.ensures.reads in
    rw (r.content_is, r.size_is, e.content, e.size) s.placed

pub tell_names-requires-clause-tied : goal.tell_names-requires-clause-tied
tell_names-requires-clause-tied g c =
    let s = sound_of c.args.tree.now.limits _ c.requires.held in
    let e = c.in_ok-replay.ensures in
    let r = c.in_ok-tell_nodes.ensures.reads in
    rw (r.content_is, r.size_is, e.content, e.size) s.tied

pub returns-clause-kept : goal.returns-clause-kept
returns-clause-kept g c =
    let s = sound_of c.args.tree.now.limits _ c.requires.held in
    let e = c.in_ok-replay.ensures in
    let r = c.in_ok-tell_nodes.ensures.reads in
    let w = c.in_ok-tell_names.ensures.reads in
    record {
      store = w.store;
      sound = rw (w.content_is, w.size_is, r.content_is, r.size_is, e.content, e.size) s;
      indexed = rw (w.content_is, w.size_is) c.in_ok-tell_names.ensures.indexed;
      large = rw (w.size_is, r.size_is, e.size) c.requires.large;
    }
