use Rattle.std.proofs.Common.{◌∙◌, ◌+◌, ◌<◌, sym, arith}
use Rattle.inode_tree.specs.Kept.{tables_of}
use Rattle.inode_mount.specs.Reading.{files_in}
use Rattle.inode_mount.proofs.NamedLaws.{inode-few, links-few, subdirs-few, used-within, named-more}
use Rattle.inode_mount.proofs.ReadLaws.{the-file, directory-here, there-in_store, slot-read, kind-read}
use Rattle.inode_mount.proofs.names.enter_slot.Goals as goal

pub slot_at-requires-clause-directory : goal.slot_at-requires-clause-directory
slot_at-requires-clause-directory g c =
    let s = c.args.tree.now in
    let r = c.requires in
    directory-here g.M.Medium.content g.M.Medium.size s r.readable c.args.dir r.within c.args.slot (tables_of s.tables)
    r.so_far r.dir

pub slot_at-requires-clause-there : goal.slot_at-requires-clause-there
slot_at-requires-clause-there g c =
    let s = c.args.tree.now in
    let r = c.requires in
    there-in_store g.M.Medium.content g.M.Medium.size s r.readable c.args.dir r.within c.args.slot (tables_of s.tables)
    r.so_far r.dir r.there

pub kind-requires : goal.kind-requires
kind-requires g c =
    let s = c.args.tree.now in
    let r = c.requires in
    let files = files_in g.M.Medium.content s.store in
    let t = tables_of s.tables in
    let f = the-file g.M.Medium.content g.M.Medium.size s r.readable c.args.dir r.within c.args.slot t r.so_far r.dir in
    let at = slot-read g.M.Medium.content g.M.Medium.size s r.readable c.args.dir r.within c.args.slot t r.so_far r.dir
    _ _ c.in_ok-found.ensures.slot in
    let few = inode-few s.limits s.store.inodes files r.readable.holds.files c.args.dir c.args.slot t r.so_far f.0 f.1
    f.2 c.in_ok-found.found.name.items c.in_ok-found.found.inode at in
    let same = r.so_far.tied.inodes in
    omega (arith, few, same)

pub unreachable-requires : goal.unreachable-requires
unreachable-requires g c =
    let s = c.args.tree.now in
    let r = c.requires in
    kind-read g.M.Medium.content g.M.Medium.size s r.readable c.args.dir r.within c.args.slot (tables_of s.tables)
    r.so_far r.dir c.in_ok-found.found.name.items c.in_ok-found.found.inode c.in_ok-found.ensures.slot
    (sym c.kind.ensures ∙ c.in_default.is)

pub enter_name-requires-clause-dir : goal.enter_name-requires-clause-dir
enter_name-requires-clause-dir g c =
    let within = c.requires.within in
    let same = c.requires.so_far.tied.inodes in
    omega (arith, within, same)

pub enter_name-requires-clause-links : goal.enter_name-requires-clause-links
enter_name-requires-clause-links g c =
    let s = c.args.tree.now in
    let r = c.requires in
    let files = files_in g.M.Medium.content s.store in
    let t = tables_of s.tables in
    let f = the-file g.M.Medium.content g.M.Medium.size s r.readable c.args.dir r.within c.args.slot t r.so_far r.dir in
    let at = slot-read g.M.Medium.content g.M.Medium.size s r.readable c.args.dir r.within c.args.slot t r.so_far r.dir
    _ _ c.in_ok-found.ensures.slot in
    let few = links-few s.limits s.store.inodes files r.readable.holds.files c.args.dir c.args.slot t r.so_far f.0 f.1
    f.2 c.in_ok-found.found.name.items c.in_ok-found.found.inode at in
    let limited = r.readable.planned.limited in
    let goal : t.counts.links c.in_ok-found.found.inode + 1 < 4294967296 = omega (arith, few, limited) in
    goal

pub enter_name-requires-clause-subdirs : goal.enter_name-requires-clause-subdirs
enter_name-requires-clause-subdirs g c =
    let s = c.args.tree.now in
    let r = c.requires in
    let files = files_in g.M.Medium.content s.store in
    let t = tables_of s.tables in
    let f = the-file g.M.Medium.content g.M.Medium.size s r.readable c.args.dir r.within c.args.slot t r.so_far r.dir in
    let at = slot-read g.M.Medium.content g.M.Medium.size s r.readable c.args.dir r.within c.args.slot t r.so_far r.dir
    _ _ c.in_ok-found.ensures.slot in
    let few = subdirs-few s.limits s.store.inodes files r.readable.holds.files c.args.dir c.args.slot t r.so_far f.0 f.1
    f.2 c.in_ok-found.found.name.items c.in_ok-found.found.inode at in
    let limited = r.readable.planned.limited in
    let goal : t.counts.subdirs c.args.dir + 1 < 4294967296 = omega (arith, few, limited) in
    goal

pub enter_name-requires-clause-used : goal.enter_name-requires-clause-used
enter_name-requires-clause-used g c =
    let s = c.args.tree.now in
    let r = c.requires in
    let few = used-within s.limits s.store.inodes (files_in g.M.Medium.content s.store) r.readable.holds.files c.args.dir
    c.args.slot (tables_of s.tables) r.so_far in
    let limited = r.readable.planned.limited in
    omega (arith, few, limited)

pub returns-clause-so_far : goal.returns-clause-so_far
returns-clause-so_far g c =
    let s = c.args.tree.now in
    let r = c.requires in
    let files = files_in g.M.Medium.content s.store in
    let t = tables_of s.tables in
    let f = the-file g.M.Medium.content g.M.Medium.size s r.readable c.args.dir r.within c.args.slot t r.so_far r.dir in
    let at = slot-read g.M.Medium.content g.M.Medium.size s r.readable c.args.dir r.within c.args.slot t r.so_far r.dir
    _ _ c.in_ok-found.ensures.slot in
    named-more s.limits s.store.inodes files r.readable.holds.files c.args.dir c.args.slot t r.so_far f.0 f.1 f.2
    c.in_ok-found.found.name.items c.in_ok-found.found.inode at c.in-Some.kind (sym c.kind.ensures ∙ c.in-Some.is)
    (tables_of c.enter_name.new.self) c.in_ok-enter_name.ensures.rows

pub returns-clause-kinds : goal.returns-clause-kinds
returns-clause-kinds g c = c.in_ok-enter_name.ensures.rows.kinds
