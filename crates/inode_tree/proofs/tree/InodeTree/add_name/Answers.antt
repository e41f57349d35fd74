use Rattle.std.proofs.Common.{◌+◌, ◌<◌, sym, ap, ◌∙◌, arith, subst}
use Rattle.nfs2_types.specs.declared.fattr.Kind.TheVariants.{Dir}
use Rattle.inode_dirs.specs.Slots.{inode_by}
use Rattle.inode_slots.specs.Directory.{with_slot}
use Rattle.inode_store.specs.Held.{files_of}
use Rattle.inode_tree.specs.Tables.{is_dir_kind}
use Rattle.inode_tree.specs.Changes.{Named, inode_of}
use Rattle.inode_tree.specs.Kept.{tables_of}
use Rattle.inode_tree.proofs.TiedLaws.{file-kind, some_is}
use Rattle.inode_tree.proofs.BoundLaws.{few-links, few-subdirs}
use Rattle.inode_tree.proofs.SizeLaws.{has-room}
use Rattle.inode_tree.proofs.DirCalls.{row_at, with_index, place-is, indexed, few-bytes, named-whole, named-held}
use Rattle.inode_tree.proofs.tree.InodeTree.add_name.Goals as goal

pub add_name-requires-clause-directory : goal.add_name-requires-clause-directory
add_name-requires-clause-directory g c =
    let s = c.args.self.now in
    let m = c.index_mut-index.result.now in
    indexed g.M.Medium.content g.M.Medium.size s c.requires.whole c.args.dir c.requires.within c.requires.dir m
    (row_at s.tables s.store.inodes c.args.dir m c.requires.whole.tied.inodes c.requires.within
    c.index_mut-index.ensures.value)

pub add_name-requires-clause-new : goal.add_name-requires-clause-new
add_name-requires-clause-new g c =
    let s = c.args.self.now in
    let m = c.index_mut-index.result.now in
    ap (λ q. inode_by m q) c.in-Ok.ensures.items
    ∙ ap (λ f. inode_of (f c.args.name.now)) (sym (place-is g.M.Medium.content g.M.Medium.size s c.requires.whole
    c.args.dir c.requires.within c.requires.dir m
    (row_at s.tables s.store.inodes c.args.dir m c.requires.whole.tied.inodes c.requires.within
    c.index_mut-index.ensures.value))) ∙ c.requires.new

pub add_name-requires-clause-end : goal.add_name-requires-clause-end
add_name-requires-clause-end g c =
    let s = c.args.self.now in
    let m = c.index_mut-index.result.now in
    few-bytes g.M.Medium.content g.M.Medium.size s c.requires.whole c.args.dir c.requires.within c.requires.dir m
    (row_at s.tables s.store.inodes c.args.dir m c.requires.whole.tied.inodes c.requires.within
    c.index_mut-index.ensures.value)

pub add_name-requires-clause-room : goal.add_name-requires-clause-room
add_name-requires-clause-room g c =
    let s = c.args.self.now in
    let room = has-room s.limits s.store.area s.store.inodes (g.M.Medium.content s.store.medium)
    (g.M.Medium.size s.store.medium) s.store.map (tables_of s.tables) c.requires.whole in
    omega (arith, room)

pub add_name-requires-2-clause-links : goal.add_name-requires-2-clause-links
add_name-requires-2-clause-links g c =
    let s = c.args.self.now in
    let files = files_of s.store.area s.store.inodes (g.M.Medium.content s.store.medium) in
    let t = tables_of s.tables in
    let f = file-kind s.store.inodes files t c.requires.whole.tied c.args.inode c.args.kind c.requires.node in
    let few = few-links s.store.inodes files t c.requires.whole.tied c.args.inode (some_is f.1) in
    let within = c.requires.whole.within in
    let limited = c.requires.whole.limited in
    let goal : t.counts.links c.args.inode + 1 < 4294967296 = omega (arith, few, within, limited) in
    goal

pub add_name-requires-2-clause-subdirs : goal.add_name-requires-2-clause-subdirs
add_name-requires-2-clause-subdirs g c =
    let s = c.args.self.now in
    let files = files_of s.store.area s.store.inodes (g.M.Medium.content s.store.medium) in
    let t = tables_of s.tables in
    let f = file-kind s.store.inodes files t c.requires.whole.tied c.args.dir Dir c.requires.dir in
    let few = few-subdirs s.store.inodes files t c.requires.whole.tied c.args.dir f.0 f.1 f.2 in
    let within = c.requires.whole.within in
    let limited = c.requires.whole.limited in
    let goal : t.counts.subdirs c.args.dir + 1 < 4294967296 = omega (arith, few, within, limited) in
    goal

pub returns-clause-whole : goal.returns-clause-whole
returns-clause-whole g c =
    let s = c.args.self.now in
    let m = c.index_mut-index.result.now in
    let e = c.in_ok-add_name.ensures in
    let t = tables_of s.tables in
    let rows : Named (with_index s.tables c.args.dir c.add_name.new.index) (tables_of c.add_name-2.new.self) c.args.dir
    c.args.inode (is_dir_kind c.args.kind) = subst (λ b. Named (with_index s.tables c.args.dir c.add_name.new.index)
    (tables_of c.add_name-2.new.self) c.args.dir c.args.inode b) c.is_directory.ensures c.add_name-2.ensures.rows in
    named-whole g.M.Medium.content g.M.Medium.size s c.requires.whole c.args.dir c.requires.within c.requires.dir m
    (row_at s.tables s.store.inodes c.args.dir m c.requires.whole.tied.inodes c.requires.within
    c.index_mut-index.ensures.value)
    c.add_name.new.store c.add_name.new.index (tables_of c.add_name-2.new.self)
    (with_slot c.in-Ok.copy.items c.args.inode) e.area e.inodes e.size e.directory e.file rows.places
    c.args.name.now c.args.inode c.args.kind c.requires.node
    (λ q ne. e.names q (λ at. ne (at ∙ c.in-Ok.ensures.items)))
    (ap (λ q. inode_by c.add_name.new.index q) (sym c.in-Ok.ensures.items) ∙ e.here) rows c.requires.new
    c.requires.unlinked c.requires.other c.requires.room

pub returns-clause-node : goal.returns-clause-node
returns-clause-node g c =
    let s = c.args.self.now in
    let m = c.index_mut-index.result.now in
    let e = c.in_ok-add_name.ensures in
    let t = tables_of s.tables in
    let rows : Named (with_index s.tables c.args.dir c.add_name.new.index) (tables_of c.add_name-2.new.self) c.args.dir
    c.args.inode (is_dir_kind c.args.kind) = subst (λ b. Named (with_index s.tables c.args.dir c.add_name.new.index)
    (tables_of c.add_name-2.new.self) c.args.dir c.args.inode b) c.is_directory.ensures c.add_name-2.ensures.rows in
    named-held g.M.Medium.content g.M.Medium.size s c.requires.whole c.args.dir c.requires.within c.requires.dir m
    (row_at s.tables s.store.inodes c.args.dir m c.requires.whole.tied.inodes c.requires.within
    c.index_mut-index.ensures.value)
    c.add_name.new.store c.add_name.new.index (tables_of c.add_name-2.new.self)
    (with_slot c.in-Ok.copy.items c.args.inode) e.area e.inodes e.size e.directory e.file rows.places
    c.args.name.now c.args.inode c.args.kind c.requires.node
    (λ q ne. e.names q (λ at. ne (at ∙ c.in-Ok.ensures.items)))
    (ap (λ q. inode_by c.add_name.new.index q) (sym c.in-Ok.ensures.items) ∙ e.here) rows c.requires.new
    c.requires.unlinked c.requires.other c.requires.room

pub returns-clause-first : goal.returns-clause-first
returns-clause-first g c = c.in_ok-add_name.ensures.file.changes.first
