use Rattle.std.proofs.Common.{◌≤◌, sym, ap, ◌∙◌, arith, subst}
use Rattle.nfs2_types.specs.declared.fattr.Kind.TheVariants.{Dir}
use Rattle.server_trait.specs.Tree.{one_if}
use Rattle.inode_slots.specs.Directory.{without_slot}
use Rattle.inode_store.specs.Held.{files_of}
use Rattle.inode_store.specs.Inodes.{file_at}
use Rattle.inode_tree.specs.Tables.{is_dir_kind}
use Rattle.inode_tree.specs.Changes.{Unnamed, inode_of}
use Rattle.inode_tree.specs.Kept.{tables_of}
use Rattle.inode_tree.proofs.TiedLaws.{file-kind, led-place, linked-place}
use Rattle.inode_tree.proofs.BoundLaws.{few-links, some-subdirs}
use Rattle.inode_tree.proofs.SizeLaws.{has-room}
use Rattle.inode_tree.proofs.DirCalls.{row_at, with_index, place-is, indexed, unnamed-whole, unnamed-held, unnames}
use Rattle.inode_tree.proofs.tree.InodeTree.remove_name.Goals as goal

pub remove_name-requires-clause-directory : goal.remove_name-requires-clause-directory
remove_name-requires-clause-directory g c =
    let s = c.args.self.now in
    let m = c.index_mut-index.result.now in
    indexed g.M.Medium.content g.M.Medium.size s c.requires.whole c.args.dir c.requires.within c.requires.dir m
    (row_at s.tables s.store.inodes c.args.dir m c.requires.whole.tied.inodes c.requires.within
    c.index_mut-index.ensures.value)

pub remove_name-requires-clause-there : goal.remove_name-requires-clause-there
remove_name-requires-clause-there g c =
    let s = c.args.self.now in
    let m = c.index_mut-index.result.now in
    ap (λ f. f c.args.name.now) (sym (place-is g.M.Medium.content g.M.Medium.size s c.requires.whole
    c.args.dir c.requires.within c.requires.dir m
    (row_at s.tables s.store.inodes c.args.dir m c.requires.whole.tied.inodes c.requires.within
    c.index_mut-index.ensures.value))) ∙ c.requires.there

pub remove_name-requires-clause-room : goal.remove_name-requires-clause-room
remove_name-requires-clause-room g c =
    let s = c.args.self.now in
    let room = has-room s.limits s.store.area s.store.inodes (g.M.Medium.content s.store.medium)
    (g.M.Medium.size s.store.medium) s.store.map (tables_of s.tables) c.requires.whole in
    omega (arith, room)

pub remove_name-requires-2-clause-links : goal.remove_name-requires-2-clause-links
remove_name-requires-2-clause-links g c =
    let s = c.args.self.now in
    linked-place s.store.inodes (files_of s.store.area s.store.inodes (g.M.Medium.content s.store.medium))
    (tables_of s.tables) c.requires.whole.tied c.args.dir c.args.name.now c.args.place c.requires.dir c.requires.there

pub remove_name-requires-2-clause-subdirs : goal.remove_name-requires-2-clause-subdirs
remove_name-requires-2-clause-subdirs g c =
    let s = c.args.self.now in
    let files = files_of s.store.area s.store.inodes (g.M.Medium.content s.store.medium) in
    let t = tables_of s.tables in
    let f = file-kind s.store.inodes files t c.requires.whole.tied c.args.dir Dir c.requires.dir in
    subst (λ b. one_if b ≤ t.counts.subdirs c.args.dir) (sym c.is_directory.ensures)
    (some-subdirs s.store.inodes files t c.requires.whole.tied c.args.dir f.0 f.1 f.2 c.args.name.now c.args.place
    c.requires.there c.args.kind c.requires.node)

pub remove_name-requires-2-clause-used : goal.remove_name-requires-2-clause-used
remove_name-requires-2-clause-used g c =
    let s = c.args.self.now in
    let files = files_of s.store.area s.store.inodes (g.M.Medium.content s.store.medium) in
    let t = tables_of s.tables in
    let few = few-links s.store.inodes files t c.requires.whole.tied c.args.place.inode
    (led-place s.store.inodes files t c.requires.whole.tied c.args.dir c.args.name.now c.args.place c.requires.dir
    c.requires.there) in
    let some = linked-place s.store.inodes files t c.requires.whole.tied c.args.dir c.args.name.now c.args.place
    c.requires.dir c.requires.there in
    let goal : 512 ≤ t.counts.used = omega (arith, few, some) in
    goal

pub returns-clause-whole : goal.returns-clause-whole
returns-clause-whole g c =
    let s = c.args.self.now in
    let m = c.index_mut-index.result.now in
    let e = c.in_ok-remove_name.ensures in
    let rows : Unnamed (with_index s.tables c.args.dir c.remove_name.new.index) (tables_of c.remove_name-2.new.self)
    c.args.dir c.args.place.inode (is_dir_kind c.args.kind) = subst (λ b. Unnamed
    (with_index s.tables c.args.dir c.remove_name.new.index) (tables_of c.remove_name-2.new.self) c.args.dir
    c.args.place.inode b) c.is_directory.ensures c.remove_name-2.ensures in
    unnamed-whole g.M.Medium.content g.M.Medium.size s c.requires.whole c.args.dir c.requires.within c.requires.dir m
    (row_at s.tables s.store.inodes c.args.dir m c.requires.whole.tied.inodes c.requires.within
    c.index_mut-index.ensures.value)
    c.remove_name.new.store c.remove_name.new.index (tables_of c.remove_name-2.new.self)
    (without_slot c.args.place.slot) e.area e.inodes e.size e.directory e.file rows.places
    c.args.name.now c.args.place.inode c.args.kind c.requires.node e.names e.gone rows
    (ap inode_of c.requires.there)

pub returns-clause-node : goal.returns-clause-node
returns-clause-node g c =
    let s = c.args.self.now in
    let m = c.index_mut-index.result.now in
    let e = c.in_ok-remove_name.ensures in
    let rows : Unnamed (with_index s.tables c.args.dir c.remove_name.new.index) (tables_of c.remove_name-2.new.self)
    c.args.dir c.args.place.inode (is_dir_kind c.args.kind) = subst (λ b. Unnamed
    (with_index s.tables c.args.dir c.remove_name.new.index) (tables_of c.remove_name-2.new.self) c.args.dir
    c.args.place.inode b) c.is_directory.ensures c.remove_name-2.ensures in
    unnamed-held g.M.Medium.content g.M.Medium.size s c.requires.whole c.args.dir c.requires.within c.requires.dir m
    (row_at s.tables s.store.inodes c.args.dir m c.requires.whole.tied.inodes c.requires.within
    c.index_mut-index.ensures.value)
    c.remove_name.new.store c.remove_name.new.index (tables_of c.remove_name-2.new.self)
    (without_slot c.args.place.slot) e.area e.inodes e.size e.directory e.file rows.places
    c.args.name.now c.args.place.inode c.args.kind c.requires.node e.names e.gone rows
    (ap inode_of c.requires.there)

pub returns-clause-rows : goal.returns-clause-rows
returns-clause-rows g c =
    let s = c.args.self.now in
    let m = c.index_mut-index.result.now in
    let e = c.in_ok-remove_name.ensures in
    let rows : Unnamed (with_index s.tables c.args.dir c.remove_name.new.index) (tables_of c.remove_name-2.new.self)
    c.args.dir c.args.place.inode (is_dir_kind c.args.kind) = subst (λ b. Unnamed
    (with_index s.tables c.args.dir c.remove_name.new.index) (tables_of c.remove_name-2.new.self) c.args.dir
    c.args.place.inode b) c.is_directory.ensures c.remove_name-2.ensures in
    unnames g.M.Medium.content g.M.Medium.size s c.requires.whole c.args.dir c.requires.within c.requires.dir m
    (row_at s.tables s.store.inodes c.args.dir m c.requires.whole.tied.inodes c.requires.within
    c.index_mut-index.ensures.value)
    c.remove_name.new.store c.remove_name.new.index (tables_of c.remove_name-2.new.self)
    (without_slot c.args.place.slot) e.area e.inodes e.size e.directory e.file rows.places
    c.args.name.now c.args.place.inode c.args.kind c.requires.node e.names e.gone rows
    (ap inode_of c.requires.there)

pub returns-clause-first : goal.returns-clause-first
returns-clause-first g c = c.in_ok-remove_name.ensures.file.changes.first

pub returns-clause-others : goal.returns-clause-others
returns-clause-others g c j l ne =
    let s = c.args.self.now in
    let e = c.in_ok-remove_name.ensures in
    e.file.changes.others j (let same = e.inodes in omega (arith, l, same)) ne
    ∙ ap (λ a. file_at a (g.M.Medium.content s.store.medium) j) e.area
