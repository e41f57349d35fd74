use Rattle.std.proofs.Common.{◌≡◌, ◌+◌, ◌<◌, ◌∙◌, Option, length, refl, sym, ap, arith}
use Rattle.inode_dirs.specs.Files.{File, slots_at, slots_of}
use Rattle.inode_store.specs.Store.{file_in}
use Rattle.inode_tree.specs.Kept.{tables_of}
use Rattle.inode_tree.proofs.TiedLaws.{some_is}
use Rattle.inode_mount.specs.Reading.{files_in, AreNamed}
use Rattle.inode_mount.proofs.NamedLaws.{named-next}
use Rattle.inode_mount.proofs.ReadLaws.{on-store, readable-on, in-store, file-here}
use Rattle.inode_mount.proofs.names.enter_slots.Goals as goal

pub count_slots-requires-clause-used : goal.count_slots-requires-clause-used
count_slots-requires-clause-used g c =
    let s = c.args.tree.now in
    let r = c.requires in
    some_is (file-here g.M.Medium.content g.M.Medium.size s r.readable c.args.dir r.within 0 (tables_of s.tables)
    r.so_far r.dir)

pub loop-slot-init : goal.loop-slot-init
loop-slot-init g c =
    let e = c.in_ok-count.ensures in
    record {
      state = c.requires.so_far;
      dir = c.requires.dir;
      epoch = refl;
      content = e.content;
      map = e.map;
      limits = refl;
      area = e.area;
      inodes = e.inodes;
      size = e.size;
      faults = e.cause.ok;
    }

pub enter_slot-requires-clause-readable : goal.enter_slot-requires-clause-readable
enter_slot-requires-clause-readable g c =
    let i = c.loop-slot.invariant in
    readable-on g.M.Medium.content g.M.Medium.size c.args.tree.now c.loop-slot.tree i.limits i.area i.inodes i.content
    i.size i.map c.requires.readable

pub enter_slot-requires-clause-there : goal.enter_slot-requires-clause-there
enter_slot-requires-clause-there g c =
    let s = c.args.tree.now in
    let i = c.loop-slot.invariant in
    let slots = in-store g.M.Medium.content g.M.Medium.size s c.requires.readable c.args.dir c.requires.within 0
    (tables_of s.tables) c.requires.so_far in
    let count = c.in_ok-count.ensures.count in
    let same = ap (λ (o : Option File). length (slots_at o)) slots in
    on-store g.M.Medium.content g.M.Medium.size (λ n files. c.loop-slot.slot < length (slots_at (files c.args.dir)))
    s.store c.loop-slot.tree.store i.area i.inodes i.content (omega (arith, same, count))

pub enter_slot-requires-clause-so_far : goal.enter_slot-requires-clause-so_far
enter_slot-requires-clause-so_far g c =
    let i = c.loop-slot.invariant in
    on-store g.M.Medium.content g.M.Medium.size (λ n files. AreNamed n files c.args.dir c.loop-slot.slot
    (tables_of c.loop-slot.tree.tables)) c.args.tree.now.store c.loop-slot.tree.store i.area i.inodes i.content i.state

pub loop-slot-preserved : goal.loop-slot-preserved
loop-slot-preserved g c =
    let i = c.loop-slot.invariant in
    let e = c.in_ok-enter_slot.ensures in
    record {
      state = on-store g.M.Medium.content g.M.Medium.size (λ n files. AreNamed n files c.args.dir (c.loop-slot.slot + 1)
          (tables_of c.enter_slot.new.tree.tables)) c.loop-slot.tree.store c.args.tree.now.store (sym i.area)
          (sym i.inodes) (sym i.content) e.so_far;
      dir = ap (λ f. f c.args.dir) e.kinds ∙ i.dir;
      epoch = e.epoch ∙ i.epoch;
      content = e.content ∙ i.content;
      map = e.map ∙ i.map;
      limits = e.limits ∙ i.limits;
      area = e.area ∙ i.area;
      inodes = e.inodes ∙ i.inodes;
      size = e.size ∙ i.size;
      faults = e.cause.ok ∙ i.faults;
    }

pub returns-clause-so_far : goal.returns-clause-so_far
returns-clause-so_far g c =
    let s = c.args.tree.now in
    let i = c.loop-slot.invariant in
    let files = files_in g.M.Medium.content s.store in
    let slots = in-store g.M.Medium.content g.M.Medium.size s c.requires.readable c.args.dir c.requires.within 0
    (tables_of s.tables) c.requires.so_far in
    named-next s.limits s.store.inodes files c.requires.readable.holds.files c.args.dir c.loop-slot.slot
    (tables_of c.loop-slot.tree.tables) i.state (λ f is is_dir.
    let count = c.in_ok-count.ensures.count in
    let same : length (slots_at (file_in g.M.Medium.content s.store c.args.dir)) ≡ length (slots_of f) =
    ap (λ (o : Option File). length (slots_at o)) (sym slots ∙ is) in
    omega (arith, count, same, c.loop-slot-test.false, c.loop-slot.auto.slot-end))
