use Rattle.std.proofs.Common.{◌≡◌, ◌≤◌, ◌∙◌, ◌-◌, ℕ, List, length, take, drop, arith, ap}
use Rattle.std.proofs.lemmas.List.{take_all, length-drop, length-take-le}
use Rattle.std.specs.Option.{option_map}
use Rattle.nfs2_types.specs.Bytes.{overwritten}
use Rattle.inode_store.specs.Files.{with_bytes}
use Rattle.inode_store.specs.Inodes.{file_at}
use Rattle.inode_slots.proofs.ChangeLaws.{becomes_twice, becomes_same, long_enough, bytes_by}
use Rattle.inode_tree.proofs.TextLaws.{over-none, over-both}
use Rattle.inode_tree.proofs.text.put_text.Goals as goal

pub returns-then-first-text-clause-file : goal.returns-then-first-text-clause-file
returns-then-first-text-clause-file g c =
    let s = c.args.store.now in
    let n = c.write.new.self in
    let text = c.args.text.now in
    let all : take c.in_ok-first.first text ≡ text = take_all c.in_ok-first.first text (omega arith) in
    becomes_same n.area n.inodes (g.M.Medium.size n.medium) c.args.inode _ _ (g.M.Medium.content s.medium)
    (g.M.Medium.content n.medium) n.map c.in_ok-first.ensures.file
    (bytes_by (overwritten 0 (take c.in_ok-first.first text)) (λ _. text)
    (file_at s.area (g.M.Medium.content s.medium) c.args.inode)
    (λ x is. ap (λ p. overwritten 0 p x.bytes) all ∙ over-none text x.bytes (c.requires.empty x is)))

pub write-requires-2-clause-inside : goal.write-requires-2-clause-inside
write-requires-2-clause-inside g c f is =
    let s = c.args.store.now in
    let count = c.in_ok-first.first in
    let long = long_enough (file_at s.area (g.M.Medium.content s.medium) c.args.inode)
    (file_at c.write.new.self.area (g.M.Medium.content c.write.new.self.medium) c.args.inode) 0
    (take count c.args.text.now) c.in_ok-first.ensures.file.changes.here (λ x at. omega arith) f is in
    let part = length-take-le count c.args.text.now (omega (arith, c.in_ok-first.ensures.count)) in
    omega (arith, long, part)

pub returns-clause-file : goal.returns-clause-file
returns-clause-file g c =
    let s = c.args.store.now in
    let t = c.write.new.self in
    let u = c.write-2.new.self in
    let count = c.in_ok-first.first in
    let text = c.args.text.now in
    let most : count ≤ length text = omega (arith, c.in_ok-first.ensures.count) in
    let rest = length-drop count text in
    let piece = take (length text - count) (drop count text) in
    let whole : piece ≡ drop count text = take_all (length text - count) (drop count text) (omega (arith, rest)) in
    let size = ap length whole in
    let last = c.in_ok-write.field-0 in
    let all : take last piece ≡ drop count text =
    take_all last piece (omega (arith, c.in_ok-write.ensures.count, c.in_ok-first.ensures.count, size, rest)) ∙ whole in
    becomes_twice s.area t.area u.area t.inodes u.inodes (g.M.Medium.size t.medium) (g.M.Medium.size u.medium)
    c.args.inode
    (overwritten 0 (take count text)) (overwritten count (drop count text)) (λ _. text)
    (g.M.Medium.content s.medium) (g.M.Medium.content t.medium) (g.M.Medium.content u.medium) t.map u.map
    c.in_ok-first.ensures.file
    (becomes_same u.area u.inodes (g.M.Medium.size u.medium) c.args.inode _ _ (g.M.Medium.content t.medium)
    (g.M.Medium.content u.medium) u.map c.in_ok-write.ensures.file
    (ap (λ (p : List ℕ). option_map (with_bytes (overwritten count p))
    (file_at t.area (g.M.Medium.content t.medium) c.args.inode)) all))
    c.in_ok-write.ensures.area c.in_ok-write.ensures.inodes
    (λ x is. over-both count text x.bytes (c.requires.empty x is) most)
