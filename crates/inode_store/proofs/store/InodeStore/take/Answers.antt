use Rattle.std.proofs.Common.{refl, ap, inl, sym, Some}
use Rattle.inode_dirs.specs.Files.{File}
use Rattle.inode_store.specs.declared.inode.Inode.{Inode}
use Rattle.inode_store.proofs.OpLaws.{becomes_on, inode_none, taken, file_new, here_of}
use Rattle.inode_store.proofs.store.InodeStore.take.Goals as goal

pub returns-clause-file : goal.returns-clause-file
returns-clause-file g c =
    let s = c.args.self.now in
    let e = c.in_ok-put.ensures in
    let c0 = g.M.Medium.content s.medium in
    let c2 = g.M.Medium.content c.put.new.self.medium in
    let y : Inode = record { kind = c.args.kind; mode = 0; uid = 0; gid = 0; size = 0; depth = 0; top = 0 } in
    becomes_on s.area _ s.inodes _ (g.M.Medium.size s.medium) _ c.args.inode _ _ c0 c2 s.map _ e.area e.inodes e.size
    e.map (sym (ap (λ (f : File). Some f) (file_new s.area c0 c.args.kind)))
    (taken s.area s.inodes (g.M.Medium.size s.medium) c.args.inode c0 c2 s.map c.requires.kept c.requires.within y
    (inode_none s.area c0 c.args.inode c.requires.free) refl refl refl e.others
    (here_of s.area c2 c.args.inode c.to_block.result (Some y) e.here (c.to_block.ensures s.area (inl refl))))
