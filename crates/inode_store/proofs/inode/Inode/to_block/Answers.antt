use Rattle.std.proofs.Common.{◌∷◌, [], arith, ap, ℕ}
use Rattle.inode_store.proofs.InodeWords.{inode_in-words, words_more}
use Rattle.inode_store.proofs.inode.Inode.to_block.Goals as goal

pub loop-index-init : goal.loop-index-init
loop-index-init c = λ i l. absurd (omega arith)

pub loop-index-preserved : goal.loop-index-preserved
loop-index-preserved c =
    let n = c.args.self.now in
    words_more c.loop-index.block c.set_word.new.block
    (c.kind_word.result ∷ n.mode ∷ n.uid ∷ n.gid ∷ n.size ∷ n.depth ∷ n.top ∷ []) c.loop-index.index
    c.loop-index.invariant
    c.set_word.ensures.here c.set_word.ensures.there

pub returns : goal.returns
returns c =
    let n = c.args.self.now in
    λ area top. inode_in-words c.loop-index.block n
    (c.kind_word.result ∷ n.mode ∷ n.uid ∷ n.gid ∷ n.size ∷ n.depth ∷ n.top ∷ [])
    (ap (λ (k : ℕ). k ∷ n.mode ∷ n.uid ∷ n.gid ∷ n.size ∷ n.depth ∷ n.top ∷ []) c.kind_word.ensures)
    (λ i l. c.loop-index.invariant i (omega arith)) area top
