use Rattle.std.proofs.Common.{◌≡◌, ◌∙◌, ℕ, ◌+◌, ◌-◌, ◌++◌, List, length, set, drop, replicate, ap, refl, arith}
use Rattle.std.specs.Int.{w32, to_be_bytes}
use borrow.Rule.Slice.PartMut.{put_mid}
use Rattle.inode_dirs.proofs.SlotBytesLaws.{written}
use Rattle.inode_dirs.proofs.slots.format_slot.Goals as goal

pub returns : goal.returns
returns c =
    let name = c.args.name.now in
    let number = c.copy_from_slice.new.self in
    let length_is : (8 + length name) - 8 ≡ length name = omega arith in
    ap (λ (ys : List ℕ). put_mid 8 ((8 + length name) - 8) (set (number ++ drop 4 (replicate 288 0)) 4 (length name)) ys)
    c.copy_from_slice-2.ensures.after
    ∙ ap (λ (bs : List ℕ). put_mid 8 ((8 + length name) - 8) (set (bs ++ drop 4 (replicate 288 0)) 4 (length name)) name)
    (c.copy_from_slice.ensures.after ∙ c.to_be_bytes.ensures)
    ∙ written (to_be_bytes w32 c.args.inode) name ((8 + length name) - 8) refl length_is
