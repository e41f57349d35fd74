-- What a change of a directory's bytes is of the table.
use Rattle.std.proofs.Common.{◌≡◌, ◌≢◌, ℕ, zero, suc, ◌*◌, ◌/◌, ◌^◌, ◌<◌, arith, List, [], ◌∷◌, ◌++◌, take, set, length, Option, Some, refl, ap, ◌∙◌}
use Rattle.std.specs.Option.{option_map}
use Rattle.nfs2_types.specs.declared.fattr.Kind.TheVariants.{Dir}
use Rattle.inode_dirs.specs.Slots.{Slots}
use Rattle.inode_dirs.specs.SlotBytes.{span, with_piece, slot_in, slot_bytes, slots_in}
use Rattle.inode_dirs.specs.Table.{DirSlots, Entry}
use Rattle.inode_dirs.specs.Files.{File, entry_of, table_of}
use Rattle.inode_dirs.proofs.TableLaws.{IsSameBut}
use Rattle.inode_dirs.proofs.SlotBytesLaws.{slots-append, slots-put, slots-cut}

pub span-times : (n : ℕ) → span 288 slot_in n ≡ 288 * n
unfolding span
span-times zero = refl
span-times (suc n) = let ih = span-times n in omega (arith, ih)

pub count-slots : (n : ℕ) (b : List ℕ) → length b ≡ span 288 slot_in n → length b / 288 ≡ n
count-slots n b size = let times = span-times n in omega (arith, times, size)

-- other inodes keep what they hold
pub others-same : (files files' : ℕ → Option File) (i : ℕ) → ((j : ℕ) → j ≢ i → files' j ≡ files j) →
    IsSameBut (table_of files) (table_of files') i
others-same files files' i same j ne = ap (option_map entry_of) (same j ne)

-- a directory's entry, by its slots
abbrev pub dir_entry : File → Slots → Entry
dir_entry f ss = record { mode = f.mode; uid = f.uid; gid = f.gid; body = DirSlots ss }

module _ (files : ℕ → Option File) (i : ℕ) (f : File) (is_dir : f.kind ≡ Dir) (is : files i ≡ Some f) where
  -- a directory of so many slots
  pub dir-at : (n : ℕ) → length f.bytes ≡ span 288 slot_in n → table_of files i ≡ Some
      (dir_entry f (slots_in n f.bytes))
  dir-at n size = ap (option_map entry_of) is
      ∙ ap (λ k. Some (entry_of (let g : File = record f { kind = k } in g))) is_dir
      ∙ ap (λ n. Some (dir_entry f (slots_in n f.bytes))) (count-slots n f.bytes size)

-- the bytes with a slot at the end
pub dir-append : (files : ℕ → Option File) (i : ℕ) (f : File) (n : ℕ) (name : List ℕ) (inode : ℕ) → f.kind ≡ Dir →
    length f.bytes ≡ span 288 slot_in n → length (slot_bytes name inode) ≡ 288 → inode < 2 ^ 32 →
    length (f.bytes ++ slot_bytes name inode) ≡ span 288 slot_in (suc n) →
    files i ≡ Some (record f { bytes = f.bytes ++ slot_bytes name inode }) →
    table_of files i ≡ Some (dir_entry f (slots_in n f.bytes ++ (name, inode) ∷ []))
dir-append files i f n name inode is_dir size fits in_word size' is =
    let g : File = record f { bytes = f.bytes ++ slot_bytes name inode } in
    dir-at files i g is_dir is (suc n) size' ∙ ap (λ ss. Some (dir_entry f ss)) (slots-append n f.bytes name inode
    size fits in_word)

-- the bytes with a slot in place of another, and cut to one slot less
pub dir-drop : (files : ℕ → Option File) (i : ℕ) (f : File) (n k : ℕ) (name : List ℕ) (inode : ℕ) (b : List ℕ) →
    f.kind ≡ Dir →
    length f.bytes ≡ span 288 slot_in (suc n) → length (slot_bytes name inode) ≡ 288 → inode < 2 ^ 32 → k < suc n →
    b ≡ take (span 288 slot_in n) (with_piece 288 slot_in k (slot_bytes name inode) f.bytes) → length b ≡ span 288
    slot_in n →
    files i ≡ Some (record f { bytes = b }) →
    table_of files i ≡ Some (dir_entry f (take n (set (slots_in (suc n) f.bytes) k (name, inode))))
dir-drop files i f n k name inode b is_dir size fits in_word l cut size' is =
    let g : File = record f { bytes = b } in
    dir-at files i g is_dir is n size'
    ∙ ap (λ b. Some (dir_entry f (slots_in n b))) cut
    ∙ ap (λ ss. Some (dir_entry f ss)) (slots-cut n (suc n) (with_piece 288 slot_in k (slot_bytes name inode) f.bytes)
    (omega arith))
    ∙ ap (λ ss. Some (dir_entry f (take n ss))) (slots-put (suc n) k f.bytes name inode size fits in_word l)
