-- A directory of a tree on a medium, with its index, before and after a name is added or removed.
use Rattle.std.proofs.Common.{◌≡◌, ◌≢◌, ℕ, ◌+◌, ◌*◌, ◌/◌, ◌%◌, ◌<◌, ◌≤◌, arith, List, length, set, slice_get, Option, Some, None, sym, ap, ◌∙◌, subst}
use Rattle.std.specs.Prelude.{option_and_then, get_or}
use Rattle.std.proofs.lemmas.Option.{slice_get_read}
use Rattle.std.specs.Option.{option_map}
use Rattle.std.specs.FinMap.{get}
use Rattle.nfs2_types.specs.declared.fattr.Kind.{Kind}
use Rattle.nfs2_types.specs.declared.fattr.Kind.TheVariants.{Dir}
use Rattle.server_trait.specs.Tree.{ByBytes, named, unnamed}
use Rattle.server_trait.proofs.TreeLaws.{some_and, is_some_and, some_same}
use Rattle.inode_dirs.specs.Slots.{IsIndexOf, inode_by}
use Rattle.inode_dirs.specs.SlotBytes.{slots_in}
use Rattle.inode_dirs.specs.Files.{File, IsDirectory, slots_at}
use Rattle.inode_dirs.specs.declared.index.Place.{Place}
use Rattle.inode_dirs.proofs.SlotLaws.{get-set_same, get-set_other}
use Rattle.inode_store.specs.Files.{with_bytes}
use Rattle.inode_store.specs.Held.{files_of}
use Rattle.inode_store.specs.Keeps.{Becomes}
use Rattle.inode_store.specs.Store.{file_in}
use Rattle.inode_store.specs.declared.store.InodeStore.{InodeStore}
use Rattle.inode_slots.specs.Directory.{IsIndexed}
use Rattle.inode_tree.specs.Tables.{Tables, is_dir_kind}
use Rattle.inode_tree.specs.Changes.{Names, Unnames, Named, Unnamed, inode_of}
use Rattle.inode_tree.specs.Kept.{tables_of}
use Rattle.inode_tree.specs.Sound.{IsSound, the_tree}
use Rattle.inode_tree.specs.Whole.{tree_in, IsWhole}
use Rattle.inode_tree.specs.declared.tables.InodeTables.{InodeTables}
use Rattle.inode_tree.specs.declared.tree.InodeTree.{InodeTree}
use Rattle.inode_tree.proofs.TiedLaws.{index-dir, length-pieces}
use Rattle.inode_tree.proofs.BoundLaws.{few-slots}
use Rattle.inode_tree.proofs.WholeLaws.{file-there, there-file, becomes-some, whole-named, held-named, whole-unnamed, held-unnamed}

-- a row that was read
pub row_at : (s : InodeTables) (n dir : ℕ) (m : ByBytes Place) → (tables_of s).counts.inodes ≡ n → dir < n →
    m ≡ get_or s.dirs.items dir m → slice_get s.dirs.items dir ≡ Some m
row_at s n dir m inodes within read = slice_get_read s.dirs.items n dir m
    (let same = s.same_dirs in omega (arith, same, inodes)) within read

-- tables of which one index is another
abbrev pub with_index : InodeTables → ℕ → ByBytes Place → Tables
with_index s dir m = record (tables_of s) {
  place = λ i q. option_and_then (λ m. get m q) (slice_get (set s.dirs.items dir m) i);
}

abbrev looking : Option (ByBytes Place) → List ℕ → Option Place
looking o q = option_and_then (λ m. get m q) o

module _ {M : Type 0} (content : M → ℕ → List ℕ) (size : M → ℕ) (s : InodeTree M) (sound : IsWhole content size s)
    (dir : ℕ) (within : dir < s.store.inodes) (is_dir : (tables_of s.tables).kind dir ≡ Some Dir) (m : ByBytes Place)
    (is_m : slice_get s.tables.dirs.items dir ≡ Some m) where
  abbrev t : Tables
  t = tables_of s.tables

  pub file : (f : File) × (file_in content s.store dir ≡ Some f) × (f.kind ≡ Dir)
  file = file-there s.limits s.store.area s.store.inodes (content s.store.medium) (size s.store.medium) s.store.map t
      sound dir within Dir is_dir

  pub there : files_of s.store.area s.store.inodes (content s.store.medium) dir ≡ Some file.0
  there = there-file s.limits s.store.area s.store.inodes (content s.store.medium) (size s.store.medium) s.store.map t
      sound dir within file.0 file.1

  pub place-is : t.place dir ≡ (λ q. get m q)
  place-is = ap looking is_m

  pub indexed : IsIndexed content size s.store dir m
  indexed = record {
    kept = sound.keeps;
    within = within;
    directory = is_some_and IsDirectory file.1 (record { kind = file.2; whole = sound.tied.filled dir file.0 there file.2 });
    indexed = subst (λ o. IsIndexOf (λ q. get m q) (slots_at o)) (sym file.1)
        (subst (λ f. IsIndexOf f (slots_in (length file.0.bytes / 288) file.0.bytes)) place-is
        (index-dir s.store.inodes (files_of s.store.area s.store.inodes (content s.store.medium)) t sound.tied dir file.0
        there file.2));
  }

  pub few-bytes : 288 * length (slots_at (file_in content s.store dir)) + 288 ≤ 1073741824
  few-bytes =
      let size = ap (λ o. length (slots_at o)) file.1 ∙ length-pieces (length file.0.bytes / 288) file.0.bytes in
      let few = few-slots s.store.inodes (files_of s.store.area s.store.inodes (content s.store.medium)) t sound.tied dir
      file.0 there file.2 in
      let used = sound.within in
      let limited = sound.limited in
      omega (arith, size, few, used, limited)

  in_rows : dir < length s.tables.dirs.items
  in_rows = let a = s.tables.same_dirs in let b = sound.tied.inodes in omega (arith, a, b, within)

  -- AFTERWARDS

  module _ (store' : InodeStore M) (m' : ByBytes Place) (t' : Tables) (change : List ℕ → List ℕ)
      (ea : store'.area ≡ s.store.area) (en : store'.inodes ≡ s.store.inodes)
      (es : size store'.medium ≡ size s.store.medium) (after : IsIndexed content size store' dir m')
      (becomes : Becomes store'.area store'.inodes (size store'.medium) dir
      (option_map (with_bytes change) (file_in content s.store dir)) (content s.store.medium) (content store'.medium)
      store'.map)
      (places : t'.place ≡ (with_index s.tables dir m').place) where
    abbrev bytes : List ℕ
    bytes = change file.0.bytes

    now : Becomes store'.area store'.inodes (size store'.medium) dir (Some (record file.0 { bytes = bytes }))
        (content s.store.medium) (content store'.medium) store'.map
    now = becomes-some store'.area store'.inodes (size store'.medium) dir (file_in content s.store dir) file.0
        (with_bytes change) (content s.store.medium) (content store'.medium) store'.map file.1 becomes

    file_now : file_in content store' dir ≡ Some (record file.0 { bytes = bytes })
    file_now = now.changes.here

    filled : length bytes % 288 ≡ 0
    filled =
        let d = some_and (file_in content store' dir) IsDirectory after.directory in
        ap (λ (f : File). length f.bytes % 288) (some_same file_now d.1) ∙ d.2.whole

    here : t'.place dir ≡ (λ q. get m' q)
    here = ap (λ f. f dir) places ∙ ap looking (get-set_same s.tables.dirs.items dir m' in_rows)

    other : (k : ℕ) → k ≢ dir → t'.place k ≡ t.place k
    other k ne = ap (λ f. f k) places ∙ ap looking (get-set_other s.tables.dirs.items dir k m' ne)

    index : IsIndexOf (t'.place dir) (slots_in (length bytes / 288) bytes)
    index = subst (λ f. IsIndexOf f (slots_in (length bytes / 288) bytes)) (sym here)
        (subst (λ o. IsIndexOf (λ q. get m' q) (slots_at o)) file_now after.indexed)

    module _ (name : List ℕ) (j : ℕ) (k : Kind) (kind_j : t.kind j ≡ Some k)
        (others : (q : List ℕ) → q ≢ name → inode_by m' q ≡ inode_by m q) where
      others_led : (q : List ℕ) → q ≢ name → inode_of (t'.place dir q) ≡ inode_of (t.place dir q)
      others_led q ne = ap (λ f. inode_of (f q)) here ∙ others q ne ∙ ap (λ f. inode_of (f q)) (sym place-is)

      module _ (leads : inode_by m' name ≡ Some j) (rows : Named (with_index s.tables dir m') t' dir j (is_dir_kind k))
          (new : inode_of (t.place dir name) ≡ None) (unlinked : k ≡ Dir → t.counts.links j ≡ 0) (not_top : j ≢ 0)
          (room : t.counts.used + 512 ≤ s.limits.bytes) where
        names : Names t t' dir name j (is_dir_kind k)
        names = record {
          handles = rows.handles;
          here = ap (λ f. inode_of (f name)) here ∙ leads;
          others = others_led;
          places = other;
          counts = rows.counts;
          kinds = rows.kinds;
          parent_here = rows.parent_here;
          parents = rows.parents;
          free = rows.free;
        }

        pub named-whole : IsSound s.limits store'.area store'.inodes (content store'.medium) (size store'.medium)
            store'.map t'
        named-whole = whole-named s.limits s.store.area s.store.inodes (content s.store.medium) (size s.store.medium)
            s.store.map t sound store'.area store'.inodes (size store'.medium) ea en es (content store'.medium)
            store'.map t' dir within file.0 file.1 file.2 bytes filled index now name j k kind_j new names unlinked not_top room

        pub named-held : the_tree store'.inodes (files_of store'.area store'.inodes (content store'.medium)) t' ≡
            named (tree_in content s) (t.handle dir) name (t.handle j)
        named-held = held-named s.limits s.store.area s.store.inodes (content s.store.medium) (size s.store.medium)
            s.store.map t sound store'.area store'.inodes (size store'.medium) ea en es (content store'.medium)
            store'.map t' dir within file.0 file.1 file.2 bytes filled index now name j k kind_j new names unlinked not_top room

      module _ (gone : inode_by m' name ≡ None) (rows : Unnamed (with_index s.tables dir m') t' dir j (is_dir_kind k))
          (leads : inode_of (t.place dir name) ≡ Some j) where
        pub unnames : Unnames t t' dir name j (is_dir_kind k)
        unnames = record {
          handles = rows.handles;
          gone = ap (λ f. inode_of (f name)) here ∙ gone;
          others = others_led;
          places = other;
          counts = rows.counts;
          kinds = rows.kinds;
          parents = rows.parents;
          free = rows.free;
        }

        pub unnamed-whole : IsSound s.limits store'.area store'.inodes (content store'.medium) (size store'.medium)
            store'.map t'
        unnamed-whole = whole-unnamed s.limits s.store.area s.store.inodes (content s.store.medium)
            (size s.store.medium) s.store.map t sound store'.area store'.inodes (size store'.medium) ea en es
            (content store'.medium) store'.map t' dir within file.0 file.1 file.2 bytes filled index now name j k kind_j
            leads unnames

        pub unnamed-held : the_tree store'.inodes (files_of store'.area store'.inodes (content store'.medium)) t' ≡
            unnamed (tree_in content s) (t.handle dir) name
        unnamed-held = held-unnamed s.limits s.store.area s.store.inodes (content s.store.medium)
            (size s.store.medium) s.store.map t sound store'.area store'.inodes (size store'.medium) ea en es
            (content store'.medium) store'.map t' dir within file.0 file.1 file.2 bytes filled index now name j k kind_j
            leads unnames
