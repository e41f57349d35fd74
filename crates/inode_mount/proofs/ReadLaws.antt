-- A tree on a medium, while its tables are made anew.
use Rattle.std.proofs.Common.{◌≡◌, ℕ, ◌^◌, ◌<◌, ◌≤◌, arith, List, length, slice_get, Option, None, Some, IsSomeAnd, sym, ap, ◌∙◌, subst}
use Rattle.std.specs.Option.{option_map}
use Rattle.nfs2_types.specs.declared.fattr.Kind.TheVariants.{Dir}
use Rattle.pointer_tree.specs.Tree.{Content}
use Rattle.pointer_tree.specs.declared.node.Area.{Area}
use Rattle.server_trait.proofs.TreeLaws.{is_some_and, some_none}
use Rattle.inode_dirs.specs.Files.{File, IsDirectory, slots_at, slots_of}
use Rattle.inode_store.specs.Held.{files_of}
use Rattle.inode_store.specs.Inodes.{inode_at, file_of, file_at}
use Rattle.inode_store.specs.Layout.{HoldsTree}
use Rattle.inode_store.specs.Store.{file_in, IsKept}
use Rattle.inode_store.specs.declared.inode.Inode.{Inode}
use Rattle.inode_store.specs.declared.store.InodeStore.{InodeStore}
use Rattle.inode_store.proofs.OpLaws.{file_is}
use Rattle.inode_store.proofs.HeldLaws.{files_of-within, files_of-past}
use Rattle.inode_tree.specs.Tables.{Tables}
use Rattle.inode_tree.specs.Kept.{tables_of}
use Rattle.inode_tree.specs.Sound.{IsPlanned}
use Rattle.inode_tree.specs.Whole.{IsWhole}
use Rattle.inode_tree.specs.declared.tree.InodeTree.{InodeTree}
use Rattle.inode_tree.proofs.TiedLaws.{some_of}
use Rattle.inode_mount.specs.Reading.{AreNamed, IsReadable, files_in}
use Rattle.inode_mount.proofs.NamedLaws.{file-of_kind, kind-of_file, used-within, led, named-all}

-- a free inode has no file
file-free : (area : Area) (c : Content) (i : ℕ) → inode_at area c i ≡ None → file_at area c i ≡ None
unfolding file_at
file-free area c i is = ap (option_map (file_of area c)) is

module _ {M : Type 0} (content : M → ℕ → List ℕ) (size : M → ℕ) where
  -- what is said of the files of a store, where it goes by another name
  pub on-store : (P : ℕ → (ℕ → Option File) → Type 0) (s s' : InodeStore M) → s'.area ≡ s.area → s'.inodes ≡ s.inodes →
      content s'.medium ≡ content s.medium → P s.inodes (files_in content s) → P s'.inodes (files_in content s')
  on-store P s s' ea en ec h =
      subst (λ (a : Area). P s'.inodes (files_of a s'.inodes (content s'.medium))) (sym ea)
      (subst (λ (n : ℕ). P n (files_of s.area n (content s'.medium))) (sym en)
      (subst (λ (c : ℕ → List ℕ). P s.inodes (files_of s.area s.inodes c)) (sym ec) h))

  pub kept-on : (s s' : InodeStore M) → s'.area ≡ s.area → s'.inodes ≡ s.inodes →
      content s'.medium ≡ content s.medium → size s'.medium ≡ size s.medium → s'.map ≡ s.map → IsKept content size s →
      IsKept content size s'
  kept-on s s' ea en ec es em kept = rw (ea, en, ec, es, em) kept

  pub readable-kept : (s s' : InodeTree M) → s'.limits ≡ s.limits → s'.store.area ≡ s.store.area →
      s'.store.inodes ≡ s.store.inodes → content s'.store.medium ≡ content s.store.medium →
      size s'.store.medium ≡ size s.store.medium →
      IsPlanned s.limits s.store.area s.store.inodes (size s.store.medium) →
      HoldsTree s.limits s.store.area s.store.inodes (content s.store.medium) → IsKept content size s'.store →
      IsReadable content size s'
  readable-kept s s' el ea en ec es planned holds kept = record {
    planned = rw (el, ea, en, es) planned;
    holds = rw (el, ea, en, ec) holds;
    kept = kept;
  }

  pub readable-on : (s s' : InodeTree M) → s'.limits ≡ s.limits → s'.store.area ≡ s.store.area →
      s'.store.inodes ≡ s.store.inodes → content s'.store.medium ≡ content s.store.medium →
      size s'.store.medium ≡ size s.store.medium → s'.store.map ≡ s.store.map → IsReadable content size s →
      IsReadable content size s'
  readable-on s s' el ea en ec es em r = readable-kept s s' el ea en ec es r.planned r.holds
      (kept-on s.store s'.store ea en ec es em r.kept)

  module _ (s : InodeTree M) (r : IsReadable content size s) where
    pub no-file : (i : ℕ) → s.store.inodes ≤ i → files_in content s.store i ≡ None
    no-file i past = files_of-past s.store.area s.store.inodes i (content s.store.medium) past

    pub some-inodes : 0 < s.store.inodes
    some-inodes = let n = r.planned.inodes in omega (arith, n)

    pub few-inodes : s.store.inodes < 2 ^ 32
    few-inodes =
        let blocks = r.planned.blocks in
        let on_medium = r.planned.on_medium in
        let small = r.planned.small in
        omega (arith, blocks, on_medium, small)

    -- an inode as it was read
    pub used-read : (i : ℕ) (x : Inode) → i < s.store.inodes →
        inode_at s.store.area (content s.store.medium) i ≡ Some x →
        files_in content s.store i ≡ Some (file_of s.store.area (content s.store.medium) x)
    used-read i x l is = files_of-within s.store.area s.store.inodes i (content s.store.medium) l
        ∙ file_is s.store.area (content s.store.medium) i x is

    pub free-read : (i : ℕ) → i < s.store.inodes → inode_at s.store.area (content s.store.medium) i ≡ None →
        files_in content s.store i ≡ None
    free-read i l is = files_of-within s.store.area s.store.inodes i (content s.store.medium) l
        ∙ file-free s.store.area (content s.store.medium) i is

    -- all is read
    pub whole-read : AreNamed s.store.inodes (files_in content s.store) s.store.inodes 0 (tables_of s.tables) →
        IsWhole content size s
    whole-read named = record {
      keeps = r.kept;
      inodes = r.planned.inodes;
      blocks = r.planned.blocks;
      limited = r.planned.limited;
      tied = named-all s.store.inodes (files_in content s.store) (tables_of s.tables) no-file named;
      within = used-within s.limits s.store.inodes (files_in content s.store) r.holds.files s.store.inodes 0
          (tables_of s.tables) named;
    }

    -- A DIRECTORY THAT IS READ

    module _ (dir : ℕ) (within : dir < s.store.inodes) (k : ℕ) (t : Tables)
        (named : AreNamed s.store.inodes (files_in content s.store) dir k t) where
      pub in-store : files_in content s.store dir ≡ file_in content s.store dir
      in-store = files_of-within s.store.area s.store.inodes dir (content s.store.medium) within

      module _ (is_dir : t.kind dir ≡ Some Dir) where
        pub the-file : (f : File) × (files_in content s.store dir ≡ Some f) × (f.kind ≡ Dir)
        the-file = file-of_kind s.limits s.store.inodes (files_in content s.store) r.holds.files dir k t named dir Dir
            is_dir

        pub file-here : file_in content s.store dir ≡ Some the-file.0
        file-here = sym in-store ∙ the-file.1

        pub directory-here : IsSomeAnd (file_in content s.store dir) IsDirectory
        directory-here = is_some_and IsDirectory file-here (record {
          kind = the-file.2;
          whole = r.holds.files.filled dir the-file.0 the-file.1 the-file.2;
        })

        pub there-in_store : k < length (slots_at (files_in content s.store dir)) →
            k < length (slots_at (file_in content s.store dir))
        there-in_store l = subst (λ (o : Option File). k < length (slots_at o)) in-store l

        -- the slot that was read
        pub slot-read : (name : List ℕ) (j : ℕ) →
            slice_get (slots_at (file_in content s.store dir)) k ≡ Some (name, j) →
            slice_get (slots_of the-file.0) k ≡ Some (name, j)
        slot-read name j at = ap (λ (o : Option File). slice_get (slots_at o) k) (sym file-here) ∙ at

        pub kind-read : (name : List ℕ) (j : ℕ) →
            slice_get (slots_at (file_in content s.store dir)) k ≡ Some (name, j) → t.kind j ≡ None → ⊥
        kind-read name j at none =
            let some = led s.limits s.store.inodes (files_in content s.store) r.holds.files dir k t named the-file.0
            the-file.1 the-file.2 name j (slot-read name j at) in
            let f = some_of (files_in content s.store j) some in
            some_none (kind-of_file s.limits s.store.inodes (files_in content s.store) r.holds.files dir k t named j f.0
            f.1) none
