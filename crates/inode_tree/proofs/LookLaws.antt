-- What a tree on a medium shows of a handle and of a name, by the tables in memory.
use Rattle.std.proofs.Common.{inl, inr, ◌≡◌, ◌≢◌, ◌⊎◌, ℕ, zero, suc, ◌+◌, ◌-◌, ◌*◌, ◌/◌, ◌<◌, ◌≤◌, arith, Bool, true, false, List, length, Option, Some, None, IsSome, IsSomeAnd, refl, sym, ap, ◌∙◌, subst, max}
use Rattle.std.specs.Prelude.{◌==◌, if◌then◌else◌}
use Rattle.std.specs.Option.{option_map}
use Rattle.std.specs.FinMap.{get, len}
use Rattle.std.proofs.lemmas.Bool.Decides.{nat_tests}
use Rattle.nfs2_types.specs.declared.fattr.Kind.{Kind}
use Rattle.nfs2_types.specs.declared.fattr.Kind.TheVariants.{File as AFile, Dir, Link}
use Rattle.server_trait.specs.Tree.{Tree, Node, Names, node_at, names_in, bytes_in, text_in, names_at, bytes_at, text_at, target, links, used, let_go, without_node}
use Rattle.server_trait.specs.Step.{IsStale, IsNo, HasName, LacksName, NoRoom}
use Rattle.server_trait.specs.declared.server.ServerLimits.{ServerLimits}
use Rattle.server_trait.proofs.TreeLaws.{is_some_and, some_none, and_then, names_at-node}
use Rattle.inode_dirs.specs.Slots.{names_of}
use Rattle.inode_dirs.specs.SlotBytes.{slots_in}
use Rattle.inode_dirs.specs.Table.{content_of, node_of}
use Rattle.inode_dirs.specs.Files.{File, body_of, entry_of, table_of}
use Rattle.inode_dirs.specs.declared.index.Place.{Place}
use Rattle.inode_dirs.proofs.SlotLaws.{names-indexed}
use Rattle.inode_dirs.proofs.TableLaws.{node-none}
use Rattle.inode_tree.specs.Tables.{Tables}
use Rattle.inode_tree.specs.Sound.{IsTied, the_tree}
use Rattle.inode_tree.proofs.TiedLaws.{some_is, some_of, some_entry, entry_some, apart, node-file, index-dir, kind-file, file-kind, target-place}

not_zero : (k : ℕ) → 1 ≤ k → (k == 0) ≡ false
not_zero k more = grind (arith, nat_tests)

module _ (n : ℕ) (files : ℕ → Option File) (t : Tables) (tied : IsTied n files t) where
  -- a handle that is no used inode's names no node
  pub stale : (h : List ℕ) → ((i : ℕ) → IsSome (t.kind i) → t.handle i ≢ h) → IsStale (the_tree n files t) h
  stale h none = node-none t.handle n (table_of files) (apart n files t tied) h (λ i used.
      let f = some_of (files i) (entry_some files i used) in
      none i (some_is (kind-file n files t tied i f.0 f.1)))

  -- what the node of a used inode contains, by its kind
  module _ (i : ℕ) (f : File) (is : files i ≡ Some f) where
    abbrev node : Node
    node = node_of t.handle i (entry_of f)

    pub node-there : node_at (the_tree n files t) (t.handle i) ≡ Some node
    node-there = node-file n files t tied i f is

    pub file-bytes : f.kind ≡ AFile → bytes_at (the_tree n files t) (t.handle i) ≡ Some f.bytes
    file-bytes is_file = and_then (λ (x : Node). bytes_in x.content) (node_at (the_tree n files t) (t.handle i)) node
        node-there ∙ ap (λ k. bytes_in (content_of t.handle (body_of k f.bytes))) is_file

    pub link-text : f.kind ≡ Link → text_at (the_tree n files t) (t.handle i) ≡ Some f.bytes
    link-text is_link = and_then (λ (x : Node). text_in x.content) (node_at (the_tree n files t) (t.handle i)) node
        node-there ∙ ap (λ k. text_in (content_of t.handle (body_of k f.bytes))) is_link

    pub dir-names : f.kind ≡ Dir → names_at (the_tree n files t) (t.handle i) ≡
        Some (names_of t.handle (slots_in (length f.bytes / 288) f.bytes))
    dir-names is_dir = names_at-node (the_tree n files t) (t.handle i) node node-there
        ∙ ap (λ k. names_in (content_of t.handle (body_of k f.bytes))) is_dir

    -- what it is not
    pub no-bytes : f.kind ≢ AFile → IsNo bytes_in (the_tree n files t) (t.handle i)
    no-bytes ne = is_some_and (λ (x : Node). bytes_in x.content ≡ None) node-there (by f.kind ne)
      where
        by : (k : Kind) → k ≢ AFile → bytes_in (content_of t.handle (body_of k f.bytes)) ≡ None
        by AFile ne = absurd (ne refl)
        by Dir ne = refl
        by Link ne = refl

    pub no-text : f.kind ≢ Link → IsNo text_in (the_tree n files t) (t.handle i)
    no-text ne = is_some_and (λ (x : Node). text_in x.content ≡ None) node-there (by f.kind ne)
      where
        by : (k : Kind) → k ≢ Link → text_in (content_of t.handle (body_of k f.bytes)) ≡ None
        by AFile ne = refl
        by Dir ne = refl
        by Link ne = absurd (ne refl)

    pub no-names : f.kind ≢ Dir → IsNo names_in (the_tree n files t) (t.handle i)
    no-names ne = is_some_and (λ (x : Node). names_in x.content ≡ None) node-there (by f.kind ne)
      where
        by : (k : Kind) → k ≢ Dir → names_in (content_of t.handle (body_of k f.bytes)) ≡ None
        by AFile ne = refl
        by Dir ne = absurd (ne refl)
        by Link ne = refl

    -- where its names lead
    module _ (is_dir : f.kind ≡ Dir) (q : List ℕ) where
      pub has-name : (p : Place) → t.place i q ≡ Some p →
          target (the_tree n files t) (t.handle i) q ≡ Some (t.handle p.inode)
      has-name p leads = target-place n files t tied i f is is_dir q
          ∙ ap (option_map (λ (p : Place). t.handle p.inode)) leads

      pub no-name : t.place i q ≡ None → target (the_tree n files t) (t.handle i) q ≡ None
      no-name none = target-place n files t tied i f is is_dir q ∙ ap (option_map (λ (p : Place). t.handle p.inode)) none

      pub lacks-name : t.place i q ≡ None → LacksName (the_tree n files t) (t.handle i) q
      lacks-name none = is_some_and (λ (m : Names). get m q ≡ None) (dir-names is_dir)
          (names-indexed t.handle (t.place i) (slots_in (length f.bytes / 288) f.bytes) (index-dir n files t tied i f is
          is_dir) q ∙ ap (option_map (λ (p : Place). t.handle p.inode)) none)

  -- a node goes with its last name
  pub last-name : (i : ℕ) → IsSome (files i) → t.counts.links i ≡ 0 →
      let_go (the_tree n files t) (t.handle i) ≡ without_node (the_tree n files t) (t.handle i)
  unfolding let_go
  last-name i used none =
      let count : links (the_tree n files t) (t.handle i) ≡ 0 = sym (tied.counted.links_are i (some_entry files i used))
      ∙ none in
      ap (λ k. if k == 0 then without_node (the_tree n files t) (t.handle i) else the_tree n files t) count

  pub other-name : (i : ℕ) → IsSome (files i) → 1 ≤ t.counts.links i →
      let_go (the_tree n files t) (t.handle i) ≡ the_tree n files t
  unfolding let_go
  other-name i used more =
      let count = tied.counted.links_are i (some_entry files i used) in
      ap (λ b. if b then without_node (the_tree n files t) (t.handle i) else the_tree n files t)
      (not_zero (links (the_tree n files t) (t.handle i)) (omega (arith, count, more)))

  -- a tree that is full
  pub no-nodes : (limits : ServerLimits) (bytes : ℕ) → n ≡ max 1 limits.nodes → len (the_tree n files t).nodes ≡ n →
      NoRoom limits (the_tree n files t) 1 0 bytes
  no-nodes limits bytes inodes all = inl (omega (arith, inodes, all))

  pub no-bytes_left : (limits : ServerLimits) (nodes less more : ℕ) → limits.bytes < (t.counts.used - less) + more →
      NoRoom limits (the_tree n files t) nodes less more
  no-bytes_left limits nodes less more over = inr (let all = tied.counted.used_is in omega (arith, all, over))
