-- Calls by which nodes get and lose names, over a tree on a medium.
use Rattle.std.proofs.Common.{◌≡◌, ◌≢◌, ◌⊎◌, inl, inr, ℕ, ◌+◌, ◌/◌, ◌<◌, ◌≤◌, arith, true, List, [], ◌∷◌, length, Option, Some, None, IsSomeAnd, Err, refl, sym, ap, ◌∙◌, subst}
use Rattle.std.specs.FinMap.{get, empty, len, empty_of_len, len-empty, get-empty}
use Rattle.std.specs.Ordering.{nat_cmp}
use Rattle.std.specs.Cmp.Lexicographic.{slice_cmp}
use Rattle.nfs2_types.specs.declared.fattr.Kind.{Kind}
use Rattle.nfs2_types.specs.declared.fattr.Kind.TheVariants.{File as AFile, Dir, Link}
use Rattle.server_trait.specs.Tree.{Tree, Names, names_in, names_at, target, named, unnamed, let_go}
use Rattle.server_trait.specs.Step.{OnlySoft, HasNames, IsAtOrBelow}
use Rattle.server_trait.specs.Calls.{DirErr, IsDir, Link as LinkCall, LinkErr, Remove, Removed, RemoveErr, Rmdir, RmdirErr, Rename, RenameErr, renamed}
use Rattle.server_trait.specs.declared.server.SrvErr.{SrvErr}
use Rattle.server_trait.specs.declared.server.SrvErr.TheVariants.{Stale, NotDir, WrongKind}
use Rattle.server_trait.specs.declared.server.ServerLimits.{ServerLimits}
use Rattle.server_trait.proofs.NameSoftLaws.{CanRename, rename_soft}
use Rattle.server_trait.proofs.SoftLaws.{some_of, not_other}
use Rattle.server_trait.proofs.TreeLaws.{and_then, some_none, some_same, is_some_and, bytes_or_not, one_or_not}
use Rattle.inode_dirs.specs.Files.{File}
use Rattle.inode_dirs.specs.declared.index.Place.{Place}
use Rattle.inode_store.specs.Held.{files_of}
use Rattle.inode_store.specs.Store.{file_in}
use Rattle.inode_tree.specs.Changes.{Unnames, inode_of}
use Rattle.inode_tree.specs.Kept.{tables_of}
use Rattle.inode_tree.specs.Tables.{Tables, climb, IsUnder, is_dir_kind}
use Rattle.inode_tree.specs.Whole.{tree_in, IsWhole}
use Rattle.inode_tree.specs.declared.tree.InodeTree.{InodeTree}
use Rattle.inode_tree.proofs.BelowLaws.{climb-dir, under-below, below-under}
use Rattle.inode_tree.proofs.SizeLaws.{names-dir}
use Rattle.inode_server.specs.Answers.{is_kept}
use Rattle.inode_server.specs.Found.{IsFound, FindsLeaf, IsWay}
use Rattle.inode_server.proofs.CallLaws.{IsCall}
use Rattle.inode_server.proofs.FoundLaws as found

-- THE CALLS

module _ {M : Type 0} (content : M → ℕ → List ℕ) (faults : M → ℕ) (old : InodeTree M) (dir name : List ℕ) where
  abbrev pub link_call : (h : List ℕ) → IsCall content faults (λ a. LinkCall a h dir name) old
  link_call h = record {
    done = λ t _ after. after ≡ Some (named t dir name h);
    applies = LinkErr old.limits h dir name;
    is = λ r new x. x;
  }

  abbrev pub remove_call : IsCall content faults (λ a. Remove a dir name) old
  remove_call = record {
    done = λ t _ after. Removed t dir name after;
    applies = RemoveErr dir name;
    is = λ r new x. x;
  }

  abbrev pub rmdir_call : IsCall content faults (λ a. Rmdir a dir name) old
  rmdir_call = record {
    done = λ t _ after. Removed t dir name after;
    applies = RmdirErr dir name;
    is = λ r new x. x;
  }

  abbrev pub rename_call : (to to_name : List ℕ) → IsCall content faults (λ a. Rename a dir name to to_name) old
  rename_call to to_name = record {
    done = λ t _ after. IsSomeAnd (target t dir name) (λ h. after ≡ Some (renamed t dir name to to_name h));
    applies = RenameErr dir name to to_name;
    is = λ r new x. x;
  }

-- ERRORS OF ONE CALL ARE THOSE OF ANOTHER

pub dir_link : (limits : ServerLimits) (t : Tree) (h dir name : List ℕ) (e : SrvErr) → DirErr dir t e →
    LinkErr limits h dir name t e
dir_link limits t h dir name Stale a = inr a
dir_link limits t h dir name NotDir a = a
dir_link limits t h dir name e a = absurd a

pub leaf_link : (limits : ServerLimits) (s : Tables) (t : Tree) (h dir name : List ℕ) (e : SrvErr) →
    FindsLeaf s t h (Err e) → LinkErr limits h dir name t e
leaf_link limits s t h dir name Stale a = inl a
leaf_link limits s t h dir name WrongKind a = a
leaf_link limits s t h dir name e a = absurd a

pub leaf_kept : (s : Tables) (t : Tree) (h : List ℕ) (e : SrvErr) → FindsLeaf s t h (Err e) → is_kept e ≡ true
leaf_kept s t h Stale a = refl
leaf_kept s t h WrongKind a = refl
leaf_kept s t h e a = absurd a

pub dir_remove : (t : Tree) (dir name : List ℕ) (e : SrvErr) → DirErr dir t e → RemoveErr dir name t e
dir_remove t dir name Stale a = a
dir_remove t dir name NotDir a = a
dir_remove t dir name e a = absurd a

pub dir_rmdir : (t : Tree) (dir name : List ℕ) (e : SrvErr) → DirErr dir t e → RmdirErr dir name t e
dir_rmdir t dir name Stale a = a
dir_rmdir t dir name NotDir a = inl a
dir_rmdir t dir name e a = absurd a

pub from_rename : (t : Tree) (from name to to_name : List ℕ) (e : SrvErr) → DirErr from t e →
    RenameErr from name to to_name t e
from_rename t from name to to_name Stale a = inl a
from_rename t from name to to_name NotDir a = inl (inl a)
from_rename t from name to to_name e a = absurd a

pub to_rename : (t : Tree) (from name to to_name : List ℕ) (e : SrvErr) → DirErr to t e →
    RenameErr from name to to_name t e
to_rename t from name to to_name Stale a = inr a
to_rename t from name to to_name NotDir a = inl (inr a)
to_rename t from name to to_name e a = absurd a

-- a new name leads on from what the first led to
renamed-new : (t : Tree) (from name to to_name h : List ℕ) → target t to to_name ≡ None →
    renamed t from name to to_name h ≡ named (unnamed t from name) to to_name h
renamed-new t from name to to_name h none = rw (none, renamed) refl

file_not_dir : AFile ≢ Dir
file_not_dir e = (let bad : AFile ≡ Dir = e in cc)

link_not_dir : Link ≢ Dir
link_not_dir e = (let bad : Link ≡ Dir = e in cc)

-- a list without length is empty
no_length : (b : List ℕ) → length b ≡ 0 → b ≡ []
no_length [] none = refl
no_length (x ∷ b) none = absurd (omega (arith, none))

module _ {M : Type 0} (content : M → ℕ → List ℕ) (size : M → ℕ) (s : InodeTree M) (whole : IsWhole content size s) where
  abbrev n : ℕ
  n = s.store.inodes

  abbrev files : ℕ → Option File
  files = files_of s.store.area s.store.inodes (content s.store.medium)

  abbrev t : Tables
  t = tables_of s.tables

  abbrev tree : Tree
  tree = tree_in content s

  -- EMPTY DIRECTORIES

  module _ (i : ℕ) (is : t.kind i ≡ Some Dir) (bytes : ℕ)
      (told : (f : File) → file_in content s.store i ≡ Some f → length f.bytes ≡ bytes) where
    abbrev f : (f : File) × (files i ≡ Some f) × (f.kind ≡ Dir)
    f = found.file_at-kind content size s whole i Dir is

    its_size : length f.0.bytes ≡ bytes
    its_size = told f.0 (found.in_store content size s whole i f.0 f.1)

    abbrev names : Names
    names = found.names content size s whole (t.handle i) i refl is

    count : len names ≡ length f.0.bytes / 288
    count = names-dir n files t whole.tied i f.0 f.1 f.2

    pub has_names : 1 ≤ bytes → HasNames tree (t.handle i)
    has_names some = is_some_and (λ (m : Names). m ≢ empty) (found.names_are content size s whole (t.handle i) i refl is)
        (λ none.
        let zero_len : len names ≡ 0 = ap len none ∙ len-empty (slice_cmp nat_cmp) (List ℕ) in
        let filled = whole.tied.filled i f.0 f.1 f.2 in
        let all = its_size in
        let counted = count in
        omega (arith, some, zero_len, filled, all, counted))

    pub no_names : bytes ≡ 0 → names_at tree (t.handle i) ≡ Some empty
    no_names none =
        let all = its_size in
        let counted = count in
        found.names_are content size s whole (t.handle i) i refl is
        ∙ ap Some (empty_of_len names (omega (arith, none, all, counted)))

    pub no_bytes : bytes ≡ 0 → (g : File) → file_in content s.store i ≡ Some g → g.bytes ≡ []
    no_bytes none g at = no_length g.bytes (told g at ∙ none)

  -- A NAME THAT GOES

  module _ (dir name : List ℕ) (i : ℕ) (handle : t.handle i ≡ dir) (is : t.kind i ≡ Some Dir) (p : Place)
      (at : t.place i name ≡ Some p) where
    pub removed : (new : Option Tree) → new ≡ Some (let_go (unnamed tree (t.handle i) name) (t.handle p.inode)) →
        Removed tree dir name new
    removed new e = is_some_and (λ (h : List ℕ). new ≡ Some (let_go (unnamed tree dir name) h))
        (found.leads content size s whole dir i handle is name p at)
        (e ∙ ap (λ d. Some (let_go (unnamed tree d name) (t.handle p.inode))) handle)

    -- a directory with a name has bytes
    pub not_bare : (f : File) → files i ≡ Some f → f.bytes ≢ []
    not_bare f f_is none =
        let d = found.file_at-kind content size s whole i Dir is in
        let same : f ≡ d.0 = some_same f_is d.1 in
        let counted = names-dir n files t whole.tied i d.0 d.1 d.2 in
        let no_len : length d.0.bytes ≡ 0 = ap (λ (f : File). length f.bytes) (sym same) ∙ ap length none in
        let bare = empty_of_len (found.names content size s whole dir i handle is)
        (omega (arith, counted, no_len)) in
        let there = found.leads content size s whole dir i handle is name p at in
        let nothing : target tree dir name ≡ None = and_then (λ (m : Names). get m name) (names_at tree dir)
        (found.names content size s whole dir i handle is) (found.names_are content size s whole dir i handle is)
        ∙ ap (λ (m : Names). get m name) bare ∙ get-empty (slice_cmp nat_cmp) name in
        some_none there nothing

  -- A NAME THAT MOVES

  -- where there are names there is a directory
  dir_of_kind : (i : ℕ) (k : Kind) → t.kind i ≡ Some k → IsDir tree (t.handle i) → k ≡ Dir
  dir_of_kind i Dir is d = refl
  dir_of_kind i AFile is d =
      let m = some_of (names_at tree (t.handle i)) d in
      absurd (not_other names_in tree (t.handle i) m.0 m.1
      (found.not_dir content size s whole (t.handle i) i AFile refl is file_not_dir))
  dir_of_kind i Link is d =
      let m = some_of (names_at tree (t.handle i)) d in
      absurd (not_other names_in tree (t.handle i) m.0 m.1
      (found.not_dir content size s whole (t.handle i) i Link refl is link_not_dir))

  -- the way up stays among the inodes
  pub way_within : (i : ℕ) → t.kind i ≡ Some Dir → (k : ℕ) → IsWay t k i → climb t k i < t.counts.inodes
  way_within i is k way =
      let l = found.within content size s whole (climb t k i) Dir (climb-dir n files t whole.tied k i is way) in
      let same = whole.tied.inodes in
      omega (arith, l, same)

  module _ (from name to to_name : List ℕ) (i : ℕ) (from_is : IsFound t from Dir i) (j : ℕ) (to_is : IsFound t to Dir j)
      (p : Place) (at : t.place i name ≡ Some p) (kind : Kind) (kind_is : t.kind p.inode ≡ Some kind) where
    is_moved : target tree from name ≡ Some (t.handle p.inode)
    is_moved = found.leads content size s whole from i from_is.handle from_is.kind_is name p at

    pub is_below : kind ≡ Dir → IsUnder t p.inode j → IsSomeAnd (target tree from name)
        (λ h. IsDir tree h × IsAtOrBelow tree h to)
    is_below is_dir under =
        let top_dir = kind_is ∙ ap Some is_dir in
        is_some_and (λ (h : List ℕ). IsDir tree h × IsAtOrBelow tree h to) is_moved (
          found.is_dir content size s whole (t.handle p.inode) p.inode refl top_dir,
          subst (λ q. IsAtOrBelow tree (t.handle p.inode) q) to_is.handle
              (under-below n files t whole.tied p.inode j to_is.kind_is under),
        )

    module _ (new_name : t.place j to_name ≡ None) (not_under : kind ≡ Dir → IsUnder t p.inode j → ⊥) where
      no_target : target tree to to_name ≡ None
      no_target = found.no_target content size s whole to j to_is.handle to_is.kind_is to_name new_name

      can : CanRename tree from name to to_name (t.handle p.inode)
      can = record {
        is_moved = is_moved;
        into = found.names content size s whole to j to_is.handle to_is.kind_is;
        is_into = found.names_are content size s whole to j to_is.handle to_is.kind_is;
        not_below = λ dir below.
            let is_dir = dir_of_kind p.inode kind kind_is dir in
            not_under is_dir (below-under n files t whole.tied p.inode j (kind_is ∙ ap Some is_dir) to_is.kind_is
            (subst (λ q. IsAtOrBelow tree (t.handle p.inode) q) (sym to_is.handle) below));
        fits = λ r there. absurd (some_none there no_target);
      }

      pub only_soft : OnlySoft (RenameErr from name to to_name tree)
      only_soft = rename_soft can

      pub moved : (new : Option Tree) → new ≡ Some (named (unnamed tree (t.handle i) name) (t.handle j) to_name
          (t.handle p.inode)) →
          IsSomeAnd (target tree from name) (λ h. new ≡ Some (renamed tree from name to to_name h))
      moved new e = is_some_and (λ (h : List ℕ). new ≡ Some (renamed tree from name to to_name h)) is_moved
          (e ∙ ap (λ d. Some (named (unnamed tree d name) (t.handle j) to_name (t.handle p.inode))) from_is.handle
          ∙ ap (λ d. Some (named (unnamed tree from name) d to_name (t.handle p.inode))) to_is.handle
          ∙ ap Some (sym (renamed-new tree from name to to_name (t.handle p.inode) no_target)))

  -- after a name is gone another is still new, and a directory has no name
  module _ (t' : Tables) (i : ℕ) (name : List ℕ) (p : Place) (kind : Kind)
      (rows : Unnames t t' i name p.inode (is_dir_kind kind)) where
    pub still_new : (j : ℕ) (q : List ℕ) → t.place j q ≡ None → inode_of (t'.place j q) ≡ None
    still_new j q none = by (one_or_not j i) (bytes_or_not q name)
      where
        by : (j ≡ i) ⊎ (j ≢ i) → (q ≡ name) ⊎ (q ≢ name) → inode_of (t'.place j q) ≡ None
        by (inl e) (inl same) = ap (λ j. inode_of (t'.place j q)) e ∙ ap (λ q. inode_of (t'.place i q)) same ∙ rows.gone
        by (inl e) (inr ne) = ap (λ j. inode_of (t'.place j q)) e ∙ rows.others q ne
            ∙ ap (λ j. inode_of (t.place j q)) (sym e) ∙ ap inode_of none
        by (inr ne) c = ap (λ f. inode_of (f q)) (rows.places j ne) ∙ ap inode_of none

    pub still_room : t'.counts.used + 512 ≤ s.limits.bytes
    still_room = let u = rows.counts.used in let w = whole.within in omega (arith, u, w)

    pub now_unlinked : t.kind p.inode ≡ Some kind → kind ≡ Dir → t'.counts.links p.inode ≡ 0
    now_unlinked kind_is is_dir =
        let one = whole.tied.parents.once p.inode (kind_is ∙ ap Some is_dir) in
        let less = rows.counts.links_here in
        omega (arith, one, less)
