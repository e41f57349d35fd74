-- Calls that ask, and calls that change a node, over a tree on a medium.
use Rattle.std.proofs.Common.{◌≡◌, ℕ, ◌/◌, ◌<◌, ◌≤◌, true, List, length, take, drop, map, slice_get, Option, Some, None, IsSomeAnd, refl, sym, ap, ◌∙◌}
use Rattle.std.specs.Prelude.{Vec}
use Rattle.std.specs.Option.{option_map}
use Rattle.std.specs.declared.alloc.Global.{Global}
use Rattle.std.specs.FinMap.{get}
use Rattle.std.proofs.lemmas.List.{take_all}
use Rattle.std.proofs.lemmas.Option.{slice_get-map}
use Rattle.nfs2_types.specs.Bytes.{resized}
use Rattle.nfs2_types.specs.declared.fattr.Kind.{Kind}
use Rattle.nfs2_types.specs.declared.fattr.Kind.TheVariants.{File as AFile, Dir, Link}
use Rattle.server_trait.specs.Tree.{Tree, Node, Content, Names, edited, with_attr, with_bytes, node_at, bytes_at, text_at, names_at, bytes_in, text_in, kind_of, size_of, links_of, links, target}
use Rattle.server_trait.specs.Calls.{Attr, IsAttr, SetAttr, Read, ReadLink, Write, Wrote, SetSize, Lookup, ListNames, Lists, NodeErr, ContentErr, WriteErr, SetSizeErr, LookupErr, DirErr}
use Rattle.server_trait.specs.declared.server.SrvErr.{SrvErr}
use Rattle.server_trait.specs.declared.server.SrvErr.TheVariants.{Stale, NotDir, WrongKind}
use Rattle.server_trait.specs.declared.server.ServerLimits.{ServerLimits}
use Rattle.server_trait.specs.declared.server.Listed.{Listed}
use Rattle.server_trait.proofs.TreeLaws.{some_same}
use Rattle.inode_dirs.specs.Files.{File, body_of, entry_of}
use Rattle.inode_dirs.specs.Slots.{Slots, names_of}
use Rattle.inode_dirs.specs.SlotBytes.{slots_in}
use Rattle.inode_dirs.specs.Table.{content_of, node_of}
use Rattle.inode_dirs.specs.declared.index.Place.{Place}
use Rattle.inode_dirs.proofs.SlotLaws.{names-indexed}
use Rattle.inode_store.specs.declared.inode.Inode.{Inode}
use Rattle.inode_store.specs.Held.{files_of}
use Rattle.inode_tree.specs.Kept.{tables_of}
use Rattle.inode_tree.specs.Sound.{Tells}
use Rattle.inode_tree.specs.Tables.{Tables}
use Rattle.inode_tree.specs.Whole.{tree_in, IsWhole}
use Rattle.inode_tree.specs.declared.tree.InodeTree.{InodeTree}
use Rattle.inode_tree.proofs.SizeLaws.{names-dir}
use Rattle.inode_tree.proofs.TiedLaws.{some_is, some_entry, index-dir}
use Rattle.inode_server.specs.Answers.{is_kept}
use Rattle.inode_server.specs.Found.{attr_told, size_told, links_told}
use Rattle.inode_server.specs.Rows.{row_of}
use Rattle.inode_server.proofs.CallLaws.{IsCall}
use Rattle.inode_server.proofs.FoundLaws as found

-- THE CALLS

module _ {M : Type 0} (content : M → ℕ → List ℕ) (faults : M → ℕ) (old : InodeTree M) (h : List ℕ) where
  abbrev pub attr_call : IsCall content faults (λ a. Attr a h) old
  attr_call = record {
    done = λ t a after. IsSomeAnd (node_at t h) (IsAttr t h a) × (after ≡ Some t);
    applies = NodeErr h;
    is = λ r new x. x;
  }

  abbrev pub set_attr_call : (mode uid gid : ℕ) → IsCall content faults (λ a. SetAttr a h mode uid gid) old
  set_attr_call mode uid gid = record {
    done = λ t _ after. after ≡ Some (edited t h (with_attr mode uid gid));
    applies = NodeErr h;
    is = λ r new x. x;
  }

  abbrev pub read_call : (offset count : ℕ) → IsCall {T = Vec ℕ Global} content faults (λ a. Read a h offset count) old
  read_call offset count = record {
    done = λ t v after. (option_map (λ b. take count (drop offset b)) (bytes_at t h) ≡ Some v.items) × (after ≡ Some t);
    applies = ContentErr bytes_in h;
    is = λ r new x. x;
  }

  abbrev pub read_link_call : IsCall {T = Vec ℕ Global} content faults (λ a. ReadLink a h) old
  read_link_call = record {
    done = λ t v after. (text_at t h ≡ Some v.items) × (after ≡ Some t);
    applies = ContentErr text_in h;
    is = λ r new x. x;
  }

  abbrev pub write_call : (offset : ℕ) (piece : List ℕ) → IsCall content faults (λ a. Write a h offset piece) old
  write_call offset piece = record {
    done = λ t n after. Wrote t h offset piece n after;
    applies = WriteErr old.limits h offset (length piece);
    is = λ r new x. x;
  }

  abbrev pub set_size_call : (size : ℕ) → IsCall content faults (λ a. SetSize a h size) old
  set_size_call size = record {
    done = λ t _ after. after ≡ Some (edited t h (with_bytes (resized size)));
    applies = SetSizeErr old.limits h size;
    is = λ r new x. x;
  }

  abbrev pub lookup_call : (name : List ℕ) → IsCall content faults (λ a. Lookup a h name) old
  lookup_call name = record {
    done = λ t to after. (target t h name ≡ Some to) × (after ≡ Some t);
    applies = LookupErr h name;
    is = λ r new x. x;
  }

  abbrev pub list_call : IsCall {T = Vec Listed Global} content faults (λ a. ListNames a h) old
  list_call = record {
    done = λ t rows after. IsSomeAnd (names_at t h) (Lists rows.items) × (after ≡ Some t);
    applies = DirErr h;
    is = λ r new x. x;
  }

-- ERRORS OF ONE CALL ARE THOSE OF ANOTHER

-- an error of a look at a directory keeps the tree
pub dir_kept : (t : Tree) (h : List ℕ) (e : SrvErr) → DirErr h t e → is_kept e ≡ true
dir_kept t h Stale a = refl
dir_kept t h NotDir a = refl
dir_kept t h e a = absurd a

pub content_kept : {X : Type 0} (view : Content → Option X) (t : Tree) (h : List ℕ) (e : SrvErr) →
    ContentErr view h t e → is_kept e ≡ true
content_kept view t h Stale a = refl
content_kept view t h WrongKind a = refl
content_kept view t h e a = absurd a

pub dir_lookup : (t : Tree) (h name : List ℕ) (e : SrvErr) → DirErr h t e → LookupErr h name t e
dir_lookup t h name Stale a = a
dir_lookup t h name NotDir a = a
dir_lookup t h name e a = absurd a

pub file_write : (limits : ServerLimits) (t : Tree) (h : List ℕ) (offset count : ℕ) (e : SrvErr) →
    ContentErr bytes_in h t e → WriteErr limits h offset count t e
file_write limits t h offset count Stale a = a
file_write limits t h offset count WrongKind a = a
file_write limits t h offset count e a = absurd a

pub file_set_size : (limits : ServerLimits) (t : Tree) (h : List ℕ) (size : ℕ) (e : SrvErr) →
    ContentErr bytes_in h t e → SetSizeErr limits h size t e
file_set_size limits t h size Stale a = a
file_set_size limits t h size WrongKind a = a
file_set_size limits t h size e a = absurd a

-- WHAT IS TOLD

module _ {M : Type 0} (content : M → ℕ → List ℕ) (size : M → ℕ) (s : InodeTree M) (whole : IsWhole content size s) where
  abbrev files : ℕ → Option File
  files = files_of s.store.area s.store.inodes (content s.store.medium)

  abbrev t : Tables
  t = tables_of s.tables

  abbrev tree : Tree
  tree = tree_in content s

  -- the attributes of a node
  module _ (h : List ℕ) (i : ℕ) (handle : t.handle i ≡ h) (f : File) (is : files i ≡ Some f) (x : Inode)
      (tells : Tells x f) where
    abbrev node : Node
    node = node_of t.handle i (entry_of f)

    kinds : (k : Kind) → k ≡ kind_of (content_of t.handle (body_of k f.bytes))
    kinds AFile = refl
    kinds Dir = refl
    kinds Link = refl

    sizes : (k : Kind) → f.kind ≡ k → size_told k x.size ≡ size_of (content_of t.handle (body_of k f.bytes))
    sizes AFile e = sym tells.size
    sizes Link e = sym tells.size
    sizes Dir e = ap (λ n. n / 288) (sym tells.size)
        ∙ sym (names-dir s.store.inodes files t whole.tied i f is e)

    counts : (k : Kind) → f.kind ≡ k → links_told t i k ≡ links_of tree h (content_of t.handle (body_of k f.bytes))
    counts AFile e = whole.tied.counted.links_are i (some_entry files i (some_is is)) ∙ ap (links tree) handle
    counts Link e = whole.tied.counted.links_are i (some_entry files i (some_is is)) ∙ ap (links tree) handle
    counts Dir e = whole.tied.counted.subdirs_are i (entry_of f) (slots_in (length f.bytes / 288) f.bytes)
        (ap (option_map entry_of) is) (ap (λ k. body_of k f.bytes) e)

    pub attr_is : IsAttr tree h (attr_told t i x) node
    attr_is = record {
      kind = tells.kind ∙ kinds f.kind;
      number = refl;
      mode = tells.mode;
      uid = tells.uid;
      gid = tells.gid;
      size = ap (λ k. size_told k x.size) tells.kind ∙ sizes f.kind refl;
      links = ap (links_told t i) tells.kind ∙ counts f.kind refl;
    }

  -- the rows of a directory
  module _ (h : List ℕ) (i : ℕ) (f : File) (is : files i ≡ Some f) (is_dir : f.kind ≡ Dir) where
    abbrev slots : Slots
    slots = slots_in (length f.bytes / 288) f.bytes

    abbrev names : Names
    names = names_of t.handle slots

    in_names : (q : List ℕ) → get names q ≡ option_map (λ (p : Place). t.handle p.inode) (t.place i q)
    in_names q = names-indexed t.handle (t.place i) slots (index-dir s.store.inodes files t whole.tied i f is is_dir) q

    -- a row is that of a slot
    of_row : (k : ℕ) (row : Listed) → slice_get (map (row_of t.handle) slots) k ≡ Some row →
        (x : List ℕ × ℕ) × (slice_get slots k ≡ Some x) × (row_of t.handle x ≡ row)
    of_row k row at = by (slice_get slots k) refl (sym (slice_get-map (row_of t.handle) slots k) ∙ at)
      where
        by : (o : Option (List ℕ × ℕ)) → slice_get slots k ≡ o → option_map (row_of t.handle) o ≡ Some row →
            (x : List ℕ × ℕ) × (slice_get slots k ≡ Some x) × (row_of t.handle x ≡ row)
        by None is bad = absurd (let no : None ≡ Some row = bad in cc)
        by (Some x) is e = (x, is, some_same refl e)

    at_place : (k : ℕ) (x : List ℕ × ℕ) → slice_get slots k ≡ Some x →
        t.place i x.0 ≡ Some (record { slot = k; inode = x.1 })
    at_place k x at = (index-dir s.store.inodes files t whole.tied i f is is_dir x.0 (record { slot = k; inode = x.1 })).1 at

    -- a slot leads to an inode
    pub slot_led : (kind : t.kind i ≡ Some Dir) (k : ℕ) (x : List ℕ × ℕ) → slice_get slots k ≡ Some x →
        x.1 < t.counts.inodes
    slot_led kind k x at =
        found.led_counted content size s whole i kind x.0 (record { slot = k; inode = x.1 }) (at_place k x at)

    pub rows_are : Lists (map (row_of t.handle) slots) names
    rows_are = record {
      sound = λ k row at.
          let x = of_row k row at in
          ap (get names) (ap (λ (r : Listed). r.name) (sym x.2)) ∙ in_names x.0.0
          ∙ ap (option_map (λ (p : Place). t.handle p.inode)) (at_place k x.0 x.1)
          ∙ ap (λ (r : Listed). Some r.handle) x.2;
      complete = λ name h is_there. found_row name h (t.place i name) refl (sym (in_names name) ∙ is_there);
      once = λ j k a b at_j at_k same.
          let x = of_row j a at_j in
          let y = of_row k b at_k in
          let names_same : x.0.0 ≡ y.0.0 = ap (λ (r : Listed). r.name) x.2 ∙ same ∙ ap (λ (r : Listed). r.name) (sym y.2) in
          ap (λ (p : Place). p.slot) (some_same (at_place j x.0 x.1) (ap (t.place i) names_same ∙ at_place k y.0 y.1));
    }
      where
        found_row : (name h : List ℕ) (o : Option Place) → t.place i name ≡ o →
            option_map (λ (p : Place). t.handle p.inode) o ≡ Some h →
            (k : ℕ) × (slice_get (map (row_of t.handle) slots) k ≡ Some (record { name = name; handle = h }))
        found_row name h None at bad = absurd (let no : None ≡ Some h = bad in cc)
        found_row name h (Some p) at e = (
          p.slot,
          slice_get-map (row_of t.handle) slots p.slot
              ∙ ap (option_map (row_of t.handle)) ((index-dir s.store.inodes files t whole.tied i f is is_dir name p).0 at)
              ∙ ap (λ (h : List ℕ). Some (let r : Listed = record { name = name; handle = h } in r)) (some_same refl e),
        )

-- all bytes, where there are no more than are asked for
pub all_of : (b : List ℕ) (n : ℕ) → length b ≤ n → take n (drop 0 b) ≡ b
all_of b n l = take_all n b l
