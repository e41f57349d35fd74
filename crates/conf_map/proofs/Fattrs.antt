-- What a client sees of a live row's node is what the array says: the call GETATTR (RFC 1094, 2.2.2).
use Rattle.std.proofs.Common.{◌≡◌, ℕ, ◌+◌, ◌*◌, true, false, Bool, List, length, Option, Some, None, refl, sym, ap, ◌∙◌, cond}
use Rattle.nfs2_types.specs.declared.fattr.Kind.{Kind}
use Rattle.nfs2_types.specs.declared.Fattr.{Fattr}
use Rattle.nfs2_types.specs.declared.Limits.{Limits}
use Rattle.server_trait.specs.Tree.{Tree, Node, Names, Content, BytesOf, TextOf, NamesOf, names_in, size_of, links_of, kind_of, one_if, is_dir_at}
use Rattle.server_trait.specs.Tree as tree
use Rattle.server_trait.specs.Calls.{IsAttr}
use Rattle.server_trait.proofs.TreeLaws.{some_and, some_none, some_same, names_at-node}
use Rattle.server_trait.specs.declared.server.NodeAttr.{NodeAttr}
use Rattle.server_trait.specs.declared.bench.ConfEntry.{ConfEntry}
use Rattle.server_trait.specs.declared.bench.ConfTable.{ConfTable}
use Rattle.abs_model.specs.declared.entry.Attr.{Attr}
use Rattle.abs_model.specs.declared.entry.Object.{Object}
use Rattle.abs_model.specs.declared.entry.Object.TheVariants.{Null, File, Dir, Link}
use Rattle.abs_model.specs.declared.entry.Entry.{Entry}
use Rattle.abs_model.specs.Objects.{is_dir, names_of, attr_of, zero_attr}
use Rattle.abs_model.specs.Array.{entry_at, fattr, fattr_by, parent}
use Rattle.abs_model.specs.Array as array
use Rattle.abs_model.specs.Valid.{Valid}
use Rattle.conf_map.specs.Shown.{attr_by, shown}
use Rattle.conf_map.specs.Stands.{handle_at, SameNames, SameContent, SameAttr, Stands}
use Rattle.conf_map.specs.Moves.{IsAt}
use Rattle.conf_map.proofs.Frames.{entry_at-some}
use Rattle.conf_map.proofs.ArrayFacts.{fits_at, parent_is}
use Rattle.conf_map.proofs.Counted.{names_total}
use Rattle.conf_map.proofs.LiveRows.{at_handle, same_attr, same_content, has_handle}
use Rattle.conf_map.proofs.Sizes.{size_names, names_agree, same_names}
use Rattle.conf_map.proofs.Agrees.{links_agrees, not_root}

-- a node has names where its entry is a directory
is_dir_content : (rows : List ConfEntry) (g : ℕ) (o : Object) (c : Content) → SameContent rows o c →
    elim (names_in c) [ None ↦ false | Some m ↦ true ] ≡ is_dir (record { generation = g; object = o })
is_dir_content rows g Null c k = absurd k
is_dir_content rows g (File a b) c k = ap (λ c. elim (names_in c) as (λ _. Bool) [ None ↦ false | Some m ↦ true ]) k
is_dir_content rows g (Link a b) c k = ap (λ c. elim (names_in c) as (λ _. Bool) [ None ↦ false | Some m ↦ true ]) k
is_dir_content rows g (Dir a names) c k = let m = some_and (names_in c) (SameNames rows names) k in
    ap (λ o. elim o as (λ _. Bool) [ None ↦ false | Some m ↦ true ]) m.1

module _ (limits : Limits) (s : Option Tree) (table : ConfTable) (A : List Entry) (st : Stands s table A)
    (v : Valid limits A) where
  -- a row's handle is that of a directory where its entry is one
  pub dir_agrees : (i : ℕ) (h : List ℕ) → handle_at table.rows.items i ≡ Some h →
      is_dir_at st.tree h ≡ is_dir (entry_at A i)
  dir_agrees i h is =
      let k = at_handle s table A st i h is in
      ap (λ o. elim o as (λ _. Bool) [ None ↦ false | Some m ↦ true ]) (names_at-node st.tree h k.1 k.3.is_node)
      ∙ is_dir_content table.rows.items k.2.generation k.2.object k.1.content
      (same_content s table A st i h k.0 k.1 k.2 k.3)
      ∙ sym (ap is_dir (entry_at-some A i k.2 k.3.is_entry))

  module _ (i : ℕ) (h : List ℕ) (r : ConfEntry) (n : Node) (e : Entry) (at : IsAt st.tree table A i h r n e) where
    -- The server counts as many subdirectories of a directory as the array has.
    pub subdirs_agrees : (m : Names) → names_in n.content ≡ Some m →
        tree.subdirs st.tree m ≡ array.subdirs A (names_of e)
    unfolding tree.subdirs
    subdirs_agrees m is =
        names_total table.rows.items (names_of e) m (λ x. one_if (is_dir_at st.tree x))
        (λ r. cond (is_dir (entry_at A r.index)) 1 0)
        (fits_at limits A v i e at.is_entry).rising (same_names limits s table A st v i h r n e at m is)
        (λ r x leads. ap one_if (dir_agrees r.index x leads))

    -- The row of a directory has the index of its parent.
    pub parent_agrees : is_dir e ≡ true → r.parent ≡ parent A i
    parent_agrees dir = parent_is limits A v r.parent i (ap is_dir (entry_at-some A i e at.is_entry) ∙ dir)
        ((st.each i r e at.is_row at.is_entry).parent dir)

-- THE WORDS OF FATTR

same_words : (a : NodeAttr) (r : ConfEntry) (n : Node) (attr : Attr) → a.mode ≡ n.mode → a.uid ≡ n.uid → a.gid ≡ n.gid →
    SameAttr attr r n → attr_by a r ≡ attr
same_words a r n attr mode uid gid k = λ j. record {
  mode = (mode ∙ k.mode) j;
  uid = (uid ∙ k.uid) j;
  gid = (gid ∙ k.gid) j;
  atime = k.atime j;
  mtime = k.mtime j;
  ctime = k.ctime j;
}

words : (a b : Attr) (ftype bits l l' s s' i : ℕ) → a ≡ b → l ≡ l' → s ≡ s' →
    fattr_by a ftype bits l s i ≡ fattr_by b ftype bits l' s' i
words a b ftype bits l l' s s' i p q e = λ j. fattr_by (p j) ftype bits (q j) (e j) i

by_kind : (a : NodeAttr) (r : ConfEntry) (i : ℕ) (k : Kind) → a.kind ≡ k →
    shown a r i ≡ shown (record a { kind = k }) r i
by_kind a r i k e = ap (λ k. shown (record a { kind = k }) r i) e

kind_names : (c : Content) (m : Names) → names_in c ≡ Some m → kind_of c ≡ Kind.Dir
kind_names (BytesOf b) m is = absurd (some_none is refl)
kind_names (TextOf b) m is = absurd (some_none is refl)
kind_names (NamesOf k) m is = refl

-- the links of what has names are its subdirectories
pub links_names : (t : Tree) (h : List ℕ) (c : Content) (m : Names) → names_in c ≡ Some m →
    links_of t h c ≡ tree.subdirs t m
links_names t h (BytesOf b) m is = absurd (some_none is refl)
links_names t h (TextOf b) m is = absurd (some_none is refl)
links_names t h (NamesOf k) m is = ap (tree.subdirs t) (some_same refl is)

-- the words of an object
abbrev fattr_of : List Entry → ℕ → Object → Fattr
fattr_of A i o = elim o [
  | Null ↦ fattr_by zero_attr 0 0 0 0 i
  | File attr bytes ↦ fattr_by attr 1 0x8000 (array.links A i) (length bytes) i
  | Dir attr names ↦ fattr_by attr 2 0x4000 (2 + array.subdirs A names) (512 + 32 * length names) i
  | Link attr text ↦ fattr_by attr 5 0xa000 (array.links A i) (length text) i
]

module _ (limits : Limits) (s : Option Tree) (table : ConfTable) (A : List Entry) (st : Stands s table A)
    (v : Valid limits A)
    (i : ℕ) (h : List ℕ) (r : ConfEntry) (n : Node) (a : NodeAttr) (is : IsAttr st.tree h a n) where
  by_object : (g : ℕ) (o : Object) → IsAt st.tree table A i h r n (record { generation = g; object = o }) →
      SameAttr (attr_of (record { generation = g; object = o })) r n → SameContent table.rows.items o n.content →
      shown a r i ≡ fattr_of A i o
  by_object g Null at k c = absurd c
  by_object g (File attr bytes) at k c =
      let at_i = has_handle s table A st i h r n (record { generation = g; object = File attr bytes }) at in
      let other = not_root limits s table A st v i h at_i (ap is_dir (entry_at-some A i _ at.is_entry)) in
      by_kind a r i _ (is.kind ∙ ap kind_of c)
      ∙ words _ _ _ _ _ _ _ _ i (same_words a r n attr is.mode is.uid is.gid k)
      (is.links ∙ ap (links_of st.tree h) c ∙ links_agrees limits s table A st v i h at_i other)
      (is.size ∙ ap size_of c)
  by_object g (Link attr text) at k c =
      let at_i = has_handle s table A st i h r n (record { generation = g; object = Link attr text }) at in
      let other = not_root limits s table A st v i h at_i (ap is_dir (entry_at-some A i _ at.is_entry)) in
      by_kind a r i _ (is.kind ∙ ap kind_of c)
      ∙ words _ _ _ _ _ _ _ _ i (same_words a r n attr is.mode is.uid is.gid k)
      (is.links ∙ ap (links_of st.tree h) c ∙ links_agrees limits s table A st v i h at_i other)
      (is.size ∙ ap size_of c)
  by_object g (Dir attr names) at k c =
      let e : Entry = record { generation = g; object = Dir attr names } in
      let m = some_and (names_in n.content) (SameNames table.rows.items names) c in
      by_kind a r i _ (is.kind ∙ kind_names n.content m.0 m.1)
      ∙ words _ _ _ _ _ _ _ _ i (same_words a r n attr is.mode is.uid is.gid k)
      (ap (λ x. 2 + x) (is.links ∙ links_names st.tree h n.content m.0 m.1
      ∙ subdirs_agrees limits s table A st v i h r n e at m.0 m.1))
      (ap (λ x. 512 + 32 * x)
      (is.size ∙ size_names n.content m.0 m.1 ∙ names_agree limits s table A st v i h r n e at m.0 m.1))

  -- What is shown of a live row's node is what the array says.
  pub shown_agrees : (e : Entry) → IsAt st.tree table A i h r n e → shown a r i ≡ fattr A i
  shown_agrees e at =
      by_object e.generation e.object at (same_attr s table A st i h r n e at) (same_content s table A st i h r n e at)
      ∙ ap (λ (e : Entry). fattr_of A i e.object) (sym (entry_at-some A i e at.is_entry))
