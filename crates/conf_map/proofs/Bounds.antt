-- The numbers that a server tells of a live row's node are small, so that the words of fattr fit 32 bits.
use Rattle.std.proofs.Common.{◌≡◌, ℕ, ◌+◌, ◌≤◌, arith, false, List, length, slice_get, Option, Some, IsSomeAnd, refl, ap, ◌∙◌, subst}
use Rattle.std.proofs.lemmas.List.Sums.{count_by-le-length}
use Rattle.std.proofs.lemmas.Option.{slice_get_within}
use Rattle.nfs2_types.specs.declared.Limits.{Limits}
use Rattle.server_trait.specs.Tree.{Tree, Node, node_at, names_in, links_of}
use Rattle.server_trait.specs.Tree as tree
use Rattle.server_trait.specs.Calls.{IsAttr}
use Rattle.server_trait.proofs.TreeLaws.{some_and, some_same}
use Rattle.server_trait.specs.declared.server.NodeAttr.{NodeAttr}
use Rattle.server_trait.specs.declared.bench.ConfEntry.{ConfEntry}
use Rattle.server_trait.specs.declared.bench.ConfTable.{ConfTable}
use Rattle.abs_model.specs.declared.entry.NameRow.{NameRow}
use Rattle.abs_model.specs.declared.entry.Object.{Object}
use Rattle.abs_model.specs.declared.entry.Object.TheVariants.{Null, File, Dir, Link}
use Rattle.abs_model.specs.declared.entry.Entry.{Entry}
use Rattle.abs_model.specs.Objects.{is_dir, names_of, bytes_of, used_by}
use Rattle.abs_model.specs.Array.{entry_at, fattr}
use Rattle.abs_model.specs.Valid.{Valid}
use Rattle.conf_map.specs.Shown.{shown, AreSmall}
use Rattle.conf_map.specs.Stands.{SameNames, SameContent, AreWithin, Stands, StandValid}
use Rattle.conf_map.specs.Moves.{IsAt}
use Rattle.conf_map.proofs.Frames.{entry_at-some}
use Rattle.conf_map.proofs.ArrayFacts.{Fits, fits_at, links_used, entry_used}
use Rattle.conf_map.proofs.LiveRows.{at_row, same_attr, same_content, has_handle}
use Rattle.conf_map.proofs.Sizes.{size_agrees}
use Rattle.conf_map.proofs.Agrees.{links_agrees, not_root}
use Rattle.conf_map.proofs.Fattrs.{links_names, subdirs_agrees, shown_agrees}

-- bytes within their bound, or names within the space
few : (g : ℕ) (o : Object) → Fits (record { generation = g; object = o }) →
    used_by (record { generation = g; object = o }) ≤ 16777216 →
    length (bytes_of (record { generation = g; object = o })) + length
    (names_of (record { generation = g; object = o })) ≤ 1048576
few g Null k room = omega arith
few g (File a b) k room = let most : length b ≤ 1048576 = k.bytes in omega (arith, most)
few g (Link a b) k room = let most : length b ≤ 1024 = k.bytes in omega (arith, most)
few g (Dir a names) k room = omega arith

module _ (limits : Limits) (s : Option Tree) (table : ConfTable) (A : List Entry) (st : Stands s table A)
    (v : Valid limits A) (within : AreWithin limits)
    (i : ℕ) (h : List ℕ) (r : ConfEntry) (n : Node) where
  -- a directory has at most 32,768 names
  pub names_few : (e : Entry) → IsAt st.tree table A i h r n e → length (names_of e) ≤ 32768
  names_few e at =
      let a = entry_used A i e at.is_entry in
      let b = v.room in
      let c = within.3 in
      omega (arith, a, b, c)

  -- and an object at most 32,768 names or subdirectories
  one_links : (e : Entry) → IsAt st.tree table A i h r n e → is_dir e ≡ false → tree.links st.tree h ≤ 32768
  one_links e at other =
      let at_i = has_handle s table A st i h r n e at in
      let same = links_agrees limits s table A st v i h at_i
      (not_root limits s table A st v i h at_i (ap is_dir (entry_at-some A i e at.is_entry) ∙ other)) in
      let a = links_used A i in
      let b = v.room in
      let c = within.3 in
      omega (arith, a, b, c, same)

  few_links : (g : ℕ) (o : Object) → IsAt st.tree table A i h r n (record { generation = g; object = o }) →
      SameContent table.rows.items o n.content → links_of st.tree h n.content ≤ 32768
  few_links g Null at c = absurd c
  few_links g (File attr bytes) at c =
      let most = one_links _ at refl in
      let same : links_of st.tree h n.content ≡ tree.links st.tree h = ap (links_of st.tree h) c in
      omega (arith, most, same)
  few_links g (Link attr text) at c =
      let most = one_links _ at refl in
      let same : links_of st.tree h n.content ≡ tree.links st.tree h = ap (links_of st.tree h) c in
      omega (arith, most, same)
  few_links g (Dir attr names) at c =
      let m = some_and (names_in n.content) (SameNames table.rows.items names) c in
      let e : Entry = record { generation = g; object = Dir attr names } in
      let same = links_names st.tree h n.content m.0 m.1 ∙ subdirs_agrees limits s table A st v i h r n e at m.0 m.1 in
      let part = count_by-le-length (λ (r : NameRow). is_dir (entry_at A r.index)) names in
      let most : length names ≤ 32768 = names_few e at in
      omega (arith, same, part, most)

  -- What a server tells of a live row's node is small.
  pub attr_small : (a : NodeAttr) (e : Entry) → IsAttr st.tree h a n → IsAt st.tree table A i h r n e → AreSmall a i
  attr_small a e is at =
      let size = size_agrees limits s table A st v i h r n e at in
      let u = entry_used A i e at.is_entry in
      let room = v.room in
      let most = within.3 in
      let bytes = few e.generation e.object (fits_at limits A v i e at.is_entry) (omega (arith, u, room, most)) in
      let links = few_links e.generation e.object at (same_content s table A st i h r n e at) in
      let mode = (fits_at limits A v i e at.is_entry).mode in
      let same = is.mode ∙ (same_attr s table A st i h r n e at).mode in
      let below = slice_get_within A i e at.is_entry in
      let n = v.size in
      let entries = within.1 in
      record {
        mode = omega (arith, mode, same);
        size = omega (arith, is.size, size, bytes);
        links = omega (arith, is.links, links);
        index = omega (arith, below, n, entries);
      }

-- What is shown of a live row's node after its server told of it is what the array says, and is small.
pub told_attr : (server : Option Tree) (table : ConfTable) (A : List Entry) → StandValid server table A →
    (i : ℕ) (r : ConfEntry) (h : List ℕ) (a : NodeAttr) →
    slice_get table.rows.items i ≡ Some r → r.handle ≡ Some h →
    ((t : Tree) → server ≡ Some t → IsSomeAnd (node_at t h) (IsAttr t h a)) →
    (shown a r i ≡ fattr A i) × AreSmall a i
told_attr server table A k i r h a is_row is_handle told =
    let at = at_row server table A k.stands i r h is_row is_handle in
    let n = some_and (node_at k.stands.tree h) (IsAttr k.stands.tree h a) (told k.stands.tree k.stands.has_tree) in
    let is = subst (IsAttr k.stands.tree h a) (some_same n.1 at.2.is_node) n.2 in (
      shown_agrees k.limits server table A k.stands k.valid i h r at.0 a is at.1 at.2,
      attr_small k.limits server table A k.stands k.valid k.within i h r at.0 a at.1 is at.2,
    )
