-- What a server tells of a live row's node is what the entry says.
use Rattle.std.proofs.Common.{◌≡◌, ℕ, true, false, List, length, Option, Some, IsSomeAnd, refl, sym, ap, ◌∙◌, subst}
use Rattle.server_trait.specs.Tree.{Tree, Node, Names, Content, BytesOf, TextOf, NamesOf, node_at, names_in, kind_of, size_of}
use Rattle.server_trait.specs.Calls.{IsAttr}
use Rattle.server_trait.proofs.TreeLaws.{some_and, some_none, some_same}
use Rattle.server_trait.specs.declared.server.NodeAttr.{NodeAttr}
use Rattle.server_trait.specs.declared.bench.ConfEntry.{ConfEntry}
use Rattle.server_trait.specs.declared.bench.ConfTable.{ConfTable}
use Rattle.abs_model.specs.declared.entry.Object.{Object}
use Rattle.abs_model.specs.declared.entry.Object.TheVariants.{Null, File, Dir, Link}
use Rattle.abs_model.specs.declared.entry.Entry.{Entry}
use Rattle.abs_model.specs.Objects.{is_file, is_dir, is_link, attr_of, bytes_of}
use Rattle.abs_model.specs.Array.{entry_at}
use Rattle.conf_map.specs.Stands.{handle_at, SameNames, SameContent, SameAttr, StandValid}
use Rattle.conf_map.specs.Found.{is_file_kind, is_dir_kind, is_link_kind, IsSeen}
use Rattle.conf_map.proofs.Frames.{entry_at-some}
use Rattle.conf_map.proofs.LiveRows.{at_handle, same_attr, same_content}

-- a node's content is of its object's kind, and has as many bytes
record IsKind (e : Entry) (c : Content) : Type 0 where
  file : is_file_kind (kind_of c) ≡ is_file e
  dir : is_dir_kind (kind_of c) ≡ is_dir e
  link : is_link_kind (kind_of c) ≡ is_link e
  size : is_dir e ≡ false → size_of c ≡ length (bytes_of e)

kind_names : (c : Content) (m : Names) → names_in c ≡ Some m → (n : Names) × (c ≡ NamesOf n)
kind_names (BytesOf b) m is = absurd (some_none is refl)
kind_names (TextOf b) m is = absurd (some_none is refl)
kind_names (NamesOf k) m is = (k, refl)

kind_content : (rows : List ConfEntry) (g : ℕ) (o : Object) (c : Content) → SameContent rows o c →
    IsKind (record { generation = g; object = o }) c
kind_content rows g Null c k = absurd k
kind_content rows g (File a b) c k = subst (IsKind (record { generation = g; object = File a b })) (sym k)
    (record { file = refl; dir = refl; link = refl; size = λ _. refl })
kind_content rows g (Link a b) c k = subst (IsKind (record { generation = g; object = Link a b })) (sym k)
    (record { file = refl; dir = refl; link = refl; size = λ _. refl })
kind_content rows g (Dir a names) c k =
    let m = some_and (names_in c) (SameNames rows names) k in
    let n = kind_names c m.0 m.1 in
    subst (IsKind (record { generation = g; object = Dir a names })) (sym n.1)
    (record { file = refl; dir = refl; link = refl; size = λ e. absurd (let bad : true ≡ false = e in cc) })

-- what is told of a node whose row and content are an entry's
seen : (t : Tree) (h : List ℕ) (a : NodeAttr) (n : Node) (r : ConfEntry) (e : Entry) → IsAttr t h a n →
    SameAttr (attr_of e) r n → IsKind e n.content → IsSeen e a
seen t h a n r e told attr kind = record {
  file = ap is_file_kind told.kind ∙ kind.file;
  dir = ap is_dir_kind told.kind ∙ kind.dir;
  link = ap is_link_kind told.kind ∙ kind.link;
  mode = told.mode ∙ attr.mode;
  uid = told.uid ∙ attr.uid;
  gid = told.gid ∙ attr.gid;
  size = λ other. told.size ∙ kind.size other;
}

-- what is told of a live row's node
pub object_seen : (s : Option Tree) (table : ConfTable) (A : List Entry) → StandValid s table A →
    (i : ℕ) (h : List ℕ) (a : NodeAttr) → handle_at table.rows.items i ≡ Some h →
    ((t : Tree) → s ≡ Some t → IsSomeAnd (node_at t h) (IsAttr t h a)) → IsSeen (entry_at A i) a
object_seen s table A k i h a is told =
    let e = at_handle s table A k.stands i h is in
    let n = some_and (node_at k.stands.tree h) (IsAttr k.stands.tree h a) (told k.stands.tree k.stands.has_tree) in
    subst (λ e. IsSeen e a) (sym (entry_at-some A i e.2 e.3.is_entry))
    (seen k.stands.tree h a e.1 e.0 e.2 (subst (IsAttr k.stands.tree h a) (some_same n.1 e.3.is_node) n.2)
    (same_attr s table A k.stands i h e.0 e.1 e.2 e.3)
    (kind_content table.rows.items e.2.generation e.2.object e.1.content
    (same_content s table A k.stands i h e.0 e.1 e.2 e.3)))
