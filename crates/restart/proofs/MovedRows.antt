-- After a reboot each live row's node is there under a new handle, and its number leads to the row.
use Rattle.std.proofs.Common.{◌≡◌, ℕ, List, Option, Some, IsSomeAnd, IsSome, is_some, slice_get, refl, sym, ap, ◌∙◌, subst}
use Rattle.std.specs.BTreeMap.{BTreeMap, get}
use Rattle.std.specs.Ordering.{nat_cmp}
use Rattle.server_trait.specs.Tree.{Tree, Node, Content, BytesOf, TextOf, NamesOf, node_at, kind_of}
use Rattle.server_trait.specs.Calls.{IsAttr, IsMovedNode, IsMovedContent}
use Rattle.server_trait.proofs.SoftLaws.{some_of}
use Rattle.server_trait.proofs.TreeLaws.{some_and, is_some_and, some_same}
use Rattle.server_trait.specs.declared.server.NodeAttr.{NodeAttr}
use Rattle.server_trait.specs.declared.bench.ConfEntry.{ConfEntry}
use Rattle.server_trait.specs.declared.bench.ConfTable.{ConfTable}
use Rattle.abs_model.specs.declared.entry.Object.{Object}
use Rattle.abs_model.specs.declared.entry.Object.TheVariants.{Null, File, Dir, Link}
use Rattle.abs_model.specs.declared.entry.Entry.{Entry}
use Rattle.abs_model.specs.Objects.{is_dir}
use Rattle.abs_model.specs.Array.{entry_at}
use Rattle.conf_map.specs.Stands.{handle_at, SameContent}
use Rattle.conf_map.specs.Found.{is_dir_kind}
use Rattle.conf_map.proofs.Frames.{handle_of_row, entry_at-some}
use Rattle.conf_map.proofs.Kept.{one_row}
use Rattle.conf_map.proofs.LiveRows.{at_handle, same_attr, same_content}
use Rattle.restart.specs.Numbers.{IsNumbered}
use Rattle.restart.specs.Walk.{Restarts}
use Rattle.restart.proofs.NumberRows.{row_of_number, has_number}

-- the kind of a node is that of its entry
kind_is : (rows : List ConfEntry) (g : ℕ) (o : Object) (c c' : Content) (new : List ℕ → List ℕ) → SameContent rows o c → IsMovedContent new c c' → is_dir_kind (kind_of c') ≡ is_dir (record { generation = g; object = o })
kind_is rows g Null c c' new s m = absurd s
kind_is rows g (File a b) c c' new s m = ap (λ c. is_dir_kind (kind_of c)) (subst (λ c. IsMovedContent new c c') s m)
kind_is rows g (Link a b) c c' new s m = ap (λ c. is_dir_kind (kind_of c)) (subst (λ c. IsMovedContent new c c') s m)
kind_is rows g (Dir a names) (NamesOf n) (NamesOf n') new s m = refl
kind_is rows g (Dir a names) (NamesOf n) (BytesOf b) new s m = absurd m
kind_is rows g (Dir a names) (NamesOf n) (TextOf b) new s m = absurd m
kind_is rows g (Dir a names) (BytesOf b) c' new s m = absurd s
kind_is rows g (Dir a names) (TextOf b) c' new s m = absurd s

module _ (s : Option Tree) (table : ConfTable) (A : List Entry) (k : Restarts s table A) where
  abbrev R : List ConfEntry
  R = table.rows.items

  -- a live row, its node of before, and its node of now
  pub record Moved (i : ℕ) (h : List ℕ) : Type 0 where
    pub row : ConfEntry
    pub node : Node
    pub node' : Node
    pub is_row : slice_get R i ≡ Some row
    pub is_handle : row.handle ≡ Some h
    pub is_node : node_at k.stands.tree h ≡ Some node
    pub now : node_at k.now (k.new h) ≡ Some node'
    pub number : row.number ≡ node'.number
    pub kind : is_dir_kind (kind_of node'.content) ≡ is_dir (entry_at A i)

  pub moved_row : (i : ℕ) (h : List ℕ) → handle_at R i ≡ Some h → Moved i h
  moved_row i h at =
      let r = at_handle k.before table A k.stands i h at in
      let x = some_and (node_at k.now (k.new h)) (IsMovedNode k.new r.1) (k.moved.there h r.1 r.3.is_node) in
      let a = same_attr k.before table A k.stands i h r.0 r.1 r.2 r.3 in
      let c = same_content k.before table A k.stands i h r.0 r.1 r.2 r.3 in
      record {
        row = r.0;
        node = r.1;
        node' = x.0;
        is_row = r.3.is_row;
        is_handle = r.3.is_handle;
        is_node = r.3.is_node;
        now = x.1;
        number = a.number ∙ sym x.2.number;
        kind = kind_is R r.2.generation r.2.object r.1.content x.0.content k.new c x.2.content ∙ ap is_dir (sym (entry_at-some A i r.2 r.3.is_entry));
      }

  -- rows of one number are one
  pub same_row : (i j : ℕ) (h q : List ℕ) (a : Moved i h) (b : Moved j q) → a.row.number ≡ b.row.number → i ≡ j
  same_row i j h q a b same =
      let x = some_and (node_at k.now (k.new h)) (IsMovedNode k.new a.node) (k.moved.there h a.node a.is_node) in
      let y = some_and (node_at k.now (k.new q)) (IsMovedNode k.new b.node) (k.moved.there q b.node b.is_node) in
      let n : a.node.number ≡ b.node.number = sym x.2.number ∙ ap (λ (n : Node). n.number) (some_same x.1 a.now) ∙ sym a.number ∙ same ∙ b.number ∙ ap (λ (n : Node). n.number) (some_same b.now y.1) ∙ y.2.number in
      let handles : h ≡ q = k.stands.placed.numbers h q a.node b.node a.is_node b.is_node n in
      one_row k.stands.tree table k.stands.placed h i j (handle_of_row R i a.row a.is_row ∙ a.is_handle) (handle_of_row R j b.row b.is_row ∙ b.is_handle ∙ ap Some (sym handles))

  -- and a row with the number of a live row's node is that row
  row_is : (i j : ℕ) (h q : List ℕ) (a : Moved i h) (b : Moved j q) (r : ConfEntry) → slice_get R j ≡ Some r → a.row.number ≡ r.number → i ≡ j
  row_is i j h q a b r at same = same_row i j h q a b (same ∙ ap (λ (r : ConfEntry). r.number) (some_same at b.is_row))

  -- the map leads from the number of a row's node to the row
  number_leads : (m : BTreeMap ℕ ℕ) (i : ℕ) (h : List ℕ) (number : ℕ) → IsNumbered R m → (a : Moved i h) → number ≡ a.row.number → get nat_cmp m number ≡ Some i
  number_leads m i h number n a is =
      let j = some_of (get nat_cmp m number) (n.complete number i (has_number R i number a.row a.is_row (ap is_some a.is_handle) (sym is))) in
      let r = row_of_number R j.0 number (n.sound number j.0 j.1) in
      let q = some_of r.0.handle r.2.0 in
      let same = row_is i j.0 h q.0 a (moved_row j.0 q.0 (handle_of_row R j.0 r.0 r.1 ∙ q.1)) r.0 r.1 (sym is ∙ sym r.2.1) in
      j.1 ∙ ap Some (sym same)

  -- what the server tells of a node gives the row, and whether it is a directory
  pub told_row : (m : BTreeMap ℕ ℕ) (i : ℕ) (h : List ℕ) (a : NodeAttr) → IsNumbered R m → handle_at R i ≡ Some h → IsSomeAnd (node_at k.now (k.new h)) (IsAttr k.now (k.new h) a) → (get nat_cmp m a.number ≡ Some i) × (is_dir_kind a.kind ≡ is_dir (entry_at A i))
  told_row m i h a numbered at told =
      let row = moved_row i h at in
      let n = some_and (node_at k.now (k.new h)) (IsAttr k.now (k.new h) a) told in
      let same : n.0 ≡ row.node' = some_same n.1 row.now in
      (number_leads m i h a.number numbered row (n.2.number ∙ ap (λ (n : Node). n.number) same ∙ sym row.number), ap is_dir_kind (n.2.kind ∙ ap (λ (n : Node). kind_of n.content) same) ∙ row.kind)

-- what a node's handle asks for is there
pub has_node : (s : Option Tree) (table : ConfTable) (A : List Entry) (k : Restarts s table A) (i : ℕ) (h q : List ℕ) → handle_at table.rows.items i ≡ Some h → q ≡ k.new h → IsSomeAnd s (λ t. IsSome (node_at t q))
has_node s table A k i h q at is =
    let m = moved_row s table A k i h at in
    is_some_and (λ t. IsSome (node_at t q)) k.has_tree (ap is_some (ap (node_at k.now) is ∙ m.now))
