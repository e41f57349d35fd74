-- One record more while nodes are told.
use Rattle.std.proofs.Common.{◌≡◌, ◌∙◌, ◌+◌, ◌*◌, ◌++◌, ℕ, Bool, true, false, cond, List, [], ◌∷◌, length, take, drop, Some, None, refl, sym, ap, subst, bytes_eq, arith}
use Rattle.std.specs.Prelude.{option_map}
use Rattle.std.specs.FinMap.{get, empty, get-empty, len-empty}
use Rattle.std.specs.Ordering.{nat_cmp}
use Rattle.std.specs.Cmp.Lexicographic.{slice_cmp}
use Rattle.std.proofs.lemmas.List.{take_all}
use Rattle.std.proofs.lemmas.Slice.Eq.{bytes_eq-Decides}
use Rattle.nfs2_types.specs.declared.fattr.Kind.{Kind}
use Rattle.nfs2_types.specs.declared.fattr.Kind.TheVariants.{File, Dir, Link}
use Rattle.server_trait.specs.Tree.{Node, Names, BytesOf, TextOf, NamesOf, IsNamed, node_at, names_in, size_of, used_by}
use Rattle.server_trait.proofs.TreeLaws.{same_answers, some_none, target_found}
use Rattle.log_segments.specs.Newest.{find, live, after}
use Rattle.log_segments.specs.Record.{is_gone, key_of}
use Rattle.log_segments.proofs.Finds.{find-after}
use Rattle.log_records.specs.declared.node.NodeRecord.{NodeRecord}
use Rattle.log_records.specs.Layout.{node_key, name_key, chunk_key, value_of, node_in, child_in}
use Rattle.log_tree.specs.Held.{Records, handle_of, bytes_of, names_of, content_of, id_of, node_of, tree_of}
use Rattle.log_tree.proofs.TreeLaws.{bytes_of-same, node_at-id, node_puts}
use Rattle.log_store.proofs.StoreLaws.{name_at}
use Rattle.log_held.proofs.Nodes.{node_found}
use Rattle.log_index.specs.declared.info.NodeInfo.{NodeInfo}
use Rattle.log_index.specs.Memory.{Memory, IsIndexed, none_kept}
use Rattle.log_index.specs.Changes.{AddsNode}
use Rattle.log_index.proofs.NodeAdds.{IsBare, node_added}
use Rattle.log_mount.specs.Told.{is_node_key, is_name_key, among_nodes, among_names, IsTold, HasTold, size_in}
use Rattle.log_mount.proofs.Parts.{content_names, kind_of-content, none_told}
use Rattle.log_mount.proofs.Keys.{IsNodeHere, id_in}
use Rattle.log_mount.proofs.Walks.{told_here, told_other, moved, is_next, told_all}

-- A RECORD THAT IS NONE OF A NODE

-- the same is found once it is told
pub nodes_skip : (all told : Records) (b k : List ℕ) → is_node_key (key_of b) ≡ false
    → among_nodes all told k ≡ among_nodes all (told ++ b ∷ []) k
nodes_skip all told b k other =
    elim (bytes_eq (key_of b) k) as (λ t. bytes_eq (key_of b) k ≡ t
    → among_nodes all told k ≡ among_nodes all (told ++ b ∷ []) k) [
      | true ↦ (λ e.
          let node : is_node_key k ≡ false = ap is_node_key (sym ((bytes_eq-Decides (key_of b) k).0 e)) ∙ other in
          ap (λ d. cond (is_name_key k) None (cond d (find k told) (find k all))) node
          ∙ sym (ap (λ d. cond (is_name_key k) None (cond d (find k (told ++ b ∷ [])) (find k all))) node))
      | false ↦ (λ e. ap (λ o. cond (is_name_key k) None (cond (is_node_key k) o (find k all)))
          (sym (told_other told b k e)))
    ] refl

-- A RECORD OF A NODE

module _ (all told part : Records) (parts : (k : List ℕ) → find k part ≡ among_nodes all told k) where
  no_names : (dir : List ℕ) → length dir ≡ 8 → names_of part dir ≡ empty
  no_names dir eight = same_answers (names_of part dir) empty (λ q. name_at part dir q eight
      ∙ (ap (option_map (λ r. handle_of (child_in (value_of r)))) (parts (name_key dir q))
      ∙ sym (get-empty (slice_cmp nat_cmp) q)))

  not_named : (h : List ℕ) → ¬ (IsNamed (tree_of part) h)
  not_named h is =
      let t = target_found (tree_of part) is.0 is.1 h is.2 in
      let f = node_found part is.0 t.node t.is_node in
      let kind = (node_in (value_of f.block)).kind in
      let names = content_names part (id_of f.block) kind t.names
      (ap (λ (n : Node). names_in n.content) f.is ∙ t.is_dir) in
      let eight : length (id_of f.block) ≡ 8 = ap length f.id_is ∙ f.eight in
      some_none t.leads (ap (λ m. get m is.1) (names.names_are ∙ no_names (id_of f.block) eight)
      ∙ get-empty (slice_cmp nat_cmp) is.1)

  bytes_same : (id : List ℕ) → bytes_of part id ≡ bytes_of all id
  bytes_same id = bytes_of-same all part id (λ p. parts (chunk_key id p))

  -- the size is that of the content
  size_is : (id : List ℕ) (kind : Kind) → length id ≡ 8 → size_in all id kind ≡ size_of (content_of part id kind)
  size_is id File eight = ap length (sym (bytes_same id))
  size_is id Dir eight = sym (ap (λ m. size_of (NamesOf m)) (no_names id eight)
      ∙ len-empty (slice_cmp nat_cmp) (List ℕ))
  size_is id Link eight = ap length (sym (bytes_same id))

  used_is : (id : List ℕ) (kind : Kind) → length id ≡ 8 → size_in all id kind ≡ used_by (content_of part id kind)
  used_is id File eight = ap length (sym (bytes_same id))
  used_is id Dir eight = sym (ap (λ m. used_by (NamesOf m)) (no_names id eight)
      ∙ ap (λ n. 512 * n) (len-empty (slice_cmp nat_cmp) (List ℕ)))
  used_is id Link eight = ap length (sym (bytes_same id))

  bare_names : (id : List ℕ) (kind : Kind) (m : Names) → length id ≡ 8 → content_of part id kind ≡ NamesOf m → m ≡ empty
  bare_names id File m eight e = absurd (let bad : BytesOf (bytes_of part id) ≡ NamesOf m = e in cc)
  bare_names id Dir m eight e =
      let same : NamesOf (names_of part id) ≡ NamesOf m = e in
      let is : names_of part id ≡ m = cc in
      sym is ∙ no_names id eight
  bare_names id Link m eight e = absurd (let bad : TextOf (bytes_of part id) ≡ NamesOf m = e in cc)

  module _ (b id : List ℕ) (x y : Memory) (info : NodeInfo) (size : ℕ) (eight : length id ≡ 8)
      (key : key_of b ≡ node_key id) (stands : is_gone b ≡ false) (fresh : find (key_of b) told ≡ None)
      (indexed : IsIndexed (tree_of part) x)
      (info_is : info ≡ record {
        kind = (node_in (value_of b)).kind;
        mode = (node_in (value_of b)).mode;
        uid = (node_in (value_of b)).uid;
        gid = (node_in (value_of b)).gid;
        size = size;
        links = 0;
        parent = id;
      }) (counted : size ≡ size_in all id (node_in (value_of b)).kind)
      (adds : AddsNode x id info size y) where
    abbrev kind : Kind
    kind = (node_in (value_of b)).kind

    id_is : id_of b ≡ id
    id_is = ap (λ a. take 8 (drop 1 a)) key ∙ take_all 8 id (omega arith)

    absent : node_at (tree_of part) (handle_of id) ≡ None
    absent = node_at-id part id eight ∙ ap (option_map (node_of part)) (parts (node_key id)
        ∙ (ap (λ k. find k told) (sym key) ∙ fresh))

    content_is : (node_of part b).content ≡ content_of part id kind
    content_is = ap (λ i. content_of part i kind) id_is

    bare : IsBare (node_of part b) info size
    bare = record {
      kind = ap (λ (i : NodeInfo). i.kind) info_is ∙ sym (kind_of-content part (id_of b) kind);
      mode = ap (λ (i : NodeInfo). i.mode) info_is;
      uid = ap (λ (i : NodeInfo). i.uid) info_is;
      gid = ap (λ (i : NodeInfo). i.gid) info_is;
      size = ap (λ (i : NodeInfo). i.size) info_is ∙ (counted ∙ (size_is id kind eight ∙ sym (ap size_of content_is)));
      links = ap (λ (i : NodeInfo). i.links) info_is;
      uses = counted ∙ (used_is id kind eight ∙ sym (ap used_by content_is));
      none = λ m e. bare_names id kind m eight (sym content_is ∙ e);
    }

    -- what is found once it is told
    pub nodes_found : (k : List ℕ) → find k (after part b) ≡ among_nodes all (told ++ b ∷ []) k
    nodes_found k = find-after part b k
        ∙ (elim (bytes_eq (key_of b) k) as (λ t. bytes_eq (key_of b) k ≡ t
        → cond t (cond (is_gone b) None (Some b)) (find k part) ≡ among_nodes all (told ++ b ∷ []) k) [
          | true ↦ (λ e.
              let same : key_of b ≡ k = (bytes_eq-Decides (key_of b) k).0 e in
              let head : k ≡ node_key id = sym same ∙ key in
              let name : is_name_key k ≡ false = ap is_name_key head in
              let node : is_node_key k ≡ true = ap is_node_key head in
              ap (λ g. cond g None (Some b)) stands
              ∙ sym (ap (λ c. cond c None (cond (is_node_key k) (find k (told ++ b ∷ [])) (find k all))) name
              ∙ (ap (λ c. cond c (find k (told ++ b ∷ [])) (find k all)) node
              ∙ (ap (λ q. find q (told ++ b ∷ [])) (sym same) ∙ told_here told b fresh))))
          | false ↦ (λ e. parts k ∙ ap (λ o. cond (is_name_key k) None (cond (is_node_key k) o (find k all)))
              (sym (told_other told b k e)))
        ] refl)

    pub node_told : IsTold (among_nodes all (told ++ b ∷ [])) y
    node_told = record {
      part = after part b;
      parts = nodes_found;
      indexed = subst (λ t. IsIndexed t y) (sym (node_puts part b id (record { size = eight; key = key }) stands))
          (node_added (tree_of part) x y id (node_of part b) info size indexed eight absent (not_named (handle_of id))
          bare adds);
    }

-- ONE TURN

pub turn_skip : (records : Records) (n : ℕ) (b : List ℕ) (x : Memory) → live (drop n records)
    ≡ b ∷ live (drop (n + 1) records) → is_node_key (key_of b) ≡ false → HasTold among_nodes records n x
    → HasTold among_nodes records (n + 1) x
turn_skip records n b x next other h = record {
  told = h.told ++ b ∷ [];
  rest = moved h.told (live (drop n records)) (live records) (live (drop (n + 1) records)) b h.rest next;
  is = record {
    part = h.is.part;
    parts = λ k. h.is.parts k ∙ nodes_skip (live records) h.told b k other;
    indexed = h.is.indexed;
  };
}

pub turn_node : (records : Records) (n : ℕ) (b id : List ℕ) (x y : Memory) (info : NodeInfo) (size : ℕ)
    → live (drop n records) ≡ b ∷ live (drop (n + 1) records) → length id ≡ 8 → key_of b ≡ node_key id
    → is_gone b ≡ false
    → info ≡ record {
      kind = (node_in (value_of b)).kind;
      mode = (node_in (value_of b)).mode;
      uid = (node_in (value_of b)).uid;
      gid = (node_in (value_of b)).gid;
      size = size;
      links = 0;
      parent = id;
    } → size ≡ size_in (live records) id (node_in (value_of b)).kind → AddsNode x id info size y
    → HasTold among_nodes records n x → HasTold among_nodes records (n + 1) y
turn_node records n b id x y info size next eight key stands info_is counted adds h =
    let it = is_next records h.told n b h.rest next in
    record {
      told = h.told ++ b ∷ [];
      rest = moved h.told (live (drop n records)) (live records) (live (drop (n + 1) records)) b h.rest next;
      is = node_told (live records) h.told h.is.part h.is.parts b id x y info size eight key stands it.fresh h.is.indexed
          info_is counted adds;
    }

-- what is read of the record is told
pub turn_read : (records : Records) (n : ℕ) (b id : List ℕ) (x y : Memory) (node : NodeRecord) (size : ℕ) → IsNodeHere b
    → live (drop n records) ≡ b ∷ live (drop (n + 1) records) → id ≡ id_in b → node ≡ node_in (value_of b)
    → is_gone b ≡ false → size ≡ size_in (live records) id node.kind
    → AddsNode x id (record {
      kind = node.kind;
      mode = node.mode;
      uid = node.uid;
      gid = node.gid;
      size = size;
      links = 0;
      parent = id;
    }) size y → HasTold among_nodes records n x → HasTold among_nodes records (n + 1) y
turn_read records n b id x y node size here next id_is node_is stands counted adds h =
    turn_node records n b id x y (record {
      kind = node.kind;
      mode = node.mode;
      uid = node.uid;
      gid = node.gid;
      size = size;
      links = 0;
      parent = id;
    }) size next (ap length id_is ∙ here.eight) (here.key ∙ sym (ap node_key id_is)) stands
    (ap (λ (m : NodeRecord). let i : NodeInfo = record {
      kind = m.kind;
      mode = m.mode;
      uid = m.uid;
      gid = m.gid;
      size = size;
      links = 0;
      parent = id;
    } in i) node_is) (counted ∙ ap (λ (m : NodeRecord). size_in (live records) id m.kind) node_is) adds h

-- BEGIN AND END

pub nodes_begin : (records : Records) → HasTold among_nodes records 0 none_kept
nodes_begin records = record { told = []; rest = refl; is = none_told (live records) }

either_way : {A : Type 0} (b : Bool) (o : A) → cond b o o ≡ o
either_way true o = refl
either_way false o = refl

-- all nodes are told, and no name
pub nodes_end : (records : Records) (n : ℕ) (x : Memory) → n ≡ length records → HasTold among_nodes records n x
    → HasTold among_names records 0 x
nodes_end records n x whole h =
    let all = live records in
    let is = told_all among_nodes records n x whole h in
    record {
      told = [];
      rest = refl;
      is = record {
        part = h.is.part;
        parts = λ k. h.is.parts k ∙ (ap (λ ts. among_nodes all ts k) is
            ∙ ap (cond (is_name_key k) None) (either_way (is_node_key k) (find k all)));
        indexed = h.is.indexed;
      };
    }

-- all is told
pub names_end : (records : Records) (n : ℕ) (x : Memory) → n ≡ length records → HasTold among_names records n x
    → IsTold (λ k. find k (live records)) x
names_end records n x whole h =
    let all = live records in
    let is = told_all among_names records n x whole h in
    record {
      part = h.is.part;
      parts = λ k. h.is.parts k ∙ (ap (λ ts. among_names all ts k) is ∙ either_way (is_name_key k) (find k all));
      indexed = h.is.indexed;
    }
