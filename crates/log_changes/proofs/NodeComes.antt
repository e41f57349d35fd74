-- A node that comes, without names and with no name that leads to it.
use Rattle.std.proofs.Common.{inl, inr, ◌≡◌, ◌≢◌, ◌∙◌, ◌+◌, ◌*◌, ◌<◌, ◌≤◌, ℕ, List, length, Option, Some, None, IsSome, refl, sym, ap, subst, arith}
use Rattle.std.specs.Prelude.{option_map}
use Rattle.std.specs.Ordering.{nat_cmp}
use Rattle.std.specs.Cmp.Lexicographic.{slice_cmp}
use Rattle.std.specs.FinMap.{get, empty, get-empty, len, len-empty}
use Rattle.std.specs.Int.{from_be_bytes, w64}
use Rattle.nfs2_types.specs.declared.fattr.Kind.{Kind}
use Rattle.nfs2_types.specs.declared.fattr.Kind.TheVariants.{File, Dir, Link}
use Rattle.server_trait.specs.Tree.{Tree, Node, Names, Content, BytesOf, TextOf, NamesOf, node_at, names_in, kind_of, size_of, links, new_node, used, used_by, with_node}
use Rattle.server_trait.specs.declared.server.ServerLimits.{ServerLimits}
use Rattle.server_trait.proofs.TreeLaws.{bytes_or_not, get-insert_same, get-insert_other, some_none, some_same, used-with_node, links-none}
use Rattle.server_trait.proofs.CountLaws.{links-with_node}
use Rattle.tree_laws.proofs.CountChanges.{len-insert_new}
use Rattle.log_segments.specs.Newest.{find}
use Rattle.log_records.specs.declared.node.NodeRecord.{NodeRecord}
use Rattle.log_records.specs.Layout.{node_key, name_key, chunk_key, value_of, node_in}
use Rattle.log_tree.specs.Held.{Records, handle_of, root_id, bytes_of, names_of, content_of, tree_of}
use Rattle.log_tree.proofs.TreeLaws.{bytes_of-same}
use Rattle.log_store.specs.Store.{KeepsOthers, KeepsTree, Puts, PutsNode, node_with}
use Rattle.log_files.specs.Chunked.{IsChunked, KeepsButChunks}
use Rattle.log_held.specs.Sound.{kind_at, IsLeaf, ArePlaced, IsSound}
use Rattle.log_index.specs.declared.info.NodeInfo.{NodeInfo}
use Rattle.log_index.specs.Memory.{Memory, IsIndexed}
use Rattle.log_index.specs.Changes.{AddsNode}
use Rattle.log_index.proofs.NodeAdds.{node_added, names_to-bare}
use Rattle.log_changes.specs.Kept.{IsSoundBut}
use Rattle.log_changes.specs.Made.{made_content, HasText}
use Rattle.log_changes.proofs.PlainLaws.{chunked_same}
use Rattle.log_changes.proofs.ButLaws.{but_one, named_there, no_record, no_kind, empty_names, no_names}
use Rattle.log_changes.proofs.ChunkChanges.{chunk_stays, chunks_stay, form_stays, kind_stays, name_stays}

-- what is kept of a node as it is made
abbrev pub made_info : Kind → ℕ → List ℕ → NodeInfo
made_info kind size parent =
    record { kind = kind; mode = 0; uid = 0; gid = 0; size = size; links = 0; parent = parent }

abbrev made_record : Kind → NodeRecord
made_record kind = record { kind = kind; mode = 0; uid = 0; gid = 0 }

pub made_uses : (k : Kind) (text : List ℕ) → HasText k text → length text ≡ used_by (made_content k text)
made_uses File text e = ap length e
made_uses Dir text e = ap length e ∙ sym (ap (λ n. 512 * n) (len-empty (slice_cmp nat_cmp) (List ℕ)))
made_uses Link text e = refl

module _ (limits : ServerLimits) (live mid new : Records) (id text parent : List ℕ) (kind : Kind) (sound : IsSound limits live)
    (eight : length id ≡ 8) (absent : node_at (tree_of live) (handle_of id) ≡ None) (plain : HasText kind text)
    (others : KeepsButChunks live id mid) (alone : KeepsTree live id mid) (chunked : IsChunked mid id (length text))
    (bytes : bytes_of mid id ≡ text) (puts : PutsNode mid id (made_record kind) new)
    (here : Puts node_in mid (node_key id) (made_record kind) new) (rest : KeepsOthers mid (node_key id) new)
    (nodes : len (tree_of live).nodes + 1 ≤ limits.nodes)
    (fits : used (tree_of live) + length text ≤ limits.bytes) where
  abbrev at : List ℕ
  at = handle_of id

  abbrev t : Tree
  t = tree_of live

  abbrev N : Node
  N = new_node (from_be_bytes w64 id) (made_content kind text)

  abbrev u : Tree
  u = with_node t at N

  placed : ArePlaced live
  placed = sound.placed

  no_node : find (node_key id) live ≡ None
  no_node = no_record live id eight absent

  none_kind : kind_at live id ≡ None
  none_kind = no_kind live id no_node

  no_name : (name : List ℕ) → find (name_key id name) live ≡ None
  no_name = no_names live id placed eight (λ e. absurd (let bad : None ≡ Some Dir = sym none_kind ∙ e in cc))

  names_are : names_of mid id ≡ empty
  names_are = empty_names mid id eight (λ name.
      name_stays live mid id (length text) placed eight others chunked id name ∙ no_name name)

  content_is : (k : Kind) → HasText k text → content_of mid id k ≡ made_content k text
  content_is File e = ap BytesOf (bytes ∙ e)
  content_is Dir e = ap NamesOf names_are
  content_is Link e = ap TextOf bytes

  pub tree_comes : tree_of new ≡ u
  tree_comes =
      puts ∙ (ap (λ v. with_node v at (node_with (from_be_bytes w64 id) (made_record kind) (content_of mid id kind)))
      (alone no_node) ∙ ap (λ c. with_node t at (new_node (from_be_bytes w64 id) c)) (content_is kind plain))

  -- RECORDS

  kind_read : (o : Option (List ℕ)) → option_map (λ r. node_in (value_of r)) o ≡ Some (made_record kind)
      → option_map (λ r. (node_in (value_of r)).kind) o ≡ Some kind
  kind_read None e = absurd (let bad : None ≡ Some (made_record kind) = e in cc)
  kind_read (Some r) e = let same : node_in (value_of r) ≡ made_record kind = cc in ap (λ (m : NodeRecord). Some m.kind) same

  kind_here : kind_at new id ≡ Some kind
  kind_here = kind_read (find (node_key id) new) here.here

  kind_other : (q : List ℕ) → q ≢ id → kind_at new q ≡ kind_at live q
  kind_other q ne = ap (option_map (λ r. (node_in (value_of r)).kind)) (rest (node_key q)
      (λ e. ne (let same : q ≡ id = cc in same)))
      ∙ kind_stays live mid id (length text) placed eight others chunked q

  kind_was : (q : List ℕ) (k : Kind) → kind_at live q ≡ Some k → kind_at new q ≡ Some k
  kind_was q k is = kind_other q (λ e. absurd (let bad : None ≡ Some k =
      sym none_kind ∙ (ap (kind_at live) (sym e) ∙ is) in cc)) ∙ is

  chunk_mid : (q : List ℕ) (p : ℕ) → find (chunk_key q p) new ≡ find (chunk_key q p) mid
  chunk_mid q p = rest (chunk_key q p) (λ e. cc)

  name_was : (dir name : List ℕ) → find (name_key dir name) new ≡ find (name_key dir name) live
  name_was dir name = rest (name_key dir name) (λ e. cc)
      ∙ name_stays live mid id (length text) placed eight others chunked dir name

  leaf_made : (k : Kind) (p : ℕ) (r : List ℕ) → HasText k text → find (chunk_key id p) mid ≡ Some r → p < 17477
      → IsLeaf (Some k)
  leaf_made File p r e is low = tt
  leaf_made Dir p r e is low = let none = ap length e in
      some_none is (chunked.absent p (omega arith) (omega arith))
  leaf_made Link p r e is low = tt

  comes_placed : ArePlaced new
  comes_placed = record {
    form = λ k r is. elim (bytes_or_not k (node_key id)) [
      | inl e ↦ inl (id, e, eight)
      | inr ne ↦ form_stays live mid id (length text) placed eight others chunked k r (sym (rest k ne) ∙ is)
    ];
    of_dir = λ dir name r long is. kind_was dir Dir (placed.of_dir dir name r long (sym (name_was dir name) ∙ is));
    of_leaf = λ q p r long low is. elim (bytes_or_not q id) [
      | inl e ↦ subst (λ i. IsLeaf (kind_at new i)) (sym e) (subst IsLeaf (sym kind_here)
          (leaf_made kind p r plain (sym (chunk_mid id p) ∙ (ap (λ i. find (chunk_key i p) new) (sym e) ∙ is)) low))
      | inr ne ↦ subst IsLeaf (sym (kind_other q ne)) (placed.of_leaf q p r long low
          (sym (chunk_mid q p ∙ chunk_stays live mid id (length text) placed eight others chunked q long ne p) ∙ is))
    ];
    chunks = λ q long. subst (IsChunked new q) (ap length (sym (bytes_of-same mid new q (chunk_mid q))))
        (chunked_same mid new q (length (bytes_of mid q)) (chunk_mid q)
        (chunks_stay live mid id (length text) placed eight others chunked q long));
  }

  -- THE TREE

  bare : (m : Names) → N.content ≡ NamesOf m → m ≡ empty
  bare m e = made_bare kind e
    where
      made_bare : (k : Kind) → made_content k text ≡ NamesOf m → m ≡ empty
      made_bare File e = absurd cc
      made_bare Dir e = cc
      made_bare Link e = absurd cc

  other : (q : List ℕ) → q ≢ at → node_at u q ≡ node_at t q
  other q ne = get-insert_other t.nodes at N q ne

  still_there : (q : List ℕ) → IsSome (node_at t q) → IsSome (node_at u q)
  still_there q some = elim (bytes_or_not q at) [
    | inl e ↦ subst (λ o. IsSome o) (sym (ap (node_at u) e ∙ get-insert_same t.nodes at N)) refl
    | inr ne ↦ subst (λ o. IsSome o) (sym (other q ne)) some
  ]

  leads_on : (q : List ℕ) (n : Node) (m : Names) (name x : List ℕ) → node_at u q ≡ Some n → names_in n.content ≡ Some m
      → get m name ≡ Some x → IsSome (node_at u x)
  leads_on q n m name x is has to = elim (bytes_or_not q at) [
    | inl e ↦
        let node : n ≡ N = some_same is (ap (node_at u) e ∙ get-insert_same t.nodes at N) in
        let none = bare m (names_back N.content m (ap (λ (c : Node). names_in c.content) (sym node) ∙ has)) in
        absurd (some_none to (ap (λ k. get k name) none ∙ get-empty (slice_cmp nat_cmp) name))
    | inr ne ↦ still_there x (sound.tied.leads q n m name x (sym (other q ne) ∙ is) has to)
  ]
    where
      names_back : (c : Content) (m : Names) → names_in c ≡ Some m → c ≡ NamesOf m
      names_back (BytesOf b) m e = absurd cc
      names_back (TextOf b) m e = absurd cc
      names_back (NamesOf k) m e = ap NamesOf (let same : k ≡ m = cc in same)

  uses : length text ≡ used_by N.content
  uses = made_uses kind text plain

  pub comes_sound : IsSoundBut at limits new
  comes_sound = record {
    placed = comes_placed;
    root = kind_was root_id Dir sound.tied.root;
    one = λ q n m ne is has.
        let more = links-with_node t at N q absent in
        let none = names_to-bare N.content q bare in
        let old = sound.tied.one q n m (sym (other q ne) ∙ (ap (λ v. node_at v q) (sym tree_comes) ∙ is)) has in
        ap (λ v. links v q) tree_comes ∙ omega arith;
    leads = λ q n m name x is has to. subst (λ v. IsSome (node_at v x)) (sym tree_comes)
        (leads_on q n m name x (ap (λ v. node_at v q) (sym tree_comes) ∙ is) has to);
    few_nodes =
        let one = len-insert_new t.nodes at N absent in
        let same : len (tree_of new).nodes ≡ len u.nodes = ap (λ (v : Tree). len v.nodes) tree_comes in
        omega arith;
    few_bytes =
        let all = used-with_node t at N absent in
        let own = uses in
        let same = ap used tree_comes in
        omega arith;
  }

  -- to a node that comes no name leads
  pub unlinked_made : links (tree_of new) at ≡ 0
  unlinked_made =
      let more = links-with_node t at N at absent in
      let none = names_to-bare N.content at bare in
      let old = links-none t at (named_there at limits live at (but_one at limits live sound) absent) in
      ap (λ v. links v at) tree_comes ∙ omega arith

  pub comes_indexed : (x y : Memory) → IsIndexed t x → AddsNode x id (made_info kind (length text) parent) (length text) y
      → IsIndexed (tree_of new) y
  comes_indexed x y h adds = subst (λ v. IsIndexed v y) (sym tree_comes)
      (node_added t x y id N (made_info kind (length text) parent) (length text) h eight absent
      (named_there at limits live at (but_one at limits live sound) absent) (record {
        kind = made_kind kind;
        mode = refl;
        uid = refl;
        gid = refl;
        size = made_size kind plain;
        links = refl;
        uses = uses;
        none = bare;
      }) adds)
    where
      made_kind : (k : Kind) → k ≡ kind_of (made_content k text)
      made_kind File = refl
      made_kind Dir = refl
      made_kind Link = refl

      made_size : (k : Kind) → HasText k text → length text ≡ size_of (made_content k text)
      made_size File e = ap length e
      made_size Dir e = ap length e ∙ sym (len-empty (slice_cmp nat_cmp) (List ℕ))
      made_size Link e = refl
