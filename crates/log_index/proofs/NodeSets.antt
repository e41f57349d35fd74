-- The memory of a tree in which a node has other attributes, or a file other bytes.
use Rattle.std.proofs.Common.{inl, inr, ◌≡◌, ◌≢◌, ◌∙◌, ◌<◌, ℕ, Bool, true, false, List, length, Option, Some, None, refl, sym, ap, subst, arith}
use Rattle.std.specs.Prelude.{option_and_then}
use Rattle.std.specs.FinMap.{get, insert}
use Rattle.std.specs.Int.{from_be_bytes, w64}
use Rattle.server_trait.specs.Tree.{Tree, Node, Names, BytesOf, node_at, names_at, names_in, target, kind_of, size_of, links_of, links, names_to, subdirs, used, used_by, with_attr, with_bytes, edited}
use Rattle.server_trait.proofs.TreeLaws.{bytes_or_not, get-insert_same, get-insert_other, node_at-edited_same, node_at-edited_other, names_at-node, some_same, used-edited, used-without_node}
use Rattle.server_trait.proofs.CountLaws.{links-edited, subdirs-same}
use Rattle.log_tree.specs.Held.{handle_of}
use Rattle.log_index.specs.declared.info.NodeInfo.{NodeInfo}
use Rattle.log_index.specs.Memory.{Memory, IsInfo, Matches, IsIndexed}
use Rattle.log_index.specs.Changes.{SetsNode, ResizesNode}
use Rattle.log_index.proofs.Ties.{handle_back, at_node, matches_by, matches_kept, links_kept, info_kept, nodes_same}

-- A NODE THAT KEEPS ITS NAMES

module _ (t : Tree) (x y : Memory) (id : List ℕ) (n : Node) (f : Node → Node) (i j : NodeInfo) (h : IsIndexed t x)
    (long : length id ≡ 8) (is : node_at t (handle_of id) ≡ Some n)
    (names : names_in (f n).content ≡ names_in n.content)
    (to : (q : List ℕ) → names_to q (f n).content ≡ names_to q n.content)
    (is_info : get x.nodes id ≡ Some i) (info : IsInfo t (handle_of id) (f n) j) (kind : i.kind ≡ j.kind)
    (parent : i.parent ≡ j.parent) (nodes : y.nodes ≡ insert x.nodes id j) (count : y.count ≡ x.count)
    (next : y.next ≡ x.next) (uses : y.used ≡ used (edited t (handle_of id) f)) where
  abbrev at : List ℕ
  at = handle_of id

  abbrev u : Tree
  u = edited t at f

  here : node_at u at ≡ Some (f n)
  here = node_at-edited_same t at f n is

  other : (q : List ℕ) → q ≢ at → node_at u q ≡ node_at t q
  other q ne = node_at-edited_other t at f q ne

  names_stay : (q : List ℕ) → names_at u q ≡ names_at t q
  names_stay q = elim (bytes_or_not q at) [
    | inl e ↦ subst (λ p. names_at u p ≡ names_at t p) (sym e)
        (names_at-node u at (f n) here ∙ (names ∙ sym (names_at-node t at n is)))
    | inr ne ↦ ap (λ (o : Option Node). option_and_then (λ (k : Node). names_in k.content) o) (other q ne)
  ]

  links_stay : (q : List ℕ) → links u q ≡ links t q
  links_stay q =
      let all = links-edited t at f n q is in
      let same = to q in
      omega (arith, all, same)

  subdirs_stay : (m : Names) → subdirs u m ≡ subdirs t m
  subdirs_stay m = subdirs-same u t m (λ _ q _. ap (λ (o : Option Names). elim o as (λ _. Bool) [
    | None ↦ false
    | Some k ↦ true
  ]) (names_stay q))

  target_stays : (top name : List ℕ) → target u top name ≡ target t top name
  target_stays top name = ap (λ (o : Option Names). option_and_then (λ (m : Names). get m name) o) (names_stay top)

  kept_here : get y.nodes id ≡ Some j
  kept_here = ap (λ m. get m id) nodes ∙ get-insert_same x.nodes id j

  kept_other : (q : List ℕ) → q ≢ id → get y.nodes q ≡ get x.nodes q
  kept_other q ne = ap (λ m. get m q) nodes ∙ get-insert_other x.nodes id j q ne

  pub node_changed : IsIndexed u y
  node_changed = record {
    nodes = λ q eight. elim (bytes_or_not q id) [
      | inl e ↦ subst (λ p. Matches u (handle_of p) (node_at u (handle_of p)) (get y.nodes p)) (sym e)
          (matches_by u at (node_at u at) (Some (f n)) (get y.nodes id) (Some j) here kept_here
          (info_kept t u at (f n) j info (links_kept t u at (f n).content (links_stay at) (λ m _. subdirs_stay m))))
      | inr ne ↦
          let far : handle_of q ≢ at = λ e. ne (handle_back q id eight long e) in
          matches_by u (handle_of q) (node_at u (handle_of q)) (node_at t (handle_of q)) (get y.nodes q) (get x.nodes q)
          (other (handle_of q) far) (kept_other q ne)
          (matches_kept t u (handle_of q) (node_at t (handle_of q)) (get x.nodes q) (h.nodes q eight) (λ k _.
          links_kept t u (handle_of q) k.content (links_stay (handle_of q)) (λ m _. subdirs_stay m)))
    ];
    ids = λ q k there. elim (bytes_or_not q id) [
      | inl e ↦ ap length e ∙ long
      | inr ne ↦ h.ids q k (sym (kept_other q ne) ∙ there)
    ];
    below = λ q k there. elim (bytes_or_not q id) [
      | inl e ↦ subst (λ p. from_be_bytes w64 p < y.next) (sym e)
          (let low = h.below id i is_info in omega (arith, low, next))
      | inr ne ↦ let low = h.below q k (sym (kept_other q ne) ∙ there) in omega (arith, low, next)
    ];
    parents = λ q k top name there is_dir eight leads. elim (bytes_or_not q id) [
      | inl e ↦
          let same : j ≡ k = some_same kept_here (ap (λ p. get y.nodes p) (sym e) ∙ there) in
          ap (λ (a : NodeInfo). a.parent) (sym same) ∙ (sym parent
          ∙ h.parents id i top name is_info (kind ∙ (ap (λ (a : NodeInfo). a.kind) same ∙ is_dir)) eight
          (sym (target_stays (handle_of top) name) ∙ (leads ∙ ap (λ p. Some (handle_of p)) e)))
      | inr ne ↦ h.parents q k top name (sym (kept_other q ne) ∙ there) is_dir eight
          (sym (target_stays (handle_of top) name) ∙ leads)
    ];
    count_is = count ∙ (h.count_is ∙ sym (nodes_same t at f n is));
    used_is = uses;
  }

-- ATTRIBUTES

pub node_set : (t : Tree) (x y : Memory) (id : List ℕ) (n : Node) (mode uid gid : ℕ) → IsIndexed t x → length id ≡ 8
    → node_at t (handle_of id) ≡ Some n → SetsNode x id mode uid gid y
    → IsIndexed (edited t (handle_of id) (with_attr mode uid gid)) y
node_set t x y id n mode uid gid h long is sets =
    let b = at_node t x id n h long is in
    let i = sets.info in
    let s : IsInfo t (handle_of id) n i = subst (λ a. IsInfo t (handle_of id) n a) (some_same b.is_info sets.is_info)
    (subst (λ m. IsInfo t (handle_of id) m b.info) (some_same b.is_node is) b.says) in
    let uses = used-edited t (handle_of id) (with_attr mode uid gid) n is in
    let was = h.used_is in
    node_changed t x y id n (with_attr mode uid gid) i (record i { mode = mode; uid = uid; gid = gid }) h long is refl
    (λ q. refl) sets.is_info
    (record { kind = s.kind; mode = refl; uid = refl; gid = refl; size = s.size; links = s.links }) refl refl sets.nodes
    sets.count sets.next (omega (arith, sets.used, uses, was))

-- BYTES

pub node_resized : (t : Tree) (x y : Memory) (id : List ℕ) (n : Node) (old bytes : List ℕ) (size : ℕ) → IsIndexed t x
    → length id ≡ 8 → node_at t (handle_of id) ≡ Some n → n.content ≡ BytesOf old → length bytes ≡ size
    → ResizesNode x id size y → IsIndexed (edited t (handle_of id) (with_bytes (λ _. bytes))) y
node_resized t x y id n old bytes size h long is has size_is sets =
    let at = handle_of id in
    let f = with_bytes (λ _. bytes) in
    let b = at_node t x id n h long is in
    let i = sets.info in
    let s : IsInfo t at n i = subst (λ a. IsInfo t at n a) (some_same b.is_info sets.is_info)
    (subst (λ m. IsInfo t at m b.info) (some_same b.is_node is) b.says) in
    let now : (f n).content ≡ BytesOf bytes =
    ap (λ c. let k : Node = record n { content = c } in (f k).content) has in
    let uses = used-edited t at f n is in
    let before : used_by n.content ≡ length old = ap used_by has in
    let after : used_by (f n).content ≡ length bytes = ap used_by now in
    let share = used-without_node t at n is in
    let was = h.used_is in
    let kept : i.size ≡ length old = s.size ∙ ap size_of has in
    node_changed t x y id n f i (record i { size = size }) h long is (ap names_in now ∙ sym (ap names_in has))
    (λ q. ap (names_to q) now ∙ sym (ap (names_to q) has)) sets.is_info
    (record {
      kind = s.kind ∙ (ap kind_of has ∙ sym (ap kind_of now));
      mode = s.mode;
      uid = s.uid;
      gid = s.gid;
      size = sym size_is ∙ sym (ap size_of now);
      links = s.links ∙ (ap (links_of t at) has ∙ sym (ap (links_of t at) now));
    }) refl refl sets.nodes sets.count sets.next (omega (arith, sets.used, uses, before, after, share, was, kept))
