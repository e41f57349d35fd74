-- The memory of a tree that gets a node to which no name leads.
use Rattle.std.proofs.Common.{inl, inr, ◌≡◌, ◌≢◌, ◌∙◌, ℕ, List, length, Some, None, refl, sym, ap, subst, arith}
use Rattle.std.specs.Cmp.Lexicographic.{slice_cmp}
use Rattle.std.specs.Ordering.{nat_cmp}
use Rattle.std.specs.FinMap.{get, empty, get-empty}
use Rattle.std.specs.Int.{from_be_bytes, w64}
use Rattle.server_trait.specs.Tree.{Tree, Node, Names, Content, BytesOf, TextOf, NamesOf, IsNamed, node_at, names_in, target, kind_of, size_of, links_of, links, names_to, subdirs, used_by, with_node}
use Rattle.server_trait.proofs.SumLaws.{total-none}
use Rattle.server_trait.proofs.TreeLaws.{bytes_or_not, get-insert_same, get-insert_other, target_found, target-node, some_same, some_none, used-with_node, links-none}
use Rattle.server_trait.proofs.CountLaws.{links-with_node, subdirs-same}
use Rattle.std.specs.Cmp.Lexicographic.{nat_list_cmp_total}
use Rattle.tree_laws.proofs.CountChanges.{len-insert_new}
use Rattle.log_tree.specs.Held.{handle_of}
use Rattle.log_index.specs.declared.info.NodeInfo.{NodeInfo}
use Rattle.log_index.specs.Memory.{Memory, IsInfo, Matches, IsIndexed}
use Rattle.log_index.specs.Changes.{AddsNode}
use Rattle.log_index.proofs.Ties.{handle_back, matches_by, matches_kept, links_kept, dir_by_node}

-- a node without names, as it is put, and what is kept of it
pub record IsBare (n : Node) (i : NodeInfo) (bytes : ℕ) : Type 0 where
  pub kind : i.kind ≡ kind_of n.content
  pub mode : i.mode ≡ n.mode
  pub uid : i.uid ≡ n.uid
  pub gid : i.gid ≡ n.gid
  pub size : i.size ≡ size_of n.content
  pub links : i.links ≡ 0
  pub uses : bytes ≡ used_by n.content
  pub none : (m : Names) → n.content ≡ NamesOf m → m ≡ empty

subdirs-empty : (t : Tree) → subdirs t empty ≡ 0
unfolding subdirs
subdirs-empty t = total-none nat_list_cmp_total _ empty (λ k v is. absurd (some_none is (get-empty (slice_cmp nat_cmp) k)))

pub names_to-bare : (c : Content) (q : List ℕ) → ((m : Names) → c ≡ NamesOf m → m ≡ empty) → names_to q c ≡ 0
names_to-bare (BytesOf b) q none = refl
names_to-bare (TextOf b) q none = refl
names_to-bare (NamesOf m) q none = ap (λ k. names_to q (NamesOf k)) (none m refl)
    ∙ total-none nat_list_cmp_total _ empty (λ k v is. absurd (some_none is (get-empty (slice_cmp nat_cmp) k)))

module _ (t : Tree) (x y : Memory) (id : List ℕ) (n : Node) (i : NodeInfo) (bytes : ℕ) (h : IsIndexed t x)
    (eight : length id ≡ 8) (absent : node_at t (handle_of id) ≡ None) (unnamed : ¬ (IsNamed t (handle_of id)))
    (bare : IsBare n i bytes) (adds : AddsNode x id i bytes y) where
  abbrev at : List ℕ
  at = handle_of id

  abbrev u : Tree
  u = with_node t at n

  here : node_at u at ≡ Some n
  here = get-insert_same t.nodes at n

  other : (q : List ℕ) → q ≢ at → node_at u q ≡ node_at t q
  other q ne = get-insert_other t.nodes at n q ne

  kept_here : get y.nodes id ≡ Some i
  kept_here = ap (λ m. get m id) adds.nodes ∙ get-insert_same x.nodes id i

  kept_other : (q : List ℕ) → q ≢ id → get y.nodes q ≡ get x.nodes q
  kept_other q ne = ap (λ m. get m q) adds.nodes ∙ get-insert_other x.nodes id i q ne

  links_stay : (q : List ℕ) → links u q ≡ links t q
  links_stay q =
      let more = links-with_node t at n q absent in
      let none = names_to-bare n.content q bare.none in
      omega (arith, more, none)

  -- a directory that was there has the same subdirectories
  subdirs_stay : (q : List ℕ) (k : Node) (m : Names) → node_at t q ≡ Some k → k.content ≡ NamesOf m
      → subdirs u m ≡ subdirs t m
  subdirs_stay q k m is has = subdirs-same u t m (λ name to leads. dir_by_node t u to (other to (λ e.
      unnamed (q, name, target-node t q k m name is (ap names_in has) ∙ (leads ∙ ap Some e)))))

  links_new : (c : Content) → n.content ≡ c → i.links ≡ links_of u at c
  links_new (BytesOf b) e = bare.links ∙ sym (links_stay at ∙ links-none t at unnamed)
  links_new (TextOf b) e = bare.links ∙ sym (links_stay at ∙ links-none t at unnamed)
  links_new (NamesOf m) e = bare.links ∙ sym (ap (subdirs u) (bare.none m e) ∙ subdirs-empty u)

  info_new : IsInfo u at n i
  info_new = record {
    kind = bare.kind;
    mode = bare.mode;
    uid = bare.uid;
    gid = bare.gid;
    size = bare.size;
    links = links_new n.content refl;
  }

  -- no name of the new node leads anywhere, and no name leads to it
  old_target : (dir name q : List ℕ) → target u dir name ≡ Some q → target t dir name ≡ Some q
  old_target dir name q leads =
      let f = target_found u dir name q leads in
      elim (bytes_or_not dir at) [
        | inl e ↦
            let same : f.node ≡ n = some_same (ap (node_at u) (sym e) ∙ f.is_node) here in
            absurd (no_name f.node.content f.names f.is_dir (λ m is. bare.none m (ap (λ (k : Node). k.content) (sym same) ∙ is))
            name q f.leads)
        | inr ne ↦ target-node t dir f.node f.names name (sym (other dir ne) ∙ f.is_node) f.is_dir ∙ f.leads
      ]
    where
      no_name : (c : Content) (m : Names) → names_in c ≡ Some m → ((k : Names) → c ≡ NamesOf k → k ≡ empty)
          → (name q : List ℕ) → get m name ≡ Some q → ⊥
      no_name (BytesOf b) m is none name q leads = absurd (let bad : None ≡ Some m = is in cc)
      no_name (TextOf b) m is none name q leads = absurd (let bad : None ≡ Some m = is in cc)
      no_name (NamesOf k) m is none name q leads =
          let same : k ≡ m = (let e : Some k ≡ Some m = is in cc) in
          some_none leads (ap (λ j. get j name) (sym same ∙ none k refl) ∙ get-empty (slice_cmp nat_cmp) name)

  pub node_added : IsIndexed u y
  node_added = record {
    nodes = λ q long. elim (bytes_or_not q id) [
      | inl e ↦ subst (λ p. Matches u (handle_of p) (node_at u (handle_of p)) (get y.nodes p)) (sym e)
          (matches_by u at (node_at u at) (Some n) (get y.nodes id) (Some i) here kept_here info_new)
      | inr ne ↦
          let far : handle_of q ≢ at = λ e. ne (handle_back q id long eight e) in
          matches_by u (handle_of q) (node_at u (handle_of q)) (node_at t (handle_of q)) (get y.nodes q) (get x.nodes q)
          (other (handle_of q) far) (kept_other q ne)
          (matches_kept t u (handle_of q) (node_at t (handle_of q)) (get x.nodes q) (h.nodes q long) (λ k is.
          links_kept t u (handle_of q) k.content (links_stay (handle_of q)) (λ m has.
          subdirs_stay (handle_of q) k m is has)))
    ];
    ids = λ q j is. elim (bytes_or_not q id) [
      | inl e ↦ ap length e ∙ eight
      | inr ne ↦ h.ids q j (sym (kept_other q ne) ∙ is)
    ];
    below = λ q j is. elim (bytes_or_not q id) [
      | inl e ↦ let same = ap (from_be_bytes w64) e in omega (arith, adds.next)
      | inr ne ↦ let low = h.below q j (sym (kept_other q ne) ∙ is) in omega (arith, adds.next)
    ];
    parents = λ q j dir name is kind long leads. elim (bytes_or_not q id) [
      | inl e ↦ absurd (unnamed (
        handle_of dir,
        name,
        old_target (handle_of dir) name (handle_of q) leads
            ∙ ap (λ p. Some (handle_of p)) e,
      ))
      | inr ne ↦ h.parents q j dir name (sym (kept_other q ne) ∙ is) kind long
          (old_target (handle_of dir) name (handle_of q) leads)
    ];
    count_is =
        let more = len-insert_new t.nodes at n absent in
        let was = h.count_is in
        omega (arith, adds.count, more, was);
    used_is =
        let more = used-with_node t at n absent in
        let was = h.used_is in
        omega (arith, adds.used, more, was, bare.uses);
  }
