-- The memory of a tree in which a directory gets a name.
use Rattle.std.proofs.Common.{inl, inr, ◌≡◌, ◌≢◌, ◌∙◌, ◌⊎◌, ◌+◌, ◌<◌, ℕ, Bool, true, false, List, length, Option, Some, None, refl, sym, ap, subst, bytes_eq, arith}
use Rattle.std.specs.FinMap.{get, insert, len}
use Rattle.std.specs.Int.{from_be_bytes, w64}
use Rattle.nfs2_types.specs.declared.fattr.Kind.{Kind}
use Rattle.nfs2_types.specs.declared.fattr.Kind.TheVariants.{File, Dir, Link}
use Rattle.server_trait.specs.Tree.{Tree, Node, Names, Content, BytesOf, TextOf, NamesOf, ByBytes, IsNamed, node_at, names_in, target, kind_of, size_of, links_of, is_dir_at, one_if, links, subdirs, with_names, named}
use Rattle.server_trait.proofs.TreeLaws.{bytes_or_not, get-insert_same, get-insert_other, node_at-edited_same, node_at-edited_other, target_found, target-node, names_at-node, some_same}
use Rattle.server_trait.proofs.CountLaws.{links-named, subdirs-same, subdirs-insert_new}
use Rattle.tree_laws.proofs.CountChanges.{len-insert_new, used-named}
use Rattle.log_tree.specs.Held.{handle_of}
use Rattle.log_index.specs.declared.info.NodeInfo.{NodeInfo}
use Rattle.log_index.specs.Memory.{Memory, IsInfo, Matches, IsIndexed}
use Rattle.log_index.specs.Changes.{AddsName, is_dir, led_more, wider}
use Rattle.log_index.proofs.Ties.{Both, handle_back, same_bytes, other_bytes, at_node, matches_by, matches_kept, links_kept, dir_by_node, dir_by_kind, nodes_same}

led_dir : (dir : List ℕ) (i : NodeInfo) → i.kind ≡ Dir → led_more dir i ≡ record i { parent = dir }
led_dir dir i is = elim i.kind as (λ (k : Kind). k ≡ Dir → elim k as (λ _. NodeInfo) [
  | File ↦ record i { links = i.links + 1 }
  | Dir ↦ record i { parent = dir }
  | Link ↦ record i { links = i.links + 1 }
] ≡ record i { parent = dir }) [
  | File ↦ (λ e. absurd (let bad : File ≡ Dir = e in cc))
  | Dir ↦ (λ e. refl)
  | Link ↦ (λ e. absurd (let bad : Link ≡ Dir = e in cc))
] is

led_leaf : (dir : List ℕ) (i : NodeInfo) → (i.kind ≡ Dir → ⊥) → led_more dir i ≡ record i { links = i.links + 1 }
led_leaf dir i other_kind = elim i.kind as (λ (k : Kind). (k ≡ Dir → ⊥) → elim k as (λ _. NodeInfo) [
  | File ↦ record i { links = i.links + 1 }
  | Dir ↦ record i { parent = dir }
  | Link ↦ record i { links = i.links + 1 }
] ≡ record i { links = i.links + 1 }) [
  | File ↦ (λ e. refl)
  | Dir ↦ (λ e. absurd (e refl))
  | Link ↦ (λ e. refl)
] other_kind

-- what is kept of a node, but for its parent
record SameBut (a b : NodeInfo) : Type 0 where
  kind : a.kind ≡ b.kind
  mode : a.mode ≡ b.mode
  uid : a.uid ≡ b.uid
  gid : a.gid ≡ b.gid
  size : a.size ≡ b.size
  links : a.links ≡ b.links

module _ (t : Tree) (x y : Memory) (dir child name : List ℕ) (nd nc : Node) (m : Names) (h : IsIndexed t x)
    (long : length dir ≡ 8) (long_child : length child ≡ 8) (is : node_at t (handle_of dir) ≡ Some nd)
    (has : nd.content ≡ NamesOf m) (new : get m name ≡ None) (there : node_at t (handle_of child) ≡ Some nc)
    (single : kind_of nc.content ≡ Dir → ¬ (IsNamed t (handle_of child))) (adds : AddsName x dir child y) where
  abbrev D : List ℕ
  D = handle_of dir

  abbrev C : List ℕ
  C = handle_of child

  abbrev f : Node → Node
  f = with_names (λ k. insert k name C)

  abbrev u : Tree
  u = named t D name C

  here : node_at u D ≡ Some (f nd)
  here = node_at-edited_same t D f nd is

  names_here : (f nd).content ≡ NamesOf (insert m name C)
  names_here = ap (λ c. let k : Node = record nd { content = c } in (f k).content) has

  other : (q : List ℕ) → q ≢ D → node_at u q ≡ node_at t q
  other q ne = node_at-edited_other t D f q ne

  dirs : (q : List ℕ) → is_dir_at u q ≡ is_dir_at t q
  dirs q = elim (bytes_or_not q D) [
    | inl e ↦ subst (λ p. is_dir_at u p ≡ is_dir_at t p) (sym e)
        (dir_by_content u D (f nd) (insert m name C) here names_here ∙ sym (dir_by_content t D nd m is has))
    | inr ne ↦ dir_by_node t u q (other q ne)
  ]
    where
      dir_by_content : (v : Tree) (q : List ℕ) (n : Node) (k : Names) → node_at v q ≡ Some n → n.content ≡ NamesOf k
          → is_dir_at v q ≡ true
      dir_by_content v q n k at body =
          ap (λ (o : Option Names). elim o as (λ _. Bool) [ None ↦ false | Some j ↦ true ])
          (names_at-node v q n at ∙ ap names_in body)

  links_are : (q : List ℕ) → links u q ≡ links t q + one_if (bytes_eq C q)
  links_are q = links-named t D name C nd m q is has new

  subdirs_stay : (k : Names) → subdirs u k ≡ subdirs t k
  subdirs_stay k = subdirs-same u t k (λ _ to _. dirs to)

  -- what was kept of the child, and of the directory
  led_says : IsInfo t C nc adds.led
  led_says =
      let b = at_node t x child nc h long_child there in
      subst (λ i. IsInfo t C nc i) (some_same b.is_info adds.is_led)
      (subst (λ n. IsInfo t C n b.info) (some_same b.is_node there) b.says)

  dir_both : Both t x dir
  dir_both = at_node t x dir nd h long is

  dir_says : IsInfo t D nd dir_both.info
  dir_says = subst (λ n. IsInfo t D n dir_both.info) (some_same dir_both.is_node is) dir_both.says

  dir_kind : dir_both.info.kind ≡ Dir
  dir_kind = dir_says.kind ∙ ap kind_of has

  within_is : SameBut adds.within dir_both.info
  within_is = elim (bytes_or_not dir child) [
    | inl e ↦
        let led : adds.led ≡ dir_both.info =
        some_same adds.is_led (ap (λ q. get x.nodes q) (sym e) ∙ dir_both.is_info) in
        let at : adds.within ≡ led_more dir adds.led =
        some_same adds.is_within (ap (λ q. get (insert x.nodes child (led_more dir adds.led)) q) e
        ∙ get-insert_same x.nodes child (led_more dir adds.led)) in
        let all : adds.within ≡ record dir_both.info { parent = dir } =
        at ∙ (ap (led_more dir) led ∙ led_dir dir dir_both.info dir_kind) in
        record {
          kind = ap (λ (i : NodeInfo). i.kind) all;
          mode = ap (λ (i : NodeInfo). i.mode) all;
          uid = ap (λ (i : NodeInfo). i.uid) all;
          gid = ap (λ (i : NodeInfo). i.gid) all;
          size = ap (λ (i : NodeInfo). i.size) all;
          links = ap (λ (i : NodeInfo). i.links) all;
        }
    | inr ne ↦
        let all : adds.within ≡ dir_both.info = some_same adds.is_within
        (get-insert_other x.nodes child (led_more dir adds.led) dir ne ∙ dir_both.is_info) in
        record {
          kind = ap (λ (i : NodeInfo). i.kind) all;
          mode = ap (λ (i : NodeInfo). i.mode) all;
          uid = ap (λ (i : NodeInfo). i.uid) all;
          gid = ap (λ (i : NodeInfo). i.gid) all;
          size = ap (λ (i : NodeInfo). i.size) all;
          links = ap (λ (i : NodeInfo). i.links) all;
        }
  ]

  -- WHAT IS KEPT NOW

  abbrev mid : ByBytes NodeInfo
  mid = insert x.nodes child (led_more dir adds.led)

  kept_dir : get y.nodes dir ≡ Some (wider adds.led.kind adds.within)
  kept_dir = ap (λ k. get k dir) adds.nodes ∙ get-insert_same mid dir (wider adds.led.kind adds.within)

  kept_child : child ≢ dir → get y.nodes child ≡ Some (led_more dir adds.led)
  kept_child ne = ap (λ k. get k child) adds.nodes ∙ (get-insert_other mid dir (wider adds.led.kind adds.within) child ne
      ∙ get-insert_same x.nodes child (led_more dir adds.led))

  kept_other : (q : List ℕ) → q ≢ dir → q ≢ child → get y.nodes q ≡ get x.nodes q
  kept_other q nd nc = ap (λ k. get k q) adds.nodes ∙ (get-insert_other mid dir (wider adds.led.kind adds.within) q nd
      ∙ get-insert_other x.nodes child (led_more dir adds.led) q nc)

  dir_info : IsInfo u D (f nd) (wider adds.led.kind adds.within)
  dir_info =
      let more = len-insert_new m name C new in
      let was : dir_both.info.size ≡ len m = dir_says.size ∙ ap size_of has in
      let is_now : size_of (f nd).content ≡ len (insert m name C) = ap size_of names_here in
      let size = within_is.size in
      let count : is_dir_at u C ≡ is_dir adds.led.kind = dirs C ∙ dir_by_kind t C nc adds.led there led_says in
      let sub : subdirs u (insert m name C) ≡ one_if (is_dir_at u C) + subdirs u m = subdirs-insert_new u m name C new in
      let old : dir_both.info.links ≡ subdirs t m = dir_says.links ∙ ap (links_of t D) has in
      let links_now : links_of u D (f nd).content ≡ subdirs u (insert m name C) = ap (links_of u D) names_here in
      let one = ap one_if count in
      let stay = subdirs_stay m in
      let links = within_is.links in
      record {
        kind = within_is.kind ∙ (dir_kind ∙ sym (ap kind_of names_here));
        mode = within_is.mode ∙ dir_says.mode;
        uid = within_is.uid ∙ dir_says.uid;
        gid = within_is.gid ∙ dir_says.gid;
        size = omega (arith, size, was, more, is_now);
        links = omega (arith, links, old, sub, one, stay, links_now);
      }

  leaf_info : (nc.content ≡ nc.content) → (adds.led.kind ≡ Dir → ⊥) → links_of u C nc.content ≡ links u C
      → links_of t C nc.content ≡ links t C → IsInfo u C nc (led_more dir adds.led)
  leaf_info _ other_kind now then =
      let more : one_if (bytes_eq C C) ≡ 1 = ap one_if (same_bytes C C refl) in
      let all = links_are C in
      let s = led_says in
      let was = s.links in
      subst (λ i. IsInfo u C nc i) (sym (led_leaf dir adds.led other_kind)) (record {
        kind = s.kind;
        mode = s.mode;
        uid = s.uid;
        gid = s.gid;
        size = s.size;
        links = omega (arith, was, then, now, all, more);
      })

  child_info : (c : Content) → nc.content ≡ c → IsInfo u C nc (led_more dir adds.led)
  child_info (BytesOf b) e = leaf_info refl (λ d. absurd (let bad : File ≡ Dir = sym (led_says.kind ∙ ap kind_of e) ∙ d in
      cc)) (ap (links_of u C) e) (ap (links_of t C) e)
  child_info (TextOf b) e = leaf_info refl (λ d. absurd (let bad : Link ≡ Dir = sym (led_says.kind ∙ ap kind_of e) ∙ d in
      cc)) (ap (links_of u C) e) (ap (links_of t C) e)
  child_info (NamesOf k) e =
      let s = led_says in
      subst (λ i. IsInfo u C nc i) (sym (led_dir dir adds.led (s.kind ∙ ap kind_of e))) (record {
        kind = s.kind;
        mode = s.mode;
        uid = s.uid;
        gid = s.gid;
        size = s.size;
        links = s.links ∙ (ap (links_of t C) e ∙ (sym (subdirs_stay k) ∙ sym (ap (links_of u C) e)));
      })

  -- PARENTS

  -- a name leads where it led, or it is the new one
  new_or_old : (top nm q : List ℕ) → target u top nm ≡ Some q → (target t top nm ≡ Some q) ⊎ ((top ≡ D) × (C ≡ q))
  new_or_old top nm q leads =
      let g = target_found u top nm q leads in
      elim (bytes_or_not top D) [
        | inl e ↦
            let node : g.node ≡ f nd = some_same g.is_node (ap (node_at u) e ∙ here) in
            let names : g.names ≡ insert m name C = some_same g.is_dir (ap (λ (k : Node). names_in k.content) node
            ∙ ap names_in names_here) in
            elim (bytes_or_not nm name) [
              | inl same ↦ inr (
                e,
                some_same (get-insert_same m name C)
                    (ap (λ p. get (insert m name C) p) (sym same) ∙ (ap (λ k. get k nm) (sym names) ∙ g.leads)),
              )
              | inr ne ↦ inl (ap (λ p. target t p nm) e ∙ (target-node t D nd m nm is (ap names_in has)
                  ∙ (sym (get-insert_other m name C nm ne) ∙ (ap (λ k. get k nm) (sym names) ∙ g.leads))))
            ]
        | inr ne ↦ inl (target-node t top g.node g.names nm (sym (other top ne) ∙ g.is_node) g.is_dir ∙ g.leads)
      ]

  -- the directory of the name is the child's parent
  child_parent : (i : NodeInfo) → get y.nodes child ≡ Some i → i.kind ≡ Dir → i.parent ≡ dir
  child_parent i at kind = elim (bytes_or_not child dir) [
    | inl e ↦
        let inside : adds.within ≡ led_more dir adds.led =
        some_same adds.is_within (ap (λ q. get mid q) (sym e) ∙ get-insert_same x.nodes child (led_more dir adds.led)) in
        let all : i ≡ wider adds.led.kind adds.within = some_same at (ap (λ q. get y.nodes q) e ∙ kept_dir) in
        let led_kind : adds.led.kind ≡ Dir =
        led_says.kind ∙ (ap (λ (n : Node). kind_of n.content) (some_same there (ap (λ q. node_at t (handle_of q)) e ∙ is))
        ∙ ap kind_of has) in
        ap (λ (j : NodeInfo). j.parent) (all ∙ (ap (wider adds.led.kind) inside
        ∙ ap (wider adds.led.kind) (led_dir dir adds.led led_kind)))
    | inr ne ↦
        let all : i ≡ led_more dir adds.led = some_same at (kept_child ne) in
        ap (λ (j : NodeInfo). j.parent) (all ∙ led_dir dir adds.led (led_kind_of adds.led
        (ap (λ (j : NodeInfo). j.kind) (sym all) ∙ kind)))
  ]
    where
      led_kind_of : (j : NodeInfo) → (led_more dir j).kind ≡ Dir → j.kind ≡ Dir
      led_kind_of j e = elim j.kind as (λ (k : Kind). (let r : NodeInfo = elim k as (λ _. NodeInfo) [
        | File ↦ record j { kind = k; links = j.links + 1 }
        | Dir ↦ record j { kind = k; parent = dir }
        | Link ↦ record j { kind = k; links = j.links + 1 }
      ] in r.kind) ≡ Dir → k ≡ Dir) [ File ↦ (λ w. w) | Dir ↦ (λ w. w) | Link ↦ (λ w. w) ] e

  pub name_added : IsIndexed u y
  name_added = record {
    nodes = λ q eight. elim (bytes_or_not q dir) [
      | inl e ↦ subst (λ p. Matches u (handle_of p) (node_at u (handle_of p)) (get y.nodes p)) (sym e)
          (matches_by u D (node_at u D) (Some (f nd)) (get y.nodes dir) (Some (wider adds.led.kind adds.within)) here
          kept_dir dir_info)
      | inr ne ↦
          let far : handle_of q ≢ D = λ e. ne (handle_back q dir eight long e) in
          elim (bytes_or_not q child) [
            | inl e ↦ subst (λ p. Matches u (handle_of p) (node_at u (handle_of p)) (get y.nodes p)) (sym e)
                (matches_by u C (node_at u C) (Some nc) (get y.nodes child) (Some (led_more dir adds.led))
                (other C (λ w. far (ap handle_of e ∙ w)) ∙ there) (kept_child (λ w. ne (e ∙ w)))
                (child_info nc.content refl))
            | inr nc ↦
                let none : one_if (bytes_eq C (handle_of q)) ≡ 0 =
                ap one_if (other_bytes C (handle_of q) (λ e. nc (sym (handle_back child q long_child eight e)))) in
                let all = links_are (handle_of q) in
                matches_by u (handle_of q) (node_at u (handle_of q)) (node_at t (handle_of q)) (get y.nodes q)
                (get x.nodes q) (other (handle_of q) far) (kept_other q ne nc)
                (matches_kept t u (handle_of q) (node_at t (handle_of q)) (get x.nodes q) (h.nodes q eight) (λ k at.
                links_kept t u (handle_of q) k.content (omega (arith, all, none)) (λ j body. subdirs_stay j)))
          ]
    ];
    ids = λ q j at. elim (bytes_or_not q dir) [
      | inl e ↦ ap length e ∙ long
      | inr ne ↦ elim (bytes_or_not q child) [
        | inl e ↦ ap length e ∙ long_child
        | inr nc ↦ h.ids q j (sym (kept_other q ne nc) ∙ at)
      ]
    ];
    below = λ q j at. elim (bytes_or_not q dir) [
      | inl e ↦ subst (λ p. from_be_bytes w64 p < y.next) (sym e)
          (let low = h.below dir dir_both.info dir_both.is_info in omega (arith, low, adds.next))
      | inr ne ↦ elim (bytes_or_not q child) [
        | inl e ↦ subst (λ p. from_be_bytes w64 p < y.next) (sym e)
            (let low = h.below child adds.led adds.is_led in omega (arith, low, adds.next))
        | inr nc ↦ let low = h.below q j (sym (kept_other q ne nc) ∙ at) in omega (arith, low, adds.next)
      ]
    ];
    parents = λ q j top nm at kind eight leads. elim (new_or_old (handle_of top) nm (handle_of q) leads) [
      | inr fresh ↦
          let same : child ≡ q = handle_back child q long_child (ids_of q j at) fresh.1 in
          let tops : top ≡ dir = handle_back top dir eight long fresh.0 in
          child_parent j (ap (λ p. get y.nodes p) same ∙ at) kind ∙ sym tops
      | inl old ↦ elim (bytes_or_not q child) [
        | inl e ↦ absurd (single (child_kind q j at kind e) (handle_of top, nm, old ∙ ap (λ p. Some (handle_of p)) e))
        | inr nc ↦ elim (bytes_or_not q dir) [
          | inl e ↦
              let inside : adds.within ≡ dir_both.info = some_same adds.is_within
              (get-insert_other x.nodes child (led_more dir adds.led) dir (λ w. nc (e ∙ w)) ∙ dir_both.is_info) in
              let all : j ≡ wider adds.led.kind adds.within = some_same at (ap (λ p. get y.nodes p) e ∙ kept_dir) in
              ap (λ (i : NodeInfo). i.parent) (all ∙ ap (wider adds.led.kind) inside)
              ∙ h.parents dir dir_both.info top nm dir_both.is_info dir_kind eight
              (old ∙ ap (λ p. Some (handle_of p)) e)
          | inr ne ↦ h.parents q j top nm (sym (kept_other q ne nc) ∙ at) kind eight old
        ]
      ]
    ];
    count_is = adds.count ∙ (h.count_is ∙ sym (nodes_same t D f nd is));
    used_is =
        let more = used-named t D name nd m is has C new in
        let was = h.used_is in
        omega (arith, adds.used, more, was);
  }
    where
      ids_of : (q : List ℕ) (j : NodeInfo) → get y.nodes q ≡ Some j → length q ≡ 8
      ids_of q j at = elim (bytes_or_not q dir) [
        | inl e ↦ ap length e ∙ long
        | inr ne ↦ elim (bytes_or_not q child) [
          | inl e ↦ ap length e ∙ long_child
          | inr nc ↦ h.ids q j (sym (kept_other q ne nc) ∙ at)
        ]
      ]

      -- a child that is kept as a directory is one
      child_kind : (q : List ℕ) (j : NodeInfo) → get y.nodes q ≡ Some j → j.kind ≡ Dir → q ≡ child
          → kind_of nc.content ≡ Dir
      child_kind q j at kind e = elim (bytes_or_not child dir) [
        | inl same ↦ ap (λ (n : Node). kind_of n.content) (some_same there (ap (λ p. node_at t (handle_of p)) same ∙ is))
            ∙ ap kind_of has
        | inr ne ↦
            let all : j ≡ led_more dir adds.led = some_same at (ap (λ p. get y.nodes p) e ∙ kept_child ne) in
            sym led_says.kind ∙ (sym (kind_led adds.led) ∙ (ap (λ (i : NodeInfo). i.kind) (sym all) ∙ kind))
      ]
        where
          kind_led : (i : NodeInfo) → (led_more dir i).kind ≡ i.kind
          kind_led i = elim i.kind as (λ (k : Kind). (let r : NodeInfo = elim k as (λ _. NodeInfo) [
            | File ↦ record i { kind = k; links = i.links + 1 }
            | Dir ↦ record i { kind = k; parent = dir }
            | Link ↦ record i { kind = k; links = i.links + 1 }
          ] in r.kind) ≡ k) [ File ↦ refl | Dir ↦ refl | Link ↦ refl ]
