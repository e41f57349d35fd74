-- The memory of a tree in which a directory loses a name.
use Rattle.std.proofs.Common.{inl, inr, ◌≡◌, ◌≢◌, ◌∙◌, ◌+◌, ◌-◌, ℕ, Bool, true, false, List, length, Option, Some, None, refl, sym, ap, subst, bytes_eq, arith}
use Rattle.std.specs.FinMap.{get, insert, remove, len}
use Rattle.nfs2_types.specs.declared.fattr.Kind.{Kind}
use Rattle.nfs2_types.specs.declared.fattr.Kind.TheVariants.{File, Dir, Link}
use Rattle.server_trait.specs.Tree.{Tree, Node, Names, Content, BytesOf, TextOf, NamesOf, ByBytes, node_at, names_in, target, kind_of, size_of, links_of, is_dir_at, one_if, links, subdirs, with_names, unnamed}
use Rattle.server_trait.proofs.TreeLaws.{bytes_or_not, get-insert_same, get-insert_other, get-remove_same, get-remove_other, node_at-edited_same, node_at-edited_other, target_found, target-node, names_at-node, some_same, some_none}
use Rattle.server_trait.proofs.CountLaws.{subdirs-same}
use Rattle.tree_laws.proofs.CountChanges.{len-remove_old, links-unnamed, subdirs-remove, used-unnamed}
use Rattle.log_tree.specs.Held.{handle_of}
use Rattle.log_index.specs.declared.info.NodeInfo.{NodeInfo}
use Rattle.log_index.specs.Memory.{Memory, IsInfo, Matches, IsIndexed}
use Rattle.log_index.specs.Changes.{DropsName, is_dir, led_less, narrower}
use Rattle.log_index.proofs.Ties.{Both, handle_back, same_bytes, other_bytes, at_node, matches_by, matches_kept, links_kept, dir_by_node, dir_by_kind, nodes_same}

led_dir : (i : NodeInfo) → i.kind ≡ Dir → led_less i ≡ i
led_dir i is = elim i.kind as (λ (k : Kind). k ≡ Dir → elim k as (λ _. NodeInfo) [
  | File ↦ record i { links = i.links - 1 }
  | Dir ↦ i
  | Link ↦ record i { links = i.links - 1 }
] ≡ i) [
  | File ↦ (λ e. absurd (let bad : File ≡ Dir = e in cc))
  | Dir ↦ (λ e. refl)
  | Link ↦ (λ e. absurd (let bad : Link ≡ Dir = e in cc))
] is

led_leaf : (i : NodeInfo) → (i.kind ≡ Dir → ⊥) → led_less i ≡ record i { links = i.links - 1 }
led_leaf i other_kind = elim i.kind as (λ (k : Kind). (k ≡ Dir → ⊥) → elim k as (λ _. NodeInfo) [
  | File ↦ record i { links = i.links - 1 }
  | Dir ↦ i
  | Link ↦ record i { links = i.links - 1 }
] ≡ record i { links = i.links - 1 }) [
  | File ↦ (λ e. refl)
  | Dir ↦ (λ e. absurd (e refl))
  | Link ↦ (λ e. refl)
] other_kind

-- kind and parent stay
record SameTop (a b : NodeInfo) : Type 0 where
  kind : a.kind ≡ b.kind
  parent : a.parent ≡ b.parent

led_top : (i : NodeInfo) (k : Kind) → i.kind ≡ k → SameTop (led_less i) i
led_top i File e = let all = led_leaf i (λ d. absurd (let bad : File ≡ Dir = sym e ∙ d in cc)) in
    record { kind = ap (λ (j : NodeInfo). j.kind) all; parent = ap (λ (j : NodeInfo). j.parent) all }
led_top i Dir e = let all = led_dir i e in
    record { kind = ap (λ (j : NodeInfo). j.kind) all; parent = ap (λ (j : NodeInfo). j.parent) all }
led_top i Link e = let all = led_leaf i (λ d. absurd (let bad : Link ≡ Dir = sym e ∙ d in cc)) in
    record { kind = ap (λ (j : NodeInfo). j.kind) all; parent = ap (λ (j : NodeInfo). j.parent) all }

module _ (t : Tree) (x y : Memory) (dir child name : List ℕ) (nd nc : Node) (m : Names) (h : IsIndexed t x)
    (long : length dir ≡ 8) (long_child : length child ≡ 8) (is : node_at t (handle_of dir) ≡ Some nd)
    (has : nd.content ≡ NamesOf m) (leads : get m name ≡ Some (handle_of child))
    (there : node_at t (handle_of child) ≡ Some nc) (drops : DropsName x dir child y) where
  abbrev D : List ℕ
  D = handle_of dir

  abbrev C : List ℕ
  C = handle_of child

  abbrev f : Node → Node
  f = with_names (λ k. remove k name)

  abbrev u : Tree
  u = unnamed t D name

  here : node_at u D ≡ Some (f nd)
  here = node_at-edited_same t D f nd is

  names_here : (f nd).content ≡ NamesOf (remove m name)
  names_here = ap (λ c. let k : Node = record nd { content = c } in (f k).content) has

  other : (q : List ℕ) → q ≢ D → node_at u q ≡ node_at t q
  other q ne = node_at-edited_other t D f q ne

  dirs : (q : List ℕ) → is_dir_at u q ≡ is_dir_at t q
  dirs q = elim (bytes_or_not q D) [
    | inl e ↦ subst (λ p. is_dir_at u p ≡ is_dir_at t p) (sym e)
        (dir_by_content u D (f nd) (remove m name) here names_here ∙ sym (dir_by_content t D nd m is has))
    | inr ne ↦ dir_by_node t u q (other q ne)
  ]
    where
      dir_by_content : (v : Tree) (q : List ℕ) (n : Node) (k : Names) → node_at v q ≡ Some n → n.content ≡ NamesOf k
          → is_dir_at v q ≡ true
      dir_by_content v q n k at body =
          ap (λ (o : Option Names). elim o as (λ _. Bool) [ None ↦ false | Some j ↦ true ])
          (names_at-node v q n at ∙ ap names_in body)

  links_are : (q : List ℕ) → links u q + one_if (bytes_eq C q) ≡ links t q
  links_are q = links-unnamed t D name C nd m q is has leads

  subdirs_stay : (k : Names) → subdirs u k ≡ subdirs t k
  subdirs_stay k = subdirs-same u t k (λ _ to _. dirs to)

  led_says : IsInfo t C nc drops.led
  led_says =
      let b = at_node t x child nc h long_child there in
      subst (λ i. IsInfo t C nc i) (some_same b.is_info drops.is_led)
      (subst (λ n. IsInfo t C n b.info) (some_same b.is_node there) b.says)

  dir_both : Both t x dir
  dir_both = at_node t x dir nd h long is

  dir_says : IsInfo t D nd dir_both.info
  dir_says = subst (λ n. IsInfo t D n dir_both.info) (some_same dir_both.is_node is) dir_both.says

  dir_kind : dir_both.info.kind ≡ Dir
  dir_kind = dir_says.kind ∙ ap kind_of has

  within_is : drops.within ≡ dir_both.info
  within_is = elim (bytes_or_not dir child) [
    | inl e ↦
        let led : drops.led ≡ dir_both.info =
        some_same drops.is_led (ap (λ q. get x.nodes q) (sym e) ∙ dir_both.is_info) in
        some_same drops.is_within (ap (λ q. get (insert x.nodes child (led_less drops.led)) q) e
        ∙ get-insert_same x.nodes child (led_less drops.led)) ∙ (ap led_less led ∙ led_dir dir_both.info dir_kind)
    | inr ne ↦ some_same drops.is_within
        (get-insert_other x.nodes child (led_less drops.led) dir ne ∙ dir_both.is_info)
  ]

  -- WHAT IS KEPT NOW

  abbrev mid : ByBytes NodeInfo
  mid = insert x.nodes child (led_less drops.led)

  kept_dir : get y.nodes dir ≡ Some (narrower drops.led.kind dir_both.info)
  kept_dir = ap (λ k. get k dir) drops.nodes ∙ (get-insert_same mid dir (narrower drops.led.kind drops.within)
      ∙ ap (λ i. Some (narrower drops.led.kind i)) within_is)

  kept_child : child ≢ dir → get y.nodes child ≡ Some (led_less drops.led)
  kept_child ne = ap (λ k. get k child) drops.nodes ∙ (get-insert_other mid dir (narrower drops.led.kind drops.within)
      child ne ∙ get-insert_same x.nodes child (led_less drops.led))

  kept_other : (q : List ℕ) → q ≢ dir → q ≢ child → get y.nodes q ≡ get x.nodes q
  kept_other q nd nc = ap (λ k. get k q) drops.nodes ∙ (get-insert_other mid dir (narrower drops.led.kind drops.within)
      q nd ∙ get-insert_other x.nodes child (led_less drops.led) q nc)

  dir_info : IsInfo u D (f nd) (narrower drops.led.kind dir_both.info)
  dir_info =
      let less = len-remove_old m name C leads in
      let was : dir_both.info.size ≡ len m = dir_says.size ∙ ap size_of has in
      let is_now : size_of (f nd).content ≡ len (remove m name) = ap size_of names_here in
      let count : is_dir_at t C ≡ is_dir drops.led.kind = dir_by_kind t C nc drops.led there led_says in
      let sub : subdirs t m ≡ one_if (is_dir_at t C) + subdirs t (remove m name) = subdirs-remove t m name C leads in
      let old : dir_both.info.links ≡ subdirs t m = dir_says.links ∙ ap (links_of t D) has in
      let links_now : links_of u D (f nd).content ≡ subdirs u (remove m name) = ap (links_of u D) names_here in
      let one = ap one_if count in
      let stay = subdirs_stay (remove m name) in
      record {
        kind = dir_kind ∙ sym (ap kind_of names_here);
        mode = dir_says.mode;
        uid = dir_says.uid;
        gid = dir_says.gid;
        size = omega (arith, was, less, is_now);
        links = omega (arith, old, sub, one, stay, links_now);
      }

  leaf_info : (drops.led.kind ≡ Dir → ⊥) → links_of u C nc.content ≡ links u C → links_of t C nc.content ≡ links t C
      → IsInfo u C nc (led_less drops.led)
  leaf_info other_kind now then =
      let more : one_if (bytes_eq C C) ≡ 1 = ap one_if (same_bytes C C refl) in
      let all = links_are C in
      let s = led_says in
      let was = s.links in
      subst (λ i. IsInfo u C nc i) (sym (led_leaf drops.led other_kind)) (record {
        kind = s.kind;
        mode = s.mode;
        uid = s.uid;
        gid = s.gid;
        size = s.size;
        links = omega (arith, was, then, now, all, more);
      })

  child_info : (c : Content) → nc.content ≡ c → IsInfo u C nc (led_less drops.led)
  child_info (BytesOf b) e = leaf_info (λ d. absurd (let bad : File ≡ Dir = sym (led_says.kind ∙ ap kind_of e) ∙ d in cc))
      (ap (links_of u C) e) (ap (links_of t C) e)
  child_info (TextOf b) e = leaf_info (λ d. absurd (let bad : Link ≡ Dir = sym (led_says.kind ∙ ap kind_of e) ∙ d in cc))
      (ap (links_of u C) e) (ap (links_of t C) e)
  child_info (NamesOf k) e =
      let s = led_says in
      subst (λ i. IsInfo u C nc i) (sym (led_dir drops.led (s.kind ∙ ap kind_of e))) (record {
        kind = s.kind;
        mode = s.mode;
        uid = s.uid;
        gid = s.gid;
        size = s.size;
        links = s.links ∙ (ap (links_of t C) e ∙ (sym (subdirs_stay k) ∙ sym (ap (links_of u C) e)));
      })

  -- a name that leads somewhere led there
  old_target : (top nm q : List ℕ) → target u top nm ≡ Some q → target t top nm ≡ Some q
  old_target top nm q to =
      let g = target_found u top nm q to in
      elim (bytes_or_not top D) [
        | inl e ↦
            let node : g.node ≡ f nd = some_same g.is_node (ap (node_at u) e ∙ here) in
            let names : g.names ≡ remove m name = some_same g.is_dir (ap (λ (k : Node). names_in k.content) node
            ∙ ap names_in names_here) in
            let at : get (remove m name) nm ≡ Some q = ap (λ k. get k nm) (sym names) ∙ g.leads in
            elim (bytes_or_not nm name) [
              | inl same ↦ absurd (some_none at (ap (get (remove m name)) same ∙ get-remove_same m name))
              | inr ne ↦ ap (λ p. target t p nm) e ∙ (target-node t D nd m nm is (ap names_in has)
                  ∙ (sym (get-remove_other m name nm ne) ∙ at))
            ]
        | inr ne ↦ target-node t top g.node g.names nm (sym (other top ne) ∙ g.is_node) g.is_dir ∙ g.leads
      ]

  -- what is kept was kept under the same kind and parent
  record WasKept (q : List ℕ) (j : NodeInfo) : Type 0 where
    old : NodeInfo
    is_old : get x.nodes q ≡ Some old
    top : SameTop j old

  was_kept : (q : List ℕ) (j : NodeInfo) → get y.nodes q ≡ Some j → WasKept q j
  was_kept q j at = elim (bytes_or_not q dir) [
    | inl e ↦
        let all : j ≡ narrower drops.led.kind dir_both.info = some_same at (ap (λ p. get y.nodes p) e ∙ kept_dir) in
        record {
          old = dir_both.info;
          is_old = ap (λ p. get x.nodes p) e ∙ dir_both.is_info;
          top = record { kind = ap (λ (i : NodeInfo). i.kind) all; parent = ap (λ (i : NodeInfo). i.parent) all };
        }
    | inr ne ↦ elim (bytes_or_not q child) [
      | inl e ↦
          let all : j ≡ led_less drops.led =
          some_same at (ap (λ p. get y.nodes p) e ∙ kept_child (λ w. ne (e ∙ w))) in
          let top = led_top drops.led drops.led.kind refl in
          record {
            old = drops.led;
            is_old = ap (λ p. get x.nodes p) e ∙ drops.is_led;
            top = record {
              kind = ap (λ (i : NodeInfo). i.kind) all ∙ top.kind;
              parent = ap (λ (i : NodeInfo). i.parent) all ∙ top.parent;
            };
          }
      | inr nc ↦
          record { old = j; is_old = sym (kept_other q ne nc) ∙ at; top = record { kind = refl; parent = refl } }
    ]
  ]

  pub name_dropped : IsIndexed u y
  name_dropped = record {
    nodes = λ q eight. elim (bytes_or_not q dir) [
      | inl e ↦ subst (λ p. Matches u (handle_of p) (node_at u (handle_of p)) (get y.nodes p)) (sym e)
          (matches_by u D (node_at u D) (Some (f nd)) (get y.nodes dir)
          (Some (narrower drops.led.kind dir_both.info)) here kept_dir dir_info)
      | inr ne ↦
          let far : handle_of q ≢ D = λ e. ne (handle_back q dir eight long e) in
          elim (bytes_or_not q child) [
            | inl e ↦ subst (λ p. Matches u (handle_of p) (node_at u (handle_of p)) (get y.nodes p)) (sym e)
                (matches_by u C (node_at u C) (Some nc) (get y.nodes child) (Some (led_less drops.led))
                (other C (λ w. far (ap handle_of e ∙ w)) ∙ there) (kept_child (λ w. ne (e ∙ w)))
                (child_info nc.content refl))
            | inr nc ↦
                let none : one_if (bytes_eq C (handle_of q)) ≡ 0 =
                ap one_if (other_bytes C (handle_of q) (λ e. nc (sym (handle_back child q long_child eight e)))) in
                let all = links_are (handle_of q) in
                matches_by u (handle_of q) (node_at u (handle_of q)) (node_at t (handle_of q)) (get y.nodes q)
                (get x.nodes q) (other (handle_of q) far) (kept_other q ne nc)
                (matches_kept t u (handle_of q) (node_at t (handle_of q)) (get x.nodes q) (h.nodes q eight) (λ k at.
                links_kept t u (handle_of q) k.content (omega (arith, all, none)) (λ j body. subdirs_stay j)))
          ]
    ];
    ids = λ q j at. let w = was_kept q j at in h.ids q w.old w.is_old;
    below = λ q j at.
        let w = was_kept q j at in
        let low = h.below q w.old w.is_old in
        omega (arith, low, drops.next);
    parents = λ q j top nm at kind eight to.
        let w = was_kept q j at in
        w.top.parent ∙ h.parents q w.old top nm w.is_old (sym w.top.kind ∙ kind) eight
        (old_target (handle_of top) nm (handle_of q) to);
    count_is = drops.count ∙ (h.count_is ∙ sym (nodes_same t D f nd is));
    used_is =
        let less = used-unnamed t D name nd m is has C leads in
        let was = h.used_is in
        omega (arith, drops.used, less, was);
  }
