-- What the memory of a tree says of one node, and what it takes for it to say the same of another tree.
use Rattle.std.proofs.Common.{inl, inr, ◌≡◌, ◌≢◌, ◌∙◌, ◌⊎◌, ◌+◌, ℕ, true, false, cond, List, length, take, Option, Some, None, refl, sym, ap, subst, bytes_eq}
use Rattle.std.specs.Prelude.{is_some, option_and_then, replicate}
use Rattle.std.specs.FinMap.{get, len, len-insert}
use Rattle.std.specs.Cmp.Lexicographic.{nat_list_cmp_total}
use Rattle.std.proofs.lemmas.List.{take_at}
use Rattle.std.proofs.lemmas.Slice.Eq.{bytes_eq-Decides}
use Rattle.nfs2_types.specs.declared.fattr.Kind.TheVariants.{File, Dir, Link}
use Rattle.server_trait.specs.Tree.{Tree, Node, Names, Content, BytesOf, TextOf, NamesOf, node_at, names_in, is_dir_at, kind_of, links_of, links, subdirs, edited}
use Rattle.server_trait.proofs.TreeLaws.{edited-some, some_none, names_at-node}
use Rattle.log_tree.specs.Held.{handle_of}
use Rattle.log_index.specs.declared.info.NodeInfo.{NodeInfo}
use Rattle.log_index.specs.Memory.{Memory, IsInfo, Matches, IsIndexed}
use Rattle.log_index.specs.Changes.{is_dir}

-- handles of two ids are two
pub handle_back : (a b : List ℕ) → length a ≡ 8 → length b ≡ 8 → handle_of a ≡ handle_of b → a ≡ b
handle_back a b ea eb e =
    sym (take_at a (replicate 24 0) 8 ea) ∙ (ap (take 8) e ∙ take_at b (replicate 24 0) 8 eb)

pub same_bytes : (a b : List ℕ) → a ≡ b → bytes_eq a b ≡ true
same_bytes a b e = (bytes_eq-Decides a b).1 e

pub other_bytes : (a b : List ℕ) → a ≢ b → bytes_eq a b ≡ false
other_bytes a b ne = elim (bytes_eq a b) as (λ x. bytes_eq a b ≡ x → x ≡ false)
    [ true ↦ (λ t. absurd (ne ((bytes_eq-Decides a b).0 t))) | false ↦ (λ _. refl) ] refl

-- WHAT IS KEPT AND WHAT IS THERE

-- a node and what is kept of it
pub record Both (t : Tree) (x : Memory) (id : List ℕ) : Type 0 where
  pub node : Node
  pub info : NodeInfo
  pub is_node : node_at t (handle_of id) ≡ Some node
  pub is_info : get x.nodes id ≡ Some info
  pub says : IsInfo t (handle_of id) node info

both_of : (t : Tree) (x : Memory) (id : List ℕ) (o : Option Node) (p : Option NodeInfo) → node_at t (handle_of id) ≡ o
    → get x.nodes id ≡ p → Matches t (handle_of id) o p → ((o ≡ None) × (p ≡ None)) ⊎ Both t x id
both_of t x id None None eo ep h = inl (refl, refl)
both_of t x id None (Some i) eo ep h = absurd h
both_of t x id (Some n) None eo ep h = absurd h
both_of t x id (Some n) (Some i) eo ep h =
    inr (record { node = n; info = i; is_node = eo; is_info = ep; says = h })

pub cases : (t : Tree) (x : Memory) (id : List ℕ) → IsIndexed t x → length id ≡ 8
    → ((node_at t (handle_of id) ≡ None) × (get x.nodes id ≡ None)) ⊎ Both t x id
cases t x id h eight = both_of t x id (node_at t (handle_of id)) (get x.nodes id) refl refl (h.nodes id eight)

pub at_node : (t : Tree) (x : Memory) (id : List ℕ) (n : Node) → IsIndexed t x → length id ≡ 8
    → node_at t (handle_of id) ≡ Some n → Both t x id
at_node t x id n h eight is = elim (cases t x id h eight) [
  | inl none ↦ absurd (some_none is none.0)
  | inr both ↦ both
]

pub at_info : (t : Tree) (x : Memory) (id : List ℕ) (i : NodeInfo) → IsIndexed t x → get x.nodes id ≡ Some i
    → Both t x id
at_info t x id i h is = elim (cases t x id h (h.ids id i is)) [
  | inl none ↦ absurd (some_none is none.1)
  | inr both ↦ both
]

-- it matches what is there by equations
pub matches_by : (t : Tree) (h : List ℕ) (o q : Option Node) (p r : Option NodeInfo) → o ≡ q → p ≡ r → Matches t h q r
    → Matches t h o p
matches_by t h o q p r eo ep m =
    subst (λ a. Matches t h a p) (sym eo) (subst (λ b. Matches t h q b) (sym ep) m)

-- ANOTHER TREE

-- the links of a node are those that it had
pub links_kept : (t u : Tree) (h : List ℕ) (c : Content) → links u h ≡ links t h
    → ((m : Names) → c ≡ NamesOf m → subdirs u m ≡ subdirs t m) → links_of u h c ≡ links_of t h c
links_kept t u h (BytesOf b) leaf dir = leaf
links_kept t u h (TextOf b) leaf dir = leaf
links_kept t u h (NamesOf m) leaf dir = dir m refl

pub info_kept : (t u : Tree) (h : List ℕ) (n : Node) (i : NodeInfo) → IsInfo t h n i
    → links_of u h n.content ≡ links_of t h n.content → IsInfo u h n i
info_kept t u h n i s same = record {
  kind = s.kind;
  mode = s.mode;
  uid = s.uid;
  gid = s.gid;
  size = s.size;
  links = s.links ∙ sym same;
}

-- nothing or the same is kept where the links are as they were
pub matches_kept : (t u : Tree) (h : List ℕ) (o : Option Node) (p : Option NodeInfo) → Matches t h o p
    → ((n : Node) → o ≡ Some n → links_of u h n.content ≡ links_of t h n.content) → Matches u h o p
matches_kept t u h None None m same = m
matches_kept t u h None (Some i) m same = m
matches_kept t u h (Some n) None m same = m
matches_kept t u h (Some n) (Some i) m same = info_kept t u h n i m (same n refl)

-- whether a node is a directory is seen by its node
pub dir_by_node : (t u : Tree) (q : List ℕ) → node_at u q ≡ node_at t q → is_dir_at u q ≡ is_dir_at t q
dir_by_node t u q same = ap (λ (o : Option Node). elim (option_and_then (λ (n : Node).
    names_in n.content) o) [ None ↦ false | Some m ↦ true ]) same

-- and by what is kept
pub dir_by_kind : (t : Tree) (h : List ℕ) (n : Node) (i : NodeInfo) → node_at t h ≡ Some n → IsInfo t h n i
    → is_dir_at t h ≡ is_dir i.kind
dir_by_kind t h n i is s =
    ap (λ (o : Option Names). elim o [ None ↦ false | Some m ↦ true ]) (names_at-node t h n is)
    ∙ (elim n.content as (λ (c : Content). elim (names_in c) [ None ↦ false | Some m ↦ true ] ≡ is_dir (kind_of c)) [
      | BytesOf b ↦ refl
      | TextOf b ↦ refl
      | NamesOf m ↦ refl
    ] ∙ ap is_dir (sym s.kind))

-- a directory by its kind has names
pub dir_names : (c : Content) → kind_of c ≡ Dir → (m : Names) × (c ≡ NamesOf m)
dir_names (BytesOf b) e = absurd (let bad : File ≡ Dir = e in cc)
dir_names (TextOf b) e = absurd (let bad : Link ≡ Dir = e in cc)
dir_names (NamesOf m) e = (m, refl)

-- a node that changes stays the one that it is
pub nodes_same : (t : Tree) (h : List ℕ) (f : Node → Node) (n : Node) → node_at t h ≡ Some n
    → len (edited t h f).nodes ≡ len t.nodes
nodes_same t h f n is =
    ap (λ (u : Tree). len u.nodes) (edited-some t h f n is)
    ∙ (len-insert nat_list_cmp_total t.nodes h (f n)
    ∙ ap (λ o. cond (is_some o) (len t.nodes) (len t.nodes + 1)) is)
