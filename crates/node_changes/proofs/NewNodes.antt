-- A node that was just made at the server gets its bytes, then its attributes, and is then asked for its number.
use Rattle.std.proofs.Common.{◌≡◌, ◌≢◌, inl, inr, ℕ, ◌+◌, ◌-◌, ◌++◌, arith, rules, cond, List, [], length, take, replicate, Option, Some, None, Result, Ok, Err, IfOk, IsSome, IsSomeAnd, is_some, refl, sym, ap, ◌∙◌, subst}
use Rattle.std.specs.FinMap.{get, insert, len, len-insert}
use Rattle.std.specs.Cmp.Lexicographic.{nat_list_cmp_total}
use Rattle.nfs2_types.specs.Bytes.{resized}
use Rattle.server_trait.specs.Tree.{Tree, Node, Names, Content, BytesOf, TextOf, NamesOf, ByBytes, node_at, bytes_at, bytes_in, names_at, names_in, new_node, with_attr, with_bytes, with_names, with_node, edited, named, used, used_by}
use Rattle.server_trait.specs.Step.{LacksName, IsBroken, Outcome, OnlySoft, NoRoom}
use Rattle.server_trait.specs.Calls.{Made, IsAttr, NodeErr, SetSizeErr}
use Rattle.server_trait.specs.declared.server.SrvErr.{SrvErr}
use Rattle.server_trait.specs.declared.server.SrvErr.TheVariants.{Stale, WrongKind, Full}
use Rattle.server_trait.specs.declared.bench.WrapErr.{WrapErr}
use Rattle.server_trait.specs.declared.server.ServerLimits.{ServerLimits}
use Rattle.server_trait.specs.declared.server.NodeAttr.{NodeAttr}
use Rattle.server_trait.proofs.TreeLaws.{some_and, is_some_and, some_none, some_same, and_then_some, get-insert_other, edited-some, root-edited, node_at-edited_same, node_at-edited_other, used-with_node, used-edited}
use Rattle.server_trait.proofs.SoftLaws.{made_node, failed, node_none}
use Rattle.abs_model.specs.declared.entry.Attr.{Attr}
use Rattle.conf_map.specs.Fresh.{HoldsUpTo}
use Rattle.node_changes.specs.News.{IsMade, IsBegun, node_with}

-- EDITS OF A NEW NODE

pub made_edited : (t : Tree) (dir name h : List ℕ) (n : Node) (t1 : Tree) (f : Node → Node) →
    (f n).number ≡ n.number → IsMade t dir name h n t1 → IsMade t dir name h (f n) (edited t1 h f)
made_edited t dir name h n t1 f same m = record {
  root = root-edited t1 h f ∙ m.root;
  new_handle = m.new_handle;
  new_number = λ q k at. subst (λ x. k.number ≢ x) (sym same) (m.new_number q k at);
  node_now = node_at-edited_same t1 h f n m.node_now;
  dir_now = λ k at. node_at-edited_other t1 h f dir (λ e. some_none (ap (node_at t) (sym e) ∙ at) m.new_handle)
      ∙ m.dir_now k at;
  others = λ q not_h not_dir. node_at-edited_other t1 h f q not_h ∙ m.others q not_h not_dir;
}

-- A NODE IS MADE

len_more : {X : Type 0} (m : ByBytes X) (k : List ℕ) (v : X) → get m k ≡ None → len (insert m k v) ≡ len m + 1
len_more m k v none = len-insert nat_list_cmp_total m k v ∙ ap (λ o. cond (is_some o) (len m) (len m + 1)) none

len_same : {X : Type 0} (m : ByBytes X) (k : List ℕ) (v u : X) → get m k ≡ Some u → len (insert m k v) ≡ len m
len_same m k v u is = len-insert nat_list_cmp_total m k v ∙ ap (λ o. cond (is_some o) (len m) (len m + 1)) is

-- a name that is new takes 512 bytes
used_named : (n : Node) (c : Content) (m : Names) (name h : List ℕ) → n.content ≡ c → names_in c ≡ Some m →
    get m name ≡ None →
    used_by (with_names (λ m. insert m name h) n).content ≡ used_by n.content + 512
used_named n (BytesOf b) m name h same is none = absurd (some_none is refl)
used_named n (TextOf x) m name h same is none = absurd (some_none is refl)
used_named n (NamesOf k) m name h same is none =
    let e : k ≡ m = some_same {o = Some k} refl is in
    let more = len_more k name h (ap (λ k. get k name) e ∙ none) in
    let before : used_by n.content ≡ used_by (NamesOf k) = ap used_by same in
    let after : used_by (with_names (λ m. insert m name h) n).content ≡ used_by (NamesOf (insert k name h)) =
    ap (λ c. used_by (with_names (λ m. insert m name h) (record n { content = c })).content) same in
    omega (arith, more, before, after)

module _ (t : Tree) (dir name h : List ℕ) (content : Content) (s : Option Tree) (m : Made t dir name content h s)
    (lacks : LacksName t dir name) where
  abbrev fresh : Node
  fresh = new_node m.number content

  abbrev t0 : Tree
  t0 = with_node t h fresh

  abbrev t1 : Tree
  t1 = named t0 dir name h

  abbrev f : Node → Node
  f = with_names (λ k. insert k name h)

  not_new : (n : Node) → node_at t dir ≡ Some n → dir ≢ h
  not_new n at e = some_none (ap (node_at t) (sym e) ∙ at) m.new_handle

  still : (n : Node) → node_at t dir ≡ Some n → node_at t0 dir ≡ Some n
  still n at = get-insert_other t.nodes h fresh dir (not_new n at) ∙ at

  -- the node is new, and its directory has its name
  is_begun : IsBegun t dir name h content s
  is_begun = record {
    number = m.number;
    tree = t1;
    has_tree = m.after;
    made = record {
      root = root-edited t0 dir f;
      new_handle = m.new_handle;
      new_number = m.new_number;
      node_now = made_node t dir name content h s m lacks;
      dir_now = λ n at. node_at-edited_same t0 dir f n (still n at);
      others = λ q not_h not_dir. node_at-edited_other t0 dir f q not_dir ∙ get-insert_other t.nodes h fresh q not_h;
    };
  }

  -- the tree has one node more, and uses the bytes of the name and of the content
  pub sizes : (len t1.nodes ≡ len t.nodes + 1) × (used t1 ≡ used t + used_by content + 512)
  sizes =
      let k = some_and (names_at t dir) (λ k. get k name ≡ None) lacks in
      let n = and_then_some (λ (n : Node). names_in n.content) (node_at t dir) k.0 k.1 in
      let at = still n.0 n.1 in
      let a = used-edited t0 dir f n.0 at in
      let b = used-with_node t h fresh m.new_handle in
      let c = used_named n.0 n.0.content k.0 name h refl n.2 k.2 in (
        ap (λ (t : Tree). len t.nodes) (edited-some t0 dir f n.0 at) ∙ len_same t0.nodes dir (f n.0) n.0 at
            ∙ len_more t.nodes h fresh m.new_handle,
        omega (arith, a, b, c),
      )

pub begun_known : (s0 s1 : Option Tree) (dir name h : List ℕ) (content : Content) →
    IsSomeAnd s0 (λ t. LacksName t dir name) → ((t : Tree) → s0 ≡ Some t → Made t dir name content h s1) →
    (t : Tree) → s0 ≡ Some t → IsBegun t dir name h content s1
begun_known s0 s1 dir name h content known made t is =
    let k = some_and s0 (λ t. LacksName t dir name) known in
    is_begun t dir name h content s1 (made t is) (subst (λ t. LacksName t dir name) (some_same k.1 is) k.2)

-- the same, of a call whose answer may be an error
pub begun_or_not : (s0 s1 : Option Tree) (dir name : List ℕ) (content asked : Content) (r : Result (List ℕ) WrapErr) →
    content ≡ asked → IsSomeAnd s0 (λ t. LacksName t dir name) →
    IfOk r (λ h. (t : Tree) → s0 ≡ Some t → Made t dir name content h s1) →
    IfOk r (λ h. (t : Tree) → s0 ≡ Some t → IsBegun t dir name h asked s1)
begun_or_not s0 s1 dir name content asked (Ok h) same known made = λ t is.
    subst (λ c. IsBegun t dir name h c s1) same (begun_known s0 s1 dir name h content known made t is)
begun_or_not s0 s1 dir name content asked (Err e) same known made = tt

-- A NEW FILE GETS ITS BYTES

-- no bytes filled with zeros
filled : (size : ℕ) → resized size [] ≡ replicate size 0
filled size =
    let whole : size - 0 ≡ size = omega arith in
    let none : take size [] ≡ [] = search rules in
    ap (λ b. b ++ replicate (size - 0) 0) none ∙ ap (λ n. replicate n 0) whole

module _ (s0 s1 : Option Tree) (dir name h : List ℕ)
    (made : (t : Tree) → s0 ≡ Some t → Made t dir name (BytesOf []) h s1) where
  -- without a size it has its bytes
  pub unsized : IsSomeAnd s0 (λ t. LacksName t dir name) → (size : ℕ) → size ≡ 0 → (t : Tree) → s0 ≡ Some t →
      IsBegun t dir name h (BytesOf (replicate size 0)) s1
  unsized known size zero t is = subst (λ size. IsBegun t dir name h (BytesOf (replicate size 0)) s1) (sym zero)
      (begun_known s0 s1 dir name h (BytesOf []) known made t is)

  -- there is a tree
  pub has_tree : IsSomeAnd s0 (λ t. LacksName t dir name) → IsSome s1
  has_tree known = let k = some_and s0 (λ t. LacksName t dir name) known in ap is_some (made k.0 k.1).after

  module _ (limits : ServerLimits) (s2 : Option Tree) (size : ℕ) where
    abbrev Sized : Tree → Unit {0} → Option Tree → Type 0
    Sized t _ after = after ≡ Some (edited t h (with_bytes (resized size)))

    -- with a size it has so many zeros
    pub sized : IsSomeAnd s0 (λ t. LacksName t dir name) →
        ((t : Tree) → s1 ≡ Some t → Sized t tt s2 × OnlySoft (SetSizeErr limits h size t)) → (t : Tree) → s0 ≡ Some t →
        IsBegun t dir name h (BytesOf (replicate size 0)) s2
    sized known set t is =
        let b = begun_known s0 s1 dir name h (BytesOf []) known made t is in
        let tree : Tree = edited b.tree h (with_bytes (resized size)) in
        let now : IsMade t dir name h (new_node b.number (BytesOf (resized size []))) tree =
        made_edited t dir name h (new_node b.number (BytesOf [])) b.tree (with_bytes (resized size)) refl b.made in
        record {
          number = b.number;
          tree = tree;
          has_tree = (set b.tree b.has_tree).0;
          made = subst (λ bytes. IsMade t dir name h (new_node b.number (BytesOf bytes)) tree) (filled size) now;
        }

    module _ (known : IsSomeAnd s0 (λ t. LacksName t dir name)) where
      k : (t : Tree) × (s0 ≡ Some t) × LacksName t dir name
      k = some_and s0 (λ t. LacksName t dir name) known

      m : Made k.0 dir name (BytesOf []) h s1
      m = made k.0 k.1

      abbrev tree : Tree
      tree = named (with_node k.0 h (new_node m.number (BytesOf []))) dir name h

      at : node_at tree h ≡ Some (new_node m.number (BytesOf []))
      at = made_node k.0 dir name (BytesOf []) h s1 m k.2

      counts : (len tree.nodes ≡ len k.0.nodes + 1) × (used tree ≡ used k.0 + 0 + 512)
      counts = sizes k.0 dir name h (BytesOf []) s1 m k.2

      module _ (most : ServerLimits) (same : limits ≡ most)
          (room : IsSomeAnd s0 (λ t. HoldsUpTo most (len t.nodes + 1) (used t + (512 + size)))) where
        holds : HoldsUpTo most (len k.0.nodes + 1) (used k.0 + (512 + size))
        holds =
            let r = some_and s0 (λ t. HoldsUpTo most (len t.nodes + 1) (used t + (512 + size))) room in
            subst (λ t. HoldsUpTo most (len t.nodes + 1) (used t + (512 + size))) (some_same r.1 k.1) r.2

        enough : (b : List ℕ) → ¬ (NoRoom limits tree 0 (length b) size)
        enough b (inl many) =
            let h = holds.0 in
            let c = counts.0 in
            let l = ap (λ (l : ServerLimits). l.nodes) same in
            absurd (omega (arith, h, c, l, many))
        enough b (inr much) =
            let h = holds.1 in
            let c = counts.1 in
            let l = ap (λ (l : ServerLimits). l.bytes) same in
            absurd (omega (arith, h, c, l, much))

        none : (e : SrvErr) → ¬ (SetSizeErr limits h size tree e)
        none Stale a = some_none at a
        none WrongKind a =
            let n = some_and (node_at tree h) (λ (n : Node). bytes_in n.content ≡ None) a in
            some_none {x = []} {o = bytes_in n.0.content} (ap (λ (n : Node). bytes_in n.content) (some_same n.1 at)) n.2
        none Full a = let b = some_and (bytes_at tree h) (λ b. NoRoom limits tree 0 (length b) size) a in enough b.0 b.2
        none e a = absurd a

        -- and the call that gives it its size can only fail
        pub size_fails : (e : SrvErr) → ((t : Tree) → s1 ≡ Some t →
            Outcome {T = Unit {0}} (Sized t) (SetSizeErr limits h size t) t (Err e) s2) → IsBroken e
        size_fails e set = failed {T = Unit {0}} (Sized tree) (SetSizeErr limits h size tree) tree e s2 none
            (set tree m.after)

-- A NEW NODE GETS ITS ATTRIBUTES

module _ (s0 s1 : Option Tree) (dir name h : List ℕ) (content : Content) (attr : Attr)
    (begun : (t : Tree) → s0 ≡ Some t → IsBegun t dir name h content s1) where
  abbrev g : Node → Node
  g = with_attr attr.mode attr.uid attr.gid

  abbrev HasAttr : Tree → Unit {0} → Option Tree → Type 0
  HasAttr t _ after = after ≡ Some (edited t h g)

  module _ (known : IsSomeAnd s0 (λ t. LacksName t dir name)) where
    b : (t : Tree) × (s0 ≡ Some t) × IsBegun t dir name h content s1
    b = let k = some_and s0 (λ t. LacksName t dir name) known in (k.0, k.1, begun k.0 k.1)

    -- there is a tree
    pub can_set : IsSome s1
    can_set = ap is_some b.2.has_tree

    -- the call that sets the attributes can only fail
    pub set_fails : (s2 : Option Tree) (e : SrvErr) →
        ((t : Tree) → s1 ≡ Some t → Outcome {T = Unit {0}} (HasAttr t) (NodeErr h t) t (Err e) s2) → IsBroken e
    set_fails s2 e set = failed {T = Unit {0}} (HasAttr b.2.tree) (NodeErr h b.2.tree) b.2.tree e s2
        (node_none b.2.tree h (new_node b.2.number content) b.2.made.node_now) (set b.2.tree b.2.has_tree)

    -- the node is there
    pub still_there : (s2 : Option Tree) → ((t : Tree) → s1 ≡ Some t → HasAttr t tt s2 × OnlySoft (NodeErr h t)) →
        IsSomeAnd s2 (λ t. IsSome (node_at t h))
    still_there s2 set = is_some_and (λ t. IsSome (node_at t h)) (set b.2.tree b.2.has_tree).0
        (ap is_some (node_at-edited_same b.2.tree h g (new_node b.2.number content) b.2.made.node_now))

  -- and it has the attributes
  pub node_made : (s2 s3 : Option Tree) (a : NodeAttr) →
      ((t : Tree) → s1 ≡ Some t → HasAttr t tt s2 × OnlySoft (NodeErr h t)) → s3 ≡ s2 →
      ((t : Tree) → s2 ≡ Some t → IsSomeAnd (node_at t h) (IsAttr t h a)) → (t : Tree) → s0 ≡ Some t →
      IsSomeAnd s3 (IsMade t dir name h (node_with a.number attr content))
  node_made s2 s3 a set same told t is =
      let b = begun t is in
      let n : Node = new_node b.number content in
      let now = (set b.tree b.has_tree).0 in
      let tree : Tree = edited b.tree h g in
      let made : IsMade t dir name h (node_with b.number attr content) tree =
      made_edited t dir name h n b.tree g refl b.made in
      let k = some_and (node_at tree h) (IsAttr tree h a) (told tree now) in
      let number : a.number ≡ b.number = k.2.number ∙ ap (λ (n : Node). n.number) (some_same k.1 made.node_now) in
      is_some_and (IsMade t dir name h (node_with a.number attr content)) (same ∙ now)
      (subst (λ x. IsMade t dir name h (node_with x attr content) tree) (sym number) made)
