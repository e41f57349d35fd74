-- What the calls of a path server answer, over plain values.
use Rattle.std.proofs.Common.{◌≡◌, ◌≢◌, ◌⊎◌, inl, inr, ℕ, ◌+◌, ◌<◌, ◌≤◌, ◌++◌, Bool, true, false, cond, List, Option, Some, None, Ok, Err, IsSome, IsSomeAnd, refl, sym, ap, ◌∙◌, subst, arith}
use Rattle.std.specs.Prelude.{Vec}
use Rattle.std.specs.declared.alloc.Global.{Global}
use Rattle.std.specs.FinMap.{get, len}
use Rattle.nfs2_types.specs.declared.fattr.Kind.{Kind}
use Rattle.nfs2_types.specs.declared.fattr.Kind.TheVariants.{Dir}
use Rattle.nfs2_types.specs.declared.time.Time.{Time}
use Rattle.server_trait.specs.Tree.{Tree, Node, Content, Names, ByBytes, Server, names_in, node_at, names_at, target, size_of, links_of}
use Rattle.server_trait.specs.Step.{OnlySoft, IsStale, IsNo, HasName, LacksName, NoRoom}
use Rattle.server_trait.specs.Calls.{IsAttr, Attr, Lookup, Lists, ListNames, SetAttr, Make, Made, NodeErr, DirErr, LookupErr, MakeErr}
use Rattle.server_trait.specs.declared.server.SrvErr.{SrvErr}
use Rattle.server_trait.specs.declared.server.SrvErr.TheVariants.{Stale, NoEnt, Exists, NotDir, WrongKind, Full}
use Rattle.server_trait.specs.declared.server.Listed.{Listed}
use Rattle.server_trait.specs.declared.server.NodeAttr.{NodeAttr}
use Rattle.server_trait.specs.declared.server.ServerLimits.{ServerLimits}
use Rattle.server_trait.proofs.TreeLaws.{is_some_and, some_and}
use Rattle.server_trait.proofs.SoftLaws.{node_soft, dir_soft, lookup_soft, make_soft}
use Rattle.path_server.specs.Bytes.{bytes_under, content_of}
use Rattle.path_server.specs.Kept.{Kept, IsFound, IsFoundDir, the_tree, tree_of}
use Rattle.path_store.specs.Stored.{names_of}
use Rattle.path_server.specs.Sound.{IsSound}
use Rattle.path_server.specs.declared.node.PathNode.{PathNode}
use Rattle.path_server.proofs.ContentLaws.{its_kind, no_names}
use Rattle.path_store.proofs.NameLaws.{get-names_of}
use Rattle.path_server.proofs.NodeLaws.{len-nodes_of, node_at-kept, node_at-none, node_here}
use Rattle.path_server.proofs.SoundLaws.{fits, target_is, names_at-is}

-- what holds of the tree that is held
pub held_tree : (held : Bool) (t0 : Tree) (P : Tree → Type 0) → (held ≡ true → P t0) → (t : Tree) →
    cond held (Some t0) None ≡ Some t → P t
held_tree true t0 P h t e = subst P (let same : Some t0 ≡ Some t = e in let one : t0 ≡ t = cc in one) (h refl)
held_tree false t0 P h t e = absurd (let no : None ≡ Some t = e in cc)

pub is_held : (held : Bool) (t : Tree) → IsSome (cond held (Some t) None) → held ≡ true
is_held true t h = refl
is_held false t h = h

-- why a node of a kind was not found
pub found_error : (nodes : ByBytes PathNode) (h : List ℕ) (kind : Kind) (e : SrvErr) → IsFound nodes h kind (Err e) →
    (P : SrvErr → Type 0) → (get nodes h ≡ None → P Stale) → (IsSomeAnd (get nodes h) (λ p. p.kind ≢ kind) →
    P WrongKind) → P e
found_error nodes h kind Stale f P stale other = stale f
found_error nodes h kind WrongKind f P stale other = other f
found_error nodes h kind e f P stale other = absurd f

pub found_dir_error : (nodes : ByBytes PathNode) (h : List ℕ) (e : SrvErr) → IsFoundDir nodes h (Err e) →
    (P : SrvErr → Type 0) → (get nodes h ≡ None → P Stale) → (IsSomeAnd (get nodes h) (λ p. p.kind ≢ Dir) → P NotDir) →
    P e
found_dir_error nodes h Stale f P stale other = stale f
found_dir_error nodes h NotDir f P stale other = other f
found_dir_error nodes h e f P stale other = absurd f

-- a node of another kind has no such content
pub no_view : {X : Type 0} (view : Content → Option X) (kind : Kind) (k : Kept) (h : List ℕ) →
    ((x : Kind) (b : List ℕ) (m : Names) → x ≢ kind → view (content_of x b m) ≡ None) →
    IsSomeAnd (get k.nodes h) (λ p. p.kind ≢ kind) → IsNo view (the_tree k) h
no_view view kind k h none other =
    let p = some_and (get k.nodes h) (λ (p : PathNode). p.kind ≢ kind) other in
    is_some_and (λ (n : Node). view n.content ≡ None) (node_at-kept k h p.0 p.1) (none p.0.kind (bytes_under
    k.contents h) (names_of k.paths h) p.2)

module _ (held : Bool) (limits : ServerLimits) (next bytes : ℕ) (k : Kept) (sound : held ≡ true →
    IsSound limits next bytes k) where
  abbrev now : Tree
  now = the_tree k

  abbrev the_server : Server
  the_server = record { tree = tree_of held k; limits = limits; faults = 0 }

  pub stays : held ≡ true → tree_of held k ≡ Some now
  stays is = ap (λ b. cond b (Some now) None) is

  -- what is told where a node was not found
  pub told_stale : (h : List ℕ) → get k.nodes h ≡ None → (t : Tree) → tree_of held k ≡ Some t →
      IsStale t h × (tree_of held k ≡ Some t)
  told_stale h is = held_tree held now (λ t. IsStale t h × (tree_of held k ≡ Some t)) (λ there. (
    node_at-none k h is,
    stays there,
  ))

  pub told_not_dir : (h : List ℕ) → IsSomeAnd (get k.nodes h) (λ p. p.kind ≢ Dir) → (t : Tree) →
      tree_of held k ≡ Some t → IsNo names_in t h × (tree_of held k ≡ Some t)
  told_not_dir h other = held_tree held now (λ t. IsNo names_in t h × (tree_of held k ≡ Some t)) (λ there. (
    no_view
        names_in Dir k h no_names other,
    stays there,
  ))

  -- ANY NODE

  pub attr-ok : (h : List ℕ) (p : PathNode) (size links : ℕ) (time : Time) → get k.nodes h ≡ Some p →
      (held ≡ true → (size ≡ size_of (node_here k h p).content) × (links ≡ links_of now h (node_here k h p).content)) →
      Attr the_server h (Ok (record {
        kind = p.kind;
        number = p.number;
        mode = p.mode;
        uid = p.uid;
        gid =
            p.gid;
        size = size;
        links = links;
        time = time;
      })) the_server
  attr-ok h p size links time is told =
      let a : NodeAttr = record {
        kind = p.kind;
        number = p.number;
        mode = p.mode;
        uid = p.uid;
        gid = p.gid;
        size =
            size;
        links = links;
        time = time;
      } in
      record {
        tree = held_tree held now (λ t. (IsSomeAnd (node_at t h) (IsAttr t h a) × (tree_of held k ≡ Some t)) ×
            OnlySoft (NodeErr h t)) (λ there. (
              (
                is_some_and (IsAttr now h a) (node_at-kept k h p is) (record {
                  kind = sym (its_kind p.kind (bytes_under k.contents h) (names_of k.paths h));
                  number = refl;
                  mode = refl;
                  uid = refl;
                  gid = refl;
                  size = (told there).0;
                  links = (told there).1;
                }),
                stays there,
              ),
              node_soft now h (node_here k h p) (node_at-kept k h p is),
            ));
        limits = refl;
        faults = refl;
      }

  pub attr-stale : (h : List ℕ) → get k.nodes h ≡ None → Attr the_server h (Err Stale) the_server
  attr-stale h is = record { tree = told_stale h is; limits = refl; faults = refl }

  pub set_attr-stale : (h : List ℕ) (mode uid gid : ℕ) → get k.nodes h ≡ None →
      SetAttr the_server h mode uid gid (Err Stale) the_server
  set_attr-stale h mode uid gid is = record { tree = told_stale h is; limits = refl; faults = refl }

  -- NAMES

  pub lookup-err : (h name : List ℕ) (e : SrvErr) → IsFoundDir k.nodes h (Err e) →
      Lookup the_server h name (Err e) the_server
  lookup-err h name e found = found_dir_error k.nodes h e found (λ e. Lookup the_server h name (Err e) the_server)
      (λ is. record { tree = told_stale h is; limits = refl; faults = refl })
      (λ is. record { tree = told_not_dir h is; limits = refl; faults = refl })

  pub lookup-ok : (h name x : List ℕ) (p : PathNode) → (get k.nodes h ≡ Some p) × (p.kind ≡ Dir) →
      get k.paths (h ++ name) ≡ Some x → Lookup the_server h name (Ok x) the_server
  lookup-ok h name x p is leads = record {
    tree = held_tree held now (λ t. ((target t h name ≡ Some x) × (tree_of held k ≡ Some t)) × OnlySoft (LookupErr h
        name t)) (λ there.
        let at = target_is limits next bytes k (sound there) h p is.0 is.1 name ∙ leads in
        ((at, stays there), lookup_soft now h name x at));
    limits = refl;
    faults = refl;
  }

  pub lacks : (h name : List ℕ) (p : PathNode) → held ≡ true → (get k.nodes h ≡ Some p) × (p.kind ≡ Dir) →
      get k.paths (h ++ name) ≡ None → LacksName now h name
  lacks h name p there is none =
      is_some_and (λ (m : Names). get m name ≡ None) (names_at-is limits next bytes k (sound there) h p is.0 is.1)
      (get-names_of h (fits limits next bytes k (sound there) h p is.0) k.paths name ∙ none)

  pub lookup-none : (h name : List ℕ) (p : PathNode) → (get k.nodes h ≡ Some p) × (p.kind ≡ Dir) →
      get k.paths (h ++ name) ≡ None → Lookup the_server h name (Err NoEnt) the_server
  lookup-none h name p is none = record {
    tree = held_tree held now (λ t. LacksName t h name × (tree_of held k ≡ Some
        t)) (λ there. (lacks h name p there is none, stays there));
    limits = refl;
    faults = refl;
  }

  pub list-err : (h : List ℕ) (e : SrvErr) → IsFoundDir k.nodes h (Err e) → ListNames the_server h (Err e) the_server
  list-err h e found = found_dir_error k.nodes h e found (λ e. ListNames the_server h (Err e) the_server)
      (λ is. record { tree = told_stale h is; limits = refl; faults = refl })
      (λ is. record { tree = told_not_dir h is; limits = refl; faults = refl })

  pub list-ok : (h : List ℕ) (p : PathNode) (rows : Vec Listed Global) → (get k.nodes h ≡ Some p) × (p.kind ≡ Dir) →
      Lists rows.items (names_of k.paths h) → ListNames the_server h (Ok rows) the_server
  list-ok h p rows is told = record {
    tree = held_tree held now (λ t. (IsSomeAnd (names_at t h) (Lists rows.items) × (tree_of held k ≡ Some t)) ×
        OnlySoft (DirErr h t)) (λ there.
        let at = names_at-is limits next bytes k (sound there) h p is.0 is.1 in
        ((is_some_and (Lists rows.items) at told, stays there), dir_soft now h (names_of k.paths h) at));
    limits = refl;
    faults = refl;
  }

  -- NEW NODES

  module _ (content : Content) (more : ℕ) (h name : List ℕ) where
    pub make-err : (e : SrvErr) → IsFoundDir k.nodes h (Err e) → Make content more the_server h name (Err e) the_server
    make-err e found = found_dir_error k.nodes h e found (λ e. Make content more the_server h name (Err e) the_server)
        (λ is. record { tree = told_stale h is; limits = refl; faults = refl })
        (λ is. record { tree = told_not_dir h is; limits = refl; faults = refl })

    pub make-exists : (x : List ℕ) (p : PathNode) → (get k.nodes h ≡ Some p) × (p.kind ≡ Dir) →
        get k.paths (h ++ name) ≡ Some x → Make content more the_server h name (Err Exists) the_server
    make-exists x p is leads = record {
      tree = held_tree held now (λ t. HasName t h name × (tree_of held k ≡ Some t)) (λ there.
          (rw (target_is limits next bytes k (sound there) h p is.0 is.1 name ∙ leads) refl, stays there));
      limits = refl;
      faults = refl;
    }

    pub make-full : (limits.nodes ≤ len k.nodes) ⊎ (limits.bytes < bytes + (512 + more)) →
        Make content more the_server h name (Err Full) the_server
    make-full over = record {
      tree = held_tree held now (λ t. NoRoom limits t 1 0 (512 + more) × (tree_of held k ≡ Some t)) (λ there.
          (no_room there over, stays there));
      limits = refl;
      faults = refl;
    }
      where
        no_room : held ≡ true → (limits.nodes ≤ len k.nodes) ⊎ (limits.bytes < bytes + (512 + more)) →
            NoRoom limits now 1 0 (512 + more)
        no_room there (inl nodes) = inl
            (let size = len-nodes_of k.nodes k.contents k.paths in omega (arith, nodes, size))
        no_room there (inr most) = inr (let all = (sound there).bytes_used in omega (arith, most, all))

    -- with what the call has made
    pub make-ok : (x : List ℕ) (p : PathNode) (new : Option Tree) (limits' : ServerLimits) →
        (get k.nodes h ≡ Some p) × (p.kind ≡ Dir) → get k.paths (h ++ name) ≡ None → limits' ≡ limits →
        Made now h name content x new → Make content more the_server h name (Ok x) (record {
          tree = new;
          limits =
              limits';
          faults = 0;
        })
    make-ok x p new limits' is none same made = record {
      tree = held_tree held now (λ t. Made t h name content x new × OnlySoft (MakeErr limits h name more t)) (λ
          there. (made, make_soft limits now h name more (lacks h name p there is none)));
      limits = same;
      faults = refl;
    }
