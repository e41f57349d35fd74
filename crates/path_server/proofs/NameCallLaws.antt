-- What the calls answer by which nodes get and lose names, over plain values.
use Rattle.std.proofs.Common.{◌≡◌, ◌≢◌, inl, inr, ℕ, ◌+◌, ◌<◌, ◌++◌, Bool, true, List, Option, Some, None, Ok, Err, IsSomeAnd, is_some, refl, sym, ap, ◌∙◌, arith}
use Rattle.std.specs.FinMap.{get, empty, len, empty_of_len, len-empty}
use Rattle.std.specs.Ordering.{nat_cmp}
use Rattle.std.specs.Cmp.Lexicographic.{slice_cmp}
use Rattle.nfs2_types.specs.declared.fattr.Kind.TheVariants.{Dir}
use Rattle.server_trait.specs.Tree.{Tree, Names, Server, names_in, names_at, target, named, unnamed, let_go}
use Rattle.server_trait.specs.Step.{OnlySoft, IsNo, HasName, HasNames, LacksName, NoRoom}
use Rattle.server_trait.specs.Calls.{IsDir, Link, LinkErr, Remove, Removed, RemoveErr, Rmdir, RmdirErr}
use Rattle.server_trait.specs.declared.server.SrvErr.{SrvErr}
use Rattle.server_trait.specs.declared.server.SrvErr.TheVariants.{Stale, NoEnt, Exists, NotDir, WrongKind, NotEmpty, Full}
use Rattle.server_trait.specs.declared.server.ServerLimits.{ServerLimits}
use Rattle.server_trait.proofs.NameSoftLaws.{link_soft, remove_soft, rmdir_soft}
use Rattle.server_trait.proofs.TreeLaws.{some_and, is_some_and}
use Rattle.path_store.specs.Stored.{names_of}
use Rattle.path_server.specs.Kept.{Kept, IsFoundDir, IsFoundLeaf, the_tree, tree_of}
use Rattle.path_server.specs.Sound.{IsSound}
use Rattle.path_server.specs.declared.node.PathNode.{PathNode}
use Rattle.path_server.proofs.CallLaws.{held_tree, found_dir_error, lacks, no_view, stays, told_stale, told_not_dir}
use Rattle.path_server.proofs.ContentLaws.{no_names}
use Rattle.path_server.proofs.NamedLaws.{IsDirNode, is_some_none}
use Rattle.path_server.proofs.NodeLaws.{node_at-none}
use Rattle.path_server.proofs.SoundLaws.{names_at-is, target_is}

-- why a file or a link was not found
found_leaf_error : (k : Kept) (h : List ℕ) (e : SrvErr) → IsFoundLeaf k.nodes h (Err e) → (P : SrvErr → Type 0) →
    (get k.nodes h ≡ None → P Stale) → (IsSomeAnd (get k.nodes h) IsDirNode → P WrongKind) → P e
found_leaf_error k h Stale f P stale other = stale f
found_leaf_error k h WrongKind f P stale other = other f
found_leaf_error k h e f P stale other = absurd f

module _ (held : Bool) (limits : ServerLimits) (next bytes : ℕ) (k : Kept) (sound : held ≡ true →
    IsSound limits next bytes k) (dir name : List ℕ) where
  abbrev now : Tree
  now = the_tree k

  abbrev the_server : Server
  the_server = record { tree = tree_of held k; limits = limits; faults = 0 }

  there_is : held ≡ true → tree_of held k ≡ Some now
  there_is = stays held limits next bytes k sound

  is_dir_now : (h : List ℕ) (x : PathNode) → held ≡ true → get k.nodes h ≡ Some x → x.kind ≡ Dir → IsDir now h
  is_dir_now h x there is is_dir = ap is_some (names_at-is limits next bytes k (sound there) h x is is_dir)

  no_dir_now : (h : List ℕ) → IsSomeAnd (get k.nodes h) (λ p. p.kind ≢ Dir) → IsNo names_in now h
  no_dir_now h other = no_view names_in Dir k h no_names other

  -- LINK

  module _ (h : List ℕ) where
    pub link-err : (e : SrvErr) → IsFoundLeaf k.nodes h (Err e) → Link the_server h dir name (Err e) the_server
    link-err e found = found_leaf_error k h e found (λ e. Link the_server h dir name (Err e) the_server)
        (λ is. record {
          tree = held_tree held now (λ t. LinkErr limits h dir name t Stale × (tree_of held k ≡ Some t)) (λ there. (
            inl (node_at-none k h is),
            there_is there,
          ));
          limits = refl;
          faults = refl;
        })
        (λ is. record {
          tree = held_tree held now (λ t. IsDir t h × (tree_of held k ≡ Some t)) (λ there.
              let x = some_and (get k.nodes h) IsDirNode is in (is_dir_now h x.0 there x.1 x.2, there_is there));
          limits = refl;
          faults = refl;
        })

    pub link-no_dir : (e : SrvErr) → IsFoundDir k.nodes dir (Err e) → Link the_server h dir name (Err e) the_server
    link-no_dir e found = found_dir_error k.nodes dir e found (λ e. Link the_server h dir name (Err e) the_server)
        (λ is. record {
          tree = held_tree held now (λ t. LinkErr limits h dir name t Stale × (tree_of held k ≡ Some t)) (λ there. (
            inr (node_at-none k dir is),
            there_is there,
          ));
          limits = refl;
          faults = refl;
        })
        (λ is. record { tree = told_not_dir held limits next bytes k sound dir is; limits = refl; faults = refl })

    pub link-exists : (to : List ℕ) (p : PathNode) → IsFoundDir k.nodes dir (Ok p) →
        get k.paths (dir ++ name) ≡ Some to →
        Link the_server h dir name (Err Exists) the_server
    link-exists to p is leads = record {
      tree = held_tree held now (λ t. HasName t dir name × (tree_of held k ≡ Some t)) (λ there. (
        ap is_some (target_is limits next bytes k (sound there) dir p is.0 is.1 name ∙ leads),
        there_is there,
      ));
      limits = refl;
      faults = refl;
    }

    pub link-full : limits.bytes < bytes + 512 → Link the_server h dir name (Err Full) the_server
    link-full over = record {
      tree = held_tree held now (λ t. NoRoom limits t 0 0 512 × (tree_of held k ≡ Some t)) (λ there. (
        inr (let all = (sound there).bytes_used in omega (arith, over, all)),
        there_is there,
      ));
      limits = refl;
      faults = refl;
    }

    pub link-ok : (x p : PathNode) (new : Option Tree) (limits' : ServerLimits) → IsFoundLeaf k.nodes h (Ok x) →
        IsFoundDir k.nodes dir (Ok p) → get k.paths (dir ++ name) ≡ None → limits' ≡ limits → new ≡ Some (named now dir
        name h) → Link the_server h dir name (Ok tt) (record { tree = new; limits = limits'; faults = 0 })
    link-ok x p new limits' leaf is none same made = record {
      tree = held_tree held now (λ t. (new ≡ Some (named t dir name h)) × OnlySoft (LinkErr limits h dir name t))
          (λ there. (
            made,
            link_soft limits now h dir name (no_dir_now h (is_some_and (λ (p : PathNode). p.kind ≢ Dir) leaf.0 leaf.1))
                (lacks
                held limits next bytes k sound dir name p there is none),
          ));
      limits = same;
      faults = refl;
    }

  -- NO SUCH DIRECTORY, NO SUCH NAME

  pub remove-err : (e : SrvErr) → IsFoundDir k.nodes dir (Err e) → Remove the_server dir name (Err e) the_server
  remove-err e found = found_dir_error k.nodes dir e found (λ e. Remove the_server dir name (Err e) the_server)
      (λ is. record { tree = told_stale held limits next bytes k sound dir is; limits = refl; faults = refl })
      (λ is. record { tree = told_not_dir held limits next bytes k sound dir is; limits = refl; faults = refl })

  pub rmdir-err : (e : SrvErr) → IsFoundDir k.nodes dir (Err e) → Rmdir the_server dir name (Err e) the_server
  rmdir-err e found = found_dir_error k.nodes dir e found (λ e. Rmdir the_server dir name (Err e) the_server)
      (λ is. record { tree = told_stale held limits next bytes k sound dir is; limits = refl; faults = refl })
      (λ is. record {
        tree = held_tree held now (λ t. RmdirErr dir name t NotDir × (tree_of held k ≡ Some t)) (λ there. (
          inl (no_dir_now dir is),
          there_is there,
        ));
        limits = refl;
        faults = refl;
      })

  module _ (p : PathNode) (is : IsFoundDir k.nodes dir (Ok p)) where
    told_no_name : get k.paths (dir ++ name) ≡ None → (t : Tree) → tree_of held k ≡ Some t →
        LacksName t dir name × (tree_of held k ≡ Some t)
    told_no_name none = held_tree held now (λ t. LacksName t dir name × (tree_of held k ≡ Some t)) (λ there. (
      lacks held limits next bytes k sound dir name p there is none,
      there_is there,
    ))

    pub remove-none : get k.paths (dir ++ name) ≡ None → Remove the_server dir name (Err NoEnt) the_server
    remove-none none = record { tree = told_no_name none; limits = refl; faults = refl }

    pub rmdir-none : get k.paths (dir ++ name) ≡ None → Rmdir the_server dir name (Err NoEnt) the_server
    rmdir-none none = record { tree = told_no_name none; limits = refl; faults = refl }

    -- WHERE THE NAME LEADS

    module _ (h : List ℕ) (leads : get k.paths (dir ++ name) ≡ Some h) where
      there_leads : held ≡ true → target now dir name ≡ Some h
      there_leads there = target_is limits next bytes k (sound there) dir p is.0 is.1 name ∙ leads

      -- the tree without the name
      pub removed_is : held ≡ true → (new : Tree) → new ≡ let_go (unnamed now dir name) h →
          Removed now dir name (Some new)
      removed_is there new same = is_some_and (λ h. Some new ≡ Some (let_go (unnamed now dir name) h))
          (there_leads there) (ap
          Some same)

      -- the node is kept
      kept_there : held ≡ true → get k.nodes h ≡ None → ⊥
      kept_there there none = is_some_none ((sound there).named (dir ++ name) h leads).1 none

      pub remove-no_leaf : held ≡ true → (e : SrvErr) → IsFoundLeaf k.nodes h (Err e) →
          Remove the_server dir name (Err e) the_server
      remove-no_leaf there e found = found_leaf_error k h e found (λ e. Remove the_server dir name (Err e) the_server)
          (λ none. absurd (kept_there there none))
          (λ other. record {
            tree = held_tree held now (λ t. IsSomeAnd (target t dir name) (IsDir t) × (tree_of held k ≡ Some t))
                (λ there.
                let x = some_and (get k.nodes h) IsDirNode other in (
                  is_some_and (IsDir now) (there_leads there) (is_dir_now h x.0 there x.1 x.2),
                  there_is there,
                ));
            limits = refl;
            faults = refl;
          })

      pub remove-ok : (x : PathNode) (new : Option Tree) (limits' : ServerLimits) → IsFoundLeaf k.nodes h (Ok x) →
          limits' ≡ limits → Removed now dir name new → Remove the_server dir name (Ok tt) (record {
            tree = new;
            limits = limits';
            faults = 0;
          })
      remove-ok x new limits' leaf same done = record {
        tree = held_tree held now (λ t. Removed t dir name new × OnlySoft (RemoveErr dir name t)) (λ there. (
          done,
          remove_soft now dir name h (there_leads there)
              (no_dir_now h (is_some_and (λ (p : PathNode). p.kind ≢ Dir) leaf.0
              leaf.1)),
        ));
        limits = same;
        faults = refl;
      }

      pub rmdir-no_dir : held ≡ true → (e : SrvErr) → IsFoundDir k.nodes h (Err e) →
          Rmdir the_server dir name (Err e) the_server
      rmdir-no_dir there e found = found_dir_error k.nodes h e found (λ e. Rmdir the_server dir name (Err e) the_server)
          (λ none. absurd (kept_there there none))
          (λ other. record {
            tree = held_tree held now (λ t. RmdirErr dir name t NotDir × (tree_of held k ≡ Some t)) (λ there. (
              inr (is_some_and (IsNo names_in now) (there_leads there) (no_dir_now h other)),
              there_is there,
            ));
            limits = refl;
            faults = refl;
          })

      module _ (x : PathNode) (found : IsFoundDir k.nodes h (Ok x)) where
        names_are : (there : held ≡ true) → names_at now h ≡ Some (names_of k.paths h)
        names_are there = names_at-is limits next bytes k (sound there) h x found.0 found.1

        count_is : (there : held ≡ true) → x.names ≡ len (names_of k.paths h)
        count_is there = ((sound there).counted h x found.0).names

        pub rmdir-full : 0 < x.names → Rmdir the_server dir name (Err NotEmpty) the_server
        rmdir-full some = record {
          tree = held_tree held now (λ t. IsSomeAnd (target t dir name) (HasNames t) × (tree_of held k ≡ Some t))
              (λ there. (
                is_some_and (HasNames now) (there_leads there) (is_some_and (λ (m : Names). m ≢ empty) (names_are there) (λ
                    none. let count = count_is there in let size = ap len none in
                    let zero_size = len-empty (slice_cmp nat_cmp) (List ℕ) in omega (arith, some, count, size, zero_size))),
                there_is there,
              ));
          limits = refl;
          faults = refl;
        }

        pub rmdir-ok : (new : Option Tree) (limits' : ServerLimits) → x.names ≡ 0 → limits' ≡ limits →
            Removed now dir name new → Rmdir the_server dir name (Ok tt) (record {
              tree = new;
              limits = limits';
              faults = 0;
            })
        rmdir-ok new limits' none same done = record {
          tree = held_tree held now (λ t. Removed t dir name new × OnlySoft (RmdirErr dir name t)) (λ there. (
            done,
            rmdir_soft now dir name h (there_leads there)
                (names_are there ∙ ap Some (empty_of_len (names_of k.paths h) (sym
                (count_is there) ∙ none))),
          ));
          limits = same;
          faults = refl;
        }
