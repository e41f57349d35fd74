-- What `rename` answers, over plain values.
use Rattle.std.proofs.Common.{◌≡◌, ◌⊎◌, inl, inr, ℕ, ◌++◌, Bool, true, List, Option, Some, None, Ok, Err, IsSomeAnd, is_some, refl, sym, ap, ◌∙◌}
use Rattle.std.specs.FinMap.{get}
use Rattle.nfs2_types.specs.declared.fattr.Kind.TheVariants.{Dir}
use Rattle.path_store.specs.Stored.{names_of}
use Rattle.path_store.specs.Stored as stored
use Rattle.server_trait.specs.Tree.{Tree, Names, Server, names_in, names_at, target, named, unnamed}
use Rattle.server_trait.specs.Step.{OnlySoft, IsStale, HasName, LacksName, IsAtOrBelow}
use Rattle.server_trait.specs.Calls.{IsDir, RenameErr, Rename, renamed}
use Rattle.server_trait.specs.declared.server.SrvErr.{SrvErr}
use Rattle.server_trait.specs.declared.server.SrvErr.TheVariants.{NoEnt, NotDir, Subtree, Refused}
use Rattle.server_trait.specs.declared.server.ServerLimits.{ServerLimits}
use Rattle.server_trait.proofs.NameSoftLaws.{CanRename, rename_soft}
use Rattle.server_trait.proofs.SoftLaws.{some_of}
use Rattle.server_trait.proofs.TreeLaws.{some_none, is_some_and, names_at-node}
use Rattle.path_server.specs.Bytes.{bytes_under}
use Rattle.path_server.specs.Kept.{Kept, IsFoundDir, the_tree, tree_of}
use Rattle.path_server.specs.Sound.{IsSound}
use Rattle.path_server.specs.declared.node.PathNode.{PathNode}
use Rattle.path_server.proofs.BelowLaws.{dir_of_names, below_in_tree, below_in_names}
use Rattle.path_server.proofs.CallLaws.{held_tree, found_dir_error, no_view, stays}
use Rattle.path_server.proofs.ContentLaws.{no_names}
use Rattle.path_store.proofs.NameLaws.{get-names_of}
use Rattle.path_server.proofs.NodeLaws.{node_at-none, node_at-kept, node_here}
use Rattle.path_server.proofs.SoundLaws.{fits, target_is, names_at-is}

-- a new name leads on from what the first led to
renamed_new : (t : Tree) (from name to to_name h : List ℕ) → target t to to_name ≡ None →
    renamed t from name to to_name h ≡ named (unnamed t from name) to to_name h
renamed_new t from name to to_name h none = rw (none, renamed) refl

module _ (held : Bool) (limits : ServerLimits) (next bytes : ℕ) (k : Kept) (sound : held ≡ true →
    IsSound limits next bytes k) (from name to to_name : List ℕ) where
  abbrev now : Tree
  now = the_tree k

  abbrev the_server : Server
  the_server = record { tree = tree_of held k; limits = limits; faults = 0 }

  -- what is told of the tree that is held
  told : (P : Tree → Type 0) → (held ≡ true → P now) → (t : Tree) → tree_of held k ≡ Some t → P t × (tree_of held k ≡
      Some t)
  told P h = held_tree held now (λ t. P t × (tree_of held k ≡ Some t)) (λ there. (
    h there,
    stays held limits next bytes k
        sound there,
  ))

  pub rename-err_from : (e : SrvErr) → IsFoundDir k.nodes from (Err e) →
      Rename the_server from name to to_name (Err e) the_server
  rename-err_from e found = found_dir_error k.nodes from e found (λ e. Rename the_server from name to to_name (Err e)
      the_server)
      (λ is. record {
        tree = told (λ t. IsStale t from ⊎ IsStale t to) (λ _. inl (node_at-none k from is));
        limits = refl;
        faults = refl;
      })
      (λ is. record {
        tree = told (λ t. RenameErr from name to to_name t NotDir) (λ _. inl (inl (no_view names_in Dir k from no_names
            is)));
        limits = refl;
        faults = refl;
      })

  pub rename-err_to : (e : SrvErr) → IsFoundDir k.nodes to (Err e) →
      Rename the_server from name to to_name (Err e) the_server
  rename-err_to e found = found_dir_error k.nodes to e found (λ e. Rename the_server from name to to_name (Err e)
      the_server)
      (λ is. record {
        tree = told (λ t. IsStale t from ⊎ IsStale t to) (λ _. inr (node_at-none k to is));
        limits = refl;
        faults = refl;
      })
      (λ is. record {
        tree = told (λ t. RenameErr from name to to_name t NotDir) (λ _. inl (inr (no_view names_in Dir k to no_names
            is)));
        limits = refl;
        faults = refl;
      })

  pub rename-no_entry : (p : PathNode) → (get k.nodes from ≡ Some p) × (p.kind ≡ Dir) →
      get k.paths (from ++ name) ≡ None → Rename the_server from name to to_name (Err NoEnt) the_server
  rename-no_entry p is none = record {
    tree = told (λ t. LacksName t from name) (λ there.
        is_some_and (λ (m : Names). get m name ≡ None) (names_at-is limits next bytes k (sound there) from p is.0 is.1)
        (get-names_of from (fits limits next bytes k (sound there) from p is.0) k.paths name ∙ none));
    limits = refl;
    faults = refl;
  }

  pub rename-taken : (p : PathNode) (x : List ℕ) → (get k.nodes to ≡ Some p) × (p.kind ≡ Dir) →
      get k.paths (to ++ to_name) ≡ Some x → Rename the_server from name to to_name (Err Refused) the_server
  rename-taken p x is leads = record {
    tree = told (λ t. HasName t to to_name) (λ there.
        ap is_some (target_is limits next bytes k (sound there) to p is.0 is.1 to_name ∙ leads));
    limits = refl;
    faults = refl;
  }

  module _ (p : PathNode) (is : (get k.nodes from ≡ Some p) × (p.kind ≡ Dir)) (h : List ℕ) (leads : get k.paths (from
      ++ name) ≡ Some h) (m : PathNode) (is_moved : get k.nodes h ≡ Some m) where
    at_now : held ≡ true → target now from name ≡ Some h
    at_now there = target_is limits next bytes k (sound there) from p is.0 is.1 name ∙ leads

    is_dir_now : held ≡ true → m.kind ≡ Dir → IsDir now h
    is_dir_now there d = ap is_some (names_at-is limits next bytes k (sound there) h m is_moved d)

    kept_dir : IsDir now h → m.kind ≡ Dir
    kept_dir d =
        let names = some_of (names_at now h) d in
        dir_of_names m.kind (bytes_under k.contents h) (names_of k.paths h) names.0
        (sym (names_at-node now h (node_here k
        h m) (node_at-kept k h m is_moved)) ∙ names.1)

    pub rename-below : m.kind ≡ Dir → stored.IsAtOrBelow k.paths h to →
        Rename the_server from name to to_name (Err Subtree) the_server
    rename-below d below = record {
      tree = told (λ t. RenameErr from name to to_name t Subtree) (λ there.
          is_some_and (λ h. IsDir now h × IsAtOrBelow now h to) (at_now there) (
            is_dir_now there d,
            below_in_tree limits next bytes k (sound there) h to (fits limits next bytes k (sound
                there) h m is_moved) below,
          ));
      limits = refl;
      faults = refl;
    }

    module _ (into : PathNode) (is_into : (get k.nodes to ≡ Some into) × (into.kind ≡ Dir)) (new_name : get k.paths (to
        ++ to_name) ≡ None) (apart : m.kind ≡ Dir → stored.IsAtOrBelow k.paths h to → ⊥) where
      lacks : held ≡ true → target now to to_name ≡ None
      lacks there = target_is limits next bytes k (sound there) to into is_into.0 is_into.1 to_name ∙ new_name

      can : held ≡ true → CanRename now from name to to_name h
      can there = record {
        is_moved = at_now there;
        into = names_of k.paths to;
        is_into = names_at-is limits next bytes k (sound there) to into is_into.0 is_into.1;
        not_below = λ d below. apart (kept_dir d) (below_in_names limits next bytes k (sound there) h to below);
        fits = λ r at ne. absurd (some_none at (lacks there));
      }

      -- with what the call has made
      pub rename-ok : (new : Option Tree) (limits' : ServerLimits) → limits' ≡ limits →
          new ≡ Some (named (unnamed now from name) to to_name h) →
          Rename the_server from name to to_name (Ok tt) (record { tree = new; limits = limits'; faults = 0 })
      rename-ok new limits' same done = record {
        tree = held_tree held now (λ t. IsSomeAnd (target t from name) (λ h. new ≡ Some (renamed t from name to to_name
            h)) × OnlySoft (RenameErr from name to to_name t)) (λ there. (
              is_some_and (λ h. new ≡ Some (renamed now from name to to_name h)) (at_now there) (done
                  ∙ ap Some (sym (renamed_new now from name to to_name h (lacks there)))),
              rename_soft (can there),
            ));
        limits = same;
        faults = refl;
      }
