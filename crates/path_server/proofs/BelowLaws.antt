-- A directory that is another or lies below it: in the tree, and by all names.
use Rattle.std.proofs.Common.{◌≡◌, ℕ, zero, suc, ◌++◌, List, length, Some, refl, sym, ap, ◌∙◌}
use Rattle.std.specs.FinMap.{get}
use Rattle.nfs2_types.specs.declared.fattr.Kind.{Kind}
use Rattle.nfs2_types.specs.declared.fattr.Kind.TheVariants.{File, Dir, Link}
use Rattle.path_store.specs.Stored.{names_of}
use Rattle.path_store.specs.Stored as stored
use Rattle.server_trait.specs.Tree.{Node, Names, names_in, target}
use Rattle.server_trait.specs.Step.{LeadsIn, IsAtOrBelow}
use Rattle.server_trait.specs.declared.server.ServerLimits.{ServerLimits}
use Rattle.server_trait.proofs.TreeLaws.{some_and, some_none, target_found}
use Rattle.server_trait.proofs.SoftLaws.{some_of}
use Rattle.path_server.specs.Bytes.{bytes_under, content_of}
use Rattle.path_server.specs.Kept.{Kept, the_tree}
use Rattle.path_server.specs.Sound.{IsSound}
use Rattle.path_server.proofs.NamedLaws.{IsDirNode, named_in}
use Rattle.path_server.proofs.NodeLaws.{kept-node_at}
use Rattle.path_server.proofs.Serials.{kept_fits}
use Rattle.path_server.proofs.SoundLaws.{target_is}

-- what has names is a directory
pub dir_of_names : (kind : Kind) (bytes : List ℕ) (names m : Names) →
    names_in (content_of kind bytes names) ≡ Some m → kind ≡ Dir
dir_of_names File bytes names m is = absurd (some_none is refl)
dir_of_names Dir bytes names m is = refl
dir_of_names Link bytes names m is = absurd (some_none is refl)

module _ (limits : ServerLimits) (next bytes : ℕ) (k : Kept) (sound : IsSound limits next bytes k) where
  -- a name leads on in the tree where it is kept so
  leads_in : (h name x : List ℕ) → length h ≡ 32 → get k.paths (h ++ name) ≡ Some x →
      target (the_tree k) h name ≡ Some x
  leads_in h name x fits at =
      let p = some_and (get k.nodes h) IsDirNode (named_in k.nodes k.paths sound.named h name x fits at).0 in
      target_is limits next bytes k sound h p.0 p.1 p.2 name ∙ at

  leads_on : (h name x : List ℕ) → target (the_tree k) h name ≡ Some x → get k.paths (h ++ name) ≡ Some x
  leads_on h name x is =
      let t = target_found (the_tree k) h name x is in
      let d = kept-node_at k h t.node t.is_node in
      let is_dir = dir_of_names d.0.kind (bytes_under k.contents h) (names_of k.paths h) t.names
      (ap (λ (n : Node). names_in n.content) (sym d.2) ∙ t.is_dir) in
      sym (target_is limits next bytes k sound h d.0 d.1 is_dir name) ∙ is

  led_fits : (h name x : List ℕ) → get k.paths (h ++ name) ≡ Some x → length x ≡ 32
  led_fits h name x at =
      let p = some_of (get k.nodes x) (sound.named (h ++ name) x at).1 in
      kept_fits k.nodes next sound.serials x p.0 p.1

  in_tree : (j : ℕ) (h q : List ℕ) → length h ≡ 32 → stored.LeadsIn k.paths j h q → LeadsIn (the_tree k) j h q
  in_tree zero h q fits e = e
  in_tree (suc j) h q fits w =
      (w.0, w.1, leads_in h w.0 w.1 fits w.2, in_tree j w.1 q (led_fits h w.0 w.1 w.2) w.3)

  in_names : (j : ℕ) (h q : List ℕ) → LeadsIn (the_tree k) j h q → stored.LeadsIn k.paths j h q
  in_names zero h q e = e
  in_names (suc j) h q w = (w.0, w.1, leads_on h w.0 w.1 w.2, in_names j w.1 q w.3)

  pub below_in_tree : (h q : List ℕ) → length h ≡ 32 → stored.IsAtOrBelow k.paths h q → IsAtOrBelow (the_tree k) h q
  below_in_tree h q fits w = (w.0, in_tree w.0 h q fits w.1)

  pub below_in_names : (h q : List ℕ) → IsAtOrBelow (the_tree k) h q → stored.IsAtOrBelow k.paths h q
  below_in_names h q w = (w.0, in_names w.0 h q w.1)
