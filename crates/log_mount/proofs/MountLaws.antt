-- What a medium that holds a tree says of its live records.
use Rattle.std.proofs.Common.{◌≡◌, ℕ, List, Option, Some, None, IsSome, refl, sym, subst}
use Rattle.std.specs.Prelude.{option_map}
use Rattle.nfs2_types.specs.declared.fattr.Kind.TheVariants.{Dir}
use Rattle.server_trait.specs.Tree.{node_at}
use Rattle.server_trait.specs.declared.server.ServerLimits.{ServerLimits}
use Rattle.server_trait.proofs.SoftLaws.{some_of}
use Rattle.log_segments.specs.Newest.{find}
use Rattle.log_segments.specs.Segments.{records}
use Rattle.log_records.specs.Layout.{node_key, value_of, node_in}
use Rattle.log_tree.specs.Held.{Records, handle_of, root_id, node_of, tree_in, held}
use Rattle.log_tree.proofs.TreeLaws.{node_at-id}
use Rattle.log_held.specs.Sound.{IsSound}
use Rattle.log_held.proofs.HeldLaws.{held_sound, sound_held}
use Rattle.log_held.proofs.Lists.{live_once}
use Rattle.log_changes.specs.declared.tree.LogTree.{LogTree}
use Rattle.log_changes.specs.Kept.{IsKept, log_medium, log_live, log_tree}

pub sound_of : (limits : ServerLimits) (all : Records) → IsSome (tree_in limits all) → IsSound limits all
sound_of limits all some = let h = some_of (tree_in limits all) some in (held_sound limits all h.0 h.1).1

module _ {M : Type 0} (content : M → ℕ → List ℕ) (size : M → ℕ) (t : LogTree M) (k : IsKept content size t) where
  -- the medium of a tree that goes with its memory holds it
  pub kept_held : IsSome (held (content (log_medium t)) (size (log_medium t)) t.limits)
  kept_held = subst (λ o. IsSome o) (sym (sound_held t.limits (log_live content size t)
      (live_once (records (content (log_medium t)) (size (log_medium t)))) k.sound)) refl

  -- it has a root
  pub root_there : IsSome (node_at (log_tree content size t) (handle_of root_id))
  root_there =
      let live = log_live content size t in
      subst (λ o. IsSome o) (sym (node_at-id live root_id refl))
      (kind_there (find (node_key root_id) live) k.sound.tied.root)
    where
      kind_there : (o : Option (List ℕ)) → option_map (λ r. (node_in (value_of r)).kind) o ≡ Some Dir
          → IsSome (option_map (node_of (log_live content size t)) o)
      kind_there None e = absurd (let bad : None ≡ Some Dir = e in cc)
      kind_there (Some r) e = refl
