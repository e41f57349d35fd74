-- Names that can move.
use Rattle.std.specs.Prelude.{◌≡◌, ℕ, List, ◌++◌, Some, None, IsSomeAnd}
use Rattle.std.specs.FinMap.{get}
use Rattle.nfs2_types.specs.declared.fattr.Kind.{Kind}
use Rattle.nfs2_types.specs.declared.fattr.Kind.TheVariants.{Dir}
use Rattle.path_store.specs.Stored.{IsAtOrBelow}
use Rattle.path_server.specs.Kept.{Kept}

-- a name leads to a node of this kind, and can move to a new name of a directory, which does not lie below the
-- node
pub record CanMove (k : Kept) (from name to to_name h : List ℕ) (kind : Kind) : Type 0 where
  pub is_moved : IsSomeAnd (get k.nodes h) (λ m. m.kind ≡ kind)
  pub leads : get k.paths (from ++ name) ≡ Some h
  pub to_dir : IsSomeAnd (get k.nodes to) (λ q. q.kind ≡ Dir)
  pub new_name : get k.paths (to ++ to_name) ≡ None
  pub apart : kind ≡ Dir → IsAtOrBelow k.paths h to → ⊥
