-- From the notices of a move to its end.
use Rattle.std.proofs.Common.{◌≡◌, ℕ, List, Option, sym, subst}
use Rattle.nfs2_types.specs.declared.Time.{Time}
use Rattle.server_trait.specs.Tree.{Tree, Server}
use Rattle.server_trait.specs.declared.bench.ConfEntry.{ConfEntry}
use Rattle.server_trait.specs.declared.bench.ConfTable.{ConfTable}
use Rattle.abs_model.specs.declared.entry.Entry.{Entry}
use Rattle.abs_model.specs.Array.{changed}
use Rattle.conf_map.specs.Stands.{Stands, StandValid}
use Rattle.conf_map.specs.Tallied.{Tallied}
use Rattle.wrap_names.specs.declared.ends.Ends.{Ends}
use Rattle.wrap_names.specs.Renames.{AreLed, AreLive, CanReplace, cleared, moves}
use Rattle.node_changes.specs.Moves.{name_moves}
use Rattle.wrap_names.proofs.MoveTests.{live_if}
use Rattle.wrap_names.proofs.Ways.{joined}

-- the rows of a move are live
pub are_live : (A : List Entry) (rows : List ConfEntry) (name to_name : List ℕ) (m : Ends) →
    AreLed A rows name to_name m → AreLive rows m
are_live A rows name to_name m c = record {
  from_live = c.from_live;
  to_live = c.to_live;
  at_live = c.led.live;
  over_live = live_if A rows m.to.index to_name m.over c.found;
}

module _ (s : Server) (table : ConfTable) (A : List Entry) (name to_name : List ℕ) (m : Ends)
    (c : CanReplace s table A name to_name m) where
  pub stand_of : StandValid s.tree table A
  stand_of = record { limits = c.limits; within = c.within; valid = c.valid; stands = c.stands; tallied = c.tallied }

  -- where nothing has changed
  pub still_can : (s' : Server) → s'.tree ≡ s.tree → CanReplace s' table A name to_name m
  still_can s' same = record {
    limits = c.limits;
    within = c.within;
    valid = c.valid;
    stands = subst (λ s. Stands s table A) (sym same) c.stands;
    tallied = c.tallied;
    led = c.led;
    replaced = c.replaced;
    not_below = c.not_below;
  }

  -- what has gone and what has moved are the one move
  pub move_done : (t : Time) (s' : Option Tree) (table' : ConfTable) →
      Stands s' table' (changed
      (name_moves (cleared A m.to.index to_name m.over t) m.from.index name m.to.index to_name m.at.index t)
      (cleared A m.to.index to_name m.over t)) →
      Stands s' table' (changed (moves A name to_name m t) A)
  move_done t s' table' = subst (Stands s' table') (joined s table A name to_name m c t)

  pub move_tallied : (t : Time) (table' : ConfTable) →
      Tallied table' (changed
      (name_moves (cleared A m.to.index to_name m.over t) m.from.index name m.to.index to_name m.at.index t)
      (cleared A m.to.index to_name m.over t)) →
      Tallied table' (changed (moves A name to_name m t) A)
  move_tallied t table' = subst (Tallied table') (joined s table A name to_name m c t)
