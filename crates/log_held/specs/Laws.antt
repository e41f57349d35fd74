-- That a medium holds a tree exactly where its live records are sound.
use Rattle.std.specs.Prelude.{◌≡◌, Some}
use Rattle.server_trait.specs.Tree.{Tree}
use Rattle.server_trait.specs.declared.server.ServerLimits.{ServerLimits}
use Rattle.log_segments.specs.Newest.{live}
use Rattle.log_tree.specs.Held.{Records, tree_of, tree_in}
use Rattle.log_held.specs.Sound.{AreOnce, IsSound}

-- a tree that is held is the one of the live records, and they are sound
abbrev pub HeldIsSound : Type 0
HeldIsSound = (limits : ServerLimits) (records : Records) (t : Tree) → tree_in limits records ≡ Some t →
    (t ≡ tree_of records) × IsSound limits records

-- sound records of which no two have one key make their tree
abbrev pub SoundIsHeld : Type 0
SoundIsHeld = (limits : ServerLimits) (records : Records) → AreOnce records → IsSound limits records →
    tree_in limits records ≡ Some (tree_of records)

-- of each key one record is live
abbrev pub LiveAreOnce : Type 0
LiveAreOnce = (records : Records) → AreOnce (live records)
