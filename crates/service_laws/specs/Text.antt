-- What a write past the procedures does, and the texts of entries and nodes with a digest.
use Rattle.std.specs.Prelude.{ℕ, ◌+◌, List, [], ◌∷◌, length, Option, Some, None, if◌then◌else◌, ◌&&◌, nat_le, set}
use Rattle.nfs2_types.specs.declared.Limits.{Limits}
use Rattle.nfs2_types.specs.Bytes.{overwritten}
use Rattle.abs_model.specs.declared.Object.TheVariants.{File}
use Rattle.abs_model.specs.declared.Entry.{Entry}
use Rattle.abs_model.specs.Objects.{is_file, attr_of, bytes_of}
use Rattle.abs_model.specs.Array.{entry_at}
use Rattle.abs_text.specs.Text.{entry_text, node_text, node_parts}
use Rattle.abs_text.specs.Wordy.{IsGood}
use Rattle.service_laws.specs.Real.{Spelling}

-- these bytes are put into a file, where they lie in it
abbrev pub scratched_in : List Entry → ℕ → ℕ → List ℕ → Option (List Entry)
scratched_in A i offset bytes =
    if is_file (entry_at A i) && nat_le (offset + length bytes) (length (bytes_of (entry_at A i)))
    then Some (set A i (record {
      generation = (entry_at A i).generation;
      object = File (attr_of (entry_at A i)) (overwritten offset bytes (bytes_of (entry_at A i)));
    }))
    else None

-- the same of some bytes; none are put nowhere
abbrev pub scratched_at : List Entry → ℕ → ℕ → List ℕ → Option (List Entry)
scratched_at A i offset [] = None
scratched_at A i offset (b ∷ bytes) = scratched_in A i offset (b ∷ bytes)

-- with a digest
abbrev pub spelling : Limits → ℕ → (List ℕ → List ℕ) → Spelling
spelling limits levels digest = record {
  text = entry_text;
  digest = digest;
  levels = levels;
  node = node_text;
  parts = node_parts;
  good = IsGood limits;
  scratched = scratched_at;
}
