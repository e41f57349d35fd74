-- Valid arrays whose numbers a text can spell.
use Rattle.std.specs.Prelude.{ℕ, ◌^◌, ◌<◌, List}
use Rattle.nfs2_types.specs.declared.Limits.{Limits}
use Rattle.abs_model.specs.declared.Entry.{Entry}
use Rattle.abs_model.specs.Objects.{attr_of}
use Rattle.abs_model.specs.Array.{entry_at}
use Rattle.abs_model.specs.Valid.{Valid}

-- which numbers Valid leaves open, and a text must spell
pub record IsWordy (e : Entry) : Type 0 where
  pub generation : e.generation < 2 ^ 32
  pub uid : (attr_of e).uid < 2 ^ 32
  pub gid : (attr_of e).gid < 2 ^ 32
  pub atime : (attr_of e).atime.secs < 2 ^ 32
  pub mtime : (attr_of e).mtime.secs < 2 ^ 32
  pub ctime : (attr_of e).ctime.secs < 2 ^ 32

-- a valid array whose numbers are words
pub record IsGood (limits : Limits) (A : List Entry) : Type 0 where
  pub valid : Valid limits A
  pub wordy : (i : ℕ) → IsWordy (entry_at A i)
