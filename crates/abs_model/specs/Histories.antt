-- What lasts from call to call: generations, and handles that went stale.
use Rattle.std.specs.Prelude.{◌<◌, ◌≤◌, ◌≡◌, List, [], ◌∷◌, true, false}
use Rattle.nfs2_types.specs.declared.Limits.{Limits}
use Rattle.nfs2_types.specs.declared.Time.{Time}
use Rattle.nfs2_types.specs.declared.Cred.{Cred}
use Rattle.nfs2_types.specs.Call.{Call}
use Rattle.abs_model.specs.declared.entry.Entry.{Entry}
use Rattle.abs_model.specs.Objects.{is_null}
use Rattle.abs_model.specs.Machine.{array_after}

-- An entry goes on: its generation never falls, and rises where an object takes a null entry.
pub record GoesOn (old new : Entry) : Type 0 where
  pub never_falls : old.generation ≤ new.generation
  pub rises : is_null old ≡ true → is_null new ≡ false → old.generation < new.generation

-- a call, its caller, and its time
pub record Request : Type 0 where
  pub cred : Cred
  pub time : Time
  pub call : Call

-- the array after requests, one after the other
abbrev pub after_all : Limits → List Request → List Entry → List Entry
after_all limits [] A = A
after_all limits (r ∷ rs) A = after_all limits rs (array_after A limits r.cred r.time r.call)
