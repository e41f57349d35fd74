-- How the examples are written: a service of sixteen entries; the call in place p comes at second p.
use Rattle.std.proofs.Common.{◌≡◌, ℕ, ◌+◌, List, [], ◌∷◌, None}
use Rattle.nfs2_types.specs.declared.Limits.{Limits}
use Rattle.nfs2_types.specs.declared.Time.{Time}
use Rattle.nfs2_types.specs.declared.Cred.{Cred}
use Rattle.nfs2_types.specs.declared.Fattr.{Fattr}
use Rattle.nfs2_types.specs.declared.Sattr.{Sattr}
use Rattle.nfs2_types.specs.declared.SetTime.TheVariants.{Keep}
use Rattle.nfs2_types.specs.declared.ListEntry.{ListEntry}
use Rattle.nfs2_types.specs.declared.NfsResult.{NfsResult}
use Rattle.nfs2_types.specs.declared.NfsResult.TheVariants as Result
use Rattle.nfs2_types.specs.Handle.{handle_bytes}
use Rattle.nfs2_types.specs.Call.{Call}
use Rattle.abs_model.specs.declared.entry.Entry.{Entry}
use Rattle.abs_model.specs.Array.{empty_array}
use Rattle.abs_model.specs.Machine.{array_after, result_of, told}

-- ARGUMENTS

-- a whole second, and one with microseconds
abbrev pub moment : ℕ → Time
moment s = record { secs = s; micros = 0 }

abbrev pub moment_in : ℕ → ℕ → Time
moment_in s micros = record { secs = s; micros = micros }

-- a caller, and the one without a name
abbrev pub caller : ℕ → ℕ → Cred
caller uid gid = record { uid = uid; gid = gid; gids = [] }

abbrev pub nobody : Cred
nobody = caller 65534 65534

abbrev pub nothing_set : Sattr
nothing_set = record { mode = None; uid = None; gid = None; size = None; atime = Keep; mtime = Keep }

-- the handle of an index and a generation; the root's
abbrev pub handle : ℕ → ℕ → List ℕ
handle i g = handle_bytes (record { index = i; generation = g })

abbrev pub root : List ℕ
root = handle 0 1

-- limits with this many bytes
abbrev pub bytes_in_use : ℕ → Limits
bytes_in_use t = record { n = 16; k = 4; t = t; f = 0 }

-- RESULTS

-- attributes by the words in which objects differ (RFC 1094, 2.3.5)
abbrev pub attr : ℕ → ℕ → ℕ → ℕ → ℕ → ℕ → ℕ → ℕ → Time → Time → Time → Fattr
attr ftype mode nlink uid gid size blocks fileid atime mtime ctime = record {
  ftype = ftype;
  mode = mode;
  nlink = nlink;
  uid = uid;
  gid = gid;
  size = size;
  blocksize = 4096;
  rdev = 0;
  blocks = blocks;
  fsid = 1;
  fileid = fileid;
  atime_secs = atime.secs;
  atime_micros = atime.micros;
  mtime_secs = mtime.secs;
  mtime_micros = mtime.micros;
  ctime_secs = ctime.secs;
  ctime_micros = ctime.micros;
}

-- a handle with its attributes
abbrev pub node : ℕ → ℕ → Fattr → NfsResult
node i g words = Result.Node (handle i g) words

-- a status that is not OK
abbrev pub refused : ℕ → NfsResult
refused s = Result.Refused (record { 0 = s })

-- an entry of a list
abbrev pub listed_as : ℕ → List ℕ → ℕ → ListEntry
listed_as fileid name cookie = record { fileid = fileid; name = name; cookie = cookie }

-- DIALOGUES

-- a call, what it answers, and the indexes that it tells
pub record Step : Type 0 where
  pub call : Call
  pub result : NfsResult
  pub told : List ℕ

infix 1 ◌gives◌tells◌
abbrev pub ◌gives◌tells◌ : Call → NfsResult → List ℕ → Step
c gives r tells is = record { call = c; result = r; told = is }

-- what a service does in each step
abbrev pub played : Limits → Cred → ℕ → List Step → List Entry → List Step
played limits cred s [] A = []
played limits cred s (step ∷ steps) A =
    record {
      call = step.call;
      result = result_of A limits cred (moment s) step.call;
      told = told A limits cred (moment s) step.call;
    } ∷ played limits cred (s + 1) steps (array_after A limits cred (moment s) step.call)

-- that is what stands there: in a service of so many bytes, of 65,536 bytes, and to this caller
abbrev pub IsAnsweredIn : ℕ → List Step → Type 0
IsAnsweredIn t steps = played (bytes_in_use t) nobody 1 steps (empty_array 16) ≡ steps

abbrev pub IsAnswered : List Step → Type 0
IsAnswered steps = IsAnsweredIn 65536 steps

abbrev pub IsAnsweredTo : Cred → List Step → Type 0
IsAnsweredTo cred steps = played (bytes_in_use 65536) cred 1 steps (empty_array 16) ≡ steps
