-- A call of MOUNT as plain lists: what its arguments say, wherever their bytes lie (RFC 1094, A.5).
use Rattle.std.specs.Prelude.{ℕ, List}
use Rattle.mount1_proto.specs.declared.args.MountArgs.{MountArgs}

-- a call by its procedure
pub data MountCall : Type 0 where
  null : MountCall
  mnt : (path : List ℕ) → MountCall
  dump : MountCall
  umnt : (path : List ℕ) → MountCall
  umnt_all : MountCall
  export : MountCall

-- what the arguments of the program say
abbrev pub call_of : MountArgs → MountCall
call_of MountArgs.Null = null
call_of (MountArgs.Mnt path) = mnt path.now
call_of MountArgs.Dump = dump
call_of (MountArgs.Umnt path) = umnt path.now
call_of MountArgs.UmntAll = umnt_all
call_of MountArgs.Export = export

-- the number of the procedure
abbrev pub number_of : MountCall → ℕ
number_of null = 0
number_of (mnt path) = 1
number_of dump = 2
number_of (umnt path) = 3
number_of umnt_all = 4
number_of export = 5
