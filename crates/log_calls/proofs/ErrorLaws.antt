-- Errors of parts of a call that are errors of the call.
use Rattle.std.proofs.Common.{inl, inr, ℕ, List}
use Rattle.server_trait.specs.Tree.{Tree}
use Rattle.server_trait.specs.Step.{IsBroken}
use Rattle.server_trait.specs.Calls.{DirErr, LinkErr, LookupErr, MakeErr, RemoveErr, RenameErr, RmdirErr}
use Rattle.server_trait.specs.declared.server.SrvErr.{SrvErr}
use Rattle.server_trait.specs.declared.server.SrvErr.TheVariants.{Stale, NotDir, WrongKind}
use Rattle.server_trait.specs.declared.server.ServerLimits.{ServerLimits}
use Rattle.log_calls.specs.Answers.{LeafErr}

pub dir_whole : (dir : List ℕ) (t : Tree) (e : SrvErr) → DirErr dir t e → IsBroken e → ⊥
dir_whole dir t Stale a b = b
dir_whole dir t NotDir a b = b
dir_whole dir t e a b = absurd a

pub leaf_whole : (h : List ℕ) (t : Tree) (e : SrvErr) → LeafErr h t e → IsBroken e → ⊥
leaf_whole h t Stale a b = b
leaf_whole h t WrongKind a b = b
leaf_whole h t e a b = absurd a

pub dir_lookup : (dir name : List ℕ) (t : Tree) (e : SrvErr) → DirErr dir t e → LookupErr dir name t e
dir_lookup dir name t Stale a = a
dir_lookup dir name t NotDir a = a
dir_lookup dir name t e a = absurd a

pub dir_make : (limits : ServerLimits) (dir name : List ℕ) (bytes : ℕ) (t : Tree) (e : SrvErr) → DirErr dir t e
    → MakeErr limits dir name bytes t e
dir_make limits dir name bytes t Stale a = a
dir_make limits dir name bytes t NotDir a = a
dir_make limits dir name bytes t e a = absurd a

pub dir_remove : (dir name : List ℕ) (t : Tree) (e : SrvErr) → DirErr dir t e → RemoveErr dir name t e
dir_remove dir name t Stale a = a
dir_remove dir name t NotDir a = a
dir_remove dir name t e a = absurd a

pub dir_rmdir : (dir name : List ℕ) (t : Tree) (e : SrvErr) → DirErr dir t e → RmdirErr dir name t e
dir_rmdir dir name t Stale a = a
dir_rmdir dir name t NotDir a = inl a
dir_rmdir dir name t e a = absurd a

pub dir_link : (limits : ServerLimits) (h dir name : List ℕ) (t : Tree) (e : SrvErr) → DirErr dir t e
    → LinkErr limits h dir name t e
dir_link limits h dir name t Stale a = inr a
dir_link limits h dir name t NotDir a = a
dir_link limits h dir name t e a = absurd a

pub leaf_link : (limits : ServerLimits) (h dir name : List ℕ) (t : Tree) (e : SrvErr) → LeafErr h t e
    → LinkErr limits h dir name t e
leaf_link limits h dir name t Stale a = inl a
leaf_link limits h dir name t WrongKind a = a
leaf_link limits h dir name t e a = absurd a

pub from_rename : (from name to to_name : List ℕ) (t : Tree) (e : SrvErr) → DirErr from t e
    → RenameErr from name to to_name t e
from_rename from name to to_name t Stale a = inl a
from_rename from name to to_name t NotDir a = inl (inl a)
from_rename from name to to_name t e a = absurd a

pub to_rename : (from name to to_name : List ℕ) (t : Tree) (e : SrvErr) → DirErr to t e
    → RenameErr from name to to_name t e
to_rename from name to to_name t Stale a = inr a
to_rename from name to to_name t NotDir a = inl (inr a)
to_rename from name to to_name t e a = absurd a
