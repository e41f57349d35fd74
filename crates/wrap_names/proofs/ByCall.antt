-- A call that is performed is that of its arguments.
use Rattle.std.proofs.Common.{◌≡◌, ℕ, List, Option, subst}
use Rattle.nfs2_types.specs.declared.Limits.{Limits}
use Rattle.nfs2_types.specs.declared.Cred.{Cred}
use Rattle.nfs2_types.specs.declared.Time.{Time}
use Rattle.nfs2_types.specs.declared.NfsResult.{NfsResult}
use Rattle.nfs2_types.specs.Call.{Call}
use Rattle.server_trait.specs.Tree.{Tree}
use Rattle.server_trait.specs.declared.bench.ConfTable.{ConfTable}
use Rattle.abs_model.specs.declared.entry.Entry.{Entry}
use Rattle.conf_map.specs.Performs.{Performs}

pub by_call : {M : Type 0} {told_of : M → List ℕ} {noticed : M → List Entry → ℕ → M → Type 0} {limits : Limits}
    {cred : Cred} {t : Time} {made call : Call} {A : List Entry} {r : NfsResult} {s : Option Tree} {table : ConfTable}
    {old new : M} → made ≡ call → Performs told_of noticed limits cred t made A r s table old new →
    Performs told_of noticed limits cred t call A r s table old new
by_call {told_of = told_of} {noticed = noticed} {limits = limits} {cred = cred} {t = t} {A = A} {r = r} {s = s}
    {table = table} {old = old} {new = new} same =
    subst (λ call. Performs told_of noticed limits cred t call A r s table old new) same
