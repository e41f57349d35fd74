-- What is answered to the calls that have no result.
use Rattle.std.proofs.Common.{◌≡◌, true, false, List, Option, Result, Ok, Err, refl, sym, ap, ◌∙◌}
use Rattle.std.specs.Prelude.{IfOk}
use Rattle.nfs2_types.specs.declared.Limits.{Limits}
use Rattle.nfs2_types.specs.declared.Cred.{Cred}
use Rattle.nfs2_types.specs.declared.Time.{Time}
use Rattle.nfs2_types.specs.declared.NfsResult.{NfsResult}
use Rattle.nfs2_types.specs.declared.NfsResult.TheVariants.{Nothing}
use Rattle.nfs2_types.specs.declared.args.Args.{Args}
use Rattle.nfs2_types.specs.Call.{Call, null, root, write_cache, call_of}
use Rattle.abs_model.specs.declared.entry.Entry.{Entry}
use Rattle.abs_model.specs.Machine.{result_of}
use Rattle.server_trait.specs.Tree.{Tree}
use Rattle.server_trait.specs.declared.bench.ConfTable.{ConfTable}
use Rattle.server_trait.specs.declared.bench.WrapErr.{WrapErr}
use Rattle.conf_map.specs.Stands.{AreWithin, StandValid, StandsValid}
use Rattle.conf_map.proofs.Answered.{answered}
use Rattle.conf_map.proofs.Shows.{stand_valid}
use Rattle.wrap_read.specs.Reads.{is_read_call}

-- what is answered on every valid array is answered on those within these limits
pub limited : (limits : Limits) (s : Option Tree) (table : ConfTable) (args : Args) (call : Call)
    (r : Result NfsResult WrapErr) → AreWithin limits → call_of args ≡ call →
    IfOk r (λ x. (A : List Entry) (limits : Limits) (cred : Cred) (t : Time) → StandValid s table A →
    x ≡ result_of A limits cred t call) →
    IfOk r (λ x. (A : List Entry) (cred : Cred) (t : Time) → StandsValid limits s table A →
    x ≡ result_of A limits cred t (call_of args))
limited limits s table args call (Ok x) within is h =
    λ A cred t sv. h A limits cred t (stand_valid limits s table A within sv) ∙ ap (result_of A limits cred t) (sym is)
limited limits s table args call (Err e) within is h = tt

-- a call that reads, and is none of the others, has no result
module _ (A : List Entry) (limits : Limits) (cred : Cred) (t : Time) where
  pub nothing_answer : (a : Args) → is_read_call (call_of a) ≡ true → ((node : _) → a ≡ Args.GetAttr node → ⊥) →
      ((dir name : _) → a ≡ Args.Lookup dir name → ⊥) →
      ((node : _) → a ≡ Args.ReadLink node → ⊥) → ((file offset count : _) → a ≡ Args.Read file offset count → ⊥) →
      ((dir cookie count : _) → a ≡ Args.ReadDir dir cookie count → ⊥) → ((node : _) → a ≡ Args.StatFs node → ⊥) →
      Nothing ≡ result_of A limits cred t (call_of a)
  nothing_answer Args.Null reads attr look link file list space = sym (answered A limits cred t null refl)
  nothing_answer Args.Root reads attr look link file list space = sym (answered A limits cred t root refl)
  nothing_answer Args.WriteCache reads attr look link file list space = sym (answered A limits cred t write_cache refl)
  nothing_answer (Args.GetAttr node) reads attr look link file list space = absurd (attr node refl)
  nothing_answer (Args.Lookup dir name) reads attr look link file list space = absurd (look dir name refl)
  nothing_answer (Args.ReadLink node) reads attr look link file list space = absurd (link node refl)
  nothing_answer (Args.Read from offset count) reads attr look link file list space = absurd
      (file from offset count refl)
  nothing_answer (Args.ReadDir dir cookie count) reads attr look link file list space = absurd
      (list dir cookie count refl)
  nothing_answer (Args.StatFs node) reads attr look link file list space = absurd (space node refl)
  nothing_answer _ reads attr look link file list space = absurd (let bad : false ≡ true = reads in cc)
