-- Calls that are performed, from what their procedures came to.
use Rattle.std.proofs.Common.{◌≡◌, ℕ, List, [], ◌++◌, Option, Some, None, true, map, refl, sym, ap, ◌∙◌, subst}
use Rattle.std.proofs.lemmas.List.{append-nil}
use Rattle.nfs2_types.specs.declared.Limits.{Limits}
use Rattle.nfs2_types.specs.declared.Cred.{Cred}
use Rattle.nfs2_types.specs.declared.Time.{Time}
use Rattle.nfs2_types.specs.declared.Stat.{Stat}
use Rattle.nfs2_types.specs.declared.NfsResult.{NfsResult}
use Rattle.nfs2_types.specs.declared.NfsResult.TheVariants as results
use Rattle.nfs2_types.specs.Call.{Call, call_fits}
use Rattle.nfs2_types.specs.Times.{is_time}
use Rattle.server_trait.specs.Tree.{Tree}
use Rattle.server_trait.specs.declared.bench.ConfTable.{ConfTable}
use Rattle.abs_model.specs.declared.entry.Entry.{Entry}
use Rattle.abs_model.specs.declared.entry.Change.{Change}
use Rattle.abs_model.specs.Array.{changed}
use Rattle.abs_model.specs.Machine.{first_of, refusals, changes, answer, array_after, told}
use Rattle.abs_model.specs.Valid.{Valid}
use Rattle.abs_model.proofs.Law.{stays_valid}
use Rattle.conf_map.specs.Notice.{NoticedAll}
use Rattle.conf_map.specs.Performs.{Performs}
use Rattle.conf_map.specs.Stands.{Stands, StandsValid}
use Rattle.conf_map.specs.Tallied.{Tallied}
use Rattle.conf_map.proofs.Answered.{refused, refused_array, refused_told, answered, answered_array, answered_told}

-- the call is not refused, puts these entries, and tells of these indexes
pub record Does (A : List Entry) (limits : Limits) (cred : Cred) (t : Time) (call : Call) (puts : List Change)
    (tells : List ℕ) : Type 0 where
  pub none : first_of (refusals A limits call) ≡ None
  pub puts_are : changes A cred t call ≡ puts
  pub tells_are : map (λ c. c.index) puts ≡ tells

-- then tree and table that stand for the changed array stand for the array after the call, which is valid again
pub stands_after : {A : List Entry} {limits : Limits} {cred : Cred} {t : Time} {call : Call} {puts : List Change}
    {tells : List ℕ} {s : Option Tree} {table : ConfTable} → Does A limits cred t call puts tells →
    is_time t ≡ true → call_fits call ≡ true → Valid limits A →
    Stands s table (changed puts A) → Tallied table (changed puts A) →
    StandsValid limits s table (array_after A limits cred t call)
stands_after {A} {limits} {cred} {t} {call} {puts} {tells} {s} {table} does moment fits valid stands tallied =
    let after : array_after A limits cred t call ≡ changed puts A =
    answered_array A limits cred t call does.none ∙ ap (λ cs. changed cs A) does.puts_are in
    record {
      valid = stays_valid limits A cred t call moment fits valid;
      stands = subst (Stands s table) (sym after) stands;
      tallied = subst (Tallied table) (sym after) tallied;
    }

module _ {M : Type 0} {told_of : M → List ℕ} {noticed : M → List Entry → ℕ → M → Type 0}
    {A : List Entry} {limits : Limits} {cred : Cred} {t : Time} {call : Call} where
  -- a refused call answers with its status, and changes and tells nothing
  pub refusal_performs : {stat : Stat} {s s' : Option Tree} {table : ConfTable} {saver : M} →
      first_of (refusals A limits call) ≡ Some stat → s' ≡ s → StandsValid limits s table A →
      Performs told_of noticed limits cred t call A (results.Refused stat) s' table saver saver
  refusal_performs {stat} {s} {s'} {table} {saver} first same k =
      let stays : array_after A limits cred t call ≡ A = refused_array A limits cred t call stat first in
      let silent : told A limits cred t call ≡ [] = refused_told A limits cred t call stat first in
      record {
        result_is = sym (refused A limits cred t call stat first);
        stands = subst (Stands s' table) (sym stays) (subst (λ s. Stands s table A) (sym same) k.stands);
        tallied = subst (Tallied table) (sym stays) k.tallied;
        told = sym (append-nil (told_of saver)) ∙ ap (λ l. told_of saver ++ l) (sym silent);
        notices = subst (λ l. NoticedAll noticed A saver l saver) (sym silent) refl;
      }

  -- a call that is not refused, whose changes are told one by one and then made
  pub changes_perform : {puts : List Change} {tells : List ℕ} {r : NfsResult} {s : Option Tree} {table : ConfTable}
      {old new : M} → Does A limits cred t call puts tells →
      r ≡ answer A (array_after A limits cred t call) limits call →
      Stands s table (changed puts A) → Tallied table (changed puts A) →
      told_of new ≡ told_of old ++ tells → NoticedAll noticed A old tells new →
      Performs told_of noticed limits cred t call A r s table old new
  changes_perform {puts} {tells} {r} {s} {table} {old} {new} does is stands tallied tells_of notices =
      let after : array_after A limits cred t call ≡ changed puts A =
      answered_array A limits cred t call does.none ∙ ap (λ cs. changed cs A) does.puts_are in
      let tells_are : told A limits cred t call ≡ tells =
      answered_told A limits cred t call does.none ∙ ap (map (λ (c : Change). c.index)) does.puts_are
      ∙ does.tells_are in
      record {
        result_is = is ∙ sym (answered A limits cred t call does.none);
        stands = subst (Stands s table) (sym after) stands;
        tallied = subst (Tallied table) (sym after) tallied;
        told = tells_of ∙ ap (λ l. told_of old ++ l) (sym tells_are);
        notices = subst (λ l. NoticedAll noticed A old l new) (sym tells_are) notices;
      }

  -- a call that is not refused and changes nothing
  pub reading_performs : {r : NfsResult} {s s' : Option Tree} {table : ConfTable} {saver : M} →
      first_of (refusals A limits call) ≡ None → changes A cred t call ≡ [] →
      r ≡ answer A (array_after A limits cred t call) limits call → s' ≡ s → StandsValid limits s table A →
      Performs told_of noticed limits cred t call A r s' table saver saver
  reading_performs {r} {s} {s'} {table} {saver} none nothing is same k =
      changes_perform (record { none = none; puts_are = nothing; tells_are = refl }) is
      (subst (λ s. Stands s table A) (sym same) k.stands) k.tallied (sym (append-nil (told_of saver))) refl

  -- the same call by another name
  pub performs_as : {called : Call} {r : NfsResult} {s : Option Tree} {table : ConfTable} {old new : M} →
      called ≡ call → Performs told_of noticed limits cred t call A r s table old new →
      Performs told_of noticed limits cred t called A r s table old new
  performs_as {called} {r} {s} {table} {old} {new} is =
      subst (λ call. Performs told_of noticed limits cred t call A r s table old new) (sym is)
