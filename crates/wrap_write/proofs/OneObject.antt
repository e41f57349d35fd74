-- A call that changes one object, from what it found to what it performs.
use Rattle.std.proofs.Common.{◌≡◌, ℕ, List, [], ◌∷◌, ◌++◌, true, set, Option, None, refl, sym, ap, ◌∙◌, subst}
use Rattle.nfs2_types.specs.declared.Limits.{Limits}
use Rattle.nfs2_types.specs.declared.Cred.{Cred}
use Rattle.nfs2_types.specs.declared.Time.{Time}
use Rattle.nfs2_types.specs.declared.Fattr.{Fattr}
use Rattle.nfs2_types.specs.declared.NfsResult.TheVariants as results
use Rattle.nfs2_types.specs.Call.{Call, call_fits}
use Rattle.nfs2_types.specs.Times.{is_time}
use Rattle.server_trait.specs.Tree.{Tree}
use Rattle.server_trait.specs.declared.bench.ConfTable.{ConfTable}
use Rattle.abs_model.specs.declared.entry.Entry.{Entry}
use Rattle.abs_model.specs.Array.{at, fattr}
use Rattle.abs_model.specs.Machine.{first_of, refusals, changes, answer, to_be, array_after}
use Rattle.abs_model.proofs.Named.{at-live}
use Rattle.conf_map.specs.Performs.{Performs}
use Rattle.conf_map.specs.Stands.{StandsValid, StandValid, AreWithin, Stands}
use Rattle.conf_map.specs.Tallied.{Tallied}
use Rattle.conf_map.proofs.Performed.{Does, changes_perform, stands_after}
use Rattle.conf_map.proofs.Shows.{stand_valid}
use Rattle.wrap_write.specs.declared.target.Target.{Target}
use Rattle.wrap_write.specs.Targets.{IsTarget}

-- some caller
pub nobody : Cred
nobody = record { uid = 0; gid = 0; gids = [] }

module _ (limits : Limits) (within : AreWithin limits) (s : Option Tree) (table : ConfTable) (A : List Entry)
    (k : StandsValid limits s table A) (cred : Cred) (t : Time) (moment : is_time t ≡ true)
    (call : Call) (fits : call_fits call ≡ true) (node : List ℕ) (o : Target)
    (found : (first_of (refusals A limits call) ≡ None) × IsTarget A table.rows.items node o)
    (entry : ℕ → Entry) (one : changes A cred t call ≡ to_be (at A node) (entry (at A node)) ∷ []) where
  abbrev i : ℕ
  i = o.at.index

  at_index : at A node ≡ i
  at_index = at-live A node i found.1.is_index

  -- it puts its entry, and tells of it
  does : Does A limits cred t call (to_be i (entry i) ∷ []) (i ∷ [])
  does = record {
    none = found.0;
    puts_are = one ∙ ap (λ i. to_be i (entry i) ∷ []) at_index;
    tells_are = refl;
  }

  module _ (s' : Option Tree) (table' : ConfTable) (stands : Stands s' table' (set A i (entry i)))
      (tallied : Tallied table' (set A i (entry i))) where
    -- server and table stand for a valid array again
    pub one_again : StandValid s' table' (array_after A limits cred t call)
    one_again = stand_valid limits s' table' (array_after A limits cred t call) within
        (stands_after does moment fits k.valid stands tallied)

    -- and the call is performed, where it answers with the object's attributes
    pub one_performs : {M : Type 0} {told_of : M → List ℕ} {noticed : M → List Entry → ℕ → M → Type 0} {old new : M}
        {f : Fattr} {before after : Option Tree} →
        ((B : List Entry) → answer A B limits call ≡ results.Attr (fattr B (at A node))) →
        ((B : List Entry) → StandValid s' table' B → f ≡ fattr B i) → after ≡ s' →
        told_of new ≡ told_of old ++ i ∷ [] →
        ((B : List Entry) → StandValid before table B → noticed old B i new) → before ≡ s →
        Performs told_of noticed limits cred t call A (results.Attr f) after table' old new
    one_performs {M} {told_of} {noticed} {old} {new} {f} {before} {after} shows shown same tells note still =
        let B = array_after A limits cred t call in
        changes_perform does
        (ap results.Attr (shown B one_again ∙ ap (fattr B) (sym at_index)) ∙ sym (shows B))
        (subst (λ s. Stands s table' (set A i (entry i))) (sym same) stands) tallied tells
        (new, note A (subst (λ s. StandValid s table A) (sym still) (stand_valid limits s table A within k)), refl)
