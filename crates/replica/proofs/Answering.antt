-- What the answer of a call says of a replica and its array.
use Rattle.std.proofs.Common.{◌≡◌, ℕ, suc, ◌+◌, ◌<◌, List, length, sym, ◌∙◌, ap, subst, arith}
use Rattle.std.specs.Prelude.{Option}
use Rattle.std.specs.List.{All}
use Rattle.nfs2_types.specs.declared.Limits.{Limits}
use Rattle.nfs2_types.specs.declared.Time.{Time}
use Rattle.nfs2_types.specs.declared.Word.{Word}
use Rattle.abs_model.specs.declared.Entry.{Entry}
use Rattle.server_trait.specs.Tree.{Tree}
use Rattle.server_trait.specs.declared.ConfTable.{ConfTable}
use Rattle.conf_map.specs.Stands.{AreWithin, StandValid, StandsValid}
use Rattle.dispatch.specs.Answer.{answer}
use Rattle.dispatch.specs.Steps.{Answers}
use Rattle.cluster_model.specs.State.{lookup, or_else}
use Rattle.cow_checkpoint.specs.Store.{Store, notices}
use Rattle.cow_checkpoint.proofs.Texts.{in_turn}
use Rattle.replica.specs.declared.running.Replica.{Replica}
use Rattle.replica.specs.declared.running.Cast.{Cast}
use Rattle.replica.specs.Replicas.{IsOver, IsRootWord, told_of, checked}
use Rattle.replica.specs.Passed.{Passed}
use Rattle.replica.proofs.Told.{answer_within}
use Rattle.replica.proofs.Overs.{over_told, taken-all_noticed}

pub stand_valid : (limits : Limits) (tree : Option Tree) (table : ConfTable) (A : List Entry) → AreWithin limits →
    StandsValid limits tree table A → StandValid tree table A
stand_valid limits tree table A within h = record {
  limits = limits;
  within = within;
  valid = h.valid;
  stands = h.stands;
  tallied = h.tallied;
}

module _ (limits : Limits) (within : AreWithin limits) (time : Time) (bytes : List ℕ) (tree mid : Option Tree)
    (table table' : ConfTable) (old : Replica) (store : Store) (w : Word)
    (h : (A : List Entry) → StandsValid limits tree table A → Answers (λ (s : Store). s.told)
    (λ (s : Store) B i t. t ≡ notices B i s) limits A (answer A limits time bytes) w mid table' old.store store)
    (place : ℕ) (next : place ≡ old.place + 1) where
  abbrev moved : Replica
  moved = record { place = place; tree = old.tree; store = store; lies = old.lies; harmed = old.harmed }

  moved_is : (A : List Entry) → StandsValid limits tree table A →
      moved ≡ told_of A (answer A limits time bytes).told old
  moved_is A sv = (
      let e : old.place + 1 ≡ suc old.place = omega arith in
      let s = in_turn A (answer A limits time bytes).told old.store store (h A sv).notices in
      λ i. record { place = (next ∙ e) i; tree = old.tree; store = s i; lies = old.lies; harmed = old.harmed })

  after : (A : List Entry) → StandsValid limits tree table A →
      StandsValid limits mid table' (answer A limits time bytes).array
  after A sv = (let a = h A sv in record { valid = a.valid; stands = a.stands; tallied = a.tallied })

  pub mid_stands : ((A : List Entry) × StandsValid limits tree table A) → (A : List Entry) × StandValid mid table' A
  mid_stands has = (
    (answer has.0 limits time bytes).array,
    stand_valid limits mid table' (answer has.0 limits time bytes).array within (after has.0 has.1),
  )

  pub mid_rows : ((A : List Entry) × StandsValid limits tree table A) → length table'.rows.items ≡ limits.n
  mid_rows has = (let a = after has.0 has.1 in a.stands.size ∙ a.valid.size)

  pub mid_over : ((A : List Entry) × StandsValid limits tree table A) → IsOver limits.n old → IsOver limits.n moved
  mid_over has over =
      let told = (answer has.0 limits time bytes).told in
      let low : All (λ i. i < limits.n) told = subst (λ n. All (λ i. i < n) told) has.1.valid.size
      (answer_within has.0 limits time has.1.valid bytes) in
      subst (IsOver limits.n) (sym (moved_is has.0 has.1)) (over_told limits.n has.0 told old over low)

  pub mid_later : ((A : List Entry) × StandsValid limits tree table A) → IsOver limits.n old → store.taken < place
  mid_later has over =
      let s = in_turn has.0 (answer has.0 limits time bytes).told old.store store (h has.0 has.1).notices in
      let t : store.taken ≡ old.store.taken =
      ap (λ (x : Store). x.taken) s ∙ taken-all_noticed has.0 (answer has.0 limits time bytes).told old.store in
      let u = over.taken in
      omega arith

  -- with what was found at the checkpoint
  pub passed_is : (tree' : Option Tree) → tree' ≡ mid → (new : Replica) (cast : Cast) →
      ((A : List Entry) → StandValid mid table' A → new ≡ checked limits A moved) → cast.place ≡ new.place →
      cast.word ≡ or_else (lookup new.place new.lies.words) w → IsRootWord limits new cast.root →
      Passed limits time bytes tree tree' table table' old new cast
  passed_is tree' same new cast taken at word root = record {
    step = λ A sv. (
        let a = answer A limits time bytes in
        let st = after A sv in (
          subst (λ t. StandsValid limits t table' a.array) (sym same) st,
          taken a.array (stand_valid limits mid table' a.array within st)
              ∙ ap (checked limits a.array) (moved_is A sv),
          record {
            place = at;
            word = word ∙ ap (or_else (lookup new.place new.lies.words)) (h A sv).word_is;
            root = root;
          },
        ));
  }
