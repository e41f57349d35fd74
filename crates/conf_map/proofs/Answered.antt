-- The machine's answers: by its first refusal, or where there is none.
use Rattle.std.proofs.Common.{◌≡◌, List, [], ◌∷◌, ◌++◌, true, false, Option, Some, None, map, refl, ap}
use Rattle.std.specs.Prelude.{if◌then◌else◌, is_some}
use Rattle.nfs2_types.specs.declared.Limits.{Limits}
use Rattle.nfs2_types.specs.declared.Cred.{Cred}
use Rattle.nfs2_types.specs.declared.Time.{Time}
use Rattle.nfs2_types.specs.declared.Stat.{Stat}
use Rattle.nfs2_types.specs.declared.NfsResult.{NfsResult}
use Rattle.nfs2_types.specs.declared.NfsResult.TheVariants as Result
use Rattle.nfs2_types.specs.Call.{Call}
use Rattle.abs_model.specs.declared.entry.Entry.{Entry}
use Rattle.abs_model.specs.declared.entry.Change.{Change}
use Rattle.abs_model.specs.Array.{changed}
use Rattle.abs_model.specs.Machine.{Refusal, first_of, refusals, changes, effect, answer, result_of, array_after, told}

-- the first of two lists is the first of one, or else of the other
abbrev pub or_first : Option Stat → Option Stat → Option Stat
or_first o rest = elim o [ None ↦ rest | Some s ↦ Some s ]

pub first_of-append : (xs ys : List Refusal) → first_of (xs ++ ys) ≡ or_first (first_of xs) (first_of ys)
first_of-append [] ys = refl
first_of-append (x ∷ xs) ys = elim x.holds as
    (λ b. (if b then Some x.stat else first_of (xs ++ ys)) ≡ or_first (if b then Some x.stat else first_of xs)
    (first_of ys)) [
      | true ↦ refl
      | false ↦ first_of-append xs ys
    ]

module _ (A : List Entry) (limits : Limits) (cred : Cred) (t : Time) (call : Call) where
  -- a refusal is the answer, and nothing changes
  pub refused : (s : Stat) → first_of (refusals A limits call) ≡ Some s →
      result_of A limits cred t call ≡ Result.Refused s
  unfolding result_of
  refused s is = ap (λ o. elim o as
      (λ _. NfsResult) [
        | Some s ↦ Result.Refused s
        | None ↦ answer A
            (array_after A limits cred t call) limits call
      ]) is

  no_effect : (s : Stat) → first_of (refusals A limits call) ≡ Some s → effect A limits cred t call ≡ []
  unfolding effect
  no_effect s is = ap (λ o. if is_some o then [] else changes A cred t call) is

  pub refused_array : (s : Stat) → first_of (refusals A limits call) ≡ Some s → array_after A limits cred t call ≡ A
  unfolding array_after
  refused_array s is = ap (λ cs. changed cs A) (no_effect s is)

  pub refused_told : (s : Stat) → first_of (refusals A limits call) ≡ Some s → told A limits cred t call ≡ []
  unfolding told
  refused_told s is = ap (map (λ (c : Change). c.index)) (no_effect s is)

  -- what is not refused is done
  pub answered : first_of (refusals A limits call) ≡ None →
      result_of A limits cred t call ≡ answer A (array_after A limits cred t call) limits call
  unfolding result_of
  answered is = ap (λ o. elim o as
      (λ _. NfsResult) [
        | Some s ↦ Result.Refused s
        | None ↦ answer A
            (array_after A limits cred t call) limits call
      ]) is

  all_effect : first_of (refusals A limits call) ≡ None → effect A limits cred t call ≡ changes A cred t call
  unfolding effect
  all_effect is = ap (λ o. if is_some o then [] else changes A cred t call) is

  pub answered_array : first_of (refusals A limits call) ≡ None →
      array_after A limits cred t call ≡ changed (changes A cred t call) A
  unfolding array_after
  answered_array is = ap (λ cs. changed cs A) (all_effect is)

  pub answered_told : first_of (refusals A limits call) ≡ None →
      told A limits cred t call ≡ map (λ c. c.index) (changes A cred t call)
  unfolding told
  answered_told is = ap (map (λ (c : Change). c.index)) (all_effect is)
