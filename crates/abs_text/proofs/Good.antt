-- Each entry of a good array, within the limits of a log's header, has a text of the format.
use Rattle.std.proofs.Common.{◌≡◌, ℕ, ◌^◌, ◌<◌, ◌≤◌, true, List, [], ◌∷◌, length, subst, arith}
use Rattle.std.specs.List.{list_all}
use Rattle.std.proofs.lemmas.Bool.{and_parts}
use Rattle.std.proofs.lemmas.List.Sums.{get_or-le-sum_by}
use Rattle.nfs2_types.specs.declared.Limits.{Limits}
use Rattle.abs_model.specs.declared.NameRow.{NameRow}
use Rattle.abs_model.specs.declared.Entry.{Entry}
use Rattle.abs_model.specs.Objects.{names_of, used_by}
use Rattle.abs_model.specs.Array.{entry_at, null_entry, used}
use Rattle.abs_model.specs.Valid.{leads}
use Rattle.abs_model.proofs.Shapes.{live_below}
use Rattle.abs_model.proofs.Facts.{led_is}
use Rattle.abs_text.specs.Wordy.{IsGood}
use Rattle.abs_text.specs.Spelled.{AreWordyRows, IsSpelled}

module _ (limits : Limits) (n_small : limits.n < 2 ^ 32) (A : List Entry) (good : IsGood limits A) where
  rows_wordy : (rows : List NameRow) → list_all (leads A) rows ≡ true → AreWordyRows rows
  rows_wordy [] h = tt
  rows_wordy (r ∷ rs) h =
      let p = and_parts (leads A r) (list_all (leads A) rs) h in
      let led = led_is A r p.0 in
      let within : r.index < length A = live_below A r.index led.live in
      let size : length A ≡ limits.n = good.valid.size in
      let w : (entry_at A r.index).generation < 2 ^ 32 = (good.wordy r.index).generation in
      (omega arith, subst (λ x. x < 2 ^ 32) led.generation w, rows_wordy rs p.1)

  pub good_spelled : limits.t ≤ 16777216 → (i : ℕ) → i < length A → IsSpelled i (entry_at A i)
  good_spelled t_small i below =
      let size : length A ≡ limits.n = good.valid.size in
      let one : used_by (entry_at A i) ≤ used A = get_or-le-sum_by used_by A i null_entry below in
      let room : used A ≤ limits.t = good.valid.room in
      record {
        index = omega arith;
        fits = good.valid.fits i below;
        few = omega arith;
        wordy = good.wordy i;
        rows = rows_wordy (names_of (entry_at A i)) (good.valid.lead i below);
      }
