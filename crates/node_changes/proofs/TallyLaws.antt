-- Rows that are changed, and then counted.
use Rattle.std.proofs.Common.{◌≡◌, ℕ, ◌+◌, ◌-◌, ◌<◌, ◌≤◌, ◌^◌, arith, List, refl, ◌∙◌}
use Rattle.server_trait.specs.declared.bench.ConfTable.{ConfTable}
use Rattle.abs_model.specs.declared.entry.Entry.{Entry}
use Rattle.abs_model.specs.Array.{used}
use Rattle.conf_map.specs.Tallied.{Tallied, KeepsTally}
use Rattle.conf_map.proofs.Tallies.{tallied_kept, tallied_shifted}
use Rattle.node_changes.specs.Tallies.{CanShift, ShiftsTally}

-- rows that change leave the count
pub still_shifts : {old mid : ConfTable} (goes comes : ℕ) → KeepsTally old mid → CanShift old goes comes →
    CanShift mid goes comes
still_shifts {old} {mid} goes comes keeps can =
    let same = keeps.used in
    let fits = can.fits in
    let has = can.has in
    record { fits = omega (arith, same, fits); has = omega (arith, same, has) }

-- one change of rows after the other
pub keeps_both : {old mid new : ConfTable} → KeepsTally old mid → KeepsTally mid new → KeepsTally old new
keeps_both first second = record {
  used = second.used ∙ first.used;
  none_below = λ none. second.none_below (first.none_below none);
}

-- and then they are counted
pub shifts : {old mid new : ConfTable} (goes comes : ℕ) → KeepsTally old mid →
    new ≡ record mid { used = (mid.used + comes) - goes } → ShiftsTally old new goes comes
shifts {old} {mid} goes comes keeps is A A' tallied moves =
    tallied_shifted {A = A} {A' = A'} goes comes (tallied_kept {A = A} {A' = A} tallied keeps refl) is moves

-- a table whose array is within the limits can count
pub can_shift : {table : ConfTable} {A : List Entry} (goes comes : ℕ) → Tallied table A → used A ≤ 16777216 →
    comes < 2 ^ 32 → goes ≤ used A + comes → CanShift table goes comes
can_shift goes comes tallied all few has =
    let same = tallied.used in
    record { fits = omega (arith, same, all, few); has = omega (arith, same, has) }

-- the same, of numbers that are these
pub shifts_as : {old mid new : ConfTable} (goes comes : ℕ) {g k : ℕ} → g ≡ goes → k ≡ comes → KeepsTally old mid →
    new ≡ record mid { used = (mid.used + k) - g } → ShiftsTally old new goes comes
shifts_as {old} {mid} {new} goes comes {g} {k} is_goes is_comes keeps is A A' tallied moves =
    shifts g k keeps is A A' tallied (omega (arith, moves, is_goes, is_comes))
