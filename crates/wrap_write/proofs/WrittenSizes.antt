-- Sizes that a call gives to a file suit, where its tests allow them.
use Rattle.std.proofs.Common.{◌≡◌, inl, inr, ℕ, ◌+◌, ◌-◌, ◌≤◌, max, arith, List, Bool, true, false, length, Option, Some, None, sym, ap, ◌∙◌}
use Rattle.std.specs.Prelude.{◌&&◌, ◌==◌, nat_lt, if◌then◌else◌}
use Rattle.std.proofs.lemmas.Bool.{cases_Bool, cond-true, cond-false, ltb-false}
use Rattle.std.proofs.lemmas.Bool.Decides.{nat_tests}
use Rattle.nfs2_types.specs.declared.Limits.{Limits}
use Rattle.server_trait.specs.Tree.{Tree, Node}
use Rattle.server_trait.specs.declared.bench.ConfEntry.{ConfEntry}
use Rattle.server_trait.specs.declared.bench.ConfTable.{ConfTable}
use Rattle.abs_model.specs.declared.entry.Entry.{Entry}
use Rattle.abs_model.specs.Objects.{is_null, is_link, bytes_of}
use Rattle.abs_model.specs.Array.{entry_at, used}
use Rattle.abs_model.specs.Machine.{file_limit}
use Rattle.abs_model.specs.Valid.{most_bytes}
use Rattle.abs_model.proofs.Facts.{AllFalse, file_is}
use Rattle.conf_map.specs.Stands.{StandsValid}
use Rattle.conf_map.specs.Moves.{IsAt}
use Rattle.conf_map.proofs.ArrayFacts.{fits_at}
use Rattle.conf_map.proofs.LiveRows.{is_live}
use Rattle.conf_map.proofs.ObjectChanges.{at_index}
use Rattle.node_changes.specs.Puts.{Suits, size_after}
use Rattle.node_changes.specs.Settings.{SuitsIf}
use Rattle.wrap_write.specs.declared.target.Target.{Target}
use Rattle.wrap_write.specs.Targets.{size_tests, IsTarget}

some_more : (n : ℕ) → (n == 0) ≡ false → nat_lt 0 n ≡ true
some_more n some = grind (arith, nat_tests)

other : (a b : Bool) → a ≡ true → (a && b) ≡ false → b ≡ false
other a b is none = ap (λ (x : Bool). x && b) (sym is) ∙ none

-- the size of a file that is written
pub write_suits : (limits : Limits) (all l o n : ℕ) → all ≤ limits.t → l ≤ 1048576 →
    (nat_lt 0 n && nat_lt file_limit (o + n)) ≡ false →
    (nat_lt 0 n && nat_lt limits.t (all + max l (o + n) - l)) ≡ false →
    Suits limits all l (size_after o n l)
write_suits limits all l o n within short big full = elim (cases_Bool (n == 0)) [
  | inl none ↦
      let same : size_after o n l ≡ l = cond-true (n == 0) l (max l (o + n)) none in
      record { space = omega (arith, same, within); small = omega (arith, same, short) }
  | inr some ↦
      let same : size_after o n l ≡ max l (o + n) = cond-false (n == 0) l (max l (o + n)) some in
      let small = ltb-false file_limit (o + n)
      (other (nat_lt 0 n) (nat_lt file_limit (o + n)) (some_more n some) big) in
      let left = ltb-false limits.t (all + max l (o + n) - l)
      (other (nat_lt 0 n) (nat_lt limits.t (all + max l (o + n) - l)) (some_more n some) full) in
      record { space = omega (arith, same, left); small = omega (arith, same, small, short) }
]

module _ (limits : Limits) (s : Option Tree) (table : ConfTable) (A : List Entry) (k : StandsValid limits s table A)
    (node : List ℕ) (o : Target) (c : IsTarget A table.rows.items node o) where
  abbrev e : Entry
  e = entry_at A o.at.index

  at : (r : ConfEntry) × (n : Node) × IsAt k.stands.tree table A o.at.index o.at.handle r n e
  at = at_index s table A k.stands o.at.index o.at.handle c.live

  -- it is live
  pub alive : is_null e ≡ false
  alive = is_live s table A k.stands o.at.index o.at.handle at.0 at.1 e at.2

  -- a file is small
  pub short : is_link e ≡ false → length (bytes_of e) ≤ 1048576
  short no_link =
      let most = (fits_at limits A k.valid o.at.index e at.2.is_entry).bytes in
      let all : most_bytes e ≡ 1048576 = ap (λ b. let most : ℕ = if b then 1024 else 1048576 in most) no_link in
      omega (arith, most, all)

  -- the size that is given suits, where its tests allow it
  pub given_suits : (size : Option ℕ) → AllFalse (size_tests A limits e size) → SuitsIf limits A e size
  given_suits None none = tt
  given_suits (Some size) none =
      let left = ltb-false limits.t (used A + size - length (bytes_of e)) none.1.1.1.0 in (
        file_is e alive none.0 none.1.0,
        record { space = omega (arith, left); small = ltb-false file_limit size none.1.1.0 },
      )
