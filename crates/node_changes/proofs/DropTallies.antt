-- A name goes, and what the table counts of it.
use Rattle.std.proofs.Common.{◌≡◌, inl, inr, ℕ, ◌+◌, ◌*◌, ◌<◌, ◌≤◌, ◌^◌, arith, true, false, List, length, set, Option, Some, refl, sym, ap, ◌∙◌}
use Rattle.std.specs.Prelude.{nat_le, if◌then◌else◌}
use Rattle.std.proofs.lemmas.Bool.{cases_Bool}
use Rattle.std.proofs.lemmas.Option.{slice_get_within}
use Rattle.nfs2_types.specs.declared.Time.{Time}
use Rattle.server_trait.specs.Tree.{Server}
use Rattle.server_trait.specs.declared.bench.ConfTable.{ConfTable}
use Rattle.server_trait.specs.declared.server.NodeAttr.{NodeAttr}
use Rattle.abs_model.specs.declared.entry.Entry.{Entry}
use Rattle.abs_model.specs.Objects.{is_dir, is_link, names_of, bytes_of, without, used_by}
use Rattle.abs_model.specs.Array.{entry_at, changed, used, links}
use Rattle.abs_model.specs.Machine.{with_names, unlinked}
use Rattle.abs_model.specs.Valid.{most_bytes, is_rising}
use Rattle.abs_model.proofs.Facts.{dir_is}
use Rattle.abs_model.proofs.Shapes.{fits_parts}
use Rattle.conf_map.specs.Found.{is_dir_kind, IsSeen}
use Rattle.conf_map.specs.Tallied.{Tallied}
use Rattle.conf_map.specs.declared.table.Located.{Located}
use Rattle.conf_map.proofs.ArrayFacts.{fits_at}
use Rattle.node_changes.specs.Drops.{drops, last_bytes_of, CanDrop}
use Rattle.node_changes.specs.Tallies.{CanShift, ShiftsTally}
use Rattle.node_changes.proofs.DropFacts.{row, apart, at_dir, at_old}
use Rattle.node_changes.proofs.TalliedArrays.{can_count, drop_moves, last_moves}

module _ (s : Server) (table : ConfTable) (A : List Entry) (name : List ℕ) (dir o : Located)
    (c : CanDrop s table A name dir o) (time : Time) where
  abbrev d : ℕ
  d = dir.index

  abbrev i : ℕ
  i = o.index

  abbrev e : Entry
  e = entry_at A i

  d_below : d < length A
  d_below = slice_get_within A d (entry_at A d) (at_dir s table A name dir o c).2.is_entry

  i_below : i < length A
  i_below = slice_get_within A i (entry_at A i) (at_old s table A name dir o c).2.is_entry

  rising : is_rising (names_of (entry_at A d)) ≡ true
  rising = (fits_parts (entry_at A d) (c.valid.fits d d_below)).rising

  abbrev A' : List Entry
  A' = changed (drops A d name i time) A

  -- a name of several goes
  more_moves : nat_le (links A i) 1 ≡ false → used A' + 512 ≡ used A + 0
  more_moves more = drop_moves A d i name (row s table A name dir o c).row time (apart s table A name dir o c) d_below
      i_below c.is_dir rising (row s table A name dir o c).found more

  pub more_counts : nat_le (links A i) 1 ≡ false → CanShift table 512 0
  more_counts more = can_count c.limits A' 512 0 c.within c.valid.room c.tallied (omega arith) (more_moves more)

  pub more_tallied : (table' : ConfTable) → nat_le (links A i) 1 ≡ false → ShiftsTally table table' 512 0 →
      Tallied table' A'
  more_tallied table' more shifts = shifts A A' c.tallied (more_moves more)

  -- the last name goes
  module _ (a : NodeAttr) (seen : IsSeen e a) where
    -- a file or a link is small
    pub small : is_dir_kind a.kind ≡ false → a.size ≤ 1048576
    small other =
        let size = seen.size (sym seen.dir ∙ other) in
        let most = (fits_at c.limits A c.valid i e (at_old s table A name dir o c).2.is_entry).bytes in
        elim (cases_Bool (is_link e)) [
          | inl link ↦
              let all : most_bytes e ≡ 1024 = ap (λ b. let most : ℕ = if b then 1024 else 1048576 in most) link in
              omega (arith, size, most, all)
          | inr file ↦
              let all : most_bytes e ≡ 1048576 = ap (λ b. let most : ℕ = if b then 1024 else 1048576 in most) file in
              omega (arith, size, most, all)
        ]

    bytes_are : 512 + used_by e ≡ last_bytes_of a
    bytes_are =
        let names = ap length c.empty in
        elim (cases_Bool (is_dir e)) [
          | inl is ↦
              let none = ap length (dir_is e is).bytes in
              let all : last_bytes_of a ≡ 512 = ap (λ b. let n : ℕ = if b then 512 else 512 + a.size in n)
              (seen.dir ∙ is) in
              omega (arith, none, names, all)
          | inr other ↦
              let size = seen.size other in
              let all : last_bytes_of a ≡ 512 + a.size =
              ap (λ b. let n : ℕ = if b then 512 else 512 + a.size in n) (seen.dir ∙ other) in
              omega (arith, size, names, all)
        ]

    all_moves : nat_le (links A i) 1 ≡ true → (n : ℕ) → n ≡ last_bytes_of a → used A' + n ≡ used A + 0
    all_moves last n is = last_moves A d i name (row s table A name dir o c).row time (apart s table A name dir o c)
        d_below i_below c.is_dir rising (row s table A name dir o c).found last n (bytes_are ∙ sym is)

    pub last_counts : nat_le (links A i) 1 ≡ true → (n : ℕ) → n ≡ last_bytes_of a → CanShift table n 0
    last_counts last n is = can_count c.limits A' n 0 c.within c.valid.room c.tallied (omega arith)
        (all_moves last n is)

    pub last_tallied : (table' : ConfTable) → nat_le (links A i) 1 ≡ true → (n : ℕ) → n ≡ last_bytes_of a →
        ShiftsTally table table' n 0 → Tallied table' A'
    last_tallied table' last n is shifts = shifts A A' c.tallied (all_moves last n is)
