-- The place of a new object, or the test by which it is refused.
use Rattle.std.proofs.Common.{◌≡◌, ℕ, ◌+◌, ◌-◌, ◌^◌, ◌<◌, ◌≤◌, arith, length, Bool, true, false, List, [], ◌∷◌, Option, Some, None, Result, Ok, Err, refl, sym, ap, ◌∙◌, subst}
use Rattle.std.specs.Prelude.{◌||◌, nat_lt, is_none, is_some, position, if◌then◌else◌}
use Rattle.std.proofs.lemmas.Bool.{ltb-false}
use Rattle.std.proofs.lemmas.Bool.Decides.{nat_tests}
use Rattle.nfs2_types.specs.declared.Limits.{Limits}
use Rattle.nfs2_types.specs.declared.Stat.{Stat}
use Rattle.nfs2_types.specs.declared.stat.TheConstants.{EXIST, NOSPC}
use Rattle.server_trait.specs.Tree.{Tree}
use Rattle.server_trait.specs.declared.bench.ConfEntry.{ConfEntry}
use Rattle.server_trait.specs.declared.bench.ConfTable.{ConfTable}
use Rattle.abs_model.specs.declared.entry.Entry.{Entry}
use Rattle.abs_model.specs.Array.{at, free, has_name, used}
use Rattle.abs_model.specs.Machine.{Refusal, ◌answers◌, first_of, no_new, no_room, new_name_tests}
use Rattle.abs_model.proofs.Named.{at-live}
use Rattle.conf_map.specs.Stands.{StandsValid, StandValid, AreWithin}
use Rattle.conf_map.specs.Tallied.{is_free_row}
use Rattle.conf_map.specs.Found.{Finds, name_tests, NameFound, IsNamed}
use Rattle.conf_map.specs.declared.table.Located.{Located}
use Rattle.conf_map.specs.declared.name.Named.{Named}
use Rattle.conf_map.proofs.Shows.{stand_valid}
use Rattle.conf_map.proofs.Seen.{free_agrees}
use Rattle.conf_map.proofs.Finding.{finds_ok, finds_err}
use Rattle.node_changes.proofs.NamedCalls.{named_refused, named_then}
use Rattle.node_changes.specs.declared.add.Place.{Place}
use Rattle.wrap_make.specs.Places.{IsIndex, IndexFound, IsPlace}

-- WHAT STANDS

-- a call that changed nothing
pub stands_still : (limits : Limits) (s s' : Option Tree) (table : ConfTable) (A : List Entry) → s' ≡ s →
    StandsValid limits s table A → StandsValid limits s' table A
stands_still limits s s' table A same = subst (λ s. StandsValid limits s table A) (sym same)

-- INDEXES

pub rows_few : (limits : Limits) (s : Option Tree) (table : ConfTable) (A : List Entry) → AreWithin limits →
    StandsValid limits s table A → length table.rows.items < 2 ^ 32
rows_few limits s table A within k =
    let size = k.stands.size in
    let all = k.valid.size in
    let most = within.1 in
    omega (arith, size, all, most)

module _ (limits : Limits) (bytes : ℕ) (s : Option Tree) (table : ConfTable) (A : List Entry)
    (k : StandsValid limits s table A) where
  pub no_index : None ≡ position is_free_row table.rows.items → no_new A limits bytes ≡ true
  no_index is = ap (λ o. is_none o || no_room A limits 0 (512 + bytes)) (sym (free_agrees s table A k.stands) ∙ sym is)

  module _ (i : ℕ) (is : Some i ≡ position is_free_row table.rows.items) where
    is_index : free A ≡ Some i
    is_index = sym (free_agrees s table A k.stands) ∙ sym is

    pub no_space : no_room A limits 0 (512 + bytes) ≡ true → no_new A limits bytes ≡ true
    no_space full = ap (λ o. is_none o || no_room A limits 0 (512 + bytes)) is_index ∙ full

    pub has_index : no_room A limits 0 (512 + bytes) ≡ false → IsIndex A limits bytes i
    has_index has = record {
      is_free = is_index;
      space = let least = ltb-false limits.t (used A + (512 + bytes) - 0) has in omega (arith, least);
    }

pub low_is : (a b : ℕ) → b ≤ a → nat_lt a b ≡ false
low_is a b low = grind (arith, nat_tests)

-- where there is an index, a new object has its space
pub index_new : (A : List Entry) (limits : Limits) (bytes i : ℕ) → IsIndex A limits bytes i →
    no_new A limits bytes ≡ false
index_new A limits bytes i c =
    ap (λ o. is_none o || no_room A limits 0 (512 + bytes)) c.is_free
    ∙ low_is limits.t (used A + (512 + bytes) - 0) (let space = c.space in omega (arith, space))

-- WHERE A NAME IS LOOKED FOR

pub name_there : (A : List Entry) (rows : List ConfEntry) (d : ℕ) (name : List ℕ) (o : Option Located) →
    NameFound A rows d name o → has_name A d name ≡ is_some o
name_there A rows d name None found = found
name_there A rows d name (Some at) found = found.has

-- the directory of the call
pub dir_at : (A : List Entry) (rows : List ConfEntry) (dir name : List ℕ) (n : Named) → IsNamed A rows dir name n →
    at A dir ≡ n.dir.index
dir_at A rows dir name n c = at-live A dir n.dir.index c.in_dir.is_index

-- PLACES

module _ (limits : Limits) (within : AreWithin limits) (bytes : ℕ) (s : Option Tree) (table : ConfTable)
    (dir name : List ℕ) (r : Result Named Stat)
    (found : (A : List Entry) → StandValid s table A →
    Finds (name_tests A dir name EXIST) (IsNamed A table.rows.items dir name) r) where
  -- what the search of a place comes to
  abbrev Search : List Entry → Result Place Stat → Type 0
  Search A = Finds (new_name_tests A limits dir name bytes) (IsPlace A limits table.rows.items dir name bytes)

  abbrev later : Bool → Bool → Option Stat
  later has full = if has then Some EXIST else (if full then Some NOSPC else None)

  abbrev rest : List Entry → List Refusal
  rest A = (has_name A (at A dir) name answers EXIST) ∷ (no_new A limits bytes answers NOSPC) ∷ []

  named_found : (A : List Entry) → StandsValid limits s table A →
      Finds (name_tests A dir name EXIST) (IsNamed A table.rows.items dir name) r
  named_found A k = found A (stand_valid limits s table A within k)

  -- a refusal of the name
  pub name_refused : (A : List Entry) → StandsValid limits s table A → (stat : Stat) → r ≡ Err stat →
      Search A (Err stat)
  name_refused A k stat is = finds_err (named_refused A dir name EXIST (rest A) (named_found A k) is)

  module _ (n : Named) (is : r ≡ Ok n) where
    is_named : (A : List Entry) → StandsValid limits s table A → IsNamed A table.rows.items dir name n
    is_named A k = ((named_found A k).found n is).1

    module _ (A : List Entry) (k : StandsValid limits s table A) where
      there : has_name A n.dir.index name ≡ is_some n.at
      there = name_there A table.rows.items n.dir.index name n.at (is_named A k).found

      after_name : (b : Bool) → is_some n.at ≡ b → (full : Bool) → no_new A limits bytes ≡ full →
          first_of (new_name_tests A limits dir name bytes) ≡ later b full
      after_name b is_b full is_full = named_then A dir name EXIST (rest A) (named_found A k) is
          ∙ ap (λ d. later (has_name A d name) (no_new A limits bytes))
          (dir_at A table.rows.items dir name n (is_named A k))
          ∙ ap (λ b. later b (no_new A limits bytes)) (there ∙ is_b)
          ∙ ap (later b) is_full

      -- a name that is there is refused
      pub taken : is_some n.at ≡ true → Search A (Err EXIST)
      taken has = finds_err (after_name true has (no_new A limits bytes) refl)

      module _ (lacks : is_some n.at ≡ false) (index : Option ℕ)
          (new : (s : Option Tree) (A : List Entry) → StandsValid limits s table A →
          IndexFound A limits bytes index) where
        new_at : IndexFound A limits bytes index
        new_at = new s A k

        -- a name with no index or no space for its object is refused
        pub space_found : index ≡ None → Search A (Err NOSPC)
        space_found none = finds_err (after_name false lacks true (subst (IndexFound A limits bytes) none new_at))

        -- and any other has its place
        pub place_found : (i : ℕ) → index ≡ Some i → Search A (Ok (record { dir = n.dir; index = i }))
        place_found i at =
            let c = is_named A k in
            let x = subst (IndexFound A limits bytes) at new_at in
            finds_ok (after_name false lacks false (index_new A limits bytes i x))
            (record { in_dir = c.in_dir; no_dot = c.no_dot; good = c.good; lacks = there ∙ lacks; index = x })
