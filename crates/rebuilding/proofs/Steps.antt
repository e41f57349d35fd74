-- A valid array is built where the empty one stands: what each loop asks for, and what stands at the end.
use Rattle.std.proofs.Common.{◌≡◌, ◌≢◌, ◌<◌, ◌≤◌, ◌^◌, ℕ, List, [], Bool, true, false, Option, Some, None, IsSomeAnd, length, replicate, slice_get, refl, sym, ap, ◌∙◌, subst, arith}
use Rattle.std.specs.Prelude.{get_or, set, slice_set}
use Rattle.std.proofs.lemmas.List.{get_or-set_same, get_or-set_other, get_or-replicate, length-replicate}
use Rattle.nfs2_types.specs.declared.Limits.{Limits}
use Rattle.server_trait.specs.Tree.{Tree, names_at, node_at, target}
use Rattle.server_trait.specs.declared.server.ServerLimits.{ServerLimits}
use Rattle.server_trait.specs.declared.bench.ConfTable.{ConfTable}
use Rattle.server_trait.proofs.TreeLaws.{some_and, is_some_and, some_none, some_same}
use Rattle.abs_model.specs.declared.entry.NameRow.{NameRow}
use Rattle.abs_model.specs.declared.entry.Entry.{Entry}
use Rattle.abs_model.specs.Array.{empty_array, entry_at}
use Rattle.abs_model.specs.Valid.{Valid}
use Rattle.conf_map.specs.Stands.{AreWithin, HasRoom}
use Rattle.staging.specs.Staged.{Staged, StagedAt, StandOnce}
use Rattle.rebuilding.specs.Fill.{CanDressAll, dressed_to}
use Rattle.rebuilding.specs.Make.{CanMake, FirstAlone, made_to, staged_to, stays_at}
use Rattle.rebuilding.specs.Name.{CanName, LeadWithin, all_out_to, bit_at, named_to}
use Rattle.rebuilding.specs.Rebuild.{is_object}
use Rattle.rebuilding.proofs.NamesPut.{can_put_all, lead_within, all_named, all_out}
use Rattle.rebuilding.proofs.Starts.{begun_short, empty_rising, file_small, fits_here, live_then, none_put, null0, room_here, size0}

-- the first alone stays
pub first_stays : (n : ℕ) → 1 ≤ n → (stays : List Bool) → stays ≡ slice_set (replicate n false) 0 true → FirstAlone n stays
first_stays n some stays is = subst (FirstAlone n) (sym is) (record {
  first = get_or-set_same (replicate n false) 0 true true (let l = length-replicate {A = Bool} n false in omega (arith, l, some));
  others = λ i ne low. get_or-set_other (replicate n false) 0 i true true ne ∙ get_or-replicate n i false true low;
})

module _ (limits : Limits) (C : List Entry) (v : Valid limits C) (w : AreWithin limits) (most : ServerLimits) (room : HasRoom limits most) (stays : List Bool) (f : FirstAlone (length C) stays) where
  abbrev n : ℕ
  n = length C

  abbrev A0 : List Entry
  A0 = empty_array limits.n

  abbrev A1 : List Entry
  A1 = made_to A0 C stays n

  abbrev S1 : List NameRow
  S1 = staged_to [] C stays n

  abbrev A2 : List Entry
  A2 = dressed_to A1 C n

  some : 1 ≤ limits.n
  some = w.0

  pub few : n ≤ 4096
  few = let a = w.1 in let s = v.size in omega (arith, a, s)

  can_make_at : (t : Tree) (area : List ℕ) (table : ConfTable) → Staged t area table A0 [] → CanMake t most area table A0 [] C stays
  can_make_at t area table st =
      let size = size0 limits C v some few most room stays f in
      record {
        staged = st;
        size = sym size;
        few = (let a = few in omega (arith, a, size));
        null = λ i low goes. null0 limits C v some few most room stays f i goes;
        free = λ i low goes. refl;
        texts = λ i low. begun_short (entry_at C i) (fits_here limits C v some few most room stays f i (omega (arith, low, size)));
        small = λ i low. file_small (entry_at C i) (fits_here limits C v some few most room stays f i (omega (arith, low, size)));
        rising = empty_rising limits.n;
        once = record { found = λ i r at. absurd (let bad : None ≡ Some r = at in cc); once = λ i j a b at _ _. absurd (let bad : None ≡ Some a = at in cc) };
        room = λ i low goes live. room_here limits C v some few most room stays f i (omega (arith, low, size)) goes live;
      }

  module _ (s : Option Tree) (area : List ℕ) (table : ConfTable) (st : StagedAt s area table A0 []) where
    x : (t : Tree) × (s ≡ Some t) × Staged t area table A0 []
    x = some_and s (λ t. Staged t area table A0 []) st

    pub can_make : IsSomeAnd s (λ t. (A : List Entry) × (S : List NameRow) × CanMake t most area table A S C stays)
    can_make = is_some_and (λ t. (A : List Entry) × (S : List NameRow) × CanMake t most area table A S C stays) x.1 (A0, [], can_make_at x.0 area table x.2)

    -- what the first loop leaves
    pub made_then : (s' : Option Tree) (table' : ConfTable) → ((t : Tree) (A : List Entry) (S : List NameRow) → s ≡ Some t → CanMake t most area table A S C stays →
        StagedAt s' area table' (made_to A C stays n) (staged_to S C stays n)) → StagedAt s' area table' A1 S1
    made_then s' table' made = made x.0 A0 [] x.1 (can_make_at x.0 area table x.2)

  can_dress_at : (t : Tree) (area : List ℕ) (table : ConfTable) → Staged t area table A1 S1 → CanDressAll t area table A1 S1 C
  can_dress_at t area table st = record { staged = st; live = live_then limits C v some few most room stays f }

  module _ (s : Option Tree) (area : List ℕ) (table : ConfTable) (st : StagedAt s area table A1 S1) where
    y : (t : Tree) × (s ≡ Some t) × Staged t area table A1 S1
    y = some_and s (λ t. Staged t area table A1 S1) st

    pub can_dress : IsSomeAnd s (λ t. (A : List Entry) × (S : List NameRow) × CanDressAll t area table A S C)
    can_dress = is_some_and (λ t. (A : List Entry) × (S : List NameRow) × CanDressAll t area table A S C) y.1 (A1, S1, can_dress_at y.0 area table y.2)

    -- what the second loop leaves
    pub dressed_then : (s' : Option Tree) (table' : ConfTable) → ((t : Tree) (A : List Entry) (S : List NameRow) → s ≡ Some t → CanDressAll t area table A S C →
        StagedAt s' area table' (dressed_to A C n) S) → StagedAt s' area table' A2 S1
    dressed_then s' table' dressed = dressed y.0 A1 S1 y.1 (can_dress_at y.0 area table y.2)

  module _ (bits : List Bool) (size : length bits ≡ n) (is : (i : ℕ) → i < n → bit_at bits i ≡ is_object C i) where
    can_name_at : (t : Tree) (area : List ℕ) (table : ConfTable) → Staged t area table A2 S1 → CanName t most area table A2 C S1 bits
    can_name_at t area table st = record {
      staged = st;
      each = can_put_all limits C v few most room A2 bits S1 (none_put limits C v some few most room stays f bits size is);
    }

    pub bits_within : LeadWithin C bits
    bits_within = lead_within limits C v few most room A2 bits S1 (none_put limits C v some few most room stays f bits size is)

    module _ (s : Option Tree) (area : List ℕ) (table : ConfTable) (st : StagedAt s area table A2 S1) (most' : ServerLimits) (same : most' ≡ most) where
      z : (t : Tree) × (s ≡ Some t) × Staged t area table A2 S1
      z = some_and s (λ t. Staged t area table A2 S1) st

      name_known : (t : Tree) × (s ≡ Some t) × CanName t most' area table A2 C S1 bits
      name_known = (z.0, z.1, subst (λ m. CanName z.0 m area table A2 C S1 bits) (sym same) (can_name_at z.0 area table z.2))

      pub can_name : IsSomeAnd s (λ t. (A : List Entry) × (S : List NameRow) × CanName t most' area table A C S bits)
      can_name = is_some_and (λ t. (A : List Entry) × (S : List NameRow) × CanName t most' area table A C S bits) name_known.1 (A2, S1, name_known.2)

      -- and the array stands, with nothing staged
      pub all_stand : (s' : Option Tree) → ((t : Tree) (A : List Entry) (S : List NameRow) → s ≡ Some t → CanName t most' area table A C S bits →
          StagedAt s' area table (named_to A C n) (all_out_to S bits C n)) → StagedAt s' area table C []
      all_stand s' named =
          let start = none_put limits C v some few most room stays f bits size is in
          subst (λ S. StagedAt s' area table C S) (all_out limits C v few most room A2 bits S1 start)
          (subst (λ A. StagedAt s' area table A (all_out_to S1 bits C n)) (all_named limits C v few most room A2 bits S1 start)
          (named name_known.0 A2 S1 name_known.1 name_known.2))
