-- Phase 3, all objects: what stands after the first indexes.
use Rattle.std.proofs.Common.{◌≡◌, ◌≢◌, ◌⊎◌, inl, inr, ◌<◌, ◌≤◌, ◌+◌, ◌^◌, ℕ, zero, suc, List, ◌∷◌, Bool, true, false, cond, is_some, Option, Some, None, IsSomeAnd, length, slice_get, refl, sym, ap, ◌∙◌, subst, arith}
use Rattle.std.specs.Prelude.{get_or, set, not, ◌*◌, count_by, if◌then◌else◌}
use Rattle.std.specs.Fmt.{decimal}
use Rattle.std.specs.FinMap.{len}
use Rattle.std.proofs.lemmas.List.{length-set, set-set}
use Rattle.std.proofs.lemmas.List.Sums.{sum_by-set}
use Rattle.std.proofs.lemmas.Option.{slice_get_within, slice_get-get_or}
use Rattle.staging.proofs.Counts.{two_names, used_staged, nodes_staged}
use Rattle.server_trait.specs.Tree.{Tree, used}
use Rattle.server_trait.proofs.TreeLaws.{some_and, is_some_and, some_none, some_same, one_or_not}
use Rattle.server_trait.specs.declared.server.ServerLimits.{ServerLimits}
use Rattle.server_trait.specs.declared.bench.ConfTable.{ConfTable}
use Rattle.abs_model.specs.declared.entry.NameRow.{NameRow}
use Rattle.abs_model.specs.declared.entry.Object.{Object}
use Rattle.abs_model.specs.declared.entry.Object.TheVariants.{Null, File, Dir, Link}
use Rattle.abs_model.specs.declared.entry.Entry.{Entry}
use Rattle.abs_model.specs.Objects.{is_null, names_of, bytes_of, used_by, row_of}
use Rattle.abs_model.specs.Array.{entry_at, null_entry}
use Rattle.abs_model.proofs.Shapes.{used-set}
use Rattle.abs_model.specs.Valid.{is_rising}
use Rattle.conf_map.proofs.Frames.{entry_at-some}
use Rattle.conf_map.proofs.InStep.{slice_get-set_same, slice_get-set_other}
use Rattle.conf_map.specs.Fresh.{HoldsUpTo}
use Rattle.rebuilding.specs.Make.{CanMake, CanMakeAt, HasRoomToFill, made_at, made_to, staged_at, staged_to, stays_at}
use Rattle.staging.specs.Begin.{CanBegin, begun_at, begun_bytes, row_in_staging, staged_with}
use Rattle.staging.specs.Fill.{CanFill, file_bytes, filled_at}
use Rattle.staging.specs.Forms.{begun, whole}
use Rattle.staging.specs.Staged.{Staged, StagedAt, StandOnce}
use Rattle.staging.proofs.Begins.{at_head, past_head, there, old_entry}
use Rattle.staging.proofs.Decimals.{decimal_apart}
use Rattle.staging.proofs.Feeds.{begun_whole}

le_or_lt : (k i : ℕ) → (k ≤ i) ⊎ (i < k)
le_or_lt k zero = zero_or k
  where
    zero_or : (k : ℕ) → (k ≤ 0) ⊎ (0 < k)
    zero_or zero = inl (omega arith)
    zero_or (suc k) = inr (omega arith)
le_or_lt zero (suc i) = inl (omega arith)
le_or_lt (suc k) (suc i) = elim (le_or_lt k i) as (λ _. (suc k ≤ suc i) ⊎ (suc i < suc k)) [ inl e ↦ inl (omega (arith, e)) | inr e ↦ inr (omega (arith, e)) ]

-- THE ARRAY

-- what is to stand at an index
abbrev pub as_made : List Entry → List Entry → List Bool → ℕ → Entry
as_made A after stays i = if stays_at stays i then entry_at A i else whole (entry_at after i)

pub record MadeTo (A after : List Entry) (stays : List Bool) (k : ℕ) (A' : List Entry) : Type 0 where
  pub size : length A' ≡ length A
  pub first : (i : ℕ) → i < k → i < length A → slice_get A' i ≡ Some (as_made A after stays i)
  pub rest : (i : ℕ) → k ≤ i → slice_get A' i ≡ slice_get A i

module _ (A after : List Entry) (stays : List Bool) where
  made_more : (k : ℕ) → k < length A → (A' : List Entry) → MadeTo A after stays k A' → (b : Bool) → stays_at stays k ≡ b → MadeTo A after stays (suc k) (made_at A' k b (entry_at after k))
  made_more k below A' m true stay = record {
    size = m.size;
    first = λ i low within. elim (one_or_not i k) as (λ _. slice_get A' i ≡ Some (as_made A after stays i)) [
      | inl e ↦ subst (λ i. slice_get A' i ≡ Some (as_made A after stays i)) (sym e)
          (m.rest k (omega arith) ∙ (let x = there A k below in x.1 ∙ ap Some (sym (entry_at-some A k x.0 x.1))) ∙ ap (λ b. Some (if b then entry_at A k else whole (entry_at after k))) (sym stay))
      | inr ne ↦ m.first i (omega (arith, low, ne)) within
    ];
    rest = λ i high. m.rest i (omega (arith, high));
  }
  made_more k below A' m false stay =
      let old = there A k below in
      let at_k : slice_get A' k ≡ Some old.0 = m.rest k (omega arith) ∙ old.1 in
      record {
        size = length-set A' k (whole (entry_at after k)) ∙ m.size;
        first = λ i low within. elim (one_or_not i k) as (λ _. slice_get (filled_at A' k (entry_at after k)) i ≡ Some (as_made A after stays i)) [
          | inl e ↦ subst (λ i. slice_get (filled_at A' k (entry_at after k)) i ≡ Some (as_made A after stays i)) (sym e)
              (slice_get-set_same A' k (whole (entry_at after k)) old.0 at_k ∙ ap (λ b. Some (if b then entry_at A k else whole (entry_at after k))) (sym stay))
          | inr ne ↦ slice_get-set_other A' k i (whole (entry_at after k)) ne ∙ m.first i (omega (arith, low, ne)) within
        ];
        rest = λ i high. slice_get-set_other A' k i (whole (entry_at after k)) (λ e. absurd (omega (arith, high, e))) ∙ m.rest i (omega (arith, high));
      }

  pub made_so_far : (k : ℕ) → k ≤ length A → MadeTo A after stays k (made_to A after stays k)
  made_so_far zero below = record { size = refl; first = λ i low within. absurd (omega (arith, low)); rest = λ i _. refl }
  made_so_far (suc k) below = made_more k below (made_to A after stays k) (made_so_far k (omega (arith, below))) (stays_at stays k) refl

whole_rising : (e : Entry) → is_rising (names_of (whole e)) ≡ true
whole_rising e = by_object e.object
  where
    by_object : (o : Object) → is_rising (names_of (whole (record { generation = e.generation; object = o }))) ≡ true
    by_object Null = refl
    by_object (File a b) = refl
    by_object (Dir a b) = refl
    by_object (Link a b) = refl

begun_rising : (e : Entry) → is_rising (names_of (begun e)) ≡ true
begun_rising e = by_object e.object
  where
    by_object : (o : Object) → is_rising (names_of (begun (record { generation = e.generation; object = o }))) ≡ true
    by_object Null = refl
    by_object (File a b) = refl
    by_object (Dir a b) = refl
    by_object (Link a b) = refl

-- STAGING'S NAMES

pub record StagedTo (S : List NameRow) (after : List Entry) (stays : List Bool) (k : ℕ) (S' : List NameRow) : Type 0 where
  pub here : (i : ℕ) → i < k → stays_at stays i ≡ false → is_null (entry_at after i) ≡ false → row_of (decimal i) S' ≡ Some (row_in_staging i (entry_at after i))
  pub others : (x : List ℕ) → ((i : ℕ) → i < k → x ≢ decimal i) → row_of x S' ≡ row_of x S
  pub once : StandOnce S'

-- one more name, which was new
pub once_more : (S : List NameRow) (r : NameRow) → StandOnce S → row_of r.name S ≡ None → StandOnce (r ∷ S)
once_more S r s none = record { found = found; once = once }
  where
    differs : (i : ℕ) (x : NameRow) → slice_get S i ≡ Some x → x.name ≢ r.name
    differs i x at e = some_none (ap (λ name. row_of name S) (sym e) ∙ s.found i x at) none

    found : (i : ℕ) (x : NameRow) → slice_get (r ∷ S) i ≡ Some x → row_of x.name (r ∷ S) ≡ Some x
    found zero x at = subst (λ x. row_of x.name (r ∷ S) ≡ Some x) (some_same {o = Some r} refl at) (at_head r S)
    found (suc i) x at = past_head r S x.name (differs i x at) ∙ s.found i x at

    once : (i j : ℕ) (a b : NameRow) → slice_get (r ∷ S) i ≡ Some a → slice_get (r ∷ S) j ≡ Some b → a.name ≡ b.name → i ≡ j
    once zero zero a b at_i at_j same = refl
    once zero (suc j) a b at_i at_j same = absurd (differs j b at_j (sym same ∙ ap (λ (x : NameRow). x.name) (sym (some_same {o = Some r} refl at_i))))
    once (suc i) zero a b at_i at_j same = absurd (differs i a at_i (same ∙ ap (λ (x : NameRow). x.name) (sym (some_same {o = Some r} refl at_j))))
    once (suc i) (suc j) a b at_i at_j same = ap suc (s.once i j a b at_i at_j same)

module _ (S : List NameRow) (after : List Entry) (stays : List Bool) (n : ℕ) (few : n < 2 ^ 32) (free : (i : ℕ) → i < n → stays_at stays i ≡ false → row_of (decimal i) S ≡ None) where
  decimals_differ : (i j : ℕ) → i < n → j < n → i ≢ j → decimal i ≢ decimal j
  decimals_differ i j low_i low_j ne same = ne (decimal_apart i j (omega (arith, low_i, few)) (omega (arith, low_j, few)) same)

  staged_more : (k : ℕ) → k < n → (S' : List NameRow) → StagedTo S after stays k S' → (b : Bool) → stays_at stays k ≡ b → (z : Bool) → is_null (entry_at after k) ≡ z →
      StagedTo S after stays (suc k) (if b then S' else (if z then S' else row_in_staging k (entry_at after k) ∷ S'))
  staged_more k below S' s true stay z null = record {
    here = λ i low goes live. elim (one_or_not i k) as (λ _. row_of (decimal i) S' ≡ Some (row_in_staging i (entry_at after i))) [
      | inl e ↦ absurd (let bad : true ≡ false = sym stay ∙ ap (stays_at stays) (sym e) ∙ goes in cc)
      | inr ne ↦ s.here i (omega (arith, low, ne)) goes live
    ];
    others = λ x differs. s.others x (λ i low. differs i (omega (arith, low)));
    once = s.once;
  }
  staged_more k below S' s false stay true null = record {
    here = λ i low goes live. elim (one_or_not i k) as (λ _. row_of (decimal i) S' ≡ Some (row_in_staging i (entry_at after i))) [
      | inl e ↦ absurd (let bad : true ≡ false = sym null ∙ ap (λ i. is_null (entry_at after i)) (sym e) ∙ live in cc)
      | inr ne ↦ s.here i (omega (arith, low, ne)) goes live
    ];
    others = λ x differs. s.others x (λ i low. differs i (omega (arith, low)));
    once = s.once;
  }
  staged_more k below S' s false stay false null =
      let r : NameRow = row_in_staging k (entry_at after k) in
      let none : row_of (decimal k) S' ≡ None = s.others (decimal k) (λ i low. decimals_differ k i below (omega (arith, low, below)) (λ e. absurd (omega (arith, low, e)))) ∙ free k below stay in
      record {
        here = λ i low goes live. elim (one_or_not i k) as (λ _. row_of (decimal i) (row_in_staging k (entry_at after k) ∷ S') ≡ Some (row_in_staging i (entry_at after i))) [
          | inl e ↦ subst (λ i. row_of (decimal i) (row_in_staging k (entry_at after k) ∷ S') ≡ Some (row_in_staging i (entry_at after i))) (sym e) (at_head (row_in_staging k (entry_at after k)) S')
          | inr ne ↦ past_head (row_in_staging k (entry_at after k)) S' (decimal i) (decimals_differ i k (omega (arith, low, below)) below ne) ∙ s.here i (omega (arith, low, ne)) goes live
        ];
        others = λ x differs. past_head (row_in_staging k (entry_at after k)) S' x (differs k (omega arith)) ∙ s.others x (λ i low. differs i (omega (arith, low)));
        once = once_more S' (row_in_staging k (entry_at after k)) s.once none;
      }

  pub staged_so_far : StandOnce S → (k : ℕ) → k ≤ n → StagedTo S after stays k (staged_to S after stays k)
  staged_so_far once zero below = record { here = λ i low _ _. absurd (omega (arith, low)); others = λ x _. refl; once = once }
  staged_so_far once (suc k) below = staged_more k below (staged_to S after stays k) (staged_so_far once k (omega (arith, below))) (stays_at stays k) refl (is_null (entry_at after k)) refl

-- ONE INDEX

null_whole : (e : Entry) → is_null e ≡ true → begun e ≡ whole e
null_whole e null = begun_whole e (by_object e.object null)
  where
    by_object : (o : Object) → is_null (record { generation = e.generation; object = o }) ≡ true →
        length (file_bytes (record { generation = e.generation; object = o })) ≡ 0
    by_object Null null = refl
    by_object (File a b) null = absurd (let bad : false ≡ true = null in cc)
    by_object (Dir a b) null = refl
    by_object (Link a b) null = refl

pub can_begin : (s : Option Tree) (limits : ServerLimits) (area : List ℕ) (table : ConfTable) (i : ℕ) (stay : Bool) (e : Entry) → stay ≡ false →
    IsSomeAnd s (λ t. (A : List Entry) × (S : List NameRow) × CanMakeAt t limits area table A S i stay e) → IsSomeAnd s (λ t. (A : List Entry) × (S : List NameRow) × CanBegin t limits area table A S i e)
can_begin s limits area table i stay e goes can =
    let k = some_and s (λ t. (A : List Entry) × (S : List NameRow) × CanMakeAt t limits area table A S i stay e) can in
    is_some_and (λ t. (A : List Entry) × (S : List NameRow) × CanBegin t limits area table A S i e) k.1 (k.2.0, k.2.1, k.2.2.begins goes)

pub made_null : (s : Option Tree) (area : List ℕ) (table : ConfTable) (A : List Entry) (S : List NameRow) (i : ℕ) (stay : Bool) (e : Entry) → stay ≡ false → is_null e ≡ true →
    StagedAt s area table (begun_at A i e) (staged_with S i e) → StagedAt s area table (made_at A i stay e) (staged_at S i stay e)
made_null s area table A S i stay e goes null st = subst (λ b. StagedAt s area table (made_at A i b e) (staged_at S i b e)) (sym goes)
    (subst (λ x. StagedAt s area table (set A i x) (staged_with S i e)) (null_whole e null) st)

pub made_none : (s : Option Tree) (limits : ServerLimits) (area : List ℕ) (table : ConfTable) (A : List Entry) (S : List NameRow) (i : ℕ) (stay : Bool) (e : Entry) → stay ≡ true →
    (t : Tree) → s ≡ Some t → CanMakeAt t limits area table A S i stay e → StagedAt s area table (made_at A i stay e) (staged_at S i stay e)
made_none s limits area table A S i stay e keeps t has can = subst (λ b. StagedAt s area table (made_at A i b e) (staged_at S i b e)) (sym keeps) (is_some_and (λ t. Staged t area table A S) has can.staged)

-- once it has begun, an object can get its bytes
module _ (t0 : Tree) (limits : ServerLimits) (area : List ℕ) (table0 : ConfTable) (A : List Entry) (S : List NameRow) (i : ℕ) (stay : Bool) (e : Entry) (goes : stay ≡ false) (live : is_null e ≡ false)
    (c : CanMakeAt t0 limits area table0 A S i stay e) (limits' : ServerLimits) (same : limits' ≡ limits) (table : ConfTable) where
  fill_at : (t : Tree) → Staged t area table (begun_at A i e) (staged_with S i e) → CanFill t limits' area table (begun_at A i e) (staged_with S i e) i e
  fill_at t st =
      let f = c.fills goes live in
      let old = old_entry t0 limits area table0 A S i e (c.begins goes) in
      let two = two_names st.sited.export area in
      let u = used_staged t area table (begun_at A i e) (staged_with S i e) st f.rising f.once two in
      let n = nodes_staged t area table (begun_at A i e) (staged_with S i e) st f.rising f.once two in
      let a = f.room.0 in
      let b = f.room.1 in
      record {
        staged = st;
        begun = slice_get-set_same A i (begun e) (entry_at A i) old;
        small = f.small;
        room = subst (λ l. HoldsUpTo l (len t.nodes) (used t + length (file_bytes e))) (sym same) (omega (arith, a, n), omega (arith, b, u));
      }

pub can_fill : (s0 : Option Tree) (limits limits' : ServerLimits) → limits' ≡ limits → (area : List ℕ) (table table' : ConfTable) (i : ℕ) (stay : Bool) (e : Entry) → stay ≡ false → is_null e ≡ false →
    IsSomeAnd s0 (λ t. (A : List Entry) × (S : List NameRow) × CanMakeAt t limits area table A S i stay e) → (s1 : Option Tree) →
    ((t : Tree) (A : List Entry) (S : List NameRow) → s0 ≡ Some t → CanBegin t limits area table A S i e → StagedAt s1 area table' (begun_at A i e) (staged_with S i e)) →
    IsSomeAnd s1 (λ t. (A : List Entry) × (S : List NameRow) × CanFill t limits' area table' A S i e)
can_fill s0 limits limits' same area table table' i stay e goes live can s1 begun =
    let k = some_and s0 (λ t. (A : List Entry) × (S : List NameRow) × CanMakeAt t limits area table A S i stay e) can in
    let x = some_and s1 (λ t. Staged t area table' (begun_at k.2.0 i e) (staged_with k.2.1 i e)) (begun k.0 k.2.0 k.2.1 k.1 (k.2.2.begins goes)) in
    is_some_and (λ t. (A : List Entry) × (S : List NameRow) × CanFill t limits' area table' A S i e) x.1
    (begun_at k.2.0 i e, staged_with k.2.1 i e, fill_at k.0 limits area table k.2.0 k.2.1 i stay e goes live k.2.2 limits' same table' x.0 x.2)

pub made_live : (s0 : Option Tree) (limits limits' : ServerLimits) → limits' ≡ limits → (area : List ℕ) (table table' : ConfTable) (i : ℕ) (stay : Bool) (e : Entry) → stay ≡ false → is_null e ≡ false →
    (t : Tree) (A : List Entry) (S : List NameRow) → s0 ≡ Some t → CanMakeAt t limits area table A S i stay e → (s1 s2 : Option Tree) →
    StagedAt s1 area table' (begun_at A i e) (staged_with S i e) →
    ((t : Tree) (A : List Entry) (S : List NameRow) → s1 ≡ Some t → CanFill t limits' area table' A S i e → StagedAt s2 area table' (filled_at A i e) S) →
    StagedAt s2 area table' (made_at A i stay e) (staged_at S i stay e)
made_live s0 limits limits' same area table table' i stay e goes live t A S has can s1 s2 started filled =
    let x = some_and s1 (λ t. Staged t area table' (begun_at A i e) (staged_with S i e)) started in
    let f = filled x.0 (begun_at A i e) (staged_with S i e) x.1 (fill_at t limits area table A S i stay e goes live can limits' same table' x.0 x.2) in
    subst (λ b. StagedAt s2 area table' (made_at A i b e) (staged_at S i b e)) (sym goes)
    (subst (λ B. StagedAt s2 area table' B (staged_with S i e)) (set-set A i (begun e) (whole e)) f)

-- an object's bytes are those with which it begins and those of its file
begun_and_rest : (e : Entry) → begun_bytes e + length (file_bytes e) ≡ length (bytes_of e)
begun_and_rest e = by_object e.object
  where
    by_object : (o : Object) → begun_bytes (record { generation = e.generation; object = o }) + length (file_bytes (record { generation = e.generation; object = o }))
        ≡ length (bytes_of (record { generation = e.generation; object = o }))
    by_object Null = refl
    by_object (File a b) = omega arith
    by_object (Dir a b) = refl
    by_object (Link a b) = omega arith

begun_used : (e : Entry) → used_by (begun e) ≡ begun_bytes e
begun_used e = by_object e.object
  where
    by_object : (o : Object) → used_by (begun (record { generation = e.generation; object = o })) ≡ begun_bytes (record { generation = e.generation; object = o })
    by_object Null = refl
    by_object (File a b) = refl
    by_object (Dir a b) = refl
    by_object (Link a b) = omega arith

-- at most one more is live
count_set : (A : List Entry) (i : ℕ) (e : Entry) → i < length A → count_by (λ e. not (is_null e)) (set A i e) ≤ count_by (λ e. not (is_null e)) A + 1
count_set A i e low =
    let s = sum_by-set (λ (e : Entry). cond (not (is_null e)) 1 0) A i e null_entry low in
    let one = at_most_one (not (is_null e)) in
    omega (arith, s, one)
  where
    at_most_one : (b : Bool) → cond b 1 0 ≤ 1
    at_most_one true = omega arith
    at_most_one false = omega arith

rising_set : (A : List Entry) (i : ℕ) (e : Entry) → i < length A → ((j : ℕ) (x : Entry) → slice_get A j ≡ Some x → is_rising (names_of x) ≡ true) → is_rising (names_of e) ≡ true →
    (j : ℕ) (x : Entry) → slice_get (set A i e) j ≡ Some x → is_rising (names_of x) ≡ true
rising_set A i e low old new j x at = elim (one_or_not j i) as (λ _. is_rising (names_of x) ≡ true) [
  | inl same ↦
      let y = there A i low in
      subst (λ e. is_rising (names_of e) ≡ true) (some_same (ap (slice_get (set A i e)) same ∙ slice_get-set_same A i e y.0 y.1) at) new
  | inr other ↦ old j x (sym (slice_get-set_other A i j e other) ∙ at)
]

-- THE NEXT INDEX

module _ (t0 : Tree) (limits : ServerLimits) (area : List ℕ) (table0 : ConfTable) (A : List Entry) (S : List NameRow) (after : List Entry) (stays : List Bool) (c : CanMake t0 limits area table0 A S after stays) where
  abbrev A_to : ℕ → List Entry
  A_to k = made_to A after stays k

  abbrev S_to : ℕ → List NameRow
  S_to k = staged_to S after stays k

  pub array_to : (k : ℕ) → k ≤ length A → MadeTo A after stays k (A_to k)
  array_to k below = made_so_far A after stays k below

  pub names_to : (k : ℕ) → k ≤ length A → StagedTo S after stays k (S_to k)
  names_to k below = staged_so_far S after stays (length A) c.few c.free c.once k below

  rising_to : (k : ℕ) → k ≤ length A → (i : ℕ) (e : Entry) → slice_get (A_to k) i ≡ Some e → is_rising (names_of e) ≡ true
  rising_to k below i e at =
      let m = array_to k below in
      let within : i < length A = (let a = slice_get_within (A_to k) i e at in let b = m.size in omega (arith, a, b)) in
      elim (le_or_lt k i) as (λ _. is_rising (names_of e) ≡ true) [
        | inl high ↦ c.rising i e (sym (m.rest i high) ∙ at)
        | inr low ↦ subst (λ e. is_rising (names_of e) ≡ true) (some_same (m.first i low within) at) (made_rising i within (stays_at stays i))
      ]
    where
      made_rising : (i : ℕ) → i < length A → (b : Bool) → is_rising (names_of (if b then entry_at A i else whole (entry_at after i))) ≡ true
      made_rising i within true = let x = there A i within in c.rising i (entry_at A i) (x.1 ∙ ap Some (sym (entry_at-some A i x.0 x.1)))
      made_rising i within false = whole_rising (entry_at after i)

  next : (k : ℕ) → k < length A → (t : Tree) (table : ConfTable) → Staged t area table (A_to k) (S_to k) → CanMakeAt t limits area table (A_to k) (S_to k) k (stays_at stays k) (entry_at after k)
  next k below t table st =
      let m = array_to k (omega (arith, below)) in
      let s = names_to k (omega (arith, below)) in
      record {
        staged = st;
        begins = λ goes. record {
          staged = st;
          within = (let a = m.size in omega (arith, a, below));
          null =
              let x = there A k below in
              let y : slice_get (A_to k) k ≡ Some x.0 = m.rest k (omega arith) ∙ x.1 in
              ap is_null (entry_at-some (A_to k) k x.0 y ∙ sym (entry_at-some A k x.0 x.1)) ∙ c.null k below goes;
          free = s.others (decimal k) (λ i low same. let e = decimal_apart k i (let f = c.few in omega (arith, below, f)) (let f = c.few in omega (arith, low, below, f)) same in absurd (omega (arith, e, low))) ∙ c.free k below goes;
          text = c.texts k below;
          room = λ live.
              let r = c.room k below goes live in
              let two = two_names st.sited.export area in
              let u = used_staged t area table (A_to k) (S_to k) st (rising_to k (omega (arith, below))) s.once two in
              let n = nodes_staged t area table (A_to k) (S_to k) st (rising_to k (omega (arith, below))) s.once two in
              let a = r.0 in
              let b = r.1 in
              let parts = begun_and_rest (entry_at after k) in
              (omega (arith, a, n), omega (arith, b, u, parts));
        };
        fills = λ goes live.
            let r = c.room k below goes live in
            let low : k < length (A_to k) = (let a = m.size in omega (arith, a, below)) in
            let parts = begun_and_rest (entry_at after k) in
            let more = used-set (A_to k) k (begun (entry_at after k)) low in
            let begins = begun_used (entry_at after k) in
            let one = count_set (A_to k) k (begun (entry_at after k)) low in
            let list : staged_with (S_to k) k (entry_at after k) ≡ row_in_staging k (entry_at after k) ∷ S_to k =
            ap (λ b. if b then S_to k else row_in_staging k (entry_at after k) ∷ S_to k) live in
            let size : length (staged_with (S_to k) k (entry_at after k)) ≡ suc (length (S_to k)) = ap length list in
            let none : row_of (decimal k) (S_to k) ≡ None = s.others (decimal k) (λ i low same. let e = decimal_apart k i (let f = c.few in omega (arith, below, f)) (let f = c.few in omega (arith, low, below, f)) same in absurd (omega (arith, e, low))) ∙ c.free k below goes in
            let a = r.0 in
            let b = r.1 in
            record {
              small = c.small k below;
              rising = λ j x at. rising_set (A_to k) k (begun (entry_at after k)) low (rising_to k (omega (arith, below))) (begun_rising (entry_at after k)) j x at;
              once = subst StandOnce (sym list) (once_more (S_to k) (row_in_staging k (entry_at after k)) s.once none);
              room = (omega (arith, a, one), omega (arith, b, more, begins, parts, size));
            };
      }

  -- the invariant: tree and table stand for the array as it is made so far
  pub next_at : (k : ℕ) → k < length A → (s : Option Tree) (table : ConfTable) → StagedAt s area table (A_to k) (S_to k) →
      IsSomeAnd s (λ t. (A : List Entry) × (S : List NameRow) × CanMakeAt t limits area table A S k (stays_at stays k) (entry_at after k))
  next_at k below s table at =
      let x = some_and s (λ t. Staged t area table (A_to k) (S_to k)) at in
      is_some_and (λ t. (A : List Entry) × (S : List NameRow) × CanMakeAt t limits area table A S k (stays_at stays k) (entry_at after k)) x.1 (A_to k, S_to k, next k below x.0 table x.2)

  pub next_can : (k : ℕ) → k < length A → (s : Option Tree) (table : ConfTable) → StagedAt s area table (A_to k) (S_to k) → (t : Tree) → s ≡ Some t →
      CanMakeAt t limits area table (A_to k) (S_to k) k (stays_at stays k) (entry_at after k)
  next_can k below s table at t has =
      let x = some_and s (λ t. Staged t area table (A_to k) (S_to k)) at in
      next k below t table (subst (λ t. Staged t area table (A_to k) (S_to k)) (some_same x.1 has) x.2)

-- THE LOOP

-- within a list it doesn't matter what stands past its end
pub get_same : {X : Type 0} (xs : List X) (i : ℕ) (d d' : X) → i < length xs → get_or xs i d ≡ get_or xs i d'
get_same xs i d d' below = some_same (slice_get-get_or xs i d below) (slice_get-get_or xs i d' below)

module _ (s0 : Option Tree) (limits : ServerLimits) (area : List ℕ) (table0 : ConfTable) (after : List Entry) (stays : List Bool) (k : ℕ) (below : k < length after)
    (s : Option Tree) (table : ConfTable) (inv : (t : Tree) (A : List Entry) (S : List NameRow) → s0 ≡ Some t → CanMake t limits area table0 A S after stays → StagedAt s area table (made_to A after stays k) (staged_to S after stays k))
    (stay : Bool) (e : Entry) (is_stay : stay ≡ stays_at stays k) (is_e : e ≡ entry_at after k) where
  pub loop_can : (limits' : ServerLimits) → limits' ≡ limits → IsSomeAnd s0 (λ t. (A : List Entry) × (S : List NameRow) × CanMake t limits area table0 A S after stays) →
      IsSomeAnd s (λ t. (A : List Entry) × (S : List NameRow) × CanMakeAt t limits' area table A S k stay e)
  loop_can limits' same can =
      let x = some_and s0 (λ t. (A : List Entry) × (S : List NameRow) × CanMake t limits area table0 A S after stays) can in
      let c = x.2.2 in
      subst (λ l. IsSomeAnd s (λ t. (A : List Entry) × (S : List NameRow) × CanMakeAt t l area table A S k stay e)) (sym same)
      (subst (λ b. IsSomeAnd s (λ t. (A : List Entry) × (S : List NameRow) × CanMakeAt t limits area table A S k b e)) (sym is_stay)
      (subst (λ e. IsSomeAnd s (λ t. (A : List Entry) × (S : List NameRow) × CanMakeAt t limits area table A S k (stays_at stays k) e)) (sym is_e)
      (next_at x.0 limits area table0 x.2.0 x.2.1 after stays c k (let a = c.size in omega (arith, a, below)) s table (inv x.0 x.2.0 x.2.1 x.1 c))))

  pub loop_made : (limits' : ServerLimits) → limits' ≡ limits → (t0 : Tree) (A : List Entry) (S : List NameRow) → s0 ≡ Some t0 → CanMake t0 limits area table0 A S after stays → (s' : Option Tree) (table' : ConfTable) →
      ((t : Tree) (A : List Entry) (S : List NameRow) → s ≡ Some t → CanMakeAt t limits' area table A S k stay e → StagedAt s' area table' (made_at A k stay e) (staged_at S k stay e)) →
      StagedAt s' area table' (made_to A after stays (k + 1)) (staged_to S after stays (k + 1))
  loop_made limits' same t0 A S has c s' table' made =
      let at = inv t0 A S has c in
      let x = some_and s (λ t. Staged t area table (made_to A after stays k) (staged_to S after stays k)) at in
      let can = next_can t0 limits area table0 A S after stays c k (let a = c.size in omega (arith, a, below)) s table at x.0 x.1 in
      let can' : CanMakeAt x.0 limits' area table (made_to A after stays k) (staged_to S after stays k) k stay e =
      subst (λ l. CanMakeAt x.0 l area table (made_to A after stays k) (staged_to S after stays k) k stay e) (sym same)
      (subst (λ b. CanMakeAt x.0 limits area table (made_to A after stays k) (staged_to S after stays k) k b e) (sym is_stay)
      (subst (λ e. CanMakeAt x.0 limits area table (made_to A after stays k) (staged_to S after stays k) k (stays_at stays k) e) (sym is_e) can)) in
      let more : suc k ≡ k + 1 = omega arith in
      subst (λ n. StagedAt s' area table' (made_to A after stays n) (staged_to S after stays n)) more
      (subst (λ b. StagedAt s' area table' (made_at (made_to A after stays k) k b (entry_at after k)) (staged_at (staged_to S after stays k) k b (entry_at after k))) is_stay
      (subst (λ e. StagedAt s' area table' (made_at (made_to A after stays k) k stay e) (staged_at (staged_to S after stays k) k stay e)) is_e
      (made x.0 (made_to A after stays k) (staged_to S after stays k) x.1 can')))

pub made_all : (s : Option Tree) (area : List ℕ) (table : ConfTable) (A : List Entry) (S : List NameRow) (after : List Entry) (stays : List Bool) (k n : ℕ) → k ≡ n →
    StagedAt s area table (made_to A after stays k) (staged_to S after stays k) → StagedAt s area table (made_to A after stays n) (staged_to S after stays n)
made_all s area table A S after stays k n same st = subst (λ n. StagedAt s area table (made_to A after stays n) (staged_to S after stays n)) same st
