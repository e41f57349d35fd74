-- A row is noted: what was found stays right.
use Rattle.std.proofs.Common.{◌≡◌, ◌≢◌, ◌⊎◌, inl, inr, ℕ, zero, suc, ◌+◌, ◌<◌, Bool, true, false, cond, List, [], ◌∷◌, ◌++◌, Option, Some, None, IsSomeAnd, is_some, length, slice_get, slice_set, get_or, refl, sym, ap, ◌∙◌, subst, arith, count_by}
use Rattle.std.specs.BTreeMap.{get}
use Rattle.std.specs.Ordering.{nat_cmp}
use Rattle.std.specs.Option.{option_and_then}
use Rattle.std.proofs.lemmas.Bool.{true≢false, cases_Bool}
use Rattle.std.proofs.lemmas.List.{length-set}
use Rattle.std.proofs.lemmas.List.Sums.{sum_by-set}
use Rattle.std.proofs.lemmas.Option.{slice_get_within, slice_get-get_or}
use Rattle.server_trait.specs.Tree.{Tree, node_at}
use Rattle.server_trait.specs.Calls.{IsAttr}
use Rattle.server_trait.proofs.TreeLaws.{some_same, some_none, and_then_some, one_or_not}
use Rattle.server_trait.specs.declared.server.NodeAttr.{NodeAttr}
use Rattle.server_trait.specs.declared.bench.ConfEntry.{ConfEntry}
use Rattle.server_trait.specs.declared.bench.ConfTable.{ConfTable}
use Rattle.abs_model.specs.declared.entry.Entry.{Entry}
use Rattle.abs_model.specs.Objects.{is_dir}
use Rattle.abs_model.specs.Array.{entry_at}
use Rattle.conf_map.specs.Stands.{handle_at}
use Rattle.conf_map.specs.Found.{is_dir_kind}
use Rattle.conf_map.proofs.InStep.{slice_get-set_same, slice_get-set_other}
use Rattle.restart.specs.Numbers.{IsNumbered}
use Rattle.restart.specs.Rows.{handle_of}
use Rattle.restart.specs.Walk.{Restarts, is_found, IsGoing, NotedBy, IsNoted, Grows}
use Rattle.restart.specs.declared.found.Found.{Found}
use Rattle.restart.proofs.MovedRows.{told_row}
use Rattle.restart.proofs.NumberRows.{row_of_number}

found-set_same : (hs : List (Option (List ℕ))) (i : ℕ) (q : List ℕ) → i < length hs → handle_of (slice_set hs i (Some q)) i ≡ Some q
found-set_same hs i q below = ap (option_and_then (λ o. o)) (slice_get-set_same hs i (Some q) (get_or hs i None) (slice_get-get_or hs i None below))

found-set_other : (hs : List (Option (List ℕ))) (i j : ℕ) (q : List ℕ) → j ≢ i → handle_of (slice_set hs i (Some q)) j ≡ handle_of hs j
found-set_other hs i j q ne = ap (option_and_then (λ o. o)) (slice_get-set_other hs i j (Some q) ne)

-- one more row is found
count_more : (hs : List (Option (List ℕ))) (i : ℕ) (q : List ℕ) → i < length hs → is_some (handle_of hs i) ≡ false → count_by (λ o. is_some o) (slice_set hs i (Some q)) ≡ count_by (λ o. is_some o) hs + 1
count_more hs i q below none =
    let at : handle_of hs i ≡ get_or hs i None = ap (option_and_then (λ o. o)) (slice_get-get_or hs i None below) in
    let was : cond (is_some (get_or hs i None)) 1 0 ≡ zero = ap (λ b. cond b 1 0) (ap is_some (sym at) ∙ none) in
    let e = sum_by-set (λ (o : Option (List ℕ)). cond (is_some o) 1 0) hs i (Some q) None below in
    omega (arith, e, was)

-- the last of a list, and those before it
push_last : (xs : List ℕ) (x : ℕ) → slice_get (xs ++ x ∷ []) (length xs) ≡ Some x
push_last [] x = refl
push_last (y ∷ xs) x = push_last xs x

push_before : (xs : List ℕ) (x j y : ℕ) → slice_get xs j ≡ Some y → slice_get (xs ++ x ∷ []) j ≡ Some y
push_before [] x j y is = absurd (let bad : None ≡ Some y = is in cc)
push_before (z ∷ xs) x zero y is = is
push_before (z ∷ xs) x (suc j) y is = push_before xs x j y is

push_either : (xs : List ℕ) (x j y : ℕ) → slice_get (xs ++ x ∷ []) j ≡ Some y → (slice_get xs j ≡ Some y) ⊎ (x ≡ y)
push_either [] x zero y is = inr (let same : x ≡ y = (let e : Some x ≡ Some y = is in cc) in same)
push_either [] x (suc j) y is = absurd (let bad : None ≡ Some y = is in cc)
push_either (z ∷ xs) x zero y is = inl is
push_either (z ∷ xs) x (suc j) y is = push_either xs x j y is

push_length : (xs : List ℕ) (x : ℕ) → length (xs ++ x ∷ []) ≡ length xs + 1
push_length [] x = refl
push_length (y ∷ xs) x = ap suc (push_length xs x) ∙ omega arith

-- what noting leaves
pub record Noted (table : ConfTable) (new : List ℕ → List ℕ) (A : List Entry) (f f' : Found) (i : ℕ) : Type 0 where
  pub going : IsGoing table new A f'
  pub here : is_found f' i ≡ true
  pub grows : Grows f f'

module _ (table : ConfTable) (new : List ℕ → List ℕ) (A : List Entry) (f f' : Found) (i : ℕ) (h q : List ℕ) (dir : Bool) (g : IsGoing table new A f)
    (at : handle_at table.rows.items i ≡ Some h) (is_new : q ≡ new h) (is_dir_i : dir ≡ is_dir (entry_at A i)) (n : IsNoted f i q dir f') where
  below : i < length f.handles.items
  below =
      let r = and_then_some (λ (r : ConfEntry). r.handle) (slice_get table.rows.items i) h at in
      let b = slice_get_within table.rows.items i r.0 r.1 in
      let size = g.size in
      omega (arith, b, size)

  old_way : is_found f i ≡ true → f' ≡ f → Noted table new A f f' i
  old_way found same = record {
    going = subst (IsGoing table new A) (sym same) g;
    here = ap (λ f. is_found f i) same ∙ found;
    grows = record { size = ap (λ (f : Found). length f.handles.items) same; found = λ j is. ap (λ f. is_found f j) same ∙ is; dirs = λ j x is. ap (λ (f : Found). slice_get f.dirs.items j) same ∙ is };
  }

  module _ (none : is_found f i ≡ false) (rows : f'.rows ≡ f.rows) (handles : f'.handles.items ≡ slice_set f.handles.items i (Some q)) where
    at_i : handle_of f'.handles.items i ≡ Some q
    at_i = ap (λ hs. handle_of hs i) handles ∙ found-set_same f.handles.items i q below

    beside : (j : ℕ) → j ≢ i → handle_of f'.handles.items j ≡ handle_of f.handles.items j
    beside j ne = ap (λ hs. handle_of hs j) handles ∙ found-set_other f.handles.items i j q ne

    found_here : is_found f' i ≡ true
    found_here = ap is_some at_i

    found_still : (j : ℕ) → is_found f j ≡ true → is_found f' j ≡ true
    found_still j is = elim (one_or_not j i) as (λ _. is_found f' j ≡ true) [
      | inl e ↦ ap (is_found f') e ∙ found_here
      | inr ne ↦ ap is_some (beside j ne) ∙ is
    ]

    right : (j : ℕ) (p : List ℕ) → handle_of f'.handles.items j ≡ Some p → (h : List ℕ) × (handle_at table.rows.items j ≡ Some h) × (p ≡ new h)
    right j p is = elim (one_or_not j i) as (λ _. (h : List ℕ) × (handle_at table.rows.items j ≡ Some h) × (p ≡ new h)) [
      | inl e ↦ (h, ap (handle_at table.rows.items) e ∙ at, some_same is (ap (handle_of f'.handles.items) e ∙ at_i) ∙ is_new)
      | inr ne ↦ g.right j p (sym (beside j ne) ∙ is)
    ]

    size : length f'.handles.items ≡ length table.rows.items
    size = ap length handles ∙ length-set f.handles.items i (Some q) ∙ g.size

    counted : count_by (λ o. is_some o) f'.handles.items ≡ count_by (λ o. is_some o) f.handles.items + 1
    counted = ap (count_by (λ (o : Option (List ℕ)). is_some o)) handles ∙ count_more f.handles.items i q below none

    as_dir : dir ≡ true → f'.dirs.items ≡ f.dirs.items ++ i ∷ [] → Noted table new A f f' i
    as_dir yes_dir dirs = record {
      going = record {
        numbered = subst (IsNumbered table.rows.items) (sym rows) g.numbered;
        size = size;
        right = right;
        dirs_found = λ j x is. elim (push_either f.dirs.items i j x (ap (λ ds. slice_get ds j) (sym dirs) ∙ is)) as (λ _. (is_found f' x ≡ true) × (is_dir (entry_at A x) ≡ true)) [
          | inl before ↦ (found_still x (g.dirs_found j x before).0, (g.dirs_found j x before).1)
          | inr same ↦ (ap (is_found f') (sym same) ∙ found_here, ap (λ x. is_dir (entry_at A x)) (sym same) ∙ sym is_dir_i ∙ yes_dir)
        ];
        all_dirs = λ x found d. elim (one_or_not x i) as (λ _. (j : ℕ) × (slice_get f'.dirs.items j ≡ Some x)) [
          | inl e ↦ (length f.dirs.items, ap (λ ds. slice_get ds (length f.dirs.items)) dirs ∙ push_last f.dirs.items i ∙ ap Some (sym e))
          | inr ne ↦ let b = g.all_dirs x (sym (ap is_some (beside x ne)) ∙ found) d in (b.0, ap (λ ds. slice_get ds b.0) dirs ∙ push_before f.dirs.items i b.0 x b.1)
        ];
        few = let l = ap length dirs ∙ push_length f.dirs.items i in let c = counted in let few = g.few in omega (arith, l, c, few);
      };
      here = found_here;
      grows = record { size = ap length handles ∙ length-set f.handles.items i (Some q); found = found_still; dirs = λ j x is. ap (λ ds. slice_get ds j) dirs ∙ push_before f.dirs.items i j x is };
    }

    as_other : dir ≡ false → f'.dirs.items ≡ f.dirs.items → Noted table new A f f' i
    as_other other dirs = record {
      going = record {
        numbered = subst (IsNumbered table.rows.items) (sym rows) g.numbered;
        size = size;
        right = right;
        dirs_found = λ j x is. let b = g.dirs_found j x (ap (λ ds. slice_get ds j) (sym dirs) ∙ is) in (found_still x b.0, b.1);
        all_dirs = λ x found d. elim (one_or_not x i) as (λ _. (j : ℕ) × (slice_get f'.dirs.items j ≡ Some x)) [
          | inl e ↦ absurd (true≢false (sym d ∙ ap (λ x. is_dir (entry_at A x)) e ∙ sym is_dir_i ∙ other))
          | inr ne ↦ let b = g.all_dirs x (sym (ap is_some (beside x ne)) ∙ found) d in (b.0, ap (λ ds. slice_get ds b.0) dirs ∙ b.1)
        ];
        few = let l = ap length dirs in let c = counted in let few = g.few in omega (arith, l, c, few);
      };
      here = found_here;
      grows = record { size = ap length handles ∙ length-set f.handles.items i (Some q); found = found_still; dirs = λ j x is. ap (λ ds. slice_get ds j) dirs ∙ is };
    }

  pub is_noted : Noted table new A f f' i
  is_noted = elim (cases_Bool (is_found f i)) as (λ _. Noted table new A f f' i) [
    | inl found ↦ old_way found (subst (λ b. NotedBy b f i q dir f') found n)
    | inr none ↦
        let k = subst (λ b. NotedBy b f i q dir f') none n in
        elim (cases_Bool dir) as (λ _. Noted table new A f f' i) [
          | inl yes_dir ↦ as_dir none k.rows k.handles yes_dir (k.dirs ∙ ap (λ b. cond b (f.dirs.items ++ i ∷ []) f.dirs.items) yes_dir)
          | inr other ↦ as_other none k.rows k.handles other (k.dirs ∙ ap (λ b. cond b (f.dirs.items ++ i ∷ []) f.dirs.items) other)
        ]
  ]

-- where the map has no row for a node's number
pub never_none : (s : Option Tree) (table : ConfTable) (A : List Entry) (k : Restarts s table A) (i : ℕ) (h q : List ℕ) (a : NodeAttr) (f : Found) → handle_at table.rows.items i ≡ Some h → q ≡ k.new h →
    ((t : Tree) → s ≡ Some t → IsSomeAnd (node_at t q) (IsAttr t q a)) → IsGoing table k.new A f → get nat_cmp f.rows a.number ≡ None → ⊥
never_none s table A k i h q a f at is told going none =
    let t = subst (λ q. IsSomeAnd (node_at k.now q) (IsAttr k.now q a)) is (told k.now k.has_tree) in
    some_none (told_row s table A k f.rows i h a going.numbered at t).0 none

-- the row of a node is noted, by its number
pub seen_noted : (s : Option Tree) (table : ConfTable) (A : List Entry) (k : Restarts s table A) (i j : ℕ) (h q : List ℕ) (a : NodeAttr) (dir : Bool) (f f' : Found) → handle_at table.rows.items i ≡ Some h → q ≡ k.new h →
    ((t : Tree) → s ≡ Some t → IsSomeAnd (node_at t q) (IsAttr t q a)) → get nat_cmp f.rows a.number ≡ Some j → dir ≡ is_dir_kind a.kind → IsGoing table k.new A f → IsNoted f j q dir f' →
    Noted table k.new A f f' i
seen_noted s table A k i j h q a dir f f' at is told found kind going n =
    let t = subst (λ q. IsSomeAnd (node_at k.now q) (IsAttr k.now q a)) is (told k.now k.has_tree) in
    let r = told_row s table A k f.rows i h a going.numbered at t in
    let same : j ≡ i = some_same found r.0 in
    is_noted table k.new A f f' i h q dir going at is (kind ∙ r.1) (subst (λ j. IsNoted f j q dir f') same n)

-- a number that the map has is that of a row
pub noted_within : (table : ConfTable) (new : List ℕ → List ℕ) (A : List Entry) (f : Found) (number j : ℕ) → IsGoing table new A f → get nat_cmp f.rows number ≡ Some j → j < length f.handles.items
noted_within table new A f number j g found =
    let r = row_of_number table.rows.items j number (g.numbered.sound number j found) in
    let b = slice_get_within table.rows.items j r.0 r.1 in
    let size = g.size in
    omega (arith, b, size)
