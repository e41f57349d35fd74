-- Where staging is found, and what stands when nothing is staged and the table is settled.
use Rattle.std.proofs.Common.{◌≡◌, ◌≢◌, inl, inr, ◌<◌, ◌≤◌, ◌+◌, ◌^◌, ℕ, suc, List, [], Bool, true, false, Option, Some, None, IsSome, IsSomeAnd, is_some, length, replicate, slice_get, slice_set, refl, sym, ap, ◌∙◌, subst, arith}
use Rattle.std.specs.Prelude.{get_or, not, ◌&&◌, ◌==◌}
use Rattle.std.specs.Option.{option_and_then}
use Rattle.std.specs.FinMap.{get, insert, empty}
use Rattle.std.proofs.lemmas.Bool.{cases_lt}
use Rattle.std.proofs.lemmas.List.{get_or-set_same, get_or-set_other, get_or-replicate, get_or_past, length-replicate}
use Rattle.nfs2_types.specs.declared.Limits.{Limits}
use Rattle.server_trait.specs.Tree.{Tree, Names, names_at, target}
use Rattle.server_trait.specs.declared.bench.ConfEntry.{ConfEntry}
use Rattle.server_trait.specs.declared.bench.ConfTable.{ConfTable}
use Rattle.server_trait.proofs.TreeLaws.{some_and, is_some_and, some_none, some_same, one_or_not, get-insert_same}
use Rattle.abs_model.specs.declared.entry.NameRow.{NameRow}
use Rattle.abs_model.specs.declared.entry.Entry.{Entry}
use Rattle.abs_model.specs.Objects.{is_dir, is_null, names_of}
use Rattle.abs_model.specs.Array.{entry_at, has_row_to, parent}
use Rattle.abs_model.specs.Valid.{Valid}
use Rattle.abs_model.proofs.Parents.{parent_leads, parent_below}
use Rattle.conf_map.specs.Stands.{IsParent, LeadTo, Stands, StandsValid, export_name, staging_name}
use Rattle.conf_map.specs.Tallied.{Tallied}
use Rattle.conf_map.proofs.ArrayFacts.{any_at, eq_is, eq_not, within_at}
use Rattle.conf_map.proofs.Frames.{entry_at-some}
use Rattle.conf_map.proofs.RowFacts.{row_of-at}
use Rattle.std.proofs.lemmas.Option.{slice_get_within}
use Rattle.staging.specs.Parents.{OnlyParents, under}
use Rattle.staging.specs.Staged.{Staged, StagedAt}
use Rattle.staging.proofs.OtherParents.{still_staged}
use Rattle.staging.proofs.WithStands.{ParentsAre, at_rest, rests}
use Rattle.rebuilding.specs.Name.{bit_at}
use Rattle.rebuilding.specs.Rebuild.{is_object}
use Rattle.rebuilding.proofs.ValidNames.{rising_in}

-- STAGING

module _ (s : Option Tree) (table : ConfTable) (A : List Entry) (st : Stands s table A) (root : List ℕ) (root_is : (t : Tree) → s ≡ Some t → root ≡ t.root) where
  root_same : root ≡ st.tree.root
  root_same = root_is st.tree st.has_tree

  pub root_there : IsSomeAnd s (λ t. IsSome (names_at t root))
  root_there = is_some_and (λ t. IsSome (names_at t root)) st.has_tree (ap is_some (ap (names_at st.tree) root_same ∙ st.placed.root_has))

  leads : target st.tree root staging_name ≡ Some st.placed.staging
  leads = ap (λ r. target st.tree r staging_name) root_same ∙ ap (option_and_then (λ (m : Names). get m staging_name)) st.placed.root_has
      ∙ get-insert_same (insert empty export_name st.placed.export) staging_name st.placed.staging

  pub staging_found : (h : List ℕ) → ((t : Tree) → s ≡ Some t → target t root staging_name ≡ Some h) → (s' : Option Tree) → s' ≡ s → StagedAt s' h table A []
  staging_found h found s' same =
      let is : st.placed.staging ≡ h = some_same leads (found st.tree st.has_tree) in
      is_some_and (λ t. Staged t h table A []) (same ∙ st.has_tree) (subst (λ h. Staged st.tree h table A []) is (at_rest s table A st))

  pub staging_there : {X : Type 0} → ((t : Tree) → s ≡ Some t → target t root staging_name ≡ None) → X
  staging_there found = absurd (some_none leads (found st.tree st.has_tree))

-- MARKS

-- one more index is marked, or has nothing to be marked
module _ (C : List Entry) (i : ℕ) (marks marks' : List Bool) (first : i ≢ 0) (bits : (j : ℕ) → j < i → bit_at marks j ≡ is_object C j) (rest : (j : ℕ) → i ≤ j → bit_at marks j ≡ false) where
  object_here : is_object C i ≡ not (is_null (entry_at C i))
  object_here = ap (λ b. not b && not (is_null (entry_at C i))) (eq_not i 0 first)

  pub marked_more : (b : Bool) → b ≡ not (is_null (entry_at C i)) → i < length marks → marks' ≡ slice_set marks i b →
      ((j : ℕ) → j < i + 1 → bit_at marks' j ≡ is_object C j) × ((j : ℕ) → i + 1 ≤ j → bit_at marks' j ≡ false)
  marked_more b object low is = (
    λ j below. elim (one_or_not j i) as (λ _. bit_at marks' j ≡ is_object C j) [
      | inl e ↦ subst (λ j. bit_at marks' j ≡ is_object C j) (sym e) (ap (λ m. bit_at m i) is ∙ get_or-set_same marks i b false low ∙ object ∙ sym object_here)
      | inr ne ↦ ap (λ m. bit_at m j) is ∙ get_or-set_other marks i j b false ne ∙ bits j (omega (arith, below, ne))
    ],
    λ j high. ap (λ m. bit_at m j) is ∙ get_or-set_other marks i j b false (λ e. absurd (omega (arith, e, high))) ∙ rest j (omega (arith, high)),
  )

-- before the first turn
pub marked_none : (C : List Entry) (marks : List Bool) → ((j : ℕ) → bit_at marks j ≡ false) → (j : ℕ) → j < 1 → bit_at marks j ≡ is_object C j
marked_none C marks clear j below = let first : j ≡ 0 = omega (arith, below) in subst (λ j. bit_at marks j ≡ is_object C j) (sym first) (clear 0)

-- a list of marks that are not set
pub clear_marks : (n j : ℕ) → bit_at (replicate n false) j ≡ false
clear_marks n j = elim (cases_lt j n) as (λ _. bit_at (replicate n false) j ≡ false) [
  | inl low ↦ get_or-replicate n j false false low
  | inr past ↦ get_or_past (replicate n false) j false (let l = length-replicate {A = Bool} n false in omega (arith, l, past))
]

-- PARENTS

pub only_both : (a b c : ConfTable) → OnlyParents a b → OnlyParents b c → OnlyParents a c
only_both a b c k l = record {
  size = l.size ∙ k.size;
  rows = λ i r at.
      let y = l.rows i r at in
      let x = k.rows i y.0 y.1 in
      (x.0, x.1, y.2 ∙ ap (under r.parent) x.2);
  by_handle = l.by_handle ∙ k.by_handle;
}

pub parents_more : (entries : List Entry) (i : ℕ) (now next : List ConfEntry) →
    ((j : ℕ) (r : ConfEntry) → j < i → slice_get now j ≡ Some r → is_dir (entry_at entries j) ≡ true → r.parent ≡ parent entries j) →
    ((j : ℕ) → j ≢ i → slice_get next j ≡ slice_get now j) →
    ((r : ConfEntry) → slice_get next i ≡ Some r → is_dir (entry_at entries i) ≡ true → r.parent ≡ parent entries i) →
    (j : ℕ) (r : ConfEntry) → j < i + 1 → slice_get next j ≡ Some r → is_dir (entry_at entries j) ≡ true → r.parent ≡ parent entries j
parents_more entries i now next was others here j r below at dir = elim (one_or_not j i) as (λ _. r.parent ≡ parent entries j) [
  | inl e ↦ here r (ap (slice_get next) (sym e) ∙ at) (ap (λ j. is_dir (entry_at entries j)) (sym e) ∙ dir) ∙ ap (parent entries) (sym e)
  | inr ne ↦ was j r (omega (arith, below, ne)) (sym (others j ne) ∙ at) dir
]

module _ (limits : Limits) (C : List Entry) (v : Valid limits C) (table : ConfTable)
    (parents : (i : ℕ) (r : ConfEntry) → i < length C → slice_get table.rows.items i ≡ Some r → is_dir (entry_at C i) ≡ true → r.parent ≡ parent C i) where
  -- the directory found for an index is its parent
  is_parent : (i : ℕ) → is_dir (entry_at C i) ≡ true → IsParent C (parent C i) i
  is_parent i dir = (
    λ e. ap (parent C) e,
    λ ne.
        let has = parent_leads limits C i v dir ne in
        let low = parent_below limits C i v dir in
        let k = any_at (names_of (entry_at C (parent C i))) i has in
        (k.1.name, k.1, row_of-at (names_of (entry_at C (parent C i))) k.0 k.1 (rising_in limits C v (parent C i) low) k.2, k.3),
  )

  pub parents_are : ParentsAre table C
  parents_are i r e is_r is_e dir =
      let same = entry_at-some C i e is_e in
      let dir' : is_dir (entry_at C i) ≡ true = ap is_dir same ∙ dir in
      subst (λ p. IsParent C p i) (sym (parents i r (slice_get_within C i e is_e) is_r dir')) (is_parent i dir')

-- THE END

pub settled : (limits : Limits) (C : List Entry) (v : Valid limits C) (old mid new : ConfTable) → OnlyParents old mid →
    ((i : ℕ) (r : ConfEntry) → i < length C → slice_get mid.rows.items i ≡ Some r → is_dir (entry_at C i) ≡ true → r.parent ≡ parent C i) →
    new.rows ≡ mid.rows → new.by_handle ≡ mid.by_handle → Tallied new C → (s : Option Tree) (area : List ℕ) → StagedAt s area old C [] → StandsValid limits s new C
settled limits C v old mid new only parents rows map tallied s area at =
    let same : OnlyParents mid new = record {
      size = ap (λ rows. length rows.items) rows;
      rows = λ i r is. (r, ap (λ rows. slice_get rows.items i) (sym rows) ∙ is, refl);
      by_handle = map;
    } in
    let x = some_and s (λ t. Staged t area old C []) at in
    let st = still_staged old new (only_both old mid new only same) x.0 area C [] x.2 in
    record {
      valid = v;
      stands = rests s x.0 area new C x.1 st (parents_are limits C v new (λ i r low is. parents i r low (ap (λ rows. slice_get rows.items i) (sym rows) ∙ is)));
      tallied = tallied;
    }

pub rows_as_entries : (s : Option Tree) (area : List ℕ) (table : ConfTable) (A : List Entry) (S : List NameRow) → StagedAt s area table A S → length table.rows.items ≡ length A
rows_as_entries s area table A S at = (some_and s (λ t. Staged t area table A S) at).2.size
