-- Phase 4, all objects, but for the bytes of files.
use Rattle.std.proofs.Common.{◌≡◌, ◌<◌, ◌+◌, ℕ, suc, List, Option, Some, None, IsSomeAnd, length, sym, subst, arith}
use Rattle.server_trait.specs.Tree.{Tree}
use Rattle.server_trait.proofs.TreeLaws.{some_and, is_some_and, some_same}
use Rattle.server_trait.specs.declared.bench.ConfTable.{ConfTable}
use Rattle.abs_model.specs.declared.entry.Attr.{Attr}
use Rattle.abs_model.specs.declared.entry.NameRow.{NameRow}
use Rattle.abs_model.specs.declared.entry.Entry.{Entry}
use Rattle.abs_model.specs.Array.{entry_at}
use Rattle.rebuilding.specs.Fill.{CanDressAll, CanDressAt, dressed_if, dressed_to, live_attr}
use Rattle.staging.specs.Dress.{CanDress, dressed_at}
use Rattle.staging.specs.Staged.{Staged, StagedAt}

pub dress_can : (s : Option Tree) (area : List ℕ) (table : ConfTable) (i : ℕ) (e : Entry) (attr : Attr) → Some attr ≡ live_attr e → IsSomeAnd s (λ t. (A : List Entry) × (S : List NameRow) × CanDressAt t area table A S i e) →
    IsSomeAnd s (λ t. (A : List Entry) × (S : List NameRow) × CanDress t area table A S i)
dress_can s area table i e attr is can =
    let x = some_and s (λ t. (A : List Entry) × (S : List NameRow) × CanDressAt t area table A S i e) can in
    is_some_and (λ t. (A : List Entry) × (S : List NameRow) × CanDress t area table A S i) x.1 (x.2.0, x.2.1, record { staged = x.2.2.staged; live = x.2.2.live attr (sym is) })

pub dress_one : (t : Tree) (area : List ℕ) (table : ConfTable) (A : List Entry) (S : List NameRow) (i : ℕ) (e : Entry) (attr : Attr) → Some attr ≡ live_attr e → CanDressAt t area table A S i e → (s' : Option Tree) (table' : ConfTable) →
    (CanDress t area table A S i → StagedAt s' area table' (dressed_at A i e.generation attr) S) → StagedAt s' area table' (dressed_if A i e.generation (live_attr e)) S
dress_one t area table A S i e attr is can s' table' done =
    subst (λ o. StagedAt s' area table' (dressed_if A i e.generation o) S) is (done (record { staged = can.staged; live = can.live attr (sym is) }))

pub dress_none : (s : Option Tree) (t : Tree) (area : List ℕ) (table : ConfTable) (A : List Entry) (S : List NameRow) (i : ℕ) (e : Entry) → None ≡ live_attr e → s ≡ Some t → CanDressAt t area table A S i e →
    StagedAt s area table (dressed_if A i e.generation (live_attr e)) S
dress_none s t area table A S i e is has can = subst (λ o. StagedAt s area table (dressed_if A i e.generation o) S) is (is_some_and (λ t. Staged t area table A S) has can.staged)

module _ (s0 : Option Tree) (area : List ℕ) (table0 : ConfTable) (after : List Entry) (k : ℕ) (below : k < length after) (s : Option Tree) (table : ConfTable)
    (inv : (t : Tree) (A : List Entry) (S : List NameRow) → s0 ≡ Some t → CanDressAll t area table0 A S after → StagedAt s area table (dressed_to A after k) S) (e : Entry) (is_e : e ≡ entry_at after k) where
  can_at : (t : Tree) (A : List Entry) (S : List NameRow) → s ≡ Some t → (t0 : Tree) → s0 ≡ Some t0 → CanDressAll t0 area table0 A S after → CanDressAt t area table (dressed_to A after k) S k e
  can_at t A S at t0 has c =
      let x = some_and s (λ t. Staged t area table (dressed_to A after k) S) (inv t0 A S has c) in
      subst (λ e. CanDressAt t area table (dressed_to A after k) S k e) (sym is_e)
      (record { staged = subst (λ t. Staged t area table (dressed_to A after k) S) (some_same x.1 at) x.2; live = c.live k below })

  pub all_can : IsSomeAnd s0 (λ t. (A : List Entry) × (S : List NameRow) × CanDressAll t area table0 A S after) → IsSomeAnd s (λ t. (A : List Entry) × (S : List NameRow) × CanDressAt t area table A S k e)
  all_can can =
      let x = some_and s0 (λ t. (A : List Entry) × (S : List NameRow) × CanDressAll t area table0 A S after) can in
      let y = some_and s (λ t. Staged t area table (dressed_to x.2.0 after k) x.2.1) (inv x.0 x.2.0 x.2.1 x.1 x.2.2) in
      is_some_and (λ t. (A : List Entry) × (S : List NameRow) × CanDressAt t area table A S k e) y.1 (dressed_to x.2.0 after k, x.2.1, can_at y.0 x.2.0 x.2.1 y.1 x.0 x.1 x.2.2)

  pub all_dressed : (t0 : Tree) (A : List Entry) (S : List NameRow) → s0 ≡ Some t0 → CanDressAll t0 area table0 A S after → (s' : Option Tree) (table' : ConfTable) →
      ((t : Tree) (A : List Entry) (S : List NameRow) → s ≡ Some t → CanDressAt t area table A S k e → StagedAt s' area table' (dressed_if A k e.generation (live_attr e)) S) →
      StagedAt s' area table' (dressed_to A after (k + 1)) S
  all_dressed t0 A S has c s' table' done =
      let y = some_and s (λ t. Staged t area table (dressed_to A after k) S) (inv t0 A S has c) in
      let more : suc k ≡ k + 1 = omega arith in
      subst (λ n. StagedAt s' area table' (dressed_to A after n) S) more
      (subst (λ e. StagedAt s' area table' (dressed_if (dressed_to A after k) k e.generation (live_attr e)) S) is_e
      (done y.0 (dressed_to A after k) S y.1 (can_at y.0 A S y.1 t0 has c)))

pub to_the_end : (s : Option Tree) (area : List ℕ) (table : ConfTable) (A : List Entry) (S : List NameRow) (after : List Entry) (k n : ℕ) → k ≡ n → StagedAt s area table (dressed_to A after k) S → StagedAt s area table (dressed_to A after n) S
to_the_end s area table A S after k n same st = subst (λ n. StagedAt s area table (dressed_to A after n) S) same st
