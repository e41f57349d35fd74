-- Phase 5, the names of a directory.
use Rattle.std.proofs.Common.{◌≡◌, ◌<◌, ◌+◌, ℕ, zero, suc, List, Bool, false, Option, Some, IsSomeAnd, length, slice_get, slice_set, refl, sym, ap, ◌∙◌, subst, arith}
use Rattle.std.proofs.lemmas.List.{length-set}
use Rattle.server_trait.specs.Tree.{Tree}
use Rattle.server_trait.proofs.TreeLaws.{some_and, is_some_and, some_same}
use Rattle.server_trait.specs.declared.server.ServerLimits.{ServerLimits}
use Rattle.server_trait.specs.declared.bench.ConfTable.{ConfTable}
use Rattle.abs_model.specs.declared.entry.NameRow.{NameRow}
use Rattle.abs_model.specs.declared.entry.Entry.{Entry}
use Rattle.abs_model.specs.Objects.{names_of}
use Rattle.abs_model.specs.Array.{entry_at}
use Rattle.rebuilding.specs.Name.{CanName, CanNameDir, LeadWithin, all_bits_to, all_out_to, bit_at, bits_to, named_to, out_to, put_to, row_at}
use Rattle.staging.specs.Put.{CanPutAt, let_out}
use Rattle.staging.specs.Place.{put_in}
use Rattle.staging.specs.Staged.{Staged, StagedAt}

pub length_bits : (bits : List Bool) (rows : List NameRow) (k : ℕ) → length (bits_to bits rows k) ≡ length bits
length_bits bits rows zero = refl
length_bits bits rows (suc k) = length-set (bits_to bits rows k) (row_at rows k).index false ∙ length_bits bits rows k

pub bits_more : (bits : List Bool) (rows : List NameRow) (k : ℕ) (row : NameRow) → row ≡ row_at rows k → (now next : List Bool) → now ≡ bits_to bits rows k → next ≡ slice_set now row.index false → next ≡ bits_to bits rows (k + 1)
bits_more bits rows k row is now next at set_is =
    let more : suc k ≡ k + 1 = omega arith in
    set_is ∙ ap (λ (r : NameRow). slice_set now r.index false) is ∙ ap (λ bits. slice_set bits (row_at rows k).index false) at ∙ ap (bits_to bits rows) more

module _ (s0 : Option Tree) (most : ServerLimits) (area : List ℕ) (table : ConfTable) (d : ℕ) (rows : List NameRow) (bits : List Bool) (k : ℕ) (below : k < length rows)
    (s : Option Tree) (inv : (t : Tree) (A C : List Entry) (S : List NameRow) → s0 ≡ Some t → CanNameDir t most area table A C S bits d rows → StagedAt s area table (put_to A d rows k) (out_to S bits rows k))
    (is_staged : Bool) (row : NameRow) (is_bit : is_staged ≡ bit_at (bits_to bits rows k) (row_at rows k).index) (is_row : row ≡ row_at rows k) (most' : ServerLimits) (same : most' ≡ most) where
  can_at : (t : Tree) (A C : List Entry) (S : List NameRow) → s ≡ Some t → (t0 : Tree) → s0 ≡ Some t0 → CanNameDir t0 most area table A C S bits d rows → CanPutAt t most' area table (put_to A d rows k) C (out_to S bits rows k) is_staged d row
  can_at t A C S at t0 has c =
      let x = some_and s (λ t. Staged t area table (put_to A d rows k) (out_to S bits rows k)) (inv t0 A C S has c) in
      subst (λ m. CanPutAt t m area table (put_to A d rows k) C (out_to S bits rows k) is_staged d row) (sym same)
      (subst (λ b. CanPutAt t most area table (put_to A d rows k) C (out_to S bits rows k) b d row) (sym is_bit)
      (subst (λ r. CanPutAt t most area table (put_to A d rows k) C (out_to S bits rows k) (bit_at (bits_to bits rows k) (row_at rows k).index) d r) (sym is_row)
      (record { staged = subst (λ t. Staged t area table (put_to A d rows k) (out_to S bits rows k)) (some_same x.1 at) x.2; can = c.each k below })))

  pub dir_can : IsSomeAnd s0 (λ t. (A : List Entry) × (C : List Entry) × (S : List NameRow) × CanNameDir t most area table A C S bits d rows) →
      IsSomeAnd s (λ t. (A : List Entry) × (C : List Entry) × (S : List NameRow) × CanPutAt t most' area table A C S is_staged d row)
  dir_can can =
      let x = some_and s0 (λ t. (A : List Entry) × (C : List Entry) × (S : List NameRow) × CanNameDir t most area table A C S bits d rows) can in
      let y = some_and s (λ t. Staged t area table (put_to x.2.0 d rows k) (out_to x.2.2 bits rows k)) (inv x.0 x.2.0 x.2.1 x.2.2 x.1 x.2.3) in
      is_some_and (λ t. (A : List Entry) × (C : List Entry) × (S : List NameRow) × CanPutAt t most' area table A C S is_staged d row) y.1
      (put_to x.2.0 d rows k, x.2.1, out_to x.2.2 bits rows k, can_at y.0 x.2.0 x.2.1 x.2.2 y.1 x.0 x.1 x.2.3)

  pub dir_put : (t0 : Tree) (A C : List Entry) (S : List NameRow) → s0 ≡ Some t0 → CanNameDir t0 most area table A C S bits d rows → (s' : Option Tree) →
      ((t : Tree) (A C : List Entry) (S : List NameRow) → s ≡ Some t → CanPutAt t most' area table A C S is_staged d row → StagedAt s' area table (put_in A d row) (let_out S is_staged row)) →
      StagedAt s' area table (put_to A d rows (k + 1)) (out_to S bits rows (k + 1))
  dir_put t0 A C S has c s' put =
      let y = some_and s (λ t. Staged t area table (put_to A d rows k) (out_to S bits rows k)) (inv t0 A C S has c) in
      let more : suc k ≡ k + 1 = omega arith in
      subst (λ n. StagedAt s' area table (put_to A d rows n) (out_to S bits rows n)) more
      (subst (λ b. StagedAt s' area table (put_in (put_to A d rows k) d (row_at rows k)) (let_out (out_to S bits rows k) b (row_at rows k))) is_bit
      (subst (λ r. StagedAt s' area table (put_in (put_to A d rows k) d r) (let_out (out_to S bits rows k) is_staged r)) is_row
      (put y.0 (put_to A d rows k) C (out_to S bits rows k) y.1 (can_at y.0 A C S y.1 t0 has c))))

pub dir_all : (s : Option Tree) (area : List ℕ) (table : ConfTable) (A : List Entry) (S : List NameRow) (d : ℕ) (rows : List NameRow) (bits : List Bool) (k n : ℕ) → k ≡ n →
    StagedAt s area table (put_to A d rows k) (out_to S bits rows k) → StagedAt s area table (put_to A d rows n) (out_to S bits rows n)
dir_all s area table A S d rows bits k n same st = subst (λ n. StagedAt s area table (put_to A d rows n) (out_to S bits rows n)) same st

-- ALL DIRECTORIES

pub length_all_bits : (bits : List Bool) (C : List Entry) (d : ℕ) → length (all_bits_to bits C d) ≡ length bits
length_all_bits bits C zero = refl
length_all_bits bits C (suc d) = length_bits (all_bits_to bits C d) (names_of (entry_at C d)) (length (names_of (entry_at C d))) ∙ length_all_bits bits C d

pub all_bits_more : (bits : List Bool) (C : List Entry) (d : ℕ) (rows : List NameRow) → rows ≡ names_of (entry_at C d) → (now next : List Bool) → now ≡ all_bits_to bits C d → next ≡ bits_to now rows (length rows) → next ≡ all_bits_to bits C (d + 1)
all_bits_more bits C d rows is now next at set_is =
    let more : suc d ≡ d + 1 = omega arith in
    set_is ∙ ap (λ rows. bits_to now rows (length rows)) is ∙ ap (λ bits. bits_to bits (names_of (entry_at C d)) (length (names_of (entry_at C d)))) at ∙ ap (all_bits_to bits C) more

pub all_within : (bits : List Bool) (C : List Entry) (d : ℕ) (rows : List NameRow) → rows ≡ names_of (entry_at C d) → (now : List Bool) → now ≡ all_bits_to bits C d → LeadWithin C bits → (k : ℕ) (r : NameRow) → slice_get rows k ≡ Some r → r.index < length now
all_within bits C d rows is now at within k r got =
    let low = within d k r (ap (λ rows. slice_get rows k) (sym is) ∙ got) in
    let same : length now ≡ length bits = ap length at ∙ length_all_bits bits C d in
    omega (arith, low, same)

module _ (s0 : Option Tree) (most : ServerLimits) (area : List ℕ) (table : ConfTable) (C : List Entry) (bits : List Bool) (d : ℕ) (below : d < length C)
    (s : Option Tree) (inv : (t : Tree) (A : List Entry) (S : List NameRow) → s0 ≡ Some t → CanName t most area table A C S bits → StagedAt s area table (named_to A C d) (all_out_to S bits C d))
    (now : List Bool) (is_bits : now ≡ all_bits_to bits C d) (rows : List NameRow) (is_rows : rows ≡ names_of (entry_at C d)) (most' : ServerLimits) (same : most' ≡ most) where
  dir_at : (t : Tree) (A : List Entry) (S : List NameRow) → s ≡ Some t → (t0 : Tree) → s0 ≡ Some t0 → CanName t0 most area table A C S bits → CanNameDir t most' area table (named_to A C d) C (all_out_to S bits C d) now d rows
  dir_at t A S at t0 has c =
      let x = some_and s (λ t. Staged t area table (named_to A C d) (all_out_to S bits C d)) (inv t0 A S has c) in
      subst (λ m. CanNameDir t m area table (named_to A C d) C (all_out_to S bits C d) now d rows) (sym same)
      (subst (λ b. CanNameDir t most area table (named_to A C d) C (all_out_to S bits C d) b d rows) (sym is_bits)
      (subst (λ r. CanNameDir t most area table (named_to A C d) C (all_out_to S bits C d) (all_bits_to bits C d) d r) (sym is_rows)
      (record { staged = subst (λ t. Staged t area table (named_to A C d) (all_out_to S bits C d)) (some_same x.1 at) x.2; each = c.each d below })))

  pub all_can : IsSomeAnd s0 (λ t. (A : List Entry) × (S : List NameRow) × CanName t most area table A C S bits) →
      IsSomeAnd s (λ t. (A : List Entry) × (C : List Entry) × (S : List NameRow) × CanNameDir t most' area table A C S now d rows)
  all_can can =
      let x = some_and s0 (λ t. (A : List Entry) × (S : List NameRow) × CanName t most area table A C S bits) can in
      let y = some_and s (λ t. Staged t area table (named_to x.2.0 C d) (all_out_to x.2.1 bits C d)) (inv x.0 x.2.0 x.2.1 x.1 x.2.2) in
      is_some_and (λ t. (A : List Entry) × (C : List Entry) × (S : List NameRow) × CanNameDir t most' area table A C S now d rows) y.1
      (named_to x.2.0 C d, C, all_out_to x.2.1 bits C d, dir_at y.0 x.2.0 x.2.1 y.1 x.0 x.1 x.2.2)

  pub all_put : (t0 : Tree) (A : List Entry) (S : List NameRow) → s0 ≡ Some t0 → CanName t0 most area table A C S bits → (s' : Option Tree) →
      ((t : Tree) (A C : List Entry) (S : List NameRow) → s ≡ Some t → CanNameDir t most' area table A C S now d rows → StagedAt s' area table (put_to A d rows (length rows)) (out_to S now rows (length rows))) →
      StagedAt s' area table (named_to A C (d + 1)) (all_out_to S bits C (d + 1))
  all_put t0 A S has c s' put =
      let y = some_and s (λ t. Staged t area table (named_to A C d) (all_out_to S bits C d)) (inv t0 A S has c) in
      let more : suc d ≡ d + 1 = omega arith in
      subst (λ n. StagedAt s' area table (named_to A C n) (all_out_to S bits C n)) more
      (subst (λ r. StagedAt s' area table (put_to (named_to A C d) d r (length r)) (out_to (all_out_to S bits C d) (all_bits_to bits C d) r (length r))) is_rows
      (subst (λ b. StagedAt s' area table (put_to (named_to A C d) d rows (length rows)) (out_to (all_out_to S bits C d) b rows (length rows))) is_bits
      (put y.0 (named_to A C d) C (all_out_to S bits C d) y.1 (dir_at y.0 A S y.1 t0 has c))))

pub name_all : (s : Option Tree) (area : List ℕ) (table : ConfTable) (A C : List Entry) (S : List NameRow) (bits : List Bool) (d n : ℕ) → d ≡ n →
    StagedAt s area table (named_to A C d) (all_out_to S bits C d) → StagedAt s area table (named_to A C n) (all_out_to S bits C n)
name_all s area table A C S bits d n same st = subst (λ n. StagedAt s area table (named_to A C n) (all_out_to S bits C n)) same st
