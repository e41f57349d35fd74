-- A tree beside the free blocks, and what each change of it leaves.
use Rattle.std.specs.Prelude.{◌≡◌, ◌≢◌, ℕ, suc, ◌+◌, ◌^◌, ◌<◌, ◌≤◌, ◌⊎◌, List, Bool, true, length}
use Rattle.block_alloc.specs.Free.{is_free}
use Rattle.pointer_tree.specs.Tree.{Content, IsBlock, one_if, zeros, block, uses}
use Rattle.pointer_tree.specs.Size.{is_tight}
use Rattle.pointer_tree.specs.declared.node.Area.{Area}

-- one where a block is free
abbrev pub free : List Bool → ℕ → ℕ
free m b = one_if (is_free m b)

-- a tree's top is none, or a block of the area
abbrev pub IsTop : Area → ℕ → Type 0
IsTop area top = (top ≡ 0) ⊎ IsBlock area top

-- The free blocks are of the area, which lies on the medium.
pub record Fits (area : Area) (size : ℕ) (m : List Bool) : Type 0 where
  pub within : (b : ℕ) → 1 ≤ free m b → IsBlock area b
  pub not_zero : 1 ≤ area.first
  pub on_medium : area.end ≤ size
  pub small : size < 2 ^ 32

-- A tree beside the free blocks: no block stands in both, or twice.
pub record Stands (area : Area) (d top : ℕ) (c : Content) (m : List Bool) : Type 0 where
  pub once : (b : ℕ) → uses area c d top b + free m b ≤ 1
  pub top_is : IsTop area top

-- Blocks moved from the free ones to the tree, and nothing else was written.
pub record Grows (area : Area) (d top : ℕ) (c : Content) (m : List Bool) (top' : ℕ) (c' : Content) (m' : List Bool)
    : Type 0 where
  pub there : IsBlock area top'
  pub kept : (b : ℕ) → uses area c' d top' b + free m' b ≡ uses area c d top b + free m b
  pub fewer : (b : ℕ) → free m' b ≤ free m b
  pub frame : (b : ℕ) → uses area c d top b + free m b ≡ 0 → c' b ≡ c b

-- The tree has a top now, and the blocks that it had.
pub record Roots (area : Area) (d top : ℕ) (c : Content) (m : List Bool) (top' : ℕ) (c' : Content) (m' : List Bool)
    : Type 0 where
  pub grows : Grows area d top c m top' c' m'
  pub same : (k : ℕ) → block area c' d top' k ≡ block area c d top k
  pub tight : (n n' : ℕ) → is_tight area c d top n ≡ true → n ≤ n' → 0 < n' → is_tight area c' d top' n' ≡ true

-- The tree's block `index` is these bytes, and each other block is as it was.
pub record Puts (area : Area) (d top index : ℕ) (bytes : List ℕ) (c : Content) (m : List Bool) (top' : ℕ)
    (c' : Content) (m' : List Bool) : Type 0 where
  pub grows : Grows area d top c m top' c' m'
  pub put : block area c' d top' index ≡ bytes
  pub others : (k : ℕ) → k < 128 ^ d → k ≢ index → block area c' d top' k ≡ block area c d top k
  pub tight : (n n' : ℕ) → is_tight area c d top n ≡ true → n ≤ n' → index < n' → is_tight area c' d top' n' ≡ true

-- Blocks moved between a tree and the free ones, and no other block was written.
pub record Moves (area : Area) (d top : ℕ) (c : Content) (m : List Bool) (d' top' : ℕ) (c' : Content) (m' : List Bool)
    : Type 0 where
  pub kept : (b : ℕ) → uses area c' d' top' b + free m' b ≡ uses area c d top b + free m b
  pub frame : (b : ℕ) → uses area c d top b + free m b ≡ 0 → c' b ≡ c b

-- The tree's blocks from `keep` on are gone, and those below it are as they were.
pub record Cuts (area : Area) (d top keep : ℕ) (c : Content) (m : List Bool) (top' : ℕ) (c' : Content)
    (m' : List Bool) : Type 0 where
  pub moves : Moves area d top c m d top' c' m'
  pub below : (k : ℕ) → k < 128 ^ d → k < keep → block area c' d top' k ≡ block area c d top k
  pub above : (k : ℕ) → k < 128 ^ d → keep ≤ k → block area c' d top' k ≡ zeros
  pub top_is : IsTop area top'
  pub gone : keep ≡ 0 → top' ≡ 0
  pub tight : (n : ℕ) → keep ≤ n → is_tight area c' d top' n ≡ true

-- The area lies on the medium and in the map.
pub record Lies (area : Area) (size : ℕ) (m : List Bool) : Type 0 where
  pub not_zero : 1 ≤ area.first
  pub on_medium : area.end ≤ size
  pub in_map : area.end ≤ length m

-- The tree stands under one more node.
pub record Raises (area : Area) (d top : ℕ) (c : Content) (m : List Bool) (top' : ℕ) (c' : Content) (m' : List Bool)
    : Type 0 where
  pub moves : Moves area d top c m (suc d) top' c' m'
  pub same : (k : ℕ) → k < 128 ^ d → block area c' (suc d) top' k ≡ block area c d top k
  pub past : (k : ℕ) → 128 ^ d ≤ k → k < 128 ^ (suc d) → block area c' (suc d) top' k ≡ zeros
  pub top_is : IsTop area top'
  pub tight : (n : ℕ) → is_tight area c d top n ≡ true → is_tight area c' (suc d) top' n ≡ true

-- The tree stands under as many more nodes as make it deeper.
pub record Deepens (area : Area) (d top : ℕ) (c : Content) (m : List Bool) (d' top' : ℕ) (c' : Content)
    (m' : List Bool) : Type 0 where
  pub moves : Moves area d top c m d' top' c' m'
  pub deeper : d ≤ d'
  pub same : (k : ℕ) → k < 128 ^ d → block area c' d' top' k ≡ block area c d top k
  pub past : (k : ℕ) → 128 ^ d ≤ k → k < 128 ^ d' → block area c' d' top' k ≡ zeros
  pub top_is : IsTop area top'
  pub tight : (n : ℕ) → is_tight area c d top n ≡ true → is_tight area c' d' top' n ≡ true

-- A tree's blocks are no longer free, and each other block is as it was.
pub record Claims (area : Area) (d top : ℕ) (c : Content) (m m' : List Bool) : Type 0 where
  pub used : (b : ℕ) → 1 ≤ uses area c d top b → free m' b ≡ 0
  pub others : (b : ℕ) → uses area c d top b ≡ 0 → free m' b ≡ free m b
