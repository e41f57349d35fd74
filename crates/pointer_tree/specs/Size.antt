-- How many blocks a tree takes.
use Rattle.std.specs.Prelude.{ℕ, zero, suc, ◌+◌, ◌-◌, ◌*◌, ◌^◌, Bool, true, ◌&&◌, ◌||◌, ◌==◌, nat_lt, if◌then◌else◌}
use Rattle.pointer_tree.specs.Tree.{Content, sum_to, pointer}
use Rattle.pointer_tree.specs.declared.node.Area.{Area}

-- the test holds of each number below n
unfoldable pub all_to : ℕ → (ℕ → Bool) → Bool
all_to zero p = true
all_to (suc n) p = all_to n p && p n

-- how many blocks a tree has
unfoldable pub weight : Area → Content → ℕ → ℕ → ℕ
weight area c zero top = if top == 0 then 0 else 1
weight area c (suc d) top = if top == 0 then 0 else 1 + sum_to 128 (λ j. weight area c d (pointer area (c top) j))

-- a tree has no block past its first n, and no node above none
unfoldable pub is_tight : Area → Content → ℕ → ℕ → ℕ → Bool
is_tight area c zero top n = (top == 0) || nat_lt 0 n
is_tight area c (suc d) top n = (top == 0) || (nat_lt 0 n && all_to 128
    (λ j. is_tight area c d (pointer area (c top) j) (n - j * 128 ^ d)))
