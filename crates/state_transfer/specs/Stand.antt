-- A fetch goes down from the root, level by level, and sees digests alone: it seeks each item whose own digest is
-- another.
use Rattle.std.specs.Prelude.{ℕ, zero, suc, not, List, [], ◌∷◌, ◌++◌, filter, zip, bytes_eq, Option, None, Some}
use Rattle.abs_text.specs.Text.{node_parts}
use Rattle.partition_tree.specs.Digests.{children}
use Rattle.state_transfer.specs.declared.item.Item.{Item}

-- the digests that are there already, by level and number
abbrev pub Own : Type 0
Own = ℕ → ℕ → List ℕ

-- of these numbers of a level, each with the digest that is expected there, those whose own digests differ
abbrev pub differing : Own → ℕ → List (ℕ × List ℕ) → List (ℕ × List ℕ)
differing own level xs = filter (λ x. not (bytes_eq (own level x.0) x.1)) xs

-- the sixteen numbers below a node, each with its digest in the node's text
abbrev pub expected : ℕ → List ℕ → List (ℕ × List ℕ)
expected number text = zip (children number) (node_parts text)

-- where a fetch stands: what is wanted still of a level, the lowest number first, and of the level below it so far
pub record Stand : Type 0 where
  pub level : ℕ
  pub rest : List (ℕ × List ℕ)
  pub lower : List (ℕ × List ℕ)

-- with nothing left at a level a fetch stands at the next
abbrev pub settled : ℕ → List (ℕ × List ℕ) → List (ℕ × List ℕ) → Stand
settled zero rest lower = record { level = 0; rest = rest; lower = [] }
settled (suc level) [] lower = settled level lower []
settled (suc level) (x ∷ xs) lower = record { level = suc level; rest = x ∷ xs; lower = lower }

-- at the beginning the top node is wanted, if its own digest is another than the root
abbrev pub begins : Own → ℕ → List ℕ → Stand
begins own levels root = settled levels (differing own levels ((0, root) ∷ [])) []

-- what is got next, if anything is missing: of the highest level the lowest number
abbrev pub next_in : Stand → Option Item
next_in s = elim s.rest [ [] ↦ None | x ∷ xs ↦ Some (record { level = s.level; number = x.0 }) ]

-- behind an item of a level with this number, whose text is got
abbrev pub goes_on : Own → ℕ → ℕ → List (ℕ × List ℕ) → List (ℕ × List ℕ) → List ℕ → Stand
goes_on own zero number rest lower text = record { level = 0; rest = rest; lower = [] }
goes_on own (suc level) number rest lower text =
    settled (suc level) rest (lower ++ differing own level (expected number text))

-- where a fetch stands once it has this text for the item that was next
abbrev pub after : Own → Stand → List ℕ → Stand
after own s text = elim s.rest [ [] ↦ s | x ∷ xs ↦ goes_on own s.level x.0 xs s.lower text ]
