-- The tree of digests over a list of digests, for any number of levels. Level 0 has the digests of the list; the node
-- of a level with number k has those of the level below with numbers 16k to 16k + 15. A digest is SHA-256 (FIPS 180-4).
use Rattle.std.specs.Prelude.{ℕ, zero, suc, ◌-◌, ◌*◌, ◌^◌, ◌<◌, ◌≤◌, ◌≡◌, List, [], ◌∷◌, get_or, set, map, length}
use Rattle.sha2.specs.Sha256.{sha256}
use Rattle.abs_text.specs.Text.{node_text}
use Rattle.partition_tree.specs.declared.tree.Changed.{Changed}

-- so many numbers from this one on
abbrev pub numbers : ℕ → ℕ → List ℕ
numbers first zero = []
numbers first (suc n) = first ∷ numbers (suc first) n

-- the numbers of the sixteen below a node
abbrev pub children : ℕ → List ℕ
children number = numbers (16 * number) 16

-- the text of a node over the digests of the level below, by their numbers
abbrev pub node_over : (ℕ → List ℕ) → ℕ → ℕ → List ℕ
node_over below level number = node_text level number (map below (children number))

-- the digest of a level with this number
abbrev pub digest_at : List (List ℕ) → ℕ → ℕ → List ℕ
digest_at leaves zero number = get_or leaves number []
digest_at leaves (suc level) number = sha256 (node_over (digest_at leaves level) (suc level) number)

-- the text of a node of a level above 0
abbrev pub node_at : List (List ℕ) → ℕ → ℕ → List ℕ
node_at leaves level number = node_over (digest_at leaves (level - 1)) level number

-- the digest of the top node, in a tree of however many levels its leaves make
abbrev pub IsRoot : List (List ℕ) → List ℕ → Type 0
IsRoot leaves digest = (levels : ℕ) → length leaves ≡ 16 ^ levels → digest ≡ digest_at leaves levels 0

-- there are at most this many levels of nodes
abbrev pub most_levels : ℕ
most_levels = 3

-- a tree stands over so many digests
pub record IsTreeSize (n : ℕ) : Type 0 where
  pub levels : ℕ
  pub some : 1 ≤ levels
  pub few : levels ≤ most_levels
  pub size : n ≡ 16 ^ levels

-- in the tree over so many digests stands a node of this level and number
pub record IsNode (n level number : ℕ) : Type 0 where
  pub levels : ℕ
  pub size : n ≡ 16 ^ levels
  pub above : 1 ≤ level
  pub below : level ≤ levels
  pub within : number < 16 ^ (levels - level)

-- in the tree over so many digests stands a digest of this level and number; level 0 has those of the list
pub record IsDigest (n level number : ℕ) : Type 0 where
  pub levels : ℕ
  pub size : n ≡ 16 ^ levels
  pub below : level ≤ levels
  pub within : number < 16 ^ (levels - level)

-- the digests of some texts
abbrev pub digests : List (List ℕ) → List (List ℕ)
digests texts = map sha256 texts

-- the digests after these texts were put in, in their order
abbrev pub updated : List Changed → List (List ℕ) → List (List ℕ)
updated [] leaves = leaves
updated (c ∷ cs) leaves = updated cs (set leaves c.index (sha256 c.text))
