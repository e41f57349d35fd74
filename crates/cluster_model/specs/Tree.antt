-- The digest tree over an array, and what differs between two arrays.
use Rattle.std.specs.Prelude.{ℕ, zero, suc, ◌+◌, ◌*◌, Bool, not, ◌&&◌, List, [], ◌∷◌, ◌++◌, map, slice_get, slice_index_or, Option, Some, None, bytes_eq, ◌==◌, filter}
use Rattle.std.specs.List.{flat_map}
use Rattle.abs_model.specs.declared.Entry.{Entry}
use Rattle.cluster_model.specs.Service.{Service}

-- the numbers below n, rising
abbrev pub below : ℕ → List ℕ
below zero = []
below (suc n) = below n ++ n ∷ []

-- the numbers of the sixteen below number k
abbrev pub children : ℕ → List ℕ
children k = map (λ j. 16 * k + j) (below 16)

-- a level and a number: level 0 is an entry, a higher level a node
pub record Item : Type 0 where
  pub level : ℕ
  pub number : ℕ

-- the item with this level and number
abbrev pub item : ℕ → ℕ → Item
item level number = record { level = level; number = number }

-- two items are one
abbrev pub same_item : Item → Item → Bool
same_item a b = (a.level == b.level) && (a.number == b.number)

-- the text of entry i, if there is one
abbrev pub entry_text : Service → ℕ → Option Entry → List ℕ
entry_text S i None = []
entry_text S i (Some e) = S.text i e

-- the text of entry i of an array
abbrev pub text_of : Service → List Entry → ℕ → List ℕ
text_of S a i = entry_text S i (slice_get a i)

-- the digests of the entry texts
abbrev pub digests_from : Service → ℕ → List Entry → List (List ℕ)
digests_from S i [] = []
digests_from S i (e ∷ es) = S.digest (S.text i e) ∷ digests_from S (suc i) es

-- the digests of the entry texts of an array
abbrev pub digests : Service → List Entry → List (List ℕ)
digests S a = digests_from S 0 a

-- over a list of N digests: the digest of the node of a level, and at level 0 the digest itself
abbrev pub digest_at : Service → List (List ℕ) → ℕ → ℕ → List ℕ
digest_at S ds zero k = slice_index_or ds k []
digest_at S ds (suc l) k = S.digest (S.node (suc l) k (map (digest_at S ds l) (children k)))

-- the text of a node of level l + 1
abbrev pub node_text : Service → List (List ℕ) → ℕ → ℕ → List ℕ
node_text S ds l k = S.node (suc l) k (map (digest_at S ds l) (children k))

-- the digest of the top node over these digests
abbrev pub root_of : Service → List (List ℕ) → List ℕ
root_of S ds = digest_at S ds S.levels 0

-- the root of an array
abbrev pub root : Service → List Entry → List ℕ
root S a = root_of S (digests S a)

-- the text of an item of an array
abbrev pub item_at : Service → List Entry → ℕ → ℕ → List ℕ
item_at S a zero k = text_of S a k
item_at S a (suc l) k = node_text S (digests S a) l k

-- the text of an item
abbrev pub item_text : Service → List Entry → Item → List ℕ
item_text S a i = item_at S a i.level i.number

-- the texts of the item with this level and number differ in two arrays
abbrev pub differs : Service → List Entry → List Entry → ℕ → ℕ → Bool
differs S b c l k = not (bytes_eq (item_at S b l k) (item_at S c l k))

-- of these numbers of a level, those whose texts differ; and below each of them likewise
abbrev pub need_from : Service → List Entry → List Entry → ℕ → List ℕ → List Item
need_from S b c zero ks = map (λ k. record { level = 0; number = k }) (filter (differs S b c 0) ks)
need_from S b c (suc l) ks =
    map (λ k. record { level = suc l; number = k }) (filter (differs S b c (suc l)) ks)
    ++ need_from S b c l (flat_map children (filter (differs S b c (suc l)) ks))

-- what the array b needs to become c, in the order in which it is got
abbrev pub need : Service → List Entry → List Entry → List Item
need S b c = need_from S b c S.levels (0 ∷ [])
