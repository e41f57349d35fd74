-- What a fetch got: a relation, since no text of a node is kept.
use Rattle.std.specs.Prelude.{◌≡◌, ℕ, suc, ◌==◌, List, [], ◌∷◌, ◌++◌, length, map, filter, All}
use Rattle.sha2.specs.Sha256.{sha256}
use Rattle.abs_model.specs.declared.Change.{Change}
use Rattle.abs_text.specs.Text.{entry_text, node_text, node_parts}
use Rattle.cluster_model.specs.Service.{Service}
use Rattle.cluster_model.specs.Tree.{Item, item}
use Rattle.cluster_model.specs.State.{lookup_item, or_else}
use Rattle.state_transfer.specs.Fetch.{Fetch, Takes}

-- from one fetch these texts, each taken for the item that was next, lead to another
abbrev pub HasGot : Fetch → List (Item × List ℕ) → Fetch → Type 0
HasGot f [] end = end ≡ f
HasGot f (g ∷ got) end = (x : ℕ × List ℕ) × (xs : List (ℕ × List ℕ)) × (next : Fetch) × (f.stand.rest ≡ x ∷ xs)
    × (g.0 ≡ item f.stand.level x.0) × Takes x g.1 f next × HasGot next got end

-- a service with the texts of nodes and the digests of the real one
pub record IsReal (S : Service) : Type 0 where
  pub digest : (t : List ℕ) → S.digest t ≡ sha256 t
  pub node : (l k : ℕ) (ds : List (List ℕ)) → S.node l k ds ≡ node_text l k ds
  pub parts : (t : List ℕ) → S.parts t ≡ node_parts t

-- the texts from index i on, each with that of its entry in its place where one was got
abbrev pub fetched_from : ℕ → List (Item × List ℕ) → List (List ℕ) → List (List ℕ)
fetched_from i got [] = []
fetched_from i got (t ∷ ts) = or_else (lookup_item (item 0 i) got) t ∷ fetched_from (suc i) got ts

-- the texts with those of the entries that were got put in
abbrev pub fetched : List (Item × List ℕ) → List (List ℕ) → List (List ℕ)
fetched got texts = fetched_from 0 got texts

-- the texts of entries among what was got
abbrev pub entries_got : List (Item × List ℕ) → List (Item × List ℕ)
entries_got got = filter (λ g. g.0.level == 0) got

-- the text of each changed entry, by its item
abbrev pub change_texts : List Change → List (Item × List ℕ)
change_texts cs = map (λ c. (item 0 c.index, entry_text c.index c.entry)) cs
