-- A fetch as its callers see it, and which texts it takes.
use Rattle.std.specs.Prelude.{◌≡◌, ℕ, zero, suc, ◌+◌, ◌^◌, List, [], ◌∷◌, ◌++◌, length}
use Rattle.sha2.specs.Sha256.{sha256}
use Rattle.xdr_core.specs.Grammar.{Spells}
use Rattle.abs_model.specs.declared.Entry.{Entry}
use Rattle.abs_model.specs.declared.Change.{Change}
use Rattle.abs_text.specs.Forms.{entry_form}
use Rattle.abs_text.specs.Node.{IsNodeText}
use Rattle.partition_tree.specs.Digests.{digest_at}
use Rattle.state_transfer.specs.declared.item.Taken.{Taken}
use Rattle.state_transfer.specs.declared.item.Taken.TheVariants.{Good, Wrong}
use Rattle.state_transfer.specs.Stand.{Stand, begins, after}

-- the digests of the own texts, the place of the target, the levels of nodes, where it stands, and what was got of the
-- target: how many nodes, and the entries
pub record Fetch : Type 0 where
  pub own : List (List ℕ)
  pub place : ℕ
  pub levels : ℕ
  pub stand : Stand
  pub nodes : ℕ
  pub changes : List Change

-- nothing is got yet of the target with this place and root
abbrev pub begun : List (List ℕ) → ℕ → ℕ → List ℕ → Fetch
begun own place levels root = record {
  own = own;
  place = place;
  levels = levels;
  stand = begins (digest_at own) levels root;
  nodes = 0;
  changes = [];
}

-- a fetch begins with these own digests
pub record IsBegun (own : List (List ℕ)) (place : ℕ) (root : List ℕ) (f : Fetch) : Type 0 where
  pub size : length own ≡ 16 ^ f.levels
  pub is : f ≡ begun own place f.levels root

-- the bytes are the text of an item of this level and number
abbrev pub HasForm : ℕ → ℕ → List ℕ → Type 0
HasForm zero number text = (e : Entry) × Spells entry_form (number, e) text
HasForm (suc level) number text = IsNodeText (suc level) number text

-- the bytes are a text for a wanted item of this level: they have its digest and its form
pub record Fits (level : ℕ) (x : ℕ × List ℕ) (text : List ℕ) : Type 0 where
  pub digest : sha256 text ≡ x.1
  pub form : HasForm level x.0 text

-- an entry that is put at an index
abbrev pub change : ℕ → Entry → Change
change index entry = record { index = index; entry = entry }

-- an entry's text adds its entry to the changes, and a node's text leaves them
abbrev pub Adds : ℕ → ℕ → List ℕ → List Change → List Change → Type 0
Adds zero number text old new = (e : Entry) × Spells entry_form (number, e) text × (new ≡ old ++ change number e ∷ [])
Adds (suc level) number text old new = new ≡ old

-- the nodes got, with one of this level besides
abbrev pub counted : ℕ → ℕ → ℕ
counted zero nodes = nodes
counted (suc level) nodes = nodes + 1

-- a text was taken for x, the item that was next
pub record Takes (x : ℕ × List ℕ) (text : List ℕ) (old new : Fetch) : Type 0 where
  pub fits : Fits old.stand.level x text
  pub same : (new.own ≡ old.own) × (new.place ≡ old.place) × (new.levels ≡ old.levels)
  pub stand : new.stand ≡ after (digest_at old.own) old.stand text
  pub nodes : new.nodes ≡ counted old.stand.level old.nodes
  pub changes : Adds old.stand.level x.0 text old.changes new.changes

-- the bytes were a text for the item that was next, and are taken; or they are none, and nothing changed
abbrev pub IsAnswer : List ℕ → Fetch → Fetch → Taken → Type 0
IsAnswer bytes old new Good =
    (x : ℕ × List ℕ) (xs : List (ℕ × List ℕ)) → old.stand.rest ≡ x ∷ xs → Takes x bytes old new
IsAnswer bytes old new Wrong = (new ≡ old)
    × ((x : ℕ × List ℕ) (xs : List (ℕ × List ℕ)) → old.stand.rest ≡ x ∷ xs → Fits old.stand.level x bytes → ⊥)
