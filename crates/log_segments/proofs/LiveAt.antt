-- The record at a place is the next of the live ones, or none of them.
use Rattle.std.proofs.Common.{◌≡◌, ◌∙◌, ◌+◌, ◌++◌, ◌<◌, ℕ, List, [], ◌∷◌, Some, length, take, drop, false, sym, ap, arith}
use Rattle.std.specs.Prelude.{slice_get}
use Rattle.std.specs.FinMap as map
use Rattle.std.specs.FinMap.{FinMap}
use Rattle.std.specs.Ordering.{nat_cmp}
use Rattle.std.specs.Cmp.Lexicographic.{slice_cmp}
use Rattle.std.proofs.lemmas.List.{length-take-le, drop_more, take-append-drop}
use Rattle.std.proofs.lemmas.Option.{get_or_from_slice_get, slice_get_within}
use Rattle.log_segments.specs.Record.{is_gone, key_of}
use Rattle.log_segments.specs.Newest.{live, place_of}
use Rattle.log_segments.specs.Segments.{records, IsOpen}
use Rattle.log_segments.proofs.Blocks.{Content}
use Rattle.log_segments.proofs.LiveLaws.{Records, live-at, live-not_at, stands-at}

module _ (rs : Records) (n : ℕ) (b : List ℕ) (is : slice_get rs n ≡ Some b) where
  within : n < length rs
  within = slice_get_within rs n b is

  long : length (take n rs) ≡ n
  long = let below = within in length-take-le n rs (omega arith)

  rest : drop n rs ≡ b ∷ drop (n + 1) rs
  rest = drop_more rs n [] within ∙ ap (λ x. x ∷ drop (n + 1) rs) (get_or_from_slice_get rs n b [] is)

  whole : take n rs ++ b ∷ drop (n + 1) rs ≡ rs
  whole = ap (λ xs. take n rs ++ xs) (sym rest) ∙ take-append-drop n rs

  newest : place_of rs (key_of b) ≡ Some n → place_of (take n rs ++ b ∷ drop (n + 1) rs) (key_of b) ≡ Some n
  newest h = ap (λ xs. place_of xs (key_of b)) whole ∙ h

  pub at_live : place_of rs (key_of b) ≡ Some n → live (drop n rs) ≡ b ∷ live (drop (n + 1) rs)
  at_live h = ap live rest ∙ live-at (take n rs) (drop (n + 1) rs) b n long (newest h)

  pub at_stands : place_of rs (key_of b) ≡ Some n → is_gone b ≡ false
  at_stands h = stands-at (take n rs) (drop (n + 1) rs) b n long (newest h)

  pub at_other : (place_of rs (key_of b) ≡ Some n → ⊥) → live (drop n rs) ≡ live (drop (n + 1) rs)
  at_other h = ap live rest
      ∙ live-not_at (take n rs) (drop (n + 1) rs) b n long (λ q. h (ap (λ xs. place_of xs (key_of b)) (sym whole) ∙ q))

-- the place that is noted is that of the newest record
pub noted_at : (c : Content) (size s e : ℕ) (places : FinMap (slice_cmp nat_cmp) ℕ) (b key : List ℕ)
    → IsOpen c size s e places → key ≡ key_of b → place_of (records c size) (key_of b) ≡ map.get places key
noted_at c size s e places b key log is = sym (ap (map.get places) is ∙ log.places_are (key_of b))
