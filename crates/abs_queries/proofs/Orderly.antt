-- the tests of a valid array, and its rules
use Rattle.std.proofs.Common.{◌≡◌, ℕ, zero, suc, ◌<◌, List, [], ◌∷◌, Bool, true, false, length, get_or, refl, arith}
use Rattle.std.specs.List.{list_all}
use Rattle.std.proofs.lemmas.Bool.{and_parts, and_from, leb-true, le-leb}
use Rattle.nfs2_types.specs.declared.Limits.{Limits}
use Rattle.abs_model.specs.declared.Entry.{Entry}
use Rattle.abs_model.specs.Objects.{is_null, names_of}
use Rattle.abs_model.specs.Array.{entry_at, null_entry, used}
use Rattle.abs_model.specs.Valid.{Valid, IsReached, entry_fits, leads}
use Rattle.abs_queries.specs.Marks.{IsOrderly}
use Rattle.abs_model.proofs.Shapes.{live_below}
use Rattle.abs_model.proofs.Facts.{dir_is}

all_at : {X : Type 0} (p : X → Bool) (xs : List X) (d : X) → list_all p xs ≡ true → (i : ℕ) → i < length xs → p (get_or xs i d) ≡ true
all_at p [] d h i l = absurd (omega arith)
all_at p (x ∷ xs) d h zero l = (and_parts (p x) (list_all p xs) h).0
all_at p (x ∷ xs) d h (suc i) l = all_at p xs d (and_parts (p x) (list_all p xs) h).1 i (omega arith)

all_from : {X : Type 0} (p : X → Bool) (xs : List X) (d : X) → ((i : ℕ) → i < length xs → p (get_or xs i d) ≡ true) → list_all p xs ≡ true
all_from p [] d h = refl
all_from p (x ∷ xs) d h = and_from (p x) _ (h 0 (omega arith)) (all_from p xs d (λ i l. h (suc i) (omega arith)))

pub valid_from : (limits : Limits) (A : List Entry) → IsOrderly limits A → ((i : ℕ) → is_null (entry_at A i) ≡ false → IsReached A i) → Valid limits A
valid_from limits A o reached = record {
  size = o.size;
  root = o.root;
  fits = all_at entry_fits A null_entry o.fits;
  lead = all_at (λ (e : Entry). list_all (leads A) (names_of e)) A null_entry o.lead;
  reached = reached;
  one_name = λ i dir other. o.one_name i (live_below A i (dir_is (entry_at A i) dir).null) dir other;
  room = leb-true (used A) limits.t o.room;
}

pub orderly_from : (limits : Limits) (A : List Entry) → Valid limits A → IsOrderly limits A
orderly_from limits A v = record {
  size = v.size;
  root = v.root;
  fits = all_from entry_fits A null_entry v.fits;
  lead = all_from (λ (e : Entry). list_all (leads A) (names_of e)) A null_entry v.lead;
  one_name = λ i _ dir other. v.one_name i dir other;
  room = le-leb (used A) limits.t v.room;
}
