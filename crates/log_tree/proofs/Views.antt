-- What a map that is read off live records has at a key.
use Rattle.std.proofs.Common.{◌≡◌, ◌∙◌, ◌++◌, ◌&&◌, suc, ℕ, List, [], ◌∷◌, true, false, Option, Some, None, cond, length, take, drop, refl, sym, ap, subst, bytes_eq, arith}
use Rattle.std.specs.Prelude.{◌==◌, flat_map, option_map, option_and_then, replicate}
use Rattle.std.proofs.lemmas.Grind.{common_steps}
use Rattle.std.proofs.lemmas.List.{append_assoc, append-nil, take-append-drop, take_at, drop_at, length-append, length-take}
use Rattle.std.proofs.lemmas.Map.Text.{is_eq-slice_cmp}
use Rattle.std.proofs.lemmas.Slice.Eq.{bytes_eq-Decides}
use Rattle.std.specs.Cmp.Lexicographic.{slice_cmp, nat_list_cmp_total, nat_list_eq_equiv}
use Rattle.std.specs.FinMap.{get, from_entries, get-from_entries, find as find_entry}
use Rattle.std.specs.Ordering.{nat_cmp, eq_by_cmp}
use Rattle.log_segments.specs.Newest.{after, find, standing, without}
use Rattle.log_segments.specs.Record.{is_gone, key_of}
use Rattle.log_tree.specs.Held.{Records, entry, handle_of, node_view, name_view}

-- a view of some keys, and the way back
pub record IsInverse (view back : List ℕ → Option (List ℕ)) : Type 0 where
  pub there : (a q : List ℕ) → view a ≡ Some q → back q ≡ Some a
  pub again : (a q : List ℕ) → back q ≡ Some a → view a ≡ Some q

-- ENTRIES

module _ {X : Type 0} (view back : List ℕ → Option (List ℕ)) (value : List ℕ → X) (inverse : IsInverse view back) where
  -- what is found
  abbrev pub seen : Records → List ℕ → Option X
  seen live q = option_and_then (λ k. option_map value (find k live)) (back q)

  -- a record that has no entry, or the entry of another key
  unseen : (r : List ℕ) (live : Records) (q : List ℕ) → (view (key_of r) ≡ Some q → ⊥) → seen (r ∷ live) q ≡ seen live q
  unseen r live q other = elim (back q) as (λ o. back q ≡ o
      → option_and_then (λ k. option_map value (find k (r ∷ live))) o
      ≡ option_and_then (λ k. option_map value (find k live)) o) [
        | None ↦ (λ e. refl)
        | Some k ↦ (λ e. elim (bytes_eq (key_of r) k) as (λ b. bytes_eq (key_of r) k ≡ b
            → option_map value (cond b (Some r) (find k live)) ≡ option_map value (find k live)) [
              | true ↦ (λ t. absurd (other (subst (λ a. view a
                  ≡ Some q) (sym ((bytes_eq-Decides (key_of r) k).0 t)) (inverse.again k q e))))
              | false ↦ (λ t. refl)
            ] refl)
      ] refl

  get-entries : (live : Records) (q : List ℕ)
      → find_entry (slice_cmp nat_cmp) q (flat_map (entry view value) live) ≡ seen live q
  get-entries [] q = elim (back q) as (λ o. None
      ≡ option_and_then (λ k. option_map value (find k [])) o) [ None ↦ refl | Some k ↦ refl ]
  get-entries (r ∷ live) q =
      let rest = flat_map (entry view value) live in
      elim (view (key_of r)) as (λ o. view (key_of r) ≡ o
      → find_entry (slice_cmp nat_cmp) q (elim o [ None ↦ [] | Some h ↦ (h, value r) ∷ [] ] ++ rest)
      ≡ seen (r ∷ live) q) [
        | None ↦ (λ e. get-entries live q ∙ sym (unseen r live q (λ f. cc)))
        | Some h ↦ (λ e.
            let same : bytes_eq q h ≡ eq_by_cmp (slice_cmp nat_cmp) q h = sym (is_eq-slice_cmp q h) in
            elim (eq_by_cmp (slice_cmp nat_cmp) q h) as (λ b. eq_by_cmp (slice_cmp nat_cmp) q h ≡ b
            → cond b (Some (value r)) (find_entry (slice_cmp nat_cmp) q rest) ≡ seen (r ∷ live) q) [
              | true ↦ (λ t.
                  let at : view (key_of r) ≡ Some q = e ∙ ap Some (sym ((bytes_eq-Decides q h).0 (same ∙ t))) in
                  rw (inverse.there (key_of r) q at, nat_list_eq_equiv.refl (key_of r)) refl)
              | false ↦ (λ t. get-entries live q ∙ sym (unseen r live q (λ f.
                  let alike : q ≡ h = cc in
                  let yes : bytes_eq q h ≡ true = (bytes_eq-Decides q h).1 alike in
                  cc)))
            ] refl)
      ] refl

  -- the map of the entries has at each key what is found among the records
  pub get-view : (live : Records) (q : List ℕ)
      → get (from_entries {R = slice_cmp nat_cmp} (flat_map (entry view value) live)) q ≡ seen live q
  get-view live q = get-from_entries nat_list_cmp_total (flat_map (entry view value) live) q ∙ get-entries live q

module _ {X : Type 0} (view : List ℕ → Option (List ℕ)) (value : List ℕ → X) where
  flat_map-append : (rs ss : Records) → flat_map (entry view value) (rs ++ ss)
      ≡ flat_map (entry view value) rs ++ flat_map (entry view value) ss
  flat_map-append [] ss = refl
  flat_map-append (r ∷ rs) ss =
      ap (λ xs. entry view value r ++ xs) (flat_map-append rs ss)
      ∙ sym (append_assoc (entry view value r) (flat_map (entry view value) rs) (flat_map (entry view value) ss))

  none_here : (r : List ℕ) → view (key_of r) ≡ None → entry view value r ≡ []
  none_here r none =
      elim (view (key_of r)) as (λ o. o ≡ None → ◌≡◌ {A = List (List ℕ × X)} (elim o [
        | None ↦ []
        | Some q ↦
            (q, value r) ∷ []
      ]) [])
      [ None ↦ (λ e. refl) | Some q ↦ (λ e. cc) ] none

  without_unseen : (live : Records) (key : List ℕ) → view key ≡ None
      → flat_map (entry view value) (without key live) ≡ flat_map (entry view value) live
  without_unseen [] key none = refl
  without_unseen (r ∷ live) key none =
      let rest = without_unseen live key none in
      elim (bytes_eq (key_of r) key) as (λ b. bytes_eq (key_of r) key ≡ b
      → flat_map (entry view value) (cond b (without key live) (r ∷ without key live))
      ≡ entry view value r ++ flat_map (entry view value) live) [
        | true ↦ (λ e.
            let same : key_of r ≡ key = (bytes_eq-Decides (key_of r) key).0 e in
            rest ∙ ap (λ xs. xs ++ flat_map (entry view value) live) (sym (none_here r (ap view same ∙ none))))
        | false ↦ (λ e. ap (λ xs. entry view value r ++ xs) rest)
      ] refl

  standing_unseen : (r : List ℕ) → view (key_of r) ≡ None → flat_map (entry view value) (standing r) ≡ []
  standing_unseen r none = elim (is_gone r) as (λ g. flat_map (entry view value) (cond g [] (r ∷ [])) ≡ [])
      [ true ↦ refl | false ↦ ap (λ xs. xs ++ []) (none_here r none) ]

  -- a record of a key that is not seen adds and takes no entry
  pub after_unseen : (live : Records) (r : List ℕ) → view (key_of r) ≡ None
      → flat_map (entry view value) (after live r) ≡ flat_map (entry view value) live
  after_unseen live r none =
      flat_map-append (without (key_of r) live) (standing r)
      ∙ (ap (λ xs. flat_map (entry view value) (without (key_of r) live) ++ xs) (standing_unseen r none)
      ∙ (append-nil (flat_map (entry view value) (without (key_of r) live)) ∙ without_unseen live (key_of r) none))

-- what is found under a key has the key
pub find-key : (k : List ℕ) (live : Records) (r : List ℕ) → find k live ≡ Some r → key_of r ≡ k
find-key k [] r is = cc
find-key k (x ∷ live) r is =
    elim (bytes_eq (key_of x) k) as (λ b. bytes_eq (key_of x) k ≡ b → cond b (Some x) (find k live) ≡ Some r
    → key_of r ≡ k) [
      | true ↦ (λ e q. let same : x ≡ r = cc in ap key_of (sym same) ∙ (bytes_eq-Decides (key_of x) k).0 e)
      | false ↦ (λ e q. find-key k live r q)
    ] refl is

-- NAMES AND NODES

prefix_read : (head q : List ℕ) (n : ℕ) → length head ≡ n
    → cond (bytes_eq (take n (head ++ q)) head) (Some (drop n (head ++ q))) None ≡ Some q
prefix_read head q n size = rw (take_at head q n size, drop_at head q n size, nat_list_eq_equiv.refl head) refl

-- the key of a name
abbrev pub name_back : List ℕ → List ℕ → Option (List ℕ)
name_back dir name = Some (2 ∷ (dir ++ name))

pub names_inverse : (dir : List ℕ) → length dir ≡ 8 → IsInverse (name_view dir) (name_back dir)
names_inverse dir eight =
    let head = 2 ∷ dir in
    let size : length head ≡ 9 = omega arith in
    record {
      there = λ a q h. elim (bytes_eq (take 9 a) head) as (λ b. bytes_eq (take 9 a) head ≡ b
          → cond b (Some (drop 9 a)) None ≡ Some q → Some (head ++ q) ≡ Some a) [
            | true ↦ (λ e w.
                let rest : drop 9 a ≡ q = cc in
                let front : take 9 a ≡ head = (bytes_eq-Decides (take 9 a) head).0 e in
                ap Some (ap (λ xs. xs ++ q) (sym front) ∙ (ap (λ xs. take 9 a ++ xs) (sym rest)
                ∙ take-append-drop 9 a)))
            | false ↦ (λ e w. cc)
          ] refl h;
      again = λ a q h.
          let at : head ++ q ≡ a = cc in
          subst (λ p. name_view dir p ≡ Some q) at (prefix_read head q 9 size);
    }

abbrev zeros : List ℕ
zeros = replicate 24 0

-- the key of the node of a handle
abbrev pub node_back : List ℕ → Option (List ℕ)
node_back handle = cond ((length handle == 32) && bytes_eq (drop 8 handle) zeros) (Some (1 ∷ take 8 handle)) None

node_read : (x : ℕ) (xs z : List ℕ) → x ≡ 1 → length xs ≡ 8 → length z ≡ 24
    → cond ((length (xs ++ z) == 32) && bytes_eq (drop 8 (xs ++ z)) z) (Some (1 ∷ take 8 (xs ++ z))) None
    ≡ Some (x ∷ xs)
node_read x xs z one size rest =
    let whole : length (xs ++ z) ≡ 32 = omega (arith, length-append xs z) in
    rw (whole, drop_at xs z 8 size, take_at xs z 8 size, nat_list_eq_equiv.refl z) (ap (λ y. Some (y ∷ xs)) (sym one))

-- the handle of an id leads back to its key
pub node_back-handle : (id : List ℕ) → length id ≡ 8 → node_back (handle_of id) ≡ Some (1 ∷ id)
node_back-handle id eight = node_read 1 id zeros refl eight refl

node_there : (a q : List ℕ) → node_view a ≡ Some q → node_back q ≡ Some a
node_there [] q h = cc
node_there (x ∷ xs) q h =
    elim (x == 1) as (λ b. (x == 1) ≡ b → cond (b && (suc (length xs) == 9)) (Some (xs ++ zeros)) None ≡ Some q
    → node_back q ≡ Some (x ∷ xs)) [
      | true ↦ (λ e. elim (suc (length xs) == 9) as (λ m. (suc (length xs) == 9) ≡ m
          → cond m (Some (xs ++ zeros)) None ≡ Some q → node_back q ≡ Some (x ∷ xs)) [
            | true ↦ (λ f w.
                let is : xs ++ zeros ≡ q = cc in
                let one : x ≡ 1 = grind (arith, common_steps) in
                let size : length xs ≡ 8 = grind (arith, common_steps) in
                subst (λ p. node_back p ≡ Some (x ∷ xs)) is (node_read x xs zeros one size refl))
            | false ↦ (λ f w. cc)
          ] refl)
      | false ↦ (λ e w. cc)
    ] refl h

node_again : (a q : List ℕ) → node_back q ≡ Some a → node_view a ≡ Some q
node_again a q h =
    elim (length q == 32) as (λ b. (length q == 32) ≡ b
    → cond (b && bytes_eq (drop 8 q) zeros) (Some (1 ∷ take 8 q)) None ≡ Some a → node_view a ≡ Some q) [
      | true ↦ (λ e. elim (bytes_eq (drop 8 q) zeros) as (λ m. bytes_eq (drop 8 q) zeros ≡ m
          → cond m (Some (1 ∷ take 8 q)) None ≡ Some a → node_view a ≡ Some q) [
            | true ↦ (λ f w.
                let is : 1 ∷ take 8 q ≡ a = cc in
                let long : length q ≡ 32 = grind (arith, common_steps) in
                let size : suc (length (take 8 q)) ≡ 9 = omega (arith, length-take 8 q) in
                let rest : zeros ≡ drop 8 q = sym ((bytes_eq-Decides (drop 8 q) zeros).0 f) in
                subst (λ p. node_view p ≡ Some q) is (rw size (ap Some (ap (λ xs. take 8 q ++ xs) rest
                ∙ take-append-drop 8 q))))
            | false ↦ (λ f w. cc)
          ] refl)
      | false ↦ (λ e w. cc)
    ] refl h

pub nodes_inverse : IsInverse node_view node_back
nodes_inverse = record { there = node_there; again = node_again }
