-- The rows of directories' paths, read as a map.
use Rattle.std.proofs.Common.{inl, inr, ◌≡◌, ◌≢◌, ℕ, ◌<◌, Bool, List, length, Option, Some, None, IsSome, is_some, option_map, slice_index_or, slice_set, refl, sym, ap, ◌∙◌, subst}
use Rattle.std.proofs.lemmas.List.{get_or-set_same, get_or-set_other}
use Rattle.std.specs.FinMap.{get, insert, remove}
use Rattle.path_store.specs.Placed.{Dirs}
use Rattle.path_store.specs.Tables.{place_of, table, ArePlaced, HasRoom}
use Rattle.path_store.specs.declared.dirs.DirRow.{DirRow}
use Rattle.server_trait.proofs.TreeLaws.{bytes_or_not, get-remove_same, get-remove_other, same_answers}
use Rattle.path_store.proofs.TableLaws.{none-at, other-at, here-at, put-table, taken-table, alone-room, has-room, there-within}

abbrev pub handle : DirRow → List ℕ
handle r = r.handle

abbrev pub path : DirRow → List ℕ
path r = r.path

module _ (rows : List (Option DirRow)) (dirs : Dirs) (view : table handle path rows ≡ dirs)
    (placed : ArePlaced handle rows) where
  pub none_got : (place : ℕ) (h : List ℕ) (o : Option DirRow) → place ≡ place_of h →
      o ≡ slice_index_or rows place None → o ≡ None → None ≡ get dirs h
  none_got place h o at is none = none-at handle path rows placed place h o at is none ∙ ap (λ m. get m h) view

  pub other_got : (place : ℕ) (h : List ℕ) (o : Option DirRow) (r : DirRow) → place ≡ place_of h →
      o ≡ slice_index_or rows place None → o ≡ Some r → r.handle ≢ h → None ≡ get dirs h
  other_got place h o r at is some ne =
      other-at handle path rows placed place h o at is r some ne ∙ ap (λ m. get m h) view

  pub path_got : (place : ℕ) (h : List ℕ) (o : Option DirRow) (r : DirRow) → place ≡ place_of h →
      o ≡ slice_index_or rows place None → o ≡ Some r → r.handle ≡ h → Some r.path ≡ get dirs h
  path_got place h o r at is some same =
      here-at handle path rows placed place h o at is r some same ∙ ap (λ m. get m h) view

  pub room_there : (h : List ℕ) → IsSome (get dirs h) → HasRoom dirs h
  room_there h there = subst (λ (m : Dirs). HasRoom m h) view (has-room handle path rows placed h
      (subst (λ (m : Dirs). IsSome (get m h)) (sym view) there))

  pub room_alone : (place : ℕ) (h : List ℕ) (o : Option DirRow) → place ≡ place_of h →
      o ≡ slice_index_or rows place None → ((r : DirRow) → o ≡ Some r → r.handle ≡ h) → HasRoom dirs h
  room_alone place h o at is alone = subst (λ (m : Dirs). HasRoom m h) view (alone-room handle path rows placed h
      (λ r found. alone r (is ∙ ap (λ k. slice_index_or rows k None) at ∙ found)))

  pub there_within : (h : List ℕ) → IsSome (get dirs h) → place_of h < length rows
  there_within h there = there-within handle path rows placed h
      (subst (λ (m : Dirs). IsSome (get m h)) (sym view) there)

  -- longer rows, and one put at its place
  module _ (longer : List (Option DirRow))
      (same : (k : ℕ) → slice_index_or longer k None ≡ slice_index_or rows k None) (place : ℕ)
      (within : place < length longer) where
    here_after : (o : Option DirRow) (rows' : List (Option DirRow)) → rows' ≡ slice_set longer place o →
        slice_index_or rows' place None ≡ o
    here_after o rows' is = ap (λ l. slice_index_or l place None) is ∙ get_or-set_same longer place o None within

    others_after : (o : Option DirRow) (rows' : List (Option DirRow)) → rows' ≡ slice_set longer place o → (j : ℕ) →
        j ≢ place → slice_index_or rows' j None ≡ slice_index_or rows j None
    others_after o rows' is j ne = ap (λ l. slice_index_or l j None) is ∙ get_or-set_other longer place j o None ne
        ∙ same j

    pub put_dir : (r : DirRow) (rows' : List (Option DirRow)) → rows' ≡ slice_set longer place (Some r) →
        place ≡ place_of r.handle → HasRoom dirs r.handle → table handle path rows' ≡ insert dirs r.handle r.path
    put_dir r rows' is at room = put-table handle path rows rows' placed place (others_after (Some r) rows' is) r
        (here_after (Some r) rows' is) (sym at) (subst (λ (m : Dirs). HasRoom m r.handle) (sym view) room)
        ∙ ap (λ m. insert m r.handle r.path) view

    pub taken_dir : (rows' : List (Option DirRow)) → rows' ≡ slice_set longer place None → (h : List ℕ) →
        place ≡ place_of h → IsSome (get dirs h) → table handle path rows' ≡ remove dirs h
    taken_dir rows' is h at there = taken-table handle path rows rows' placed place (others_after None rows' is)
        (here_after None rows' is) h (sym at) (subst (λ (m : Dirs). IsSome (get m h)) (sym view) there)
        ∙ ap (λ m. remove m h) view

-- what was found is there
pub is_there : {A : Type 0} (dirs : Dirs) (h : List ℕ) (f : A → List ℕ) (found : Option A) (b : Bool) →
    option_map f found ≡ get dirs h → b ≡ is_some found → is_some (get dirs h) ≡ b
is_there dirs h f found b is b_is = ap is_some (sym is) ∙ by_case found ∙ sym b_is
  where
    by_case : (o : Option _) → is_some (option_map f o) ≡ is_some o
    by_case None = refl
    by_case (Some x) = refl

-- a map without a key has nothing to lose
pub remove_absent : (m : Dirs) (h : List ℕ) → get m h ≡ None → m ≡ remove m h
remove_absent m h none = same_answers m (remove m h) (λ q. elim (bytes_or_not q h) as (λ _. get m q ≡ get (remove m h) q) [
  | inl same ↦ ap (get m) same ∙ none ∙ sym (ap (get (remove m h)) same ∙ get-remove_same m h)
  | inr ne ↦ sym (get-remove_other m h q ne)
])
