-- The names of a directory, where one goes from those of all.
use Rattle.std.proofs.Common.{inl, inr, ◌≡◌, ◌≢◌, ℕ, List, ◌++◌, length, sym, ◌∙◌, subst}
use Rattle.std.specs.FinMap.{get, remove}
use Rattle.std.proofs.lemmas.List.{append_cancel_left}
use Rattle.server_trait.proofs.TreeLaws.{bytes_or_not, get-remove_same, get-remove_other, same_answers}
use Rattle.path_store.specs.Stored.{Paths, names_of}
use Rattle.path_store.proofs.NameLaws.{get-names_of, apart_keys}

pub names_of-remove_same : (dir : List ℕ) → length dir ≡ 32 → (paths : Paths) (name : List ℕ) →
    names_of (remove paths (dir ++ name)) dir ≡ remove (names_of paths dir) name
names_of-remove_same dir fits paths name = same_answers (names_of (remove paths (dir ++ name)) dir) (remove (names_of
    paths dir) name) (λ q. elim (bytes_or_not q name) as (λ _. get (names_of (remove paths (dir ++ name)) dir) q ≡ get
    (remove (names_of paths dir) name) q) [
      | inl same ↦ subst (λ x. get (names_of (remove paths (dir ++ name)) dir) x ≡ get
          (remove (names_of paths dir) name) x)
          (sym same) (get-names_of dir fits (remove paths (dir ++ name)) name ∙ get-remove_same paths (dir ++ name)
          ∙ sym (get-remove_same (names_of paths dir) name))
      | inr ne ↦ get-names_of dir fits (remove paths (dir ++ name)) q
          ∙ get-remove_other paths (dir ++ name) (dir ++ q) (λ e. ne (append_cancel_left dir q name e))
          ∙ sym (get-remove_other (names_of paths dir) name q ne ∙ get-names_of dir fits paths q)
    ])

pub names_of-remove_other : (paths : Paths) (dir name q : List ℕ) → length dir ≡ 32 → length q ≡ 32 → q ≢ dir →
    names_of (remove paths (dir ++ name)) q ≡ names_of paths q
names_of-remove_other paths dir name q fits fits' ne = same_answers (names_of (remove paths (dir ++ name)) q) (names_of
    paths q) (λ x. get-names_of q fits' (remove paths (dir ++ name)) x
    ∙ get-remove_other paths (dir ++ name) (q ++ x) (λ e. ne (apart_keys dir q name x fits fits' e))
    ∙ sym (get-names_of q fits' paths x))
