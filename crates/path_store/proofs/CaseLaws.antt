-- What the tests find out before they call a store.
use Rattle.std.proofs.Common.{inl, inr, ◌≡◌, ◌≢◌, ℕ, Bool, true, ◌==◌, List, [], ◌∷◌, ◌++◌, length, None, Contains, refl, sym, ap, ◌∙◌, subst, eqb-true, arith}
use Rattle.std.specs.FinMap.{get}
use Rattle.slab.specs.Slab.{entries}
use Rattle.slab.proofs.SlabLemmas.{Contains-entries, Contains-cons_cases}
use Rattle.server_trait.specs.Calls.{Lists}
use Rattle.server_trait.specs.declared.server.Listed.{Listed}
use Rattle.server_trait.proofs.TreeLaws.{some_none}
use Rattle.path_store.specs.Stored.{Stored, Paths, names_of, IsUnnamed}
use Rattle.path_store.specs.Placed.{Keys, Rows, Dirs, stored_as, IsPlaced}
use Rattle.path_store.specs.declared.row.PathRow.{PathRow}
use Rattle.path_store.proofs.CallLaws.{names_are}
use Rattle.path_store.proofs.NameLaws.{get-names_of}
use Rattle.path_store.proofs.PlacedLaws.{none_or_some, key_of_row, names_sound}

-- a list without rows is of no names
pub nothing_listed : (names : Paths) (dir : List ℕ) (rows : List Listed) → length dir ≡ 32 →
    Lists rows (names_of names dir) → (length rows == 0) ≡ true →
    (name : List ℕ) → get names (dir ++ name) ≡ None
nothing_listed names dir (r ∷ rows) fits list none name = absurd (let e = eqb-true (length (r ∷ rows)) 0 none in cc)
nothing_listed names dir [] fits list none name = elim (none_or_some (get names (dir ++ name))) as (λ _. get names
    (dir ++ name) ≡ None) [
      | inl e ↦ e
      | inr h ↦ absurd (let row = list.complete name h.0 (get-names_of dir fits names name ∙ h.1) in
          some_none row.1 refl)
    ]

-- those of the rows that lead to a handle are among the rest
abbrev pub AreLeft : List ℕ → List (ℕ × PathRow) → List (ℕ × PathRow) → Type 0
AreLeft to all rest = (e : ℕ × PathRow) → Contains all e → e.1.to ≡ to → Contains rest e

pub one_fewer : (to : List ℕ) (all rest left : List (ℕ × PathRow)) (head : ℕ × PathRow) → AreLeft to all rest →
    rest ≡ head ∷ left → head.1.to ≢ to → AreLeft to all left
one_fewer to all rest left head are is ne e m leads = elim (Contains-cons_cases head e left (subst (λ l. Contains l e)
    is (are e m leads))) as (λ _. Contains left e) [
      | inl same ↦ absurd (ne (ap (λ (x : ℕ × PathRow). x.1.to) same ∙ leads))
      | inr later ↦ later
    ]

none_left : (e : ℕ × PathRow) → Contains [] e → ⊥
none_left e m = absurd (omega (arith, m.1))

-- where none is left, no name leads to the handle
pub none_leads : (s : Stored) (whole : Bool) (keys : Keys) (rows : Rows) (dirs : Dirs) →
    stored_as whole keys rows dirs ≡ s → (whole ≡ true → IsPlaced keys rows dirs) → s.whole ≡ true →
    (to : List ℕ) (all rest : List (ℕ × PathRow)) → all ≡ entries rows → rest ≡ [] → AreLeft to all rest →
    IsUnnamed s to
none_leads s whole keys rows dirs view placed sound to all rest all_is rest_is are key is =
    let n = names_sound keys rows key to (ap (λ m. get m key) (names_are s whole keys rows dirs view placed sound)
    ∙ is) in
    let k = key_of_row keys rows n.path n.row n.found in
    none_left (k.0, n.row)
    (subst (λ l. Contains l (k.0, n.row))
    rest_is (are (k.0, n.row) (subst (λ l. Contains l (k.0, n.row)) (sym all_is)
    ((Contains-entries rows k.0 n.row).1 k.2)) n.leads))
