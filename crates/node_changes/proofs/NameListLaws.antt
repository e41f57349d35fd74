-- Names that are taken out of lists and of maps.
use Rattle.std.proofs.Common.{◌≡◌, ◌≢◌, ℕ, arith, true, false, List, Option, Some, None, refl, sym, ap, ◌∙◌, subst}
use Rattle.std.specs.Prelude.{bytes_eq, ◌==◌, count_by}
use Rattle.std.specs.List.{list_any}
use Rattle.std.proofs.lemmas.Slice.Eq.{bytes_eq-Decides}
use Rattle.server_trait.specs.Tree.{Node, Names, Content, BytesOf, TextOf, NamesOf, names_in, with_names}
use Rattle.server_trait.proofs.TreeLaws.{some_none, some_same}
use Rattle.abs_model.specs.declared.entry.NameRow.{NameRow}
use Rattle.abs_model.specs.declared.entry.Entry.{Entry}
use Rattle.abs_model.specs.Objects.{names_of, row_of, without}
use Rattle.abs_model.specs.Array.{entry_at, links}
use Rattle.abs_model.proofs.Parents.{found_leads}
use Rattle.abs_model.proofs.RowLists.{count_from_any, row_of-without_none, row_of-without_other}
use Rattle.abs_model.proofs.Steps.{named_lives}
use Rattle.conf_map.proofs.ArrayFacts.{share_of, live_within, within_at}

bytes_apart : (a b : List ℕ) → a ≢ b → bytes_eq a b ≡ false
bytes_apart a b ne = elim (bytes_eq a b) as (λ x. bytes_eq a b ≡ x → x ≡ false) [
  | true ↦ λ t. absurd (ne ((bytes_eq-Decides a b).0 t))
  | false ↦ λ _. refl
] refl

-- other names than the one that is taken out lead where they led
pub row_of-dropped : (name : List ℕ) (rows : List NameRow) (x : List ℕ) → x ≢ name →
    row_of x (without name rows) ≡ row_of x rows
row_of-dropped name rows x ne = by_row (row_of x rows) refl
  where
    by_row : (o : Option NameRow) → row_of x rows ≡ o → row_of x (without name rows) ≡ row_of x rows
    by_row None is = row_of-without_none x name rows is ∙ sym is
    by_row (Some r) is = row_of-without_other x name rows r (bytes_apart x name ne) is ∙ sym is

-- where no names are counted no name leads
pub no_name_left : (A : List Entry) (i : ℕ) → links A i ≡ 0 → (p : ℕ) (x : List ℕ) (r : NameRow) →
    row_of x (names_of (entry_at A p)) ≡ Some r → r.index ≢ i
no_name_left A i none p x r is e =
    let any : list_any (λ r. r.index == i) (names_of (entry_at A p)) ≡ true =
    subst (λ k. list_any (λ r. r.index == k) (names_of (entry_at A p)) ≡ true) e
    (found_leads x (names_of (entry_at A p)) r is) in
    let at = within_at A p (live_within A p (named_lives A p i any)) in
    let share = share_of (λ (e : Entry). count_by (λ r. r.index == i) (names_of e)) A p (entry_at A p) at in
    let some = count_from_any (λ (r : NameRow). r.index == i) (names_of (entry_at A p)) any in
    absurd (omega (arith, share, some, none))

-- a directory's map is changed, whether it is known or not
pub names_by : (f : Names → Names) (c : Content) (m : Names) (n : Node) → n.content ≡ c → names_in c ≡ Some m →
    with_names f n ≡ with_names (λ _. f m) n
names_by f (BytesOf b) m n same is = absurd (some_none is refl)
names_by f (TextOf b) m n same is = absurd (some_none is refl)
names_by f (NamesOf k) m n same is =
    let e : k ≡ m = some_same {o = Some k} refl is in
    ap (λ c. with_names f (record n { content = c })) same
    ∙ ap (λ k. let new : Node = record n { content = NamesOf (f k) } in new) e
    ∙ sym (ap (λ c. with_names (λ _. f m) (record n { content = c })) same)
