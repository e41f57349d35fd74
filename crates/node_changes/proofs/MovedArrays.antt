-- The array between the coming of a name and the going of another.
use Rattle.std.proofs.Common.{◌≡◌, ◌≢◌, inl, inr, ℕ, List, [], ◌∷◌, Bool, true, false, set, Some, None, slice_get, sym, ap, ◌∙◌, subst}
use Rattle.std.specs.Prelude.{◌==◌, if◌then◌else◌}
use Rattle.std.proofs.lemmas.List.{length-set}
use Rattle.nfs2_types.specs.declared.Time.{Time}
use Rattle.server_trait.proofs.TreeLaws.{one_or_not, bytes_or_not}
use Rattle.abs_model.specs.declared.entry.Change.{Change}
use Rattle.abs_model.specs.declared.entry.Entry.{Entry}
use Rattle.abs_model.specs.declared.entry.NameRow.{NameRow}
use Rattle.abs_model.specs.Objects.{names_of, row_of, without, placed}
use Rattle.abs_model.specs.Array.{entry_at, changed}
use Rattle.abs_model.specs.Machine.{to_be, with_names, rows_move}
use Rattle.abs_model.proofs.RowLists.{row_of-without_same}
use Rattle.conf_map.specs.Moves.{OthersStay}
use Rattle.conf_map.proofs.ArrayFacts.{eq_is, eq_not}
use Rattle.conf_map.proofs.Frames.{entry_at-some}
use Rattle.conf_map.proofs.InStep.{slice_get-set_same, slice_get-set_other}
use Rattle.node_changes.proofs.RowsByName.{row_of-without, row_of-comes_same, row_of-comes_other}

-- the rows with one in place of one of its name
abbrev pub comes : NameRow → List NameRow → List NameRow
comes row rows = placed row (without row.name rows)

-- the array in which the name has come, and none has gone
abbrev pub with_name : List Entry → ℕ → NameRow → Time → List Entry
with_name A e row t = set A e (with_names (comes row) t (entry_at A e))

-- From the array between to the one after the move a name of a directory goes, and no other name.
pub record Leaves (A A1 A2 : List Entry) (d e i : ℕ) (name : List ℕ) (row : NameRow) (t : Time) : Type 0 where
  pub names : List NameRow
  pub entry_now : slice_get A2 d ≡ Some (with_names (λ _. names) t (entry_at A1 d))
  pub was : row_of name (names_of (entry_at A1 d)) ≡ row_of name (names_of (entry_at A d))
  pub gone : row_of name names ≡ None
  pub kept : (x : List ℕ) → x ≢ name → row_of x names ≡ row_of x (names_of (entry_at A1 d))
  pub array : OthersStay d i A1 A2
  pub same : slice_get A2 i ≡ slice_get A1 i
  pub leads : row_of row.name (names_of (entry_at A2 e)) ≡ Some row

-- both names in one directory
module _ (A : List Entry) (d i : ℕ) (name : List ℕ) (row : NameRow) (t : Time)
    (at_d : slice_get A d ≡ Some (entry_at A d)) (apart : d ≢ i) (differ : name ≢ row.name) where
  abbrev rows : List NameRow
  rows = names_of (entry_at A d)

  abbrev came : Entry
  came = with_names (comes row) t (entry_at A d)

  abbrev went : Entry
  went = with_names (λ l. comes row (without name l)) t (entry_at A d)

  here : entry_at (set A d came) d ≡ came
  here = entry_at-some (set A d came) d came (slice_get-set_same A d came (entry_at A d) at_d)

  now : entry_at (set A d went) d ≡ went
  now = entry_at-some (set A d went) d went (slice_get-set_same A d went (entry_at A d) at_d)

  one_kept : (x : List ℕ) → x ≢ name → row_of x (comes row (without name rows)) ≡ row_of x (comes row rows)
  one_kept x ne = elim (bytes_or_not x row.name) as
      (λ _. row_of x (comes row (without name rows)) ≡ row_of x (comes row rows)) [
        | inl e ↦ subst (λ x. row_of x (comes row (without name rows)) ≡ row_of x (comes row rows)) (sym e)
            (row_of-comes_same row (without name rows) ∙ sym (row_of-comes_same row rows))
        | inr other ↦ row_of-comes_other row (without name rows) x other ∙ row_of-without x name rows ne
            ∙ sym (row_of-comes_other row rows x other)
      ]

  leaves_one : Leaves A (set A d came) (set A d went) d d i name row t
  leaves_one = record {
    names = comes row (without name rows);
    entry_now = slice_get-set_same A d went (entry_at A d) at_d
        ∙ ap (λ (z : Entry). Some (with_names (λ _. comes row (without name rows)) t z)) (sym here);
    was = ap (λ (z : Entry). row_of name (names_of z)) here ∙ row_of-comes_other row rows name differ;
    gone = row_of-comes_other row (without name rows) name differ ∙ row_of-without_same name rows;
    kept = λ x ne. one_kept x ne ∙ ap (λ (z : Entry). row_of x (names_of z)) (sym here);
    array = record {
      size = length-set A d went ∙ sym (length-set A d came);
      others = λ j not_d _. slice_get-set_other A d j went not_d ∙ sym (slice_get-set_other A d j came not_d);
    };
    same = slice_get-set_other A d i went (λ e. apart (sym e))
        ∙ sym (slice_get-set_other A d i came (λ e. apart (sym e)));
    leads = ap (λ (z : Entry). row_of row.name (names_of z)) now ∙ row_of-comes_same row (without name rows);
  }

-- each name in a directory of its own
module _ (A : List Entry) (d e i : ℕ) (name : List ℕ) (row : NameRow) (t : Time)
    (at_d : slice_get A d ≡ Some (entry_at A d)) (at_e : slice_get A e ≡ Some (entry_at A e))
    (apart : d ≢ i) (to_apart : e ≢ i) (two : d ≢ e) where
  abbrev bare : Entry
  bare = with_names (without name) t (entry_at A d)

  abbrev full : Entry
  full = with_names (comes row) t (entry_at A e)

  abbrev B : List Entry
  B = set A e full

  abbrev C : List Entry
  C = set (set A d bare) e full

  in_b : entry_at B d ≡ entry_at A d
  in_b = entry_at-some B d (entry_at A d) (slice_get-set_other A e d full two ∙ at_d)

  in_c : slice_get C e ≡ Some full
  in_c = slice_get-set_same (set A d bare) e full (entry_at A e)
      (slice_get-set_other A d e bare (λ x. two (sym x)) ∙ at_e)

  two_kept : (j : ℕ) → j ≢ d → slice_get C j ≡ slice_get B j
  two_kept j not_d = elim (one_or_not j e) as (λ _. slice_get C j ≡ slice_get B j) [
    | inl x ↦ subst (λ j. slice_get C j ≡ slice_get B j) (sym x)
        (in_c ∙ sym (slice_get-set_same A e full (entry_at A e) at_e))
    | inr not_e ↦ slice_get-set_other (set A d bare) e j full not_e ∙ slice_get-set_other A d j bare not_d
        ∙ sym (slice_get-set_other A e j full not_e)
  ]

  leaves_two : Leaves A B C d e i name row t
  leaves_two = record {
    names = without name (names_of (entry_at A d));
    entry_now = slice_get-set_other (set A d bare) e d full two ∙ slice_get-set_same A d bare (entry_at A d) at_d
        ∙ ap (λ (z : Entry). Some (with_names (λ _. without name (names_of (entry_at A d))) t z)) (sym in_b);
    was = ap (λ (z : Entry). row_of name (names_of z)) in_b;
    gone = row_of-without_same name (names_of (entry_at A d));
    kept = λ x ne. row_of-without x name (names_of (entry_at A d)) ne
        ∙ ap (λ (z : Entry). row_of x (names_of z)) (sym in_b);
    array = record {
      size = length-set (set A d bare) e full ∙ length-set A d bare ∙ sym (length-set A e full);
      others = λ j not_d _. two_kept j not_d;
    };
    same = two_kept i (λ x. apart (sym x));
    leads = ap (λ (z : Entry). row_of row.name (names_of z)) (entry_at-some C e full in_c)
        ∙ row_of-comes_same row (names_of (entry_at A e));
  }

-- what is written, by whether both names are in one directory
abbrev pub writes : Bool → List Entry → ℕ → List ℕ → ℕ → NameRow → Time → List Change
writes b A d name e row t =
    if b then to_be d (with_names (λ l. comes row (without name l)) t (entry_at A d)) ∷ []
    else to_be d (with_names (without name) t (entry_at A d)) ∷ to_be e (with_names (comes row) t (entry_at A e)) ∷ []

pub moved_by : (q : Bool) (A : List Entry) (d : ℕ) (name : List ℕ) (e : ℕ) (row : NameRow) (t : Time) →
    (d == e) ≡ q → changed (rows_move A d name e row t) A ≡ changed (writes q A d name e row t) A
moved_by q A d name e row t is = ap (λ b. changed (writes b A d name e row t) A) is

-- the array after a move, from the one between
pub leaves : (A : List Entry) (d e i : ℕ) (name : List ℕ) (row : NameRow) (t : Time) →
    slice_get A d ≡ Some (entry_at A d) → slice_get A e ≡ Some (entry_at A e) → d ≢ i → e ≢ i →
    (d ≡ e → name ≢ row.name) →
    Leaves A (with_name A e row t) (changed (rows_move A d name e row t) A) d e i name row t
leaves A d e i name row t at_d at_e apart to_apart differ =
    elim (one_or_not d e) as
    (λ _. Leaves A (with_name A e row t) (changed (rows_move A d name e row t) A) d e i name row t) [
      | inl x ↦ subst (λ C. Leaves A (with_name A e row t) C d e i name row t)
          (sym (moved_by true A d name e row t (eq_is d e x)))
          (subst (λ e. Leaves A (with_name A e row t) (changed (writes true A d name d row t) A) d e i name row t) x
          (leaves_one A d i name row t at_d apart (differ x)))
      | inr two ↦ subst (λ C. Leaves A (with_name A e row t) C d e i name row t)
          (sym (moved_by false A d name e row t (eq_not d e two)))
          (leaves_two A d e i name row t at_d at_e apart to_apart two)
    ]
