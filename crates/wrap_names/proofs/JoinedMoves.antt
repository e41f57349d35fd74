-- A move after what it replaces has gone is the move that replaces it.
use Rattle.std.proofs.Common.{◌≡◌, ◌≢◌, ℕ, List, true, false, set, refl, sym, ap, ◌∙◌}
use Rattle.std.proofs.lemmas.List.{set_comm, set-set}
use Rattle.nfs2_types.specs.declared.Time.{Time}
use Rattle.abs_model.specs.declared.entry.Entry.{Entry}
use Rattle.abs_model.specs.declared.entry.NameRow.{NameRow}
use Rattle.abs_model.specs.Objects.{names_of, without, placed}
use Rattle.abs_model.specs.Array.{entry_at, changed}
use Rattle.abs_model.specs.Machine.{with_names, rows_move}
use Rattle.abs_model.proofs.RowLists.{row_of-without_same, without_absent, filter_comm}
use Rattle.conf_map.proofs.ArrayFacts.{eq_is, eq_not}
use Rattle.node_changes.proofs.MovedArrays.{comes, moved_by}

-- what has gone can't go again
without_twice : (name : List ℕ) (rows : List NameRow) → without name (without name rows) ≡ without name rows
without_twice name rows = without_absent name (without name rows) (row_of-without_same name rows)

-- two names go in either order
without_both : (name other : List ℕ) (rows : List NameRow) →
    without other (without name (without other rows)) ≡ without other (without name rows)
without_both name other rows = ap (without other) (filter_comm _ _ rows) ∙ without_twice other (without name rows)

-- both names in one directory
module _ (A : List Entry) (d j : ℕ) (name : List ℕ) (row : NameRow) (t : Time) (gone : Entry) (apart : j ≢ d) where
  abbrev rows : List NameRow
  rows = names_of (entry_at A d)

  abbrev bare : Entry
  bare = with_names (without row.name) t (entry_at A d)

  abbrev B : List Entry
  B = set (set A d bare) j gone

  abbrev full : List NameRow → Entry
  full l = with_names (λ _. placed row l) t (entry_at A d)

  pub join_one : entry_at B d ≡ bare →
      changed (rows_move B d name d row t) B ≡ set (changed (rows_move A d name d row t) A) j gone
  join_one here =
      moved_by true B d name d row t (eq_is d d refl)
      ∙ ap (λ (z : Entry). set B d (with_names (λ l. comes row (without name l)) t z)) here
      ∙ ap (λ (l : List NameRow). set B d (full l)) (without_both name row.name rows)
      ∙ set_comm (set A d bare) j d gone (full (without row.name (without name rows))) apart
      ∙ ap (λ (X : List Entry). set X j gone) (set-set A d bare (full (without row.name (without name rows))))
      ∙ ap (λ (X : List Entry). set X j gone) (sym (moved_by true A d name d row t (eq_is d d refl)))

-- each in a directory of its own
module _ (A : List Entry) (d e j : ℕ) (name : List ℕ) (row : NameRow) (t : Time) (gone : Entry)
    (apart : j ≢ d) (to_apart : j ≢ e) (two : d ≢ e) where
  abbrev bare_e : Entry
  bare_e = with_names (without row.name) t (entry_at A e)

  abbrev C : List Entry
  C = set (set A e bare_e) j gone

  abbrev ed : Entry
  ed = with_names (without name) t (entry_at A d)

  abbrev ee : Entry
  ee = with_names (comes row) t (entry_at A e)

  pub join_two : entry_at C d ≡ entry_at A d → entry_at C e ≡ bare_e →
      changed (rows_move C d name e row t) C ≡ set (changed (rows_move A d name e row t) A) j gone
  join_two here_d here_e =
      moved_by false C d name e row t (eq_not d e two)
      ∙ ap (λ (z : Entry). set (set C d (with_names (without name) t z)) e
      (with_names (comes row) t (entry_at C e))) here_d
      ∙ ap (λ (z : Entry). set (set C d ed) e (with_names (comes row) t z)) here_e
      ∙ ap (λ (l : List NameRow). set (set C d ed) e (with_names (λ _. placed row l) t (entry_at A e)))
      (without_twice row.name (names_of (entry_at A e)))
      ∙ ap (λ (X : List Entry). set X e ee) (set_comm (set A e bare_e) j d gone ed apart)
      ∙ set_comm (set (set A e bare_e) d ed) j e gone ee to_apart
      ∙ ap (λ (X : List Entry). set X j gone)
      (ap (λ (X : List Entry). set X e ee) (set_comm A e d bare_e ed (λ x. two (sym x)))
      ∙ set-set (set A d ed) e bare_e ee)
      ∙ ap (λ (X : List Entry). set X j gone) (sym (moved_by false A d name e row t (eq_not d e two)))
