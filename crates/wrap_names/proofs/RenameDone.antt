-- RENAME as the machine does it: refused, without a change, or done.
use Rattle.std.proofs.Common.{◌≡◌, ℕ, List, [], ◌∷◌, ◌++◌, Bool, true, false, map, Option, Some, None, Result, Ok, Err, refl, sym, ap, ◌∙◌, subst}
use Rattle.std.specs.Prelude.{◌&&◌, ◌==◌, if◌then◌else◌}
use Rattle.nfs2_types.specs.declared.Limits.{Limits}
use Rattle.nfs2_types.specs.declared.Cred.{Cred}
use Rattle.nfs2_types.specs.declared.Stat.{Stat}
use Rattle.nfs2_types.specs.declared.Time.{Time}
use Rattle.nfs2_types.specs.Call.{rename}
use Rattle.server_trait.specs.Tree.{Tree, Server}
use Rattle.server_trait.specs.declared.bench.ConfEntry.{ConfEntry}
use Rattle.server_trait.specs.declared.bench.ConfTable.{ConfTable}
use Rattle.abs_model.specs.declared.entry.Change.{Change}
use Rattle.abs_model.specs.declared.entry.Entry.{Entry}
use Rattle.abs_model.specs.Array.{entry_at, changed, at, target, has_name}
use Rattle.abs_model.specs.Machine.{first_of, changes, rows_move, row_to, to_be, unlinked}
use Rattle.abs_model.proofs.Named.{at-live}
use Rattle.conf_map.specs.Found.{NameFound, Finds}
use Rattle.conf_map.specs.Stands.{Stands, StandsValid, AreWithin}
use Rattle.conf_map.specs.declared.table.Located.{Located}
use Rattle.conf_map.proofs.Performed.{Does}
use Rattle.conf_map.proofs.ArrayFacts.{eq_not}
use Rattle.wrap_names.specs.declared.ends.Ends.{Ends}
use Rattle.node_changes.specs.Moves.{name_moves}
use Rattle.wrap_names.specs.Renames.{rename_tests, AreLed, IsIdle, IsMove, IsReplaced, IsPlanned, CanReplace, moves, unlinks, told_dirs, told_over, told_ends}
use Rattle.node_changes.proofs.MovedArrays.{writes}

-- a call that changed nothing
pub stands_still : (limits : Limits) (s s' : Option Tree) (table : ConfTable) (A : List Entry) → s' ≡ s →
    StandsValid limits s table A → StandsValid limits s' table A
stands_still limits s s' table A same = subst (λ s. StandsValid limits s table A) (sym same)

-- WHAT THE CALL CHANGES

-- by where the names lead
abbrev changes_by : List Entry → List ℕ → List ℕ → Time → ℕ → ℕ → ℕ → ℕ → Bool → List Change
changes_by A name to_name t d e i j has = if has && (i == j) then [] else
    (rows_move A d name e (row_to to_name i (entry_at A i).generation) t
    ++ (if has then to_be j (unlinked A j t) ∷ [] else []))

module _ (A : List Entry) (cred : Cred) (t : Time) (from name to to_name : List ℕ) where
  -- nothing where both lead to one object
  pub idle_changes : IsIdle A from name to to_name → changes A cred t (rename from name to to_name) ≡ []
  idle_changes c =
      let d = at A from in
      let e = at A to in
      let i = target A d name in
      let j = target A e to_name in
      ap (λ b. if b then [] else (rows_move A d name e (row_to to_name i (entry_at A i).generation) t
      ++ (if has_name A e to_name then to_be j (unlinked A j t) ∷ [] else []))) c.same

  module _ (rows : List ConfEntry) (m : Ends) (c : IsMove A rows from name to to_name m) where
    by_ends : changes A cred t (rename from name to to_name)
        ≡ changes_by A name to_name t m.from.index m.to.index m.at.index (target A m.to.index to_name)
        (has_name A m.to.index to_name)
    by_ends =
        ap (λ d. changes_by A name to_name t d (at A to) (target A d name) (target A (at A to) to_name)
        (has_name A (at A to) to_name)) (at-live A from m.from.index c.from_index)
        ∙ ap (λ i. changes_by A name to_name t m.from.index (at A to) i (target A (at A to) to_name)
        (has_name A (at A to) to_name)) c.led.led.target
        ∙ ap (λ e. changes_by A name to_name t m.from.index e m.at.index (target A e to_name) (has_name A e to_name))
        (at-live A to m.to.index c.to_index)

    by_over : (over : Option Located) → NameFound A rows m.to.index to_name over → IsReplaced A m.at.index over →
        changes_by A name to_name t m.from.index m.to.index m.at.index (target A m.to.index to_name)
        (has_name A m.to.index to_name)
        ≡ name_moves A m.from.index name m.to.index to_name m.at.index t ++ unlinks A over t
    by_over None found replaced =
        ap (changes_by A name to_name t m.from.index m.to.index m.at.index (target A m.to.index to_name)) found
    by_over (Some o) found replaced =
        ap (changes_by A name to_name t m.from.index m.to.index m.at.index (target A m.to.index to_name)) found.has
        ∙ ap (λ j. changes_by A name to_name t m.from.index m.to.index m.at.index j true) found.target
        ∙ ap (λ b. if b then [] else
        (name_moves A m.from.index name m.to.index to_name m.at.index t
        ++ (to_be o.index (unlinked A o.index t) ∷ [])))
        (eq_not m.at.index o.index (λ x. replaced.0 (sym x)))

    -- both directories, and what is replaced
    pub move_changes : changes A cred t (rename from name to to_name) ≡ moves A name to_name m t
    move_changes = by_ends ∙ by_over m.over c.led.found c.replaced

-- WHAT IS TOLD

over_told : (A : List Entry) (t : Time) (over : Option Located) → map (λ c. c.index) (unlinks A over t) ≡ told_over over
over_told A t None = refl
over_told A t (Some o) = refl

dirs_told : (A : List Entry) (d : ℕ) (name : List ℕ) (e : ℕ) (to_name : List ℕ) (i : ℕ) (t : Time) (rest : List Change)
    (q : Bool) → (d == e) ≡ q →
    map (λ c. c.index) (name_moves A d name e to_name i t ++ rest) ≡ told_dirs d e ++ map (λ c. c.index) rest
dirs_told A d name e to_name i t rest true is =
    ap (λ b. map (λ c. c.index) (writes b A d name e (row_to to_name i (entry_at A i).generation) t ++ rest)) is
    ∙ ap (λ b. (if b then d ∷ [] else d ∷ e ∷ []) ++ map (λ (c : Change). c.index) rest) (sym is)
dirs_told A d name e to_name i t rest false is =
    ap (λ b. map (λ c. c.index) (writes b A d name e (row_to to_name i (entry_at A i).generation) t ++ rest)) is
    ∙ ap (λ b. (if b then d ∷ [] else d ∷ e ∷ []) ++ map (λ (c : Change). c.index) rest) (sym is)

moves_told : (A : List Entry) (name to_name : List ℕ) (m : Ends) (t : Time) →
    map (λ c. c.index) (moves A name to_name m t) ≡ told_ends m
moves_told A name to_name m t =
    dirs_told A m.from.index name m.to.index to_name m.at.index t (unlinks A m.over t) (m.from.index == m.to.index) refl
    ∙ ap (λ l. told_dirs m.from.index m.to.index ++ l) (over_told A t m.over)

-- WHAT IS DONE

module _ (A : List Entry) (limits : Limits) (cred : Cred) (t : Time) (from name to to_name : List ℕ)
    (none : first_of (rename_tests A from name to to_name) ≡ None) (rows : List ConfEntry) (m : Ends)
    (c : IsMove A rows from name to to_name m) where
  -- the name moves, and both directories and what is replaced are told
  pub move_does : Does A limits cred t (rename from name to to_name) (moves A name to_name m t) (told_ends m)
  move_does = record {
    none = none;
    puts_are = move_changes A cred t from name to to_name rows m c;
    tells_are = moves_told A name to_name m t;
  }

-- what the move asks for
pub can_replace : (A : List Entry) (limits : Limits) (from name to to_name : List ℕ) (rows : List ConfEntry)
    (m : Ends) →
    IsMove A rows from name to to_name m → (s : Server) (s0 : Option Tree) (table : ConfTable) →
    rows ≡ table.rows.items → s.tree ≡ s0 → AreWithin limits → StandsValid limits s0 table A →
    CanReplace s table A name to_name m
can_replace A limits from name to to_name rows m c s s0 table same_rows same within k = record {
  limits = limits;
  within = within;
  valid = k.valid;
  stands = subst (λ s. Stands s table A) (sym same) k.stands;
  tallied = k.tallied;
  led = subst (λ rows. AreLed A rows name to_name m) same_rows c.led;
  replaced = c.replaced;
  not_below = c.not_below;
}

-- WHAT IS PLANNED

module _ (A : List Entry) (rows : List ConfEntry) (from name to to_name : List ℕ) {r : Result (Option Ends) Stat}
    (finds : Finds (rename_tests A from name to to_name) (IsPlanned A rows from name to to_name) r) (o : Option Ends)
    (is : r ≡ Ok o) where
  pub plan_none : first_of (rename_tests A from name to to_name) ≡ None
  plan_none = (finds.found o is).0

  pub plan_idle : o ≡ None → IsIdle A from name to to_name
  plan_idle none = subst (IsPlanned A rows from name to to_name) none (finds.found o is).1

  pub plan_move : (m : Ends) → o ≡ Some m → IsMove A rows from name to to_name m
  plan_move m some = subst (IsPlanned A rows from name to to_name) some (finds.found o is).1
