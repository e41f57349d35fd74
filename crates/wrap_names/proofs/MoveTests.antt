-- The tests of what moves, and what is to be done where none holds.
use Rattle.std.proofs.Common.{◌≡◌, ℕ, arith, Bool, true, false, List, [], ◌∷◌, length, Option, Some, None, IsSomeAnd, Result, Ok, Err, refl, sym, ap, ◌∙◌, subst}
use Rattle.std.specs.Prelude.{◌&&◌, ◌==◌, not, nat_lt, if◌then◌else◌}
use Rattle.std.proofs.lemmas.Bool.{ltb-false}
use Rattle.nfs2_types.specs.declared.Stat.{Stat}
use Rattle.nfs2_types.specs.declared.stat.TheConstants.{ACCES, NOTDIR, ISDIR, NOTEMPTY}
use Rattle.server_trait.specs.Tree.{Tree, node_at}
use Rattle.server_trait.specs.Calls.{IsAttr}
use Rattle.server_trait.specs.declared.server.NodeAttr.{NodeAttr}
use Rattle.server_trait.specs.declared.bench.ConfEntry.{ConfEntry}
use Rattle.server_trait.specs.declared.bench.ConfTable.{ConfTable}
use Rattle.server_trait.proofs.TreeLaws.{some_and, some_none, some_same}
use Rattle.abs_model.specs.declared.entry.Entry.{Entry}
use Rattle.abs_model.specs.Objects.{is_dir, names_of, bytes_of}
use Rattle.abs_model.specs.Array.{entry_at, at, target, has_name, climbs_to}
use Rattle.abs_model.specs.Machine.{◌answers◌, first_of}
use Rattle.abs_model.proofs.Facts.{dir_is, no_names}
use Rattle.abs_model.proofs.Named.{at-live}
use Rattle.conf_map.specs.Found.{NameFound}
use Rattle.conf_map.specs.Stands.{handle_at, StandValid}
use Rattle.conf_map.specs.declared.table.Located.{Located}
use Rattle.conf_map.specs.Found.{Finds}
use Rattle.conf_map.proofs.Finding.{finds_ok, finds_err}
use Rattle.conf_map.proofs.Answered.{or_first, first_of-append}
use Rattle.conf_map.proofs.ArrayFacts.{eq_is}
use Rattle.conf_map.proofs.Sizes.{size_agrees}
use Rattle.wrap_names.specs.declared.ends.Ends.{Ends}
use Rattle.wrap_names.specs.Renames.{end_tests, replace_tests, move_tests, rename_tests, AreEnds, leads_to, IsLiveIf, over_refused, move_refused, IsReplaced, IsPlanned}
use Rattle.node_changes.proofs.DirNames.{found}

-- NAMES OF A DIRECTORY

-- a directory's size is the number of its names
pub names_told : (s : Option Tree) (table : ConfTable) (A : List Entry) → StandValid s table A →
    (i : ℕ) (h : List ℕ) (a : NodeAttr) → handle_at table.rows.items i ≡ Some h →
    ((t : Tree) → s ≡ Some t → IsSomeAnd (node_at t h) (IsAttr t h a)) → is_dir (entry_at A i) ≡ true →
    a.size ≡ length (names_of (entry_at A i))
names_told s table A k i h a live told dir =
    let f = found s table A k.stands i h live in
    let n = some_and (node_at k.stands.tree h) (IsAttr k.stands.tree h a) (told k.stands.tree k.stands.has_tree) in
    let same = subst (IsAttr k.stands.tree h a) (some_same n.1 f.2.is_node) n.2 in
    let size = same.size ∙ size_agrees k.limits s table A k.stands k.valid i h f.0 f.1 (entry_at A i) f.2 in
    let bytes : length (bytes_of (entry_at A i)) ≡ 0 = ap length (dir_is (entry_at A i) dir).bytes in
    omega (arith, size, bytes)

-- a list that is not longer than nothing
pub nil_of : {X : Type 0} (xs : List X) → nat_lt 0 (length xs) ≡ false → xs ≡ []
nil_of [] is = refl
nil_of (x ∷ xs) is = let low = ltb-false 0 (length (x ∷ xs)) is in absurd (omega (arith, low))

-- what a name leads to, if it is there, is live
pub live_if : (A : List Entry) (rows : List ConfEntry) (d : ℕ) (name : List ℕ) (o : Option Located) →
    NameFound A rows d name o → IsLiveIf rows o
live_if A rows d name None led = tt
live_if A rows d name (Some o) led = led.live

-- WHAT IS REPLACED

abbrev if_other : Bool → Bool → Bool → Option Stat
if_other moves_dir is_d some = first_of (
    (not moves_dir && is_d answers ISDIR) ∷ (moves_dir && not is_d answers NOTDIR)
    ∷ (moves_dir && some answers NOTEMPTY) ∷ [])

module _ (A : List Entry) (j : ℕ) where
  abbrev some_names : Bool
  some_names = nat_lt 0 (length (names_of (entry_at A j)))

  -- where none of the tests holds it has no names
  pub no_names_over : (moves_dir : Bool) → first_of (replace_tests A moves_dir j) ≡ None → names_of (entry_at A j) ≡ []
  no_names_over false none = no_names (entry_at A j) (by_dir (is_dir (entry_at A j)) none)
    where
      by_dir : (b : Bool) → if_other false b some_names ≡ None → b ≡ false
      by_dir true is = absurd (some_none refl is)
      by_dir false is = refl
  no_names_over true none = nil_of (names_of (entry_at A j)) (by_some (is_dir (entry_at A j)) some_names none)
    where
      by_some : (b c : Bool) → if_other true b c ≡ None → c ≡ false
      by_some b false is = refl
      by_some true true is = absurd (some_none refl is)
      by_some false true is = absurd (some_none refl is)

-- WHAT MOVES

abbrev if_below : Bool → Option Stat
if_below b = if b then Some ACCES else None

-- the first refusal of a move, by what is replaced and then by where it goes
pub refused_by : (A : List Entry) (i e : ℕ) (over : Option Located) →
    move_refused A i e over ≡ or_first (over_refused A (is_dir (entry_at A i)) over)
    (if_below (is_dir (entry_at A i) && climbs_to A i (length A) e))
refused_by A i e None = refl
refused_by A i e (Some o) = first_of-append (replace_tests A (is_dir (entry_at A i)) o.index)
    ((is_dir (entry_at A i) && climbs_to A i (length A) e answers ACCES) ∷ [])

-- a directory moves below itself, or not
pub below_refused : (A : List Entry) (m : Ends) (b : Bool) → b ≡ is_dir (entry_at A m.at.index) →
    over_refused A b m.over ≡ None → b ≡ true →
    (c : Bool) → c ≡ climbs_to A m.at.index (length A) m.to.index →
    move_refused A m.at.index m.to.index m.over ≡ if_below c
below_refused A m b is_b none dir c is_c =
    refused_by A m.at.index m.to.index m.over
    ∙ ap (λ b. or_first (over_refused A b m.over) (if_below (b && climbs_to A m.at.index (length A) m.to.index)))
    (sym is_b)
    ∙ ap (λ o. or_first o (if_below (b && climbs_to A m.at.index (length A) m.to.index))) none
    ∙ ap (λ b. if_below (b && climbs_to A m.at.index (length A) m.to.index)) dir
    ∙ ap if_below (sym is_c)

-- WHAT IS TO BE DONE

-- the tests after those of the ends
abbrev pub rest_refused : List Entry → ℕ → ℕ → ℕ → Bool → Option Stat
rest_refused A i j e has = first_of (move_tests A i j e (has && not (i == j)) (has && (i == j)))

module _ (s : Option Tree) (table : ConfTable) (from name to to_name : List ℕ) (r : Result Ends Stat)
    (known : (A : List Entry) → StandValid s table A →
    Finds (end_tests A from name to to_name) (AreEnds A table.rows.items from name to to_name) r) where
  -- what the search of a plan comes to
  abbrev Search : List Entry → Result (Option Ends) Stat → Type 0
  Search A = Finds (rename_tests A from name to to_name) (IsPlanned A table.rows.items from name to to_name)

  abbrev rest : List Entry → Option Stat
  rest A = rest_refused A (target A (at A from) name) (target A (at A to) to_name) (at A to)
      (has_name A (at A to) to_name)

  split : (A : List Entry) → first_of (rename_tests A from name to to_name) ≡ or_first
      (first_of (end_tests A from name to to_name)) (rest A)
  split A = first_of-append (end_tests A from name to to_name)
      (move_tests A (target A (at A from) name) (target A (at A to) to_name) (at A to)
      (has_name A (at A to) to_name && not (target A (at A from) name == target A (at A to) to_name))
      (has_name A (at A to) to_name && (target A (at A from) name == target A (at A to) to_name)))

  pub ends_first : (A : List Entry) → StandValid s table A → (stat : Stat) → r ≡ Err stat → Search A (Err stat)
  ends_first A k stat is = finds_err (split A ∙ ap (λ o. or_first o (rest A)) ((known A k).refused stat is))

  module _ (m : Ends) (is : r ≡ Ok m) where
    pub are_ends : (A : List Entry) → StandValid s table A → AreEnds A table.rows.items from name to to_name m
    are_ends A k = ((known A k).found m is).1

    module _ (A : List Entry) (k : StandValid s table A) where
      ends : AreEnds A table.rows.items from name to to_name m
      ends = are_ends A k

      from_at : at A from ≡ m.from.index
      from_at = at-live A from m.from.index ends.from_index

      to_at : at A to ≡ m.to.index
      to_at = at-live A to m.to.index ends.to_index

      past_ends : first_of (rename_tests A from name to to_name)
          ≡ rest_refused A m.at.index (target A m.to.index to_name) m.to.index (has_name A m.to.index to_name)
      past_ends = split A ∙ ap (λ o. or_first o (rest A)) ((known A k).found m is).0
          ∙ ap (λ d. rest_refused A (target A d name) (target A (at A to) to_name) (at A to)
          (has_name A (at A to) to_name)) from_at
          ∙ ap (λ i. rest_refused A i (target A (at A to) to_name) (at A to)
          (has_name A (at A to) to_name)) ends.led.led.target
          ∙ ap (λ e. rest_refused A m.at.index (target A e to_name) e (has_name A e to_name)) to_at

      -- both names lead to one object
      pub is_idle : leads_to m.over m.at.index ≡ true → Search A (Ok None)
      is_idle one = by_over m.over ends.led.found one
        where
          by_over : (over : Option Located) → NameFound A table.rows.items m.to.index to_name over →
              leads_to over m.at.index ≡ true → Search A (Ok None)
          by_over None led_o one = absurd (let bad : false ≡ true = one in cc)
          by_over (Some o) led_o one =
              let same : (m.at.index == target A m.to.index to_name) ≡ true = ap (λ j. m.at.index == j) led_o.target
              ∙ one in
              finds_ok (past_ends ∙ ap (rest_refused A m.at.index (target A m.to.index to_name) m.to.index) led_o.has
              ∙ ap (λ b. first_of (move_tests A m.at.index (target A m.to.index to_name) m.to.index (not b) b)) same)
              (record {
                same = ap (λ e. has_name A e to_name && (target A (at A from) name == target A e to_name)) to_at
                    ∙ ap (λ b. b && (target A (at A from) name == target A m.to.index to_name)) led_o.has
                    ∙ ap (λ d. target A d name == target A m.to.index to_name) from_at
                    ∙ ap (λ i. i == target A m.to.index to_name) ends.led.led.target ∙ same;
              })

      module _ (two : leads_to m.over m.at.index ≡ false) where
        by_move : first_of (rename_tests A from name to to_name) ≡ move_refused A m.at.index m.to.index m.over
        by_move = past_ends ∙ by_over m.over ends.led.found two
          where
            by_over : (over : Option Located) → NameFound A table.rows.items m.to.index to_name over →
                leads_to over m.at.index ≡ false →
                rest_refused A m.at.index (target A m.to.index to_name) m.to.index (has_name A m.to.index to_name)
                ≡ move_refused A m.at.index m.to.index over
            by_over None led_o two = ap (rest_refused A m.at.index (target A m.to.index to_name) m.to.index) led_o
            by_over (Some o) led_o two = ap
                (rest_refused A m.at.index (target A m.to.index to_name) m.to.index) led_o.has
                ∙ ap (λ j. rest_refused A m.at.index j m.to.index true) led_o.target
                ∙ ap (λ b. first_of (move_tests A m.at.index o.index m.to.index (not b) b)) two

        module _ (s' : Option Tree) (same : s' ≡ s) (x : Option Stat)
            (refused : (A : List Entry) → StandValid s' table A → is_dir (entry_at A m.to.index) ≡ true →
            move_refused A m.at.index m.to.index m.over ≡ x) where
          refused_is : move_refused A m.at.index m.to.index m.over ≡ x
          refused_is = refused A (subst (λ s. StandValid s table A) (sym same) k) ends.led.to_dir

          -- the move is refused
          pub move_first : (stat : Stat) → x ≡ Some stat → Search A (Err stat)
          move_first stat is_x = finds_err (by_move ∙ refused_is ∙ is_x)

          -- or is not
          pub is_move : x ≡ None → Search A (Ok (Some m))
          is_move is_x =
              let none : move_refused A m.at.index m.to.index m.over ≡ None = refused_is ∙ is_x in
              let both = refused_by A m.at.index m.to.index m.over in
              let parts = neither (over_refused A (is_dir (entry_at A m.at.index)) m.over)
              (is_dir (entry_at A m.at.index) && climbs_to A m.at.index (length A) m.to.index) (sym both ∙ none) in
              finds_ok (by_move ∙ none) (record {
                from_index = ends.from_index;
                to_index = ends.to_index;
                led = ends.led;
                replaced = by_over m.over two parts.0;
                not_below = λ dir. ap (λ b. b && climbs_to A m.at.index (length A) m.to.index) (sym dir) ∙ parts.1;
              })
            where
              neither : (o : Option Stat) (b : Bool) → or_first o (if_below b) ≡ None → (o ≡ None) × (b ≡ false)
              neither None true is = absurd (some_none refl is)
              neither None false is = (refl, refl)
              neither (Some t) b is = absurd (some_none refl is)

              by_over : (over : Option Located) → leads_to over m.at.index ≡ false →
                  over_refused A (is_dir (entry_at A m.at.index)) over ≡ None → IsReplaced A m.at.index over
              by_over None two none = tt
              by_over (Some o) two none = (
                (λ e. let bad : true ≡ false = sym (eq_is m.at.index o.index (sym e)) ∙ two in cc),
                no_names_over A o.index (is_dir (entry_at A m.at.index)) none,
              )
