-- The tests of both directories and of both names, and where the names lead.
use Rattle.std.proofs.Common.{◌≡◌, ℕ, Bool, true, false, List, [], ◌∷◌, ◌++◌, length, Option, Some, None, Result, Ok, Err, refl, sym, ap, ◌∙◌, subst}
use Rattle.std.specs.Prelude.{◌&&◌, ◌||◌, not, nat_le, is_none, unwrap_or, if◌then◌else◌}
use Rattle.std.specs.Option.{option_map}
use Rattle.std.proofs.lemmas.Bool.{and_from, not_from_false}
use Rattle.nfs2_types.specs.declared.Stat.{Stat}
use Rattle.nfs2_types.specs.declared.stat.TheConstants.{NOENT, NOTDIR, STALE}
use Rattle.nfs2_types.specs.Names.{is_bad, is_dot, is_name}
use Rattle.server_trait.specs.Tree.{Tree}
use Rattle.server_trait.specs.declared.bench.ConfTable.{ConfTable}
use Rattle.abs_model.specs.declared.entry.Entry.{Entry}
use Rattle.abs_model.specs.Objects.{is_dir}
use Rattle.abs_model.specs.Array.{entry_at, live, at, has_name}
use Rattle.abs_model.specs.Machine.{two_dir_tests, two_name_tests, Refusal, ◌answers◌, first_of}
use Rattle.abs_model.proofs.Facts.{none_holds}
use Rattle.abs_model.proofs.Named.{at-live}
use Rattle.conf_map.specs.Found.{Finds, NameFound}
use Rattle.conf_map.specs.Stands.{StandValid}
use Rattle.conf_map.specs.Tables.{located}
use Rattle.conf_map.specs.declared.table.Located.{Located}
use Rattle.conf_map.proofs.Finding.{first_then, first_stops, finds_ok, finds_err}
use Rattle.conf_map.proofs.Seen.{live_agrees, located_live}
use Rattle.wrap_names.specs.declared.ends.Dirs.{Dirs}
use Rattle.wrap_names.specs.declared.ends.Ends.{Ends}
use Rattle.wrap_names.specs.Renames.{end_tests, AreDirs, AreEnds}

-- BOTH DIRECTORIES

-- the first refusal, by what the handles name
abbrev dirs_refused : List Entry → Option ℕ → Option ℕ → Option Stat
dirs_refused A k l = if is_none k then Some STALE else (if is_none l then Some STALE else
    (if not (is_dir (entry_at A (unwrap_or k (length A)))) then Some NOTDIR else
    (if not (is_dir (entry_at A (unwrap_or l (length A)))) then Some NOTDIR else None)))

-- and by what stands there
abbrev dirs_other : Bool → Bool → Option Stat
dirs_other b c = if not b then Some NOTDIR else (if not c then Some NOTDIR else None)

module _ (s : Option Tree) (table : ConfTable) (A : List Entry) (k : StandValid s table A) (from to : List ℕ) where
  abbrev Search : Result Dirs Stat → Type 0
  Search = Finds (two_dir_tests A from to) (AreDirs A table.rows.items from to)

  none_live : (h : List ℕ) → None ≡ located table.rows.items h → live A h ≡ None
  none_live h is = live_agrees s table A k.stands h ∙ ap (option_map (λ (l : Located). l.index)) (sym is)

  some_live : (h : List ℕ) (d : Located) → Some d ≡ located table.rows.items h → live A h ≡ Some d.index
  some_live h d is = live_agrees s table A k.stands h ∙ ap (option_map (λ (l : Located). l.index)) (sym is)

  pub from_stale : None ≡ located table.rows.items from → Search (Err STALE)
  from_stale is = finds_err (ap (λ l. dirs_refused A l (live A to)) (none_live from is))

  module _ (d : Located) (is_d : Some d ≡ located table.rows.items from) where
    pub to_stale : None ≡ located table.rows.items to → Search (Err STALE)
    to_stale is = finds_err (ap (λ l. dirs_refused A l (live A to)) (some_live from d is_d)
        ∙ ap (dirs_refused A (Some d.index)) (none_live to is))

    module _ (e : Located) (is_e : Some e ≡ located table.rows.items to) where
      by_kinds : first_of (two_dir_tests A from to) ≡ dirs_other (is_dir (entry_at A d.index))
          (is_dir (entry_at A e.index))
      by_kinds = ap (λ l. dirs_refused A l (live A to)) (some_live from d is_d)
          ∙ ap (dirs_refused A (Some d.index)) (some_live to e is_e)

      pub from_other : is_dir (entry_at A d.index) ≡ false → Search (Err NOTDIR)
      from_other b = finds_err (by_kinds ∙ ap (λ b. dirs_other b (is_dir (entry_at A e.index))) b)

      pub to_other : is_dir (entry_at A d.index) ≡ true → is_dir (entry_at A e.index) ≡ false → Search (Err NOTDIR)
      to_other b c = finds_err
          (by_kinds ∙ ap (λ b. dirs_other b (is_dir (entry_at A e.index))) b ∙ ap (dirs_other true) c)

      pub dirs_found : is_dir (entry_at A d.index) ≡ true → is_dir (entry_at A e.index) ≡ true →
          Search (Ok (record { from = d; to = e }))
      dirs_found b c = finds_ok
          (by_kinds ∙ ap (λ b. dirs_other b (is_dir (entry_at A e.index))) b ∙ ap (dirs_other true) c) (record {
            from_index = some_live from d is_d;
            to_index = some_live to e is_e;
            from_live = located_live table.rows.items from d (sym is_d);
            to_live = located_live table.rows.items to e (sym is_e);
            from_dir = b;
            to_dir = c;
          })

-- BOTH NAMES

-- a good name
good_name : (name : List ℕ) → is_bad name ≡ false → nat_le (length name) 255 ≡ true → is_dot name ≡ false →
    is_name name ≡ true
good_name name bad short dot = and_from (not (is_bad name) && nat_le (length name) 255) _
    (and_from (not (is_bad name)) _ (not_from_false (is_bad name) bad) short) (not_from_false (is_dot name) dot)

-- where neither holds
or_first_false : (a b : Bool) → (a || b) ≡ false → a ≡ false
or_first_false true b is = is
or_first_false false b is = refl

or_second_false : (a b : Bool) → (a || b) ≡ false → b ≡ false
or_second_false true b is = absurd (let bad : true ≡ false = is in cc)
or_second_false false b is = is

module _ (name to_name : List ℕ) (names : None ≡ first_of (two_name_tests name to_name)) where
  pub first_good : nat_le (length name) 255 ≡ true → is_name name ≡ true
  first_good short =
      let f = none_holds (two_name_tests name to_name) (sym names) in
      good_name name f.0 short (or_first_false (is_dot name) (is_dot to_name) f.1.1.0)

  pub second_good : nat_le (length to_name) 255 ≡ true → is_name to_name ≡ true
  second_good short =
      let f = none_holds (two_name_tests name to_name) (sym names) in
      good_name to_name f.1.0 short (or_second_false (is_dot name) (is_dot to_name) f.1.1.0)

-- WHERE THE NAMES LEAD

abbrev no_entry : Bool → List Refusal
no_entry has = (not has answers NOENT) ∷ []

module _ (s : Option Tree) (table : ConfTable) (from name to to_name : List ℕ) (r : Result Dirs Stat)
    (found : (A : List Entry) → StandValid s table A →
    Finds (two_dir_tests A from to) (AreDirs A table.rows.items from to) r) where
  -- what the search of the ends comes to
  abbrev EndSearch : List Entry → Result Ends Stat → Type 0
  EndSearch A = Finds (end_tests A from name to to_name) (AreEnds A table.rows.items from name to to_name)

  -- the tests after those of the directories
  abbrev later : List Entry → List Refusal
  later A = two_name_tests name to_name ++ no_entry (has_name A (at A from) name)

  pub dirs_first : (A : List Entry) → StandValid s table A → (stat : Stat) → r ≡ Err stat → EndSearch A (Err stat)
  dirs_first A k stat is = finds_err (first_stops (two_dir_tests A from to) (later A) ((found A k).refused stat is))

  module _ (p : Dirs) (is : r ≡ Ok p) where
    pub are_dirs : (A : List Entry) → StandValid s table A → AreDirs A table.rows.items from to p
    are_dirs A k = ((found A k).found p is).1

    past_dirs : (A : List Entry) → StandValid s table A →
        first_of (end_tests A from name to to_name) ≡ first_of (later A)
    past_dirs A k = first_then (two_dir_tests A from to) (later A) ((found A k).found p is).0

    pub name_first : (A : List Entry) → StandValid s table A → (stat : Stat) →
        Some stat ≡ first_of (two_name_tests name to_name) →
        EndSearch A (Err stat)
    name_first A k stat names = finds_err (past_dirs A k
        ∙ first_stops (two_name_tests name to_name) (no_entry (has_name A (at A from) name)) (sym names))

    module _ (names : None ≡ first_of (two_name_tests name to_name)) where
      past_names : (A : List Entry) → StandValid s table A →
          first_of (end_tests A from name to to_name) ≡ first_of (no_entry (has_name A p.from.index name))
      past_names A k =
          past_dirs A k ∙ first_then (two_name_tests name to_name) (no_entry (has_name A (at A from) name)) (sym names)
          ∙ ap (λ d. first_of (no_entry (has_name A d name))) (at-live A from p.from.index (are_dirs A k).from_index)

      -- the first directory is one in which the name may be looked for
      pub can_follow : (s' : Option Tree) → s' ≡ s → ((A : List Entry) × StandValid s table A) →
          (A : List Entry) × (StandValid s' table A) × (is_dir (entry_at A p.from.index) ≡ true)
      can_follow s' same k = (k.0, subst (λ s. StandValid s table k.0) (sym same) k.1, (are_dirs k.0 k.1).from_dir)

      -- and so is the second
      pub can_follow_to : (s' : Option Tree) → s' ≡ s → ((A : List Entry) × StandValid s table A) →
          (A : List Entry) × (StandValid s' table A) × (is_dir (entry_at A p.to.index) ≡ true)
      can_follow_to s' same k = (k.0, subst (λ s. StandValid s table k.0) (sym same) k.1, (are_dirs k.0 k.1).to_dir)

      module _ (s1 : Option Tree) (same1 : s1 ≡ s) (o : Option Located)
          (led : (A : List Entry) → StandValid s1 table A → is_dir (entry_at A p.from.index) ≡ true →
          NameFound A table.rows.items p.from.index name o) where
        from_led : (A : List Entry) → StandValid s table A → NameFound A table.rows.items p.from.index name o
        from_led A k = led A (subst (λ s. StandValid s table A) (sym same1) k) (are_dirs A k).from_dir

        pub no_ent : o ≡ None → (A : List Entry) → StandValid s table A → EndSearch A (Err NOENT)
        no_ent none A k = finds_err
            (past_names A k ∙ ap (λ b. first_of (no_entry b))
            (subst (NameFound A table.rows.items p.from.index name) none (from_led A k)))

        -- both names lead where they lead
        pub ends_found : (short : nat_le (length name) 255 ≡ true) (to_short : nat_le (length to_name) 255 ≡ true)
            (i : Located) → o ≡ Some i → (s2 : Option Tree) → s2 ≡ s → (over : Option Located) →
            ((A : List Entry) → StandValid s2 table A → is_dir (entry_at A p.to.index) ≡ true →
            NameFound A table.rows.items p.to.index to_name over) →
            (A : List Entry) → StandValid s table A →
            EndSearch A (Ok (record { from = p.from; to = p.to; at = i; over = over }))
        ends_found short to_short i at s2 same2 over led_to A k =
            let dirs = are_dirs A k in
            let led_i = subst (NameFound A table.rows.items p.from.index name) at (from_led A k) in
            finds_ok (past_names A k ∙ ap (λ b. first_of (no_entry b)) led_i.has) (record {
              from_index = dirs.from_index;
              to_index = dirs.to_index;
              led = record {
                from_live = dirs.from_live;
                to_live = dirs.to_live;
                from_dir = dirs.from_dir;
                to_dir = dirs.to_dir;
                good = first_good name to_name names short;
                to_good = second_good name to_name names to_short;
                led = led_i;
                found = led_to A (subst (λ s. StandValid s table A) (sym same2) k) dirs.to_dir;
              };
            })
