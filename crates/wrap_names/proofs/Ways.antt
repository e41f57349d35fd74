-- What is replaced goes first, and then the name can move.
use Rattle.std.proofs.Common.{◌≡◌, ◌≢◌, inl, inr, ℕ, zero, suc, List, [], ◌∷◌, ◌++◌, Bool, true, false, cond, length, set, Option, Some, None, slice_get, refl, sym, ap, ◌∙◌, subst}
use Rattle.std.specs.Prelude.{◌==◌, ◌||◌, nat_le, is_some, not, bytes_eq, unwrap_or}
use Rattle.std.specs.Option.{option_map}
use Rattle.std.specs.List.{list_any}
use Rattle.std.proofs.lemmas.Bool.{or_cases, or_left, or_right}
use Rattle.std.proofs.lemmas.List.{append-nil}
use Rattle.std.proofs.lemmas.Option.{slice_get_within}
use Rattle.nfs2_types.specs.declared.Limits.{Limits}
use Rattle.nfs2_types.specs.declared.Time.{Time}
use Rattle.server_trait.specs.Tree.{Server}
use Rattle.server_trait.proofs.TreeLaws.{some_none, one_or_not}
use Rattle.server_trait.specs.declared.bench.ConfTable.{ConfTable}
use Rattle.abs_model.specs.declared.entry.Entry.{Entry}
use Rattle.abs_model.specs.declared.entry.NameRow.{NameRow}
use Rattle.abs_model.specs.Objects.{is_dir, names_of, row_of, without, nulled, with_attr, changed_at, attr_of}
use Rattle.abs_model.specs.Array.{entry_at, changed, target, has_row_to, links}
use Rattle.abs_model.specs.Machine.{with_names, unlinked, rows_move, row_to, to_be}
use Rattle.abs_model.specs.Valid.{Valid, Walk, is_rising}
use Rattle.abs_model.proofs.Climbs.{parent_is, not_below}
use Rattle.abs_model.proofs.Facts.{HasRow, row_is, dir_is}
use Rattle.abs_model.proofs.Parents.{found_leads}
use Rattle.abs_model.proofs.RowLists.{row_of-without_same, rising_filter}
use Rattle.abs_model.proofs.Shapes.{walk_kept}
use Rattle.abs_model.proofs.Untold.{changed-push}
use Rattle.conf_map.specs.Found.{IsLed, NameFound}
use Rattle.conf_map.specs.Stands.{handle_at, Stands}
use Rattle.conf_map.specs.declared.table.Located.{Located}
use Rattle.conf_map.specs.Tallied.{Tallied}
use Rattle.conf_map.proofs.ArrayFacts.{led_by, fits_at}
use Rattle.conf_map.proofs.Frames.{entry_at-some, same_entry, names_of-with_attr}
use Rattle.conf_map.proofs.InStep.{slice_get-set_same, slice_get-set_other}
use Rattle.wrap_names.specs.declared.ends.Ends.{Ends}
use Rattle.node_changes.specs.Drops.{drops, CanDrop}
use Rattle.wrap_names.specs.Renames.{IsReplaced, CanReplace, cleared, unlinks, moves}
use Rattle.node_changes.specs.Moves.{CanMove, name_moves}
use Rattle.node_changes.proofs.DirNames.{found}
use Rattle.wrap_names.proofs.JoinedMoves.{join_one, join_two}
use Rattle.node_changes.proofs.RowsByName.{row_of-without}

-- NAMES THAT LEAD TO THEIR OWN DIRECTORY

-- one comes to what names itself from nowhere else
from_itself : (limits : Limits) (A : List Entry) (p : ℕ) → Valid limits A → is_dir (entry_at A p) ≡ true → p ≢ 0 →
    has_row_to p (entry_at A p) ≡ true → (k a : ℕ) → Walk A k a p → a ≡ p
from_itself limits A p valid dir not_root self zero a w = w
from_itself limits A p valid dir not_root self (suc k) a w =
    let next = from_itself limits A p valid dir not_root self k w.0 w.2 in
    let way = subst (λ x. has_row_to x (entry_at A a) ≡ true) next w.1 in
    sym (parent_is limits A a p valid dir not_root way) ∙ parent_is limits A p p valid dir not_root self

-- no directory names itself
pub names_other : (limits : Limits) (A : List Entry) (p : ℕ) → Valid limits A → is_dir (entry_at A p) ≡ true → p ≢ 0 →
    has_row_to p (entry_at A p) ≡ true → ⊥
names_other limits A p valid dir not_root self =
    let r = valid.reached p (dir_is (entry_at A p) dir).null in
    not_root (sym (from_itself limits A p valid dir not_root self r.0 0 r.2))

-- WHAT GOES

names_unlinked : (A : List Entry) (i : ℕ) (t : Time) → names_of (entry_at A i) ≡ [] → names_of (unlinked A i t) ≡ []
names_unlinked A i t none = by_links (nat_le (links A i) 1)
  where
    by_links : (b : Bool) →
        names_of (cond b (nulled (entry_at A i)) (with_attr (changed_at t (attr_of (entry_at A i))) (entry_at A i)))
        ≡ []
    by_links true = refl
    by_links false = names_of-with_attr (changed_at t (attr_of (entry_at A i))) (entry_at A i) ∙ none

-- a test that some row passes which stays, some row passes
any_without : (p : NameRow → Bool) (name : List ℕ) (rows : List NameRow) → list_any p (without name rows) ≡ true →
    list_any p rows ≡ true
any_without p name [] h = h
any_without p name (r ∷ rs) h = by_name (not (bytes_eq r.name name)) h (λ k. any_without p name rs k)
  where
    by_name : (b : Bool) → list_any p (cond b (r ∷ without name rs) (without name rs)) ≡ true →
        (list_any p (without name rs) ≡ true → list_any p rs ≡ true) → (p r || list_any p rs) ≡ true
    by_name true h rest = elim (or_cases (p r) (list_any p (without name rs)) h) [
      | inl here ↦ or_left (p r) (list_any p rs) here
      | inr more ↦ or_right (p r) (list_any p rs) (rest more)
    ]
    by_name false h rest = or_right (p r) (list_any p rs) (rest h)

module _ (s : Server) (table : ConfTable) (A : List Entry) (name to_name : List ℕ) (m : Ends)
    (c : CanReplace s table A name to_name m) where
  abbrev d : ℕ
  d = m.from.index

  abbrev e : ℕ
  e = m.to.index

  abbrev i : ℕ
  i = m.at.index

  at_d : slice_get A d ≡ Some (entry_at A d)
  at_d = (found s.tree table A c.stands d m.from.handle c.led.from_live).2.is_entry

  at_e : slice_get A e ≡ Some (entry_at A e)
  at_e = (found s.tree table A c.stands e m.to.handle c.led.to_live).2.is_entry

  led_row : HasRow A d name
  led_row = row_is A d name c.led.led.has

  is_i : led_row.row.index ≡ i
  is_i = sym led_row.leads_there ∙ c.led.led.target

  not_root : i ≢ 0
  not_root z = (led_by c.limits A c.valid d (entry_at A d) name led_row.row at_d led_row.found).not_root (is_i ∙ z)

  apart : d ≢ i
  apart same =
      let way = subst (λ x. has_row_to x (entry_at A d) ≡ true) (is_i ∙ sym same)
      (found_leads name (names_of (entry_at A d)) led_row.row led_row.found) in
      names_other c.limits A d c.valid c.led.from_dir (λ z. not_root (sym same ∙ z)) way

  walks : is_dir (entry_at A i) ≡ true → (k : ℕ) → Walk A k i e → ⊥
  walks dir = not_below c.limits A i e c.valid c.led.to_dir (slice_get_within A e (entry_at A e) at_e) (c.not_below dir)

  to_apart : i ≢ e
  to_apart same = walks (ap (λ x. is_dir (entry_at A x)) same ∙ c.led.to_dir) 0 same

  rising_d : is_rising (names_of (entry_at A d)) ≡ true
  rising_d = (fits_at c.limits A c.valid d (entry_at A d) at_d).rising

  -- where nothing is replaced
  pub way_free : (t : Time) → m.over ≡ None → CanMove s table
      (cleared A e to_name m.over t) name to_name m.from m.to m.at
  way_free t is = subst (λ over. CanMove s table (cleared A e to_name over t) name to_name m.from m.to m.at) (sym is)
      (record {
        stands = c.stands;
        tallied = c.tallied;
        rising = rising_d;
        from_live = c.led.from_live;
        to_live = c.led.to_live;
        from_dir = c.led.from_dir;
        to_dir = c.led.to_dir;
        good = c.led.good;
        to_good = c.led.to_good;
        led = c.led.led;
        lacks = subst (NameFound A table.rows.items e to_name) is c.led.found;
        not_root = not_root;
        apart = apart;
        not_below = walks;
      })

  module _ (o : Located) (is : m.over ≡ Some o) where
    abbrev j : ℕ
    j = o.index

    over_led : IsLed A table.rows.items e to_name o
    over_led = subst (NameFound A table.rows.items e to_name) is c.led.found

    replaced : (j ≢ i) × (names_of (entry_at A j) ≡ [])
    replaced = subst (IsReplaced A i) is c.replaced

    pub can_drop : CanDrop s table A to_name m.to o
    can_drop = record {
      limits = c.limits;
      within = c.within;
      valid = c.valid;
      stands = c.stands;
      tallied = c.tallied;
      live = c.led.to_live;
      is_dir = c.led.to_dir;
      good = c.led.to_good;
      led = over_led;
      empty = replaced.1;
    }

    at_j : slice_get A j ≡ Some (entry_at A j)
    at_j = (found s.tree table A c.stands j o.handle over_led.live).2.is_entry

    over_row : HasRow A e to_name
    over_row = row_is A e to_name over_led.has

    -- neither directory goes
    not_d : d ≢ j
    not_d same = some_none led_row.found
        (ap (λ x. row_of name (names_of (entry_at A x))) same ∙ ap (row_of name) replaced.1)

    not_e : e ≢ j
    not_e same = some_none over_row.found
        (ap (λ x. row_of to_name (names_of (entry_at A x))) same ∙ ap (row_of to_name) replaced.1)

    not_i : i ≢ j
    not_i same = replaced.0 (sym same)

    -- two names in one directory differ
    differ : d ≡ e → name ≢ to_name
    differ same_dir same_name = replaced.0 (sym over_led.target ∙ ap (λ x. target A x to_name) (sym same_dir)
        ∙ ap (target A d) (sym same_name) ∙ c.led.led.target)

    module _ (t : Time) where
      abbrev bare : Entry
      bare = with_names (without to_name) t (entry_at A e)

      abbrev gone : Entry
      gone = unlinked A j t

      abbrev B : List Entry
      B = set (set A e bare) j gone

      b_e : entry_at B e ≡ bare
      b_e = entry_at-some B e bare
          (slice_get-set_other (set A e bare) j e gone not_e ∙ slice_get-set_same A e bare (entry_at A e) at_e)

      b_j : entry_at B j ≡ gone
      b_j = entry_at-some B j gone
          (slice_get-set_same (set A e bare) j gone (entry_at A j)
          (slice_get-set_other A e j bare (λ x. not_e (sym x)) ∙ at_j))

      b_other : (x : ℕ) → x ≢ e → x ≢ j → entry_at B x ≡ entry_at A x
      b_other x ne nj = same_entry B A x
          (slice_get-set_other (set A e bare) j x gone nj ∙ slice_get-set_other A e x bare ne)

      b_i : entry_at B i ≡ entry_at A i
      b_i = b_other i to_apart not_i

      -- each way that is left was there
      ways : (here next : ℕ) → has_row_to next (entry_at B here) ≡ true → has_row_to next (entry_at A here) ≡ true
      ways here next h = elim (one_or_not here e) as (λ _. has_row_to next (entry_at A here) ≡ true) [
        | inl x ↦ ap (λ y. has_row_to next (entry_at A y)) x
            ∙ any_without (λ r. r.index == next) to_name (names_of (entry_at A e))
            (sym (ap (has_row_to next) b_e) ∙ ap (λ y. has_row_to next (entry_at B y)) (sym x) ∙ h)
        | inr ne ↦ elim (one_or_not here j) as (λ _. has_row_to next (entry_at A here) ≡ true) [
          | inl x ↦
              let none : has_row_to next (entry_at B here) ≡ false = ap (λ y. has_row_to next (entry_at B y)) x
              ∙ ap (has_row_to next) b_j
              ∙ ap (list_any (λ r. r.index == next)) (names_unlinked A j t replaced.1) in
              absurd (let bad : true ≡ false = sym h ∙ none in cc)
          | inr nj ↦ sym (ap (has_row_to next) (b_other here ne nj)) ∙ h
        ]
      ]

      b_row : row_of name (names_of (entry_at B d)) ≡ row_of name (names_of (entry_at A d))
      b_row = elim (one_or_not d e) as
          (λ _. row_of name (names_of (entry_at B d)) ≡ row_of name (names_of (entry_at A d))) [
            | inl x ↦ ap (λ y. row_of name (names_of (entry_at B y))) x ∙ ap (λ (z : Entry). row_of name (names_of z)) b_e
                ∙ row_of-without name to_name (names_of (entry_at A e)) (differ x)
                ∙ ap (λ y. row_of name (names_of (entry_at A y))) (sym x)
            | inr ne ↦ ap (λ (z : Entry). row_of name (names_of z)) (b_other d ne not_d)
          ]

      b_dir : is_dir (entry_at B d) ≡ true
      b_dir = elim (one_or_not d e) as (λ _. is_dir (entry_at B d) ≡ true) [
        | inl x ↦ ap (λ y. is_dir (entry_at B y)) x ∙ ap is_dir b_e
        | inr ne ↦ ap is_dir (b_other d ne not_d) ∙ c.led.from_dir
      ]

      b_rising : is_rising (names_of (entry_at B d)) ≡ true
      b_rising = elim (one_or_not d e) as (λ _. is_rising (names_of (entry_at B d)) ≡ true) [
        | inl x ↦ ap (λ y. is_rising (names_of (entry_at B y))) x ∙ ap (λ (z : Entry). is_rising (names_of z)) b_e
            ∙ rising_filter _ (names_of (entry_at A e)) (fits_at c.limits A c.valid e (entry_at A e) at_e).rising
        | inr ne ↦ ap (λ (z : Entry). is_rising (names_of z)) (b_other d ne not_d) ∙ rising_d
      ]

      -- where what is replaced has gone
      pub way_made : (s' : Server) (table' : ConfTable) → Stands s'.tree table' (changed (drops A e to_name j t) A) →
          Tallied table' (changed (drops A e to_name j t) A) →
          ((x : ℕ) → x ≢ j → handle_at table'.rows.items x ≡ handle_at table.rows.items x) →
          CanMove s' table' (cleared A e to_name m.over t) name to_name m.from m.to m.at
      way_made s' table' stands tallied handles = subst
          (λ over. CanMove s' table' (cleared A e to_name over t) name to_name m.from m.to m.at) (sym is) (record {
            stands = stands;
            tallied = tallied;
            rising = b_rising;
            from_live = handles d not_d ∙ c.led.from_live;
            to_live = handles e not_e ∙ c.led.to_live;
            from_dir = b_dir;
            to_dir = ap is_dir b_e;
            good = c.led.good;
            to_good = c.led.to_good;
            led = record {
              has = ap is_some b_row ∙ c.led.led.has;
              target = ap (λ o. unwrap_or (option_map (λ (r : NameRow). r.index) o) (length B)) (b_row ∙ led_row.found)
                  ∙ is_i;
              live = handles i not_i ∙ c.led.led.live;
            };
            lacks = ap (λ (z : Entry). is_some (row_of to_name (names_of z))) b_e
                ∙ ap is_some (row_of-without_same to_name (names_of (entry_at A e)));
            not_root = not_root;
            apart = apart;
            not_below = λ dir k w. walks (ap is_dir (sym b_i) ∙ dir) k (walk_kept B A ways k i e w);
          })

      abbrev row : NameRow
      row = row_to to_name i (entry_at A i).generation

      joined_over : changed (rows_move B d name e row t) B ≡ set (changed (rows_move A d name e row t) A) j gone
      joined_over = elim (one_or_not d e) as
          (λ _. changed (rows_move B d name e row t) B ≡ set (changed (rows_move A d name e row t) A) j gone) [
            | inl x ↦ by_dir e x at_e b_e
            | inr ne ↦ join_two A d e j name row t gone (λ y. not_d (sym y)) (λ y. not_e (sym y)) ne
                (b_other d ne not_d) b_e
          ]
        where
          by_dir : (e : ℕ) → d ≡ e → slice_get A e ≡ Some (entry_at A e) →
              entry_at (set (set A e (with_names (without to_name) t (entry_at A e))) j gone) e ≡ with_names
              (without to_name) t (entry_at A e) →
              changed (rows_move (set (set A e (with_names (without to_name) t (entry_at A e))) j gone) d name e row t)
              (set (set A e (with_names (without to_name) t (entry_at A e))) j gone)
              ≡ set (changed (rows_move A d name e row t) A) j gone
          by_dir e x at here =
              subst (λ e. entry_at (set (set A e (with_names (without to_name) t (entry_at A e))) j gone) e ≡ with_names
              (without to_name) t (entry_at A e) →
              changed (rows_move (set (set A e (with_names (without to_name) t (entry_at A e))) j gone) d name e row t)
              (set (set A e (with_names (without to_name) t (entry_at A e))) j gone)
              ≡ set (changed (rows_move A d name e row t) A) j gone) x
              (λ here. join_one A d j name row t gone (λ y. not_d (sym y)) here) here

  -- the array after both is the array after the move
  pub joined : (t : Time) →
      changed (name_moves (cleared A e to_name m.over t) d name e to_name i t) (cleared A e to_name m.over t) ≡ changed
      (moves A name to_name m t) A
  joined t = by_over m.over refl
    where
      by_over : (over : Option Located) → m.over ≡ over →
          changed (name_moves (cleared A e to_name m.over t) d name e to_name i t) (cleared A e to_name m.over t)
          ≡ changed (moves A name to_name m t) A
      by_over None is =
          subst (λ over. changed (name_moves (cleared A e to_name over t) d name e to_name i t)
          (cleared A e to_name over t)
          ≡ changed (name_moves A d name e to_name i t ++ unlinks A over t) A) (sym is)
          (ap (λ cs. changed cs A) (sym (append-nil (name_moves A d name e to_name i t))))
      by_over (Some o) is =
          subst (λ over. changed (name_moves (cleared A e to_name over t) d name e to_name i t)
          (cleared A e to_name over t)
          ≡ changed (name_moves A d name e to_name i t ++ unlinks A over t) A) (sym is)
          (ap (λ g. changed (rows_move (B o is t) d name e (row_to to_name i g) t) (B o is t))
          (ap (λ (z : Entry). z.generation) (b_i o is t))
          ∙ joined_over o is t
          ∙ sym (changed-push (name_moves A d name e to_name i t) (to_be o.index (unlinked A o.index t)) A))
