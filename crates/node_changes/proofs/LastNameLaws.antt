-- A name is taken out, and its object goes with it: server and table stand for the array without both.
use Rattle.std.proofs.Common.{◌≡◌, ◌≢◌, inl, inr, ℕ, ◌+◌, ◌≤◌, arith, true, List, set, Option, Some, None, slice_get, refl, sym, ap, ◌∙◌, subst}
use Rattle.std.specs.Prelude.{nat_le, if◌then◌else◌}
use Rattle.std.proofs.lemmas.Bool.{leb-true}
use Rattle.nfs2_types.specs.declared.Time.{Time}
use Rattle.server_trait.specs.Tree.{Tree, Server, target, unnamed, without_node}
use Rattle.server_trait.specs.Calls.{Removed}
use Rattle.server_trait.specs.declared.bench.ConfEntry.{ConfEntry}
use Rattle.server_trait.specs.declared.bench.ConfTable.{ConfTable}
use Rattle.server_trait.proofs.TreeLaws.{some_none, some_same, one_or_not}
use Rattle.abs_model.specs.declared.entry.Entry.{Entry}
use Rattle.abs_model.specs.Objects.{attr_of, row_of, without, with_attr, changed_at, nulled}
use Rattle.abs_model.specs.Array.{entry_at, links, changed}
use Rattle.abs_model.specs.Machine as machine
use Rattle.abs_model.proofs.Shapes.{links-set}
use Rattle.abs_model.proofs.Steps.{links_unnamed}
use Rattle.conf_map.specs.Moves.{DropsNode}
use Rattle.conf_map.specs.Stands.{handle_at, Stands}
use Rattle.conf_map.specs.Tables.{index_in, touched, emptied}
use Rattle.conf_map.specs.declared.table.Located.{Located}
use Rattle.conf_map.proofs.ArrayFacts.{fits_at}
use Rattle.conf_map.proofs.Frames.{handle_of_row}
use Rattle.conf_map.proofs.Gone.{stands_gone}
use Rattle.conf_map.proofs.InStep.{slice_get-set_other}
use Rattle.conf_map.proofs.Kept.{one_row}
use Rattle.std.proofs.lemmas.Option.{slice_get_within}
use Rattle.node_changes.specs.Drops.{drops, CanDrop}
use Rattle.node_changes.specs.NameRows.{ClearsRow}
use Rattle.node_changes.proofs.DropFacts.{row, to_index, apart, at_dir, at_old, not_root, target_is, links_are}
use Rattle.node_changes.proofs.DropLaws.{array, entries, in_dir}
use Rattle.node_changes.proofs.NameListLaws.{no_name_left}
use Rattle.node_changes.proofs.NameSets.{NameSet}
use Rattle.node_changes.proofs.TreeDrops.{node_goes, removed_is, dir_stays, others_stay, root_stays, node_gone, others_left}
use Rattle.node_changes.proofs.TwoSet.{IsSetTwice, set_twice, handles_stay}

module _ (s : Server) (table : ConfTable) (A : List Entry) (name : List ℕ) (dir o : Located)
    (c : CanDrop s table A name dir o) (time : Time) (table' : ConfTable)
    (clears : ClearsRow table table' dir.index o.index time) where
  abbrev d : ℕ
  d = dir.index

  abbrev i : ℕ
  i = o.index

  abbrev dh : List ℕ
  dh = dir.handle

  abbrev h : List ℕ
  h = o.handle

  abbrev t : Tree
  t = c.stands.tree

  abbrev t1 : Tree
  t1 = unnamed t dh name

  abbrev rd : ConfEntry
  rd = (at_dir s table A name dir o c).0

  abbrev ri : ConfEntry
  ri = (at_old s table A name dir o c).0

  dir_row : slice_get table.rows.items d ≡ Some rd
  dir_row = (at_dir s table A name dir o c).2.is_row

  old_row : slice_get table.rows.items i ≡ Some ri
  old_row = (at_old s table A name dir o c).2.is_row

  abbrev ed : Entry
  ed = machine.with_names (without name) time (entry_at A d)

  abbrev en : Entry
  en = nulled (entry_at A i)

  abbrev A' : List Entry
  A' = array s table A name dir o c time en

  apart_is : d ≢ i
  apart_is = apart s table A name dir o c

  leads_to : target t dh name ≡ Some h
  leads_to = target_is s table A name dir o c

  handles_apart : dh ≢ h
  handles_apart e = apart_is (one_row t table c.stands.placed h d i (c.live ∙ ap Some e) c.led.live)

  array_is : IsSetTwice d i ed en A A'
  array_is = entries s table A name dir o c time en

  cleared_rows : IsSetTwice d i (touched time rd) (emptied ri) table.rows.items table'.rows.items
  cleared_rows = set_twice d i rd ri (touched time rd) (emptied ri) table.rows.items table'.rows.items apart_is
      dir_row old_row (clears.rows rd ri dir_row old_row)

  -- all rows keep their handles but the object's
  pub handles_last : (j : ℕ) → j ≢ i → handle_at table'.rows.items j ≡ handle_at table.rows.items j
  handles_last = handles_stay d i rd (touched time rd) (emptied ri) table.rows.items table'.rows.items
      cleared_rows dir_row refl

  handle_gone : handle_at table'.rows.items i ≡ None
  handle_gone = handle_of_row table'.rows.items i (emptied ri) cleared_rows.second

  mapped_gone : index_in table' h ≡ None
  mapped_gone = by_new (index_in table' h) refl
    where
      by_new : (x : Option ℕ) → index_in table' h ≡ x → index_in table' h ≡ None
      by_new None is = is
      by_new (Some k) is =
          let at = (clears.in_step c.stands.placed.by_handle h k).0 is in
          elim (one_or_not k i) as (λ _. index_in table' h ≡ None) [
            | inl e ↦ absurd (some_none at (ap (handle_at table'.rows.items) e ∙ handle_gone))
            | inr ne ↦ absurd (ne (one_row t table c.stands.placed h k i (sym (handles_last k ne) ∙ at) c.led.live))
          ]

  mapped_other : (q : List ℕ) → q ≢ h → index_in table' q ≡ index_in table q
  mapped_other q ne = by_new (index_in table' q) refl
    where
      step : (k : ℕ) → index_in table' q ≡ Some k → index_in table q ≡ Some k
      step k is =
          let at = (clears.in_step c.stands.placed.by_handle q k).0 is in
          let not_i : k ≢ i = λ e. some_none at (ap (handle_at table'.rows.items) e ∙ handle_gone) in
          (c.stands.placed.by_handle q k).1 (sym (handles_last k not_i) ∙ at)

      back : (k : ℕ) → index_in table q ≡ Some k → index_in table' q ≡ Some k
      back k is =
          let at = (c.stands.placed.by_handle q k).0 is in
          let not_i : k ≢ i = λ e. ne (some_same at (ap (handle_at table.rows.items) e ∙ c.led.live)) in
          (clears.in_step c.stands.placed.by_handle q k).1 (handles_last k not_i ∙ at)

      by_old : (x : Option ℕ) → index_in table q ≡ x → index_in table' q ≡ None → x ≡ None
      by_old None is none = refl
      by_old (Some k) is none = absurd (some_none (back k is) none)

      by_new : (x : Option ℕ) → index_in table' q ≡ x → index_in table' q ≡ index_in table q
      by_new (Some k) is = is ∙ sym (step k is)
      by_new None is = is ∙ sym (by_old (index_in table q) refl is)

  module _ (few : links A i ≤ 1) where
    abbrev t2 : Tree
    t2 = without_node t1 h

    abbrev B : List Entry
    B = set A d ed

    object_in : slice_get B i ≡ Some (entry_at A i)
    object_in = slice_get-set_other A d i ed (λ e. apart_is (sym e)) ∙ (at_old s table A name dir o c).2.is_entry

    links_left : links A' i ≡ 0
    links_left =
        let here = (at_dir s table A name dir o c).2.is_entry in
        let fewer = subst (λ k. links B k + 1 ≡ links A k) (to_index s table A name dir o c)
        (links_unnamed A d ed name (row s table A name dir o c).row (slice_get_within A d (entry_at A d) here)
        (fits_at c.limits A c.valid d (entry_at A d) here).rising refl (row s table A name dir o c).found) in
        let moves = links-set B i i en (slice_get_within B i (entry_at A i) object_in) in
        omega (arith, fewer, moves, few)

    in_dir_gone : NameSet t table A d dh name None None t2 table' A'
    in_dir_gone = in_dir s table A name dir o c time table' t2 en (emptied ri) cleared_rows
        (λ n at. others_left t dh name h leads_to dh handles_apart
        ∙ dir_stays t dh name h leads_to n at)

    drops_node : DropsNode t table A d name i t2 table' A'
    drops_node = record {
      handle = h;
      row = ri;
      row' = emptied ri;
      node = (at_old s table A name dir o c).1;
      entry = entry_at A i;
      entry' = en;
      old_row = (row s table A name dir o c).row;
      in_dir = in_dir_gone.sets;
      was = ap (row_of name) in_dir_gone.names ∙ (row s table A name dir o c).found;
      was_index = to_index s table A name dir o c;
      before = (at_old s table A name dir o c).2;
      apart = apart_is;
      not_root = not_root s table A name dir o c;
      empty = c.empty;
      unnamed = no_name_left A' i links_left;
      root = root_stays t dh name h leads_to;
      node_gone = node_gone t dh name h leads_to;
      nodes = λ q not_h not_d. others_left t dh name h leads_to q not_h
          ∙ others_stay t dh name h leads_to q (λ e. not_d (e ∙ sym in_dir_gone.handle));
      rows = cleared_rows.stay;
      row_now = cleared_rows.second;
      row_null = refl;
      row_generation = refl;
      by_handle = mapped_gone;
      by_handles = mapped_other;
      array = array_is.stay;
      entry_now = array_is.second;
      entry_null = refl;
      entry_generation = refl;
    }

    gone_stands : (s' : Option Tree) → Removed t dh name s' → Stands s' table' A'
    gone_stands s' removed = stands_gone s.tree s' table table' A A' t2 d i name c.stands drops_node
        (removed_is t dh name h leads_to s' removed
        ∙ ap Some (node_goes t dh name h leads_to
        (let same = links_are s table A name dir o c in omega (arith, same, few))))

  -- server and table stand for the array without the name and the object
  pub stands_last : (s1 s' : Option Tree) → s1 ≡ s.tree → ((t : Tree) → s1 ≡ Some t → Removed t dh name s') →
      nat_le (links A i) 1 ≡ true → Stands s' table' (changed (drops A d name i time) A)
  stands_last s1 s' same removed last =
      let kept : Entry = with_attr (changed_at time (attr_of (entry_at A i))) (entry_at A i) in
      subst (λ e. Stands s' table' (array s table A name dir o c time e)) (sym (ap (λ b. if b then en else kept) last))
      (gone_stands (leb-true (links A i) 1 last) s' (removed t (same ∙ c.stands.has_tree)))
