-- Where the names of a live directory lead: to the handles of the rows to which the entry's names lead.
use Rattle.std.proofs.Common.{◌≡◌, ◌↔◌, ℕ, true, false, List, Option, Some, None, refl, sym, ap, ◌∙◌, subst}
use Rattle.std.specs.Option.{option_and_then}
use Rattle.std.specs.FinMap.{get}
use Rattle.server_trait.specs.Tree.{Tree, Node, Names, names_at, names_in, target}
use Rattle.server_trait.specs.Step.{IsStale, IsNo, LacksName}
use Rattle.server_trait.proofs.TreeLaws.{some_and, is_some_and, some_none, names_at-node}
use Rattle.server_trait.specs.declared.bench.ConfEntry.{ConfEntry}
use Rattle.server_trait.specs.declared.bench.ConfTable.{ConfTable}
use Rattle.abs_model.specs.declared.entry.NameRow.{NameRow}
use Rattle.abs_model.specs.declared.entry.Entry.{Entry}
use Rattle.abs_model.specs.Objects.{is_dir, names_of, row_of}
use Rattle.conf_map.specs.Stands.{handle_at, Leads, SameNames, Stands}
use Rattle.conf_map.specs.Moves.{IsAt}
use Rattle.conf_map.proofs.LiveRows.{same_content}
use Rattle.conf_map.proofs.Sizes.{names_content, dir_content}

-- the handle of the row to which a name's row leads
abbrev pub handle_of : List ConfEntry → Option NameRow → Option (List ℕ)
handle_of rows o = option_and_then (λ (row : NameRow). handle_at rows row.index) o

leads_same : (rows : List ConfEntry) (x : Option (List ℕ)) (o : Option NameRow) → Leads rows x o → x ≡ handle_of rows o
leads_same rows None None l = refl
leads_same rows (Some h) (Some row) l = sym l
leads_same rows None (Some row) l = absurd l
leads_same rows (Some h) None l = absurd l

leads_some : (rows : List ConfEntry) (x : Option (List ℕ)) (row : NameRow) → Leads rows x (Some row) →
    (h : List ℕ) × (x ≡ Some h) × (handle_at rows row.index ≡ Some h)
leads_some rows None row l = absurd l
leads_some rows (Some h) row l = (h, refl, l)

leads_from : (rows : List ConfEntry) (h : List ℕ) (o : Option NameRow) → Leads rows (Some h) o →
    (row : NameRow) × (o ≡ Some row) × (handle_at rows row.index ≡ Some h)
leads_from rows h None l = absurd l
leads_from rows h (Some row) l = (row, refl, l)

leads_none : (rows : List ConfEntry) (x : Option (List ℕ)) → Leads rows x None → x ≡ None
leads_none rows None l = refl
leads_none rows (Some h) l = absurd l

leads_no_row : (rows : List ConfEntry) (o : Option NameRow) → Leads rows None o → o ≡ None
leads_no_row rows None l = refl
leads_no_row rows (Some row) l = absurd l

module _ (s : Option Tree) (table : ConfTable) (A : List Entry) (st : Stands s table A)
    (d : ℕ) (h : List ℕ) (r : ConfEntry) (n : Node) (e : Entry) (at : IsAt st.tree table A d h r n e) where
  -- a live row's handle is not stale
  pub not_stale : IsStale st.tree h → ⊥
  not_stale stale = some_none at.is_node stale

  -- a live directory's names, as the server has them
  pub dir_map : is_dir e ≡ true → (m : Names) × (names_at st.tree h ≡ Some m)
      × SameNames table.rows.items (names_of e) m
  dir_map dir =
      let m = names_content table.rows.items e.generation e.object n.content dir
      (same_content s table A st d h r n e at) in
      (m.0, names_at-node st.tree h n at.is_node ∙ m.1, m.2)

  -- what is no directory is none to the server
  pub other_not_dir : is_dir e ≡ false → IsNo names_in st.tree h
  other_not_dir other = is_some_and (λ n. names_in n.content ≡ None) at.is_node (none (names_in n.content) refl)
    where
      none : (o : Option Names) → names_in n.content ≡ o → names_in n.content ≡ None
      none None is = is
      none (Some m) is = absurd
          (let bad : true ≡ false = sym
          (dir_content table.rows.items e.generation e.object n.content m (same_content s table A st d h r n e at) is)
          ∙ other in cc)

  module _ (dir : is_dir e ≡ true) (name : List ℕ) where
    led : Leads table.rows.items (target st.tree h name) (row_of name (names_of e))
    led =
        let m = dir_map dir in
        subst (λ o. Leads table.rows.items o (row_of name (names_of e)))
        (sym (ap (option_and_then (λ (m : Names). get m name)) m.1)) (m.2 name)

    -- where the entry has the name
    pub target_some : (row : NameRow) → row_of name (names_of e) ≡ Some row →
        (x : List ℕ) × (target st.tree h name ≡ Some x) × (handle_at table.rows.items row.index ≡ Some x)
    target_some row is = leads_some table.rows.items (target st.tree h name) row
        (subst (Leads table.rows.items (target st.tree h name)) is led)

    -- where the server has the name
    pub row_of_target : (x : List ℕ) → target st.tree h name ≡ Some x →
        (row : NameRow) × (row_of name (names_of e) ≡ Some row) × (handle_at table.rows.items row.index ≡ Some x)
    row_of_target x is = leads_from table.rows.items x (row_of name (names_of e))
        (subst (λ o. Leads table.rows.items o (row_of name (names_of e))) is led)

    -- where the entry has no such name
    pub target_none : row_of name (names_of e) ≡ None → target st.tree h name ≡ None
    target_none is = leads_none table.rows.items (target st.tree h name)
        (subst (Leads table.rows.items (target st.tree h name)) is led)

    -- where the server has no such name
    pub no_row_of_target : target st.tree h name ≡ None → row_of name (names_of e) ≡ None
    no_row_of_target is = leads_no_row table.rows.items (row_of name (names_of e))
        (subst (λ o. Leads table.rows.items o (row_of name (names_of e))) is led)

    -- the server lacks the name where the entry does
    pub lacks_agrees : LacksName st.tree h name ↔ (row_of name (names_of e) ≡ None)
    lacks_agrees =
        let m = dir_map dir in (
          (λ l. let k = some_and (names_at st.tree h) (λ m. get m name ≡ None) l in
              no_row_of_target (ap (option_and_then (λ (m : Names). get m name)) k.1 ∙ k.2)),
          (λ is. is_some_and (λ m. get m name ≡ None) m.1
              (sym (ap (option_and_then (λ (m : Names). get m name)) m.1) ∙ target_none is)),
        )
