-- At the server: an object goes out of staging for good, and a new one is begun there.
use Rattle.std.proofs.Common.{◌≡◌, ◌≢◌, ◌⊎◌, inl, inr, ℕ, List, Option, Some, None, slice_get, refl, sym, ap, ◌∙◌, subst}
use Rattle.std.specs.Ordering.{nat_cmp}
use Rattle.std.specs.Cmp.Lexicographic.{slice_cmp}
use Rattle.std.specs.FinMap.{get, insert, empty, get-empty}
use Rattle.server_trait.specs.Tree.{Tree, Node, Names, Content, node_at, names_at, names_in, target, IsNamed, with_node, without_node, new_node, named, unnamed, let_go}
use Rattle.server_trait.specs.Calls.{Made, Removed}
use Rattle.server_trait.proofs.TreeLaws.{some_and, is_some_and, some_none, some_same, and_then_some, bytes_or_not, target_found, names_at-node, get-insert_same, get-insert_other, get-remove_same, get-remove_other, let_go-unnamed}
use Rattle.server_trait.specs.declared.bench.ConfEntry.{ConfEntry}
use Rattle.server_trait.specs.declared.bench.ConfTable.{ConfTable}
use Rattle.abs_model.specs.declared.entry.NameRow.{NameRow}
use Rattle.abs_model.specs.declared.entry.Entry.{Entry}
use Rattle.abs_model.specs.declared.entry.Object.TheVariants.{Null}
use Rattle.abs_model.specs.Objects.{names_of, row_of}
use Rattle.abs_model.specs.Array.{entry_at}
use Rattle.conf_map.specs.Stands.{handle_at, root_names, export_name, staging_name, Leads, SameNames, IsObject}
use Rattle.conf_map.specs.Moves.{IsSetAt}
use Rattle.conf_map.specs.Tables.{IsInStep}
use Rattle.conf_map.proofs.Frames.{handle_of_row}
use Rattle.staging.specs.Staged.{Staged, StagedAt}
use Rattle.staging.specs.Steps.{ListNamed}
use Rattle.staging.proofs.Frames.{one_row}
use Rattle.staging.proofs.Made.{staged_made}
use Rattle.staging.proofs.Gone.{staged_gone}
use Rattle.staging.proofs.NameSteps.{staged_named_staging}
use Rattle.staging.proofs.Renames.{name_added, name_dropped}
use Rattle.staging.proofs.Ways.{led}

-- WHERE NAMES LEAD

-- the root's names lead to export and staging alone
root_leads : (e s x h : List ℕ) → get (root_names e s) x ≡ Some h → (h ≡ e) ⊎ (h ≡ s)
root_leads e s x h is = elim (bytes_or_not x staging_name) as (λ _. (h ≡ e) ⊎ (h ≡ s)) [
  | inl at ↦ inr (some_same is (ap (get (root_names e s)) at ∙ get-insert_same (insert empty export_name e) staging_name s))
  | inr ne ↦
      let below = sym (get-insert_other (insert empty export_name e) staging_name s x ne) ∙ is in
      elim (bytes_or_not x export_name) as (λ _. (h ≡ e) ⊎ (h ≡ s)) [
        | inl at ↦ inl (some_same below (ap (get (insert empty export_name e)) at ∙ get-insert_same empty export_name e))
        | inr ne' ↦ absurd (some_none (sym (get-insert_other empty export_name e x ne') ∙ below) (get-empty (slice_cmp nat_cmp) x))
      ]
]

leads_from : (rows : List ConfEntry) (h : List ℕ) (o : Option NameRow) → Leads rows (Some h) o → (row : NameRow) × (o ≡ Some row) × (handle_at rows row.index ≡ Some h)
leads_from rows h None l = absurd l
leads_from rows h (Some row) l = (row, refl, l)

-- what no entry's name leads to, and none of staging's, no name of the tree leads to
pub not_named : (t : Tree) (area : List ℕ) (table : ConfTable) (A : List Entry) (S : List NameRow) (st : Staged t area table A S) (i : ℕ) (h : List ℕ) → handle_at table.rows.items i ≡ Some h → i ≢ 0 →
    ((p : ℕ) (x : List ℕ) (r : NameRow) → row_of x (names_of (entry_at A p)) ≡ Some r → r.index ≢ i) → ((x : List ℕ) (r : NameRow) → row_of x S ≡ Some r → r.index ≢ i) → IsNamed t h → ⊥
not_named t area table A S st i h at_i not_export unnamed unstaged n =
    let f = target_found t n.0 n.1 h n.2 in
    elim (st.sited.covered n.0 f.node f.is_node) as (λ _. ⊥) [
      | inl root ↦
          let m = some_same (ap (names_at t) (sym root) ∙ names_at-node t n.0 f.node f.is_node ∙ f.is_dir) st.sited.root_has in
          elim (root_leads st.sited.export area n.1 h (ap (λ m. get m n.1) (sym m) ∙ f.leads)) as (λ _. ⊥) [
            | inl export ↦ not_export (one_row t area table S st.sited h i 0 at_i (st.sited.is_export ∙ ap Some (sym export)))
            | inr staging ↦ (st.sited.apart i h at_i).1 staging
          ]
      | inr other ↦ elim other as (λ _. ⊥) [
        | inl staging ↦
            let k = some_and (names_at t area) (SameNames table.rows.items S) st.sited.staging_has in
            let m = some_same (ap (names_at t) (sym staging) ∙ names_at-node t n.0 f.node f.is_node ∙ f.is_dir) k.1 in
            let l = leads_from table.rows.items h (row_of n.1 S) (subst (λ o. Leads table.rows.items o (row_of n.1 S)) (ap (λ m. get m n.1) (sym m) ∙ f.leads) (k.2 n.1)) in
            unstaged n.1 l.0 l.1 (one_row t area table S st.sited h l.0.index i l.2 at_i)
        | inr row ↦
            let l = led t area table A S st row.0 n.0 n.1 h row.1 n.2 in
            unnamed row.0 n.1 l.0 l.1 (one_row t area table S st.sited h l.0.index i l.2 at_i)
      ]
    ]

module _ (t : Tree) (area : List ℕ) (table table' : ConfTable) (A A' : List Entry) (S S' : List NameRow) (st : Staged t area table A S) (i : ℕ) (h name : List ℕ) where
  staging_is : (n : Node) × (m : Names) × (node_at t area ≡ Some n) × (names_in n.content ≡ Some m)
  staging_is =
      let m = some_and (names_at t area) (SameNames table.rows.items S) st.sited.staging_has in
      let n = and_then_some (λ (n : Node). names_in n.content) (node_at t area) m.0 m.1 in
      (n.0, m.0, n.1, n.2)

  -- what has no name but staging's is removed
  module _ (row row' : ConfEntry) (entry' : Entry) (is_row : slice_get table.rows.items i ≡ Some row) (is_handle : row.handle ≡ Some h) (not_export : i ≢ 0)
      (there : target t area name ≡ Some h) (list : ListNamed S name None S')
      (unnamed_i : (p : ℕ) (x : List ℕ) (r : NameRow) → row_of x (names_of (entry_at A p)) ≡ Some r → r.index ≢ i) (unstaged_i : (x : List ℕ) (r : NameRow) → row_of x S' ≡ Some r → r.index ≢ i)
      (rows : IsSetAt i row' table.rows.items table'.rows.items) (row_null : row'.handle ≡ None) (in_step : IsInStep table')
      (array : IsSetAt i entry' A A') (null : entry'.object ≡ Null) (generation : row'.generation ≡ entry'.generation) where
    at_i : handle_at table.rows.items i ≡ Some h
    at_i = handle_of_row table.rows.items i row is_row ∙ is_handle

    abbrev t1 : Tree
    t1 = unnamed t area name

    first : Staged t1 area table A S'
    first = let g = staging_is in staged_named_staging t t1 area table A S S' name None None st (record { node = name_dropped t area name g.0 g.1 g.2 g.3; list = list; leads = tt })

    gone : let_go t1 h ≡ without_node t1 h
    gone = let_go-unnamed t1 h (not_named t1 area table A S' first i h at_i not_export unnamed_i unstaged_i)

    pub staged_removed : (after : Option Tree) → Removed t area name after → StagedAt after area table' A' S'
    staged_removed after removed =
        let x = some_and (target t area name) (λ h. after ≡ Some (let_go (unnamed t area name) h)) removed in
        is_some_and (λ t. Staged t area table' A' S') (x.2 ∙ ap (λ h. Some (let_go t1 h)) (some_same x.1 there) ∙ ap Some gone) (staged_gone t1 (without_node t1 h) area table table' A A' S' i first (record {
          handle = h;
          row = row;
          row' = row';
          entry' = entry';
          is_row = is_row;
          is_handle = is_handle;
          not_export = not_export;
          unnamed = unnamed_i;
          unstaged = unstaged_i;
          root = refl;
          node_gone = get-remove_same t1.nodes h;
          nodes = λ q ne. get-remove_other t1.nodes h q ne;
          rows = rows;
          row_null = row_null;
          in_step = in_step;
          array = array;
          null = null;
          generation = generation;
        }))

  -- an object is begun in staging
  module _ (content : Content) (new : Option Tree) (made : Made t area name content h new) (row' : ConfEntry) (entry' : Entry) (staged_row : NameRow)
      (was_null : handle_at table.rows.items i ≡ None) (rows : IsSetAt i row' table.rows.items table'.rows.items) (is_handle : row'.handle ≡ Some h) (in_step : IsInStep table')
      (array : IsSetAt i entry' A A') (generation : row'.generation ≡ entry'.generation)
      (object : IsObject (with_node t h (new_node made.number content)) table'.rows.items row' entry'.object)
      (list : ListNamed S name (Some staged_row) S') (to_i : staged_row.index ≡ i) where
    abbrev t2 : Tree
    t2 = with_node t h (new_node made.number content)

    begun : Staged t2 area table' A' S
    begun = staged_made t t2 area table table' A A' S i st (record {
      handle = h;
      node = new_node made.number content;
      row' = row';
      entry' = entry';
      was_null = was_null;
      new_handle = made.new_handle;
      new_number = made.new_number;
      root = refl;
      node_now = get-insert_same t.nodes h (new_node made.number content);
      nodes = λ q ne. get-insert_other t.nodes h (new_node made.number content) q ne;
      rows = rows;
      is_handle = is_handle;
      in_step = in_step;
      array = array;
      generation = generation;
      object = object;
    })

    pub staged_begun : StagedAt new area table' A' S'
    staged_begun =
        let g = staging_is in
        let apart : area ≢ h = λ e. some_none (ap (node_at t) (sym e) ∙ g.2) made.new_handle in
        let now_i : handle_at table'.rows.items i ≡ Some h = handle_of_row table'.rows.items i row' rows.here ∙ is_handle in
        is_some_and (λ t. Staged t area table' A' S') made.after (staged_named_staging t2 (named t2 area name h) area table' A' S S' name (Some h) (Some staged_row) begun (record {
          node = name_added t2 area name g.0 g.1 (get-insert_other t.nodes h (new_node made.number content) area apart ∙ g.2) g.3 h;
          list = list;
          leads = ap (handle_at table'.rows.items) to_i ∙ now_i;
        }))
