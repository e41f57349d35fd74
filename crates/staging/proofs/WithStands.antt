-- With nothing staged and the right parents, the relation is that of a service at rest.
use Rattle.std.proofs.Common.{◌≡◌, ℕ, true, List, [], Option, Some, None, slice_get, refl, sym, ap, ◌∙◌, subst}
use Rattle.std.specs.Ordering.{nat_cmp}
use Rattle.std.specs.Cmp.Lexicographic.{slice_cmp}
use Rattle.std.specs.FinMap.{get, empty, get-empty}
use Rattle.server_trait.specs.Tree.{Tree, names_at}
use Rattle.server_trait.proofs.TreeLaws.{some_and, is_some_and, same_answers}
use Rattle.server_trait.specs.declared.bench.ConfEntry.{ConfEntry}
use Rattle.server_trait.specs.declared.bench.ConfTable.{ConfTable}
use Rattle.abs_model.specs.declared.entry.Entry.{Entry}
use Rattle.abs_model.specs.Objects.{is_dir}
use Rattle.conf_map.specs.Stands.{Leads, SameNames, IsParent, Stands}
use Rattle.staging.specs.Staged.{Staged}

no_names : (rows : List ConfEntry) → SameNames rows [] empty
no_names rows name = subst (λ o. Leads rows o None) (sym (get-empty (slice_cmp nat_cmp) name)) tt

-- a service at rest has nothing staged
pub at_rest : (s : Option Tree) (table : ConfTable) (A : List Entry) (st : Stands s table A) → Staged st.tree st.placed.staging table A []
at_rest s table A st = record {
  sited = record {
    export = st.placed.export;
    root_has = st.placed.root_has;
    staging_has = is_some_and (SameNames table.rows.items []) st.placed.staging_has (no_names table.rows.items);
    root_apart = st.placed.root_apart;
    is_export = st.placed.is_export;
    in_step = st.placed.by_handle;
    apart = st.placed.apart;
    covered = st.placed.covered;
    numbers = st.placed.numbers;
  };
  size = st.size;
  each = λ i r e is_r is_e. let k = st.each i r e is_r is_e in record { generation = k.generation; object = k.object };
}

-- every directory's row has its parent
abbrev pub ParentsAre : ConfTable → List Entry → Type 0
ParentsAre table A = (i : ℕ) (r : ConfEntry) (e : Entry) → slice_get table.rows.items i ≡ Some r → slice_get A i ≡ Some e → is_dir e ≡ true → IsParent A r.parent i

leads_none : (rows : List ConfEntry) (x : Option (List ℕ)) → Leads rows x None → x ≡ None
leads_none rows None l = refl
leads_none rows (Some h) l = absurd l

-- with nothing staged and the right parents, the service is at rest
pub rests : (s : Option Tree) (t : Tree) (area : List ℕ) (table : ConfTable) (A : List Entry) → s ≡ Some t → Staged t area table A [] → ParentsAre table A → Stands s table A
rests s t area table A has st parents = record {
  tree = t;
  has_tree = has;
  placed = record {
    export = st.sited.export;
    staging = area;
    root_has = st.sited.root_has;
    staging_has =
        let m = some_and (names_at t area) (SameNames table.rows.items []) st.sited.staging_has in
        m.1 ∙ ap Some (same_answers m.0 empty (λ q. leads_none table.rows.items (get m.0 q) (m.2 q) ∙ sym (get-empty (slice_cmp nat_cmp) q)));
    root_apart = st.sited.root_apart;
    is_export = st.sited.is_export;
    by_handle = st.sited.in_step;
    apart = st.sited.apart;
    covered = st.sited.covered;
    numbers = st.sited.numbers;
  };
  size = st.size;
  each = λ i r e is_r is_e. let k = st.each i r e is_r is_e in record { generation = k.generation; object = k.object; parent = parents i r e is_r is_e };
}
