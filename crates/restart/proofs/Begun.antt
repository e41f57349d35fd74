-- After a reboot the export directory is found under its name.
use Rattle.std.proofs.Common.{◌≡◌, ◌≢◌, ℕ, zero, suc, ◌≤◌, true, false, List, [], Option, Some, None, IsSome, is_some, length, replicate, slice_get, refl, sym, ap, ◌∙◌, arith}
use Rattle.std.specs.Option.{option_and_then, option_map}
use Rattle.std.specs.FinMap.{get, insert, empty}
use Rattle.std.proofs.lemmas.Option.{slice_get_within}
use Rattle.server_trait.specs.Tree.{Tree, Names, names_at, target}
use Rattle.server_trait.proofs.TreeLaws.{is_some_and, some_none, some_same, and_then_some, get-insert_same, get-insert_other}
use Rattle.server_trait.specs.declared.bench.ConfEntry.{ConfEntry}
use Rattle.server_trait.specs.declared.bench.ConfTable.{ConfTable}
use Rattle.abs_model.specs.declared.entry.Entry.{Entry}
use Rattle.conf_map.specs.Stands.{root_names, export_name, staging_name}
use Rattle.restart.specs.Numbers.{IsNumbered}
use Rattle.restart.specs.Rows.{handle_of}
use Rattle.restart.specs.Walk.{Restarts, is_found, IsGoing, IsNoted, IsBegun, IsExport}
use Rattle.restart.specs.declared.found.Found.{Found}
use Rattle.restart.proofs.Noting.{is_noted}
use Rattle.restart.proofs.Rebooted.{moved_names}

differ : export_name ≢ staging_name
differ e = let l : length export_name ≡ length staging_name = ap length e in absurd (omega arith)

export_there : (e s : List ℕ) → get (root_names e s) export_name ≡ Some e
export_there e s = get-insert_other (insert empty export_name e) staging_name s export_name differ ∙ get-insert_same empty export_name e

found_none : (n i : ℕ) → handle_of (replicate n None) i ≡ None
found_none zero i = refl
found_none (suc n) zero = refl
found_none (suc n) (suc i) = found_none n i

module _ (s : Option Tree) (table : ConfTable) (A : List Entry) (k : Restarts s table A) where
  -- where the name leads now
  export_now : target k.now k.now.root export_name ≡ Some (k.new k.stands.placed.export)
  export_now =
      let m = moved_names k.new k.stands.tree k.now k.moved k.stands.tree.root (root_names k.stands.placed.export k.stands.placed.staging) k.stands.placed.root_has in
      ap (option_and_then (λ (m : Names). get m export_name)) (ap (names_at k.now) k.moved.root ∙ m.is)
      ∙ m.leads export_name ∙ ap (option_map k.new) (export_there k.stands.placed.export k.stands.placed.staging)

  pub is_begun : IsBegun s
  is_begun = is_some_and (λ t. IsSome (target t t.root export_name)) k.has_tree (ap is_some export_now)

  pub some_row : 1 ≤ length table.rows.items
  some_row =
      let r = and_then_some (λ (r : ConfEntry). r.handle) (slice_get table.rows.items 0) k.stands.placed.export k.stands.placed.is_export in
      slice_get_within table.rows.items 0 r.0 r.1

  -- with nothing found a walk can go on
  from_nothing : (f : Found) → IsNumbered table.rows.items f.rows → f.handles.items ≡ replicate (length table.rows.items) None → f.dirs.items ≡ [] → IsGoing table k.new A f
  from_nothing f numbered handles dirs = record {
    numbered = numbered;
    size = ap length handles ∙ length_replicate (length table.rows.items);
    right = λ i q is. absurd (some_none is (ap (λ hs. handle_of hs i) handles ∙ found_none (length table.rows.items) i));
    dirs_found = λ j i at. absurd (some_none at (ap (λ ds. slice_get ds j) dirs));
    all_dirs = λ i found _. absurd (let bad : true ≡ false = sym found ∙ ap is_some (ap (λ hs. handle_of hs i) handles ∙ found_none (length table.rows.items) i) in cc);
    few = let l = ap length dirs in omega (arith, l);
  }
    where
      length_replicate : (n : ℕ) → length (replicate n (let none : Option (List ℕ) = None in none)) ≡ n
      length_replicate zero = refl
      length_replicate (suc n) = ap suc (length_replicate n)

  pub begins : (f f' : Found) (h : List ℕ) → IsNumbered table.rows.items f.rows → f.handles.items ≡ replicate (length table.rows.items) None → f.dirs.items ≡ [] → IsExport s h → IsNoted f 0 h true f' → IsGoing table k.new A f' × (is_found f' 0 ≡ true)
  begins f f' h numbered handles dirs export n =
      let is_new : h ≡ k.new k.stands.placed.export = some_same (export k.now k.has_tree) export_now in
      let x = is_noted table k.new A f f' 0 k.stands.placed.export h true (from_nothing f numbered handles dirs) k.stands.placed.is_export is_new (sym k.valid.root) n in
      (x.going, x.here)
