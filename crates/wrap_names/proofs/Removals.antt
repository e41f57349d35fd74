-- REMOVE and RMDIR, from the name that was found to their answers.
use Rattle.std.proofs.Common.{◌≡◌, ◌≢◌, ℕ, ◌<◌, arith, length, List, [], ◌∷◌, Option, Result, Ok, refl, sym, ap, ◌∙◌, subst}
use Rattle.std.specs.Prelude.{nat_le, if◌then◌else◌}
use Rattle.nfs2_types.specs.declared.Limits.{Limits}
use Rattle.nfs2_types.specs.declared.Cred.{Cred}
use Rattle.nfs2_types.specs.declared.Time.{Time}
use Rattle.nfs2_types.specs.declared.Stat.{Stat}
use Rattle.nfs2_types.specs.Call.{remove, remove_dir}
use Rattle.server_trait.specs.Tree.{Tree, Server}
use Rattle.server_trait.specs.declared.bench.ConfTable.{ConfTable}
use Rattle.abs_model.specs.declared.entry.Entry.{Entry}
use Rattle.abs_model.specs.declared.entry.Change.{Change}
use Rattle.abs_model.specs.Objects.{names_of, attr_of, without, with_attr, changed_at, nulled}
use Rattle.abs_model.specs.Array.{entry_at, at, target}
use Rattle.abs_model.specs.Machine.{to_be, with_names, unlinked}
use Rattle.abs_model.specs.Valid.{leads}
use Rattle.abs_model.proofs.Facts.{no_names, row_is, found_passes, led_is}
use Rattle.conf_map.specs.Stands.{StandsValid, StandValid, AreWithin, Stands}
use Rattle.conf_map.specs.Found.{Finds}
use Rattle.conf_map.proofs.Performed.{Does}
use Rattle.conf_map.proofs.Shows.{stand_valid, live_within}
use Rattle.wrap_names.specs.declared.find.Found.{Found}
use Rattle.node_changes.specs.Drops.{drops, CanDrop}
use Rattle.wrap_names.specs.Present.{IsOld, remove_tests, IsFileName, remove_dir_tests, IsDirName}
use Rattle.wrap_names.proofs.OldTests.{dir_at, old_at}

module _ (limits : Limits) (within : AreWithin limits) (table : ConfTable) (A : List Entry) (dir name : List ℕ)
    {s0 : Option Tree} (k : StandsValid limits s0 table A) where
  valid : StandValid s0 table A
  valid = stand_valid limits s0 table A within k

  -- WHAT IS DONE

  -- what server and table stand for still
  pub still_here : (s : Option Tree) → s ≡ s0 → StandValid s table A
  still_here s same = subst (λ s. StandValid s table A) (sym same) valid

  module _ (f : Found) where
    -- a name whose object has no names can be taken out
    can_drop : IsOld A table.rows.items dir name f → names_of (entry_at A f.at.index) ≡ [] →
        (s : Server) → s.tree ≡ s0 → CanDrop s table A name f.dir f.at
    can_drop old none s same = record {
      limits = limits;
      within = within;
      valid = k.valid;
      stands = subst (λ s. Stands s table A) (sym same) k.stands;
      tallied = k.tallied;
      live = old.in_dir.live;
      is_dir = old.in_dir.is_dir;
      good = old.good;
      led = old.led;
      empty = none;
    }

    -- no name leads to the root
    not_root : IsOld A table.rows.items dir name f → f.at.index ≢ 0
    not_root old e =
        let d : ℕ = f.dir.index in
        let row = row_is A d name old.led.has in
        let within_rows = live_within table.rows.items d f.dir.handle old.in_dir.live in
        let size = k.stands.size in
        let below : d < length A = omega (arith, within_rows, size) in
        (led_is A row.row (found_passes (leads A) name (names_of (entry_at A d)) row.row row.found
        (k.valid.lead d below))).not_root (sym row.leads_there ∙ old.led.target ∙ e)

    -- REMOVE
    module _ {r : Result Found Stat}
        (finds : (A : List Entry) → StandValid s0 table A →
        Finds (remove_tests A dir name) (IsFileName A table.rows.items dir name) r)
        (is : r ≡ Ok f) where
      file : IsFileName A table.rows.items dir name f
      file = ((finds A valid).found f is).1

      pub file_drop : (s : Server) → s.tree ≡ s0 → CanDrop s table A name f.dir f.at
      file_drop = can_drop file.old (no_names (entry_at A f.at.index) file.no_dir)

      pub file_does : (cred : Cred) (t : Time) →
          Does A limits cred t (remove dir name) (drops A f.dir.index name f.at.index t) (f.dir.index ∷ f.at.index ∷ [])
      file_does cred t = record {
        none = ((finds A valid).found f is).0;
        puts_are = ap (λ d. drops A d name (target A (at A dir) name) t)
            (dir_at A table.rows.items dir name f file.old)
            ∙ ap (λ i. drops A f.dir.index name i t) (old_at A table.rows.items dir name f file.old);
        tells_are = refl;
      }

    -- RMDIR
    module _ {r : Result Found Stat}
        (finds : (A : List Entry) → StandValid s0 table A →
        Finds (remove_dir_tests A dir name) (IsDirName A table.rows.items dir name) r)
        (is : r ≡ Ok f) where
      directory : IsDirName A table.rows.items dir name f
      directory = ((finds A valid).found f is).1

      pub dir_drop : (s : Server) → s.tree ≡ s0 → CanDrop s table A name f.dir f.at
      dir_drop = can_drop directory.old directory.empty

      abbrev i : ℕ
      i = f.at.index

      abbrev gone : ℕ → ℕ → Time → Entry → List Change
      gone d i t e = to_be d (with_names (without name) t (entry_at A d)) ∷ to_be i e ∷ []

      -- a directory's one name is its last
      last : (t : Time) → nulled (entry_at A i) ≡ unlinked A i t
      last t =
          let kept : Entry = with_attr (changed_at t (attr_of (entry_at A i))) (entry_at A i) in
          sym (ap (λ b. if b then nulled (entry_at A i) else kept)
          (ap (λ n. nat_le n 1) (k.valid.one_name i directory.is_dir (not_root directory.old))))

      pub dir_does : (cred : Cred) (t : Time) →
          Does A limits cred t (remove_dir dir name) (drops A f.dir.index name i t) (f.dir.index ∷ i ∷ [])
      dir_does cred t = record {
        none = ((finds A valid).found f is).0;
        puts_are =
            ap (λ d. gone d (target A (at A dir) name) t (nulled (entry_at A (target A (at A dir) name))))
            (dir_at A table.rows.items dir name f directory.old)
            ∙ ap (λ i. gone f.dir.index i t (nulled (entry_at A i)))
            (old_at A table.rows.items dir name f directory.old)
            ∙ ap (gone f.dir.index i t) (last t);
        tells_are = refl;
      }
