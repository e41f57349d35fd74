-- What a call asks for, from what it found: the file can be written, the object can be set.
use Rattle.std.proofs.Common.{◌≡◌, ℕ, List, ◌++◌, length, Option, Some, None, sym, ap, ◌∙◌, subst}
use Rattle.std.specs.Prelude.{is_none, if◌then◌else◌}
use Rattle.nfs2_types.specs.declared.Limits.{Limits}
use Rattle.nfs2_types.specs.declared.Sattr.{Sattr}
use Rattle.nfs2_types.specs.declared.stat.TheConstants.{STALE}
use Rattle.nfs2_types.specs.Call.{write, set_attr}
use Rattle.server_trait.specs.Tree.{Tree, Server}
use Rattle.server_trait.specs.declared.bench.ConfTable.{ConfTable}
use Rattle.abs_model.specs.declared.entry.Entry.{Entry}
use Rattle.abs_model.specs.Objects.{bytes_of}
use Rattle.abs_model.specs.Array.{entry_at, at, used}
use Rattle.abs_model.specs.Machine.{Refusal, first_of, refusals, node_tests}
use Rattle.abs_model.proofs.Facts.{AllFalse, none_holds, file_is}
use Rattle.abs_model.proofs.Named.{at-live}
use Rattle.conf_map.specs.Stands.{Stands, StandsValid, AreWithin, HasRoom}
use Rattle.conf_map.proofs.Finding.{first_then}
use Rattle.node_changes.specs.Puts.{CanWrite, Suits, size_after}
use Rattle.node_changes.specs.Settings.{CanSet}
use Rattle.wrap_write.specs.declared.target.Target.{Target}
use Rattle.wrap_write.specs.Targets.{IsTarget, write_tests, size_tests}
use Rattle.wrap_write.proofs.WrittenSizes.{write_suits, alive, short, given_suits}

module _ (limits : Limits) (within : AreWithin limits) (s : Option Tree) (table : ConfTable) (A : List Entry)
    (k : StandsValid limits s table A) (server : Server) (same : server.tree ≡ s) (room : HasRoom limits server.limits)
    (node : List ℕ) (o : Target) where
  abbrev e : Entry
  e = entry_at A o.at.index

  -- where none of a call's tests holds, none of its entry's does
  entry_none : (tests : Entry → List Refusal) → IsTarget A table.rows.items node o →
      first_of (node_tests A node ++ tests (entry_at A (at A node))) ≡ None → first_of (tests e) ≡ None
  entry_none tests c first =
      ap (λ i. first_of (tests (entry_at A i))) (sym (at-live A node o.at.index c.is_index))
      ∙ sym (first_then (node_tests A node) (tests (entry_at A (at A node)))
      (ap (λ b. if b then Some STALE else None) (ap is_none c.is_index)))
      ∙ first

  pub can_write : (offset : ℕ) (bytes : List ℕ) →
      (first_of (refusals A limits (write node offset bytes)) ≡ None) × IsTarget A table.rows.items node o →
      CanWrite server table A o.attr.size offset (length bytes) o.at
  can_write offset bytes (first, c) =
      let none : AllFalse (write_tests A limits e offset (length bytes)) =
      none_holds (write_tests A limits e offset (length bytes))
      (entry_none (λ e. write_tests A limits e offset (length bytes)) c first) in
      let size : length (bytes_of e) ≡ o.attr.size = sym (c.seen.size none.0) in
      record {
        limits = limits;
        within = within;
        valid = k.valid;
        stands = subst (λ s. Stands s table A) (sym same) k.stands;
        tallied = k.tallied;
        room = room;
        live = c.live;
        is_file = file_is e (alive limits s table A k node o c) none.0 none.1.0;
        is_size = size;
        suits = subst (λ n. Suits limits (used A) n (size_after offset (length bytes) n)) size
            (write_suits limits (used A) (length (bytes_of e)) offset (length bytes) k.valid.room
            (short limits s table A k node o c none.1.0) none.1.1.0 none.1.1.1.0);
      }

  pub can_set : (sattr : Sattr) →
      (first_of (refusals A limits (set_attr node sattr)) ≡ None) × IsTarget A table.rows.items node o →
      CanSet server table A o.attr sattr o.at
  can_set sattr (first, c) =
      let none : AllFalse (size_tests A limits e sattr.size) = none_holds (size_tests A limits e sattr.size)
      (entry_none (λ e. size_tests A limits e sattr.size) c first) in
      record {
        limits = limits;
        within = within;
        valid = k.valid;
        stands = subst (λ s. Stands s table A) (sym same) k.stands;
        tallied = k.tallied;
        room = room;
        live = c.live;
        seen = c.seen;
        suits = given_suits limits s table A k node o c sattr.size none;
      }
