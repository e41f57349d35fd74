-- What a call finds: its object, or its first refusal.
use Rattle.std.proofs.Common.{◌≡◌, ℕ, List, ◌++◌, Option, Some, None, Result, Ok, Err, sym, ap, ◌∙◌}
use Rattle.std.specs.Prelude.{is_none, if◌then◌else◌}
use Rattle.std.specs.Option.{option_map}
use Rattle.nfs2_types.specs.declared.Stat.{Stat}
use Rattle.nfs2_types.specs.declared.stat.TheConstants.{STALE}
use Rattle.server_trait.specs.Tree.{Tree}
use Rattle.server_trait.specs.declared.server.NodeAttr.{NodeAttr}
use Rattle.server_trait.specs.declared.bench.ConfEntry.{ConfEntry}
use Rattle.server_trait.specs.declared.bench.ConfTable.{ConfTable}
use Rattle.abs_model.specs.declared.entry.Entry.{Entry}
use Rattle.abs_model.specs.Array.{entry_at, at}
use Rattle.abs_model.specs.Machine.{Refusal, first_of, node_tests}
use Rattle.abs_model.proofs.Named.{at-live}
use Rattle.conf_map.specs.Stands.{StandValid}
use Rattle.conf_map.specs.Tables.{located}
use Rattle.conf_map.specs.Found.{Finds, IsSeen}
use Rattle.conf_map.specs.declared.table.Located.{Located}
use Rattle.conf_map.proofs.Finding.{first_then, first_stops, finds_ok, finds_err}
use Rattle.conf_map.proofs.Seen.{live_agrees, located_live}
use Rattle.wrap_write.specs.declared.target.Target.{Target}
use Rattle.wrap_write.specs.Targets.{IsTarget}

-- OBJECTS

module _ (s : Option Tree) (table : ConfTable) (A : List Entry)
    (k : StandValid s table A) (node : List ℕ) where
  abbrev Search : List Refusal → Result Target Stat → Type 0
  Search tests = Finds tests (IsTarget A table.rows.items node)

  -- a handle that is not located is stale
  pub target_stale : None ≡ located table.rows.items node → Search (node_tests A node) (Err STALE)
  target_stale is = finds_err (ap (λ b. if b then Some STALE else None)
      (ap is_none (live_agrees s table A k.stands node ∙ ap (option_map (λ (l : Located). l.index)) (sym is))))

  -- and any other is that of a live object
  pub target_seen : (l : Located) (a : NodeAttr) → Some l ≡ located table.rows.items node →
      IsSeen (entry_at A l.index) a → Search (node_tests A node) (Ok (record { at = l; attr = a }))
  target_seen l a is seen =
      let live = live_agrees s table A k.stands node ∙ ap (option_map (λ (l : Located). l.index)) (sym is) in
      finds_ok (ap (λ b. if b then Some STALE else None) (ap is_none live)) (record {
        is_index = live;
        live = located_live table.rows.items node l (sym is);
        seen = seen;
      })

-- CALLS

-- a call on an object: first the tests of its handle, and then those of its entry
module _ (A : List Entry) (rows : List ConfEntry) (node : List ℕ) (tests : Entry → List Refusal)
    (r : Result Target Stat) (found : Finds (node_tests A node) (IsTarget A rows node) r) where
  abbrev all : List Refusal
  all = node_tests A node ++ tests (entry_at A (at A node))

  -- a stale handle is refused
  pub call_stale : (stat : Stat) → r ≡ Err stat → Finds all (IsTarget A rows node) (Err stat)
  call_stale stat is =
      finds_err (first_stops (node_tests A node) (tests (entry_at A (at A node))) (found.refused stat is))

  module _ (o : Target) (is : r ≡ Ok o) (q : Option Stat)
      (tested : IsSeen (entry_at A o.at.index) o.attr → q ≡ first_of (tests (entry_at A o.at.index))) where
    target : IsTarget A rows node o
    target = (found.found o is).1

    first : first_of all ≡ q
    first =
        first_then (node_tests A node) (tests (entry_at A (at A node))) (found.found o is).0
        ∙ ap (λ i. first_of (tests (entry_at A i))) (at-live A node o.at.index target.is_index)
        ∙ sym (tested target.seen)

    -- the first test that holds refuses the call
    pub call_refused : (stat : Stat) → q ≡ Some stat → Finds all (IsTarget A rows node) (Err stat)
    call_refused stat holds = finds_err (first ∙ holds)

    -- and where none holds it is done
    pub call_found : q ≡ None → Finds all (IsTarget A rows node) (Ok o)
    call_found none = finds_ok (first ∙ none) target
