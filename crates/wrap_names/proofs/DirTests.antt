-- The tests of a directory that is to be removed.
use Rattle.std.proofs.Common.{◌≡◌, ℕ, arith, Bool, true, false, List, [], ◌∷◌, length, Option, Some, None, Result, Ok, Err, IsSomeAnd, inl, inr, refl, sym, ap, ◌∙◌}
use Rattle.std.specs.Prelude.{not, nat_lt, if◌then◌else◌}
use Rattle.std.proofs.lemmas.Bool.{cases_Bool, ltb-false}
use Rattle.nfs2_types.specs.declared.Stat.{Stat}
use Rattle.nfs2_types.specs.declared.stat.TheConstants.{NOTDIR, NOTEMPTY}
use Rattle.server_trait.specs.Tree.{Tree, Node, node_at, size_of}
use Rattle.server_trait.specs.Calls.{IsAttr}
use Rattle.server_trait.specs.declared.server.NodeAttr.{NodeAttr}
use Rattle.server_trait.specs.declared.bench.ConfEntry.{ConfEntry}
use Rattle.server_trait.specs.declared.bench.ConfTable.{ConfTable}
use Rattle.server_trait.proofs.TreeLaws.{some_and, some_same}
use Rattle.abs_model.specs.declared.entry.NameRow.{NameRow}
use Rattle.abs_model.specs.declared.entry.Entry.{Entry}
use Rattle.abs_model.specs.Objects.{is_dir, names_of}
use Rattle.abs_model.specs.Array.{entry_at, at, target}
use Rattle.abs_model.specs.Machine.{Refusal, ◌answers◌, first_of, old_name_tests}
use Rattle.abs_model.proofs.Facts.{none_holds, dir_is}
use Rattle.conf_map.specs.Stands.{handle_at, StandValid}
use Rattle.conf_map.specs.Found.{is_dir_kind, Finds}
use Rattle.conf_map.proofs.Finding.{finds_ok, finds_err}
use Rattle.conf_map.proofs.ObjectChanges.{at_index}
use Rattle.conf_map.proofs.ObjectFacts.{object_seen}
use Rattle.conf_map.proofs.Sizes.{size_agrees}
use Rattle.wrap_names.specs.declared.find.Found.{Found}
use Rattle.wrap_names.specs.Present.{IsOld, remove_dir_tests, no_removal, IsDirName}
use Rattle.wrap_names.proofs.OldTests.{old_rest, is_old, still_valid}

-- the tests of what a name leads to
abbrev pub removal_tests : Entry → List Refusal
removal_tests e = (not (is_dir e) answers NOTDIR) ∷ (nat_lt 0 (length (names_of e)) answers NOTEMPTY) ∷ []

abbrev by_names : Bool → Option Stat
by_names b = if b then Some NOTEMPTY else None

module _ (s : Option Tree) (table : ConfTable) (A : List Entry) (k : StandValid s table A) (i : ℕ)
    (h : List ℕ) (a : NodeAttr) (live : handle_at table.rows.items i ≡ Some h)
    (told : (t : Tree) → s ≡ Some t → IsSomeAnd (node_at t h) (IsAttr t h a)) where
  abbrev e : Entry
  e = entry_at A i

  kind : is_dir_kind a.kind ≡ is_dir e
  kind = (object_seen s table A k i h a live told).dir

  same_size : is_dir e ≡ true → a.size ≡ length (names_of e)
  same_size is =
      let at = at_index s table A k.stands i h live in
      let n = some_and (node_at k.stands.tree h) (IsAttr k.stands.tree h a) (told k.stands.tree k.stands.has_tree) in
      let size = n.2.size in
      let same = ap (λ (n : Node). size_of n.content) (some_same n.1 at.2.is_node) in
      let all = size_agrees k.limits s table A k.stands k.valid i h at.0 at.1 e at.2 in
      let none = ap length (dir_is e is).bytes in
      omega (arith, size, same, all, none)

  -- what a server tells of a live object decides them
  pub removal_is : no_removal a ≡ first_of (removal_tests e)
  removal_is = elim (cases_Bool (is_dir e)) [
    | inl is ↦ ap (λ b. if b then by_names (nat_lt 0 a.size) else Some NOTDIR) (kind ∙ is)
        ∙ ap (λ n. by_names (nat_lt 0 n)) (same_size is)
        ∙ sym (ap (λ b. if not b then Some NOTDIR else by_names (nat_lt 0 (length (names_of e)))) is)
    | inr other ↦ ap (λ b. if b then by_names (nat_lt 0 a.size) else Some NOTDIR) (kind ∙ other)
        ∙ sym (ap (λ b. if not b then Some NOTDIR else by_names (nat_lt 0 (length (names_of e)))) other)
  ]

empty_is : (rows : List NameRow) → nat_lt 0 (length rows) ≡ false → rows ≡ []
empty_is [] none = refl
empty_is (r ∷ rows) none = absurd (let few = ltb-false 0 (length (r ∷ rows)) none in omega (arith, few))

is_true : (b : Bool) → not b ≡ false → b ≡ true
is_true true is = refl
is_true false is = absurd (let bad : true ≡ false = is in cc)

module _ (s : Option Tree) (table : ConfTable) (dir name : List ℕ) (r : Result Found Stat)
    (found : (A : List Entry) → StandValid s table A →
    Finds (old_name_tests A dir name) (IsOld A table.rows.items dir name) r) (f : Found)
    (is : r ≡ Ok f) (s' : Option Tree) (same : s' ≡ s) (a : NodeAttr)
    (told : (t : Tree) → s' ≡ Some t → IsSomeAnd (node_at t f.at.handle) (IsAttr t f.at.handle a))
    (A : List Entry) (k : StandValid s table A) where
  old : IsOld A table.rows.items dir name f
  old = is_old s table dir name r found f is A k

  tests_are : no_removal a ≡ first_of (removal_tests (entry_at A f.at.index))
  tests_are = removal_is s' table A (still_valid s s' table A same k) f.at.index f.at.handle a old.led.live told

  all_tests : first_of (remove_dir_tests A dir name) ≡ no_removal a
  all_tests = old_rest s table dir name r found f is A k (λ i. removal_tests (entry_at A i)) ∙ sym tests_are

  -- what is no directory or has names is refused
  pub removal_refused : (stat : Stat) → no_removal a ≡ Some stat →
      Finds (remove_dir_tests A dir name) (IsDirName A table.rows.items dir name) (Err stat)
  removal_refused stat is_no = finds_err (all_tests ∙ is_no)

  -- and what is a directory without names is found
  pub removal_found : no_removal a ≡ None →
      Finds (remove_dir_tests A dir name) (IsDirName A table.rows.items dir name) (Ok f)
  removal_found none =
      let e : Entry = entry_at A f.at.index in
      let tests = none_holds (removal_tests e) (sym tests_are ∙ none) in
      finds_ok (all_tests ∙ none) (record {
        old = old;
        is_dir = is_true (is_dir e) tests.0;
        empty = empty_is (names_of e) tests.1.0;
      })
