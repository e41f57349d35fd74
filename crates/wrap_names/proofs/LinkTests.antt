-- The tests of LINK: of its two handles, of the name, and of space.
use Rattle.std.proofs.Common.{◌≡◌, ℕ, ◌+◌, ◌-◌, arith, Bool, true, false, List, [], ◌∷◌, ◌++◌, Option, Some, None, Result, Ok, Err, refl, sym, ap, ◌∙◌, subst}
use Rattle.std.specs.Prelude.{not, is_none, is_some, if◌then◌else◌}
use Rattle.std.specs.Option.{option_map}
use Rattle.std.proofs.lemmas.Bool.{ltb-false}
use Rattle.nfs2_types.specs.declared.Limits.{Limits}
use Rattle.nfs2_types.specs.declared.Stat.{Stat}
use Rattle.nfs2_types.specs.declared.stat.TheConstants.{PERM, ACCES, EXIST, NOTDIR, NOSPC, STALE}
use Rattle.nfs2_types.specs.Call.{link}
use Rattle.nfs2_types.specs.Names.{is_bad, is_dot}
use Rattle.server_trait.specs.Tree.{Tree}
use Rattle.server_trait.specs.declared.bench.ConfTable.{ConfTable}
use Rattle.abs_model.specs.declared.entry.Entry.{Entry}
use Rattle.abs_model.specs.Objects.{is_dir}
use Rattle.abs_model.specs.Array.{entry_at, live, at, has_name, used}
use Rattle.abs_model.specs.Machine.{Refusal, ◌answers◌, first_of, is_stale, no_room, refusals}
use Rattle.abs_model.proofs.Named.{at-live}
use Rattle.conf_map.specs.Stands.{StandsValid, StandValid, AreWithin}
use Rattle.conf_map.specs.Found.{Finds, name_tests, NameFound, IsNamed}
use Rattle.conf_map.specs.Tables.{located}
use Rattle.conf_map.specs.declared.table.Located.{Located}
use Rattle.conf_map.specs.declared.name.Named.{Named}
use Rattle.conf_map.proofs.Finding.{first_then, first_stops, finds_ok, finds_err}
use Rattle.conf_map.proofs.Seen.{live_agrees, located_live}
use Rattle.conf_map.proofs.Shows.{stand_valid}
use Rattle.node_changes.proofs.NamedCalls.{named_refused, named_then}
use Rattle.wrap_names.specs.declared.find.Found.{Found}
use Rattle.wrap_names.specs.Adds.{object_tests, IsAlone, new_tests, IsNew, IsLink}
use Rattle.wrap_names.proofs.OldTests.{still_valid}

-- THE TWO HANDLES

abbrev two_handles : Bool → Bool → Bool → Option Stat
two_handles a b dir = if a then Some STALE else (if b then Some STALE else (if dir then Some PERM else None))

module _ (s : Option Tree) (table : ConfTable) (A : List Entry) (k : StandValid s table A) where
  stale_is : (h : List ℕ) (l : Option Located) → l ≡ located table.rows.items h →
      is_stale A h ≡ is_none (option_map (λ (l : Located). l.index) l)
  stale_is h l is = ap is_none (live_agrees s table A k.stands h ∙ ap (option_map (λ (l : Located). l.index)) (sym is))

  -- the object's handle is stale
  pub object_stale : (node dir : List ℕ) → None ≡ located table.rows.items node →
      Finds (object_tests A node dir) (IsAlone A table.rows.items node dir) (Err STALE)
  object_stale node dir is = finds_err
      (ap (λ b. two_handles b (is_stale A dir) (is_dir (entry_at A (at A node)))) (stale_is node None is))

  module _ (node dir : List ℕ) (o : Located) (is : Some o ≡ located table.rows.items node) where
    abbrev Search : Result Located Stat → Type 0
    Search = Finds (object_tests A node dir) (IsAlone A table.rows.items node dir)

    object_index : live A node ≡ Some o.index
    object_index = live_agrees s table A k.stands node ∙ ap (option_map (λ (l : Located). l.index)) (sym is)

    by_tests : (b d : Bool) → is_stale A dir ≡ b → is_dir (entry_at A o.index) ≡ d →
        first_of (object_tests A node dir) ≡ two_handles false b d
    by_tests b d is_b is_d =
        ap (λ b. two_handles b (is_stale A dir) (is_dir (entry_at A (at A node)))) (stale_is node (Some o) is)
        ∙ ap (λ b. two_handles false b (is_dir (entry_at A (at A node)))) is_b
        ∙ ap (λ i. two_handles false b (is_dir (entry_at A i))) (at-live A node o.index object_index)
        ∙ ap (two_handles false b) is_d

    -- the directory's handle is stale
    pub dir_stale : (l : Option Located) → l ≡ located table.rows.items dir → is_some l ≡ false →
        Search (Err STALE)
    dir_stale None at none = finds_err (by_tests true (is_dir (entry_at A o.index)) (stale_is dir None at) refl)
    dir_stale (Some l) at none = absurd (let bad : true ≡ false = none in cc)

    module _ (l : Option Located) (at : l ≡ located table.rows.items dir) (some : is_some l ≡ true) where
      fresh : (l : Option Located) → l ≡ located table.rows.items dir → is_some l ≡ true → is_stale A dir ≡ false
      fresh None at some = absurd (let bad : false ≡ true = some in cc)
      fresh (Some l) at some = stale_is dir (Some l) at

      -- a directory is refused
      pub object_refused : is_dir (entry_at A o.index) ≡ true → Search (Err PERM)
      object_refused is_d = finds_err (by_tests false true (fresh l at some) is_d)

      -- and what is none is found
      pub object_found : is_dir (entry_at A o.index) ≡ false → Search (Ok o)
      object_found no_d = finds_ok (by_tests false false (fresh l at some) no_d) (record {
        is_index = object_index;
        live = located_live table.rows.items node o (sym is);
        no_dir = no_d;
        dir_live = fresh l at some;
      })

-- THE NAME

abbrev if_there : Bool → Option Stat
if_there b = if b then Some EXIST else None

abbrev old_name : List Entry → List ℕ → List ℕ → List Refusal
old_name A dir name = (has_name A (at A dir) name answers EXIST) ∷ []

module _ (s : Option Tree) (table : ConfTable) (dir name : List ℕ) (r : Result Named Stat)
    (found : (A : List Entry) → StandValid s table A →
    Finds (name_tests A dir name PERM) (IsNamed A table.rows.items dir name) r) where
  abbrev NewSearch : List Entry → Result Located Stat → Type 0
  NewSearch A = Finds (new_tests A dir name) (IsNew A table.rows.items dir name)

  -- a refusal of the name
  pub new_refused : (A : List Entry) → StandValid s table A → (stat : Stat) → r ≡ Err stat → NewSearch A (Err stat)
  new_refused A k stat is = finds_err (named_refused A dir name PERM (old_name A dir name) (found A k) is)

  module _ (n : Named) (is : r ≡ Ok n) (A : List Entry) (k : StandValid s table A) where
    named : IsNamed A table.rows.items dir name n
    named = ((found A k).found n is).1

    by_name : (b : Bool) → has_name A n.dir.index name ≡ b → first_of (new_tests A dir name) ≡ if_there b
    by_name b is_b = named_then A dir name PERM (old_name A dir name) (found A k) is
        ∙ ap (λ d. if_there (has_name A d name)) (at-live A dir n.dir.index named.in_dir.is_index) ∙ ap if_there is_b

    -- a name that is there
    pub name_taken : (o : Located) → n.at ≡ Some o → NewSearch A (Err EXIST)
    name_taken o some =
        finds_err (by_name true (subst (NameFound A table.rows.items n.dir.index name) some named.found).has)

    -- and one that is not
    pub name_new : n.at ≡ None → NewSearch A (Ok n.dir)
    name_new none =
        let lacks = subst (NameFound A table.rows.items n.dir.index name) none named.found in
        finds_ok (by_name false lacks)
        (record { in_dir = named.in_dir; no_dot = named.no_dot; good = named.good; lacks = lacks })

-- ALL OF THEM

module _ (A : List Entry) (limits : Limits) (node dir name : List ℕ) where
  abbrev space : List Refusal
  space = (no_room A limits 0 512 answers NOSPC) ∷ []

  abbrev in_directory : List Refusal
  in_directory =
      (not (is_dir (entry_at A (at A dir))) answers NOTDIR) ∷
      (is_bad name answers ACCES) ∷ (is_dot name answers PERM) ∷
      (has_name A (at A dir) name answers EXIST) ∷ space

  -- where the handles are not refused those of the name decide, and then space
  after_handles : first_of (object_tests A node dir) ≡ None → is_stale A dir ≡ false →
      first_of (refusals A limits (link node dir name)) ≡ first_of (new_tests A dir name ++ space)
  after_handles none fresh = first_then (object_tests A node dir) in_directory none
      ∙ sym (ap (λ b. if b then Some STALE else first_of in_directory) fresh)

module _ (limits : Limits) (within : AreWithin limits) (s : Option Tree) (table : ConfTable)
    (node dir name : List ℕ) (r : Result Located Stat)
    (alone : (A : List Entry) → StandValid s table A →
    Finds (object_tests A node dir) (IsAlone A table.rows.items node dir) r) where
  abbrev LinkSearch : List Entry → Result Found Stat → Type 0
  LinkSearch A = Finds (refusals A limits (link node dir name)) (IsLink A limits table.rows.items node dir name)

  -- a refusal of the handles
  pub link_refused : (A : List Entry) → StandsValid limits s table A → (stat : Stat) → r ≡ Err stat →
      LinkSearch A (Err stat)
  link_refused A k stat is = finds_err (first_stops (object_tests A node dir) (in_directory A limits node dir name)
      ((alone A (stand_valid limits s table A within k)).refused stat is))

  module _ (o : Located) (is : r ≡ Ok o) (s1 : Option Tree) (same1 : s1 ≡ s) (q : Result Located Stat)
      (new : (A : List Entry) → StandValid s1 table A →
      Finds (new_tests A dir name) (IsNew A table.rows.items dir name) q)
      (A : List Entry) (k : StandsValid limits s table A) where
    object : IsAlone A table.rows.items node dir o
    object = ((alone A (stand_valid limits s table A within k)).found o is).1

    new_here : Finds (new_tests A dir name) (IsNew A table.rows.items dir name) q
    new_here = new A (still_valid s s1 table A same1 (stand_valid limits s table A within k))

    all : first_of (refusals A limits (link node dir name)) ≡ first_of
        (new_tests A dir name ++ space A limits node dir name)
    all = after_handles A limits node dir name ((alone A (stand_valid limits s table A within k)).found o is).0
        object.dir_live

    -- a refusal of the name
    pub link_name_refused : (stat : Stat) → q ≡ Err stat → LinkSearch A (Err stat)
    link_name_refused stat is_no =
        finds_err (all ∙ first_stops (new_tests A dir name) (space A limits node dir name)
        (new_here.refused stat is_no))

    module _ (d : Located) (is_d : q ≡ Ok d) where
      by_space : (full : Bool) → no_room A limits 0 512 ≡ full →
          first_of (refusals A limits (link node dir name)) ≡ (if full then Some NOSPC else None)
      by_space full is_full = all
          ∙ first_then (new_tests A dir name) (space A limits node dir name) (new_here.found d is_d).0
          ∙ ap (λ b. if b then Some NOSPC else None) is_full

      -- no space
      pub link_full : no_room A limits 0 512 ≡ true → LinkSearch A (Err NOSPC)
      link_full full = finds_err (by_space true full)

      -- and the two, where nothing is refused
      pub link_found : no_room A limits 0 512 ≡ false → LinkSearch A (Ok (record { dir = d; at = o }))
      link_found room = finds_ok (by_space false room) (record {
        object = object;
        new = (new_here.found d is_d).1;
        space = let least = ltb-false limits.t (used A + 512 - 0) room in omega (arith, least);
      })
