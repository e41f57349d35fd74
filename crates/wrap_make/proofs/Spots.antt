-- The refusals of CREATE, and the file that is there or the place of a new one where none holds.
use Rattle.std.proofs.Common.{◌≡◌, ℕ, ◌≤◌, Bool, true, false, List, [], ◌∷◌, length, Option, Some, None, Result, Ok, Err, refl, sym, ap, ◌∙◌, subst}
use Rattle.std.specs.Prelude.{not, ◌&&◌, nat_lt, is_some, unwrap_or, if◌then◌else◌}
use Rattle.std.proofs.lemmas.Bool.{ltb-false}
use Rattle.nfs2_types.specs.declared.Limits.{Limits}
use Rattle.nfs2_types.specs.declared.Sattr.{Sattr}
use Rattle.nfs2_types.specs.declared.Stat.{Stat}
use Rattle.nfs2_types.specs.declared.stat.TheConstants.{EXIST, FBIG, NOSPC}
use Rattle.nfs2_types.specs.Call.{create}
use Rattle.server_trait.specs.Tree.{Tree}
use Rattle.server_trait.specs.declared.bench.ConfTable.{ConfTable}
use Rattle.server_trait.proofs.TreeLaws.{some_none}
use Rattle.abs_model.specs.declared.entry.Entry.{Entry}
use Rattle.server_trait.specs.declared.server.NodeAttr.{NodeAttr}
use Rattle.abs_model.specs.declared.entry.Object.{Object}
use Rattle.abs_model.specs.declared.entry.Object.TheVariants.{Null, File, Dir, Link}
use Rattle.abs_model.specs.Objects.{is_file, is_dir, bytes_of}
use Rattle.abs_model.specs.Array.{entry_at, at, has_name, target}
use Rattle.abs_model.specs.Machine.{Refusal, ◌answers◌, first_of, refusals, file_limit, no_new, no_room}
use Rattle.conf_map.specs.Stands.{StandsValid, StandValid, AreWithin}
use Rattle.conf_map.specs.Found.{Finds, is_file_kind, IsSeen, name_tests, NameFound, IsLed, IsNamed}
use Rattle.conf_map.specs.Tables.{IsLive}
use Rattle.conf_map.specs.declared.table.Located.{Located}
use Rattle.conf_map.specs.declared.name.Named.{Named}
use Rattle.conf_map.proofs.Shows.{stand_valid}
use Rattle.conf_map.proofs.Finding.{finds_ok, finds_err}
use Rattle.node_changes.proofs.NamedCalls.{named_refused, named_then}
use Rattle.wrap_make.specs.Places.{IsIndex}
use Rattle.wrap_make.specs.declared.spot.Spot.{Spot}
use Rattle.wrap_make.specs.declared.spot.Spot.TheVariants.{Free, Taken}
use Rattle.wrap_make.specs.Files.{present_tests, new_file_tests, IsFileIndex, IsPresent, IsOldFile, IsNewFile, IsSpot}
use Rattle.wrap_make.proofs.Refusals.{stands_still, dir_at, index_new}

-- TESTS THAT DO NOT HOLD

both : (a b : Bool) → (a && b) ≡ false → a ≡ true → b ≡ false
both true b is a_is = is
both false b is a_is = absurd (let bad : false ≡ true = a_is in cc)

-- A FILE THAT IS THERE

module _ (A : List Entry) (limits : Limits) (i : ℕ) (size : Option ℕ) where
  abbrev e : Entry
  e = entry_at A i

  abbrev given : ℕ
  given = unwrap_or size 0

  abbrev Search : Result ℕ Stat → Type 0
  Search = Finds (present_tests A limits i size) (IsPresent A limits i size)

  -- what is no file
  pub no_file : is_file e ≡ false → Search (Err EXIST)
  no_file file = finds_err (ap (λ b. if not b then Some EXIST else
      (if nat_lt file_limit given then Some FBIG else
      (if is_some size && no_room A limits (length (bytes_of e)) given then Some NOSPC else None))) file)

  module _ (file : is_file e ≡ true) where
    past_file : first_of (present_tests A limits i size) ≡ (if nat_lt file_limit given then Some FBIG else
        (if is_some size && no_room A limits (length (bytes_of e)) given then Some NOSPC else None))
    past_file = ap (λ b. if not b then Some EXIST else
        (if nat_lt file_limit given then Some FBIG else
        (if is_some size && no_room A limits (length (bytes_of e)) given then Some NOSPC else None))) file

    -- too many bytes
    pub too_big : nat_lt file_limit given ≡ true → Search (Err FBIG)
    too_big big = finds_err (past_file ∙ ap (λ b. if b then Some FBIG else
        (if is_some size && no_room A limits (length (bytes_of e)) given then Some NOSPC else None)) big)

    module _ (fits : nat_lt file_limit given ≡ false) where
      past_big : first_of (present_tests A limits i size)
          ≡ (if is_some size && no_room A limits (length (bytes_of e)) given then Some NOSPC else None)
      past_big = past_file ∙ ap (λ b. if b then Some FBIG else
          (if is_some size && no_room A limits (length (bytes_of e)) given then Some NOSPC else None)) fits

      -- no space
      pub too_full : (is_some size && no_room A limits (length (bytes_of e)) given) ≡ true → Search (Err NOSPC)
      too_full full = finds_err (past_big ∙ ap (λ b. if b then Some NOSPC else None) full)

      -- a file that can have its size
      pub is_present : (before : ℕ) → length (bytes_of e) ≡ before →
          (is_some size && no_room A limits (length (bytes_of e)) given) ≡ false → Search (Ok before)
      is_present before is space = finds_ok (past_big ∙ ap (λ b. if b then Some NOSPC else None) space) (record {
        is_size = is;
        can_have = record {
          is_file = file;
          small = ltb-false 1048576 given fits;
          space = both (is_some size) (no_room A limits (length (bytes_of e)) given) space;
        };
      })

-- the same, from what the server told
pub told_size : (e : Entry) (attr : NodeAttr) → IsSeen e attr → is_file e ≡ true → length (bytes_of e) ≡ attr.size
told_size e attr seen file = sym (seen.size (no_dir e.generation e.object file))
  where
    no_dir : (g : ℕ) (o : Object) → is_file (record { generation = g; object = o }) ≡ true →
        is_dir (record { generation = g; object = o }) ≡ false
    no_dir g Null is = refl
    no_dir g (File a b) is = refl
    no_dir g (Dir a b) is = absurd (let bad : false ≡ true = is in cc)
    no_dir g (Link a b) is = refl

-- A NEW FILE

module _ (A : List Entry) (limits : Limits) (size : ℕ) where
  pub new_big : nat_lt file_limit size ≡ true → Finds (new_file_tests A limits size) (IsFileIndex A limits size)
      (Err FBIG)
  new_big big = finds_err (ap (λ b. if b then Some FBIG else (if no_new A limits size then Some NOSPC else None)) big)

  module _ (fits : nat_lt file_limit size ≡ false) where
    past : first_of (new_file_tests A limits size) ≡ (if no_new A limits size then Some NOSPC else None)
    past = ap (λ b. if b then Some FBIG else (if no_new A limits size then Some NOSPC else None)) fits

    pub new_index_found : (i : ℕ) → IsIndex A limits size i →
        Finds (new_file_tests A limits size) (IsFileIndex A limits size) (Ok i)
    new_index_found i index = finds_ok
        (past ∙ ap (λ b. if b then Some NOSPC else None) (index_new A limits size i index))
        (index, ltb-false 1048576 size fits)

    pub new_full : no_new A limits size ≡ true →
        Finds (new_file_tests A limits size) (IsFileIndex A limits size) (Err NOSPC)
    new_full full = finds_err (past ∙ ap (λ b. if b then Some NOSPC else None) full)

-- CREATE

module _ (limits : Limits) (within : AreWithin limits) (s : Option Tree) (table : ConfTable) (dir name : List ℕ)
    (sattr : Sattr) (r : Result Named Stat)
    (found : (A : List Entry) → StandValid s table A →
    Finds (name_tests A dir name EXIST) (IsNamed A table.rows.items dir name) r) where
  abbrev SpotSearch : List Entry → Result Spot Stat → Type 0
  SpotSearch A = Finds (refusals A limits (create dir name sattr)) (IsSpot A limits table.rows.items dir name sattr)

  abbrev wanted : ℕ
  wanted = unwrap_or sattr.size 0

  -- what is tested after the name, by whether it is there and where it leads
  abbrev rest : List Entry → Bool → ℕ → List Refusal
  rest A has i =
      (has && not (is_file (entry_at A i)) answers EXIST) ∷
      (nat_lt file_limit wanted answers FBIG) ∷
      ((if has then is_some sattr.size && no_room A limits (length (bytes_of (entry_at A i))) wanted
      else no_new A limits wanted) answers NOSPC) ∷ []

  named_found : (A : List Entry) → StandsValid limits s table A →
      Finds (name_tests A dir name EXIST) (IsNamed A table.rows.items dir name) r
  named_found A k = found A (stand_valid limits s table A within k)

  -- a refusal of the name
  pub create_refused : (A : List Entry) → StandsValid limits s table A → (stat : Stat) → r ≡ Err stat →
      SpotSearch A (Err stat)
  create_refused A k stat is = finds_err (named_refused A dir name EXIST
      (rest A (has_name A (at A dir) name) (target A (at A dir) name)) (named_found A k) is)

  module _ (n : Named) (is : r ≡ Ok n) where
    is_named : (A : List Entry) → StandsValid limits s table A → IsNamed A table.rows.items dir name n
    is_named A k = ((named_found A k).found n is).1

    dir_is : (A : List Entry) → StandsValid limits s table A → at A dir ≡ n.dir.index
    dir_is A k = dir_at A table.rows.items dir name n (is_named A k)

    after_name : (A : List Entry) → StandsValid limits s table A →
        first_of (refusals A limits (create dir name sattr))
        ≡ first_of (rest A (has_name A n.dir.index name) (target A n.dir.index name))
    after_name A k = named_then A dir name EXIST (rest A (has_name A (at A dir) name) (target A (at A dir) name))
        (named_found A k) is
        ∙ ap (λ d. first_of (rest A (has_name A d name) (target A d name))) (dir_is A k)

    -- WHERE THE NAME IS THERE
    module _ (o : Located) (there : n.at ≡ Some o) where
      led : (A : List Entry) → StandsValid limits s table A → IsLed A table.rows.items n.dir.index name o
      led A k = subst (NameFound A table.rows.items n.dir.index name) there (is_named A k).found

      -- it leads to a live object
      pub old_live : ((A : List Entry) × StandsValid limits s table A) → IsLive table.rows.items o
      old_live k = (led k.0 k.1).live

      as_old : (A : List Entry) → StandsValid limits s table A →
          first_of (refusals A limits (create dir name sattr)) ≡ first_of (present_tests A limits o.index sattr.size)
      as_old A k = after_name A k
          ∙ ap (λ b. first_of (rest A b (target A n.dir.index name))) (led A k).has
          ∙ ap (λ i. first_of (rest A true i)) (led A k).target

      module _ (s' : Option Tree) (same : s' ≡ s) {size : Result ℕ Stat}
          (told : (A : List Entry) → StandsValid limits s' table A →
          Finds (present_tests A limits o.index sattr.size) (IsPresent A limits o.index sattr.size) size)
          (A : List Entry) (k : StandsValid limits s table A) where
        finds : Finds (present_tests A limits o.index sattr.size) (IsPresent A limits o.index sattr.size) size
        finds = told A (stands_still limits s s' table A same k)

        pub size_refused : (stat : Stat) → size ≡ Err stat → SpotSearch A (Err stat)
        size_refused stat is = finds_err (as_old A k ∙ finds.refused stat is)

        pub old_file : (before : ℕ) → size ≡ Ok before → SpotSearch A (Ok (Taken o before))
        old_file before is =
            let f = finds.found before is in
            finds_ok (as_old A k ∙ f.0) (record {
              has = ap (λ d. has_name A d name) (dir_is A k) ∙ (led A k).has;
              target = ap (λ d. target A d name) (dir_is A k) ∙ (led A k).target;
              live = (led A k).live;
              present = f.1;
            })

    -- WHERE IT IS NOT
    module _ (lacks : n.at ≡ None) {index : Result ℕ Stat} {size : ℕ} (is_size : size ≡ wanted)
        (found_index : (s : Option Tree) (A : List Entry) → StandsValid limits s table A →
        Finds (new_file_tests A limits size) (IsFileIndex A limits size) index)
        (A : List Entry) (k : StandsValid limits s table A) where
      is_lacking : has_name A n.dir.index name ≡ false
      is_lacking = subst (NameFound A table.rows.items n.dir.index name) lacks (is_named A k).found

      as_new : first_of (refusals A limits (create dir name sattr)) ≡ first_of (new_file_tests A limits wanted)
      as_new = after_name A k ∙ ap (λ b. first_of (rest A b (target A n.dir.index name))) is_lacking

      index_at : Finds (new_file_tests A limits wanted) (IsFileIndex A limits wanted) index
      index_at = subst (λ size. Finds (new_file_tests A limits size) (IsFileIndex A limits size) index) is_size
          (found_index s A k)

      pub file_refused : (stat : Stat) → index ≡ Err stat → SpotSearch A (Err stat)
      file_refused stat is = finds_err (as_new ∙ index_at.refused stat is)

      pub new_file_found : (i : ℕ) → index ≡ Ok i → SpotSearch A (Ok (Free (record { dir = n.dir; index = i })))
      new_file_found i is =
          let c = is_named A k in
          let x = index_at.found i is in
          finds_ok (as_new ∙ x.0) (record {
            place = record { in_dir = c.in_dir; no_dot = c.no_dot; good = c.good; lacks = is_lacking; index = x.1.0 };
            small = x.1.1;
          })
