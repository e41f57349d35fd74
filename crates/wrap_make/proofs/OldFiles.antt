-- CREATE of a file that is there: what it changes, tells and answers.
use Rattle.std.proofs.Common.{◌≡◌, ℕ, Bool, true, false, List, [], ◌∷◌, ◌++◌, map, Option, Some, None, Result, Ok, refl, sym, ap, ◌∙◌, subst}
use Rattle.std.specs.Prelude.{is_some, unwrap_or, replicate, length, if◌then◌else◌}
use Rattle.nfs2_types.specs.declared.Limits.{Limits}
use Rattle.nfs2_types.specs.declared.Cred.{Cred}
use Rattle.nfs2_types.specs.declared.Time.{Time}
use Rattle.nfs2_types.specs.declared.Sattr.{Sattr}
use Rattle.nfs2_types.specs.declared.Stat.{Stat}
use Rattle.nfs2_types.specs.declared.NfsResult.{NfsResult}
use Rattle.nfs2_types.specs.Call.{create, call_fits}
use Rattle.nfs2_types.specs.Times.{is_time}
use Rattle.server_trait.specs.Tree.{Tree, Server}
use Rattle.server_trait.specs.declared.server.ServerLimits.{ServerLimits}
use Rattle.server_trait.specs.declared.bench.ConfEntry.{ConfEntry}
use Rattle.server_trait.specs.declared.bench.ConfTable.{ConfTable}
use Rattle.abs_model.specs.declared.entry.Change.{Change}
use Rattle.abs_model.specs.declared.entry.Entry.{Entry}
use Rattle.abs_model.specs.declared.entry.Object.TheVariants.{File}
use Rattle.abs_model.specs.Objects.{new_attr}
use Rattle.abs_model.specs.Array.{at, changed, free, target}
use Rattle.abs_model.specs.Machine.{adds, changes, found_or_made, node_at, array_after, answer, first_of, refusals}
use Rattle.abs_model.specs.Valid.{Valid}
use Rattle.conf_map.specs.Notice.{NoticedAll}
use Rattle.conf_map.specs.Stands.{StandsValid, StandValid, AreWithin, HasRoom, Stands}
use Rattle.conf_map.specs.declared.table.Located.{Located}
use Rattle.conf_map.proofs.Performed.{Does, changes_perform, stands_after}
use Rattle.conf_map.proofs.Shows.{stand_valid}
use Rattle.conf_map.specs.Found.{Finds}
use Rattle.conf_map.specs.Performs.{Performs}
use Rattle.conf_map.specs.Tallied.{Tallied}
use Rattle.wrap_make.specs.declared.spot.Spot.{Spot}
use Rattle.wrap_make.specs.declared.spot.Spot.TheVariants.{Taken}
use Rattle.wrap_make.specs.Files.{IsSpot, IsOldFile, CanGive, resizes, told_sized}

module _ {A : List Entry} {limits : Limits} {rows : List ConfEntry} {dir name : List ℕ} {sattr : Sattr}
    {r : Result Spot Stat} {spot : Spot} {o : Located} {before : ℕ} (is : r ≡ Ok spot) (taken : spot ≡ Taken o before)
    (finds : Finds (refusals A limits (create dir name sattr)) (IsSpot A limits rows dir name sattr) r) where
  -- the file that was found, and no refusal
  pub old_found : IsOldFile A limits rows dir name sattr o before
  old_found = subst (IsSpot A limits rows dir name sattr) taken (finds.found spot is).1

  pub old_none : first_of (refusals A limits (create dir name sattr)) ≡ None
  old_none = (finds.found spot is).0

module _ (cred : Cred) (t : Time) {A : List Entry} {limits : Limits} {rows : List ConfEntry} {dir name : List ℕ}
    {sattr : Sattr} {o : Located} {before : ℕ} (none : first_of (refusals A limits (create dir name sattr)) ≡ None)
    (c : IsOldFile A limits rows dir name sattr o before) where
  changes_are : changes A cred t (create dir name sattr) ≡ resizes A o.index sattr.size t
  changes_are =
      ap (λ b. if b then resizes A (target A (at A dir) name) sattr.size t else adds A (at A dir) name t
      (File (new_attr 420 cred t sattr) (replicate (unwrap_or sattr.size 0) 0))) c.has
      ∙ ap (λ i. resizes A i sattr.size t) c.target

  -- the file alone is told and put, where a size is given
  does : Does A limits cred t (create dir name sattr) (resizes A o.index sattr.size t) (told_sized o.index sattr.size)
  does = record { none = none; puts_are = changes_are; tells_are = by_size (is_some sattr.size) }
    where
      by_size : (b : Bool) →
          map (λ (c : Change). c.index) (if b then resizes A o.index (Some (unwrap_or sattr.size 0)) t else [])
          ≡ (if b then o.index ∷ [] else [])
      by_size true = refl
      by_size false = refl

  found_at : found_or_made A (at A dir) name ≡ o.index
  found_at = ap (λ b. if b then target A (at A dir) name else unwrap_or (free A) (length A)) c.has ∙ c.target

module _ (cred : Cred) (t : Time) {A : List Entry} {limits : Limits} {table : ConfTable} {dir name : List ℕ}
    {sattr : Sattr} {o : Located} {before : ℕ} (none : first_of (refusals A limits (create dir name sattr)) ≡ None)
    (c : IsOldFile A limits table.rows.items dir name sattr o before) where
  module _ {s0 : Option Tree} (k : StandsValid limits s0 table A) (within : AreWithin limits)
      (s : Server) (same_tree : s.tree ≡ s0) {most : ServerLimits} (same_limits : s.limits ≡ most)
      (room : HasRoom limits most) where
    -- the file can be given its size
    pub old_can : CanGive s table A before sattr.size o
    old_can = record {
      limits = limits;
      within = within;
      valid = k.valid;
      stands = subst (λ s. Stands s table A) (sym same_tree) k.stands;
      tallied = k.tallied;
      room = subst (HasRoom limits) (sym same_limits) room;
      live = c.live;
      present = c.present;
    }

    module _ {s' : Option Tree} {table' : ConfTable}
        (stands : (A : List Entry) → CanGive s table A before sattr.size o →
        Stands s' table' (changed (resizes A o.index sattr.size t) A))
        (tallied : (A : List Entry) → CanGive s table A before sattr.size o →
        Tallied table' (changed (resizes A o.index sattr.size t) A)) where
      module _ (moment : is_time t ≡ true) (fits : call_fits (create dir name sattr) ≡ true) where
        after : StandsValid limits s' table' (array_after A limits cred t (create dir name sattr))
        after = stands_after (does cred t none c) moment fits k.valid (stands A old_can) (tallied A old_can)

        -- tree and table stand for a valid array again
        pub old_again : (B : List Entry) × StandValid s' table' B
        old_again = (array_after A limits cred t (create dir name sattr), stand_valid limits s' table' _ within after)

        -- the call answers with the file
        pub old_answer : (node : NfsResult) → ((B : List Entry) → StandValid s' table' B → node ≡ node_at B o.index) →
            node ≡ answer A (array_after A limits cred t (create dir name sattr)) limits (create dir name sattr)
        old_answer node shown =
            shown (array_after A limits cred t (create dir name sattr)) (stand_valid limits s' table' _ within after)
            ∙ ap (node_at (array_after A limits cred t (create dir name sattr))) (sym (found_at cred t none c))

      -- the call is performed
      pub old_performs : {M : Type 0} {told_of : M → List ℕ} {noticed : M → List Entry → ℕ → M → Type 0}
          {r : NfsResult} {s'' : Option Tree} {old new : M} →
          r ≡ answer A (array_after A limits cred t (create dir name sattr)) limits (create dir name sattr) → s'' ≡ s' →
          told_of new ≡ told_of old ++ told_sized o.index sattr.size →
          NoticedAll noticed A old (told_sized o.index sattr.size) new →
          Performs told_of noticed limits cred t (create dir name sattr) A r s'' table' old new
      old_performs {s'' = s''} is same told notices =
          changes_perform (does cred t none c) is
          (subst (λ s. Stands s table' (changed (resizes A o.index sattr.size t) A)) (sym same) (stands A old_can))
          (tallied A old_can) told notices
