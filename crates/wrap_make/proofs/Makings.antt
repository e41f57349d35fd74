-- A call that makes a new object, from its place to its answer.
use Rattle.std.proofs.Common.{◌≡◌, ℕ, List, [], ◌∷◌, ◌++◌, ◌≤◌, true, false, length, map, Option, None, Result, Ok, refl, sym, ap, ◌∙◌, subst}
use Rattle.std.specs.Prelude.{◌&&◌, nat_le, unwrap_or, if◌then◌else◌}
use Rattle.nfs2_types.specs.declared.Limits.{Limits}
use Rattle.nfs2_types.specs.declared.Cred.{Cred}
use Rattle.nfs2_types.specs.declared.Time.{Time}
use Rattle.nfs2_types.specs.declared.Sattr.{Sattr}
use Rattle.nfs2_types.specs.declared.Stat.{Stat}
use Rattle.nfs2_types.specs.declared.NfsResult.{NfsResult}
use Rattle.nfs2_types.specs.declared.NfsResult.TheVariants as results
use Rattle.nfs2_types.specs.Call.{Call, create, symlink, make_dir, call_fits, sattr_fits}
use Rattle.nfs2_types.specs.Times.{is_time}
use Rattle.server_trait.specs.Tree.{Tree, Server}
use Rattle.server_trait.specs.declared.server.ServerLimits.{ServerLimits}
use Rattle.server_trait.specs.declared.bench.ConfEntry.{ConfEntry}
use Rattle.server_trait.specs.declared.bench.ConfTable.{ConfTable}
use Rattle.abs_model.specs.declared.entry.Attr.{Attr}
use Rattle.abs_model.specs.declared.entry.Object.{Object}
use Rattle.abs_model.specs.declared.entry.Entry.{Entry}
use Rattle.abs_model.specs.declared.entry.Change.{Change}
use Rattle.abs_model.specs.Objects.{new_attr}
use Rattle.abs_model.specs.Array.{at, changed, free, has_name, target}
use Rattle.abs_model.specs.Machine.{first_of, refusals, changes, adds, found_or_made, answer, node_at, array_after, new_name_tests}
use Rattle.abs_model.specs.Valid.{Valid}
use Rattle.abs_model.proofs.Named.{at-live}
use Rattle.conf_map.proofs.ArrayFacts.{le_of}
use Rattle.conf_map.proofs.RowFacts.{and_left, and_right}
use Rattle.conf_map.proofs.Performed.{Does, changes_perform, stands_after}
use Rattle.conf_map.proofs.Shows.{stand_valid}
use Rattle.conf_map.specs.Found.{Finds}
use Rattle.conf_map.specs.Performs.{Performs}
use Rattle.conf_map.specs.Notice.{NoticedAll}
use Rattle.conf_map.specs.Stands.{StandsValid, StandValid, AreWithin, HasRoom, Stands}
use Rattle.conf_map.specs.Tables.{IsLive}
use Rattle.conf_map.specs.declared.table.Located.{Located}
use Rattle.node_changes.specs.declared.add.Place.{Place}
use Rattle.wrap_make.specs.Places.{IsPlace, CanMake, IsAddedNext, added_next, with_next}
use Rattle.wrap_make.specs.declared.spot.Spot.{Spot}
use Rattle.wrap_make.specs.declared.spot.Spot.TheVariants.{Free}
use Rattle.wrap_make.specs.Files.{IsSpot, IsNewFile, resizes}
use Rattle.node_changes.specs.Objects.{New, new_dir, new_file, new_link, byte_count, object_of, IsSmall}
use Rattle.wrap_make.specs.Defaults.{default_mode}
use Rattle.wrap_make.proofs.NextGenerations.{free_at}

-- CALLS THAT MAKE

-- the attributes of a new object, and the object
abbrev attr_for : New → Cred → Time → Sattr → Attr
attr_for new cred t sattr = new_attr (default_mode new) cred t sattr

abbrev object_for : New → Cred → Time → Sattr → Object
object_for new cred t sattr = object_of new (attr_for new cred t sattr)

-- a link's text
text_small : (dir name text : List ℕ) (sattr : Sattr) → call_fits (symlink dir name text sattr) ≡ true →
    length text ≤ 1024
text_small dir name text sattr fits =
    let named = and_left (nat_le (length name) 255 && nat_le (length text) 1024) (sattr_fits sattr) fits in
    le_of (length text) 1024 (and_right (nat_le (length name) 255) (nat_le (length text) 1024) named)

-- the call is not refused, and a new object takes its place
pub record MakesNew (A : List Entry) (limits : Limits) (cred : Cred) (t : Time) (call : Call) (rows : List ConfEntry)
    (dir name : List ℕ) (sattr : Sattr) (new : New) (p : Place) : Type 0 where
  pub place : IsPlace A limits rows dir name (byte_count new) p
  pub small : IsSmall new
  pub none : first_of (refusals A limits call) ≡ None
  pub changes_are : changes A cred t call ≡ added_next A p.dir.index p.index name t (object_for new cred t sattr)

module _ (A : List Entry) (limits : Limits) (rows : List ConfEntry) (dir name : List ℕ) (bytes : ℕ) (p : Place)
    (c : IsPlace A limits rows dir name bytes p) where
  at_dir : at A dir ≡ p.dir.index
  at_dir = at-live A dir p.dir.index c.in_dir.is_index

  at_new : unwrap_or (free A) (length A) ≡ p.index
  at_new = ap (λ o. unwrap_or o (length A)) c.index.is_free

  -- what comes to an array
  pub adds_are : (t : Time) (new : Object) → adds A (at A dir) name t new ≡ added_next A p.dir.index p.index name t new
  adds_are t new = ap (λ d. added_next A d (unwrap_or (free A) (length A)) name t new) at_dir
      ∙ ap (λ i. added_next A p.dir.index i name t new) at_new

  -- the name leads to the new object
  pub made_at : found_or_made A (at A dir) name ≡ p.index
  made_at = ap (λ d. found_or_made A d name) at_dir
      ∙ ap (λ b. if b then target A p.dir.index name else unwrap_or (free A) (length A)) c.lacks ∙ at_new

module _ (A : List Entry) (limits : Limits) (cred : Cred) (t : Time) (rows : List ConfEntry) (dir name : List ℕ)
    (sattr : Sattr) {r : Result Place Stat} {p : Place} (is : r ≡ Ok p) where
  -- MKDIR
  pub dir_makes : Finds (new_name_tests A limits dir name 0) (IsPlace A limits rows dir name 0) r →
      MakesNew A limits cred t (make_dir dir name sattr) rows dir name sattr new_dir p
  dir_makes finds =
      let f = finds.found p is in
      let c = f.1 in
      record {
        place = c;
        small = tt;
        none = f.0;
        changes_are = adds_are A limits rows dir name 0 p c t (object_for new_dir cred t sattr);
      }

  -- SYMLINK
  pub link_makes : (text : List ℕ) → call_fits (symlink dir name text sattr) ≡ true →
      Finds (new_name_tests A limits dir name (length text)) (IsPlace A limits rows dir name (length text)) r →
      MakesNew A limits cred t (symlink dir name text sattr) rows dir name sattr (new_link text) p
  link_makes text fits finds =
      let f = finds.found p is in
      let c = f.1 in
      record {
        place = c;
        small = text_small dir name text sattr fits;
        none = f.0;
        changes_are = adds_are A limits rows dir name (length text) p c t (object_for (new_link text) cred t sattr);
      }

-- CREATE
pub file_makes : (A : List Entry) (limits : Limits) (cred : Cred) (t : Time) (rows : List ConfEntry)
    (dir name : List ℕ) (sattr : Sattr) {r : Result Spot Stat} {spot : Spot} {p : Place} → r ≡ Ok spot → spot ≡ Free p →
    {size : ℕ} → size ≡ unwrap_or sattr.size 0 →
    Finds (refusals A limits (create dir name sattr)) (IsSpot A limits rows dir name sattr) r →
    MakesNew A limits cred t (create dir name sattr) rows dir name sattr (new_file size) p
file_makes A limits cred t rows dir name sattr {spot = spot} {p = p} is free is_size finds =
    let f = finds.found spot is in
    let c : IsNewFile A limits rows dir name sattr p = subst (IsSpot A limits rows dir name sattr) free f.1 in
    let new : Object = object_for (new_file (unwrap_or sattr.size 0)) cred t sattr in
    let k = c.place in
    let lacks : has_name A (at A dir) name ≡ false =
    ap (λ d. has_name A d name) (at-live A dir p.dir.index k.in_dir.is_index) ∙ k.lacks in
    let d : ℕ = at A dir in
    subst (λ size. MakesNew A limits cred t (create dir name sattr) rows dir name sattr (new_file size) p) (sym is_size)
    (record {
      place = k;
      small = c.small;
      none = f.0;
      changes_are = ap (λ b. if b then resizes A (target A d name) sattr.size t else adds A d name t new) lacks
          ∙ adds_are A limits rows dir name (unwrap_or sattr.size 0) p k t new;
    })

-- WHAT THEY ASK, AND WHAT THEY DO

-- the directory and the new object are told, and put
does : {A : List Entry} {limits : Limits} {cred : Cred} {t : Time} {call : Call} {rows : List ConfEntry}
    {dir name : List ℕ} {sattr : Sattr} {new : New} {p : Place} →
    MakesNew A limits cred t call rows dir name sattr new p →
    Does A limits cred t call (added_next A p.dir.index p.index name t (object_for new cred t sattr))
    (p.dir.index ∷ p.index ∷ [])
does m = record { none = m.none; puts_are = m.changes_are; tells_are = refl }

module _ {A : List Entry} {limits : Limits} {cred : Cred} {t : Time} {call : Call} {table : ConfTable}
    {dir name : List ℕ} {sattr : Sattr} {new : New} {p : Place}
    (m : MakesNew A limits cred t call table.rows.items dir name sattr new p) where
  module _ {s0 : Option Tree} (k : StandsValid limits s0 table A) (within : AreWithin limits) (s : Server)
      (same_tree : s.tree ≡ s0) {most : ServerLimits} (same_limits : s.limits ≡ most) (room : HasRoom limits most) where
    -- a new object can have its place
    pub can_make : CanMake s table A name new p
    can_make =
        let at = free_at A p.index m.place.index.is_free in
        record {
          can = record {
            limits = limits;
            within = within;
            valid = k.valid;
            stands = subst (λ s. Stands s table A) (sym same_tree) k.stands;
            tallied = k.tallied;
            room = subst (HasRoom limits) (sym same_limits) room;
            live = m.place.in_dir.live;
            is_dir = m.place.in_dir.is_dir;
            good = m.place.good;
            lacks = m.place.lacks;
            small = m.small;
            below = at.below;
            is_null = at.is_null;
            space = m.place.index.space;
          };
          is_free = m.place.index.is_free;
        }

    module _ {s' : Option Tree} {table' : ConfTable} {d : Located} {attr : Attr}
        (same : attr ≡ attr_for new cred t sattr)
        (add : (A : List Entry) → CanMake s table A name new p →
        IsAddedNext A p name attr.ctime (object_of new attr) s' table' d) where
      is_added : IsAddedNext A p name t (object_for new cred t sattr) s' table' d
      is_added = subst (λ (a : Attr). IsAddedNext A p name a.ctime (object_of new a) s' table' d) same (add A can_make)

      -- the new object is live
      pub making_live : IsLive table'.rows.items d
      making_live = is_added.live

      module _ (moment : is_time t ≡ true) (fits : call_fits call ≡ true) where
        after : StandsValid limits s' table' (array_after A limits cred t call)
        after = stands_after (does m) moment fits k.valid is_added.stands is_added.tallied

        -- tree and table stand for a valid array again
        pub making_again : (B : List Entry) × StandValid s' table' B
        making_again = (array_after A limits cred t call, stand_valid limits s' table' _ within after)

        -- the node that is answered
        pub making_answer :
            ((B : List Entry) → answer A B limits call ≡ node_at B (found_or_made A (at A dir) name)) →
            (node : NfsResult) → ((B : List Entry) → StandValid s' table' B → node ≡ node_at B d.index) →
            node ≡ answer A (array_after A limits cred t call) limits call
        making_answer answers node shown =
            shown (array_after A limits cred t call) (stand_valid limits s' table' _ within after)
            ∙ ap (node_at (array_after A limits cred t call))
            (is_added.index ∙ sym (made_at A limits table.rows.items dir name (byte_count new) p m.place))
            ∙ sym (answers (array_after A limits cred t call))

      -- the call is performed
      pub making_performs : {M : Type 0} {told_of : M → List ℕ} {noticed : M → List Entry → ℕ → M → Type 0}
          {r : NfsResult} {s'' : Option Tree} {old new : M} →
          r ≡ answer A (array_after A limits cred t call) limits call → s'' ≡ s' →
          told_of new ≡ told_of old ++ (p.dir.index ∷ p.index ∷ []) →
          NoticedAll noticed A old (p.dir.index ∷ p.index ∷ []) new →
          Performs told_of noticed limits cred t call A r s'' table' old new
      making_performs {s'' = s''} is same told notices =
          changes_perform (does m) is
          (subst (λ s. Stands s table' (with_next A p name t (object_for new cred t sattr)))
          (sym same) is_added.stands)
          is_added.tallied told notices
