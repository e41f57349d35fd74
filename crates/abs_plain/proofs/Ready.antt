-- a call that is not refused can do its work
use Rattle.std.proofs.Common.{◌≡◌, ℕ, ◌^◌, ◌+◌, ◌<◌, List, [], ◌∷◌, Bool, true, false, not, ◌&&◌, ◌||◌, length, refl, sym, ap, subst, arith, Option, None}
use Rattle.std.specs.Prelude.{unwrap_or, is_some, if◌then◌else◌, bytes_eq, All}
use Rattle.std.specs.List.{list_all}
use Rattle.std.proofs.lemmas.List.Elements.{All-nil, All-cons}
use Rattle.std.proofs.lemmas.Bool.{not-false, and_parts, true≢false}
use Rattle.nfs2_types.specs.declared.Limits.{Limits}
use Rattle.nfs2_types.specs.declared.Cred.{Cred}
use Rattle.nfs2_types.specs.declared.Time.{Time}
use Rattle.nfs2_types.specs.Names.{name_dot, name_dots}
use Rattle.nfs2_types.specs.Times.{is_time}
use Rattle.nfs2_types.specs.Call.{Call, call_fits, null, root, write_cache, get_attr, set_attr, lookup, read_link, read, write, create, remove, rename, link, symlink, make_dir, remove_dir, read_dir, stat_fs}
use Rattle.abs_model.specs.declared.NameRow.{NameRow}
use Rattle.abs_model.specs.declared.Entry.{Entry}
use Rattle.abs_model.specs.Array.{entry_at, at, target, has_name, changed, free, links, parent}
use Rattle.abs_model.specs.Objects.{is_dir, names_of, bytes_of}
use Rattle.abs_model.specs.Machine.{first_of, refusals, changes, no_room, no_new}
use Rattle.abs_model.specs.Valid.{Valid, leads}
use Rattle.abs_model.specs.Bounds.{HasBounds}
use Rattle.abs_model.proofs.Facts.{AllFalse, none_holds, dir_is, led_is}
use Rattle.abs_model.proofs.Passed.{Passed, passed}
use Rattle.abs_model.proofs.Shapes.{live_below}
use Rattle.abs_model.proofs.Untold.{length-changed}
use Rattle.abs_model.proofs.Bounded.{bounded, links_used}
use Rattle.abs_model.proofs.Within.{target_below}
use Rattle.abs_model.proofs.Parents.{parent_below}
use Rattle.abs_model.proofs.Law.{kept, new_is}
use Rattle.abs_model.proofs.Kept.{free_is}
use Rattle.abs_plain.specs.Ready.{CanTakeOut, CanAdd, CanRead, CanChange}
use Rattle.abs_queries.specs.Listable.{CanList}
use Rattle.abs_plain.specs.Steps.{found, place_of}

-- no test of a call holds, in a valid array whose limits are words
pub record IsAllowed (limits : Limits) (A : List Entry) (call : Call) : Type 0 where
  pub valid : Valid limits A
  pub n : limits.n < 2 ^ 32
  pub t : limits.t < 2 ^ 32
  pub f : AllFalse (refusals A limits call)
  pub p : Passed A limits call

bounds_at : (limits : Limits) (A : List Entry) (call : Call) (i : ℕ) → IsAllowed limits A call → i < length A → HasBounds A i
bounds_at limits A call i ok below = bounded limits A i ok.valid ok.n ok.t below

-- WHAT A READING CALL NEEDS

rows_small : (A : List Entry) (rows : List NameRow) → length A < 2 ^ 32 → list_all (leads A) rows ≡ true → All (λ r. r.index + 1 < 2 ^ 32) rows
rows_small A [] small h = All-nil (λ (r : NameRow). r.index + 1 < 2 ^ 32)
rows_small A (r ∷ rs) small h =
    let parts = and_parts (leads A r) (list_all (leads A) rs) h in
    let below = live_below A r.index (led_is A r parts.0).live in
    All-cons (λ (r : NameRow). r.index + 1 < 2 ^ 32) r rs (omega arith) (rows_small A rs small parts.1)

lists : (limits : Limits) (A : List Entry) (call : Call) (d : ℕ) → IsAllowed limits A call → d < length A → is_dir (entry_at A d) ≡ true → CanList A d
lists limits A call d ok below dir =
    let own = bounds_at limits A call d ok below in
    let names = own.names in
    let up = parent_below limits A d ok.valid dir in
    let small = own.index in
    record { small = omega arith; parent = omega arith; rows = rows_small A (names_of (entry_at A d)) small (ok.valid.lead d below); few = omega arith }

found_below : (limits : Limits) (A : List Entry) (d : ℕ) (name : List ℕ) → Valid limits A → d < length A → is_dir (entry_at A d) ≡ true →
    (not (bytes_eq name name_dot || bytes_eq name name_dots) && not (has_name A d name)) ≡ false → found A d name < length A
found_below limits A d name valid below dir some = go (bytes_eq name name_dot) (bytes_eq name name_dots) some
  where
    go : (b c : Bool) → (not (b || c) && not (has_name A d name)) ≡ false → (if b then d else if c then parent A d else target A d name) < length A
    go true c h = below
    go false true h = parent_below limits A d valid dir
    go false false h = target_below limits A d name valid below (not-false (has_name A d name) h)

pub can_read : (limits : Limits) (A : List Entry) (call : Call) → IsAllowed limits A call → CanRead limits A call
can_read limits A null ok = tt
can_read limits A root ok = tt
can_read limits A write_cache ok = tt
can_read limits A (get_attr node) ok = bounds_at limits A (get_attr node) (at A node) ok ok.p.below
can_read limits A (set_attr node sattr) ok = tt
can_read limits A (lookup dir name) ok =
    let live = ok.p.in_dir.live in
    bounds_at limits A (lookup dir name) (found A (at A dir) name) ok
    (found_below limits A (at A dir) name ok.valid live.below ok.p.in_dir.kind ok.p.found)
can_read limits A (read_link node) ok = tt
can_read limits A (read file offset count) ok = bounds_at limits A (read file offset count) (at A file) ok ok.p.live.below
can_read limits A (write file offset bytes) ok = tt
can_read limits A (create dir name sattr) ok = tt
can_read limits A (remove dir name) ok = tt
can_read limits A (rename from name to to_name) ok = tt
can_read limits A (link node dir name) ok = tt
can_read limits A (symlink dir name text sattr) ok = tt
can_read limits A (make_dir dir name sattr) ok = tt
can_read limits A (remove_dir dir name) ok = tt
can_read limits A (read_dir dir cookie count) ok =
    lists limits A (read_dir dir cookie count) (at A dir) ok ok.p.live.below ok.p.kind
can_read limits A (stat_fs node) ok = ok.valid.room

-- WHAT A CHANGING CALL NEEDS

small : (limits : Limits) (A : List Entry) (call : Call) → IsAllowed limits A call → length A < 2 ^ 32
small limits A call ok = let size = ok.valid.size in let words = ok.n in omega arith

few : (limits : Limits) (A : List Entry) (call : Call) (i : ℕ) → IsAllowed limits A call → links A i < 2 ^ 64
few limits A call i ok = let most = ok.valid.room in let words = ok.t in omega (arith, links_used A i)

adds_one : (limits : Limits) (A : List Entry) (call : Call) (d bytes : ℕ) → IsAllowed limits A call → d < length A → no_new A limits bytes ≡ false → CanAdd A d
adds_one limits A call d bytes ok below room = record { small = small limits A call ok; dir_within = below; room = ap is_some (new_is A limits bytes room).free_at }

takes_out : (limits : Limits) (A : List Entry) (call : Call) (dir name : List ℕ) → IsAllowed limits A call → at A dir < length A → has_name A (at A dir) name ≡ true → CanTakeOut A dir name
takes_out limits A call dir name ok below has = record {
  small = small limits A call ok;
  dir_within = below;
  within = target_below limits A (at A dir) name ok.valid below has;
  few = few limits A call (target A (at A dir) name) ok;
}

pub can_change : (limits : Limits) (A : List Entry) (call : Call) → IsAllowed limits A call → CanChange A call
can_change limits A null ok = tt
can_change limits A root ok = tt
can_change limits A write_cache ok = tt
can_change limits A (get_attr node) ok = tt
can_change limits A (set_attr node sattr) ok = record { small = small limits A (set_attr node sattr) ok; within = ok.p.live.below }
can_change limits A (lookup dir name) ok = tt
can_change limits A (read_link node) ok = tt
can_change limits A (read file offset count) ok = tt
can_change limits A (write file offset bytes) ok = record { small = small limits A (write file offset bytes) ok; within = ok.p.0.live.below }
can_change limits A (create dir name sattr) ok =
    let live = ok.p.in_dir.live in
    record {
      small = small limits A (create dir name sattr) ok;
      found = λ has. target_below limits A (at A dir) name ok.valid live.below has;
      makes = λ none. go (has_name A (at A dir) name) none ok.p.room;
    }
  where
    go : (b : Bool) → b ≡ false →
        (if b then is_some sattr.size && no_room A limits (length (bytes_of (entry_at A (target A (at A dir) name)))) (unwrap_or sattr.size 0) else no_new A limits (unwrap_or sattr.size 0)) ≡ false →
        CanAdd A (at A dir)
    go true none h = absurd (true≢false none)
    go false none h = adds_one limits A (create dir name sattr) (at A dir) (unwrap_or sattr.size 0) ok ok.p.in_dir.live.below h
can_change limits A (remove dir name) ok =
    takes_out limits A (remove dir name) dir name ok ok.p.0.in_dir.live.below ok.p.0.has
can_change limits A (rename from name to to_name) ok =
    let live_d = ok.p.from_live in
    let live_e = ok.p.to_live in
    record {
      small = small limits A (rename from name to to_name) ok;
      from_within = live_d.below;
      to_within = live_e.below;
      within = target_below limits A (at A from) name ok.valid live_d.below ok.p.has;
      over = λ has. target_below limits A (at A to) to_name ok.valid live_e.below has;
      few = few limits A (rename from name to to_name) (target A (at A to) to_name) ok;
    }
can_change limits A (link node dir name) ok =
    record { small = small limits A (link node dir name) ok; within = ok.p.live.below; dir_within = ok.p.in_dir.live.below }
can_change limits A (symlink dir name text sattr) ok = adds_one limits A (symlink dir name text sattr) (at A dir) (length text) ok ok.p.in_dir.live.below ok.p.room
can_change limits A (make_dir dir name sattr) ok = adds_one limits A (make_dir dir name sattr) (at A dir) 0 ok ok.p.in_dir.live.below ok.p.room
can_change limits A (remove_dir dir name) ok =
    takes_out limits A (remove_dir dir name) dir name ok ok.p.0.in_dir.live.below ok.p.0.has
can_change limits A (read_dir dir cookie count) ok = tt
can_change limits A (stat_fs node) ok = tt

-- WHERE THE ANSWER LOOKS

root_below : (limits : Limits) (A : List Entry) → Valid limits A → 0 < length A
root_below limits A valid = live_below A 0 (dir_is (entry_at A 0) valid.root).null

new_below : (limits : Limits) (A : List Entry) (bytes : ℕ) → no_new A limits bytes ≡ false → unwrap_or (free A) (length A) < length A
new_below limits A bytes room =
    let new = new_is A limits bytes room in
    subst (λ (x : Option ℕ). unwrap_or x (length A) < length A) (sym new.free_at) (free_is A new.index new.free_at).0

place_below : (limits : Limits) (A : List Entry) (call : Call) → IsAllowed limits A call → place_of A call < length A
place_below limits A null ok = root_below limits A ok.valid
place_below limits A root ok = root_below limits A ok.valid
place_below limits A write_cache ok = root_below limits A ok.valid
place_below limits A (get_attr node) ok = root_below limits A ok.valid
place_below limits A (set_attr node sattr) ok = ok.p.live.below
place_below limits A (lookup dir name) ok = root_below limits A ok.valid
place_below limits A (read_link node) ok = root_below limits A ok.valid
place_below limits A (read file offset count) ok = root_below limits A ok.valid
place_below limits A (write file offset bytes) ok = ok.p.0.live.below
place_below limits A (create dir name sattr) ok = go (has_name A (at A dir) name) refl ok.p.room
  where
    go : (b : Bool) → has_name A (at A dir) name ≡ b →
        (if b then is_some sattr.size && no_room A limits (length (bytes_of (entry_at A (target A (at A dir) name)))) (unwrap_or sattr.size 0) else no_new A limits (unwrap_or sattr.size 0)) ≡ false →
        (if b then target A (at A dir) name else unwrap_or (free A) (length A)) < length A
    go true has h = target_below limits A (at A dir) name ok.valid ok.p.in_dir.live.below has
    go false has h = new_below limits A (unwrap_or sattr.size 0) h
place_below limits A (remove dir name) ok = root_below limits A ok.valid
place_below limits A (rename from name to to_name) ok = root_below limits A ok.valid
place_below limits A (link node dir name) ok = root_below limits A ok.valid
place_below limits A (symlink dir name text sattr) ok = root_below limits A ok.valid
place_below limits A (make_dir dir name sattr) ok = go (has_name A (at A dir) name) ok.p.absent
  where
    go : (b : Bool) → b ≡ false → (if b then target A (at A dir) name else unwrap_or (free A) (length A)) < length A
    go true h = absurd (true≢false h)
    go false h = new_below limits A 0 ok.p.room
place_below limits A (remove_dir dir name) ok = root_below limits A ok.valid
place_below limits A (read_dir dir cookie count) ok = root_below limits A ok.valid
place_below limits A (stat_fs node) ok = root_below limits A ok.valid

-- the entry there is within its bounds after the call
pub place_bounds : (limits : Limits) (A : List Entry) (cred : Cred) (t : Time) (call : Call) → is_time t ≡ true → call_fits call ≡ true → IsAllowed limits A call →
    HasBounds (changed (changes A cred t call) A) (place_of A call)
place_bounds limits A cred t call moment fits ok =
    let B = changed (changes A cred t call) A in
    bounded limits B (place_of A call) (kept limits A cred t call moment fits ok.valid ok.f) ok.n ok.t
    (let long = length-changed (changes A cred t call) A in let there = place_below limits A call ok in omega arith)

pub is_allowed : (limits : Limits) (A : List Entry) (call : Call) → Valid limits A → limits.n < 2 ^ 32 → limits.t < 2 ^ 32 → first_of (refusals A limits call) ≡ None → IsAllowed limits A call
is_allowed limits A call valid n t none =
    let f = none_holds (refusals A limits call) none in
    record { valid = valid; n = n; t = t; f = f; p = passed A limits call f }
