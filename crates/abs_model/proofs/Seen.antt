-- the attributes in an answer are those of an object
use Rattle.std.proofs.Common.{◌≡◌, ℕ, ◌+◌, ◌*◌, ◌<◌, List, ◌∷◌, [], Bool, true, false, not, ◌&&◌, ◌||◌, length, set, refl, ◌∙◌, ap, arith, Option, Some, None, get_or-set_same, replicate}
use Rattle.std.proofs.lemmas.List.{length-set}
use Rattle.std.specs.Prelude.{◌==◌, is_some, unwrap_or, bytes_eq, if◌then◌else◌}
use Rattle.std.proofs.lemmas.Bool.{true≢false, not-false}
use Rattle.nfs2_types.specs.declared.Limits.{Limits}
use Rattle.nfs2_types.specs.declared.Time.{Time}
use Rattle.nfs2_types.specs.declared.Cred.{Cred}
use Rattle.nfs2_types.specs.declared.Stat.{Stat}
use Rattle.nfs2_types.specs.declared.Fattr.{Fattr}
use Rattle.nfs2_types.specs.declared.NfsResult.{NfsResult}
use Rattle.nfs2_types.specs.declared.NfsResult.TheVariants as Result
use Rattle.nfs2_types.specs.Bytes.{resized}
use Rattle.nfs2_types.specs.Names.{name_dot, name_dots}
use Rattle.nfs2_types.specs.Call.{Call, null, root, write_cache, get_attr, set_attr, lookup, read_link, read, write, create, remove, rename, link, symlink, make_dir, remove_dir, read_dir, stat_fs}
use Rattle.abs_model.specs.declared.entry.Attr.{Attr}
use Rattle.abs_model.specs.declared.entry.Entry.{Entry}
use Rattle.abs_model.specs.declared.entry.Object.{Object}
use Rattle.abs_model.specs.declared.entry.Object.TheVariants.{Null, File, Dir, Link}
use Rattle.abs_model.specs.Numbers.{no_type, file_type, file_mode, dir_type, dir_mode, link_type, link_mode, new_file_mode, new_dir_mode}
use Rattle.abs_model.specs.Objects.{is_null, is_file, names_of, bytes_of, attr_of, with_attr, new_attr, set_attr_of, zero_attr}
use Rattle.abs_model.specs.Array.{entry_at, null_entry, changed, links, subdirs, parent, free, at, target, has_name, fattr, fattr_by}
use Rattle.abs_model.specs.Machine.{first_of, refusals, changes, answer, adds, with_bytes, made, to_be, no_new, no_room, found_or_made, result_of, array_after, effect}
use Rattle.abs_model.specs.Valid.{Valid, leads}
use Rattle.abs_model.specs.Shown.{shows_objects}
use Rattle.abs_model.proofs.Shapes.{live_below}
use Rattle.abs_model.proofs.Facts.{none_holds, dir_is, row_is, found_passes, led_is}
use Rattle.abs_model.proofs.Kept.{free_is}
use Rattle.abs_model.proofs.Law.{new_is}
use Rattle.abs_model.proofs.Parents.{parent_is_dir}
use Rattle.abs_model.proofs.Passed.{Passed, passed}

-- LIVE ENTRIES

-- the type of what stands at an index
abbrev type_of : List Entry → ℕ → Object → ℕ
type_of A i o =
    let words : Fattr = elim o [
      | Null ↦ fattr_by zero_attr no_type 0 0 0 i
      | File attr bytes ↦ fattr_by attr file_type file_mode (links A i) (length bytes) i
      | Dir attr names ↦ fattr_by attr dir_type dir_mode (2 + subdirs A names) (512 + 32 * length names) i
      | Link attr text ↦ fattr_by attr link_type link_mode (links A i) (length text) i
    ] in
    words.ftype

typed : (A : List Entry) (i : ℕ) → is_null (entry_at A i) ≡ false → not ((fattr A i).ftype == no_type) ≡ true
typed A i live = go (entry_at A i).object live
  where
    go : (o : Object) → is_null (record { generation = (entry_at A i).generation; object = o }) ≡ false → not (type_of A i o == no_type) ≡ true
    go Null live = absurd (true≢false live)
    go (File attr bytes) live = refl
    go (Dir attr names) live = refl
    go (Link attr text) live = refl

-- what is put there is there
put_live : (A : List Entry) (i : ℕ) (e : Entry) → i < length A → is_null e ≡ false → is_null (entry_at (set A i e) i) ≡ false
put_live A i e below live = ap is_null (get_or-set_same A i e null_entry below) ∙ live

put_second : (A : List Entry) (d i : ℕ) (x e : Entry) → i < length A → is_null e ≡ false → is_null (entry_at (set (set A d x) i e) i) ≡ false
put_second A d i x e below live = put_live (set A d x) i e (let long = length-set A d x in omega arith) live

with_attr_live : (a : Attr) (e : Entry) → is_null e ≡ false → is_null (with_attr a e) ≡ false
with_attr_live a e live = go e.object live
  where
    go : (o : Object) → is_null (record { generation = e.generation; object = o }) ≡ false → is_null (with_attr a (record { generation = e.generation; object = o })) ≡ false
    go Null live = absurd (true≢false live)
    go (File attr bytes) live = refl
    go (Dir attr names) live = refl
    go (Link attr text) live = refl

target_live : (limits : Limits) (A : List Entry) (d : ℕ) (name : List ℕ) → Valid limits A → d < length A → has_name A d name ≡ true → is_null (entry_at A (target A d name)) ≡ false
target_live limits A d name valid below has =
    let row = row_is A d name has in
    let led = led_is A row.row (found_passes (leads A) name (names_of (entry_at A d)) row.row row.found (valid.lead d below)) in
    ap (λ (x : ℕ). is_null (entry_at A x)) row.leads_there ∙ led.live

-- the entry of a new object
made_live : (A : List Entry) (limits : Limits) (bytes d : ℕ) (name : List ℕ) (t : Time) (new : Object) → no_new A limits bytes ≡ false →
    ((e : Entry) → is_null (made new e) ≡ false) → is_null (entry_at (changed (adds A d name t new) A) (unwrap_or (free A) (length A))) ≡ false
made_live A limits bytes d name t new room there =
    let at_i = new_is A limits bytes room in
    let here : unwrap_or (free A) (length A) ≡ at_i.index = ap (λ (o : Option ℕ). unwrap_or o (length A)) at_i.free_at in
    let below = (free_is A at_i.index at_i.free_at).0 in
    put_second A d (unwrap_or (free A) (length A)) _ _ (omega arith) (there (entry_at A (unwrap_or (free A) (length A))))

-- EVERY CALL

abbrev Answered : List Entry → Limits → Cred → Time → Call → Type 0
Answered A limits cred t call = shows_objects (answer A (changed (changes A cred t call) A) limits call) ≡ true

find_shows : (limits : Limits) (A : List Entry) (dir name : List ℕ) → Valid limits A → Passed A limits (lookup dir name) →
    is_null (entry_at A (if bytes_eq name name_dot then at A dir else if bytes_eq name name_dots then parent A (at A dir) else target A (at A dir) name)) ≡ false
find_shows limits A dir name valid p = go (bytes_eq name name_dot) (bytes_eq name name_dots) p.found
  where
    go : (b c : Bool) → (not (b || c) && not (has_name A (at A dir) name)) ≡ false →
        is_null (entry_at A (if b then at A dir else if c then parent A (at A dir) else target A (at A dir) name)) ≡ false
    go true c found = p.in_dir.live.live
    go false true found = let up = parent_is_dir limits A (at A dir) valid p.in_dir.kind in (dir_is (entry_at A (parent A (at A dir))) up).null
    go false false found = target_live limits A (at A dir) name valid p.in_dir.live.below (not-false (has_name A (at A dir) name) found)

shows : (limits : Limits) (A : List Entry) (cred : Cred) (t : Time) (call : Call) → Valid limits A → Passed A limits call → Answered A limits cred t call
shows limits A cred t null valid p = refl
shows limits A cred t root valid p = refl
shows limits A cred t write_cache valid p = refl
shows limits A cred t (get_attr node) valid p = typed A (at A node) p.live
shows limits A cred t (set_attr node sattr) valid p = typed _ (at A node) (go (is_some sattr.size) _)
  where
    new : Attr
    new = set_attr_of sattr t (attr_of (entry_at A (at A node)))

    go : (b : Bool) (bytes : List ℕ) → is_null (entry_at (set A (at A node) (if b
        then record { generation = (entry_at A (at A node)).generation; object = File new bytes }
        else with_attr new (entry_at A (at A node)))) (at A node)) ≡ false
    go true bytes = put_live A (at A node) _ p.live.below refl
    go false bytes = put_live A (at A node) _ p.live.below (with_attr_live new (entry_at A (at A node)) p.live.live)
shows limits A cred t (lookup dir name) valid p = typed A _ (find_shows limits A dir name valid p)
shows limits A cred t (read_link node) valid p = refl
shows limits A cred t (read file offset count) valid p = typed A (at A file) p.live.live
shows limits A cred t (write file offset bytes) valid p = typed _ (at A file) (put_live A (at A file) _ p.0.live.below refl)
shows limits A cred t (create dir name sattr) valid p =
    typed (changed (changes A cred t (create dir name sattr)) A) (found_or_made A (at A dir) name) (go (has_name A (at A dir) name) refl sattr.size p.file p.room)
  where
    go : (b : Bool) → has_name A (at A dir) name ≡ b → (size : Option ℕ) → (b && not (is_file (entry_at A (target A (at A dir) name)))) ≡ false →
        (if b then is_some size && no_room A limits (length (bytes_of (entry_at A (target A (at A dir) name)))) (unwrap_or size 0) else no_new A limits (unwrap_or size 0)) ≡ false →
        is_null (entry_at (changed (if b then
        (if is_some size then to_be (target A (at A dir) name) (with_bytes (resized (unwrap_or size 0)) t (entry_at A (target A (at A dir) name))) ∷ [] else [])
        else adds A (at A dir) name t (File (new_attr new_file_mode cred t sattr) (replicate (unwrap_or size 0) 0))) A)
        (if b then target A (at A dir) name else unwrap_or (free A) (length A))) ≡ false
    go true has None file room = target_live limits A (at A dir) name valid p.in_dir.live.below has
    go true has (Some n) file room =
        put_live A (target A (at A dir) name) _ (live_below A (target A (at A dir) name) (target_live limits A (at A dir) name valid p.in_dir.live.below has)) refl
    go false absent size file room = made_live A limits (unwrap_or size 0) (at A dir) name t _ room (λ _. refl)
shows limits A cred t (remove dir name) valid p = refl
shows limits A cred t (rename from name to to_name) valid p = refl
shows limits A cred t (link node dir name) valid p = refl
shows limits A cred t (symlink dir name text sattr) valid p = refl
shows limits A cred t (make_dir dir name sattr) valid p =
    typed (changed (changes A cred t (make_dir dir name sattr)) A) (found_or_made A (at A dir) name) (go (has_name A (at A dir) name) p.absent)
  where
    new : Object
    new = Dir (new_attr new_dir_mode cred t sattr) []

    go : (b : Bool) → b ≡ false → is_null (entry_at (changed (adds A (at A dir) name t new) A)
        (if b then target A (at A dir) name else unwrap_or (free A) (length A))) ≡ false
    go true absent = absurd (true≢false absent)
    go false absent = made_live A limits 0 (at A dir) name t new p.room (λ _. refl)
shows limits A cred t (remove_dir dir name) valid p = refl
shows limits A cred t (read_dir dir cookie count) valid p = refl
shows limits A cred t (stat_fs node) valid p = refl

pub result_shows : (limits : Limits) (A : List Entry) (cred : Cred) (t : Time) (call : Call) → Valid limits A → shows_objects (result_of A limits cred t call) ≡ true
unfolding result_of array_after effect
result_shows limits A cred t call valid = go (first_of (refusals A limits call)) refl
  where
    go : (o : Option Stat) → first_of (refusals A limits call) ≡ o → shows_objects (elim o as (λ _. NfsResult) [
      | Some s ↦ Result.Refused s
      | None ↦ answer A (changed (if is_some o then [] else changes A cred t call) A) limits call
    ]) ≡ true
    go (Some s) is = refl
    go None is = shows limits A cred t call valid (passed A limits call (none_holds (refusals A limits call) is))
