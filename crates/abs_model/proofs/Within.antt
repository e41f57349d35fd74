-- what is told lies in the array
use Rattle.std.proofs.Common.{◌≡◌, ℕ, zero, suc, ◌<◌, List, [], ◌∷◌, ◌++◌, Bool, true, false, map, length, refl, sym, ◌∙◌, ap, subst, arith, Option, Some, None, Contains, replicate}
use Rattle.std.specs.Prelude.{slice_index_or, ◌&&◌, ◌==◌, is_some, unwrap_or, if◌then◌else◌}
use Rattle.nfs2_types.specs.declared.Limits.{Limits}
use Rattle.nfs2_types.specs.declared.Time.{Time}
use Rattle.nfs2_types.specs.declared.Cred.{Cred}
use Rattle.nfs2_types.specs.declared.Stat.{Stat}
use Rattle.nfs2_types.specs.Bytes.{resized}
use Rattle.nfs2_types.specs.Call.{Call, null, root, write_cache, get_attr, set_attr, lookup, read_link, read, write, create, remove, rename, link, symlink, make_dir, remove_dir, read_dir, stat_fs}
use Rattle.abs_model.specs.declared.entry.Entry.{Entry}
use Rattle.abs_model.specs.declared.entry.Change.{Change}
use Rattle.abs_model.specs.declared.entry.Object.{Object}
use Rattle.abs_model.specs.declared.entry.Object.TheVariants.{File, Dir, Link}
use Rattle.abs_model.specs.Objects.{is_null, names_of, bytes_of, new_attr}
use Rattle.abs_model.specs.Array.{entry_at, at, target, has_name}
use Rattle.abs_model.specs.Machine.{first_of, refusals, changes, adds, with_bytes, rows_move, row_to, to_be, unlinked, no_new, no_room, effect, told, array_after}
use Rattle.abs_model.specs.Numbers.{new_file_mode, new_dir_mode, open_mode}
use Rattle.abs_model.specs.Valid.{Valid, leads}
use Rattle.abs_model.proofs.Shapes.{live_below}
use Rattle.abs_model.proofs.Facts.{none_holds, row_is, found_passes, led_is}
use Rattle.abs_model.proofs.Passed.{Passed, passed}
use Rattle.abs_model.proofs.Kept.{free_is}
use Rattle.abs_model.proofs.Law.{new_is}
use Rattle.abs_model.proofs.Untold.{length-changed}

-- each change lies below n
abbrev AllBelow : ℕ → List Change → Type 0
AllBelow n [] = Unit {0}
AllBelow n (c ∷ cs) = (c.index < n) × AllBelow n cs

both_below : (n : ℕ) (cs ds : List Change) → AllBelow n cs → AllBelow n ds → AllBelow n (cs ++ ds)
both_below n [] ds h k = k
both_below n (c ∷ cs) ds h k = (h.0, both_below n cs ds h.1 k)

-- a name of a directory leads into the array
pub target_below : (limits : Limits) (A : List Entry) (d : ℕ) (name : List ℕ) → Valid limits A → d < length A → has_name A d name ≡ true → target A d name < length A
target_below limits A d name valid below has =
    let row = row_is A d name has in
    let led = led_is A row.row (found_passes (leads A) name (names_of (entry_at A d)) row.row row.found (valid.lead d below)) in
    live_below A (target A d name) (ap (λ (x : ℕ). is_null (entry_at A x)) row.leads_there ∙ led.live)

adds_below : (A : List Entry) (limits : Limits) (bytes : ℕ) (d : ℕ) (name : List ℕ) (t : Time) (new : Object) → d < length A → no_new A limits bytes ≡ false →
    AllBelow (length A) (adds A d name t new)
adds_below A limits bytes d name t new below room =
    let at_i = new_is A limits bytes room in
    (below, (subst (λ (x : Option ℕ). unwrap_or x (length A) < length A) (sym at_i.free_at) (free_is A at_i.index at_i.free_at).0, tt))

moves_below : (A : List Entry) (d : ℕ) (name : List ℕ) (e : ℕ) (to_name : List ℕ) (i g : ℕ) (t : Time) → d < length A → e < length A →
    AllBelow (length A) (rows_move A d name e (row_to to_name i g) t)
moves_below A d name e to_name i g t d_below e_below = go (d == e) _ _ _
  where
    go : (b : Bool) (x y z : Entry) → AllBelow (length A) (if b then to_be d x ∷ [] else to_be d y ∷ to_be e z ∷ [])
    go true x y z = (d_below, tt)
    go false x y z = (d_below, (e_below, tt))

below : (limits : Limits) (A : List Entry) (cred : Cred) (t : Time) (call : Call) → Valid limits A → Passed A limits call → AllBelow (length A) (changes A cred t call)
below limits A cred t null valid p = tt
below limits A cred t root valid p = tt
below limits A cred t write_cache valid p = tt
below limits A cred t (get_attr node) valid p = tt
below limits A cred t (set_attr node sattr) valid p = (p.live.below, tt)
below limits A cred t (lookup dir name) valid p = tt
below limits A cred t (read_link node) valid p = tt
below limits A cred t (read file offset count) valid p = tt
below limits A cred t (write file offset bytes) valid p = (p.0.live.below, tt)
below limits A cred t (create dir name sattr) valid p = go (has_name A (at A dir) name) refl sattr.size p.room
  where
    go : (b : Bool) → has_name A (at A dir) name ≡ b → (size : Option ℕ) →
        (if b then is_some size && no_room A limits (length (bytes_of (entry_at A (target A (at A dir) name)))) (unwrap_or size 0) else no_new A limits (unwrap_or size 0)) ≡ false →
        AllBelow (length A) (if b then
        (if is_some size then to_be (target A (at A dir) name) (with_bytes (resized (unwrap_or size 0)) t (entry_at A (target A (at A dir) name))) ∷ [] else [])
        else adds A (at A dir) name t (File (new_attr new_file_mode cred t sattr) (replicate (unwrap_or size 0) 0)))
    go true has None room = tt
    go true has (Some n) room = (target_below limits A (at A dir) name valid p.in_dir.live.below has, tt)
    go false has size room = adds_below A limits (unwrap_or size 0) (at A dir) name t (File (new_attr new_file_mode cred t sattr) (replicate (unwrap_or size 0) 0)) p.in_dir.live.below room
below limits A cred t (remove dir name) valid p =
    (p.0.in_dir.live.below, (target_below limits A (at A dir) name valid p.0.in_dir.live.below p.0.has, tt))
below limits A cred t (rename from name to to_name) valid p =
    go (has_name A (at A to) to_name) refl (target A (at A from) name == target A (at A to) to_name)
  where
    go : (b : Bool) → has_name A (at A to) to_name ≡ b → (s : Bool) → AllBelow (length A) (if b && s then [] else
        (rows_move A (at A from) name (at A to) (row_to to_name (target A (at A from) name) (entry_at A (target A (at A from) name)).generation) t
        ++ (if b then to_be (target A (at A to) to_name) (unlinked A (target A (at A to) to_name) t) ∷ [] else [])))
    go true has true = tt
    go true has false = both_below (length A) _ _ (moves_below A (at A from) name (at A to) to_name (target A (at A from) name) _ t p.from_live.below p.to_live.below)
        (target_below limits A (at A to) to_name valid p.to_live.below has, tt)
    go false has s = both_below (length A) _ _ (moves_below A (at A from) name (at A to) to_name (target A (at A from) name) _ t p.from_live.below p.to_live.below) tt
below limits A cred t (link node dir name) valid p = (p.in_dir.live.below, (p.live.below, tt))
below limits A cred t (symlink dir name text sattr) valid p =
    adds_below A limits (length text) (at A dir) name t (Link (new_attr open_mode cred t sattr) text) p.in_dir.live.below p.room
below limits A cred t (make_dir dir name sattr) valid p =
    adds_below A limits 0 (at A dir) name t (Dir (new_attr new_dir_mode cred t sattr) []) p.in_dir.live.below p.room
below limits A cred t (remove_dir dir name) valid p =
    (p.0.in_dir.live.below, (target_below limits A (at A dir) name valid p.0.in_dir.live.below p.0.has, tt))
below limits A cred t (read_dir dir cookie count) valid p = tt
below limits A cred t (stat_fs node) valid p = tt

listed_below : (n : ℕ) (cs : List Change) → AllBelow n cs → (k d : ℕ) → k < length (map (λ (c : Change). c.index) cs) → slice_index_or (map (λ (c : Change). c.index) cs) k d < n
listed_below n [] h k d l = absurd (omega arith)
listed_below n (c ∷ cs) h zero d l = h.0
listed_below n (c ∷ cs) h (suc k) d l = listed_below n cs h.1 k d (omega arith)

pub told_is_below : (limits : Limits) (A : List Entry) (cred : Cred) (t : Time) (call : Call) (i : ℕ) → Valid limits A → Contains (told A limits cred t call) i → i < length A
unfolding told effect
told_is_below limits A cred t call i valid is_told = go (first_of (refusals A limits call)) refl is_told
  where
    go : (o : Option Stat) → first_of (refusals A limits call) ≡ o → Contains (map (λ (c : Change). c.index) (if is_some o then [] else changes A cred t call)) i → i < length A
    go (Some s) e h = absurd (omega (arith, h.1))
    go None e h = subst (λ (x : ℕ). x < length A) h.2 (listed_below (length A) (changes A cred t call) (below limits A cred t call valid (passed A limits call (none_holds (refusals A limits call) e))) h.0 i h.1)

pub same_length : (A : List Entry) (limits : Limits) (cred : Cred) (t : Time) (call : Call) → length (array_after A limits cred t call) ≡ length A
unfolding array_after
same_length A limits cred t call = length-changed (effect A limits cred t call) A
