-- What is written is a spelling of the call.
use Rattle.std.proofs.Common.{◌≡◌, ℕ, ◌^◌, ◌<◌, ◌≤◌, ◌%◌, true, false, eqb, ltb, List, [], ◌++◌, length, Option}
use Rattle.std.proofs.Common.{Some, None, refl, subst, append_assoc, arith}
use Rattle.std.specs.Prelude.{unwrap_or, nat_le}
use Rattle.std.proofs.lemmas.List.{append-nil}
use Rattle.std.proofs.lemmas.Bool.{leb-true, and_parts}
use Rattle.xdr_core.specs.Items.{any_word, spell_fixed, spell_opaque}
use Rattle.xdr_core.specs.Grammar.{Spells, Grammar, and_then, gives, item}
use Rattle.xdr_core.proofs.Formats.{spells_after}
use Rattle.xdr_core.proofs.Spelled.{IsSpelled, before, last}
use Rattle.nfs2_types.specs.declared.args.SetTime.{SetTime}
use Rattle.nfs2_types.specs.declared.args.Sattr.{Sattr}
use Rattle.nfs2_types.specs.Call.{Call, call_fits, sattr_fits, set_time_fits, null, root, write_cache, get_attr}
use Rattle.nfs2_types.specs.Call.{set_attr, lookup, read_link, read, write, create, remove, rename, link, symlink}
use Rattle.nfs2_types.specs.Call.{make_dir, remove_dir, read_dir, stat_fs}
use Rattle.nfs2_args.specs.Forms.{handle, name, path, content, given, mode_given, when, sattr_of, sattr_form}
use Rattle.nfs2_args.specs.Forms.{get_attr_form, set_attr_form, lookup_form, read_link_form, read_form, write_form}
use Rattle.nfs2_args.specs.Forms.{create_form, remove_form, rename_form, link_form, symlink_form, make_dir_form}
use Rattle.nfs2_args.specs.Forms.{remove_dir_form, read_dir_form, stat_fs_form, args_form}
use Rattle.nfs2_args.specs.Spelling.{number_of, field_fits, seconds_fit, fields_fit, call_fields_fit, word_of}
use Rattle.nfs2_args.specs.Spelling.{secs_of, micros_of, sattr_text, place_text, args_text, IsShaped}

-- ---- a sattr

-- the word of a field is read as that field
record Back (field : Option ℕ) (read_as : ℕ → Option ℕ) : Type 0 where
  size : word_of field < 2 ^ 32
  same : read_as (word_of field) ≡ field

field_back : (field : Option ℕ) → field_fits field ≡ true → Back field given
field_back None h = record { size = omega arith; same = refl }
field_back (Some n) h =
    let low : n < 4294967295 = grind (arith, h) in
    let e : eqb n 4294967295 ≡ false = grind arith in
    record { size = omega arith; same = rw e refl }

mode_back : (mode : Option ℕ) → ltb (unwrap_or mode 0) 4096 ≡ true → Back mode mode_given
mode_back None h = record { size = omega arith; same = refl }
mode_back (Some n) h =
    let low : n < 4096 = grind (arith, h) in
    let e : eqb n 4294967295 ≡ false = grind arith in
    let m : n % 4096 ≡ n = omega arith in
    record { size = omega arith; same = rw (e, m) refl }

record TimeBack (t : SetTime) : Type 0 where
  secs : secs_of t < 2 ^ 32
  micros : micros_of t < 2 ^ 32
  same : when (secs_of t) (micros_of t) ≡ t

time_back : (t : SetTime) → set_time_fits t ≡ true → seconds_fit t ≡ true → TimeBack t
time_back SetTime.Keep h k = record { secs = omega arith; micros = omega arith; same = refl }
time_back SetTime.Now h k = record { secs = omega arith; micros = omega arith; same = refl }
time_back (SetTime.At t) h k =
    let low : t.secs < 4294967295 = grind (arith, k) in
    let small : t.micros < 1000000 = grind (arith, h) in
    let e : eqb t.secs 4294967295 ≡ false = grind arith in
    record { secs = omega arith; micros = omega arith; same = rw (e, h) refl }

sattr_spelled : (s : Sattr) → sattr_fits s ≡ true → fields_fit s ≡ true → IsSpelled sattr_form s (sattr_text s)
unfolding sattr_form sattr_text
sattr_spelled s fits fields =
    let fits_m = and_parts _ _ fits in
    let fits_a = and_parts _ _ fits_m.0 in
    let fields_m = and_parts _ _ fields in
    let fields_a = and_parts _ _ fields_m.0 in
    let fields_s = and_parts _ _ fields_a.0 in
    let fields_g = and_parts _ _ fields_s.0 in
    let mode = mode_back s.mode fits_a.0 in
    let uid = field_back s.uid fields_g.0 in
    let gid = field_back s.gid fields_g.1 in
    let size = field_back s.size fields_s.1 in
    let atime = time_back s.atime fits_a.1 fields_a.1 in
    let mtime = time_back s.mtime fits_m.1 fields_m.1 in
    let back : s ≡ sattr_of (word_of s.mode) (word_of s.uid) (word_of s.gid) (word_of s.size) (secs_of s.atime)
    (micros_of s.atime) (secs_of s.mtime) (micros_of s.mtime)
    = rw (mode.same, uid.same, gid.same, size.same, atime.same, mtime.same) refl in
    before any_word _ (word_of s.mode) s _ (mode.size, refl)
    (before any_word _ (word_of s.uid) s _ (uid.size, refl)
    (before any_word _ (word_of s.gid) s _ (gid.size, refl)
    (before any_word _ (word_of s.size) s _ (size.size, refl)
    (before any_word _ (secs_of s.atime) s _ (atime.secs, refl)
    (before any_word _ (micros_of s.atime) s _ (atime.micros, refl)
    (before any_word _ (secs_of s.mtime) s _ (mtime.secs, refl)
    (last any_word (λ n. sattr_of (word_of s.mode) (word_of s.uid) (word_of s.gid) (word_of s.size) (secs_of s.atime)
    (micros_of s.atime) (secs_of s.mtime) n) (micros_of s.mtime) s (mtime.micros, refl) back)))))))

-- ---- the parts of arguments

-- a sattr that ends the arguments
last_sattr : (call : Sattr → Call) (s : Sattr) → sattr_fits s ≡ true → fields_fit s ≡ true
    → IsSpelled (and_then sattr_form (λ s. gives (call s))) (call s) (sattr_text s)
last_sattr call s fits fields =
    let one = spells_after sattr_form (λ s. gives (call s)) s (call s) (sattr_text s) []
    (sattr_spelled s fits fields).spells (refl, refl) in
    record {
      spells = subst (λ (t : List ℕ). Spells (and_then sattr_form (λ s. gives (call s))) (call s) t)
          (append-nil (sattr_text s)) one;
    }

-- a directory and a name, and what stands behind them
place_before : {A : Type 0} (next : List ℕ → List ℕ → Grammar A) (dir n : List ℕ) (value : A) (more : List ℕ)
    → length dir ≡ 32 → nat_le (length n) 255 ≡ true → IsSpelled (next dir n) value more
    → IsSpelled (item handle (λ d. item name (λ m. next d m))) value (place_text dir n ++ more)
place_before next dir n value more size short s =
    let le : length n ≤ 255 = leb-true _ _ short in
    record {
      spells = (
        dir,
        spell_opaque n ++ more,
        size,
        append_assoc (spell_fixed dir) (spell_opaque n) more,
        (n, more, (omega arith, le, refl), refl, s.spells),
      );
    }

-- a directory and a name that end the arguments
last_place : (call : List ℕ → List ℕ → Call) (dir n : List ℕ) → length dir ≡ 32 → nat_le (length n) 255 ≡ true
    → IsSpelled (item handle (λ d. item name (λ m. gives (call d m)))) (call dir n) (place_text dir n)
last_place call dir n size short =
    subst (λ (t : List ℕ). IsSpelled (item handle (λ d. item name (λ m. gives (call d m)))) (call dir n) t)
    (append-nil (place_text dir n))
    (place_before (λ d m. gives (call d m)) dir n (call dir n) [] size short (record { spells = (refl, refl) }))

-- ---- the procedures

call_spelled : (call : Call) → IsShaped call → call_fits call ≡ true → call_fields_fit call ≡ true
    → IsSpelled (args_form (number_of call)) call (args_text call)
unfolding get_attr_form set_attr_form lookup_form read_link_form read_form write_form create_form remove_form
    rename_form link_form symlink_form make_dir_form remove_dir_form read_dir_form stat_fs_form
call_spelled null shape fits fields = record { spells = (refl, refl) }
call_spelled root shape fits fields = record { spells = (refl, refl) }
call_spelled write_cache shape fits fields = record { spells = (refl, refl) }
call_spelled (get_attr node) shape fits fields = last handle (λ h. get_attr h) node _ shape refl
call_spelled (set_attr node s) shape fits fields = before handle _ node _ _ shape
    (last_sattr (λ s. set_attr node s) s fits fields)
call_spelled (lookup dir n) shape fits fields = last_place (λ d m. lookup d m) dir n shape fits
call_spelled (read_link node) shape fits fields = last handle (λ h. read_link h) node _ shape refl
call_spelled (read file offset count) shape fits fields =
    before handle _ file _ _ shape.0 (before any_word _ offset _ _ (shape.1, refl)
    (before any_word _ count _ _ (shape.2, refl) (last any_word (λ total. read file offset count) 0 _ (
      omega arith,
      refl,
    ) refl)))
call_spelled (write file offset bytes) shape fits fields =
    let le : length bytes ≤ 8192 = leb-true _ _ fits in
    before handle _ file _ _ shape.0 (before any_word _ 0 _ _ (omega arith, refl)
    (before any_word _ offset _ _ (shape.1, refl) (before any_word _ 0 _ _ (omega arith, refl)
    (last content (λ b. write file offset b) bytes _ (omega arith, le, refl) refl))))
call_spelled (create dir n s) shape fits fields =
    let f = and_parts _ _ fits in
    place_before (λ d m. and_then sattr_form (λ s. gives (create d m s))) dir n _ (sattr_text s) shape f.0
    (last_sattr (λ s. create dir n s) s f.1 fields)
call_spelled (remove dir n) shape fits fields = last_place (λ d m. remove d m) dir n shape fits
call_spelled (rename from n to to_name) shape fits fields =
    let f = and_parts _ _ fits in
    place_before (λ d m. item handle (λ e. item name (λ o. gives (rename d m e o)))) from n _
    (place_text to to_name) shape.0 f.0 (last_place (λ e o. rename from n e o) to to_name shape.1 f.1)
call_spelled (link node dir n) shape fits fields = before handle _ node _ _ shape.0
    (last_place (λ d m. link node d m) dir n shape.1 fits)
call_spelled (symlink dir n text s) shape fits fields =
    let f = and_parts _ _ fits in
    let g = and_parts _ _ f.0 in
    let le : length text ≤ 1024 = leb-true _ _ g.1 in
    place_before (λ d m. item path (λ t. and_then sattr_form (λ s. gives (symlink d m t s)))) dir n _
    (spell_opaque text ++ sattr_text s) shape g.0
    (before path _ text _ _ (omega arith, le, refl) (last_sattr (λ s. symlink dir n text s) s f.1 fields))
call_spelled (make_dir dir n s) shape fits fields =
    let f = and_parts _ _ fits in
    place_before (λ d m. and_then sattr_form (λ s. gives (make_dir d m s))) dir n _ (sattr_text s) shape f.0
    (last_sattr (λ s. make_dir dir n s) s f.1 fields)
call_spelled (remove_dir dir n) shape fits fields = last_place (λ d m. remove_dir d m) dir n shape fits
call_spelled (read_dir dir cookie count) shape fits fields =
    before handle _ dir _ _ shape.0 (before any_word _ cookie _ _ (shape.1, refl)
    (last any_word (λ n. read_dir dir cookie n) count _ (shape.2, refl) refl))
call_spelled (stat_fs node) shape fits fields = last handle (λ h. stat_fs h) node _ shape refl

pub args_spelled : (call : Call) → IsShaped call → call_fits call ≡ true → call_fields_fit call ≡ true
    → Spells (args_form (number_of call)) call (args_text call)
args_spelled call shape fits fields = (call_spelled call shape fits fields).spells
