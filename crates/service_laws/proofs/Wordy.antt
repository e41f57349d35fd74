-- The machine keeps numbers words: every call.
use Rattle.std.proofs.Common.{◌≡◌, ℕ, zero, suc, ◌+◌, ◌-◌, ◌^◌, ◌<◌, Bool, true, false, List, [], ◌∷◌, ◌++◌, length, get_or, replicate, refl, ap, arith, Option, Some, None}
use Rattle.std.specs.Prelude.{◌==◌, ◌&&◌, is_some, unwrap_or, nat_lt, if◌then◌else◌, set}
use Rattle.std.proofs.lemmas.Bool.{and_parts, ltb-true}
use Rattle.std.proofs.lemmas.List.{get_or_past}
use Rattle.nfs2_types.specs.declared.Limits.{Limits}
use Rattle.nfs2_types.specs.declared.Time.{Time}
use Rattle.nfs2_types.specs.declared.Cred.{Cred}
use Rattle.nfs2_types.specs.declared.Stat.{Stat}
use Rattle.nfs2_types.specs.declared.args.Sattr.{Sattr}
use Rattle.nfs2_types.specs.declared.args.SetTime.{SetTime}
use Rattle.nfs2_types.specs.Bytes.{resized}
use Rattle.nfs2_types.specs.Call.{Call, null, root, write_cache, get_attr, set_attr, lookup, read_link, read, write, create, remove, rename, link, symlink, make_dir, remove_dir, read_dir, stat_fs}
use Rattle.nfs2_args.specs.Spelling.{field_fits, seconds_fit, fields_fit, call_fields_fit}
use Rattle.abs_model.specs.declared.entry.Attr.{Attr}
use Rattle.abs_model.specs.declared.entry.NameRow.{NameRow}
use Rattle.abs_model.specs.declared.entry.Object.{Object}
use Rattle.abs_model.specs.declared.entry.Object.TheVariants.{Null, File, Dir, Link}
use Rattle.abs_model.specs.declared.entry.Entry.{Entry}
use Rattle.abs_model.specs.declared.entry.Change.{Change}
use Rattle.abs_model.specs.Objects.{attr_of, bytes_of, with_attr, nulled, without, placed, time_given, new_attr, set_attr_of, written_at, changed_at, written, zero_attr}
use Rattle.abs_model.specs.Array.{entry_at, null_entry, empty_array, empty_root, changed, free, at, target, has_name}
use Rattle.abs_model.specs.Machine.{first_of, refusals, changes, made, with_bytes, with_names, adds, rows_move, row_to, to_be, unlinked, array_after, effect}
use Rattle.abs_model.proofs.Shapes.{at_set}
use Rattle.abs_model.proofs.Kept.{free_is}
use Rattle.abs_text.specs.Wordy.{IsWordy}

abbrev pub AllWordy : List Entry → Type 0
AllWordy A = (i : ℕ) → IsWordy (entry_at A i)

pub record AttrWordy (a : Attr) : Type 0 where
  pub uid : a.uid < 2 ^ 32
  pub gid : a.gid < 2 ^ 32
  pub atime : a.atime.secs < 2 ^ 32
  pub mtime : a.mtime.secs < 2 ^ 32
  pub ctime : a.ctime.secs < 2 ^ 32

attr_in : (e : Entry) → IsWordy e → AttrWordy (attr_of e)
attr_in e w = record { uid = w.uid; gid = w.gid; atime = w.atime; mtime = w.mtime; ctime = w.ctime }

pub wordy_by : (e : Entry) → e.generation < 2 ^ 32 → AttrWordy (attr_of e) → IsWordy e
wordy_by e g w = record { generation = g; uid = w.uid; gid = w.gid; atime = w.atime; mtime = w.mtime; ctime = w.ctime }

zero_wordy : AttrWordy zero_attr
zero_wordy = record {
  uid = omega arith;
  gid = omega arith;
  atime = omega arith;
  mtime = omega arith;
  ctime = omega arith;
}

null_wordy : IsWordy null_entry
null_wordy = wordy_by null_entry (omega arith) zero_wordy

-- Attributes

field_wordy : (o : Option ℕ) (m : ℕ) → field_fits o ≡ true → m < 2 ^ 32 → unwrap_or o m < 2 ^ 32
field_wordy None m h g = g
field_wordy (Some n) m h g = (let low : n < 4294967295 = ltb-true n 4294967295 h in omega arith)

time_wordy : (s : SetTime) (t old : Time) → seconds_fit s ≡ true → t.secs < 2 ^ 32 → old.secs < 2 ^ 32 →
    (time_given s t old).secs < 2 ^ 32
time_wordy SetTime.Keep t old h now was = was
time_wordy SetTime.Now t old h now was = now
time_wordy (SetTime.At x) t old h now was =
    (let low : x.secs < 4294967295 = ltb-true x.secs 4294967295 h in omega arith)

record Sets (s : Sattr) : Type 0 where
  uid : field_fits s.uid ≡ true
  gid : field_fits s.gid ≡ true
  atime : seconds_fit s.atime ≡ true
  mtime : seconds_fit s.mtime ≡ true

sets : (s : Sattr) → fields_fit s ≡ true → Sets s
sets s h =
    let p1 = and_parts (field_fits s.uid && field_fits s.gid && field_fits s.size && seconds_fit s.atime)
    (seconds_fit s.mtime) h in
    let p2 = and_parts (field_fits s.uid && field_fits s.gid && field_fits s.size) (seconds_fit s.atime) p1.0 in
    let p3 = and_parts (field_fits s.uid && field_fits s.gid) (field_fits s.size) p2.0 in
    let p4 = and_parts (field_fits s.uid) (field_fits s.gid) p3.0 in
    record { uid = p4.0; gid = p4.1; atime = p2.1; mtime = p1.1 }

written_wordy : (t : Time) (a : Attr) → t.secs < 2 ^ 32 → AttrWordy a → AttrWordy (written_at t a)
written_wordy t a now w = record { uid = w.uid; gid = w.gid; atime = w.atime; mtime = now; ctime = now }

changed_at_wordy : (t : Time) (a : Attr) → t.secs < 2 ^ 32 → AttrWordy a → AttrWordy (changed_at t a)
changed_at_wordy t a now w = record { uid = w.uid; gid = w.gid; atime = w.atime; mtime = w.mtime; ctime = now }

new_wordy : (mode : ℕ) (cred : Cred) (t : Time) (s : Sattr) → cred.uid < 2 ^ 32 → cred.gid < 2 ^ 32 → t.secs < 2 ^ 32 →
    fields_fit s ≡ true → AttrWordy (new_attr mode cred t s)
new_wordy mode cred t s u g now h =
    let f = sets s h in
    record {
      uid = field_wordy s.uid cred.uid f.uid u;
      gid = field_wordy s.gid cred.gid f.gid g;
      atime = time_wordy s.atime t t f.atime now now;
      mtime = time_wordy s.mtime t t f.mtime now now;
      ctime = now;
    }

set_wordy : (s : Sattr) (t : Time) (a : Attr) → t.secs < 2 ^ 32 → fields_fit s ≡ true → AttrWordy a →
    AttrWordy (set_attr_of s t a)
set_wordy s t a now h w =
    let f = sets s h in
    record {
      uid = field_wordy s.uid a.uid f.uid w.uid;
      gid = field_wordy s.gid a.gid f.gid w.gid;
      atime = time_wordy s.atime t a.atime f.atime now w.atime;
      mtime = by (is_some s.size) f.mtime;
      ctime = now;
    }
  where
    by : (b : Bool) → seconds_fit s.mtime ≡ true → (time_given s.mtime t (if b then t else a.mtime)).secs < 2 ^ 32
    by true g = time_wordy s.mtime t t g now now
    by false g = time_wordy s.mtime t a.mtime g now w.mtime

-- Entries

with_attr_wordy : (a : Attr) (e : Entry) → IsWordy e → AttrWordy a → IsWordy (with_attr a e)
with_attr_wordy a e w h = go e.object
  where
    go : (o : Object) → IsWordy (with_attr a (record { generation = e.generation; object = o }))
    go Null = wordy_by _ w.generation zero_wordy
    go (File b bytes) = wordy_by _ w.generation h
    go (Dir b names) = wordy_by _ w.generation h
    go (Link b text) = wordy_by _ w.generation h

bytes_wordy : (f : List ℕ → List ℕ) (t : Time) (e : Entry) → t.secs < 2 ^ 32 → IsWordy e → IsWordy (with_bytes f t e)
bytes_wordy f t e now w = wordy_by (with_bytes f t e) w.generation (written_wordy t (attr_of e) now (attr_in e w))

names_wordy : (f : List NameRow → List NameRow) (t : Time) (e : Entry) → t.secs < 2 ^ 32 → IsWordy e →
    IsWordy (with_names f t e)
names_wordy f t e now w = wordy_by (with_names f t e) w.generation (written_wordy t (attr_of e) now (attr_in e w))

nulled_wordy : (e : Entry) → IsWordy e → IsWordy (nulled e)
nulled_wordy e w = wordy_by (nulled e) w.generation zero_wordy

module _ (A : List Entry) (limits : Limits) (cred : Cred) (t : Time) (u : cred.uid < 2 ^ 32) (g : cred.gid < 2 ^ 32)
    (now : t.secs < 2 ^ 32) (all : AllWordy A) where
  unlinked_wordy : (i : ℕ) → IsWordy (unlinked A i t)
  unlinked_wordy i = by _
    where
      by : (b : Bool) → IsWordy
          (if b then nulled (entry_at A i) else with_attr (changed_at t (attr_of (entry_at A i))) (entry_at A i))
      by true = nulled_wordy (entry_at A i) (all i)
      by false = with_attr_wordy (changed_at t (attr_of (entry_at A i))) (entry_at A i) (all i)
          (changed_at_wordy t (attr_of (entry_at A i)) now (attr_in (entry_at A i) (all i)))

  abbrev pub Wordys : List Change → Type 0
  Wordys [] = Unit {0}
  Wordys (c ∷ cs) = IsWordy c.entry × Wordys cs

  both_wordy : (cs ds : List Change) → Wordys cs → Wordys ds → Wordys (cs ++ ds)
  both_wordy [] ds h k = k
  both_wordy (c ∷ cs) ds h k = (h.0, both_wordy cs ds h.1 k)

  -- the generation of what is taken rises to a word
  taken_low : (o : Option ℕ) → free A ≡ o → (entry_at A (unwrap_or o (length A))).generation + 1 < 2 ^ 32
  taken_low None e = (let null : (entry_at A (length A)).generation ≡ 0 = ap (λ (x : Entry). x.generation)
      (get_or_past A (length A) null_entry (omega arith)) in omega arith)
  taken_low (Some i) e =
      let can = (free_is A i e).1 in
      let parts = and_parts _ (nat_lt (entry_at A i).generation (2 ^ 32 - 1)) can in
      let low : (entry_at A i).generation < 2 ^ 32 - 1 = ltb-true (entry_at A i).generation (2 ^ 32 - 1) parts.1 in
      omega arith

  adds_wordy : (d : ℕ) (name : List ℕ) (new : Object) →
      ((n : ℕ) → AttrWordy (attr_of (record { generation = n; object = new }))) → Wordys (adds A d name t new)
  adds_wordy d name new w =
      let i = unwrap_or (free A) (length A) in
      let e = entry_at A i in (
        names_wordy (placed (row_to name i (e.generation + 1))) t (entry_at A d) now (all d),
        (wordy_by (made new e) (taken_low (free A) refl) (w (e.generation + 1)), tt),
      )

  moves_wordy : (d : ℕ) (name : List ℕ) (e : ℕ) (row : NameRow) → Wordys (rows_move A d name e row t)
  moves_wordy d name e row = go (d == e)
    where
      go : (b : Bool) → Wordys
          (if b then to_be d (with_names (λ rows. placed row (without row.name (without name rows))) t (entry_at A d))
          ∷ []
          else to_be d (with_names (without name) t (entry_at A d))
          ∷ to_be e (with_names (λ (rows : List NameRow). placed row (without row.name rows)) t (entry_at A e))
          ∷ [])
      go true = (
        names_wordy (λ rows. placed row (without row.name (without name rows))) t (entry_at A d) now (all d),
        tt,
      )
      go false = (
        names_wordy (without name) t (entry_at A d) now (all d),
        (names_wordy (λ (rows : List NameRow). placed row (without row.name rows)) t (entry_at A e) now (all e), tt),
      )

  -- every call
  changes_wordy : (call : Call) → call_fields_fit call ≡ true → Wordys (changes A cred t call)
  changes_wordy null h = tt
  changes_wordy root h = tt
  changes_wordy write_cache h = tt
  changes_wordy (get_attr node) h = tt
  changes_wordy (set_attr node sattr) h = (go (is_some sattr.size), tt)
    where
      i : ℕ
      i = at A node

      go : (b : Bool) → IsWordy
          (if b then record {
            generation = (entry_at A (at A node)).generation;
            object = File (set_attr_of sattr t (attr_of (entry_at A (at A node))))
                (resized (unwrap_or sattr.size 0) (bytes_of (entry_at A (at A node))));
          }
          else with_attr (set_attr_of sattr t (attr_of (entry_at A (at A node)))) (entry_at A (at A node)))
      go true = wordy_by _ (all (at A node)).generation
          (set_wordy sattr t (attr_of (entry_at A (at A node))) now h
          (attr_in (entry_at A (at A node)) (all (at A node))))
      go false = with_attr_wordy (set_attr_of sattr t (attr_of (entry_at A (at A node)))) (entry_at A (at A node))
          (all (at A node))
          (set_wordy sattr t (attr_of (entry_at A (at A node))) now h
          (attr_in (entry_at A (at A node)) (all (at A node))))
  changes_wordy (lookup dir name) h = tt
  changes_wordy (read_link node) h = tt
  changes_wordy (read file offset count) h = tt
  changes_wordy (write file offset bytes) h =
      (bytes_wordy (written offset bytes) t (entry_at A (at A file)) now (all (at A file)), tt)
  changes_wordy (create dir name sattr) h = go (has_name A (at A dir) name) (is_some sattr.size)
    where
      go : (b c : Bool) → Wordys
          (if b then (if c then to_be (target A (at A dir) name)
          (with_bytes (resized (unwrap_or sattr.size 0)) t (entry_at A (target A (at A dir) name))) ∷ [] else [])
          else adds A (at A dir) name t (File (new_attr 420 cred t sattr) (replicate (unwrap_or sattr.size 0) 0)))
      go true true = (
        bytes_wordy (resized (unwrap_or sattr.size 0)) t (entry_at A (target A (at A dir) name)) now
            (all (target A (at A dir) name)),
        tt,
      )
      go true false = tt
      go false c = adds_wordy (at A dir) name (File (new_attr 420 cred t sattr) (replicate (unwrap_or sattr.size 0) 0))
          (λ n. new_wordy 420 cred t sattr u g now h)
  changes_wordy (remove dir name) h = (
    names_wordy (without name) t (entry_at A (at A dir)) now (all (at A dir)),
    (unlinked_wordy (target A (at A dir) name), tt),
  )
  changes_wordy (rename from name to to_name) h = go (has_name A (at A to) to_name)
      (target A (at A from) name == target A (at A to) to_name)
    where
      go : (b s : Bool) → Wordys (if b && s then [] else
          (rows_move A (at A from) name (at A to)
          (row_to to_name (target A (at A from) name) (entry_at A (target A (at A from) name)).generation) t
          ++ (if b then to_be (target A (at A to) to_name) (unlinked A (target A (at A to) to_name) t) ∷ [] else [])))
      go true true = tt
      go true false = both_wordy _ _
          (moves_wordy (at A from) name (at A to)
          (row_to to_name (target A (at A from) name) (entry_at A (target A (at A from) name)).generation))
          (unlinked_wordy (target A (at A to) to_name), tt)
      go false s = both_wordy _ _
          (moves_wordy (at A from) name (at A to)
          (row_to to_name (target A (at A from) name) (entry_at A (target A (at A from) name)).generation)) tt
  changes_wordy (link node dir name) h = (
    names_wordy (placed (row_to name (at A node) (entry_at A (at A node)).generation)) t (entry_at A (at A dir)) now
        (all (at A dir)),
    (
      with_attr_wordy (changed_at t (attr_of (entry_at A (at A node)))) (entry_at A (at A node)) (all (at A node))
          (changed_at_wordy t (attr_of (entry_at A (at A node))) now
          (attr_in (entry_at A (at A node)) (all (at A node)))),
      tt,
    ),
  )
  changes_wordy (symlink dir name text sattr) h = adds_wordy (at A dir) name (Link (new_attr 511 cred t sattr) text)
      (λ n. new_wordy 511 cred t sattr u g now h)
  changes_wordy (make_dir dir name sattr) h = adds_wordy (at A dir) name (Dir (new_attr 493 cred t sattr) [])
      (λ n. new_wordy 493 cred t sattr u g now h)
  changes_wordy (remove_dir dir name) h = (
    names_wordy (without name) t (entry_at A (at A dir)) now (all (at A dir)),
    (nulled_wordy (entry_at A (target A (at A dir) name)) (all (target A (at A dir) name)), tt),
  )
  changes_wordy (read_dir dir cookie count) h = tt
  changes_wordy (stat_fs node) h = tt

  changed_wordy : (cs : List Change) (B : List Entry) → Wordys cs → AllWordy B → AllWordy (changed cs B)
  changed_wordy [] B h k = k
  changed_wordy (c ∷ cs) B h k = changed_wordy cs (set B c.index c.entry) h.1
      (λ i. at_set IsWordy B c.index i c.entry h.0 (k i))

  pub after_wordy : (call : Call) → call_fields_fit call ≡ true → AllWordy (array_after A limits cred t call)
  unfolding array_after effect
  after_wordy call h = go (first_of (refusals A limits call))
    where
      go : (o : Option Stat) → AllWordy (changed (if is_some o then [] else changes A cred t call) A)
      go (Some s) = all
      go None = changed_wordy (changes A cred t call) A (changes_wordy call h) all

pub empty_wordy : (n : ℕ) → AllWordy (empty_array n)
empty_wordy n zero = wordy_by empty_root (omega arith) zero_wordy'
  where
    zero_wordy' : AttrWordy (attr_of empty_root)
    zero_wordy' = record {
      uid = omega arith;
      gid = omega arith;
      atime = omega arith;
      mtime = omega arith;
      ctime = omega arith;
    }
empty_wordy n (suc i) = nulls (n - 1) i
  where
    nulls : (m i : ℕ) → IsWordy (get_or (replicate m null_entry) i null_entry)
    nulls zero i = null_wordy
    nulls (suc m) zero = null_wordy
    nulls (suc m) (suc i) = nulls m i
