-- no index is told twice
use Rattle.std.proofs.Common.{◌≡◌, ◌≢◌, ℕ, List, [], ◌∷◌, ◌++◌, Bool, true, false, not, ◌&&◌, map, length, refl, sym, ◌∙◌, ap, arith, inl, inr, Option, Some, None, replicate}
use Rattle.std.specs.Prelude.{◌==◌, is_some, unwrap_or, nat_lt, AllPairs, if◌then◌else◌}
use Rattle.std.proofs.lemmas.Bool.{true≢false, and_parts, and_from, not_from_false, cases_Bool, eqb-false, ltb-false, cond-false}
use Rattle.std.proofs.lemmas.List.{nil_from_length}
use Rattle.std.proofs.lemmas.List.Elements.{All-nil, All-cons}
use Rattle.std.proofs.lemmas.List.Kept.{AllPairs-cons}
use Rattle.nfs2_types.specs.declared.Limits.{Limits}
use Rattle.nfs2_types.specs.declared.Time.{Time}
use Rattle.nfs2_types.specs.declared.Cred.{Cred}
use Rattle.nfs2_types.specs.declared.Stat.{Stat}
use Rattle.nfs2_types.specs.Bytes.{resized}
use Rattle.nfs2_types.specs.Call.{Call, null, root, write_cache, get_attr, set_attr, lookup, read_link, read, write, create, remove, rename, link, symlink, make_dir, remove_dir, read_dir, stat_fs}
use Rattle.abs_model.specs.declared.entry.Entry.{Entry}
use Rattle.abs_model.specs.declared.entry.Change.{Change}
use Rattle.abs_model.specs.declared.entry.Object.TheVariants.{File}
use Rattle.abs_model.specs.Numbers.{new_file_mode}
use Rattle.abs_model.specs.Objects.{is_null, is_dir, names_of, new_attr, row_of}
use Rattle.abs_model.specs.Array.{entry_at, free, at, target, has_name}
use Rattle.abs_model.specs.Machine.{first_of, refusals, changes, adds, with_bytes, to_be, unlinked, no_new, told, effect}
use Rattle.abs_model.proofs.Facts.{none_holds, dir_is}
use Rattle.abs_model.proofs.Kept.{free_is}
use Rattle.abs_model.proofs.Law.{new_is, not_and}
use Rattle.abs_model.proofs.Passed.{Passed, passed, over}

-- LISTS WITHOUT DOUBLES

abbrev Once : List ℕ → Type 0
Once is = AllPairs (λ (i j : ℕ). i ≢ j) is

none : Once []
none i j d before within = absurd (omega (arith, within))

one : (i : ℕ) → Once (i ∷ [])
one i = AllPairs-cons (λ (i j : ℕ). i ≢ j) i [] (All-nil (λ (j : ℕ). i ≢ j)) none

two : (i j : ℕ) → i ≢ j → Once (i ∷ j ∷ [])
two i j ne = AllPairs-cons (λ (i j : ℕ). i ≢ j) i (j ∷ []) (All-cons (λ (j : ℕ). i ≢ j) j [] ne (All-nil (λ (j : ℕ). i ≢ j))) (one j)

three : (i j k : ℕ) → i ≢ j → i ≢ k → j ≢ k → Once (i ∷ j ∷ k ∷ [])
three i j k ij ik jk = AllPairs-cons (λ (i j : ℕ). i ≢ j) i (j ∷ k ∷ [])
    (All-cons (λ (j : ℕ). i ≢ j) j (k ∷ []) ij (All-cons (λ (j : ℕ). i ≢ j) k [] ik (All-nil (λ (j : ℕ). i ≢ j)))) (two j k jk)

-- INDEXES THAT DIFFER

-- one is a directory, the other none
kinds_apart : (A : List Entry) (d i : ℕ) → is_dir (entry_at A d) ≡ true → is_dir (entry_at A i) ≡ false → d ≢ i
kinds_apart A d i dir other same = true≢false (sym dir ∙ (ap (λ (x : ℕ). is_dir (entry_at A x)) same ∙ other))

-- one has a name, the other none
names_apart : (A : List Entry) (d i : ℕ) (name : List ℕ) → has_name A d name ≡ true → nat_lt 0 (length (names_of (entry_at A i))) ≡ false → d ≢ i
names_apart A d i name has few same =
    let short = ltb-false 0 (length (names_of (entry_at A i))) few in
    let empty : names_of (entry_at A i) ≡ [] = nil_from_length (names_of (entry_at A i)) (omega arith) in
    let here : names_of (entry_at A d) ≡ [] = ap (λ (x : ℕ). names_of (entry_at A x)) same ∙ empty in
    true≢false (sym has ∙ ap (λ rows. is_some (row_of name rows)) here)

-- one is a directory, the other free
free_apart : (A : List Entry) (limits : Limits) (bytes d : ℕ) → is_dir (entry_at A d) ≡ true → no_new A limits bytes ≡ false → d ≢ unwrap_or (free A) (length A)
free_apart A limits bytes d dir room same =
    let new = new_is A limits bytes room in
    let here : d ≡ new.index = same ∙ ap (λ (o : Option ℕ). unwrap_or o (length A)) new.free_at in
    let null = (and_parts (is_null (entry_at A new.index)) _ (free_is A new.index new.free_at).1).0 in
    true≢false (sym null ∙ (ap (λ (x : ℕ). is_null (entry_at A x)) (sym here) ∙ (dir_is (entry_at A d) dir).null))

-- EVERY CALL

abbrev indexes : List Change → List ℕ
indexes cs = map (λ (c : Change). c.index) cs

once : (A : List Entry) (limits : Limits) (cred : Cred) (t : Time) (call : Call) → Passed A limits call → Once (indexes (changes A cred t call))
once A limits cred t null p = none
once A limits cred t root p = none
once A limits cred t write_cache p = none
once A limits cred t (get_attr node) p = none
once A limits cred t (set_attr node sattr) p = one (at A node)
once A limits cred t (lookup dir name) p = none
once A limits cred t (read_link node) p = none
once A limits cred t (read file offset count) p = none
once A limits cred t (write file offset bytes) p = one (at A file)
once A limits cred t (create dir name sattr) p = go (has_name A (at A dir) name) refl sattr.size
  where
    go : (b : Bool) → has_name A (at A dir) name ≡ b → (size : Option ℕ) → Once (indexes (if b then
        (if is_some size then to_be (target A (at A dir) name) (with_bytes (resized (unwrap_or size 0)) t (entry_at A (target A (at A dir) name))) ∷ [] else [])
        else adds A (at A dir) name t (File (new_attr new_file_mode cred t sattr) (replicate (unwrap_or size 0) 0))))
    go true has None = none
    go true has (Some n) = one (target A (at A dir) name)
    go false absent size = two (at A dir) _ (free_apart A limits (unwrap_or sattr.size 0) (at A dir) p.in_dir.kind
        (sym (cond-false (has_name A (at A dir) name) _ (no_new A limits (unwrap_or sattr.size 0)) absent) ∙ p.room))
once A limits cred t (remove dir name) p = two (at A dir) _ (kinds_apart A (at A dir) (target A (at A dir) name) p.0.in_dir.kind p.1)
once A limits cred t (rename from name to to_name) p =
    go (has_name A (at A to) to_name) (target A (at A from) name == target A (at A to) to_name) (at A from == at A to) _ _ _ refl refl refl
  where
    d : ℕ
    d = at A from

    e : ℕ
    e = at A to

    i : ℕ
    i = target A d name

    j : ℕ
    j = target A e to_name

    replaced_apart : (x : ℕ) (known : List ℕ) → is_dir (entry_at A x) ≡ true → has_name A x known ≡ true → over A from name to to_name ≡ true → x ≢ j
    replaced_apart x known dir has replaces = elim (cases_Bool (is_dir (entry_at A i))) [
      | inl moved ↦ names_apart A x j known has (not_and (is_dir (entry_at A i)) _ moved (not_and _ _ replaces p.over_names))
      | inr other ↦ kinds_apart A x j dir (not_and (not (is_dir (entry_at A i))) (is_dir (entry_at A j)) (not_from_false (is_dir (entry_at A i)) other) (not_and _ _ replaces p.over_dir))
    ]

    replaces : has_name A e to_name ≡ true → (i == j) ≡ false → over A from name to to_name ≡ true
    replaces has differs = and_from (has_name A e to_name) _ has (not_from_false (i == j) differs)

    go : (h s q : Bool) (x y z : Entry) → has_name A e to_name ≡ h → (i == j) ≡ s → (d == e) ≡ q → Once (indexes (if h && s then [] else
        ((if q then to_be d x ∷ [] else to_be d y ∷ to_be e z ∷ []) ++ (if h then to_be j (unlinked A j t) ∷ [] else []))))
    go true true q x y z has same which = none
    go true false true x y z has differs which = two d j (replaced_apart d name p.from_dir p.has (replaces has differs))
    go true false false x y z has differs which = three d e j (eqb-false d e which)
        (replaced_apart d name p.from_dir p.has (replaces has differs)) (replaced_apart e to_name p.to_dir has (replaces has differs))
    go false s true x y z absent same which = one d
    go false s false x y z absent same which = two d e (eqb-false d e which)
once A limits cred t (link node dir name) p = two (at A dir) _ (kinds_apart A (at A dir) (at A node) p.in_dir.kind p.no_dir)
once A limits cred t (symlink dir name text sattr) p = two (at A dir) _ (free_apart A limits (length text) (at A dir) p.in_dir.kind p.room)
once A limits cred t (make_dir dir name sattr) p = two (at A dir) _ (free_apart A limits 0 (at A dir) p.in_dir.kind p.room)
once A limits cred t (remove_dir dir name) p = two (at A dir) _ (names_apart A (at A dir) (target A (at A dir) name) name p.0.has p.2)
once A limits cred t (read_dir dir cookie count) p = none
once A limits cred t (stat_fs node) p = none

pub told_is_once : (limits : Limits) (A : List Entry) (cred : Cred) (t : Time) (call : Call) → Once (told A limits cred t call)
unfolding told effect
told_is_once limits A cred t call = go (first_of (refusals A limits call)) refl
  where
    go : (o : Option Stat) → first_of (refusals A limits call) ≡ o → Once (indexes (if is_some o then [] else changes A cred t call))
    go (Some s) is = none
    go None is = once A limits cred t call (passed A limits call (none_holds (refusals A limits call) is))
