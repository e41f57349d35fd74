-- generations never fall, and a handle that went stale stays stale
use Rattle.std.proofs.Common.{◌≡◌, ℕ, List, [], ◌∷◌, ◌++◌, Bool, true, false, not, ◌&&◌, refl, sym, ◌∙◌, subst, arith, inl, inr, Option, Some, None, get_or-set_other, set, replicate}
use Rattle.std.specs.Prelude.{◌==◌, is_none, is_some, unwrap_or, option_and_then, nat_le, if◌then◌else◌}
use Rattle.std.proofs.lemmas.Bool.{true≢false, false≢true, not-false, not-true, not_from_false, and_parts, and_from, cases_eq, cases_Bool, eqb-true, eq-eqb}
use Rattle.nfs2_types.specs.declared.Limits.{Limits}
use Rattle.nfs2_types.specs.declared.Time.{Time}
use Rattle.nfs2_types.specs.declared.Cred.{Cred}
use Rattle.nfs2_types.specs.declared.Stat.{Stat}
use Rattle.nfs2_types.specs.declared.Oid.{Oid}
use Rattle.nfs2_types.specs.Bytes.{resized}
use Rattle.nfs2_types.specs.Handle.{oid_in}
use Rattle.nfs2_types.specs.Call.{Call, null, root, write_cache, get_attr, set_attr, lookup, read_link, read, write, create, remove, rename, link, symlink, make_dir, remove_dir, read_dir, stat_fs}
use Rattle.abs_model.specs.declared.entry.Attr.{Attr}
use Rattle.abs_model.specs.declared.entry.NameRow.{NameRow}
use Rattle.abs_model.specs.declared.entry.Entry.{Entry}
use Rattle.abs_model.specs.declared.entry.Change.{Change}
use Rattle.abs_model.specs.declared.entry.Object.{Object}
use Rattle.abs_model.specs.declared.entry.Object.TheVariants.{Null, File, Dir, Link}
use Rattle.abs_model.specs.Numbers.{new_file_mode}
use Rattle.abs_model.specs.Objects.{is_null, is_file, is_dir, attr_of, with_attr, nulled, new_attr, set_attr_of, changed_at}
use Rattle.abs_model.specs.Array.{entry_at, null_entry, changed, links, at, live, target, has_name, is_named_by}
use Rattle.abs_model.specs.Machine.{first_of, refusals, changes, adds, rows_move, row_to, with_bytes, made, to_be, unlinked, is_stale, array_after, effect}
use Rattle.abs_model.specs.Histories.{GoesOn, Request, after_all}
use Rattle.abs_model.proofs.Shapes.{at_set}
use Rattle.abs_model.proofs.Facts.{none_holds, dir_is}
use Rattle.abs_model.proofs.Law.{file_facts}
use Rattle.abs_model.proofs.Passed.{Passed, passed}

-- ENTRIES

goes_itself : (e : Entry) → GoesOn e e
goes_itself e = record { never_falls = omega arith; rises = λ none live. absurd (true≢false (sym none ∙ live)) }

goes_twice : (a b c : Entry) → GoesOn a b → GoesOn b c → GoesOn a c
goes_twice a b c ab bc =
    let one = ab.never_falls in
    let two = bc.never_falls in
    record {
      never_falls = omega arith;
      rises = λ none live. elim (cases_Bool (is_null b)) [
        | inl gone ↦ let up = bc.rises gone live in omega arith
        | inr there ↦ let up = ab.rises none there in omega arith
      ];
    }

-- an object that is changed
goes_live : (old new : Entry) → is_null old ≡ false → new.generation ≡ old.generation → GoesOn old new
goes_live old new live same = record { never_falls = omega arith; rises = λ none _. absurd (true≢false (sym none ∙ live)) }

goes_dir : (old new : Entry) → is_dir old ≡ true → new.generation ≡ old.generation → GoesOn old new
goes_dir old new dir same = goes_live old new (dir_is old dir).null same

-- an object that goes
goes_away : (e : Entry) → GoesOn e (nulled e)
goes_away e = record { never_falls = omega arith; rises = λ _ live. absurd (true≢false live) }

-- what has other attributes is of the same kind
goes_attr : (a : Attr) (e : Entry) → GoesOn e (with_attr a e)
goes_attr a e = go e.object
  where
    go : (o : Object) → GoesOn (record { generation = e.generation; object = o }) (with_attr a (record { generation = e.generation; object = o }))
    go Null = record { never_falls = omega arith; rises = λ _ live. absurd (true≢false live) }
    go (File attr bytes) = record { never_falls = omega arith; rises = λ none _. absurd (false≢true none) }
    go (Dir attr names) = record { never_falls = omega arith; rises = λ none _. absurd (false≢true none) }
    go (Link attr text) = record { never_falls = omega arith; rises = λ none _. absurd (false≢true none) }

goes_unlinked : (A : List Entry) (i : ℕ) (t : Time) → GoesOn (entry_at A i) (unlinked A i t)
goes_unlinked A i t = go (nat_le (links A i) 1)
  where
    go : (b : Bool) → GoesOn (entry_at A i) (if b then nulled (entry_at A i) else with_attr (changed_at t (attr_of (entry_at A i))) (entry_at A i))
    go true = goes_away (entry_at A i)
    go false = goes_attr (changed_at t (attr_of (entry_at A i))) (entry_at A i)

-- an object that comes
goes_made : (new : Object) (e : Entry) → GoesOn e (made new e)
goes_made new e = record { never_falls = omega arith; rises = λ _ _. omega arith }

-- CHANGES

abbrev AllGoOn : List Entry → List Change → Type 0
AllGoOn A [] = Unit {0}
AllGoOn A (c ∷ cs) = GoesOn (entry_at A c.index) c.entry × AllGoOn A cs

both_go : (A : List Entry) (cs ds : List Change) → AllGoOn A cs → AllGoOn A ds → AllGoOn A (cs ++ ds)
both_go A [] ds h k = k
both_go A (c ∷ cs) ds h k = (h.0, both_go A cs ds h.1 k)

goes_changed : (A B : List Entry) (cs : List Change) → AllGoOn A cs → ((j : ℕ) → GoesOn (entry_at A j) (entry_at B j)) →
    (j : ℕ) → GoesOn (entry_at A j) (entry_at (changed cs B) j)
goes_changed A B [] all before j = before j
goes_changed A B (c ∷ cs) all before j = goes_changed A (set B c.index c.entry) cs all.1 put j
  where
    put : (j : ℕ) → GoesOn (entry_at A j) (entry_at (set B c.index c.entry) j)
    put j = elim (cases_eq j c.index) [
      | inl same ↦ at_set (λ (e : Entry). GoesOn (entry_at A j) e) B c.index j c.entry (subst (λ (x : ℕ). GoesOn (entry_at A x) c.entry) (sym same) all.0) (before j)
      | inr other ↦ subst (λ (e : Entry). GoesOn (entry_at A j) e) (sym (get_or-set_other B c.index j c.entry null_entry other)) (before j)
    ]

-- EVERY CALL

adds_go : (A : List Entry) (d : ℕ) (name : List ℕ) (t : Time) (new : Object) → is_dir (entry_at A d) ≡ true → AllGoOn A (adds A d name t new)
adds_go A d name t new dir = (goes_dir (entry_at A d) _ dir refl, (goes_made new _, tt))

moves_go : (A : List Entry) (d : ℕ) (name : List ℕ) (e : ℕ) (row : NameRow) (t : Time) → is_dir (entry_at A d) ≡ true → is_dir (entry_at A e) ≡ true →
    AllGoOn A (rows_move A d name e row t)
moves_go A d name e row t d_dir e_dir =
    go (d == e) _ _ _ (goes_dir (entry_at A d) _ d_dir refl) (goes_dir (entry_at A d) _ d_dir refl) (goes_dir (entry_at A e) _ e_dir refl)
  where
    go : (b : Bool) (x y z : Entry) → GoesOn (entry_at A d) x → GoesOn (entry_at A d) y → GoesOn (entry_at A e) z →
        AllGoOn A (if b then to_be d x ∷ [] else to_be d y ∷ to_be e z ∷ [])
    go true x y z one two three = (one, tt)
    go false x y z one two three = (two, (three, tt))

goes : (A : List Entry) (limits : Limits) (cred : Cred) (t : Time) (call : Call) → Passed A limits call → AllGoOn A (changes A cred t call)
goes A limits cred t null p = tt
goes A limits cred t root p = tt
goes A limits cred t write_cache p = tt
goes A limits cred t (get_attr node) p = tt
goes A limits cred t (set_attr node sattr) p = (go (is_some sattr.size) _, tt)
  where
    go : (b : Bool) (bytes : List ℕ) → GoesOn (entry_at A (at A node)) (if b
        then record { generation = (entry_at A (at A node)).generation; object = File (set_attr_of sattr t (attr_of (entry_at A (at A node)))) bytes }
        else with_attr (set_attr_of sattr t (attr_of (entry_at A (at A node)))) (entry_at A (at A node)))
    go true bytes = goes_live (entry_at A (at A node)) _ p.live.live refl
    go false bytes = goes_attr _ (entry_at A (at A node))
goes A limits cred t (lookup dir name) p = tt
goes A limits cred t (read_link node) p = tt
goes A limits cred t (read file offset count) p = tt
goes A limits cred t (write file offset bytes) p = (goes_live (entry_at A (at A file)) _ p.0.live.live refl, tt)
goes A limits cred t (create dir name sattr) p = go (has_name A (at A dir) name) sattr.size p.file
  where
    go : (b : Bool) (size : Option ℕ) → (b && not (is_file (entry_at A (target A (at A dir) name)))) ≡ false →
        AllGoOn A (if b then
        (if is_some size then to_be (target A (at A dir) name) (with_bytes (resized (unwrap_or size 0)) t (entry_at A (target A (at A dir) name))) ∷ [] else [])
        else adds A (at A dir) name t (File (new_attr new_file_mode cred t sattr) (replicate (unwrap_or size 0) 0)))
    go true None file = tt
    go true (Some n) file =
        let e = entry_at A (target A (at A dir) name) in
        (goes_live e _ (file_facts e (not-false (is_file e) file)).null refl, tt)
    go false size file = adds_go A (at A dir) name t _ p.in_dir.kind
goes A limits cred t (remove dir name) p =
    (goes_dir (entry_at A (at A dir)) _ p.0.in_dir.kind refl, (goes_unlinked A (target A (at A dir) name) t, tt))
goes A limits cred t (rename from name to to_name) p =
    go (has_name A (at A to) to_name) (target A (at A from) name == target A (at A to) to_name)
  where
    go : (b s : Bool) → AllGoOn A (if b && s then [] else
        (rows_move A (at A from) name (at A to) (row_to to_name (target A (at A from) name) (entry_at A (target A (at A from) name)).generation) t
        ++ (if b then to_be (target A (at A to) to_name) (unlinked A (target A (at A to) to_name) t) ∷ [] else [])))
    go true true = tt
    go true false = both_go A _ _ (moves_go A (at A from) name (at A to) _ t p.from_dir p.to_dir) (goes_unlinked A (target A (at A to) to_name) t, tt)
    go false s = both_go A _ _ (moves_go A (at A from) name (at A to) _ t p.from_dir p.to_dir) tt
goes A limits cred t (link node dir name) p =
    (goes_dir (entry_at A (at A dir)) _ p.in_dir.kind refl, (goes_attr _ (entry_at A (at A node)), tt))
goes A limits cred t (symlink dir name text sattr) p = adds_go A (at A dir) name t _ p.in_dir.kind
goes A limits cred t (make_dir dir name sattr) p = adds_go A (at A dir) name t _ p.in_dir.kind
goes A limits cred t (remove_dir dir name) p =
    (goes_dir (entry_at A (at A dir)) _ p.0.in_dir.kind refl, (goes_away (entry_at A (target A (at A dir) name)), tt))
goes A limits cred t (read_dir dir cookie count) p = tt
goes A limits cred t (stat_fs node) p = tt

pub goes_on : (limits : Limits) (A : List Entry) (cred : Cred) (t : Time) (call : Call) (i : ℕ) →
    GoesOn (entry_at A i) (entry_at (array_after A limits cred t call) i)
unfolding array_after effect
goes_on limits A cred t call i = go (first_of (refusals A limits call)) refl
  where
    go : (o : Option Stat) → first_of (refusals A limits call) ≡ o →
        GoesOn (entry_at A i) (entry_at (changed (if is_some o then [] else changes A cred t call) A) i)
    go (Some s) e = goes_itself (entry_at A i)
    go None e = goes_changed A A (changes A cred t call)
        (goes A limits cred t call (passed A limits call (none_holds (refusals A limits call) e))) (λ j. goes_itself (entry_at A j)) i

-- HANDLES

goes_far : (limits : Limits) (rs : List Request) (A : List Entry) (i : ℕ) → GoesOn (entry_at A i) (entry_at (after_all limits rs A) i)
goes_far limits [] A i = goes_itself (entry_at A i)
goes_far limits (r ∷ rs) A i =
    let B = array_after A limits r.cred r.time r.call in
    goes_twice (entry_at A i) (entry_at B i) (entry_at (after_all limits rs B) i) (goes_on limits A r.cred r.time r.call i) (goes_far limits rs B i)

-- what was named, and no more, is never named again
not_again : (g : ℕ) (a b c : Entry) → GoesOn a b → GoesOn b c → is_named_by g a ≡ true → is_named_by g b ≡ false → is_named_by g c ≡ false
not_again g a b c ab bc was gone = elim (cases_Bool (is_named_by g c)) [
  | inr out ↦ out
  | inl named ↦
      let old = and_parts (not (is_null a)) (a.generation == g) was in
      let new = and_parts (not (is_null c)) (c.generation == g) named in
      let first = eqb-true a.generation g old.1 in
      let last = eqb-true c.generation g new.1 in
      let one = ab.never_falls in
      let two = bc.never_falls in
      elim (cases_Bool (is_null b)) [
        | inl free ↦ let up = bc.rises free (not-true (is_null c) new.0) in absurd (omega arith)
        | inr there ↦
            let same : b.generation ≡ g = omega arith in
            absurd (true≢false (sym (and_from (not (is_null b)) _ (not_from_false (is_null b) there) (eq-eqb b.generation g same)) ∙ gone))
      ]
]

stale_is : (A : List Entry) (o : Oid) → is_none (if is_named_by o.generation (entry_at A o.index) then Some o.index else None) ≡ not (is_named_by o.generation (entry_at A o.index))
stale_is A o = go (is_named_by o.generation (entry_at A o.index))
  where
    go : (b : Bool) → is_none (if b then Some o.index else None) ≡ not b
    go true = refl
    go false = refl

pub stays_stale : (limits : Limits) (A : List Entry) (first later : List Request) (h : List ℕ) →
    is_stale A h ≡ false → is_stale (after_all limits first A) h ≡ true → is_stale (after_all limits later (after_all limits first A)) h ≡ true
stays_stale limits A first later h fresh gone = go (oid_in h) fresh gone
  where
    B : List Entry
    B = after_all limits first A

    C : List Entry
    C = after_all limits later B

    found : List Entry → Option Oid → Bool
    found X o = is_none (option_and_then (λ o. if is_named_by o.generation (entry_at X o.index) then Some o.index else None) o)

    go : (o : Option Oid) → found A o ≡ false → found B o ≡ true → found C o ≡ true
    go None f g = g
    go (Some o) f g = stale_is C o ∙ not_from_false (is_named_by o.generation (entry_at C o.index))
        (not_again o.generation (entry_at A o.index) (entry_at B o.index) (entry_at C o.index) (goes_far limits first A o.index) (goes_far limits later B o.index)
        (not-false (is_named_by o.generation (entry_at A o.index)) (sym (stale_is A o) ∙ f))
        (not-true (is_named_by o.generation (entry_at B o.index)) (sym (stale_is B o) ∙ g)))
