-- What is written is a spelling of the result.
use Rattle.std.proofs.Common.{◌≡◌, ◌≢◌, ℕ, suc, ◌+◌, ◌^◌, ◌<◌, ◌≤◌, Bool, true, false, List, [], ◌∷◌, ◌++◌, length}
use Rattle.std.proofs.Common.{get_or, All, Contains, inl, inr, refl, sym, ap, subst, ◌∙◌, append_assoc, arith, Result}
use Rattle.std.proofs.Common.{Ok, Err, OnOk, OnErr}
use Rattle.std.specs.Prelude.{◌==◌, ◌||◌}
use Rattle.std.proofs.lemmas.List.{append-nil, get_or_default}
use Rattle.std.proofs.lemmas.Bool.{cases_lt}
use Rattle.std.proofs.lemmas.List.Elements.{All-nil, All-cons, All-contains}
use Rattle.nfs2_types.specs.declared.fattr.Fattr.{Fattr}
use Rattle.nfs2_types.specs.declared.stat.Stat.{Stat}
use Rattle.nfs2_types.specs.declared.results.ListEntry.{ListEntry}
use Rattle.nfs2_types.specs.declared.results.NfsResult.{NfsResult}
use Rattle.nfs2_types.specs.declared.results.NfsResult.TheVariants.{Nothing, Refused, Done, Attr, Node, Path, Content}
use Rattle.nfs2_types.specs.declared.results.NfsResult.TheVariants.{Entries, Space}
use Rattle.xdr_core.specs.Items.{AreWords, spell_word, spell_words, spell_bool, spell_fixed, spell_opaque, any_opaque}
use Rattle.xdr_core.specs.Items.{boolean}
use Rattle.xdr_core.specs.Items.{any_word}
use Rattle.xdr_core.specs.Grammar.{Grammar, gives, item, and_then, Spells}
use Rattle.xdr_core.proofs.Formats.{spells_after}
use Rattle.xdr_core.proofs.Spelled.{IsSpelled, before}
use Rattle.nfs2_results.specs.Forms.{fattr_form, entry_form, entries_form, attr_arm, node_arm, path_arm, content_arm}
use Rattle.nfs2_results.specs.Forms.{entries_arm, space_arm, arm_form, status_form, procedures}
use Rattle.nfs2_results.specs.Reading.{SpellsResult}
use Rattle.nfs2_results.proofs.ResultReads.{has_status}
use Rattle.nfs2_results.specs.Spelling.{fattr_words, fattr_text, entries_text, result_text, HasSpelling}
use Rattle.nfs2_results.specs.Spelling.{IsEntrySpelled, AreSpelled}

-- ---- parts

-- what holds anyway
pub on_ok : {T E : Type 0} (r : Result T E) (P : Type 0) → P → OnOk r P
on_ok (Ok x) P p = p
on_ok (Err e) P p = tt

pub on_err : {T E : Type 0} (r : Result T E) (P : Type 0) → P → OnErr r P
on_err (Ok x) P p = tt
on_err (Err e) P p = p

pub fattr_spelled : (a : Fattr) → AreWords (fattr_words a) → Spells fattr_form a (fattr_text a)
unfolding fattr_form fattr_text
fattr_spelled a fit =
    let s : IsSpelled fattr_form a (fattr_text a)
    = before any_word _ a.ftype a _ (fit 0, refl)
    (before any_word _ a.mode a _ (fit 1, refl)
    (before any_word _ a.nlink a _ (fit 2, refl)
    (before any_word _ a.uid a _ (fit 3, refl)
    (before any_word _ a.gid a _ (fit 4, refl)
    (before any_word _ a.size a _ (fit 5, refl)
    (before any_word _ a.blocksize a _ (fit 6, refl)
    (before any_word _ a.rdev a _ (fit 7, refl)
    (before any_word _ a.blocks a _ (fit 8, refl)
    (before any_word _ a.fsid a _ (fit 9, refl)
    (before any_word _ a.fileid a _ (fit 10, refl)
    (before any_word _ a.atime_secs a _ (fit 11, refl)
    (before any_word _ a.atime_micros a _ (fit 12, refl)
    (before any_word _ a.mtime_secs a _ (fit 13, refl)
    (before any_word _ a.mtime_micros a _ (fit 14, refl)
    (before any_word _ a.ctime_secs a _ (fit 15, refl)
    (before any_word _ a.ctime_micros a _ (fit 16, refl)
    (record { spells = (refl, refl) }))))))))))))))))) in
    s.spells

pub entry_spelled : (e : ListEntry) → e.fileid < 2 ^ 32 → length e.name ≤ 255 → e.cookie < 2 ^ 32 → IsEntrySpelled e
unfolding entry_form
entry_spelled e fileid name cookie = (
  e.fileid,
  _,
  (fileid, refl),
  refl,
  (
    e.name,
    _,
    (omega (arith, name), name, refl),
    refl,
    (e.cookie, [], (cookie, refl), sym (append-nil (spell_word e.cookie)), (refl, refl)),
  ),
)

-- one entry more
pub one_more : (es : List ListEntry) (i : ℕ) (e : ListEntry) → i < length es → e ≡ get_or es i e → IsEntrySpelled e
    → ((k : ℕ) (d : ListEntry) → k < i → IsEntrySpelled (get_or es k d)) → (k : ℕ) (d : ListEntry) → k < i + 1
    → IsEntrySpelled (get_or es k d)
one_more es i e lt is spelled below k d in_range =
    elim (cases_lt k i) [
      | inl before ↦ below k d before
      | inr after ↦
          let here : k ≡ i = omega (arith, after, in_range) in
          let same : e ≡ get_or es k d = is ∙ get_or_default es i e d lt ∙ ap (λ (j : ℕ). get_or es j d) (sym here) in
          subst IsEntrySpelled same spelled
    ]

-- entries behind these
entries_spelled : (es before : List ListEntry) → All IsEntrySpelled es
    → Spells (entries_form (length es) before) (before ++ es) (entries_text es)
unfolding entries_form
entries_spelled [] before all = (0, [], (omega arith, refl), sym (append-nil (spell_word 0)), (append-nil before, refl))
entries_spelled (e ∷ es) before all =
    let body = spell_word e.fileid ++ (spell_opaque e.name ++ spell_word e.cookie) in
    let whole : (before ++ e ∷ []) ++ es ≡ before ++ e ∷ es = append_assoc before (e ∷ []) es in
    let s = subst (λ (v : List ListEntry). Spells (entries_form (length es) (before ++ e ∷ [])) v
    (entries_text es)) whole (entries_spelled es (before ++ e ∷ []) (λ k d lt. all (suc k) d (omega (arith, lt)))) in (
      true,
      body ++ entries_text es,
      tt,
      append_assoc (spell_bool true) body (entries_text es),
      spells_after entry_form (λ d. entries_form (length es) (before ++ d ∷ [])) e (before ++ e ∷ es) body
          (entries_text es) (all 0 e (omega arith)) s,
    )

-- ---- arms

-- a status of 0, and the arm
with_status : (arm : Grammar NfsResult) (r : NfsResult) (text : List ℕ) → Spells arm r text
    → Spells (status_form arm) r (spell_word 0 ++ text)
unfolding status_form
with_status arm r text s = (0, text, (omega arith, refl), refl, s)

-- a status alone
refused : (arm : Grammar NfsResult) (stat : Stat) → stat.0 ≢ 0 → stat.0 < 2 ^ 32
    → Spells (status_form arm) (Refused stat) (spell_word stat.0)
unfolding status_form
refused arm stat bad fits =
    let no : (stat.0 == 0) ≡ false = grind (arith, bad) in
    (stat.0, [], (fits, refl), sym (append-nil (spell_word stat.0)), rw no (refl, refl))

done : Spells (status_form (gives Done)) Done (spell_word 0)
done = subst (λ (t : List ℕ). Spells (status_form (gives Done)) Done t) (append-nil (spell_word 0))
    (with_status (gives Done) Done [] (refl, refl))

attr_spelled : (a : Fattr) → Spells fattr_form a (fattr_text a) → Spells attr_arm (Attr a) (fattr_text a)
unfolding attr_arm
attr_spelled a s = subst (λ (t : List ℕ). Spells (and_then fattr_form (λ b. gives (Attr b))) (Attr a) t)
    (append-nil (fattr_text a)) (spells_after fattr_form (λ b. gives (Attr b)) a (Attr a) (fattr_text a) [] s (
      refl,
      refl,
    ))

node_spelled : (handle : List ℕ) (a : Fattr) → length handle ≡ 32 → Spells fattr_form a (fattr_text a)
    → Spells node_arm (Node handle a) (spell_fixed handle ++ fattr_text a)
unfolding node_arm
node_spelled handle a len s = (
  handle,
  fattr_text a,
  len,
  refl,
  subst (λ (t : List ℕ). Spells
      (and_then fattr_form (λ b. gives (Node handle b))) (Node handle a) t) (append-nil (fattr_text a))
      (spells_after fattr_form (λ b. gives (Node handle b)) a (Node handle a) (fattr_text a) [] s (refl, refl)),
)

path_spelled : (text : List ℕ) → length text ≤ 1024 → Spells path_arm (Path text) (spell_opaque text)
unfolding path_arm
path_spelled text le = (text, [], (omega (arith, le), le, refl), sym (append-nil (spell_opaque text)), (refl, refl))

content_spelled : (a : Fattr) (bytes : List ℕ) → length bytes ≤ 8192 → Spells fattr_form a (fattr_text a)
    → Spells content_arm (Content a bytes) (fattr_text a ++ spell_opaque bytes)
unfolding content_arm
content_spelled a bytes le s =
    spells_after fattr_form (λ b. item (any_opaque 8192) λ piece. gives (Content b piece)) a (Content a bytes)
    (fattr_text a) (spell_opaque bytes) s
    (bytes, [], (omega (arith, le), le, refl), sym (append-nil (spell_opaque bytes)), (refl, refl))

listing_spelled : (entries : List ListEntry) (eof : Bool) → All IsEntrySpelled entries
    → Spells (entries_arm (length entries)) (Entries entries eof) (entries_text entries ++ spell_bool eof)
unfolding entries_arm
listing_spelled entries eof all =
    spells_after (entries_form (length entries) []) (λ es. item boolean λ last. gives (Entries es last)) entries
    (Entries entries eof) (entries_text entries) (spell_bool eof)
    (entries_spelled entries [] all) (eof, [], tt, sym (append-nil (spell_bool eof)), (refl, refl))

space_spelled : (tsize bsize blocks bfree bavail : ℕ) → AreWords (0 ∷ tsize ∷ bsize ∷ blocks ∷ bfree ∷ bavail ∷ [])
    → Spells space_arm (Space tsize bsize blocks bfree bavail)
    (spell_words (tsize ∷ bsize ∷ blocks ∷ bfree ∷ bavail ∷ []))
unfolding space_arm
space_spelled tsize bsize blocks bfree bavail fit =
    let r = Space tsize bsize blocks bfree bavail in
    let s : IsSpelled space_arm r (spell_words (tsize ∷ bsize ∷ blocks ∷ bfree ∷ bavail ∷ []))
    = before any_word _ tsize r _ (fit 1, refl)
    (before any_word _ bsize r _ (fit 2, refl)
    (before any_word _ blocks r _ (fit 3, refl)
    (before any_word _ bfree r _ (fit 4, refl)
    (before any_word _ bavail r _ (fit 5, refl) (record { spells = (refl, refl) }))))) in
    s.spells

-- ---- results

abbrev EachOf : (ℕ → Type 0) → List ℕ → Type 0
EachOf P [] = Unit {0}
EachOf P (n ∷ ns) = P n × EachOf P ns

all_of : (P : ℕ → Type 0) (ns : List ℕ) → EachOf P ns → All P ns
all_of P [] e = All-nil P
all_of P (n ∷ ns) e = All-cons P n ns e.0 (all_of P ns e.1)

each : (P : ℕ → Type 0) (ns : List ℕ) (n : ℕ) → EachOf P ns → Contains ns n → P n
each P ns n e is_in = All-contains P ns n (all_of P ns e) is_in

-- the text spells the result, for each procedure of the shape
abbrev IsAgain : NfsResult → ℕ → Type 0
IsAgain r proc = SpellsResult proc r (result_text r)

-- a refusal is spelled for each procedure that has a result
refused_again : (stat : Stat) → stat.0 ≢ 0 → stat.0 < 2 ^ 32 → (proc : ℕ)
    → (proc == 0 || proc == 3 || proc == 7) ≡ false → SpellsResult proc (Refused stat) (spell_word stat.0)
refused_again stat bad fits proc has = (0, rw (has_status 0 proc has) (refused (arm_form 0 proc) stat bad fits))

abbrev HasResult : ℕ → Type 0
HasResult proc = (proc == 0 || proc == 3 || proc == 7) ≡ false

have_results : EachOf HasResult (procedures (Refused (record { 0 = 0 })))
have_results = (
  refl,
  (
    refl,
    (
      refl,
      (
        refl,
        (
          refl,
          (
            refl,
            (
              refl,
              (
                refl,
                (
                  refl,
                  (refl, (refl, (refl, (refl, (refl, (refl, tt)))))),
                ),
              ),
            ),
          ),
        ),
      ),
    ),
  ),
)

pub result_again : (r : NfsResult) → HasSpelling r → AreSpelled r → (proc : ℕ) → Contains (procedures r) proc
    → SpellsResult proc r (result_text r)
result_again Nothing has are proc shape =
    each (IsAgain Nothing) (procedures Nothing) proc (
      (0, (refl, refl)),
      ((0, (refl, refl)), ((0, (refl, refl)), tt)),
    ) shape
result_again (Refused stat) has are proc shape =
    refused_again stat has are proc (each HasResult (procedures (Refused stat)) proc have_results shape)
result_again Done has are proc shape =
    each (IsAgain Done) (procedures Done) proc ((0, done), ((0, done), ((0, done), ((0, done), ((0, done), tt))))) shape
result_again (Attr a) has are proc shape =
    let r = (Attr a) in
    let s = with_status attr_arm r (fattr_text a) (attr_spelled a are) in
    each (IsAgain r) (procedures r) proc ((0, s), ((0, s), ((0, s), tt))) shape
result_again (Node handle a) has are proc shape =
    let r = (Node handle a) in
    let s = with_status node_arm r (spell_fixed handle ++ fattr_text a) (node_spelled handle a are.0 are.1) in
    each (IsAgain r) (procedures r) proc ((0, s), ((0, s), ((0, s), tt))) shape
result_again (Path text) has are proc shape =
    let r = (Path text) in
    let s = with_status path_arm r (spell_opaque text) (path_spelled text has) in
    each (IsAgain r) (procedures r) proc ((0, s), tt) shape
result_again (Content a bytes) has are proc shape =
    let r = (Content a bytes) in
    let s = with_status content_arm r (fattr_text a ++ spell_opaque bytes) (content_spelled a bytes has are) in
    each (IsAgain r) (procedures r) proc ((0, s), tt) shape
result_again (Entries entries eof) has are proc shape =
    let r = (Entries entries eof) in
    let s = with_status (entries_arm (length entries)) r (entries_text entries ++ spell_bool eof)
    (listing_spelled entries eof are) in
    each (IsAgain r) (procedures r) proc (((length entries, s), tt)) shape
result_again (Space tsize bsize blocks bfree bavail) has are proc shape =
    let r = (Space tsize bsize blocks bfree bavail) in
    let s = with_status space_arm r (spell_words (tsize ∷ bsize ∷ blocks ∷ bfree ∷ bavail ∷ []))
    (space_spelled tsize bsize blocks bfree bavail are) in
    each (IsAgain r) (procedures r) proc ((0, s), tt) shape

pub again_on_ok : {T E : Type 0} (o : Result T E) (r : NfsResult) → HasSpelling r → OnOk o (AreSpelled r)
    → OnOk o ((proc : ℕ) → Contains (procedures r) proc → SpellsResult proc r (result_text r))
again_on_ok (Ok x) r has are = result_again r has are
again_on_ok (Err e) r has are = tt
