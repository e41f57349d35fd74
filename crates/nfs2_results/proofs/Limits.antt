-- A result that is spelled with some limit of entries is spelled with as many as it has bytes.
use Rattle.std.proofs.Common.{◌≡◌, ℕ, zero, suc, ◌+◌, ◌≤◌, Bool, true, false, cond, List, [], ◌∷◌, ◌++◌, length, Some}
use Rattle.std.proofs.Common.{Result, Ok, Err, refl, sym, ap, subst, ◌∙◌, append_assoc, length-append, arith}
use Rattle.std.specs.Prelude.{◌==◌, ◌||◌}
use Rattle.std.proofs.lemmas.Bool.{eqb-true}
use Rattle.nfs2_types.specs.declared.results.ListEntry.{ListEntry}
use Rattle.nfs2_types.specs.declared.results.NfsResult.{NfsResult}
use Rattle.nfs2_types.specs.declared.results.NfsResult.TheVariants.{Nothing, Refused, Entries, Done}
use Rattle.xdr_core.specs.declared.error.XdrErr.{XdrErr}
use Rattle.xdr_core.specs.Items.{boolean, spell, spell_word}
use Rattle.xdr_core.specs.Grammar.{Grammar, gives, item, Spells, and_then, reads_all, IsFirstWrong}
use Rattle.xdr_core.proofs.ItemLaws.{IsBytes}
use Rattle.xdr_core.proofs.Formats.{is_reading, spells_after, no_prefix as no_prefix_of}
use Rattle.nfs2_results.specs.declared.error.ResErr.{ResErr}
use Rattle.nfs2_results.specs.declared.error.ResErr.TheVariants.{Xdr, NoMemory}
use Rattle.nfs2_results.specs.Reading.{GivesWhole, SpellsResult, IsResultOf}
use Rattle.nfs2_results.specs.Forms.{entry_form, entries_form, attr_arm, node_arm, path_arm, content_arm, entries_arm}
use Rattle.nfs2_results.specs.Forms.{space_arm, arm_form, status_form, result_form}

-- ---- one format behind another, taken apart

pub record Split {A B : Type 0} (g : Grammar A) (f : A → Grammar B) (value : B) (text : List ℕ) : Type 0 where
  pub first : A
  pub front : List ℕ
  pub behind : List ℕ
  pub parts : text ≡ front ++ behind
  pub one : Spells g first front
  pub two : Spells (f first) value behind

pub spells_split : {A B : Type 0} (g : Grammar A) (f : A → Grammar B) (value : B) (text : List ℕ)
    → Spells (and_then g f) value text → Split g f value text
spells_split (gives a) f value text s = record {
  first = a;
  front = [];
  behind = text;
  parts = refl;
  one = (refl, refl);
  two = s;
}
spells_split (item i next) f value text s =
    let r = spells_split (next s.0) f value s.1 s.4 in
    record {
      first = r.first;
      front = spell i s.0 ++ r.front;
      behind = r.behind;
      parts = s.3 ∙ ap (λ (t : List ℕ). spell i s.0 ++ t) r.parts ∙ sym (append_assoc (spell i s.0) r.front r.behind);
      one = (s.0, r.front, s.2, refl, r.one);
      two = r.two;
    }

-- ---- entries

length-spell_word : (n : ℕ) → length (spell_word n) ≡ 4
unfolding spell_word
length-spell_word n = refl

-- a word stands before, so there are bytes
word_before : (n : ℕ) (text more : List ℕ) → text ≡ spell_word n ++ more → 4 + length more ≡ length text
word_before n text more e = omega (arith, ap length e, length-append (spell_word n) more, length-spell_word n)

abbrev IsRaised : ℕ → ℕ → Type 0
IsRaised n m = (before value : List ListEntry) (text : List ℕ) → Spells (entries_form n before) value text
    → length text ≤ m → Spells (entries_form m before) value text

abbrev behind_bool : ℕ → List ListEntry → Bool → Grammar (List ListEntry)
behind_bool limit before more = cond more (and_then entry_form (λ e. entries_form limit (before ++ e ∷ [])))
    (gives before)

raise_behind : (n m : ℕ) → IsRaised n m → (before value : List ListEntry) (more : Bool) (text : List ℕ)
    → Spells (behind_bool n before more) value text → length text ≤ m → Spells (behind_bool m before more) value text
raise_behind n m raised before value false text s le = s
raise_behind n m raised before value true text s le =
    let r = spells_split entry_form (λ e. entries_form n (before ++ e ∷ [])) value text s in
    let le_behind : length r.behind ≤ m = omega (arith, ap length r.parts, length-append r.front r.behind, le) in
    subst (λ (t : List ℕ). Spells (behind_bool m before true) value t) (sym r.parts)
    (spells_after entry_form (λ e. entries_form m (before ++ e ∷ [])) r.first value r.front r.behind r.one
    (raised (before ++ r.first ∷ []) value r.behind r.two le_behind))

-- the end of a list, whatever the limit
end_raised : (m : ℕ) (before value : List ListEntry) (n : ℕ) (text more : List ℕ) → (n == 0) ≡ true
    → text ≡ spell_word n ++ more → value ≡ before → more ≡ [] → length text ≤ m
    → Spells (entries_form m before) value text
unfolding entries_form
end_raised zero before value n text more e parts same none le =
    absurd (omega (arith, le, word_before n text more parts))
end_raised (suc m) before value n text more e parts same none le =
    (false, more, tt, parts ∙ ap (λ (k : ℕ). spell_word k ++ more) (eqb-true n 0 e), (same, none))

raise : (n m : ℕ) (before value : List ListEntry) (text : List ℕ) → Spells (entries_form n before) value text
    → length text ≤ m → Spells (entries_form m before) value text
unfolding entries_form
raise zero m before value text s le = end_raised m before value s.0 text s.1 s.2.1 s.3 s.4.0 s.4.1 le
raise (suc n) zero before value text s le = absurd (omega (arith, le, word_before (cond s.0 1 0) text s.1 s.3))
raise (suc n) (suc m) before value text s le = (
  s.0,
  s.1,
  s.2,
  s.3,
  raise_behind n m (λ b v t. raise n m b v t) before value s.0 s.1 s.4
      (omega (arith, le, word_before (cond s.0 1 0) text s.1 s.3)),
)

-- ---- arms and results

listing_raised : (n m : ℕ) (value : NfsResult) (text : List ℕ) → Spells (entries_arm n) value text → length text ≤ m
    → Spells (entries_arm m) value text
unfolding entries_arm
listing_raised n m value text s le =
    let f = λ (entries : List ListEntry). item boolean λ eof. gives (Entries entries eof) in
    let r = spells_split (entries_form n []) f value text s in
    let le_front : length r.front ≤ m = omega (arith, ap length r.parts, length-append r.front r.behind, le) in
    subst (λ (t : List ℕ). Spells (and_then (entries_form m []) f) value t) (sym r.parts)
    (spells_after (entries_form m []) f r.first value r.front r.behind
    (raise n m [] r.first r.front r.one le_front) r.two)

raised_else : {A : Type 0} (b : Bool) (g h k : Grammar A) (value : A) (text : List ℕ)
    → (Spells h value text → Spells k value text) → Spells (cond b g h) value text → Spells (cond b g k) value text
raised_else true g h k value text f s = s
raised_else false g h k value text f s = f s

raised_then : {A : Type 0} (b : Bool) (g h k : Grammar A) (value : A) (text : List ℕ)
    → (Spells g value text → Spells h value text) → Spells (cond b g k) value text → Spells (cond b h k) value text
raised_then true g h k value text f s = f s
raised_then false g h k value text f s = s

abbrev after_content : ℕ → ℕ → Grammar NfsResult
after_content limit proc = cond (proc == 16) (entries_arm limit) (cond (proc == 17) space_arm (gives Done))

abbrev after_path : ℕ → ℕ → Grammar NfsResult
after_path limit proc = cond (proc == 6) content_arm (after_content limit proc)

abbrev after_node : ℕ → ℕ → Grammar NfsResult
after_node limit proc = cond (proc == 5) path_arm (after_path limit proc)

abbrev after_attr : ℕ → ℕ → Grammar NfsResult
after_attr limit proc = cond (proc == 4 || proc == 9 || proc == 14) node_arm (after_node limit proc)

arm_raised : (n m proc : ℕ) (value : NfsResult) (text : List ℕ) → length text ≤ m
    → Spells (arm_form n proc) value text → Spells (arm_form m proc) value text
arm_raised n m proc value text le =
    raised_else (proc == 1 || proc == 2 || proc == 8) attr_arm (after_attr n proc) (after_attr m proc) value text
    (raised_else (proc == 4 || proc == 9 || proc == 14) node_arm (after_node n proc) (after_node m proc) value text
    (raised_else (proc == 5) path_arm (after_path n proc) (after_path m proc) value text
    (raised_else (proc == 6) content_arm (after_content n proc) (after_content m proc) value text
    (raised_then (proc == 16) (entries_arm n) (entries_arm m) (cond (proc == 17) space_arm (gives Done)) value text
    (λ s. listing_raised n m value text s le)))))

status_raised : (g h : Grammar NfsResult) (value : NfsResult) (text : List ℕ)
    → ((more : List ℕ) → length more ≤ length text → Spells g value more → Spells h value more)
    → Spells (status_form g) value text → Spells (status_form h) value text
unfolding status_form
status_raised g h value text f s =
    let le : length s.1 ≤ length text = omega (arith, word_before s.0 text s.1 s.3) in
    (s.0, s.1, s.2, s.3, raised_then (s.0 == 0) g h (gives (Refused (record { 0 = s.0 }))) value s.1 (f s.1 le) s.4)

pub raised_result : (m proc : ℕ) (value : NfsResult) (text : List ℕ) → length text ≤ m → SpellsResult proc value text
    → Spells (result_form m proc) value text
raised_result m proc value text fits s =
    raised_else (proc == 0 || proc == 3 || proc == 7) (gives Nothing) (status_form (arm_form s.0 proc))
    (status_form (arm_form m proc)) value text
    (status_raised (arm_form s.0 proc) (arm_form m proc) value text
    (λ more le. arm_raised s.0 m proc value more (omega (arith, le, fits)))) s.1

pub no_prefix : (proc : ℕ) (a b : NfsResult) (text more : List ℕ) → SpellsResult proc a text
    → SpellsResult proc b (text ++ more) → (more ≡ []) × (a ≡ b)
no_prefix proc a b text more s t =
    let m = length (text ++ more) in
    no_prefix_of (result_form m proc) a b text more
    (raised_result m proc a text (omega (arith, length-append text more)) s)
    (raised_result m proc b (text ++ more) (omega arith) t)

-- ---- all of the bytes

abbrev same : NfsResult → NfsResult
same r = r

pub is_result : (proc : ℕ) (bytes : List ℕ) (r : Result NfsResult ResErr) → IsBytes bytes
    → GivesWhole r (reads_all (result_form (length bytes) proc) bytes) → IsResultOf proc bytes r
is_result proc bytes (Ok x) fits e =
    let s = is_reading same (result_form (length bytes) proc) bytes (Ok x) fits e in
    record {
      found = (length bytes, s.found);
      only = λ value t. s.only value
          (raised_result (length bytes) proc value bytes (omega arith) t);
      wrong = λ d is. absurd cc;
    }
is_result proc bytes (Err (Xdr d)) fits e =
    let s = is_reading same (result_form (length bytes) proc) bytes (Err d) fits e in
    record {
      found = tt;
      only = λ value t. s.only value (raised_result (length bytes) proc value bytes (omega arith) t);
      wrong = λ k is. let one : d ≡ k = cc in subst (λ (v : XdrErr). IsFirstWrong
          (result_form (length bytes) proc) bytes (record { at = v.at; why = Some v.kind })) one s.wrong;
    }
is_result proc bytes (Err NoMemory) fits e = record { found = tt; only = λ value t. tt; wrong = λ d is. absurd cc }
