-- Reading a status and its arm, and what all of the bytes spell.
use Rattle.std.proofs.Common.{◌≡◌, ℕ, ◌≤◌, Bool, true, false, cond, List, [], length, Result, Ok, Err, refl, sym, ap}
use Rattle.std.proofs.Common.{◌∙◌}
use Rattle.std.specs.Prelude.{◌==◌, ◌||◌}
use Rattle.nfs2_types.specs.declared.results.ListEntry.{ListEntry}
use Rattle.nfs2_types.specs.declared.results.NfsResult.{NfsResult}
use Rattle.nfs2_types.specs.declared.results.NfsResult.TheVariants.{Refused, Entries, Done}
use Rattle.xdr_core.specs.Items.{any_word, boolean}
use Rattle.xdr_core.specs.Grammar.{Cursor, Stop, Grammar, gives, item, item_at, ◌>>=◌, reads}
use Rattle.xdr_core.proofs.Sequence.{reads_then}
use Rattle.nfs2_results.specs.Forms.{entries_form, attr_arm, node_arm, path_arm, content_arm, entries_arm, space_arm}
use Rattle.nfs2_results.specs.Forms.{arm_form, status_form, result_form}
use Rattle.nfs2_results.proofs.EntryReads.{enough, item_shorter}

-- ---- a status and its arm

abbrev behind_status : Grammar NfsResult → ℕ × Cursor → Result (NfsResult × Cursor) Stop
behind_status arm x = reads (cond (x.0 == 0) arm (gives (Refused (record { 0 = x.0 })))) x.1

pub status_stops : (arm : Grammar NfsResult) (c : Cursor) (stop : Stop) → item_at any_word c ≡ Err stop
    → reads (status_form arm) c ≡ Err stop
unfolding status_form
status_stops arm c stop is = ap (λ r. r >>= behind_status arm) is

pub status_refused : (arm : Grammar NfsResult) (c : Cursor) (n : ℕ) (d : Cursor) → item_at any_word c ≡ Ok (n, d)
    → (n == 0) ≡ false → reads (status_form arm) c ≡ Ok (Refused (record { 0 = n }), d)
unfolding status_form
status_refused arm c n d is e = ap (λ r. r >>= behind_status arm) is
    ∙ ap (λ (b : Bool). reads (cond b arm (gives (Refused (record { 0 = n })))) d) e

pub status_arm : (arm : Grammar NfsResult) (c : Cursor) (n : ℕ) (d : Cursor) → item_at any_word c ≡ Ok (n, d)
    → (n == 0) ≡ true → reads (status_form arm) c ≡ reads arm d
unfolding status_form
status_arm arm c n d is e = ap (λ r. r >>= behind_status arm) is
    ∙ ap (λ (b : Bool). reads (cond b arm (gives (Refused (record { 0 = n })))) d) e

pub has_status : (limit proc : ℕ) → (proc == 0 || proc == 3 || proc == 7) ≡ false
    → result_form limit proc ≡ status_form (arm_form limit proc)
has_status limit proc e = rw e refl

-- ---- the limit of entries

both : {A : Type 0} (b : Bool) (g h k : Grammar A) (c : Cursor) → reads h c ≡ reads k c
    → reads (cond b g h) c ≡ reads (cond b g k) c
both true g h k c e = refl
both false g h k c e = e

first_same : {A : Type 0} (b : Bool) (g h k : Grammar A) (c : Cursor) → reads g c ≡ reads h c
    → reads (cond b g k) c ≡ reads (cond b h k) c
first_same true g h k c e = e
first_same false g h k c e = refl

listing_enough : (n m : ℕ) (c : Cursor) → length c.rest ≤ n → length c.rest ≤ m
    → reads (entries_arm n) c ≡ reads (entries_arm m) c
unfolding entries_arm
listing_enough n m c p q =
    let f = λ (entries : List ListEntry). item boolean λ eof. gives (Entries entries eof) in
    reads_then (entries_form n []) f c ∙ ap (λ r. r >>= λ y. reads (f y.0) y.1) (enough n m [] c p q)
    ∙ sym (reads_then (entries_form m []) f c)

pub arm_enough : (n m proc : ℕ) (c : Cursor) → length c.rest ≤ n → length c.rest ≤ m
    → reads (arm_form n proc) c ≡ reads (arm_form m proc) c
arm_enough n m proc c p q =
    both (proc == 1 || proc == 2 || proc == 8) attr_arm _ _ c
    (both (proc == 4 || proc == 9 || proc == 14) node_arm _ _ c
    (both (proc == 5) path_arm _ _ c
    (both (proc == 6) content_arm _ _ c
    (first_same (proc == 16) (entries_arm n) (entries_arm m) (cond (proc == 17) space_arm (gives Done)) c
    (listing_enough n m c p q)))))

pub word_shorter : (c : Cursor) (n : ℕ) (d : Cursor) → item_at any_word c ≡ Ok (n, d) → length d.rest ≤ length c.rest
word_shorter c n d is = item_shorter any_word c (n, d) is
