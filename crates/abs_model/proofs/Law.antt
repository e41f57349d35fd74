-- the machine keeps valid arrays valid: every call
use Rattle.std.proofs.Common.{◌≡◌, ◌≢◌, ℕ, zero, suc, ◌+◌, ◌-◌, ◌<◌, ◌≤◌, max, List, [], ◌∷◌, ◌++◌, Bool, true, false, not, ◌&&◌, length, set, take, drop, replicate, refl, sym, ◌∙◌, ap, subst, arith, inl, inr, Option, Some, None, length-append, length-take, length-drop}
use Rattle.std.proofs.lemmas.List.{length-replicate, nil_from_length}
use Rattle.std.specs.Prelude.{◌==◌, is_none, is_some, unwrap_or, nat_lt, nat_le, if◌then◌else◌}
use Rattle.std.proofs.lemmas.Bool.{false≢true, true≢false, and_parts, and_from, ltb-false, leb-true, le-leb, not_from_false, cases_Bool, eqb-false, not-false, or_parts, cond-false, cond-true, lt-ltb}
use Rattle.nfs2_types.specs.declared.Limits.{Limits}
use Rattle.nfs2_types.specs.declared.Time.{Time}
use Rattle.nfs2_types.specs.declared.Cred.{Cred}
use Rattle.nfs2_types.specs.declared.Stat.{Stat}
use Rattle.nfs2_types.specs.Call.{Call, sattr_fits, call_fits, null, root, write_cache, get_attr, set_attr, lookup, read_link, read, write, create, remove, rename, link, symlink, make_dir, remove_dir, read_dir, stat_fs}
use Rattle.abs_model.specs.declared.entry.Attr.{Attr}
use Rattle.abs_model.specs.declared.entry.NameRow.{NameRow}
use Rattle.abs_model.specs.declared.entry.Entry.{Entry}
use Rattle.abs_model.specs.declared.entry.Object.{Object}
use Rattle.abs_model.specs.declared.entry.Object.TheVariants.{Null, File, Dir, Link}
use Rattle.abs_model.specs.Objects.{is_null, is_file, is_dir, is_link, names_of, bytes_of, attr_of, row_of, without, with_attr, new_attr, set_attr_of, written_at, written, nulled}
use Rattle.abs_model.specs.Array.{entry_at, changed, used, free, at, target, has_name}
use Rattle.abs_model.specs.Machine.{first_of, refusals, changes, made, with_bytes, with_names, adds, to_be, unlinked, no_room, no_new, array_after, effect}
use Rattle.abs_model.specs.Numbers.{file_limit, text_limit, new_file_mode, new_dir_mode, open_mode}
use Rattle.nfs2_types.specs.Bytes.{resized, overwritten}
use Rattle.nfs2_types.specs.Names.{is_bad, is_dot, is_name}
use Rattle.nfs2_types.specs.Times.{is_time}
use Rattle.abs_model.specs.Valid.{Walk, Valid, leads, most_bytes}
use Rattle.abs_model.proofs.Shapes.{IsAttr, valid_like, live_below, fits_parts, fits_from}
use Rattle.abs_model.proofs.AttrBounds.{attr_written, attr_new, attr_set}
use Rattle.abs_model.proofs.Facts.{AllFalse, none_holds, IsLiveAt, no_names, file_is, HasRow, row_is, no_row, found_passes, led_is}
use Rattle.abs_model.proofs.Passed.{Passed, passed}
use Rattle.abs_model.proofs.Climbs.{not_below}
use Rattle.abs_model.proofs.Moved.{Moves, renamed, comes, renamed_new, renamed_over}
use Rattle.abs_model.proofs.Kept.{adds_valid, unlinked_valid, dir_gone_valid, linked_valid, attr_valid}

-- SMALL FACTS

name_ok : (name : List ℕ) → is_bad name ≡ false → nat_le (length name) 255 ≡ true → is_dot name ≡ false → is_name name ≡ true
name_ok name bad short dot = and_from (not (is_bad name) && nat_le (length name) 255) _ (and_from (not (is_bad name)) _ (not_from_false (is_bad name) bad) short) (not_from_false (is_dot name) dot)

pub record HasNew (A : List Entry) (limits : Limits) (bytes : ℕ) : Type 0 where
  pub index : ℕ
  pub free_at : free A ≡ Some index
  pub room : used A + (512 + bytes) ≤ limits.t

pub new_is : (A : List Entry) (limits : Limits) (bytes : ℕ) → no_new A limits bytes ≡ false → HasNew A limits bytes
new_is A limits bytes h =
    let parts = or_parts (is_none (free A)) (no_room A limits 0 (512 + bytes)) h in
    let room = ltb-false limits.t (used A + (512 + bytes) - 0) parts.1 in
    go (free A) refl parts.0 (omega arith)
  where
    go : (o : Option ℕ) → free A ≡ o → is_none o ≡ false → used A + (512 + bytes) ≤ limits.t → HasNew A limits bytes
    go None e k room = absurd (true≢false k)
    go (Some i) e k room = record { index = i; free_at = e; room = room }

is_directory : (b : Bool) → not b ≡ false → b ≡ true
is_directory b h = not-false b h

-- FILES

pub record IsFile (e : Entry) : Type 0 where
  pub names : names_of e ≡ []
  pub dir : is_dir e ≡ false
  pub null : is_null e ≡ false

pub file_facts : (e : Entry) → is_file e ≡ true → IsFile e
file_facts e h = go e.object h
  where
    go : (o : Object) → is_file (record { generation = e.generation; object = o }) ≡ true → IsFile (record { generation = e.generation; object = o })
    go Null h = absurd (false≢true h)
    go (File attr bytes) h = record { names = refl; dir = refl; null = refl }
    go (Dir attr names) h = absurd (false≢true h)
    go (Link attr text) h = absurd (false≢true h)

file_valid : (limits : Limits) (A : List Entry) (i : ℕ) (a : Attr) (bytes : List ℕ) → Valid limits A → i < length A → is_file (entry_at A i) ≡ true →
    IsAttr a → length bytes ≤ file_limit → used A + length bytes ≤ limits.t + length (bytes_of (entry_at A i)) →
    Valid limits (set A i (record { generation = (entry_at A i).generation; object = File a bytes }))
file_valid limits A i a bytes valid below file ok short room =
    let e : Entry = record { generation = (entry_at A i).generation; object = File a bytes } in
    let facts = file_facts (entry_at A i) file in
    let rows = ap length facts.names in
    valid_like limits A i e valid below
    (record { generation = refl; names = sym facts.names; dir = sym facts.dir; null = sym facts.null })
    (fits_from e (record { attr = ok; rising = refl; named = refl; bytes = le-leb (length bytes) file_limit short }))
    (omega arith)

length-resized : (size : ℕ) (bytes : List ℕ) → length (resized size bytes) ≡ size
length-resized size bytes = omega (arith, length-append (take size bytes) (replicate (size - length bytes) 0), length-take size bytes, length-replicate {A = ℕ} (size - length bytes) 0)

length-written : (offset : ℕ) (piece bytes : List ℕ) → (length piece == 0) ≡ false → length (written offset piece bytes) ≡ max (length bytes) (offset + length piece)
length-written offset piece bytes some =
    let front = length-append (resized offset bytes) piece in
    let all = length-append (resized offset bytes ++ piece) (drop (offset + length piece) bytes) in
    let start = length-resized offset bytes in
    let rest = length-drop (offset + length piece) bytes in
    ap length (cond-false (length piece == 0) bytes (overwritten offset piece bytes) some) ∙ omega arith

pub not_and : (a b : Bool) → a ≡ true → (a && b) ≡ false → b ≡ false
not_and a b yes_a h = ap (λ (x : Bool). x && b) (sym yes_a) ∙ h

-- an empty directory has no row
some_row : (name : List ℕ) (r : NameRow) → row_of name [] ≡ Some r → ⊥
some_row name r e = cc

positive : (n : ℕ) → (n == 0) ≡ false → 0 < n
positive zero h = absurd (true≢false h)
positive (suc n) h = omega arith

file_short : (e : Entry) → is_file e ≡ true → nat_le (length (bytes_of e)) (most_bytes e) ≡ true → length (bytes_of e) ≤ file_limit
file_short e file h = go e.object file h
  where
    go : (o : Object) → is_file (record { generation = e.generation; object = o }) ≡ true →
        nat_le (length (bytes_of (record { generation = e.generation; object = o }))) (most_bytes (record { generation = e.generation; object = o })) ≡ true →
        length (bytes_of (record { generation = e.generation; object = o })) ≤ file_limit
    go Null k h = absurd (false≢true k)
    go (File attr bytes) k h = leb-true (length bytes) file_limit h
    go (Dir attr names) k h = absurd (false≢true k)
    go (Link attr text) k h = absurd (false≢true k)

-- EVERY CALL

keeps : (limits : Limits) (A : List Entry) (cred : Cred) (t : Time) (call : Call) → is_time t ≡ true → call_fits call ≡ true → Valid limits A →
    Passed A limits call → Valid limits (changed (changes A cred t call) A)
keeps limits A cred t null moment fits valid p = valid
keeps limits A cred t root moment fits valid p = valid
keeps limits A cred t write_cache moment fits valid p = valid
keeps limits A cred t (get_attr node) moment fits valid p = valid
keeps limits A cred t (set_attr node sattr) moment fits valid p =
    let i = at A node in
    let e = entry_at A i in
    let a = set_attr_of sattr t (attr_of e) in
    let live = p.live in
    let ok = attr_set sattr t (attr_of e) moment fits (fits_parts e (valid.fits i live.below)).attr in
    go sattr.size a live ok p.no_dir p.no_link p.small p.room
  where
    go : (size : Option ℕ) (a : Attr) → IsLiveAt A (at A node) → IsAttr a →
        (is_some size && is_dir (entry_at A (at A node))) ≡ false → (is_some size && is_link (entry_at A (at A node))) ≡ false →
        (is_some size && nat_lt file_limit (unwrap_or size 0)) ≡ false →
        (is_some size && no_room A limits (length (bytes_of (entry_at A (at A node)))) (unwrap_or size 0)) ≡ false →
        Valid limits (set A (at A node) (if is_some size then record { generation = (entry_at A (at A node)).generation; object = File a (resized (unwrap_or size 0) (bytes_of (entry_at A (at A node)))) }
        else with_attr a (entry_at A (at A node))))
    go None a live ok no_dir no_link big room = attr_valid limits A (at A node) a valid live.below ok
    go (Some n) a live ok no_dir no_link big room =
        let e = entry_at A (at A node) in
        let size = length-resized n (bytes_of e) in
        let small = ltb-false file_limit n big in
        let left = ltb-false limits.t (used A + n - length (bytes_of e)) room in
        file_valid limits A (at A node) a (resized n (bytes_of e)) valid live.below (file_is e live.live no_dir no_link) ok (omega arith) (omega arith)
keeps limits A cred t (lookup dir name) moment fits valid p = valid
keeps limits A cred t (read_link node) moment fits valid p = valid
keeps limits A cred t (read file offset count) moment fits valid p = valid
keeps limits A cred t (write file offset bytes) moment fits valid p =
    let i = at A file in
    let e = entry_at A i in
    let live = p.0.live in
    let own = fits_parts e (valid.fits i live.below) in
    let is_f = file_is e live.live p.0.no_dir p.0.no_link in
    let short = file_short e is_f own.bytes in
    elim (cases_Bool (length bytes == 0)) [
      | inl none ↦
          let same : written offset bytes (bytes_of e) ≡ bytes_of e = cond-true (length bytes == 0) (bytes_of e) _ none in
          let long = ap length same in
          let most = valid.room in
          file_valid limits A i (written_at t (attr_of e)) (written offset bytes (bytes_of e)) valid live.below is_f (attr_written t (attr_of e) moment own.attr) (omega arith) (omega arith)
      | inr some ↦
          let long = length-written offset bytes (bytes_of e) some in
          let more : nat_lt 0 (length bytes) ≡ true = lt-ltb 0 (length bytes) (positive (length bytes) some) in
          let small = ltb-false file_limit (offset + length bytes) (not_and (nat_lt 0 (length bytes)) _ more p.1) in
          let left = ltb-false limits.t (used A + max (length (bytes_of e)) (offset + length bytes) - length (bytes_of e)) (not_and (nat_lt 0 (length bytes)) _ more p.2) in
          file_valid limits A i (written_at t (attr_of e)) (written offset bytes (bytes_of e)) valid live.below is_f (attr_written t (attr_of e) moment own.attr) (omega arith) (omega arith)
    ]
keeps limits A cred t (create dir name sattr) moment fits valid p =
    go (has_name A (at A dir) name) refl sattr.size p.file p.small p.room
  where
    go : (b : Bool) → has_name A (at A dir) name ≡ b → (size : Option ℕ) → (b && not (is_file (entry_at A (target A (at A dir) name)))) ≡ false →
        nat_lt file_limit (unwrap_or size 0) ≡ false →
        (if b then is_some size && no_room A limits (length (bytes_of (entry_at A (target A (at A dir) name)))) (unwrap_or size 0) else no_new A limits (unwrap_or size 0)) ≡ false →
        Valid limits (changed (if b then
        (if is_some size then to_be (target A (at A dir) name) (with_bytes (resized (unwrap_or size 0)) t (entry_at A (target A (at A dir) name))) ∷ [] else [])
        else adds A (at A dir) name t (File (new_attr new_file_mode cred t sattr) (replicate (unwrap_or size 0) 0))) A)
    go true has None file big room = valid
    go true has (Some n) file big room =
        let i = target A (at A dir) name in
        let e = entry_at A i in
        let row = row_is A (at A dir) name has in
        let live_d = p.in_dir.live in
        let led = led_is A row.row (found_passes (leads A) name (names_of (entry_at A (at A dir))) row.row row.found (valid.lead (at A dir) live_d.below)) in
        let live : is_null e ≡ false = ap (λ (x : ℕ). is_null (entry_at A x)) row.leads_there ∙ led.live in
        let below = live_below A i live in
        let size = length-resized n (bytes_of e) in
        let small = ltb-false file_limit n big in
        let left = ltb-false limits.t (used A + n - length (bytes_of e)) room in
        file_valid limits A i (written_at t (attr_of e)) (resized n (bytes_of e)) valid below (not-false (is_file e) file) (attr_written t (attr_of e) moment (fits_parts e (valid.fits i below)).attr) (omega arith) (omega arith)
    go false has size file big room =
        let d = at A dir in
        let live = p.in_dir.live in
        let bounds = and_parts (nat_le (length name) 255) (sattr_fits sattr) fits in
        let n = unwrap_or size 0 in
        let new = new_is A limits n room in
        let long = length-replicate {A = ℕ} n 0 in
        let small = ltb-false file_limit n big in
        let left = new.room in
        adds_valid limits A d name t (File (new_attr new_file_mode cred t sattr) (replicate n 0)) new.index moment valid live.below p.in_dir.kind
        (name_ok name p.in_dir.good bounds.0 p.no_dot) (no_row name (names_of (entry_at A d)) has) new.free_at refl refl
        (fits_from (made (File (new_attr new_file_mode cred t sattr) (replicate n 0)) (entry_at A new.index))
        (record { attr = attr_new new_file_mode cred t sattr refl moment bounds.1; rising = refl; named = refl; bytes = le-leb (length (replicate n 0)) file_limit (omega arith) })) (omega arith)
keeps limits A cred t (remove dir name) moment fits valid p =
    let d = at A dir in
    let i = target A d name in
    let live = p.0.in_dir.live in
    let is_d = p.0.in_dir.kind in
    let row = row_is A d name p.0.has in
    let no_dir : is_dir (entry_at A row.row.index) ≡ false = ap (λ (x : ℕ). is_dir (entry_at A x)) (sym row.leads_there) ∙ p.1 in
    let apart : row.row.index ≢ d = λ same. true≢false (sym is_d ∙ subst (λ (x : ℕ). is_dir (entry_at A x) ≡ false) same no_dir) in
    subst (λ (x : ℕ). Valid limits (set (set A d (with_names (without name) t (entry_at A d))) x (unlinked A x t))) (sym row.leads_there)
    (unlinked_valid limits A d name t row.row moment valid live.below is_d row.found apart (no_names (entry_at A row.row.index) no_dir) (λ dir. absurd (true≢false (sym dir ∙ no_dir))))
keeps limits A cred t (rename from name to to_name) moment fits valid p =
    go (has_name A (at A to) to_name) (target A (at A from) name == target A (at A to) to_name) (at A from == at A to) refl refl refl
  where
    row_from : HasRow A (at A from) name
    row_from = row_is A (at A from) name p.has

    facts : (not (has_name A (at A to) to_name && (target A (at A from) name == target A (at A to) to_name)) ≡ true) → Moves limits A (at A from) (at A to) name to_name t row_from.row
    facts differs =
        let row = row_from in
        let live_d = p.from_live in
        let live_b = p.to_live in
        let b_dir = p.to_dir in
        let lengths = and_parts (nat_le (length name) 255) (nat_le (length to_name) 255) fits in
        record {
          moment = moment;
          valid = valid;
          d_below = live_d.below;
          b_below = live_b.below;
          d_dir = p.from_dir;
          b_dir = b_dir;
          found = row.found;
          is_ok = name_ok to_name p.to_good lengths.1 p.to_no_dot;
          apart = λ k w dir.
              let dir_moved : is_dir (entry_at A (target A (at A from) name)) ≡ true = ap (λ (x : ℕ). is_dir (entry_at A x)) row.leads_there ∙ dir in
              let stops = not_and (is_dir (entry_at A (target A (at A from) name))) _ dir_moved (not_and (not (has_name A (at A to) to_name && (target A (at A from) name == target A (at A to) to_name))) _ differs p.not_below) in
              not_below limits A (target A (at A from) name) (at A to) valid b_dir live_b.below stops k (subst (λ (x : ℕ). Walk A k x (at A to)) (sym row.leads_there) w);
        }

    new_it : (q : Bool) → has_name A (at A to) to_name ≡ false → (at A from == at A to) ≡ q →
        Valid limits (renamed q A (at A from) (at A to) name to_name t (target A (at A from) name) (entry_at A (target A (at A from) name)).generation)
    new_it q has which =
        subst (λ (x : ℕ). Valid limits (renamed q A (at A from) (at A to) name to_name t x (entry_at A x).generation)) (sym row_from.leads_there)
        (renamed_new limits A (at A from) (at A to) name to_name t row_from.row q which (facts (rw has refl)) (no_row to_name (names_of (entry_at A (at A to))) has))

    over_facts : (q : Bool) → has_name A (at A to) to_name ≡ true → (target A (at A from) name == target A (at A to) to_name) ≡ false → (at A from == at A to) ≡ q →
        Valid limits (set (renamed q A (at A from) (at A to) name to_name t (target A (at A from) name) (entry_at A (target A (at A from) name)).generation)
        (target A (at A to) to_name) (unlinked A (target A (at A to) to_name) t))
    over_facts q has differs which =
        let i = target A (at A from) name in
        let j = target A (at A to) to_name in
        let row = row_from in
        let row_to_go = row_is A (at A to) to_name has in
        let over : (has_name A (at A to) to_name && not (i == j)) ≡ true = and_from (has_name A (at A to) to_name) _ has (not_from_false (i == j) differs) in
        let no_names_j : names_of (entry_at A j) ≡ [] = elim (cases_Bool (is_dir (entry_at A i))) [
          | inl dir ↦
              let empty = ltb-false 0 (length (names_of (entry_at A j))) (not_and (is_dir (entry_at A i)) _ dir (not_and _ _ over p.over_names)) in
              nil_from_length (names_of (entry_at A j)) (omega arith)
          | inr other ↦ no_names (entry_at A j) (not_and (not (is_dir (entry_at A i))) (is_dir (entry_at A j)) (not_from_false (is_dir (entry_at A i)) other) (not_and _ _ over p.over_dir))
        ] in
        let apart : row_to_go.row.index ≢ row.row.index = λ same. eqb-false i j differs (row.leads_there ∙ (sym same ∙ sym row_to_go.leads_there)) in
        let none : names_of (entry_at A row_to_go.row.index) ≡ [] = ap (λ (x : ℕ). names_of (entry_at A x)) (sym row_to_go.leads_there) ∙ no_names_j in
        subst (λ (x : ℕ). Valid limits (set (renamed q A (at A from) (at A to) name to_name t x (entry_at A x).generation) j (unlinked A j t))) (sym row.leads_there)
        (subst (λ (x : ℕ). Valid limits (set (renamed q A (at A from) (at A to) name to_name t row.row.index (entry_at A row.row.index).generation) x (unlinked A x t))) (sym row_to_go.leads_there)
        (renamed_over limits A (at A from) (at A to) name to_name t row.row row_to_go.row q which
        (facts (rw (has, differs) refl)) row_to_go.found apart none))

    over_it : (q : Bool) → has_name A (at A to) to_name ≡ true → (target A (at A from) name == target A (at A to) to_name) ≡ false → (at A from == at A to) ≡ q →
        Valid limits (changed ((if q then to_be (at A from) (with_names (λ rows. comes to_name (target A (at A from) name) (entry_at A (target A (at A from) name)).generation (without name rows)) t (entry_at A (at A from))) ∷ []
        else to_be (at A from) (with_names (without name) t (entry_at A (at A from))) ∷
        to_be (at A to) (with_names (comes to_name (target A (at A from) name) (entry_at A (target A (at A from) name)).generation) t (entry_at A (at A to))) ∷ [])
        ++ (to_be (target A (at A to) to_name) (unlinked A (target A (at A to) to_name) t) ∷ [])) A)
    over_it true has differs which = over_facts true has differs which
    over_it false has differs which = over_facts false has differs which

    go : (h s q : Bool) → has_name A (at A to) to_name ≡ h → (target A (at A from) name == target A (at A to) to_name) ≡ s → (at A from == at A to) ≡ q →
        Valid limits (changed (if h && s then [] else
        ((if q then to_be (at A from) (with_names (λ rows. comes to_name (target A (at A from) name) (entry_at A (target A (at A from) name)).generation (without name rows)) t (entry_at A (at A from))) ∷ []
        else to_be (at A from) (with_names (without name) t (entry_at A (at A from))) ∷
        to_be (at A to) (with_names (comes to_name (target A (at A from) name) (entry_at A (target A (at A from) name)).generation) t (entry_at A (at A to))) ∷ [])
        ++ (if h then to_be (target A (at A to) to_name) (unlinked A (target A (at A to) to_name) t) ∷ [] else []))) A)
    go true true q has same which = valid
    go true false q has same which = over_it q has same which
    go false s true has same which = new_it true has which
    go false s false has same which = new_it false has which
keeps limits A cred t (link node dir name) moment fits valid p =
    let d = at A dir in
    let object = p.live in
    let live = p.in_dir.live in
    let room = ltb-false limits.t (used A + 512 - 0) p.room in
    linked_valid limits A d (at A node) name t moment valid live.below p.in_dir.kind object.live p.no_dir
    (name_ok name p.in_dir.good fits p.no_dot) (no_row name (names_of (entry_at A d)) p.absent) (omega arith)
keeps limits A cred t (symlink dir name text sattr) moment fits valid p =
    let d = at A dir in
    let live = p.in_dir.live in
    let bounds = and_parts (nat_le (length name) 255 && nat_le (length text) text_limit) (sattr_fits sattr) fits in
    let lengths = and_parts (nat_le (length name) 255) (nat_le (length text) text_limit) bounds.0 in
    let new = new_is A limits (length text) p.room in
    let left = new.room in
    adds_valid limits A d name t (Link (new_attr open_mode cred t sattr) text) new.index moment valid live.below p.in_dir.kind
    (name_ok name p.in_dir.good lengths.0 p.no_dot) (no_row name (names_of (entry_at A d)) p.absent) new.free_at refl refl
    (fits_from (made (Link (new_attr open_mode cred t sattr) text) (entry_at A new.index)) (record { attr = attr_new open_mode cred t sattr refl moment bounds.1; rising = refl; named = refl; bytes = lengths.1 })) (omega arith)
keeps limits A cred t (make_dir dir name sattr) moment fits valid p =
    let d = at A dir in
    let live = p.in_dir.live in
    let bounds = and_parts (nat_le (length name) 255) (sattr_fits sattr) fits in
    let new = new_is A limits 0 p.room in
    adds_valid limits A d name t (Dir (new_attr new_dir_mode cred t sattr) []) new.index moment valid live.below p.in_dir.kind
    (name_ok name p.in_dir.good bounds.0 p.no_dot) (no_row name (names_of (entry_at A d)) p.absent) new.free_at refl refl
    (fits_from (made (Dir (new_attr new_dir_mode cred t sattr) []) (entry_at A new.index)) (record { attr = attr_new new_dir_mode cred t sattr refl moment bounds.1; rising = refl; named = refl; bytes = refl })) new.room
keeps limits A cred t (remove_dir dir name) moment fits valid p =
    let d = at A dir in
    let i = target A d name in
    let live = p.0.in_dir.live in
    let is_d = p.0.in_dir.kind in
    let row = row_is A d name p.0.has in
    let here = row.leads_there in
    let dir_i : is_dir (entry_at A row.row.index) ≡ true = ap (λ (x : ℕ). is_dir (entry_at A x)) (sym here) ∙ p.1 in
    let empty = ltb-false 0 (length (names_of (entry_at A i))) p.2 in
    let none_i : names_of (entry_at A i) ≡ [] = nil_from_length (names_of (entry_at A i)) (omega arith) in
    let none : names_of (entry_at A row.row.index) ≡ [] = ap (λ (x : ℕ). names_of (entry_at A x)) (sym here) ∙ none_i in
    let apart : row.row.index ≢ d = λ same.
    some_row name row.row (sym (ap (row_of name) (subst (λ (x : ℕ). names_of (entry_at A x) ≡ []) same none)) ∙ row.found) in
    subst (λ (x : ℕ). Valid limits (set (set A d (with_names (without name) t (entry_at A d))) x (nulled (entry_at A x)))) (sym here)
    (dir_gone_valid limits A d name t row.row moment valid live.below is_d row.found apart none dir_i)
keeps limits A cred t (read_dir dir cookie count) moment fits valid p = valid
keeps limits A cred t (stat_fs node) moment fits valid p = valid

-- the same, from tests of which none holds
pub kept : (limits : Limits) (A : List Entry) (cred : Cred) (t : Time) (call : Call) → is_time t ≡ true → call_fits call ≡ true → Valid limits A →
    AllFalse (refusals A limits call) → Valid limits (changed (changes A cred t call) A)
kept limits A cred t call moment fits valid f = keeps limits A cred t call moment fits valid (passed A limits call f)

pub stays_valid : (limits : Limits) (A : List Entry) (cred : Cred) (t : Time) (call : Call) → is_time t ≡ true → call_fits call ≡ true → Valid limits A →
    Valid limits (array_after A limits cred t call)
unfolding array_after effect
stays_valid limits A cred t call moment fits valid = go (first_of (refusals A limits call)) refl
  where
    go : (o : Option Stat) → first_of (refusals A limits call) ≡ o → Valid limits (changed (if is_some o then [] else changes A cred t call) A)
    go (Some s) e = valid
    go None e = kept limits A cred t call moment fits valid (none_holds (refusals A limits call) e)
