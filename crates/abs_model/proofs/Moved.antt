-- the machine keeps valid arrays valid: RENAME
use Rattle.std.proofs.Common.{◌≡◌, ◌≢◌, ℕ, ◌<◌, List, [], ◌∷◌, Bool, true, false, not, ◌||◌, cond, length, set, refl, sym, ◌∙◌, ap, subst, arith, inl, inr, Some, None, get_or-set_same, get_or-set_other}
use Rattle.std.specs.Prelude.{◌==◌, bytes_eq, nat_le}
use Rattle.std.specs.List.{list_any}
use Rattle.std.proofs.lemmas.Bool.{false≢true, true≢false, and_from, not_from_false, cases_Bool, cases_eq, cases_lt, eq-eqb, ne_eqb, eqb-true, eqb-false, or_cases, or_left, or_right}
use Rattle.std.proofs.lemmas.List.{set_comm, set-set, set_past, length-set}
use Rattle.std.proofs.lemmas.Slice.Eq.{bytes_eq-Decides}
use Rattle.nfs2_types.specs.declared.Limits.{Limits}
use Rattle.nfs2_types.specs.declared.Time.{Time}
use Rattle.abs_model.specs.declared.entry.NameRow.{NameRow}
use Rattle.abs_model.specs.declared.entry.Entry.{Entry}
use Rattle.abs_model.specs.Objects.{is_null, is_dir, names_of, row_of, without, placed, nulled, with_attr, changed_at, attr_of}
use Rattle.abs_model.specs.Array.{entry_at, null_entry, has_row_to, links}
use Rattle.abs_model.specs.Machine.{with_names, row_to, unlinked}
use Rattle.abs_model.specs.Valid.{Walk, Valid, leads}
use Rattle.nfs2_types.specs.Names.{is_name}
use Rattle.nfs2_types.specs.Times.{is_time}
use Rattle.abs_model.proofs.RowLists.{rising_placed, all_placed, length_dropped, row_of-without_same, row_of-without_none, row_of-without_other, without_absent, filter_comm}
use Rattle.abs_model.proofs.Shapes.{fits_parts, used-set, walk_kept, at_set}
use Rattle.abs_model.proofs.Steps.{named, ends_here, node_at}
use Rattle.abs_model.proofs.Kept.{node_names, fits_names, used_names, drop_valid, unlinked_valid, like_attr}
use Rattle.abs_model.proofs.Facts.{dir_is, no_names, found_passes, led_is, length-placed}

-- an empty directory has no row
some_row : (name : List ℕ) (r : NameRow) → row_of name [] ≡ Some r → ⊥
some_row name r e = cc

some_same : (r s : NameRow) → Some r ≡ Some s → r ≡ s
some_same r s e = cc

-- any test that some row kept passes, some row passes
pub any_without : (p : NameRow → Bool) (name : List ℕ) (rows : List NameRow) → list_any p (without name rows) ≡ true → list_any p rows ≡ true
any_without p name [] h = h
any_without p name (r ∷ rs) h = go (not (bytes_eq r.name name)) h (λ k. any_without p name rs k)
  where
    go : (b : Bool) → list_any p (cond b (r ∷ without name rs) (without name rs)) ≡ true → (list_any p (without name rs) ≡ true → list_any p rs ≡ true) →
        (p r || list_any p rs) ≡ true
    go true h rest = elim (or_cases (p r) (list_any p (without name rs)) h) [ inl here ↦ or_left (p r) (list_any p rs) here | inr more ↦ or_right (p r) (list_any p rs) (rest more) ]
    go false h rest = or_right (p r) (list_any p rs) (rest h)

-- no way is new where a name goes
way_back : (A : List Entry) (d : ℕ) (name : List ℕ) (t : Time) (here next : ℕ) →
    has_row_to next (entry_at (set A d (with_names (without name) t (entry_at A d))) here) ≡ true → has_row_to next (entry_at A here) ≡ true
way_back A d name t here next h = elim (cases_eq here d) [
  | inl same ↦ elim (cases_lt d (length A)) [
    | inl below ↦ subst (λ (x : ℕ). has_row_to next (entry_at A x) ≡ true) (sym same)
        (any_without (λ (r : NameRow). r.index == next) name (names_of (entry_at A d))
        (sym (ap (has_row_to next) (get_or-set_same A d (with_names (without name) t (entry_at A d)) null_entry below)) ∙
        subst (λ (x : ℕ). has_row_to next (entry_at (set A d (with_names (without name) t (entry_at A d))) x) ≡ true) same h))
    | inr past ↦ subst (λ (B : List Entry). has_row_to next (entry_at B here) ≡ true) (set_past A d (with_names (without name) t (entry_at A d)) past) h
  ]
  | inr other ↦ sym (ap (has_row_to next) (get_or-set_other A d here (with_names (without name) t (entry_at A d)) null_entry other)) ∙ h
]

-- a name goes from d, and another leads from b to the same entry
pub moved : (limits : Limits) (A : List Entry) (d b : ℕ) (name to_name : List ℕ) (t : Time) (r : NameRow) → is_time t ≡ true → Valid limits A → d < length A → b < length A →
    is_dir (entry_at A d) ≡ true → is_dir (entry_at A b) ≡ true → row_of name (names_of (entry_at A d)) ≡ Some r → is_name to_name ≡ true →
    row_of to_name (names_of (entry_at (set A d (with_names (without name) t (entry_at A d))) b)) ≡ None →
    ((k : ℕ) → Walk A k r.index b → is_dir (entry_at A r.index) ≡ true → ⊥) →
    Valid limits (set (set A d (with_names (without name) t (entry_at A d))) b
    (with_names (placed (row_to to_name r.index (entry_at A r.index).generation)) t (entry_at (set A d (with_names (without name) t (entry_at A d))) b)))
moved limits A d b name to_name t r moment valid d_below b_below d_dir b_dir found is_ok absent apart =
    let old = entry_at A d in
    let bare = with_names (without name) t old in
    let B = set A d bare in
    let i = r.index in
    let row = row_to to_name i (entry_at A i).generation in
    let node = entry_at B b in
    let but = (drop_valid limits A d name t r moment valid d_below d_dir found).but in
    let like = λ (x : ℕ). node_at A d x bare (node_names (without name) t old d_dir) in
    let node_dir : is_dir node ≡ true = (like b).dir ∙ b_dir in
    let led = led_is A r (found_passes (leads A) name (names_of old) r found (valid.lead d d_below)) in
    let led_row : leads B row ≡ true =
    and_from (not (i == 0)) _ (not_from_false (i == 0) (ne_eqb i 0 led.not_root))
    (and_from (not (is_null (entry_at B i))) _ (not_from_false (is_null (entry_at B i)) ((like i).null ∙ led.live))
    (eq-eqb (entry_at B i).generation (entry_at A i).generation (like i).generation)) in
    let b_in : b < length B = subst (λ (n : ℕ). b < n) (sym (length-set A d bare)) b_below in
    let own = fits_parts node (but.fits b b_in) in
    let reach : (k : ℕ) × Walk B k 0 b = elim (but.reached b (dir_is node node_dir).null) [
      | inl root ↦ root
      | inr from ↦
          let back = walk_kept B A (way_back A d name t) from.0 i b from.1 in
          elim (cases_Bool (is_dir (entry_at A i))) [
            | inl dir ↦ absurd (apart from.0 back dir)
            | inr other ↦
                let here = ends_here A i from.0 b (no_names (entry_at A i) other) back in
                absurd (true≢false (sym b_dir ∙ subst (λ (x : ℕ). is_dir (entry_at A x) ≡ false) here other))
          ]
    ] in
    let moves = used-set A d bare d_below in
    let was = used_names (without name) t old d_dir in
    let now = used_names (placed row) t node node_dir in
    let more = length-placed row (names_of node) in
    let less = length_dropped name (names_of old) r (fits_parts old (valid.fits d d_below)).rising found in
    let most = valid.room in
    named limits B b (with_names (placed row) t node) row reach.0 but b_in (node_names (placed row) t node node_dir) refl led_row reach.1
    (fits_names (placed row) t node moment (but.fits b b_in) (rising_placed row (names_of node) own.rising absent)
    (all_placed (λ (r : NameRow). is_name r.name) row (names_of node) is_ok own.named))
    (let p = was.0 in let q = was.1 in let p' = now.0 in let q' = now.1 in omega arith)

-- the row that comes, in place of one of its name
abbrev pub comes : List ℕ → ℕ → ℕ → List NameRow → List NameRow
comes to_name i generation rows = placed (row_to to_name i generation) (without to_name rows)

-- both directories written, or the one
abbrev pub renamed : Bool → List Entry → ℕ → ℕ → List ℕ → List ℕ → Time → ℕ → ℕ → List Entry
renamed true A d b name to_name t i g = set A d (with_names (λ rows. comes to_name i g (without name rows)) t (entry_at A d))
renamed false A d b name to_name t i g = set (set A d (with_names (without name) t (entry_at A d))) b (with_names (comes to_name i g) t (entry_at A b))

-- what is known of the two directories and the row that moves
pub record Moves (limits : Limits) (A : List Entry) (d b : ℕ) (name to_name : List ℕ) (t : Time) (r : NameRow) : Type 0 where
  pub moment : is_time t ≡ true
  pub valid : Valid limits A
  pub d_below : d < length A
  pub b_below : b < length A
  pub d_dir : is_dir (entry_at A d) ≡ true
  pub b_dir : is_dir (entry_at A b) ≡ true
  pub found : row_of name (names_of (entry_at A d)) ≡ Some r
  pub is_ok : is_name to_name ≡ true
  pub apart : (k : ℕ) → Walk A k r.index b → is_dir (entry_at A r.index) ≡ true → ⊥

-- RENAME to a new name
pub renamed_new : (limits : Limits) (A : List Entry) (d b : ℕ) (name to_name : List ℕ) (t : Time) (r : NameRow) (q : Bool) → (d == b) ≡ q →
    Moves limits A d b name to_name t r → row_of to_name (names_of (entry_at A b)) ≡ None →
    Valid limits (renamed q A d b name to_name t r.index (entry_at A r.index).generation)
renamed_new limits A d b name to_name t r true same m absent =
    let old = entry_at A d in
    let bare = with_names (without name) t old in
    let at : d ≡ b = eqb-true d b same in
    let here : entry_at (set A d bare) d ≡ bare = get_or-set_same A d bare null_entry m.d_below in
    let absent_d : row_of to_name (names_of old) ≡ None = subst (λ (x : ℕ). row_of to_name (names_of (entry_at A x)) ≡ None) (sym at) absent in
    let gone = row_of-without_none to_name name (names_of old) absent_d in
    let row = row_to to_name r.index (entry_at A r.index).generation in
    let result = moved limits A d d name to_name t r m.moment m.valid m.d_below m.d_below m.d_dir m.d_dir m.found m.is_ok
    (ap (λ (x : Entry). row_of to_name (names_of x)) here ∙ gone)
    (λ k w dir. m.apart k (subst (λ (x : ℕ). Walk A k r.index x) at w) dir) in
    subst (λ (x : List Entry). Valid limits x)
    (set-set A d bare _ ∙
    (ap (λ (x : Entry). set A d (with_names (placed row) t x)) here ∙
    ap (λ (rows : List NameRow). set A d (with_names (λ _. placed row rows) t old)) (sym (without_absent to_name (without name (names_of old)) gone))))
    result
renamed_new limits A d b name to_name t r false other m absent =
    let bare = with_names (without name) t (entry_at A d) in
    let apart : b ≢ d = λ e. eqb-false d b other (sym e) in
    let here : entry_at (set A d bare) b ≡ entry_at A b = get_or-set_other A d b bare null_entry apart in
    let row = row_to to_name r.index (entry_at A r.index).generation in
    let result = moved limits A d b name to_name t r m.moment m.valid m.d_below m.b_below m.d_dir m.b_dir m.found m.is_ok
    (ap (λ (x : Entry). row_of to_name (names_of x)) here ∙ absent) m.apart in
    subst (λ (x : List Entry). Valid limits x)
    (ap (λ (x : Entry). set (set A d bare) b (with_names (placed row) t x)) here ∙
    ap (λ (rows : List NameRow). set (set A d bare) b (with_names (λ _. placed row rows) t (entry_at A b))) (sym (without_absent to_name (names_of (entry_at A b)) absent)))
    result

-- RENAME over another entry: first that entry loses its name
abbrev cleared : List Entry → ℕ → List ℕ → Time → ℕ → List Entry
cleared A b to_name t j = set (set A b (with_names (without to_name) t (entry_at A b))) j (unlinked A j t)

pub names_unlinked : (A : List Entry) (i : ℕ) (t : Time) → names_of (entry_at A i) ≡ [] → names_of (unlinked A i t) ≡ []
names_unlinked A i t none = go (nat_le (links A i) 1)
  where
    go : (c : Bool) → names_of (cond c (nulled (entry_at A i)) (with_attr (changed_at t (attr_of (entry_at A i))) (entry_at A i))) ≡ []
    go true = refl
    go false = (like_attr (changed_at t (attr_of (entry_at A i))) (entry_at A i)).names ∙ none

record Over (limits : Limits) (A : List Entry) (d b : ℕ) (to_name : List ℕ) (t : Time) (r s : NameRow) : Type 0 where
  valid : Valid limits (cleared A b to_name t s.index)
  here_b : entry_at (cleared A b to_name t s.index) b ≡ with_names (without to_name) t (entry_at A b)
  here_i : entry_at (cleared A b to_name t s.index) r.index ≡ entry_at A r.index
  apart : (k : ℕ) → Walk (cleared A b to_name t s.index) k r.index b → is_dir (entry_at (cleared A b to_name t s.index) r.index) ≡ true → ⊥
  not_d : s.index ≢ d
  not_b : s.index ≢ b
  long : length (cleared A b to_name t s.index) ≡ length A

over : (limits : Limits) (A : List Entry) (d b : ℕ) (name to_name : List ℕ) (t : Time) (r s : NameRow) →
    Moves limits A d b name to_name t r → row_of to_name (names_of (entry_at A b)) ≡ Some s → s.index ≢ r.index → names_of (entry_at A s.index) ≡ [] →
    Over limits A d b to_name t r s
over limits A d b name to_name t r s m found_s apart_s none =
    let j = s.index in
    let i = r.index in
    let bare = with_names (without to_name) t (entry_at A b) in
    let u = unlinked A j t in
    let A0 = set A b bare in
    let j_b : j ≢ b = λ same. some_row to_name s (sym (ap (row_of to_name) (subst (λ (x : ℕ). names_of (entry_at A x) ≡ []) same none)) ∙ found_s) in
    let j_d : j ≢ d = λ same. some_row name r (sym (ap (row_of name) (subst (λ (x : ℕ). names_of (entry_at A x) ≡ []) same none)) ∙ m.found) in
    let i_b : i ≢ b = λ same. m.apart 0 same (subst (λ (x : ℕ). is_dir (entry_at A x) ≡ true) (sym same) m.b_dir) in
    let led_s = led_is A s (found_passes (leads A) to_name (names_of (entry_at A b)) s found_s (m.valid.lead b m.b_below)) in
    let at_i : entry_at (set A0 j u) i ≡ entry_at A i = get_or-set_other A0 j i u null_entry (λ e. apart_s (sym e)) ∙ get_or-set_other A b i bare null_entry i_b in
    let way = λ (here next : ℕ) (h : has_row_to next (entry_at (set A0 j u) here) ≡ true). cleared_way A b to_name t j here next none h in
    record {
      valid = unlinked_valid limits A b to_name t s m.moment m.valid m.b_below m.b_dir found_s j_b none (λ dir. m.valid.one_name j dir led_s.not_root);
      here_b = get_or-set_other A0 j b u null_entry (λ e. j_b (sym e)) ∙ get_or-set_same A b bare null_entry m.b_below;
      here_i = at_i;
      apart = λ k w dir. m.apart k (walk_kept (set A0 j u) A way k i b w) (sym (ap is_dir at_i) ∙ dir);
      not_d = j_d;
      not_b = j_b;
      long = length-set A0 j u ∙ length-set A b bare;
    }
  where
    cleared_way : (A : List Entry) (b : ℕ) (to_name : List ℕ) (t : Time) (j here next : ℕ) → names_of (entry_at A j) ≡ [] →
        has_row_to next (entry_at (cleared A b to_name t j) here) ≡ true → has_row_to next (entry_at A here) ≡ true
    cleared_way A b to_name t j here next none h = elim (cases_eq here j) [
      | inl same ↦
          at_set (λ (x : Entry). has_row_to next x ≡ true → has_row_to next (entry_at A here) ≡ true) (set A b (with_names (without to_name) t (entry_at A b))) j here (unlinked A j t)
          (λ k. absurd (false≢true (sym (ap (list_any (λ (r : NameRow). r.index == next)) (names_unlinked A j t none)) ∙ k)))
          (λ k. way_back A b to_name t here next k) h
      | inr other ↦ way_back A b to_name t here next
          (sym (ap (has_row_to next) (get_or-set_other (set A b (with_names (without to_name) t (entry_at A b))) j here (unlinked A j t) null_entry other)) ∙ h)
    ]

pub renamed_over : (limits : Limits) (A : List Entry) (d b : ℕ) (name to_name : List ℕ) (t : Time) (r s : NameRow) (q : Bool) → (d == b) ≡ q →
    Moves limits A d b name to_name t r → row_of to_name (names_of (entry_at A b)) ≡ Some s → s.index ≢ r.index → names_of (entry_at A s.index) ≡ [] →
    Valid limits (set (renamed q A d b name to_name t r.index (entry_at A r.index).generation) s.index (unlinked A s.index t))
renamed_over limits A d b name to_name t r s true which m found_s apart_s none =
    let j = s.index in
    let i = r.index in
    let g = (entry_at A i).generation in
    let rows = names_of (entry_at A d) in
    let at : d ≡ b = eqb-true d b which in
    let o = over limits A d b name to_name t r s m found_s apart_s none in
    let u = unlinked A j t in
    let A1 = cleared A b to_name t j in
    let bare = with_names (without to_name) t (entry_at A d) in
    let here_d : entry_at A1 d ≡ bare = ap (λ (x : ℕ). entry_at A1 x) at ∙ (o.here_b ∙ ap (λ (x : ℕ). with_names (without to_name) t (entry_at A x)) (sym at)) in
    let unlike : bytes_eq name to_name ≡ false = elim (cases_Bool (bytes_eq name to_name)) [
      | inl alike ↦
          let same_name : name ≡ to_name = (bytes_eq-Decides name to_name).0 alike in
          let row_s : row_of name rows ≡ Some s = ap (λ (n : List ℕ). row_of n rows) same_name ∙ (ap (λ (x : ℕ). row_of to_name (names_of (entry_at A x))) at ∙ found_s) in
          let same : s ≡ r = some_same s r (sym row_s ∙ m.found) in
          absurd (apart_s (ap (λ (x : NameRow). x.index) same))
      | inr off ↦ off
    ] in
    let found1 : row_of name (names_of (entry_at A1 d)) ≡ Some r = ap (λ (x : Entry). row_of name (names_of x)) here_d ∙ row_of-without_other name to_name rows r unlike m.found in
    let m1 : Moves limits A1 d b name to_name t r = record {
      moment = m.moment;
      valid = o.valid;
      d_below = subst (λ (n : ℕ). d < n) (sym o.long) m.d_below;
      b_below = subst (λ (n : ℕ). b < n) (sym o.long) m.b_below;
      d_dir = ap is_dir here_d;
      b_dir = ap is_dir o.here_b;
      found = found1;
      is_ok = m.is_ok;
      apart = o.apart;
    } in
    let absent1 : row_of to_name (names_of (entry_at A1 b)) ≡ None = ap (λ (x : Entry). row_of to_name (names_of x)) o.here_b ∙ row_of-without_same to_name (names_of (entry_at A b)) in
    let result = renamed_new limits A1 d b name to_name t r true which m1 absent1 in
    let final = λ (rows : List NameRow) (h : ℕ). with_names (λ _. placed (row_to to_name i h) rows) t (entry_at A d) in
    let names_same : without to_name (without name (without to_name rows)) ≡ without to_name (without name rows) =
    ap (without to_name) (filter_comm _ _ rows) ∙ without_absent to_name (without to_name (without name rows)) (row_of-without_same to_name (without name rows)) in
    subst (λ (x : List Entry). Valid limits x)
    (ap (λ (x : Entry). set A1 d (with_names (λ rows. comes to_name i (entry_at A1 i).generation (without name rows)) t x)) here_d ∙
    (ap (λ (x : Entry). set A1 d (final (without to_name (without name (without to_name rows))) x.generation)) o.here_i ∙
    (ap (λ (x : List NameRow). set A1 d (final x g)) names_same ∙
    (ap (λ (x : ℕ). set (cleared A x to_name t j) d (final (without to_name (without name rows)) g)) (sym at) ∙
    (set_comm (set A d bare) j d u (final (without to_name (without name rows)) g) o.not_d ∙
    ap (λ (x : List Entry). set x j u) (set-set A d bare (final (without to_name (without name rows)) g)))))))
    result
renamed_over limits A d b name to_name t r s false which m found_s apart_s none =
    let j = s.index in
    let i = r.index in
    let g = (entry_at A i).generation in
    let apart : d ≢ b = eqb-false d b which in
    let o = over limits A d b name to_name t r s m found_s apart_s none in
    let u = unlinked A j t in
    let bare = with_names (without to_name) t (entry_at A b) in
    let A0 = set A b bare in
    let A1 = cleared A b to_name t j in
    let here_d : entry_at A1 d ≡ entry_at A d = get_or-set_other A0 j d u null_entry (λ e. o.not_d (sym e)) ∙ get_or-set_other A b d bare null_entry apart in
    let m1 : Moves limits A1 d b name to_name t r = record {
      moment = m.moment;
      valid = o.valid;
      d_below = subst (λ (n : ℕ). d < n) (sym o.long) m.d_below;
      b_below = subst (λ (n : ℕ). b < n) (sym o.long) m.b_below;
      d_dir = ap is_dir here_d ∙ m.d_dir;
      b_dir = ap is_dir o.here_b;
      found = ap (λ (x : Entry). row_of name (names_of x)) here_d ∙ m.found;
      is_ok = m.is_ok;
      apart = o.apart;
    } in
    let rows_b = names_of (entry_at A b) in
    let gone = row_of-without_same to_name rows_b in
    let absent1 : row_of to_name (names_of (entry_at A1 b)) ≡ None = ap (λ (x : Entry). row_of to_name (names_of x)) o.here_b ∙ gone in
    let result = renamed_new limits A1 d b name to_name t r false which m1 absent1 in
    let e_d = with_names (without name) t (entry_at A d) in
    let e_b = with_names (comes to_name i g) t (entry_at A b) in
    let final = λ (rows : List NameRow) (h : ℕ). with_names (λ _. placed (row_to to_name i h) rows) t (entry_at A b) in
    subst (λ (x : List Entry). Valid limits x)
    (ap (λ (x : Entry). set (set A1 d (with_names (without name) t x)) b (with_names (comes to_name i (entry_at A1 i).generation) t (entry_at A1 b))) here_d ∙
    (ap (λ (x : Entry). set (set A1 d e_d) b (with_names (comes to_name i (entry_at A1 i).generation) t x)) o.here_b ∙
    (ap (λ (x : Entry). set (set A1 d e_d) b (final (without to_name (without to_name rows_b)) x.generation)) o.here_i ∙
    (ap (λ (x : List NameRow). set (set A1 d e_d) b (final x g)) (without_absent to_name (without to_name rows_b) gone) ∙
    (ap (λ (x : List Entry). set x b e_b) (set_comm A0 j d u e_d o.not_d) ∙
    (set_comm (set A0 d e_d) j b u e_b o.not_b ∙
    ap (λ (x : List Entry). set x j u)
    (ap (λ (x : List Entry). set x b e_b) (set_comm A b d bare e_d (λ e. apart (sym e))) ∙ set-set (set A d e_d) b bare e_b)))))))
    result
