-- The numbers in the records of a log: a record that was read fits.
use Rattle.std.proofs.Common.{◌≡◌, ℕ, suc, ◌+◌, ◌-◌, ◌*◌, ◌^◌, ◌<◌, Bool, true, false, cond, List, [], ◌∷◌, ◌++◌, length, drop, replicate, Some, Result, Ok, Err, refl, sym, ap, subst, arith}
use Rattle.std.specs.Prelude.{◌==◌}
use Rattle.std.specs.List.{All}
use Rattle.std.proofs.lemmas.Bool.Decides.{nat_tests}
use Rattle.std.proofs.lemmas.List.Elements.{All-nil, All-cons}
use Rattle.nfs2_types.specs.declared.Limits.{Limits}
use Rattle.nfs2_types.specs.Times.{is_time}
use Rattle.log_format.specs.declared.Event.{Event}
use Rattle.log_format.specs.declared.Event.TheVariants.{Request, Run, RunAll, Reboot, Fetch, Rogue, Skip, Scratch, LieReply, LieRoot, LieItem, Wipe, Swap, End}
use Rattle.log_format.specs.Records.{replica, micros, payload, time_of, word_of, fields_of, event_plan, event_form, record_at}
use Rattle.xdr_core.specs.Items.{IsBytes, padding, spell_word, spell_opaque, spell_fixed}
use Rattle.xdr_core.specs.Grammar.{Cursor, Stop, Grammar, Spells, reads}
use Rattle.xdr_core.proofs.Formats.{reads_found}
use Rattle.xdr_cut.specs.Cut.{Plan, plain, value_and_rest, front_at}
use Rattle.xdr_cut.specs.Needs.{within}
use Rattle.xdr_cut.specs.Fields.{Field, exactly, maybe, from, any, Maker, plan_of}
use Rattle.xdr_cut.proofs.FieldTexts.{Givens, made, FieldsFit, fields_text, told}
use Rattle.xdr_cut.proofs.Fronts.{low, low_bytes}
use Rattle.cluster_model.specs.Service.{request}
use Rattle.cluster_model.specs.Good.{FitsEvent}
use Rattle.service_laws.specs.Real.{FitsRequest}
use Rattle.service_laws.specs.Served.{service}
use Rattle.service_laws.proofs.Reading.{bytes_front, bytes_behind}

-- What the grammar says of the numbers of a record: its replica is one of the 3f + 1, a time is a moment of words, and
-- bytes are bytes.
abbrev pub HasNumbers : ℕ → Event → Type 0
HasNumbers f (Request client time b) = FitsRequest (request time b)
HasNumbers f (Run r) = r < 3 * f + 1
HasNumbers f RunAll = Unit {0}
HasNumbers f (Reboot r) = r < 3 * f + 1
HasNumbers f (Fetch r n) = r < 3 * f + 1
HasNumbers f (Rogue r time b) = (r < 3 * f + 1) × FitsRequest (request time b)
HasNumbers f (Skip r) = r < 3 * f + 1
HasNumbers f (Scratch r index offset b) = (r < 3 * f + 1) × All (λ c. c < 256) b
HasNumbers f (LieReply r place w) = r < 3 * f + 1
HasNumbers f (LieRoot r place root) = r < 3 * f + 1
HasNumbers f (LieItem r level n b) = r < 3 * f + 1
HasNumbers f (Wipe r) = r < 3 * f + 1
HasNumbers f (Swap r spare) = r < 3 * f + 1
HasNumbers f End = Unit {0}

-- THE FIELDS OF A RECORD

row : (f : ℕ) (xs : List Field) (make : Maker xs Event) (e : Event) (more : List ℕ) → IsBytes more →
    ((g : Givens xs) → FieldsFit xs g → IsBytes (fields_text xs g) → HasNumbers f (made xs make g)) →
    Spells (plain (plan_of xs make)) e more → HasNumbers f e
row f xs make e more bytes h s =
    let t = told Event xs make e more s in
    subst (λ (d : Event). HasNumbers f d) (sym t.is) (h t.givens t.fits (subst IsBytes t.text_is bytes))

either : (f : ℕ) (b : Bool) (p q : Plan Event) (e : Event) (more : List ℕ) →
    (Spells (plain p) e more → HasNumbers f e) → (Spells (plain q) e more → HasNumbers f e) →
    Spells (plain (cond b p q)) e more → HasNumbers f e
either f true p q e more h k s = h s
either f false p q e more h k s = k s

number_small : (f r : ℕ) → within ((0, 3 * f) ∷ []) r ≡ true → r < 3 * f + 1
number_small f r e = grind (arith, nat_tests, e)

micros_timed : (secs micros : ℕ) → within ((0, 999999) ∷ []) micros ≡ true → is_time (time_of secs micros) ≡ true
micros_timed secs micros e = grind (arith, nat_tests, e)

all_bytes : (x : List ℕ) → IsBytes x → All (λ c. c < 256) x
all_bytes [] h = All-nil (λ c. c < 256)
all_bytes (b ∷ x) h = All-cons (λ c. c < 256) b x (h 0) (all_bytes x (λ i. h (suc i)))

-- the bytes of a field behind three words
payload_bytes : (a b d : ℕ) (x : List ℕ) →
    IsBytes (spell_word a ++ (spell_word b ++ (spell_word d ++ (spell_opaque x ++ [])))) → All (λ c. c < 256) x
unfolding spell_opaque spell_fixed
payload_bytes a b d x h =
    let one : IsBytes (spell_word b ++ (spell_word d ++ (spell_opaque x ++ []))) =
    bytes_behind (spell_word a) (spell_word b ++ (spell_word d ++ (spell_opaque x ++ []))) h in
    let two : IsBytes (spell_word d ++ (spell_opaque x ++ [])) =
    bytes_behind (spell_word b) (spell_word d ++ (spell_opaque x ++ [])) one in
    let three : IsBytes (spell_opaque x ++ []) = bytes_behind (spell_word d) (spell_opaque x ++ []) two in
    let four : IsBytes (spell_opaque x) = bytes_front (spell_opaque x) [] three in
    let five : IsBytes (spell_fixed x) = bytes_behind (spell_word (length x)) (spell_fixed x) four in
    all_bytes x (bytes_front x (replicate (padding (length x)) 0) five)

fits_request : (secs micros : ℕ) (x : List ℕ) → secs < 2 ^ 32 → within ((0, 999999) ∷ []) micros ≡ true →
    All (λ c. c < 256) x → FitsRequest (request (time_of secs micros) x)
fits_request secs micros x low e bytes =
    record { moment = micros_timed secs micros e; seconds = low; bytes = bytes }

numbers_told : (f servers kind : ℕ) (e : Event) (more : List ℕ) → IsBytes more →
    Spells (plain (fields_of f servers kind)) e more → HasNumbers f e
unfolding fields_of
numbers_told f servers kind e more bytes =
    either f (kind == 1) _ _ e more (row f (any ∷ any ∷ micros ∷ payload ∷ [])
    (λ client secs micros b. Request client (time_of secs micros) b) e more bytes
    (λ g fits low. fits_request g.1.0 g.1.1.0 g.1.1.1.0 fits.1.0.0 fits.1.1.0.1
    (payload_bytes g.0 g.1.0 g.1.1.0 g.1.1.1.0 low)))
    (either f (kind == 2) _ _ e more (row f (replica f ∷ []) (λ r. Run r) e more bytes
    (λ g fits low. number_small f g.0 fits.0.1))
    (either f (kind == 3) _ _ e more (row f [] RunAll e more bytes (λ g fits low. tt))
    (either f (kind == 4) _ _ e more (row f (replica f ∷ []) (λ r. Reboot r) e more bytes
    (λ g fits low. number_small f g.0 fits.0.1))
    (either f (kind == 5) _ _ e more (row f (replica f ∷ from 1 4294967295 ∷ []) (λ r n. Fetch r n) e more bytes
    (λ g fits low. number_small f g.0 fits.0.1))
    (either f (kind == 6) _ _ e more (row f (replica f ∷ any ∷ micros ∷ payload ∷ [])
    (λ r secs micros b. Rogue r (time_of secs micros) b) e more bytes
    (λ g fits low. (
      number_small f g.0 fits.0.1,
      fits_request g.1.0 g.1.1.0 g.1.1.1.0 fits.1.0.0 fits.1.1.0.1
          (payload_bytes g.0 g.1.0 g.1.1.0 g.1.1.1.0 low),
    )))
    (either f (kind == 7) _ _ e more (row f (replica f ∷ []) (λ r. Skip r) e more bytes
    (λ g fits low. number_small f g.0 fits.0.1))
    (either f (kind == 8) _ _ e more (row f (replica f ∷ any ∷ any ∷ payload ∷ [])
    (λ r index offset b. Scratch r index offset b) e more bytes
    (λ g fits low. (number_small f g.0 fits.0.1, payload_bytes g.0 g.1.0 g.1.1.0 g.1.1.1.0 low)))
    (either f (kind == 9) _ _ e more (row f (replica f ∷ any ∷ maybe 65536 ∷ [])
    (λ r place w. LieReply r place (word_of w)) e more bytes (λ g fits low. number_small f g.0 fits.0.1))
    (either f (kind == 10) _ _ e more (row f (replica f ∷ any ∷ exactly 32 ∷ [])
    (λ r place root. LieRoot r place root) e more bytes (λ g fits low. number_small f g.0 fits.0.1))
    (either f (kind == 11) _ _ e more (row f (replica f ∷ any ∷ any ∷ payload ∷ [])
    (λ r level n b. LieItem r level n b) e more bytes (λ g fits low. number_small f g.0 fits.0.1))
    (either f (kind == 12) _ _ e more (row f (replica f ∷ []) (λ r. Wipe r) e more bytes
    (λ g fits low. number_small f g.0 fits.0.1))
    (either f (kind == 13) _ _ e more (row f (replica f ∷ from (3 * f + 1) (servers - 1) ∷ [])
    (λ r spare. Swap r spare) e more bytes (λ g fits low. number_small f g.0 fits.0.1))
    (row f [] End e more bytes (λ g fits low. tt))))))))))))))

-- WHAT WAS READ

found_if : {A : Type 0} (g : Grammar A) (bytes rest : List ℕ) (value : A) (r : Result (A × Cursor) Stop) →
    reads g (record { at = 0; rest = low bytes }) ≡ r → value_and_rest bytes r ≡ Some (value, rest) →
    (text : List ℕ) × Spells g value text × IsBytes text
found_if {A = A} g bytes rest value (Ok x) e is =
    let found = reads_found g (record { at = 0; rest = low bytes }) x (low_bytes bytes) e in
    let front : A × List ℕ = (x.0, drop x.1.at bytes) in
    let wanted : A × List ℕ = (value, rest) in
    let same : front ≡ wanted = cc in (
      found.text,
      subst (λ v. Spells g v found.text) (ap (λ p. p.0) same) found.spells,
      bytes_front found.text x.1.rest (subst IsBytes found.parts (low_bytes bytes)),
    )
found_if g bytes rest value (Err stop) e is = absurd cc

-- what is read is spelled by bytes
found : {A : Type 0} (g : Grammar A) (bytes rest : List ℕ) (value : A) → front_at g bytes ≡ Some (value, rest) →
    (text : List ℕ) × Spells g value text × IsBytes text
unfolding front_at
found g bytes rest value e = found_if g bytes rest value (reads g (record { at = 0; rest = low bytes })) refl e

event_numbers : (f servers : ℕ) (e : Event) (text : List ℕ) → IsBytes text → Spells (event_form f servers) e text →
    HasNumbers f e
unfolding event_plan
event_numbers f servers e text bytes s =
    numbers_told f servers s.0 e s.1 (bytes_behind (spell_word s.0) s.1 (subst IsBytes s.3 bytes)) s.4

-- the numbers of a record that was read
pub record_numbers : (f servers : ℕ) (bytes rest : List ℕ) (e : Event) → record_at f servers bytes ≡ Some (e, rest) →
    HasNumbers f e
record_numbers f servers bytes rest e h =
    let s = found (event_form f servers) bytes rest e h in
    event_numbers f servers e s.0 s.2 s.1

-- so it fits
pub numbers_fit : (limits : Limits) (e : Event) → HasNumbers limits.f e → FitsEvent (service limits) e
unfolding service
numbers_fit limits (Request client time b) h = h
numbers_fit limits (Rogue r time b) h = h.1
numbers_fit limits (Scratch r index offset b) h = h.1
numbers_fit limits (Run r) h = tt
numbers_fit limits RunAll h = tt
numbers_fit limits (Reboot r) h = tt
numbers_fit limits (Fetch r n) h = tt
numbers_fit limits (Skip r) h = tt
numbers_fit limits (LieReply r place w) h = tt
numbers_fit limits (LieRoot r place root) h = tt
numbers_fit limits (LieItem r level number text) h = tt
numbers_fit limits (Wipe r) h = tt
numbers_fit limits (Swap r spare) h = tt
numbers_fit limits End h = tt
