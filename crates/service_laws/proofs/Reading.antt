-- What is read of the bytes of a request is within its bounds, and its numbers are words.
use Rattle.std.proofs.Common.{◌≡◌, ℕ, zero, suc, ◌^◌, ◌<◌, ◌≤◌, Bool, true, false, List, [], ◌∷◌, ◌++◌, length, refl, sym, ◌∙◌, ap, subst, arith, Option, Some, None, Result, Ok, Err}
use Rattle.std.specs.Prelude.{◌==◌, drop, if◌then◌else◌}
use Rattle.std.specs.List.{All}
use Rattle.nfs2_types.specs.declared.Cred.{Cred}
use Rattle.nfs2_types.specs.Call.{Call, call_fits}
use Rattle.xdr_core.specs.declared.error.XdrErr.{XdrErr}
use Rattle.xdr_core.specs.Items.{Item, word, boolean, opaque, fixed, Value, Fits, IsBytes, spell, spell_word, spell_fixed, spell_opaque}
use Rattle.xdr_core.specs.Grammar.{Grammar, gives, item, listed, Spells, Stop, reads_all}
use Rattle.xdr_core.proofs.ItemLaws.{IsBytes-drop}
use Rattle.xdr_core.proofs.Formats.{is_reading}
use Rattle.rpc_core.specs.declared.CallHead.{CallHead}
use Rattle.rpc_core.specs.declared.CallHead.TheVariants as heads
use Rattle.rpc_core.specs.declared.Refusal.{Refusal}
use Rattle.rpc_core.specs.Cred.{auth_sys, group, cred_in, nobody, value_of}
use Rattle.rpc_core.specs.Call.{Header, header, head_in, verdict, called, checks, first_failed, IfCall, IsServed}
use Rattle.rpc_core.proofs.Heads.{is_head, head_holds}
use Rattle.nfs2_args.specs.Forms.{args_form}
use Rattle.nfs2_args.specs.Spelling.{call_fields_fit}
use Rattle.service_laws.proofs.Bounds.{Always, of_spelled, always_then, args_within, Within}

-- Bytes in pieces

pub bytes_front : (xs ys : List ℕ) → IsBytes (xs ++ ys) → IsBytes xs
bytes_front [] ys h i = omega arith
bytes_front (x ∷ xs) ys h zero = h 0
bytes_front (x ∷ xs) ys h (suc i) = bytes_front xs ys (λ j. h (suc j)) i

pub bytes_behind : (xs ys : List ℕ) → IsBytes (xs ++ ys) → IsBytes ys
bytes_behind [] ys h = h
bytes_behind (x ∷ xs) ys h = bytes_behind xs ys (λ j. h (suc j))

pub bytes_of_all : (bytes : List ℕ) → All (λ c. c < 256) bytes → IsBytes bytes
bytes_of_all [] h i = omega arith
bytes_of_all (x ∷ xs) h zero = h 0 0 (omega arith)
bytes_of_all (x ∷ xs) h (suc i) = bytes_of_all xs (λ k d low. h (suc k) d (omega arith)) i

-- A fact of each value that a format gives, where all bytes are bytes

abbrev InBytes : (i : Item) → Value i → Type 0
InBytes (word rule) n = Unit {0}
InBytes boolean b = Unit {0}
InBytes (opaque max rule) bytes = IsBytes bytes
InBytes (fixed size) bytes = Unit {0}

in_bytes : (i : Item) (x : Value i) → IsBytes (spell i x) → InBytes i x
unfolding spell_opaque spell_fixed
in_bytes (word rule) n h = tt
in_bytes boolean b h = tt
in_bytes (opaque max rule) bytes h = bytes_front bytes _
    (bytes_behind (spell_word (length bytes)) (spell_fixed bytes) h)
in_bytes (fixed size) bytes h = tt

abbrev AlwaysIn : {A : Type 0} → Grammar A → (A → Type 0) → Type 0
AlwaysIn (gives a) P = P a
AlwaysIn (item i next) P = (x : Value i) → Fits i x → InBytes i x → AlwaysIn (next x) P

of_spelled_in : {A : Type 0} (g : Grammar A) (P : A → Type 0) (value : A) (text : List ℕ) → IsBytes text →
    AlwaysIn g P → Spells g value text → P value
of_spelled_in (gives a) P value text bytes h s = subst P (sym s.0) h
of_spelled_in (item i next) P value text bytes h s =
    let all : IsBytes (spell i s.0 ++ s.1) = subst IsBytes s.3 bytes in
    of_spelled_in (next s.0) P value s.1 (bytes_behind (spell i s.0) s.1 all)
    (h s.0 s.2 (in_bytes i s.0 (bytes_front (spell i s.0) s.1 all))) s.4

-- Callers

pub record CredLow (cred : Cred) : Type 0 where
  pub uid : cred.uid < 2 ^ 32
  pub gid : cred.gid < 2 ^ 32

always_any : {A : Type 0} (g : Grammar A) → Always g (λ a. Unit {0})
always_any (gives a) = tt
always_any (item i next) = λ x fits. always_any (next x)

auth_low : Always auth_sys CredLow
unfolding auth_sys
auth_low = λ stamp a machine b uid c gid d count e. always_then (listed group count [])
    (λ gids. gives (record { uid = uid; gid = gid; gids = gids })) (λ gids. Unit {0}) CredLow
    (always_any (listed group count [])) (λ gids h. record { uid = c.0; gid = d.0 })

read_spells : {A : Type 0} (g : Grammar A) (bytes : List ℕ) (a : A) → IsBytes bytes → reads_all g bytes ≡ Ok a →
    Spells g a bytes
read_spells {A} g bytes a fits e =
    (let r : Result A XdrErr = Ok a in (is_reading (λ (x : A). x) g bytes (Ok a) fits e).found)

cred_low : (flavor : ℕ) (body : List ℕ) → IsBytes body → (cred : Cred) → cred_in flavor body ≡ Some cred → CredLow cred
unfolding cred_in
cred_low flavor body fits cred e = by (flavor == 0) (flavor == 1) e
  where
    sys : (r : Result Cred Stop) → reads_all auth_sys body ≡ r → value_of r ≡ Some cred → CredLow cred
    sys (Ok c) e f = (let same : c ≡ cred = cc in subst CredLow same
        (of_spelled auth_sys CredLow c body auth_low (read_spells auth_sys body c fits e)))
    sys (Err x) e f = absurd (cc)

    by : (a b : Bool) → (if a then Some nobody else if b then value_of (reads_all auth_sys body) else None)
        ≡ Some cred → CredLow cred
    by true b f = (let same : nobody ≡ cred = cc in subst CredLow same
        (record { uid = omega arith; gid = omega arith }))
    by false true f = sys (reads_all auth_sys body) refl f
    by false false f = absurd (cc)

abbrev HeaderLow : Header → Type 0
HeaderLow h = (cred : Cred) → h.cred ≡ Some cred → CredLow cred

header_low : AlwaysIn header HeaderLow
unfolding header
header_low = λ xid a a' kind b b' rpcvers c c' prog d d' vers e e' proc f f' flavor g g' body h h' verf i i' verf_body j j'. λ cred same. cred_low flavor body h' cred same

verdict_cred : (h : Header) (at xid prog vers proc : ℕ) (cred : Cred) (args_at : ℕ) →
    verdict h at ≡ heads.Call xid prog vers proc cred args_at → h.cred ≡ Some cred
unfolding verdict
verdict_cred h at xid prog vers proc cred args_at e = by (h.kind == 0) (first_failed (checks h)) h.cred e
  where
    by : (a : Bool) (o : Option Refusal) (c : Option Cred) →
        (if a then (elim o [ Some why ↦ heads.Refuse h.xid why | None ↦ called h at c ]) else heads.Silent)
        ≡ heads.Call xid prog vers proc cred args_at → c ≡ Some cred
    by true (Some why) c f = absurd (cc)
    by true None (Some c) f = (let same : c ≡ cred = cc in ap Some same)
    by true None None f = absurd (cc)
    by false o c f = absurd (cc)

-- what is known of a call of NFS that is made
pub record IsMade (cred : Cred) (call : Call) : Type 0 where
  pub caller : CredLow cred
  pub fits : call_fits call ≡ true
  pub fields : call_fields_fit call ≡ true

served_low : (h : CallHead) (xid prog vers proc : ℕ) (cred : Cred) (args_at : ℕ) →
    h ≡ heads.Call xid prog vers proc cred args_at → IfCall h (λ p v c a. IsServed p v c) → (prog == 100003) ≡ true →
    proc ≤ 17
served_low h xid prog vers proc cred args_at e served nfs =
    let s : IsServed prog vers proc = subst (λ k. IfCall k (λ p v c a. IsServed p v c)) e served in
    subst (λ (b : Bool). proc ≤ (if b then 17 else 5)) nfs s.procedure

not_silent : (h : CallHead) (xid prog vers proc : ℕ) (cred : Cred) (args_at : ℕ) →
    h ≡ heads.Call xid prog vers proc cred args_at → h ≡ heads.Silent → ⊥
not_silent h xid prog vers proc cred args_at e s =
    (let f : heads.Silent ≡ heads.Call xid prog vers proc cred args_at = sym s ∙ e in absurd (cc))

pub made_low : (bytes : List ℕ) → IsBytes bytes → (xid prog vers proc : ℕ) (cred : Cred) (args_at : ℕ) →
    head_in bytes ≡ heads.Call xid prog vers proc cred args_at → (prog == 100003) ≡ true →
    (call : Call) → reads_all (args_form proc) (drop args_at bytes) ≡ Ok call → IsMade cred call
made_low bytes fits xid prog vers proc cred args_at e nfs call ok =
    let head = is_head bytes (head_in bytes) fits refl in
    let front = head.found (λ s. not_silent (head_in bytes) xid prog vers proc cred args_at e s) in
    let same : verdict front.says (length front.text) ≡ heads.Call xid prog vers proc cred args_at = sym
    (head.told front) ∙ e in
    let text : IsBytes front.text = bytes_front front.text front.args (subst IsBytes front.whole fits) in
    let low = of_spelled_in header HeaderLow front.says front.text text header_low front.spelled in
    let few : proc ≤ 17 = served_low (head_in bytes) xid prog vers proc cred args_at e
    (head_holds bytes (head_in bytes) fits refl).served nfs in
    let w = of_spelled (args_form proc) (Within proc) call (drop args_at bytes) (args_within proc few)
    (read_spells (args_form proc) (drop args_at bytes) call (IsBytes-drop args_at bytes fits) ok) in
    record {
      caller = low cred (verdict_cred front.says (length front.text) xid prog vers proc cred args_at same);
      fits = w.fits;
      fields = w.fields;
    }
