-- What is written is a header, and the call that it says.
use Rattle.std.proofs.Common.{◌≡◌, ◌⊎◌, ℕ, suc, ◌+◌, ◌*◌, ◌^◌, ◌<◌, ◌≤◌, true, List, [], ◌∷◌, ◌++◌, length, get_or}
use Rattle.std.proofs.Common.{Some, Result, Ok, Err, refl, sym, ap, subst, ◌∙◌, append_assoc, length-append, inl, inr}
use Rattle.std.proofs.Common.{arith, eq-eqb}
use Rattle.std.specs.Prelude.{◌==◌, ◌||◌, nat_le}
use Rattle.std.proofs.lemmas.List.{append-nil}
use Rattle.std.proofs.lemmas.Bool.{le-leb}
use Rattle.nfs2_types.specs.declared.cred.Cred.{Cred}
use Rattle.xdr_core.specs.Items.{AreWords, spell_word, spell_words, spell_fixed, spell_opaque}
use Rattle.xdr_core.specs.Grammar.{Grammar, gives, and_then, listed, Stop, reads, reads_all, Spells}
use Rattle.xdr_core.proofs.ItemLaws.{IsBytes}
use Rattle.xdr_core.proofs.Formats.{reads_again, spells_after, whole_again, is_reading}
use Rattle.rpc_core.specs.declared.head.CallHead.{CallHead}
use Rattle.rpc_core.specs.declared.head.CallHead.TheVariants.{Call}
use Rattle.rpc_core.specs.Cred.{group, auth_sys, value_of, cred_in}
use Rattle.rpc_core.specs.Call.{Header, header, version_of, last_of, verdict, head_of, HasHeader, IsHead, IsServed}
use Rattle.rpc_core.specs.Request.{machine, cred_text, call_front}
use Rattle.rpc_core.proofs.Heads.{start}

-- ---- the credential

length-spell_words : (ns : List ℕ) → length (spell_words ns) ≡ 4 * length ns
unfolding spell_word
length-spell_words [] = refl
length-spell_words (n ∷ ns) = omega (arith, length-append (spell_word n) (spell_words ns), length-spell_words ns)

pub length-cred_text : (c : Cred) → length c.gids ≤ 16 → length (cred_text c) ≤ 400
unfolding cred_text spell_opaque spell_fixed spell_word
length-cred_text c few =
    let front = spell_words (c.uid ∷ c.gid ∷ length c.gids ∷ []) in
    omega (
      arith,
      length-append front (spell_words c.gids),
      length-spell_words (c.uid ∷ c.gid ∷ length c.gids ∷ []),
      length-spell_words c.gids,
      length-append (spell_opaque machine) (front ++ spell_words c.gids),
      length-append (spell_word 0) (spell_opaque machine ++ (front ++ spell_words c.gids)),
    )

-- groups behind these
gids_spelled : (gids front : List ℕ) → AreWords gids → Spells (listed group (length gids) front) (front ++ gids)
    (spell_words gids)
unfolding listed
gids_spelled [] front fit = (append-nil front, refl)
gids_spelled (n ∷ gids) front fit =
    let whole : (front ++ n ∷ []) ++ gids ≡ front ++ n ∷ gids = append_assoc front (n ∷ []) gids in (
      n,
      spell_words gids,
      (fit 0, refl),
      refl,
      subst (λ (all : List ℕ). Spells
          (listed group (length gids) (front ++ n ∷ [])) all (spell_words gids)) whole
          (gids_spelled gids (front ++ n ∷ []) (λ i. fit (suc i))),
    )

-- the rest of a credential from the groups on
with_gids : (uid gid count : ℕ) → Grammar Cred
with_gids uid gid count = and_then (listed group count []) λ gids. gives (record { uid = uid; gid = gid; gids = gids })

with_gids_spelled : (c : Cred) → AreWords c.gids → Spells (with_gids c.uid c.gid (length c.gids)) c (spell_words c.gids)
unfolding with_gids
with_gids_spelled c fit =
    subst (λ (text : List ℕ). Spells (with_gids c.uid c.gid (length c.gids)) c text) (append-nil (spell_words c.gids))
    (spells_after (listed group (length c.gids) []) (λ gids. gives
    (record { uid = c.uid; gid = c.gid; gids = gids })) c.gids c (spell_words c.gids) []
    (gids_spelled c.gids [] fit) (refl, refl))

pub cred_spelled : (c : Cred) → c.uid < 2 ^ 32 → c.gid < 2 ^ 32 → length c.gids ≤ 16 → AreWords c.gids
    → Spells auth_sys c (cred_text c)
unfolding auth_sys cred_text with_gids
cred_spelled c uid gid few fit = (
  0,
  _,
  (omega arith, refl),
  refl,
  (
    machine,
    _,
    (omega arith, omega arith, refl),
    refl,
    (
      c.uid,
      _,
      (uid, refl),
      append_assoc (spell_word c.uid) (spell_words (c.gid ∷ length c.gids ∷ [])) (spell_words c.gids),
      (
        c.gid,
        _,
        (gid, refl),
        append_assoc (spell_word c.gid) (spell_words (length c.gids ∷ [])) (spell_words c.gids),
        (
          length c.gids,
          spell_words c.gids,
          (omega (arith, few), le-leb (length c.gids) 16 few),
          append_assoc (spell_word (length c.gids)) [] (spell_words c.gids),
          with_gids_spelled c fit,
        ),
      ),
    ),
  ),
)

pub cred_known : (c : Cred) (body : List ℕ) → Spells auth_sys c body → cred_in 1 body ≡ Some c
unfolding cred_in
cred_known c body s = ap value_of (whole_again auth_sys c body s)

value_ok : {A : Type 0} (r : Result A Stop) (a : A) → value_of r ≡ Some a → r ≡ Ok a
value_ok (Ok b) a e = let same : b ≡ a = cc in ap (λ v. Ok v) same
value_ok (Err stop) a e = absurd cc

abbrev same_cred : Cred → Cred
same_cred c = c

pub cred_only : (body : List ℕ) (c : Cred) → IsBytes body → cred_in 1 body ≡ Some c → Spells auth_sys c body
unfolding cred_in
cred_only body c fits e = (is_reading same_cred auth_sys body (Ok c) fits
    (value_ok (reads_all auth_sys body) c e)).found

-- ---- the header

abbrev pub header_of : (xid prog vers proc : ℕ) → Cred → Header
header_of xid prog vers proc cred =
    record { xid = xid; kind = 0; rpcvers = 2; prog = prog; vers = vers; proc = proc; cred = Some cred }

-- numbers that are words
pub record AreShort (xid prog vers proc : ℕ) : Type 0 where
  pub xid_fits : xid < 2 ^ 32
  pub prog_fits : prog < 2 ^ 32
  pub vers_fits : vers < 2 ^ 32
  pub proc_fits : proc < 2 ^ 32

pub header_spelled : (xid prog vers proc : ℕ) (cred : Cred) → AreShort xid prog vers proc
    → Spells auth_sys cred (cred_text cred) → length (cred_text cred) ≤ 400
    → Spells header (header_of xid prog vers proc cred) (call_front xid prog vers proc cred)
unfolding header call_front
header_spelled xid prog vers proc cred short s le =
    let behind = spell_opaque (cred_text cred) ++ (spell_word 0 ++ spell_opaque []) in
    let says : header_of xid prog vers proc cred ≡
    (let h : Header = record {
      xid = xid;
      kind = 0;
      rpcvers = 2;
      prog = prog;
      vers = vers;
      proc = proc;
      cred = cred_in 1 (cred_text cred);
    } in h)
    = rw (cred_known cred (cred_text cred) s) refl in (
      xid,
      _,
      (short.xid_fits, refl),
      append_assoc (spell_word xid) (spell_words (0 ∷ 2 ∷ prog ∷ vers ∷ proc ∷ 1 ∷ [])) behind,
      (
        0,
        _,
        (omega arith, refl),
        append_assoc (spell_word 0) (spell_words (2 ∷ prog ∷ vers ∷ proc ∷ 1 ∷ [])) behind,
        (
          2,
          _,
          (omega arith, refl),
          append_assoc (spell_word 2) (spell_words (prog ∷ vers ∷ proc ∷ 1 ∷ [])) behind,
          (
            prog,
            _,
            (short.prog_fits, refl),
            append_assoc (spell_word prog) (spell_words (vers ∷ proc ∷ 1 ∷ [])) behind,
            (
              vers,
              _,
              (short.vers_fits, refl),
              append_assoc (spell_word vers) (spell_words (proc ∷ 1 ∷ [])) behind,
              (
                proc,
                _,
                (short.proc_fits, refl),
                append_assoc (spell_word proc) (spell_words (1 ∷ [])) behind,
                (
                  1,
                  _,
                  (omega arith, refl),
                  append_assoc (spell_word 1) [] behind,
                  (
                    cred_text cred,
                    _,
                    (omega (arith, le), le, refl),
                    refl,
                    (
                      0,
                      _,
                      (omega arith, refl),
                      refl,
                      (
                        [],
                        [],
                        (omega arith, omega arith, refl),
                        sym (append-nil (spell_opaque [])),
                        (says, refl),
                      ),
                    ),
                  ),
                ),
              ),
            ),
          ),
        ),
      ),
    )

-- ---- what it means

same_meaning : (message : List ℕ) (f g : HasHeader message) → verdict f.says (length f.text) ≡ verdict g.says
    (length g.text)
same_meaning message f g =
    let n : 0 + length f.text ≡ length f.text = omega arith in
    let m : 0 + length g.text ≡ length g.text = omega arith in
    let one : head_of (reads header (start message)) ≡ verdict f.says (0 + length f.text) =
    ap head_of (ap (λ (t : List ℕ). reads header (start t)) f.whole
    ∙ reads_again header f.says f.text f.args 0 f.spelled) in
    let two : head_of (reads header (start message)) ≡ verdict g.says (0 + length g.text) =
    ap head_of (ap (λ (t : List ℕ). reads header (start t)) g.whole
    ∙ reads_again header g.says g.text g.args 0 g.spelled) in
    sym (one ∙ ap (verdict f.says) n) ∙ two ∙ ap (verdict g.says) m

means : (message : List ℕ) (f : HasHeader message) → IsHead message (verdict f.says (length f.text))
means message f = record {
  silent = λ none. absurd (none f);
  told = λ g.
      same_meaning message f g;
  found = λ answered. f;
}

is_program : (prog : ℕ) → (prog ≡ 100003) ⊎ (prog ≡ 100005) → (prog == 100003 || prog == 100005) ≡ true
is_program prog (inl e) = rw e refl
is_program prog (inr e) = rw e refl

served_call : (xid prog vers proc at : ℕ) (cred : Cred) → IsServed prog vers proc
    → verdict (header_of xid prog vers proc cred) at ≡ Call xid prog vers proc cred at
unfolding verdict
served_call xid prog vers proc at cred s =
    let program = is_program prog s.program in
    let version : (vers == version_of prog) ≡ true = eq-eqb vers (version_of prog) s.version in
    let procedure : nat_le proc (last_of prog) ≡ true = le-leb proc (last_of prog) s.procedure in
    rw (program, version, procedure) refl

pub call_again : (xid prog vers proc : ℕ) (cred : Cred) (args : List ℕ)
    → Spells header (header_of xid prog vers proc cred) (call_front xid prog vers proc cred) → IsServed prog vers proc
    → IsHead (call_front xid prog vers proc cred ++ args) (Call xid prog vers proc cred
    (length (call_front xid prog vers proc cred)))
call_again xid prog vers proc cred args s served =
    let text = call_front xid prog vers proc cred in
    let f : HasHeader (text ++ args) =
    record { says = header_of xid prog vers proc cred; text = text; args = args; spelled = s; whole = refl } in
    subst (λ (h : CallHead). IsHead (text ++ args) h) (served_call xid prog vers proc (length text) cred served)
    (means (text ++ args) f)
