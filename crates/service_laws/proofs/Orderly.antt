-- The first record of laws holds of the machine's answers, whatever the texts are.
use Rattle.std.proofs.Common.{◌≡◌, ℕ, zero, suc, ◌<◌, ◌≤◌, Bool, true, false, List, [], ◌∷◌, length, get_or, refl, sym, ◌∙◌, ap, subst, ⊎_elim, arith}
use Rattle.std.specs.Prelude.{Some, Result, Ok, Err, ◌==◌, ◌||◌, drop, if◌then◌else◌}
use Rattle.std.specs.List.{Contains}
use Rattle.std.proofs.lemmas.Bool.{eq-eqb, cases_lt}
use Rattle.std.proofs.lemmas.Option.{slice_get-get_or, slice_get_past}
use Rattle.nfs2_types.specs.declared.Limits.{Limits}
use Rattle.nfs2_types.specs.declared.Time.{Time}
use Rattle.nfs2_types.specs.Call.{Call}
use Rattle.xdr_core.specs.Grammar.{Stop, reads_all}
use Rattle.rpc_core.specs.declared.CallHead.{CallHead}
use Rattle.rpc_core.specs.declared.CallHead.TheVariants as heads
use Rattle.rpc_core.specs.Call.{head_in}
use Rattle.nfs2_types.specs.declared.Cred.{Cred}
use Rattle.nfs2_args.specs.Forms.{args_form}
use Rattle.abs_model.specs.declared.Entry.{Entry}
use Rattle.abs_model.specs.Array.{entry_at, null_entry}
use Rattle.abs_model.specs.Machine.{array_after, told}
use Rattle.abs_model.proofs.Untold.{untold_is_kept}
use Rattle.abs_model.proofs.Within.{same_length}
use Rattle.cluster_model.specs.declared.request.Request.{Request}
use Rattle.cluster_model.specs.Service.{Service}
use Rattle.cluster_model.specs.Tree.{text_of, entry_text}
use Rattle.cluster_model.specs.Right.{IsOrderly, is_told}
use Rattle.dispatch.specs.Answer.{Answer, answer, stays, by_args, by_head, accepted, mount_word}
use Rattle.mount1_proto.specs.Forms.{mount_form}
use Rattle.service_laws.specs.Real.{Spelling, real}

-- an answer is that of the machine, or changes nothing
module _ (A : List Entry) (limits : Limits) (t : Time) (P : Answer → Type 0)
    (nothing : (a : Answer) → a.array ≡ A → a.told ≡ [] → P a)
    (made : (xid : ℕ) (cred : Cred) (call : Call) → P (accepted A limits t xid cred call)) where
  args_cases : (xid : ℕ) (cred : Cred) (r : Result Call Stop) → P (by_args A limits t xid cred r)
  args_cases xid cred (Err e) = nothing _ refl refl
  args_cases xid cred (Ok call) = made xid cred call

  head_cases : (bytes : List ℕ) (h : CallHead) → P (by_head A limits t bytes h)
  head_cases bytes heads.Silent = nothing _ refl refl
  head_cases bytes (heads.Refuse xid why) = nothing _ refl refl
  head_cases bytes (heads.Call xid prog vers proc cred args_at) = by (prog == 100003)
    where
      by : (b : Bool) → P (if b then by_args A limits t xid cred
          (reads_all (args_form proc) (drop args_at bytes)) else stays A
          (mount_word A xid (reads_all (mount_form proc) (drop args_at bytes))))
      by true = args_cases xid cred (reads_all (args_form proc) (drop args_at bytes))
      by false = nothing _ refl refl

  pub answer_cases : (bytes : List ℕ) → P (answer A limits t bytes)
  unfolding answer
  answer_cases bytes = head_cases bytes (head_in bytes)

none_told : (xs : List ℕ) (i : ℕ) → is_told i xs ≡ false → Contains xs i → ⊥
none_told xs i e h = by xs h.0 e h.1 h.2
  where
    by : (ys : List ℕ) (k : ℕ) → is_told i ys ≡ false → k < length ys → get_or ys k i ≡ i → ⊥
    by [] k e low same = absurd (omega arith)
    by (y ∷ ys) zero e low same = absurd
        (let t : (y == i) ≡ true = eq-eqb y i same in let u : is_told i (y ∷ ys) ≡ true = ap
        (λ b. b || is_told i ys) t in cc)
    by (y ∷ ys) (suc k) e low same = by ys k (rest (y == i) e) (omega arith) same
      where
        rest : (b : Bool) → (b || is_told i ys) ≡ false → is_told i ys ≡ false
        rest true f = absurd (cc)
        rest false f = f

-- entries that are equal have one text
same_text : (S : Service) (a b : List Entry) (i : ℕ) → length b ≡ length a → entry_at b i ≡ entry_at a i →
    text_of S b i ≡ text_of S a i
same_text S a b i size e = ⊎_elim
    (λ low. ap (entry_text S i)
    (slice_get-get_or b i null_entry (subst (λ n. i < n) (sym size) low) ∙ ap Some e
    ∙ sym (slice_get-get_or a i null_entry low)))
    (λ high. ap (entry_text S i)
    (slice_get_past b i (subst (λ n. n ≤ i) (sym size) high) ∙ sym (slice_get_past a i high)))
    (cases_lt i (length a))

pub orderly : (limits : Limits) (k : ℕ) (T : Spelling) → IsOrderly (real limits k T)
orderly limits k T = record {
  as_long = long;
  untold = λ a q i e. answer_cases a limits q.time
      (λ r. is_told i r.told ≡ false → text_of (real limits k T) r.array i ≡ text_of (real limits k T) a i)
      (λ r same none f. ap (λ b. text_of (real limits k T) b i) same)
      (λ xid cred call f. same_text (real limits k T) a (array_after a limits cred q.time call) i
      (same_length a limits cred q.time call)
      (untold_is_kept a limits cred q.time call i (none_told (told a limits cred q.time call) i f)))
      q.bytes e;
  saves_told = λ a told i e. e;
}
  where
    long : (a : List Entry) (q : Request) → length (answer a limits q.time q.bytes).array ≡ length a
    long a q = answer_cases a limits q.time (λ r. length r.array ≡ length a) (λ r same none. ap length same)
        (λ xid cred call. same_length a limits cred q.time call) q.bytes
