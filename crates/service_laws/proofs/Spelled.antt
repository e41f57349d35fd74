-- The second record of laws holds of the machine's answers, with the texts of entries and nodes, and with any digest of
-- thirty-two bytes.
use Rattle.std.proofs.Common.{◌≡◌, ℕ, ◌+◌, ◌-◌, ◌^◌, ◌<◌, ◌≤◌, Bool, true, false, List, [], ◌++◌, length, take, drop, replicate, refl, sym, ◌∙◌, ap, subst, arith, Some, None, Result, Ok, Err, length-append, length-take, length-drop, ◌∷◌}
use Rattle.std.specs.Prelude.{◌==◌, ◌&&◌, nat_le, if◌then◌else◌, set}
use Rattle.std.specs.List.{All}
use Rattle.std.proofs.lemmas.Bool.{and_parts, leb-true, le-leb}
use Rattle.std.proofs.lemmas.List.{length-replicate}
use Rattle.std.proofs.lemmas.List.Elements.{All-nil, Contains-get_or}
use Rattle.nfs2_types.specs.declared.Limits.{Limits}
use Rattle.nfs2_types.specs.declared.Time.{Time}
use Rattle.nfs2_types.specs.declared.Cred.{Cred}
use Rattle.nfs2_types.specs.Call.{Call}
use Rattle.nfs2_types.specs.Bytes.{resized, overwritten}
use Rattle.xdr_core.specs.Items.{IsBytes}
use Rattle.xdr_core.specs.Grammar.{Stop, reads_all}
use Rattle.rpc_core.specs.declared.CallHead.{CallHead}
use Rattle.rpc_core.specs.declared.CallHead.TheVariants as heads
use Rattle.rpc_core.specs.Call.{head_in}
use Rattle.nfs2_args.specs.Forms.{args_form}
use Rattle.mount1_proto.specs.Forms.{mount_form}
use Rattle.abs_model.specs.declared.entry.Object.{Object}
use Rattle.abs_model.specs.declared.entry.Object.TheVariants.{Null, File, Dir, Link}
use Rattle.abs_model.specs.declared.Entry.{Entry}
use Rattle.abs_model.specs.Objects.{is_null, is_dir, is_file, names_of, attr_of, bytes_of}
use Rattle.abs_model.specs.Array.{entry_at}
use Rattle.abs_model.specs.Machine.{told}
use Rattle.abs_model.specs.Valid.{most_bytes}
use Rattle.abs_model.proofs.Law.{stays_valid}
use Rattle.abs_model.proofs.Within.{told_is_below}
use Rattle.abs_model.proofs.EmptyFacts.{empty_valid}
use Rattle.abs_model.proofs.Shapes.{valid_like, fits_parts, fits_from, live_below, at_set}
use Rattle.cluster_model.specs.Right.{IsSpelled, IsLawful}
use Rattle.dispatch.specs.Answer.{Answer, answer, stays, by_args, by_head, accepted, mount_word}
use Rattle.service_laws.specs.Real.{real}
use Rattle.abs_text.specs.Wordy.{IsWordy, IsGood}
use Rattle.service_laws.specs.Text.{scratched_in, scratched_at, spelling}
use Rattle.service_laws.proofs.Orderly.{orderly, answer_cases}
use Rattle.abs_text.proofs.Apart.{text_apart}
use Rattle.abs_text.proofs.Nodes.{parts_back}
use Rattle.service_laws.proofs.Wordy.{wordy_by, after_wordy, empty_wordy}
use Rattle.service_laws.proofs.Reading.{IsMade, bytes_of_all, made_low}

-- an answer is that of the machine to a call within its bounds, or changes nothing
module _ (A : List Entry) (limits : Limits) (t : Time) (P : Answer → Type 0) (bytes : List ℕ) (fits : IsBytes bytes)
    (nothing : (a : Answer) → a.array ≡ A → a.told ≡ [] → P a)
    (made : (xid : ℕ) (cred : Cred) (call : Call) → IsMade cred call → P (accepted A limits t xid cred call)) where
  args_made : (xid : ℕ) (cred : Cred) (r : Result Call Stop) → ((call : Call) → r ≡ Ok call → IsMade cred call) →
      P (by_args A limits t xid cred r)
  args_made xid cred (Err e) low = nothing _ refl refl
  args_made xid cred (Ok call) low = made xid cred call (low call refl)

  head_made : (h : CallHead) → head_in bytes ≡ h → P (by_head A limits t bytes h)
  head_made heads.Silent e = nothing _ refl refl
  head_made (heads.Refuse xid why) e = nothing _ refl refl
  head_made (heads.Call xid prog vers proc cred args_at) e = by (prog == 100003) refl
    where
      by : (b : Bool) → (prog == 100003) ≡ b →
          P (if b then by_args A limits t xid cred (reads_all (args_form proc) (drop args_at bytes)) else stays A
          (mount_word A xid (reads_all (mount_form proc) (drop args_at bytes))))
      by true nfs = args_made xid cred (reads_all (args_form proc) (drop args_at bytes))
          (λ call ok. made_low bytes fits xid prog vers proc cred args_at e nfs call ok)
      by false nfs = nothing _ refl refl

  pub answer_made : P (answer A limits t bytes)
  unfolding answer
  answer_made = head_made (head_in bytes) refl

-- a write past the procedures keeps an array good

record IsFileOf (e : Entry) : Type 0 where
  names : names_of e ≡ []
  dir : is_dir e ≡ false
  null : is_null e ≡ false
  most : most_bytes e ≡ 1048576

file_of : (e : Entry) → is_file e ≡ true → IsFileOf e
file_of e h = go e.object h
  where
    go : (o : Object) → is_file (record { generation = e.generation; object = o }) ≡ true →
        IsFileOf (record { generation = e.generation; object = o })
    go Null h = absurd (cc)
    go (File a bytes) h = record { names = refl; dir = refl; null = refl; most = refl }
    go (Dir a names) h = absurd (cc)
    go (Link a text) h = absurd (cc)

overwritten_long : (offset : ℕ) (piece bytes : List ℕ) → offset + length piece ≤ length bytes →
    length (overwritten offset piece bytes) ≡ length bytes
overwritten_long offset piece bytes h =
    let front = length-append (resized offset bytes) piece in
    let all = length-append (resized offset bytes ++ piece) (drop (offset + length piece) bytes) in
    let start : length (resized offset bytes) ≡ offset = length_resized offset bytes in
    let rest = length-drop (offset + length piece) bytes in
    omega arith
  where
    length_resized : (size : ℕ) (bytes : List ℕ) → length (resized size bytes) ≡ size
    length_resized size bytes = omega (
      arith,
      length-append (take size bytes) (replicate (size - length bytes) 0),
      length-take size bytes,
      length-replicate {A = ℕ} (size - length bytes) 0,
    )

in_good : (limits : Limits) (A B : List Entry) (i offset : ℕ) (bytes : List ℕ) → IsGood limits A →
    scratched_in A i offset bytes ≡ Some B → IsGood limits B
in_good limits A B i offset bytes good e = by
    (is_file (entry_at A i) && nat_le (offset + length bytes) (length (bytes_of (entry_at A i)))) refl e
  where
    new : Entry
    new = record {
      generation = (entry_at A i).generation;
      object = File (attr_of (entry_at A i)) (overwritten offset bytes (bytes_of (entry_at A i)));
    }

    after : (is_file (entry_at A i) && nat_le (offset + length bytes) (length (bytes_of (entry_at A i)))) ≡ true →
        IsGood limits (set A i
        (record {
          generation = (entry_at A i).generation;
          object = File (attr_of (entry_at A i)) (overwritten offset bytes (bytes_of (entry_at A i)));
        }))
    after h =
        let x = entry_at A i in
        let new : Entry = record {
          generation = x.generation;
          object = File (attr_of x) (overwritten offset bytes (bytes_of x));
        } in
        let parts = and_parts (is_file x) (nat_le (offset + length bytes) (length (bytes_of x))) h in
        let f = file_of x parts.0 in
        let below = live_below A i f.null in
        let own = fits_parts x (good.valid.fits i below) in
        let size : length (overwritten offset bytes (bytes_of x)) ≡ length (bytes_of x) = overwritten_long offset bytes
        (bytes_of x) (leb-true (offset + length bytes) (length (bytes_of x)) parts.1) in
        let old : length (bytes_of x) ≤ most_bytes x = leb-true (length (bytes_of x)) (most_bytes x) own.bytes in
        let most : most_bytes x ≡ 1048576 = f.most in
        let rows = ap length f.names in
        let room = good.valid.room in
        let w = good.wordy i in
        record {
          valid = valid_like limits A i new good.valid below
              (record { generation = refl; names = sym f.names; dir = sym f.dir; null = sym f.null })
              (fits_from new (record {
                attr = own.attr;
                rising = refl;
                named = refl;
                bytes = le-leb (length (overwritten offset bytes (bytes_of x))) 1048576 (omega arith);
              }))
              (omega arith);
          wordy = λ j. at_set IsWordy A i j new
              (wordy_by new w.generation
              (record { uid = w.uid; gid = w.gid; atime = w.atime; mtime = w.mtime; ctime = w.ctime })) (good.wordy j);
        }

    by : (b : Bool) → (is_file (entry_at A i) && nat_le (offset + length bytes) (length (bytes_of (entry_at A i))))
        ≡ b →
        (if b then Some (set A i
        (record {
          generation = (entry_at A i).generation;
          object = File (attr_of (entry_at A i)) (overwritten offset bytes (bytes_of (entry_at A i)));
        })) else None)
        ≡ Some B → IsGood limits B
    by true h f = (let same : set A i
        (record {
          generation = (entry_at A i).generation;
          object = File (attr_of (entry_at A i)) (overwritten offset bytes (bytes_of (entry_at A i)));
        }) ≡ B = cc in
        subst (IsGood limits) same (after h))
    by false h f = absurd (cc)

scratched_good : (limits : Limits) (A B : List Entry) (i offset : ℕ) (bytes : List ℕ) → IsGood limits A →
    scratched_at A i offset bytes ≡ Some B → IsGood limits B
scratched_good limits A B i offset [] good e = absurd (cc)
scratched_good limits A B i offset (b ∷ bytes) good e = in_good limits A B i offset (b ∷ bytes) good e

pub spelled : (limits : Limits) (k levels : ℕ) (digest : List ℕ → List ℕ) → 1 ≤ limits.n → limits.n ≡ 16 ^ levels →
    limits.n < 2 ^ 32 → limits.t < 2 ^ 32 →
    ((t : List ℕ) → length (digest t) ≡ 32) → IsSpelled (real limits k (spelling limits levels digest))
spelled limits k levels digest some tree n t size = record {
  good_empty = record { valid = empty_valid limits some; wordy = empty_wordy limits.n };
  good_next = λ a q fits good. answer_made a limits q.time (λ r. IsGood limits r.array) q.bytes
      (bytes_of_all q.bytes fits.bytes)
      (λ r same none. subst (IsGood limits) (sym same) good)
      (λ xid cred call low. record {
        valid = stays_valid limits a cred q.time call fits.moment low.fits good.valid;
        wordy = after_wordy a limits cred q.time low.caller.uid low.caller.gid fits.seconds good.wordy call low.fields;
      });
  good_scratched = λ a b i offset bytes fits good e. scratched_good limits a b i offset bytes good e;
  good_size = λ a good. good.valid.size ∙ tree;
  saving_within = λ a q good. answer_cases a limits q.time (λ r. All (λ i. i < length a) r.told)
      (λ r same none. subst (All (λ i. i < length a)) (sym none) (All-nil (λ i. i < length a)))
      (λ xid cred call j d low. told_is_below limits a cred q.time call _ good.valid
      (Contains-get_or (told a limits cred q.time call) j d low))
      q.bytes;
  text_is = λ a b ga gb i x y ea eb e. text_apart limits n t a b ga gb i x y ea eb e;
  digest_size = size;
  parts_node = λ l k' ds e h. parts_back l k' ds e h;
}

-- all the laws: with any digest of thirty-two bytes
pub lawful : (limits : Limits) (k levels : ℕ) (digest : List ℕ → List ℕ) → 1 ≤ limits.n → limits.n ≡ 16 ^ levels →
    limits.n < 2 ^ 32 → limits.t < 2 ^ 32 →
    ((t : List ℕ) → length (digest t) ≡ 32) → IsLawful (real limits k (spelling limits levels digest))
lawful limits k levels digest some tree n t size =
    record {
      orderly = orderly limits k (spelling limits levels digest);
      spelled = spelled limits k levels digest some tree n t size;
    }
