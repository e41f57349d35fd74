-- What is appended to a sink, in steps.
use Rattle.std.proofs.Common.{◌≡◌, ℕ, ◌+◌, ◌<◌, List, [], ◌∷◌, ◌++◌, length, take, drop, get_or, Option, Some, None, Result, Err, sym, ap, subst, ◌∙◌, append_assoc}
use Rattle.std.specs.Prelude.{IsErrAnd}
use Rattle.std.specs.Io.KnownBytes.{Appends, Keeps}
use Rattle.std.proofs.lemmas.Result.{err_from_is_err_and}
use Rattle.std.proofs.lemmas.List.{append-nil, take-append-drop, drop_more}
use Rattle.std.proofs.lemmas.List.Concat.{flat_map-append}
use Rattle.std.proofs.Math.Seq.{take-add}
use Rattle.log_format.specs.declared.Line.{Line}
use Rattle.log_format.specs.Lines.{line_text, text_of}
use Rattle.log_stream.specs.Writing.{Writes}

pub Appends-none : (held : Option (List ℕ)) → Appends held held []
Appends-none None = tt
Appends-none (Some xs) = sym (append-nil xs)

pub Appends-then : (old mid new : Option (List ℕ)) (a b : List ℕ) → Appends old mid a → Appends mid new b →
    Appends old new (a ++ b)
Appends-then None mid new a b p q = tt
Appends-then (Some xs) None new a b p q = absurd p
Appends-then (Some xs) (Some ys) None a b p q = absurd q
Appends-then (Some xs) (Some ys) (Some zs) a b p q = q ∙ ap (λ (t : List ℕ). t ++ b) p ∙ append_assoc xs a b

pub Appends-keeps : (old mid new : Option (List ℕ)) (a : List ℕ) → Appends old mid a → Keeps mid new → Appends old new a
Appends-keeps None mid new a p q = tt
Appends-keeps (Some xs) None new a p q = absurd p
Appends-keeps (Some xs) (Some ys) None a p q = absurd q
Appends-keeps (Some xs) (Some ys) (Some zs) a p q = q ∙ p

-- the front of a text was written, and then a call failed
pub writes_failed : {T E : Type 0} {old new : Option (List ℕ)} {text : List ℕ} {e : E} (mid : Option (List ℕ)) (n : ℕ) →
    Appends old mid (take n text) → Keeps mid new → Writes {T = T} old new text (Err e)
writes_failed {old = old} {new = new} {text = text} mid n p q =
    record {
      part = take n text;
      appended = Appends-keeps old mid new (take n text) p q;
      wrote = (drop n text, sym (take-append-drop n text));
    }

-- the front of a text was written, and then a call took nothing
pub writes_stuck : {T E : Type 0} {old new : Option (List ℕ)} {text : List ℕ} {e : E} (mid : Option (List ℕ))
    (piece : List ℕ) (n count : ℕ) → Appends old mid (take n text) → count ≡ 0 → Appends mid new (take count piece) →
    Writes {T = T} old new text (Err e)
writes_stuck {old = old} {new = new} {text = text} mid piece n count p none q =
    let nothing : Appends mid new [] = subst (λ (k : ℕ). Appends mid new (take k piece)) none q in
    record {
      part = take n text;
      appended = rw (← append-nil (take n text))
          (Appends-then old mid new (take n text) [] p nothing);
      wrote = (drop n text, sym (take-append-drop n text));
    }

-- the front of a text, and more of it
pub Appends-more : (old mid new : Option (List ℕ)) (text piece : List ℕ) (n count : ℕ) → piece ≡ drop n text →
    Appends old mid (take n text) → Appends mid new (take count piece) → Appends old new (take (n + count) text)
Appends-more old mid new text piece n count e p q =
    let more : Appends mid new (take count (drop n text)) = subst
    (λ (t : List ℕ). Appends mid new (take count t)) e q in
    rw (take-add n count text) (Appends-then old mid new (take n text) (take count (drop n text)) p more)

pub writes_exit : {T S E : Type 0} {old new : Option (List ℕ)} {text : List ℕ} {e : E} (r : Result T E) →
    IsErrAnd r (λ d. d ≡ e) → Writes {T = S} old new text (Err e) → Writes old new text r
writes_exit r h q = let p = err_from_is_err_and r h in rw (p.1, p.2)
    (record { part = q.part; appended = q.appended; wrote = q.wrote })

-- some lines were written, and then a part of one
pub lines_failed : {T S E : Type 0} {old mid new : Option (List ℕ)} {e : E} (lines : List Line) (n : ℕ) (line : Line) →
    n < length lines → line ≡ get_or lines n line
    → Appends old mid (text_of (take n lines)) → Writes {T = S} mid new (line_text line) (Err e) →
    Writes {T = T} old new (text_of lines) (Err e)
lines_failed {old = old} {mid = mid} {new = new} lines n line lt is p q =
    let split : lines ≡ take n lines ++ (line ∷ drop (n + 1) lines) = sym (take-append-drop n lines)
    ∙ ap (λ (t : List Line). take n lines ++ t)
    (drop_more lines n line lt ∙ ap (λ (x : Line). x ∷ drop (n + 1) lines) (sym is)) in
    let text : text_of lines ≡ text_of (take n lines) ++ (line_text line ++ text_of (drop (n + 1) lines)) =
    ap text_of split ∙ flat_map-append line_text (take n lines) (line ∷ drop (n + 1) lines) in
    let rest : line_text line ≡ q.part ++ q.wrote.0 = q.wrote.1 in
    record {
      part = text_of (take n lines) ++ q.part;
      appended = Appends-then old mid new (text_of (take n lines)) q.part p q.appended;
      wrote = (
        q.wrote.0 ++ text_of (drop (n + 1) lines),
        text ∙ ap (λ (t : List ℕ). text_of (take n lines) ++ (t ++ text_of (drop (n + 1) lines))) rest
            ∙ simp append_assoc,
      );
    }
