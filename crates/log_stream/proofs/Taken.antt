-- What is taken from a source, in steps.
use Rattle.std.proofs.Common.{◌≡◌, ℕ, ◌+◌, ◌-◌, ◌<◌, ◌≤◌, List, [], ◌++◌, length, take, drop, Option, Some, None, Ok, Err, refl, sym, ap, subst, ◌∙◌, append_assoc, length-append, arith}
use Rattle.std.specs.Io.KnownBytes.{Consumes, Keeps, IsAtEnd}
use Rattle.std.proofs.lemmas.List.{append-nil, length-take-le, take_all, drop_all, length-drop}
use Rattle.std.proofs.Math.Seq.{take-append-add}
use borrow.Rule.Slice.PartMut.{put_mid}
use Rattle.log_stream.specs.declared.fault.ReadErr.TheVariants.{Failed, Wrong}
use Rattle.log_stream.specs.Reading.{Fills}

-- nothing is taken
pub Consumes-none : (left : Option (List ℕ)) → Consumes left left []
Consumes-none None = tt
Consumes-none (Some xs) = refl

-- one after the other
pub Consumes-then : (old mid new : Option (List ℕ)) (a b : List ℕ) → Consumes old mid a → Consumes mid new b →
    Consumes old new (a ++ b)
Consumes-then None mid new a b p q = tt
Consumes-then (Some xs) None new a b p q = absurd p
Consumes-then (Some xs) (Some ys) None a b p q = absurd q
Consumes-then (Some xs) (Some ys) (Some zs) a b p q = p ∙ ap (λ (t : List ℕ). a ++ t) q ∙ sym (append_assoc a b zs)

-- a call that takes nothing
pub Consumes-keeps : (old mid new : Option (List ℕ)) (a : List ℕ) → Consumes old mid a → Keeps mid new →
    Consumes old new a
Consumes-keeps None mid new a p q = tt
Consumes-keeps (Some xs) None new a p q = absurd p
Consumes-keeps (Some xs) (Some ys) None a p q = absurd q
Consumes-keeps (Some xs) (Some ys) (Some zs) a p q = p ∙ ap (λ (t : List ℕ). a ++ t) (sym q)

-- ---- filling a buffer

-- the front of the buffer is what was taken
pub record Filling (old left : Option (List ℕ)) (buf : List ℕ) (filled : ℕ) : Type 0 where
  pub consumed : Consumes old left (take filled buf)
  pub within : filled ≤ length buf

pub filling_more : (old mid new : Option (List ℕ)) (buf got : List ℕ) (filled count : ℕ) → Filling old mid buf filled →
    length got ≡ length buf - filled → count ≤ length got
    → Consumes mid new (take count got) → Filling old new (put_mid filled (length buf - filled) buf got)
    (filled + count)
filling_more old mid new buf got filled count f len le q =
    let front : length (take filled buf) ≡ filled = length-take-le filled buf f.within in
    let past : drop (length buf - filled) (drop filled buf) ≡ [] = drop_all (length buf - filled) (drop filled buf)
    (omega (arith, length-drop filled buf)) in
    let whole : put_mid filled (length buf - filled) buf got ≡ take filled buf
    ++ got = ap (λ (t : List ℕ). take filled buf ++ (got ++ t)) past
    ∙ ap (λ (t : List ℕ). take filled buf ++ t) (append-nil got) in
    let taken : take (filled + count) (put_mid filled (length buf - filled) buf got) ≡ take filled buf
    ++ take count got = ap (take (filled + count)) whole
    ∙ subst (λ (n : ℕ). take (n + count) (take filled buf ++ got) ≡ take filled buf ++ take count got) front
    (take-append-add (take filled buf) got count) in
    record {
      consumed = rw taken (Consumes-then old mid new (take filled buf) (take count got) f.consumed q);
      within = rw whole (omega (arith, length-append (take filled buf) got));
    }

pub fills_all : {X : Type 0} (old left : Option (List ℕ)) (buf : List ℕ) (filled : ℕ) (x : X) →
    Filling old left buf filled → length buf ≤ filled → Fills old left buf (Ok x)
fills_all old left buf filled x f le =
    record { taken = take filled buf; consumed = f.consumed; outcome = take_all filled buf le }

-- a part of a buffer that is written as a whole leaves its length
length-put_part : (buf got : List ℕ) (filled : ℕ) → filled ≤ length buf → length got ≡ length buf - filled →
    length (put_mid filled (length buf - filled) buf got) ≡ length buf
length-put_part buf got filled le len =
    let past : drop (length buf - filled) (drop filled buf) ≡ [] = drop_all (length buf - filled) (drop filled buf)
    (omega (arith, length-drop filled buf)) in
    rw past (omega (
      arith,
      length-append (take filled buf) (got ++ []),
      length-append got [],
      length-take-le filled buf le,
    ))

pub fills_failed : {X : Type 0} (old mid left : Option (List ℕ)) (buf got : List ℕ) (filled : ℕ) →
    Filling old mid buf filled → filled < length buf → length got ≡ length buf - filled → Keeps mid left
    → Fills {X = X} old left (put_mid filled (length buf - filled) buf got) (Err Failed)
fills_failed old mid left buf got filled f lt len k = record {
  taken = take filled buf;
  consumed = Consumes-keeps old mid left (take filled buf) f.consumed k;
  outcome = omega (arith, length-take-le filled buf f.within, length-put_part buf got filled f.within len);
}

pub fills_short : {X : Type 0} (old mid left : Option (List ℕ)) (buf got : List ℕ) (filled count : ℕ) →
    Filling old mid buf filled → filled < length buf → length got ≡ length buf - filled → count ≡ 0
    → Consumes mid left (take count got) × (count ≡ 0 → 0 < length got → IsAtEnd left) →
    Fills {X = X} old left (put_mid filled (length buf - filled) buf got) (Err Wrong)
fills_short old mid left buf got filled count f lt len none q =
    let nothing : Consumes mid left [] = subst (λ (n : ℕ). Consumes mid left (take n got)) none q.0 in
    record {
      taken = take filled buf;
      consumed = rw (← append-nil (take filled buf))
          (Consumes-then old mid left (take filled buf) [] f.consumed nothing);
      outcome = (
        omega (arith, length-take-le filled buf f.within, length-put_part buf got filled f.within len),
        q.1 none (omega arith),
      );
    }
