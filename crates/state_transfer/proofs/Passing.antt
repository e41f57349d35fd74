-- What a fetch answers for bytes, by what its walk made of them.
use Rattle.std.proofs.Common.{◌≡◌, ◌≢◌, ℕ, zero, suc, ◌+◌, ◌-◌, ◌<◌, Bool, true, false, List, [], ◌∷◌, ◌++◌, drop, refl, sym, ap, subst, ◌∙◌, arith, inl, inr, Result, Ok, Err}
use Rattle.std.specs.Prelude.{IfOk, not, bytes_eq}
use Rattle.std.proofs.lemmas.Bool.{cases_Bool, false≢true}
use Rattle.std.proofs.lemmas.Slice.Eq.{bytes_eq-Decides}
use Rattle.sha2.specs.Sha256.{sha256}
use Rattle.nfs2_types.specs.declared.NoMemory.{NoMemory}
use Rattle.abs_model.specs.declared.Change.{Change}
use Rattle.abs_text.specs.Node.{IsNodeText}
use Rattle.partition_tree.specs.Digests.{digest_at}
use Rattle.state_transfer.specs.declared.item.Taken.{Taken}
use Rattle.state_transfer.specs.declared.item.Taken.TheVariants.{Good, Wrong}
use Rattle.state_transfer.specs.declared.walk.Walk.{Walk}
use Rattle.state_transfer.specs.Stand.{Own, Stand, differing, expected, settled, goes_on, after}
use Rattle.state_transfer.specs.Fetch.{Fetch, HasForm, Adds, counted, Takes, IsAnswer}
use Rattle.state_transfer.specs.Walk.{stand_of, fetch_of, IsAsBefore, Passes}
use Rattle.state_transfer.proofs.Settling.{Item, tail_is}

pub not_same : (a b : List ℕ) → not (bytes_eq a b) ≡ true → a ≢ b
not_same a b is e = false≢true (sym (ap not ((bytes_eq-Decides a b).1 e)) ∙ is)

pub are_same : (a b : List ℕ) → not (bytes_eq a b) ≡ false → a ≡ b
are_same a b is = elim (cases_Bool (bytes_eq a b)) as (λ _. a ≡ b) [
  | inl t ↦ (bytes_eq-Decides a b).0 t
  | inr f ↦ absurd (false≢true (sym is ∙ ap not f))
]

-- Above the entries

pub node_form : (l number : ℕ) (text : List ℕ) → 0 < l → IsNodeText l number text → HasForm l number text
node_form zero number text some k = absurd (omega (arith, some))
node_form (suc l) number text some k = k

pub node_stand : (own : Own) (l number : ℕ) (rest lower : List Item) (text : List ℕ) → 0 < l →
    settled l rest (lower ++ differing own (l - 1) (expected number text)) ≡ goes_on own l number rest lower text
node_stand own zero number rest lower text some = absurd (omega (arith, some))
node_stand own (suc l) number rest lower text some =
    let e : suc l - 1 ≡ l = omega arith in
    ap (λ (m : ℕ). settled (suc l) rest (lower ++ differing own m (expected number text))) e

pub node_counted : (l nodes : ℕ) → 0 < l → nodes + 1 ≡ counted l nodes
node_counted zero nodes some = absurd (omega (arith, some))
node_counted (suc l) nodes some = refl

pub node_adds : (l number : ℕ) (text : List ℕ) (old new : List Change) → 0 < l → new ≡ old → Adds l number text old new
node_adds zero number text old new some e = absurd (omega (arith, some))
node_adds (suc l) number text old new some e = e

-- Answers

after_is : (own : Own) (s : Stand) (text : List ℕ) (x : Item) (xs : List Item) → s.rest ≡ x ∷ xs →
    after own s text ≡ goes_on own s.level x.0 xs s.lower text
after_is own s text x xs e =
    ap (λ (rest : List Item). elim rest as (λ _. Stand) [ [] ↦ s | x ∷ xs ↦ goes_on own s.level x.0 xs s.lower text ]) e

module _ (leaves : List (List ℕ)) (place : ℕ) (old new : Walk) (y : Item) (text : List ℕ)
    (levels : new.levels ≡ old.levels) (digest : sha256 text ≡ y.1)
    (here : (x : Item) (xs : List Item) → drop old.next old.wanted.items ≡ x ∷ xs → y ≡ x) where
  same_fetch : IsAsBefore old new → fetch_of leaves place new ≡ fetch_of leaves place old
  same_fetch k = λ i. record {
    own = leaves;
    place = place;
    levels = levels i;
    stand = k.stand i;
    nodes = k.nodes i;
    changes = k.changes i;
  }

  pub answered : (r : Result Taken NoMemory) → Passes (digest_at leaves) y.0 text old new r →
      IfOk r (IsAnswer text (fetch_of leaves place old) (fetch_of leaves place new))
  answered (Ok Good) p = λ x xs e.
      let item = here x xs e in
      let own = digest_at leaves in
      record {
        fits = record {
          digest = digest ∙ ap (λ (z : Item). z.1) item;
          form = subst (λ (z : Item). HasForm old.level z.0 text) item p.form;
        };
        same = (refl, refl, levels);
        stand = p.stand
            ∙ ap (λ (r : List Item). goes_on own old.level y.0 r old.lower.items text)
            (tail_is old.wanted.items old.next x xs e)
            ∙ ap (λ (z : Item). goes_on own old.level z.0 xs old.lower.items text) item
            ∙ sym (after_is own (stand_of old) text x xs e);
        nodes = p.nodes;
        changes = subst (λ (z : Item). Adds old.level z.0 text old.changes.items new.changes.items) item p.changes;
      }
  answered (Ok Wrong) p =
      (same_fetch p.1, λ x xs e fits. p.0 (subst (λ (z : Item). HasForm old.level z.0 text) (sym (here x xs e)) fits.form))
  answered (Err e) p = tt
