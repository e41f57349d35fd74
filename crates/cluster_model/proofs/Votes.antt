-- Words: what f + 1 equal words, and 2f + 1 equal root words, say at a moment that is fair and right.
use Rattle.std.proofs.Common.{◌≡◌, ℕ, ◌+◌, ◌≤◌, Bool, true, false, cond, List, [], ◌∷◌, length, refl, sym, ap, subst, arith}
use Rattle.std.specs.Prelude.{Option, Some, None, ◌==◌}
use Rattle.std.specs.List.{count_by, All}
use Rattle.std.proofs.lemmas.List.Elements.{All-contains, All-head, All-tail}
use Rattle.std.proofs.lemmas.Slice.Eq.{bytes_eq-Decides}
use Rattle.std.proofs.lemmas.Bool.{eqb-true}
use Rattle.nfs2_types.specs.declared.Word.{Word}
use Rattle.nfs2_types.specs.declared.Word.TheVariants.{Silent}
use Rattle.nfs2_types.specs.declared.Word.TheVariants.{Reply}
use Rattle.cluster_model.specs.Service.{Service, same_word, array_at}
use Rattle.cluster_model.specs.Tree.{root}
use Rattle.cluster_model.specs.State.{State, is_unsound, lookup, is_word, is_digest, says, says_root}
use Rattle.cluster_model.specs.Moments.{votes, root_votes}
use Rattle.cluster_model.specs.Right.{IsRightReplica, IsRight, IsRightWord, IsRightRoot}
use Rattle.cluster_model.proofs.Counting.{count_by_more}
use Rattle.cluster_model.proofs.Seats.{sound_right}

pub same_word-true : (a b : Word) → same_word a b ≡ true → a ≡ b
same_word-true Silent Silent e = refl
same_word-true (Reply a) (Reply b) e = ap Reply ((bytes_eq-Decides a b).0 e)
same_word-true Silent (Reply b) e = absurd (cc)
same_word-true (Reply a) Silent e = absurd (cc)

pub is_word-true : (w : Word) (o : Option Word) → is_word w o ≡ true → o ≡ Some w
is_word-true w None e = absurd (cc)
is_word-true w (Some v) e = ap Some (sym (same_word-true w v e))

pub is_digest-true : (d : List ℕ) (o : Option (List ℕ)) → is_digest d o ≡ true → o ≡ Some d
is_digest-true d None e = absurd (cc)
is_digest-true d (Some v) e = ap Some (sym ((bytes_eq-Decides d v).0 e))

-- what holds of each pair of a map holds of what is looked up
pub All-lookup : {X : Type 0} (P : ℕ × X → Type 0) (k : ℕ) (x : X) (ps : List (ℕ × X)) → All P ps →
    lookup k ps ≡ Some x → P (k, x)
All-lookup P k x [] h e = absurd (cc)
All-lookup {X} P k x (p ∷ ps) h e = found (All-lookup P k x ps (All-tail P p ps h)) (p.0 == k) refl e
  where
    found : (lookup k ps ≡ Some x → P (k, x)) → (b : Bool) → (p.0 == k) ≡ b → cond b (Some p.1) (lookup k ps) ≡ Some x →
        P (k, x)
    found rest true t g = let same : p.0 ≡ k = eqb-true p.0 k t in let value : p.1 ≡ x = cc in
        let Q : ℕ → Type 0 = λ n. P (n, x) in let R : X → Type 0 = λ y. P (p.0, y) in
        subst Q same (subst R value (All-head P p ps h))
    found rest false t g = rest g

-- f + 1 equal words for a place are the right word
pub votes_right : (S : Service) (s : State) (p : ℕ) (w : Word) → IsRight S s → count_by is_unsound s.replicas ≤ S.f →
    S.f + 1 ≤ votes p w s → IsRightWord S s.requests (length s.requests) (p, w)
votes_right S s p w h fair enough =
    let found = count_by_more (says p w) is_unsound s.replicas (omega arith) in
    let x = found.0 in
    let sound = sound_right S s.requests x
    (All-contains (IsRightReplica S s.requests) s.replicas x h.replicas found.1) found.3 in
    let fact = All-lookup (IsRightWord S s.requests sound.live.place) p w x.words sound.right.said
    (is_word-true w (lookup p x.words) found.2) in
    let place : sound.live.place ≤ length s.requests = sound.right.place in
    let passed : p ≤ sound.live.place = fact.1 in
    (fact.0, omega arith, fact.2)

-- f + 1 equal root words for a place, as in any 2f + 1, are the right root
pub root_votes_right : (S : Service) (s : State) (p : ℕ) (d : List ℕ) → IsRight S s →
    count_by is_unsound s.replicas ≤ S.f →
    S.f + 1 ≤ root_votes p d s → (1 ≤ p) × (p ≤ length s.requests) × (d ≡ root S (array_at S s.requests p))
root_votes_right S s p d h fair enough =
    let found = count_by_more (says_root p d) is_unsound s.replicas (omega arith) in
    let x = found.0 in
    let sound = sound_right S s.requests x
    (All-contains (IsRightReplica S s.requests) s.replicas x h.replicas found.1) found.3 in
    let fact = All-lookup (IsRightRoot S s.requests sound.live) p d x.roots sound.right.rooted
    (is_digest-true d (lookup p x.roots) found.2) in
    let place : sound.live.place ≤ length s.requests = sound.right.place in
    let passed : p ≤ sound.live.place = fact.1 in
    (fact.0, omega arith, fact.2)
