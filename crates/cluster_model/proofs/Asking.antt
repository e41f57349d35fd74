-- A request that is added keeps a state right.
use Rattle.std.proofs.Common.{◌≡◌, ℕ, ◌+◌, ◌≤◌, List, [], ◌∷◌, ◌++◌, length, sym, ◌∙◌, ap, arith}
use Rattle.std.proofs.lemmas.List.{length-append}
use Rattle.std.proofs.lemmas.List.Elements.{All-weaker, All-push}
use Rattle.cluster_model.specs.declared.request.Request.{Request}
use Rattle.nfs2_types.specs.declared.Word.{Word}
use Rattle.cluster_model.specs.Service.{Service, array_at}
use Rattle.cluster_model.specs.Tree.{root, digests, text_of}
use Rattle.cluster_model.specs.State.{Condition, Live, Down, Rebuilding, Running, Checkpoint}
use Rattle.cluster_model.specs.Moments.{Moment}
use Rattle.cluster_model.specs.Step.{asks}
use Rattle.cluster_model.specs.Right.{IsRightLive, IsRightIn, IsRightReplica, IsRight, IsRightWord, IsRightRoot, IsRightCheckpoint}
use Rattle.cluster_model.proofs.Places.{array_at-append, said_at-append}

module _ (S : Service) (q : List Request) (r : Request) where
  abbrev longer : List Request
  longer = q ++ r ∷ []

  length_longer : length longer ≡ length q + 1
  length_longer = length-append q (r ∷ [])

  pub word_longer : (place : ℕ) → place ≤ length q → (w : ℕ × Word) → IsRightWord S q place w →
      IsRightWord S longer place w
  word_longer place low w h = (h.0, h.1, h.2 ∙ sym (said_at-append S q r w.0 (omega (arith, h.1))))

  checkpoint_longer : (l : Running) → l.place ≤ length q → (c : Checkpoint) → IsRightCheckpoint S q l c →
      IsRightCheckpoint S longer l c
  checkpoint_longer l low c h =
      let same : array_at S longer c.place ≡ array_at S q c.place = array_at-append S q r c.place
      (omega (arith, h.passed)) in
      record {
        passed = h.passed;
        listed = h.listed ∙ ap (digests S) (sym same);
        texts = λ i. h.texts i ∙ ap (λ a. text_of S a i) (sym same);
      }

  pub live_longer : (l : Running) (ws : List (ℕ × Word)) (ds : List (ℕ × List ℕ)) → IsRightLive S q l ws ds →
      IsRightLive S longer l ws ds
  live_longer l ws ds h = record {
    array = h.array ∙ sym (array_at-append S q r l.place h.place);
    place = omega (arith, h.place, length_longer);
    lies = h.lies;
    believes = h.believes;
    untold = h.untold;
    ordered = h.ordered;
    holds = All-weaker (IsRightCheckpoint S q l) (IsRightCheckpoint S longer l)
        (checkpoint_longer l h.place) l.holds h.holds;
    said = All-weaker (IsRightWord S q l.place) (IsRightWord S longer l.place) (word_longer l.place h.place) ws h.said;
    rooted = All-weaker (IsRightRoot S q l) (IsRightRoot S longer l)
        (λ d g. (
          g.0,
          g.1,
          g.2 ∙ ap (root S) (sym (array_at-append S q r d.0 (omega (arith, g.1, h.place)))),
          g.3,
        )) ds h.rooted;
  }

  in_longer : (ws : List (ℕ × Word)) (ds : List (ℕ × List ℕ)) (c : Condition) → IsRightIn S q ws ds c →
      IsRightIn S longer ws ds c
  in_longer ws ds (Live l) h = λ u. live_longer l ws ds (h u)
  in_longer ws ds Down h = tt
  in_longer ws ds (Rebuilding b) h = h

pub asks_right : (S : Service) (r : Request) (m : Moment) → S.fits r → IsRight S m.state → IsRight S (asks r m).state
asks_right S r m fits h =
    let s = m.state in
    let q = s.requests in
    let longer = q ++ r ∷ [] in
    let e : length longer ≡ length q + 1 = length-append q (r ∷ []) in
    let low : s.stable ≤ length q = h.stable in
    record {
      size = h.size;
      fit = All-push S.fits q r h.fit fits;
      stable = omega arith;
      stable_root = h.stable_root ∙ ap (root S) (sym (array_at-append S q r s.stable low));
      decided = All-weaker (IsRightWord S q (length q)) (IsRightWord S longer (length longer))
          (λ w g. let f = word_longer S q r (length q) (omega arith) w g in
          (f.0, omega (arith, f.1), f.2)) s.decisions h.decided;
      replicas = All-weaker (IsRightReplica S q) (IsRightReplica S longer)
          (λ x g. in_longer S q r x.words x.roots x.condition g) s.replicas h.replicas;
      sources = h.sources;
    }
