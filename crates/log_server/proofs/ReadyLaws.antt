-- What a server on a log keeps true, before and after its calls.
use Rattle.std.proofs.Common.{Bool, true, false, cond, ◌≡◌, ◌∙◌, ℕ, List, Some, None, IsSome, refl, sym, ap, subst}
use Rattle.std.specs.Prelude.{Result, Ok, Err, IfErr, OnErr, OnOk}
use Rattle.server_trait.specs.Tree.{Server, Tree}
use Rattle.server_trait.specs.Step.{HasTree, IsBroken}
use Rattle.server_trait.specs.declared.server.ServerLimits.{ServerLimits}
use Rattle.server_trait.specs.declared.server.SrvErr.{SrvErr}
use Rattle.log_segments.specs.Segments.{live_records}
use Rattle.log_tree.specs.Held.{Records, handle_of, held, root_id, tree_of}
use Rattle.log_held.specs.Room.{IsLarge}
use Rattle.log_held.proofs.HeldLaws.{held_sound}
use Rattle.log_changes.specs.Kept.{IsKept, log_medium}
use Rattle.log_changes.specs.declared.tree.LogTree.{LogTree}
use Rattle.log_calls.specs.Answers.{stands}
use Rattle.log_calls.specs.State.{Does, Stays, server_of}
use Rattle.log_calls.proofs.StateLaws.{gone_after}
use Rattle.log_server.specs.Ready.{IsReady}
use Rattle.log_server.specs.Served.{Served, held_on, state_of}

root_of : (live : Records) → (tree_of live).root ≡ handle_of root_id
unfolding tree_of
root_of live = refl

module _ {M : Type 0} (content : M → ℕ → List ℕ) (size faults : M → ℕ) where
  -- what callers see of a tree on a log
  abbrev pub seen : Bool → LogTree M → Served M
  seen up t = record { up = up; limits = t.limits; medium = log_medium t }

  -- a server with a tree is up
  up_with : (up : Bool) (t : LogTree M) → HasTree (server_of content size faults up t) → up ≡ true
  up_with true t has = refl
  up_with false t has = absurd (let bad : false ≡ true = has in cc)

  module _ (up : Bool) (t : LogTree M) (s : Served M) (is : seen up t ≡ s)
      (has : HasTree (state_of content size faults s)) where
    pub is_up : up ≡ true
    is_up = up_with up t (subst (λ s. HasTree (state_of content size faults s)) (sym is) has)

    -- its memory is that of the tree
    pub kept : IsReady content size up t → IsKept content size t
    kept ready = ready.kept is_up

    module _ {T : Type 0} (call : Server → Result T SrvErr → Server → Type 0) (r : Result T SrvErr) (new : LogTree M)
        (does : Does content size faults call t r new) (now : Bool) (same : now ≡ stands r) where
      -- what the server answers
      pub answers : call (state_of content size faults s) r (state_of content size faults (seen now new))
      answers = subst (λ s. call (state_of content size faults s) r (state_of content size faults (seen now new))) is
          (subst (λ b. call (server_of content size faults b t) r (server_of content size faults now new)) (sym is_up)
          (subst (λ b. call (server_of content size faults true t) r (server_of content size faults b new)) (sym same)
          does.answers))

  -- what it keeps true
  pub again : (up now : Bool) (old new : LogTree M) → now ≡ up → Stays content size faults up old new
      → IsLarge old.limits (size (log_medium old)) → IsReady content size now new
  again up now old new same stays large = record {
    large = subst (λ (l : ServerLimits). IsLarge l (size (log_medium new))) (sym stays.limits)
        (subst (IsLarge old.limits) (sym stays.size_is) large);
    kept = λ is_now. stays.kept (sym same ∙ is_now);
  }

  -- a new server
  pub begun : (t : LogTree M) (limits : ServerLimits) (medium : M) → log_medium t ≡ medium → t.limits ≡ limits
      → IsLarge limits (size medium) → IsReady content size false t
  begun t limits medium on is large = record {
    large = subst (λ (l : ServerLimits). IsLarge l (size (log_medium t))) (sym is)
        (subst (λ m. IsLarge limits (size m)) (sym on) large);
    kept = λ up. absurd (let bad : false ≡ true = up in cc);
  }

  -- MOUNTS

  holds_same : (old new : LogTree M) → new.limits ≡ old.limits → size (log_medium new) ≡ size (log_medium old)
      → content (log_medium new) ≡ content (log_medium old)
      → held (content (log_medium new)) (size (log_medium new)) new.limits
      ≡ held (content (log_medium old)) (size (log_medium old)) old.limits
  holds_same old new limits same kept =
      ap (λ (f : ℕ → List ℕ). held f (size (log_medium new)) new.limits) kept
      ∙ (ap (λ (b : ℕ). held (content (log_medium old)) b new.limits) same
      ∙ ap (λ (l : ServerLimits). held (content (log_medium old)) (size (log_medium old)) l) limits)

  module _ (up now : Bool) (old new : LogTree M) (s : Served M) (is : seen up old ≡ s) where
    pub mounted : {T : Type 0} (r : Result T SrvErr) → now ≡ stands r → Stays content size faults (stands r) old new
        → content (log_medium new) ≡ content (log_medium old)
        → OnOk r ((state_of content size faults (seen now new)).tree ≡ held_on content size s)
    mounted (Ok x) same stays kept =
        ap (λ b. (state_of content size faults (seen b new)).tree) same
        ∙ (holds_same old new stays.limits stays.size_is kept ∙ ap (held_on content size) is)
    mounted (Err e) same stays kept = tt

    pub unmounted : {T : Type 0} (r : Result T SrvErr) → now ≡ stands r → IfErr r IsBroken
        → OnErr r ((state_of content size faults (seen now new)).tree ≡ None)
    unmounted (Ok x) same broken = tt
    unmounted (Err e) same broken =
        ap (λ b. (state_of content size faults (seen b new)).tree) (same ∙ gone_after e broken)

  -- the medium of a server with a tree holds it
  pub holds_on : (s n : Served M) → HasTree (state_of content size faults s) → n.limits ≡ s.limits → n.medium ≡ s.medium
      → IsSome (held_on content size n)
  holds_on s n has limits medium =
      let same : held_on content size n ≡ held_on content size s =
      ap (λ m. held (content m) (size m) n.limits) medium ∙ ap (λ l. held (content s.medium) (size s.medium) l) limits in
      subst (λ o. IsSome o) (sym same) (elim s.up as (λ b. IsSome (cond b (held_on content size s) None)
      → IsSome (held_on content size s)) [ true ↦ (λ e. e) | false ↦ (λ e. absurd (let bad : false ≡ true = e in cc)) ] has)

  -- THE ROOT

  pub root_is : (s : Served M) (t : Tree) → (state_of content size faults s).tree ≡ Some t → handle_of root_id ≡ t.root
  root_is s t is =
      elim s.up as (λ b. cond b (held_on content size s) None ≡ Some t → handle_of root_id ≡ t.root) [
        | true ↦ (λ e.
            let live = live_records (content s.medium) (size s.medium) in
            sym (ap (λ (t : Tree). t.root) (held_sound s.limits live t e).0 ∙ root_of live))
        | false ↦ (λ e. absurd (let bad : None ≡ Some t = e in cc))
      ] is
