-- What a live replica gives of an item of the tree is what the model's replica gives.
use Rattle.std.proofs.Common.{◌≡◌, ℕ, ◌^◌, List, length, Option, None, Some, All, sym, ap, subst, ◌∙◌}
use Rattle.std.specs.Prelude.{MatchOption}
use Rattle.nfs2_types.specs.declared.Limits.{Limits}
use Rattle.cluster_model.specs.Service.{Service}
use Rattle.cluster_model.specs.Tree.{item}
use Rattle.cluster_model.specs.State.{Checkpoint, Running, Lies, lookup_item}
use Rattle.cluster_model.specs.Fair.{IsItem}
use Rattle.cluster_model.specs.Loose.{given, held_item, lie_or}
use Rattle.service_laws.specs.Served.{IsSized, service}
use Rattle.replica.specs.declared.Replica.{Replica as Runner}
use Rattle.replica.specs.Replicas.{IsOver}
use Rattle.recovery.specs.Served.{IsHeldItem}
use Rattle.recovery.proofs.HeldItems.{held_is}
use Rattle.fetch_laws.proofs.Serving.{service_real, tree_size}
use Rattle.seats.specs.Given.{IsGivenItem}
use Rattle.cluster.specs.OverBench.{IsKeptBy}

module _ (limits : Limits) (sized : IsSized limits) (l : Running) (k : Runner) (keeps : IsKeptBy k l)
    (over : IsOver limits.n k) (size : length l.array ≡ limits.n) where
  abbrev S : Service
  S = service limits

  abbrev Sizes : ℕ → List Checkpoint → Type 0
  Sizes n holds = All (λ (c : Checkpoint). length c.digests ≡ n) holds

  -- each checkpoint that it holds has a digest for each entry
  sizes : Sizes (16 ^ S.levels) l.holds
  sizes = subst (Sizes (16 ^ S.levels)) (sym keeps.holds)
      (subst (λ n. Sizes n k.store.holds) (tree_size limits sized) over.held)

  held : (place level number : ℕ) (text : Option (List ℕ)) → IsItem S (item level number) →
      IsHeldItem place level number l.array k.store text → text ≡ held_item S place l level number
  held place level number text inside is =
      held_is S (service_real limits) l k.store place (size ∙ tree_size limits sized)
      (over.size ∙ tree_size limits sized) (sym keeps.holds) sizes level number text inside is

  pub given_is : (place level number : ℕ) (text : Option (List ℕ)) → IsItem S (item level number) →
      IsGivenItem place level number l.array k text → text ≡ given S place l (item level number)
  given_is place level number text inside is =
      by (lookup_item (item level number) k.lies.items) is
      ∙ ap (λ (lies : Lies). lie_or (lookup_item (item level number) lies.items) (held_item S place l level number))
      (sym keeps.lies)
    where
      by : (lie : Option (List ℕ)) → MatchOption lie (IsHeldItem place level number l.array k.store text)
          (λ lie. text ≡ Some lie) → text ≡ lie_or lie (held_item S place l level number)
      by None h = held place level number text inside h
      by (Some lie) h = h
