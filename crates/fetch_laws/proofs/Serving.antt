-- What is asked of a source in a fetch: an item of the tree, whose real text is wanted.
use Rattle.std.proofs.Common.{◌≡◌, ◌⊎◌, ℕ, ◌^◌, List, ◌∷◌, length, inl, inr, refl, sym, ap, ◌∙◌}
use Rattle.nfs2_types.specs.declared.Limits.{Limits}
use Rattle.abs_model.specs.declared.Entry.{Entry}
use Rattle.cluster_model.specs.Tree.{item}
use Rattle.cluster_model.specs.Fair.{IsItem}
use Rattle.service_laws.specs.Served.{levels_of, IsSized, service}
use Rattle.partition_tree.proofs.Places.{same_levels}
use Rattle.replica.proofs.EmptyArray.{length-digests_from}
use Rattle.state_transfer.proofs.Walks.{Pair, Gots}
use Rattle.state_transfer.proofs.Rising.{next_inside}
use Rattle.recovery.specs.Rebuilt.{Rebuilt, HasFetched}
use Rattle.recovery.specs.Real.{HasRealTexts}

-- the service has the real texts
pub service_real : (limits : Limits) → HasRealTexts (service limits)
unfolding service
service_real limits = record {
  text = λ i e. refl;
  nodes = record { digest = λ t. refl; node = λ l k ds. refl; parts = λ t. refl };
}

-- its tree has as many entries as the service
pub tree_size : (limits : Limits) → IsSized limits → limits.n ≡ 16 ^ (service limits).levels
unfolding service
tree_size limits sized = by limits.n sized.entries
  where
    by : (n : ℕ) → (n ≡ 16) ⊎ ((n ≡ 256) ⊎ (n ≡ 4096)) → n ≡ 16 ^ levels_of n
    by n (inl e) = e ∙ sym (ap (λ k. 16 ^ levels_of k) e)
    by n (inr (inl e)) = e ∙ sym (ap (λ k. 16 ^ levels_of k) e)
    by n (inr (inr e)) = e ∙ sym (ap (λ k. 16 ^ levels_of k) e)

module _ (limits : Limits) (sized : IsSized limits) (A : List Entry) (got : Gots) (b : Rebuilt)
    (h : HasFetched A got b) where
  -- over an array of the service a fetch goes down as many levels
  pub fetched_levels : length A ≡ limits.n → b.fetch.levels ≡ (service limits).levels
  fetched_levels size = same_levels b.fetch.levels (service limits).levels
      (sym h.size ∙ ap length h.own ∙ length-digests_from 0 A ∙ size ∙ tree_size limits sized)

  -- and what is next lies in the tree
  pub next_is_item : b.fetch.levels ≡ (service limits).levels → (x : Pair) (xs : List Pair) →
      b.fetch.stand.rest ≡ x ∷ xs → IsItem (service limits) (item b.fetch.stand.level x.0)
  next_is_item same x xs rest =
      next_inside (service limits) b.fetch.own b.fetch.place b.fetch.levels b.root got b.fetch same h.leads x xs rest
