-- The service, whole.
use Rattle.std.proofs.Common.{◌≡◌, ◌⊎◌, ℕ, ◌^◌, ◌<◌, ◌≤◌, sym, ◌∙◌, ap, inl, inr, arith}
use Rattle.sha2.specs.Sha256.{sha256}
use Rattle.sha2.proofs.Facts256.{length-sha256}
use Rattle.nfs2_types.specs.declared.Limits.{Limits}
use Rattle.cluster_model.specs.Right.{IsOrderly, IsLawful}
use Rattle.service_laws.specs.Text.{spelling}
use Rattle.service_laws.specs.Served.{levels_of, IsSized, service}
use Rattle.service_laws.proofs.Orderly.{orderly}
use Rattle.service_laws.proofs.Spelled.{lawful}

tree_sized : (n : ℕ) → (n ≡ 16) ⊎ ((n ≡ 256) ⊎ (n ≡ 4096)) → n ≡ 16 ^ levels_of n
tree_sized n (inl e) = e ∙ sym (ap (λ k. 16 ^ levels_of k) e)
tree_sized n (inr (inl e)) = e ∙ sym (ap (λ k. 16 ^ levels_of k) e)
tree_sized n (inr (inr e)) = e ∙ sym (ap (λ k. 16 ^ levels_of k) e)

record Sizes (n : ℕ) : Type 0 where
  some : 1 ≤ n
  small : n < 2 ^ 32

sizes : (n : ℕ) → (n ≡ 16) ⊎ ((n ≡ 256) ⊎ (n ≡ 4096)) → Sizes n
sizes n (inl e) = record { some = omega arith; small = omega arith }
sizes n (inr (inl e)) = record { some = omega arith; small = omega arith }
sizes n (inr (inr e)) = record { some = omega arith; small = omega arith }

pub service_lawful : (limits : Limits) → IsSized limits → IsLawful (service limits)
unfolding service
service_lawful limits h =
    let s = sizes limits.n h.entries in
    lawful limits limits.k (levels_of limits.n) sha256 s.some
    (tree_sized limits.n h.entries) s.small h.space length-sha256

pub service_orderly : (limits : Limits) → IsOrderly (service limits)
unfolding service
service_orderly limits = orderly limits limits.k (spelling limits (levels_of limits.n) sha256)
