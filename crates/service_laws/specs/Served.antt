-- The service that a cluster runs, whole: the machine's answers, the texts of entries and nodes, and
-- SHA-256.
use Rattle.std.specs.Prelude.{◌≡◌, ◌⊎◌, ℕ, ◌^◌, ◌<◌, ◌==◌, if◌then◌else◌}
use Rattle.sha2.specs.Sha256.{sha256}
use Rattle.nfs2_types.specs.declared.Limits.{Limits}
use Rattle.cluster_model.specs.Service.{Service}
use Rattle.service_laws.specs.Real.{real}
use Rattle.service_laws.specs.Text.{spelling}

-- the levels of nodes over so many entries
abbrev pub levels_of : ℕ → ℕ
levels_of n = if n == 16 then 1 else if n == 256 then 2 else 3

-- the limits of a log's header
pub record IsSized (limits : Limits) : Type 0 where
  pub entries : (limits.n ≡ 16) ⊎ ((limits.n ≡ 256) ⊎ (limits.n ≡ 4096))
  pub space : limits.t < 2 ^ 32

-- the service of these limits
unfoldable pub service : Limits → Service
service limits = real limits limits.k (spelling limits (levels_of limits.n) sha256)
