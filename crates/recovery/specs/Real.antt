-- Services of the model whose texts and digests are the real ones.
use Rattle.std.specs.Prelude.{◌≡◌, ℕ}
use Rattle.abs_model.specs.declared.Entry.{Entry}
use Rattle.abs_text.specs.Text.{entry_text}
use Rattle.cluster_model.specs.Service.{Service}
use Rattle.state_transfer.specs.Got.{IsReal}

-- a service with the real texts of entries and of nodes, and the real digests
pub record HasRealTexts (S : Service) : Type 0 where
  pub text : (i : ℕ) (e : Entry) → S.text i e ≡ entry_text i e
  pub nodes : IsReal S
