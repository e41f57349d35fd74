-- The service that a cluster runs, as the model sees it: the machine's answers, with some texts and
-- digests.
use Rattle.std.specs.Prelude.{◌≡◌, ℕ, ◌^◌, ◌<◌, true, List, Option, All}
use Rattle.nfs2_types.specs.declared.Limits.{Limits}
use Rattle.nfs2_types.specs.Times.{is_time}
use Rattle.abs_model.specs.declared.Entry.{Entry}
use Rattle.abs_model.specs.Array.{empty_array}
use Rattle.cluster_model.specs.declared.request.Request.{Request}
use Rattle.cluster_model.specs.Service.{Service}
use Rattle.dispatch.specs.Answer.{answer}

-- how texts, digests and nodes are spelled, and what a write past the procedures does
pub record Spelling : Type 1 where
  pub text : ℕ → Entry → List ℕ
  pub digest : List ℕ → List ℕ
  pub levels : ℕ
  pub node : ℕ → ℕ → List (List ℕ) → List ℕ
  pub parts : List ℕ → List (List ℕ)
  pub good : List Entry → Type 0
  pub scratched : List Entry → ℕ → ℕ → List ℕ → Option (List Entry)

-- what the log's grammar says of a request: its time is a moment of words, and its bytes are bytes
pub record FitsRequest (q : Request) : Type 0 where
  pub moment : is_time q.time ≡ true
  pub seconds : q.time.secs < 2 ^ 32
  pub bytes : All (λ c. c < 256) q.bytes

-- a replica may save more than what is told: here exactly that
abbrev pub real : Limits → ℕ → Spelling → Service
real limits k T = record {
  f = limits.f;
  k = k;
  empty = empty_array limits.n;
  next = λ a q. (answer a limits q.time q.bytes).array;
  word = λ a q. (answer a limits q.time q.bytes).word;
  told = λ a q. (answer a limits q.time q.bytes).told;
  saving = λ a told. told;
  text = T.text;
  digest = T.digest;
  levels = T.levels;
  node = T.node;
  parts = T.parts;
  fits = FitsRequest;
  good = T.good;
  scratched = T.scratched;
}
