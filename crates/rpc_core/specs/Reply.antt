-- The bytes of a reply up to its result (RFC 5531, 9).
use Rattle.std.specs.Prelude.{ℕ, List, [], ◌∷◌}
use Rattle.xdr_core.specs.Items.{spell_words}
use Rattle.rpc_core.specs.declared.head.Refusal.{Refusal}
use Rattle.rpc_core.specs.declared.head.Refusal.TheVariants.{RpcMismatch, ProgUnavail, ProgMismatch, ProcUnavail}
use Rattle.rpc_core.specs.declared.head.Refusal.TheVariants.{BadCred, GarbageArgs}

-- the words of a reply behind its xid: REPLY is 1, MSG_ACCEPTED is 0 and MSG_DENIED is 1.
-- An accepted reply has a verifier of flavor 0 and no bytes, its accept_stat, and the arm of that;
-- a denied one has its reject_stat, RPC_MISMATCH 0 or AUTH_ERROR 1, and the arm of that.
abbrev pub refusal_words : Refusal → List ℕ
refusal_words RpcMismatch = 1 ∷ 1 ∷ 0 ∷ 2 ∷ 2 ∷ []
refusal_words ProgUnavail = 1 ∷ 0 ∷ 0 ∷ 0 ∷ 1 ∷ []
refusal_words (ProgMismatch low high) = 1 ∷ 0 ∷ 0 ∷ 0 ∷ 2 ∷ low ∷ high ∷ []
refusal_words ProcUnavail = 1 ∷ 0 ∷ 0 ∷ 0 ∷ 3 ∷ []
refusal_words BadCred = 1 ∷ 1 ∷ 1 ∷ 1 ∷ []
refusal_words GarbageArgs = 1 ∷ 0 ∷ 0 ∷ 0 ∷ 4 ∷ []

-- the whole of a reply that refuses a call
abbrev pub refusal_text : ℕ → Refusal → List ℕ
refusal_text xid why = spell_words (xid ∷ refusal_words why)

-- what stands before the result of a call that succeeded: accept_stat SUCCESS is 0
abbrev pub success_text : ℕ → List ℕ
success_text xid = spell_words (xid ∷ 1 ∷ 0 ∷ 0 ∷ 0 ∷ 0 ∷ [])
