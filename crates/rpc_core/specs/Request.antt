-- The bytes of a call that is made with AUTH_SYS (RFC 5531, 9 and appendix A).
use Rattle.std.specs.Prelude.{ℕ, List, [], ◌∷◌, ◌++◌, ◌≤◌, length, codes}
use Rattle.xdr_core.specs.Items.{spell_word, spell_words, spell_opaque}
use Rattle.xdr_core.specs.Grammar.{Spells}
use Rattle.nfs2_types.specs.declared.cred.Cred.{Cred}
use Rattle.rpc_core.specs.Cred.{auth_sys}

-- the name of the machine that calls
abbrev pub machine : List ℕ
machine = codes "gen"

-- the body of the credential: a stamp of 0, the machine, and the caller, with a count before its groups
unfoldable pub cred_text : Cred → List ℕ
cred_text c = spell_word 0 ++ (spell_opaque machine ++ (spell_words (c.uid ∷ c.gid ∷ length c.gids ∷ [])
    ++ spell_words c.gids))

-- that body is short enough, and spells the caller
pub record IsCredText (c : Cred) : Type 0 where
  pub size : length (cred_text c) ≤ 400
  pub spelled : Spells auth_sys c (cred_text c)

-- the call up to its arguments: CALL is 0, the version of RPC is 2, AUTH_SYS is 1,
-- and the verifier has flavor 0 and no bytes
unfoldable pub call_front : (xid prog vers proc : ℕ) → Cred → List ℕ
call_front xid prog vers proc cred =
    spell_words (xid ∷ 0 ∷ 2 ∷ prog ∷ vers ∷ proc ∷ 1 ∷ [])
    ++ (spell_opaque (cred_text cred) ++ (spell_word 0 ++ spell_opaque []))
