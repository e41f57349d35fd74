use Rattle.std.proofs.Common.{◌≡◌, ◌∙◌, ◌++◌, List, ℕ, sym, ap, subst}
use Rattle.xdr_core.specs.Grammar.{Spells}
use Rattle.nfs2_types.specs.Call.{call_of}
use Rattle.nfs2_args.specs.Forms.{args_form}
use Rattle.nfs2_args.specs.Spelling.{number_of, args_text}
use Rattle.nfs2_args.proofs.Written.{args_spelled}
use Rattle.nfs2_args.proofs.writing.write_args.Goals as goal

pub returns-clause-again : goal.returns-clause-again
returns-clause-again c =
    let call = call_of c.args.args.now in
    let is : c.into_bytes.result.items ≡ args_text call = c.into_bytes.ensures ∙ c.in_ok-put_args.ensures.text
    ∙ ap (λ (t : List ℕ). t ++ args_text call) c.new-w.ensures in
    subst (λ (t : List ℕ). Spells (args_form (number_of call)) call t) (sym is)
    (args_spelled call c.in_ok-put_args.ensures.shape c.requires.fits c.requires.fields)
