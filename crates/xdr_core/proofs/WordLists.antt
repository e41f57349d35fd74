-- The spelling of a list of words that grows.
use Rattle.std.proofs.Common.{◌≡◌, ℕ, ◌+◌, ◌<◌, List, [], ◌∷◌, ◌++◌, length, take, get_or, refl, sym, ap, ◌∙◌}
use Rattle.std.proofs.Common.{append_assoc, add-one}
use Rattle.std.proofs.lemmas.List.{append-nil}
use Rattle.std.proofs.Math.Seq.{take-suc}
use Rattle.xdr_core.specs.Items.{spell_word, spell_words}

spell_words-append : (a b : List ℕ) → spell_words (a ++ b) ≡ spell_words a ++ spell_words b
spell_words-append [] b = refl
spell_words-append (n ∷ a) b = ap (λ (t : List ℕ). spell_word n ++ t) (spell_words-append a b)
    ∙ sym (append_assoc (spell_word n) (spell_words a) (spell_words b))

pub spell_words-take : (ns : List ℕ) (i : ℕ) → i < length ns
    → spell_words (take (i + 1) ns) ≡ spell_words (take i ns) ++ spell_word (get_or ns i 0)
spell_words-take ns i lt =
    rw add-one (ap spell_words (take-suc ns i 0 lt) ∙ spell_words-append (take i ns) (get_or ns i 0 ∷ [])
    ∙ ap (λ (t : List ℕ). spell_words (take i ns) ++ t) (append-nil (spell_word (get_or ns i 0))))
