-- The spelling of entries that are written one by one.
use Rattle.std.proofs.Common.{◌≡◌, ℕ, suc, ◌+◌, ◌<◌, ◌≤◌, List, [], ◌++◌, length, drop, get_or, sym, ap, ◌∙◌, add-one}
use Rattle.std.proofs.Common.{drop-cons, length-drop, arith}
use Rattle.std.proofs.lemmas.List.{nil_from_length}
use Rattle.nfs2_types.specs.declared.results.ListEntry.{ListEntry}
use Rattle.nfs2_results.specs.Spelling.{entry_text, entries_text}

pub entries_text-drop : (es : List ListEntry) (i : ℕ) (e : ListEntry) → i < length es → e ≡ get_or es i e
    → entries_text (drop i es) ≡ entry_text e ++ entries_text (drop (i + 1) es)
entries_text-drop es i e lt is = rw add-one (ap entries_text (drop-cons es i e lt)
    ∙ ap (λ (d : ListEntry). entry_text d ++ entries_text (drop (suc i) es)) (sym is))

pub drop-past : (es : List ListEntry) (i : ℕ) → length es ≤ i → drop i es ≡ []
drop-past es i le = nil_from_length (drop i es) (omega (arith, length-drop i es))
