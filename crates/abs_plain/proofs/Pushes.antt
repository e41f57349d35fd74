-- one more entry is put in
use Rattle.std.proofs.Common.{◌≡◌, List, [], ◌∷◌, ◌++◌, set, refl}
use Rattle.abs_model.specs.declared.Entry.{Entry}
use Rattle.abs_model.specs.declared.Change.{Change}
use Rattle.abs_model.specs.Array.{changed}

pub changed-push : (cs : List Change) (c : Change) (A : List Entry) → changed (cs ++ c ∷ []) A ≡ set (changed cs A) c.index c.entry
changed-push [] c A = refl
changed-push (d ∷ cs) c A = changed-push cs c (set A d.index d.entry)

pub ruleset pushes = changed-push
