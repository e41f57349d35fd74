use Rattle.std.proofs.Common.{[], ◌∷◌, ◌++◌, ap, ◌∙◌}
use Rattle.abs_model.specs.Array.{entry_at}
use Rattle.abs_text.specs.Text.{entry_text}
use Rattle.cow_checkpoint.specs.Store.{saves_newest}
use Rattle.cow_checkpoint.proofs.Holding.{made, kept_as, told_kept}
use Rattle.cow_checkpoint.proofs.store.CheckpointStoreModify.modify.Goals as goal

pub invariant_of-self-2 : goal.invariant_of-self-2
invariant_of-self-2 g c =
    let s = c.self.inside in
    let i = c.args.index in
    let A = c.requires.stands.0 in
    let text = entry_text i (entry_at A i) in
    let told = c.push_within.ensures.items ∙ ap (λ t. t ++ i ∷ []) c.reserve.ensures.items in
    let holds = c.in_ok-save.ensures.saved A c.requires.stands.1 in
    kept_as s.size s.taken (s.told.items ++ i ∷ []) c.push_within.new.told.items (saves_newest i text s.held) c.save.new.self told holds
    (told_kept (made s.size s.taken s.told.items s.held) i text c.self.invariant)
