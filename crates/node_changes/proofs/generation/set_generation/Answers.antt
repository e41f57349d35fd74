use Rattle.std.proofs.Common.{◌<◌, subst}
use Rattle.conf_map.proofs.Tallies.{tallied_kept}
use Rattle.node_changes.proofs.TalliedArrays.{generation_same}
use Rattle.node_changes.proofs.GenerationLaws.{same_handles, generation_stands}
use Rattle.node_changes.proofs.generation.set_generation.Goals as goal

pub returns : goal.returns
returns c = record {
  stands = λ s A stands. generation_stands c.args.table.now c.change_generation.new.table c.args.index c.args.generation
      c.requires c.change_generation.ensures.row c.change_generation.ensures.by_handle s A stands;
  tallied = λ s A stands tallied. tallied_kept tallied c.change_generation.ensures.tally
      (generation_same A c.args.index c.args.generation (subst (λ n. c.args.index < n) stands.size c.requires));
  handles = same_handles c.args.table.now c.change_generation.new.table c.args.index c.args.generation
      c.requires c.change_generation.ensures.row c.change_generation.ensures.by_handle;
}
