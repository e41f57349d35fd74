use Rattle.std.proofs.Common.{rules}
use Rattle.std.specs.Ordering.{nat_cmp, is_lt}
use Rattle.std.specs.Cmp.Lexicographic.{slice_cmp}
use Rattle.std.proofs.lemmas.Cmp.{nat_list_cmp_total}
use Rattle.std.proofs.lemmas.List.Sorted.{answers_always, ranks_by}
use Rattle.server_trait.specs.declared.server.Listed.{Listed}
use Rattle.conf_map.proofs.content.sort_names.Goals as goal

pub returns : goal.returns
returns c = record {
  moved = c.sort_unstable_by.ensures.permutation;
  sorted = c.sort_unstable_by.ensures.sorted (λ x y. is_lt (slice_cmp nat_cmp x.name y.name))
      (ranks_by nat_list_cmp_total (λ (l : Listed). l.name)) (answers_always _ _ _ (λ f a r g h. search rules));
}
