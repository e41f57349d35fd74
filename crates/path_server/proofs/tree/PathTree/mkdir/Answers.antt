use Rattle.std.proofs.Common.{List, ℕ, arith}
use Rattle.std.specs.Ordering.{nat_cmp}
use Rattle.std.specs.Cmp.Lexicographic.{slice_cmp}
use Rattle.std.specs.FinMap.{len-empty}
use Rattle.path_server.proofs.tree.PathTree.mkdir.Goals as goal

pub make-requires-clause-bytes : goal.make-requires-clause-bytes
make-requires-clause-bytes c = let none = len-empty (slice_cmp nat_cmp) (List ℕ) in omega (arith, none)
