-- Counts that stay right where the tree changes elsewhere.
use Rattle.std.proofs.Common.{◌≡◌, ℕ, List, sym, ap, ◌∙◌}
use Rattle.std.specs.FinMap.{len}
use Rattle.server_trait.specs.Tree.{links, subdirs}
use Rattle.server_trait.proofs.CountLaws.{subdirs-same}
use Rattle.path_server.specs.Kept.{Kept, the_tree}
use Rattle.path_store.specs.Stored.{names_of}
use Rattle.path_server.specs.Sound.{IsCounted}
use Rattle.path_server.specs.declared.node.PathNode.{PathNode}
use Rattle.path_server.proofs.NodeLaws.{kind_at, same_dirs}

-- the same names, kinds of nodes and names that lead to it
pub counted_same : (k l : Kept) (h : List ℕ) (p q : PathNode) → names_of l.paths h ≡ names_of k.paths h →
    ((x : List ℕ) → kind_at l x ≡ kind_at k x) → links (the_tree l) h ≡ links (the_tree k) h →
    q.names ≡ p.names → q.subdirs ≡ p.subdirs → q.links ≡ p.links → IsCounted k h p → IsCounted l h q
counted_same k l h p q same kinds leading as_names as_subdirs as_links counted = record {
  names = as_names ∙ counted.names ∙ sym (ap len same);
  subdirs = as_subdirs ∙ counted.subdirs ∙ sym (ap (subdirs (the_tree l)) same
      ∙ subdirs-same (the_tree l) (the_tree k) (names_of k.paths h) (λ name x at. same_dirs l k x (kinds x)));
  links = as_links ∙ counted.links ∙ sym leading;
}
