-- The record of a node of the tree.
use Rattle.std.proofs.Common.{◌≡◌, ◌∙◌, ℕ, List, length, take, drop, Some, None, refl, sym, ap, arith}
use Rattle.std.specs.Prelude.{option_map, option_and_then}
use Rattle.std.proofs.lemmas.List.{take_all}
use Rattle.server_trait.specs.Tree.{Node, node_at}
use Rattle.log_segments.specs.Newest.{find}
use Rattle.log_records.specs.Layout.{node_key, value_of, node_in}
use Rattle.log_tree.specs.Held.{Records, handle_of, id_of, node_of, tree_of}
use Rattle.log_tree.proofs.Views.{find-key, node_back}
use Rattle.log_tree.proofs.TreeLaws.{node_at-tree, back_is}
use Rattle.log_held.specs.Sound.{kind_at}

-- a node under a handle stands in a record of the id that the handle begins with
pub record IsFoundNode (live : Records) (q : List ℕ) (n : Node) : Type 0 where
  pub eight : length (take 8 q) ≡ 8
  pub handle : q ≡ handle_of (take 8 q)
  pub block : List ℕ
  pub found : find (node_key (take 8 q)) live ≡ Some block
  pub id_is : id_of block ≡ take 8 q
  pub is : node_of live block ≡ n

pub node_found : (live : Records) (q : List ℕ) (n : Node) → node_at (tree_of live) q ≡ Some n → IsFoundNode live q n
node_found live q n is =
    elim (node_back q) as (λ o. node_back q ≡ o
    → option_and_then (λ k. option_map (node_of live) (find k live)) o ≡ Some n → IsFoundNode live q n) [
      | None ↦ (λ e w. absurd (let bad : None ≡ Some n = w in cc))
      | Some k ↦ (λ e w.
          let back = back_is q k e in
          elim (find k live) as (λ o. find k live ≡ o → option_map (node_of live) o ≡ Some n → IsFoundNode live q n) [
            | None ↦ (λ f v. absurd (let bad : None ≡ Some n = v in cc))
            | Some r ↦ (λ f v. record {
              eight = back.eight;
              handle = back.handle;
              block = r;
              found = ap (λ k. find k live) (sym back.key) ∙ f;
              id_is = ap (λ a. take 8 (drop 1 a)) (find-key k live r f ∙ back.key)
                  ∙ take_all 8 (take 8 q) (omega (arith, back.eight));
              is = cc;
            })
          ] refl w)
    ] refl (sym (node_at-tree live q) ∙ is)

pub kind_found : (live : Records) (q : List ℕ) (n : Node) (f : IsFoundNode live q n)
    → kind_at live (take 8 q) ≡ Some (node_in (value_of f.block)).kind
kind_found live q n f = ap (option_map (λ r. (node_in (value_of r)).kind)) f.found
