-- An id above those of all nodes.
use Rattle.std.proofs.Common.{inl, inr, ◌≡◌, ◌∙◌, ◌<◌, ◌^◌, ℕ, List, take, None, Some, refl, sym, ap, arith}
use Rattle.std.specs.Int.{to_be_bytes, from_be_bytes, w64}
use Rattle.std.proofs.lemmas.Nat.{from_be_bytes-to_be_bytes_8}
use Rattle.server_trait.specs.Tree.{node_at}
use Rattle.server_trait.specs.Calls.{IsNewNumber}
use Rattle.log_tree.specs.Held.{Records, handle_of, tree_of}
use Rattle.log_held.proofs.Nodes.{node_found}
use Rattle.log_index.specs.Memory.{Memory, IsIndexed}
use Rattle.log_index.proofs.Ties.{at_node, cases}
use Rattle.log_changes.proofs.ButLaws.{number_is}

module _ (live : Records) (x : Memory) (h : IsIndexed (tree_of live) x) (small : x.next < 2 ^ 64) where
  abbrev id : List ℕ
  id = to_be_bytes w64 x.next

  again : from_be_bytes w64 id ≡ x.next
  again = from_be_bytes-to_be_bytes_8 x.next small

  pub fresh_absent : node_at (tree_of live) (handle_of id) ≡ None
  fresh_absent = elim (cases (tree_of live) x id h refl) [
    | inl none ↦ none.0
    | inr both ↦ absurd (let below = h.below id both.info both.is_info in let same = again in omega arith)
  ]

  pub fresh_number : IsNewNumber (tree_of live) (from_be_bytes w64 id)
  fresh_number q n is e =
      let f = node_found live q n is in
      let key = take 8 q in
      let at : node_at (tree_of live) (handle_of key) ≡ Some n = ap (node_at (tree_of live)) (sym f.handle) ∙ is in
      let both = at_node (tree_of live) x key n h f.eight at in
      let below = h.below key both.info both.is_info in
      let number = number_is live key n f.eight at in
      let same = again in
      omega arith
