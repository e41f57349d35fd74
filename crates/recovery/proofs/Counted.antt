-- How many items were got.
use Rattle.std.proofs.Common.{◌≡◌, ℕ, zero, suc, ◌+◌, Bool, List, [], ◌∷◌, ◌++◌, length, sym, ap, ◌∙◌, add_assoc, arith}
use Rattle.std.specs.Prelude.{nat_lt, ◌==◌}
use Rattle.std.proofs.lemmas.Bool.{lt-ltb}
use Rattle.std.proofs.lemmas.List.{length-map}
use Rattle.std.proofs.lemmas.List.Sums.{length-filter}
use Rattle.abs_model.specs.declared.Change.{Change}
use Rattle.abs_text.specs.Text.{entry_text}
use Rattle.cluster_model.specs.Tree as tree
use Rattle.cluster_model.specs.Step.{nodes_of, objects_of}
use Rattle.cluster_model.proofs.Counting.{bit, count_by-cons}
use Rattle.state_transfer.specs.Fetch.{Fetch, counted}
use Rattle.state_transfer.specs.Got.{HasGot, change_texts, entries_got}
use Rattle.state_transfer.proofs.Walks.{Gots}
use Rattle.state_transfer.proofs.Gathered.{texts_gathered}

-- one item more
count_more : (l n : ℕ) → counted l n ≡ n + bit (nat_lt 0 l)
count_more zero n = (let none : n ≡ n + 0 = omega arith in none)
count_more (suc l) n =
    ap (λ (b : Bool). n + bit b) (sym (lt-ltb 0 (suc l) (omega arith)))

abbrev is_node : tree.Item × List ℕ → Bool
is_node g = nat_lt 0 g.0.level

pub nodes_counted : (f : Fetch) (got : Gots) (end : Fetch) → HasGot f got end →
    end.nodes ≡ f.nodes + nodes_of got
nodes_counted f [] end h =
    let none : f.nodes ≡ f.nodes + 0 = omega arith in
    ap (λ (k : Fetch). k.nodes) h ∙ none
nodes_counted f (g ∷ got) end h =
    let level : f.stand.level ≡ g.0.level = ap (λ (i : tree.Item). i.level) (sym h.4) in
    let one : h.2.nodes ≡ f.nodes + bit (is_node g) = h.5.nodes ∙ count_more f.stand.level f.nodes
    ∙ ap (λ (l : ℕ). f.nodes + bit (nat_lt 0 l)) level in
    nodes_counted h.2 got end h.6 ∙ ap (λ (n : ℕ). n + nodes_of got) one
    ∙ add_assoc f.nodes (bit (is_node g)) (nodes_of got)
    ∙ ap (λ (n : ℕ). f.nodes + n) (sym (count_by-cons is_node g got))

pub objects_counted : (f : Fetch) (got : Gots) (end : Fetch) → f.changes ≡ [] → HasGot f got end →
    length end.changes ≡ objects_of got
objects_counted f got end none h =
    sym (length-map end.changes (λ (c : Change). (tree.item 0 c.index, entry_text c.index c.entry)))
    ∙ ap length (texts_gathered f got end h
    ∙ ap (λ (cs : List Change). change_texts cs ++ entries_got got) none)
    ∙ length-filter (λ (g : tree.Item × List ℕ). g.0.level == 0) got
