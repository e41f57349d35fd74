-- What a store and a tree say in the words of the model of a cluster, for a service whose texts, digests and nodes are
-- the real ones.
use Rattle.std.proofs.Common.{◌≡◌, ℕ, zero, suc, ◌+◌, ◌*◌, ◌^◌, ◌-◌, ◌<◌, List, [], ◌∷◌, ◌++◌, length, map, All, refl, sym, ap, ◌∙◌, arith, append_assoc}
use Rattle.std.proofs.lemmas.Option.{slice_get-get_or}
use Rattle.std.proofs.lemmas.List.{append-nil}
use Rattle.std.proofs.lemmas.List.Elements.{All-head, All-tail}
use Rattle.sha2.specs.Sha256.{sha256}
use Rattle.abs_model.specs.declared.Entry.{Entry}
use Rattle.abs_model.specs.Array.{null_entry, entry_at}
use Rattle.abs_text.specs.Text.{entry_text, node_text}
use Rattle.cluster_model.specs.Service.{Service}
use Rattle.cluster_model.specs.Tree as tree
use Rattle.cluster_model.specs.State.{Checkpoint}
use Rattle.cluster_model.specs.Turns as turns
use Rattle.partition_tree.specs.Digests.{numbers, children, digest_at, node_at, IsRoot}
use Rattle.cow_checkpoint.specs.Store.{Store, saves_newest, notices, all_noticed}

-- the numbers of sixteen in a row

numbers_push : (s n : ℕ) → numbers s (suc n) ≡ numbers s n ++ (s + n) ∷ []
numbers_push s zero = let e : s ≡ s + 0 = omega arith in ap (λ (k : ℕ). k ∷ []) e
numbers_push s (suc n) =
    let e : suc s + n ≡ s + suc n = omega arith in
    ap (λ (t : List ℕ). s ∷ t) (numbers_push (suc s) n ∙ ap (λ (k : ℕ). numbers (suc s) n ++ k ∷ []) e)

map_push : (f : ℕ → ℕ) (xs : List ℕ) (x : ℕ) → map f (xs ++ x ∷ []) ≡ map f xs ++ f x ∷ []
map_push f [] x = refl
map_push f (y ∷ ys) x = ap (λ (t : List ℕ). f y ∷ t) (map_push f ys x)

numbers_below : (s n : ℕ) → map (λ j. s + j) (tree.below n) ≡ numbers s n
numbers_below s zero = refl
numbers_below s (suc n) =
    map_push (λ j. s + j) (tree.below n) n
    ∙ ap (λ (t : List ℕ). t ++ (s + n) ∷ []) (numbers_below s n)
    ∙ sym (numbers_push s n)

pub children_same : (k : ℕ) → tree.children k ≡ children k
children_same k = numbers_below (16 * k) 16

-- digests, nodes, the root

map_same : (f g : ℕ → List ℕ) → ((k : ℕ) → f k ≡ g k) → (ks : List ℕ) → map f ks ≡ map g ks
map_same f g same [] = refl
map_same f g same (k ∷ ks) = λ j. same k j ∷ map_same f g same ks j

module _ (S : Service) (digests : (t : List ℕ) → S.digest t ≡ sha256 t)
    (nodes : (l k : ℕ) (ds : List (List ℕ)) → S.node l k ds ≡ node_text l k ds) (leaves : List (List ℕ)) where
  below_same : (l k : ℕ) → ((n : ℕ) → tree.digest_at S leaves l n ≡ digest_at leaves l n) →
      map (tree.digest_at S leaves l) (tree.children k) ≡ map (digest_at leaves l) (children k)
  below_same l k same =
      map_same (tree.digest_at S leaves l) (digest_at leaves l) same (tree.children k)
      ∙ ap (map (digest_at leaves l)) (children_same k)

  -- a digest of a level
  pub digests_same : (l k : ℕ) → tree.digest_at S leaves l k ≡ digest_at leaves l k
  digests_same zero k = refl
  digests_same (suc l) k =
      digests (S.node (suc l) k (map (tree.digest_at S leaves l) (tree.children k)))
      ∙ ap sha256 (nodes (suc l) k (map (tree.digest_at S leaves l) (tree.children k))
      ∙ ap (node_text (suc l) k) (below_same l k (digests_same l)))

  -- the text of a node
  pub nodes_same : (l k : ℕ) → tree.node_text S leaves l k ≡ node_at leaves (suc l) k
  nodes_same l k =
      let e : l ≡ suc l - 1 = omega arith in
      nodes (suc l) k (map (tree.digest_at S leaves l) (tree.children k))
      ∙ ap (node_text (suc l) k) (below_same l k (digests_same l))
      ∙ ap (λ (n : ℕ). node_text (suc l) k (map (digest_at leaves n) (children k))) e

  -- the root, in a tree of as many levels as the service has
  pub root_same : (d : List ℕ) → IsRoot leaves d → length leaves ≡ 16 ^ S.levels → d ≡ tree.root_of S leaves
  root_same d root size = root S.levels size ∙ sym (digests_same S.levels 0)

-- notices

text_same : (S : Service) → ((i : ℕ) (e : Entry) → S.text i e ≡ entry_text i e) → (A : List Entry) (i : ℕ) →
    i < length A → tree.text_of S A i ≡ entry_text i (entry_at A i)
text_same S texts A i lt =
    ap (tree.entry_text S i) (slice_get-get_or A i null_entry lt) ∙ texts i (entry_at A i)

newest_same : (S : Service) (A : List Entry) (i : ℕ) (told : List ℕ) (holds : List Checkpoint) →
    turns.saves_newest S A told (saves_newest i (tree.text_of S A i) holds)
    ≡ turns.saves_newest S A (i ∷ told) holds
newest_same S A i told [] = refl
newest_same S A i told (c ∷ cs) = refl

none_told : (S : Service) (A : List Entry) (holds : List Checkpoint) → holds ≡ turns.saves_newest S A [] holds
none_told S A [] = refl
none_told S A (c ∷ cs) = refl

abbrev pub ran : Service → List Entry → List ℕ → Store → Store
ran S A told s = record s { told = s.told ++ told; holds = turns.saves_newest S A told s.holds }

-- what the model's run of a request does to what is told and held
pub noticed_ran : (S : Service) → ((i : ℕ) (e : Entry) → S.text i e ≡ entry_text i e) → (A : List Entry)
    (told : List ℕ) → All (λ i. i < length A) told → (s : Store) → all_noticed A told s ≡ ran S A told s
noticed_ran S texts A [] within s =
    ap (λ (t : List ℕ). record s { told = t }) (sym (append-nil s.told))
    ∙ ap (λ (h : List Checkpoint). record s { told = s.told ++ []; holds = h }) (none_told S A s.holds)
noticed_ran S texts A (i ∷ told) within s =
    let text = text_same S texts A i (All-head (λ k. k < length A) i told within) in
    noticed_ran S texts A told (All-tail (λ k. k < length A) i told within) (notices A i s)
    ∙ ap (λ (t : List ℕ). record s {
      told = t;
      holds = turns.saves_newest S A told (saves_newest i (entry_text i (entry_at A i)) s.holds);
    }) (append_assoc s.told (i ∷ []) told)
    ∙ ap (λ (h : List Checkpoint). record s { told = s.told ++ i ∷ told; holds = h })
    (ap (λ (t : List ℕ). turns.saves_newest S A told (saves_newest i t s.holds)) (sym text)
    ∙ newest_same S A i told s.holds)
