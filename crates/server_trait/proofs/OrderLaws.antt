-- Trees that look alike are one: a name that is added and another that is taken out, in either order.
use Rattle.std.proofs.Common.{◌≡◌, ◌≢◌, inl, inr, ℕ, List, Some, refl, sym, ap, ◌∙◌, subst}
use Rattle.std.specs.FinMap.{get, insert, remove}
use Rattle.server_trait.specs.Tree.{Tree, Node, Names, Content, BytesOf, TextOf, NamesOf, node_at, edited, with_names, named, unnamed}
use Rattle.server_trait.proofs.TreeLaws.{same_answers, bytes_or_not, get-insert_same, get-insert_other, get-remove_same, get-remove_other, root-edited, node_at-edited_same, node_at-edited_other}

-- trees that look alike are one
pub same_trees : (t u : Tree) → t.root ≡ u.root → ((q : List ℕ) → node_at t q ≡ node_at u q) → t ≡ u
same_trees t u root nodes = let m = same_answers t.nodes u.nodes nodes in λ k. record { root = root k; nodes = m k }

insert-remove : (m : Names) (name to_name h : List ℕ) → name ≢ to_name →
    insert (remove m name) to_name h ≡ remove (insert m to_name h) name
insert-remove m name to_name h differ = same_answers (insert (remove m name) to_name h)
    (remove (insert m to_name h) name) (λ q.
    elim (bytes_or_not q to_name) as
    (λ _. get (insert (remove m name) to_name h) q ≡ get (remove (insert m to_name h) name) q) [
      | inl e ↦ subst (λ q. get (insert (remove m name) to_name h) q ≡ get (remove (insert m to_name h) name) q) (sym e)
          (get-insert_same (remove m name) to_name h ∙ sym
          (get-remove_other (insert m to_name h) name to_name (λ x. differ (sym x)) ∙ get-insert_same m to_name h))
      | inr ne ↦ get-insert_other (remove m name) to_name h q ne
          ∙ (elim (bytes_or_not q name) as (λ _. get (remove m name) q ≡ get (remove (insert m to_name h) name) q) [
            | inl e ↦ subst (λ q. get (remove m name) q ≡ get (remove (insert m to_name h) name) q) (sym e)
                (get-remove_same m name ∙ sym (get-remove_same (insert m to_name h) name))
            | inr nn ↦ get-remove_other m name q nn
                ∙ sym (get-remove_other (insert m to_name h) name q nn ∙ get-insert_other m to_name h q ne)
          ])
    ])

both : (name to_name h : List ℕ) → name ≢ to_name → (n : Node) →
    with_names (λ m. insert m to_name h) (with_names (λ m. remove m name) n) ≡ with_names (λ m. remove m name)
    (with_names (λ m. insert m to_name h) n)
both name to_name h differ n = by_content n.content
  where
    by_content : (c : Content) → with_names (λ m. insert m to_name h)
        (with_names (λ m. remove m name) (record n { content = c })) ≡ with_names (λ m. remove m name)
        (with_names (λ m. insert m to_name h) (record n { content = c }))
    by_content (BytesOf b) = refl
    by_content (TextOf x) = refl
    by_content (NamesOf m) = ap (λ m. record n { content = NamesOf m }) (insert-remove m name to_name h differ)

module _ (t : Tree) (d name e to_name h : List ℕ) (nd ne : Node) (is_d : node_at t d ≡ Some nd)
    (is_e : node_at t e ≡ Some ne) (differ : d ≡ e → name ≢ to_name) where
  abbrev F : Node → Node
  F = with_names (λ m. remove m name)

  abbrev G : Node → Node
  G = with_names (λ m. insert m to_name h)

  at : (q : List ℕ) → node_at (edited (edited t d F) e G) q ≡ node_at (edited (edited t e G) d F) q
  at q = elim (bytes_or_not d e) as
      (λ _. node_at (edited (edited t d F) e G) q ≡ node_at (edited (edited t e G) d F) q) [
        | inl same ↦ subst (λ e. node_at (edited (edited t d F) e G) q ≡ node_at (edited (edited t e G) d F) q) same
            (one q (differ same))
        | inr apart ↦ elim (bytes_or_not q d) as
            (λ _. node_at (edited (edited t d F) e G) q ≡ node_at (edited (edited t e G) d F) q) [
              | inl x ↦ subst (λ q. node_at (edited (edited t d F) e G) q ≡ node_at (edited (edited t e G) d F) q)
                  (sym x)
                  (node_at-edited_other (edited t d F) e G d apart ∙ node_at-edited_same t d F nd is_d
                  ∙ sym (node_at-edited_same (edited t e G) d F nd (node_at-edited_other t e G d apart ∙ is_d)))
              | inr not_d ↦ elim (bytes_or_not q e) as
                  (λ _. node_at (edited (edited t d F) e G) q ≡ node_at (edited (edited t e G) d F) q) [
                    | inl x ↦ subst (λ q. node_at (edited (edited t d F) e G) q ≡ node_at (edited (edited t e G) d F) q)
                        (sym x)
                        (node_at-edited_same (edited t d F) e G ne
                        (node_at-edited_other t d F e (λ y. apart (sym y)) ∙ is_e)
                        ∙ sym (node_at-edited_other (edited t e G) d F e (λ y. apart (sym y))
                        ∙ node_at-edited_same t e G ne is_e))
                    | inr not_e ↦ node_at-edited_other (edited t d F) e G q not_e ∙ node_at-edited_other t d F q not_d
                        ∙ sym (node_at-edited_other (edited t e G) d F q not_d ∙ node_at-edited_other t e G q not_e)
                  ]
            ]
      ]
    where
      one : (q : List ℕ) → name ≢ to_name → node_at (edited (edited t d F) d G) q ≡ node_at
          (edited (edited t d G) d F) q
      one q ne_names = elim (bytes_or_not q d) as
          (λ _. node_at (edited (edited t d F) d G) q ≡ node_at (edited (edited t d G) d F) q) [
            | inl x ↦ subst (λ q. node_at (edited (edited t d F) d G) q ≡ node_at (edited (edited t d G) d F) q) (sym x)
                (node_at-edited_same (edited t d F) d G (F nd) (node_at-edited_same t d F nd is_d)
                ∙ ap Some (both name to_name h ne_names nd)
                ∙ sym (node_at-edited_same (edited t d G) d F (G nd) (node_at-edited_same t d G nd is_d)))
            | inr not_d ↦ node_at-edited_other (edited t d F) d G q not_d ∙ node_at-edited_other t d F q not_d
                ∙ sym (node_at-edited_other (edited t d G) d F q not_d ∙ node_at-edited_other t d G q not_d)
          ]

  pub rename_order : named (unnamed t d name) e to_name h ≡ unnamed (named t e to_name h) d name
  rename_order = same_trees (edited (edited t d F) e G) (edited (edited t e G) d F)
      (root-edited (edited t d F) e G ∙ root-edited t d F ∙ sym (root-edited (edited t e G) d F ∙ root-edited t e G)) at
