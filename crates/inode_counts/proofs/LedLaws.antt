-- Names that lead to used inodes, after each change of a table.
use Rattle.std.proofs.Common.{None, true, false, ◌⊎◌, inl, inr, ◌≡◌, ◌≢◌, ℕ, List, Some, IsSome, refl, sym, ap, ◌∙◌, subst}
use Rattle.std.specs.FinMap.{get, insert, remove}
use Rattle.server_trait.proofs.TreeLaws.{bytes_or_not, one_or_not, some_none, some_same, get-insert_same, get-insert_other, get-remove_same, get-remove_other}
use Rattle.inode_dirs.specs.Slots.{Slots, names_of}
use Rattle.inode_dirs.specs.Table.{Body, FileBytes, LinkText, DirSlots, Entry, Table}
use Rattle.server_trait.specs.Tree.{links, names_in}
use Rattle.server_trait.proofs.TreeLaws.{target-node}
use Rattle.tree_laws.proofs.CountChanges.{unlinked}
use Rattle.inode_dirs.specs.Table.{content_of, node_of, tree_of, AreApart}
use Rattle.inode_dirs.proofs.TableLaws.{IsSameBut, node-used}
use Rattle.inode_counts.specs.Counted.{AreLed}

-- the slots of one directory change: each name leads where one led, or to an inode that is used
module _ (handle : ℕ → List ℕ) (t t' : Table) (led : AreLed handle t) (i : ℕ) (same : IsSameBut t t' i)
    (e : Entry) (ss ss' : Slots) (is : t i ≡ Some e) (has : e.body ≡ DirSlots ss)
    (is' : t' i ≡ Some (record e { body = DirSlots ss' })) where
  still : (j : ℕ) → IsSome (t j) → IsSome (t' j)
  still j some = elim (one_or_not j i) as (λ _. IsSome (t' j)) [
    | inl at ↦ subst (λ o. IsSome o) (sym (ap t' at ∙ is')) refl
    | inr ne ↦ subst (λ o. IsSome o) (sym (same j ne)) some
  ]

  slots_in : Body → Slots
  slots_in (FileBytes b) = ss'
  slots_in (LinkText b) = ss'
  slots_in (DirSlots xs) = xs

  module _ (leads : (name h : List ℕ) → get (names_of handle ss') name ≡ Some h →
      (get (names_of handle ss) name ≡ Some h) ⊎ ((j : ℕ) × (IsSome (t j)) × (handle j ≡ h))) where
    pub led-slots : AreLed handle t'
    unfolding slots_in
    led-slots k x xs name h at body to = elim (one_or_not k i) as (λ _. (j : ℕ) × (IsSome (t' j)) × (handle j ≡ h)) [
      | inl at_i ↦
          let slots : ss' ≡ xs = ap slots_in (ap (λ (e : Entry). e.body) (some_same is' (ap t' (sym at_i) ∙ at))
          ∙ body) in
          by (leads name h (ap (λ xs. get (names_of handle xs) name) slots ∙ to))
      | inr ne ↦ (let old = led k x xs name h (sym (same k ne) ∙ at) body to in (old.0, still old.0 old.1, old.2))
    ]
      where
        by : (get (names_of handle ss) name ≡ Some h) ⊎ ((j : ℕ) × (IsSome (t j)) × (handle j ≡ h)) →
            (j : ℕ) × (IsSome (t' j)) × (handle j ≡ h)
        by (inl was) = (let old = led i e ss name h is has was in (old.0, still old.0 old.1, old.2))
        by (inr new) = (new.0, still new.0 new.1, new.2)

  pub led-named : (name : List ℕ) (j : ℕ) → IsSome (t j) → names_of handle ss' ≡ insert (names_of handle ss) name
      (handle j) → AreLed handle t'
  led-named name j some names = led-slots (λ q h to. elim (bytes_or_not q name) as
      (λ _. (get (names_of handle ss) q ≡ Some h) ⊎ ((j : ℕ) × (IsSome (t j)) × (handle j ≡ h))) [
        | inl at ↦ inr (
          j,
          some,
          some_same (get-insert_same (names_of handle ss) name (handle j))
              (ap (get (insert (names_of handle ss) name (handle j))) (sym at) ∙ ap (λ m. get m q) (sym names) ∙ to),
        )
        | inr ne ↦ inl (sym (get-insert_other (names_of handle ss) name (handle j) q ne) ∙ ap (λ m. get m q) (sym names)
            ∙ to)
      ])

  pub led-unnamed : (name : List ℕ) → names_of handle ss' ≡ remove (names_of handle ss) name → AreLed handle t'
  led-unnamed name names = led-slots (λ q h to. elim (bytes_or_not q name) as
      (λ _. (get (names_of handle ss) q ≡ Some h) ⊎ ((j : ℕ) × (IsSome (t j)) × (handle j ≡ h))) [
        | inl at ↦ absurd (some_none (ap (get (remove (names_of handle ss) name)) (sym at) ∙ ap (λ m. get m q) (sym names)
            ∙ to) (get-remove_same (names_of handle ss) name))
        | inr ne ↦ inl (sym (get-remove_other (names_of handle ss) name q ne) ∙ ap (λ m. get m q) (sym names) ∙ to)
      ])

-- an inode is made, whose directory is bare
pub led-made : (handle : ℕ → List ℕ) (t t' : Table) → AreLed handle t → (i : ℕ) → IsSameBut t t' i → (e : Entry) →
    t i ≡ None → t' i ≡ Some e →
    ((ss : Slots) (name h : List ℕ) → e.body ≡ DirSlots ss → get (names_of handle ss) name ≢ Some h) → AreLed handle t'
led-made handle t t' led i same e free is bare k x xs name h at body to = elim (one_or_not k i) as
    (λ _. (j : ℕ) × (IsSome (t' j)) × (handle j ≡ h)) [
      | inl at_i ↦ absurd (bare xs name h (ap (λ (e : Entry). e.body) (some_same is (ap t' (sym at_i) ∙ at)) ∙ body) to)
      | inr ne ↦ (let old = led k x xs name h (sym (same k ne) ∙ at) body to in
          (old.0, still old.0 old.1 (one_or_not old.0 i), old.2))
    ]
  where
    no_some : IsSome {T = Entry} None → ⊥
    no_some h = (let bad : false ≡ true = h in cc)

    still : (j : ℕ) → IsSome (t j) → (j ≡ i) ⊎ (j ≢ i) → IsSome (t' j)
    still j some (inl at) = absurd (no_some (subst (λ o. IsSome o) (ap t at ∙ free) some))
    still j some (inr ne) = subst (λ o. IsSome o) (sym (same j ne)) some

-- an inode is freed to which no name leads
pub led-freed : (handle : ℕ → List ℕ) (n : ℕ) (t t' : Table) → AreApart handle n t → AreLed handle t → (i : ℕ) →
    IsSameBut t t' i → t' i ≡ None →
    links (tree_of handle n t) (handle i) ≡ 0 → AreLed handle t'
led-freed handle n t t' apart led i same free none k x xs name h at body to =
    let was : t k ≡ Some x = sym (same k (used_other k x at)) ∙ at in
    let old = led k x xs name h was body to in
    (old.0, still old.0 old.1 (one_or_not old.0 i) was old.2, old.2)
  where
    used_other : (k : ℕ) (x : Entry) → t' k ≡ Some x → k ≢ i
    used_other k x at e = some_none at (ap t' e ∙ free)

    still : (j : ℕ) → IsSome (t j) → (j ≡ i) ⊎ (j ≢ i) → t k ≡ Some x → handle j ≡ h → IsSome (t' j)
    still j some (inl e) was leads = absurd (unlinked (tree_of handle n t) (handle i) (handle k) name none
        (target-node (tree_of handle n t) (handle k) (node_of handle k x) (names_of handle xs) name
        (node-used handle n t apart k x was)
        (ap (λ b. names_in (content_of handle b)) body) ∙ to ∙ ap Some (sym leads ∙ ap handle e)))
    still j some (inr ne) was leads = subst (λ o. IsSome o) (sym (same j ne)) some
