-- The index as a map, after a name is put in or taken out.
use Rattle.std.proofs.Common.{inl, inr, ◌≡◌, ◌≢◌, ℕ, ◌<◌, List, [], ◌∷◌, ◌++◌, length, Option, Some, None, refl, sym, ap, ◌∙◌, subst}
use Rattle.std.specs.Option.{option_map}
use Rattle.std.specs.FinMap.{get, insert, remove}
use Rattle.std.proofs.lemmas.Option.{slice_get_within}
use Rattle.server_trait.specs.Tree.{ByBytes}
use Rattle.server_trait.proofs.TreeLaws.{bytes_or_not, get-insert_same, get-insert_other, get-remove_same, get-remove_other}
use Rattle.inode_dirs.specs.Slots.{Slots, IsIndexOf, IsDropped, inode_by}
use Rattle.inode_dirs.specs.declared.index.Place.{Place}
use Rattle.inode_dirs.proofs.SlotLaws.{index-added, index-removed}

-- a name that leads nowhere has no place
pub no_place : (o : Option Place) → option_map (λ (p : Place). p.inode) o ≡ None → o ≡ None
no_place None e = refl
no_place (Some p) e = absurd (let bad : Some p.inode ≡ None = e in cc)

-- A NAME IS ADDED

pub added : (m m' : ByBytes Place) (ss ss' : Slots) (name : List ℕ) (p : Place) → IsIndexOf (λ q. get m q) ss →
    inode_by m name ≡ None → m' ≡ insert m name p → p.slot ≡ length ss → ss' ≡ ss ++ (name, p.inode) ∷ [] →
    IsIndexOf (λ q. get m' q) ss'
added m m' ss ss' name p is new is_map at are = subst (λ ss. IsIndexOf (λ q. get m' q) ss) (sym are)
    (index-added (λ q. get m q) (λ q. get m' q) ss is name p.inode (no_place (get m name) new) p at refl
    (ap (λ m. get m name) is_map ∙ get-insert_same m name p)
    (λ q ne. ap (λ m. get m q) is_map ∙ get-insert_other m name p q ne))

pub inode_by-added_same : (m m' : ByBytes Place) (name : List ℕ) (p : Place) → m' ≡ insert m name p →
    inode_by m' name ≡ Some p.inode
inode_by-added_same m m' name p is = ap (option_map (λ (p : Place). p.inode)) (ap (λ m. get m name) is
    ∙ get-insert_same m name p)

pub inode_by-added_other : (m m' : ByBytes Place) (name : List ℕ) (p : Place) → m' ≡ insert m name p → (q : List ℕ) →
    q ≢ name → inode_by m' q ≡ inode_by m q
inode_by-added_other m m' name p is q ne = ap (option_map (λ (p : Place). p.inode)) (ap (λ m. get m q) is
    ∙ get-insert_other m name p q ne)

-- A NAME IS REMOVED

module _ (m m' m'' : ByBytes Place) (ss ss' : Slots) (name last : List ℕ) (gone moved : Place)
    (is : IsIndexOf (λ q. get m q) ss) (at_name : get m name ≡ Some gone) (at : moved.slot ≡ gone.slot)
    (dropped : IsDropped ss gone.slot last moved.inode ss') (put : m' ≡ insert m last moved)
    (took : m'' ≡ remove m' name) where
  at_last : last ≢ name → get m'' last ≡ Some moved
  at_last ne = ap (λ m. get m last) took ∙ get-remove_other m' name last ne ∙ ap (λ m. get m last) put
      ∙ get-insert_same m last moved

  at_other : (q : List ℕ) → q ≢ name → q ≢ last → get m'' q ≡ get m q
  at_other q nn nl = ap (λ m. get m q) took ∙ get-remove_other m' name q nn ∙ ap (λ m. get m q) put ∙ get-insert_other
      m last moved q nl

  pub removed : IsIndexOf (λ q. get m'' q) ss'
  removed = subst (λ ss. IsIndexOf (λ q. get m'' q) ss) (sym dropped.are)
      (index-removed (λ q. get m q) (λ q. get m'' q) ss is name gone at_name last moved.inode dropped.rest
      dropped.size dropped.is_last moved at refl
      (ap (λ m. get m name) took ∙ get-remove_same m' name) at_last at_other)

  pub inode_by-removed_same : inode_by m'' name ≡ None
  inode_by-removed_same = ap (option_map (λ (p : Place). p.inode)) (ap (λ m. get m name) took ∙ get-remove_same m' name)

  -- the last slot's name leads where it led
  pub inode_by-removed_other : (q : List ℕ) → q ≢ name → inode_by m'' q ≡ inode_by m q
  inode_by-removed_other q ne = elim (bytes_or_not q last) as (λ _. inode_by m'' q ≡ inode_by m q) [
    | inl e ↦
        let old : Place = record { slot = dropped.rest; inode = moved.inode } in
        let same : last ≢ name = λ l. ne (e ∙ l) in
        subst (λ q. inode_by m'' q ≡ inode_by m q) (sym e)
        (ap (option_map (λ (p : Place). p.inode)) (at_last same) ∙ sym (ap (option_map (λ (p : Place). p.inode))
        ((is last old).1 dropped.is_last)))
    | inr nl ↦ ap (option_map (λ (p : Place). p.inode)) (at_other q ne nl)
  ]

pub place_within : (m : ByBytes Place) (ss : Slots) (name : List ℕ) (p : Place) → IsIndexOf (λ q. get m q) ss →
    get m name ≡ Some p → p.slot < length ss
place_within m ss name p is at = slice_get_within ss p.slot (name, p.inode) ((is name p).0 at)
