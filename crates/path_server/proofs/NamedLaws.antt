-- Names, of directories and to nodes that are kept.
use Rattle.std.proofs.Common.{inl, inr, ◌⊎◌, ◌≡◌, ◌≢◌, ℕ, true, false, List, ◌++◌, length, Option, Some, None, IsSome, IsSomeAnd, is_some, refl, sym, ap, ◌∙◌, subst}
use Rattle.std.specs.Option.{option_map}
use Rattle.std.specs.FinMap.{get, insert}
use Rattle.nfs2_types.specs.declared.fattr.Kind.{Kind}
use Rattle.nfs2_types.specs.declared.fattr.Kind.TheVariants.{File, Dir, Link}
use Rattle.server_trait.specs.Tree.{ByBytes}
use Rattle.server_trait.proofs.TreeLaws.{bytes_or_not, some_and, some_none, some_same, is_some_and, get-insert_same, get-insert_other}
use Rattle.server_trait.proofs.SoftLaws.{some_of}
use Rattle.path_store.specs.Stored.{Paths, Stored, IsDir, AddsDir, joined, with_name}
use Rattle.path_server.specs.Sound.{AreNamed, IsStored, AddsNode}
use Rattle.path_server.specs.declared.node.PathNode.{PathNode}
use Rattle.path_store.proofs.NameLaws.{start_of}

pub is_some_none : {A : Type 0} {o : Option A} → IsSome o → o ≡ None → ⊥
is_some_none h e = let bad : false ≡ true = sym (ap is_some e) ∙ h in cc

pub is_and_none : {A : Type 0} (o : Option A) (P : A → Type 0) → IsSomeAnd o P → o ≡ None → ⊥
is_and_none o P h e = let x = some_and o P h in some_none x.1 e

pub none_of : {A : Type 0} (o : Option A) → ((x : A) → o ≢ Some x) → o ≡ None
none_of None h = refl
none_of (Some x) h = absurd (h x refl)

pub some_is : {A : Type 0} {o : Option A} {x : A} → o ≡ Some x → IsSome o
some_is e = ap is_some e

-- what was there is there after a change of one
pub grown : {X : Type 0} (m n : ByBytes X) (k q : List ℕ) (v : X) {w : X} → n ≡ insert m k v → get m q ≡ Some w →
    IsSome (get n q)
grown m n k q v is at = ap is_some (ap (λ n. get n q) is) ∙ (elim (bytes_or_not q k) as
    (λ _. IsSome (get (insert m k v) q)) [
      | inl same ↦ some_is (ap (get (insert m k v)) same ∙ get-insert_same m k v)
      | inr ne ↦ some_is (get-insert_other m k v q ne ∙ at)
    ])

-- it is a directory
abbrev pub IsDirNode : PathNode → Type 0
IsDirNode p = p.kind ≡ Dir

-- of one kind: the one is a directory where the other is
pub dir_same : (o o' : Option PathNode) → option_map (λ (p : PathNode). p.kind) o ≡ option_map
    (λ (p : PathNode). p.kind) o' →
    IsSomeAnd o IsDirNode → IsSomeAnd o' IsDirNode
dir_same None o' e there = absurd there
dir_same (Some p) None e there = absurd (some_none (sym e) refl)
dir_same (Some p) (Some x) e there = (let f : Some p.kind ≡ Some x.kind = e in let same : x.kind ≡ p.kind = cc in same)
    ∙ there

module _ (nodes : ByBytes PathNode) (paths : Paths) (named : AreNamed nodes paths) where
  -- a name of a directory, by its parts
  pub named_in : (dir name h : List ℕ) → length dir ≡ 32 → get paths (dir ++ name) ≡ Some h →
      IsSomeAnd (get nodes dir) IsDirNode × IsSome (get nodes h)
  named_in dir name h fits at =
      let both = named (dir ++ name) h at in
      (subst (λ d. IsSomeAnd (get nodes d) IsDirNode) (start_of dir name fits) both.0, both.1)

  -- no name leads to what is not kept
  pub unkept_unnamed : (h : List ℕ) → get nodes h ≡ None → (key : List ℕ) → get paths key ≡ Some h → ⊥
  unkept_unnamed h none key at = is_some_none (named key h at).1 none

-- THE STORE

-- a directory that is kept has its path
pub dir_stored : (nodes : ByBytes PathNode) (store : Stored) → IsStored nodes store → (h : List ℕ) (p : PathNode) →
    (get nodes h ≡ Some p) × (p.kind ≡ Dir) → IsDir store h
dir_stored nodes store stored h p is = (stored.dirs h).1 (is_some_and IsDirNode is.0 is.1)

-- what is not kept has no path, nor has a file or a link
pub no_path : (nodes : ByBytes PathNode) (store : Stored) → IsStored nodes store → (h : List ℕ) →
    (IsSomeAnd (get nodes h) IsDirNode → ⊥) → get store.dirs h ≡ None
no_path nodes store stored h other = none_of (get store.dirs h) (λ path at. other ((stored.dirs h).0 (some_is at)))

-- what the store's calls for a new node do
pub adds_dir : (kind : Kind) (old : Stored) (dir name h : List ℕ) (new : Stored) → kind ≡ Dir → IsDir old dir →
    AddsDir old dir name h new → AddsNode kind old dir name h new
adds_dir kind old dir name h new is_dir there adds =
    let path = some_of (get old.dirs dir) there in
    let dirs = adds.dirs path.0 path.1 in
    record {
      whole = adds.whole;
      names = adds.names;
      here = (λ _. is_dir, λ _. some_is (ap (λ m. get m h) dirs ∙ get-insert_same old.dirs h (joined path.0 name)));
      others = λ q ne. ap (λ m. get m q) dirs ∙ get-insert_other old.dirs h (joined path.0 name) q ne;
    }

pub adds_leaf : (kind : Kind) (old : Stored) (dir name h : List ℕ) (new : Stored) → (kind ≡ File) ⊎ (kind ≡ Link) →
    old.whole ≡ true → get old.dirs h ≡ None → new ≡ with_name old dir name h → AddsNode kind old dir name h new
adds_leaf kind old dir name h new leaf whole none is = record {
  whole = ap (λ (s : Stored). s.whole) is ∙ whole;
  names = ap (λ (s : Stored). s.names) is;
  here = (
    λ there. absurd (is_some_none there (ap (λ (s : Stored). get s.dirs h) is ∙ none)),
    λ is_dir. absurd (no_dir leaf is_dir),
  );
  others = λ q ne. ap (λ (s : Stored). get s.dirs q) is;
}
  where
    no_dir : (kind ≡ File) ⊎ (kind ≡ Link) → kind ≡ Dir → ⊥
    no_dir (inl is_file) is_dir = let bad : File ≡ Dir = sym is_file ∙ is_dir in cc
    no_dir (inr is_link) is_dir = let bad : Link ≡ Dir = sym is_link ∙ is_dir in cc

pub leaf_is_no_dir : (nodes : ByBytes PathNode) (h : List ℕ) (p : PathNode) → (get nodes h ≡ Some p) × (p.kind ≢ Dir) →
    IsSomeAnd (get nodes h) IsDirNode → ⊥
leaf_is_no_dir nodes h p is there = let x = some_and (get nodes h) IsDirNode there in
    is.1 (ap (λ (p : PathNode). p.kind) (some_same is.0 x.1) ∙ x.2)
