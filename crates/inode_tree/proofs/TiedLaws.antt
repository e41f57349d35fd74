-- What a table of inodes with its tables in memory holds.
use Rattle.std.proofs.Common.{◌≡◌, ℕ, zero, suc, ◌/◌, ◌^◌, ◌<◌, ◌≤◌, arith, Bool, true, false, List, [], ◌∷◌, length, slice_get, Option, Some, None, IsSome, IsSomeAnd, refl, sym, ap, ◌∙◌, subst}
use Rattle.std.specs.Prelude.{take, drop, sum_by}
use Rattle.std.specs.Option.{option_map}
use Rattle.std.specs.FinMap.{len}
use Rattle.std.specs.Int.{w32, to_be_bytes, from_be_bytes}
use Rattle.std.proofs.lemmas.Nat.{from_be_bytes-to_be_bytes_4}
use Rattle.std.proofs.lemmas.List.Sums.{sum_by-cons}
use Rattle.nfs2_types.specs.declared.fattr.Kind.{Kind}
use Rattle.nfs2_types.specs.declared.fattr.Kind.TheVariants.{File as AFile, Dir, Link}
use Rattle.server_trait.specs.Tree.{Tree, Names, node_at, names_in, is_dir_at, target}
use Rattle.server_trait.proofs.TreeLaws.{some_none, some_same, names_at-node, target-node, links-some}
use Rattle.server_trait.proofs.SumLaws.{total-ones}
use Rattle.server_trait.proofs.KeyedSums.{IsListed, total-listed}
use Rattle.inode_dirs.specs.Slots.{Slots, IsIndexOf, names_of}
use Rattle.inode_dirs.specs.SlotBytes.{slots_in, pieces}
use Rattle.inode_dirs.specs.Table.{FileBytes, LinkText, DirSlots, Entry, Table, content_of, node_of, AreApart}
use Rattle.inode_dirs.specs.Files.{File, body_of, entry_of, table_of}
use Rattle.inode_dirs.specs.declared.index.Place.{Place}
use Rattle.inode_dirs.proofs.SlotLaws.{names-indexed}
use Rattle.inode_dirs.proofs.TableLaws.{node-used}
use Rattle.inode_dirs.proofs.HandleLaws.{IsIndexed}
use Rattle.inode_counts.specs.Counted.{AreLed}
use Rattle.inode_tree.specs.Handles.{handle_bytes}
use Rattle.inode_tree.specs.Tables.{Tables, is_dir_kind}
use Rattle.inode_tree.specs.Sound.{IsTied, the_tree}

-- HANDLES

in_handle : (i epoch salt : ℕ) → take 4 (handle_bytes i epoch salt) ≡ to_be_bytes w32 i
unfolding handle_bytes
in_handle i epoch salt = refl

-- two handles are of two inodes
pub handles-apart : (epoch : ℕ) (salt : ℕ → ℕ) (i j : ℕ) → i < 2 ^ 32 → j < 2 ^ 32 →
    handle_bytes i epoch (salt i) ≡ handle_bytes j epoch (salt j) → i ≡ j
handles-apart epoch salt i j fits_i fits_j same =
    sym (from_be_bytes-to_be_bytes_4 i fits_i)
    ∙ ap (from_be_bytes w32) (sym (in_handle i epoch (salt i)) ∙ ap (take 4) same ∙ in_handle j epoch (salt j))
    ∙ from_be_bytes-to_be_bytes_4 j fits_j

-- TABLES

pub some_is : {X : Type 0} {o : Option X} {x : X} → o ≡ Some x → IsSome o
some_is e = subst (λ o. IsSome o) (sym e) refl

pub no_some : (X : Type 0) → IsSome {T = X} None → ⊥
no_some X h = (let bad : false ≡ true = h in cc)

-- what is there is something
pub some_of : {X : Type 0} (o : Option X) → IsSome o → (x : X) × (o ≡ Some x)
some_of {X} None h = absurd (no_some X h)
some_of (Some x) h = (x, refl)

pub entry_some : (files : ℕ → Option File) (i : ℕ) → IsSome (table_of files i) → IsSome (files i)
entry_some files i some = by (files i) some
  where
    by : (o : Option File) → IsSome (option_map entry_of o) → IsSome o
    by None h = absurd (no_some Entry h)
    by (Some f) h = refl

pub some_entry : (files : ℕ → Option File) (i : ℕ) → IsSome (files i) → IsSome (table_of files i)
some_entry files i some = let f = some_of (files i) some in some_is (ap (option_map entry_of) f.1)

-- the file of an entry
pub file_of_entry : (files : ℕ → Option File) (i : ℕ) (e : Entry) → table_of files i ≡ Some e →
    (f : File) × (files i ≡ Some f) × (entry_of f ≡ e)
file_of_entry files i e is = by (files i) is
  where
    by : (o : Option File) → option_map entry_of o ≡ Some e → (f : File) × (o ≡ Some f) × (entry_of f ≡ e)
    by None h = absurd (some_none h refl)
    by (Some f) h = (f, refl, some_same refl h)

-- a directory's slots are those of its bytes
pub dir_body : (kind : Kind) (bytes : List ℕ) (ss : Slots) → body_of kind bytes ≡ DirSlots ss →
    (kind ≡ Dir) × (slots_in (length bytes / 288) bytes ≡ ss)
dir_body AFile bytes ss h = absurd (let bad : FileBytes bytes ≡ DirSlots ss = h in cc)
dir_body Link bytes ss h = absurd (let bad : LinkText bytes ≡ DirSlots ss = h in cc)
dir_body Dir bytes ss h = (refl, (let same : DirSlots (slots_in (length bytes / 288) bytes) ≡ DirSlots ss = h in cc))

pub length-pieces : (n : ℕ) (bytes : List ℕ) → length (slots_in n bytes) ≡ n
unfolding pieces
length-pieces zero bytes = refl
length-pieces (suc n) bytes = ap suc (length-pieces n (drop 288 bytes))

-- SLOTS AND NAMES

sum_ones : {X : Type 0} (xs : List X) → sum_by (λ _. 1) xs ≡ length xs
sum_ones [] = refl
sum_ones (x ∷ xs) = let rest = sum_ones xs in let e = sum_by-cons (λ _. 1) x xs in omega (arith, rest, e)

-- a directory has as many names as slots
module _ (handle : ℕ → List ℕ) (f : List ℕ → Option Place) (ss : Slots) (is : IsIndexOf f ss) where
  abbrev key : List ℕ × ℕ → Option (List ℕ)
  key s = Some s.0

  at : (q : List ℕ) (k : ℕ) (s : List ℕ × ℕ) → slice_get ss k ≡ Some s → key s ≡ Some q →
      f q ≡ Some (record { slot = k; inode = s.1 })
  at q k (a, i) here is_q =
      let p : Place = record { slot = k; inode = i } in
      (is q p).1 (here ∙ ap (λ q. Some (q, i)) (some_same refl is_q))

  listed : IsListed key (λ (h : List ℕ). 1) (λ (s : List ℕ × ℕ). 1) (names_of handle ss) ss ss
  listed = record {
    size = refl;
    once = λ i j x y h at_i at_j kx ky. ap (λ (p : Place). p.slot) (some_same (at h i x at_i kx) (at h j y at_j ky));
    covers = λ q v here. by q (f q) refl (sym (names-indexed handle f ss is q) ∙ here);
    none = λ i x y at_i at_j no. absurd (some_none refl no);
    some = λ i x y h at_i at_j kx.
        subst (λ o. IsSomeAnd o (λ (v : List ℕ). ◌≡◌ {A = ℕ} 1 1)) (sym (names-indexed handle f ss is h
        ∙ ap (option_map (λ (p : Place). handle p.inode)) (at h i x at_i kx))) refl;
  }
    where
      by : (q : List ℕ) (o : Option Place) → f q ≡ o → {v : List ℕ} →
          option_map (λ (p : Place). handle p.inode) o ≡ Some v →
          (i : ℕ) × (x : List ℕ × ℕ) × (slice_get ss i ≡ Some x) × (key x ≡ Some q)
      by q None none h = absurd (some_none h refl)
      by q (Some p) some h = (p.slot, (q, p.inode), (is q p).0 some, refl)

  pub len-names : len (names_of handle ss) ≡ length ss
  len-names = sym (total-ones (names_of handle ss))
      ∙ total-listed key (λ (h : List ℕ). 1) (λ (s : List ℕ × ℕ). 1) (names_of handle ss) ss ss listed ∙ sum_ones ss

-- A TABLE AND ITS TREE

module _ (n : ℕ) (files : ℕ → Option File) (handle : ℕ → List ℕ)
    (apart : (i j : ℕ) → i < n → j < n → handle i ≡ handle j → i ≡ j) (few : (i : ℕ) → IsSome (files i) → i < n) where
  pub are_apart : AreApart handle n (table_of files)
  are_apart = record {
    apart = λ i j some_i some_j same.
        apart i j (few i (entry_some files i some_i)) (few j (entry_some files j some_j)) same;
    within = λ i some. few i (entry_some files i some);
  }

-- names that are indexed lead to used inodes
pub are_led : (handle : ℕ → List ℕ) (t : Table) (f : ℕ → List ℕ → Option Place) → IsIndexed t f → AreLed handle t
are_led handle t f indexed i e ss name h at body to = by (f i name) refl (sym (names-indexed handle (f i) ss
    (indexed.index i e ss at body) name) ∙ to)
  where
    by : (o : Option Place) → f i name ≡ o → option_map (λ (p : Place). handle p.inode) o ≡ Some h →
        (j : ℕ) × (IsSome (t j)) × (handle j ≡ h)
    by None none bad = absurd (some_none bad refl)
    by (Some p) is to = (p.inode, indexed.led i e ss name p at body is, some_same refl to)

module _ (n : ℕ) (files : ℕ → Option File) (t : Tables) (tied : IsTied n files t) where
  abbrev tree : Tree
  tree = the_tree n files t

  pub indexed : IsIndexed (table_of files) t.place
  indexed = record { index = tied.index; led = tied.led }

  pub apart : AreApart t.handle n (table_of files)
  apart = are_apart n files t.handle tied.apart tied.few

  pub led : AreLed t.handle (table_of files)
  led = are_led t.handle (table_of files) t.place indexed

  -- the node of a used inode
  pub node-file : (i : ℕ) (f : File) → files i ≡ Some f →
      node_at tree (t.handle i) ≡ Some (node_of t.handle i (entry_of f))
  node-file i f is = node-used t.handle n (table_of files) apart i (entry_of f) (ap (option_map entry_of) is)

  -- a directory's slots are indexed
  pub index-dir : (i : ℕ) (f : File) → files i ≡ Some f → f.kind ≡ Dir →
      IsIndexOf (t.place i) (slots_in (length f.bytes / 288) f.bytes)
  index-dir i f is is_dir = tied.index i (entry_of f) (slots_in (length f.bytes / 288) f.bytes)
      (ap (option_map entry_of) is) (ap (λ k. body_of k f.bytes) is_dir)

  -- the kind of a used inode
  pub kind-file : (i : ℕ) (f : File) → files i ≡ Some f → t.kind i ≡ Some f.kind
  kind-file i f is = tied.kinds i ∙ ap (option_map (λ (f : File). f.kind)) is

  pub file-kind : (i : ℕ) (k : Kind) → t.kind i ≡ Some k → (f : File) × (files i ≡ Some f) × (f.kind ≡ k)
  file-kind i k is = by (files i) refl (sym (tied.kinds i) ∙ is)
    where
      by : (o : Option File) → files i ≡ o → option_map (λ (f : File). f.kind) o ≡ Some k →
          (f : File) × (files i ≡ Some f) × (f.kind ≡ k)
      by None none bad = absurd (some_none bad refl)
      by (Some f) some same = (f, some, some_same refl same)

  pub file-none : (i : ℕ) → t.kind i ≡ None → files i ≡ None
  file-none i none = by (files i) refl
    where
      by : (o : Option File) → files i ≡ o → files i ≡ None
      by None e = e
      by (Some f) e = absurd (some_none (kind-file i f e) none)

  -- where a node is a directory
  pub dir-kind : (i : ℕ) (k : Kind) → t.kind i ≡ Some k → is_dir_at tree (t.handle i) ≡ is_dir_kind k
  dir-kind i k is =
      let f = file-kind i k is in
      ap (λ (o : Option Names). elim o as (λ _. Bool) [ None ↦ false | Some m ↦ true ])
      (names_at-node tree (t.handle i) (node_of t.handle i (entry_of f.0)) (node-file i f.0 f.1))
      ∙ by f.0.kind f.0.bytes ∙ ap is_dir_kind f.2
    where
      by : (kind : Kind) (bytes : List ℕ) →
          (elim (names_in (content_of t.handle (body_of kind bytes))) as (λ _. Bool) [ None ↦ false | Some m ↦ true ])
          ≡ is_dir_kind kind
      by AFile bytes = refl
      by Link bytes = refl
      by Dir bytes = refl

  -- where the names of a directory lead
  pub target-place : (i : ℕ) (f : File) → files i ≡ Some f → f.kind ≡ Dir → (q : List ℕ) →
      target tree (t.handle i) q ≡ option_map (λ (p : Place). t.handle p.inode) (t.place i q)
  target-place i f is is_dir q = target-node tree (t.handle i) (node_of t.handle i (entry_of f))
      (names_of t.handle (slots_in (length f.bytes / 288) f.bytes)) q (node-file i f is)
      (ap (λ k. names_in (content_of t.handle (body_of k f.bytes))) is_dir)
      ∙ names-indexed t.handle (t.place i) (slots_in (length f.bytes / 288) f.bytes) (index-dir i f is is_dir) q

  -- a place of a directory leads to an inode that is used, and counts there
  pub led-place : (k : ℕ) (q : List ℕ) (p : Place) → t.kind k ≡ Some Dir → t.place k q ≡ Some p →
      IsSome (files p.inode)
  led-place k q p is_dir leads =
      let d = file-kind k Dir is_dir in
      entry_some files p.inode (tied.led k (entry_of d.0) (slots_in (length d.0.bytes / 288) d.0.bytes) q p
      (ap (option_map entry_of) d.1) (ap (λ k. body_of k d.0.bytes) d.2) leads)

  pub linked-place : (k : ℕ) (q : List ℕ) (p : Place) → t.kind k ≡ Some Dir → t.place k q ≡ Some p →
      1 ≤ t.counts.links p.inode
  linked-place k q p is_dir leads =
      let d = file-kind k Dir is_dir in
      let counts = tied.counted.links_are p.inode (some_entry files p.inode (led-place k q p is_dir leads)) in
      let some = links-some tree (t.handle p.inode) (t.handle k) q (target-place k d.0 d.1 d.2 q
      ∙ ap (option_map (λ (p : Place). t.handle p.inode)) leads) in
      omega (arith, counts, some)
