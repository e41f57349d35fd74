-- Calls that make a node, over a tree on a medium.
use Rattle.std.proofs.Common.{◌≡◌, ◌≢◌, ◌⊎◌, inl, inr, true, false, ℕ, ◌+◌, ◌≤◌, arith, List, [], ◌∷◌, length, Some, None, refl, sym, ap, ◌∙◌, subst}
use Rattle.std.specs.Prelude.{◌==◌}
use Rattle.std.specs.FinMap.{get, insert}
use Rattle.std.proofs.lemmas.Bool.{eqb-true}
use Rattle.nfs2_types.specs.declared.fattr.Kind.{Kind}
use Rattle.nfs2_types.specs.declared.fattr.Kind.TheVariants.{File as AFile, Dir, Link}
use Rattle.server_trait.specs.Tree.{Tree, Node, Content, TextOf, node_at, with_node, new_node, edited, named}
use Rattle.server_trait.specs.Calls.{DirErr, Make, Made, MakeErr, IsNewNumber}
use Rattle.server_trait.specs.declared.server.SrvErr.{SrvErr}
use Rattle.server_trait.specs.declared.server.SrvErr.TheVariants.{Stale, NotDir}
use Rattle.server_trait.specs.declared.server.ServerLimits.{ServerLimits}
use Rattle.server_trait.proofs.TreeLaws.{edited-some, get-insert_same, get-insert_other, same_answers, some_none, bytes_or_not}
use Rattle.inode_dirs.specs.Files.{table_of}
use Rattle.inode_dirs.proofs.TableLaws.{node-from}
use Rattle.inode_store.specs.Held.{files_of}
use Rattle.inode_tree.specs.Kept.{tables_of}
use Rattle.inode_tree.specs.Sound.{empty_of, with_text}
use Rattle.inode_tree.specs.Changes.{Takes, Resizes}
use Rattle.inode_tree.specs.Whole.{tree_in, IsWhole}
use Rattle.inode_tree.specs.declared.tree.InodeTree.{InodeTree}
use Rattle.inode_tree.proofs.TiedLaws.{some_is, entry_some, kind-file, some_of, apart}
use Rattle.inode_server.specs.Found.{IsFound}
use Rattle.inode_server.specs.Made.{content_with, Makes}
use Rattle.inode_server.proofs.CallLaws.{IsCall}

abbrev pub make_call : {M : Type 0} (content : M → ℕ → List ℕ) (faults : M → ℕ) (old : InodeTree M) (what : Content)
    (bytes : ℕ) (dir name : List ℕ) → IsCall content faults (λ a. Make what bytes a dir name) old
make_call content faults old what bytes dir name = record {
  done = λ t h after. Made t dir name what h after;
  applies = MakeErr old.limits dir name bytes;
  is = λ r new x. x;
}

pub dir_make : (limits : ServerLimits) (t : Tree) (dir name : List ℕ) (bytes : ℕ) (e : SrvErr) → DirErr dir t e →
    MakeErr limits dir name bytes t e
dir_make limits t dir name bytes Stale a = a
dir_make limits t dir name bytes NotDir a = a
dir_make limits t dir name bytes e a = absurd a

-- a node that was just put in changes
edited-new : (t : Tree) (h : List ℕ) (n : Node) (f : Node → Node) → edited (with_node t h n) h f ≡ with_node t h (f n)
edited-new t h n f =
    edited-some (with_node t h n) h f n (get-insert_same t.nodes h n)
    ∙ ap (λ m. let u : Tree = record { root = t.root; nodes = m } in u) (same_answers (insert (insert t.nodes h n) h (f n))
    (insert t.nodes h (f n)) (λ q. by q (bytes_or_not q h)))
  where
    by : (q : List ℕ) → ((q ≡ h) ⊎ (q ≢ h)) → get (insert (insert t.nodes h n) h (f n)) q ≡ get (insert t.nodes h (f n)) q
    by q (inl e) = ap (get (insert (insert t.nodes h n) h (f n))) e ∙ get-insert_same (insert t.nodes h n) h (f n)
        ∙ sym (ap (get (insert t.nodes h (f n))) e ∙ get-insert_same t.nodes h (f n))
    by q (inr ne) = get-insert_other (insert t.nodes h n) h (f n) q ne ∙ get-insert_other t.nodes h n q ne
        ∙ sym (get-insert_other t.nodes h (f n) q ne)

-- a node without a text
bare : (kind : Kind) (text : List ℕ) → text ≡ [] → empty_of kind ≡ content_with kind text
bare AFile text e = refl
bare Dir text e = refl
bare Link text e = ap TextOf (sym e)

module _ {M : Type 0} (content : M → ℕ → List ℕ) (old mid new : InodeTree M) (i : ℕ) (kind : Kind) (text : List ℕ)
    (was_free : (tables_of old.tables).kind i ≡ None)
    (tree : tree_in content mid ≡ with_node (tree_in content old) ((tables_of mid.tables).handle i)
    (new_node i (empty_of kind)))
    (new_handle : node_at (tree_in content old) ((tables_of mid.tables).handle i) ≡ None)
    (takes : Takes (tables_of old.tables) (tables_of mid.tables) i kind 0) where
  -- it has no text
  pub makes-bare : text ≡ [] → Makes content old mid i kind text
  makes-bare none = record {
    tree = tree ∙ ap (λ c. with_node (tree_in content old) ((tables_of mid.tables).handle i) (new_node i c))
        (bare kind text none);
    new_handle = new_handle;
    was_free = was_free;
    kind_is = takes.kind_here;
    kinds = takes.kinds;
    handles = takes.handles;
    places = takes.places;
    unlinked = takes.counts.links_here;
    used = takes.counts.used ∙ ap (λ b. (tables_of old.tables).counts.used + length b) (sym none);
  }

  -- it is a link, and has got its text
  pub makes-text : kind ≡ Link → tree_in content new ≡ edited (tree_in content mid) ((tables_of mid.tables).handle i)
      (with_text text) → Resizes (tables_of mid.tables) (tables_of new.tables) 0 (length text) →
      Makes content old new i kind text
  makes-text is_link changed resizes =
      let handle : (tables_of new.tables).handle ≡ (tables_of mid.tables).handle = resizes.handles in
      let h : List ℕ = (tables_of mid.tables).handle i in
      let same : (tables_of new.tables).handle i ≡ h = ap (λ f. f i) handle in
      let used_mid = takes.counts.used in
      let used_new = resizes.counts.used in
      record {
        tree = changed ∙ ap (λ t. edited t h (with_text text)) tree
            ∙ edited-new (tree_in content old) h (new_node i (empty_of kind)) (with_text text)
            ∙ ap (λ c. with_node (tree_in content old) h (new_node i c)) (ap (λ k. content_with k text) (sym is_link))
            ∙ ap (λ h. with_node (tree_in content old) h (new_node i (content_with kind text))) (sym same);
        new_handle = subst (λ h. node_at (tree_in content old) h ≡ None) (sym same) new_handle;
        was_free = was_free;
        kind_is = ap (λ f. f i) resizes.kinds ∙ takes.kind_here;
        kinds = λ k ne. ap (λ f. f k) resizes.kinds ∙ takes.kinds k ne;
        handles = λ k ne. ap (λ f. f k) handle ∙ takes.handles k ne;
        places = λ k ne. ap (λ f. f k) resizes.places ∙ takes.places k ne;
        unlinked = resizes.counts.links i ∙ takes.counts.links_here;
        used = omega (arith, used_mid, used_new);
      }

-- only a link has a text
pub link-text : (kind : Kind) (text : List ℕ) → (kind ≢ Link → text ≡ []) → 1 ≤ length text → kind ≡ Link
link-text Link text only some = refl
link-text AFile text only some =
    let none : text ≡ [] = only (λ e. (let bad : AFile ≡ Link = e in cc)) in
    let zero_len : length text ≡ 0 = ap length none in
    absurd (omega (arith, some, zero_len))
link-text Dir text only some =
    let none : text ≡ [] = only (λ e. (let bad : Dir ≡ Link = e in cc)) in
    let zero_len : length text ≡ 0 = ap length none in
    absurd (omega (arith, some, zero_len))

module _ {M : Type 0} (content : M → ℕ → List ℕ) (size : M → ℕ) (old mid new : InodeTree M)
    (whole : IsWhole content size old) (dir name : List ℕ) (within : ℕ) (found : IsFound (tables_of old.tables) dir Dir within)
    (i : ℕ) (kind : Kind) (text : List ℕ) (makes : Makes content old mid i kind text) where
  -- the directory is another inode
  pub other : within ≢ i
  other e = some_none found.kind_is (ap (tables_of old.tables).kind e ∙ makes.was_free)

  -- no node has its number
  new_number : IsNewNumber (tree_in content old) i
  new_number q x is same =
      let files = files_of old.store.area old.store.inodes (content old.store.medium) in
      let t = tables_of old.tables in
      let from = node-from t.handle old.store.inodes (table_of files)
      (apart old.store.inodes files t whole.tied) q x is in
      let number : from.0 ≡ i = ap (λ (n : Node). n.number) from.4 ∙ same in
      let f = some_of (files from.0) (entry_some files from.0 (some_is from.2)) in
      some_none (kind-file old.store.inodes files t whole.tied from.0 f.0 f.1) (ap t.kind number ∙ makes.was_free)

  -- a name leads to it
  pub made : tree_in content new ≡ named (tree_in content mid) ((tables_of mid.tables).handle within) name
      ((tables_of mid.tables).handle i) → (h : List ℕ) → h ≡ (tables_of mid.tables).handle i →
      Made (tree_in content old) dir name (content_with kind text) h (Some (tree_in content new))
  made named_is h is = record {
    number = i;
    new_number = new_number;
    new_handle = subst (λ h. node_at (tree_in content old) h ≡ None) (sym is) makes.new_handle;
    after = ap Some (named_is
        ∙ ap (λ t. named t ((tables_of mid.tables).handle within) name ((tables_of mid.tables).handle i)) makes.tree
        ∙ ap (λ d. named (with_node (tree_in content old) ((tables_of mid.tables).handle i)
        (new_node i (content_with kind text))) d name ((tables_of mid.tables).handle i))
        (makes.handles within other ∙ found.handle)
        ∙ ap (λ h. named (with_node (tree_in content old) h (new_node i (content_with kind text))) dir name h) (sym is));
  }

-- whether a text has bytes
pub some_length : (b : List ℕ) → false ≡ (length b == 0) → 1 ≤ length b
some_length [] bad = absurd (let no : false ≡ true = bad in cc)
some_length (x ∷ b) is = omega arith

pub none_length : (b : List ℕ) → true ≡ (length b == 0) → b ≡ []
none_length [] is = refl
none_length (x ∷ b) bad = absurd (let zero_len = eqb-true (length (x ∷ b)) 0 (sym bad) in omega (arith, zero_len))
