-- What a handle and what is kept say of a node.
use Rattle.std.proofs.Common.{◌≡◌, ◌∙◌, ℕ, List, length, take, Option, Some, None, IsSome, refl, sym, ap, subst, arith}
use Rattle.std.specs.Prelude.{IsSomeAnd, replicate}
use Rattle.std.proofs.lemmas.List.{length-append}
use Rattle.nfs2_types.specs.declared.fattr.Kind.TheVariants.{File, Dir, Link}
use Rattle.server_trait.specs.Tree.{Tree, Node, Content, BytesOf, TextOf, NamesOf, node_at, names_at, names_in, bytes_at, bytes_in, text_at, text_in, kind_of, size_of}
use Rattle.server_trait.specs.Step.{IsNo}
use Rattle.server_trait.specs.Calls.{IsAttr}
use Rattle.server_trait.proofs.TreeLaws.{and_then, is_some_and, names_at-node, some_and}
use Rattle.log_tree.specs.Held.{Records, handle_of, tree_of}
use Rattle.log_held.proofs.Nodes.{node_found}
use Rattle.log_index.specs.declared.info.NodeInfo.{NodeInfo}
use Rattle.log_index.specs.Memory.{IsInfo, Matches}
use Rattle.log_changes.proofs.ButLaws.{number_is}
use Rattle.log_calls.specs.Answers.{IsFound, attr_of}
use Rattle.log_calls.specs.declared.found.Found.{Found}

pub no_node : (live : Records) (h : List ℕ) → ((id : List ℕ) → length id ≡ 8 → h ≡ handle_of id → ⊥)
    → node_at (tree_of live) h ≡ None
no_node live h none =
    elim (node_at (tree_of live) h) as (λ o. node_at (tree_of live) h ≡ o → o ≡ None) [
      | None ↦ (λ e. refl)
      | Some n ↦ (λ e. let f = node_found live h n e in absurd (none (take 8 h) f.eight f.handle))
    ] refl

pub none_kept : (t : Tree) (h : List ℕ) (o : Option Node) → Matches t h o None → o ≡ None
none_kept t h None m = refl
none_kept t h (Some n) m = absurd m

pub some_kept : (t : Tree) (h : List ℕ) (o : Option Node) (i : NodeInfo) → Matches t h o (Some i)
    → IsSomeAnd o (λ n. IsInfo t h n i)
some_kept t h None i m = absurd m
some_kept t h (Some n) i m = m

-- THE KIND OF A NODE

not_dir : (c : Content) → (kind_of c ≡ Dir → ⊥) → names_in c ≡ None
not_dir (BytesOf b) other = refl
not_dir (TextOf b) other = refl
not_dir (NamesOf m) other = absurd (other refl)

not_file : (c : Content) → (kind_of c ≡ File → ⊥) → bytes_in c ≡ None
not_file (BytesOf b) other = absurd (other refl)
not_file (TextOf b) other = refl
not_file (NamesOf m) other = refl

not_link : (c : Content) → (kind_of c ≡ Link → ⊥) → text_in c ≡ None
not_link (BytesOf b) other = refl
not_link (TextOf b) other = absurd (other refl)
not_link (NamesOf m) other = refl

dir_some : (c : Content) → kind_of c ≡ Dir → IsSome (names_in c)
dir_some (BytesOf b) e = absurd cc
dir_some (TextOf b) e = absurd cc
dir_some (NamesOf m) e = refl

file_some : (c : Content) → kind_of c ≡ File → IsSomeAnd (bytes_in c) (λ b. size_of c ≡ length b)
file_some (BytesOf b) e = refl
file_some (TextOf b) e = absurd cc
file_some (NamesOf m) e = absurd cc

link_some : (c : Content) → kind_of c ≡ Link → IsSome (text_in c)
link_some (BytesOf b) e = absurd cc
link_some (TextOf b) e = refl
link_some (NamesOf m) e = absurd cc

module _ (t : Tree) (h : List ℕ) (f : Found) (found : IsFound t h (Some f)) where
  there : (n : Node) × (node_at t h ≡ Some n) × IsInfo t h n f.info
  there = some_and (node_at t h) (λ n. IsInfo t h n f.info) found.1

  abbrev n : Node
  n = there.0

  pub dir_found : f.info.kind ≡ Dir → IsSome (names_at t h)
  dir_found e = subst (λ o. IsSome o) (sym (names_at-node t h n there.1)) (dir_some n.content (sym there.2.kind ∙ e))

  pub no_dir_found : (f.info.kind ≡ Dir → ⊥) → IsNo names_in t h
  no_dir_found other = is_some_and (λ (k : Node). names_in k.content ≡ None) there.1
      (not_dir n.content (λ e. other (there.2.kind ∙ e)))

  pub file_found : f.info.kind ≡ File → IsSomeAnd (bytes_at t h) (λ b. f.info.size ≡ length b)
  file_found e = subst (λ o. IsSomeAnd o (λ b. f.info.size ≡ length b))
      (sym (and_then (λ (k : Node). bytes_in k.content) (node_at t h) n there.1))
      (subst (λ s. IsSomeAnd (bytes_in n.content) (λ b. s ≡ length b)) (sym there.2.size)
      (file_some n.content (sym there.2.kind ∙ e)))

  pub no_file_found : (f.info.kind ≡ File → ⊥) → IsNo bytes_in t h
  no_file_found other = is_some_and (λ (k : Node). bytes_in k.content ≡ None) there.1
      (not_file n.content (λ e. other (there.2.kind ∙ e)))

  pub link_found : f.info.kind ≡ Link → IsSome (text_at t h)
  link_found e = subst (λ o. IsSome o) (sym (and_then (λ (k : Node). text_in k.content) (node_at t h) n there.1))
      (link_some n.content (sym there.2.kind ∙ e))

  pub no_link_found : (f.info.kind ≡ Link → ⊥) → IsNo text_in t h
  no_link_found other = is_some_and (λ (k : Node). text_in k.content ≡ None) there.1
      (not_link n.content (λ e. other (there.2.kind ∙ e)))

-- what is told of a node
pub attr_is : (live : Records) (h : List ℕ) (f : Found) → IsFound (tree_of live) h (Some f)
    → IsSomeAnd (node_at (tree_of live) h) (IsAttr (tree_of live) h (attr_of f))
attr_is live h f found =
    let n = some_and (node_at (tree_of live) h) (λ n. IsInfo (tree_of live) h n f.info) found.1 in
    let i = n.2 in
    let back = node_found live h n.0 n.1 in
    let long : length f.id ≡ 8 = omega (
      arith,
      ap length (sym found.0 ∙ back.handle),
      back.eight,
      length-append f.id (replicate 24 0),
      length-append (take 8 h) (replicate 24 0),
    ) in
    is_some_and (IsAttr (tree_of live) h (attr_of f)) n.1 (record {
      kind = i.kind;
      number = sym (number_is live f.id n.0 long (ap (node_at (tree_of live)) (sym found.0) ∙ n.1));
      mode = i.mode;
      uid = i.uid;
      gid = i.gid;
      size = i.size;
      links = i.links;
    })
