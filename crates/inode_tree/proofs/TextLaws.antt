-- Bytes that are written in two parts where there were none.
use Rattle.std.proofs.Common.{◌≡◌, ℕ, ◌+◌, ◌-◌, ◌≤◌, List, [], ◌++◌, length, take, drop, replicate, sym, ap, ◌∙◌, arith}
use Rattle.std.proofs.lemmas.List.{append-nil, take_all, drop_all, take-append-drop, length-take-le}
use Rattle.nfs2_types.specs.Bytes.{resized, overwritten}
use Rattle.nfs2_types.specs.declared.fattr.Kind.TheVariants.{Link}
use Rattle.server_trait.specs.Tree.{Node}
use Rattle.inode_dirs.specs.Files.{File, body_of, entry_of}
use Rattle.inode_dirs.specs.Table.{content_of, node_of}
use Rattle.inode_tree.specs.Sound.{with_text}

resized-cut : (n : ℕ) (b : List ℕ) → n ≤ length b → resized n b ≡ take n b
resized-cut n b l =
    let none : n - length b ≡ 0 = omega arith in
    ap (λ (k : ℕ). take n b ++ replicate k 0) none ∙ append-nil (take n b)

pub over-end : (n : ℕ) (p b : List ℕ) → n ≡ length b → overwritten n p b ≡ b ++ p
over-end n p b e =
    ap (λ (x : List ℕ). x ++ p ++ drop (n + length p) b)
    (resized-cut n b (omega (arith, e)) ∙ take_all n b (omega (arith, e)))
    ∙ ap (λ (x : List ℕ). b ++ p ++ x) (drop_all (n + length p) b (omega (arith, e))) ∙ append-nil (b ++ p)

pub over-none : (p b : List ℕ) → b ≡ [] → overwritten 0 p b ≡ p
over-none p b none = over-end 0 p b (sym (ap length none)) ∙ ap (λ b. b ++ p) none

pub over-both : (n : ℕ) (p b : List ℕ) → b ≡ [] → n ≤ length p →
    overwritten n (drop n p) (overwritten 0 (take n p) b) ≡ p
over-both n p b none l = ap (overwritten n (drop n p)) (over-none (take n p) b none)
    ∙ over-end n (drop n p) (take n p) (sym (length-take-le n p l)) ∙ take-append-drop n p

-- a link with another text is its node with that text
pub text-node : (handle : ℕ → List ℕ) (i : ℕ) (f : File) (text : List ℕ) → f.kind ≡ Link →
    node_of handle i (entry_of (record f { bytes = text })) ≡ with_text text (node_of handle i (entry_of f))
text-node handle i f text is_link = ap (λ k. let x : Node = record {
  number = i;
  mode = f.mode;
  uid = f.uid;
  gid = f.gid;
  content = content_of handle (body_of k text);
} in x) is_link
