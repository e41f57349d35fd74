-- A tree on a medium after a read.
use Rattle.std.proofs.Common.{◌≡◌, ℕ, List, Bool, take, drop, Option, Some, refl, sym, ap, ◌∙◌, subst}
use Rattle.std.specs.Option.{option_map}
use Rattle.pointer_tree.specs.Tree.{Content as Blocks}
use Rattle.pointer_tree.specs.declared.node.Area.{Area}
use Rattle.server_trait.specs.declared.server.ServerLimits.{ServerLimits}
use Rattle.server_trait.proofs.TreeLaws.{some_same}
use Rattle.inode_dirs.specs.Files.{File}
use Rattle.inode_store.specs.Inodes.{inode_at, file_at, file_of, bytes_of}
use Rattle.inode_store.specs.Held.{files_of}
use Rattle.inode_store.specs.declared.inode.Inode.{Inode}
use Rattle.inode_store.proofs.ByteLaws.{length-bytes_from}
use Rattle.inode_tree.specs.Tables.{Tables}
use Rattle.inode_tree.specs.Sound.{IsSound, Tells, the_tree}

-- nothing has changed
pub whole-same : (limits : ServerLimits) (area : Area) (n : ℕ) (c : Blocks) (size : ℕ) (m : List Bool) (t : Tables)
    (area' : Area) (n' : ℕ) (c' : Blocks) (size' : ℕ) (m' : List Bool) → area' ≡ area → n' ≡ n → c' ≡ c →
    size' ≡ size → m' ≡ m → IsSound limits area n c size m t → IsSound limits area' n' c' size' m' t
whole-same limits area n c size m t area' n' c' size' m' ea en ec es em sound =
    subst (λ a. IsSound limits a n' c' size' m' t) (sym ea)
    (subst (λ n. IsSound limits area n c' size' m' t) (sym en)
    (subst (λ c. IsSound limits area n c size' m' t) (sym ec)
    (subst (λ s. IsSound limits area n c s m' t) (sym es)
    (subst (λ m. IsSound limits area n c size m t) (sym em) sound))))

pub held-same : (area : Area) (n : ℕ) (c : Blocks) (t : Tables) (area' : Area) (n' : ℕ) (c' : Blocks) → area' ≡ area →
    n' ≡ n → c' ≡ c → the_tree n' (files_of area' n' c') t ≡ the_tree n (files_of area n c) t
held-same area n c t area' n' c' ea en ec = ap (λ a. the_tree n' (files_of a n' c') t) ea
    ∙ ap (λ n. the_tree n (files_of area n c') t) en ∙ ap (λ c. the_tree n (files_of area n c) t) ec

-- an inode tells what its file is, but for the bytes
pub tells : (area : Area) (c : Blocks) (i : ℕ) (x : Inode) (f : File) → inode_at area c i ≡ Some x →
    file_at area c i ≡ Some f → Tells x f
unfolding file_at bytes_of
tells area c i x f at is =
    let same : file_of area c x ≡ f = some_same (ap (option_map (file_of area c)) at) is in
    subst (λ f. Tells x f) same (record {
      kind = refl;
      mode = refl;
      uid = refl;
      gid = refl;
      size = length-bytes_from _ 0 x.size;
    })

pub part_of : (o : Option File) (f : File) (from count : ℕ) (v : List ℕ) → o ≡ Some f →
    option_map (λ (f : File). take count (drop from f.bytes)) o ≡ Some v → v ≡ take count (drop from f.bytes)
part_of o f from count v is read = some_same read (ap (option_map (λ (f : File). take count (drop from f.bytes))) is)
