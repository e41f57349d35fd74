-- What files use, and the same files with directories cut to their first slots.
use Rattle.std.proofs.Common.{◌≡◌, ℕ, zero, suc, ◌*◌, ◌/◌, ◌≤◌, arith, List, take, length, Option, None, Some, IsSome, refl}
use Rattle.std.specs.Option.{option_map}
use Rattle.std.proofs.lemmas.List.{length-take}
use Rattle.nfs2_types.specs.declared.fattr.Kind.{Kind}
use Rattle.nfs2_types.specs.declared.fattr.Kind.TheVariants.{File as AFile, Dir, Link}
use Rattle.pointer_tree.specs.Tree.{sum_to}
use Rattle.server_trait.specs.declared.server.TheConstants.{NAME_BYTES}
use Rattle.inode_dirs.specs.Files.{File}
use Rattle.inode_dirs.specs.SlotBytes.{slot_in, slots_in}
use Rattle.inode_dirs.proofs.PieceLaws.{length-pieces}
use Rattle.inode_store.specs.Layout.{used_at}
use Rattle.inode_mount.specs.Reading.{cut_bytes, cut}

-- what bytes use, by the kind
abbrev pub uses_as : Kind → List ℕ → ℕ
uses_as AFile bytes = length bytes
uses_as Dir bytes = NAME_BYTES * length (slots_in (length bytes / 288) bytes)
uses_as Link bytes = length bytes

pub used-as : (x : File) → used_at (Some x) ≡ uses_as x.kind x.bytes
used-as x = by x.kind x.mode x.uid x.gid x.bytes
  where
    by : (kind : Kind) (mode uid gid : ℕ) (bytes : List ℕ) →
        used_at (Some (record { kind = kind; mode = mode; uid = uid; gid = gid; bytes = bytes })) ≡ uses_as kind bytes
    by AFile mode uid gid bytes = refl
    by Dir mode uid gid bytes = refl
    by Link mode uid gid bytes = refl

uses-cut : (kind : Kind) (k : ℕ) (bytes : List ℕ) → uses_as kind (cut_bytes kind k bytes) ≤ uses_as kind bytes
uses-cut AFile k bytes = omega arith
uses-cut Link k bytes = omega arith
uses-cut Dir k bytes =
    let part : List ℕ = take (288 * k) bytes in
    let few = length-pieces 288 slot_in (length part / 288) part in
    let many = length-pieces 288 slot_in (length bytes / 288) bytes in
    let size = length-take (288 * k) bytes in
    omega (arith, few, many, size)

pub used-cut : (o : Option File) (k : ℕ) → used_at (option_map (cut k) o) ≤ used_at o
used-cut None k = omega arith
used-cut (Some f) k =
    let part = used-as (cut k f) in
    let all = used-as f in
    let less = uses-cut f.kind k f.bytes in
    omega (arith, part, all, less)

pub kind-cut : (o : Option File) (k : ℕ) →
    option_map (λ (f : File). f.kind) (option_map (cut k) o) ≡ option_map (λ (f : File). f.kind) o
kind-cut None k = refl
kind-cut (Some f) k = refl

pub some-cut : (o : Option File) (k : ℕ) → IsSome o → IsSome (option_map (cut k) o)
some-cut None k h = h
some-cut (Some f) k h = refl

pub sums-less : (n : ℕ) (f g : ℕ → ℕ) → ((i : ℕ) → f i ≤ g i) → sum_to n f ≤ sum_to n g
unfolding sum_to
sums-less zero f g less = omega arith
sums-less (suc n) f g less =
    let rest = sums-less n f g less in
    let here = less n in
    omega (arith, rest, here)
