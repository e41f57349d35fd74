use Rattle.std.proofs.Common.{◌≡◌, ◌∙◌, ℕ, None, List, Option, refl, sym, ap, subst, arith}
use Rattle.std.specs.Prelude.{IsSomeAnd}
use Rattle.std.specs.Ordering.{nat_cmp}
use Rattle.std.specs.Cmp.Lexicographic.{slice_cmp}
use Rattle.std.specs.FinMap.{get, get-empty}
use Rattle.server_trait.proofs.TreeLaws.{some_none}
use Rattle.inode_dirs.specs.Files.{File, IsDirectory, slots_at}
use Rattle.inode_dirs.specs.SlotBytes.{pieces}
use Rattle.inode_dirs.specs.Slots.{Slots, IsIndexOf}
use Rattle.inode_slots.proofs.tests.formatted.Goals as goal

pub returns : goal.returns
unfolding pieces
returns c =
    let e = c.in_ok-format.ensures in
    let index = c.new-index.result in
    let none : (q : List ℕ) → get index q ≡ None =
    λ q. ap (λ m. get m q) c.new-index.ensures ∙ get-empty (slice_cmp nat_cmp) q in
    record {
      kept = e.kept;
      within = omega (arith, e.inodes);
      directory = subst (λ (o : Option File). IsSomeAnd o IsDirectory) (sym e.root)
          (record { kind = refl; whole = refl });
      indexed = subst (λ (ss : Slots). IsIndexOf (λ q. get index q) ss) (sym (ap slots_at e.root))
          (λ q p. (λ a. absurd (some_none a (none q)), λ at. absurd (some_none at refl)));
    }
