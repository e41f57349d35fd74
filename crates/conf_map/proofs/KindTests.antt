-- The tests of a node's kind.
use Rattle.std.proofs.Common.{◌≡◌, ◌↔◌, Bool, true, false, refl}
use Rattle.std.specs.Bool.{IsTrue}
use Rattle.nfs2_types.specs.declared.fattr.Kind.{Kind}
use Rattle.nfs2_types.specs.declared.fattr.Kind.TheVariants.{File, Dir, Link}
use Rattle.conf_map.specs.Found.{is_file_kind, is_dir_kind, is_link_kind}

-- a test that never holds
never : (b : Bool) → (IsTrue b → ⊥) → b ≡ false
never true not = absurd (not refl)
never false not = refl

-- a test that holds of one kind alone
pub file_test : (b : Bool) (k : Kind) → (IsTrue b ↔ (k ≡ File)) → b ≡ is_file_kind k
file_test b File test = test.1 refl
file_test b Dir test = never b (λ t. let bad : Dir ≡ File = test.0 t in cc)
file_test b Link test = never b (λ t. let bad : Link ≡ File = test.0 t in cc)

pub dir_test : (b : Bool) (k : Kind) → (IsTrue b ↔ (k ≡ Dir)) → b ≡ is_dir_kind k
dir_test b File test = never b (λ t. let bad : File ≡ Dir = test.0 t in cc)
dir_test b Dir test = test.1 refl
dir_test b Link test = never b (λ t. let bad : Link ≡ Dir = test.0 t in cc)

pub link_test : (b : Bool) (k : Kind) → (IsTrue b ↔ (k ≡ Link)) → b ≡ is_link_kind k
link_test b File test = never b (λ t. let bad : File ≡ Link = test.0 t in cc)
link_test b Dir test = never b (λ t. let bad : Dir ≡ Link = test.0 t in cc)
link_test b Link test = test.1 refl
