-- What the lines of decisions and of the end tell.
use Rattle.std.proofs.Common.{◌≡◌, ℕ, List, [], ◌∷◌, refl}
use Rattle.nfs2_types.specs.declared.Word.{Word}
use Rattle.nfs2_types.specs.declared.Word.TheVariants.{Silent, Reply}
use Rattle.cluster_model.specs.State.{Condition, Live, Down, Rebuilding}
use Rattle.cluster_model.specs.Moments.{decision_line}
use Rattle.cluster_model.specs.Step.{at_line}
use Rattle.cluster_model.specs.Run.{told_by, stable_of, failed_of, since_step}

pub told-decision : (p : ℕ) (w : Word) → told_by (decision_line p w) ≡ (p, w) ∷ []
told-decision p Silent = refl
told-decision p (Reply bytes) = refl

pub stable-decision : (p : ℕ) (w : Word) → stable_of (decision_line p w) ≡ []
stable-decision p Silent = refl
stable-decision p (Reply bytes) = refl

pub failed-decision : (p : ℕ) (w : Word) → failed_of (decision_line p w) ≡ []
failed-decision p Silent = refl
failed-decision p (Reply bytes) = refl

pub since-decision : (r q p : ℕ) (w : Word) → since_step r q (decision_line p w) ≡ q
since-decision r q p Silent = refl
since-decision r q p (Reply bytes) = refl

pub told-at : (r : ℕ) (c : Condition) → told_by (at_line r c) ≡ []
told-at r (Live l) = refl
told-at r Down = refl
told-at r (Rebuilding b) = refl

pub stable-at : (r : ℕ) (c : Condition) → stable_of (at_line r c) ≡ []
stable-at r (Live l) = refl
stable-at r Down = refl
stable-at r (Rebuilding b) = refl

pub failed-at : (r : ℕ) (c : Condition) → failed_of (at_line r c) ≡ []
failed-at r (Live l) = refl
failed-at r Down = refl
failed-at r (Rebuilding b) = refl

pub since-at : (k q r : ℕ) (c : Condition) → since_step k q (at_line r c) ≡ q
since-at k q r (Live l) = refl
since-at k q r Down = refl
since-at k q r (Rebuilding b) = refl
