use Rattle.std.proofs.Common.{◌≡◌, ◌<◌, length, sym, ap, ◌∙◌, subst, arith}
use Rattle.rebuilding.specs.Make.{FirstAlone}
use Rattle.rebuilding.specs.Name.{bit_at}
use Rattle.rebuilding.proofs.Steps.{can_make, made_then, can_dress, dressed_then, bits_within, can_name, all_stand}
use Rattle.rebuilding.proofs.building.build.Goals as goal

pub first_alone-requires : goal.first_alone-requires
first_alone-requires g c = let a = c.requires.within.0 in let b = c.requires.valid.size in omega (arith, a, b)

pub make-requires-clause-can : goal.make-requires-clause-can
make-requires-clause-can g c = can_make c.args.limits.now c.args.entries.now c.requires.valid c.requires.within _ c.requires.room c.as_slice.result.now (subst (FirstAlone (length c.args.entries.now)) (sym c.as_slice.ensures.value) c.in_ok-stays.ensures.first)
    _ c.args.staging.now c.args.table.now c.requires.stands

pub make-requires-clause-few : goal.make-requires-clause-few
make-requires-clause-few g c = let a = c.requires.within.1 in let b = c.requires.valid.size in omega (arith, a, b)

pub dress_all-requires-clause-can : goal.dress_all-requires-clause-can
dress_all-requires-clause-can g c = can_dress c.args.limits.now c.args.entries.now c.requires.valid c.requires.within _ c.requires.room c.as_slice.result.now (subst (FirstAlone (length c.args.entries.now)) (sym c.as_slice.ensures.value) c.in_ok-stays.ensures.first)
    _ c.args.staging.now c.make.new.table
    (made_then c.args.limits.now c.args.entries.now c.requires.valid c.requires.within _ c.requires.room c.as_slice.result.now (subst (FirstAlone (length c.args.entries.now)) (sym c.as_slice.ensures.value) c.in_ok-stays.ensures.first) _ c.args.staging.now c.args.table.now c.requires.stands _ c.make.new.table c.in_ok-make.ensures.made)

pub dress_all-requires-clause-few : goal.dress_all-requires-clause-few
dress_all-requires-clause-few g c = let a = c.requires.within.1 in let b = c.requires.valid.size in omega (arith, a, b)

pub name-requires-clause-can : goal.name-requires-clause-can
name-requires-clause-can g c = can_name c.args.limits.now c.args.entries.now c.requires.valid c.requires.within _ c.requires.room c.as_slice.result.now (subst (FirstAlone (length c.args.entries.now)) (sym c.as_slice.ensures.value) c.in_ok-stays.ensures.first)
    c.as_mut_slice.result.now (ap length c.as_mut_slice.ensures.value ∙ c.in_ok-staged.ensures.size)
    (λ i low. ap (λ b. bit_at b i) c.as_mut_slice.ensures.value ∙ c.in_ok-staged.ensures.bits i low)
    _ c.args.staging.now c.dress_all.new.table
    (dressed_then c.args.limits.now c.args.entries.now c.requires.valid c.requires.within _ c.requires.room c.as_slice.result.now (subst (FirstAlone (length c.args.entries.now)) (sym c.as_slice.ensures.value) c.in_ok-stays.ensures.first) _ c.args.staging.now c.make.new.table
    (made_then c.args.limits.now c.args.entries.now c.requires.valid c.requires.within _ c.requires.room c.as_slice.result.now (subst (FirstAlone (length c.args.entries.now)) (sym c.as_slice.ensures.value) c.in_ok-stays.ensures.first) _ c.args.staging.now c.args.table.now c.requires.stands _ c.make.new.table c.in_ok-make.ensures.made) _ c.dress_all.new.table c.in_ok-dress_all.ensures.dressed)
    _ (c.in_ok-dress_all.ensures.watched.limits ∙ c.in_ok-make.ensures.watched.limits)

pub name-requires-clause-few : goal.name-requires-clause-few
name-requires-clause-few g c = let a = c.requires.within.1 in let b = c.requires.valid.size in omega (arith, a, b)

pub name-requires-clause-within : goal.name-requires-clause-within
name-requires-clause-within g c = bits_within c.args.limits.now c.args.entries.now c.requires.valid c.requires.within _ c.requires.room c.as_slice.result.now (subst (FirstAlone (length c.args.entries.now)) (sym c.as_slice.ensures.value) c.in_ok-stays.ensures.first)
    c.as_mut_slice.result.now (ap length c.as_mut_slice.ensures.value ∙ c.in_ok-staged.ensures.size)
    (λ i low. ap (λ b. bit_at b i) c.as_mut_slice.ensures.value ∙ c.in_ok-staged.ensures.bits i low)

pub returns-clause-built : goal.returns-clause-built
returns-clause-built g c = all_stand c.args.limits.now c.args.entries.now c.requires.valid c.requires.within _ c.requires.room c.as_slice.result.now (subst (FirstAlone (length c.args.entries.now)) (sym c.as_slice.ensures.value) c.in_ok-stays.ensures.first)
    c.as_mut_slice.result.now (ap length c.as_mut_slice.ensures.value ∙ c.in_ok-staged.ensures.size)
    (λ i low. ap (λ b. bit_at b i) c.as_mut_slice.ensures.value ∙ c.in_ok-staged.ensures.bits i low)
    _ c.args.staging.now c.dress_all.new.table
    (dressed_then c.args.limits.now c.args.entries.now c.requires.valid c.requires.within _ c.requires.room c.as_slice.result.now (subst (FirstAlone (length c.args.entries.now)) (sym c.as_slice.ensures.value) c.in_ok-stays.ensures.first) _ c.args.staging.now c.make.new.table
    (made_then c.args.limits.now c.args.entries.now c.requires.valid c.requires.within _ c.requires.room c.as_slice.result.now (subst (FirstAlone (length c.args.entries.now)) (sym c.as_slice.ensures.value) c.in_ok-stays.ensures.first) _ c.args.staging.now c.args.table.now c.requires.stands _ c.make.new.table c.in_ok-make.ensures.made) _ c.dress_all.new.table c.in_ok-dress_all.ensures.dressed)
    _ (c.in_ok-dress_all.ensures.watched.limits ∙ c.in_ok-make.ensures.watched.limits) _ c.in_ok-name.ensures.named
