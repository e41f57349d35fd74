-- What is read is within the bounds of its procedure.
use Rattle.std.proofs.Common.{◌≡◌, ℕ, zero, suc, ◌<◌, ◌≤◌, ◌%◌, ◌^◌, Bool, true, false, cond, eqb, ltb, List, Some, None, Result, Ok, Err, refl, sym, subst, arith}
use Rattle.std.specs.Prelude.{◌&&◌, unwrap_or, IfOk}
use Rattle.std.proofs.lemmas.Bool.{le-leb}
use Rattle.xdr_core.specs.declared.error.XdrErr.{XdrErr}
use Rattle.xdr_core.specs.Items.{Value, Fits}
use Rattle.xdr_core.specs.Grammar.{Grammar, gives, item, and_then, Spells}
use Rattle.nfs2_types.specs.declared.args.SetTime.{SetTime}
use Rattle.nfs2_types.specs.declared.args.Sattr.{Sattr}
use Rattle.nfs2_types.specs.declared.args.Args.{Args}
use Rattle.nfs2_types.specs.Call.{Call, call_of, set_time_fits, sattr_fits, call_fits, null, root, write_cache, set_attr, create, symlink, make_dir}
use Rattle.nfs2_args.specs.Forms.{sattr_form, get_attr_form, set_attr_form, lookup_form, read_link_form, read_form, write_form, create_form, remove_form, rename_form, link_form, symlink_form, make_dir_form, remove_dir_form, read_dir_form, stat_fs_form, args_form}
use Rattle.nfs2_args.specs.Spelling.{number_of, field_fits, seconds_fit, fields_fit, call_fields_fit}

-- a fact of each value that a format gives
abbrev pub Always : {A : Type 0} → Grammar A → (A → Type 0) → Type 0
Always (gives a) P = P a
Always (item i next) P = (x : Value i) → Fits i x → Always (next x) P

pub of_spelled : {A : Type 0} (g : Grammar A) (P : A → Type 0) (value : A) (text : List ℕ) → Always g P →
    Spells g value text → P value
of_spelled (gives a) P value text h s = subst P (sym s.0) h
of_spelled (item i next) P value text h s = of_spelled (next s.0) P value s.1 (h s.0 s.2) s.4

pub always_then : {A B : Type 0} (g : Grammar A) (f : A → Grammar B) (P : A → Type 0) (Q : B → Type 0) → Always g P →
    ((a : A) → P a → Always (f a) Q) → Always (and_then g f) Q
always_then (gives a) f P Q h k = k a h
always_then (item i next) f P Q h k = λ x fits. always_then (next x) f P Q (h x fits) k

-- ---- a sattr

mode_low : (b : Bool) (n : ℕ) → ltb (unwrap_or (cond b None (Some (n % 4096))) 0) 4096 ≡ true
mode_low true n = refl
mode_low false n = grind arith

field_low : (b : Bool) (n : ℕ) → eqb n 4294967295 ≡ b → n < 2 ^ 32 → field_fits (cond b None (Some n)) ≡ true
field_low true n e h = refl
field_low false n e h = grind (arith, e, h)

time_fits : (b c : Bool) (secs micros : ℕ) → ltb micros 1000000 ≡ c →
    set_time_fits (cond b SetTime.Keep (cond c (SetTime.At (record { secs = secs; micros = micros })) SetTime.Now))
    ≡ true
time_fits true c secs micros e = refl
time_fits false true secs micros e = e
time_fits false false secs micros e = refl

seconds_low : (b c : Bool) (secs micros : ℕ) → eqb secs 4294967295 ≡ b → secs < 2 ^ 32 →
    seconds_fit (cond b SetTime.Keep (cond c (SetTime.At (record { secs = secs; micros = micros })) SetTime.Now)) ≡ true
seconds_low true c secs micros e h = refl
seconds_low false true secs micros e h = grind (arith, e, h)
seconds_low false false secs micros e h = refl

both : (a b : Bool) → a ≡ true → b ≡ true → (a && b) ≡ true
both true b e h = h
both false b e h = absurd cc

record Settable (s : Sattr) : Type 0 where
  fits : sattr_fits s ≡ true
  fields : fields_fit s ≡ true

sattr_within : Always sattr_form Settable
unfolding sattr_form
sattr_within = λ mode a uid b gid c size d asecs e amicros f msecs g mmicros h. record {
  fits = both _ _ (both _ _ (mode_low (eqb mode 4294967295) mode)
      (time_fits (eqb asecs 4294967295) (ltb amicros 1000000) asecs amicros refl))
      (time_fits (eqb msecs 4294967295) (ltb mmicros 1000000) msecs mmicros refl);
  fields = both _ _ (both _ _
      (both _ _ (both _ _ (field_low (eqb uid 4294967295) uid refl b.0) (field_low (eqb gid 4294967295) gid refl c.0))
      (field_low (eqb size 4294967295) size refl d.0))
      (seconds_low (eqb asecs 4294967295) (ltb amicros 1000000) asecs amicros refl e.0))
      (seconds_low (eqb msecs 4294967295) (ltb mmicros 1000000) msecs mmicros refl g.0);
}

-- ---- the procedures

-- the call is one of the procedure, within its bounds
pub record Within (proc : ℕ) (call : Call) : Type 0 where
  pub fits : call_fits call ≡ true
  pub fields : call_fields_fit call ≡ true
  pub number : number_of call ≡ proc

of_sattr : (number : ℕ) (call : Sattr → Call) → ((s : Sattr) → Settable s → Within number (call s)) →
    Always (and_then sattr_form (λ s. gives (call s))) (Within number)
of_sattr number call h = always_then sattr_form (λ s. gives (call s)) Settable (Within number) sattr_within h

get_attr_within : Always get_attr_form (Within 1)
unfolding get_attr_form
get_attr_within = λ node a. record { fits = refl; fields = refl; number = refl }

set_attr_within : Always set_attr_form (Within 2)
unfolding set_attr_form
set_attr_within = λ node a. of_sattr 2 (λ s. set_attr node s)
    (λ s h. record { fits = h.fits; fields = h.fields; number = refl })

lookup_within : Always lookup_form (Within 4)
unfolding lookup_form
lookup_within = λ dir a name b. record { fits = le-leb _ _ b.1; fields = refl; number = refl }

read_link_within : Always read_link_form (Within 5)
unfolding read_link_form
read_link_within = λ node a. record { fits = refl; fields = refl; number = refl }

read_within : Always read_form (Within 6)
unfolding read_form
read_within = λ file a offset b count c total d. record { fits = refl; fields = refl; number = refl }

write_within : Always write_form (Within 8)
unfolding write_form
write_within = λ file a begin b offset c total d bytes e. record { fits = le-leb _ _ e.1; fields = refl; number = refl }

create_within : Always create_form (Within 9)
unfolding create_form
create_within = λ dir a name b. of_sattr 9 (λ s. create dir name s)
    (λ s h. record { fits = both _ _ (le-leb _ _ b.1) h.fits; fields = h.fields; number = refl })

remove_within : Always remove_form (Within 10)
unfolding remove_form
remove_within = λ dir a name b. record { fits = le-leb _ _ b.1; fields = refl; number = refl }

rename_within : Always rename_form (Within 11)
unfolding rename_form
rename_within = λ from a name b to c to_name d. record {
  fits = both _ _ (le-leb _ _ b.1) (le-leb _ _ d.1);
  fields = refl;
  number = refl;
}

link_within : Always link_form (Within 12)
unfolding link_form
link_within = λ node a dir b name c. record { fits = le-leb _ _ c.1; fields = refl; number = refl }

symlink_within : Always symlink_form (Within 13)
unfolding symlink_form
symlink_within = λ dir a name b text c. of_sattr 13 (λ s. symlink dir name text s)
    (λ s h. record {
      fits = both _ _ (both _ _ (le-leb _ _ b.1) (le-leb _ _ c.1)) h.fits;
      fields = h.fields;
      number = refl;
    })

make_dir_within : Always make_dir_form (Within 14)
unfolding make_dir_form
make_dir_within = λ dir a name b. of_sattr 14 (λ s. make_dir dir name s)
    (λ s h. record { fits = both _ _ (le-leb _ _ b.1) h.fits; fields = h.fields; number = refl })

remove_dir_within : Always remove_dir_form (Within 15)
unfolding remove_dir_form
remove_dir_within = λ dir a name b. record { fits = le-leb _ _ b.1; fields = refl; number = refl }

read_dir_within : Always read_dir_form (Within 16)
unfolding read_dir_form
read_dir_within = λ dir a cookie b count c. record { fits = refl; fields = refl; number = refl }

stat_fs_within : Always stat_fs_form (Within 17)
unfolding stat_fs_form
stat_fs_within = λ node a. record { fits = refl; fields = refl; number = refl }

plain : (number : ℕ) (call : Call) → call_fits call ≡ true → call_fields_fit call ≡ true → number_of call ≡ number →
    Within number call
plain number call f g e = record { fits = f; fields = g; number = e }

-- the arguments of each of the eighteen procedures
pub args_within : (proc : ℕ) → proc ≤ 17 → Always (args_form proc) (Within proc)
args_within zero h = plain 0 null refl refl refl
args_within (suc zero) h = get_attr_within
args_within (suc (suc zero)) h = set_attr_within
args_within (suc (suc (suc zero))) h = plain 3 root refl refl refl
args_within (suc (suc (suc (suc zero)))) h = lookup_within
args_within (suc (suc (suc (suc (suc zero))))) h = read_link_within
args_within (suc (suc (suc (suc (suc (suc zero)))))) h = read_within
args_within (suc (suc (suc (suc (suc (suc (suc zero))))))) h = plain 7 write_cache refl refl refl
args_within (suc (suc (suc (suc (suc (suc (suc (suc zero)))))))) h = write_within
args_within (suc (suc (suc (suc (suc (suc (suc (suc (suc zero))))))))) h = create_within
args_within (suc (suc (suc (suc (suc (suc (suc (suc (suc (suc zero)))))))))) h = remove_within
args_within (suc (suc (suc (suc (suc (suc (suc (suc (suc (suc (suc zero))))))))))) h = rename_within
args_within (suc (suc (suc (suc (suc (suc (suc (suc (suc (suc (suc (suc zero)))))))))))) h = link_within
args_within (suc (suc (suc (suc (suc (suc (suc (suc (suc (suc (suc (suc (suc zero))))))))))))) h = symlink_within
args_within (suc (suc (suc (suc (suc (suc (suc (suc (suc (suc (suc (suc (suc (suc zero)))))))))))))) h = make_dir_within
args_within (suc (suc (suc (suc (suc (suc (suc (suc (suc (suc (suc (suc (suc (suc (suc zero))))))))))))))) h =
    remove_dir_within
args_within (suc (suc (suc (suc (suc (suc (suc (suc (suc (suc (suc (suc (suc (suc (suc (suc zero)))))))))))))))) h =
    read_dir_within
args_within (suc (suc
    (suc (suc (suc (suc (suc (suc (suc (suc (suc (suc (suc (suc (suc (suc (suc zero))))))))))))))))) h = stat_fs_within
args_within (suc (suc
    (suc (suc (suc (suc (suc (suc (suc (suc (suc (suc (suc (suc (suc (suc (suc (suc n)))))))))))))))))) h = absurd
    (omega arith)

-- what was read as a spelling of the procedure's arguments
pub read_within_bounds : (proc : ℕ) (bytes : List ℕ) (r : Result Args XdrErr) → proc ≤ 17 →
    IfOk r (λ a. Spells (args_form proc) (call_of a) bytes) → IfOk r (λ a. Within proc (call_of a))
read_within_bounds proc bytes (Ok a) h s = of_spelled (args_form proc) (Within proc) (call_of a) bytes
    (args_within proc h) s
read_within_bounds proc bytes (Err e) h s = tt
