-- attributes keep their bounds: modes of twelve bits, and microseconds below a million
use Rattle.std.proofs.Common.{◌≡◌, ℕ, Bool, true, false, Option, Some, None}
use Rattle.std.specs.Prelude.{◌&&◌, nat_lt, unwrap_or, is_some, if◌then◌else◌}
use Rattle.std.proofs.lemmas.Bool.{and_parts, and_from}
use Rattle.nfs2_types.specs.declared.Time.{Time}
use Rattle.nfs2_types.specs.declared.Cred.{Cred}
use Rattle.nfs2_types.specs.declared.Sattr.{Sattr}
use Rattle.nfs2_types.specs.declared.SetTime.{SetTime}
use Rattle.nfs2_types.specs.declared.SetTime.TheVariants.{Keep, Now, At}
use Rattle.nfs2_types.specs.Call.{sattr_fits, set_time_fits}
use Rattle.nfs2_types.specs.Times.{is_time}
use Rattle.abs_model.specs.declared.entry.Attr.{Attr}
use Rattle.abs_model.specs.Objects.{time_given, new_attr, set_attr_of, written_at, changed_at}
use Rattle.abs_model.specs.Valid.{times_fit}
use Rattle.abs_model.proofs.Shapes.{IsAttr}

-- the three times of attributes, one by one
record HasTimes (a : Attr) : Type 0 where
  atime : is_time a.atime ≡ true
  mtime : is_time a.mtime ≡ true
  ctime : is_time a.ctime ≡ true

times_of : (a : Attr) → times_fit a ≡ true → HasTimes a
times_of a h =
    let all = and_parts (is_time a.atime && is_time a.mtime) (is_time a.ctime) h in
    let two = and_parts (is_time a.atime) (is_time a.mtime) all.0 in
    record { atime = two.0; mtime = two.1; ctime = all.1 }

times_from : (a : Attr) → HasTimes a → times_fit a ≡ true
times_from a h = and_from (is_time a.atime && is_time a.mtime) _ (and_from (is_time a.atime) _ h.atime h.mtime) h.ctime

-- what a caller sets, one by one
record Sets (s : Sattr) : Type 0 where
  mode : nat_lt (unwrap_or s.mode 0) 4096 ≡ true
  atime : set_time_fits s.atime ≡ true
  mtime : set_time_fits s.mtime ≡ true

sets : (s : Sattr) → sattr_fits s ≡ true → Sets s
sets s h =
    let all = and_parts (nat_lt (unwrap_or s.mode 0) 4096 && set_time_fits s.atime) (set_time_fits s.mtime) h in
    let two = and_parts (nat_lt (unwrap_or s.mode 0) 4096) (set_time_fits s.atime) all.0 in
    record { mode = two.0; atime = two.1; mtime = all.1 }

time_given_fits : (s : SetTime) (t old : Time) → set_time_fits s ≡ true → is_time t ≡ true → is_time old ≡ true → is_time (time_given s t old) ≡ true
time_given_fits Keep t old given now was = was
time_given_fits Now t old given now was = now
time_given_fits (At x) t old given now was = given

mode_fits : (o : Option ℕ) (m : ℕ) → nat_lt (unwrap_or o 0) 4096 ≡ true → nat_lt m 4096 ≡ true → nat_lt (unwrap_or o m) 4096 ≡ true
mode_fits None m given old = old
mode_fits (Some x) m given old = given

pub attr_written : (t : Time) (a : Attr) → is_time t ≡ true → IsAttr a → IsAttr (written_at t a)
attr_written t a now h = record { mode = h.mode; times = times_from (written_at t a) (record { atime = (times_of a h.times).atime; mtime = now; ctime = now }) }

pub attr_changed : (t : Time) (a : Attr) → is_time t ≡ true → IsAttr a → IsAttr (changed_at t a)
attr_changed t a now h =
    let was = times_of a h.times in
    record { mode = h.mode; times = times_from (changed_at t a) (record { atime = was.atime; mtime = was.mtime; ctime = now }) }

pub attr_new : (m : ℕ) (cred : Cred) (t : Time) (s : Sattr) → nat_lt m 4096 ≡ true → is_time t ≡ true → sattr_fits s ≡ true → IsAttr (new_attr m cred t s)
attr_new m cred t s small now fits =
    let given = sets s fits in
    record {
      mode = mode_fits s.mode m given.mode small;
      times = times_from (new_attr m cred t s) (record {
        atime = time_given_fits s.atime t t given.atime now now;
        mtime = time_given_fits s.mtime t t given.mtime now now;
        ctime = now;
      });
    }

pub attr_set : (s : Sattr) (t : Time) (a : Attr) → is_time t ≡ true → sattr_fits s ≡ true → IsAttr a → IsAttr (set_attr_of s t a)
attr_set s t a now fits h =
    let given = sets s fits in
    let was = times_of a h.times in
    record {
      mode = mode_fits s.mode a.mode given.mode h.mode;
      times = times_from (set_attr_of s t a) (record {
        atime = time_given_fits s.atime t a.atime given.atime now was.atime;
        mtime = time_given_fits s.mtime t (if is_some s.size then t else a.mtime) given.mtime now (either (is_some s.size) was.mtime);
        ctime = now;
      });
    }
  where
    either : (b : Bool) → is_time a.mtime ≡ true → is_time (if b then t else a.mtime) ≡ true
    either true was = now
    either false was = was
