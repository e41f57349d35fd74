-- the numbers of a valid array are small
use Rattle.std.proofs.Common.{ℕ, ◌*◌, ◌^◌, ◌<◌, ◌≤◌, List, [], ◌∷◌, Bool, true, false, cond, length, arith, count_by}
use Rattle.std.specs.Prelude.{◌==◌}
use Rattle.std.proofs.lemmas.Bool.{ltb-true, leb-true}
use Rattle.std.proofs.lemmas.List.Sums.{sum_by-cons, count_by-le-length, get_or-le-sum_by}
use Rattle.nfs2_types.specs.declared.Limits.{Limits}
use Rattle.abs_model.specs.declared.entry.NameRow.{NameRow}
use Rattle.abs_model.specs.declared.entry.Entry.{Entry}
use Rattle.abs_model.specs.Objects.{names_of, bytes_of, attr_of, used_by, is_link, is_dir}
use Rattle.abs_model.specs.Numbers.{file_limit, text_limit}
use Rattle.abs_model.specs.Array.{entry_at, null_entry, links, used}
use Rattle.abs_model.specs.Valid.{Valid, most_bytes}
use Rattle.abs_model.specs.Bounds.{HasBounds}
use Rattle.abs_model.proofs.Shapes.{fits_parts}

-- each name counts 512 bytes
pub links_used : (A : List Entry) (i : ℕ) → 512 * links A i ≤ used A
links_used [] i = omega arith
links_used (e ∷ A) i =
    let few = count_by-le-length (λ (r : NameRow). r.index == i) (names_of e) in
    let rest = links_used A i in
    let rows = sum_by-cons (λ (x : Entry). count_by (λ (r : NameRow). r.index == i) (names_of x)) e A in
    let all = sum_by-cons used_by e A in
    omega arith

bytes_most : (e : Entry) → length (bytes_of e) ≤ most_bytes e → length (bytes_of e) ≤ file_limit
bytes_most e h = go (is_link e) h
  where
    go : (b : Bool) → length (bytes_of e) ≤ cond b text_limit file_limit → length (bytes_of e) ≤ file_limit
    go true k = omega arith
    go false k = k

pub bounded : (limits : Limits) (A : List Entry) (i : ℕ) → Valid limits A → limits.n < 2 ^ 32 → limits.t < 2 ^ 32 → i < length A → HasBounds A i
bounded limits A i valid n t below =
    let own = fits_parts (entry_at A i) (valid.fits i below) in
    let one = get_or-le-sum_by used_by A i null_entry below in
    let most = valid.room in
    let size = valid.size in
    let few = count_by-le-length (λ (r : NameRow). is_dir (entry_at A r.index)) (names_of (entry_at A i)) in
    record {
      within = below;
      index = omega arith;
      mode = ltb-true (attr_of (entry_at A i)).mode 4096 own.attr.mode;
      bytes = bytes_most (entry_at A i) (leb-true (length (bytes_of (entry_at A i))) (most_bytes (entry_at A i)) own.bytes);
      names = omega arith;
      subdirs = omega arith;
      links = omega (arith, links_used A i);
    }
