-- A file that is there gets a size, or none is given.
use Rattle.std.proofs.Common.{◌≡◌, ℕ, ◌+◌, ◌-◌, arith, List, length, Option, Some, None, refl, sym, subst}
use Rattle.std.proofs.lemmas.Bool.{ltb-false}
use Rattle.nfs2_types.specs.Bytes.{resized}
use Rattle.nfs2_types.specs.declared.Time.{Time}
use Rattle.server_trait.specs.Tree.{Tree, Server}
use Rattle.server_trait.specs.declared.bench.ConfTable.{ConfTable}
use Rattle.abs_model.specs.declared.entry.Entry.{Entry}
use Rattle.abs_model.specs.Objects.{bytes_of}
use Rattle.abs_model.specs.Array.{entry_at, changed, used}
use Rattle.conf_map.specs.Stands.{HasRoom, Stands}
use Rattle.conf_map.specs.Tallied.{Tallied}
use Rattle.conf_map.specs.declared.table.Located.{Located}
use Rattle.node_changes.specs.Puts.{CanResize, with_bytes_at}
use Rattle.wrap_make.specs.Files.{CanGive, CanHave, resizes}

-- a size that is given suits
pub can_resize : (s : Server) (table : ConfTable) (A : List Entry) (o : Located) (before : ℕ) (size : Option ℕ)
    (n : ℕ) →
    size ≡ Some n → CanGive s table A before size o → (s1 : Server) → s1.tree ≡ s.tree → s1.limits ≡ s.limits →
    CanResize s1 table A before n o
can_resize s table A o before size n given c s1 same_tree same_limits =
    let have : CanHave A c.limits o.index (Some n) = subst (CanHave A c.limits o.index) given c.present.can_have in
    let l : ℕ = length (bytes_of (entry_at A o.index)) in
    let is = c.present.is_size in
    let room = ltb-false c.limits.t (used A + n - l) (have.space refl) in
    record {
      limits = c.limits;
      within = c.within;
      valid = c.valid;
      stands = subst (λ s. Stands s table A) (sym same_tree) c.stands;
      tallied = c.tallied;
      room = subst (HasRoom c.limits) (sym same_limits) c.room;
      live = c.live;
      is_file = have.is_file;
      is_size = is;
      suits = record { space = omega (arith, room, is); small = have.small };
    }

-- the array is that with the size
pub given_stands : (A : List Entry) (i : ℕ) (size : Option ℕ) (n : ℕ) (time : Time) (s : Option Tree)
    (table : ConfTable) → size ≡ Some n → Stands s table (with_bytes_at A i (resized n) time) →
    Stands s table (changed (resizes A i size time) A)
given_stands A i size n time s table given stands =
    subst (λ size. Stands s table (changed (resizes A i size time) A)) (sym given) stands

pub given_tallied : (A : List Entry) (i : ℕ) (size : Option ℕ) (n : ℕ) (time : Time) (table : ConfTable) →
    size ≡ Some n → Tallied table (with_bytes_at A i (resized n) time) →
    Tallied table (changed (resizes A i size time) A)
given_tallied A i size n time table given tallied =
    subst (λ size. Tallied table (changed (resizes A i size time) A)) (sym given) tallied

-- without a size nothing changes
pub none_tallied : (A : List Entry) (i : ℕ) (size : Option ℕ) (time : Time) (table : ConfTable) → size ≡ None →
    Tallied table A → Tallied table (changed (resizes A i size time) A)
none_tallied A i size time table none tallied =
    subst (λ size. Tallied table (changed (resizes A i size time) A)) (sym none) tallied

pub none_stands : (A : List Entry) (i : ℕ) (size : Option ℕ) (time : Time) (s : Option Tree) (table : ConfTable) →
    size ≡ None → Stands s table A → Stands s table (changed (resizes A i size time) A)
none_stands A i size time s table none stands =
    subst (λ size. Stands s table (changed (resizes A i size time) A)) (sym none) stands
