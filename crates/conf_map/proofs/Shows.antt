-- Rows that are read, and their nodes.
use Rattle.std.proofs.Common.{◌≡◌, ℕ, ◌<◌, List, length, get_or, Option, Some, IsSome, IsSomeAnd, is_some, slice_get, refl, ap, ◌∙◌, sym}
use Rattle.std.proofs.lemmas.Option.{slice_get_read, slice_get_within}
use Rattle.nfs2_types.specs.declared.Limits.{Limits}
use Rattle.server_trait.specs.Tree.{Tree, node_at}
use Rattle.server_trait.proofs.TreeLaws.{is_some_and, and_then_some}
use Rattle.server_trait.specs.declared.bench.ConfEntry.{ConfEntry}
use Rattle.server_trait.specs.declared.bench.ConfTable.{ConfTable}
use Rattle.abs_model.specs.declared.entry.Entry.{Entry}
use Rattle.nfs2_types.specs.Handle.{handle_bytes}
use Rattle.abs_model.specs.Array as array
use Rattle.conf_map.specs.Stands.{handle_at, StandValid, StandsValid, AreWithin}
use Rattle.conf_map.proofs.Frames.{handle_node, handle_of_row, entry_at-some}
use Rattle.conf_map.specs.Shown.{IsTold}
use Rattle.server_trait.specs.Calls.{IsAttr}
use Rattle.server_trait.specs.declared.server.NodeAttr.{NodeAttr}
use Rattle.conf_map.proofs.Bounds.{told_attr}
use Rattle.conf_map.proofs.LiveRows.{at_handle}

-- a row that is read, whose handle is known
pub record IsRead (rows : List ConfEntry) (i : ℕ) (h : List ℕ) (r : ConfEntry) : Type 0 where
  pub is_row : slice_get rows i ≡ Some r
  pub is_handle : r.handle ≡ Some h

pub live_within : (rows : List ConfEntry) (i : ℕ) (h : List ℕ) → handle_at rows i ≡ Some h → i < length rows
live_within rows i h is = let r = and_then_some (λ (r : ConfEntry). r.handle) (slice_get rows i) h is in
    slice_get_within rows i r.0 r.1

pub row_read : (rows : List ConfEntry) (i : ℕ) (h : List ℕ) (r : ConfEntry) → handle_at rows i ≡ Some h →
    r ≡ get_or rows i r → IsRead rows i h r
row_read rows i h r is read =
    let at = slice_get_read rows (length rows) i r refl (live_within rows i h is) read in
    record { is_row = at; is_handle = sym (handle_of_row rows i r at) ∙ is }

-- the handle of a row is that of a node
pub live_node : (s : Option Tree) (table : ConfTable) (i : ℕ) (h : List ℕ) → ((A : List Entry) × StandValid s table A) →
    handle_at table.rows.items i ≡ Some h → IsSomeAnd s (λ t. IsSome (node_at t h))
live_node s table i h k is =
    let st = k.1.stands in
    let n = handle_node s table k.0 st i h is in
    is_some_and (λ t. IsSome (node_at t h)) st.has_tree (ap is_some n.1)

-- the handle by which clients name the object of a row
pub oid_read : (s : Option Tree) (table : ConfTable) (A : List Entry) (i : ℕ) (h : List ℕ) (r : ConfEntry) →
    StandValid s table A → IsRead table.rows.items i h r →
    handle_bytes (record { index = i; generation = r.generation }) ≡ array.handle_at A i
oid_read s table A i h r k is =
    let e = at_handle s table A k.stands i h (handle_of_row table.rows.items i r is.is_row ∙ is.is_handle) in
    ap (λ g. handle_bytes (record { index = i; generation = g }))
    ((k.stands.each i r e.2 is.is_row e.3.is_entry).generation
    ∙ sym (ap (λ (e : Entry). e.generation) (entry_at-some A i e.2 e.3.is_entry)))

-- what the server told of a live object shows what the array says
pub object_told : (s : Option Tree) (table : ConfTable) (A : List Entry) → StandValid s table A →
    (i : ℕ) (h : List ℕ) (a : NodeAttr) → handle_at table.rows.items i ≡ Some h →
    ((t : Tree) → s ≡ Some t → IsSomeAnd (node_at t h) (IsAttr t h a)) → IsTold A table.rows.items i a
object_told s table A k i h a is told =
    let e = at_handle s table A k.stands i h is in
    record {
      shows = λ r at. (told_attr s table A k i r h a at (sym (handle_of_row table.rows.items i r at) ∙ is) told).0;
      small = (told_attr s table A k i e.0 h a e.3.is_row e.3.is_handle told).1;
    }

-- they stand for a valid array
pub stand_valid : (limits : Limits) (s : Option Tree) (table : ConfTable) (A : List Entry) → AreWithin limits →
    StandsValid limits s table A → StandValid s table A
stand_valid limits s table A within k =
    record { limits = limits; within = within; valid = k.valid; stands = k.stands; tallied = k.tallied }
