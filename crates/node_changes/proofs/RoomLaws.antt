-- A server that stands for an array has room for what the array has room for.
use Rattle.std.proofs.Common.{◌≡◌, ℕ, ◌+◌, ◌-◌, arith, true, List, length, Option, Some, None, IsSome, is_some, slice_get, slice_set, refl, sym, ap, ◌∙◌, subst}
use Rattle.std.proofs.lemmas.Option.{slice_get_within}
use Rattle.nfs2_types.specs.declared.Limits.{Limits}
use Rattle.nfs2_types.specs.declared.Sattr.{Sattr}
use Rattle.nfs2_types.specs.declared.Time.{Time}
use Rattle.nfs2_types.specs.Bytes.{resized}
use Rattle.server_trait.specs.Tree.{Tree, Server, Node, node_at, bytes_in, bytes_at, edited, with_bytes}
use Rattle.server_trait.proofs.TreeLaws.{is_some_and, and_then, some_same}
use Rattle.server_trait.specs.declared.bench.ConfEntry.{ConfEntry}
use Rattle.server_trait.specs.declared.bench.ConfTable.{ConfTable}
use Rattle.server_trait.specs.declared.server.NodeAttr.{NodeAttr}
use Rattle.abs_model.specs.declared.entry.Entry.{Entry}
use Rattle.abs_model.specs.Objects.{is_file, bytes_of, written, zero_time}
use Rattle.abs_model.specs.Array.{entry_at, used}
use Rattle.abs_model.specs.Valid.{Valid}
use Rattle.conf_map.specs.Stands.{Stands, HasRoom}
use Rattle.conf_map.specs.Tables.{IsLive, touched}
use Rattle.conf_map.specs.Tallied.{Tallied}
use Rattle.conf_map.specs.declared.table.Located.{Located}
use Rattle.conf_map.proofs.Agrees.{used_agrees, nodes_few}
use Rattle.conf_map.proofs.ObjectChanges.{at_index}
use Rattle.conf_map.proofs.Resized.{file_node, stands_resized}
use Rattle.node_changes.specs.Puts.{CanHold, Suits, CanResize, CanWrite, size_after, with_bytes_at}
use Rattle.node_changes.specs.Settings.{CanSize, CanSet, SuitsIf}
use Rattle.node_changes.specs.Tallies.{CanShift, ShiftsTally}
use Rattle.node_changes.proofs.ByteLaws.{length-resized}
use Rattle.node_changes.proofs.Edits.{used_more}
use Rattle.node_changes.proofs.TalliedArrays.{put_moves, set_moves, length-written}
use Rattle.node_changes.proofs.TallyLaws.{can_shift}

-- a file can have a size that suits
module _ (limits : Limits) (s : Server) (table : ConfTable) (A : List Entry) (stands : Stands s.tree table A)
    (valid : Valid limits A) (room : HasRoom limits s.limits) (o : Located) (live : IsLive table.rows.items o)
    (file : is_file (entry_at A o.index) ≡ true) where
  pub holds_suited : (size : ℕ) → Suits limits (used A) (length (bytes_of (entry_at A o.index))) size →
      CanHold s o.handle (bytes_of (entry_at A o.index)) size
  holds_suited size suits =
      let node = file_node s.tree table A stands o.index o.handle live file in
      let bytes : bytes_at stands.tree o.handle ≡ Some (bytes_of (entry_at A o.index)) =
      and_then (λ (n : Node). bytes_in n.content) (node_at stands.tree o.handle) node.0 node.1 ∙ ap bytes_in node.2 in
      let all = used_agrees limits s.tree table A stands valid in
      let few = nodes_few limits s.tree table A stands valid in
      let least = used_more stands.tree o.handle (bytes_of (entry_at A o.index)) bytes in
      let count = valid.size in
      let room_nodes = room.nodes in
      let room_bytes = room.bytes in
      let space = suits.space in
      let small = suits.small in
      record {
        tree = stands.tree;
        has_tree = stands.has_tree;
        has_bytes = bytes;
        room = (omega (arith, few, count, room_nodes), omega (arith, all, least, space, room_bytes));
        small = omega (arith, small);
      }

module _ (s : Server) (table : ConfTable) (A : List Entry) (before after : ℕ) (o : Located)
    (c : CanResize s table A before after o) where
  -- the server can hold the file
  pub can_resize : (b : List ℕ) × CanHold s o.handle b after × (length b ≡ before)
  can_resize = (
    bytes_of (entry_at A o.index),
    holds_suited c.limits s table A c.stands c.valid c.room o c.live c.is_file after
        (subst (λ n. Suits c.limits (used A) n after) (sym c.is_size) c.suits),
    c.is_size,
  )

  -- the table can count its bytes
  pub size_counts : CanShift table before after
  size_counts =
      let room = c.valid.room in
      let most = c.within.3 in
      let small = c.suits.small in
      let at = (at_index s.tree table A c.stands o.index o.handle c.live).2 in
      let moves = put_moves A o.index (resized after) zero_time before after
      (slice_get_within A o.index (entry_at A o.index) at.is_entry) c.is_file c.is_size
      (length-resized after (bytes_of (entry_at A o.index))) in
      can_shift before after c.tallied (omega (arith, room, most)) (omega (arith, small)) (omega (arith, moves))

  -- then they stand for the array with the other bytes
  pub bytes_stand : (s' : Option Tree) (table' : ConfTable) (f : List ℕ → List ℕ) (time : Time) →
      ((t : Tree) → s.tree ≡ Some t → s' ≡ Some (edited t o.handle (with_bytes f))) →
      ((r : ConfEntry) → slice_get table.rows.items o.index ≡ Some r →
      table'.rows.items ≡ slice_set table.rows.items o.index (touched time r)) → table'.by_handle ≡ table.by_handle →
      Stands s' table' (with_bytes_at A o.index f time)
  bytes_stand s' table' f time put rows by = stands_resized s.tree table A c.stands o.index o.handle c.live c.is_file
      s' table' f time (put c.stands.tree c.stands.has_tree) rows by

  pub bytes_tallied : (table' : ConfTable) (f : List ℕ → List ℕ) (time : Time) →
      length (f (bytes_of (entry_at A o.index))) ≡ after → (n : ℕ) → n ≡ after → ShiftsTally table table' before n →
      Tallied table' (with_bytes_at A o.index f time)
  bytes_tallied table' f time now n is shifts =
      let at = (at_index s.tree table A c.stands o.index o.handle c.live).2 in
      shifts A (with_bytes_at A o.index f time) c.tallied
      (put_moves A o.index f time before after (slice_get_within A o.index (entry_at A o.index) at.is_entry) c.is_file
      c.is_size now ∙ ap (λ n. used A + n) (sym is))

-- a file can be written
pub can_write_file : (s : Server) (table : ConfTable) (A : List Entry) (size offset count : ℕ) (o : Located) →
    CanWrite s table A size offset count o →
    (b : List ℕ) × CanHold s o.handle b (size_after offset count (length b)) × (length b ≡ size)
can_write_file s table A size offset count o c =
    let k = can_resize s table A size (size_after offset count size) o c in
    (k.0, subst (λ n. CanHold s o.handle k.0 (size_after offset count n)) (sym k.2) k.1, k.2)

-- the bytes after a piece was put
pub written_length : (A : List Entry) (i size offset : ℕ) (p : List ℕ) → length (bytes_of (entry_at A i)) ≡ size →
    length (written offset p (bytes_of (entry_at A i))) ≡ size_after offset (length p) size
written_length A i size offset p is =
    length-written offset p (bytes_of (entry_at A i)) ∙ ap (size_after offset (length p)) is

-- an object can have what is given
pub can_size : (s : Server) (table : ConfTable) (A : List Entry) (attr : NodeAttr) (sattr : Sattr) (o : Located) →
    CanSet s table A attr sattr o → CanSize s o.handle sattr.size
can_size s table A attr sattr o c = by_size sattr.size c.suits
  where
    there : IsSome (node_at c.stands.tree o.handle)
    there = ap is_some (at_index s.tree table A c.stands o.index o.handle c.live).2.is_node

    by_size : (size : Option ℕ) → SuitsIf c.limits A (entry_at A o.index) size → CanSize s o.handle size
    by_size None none = is_some_and (λ t. IsSome (node_at t o.handle)) c.stands.has_tree there
    by_size (Some size) suits = (
      bytes_of (entry_at A o.index),
      holds_suited c.limits s table A c.stands c.valid c.room o c.live suits.0 size suits.1,
    )
