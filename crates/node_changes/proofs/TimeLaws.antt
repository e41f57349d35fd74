-- An object's times are others, and its node is the same.
use Rattle.std.proofs.Common.{◌≡◌, ◌<◌, List, length, set, Option, Some, slice_get, slice_set, refl, sym, ap, ◌∙◌, subst}
use Rattle.std.proofs.lemmas.Option.{slice_get_within}
use Rattle.nfs2_types.specs.declared.Time.{Time}
use Rattle.server_trait.specs.Tree.{Tree, Node, node_at, edited}
use Rattle.server_trait.proofs.TreeLaws.{some_same}
use Rattle.server_trait.specs.declared.bench.ConfEntry.{ConfEntry}
use Rattle.server_trait.specs.declared.bench.ConfTable.{ConfTable}
use Rattle.abs_model.specs.declared.entry.Attr.{Attr}
use Rattle.abs_model.specs.declared.entry.Entry.{Entry}
use Rattle.abs_model.specs.Objects.{attr_of}
use Rattle.abs_model.specs.Array.{entry_at}
use Rattle.conf_map.specs.Stands.{SameAttr, Stands}
use Rattle.conf_map.specs.Tables.{IsLive}
use Rattle.conf_map.specs.declared.table.Located.{Located}
use Rattle.conf_map.proofs.Frames.{names_of-with_attr, is_dir-with_attr}
use Rattle.conf_map.proofs.LiveRows.{is_live}
use Rattle.conf_map.proofs.ObjectChanges.{ChangesAlike, at_index, stands_alike}
use Rattle.node_changes.specs.Rows.{row_timed, entry_timed}
use Rattle.node_changes.proofs.Alike.{attr_of-with_attr, is_null-with_attr, content-with_attr}
use Rattle.node_changes.proofs.Edits.{edited_same}

-- a live row's entry is in the array
pub live_below : (s : Option Tree) (table : ConfTable) (A : List Entry) → Stands s table A → (o : Located) →
    IsLive table.rows.items o → o.index < length A
live_below s table A stands o live = slice_get_within A o.index (entry_at A o.index)
    (at_index s table A stands o.index o.handle live).2.is_entry

module _ (s : Option Tree) (table table' : ConfTable) (A : List Entry) (o : Located) (atime mtime ctime : Time)
    (stands : Stands s table A) (live : IsLive table.rows.items o)
    (rows : (r : ConfEntry) → slice_get table.rows.items o.index ≡ Some r →
    table'.rows.items ≡ slice_set table.rows.items o.index (row_timed atime mtime ctime r))
    (by : table'.by_handle ≡ table.by_handle) where
  abbrev e : Entry
  e = entry_at A o.index

  abbrev new : Attr
  new = record (attr_of e) { atime = atime; mtime = mtime; ctime = ctime }

  alike : ChangesAlike table.rows.items e (entry_timed atime mtime ctime e) (λ n. n) (row_timed atime mtime ctime)
  alike =
      let at = at_index s table A stands o.index o.handle live in
      let here = is_live s table A stands o.index o.handle at.0 at.1 e at.2 in
      record {
        number = λ n. refl;
        same_row = λ r. record { generation = refl; handle = refl; number = refl };
        parent = λ r. refl;
        generation = refl;
        names = names_of-with_attr new e;
        dir = is_dir-with_attr new e;
        live = is_null-with_attr new e ∙ here;
        attr = λ r n k. subst (λ a. SameAttr a (row_timed atime mtime ctime r) n) (sym (attr_of-with_attr new e here))
            (record {
              number = k.number;
              mode = k.mode;
              uid = k.uid;
              gid = k.gid;
              atime = refl;
              mtime = refl;
              ctime = refl;
            });
        content = λ n k. content-with_attr table.rows.items new e n.content k;
      }

  -- they stand for the array with the times
  pub times_stand : Stands s table' (set A o.index (entry_timed atime mtime ctime e))
  times_stand = stands_alike s table A stands o.index o.handle live s table' (entry_timed atime mtime ctime e) (λ n. n)
      (row_timed atime mtime ctime) alike
      (λ t is.
      let at = at_index s table A stands o.index o.handle live in
      let node : node_at t o.handle ≡ Some at.1 = ap (λ t. node_at t o.handle) (some_same is stands.has_tree)
      ∙ at.2.is_node in
      is ∙ ap Some (sym (edited_same t o.handle at.1 node (λ n. n) refl)))
      rows by
