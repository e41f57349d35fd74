-- What is set of a node, of a row and of an entry is the same.
use Rattle.std.proofs.Common.{◌≡◌, ℕ, List, [], true, false, Option, Some, None, refl, sym, ap, ◌∙◌, subst}
use Rattle.std.specs.Prelude.{◌&&◌, is_some, unwrap_or, if◌then◌else◌}
use Rattle.nfs2_types.specs.declared.Time.{Time}
use Rattle.nfs2_types.specs.declared.Sattr.{Sattr}
use Rattle.nfs2_types.specs.Bytes.{resized}
use Rattle.server_trait.specs.Tree.{Node, Content, BytesOf}
use Rattle.server_trait.specs.Tree as tree
use Rattle.server_trait.specs.declared.server.NodeAttr.{NodeAttr}
use Rattle.server_trait.specs.declared.bench.ConfEntry.{ConfEntry}
use Rattle.abs_model.specs.declared.entry.Attr.{Attr}
use Rattle.abs_model.specs.declared.entry.Object.{Object}
use Rattle.abs_model.specs.declared.entry.Object.TheVariants.{Null, File, Dir, Link}
use Rattle.abs_model.specs.declared.entry.Entry.{Entry}
use Rattle.abs_model.specs.Objects.{is_null, is_file, is_dir, is_link, names_of, bytes_of, attr_of, with_attr, time_given, set_attr_of}
use Rattle.abs_model.proofs.Facts.{file_is}
use Rattle.conf_map.specs.Found.{IsSeen}
use Rattle.conf_map.specs.Stands.{SameContent, SameAttr}
use Rattle.conf_map.proofs.Frames.{names_of-with_attr, is_dir-with_attr}
use Rattle.conf_map.proofs.ObjectChanges.{ChangesAlike}
use Rattle.node_changes.specs.Settings.{node_sized, node_set, row_set, entry_set}
use Rattle.node_changes.proofs.Edits.{with_bytes_content}

-- KINDS

-- a file, by its parts
pub record IsFile (rows : List ConfEntry) (e : Entry) : Type 0 where
  pub names : names_of e ≡ []
  pub dir : is_dir e ≡ false
  pub content : (c : Content) → SameContent rows e.object c → c ≡ BytesOf (bytes_of e)

pub file_parts : (rows : List ConfEntry) (e : Entry) → is_file e ≡ true → IsFile rows e
file_parts rows e = by_object e.object
  where
    by_object : (o : Object) → is_file (record { generation = e.generation; object = o }) ≡ true →
        IsFile rows (record { generation = e.generation; object = o })
    by_object Null is = absurd (let bad : false ≡ true = is in cc)
    by_object (File a b) is = record { names = refl; dir = refl; content = λ c k. k }
    by_object (Dir a b) is = absurd (let bad : false ≡ true = is in cc)
    by_object (Link a b) is = absurd (let bad : false ≡ true = is in cc)

pub attr_of-with_attr : (a : Attr) (e : Entry) → is_null e ≡ false → attr_of (with_attr a e) ≡ a
attr_of-with_attr a e = by_object e.object
  where
    by_object : (o : Object) → is_null (record { generation = e.generation; object = o }) ≡ false →
        attr_of (with_attr a (record { generation = e.generation; object = o })) ≡ a
    by_object Null live = absurd (let bad : true ≡ false = live in cc)
    by_object (File x b) live = refl
    by_object (Dir x b) live = refl
    by_object (Link x b) live = refl

pub is_null-with_attr : (a : Attr) (e : Entry) → is_null (with_attr a e) ≡ is_null e
is_null-with_attr a e = by_object e.object
  where
    by_object : (o : Object) →
        is_null (with_attr a (record { generation = e.generation; object = o }))
        ≡ is_null (record { generation = e.generation; object = o })
    by_object Null = refl
    by_object (File x b) = refl
    by_object (Dir x b) = refl
    by_object (Link x b) = refl

pub content-with_attr : (rows : List ConfEntry) (a : Attr) (e : Entry) (c : Content) → SameContent rows e.object c →
    SameContent rows (with_attr a e).object c
content-with_attr rows a e c = by_object e.object
  where
    by_object : (o : Object) → SameContent rows o c →
        SameContent rows (with_attr a (record { generation = e.generation; object = o })).object c
    by_object Null k = k
    by_object (File x b) k = k
    by_object (Dir x b) k = k
    by_object (Link x b) k = k

-- WHAT IS SET

module _ (rows : List ConfEntry) (e : Entry) (s : Sattr) (a : NodeAttr) (t : Time) (live : is_null e ≡ false)
    (seen : IsSeen e a) where
  abbrev new : Attr
  new = set_attr_of s t (attr_of e)

  abbrev set_on : Node → Node
  set_on n = tree.with_attr (unwrap_or s.mode a.mode) (unwrap_or s.uid a.uid) (unwrap_or s.gid a.gid) n

  same_new : (r : ConfEntry) (n m : Node) → m.number ≡ n.number → SameAttr (attr_of e) r n →
      SameAttr new (row_set s t r) (set_on m)
  same_new r n m number k = record {
    number = k.number ∙ sym number;
    mode = ap (unwrap_or s.mode) seen.mode;
    uid = ap (unwrap_or s.uid) seen.uid;
    gid = ap (unwrap_or s.gid) seen.gid;
    atime = ap (time_given s.atime t) k.atime;
    mtime = ap (λ old. time_given s.mtime t (if is_some s.size then t else old)) k.mtime;
    ctime = refl;
  }

  by_size : (size : Option ℕ) → (is_some size && is_dir e) ≡ false → (is_some size && is_link e) ≡ false →
      ChangesAlike rows e
      (if is_some size then
      record { generation = e.generation; object = File new (resized (unwrap_or size 0) (bytes_of e)) }
      else with_attr new e)
      (λ n. set_on (node_sized size n)) (row_set s t)
  by_size None no_dir no_link = record {
    number = λ n. refl;
    same_row = λ r. record { generation = refl; handle = refl; number = refl };
    parent = λ r. refl;
    generation = refl;
    names = names_of-with_attr new e;
    dir = is_dir-with_attr new e;
    live = is_null-with_attr new e ∙ live;
    attr = λ r n k. subst (λ a. SameAttr a (row_set s t r) (set_on n)) (sym (attr_of-with_attr new e live))
        (same_new r n n refl k);
    content = λ n k. content-with_attr rows new e n.content k;
  }
  by_size (Some size) no_dir no_link =
      let parts = file_parts rows e (file_is e live no_dir no_link) in
      record {
        number = λ n. refl;
        same_row = λ r. record { generation = refl; handle = refl; number = refl };
        parent = λ r. refl;
        generation = refl;
        names = sym parts.names;
        dir = sym parts.dir;
        live = refl;
        attr = λ r n k. same_new r n (tree.with_bytes (resized size) n) refl k;
        content = λ n k. with_bytes_content (resized size) n (bytes_of e) (parts.content n.content k);
      }

  pub set_alike : (is_some s.size && is_dir e) ≡ false → (is_some s.size && is_link e) ≡ false →
      ChangesAlike rows e (entry_set e s t) (node_set s a) (row_set s t)
  set_alike = by_size s.size
