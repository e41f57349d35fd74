-- Each call does under the handles that are shown what it does inside.
use Rattle.std.proofs.Common.{◌≡◌, ℕ, List, length, take, drop, Option, Some, None, Result, Ok, Err, IsSomeAnd, slice_get, refl, sym, ap, ◌∙◌, subst}
use Rattle.std.specs.Prelude.{Vec}
use Rattle.std.specs.Option.{option_map}
use Rattle.std.specs.declared.alloc.Global.{Global}
use Rattle.std.specs.FinMap.{get, insert, empty}
use Rattle.nfs2_types.specs.Bytes.{resized, overwritten}
use Rattle.server_trait.specs.Tree.{Tree, Node, Names, Content, NamesOf, Server, node_at, names_at, bytes_at, text_at, target, bytes_in, text_in, new_node, with_attr, with_bytes, with_node, edited, named, unnamed, let_go}
use Rattle.server_trait.specs.Step.{Counts, Outcome, Called}
use Rattle.server_trait.specs.Calls.{NodeErr, ContentErr, WriteErr, SetSizeErr, DirErr, LookupErr, MakeErr, LinkErr, RemoveErr, RmdirErr, RenameErr, IsAttr, Attr, SetAttr, Read, ReadLink, Wrote, Write, SetSize, Lookup, Lists, ListNames, IsNewNumber, Made, Make, Link, Removed, Remove, Rmdir, renamed, Rename, IsFresh, WipeOutcome, Wipe}
use Rattle.server_trait.specs.declared.server.SrvErr.{SrvErr}
use Rattle.server_trait.specs.declared.server.SrvErr.TheVariants.{Fault, NoMemory}
use Rattle.server_trait.specs.declared.server.NodeAttr.{NodeAttr}
use Rattle.server_trait.specs.declared.server.Listed.{Listed}
use Rattle.server_trait.proofs.TreeLaws.{some_and, is_some_and}
use Rattle.path_server.specs.Shown.{shown_names, shown_content, shown_node, shown_tree, shown_server}
use Rattle.path_server.proofs.RekeyLaws.{rekeyed-insert, rekeyed-empty}
use Rattle.path_server.proofs.ShownErrors.{Alike, node_err, read_err, read_link_err, write_err, set_size_err, dir_err, lookup_err, make_err, link_err, remove_err, rmdir_err, rename_err, target_at}
use Rattle.path_server.proofs.ShownLaws.{get-shown_names, node_at-shown, node_at-any, names_at-shown, bytes_at-shown, text_at-shown, kind_of-shown, size_of-shown, links_of-shown, edited-shown, with_bytes-shown, with_node-shown, named-shown, removed-shown, renamed-shown}

-- what a mapped value comes from
pub mapped_some : {A B : Type 0} (f : A → B) (o : Option A) (y : B) → option_map f o ≡ Some y →
    (x : A) × (o ≡ Some x) × (f x ≡ y)
mapped_some f None y e = absurd (let bad : None ≡ Some y = e in cc)
mapped_some f (Some x) y e = (x, refl, (let g : Some (f x) ≡ Some y = e in let h : f x ≡ y = cc in h))

counts_err : (T U : Type 0) (before now : ℕ) (e : SrvErr) → Counts {T = T} before now (Err e) →
    Counts {T = U} before now (Err e)
counts_err T U before now Fault c = c
counts_err T U before now e c = c

module _ (shown : List ℕ → List ℕ) (twice : (h : List ℕ) → shown (shown h) ≡ h) where
  abbrev over : Tree → Tree
  over t = shown_tree shown t

  abbrev out : Server → Server
  out s = shown_server shown s

  -- ANY CALL

  module _ {T U : Type 0} (done : Tree → T → Option Tree → Type 0) (seen : Tree → U → Option Tree → Type 0)
      (applies told : Tree → SrvErr → Type 0) (alike : (t : Tree) (e : SrvErr) → Alike (applies t e) (told (over t) e))
      (old new : Server) where
    carried_err : (e : SrvErr) → Called (λ t. Outcome (done t) (applies t) t) old (Err e) new →
        Called (λ t. Outcome (seen t) (told t) t) (out old) (Err e) (out new)
    carried_err e c = record {
      tree = λ u is. let t = mapped_some over old.tree u is in
          subst (λ u. Outcome (seen u) (told u) u (Err e) (out new).tree) t.2 (after t.0 e (c.tree t.0 t.1));
      limits = c.limits;
      faults = counts_err T U old.faults new.faults e c.faults;
    }
      where
        after : (t : Tree) (e : SrvErr) → Outcome (done t) (applies t) t (Err e) new.tree →
            Outcome (seen (over t)) (told (over t)) (over t) (Err e) (out new).tree
        after t Fault o = ap (option_map over) o
        after t NoMemory o = ap (option_map over) o
        after t e o = ((alike t e).0 o.0, ap (option_map over) o.1)

    carried_ok : (x : T) (y : U) →
        ((t : Tree) (n : Option Tree) → done t x n → seen (over t) y (option_map over n)) →
        Called (λ t. Outcome (done t) (applies t) t) old (Ok x) new →
        Called (λ t. Outcome (seen t) (told t) t) (out old) (Ok y) (out new)
    carried_ok x y along c = record {
      tree = λ u is. let t = mapped_some over old.tree u is in
          subst (λ u. Outcome (seen u) (told u) u (Ok y) (out new).tree) t.2 (
          let o = c.tree t.0 t.1 in
          (along t.0 new.tree o.0, λ e a. o.1 e ((alike t.0 e).1 a)));
      limits = c.limits;
      faults = c.faults;
    }

  carried : {T : Type 0} (done seen : Tree → T → Option Tree → Type 0) (applies told : Tree → SrvErr → Type 0) →
      ((t : Tree) (e : SrvErr) → Alike (applies t e) (told (over t) e)) → (old new : Server) →
      ((t : Tree) (x : T) (n : Option Tree) → done t x n → seen (over t) x (option_map over n)) →
      (r : Result T SrvErr) →
      Called (λ t. Outcome (done t) (applies t) t) old r new →
      Called (λ t. Outcome (seen t) (told t) t) (out old) r (out new)
  carried done seen applies told alike old new along (Ok x) c =
      carried_ok done seen applies told alike old new x x (λ t n. along t x n) c
  carried done seen applies told alike old new along (Err e) c = carried_err done seen applies told alike old new e c

  module _ (old new : Server) where
    -- ANY NODE

    module _ (q : List ℕ) where
      attr_seen : (t : Tree) (a : NodeAttr) → IsSomeAnd (node_at t q) (IsAttr t q a) →
          IsSomeAnd (node_at (over t) (shown q)) (IsAttr (over t) (shown q) a)
      attr_seen t a some =
          let n = some_and (node_at t q) (IsAttr t q a) some in
          is_some_and (IsAttr (over t) (shown q) a)
          (node_at-shown shown twice t q ∙ ap (option_map (shown_node shown)) n.1)
          (record {
            kind = n.2.kind ∙ sym (kind_of-shown shown twice n.0.content);
            number = n.2.number;
            mode = n.2.mode;
            uid = n.2.uid;
            gid = n.2.gid;
            size = n.2.size ∙ sym (size_of-shown shown twice n.0.content);
            links = n.2.links ∙ sym (links_of-shown shown twice t q n.0.content);
          })

      attr_inside : (r : Result NodeAttr SrvErr) → Attr old q r new → Attr (out old) (shown q) r (out new)
      attr_inside r c = carried
          (λ t a n. IsSomeAnd (node_at t q) (IsAttr t q a) × (n ≡ Some t))
          (λ t a n. IsSomeAnd (node_at t (shown q)) (IsAttr t (shown q) a) × (n ≡ Some t))
          (λ t. NodeErr q t) (λ t. NodeErr (shown q) t) (λ t. node_err shown twice t q) old new
          (λ t a n d. (attr_seen t a d.0, ap (option_map over) d.1)) r c

      set_attr_inside : (mode uid gid : ℕ) (r : Result (Unit {0}) SrvErr) → SetAttr old q mode uid gid r new →
          SetAttr (out old) (shown q) mode uid gid r (out new)
      set_attr_inside mode uid gid r c = carried
          (λ t _ n. n ≡ Some (edited t q (with_attr mode uid gid)))
          (λ t _ n. n ≡ Some (edited t (shown q) (with_attr mode uid gid)))
          (λ t. NodeErr q t) (λ t. NodeErr (shown q) t) (λ t. node_err shown twice t q) old new
          (λ t _ n d. ap (option_map over) d
          ∙ ap Some (edited-shown shown twice t (with_attr mode uid gid) (with_attr mode uid gid) (λ _. refl) q)) r c

      -- FILES AND LINKS

      read_inside : (offset count : ℕ) (r : Result (Vec ℕ Global) SrvErr) → Read old q offset count r new →
          Read (out old) (shown q) offset count r (out new)
      read_inside offset count r c = carried
          (λ t (v : Vec ℕ Global) n. (option_map (λ b. take count (drop offset b)) (bytes_at t q) ≡ Some v.items)
          × (n ≡ Some t))
          (λ t (v : Vec ℕ Global) n.
          (option_map (λ b. take count (drop offset b)) (bytes_at t (shown q)) ≡ Some v.items) × (n ≡ Some t))
          (λ t. ContentErr bytes_in q t) (λ t. ContentErr bytes_in (shown q) t) (λ t. read_err shown twice t q) old new
          (λ t v n d. (
            ap (option_map (λ b. take count (drop offset b))) (bytes_at-shown shown twice t q) ∙ d.0,
            ap (option_map over) d.1,
          )) r c

      read_link_inside : (r : Result (Vec ℕ Global) SrvErr) → ReadLink old q r new →
          ReadLink (out old) (shown q) r (out new)
      read_link_inside r c = carried
          (λ t (v : Vec ℕ Global) n. (text_at t q ≡ Some v.items) × (n ≡ Some t))
          (λ t (v : Vec ℕ Global) n. (text_at t (shown q) ≡ Some v.items) × (n ≡ Some t))
          (λ t. ContentErr text_in q t) (λ t. ContentErr text_in (shown q) t)
          (λ t. read_link_err shown twice t q) old new
          (λ t v n d. (text_at-shown shown twice t q ∙ d.0, ap (option_map over) d.1)) r c

      bytes_edited : (t : Tree) (f : List ℕ → List ℕ) (n : Option Tree) → n ≡ Some (edited t q (with_bytes f)) →
          option_map over n ≡ Some (edited (over t) (shown q) (with_bytes f))
      bytes_edited t f n d = ap (option_map over) d
          ∙ ap Some (edited-shown shown twice t (with_bytes f) (with_bytes f) (with_bytes-shown shown twice f) q)

      write_inside : (offset : ℕ) (piece : List ℕ) (r : Result ℕ SrvErr) → Write old q offset piece r new →
          Write (out old) (shown q) offset piece r (out new)
      write_inside offset piece r c = carried
          (λ t. Wrote t q offset piece) (λ t. Wrote t (shown q) offset piece)
          (λ t. WriteErr old.limits q offset (length piece) t)
          (λ t. WriteErr old.limits (shown q) offset (length piece) t)
          (λ t. write_err shown twice t old.limits q offset (length piece)) old new
          (λ t count n d. record {
            some = d.some;
            most = d.most;
            after = bytes_edited t (overwritten offset (take count piece)) n d.after;
          }) r c

      set_size_inside : (size : ℕ) (r : Result (Unit {0}) SrvErr) → SetSize old q size r new →
          SetSize (out old) (shown q) size r (out new)
      set_size_inside size r c = carried
          (λ t _ n. n ≡ Some (edited t q (with_bytes (resized size))))
          (λ t _ n. n ≡ Some (edited t (shown q) (with_bytes (resized size))))
          (λ t. SetSizeErr old.limits q size t) (λ t. SetSizeErr old.limits (shown q) size t)
          (λ t. set_size_err shown twice t old.limits q size) old new
          (λ t _ n d. bytes_edited t (resized size) n d) r c

    -- NAMES

    module _ (dir name : List ℕ) where
      lookup_err_inside : (e : SrvErr) → Lookup old dir name (Err e) new →
          Lookup (out old) (shown dir) name (Err e) (out new)
      lookup_err_inside e c = carried_err
          (λ t h n. (target t dir name ≡ Some h) × (n ≡ Some t))
          (λ t h n. (target t (shown dir) name ≡ Some h) × (n ≡ Some t))
          (λ t. LookupErr dir name t) (λ t. LookupErr (shown dir) name t)
          (λ t. lookup_err shown twice t dir name) old new e c

      lookup_ok_inside : (x : List ℕ) → Lookup old dir name (Ok x) new →
          Lookup (out old) (shown dir) name (Ok (shown x)) (out new)
      lookup_ok_inside x c = carried_ok
          (λ t h n. (target t dir name ≡ Some h) × (n ≡ Some t))
          (λ t h n. (target t (shown dir) name ≡ Some h) × (n ≡ Some t))
          (λ t. LookupErr dir name t) (λ t. LookupErr (shown dir) name t)
          (λ t. lookup_err shown twice t dir name) old new
          x (shown x) (λ t n d. (target_at shown twice t dir name x d.0, ap (option_map over) d.1)) c

      module _ (content : Content) (bytes : ℕ) where
        make_err_inside : (e : SrvErr) → Make content bytes old dir name (Err e) new →
            Make (shown_content shown content) bytes (out old) (shown dir) name (Err e) (out new)
        make_err_inside e c = carried_err
            (λ t. Made t dir name content) (λ t. Made t (shown dir) name (shown_content shown content))
            (λ t. MakeErr old.limits dir name bytes t) (λ t. MakeErr old.limits (shown dir) name bytes t)
            (λ t. make_err shown twice t old.limits dir name bytes) old new e c

        new_number : (t : Tree) (number : ℕ) → IsNewNumber t number → IsNewNumber (over t) number
        new_number t number is_new q n at =
            let m = mapped_some (shown_node shown) (node_at t (shown q)) n (sym (node_at-any shown twice t q) ∙ at) in
            λ e. is_new (shown q) m.0 m.1 (ap (λ (n : Node). n.number) m.2 ∙ e)

        make_ok_inside : (x : List ℕ) → Make content bytes old dir name (Ok x) new →
            Make (shown_content shown content) bytes (out old) (shown dir) name (Ok (shown x)) (out new)
        make_ok_inside x c = carried_ok
            (λ t. Made t dir name content) (λ t. Made t (shown dir) name (shown_content shown content))
            (λ t. MakeErr old.limits dir name bytes t) (λ t. MakeErr old.limits (shown dir) name bytes t)
            (λ t. make_err shown twice t old.limits dir name bytes) old new x (shown x)
            (λ t n d. record {
              number = d.number;
              new_number = new_number t d.number d.new_number;
              new_handle = node_at-shown shown twice t x ∙ ap (option_map (shown_node shown)) d.new_handle;
              after = ap (option_map over) d.after ∙ ap Some (
                  named-shown shown twice (with_node t x (new_node d.number content)) dir name x
                  ∙ ap (λ u. named u (shown dir) name (shown x))
                  (with_node-shown shown twice t x (new_node d.number content)));
            }) c

      link_inside : (h : List ℕ) (r : Result (Unit {0}) SrvErr) → Link old h dir name r new →
          Link (out old) (shown h) (shown dir) name r (out new)
      link_inside h r c = carried
          (λ t _ n. n ≡ Some (named t dir name h)) (λ t _ n. n ≡ Some (named t (shown dir) name (shown h)))
          (λ t. LinkErr old.limits h dir name t) (λ t. LinkErr old.limits (shown h) (shown dir) name t)
          (λ t. link_err shown twice t old.limits h dir name) old new
          (λ t _ n d. ap (option_map over) d ∙ ap Some (named-shown shown twice t dir name h)) r c

      removed_seen : (t : Tree) (n : Option Tree) → Removed t dir name n →
          Removed (over t) (shown dir) name (option_map over n)
      removed_seen t n d =
          let h = some_and (target t dir name) (λ h. n ≡ Some (let_go (unnamed t dir name) h)) d in
          is_some_and (λ h. option_map over n ≡ Some (let_go (unnamed (over t) (shown dir) name) h))
          (target_at shown twice t dir name h.0 h.1)
          (ap (option_map over) h.2 ∙ ap Some (removed-shown shown twice t dir name h.0))

      remove_inside : (r : Result (Unit {0}) SrvErr) → Remove old dir name r new →
          Remove (out old) (shown dir) name r (out new)
      remove_inside r c = carried (λ t _. Removed t dir name) (λ t _. Removed t (shown dir) name)
          (λ t. RemoveErr dir name t) (λ t. RemoveErr (shown dir) name t)
          (λ t. remove_err shown twice t dir name) old new
          (λ t _ n d. removed_seen t n d) r c

      rmdir_inside : (r : Result (Unit {0}) SrvErr) → Rmdir old dir name r new →
          Rmdir (out old) (shown dir) name r (out new)
      rmdir_inside r c = carried (λ t _. Removed t dir name) (λ t _. Removed t (shown dir) name)
          (λ t. RmdirErr dir name t) (λ t. RmdirErr (shown dir) name t) (λ t. rmdir_err shown twice t dir name) old new
          (λ t _ n d. removed_seen t n d) r c

      rename_inside : (to to_name : List ℕ) (r : Result (Unit {0}) SrvErr) → Rename old dir name to to_name r new →
          Rename (out old) (shown dir) name (shown to) to_name r (out new)
      rename_inside to to_name r c = carried
          (λ t _ n. IsSomeAnd (target t dir name) (λ h. n ≡ Some (renamed t dir name to to_name h)))
          (λ t _ n. IsSomeAnd (target t (shown dir) name)
          (λ h. n ≡ Some (renamed t (shown dir) name (shown to) to_name h)))
          (λ t. RenameErr dir name to to_name t) (λ t. RenameErr (shown dir) name (shown to) to_name t)
          (λ t. rename_err shown twice t dir name to to_name) old new
          (λ t _ n d.
          let h = some_and (target t dir name) (λ h. n ≡ Some (renamed t dir name to to_name h)) d in
          is_some_and (λ h. option_map over n ≡ Some (renamed (over t) (shown dir) name (shown to) to_name h))
          (target_at shown twice t dir name h.0 h.1)
          (ap (option_map over) h.2 ∙ ap Some (renamed-shown shown twice t dir name to to_name h.0))) r c

    -- LISTS

    module _ (rows seen : List Listed)
        (same : (k : ℕ) → slice_get seen k ≡ option_map
        (λ (row : Listed). let x : Listed = record row { handle = shown row.handle } in x) (slice_get rows k)) where
      abbrev shown_listed : Listed → Listed
      shown_listed row = record row { handle = shown row.handle }

      lists_seen : (m : Names) → Lists rows m → Lists seen (shown_names shown m)
      lists_seen m l = record {
        sound = λ k row at.
            let x = mapped_some shown_listed (slice_get rows k) row (sym (same k) ∙ at) in
            ap (λ (r : Listed). get (shown_names shown m) r.name) (sym x.2) ∙ get-shown_names shown twice m x.0.name
            ∙ ap (option_map shown) (l.sound k x.0 x.1) ∙ ap (λ (r : Listed). Some r.handle) x.2;
        complete = λ name h is.
            let x = mapped_some shown (get m name) h (sym (get-shown_names shown twice m name) ∙ is) in
            let k = l.complete name x.0 x.1 in (
              k.0,
              same k.0 ∙ ap (option_map shown_listed) k.1
                  ∙ ap (λ q. let r : Listed = record { name = name; handle = q } in Some r) x.2,
            );
        once = λ j k a b at_j at_k alike.
            let x = mapped_some shown_listed (slice_get rows j) a (sym (same j) ∙ at_j) in
            let y = mapped_some shown_listed (slice_get rows k) b (sym (same k) ∙ at_k) in
            l.once j k x.0 y.0 x.1 y.1
            (ap (λ (r : Listed). r.name) x.2 ∙ alike ∙ sym (ap (λ (r : Listed). r.name) y.2));
      }

    module _ (dir : List ℕ) where
      list_err_inside : (e : SrvErr) → ListNames old dir (Err e) new → ListNames (out old) (shown dir) (Err e) (out new)
      list_err_inside e c = carried_err
          (λ t (rows : Vec Listed Global) n. IsSomeAnd (names_at t dir) (Lists rows.items) × (n ≡ Some t))
          (λ t (rows : Vec Listed Global) n. IsSomeAnd (names_at t (shown dir)) (Lists rows.items) × (n ≡ Some t))
          (λ t. DirErr dir t) (λ t. DirErr (shown dir) t) (λ t. dir_err shown twice t dir) old new e c

      list_ok_inside : (rows seen : Vec Listed Global) →
          ((k : ℕ) → slice_get seen.items k ≡ option_map
          (λ (row : Listed). let x : Listed = record row { handle = shown row.handle } in x)
          (slice_get rows.items k)) →
          ListNames old dir (Ok rows) new → ListNames (out old) (shown dir) (Ok seen) (out new)
      list_ok_inside rows seen same c = carried_ok
          (λ t (rows : Vec Listed Global) n. IsSomeAnd (names_at t dir) (Lists rows.items) × (n ≡ Some t))
          (λ t (rows : Vec Listed Global) n. IsSomeAnd (names_at t (shown dir)) (Lists rows.items) × (n ≡ Some t))
          (λ t. DirErr dir t) (λ t. DirErr (shown dir) t) (λ t. dir_err shown twice t dir) old new rows seen
          (λ t n d.
          let m = some_and (names_at t dir) (Lists rows.items) d.0 in (
            is_some_and (Lists seen.items) (names_at-shown shown twice t dir ∙ ap (option_map (shown_names shown)) m.1)
                (lists_seen rows.items seen.items same m.0 m.2),
            ap (option_map over) d.1,
          )) c

    -- THE WHOLE SERVER

    pub fresh_seen : (n : Option Tree) → IsFresh n → IsFresh (option_map over n)
    fresh_seen n f = record {
      root = shown f.root;
      number = f.number;
      after = ap (option_map over) f.after
          ∙ ap (λ nodes. let u : Tree = record { root = shown f.root; nodes = nodes } in Some u)
          (rekeyed-insert shown twice (shown_node shown) empty f.root (new_node f.number (NamesOf empty))
          ∙ ap (λ m. insert m (shown f.root) (shown_node shown (new_node f.number (NamesOf empty))))
          (rekeyed-empty shown twice (shown_node shown))
          ∙ ap (λ m. insert empty (shown f.root) (new_node f.number (NamesOf m)))
          (rekeyed-empty (λ name. name) (λ _. refl) shown));
    }

    pub wipe_seen : (r : Result (Unit {0}) SrvErr) → Wipe old r new → Wipe (out old) r (out new)
    wipe_seen r w = record { tree = after r w.tree; limits = w.limits; faults = w.faults }
      where
        after : (r : Result (Unit {0}) SrvErr) → WipeOutcome r new.tree → WipeOutcome r (out new).tree
        after (Ok _) f = fresh_seen new.tree f
        after (Err Fault) f = ap (option_map over) f
        after (Err NoMemory) f = ap (option_map over) f
        after (Err e) f = f

    -- AS A CALLER SEES IT

    -- a handle from outside is inside what shows it
    module _ (q h : List ℕ) (here : q ≡ shown h) where
      meets : shown q ≡ h
      meets = ap shown here ∙ twice h

      pub attr_told : (r : Result NodeAttr SrvErr) → Attr old q r new → Attr (out old) h r (out new)
      attr_told r c = subst (λ x. Attr (out old) x r (out new)) meets (attr_inside q r c)

      pub set_attr_told : (mode uid gid : ℕ) (r : Result (Unit {0}) SrvErr) → SetAttr old q mode uid gid r new →
          SetAttr (out old) h mode uid gid r (out new)
      set_attr_told mode uid gid r c = subst (λ x. SetAttr (out old) x mode uid gid r (out new)) meets
          (set_attr_inside q mode uid gid r c)

      pub read_told : (offset count : ℕ) (r : Result (Vec ℕ Global) SrvErr) → Read old q offset count r new →
          Read (out old) h offset count r (out new)
      read_told offset count r c = subst (λ x. Read (out old) x offset count r (out new)) meets
          (read_inside q offset count r c)

      pub read_link_told : (r : Result (Vec ℕ Global) SrvErr) → ReadLink old q r new → ReadLink (out old) h r (out new)
      read_link_told r c = subst (λ x. ReadLink (out old) x r (out new)) meets (read_link_inside q r c)

      pub write_told : (offset : ℕ) (piece : List ℕ) (r : Result ℕ SrvErr) → Write old q offset piece r new →
          Write (out old) h offset piece r (out new)
      write_told offset piece r c = subst (λ x. Write (out old) x offset piece r (out new)) meets
          (write_inside q offset piece r c)

      pub set_size_told : (size : ℕ) (r : Result (Unit {0}) SrvErr) → SetSize old q size r new →
          SetSize (out old) h size r (out new)
      set_size_told size r c = subst (λ x. SetSize (out old) x size r (out new)) meets (set_size_inside q size r c)

      pub list_err_told : (e : SrvErr) → ListNames old q (Err e) new → ListNames (out old) h (Err e) (out new)
      list_err_told e c = subst (λ x. ListNames (out old) x (Err e) (out new)) meets (list_err_inside q e c)

      pub list_ok_told : (rows seen : Vec Listed Global) →
          ((k : ℕ) → slice_get seen.items k ≡ option_map
          (λ (row : Listed). let x : Listed = record row { handle = shown row.handle } in x)
          (slice_get rows.items k)) →
          ListNames old q (Ok rows) new → ListNames (out old) h (Ok seen) (out new)
      list_ok_told rows seen same c = subst (λ x. ListNames (out old) x (Ok seen) (out new)) meets
          (list_ok_inside q rows seen same c)

      module _ (name : List ℕ) where
        pub lookup_err_told : (e : SrvErr) → Lookup old q name (Err e) new → Lookup (out old) h name (Err e) (out new)
        lookup_err_told e c = subst (λ x. Lookup (out old) x name (Err e) (out new)) meets
            (lookup_err_inside q name e c)

        pub lookup_ok_told : (x y : List ℕ) → y ≡ shown x → Lookup old q name (Ok x) new →
            Lookup (out old) h name (Ok y) (out new)
        lookup_ok_told x y is c = subst (λ z. Lookup (out old) h name (Ok z) (out new)) (sym is)
            (subst (λ z. Lookup (out old) z name (Ok (shown x)) (out new)) meets (lookup_ok_inside q name x c))

        module _ (content : Content) (bytes : ℕ) where
          pub make_err_told : (e : SrvErr) → Make content bytes old q name (Err e) new →
              Make (shown_content shown content) bytes (out old) h name (Err e) (out new)
          make_err_told e c = subst
              (λ x. Make (shown_content shown content) bytes (out old) x name (Err e) (out new)) meets
              (make_err_inside q name content bytes e c)

          pub make_ok_told : (x y : List ℕ) → y ≡ shown x → Make content bytes old q name (Ok x) new →
              Make (shown_content shown content) bytes (out old) h name (Ok y) (out new)
          make_ok_told x y is c = subst
              (λ z. Make (shown_content shown content) bytes (out old) h name (Ok z) (out new)) (sym is)
              (subst (λ z. Make (shown_content shown content) bytes (out old) z name (Ok (shown x)) (out new)) meets
              (make_ok_inside q name content bytes x c))

        -- a directory without names
        pub mkdir_err_told : (e : SrvErr) → Make (NamesOf empty) 0 old q name (Err e) new →
            Make (NamesOf empty) 0 (out old) h name (Err e) (out new)
        mkdir_err_told e c = subst (λ m. Make (NamesOf m) 0 (out old) h name (Err e) (out new))
            (rekeyed-empty (λ name. name) (λ _. refl) shown) (make_err_told (NamesOf empty) 0 e c)

        pub mkdir_ok_told : (x y : List ℕ) → y ≡ shown x → Make (NamesOf empty) 0 old q name (Ok x) new →
            Make (NamesOf empty) 0 (out old) h name (Ok y) (out new)
        mkdir_ok_told x y is c = subst (λ m. Make (NamesOf m) 0 (out old) h name (Ok y) (out new))
            (rekeyed-empty (λ name. name) (λ _. refl) shown) (make_ok_told (NamesOf empty) 0 x y is c)

        pub remove_told : (r : Result (Unit {0}) SrvErr) → Remove old q name r new → Remove (out old) h name r (out new)
        remove_told r c = subst (λ x. Remove (out old) x name r (out new)) meets (remove_inside q name r c)

        pub rmdir_told : (r : Result (Unit {0}) SrvErr) → Rmdir old q name r new → Rmdir (out old) h name r (out new)
        rmdir_told r c = subst (λ x. Rmdir (out old) x name r (out new)) meets (rmdir_inside q name r c)

        pub link_told : (x y : List ℕ) → x ≡ shown y → (r : Result (Unit {0}) SrvErr) → Link old x q name r new →
            Link (out old) y h name r (out new)
        link_told x y is r c = subst (λ z. Link (out old) z h name r (out new)) (ap shown is ∙ twice y)
            (subst (λ z. Link (out old) (shown x) z name r (out new)) meets (link_inside q name x r c))

        pub rename_told : (x y to_name : List ℕ) → x ≡ shown y → (r : Result (Unit {0}) SrvErr) →
            Rename old q name x to_name r new → Rename (out old) h name y to_name r (out new)
        rename_told x y to_name is r c = subst (λ z. Rename (out old) h name z to_name r (out new))
            (ap shown is ∙ twice y)
            (subst (λ z. Rename (out old) z name (shown x) to_name r (out new)) meets
            (rename_inside q name x to_name r c))
