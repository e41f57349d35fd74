-- An object gets its attributes, its times and its generation.
use Rattle.std.proofs.Common.{◌≡◌, ◌<◌, inl, inr, ℕ, List, Bool, true, false, Option, Some, None, IsSome, IsSomeAnd, length, slice_get, slice_set, refl, sym, ap, ◌∙◌, subst, arith}
use Rattle.std.proofs.lemmas.List.{length-set}
use Rattle.server_trait.specs.Tree.{Tree, Node, Content, node_at, names_in, edited}
use Rattle.server_trait.specs.Tree as tree
use Rattle.server_trait.proofs.TreeLaws.{some_and, is_some_and, some_none, some_same, one_or_not, root-edited, node_at-edited_same, node_at-edited_other}
use Rattle.server_trait.specs.declared.bench.ConfEntry.{ConfEntry}
use Rattle.server_trait.specs.declared.bench.ConfTable.{ConfTable}
use Rattle.abs_model.specs.declared.entry.Attr.{Attr}
use Rattle.abs_model.specs.declared.entry.NameRow.{NameRow}
use Rattle.abs_model.specs.declared.entry.Object.{Object}
use Rattle.abs_model.specs.declared.entry.Object.TheVariants.{Null, File, Dir, Link}
use Rattle.abs_model.specs.declared.entry.Entry.{Entry}
use Rattle.abs_model.specs.Objects.{is_null}
use Rattle.abs_model.specs.Array.{entry_at}
use Rattle.conf_map.specs.Stands.{handle_at, SameNames, IsObject, SameAttr}
use Rattle.conf_map.specs.Moves.{IsSetAt}
use Rattle.conf_map.specs.Tables.{IsInStep, IsUnshared}
use Rattle.conf_map.proofs.Frames.{handle_of_row, same_handle}
use Rattle.conf_map.proofs.InStep.{slice_get-set_same, slice_get-set_other}
use Rattle.staging.specs.Dress.{CanDress, dressed, dressed_at}
use Rattle.staging.specs.Staged.{Staged, StagedAt}
use Rattle.staging.proofs.Frames.{one_row, names_frame}
use Rattle.staging.proofs.Made.{handle_node}
use Rattle.staging.proofs.Namings.{live_handle, live_below, entry_there}
use Rattle.staging.proofs.NameSteps.{staged_filled}

module _ (t : Tree) (area : List ℕ) (table : ConfTable) (A : List Entry) (S : List NameRow) (i : ℕ) (c : CanDress t area table A S i) where
  abbrev rows : List ConfEntry
  rows = table.rows.items

  pub dress_handle : (h : List ℕ) × (handle_at rows i ≡ Some h)
  dress_handle = live_handle t area table A S c.staged i c.live

  module _ (h : List ℕ) (at_i : handle_at rows i ≡ Some h) where
    dress_node : (n : Node) × (node_at t h ≡ Some n)
    dress_node = handle_node t area table A S c.staged i h at_i

    pub node_known : IsSome (node_at t h)
    node_known = ap is_some_of dress_node.1
      where
        is_some_of : Option Node → Bool
        is_some_of None = false
        is_some_of (Some n) = true

    pub dress_below : i < length rows
    dress_below = let a = live_below A i c.live in let b = c.staged.size in omega (arith, a, b)

    module _ (old : ConfEntry) (is_row : slice_get rows i ≡ Some old) where
      is_handle : old.handle ≡ Some h
      is_handle = sym (handle_of_row rows i old is_row) ∙ at_i

      pub dress_unshared : IsUnshared rows i old.handle
      dress_unshared j q is at_j = one_row t area table S c.staged.sited q j i at_j (handle_of_row rows i old is_row ∙ is)

      module _ (g : ℕ) (attr : Attr) (table' : ConfTable) (row' : ConfEntry) (row_is : row' ≡ record old { generation = g; atime = attr.atime; mtime = attr.mtime; ctime = attr.ctime })
          (set_is : table'.rows.items ≡ slice_set rows i row') (in_step : IsInStep table → IsInStep table') where
        abbrev node' : Node
        node' = tree.with_attr attr.mode attr.uid attr.gid dress_node.0

        abbrev t' : Tree
        t' = edited t h (tree.with_attr attr.mode attr.uid attr.gid)

        node_now : node_at t' h ≡ Some node'
        node_now = node_at-edited_same t h (tree.with_attr attr.mode attr.uid attr.gid) dress_node.0 dress_node.1

        same_hand : row'.handle ≡ old.handle
        same_hand = ap (λ (r : ConfEntry). r.handle) row_is

        rows_set : IsSetAt i row' rows table'.rows.items
        rows_set = record {
          size = ap length set_is ∙ length-set rows i row';
          here = ap (λ rows. slice_get rows i) set_is ∙ slice_get-set_same rows i row' old is_row;
          others = λ j ne. ap (λ rows. slice_get rows j) set_is ∙ slice_get-set_other rows i j row' ne;
        }

        handles : (j : ℕ) → handle_at table'.rows.items j ≡ handle_at rows j
        handles j = elim (one_or_not j i) as (λ _. handle_at table'.rows.items j ≡ handle_at rows j) [
          | inl e ↦ subst (λ j. handle_at table'.rows.items j ≡ handle_at rows j) (sym e) (handle_of_row table'.rows.items i row' rows_set.here ∙ same_hand ∙ sym (handle_of_row rows i old is_row))
          | inr ne ↦ same_handle rows table'.rows.items j (rows_set.others j ne)
        ]

        attrs : (a : Attr) → (n : Node) → n ≡ dress_node.0 → SameAttr a old n → SameAttr attr row' node'
        attrs a n same k = record {
          number = ap (λ (r : ConfEntry). r.number) row_is ∙ k.number ∙ ap (λ (n : Node). n.number) same;
          mode = refl;
          uid = refl;
          gid = refl;
          atime = ap (λ (r : ConfEntry). r.atime) row_is;
          mtime = ap (λ (r : ConfEntry). r.mtime) row_is;
          ctime = ap (λ (r : ConfEntry). r.ctime) row_is;
        }

        object : (o : Object) → is_null (record { generation = g; object = o }) ≡ false → IsObject t rows old o → IsObject t' table'.rows.items row' (dressed g attr (record { generation = g; object = o })).object
        object Null live k = absurd (let bad : true ≡ false = live in cc)
        object (File a b) live k =
            let same : k.node ≡ dress_node.0 = some_same k.is_node (ap (node_at t) (some_same k.is_handle is_handle) ∙ dress_node.1) in
            record { handle = h; node = node'; is_handle = same_hand ∙ is_handle; is_node = node_now; attr = attrs a k.node same k.attr; content = ap (λ (n : Node). n.content) (sym same) ∙ k.content }
        object (Link a x) live k =
            let same : k.node ≡ dress_node.0 = some_same k.is_node (ap (node_at t) (some_same k.is_handle is_handle) ∙ dress_node.1) in
            record { handle = h; node = node'; is_handle = same_hand ∙ is_handle; is_node = node_now; attr = attrs a k.node same k.attr; content = ap (λ (n : Node). n.content) (sym same) ∙ k.content }
        object (Dir a names) live k =
            let same : k.node ≡ dress_node.0 = some_same k.is_node (ap (node_at t) (some_same k.is_handle is_handle) ∙ dress_node.1) in
            let m = some_and (names_in k.node.content) (SameNames rows names) k.content in
            record {
              handle = h;
              node = node';
              is_handle = same_hand ∙ is_handle;
              is_node = node_now;
              attr = attrs a k.node same k.attr;
              content = is_some_and (SameNames table'.rows.items names) (ap (λ (n : Node). names_in n.content) (sym same) ∙ m.1) (names_frame rows table'.rows.items names m.0 (λ x row _ q at. handles row.index ∙ at) m.2);
            }

        pub dressed_there : Staged t' area table' (dressed_at A i g attr) S
        dressed_there = staged_filled t t' area table table' A (dressed_at A i g attr) S i c.staged (record {
          handle = h;
          row = old;
          row' = row';
          node = dress_node.0;
          node' = node';
          entry' = dressed g attr (entry_at A i);
          is_row = is_row;
          is_handle = is_handle;
          is_node = dress_node.1;
          root = root-edited t h (tree.with_attr attr.mode attr.uid attr.gid);
          node_now = node_now;
          nodes = λ q ne. node_at-edited_other t h (tree.with_attr attr.mode attr.uid attr.gid) q ne;
          number = refl;
          rows = rows_set;
          same_handle = same_hand;
          in_step = in_step c.staged.sited.in_step;
          array = record {
            size = length-set A i (dressed g attr (entry_at A i));
            here = slice_get-set_same A i (dressed g attr (entry_at A i)) (entry_at A i) (entry_there t area table A S c.staged i c.live);
            others = λ j ne. slice_get-set_other A i j (dressed g attr (entry_at A i)) ne;
          };
          generation = ap (λ (r : ConfEntry). r.generation) row_is;
          object = object (entry_at A i).object c.live (c.staged.each i old (entry_at A i) is_row (entry_there t area table A S c.staged i c.live)).object;
        })

-- OF WHAT A SERVER HAS

module _ (s : Option Tree) (area : List ℕ) (table : ConfTable) (i : ℕ) (can : IsSomeAnd s (λ t. (A : List Entry) × (S : List NameRow) × CanDress t area table A S i)) (h : List ℕ) (at_i : Some h ≡ handle_at table.rows.items i) where
  known : (t : Tree) × (s ≡ Some t) × ((A : List Entry) × (S : List NameRow) × CanDress t area table A S i)
  known = some_and s (λ t. (A : List Entry) × (S : List NameRow) × CanDress t area table A S i) can

  pub node_there : IsSomeAnd s (λ t. IsSome (node_at t h))
  node_there = is_some_and (λ t. IsSome (node_at t h)) known.1 (node_known known.0 area table known.2.0 known.2.1 i known.2.2 h (sym at_i))

  pub below_there : i < length table.rows.items
  below_there = dress_below known.0 area table known.2.0 known.2.1 i known.2.2 h (sym at_i)

  pub unshared_there : (old : ConfEntry) → slice_get table.rows.items i ≡ Some old → IsUnshared table.rows.items i old.handle
  unshared_there old at = dress_unshared known.0 area table known.2.0 known.2.1 i known.2.2 h (sym at_i) old at

pub dressed_after : (t : Tree) (area : List ℕ) (table : ConfTable) (A : List Entry) (S : List NameRow) (i : ℕ) → CanDress t area table A S i → (h : List ℕ) → Some h ≡ handle_at table.rows.items i →
    (old : ConfEntry) → slice_get table.rows.items i ≡ Some old → (g : ℕ) (attr : Attr) (table' : ConfTable) (row' : ConfEntry) → row' ≡ record old { generation = g; atime = attr.atime; mtime = attr.mtime; ctime = attr.ctime } →
    table'.rows.items ≡ slice_set table.rows.items i row' → (IsInStep table → IsInStep table') → (s : Option Tree) → s ≡ Some (edited t h (tree.with_attr attr.mode attr.uid attr.gid)) → StagedAt s area table' (dressed_at A i g attr) S
dressed_after t area table A S i c h at_i old is_row g attr table' row' row_is set_is in_step s after =
    is_some_and (λ t. Staged t area table' (dressed_at A i g attr) S) after (dressed_there t area table A S i c h (sym at_i) old is_row g attr table' row' row_is set_is in_step)

pub never : {X : Type 0} (t : Tree) (area : List ℕ) (table : ConfTable) (A : List Entry) (S : List NameRow) (i : ℕ) → CanDress t area table A S i → None ≡ handle_at table.rows.items i → X
never t area table A S i c none = absurd (some_none (dress_handle t area table A S i c).1 (sym none))
