-- A name that can be taken out: where it leads, and what the server tells of it.
use Rattle.std.proofs.Common.{◌≡◌, ◌≢◌, inl, inr, ℕ, ◌<◌, true, false, List, length, Option, Some, None, IsSome, IsSomeAnd, is_some, refl, sym, ap, ◌∙◌, subst}
use Rattle.std.specs.Prelude.{nat_le, ◌||◌}
use Rattle.std.specs.FinMap.{get, empty, get-empty}
use Rattle.std.specs.Option.{option_and_then}
use Rattle.std.specs.Ordering.{nat_cmp}
use Rattle.std.specs.Cmp.Lexicographic.{slice_cmp}
use Rattle.std.proofs.lemmas.Bool.{cases_Bool}
use Rattle.std.proofs.lemmas.Option.{slice_get_within}
use Rattle.server_trait.specs.Tree.{Tree, Server, Node, Names, Content, BytesOf, TextOf, NamesOf, node_at, names_in, names_at, target, links_of}
use Rattle.server_trait.specs.Tree as tree
use Rattle.server_trait.specs.Step.{IsNo}
use Rattle.server_trait.specs.Calls.{IsAttr}
use Rattle.server_trait.specs.declared.server.NodeAttr.{NodeAttr}
use Rattle.server_trait.specs.declared.bench.ConfEntry.{ConfEntry}
use Rattle.server_trait.specs.declared.bench.ConfTable.{ConfTable}
use Rattle.server_trait.proofs.TreeLaws.{some_and, is_some_and, some_none, some_same, same_answers}
use Rattle.abs_model.specs.declared.entry.Entry.{Entry}
use Rattle.abs_model.specs.Objects.{is_dir, names_of, row_of}
use Rattle.abs_model.specs.Array.{entry_at, links}
use Rattle.abs_model.proofs.Facts.{HasRow, row_is}
use Rattle.conf_map.specs.Found.{is_dir_kind, IsSeen}
use Rattle.conf_map.specs.Moves.{IsAt}
use Rattle.conf_map.specs.Stands.{handle_at, StandValid, Stands}
use Rattle.conf_map.specs.declared.table.Located.{Located}
use Rattle.conf_map.proofs.Agrees.{links_agrees}
use Rattle.conf_map.proofs.ArrayFacts.{led_by}
use Rattle.conf_map.proofs.ObjectChanges.{at_index}
use Rattle.conf_map.proofs.ObjectFacts.{object_seen}
use Rattle.conf_map.proofs.Targets.{dir_map, other_not_dir, target_some, target_none}
use Rattle.node_changes.specs.Drops.{CanTake, last_name, CanDrop}

-- what has no names counts the names that lead to it
links_plain : (t : Tree) (h : List ℕ) (c : Content) → names_in c ≡ None → links_of t h c ≡ tree.links t h
links_plain t h (BytesOf b) is = refl
links_plain t h (TextOf x) is = refl
links_plain t h (NamesOf m) is = absurd (some_none {o = Some m} refl is)

module _ (s : Server) (table : ConfTable) (A : List Entry) (name : List ℕ) (dir o : Located)
    (c : CanDrop s table A name dir o) where
  abbrev d : ℕ
  d = dir.index

  abbrev i : ℕ
  i = o.index

  abbrev dh : List ℕ
  dh = dir.handle

  abbrev h : List ℕ
  h = o.handle

  abbrev t : Tree
  t = c.stands.tree

  -- the name's row, which leads to the object
  pub row : HasRow A d name
  row = row_is A d name c.led.has

  pub to_index : row.row.index ≡ i
  to_index = sym row.leads_there ∙ c.led.target

  -- a directory doesn't lead to itself where the object has no names
  pub apart : d ≢ i
  apart e = some_none row.found (ap (λ k. row_of name (names_of (entry_at A k))) e ∙ ap (row_of name) c.empty)

  pub at_dir : (r : ConfEntry) × (n : Node) × IsAt t table A d dh r n (entry_at A d)
  at_dir = at_index s.tree table A c.stands d dh c.live

  pub at_old : (r : ConfEntry) × (n : Node) × IsAt t table A i h r n (entry_at A i)
  at_old = at_index s.tree table A c.stands i h c.led.live

  pub dir_below : d < length table.rows.items
  dir_below = slice_get_within table.rows.items d at_dir.0 at_dir.2.is_row

  pub old_below : i < length table.rows.items
  old_below = slice_get_within table.rows.items i at_old.0 at_old.2.is_row

  pub not_root : i ≢ 0
  not_root e = (led_by c.limits A c.valid d (entry_at A d) name row.row at_dir.2.is_entry row.found).not_root
      (to_index ∙ e)

  -- the server's name leads to the node
  pub target_is : target t dh name ≡ Some h
  target_is =
      let x = target_some s.tree table A c.stands d dh at_dir.0 at_dir.1 (entry_at A d) at_dir.2 c.is_dir
      name row.row row.found in
      x.1 ∙ ap Some (some_same x.2 (ap (handle_at table.rows.items) to_index ∙ c.led.live))

  object_empty : is_dir (entry_at A i) ≡ true → names_at t h ≡ Some empty
  object_empty is =
      let m = dir_map s.tree table A c.stands i h at_old.0 at_old.1 (entry_at A i) at_old.2 is in
      m.1 ∙ ap Some (same_answers m.0 empty (λ q.
      sym (ap (option_and_then (λ (m : Names). get m q)) m.1)
      ∙ target_none s.tree table A c.stands i h at_old.0 at_old.1 (entry_at A i) at_old.2 is q (ap (row_of q) c.empty)
      ∙ sym (get-empty (slice_cmp nat_cmp) q)))

  object_other : is_dir (entry_at A i) ≡ false → IsNo names_in t h
  object_other is = other_not_dir s.tree table A c.stands i h at_old.0 at_old.1 (entry_at A i) at_old.2 is

  -- the server has as many names of it as the array
  pub links_are : tree.links t h ≡ links A i
  links_are = links_agrees c.limits s.tree table A c.stands c.valid i h c.led.live not_root

  pub has_node : IsSomeAnd s.tree (λ t. IsSome (node_at t h))
  has_node = is_some_and (λ t. IsSome (node_at t h)) c.stands.has_tree (ap is_some at_old.2.is_node)

  pub stand_valid : StandValid s.tree table A
  stand_valid = record { limits = c.limits; within = c.within; valid = c.valid; stands = c.stands; tallied = c.tallied }

  -- WHAT THE SERVER TELLS

  module _ (a : NodeAttr) (told : (t : Tree) → s.tree ≡ Some t → IsSomeAnd (node_at t h) (IsAttr t h a)) where
    pub seen_is : IsSeen (entry_at A i) a
    seen_is = object_seen s.tree table A stand_valid i h a c.led.live told

    kind_is : is_dir_kind a.kind ≡ is_dir (entry_at A i)
    kind_is = seen_is.dir

    -- the name can be taken out by the node's kind
    pub can_take : (s1 : Option Tree) → s1 ≡ s.tree → IsSomeAnd s1 (λ t. CanTake t dh name (is_dir_kind a.kind))
    can_take s1 same = is_some_and (λ t. CanTake t dh name (is_dir_kind a.kind)) (same ∙ c.stands.has_tree) (record {
      handle = h;
      leads = target_is;
      no_names = λ is. object_empty (sym kind_is ∙ is);
      no_dir = λ is. object_other (sym kind_is ∙ is);
    })

    links_told : is_dir (entry_at A i) ≡ false → a.links ≡ links A i
    links_told other =
        let n = some_and (node_at t h) (IsAttr t h a) (told t c.stands.has_tree) in
        let m = some_and (node_at t h) (λ (n : Node). names_in n.content ≡ None) (object_other other) in
        let none : names_in n.0.content ≡ None = ap (λ (n : Node). names_in n.content) (some_same n.1 m.1) ∙ m.2 in
        n.2.links ∙ links_plain t h n.0.content none ∙ links_are

    -- it has no other name where the array has none
    pub last_is : last_name a ≡ nat_le (links A i) 1
    last_is = elim (cases_Bool (is_dir (entry_at A i))) [
      | inl is ↦ ap (λ b. b || nat_le a.links 1) (kind_is ∙ is)
          ∙ sym (ap (λ n. nat_le n 1) (c.valid.one_name i is not_root))
      | inr other ↦ ap (λ b. b || nat_le a.links 1) (kind_is ∙ other) ∙ ap (λ n. nat_le n 1) (links_told other)
    ]

-- what the server holds is the same, so the name can still be taken out
pub can_still_drop : (s s' : Server) (table : ConfTable) (A : List Entry) (name : List ℕ) (dir o : Located) →
    s'.tree ≡ s.tree → CanDrop s table A name dir o → CanDrop s' table A name dir o
can_still_drop s s' table A name dir o same_tree c = record {
  limits = c.limits;
  within = c.within;
  valid = c.valid;
  stands = subst (λ s. Stands s table A) (sym same_tree) c.stands;
  tallied = c.tallied;
  live = c.live;
  is_dir = c.is_dir;
  good = c.good;
  led = c.led;
  empty = c.empty;
}
