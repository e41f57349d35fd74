-- The slots of nodes, read as two maps.
use Rattle.std.proofs.Common.{inl, inr, ◌≡◌, ℕ, ◌<◌, ◌^◌, true, false, List, [], length, bytes_eq, if◌then◌else◌, Option, Some, None, Result, Ok, Err, IsSome, IfOk, OnErr, is_some, option_map, slice_index_or, slice_set, refl, sym, ap, ◌∙◌, subst}
use Rattle.std.specs.Prelude.{unwrap_or}
use Rattle.std.proofs.lemmas.List.{get_or-set_same, get_or-set_other}
use Rattle.std.specs.FinMap.{get, insert, remove}
use Rattle.server_trait.specs.Tree.{ByBytes}
use Rattle.server_trait.proofs.TreeLaws.{bytes_or_not, get-insert_same, get-insert_other, same_answers, some_none, some_same}
use Rattle.path_server.proofs.NamedLaws.{is_some_none}
use Rattle.slab.specs.Slab.{Slab, Updates, get as slot_at}
use Rattle.path_store.specs.Tables.{place_of, table, ArePlaced, HasRoom}
use Rattle.path_store.proofs.TableLaws.{got-table, row_there, value_for, here-at, none-at, alone-room, there-within, put-placed, put-table, taken-table}
use Rattle.path_server.specs.Bytes.{bytes_under}
use Rattle.path_server.specs.Serials.{serial_bytes}
use Rattle.path_server.specs.Slots.{nodes_in, bytes_in, slots_in, Comes}
use Rattle.path_server.specs.declared.node.PathNode.{PathNode}
use Rattle.path_server.specs.declared.nodes.NodeSlot.{NodeSlot}
use Rattle.path_server.specs.declared.nodes.NodeSlab.{NodeSlab}
use Rattle.path_server.proofs.Serials.{place-serial_bytes}

abbrev pub handle : NodeSlot → List ℕ
handle x = x.handle

abbrev pub node : NodeSlot → PathNode
node x = x.node

abbrev pub text : NodeSlot → List ℕ
text x = x.bytes.items

-- a map in which a key has a value already
insert_again : {X : Type 0} (m : ByBytes X) (h : List ℕ) (v : X) → get m h ≡ Some v → insert m h v ≡ m
insert_again m h v is = same_answers (insert m h v) m (λ q. elim (bytes_or_not q h) as (λ _.
    get (insert m h v) q ≡ get m q) [
      | inl same ↦ ap (get (insert m h v)) same ∙ get-insert_same m h v ∙ sym (ap (get m) same ∙ is)
      | inr ne ↦ get-insert_other m h v q ne
    ])

module _ (s : NodeSlab) where
  abbrev rows : List (Option NodeSlot)
  rows = s.slots.slots

  -- what is found is found of each part
  module _ {X : Type 0} (value : NodeSlot → X) where
    part : (h : List ℕ) (o : Option NodeSlot) →
        value_for handle value h o ≡ option_map value (value_for handle (λ x. x) h o)
    part h None = refl
    part h (Some a) = elim (bytes_eq a.handle h) as (λ b. (if b then Some (value a) else None)
        ≡ option_map value (if b then Some a else None)) [ true ↦ refl | false ↦ refl ]

    pub part_got : (h : List ℕ) → get (table handle value rows) h ≡ option_map value (get (slots_in s) h)
    part_got h = got-table handle value rows s.placed h ∙ part h (slice_index_or rows (place_of h) None)
        ∙ sym (ap (option_map value) (got-table handle (λ x. x) rows s.placed h))

  pub there_part : (h : List ℕ) → IsSome (get (nodes_in s) h) → IsSome (get (bytes_in s) h)
  there_part h there = ap is_some (part_got text h) ∙ same (get (slots_in s) h)
      ∙ sym (ap is_some (part_got node h)) ∙ there
    where
      same : (o : Option NodeSlot) → is_some (option_map text o) ≡ is_some (option_map node o)
      same None = refl
      same (Some x) = refl

  pub bytes_of_slot : (h : List ℕ) (o : Option NodeSlot) {x : Option NodeSlot} → o ≡ get (slots_in s) h → o ≡ x →
      unwrap_or (option_map text x) [] ≡ bytes_under (bytes_in s) h
  unfolding bytes_under
  bytes_of_slot h o is x_is = ap (λ y. unwrap_or (option_map text y) []) (sym x_is ∙ is)
      ∙ ap (λ y. unwrap_or y []) (sym (part_got text h))

  -- A SLOT CHANGES

  module _ (h : List ℕ) (place : ℕ) (at : place ≡ place_of h) (there : IsSome (get (nodes_in s) h)) (a : NodeSlot)
      (found : slice_index_or rows place None ≡ Some a) (b : NodeSlot) (same : b.handle ≡ a.handle) where
    abbrev after : List (Option NodeSlot)
    after = slice_set rows place (Some b)

    here : a.handle ≡ h
    here = let r = row_there handle node rows s.placed h there in
        ap handle (some_same found (ap (λ k. slice_index_or rows k None) at ∙ r.1)) ∙ r.2

    within : place < length rows
    within = subst (λ k. k < length rows) (sym at) (there-within handle node rows s.placed h there)

    changed : {X : Type 0} (value : NodeSlot → X) → table handle value after ≡ insert (table handle value rows) h (value b)
    changed value = put-table handle value rows after s.placed place
        (λ j ne. get_or-set_other rows place j (Some b) None ne) b
        (get_or-set_same rows place (Some b) None within) (ap place_of (same ∙ here) ∙ sym at)
        (alone-room handle value rows s.placed b.handle (λ r is. ap handle (some_same
        (sym (ap (λ k. slice_index_or rows k None) (ap place_of (same ∙ here) ∙ sym at)) ∙ is) found) ∙ sym same))
        ∙ ap (λ k. insert (table handle value rows) k (value b)) (same ∙ here)

    pub nodes_changed : table handle node after ≡ insert (nodes_in s) h b.node
    nodes_changed = changed node

    pub bytes_changed : table handle text after ≡ insert (bytes_in s) h b.bytes.items
    bytes_changed = changed text

    had : {X : Type 0} (value : NodeSlot → X) → get (table handle value rows) h ≡ Some (value a)
    had value = sym (here-at handle value rows s.placed place h (Some a) at (sym found) a refl here)

    pub nodes_same : b.node ≡ a.node → table handle node after ≡ nodes_in s
    nodes_same is = nodes_changed ∙ insert_again (nodes_in s) h b.node (had node ∙ ap Some (sym is))

    pub bytes_same : b.bytes.items ≡ a.bytes.items → table handle text after ≡ bytes_in s
    bytes_same is = bytes_changed ∙ insert_again (bytes_in s) h b.bytes.items (had text ∙ ap Some (sym is))

    pub bytes_were : bytes_under (bytes_in s) h ≡ a.bytes.items
    unfolding bytes_under
    bytes_were = ap (λ o. unwrap_or o []) (had text)

  -- A SLOT IS TAKEN OUT

  module _ (after : Slab NodeSlot) (h : List ℕ) (place : ℕ) (at : place ≡ place_of h)
      (there : IsSome (get (nodes_in s) h)) (taken : Updates s.slots after place None) where
    pub nodes_taken : table handle node after.slots ≡ remove (nodes_in s) h
    nodes_taken = taken-table handle node rows after.slots s.placed place taken.others taken.changed h (sym at) there

    pub bytes_taken : table handle text after.slots ≡ remove (bytes_in s) h
    bytes_taken = taken-table handle text rows after.slots s.placed place taken.others taken.changed h (sym at)
        (there_part h there)

  -- A SLOT IS PUT IN

  module _ (after : Slab NodeSlot) (serial place : ℕ) (fits : place < 2 ^ 64) (b : NodeSlot)
      (handle_is : b.handle ≡ serial_bytes serial place) (vacant : slot_at s.slots place ≡ None)
      (put : Updates s.slots after place (Some b)) where
    at_place : place_of b.handle ≡ place
    at_place = ap place_of handle_is ∙ place-serial_bytes serial place fits

    vacant_here : slice_index_or rows (place_of b.handle) None ≡ None
    vacant_here = ap (λ k. slice_index_or rows k None) at_place ∙ vacant

    room : {X : Type 0} (value : NodeSlot → X) → HasRoom (table handle value rows) b.handle
    room value = alone-room handle value rows s.placed b.handle (λ a is. absurd (some_none is vacant_here))

    come : {X : Type 0} (value : NodeSlot → X) → table handle value after.slots
        ≡ insert (table handle value rows) b.handle (value b)
    come value = put-table handle value rows after.slots s.placed place put.others b put.changed at_place (room value)

    absent : get (nodes_in s) b.handle ≡ None
    absent = sym (none-at handle node rows s.placed place b.handle None (sym at_place) (sym vacant) refl)

    pub comes : (new : NodeSlab) → new.slots ≡ after → Comes s serial b.node b.bytes.items b.handle new
    comes new is = record {
      handle_is = handle_is ∙ ap (serial_bytes serial) (sym at_place);
      absent = absent;
      apart = λ q there same. is_some_none there (ap (get (nodes_in s)) (room node q there same) ∙ absent);
      nodes = ap (λ (l : Slab NodeSlot). table handle node l.slots) is ∙ come node;
      bytes = ap (λ (l : Slab NodeSlot). table handle text l.slots) is ∙ come text;
    }

  -- whether or not it is put in, each slot stands at its place
  pub still_placed : {E : Type 0} (later : Slab NodeSlot) (serial key : ℕ) (b : NodeSlot) (r : Result ℕ E) →
      key < 2 ^ 64 → b.handle ≡ serial_bytes serial key → IfOk r (λ place. place ≡ key) →
      IfOk r (λ place. Updates s.slots later place (Some b)) →
      OnErr r (later ≡ record s.slots { capacity = later.capacity }) → ArePlaced handle later.slots
  still_placed later serial key b (Ok place) fits is same put err = put-placed handle node rows later.slots s.placed place
      put.others b put.changed (ap place_of is ∙ place-serial_bytes serial key fits ∙ sym same)
  still_placed later serial key b (Err e) fits is same put err =
      subst (ArePlaced handle) (sym (ap (λ (l : Slab NodeSlot). l.slots) err)) s.placed
