-- What each record that a store writes does to the tree, and what it reads.
use Rattle.std.proofs.Common.{◌≡◌, ◌∙◌, sym, cond, ◌+◌, ◌-◌, ◌*◌, ◌++◌, ◌<◌, ◌≤◌, ℕ, List, [], Some, None, false, length, take, drop, get_or, refl, ap, arith}
use Rattle.std.specs.Prelude.{option_map}
use Rattle.std.proofs.lemmas.List.{length-append, length-take, length-drop, take_all}
use Rattle.std.specs.FinMap.{get}
use Rattle.std.specs.Int.{to_be_bytes, from_be_bytes, w32, w64}
use Rattle.server_trait.specs.Tree.{Node}
use Rattle.server_trait.specs.Tree.{named, unnamed, with_node, without_node}
use Rattle.log_segments.specs.Newest.{after, find}
use Rattle.log_segments.specs.Record.{is_end, is_gone, key_of}
use Rattle.log_records.specs.declared.node.NodeRecord.{NodeRecord}
use Rattle.log_records.specs.Layout.{node_key, name_key, chunk_key, key_size, value_of, node_in, child_in, chunk_in}
use Rattle.log_records.specs.Laws.{NodeFits}
use Rattle.log_records.specs.Spelling.{record_of, node_value, chunk_value}
use Rattle.log_records.proofs.Again.{parts_again, node_again, child_again, chunk_again}
use Rattle.log_tree.specs.Held.{Records, handle_of, id_of, name_view, names_of, bytes_from, content_of, node_of, tree_of}
use Rattle.log_tree.specs.Laws.{IsOfNode, IsInside}
use Rattle.log_store.specs.Store.{KeepsOthers, HasBefore, PutsChunk, DropsChunk, NodeIs, PutsNode, node_with}
use Rattle.log_tree.proofs.Views.{find-key, get-view, name_back, names_inverse}
use Rattle.log_tree.proofs.TreeLaws.{apart, find-other, node_at-id, inside_laws}
use Rattle.log_segments.proofs.Finds.{find-after}
use Rattle.std.proofs.lemmas.Slice.Eq.{bytes_eq-Decides}
use Rattle.log_tree.proofs.StepLaws.{of_node, name_laws, chunk_laws}

-- the key of a record that has one shorter than the block
pub key_size_is : (b key : List ℕ) → length b ≡ 512 → key_of b ≡ key → length key < 509 → key_size b ≡ length key
unfolding key_of
key_size_is b key long is few =
    omega (arith, ap length is, length-take (256 * get_or b 1 0 + get_or b 2 0) (drop 3 b), length-drop 3 b)

-- a record that is put is found
pub found_now : (live : Records) (block key : List ℕ) → key_of block ≡ key
    → find key (after live block) ≡ cond (is_gone block) None (Some block)
found_now live block key is =
    find-after live block key
    ∙ ap (λ b. cond b (cond (is_gone block) None (Some block)) (find key live)) ((bytes_eq-Decides
    (key_of block) key).1 is)

-- NAMES

pub name_fits : (dir name child : List ℕ) → length dir ≡ 8 → length name ≤ 255 → length child ≡ 8
    → 3 + length (name_key dir name) + length child ≤ 512
name_fits dir name child eight few one = omega (arith, length-append dir name)

pub gone_fits : (dir name : List ℕ) → length dir ≡ 8 → length name ≤ 255 → 3 + length (name_key dir name) + 0 ≤ 512
gone_fits dir name eight few = omega (arith, length-append dir name)

pub name_key_fits : (dir name : List ℕ) → length dir ≡ 8 → length name ≤ 255 → length (name_key dir name) ≤ 264
name_key_fits dir name eight few = omega (arith, length-append dir name)

pub name_stands : (dir name child : List ℕ) → length dir ≡ 8 → length name ≤ 255 → length child ≡ 8
    → is_end (record_of 2 (name_key dir name) child) ≡ false
name_stands dir name child eight few one = (parts_again 2 (name_key dir name) child
    (name_fits dir name child eight few one)).end_is

pub name_put : (live : Records) (dir name child : List ℕ) → length dir ≡ 8 → length name ≤ 255 → length child ≡ 8
    → tree_of (after live (record_of 2 (name_key dir name) child))
    ≡ named (tree_of live) (handle_of dir) name (handle_of child)
name_put live dir name child eight few one =
    let p = parts_again 2 (name_key dir name) child (name_fits dir name child eight few one) in
    let read : child_in (value_of (record_of 2 (name_key dir name) child)) ≡ child = ap child_in p.value_is
    ∙ child_again child _ one in
    (name_laws live (record_of 2 (name_key dir name) child) dir name eight p.key_is).named p.gone_is
    ∙ ap (λ c. named (tree_of live) (handle_of dir) name (handle_of c)) read

pub name_gone_stands : (dir name : List ℕ) → length dir ≡ 8 → length name ≤ 255
    → is_end (record_of 1 (name_key dir name) []) ≡ false
name_gone_stands dir name eight few = (parts_again 1 (name_key dir name) [] (gone_fits dir name eight few)).end_is

pub name_dropped : (live : Records) (dir name : List ℕ) → length dir ≡ 8 → length name ≤ 255
    → tree_of (after live (record_of 1 (name_key dir name) [])) ≡ unnamed (tree_of live) (handle_of dir) name
name_dropped live dir name eight few =
    let p = parts_again 1 (name_key dir name) [] (gone_fits dir name eight few) in
    (name_laws live (record_of 1 (name_key dir name) []) dir name eight p.key_is).unnamed p.gone_is

pub name_at : (live : Records) (dir name : List ℕ) → length dir ≡ 8
    → get (names_of live dir) name ≡ option_map (λ r. handle_of (child_in (value_of r))) (find (name_key dir name) live)
unfolding names_of
name_at live dir name eight = get-view (name_view dir) (name_back dir) (λ r. handle_of (child_in (value_of r)))
    (names_inverse dir eight) live name

-- where a name's value begins
pub name_size : (live : Records) (dir name b : List ℕ) → length dir ≡ 8 → length name ≤ 255 → length b ≡ 512
    → find (name_key dir name) live ≡ Some b
    → key_size b + 8 ≤ 509
name_size live dir name b eight few long is =
    let fits = name_key_fits dir name eight few in
    omega (arith, key_size_is b (name_key dir name) long (find-key (name_key dir name) live b is) (omega arith))

-- NODES

pub node_fits : (id : List ℕ) (n : NodeRecord) → length id ≡ 8 → 3 + length (node_key id) + length (node_value n) ≤ 512
node_fits id n eight = omega arith

pub node_stands : (id : List ℕ) (n : NodeRecord) → length id ≡ 8
    → is_end (record_of 2 (node_key id) (node_value n)) ≡ false
node_stands id n eight = (parts_again 2 (node_key id) (node_value n) (node_fits id n eight)).end_is

-- a node as its parts
abbrev made : List ℕ → NodeRecord → Records → Node
made id n live = node_with (from_be_bytes w64 id) n (content_of live id n.kind)

pub node_put : (live : Records) (id : List ℕ) (n : NodeRecord) → length id ≡ 8 → NodeFits n
    → PutsNode live id n (after live (record_of 2 (node_key id) (node_value n)))
node_put live id n eight fits =
    let r = record_of 2 (node_key id) (node_value n) in
    let p = parts_again 2 (node_key id) (node_value n) (node_fits id n eight) in
    let is : IsOfNode r id = record { size = eight; key = p.key_is } in
    let id_is : id_of r ≡ id = ap (λ a. take 8 (drop 1 a)) p.key_is ∙ take_all 8 id (omega arith) in
    let n_is : node_in (value_of r) ≡ n = ap node_in p.value_is ∙ node_again n _ fits in
    (of_node live r id is).puts p.gone_is
    ∙ ap (with_node (tree_of live) (handle_of id)) (ap (λ m. made (id_of r) m live) n_is
    ∙ ap (λ i. made i n live) id_is)

pub node_gone_stands : (id : List ℕ) → length id ≡ 8 → is_end (record_of 1 (node_key id) []) ≡ false
node_gone_stands id eight = (parts_again 1 (node_key id) [] (omega arith)).end_is

pub node_dropped : (live : Records) (id : List ℕ) → length id ≡ 8
    → tree_of (after live (record_of 1 (node_key id) [])) ≡ without_node (tree_of live) (handle_of id)
node_dropped live id eight =
    let p = parts_again 1 (node_key id) [] (omega arith) in
    let is : IsOfNode (record_of 1 (node_key id) []) id = record { size = eight; key = p.key_is } in
    (of_node live (record_of 1 (node_key id) []) id is).takes p.gone_is

pub node_found : (live : Records) (id : List ℕ) → length id ≡ 8
    → NodeIs live id (option_map (λ r. node_in (value_of r)) (find (node_key id) live))
node_found live id eight =
    node_at-id live id eight
    ∙ elim (find (node_key id) live) as (λ o. find (node_key id) live ≡ o
    → option_map (node_of live) o ≡ option_map (λ n. made id n live) (option_map (λ r. node_in (value_of r)) o)) [
      | None ↦ (λ w. refl)
      | Some r ↦ (λ w.
          let id_is : id_of r ≡ id = ap (λ a. take 8 (drop 1 a)) (find-key (node_key id) live r w)
          ∙ take_all 8 id (omega arith) in
          ap (λ i. Some (made i (node_in (value_of r)) live)) id_is)
    ] refl

pub node_size : (live : Records) (id b : List ℕ) → length id ≡ 8 → length b ≡ 512
    → find (node_key id) live ≡ Some b → key_size b + 13 ≤ 509
node_size live id b eight long is =
    omega (arith, key_size_is b (node_key id) long (find-key (node_key id) live b is) (omega arith))

-- CHUNKS

pub chunk_fits : (id : List ℕ) (place : ℕ) (bytes : List ℕ) → length id ≡ 8 → length bytes ≤ 480
    → 3 + length (chunk_key id place) + length (chunk_value bytes) ≤ 512
chunk_fits id place bytes eight most = omega (arith, length-append id (to_be_bytes w32 place))

pub chunk_gone_fits : (id : List ℕ) (place : ℕ) → length id ≡ 8 → 3 + length (chunk_key id place) + 0 ≤ 512
chunk_gone_fits id place eight = omega (arith, length-append id (to_be_bytes w32 place))

pub chunk_stands : (id : List ℕ) (place : ℕ) (bytes : List ℕ) → length id ≡ 8 → length bytes ≤ 480
    → is_end (record_of 2 (chunk_key id place) (chunk_value bytes)) ≡ false
chunk_stands id place bytes eight most = (parts_again 2 (chunk_key id place) (chunk_value bytes)
    (chunk_fits id place bytes eight most)).end_is

-- a chunk's record is about what is inside of a node
chunk_inside : (r id : List ℕ) (place : ℕ) → length id ≡ 8 → key_of r ≡ chunk_key id place → IsInside r id
chunk_inside r id place eight key =
    record { size = eight; about = 3; rest = to_be_bytes w32 place; not_node = λ e. omega arith; key = key }

pub chunk_put : (live : Records) (id : List ℕ) (place : ℕ) (bytes : List ℕ) → length id ≡ 8 → place < 17477
    → length bytes ≤ 480
    → HasBefore live id place → PutsChunk live id place bytes (after live (record_of 2 (chunk_key id place)
    (chunk_value bytes)))
chunk_put live id place bytes eight few most below =
    let p = parts_again 2 (chunk_key id place) (chunk_value bytes) (chunk_fits id place bytes eight most) in
    let laws = chunk_laws live (record_of 2 (chunk_key id place)
    (chunk_value bytes)) id place eight few p.key_is below in
    let read : chunk_in (value_of (record_of 2 (chunk_key id place) (chunk_value bytes)))
    ≡ bytes = ap chunk_in p.value_is ∙ chunk_again bytes _ in
    let block = record_of 2 (chunk_key id place) (chunk_value bytes) in
    record {
      here = ap (option_map (λ r. chunk_in (value_of r)))
          (found_now live block (chunk_key id place) p.key_is ∙ ap (λ g. cond g None (Some block)) p.gone_is)
          ∙ ap Some read;
      bytes_are = laws.puts p.gone_is ∙ ap (λ b. bytes_from place live id 0 ++ (b ++ bytes_from
          (17476 - place) live id (place + 1))) read;
      file = laws.file;
      alone = (inside_laws live block id (chunk_inside block id place eight p.key_is)).absent;
    }

pub chunk_gone_stands : (id : List ℕ) (place : ℕ) → length id ≡ 8 → is_end (record_of 1 (chunk_key id place) []) ≡ false
chunk_gone_stands id place eight = (parts_again 1 (chunk_key id place) [] (chunk_gone_fits id place eight)).end_is

pub chunk_dropped : (live : Records) (id : List ℕ) (place : ℕ) → length id ≡ 8 → place < 17477 → HasBefore live id place
    → DropsChunk live id place (after live (record_of 1 (chunk_key id place) []))
chunk_dropped live id place eight few below =
    let p = parts_again 1 (chunk_key id place) [] (chunk_gone_fits id place eight) in
    let laws = chunk_laws live (record_of 1 (chunk_key id place) []) id place eight few p.key_is below in
    let block = record_of 1 (chunk_key id place) [] in
    record {
      here = found_now live block (chunk_key id place) p.key_is ∙ ap (λ g. cond g None (Some block)) p.gone_is;
      bytes_are = laws.takes p.gone_is;
      file = laws.file;
      alone = (inside_laws live block id (chunk_inside block id place eight p.key_is)).absent;
    }

pub chunk_size : (live : Records) (id : List ℕ) (place : ℕ) (b : List ℕ) → length id ≡ 8 → length b ≡ 512
    → find (chunk_key id place) live ≡ Some b → key_size b + 2 ≤ 509
chunk_size live id place b eight long is =
    let whole = length-append id (to_be_bytes w32 place) in
    omega (arith, key_size_is b (chunk_key id place) long (find-key (chunk_key id place) live b is) (omega arith))

-- WHAT STAYS

-- other keys are found as before
pub keeps_others : (live : Records) (block key : List ℕ) → key_of block ≡ key → KeepsOthers live key (after live block)
keeps_others live block key is k ne = find-other live block k (apart (key_of block) k (λ e. ne (sym e ∙ is)))

pub name_key_is : (dir name child : List ℕ) → length dir ≡ 8 → length name ≤ 255 → length child ≡ 8
    → key_of (record_of 2 (name_key dir name) child) ≡ name_key dir name
name_key_is dir name child eight few one =
    (parts_again 2 (name_key dir name) child (name_fits dir name child eight few one)).key_is

pub name_gone_key : (dir name : List ℕ) → length dir ≡ 8 → length name ≤ 255
    → key_of (record_of 1 (name_key dir name) []) ≡ name_key dir name
name_gone_key dir name eight few = (parts_again 1 (name_key dir name) [] (gone_fits dir name eight few)).key_is

pub node_key_is : (id : List ℕ) (n : NodeRecord) → length id ≡ 8
    → key_of (record_of 2 (node_key id) (node_value n)) ≡ node_key id
node_key_is id n eight = (parts_again 2 (node_key id) (node_value n) (node_fits id n eight)).key_is

pub node_gone_key : (id : List ℕ) → length id ≡ 8 → key_of (record_of 1 (node_key id) []) ≡ node_key id
node_gone_key id eight = (parts_again 1 (node_key id) [] (omega arith)).key_is

pub chunk_key_is : (id : List ℕ) (place : ℕ) (bytes : List ℕ) → length id ≡ 8 → length bytes ≤ 480
    → key_of (record_of 2 (chunk_key id place) (chunk_value bytes)) ≡ chunk_key id place
chunk_key_is id place bytes eight most =
    (parts_again 2 (chunk_key id place) (chunk_value bytes) (chunk_fits id place bytes eight most)).key_is

pub chunk_gone_key : (id : List ℕ) (place : ℕ) → length id ≡ 8
    → key_of (record_of 1 (chunk_key id place) []) ≡ chunk_key id place
chunk_gone_key id place eight = (parts_again 1 (chunk_key id place) [] (chunk_gone_fits id place eight)).key_is
