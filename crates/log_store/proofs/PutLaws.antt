-- How many live records there are once one more is put, and what is read of it.
use Rattle.std.proofs.Common.{◌≡◌, ◌∙◌, ◌≤◌, ℕ, suc, List, [], ◌∷◌, Some, None, IsSome, true, false, cond, length, ap, bytes_eq, arith}
use Rattle.std.specs.Prelude.{option_map}
use Rattle.std.proofs.lemmas.List.{length-append}
use Rattle.log_segments.specs.Newest.{standing, without, after, find}
use Rattle.log_segments.specs.Record.{is_gone, key_of}
use Rattle.log_records.specs.declared.node.NodeRecord.{NodeRecord}
use Rattle.log_records.specs.Layout.{node_key, name_key, chunk_key, value_of, node_in, child_in, chunk_in}
use Rattle.log_records.specs.Laws.{NodeFits}
use Rattle.log_records.specs.Spelling.{record_of, node_value, chunk_value}
use Rattle.log_records.proofs.Again.{parts_again, node_again, child_again, chunk_again}
use Rattle.log_tree.specs.Held.{Records}
use Rattle.log_store.specs.Store.{Puts, Drops}
use Rattle.log_store.proofs.StoreLaws.{found_now, name_fits, gone_fits, node_fits, chunk_fits, chunk_gone_fits}

-- HOW MANY

length-without : (key : List ℕ) (live : Records) → length (without key live) ≤ length live
length-without key [] = omega arith
length-without key (r ∷ live) =
    let rest = length-without key live in
    elim (bytes_eq (key_of r) key) as (λ b. length (cond b (without key live) (r ∷ without key live))
    ≤ suc (length live)) [ true ↦ omega arith | false ↦ omega arith ]

-- a key that is found has a record to lose
length-without_found : (key : List ℕ) (live : Records) → IsSome (find key live)
    → suc (length (without key live)) ≤ length live
length-without_found key [] some = cc
length-without_found key (r ∷ live) some =
    let most = length-without key live in
    elim (bytes_eq (key_of r) key) as (λ b. IsSome (cond b (Some r) (find key live))
    → suc (length (cond b (without key live) (r ∷ without key live))) ≤ suc (length live)) [
      | true ↦ (λ w. omega arith)
      | false ↦ (λ w. let rest = length-without_found key live w in omega arith)
    ] some

length-standing : (r : List ℕ) → length (standing r) ≤ 1
length-standing r = elim (is_gone r) as (λ g. length (cond g [] (r ∷ [])) ≤ 1) [ true ↦ omega arith | false ↦ omega arith ]

-- A RECORD THAT IS PUT

module _ {X : Type 0} (read : List ℕ → X) (live : Records) (block key : List ℕ) (value : X) (is : key_of block ≡ key)
    (stands : is_gone block ≡ false) (says : read (value_of block) ≡ value) where
  pub puts : Puts read live key value (after live block)
  puts =
      let whole = length-append (without (key_of block) live) (standing block) in
      let one = length-standing block in
      let most = length-without (key_of block) live in
      record {
        here = ap (option_map (λ r. read (value_of r)))
            (found_now live block key is ∙ ap (λ g. cond g None (Some block)) stands) ∙ ap Some says;
        more = omega arith;
        over = λ w.
            let some : IsSome (find (key_of block) live) = rw is w in
            let fewer = length-without_found (key_of block) live some in
            omega arith;
      }

pub drops : (live : Records) (block key : List ℕ) → key_of block ≡ key → is_gone block ≡ true
    → Drops live key (after live block)
drops live block key is gone =
    let whole = length-append (without (key_of block) live) (standing block) in
    let none : length (standing block) ≡ 0 = ap (λ g. length (cond g [] (block ∷ []))) gone in
    let most = length-without (key_of block) live in
    record {
      none = found_now live block key is ∙ ap (λ g. cond g None (Some block)) gone;
      most = omega arith;
      less = λ w.
          let some : IsSome (find (key_of block) live) = rw is w in
          let fewer = length-without_found (key_of block) live some in
          omega arith;
    }

-- THE RECORDS OF A STORE

pub puts_name : (live : Records) (dir name child : List ℕ) → length dir ≡ 8 → length name ≤ 255 → length child ≡ 8
    → Puts child_in live (name_key dir name) child (after live (record_of 2 (name_key dir name) child))
puts_name live dir name child eight few one =
    let p = parts_again 2 (name_key dir name) child (name_fits dir name child eight few one) in
    puts child_in live _ (name_key dir name) child p.key_is p.gone_is (ap child_in p.value_is ∙ child_again child _ one)

pub drops_name : (live : Records) (dir name : List ℕ) → length dir ≡ 8 → length name ≤ 255
    → Drops live (name_key dir name) (after live (record_of 1 (name_key dir name) []))
drops_name live dir name eight few =
    let p = parts_again 1 (name_key dir name) [] (gone_fits dir name eight few) in
    drops live _ (name_key dir name) p.key_is p.gone_is

pub puts_node : (live : Records) (id : List ℕ) (n : NodeRecord) → length id ≡ 8 → NodeFits n
    → Puts node_in live (node_key id) n (after live (record_of 2 (node_key id) (node_value n)))
puts_node live id n eight fits =
    let p = parts_again 2 (node_key id) (node_value n) (node_fits id n eight) in
    puts node_in live _ (node_key id) n p.key_is p.gone_is (ap node_in p.value_is ∙ node_again n _ fits)

pub drops_node : (live : Records) (id : List ℕ) → length id ≡ 8
    → Drops live (node_key id) (after live (record_of 1 (node_key id) []))
drops_node live id eight =
    let p = parts_again 1 (node_key id) [] (omega arith) in
    drops live _ (node_key id) p.key_is p.gone_is

pub puts_chunk : (live : Records) (id : List ℕ) (place : ℕ) (bytes : List ℕ) → length id ≡ 8 → length bytes ≤ 480
    → Puts chunk_in live (chunk_key id place) bytes (after live (record_of 2 (chunk_key id place) (chunk_value bytes)))
puts_chunk live id place bytes eight most =
    let p = parts_again 2 (chunk_key id place) (chunk_value bytes) (chunk_fits id place bytes eight most) in
    puts chunk_in live _ (chunk_key id place) bytes p.key_is p.gone_is (ap chunk_in p.value_is ∙ chunk_again bytes _)

pub drops_chunk : (live : Records) (id : List ℕ) (place : ℕ) → length id ≡ 8
    → Drops live (chunk_key id place) (after live (record_of 1 (chunk_key id place) []))
drops_chunk live id place eight =
    let p = parts_again 1 (chunk_key id place) [] (chunk_gone_fits id place eight) in
    drops live _ (chunk_key id place) p.key_is p.gone_is
