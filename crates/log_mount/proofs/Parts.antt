-- Trees of records that are found in part.
use Rattle.std.proofs.Common.{◌≡◌, ◌∙◌, ℕ, Bool, true, false, cond, List, [], ◌∷◌, length, take, drop, Option, Some, None, refl, sym, ap, subst, bytes_eq, arith}
use Rattle.std.specs.Prelude.{option_map, option_and_then}
use Rattle.std.specs.Int.{from_be_bytes, w64}
use Rattle.std.proofs.lemmas.List.{take_all}
use Rattle.std.proofs.lemmas.Slice.Eq.{bytes_eq-Decides}
use Rattle.nfs2_types.specs.declared.fattr.Kind.{Kind}
use Rattle.nfs2_types.specs.declared.fattr.Kind.TheVariants.{File, Dir, Link}
use Rattle.server_trait.specs.Tree.{ByBytes, Tree, Node, Names, BytesOf, TextOf, NamesOf, node_at, names_in, kind_of}
use Rattle.server_trait.proofs.TreeLaws.{same_answers, some_none}
use Rattle.log_segments.specs.Newest.{find}
use Rattle.log_segments.specs.Record.{key_of}
use Rattle.log_records.specs.Layout.{node_key, name_key, chunk_key, value_of, node_in, child_in}
use Rattle.log_tree.specs.Held.{Records, handle_of, root_id, names_of, content_of, id_of, node_of, tree_of}
use Rattle.log_tree.proofs.Views.{find-key, node_back}
use Rattle.log_tree.proofs.TreeLaws.{bytes_of-same, node_at-tree, back_is}
use Rattle.log_store.proofs.StoreLaws.{name_at}
use Rattle.log_held.proofs.Nodes.{node_found}
use Rattle.log_index.specs.Memory.{IsIndexed, none_kept}
use Rattle.log_changes.proofs.WipeLaws.{nothing_indexed}
use Rattle.log_mount.specs.Told.{is_node_key, is_name_key, among_nodes, IsTold}

-- trees of records with the same nodes are one
pub trees_same : (part all : Records) → ((q : List ℕ) → node_at (tree_of part) q ≡ node_at (tree_of all) q)
    → tree_of part ≡ tree_of all
unfolding tree_of
trees_same part all same =
    ap (λ (m : ByBytes Node). let t : Tree = record { root = handle_of root_id; nodes = m } in t)
    (same_answers (tree_of part).nodes (tree_of all).nodes same)

-- WHAT A NODE CONTAINS

pub kind_of-content : (all : Records) (id : List ℕ) (kind : Kind) → kind_of (content_of all id kind) ≡ kind
kind_of-content all id File = refl
kind_of-content all id Dir = refl
kind_of-content all id Link = refl

-- what has names is a directory, and these are its names
pub record AreNames (all : Records) (id : List ℕ) (kind : Kind) (m : Names) : Type 0 where
  pub kind_is : kind ≡ Dir
  pub names_are : m ≡ names_of all id

pub content_names : (all : Records) (id : List ℕ) (kind : Kind) (m : Names) → names_in (content_of all id kind) ≡ Some m
    → AreNames all id kind m
content_names all id File m is = absurd (let bad : None ≡ Some m = is in cc)
content_names all id Dir m is = record { kind_is = refl; names_are = let e : Some (names_of all id) ≡ Some m = is in cc }
content_names all id Link m is = absurd (let bad : None ≡ Some m = is in cc)

-- the id of what stands under a node's key
pub id_under : (all : Records) (id r : List ℕ) → length id ≡ 8 → find (node_key id) all ≡ Some r → id_of r ≡ id
id_under all id r eight is = ap (λ a. take 8 (drop 1 a)) (find-key (node_key id) all r is) ∙ take_all 8 id (omega arith)

-- ALL RECORDS

module _ (part all : Records) (same : (k : List ℕ) → find k part ≡ find k all) where
  names_same : (dir : List ℕ) → length dir ≡ 8 → names_of part dir ≡ names_of all dir
  names_same dir eight = same_answers (names_of part dir) (names_of all dir) (λ q. name_at part dir q eight
      ∙ (ap (option_map (λ r. handle_of (child_in (value_of r)))) (same (name_key dir q))
      ∙ sym (name_at all dir q eight)))

  content_same : (id : List ℕ) (kind : Kind) → length id ≡ 8 → content_of part id kind ≡ content_of all id kind
  content_same id File eight = ap BytesOf (bytes_of-same all part id (λ p. same (chunk_key id p)))
  content_same id Dir eight = ap NamesOf (names_same id eight)
  content_same id Link eight = ap TextOf (bytes_of-same all part id (λ p. same (chunk_key id p)))

  node_same : (r : List ℕ) → length (id_of r) ≡ 8 → node_of part r ≡ node_of all r
  node_same r eight =
      let n = node_in (value_of r) in
      ap (λ c. let m : Node = record {
        number = from_be_bytes w64 (id_of r);
        mode = n.mode;
        uid = n.uid;
        gid = n.gid;
        content = c;
      } in m) (content_same (id_of r) n.kind eight)

  -- what is found is what the tree is made of
  pub tree_same : tree_of part ≡ tree_of all
  tree_same = trees_same part all (λ q. node_at-tree part q
      ∙ (elim (node_back q) as (λ o. node_back q ≡ o
      → option_and_then (λ k. option_map (node_of part) (find k part)) o
      ≡ option_and_then (λ k. option_map (node_of all) (find k all)) o) [
        | None ↦ (λ e. refl)
        | Some k ↦ (λ e.
            let back = back_is q k e in
            let eight : length (take 8 q) ≡ 8 = back.eight in
            ap (option_map (node_of part)) (same k)
            ∙ (elim (find k all) as (λ o. find k all ≡ o → option_map (node_of part) o ≡ option_map (node_of all) o) [
              | None ↦ (λ w. refl)
              | Some r ↦ (λ w.
                  let id : id_of r ≡ take 8 q =
                  ap (λ a. take 8 (drop 1 a)) (find-key k all r w ∙ back.key) ∙ take_all 8 (take 8 q) (omega arith) in
                  ap Some (node_same r (ap length id ∙ eight)))
            ] refl))
      ] refl ∙ sym (node_at-tree all q)))

-- CHUNKS ALONE

-- the records that are of neither nodes nor names
abbrev pub plain : Records → Records
plain [] = []
plain (r ∷ rs) =
    cond (is_name_key (key_of r)) (plain rs) (cond (is_node_key (key_of r)) (plain rs) (r ∷ plain rs))

plain_here : (r : List ℕ) (rs : Records) → find (key_of r) (plain rs) ≡ among_nodes rs [] (key_of r)
    → find (key_of r) (plain (r ∷ rs)) ≡ among_nodes (r ∷ rs) [] (key_of r)
plain_here r rs rest =
    let k = key_of r in
    let P = plain rs in
    let all = find k (r ∷ rs) in
    elim (is_name_key k) as (λ a. find k P ≡ cond a None (cond (is_node_key k) None (find k rs))
    → find k (cond a P (cond (is_node_key k) P (r ∷ P))) ≡ cond a None (cond (is_node_key k) None all)) [
      | true ↦ (λ e. e)
      | false ↦ (λ e. elim (is_node_key k) as (λ b. find k P ≡ cond b None (find k rs)
          → find k (cond b P (r ∷ P)) ≡ cond b None all) [
            | true ↦ (λ w. w)
            | false ↦ (λ w. elim (bytes_eq k k) as (λ t. bytes_eq k k ≡ t → cond t (Some r) (find k P)
                ≡ cond t (Some r) (find k rs)) [ true ↦ (λ _. refl) | false ↦ (λ _. w) ] refl)
          ] e)
    ] rest

plain_other : (r k : List ℕ) (rs : Records) → bytes_eq (key_of r) k ≡ false → find k (plain rs) ≡ among_nodes rs [] k
    → find k (plain (r ∷ rs)) ≡ among_nodes (r ∷ rs) [] k
plain_other r k rs other rest =
    let P = plain rs in
    let kept : find k (r ∷ P) ≡ find k P = ap (λ t. cond t (Some r) (find k P)) other in
    let all : find k rs ≡ find k (r ∷ rs) = sym (ap (λ t. cond t (Some r) (find k rs)) other) in
    let now : find k (plain (r ∷ rs)) ≡ find k P =
    elim (is_name_key (key_of r)) as (λ a. find k (cond a P (cond (is_node_key (key_of r)) P (r ∷ P))) ≡ find k P) [
      | true ↦ refl
      | false ↦ elim (is_node_key (key_of r)) as (λ b. find k (cond b P (r ∷ P)) ≡ find k P)
          [ true ↦ refl | false ↦ kept ]
    ] in
    now ∙ (rest ∙ ap (λ o. cond (is_name_key k) None (cond (is_node_key k) None o)) all)

none_either : (a b : Bool) → ◌≡◌ {A = Option (List ℕ)} None (cond a None (cond b None None))
none_either true b = refl
none_either false true = refl
none_either false false = refl

plain_found : (rs : Records) (k : List ℕ) → find k (plain rs) ≡ among_nodes rs [] k
plain_found [] k = none_either (is_name_key k) (is_node_key k)
plain_found (r ∷ rs) k = elim (bytes_eq (key_of r) k) as (λ b. bytes_eq (key_of r) k ≡ b
    → find k (plain (r ∷ rs)) ≡ among_nodes (r ∷ rs) [] k) [
      | true ↦ (λ e. subst (λ q. find q (plain (r ∷ rs)) ≡ among_nodes (r ∷ rs) [] q)
          ((bytes_eq-Decides (key_of r) k).0 e) (plain_here r rs (plain_found rs (key_of r))))
      | false ↦ (λ e. plain_other r k rs e (plain_found rs k))
    ] refl

-- no node is there yet
pub none_told : (all : Records) → IsTold (among_nodes all []) none_kept
none_told all =
    let part = plain all in
    let none : (q : List ℕ) → node_at (tree_of part) q ≡ None =
    λ q. elim (node_at (tree_of part) q) as (λ o. node_at (tree_of part) q ≡ o → o ≡ None) [
      | None ↦ (λ e. refl)
      | Some n ↦ (λ e.
          let f = node_found part q n e in
          absurd (some_none f.found (plain_found all (node_key (take 8 q)))))
    ] refl in
    let bare : (q : List ℕ) → node_at (tree_of []) q ≡ None =
    λ q. elim (node_at (tree_of []) q) as (λ o. node_at (tree_of []) q ≡ o → o ≡ None) [
      | None ↦ (λ e. refl)
      | Some n ↦ (λ e. let f = node_found [] q n e in absurd (some_none f.found refl))
    ] refl in
    record {
      part = part;
      parts = plain_found all;
      indexed = subst (λ t. IsIndexed t none_kept) (sym (trees_same part [] (λ q. none q ∙ sym (bare q))))
          nothing_indexed;
    }
