-- The names of a directory, listed record by record.
use Rattle.std.proofs.Common.{inl, inr, ◌≡◌, ◌∙◌, ◌-◌, ◌+◌, ◌≤◌, ◌<◌, ℕ, true, List, [], ◌∷◌, length, take, drop, get_or, map, slice_get, Option, Some, None, refl, sym, ap, arith}
use Rattle.std.specs.Prelude.{option_map}
use Rattle.std.specs.FinMap.{get}
use Rattle.std.proofs.lemmas.Bool.{cases_eq, cases_lt}
use Rattle.std.proofs.lemmas.List.{drop_at, drop-drop, drop-take}
use Rattle.std.proofs.lemmas.Option.{get_or_from_slice_get, slice_get-map}
use Rattle.server_trait.specs.Tree.{Names, names_at}
use Rattle.server_trait.specs.Calls.{Lists}
use Rattle.server_trait.specs.declared.server.Listed.{Listed}
use Rattle.server_trait.proofs.TreeLaws.{some_same}
use Rattle.log_segments.specs.Newest.{ArePlacesUnder, find, live, place_of}
use Rattle.log_segments.specs.Record.{key_of}
use Rattle.log_segments.proofs.Finds.{places_tell}
use Rattle.log_records.specs.Layout.{name_key, key_size, value_of, child_in}
use Rattle.log_tree.specs.Held.{Records, handle_of, names_of, tree_of}
use Rattle.log_tree.proofs.Views.{find-key}
use Rattle.log_store.proofs.StoreLaws.{name_at}
use Rattle.log_changes.proofs.ButLaws.{names_are}
use Rattle.log_changes.proofs.DirLaws.{dir_of}
use Rattle.log_mount.specs.Told.{is_name_key}
use Rattle.log_calls.specs.Rows.{IsNamePlace, row_from}

-- ROWS

abbrev pub row : List ℕ → List ℕ → Listed
row name h = record { name = name; handle = h }

-- the handle to which a name's record leads
abbrev pub leads_to : List ℕ → List ℕ
leads_to r = handle_of (child_in (value_of r))

-- the name in a record
pub name_in : (b : List ℕ) (n : ℕ) → 9 ≤ key_size b → n ≡ key_size b - 9 → take n (drop 12 b) ≡ drop 9 (key_of b)
unfolding key_of
name_in b n long is =
    let more : key_size b ≡ 9 + (key_size b - 9) = omega arith in
    sym (ap (λ k. drop 9 (take k (drop 3 b))) more ∙ (drop-take 9 (key_size b - 9) (drop 3 b)
    ∙ (ap (take (key_size b - 9)) (drop-drop 9 3 b) ∙ ap (λ k. take k (drop 12 b)) (sym is))))

-- the names of a directory of the tree
pub names_there : (live : Records) (dir : List ℕ) (m : Names) → length dir ≡ 8
    → names_at (tree_of live) (handle_of dir) ≡ Some m → m ≡ names_of live dir
names_there live dir m eight is =
    let d = dir_of (tree_of live) (handle_of dir) m is in names_are live dir d.node eight d.is_node m d.has

-- PLACES

-- the record of a name, at its place
record IsRecord (records : Records) (dir name : List ℕ) (place : ℕ) : Type 0 where
  found : find (name_key dir name) (live records) ≡ Some (get_or records place [])
  key : key_of (get_or records place []) ≡ name_key dir name
  below : place < length records

recorded : (records : Records) (dir name : List ℕ) (place : ℕ) → place_of records (name_key dir name) ≡ Some place
    → IsRecord records dir name place
recorded records dir name place at =
    let tells = places_tell records (name_key dir name) in
    let found = tells.found ∙ ap (option_map (λ p. get_or records p [])) at in
    record {
      found = found;
      key = find-key (name_key dir name) (live records) (get_or records place []) found;
      below = tells.below place at;
    }

pub place_within : (records : Records) (place : ℕ) → IsNamePlace records place → place < length records
place_within records place at = (recorded records at.0 at.1 place at.2).below

-- the record that is read at the place of a name
pub record IsNameRecord (records : Records) (place : ℕ) (b : List ℕ) : Type 0 where
  pub is : get_or records place [] ≡ b
  pub found : find (key_of b) (live records) ≡ Some b
  pub of_name : is_name_key (key_of b) ≡ true

pub read_at : (records : Records) (place : ℕ) (b : List ℕ) → IsNamePlace records place
    → slice_get records place ≡ Some b → IsNameRecord records place b
read_at records place b at read =
    let r = recorded records at.0 at.1 place at.2 in
    let is : get_or records place [] ≡ b = get_or_from_slice_get records place b [] read in
    let key : key_of b ≡ name_key at.0 at.1 = ap key_of (sym is) ∙ r.key in
    record {
      is = is;
      found = ap (λ k. find k (live records)) key ∙ (r.found ∙ ap Some is);
      of_name = ap is_name_key key;
    }

-- ALL NAMES OF A DIRECTORY

mapped : {X Y : Type 0} (f : X → Y) (o : Option X) (y : Y) → option_map f o ≡ Some y
    → (x : X) × (o ≡ Some x) × (f x ≡ y)
mapped f None y e = absurd (let no : None ≡ Some y = e in cc)
mapped f (Some x) y e = (x, refl, some_same refl e)

-- the name and the place of a row
record IsListed (records : Records) (dir places : List ℕ) (k : ℕ) (r : Listed) : Type 0 where
  place : ℕ
  there : slice_get places k ≡ Some place
  name : List ℕ
  noted : place_of records (name_key dir name) ≡ Some place
  is : row name (leads_to (get_or records place [])) ≡ r

module _ (records : Records) (dir places : List ℕ) (eight : length dir ≡ 8)
    (are : ArePlacesUnder records (2 ∷ dir) places) where
  row_is : (name : List ℕ) (place : ℕ) → place_of records (name_key dir name) ≡ Some place
      → row name (leads_to (get_or records place [])) ≡ row_from records place
  row_is name place noted =
      let b = get_or records place [] in
      let named : drop 9 (key_of b) ≡ name = ap (drop 9) (recorded records dir name place noted).key
      ∙ drop_at dir name 8 eight in
      ap (λ n. row n (leads_to b)) (sym named)

  listed : (k : ℕ) (r : Listed) → slice_get (map (row_from records) places) k ≡ Some r
      → IsListed records dir places k r
  listed k r at =
      let p = mapped (row_from records) (slice_get places k) r (sym (slice_get-map (row_from records) places k) ∙ at) in
      let name = are.sound k p.0 p.1 in
      record { place = p.0; there = p.1; name = name.0; noted = name.1; is = row_is name.0 p.0 name.1 ∙ p.2 }

  -- two rows of one place are one row
  same_row : (j k p q : ℕ) → slice_get places j ≡ Some p → slice_get places k ≡ Some q → p ≡ q → j ≡ k
  same_row j k p q at_j at_k same = elim (cases_eq j k) [
    | inl e ↦ e
    | inr ne ↦ elim (cases_lt j k) [
      | inl less ↦ let below = are.falling j k p q at_j at_k less in absurd (omega (arith, below, same))
      | inr least ↦
          let more : k < j = omega (arith, ne, least) in
          let below = are.falling k j q p at_k at_j more in
          absurd (omega (arith, below, same))
    ]
  ]

  pub rows_are : Lists (map (row_from records) places) (names_of (live records) dir)
  rows_are =
      let names = names_of (live records) dir in
      record {
        sound = λ k r at.
            let l = listed k r at in
            let found = (recorded records dir l.name l.place l.noted).found in
            ap (get names) (ap (λ (x : Listed). x.name) (sym l.is))
            ∙ (name_at (live records) dir l.name eight ∙ (ap (option_map leads_to) found
            ∙ ap Some (ap (λ (x : Listed). x.handle) l.is)));
        complete = λ name h at.
            let key = name_key dir name in
            let b = mapped leads_to (find key (live records)) h (sym (name_at (live records) dir name eight) ∙ at) in
            let p = mapped (λ p. get_or records p []) (place_of records key) b.0
            (sym (places_tell records key).found ∙ b.1) in
            let k = are.complete name p.0 p.1 in (
              k.0,
              slice_get-map (row_from records) places k.0 ∙ (ap (option_map (row_from records)) k.1
                  ∙ ap Some (sym (row_is name p.0 p.1) ∙ ap (row name) (ap leads_to p.2 ∙ b.2))),
            );
        once = λ j k a b at_j at_k same.
            let l = listed j a at_j in
            let m = listed k b at_k in
            let name : l.name ≡ m.name = ap (λ (x : Listed). x.name) l.is
            ∙ (same ∙ ap (λ (x : Listed). x.name) (sym m.is)) in
            same_row j k l.place m.place l.there m.there
            (some_same l.noted (ap (λ n. place_of records (name_key dir n)) name ∙ m.noted));
      }
