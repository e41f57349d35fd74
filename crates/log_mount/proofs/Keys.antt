-- The keys of live records, and where their values begin.
use Rattle.std.proofs.Common.{inl, inr, ◌≡◌, ◌∙◌, ◌⊎◌, ◌+◌, ◌≤◌, ℕ, true, false, List, ◌∷◌, length, take, drop, Option, Some, sym, ap, arith}
use Rattle.std.specs.Int.{to_be_bytes, w32}
use Rattle.std.proofs.lemmas.List.{length-append, length-take, length-drop, take_all, take_at}
use Rattle.log_segments.specs.Newest.{find, live}
use Rattle.log_segments.specs.Record.{key_of}
use Rattle.log_records.specs.Layout.{node_key, name_key, chunk_key, key_size, value_of, child_in}
use Rattle.log_tree.specs.Held.{Records}
use Rattle.log_store.proofs.StoreLaws.{key_size_is}
use Rattle.log_held.specs.Sound.{IsNodeKey, IsNameKey, IsChunkKey, ArePlaced}
use Rattle.log_index.specs.Memory.{Memory}
use Rattle.log_mount.specs.Told.{HasTold, is_node_key, is_name_key}
use Rattle.log_mount.proofs.Walks.{is_next}

-- a live record's key has at least 9 bytes, and its value has room for what is read of it
pub record Fits (b : List ℕ) : Type 0 where
  pub long : 9 ≤ key_size b
  pub node : IsNodeKey (key_of b) → key_size b + 13 ≤ 509
  pub name : IsNameKey (key_of b) → key_size b + 8 ≤ 509

node_long : (b : List ℕ) → length b ≡ 512 → IsNodeKey (key_of b) → key_size b ≡ 9
node_long b whole h =
    let eight = h.2 in
    let is = key_size_is b (node_key h.0) whole h.1 (omega arith) in
    omega (arith, is)

-- a name's key has from 9 to 264 bytes
record IsNameSize (n : ℕ) : Type 0 where
  low : 9 ≤ n
  high : n ≤ 264

name_long : (b : List ℕ) → length b ≡ 512 → IsNameKey (key_of b) → IsNameSize (key_size b)
name_long b whole h =
    let eight = h.3 in
    let few = h.4 in
    let all = length-append h.0 h.1 in
    let is = key_size_is b (name_key h.0 h.1) whole h.2 (omega arith) in
    record { low = omega (arith, is); high = omega (arith, is) }

chunk_long : (b : List ℕ) → length b ≡ 512 → IsChunkKey (key_of b) → key_size b ≡ 13
chunk_long b whole h =
    let eight = h.3 in
    let all = length-append h.0 (to_be_bytes w32 h.1) in
    let is = key_size_is b (chunk_key h.0 h.1) whole h.2 (omega arith) in
    omega (arith, is)

pub fits : (all : Records) (b : List ℕ) → ArePlaced all → length b ≡ 512 → find (key_of b) all ≡ Some b → Fits b
fits all b placed whole found = record {
  long = elim (placed.form (key_of b) b found) [
    | inl node ↦ let is = node_long b whole node in omega (arith, is)
    | inr rest ↦ elim rest [
      | inl name ↦ (name_long b whole name).low
      | inr chunk ↦ let is = chunk_long b whole chunk in omega (arith, is)
    ]
  ];
  node = λ h. let is = node_long b whole h in omega (arith, is);
  name = λ h. let is = name_long b whole h in let most = is.high in omega (arith, most);
}

-- WHAT THEY ARE ABOUT

-- the key of a record with this first byte is one of a node
is_node_key-form : (k : List ℕ) → IsNodeKey k ⊎ (IsNameKey k ⊎ IsChunkKey k) → is_node_key k ≡ true → IsNodeKey k
is_node_key-form k form holds = elim form [
  | inl node ↦ node
  | inr rest ↦ elim rest [
    | inl name ↦ absurd (let bad : false ≡ true = sym (ap is_node_key name.2) ∙ holds in cc)
    | inr chunk ↦ absurd (let bad : false ≡ true = sym (ap is_node_key chunk.2) ∙ holds in cc)
  ]
]

-- the key of a record with this first byte is one of a name
is_name_key-form : (k : List ℕ) → IsNodeKey k ⊎ (IsNameKey k ⊎ IsChunkKey k) → is_name_key k ≡ true → IsNameKey k
is_name_key-form k form holds = elim form [
  | inl node ↦ absurd (let bad : false ≡ true = sym (ap is_name_key node.1) ∙ holds in cc)
  | inr rest ↦ elim rest [
    | inl name ↦ name
    | inr chunk ↦ absurd (let bad : false ≡ true = sym (ap is_name_key chunk.2) ∙ holds in cc)
  ]
]

-- the id in a key
abbrev pub id_in : List ℕ → List ℕ
id_in b = take 8 (drop 1 (key_of b))

-- a live record of a node
pub record IsNodeHere (b : List ℕ) : Type 0 where
  pub room : key_size b + 13 ≤ 509
  pub eight : length (id_in b) ≡ 8
  pub key : key_of b ≡ node_key (id_in b)

pub node_here : (all : Records) (b : List ℕ) → ArePlaced all → length b ≡ 512 → find (key_of b) all ≡ Some b
    → is_node_key (key_of b) ≡ true → IsNodeHere b
node_here all b placed whole found holds =
    let h = is_node_key-form (key_of b) (placed.form (key_of b) b found) holds in
    let eight = h.2 in
    let id : id_in b ≡ h.0 = ap (λ k. take 8 (drop 1 k)) h.1 ∙ take_all 8 h.0 (omega arith) in
    record {
      room = (fits all b placed whole found).node h;
      eight = ap length id ∙ eight;
      key = h.1 ∙ sym (ap node_key id);
    }

-- a live record of a name
pub record IsNameHere (b : List ℕ) : Type 0 where
  pub name : List ℕ
  pub room : key_size b + 8 ≤ 509
  pub eight : length (id_in b) ≡ 8
  pub key : key_of b ≡ name_key (id_in b) name
  pub long : length (child_in (value_of b)) ≡ 8

child_long : (b : List ℕ) → length b ≡ 512 → key_size b + 8 ≤ 509 → length (child_in (value_of b)) ≡ 8
unfolding value_of
child_long b whole room =
    omega (arith, length-take 8 (drop (3 + key_size b) b), length-drop (3 + key_size b) b)

pub name_here : (all : Records) (b : List ℕ) → ArePlaced all → length b ≡ 512 → find (key_of b) all ≡ Some b
    → is_name_key (key_of b) ≡ true → IsNameHere b
name_here all b placed whole found holds =
    let h = is_name_key-form (key_of b) (placed.form (key_of b) b found) holds in
    let id : id_in b ≡ h.0 = ap (λ k. take 8 (drop 1 k)) h.2 ∙ take_at h.0 h.1 8 h.3 in
    let room = (fits all b placed whole found).name h in
    record {
      name = h.1;
      room = room;
      eight = ap length id ∙ h.3;
      key = h.2 ∙ sym (ap (λ i. name_key i h.1) id);
      long = child_long b whole room;
    }

-- THE NEXT LIVE RECORD

module _ (among : Records → Records → List ℕ → Option (List ℕ)) (records : Records) (n : ℕ) (b : List ℕ) (x : Memory)
    (placed : ArePlaced (live records)) (h : HasTold among records n x) (whole : length b ≡ 512)
    (next : live (drop n records) ≡ b ∷ live (drop (n + 1) records)) where
  found : find (key_of b) (live records) ≡ Some b
  found = (is_next records h.told n b h.rest next).here

  pub next_fits : Fits b
  next_fits = fits (live records) b placed whole found

  pub next_node : is_node_key (key_of b) ≡ true → IsNodeHere b
  next_node = node_here (live records) b placed whole found

  pub next_name : is_name_key (key_of b) ≡ true → IsNameHere b
  next_name = name_here (live records) b placed whole found
