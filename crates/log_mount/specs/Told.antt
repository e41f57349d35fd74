-- How far the memory has come while the live records are read. It is the memory of the tree that some of them make:
-- first the chunks alone, then these and the nodes, and then all.
use Rattle.std.specs.Prelude.{◌≡◌, ◌==◌, ◌++◌, ℕ, List, Bool, Option, None, length, get_or, drop, if◌then◌else◌}
use Rattle.nfs2_types.specs.declared.fattr.Kind.{Kind}
use Rattle.nfs2_types.specs.declared.fattr.Kind.TheVariants.{File, Dir, Link}
use Rattle.log_segments.specs.Newest.{find, live}
use Rattle.log_tree.specs.Held.{Records, bytes_of, tree_of}
use Rattle.log_index.specs.Memory.{Memory, IsIndexed}

-- a key is about a node itself, or about a name
abbrev pub is_node_key : List ℕ → Bool
is_node_key key = get_or key 0 0 == 1

abbrev pub is_name_key : List ℕ → Bool
is_name_key key = get_or key 0 0 == 2

-- what is found while nodes are told: no name, of the nodes those that are told, and all chunks
abbrev pub among_nodes : Records → Records → List ℕ → Option (List ℕ)
among_nodes all told key =
    if is_name_key key then None else (if is_node_key key then find key told else find key all)

-- what is found while names are told: of the names those that are told, and all nodes and chunks
abbrev pub among_names : Records → Records → List ℕ → Option (List ℕ)
among_names all told key = if is_name_key key then find key told else find key all

-- the memory is that of the tree of the records that are found so
pub record IsTold (among : List ℕ → Option (List ℕ)) (x : Memory) : Type 0 where
  pub part : Records
  pub parts : (key : List ℕ) → find key part ≡ among key
  pub indexed : IsIndexed (tree_of part) x

-- the live ones of the records before a place are told
pub record HasTold (among : Records → Records → List ℕ → Option (List ℕ)) (records : Records) (place : ℕ) (x : Memory)
    : Type 0 where
  pub told : Records
  pub rest : told ++ live (drop place records) ≡ live records
  pub is : IsTold (among (live records) told) x

-- the bytes of a node of this kind; a directory has none
abbrev pub size_in : Records → List ℕ → Kind → ℕ
size_in all id File = length (bytes_of all id)
size_in all id Dir = 0
size_in all id Link = length (bytes_of all id)
