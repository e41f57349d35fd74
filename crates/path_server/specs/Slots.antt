-- What the slots of nodes hold, read as two maps.
use Rattle.std.specs.Prelude.{◌≡◌, ◌≢◌, ℕ, List, None, IsSome}
use Rattle.std.specs.FinMap.{get, insert}
use Rattle.server_trait.specs.Tree.{ByBytes}
use Rattle.path_store.specs.Tables.{place_of, table}
use Rattle.path_server.specs.Bytes.{Contents}
use Rattle.path_server.specs.Serials.{serial_bytes}
use Rattle.path_server.specs.declared.node.PathNode.{PathNode}
use Rattle.path_server.specs.declared.nodes.NodeSlot.{NodeSlot}
use Rattle.path_server.specs.declared.nodes.NodeSlab.{NodeSlab}

-- the slots under their handles
abbrev pub slots_in : NodeSlab → ByBytes NodeSlot
slots_in s = table (λ (x : NodeSlot). x.handle) (λ (x : NodeSlot). x) s.slots.slots

-- the nodes under their handles
abbrev pub nodes_in : NodeSlab → ByBytes PathNode
nodes_in s = table (λ (x : NodeSlot). x.handle) (λ (x : NodeSlot). x.node) s.slots.slots

-- the bytes of files and the texts of links under their handles
abbrev pub bytes_in : NodeSlab → Contents
bytes_in s = table (λ (x : NodeSlot). x.handle) (λ (x : NodeSlot). x.bytes.items) s.slots.slots

-- a node has come under a new handle, whose place no other has
pub record Comes (old : NodeSlab) (serial : ℕ) (node : PathNode) (text h : List ℕ) (new : NodeSlab) : Type 0 where
  pub handle_is : h ≡ serial_bytes serial (place_of h)
  pub absent : get (nodes_in old) h ≡ None
  pub apart : (q : List ℕ) → IsSome (get (nodes_in old) q) → place_of q ≢ place_of h
  pub nodes : nodes_in new ≡ insert (nodes_in old) h node
  pub bytes : bytes_in new ≡ insert (bytes_in old) h text
