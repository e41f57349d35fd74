-- The nodes that a path server keeps.
use Rattle.std.specs.Prelude.{ℕ, ◌+◌, ◌-◌, Bool, true, false}
use Rattle.nfs2_types.specs.declared.fattr.Kind.{Kind}
use Rattle.nfs2_types.specs.declared.fattr.Kind.TheVariants.{File, Dir, Link}
use Rattle.server_trait.specs.Tree.{one_if}
use Rattle.path_server.specs.declared.node.PathNode.{PathNode}

-- it is a directory
abbrev pub is_dir : Kind → Bool
is_dir File = false
is_dir Dir = true
is_dir Link = false

-- a node as it is made, to which so many names lead
abbrev pub made_node : Kind → ℕ → ℕ → PathNode
made_node kind number links =
    record { number = number; kind = kind; mode = 0; uid = 0; gid = 0; names = 0; subdirs = 0; links = links }

-- a directory with one name more, which leads to a node of this kind
abbrev pub one_more : Kind → PathNode → PathNode
one_more kind p = record p { names = p.names + 1; subdirs = p.subdirs + one_if (is_dir kind) }

-- a directory with one name less, which led to a node of this kind
abbrev pub one_less : Kind → PathNode → PathNode
one_less kind p = record p { names = p.names - 1; subdirs = p.subdirs - one_if (is_dir kind) }

-- a node with one name more that leads to it, and with one less
abbrev pub one_link_more : PathNode → PathNode
one_link_more p = record p { links = p.links + 1 }

abbrev pub one_link_less : PathNode → PathNode
one_link_less p = record p { links = p.links - 1 }

-- a node with other attributes
abbrev pub set_node : ℕ → ℕ → ℕ → PathNode → PathNode
set_node mode uid gid p = record p { mode = mode; uid = uid; gid = gid }
