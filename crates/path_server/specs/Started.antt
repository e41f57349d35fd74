-- What a path server stands for, after its starts.
use Rattle.server_trait.specs.Tree.{Server}
use Rattle.path_server.specs.Shown.{shown_at, shown_server}
use Rattle.path_server.specs.State.{state_of}
use Rattle.path_server.specs.declared.server.PathServer.{PathServer}

-- the server that its tree stands for, under the handles that are shown
abbrev pub shown_by : PathServer → Server
shown_by s = shown_server (shown_at s.starts) (state_of s.tree)
