-- The number and the text of a status.
use Rattle.std.specs.Prelude.{ℕ, List, [], ◌++◌, codes}
use Rattle.std.specs.Fmt.{decimal}
use Rattle.basefs.specs.declared.status.Status.{Status}
use Rattle.basefs.specs.declared.status.Status.TheVariants.{Done, Usage, BadLog, ReadFault, WriteFault, LinkFault, NoMemory, TooFewServers, ServerTooSmall, NotBuilt}

abbrev pub exit_number : Status → ℕ
exit_number Done = 0
exit_number Usage = 1
exit_number (BadLog at) = 2
exit_number ReadFault = 3
exit_number WriteFault = 4
exit_number LinkFault = 5
exit_number NoMemory = 6
exit_number (TooFewServers have need) = 7
exit_number (ServerTooSmall server) = 8
exit_number (NotBuilt at) = 9

abbrev pub status_text : Status → List ℕ
status_text Done = []
status_text Usage = codes "usage: basefs replay"
status_text (BadLog at) = codes "bad log at " ++ decimal at
status_text ReadFault = codes "read fault"
status_text WriteFault = codes "write fault"
status_text LinkFault = codes "link fault"
status_text NoMemory = codes "no memory"
status_text (TooFewServers have need) = codes "too few servers: have "
    ++ (decimal have ++ (codes ", need " ++ decimal need))
status_text (ServerTooSmall server) = codes "server " ++ (decimal server ++ codes " too small")
status_text (NotBuilt at) = codes "not built at " ++ decimal at
