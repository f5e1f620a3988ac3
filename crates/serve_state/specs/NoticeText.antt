-- How each notice is told, as the text of a line of the log.
use Rattle.std.specs.Prelude.{ℕ, ◌==◌, if◌then◌else◌, List, [], ◌∷◌, ◌++◌, codes}
use Rattle.std.specs.Fmt.{decimal}
use Rattle.std.specs.Net.Text.{socket_text}
use Rattle.std.specs.declared.net.socket_addr.SocketAddr.{SocketAddr}
use Rattle.access_file.specs.Fault as access
use Rattle.pvlist.specs.Cause.{cause_text}
use Rattle.serve_state.specs.LimitText.{bound_text, said}
use Rattle.serve_state.specs.declared.limits.Bound.{Bound}
use Rattle.serve_state.specs.declared.cut.Cut.{Cut}
use Rattle.serve_state.specs.declared.cut.Cut.TheVariants as cut
use Rattle.serve_state.specs.declared.notice.FileCause.{FileCause}
use Rattle.serve_state.specs.declared.notice.FileCause.TheVariants as file
use Rattle.serve_state.specs.declared.notice.Notice.{Notice}
use Rattle.serve_state.specs.declared.notice.Notice.TheVariants as notice

-- why a connection is cut off
abbrev pub cut_text : Cut → List ℕ
cut_text cut.Misaligned = codes "it sent bytes that are no message (a length that is no multiple of 8)"
cut_text cut.TooLarge = codes "it sent bytes that are no message (a length over 16777216)"
cut_text cut.TooOld = codes "its protocol version is below 9"
cut_text (cut.TooSlow messages) = decimal messages ++ codes " messages waited for it"
cut_text (cut.TooMuch mib) = codes "more than " ++ decimal mib ++ codes " MiB waited for it"
cut_text (cut.TooMuchInAll bytes mib) =
    said (decimal bytes ∷ codes " bytes waited for it, and more than " ∷ decimal mib ∷ codes " MiB for all clients" ∷ [])
cut_text (cut.Unanswering seconds) = codes "it said nothing for " ++ decimal seconds ++ codes " s, and nothing when it was asked"
cut_text (cut.Silent seconds) = codes "nothing came from it or went to it for " ++ decimal seconds ++ codes " s"
cut_text cut.Replaced = codes "it said nothing when it was asked, and is connected to again"
cut_text (cut.Idle seconds) = codes "nobody wanted a variable of it for " ++ decimal seconds ++ codes " s"
cut_text cut.NoAnswers = codes "it sent what no name server sends"
cut_text cut.OutOfMemory = codes "out of memory"

-- why a rule file isn't taken, said of the file
abbrev pub file_cause_text : FileCause → List ℕ
file_cause_text file.NoFile = codes "is no regular file"
file_cause_text file.TooLarge = codes "has more than 16777216 bytes"
file_cause_text file.Empty = codes "is empty"
file_cause_text file.Unsteady = codes "changes while it is read"

-- something is told of a connection, by its number and its address
abbrev pub of_peer : List ℕ → ℕ → SocketAddr → List ℕ → List ℕ
of_peer kind number peer what = said (kind ∷ decimal number ∷ codes " (" ∷ socket_text peer ∷ (codes ")" ++ what) ∷ [])

abbrev pub of_server : ℕ → SocketAddr → List ℕ → List ℕ
of_server number peer what = of_peer (codes "upstream ") number peer what

abbrev pub of_name_server : ℕ → SocketAddr → List ℕ → List ℕ
of_name_server number peer what = of_peer (codes "name server ") number peer what

abbrev pub of_client : ℕ → SocketAddr → List ℕ → List ℕ
of_client number peer what = of_peer (codes "client ") number peer what

-- what to write so that a server is connected to and asked again
abbrev pub again_text : ℕ → List ℕ
again_text number = said (codes "write `connect " ∷ decimal number ∷ codes "`, and then `ask`, to try again" ∷ [])

-- that a limit was met so often
abbrev pub met_times : Bound → ℕ → List ℕ
met_times bound times =
    if times == 1 then codes "limit met: " ++ bound_text bound
    else said (codes "limit met " ∷ decimal times ∷ codes " times: " ∷ bound_text bound ∷ [])

abbrev pub notice_text : Notice → List ℕ
notice_text (notice.RulesRead rows) = said (codes "rules read: " ∷ decimal rows ∷ codes " rows" ∷ [])
notice_text notice.OpenToAll = codes "no rule file: every name is served"
notice_text (notice.RulesRefused line cause) = said (codes "rules refused: line " ∷ decimal line ∷ codes ": " ∷ cause_text cause ∷ [])
notice_text (notice.GroupsRefused line cause) = said (codes "rules refused: groups line " ∷ decimal line ∷ codes ": " ∷ cause_text cause ∷ [])
notice_text notice.AccessRead = codes "access file read: rights go by user and host"
notice_text (notice.AccessRefused line cause) =
    said (codes "rules refused: access line " ∷ decimal line ∷ codes ": " ∷ access.cause_text cause ∷ [])
notice_text (notice.HostUnknown host) = said (codes "host " ∷ host.now ∷ codes " has no address: no client counts as it" ∷ [])
notice_text (notice.HostKept host) = said (codes "host " ∷ host.now ∷ codes " has no address now: it keeps those that it had" ∷ [])
notice_text (notice.HostsUnanswered hosts) =
    said (decimal hosts ∷ codes " of the hosts got no answer in time: each keeps the addresses that it had" ∷ [])
notice_text (notice.FileUnread path) = said (codes "rules refused: " ∷ path.now ∷ codes " can't be read" ∷ [])
notice_text (notice.FileRefused path cause) = said (codes "rules refused: " ∷ path.now ∷ codes " " ∷ file_cause_text cause ∷ [])
notice_text notice.Reloaded = codes "reload: the new rules hold"
notice_text (notice.ReportsAt address) = codes "status at " ++ socket_text address
notice_text (notice.ServerConnected number peer) = of_server number peer (codes " connected")
notice_text (notice.ServerUnreached number peer) = of_server number peer (codes " can't be reached: " ++ again_text number)
notice_text (notice.ServerStillUnreached number peer) = of_server number peer (codes " still can't be reached")
notice_text (notice.ServerLost number peer) = of_server number peer (codes " lost: " ++ again_text number)
notice_text (notice.ServerCut number peer why) =
    of_server number peer (said (codes " cut off: " ∷ cut_text why ∷ (codes "; " ++ again_text number) ∷ []))
notice_text (notice.FoundUnreached number peer) = of_server number peer (codes ", found by search, can't be reached")
notice_text (notice.FoundLost number peer) = of_server number peer (codes ", found by search, lost: its names are searched for")
notice_text (notice.FoundCut number peer why) =
    of_server number peer (said (codes ", found by search, cut off: " ∷ cut_text why ∷ codes "; its names are searched for" ∷ []))
notice_text (notice.NameServerConnected number peer) = of_name_server number peer (codes " connected")
notice_text (notice.NameServerUnreached number peer) = of_name_server number peer (codes " can't be reached, and is tried again")
notice_text (notice.NameServerLost number peer) = of_name_server number peer (codes " lost: its connection ended; it is tried again")
notice_text (notice.NameServerCut number peer why) =
    of_name_server number peer (said (codes " cut off: " ∷ cut_text why ∷ codes "; it is tried again" ∷ []))
notice_text (notice.ServersFull most) = said (codes "one server more than " ∷ decimal most ∷ codes " was found: it isn't connected to" ∷ [])
notice_text (notice.NameAtTwo name first other) = said (
    socket_text first ∷ codes " and " ∷ socket_text other ∷ codes " both have " ∷ name.now
    ∷ codes ": the first that answers serves it" ∷ [])
notice_text (notice.ClientConnected number peer) = of_client number peer (codes " connected")
notice_text (notice.ClientGone number peer) = of_client number peer (codes " gone")
notice_text (notice.ClientCut number peer why) = of_client number peer (codes " cut off: " ++ cut_text why)
notice_text (notice.ClientRefused peer why) = said (codes "a client (" ∷ socket_text peer ∷ codes ") refused: " ∷ why.now ∷ [])
notice_text (notice.LimitMet bound times) = met_times bound times
notice_text (notice.LinesDropped lines) = decimal lines ++ codes " lines dropped"
notice_text (notice.NamesNearLimit names most) = said (
    decimal names ∷ codes " of " ∷ decimal most ∷ codes " searched names are remembered and not found: write `sweep` to forget them" ∷ [])
notice_text (notice.NamesDropped names) = decimal names ++ codes " names aren't looked for: too many are missing"
notice_text (notice.NamesAsked names) = codes "names asked for: " ++ decimal names
notice_text (notice.Unsent place) = codes "searches can't be sent to " ++ socket_text place
notice_text (notice.SentAgain place) = said (codes "searches are sent to " ∷ socket_text place ∷ codes " again" ∷ [])
notice_text (notice.NameOfTwo name first other) = said (
    codes "upstreams " ∷ decimal first ∷ codes " and " ∷ decimal other ∷ codes " both have " ∷ name.now
    ∷ codes ": the first that answers serves it" ∷ [])
notice_text notice.Swept = codes "swept: searched names are forgotten"
notice_text notice.Aged = codes "aged: names that nobody looked for since the last time are forgotten"
notice_text (notice.Watching seconds) = said (
    codes "connections are watched: an upstream that says nothing for " ∷ decimal seconds ∷ codes " s is asked whether it is there" ∷ [])
notice_text notice.NotWatching = codes "connections are not watched: one that is gone without a word stays until the system notices"
notice_text (notice.ServerProbed number peer) = of_server number peer (codes " is asked whether it is there")
notice_text notice.NoOrder = codes "a line that is no order"
notice_text notice.OutOfMemory = codes "out of memory"
notice_text notice.Failed = codes "the gateway ran out of memory or numbers, and ends"
notice_text notice.Closing = codes "closing"
