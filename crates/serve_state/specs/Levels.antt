-- What is logged at which level.
use Rattle.std.specs.Prelude.{ℕ, if◌then◌else◌, List, bytes_eq, codes, Option, Some, None}
use Rattle.log.specs.declared.level.Level.{Level}
use Rattle.log.specs.declared.level.Level.TheVariants.{Error, Warn, Info, Debug}
use Rattle.serve_state.specs.declared.cut.Cut.{Cut}
use Rattle.serve_state.specs.declared.cut.Cut.TheVariants as cut
use Rattle.serve_state.specs.declared.notice.Notice.{Notice}
use Rattle.serve_state.specs.declared.notice.Notice.TheVariants as notice

-- the level that a word names
abbrev pub level_named : List ℕ → Option Level
level_named word =
    if bytes_eq word (codes "error") then Some Error
    else if bytes_eq word (codes "warn") then Some Warn
    else if bytes_eq word (codes "info") then Some Info
    else if bytes_eq word (codes "debug") then Some Debug
    else None

-- a server is closed that nobody needs, as it should be; each other one that is cut off may be wanted
abbrev pub cut_level : Cut → Level
cut_level (cut.Idle seconds) = Info
cut_level cut.Misaligned = Warn
cut_level cut.TooLarge = Warn
cut_level cut.TooOld = Warn
cut_level (cut.TooSlow messages) = Warn
cut_level (cut.TooMuch mib) = Warn
cut_level (cut.TooMuchInAll bytes mib) = Warn
cut_level (cut.Unanswering seconds) = Warn
cut_level (cut.Silent seconds) = Warn
cut_level cut.Replaced = Warn
cut_level cut.NoAnswers = Warn
cut_level cut.OutOfMemory = Warn

-- what stops the gateway or one of its calls is an error; what somebody may want to do something about is a warning; what is
-- as it should be is for information; and the rest is for whoever looks for a cause
abbrev pub level_of : Notice → Level
level_of notice.OutOfMemory = Error
level_of notice.Failed = Error
level_of (notice.RulesRefused line cause) = Warn
level_of (notice.GroupsRefused line cause) = Warn
level_of (notice.AccessRefused line cause) = Warn
level_of (notice.HostUnknown host) = Warn
level_of (notice.HostKept host) = Warn
level_of (notice.HostsUnanswered hosts) = Warn
level_of (notice.FileUnread path) = Warn
level_of (notice.FileRefused path cause) = Warn
level_of (notice.LimitMet limit times) = Warn
level_of (notice.LinesDropped lines) = Warn
level_of (notice.ServerUnreached number peer) = Warn
level_of (notice.ServerLost number peer) = Warn
level_of (notice.ServerCut number peer why) = Warn
level_of (notice.FoundUnreached number peer) = Warn
level_of (notice.FoundLost number peer) = Warn
level_of (notice.FoundCut number peer why) = cut_level why
level_of (notice.NameServerUnreached number peer) = Warn
level_of (notice.NameServerLost number peer) = Warn
level_of (notice.NameServerCut number peer why) = Warn
level_of (notice.ServersFull most) = Warn
level_of (notice.NameAtTwo name first other) = Warn
level_of (notice.ClientCut number peer why) = Warn
level_of (notice.ClientRefused peer why) = Warn
level_of (notice.NamesNearLimit names most) = Warn
level_of (notice.NamesDropped names) = Warn
level_of (notice.Unsent place) = Warn
level_of (notice.NameOfTwo name first other) = Warn
level_of (notice.RulesRead rows) = Info
level_of notice.OpenToAll = Info
level_of notice.AccessRead = Info
level_of notice.Reloaded = Info
level_of (notice.ReportsAt address) = Info
level_of (notice.ServerConnected number peer) = Info
level_of (notice.NameServerConnected number peer) = Info
level_of (notice.ClientConnected number peer) = Info
level_of (notice.ClientGone number peer) = Info
level_of (notice.Watching seconds) = Info
level_of notice.NotWatching = Info
level_of (notice.SentAgain place) = Info
level_of notice.Closing = Info
level_of (notice.ServerStillUnreached number peer) = Debug
level_of (notice.NamesAsked names) = Debug
level_of notice.Swept = Debug
level_of notice.Aged = Debug
level_of (notice.ServerProbed number peer) = Debug
level_of notice.NoOrder = Debug

-- lines of one kind are counted together: those of one notice, whatever they tell of
abbrev pub kind_of : Notice → ℕ
kind_of (notice.RulesRead rows) = 0
kind_of notice.OpenToAll = 1
kind_of (notice.RulesRefused line cause) = 2
kind_of (notice.GroupsRefused line cause) = 3
kind_of (notice.FileUnread path) = 4
kind_of (notice.FileRefused path cause) = 5
kind_of notice.Reloaded = 6
kind_of (notice.ReportsAt address) = 7
kind_of (notice.ServerConnected number peer) = 8
kind_of (notice.ServerUnreached number peer) = 9
kind_of (notice.ServerStillUnreached number peer) = 10
kind_of (notice.ServerLost number peer) = 11
kind_of (notice.ServerCut number peer why) = 12
kind_of (notice.ClientConnected number peer) = 13
kind_of (notice.ClientGone number peer) = 14
kind_of (notice.ClientCut number peer why) = 15
kind_of (notice.ClientRefused peer why) = 16
kind_of (notice.NamesNearLimit names most) = 17
kind_of (notice.NamesAsked names) = 18
kind_of notice.Swept = 19
kind_of notice.NoOrder = 20
kind_of notice.OutOfMemory = 21
kind_of notice.Failed = 22
kind_of notice.Closing = 23
kind_of (notice.LimitMet limit times) = 24
kind_of (notice.LinesDropped lines) = 25
kind_of (notice.NameOfTwo name first other) = 26
kind_of notice.Aged = 27
kind_of (notice.Watching seconds) = 28
kind_of notice.NotWatching = 29
kind_of (notice.ServerProbed number peer) = 30
kind_of (notice.FoundUnreached number peer) = 31
kind_of (notice.FoundLost number peer) = 32
kind_of (notice.FoundCut number peer why) = 33
kind_of (notice.ServersFull most) = 34
kind_of (notice.NameAtTwo name first other) = 35
kind_of (notice.NameServerConnected number peer) = 36
kind_of (notice.NameServerUnreached number peer) = 37
kind_of (notice.NameServerLost number peer) = 38
kind_of (notice.NameServerCut number peer why) = 39
kind_of notice.AccessRead = 40
kind_of (notice.AccessRefused line cause) = 41
kind_of (notice.HostUnknown host) = 42
kind_of (notice.HostKept host) = 43
kind_of (notice.HostsUnanswered hosts) = 44
kind_of (notice.Unsent place) = 45
kind_of (notice.SentAgain place) = 46
kind_of (notice.NamesDropped names) = 47
