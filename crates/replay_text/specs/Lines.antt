-- What a line of a script asks for.
use Rattle.std.specs.Prelude.{◌≡◌, ℕ, Bool, true, ◌==◌, if◌then◌else◌, List, [], ◌∷◌, codes, bytes_eq, Option, Some, None, option_map, option_and_then, Result, Ok, Err}
use Rattle.std.specs.List.{slice_split}
use Rattle.decimal_text.specs.Numbers.{number_of}
use Rattle.gateway_state.specs.declared.event.Dest.{Dest}
use Rattle.gateway_state.specs.declared.event.Dest.TheVariants as dests
use Rattle.replay_text.specs.declared.command.Command.{Command}
use Rattle.replay_text.specs.declared.command.Command.TheVariants as commands
use Rattle.replay_text.specs.declared.line.Line.{Line}
use Rattle.replay_text.specs.declared.line.Line.TheVariants as lines
use Rattle.replay_text.specs.declared.values.LineFault.{LineFault}
use Rattle.replay_text.specs.declared.values.LineFault.TheVariants.{Bad, OutOfMemory}
use Rattle.replay_text.specs.Limits.{limit_named}
use Rattle.replay_text.specs.Values.{dest_of, session_of, server_of, name_of, host_of, bytes_of}
use Rattle.replay_text.specs.Words.{is_blank, first, after_first, no_word, one_word, two_words, four_words}

-- a text is read exactly where it has a meaning, as what it means, but for want of memory
abbrev pub IsRead : {A : Type 0} → Result A LineFault → Option A → Type 0
IsRead (Ok value) meaning = meaning ≡ Some value
IsRead (Err Bad) meaning = meaning ≡ None
IsRead (Err OutOfMemory) meaning = Unit {0}

-- a line's first word by which somebody sees after the gateway
abbrev pub upkeep_named : List ℕ → Option Command
upkeep_named word =
    if bytes_eq word (codes "limit") then Some commands.Limit
    else if bytes_eq word (codes "age") then Some commands.Age
    else if bytes_eq word (codes "probe") then Some commands.Probe
    else if bytes_eq word (codes "seek") then Some commands.Seek
    else None

-- one that asks something, or says what is printed
abbrev pub asking_named : List ℕ → Option Command
asking_named word =
    if bytes_eq word (codes "asks") then Some commands.Asks
    else if bytes_eq word (codes "read") then Some commands.Read
    else if bytes_eq word (codes "sub") then Some commands.Sub
    else if bytes_eq word (codes "props") then Some commands.Props
    else if bytes_eq word (codes "rights") then Some commands.Rights
    else if bytes_eq word (codes "hold") then Some commands.Hold
    else if bytes_eq word (codes "flow") then Some commands.Flow
    else if bytes_eq word (codes "drain") then Some commands.Drain
    else upkeep_named word

-- what a line's first word says
abbrev pub command_named : List ℕ → Option Command
command_named word =
    if bytes_eq word (codes "open") then Some commands.Open
    else if bytes_eq word (codes "lost") then Some commands.Lost
    else if bytes_eq word (codes "client") then Some commands.Client
    else if bytes_eq word (codes "server") then Some commands.Server
    else if bytes_eq word (codes "found") then Some commands.Found
    else if bytes_eq word (codes "search") then Some commands.Search
    else if bytes_eq word (codes "sweep") then Some commands.Sweep
    else if bytes_eq word (codes "edit") then Some commands.Edit
    else asking_named word

-- a value of two parts, where both are there
abbrev pub both : {A B C : Type 0} → (A → B → C) → Option A → Option B → Option C
both f (Some a) (Some b) = Some (f a b)
both f (Some a) None = None
both f None b = None

-- the same of three
abbrev pub all_three : {A B C D : Type 0} → (A → B → C → D) → Option A → Option B → Option C → Option D
all_three f (Some a) (Some b) (Some c) = Some (f a b c)
all_three f (Some a) (Some b) None = None
all_three f (Some a) None c = None
all_three f None b c = None

-- a connection opens: a client's needs its host
abbrev pub opening : Dest → List (List ℕ) → Option Line
opening (dests.Session number) words = option_map (lines.OpenSession number) (option_and_then host_of (one_word words))
opening (dests.Upstream number) words = option_map (λ _. lines.OpenServer number) (no_word words)

abbrev pub open_line : List (List ℕ) → Option Line
open_line words = option_and_then (λ to. opening to (after_first words)) (option_and_then dest_of (first words))

-- a connection alone
abbrev pub dest_line : List (List ℕ) → Option Dest
dest_line words = option_and_then dest_of (one_word words)

abbrev pub lost_line : List (List ℕ) → Option Line
lost_line words = option_map lines.Lost (dest_line words)

abbrev pub hold_line : List (List ℕ) → Option Line
hold_line words = option_map lines.Hold (dest_line words)

abbrev pub flow_line : List (List ℕ) → Option Line
flow_line words = option_map lines.Flow (dest_line words)

abbrev pub client_line : List (List ℕ) → Option Line
client_line words = option_and_then (λ two. both lines.Client (session_of two.0) (bytes_of two.1)) (two_words words)

abbrev pub server_line : List (List ℕ) → Option Line
server_line words = option_and_then (λ two. both lines.Server (server_of two.0) (bytes_of two.1)) (two_words words)

abbrev pub found_line : List (List ℕ) → Option Line
found_line words = option_and_then (λ two. both lines.Found (name_of two.0) (server_of two.1)) (two_words words)

abbrev pub search_line : List (List ℕ) → Option Line
search_line words = option_and_then (λ two. both lines.Search (host_of two.0) (bytes_of two.1)) (two_words words)

abbrev pub sweep_line : List (List ℕ) → Option Line
sweep_line words = option_map (λ _. lines.Sweep) (no_word words)

abbrev pub asks_line : List (List ℕ) → Option Line
asks_line words = option_map (λ _. lines.Asks) (no_word words)

-- how many lines a file has
abbrev pub size_in : List (List ℕ) → Option ℕ
size_in words = option_and_then (number_of 64) (first words)

abbrev pub size_or_none : Option (List ℕ) → Option ℕ
size_or_none None = Some 0
size_or_none (Some word) = number_of 64 word

-- the same by a line's last word, which may be left out where there are none
abbrev pub last_size_in : List (List ℕ) → Option ℕ
last_size_in words = option_and_then (λ _. size_or_none (first words)) (no_word (after_first words))

-- an edit of the policy: how many lines of a rule file follow, then of a group file, and then of an access security file
abbrev pub edit_line : List (List ℕ) → Option Line
edit_line words = all_three lines.Edit (size_in words) (size_in (after_first words)) (last_size_in (after_first (after_first words)))

-- a session and its channel; a type and a count
abbrev pub channel_of : List ℕ × List ℕ → Option (ℕ × ℕ)
channel_of two = both (λ session sid. (session, sid)) (session_of two.0) (number_of 32 two.1)

abbrev pub form_of : List ℕ × List ℕ → Option (ℕ × ℕ)
form_of two = both (λ dtype count. (dtype, count)) (number_of 16 two.0) (number_of 32 two.1)

abbrev pub read_of : ℕ × ℕ → ℕ × ℕ → Line
read_of channel form = lines.Read channel.0 channel.1 form.0 form.1

abbrev pub read_line : List (List ℕ) → Option Line
read_line words = option_and_then (λ four. both read_of (channel_of four.0) (form_of four.1)) (four_words words)

abbrev pub sub_line : List (List ℕ) → Option Line
sub_line words = option_map lines.Subscription (option_and_then name_of (one_word words))

abbrev pub props_line : List (List ℕ) → Option Line
props_line words = option_map lines.Properties (option_and_then name_of (one_word words))

abbrev pub rights_line : List (List ℕ) → Option Line
rights_line words = option_map (λ channel. lines.Rights channel.0 channel.1) (option_and_then channel_of (two_words words))

abbrev pub drain_line : List (List ℕ) → Option Line
drain_line words = option_and_then (λ two. both lines.Drain (dest_of two.0) (number_of 64 two.1)) (two_words words)

-- another limit: its name, and a number, or 0 or 1 where it holds or doesn't
abbrev pub limit_line : List (List ℕ) → Option Line
limit_line words = option_map lines.Limit (option_and_then (λ two. limit_named two.0 two.1) (two_words words))

abbrev pub age_line : List (List ℕ) → Option Line
age_line words = option_map (λ _. lines.Age) (no_word words)

-- a server's number, without the `u` of its connection
abbrev pub probe_line : List (List ℕ) → Option Line
probe_line words = option_map lines.Probe (option_and_then (number_of 32) (one_word words))

-- a session's search, by its ID of it
abbrev pub seeking : ℕ → List (List ℕ) → Option Line
seeking number words = option_and_then (λ two. both (lines.Seek number) (number_of 32 two.0) (name_of two.1)) (two_words words)

abbrev pub seek_line : List (List ℕ) → Option Line
seek_line words = option_and_then (λ number. seeking number (after_first words)) (option_and_then session_of (first words))

-- what a command and the words after it ask for
abbrev pub command_line : Command → List (List ℕ) → Option Line
command_line commands.Open = open_line
command_line commands.Lost = lost_line
command_line commands.Client = client_line
command_line commands.Server = server_line
command_line commands.Found = found_line
command_line commands.Search = search_line
command_line commands.Sweep = sweep_line
command_line commands.Edit = edit_line
command_line commands.Asks = asks_line
command_line commands.Read = read_line
command_line commands.Sub = sub_line
command_line commands.Props = props_line
command_line commands.Rights = rights_line
command_line commands.Hold = hold_line
command_line commands.Flow = flow_line
command_line commands.Drain = drain_line
command_line commands.Limit = limit_line
command_line commands.Age = age_line
command_line commands.Probe = probe_line
command_line commands.Seek = seek_line

-- what the words of a line ask for, where it is a line of a script
abbrev pub words_line : List (List ℕ) → Option Line
words_line words = option_and_then (λ command. command_line command (after_first words)) (option_and_then command_named (first words))

-- an empty line, or a comment: it begins with `#` (35)
abbrev pub is_skipped : List ℕ → Bool
is_skipped [] = true
is_skipped (b ∷ bs) = b == 35

-- what a line without its end asks for, where it is a line of a script
unfoldable pub line_of : List ℕ → Option Line
line_of line = if is_skipped line then Some lines.Skipped else words_line (slice_split is_blank line)
