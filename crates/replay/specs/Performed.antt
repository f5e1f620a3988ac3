-- What each line of a script does, and prints.
use Rattle.std.specs.Prelude.{◌≡◌, ℕ, zero, suc, ◌⊎◌, List, [], ◌∷◌, map, Option, Some, None, option_map}
use Rattle.std.specs.BTreeSet.{insert_key}
use Rattle.std.specs.Set.{remove_key}
use Rattle.std.specs.Io.KnownBytes.{Appends}
use Rattle.gateway_calls.specs.Searching.{IsSearched}
use Rattle.gateway_state.specs.Answer.{reading}
use Rattle.gateway_state.specs.Gateway.{Gateway}
use Rattle.gateway_state.specs.Interest.{property_subscription_of, subscription_of}
use Rattle.gateway_state.specs.Rights.{rights_asked}
use Rattle.gateway_state.specs.Step.{run, step}
use Rattle.gateway_state.specs.Variables.{asks}
use Rattle.gateway_state.specs.declared.event.Dest.TheVariants.{Session, Upstream}
use Rattle.gateway_state.specs.declared.event.Event.TheVariants as events
use Rattle.pv_search.specs.declared.answering.SearchAnswer.{SearchAnswer}
use Rattle.pvlist.specs.declared.syntax.Syntax.TheVariants.{Escaped}
use Rattle.replay_text.specs.Output.{asks_line, props_line, reading_line, reply_line, rights_line, subscription_line, subscription_text}
use Rattle.replay_text.specs.declared.line.Line.{Line}
use Rattle.replay_text.specs.declared.line.Line.TheVariants as lines
use Rattle.rule_desk.specs.Edit.{IsDeskFault, IsPolicyOf}
use Rattle.rule_desk.specs.declared.fault.DeskFault.{DeskFault}
use Rattle.rule_desk.specs.declared.policy.Policy.{Policy}
use Rattle.replay.specs.Editing.{refusal, texts_of}
use Rattle.replay.specs.Ending.{AreEnded, IsShut, opened, without}
use Rattle.replay.specs.Performing.{Becomes, Performs, Rests, Then, silent}
use Rattle.replay.specs.Player.{OnGateway, Playing, beginning, dest_cmp, is_dest, relimited, stepped}
use Rattle.replay.specs.Printing.{IsDrained, IsPrinted}
use Rattle.replay.specs.Receiving.{IsReceived}
use Rattle.replay.specs.Script.{entry_of, lines_of, own_lines_of}
use Rattle.replay.specs.declared.entry.ScriptEntry.{ScriptEntry}
use Rattle.replay.specs.declared.entry.EditFiles.{EditFiles}
use Rattle.replay.specs.declared.player.Misframed.{Misframed}
use Rattle.replay_text.specs.Lines.{line_of}

-- a question changes nothing, and its answer is printed
abbrev pub IsAnswered : (Gateway → List ℕ) → Playing → Playing → List ℕ → Type 0
IsAnswered answer = Becomes (λ p. p) (λ p. answer p.gateway)

-- a datagram of searches comes: the reply is printed, and the names are looked for from then on
pub record IsSearchedFor (host datagram : List ℕ) (old new : Gateway) (text : List ℕ) : Type 0 where
  pub answer : SearchAnswer
  pub found : IsSearched old host datagram answer
  pub asked : new ≡ run old (map (events.Search host) answer.asked)
  pub reply : text ≡ reply_line answer.reply

-- the policy of all files, whose patterns are of the escaped syntax, holds from then on, and nothing is printed
pub record IsEditOf (files : EditFiles) (old new : Gateway) (text : List ℕ) : Type 0 where
  pub policy : Policy
  pub said : IsPolicyOf Escaped (texts_of files) policy
  pub edited : new ≡ step old (events.Edit policy)
  pub silent : text ≡ []

-- or the first fault of the files is printed
pub record IsRefusalOf (files : EditFiles) (old new : Gateway) (text : List ℕ) : Type 0 where
  pub fault : DeskFault
  pub first : IsDeskFault Escaped (texts_of files) fault
  pub line : refusal fault ≡ Some text
  pub same : new ≡ old

abbrev pub IsEdit : EditFiles → Gateway → Gateway → List ℕ → Type 0
IsEdit files old new text = IsEditOf files old new text ⊎ IsRefusalOf files old new text

-- what a line does by itself, with the files of an edit; the bytes that it brings may be no messages
abbrev pub IsDone : Line → EditFiles → Option Misframed → Playing → Playing → List ℕ → Type 0
IsDone (lines.Client number bytes) files misframed = IsReceived (Session number) bytes misframed
IsDone (lines.Server number bytes) files misframed = IsReceived (Upstream number) bytes misframed
IsDone line files (Some misframed) = λ old new text. ⊥
IsDone lines.Skipped files None = Rests
IsDone (lines.OpenSession number host) files None = Becomes (opened (Session number) (events.Opened number host)) silent
IsDone (lines.OpenServer number) files None = Becomes (opened (Upstream number) (events.UpOpened number)) silent
IsDone (lines.Lost dest) files None = Becomes (without dest) silent
IsDone (lines.Found name number) files None = Becomes (stepped (events.Found name number)) silent
IsDone (lines.Search host datagram) files None = OnGateway (IsSearchedFor host datagram)
IsDone lines.Sweep files None = Becomes (stepped events.Sweep) silent
IsDone (lines.Edit rules groups access) files None = OnGateway (IsEdit files)
IsDone lines.Asks files None = IsAnswered (λ w. asks_line (asks w))
IsDone (lines.Read session sid dtype count) files None = IsAnswered (λ w. reading_line (reading w session sid dtype count))
IsDone (lines.Subscription name) files None =
    IsAnswered (λ w. subscription_line (option_map (λ sub. subscription_text sub.id sub.mask sub.count) (subscription_of w name)))
IsDone (lines.Properties name) files None = IsAnswered (λ w. props_line (property_subscription_of w name))
IsDone (lines.Rights session sid) files None = IsAnswered (λ w. rights_line (rights_asked w session sid))
IsDone (lines.Hold dest) files None = Becomes (λ p. record p { held = insert_key dest_cmp p.held dest }) silent
IsDone (lines.Flow dest) files None = Becomes (λ p. record p { held = remove_key (is_dest dest) p.held }) silent
IsDone (lines.Drain dest count) files None = OnGateway (IsDrained dest count)
IsDone (lines.Limit limit) files None = Becomes (relimited limit) silent
IsDone lines.Age files None = Becomes (stepped events.Age) silent
IsDone (lines.Probe number) files None = Becomes (stepped (events.Probe number)) silent
IsDone (lines.Seek number cid name) files None = Becomes (stepped (events.Seek number cid name)) silent

-- what follows from a line: what waits is printed, a connection whose bytes are no messages is cut off, and so are
-- those that must end
abbrev pub IsFollowed : Option Misframed → Playing → Playing → List ℕ → Type 0
IsFollowed misframed = Then IsPrinted (Then (IsShut misframed) AreEnded)

-- a line is performed, with all that follows from it
abbrev pub IsLine : ScriptEntry → Playing → Playing → List ℕ → Type 0
IsLine entry old new text =
    (misframed : Option Misframed) × Then (IsDone entry.line entry.files misframed) (IsFollowed misframed) old new text

-- entries are performed, one after another
abbrev pub AreLines : List ScriptEntry → Playing → Playing → List ℕ → Type 0
AreLines [] = Rests
AreLines (entry ∷ entries) = Then (IsLine entry) (AreLines entries)

-- an entry before others; nothing behind a bad line counts
abbrev pub with_entry : Option ScriptEntry → List ScriptEntry → List ScriptEntry
with_entry None entries = []
with_entry (Some entry) entries = entry ∷ entries

-- the entries of a script's lines up to the first that is bad, of which so many lines are an edit's own at first
unfoldable pub entries_after : ℕ → List (List ℕ) → List ScriptEntry
entries_after pending [] = []
entries_after zero (line ∷ after) = with_entry (entry_of line after) (entries_after (own_lines_of (line_of line)) after)
entries_after (suc pending) (line ∷ after) = entries_after pending after

-- the entries of a script up to its first bad line, of a good script all
abbrev pub entries_of : List ℕ → List ScriptEntry
entries_of script = entries_after 0 (lines_of script)

-- lines that are left are performed up to the first bad one, where they are known
abbrev pub PerformsLines : Option (List (List ℕ)) → Option Playing → Option Playing → Option (List ℕ) → Option (List ℕ) → Type 0
PerformsLines None old new before after = Unit {0}
PerformsLines (Some lines) old new before after = Performs (AreLines (entries_after 0 lines)) old new before after

-- a script is played up to its first bad line, a good script to its end, on a gateway that was in this state: this is
-- what was written before, and then
abbrev pub IsPlayed : Option (List ℕ) → Option Gateway → Option (List ℕ) → Option (List ℕ) → Type 0
IsPlayed script gateway before after =
    (new : Option Playing) × PerformsLines (option_map lines_of script) (option_map beginning gateway) new before after

-- the same, and then a line is written
abbrev pub IsPlayedThen : List ℕ → Option (List ℕ) → Option Gateway → Option (List ℕ) → Option (List ℕ) → Type 0
IsPlayedThen line script gateway before after =
    (between : Option (List ℕ)) × IsPlayed script gateway before between × Appends between after line
