-- What an edit of a script does to the gateway, and what is printed of it. Patterns are of the escaped syntax.
use Rattle.std.specs.Prelude.{◌≡◌, ℕ, ◌⊎◌, List, Option, Some, None, option_map}
use Rattle.std.specs.Io.KnownBytes.{Appends}
use Rattle.gateway_state.specs.Gateway.{Gateway}
use Rattle.gateway_state.specs.Step.{step}
use Rattle.gateway_state.specs.declared.event.Event.TheVariants.{Edit}
use Rattle.pvlist.specs.declared.syntax.Syntax.TheVariants.{Escaped}
use Rattle.replay_text.specs.Output.{refused_line, refused_access_line, refused_groups_line}
use Rattle.replay_text.specs.declared.line.Line.{Line}
use Rattle.replay_text.specs.declared.line.Line.TheVariants as lines
use Rattle.rule_desk.specs.Edit.{IsDeskFault, IsPolicyOf}
use Rattle.rule_desk.specs.declared.fault.DeskFault.{DeskFault}
use Rattle.rule_desk.specs.declared.fault.DeskFault.TheVariants.{Rules, Groups, Access, OutOfMemory}
use Rattle.rule_desk.specs.declared.policy.Policy.{Policy}
use Rattle.rule_desk.specs.Texts.{Texts}
use Rattle.replay.specs.declared.entry.EditFiles.{EditFiles}

-- the texts of the files
abbrev pub texts_of : EditFiles → Texts
texts_of files = record { rules = files.rules; groups = files.groups; access = files.access }

-- an edit is accepted: the policy that its files say is the gateway's from then on, and nothing is printed of it
pub record IsAccepted (files : EditFiles) (old new : Option Gateway) (before after : Option (List ℕ)) : Type 0 where
  pub policy : Policy
  pub said : IsPolicyOf Escaped (texts_of files) policy
  pub edited : new ≡ option_map (λ w. step w (Edit policy)) old
  pub silent : after ≡ before

-- the line of a refused edit
abbrev pub refusal : DeskFault → Option (List ℕ)
refusal (Rules line cause) = Some (refused_line line cause)
refusal (Groups line cause) = Some (refused_groups_line line cause)
refusal (Access line cause) = Some (refused_access_line line cause)
refusal OutOfMemory = None

-- the line is printed, where there is one
abbrev pub IsPrinted : Option (List ℕ) → Option (List ℕ) → Option (List ℕ) → Type 0
IsPrinted None before after = ⊥
IsPrinted (Some line) before after = Appends before after line

-- an edit is refused: the first fault of its files is printed, and the gateway is as it was
pub record IsRefused (files : EditFiles) (old new : Option Gateway) (before after : Option (List ℕ)) : Type 0 where
  pub fault : DeskFault
  pub first : IsDeskFault Escaped (texts_of files) fault
  pub printed : IsPrinted (refusal fault) before after
  pub same : new ≡ old

-- what became of an edit
abbrev pub IsEdited : EditFiles → Option Gateway → Option Gateway → Option (List ℕ) → Option (List ℕ) → Type 0
IsEdited files old new before after = IsAccepted files old new before after ⊎ IsRefused files old new before after

-- a fact of a line that is an edit
abbrev pub IfEdit : Line → Type 0 → Type 0
IfEdit (lines.Edit rules groups access) P = P
IfEdit said P = Unit {0}
