-- How a check ends. A writer's contents are known or not, and `before` and `after` are those at the call and the return.
use Rattle.std.specs.Prelude.{◌≡◌, ℕ, ◌⊎◌, List, Option, option_map, Result, Ok, Err}
use Rattle.std.specs.Io.KnownBytes.{Appends}
use Rattle.pvlist.specs.declared.syntax.Syntax.{Syntax}
use Rattle.rule_desk.specs.Edit.{IsPolicyOf, IsDeskFault}
use Rattle.rule_desk.specs.declared.fault.DeskFault.{DeskFault}
use Rattle.rule_desk.specs.declared.fault.DeskFault.TheVariants.{OutOfMemory}
use Rattle.rule_desk.specs.declared.policy.Policy.{Policy}
use Rattle.rule_desk.specs.declared.answer.Question.{Question}
use Rattle.rule_desk.specs.Answer.{answer_of}
use Rattle.rule_desk.specs.Output.{good_lines, fault_line}
use Rattle.rule_desk.specs.Texts.{Texts}

-- the statuses of a check
abbrev pub IsStatus : ℕ → Type 0
IsStatus status = (status ≡ 0) ⊎ (status ≡ 1) ⊎ (status ≡ 3) ⊎ (status ≡ 4)

-- the status where this was to be the one, once all was written
abbrev pub status_after : {E : Type 0} → Result Unit E → ℕ → ℕ
status_after (Ok _) status = status
status_after (Err _) status = 3

-- what is written under a policy that good files say
abbrev pub IsGoodOf : Policy → Option Question → Option (List ℕ) → Option (List ℕ) → Type 0
IsGoodOf policy asked before after = Appends before after (good_lines policy.rules (option_map (answer_of policy) asked))

-- in this syntax the texts say a policy, and that is written, with what the policy answers
pub record IsGood (syntax : Syntax) (texts : Texts) (asked : Option Question) (before after : Option (List ℕ)) : Type 0 where
  pub policy : Policy
  pub are : IsPolicyOf syntax texts policy
  pub written : IsGoodOf policy asked before after

-- in this syntax a line of the texts is faulty, and the first such line is written
pub record IsRefused (syntax : Syntax) (texts : Texts) (before after : Option (List ℕ)) : Type 0 where
  pub fault : DeskFault
  pub is_line : ¬ (fault ≡ OutOfMemory)
  pub is : IsDeskFault syntax texts fault
  pub written : Appends before after (fault_line fault)
