-- What an edit makes of the texts of a rule file, a group file and an access security file, each of which may be missing, by
-- the syntax of the patterns.
use Rattle.std.specs.Prelude.{◌≡◌, ℕ, List, [], Option, Some, None, Ok, Err}
use Rattle.std.specs.Str.Lines.{lines}
use Rattle.access_file.specs.declared.fault.AccessFault.TheVariants as access
use Rattle.access_file.specs.File.{access_of}
use Rattle.access_file.specs.Groups.{AccessGroups}
use Rattle.pvlist.specs.declared.fault.RuleFault.TheVariants as file
use Rattle.pvlist.specs.declared.groups.GroupLine.{GroupLine}
use Rattle.pvlist.specs.declared.syntax.Syntax.{Syntax}
use Rattle.pvlist.specs.GroupFile as groups
use Rattle.pvlist.specs.RuleFile as rules
use Rattle.pvlist.specs.Ruling.{Ruling}
use Rattle.rule_desk.specs.declared.fault.DeskFault.{DeskFault}
use Rattle.rule_desk.specs.declared.fault.DeskFault.TheVariants.{Rules, Groups, Access, OutOfMemory}
use Rattle.rule_desk.specs.declared.policy.Policy.{Policy}
use Rattle.rule_desk.specs.Policy.{open_rules, no_groups}
use Rattle.rule_desk.specs.Texts.{Texts}

-- the rules that the text says; without a text, those that leave all names open
abbrev pub AreRulesOf : Syntax → Option (List ℕ) → Ruling → Type 0
AreRulesOf syntax None ruling = ruling ≡ open_rules
AreRulesOf syntax (Some text) ruling = rules.IsRulingOf syntax (lines text) ruling

-- the lines of groups that the text says; without a text, none
abbrev pub AreGroupsOf : Option (List ℕ) → List GroupLine → Type 0
AreGroupsOf None said = said ≡ no_groups
AreGroupsOf (Some text) said = groups.AreGroupsOf (lines text) said

-- the access security groups that the text says; without a text, none
abbrev pub IsAccessOf : Option (List ℕ) → Option AccessGroups → Type 0
IsAccessOf None said = said ≡ None
IsAccessOf (Some text) None = ⊥
IsAccessOf (Some text) (Some said) = access_of text ≡ Ok said

-- the policy of all three, where no host has a name
pub record IsPolicyOf (syntax : Syntax) (texts : Texts) (policy : Policy) : Type 0 where
  pub rules : AreRulesOf syntax texts.rules policy.rules
  pub groups : AreGroupsOf texts.groups policy.groups
  pub access : IsAccessOf texts.access policy.access
  pub names : policy.names ≡ []

-- the text has rules
pub record HasRules (syntax : Syntax) (text : Option (List ℕ)) : Type 0 where
  pub ruling : Ruling
  pub are : AreRulesOf syntax text ruling

-- the text has lines of groups
pub record HasGroups (text : Option (List ℕ)) : Type 0 where
  pub lines : List GroupLine
  pub are : AreGroupsOf text lines

-- the fault is that of the rule file's first faulty line, or memory ran out
abbrev pub IsRulesFault : Syntax → Option (List ℕ) → DeskFault → Type 0
IsRulesFault syntax text OutOfMemory = Unit {0}
IsRulesFault syntax (Some text) (Rules line cause) = rules.IsRuleFault syntax text (file.At line cause)
IsRulesFault syntax None (Rules line cause) = ⊥
IsRulesFault syntax text (Groups line cause) = ⊥
IsRulesFault syntax text (Access line cause) = ⊥

-- the same of the group file
abbrev pub IsGroupsFault : Option (List ℕ) → DeskFault → Type 0
IsGroupsFault text OutOfMemory = Unit {0}
IsGroupsFault (Some text) (Groups line cause) = groups.IsGroupFault text (file.At line cause)
IsGroupsFault None (Groups line cause) = ⊥
IsGroupsFault text (Rules line cause) = ⊥
IsGroupsFault text (Access line cause) = ⊥

-- the same of the access security file
abbrev pub IsAccessFault : Option (List ℕ) → DeskFault → Type 0
IsAccessFault text OutOfMemory = Unit {0}
IsAccessFault (Some text) (Access line cause) = access_of text ≡ Err (access.At line cause)
IsAccessFault None (Access line cause) = ⊥
IsAccessFault text (Rules line cause) = ⊥
IsAccessFault text (Groups line cause) = ⊥

-- the first fault of all three: each is told only where the files before it have none
abbrev pub IsDeskFault : Syntax → Texts → DeskFault → Type 0
IsDeskFault syntax texts OutOfMemory = Unit {0}
IsDeskFault syntax texts (Rules line cause) = IsRulesFault syntax texts.rules (Rules line cause)
IsDeskFault syntax texts (Groups line cause) = HasRules syntax texts.rules × IsGroupsFault texts.groups (Groups line cause)
IsDeskFault syntax texts (Access line cause) =
    HasRules syntax texts.rules × HasGroups texts.groups × IsAccessFault texts.access (Access line cause)
