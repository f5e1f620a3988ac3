-- How an access security file is written, token by token.
use Rattle.std.specs.Prelude.{◌≡◌, ℕ, ◌+◌, ◌≤◌, Bool, true, false, List, [], ◌∷◌, ◌++◌, length, bytes_eq, codes, None, is_some}
use Rattle.std.specs.Map.{lookup}
use Rattle.pv_name.specs.Group.{is_group}
use Rattle.access_file.specs.declared.place.Party.{Party}
use Rattle.access_file.specs.declared.place.Party.TheVariants.{Users, Hosts}
use Rattle.access_file.specs.declared.reader.TheConstants.{GROUPS_LIMIT, RULES_LIMIT, NAMES_LIMIT}
use Rattle.access_file.specs.declared.rule.Level.{Level}
use Rattle.access_file.specs.declared.rule.Level.TheVariants.{Zero, One}
use Rattle.access_file.specs.declared.rule.Right.{Right}
use Rattle.access_file.specs.declared.rule.Right.TheVariants as right
use Rattle.access_file.specs.declared.rule.Rule.{Rule}
use Rattle.access_file.specs.Groups.{AccessGroups}
use Rattle.access_file.specs.Tokens.{Token, Word, Quoted, Sign, End}

-- each of what follows is written in front of the rest of the tokens

-- `,` and a name, for each of the names
abbrev pub more_names : List (List ℕ) → List Token → List Token
more_names [] rest = rest
more_names (name ∷ names) rest = Sign 44 ∷ Quoted name ∷ more_names names rest

-- names with commas between them
abbrev pub all_names : List (List ℕ) → List Token → List Token
all_names [] rest = rest
all_names (name ∷ names) rest = Quoted name ∷ more_names names rest

abbrev pub party_keyword : Party → List ℕ
party_keyword Users = codes "UAG"
party_keyword Hosts = codes "HAG"

-- UAG("name") {..}
abbrev pub list_written : Party → List ℕ × List (List ℕ) → List Token → List Token
list_written party e rest =
    Word (party_keyword party) ∷ Sign 40 ∷ Quoted e.0 ∷ Sign 41 ∷ Sign 123 ∷ all_names e.1 (Sign 125 ∷ rest)

abbrev pub lists_written : Party → List (List ℕ × List (List ℕ)) → List Token → List Token
lists_written party [] rest = rest
lists_written party (e ∷ entries) rest = list_written party e (lists_written party entries rest)

-- UAG("name", ..), where a rule names groups of users; likewise of hosts
abbrev pub spoken_written : Party → List (List ℕ) → List Token → List Token
spoken_written party [] rest = rest
spoken_written party (name ∷ names) rest =
    Word (party_keyword party) ∷ Sign 40 ∷ Quoted name ∷ more_names names (Sign 41 ∷ rest)

abbrev pub level_word : Level → List ℕ
level_word Zero = codes "0"
level_word One = codes "1"

abbrev pub right_word : Right → List ℕ
right_word right.None = codes "NONE"
right_word right.Read = codes "READ"
right_word right.Write = codes "WRITE"

abbrev pub recording_word : Bool → List ℕ
recording_word true = codes "TRAPWRITE"
recording_word false = codes "NOTRAPWRITE"

-- RULE(level, right, recording) {..}
abbrev pub rule_written : Rule → List Token → List Token
rule_written rule rest =
    Word (codes "RULE") ∷ Sign 40 ∷ Word (level_word rule.level) ∷ Sign 44 ∷ Word (right_word rule.grant.right) ∷ Sign 44
    ∷ Word (recording_word rule.grant.recorded) ∷ Sign 41 ∷ Sign 123
    ∷ spoken_written Users rule.users (spoken_written Hosts rule.hosts (Sign 125 ∷ rest))

abbrev pub rules_written : List Rule → List Token → List Token
rules_written [] rest = rest
rules_written (rule ∷ rules) rest = rule_written rule (rules_written rules rest)

-- ASG("name") {..}
abbrev pub group_written : List ℕ × List Rule → List Token → List Token
group_written e rest =
    Word (codes "ASG") ∷ Sign 40 ∷ Quoted e.0 ∷ Sign 41 ∷ Sign 123 ∷ rules_written e.1 (Sign 125 ∷ rest)

abbrev pub groups_written : List (List ℕ × List Rule) → List Token → List Token
groups_written [] rest = rest
groups_written (e ∷ entries) rest = group_written e (groups_written entries rest)

-- a file: its groups of users, its groups of hosts, its security groups
abbrev pub written : AccessGroups → List Token
written file = lists_written Users file.users (lists_written Hosts file.hosts (groups_written file.groups (End ∷ [])))

-- ---- what a file must be so that it can be written

-- a name that none of those before has
abbrev pub IsNew : {V : Type 0} → List (List ℕ × V) → List ℕ → Type 0
IsNew before name = (is_group name ≡ true) × (lookup (bytes_eq name) before ≡ None)

-- names are 1 to 127 printable characters without a blank
abbrev pub AreNames : List (List ℕ) → Type 0
AreNames [] = Unit {0}
AreNames (name ∷ names) = (is_group name ≡ true) × AreNames names

-- groups, each with a name that none of those before has
abbrev pub AreLists : List (List ℕ × List (List ℕ)) → List (List ℕ × List (List ℕ)) → Type 0
AreLists before [] = Unit {0}
AreLists before (e ∷ entries) = IsNew before e.0 × AreNames e.1 × AreLists (before ++ e ∷ []) entries

-- names, each of a group that is defined
abbrev pub AreDefined : List (List ℕ × List (List ℕ)) → List (List ℕ) → Type 0
AreDefined groups [] = Unit {0}
AreDefined groups (name ∷ names) = (is_group name ≡ true) × (is_some (lookup (bytes_eq name) groups) ≡ true) × AreDefined groups names

-- rules that speak of these groups of users and hosts
abbrev pub AreRules : List (List ℕ × List (List ℕ)) → List (List ℕ × List (List ℕ)) → List Rule → Type 0
AreRules users hosts [] = Unit {0}
AreRules users hosts (rule ∷ rules) = AreDefined users rule.users × AreDefined hosts rule.hosts × AreRules users hosts rules

abbrev pub AreGroups : List (List ℕ × List (List ℕ)) → List (List ℕ × List (List ℕ)) → List (List ℕ × List Rule) → List (List ℕ × List Rule) → Type 0
AreGroups users hosts before [] = Unit {0}
AreGroups users hosts before (e ∷ entries) =
    IsNew before e.0 × AreRules users hosts e.1 × AreGroups users hosts (before ++ e ∷ []) entries

abbrev pub members_in : List (List ℕ × List (List ℕ)) → ℕ
members_in [] = 0
members_in (e ∷ entries) = length e.1 + members_in entries

abbrev pub names_in_rules : List Rule → ℕ
names_in_rules [] = 0
names_in_rules (rule ∷ rules) = length rule.users + length rule.hosts + names_in_rules rules

abbrev pub names_in_groups : List (List ℕ × List Rule) → ℕ
names_in_groups [] = 0
names_in_groups (e ∷ entries) = names_in_rules e.1 + names_in_groups entries

abbrev pub rules_in : List (List ℕ × List Rule) → ℕ
rules_in [] = 0
rules_in (e ∷ entries) = length e.1 + rules_in entries

-- groups are apart and defined above, and there are no more than a file may have
pub record IsWritable (file : AccessGroups) : Type 0 where
  pub users : AreLists [] file.users
  pub hosts : AreLists [] file.hosts
  pub groups : AreGroups file.users file.hosts [] file.groups
  pub few_users : length file.users ≤ GROUPS_LIMIT
  pub few_hosts : length file.hosts ≤ GROUPS_LIMIT
  pub few_groups : length file.groups ≤ GROUPS_LIMIT
  pub few_rules : rules_in file.groups ≤ RULES_LIMIT
  pub few_names : members_in file.users + members_in file.hosts + names_in_groups file.groups ≤ NAMES_LIMIT
