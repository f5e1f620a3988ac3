-- What may stand where in an access security file, and what is read then, token by token.
use Rattle.std.specs.Prelude.{ℕ, ◌+◌, Bool, false, not, ◌==◌, nat_le, if◌then◌else◌, List, [], ◌∷◌, ◌++◌, length, bytes_eq, Option, Some, None, is_some, Result, Ok, Err}
use Rattle.std.specs.Map.{lookup}
use Rattle.access_file.specs.declared.fault.AccessCause.{AccessCause}
use Rattle.access_file.specs.declared.fault.AccessCause.TheVariants.{Unexpected, Unfinished, BadLevel, BadRight, NoUsers, NoHosts, Twice, TooMany}
use Rattle.access_file.specs.declared.place.Behind.{Behind}
use Rattle.access_file.specs.declared.place.Behind.TheVariants as behind
use Rattle.access_file.specs.declared.place.Kind.{Kind}
use Rattle.access_file.specs.declared.place.Kind.TheVariants as kind
use Rattle.access_file.specs.declared.place.Naming.{Naming}
use Rattle.access_file.specs.declared.place.Naming.TheVariants as naming
use Rattle.access_file.specs.declared.place.Party.{Party}
use Rattle.access_file.specs.declared.place.Party.TheVariants.{Users, Hosts}
use Rattle.access_file.specs.declared.place.Expected.{Expected}
use Rattle.access_file.specs.declared.place.Expected.TheVariants as place
use Rattle.access_file.specs.declared.place.Scope.{Scope}
use Rattle.access_file.specs.declared.place.Scope.TheVariants as scope
use Rattle.access_file.specs.declared.place.Setting.{Setting}
use Rattle.access_file.specs.declared.place.Setting.TheVariants as setting
use Rattle.access_file.specs.declared.reader.Reader.{Reader}
use Rattle.access_file.specs.declared.reader.TheConstants.{GROUPS_LIMIT, RULES_LIMIT, NAMES_LIMIT}
use Rattle.access_file.specs.declared.rule.Level.{Level}
use Rattle.access_file.specs.declared.rule.Level.TheVariants.{Zero}
use Rattle.access_file.specs.declared.rule.Right.{Right}
use Rattle.access_file.specs.declared.rule.Rule.{Rule}
use Rattle.access_file.specs.Groups.{AccessGroups, no_grant}
use Rattle.access_file.specs.Keywords.{kind_of, party_of, is_rule, no_keyword, level_of, right_of, recording_of}
use Rattle.access_file.specs.Named.{put}
use Rattle.access_file.specs.Naming.{name_of}
use Rattle.access_file.specs.Tokens.{Token, Word, Quoted, Sign, Faulty, End}

-- before the first token
abbrev pub start : Reader
start = record {
  users = [];
  hosts = [];
  groups = [];
  place = place.Keyword scope.Top;
  name = None;
  members = [];
  rules = [];
  level = Zero;
  grant = no_grant;
  spoken_users = [];
  spoken_hosts = [];
  rule_count = 0;
  name_count = 0;
}

abbrev pub at : Expected → Reader → Reader
at next s = record s { place = next }

-- this sign must stand here
abbrev pub expected : Reader → ℕ → ℕ → Expected → Result Reader AccessCause
expected s sign wanted next = if sign == wanted then Ok (at next s) else Err Unexpected

-- ---- what was being defined

-- a group of users or hosts with its members
abbrev pub with_list : Party → List ℕ → List (List ℕ) → Reader → Reader
with_list Users name members s = record s { users = put s.users name members }
with_list Hosts name members s = record s { hosts = put s.hosts name members }

-- the group that was being defined, among the others
abbrev pub with_group : Kind → List ℕ → Reader → Reader
with_group (kind.List party) name s = with_list party name s.members (record s { members = [] })
with_group kind.Rules name s = record s { groups = put s.groups name s.rules; rules = [] }

abbrev pub closed_as : Kind → Option (List ℕ) → Reader → Reader
closed_as kind None s = s
closed_as kind (Some name) s = with_group kind name s

-- its definition has ended
abbrev pub closed : Kind → Reader → Reader
closed kind s = closed_as kind s.name (record s { name = None; place = place.Keyword scope.Top })

abbrev pub rule_of : Reader → Rule
rule_of s = record { level = s.level; grant = s.grant; users = s.spoken_users; hosts = s.spoken_hosts }

-- the rule that was being read has ended
abbrev pub ruled : Reader → Reader
ruled s = record s { rules = s.rules ++ rule_of s ∷ []; spoken_users = []; spoken_hosts = [] }

-- ---- keywords

abbrev pub kind_taken : Reader → Option Kind → List ℕ → Result Reader AccessCause
kind_taken s None word = Err (no_keyword word)
kind_taken s (Some kind) word = Ok (at (place.Sign (behind.Keyword kind)) s)

-- UAG, HAG or ASG
abbrev pub top_word : Reader → List ℕ → Result Reader AccessCause
top_word s word = kind_taken s (kind_of word) word

-- RULE
abbrev pub rule_word : Reader → List ℕ → Result Reader AccessCause
rule_word s word =
    if not (is_rule word) then Err (no_keyword word)
    else if nat_le RULES_LIMIT s.rule_count then Err TooMany
    else Ok (record s { rule_count = s.rule_count + 1; place = place.Sign behind.Rule })

abbrev pub party_taken : Reader → Option Party → List ℕ → Result Reader AccessCause
party_taken s None word = Err (no_keyword word)
party_taken s (Some party) word = Ok (at (place.Sign (behind.Speaking party)) s)

-- UAG or HAG
abbrev pub party_word : Reader → List ℕ → Result Reader AccessCause
party_word s word = party_taken s (party_of word) word

abbrev pub keyword : Reader → Scope → List ℕ → Result Reader AccessCause
keyword s scope.Top word = top_word s word
keyword s (scope.Headed kind) word = top_word (closed kind s) word
keyword s scope.Rules word = rule_word s word
keyword s scope.Ruled word = rule_word (ruled s) word
keyword s scope.Parties word = party_word s word

-- ---- names

-- a group of this name is defined above
abbrev pub is_defined : Reader → Kind → List ℕ → Bool
is_defined s (kind.List Users) name = is_some (lookup (bytes_eq name) s.users)
is_defined s (kind.List Hosts) name = is_some (lookup (bytes_eq name) s.hosts)
is_defined s kind.Rules name = is_some (lookup (bytes_eq name) s.groups)

-- there are as many groups of the kind as a file may have
abbrev pub is_full : Reader → Kind → Bool
is_full s (kind.List Users) = nat_le GROUPS_LIMIT (length s.users)
is_full s (kind.List Hosts) = nat_le GROUPS_LIMIT (length s.hosts)
is_full s kind.Rules = nat_le GROUPS_LIMIT (length s.groups)

-- a name that is defined
abbrev pub defined_as : Reader → Kind → Result (List ℕ) AccessCause → Result Reader AccessCause
defined_as s kind (Err cause) = Err cause
defined_as s kind (Ok name) =
    if is_defined s kind name then Err Twice
    else if is_full s kind then Err TooMany
    else Ok (record s { name = Some name; place = place.Sign (behind.Group kind) })

abbrev pub group_named : Reader → Kind → List ℕ → Result Reader AccessCause
group_named s kind word = defined_as s kind (name_of word)

-- a name in a list
abbrev pub listed_as : Reader → Party → Result (List ℕ) AccessCause → Result Reader AccessCause
listed_as s party (Err cause) = Err cause
listed_as s party (Ok name) =
    if nat_le NAMES_LIMIT s.name_count then Err TooMany
    else Ok (record s { members = s.members ++ name ∷ []; name_count = s.name_count + 1; place = place.Sign (behind.Member party) })

abbrev pub member_named : Reader → Party → List ℕ → Result Reader AccessCause
member_named s party word = listed_as s party (name_of word)

abbrev pub undefined : Party → AccessCause
undefined Users = NoUsers
undefined Hosts = NoHosts

-- the rule that is being read speaks of the group too
abbrev pub speaking_of : Party → List ℕ → Reader → Reader
speaking_of Users name s = record s { spoken_users = s.spoken_users ++ name ∷ [] }
speaking_of Hosts name s = record s { spoken_hosts = s.spoken_hosts ++ name ∷ [] }

-- a name of a group in a rule
abbrev pub spoken_as : Reader → Party → Result (List ℕ) AccessCause → Result Reader AccessCause
spoken_as s party (Err cause) = Err cause
spoken_as s party (Ok name) =
    if not (is_defined s (kind.List party) name) then Err (undefined party)
    else if nat_le NAMES_LIMIT s.name_count then Err TooMany
    else Ok (speaking_of party name (record s { name_count = s.name_count + 1; place = place.Sign (behind.Spoken party) }))

abbrev pub spoken_named : Reader → Party → List ℕ → Result Reader AccessCause
spoken_named s party word = spoken_as s party (name_of word)

abbrev pub named : Reader → Naming → List ℕ → Result Reader AccessCause
named s (naming.Group kind) word = group_named s kind word
named s (naming.First party) word = member_named s party word
named s (naming.Member party) word = member_named s party word
named s (naming.Spoken party) word = spoken_named s party word

-- ---- the head of a rule

abbrev pub level_set : Reader → Option Level → Result Reader AccessCause
level_set s None = Err BadLevel
level_set s (Some level) = Ok (record s { level = level; place = place.Sign behind.Level })

-- a right is without a record, unless one is asked for
abbrev pub right_set : Reader → Option Right → Result Reader AccessCause
right_set s None = Err BadRight
right_set s (Some right) = Ok (record s { grant = record { right = right; recorded = false }; place = place.Sign behind.Right })

abbrev pub recording_set : Reader → Option Bool → Result Reader AccessCause
recording_set s None = Err BadRight
recording_set s (Some recorded) =
    Ok (record s { grant = record { right = s.grant.right; recorded = recorded }; place = place.Sign behind.Recording })

abbrev pub set : Reader → Setting → List ℕ → Result Reader AccessCause
set s setting.Level word = level_set s (level_of word)
set s setting.Right word = right_set s (right_of word)
set s setting.Recording word = recording_set s (recording_of word)

-- ---- signs

-- `{` behind the head of a definition
abbrev pub inside : Kind → Expected
inside (kind.List party) = place.Name (naming.First party)
inside kind.Rules = place.Keyword scope.Rules

abbrev pub scope_signed : Reader → Scope → ℕ → Result Reader AccessCause
scope_signed s scope.Top sign = Err Unexpected
scope_signed s (scope.Headed kind) sign = expected s sign 123 (inside kind)
scope_signed s scope.Rules sign = if sign == 125 then Ok (closed kind.Rules s) else Err Unexpected
scope_signed s scope.Ruled sign =
    if sign == 123 then Ok (at (place.Keyword scope.Parties) s)
    else if sign == 125 then Ok (closed kind.Rules (ruled s))
    else Err Unexpected
scope_signed s scope.Parties sign = if sign == 125 then Ok (at (place.Keyword scope.Rules) (ruled s)) else Err Unexpected

-- `}` of a list
abbrev pub list_signed : Reader → Party → ℕ → Result Reader AccessCause
list_signed s party sign = if sign == 125 then Ok (closed (kind.List party) s) else Err Unexpected

-- a list may be empty
abbrev pub name_signed : Reader → Naming → ℕ → Result Reader AccessCause
name_signed s (naming.Group kind) sign = Err Unexpected
name_signed s (naming.First party) sign = list_signed s party sign
name_signed s (naming.Member party) sign = Err Unexpected
name_signed s (naming.Spoken party) sign = Err Unexpected

abbrev pub member_signed : Reader → Party → ℕ → Result Reader AccessCause
member_signed s party sign = if sign == 44 then Ok (at (place.Name (naming.Member party)) s) else list_signed s party sign

abbrev pub right_signed : Reader → ℕ → Result Reader AccessCause
right_signed s sign = if sign == 44 then Ok (at (place.Setting setting.Recording) s) else expected s sign 41 (place.Keyword scope.Ruled)

abbrev pub spoken_signed : Reader → Party → ℕ → Result Reader AccessCause
spoken_signed s party sign =
    if sign == 44 then Ok (at (place.Name (naming.Spoken party)) s) else expected s sign 41 (place.Keyword scope.Parties)

abbrev pub signed_behind : Reader → Behind → ℕ → Result Reader AccessCause
signed_behind s (behind.Keyword kind) sign = expected s sign 40 (place.Name (naming.Group kind))
signed_behind s (behind.Group kind) sign = expected s sign 41 (place.Keyword (scope.Headed kind))
signed_behind s (behind.Member party) sign = member_signed s party sign
signed_behind s behind.Rule sign = expected s sign 40 (place.Setting setting.Level)
signed_behind s behind.Level sign = expected s sign 44 (place.Setting setting.Right)
signed_behind s behind.Right sign = right_signed s sign
signed_behind s behind.Recording sign = expected s sign 41 (place.Keyword scope.Ruled)
signed_behind s (behind.Speaking party) sign = expected s sign 40 (place.Name (naming.Spoken party))
signed_behind s (behind.Spoken party) sign = spoken_signed s party sign

-- ---- tokens

abbrev pub word_at : Reader → Expected → List ℕ → Result Reader AccessCause
word_at s (place.Keyword scope) word = keyword s scope word
word_at s (place.Name naming) word = named s naming word
word_at s (place.Setting setting) word = set s setting word
word_at s (place.Sign behind) word = Err Unexpected

abbrev pub word_taken : Reader → List ℕ → Result Reader AccessCause
word_taken s word = word_at s s.place word

-- what stands between quotes is a name and nothing else
abbrev pub quoted_at : Reader → Expected → List ℕ → Result Reader AccessCause
quoted_at s (place.Keyword scope) text = Err Unexpected
quoted_at s (place.Name naming) text = named s naming text
quoted_at s (place.Setting setting) text = Err Unexpected
quoted_at s (place.Sign behind) text = Err Unexpected

abbrev pub quoted_taken : Reader → List ℕ → Result Reader AccessCause
quoted_taken s text = quoted_at s s.place text

abbrev pub sign_at : Reader → Expected → ℕ → Result Reader AccessCause
sign_at s (place.Keyword scope) sign = scope_signed s scope sign
sign_at s (place.Name naming) sign = name_signed s naming sign
sign_at s (place.Setting setting) sign = Err Unexpected
sign_at s (place.Sign behind) sign = signed_behind s behind sign

abbrev pub sign_taken : Reader → ℕ → Result Reader AccessCause
sign_taken s sign = sign_at s s.place sign

abbrev pub scope_ended : Reader → Scope → Result Reader AccessCause
scope_ended s scope.Top = Ok s
scope_ended s (scope.Headed kind) = Ok (closed kind s)
scope_ended s scope.Rules = Err Unfinished
scope_ended s scope.Ruled = Err Unfinished
scope_ended s scope.Parties = Err Unfinished

abbrev pub ended_at : Reader → Expected → Result Reader AccessCause
ended_at s (place.Keyword scope) = scope_ended s scope
ended_at s (place.Name naming) = Err Unfinished
ended_at s (place.Setting setting) = Err Unfinished
ended_at s (place.Sign behind) = Err Unfinished

abbrev pub ended : Reader → Result Reader AccessCause
ended s = ended_at s s.place

-- what is read once the token is
abbrev pub taken : Reader → Token → Result Reader AccessCause
taken s (Word word) = word_taken s word
taken s (Quoted text) = quoted_taken s text
taken s (Sign sign) = sign_taken s sign
taken s (Faulty cause) = Err cause
taken s End = ended s

-- a fault stays
abbrev pub taken_on : Result Reader AccessCause → Token → Result Reader AccessCause
taken_on (Err cause) token = Err cause
taken_on (Ok s) token = taken s token

-- what is read once all of the tokens are, or the first cause
abbrev pub all_taken : Result Reader AccessCause → List Token → Result Reader AccessCause
all_taken read [] = read
all_taken read (token ∷ rest) = all_taken (taken_on read token) rest

abbrev pub groups_of : Reader → AccessGroups
groups_of s = record { users = s.users; hosts = s.hosts; groups = s.groups }

abbrev pub groups_read : Result Reader AccessCause → Result AccessGroups AccessCause
groups_read (Err cause) = Err cause
groups_read (Ok s) = Ok (groups_of s)

-- the file that the tokens are, of which `End` is the last
abbrev pub reads : List Token → Result AccessGroups AccessCause
reads tokens = groups_read (all_taken (Ok start) tokens)
