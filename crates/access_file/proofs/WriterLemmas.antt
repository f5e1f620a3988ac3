-- What is written is read again.
use Rattle.std.proofs.Common.{◌≡◌, ℕ, ◌+◌, ◌<◌, ◌≤◌, Bool, true, false, not, cond, List, [], ◌∷◌, ◌++◌, length, Some, None, Ok, Err, refl, sym, ap, ◌∙◌, append_assoc, length-append, arith}
use Rattle.std.specs.Prelude.{nat_le, bytes_eq, codes, is_some}
use Rattle.std.specs.Map.{lookup}
use Rattle.std.proofs.lemmas.Bool.Decides.{nat_tests}
use Rattle.std.proofs.lemmas.List.{append-nil}
use Rattle.pv_name.specs.Group.{is_group}
use Rattle.access_file.specs.declared.fault.AccessCause.TheVariants.{BadName, Twice, TooMany}
use Rattle.access_file.specs.declared.place.Behind.TheVariants as behind
use Rattle.access_file.specs.declared.place.Kind.{Kind}
use Rattle.access_file.specs.declared.place.Kind.TheVariants as kind
use Rattle.access_file.specs.declared.place.Naming.TheVariants as naming
use Rattle.access_file.specs.declared.place.Party.{Party}
use Rattle.access_file.specs.declared.place.Party.TheVariants.{Users, Hosts}
use Rattle.access_file.specs.declared.place.Expected.{Expected}
use Rattle.access_file.specs.declared.place.Expected.TheVariants as place
use Rattle.access_file.specs.declared.place.Scope.TheVariants as scope
use Rattle.access_file.specs.declared.place.Setting.TheVariants as setting
use Rattle.access_file.specs.declared.reader.Reader.{Reader}
use Rattle.access_file.specs.declared.reader.TheConstants.{GROUPS_LIMIT, RULES_LIMIT, NAMES_LIMIT}
use Rattle.access_file.specs.declared.rule.Grant.{Grant}
use Rattle.access_file.specs.declared.rule.Level.{Level}
use Rattle.access_file.specs.declared.rule.Level.TheVariants.{Zero, One}
use Rattle.access_file.specs.declared.rule.Right.{Right}
use Rattle.access_file.specs.declared.rule.Right.TheVariants as right
use Rattle.access_file.specs.declared.rule.Rule.{Rule}
use Rattle.access_file.specs.Grammar.{start, closed, level_set, right_set, recording_set, is_defined, is_full, group_named, defined_as, member_named, listed_as, spoken_named, spoken_as, speaking_of, undefined, all_taken, groups_read, reads}
use Rattle.access_file.specs.Groups.{AccessGroups}
use Rattle.access_file.specs.Keywords.{level_of, right_of, recording_of}
use Rattle.access_file.specs.Named.{put}
use Rattle.access_file.specs.Naming.{name_of}
use Rattle.access_file.specs.Tokens.{Token, Word, Sign, End}
use Rattle.access_file.specs.Writing.{more_names, all_names, list_written, lists_written, spoken_written, level_word, right_word, recording_word, rule_written, rules_written, group_written, groups_written, written, IsNew, AreNames, AreLists, AreDefined, AreRules, AreGroups, members_in, names_in_rules, names_in_groups, rules_in, IsWritable}

abbrev top : Expected
top = place.Keyword scope.Top

-- a name that none of those before has goes last
put-new : {V : Type 0} (es : List (List ℕ × V)) (name : List ℕ) (value : V) → lookup (bytes_eq name) es ≡ None → put es name value ≡ es ++ (name, value) ∷ []
put-new [] name value none = refl
put-new (e ∷ es) name value none = by (bytes_eq name e.0) none (put-new es name value)
  where
    by : (same : Bool) → cond same (Some e.1) (lookup (bytes_eq name) es) ≡ None → (lookup (bytes_eq name) es ≡ None → put es name value ≡ es ++ (name, value) ∷ [])
        → cond same ((e.0, value) ∷ es) (e ∷ put es name value) ≡ e ∷ (es ++ (name, value) ∷ [])
    by true none step = cc
    by false none step = ap (λ x. e ∷ x) (step none)

-- ---- tests that are passed

room_for : (limit n : ℕ) → n < limit → nat_le limit n ≡ false
room_for limit n h = grind (arith, nat_tests)

passes_room : (full : Bool) (s : Reader) → full ≡ false → cond full (Err TooMany) (Ok s) ≡ Ok s
passes_room full s room = ap (λ f. cond f (Err TooMany) (Ok s)) room

name_is : (name : List ℕ) → is_group name ≡ true → name_of name ≡ Ok name
name_is name good = ap (λ g. cond g (Ok name) (Err BadName)) good

defined-passes : (s : Reader) (k : Kind) (name : List ℕ) → is_group name ≡ true → is_defined s k name ≡ false → is_full s k ≡ false
    → group_named s k name ≡ Ok (record s { name = Some name; place = place.Sign (behind.Group k) })
defined-passes s k name good new room =
    ap (defined_as s k) (name_is name good)
    ∙ ap (λ t. cond t (Err Twice) (cond (is_full s k) (Err TooMany) (Ok (record s { name = Some name; place = place.Sign (behind.Group k) })))) new
    ∙ passes_room (is_full s k) (record s { name = Some name; place = place.Sign (behind.Group k) }) room

member-passes : (s : Reader) (party : Party) (name : List ℕ) → is_group name ≡ true → s.name_count < NAMES_LIMIT
    → member_named s party name ≡ Ok (record s { members = s.members ++ name ∷ []; name_count = s.name_count + 1; place = place.Sign (behind.Member party) })
member-passes s party name good few =
    ap (listed_as s party) (name_is name good)
    ∙ passes_room (nat_le NAMES_LIMIT s.name_count) (record s { members = s.members ++ name ∷ []; name_count = s.name_count + 1; place = place.Sign (behind.Member party) })
    (room_for NAMES_LIMIT s.name_count few)

spoken-passes : (s : Reader) (party : Party) (name : List ℕ) → is_group name ≡ true → is_defined s (kind.List party) name ≡ true → s.name_count < NAMES_LIMIT
    → spoken_named s party name ≡ Ok (speaking_of party name (record s { name_count = s.name_count + 1; place = place.Sign (behind.Spoken party) }))
spoken-passes s party name good defined few =
    ap (spoken_as s party) (name_is name good)
    ∙ ap (λ t. cond (not t) (Err (undefined party)) (cond (nat_le NAMES_LIMIT s.name_count) (Err TooMany) (Ok (speaking_of party name (record s { name_count = s.name_count + 1; place = place.Sign (behind.Spoken party) }))))) defined
    ∙ passes_room (nat_le NAMES_LIMIT s.name_count) (speaking_of party name (record s { name_count = s.name_count + 1; place = place.Sign (behind.Spoken party) }))
    (room_for NAMES_LIMIT s.name_count few)

-- ---- lists

more_names-read : (party : Party) (names : List (List ℕ)) (rest : List Token) (s : Reader) (all : List (List ℕ)) (total : ℕ)
    → AreNames names → s.members ++ names ≡ all → s.name_count + length names ≡ total → total ≤ NAMES_LIMIT
    → all_taken (Ok (record s { place = place.Sign (behind.Member party) })) (more_names names rest)
    ≡ all_taken (Ok (record s { members = all; name_count = total; place = place.Sign (behind.Member party) })) rest
more_names-read party [] rest s all total are members count few =
    let m : s.members ≡ all = sym (append-nil s.members) ∙ members in
    let n : s.name_count ≡ total = omega (arith, count) in
    ap (λ x. all_taken (Ok (record s { members = x; place = place.Sign (behind.Member party) })) rest) m
    ∙ ap (λ x. all_taken (Ok (record s { members = all; name_count = x; place = place.Sign (behind.Member party) })) rest) n
more_names-read party (name ∷ names) rest s all total are members count few =
    ap (λ r. all_taken r (more_names names rest))
    (member-passes (record s { place = place.Name (naming.Member party) }) party name are.0 (omega (arith, count, few)))
    ∙ more_names-read party names rest (record s { members = s.members ++ name ∷ []; name_count = s.name_count + 1 }) all total
    are.1 (append_assoc s.members (name ∷ []) names ∙ members) (omega (arith, count)) few

all_names-read : (party : Party) (names : List (List ℕ)) (rest : List Token) (s : Reader) (total : ℕ)
    → AreNames names → s.name_count + length names ≡ total → total ≤ NAMES_LIMIT
    → all_taken (Ok (record s { members = []; place = place.Name (naming.First party) })) (all_names names (Sign 125 ∷ rest))
    ≡ all_taken (Ok (closed (kind.List party) (record s { members = names; name_count = total }))) rest
all_names-read party [] rest s total are count few =
    let n : s.name_count ≡ total = omega (arith, count) in
    ap (λ x. all_taken (Ok (closed (kind.List party) (record s { members = []; name_count = x }))) rest) n
all_names-read party (name ∷ names) rest s total are count few =
    ap (λ r. all_taken r (more_names names (Sign 125 ∷ rest)))
    (member-passes (record s { members = []; place = place.Name (naming.First party) }) party name are.0 (omega (arith, count, few)))
    ∙ more_names-read party names (Sign 125 ∷ rest) (record s { members = name ∷ []; name_count = s.name_count + 1 }) (name ∷ names) total
    are.1 refl (omega (arith, count)) few

users_list-read : (e : List ℕ × List (List ℕ)) (rest : List Token) (s : Reader) (total : ℕ)
    → IsNew s.users e.0 → length s.users < GROUPS_LIMIT → AreNames e.1 → s.name_count + length e.1 ≡ total → total ≤ NAMES_LIMIT
    → all_taken (Ok (record s { name = None; members = []; place = top })) (list_written Users e rest)
    ≡ all_taken (Ok (record s { users = s.users ++ e ∷ []; name = None; members = []; name_count = total; place = top })) rest
users_list-read e rest s total new few are count most =
    ap (λ r. all_taken r (Sign 41 ∷ Sign 123 ∷ all_names e.1 (Sign 125 ∷ rest)))
    (defined-passes (record s { name = None; members = []; place = place.Name (naming.Group (kind.List Users)) }) (kind.List Users) e.0 new.0 (ap is_some new.1) (room_for GROUPS_LIMIT (length s.users) few))
    ∙ all_names-read Users e.1 rest (record s { name = Some e.0 }) total are count most
    ∙ ap (λ users. all_taken (Ok (record s { users = users; name = None; members = []; name_count = total; place = top })) rest) (put-new s.users e.0 e.1 new.1)

users-read : (entries : List (List ℕ × List (List ℕ))) (rest : List Token) (s : Reader) (all : List (List ℕ × List (List ℕ))) (total : ℕ)
    → AreLists s.users entries → length s.users + length entries ≤ GROUPS_LIMIT → s.users ++ entries ≡ all → s.name_count + members_in entries ≡ total → total ≤ NAMES_LIMIT
    → all_taken (Ok (record s { name = None; members = []; place = top })) (lists_written Users entries rest)
    ≡ all_taken (Ok (record s { users = all; name = None; members = []; name_count = total; place = top })) rest
users-read [] rest s all total are few users count most =
    let m : s.users ≡ all = sym (append-nil s.users) ∙ users in
    let n : s.name_count ≡ total = omega (arith, count) in
    ap (λ x. all_taken (Ok (record s { users = x; name = None; members = []; place = top })) rest) m
    ∙ ap (λ x. all_taken (Ok (record s { users = all; name = None; members = []; name_count = x; place = top })) rest) n
users-read (e ∷ entries) rest s all total are few users count most =
    users_list-read e (lists_written Users entries rest) s (s.name_count + length e.1) are.0 (omega (arith, few)) are.1 refl (omega (arith, count, most))
    ∙ users-read entries rest (record s { users = s.users ++ e ∷ []; name_count = s.name_count + length e.1 }) all total
    are.2 (omega (arith, few, length-append s.users (e ∷ []))) (append_assoc s.users (e ∷ []) entries ∙ users) (omega (arith, count)) most

hosts_list-read : (e : List ℕ × List (List ℕ)) (rest : List Token) (s : Reader) (total : ℕ)
    → IsNew s.hosts e.0 → length s.hosts < GROUPS_LIMIT → AreNames e.1 → s.name_count + length e.1 ≡ total → total ≤ NAMES_LIMIT
    → all_taken (Ok (record s { name = None; members = []; place = top })) (list_written Hosts e rest)
    ≡ all_taken (Ok (record s { hosts = s.hosts ++ e ∷ []; name = None; members = []; name_count = total; place = top })) rest
hosts_list-read e rest s total new few are count most =
    ap (λ r. all_taken r (Sign 41 ∷ Sign 123 ∷ all_names e.1 (Sign 125 ∷ rest)))
    (defined-passes (record s { name = None; members = []; place = place.Name (naming.Group (kind.List Hosts)) }) (kind.List Hosts) e.0 new.0 (ap is_some new.1) (room_for GROUPS_LIMIT (length s.hosts) few))
    ∙ all_names-read Hosts e.1 rest (record s { name = Some e.0 }) total are count most
    ∙ ap (λ hosts. all_taken (Ok (record s { hosts = hosts; name = None; members = []; name_count = total; place = top })) rest) (put-new s.hosts e.0 e.1 new.1)

hosts-read : (entries : List (List ℕ × List (List ℕ))) (rest : List Token) (s : Reader) (all : List (List ℕ × List (List ℕ))) (total : ℕ)
    → AreLists s.hosts entries → length s.hosts + length entries ≤ GROUPS_LIMIT → s.hosts ++ entries ≡ all → s.name_count + members_in entries ≡ total → total ≤ NAMES_LIMIT
    → all_taken (Ok (record s { name = None; members = []; place = top })) (lists_written Hosts entries rest)
    ≡ all_taken (Ok (record s { hosts = all; name = None; members = []; name_count = total; place = top })) rest
hosts-read [] rest s all total are few hosts count most =
    let m : s.hosts ≡ all = sym (append-nil s.hosts) ∙ hosts in
    let n : s.name_count ≡ total = omega (arith, count) in
    ap (λ x. all_taken (Ok (record s { hosts = x; name = None; members = []; place = top })) rest) m
    ∙ ap (λ x. all_taken (Ok (record s { hosts = all; name = None; members = []; name_count = x; place = top })) rest) n
hosts-read (e ∷ entries) rest s all total are few hosts count most =
    hosts_list-read e (lists_written Hosts entries rest) s (s.name_count + length e.1) are.0 (omega (arith, few)) are.1 refl (omega (arith, count, most))
    ∙ hosts-read entries rest (record s { hosts = s.hosts ++ e ∷ []; name_count = s.name_count + length e.1 }) all total
    are.2 (omega (arith, few, length-append s.hosts (e ∷ []))) (append_assoc s.hosts (e ∷ []) entries ∙ hosts) (omega (arith, count)) most

-- ---- whom a rule speaks to

more_users-read : (names : List (List ℕ)) (rest : List Token) (s : Reader) (all : List (List ℕ)) (total : ℕ)
    → AreDefined s.users names → s.spoken_users ++ names ≡ all → s.name_count + length names ≡ total → total ≤ NAMES_LIMIT
    → all_taken (Ok (record s { place = place.Sign (behind.Spoken Users) })) (more_names names rest)
    ≡ all_taken (Ok (record s { spoken_users = all; name_count = total; place = place.Sign (behind.Spoken Users) })) rest
more_users-read [] rest s all total are spoken count few =
    let m : s.spoken_users ≡ all = sym (append-nil s.spoken_users) ∙ spoken in
    let n : s.name_count ≡ total = omega (arith, count) in
    ap (λ x. all_taken (Ok (record s { spoken_users = x; place = place.Sign (behind.Spoken Users) })) rest) m
    ∙ ap (λ x. all_taken (Ok (record s { spoken_users = all; name_count = x; place = place.Sign (behind.Spoken Users) })) rest) n
more_users-read (name ∷ names) rest s all total are spoken count few =
    ap (λ r. all_taken r (more_names names rest))
    (spoken-passes (record s { place = place.Name (naming.Spoken Users) }) Users name are.0 are.1 (omega (arith, count, few)))
    ∙ more_users-read names rest (record s { spoken_users = s.spoken_users ++ name ∷ []; name_count = s.name_count + 1 }) all total
    are.2 (append_assoc s.spoken_users (name ∷ []) names ∙ spoken) (omega (arith, count)) few

spoken_users-read : (names : List (List ℕ)) (rest : List Token) (s : Reader) (total : ℕ)
    → AreDefined s.users names → s.name_count + length names ≡ total → total ≤ NAMES_LIMIT
    → all_taken (Ok (record s { spoken_users = []; place = place.Keyword scope.Parties })) (spoken_written Users names rest)
    ≡ all_taken (Ok (record s { spoken_users = names; name_count = total; place = place.Keyword scope.Parties })) rest
spoken_users-read [] rest s total are count few =
    let n : s.name_count ≡ total = omega (arith, count) in
    ap (λ x. all_taken (Ok (record s { spoken_users = []; name_count = x; place = place.Keyword scope.Parties })) rest) n
spoken_users-read (name ∷ names) rest s total are count few =
    ap (λ r. all_taken r (more_names names (Sign 41 ∷ rest)))
    (spoken-passes (record s { spoken_users = []; place = place.Name (naming.Spoken Users) }) Users name are.0 are.1 (omega (arith, count, few)))
    ∙ more_users-read names (Sign 41 ∷ rest) (record s { spoken_users = name ∷ []; name_count = s.name_count + 1 }) (name ∷ names) total
    are.2 refl (omega (arith, count)) few

more_hosts-read : (names : List (List ℕ)) (rest : List Token) (s : Reader) (all : List (List ℕ)) (total : ℕ)
    → AreDefined s.hosts names → s.spoken_hosts ++ names ≡ all → s.name_count + length names ≡ total → total ≤ NAMES_LIMIT
    → all_taken (Ok (record s { place = place.Sign (behind.Spoken Hosts) })) (more_names names rest)
    ≡ all_taken (Ok (record s { spoken_hosts = all; name_count = total; place = place.Sign (behind.Spoken Hosts) })) rest
more_hosts-read [] rest s all total are spoken count few =
    let m : s.spoken_hosts ≡ all = sym (append-nil s.spoken_hosts) ∙ spoken in
    let n : s.name_count ≡ total = omega (arith, count) in
    ap (λ x. all_taken (Ok (record s { spoken_hosts = x; place = place.Sign (behind.Spoken Hosts) })) rest) m
    ∙ ap (λ x. all_taken (Ok (record s { spoken_hosts = all; name_count = x; place = place.Sign (behind.Spoken Hosts) })) rest) n
more_hosts-read (name ∷ names) rest s all total are spoken count few =
    ap (λ r. all_taken r (more_names names rest))
    (spoken-passes (record s { place = place.Name (naming.Spoken Hosts) }) Hosts name are.0 are.1 (omega (arith, count, few)))
    ∙ more_hosts-read names rest (record s { spoken_hosts = s.spoken_hosts ++ name ∷ []; name_count = s.name_count + 1 }) all total
    are.2 (append_assoc s.spoken_hosts (name ∷ []) names ∙ spoken) (omega (arith, count)) few

spoken_hosts-read : (names : List (List ℕ)) (rest : List Token) (s : Reader) (total : ℕ)
    → AreDefined s.hosts names → s.name_count + length names ≡ total → total ≤ NAMES_LIMIT
    → all_taken (Ok (record s { spoken_hosts = []; place = place.Keyword scope.Parties })) (spoken_written Hosts names rest)
    ≡ all_taken (Ok (record s { spoken_hosts = names; name_count = total; place = place.Keyword scope.Parties })) rest
spoken_hosts-read [] rest s total are count few =
    let n : s.name_count ≡ total = omega (arith, count) in
    ap (λ x. all_taken (Ok (record s { spoken_hosts = []; name_count = x; place = place.Keyword scope.Parties })) rest) n
spoken_hosts-read (name ∷ names) rest s total are count few =
    ap (λ r. all_taken r (more_names names (Sign 41 ∷ rest)))
    (spoken-passes (record s { spoken_hosts = []; place = place.Name (naming.Spoken Hosts) }) Hosts name are.0 are.1 (omega (arith, count, few)))
    ∙ more_hosts-read names (Sign 41 ∷ rest) (record s { spoken_hosts = name ∷ []; name_count = s.name_count + 1 }) (name ∷ names) total
    are.2 refl (omega (arith, count)) few

-- ---- rules

level_of-word : (level : Level) → level_of (level_word level) ≡ Some level
level_of-word Zero = refl
level_of-word One = refl

right_of-word : (r : Right) → right_of (right_word r) ≡ Some r
right_of-word right.None = refl
right_of-word right.Read = refl
right_of-word right.Write = refl

recording_of-word : (recorded : Bool) → recording_of (recording_word recorded) ≡ Some recorded
recording_of-word true = refl
recording_of-word false = refl

-- a rule's head, up to its `{`
head-read : (rule : Rule) (rest : List Token) (s : Reader) → s.rule_count < RULES_LIMIT
    → all_taken (Ok (record s { place = place.Keyword scope.Rules }))
    (Word (codes "RULE") ∷ Sign 40 ∷ Word (level_word rule.level) ∷ Sign 44 ∷ Word (right_word rule.grant.right) ∷ Sign 44
    ∷ Word (recording_word rule.grant.recorded) ∷ Sign 41 ∷ Sign 123 ∷ rest)
    ≡ all_taken (Ok (record s { level = rule.level; grant = rule.grant; rule_count = s.rule_count + 1; place = place.Keyword scope.Parties })) rest
head-read rule rest s few =
    ap (λ r. all_taken r (Sign 40 ∷ Word (level_word rule.level) ∷ Sign 44 ∷ Word (right_word rule.grant.right) ∷ Sign 44
    ∷ Word (recording_word rule.grant.recorded) ∷ Sign 41 ∷ Sign 123 ∷ rest))
    (passes_room (nat_le RULES_LIMIT s.rule_count) (record s { rule_count = s.rule_count + 1; place = place.Sign behind.Rule }) (room_for RULES_LIMIT s.rule_count few))
    ∙ ap (λ l. all_taken (level_set (record s { rule_count = s.rule_count + 1; place = place.Setting setting.Level }) l)
    (Sign 44 ∷ Word (right_word rule.grant.right) ∷ Sign 44 ∷ Word (recording_word rule.grant.recorded) ∷ Sign 41 ∷ Sign 123 ∷ rest)) (level_of-word rule.level)
    ∙ ap (λ r. all_taken (right_set (record s { level = rule.level; rule_count = s.rule_count + 1; place = place.Setting setting.Right }) r)
    (Sign 44 ∷ Word (recording_word rule.grant.recorded) ∷ Sign 41 ∷ Sign 123 ∷ rest)) (right_of-word rule.grant.right)
    ∙ ap (λ t. all_taken (recording_set (record s { level = rule.level; grant = record { right = rule.grant.right; recorded = false }; rule_count = s.rule_count + 1; place = place.Setting setting.Recording }) t)
    (Sign 41 ∷ Sign 123 ∷ rest)) (recording_of-word rule.grant.recorded)

rule-read : (rule : Rule) (rest : List Token) (s : Reader) (total : ℕ)
    → AreDefined s.users rule.users → AreDefined s.hosts rule.hosts → s.rule_count < RULES_LIMIT
    → s.name_count + length rule.users + length rule.hosts ≡ total → total ≤ NAMES_LIMIT
    → all_taken (Ok (record s { spoken_users = []; spoken_hosts = []; place = place.Keyword scope.Rules })) (rule_written rule rest)
    ≡ all_taken (Ok (record s { rules = s.rules ++ rule ∷ []; level = rule.level; grant = rule.grant; spoken_users = []; spoken_hosts = []; rule_count = s.rule_count + 1; name_count = total; place = place.Keyword scope.Rules })) rest
rule-read rule rest s total users hosts few count most =
    head-read rule (spoken_written Users rule.users (spoken_written Hosts rule.hosts (Sign 125 ∷ rest))) (record s { spoken_users = []; spoken_hosts = [] }) few
    ∙ spoken_users-read rule.users (spoken_written Hosts rule.hosts (Sign 125 ∷ rest))
    (record s { level = rule.level; grant = rule.grant; spoken_hosts = []; rule_count = s.rule_count + 1 }) (s.name_count + length rule.users) users refl (omega (arith, count, most))
    ∙ spoken_hosts-read rule.hosts (Sign 125 ∷ rest)
    (record s { level = rule.level; grant = rule.grant; spoken_users = rule.users; rule_count = s.rule_count + 1; name_count = s.name_count + length rule.users }) total hosts count most

-- some level and some grant are left from the last rule
rules-read : (entries : List Rule) (rest : List Token) (s : Reader) (all : List Rule) (total rules : ℕ)
    → AreRules s.users s.hosts entries → s.rules ++ entries ≡ all → s.rule_count + length entries ≡ rules → rules ≤ RULES_LIMIT
    → s.name_count + names_in_rules entries ≡ total → total ≤ NAMES_LIMIT
    → (level : Level) × (grant : Grant) ×
    (all_taken (Ok (record s { spoken_users = []; spoken_hosts = []; place = place.Keyword scope.Rules })) (rules_written entries rest)
    ≡ all_taken (Ok (record s { rules = all; level = level; grant = grant; spoken_users = []; spoken_hosts = []; rule_count = rules; name_count = total; place = place.Keyword scope.Rules })) rest)
rules-read [] rest s all total rules are read ruled few count most =
    let m : s.rules ≡ all = sym (append-nil s.rules) ∙ read in
    let k : s.rule_count ≡ rules = omega (arith, ruled) in
    let n : s.name_count ≡ total = omega (arith, count) in (
      s.level,
      s.grant,
      ap (λ x. all_taken (Ok (record s { rules = x; spoken_users = []; spoken_hosts = []; place = place.Keyword scope.Rules })) rest) m
          ∙ ap (λ x. all_taken (Ok (record s { rules = all; spoken_users = []; spoken_hosts = []; rule_count = x; place = place.Keyword scope.Rules })) rest) k
          ∙ ap (λ x. all_taken (Ok (record s { rules = all; spoken_users = []; spoken_hosts = []; rule_count = rules; name_count = x; place = place.Keyword scope.Rules })) rest) n,
    )
rules-read (rule ∷ entries) rest s all total rules are read ruled few count most =
    let ih = rules-read entries rest
    (record s { rules = s.rules ++ rule ∷ []; level = rule.level; grant = rule.grant; spoken_users = []; spoken_hosts = []; rule_count = s.rule_count + 1; name_count = s.name_count + length rule.users + length rule.hosts })
    all total rules are.2 (append_assoc s.rules (rule ∷ []) entries ∙ read) (omega (arith, ruled)) few (omega (arith, count)) most in (
      ih.0,
      ih.1,
      rule-read rule (rules_written entries rest) s (s.name_count + length rule.users + length rule.hosts) are.0 are.1 (omega (arith, ruled, few)) refl (omega (arith, count, most))
          ∙ ih.2,
    )

-- ---- security groups

group-read : (e : List ℕ × List Rule) (rest : List Token) (s : Reader) (total rules : ℕ)
    → IsNew s.groups e.0 → length s.groups < GROUPS_LIMIT → AreRules s.users s.hosts e.1 → s.rule_count + length e.1 ≡ rules → rules ≤ RULES_LIMIT
    → s.name_count + names_in_rules e.1 ≡ total → total ≤ NAMES_LIMIT
    → (level : Level) × (grant : Grant) ×
    (all_taken (Ok (record s { name = None; rules = []; spoken_users = []; spoken_hosts = []; place = top })) (group_written e rest)
    ≡ all_taken (Ok (record s { groups = s.groups ++ e ∷ []; name = None; rules = []; level = level; grant = grant; spoken_users = []; spoken_hosts = []; rule_count = rules; name_count = total; place = top })) rest)
group-read e rest s total rules new few are ruled fit count most =
    let read = rules-read e.1 (Sign 125 ∷ rest) (record s { name = Some e.0; rules = [] }) e.1 total rules are refl ruled fit count most in (
      read.0,
      read.1,
      ap (λ r. all_taken r (Sign 41 ∷ Sign 123 ∷ rules_written e.1 (Sign 125 ∷ rest)))
          (defined-passes (record s { name = None; rules = []; spoken_users = []; spoken_hosts = []; place = place.Name (naming.Group kind.Rules) }) kind.Rules e.0 new.0 (ap is_some new.1) (room_for GROUPS_LIMIT (length s.groups) few))
          ∙ read.2
          ∙ ap (λ groups. all_taken (Ok (record s { groups = groups; name = None; rules = []; level = read.0; grant = read.1; spoken_users = []; spoken_hosts = []; rule_count = rules; name_count = total; place = top })) rest) (put-new s.groups e.0 e.1 new.1),
    )

groups-read : (entries : List (List ℕ × List Rule)) (rest : List Token) (s : Reader) (all : List (List ℕ × List Rule)) (total rules : ℕ)
    → AreGroups s.users s.hosts s.groups entries → length s.groups + length entries ≤ GROUPS_LIMIT → s.groups ++ entries ≡ all
    → s.rule_count + rules_in entries ≡ rules → rules ≤ RULES_LIMIT → s.name_count + names_in_groups entries ≡ total → total ≤ NAMES_LIMIT
    → (level : Level) × (grant : Grant) ×
    (all_taken (Ok (record s { name = None; rules = []; spoken_users = []; spoken_hosts = []; place = top })) (groups_written entries rest)
    ≡ all_taken (Ok (record s { groups = all; name = None; rules = []; level = level; grant = grant; spoken_users = []; spoken_hosts = []; rule_count = rules; name_count = total; place = top })) rest)
groups-read [] rest s all total rules are few groups ruled fit count most =
    let m : s.groups ≡ all = sym (append-nil s.groups) ∙ groups in
    let k : s.rule_count ≡ rules = omega (arith, ruled) in
    let n : s.name_count ≡ total = omega (arith, count) in (
      s.level,
      s.grant,
      ap (λ x. all_taken (Ok (record s { groups = x; name = None; rules = []; spoken_users = []; spoken_hosts = []; place = top })) rest) m
          ∙ ap (λ x. all_taken (Ok (record s { groups = all; name = None; rules = []; spoken_users = []; spoken_hosts = []; rule_count = x; place = top })) rest) k
          ∙ ap (λ x. all_taken (Ok (record s { groups = all; name = None; rules = []; spoken_users = []; spoken_hosts = []; rule_count = rules; name_count = x; place = top })) rest) n,
    )
groups-read (e ∷ entries) rest s all total rules are few groups ruled fit count most =
    let first = group-read e (groups_written entries rest) s (s.name_count + names_in_rules e.1) (s.rule_count + length e.1) are.0 (omega (arith, few)) are.1 refl (omega (arith, ruled, fit)) refl (omega (arith, count, most)) in
    let ih = groups-read entries rest
    (record s { groups = s.groups ++ e ∷ []; level = first.0; grant = first.1; rule_count = s.rule_count + length e.1; name_count = s.name_count + names_in_rules e.1 })
    all total rules are.2 (omega (arith, few, length-append s.groups (e ∷ []))) (append_assoc s.groups (e ∷ []) entries ∙ groups)
    (omega (arith, ruled)) fit (omega (arith, count)) most in
    (ih.0, ih.1, first.2 ∙ ih.2)

-- a file that may be written is read as it was written
pub written_reads : (file : AccessGroups) → IsWritable file → reads (written file) ≡ Ok file
written_reads file w =
    let groups = groups-read file.groups (End ∷ []) (record start { users = file.users; hosts = file.hosts; name_count = members_in file.users + members_in file.hosts })
    file.groups (members_in file.users + members_in file.hosts + names_in_groups file.groups) (rules_in file.groups)
    w.groups (omega (arith, w.few_groups)) refl (omega arith) w.few_rules refl w.few_names in
    ap groups_read
    (users-read file.users (lists_written Hosts file.hosts (groups_written file.groups (End ∷ []))) start file.users (members_in file.users)
    w.users (omega (arith, w.few_users)) refl (omega arith) (omega (arith, w.few_names))
    ∙ hosts-read file.hosts (groups_written file.groups (End ∷ [])) (record start { users = file.users; name_count = members_in file.users }) file.hosts (members_in file.users + members_in file.hosts)
    w.hosts (omega (arith, w.few_hosts)) refl refl (omega (arith, w.few_names))
    ∙ groups.2)
