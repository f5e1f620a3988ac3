-- Files that are written out, and what they grant.
use Rattle.std.proofs.Common.{◌≡◌, ℕ, List, [], ◌∷◌, ◌++◌, codes, true, false, Result, Ok, Err, refl}
use Rattle.access_file.specs.declared.fault.AccessCause.TheVariants.{BadByte, Unclosed, Unexpected, Unfinished, UnknownWord, Calculated, Unserved, BadName, BadLevel, BadRight, NoUsers, NoHosts, Twice}
use Rattle.access_file.specs.declared.fault.AccessFault.{AccessFault}
use Rattle.access_file.specs.declared.fault.AccessFault.TheVariants.{At}
use Rattle.access_file.specs.declared.rule.Grant.{Grant}
use Rattle.access_file.specs.declared.rule.Level.{Level}
use Rattle.access_file.specs.declared.rule.Level.TheVariants.{Zero, One}
use Rattle.access_file.specs.declared.rule.Right.TheVariants as right
use Rattle.access_file.specs.File.{access_of}
use Rattle.access_file.specs.Groups.{AccessGroups, granted}

-- what the file of this text grants, or its fault
abbrev told : Result AccessGroups AccessFault → List ℕ → List ℕ → List ℕ → Level → Result Grant AccessFault
told (Err fault) user host group level = Err fault
told (Ok file) user host group level = Ok (granted file user (host ∷ []) group level)

abbrev grant_in : List ℕ → List ℕ → List ℕ → List ℕ → Level → Result Grant AccessFault
grant_in text user host group level = told (access_of text) user host group level

abbrev nothing : Result Grant AccessFault
nothing = Ok (record { right = right.None; recorded = false })

abbrev reading : Result Grant AccessFault
reading = Ok (record { right = right.Read; recorded = false })

abbrev writing : Result Grant AccessFault
writing = Ok (record { right = right.Write; recorded = false })

abbrev recorded : Result Grant AccessFault
recorded = Ok (record { right = right.Write; recorded = true })

-- ---- a control room

abbrev site : List ℕ
site =
    codes "UAG(ops) {anna,ben} HAG(room) { desk1, \"DESK2\" } # the control room\n"
    ++ codes "ASG(DEFAULT) { RULE(1,READ) RULE(1,WRITE,TRAPWRITE){UAG(ops) HAG(room)} }\n"
    ++ codes "ASG(magnets) { RULE(0,READ) RULE(0,WRITE){UAG(ops)} RULE(1,WRITE,TRAPWRITE){HAG(room)} }\n"

a_user_in_the_room : grant_in site (codes "anna") (codes "desk1") (codes "DEFAULT") One ≡ recorded
a_user_in_the_room = refl

hosts_in_any_case : grant_in site (codes "anna") (codes "Desk2") (codes "DEFAULT") One ≡ recorded
hosts_in_any_case = refl

users_in_their_case : grant_in site (codes "Anna") (codes "desk1") (codes "DEFAULT") One ≡ reading
users_in_their_case = refl

users_and_hosts_must_hold : grant_in site (codes "anna") (codes "office") (codes "DEFAULT") One ≡ reading
users_and_hosts_must_hold = refl

no_such_group : grant_in site (codes "ben") (codes "desk1") (codes "vacuum") Zero ≡ recorded
no_such_group = refl

by_the_user_alone : grant_in site (codes "ben") (codes "office") (codes "magnets") Zero ≡ writing
by_the_user_alone = refl

no_rule_of_this_level : grant_in site (codes "ben") (codes "office") (codes "magnets") One ≡ nothing
no_rule_of_this_level = refl

the_first_of_two : grant_in site (codes "ben") (codes "desk1") (codes "magnets") Zero ≡ writing
the_first_of_two = refl

by_the_host_alone : grant_in site (codes "guest") (codes "DESK1") (codes "magnets") One ≡ recorded
by_the_host_alone = refl

no_user : grant_in site [] (codes "10.0.0.7") (codes "DEFAULT") Zero ≡ reading
no_user = refl

-- ---- small files

no_default : grant_in (codes "ASG(a){RULE(1,WRITE)}") (codes "anna") (codes "desk1") (codes "b") One ≡ nothing
no_default = refl

no_text : grant_in [] (codes "anna") (codes "desk1") (codes "a") One ≡ nothing
no_text = refl

without_lists : grant_in (codes "UAG(u) HAG(h) ASG(g) ASG(DEFAULT){RULE(1,READ)}") (codes "anna") (codes "desk1") (codes "g") One ≡ nothing
without_lists = refl

nobody : grant_in (codes "UAG(u){} ASG(DEFAULT){RULE(1,READ){UAG(u)}}") (codes "anna") (codes "desk1") (codes "a") One ≡ nothing
nobody = refl

any_of_the_groups : grant_in (codes "UAG(a){x}UAG(b){y}ASG(DEFAULT){RULE(1,WRITE){UAG(a,b)}}") (codes "y") (codes "desk1") (codes "a") One ≡ writing
any_of_the_groups = refl

nothing_is_taken_away : grant_in (codes "ASG(DEFAULT){RULE(1,READ)RULE(1,NONE)}") (codes "anna") (codes "desk1") (codes "a") One ≡ reading
nothing_is_taken_away = refl

-- ---- refused

inputs : access_of (codes "ASG(a) {\nINPA(x)\nRULE(1,READ)}") ≡ Err (At 2 Calculated)
inputs = refl

calculations : access_of (codes "ASG(a) {\nRULE(1,READ) {\nCALC(\"A=1\")}}") ≡ Err (At 3 Calculated)
calculations = refl

methods : access_of (codes "ASG(a){RULE(1,READ){METHOD(\"x509\")}}") ≡ Err (At 1 Unserved)
methods = refl

no_such_users : access_of (codes "ASG(a){\n\nRULE(1,READ){UAG(ops)}}") ≡ Err (At 3 NoUsers)
no_such_users = refl

no_such_hosts : access_of (codes "UAG(ops) ASG(a){RULE(1,READ){HAG(ops)}}") ≡ Err (At 1 NoHosts)
no_such_hosts = refl

a_level_of_two : access_of (codes "ASG(a){RULE(2,READ)}") ≡ Err (At 1 BadLevel)
a_level_of_two = refl

no_such_right : access_of (codes "ASG(a){RULE(1,RPC)}") ≡ Err (At 1 BadRight)
no_such_right = refl

lower_case : access_of (codes "uag(a)") ≡ Err (At 1 UnknownWord)
lower_case = refl

defined_twice : access_of (codes "UAG(a)\nUAG(a)") ≡ Err (At 2 Twice)
defined_twice = refl

quotes_over_lines : access_of (codes "UAG(\"a\n)") ≡ Err (At 1 Unclosed)
quotes_over_lines = refl

no_end : access_of (codes "ASG(a){\nRULE(1,READ)\n") ≡ Err (At 3 Unfinished)
no_end = refl

a_last_comma : access_of (codes "UAG(a){x,}") ≡ Err (At 1 Unexpected)
a_last_comma = refl

a_character_of_no_word : access_of (codes "UAG(a){x@y}") ≡ Err (At 1 BadByte)
a_character_of_no_word = refl

a_blank_in_a_name : access_of (codes "UAG(a){\"x y\"}") ≡ Err (At 1 BadName)
a_blank_in_a_name = refl
