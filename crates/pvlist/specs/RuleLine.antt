-- What a line of a rule file is (user's guide, PVLIST).
use Rattle.std.specs.Prelude.{◌≡◌, ℕ, Bool, true, false, ◌&&◌, nat_lt, if◌then◌else◌, List, [], ◌∷◌, length, drop, codes, IsTrue, Option, Some, None, Result, Ok, Err}
use Rattle.std.specs.List.{list_all}
use Rattle.std.specs.Option.{option_map}
use Rattle.access_file.specs.Keywords.{level_of}
use Rattle.access_file.specs.declared.rule.Level.{Level}
use Rattle.access_file.specs.declared.rule.Level.TheVariants.{One}
use Rattle.pv_name.specs.Group.{is_group}
use Rattle.pv_name.specs.Host.{is_host}
use Rattle.pvlist.specs.declared.fault.RuleCause.{RuleCause}
use Rattle.pvlist.specs.declared.fault.RuleCause.TheVariants.{LineTooLong, BadOrder, NoVerb, TooManyLines, BadFrom, BadGroup, BadPattern, BadReference}
use Rattle.pvlist.specs.declared.fault.RuleLineFault.{RuleLineFault}
use Rattle.pvlist.specs.declared.fault.RuleLineFault.TheVariants.{Cause, OutOfMemory}
use Rattle.pvlist.specs.declared.keyword.Keyword.{Keyword}
use Rattle.pvlist.specs.declared.keyword.Keyword.TheVariants as keyword
use Rattle.pvlist.specs.declared.line.Item.{Item}
use Rattle.pvlist.specs.declared.line.Item.TheVariants as item
use Rattle.pvlist.specs.declared.line.TheConstants.{LINE_LIMIT}
use Rattle.pvlist.specs.declared.row.Row.{Row}
use Rattle.pvlist.specs.declared.row.Security.{Security}
use Rattle.pvlist.specs.declared.row.Verb.{Verb}
use Rattle.pvlist.specs.declared.row.Verb.TheVariants as verb
use Rattle.pvlist.specs.declared.rules.Order.{Order}
use Rattle.pvlist.specs.declared.syntax.Syntax.{Syntax}
use Rattle.pvlist.specs.Captures.{group_count}
use Rattle.pvlist.specs.Compiled.{IsCompiled, IsAccepted, IsRefused}
use Rattle.pvlist.specs.Keywords.{is_keyword, is_order_line, keyword_of, order_of}
use Rattle.pvlist.specs.RealText.{real_text_of}
use Rattle.pvlist.specs.Words.{words, between_commas, first_word, next_word}

-- what a line says, but for its pattern
pub data Entry : Type 0 where
  -- nothing
  Blank : Entry
  -- the order
  Ordering : Order → Entry
  -- a row, whose verb is none where it is an alias without a real name
  Drafted : Option Verb → Entry

-- after a group at most a level stands, which is 1 where none does; none where these words are no such end
abbrev pub level_behind : List (List ℕ) → Option Level
level_behind [] = Some One
level_behind (word ∷ []) = level_of word
level_behind _ = None

-- the group, where the word is one
abbrev pub group_word : List ℕ → Option (List ℕ)
group_word word = if is_group word then Some word else None

-- no group, and the level 1
abbrev pub no_group : Security
no_group = record { group = None; level = One }

-- the group that the word is, where the words behind it are a level
abbrev pub grouped : List ℕ → Option Level → Option Security
grouped word None = None
grouped word (Some level) = option_map (λ group. record { group = Some group; level = level }) (group_word word)

-- the group and the level at the end of a row; none where these words are no such end
abbrev pub security_of : List (List ℕ) → Option Security
security_of [] = Some no_group
security_of (word ∷ rest) = grouped word (level_behind rest)

-- the host, where the word is one
abbrev pub host_word : List ℕ → Option (List ℕ)
host_word word = if is_host word then Some word else None

-- the hosts, where there is one and each word is a host
abbrev pub hosts_among : List (List ℕ) → Option (List (List ℕ))
hosts_among [] = None
hosts_among (word ∷ rest) = if is_host word && list_all is_host rest then Some (word ∷ rest) else None

-- the hosts of a row that denies, by its words between blanks and commas; FROM is a keyword in front of them alone
abbrev pub hosts_of : List (List ℕ) → Option (List (List ℕ))
hosts_of [] = Some []
hosts_of (word ∷ rest) = if is_keyword word (codes "FROM") then hosts_among rest else hosts_among (word ∷ rest)

abbrev pub allow_entry : Option Security → Result Entry RuleCause
allow_entry None = Err BadGroup
allow_entry (Some security) = Ok (Drafted (Some (verb.Allow security)))

abbrev pub alias_entry : Option Security → Option (List ℕ) → Result Entry RuleCause
alias_entry None real = Err BadGroup
alias_entry (Some security) None = Ok (Drafted None)
alias_entry (Some security) (Some real) = Ok (Drafted (Some (verb.Alias real security)))

abbrev pub deny_entry : Option (List (List ℕ)) → Result Entry RuleCause
deny_entry None = Err BadFrom
deny_entry (Some hosts) = Ok (Drafted (Some (verb.Deny hosts)))

-- a row, by the syntax of patterns, its pattern, its keyword and the words after that
abbrev pub row_entry : Syntax → List ℕ → Keyword → List (List ℕ) → Result Entry RuleCause
row_entry syntax pattern keyword.Allow rest = allow_entry (security_of rest)
row_entry syntax pattern keyword.Alias rest =
    alias_entry (security_of (drop 1 rest)) (real_text_of (group_count syntax pattern) (next_word rest))
row_entry syntax pattern keyword.Deny rest = deny_entry (hosts_of (between_commas rest))

-- a line that is no order line; one that is full takes no row
abbrev pub keyword_entry : Syntax → Bool → List ℕ → Option Keyword → List (List ℕ) → Result Entry RuleCause
keyword_entry syntax full pattern None rest = Err NoVerb
keyword_entry syntax full pattern (Some keyword) rest =
    if full then Err TooManyLines else row_entry syntax pattern keyword rest

abbrev pub order_entry : Option Order → Result Entry RuleCause
order_entry None = Err BadOrder
order_entry (Some order) = Ok (Ordering order)

-- a line by its words
abbrev pub words_entry : Syntax → Bool → List (List ℕ) → Result Entry RuleCause
words_entry syntax full [] = Ok Blank
words_entry syntax full (first ∷ []) = Err NoVerb
words_entry syntax full (first ∷ second ∷ rest) =
    if is_order_line first second then order_entry (order_of (between_commas rest))
    else keyword_entry syntax full first (keyword_of second) rest

-- what a line says, or the first cause that it is faulty, but for its pattern and for the real name of an alias; where the
-- file is full, it takes no further row
abbrev pub entry : Syntax → Bool → List ℕ → Result Entry RuleCause
entry syntax full line =
    if nat_lt LINE_LIMIT (length line) then Err LineTooLong else words_entry syntax full (words line)

-- the row that a draft becomes, with this pattern
pub record IsRow (syntax : Syntax) (pattern : List ℕ) (drawn : Result Entry RuleCause) (row : Row) : Type 0 where
  pub verb : drawn ≡ Ok (Drafted (Some row.verb))
  pub compiled : IsCompiled syntax pattern row.pattern

-- the item of an entry, with this pattern
abbrev pub IsItemOf : Syntax → List ℕ → Result Entry RuleCause → Item → Type 0
IsItemOf syntax pattern drawn item.Nothing = drawn ≡ Ok Blank
IsItemOf syntax pattern drawn (item.Order order) = drawn ≡ Ok (Ordering order)
IsItemOf syntax pattern drawn (item.Row row) = IsRow syntax pattern drawn row

-- the line is without fault, and is this item
abbrev pub IsItem : Syntax → List ℕ → Item → Type 0
IsItem syntax line item = IsItemOf syntax (first_word (words line)) (entry syntax false line) item

-- the line has a pattern, and no cause before those of the pattern
abbrev pub is_draft : Result Entry RuleCause → Bool
is_draft (Ok (Drafted _)) = true
is_draft _ = false

-- the first cause that an entry is faulty, with this pattern
abbrev pub IsCauseOf : Syntax → List ℕ → Result Entry RuleCause → RuleCause → Type 0
IsCauseOf syntax pattern drawn BadPattern = IsTrue (is_draft drawn) × IsRefused syntax pattern
IsCauseOf syntax pattern drawn BadReference = (drawn ≡ Ok (Drafted None)) × IsAccepted syntax pattern
IsCauseOf syntax pattern drawn cause = drawn ≡ Err cause

-- the pattern has no regular expression, or memory ran out
abbrev pub IsPatternFault : Syntax → List ℕ → RuleLineFault → Type 0
IsPatternFault syntax pattern (Cause cause) = (cause ≡ BadPattern) × IsRefused syntax pattern
IsPatternFault syntax pattern OutOfMemory = Unit {0}

-- the file may take what the line is
abbrev pub HasRoom : Bool → Item → Type 0
HasRoom full (item.Row row) = full ≡ false
HasRoom full _ = Unit {0}

-- the cause of an entry, or memory ran out
abbrev pub IsFaultOf : Syntax → List ℕ → Result Entry RuleCause → RuleLineFault → Type 0
IsFaultOf syntax pattern drawn (Cause cause) = IsCauseOf syntax pattern drawn cause
IsFaultOf syntax pattern drawn OutOfMemory = Unit {0}

-- this is the first cause that the line is faulty
abbrev pub IsCause : Syntax → Bool → List ℕ → RuleCause → Type 0
IsCause syntax full line cause = IsCauseOf syntax (first_word (words line)) (entry syntax full line) cause
