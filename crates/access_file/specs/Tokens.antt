-- The tokens of an access security file, by its bytes.
use Rattle.std.specs.Prelude.{ℕ, Bool, ◌==◌, ◌||◌, if◌then◌else◌, List, [], ◌∷◌, ◌++◌, codes}
use Rattle.std.specs.Char.{is_ascii_alphanumeric}
use Rattle.std.specs.List.{list_any}
use Rattle.access_file.specs.declared.fault.AccessCause.{AccessCause}
use Rattle.access_file.specs.declared.fault.AccessCause.TheVariants.{BadByte, Unclosed}

pub data Token : Type 0 where
  -- a word that stands without quotes
  Word : List ℕ → Token
  -- what stands between quotes
  Quoted : List ℕ → Token
  -- one of `(`, `)`, `{`, `}` and `,`, by its byte
  Sign : ℕ → Token
  -- what is no token
  Faulty : AccessCause → Token
  -- the end of the text
  End : Token

-- what is begun, with its bytes so far
pub data Scan : Type 0 where
  Between : Scan
  InWord : List ℕ → Scan
  InQuotes : List ℕ → Scan
  InComment : Scan

abbrev pub is_among : List ℕ → ℕ → Bool
is_among bytes b = list_any (λ one. one == b) bytes

abbrev pub is_word_byte : ℕ → Bool
is_word_byte b = is_ascii_alphanumeric b || is_among (codes "_-+:.[]<>;") b

abbrev pub is_sign : ℕ → Bool
is_sign b = is_among (codes "(){},") b

-- a blank, a tab and the ends of a line
abbrev pub is_blank : ℕ → Bool
is_blank b = is_among (32 ∷ 9 ∷ 13 ∷ 10 ∷ []) b

-- what the byte begins between tokens: a word, quotes (`"`, 34) or a comment (`#`, 35)
abbrev pub begun_by : ℕ → Scan
begun_by b =
    if is_word_byte b then InWord (b ∷ [])
    else if b == 34 then InQuotes []
    else if b == 35 then InComment
    else Between

-- what the byte is itself there
abbrev pub itself : ℕ → List Token
itself b =
    if is_word_byte b then []
    else if b == 34 then []
    else if b == 35 then []
    else if is_sign b then Sign b ∷ []
    else if is_blank b then []
    else Faulty BadByte ∷ []

-- what is begun once the byte is read; quotes end at quotes, and with their line, a comment with its line
abbrev pub scan_after : Scan → ℕ → Scan
scan_after Between b = begun_by b
scan_after (InWord word) b = if is_word_byte b then InWord (word ++ b ∷ []) else begun_by b
scan_after (InQuotes text) b = if b == 34 then Between else if b == 10 then Between else InQuotes (text ++ b ∷ [])
scan_after InComment b = if b == 10 then Between else InComment

-- the tokens that end with the byte
abbrev pub ended_by : Scan → ℕ → List Token
ended_by Between b = itself b
ended_by (InWord word) b = if is_word_byte b then [] else Word word ∷ itself b
ended_by (InQuotes text) b = if b == 34 then Quoted text ∷ [] else if b == 10 then Faulty Unclosed ∷ [] else []
ended_by InComment b = []

-- those that end with the text
abbrev pub ended_last : Scan → List Token
ended_last Between = End ∷ []
ended_last (InWord word) = Word word ∷ End ∷ []
ended_last (InQuotes text) = Faulty Unclosed ∷ End ∷ []
ended_last InComment = End ∷ []
