-- Texts in payloads.
use Rattle.std.specs.Prelude.{ℕ, Bool, List, take, position, ◌==◌, if◌then◌else◌, Option, Some, None, Result, Ok, Err}
use Rattle.pv_name.specs.Name.{is_name}
use Rattle.pv_name.specs.Host.{is_host}
use Rattle.ca_message.specs.declared.text.TheConstants.{NUL}
use Rattle.ca_message.specs.declared.request.RequestFault.{RequestFault}
use Rattle.ca_message.specs.declared.request.RequestFault.TheVariants.{NoNul, BadName}

abbrev pub is_nul : ℕ → Bool
is_nul b = b == NUL

-- the bytes before the first NUL, where that is at this place
abbrev pub text_before : Option ℕ → List ℕ → Result (List ℕ) RequestFault
text_before None payload = Err NoNul
text_before (Some end) payload = Ok (take end payload)

-- the text that a payload holds
abbrev pub text_in : List ℕ → Result (List ℕ) RequestFault
text_in payload = text_before (position is_nul payload) payload

-- a text that has to pass a test
abbrev pub tested_text : (List ℕ → Bool) → Result (List ℕ) RequestFault → Result (List ℕ) RequestFault
tested_text test (Ok text) = if test text then Ok text else Err BadName
tested_text test (Err fault) = Err fault

-- the name that a payload holds
abbrev pub name_in : List ℕ → Result (List ℕ) RequestFault
name_in payload = tested_text is_name (text_in payload)

-- the text of a host that a payload holds
abbrev pub host_in : List ℕ → Result (List ℕ) RequestFault
host_in payload = tested_text is_host (text_in payload)
