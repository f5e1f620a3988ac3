-- What the words of a line stand for.
use Rattle.std.specs.Prelude.{ℕ, Bool, true, false, ◌==◌, if◌then◌else◌, List, [], ◌∷◌, length, bytes_eq, Option, Some, None, option_map, option_and_then}
use Rattle.std.specs.Result.{result_ok}
use Rattle.decimal_text.specs.Numbers.{number_of}
use Rattle.hex.specs.Hex.{decode_of}
use Rattle.hex.specs.declared.error.FromHexError.{FromHexError}
use Rattle.hex.specs.declared.error.FromHexError.TheVariants as hex_faults
use Rattle.pv_name.specs.Host.{is_host}
use Rattle.pv_name.specs.Name.{is_name}
use Rattle.pv_name.specs.declared.fault.NameFault.{NameFault}
use Rattle.pv_name.specs.declared.fault.NameFault.TheVariants as name_faults
use Rattle.gateway_state.specs.declared.event.Dest.{Dest}
use Rattle.gateway_state.specs.declared.event.Dest.TheVariants.{Session, Upstream}
use Rattle.replay_text.specs.declared.values.LineFault.{LineFault}
use Rattle.replay_text.specs.declared.values.LineFault.TheVariants.{Bad, OutOfMemory}

-- whether something holds: `1` (49) where it does, `0` (48) where it doesn't
abbrev pub flag_of : List ℕ → Option Bool
flag_of word =
    if bytes_eq word (48 ∷ []) then Some false
    else if bytes_eq word (49 ∷ []) then Some true
    else None

-- the connection that a word names: `s` or `u`, and its number
abbrev pub dest_of : List ℕ → Option Dest
dest_of [] = None
dest_of (letter ∷ digits) =
    if letter == 115 then option_map Session (number_of 32 digits)
    else if letter == 117 then option_map Upstream (number_of 32 digits)
    else None

abbrev pub session_in : Dest → Option ℕ
session_in (Session number) = Some number
session_in (Upstream number) = None

abbrev pub server_in : Dest → Option ℕ
server_in (Session number) = None
server_in (Upstream number) = Some number

-- the client's connection that a word names, and the server's
abbrev pub session_of : List ℕ → Option ℕ
session_of word = option_and_then session_in (dest_of word)

abbrev pub server_of : List ℕ → Option ℕ
server_of word = option_and_then server_in (dest_of word)

-- a word that is a name, and one that is a host
abbrev pub name_of : List ℕ → Option (List ℕ)
name_of word = if is_name word then Some word else None

abbrev pub host_of : List ℕ → Option (List ℕ)
host_of word = if is_host word then Some word else None

-- the bytes that a word stands for: two digits for each, or `-` (45) for none
abbrev pub bytes_of : List ℕ → Option (List ℕ)
bytes_of word =
    if bytes_eq word (45 ∷ []) then Some []
    else if length word == 0 then None
    else result_ok (decode_of word)

-- bytes that are no name are bad
abbrev pub fault_of_name : NameFault → LineFault
fault_of_name name_faults.OutOfMemory = OutOfMemory
fault_of_name _ = Bad

-- digits that stand for no bytes are bad
abbrev pub fault_of_hex : FromHexError → LineFault
fault_of_hex hex_faults.OutOfMemory = OutOfMemory
fault_of_hex _ = Bad
