-- The lines that a replay prints.
use Rattle.std.specs.Prelude.{ℕ, List, [], ◌∷◌, ◌++◌, codes, flat_map, Option, Some, None}
use Rattle.std.specs.Fmt.{decimal}
use Rattle.hex.specs.Hex.{encode_lower}
use Rattle.access_file.specs.Fault as access
use Rattle.access_file.specs.declared.fault.AccessCause.{AccessCause}
use Rattle.access_file.specs.declared.fault.AccessFault.TheVariants.{At}
use Rattle.pvlist.specs.Cause.{line_text}
use Rattle.pvlist.specs.declared.fault.RuleCause.{RuleCause}
use Rattle.ca_header.specs.declared.reading.FrameFault.{FrameFault}
use Rattle.ca_header.specs.declared.reading.FrameFault.TheVariants.{Misaligned, TooLarge}
use Rattle.gateway_state.specs.declared.event.Dest.{Dest}
use Rattle.gateway_state.specs.declared.event.Dest.TheVariants.{Session, Upstream}
use Rattle.gateway_state.specs.declared.reading.Reading.{Reading}
use Rattle.gateway_state.specs.declared.reading.Reading.TheVariants.{Value, Refused, Waits, NoChannel}

-- a connection as scripts write it: `s` or `u`, and its number
abbrev pub dest_text : Dest → List ℕ
dest_text (Session n) = 115 ∷ decimal n
dest_text (Upstream n) = 117 ∷ decimal n

-- the line of a message that goes to a connection: a blank is 32, and the line's end 10
abbrev pub message_line : Dest → List ℕ → List ℕ
message_line dest bytes = dest_text dest ++ 32 ∷ encode_lower bytes ++ 10 ∷ []

-- what is wrong with the bytes of a connection
abbrev pub fault_text : FrameFault → List ℕ
fault_text Misaligned = codes "misaligned"
fault_text TooLarge = codes "toolarge"

-- the line of a connection that is cut off for that
abbrev pub shut_line : Dest → FrameFault → List ℕ
shut_line dest fault = codes "shut " ++ dest_text dest ++ 32 ∷ fault_text fault ++ 10 ∷ []

-- the line of a connection that is cut off as it must end
abbrev pub end_line : Dest → List ℕ
end_line dest = codes "end " ++ dest_text dest ++ 10 ∷ []

-- a line of a file that is refused: its number, and what is wrong with it
abbrev pub cause_line : ℕ → RuleCause → List ℕ
cause_line line cause = line_text line cause ++ 10 ∷ []

-- the line of an edit that is refused for a line of its rule file
abbrev pub refused_line : ℕ → RuleCause → List ℕ
refused_line line cause = codes "refused " ++ cause_line line cause

-- the same for one of its group file
abbrev pub refused_groups_line : ℕ → RuleCause → List ℕ
refused_groups_line line cause = codes "refused groups " ++ cause_line line cause

-- the same for one of its access security file
abbrev pub access_cause_line : ℕ → AccessCause → List ℕ
access_cause_line line cause = access.fault_text (At line cause) ++ 10 ∷ []

abbrev pub refused_access_line : ℕ → AccessCause → List ℕ
refused_access_line line cause = codes "refused access " ++ access_cause_line line cause

-- a name in a list of names
abbrev pub after_blank : List ℕ → List ℕ
after_blank name = 32 ∷ name

-- the line of the names that are asked for
abbrev pub asks_line : List (List ℕ) → List ℕ
asks_line names = codes "asks" ++ flat_map after_blank names ++ 10 ∷ []

-- bytes as scripts write them: `-` for none
abbrev pub bytes_text : List ℕ → List ℕ
bytes_text [] = codes "-"
bytes_text (b ∷ bs) = encode_lower (b ∷ bs)

-- the line of a value: how many elements, and their bytes
abbrev pub value_line : ℕ → List ℕ → List ℕ
value_line count payload = codes "value " ++ decimal count ++ 32 ∷ bytes_text payload ++ 10 ∷ []

-- the line of what a read would be answered
abbrev pub reading_line : Reading → List ℕ
reading_line (Value count payload) = value_line count payload
reading_line (Refused code) = codes "refused " ++ decimal code ++ 10 ∷ []
reading_line Waits = codes "waits\n"
reading_line NoChannel = codes "no channel\n"

-- a subscription: its ID, its mask and its count
abbrev pub subscription_text : ℕ → ℕ → ℕ → List ℕ
subscription_text id mask count = decimal id ++ 32 ∷ decimal mask ++ 32 ∷ decimal count

-- the line of a subscription, if there is one
abbrev pub subscription_line : Option (List ℕ) → List ℕ
subscription_line (Some text) = codes "sub " ++ text ++ 10 ∷ []
subscription_line None = codes "sub -\n"

-- the line of the subscription to a variable's properties, if there is one
abbrev pub props_line : Option ℕ → List ℕ
props_line (Some id) = codes "props " ++ decimal id ++ 10 ∷ []
props_line None = codes "props -\n"

-- the line of the rights on a channel, if there is such a channel
abbrev pub rights_line : Option ℕ → List ℕ
rights_line (Some rights) = codes "rights " ++ decimal rights ++ 10 ∷ []
rights_line None = codes "rights -\n"

-- the line of the datagram that answers searches, if one is sent
abbrev pub reply_line : List ℕ → List ℕ
reply_line datagram = codes "reply " ++ bytes_text datagram ++ 10 ∷ []
