-- What reads are answered.
use Rattle.std.specs.Prelude.{ℕ, List, Bool, false, not, ◌&&◌, ◌||◌, ◌==◌, nat_lt, nat_le, is_some, if◌then◌else◌, Option, Some, None}
use Rattle.std.specs.List.{find}
use Rattle.ca_message.specs.declared.codes.TheConstants.{ECA_BADTYPE, ECA_BADCOUNT, ECA_TOLARGE, ECA_NORDACCESS}
use Rattle.named_rows.specs.declared.channels.Channel.{Channel}
use Rattle.dbr_layout.specs.declared.dbr.Dbr.{Dbr}
use Rattle.dbr_layout.specs.declared.dbr.TheConstants.{MAX_PAYLOAD}
use Rattle.dbr_layout.specs.Conversion.{conversion_between}
use Rattle.dbr_layout.specs.Dbr.{dbr_of, payload_size}
use Rattle.dbr_layout.specs.Needs.{has_properties_by, is_state_by, is_text_by}
use Rattle.link_table.specs.declared.links.LinkState.{LinkState}
use Rattle.link_table.specs.declared.links.LinkState.TheVariants.{Creating, Connected, Unusable}
use Rattle.value_cache.specs.Held.{answer, covers}
use Rattle.gateway_state.specs.declared.cached.LastMessage.{LastMessage}
use Rattle.gateway_state.specs.declared.reading.Given.{Given}
use Rattle.gateway_state.specs.declared.reading.Native.{Native}
use Rattle.gateway_state.specs.declared.reading.Reading.{Reading}
use Rattle.gateway_state.specs.declared.reading.Reading.TheVariants.{Value, Refused, Waits, NoChannel}
use Rattle.gateway_state.specs.CachedRows.{is_cached_of}
use Rattle.gateway_state.specs.Gateway.{Gateway}
use Rattle.gateway_state.specs.Quantities.{Cid, Count, Dtype, SessionNumber, Sid}
use Rattle.gateway_state.specs.Rights.{channel_of, rights_of, may_read}
use Rattle.gateway_state.specs.Variables.{ConnectedVariable, connected}

-- the native type and count of a link in this state
abbrev pub native_in : LinkState → Option Native
native_in Creating = None
native_in (Connected sid dtype count) = Some (record { dtype = dtype; count = count })
native_in Unusable = None

-- the count that is meant: 0 stands for the native one
abbrev pub meant_count : ℕ → ℕ → ℕ
meant_count native count = if count == 0 then native else count

-- the plain type that the asked one can be had of
abbrev pub converts_to : Option Dbr → Option Dbr → Bool
converts_to (Some from) (Some to) = is_some (conversion_between from.base to.base)
converts_to None asked = false
converts_to (Some from) None = false

abbrev pub is_type_served : Native → ℕ → Bool
is_type_served native dtype = converts_to (dbr_of native.dtype) (dbr_of dtype)

abbrev pub fits_payload : Option Dbr → ℕ → Bool
fits_payload None count = false
fits_payload (Some dbr) count = nat_le (payload_size dbr count) MAX_PAYLOAD

-- what is asked for of a variable with this native type can't be told without its properties: units and
-- limits, or the texts of states
abbrev pub needs_by_number : ℕ → ℕ → Bool
needs_by_number native dtype = has_properties_by dtype || is_state_by native && is_text_by dtype

-- why a value of the variable can't be had in this type and count, the first reason that applies
abbrev pub value_refusal : Native → ℕ → ℕ → Option ℕ
value_refusal native dtype count =
    if not (is_type_served native dtype) then Some ECA_BADTYPE
    else if nat_lt native.count count then Some ECA_BADCOUNT
    else if not (fits_payload (dbr_of dtype) (meant_count native.count count)) then Some ECA_TOLARGE
    else None

abbrev pub refusal_unless : Option ℕ → ℕ → Option ℕ
refusal_unless (Some code) rights = Some code
refusal_unless None rights = if may_read rights then None else Some ECA_NORDACCESS

-- why a read of the variable is refused, the first reason that applies
abbrev pub refusal : Native → ℕ → ℕ → ℕ → Option ℕ
refusal native rights dtype count = refusal_unless (value_refusal native dtype count) rights

-- what is answered of what was told last, as it is given
abbrev pub given_in : Option (ℕ × List ℕ) → Option Given
given_in None = None
given_in (Some (count, payload)) = Some (record { count = count; payload = payload })

abbrev pub cached_as : ℕ → ℕ → ℕ → Option LastMessage → Option Given
cached_as native dtype count None = None
cached_as native dtype count (Some last) =
    if covers dtype (meant_count native count) last.held then given_in (answer dtype count last.held) else None

-- what a link was told last, as an asked type and count; nothing where these aren't covered
abbrev pub cached_value : Gateway → Cid → Count → Dtype → Count → Option Given
cached_value w cid native dtype count = cached_as native dtype count (find (is_cached_of cid) w.cache)

abbrev pub value_or_wait : Option Given → Reading
value_or_wait None = Waits
value_or_wait (Some given) = Value given.count given.payload

abbrev pub refused_or : Option ℕ → Option Given → Reading
refused_or None given = value_or_wait given
refused_or (Some code) given = Refused code

-- what a read of a variable would be answered, with these rights
abbrev pub reading_over : Gateway → ℕ → Dtype → Count → Option ConnectedVariable → Reading
reading_over w rights dtype count None = NoChannel
reading_over w rights dtype count (Some v) =
    refused_or (refusal v.native rights dtype count) (cached_value w v.link.cid v.native.count dtype count)

-- what a read on a channel would be answered
abbrev pub reading_on : Gateway → Dtype → Count → Option Channel → Reading
reading_on w dtype count None = NoChannel
reading_on w dtype count (Some c) = reading_over w (rights_of w c) dtype count (connected w c.real)

-- what a session's read would be answered
abbrev pub reading : Gateway → SessionNumber → Sid → Dtype → Count → Reading
reading w session sid dtype count = reading_on w dtype count (channel_of w session sid)
