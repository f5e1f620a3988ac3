-- How limits are told: as part of a line of the log, and in what the gateway tells of itself.
use Rattle.std.specs.Prelude.{ℕ, List, [], ◌∷◌, ◌++◌, codes}
use Rattle.std.specs.Fmt.{decimal}
use Rattle.serve_state.specs.declared.limits.Bound.{Bound}
use Rattle.serve_state.specs.declared.limits.Limit.{Limit}
use Rattle.serve_state.specs.declared.limits.Limit.TheVariants.{Names, Channels, Subscriptions, Reads, Writes, Links, Clients, Held, Full}

-- pieces of a text, one after the other
abbrev pub said : List (List ℕ) → List ℕ
said [] = []
said (piece ∷ []) = piece
said (piece ∷ other ∷ pieces) = piece ++ said (other ∷ pieces)

-- all limits, in the order in which they are told
abbrev pub all_limits : List Limit
all_limits = Names ∷ Channels ∷ Subscriptions ∷ Reads ∷ Writes ∷ Links ∷ Clients ∷ Held ∷ Full ∷ []

abbrev pub key_of : Limit → List ℕ
key_of Names = codes "names_remembered"
key_of Channels = codes "channels_of_a_client"
key_of Subscriptions = codes "subscriptions_of_a_client"
key_of Reads = codes "reads_of_a_client"
key_of Writes = codes "writes_of_a_client"
key_of Links = codes "links"
key_of Clients = codes "clients"
key_of Held = codes "messages_before_updates_are_held"
key_of Full = codes "messages_of_a_connection"

-- a limit of so many was met
abbrev pub met_text : Limit → ℕ → List ℕ
met_text Names most = decimal most ++ codes " searched names are remembered: others aren't looked for"
met_text Channels most = codes "a client has " ++ decimal most ++ codes " channels: others aren't made"
met_text Subscriptions most = codes "a client has " ++ decimal most ++ codes " subscriptions: others are refused"
met_text Reads most = decimal most ++ codes " reads of a client wait: others are refused"
met_text Writes most = decimal most ++ codes " writes of a client wait: others are refused"
met_text Links most = decimal most ++ codes " variables are open upstream: others aren't opened"
met_text Clients most = decimal most ++ codes " clients are connected: others are refused"
met_text Held most = decimal most ++ codes " messages wait for a client: its updates are held back"
met_text Full most = decimal most ++ codes " messages wait for a connection: it is cut off"

abbrev pub bound_text : Bound → List ℕ
bound_text bound = met_text bound.limit bound.most
