-- What the gateway tells of itself: a line of JSON.
use Rattle.std.specs.Prelude.{ℕ, if◌then◌else◌, Bool, List, [], ◌∷◌, ◌++◌, codes, Option, Some, None}
use Rattle.std.specs.Fmt.{decimal}
use Rattle.std.specs.List.{flat_map}
use Rattle.std.specs.Net.Text.{socket_text}
use Rattle.gateway_state.specs.declared.row_counts.RowCounts.{RowCounts}
use Rattle.serve_state.specs.InAll.{bytes_in_all}
use Rattle.serve_state.specs.LimitText.{all_limits, key_of, said}
use Rattle.serve_state.specs.Limits.{met_of, most_under, used_of}
use Rattle.serve_state.specs.declared.limits.Limit.{Limit}
use Rattle.serve_state.specs.declared.report.InAllReport.{InAllReport}
use Rattle.serve_state.specs.declared.report.Report.{Report}
use Rattle.serve_state.specs.declared.report.ServerReport.{ServerReport}

-- what is said of each, behind a comma
abbrev pub behind_commas : {A : Type 0} → (A → List ℕ) → List A → List ℕ
behind_commas text all = flat_map (λ it. codes "," ++ text it) all

-- what is said of each, with commas between
abbrev pub with_commas : {A : Type 0} → (A → List ℕ) → List A → List ℕ
with_commas text [] = []
with_commas text (first ∷ others) = text first ++ behind_commas text others

abbrev pub truth_text : Bool → List ℕ
truth_text is = if is then codes "true" else codes "false"

-- a server, and whether the gateway is connected to it
unfoldable pub server_text : ServerReport → List ℕ
server_text server = said (
    codes "{\"number\":" ∷ decimal server.number
    ∷ codes ",\"address\":\"" ∷ socket_text server.address
    ∷ codes "\",\"connected\":" ∷ truth_text server.connected
    ∷ codes "}" ∷ [])

-- how many servers that were found by search are connected is told where servers are searched for
abbrev pub found_part : Option ℕ → List ℕ
found_part None = []
found_part (Some found) = codes ",\"upstreams_found\":" ++ decimal found

-- how many clients there are, and the servers
unfoldable pub clients_text : Report → List ℕ
clients_text report = said (
    codes "\"clients\":" ∷ decimal report.rows.sessions
    ∷ codes ",\"upstreams\":[" ∷ with_commas server_text report.servers.now
    ∷ codes "]" ∷ found_part report.found ∷ [])

-- how much there is of what clients and servers have
unfoldable pub rows_text : RowCounts → List ℕ
rows_text rows = said (
    codes "\"channels\":" ∷ decimal rows.channels
    ∷ codes ",\"links\":" ∷ decimal rows.links
    ∷ codes ",\"subscriptions\":" ∷ decimal rows.subs ∷ [])

-- and of what waits for an answer, or to be found
unfoldable pub waiting_text : RowCounts → List ℕ
waiting_text rows = said (
    codes "\"reads_waiting\":" ∷ decimal rows.reads
    ∷ codes ",\"writes_waiting\":" ∷ decimal rows.writes
    ∷ codes ",\"names_remembered\":" ∷ decimal rows.searches ∷ [])

-- what was done since the start, and the most bytes that wait for a connection
unfoldable pub traffic_text : Report → List ℕ
traffic_text report = said (
    codes "\"edits\":" ∷ decimal report.edits
    ∷ codes ",\"messages_in\":" ∷ decimal report.received
    ∷ codes ",\"messages_out\":" ∷ decimal report.sent
    ∷ codes ",\"largest_outbox_bytes\":" ∷ decimal report.largest_outbox ∷ [])

-- how much is used of something, how much there may be, and how often that was met
unfoldable pub use_text : List ℕ → ℕ → ℕ → ℕ → List ℕ
use_text key used most met = said (
    codes "\"" ∷ key ∷ codes "\":{\"used\":" ∷ decimal used ∷ codes ",\"most\":" ∷ decimal most ∷ codes ",\"met\":" ∷ decimal met ∷ codes "}" ∷ [])

abbrev pub limit_text : Report → Limit → List ℕ
limit_text report limit =
    use_text (key_of limit) (used_of limit report.rows report.fullest) (most_under limit report.limits) (met_of limit report.met report.refused)

unfoldable pub limit_list : Report → List ℕ
limit_list report = with_commas (limit_text report) all_limits

abbrev pub in_all_text : InAllReport → List ℕ
in_all_text in_all = use_text (codes "bytes_of_all_clients") in_all.bytes (bytes_in_all in_all.most) in_all.cut

-- what waits for all clients together is told where a command line says how much may
abbrev pub in_all_part : Option InAllReport → List ℕ
in_all_part None = []
in_all_part (Some in_all) = codes "," ++ in_all_text in_all

unfoldable pub limits_text : Report → List ℕ
limits_text report = said (codes "\"limits\":{" ∷ limit_list report ∷ in_all_part report.in_all ∷ codes "}" ∷ [])

unfoldable pub report_text : Report → List ℕ
report_text report = said (
    codes "{" ∷ clients_text report ∷ codes "," ∷ rows_text report.rows ∷ codes "," ∷ waiting_text report.rows
    ∷ codes "," ∷ traffic_text report ∷ codes "," ∷ limits_text report ∷ codes "}" ∷ [])
