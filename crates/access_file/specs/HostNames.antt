-- Names that hosts have besides their addresses.
use Rattle.std.specs.Prelude.{◌≡◌, ◌≤◌, ℕ, List, [], ◌∷◌, length, map, filter, take, drop, bytes_eq, Option, Some, None}
use Rattle.std.specs.Map.{lookup}
use Rattle.pv_name.specs.Host.{lowercase, same_host}
use Rattle.access_file.specs.declared.host_names.HostName.{HostName}
use Rattle.access_file.specs.declared.host_names.Span.{Span}

-- the rows that give the host a name, in order
abbrev pub rows_of : List HostName → List ℕ → List HostName
rows_of rows host = filter (λ (row : HostName). same_host row.address host) rows

-- the names that the rows give the host, in order
abbrev pub names_of : List HostName → List ℕ → List (List ℕ)
names_of rows host = map (λ (row : HostName). row.name) (rows_of rows host)

-- what a client on the host counts as: that host, and each that is a name of it
unfoldable pub hosts_of : List HostName → List ℕ → List (List ℕ)
hosts_of rows host = host ∷ names_of rows host

-- the host has rows between these places alone
abbrev pub IsSpan : List HostName → List ℕ → Option Span → Type 0
IsSpan rows host None = rows_of rows host ≡ []
IsSpan rows host (Some span) =
    (span.first ≤ span.end)
    × ((span.end ≤ length rows)
    × ((rows_of (take span.first rows) host ≡ [])
    × (rows_of (drop span.end rows) host ≡ [])))

-- the spans that are kept; none before the first
abbrev pub kept_spans : List (List (List ℕ × Span)) → List (List ℕ × Span)
kept_spans [] = []
kept_spans (kept ∷ rest) = kept

-- each address has its rows in the span that is found by its text in lower case
abbrev pub AreSpans : List HostName → List (List ℕ × Span) → Type 0
AreSpans rows spans = (host : List ℕ) → IsSpan rows host (lookup (bytes_eq (lowercase host)) spans)

-- the place of the first row of a host, which is here where it has none
abbrev pub first_of : ℕ → Option Span → ℕ
first_of here None = here
first_of here (Some span) = span.first
