-- The rows of connections.
use Rattle.std.specs.Prelude.{◌≡◌, ℕ, ◌+◌, ◌-◌, ◌==◌, ◌≤◌, ◌<◌, min, List, [], ◌∷◌, ◌++◌, length, filter, replicate, slice_set, Bool, true, false, Option, Some, None}
use Rattle.std.specs.List.{find, list_any}
use Rattle.std.specs.Option.{option_or}
use Rattle.rows.specs.Rows.{change_first, remove_first}
use Rattle.gateway_state.specs.Connections.{same_dest}
use Rattle.gateway_state.specs.declared.event.Dest.{Dest}
use Rattle.gateway_state.specs.declared.event.Dest.TheVariants.{Session, Upstream}
use Rattle.serve_state.specs.declared.cut.Cut.{Cut}
use Rattle.serve_state.specs.declared.cut.Cut.TheVariants.{TooSlow}

-- a connection: whether it has its socket, how many of its workers have not ended, whether it was made and waits for them, why it is
-- cut off, and the number of the host as one of whose clients it was admitted
pub record RowState : Type 0 where
  pub dest : Dest
  pub link : Bool
  pub workers : ℕ
  pub reached : Bool
  pub cut : Option Cut
  pub host : Option ℕ

-- how many clients may be connected at once, the rows in the order in which connections began, and the status that a closing program ends
-- with
pub record RosterState : Type 0 where
  pub clients : ℕ
  pub rows : List RowState
  pub closing : Option ℕ

-- the row of this connection
abbrev pub is_row : Dest → RowState → Bool
is_row dest row = same_dest row.dest dest

abbrev pub holds : Dest → List RowState → Bool
holds dest rows = list_any (is_row dest) rows

-- a client's connection comes with its socket; one to a server gets it once it is made
abbrev pub comes_made : Dest → Bool
comes_made (Session n) = true
comes_made (Upstream n) = false

-- a connection has two workers
abbrev pub new_row : Dest → RowState
new_row dest = record { dest = dest; link = comes_made dest; workers = 2; reached = false; cut = None; host = None }

-- the same of a client that is admitted as one of a host's
abbrev pub row_of : Option ℕ → Dest → RowState
row_of host dest = record (new_row dest) { host = host }

-- a row comes last
abbrev pub with_new : RowState → RosterState → RosterState
with_new row roster = record roster { rows = roster.rows ++ row ∷ [] }

abbrev pub with_row : Dest → RosterState → RosterState
with_row dest roster = with_new (new_row dest) roster

abbrev pub with_row_of : Option ℕ → Dest → RosterState → RosterState
with_row_of host dest roster = with_new (row_of host dest) roster

abbrev pub has_host : ℕ → Option ℕ → Bool
has_host host (Some own) = own == host
has_host host None = false

abbrev pub is_of_host : ℕ → RowState → Bool
is_of_host host row = has_host host row.host

-- how many clients were admitted as this host's
abbrev pub clients_of : ℕ → List RowState → ℕ
clients_of host rows = length (filter (is_of_host host) rows)

-- the least number of a client, from 1 to as many as may be connected, that no connection holds
pub record IsLeastFree (most : ℕ) (n : ℕ) (rows : List RowState) : Type 0 where
  pub low : 1 ≤ n
  pub high : n ≤ most
  pub free : holds (Session n) rows ≡ false
  pub least : (m : ℕ) → 1 ≤ m → m < n → holds (Session m) rows ≡ true

abbrev pub IsFull : ℕ → List RowState → Type 0
IsFull most rows = (m : ℕ) → 1 ≤ m → m ≤ most → holds (Session m) rows ≡ true

-- up to which number it is enough to seek a free one: of one more than there are rows one is free
abbrev pub enough : ℕ → ℕ → ℕ
enough rows most = min (rows + 1) most

-- which numbers up to this one are taken while no row holds any: 0 is, since no client gets it
abbrev pub none_taken : ℕ → List Bool
none_taken most = true ∷ replicate most false

-- the number of a client's connection is taken too
abbrev pub with_taken : Dest → List Bool → List Bool
with_taken (Session n) taken = slice_set taken n true
with_taken (Upstream n) taken = taken

-- the numbers that rows hold are taken
abbrev pub taken_by : List RowState → List Bool → List Bool
taken_by [] taken = taken
taken_by (row ∷ rows) taken = taken_by rows (with_taken row.dest taken)

-- the first status stands
abbrev pub closed_with : ℕ → RosterState → RosterState
closed_with status roster = record roster { closing = option_or roster.closing (Some status) }

-- each reason but that it is too slow stands
abbrev pub cut_after : Option Cut → Cut → Option Cut
cut_after None why = Some why
cut_after (Some (TooSlow messages)) why = Some why
cut_after (Some first) why = Some first

abbrev pub with_cut : Cut → RowState → RowState
with_cut why row = record row { cut = cut_after row.cut why }

abbrev pub with_left : RowState → RowState
with_left row = record row { workers = row.workers - 1 }

-- it was made, and has its socket from now on
abbrev pub with_reached : RowState → RowState
with_reached row = record row { link = true; reached = true }

abbrev pub with_served : RowState → RowState
with_served row = record row { reached = false }

-- a row changed
abbrev pub changed : Dest → (RowState → RowState) → RosterState → RosterState
changed dest f roster = record roster { rows = change_first (is_row dest) f roster.rows }

abbrev pub without : Dest → RosterState → RosterState
without dest roster = record roster { rows = remove_first (is_row dest) roster.rows }

abbrev pub is_reached : RowState → Bool
is_reached row = row.reached

abbrev pub has_ended : RowState → Bool
has_ended row = row.workers == 0

-- of a connection that there is, the worker that ends is the last one
abbrev pub ends_with : Option RowState → Bool
ends_with None = false
ends_with (Some row) = has_ended (with_left row)

abbrev pub is_last : Dest → List RowState → Bool
is_last dest rows = ends_with (find (is_row dest) rows)
