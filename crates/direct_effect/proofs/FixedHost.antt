-- A session whose host is fixed is where it was.
use Rattle.std.proofs.Common.{◌≡◌, ℕ, List, [], ◌∷◌, Bool, true, false, cond, Option, Some, None, refl, ap, ◌∙◌}
use Rattle.std.specs.Prelude.{if◌then◌else◌, nat_le}
use Rattle.std.specs.List.{find}
use Rattle.std.specs.Option.{option_map}
use Rattle.rows.specs.Rows.{change_first}
use Rattle.channel_table.specs.declared.sessions.Session.{Session}
use Rattle.channel_table.specs.ClientRows.{channel_count}
use Rattle.channel_table.specs.Sessions.{is_numbered}
use Rattle.gateway_state.specs.Clients.{fixed, with_host_fixed}
use Rattle.gateway_state.specs.Gateway.{Gateway}
use Rattle.gateway_state.specs.Variables.{ConnectedVariable, connected}
use Rattle.pv_alias.specs.declared.lead.Lead.{Lead}
use Rattle.touched_rows.specs.declared.touched.Touched.TheVariants.{Nothing}
use Rattle.touched_rows.specs.Touches.{create_touches_as, create_touches_over}

found_fixed : (number : ℕ) (sessions : List Session) → find (is_numbered number) (change_first (is_numbered number) fixed sessions) ≡ option_map fixed (find (is_numbered number) sessions)
found_fixed number [] = refl
found_fixed number (row ∷ sessions) = by (is_numbered number row) refl (found_fixed number sessions)
  where
    by : (t : Bool) → is_numbered number row ≡ t → find (is_numbered number) (change_first (is_numbered number) fixed sessions) ≡ option_map fixed (find (is_numbered number) sessions)
        → find (is_numbered number) (cond t (fixed row ∷ sessions) (row ∷ change_first (is_numbered number) fixed sessions)) ≡ option_map fixed (cond t (Some row) (find (is_numbered number) sessions))
    by true is rest = ap (λ (t : Bool). cond t (Some (fixed row)) (find (is_numbered number) sessions)) is
    by false is rest = ap (λ (t : Bool). cond t (Some row) (find (is_numbered number) (change_first (is_numbered number) fixed sessions))) is ∙ rest

over_fixed : (w : Gateway) (number : ℕ) (found : Option Session) (name : List ℕ) (on : Option ConnectedVariable)
    → create_touches_over (with_host_fixed number w) (option_map fixed found) name on ≡ create_touches_over w found name on
over_fixed w number None name None = refl
over_fixed w number None name (Some v) = refl
over_fixed w number (Some row) name None = refl
over_fixed w number (Some row) name (Some v) = refl

touched_over : (w : Gateway) (number : ℕ) (name : List ℕ) (on : Option ConnectedVariable)
    → create_touches_over (with_host_fixed number w) (find (is_numbered number) (with_host_fixed number w).clients.sessions) name on
    ≡ create_touches_over w (find (is_numbered number) w.clients.sessions) name on
touched_over w number name on =
    ap (λ (found : Option Session). create_touches_over (with_host_fixed number w) found name on) (found_fixed number w.clients.sessions)
    ∙ over_fixed w number (find (is_numbered number) w.clients.sessions) name on

-- what its channel touches doesn't change by that
pub touches_as_fixed : (w : Gateway) (number : ℕ) (name : List ℕ) (lead : Option Lead) → create_touches_as (with_host_fixed number w) number name lead ≡ create_touches_as w number name lead
touches_as_fixed w number name None = refl
touches_as_fixed w number name (Some lead) =
    ap (λ touched. if nat_le w.limits.channels (channel_count number w.clients) then Nothing else touched)
    (touched_over w number name (connected w lead.real))
