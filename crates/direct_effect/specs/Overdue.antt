-- Properties that are overdue, by their variables.
use Rattle.std.specs.Prelude.{ℕ, ◌+◌, List, [], ◌∷◌}
use Rattle.gateway_rows.specs.Own.{reads_on}
use Rattle.gateway_state.specs.Answer.{native_in}
use Rattle.gateway_state.specs.Gateway.{Gateway}
use Rattle.gateway_state.specs.Servers.{fails_without, reads_failed}
use Rattle.link_table.specs.declared.links.LinkRow.{LinkRow}
use Rattle.link_table.specs.declared.links.Subject.TheVariants.{Properties}
use Rattle.direct_effect.specs.declared.age.Overdue.{Overdue}

-- the variable of a link, and how far that has come
abbrev pub overdue_of : LinkRow → Overdue
overdue_of link = record { name = link.name; state = link.state }

-- the reads that wait for its properties can't be had
abbrev pub given_up_on : Gateway → Overdue → Gateway
given_up_on w overdue = reads_failed (fails_without Properties (native_in overdue.state)) w overdue.name

-- the reads that wait for these variables are looked at
abbrev pub looks_at : Gateway → List Overdue → ℕ
looks_at w [] = 0
looks_at w (one ∷ overdue) = reads_on w one.name + looks_at w overdue
