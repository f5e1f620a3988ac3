use Rattle.channel_table.specs.Looks.{GoesOn}
use Rattle.gateway_rows.proofs.policy.learn_leads.Given as goal

-- visits never fall
abbrev pub invariant-loop-channel : goal.invariant-loop-channel
invariant-loop-channel l = GoesOn l.fn.visits l.visits
