use Rattle.gateway_rows.specs.Looked.{OnlyLooked}
use Rattle.consequences.proofs.sharing.share_on.Given as goal

-- what is known is as before, with a look for each subscription that was passed at most
abbrev pub invariant-loop-sub : goal.invariant-loop-sub
invariant-loop-sub l = OnlyLooked l.sub-index l.fn.rows l.rows
