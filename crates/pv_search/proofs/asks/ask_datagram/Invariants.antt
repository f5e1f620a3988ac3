use Rattle.pv_search.proofs.Fitting.{IsAsking}
use Rattle.pv_search.proofs.asks.ask_datagram.Given as goal

-- the datagram so far has the searches for the first asks, and isn't too long
abbrev pub invariant-loop-ask : goal.invariant-loop-ask
invariant-loop-ask l = IsAsking l.asks l.ask-index l.asked l.text.items
