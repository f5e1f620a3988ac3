use Rattle.std.proofs.Common.{◌≡◌, ℕ, ◌++◌, drop}
use Rattle.std.specs.List.{flat_map}
use Rattle.ca_header.specs.Header.{message_text}
use Rattle.pv_search.specs.Reply.{found, search_reply}
use Rattle.pv_search.proofs.reply.search_reply.Given as goal

-- what is written, and the messages for the CIDs that are left, are the whole reply
abbrev pub invariant-loop-cid : goal.invariant-loop-cid
invariant-loop-cid l =
    l.reply.items ++ flat_map (λ (cid : ℕ). message_text (found l.port cid)) (drop l.cid-index l.cids) ≡ search_reply l.port l.cids
