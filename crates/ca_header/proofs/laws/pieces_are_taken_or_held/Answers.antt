use Rattle.std.proofs.Common.{[]}
use Rattle.ca_header.proofs.Framings.{accounted_for}
use Rattle.ca_header.proofs.laws.pieces_are_taken_or_held.Goals as goal

pub returns : goal.returns
returns c happenings held fits leads =
    let all = accounted_for [] happenings held fits leads in (all.whole, all.spelled, all.parts)
