use Rattle.pvlist.proofs.ClueLemmas.{of_parsed}
use Rattle.pvlist.proofs.clues.Clues.of.Goals as goal

pub returns-in-Ok : goal.returns-in-Ok
returns-in-Ok c =
    of_parsed c.args.regex.now c.in-Ok.parsed.hir _ c.clues_of.result c.requires.config c.requires.read
    (rw (c.default.ensures, c.as_str.ensures) at c.in-Ok.ensures.ok) c.clues_of.ensures
