use Rattle.std.proofs.Common.{◌≡◌, length, option_map}
use Rattle.pvlist.specs.Separators.{parts, words_left}
use Rattle.pvlist.proofs.words.RuleWords.next.Given as goal

-- the parts that are left have the same words, with commas as before
abbrev pub invariant-loop-self : goal.invariant-loop-self
invariant-loop-self l =
    words_left l.initial.self-inside.commas (option_map (λ text. text.now) l.initial.self-inside.rest) ≡ words_left l.self-inside.commas (option_map (λ text. text.now) l.self-inside.rest)

abbrev pub decreases-loop-self : goal.decreases-loop-self
decreases-loop-self l = length (parts l.self-inside.commas (option_map (λ text. text.now) l.self-inside.rest))
