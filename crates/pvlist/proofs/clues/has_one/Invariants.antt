use Rattle.std.proofs.Common.{◌≡◌, ℕ, drop, map, Vec}
use Rattle.std.specs.List.{list_any}
use Rattle.std.specs.declared.alloc.Global.{Global}
use Rattle.pvlist.specs.Clues.{is_there}
use Rattle.pvlist.proofs.clues.has_one.Given as goal

-- what is left decides
abbrev pub invariant-loop-text : goal.invariant-loop-text
invariant-loop-text l =
    list_any (is_there l.place l.name) (map (λ (text : Vec ℕ Global). text.items) (drop l.text-index l.text-items))
    ≡ list_any (is_there l.place l.name) (map (λ (text : Vec ℕ Global). text.items) l.text-items)
