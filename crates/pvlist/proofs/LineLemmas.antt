-- Faults of lines.
use Rattle.std.proofs.Common.{◌≡◌, ℕ, Bool, true, false, cond, ◌&&◌, List, [], ◌∷◌, ◌++◌, Option, Some, None, refl, sym, ap, ◌∙◌}
use Rattle.std.specs.List.{list_all}
use Rattle.pv_name.specs.Host.{is_host}
use Rattle.pvlist.specs.declared.fault.RuleLineFault.{RuleLineFault}
use Rattle.pvlist.specs.declared.fault.RuleLineFault.TheVariants.{Cause, OutOfMemory}
use Rattle.pvlist.specs.declared.fault.RuleCause.TheVariants.{BadFrom, BadReference}
use Rattle.pvlist.specs.declared.row.Security.{Security}
use Rattle.pvlist.specs.declared.syntax.Syntax.{Syntax}
use Rattle.regex.specs.declared.string.regex.Regex.{Regex}
use Rattle.pvlist.specs.Compiled.{IsCompiled, IsAccepted}
use Rattle.pvlist.specs.Fault.{Lacks}
use Rattle.pvlist.specs.RuleLine.{alias_entry, host_word, hosts_among, IsFaultOf}

-- an alias without a real name, whose pattern is fine
pub alias_without_real : (syntax : Syntax) (pattern : List ℕ) (security : Security) (found : Option (List ℕ)) (regex : Regex) (fault : RuleLineFault)
    → IsCompiled syntax pattern regex → Lacks BadReference found fault → IsFaultOf syntax pattern (alias_entry (Some security) found) fault
alias_without_real syntax pattern security found regex (Cause cause) compiled lacks =
    let accepted : IsAccepted syntax pattern = record { regex = regex; compiled = compiled } in
    rw (lacks.0, lacks.1) (refl, accepted)
alias_without_real syntax pattern security found regex OutOfMemory compiled lacks = tt

no_host : (word : List ℕ) → host_word word ≡ None → is_host word ≡ false
no_host word h = by (is_host word) h
  where
    by : (good : Bool) → cond good (Some word) None ≡ None → good ≡ false
    by true h = cc
    by false h = refl

list_all-missed : (before : List (List ℕ)) (word : List ℕ) (rest : List (List ℕ)) → is_host word ≡ false → list_all is_host (before ++ word ∷ rest) ≡ false
list_all-missed [] word rest h = rw h refl
list_all-missed (x ∷ before) word rest h = by (is_host x) (list_all-missed before word rest h)
  where
    by : (good : Bool) → list_all is_host (before ++ word ∷ rest) ≡ false → (good && list_all is_host (before ++ word ∷ rest)) ≡ false
    by true step = step
    by false step = refl

-- words that have one which is no host
pub hosts_lacking : (before : List (List ℕ)) (word : List ℕ) (rest : List (List ℕ)) (first : List ℕ) (words : List (List ℕ)) (fault : RuleLineFault)
    → before ++ word ∷ rest ≡ first ∷ words → Lacks BadFrom (host_word word) fault → Lacks BadFrom (hosts_among (first ∷ words)) fault
hosts_lacking before word rest first words (Cause cause) all lacks =
    let missed : list_all is_host (first ∷ words) ≡ false = ap (list_all is_host) (sym all) ∙ list_all-missed before word rest (no_host word lacks.1) in
    (lacks.0, ap (λ good. cond good (Some (first ∷ words)) None) missed)
hosts_lacking before word rest first words OutOfMemory all lacks = tt
