-- What rules grant together.
use Rattle.std.proofs.Common.{◌≡◌, Bool, true, false, cond, List, ◌∷◌, refl, ap}
use Rattle.std.specs.Prelude.{fold, filter, nat_lt}
use Rattle.access_file.specs.Groups.{better_by, right_bits}
use Rattle.access_file.specs.declared.rule.Grant.{Grant}
use Rattle.access_file.specs.declared.rule.Rule.{Rule}

-- a rule that grants no greater right changes nothing, whether it applies or not
pub passed_over : (p : Rule → Bool) (best : Grant) (rule : Rule) (rest : List Rule) → nat_lt (right_bits best.right) (right_bits rule.grant.right) ≡ false
    → fold better_by best (filter p (rule ∷ rest)) ≡ fold better_by best (filter p rest)
passed_over p best rule rest is = by (p rule)
  where
    by : (t : Bool) → fold better_by best (cond t (rule ∷ filter p rest) (filter p rest)) ≡ fold better_by best (filter p rest)
    by true = ap (λ b. fold better_by b (filter p rest)) (ap (λ t. cond t rule.grant best) is)
    by false = refl
