-- Real names, by what captures tell of a match.
use Rattle.std.proofs.Common.{◌≡◌, ℕ, ◌-◌, ◌≤◌, Bool, true, false, cond, List, [], ◌∷◌, ◌++◌, Some, refl, ap, arith}
use Rattle.std.proofs.lemmas.Bool.Decides.{nat_tests}
use Rattle.regex.specs.Patterns.{Match, find_str}
use Rattle.regex.specs.Strings.{regex_pattern, IsCapturesOf}
use Rattle.regex.specs.declared.string.captures.Captures.{Captures}
use Rattle.regex.specs.declared.string.regex.Regex.{Regex}
use Rattle.pv_alias.specs.RealName.{taken, captured, is_reference, replaced, as_name, real_name}

-- only the groups from 1 on matter
replaced_alike : (f g : ℕ → List ℕ) → ((n : ℕ) → 1 ≤ n → f n ≡ g n) → (text : List ℕ) → replaced f text ≡ replaced g text
replaced_alike f g same [] = refl
replaced_alike f g same (c ∷ []) = refl
replaced_alike f g same (c ∷ d ∷ rest) =
    by (is_reference c d) refl (replaced_alike f g same rest) (replaced_alike f g same (d ∷ rest))
  where
    by : (b : Bool) → is_reference c d ≡ b → replaced f rest ≡ replaced g rest → replaced f (d ∷ rest) ≡ replaced g (d ∷ rest)
        → cond b (f (d - 48) ++ replaced f rest) (c ∷ replaced f (d ∷ rest)) ≡ cond b (g (d - 48) ++ replaced g rest) (c ∷ replaced g (d ∷ rest))
    by true is behind more =
        let group : 1 ≤ d - 48 = grind (arith, nat_tests) in
        rw (same (d - 48) group, behind) refl
    by false is behind more = ap (λ xs. c ∷ xs) more

-- a group that captures tell is the match's
captured_is_taken : (name : List ℕ) (m : Match) (groups : Captures) → IsCapturesOf name m groups → (n : ℕ) → 1 ≤ n → captured groups n ≡ taken name m n
captured_is_taken name m groups is n some = rw (is.2 n some, is.0) refl

pub real_name_from_captures : (name : List ℕ) (regex : Regex) (text : List ℕ) (m : Match) (groups : Captures)
    → find_str (regex_pattern regex) name 0 ≡ Some m → IsCapturesOf name m groups
    → real_name name regex text ≡ as_name (replaced (captured groups) text)
real_name_from_captures name regex text m groups found is =
    rw (found, replaced_alike (captured groups) (taken name m) (captured_is_taken name m groups is) text) refl
