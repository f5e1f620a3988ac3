-- The first faulty line of a file.
use Rattle.std.specs.Prelude.{◌≡◌, ℕ, ◌+◌, List, ◌∷◌, ◌++◌, length}
use Rattle.pvlist.specs.declared.fault.RuleCause.{RuleCause}
use Rattle.pvlist.specs.declared.fault.RuleFault.{RuleFault}
use Rattle.pvlist.specs.declared.fault.RuleFault.TheVariants.{At, OutOfMemory}

-- the lines before that of the number, counted from 1, say something, and after them that line is faulty by this cause
pub record IsFirstFault {S : Type 0} (Says : List (List ℕ) → S → Type 0) (Refuses : S → List ℕ → RuleCause → Type 0) (all : List (List ℕ)) (number : ℕ) (cause : RuleCause) : Type 0 where
  pub before : List (List ℕ)
  pub line : List ℕ
  pub after : List (List ℕ)
  pub parted : all ≡ before ++ line ∷ after
  pub place : number ≡ length before + 1
  pub said : S
  pub says : Says before said
  pub refused : Refuses said line cause

-- the same, or memory ran out
abbrev pub IsFileFault : {S : Type 0} → (List (List ℕ) → S → Type 0) → (S → List ℕ → RuleCause → Type 0) → List (List ℕ) → RuleFault → Type 0
IsFileFault Says Refuses all (At number cause) = IsFirstFault Says Refuses all number cause
IsFileFault Says Refuses all OutOfMemory = Unit {0}
