-- What is done with something, and printed of it.
use Rattle.std.specs.Prelude.{◌≡◌, ℕ, zero, suc, List, [], ◌++◌, Option, Some, None}
use Rattle.std.specs.Io.KnownBytes.{Appends}

-- it becomes this, and this text is printed: both follow from what it was
abbrev pub Becomes : {A : Type 0} → (A → A) → (A → List ℕ) → A → A → List ℕ → Type 0
Becomes after said old new text = (new ≡ after old) × (text ≡ said old)

-- nothing is printed
abbrev pub silent : {A : Type 0} → A → List ℕ
silent old = []

-- it stays as it is, and nothing is printed
abbrev pub Rests : {A : Type 0} → A → A → List ℕ → Type 0
Rests old new text = (new ≡ old) × (text ≡ [])

-- one thing is done and then another, and their texts follow each other
pub record Then {A : Type 0} (first second : A → A → List ℕ → Type 0) (old new : A) (text : List ℕ) : Type 0 where
  pub between : A
  pub said : List ℕ
  pub more : List ℕ
  pub begun : first old between said
  pub ended : second between new more
  pub parts : text ≡ said ++ more

-- one thing is done so many times, and then another
abbrev pub Times : {A : Type 0} → ℕ → (A → A → List ℕ → Type 0) → (A → A → List ℕ → Type 0) → A → A → List ℕ → Type 0
Times zero again last = last
Times (suc times) again last = Then again (Times times again last)

-- one thing is done again and again, and then another
abbrev pub Until : {A : Type 0} → (A → A → List ℕ → Type 0) → (A → A → List ℕ → Type 0) → A → A → List ℕ → Type 0
Until again last old new text = (times : ℕ) × Times times again last old new text

-- this is done, where what it was is known: then what it became is known too, and the text is printed, where what
-- stood before it is known
abbrev pub Performs : {A : Type 0} → (A → A → List ℕ → Type 0) → Option A → Option A → Option (List ℕ) → Option (List ℕ) → Type 0
Performs does None new before after = Unit {0}
Performs {A} does (Some old) new before after =
    (now : A) × (text : List ℕ) × (new ≡ Some now) × does old now text × Appends before after text
