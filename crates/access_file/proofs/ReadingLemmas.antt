-- A fault stays.
use Rattle.std.proofs.Common.{◌≡◌, ℕ, List, [], ◌∷◌, Result, Err, refl, ap, ◌∙◌}
use Rattle.access_file.specs.declared.fault.AccessCause.{AccessCause}
use Rattle.access_file.specs.declared.fault.TokenFault.{TokenFault}
use Rattle.access_file.specs.declared.fault.TokenFault.TheVariants.{Cause, OutOfMemory}
use Rattle.access_file.specs.declared.place.Kind.{Kind}
use Rattle.access_file.specs.declared.place.Party.{Party}
use Rattle.access_file.specs.declared.reader.Reader.{Reader}
use Rattle.access_file.specs.Fault.{IsCauseOf}
use Rattle.access_file.specs.Grammar.{defined_as, listed_as, spoken_as, all_taken}
use Rattle.access_file.specs.Tokens.{Token}

all_taken-fault : (cause : AccessCause) (tokens : List Token) → all_taken (Err cause) tokens ≡ Err cause
all_taken-fault cause [] = refl
all_taken-fault cause (token ∷ tokens) = all_taken-fault cause tokens

-- behind a fault nothing is read
pub all_taken_stays : (read : Result Reader AccessCause) (tokens : List Token) (fault : TokenFault) → IsCauseOf read fault → IsCauseOf (all_taken read tokens) fault
all_taken_stays read tokens (Cause cause) h = ap (λ r. all_taken r tokens) h ∙ all_taken-fault cause tokens
all_taken_stays read tokens OutOfMemory h = tt

pub defined_as_stays : (s : Reader) (kind : Kind) (name : Result (List ℕ) AccessCause) (fault : TokenFault) → IsCauseOf name fault → IsCauseOf (defined_as s kind name) fault
defined_as_stays s kind name (Cause cause) h = ap (defined_as s kind) h
defined_as_stays s kind name OutOfMemory h = tt

pub listed_as_stays : (s : Reader) (party : Party) (name : Result (List ℕ) AccessCause) (fault : TokenFault) → IsCauseOf name fault → IsCauseOf (listed_as s party name) fault
listed_as_stays s party name (Cause cause) h = ap (listed_as s party) h
listed_as_stays s party name OutOfMemory h = tt

pub spoken_as_stays : (s : Reader) (party : Party) (name : Result (List ℕ) AccessCause) (fault : TokenFault) → IsCauseOf name fault → IsCauseOf (spoken_as s party name) fault
spoken_as_stays s party name (Cause cause) h = ap (spoken_as s party) h
spoken_as_stays s party name OutOfMemory h = tt
