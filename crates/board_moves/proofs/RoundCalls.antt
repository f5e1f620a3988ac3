-- Rounds whose calls are performed one by one, by their number.
use Rattle.std.proofs.Common.{◌≡◌, ℕ, zero, suc, ◌+◌, ◌-◌, ◌≤◌, List, [], ◌∷◌, ◌++◌, length, map, min, take, drop, Option, Some, None, Result, Ok, Err, refl, sym, ap, subst, ◌∙◌, arith}
use Rattle.std.specs.Prelude.{◌^◌, slice_get, IsSome}
use Rattle.std.specs.Option.{option_map}
use Rattle.std.proofs.lemmas.List.{take_all, length-map}
use Rattle.std.proofs.lemmas.Option.{slice_get-map}
use Rattle.std.proofs.Math.Numerals.{suc-eq-add-one}
use Rattle.gateway_state.specs.Gateway.{Gateway}
use Rattle.gateway_state.specs.declared.event.Dest.{Dest}
use Rattle.board_rings.specs.Rings.{AttachmentState}
use Rattle.board_moves.proofs.Performed.{ended_then, one_done, one_refused, performed_then}
use Rattle.board_moves.specs.Noted.{begun, noted_of, NotedBoard}
use Rattle.board_moves.specs.Rounds.{dests_of, free_calls, round_calls, told_count, IsFreeRound, IsFreeRoundOn, IsRound, IsRoundOn, Performs, PerformsAll, PerformsUpTo}
use Rattle.board_moves.specs.declared.fault.BoardFault.{BoardFault}
use Rattle.board_moves.specs.declared.news.News.{News}
use Rattle.board_moves.specs.declared.rounds.RoundCall.{RoundCall}
use Rattle.board_moves.specs.declared.rounds.RoundCall.TheVariants.{SendOut}

-- the first n calls were performed, and so many items moved, as far as can be told
pub record IsPerformed (calls : List RoundCall) (n : ℕ) (start now : NotedBoard) (moved : ℕ) : Type 0 where
  pub exact : ℕ
  pub done : PerformsAll (take n calls) start (Ok exact) now
  pub told : moved ≡ min exact (2 ^ 64 - 1)

take_next : {A : Type 0} (xs : List A) (n : ℕ) (x : A) → slice_get xs n ≡ Some x → take (suc n) xs ≡ take n xs ++ x ∷ []
take_next [] n x is = absurd cc
take_next (y ∷ xs) zero x is = cc
take_next (y ∷ xs) (suc n) x is = ap (λ ys. y ∷ ys) (take_next xs n x is)

split_next : {A : Type 0} (xs : List A) (n : ℕ) (x : A) → slice_get xs n ≡ Some x → xs ≡ take n xs ++ x ∷ drop (suc n) xs
split_next [] n x is = absurd cc
split_next (y ∷ xs) zero x is = cc
split_next (y ∷ xs) (suc n) x is = ap (λ ys. y ∷ ys) (split_next xs n x is)

-- the call of a place is for the connection of that place
call_at : (make : Dest → RoundCall) (attachments start : List AttachmentState) (n : ℕ) (dest : Dest) → dests_of attachments ≡ dests_of start → option_map (λ (attachment : AttachmentState). attachment.dest) (slice_get attachments n) ≡ Some dest
    → slice_get (map make (dests_of start)) n ≡ Some (make dest)
call_at make attachments start n dest same there =
    slice_get-map make (dests_of start) n
    ∙ ap (λ (ds : List Dest). option_map make (slice_get ds n)) (sym same)
    ∙ ap (option_map make) (slice_get-map (λ (attachment : AttachmentState). attachment.dest) attachments n ∙ there)

pub next_performed : (make : Dest → RoundCall) (attachments start_attachments : List AttachmentState) (n : ℕ) (dest : Dest) (start now next : NotedBoard) (moved count moved_now : ℕ)
    → dests_of attachments ≡ dests_of start_attachments → option_map (λ (attachment : AttachmentState). attachment.dest) (slice_get attachments n) ≡ Some dest
    → IsPerformed (map make (dests_of start_attachments)) n start now moved → Performs (make dest) now (Ok count) next → moved_now ≡ min (moved + count) (2 ^ 64 - 1)
    → IsPerformed (map make (dests_of start_attachments)) (n + 1) start next moved_now
next_performed make attachments start_attachments n dest start now next moved count moved_now same there so_far one told =
    let calls = map make (dests_of start_attachments) in
    let at = call_at make attachments start_attachments n dest same there in
    let done : PerformsAll (take n calls ++ make dest ∷ []) start (Ok (so_far.exact + count)) next = performed_then Performs (take n calls) (make dest ∷ []) start now so_far.exact (Ok count) next so_far.done (one_done Performs (make dest) now count next one) in
    record {
      exact = so_far.exact + count;
      done = subst (λ (cs : List RoundCall). PerformsAll cs start (Ok (so_far.exact + count)) next) (sym (ap (λ (k : ℕ). take k calls) (sym (suc-eq-add-one n)) ∙ take_next calls n (make dest) at)) done;
      told = omega (arith, told, so_far.told);
    }

pub next_refused : (make : Dest → RoundCall) (attachments start_attachments : List AttachmentState) (n : ℕ) (dest : Dest) (start now next : NotedBoard) (moved : ℕ) (fault : BoardFault)
    → dests_of attachments ≡ dests_of start_attachments → option_map (λ (attachment : AttachmentState). attachment.dest) (slice_get attachments n) ≡ Some dest
    → IsPerformed (map make (dests_of start_attachments)) n start now moved → Performs (make dest) now (Err fault) next
    → PerformsUpTo (map make (dests_of start_attachments)) start (Err fault) next
next_refused make attachments start_attachments n dest start now next moved fault same there so_far one =
    let calls = map make (dests_of start_attachments) in
    let at = call_at make attachments start_attachments n dest same there in
    let all : PerformsAll (take n calls ++ make dest ∷ drop (suc n) calls) start (Err fault) next =
    performed_then Performs (take n calls) (make dest ∷ drop (suc n) calls) start now so_far.exact (Err fault) next so_far.done (one_refused Performs (make dest) (drop (suc n) calls) now fault next one) in
    (Err fault, (subst (λ (cs : List RoundCall). PerformsAll cs start (Err fault) next) (sym (split_next calls n (make dest) at)) all, refl))

past_end : {A B : Type 0} (f : A → B) (xs : List A) (n : ℕ) → option_map f (slice_get xs n) ≡ None → length xs ≤ n
past_end f [] n none = omega arith
past_end f (x ∷ xs) zero none = absurd cc
past_end f (x ∷ xs) (suc n) none = omega (arith, past_end f xs n none)

pub all_performed : (make : Dest → RoundCall) (attachments start_attachments : List AttachmentState) (n : ℕ) (start now : NotedBoard) (moved : ℕ) → dests_of attachments ≡ dests_of start_attachments → length attachments ≤ n
    → IsPerformed (map make (dests_of start_attachments)) n start now moved → PerformsUpTo (map make (dests_of start_attachments)) start (Ok moved) now
all_performed make attachments start_attachments n start now moved same enough so_far =
    let calls = map make (dests_of start_attachments) in
    let attachment_dest = λ (attachment : AttachmentState). attachment.dest in (
      Ok so_far.exact,
      (
        subst (λ (cs : List RoundCall). PerformsAll cs start (Ok so_far.exact) now)
            (take_all n calls (omega (arith, enough, ap length same, length-map (dests_of start_attachments) make, length-map start_attachments attachment_dest, length-map attachments attachment_dest))) so_far.done,
        ap Ok so_far.told,
      ),
    )

pub all_performed_there : (make : Dest → RoundCall) (attachments start_attachments : List AttachmentState) (n : ℕ) (start now : NotedBoard) (moved : ℕ) → dests_of attachments ≡ dests_of start_attachments
    → option_map (λ (attachment : AttachmentState). attachment.dest) (slice_get attachments n) ≡ None
    → IsPerformed (map make (dests_of start_attachments)) n start now moved → PerformsUpTo (map make (dests_of start_attachments)) start (Ok moved) now
all_performed_there make attachments start_attachments n start now moved same none so_far =
    all_performed make attachments start_attachments n start now moved same (past_end (λ (attachment : AttachmentState). attachment.dest) attachments n none) so_far

-- WHOLE ROUNDS

told_fault : (fault : BoardFault) (exact : Result ℕ BoardFault) → Err fault ≡ told_count exact → exact ≡ Err fault
told_fault fault (Ok count) e = absurd cc
told_fault fault (Err other) e = cc

told_sum : (count : ℕ) (exact : Result ℕ BoardFault) → Ok count ≡ told_count exact → (sum : ℕ) × ((exact ≡ Ok sum) × (count ≡ min sum (2 ^ 64 - 1)))
told_sum count (Ok sum) e = (sum, (refl, cc))
told_sum count (Err fault) e = absurd cc

-- a fault ends all calls
fault_ends : (calls others : List RoundCall) (old new : NotedBoard) (fault : BoardFault) → PerformsUpTo calls old (Err fault) new → PerformsUpTo (calls ++ others) old (Err fault) new
fault_ends calls others old new fault (exact, (all, told)) = (
  Err fault,
  (ended_then Performs calls others old new fault (subst (λ (r : Result ℕ BoardFault). PerformsAll calls old r new) (told_fault fault exact told) all), refl),
)

-- others that end at a fault
fault_follows : (calls others : List RoundCall) (old between new : NotedBoard) (count : ℕ) (fault : BoardFault) → PerformsUpTo calls old (Ok count) between → PerformsUpTo others between (Err fault) new
    → PerformsUpTo (calls ++ others) old (Err fault) new
fault_follows calls others old between new count fault (exact, (all, told)) (rest, (others_all, others_told)) =
    let sum = told_sum count exact told in (
      Err fault,
      (
        performed_then Performs calls others old between sum.0 (Err fault) new (subst (λ (r : Result ℕ BoardFault). PerformsAll calls old r between) sum.1.0 all)
            (subst (λ (r : Result ℕ BoardFault). PerformsAll others between r new) (told_fault fault rest others_told) others_all),
        refl,
      ),
    )

all_follow : (calls others : List RoundCall) (old between new : NotedBoard) (count more total : ℕ) → PerformsUpTo calls old (Ok count) between → PerformsUpTo others between (Ok more) new
    → total ≡ min (count + more) (2 ^ 64 - 1) → PerformsUpTo (calls ++ others) old (Ok total) new
all_follow calls others old between new count more total (exact, (all, told)) (rest, (others_all, others_told)) is =
    let sum = told_sum count exact told in
    let left = told_sum more rest others_told in (
      Ok (sum.0 + left.0),
      (
        performed_then Performs calls others old between sum.0 (Ok left.0) new (subst (λ (r : Result ℕ BoardFault). PerformsAll calls old r between) sum.1.0 all)
            (subst (λ (r : Result ℕ BoardFault). PerformsAll others between r new) left.1.0 others_all),
        ap Ok (omega (arith, is, sum.1.1, left.1.1)),
      ),
    )

round_on : (rows : Option Gateway) (old : NotedBoard) (answer : Result ℕ BoardFault) (new : NotedBoard) → IsSome rows → PerformsUpTo (round_calls old.attachments) (begun old) answer new → IsRoundOn rows old answer new
round_on None old answer new some all = absurd cc
round_on (Some w) old answer new some all = all

-- the round begins where the engine was asked whether it failed
pub round_of : (engine asked after : Option Gateway) (attachments left : List AttachmentState) (before news : News) (answer : Result ℕ BoardFault) → IsSome engine → asked ≡ engine
    → PerformsUpTo (round_calls attachments) (begun (noted_of asked attachments before)) answer (noted_of after left news) → IsRound (noted_of engine attachments before) answer (noted_of after left news)
round_of engine asked after attachments left before news answer some same all =
    round_on engine (noted_of engine attachments before) answer (noted_of after left news) some
    (subst (λ (rows : Option Gateway). PerformsUpTo (round_calls attachments) (begun (noted_of rows attachments before)) answer (noted_of after left news)) same all)

free_on : (rows : Option Gateway) (old : NotedBoard) (answer : Result ℕ BoardFault) (new : NotedBoard) → IsSome rows → PerformsUpTo (free_calls old.attachments) (begun old) answer new → IsFreeRoundOn rows old answer new
free_on None old answer new some all = absurd cc
free_on (Some w) old answer new some all = all

-- the same of a round in which those that are held aren't pumped
pub free_round_of : (engine asked after : Option Gateway) (attachments left : List AttachmentState) (before news : News) (answer : Result ℕ BoardFault) → IsSome engine → asked ≡ engine
    → PerformsUpTo (free_calls attachments) (begun (noted_of asked attachments before)) answer (noted_of after left news) → IsFreeRound (noted_of engine attachments before) answer (noted_of after left news)
free_round_of engine asked after attachments left before news answer some same all =
    free_on engine (noted_of engine attachments before) answer (noted_of after left news) some
    (subst (λ (rows : Option Gateway). PerformsUpTo (free_calls attachments) (begun (noted_of rows attachments before)) answer (noted_of after left news)) same all)

-- a round of either kind: its first calls, and what makes it of all its calls
module _ (first : Dest → RoundCall) (IsWhole : NotedBoard → Result ℕ BoardFault → NotedBoard → Type 0)
    (whole : (engine asked after : Option Gateway) (attachments left : List AttachmentState) (before news : News) (answer : Result ℕ BoardFault) → IsSome engine → asked ≡ engine
    → PerformsUpTo (map first (dests_of attachments) ++ map SendOut (dests_of attachments)) (begun (noted_of asked attachments before)) answer (noted_of after left news)
    → IsWhole (noted_of engine attachments before) answer (noted_of after left news)) where
  pub pumps_end : (engine asked after : Option Gateway) (attachments left : List AttachmentState) (before news : News) (fault : BoardFault) → IsSome engine → asked ≡ engine
      → PerformsUpTo (map first (dests_of attachments)) (begun (noted_of asked attachments before)) (Err fault) (noted_of after left news)
      → IsWhole (noted_of engine attachments before) (Err fault) (noted_of after left news)
  pumps_end engine asked after attachments left before news fault some same all =
      whole engine asked after attachments left before news (Err fault) some same
      (fault_ends (map first (dests_of attachments)) (map SendOut (dests_of attachments)) (begun (noted_of asked attachments before)) (noted_of after left news) fault all)

  pub sends_end : (engine asked pumped after : Option Gateway) (attachments between left : List AttachmentState) (before told news : News) (received : ℕ) (fault : BoardFault) → IsSome engine → asked ≡ engine
      → dests_of between ≡ dests_of attachments
      → PerformsUpTo (map first (dests_of attachments)) (begun (noted_of asked attachments before)) (Ok received) (noted_of pumped between told)
      → PerformsUpTo (map SendOut (dests_of between)) (noted_of pumped between told) (Err fault) (noted_of after left news)
      → IsWhole (noted_of engine attachments before) (Err fault) (noted_of after left news)
  sends_end engine asked pumped after attachments between left before told news received fault some same dests all others =
      whole engine asked after attachments left before news (Err fault) some same
      (
      fault_follows (map first (dests_of attachments)) (map SendOut (dests_of attachments)) (begun (noted_of asked attachments before)) (noted_of pumped between told) (noted_of after left news) received fault all
      (subst (λ (ds : List Dest). PerformsUpTo (map SendOut ds) (noted_of pumped between told) (Err fault) (noted_of after left news)) dests others)
      )

  pub round_ends : (engine asked pumped after : Option Gateway) (attachments between left : List AttachmentState) (before told news : News) (received sent total : ℕ) → IsSome engine → asked ≡ engine
      → dests_of between ≡ dests_of attachments
      → PerformsUpTo (map first (dests_of attachments)) (begun (noted_of asked attachments before)) (Ok received) (noted_of pumped between told)
      → PerformsUpTo (map SendOut (dests_of between)) (noted_of pumped between told) (Ok sent) (noted_of after left news) → total ≡ min (received + sent) (2 ^ 64 - 1)
      → IsWhole (noted_of engine attachments before) (Ok total) (noted_of after left news)
  round_ends engine asked pumped after attachments between left before told news received sent total some same dests all others is =
      whole engine asked after attachments left before news (Ok total) some same
      (
      all_follow (map first (dests_of attachments)) (map SendOut (dests_of attachments)) (begun (noted_of asked attachments before)) (noted_of pumped between told) (noted_of after left news) received sent total all
      (subst (λ (ds : List Dest). PerformsUpTo (map SendOut ds) (noted_of pumped between told) (Ok sent) (noted_of after left news)) dests others) is
      )
