-- Calls that were performed in order, and those that come behind them.
use Rattle.std.proofs.Common.{◌≡◌, ℕ, ◌+◌, List, [], ◌∷◌, ◌++◌, Result, Ok, Err, refl, sym, ap, subst, ◌∙◌, arith}
use Rattle.board_moves.specs.Rounds.{with_more, InOrder}

module _ {C B F : Type 0} (does : C → B → Result ℕ F → B → Type 0) where
  more_of_more : (count more : ℕ) (answer : Result ℕ F) → with_more count (with_more more answer) ≡ with_more (count + more) answer
  more_of_more count more (Ok n) = ap Ok (omega arith)
  more_of_more count more (Err fault) = refl

  more_of_none : (answer : Result ℕ F) → answer ≡ with_more 0 answer
  more_of_none (Ok n) = ap Ok (omega arith)
  more_of_none (Err fault) = refl

  -- how the others of a list went, where all of it was Ok
  others_count : (count all : ℕ) (more : Result ℕ F) → Ok all ≡ with_more count more → (left : ℕ) × ((more ≡ Ok left) × (all ≡ count + left))
  others_count count all (Ok left) e = (left, (refl, cc))
  others_count count all (Err fault) e = absurd cc

  others_fault : (count : ℕ) (fault : F) (more : Result ℕ F) → Err fault ≡ with_more count more → more ≡ Err fault
  others_fault count fault (Ok left) e = absurd cc
  others_fault count fault (Err other) e = cc

  -- these calls, and then others
  pub performed_then : (calls others : List C) (old between : B) (count : ℕ) (answer : Result ℕ F) (new : B)
      → InOrder does calls old (Ok count) between → InOrder does others between answer new → InOrder does (calls ++ others) old (with_more count answer) new
  performed_then [] others old between count answer new p q =
      let none : count ≡ 0 = cc in
      subst (λ (n : ℕ). InOrder does others old (with_more n answer) new) (sym none)
      (subst (λ (a : Result ℕ F). InOrder does others old a new) (more_of_none answer) (subst (λ (b : B). InOrder does others b answer new) p.1 q))
  performed_then (call ∷ calls) others old between count answer new (Ok one, (after, (done, rest))) q =
      let split = others_count one count rest.0 rest.1.1 in (
        Ok one,
        (
          after,
          (
            done,
            (
              with_more split.0 answer,
              (
                performed_then calls others after between split.0 answer new (subst (λ (more : Result ℕ F). InOrder does calls after more between) split.1.0 rest.1.0) q,
                ap (λ (n : ℕ). with_more n answer) split.1.1 ∙ sym (more_of_more one split.0 answer),
              ),
            ),
          ),
        ),
      )
  performed_then (call ∷ calls) others old between count answer new (Err fault, (after, (done, rest))) q = absurd cc

  -- a fault ends them, whatever would follow
  pub ended_then : (calls others : List C) (old new : B) (fault : F) → InOrder does calls old (Err fault) new → InOrder does (calls ++ others) old (Err fault) new
  ended_then [] others old new fault p = absurd cc
  ended_then (call ∷ calls) others old new fault (Ok one, (after, (done, rest))) = (
    Ok one,
    (
      after,
      (
        done,
        (
          Err fault,
          (
            ended_then calls others after new fault (subst (λ (more : Result ℕ F). InOrder does calls after more new) (others_fault one fault rest.0 rest.1.1) rest.1.0),
            refl,
          ),
        ),
      ),
    ),
  )
  ended_then (call ∷ calls) others old new fault (Err other, (after, (done, rest))) = (Err other, (after, (done, rest)))

  -- one call alone
  pub one_done : (call : C) (old : B) (count : ℕ) (new : B) → does call old (Ok count) new → InOrder does (call ∷ []) old (Ok count) new
  one_done call old count new done = (Ok count, (new, (done, (Ok 0, ((refl, refl), ap Ok (omega arith))))))

  -- a call that is refused, and others that aren't performed
  pub one_refused : (call : C) (others : List C) (old : B) (fault : F) (new : B) → does call old (Err fault) new → InOrder does (call ∷ others) old (Err fault) new
  one_refused call others old fault new done = (Err fault, (new, (done, (refl, refl))))
