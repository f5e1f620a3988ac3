-- Owing updates leaves a variable as many rows as it had.
use Rattle.std.proofs.Common.{◌≡◌, ℕ, suc, List, [], ◌∷◌, Option, Some, None, arith, Bool, true, false, cond, length, refl, ap, ◌∙◌}
use Rattle.std.specs.Prelude.{filter}
use Rattle.rows.specs.Rows.{change_first}
use Rattle.named_rows.specs.declared.subs.ClientSub.{ClientSub}
use Rattle.named_rows.specs.Subs.{is_sub, with_owed}
use Rattle.gateway_rows.specs.Own.{IsWithin, reads_on, subs_on}
use Rattle.gateway_state.specs.Gateway.{Gateway}
use Rattle.gateway_state.specs.Updates.{is_sub_to, owed_to, owed_to_all}

-- a changed row passes as before
counted_changed : {A : Type 0} (test which : A → Bool) (f : A → A) (rows : List A) → ((row : A) → test (f row) ≡ test row)
    → length (filter test (change_first which f rows)) ≡ length (filter test rows)
counted_changed test which f [] same = refl
counted_changed {A = A} test which f (row ∷ rows) same = by (which row) (counted_changed test which f rows same)
  where
    kept : (t : Bool) → length (cond t (f row ∷ filter test rows) (filter test rows)) ≡ length (cond t (row ∷ filter test rows) (filter test rows))
    kept true = refl
    kept false = refl

    later : (t : Bool) → length (filter test (change_first which f rows)) ≡ length (filter test rows)
        → length (cond t (row ∷ filter test (change_first which f rows)) (filter test (change_first which f rows))) ≡ length (cond t (row ∷ filter test rows) (filter test rows))
    later true rest = ap suc rest
    later false rest = rest

    by : (is : Bool) → length (filter test (change_first which f rows)) ≡ length (filter test rows)
        → length (filter test (cond is (f row ∷ rows) (row ∷ change_first which f rows))) ≡ length (cond (test row) (row ∷ filter test rows) (filter test rows))
    by true rest = ap (λ (t : Bool). length (cond t (f row ∷ filter test rows) (filter test rows))) (same row) ∙ kept (test row)
    by false rest = later (test row) rest

-- as many subscriptions are to a variable as before
pub subs_on_owed : (name : List ℕ) (subs : List ClientSub) (w : Gateway) → subs_on (owed_to_all w subs) name ≡ subs_on w name
subs_on_owed name [] w = refl
subs_on_owed name (sub ∷ subs) w =
    subs_on_owed name subs (owed_to w sub)
    ∙ counted_changed (is_sub_to w name) (is_sub sub.session sub.id) (with_owed true) w.clients.subs (λ row. refl)

-- as many reads wait for it
pub reads_on_owed : (name : List ℕ) (subs : List ClientSub) (w : Gateway) → reads_on (owed_to_all w subs) name ≡ reads_on w name
reads_on_owed name [] w = refl
reads_on_owed name (sub ∷ subs) w = reads_on_owed name subs (owed_to w sub)

-- who looks at nothing keeps each bound
pub within_none : (looks : Option ℕ) (n : ℕ) → IsWithin looks n n
within_none None n = tt
within_none (Some looks) n = omega arith
