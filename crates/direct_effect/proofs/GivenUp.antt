-- Properties that are given up, by their variables.
use Rattle.std.proofs.Common.{◌≡◌, ◌≤◌, ◌<◌, ◌+◌, ℕ, List, [], ◌∷◌, ◌&&◌, Bool, true, false, cond, drop, get_or, length, arith, refl, sym, ap, subst, ◌∙◌}
use Rattle.std.specs.Prelude.{filter, fold, map}
use Rattle.std.proofs.lemmas.List.{drop_more}
use Rattle.rows.specs.Rows.{remove_first}
use Rattle.named_rows.specs.declared.reads.WaitingRead.{WaitingRead}
use Rattle.named_rows.specs.Reads.{same_read}
use Rattle.gateway_rows.specs.Own.{reads_on}
use Rattle.gateway_state.specs.Aged.{are_properties_overdue, properties_given_up, properties_given_up_on}
use Rattle.gateway_state.specs.Answer.{native_in}
use Rattle.gateway_state.specs.Gateway.{Gateway}
use Rattle.gateway_state.specs.Servers.{fails_without, read_failed, waits_for}
use Rattle.gateway_state.specs.Telling.{sent}
use Rattle.link_table.specs.declared.links.LinkRow.{LinkRow}
use Rattle.link_table.specs.declared.links.Subject.TheVariants.{Properties}
use Rattle.direct_effect.specs.declared.age.Overdue.{Overdue}
use Rattle.direct_effect.specs.Overdue.{given_up_on, looks_at, overdue_of}

by_variables : (w : Gateway) (links : List LinkRow) → fold given_up_on w (map overdue_of links) ≡ fold properties_given_up_on w links
by_variables w [] = refl
by_variables w (link ∷ links) = by_variables (properties_given_up_on w link) links

pub given_up_as_overdue : (w : Gateway) → fold given_up_on w (map overdue_of (filter (are_properties_overdue w) w.upstream.links)) ≡ properties_given_up w
given_up_as_overdue w = by_variables w (filter (are_properties_overdue w) w.upstream.links)

-- without one row no more pass
passing_without : {A : Type 0} (test which : A → Bool) (rows : List A) → length (filter test (remove_first which rows)) ≤ length (filter test rows)
passing_without test which [] = omega arith
passing_without test which (row ∷ rows) =
    let without = filter test (remove_first which rows) in
    let passing = filter test rows in
    let rest : length without ≤ length passing = passing_without test which rows in
    elim (which row) as (λ is. length (filter test (cond is rows (row ∷ remove_first which rows))) ≤ length (cond (test row) (row ∷ passing) passing)) [
      | true ↦ elim (test row) as (λ t. length passing ≤ length (cond t (row ∷ passing) passing)) [ true ↦ omega arith | false ↦ omega arith ]
      | false ↦
          elim (test row) as (λ t. length (cond t (row ∷ without) without) ≤ length (cond t (row ∷ passing) passing))
          [ true ↦ omega (arith, rest) | false ↦ rest ]
    ]

-- a read that fails leaves no variable more that wait for it
fewer_after_one : (w : Gateway) (read : WaitingRead) (name : List ℕ) → reads_on (read_failed w read) name ≤ reads_on w name
unfolding sent
fewer_after_one w read name = passing_without (waits_for w name) (same_read read) w.clients.reads

fewer_after : (reads : List WaitingRead) (w : Gateway) (name : List ℕ) → reads_on (fold read_failed w reads) name ≤ reads_on w name
fewer_after [] w name = omega arith
fewer_after (read ∷ reads) w name = omega (arith, fewer_after reads (read_failed w read) name, fewer_after_one w read name)

fewer_given_up : (w : Gateway) (one : Overdue) (name : List ℕ) → reads_on (given_up_on w one) name ≤ reads_on w name
fewer_given_up w one name = fewer_after (filter (λ read. waits_for w one.name read && fails_without Properties (native_in one.state) read) w.clients.reads) w name

fewer_looks : (w v : Gateway) (overdue : List Overdue) → ((name : List ℕ) → reads_on v name ≤ reads_on w name) → looks_at v overdue ≤ looks_at w overdue
fewer_looks w v [] fewer = omega arith
fewer_looks w v (one ∷ overdue) fewer = omega (arith, fewer one.name, fewer_looks w v overdue fewer)

-- and so no more looks at those that are left
looks_left : (w : Gateway) (one : Overdue) (overdue : List Overdue) → looks_at (given_up_on w one) overdue ≤ looks_at w overdue
looks_left w one overdue = fewer_looks w (given_up_on w one) overdue (fewer_given_up w one)

-- the next one is the first of those that are left
next_left : (overdue : List Overdue) (place : ℕ) (one : Overdue) → place < length overdue → one ≡ get_or overdue place one → drop place overdue ≡ one ∷ drop (place + 1) overdue
next_left overdue place one within is = drop_more overdue place one within ∙ ap (λ (first : Overdue). first ∷ drop (place + 1) overdue) (sym is)

-- giving up on the next one leads to where giving up on all that are left does
pub given_up_next : (v w end : Gateway) (overdue : List Overdue) (place : ℕ) (one : Overdue) → place < length overdue → one ≡ get_or overdue place one → v ≡ given_up_on w one
    → fold given_up_on w (drop place overdue) ≡ end → fold given_up_on v (drop (place + 1) overdue) ≡ end
given_up_next v w end overdue place one within is_one is so_far =
    ap (λ (from : Gateway). fold given_up_on from (drop (place + 1) overdue)) is ∙ sym (ap (fold given_up_on w) (next_left overdue place one within is_one)) ∙ so_far

-- and looks at no more
pub looks_next : (v w : Gateway) (overdue : List Overdue) (place before after most : ℕ) (one : Overdue) → place < length overdue → one ≡ get_or overdue place one → v ≡ given_up_on w one
    → after ≤ before + reads_on w one.name → before + looks_at w (drop place overdue) ≤ most → after + looks_at v (drop (place + 1) overdue) ≤ most
looks_next v w overdue place before after most one within is_one is looked so_far =
    let rest : List Overdue = drop (place + 1) overdue in
    let fewer : looks_at v rest ≤ looks_at w rest = subst (λ (from : Gateway). looks_at from rest ≤ looks_at w rest) (sym is) (looks_left w one rest) in
    let next : looks_at w (drop place overdue) ≡ reads_on w one.name + looks_at w rest = ap (looks_at w) (next_left overdue place one within is_one) in
    omega (arith, fewer, next, looked, so_far)
