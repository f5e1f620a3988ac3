-- The number that is given out next is one that nothing has.
use Rattle.std.proofs.Common.{◌≡◌, ℕ, zero, suc, ◌+◌, ◌<◌, ◌≤◌, List, [], ◌∷◌, ◌++◌, map, length, Bool, true, false, cond, eqb, ◌||◌, ◌&&◌, Option, Some, None, refl, sym, ap, ◌∙◌, arith}
use Rattle.std.specs.Prelude.{filter, flat_map}
use Rattle.std.specs.List.{list_any, sum}
use Rattle.std.specs.Option.{unwrap_or}
use Rattle.std.proofs.lemmas.Bool.{and_right, lt-ltb, ltb-true, ne_eqb, or_parts}
use Rattle.std.proofs.lemmas.List.Sums.{sum_by-append, sum_by-cons}
use Rattle.link_table.specs.declared.counter.TheConstants.{LAST_NUMBER}
use Rattle.link_table.specs.declared.links.LinkRow.{LinkRow}
use Rattle.link_table.specs.declared.links.Subscription.{Subscription}
use Rattle.link_table.specs.Counters.{begins_again, first_free, is_over, next_number, past, turned}
use Rattle.link_table.specs.Links.{has_id, has_subscription, is_of}
use Rattle.link_table.specs.Numbers.{ids_in, sub_ids}

nothing_found : (number : ℕ) → None ≡ Some number → ⊥
nothing_found number is = absurd cc

module _ (reuses : Bool) (first : ℕ) (had : ℕ → Bool) where
  -- what is found nothing has
  free_found : (tries next number : ℕ) → first_free reuses first had tries next ≡ Some number → had number ≡ false
  unfolding first_free
  free_found zero next number is = absurd (nothing_found number is)
  free_found (suc tries) next number is = by (had (turned reuses first next)) refl is (λ later. free_found tries (turned reuses first next + 1) number later)
    where
      by : (taken : Bool) → had (turned reuses first next) ≡ taken
          → cond taken (first_free reuses first had tries (turned reuses first next + 1)) (Some (turned reuses first next)) ≡ Some number
          → (first_free reuses first had tries (turned reuses first next + 1) ≡ Some number → had number ≡ false) → had number ≡ false
      by true e found rest = rest found
      by false e found rest = let same : turned reuses first next ≡ number = cc in ap had (sym same) ∙ e

  -- the next number isn't had, where the counter's isn't as long as it didn't begin again, and none past those that are
  pub next_is_new : (again : Bool) (numbers : List ℕ) (next : ℕ) → (again ≡ false → had next ≡ false) → ((number : ℕ) → sum numbers < number → had number ≡ false)
      → had (next_number reuses first again had numbers next) ≡ false
  unfolding next_number
  next_is_new again numbers next below beyond = by (again || begins_again reuses next) refl
    where
      tried : (found : Option ℕ) → first_free reuses first had (suc (length numbers)) next ≡ found → had (unwrap_or found (past numbers)) ≡ false
      tried None is = beyond (past numbers) (omega arith)
      tried (Some number) is = free_found (suc (length numbers)) next number is

      by : (looks : Bool) → (again || begins_again reuses next) ≡ looks
          → had (cond looks (unwrap_or (first_free reuses first had (suc (length numbers)) next) (past numbers)) next) ≡ false
      by true is = tried (first_free reuses first had (suc (length numbers)) next) refl
      by false is = below (or_parts again (begins_again reuses next) is).0

  -- as long as the counter doesn't begin again, it is its own
  pub next_is_counter : (again : Bool) (numbers : List ℕ) (next : ℕ) → (again || begins_again reuses next) ≡ false → next_number reuses first again had numbers next ≡ next
  unfolding next_number
  next_is_counter again numbers next is =
      ap (λ (looks : Bool). cond looks (unwrap_or (first_free reuses first had (suc (length numbers)) next) (past numbers)) next) is

  -- PAST THE LAST NUMBER

  stays_past : (next : ℕ) → LAST_NUMBER + 1 < next → turned reuses first next ≡ next
  stays_past next over =
      ap (λ (begins : Bool). cond begins first next) (and_right reuses (eqb next (LAST_NUMBER + 1)) (ne_eqb next (LAST_NUMBER + 1) (λ same. omega (arith, over, same))))

  free_past : (tries next number : ℕ) → LAST_NUMBER + 1 < next → first_free reuses first had tries next ≡ Some number → next ≤ number
  unfolding first_free
  free_past zero next number over is = absurd (nothing_found number is)
  free_past (suc tries) next number over is = by (had (turned reuses first next)) is (λ later. free_past tries (turned reuses first next + 1) number (omega (arith, over, stays_past next over)) later)
    where
      by : (taken : Bool) → cond taken (first_free reuses first had tries (turned reuses first next + 1)) (Some (turned reuses first next)) ≡ Some number
          → (first_free reuses first had tries (turned reuses first next + 1) ≡ Some number → turned reuses first next + 1 ≤ number) → next ≤ number
      by true found rest = omega (arith, rest found, stays_past next over)
      by false found rest = let same : turned reuses first next ≡ number = cc in omega (arith, same, stays_past next over)

  -- once a number past the last one was given out, each further one is past it
  pub next_is_past : (again : Bool) (numbers : List ℕ) (next : ℕ) → is_over next ≡ true → is_over (next_number reuses first again had numbers next + 1) ≡ true
  unfolding next_number
  next_is_past again numbers next over = by (again || begins_again reuses next)
    where
      beyond : LAST_NUMBER + 1 < next
      beyond = ltb-true (LAST_NUMBER + 1) next over

      tried : (found : Option ℕ) → first_free reuses first had (suc (length numbers)) next ≡ found → is_over (unwrap_or found (past numbers) + 1) ≡ true
      tried None is = lt-ltb (LAST_NUMBER + 1) (past numbers + 1) (omega arith)
      tried (Some number) is = lt-ltb (LAST_NUMBER + 1) (number + 1) (omega (arith, beyond, free_past (suc (length numbers)) next number beyond is))

      by : (looks : Bool) → is_over (cond looks (unwrap_or (first_free reuses first had (suc (length numbers)) next) (past numbers)) next + 1) ≡ true
      by true = tried (first_free reuses first had (suc (length numbers)) next) refl
      by false = lt-ltb (LAST_NUMBER + 1) (next + 1) (omega (arith, beyond))

-- PAST ALL THAT ARE HAD

-- no row has a number past all of some
pub none_past : {A : Type 0} (of : A → Bool) (number : A → ℕ) (next : ℕ) (rows : List A) → sum (map number (filter of rows)) < next
    → list_any (λ (row : A). of row && eqb (number row) next) rows ≡ false
none_past of number next [] less = refl
none_past {A = A} of number next (row ∷ rows) less = by (of row) less (λ left. none_past of number next rows left)
  where
    by : (is : Bool) → sum (map number (cond is (row ∷ filter of rows) (filter of rows))) < next
        → (sum (map number (filter of rows)) < next → list_any (λ (x : A). of x && eqb (number x) next) rows ≡ false)
        → (is && eqb (number row) next || list_any (λ (x : A). of x && eqb (number x) next) rows) ≡ false
    by true less rest =
        let total = sum_by-cons (λ (n : ℕ). n) (number row) (map number (filter of rows)) in
        rw (ne_eqb (number row) next (λ same. omega (arith, total, less, same))) (rest (omega (arith, total, less)))
    by false less rest = rest less

-- nor past all
pub none_past_all : {A : Type 0} (number : A → ℕ) (next : ℕ) (rows : List A) → sum (map number rows) < next → list_any (λ (row : A). eqb (number row) next) rows ≡ false
none_past_all number next [] less = refl
none_past_all number next (row ∷ rows) less =
    let total = sum_by-cons (λ (n : ℕ). n) (number row) (map number rows) in
    rw (ne_eqb (number row) next (λ same. omega (arith, total, less, same))) (none_past_all number next rows (omega (arith, total, less)))

id_past : (next : ℕ) (sub : Option Subscription) → sum (ids_in sub) < next → has_id next sub ≡ false
id_past next None less = refl
id_past next (Some sub) less = ne_eqb sub.id next (λ same. omega (arith, less, same))

-- no subscription has an ID past all of its server
pub no_sub_past : (server next : ℕ) (links : List LinkRow) → sum (flat_map sub_ids (filter (is_of server) links)) < next → list_any (has_subscription server next) links ≡ false
no_sub_past server next [] less = refl
no_sub_past server next (link ∷ links) less = by (is_of server link) less (λ left. no_sub_past server next links left)
  where
    values : Option Subscription
    values = link.subscriptions.values

    properties : Option Subscription
    properties = link.subscriptions.properties

    later : List ℕ
    later = flat_map sub_ids (filter (is_of server) links)

    by : (is : Bool) → sum (flat_map sub_ids (cond is (link ∷ filter (is_of server) links) (filter (is_of server) links))) < next
        → (sum (flat_map sub_ids (filter (is_of server) links)) < next → list_any (has_subscription server next) links ≡ false)
        → ((is && has_id next values || is && has_id next properties) || list_any (has_subscription server next) links) ≡ false
    by true less rest =
        let both = sum_by-append (λ (n : ℕ). n) (ids_in values ++ ids_in properties) later in
        let own = sum_by-append (λ (n : ℕ). n) (ids_in values) (ids_in properties) in
        rw (id_past next values (omega (arith, both, own, less)), id_past next properties (omega (arith, both, own, less)))
        (rest (omega (arith, both, own, less)))
    by false less rest = rest less
