-- Counts of readers: what one more and one less leave, and that they are enough to know what all want.
use Rattle.std.proofs.Common.{◌≡◌, ℕ, zero, suc, ◌+◌, ◌-◌, ◌<◌, ◌≤◌, List, [], ◌∷◌, ◌++◌, Bool, true, false, cond, ◌&&◌, ◌||◌, length, map, max, bit_and, bit_or, Option, Some, None, refl, sym, ap, ap₂, ◌∙◌, arith, ltb-false, ltb-true, lt-ltb, append-nil, inl, inr, ◌⊎◌}
use Rattle.std.specs.Prelude.{nat_lt, ◌==◌}
use Rattle.std.specs.List.{list_any}
use Rattle.std.specs.Int.{bit_at}
use Rattle.std.proofs.lemmas.Bool.Decides.{nat_tests}
use Rattle.std.proofs.lemmas.Nat.{and_le_r}
use Rattle.std.proofs.lemmas.Nat.Bits.{bit_at_and, bit_at_or, same_from_bits}
use Rattle.rows.specs.Rows.{remove_first}
use Rattle.mask_merge.specs.declared.want.TheConstants.{KNOWN_EVENTS, ALWAYS_ASKED}
use Rattle.mask_merge.specs.declared.want.Ask.{Ask}
use Rattle.mask_merge.specs.declared.want.Want.{Want}
use Rattle.mask_merge.specs.Merged.{events, greatest, asked_for, merged}
use Rattle.mask_merge.specs.Counts.{Counts, asks_log, nothing_counted, is_nothing, put_rising, is_count, more_if, less_if, counted_with, has_such, holds, left_of, counted_without, exchanged, counted, last_of, greatest_of, log_mask, wanted_by, wanted_of, wanted, native_count, as_native, want_asked, wants_in, asks_props, props_wanted}
use Rattle.mask_merge.specs.Kept.{AreWithin}
use Rattle.mask_merge.proofs.MergedLemmas.{event-step, greatest-step}

-- two counts are put in either order
put_twice : (a b : ℕ) (xs : List ℕ) → put_rising a (put_rising b xs) ≡ put_rising b (put_rising a xs)
put_twice a b [] = grind (arith, nat_tests)
put_twice a b (x ∷ xs) = grind (arith, nat_tests, put_twice a b xs)

pub put_length : (n : ℕ) (xs : List ℕ) → length (put_rising n xs) ≡ length xs + 1
put_length n [] = refl
put_length n (x ∷ xs) = grind (arith, nat_tests, put_length n xs)

put_is_there : (n : ℕ) (xs : List ℕ) → list_any (is_count n) (put_rising n xs) ≡ true
put_is_there n [] = grind (arith, nat_tests)
put_is_there n (x ∷ xs) = grind (arith, nat_tests, put_is_there n xs)

put_removed : (n : ℕ) (xs : List ℕ) → remove_first (is_count n) (put_rising n xs) ≡ xs
put_removed n [] = grind (arith, nat_tests)
put_removed n (x ∷ xs) = grind (arith, nat_tests, put_removed n xs)

more_twice : (t u : Bool) (n : ℕ) → cond t (cond u (n + 1) n + 1) (cond u (n + 1) n) ≡ cond u (cond t (n + 1) n + 1) (cond t (n + 1) n)
more_twice true true n = refl
more_twice true false n = refl
more_twice false true n = refl
more_twice false false n = refl

more_one : (t : Bool) (n : ℕ) → cond t (n + 1) n ≤ n + 1
more_one true n = omega arith
more_one false n = omega arith

less_back : (t : Bool) (n : ℕ) → cond t (cond t (n + 1) n - 1) (cond t (n + 1) n) ≡ n
less_back true n = omega arith
less_back false n = refl

lt-true : (a b : ℕ) → a < b → nat_lt a b ≡ true
lt-true a b h = lt-ltb a b h

lt-true-1 : (n : ℕ) → nat_lt 0 (n + 1) ≡ true
lt-true-1 n = lt-true 0 (n + 1) (omega arith)

such_with : (t : Bool) (n all : ℕ) → n ≤ all → has_such t (more_if t n) (all + 1) ≡ true
such_with true n all h = lt-true-1 n
such_with false n all h = lt-true n (all + 1) (omega arith)

same_counts : (silent : ℕ) {l m p q t u : ℕ} {xs ys : List ℕ} → l ≡ m → p ≡ q → t ≡ u → xs ≡ ys → ◌≡◌ {A = Counts} (record { logs = l; silent = silent; props = p; texts = t; counts = xs }) (record { logs = m; silent = silent; props = q; texts = u; counts = ys })
same_counts silent l p t xs = rw (l, p, t, xs) refl

-- readers are counted in either order
pub with_twice : (x y : Option Ask) (c : Counts) → counted_with x (counted_with y c) ≡ counted_with y (counted_with x c)
with_twice None None c = refl
with_twice None (Some b) c = refl
with_twice (Some a) None c = refl
with_twice (Some a) (Some b) c =
    same_counts c.silent (more_twice (asks_log a.want.mask) (asks_log b.want.mask) c.logs) (more_twice a.props b.props c.props) (more_twice a.texts b.texts c.texts)
    (put_twice a.want.count b.want.count c.counts)

-- a reader in the middle is counted as one more
pub with_middle : (xs : List (Option Ask)) (x : Option Ask) (ys : List (Option Ask)) → counted (xs ++ x ∷ ys) ≡ counted_with x (counted (xs ++ ys))
with_middle [] x ys = refl
with_middle (a ∷ xs) x ys = ap (counted_with a) (with_middle xs x ys) ∙ with_twice a x (counted (xs ++ ys))

-- no more ask for anything than want something, with one more
pub within_with : (x : Option Ask) (c : Counts) → AreWithin c → AreWithin (counted_with x c)
within_with None c h = record { logs = h.logs; props = h.props; texts = h.texts }
within_with (Some a) c h =
    let longer = put_length a.want.count c.counts in
    let more : (t : Bool) (n : ℕ) → n ≤ length c.counts → more_if t n ≤ length (put_rising a.want.count c.counts) = λ t n below. omega (arith, more_one t n, longer) in
    record { logs = more (asks_log a.want.mask) c.logs h.logs; props = more a.props c.props h.props; texts = more a.texts c.texts h.texts }

pub within_counted : (asks : List (Option Ask)) → AreWithin (counted asks)
within_counted [] = record { logs = omega arith; props = omega arith; texts = omega arith }
within_counted (x ∷ asks) = within_with x (counted asks) (within_counted asks)

all_true : {t u v : Bool} → t ≡ true → u ≡ true → v ≡ true → (t && (u && v)) ≡ true
all_true t u v = rw (t, u, v) refl

-- one more is held, and leaves what was there
pub held_with : (x : Option Ask) (c : Counts) → AreWithin c → holds x (counted_with x c) ≡ true
held_with None c h = lt-true-1 c.silent
held_with (Some a) c h =
    rw (put_is_there a.want.count c.counts, put_length a.want.count c.counts)
    (all_true (such_with (asks_log a.want.mask) c.logs (length c.counts) h.logs) (such_with a.props c.props (length c.counts) h.props) (such_with a.texts c.texts (length c.counts) h.texts))

pub left_with : (x : Option Ask) (c : Counts) → left_of x (counted_with x c) ≡ c
left_with None c = let e : c.silent + 1 - 1 ≡ c.silent = omega arith in ap (λ k. record c { silent = k }) e
left_with (Some a) c =
    same_counts c.silent (less_back (asks_log a.want.mask) c.logs) (less_back a.props c.props) (less_back a.texts c.texts) (put_removed a.want.count c.counts)

pub without_with : (x : Option Ask) (c : Counts) → AreWithin c → counted_without x (counted_with x c) ≡ c
without_with x c h = ap (λ t. cond t (left_of x (counted_with x c)) (counted_with x c)) (held_with x c h) ∙ left_with x c

-- a reader in the middle that leaves
pub without_middle : (xs : List (Option Ask)) (x : Option Ask) (ys : List (Option Ask)) → counted_without x (counted (xs ++ x ∷ ys)) ≡ counted (xs ++ ys)
without_middle xs x ys =
    ap (counted_without x) (with_middle xs x ys) ∙ without_with x (counted (xs ++ ys)) (within_counted (xs ++ ys))

pub exchanged_with : (x y : Option Ask) (c : Counts) → AreWithin c → exchanged x y (counted_with x c) ≡ counted_with y c
exchanged_with x y c h =
    ap (λ t. cond t (counted_with y (counted_without x (counted_with x c))) (counted_with x c)) (held_with x c h)
    ∙ ap (counted_with y) (without_with x c h)

-- a reader in the middle that wants something else
pub exchanged_middle : (x y : Option Ask) (xs ys : List (Option Ask)) → exchanged x y (counted (xs ++ x ∷ ys)) ≡ counted (xs ++ y ∷ ys)
exchanged_middle x y xs ys =
    ap (exchanged x y) (with_middle xs x ys) ∙ exchanged_with x y (counted (xs ++ ys)) (within_counted (xs ++ ys)) ∙ sym (with_middle xs y ys)

-- counts have no order
pub counted_either : (xs ys : List (Option Ask)) → counted (xs ++ ys) ≡ counted (ys ++ xs)
counted_either [] ys = ap counted (sym (append-nil ys))
counted_either (x ∷ xs) ys = ap (counted_with x) (counted_either xs ys) ∙ sym (with_middle ys x xs)

-- the same one at the end
pub with_last : (asks : List (Option Ask)) (ask : Option Ask) → counted (asks ++ ask ∷ []) ≡ counted_with ask (counted asks)
with_last asks ask = with_middle asks ask [] ∙ ap (λ l. counted_with ask (counted l)) (append-nil asks)

none_is_one : (k : ℕ) → k ≡ 0 → k ≡ 1 → ⊥
none_is_one k z e = omega arith

-- of LOG alone there is all or nothing
log_alone : (k : ℕ) → k ≤ 2 → bit_and k 2 ≡ k → (k ≡ 0) ⊎ (k ≡ 2)
log_alone zero h e = inl refl
log_alone (suc zero) h e = absurd (none_is_one 0 refl e)
log_alone (suc (suc zero)) h e = inr refl
log_alone (suc (suc (suc k))) h e = absurd (omega arith)

log_cases : (mask : ℕ) → (bit_and mask 2 ≡ 0) ⊎ (bit_and mask 2 ≡ 2)
log_cases mask =
    log_alone (bit_and mask 2) (and_le_r mask 2) (same_from_bits _ _ (λ i. omega (arith, bit_at_and (bit_and mask 2) 2 i, bit_at_and mask 2 i)))

log_or : (a b : ℕ) → bit_and (bit_or a b) 2 ≡ bit_or (bit_and a 2) (bit_and b 2)
log_or a b =
    same_from_bits _ _ (λ i. omega (arith, bit_at_and (bit_or a b) 2 i, bit_at_or a b i, bit_at_or (bit_and a 2) (bit_and b 2) i, bit_at_and a 2 i, bit_at_and b 2 i))

asks_either : (j k : ℕ) → (j ≡ 0) ⊎ (j ≡ 2) → (k ≡ 0) ⊎ (k ≡ 2) → (bit_or j k == 2) ≡ ((j == 2) || (k == 2))
asks_either j k (inl x) (inl y) = rw (x, y) refl
asks_either j k (inl x) (inr y) = rw (x, y) refl
asks_either j k (inr x) (inl y) = rw (x, y) refl
asks_either j k (inr x) (inr y) = rw (x, y) refl

asks_log_or : (a b : ℕ) → asks_log (bit_or a b) ≡ (asks_log a || asks_log b)
asks_log_or a b =
    ap (λ n. n == 2) (log_or a b) ∙ asks_either (bit_and a 2) (bit_and b 2) (log_cases a) (log_cases b)

-- the events of all are those of the first and of the others
events-first : (x : Want) (xs : List Want) → events (x ∷ xs) ≡ bit_or x.mask (events xs)
events-first x xs = same_from_bits _ _ (λ i. event-step i x xs ∙ sym (bit_at_or x.mask (events xs) i))

-- as it is asked of a server, by whether LOG is asked for
mask_within : (k : ℕ) → k ≤ 7 → bit_or k 5 ≡ cond (bit_and k 2 == 2) 7 5
mask_within zero h = refl
mask_within (suc zero) h = refl
mask_within (suc (suc zero)) h = refl
mask_within (suc (suc (suc zero))) h = refl
mask_within (suc (suc (suc (suc zero)))) h = refl
mask_within (suc (suc (suc (suc (suc zero))))) h = refl
mask_within (suc (suc (suc (suc (suc (suc zero)))))) h = refl
mask_within (suc (suc (suc (suc (suc (suc (suc zero))))))) h = refl
mask_within (suc (suc (suc (suc (suc (suc (suc (suc k)))))))) h = absurd (omega arith)

log_known : (mask : ℕ) → bit_and (bit_and mask 7) 2 ≡ bit_and mask 2
log_known mask =
    let both : bit_and 7 2 ≡ 2 = refl in
    same_from_bits _ _ (λ i. omega (arith, bit_at_and (bit_and mask 7) 2 i, bit_at_and mask 7 i, bit_at_and mask 2 i, bit_at_and 7 2 i, ap (λ n. bit_at n i) both))

mask_by_log : (mask : ℕ) → bit_or (bit_and mask 7) 5 ≡ cond (asks_log mask) 7 5
mask_by_log mask = mask_within (bit_and mask 7) (and_le_r mask 7) ∙ ap (λ n. cond (n == 2) 7 5) (log_known mask)

more_counted : (t u : Bool) (logs : ℕ) → nat_lt 0 logs ≡ u → nat_lt 0 (cond t (logs + 1) logs) ≡ (t || u)
more_counted true u logs e = lt-true-1 logs
more_counted false u logs e = e

-- LOG is counted where it is among the events of all
logs_are_events : (asks : List (Option Ask)) → nat_lt 0 (counted asks).logs ≡ asks_log (events (wants_in asks))
logs_are_events [] = refl
logs_are_events (None ∷ asks) = logs_are_events asks
logs_are_events (Some a ∷ asks) =
    more_counted (asks_log a.want.mask) (asks_log (events (wants_in asks))) (counted asks).logs (logs_are_events asks)
    ∙ sym (ap asks_log (events-first a.want (wants_in asks)) ∙ asks_log_or a.want.mask (events (wants_in asks)))

asked_log : (t : Bool) → bit_or (bit_and (cond t 2 0) 7) 5 ≡ cond t 7 5
asked_log true = refl
asked_log false = refl

asked_mask : (asks : List (Option Ask)) → bit_or (bit_and (log_mask (counted asks).logs) KNOWN_EVENTS) ALWAYS_ASKED ≡ bit_or (bit_and (events (wants_in asks)) KNOWN_EVENTS) ALWAYS_ASKED
asked_mask asks =
    asked_log (nat_lt 0 (counted asks).logs) ∙ ap (λ t. cond t 7 5) (logs_are_events asks) ∙ sym (mask_by_log (events (wants_in asks)))

-- the same events, whatever the counts
same_events : (native : ℕ) (wants : List Want) → events (map (as_native native) wants) ≡ events wants
same_events native [] = refl
same_events native (w ∷ wants) =
    events-first (as_native native w) (map (as_native native) wants) ∙ ap (bit_or w.mask) (same_events native wants) ∙ sym (events-first w wants)

-- the greatest of counts, each as the native one where it is 0
abbrev most : ℕ → List ℕ → ℕ
most native [] = 0
most native (x ∷ xs) = max (native_count native x) (most native xs)

abbrev Rising : List ℕ → Type 0
Rising [] = Unit {0}
Rising (x ∷ []) = Unit {0}
Rising (x ∷ y ∷ ys) = (x ≤ y) × Rising (y ∷ ys)

most-put : (native n : ℕ) (xs : List ℕ) → most native (put_rising n xs) ≡ max (native_count native n) (most native xs)
most-put native n [] = refl
most-put native n (x ∷ xs) =
    elim (nat_lt x n) as (λ t. most native (cond t (x ∷ put_rising n xs) (n ∷ x ∷ xs)) ≡ max (native_count native n) (max (native_count native x) (most native xs)))
    [ true ↦ omega (arith, most-put native n xs) | false ↦ refl ]

rising-more : (x y : ℕ) (ys : List ℕ) → x ≤ y → Rising (y ∷ ys) → Rising (x ∷ y ∷ ys)
rising-more x y ys h r = (h, r)

rising-put-after : (x n : ℕ) (xs : List ℕ) → x ≤ n → Rising (x ∷ xs) → Rising (put_rising n xs) → Rising (x ∷ put_rising n xs)
rising-put-after x n [] h r p = (h, tt)
rising-put-after x n (y ∷ ys) h r p =
    elim (nat_lt y n) as (λ t. Rising (cond t (y ∷ put_rising n ys) (n ∷ y ∷ ys)) → Rising (x ∷ cond t (y ∷ put_rising n ys) (n ∷ y ∷ ys)))
    [ true ↦ λ q. (r.0, q) | false ↦ λ q. (h, q) ] p

rising-rest : (x : ℕ) (xs : List ℕ) → Rising (x ∷ xs) → Rising xs
rising-rest x [] r = tt
rising-rest x (y ∷ ys) r = r.1

rising-put : (n : ℕ) (xs : List ℕ) → Rising xs → Rising (put_rising n xs)
rising-put n [] r = tt
rising-put n (x ∷ xs) r =
    elim (nat_lt x n) as (λ t. nat_lt x n ≡ t → Rising (cond t (x ∷ put_rising n xs) (n ∷ x ∷ xs)))
    [ true ↦ λ e. let h : x < n = ltb-true x n e in rising-put-after x n xs (omega arith) r (rising-put n xs (rising-rest x xs r)) | false ↦ λ e. (ltb-false x n e, r) ] refl

first_below : (x : ℕ) (xs : List ℕ) → Rising (x ∷ xs) → x ≤ last_of x xs
first_below x [] r = omega arith
first_below x (y ∷ ys) r = let h : x ≤ y = r.0 in omega (arith, first_below y ys r.1)

some_count : (n : ℕ) → (suc n == 0) ≡ false
some_count n = grind (arith, nat_tests)

max_again : (native y last : ℕ) → max native last ≡ max native (cond (y == 0) (max native last) last)
max_again native zero last = omega arith
max_again native (suc y) last = ap (λ t. max native (cond t (max native last) last)) (sym (some_count y))

rising_last : (native x : ℕ) (t : Bool) (last all : ℕ) → t ≡ false → x ≤ last → last ≡ all → cond t (max native last) last ≡ max (cond t native x) all
rising_last native x true last all e h l = cc
rising_last native x false last all e h l = omega arith

-- of rising counts the last is the greatest, and a 0 is the first
most-rising : (native x : ℕ) (xs : List ℕ) → Rising (x ∷ xs) → greatest_of native (x ∷ xs) ≡ most native (x ∷ xs)
most-rising native zero [] r = omega arith
most-rising native (suc x) [] r = rw (some_count x) (omega arith)
most-rising native zero (y ∷ ys) r = max_again native y (last_of y ys) ∙ ap (max native) (most-rising native y ys r.1)
most-rising native (suc x) (zero ∷ ys) r = let h : suc x ≤ 0 = r.0 in absurd (omega arith)
most-rising native (suc x) (suc y ∷ ys) r =
    let h : suc x ≤ suc y = r.0 in
    let last : last_of (suc y) ys ≡ most native (suc y ∷ ys) =
    ap (λ t. cond t (max native (last_of (suc y) ys)) (last_of (suc y) ys)) (sym (some_count y)) ∙ most-rising native (suc y) ys r.1 in
    rising_last native (suc x) (suc x == 0) (last_of (suc y) ys) (most native (suc y ∷ ys)) (some_count x) (let below = first_below (suc y) ys r.1 in omega arith) last

counted-rising : (asks : List (Option Ask)) → Rising (counted asks).counts
counted-rising [] = tt
counted-rising (None ∷ asks) = counted-rising asks
counted-rising (Some a ∷ asks) = rising-put a.want.count (counted asks).counts (counted-rising asks)

counted-most : (native : ℕ) (asks : List (Option Ask)) → most native (counted asks).counts ≡ greatest (map (as_native native) (wants_in asks))
counted-most native [] = refl
counted-most native (None ∷ asks) = counted-most native asks
counted-most native (Some a ∷ asks) =
    most-put native a.want.count (counted asks).counts ∙ ap (max (native_count native a.want.count)) (counted-most native asks)
    ∙ sym (greatest-step (as_native native a.want) (map (as_native native) (wants_in asks)))

wanted_at : (native logs : ℕ) (xs : List ℕ) (wants : List Want) → Rising xs → length xs ≡ length wants → asked_for (log_mask logs) (most native xs) ≡ asked_for (events wants) (greatest wants) → wanted_by native logs xs ≡ merged wants
wanted_at native logs [] [] r l e = refl
wanted_at native logs [] (w ∷ wants) r l e = absurd (omega arith)
wanted_at native logs (x ∷ xs) [] r l e = absurd (omega arith)
wanted_at native logs (x ∷ xs) (w ∷ wants) r l e = ap (λ n. Some (asked_for (log_mask logs) n)) (most-rising native x xs r) ∙ ap Some e

as_many : (native : ℕ) (asks : List (Option Ask)) → length (counted asks).counts ≡ length (map (as_native native) (wants_in asks))
as_many native [] = refl
as_many native (None ∷ asks) = as_many native asks
as_many native (Some a ∷ asks) = omega (arith, put_length a.want.count (counted asks).counts, as_many native asks)

-- the counts are enough to know what all want, at whatever native count
pub wanted_is_merged : (native : ℕ) (asks : List (Option Ask)) → wanted_of native (counted asks) ≡ merged (map (as_native native) (wants_in asks))
wanted_is_merged native asks =
    wanted_at native (counted asks).logs (counted asks).counts (map (as_native native) (wants_in asks)) (counted-rising asks) (as_many native asks)
    (ap₂ (λ m n. record { mask = m; count = n }) (asked_mask asks ∙ ap (λ m. bit_or (bit_and m KNOWN_EVENTS) ALWAYS_ASKED) (sym (same_events native (wants_in asks)))) (counted-most native asks))

count_kept : (n : ℕ) → native_count 0 n ≡ n
count_kept zero = refl
count_kept (suc n) = ap (λ t. cond t 0 (suc n)) (some_count n)

all_want : (asks : List Ask) → map (as_native 0) (wants_in (map Some asks)) ≡ map want_asked asks
all_want [] = refl
all_want (a ∷ asks) = ap₂ (λ n rest. record a.want { count = n } ∷ rest) (count_kept a.want.count) (all_want asks)

-- where each wants something, and 0 stands for itself
pub wanted_as_listed : (asks : List Ask) → wanted (counted (map Some asks)) ≡ merged (map want_asked asks)
wanted_as_listed asks = wanted_is_merged 0 (map Some asks) ∙ ap merged (all_want asks)

one_more_asks : (states p t q u : Bool) → ((p || q) || (states && (t || u))) ≡ ((p || (states && t)) || (q || (states && u)))
one_more_asks states true t q u = refl
one_more_asks false false t q u = refl
one_more_asks true false false q u = refl
one_more_asks true false true true u = refl
one_more_asks true false true false u = refl

-- and whether any asks for properties
pub props_are_asked : (states : Bool) (asks : List (Option Ask)) → props_wanted states (counted asks) ≡ list_any (asks_props states) asks
props_are_asked true [] = refl
props_are_asked false [] = refl
props_are_asked states (None ∷ asks) = props_are_asked states asks
props_are_asked states (Some a ∷ asks) =
    let c = counted asks in
    ap₂ (λ p t. p || (states && t)) (more_counted a.props (nat_lt 0 c.props) c.props refl) (more_counted a.texts (nat_lt 0 c.texts) c.texts refl)
    ∙ one_more_asks states a.props a.texts (nat_lt 0 c.props) (nat_lt 0 c.texts)
    ∙ ap (λ t. (a.props || (states && a.texts)) || t) (props_are_asked states asks)

both_first : (t u : Bool) → (t && u) ≡ true → t ≡ true
both_first true u e = refl
both_first false u e = e

both_second : (t u : Bool) → (t && u) ≡ true → u ≡ true
both_second true u e = e
both_second false u e = cc

removed_length : (p : ℕ → Bool) (xs : List ℕ) → list_any p xs ≡ true → length (remove_first p xs) + 1 ≡ length xs
removed_length p [] e = cc
removed_length p (x ∷ xs) e =
    elim (p x) as (λ t. (t || list_any p xs) ≡ true → length (cond t xs (x ∷ remove_first p xs)) + 1 ≡ length (x ∷ xs))
    [ true ↦ λ _. omega arith | false ↦ λ h. omega (arith, removed_length p xs h) ] e

-- where one is held, its count is there to be removed
pub left_length : (a : Ask) (c : Counts) → holds (Some a) c ≡ true → length (remove_first (is_count a.want.count) c.counts) + 1 ≡ length c.counts
left_length a c e = removed_length (is_count a.want.count) c.counts (both_first _ _ e)

such_less : (t : Bool) (n all : ℕ) → n ≤ all → has_such t n all ≡ true → less_if t n < all
such_less true n all h e = let some : 0 < n = ltb-true 0 n e in omega arith
such_less false n all h e = ltb-true n all e

-- and no more ask for anything than are left
pub within_left : (a : Ask) (c : Counts) → AreWithin c → holds (Some a) c ≡ true → AreWithin (left_of (Some a) c)
within_left a c h e =
    let shorter = left_length a c e in
    let less : (t : Bool) (n : ℕ) → n ≤ length c.counts → has_such t n (length c.counts) ≡ true → less_if t n ≤ length (remove_first (is_count a.want.count) c.counts) = λ t n below one. omega (arith, such_less t n (length c.counts) below one, shorter) in
    let such = both_second _ _ e in
    record {
      logs = less (asks_log a.want.mask) c.logs h.logs (both_first _ _ such);
      props = less a.props c.props h.props (both_first _ _ (both_second _ _ such));
      texts = less a.texts c.texts h.texts (both_second _ _ (both_second _ _ such));
    }

nothing_at : (c : Counts) → (c.silent == 0) ≡ true → AreWithin c → c.counts ≡ [] → c ≡ nothing_counted
nothing_at c f h none =
    let quiet : c.silent ≡ 0 = grind (arith, nat_tests) in
    let short : length c.counts ≡ 0 = ap length none in
    let logs : c.logs ≡ 0 = omega (arith, h.logs) in
    let props : c.props ≡ 0 = omega (arith, h.props) in
    let texts : c.texts ≡ 0 = omega (arith, h.texts) in
    same_counts c.silent logs props texts none ∙ ap (λ k. record nothing_counted { silent = k }) quiet

no_items : (xs : List ℕ) → (length xs == 0) ≡ true → xs ≡ []
no_items [] e = refl
no_items (x ∷ xs) e = let no : length (x ∷ xs) ≡ 0 = grind (arith, nat_tests) in absurd (omega arith)

-- nobody is counted
pub nothing_left : (c : Counts) → is_nothing c ≡ true → AreWithin c → c ≡ nothing_counted
nothing_left c e h =
    nothing_at c (both_second _ _ e) h (no_items c.counts (both_first _ _ e))
