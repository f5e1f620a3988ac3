-- What vigils do after any looks.
use Rattle.std.proofs.Common.{◌≡◌, ℕ, zero, suc, ◌+◌, ◌-◌, ◌*◌, ◌≤◌, ◌<◌, List, [], ◌∷◌, take, drop, Bool, true, false, not, refl, sym, ◌∙◌, arith}
use Rattle.std.specs.Prelude.{◌&&◌, ◌==◌, nat_lt, nat_le, if◌then◌else◌}
use Rattle.std.specs.List.{list_any}
use Rattle.std.proofs.lemmas.Bool.Decides.{nat_tests}
use Rattle.std.proofs.lemmas.Bool.{lt-ltb, ltb-true, leb-true, leb-false}
use Rattle.serve_state.specs.declared.vigil.Counts.{Counts}
use Rattle.serve_state.specs.declared.vigil.Verdict.TheVariants as verdict
use Rattle.serve_state.specs.Vigil.{after_look, after_looks, cut_at, has_news, is_same, last_of, news, one_more, silence, verdict_after, verdict_at, IsAskedFirst, IsBySilence, IsSpared, WasAsked}

-- so many, but no more than matter
abbrev capped : ℕ → ℕ → ℕ
capped most n = if nat_lt n most then n else most

-- ---- what a vigil knows after looks

same_server : (server : Bool) (seconds : ℕ) (first : Counts) (looks : List Counts) → (after_looks server seconds first looks).server ≡ server
same_server server seconds first [] = refl
same_server server seconds first (counts ∷ looks) = same_server server seconds first looks

same_seconds : (server : Bool) (seconds : ℕ) (first : Counts) (looks : List Counts) → (after_looks server seconds first looks).seconds ≡ seconds
same_seconds server seconds first [] = refl
same_seconds server seconds first (counts ∷ looks) = same_seconds server seconds first looks

last_counts : (server : Bool) (seconds : ℕ) (first : Counts) (looks : List Counts) → (after_looks server seconds first looks).counts ≡ last_of first looks
last_counts server seconds first [] = refl
last_counts server seconds first (counts ∷ looks) = refl

capped_zero : (most : ℕ) → 0 ≡ capped most 0
capped_zero most = grind (arith, nat_tests)

capped_more : (most n : ℕ) → one_more most (capped most n) ≡ capped most (suc n)
capped_more most n = grind (arith, nat_tests)

-- one look more
quiet_step : (same : Bool) (most quiet : ℕ) (shown : List Bool) → quiet ≡ capped most (silence shown)
    → (if same then one_more most quiet else 0) ≡ capped most (silence (not same ∷ shown))
quiet_step true most quiet shown is = rw is (capped_more most (silence shown))
quiet_step false most quiet shown is = capped_zero most

quiet_is : (server : Bool) (seconds : ℕ) (first : Counts) (looks : List Counts)
    → (after_looks server seconds first looks).quiet ≡ capped (cut_at server seconds) (silence (news server first looks))
quiet_is server seconds first [] = capped_zero (cut_at server seconds)
quiet_is server seconds first (counts ∷ looks) =
    rw (same_server server seconds first looks) (rw (same_seconds server seconds first looks) (rw (last_counts server seconds first looks) (
    quiet_step (is_same server (last_of first looks) counts) (cut_at server seconds) _ (news server first looks) (quiet_is server seconds first looks))))

-- ---- verdicts

enough : (server : Bool) (seconds n : ℕ) → cut_at server seconds ≤ n → verdict_after server seconds n ≡ verdict.Cut
enough server seconds n h = grind (arith, nat_tests)

verdict_capped : (server : Bool) (seconds n : ℕ) (less : Bool) → nat_lt n (cut_at server seconds) ≡ less
    → verdict_after server seconds (capped (cut_at server seconds) n) ≡ verdict_after server seconds n
verdict_capped server seconds n true e = rw e refl
verdict_capped server seconds n false e =
    let all : cut_at server seconds ≤ n = grind (arith, nat_tests) in
    rw e (rw (enough server seconds n all) (enough server seconds (cut_at server seconds) (omega arith)))

pub by_silence : IsBySilence
by_silence server seconds first looks =
    rw (same_server server seconds first looks) (rw (same_seconds server seconds first looks) (rw (quiet_is server seconds first looks) (
    verdict_capped server seconds (silence (news server first looks)) _ refl)))

-- ---- who speaks is spared

broken : (n : ℕ) (shown : List Bool) → list_any (λ it. it) (take n shown) ≡ true → silence shown < n
broken zero shown h = cc
broken (suc n) [] h = cc
broken (suc n) (true ∷ shown) h = omega arith
broken (suc n) (false ∷ shown) h = let less = broken n shown h in omega (arith, less)

server_spared : (seconds n : ℕ) → n < 4 * seconds → verdict_after true seconds n ≡ verdict.Nothing
server_spared seconds n h = grind (arith, nat_tests)

client_spared : (seconds n : ℕ) → n < 16 * seconds → verdict_after false seconds n ≡ verdict.Nothing
client_spared seconds n h = grind (arith, nat_tests)

pub spared : IsSpared
spared seconds first looks = (
  λ h. by_silence true seconds first looks ∙ server_spared seconds _ (broken (4 * seconds) (news true first looks) h),
  λ h. by_silence false seconds first looks ∙ client_spared seconds _ (broken (16 * seconds) (news false first looks) h),
)

-- ---- who is cut off was asked

news_dropped : (n : ℕ) (server : Bool) (first : Counts) (looks : List Counts) → news server first (drop n looks) ≡ drop n (news server first looks)
news_dropped zero server first looks = refl
news_dropped (suc n) server first [] = refl
news_dropped (suc n) server first (counts ∷ looks) = news_dropped n server first looks

silence_dropped : (n : ℕ) (shown : List Bool) → n ≤ silence shown → silence (drop n shown) ≡ silence shown - n
silence_dropped zero shown h = omega arith
silence_dropped (suc n) [] h = absurd (omega (arith, h))
silence_dropped (suc n) (true ∷ shown) h = absurd (omega (arith, h))
silence_dropped (suc n) (false ∷ shown) h = let rest = silence_dropped n shown (omega (arith, h)) in omega (arith, rest)

nothing_within : (n : ℕ) (shown : List Bool) → n ≤ silence shown → list_any (λ it. it) (take n shown) ≡ false
nothing_within zero shown h = refl
nothing_within (suc n) [] h = refl
nothing_within (suc n) (true ∷ shown) h = absurd (omega (arith, h))
nothing_within (suc n) (false ∷ shown) h = nothing_within n shown (omega (arith, h))

cut_late : (seconds n : ℕ) → verdict_after true seconds n ≡ verdict.Cut → 4 * seconds + 20 ≤ n
cut_late seconds n h = grind (arith, nat_tests)

asked_at : (seconds n : ℕ) → n ≡ 4 * seconds → verdict_after true seconds n ≡ verdict.Probe
asked_at seconds n h = grind (arith, nat_tests)

pub asked_first : IsAskedFirst
asked_first seconds first looks cut =
    let shown : List Bool = news true first looks in
    let late : 4 * seconds + 20 ≤ silence shown = cut_late seconds (silence shown) (sym (by_silence true seconds first looks) ∙ cut) in
    let within : silence shown - 4 * seconds ≤ silence shown = omega arith in
    let left : silence (news true first (drop (silence shown - 4 * seconds) looks)) ≡ 4 * seconds =
    rw (news_dropped (silence shown - 4 * seconds) true first looks) (rw (silence_dropped (silence shown - 4 * seconds) shown within) (omega (arith, late))) in
    record {
      ago = silence shown - 4 * seconds;
      late = omega (arith, late);
      asked = by_silence true seconds first (drop (silence shown - 4 * seconds) looks) ∙ asked_at seconds _ left;
      nothing = nothing_within (silence shown - 4 * seconds) shown within;
    }
