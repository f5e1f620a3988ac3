-- Rows that are unlike each other are the same where they are alike.
use Rattle.std.proofs.Common.{◌≡◌, List, [], ◌∷◌, Bool, true, false, eqb, get_or, Some, refl, sym, ◌∙◌}
use Rattle.std.specs.List.{All, find, list_any}
use Rattle.std.proofs.lemmas.Bool.{and_from, eq-eqb, or_parts, true≢false}
use Rattle.std.proofs.lemmas.List.Elements.{All-cons, All-nil, All-weaker}
use Rattle.named_rows.specs.declared.channels.Channel.{Channel}
use Rattle.named_rows.specs.Channels.{is_channel}
use Rattle.link_table.specs.declared.links.LinkRow.{LinkRow}
use Rattle.gateway_state.specs.Settled.{AreUnlike, is_same_channel, is_same_link}
use Rattle.gateway_state.proofs.RowTests.{found_passes}
use Rattle.gateway_state.proofs.UnlikeRows.{both_swapped, eqb_swapped}

all_fail : {A : Type 0} (test : A → Bool) (rows : List A) → list_any test rows ≡ false → All (λ (row : A). test row ≡ false) rows
all_fail {A = A} test [] none = All-nil (λ (row : A). test row ≡ false)
all_fail {A = A} test (row ∷ rows) none =
    let parts = or_parts (test row) (list_any test rows) none in
    All-cons (λ (x : A). test x ≡ false) row rows parts.0 (all_fail test rows parts.1)

-- no other row is like a row
abbrev IsOne : {A : Type 0} → (A → A → Bool) → List A → A → Type 0
IsOne alike rows x = All (λ row. alike x row ≡ true → row ≡ x) rows

module _ {A : Type 0} (alike : A → A → Bool) (swapped : (a b : A) → alike a b ≡ alike b a) where
  each_one : (rows : List A) → AreUnlike alike rows → All (IsOne alike rows) rows
  each_one [] apart = All-nil (IsOne alike [])
  each_one (first ∷ rows) apart =
      All-cons (IsOne alike (first ∷ rows)) first rows
      (All-cons (λ (row : A). alike first row ≡ true → row ≡ first) first rows (λ _. refl)
      (All-weaker (λ (row : A). alike first row ≡ false) (λ (row : A). alike first row ≡ true → row ≡ first) (λ row differs is. absurd (true≢false (sym is ∙ differs))) rows others))
      (λ k d within.
      let x : A = get_or rows k d in
      All-cons (λ (row : A). alike x row ≡ true → row ≡ x) first rows (λ is. absurd (true≢false (sym is ∙ swapped x first ∙ others k d within))) (each_one rows apart.1 k d within))
    where
      others : All (λ (row : A). alike first row ≡ false) rows
      others = all_fail (alike first) rows apart.0

-- LINKS

link_swapped : (a b : LinkRow) → is_same_link a b ≡ is_same_link b a
link_swapped a b = eqb_swapped b.cid a.cid

-- no other link has the number of a link
pub each_alone : (rows : List LinkRow) → AreUnlike is_same_link rows → All (λ (link : LinkRow). All (λ (row : LinkRow). row.cid ≡ link.cid → row ≡ link) rows) rows
each_alone rows apart =
    All-weaker (IsOne is_same_link rows) (λ (link : LinkRow). All (λ (row : LinkRow). row.cid ≡ link.cid → row ≡ link) rows)
    (λ link one.
    All-weaker (λ (row : LinkRow). is_same_link link row ≡ true → row ≡ link) (λ (row : LinkRow). row.cid ≡ link.cid → row ≡ link)
    (λ row alike same. alike (eq-eqb row.cid link.cid same)) rows one) rows (each_one is_same_link link_swapped rows apart)

-- nor that of one that is found
pub one_of_cid : (test : LinkRow → Bool) (rows : List LinkRow) (a : LinkRow) → AreUnlike is_same_link rows → find test rows ≡ Some a → All (λ (row : LinkRow). row.cid ≡ a.cid → row ≡ a) rows
one_of_cid test rows a apart found = found_passes (λ (link : LinkRow). All (λ (row : LinkRow). row.cid ≡ link.cid → row ≡ link) rows) test rows a (each_alone rows apart) found

pub same_number : (one other : LinkRow → Bool) (rows : List LinkRow) (a b : LinkRow) → AreUnlike is_same_link rows → find one rows ≡ Some a → find other rows ≡ Some b → a.cid ≡ b.cid → a ≡ b
same_number one other rows a b apart is_a is_b numbers = found_passes (λ (row : LinkRow). row.cid ≡ b.cid → row ≡ b) one rows a (one_of_cid other rows b apart is_b) is_a numbers

-- CHANNELS

channel_swapped : (a b : Channel) → is_same_channel a b ≡ is_same_channel b a
channel_swapped a b = both_swapped b.session a.session b.sid a.sid

-- no other channel of a session has the number of one that is found
pub one_of_sid : (test : Channel → Bool) (rows : List Channel) (a : Channel) → AreUnlike is_same_channel rows → find test rows ≡ Some a
    → All (λ (row : Channel). is_channel a.session a.sid row ≡ true → row ≡ a) rows
one_of_sid test rows a apart found = found_passes (IsOne is_same_channel rows) test rows a (each_one is_same_channel channel_swapped rows apart) found

-- each channel is the one that is found under its number
pub each_found : (rows : List Channel) → AreUnlike is_same_channel rows → All (λ (c : Channel). find (is_channel c.session c.sid) rows ≡ Some c) rows
each_found [] apart = All-nil (λ (c : Channel). find (is_channel c.session c.sid) [] ≡ Some c)
each_found (first ∷ rows) apart =
    All-cons (λ (c : Channel). find (is_channel c.session c.sid) (first ∷ rows) ≡ Some c) first rows
    (rw (and_from (eqb first.session first.session) (eqb first.sid first.sid) (eq-eqb first.session first.session refl) (eq-eqb first.sid first.sid refl)) refl)
    (λ k d within.
    let c : Channel = get_or rows k d in
    rw (both_swapped first.session c.session first.sid c.sid ∙ all_fail (is_same_channel first) rows apart.0 k d within) (each_found rows apart.1 k d within))
