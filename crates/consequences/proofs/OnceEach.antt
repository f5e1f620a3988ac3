-- In the walk a row is written only where it changes: whoever is told at once is never noted as owed.
use Rattle.std.proofs.Common.{◌≡◌, ℕ, List, [], ◌∷◌, Bool, true, false, cond, not, ◌&&◌, Option, Some, None, refl, sym, ap, ◌∙◌}
use Rattle.std.specs.Prelude.{filter}
use Rattle.std.specs.List.{find, fold, list_any}
use Rattle.std.proofs.lemmas.Bool.{or_parts, true≢false}
use Rattle.rows.specs.Rows.{change_first}
use Rattle.rows.proofs.RowLemmas.{change_first_kept}
use Rattle.ca_message.specs.declared.to_client.ToClient.TheVariants as replies
use Rattle.named_rows.specs.declared.subs.ClientSub.{ClientSub}
use Rattle.named_rows.specs.Subs.{is_sub, with_owed}
use Rattle.gateway_state.specs.declared.notice.UpdateNotice.{UpdateNotice}
use Rattle.gateway_state.specs.Gateway.{Gateway}
use Rattle.gateway_state.specs.Rights.{channel_of}
use Rattle.gateway_state.specs.Settled.{AreApart}
use Rattle.gateway_state.specs.Telling.{sent, told}
use Rattle.gateway_state.specs.Updates.{is_open_to, owed_to, takes_updates, update_notice, update_on, with_owed_of}
use Rattle.gateway_state.proofs.RowTests.{none_filtered}
use Rattle.gateway_state.proofs.SettledWithheld.{with_subs}
use Rattle.gateway_state.proofs.SubsApart.{itself, other_key}
use Rattle.consequences.specs.InTurn.{told_in_turn, told_once, told_once_by}
use Rattle.consequences.proofs.OneWalk.{IsOf, notice_of, same_key, told_concerned}
use Rattle.consequences.proofs.TellingInTurn.{takes_it}
use Rattle.touched_rows.specs.Touched.{one_update_told, owed_where, update_told_if}

-- ---- rows that stand as they were listed

-- the subscription's row is as it was listed
abbrev pub Stands : List ClientSub → ClientSub → Type 0
Stands rows sub = find (is_sub sub.session sub.id) rows ≡ Some sub

-- so are those of all of these
abbrev pub AllStand : List ClientSub → List ClientSub → Type 0
AllStand rows [] = Unit {0}
AllStand rows (sub ∷ subs) = Stands rows sub × AllStand rows subs

behind_another : (row : ClientSub) (rows subs : List ClientSub) → list_any (is_sub row.session row.id) subs ≡ false → AllStand rows subs → AllStand (row ∷ rows) subs
behind_another row rows [] apart stand = tt
behind_another row rows (sub ∷ subs) apart stand =
    let parts = or_parts (is_sub row.session row.id sub) (list_any (is_sub row.session row.id) subs) apart in
    (rw (other_key row sub parts.0) stand.0, behind_another row rows subs parts.1 stand.1)

-- those that are listed stand so, where no two have one key
pub listed_stand : (test : ClientSub → Bool) (rows : List ClientSub) → AreApart rows → AllStand rows (filter test rows)
listed_stand test [] apart = tt
listed_stand test (row ∷ rows) apart =
    let behind : AllStand (row ∷ rows) (filter test rows) =
    behind_another row rows (filter test rows) (none_filtered (is_sub row.session row.id) test rows apart.0) (listed_stand test rows apart.1) in
    elim (test row) as (λ t. AllStand (row ∷ rows) (cond t (row ∷ filter test rows) (filter test rows))) [ true ↦ (rw (itself row) refl, behind) | false ↦ behind ]

pub listed_apart : (test : ClientSub → Bool) (rows : List ClientSub) → AreApart rows → AreApart (filter test rows)
listed_apart test [] apart = apart
listed_apart test (row ∷ rows) apart =
    let rest = listed_apart test rows apart.1 in
    elim (test row) as (λ t. AreApart (cond t (row ∷ filter test rows) (filter test rows)))
    [ true ↦ (none_filtered (is_sub row.session row.id) test rows apart.0, rest) | false ↦ rest ]

-- what is noted of another leaves a row as it is
stands_still : (session id : ℕ) (owed : Bool) (b : ClientSub) (rows : List ClientSub) → is_sub session id b ≡ false → Stands rows b → Stands (change_first (is_sub session id) (with_owed owed) rows) b
stands_still session id owed b [] apart stands = stands
stands_still session id owed b (row ∷ rows) apart stands = by (is_sub session id row) (is_sub b.session b.id row) refl refl stands (λ there. stands_still session id owed b rows apart there)
  where
    by : (one other : Bool) → is_sub session id row ≡ one → is_sub b.session b.id row ≡ other → cond other (Some row) (find (is_sub b.session b.id) rows) ≡ Some b
        → (Stands rows b → Stands (change_first (is_sub session id) (with_owed owed) rows) b)
        → find (is_sub b.session b.id) (cond one (with_owed owed row ∷ rows) (row ∷ change_first (is_sub session id) (with_owed owed) rows)) ≡ Some b
    by true true one other there rest = absurd (true≢false (sym (same_key session id b row one other) ∙ apart))
    by true false one other there rest = rw other there
    by false true one other there rest = rw other there
    by false false one other there rest = rw other (rest there)

all_stand_still : (session id : ℕ) (owed : Bool) (rows others : List ClientSub) → list_any (is_sub session id) others ≡ false → AllStand rows others → AllStand (change_first (is_sub session id) (with_owed owed) rows) others
all_stand_still session id owed rows [] apart stand = tt
all_stand_still session id owed rows (b ∷ others) apart stand =
    let parts = or_parts (is_sub session id b) (list_any (is_sub session id) others) apart in
    (stands_still session id owed b rows parts.0 stand.0, all_stand_still session id owed rows others parts.1 stand.1)

-- a turn leaves the rows of others as they are
others_stand : (w : Gateway) (sub due : ClientSub) (notice : Option UpdateNotice) (others : List ClientSub) → list_any (is_sub sub.session sub.id) others ≡ false
    → AllStand w.clients.subs others → AllStand (told_once_by sub due notice w).clients.subs others
unfolding sent
others_stand w sub due None others apart stand =
    elim (due.owed && not sub.owed) as (λ t. AllStand (cond t (owed_to w sub) w).clients.subs others)
    [ true ↦ all_stand_still sub.session sub.id true w.clients.subs others apart stand | false ↦ stand ]
others_stand w sub due (Some n) others apart stand =
    elim sub.owed as (λ t. AllStand (cond t (with_owed_of sub.session sub.id false w) w).clients.subs others)
    [ true ↦ all_stand_still sub.session sub.id false w.clients.subs others apart stand | false ↦ stand ]

-- ---- a turn in which the row is written twice, or once

-- noting twice is noting the second time
noted_twice : (session id : ℕ) (rows : List ClientSub) → change_first (is_sub session id) (with_owed false) (change_first (is_sub session id) (with_owed true) rows) ≡ change_first (is_sub session id) (with_owed false) rows
noted_twice session id [] = refl
noted_twice session id (row ∷ rows) = by (is_sub session id row) refl (noted_twice session id rows)
  where
    by : (is : Bool) → is_sub session id row ≡ is
        → change_first (is_sub session id) (with_owed false) (change_first (is_sub session id) (with_owed true) rows) ≡ change_first (is_sub session id) (with_owed false) rows
        → change_first (is_sub session id) (with_owed false) (cond is (with_owed true row ∷ rows) (row ∷ change_first (is_sub session id) (with_owed true) rows))
        ≡ cond is (with_owed false row ∷ rows) (row ∷ change_first (is_sub session id) (with_owed false) rows)
    by true is rest = rw is refl
    by false is rest = rw is (ap (λ (more : List ClientSub). row ∷ more) rest)

-- noting of a row what it says already changes nothing
noted_already : (w : Gateway) (sub : ClientSub) (owed : Bool) → Stands w.clients.subs sub → sub.owed ≡ owed → with_owed_of sub.session sub.id owed w ≡ w
noted_already w sub owed stands is =
    let same : with_owed owed sub ≡ sub = ap (λ (o : Bool). with_owed o sub) (sym is) in
    ap (with_subs w) (change_first_kept (is_sub sub.session sub.id) (with_owed owed) w.clients.subs sub stands same)

-- what was owed for the turn alone
owed_and_told : (w : Gateway) (sub : ClientSub) (owed : Bool) → Stands w.clients.subs sub → sub.owed ≡ owed → with_owed_of sub.session sub.id false (owed_to w sub) ≡ cond owed (with_owed_of sub.session sub.id false w) w
owed_and_told w sub true stands is = ap (with_subs w) (noted_twice sub.session sub.id w.clients.subs)
owed_and_told w sub false stands is = ap (with_subs w) (noted_twice sub.session sub.id w.clients.subs) ∙ noted_already w sub false stands is

owed_or_was : (w : Gateway) (sub : ClientSub) (owed : Bool) → Stands w.clients.subs sub → sub.owed ≡ owed → owed_to w sub ≡ cond (not owed) (owed_to w sub) w
owed_or_was w sub true stands is = noted_already w sub true stands is
owed_or_was w sub false stands is = refl

-- of a subscription that it concerns
module _ (w : Gateway) (sub : ClientSub) (stands : Stands w.clients.subs sub) where
  abbrev due : ClientSub
  due = with_owed true sub

  by_notice : (notice : Option UpdateNotice) → IsOf due notice → ((n : UpdateNotice) → Some n ≡ notice → takes_updates w n.session ≡ true)
      → update_told_if notice (owed_to w sub) ≡ told_once_by sub due notice w
  unfolding sent
  by_notice None is room = owed_or_was w sub sub.owed stands refl
  by_notice (Some n) is room =
      let given : Gateway → Gateway = λ v. told n.session (replies.Update n.id n.dtype n.count n.payload) v in
      ap (λ (t : Bool). cond t (given (with_owed_of n.session n.id false (owed_to w sub))) (owed_to w sub)) (room n refl)
      ∙ ap (λ (session : ℕ). given (with_owed_of session n.id false (owed_to w sub))) is.0
      ∙ ap (λ (id : ℕ). given (with_owed_of sub.session id false (owed_to w sub))) is.1
      ∙ ap given (owed_and_told w sub sub.owed stands refl)

  concerned_once : one_update_told due (owed_to w sub) ≡ told_once_by sub due (update_notice w due) w
  unfolding update_notice
  concerned_once = by_notice (update_notice w due) (notice_of w due) (λ n is. takes_it w due n is)

-- of another one
owed_if_due : (w : Gateway) (sub : ClientSub) (n : UpdateNotice) → Some n ≡ update_notice w sub → sub.owed ≡ true
unfolding update_notice
owed_if_due w sub n is =
    elim sub.owed as (λ owed. Some n ≡ cond (owed && is_open_to w sub) (update_on w sub (channel_of w sub.session sub.sid)) None → owed ≡ true) [ true ↦ λ given. refl | false ↦ λ given. cc ] is

module _ (w : Gateway) (sub : ClientSub) where
  neither_way : (owed : Bool) → w ≡ cond (owed && not owed) (owed_to w sub) w
  neither_way true = refl
  neither_way false = refl

  by_own_notice : (notice : Option UpdateNotice) → IsOf sub notice → ((n : UpdateNotice) → Some n ≡ notice → takes_updates w n.session ≡ true)
      → ((n : UpdateNotice) → Some n ≡ notice → sub.owed ≡ true) → update_told_if notice w ≡ told_once_by sub sub notice w
  by_own_notice None is room owed = neither_way sub.owed
  by_own_notice (Some n) is room owed =
      let given : Gateway → Gateway = λ v. told n.session (replies.Update n.id n.dtype n.count n.payload) v in
      ap (λ (t : Bool). cond t (given (with_owed_of n.session n.id false w)) w) (room n refl)
      ∙ ap (λ (session : ℕ). given (with_owed_of session n.id false w)) is.0
      ∙ ap (λ (id : ℕ). given (with_owed_of sub.session id false w)) is.1
      ∙ ap (λ (t : Bool). given (cond t (with_owed_of sub.session sub.id false w) w)) (sym (owed n refl))

  pub unconcerned_once : told_in_turn w sub ≡ told_once_by sub sub (update_notice w sub) w
  unconcerned_once = by_own_notice (update_notice w sub) (notice_of w sub) (λ n is. takes_it w sub n is) (λ n is. owed_if_due w sub n is)

-- ---- the walk

one_once : (passes : ClientSub → Bool) (w : Gateway) (sub : ClientSub) → Stands w.clients.subs sub → told_concerned passes w sub ≡ told_once passes w sub
unfolding told_once
one_once passes w sub stands =
    elim (passes sub) as (λ t. one_update_told (cond t (with_owed true sub) sub) (cond t (owed_to w sub) w) ≡ told_once_by sub (cond t (with_owed true sub) sub) (update_notice w (cond t (with_owed true sub) sub)) w)
    [ true ↦ concerned_once w sub stands | false ↦ unconcerned_once w sub ]

still : (passes : ClientSub → Bool) (w : Gateway) (sub : ClientSub) (others : List ClientSub) → list_any (is_sub sub.session sub.id) others ≡ false
    → AllStand w.clients.subs others → AllStand (told_once passes w sub).clients.subs others
unfolding told_once
still passes w sub others apart stand = others_stand w sub (owed_where passes sub) (update_notice w (owed_where passes sub)) others apart stand

pub once_each : (passes : ClientSub → Bool) (subs : List ClientSub) (w : Gateway) → AreApart subs → AllStand w.clients.subs subs → fold (told_concerned passes) w subs ≡ fold (told_once passes) w subs
once_each passes [] w apart stand = refl
once_each passes (sub ∷ subs) w apart stand =
    ap (λ (v : Gateway). fold (told_concerned passes) v subs) (one_once passes w sub stand.0)
    ∙ once_each passes subs (told_once passes w sub) apart.1 (still passes w sub subs apart.0 stand.1)

-- where it concerns nobody, whatever rows there are
pub none_concerned_once : (passes : ClientSub → Bool) (none : (sub : ClientSub) → passes sub ≡ false) (subs : List ClientSub) (w : Gateway) → fold told_in_turn w subs ≡ fold (told_once passes) w subs
unfolding told_once
none_concerned_once passes none [] w = refl
none_concerned_once passes none (sub ∷ subs) w =
    let once : told_in_turn w sub ≡ told_once passes w sub =
    unconcerned_once w sub ∙ ap (λ (t : Bool). let due : ClientSub = cond t (with_owed true sub) sub in told_once_by sub due (update_notice w due) w) (sym (none sub)) in
    ap (λ (v : Gateway). fold told_in_turn v subs) once ∙ none_concerned_once passes none subs (told_once passes w sub)
