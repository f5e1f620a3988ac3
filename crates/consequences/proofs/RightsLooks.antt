-- How many rows are looked at where clients are told of the channels on one variable, and what these leave it.
use Rattle.std.proofs.Common.{◌≡◌, ◌≤◌, ◌<◌, ◌+◌, ◌*◌, ℕ, List, [], ◌∷◌, Bool, true, false, cond, eqb, not, ◌&&◌, ◌||◌, drop, get_or, length, Option, Some, None, arith, refl, sym, ap, subst, ◌∙◌}
use Rattle.std.specs.Prelude.{filter, fold}
use Rattle.std.specs.List.{cons_option, filter_map, find, list_any}
use Rattle.std.proofs.lemmas.Bool.{and_parts, eqb-true}
use Rattle.std.proofs.lemmas.List.{drop_more}
use Rattle.std.proofs.lemmas.List.Elements.{filter_agree}
use Rattle.std.proofs.lemmas.List.Sums.{count_by-le-length, length-filter}
use Rattle.rows.specs.Rows.{change_first}
use Rattle.ca_message.specs.declared.to_client.ToClient.{ToClient}
use Rattle.named_rows.specs.declared.channels.Channel.{Channel}
use Rattle.named_rows.specs.declared.channels.Reach.{Reach}
use Rattle.named_rows.specs.declared.subs.ClientSub.{ClientSub}
use Rattle.named_rows.specs.declared.reads.WaitingRead.{WaitingRead}
use Rattle.named_rows.specs.Channels.{is_channel, is_channel_on, is_on, with_reach_and_rights}
use Rattle.named_rows.specs.Reads.{is_not_read_on}
use Rattle.named_rows.specs.Subs.{is_not_sub_on, is_sub_on}
use Rattle.channel_table.specs.ClientRows.{ClientRows, is_read_for, is_sub_to}
use Rattle.link_table.specs.declared.links.LinkState.{LinkState}
use Rattle.link_table.specs.declared.links.LinkState.TheVariants.{Creating, Connected, Unusable}
use Rattle.gateway_state.specs.declared.notice.ChannelNotice.{ChannelNotice}
use Rattle.gateway_state.specs.declared.notice.ChannelNotice.TheVariants.{Disconnected, RightsChanged}
use Rattle.gateway_state.specs.declared.notice.LinkNotice.{LinkNotice}
use Rattle.gateway_state.specs.declared.notice.LinkNotice.TheVariants.{Cancelled, Unread, Subscribed, Dropped}
use Rattle.gateway_state.specs.Gateway.{Gateway}
use Rattle.gateway_state.specs.Notices.{channel_notice, channel_told, link_told, loses_reading, reading_ended, with_reach}
use Rattle.gateway_state.specs.Rights.{channel_of, is_served, rights_of}
use Rattle.gateway_state.specs.Settled.{AreUnlike, HasSidsApart, is_same_channel}
use Rattle.gateway_state.specs.Subscribing.{unreadable_told}
use Rattle.gateway_state.specs.Telling.{sent, told}
use Rattle.gateway_state.specs.Updates.{is_withheld}
use Rattle.gateway_state.proofs.LinksApart.{passing_filtered}
use Rattle.gateway_state.proofs.UnlikeRows.{eqb_swapped}
use Rattle.gateway_rows.specs.Own.{channels_on, reads_on, subs_on}
use Rattle.gateway_rows.proofs.OwnStays.{reads_on_owed, subs_on_owed}
use Rattle.touched_rows.specs.Touched.{channel_notices_on, channels_told_on, link_notices_over, link_told_on, updates_withheld_on, withheld_on}
use Rattle.touched_rows.proofs.Cleared.{found_without, not_so}
use Rattle.consequences.specs.Looks.{notice_looks, notices_looks}

-- ---- a variable has no more rows behind it

-- of fewer rows no more pass a test that agrees on each that stays
fewer_left : {A : Type 0} (now before stays : A → Bool) → ((row : A) → stays row ≡ true → now row ≡ before row) → (rows : List A) → length (filter now (filter stays rows)) ≤ length (filter before rows)
fewer_left now before stays same [] = omega arith
fewer_left {A = A} now before stays same (row ∷ rows) = by (stays row) refl (fewer_left now before stays same rows)
  where
    left : List A
    left = filter now (filter stays rows)

    all : List A
    all = filter before rows

    by : (is : Bool) → stays row ≡ is → length left ≤ length all → length (filter now (cond is (row ∷ filter stays rows) (filter stays rows))) ≤ length (cond (before row) (row ∷ all) all)
    by true is rest =
        subst (λ (t : Bool). length (cond t (row ∷ left) left) ≤ length (cond (before row) (row ∷ all) all)) (sym (same row is))
        (elim (before row) as (λ t. length (cond t (row ∷ left) left) ≤ length (cond t (row ∷ all) all)) [ true ↦ omega (arith, rest) | false ↦ rest ])
    by false is rest = elim (before row) as (λ t. length left ≤ length (cond t (row ∷ all) all)) [ true ↦ omega (arith, rest) | false ↦ rest ]

-- rights that change leave each row on the name that it is on
on_still : (session sid s t : ℕ) (reach : Reach) (rights : ℕ) (name : List ℕ) (channels : List Channel)
    → is_channel_on name (find (is_channel session sid) (change_first (is_channel s t) (with_reach_and_rights reach rights) channels)) ≡ is_channel_on name (find (is_channel session sid) channels)
on_still session sid s t reach rights name [] = refl
on_still session sid s t reach rights name (c ∷ channels) =
    let changed : List Channel = change_first (is_channel s t) (with_reach_and_rights reach rights) channels in
    elim (is_channel s t c)
    as (λ b. is_channel_on name (find (is_channel session sid) (cond b (with_reach_and_rights reach rights c ∷ channels) (c ∷ changed))) ≡ is_channel_on name (find (is_channel session sid) (c ∷ channels))) [
      | true ↦
          elim (is_channel session sid c)
          as (λ b. is_channel_on name (cond b (Some (with_reach_and_rights reach rights c)) (find (is_channel session sid) channels)) ≡ is_channel_on name (cond b (Some c) (find (is_channel session sid) channels)))
          [ true ↦ refl | false ↦ refl ]
      | false ↦
          elim (is_channel session sid c)
          as (λ b. is_channel_on name (cond b (Some c) (find (is_channel session sid) changed)) ≡ is_channel_on name (cond b (Some c) (find (is_channel session sid) channels)))
          [ true ↦ refl | false ↦ on_still session sid s t reach rights name channels ]
    ]

-- to tell a subscription that its channel may not be read changes no row
ended_each : (subs : List ClientSub) (w : Gateway) → (fold unreadable_told w subs).clients ≡ w.clients
unfolding sent
ended_each [] w = refl
ended_each (sub ∷ subs) w = ended_each subs (unreadable_told w sub)

ended : (session sid : ℕ) (ends : Bool) (w : Gateway) → (reading_ended session sid ends w).clients ≡ w.clients
ended session sid false w = refl
ended session sid true w = ended_each (filter (is_sub_on session sid) w.clients.subs) w

after_rights : (w : Gateway) (session sid cid : ℕ) (reach : Reach) (rights : ℕ) → (channel_told w (RightsChanged session sid cid reach rights)).clients ≡ (with_reach session sid reach rights w).clients
unfolding sent
after_rights w session sid cid reach rights = ended session sid (loses_reading w rights (channel_of w session sid)) _

abbrev subs_in : ClientRows → List ℕ → ℕ
subs_in rows name = length (filter (is_sub_to rows name) rows.subs)

abbrev reads_in : ClientRows → List ℕ → ℕ
reads_in rows name = length (filter (is_read_for rows name) rows.reads)

fewer_subs : (w : Gateway) (notice : ChannelNotice) (name : List ℕ) → subs_on (channel_told w notice) name ≤ subs_on w name
unfolding sent
fewer_subs w (Disconnected session sid cid) name =
    fewer_left (is_sub_to (channel_told w (Disconnected session sid cid)).clients name) (is_sub_to w.clients name) (is_not_sub_on session sid)
    (λ sub stays. ap (is_channel_on name) (found_without session sid w.clients.channels sub.session sub.sid (not_so (eqb sub.session session && eqb sub.sid sid) stays))) w.clients.subs
fewer_subs w (RightsChanged session sid cid reach rights) name =
    subst (λ (rows : ClientRows). subs_in rows name ≤ subs_on w name) (sym (after_rights w session sid cid reach rights))
    (omega (
      arith,
      ap length (filter_agree (is_sub_to (with_reach session sid reach rights w).clients name) (is_sub_to w.clients name)
          (λ sub. on_still sub.session sub.sid session sid reach rights name w.clients.channels) w.clients.subs),
    ))

fewer_reads : (w : Gateway) (notice : ChannelNotice) (name : List ℕ) → reads_on (channel_told w notice) name ≤ reads_on w name
unfolding sent
fewer_reads w (Disconnected session sid cid) name =
    fewer_left (is_read_for (channel_told w (Disconnected session sid cid)).clients name) (is_read_for w.clients name) (is_not_read_on session sid)
    (λ read stays. ap (is_channel_on name) (found_without session sid w.clients.channels read.session read.sid (not_so (eqb read.session session && eqb read.sid sid) stays))) w.clients.reads
fewer_reads w (RightsChanged session sid cid reach rights) name =
    subst (λ (rows : ClientRows). reads_in rows name ≤ reads_on w name) (sym (after_rights w session sid cid reach rights))
    (omega (
      arith,
      ap length (filter_agree (is_read_for (with_reach session sid reach rights w).clients name) (is_read_for w.clients name)
          (λ read. on_still read.session read.sid session sid reach rights name w.clients.channels) w.clients.reads),
    ))

fewer_subs_each : (notices : List ChannelNotice) (w : Gateway) (name : List ℕ) → subs_on (fold channel_told w notices) name ≤ subs_on w name
fewer_subs_each [] w name = omega arith
fewer_subs_each (notice ∷ notices) w name = omega (arith, fewer_subs_each notices (channel_told w notice) name, fewer_subs w notice name)

fewer_reads_each : (notices : List ChannelNotice) (w : Gateway) (name : List ℕ) → reads_on (fold channel_told w notices) name ≤ reads_on w name
fewer_reads_each [] w name = omega arith
fewer_reads_each (notice ∷ notices) w name = omega (arith, fewer_reads_each notices (channel_told w notice) name, fewer_reads w notice name)

fewer_subs_then : (name : List ℕ) (w : Gateway) → subs_on (channels_told_on name w) name ≤ subs_on w name
fewer_subs_then name w = fewer_subs_each (channel_notices_on name w) w name

fewer_reads_then : (name : List ℕ) (w : Gateway) → reads_on (channels_told_on name w) name ≤ reads_on w name
fewer_reads_then name w = fewer_reads_each (channel_notices_on name w) w name

-- what a server is told changes no row of a client
linked_one : (w : Gateway) (notice : LinkNotice) → (link_told w notice).clients ≡ w.clients
unfolding sent
linked_one w (Cancelled subject server cid sid dtype sub) = refl
linked_one w (Unread subject cid) = refl
linked_one w (Subscribed subject server cid sid dtype want count) = refl
linked_one w (Dropped server cid state) = elim state as (λ s. (link_told w (Dropped server cid s)).clients ≡ w.clients) [ Creating ↦ refl | Unusable ↦ refl | Connected sid dtype native ↦ refl ]

linked_each : (notices : List LinkNotice) (w : Gateway) → (fold link_told w notices).clients ≡ w.clients
linked_each [] w = refl
linked_each (notice ∷ notices) w = linked_each notices (link_told w notice) ∙ linked_one w notice

linked_then : (name : List ℕ) (w : Gateway) → (link_told_on name w).clients ≡ w.clients
linked_then name w = linked_each (link_notices_over w _) w

pub fewer_then : (name : List ℕ) (w : Gateway) → (subs_on (channels_told_on name w) name ≤ subs_on w name) × (reads_on (channels_told_on name w) name ≤ reads_on w name)
fewer_then name w = (fewer_subs_then name w, fewer_reads_then name w)

-- nor does owing updates to those that are withheld
pub as_many_then : (name : List ℕ) (w : Gateway)
    → (subs_on (link_told_on name (updates_withheld_on name w)) name ≡ subs_on w name) × (reads_on (link_told_on name (updates_withheld_on name w)) name ≡ reads_on w name)
as_many_then name w =
    let held : Gateway = updates_withheld_on name w in (
      ap (λ (rows : ClientRows). subs_in rows name) (linked_then name held) ∙ subs_on_owed name (withheld_on name w) w,
      ap (λ (rows : ClientRows). reads_in rows name) (linked_then name held) ∙ reads_on_owed name (withheld_on name w) w,
    )

-- and no more are withheld than there are
pub few_withheld : (name : List ℕ) (w : Gateway) → length (withheld_on name w) ≤ subs_on w name
few_withheld name w = omega (arith, length-filter (is_withheld w) (filter (is_sub_to w.clients name) w.clients.subs), count_by-le-length (is_withheld w) (filter (is_sub_to w.clients name) w.clients.subs))

-- to tell a client something leaves the subscriptions on a channel
pub told_keeps_subs : (session sid number : ℕ) (said : ToClient) (w : Gateway) → length (filter (is_sub_on session sid) (told number said w).clients.subs) ≡ length (filter (is_sub_on session sid) w.clients.subs)
unfolding sent
told_keeps_subs session sid number said w = refl

-- ---- telling one notice leaves no more to look at for those behind it

passing_after : (w : Gateway) (notice : ChannelNotice) (test : ClientSub → Bool) → length (filter test (channel_told w notice).clients.subs) ≤ length (filter test w.clients.subs)
unfolding sent
passing_after w (Disconnected session sid cid) test = passing_filtered test (is_not_sub_on session sid) w.clients.subs
passing_after w (RightsChanged session sid cid reach rights) test =
    omega (arith, ap (λ (rows : ClientRows). length (filter test rows.subs)) (after_rights w session sid cid reach rights))

one_after : (w : Gateway) (notice other : ChannelNotice) → notice_looks (channel_told w notice) other ≤ notice_looks w other
one_after w notice (Disconnected session sid cid) = omega arith
one_after w notice (RightsChanged session sid cid reach rights) = omega (arith, passing_after w notice (is_sub_on session sid))

looks_after_one : (w : Gateway) (notice : ChannelNotice) (notices : List ChannelNotice) → notices_looks (channel_told w notice) notices ≤ notices_looks w notices
looks_after_one w notice [] = omega arith
looks_after_one w notice (other ∷ notices) = omega (arith, one_after w notice other, looks_after_one w notice notices)

-- so as one is told, what was looked at and what is left to look at is no more than all
pub looks_next : (v w : Gateway) (notices : List ChannelNotice) (place before after most : ℕ) (notice : ChannelNotice) → place < length notices → v ≡ channel_told w (get_or notices place notice)
    → after ≤ before + notice_looks w (get_or notices place notice) → before + notices_looks w (drop place notices) ≤ most → after + notices_looks v (drop (place + 1) notices) ≤ most
looks_next v w notices place before after most d within is looked so_far =
    let notice : ChannelNotice = get_or notices place d in
    let rest : List ChannelNotice = drop (place + 1) notices in
    let fewer : notices_looks v rest ≤ notices_looks w rest = subst (λ (from : Gateway). notices_looks from rest ≤ notices_looks w rest) (sym is) (looks_after_one w notice rest) in
    let next : notices_looks w (drop place notices) ≡ notice_looks w notice + notices_looks w rest = ap (notices_looks w) (drop_more notices place d within) in
    omega (arith, fewer, next, looked, so_far)

-- ---- the subscriptions on the channels of a variable are those to the variable

-- how many subscriptions are on these channels
abbrev on_each : List Channel → List ClientSub → ℕ
on_each [] subs = 0
on_each (c ∷ channels) subs = length (filter (is_sub_on c.session c.sid) subs) + on_each channels subs

at_most : (w : Gateway) (channels : List Channel) → notices_looks w (filter_map (channel_notice w) channels) ≤ 2 * length channels + on_each channels w.clients.subs
at_most w [] = omega arith
at_most w (c ∷ channels) = by (not (is_served w c)) (eqb c.rights_told (rights_of w c)) (at_most w channels)
  where
    left : List ChannelNotice
    left = filter_map (channel_notice w) channels

    by : (gone same : Bool) → notices_looks w left ≤ 2 * length channels + on_each channels w.clients.subs
        → notices_looks w (cons_option (cond gone (Some (Disconnected c.session c.sid c.cid)) (cond same None (Some (RightsChanged c.session c.sid c.cid c.reach (rights_of w c))))) left)
        ≤ 2 * length (c ∷ channels) + on_each (c ∷ channels) w.clients.subs
    by true same rest = omega (arith, rest)
    by false true rest = omega (arith, rest)
    by false false rest = omega (arith, rest)

abbrev one_if : Bool → ℕ
one_if true = 1
one_if false = 0

-- how many of these channels a subscription is on
abbrev hits : ClientSub → List Channel → ℕ
hits sub [] = 0
hits sub (c ∷ channels) = one_if (is_sub_on c.session c.sid sub) + hits sub channels

one_more : (sub : ClientSub) (subs : List ClientSub) (channels : List Channel) → on_each channels (sub ∷ subs) ≡ hits sub channels + on_each channels subs
one_more sub subs [] = omega arith
one_more sub subs (c ∷ channels) = by (is_sub_on c.session c.sid sub) (one_more sub subs channels)
  where
    on : List ClientSub
    on = filter (is_sub_on c.session c.sid) subs

    by : (is : Bool) → on_each channels (sub ∷ subs) ≡ hits sub channels + on_each channels subs
        → length (cond is (sub ∷ on) on) + on_each channels (sub ∷ subs) ≡ (one_if is + hits sub channels) + (length on + on_each channels subs)
    by true rest = omega (arith, rest)
    by false rest = omega (arith, rest)

none_on_each : (channels : List Channel) → on_each channels [] ≡ 0
none_on_each [] = refl
none_on_each (c ∷ channels) = omega (arith, none_on_each channels)

swapped : (sub : ClientSub) (c : Channel) → is_sub_on c.session c.sid sub ≡ is_channel sub.session sub.sid c
swapped sub c = ap (λ (t : Bool). t && eqb sub.sid c.sid) (eqb_swapped sub.session c.session) ∙ ap (λ (t : Bool). eqb c.session sub.session && t) (eqb_swapped sub.sid c.sid)

-- a row of those on the name, in front
hits_first : (name : List ℕ) (sub : ClientSub) (c : Channel) (channels : List Channel) → hits sub (cond (is_on name c) (c ∷ channels) channels) ≤ one_if (is_on name c) + hits sub channels
hits_first name sub c channels = elim (is_on name c) as (λ t. hits sub (cond t (c ∷ channels) channels) ≤ one_if t + hits sub channels) [
  | true ↦ elim (is_sub_on c.session c.sid sub) as (λ t. one_if t + hits sub channels ≤ 1 + hits sub channels) [ true ↦ omega arith | false ↦ omega arith ]
  | false ↦ omega arith
]

hits_unless : (name : List ℕ) (sub : ClientSub) (c : Channel) (channels : List Channel) → is_channel sub.session sub.sid c ≡ false → hits sub (cond (is_on name c) (c ∷ channels) channels) ≡ hits sub channels
hits_unless name sub c channels other = elim (is_on name c) as (λ t. hits sub (cond t (c ∷ channels) channels) ≡ hits sub channels) [
  | true ↦ (
      let none : one_if (is_sub_on c.session c.sid sub) ≡ 0 = ap one_if (swapped sub c ∙ other) in
      omega (arith, none)
      )
  | false ↦ refl
]

neither : (p q : Bool) → (p || q) ≡ false → (p ≡ false) × (q ≡ false)
neither true q e = cc
neither false q e = (refl, e)

none_hit : (name : List ℕ) (sub : ClientSub) (channels : List Channel) → list_any (is_channel sub.session sub.sid) channels ≡ false → hits sub (filter (is_on name) channels) ≡ 0
none_hit name sub [] none = refl
none_hit name sub (c ∷ channels) none =
    let split = neither (is_channel sub.session sub.sid c) (list_any (is_channel sub.session sub.sid) channels) none in
    hits_unless name sub c (filter (is_on name) channels) split.0 ∙ none_hit name sub channels split.1

-- one at most, where no two channels are alike
hit_once : (name : List ℕ) (sub : ClientSub) (channels : List Channel) → AreUnlike is_same_channel channels
    → hits sub (filter (is_on name) channels) ≤ one_if (is_channel_on name (find (is_channel sub.session sub.sid) channels))
hit_once name sub [] apart = omega arith
hit_once name sub (c ∷ channels) apart = by (is_channel sub.session sub.sid c) refl (hit_once name sub channels apart.1)
  where
    left : List Channel
    left = filter (is_on name) channels

    by : (is : Bool) → is_channel sub.session sub.sid c ≡ is → hits sub left ≤ one_if (is_channel_on name (find (is_channel sub.session sub.sid) channels))
        → hits sub (cond (is_on name c) (c ∷ left) left) ≤ one_if (is_channel_on name (cond is (Some c) (find (is_channel sub.session sub.sid) channels)))
    by true is rest =
        let key = and_parts (eqb c.session sub.session) (eqb c.sid sub.sid) is in
        let none : list_any (is_channel sub.session sub.sid) channels ≡ false =
        subst (λ (sid : ℕ). list_any (is_channel sub.session sid) channels ≡ false) (eqb-true c.sid sub.sid key.1)
        (subst (λ (session : ℕ). list_any (is_channel session c.sid) channels ≡ false) (eqb-true c.session sub.session key.0) apart.0) in
        omega (arith, hits_first name sub c left, none_hit name sub channels none)
    by false is rest = omega (arith, hits_unless name sub c left is, rest)

on_all : (name : List ℕ) (channels : List Channel) → AreUnlike is_same_channel channels → (subs : List ClientSub)
    → on_each (filter (is_on name) channels) subs ≤ length (filter (λ (sub : ClientSub). is_channel_on name (find (is_channel sub.session sub.sid) channels)) subs)
on_all name channels apart [] = omega (arith, none_on_each (filter (is_on name) channels))
on_all name channels apart (sub ∷ subs) =
    let to : ClientSub → Bool = λ s. is_channel_on name (find (is_channel s.session s.sid) channels) in
    let more = one_more sub subs (filter (is_on name) channels) in
    let rest = on_all name channels apart subs in
    let once : hits sub (filter (is_on name) channels) ≤ one_if (to sub) = hit_once name sub channels apart in
    let counted : length (cond (to sub) (sub ∷ filter to subs) (filter to subs)) ≡ one_if (to sub) + length (filter to subs) =
    elim (to sub) as (λ t. length (cond t (sub ∷ filter to subs) (filter to subs)) ≡ one_if t + length (filter to subs)) [ true ↦ omega arith | false ↦ omega arith ] in
    omega (arith, more, rest, once, counted)

-- all that is looked at to tell the channels on a variable
pub told_looks : (name : List ℕ) (w : Gateway) → HasSidsApart w → notices_looks w (channel_notices_on name w) ≤ 2 * channels_on w name + subs_on w name
told_looks name w apart = omega (arith, at_most w (filter (is_on name) w.clients.channels), on_all name w.clients.channels apart.apart w.clients.subs)
