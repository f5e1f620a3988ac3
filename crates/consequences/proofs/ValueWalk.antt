-- What follows from a value: once the reads are told, one walk over the subscriptions as they were listed.
use Rattle.std.proofs.Common.{◌≡◌, ℕ, List, [], ◌∷◌, Bool, true, refl, sym, ap, subst, ◌∙◌}
use Rattle.std.specs.Prelude.{filter, map}
use Rattle.std.specs.List.{All, fold}
use Rattle.named_rows.specs.declared.subs.ClientSub.{ClientSub}
use Rattle.gateway_state.specs.declared.notice.ReadNotice.{ReadNotice}
use Rattle.gateway_state.specs.declared.notice.ReadNotice.TheVariants.{Answered, Refused}
use Rattle.gateway_state.specs.Gateway.{Gateway}
use Rattle.gateway_state.specs.Notices.{read_told}
use Rattle.gateway_state.specs.Servers.{concerned_owed}
use Rattle.gateway_state.specs.Settled.{AreApart, HasSubsApart}
use Rattle.gateway_state.specs.Telling.{sent}
use Rattle.gateway_state.specs.Updates.{concerned, is_sub_to, owed_to_all}
use Rattle.gateway_state.proofs.SettledWithheld.{owing_changed}
use Rattle.consequences.specs.InTurn.{AreFoundBy, told_in_turn, told_once}
use Rattle.consequences.proofs.OnceEach.{listed_apart, listed_stand, none_concerned_once, once_each}
use Rattle.consequences.proofs.OneWalk.{one_walk}
use Rattle.consequences.proofs.Owed.{listed_as_owed, nobody_concerned, owed_as_concerned}
use Rattle.consequences.proofs.SubsStay.{list_after_reads}
use Rattle.consequences.proofs.TellingInTurn.{all_on, told_one_by_one}
use Rattle.touched_rows.specs.declared.concern.Concern.{Concern}
use Rattle.touched_rows.specs.declared.concern.Concern.TheVariants.{Nobody, Value, Properties}
use Rattle.touched_rows.specs.Concern.{passes}
use Rattle.touched_rows.specs.Touched.{owed_where, read_notices_on, reads_told_on, updates_told_on}

-- ---- reads are told before or behind what is owed to subscriptions

one_before : (name : List ℕ) (test : ClientSub → Bool) (w : Gateway) (notice : ReadNotice) → read_told (concerned_owed name test w) notice ≡ concerned_owed name test (read_told w notice)
unfolding sent
one_before name test w (Refused read code) =
    ap (λ (v : Gateway). read_told v (Refused read code)) (owing_changed (concerned w name test) w) ∙ sym (owing_changed (concerned w name test) (read_told w (Refused read code)))
one_before name test w (Answered read count value) =
    ap (λ (v : Gateway). read_told v (Answered read count value)) (owing_changed (concerned w name test) w) ∙ sym (owing_changed (concerned w name test) (read_told w (Answered read count value)))

each_before : (name : List ℕ) (test : ClientSub → Bool) (notices : List ReadNotice) (w : Gateway) → fold read_told (concerned_owed name test w) notices ≡ concerned_owed name test (fold read_told w notices)
each_before name test [] w = refl
each_before name test (notice ∷ notices) w =
    ap (λ (v : Gateway). fold read_told v notices) (one_before name test w notice) ∙ each_before name test notices (read_told w notice)

pub reads_before : (name : List ℕ) (test : ClientSub → Bool) (w : Gateway) → reads_told_on name (concerned_owed name test w) ≡ concerned_owed name test (reads_told_on name w)
reads_before name test w =
    ap (fold read_told (concerned_owed name test w)) (ap (read_notices_on name) (owing_changed (concerned w name test) w))
    ∙ each_before name test (read_notices_on name w) w

one_leaves : (w : Gateway) (notice : ReadNotice) → (read_told w notice).clients.subs ≡ w.clients.subs
unfolding sent
one_leaves w (Refused read code) = refl
one_leaves w (Answered read count value) = refl

each_leaves : (notices : List ReadNotice) (w : Gateway) → (fold read_told w notices).clients.subs ≡ w.clients.subs
each_leaves [] w = refl
each_leaves (notice ∷ notices) w = each_leaves notices (read_told w notice) ∙ one_leaves w notice

apart_after_reads : (name : List ℕ) (w : Gateway) → HasSubsApart w → HasSubsApart (reads_told_on name w)
apart_after_reads name w apart = subst AreApart (sym (each_leaves (read_notices_on name w) w)) apart

-- ---- the walk

pub walk_on : (name : List ℕ) (test : ClientSub → Bool) (w : Gateway) → HasSubsApart w
    → updates_told_on name (concerned_owed name test w) ≡ fold (told_once test) w (filter (is_sub_to w name) w.clients.subs)
walk_on name test w apart =
    let after : Gateway = concerned_owed name test w in
    let listed : List ClientSub = filter (is_sub_to w name) w.clients.subs in
    let alone : AreApart listed = listed_apart (is_sub_to w name) w.clients.subs apart in
    sym (told_one_by_one after (filter (is_sub_to after name) after.clients.subs))
    ∙ ap (fold told_in_turn after) (listed_as_owed w name test apart)
    ∙ ap (λ (v : Gateway). fold told_in_turn v (map (owed_where test) listed)) (sym (owed_as_concerned w name test))
    ∙ one_walk test listed w alone
    ∙ once_each test listed w alone (listed_stand (is_sub_to w name) w.clients.subs apart)

-- an update that concerns nobody
pub nobody_owed : (name : List ℕ) (w : Gateway) → concerned_owed name (passes Nobody) w ≡ w
nobody_owed name w = ap (owed_to_all w) (nobody_concerned w name w.clients.subs)

walk_of_nobody : (name : List ℕ) (w : Gateway) → updates_told_on name w ≡ fold (told_once (passes Nobody)) w (filter (is_sub_to w name) w.clients.subs)
walk_of_nobody name w =
    let listed : List ClientSub = filter (is_sub_to w name) w.clients.subs in
    sym (told_one_by_one w listed) ∙ none_concerned_once (passes Nobody) (λ sub. refl) listed w

walk_by : (name : List ℕ) (concern : Concern) (w : Gateway) → AreFoundBy concern w
    → updates_told_on name (reads_told_on name (concerned_owed name (passes concern) w)) ≡ fold (told_once (passes concern)) (reads_told_on name w) (filter (is_sub_to (reads_told_on name w) name) (reads_told_on name w).clients.subs)
walk_by name Nobody w found = ap (λ (v : Gateway). updates_told_on name (reads_told_on name v)) (nobody_owed name w) ∙ walk_of_nobody name (reads_told_on name w)
walk_by name (Value differs) w found = ap (updates_told_on name) (reads_before name (passes (Value differs)) w) ∙ walk_on name (passes (Value differs)) (reads_told_on name w) (apart_after_reads name w found)
walk_by name Properties w found = ap (updates_told_on name) (reads_before name (passes Properties) w) ∙ walk_on name (passes Properties) (reads_told_on name w) (apart_after_reads name w found)

-- by the subscriptions as they were before the reads
pub value_walk : (name : List ℕ) (concern : Concern) (w : Gateway) (subs : List ClientSub) → AreFoundBy concern w → subs ≡ filter (is_sub_to w name) w.clients.subs
    → updates_told_on name (reads_told_on name (concerned_owed name (passes concern) w)) ≡ fold (told_once (passes concern)) (reads_told_on name w) subs
value_walk name concern w subs found are =
    walk_by name concern w found ∙ ap (fold (told_once (passes concern)) (reads_told_on name w)) (list_after_reads name w ∙ sym are)

-- all of them are on the name by then
pub on_after_reads : (name : List ℕ) (w : Gateway) (subs : List ClientSub) → subs ≡ filter (is_sub_to w name) w.clients.subs → All (λ sub. is_sub_to (reads_told_on name w) name sub ≡ true) subs
on_after_reads name w subs are =
    all_on (reads_told_on name w) name subs (are ∙ sym (list_after_reads name w))

-- where no session has two subscriptions under one ID each is found by its own
pub found_apart : (concern : Concern) (w : Gateway) → HasSubsApart w → AreFoundBy concern w
found_apart Nobody w apart = tt
found_apart (Value differs) w apart = apart
found_apart Properties w apart = apart
