-- Servers are owed nothing where readers ask for what they asked for, and each variable is wanted still.
use Rattle.std.proofs.Common.{◌≡◌, ℕ, List, [], ◌∷◌, ◌++◌, Bool, true, false, cond, Option, refl, ◌∙◌}
use Rattle.std.specs.Prelude.{flat_map}
use Rattle.std.specs.List.{All}
use Rattle.std.proofs.lemmas.List.Elements.{All-cons, All-head, All-nil, All-tail}
use Rattle.link_table.specs.declared.links.LinkRow.{LinkRow}
use Rattle.link_table.specs.declared.links.LinkState.{LinkState}
use Rattle.link_table.specs.declared.links.LinkState.TheVariants.{Creating, Connected, Unusable}
use Rattle.link_table.specs.declared.links.Subject.{Subject}
use Rattle.link_table.specs.declared.links.Subject.TheVariants.{Values, Properties}
use Rattle.link_table.specs.declared.links.Subscription.{Subscription}
use Rattle.link_table.specs.Links.{sub_at}
use Rattle.mask_merge.specs.declared.want.Want.{Want}
use Rattle.gateway_state.specs.declared.notice.LinkNotice.TheVariants.{Dropped}
use Rattle.gateway_state.specs.Gateway.{Gateway}
use Rattle.gateway_state.specs.Interest.{is_for, minor_of, readers, wanted_by, wanted_for}
use Rattle.gateway_state.specs.Notices.{cancelled, interest_notices, link_notices_of, notices_between, subject_notices, subscribed}
use Rattle.gateway_state.specs.Settled.{IsInUse, IsSettled}
use Rattle.gateway_state.specs.Variables.{is_wanted}
use Rattle.gateway_state.proofs.SettledMeaning.{all_in_use, both_empty, nothing_told, told_anew}
use Rattle.touched_rows.proofs.TouchedAlone.{none_planned_flat}

-- a subscription that is for what is wanted is so whatever minor version the server says
between_quiet : (subject : Subject) (link : LinkRow) (before after sid dtype native : ℕ) (want : Option Want) (sub : Option Subscription)
    → notices_between subject before link sid dtype native want sub ≡ [] → notices_between subject after link sid dtype native want sub ≡ []
between_quiet subject link before after sid dtype native want sub none = by (is_for want sub) none
  where
    by : (met : Bool) → cond met [] (cancelled subject link sid dtype sub ++ subscribed subject before link sid dtype native want) ≡ []
        → cond met [] (cancelled subject link sid dtype sub ++ subscribed subject after link sid dtype native want) ≡ []
    by true none = refl
    by false none = absurd (told_anew subject link before sid dtype native sub want none)

module _ (w x : Gateway) (link : LinkRow) (asks : readers x link.name ≡ readers w link.name)
    (wanted : is_wanted w link.name ≡ true → is_wanted x link.name ≡ true) where
  subject_quiet : (subject : Subject) (sid dtype native : ℕ) → subject_notices subject w link sid dtype native ≡ [] → subject_notices subject x link sid dtype native ≡ []
  subject_quiet subject sid dtype native none =
      (λ i. notices_between subject (minor_of x link.server) link sid dtype native (wanted_by subject dtype native (asks i)) (sub_at subject link.subscriptions))
      ∙ between_quiet subject link (minor_of w link.server) (minor_of x link.server) sid dtype native (wanted_for subject w link.name dtype native) (sub_at subject link.subscriptions) none

  interest_quiet : (state : LinkState) → interest_notices w link state ≡ [] → interest_notices x link state ≡ []
  interest_quiet Creating none = refl
  interest_quiet Unusable none = refl
  interest_quiet (Connected sid dtype native) none =
      let parts = both_empty (subject_notices Values w link sid dtype native) (subject_notices Properties w link sid dtype native) none in
      let values = subject_quiet Values sid dtype native parts.0 in
      let properties = subject_quiet Properties sid dtype native parts.1 in
      λ i. values i ++ properties i

  pub link_quiet : IsInUse w link → link_notices_of w link ≡ [] → link_notices_of x link ≡ []
  link_quiet used none =
      let first : interest_notices x link link.state ≡ [] =
      interest_quiet link.state (both_empty (interest_notices w link link.state) (cond (is_wanted w link.name) [] (Dropped link.server link.cid link.state ∷ [])) none).0 in
      let still : is_wanted x link.name ≡ true = wanted used.wanted in
      λ i. first i ++ cond (still i) [] (Dropped link.server link.cid link.state ∷ [])

module _ (w x : Gateway) (asks : (name : List ℕ) → readers x name ≡ readers w name)
    (wanted : (name : List ℕ) → is_wanted w name ≡ true → is_wanted x name ≡ true) where
  pub each_quiet : (links : List LinkRow) → All (IsInUse w) links → All (λ (link : LinkRow). link_notices_of w link ≡ []) links → All (λ (link : LinkRow). link_notices_of x link ≡ []) links
  each_quiet [] used none = All-nil (λ (link : LinkRow). link_notices_of x link ≡ [])
  each_quiet (link ∷ links) used none =
      All-cons (λ (l : LinkRow). link_notices_of x l ≡ []) link links
      (link_quiet w x link (asks link.name) (wanted link.name) (All-head (IsInUse w) link links used) (All-head (λ (l : LinkRow). link_notices_of w l ≡ []) link links none))
      (each_quiet links (All-tail (IsInUse w) link links used) (All-tail (λ (l : LinkRow). link_notices_of w l ≡ []) link links none))

  pub links_quiet : IsSettled w → flat_map (link_notices_of x) w.upstream.links ≡ []
  links_quiet settled =
      none_planned_flat (link_notices_of x) w.upstream.links
      (each_quiet w.upstream.links (all_in_use w settled) (nothing_told (link_notices_of w) w.upstream.links settled.links))
