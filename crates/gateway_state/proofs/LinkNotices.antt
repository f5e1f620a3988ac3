-- What servers are owed about a link depends on what its readers ask for, and on what its server said.
use Rattle.std.proofs.Common.{◌≡◌, ℕ, List, [], ◌∷◌, ◌++◌, cond, refl}
use Rattle.link_table.specs.declared.links.LinkRow.{LinkRow}
use Rattle.link_table.specs.declared.links.LinkState.{LinkState}
use Rattle.link_table.specs.declared.links.LinkState.TheVariants.{Creating, Connected, Unusable}
use Rattle.link_table.specs.declared.links.Subject.{Subject}
use Rattle.link_table.specs.declared.links.Subject.TheVariants.{Values, Properties}
use Rattle.link_table.specs.Links.{sub_at}
use Rattle.gateway_state.specs.declared.notice.LinkNotice.TheVariants.{Dropped}
use Rattle.gateway_state.specs.Gateway.{Gateway}
use Rattle.gateway_state.specs.Interest.{minor_of, readers, wanted_by}
use Rattle.gateway_state.specs.Notices.{interest_notices, link_notices_of, notices_between, subject_notices}
use Rattle.gateway_state.specs.Variables.{is_wanted}

module _ (v w : Gateway) (readers_same : (name : List ℕ) → readers v name ≡ readers w name)
    (minor_same : (server : ℕ) → minor_of v server ≡ minor_of w server) (wanted_same : (name : List ℕ) → is_wanted v name ≡ is_wanted w name) where
  subject_notices_alike : (subject : Subject) (link : LinkRow) (sid dtype native : ℕ) → subject_notices subject v link sid dtype native ≡ subject_notices subject w link sid dtype native
  subject_notices_alike subject link sid dtype native =
      let asks = readers_same link.name in
      let minor = minor_same link.server in
      λ i. notices_between subject (minor i) link sid dtype native (wanted_by subject dtype native (asks i)) (sub_at subject link.subscriptions)

  interest_notices_alike : (link : LinkRow) (state : LinkState) → interest_notices v link state ≡ interest_notices w link state
  interest_notices_alike link Creating = refl
  interest_notices_alike link Unusable = refl
  interest_notices_alike link (Connected sid dtype native) =
      let values = subject_notices_alike Values link sid dtype native in
      let properties = subject_notices_alike Properties link sid dtype native in
      λ i. values i ++ properties i

  pub link_notices_alike : (link : LinkRow) → link_notices_of v link ≡ link_notices_of w link
  link_notices_alike link =
      let first = interest_notices_alike link link.state in
      let wanted = wanted_same link.name in
      λ i. first i ++ cond (wanted i) [] (Dropped link.server link.cid link.state ∷ [])
