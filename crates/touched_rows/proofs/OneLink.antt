-- Where the readers of one variable changed, servers are told of its link alone.
use Rattle.std.proofs.Common.{◌≡◌, ℕ, ◌≤◌, List, [], ◌∷◌, ◌++◌, length, Bool, true, false, cond, Option, Some, None, refl, sym, ap, subst, ◌∙◌, arith}
use Rattle.std.specs.Prelude.{bytes_eq, filter, flat_map}
use Rattle.std.specs.List.{All, find, fold, list_all}
use Rattle.std.proofs.lemmas.List.{append-nil}
use Rattle.std.proofs.lemmas.List.Elements.{All-weaker}
use Rattle.std.proofs.lemmas.Slice.Eq.{bytes_eq-Decides}
use Rattle.link_table.specs.declared.links.LinkRow.{LinkRow}
use Rattle.link_table.specs.declared.links.LinkState.{LinkState}
use Rattle.link_table.specs.declared.links.LinkState.TheVariants.{Creating, Connected, Unusable}
use Rattle.link_table.specs.declared.links.Subject.{Subject}
use Rattle.link_table.specs.declared.links.Subject.TheVariants.{Values, Properties}
use Rattle.link_table.specs.Links.{is_named, sub_at}
use Rattle.gateway_state.specs.declared.notice.LinkNotice.{LinkNotice}
use Rattle.gateway_state.specs.declared.notice.LinkNotice.TheVariants.{Dropped}
use Rattle.gateway_state.specs.Gateway.{Gateway}
use Rattle.gateway_state.specs.Interest.{minor_of, readers, wanted_by}
use Rattle.gateway_state.specs.Notices.{interest_notices, link_notices, link_notices_of, link_told, links_told, notices_between, subject_notices}
use Rattle.gateway_state.specs.Settled.{HasLinksApart, IsInUse, IsSettled}
use Rattle.gateway_state.specs.Variables.{is_wanted, link_of}
use Rattle.gateway_state.proofs.SettledMeaning.{all_in_use, nothing_told}
use Rattle.touched_rows.specs.Touched.{interest_notices_over, interest_told, link_notices_over, link_told_on}
use Rattle.touched_rows.proofs.LessGiven.{GivesNoMore}
use Rattle.touched_rows.proofs.Shapes.{links_told_shape}
use Rattle.touched_rows.proofs.Tellings.{interest_keeps, keeps_links, less_links_told}
use Rattle.touched_rows.proofs.TouchedAlone.{found_holds, found_passes, touched_alone_flat}

-- ---- at most one row passes

abbrev planned_over : {A B : Type 0} → (A → List B) → Option A → List B
planned_over notices None = []
planned_over notices (Some row) = notices row

pub none_passing : {A : Type 0} (test : A → Bool) (rows : List A) → length (filter test rows) ≤ 0 → filter test rows ≡ []
none_passing test rows none = by (filter test rows) none
  where
    by : {A : Type 0} (all : List A) → length all ≤ 0 → all ≡ []
    by [] none = refl
    by (row ∷ more) none = absurd (omega arith)

plan_of_one : {A B : Type 0} (notices : A → List B) (test : A → Bool) (rows : List A) → length (filter test rows) ≤ 1
    → flat_map notices (filter test rows) ≡ planned_over notices (find test rows)
plan_of_one notices test [] one = refl
plan_of_one {A = A} {B = B} notices test (row ∷ rows) one = by (test row) one (λ rest. plan_of_one notices test rows rest)
  where
    by : (is : Bool) → length (cond is (row ∷ filter test rows) (filter test rows)) ≤ 1
        → (length (filter test rows) ≤ 1 → flat_map notices (filter test rows) ≡ planned_over notices (find test rows))
        → flat_map notices (cond is (row ∷ filter test rows) (filter test rows)) ≡ planned_over notices (cond is (Some row) (find test rows))
    by true one rest =
        let no_more : filter test rows ≡ [] = none_passing test rows (omega arith) in
        ap (λ (more : List A). notices row ++ flat_map notices more) no_more ∙ append-nil (notices row)
    by false one rest = rest one

-- ---- the notices on one link

over_is : (x : Gateway) (found : Option LinkRow) → planned_over (link_notices_of x) found ≡ link_notices_over x found
over_is x None = refl
over_is x (Some link) = refl

-- the name is this one
abbrev pub is_name : List ℕ → List ℕ → Bool
is_name name other = bytes_eq other name

-- the readers of variables that weren't touched ask for what they asked for, and those are wanted as before
pub record IsBesideOthers (w x : Gateway) (touched : List ℕ → Bool) : Type 0 where
  pub links : x.upstream.links ≡ w.upstream.links
  pub minors : (server : ℕ) → minor_of x server ≡ minor_of w server
  pub asks : (other : List ℕ) → touched other ≡ false → readers x other ≡ readers w other
  pub wanted : (other : List ℕ) → touched other ≡ false → is_wanted x other ≡ is_wanted w other

-- a link whose variable is wanted as before, and whose readers ask for what they asked for
pub link_alike : (w x : Gateway) (link : LinkRow) → readers x link.name ≡ readers w link.name → ((server : ℕ) → minor_of x server ≡ minor_of w server)
    → is_wanted x link.name ≡ is_wanted w link.name → link_notices_of x link ≡ link_notices_of w link
link_alike w x link asks minors wanted =
    let first = by link.state in
    λ i. first i ++ cond (wanted i) [] (Dropped link.server link.cid link.state ∷ [])
  where
    on : (subject : Subject) (sid dtype native : ℕ) → subject_notices subject x link sid dtype native ≡ subject_notices subject w link sid dtype native
    on subject sid dtype native =
        let minor = minors link.server in
        λ i. notices_between subject (minor i) link sid dtype native (wanted_by subject dtype native (asks i)) (sub_at subject link.subscriptions)

    by : (state : LinkState) → interest_notices x link state ≡ interest_notices w link state
    by Creating = refl
    by Unusable = refl
    by (Connected sid dtype native) =
        let values = on Values sid dtype native in
        let properties = on Properties sid dtype native in
        λ i. values i ++ properties i

module _ (w x : Gateway) (touched : List ℕ → Bool) (beside : IsBesideOthers w x touched) where
  link_beside : (link : LinkRow) → touched link.name ≡ false → link_notices_of x link ≡ link_notices_of w link
  link_beside link other = link_alike w x link (beside.asks link.name other) beside.minors (beside.wanted link.name other)

  -- links of variables that weren't touched have no notice
  pub others_quiet : IsSettled w → All (λ (link : LinkRow). touched link.name ≡ false → link_notices_of x link ≡ []) w.upstream.links
  others_quiet settled =
      All-weaker (λ (link : LinkRow). link_notices_of w link ≡ []) (λ (link : LinkRow). touched link.name ≡ false → link_notices_of x link ≡ [])
      (λ link none other. link_beside link other ∙ none) w.upstream.links (nothing_told (link_notices_of w) w.upstream.links settled.links)

  pub links_touched : IsSettled w → link_notices x ≡ flat_map (link_notices_of x) (filter (λ (link : LinkRow). touched link.name) x.upstream.links)
  links_touched settled =
      touched_alone_flat (link_notices_of x) (λ (link : LinkRow). touched link.name) x.upstream.links
      (subst (λ (links : List LinkRow). All (λ (link : LinkRow). touched link.name ≡ false → link_notices_of x link ≡ []) links) (sym beside.links) (others_quiet settled))

module _ (w x : Gateway) (name : List ℕ) (beside : IsBesideOthers w x (is_name name)) where
  module _ (settled : IsSettled w) (apart : HasLinksApart w) where
    one_link : link_notices x ≡ link_notices_over x (link_of x name)
    one_link =
        ap (λ (links : List LinkRow). flat_map (link_notices_of x) links) beside.links
        ∙ touched_alone_flat (link_notices_of x) (is_named name) w.upstream.links (others_quiet w x (is_name name) beside settled)
        ∙ plan_of_one (link_notices_of x) (is_named name) w.upstream.links (apart name)
        ∙ over_is x (find (is_named name) w.upstream.links)
        ∙ sym (ap (λ (links : List LinkRow). link_notices_over x (find (is_named name) links)) beside.links)

    pub links_alone : links_told x ≡ link_told_on name x
    links_alone = ap (λ (notices : List LinkNotice). fold link_told x notices) one_link

    -- where the variable is wanted as before, its link stays
    module _ (stays : is_wanted w name ≡ true → is_wanted x name ≡ true) where
      wanted_as_before : (found : Option LinkRow) → link_of w name ≡ found → link_notices_over x found ≡ interest_notices_over x found
      wanted_as_before None is = refl
      wanted_as_before (Some link) is =
          let used : IsInUse w link = found_holds (IsInUse w) (is_named name) w.upstream.links link (all_in_use w settled) is in
          let named : link.name ≡ name = (bytes_eq-Decides link.name name).0 (found_passes (is_named name) w.upstream.links link is) in
          let still : is_wanted x link.name ≡ true = ap (is_wanted x) named ∙ stays (sym (ap (is_wanted w) named) ∙ used.wanted) in
          ap (λ (t : Bool). interest_notices x link link.state ++ cond t [] (Dropped link.server link.cid link.state ∷ [])) still
          ∙ append-nil (interest_notices x link link.state)

      pub interest_alone : links_told x ≡ interest_told name x
      interest_alone =
          let same : link_of x name ≡ link_of w name = ap (λ (links : List LinkRow). find (is_named name) links) beside.links in
          let plan : link_notices_over x (link_of x name) ≡ interest_notices_over x (link_of x name) =
          subst (λ (found : Option LinkRow). link_notices_over x found ≡ interest_notices_over x found) (sym same) (wanted_as_before (link_of w name) refl) in
          links_alone ∙ ap (λ (notices : List LinkNotice). fold link_told x notices) plan

-- ---- what the notices leave

interest_keeps_over : (x : Gateway) (found : Option LinkRow) → list_all keeps_links (interest_notices_over x found) ≡ true
interest_keeps_over x None = refl
interest_keeps_over x (Some link) = interest_keeps x link link.state

pub less_interest_told : (x : Gateway) (name : List ℕ) → GivesNoMore x (interest_told name x)
less_interest_told x name = less_links_told (interest_notices_over x (link_of x name)) x (interest_keeps_over x (link_of x name))

pub interest_told_clients : (x : Gateway) (name : List ℕ) → (interest_told name x).clients ≡ x.clients
interest_told_clients x name = ap (λ (v : Gateway). v.clients) (links_told_shape (interest_notices_over x (link_of x name)) x)

pub link_told_clients : (x : Gateway) (name : List ℕ) → (link_told_on name x).clients ≡ x.clients
link_told_clients x name = ap (λ (v : Gateway). v.clients) (links_told_shape (link_notices_over x (link_of x name)) x)

-- ---- the same where the links changed too

pub one_link_of : (x : Gateway) (name : List ℕ) → All (λ (link : LinkRow). is_named name link ≡ false → link_notices_of x link ≡ []) x.upstream.links
    → length (filter (is_named name) x.upstream.links) ≤ 1 → link_notices x ≡ link_notices_over x (link_of x name)
one_link_of x name others one =
    touched_alone_flat (link_notices_of x) (is_named name) x.upstream.links others
    ∙ plan_of_one (link_notices_of x) (is_named name) x.upstream.links one
    ∙ over_is x (link_of x name)

-- a link whose variable is wanted stays
pub stays_over : (x : Gateway) (name : List ℕ) → is_wanted x name ≡ true → (found : Option LinkRow) → link_of x name ≡ found → link_notices_over x found ≡ interest_notices_over x found
stays_over x name wanted None is = refl
stays_over x name wanted (Some link) is =
    let named : link.name ≡ name = (bytes_eq-Decides link.name name).0 (found_passes (is_named name) x.upstream.links link is) in
    ap (λ (t : Bool). interest_notices x link link.state ++ cond t [] (Dropped link.server link.cid link.state ∷ [])) (ap (is_wanted x) named ∙ wanted)
    ∙ append-nil (interest_notices x link link.state)
