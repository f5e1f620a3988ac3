-- The set of links stays indexed through each of its changes, and holds the links that it should.
use Rattle.std.proofs.Common.{◌≡◌, ℕ, List, [], ◌∷◌, ◌++◌, false, ◌&&◌, ◌==◌, Option, Some, None, is_some, map, refl, sym, ap, subst, ◌∙◌, true, cond}
use Rattle.std.specs.Prelude.{slice_get, IfSome}
use Rattle.std.specs.List.{find, filter, list_any}
use Rattle.std.specs.Option.{option_and_then, option_or, option_to_list}
use Rattle.std.proofs.lemmas.Bool.{false≢true, and_parts, and_from, eqb-true, eq-eqb}
use Rattle.std.proofs.lemmas.Option.{same_Some}
use Rattle.std.proofs.lemmas.Slice.Eq.{bytes_eq-Decides}
use Rattle.rows.specs.Rows.{change_first}
use Rattle.rows.proofs.RowLemmas.{change_first_unfound}
use Rattle.row_index.specs.declared.key.Key.{Key}
use Rattle.row_index.specs.Lists.{of, AddsTo, RemovesFrom, SameLists}
use Rattle.row_index.specs.Rows.{lacks_key, row_of, value_at, put_at}
use Rattle.row_index.proofs.Keys.{apart_with_more, apart_with_fewer, apart_with_put}
use Rattle.link_table.specs.declared.links.LinkRow.{LinkRow}
use Rattle.link_table.specs.declared.links.Subject.{Subject}
use Rattle.link_table.specs.declared.links.Subject.TheVariants.{Values, Properties}
use Rattle.link_table.specs.declared.links.Subscription.{Subscription}
use Rattle.link_table.specs.Links.{is_link, is_named, has_id, has_sub_to, has_subscription, has_other_sub, is_same_id, new_link, sub_at, with_subscription, HasIdsApart}
use Rattle.link_table.specs.Keyed.{entry_by}
use Rattle.link_table.specs.LinkIndex.{Leads, key, key_of, name_of, sub_key, sub_of, leads_at, led_by, IsFree, LeadEachWay, forgotten, renewed, told_at, first_of, AreIndexed}
use Rattle.link_table.proofs.IndexLemmas.{found_by_index, led_nowhere, silent_added, same_put, told_added, told_removed}
use Rattle.link_table.proofs.KeyedLemmas.{keyed_by, row_at, keyed_with_more, keyed_with_fewer, keyed_with_put, found_none, found_passes, found_at_its_key, is_some_found, none_at_a_key}
use Rattle.link_table.proofs.LeadsBackLemmas.{lead_as}
use Rattle.link_table.proofs.NameLemmas.{is_same, is_same_decides, first_of_added, first_beside_added, single_with_more, first_of_removed, first_beside_removed, single_with_fewer}
use Rattle.link_table.proofs.SubLemmas.{subscribed_tells, subscribed_passes, its_own, has_one, on_another, one_subject, found_either_first, found_either_second, second_none, moved_leads, subs_without, same_sub_key, kept_key, subs_moved, parted_moved, parted_without}

-- what a link says by its name
named_tells : (name : List ℕ) (row : LinkRow) → is_named name row ≡ true → name_of row ≡ Some name
named_tells name row h = ap Some ((bytes_eq-Decides row.name name).0 h)

named_passes : (name : List ℕ) (row : LinkRow) → name_of row ≡ Some name → is_named name row ≡ true
named_passes name row e = (bytes_eq-Decides row.name name).1 (same_Some row.name name e)

module _ (links : List (Key × LinkRow)) (keyed : links ≡ map (entry_by key_of) (map row_of links)) where
  -- a link stands under its own key
  pub key_at : (k : Key) (row : LinkRow) → value_at k links ≡ Some row → key_of row ≡ k
  key_at k row there =
      let passes = found_passes (is_link k.owner k.id) (map row_of links) row (sym (row_at key_of k links keyed) ∙ there) in
      let parts = and_parts (row.server == k.owner) (row.cid == k.id) passes in
      let owner = eqb-true row.server k.owner parts.0 in
      let id = eqb-true row.cid k.id parts.1 in
      (λ i. key (owner i) (id i))

  -- with the one under a key changed
  pub rows_with_put : (k : Key) (f : LinkRow → LinkRow) → ((row : LinkRow) → key_of (f row) ≡ key_of row) → (row : LinkRow) → value_at k links ≡ Some row → map row_of (put_at k links (f row)) ≡ change_first (is_link k.owner k.id) f (map row_of links)
  rows_with_put k f keeps row there = (keyed_by key_of _ _ (keyed_with_put key_of k f keeps row links keyed there)).1

  pub rows_with_none_put : (k : Key) (f : LinkRow → LinkRow) → value_at k links ≡ None → map row_of links ≡ change_first (is_link k.owner k.id) f (map row_of links)
  rows_with_none_put k f none = sym (change_first_unfound (is_link k.owner k.id) f (map row_of links) (sym (row_at key_of k links keyed) ∙ none))

module _ (links : List (Key × LinkRow)) (names : List (List ℕ × List Key)) (leads : Leads) (indexed : AreIndexed links names leads) where
  -- a name leads to the first link for it
  found_by_name : (name : List ℕ) → option_and_then (λ k. value_at k links) (first_of names name) ≡ find (is_named name) (map row_of links)
  found_by_name name = found_by_index name_of (is_named name) name (named_tells name) (named_passes name) links indexed.keyed indexed.apart (first_of names) indexed.by_name

  -- an ID leads on each subject to the first link whose subscription has it
  found_to : (subject : Subject) (server id : ℕ) → option_and_then (λ k. value_at k links) (value_at (key id server) (leads_at subject leads)) ≡ find (has_sub_to subject server id) (map row_of links)
  found_to subject server id = found_by_index (sub_of subject) (has_sub_to subject server id) (key id server) (subscribed_tells subject server id) (subscribed_passes subject server id) links indexed.keyed indexed.apart (λ k. value_at k (leads_at subject leads)) (indexed.by_sub subject)

  -- and on either to the first link of which a subscription has it
  found_by_sub : (server id : ℕ) → option_and_then (λ k. value_at k links) (led_by (key id server) leads) ≡ find (has_subscription server id) (map row_of links)
  found_by_sub server id =
      let k = key id server in
      let rows = map row_of links in
      let at : Key → Option LinkRow = λ x. value_at x links in
      elim (value_at k leads.values) as (λ v. value_at k leads.values ≡ v → option_and_then at (option_or v (value_at k leads.properties)) ≡ find (has_subscription server id) rows) [
        | None ↦ λ e. found_to Properties server id ∙ sym (found_either_second (has_sub_to Values server id) (has_sub_to Properties server id) rows (sym (found_to Values server id) ∙ ap (option_and_then at) e))
        | Some x ↦ λ e.
            let none : value_at k leads.properties ≡ None = second_none (value_at k leads.values) (value_at k leads.properties) x e (indexed.parted k) in
            ap (option_and_then at) (sym e) ∙ found_to Values server id ∙ sym (found_either_first (has_sub_to Values server id) (has_sub_to Properties server id) rows (sym (found_to Properties server id) ∙ ap (option_and_then at) none))
      ] refl

  -- the same, by the key that is found and what stands there
  pub named_at : (name : List ℕ) (led : Option Key) (found : Option LinkRow) → first_of names name ≡ led → found ≡ option_and_then (λ k. value_at k links) led → found ≡ find (is_named name) (map row_of links)
  named_at name led found e is = is ∙ ap (option_and_then (λ k. value_at k links)) (sym e) ∙ found_by_name name

  pub subscribed_at : (server id : ℕ) (led : Option Key) (found : Option LinkRow) → led_by (key id server) leads ≡ led → found ≡ option_and_then (λ k. value_at k links) led → found ≡ find (has_subscription server id) (map row_of links)
  subscribed_at server id led found e is = is ∙ ap (option_and_then (λ k. value_at k links)) (sym e) ∙ found_by_sub server id

  -- a name that no link has leads nowhere
  pub unnamed : (name : List ℕ) → list_any (is_named name) (map row_of links) ≡ false → first_of names name ≡ None
  unnamed name new = led_nowhere name_of (is_named name) name (named_passes name) links indexed.keyed (first_of names) indexed.by_name (found_none (is_named name) (map row_of links) new)

  -- where a link on a subject has no subscription of an ID, and nothing else has, that ID leads nowhere
  pub unused : (server cid : ℕ) (subject : Subject) (sub : Option Subscription) (row : LinkRow) → value_at (key server cid) links ≡ Some row → is_same_id (sub_at subject row.subscriptions) sub ≡ false → IfSome sub (λ s. list_any (has_other_sub server cid subject s.id) (map row_of links) ≡ false) → (to : Subject) → IsFree (sub_key server sub) (leads_at to leads)
  unused server cid subject None row there differs new to = tt
  unused server cid subject (Some s) row there differs new to =
      let k = key s.id server in
      elim (value_at k (leads_at to leads)) as (λ o. value_at k (leads_at to leads) ≡ o → o ≡ None) [
        | None ↦ λ e. refl
        | Some x ↦ λ e.
            let said : told_at (sub_of to) links x ≡ Some k = (indexed.by_sub to).is_led_to k x e in
            elim (value_at x links) as (λ o. value_at x links ≡ o → option_and_then (sub_of to) o ≡ Some k → Some x ≡ None) [
              | None ↦ λ none is. cc
              | Some other ↦ λ at is.
                  let has = subscribed_passes to server s.id other is in
                  let fails = none_at_a_key key_of (has_other_sub server cid subject s.id) x links other indexed.keyed (found_none (has_other_sub server cid subject s.id) (map row_of links) new) at in
                  let own = its_own server cid subject to s.id other has fails in
                  let its : x ≡ key server cid = sym (key_at links indexed.keyed x other at) ∙ (λ i. key (own.0 i) (own.1 i)) in
                  let same : other ≡ row = same_Some other row (sym at ∙ ap (λ y. value_at y links) its ∙ there) in
                  absurd (false≢true (sym differs ∙ ap (λ (r : LinkRow). has_id s.id (sub_at subject r.subscriptions)) (sym same) ∙ own.2))
            ] refl said
      ] refl

module _ (links : List (Key × LinkRow)) (names : List (List ℕ × List Key)) (leads : Leads) (indexed : AreIndexed links names leads) where
  leads_there : (subject : Subject) (server id : ℕ) (row : LinkRow) → value_at (key_of row) links ≡ Some row → has_sub_to subject server id row ≡ true → value_at (key id server) (leads_at subject leads) ≡ Some (key_of row)
  leads_there subject server id row there has =
      (indexed.by_sub subject).leads (key_of row) (key id server) (ap (option_and_then (sub_of subject)) there ∙ subscribed_tells subject server id row has)

  -- a link that has an ID beside a subscription of that ID is another, and so on another subject
  none_beside : (server cid : ℕ) (subject : Subject) (id : ℕ) (row other : LinkRow) → is_link server cid row ≡ true → value_at (key_of row) links ≡ Some row → has_sub_to subject server id row ≡ true → value_at (key_of other) links ≡ Some other → has_other_sub server cid subject id other ≡ true → false ≡ true
  none_beside server cid subject id row other its there has at beside =
      let led = leads_there subject server id row there has in
      elim (is_link server cid other) as (λ t. is_link server cid other ≡ t → has_subscription server id (cond t (with_subscription subject None other) other) ≡ true → false ≡ true) [
        | true ↦ λ is h.
            let one = has_one server id (with_subscription subject None other) h in
            let on = on_another subject one.0 server id other one.1 in
            absurd (on.0 (one_subject leads indexed.parted one.0 subject (key id server) (key_of other) (key_of row) (leads_there one.0 server id other at on.1) led))
        | false ↦ λ is h.
            let one = has_one server id other h in
            let to = leads_there one.0 server id other at one.1 in
            let same = one_subject leads indexed.parted one.0 subject (key id server) (key_of other) (key_of row) to led in
            let alike : key_of other ≡ key_of row = same_Some (key_of other) (key_of row) (sym to ∙ ap (λ s. value_at (key id server) (leads_at s leads)) same ∙ led) in
            sym is ∙ ap (λ (k : Key). k.owner == server && k.id == cid) alike ∙ its
      ] refl beside

  -- no other subscription to a server has the ID of a present one
  pub ids_apart : HasIdsApart (map row_of links)
  ids_apart server cid subject =
      let rows = map row_of links in
      let at : LinkRow → Option Subscription = λ row. sub_at subject row.subscriptions in
      let P : Option Subscription → Type 0 = λ o. IfSome o (λ sub. list_any (has_other_sub server cid subject sub.id) rows ≡ false) in
      elim (find (is_link server cid) rows) as (λ o. find (is_link server cid) rows ≡ o → P (option_and_then at o)) [
        | None ↦ λ e. tt
        | Some row ↦ λ e.
            elim (at row) as (λ o. at row ≡ o → P o) [
              | None ↦ λ is. tt
              | Some s ↦ λ is.
                  let here = found_at_its_key key_of (is_link server cid) links row indexed.keyed indexed.apart e in
                  let p = has_other_sub server cid subject s.id in
                  let has : has_sub_to subject server s.id row ≡ true = and_from (row.server == server) (has_id s.id (at row)) (and_parts (row.server == server) (row.cid == cid) here.1).0 (ap (has_id s.id) is ∙ eq-eqb s.id s.id refl) in
                  elim (find p rows) as (λ o. find p rows ≡ o → list_any p rows ≡ false) [
                    | None ↦ λ none. sym (is_some_found p rows) ∙ ap is_some none
                    | Some other ↦ λ found.
                        let there = found_at_its_key key_of p links other indexed.keyed indexed.apart found in
                        absurd (false≢true (none_beside server cid subject s.id row other here.1 here.0 has there.0 there.1))
                  ] refl
            ] refl
      ] refl

-- a new link has no subscription
pub bare : (server cid : ℕ) (name : List ℕ) (subject : Subject) → sub_of subject (new_link server cid name) ≡ None
bare server cid name Values = refl
bare server cid name Properties = refl

nothing_led : (subject : Subject) → LeadEachWay (told_at (sub_of subject) []) (λ k. value_at k (leads_at subject (record { values = []; properties = [] })))
nothing_led Values = record { leads = λ k j e. cc; is_led_to = λ j k e. cc }
nothing_led Properties = record { leads = λ k j e. cc; is_led_to = λ j k e. cc }

-- no link
pub indexed_none : (names : List (List ℕ × List Key)) → ((name : List ℕ) → of names name ≡ []) → AreIndexed [] names (record { values = []; properties = [] })
indexed_none names none = record {
  apart = tt;
  keyed = refl;
  single = λ name. none name ∙ ap (λ keys. option_to_list (slice_get keys 0)) (sym (none name));
  by_name = record {
    leads = λ k name e. cc;
    is_led_to = λ name k e. let clash : None ≡ Some k = ap (λ keys. slice_get keys 0) (sym (none name)) ∙ e in cc;
  };
  by_sub = nothing_led;
  parted = λ k. refl;
}

module _ (links : List (Key × LinkRow)) (names names' : List (List ℕ × List Key)) (leads : Leads) (indexed : AreIndexed links names leads) where
  -- a link more, with a new key and name, and no subscription
  pub indexed_with_more : (row : LinkRow) → value_at (key_of row) links ≡ None → first_of names row.name ≡ None → ((subject : Subject) → sub_of subject row ≡ None) → AddsTo row.name (key_of row) names names' → AreIndexed (links ++ (key_of row, row) ∷ []) names' leads
  indexed_with_more row new unnamed bare adds = record {
    apart = apart_with_more links (key_of row) row new indexed.apart;
    keyed = (keyed_by key_of _ _ (keyed_with_more key_of links row indexed.keyed)).0;
    single = single_with_more row.name (key_of row) names names' indexed.single unnamed adds;
    by_name = told_added name_of is_same is_same_decides (key_of row) row row.name links (first_of names) (first_of names') indexed.by_name new refl unnamed (first_of_added row.name (key_of row) names names' indexed.single unnamed adds) (first_beside_added row.name (key_of row) names names' adds);
    by_sub = λ subject. silent_added (sub_of subject) (key_of row) row links (λ k. value_at k (leads_at subject leads)) (indexed.by_sub subject) new (bare subject);
    parted = indexed.parted;
  }

  -- without the link under a key
  pub indexed_with_fewer : (k : Key) (row : LinkRow) → value_at k links ≡ Some row → RemovesFrom row.name k names names' → AreIndexed (filter (lacks_key k) links) names' (forgotten row.server row.subscriptions leads)
  indexed_with_fewer k row there removes =
      let led : first_of names row.name ≡ Some k = indexed.by_name.leads k row.name (ap (option_and_then name_of) there) in
      record {
        apart = apart_with_fewer (lacks_key k) links indexed.apart;
        keyed = (keyed_by key_of _ _ (keyed_with_fewer key_of k links indexed.keyed)).0;
        single = single_with_fewer row.name k names names' indexed.single led removes;
        by_name = told_removed name_of is_same is_same_decides k row row.name links (first_of names) (first_of names') indexed.by_name there refl (first_of_removed row.name k names names' indexed.single led removes) (first_beside_removed row.name k names names' removes);
        by_sub = subs_without links leads indexed.by_sub k row there;
        parted = parted_without row leads indexed.parted;
      }

module _ (links : List (Key × LinkRow)) (names : List (List ℕ × List Key)) (leads : Leads) (indexed : AreIndexed links names leads) where
  -- the link under a key with another subscription on a subject
  pub indexed_with_sub : (k : Key) (subject : Subject) (sub : Option Subscription) (row : LinkRow) → value_at k links ≡ Some row → ((to : Subject) → IsFree (sub_key row.server sub) (leads_at to leads)) → AreIndexed (put_at k links (with_subscription subject sub row)) names (moved_leads subject (sub_of subject row) (sub_key row.server sub) k leads)
  indexed_with_sub k subject sub row there free = record {
    apart = apart_with_put k links (with_subscription subject sub row) indexed.apart;
    keyed = (keyed_by key_of _ _ (keyed_with_put key_of k (with_subscription subject sub) (λ x. refl) row links indexed.keyed there)).0;
    single = indexed.single;
    by_name = same_put name_of k row (with_subscription subject sub row) links (first_of names) indexed.by_name there refl;
    by_sub = λ to. subs_moved links leads indexed.by_sub k row there subject to sub (free subject);
    parted = parted_moved subject (sub_of subject row) (sub_key row.server sub) k leads indexed.parted free;
  }

  -- the link under a key changed, but for its key, its name and the IDs of its subscriptions
  pub indexed_with_kept : (k : Key) (f : LinkRow → LinkRow) → ((row : LinkRow) → key_of (f row) ≡ key_of row) → (row : LinkRow) → (f row).name ≡ row.name → ((subject : Subject) → sub_of subject (f row) ≡ sub_of subject row) → value_at k links ≡ Some row → AreIndexed (put_at k links (f row)) names leads
  indexed_with_kept k f keeps row named same there = record {
    apart = apart_with_put k links (f row) indexed.apart;
    keyed = (keyed_by key_of _ _ (keyed_with_put key_of k f keeps row links indexed.keyed there)).0;
    single = indexed.single;
    by_name = same_put name_of k row (f row) links (first_of names) indexed.by_name there (ap Some named);
    by_sub = λ subject. same_put (sub_of subject) k row (f row) links (λ j. value_at j (leads_at subject leads)) (indexed.by_sub subject) there (same subject);
    parted = indexed.parted;
  }

  -- the same, also where the ID is the one that it had
  pub indexed_with_renewed : (k : Key) (subject : Subject) (sub : Option Subscription) (row : LinkRow) → value_at k links ≡ Some row → row.server ≡ k.owner → (is_same_id (sub_at subject row.subscriptions) sub ≡ false → (to : Subject) → IsFree (sub_key k.owner sub) (leads_at to leads)) → AreIndexed (put_at k links (with_subscription subject sub row)) names (renewed subject (sub_at subject row.subscriptions) sub k leads)
  indexed_with_renewed k subject sub row there own free =
      let was = sub_at subject row.subscriptions in
      let new = with_subscription subject sub row in
      elim (is_same_id was sub) as (λ t. is_same_id was sub ≡ t → AreIndexed (put_at k links new) names (cond t leads (moved_leads subject (sub_key k.owner was) (sub_key k.owner sub) k leads))) [
        | true ↦ λ h. indexed_with_kept k (with_subscription subject sub) (λ x. refl) row refl (λ to. kept_key subject to sub row (same_sub_key row.server was sub h)) there
        | false ↦ λ h.
            let P : ℕ → Type 0 = λ server. AreIndexed (put_at k links new) names (moved_leads subject (sub_key server was) (sub_key server sub) k leads) in
            subst P own (indexed_with_sub k subject sub row there (λ to. subst (λ server. IsFree (sub_key server sub) (leads_at to leads)) (sym own) (free h to)))
      ] refl

-- lists of names in which each name has the same keys
pub indexed_as : (links : List (Key × LinkRow)) (names names' : List (List ℕ × List Key)) (leads : Leads) → AreIndexed links names leads → SameLists names names' → AreIndexed links names' leads
indexed_as links names names' leads indexed same =
    let first : (n : List ℕ) → first_of names' n ≡ first_of names n = λ n. ap (λ keys. slice_get keys 0) (same n) in
    record {
      apart = indexed.apart;
      keyed = indexed.keyed;
      single = λ n. same n ∙ indexed.single n ∙ ap option_to_list (sym (first n));
      by_name = lead_as (told_at name_of links) (told_at name_of links) (first_of names) (first_of names') indexed.by_name (λ k. refl) first;
      by_sub = indexed.by_sub;
      parted = indexed.parted;
    }
