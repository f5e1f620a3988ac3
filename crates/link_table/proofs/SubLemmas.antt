-- What the IDs of subscriptions lead to, on each of the two subjects.
use Rattle.std.proofs.Common.{◌≡◌, ◌≢◌, ℕ, List, [], ◌∷◌, ◌++◌, Bool, true, false, cond, ◌&&◌, ◌||◌, ◌==◌, Option, Some, None, is_some, refl, sym, ap, ◌∙◌}
use Rattle.std.specs.List.{find, filter, list_any}
use Rattle.std.specs.Option.{option_and_then}
use Rattle.std.proofs.lemmas.Bool.{false≢true, and_parts, and_from, or_parts, or_from, eqb-true, eq-eqb}
use Rattle.std.proofs.lemmas.Option.{same_Some}
use Rattle.row_index.specs.declared.key.Key.{Key}
use Rattle.row_index.specs.Rows.{same_key, lacks_key, value_at, put_at}
use Rattle.row_index.proofs.Keys.{same_key_flips}
use Rattle.link_table.specs.declared.links.LinkRow.{LinkRow}
use Rattle.link_table.specs.declared.links.Subject.{Subject}
use Rattle.link_table.specs.declared.links.Subject.TheVariants.{Values, Properties}
use Rattle.link_table.specs.declared.links.Subscription.{Subscription}
use Rattle.link_table.specs.Links.{is_of, is_link, has_id, sub_at, has_sub_to, has_subscription, has_other_sub, with_subscription, is_same_id}
use Rattle.link_table.specs.LinkIndex.{Leads, key, sub_key, sub_of, leads_at, with_leads, with_led, without_led, AreParted, IsFree, LeadEachWay, forgotten, told_at}
use Rattle.link_table.proofs.IndexLemmas.{silent_removed, same_put, told_removed, told_put, untold_put, retold_put}
use Rattle.link_table.proofs.ValueLemmas.{same_key_decides, value_of_added, value_beside_added, value_of_removed, value_beside_removed}

apart_subjects : Values ≢ Properties
apart_subjects same =
    let is_values : Subject → Bool = λ s. elim s as (λ _. Bool) [ Values ↦ true | Properties ↦ false ] in
    false≢true (sym (ap is_values same))

-- what a link says by its subscription on a subject
pub subscribed_tells : (subject : Subject) (server id : ℕ) (row : LinkRow) → has_sub_to subject server id row ≡ true → sub_of subject row ≡ Some (key id server)
subscribed_tells subject server id row h =
    elim (sub_at subject row.subscriptions) as (λ o. (row.server == server && has_id id o) ≡ true → sub_key row.server o ≡ Some (key id server)) [
      | None ↦ λ e. absurd (false≢true (and_parts (row.server == server) false e).1)
      | Some s ↦ λ e.
          let parts = and_parts (row.server == server) (s.id == id) e in
          let owner = eqb-true row.server server parts.0 in
          let same = eqb-true s.id id parts.1 in
          (λ i. Some (key (same i) (owner i)))
    ] h

pub subscribed_passes : (subject : Subject) (server id : ℕ) (row : LinkRow) → sub_of subject row ≡ Some (key id server) → has_sub_to subject server id row ≡ true
subscribed_passes subject server id row h =
    elim (sub_at subject row.subscriptions) as (λ o. sub_key row.server o ≡ Some (key id server) → (row.server == server && has_id id o) ≡ true) [
      | None ↦ λ e. cc
      | Some s ↦ λ e.
          let is : key s.id row.server ≡ key id server = same_Some (key s.id row.server) (key id server) e in
          and_from (row.server == server) (s.id == id) (eq-eqb row.server server (ap (λ k. k.id) is)) (eq-eqb s.id id (ap (λ k. k.owner) is))
    ] h

-- a subscription of the same ID has the same key
pub same_sub_key : (server : ℕ) (was sub : Option Subscription) → is_same_id was sub ≡ true → sub_key server sub ≡ sub_key server was
same_sub_key server was None same = absurd (false≢true same)
same_sub_key server None (Some s) same = absurd (false≢true same)
same_sub_key server (Some was) (Some s) same = ap (λ id. Some (key id server)) (sym (eqb-true was.id s.id same))

-- a link that has a subscription on one of two subjects
has_either : (subject : Subject) (server id : ℕ) (row : LinkRow) → has_sub_to subject server id row ≡ true → has_subscription server id row ≡ false → false ≡ true
has_either Values server id row has none = sym (or_parts (has_sub_to Values server id row) (has_sub_to Properties server id row) none).0 ∙ has
has_either Properties server id row has none = sym (or_parts (has_sub_to Values server id row) (has_sub_to Properties server id row) none).1 ∙ has

same_subject : (subject to : Subject) (server id : ℕ) (row : LinkRow) → has_sub_to to server id row ≡ true → has_subscription server id (with_subscription subject None row) ≡ false → has_id id (sub_at subject row.subscriptions) ≡ true
same_subject Values Values server id row has none = (and_parts (is_of server row) (has_id id row.subscriptions.values) has).1
same_subject Values Properties server id row has none = absurd (false≢true (has_either Properties server id (with_subscription Values None row) has none))
same_subject Properties Values server id row has none = absurd (false≢true (has_either Values server id (with_subscription Properties None row) has none))
same_subject Properties Properties server id row has none = (and_parts (is_of server row) (has_id id row.subscriptions.properties) has).1

-- a subscription that is no other's is the one of the link and the subject
pub its_own : (server cid : ℕ) (subject to : Subject) (id : ℕ) (row : LinkRow) → has_sub_to to server id row ≡ true → has_other_sub server cid subject id row ≡ false → (row.server ≡ server) × (row.cid ≡ cid) × (has_id id (sub_at subject row.subscriptions) ≡ true)
its_own server cid subject to id row has none =
    elim (is_link server cid row) as (λ t. is_link server cid row ≡ t → has_subscription server id (cond t (with_subscription subject None row) row) ≡ false → (row.server ≡ server) × (row.cid ≡ cid) × (has_id id (sub_at subject row.subscriptions) ≡ true)) [
      | true ↦ λ is h.
          let parts = and_parts (row.server == server) (row.cid == cid) is in
          (eqb-true row.server server parts.0, eqb-true row.cid cid parts.1, same_subject subject to server id row has h)
      | false ↦ λ is h. absurd (false≢true (has_either to server id row has h))
    ] refl none

not_without : (subject : Subject) (server id : ℕ) (row : LinkRow) → has_subscription server id row ≡ false → has_subscription server id (with_subscription subject None row) ≡ false
not_without subject server id row none =
    let parts = or_parts (has_sub_to Values server id row) (has_sub_to Properties server id row) none in
    let bare : (is_of server row && false) ≡ false = elim (is_of server row) as (λ t. (t && false) ≡ false) [ true ↦ refl | false ↦ refl ] in
    elim subject as (λ s. has_subscription server id (with_subscription s None row) ≡ false)
    [ Values ↦ or_from (is_of server row && false) (has_sub_to Properties server id row) bare parts.1 | Properties ↦ or_from (has_sub_to Values server id row) (is_of server row && false) parts.0 bare ]

-- an ID that no subscription has is no other's
pub none_other : (server cid : ℕ) (subject : Subject) (id : ℕ) (rows : List LinkRow) → list_any (has_subscription server id) rows ≡ false → list_any (has_other_sub server cid subject id) rows ≡ false
none_other server cid subject id [] none = refl
none_other server cid subject id (row ∷ rows) none =
    let parts = or_parts (has_subscription server id row) (list_any (has_subscription server id) rows) none in
    let here = elim (is_link server cid row) as (λ t. has_subscription server id (cond t (with_subscription subject None row) row) ≡ false)
    [ true ↦ not_without subject server id row parts.0 | false ↦ parts.0 ] in
    or_from (has_other_sub server cid subject id row) (list_any (has_other_sub server cid subject id) rows) here (none_other server cid subject id rows parts.1)

-- a link that has a subscription on either subject has it on one
pub has_one : (server id : ℕ) (row : LinkRow) → has_subscription server id row ≡ true → (subject : Subject) × (has_sub_to subject server id row ≡ true)
has_one server id row has =
    elim (has_sub_to Values server id row) as (λ t. has_sub_to Values server id row ≡ t → (t || has_sub_to Properties server id row) ≡ true → (subject : Subject) × (has_sub_to subject server id row ≡ true))
    [ true ↦ λ is h. (Values, is) | false ↦ λ is h. (Properties, h) ] refl has

-- what stays of a link's subscriptions without the one on a subject is on the other
pub on_another : (subject to : Subject) (server id : ℕ) (row : LinkRow) → has_sub_to to server id (with_subscription subject None row) ≡ true → (to ≢ subject) × (has_sub_to to server id row ≡ true)
on_another Values Values server id row has = absurd (false≢true (and_parts (is_of server row) false has).1)
on_another Values Properties server id row has = (λ same. apart_subjects (sym same), has)
on_another Properties Values server id row has = (λ same. apart_subjects same, has)
on_another Properties Properties server id row has = absurd (false≢true (and_parts (is_of server row) false has).1)

-- a key that leads on two subjects leads on one
pub one_subject : (leads : Leads) → AreParted leads → (to subject : Subject) (led x y : Key) → value_at led (leads_at to leads) ≡ Some x → value_at led (leads_at subject leads) ≡ Some y → to ≡ subject
one_subject leads parted Values Values led x y first second = refl
one_subject leads parted Values Properties led x y first second = absurd (false≢true (sym (parted led) ∙ (λ i. is_some (first i) && is_some (second i))))
one_subject leads parted Properties Values led x y first second = absurd (false≢true (sym (parted led) ∙ (λ i. is_some (second i) && is_some (first i))))
one_subject leads parted Properties Properties led x y first second = refl

-- the first that passes one of two tests, where none passes the other
module _ {A : Type 0} (p q : A → Bool) where
  pub found_either_first : (xs : List A) → find q xs ≡ None → find (λ x. p x || q x) xs ≡ find p xs
  found_either_first [] none = refl
  found_either_first (x ∷ xs) none =
      elim (q x) as (λ t. cond t (Some x) (find q xs) ≡ None → cond (p x || t) (Some x) (find (λ y. p y || q y) xs) ≡ cond (p x) (Some x) (find p xs)) [
        | true ↦ λ h. cc
        | false ↦ λ h. elim (p x) as (λ t. cond (t || false) (Some x) (find (λ y. p y || q y) xs) ≡ cond t (Some x) (find p xs)) [ true ↦ refl | false ↦ found_either_first xs h ]
      ] none

  pub found_either_second : (xs : List A) → find p xs ≡ None → find (λ x. p x || q x) xs ≡ find q xs
  found_either_second [] none = refl
  found_either_second (x ∷ xs) none =
      elim (p x) as (λ t. cond t (Some x) (find p xs) ≡ None → cond (t || q x) (Some x) (find (λ y. p y || q y) xs) ≡ cond (q x) (Some x) (find q xs)) [
        | true ↦ λ h. cc
        | false ↦ λ h. ap (λ o. cond (q x) (Some x) o) (found_either_second xs h)
      ] none

pub second_none : (v p : Option Key) (x : Key) → v ≡ Some x → (is_some v && is_some p) ≡ false → p ≡ None
second_none v None x there parted = refl
second_none v (Some y) x there parted = absurd (false≢true (sym parted ∙ ap (λ o. is_some o && true) there))

-- what subscriptions on a subject lead to, without a link
subs_with_fewer : (subject : Subject) (k : Key) (row : LinkRow) (led : Option Key) (links : List (Key × LinkRow)) (subs : List (Key × Key)) → LeadEachWay (told_at (sub_of subject) links) (λ j. value_at j subs) → value_at k links ≡ Some row → sub_of subject row ≡ led → LeadEachWay (told_at (sub_of subject) (filter (lacks_key k) links)) (λ j. value_at j (without_led led subs))
subs_with_fewer subject k row None links subs way there says = silent_removed (sub_of subject) k row links (λ j. value_at j subs) way there says
subs_with_fewer subject k row (Some j) links subs way there says =
    told_removed (sub_of subject) same_key same_key_decides k row j links (λ x. value_at x subs) (λ x. value_at x (filter (lacks_key j) subs)) way there says (value_of_removed j subs) (λ y h. value_beside_removed y j subs h)

-- two subscriptions of which one leads to a link and the other nowhere
apart_since : (i j k : Key) (subs : List (Key × Key)) → value_at i subs ≡ Some k → value_at j subs ≡ None → same_key j i ≡ false
apart_since i j k subs led free =
    elim (same_key j i) as (λ t. same_key j i ≡ t → t ≡ false)
    [ true ↦ λ h. let is : j ≡ i = (same_key_decides j i).0 h in let clash : None ≡ Some k = sym free ∙ ap (λ x. value_at x subs) is ∙ led in cc | false ↦ λ h. refl ] refl

-- with another subscription of a link
subs_with_put : (subject : Subject) (k : Key) (row new : LinkRow) (was led : Option Key) (links : List (Key × LinkRow)) (subs : List (Key × Key)) → LeadEachWay (told_at (sub_of subject) links) (λ j. value_at j subs) → value_at k links ≡ Some row → sub_of subject row ≡ was → sub_of subject new ≡ led → IsFree led subs → LeadEachWay (told_at (sub_of subject) (put_at k links new)) (λ j. value_at j (without_led was (with_led led k subs)))
subs_with_put subject k row new None None links subs way there said says free = same_put (sub_of subject) k row new links (λ j. value_at j subs) way there (says ∙ sym said)
subs_with_put subject k row new None (Some j) links subs way there said says free =
    told_put (sub_of subject) same_key same_key_decides k row new j links (λ x. value_at x subs) (λ x. value_at x (subs ++ (j, k) ∷ [])) way there said says free (value_of_added j k subs free) (λ y h. value_beside_added y j k subs h)
subs_with_put subject k row new (Some i) None links subs way there said says free =
    untold_put (sub_of subject) same_key same_key_decides k row new i links (λ x. value_at x subs) (λ x. value_at x (filter (lacks_key i) subs)) way there said says (value_of_removed i subs) (λ y h. value_beside_removed y i subs h)
subs_with_put subject k row new (Some i) (Some j) links subs way there said says free =
    let more = subs ++ (j, k) ∷ [] in
    let led : value_at i subs ≡ Some k = way.leads k i (ap (option_and_then (sub_of subject)) there ∙ said) in
    retold_put (sub_of subject) same_key same_key_decides k row new i j links (λ x. value_at x subs) (λ x. value_at x (filter (lacks_key i) more)) way there said says free (value_of_removed i more) (value_beside_removed j i more (apart_since i j k subs led free) ∙ value_of_added j k subs free) (λ y h other. value_beside_removed y i more h ∙ value_beside_added y j k subs other)

-- with another key on a subject, in place of the one that led
abbrev pub moved_leads : Subject → Option Key → Option Key → Key → Leads → Leads
moved_leads subject was led k leads = with_leads subject (without_led was (with_led led k (leads_at subject leads))) leads

-- a subscription of the same ID leaves what each subject says
pub kept_key : (subject to : Subject) (sub : Option Subscription) (row : LinkRow) → sub_key row.server sub ≡ sub_of subject row → sub_of to (with_subscription subject sub row) ≡ sub_of to row
kept_key Values Values sub row same = same
kept_key Values Properties sub row same = refl
kept_key Properties Values sub row same = refl
kept_key Properties Properties sub row same = same

module _ (links : List (Key × LinkRow)) (leads : Leads) (way : (subject : Subject) → LeadEachWay (told_at (sub_of subject) links) (λ j. value_at j (leads_at subject leads))) (k : Key) (row : LinkRow) (there : value_at k links ≡ Some row) where
  pub subs_without : (subject : Subject) → LeadEachWay (told_at (sub_of subject) (filter (lacks_key k) links)) (λ j. value_at j (leads_at subject (forgotten row.server row.subscriptions leads)))
  subs_without Values = subs_with_fewer Values k row (sub_of Values row) links leads.values (way Values) there refl
  subs_without Properties = subs_with_fewer Properties k row (sub_of Properties row) links leads.properties (way Properties) there refl

  -- another subscription on one subject leaves the other as it was
  pub subs_moved : (subject to : Subject) (sub : Option Subscription) → IsFree (sub_key row.server sub) (leads_at subject leads) → LeadEachWay (told_at (sub_of to) (put_at k links (with_subscription subject sub row))) (λ j. value_at j (leads_at to (moved_leads subject (sub_of subject row) (sub_key row.server sub) k leads)))
  subs_moved Values Values sub free = subs_with_put Values k row (with_subscription Values sub row) (sub_of Values row) (sub_key row.server sub) links leads.values (way Values) there refl refl free
  subs_moved Values Properties sub free = same_put (sub_of Properties) k row (with_subscription Values sub row) links (λ j. value_at j leads.properties) (way Properties) there refl
  subs_moved Properties Values sub free = same_put (sub_of Values) k row (with_subscription Properties sub row) links (λ j. value_at j leads.values) (way Values) there refl
  subs_moved Properties Properties sub free = subs_with_put Properties k row (with_subscription Properties sub row) (sub_of Properties row) (sub_key row.server sub) links leads.properties (way Properties) there refl refl free

none_left : (j : Key) (was : Option Key) (subs : List (Key × Key)) → value_at j subs ≡ None → value_at j (without_led was subs) ≡ None
none_left j None subs none = none
none_left j (Some i) subs none =
    elim (same_key j i) as (λ t. same_key j i ≡ t → value_at j (filter (lacks_key i) subs) ≡ None) [
      | true ↦ λ h. ap (λ x. value_at x (filter (lacks_key i) subs)) ((same_key_decides j i).0 h) ∙ value_of_removed i subs
      | false ↦ λ h. value_beside_removed j i subs h ∙ none
    ] refl

none_led : (j y : Key) (led : Option Key) (k : Key) (subs others : List (Key × Key)) → value_at j subs ≡ None → value_at j others ≡ Some y → IsFree led others → value_at j (with_led led k subs) ≡ None
none_led j y None k subs others none there free = none
none_led j y (Some l) k subs others none there free = value_beside_added j l k subs (same_key_flips j l ∙ apart_since j l y others there free) ∙ none

first_none : (o : Option Key) → (is_some o && true) ≡ false → o ≡ None
first_none None h = refl
first_none (Some x) h = absurd (false≢true (sym h))

flipped : (a b : Bool) → (a && b) ≡ false → (b && a) ≡ false
flipped true b h = ap (λ t. t && true) h
flipped false true h = refl
flipped false false h = refl

-- a key that leads nowhere else may lead on a subject
parted_beside : (j k : Key) (was led : Option Key) (subs others : List (Key × Key)) → IsFree led others → (is_some (value_at j subs) && is_some (value_at j others)) ≡ false → (is_some (value_at j (without_led was (with_led led k subs))) && is_some (value_at j others)) ≡ false
parted_beside j k was led subs others free parted =
    let new = without_led was (with_led led k subs) in
    elim (value_at j others) as (λ o. value_at j others ≡ o → (is_some (value_at j subs) && is_some o) ≡ false → (is_some (value_at j new) && is_some o) ≡ false) [
      | None ↦ λ e h. elim (is_some (value_at j new)) as (λ t. (t && false) ≡ false) [ true ↦ refl | false ↦ refl ]
      | Some y ↦ λ e h.
          let none = first_none (value_at j subs) h in
          ap (λ o. is_some o && true) (none_left j was (with_led led k subs) (none_led j y led k subs others none e free))
    ] refl parted

pub parted_moved : (subject : Subject) (was led : Option Key) (k : Key) (leads : Leads) → AreParted leads → ((to : Subject) → IsFree led (leads_at to leads)) → AreParted (moved_leads subject was led k leads)
parted_moved Values was led k leads parted free j = parted_beside j k was led leads.values leads.properties (free Properties) (parted j)
parted_moved Properties was led k leads parted free j =
    flipped (is_some (value_at j (without_led was (with_led led k leads.properties)))) (is_some (value_at j leads.values))
    (parted_beside j k was led leads.properties leads.values (free Values) (flipped (is_some (value_at j leads.values)) (is_some (value_at j leads.properties)) (parted j)))

pub parted_without : (row : LinkRow) (leads : Leads) → AreParted leads → AreParted (forgotten row.server row.subscriptions leads)
parted_without row leads parted j =
    let values = without_led (sub_of Values row) leads.values in
    let once = parted_beside j j (sub_of Values row) None leads.values leads.properties tt (parted j) in
    flipped (is_some (value_at j (without_led (sub_of Properties row) leads.properties))) (is_some (value_at j values))
    (parted_beside j j (sub_of Properties row) None leads.properties values tt (flipped (is_some (value_at j values)) (is_some (value_at j leads.properties)) once))
