-- Subscriptions to a server keep different IDs as links get and lose them.
use Rattle.std.proofs.Common.{◌≡◌, ℕ, ◌≤◌, List, [], ◌∷◌, Bool, true, false, cond, eqb, not, ◌||◌, ◌&&◌, Option, Some, None, refl, sym, ap, ◌∙◌, arith}
use Rattle.std.specs.List.{list_all, list_any}
use Rattle.std.proofs.lemmas.Bool.{and_from, and_parts, and_right, eq-eqb, eqb-true, lt-ltb, ltb-true, or_from, or_parts}
use Rattle.rows.specs.Rows.{change_first}
use Rattle.link_table.specs.declared.links.LinkRow.{LinkRow}
use Rattle.link_table.specs.declared.links.LinkState.{LinkState}
use Rattle.link_table.specs.declared.links.Subject.{Subject}
use Rattle.link_table.specs.declared.links.Subject.TheVariants.{Values, Properties}
use Rattle.link_table.specs.declared.links.Subscription.{Subscription}
use Rattle.link_table.specs.Links.{has_id, is_link, is_same_id, new_link, with_state, with_subscription}
use Rattle.link_table.specs.Numbers.{has_id_below, is_sub_below}
use Rattle.gateway_state.specs.Settled.{AreUnlike, has_two_ids, is_sharing, shares_id}
use Rattle.gateway_state.proofs.RowTests.{all_weaker, none_weaker}
use Rattle.gateway_state.proofs.UnlikeRows.{both_swapped}

-- IDS BELOW

below_more : (next after : ℕ) (sub : Option Subscription) → next ≤ after → is_sub_below next sub ≡ true → is_sub_below after sub ≡ true
below_more next after None rises below = refl
below_more next after (Some sub) rises below = lt-ltb sub.id after (omega (arith, rises, ltb-true sub.id next below))

pub all_below_more : (next after : ℕ) (links : List LinkRow) → next ≤ after → list_all (has_id_below next) links ≡ true → list_all (has_id_below after) links ≡ true
all_below_more next after links rises below =
    all_weaker (has_id_below next) (has_id_below after) links
    (λ link is.
    let parts = and_parts (is_sub_below next link.subscriptions.values) (is_sub_below next link.subscriptions.properties) is in
    and_from (is_sub_below after link.subscriptions.values) (is_sub_below after link.subscriptions.properties)
    (below_more next after link.subscriptions.values rises parts.0) (below_more next after link.subscriptions.properties rises parts.1)) below

-- with one of them replaced by one below, both are below
put_below : (subject : Subject) (next : ℕ) (sub : Option Subscription) (link : LinkRow) → is_sub_below next sub ≡ true → has_id_below next link ≡ true → has_id_below next (with_subscription subject sub link) ≡ true
put_below Values next sub link new below =
    and_from (is_sub_below next sub) (is_sub_below next link.subscriptions.properties) new (and_parts (is_sub_below next link.subscriptions.values) (is_sub_below next link.subscriptions.properties) below).1
put_below Properties next sub link new below =
    and_from (is_sub_below next link.subscriptions.values) (is_sub_below next sub) (and_parts (is_sub_below next link.subscriptions.values) (is_sub_below next link.subscriptions.properties) below).0 new

-- a link gets a subscription below, or loses it
pub ids_of_put : (subject : Subject) (links : List LinkRow) (test : LinkRow → Bool) (next : ℕ) (sub : Option Subscription) → is_sub_below next sub ≡ true → list_all (has_id_below next) links ≡ true
    → list_all (has_id_below next) (change_first test (with_subscription subject sub) links) ≡ true
ids_of_put subject [] test next sub new below = refl
ids_of_put subject (link ∷ links) test next sub new below =
    let parts = and_parts (has_id_below next link) (list_all (has_id_below next) links) below in
    elim (test link) as (λ t. list_all (has_id_below next) (cond t (with_subscription subject sub link ∷ links) (link ∷ change_first test (with_subscription subject sub) links)) ≡ true) [
      | true ↦
          and_from (has_id_below next (with_subscription subject sub link)) (list_all (has_id_below next) links) (put_below subject next sub link new parts.0) parts.1
      | false ↦
          and_from (has_id_below next link) (list_all (has_id_below next) (change_first test (with_subscription subject sub) links)) parts.0
          (ids_of_put subject links test next sub new parts.1)
    ]

-- IDS THAT ARE SHARED

-- two subscriptions of links of these servers are to one server, under one ID
abbrev meets : ℕ → Option Subscription → ℕ → Option Subscription → Bool
meets server None other sub = false
meets server (Some own) other sub = eqb other server && has_id own.id sub

meets_swapped : (server : ℕ) (own : Option Subscription) (other : ℕ) (sub : Option Subscription) → meets server own other sub ≡ meets other sub server own
meets_swapped server None other None = refl
meets_swapped server None other (Some sub) = sym (and_right (eqb server other) false refl)
meets_swapped server (Some own) other None = and_right (eqb other server) false refl
meets_swapped server (Some own) other (Some sub) = both_swapped other server sub.id own.id

sharing_is : (server : ℕ) (own : Option Subscription) (other : LinkRow)
    → is_sharing server own other ≡ (meets server own other.server other.subscriptions.values || meets server own other.server other.subscriptions.properties)
sharing_is server None other = refl
sharing_is server (Some own) other = refl

sharing_parts : (server : ℕ) (own : Option Subscription) (other : LinkRow) → is_sharing server own other ≡ false
    → (meets server own other.server other.subscriptions.values ≡ false) × (meets server own other.server other.subscriptions.properties ≡ false)
sharing_parts server own other none =
    or_parts (meets server own other.server other.subscriptions.values) (meets server own other.server other.subscriptions.properties) (sym (sharing_is server own other) ∙ none)

-- a subscription that meets none of a link's doesn't meet it once it has another that it doesn't meet
sharing_put : (subject : Subject) (server : ℕ) (own new : Option Subscription) (other : LinkRow) → meets other.server new server own ≡ false → is_sharing server own other ≡ false
    → is_sharing server own (with_subscription subject new other) ≡ false
sharing_put Values server own new other apart none =
    sharing_is server own (with_subscription Values new other)
    ∙ or_from (meets server own other.server new) (meets server own other.server other.subscriptions.properties)
    (meets_swapped server own other.server new ∙ apart) (sharing_parts server own other none).1
sharing_put Properties server own new other apart none =
    sharing_is server own (with_subscription Properties new other)
    ∙ or_from (meets server own other.server other.subscriptions.values) (meets server own other.server new)
    (sharing_parts server own other none).0 (meets_swapped server own other.server new ∙ apart)

shares_put : (subject : Subject) (new : Option Subscription) (link other : LinkRow) → is_sharing other.server new link ≡ false → shares_id link other ≡ false
    → shares_id link (with_subscription subject new other) ≡ false
shares_put subject new link other apart none =
    let values : Option Subscription = link.subscriptions.values in
    let properties : Option Subscription = link.subscriptions.properties in
    let own = sharing_parts other.server new link apart in
    let was = or_parts (is_sharing link.server values other) (is_sharing link.server properties other) none in
    or_from (is_sharing link.server values (with_subscription subject new other)) (is_sharing link.server properties (with_subscription subject new other))
    (sharing_put subject link.server values new other own.0 was.0) (sharing_put subject link.server properties new other own.1 was.1)

-- a later link gets a subscription that meets none of this one's
later_put : (subject : Subject) (server cid : ℕ) (new : Option Subscription) (link : LinkRow) (rows : List LinkRow) → is_sharing server new link ≡ false → list_any (shares_id link) rows ≡ false
    → list_any (shares_id link) (change_first (is_link server cid) (with_subscription subject new) rows) ≡ false
later_put subject server cid new link [] apart none = refl
later_put subject server cid new link (row ∷ rows) apart none = by (is_link server cid row) refl (later_put subject server cid new link rows apart parts.1)
  where
    parts : (shares_id link row ≡ false) × (list_any (shares_id link) rows ≡ false)
    parts = or_parts (shares_id link row) (list_any (shares_id link) rows) none

    by : (is : Bool) → is_link server cid row ≡ is → list_any (shares_id link) (change_first (is_link server cid) (with_subscription subject new) rows) ≡ false
        → list_any (shares_id link) (cond is (with_subscription subject new row ∷ rows) (row ∷ change_first (is_link server cid) (with_subscription subject new) rows)) ≡ false
    by true e rest =
        let same : row.server ≡ server = eqb-true row.server server (and_parts (eqb row.server server) (eqb row.cid cid) e).0 in
        or_from (shares_id link (with_subscription subject new row)) (list_any (shares_id link) rows)
        (shares_put subject new link row (ap (λ (n : ℕ). is_sharing n new link) same ∙ apart) parts.0) parts.1
    by false e rest = or_from (shares_id link row) (list_any (shares_id link) (change_first (is_link server cid) (with_subscription subject new) rows)) parts.0 rest

none_of_either : (first second : LinkRow → Bool) (rows : List LinkRow) → list_any first rows ≡ false → list_any second rows ≡ false → list_any (λ (row : LinkRow). first row || second row) rows ≡ false
none_of_either first second [] one other = refl
none_of_either first second (row ∷ rows) one other =
    let parts = or_parts (first row) (list_any first rows) one in
    let others = or_parts (second row) (list_any second rows) other in
    or_from (first row || second row) (list_any (λ (x : LinkRow). first x || second x) rows) (or_from (first row) (second row) parts.0 others.0)
    (none_of_either first second rows parts.1 others.1)

-- a link gets a subscription that meets none of later links
first_put : (subject : Subject) (new : Option Subscription) (link : LinkRow) (rows : List LinkRow) → list_any (is_sharing link.server new) rows ≡ false → list_any (shares_id link) rows ≡ false
    → list_any (shares_id (with_subscription subject new link)) rows ≡ false
first_put Values new link rows apart none =
    none_of_either (is_sharing link.server new) (is_sharing link.server link.subscriptions.properties) rows apart
    (none_weaker (shares_id link) (is_sharing link.server link.subscriptions.properties) rows
    (λ row is. (or_parts (is_sharing link.server link.subscriptions.values row) (is_sharing link.server link.subscriptions.properties row) is).1) none)
first_put Properties new link rows apart none =
    none_of_either (is_sharing link.server link.subscriptions.values) (is_sharing link.server new) rows
    (none_weaker (shares_id link) (is_sharing link.server link.subscriptions.values) rows
    (λ row is. (or_parts (is_sharing link.server link.subscriptions.values row) (is_sharing link.server link.subscriptions.properties row) is).0) none) apart

-- IDs stay apart where a link gets a subscription that meets none, or loses one
pub unlike_put : (subject : Subject) (server cid : ℕ) (new : Option Subscription) (rows : List LinkRow) → list_any (is_sharing server new) rows ≡ false → AreUnlike shares_id rows
    → AreUnlike shares_id (change_first (is_link server cid) (with_subscription subject new) rows)
unlike_put subject server cid new [] none apart = apart
unlike_put subject server cid new (row ∷ rows) none apart = by (is_link server cid row) refl (unlike_put subject server cid new rows parts.1 apart.1)
  where
    parts : (is_sharing server new row ≡ false) × (list_any (is_sharing server new) rows ≡ false)
    parts = or_parts (is_sharing server new row) (list_any (is_sharing server new) rows) none

    by : (is : Bool) → is_link server cid row ≡ is → AreUnlike shares_id (change_first (is_link server cid) (with_subscription subject new) rows)
        → AreUnlike shares_id (cond is (with_subscription subject new row ∷ rows) (row ∷ change_first (is_link server cid) (with_subscription subject new) rows))
    by true e rest =
        let same : row.server ≡ server = eqb-true row.server server (and_parts (eqb row.server server) (eqb row.cid cid) e).0 in
        (first_put subject new row rows (ap (λ (n : ℕ). list_any (is_sharing n new) rows) same ∙ parts.1) apart.0, apart.1)
    by false e rest = (later_put subject server cid new row rows parts.0 apart.0, rest)

-- a link's own two
own_apart : (server : ℕ) (a b : Option Subscription) → meets server a server b ≡ false → is_same_id b a ≡ false
own_apart server None b apart = refl
own_apart server (Some a) b apart = by (eqb server server) (eq-eqb server server refl) apart
  where
    by : (is : Bool) → is ≡ true → (is && has_id a.id b) ≡ false → has_id a.id b ≡ false
    by true e none = none
    by false e none = absurd cc

two_put : (subject : Subject) (new : Option Subscription) (link : LinkRow) → is_sharing link.server new link ≡ false → has_two_ids (with_subscription subject new link) ≡ true
two_put Values new link none =
    let other : Option Subscription = link.subscriptions.properties in
    ap not (own_apart link.server other new (meets_swapped link.server other link.server new ∙ (sharing_parts link.server new link none).1))
two_put Properties new link none = ap not (own_apart link.server new link.subscriptions.values (sharing_parts link.server new link none).0)

pub own_put : (subject : Subject) (server cid : ℕ) (new : Option Subscription) (rows : List LinkRow) → list_any (is_sharing server new) rows ≡ false → list_all has_two_ids rows ≡ true
    → list_all has_two_ids (change_first (is_link server cid) (with_subscription subject new) rows) ≡ true
own_put subject server cid new [] none own = refl
own_put subject server cid new (row ∷ rows) none own = by (is_link server cid row) refl (own_put subject server cid new rows parts.1 own_parts.1)
  where
    parts : (is_sharing server new row ≡ false) × (list_any (is_sharing server new) rows ≡ false)
    parts = or_parts (is_sharing server new row) (list_any (is_sharing server new) rows) none

    own_parts : (has_two_ids row ≡ true) × (list_all has_two_ids rows ≡ true)
    own_parts = and_parts (has_two_ids row) (list_all has_two_ids rows) own

    by : (is : Bool) → is_link server cid row ≡ is → list_all has_two_ids (change_first (is_link server cid) (with_subscription subject new) rows) ≡ true
        → list_all has_two_ids (cond is (with_subscription subject new row ∷ rows) (row ∷ change_first (is_link server cid) (with_subscription subject new) rows)) ≡ true
    by true e rest =
        let same : row.server ≡ server = eqb-true row.server server (and_parts (eqb row.server server) (eqb row.cid cid) e).0 in
        and_from (has_two_ids (with_subscription subject new row)) (list_all has_two_ids rows) (two_put subject new row (ap (λ (n : ℕ). is_sharing n new row) same ∙ parts.0)) own_parts.1
    by false e rest = and_from (has_two_ids row) (list_all has_two_ids (change_first (is_link server cid) (with_subscription subject new) rows)) own_parts.0 rest

-- no subscription meets none
pub none_meets_none : (server : ℕ) (rows : List LinkRow) → list_any (is_sharing server None) rows ≡ false
none_meets_none server [] = refl
none_meets_none server (row ∷ rows) = none_meets_none server rows

-- LINKS WHOSE SUBSCRIPTIONS STAY

sharing_in_state : (server : ℕ) (own : Option Subscription) (state : LinkState) (rights : ℕ) (other : LinkRow) → is_sharing server own (with_state state rights other) ≡ is_sharing server own other
sharing_in_state server None state rights other = refl
sharing_in_state server (Some own) state rights other = refl

pub shares_in_state : (state : LinkState) (rights : ℕ) (link other : LinkRow) → shares_id link (with_state state rights other) ≡ shares_id link other
shares_in_state state rights link other =
    let first = sharing_in_state link.server link.subscriptions.values state rights other in
    let second = sharing_in_state link.server link.subscriptions.properties state rights other in
    λ i. first i || second i

sharing_new : (at : ℕ) (own : Option Subscription) (server cid : ℕ) (name : List ℕ) → is_sharing at own (new_link server cid name) ≡ false
sharing_new at None server cid name = refl
sharing_new at (Some own) server cid name =
    or_from (eqb server at && false) (eqb server at && false) (and_right (eqb server at) false refl) (and_right (eqb server at) false refl)

-- a new link has no subscription
pub none_shares_new : (server cid : ℕ) (name : List ℕ) (rows : List LinkRow) → list_any (λ (row : LinkRow). shares_id row (new_link server cid name)) rows ≡ false
none_shares_new server cid name [] = refl
none_shares_new server cid name (row ∷ rows) =
    or_from (shares_id row (new_link server cid name)) (list_any (λ (x : LinkRow). shares_id x (new_link server cid name)) rows)
    (or_from (is_sharing row.server row.subscriptions.values (new_link server cid name)) (is_sharing row.server row.subscriptions.properties (new_link server cid name))
    (sharing_new row.server row.subscriptions.values server cid name) (sharing_new row.server row.subscriptions.properties server cid name))
    (none_shares_new server cid name rows)
