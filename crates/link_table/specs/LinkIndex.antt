-- How links are found: the key of each, and what leads from a name or a subscription to it.
use Rattle.std.specs.Prelude.{◌≡◌, ℕ, List, [], ◌∷◌, ◌++◌, false, ◌&&◌, Option, Some, None, map, slice_get, IfSome, if◌then◌else◌}
use Rattle.std.specs.List.{filter}
use Rattle.std.specs.Option.{option_and_then, option_or, option_to_list, is_some}
use Rattle.row_index.specs.declared.key.Key.{Key}
use Rattle.row_index.specs.Lists.{of}
use Rattle.row_index.specs.Rows.{row_of, value_at, lacks_key, HasKeysApart}
use Rattle.link_table.specs.declared.links.LinkRow.{LinkRow}
use Rattle.link_table.specs.declared.links.Subject.{Subject}
use Rattle.link_table.specs.declared.links.Subject.TheVariants.{Values, Properties}
use Rattle.link_table.specs.declared.links.Subscription.{Subscription}
use Rattle.link_table.specs.declared.links.Subscriptions.{Subscriptions}
use Rattle.link_table.specs.Keyed.{entry_by}
use Rattle.link_table.specs.Links.{is_same_id, sub_at}

-- the key of a row of this owner with this ID
abbrev pub key : ℕ → ℕ → Key
key owner id = record { owner = owner; id = id }

-- the key of a link: its server and its ID
abbrev pub key_of : LinkRow → Key
key_of row = key row.server row.cid

-- the name of a link
abbrev pub name_of : LinkRow → Option (List ℕ)
name_of row = Some row.name

-- the key of a subscription on this server, if there is one: its ID and the server
abbrev pub sub_key : ℕ → Option Subscription → Option Key
sub_key server None = None
sub_key server (Some s) = Some (key s.id server)

-- the key of the present subscription of a link on a subject
abbrev pub sub_of : Subject → LinkRow → Option Key
sub_of subject row = sub_key row.server (sub_at subject row.subscriptions)

-- what the keys of subscriptions lead to, for each subject
pub record Leads : Type 0 where
  pub values : List (Key × Key)
  pub properties : List (Key × Key)

-- what those on a subject lead to
abbrev pub leads_at : Subject → Leads → List (Key × Key)
leads_at Values leads = leads.values
leads_at Properties leads = leads.properties

-- with these on a subject
abbrev pub with_leads : Subject → List (Key × Key) → Leads → Leads
with_leads Values entries leads = record leads { values = entries }
with_leads Properties entries leads = record leads { properties = entries }

-- what the key of a subscription leads to, on whichever subject
abbrev pub led_by : Key → Leads → Option Key
led_by k leads = option_or (value_at k leads.values) (value_at k leads.properties)

-- no key leads anywhere on both subjects
abbrev pub AreParted : Leads → Type 0
AreParted leads = (k : Key) → (is_some (value_at k leads.values) && is_some (value_at k leads.properties)) ≡ false

-- with this entry, if there is one
abbrev pub with_led : Option Key → Key → List (Key × Key) → List (Key × Key)
with_led None to entries = entries
with_led (Some from) to entries = entries ++ (from, to) ∷ []

-- without the entry of this key, if there is a key
abbrev pub without_led : Option Key → List (Key × Key) → List (Key × Key)
without_led None entries = entries
without_led (Some from) entries = filter (lacks_key from) entries

-- the key, if there is one, leads nowhere
abbrev pub IsFree : Option Key → List (Key × Key) → Type 0
IsFree from entries = IfSome from (λ k. value_at k entries ≡ None)

-- with a subscription of the link of this key on a subject, in place of the one that it had; where both have
-- the same ID nothing changes
abbrev pub renewed : Subject → Option Subscription → Option Subscription → Key → Leads → Leads
renewed subject was sub to leads =
    if is_same_id was sub then leads
    else with_leads subject (without_led (sub_key to.owner was) (with_led (sub_key to.owner sub) to (leads_at subject leads))) leads

-- without the subscriptions of a link of this server
abbrev pub forgotten : ℕ → Subscriptions → Leads → Leads
forgotten server subs leads = record {
  values = without_led (sub_key server subs.values) leads.values;
  properties = without_led (sub_key server subs.properties) leads.properties;
}

-- what f leads to leads back by g
abbrev pub LeadsBack : {A B : Type 0} → (A → Option B) → (B → Option A) → Type 0
LeadsBack {A} {B} f g = (a : A) (b : B) → f a ≡ Some b → g b ≡ Some a

-- what the link under a key has of this kind
abbrev pub told_at : {B : Type 0} → (LinkRow → Option B) → List (Key × LinkRow) → Key → Option B
told_at told links k = option_and_then told (value_at k links)

-- the key that stands first under a name
abbrev pub first_of : List (List ℕ × List Key) → List ℕ → Option Key
first_of names name = slice_get (of names name) 0

-- each of two partial functions leads back where the other came from
pub record LeadEachWay {A B : Type 0} (f : A → Option B) (g : B → Option A) : Type 0 where
  pub leads : LeadsBack f g
  pub is_led_to : LeadsBack g f

-- each link stands under its key, and its name and its subscriptions lead to it and to none else
pub record AreIndexed (links : List (Key × LinkRow)) (names : List (List ℕ × List Key)) (leads : Leads) : Type 0 where
  pub apart : HasKeysApart links
  pub keyed : links ≡ map (entry_by key_of) (map row_of links)
  pub single : (name : List ℕ) → of names name ≡ option_to_list (first_of names name)
  pub by_name : LeadEachWay (told_at name_of links) (first_of names)
  pub by_sub : (subject : Subject) → LeadEachWay (told_at (sub_of subject) links) (λ k. value_at k (leads_at subject leads))
  pub parted : AreParted leads
