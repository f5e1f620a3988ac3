-- What names were found to lead to.
use Rattle.std.specs.Prelude.{◌≡◌, ◌≤◌, ℕ, List, [], ◌∷◌, ◌++◌, length, map, Option, String, string_bytes}
use Rattle.std.specs.List.{All}
use Rattle.pv_alias.specs.declared.lead.Lead.{Lead}
use Rattle.rule_desk.specs.declared.policy.Policy.{Policy}
use Rattle.state_tables.specs.declared.leads.LeadRow.{LeadRow}
use Rattle.gateway_state.specs.Resolution.{lead_of}

-- the name that a host asks for leads there under the policy, or nowhere
abbrev pub IsLead : Policy → List ℕ → List ℕ → Option Lead → Type 0
IsLead policy host name lead = lead ≡ lead_of policy host name

-- the row is of the name that a host asks for
abbrev pub IsAskedBy : List ℕ → List ℕ → LeadRow → Type 0
IsAskedBy host name row = (row.host ≡ host) × (row.name ≡ name)

-- each row has what the policy says
abbrev pub AreLeads : Policy → List LeadRow → Type 0
AreLeads policy rows = All (λ (row : LeadRow). IsLead policy row.host row.name row.lead) rows

-- the rows of a map
abbrev pub rows_of : {K : Type 0} → List (K × LeadRow) → List LeadRow
rows_of entries = map (λ entry. entry.1) entries

-- one text of a host and a name, with a space between
abbrev pub text_of : List ℕ → List ℕ → List ℕ
text_of host name = (host ++ 32 ∷ []) ++ name

-- each row stands under the text of its host and its name
abbrev pub AreUnderTexts : {Z : Type 0} → List (String Z × LeadRow) → Type 0
AreUnderTexts [] = Unit {0}
AreUnderTexts (entry ∷ later) = (string_bytes entry.0 ≡ text_of entry.1.host entry.1.name) × AreUnderTexts later

-- and there are at most so many
pub record AreKept {Z : Type 0} (limit : ℕ) (entries : List (String Z × LeadRow)) : Type 0 where
  pub under : AreUnderTexts entries
  pub few : length (rows_of entries) ≤ limit
