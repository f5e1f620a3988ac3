-- What is remembered of names, with one more.
use Rattle.std.proofs.Common.{◌≡◌, ℕ, suc, ◌<◌, ◌≤◌, List, [], ◌∷◌, Bool, true, false, cond, length, refl, sym, ◌∙◌, arith}
use Rattle.std.specs.Prelude.{String, string_bytes, string_eq}
use Rattle.std.proofs.lemmas.Slice.Eq.{bytes_eq-Decides}
use Rattle.std.proofs.lemmas.List.Elements.{All-cons, All-head, All-nil, All-tail}
use Rattle.indexmap.specs.IndexMap.{insert_entry}
use Rattle.rule_desk.specs.declared.policy.Policy.{Policy}
use Rattle.state_tables.specs.declared.leads.LeadRow.{LeadRow}
use Rattle.state_tables.specs.Leads.{AreKept, AreLeads, AreUnderTexts, IsLead, rows_of, text_of}

module _ {K : Type 0} (eq : K → K → Bool) (policy : Policy) where
  -- what the policy says of a row
  abbrev Holds : LeadRow → Type 0
  Holds row = IsLead policy row.host row.name row.lead

  -- a row that has what the policy says may be put among others
  pub leads_with_one : (entries : List (K × LeadRow)) (key : K) (row : LeadRow) → Holds row → AreLeads policy (rows_of entries) → AreLeads policy (rows_of (insert_entry eq entries key row))
  leads_with_one [] key row holds all = All-cons Holds row [] holds (All-nil Holds)
  leads_with_one (entry ∷ entries) key row holds all =
      elim (eq key entry.0) as (λ t. AreLeads policy (rows_of (cond t ((entry.0, row) ∷ entries) (entry ∷ insert_entry eq entries key row)))) [
        | true ↦ All-cons Holds row (rows_of entries) holds (All-tail Holds entry.1 (rows_of entries) all)
        | false ↦ All-cons Holds entry.1 (rows_of (insert_entry eq entries key row)) (All-head Holds entry.1 (rows_of entries) all) (leads_with_one entries key row holds (All-tail Holds entry.1 (rows_of entries) all))
      ]

module _ {Z : Type 0} where
  -- one row more at most
  one_more_at_most : (entries : List (String Z × LeadRow)) (key : String Z) (row : LeadRow) → length (rows_of (insert_entry string_eq entries key row)) ≤ suc (length (rows_of entries))
  one_more_at_most [] key row = omega arith
  one_more_at_most (entry ∷ entries) key row =
      let later = one_more_at_most entries key row in
      elim (string_eq key entry.0) as (λ t. length (rows_of (cond t ((entry.0, row) ∷ entries) (entry ∷ insert_entry string_eq entries key row))) ≤ suc (suc (length (rows_of entries))))
      [ true ↦ omega arith | false ↦ omega arith ]

  -- a row may be put under its text
  under_with_one : (entries : List (String Z × LeadRow)) (key : String Z) (row : LeadRow) → string_bytes key ≡ text_of row.host row.name → AreUnderTexts entries → AreUnderTexts (insert_entry string_eq entries key row)
  under_with_one [] key row its under = (its, tt)
  under_with_one (entry ∷ entries) key row its under =
      elim (string_eq key entry.0) as (λ t. string_eq key entry.0 ≡ t → AreUnderTexts (cond t ((entry.0, row) ∷ entries) (entry ∷ insert_entry string_eq entries key row)))
      [ true ↦ λ h. (sym ((bytes_eq-Decides (string_bytes key) (string_bytes entry.0)).0 h) ∙ its, under.1) | false ↦ λ h. (under.0, under_with_one entries key row its under.1) ] refl

  -- and where there is room, all are kept
  pub kept_with_one : (limit : ℕ) (entries : List (String Z × LeadRow)) (key : String Z) (row : LeadRow) → AreKept limit entries → length (rows_of entries) < limit → string_bytes key ≡ text_of row.host row.name → AreKept limit (insert_entry string_eq entries key row)
  kept_with_one limit entries key row kept room its = record {
    under = under_with_one entries key row its kept.under;
    few = (let more = one_more_at_most entries key row in omega arith);
  }
