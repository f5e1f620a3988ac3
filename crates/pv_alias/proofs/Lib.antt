pub mod RealNameLemmas
pub mod RowLemmas
pub mod WorkedRules
