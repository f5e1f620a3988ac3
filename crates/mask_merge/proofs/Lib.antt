pub mod ChangeLemmas
pub mod CountLemmas
pub mod MergedLemmas
pub mod PlaceLemmas
pub mod RisingLemmas
