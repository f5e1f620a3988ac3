pub mod GivingBack
pub mod KeptLemmas
