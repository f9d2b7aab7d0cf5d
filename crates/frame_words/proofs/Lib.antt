pub mod BitLemmas
pub mod GroupLemmas
pub mod LaneLemmas
pub mod RunLemmas
pub mod WordLemmas
