pub mod HearLemmas
pub mod MoveLemmas
pub mod RosterLemmas
