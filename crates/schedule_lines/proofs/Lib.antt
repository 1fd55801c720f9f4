pub mod EntryLemmas
pub mod LineLemmas
pub mod PartLemmas
pub mod SentLemmas
pub mod SpellingLemmas
pub mod WordLemmas
