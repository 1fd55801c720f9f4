mod PrefixLemmas
pub mod OrderLemmas
pub mod LetGoLemmas
mod ResendLemmas
mod TakenBackLemmas
mod LastLemmas
