mod CountLemmas
mod FoundLemmas
mod ListLemmas
mod PlaceLemmas
mod PutLemmas
