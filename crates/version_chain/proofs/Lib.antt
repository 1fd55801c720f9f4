mod AddLemmas
mod ChainLemmas
mod KeptLemmas
mod MapLemmas
mod PathLemmas
mod SpotLemmas
mod WrittenLemmas
