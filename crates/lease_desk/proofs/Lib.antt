mod HeldLemmas
mod IndexLemmas
mod KeyLemmas
mod MapLemmas
