mod VectorLemmas
mod LockLemmas
mod GroupLemmas
mod WorkLemmas
mod MasterLemmas
mod StoreLemmas
