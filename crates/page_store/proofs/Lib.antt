mod IntakeLemmas
mod StateLemmas
