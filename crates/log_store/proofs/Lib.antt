mod AppendLemmas
mod FitLemmas
mod LogsLemmas
