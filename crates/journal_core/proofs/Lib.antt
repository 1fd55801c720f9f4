mod AppendLemmas
mod FileLemmas
mod MomentLemmas
mod OpenLemmas
mod ReadingLemmas
