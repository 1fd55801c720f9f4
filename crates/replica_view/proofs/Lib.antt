mod ApplyLemmas
mod ReadLemmas
mod RowLemmas
mod ScanLemmas
