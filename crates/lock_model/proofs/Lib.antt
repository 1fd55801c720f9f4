pub mod TableLemmas
mod PageLemmas
mod WriterLemmas
mod StepLemmas
mod GoesLemmas
mod FactLemmas
mod ToldLemmas
mod RiseLemmas
mod PageMoves
mod PageRuns
mod WriterRuns
mod ChangeLemmas
