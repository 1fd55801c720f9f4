mod BytesLemmas
mod CallLemmas
mod LineLemmas
mod WrittenLemmas
