use Rattle.std.proofs.Common.{◌≡◌, ◌∙◌, ℕ, ◌<◌, ◌≤◌, decimal, sym, arith}
use Rattle.text_fields.proofs.FieldLemmas.{words_apart, word_whole, decimal_blank}
use Rattle.taurus.proofs.line.read_table.Goals as goal

pub returns-in_default-clause-none : goal.returns-in_default-clause-none
returns-in_default-clause-none c = λ table rest small is. word_whole c.args.fields.now (decimal table) rest c.in_default.ensures.none is

pub returns-in_default-read_u16-clause-none : goal.returns-in_default-read_u16-clause-none
returns-in_default-read_u16-clause-none c = λ table rest small is.
    let parts = words_apart c.in-Some.word.now (decimal table) c.in-Some.rest.now rest c.in-Some.ensures.found.1 (decimal_blank table (omega arith)) (sym c.in-Some.ensures.found.0 ∙ is) in
    c.in_default-read_u16.ensures.none table (omega arith) (omega arith) parts.0
