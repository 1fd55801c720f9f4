use Rattle.std.proofs.Common.{◌≡◌, ◌∙◌, ◌++◌, List, ℕ, sym, ap, subst}
use Rattle.tm_data.specs.declared.vector.VectorEntry.{VectorEntry}
use Rattle.schedule_lines.specs.Lines.{entry_text, entry_words}
use Rattle.schedule_lines.specs.Inside.{IsEntry}
use Rattle.schedule_lines.proofs.EntryLemmas.{no_bound, goes_on}
use Rattle.schedule_lines.proofs.bound.bound_in.Goals as goal

pub returns-in_default-entry_in-clause-none : goal.returns-in_default-entry_in-clause-none
returns-in_default-entry_in-clause-none c = λ bound vector fit is.
    let it = c.loop-word.invariant in
    let refused = subst (λ above. (e : VectorEntry) → IsEntry above e → c.in-Some.word.now ≡ entry_text e → ⊥) it.last c.in_default-entry_in.ensures.none in
    no_bound 0 c.loop-word.entries bound c.in-Some.word.now c.word.new.self it.entries vector fit
    (ap (λ (ws : List (List ℕ)). entry_words c.loop-word.entries ++ ws) (sym c.in-Some.ensures.some) ∙ sym it.read ∙ is) refused

pub loop-word-preserved : goal.loop-word-preserved
loop-word-preserved c =
    let it = c.loop-word.invariant in
    let entry = c.in-Some-entry_in.ensures.some in
    let so = goes_on c.args.words c.loop-word.words c.word.new.self c.loop-word.entries c.push.new.self c.loop-word.above c.in-Some.word.now c.in-Some-entry_in.entry it.read it.last it.vector it.entries c.in-Some.ensures.some entry.0 entry.1 c.in_ok-push.ensures.ok in
    record { read = so.0; last = so.1; vector = so.2; entries = so.3 }
