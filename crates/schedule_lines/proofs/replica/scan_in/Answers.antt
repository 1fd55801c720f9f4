use Rattle.std.proofs.Common.{◌≡◌, [], ◌∷◌, subst, IfSome}
use Rattle.schedule_lines.specs.Lines.{IsFrom, from_text}
use Rattle.schedule_lines.proofs.WordLemmas.{fourth}
use Rattle.schedule_lines.proofs.replica.scan_in.Goals as goal

pub returns-in_default-u8-clause-none : goal.returns-in_default-u8-clause-none
returns-in_default-u8-clause-none c = λ point table from count in_point in_table is_from in_count is.
    let read = subst (λ found. IfSome found (λ from. (c.u16.new.self ≡ from_text from ∷ c.from.new.self) × IsFrom from)) c.in-Some-2.is c.in_ok-from.ensures.some in
    c.in_default-u8.ensures.none count [] in_count (fourth c.in-Some.ensures.some.0 c.in-Some-u16.ensures.some.0 read.0 is)
