use Rattle.std.proofs.Common.{◌≡◌, true, sym, ◌∙◌, ap, subst, decimal, nat_eq}
use Rattle.std.proofs.lemmas.Fmt.{parse-decimal, IsAscii-decimal}
use Rattle.std.proofs.lemmas.Str.{IsUtf8-from_ascii}
use Rattle.std.specs.Cmp.Lexicographic.{pointwise, nat_list_eq_equiv}
use Rattle.std.specs.Str.{IsUtf8}
use Rattle.text_fields.proofs.decimal_field.spelled_number.Goals as goal

pub returns-in_default-clause-none : goal.returns-in_default-clause-none
returns-in_default-clause-none c = λ n small is.
    c.in_default.ensures.cases.0 (subst IsUtf8 (sym is) (IsUtf8-from_ascii _ (IsAscii-decimal n small)))

pub returns-in_default-parse-clause-none : goal.returns-in_default-parse-clause-none
returns-in_default-parse-clause-none c = λ n small is.
    c.in_default-parse.not-Ok n (parse-decimal 64 n c.in-Ok.text.now _ small small (c.in-Ok.ensures.cases.0 ∙ is) c.parse.ensures.value.0)

pub returns-else-eq-clause-none : goal.returns-else-eq-clause-none
returns-else-eq-clause-none c = λ n small is.
    let text : c.in-Ok.text.now ≡ decimal n = c.in-Ok.ensures.cases.0 ∙ is in
    let read = parse-decimal 64 n c.in-Ok.text.now _ small small text c.parse.ensures.value.0 in
    let same : c.in-Ok-parse.number ≡ n = cc in
    let printed : c.format.result.now ≡ c.in-Ok.text.now = c.format.ensures.text ∙ ap decimal same ∙ sym text in
    let equal : pointwise nat_eq c.format.result.now c.in-Ok.text.now ≡ true = rw printed (nat_list_eq_equiv.refl c.in-Ok.text.now) in
    cc
