use Rattle.std.proofs.Common.{◌∙◌, ◌↔◌, ℕ, List, Bool, IsTrue, Contains, sym, subst}
use Rattle.std.specs.List.Sorted.{IsNonDecreasing}
use Rattle.std.specs.Result.{is_ok}
use Rattle.tm_ports.proofs.CallLemmas.{search_finds}
use Rattle.tm_ports.proofs.calls.FailList.names.Goals as goal

pub returns : goal.returns
returns c =
    let call = c.args.call in
    let found = c.binary_search.result in
    let rising : IsNonDecreasing c.deref.result.now = subst IsNonDecreasing (sym c.deref.ensures.value) c.self.invariant in
    let there : IsTrue (is_ok found) ↔ Contains c.deref.result.now call = search_finds _ call found c.binary_search.ensures.position rising in
    subst (λ (b : Bool). IsTrue b ↔ Contains c.args.self.now call) (sym c.is_ok.ensures.value)
    (subst (λ (l : List ℕ). IsTrue (is_ok found) ↔ Contains l call) (c.deref.ensures.value ∙ c.self.view_is) there)
