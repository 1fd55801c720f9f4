use Rattle.std.proofs.Common.{◌≡◌, ◌∙◌, ◌++◌, ◌∷◌, [], ◌+◌, ◌-◌, ◌<◌, sym, ap, subst, rules, arith, length, get_or, take, cond}
use Rattle.std.proofs.lemmas.List.{take_more, take_all}
use Rattle.std.specs.FinMap as fin
use Rattle.tm_data.specs.Orders.{row_cmp}
use Rattle.key_model.specs.Cuts.{is_in, of_vector, within, puts_on, row_by, row_at}
use Rattle.event_cuts.specs.Inside.{row_left}
use Rattle.event_cuts.proofs.PutLemmas.{gathered_more, event_found}
use Rattle.event_cuts.proofs.last_puts.last_puts.Goals as goal

pub loop-at-init : goal.loop-at-init
loop-at-init c = (
  omega arith,
  λ key.
      ap (λ o. row_left key o (puts_on key (within (of_vector c.args.cut.now) (take (length c.as_slice-items.result.now) c.args.events.now))))
      (ap (λ m. fin.get m key) c.new-puts.ensures ∙ fin.get-empty row_cmp key)
      ∙ ap (λ xs. row_by key (puts_on key (within (of_vector c.args.cut.now) xs))) (ap (λ xs. take (length xs) c.args.events.now) c.as_slice-items.ensures ∙ take_all (length c.args.events.now) c.args.events.now (omega arith)),
)

pub loop-at-preserved : goal.loop-at-preserved
loop-at-preserved c =
    let events = c.args.events.now in
    let i = c.loop-at.at - 1 in
    let e = c.index-items-at.result in
    let cut = of_vector c.args.cut.now in
    let past = within cut (take i events) in
    let same : c.as_slice-items.result.now ≡ events = c.as_slice-items.ensures in
    let test = c.loop-at-test.true in
    let below = c.loop-at.invariant.0 in
    let lt : i < length c.as_slice-items.result.now = omega (arith, test, below) in
    let next : i + 1 ≡ c.loop-at.at = omega (arith, test) in
    let at : get_or events i e ≡ e = ap (λ xs. get_or xs i e) (sym same) ∙ (search rules) in
    let more : within cut (take c.loop-at.at events) ≡ cond (is_in cut e) (e ∷ past) past =
    ap (λ n. within cut (take n events)) (sym next)
    ∙ ap (within cut) (take_more events i e (subst (λ xs. i < length xs) same lt) ∙ ap (λ x. take i events ++ x ∷ []) at) ∙ gathered_more cut [] (take i events) e in (
      omega (arith, lt),
      λ key. event_found c.loop-at.puts c.add_event.new.puts cut e past key (row_at events cut key) (search rules)
          (ap (λ es. row_left key (fin.get c.loop-at.puts key) (puts_on key es)) (sym more) ∙ c.loop-at.invariant.1 key),
    )
