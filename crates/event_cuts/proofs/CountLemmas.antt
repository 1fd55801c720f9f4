-- The list that is made of the numbers.
use Rattle.std.proofs.Common.{◌≡◌, ◌≤◌, ℕ, Bool, true, false, cond, List, [], ◌∷◌, refl, sym, ap, ◌∙◌, arith, take, drop}
use Rattle.std.proofs.lemmas.Bool.Decides.{nat_tests}
use Rattle.std.specs.Prelude.{T, nat_eq, map}
use Rattle.std.specs.List.{AllByRecursion}
use Rattle.std.specs.List.Sorted.{IsStrictlySortedBy}
use Rattle.std.specs.Ordering.{eq_by_cmp}
use Rattle.std.specs.Cmp.{Equal-is, unsigned_Decides}
use Rattle.std.specs.FinMap.{entries, entries_sorted, find, get-entries, is_sorted}
use Rattle.std.specs.FinMap.Entries.{below_all}
use Rattle.std.specs.declared.cmp.Ordering.TheVariants.{Less}
use Rattle.std.specs.declared.option.Option.TheVariants.{Some}
use Rattle.tm_data.specs.declared.transaction.Writer.{Writer}
use Rattle.tm_data.specs.Orders.{writer_cmp, writer_cmp-total, writer_cmp-exact}
use Rattle.key_model.specs.declared.events.Event.{Event}
use Rattle.key_model.specs.declared.events.Count.{Count}
use Rattle.key_model.specs.Causes.{reaching}
use Rattle.key_index.proofs.AnyLemmas.{none_below, first_of_both, second_of_both}
use Rattle.event_cuts.specs.Counts.{number_in, AreCounts, vector_of_first, vector_at}
use Rattle.event_cuts.specs.declared.reached.Reached.{Reached}
use Rattle.event_cuts.specs.Inside.{or_zero, HasFound, counts_of}
use Rattle.event_cuts.proofs.FoundLemmas.{same_by_cmp}
use Rattle.event_cuts.proofs.ListLemmas.{is_less}

abbrev Numbered : Type 0
Numbered = List (Writer × ℕ)

below_counts : (w : Writer) (es : Numbered) → T (below_all writer_cmp w es) → AllByRecursion (λ q. writer_cmp w q ≡ Less) (map (λ (c : Count). c.writer) (counts_of es))
below_counts w [] h = tt
below_counts w (e ∷ es) h = by (nat_eq e.1 0) (below_counts w es (second_of_both _ _ h))
  where
    by : (b : Bool) → AllByRecursion (λ q. writer_cmp w q ≡ Less) (map (λ (c : Count). c.writer) (counts_of es))
        → AllByRecursion (λ q. writer_cmp w q ≡ Less) (map (λ (c : Count). c.writer) (cond b (counts_of es) (record { writer = e.0; number = e.1 } ∷ counts_of es)))
    by true rest = rest
    by false rest = (is_less (writer_cmp w e.0) (first_of_both _ _ h), rest)

counts_ascend : (es : Numbered) → T (is_sorted writer_cmp es) → IsStrictlySortedBy writer_cmp (map (λ (c : Count). c.writer) (counts_of es))
unfolding IsStrictlySortedBy
counts_ascend [] h = tt
counts_ascend (e ∷ es) h =
    elim (nat_eq e.1 0) as (λ b. IsStrictlySortedBy writer_cmp (map (λ (c : Count). c.writer) (cond b (counts_of es) (record { writer = e.0; number = e.1 } ∷ counts_of es)))) [
      | true ↦ counts_ascend es (second_of_both _ _ h)
      | false ↦ (below_counts e.0 es (first_of_both _ _ h), counts_ascend es (second_of_both _ _ h))
    ]

at_least : (n : ℕ) → nat_eq n 0 ≡ false → 1 ≤ n
at_least n h = grind (arith, nat_tests, h)

positive : (es : Numbered) → AllByRecursion (λ (c : Count). 1 ≤ c.number) (counts_of es)
positive [] = tt
positive (e ∷ es) = by (nat_eq e.1 0) refl (positive es)
  where
    by : (b : Bool) → nat_eq e.1 0 ≡ b → AllByRecursion (λ (c : Count). 1 ≤ c.number) (counts_of es)
        → AllByRecursion (λ (c : Count). 1 ≤ c.number) (cond b (counts_of es) (record { writer = e.0; number = e.1 } ∷ counts_of es))
    by true is rest = rest
    by false is rest = (at_least e.1 is, rest)

number_of : (es : Numbered) → T (is_sorted writer_cmp es) → (q : Writer) → number_in (counts_of es) q ≡ or_zero (find writer_cmp q es)
number_of [] s q = refl
number_of (e ∷ es) s q = by (nat_eq e.1 0) refl (eq_by_cmp writer_cmp q e.0) refl (number_of es (second_of_both _ _ s) q)
  where
    by : (z : Bool) → nat_eq e.1 0 ≡ z → (b : Bool) → eq_by_cmp writer_cmp q e.0 ≡ b → number_in (counts_of es) q ≡ or_zero (find writer_cmp q es)
        → number_in (cond z (counts_of es) (record { writer = e.0; number = e.1 } ∷ counts_of es)) q ≡ or_zero (cond b (Some e.1) (find writer_cmp q es))
    by true is true same rest =
        rest
        ∙ ap or_zero (ap (λ k. find writer_cmp k es) (writer_cmp-exact q e.0 ((Equal-is (writer_cmp q e.0)).0 same)) ∙ none_below writer_cmp-total writer_cmp-exact e.0 es (first_of_both _ _ s))
        ∙ sym ((unsigned_Decides e.1 0).0 is)
    by true is false same rest = rest
    by false is true same rest = ap (λ b. cond b e.1 (number_in (counts_of es) q)) (sym (same_by_cmp q e.0) ∙ same)
    by false is false same rest = ap (λ b. cond b e.1 (number_in (counts_of es) q)) (sym (same_by_cmp q e.0) ∙ same) ∙ rest

pub are_counts : (events before after : List Event) (j : Event) (place : ℕ) (r : Reached) → take place events ≡ before → drop place events ≡ j ∷ after
    → HasFound r (reaching events before j) → AreCounts (vector_at events place) (counts_of (entries r.numbers))
are_counts events before after j place r front back h = record {
  ascending = counts_ascend (entries r.numbers) (entries_sorted r.numbers);
  positive = positive (entries r.numbers);
  each = λ w.
      number_of (entries r.numbers) (entries_sorted r.numbers) w ∙ ap or_zero (sym (get-entries r.numbers w)) ∙ h.numbers w
      ∙ sym (λ i. vector_of_first events (front i) (back i) w.0);
}
