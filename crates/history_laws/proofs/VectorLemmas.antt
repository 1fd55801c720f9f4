-- To be closed by touches and by counts is one.
use Rattle.std.proofs.Common.{◌≡◌, ◌≤◌, ℕ, suc, zero, Bool, true, false, cond, ◌||◌, List, [], ◌∷◌, ◌++◌, take, inl, inr, refl, sym, subst, ap, ◌∙◌, arith}
use Rattle.std.proofs.lemmas.Bool.{and_parts, and_from, or_left}
use Rattle.std.proofs.lemmas.Bool.Decides.{nat_tests}
use Rattle.std.specs.Prelude.{filter, length}
use Rattle.std.specs.List.{AllByRecursion, list_any}
use Rattle.key_model.specs.declared.events.Event.{Event}
use Rattle.key_model.specs.Events.{is_logged, is_by}
use Rattle.key_model.specs.Causes.{touches, reaching, full_vector}
use Rattle.key_model.specs.Cuts.{Cut, is_in, mark_of, IsIn, IsClosed}
use Rattle.key_model.proofs.EventLemmas.{onto}
use Rattle.key_model.proofs.FoldLemmas.{has_causes, in_from}
use Rattle.history_laws.specs.Statements.{logged_by, number_in, TakesFirst, HoldsFullVectors, ClosedIsByFullVectors}
use Rattle.history_laws.proofs.ListLemmas.{Among, among_all}
use Rattle.history_laws.proofs.CountLemmas.{mine, IsFront, reaching_front}

-- ---- fronts

-- Where one of the later items passes, this one does.
abbrev Down : (Event → Bool) → List Event → Type 0
Down p [] = Unit {0}
Down p (x ∷ xs) = (list_any p xs ≡ true → p x ≡ true) × Down p xs

none_passes : (p : Event → Bool) (xs : List Event) → list_any p xs ≡ false → filter p xs ≡ []
none_passes p [] h = refl
none_passes p (x ∷ xs) h = by (p x) h (none_passes p xs)
  where
    by : (b : Bool) → (b || list_any p xs) ≡ false → (list_any p xs ≡ false → filter p xs ≡ []) → cond b (x ∷ filter p xs) (filter p xs) ≡ []
    by true h rest = absurd (cc h)
    by false h rest = rest h

front_of : (p : Event → Bool) (xs : List Event) → Down p xs → filter p xs ≡ take (length (filter p xs)) xs
front_of p [] h = refl
front_of p (x ∷ xs) h = by (p x) refl (front_of p xs h.1)
  where
    take_no : (ys : List Event) → [] ≡ take 0 ys
    take_no [] = refl
    take_no (y ∷ ys) = refl

    by : (b : Bool) → p x ≡ b → filter p xs ≡ take (length (filter p xs)) xs
        → cond b (x ∷ filter p xs) (filter p xs) ≡ take (length (cond b (x ∷ filter p xs) (filter p xs))) (x ∷ xs)
    by true is rest = ap (λ ys. x ∷ ys) rest
    by false is rest =
        let none : filter p xs ≡ [] = none_passes p xs (out (list_any p xs) refl) in
        none ∙ take_no (x ∷ xs) ∙ sym (ap (λ (ys : List Event). take (length ys) (x ∷ xs)) none)
      where
        out : (b : Bool) → list_any p xs ≡ b → list_any p xs ≡ false
        out true found = absurd (cc (h.0 found, is))
        out false found = found

-- ---- a closed cut has the first so many

same_actor : (all : List Event) (w : ℕ) (i j : Event) → mine w i ≡ true → mine w j ≡ true → touches all i j ≡ true
same_actor all w i j p q =
    let a = and_parts (is_by w i) (is_logged i) p in
    let b = and_parts (is_by w j) (is_logged j) q in
    or_left (is_by i.actor.0 j) _ (grind (arith, nat_tests))

earlier_in : (all : List Event) (cut : Cut) → IsClosed all cut → (w : ℕ) (i : Event) → mine w i ≡ true → (rest past : List Event) → all ≡ onto past rest → Among i past
    → list_any (is_in cut) (filter (mine w) rest) ≡ true → is_in cut i ≡ true
earlier_in all cut closed w i own [] past split among h = absurd (cc h)
earlier_in all cut closed w i own (j ∷ rest) past split among h =
    by (mine w j) refl h (earlier_in all cut closed w i own rest (j ∷ past) split (inr among))
  where
    here : mine w j ≡ true → is_in cut j ≡ true → is_in cut i ≡ true
    here m inside =
        in_from cut i (and_parts (is_by w i) (is_logged i) own).1
        (among_all (λ (e : Event). touches all e j ≡ true → IsIn cut e) i past (has_causes all cut closed past rest j split inside) among (same_actor all w i j own m))

    or_rest : (b : Bool) → is_in cut j ≡ b → mine w j ≡ true → (b || list_any (is_in cut) (filter (mine w) rest)) ≡ true
        → (list_any (is_in cut) (filter (mine w) rest) ≡ true → is_in cut i ≡ true) → is_in cut i ≡ true
    or_rest true inside m h more = here m inside
    or_rest false inside m h more = more h

    by : (b : Bool) → mine w j ≡ b → list_any (is_in cut) (cond b (j ∷ filter (mine w) rest) (filter (mine w) rest)) ≡ true
        → (list_any (is_in cut) (filter (mine w) rest) ≡ true → is_in cut i ≡ true) → is_in cut i ≡ true
    by true m h more = or_rest (is_in cut j) refl m h more
    by false m h more = more h

down : (all : List Event) (cut : Cut) → IsClosed all cut → (w : ℕ) (rest past : List Event) → all ≡ onto past rest → Down (is_in cut) (filter (mine w) rest)
down all cut closed w [] past split = tt
down all cut closed w (i ∷ rest) past split = by (mine w i) refl (down all cut closed w rest (i ∷ past) split)
  where
    by : (b : Bool) → mine w i ≡ b → Down (is_in cut) (filter (mine w) rest) → Down (is_in cut) (cond b (i ∷ filter (mine w) rest) (filter (mine w) rest))
    by true m more = (earlier_in all cut closed w i m rest (i ∷ past) split (inl refl), more)
    by false m more = more

-- ---- counts

all_mine : (cut : Cut) (w : ℕ) (found : List Event) → AllByRecursion (IsIn cut) found → AllByRecursion (λ e. is_in cut e ≡ true) (filter (mine w) found)
all_mine cut w [] h = tt
all_mine cut w (e ∷ es) h = by (mine w e) refl (all_mine cut w es h.1)
  where
    by : (b : Bool) → mine w e ≡ b → AllByRecursion (λ x. is_in cut x ≡ true) (filter (mine w) es) → AllByRecursion (λ x. is_in cut x ≡ true) (cond b (e ∷ filter (mine w) es) (filter (mine w) es))
    by true m rest = (in_from cut e (and_parts (is_by w e) (is_logged e) m).1 h.0, rest)
    by false m rest = rest

no_more : (p : Event → Bool) (n : ℕ) (xs : List Event) → AllByRecursion (λ e. p e ≡ true) (take n xs) → length (take n xs) ≤ length (filter p xs)
no_more p zero [] h = omega arith
no_more p zero (x ∷ xs) h = omega arith
no_more p (suc n) [] h = omega arith
no_more p (suc n) (x ∷ xs) h =
    let rest : length (take n xs) ≤ length (filter p xs) = no_more p n xs h.1 in
    subst (λ b. suc (length (take n xs)) ≤ length (cond b (x ∷ filter p xs) (filter p xs))) (sym h.0) (omega (arith, rest))

shorter : (P : Event → Type 0) (m n : ℕ) (xs : List Event) → m ≤ n → AllByRecursion P (take n xs) → AllByRecursion P (take m xs)
shorter P zero n [] le h = tt
shorter P zero n (x ∷ xs) le h = tt
shorter P (suc m) zero xs le h = absurd (omega (arith, le))
shorter P (suc m) (suc n) [] le h = tt
shorter P (suc m) (suc n) (x ∷ xs) le h = (h.0, shorter P m n xs (omega (arith, le)) h.1)

kept_pass : (p : Event → Bool) (xs : List Event) → AllByRecursion (λ e. p e ≡ true) (filter p xs)
kept_pass p [] = tt
kept_pass p (x ∷ xs) = by (p x) refl (kept_pass p xs)
  where
    by : (b : Bool) → p x ≡ b → AllByRecursion (λ e. p e ≡ true) (filter p xs) → AllByRecursion (λ e. p e ≡ true) (cond b (x ∷ filter p xs) (filter p xs))
    by true is rest = (is, rest)
    by false is rest = rest

from_mine : (cut : Cut) (found : List Event) → ((w : ℕ) → AllByRecursion (λ e. is_in cut e ≡ true) (filter (mine w) found)) → AllByRecursion (IsIn cut) found
from_mine cut [] h = tt
from_mine cut (e ∷ es) h = (head, from_mine cut es (λ w. tail w (mine w e) refl (h w)))
  where
    own : is_by e.actor.0 e ≡ true
    own = grind (arith, nat_tests)

    at : (b : Bool) → mine e.actor.0 e ≡ b → is_logged e ≡ true → AllByRecursion (λ x. is_in cut x ≡ true) (cond b (e ∷ filter (mine e.actor.0) es) (filter (mine e.actor.0) es)) → is_in cut e ≡ true
    at true m logged a = a.0
    at false m logged a = absurd (cc (m, and_from (is_by e.actor.0 e) (is_logged e) own logged))

    head : IsIn cut e
    head logged = (and_parts (is_logged e) (cut (mark_of e)) (at (mine e.actor.0 e) refl logged (h e.actor.0))).1

    tail : (w : ℕ) (b : Bool) → mine w e ≡ b → AllByRecursion (λ x. is_in cut x ≡ true) (cond b (e ∷ filter (mine w) es) (filter (mine w) es)) → AllByRecursion (λ x. is_in cut x ≡ true) (filter (mine w) es)
    tail w true m a = a.1
    tail w false m a = a

-- ---- both ways

front_in : (all : List Event) (w : ℕ) (before after : List Event) (j : Event) → all ≡ before ++ j ∷ after
    → take (full_vector all before j w) (logged_by w all) ≡ filter (mine w) (reaching all before j)
front_in all w before after j split = subst (IsFront (mine w) (reaching all before j)) (sym split) (reaching_front all w before after j)

counted : (all : List Event) (cut : Cut) → IsClosed all cut → HoldsFullVectors all cut
counted all cut closed before after j split inside w =
    let found : List Event = reaching all before j in
    let front : take (length (filter (mine w) found)) (logged_by w all) ≡ filter (mine w) found = front_in all w before after j split in
    let most = no_more (is_in cut) (length (filter (mine w) found)) (logged_by w all)
    (subst (AllByRecursion (λ e. is_in cut e ≡ true)) (sym front) (all_mine cut w found (closed before after j split inside))) in
    subst (λ (xs : List Event). length xs ≤ number_in all cut w) front most

closed_from : (all : List Event) (cut : Cut) → TakesFirst all cut → HoldsFullVectors all cut → IsClosed all cut
closed_from all cut first holds before after j split inside =
    from_mine cut (reaching all before j) (λ w.
    subst (AllByRecursion (λ e. is_in cut e ≡ true)) (front_in all w before after j split)
    (shorter (λ e. is_in cut e ≡ true) (full_vector all before j w) (number_in all cut w) (logged_by w all) (holds before after j split inside w)
    (subst (AllByRecursion (λ e. is_in cut e ≡ true)) (first w) (kept_pass (is_in cut) (logged_by w all)))))

pub closed_by_vectors : ClosedIsByFullVectors
closed_by_vectors all cut =
    ((λ closed. ((λ w. front_of (is_in cut) (logged_by w all) (down all cut closed w all [] refl)), counted all cut closed)), (λ h. closed_from all cut h.0 h.1))
