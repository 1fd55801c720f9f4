-- The events that reach one, found from the last on.
use Rattle.std.proofs.Common.{◌≡◌, ℕ, ◌+◌, Bool, true, false, cond, ◌&&◌, ◌||◌, List, [], ◌∷◌, length, refl, sym, subst, ap, ◌∙◌, arith}
use Rattle.std.specs.Prelude.{is_some, filter}
use Rattle.std.specs.List.{list_any}
use Rattle.std.specs.Ordering.{eq_by_cmp}
use Rattle.std.specs.FinMap as fin
use Rattle.std.specs.FinMap.{get, get-insert, get-empty}
use Rattle.std.specs.declared.option.Option.TheVariants.{Some}
use Rattle.tm_data.specs.declared.transaction.Writer.{Writer}
use Rattle.tm_data.specs.declared.row_map.RowKey.{RowKey}
use Rattle.tm_data.specs.Orders.{row_cmp, row_cmp-total, writer_cmp, writer_cmp-total, writer_cmp-exact}
use Rattle.key_model.specs.declared.events.Event.{Event}
use Rattle.key_model.specs.declared.events.EventKind.{EventKind}
use Rattle.key_model.specs.declared.events.EventKind.TheVariants.{Read, Put, End}
use Rattle.key_model.specs.Steps.{row_of}
use Rattle.key_model.specs.After.{same_row, same_writer}
use Rattle.key_model.specs.Events.{logs, puts, key_of, meet, is_put, is_of, is_by, is_logged, conflicts}
use Rattle.key_model.specs.Causes.{ends_conflict, touches_one, joining}
use Rattle.key_index.proofs.AnyLemmas.{same_truth, equal, itself}
use Rattle.key_model.proofs.LawLemmas.{row_is, writer_is, writer_same}
use Rattle.event_cuts.specs.declared.reached.Reached.{Reached}
use Rattle.event_cuts.specs.Inside.{Numbers, Keys, or_zero, or_false, one_if, with_number, with_key, with_kind_key, with_found, hits, end_hits, reaches, found_if, on, put_on, HasFound}
use Rattle.event_cuts.proofs.PutLemmas.{same_key}

-- ---- tests of lists

any_same : {A : Type 0} (p q : A → Bool) → ((x : A) → p x ≡ q x) → (xs : List A) → list_any p xs ≡ list_any q xs
any_same p q h [] = refl
any_same p q h (x ∷ xs) = λ i. h x i || any_same p q h xs i

any_none : {A : Type 0} (xs : List A) → list_any (λ (x : A). false) xs ≡ false
any_none [] = refl
any_none (x ∷ xs) = any_none xs

shuffled : (a b c d : Bool) → ((a || b) || (c || d)) ≡ ((a || c) || (b || d))
shuffled true b c d = refl
shuffled false true true d = refl
shuffled false true false d = refl
shuffled false false c d = refl

any_or : {A : Type 0} (p q : A → Bool) (xs : List A) → list_any (λ x. p x || q x) xs ≡ (list_any p xs || list_any q xs)
any_or p q [] = refl
any_or p q (x ∷ xs) = ap (λ b. (p x || q x) || b) (any_or p q xs) ∙ shuffled (p x) (q x) (list_any p xs) (list_any q xs)

any_swap : {A : Type 0} (r : A → A → Bool) (xs ys : List A) → list_any (λ y. list_any (λ x. r x y) xs) ys ≡ list_any (λ x. list_any (r x) ys) xs
any_swap r xs [] = sym (any_none xs)
any_swap r xs (y ∷ ys) = ap (λ b. list_any (λ x. r x y) xs || b) (any_swap r xs ys) ∙ sym (any_or (λ x. r x y) (λ x. list_any (r x) ys) xs)

any_and : {A : Type 0} (b : Bool) (p : A → Bool) (xs : List A) → list_any (λ x. b && p x) xs ≡ (b && list_any p xs)
any_and true p xs = refl
any_and false p xs = any_none xs

and_true : (a : Bool) → a ≡ (a && true)
and_true true = refl
and_true false = refl

-- ---- what touches one that was found

hits_kind : (r : Reached) (found : List Event) → HasFound r found → (kind : EventKind)
    → hits r.keys kind ≡ list_any (λ j. meet (key_of kind) (key_of j.kind) && (puts kind || is_put j)) found
hits_kind r found h (Read t table key) = h.puts (row_of table key)
hits_kind r found h (Put t table key value) =
    h.keys (row_of table key) ∙ any_same (on (row_of table key)) (λ j. on (row_of table key) j && true) (λ j. and_true (on (row_of table key) j)) found
hits_kind r found h (End t committed) = sym (any_none found)

ends_kind : (events : List Event) (r : Reached) (found : List Event) → HasFound r found → (kind : EventKind)
    → end_hits events r.keys kind ≡ list_any (ends_conflict events kind) found
ends_kind events r found h (Read t table key) = sym (any_none found)
ends_kind events r found h (Put t table key value) = sym (any_none found)
ends_kind events r found h (End t committed) =
    any_same (λ e. is_of t e && hits r.keys e.kind) (λ e. list_any (λ j. is_of t e && conflicts e j) found)
    (λ e. ap (λ b. is_of t e && b) (hits_kind r found h e.kind) ∙ sym (any_and (is_of t e) (conflicts e) found)) events
    ∙ sym (any_swap (λ e j. is_of t e && conflicts e j) events found)

reaches_is : (events : List Event) (r : Reached) (found : List Event) (i : Event) → HasFound r found → reaches events r i ≡ touches_one events found i
reaches_is events r found i h =
    (λ k. h.actors i.actor k || (hits_kind r found h i.kind k || ends_kind events r found h i.kind k))
    ∙ sym (any_or (is_by i.actor.0) (λ j. conflicts i j || ends_conflict events i.kind j) found
    ∙ ap (λ b. list_any (is_by i.actor.0) found || b) (any_or (conflicts i) (ends_conflict events i.kind) found))

-- ---- one more is found

pub same_by_cmp : (a b : Writer) → eq_by_cmp writer_cmp a b ≡ same_writer a b
same_by_cmp a b = same_truth _ _
    (λ h. writer_same a b (equal writer_cmp-total writer_cmp-exact a b h))
    (λ h. ap (eq_by_cmp writer_cmp a) (sym (writer_is a b h)) ∙ itself writer_cmp-total writer_cmp-exact a)

get-number : (m : Numbers) (w : Writer) (n : ℕ) (q : Writer) → get (fin.insert m w n) q ≡ cond (same_writer q w) (Some n) (get m q)
get-number m w n q = get-insert writer_cmp-total m w n q ∙ ap (λ b. cond b (Some n) (get m q)) (same_by_cmp q w)

get-key : (m : Keys) (place : RowKey) (put : Bool) (key : RowKey) → get (fin.insert m place put) key ≡ cond (same_row key place) (Some put) (get m key)
get-key m place put key = get-insert row_cmp-total m place put key ∙ ap (λ b. cond b (Some put) (get m key)) (same_key key place)

key_there : (m : Keys) (place : RowKey) (put : Bool) (key : RowKey) → is_some (get (with_key m place put) key) ≡ (same_row key place || is_some (get m key))
key_there m place put key = ap is_some (get-key m place (put || or_false (get m place)) key) ∙ by (same_row key place)
  where
    by : (b : Bool) → is_some (cond b (Some (put || or_false (get m place))) (get m key)) ≡ (b || is_some (get m key))
    by true = refl
    by false = refl

key_put : (m : Keys) (place : RowKey) (put : Bool) (key : RowKey) → or_false (get (with_key m place put) key) ≡ ((same_row key place && put) || or_false (get m key))
key_put m place put key = ap or_false (get-key m place (put || or_false (get m place)) key) ∙ by (same_row key place) refl
  where
    by : (b : Bool) → same_row key place ≡ b → or_false (cond b (Some (put || or_false (get m place))) (get m key)) ≡ ((b && put) || or_false (get m key))
    by true is = ap (λ k. put || or_false (get m k)) (sym (row_is key place is))
    by false is = refl

keys_kind : (m : Keys) (kind : EventKind) (key : RowKey) → is_some (get (with_kind_key m kind) key) ≡ (meet (Some key) (key_of kind) || is_some (get m key))
keys_kind m (Read t table k) key = key_there m (row_of table k) false key
keys_kind m (Put t table k value) key = key_there m (row_of table k) true key
keys_kind m (End t committed) key = refl

puts_kind : (m : Keys) (kind : EventKind) (key : RowKey) → or_false (get (with_kind_key m kind) key) ≡ ((meet (Some key) (key_of kind) && puts kind) || or_false (get m key))
puts_kind m (Read t table k) key = key_put m (row_of table k) false key
puts_kind m (Put t table k value) key = key_put m (row_of table k) true key
puts_kind m (End t committed) key = refl

actor_there : (m : Numbers) (w : Writer) (n : ℕ) (q : Writer) → is_some (get (fin.insert m w n) q) ≡ (same_writer q w || is_some (get m q))
actor_there m w n q = ap is_some (get-number m w n q) ∙ by (same_writer q w)
  where
    by : (b : Bool) → is_some (cond b (Some n) (get m q)) ≡ (b || is_some (get m q))
    by true = refl
    by false = refl

one_more : (n : ℕ) (logged : Bool) (e : Event) (es : List Event) → n ≡ length es → n + one_if logged ≡ length (cond logged (e ∷ es) es)
one_more n true e es h = omega (arith, h)
one_more n false e es h = omega (arith, h)

number_more : (m : Numbers) (e : Event) (es : Writer → List Event) → ((q : Writer) → or_zero (get m q) ≡ length (es q)) → (q : Writer)
    → or_zero (get (with_number m e.actor (logs e.kind)) q) ≡ length (cond (same_writer q e.actor && logs e.kind) (e ∷ es q) (es q))
number_more m e es h q = ap or_zero (get-number m e.actor (or_zero (get m e.actor) + one_if (logs e.kind)) q) ∙ by (same_writer q e.actor) refl
  where
    by : (b : Bool) → same_writer q e.actor ≡ b → or_zero (cond b (Some (or_zero (get m e.actor) + one_if (logs e.kind))) (get m q)) ≡ length (cond (b && logs e.kind) (e ∷ es q) (es q))
    by true is = one_more (or_zero (get m e.actor)) (logs e.kind) e (es q) (ap (λ w. or_zero (get m w)) (sym (writer_is q e.actor is)) ∙ h q)
    by false is = h q

found_more : (r : Reached) (found : List Event) (e : Event) → HasFound r found → HasFound (with_found r e) (e ∷ found)
found_more r found e h = record {
  actors = λ w. actor_there r.numbers e.actor (or_zero (get r.numbers e.actor) + one_if (logs e.kind)) w ∙ ap (λ b. same_writer w e.actor || b) (h.actors w);
  numbers = number_more r.numbers e (λ w. filter (λ i. is_by w.0 i && is_logged i) found) h.numbers;
  keys = λ key. keys_kind r.keys e.kind key ∙ ap (λ b. on key e || b) (h.keys key);
  puts = λ key. puts_kind r.keys e.kind key ∙ ap (λ b. put_on key e || b) (h.puts key);
}

nothing : HasFound (record { numbers = fin.empty; keys = fin.empty }) []
nothing = record {
  actors = λ w. ap is_some (get-empty writer_cmp w);
  numbers = λ w. ap or_zero (get-empty writer_cmp w);
  keys = λ key. ap is_some (get-empty row_cmp key);
  puts = λ key. ap or_false (get-empty row_cmp key);
}

pub found_alone : (r : Reached) (e : Event) → r ≡ with_found (record { numbers = fin.empty; keys = fin.empty }) e → HasFound r (e ∷ [])
found_alone r e is = subst (λ s. HasFound s (e ∷ [])) (sym is) (found_more (record { numbers = fin.empty; keys = fin.empty }) [] e nothing)

pub found_next : (events : List Event) (r next : Reached) (found : List Event) (i : Event) → next ≡ found_if (reaches events r i) r i → HasFound r found
    → HasFound next (joining (touches_one events found i) i found)
found_next events r next found i is h =
    subst (λ s. HasFound s (joining (touches_one events found i) i found)) (sym (is ∙ ap (λ b. found_if b r i) (reaches_is events r found i h))) (by (touches_one events found i))
  where
    by : (b : Bool) → HasFound (found_if b r i) (joining b i found)
    by true = found_more r found i h
    by false = h
