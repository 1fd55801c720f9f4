-- Tables as an `IndexMap` keeps them.
use Rattle.std.proofs.Common.{◌≡◌, ◌<◌, ◌-◌, ℕ, zero, suc, Bool, true, false, List, [], ◌∷◌, Option, Some, None, refl, ap, sym, ◌∙◌, cond, arith}
use Rattle.std.specs.Prelude.{nat_eq, if◌then◌else◌, position}
use Rattle.std.specs.Map.{keys_of}
use Rattle.std.proofs.lemmas.Bool.Decides.{nat_tests}
use Rattle.indexmap.specs.IndexMap.{insert_entry, set_value_at}
use Rattle.indexmap.proofs.MapLemmas.{insert_entry-first, Found-position}
use Rattle.lock_model.specs.State.{at, put}
use Rattle.lock_model.specs.declared.page.PageEntry.{PageEntry}
use Rattle.lock_model.specs.declared.writer.Life.{Life}
use Rattle.lock_model.specs.declared.writer.WriterEntry.{WriterEntry}
use Rattle.lock_model.specs.Step.{latest, or_earlier}

module _ {X : Type 0} where
  -- `insert` is `put`.
  pub put_is : (es : List (ℕ × X)) (k : ℕ) (x : X) → insert_entry nat_eq es k x ≡ put es k x
  put_is [] k x = refl
  put_is (e ∷ es) k x = ap (λ (t : List (ℕ × X)). if nat_eq k e.0 then (e.0, x) ∷ es else e ∷ t) (put_is es k x)

  -- A write in the place of a number is `put`.
  pub set_at : (es : List (ℕ × X)) (k i : ℕ) (x : X) → position (nat_eq k) (keys_of es) ≡ Some i → set_value_at es i x ≡ put es k x
  set_at es k i x p = sym (insert_entry-first nat_eq k x es i (Found-position (nat_eq k) es i p).first) ∙ put_is es k x

  -- Entries under other numbers leave the first one.
  pub put_past : (e : ℕ × X) (es : List (ℕ × X)) (k : ℕ) (x : X) (b : Bool) → nat_eq k e.0 ≡ b → b ≡ false → (if b then (e.0, x) ∷ es else e ∷ put es k x) ≡ e ∷ put es k x
  put_past e es k x true is not = absurd (cc not)
  put_past e es k x false is not = refl

-- ---- numbers

pub turned : (m n : ℕ) → nat_eq m n ≡ false → nat_eq n m ≡ false
turned m n h = grind (arith, nat_tests)

pub same_numbers : (m n : ℕ) → nat_eq n m ≡ true → m ≡ n
same_numbers m n h = grind (arith, nat_tests)

pub here_put : (e : ℕ × PageEntry) (es : List (ℕ × PageEntry)) (x : PageEntry) (b : Bool) → nat_eq e.0 e.0 ≡ b → (if b then (e.0, x) ∷ es else e ∷ put es e.0 x) ≡ (e.0, x) ∷ es
here_put e es x true is = refl
here_put e es x false is = absurd (grind (arith, nat_tests))

-- ---- the latest life of a master

abbrev own : ℕ → WriterEntry → Option Life
own n e = Some (record { writer = record { 0 = n }; boot = e.boot })

earlier_none : (n master : ℕ) (o : Option WriterEntry) (earlier : Option Life) → or_earlier n master o None ≡ None → or_earlier n master o earlier ≡ earlier
earlier_none n master None earlier h = refl
earlier_none n master (Some e) earlier h = by (nat_eq e.master master) h
  where
    by : (b : Bool) → cond b (own n e) None ≡ None → cond b (own n e) earlier ≡ earlier
    by true is = absurd (cc is)
    by false is = refl

earlier_some : (n master : ℕ) (o : Option WriterEntry) (earlier : Option Life) (life : Life) → or_earlier n master o None ≡ Some life → or_earlier n master o earlier ≡ Some life
earlier_some n master None earlier life h = absurd (cc h)
earlier_some n master (Some e) earlier life h = by (nat_eq e.master master) h
  where
    by : (b : Bool) → cond b (own n e) None ≡ Some life → cond b (own n e) earlier ≡ Some life
    by true is = is
    by false is = absurd (cc is)

pub latest_down : (ws : List (ℕ × WriterEntry)) (master n : ℕ) → 0 < n → or_earlier n master (at ws n) None ≡ None → latest ws master n ≡ latest ws master (n - 1)
latest_down ws master zero h none = absurd (omega arith)
latest_down ws master (suc n) h none =
    let less : n ≡ suc n - 1 = omega arith in earlier_none (suc n) master (at ws (suc n)) (latest ws master n) none ∙ ap (latest ws master) less

pub latest_found : (ws : List (ℕ × WriterEntry)) (master n : ℕ) (life : Life) → 0 < n → or_earlier n master (at ws n) None ≡ Some life → latest ws master n ≡ Some life
latest_found ws master zero life h some = absurd (omega arith)
latest_found ws master (suc n) life h some = earlier_some (suc n) master (at ws (suc n)) (latest ws master n) life some
