-- The master's log, the store's, and the acknowledgements between them.
use Rattle.std.proofs.Common.{◌≡◌, ◌∙◌, ℕ, suc, zero, ◌+◌, ◌-◌, ◌<◌, ◌≤◌, ◌⊎◌, inl, inr, List, [], ◌∷◌, ◌++◌, Bool, true, false, Some, None, refl, sym, ap, arith, length, length-append, length-set, set}
use Rattle.std.specs.Prelude.{slice_get}
use Rattle.std.proofs.lemmas.Option.{slice_get_within}
use Rattle.net_world.specs.declared.message.PlainGroup.{PlainGroup}
use Rattle.net_world.specs.declared.message.PlainMessage.{PlainMessage}
use Rattle.net_world.specs.declared.message.PlainMessage.TheVariants.{Append, Ack}
use Rattle.net_world.specs.Log.{seq_of}
use Rattle.net_world.proofs.ListLemmas.{got_left, got_last, got_pushed, got_set, got_within}

-- the groups that were sent to the store, in order
abbrev pub log_of : List PlainMessage → List PlainGroup
log_of [] = []
log_of (Append g ∷ ms) = g ∷ log_of ms
log_of (Ack q ∷ ms) = log_of ms

pub log_append : (ms : List PlainMessage) (g : PlainGroup) → log_of (ms ++ Append g ∷ []) ≡ log_of ms ++ g ∷ []
log_append [] g = refl
log_append (Append h ∷ ms) g = ap (λ (l : List PlainGroup). h ∷ l) (log_append ms g)
log_append (Ack q ∷ ms) g = log_append ms g

pub log_ack : (ms : List PlainMessage) (q : ℕ) → log_of (ms ++ Ack q ∷ []) ≡ log_of ms
log_ack [] q = refl
log_ack (Append h ∷ ms) q = ap (λ (l : List PlainGroup). h ∷ l) (log_ack ms q)
log_ack (Ack p ∷ ms) q = log_ack ms q

pub logged_at : (ms : List PlainMessage) (k : ℕ) (g : PlainGroup) → slice_get ms k ≡ Some (Append g) → (i : ℕ) × (slice_get (log_of ms) i ≡ Some g)
logged_at [] k g e = absurd (cc)
logged_at (Append h ∷ ms) zero g e = (0, cc)
logged_at (Append h ∷ ms) (suc k) g e = let r = logged_at ms k g e in (suc r.0, r.1)
logged_at (Ack q ∷ ms) zero g e = absurd (cc)
logged_at (Ack q ∷ ms) (suc k) g e = logged_at ms k g e

pub record LogFacts (sent : List PlainMessage) (stored : List PlainGroup) (acks : List Bool) : Type 0 where
  -- the groups are numbered from 1
  pub numbered : (i : ℕ) (g : PlainGroup) → slice_get (log_of sent) i ≡ Some g → seq_of g ≡ i + 1
  pub counted : length (log_of sent) ≡ length acks
  -- the store has the first ones
  pub held : (i : ℕ) → i < length stored → slice_get stored i ≡ slice_get (log_of sent) i
  pub short : length stored ≤ length (log_of sent)
  -- what is acknowledged is stored
  pub came : (i : ℕ) → slice_get acks i ≡ Some true → i < length stored
  pub told : (k q : ℕ) → slice_get sent k ≡ Some (Ack q) → (1 ≤ q) × (q ≤ length stored)

module _ (sent : List PlainMessage) (stored : List PlainGroup) (acks : List Bool) (f : LogFacts sent stored acks) where
  -- a group that was sent stands in the log at its number
  pub found : (k : ℕ) (g : PlainGroup) → slice_get sent k ≡ Some (Append g) → (slice_get (log_of sent) (seq_of g - 1) ≡ Some g) × (1 ≤ seq_of g)
  found k g e =
      let at = logged_at sent k g e in
      let n : seq_of g ≡ at.0 + 1 = f.numbered at.0 g at.1 in
      let same : seq_of g - 1 ≡ at.0 = omega arith in
      (ap (λ (i : ℕ). slice_get (log_of sent) i) same ∙ at.1, omega arith)

  pub one_logged : (g : PlainGroup) → seq_of g ≡ length acks + 1 → LogFacts (sent ++ Append g ∷ []) stored (acks ++ false ∷ [])
  one_logged g n = record {
    numbered = λ i h e. numbered i h (got_pushed (log_of sent) g h i (ap (λ (l : List PlainGroup). slice_get l i) (sym (log_append sent g)) ∙ e));
    counted = omega (arith, ap (λ (l : List PlainGroup). length l) (log_append sent g), length-append (log_of sent) (g ∷ []), length-append acks (false ∷ []), f.counted);
    held = λ i h. f.held i h ∙ sym (ap (λ (l : List PlainGroup). slice_get l i) (log_append sent g) ∙ got_left (log_of sent) (g ∷ []) i (omega (arith, f.short)));
    short = omega (arith, ap (λ (l : List PlainGroup). length l) (log_append sent g), length-append (log_of sent) (g ∷ []), f.short);
    came = λ i e. came i (got_pushed acks false true i e);
    told = λ k q e. told k q (got_pushed sent (Append g) (Ack q) k e);
  }
    where
      numbered : (i : ℕ) (h : PlainGroup) → (slice_get (log_of sent) i ≡ Some h) ⊎ ((i ≡ length (log_of sent)) × (h ≡ g)) → seq_of h ≡ i + 1
      numbered i h (inl e) = f.numbered i h e
      numbered i h (inr e) = omega (arith, ap seq_of e.1, e.0, n, f.counted)

      came : (i : ℕ) → (slice_get acks i ≡ Some true) ⊎ ((i ≡ length acks) × (true ≡ false)) → i < length stored
      came i (inl e) = f.came i e
      came i (inr e) = let clash = e.1 in absurd (cc)

      told : (k q : ℕ) → (slice_get sent k ≡ Some (Ack q)) ⊎ ((k ≡ length sent) × (Ack q ≡ Append g)) → (1 ≤ q) × (q ≤ length stored)
      told k q (inl e) = f.told k q e
      told k q (inr e) = let clash = e.1 in absurd (cc)

  pub one_stored : (k : ℕ) (g : PlainGroup) → slice_get sent k ≡ Some (Append g) → seq_of g ≡ length stored + 1 → LogFacts (sent ++ Ack (seq_of g) ∷ []) (stored ++ g ∷ []) acks
  one_stored k g e n = record {
    numbered = λ i h is. f.numbered i h (ap (λ (l : List PlainGroup). slice_get l i) (sym (log_ack sent (seq_of g))) ∙ is);
    counted = ap (λ (l : List PlainGroup). length l) (log_ack sent (seq_of g)) ∙ f.counted;
    held = λ i h. held i (got_within (stored ++ g ∷ []) i h) ∙ sym (ap (λ (l : List PlainGroup). slice_get l i) (log_ack sent (seq_of g)));
    short = omega (arith, ap (λ (l : List PlainGroup). length l) (log_ack sent (seq_of g)), longer, place);
    came = λ i is. let before = f.came i is in omega (arith, longer);
    told = λ j q is. told j q (got_pushed sent (Ack (seq_of g)) (Ack q) j is);
  }
    where
      longer : length (stored ++ g ∷ []) ≡ length stored + 1
      longer = length-append stored (g ∷ [])

      there : slice_get (log_of sent) (seq_of g - 1) ≡ Some g
      there = (found k g e).0

      place : length stored < length (log_of sent)
      place = let within = slice_get_within (log_of sent) (seq_of g - 1) g there in omega arith

      held_by : (i : ℕ) (x : PlainGroup) → (slice_get stored i ≡ Some x) ⊎ ((i ≡ length stored) × (x ≡ g)) → slice_get (stored ++ g ∷ []) i ≡ Some x → slice_get (stored ++ g ∷ []) i ≡ slice_get (log_of sent) i
      held_by i x (inl is) whole = let within = slice_get_within stored i x is in got_left stored (g ∷ []) i within ∙ f.held i within
      held_by i x (inr is) whole =
          let same : i ≡ seq_of g - 1 = omega (arith, is.0, n) in
          whole ∙ ap (λ (y : PlainGroup). Some y) is.1 ∙ sym (ap (λ (j : ℕ). slice_get (log_of sent) j) same ∙ there)

      held : (i : ℕ) → (x : PlainGroup) × (slice_get (stored ++ g ∷ []) i ≡ Some x) → slice_get (stored ++ g ∷ []) i ≡ slice_get (log_of sent) i
      held i x = held_by i x.0 (got_pushed stored g x.0 i x.1) x.1

      told : (j q : ℕ) → (slice_get sent j ≡ Some (Ack q)) ⊎ ((j ≡ length sent) × (Ack q ≡ Ack (seq_of g))) → (1 ≤ q) × (q ≤ length (stored ++ g ∷ []))
      told j q (inl is) = let before = f.told j q is in (before.0, omega (arith, before.1, longer))
      told j q (inr is) = let clash = is.1 in let same : q ≡ seq_of g = cc in (omega (arith, same, n), omega (arith, same, n, longer))

  pub told_again : (q : ℕ) → 1 ≤ q → q ≤ length stored → LogFacts (sent ++ Ack q ∷ []) stored acks
  told_again q least most = record {
    numbered = λ i h is. f.numbered i h (ap (λ (l : List PlainGroup). slice_get l i) (sym (log_ack sent q)) ∙ is);
    counted = ap (λ (l : List PlainGroup). length l) (log_ack sent q) ∙ f.counted;
    held = λ i h. f.held i h ∙ sym (ap (λ (l : List PlainGroup). slice_get l i) (log_ack sent q));
    short = omega (arith, ap (λ (l : List PlainGroup). length l) (log_ack sent q), f.short);
    came = f.came;
    told = λ j p is. told j p (got_pushed sent (Ack q) (Ack p) j is);
  }
    where
      told : (j p : ℕ) → (slice_get sent j ≡ Some (Ack p)) ⊎ ((j ≡ length sent) × (Ack p ≡ Ack q)) → (1 ≤ p) × (p ≤ length stored)
      told j p (inl is) = f.told j p is
      told j p (inr is) = let clash = is.1 in let same : p ≡ q = cc in (omega (arith, same), omega (arith, same))

  pub one_acknowledged : (q : ℕ) → 1 ≤ q → q ≤ length stored → LogFacts sent stored (set acks (q - 1) true)
  one_acknowledged q least most = record {
    numbered = f.numbered;
    counted = f.counted ∙ sym (length-set acks (q - 1) true);
    held = f.held;
    short = f.short;
    came = λ i is. came i (got_set acks (q - 1) i true true is);
    told = f.told;
  }
    where
      came : (i : ℕ) → (slice_get acks i ≡ Some true) ⊎ (i ≡ q - 1) → i < length stored
      came i (inl is) = f.came i is
      came i (inr is) = omega (arith, is)
