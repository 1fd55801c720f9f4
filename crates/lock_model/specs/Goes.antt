-- How the lock manager's state goes on, as far as old messages speak of it.
use Rattle.std.specs.Prelude.{◌≡◌, ◌<◌, ◌≤◌, ◌⊎◌, ℕ, Bool, true, false}
use Rattle.std.specs.declared.option.Option.{Option}
use Rattle.std.specs.declared.option.Option.TheVariants.{None, Some}
use Rattle.tm_data.specs.Vectors.{Covers}
use Rattle.tm_base.specs.declared.message.Note.{Note}
use Rattle.tm_base.specs.declared.message.Note.TheVariants as note
use Rattle.lock_model.specs.declared.writer.Fresh.{Fresh}
use Rattle.lock_model.specs.declared.writer.WriterEntry.{WriterEntry}
use Rattle.lock_model.specs.declared.writer.WriterStatus.{WriterStatus}
use Rattle.lock_model.specs.declared.writer.WriterStatus.TheVariants.{Live, Closed, Recovered}
use Rattle.lock_model.specs.State.{State, at, page_in, is_holder}
use Rattle.lock_model.specs.Facts.{PageGoes}

-- ---- one writer

-- Live, closed, taken, recovered, in this order. The end of a log stays once there is one, and so does the
-- vector of a recovered writer.
abbrev pub StatusGoes : WriterStatus → WriterStatus → Type 0
StatusGoes Live new = Unit {0}
StatusGoes (Closed length store taken) Live = ⊥
StatusGoes (Closed length store taken) (Closed length' store' taken') = (length' ≡ length) × (store' ≡ store) × (taken ≡ true → taken' ≡ true)
StatusGoes (Closed length store taken) (Recovered length' store' vector) = (length' ≡ length) × (store' ≡ store)
StatusGoes (Recovered length store vector) (Recovered length' store' vector') = (length' ≡ length) × (store' ≡ store) × (vector' ≡ vector)
StatusGoes (Recovered length store vector) other = ⊥

-- A later answer to a request for a fresh page names none that was given out before.
pub record IsLaterFresh (next : ℕ) (old new : Fresh) : Type 0 where
  pub rises : old.nth < new.nth
  pub above : (q : ℕ) → new.page ≡ Some (record { 0 = q }) → next ≤ q

abbrev pub FreshGoes : ℕ → Fresh → Fresh → Type 0
FreshGoes next old new = (new ≡ old) ⊎ IsLaterFresh next old new

-- Master, boot number and start stay.
pub record WriterGoes (next : ℕ) (old new : WriterEntry) : Type 0 where
  pub master : new.master ≡ old.master
  pub boot : new.boot ≡ old.boot
  pub start : new.start ≡ old.start
  pub status : StatusGoes old.status new.status
  pub fresh : FreshGoes next old.fresh new.fresh

-- ---- the state

-- Whether there is such a writer, and its log has an end.
abbrev pub has_ended : WriterStatus → Bool
has_ended Live = false
has_ended (Closed length store taken) = true
has_ended (Recovered length store vector) = true

abbrev pub has_ended_at : Option WriterEntry → Bool
has_ended_at None = false
has_ended_at (Some e) = has_ended e.status

-- A writer that came since then.
pub record CameSince (scalar next : ℕ) (e : WriterEntry) : Type 0 where
  pub start : scalar ≤ e.start.0
  pub fresh : (q : ℕ) → e.fresh.page ≡ Some (record { 0 = q }) → next ≤ q

pub record Goes (old new : State) : Type 0 where
  pub scalar : old.scalar ≤ new.scalar
  pub next : old.next_fresh ≤ new.next_fresh
  pub writers : (w : ℕ) (e : WriterEntry) → at old.writers w ≡ Some e → (f : WriterEntry) × (at new.writers w ≡ Some f) × WriterGoes old.next_fresh e f
  pub newcomers : (w : ℕ) (f : WriterEntry) → at old.writers w ≡ None → at new.writers w ≡ Some f → CameSince old.scalar old.next_fresh f
  pub pages : (q : ℕ) → PageGoes (page_in old q) (page_in new q)
  -- a writer whose log has an end gains no page
  pub gains : (w q : ℕ) → has_ended_at (at old.writers w) ≡ true → is_holder (page_in old q) w ≡ false → is_holder (page_in new q) w ≡ false

-- ---- stamps and vectors of pages

-- A release has at least the stamp that the page had when it was leased.
abbrev pub BringsStamp : State → Note → Type 0
BringsStamp s (note.Release writer page epoch stamp tags vector) =
    is_holder (page_in s page.0) writer.0 ≡ true → epoch ≡ (page_in s page.0).epoch → (page_in s page.0).stamp.0 ≤ stamp.0
BringsStamp s other = Unit {0}

-- Then stamps of pages never fall, and what is known at a page of each writer doesn't either.
pub record Rises (old new : State) : Type 0 where
  pub stamps : (q : ℕ) → (page_in old q).stamp.0 ≤ (page_in new q).stamp.0
  pub vectors : (q : ℕ) → Covers (page_in new q).vector (page_in old q).vector
