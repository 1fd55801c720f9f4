-- A page that is put, or taken, and who holds it.
use Rattle.std.proofs.Common.{◌≡◌, ◌≤◌, ℕ, Bool, true, false, List, [], ◌∷◌, Option, Some, None, refl, ap, sym, subst, ◌∙◌, cond, arith}
use Rattle.std.specs.Prelude.{nat_eq, not, ◌&&◌, length}
use Rattle.std.specs.Option.{option_map}
use Rattle.std.proofs.lemmas.Bool.Decides.{nat_tests}
use Rattle.tm_data.specs.declared.transaction.Writer.{Writer}
use Rattle.tm_data.specs.declared.vector.VectorEntry.{VectorEntry}
use Rattle.tm_base.specs.declared.message.Message.{Message}
use Rattle.tm_base.specs.declared.message.Node.{Node}
use Rattle.tm_base.specs.declared.message.Note.{Note}
use Rattle.tm_base.specs.declared.message.Note.TheVariants as note
use Rattle.tm_base.specs.declared.message.PageStamp.{PageStamp}
use Rattle.lock_model.specs.declared.page.PageEntry.{PageEntry}
use Rattle.lock_model.specs.declared.writer.WriterEntry.{WriterEntry}
use Rattle.lock_model.specs.declared.writer.WriterStatus.{WriterStatus}
use Rattle.lock_model.specs.declared.writer.WriterStatus.TheVariants.{Live, Closed, Recovered}
use Rattle.lock_model.specs.State.{State, at, put, or_unused, page_in, first_of, is_writer, is_holder}
use Rattle.lock_model.specs.Step as does
use Rattle.lock_model.specs.Step.{Effect}
use Rattle.lock_model.specs.Runs.{IsTakeover, StampStays}
use Rattle.lock_model.proofs.TableLemmas.{put_at, map_at}

-- ---- a step that puts one page

pub put_page : (s : State) (page : ℕ) (e : PageEntry) (q : ℕ) → or_unused (at (put s.pages page e) q) ≡ cond (nat_eq q page) e (page_in s q)
put_page s page e q = ap or_unused (put_at s.pages page e q) ∙ by (nat_eq q page)
  where
    by : (b : Bool) → or_unused (cond b (Some e) (at s.pages q)) ≡ cond b e (page_in s q)
    by true = refl
    by false = refl

pub put_here : (s : State) (page : ℕ) (e : PageEntry) → or_unused (at (put s.pages page e) page) ≡ e
put_here s page e = put_page s page e page ∙ by (nat_eq page page) refl
  where
    by : (b : Bool) → nat_eq page page ≡ b → cond b e (page_in s page) ≡ e
    by true is = refl
    by false is = absurd (grind (arith, nat_tests))

-- ---- holders

pub no_holder : (hs : List Writer) → first_of hs ≡ None → hs ≡ []
no_holder [] h = refl
no_holder (w ∷ hs) h = absurd (cc h)

pub a_holder : (hs : List Writer) (w : Writer) → first_of hs ≡ Some w → (rest : List Writer) × (hs ≡ w ∷ rest)
a_holder [] w h = absurd (cc h)
a_holder (x ∷ hs) w h = (hs, ap (λ (y : Writer). y ∷ hs) (cc h))

pub holds_some : (hs : List Writer) (w : ℕ) → is_writer (first_of hs) w ≡ true → hs ≡ [] → ⊥
holds_some [] w h none = absurd (cc h)
holds_some (x ∷ hs) w h none = absurd (cc none)

pub first_true : (b c : Bool) → (b && c) ≡ true → b ≡ true
first_true true c h = refl
first_true false c h = h

-- ---- takeovers

-- what a takeover makes of each page
abbrev pub taken_of : ℕ → Bool → List (ℕ × ℕ) → List VectorEntry → ℕ → PageEntry → PageEntry
taken_of writer rest listed vector q x = does.or_kept x (does.freed_with x vector (is_holder x writer) (at listed q) rest)

pub taken_at : (pages : List (ℕ × PageEntry)) (writer : ℕ) (rest : Bool) (listed : List (ℕ × ℕ)) (vector : List VectorEntry) (q : ℕ)
    → or_unused (at (does.taken pages writer rest listed vector) q) ≡ taken_of writer rest listed vector q (or_unused (at pages q))
taken_at pages writer rest listed vector q = ap or_unused (map_at (taken_of writer rest listed vector) pages q) ∙ by (at pages q)
  where
    by : (o : Option PageEntry) → or_unused (option_map (taken_of writer rest listed vector q) o) ≡ taken_of writer rest listed vector q (or_unused o)
    by None = refl
    by (Some x) = refl

-- ---- a takeover lowers no stamp

freed_stamp : (x : PageEntry) (vector : List VectorEntry) (b : Bool) (listed : Option ℕ) (rest : Bool) → x.stamp.0 ≤ (does.or_kept x (does.freed_with x vector b listed rest)).stamp.0
freed_stamp x vector false listed rest = omega arith
freed_stamp x vector true (Some stamp) rest = omega arith
freed_stamp x vector true None true = omega arith
freed_stamp x vector true None false = omega arith

taking_stamp : (s : State) (from : Node) (writer part : ℕ) (rest : Bool) (listed : List (ℕ × ℕ)) (vector : List VectorEntry) (e : WriterEntry) (length store : ℕ) (done : Bool) (q : ℕ)
    → (page_in s q).stamp.0 ≤ (page_in (does.on_taking s from writer part rest listed vector e length store done).0 q).stamp.0
taking_stamp s from writer part rest listed vector e length store true q =
    subst (λ (x : PageEntry). (page_in s q).stamp.0 ≤ x.stamp.0) (sym (taken_at s.pages writer rest listed vector q)) (freed_stamp (page_in s q) vector (is_holder (page_in s q) writer) (at listed q) rest)
taking_stamp s from writer part rest listed vector e length store false q =
    subst (λ (x : PageEntry). (page_in s q).stamp.0 ≤ x.stamp.0) (sym (taken_at s.pages writer rest listed vector q)) (freed_stamp (page_in s q) vector (is_holder (page_in s q) writer) (at listed q) rest)

takeover_stamp : (s : State) (from : Node) (writer part : ℕ) (rest : Bool) (listed : List PageStamp) (vector : List VectorEntry) (o : Option WriterEntry) (q : ℕ)
    → (page_in s q).stamp.0 ≤ (page_in (does.on_takeover s from writer part rest listed vector o).0 q).stamp.0
takeover_stamp s from writer part rest listed vector None q = omega arith
takeover_stamp s from writer part rest listed vector (Some e) q = by e.status
  where
    by : (status : WriterStatus) → (page_in s q).stamp.0 ≤ (page_in (does.on_takeover_of s from writer part rest listed vector e status).0 q).stamp.0
    by Live = omega arith
    by (Closed length store taken) = taking_stamp s from writer part rest (does.stamps [] listed) vector e length store (rest && not taken) q
    by (Recovered length store kept) = omega arith

note_stamp : (s : State) (from : Node) (n : Note) (q : ℕ) → IsTakeover n → (page_in s q).stamp.0 ≤ (page_in (does.on_note s from n).0 q).stamp.0
note_stamp s from (note.Takeover writer part rest pages vector) q h = takeover_stamp s from writer.0 part rest pages vector (at s.writers writer.0) q
note_stamp s from other q h = absurd h

pub stamp_stays : (s : State) (m : Message) (page : ℕ) → StampStays s m page
stamp_stays s m page h = note_stamp (does.heard s m.stamp.0) m.from m.note page h
