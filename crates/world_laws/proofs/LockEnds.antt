-- What a step of the lock manager does to the ends of logs, and to what is kept of them.
use Rattle.std.proofs.Common.{◌≡◌, ◌≢◌, ◌⊎◌, ℕ, Bool, true, false, not, cond, ◌&&◌, ◌||◌, nat_eq, List, Option, Some, None, refl, sym, subst, ap, ◌∙◌, inl, inr, arith}
use Rattle.std.proofs.lemmas.Bool.Decides.{nat_tests}
use Rattle.std.specs.FinMap as fin
use Rattle.std.specs.FinSet.{FinSet}
use Rattle.std.specs.FinSet as sets
use Rattle.std.specs.Cmp.{unsigned_tied}
use Rattle.tm_data.specs.Orders.{writer_cmp, writer_cmp-total}
use Rattle.tm_data.specs.declared.transaction.Writer.{Writer}
use Rattle.tm_data.specs.declared.vector.VectorEntry.{VectorEntry}
use Rattle.tm_base.specs.declared.message.Node.{Node}
use Rattle.tm_base.specs.declared.message.Note.{Note}
use Rattle.tm_base.specs.declared.message.Note.TheVariants as note
use Rattle.lock_model.specs.declared.writer.WriterEntry.{WriterEntry}
use Rattle.lock_model.specs.declared.writer.WriterStatus.{WriterStatus}
use Rattle.lock_model.specs.declared.writer.WriterStatus.TheVariants.{Live, Closed, Recovered}
use Rattle.lock_model.specs.State.{State, at, is_live}
use Rattle.lock_model.specs.Moves.{IsAfter, asks_next, closed_by, has_next, is_live_at, next_page_of, taken_by, undone_by, writer_after}
use Rattle.lock_model.specs.Runs.{LogEnd, end_of, ended_at}
use Rattle.world_model.specs.Past as past
use Rattle.world_model.specs.Past.{closes, managed_by, recovers}
use Rattle.world_model.specs.World.{Past}

-- ---- one writer

-- A writer whose entry keeps its end, or that came, has the end that it had.
kept_end : (s t : State) (from : Node) (n : Note) (w : ℕ) → IsAfter s from n t
    → ((e : WriterEntry) → end_of (writer_after s n w e).status ≡ end_of e.status)
    → ended_at (at t.writers w) ≡ ended_at (at s.writers w)
kept_end s t from n w a h = by (at s.writers w) refl (at t.writers w) refl
  where
    by : (o : Option WriterEntry) → at s.writers w ≡ o → (q : Option WriterEntry) → at t.writers w ≡ q → ended_at q ≡ ended_at o
    by None is None so = refl
    by None is (Some f) so = ap (λ (x : WriterStatus). end_of x) (a.new w f is so).live
    by (Some e) is q so = subst (λ (x : Option WriterEntry). ended_at x ≡ end_of e.status) (sym (a.known w e is) ∙ so) (h e)

taken_end : (b : Bool) (e : WriterEntry) (x : WriterStatus) → e.status ≡ x → end_of (taken_by b e x).status ≡ end_of e.status
taken_end true e Live is = refl
taken_end true e (Closed length store taken) is = sym (ap (λ (y : WriterStatus). end_of y) is)
taken_end true e (Recovered length store vector) is = refl
taken_end false e x is = refl

undone_end : (b : Bool) (vector : List VectorEntry) (e : WriterEntry) (x : WriterStatus) → e.status ≡ x → end_of (undone_by b vector e x).status ≡ end_of e.status
undone_end true vector e Live is = refl
undone_end true vector e (Closed length store true) is = sym (ap (λ (y : WriterStatus). end_of y) is)
undone_end true vector e (Closed length store false) is = refl
undone_end true vector e (Recovered length store known) is = refl
undone_end false vector e x is = refl

fresh_end : (s : State) (b : Bool) (nth : ℕ) (e : WriterEntry)
    → end_of (cond b (record e { fresh = record { nth = nth; page = next_page_of s (has_next s) } }) e).status ≡ end_of e.status
fresh_end s true nth e = refl
fresh_end s false nth e = refl

-- A close of another writer, or of one whose log has an end, leaves the ends.
closed_end : (b : Bool) (length store : ℕ) (e : WriterEntry) (x : WriterStatus) → (b ≡ true → is_live x ≡ false) → end_of (closed_by b length store e x).status ≡ end_of e.status
closed_end true length store e Live h = absurd (cc (h refl))
closed_end true length store e (Closed kept_length kept_store taken) h = refl
closed_end true length store e (Recovered kept_length kept_store vector) h = refl
closed_end false length store e x h = refl

-- ---- all writers

-- No end changes, and no number of durable groups.
pub record NoEnd (p : Past) (s t : State) (n : Note) : Type 0 where
  pub same : (w : ℕ) → ended_at (at t.writers w) ≡ ended_at (at s.writers w)
  pub reached : (managed_by p s t n).hard ≡ p.hard
  pub closed : (managed_by p s t n).ended ≡ p.ended

-- Or a close gives one writer's log its end, and that is its number.
pub record OneEnd (p : Past) (s t : State) (n : Note) : Type 0 where
  pub writer : Writer
  pub end : LogEnd
  pub is : n ≡ note.Close writer end.length end.store
  pub was : ended_at (at s.writers writer.0) ≡ None
  pub now : ended_at (at t.writers writer.0) ≡ Some end
  pub others : (w : ℕ) → w ≢ writer.0 → ended_at (at t.writers w) ≡ ended_at (at s.writers w)
  pub reached : (managed_by p s t n).hard ≡ fin.insert p.hard writer.0 end.length
  pub closed : (managed_by p s t n).ended ≡ sets.insert p.ended writer

abbrev pub Ends : Past → State → State → Note → Type 0
Ends p s t n = NoEnd p s t n ⊎ OneEnd p s t n

recovers_hard : (p : Past) (w : Writer) (b : Bool) → (cond b (recovers p w) p).hard ≡ p.hard
recovers_hard p w true = refl
recovers_hard p w false = refl

recovers_ended : (p : Past) (w : Writer) (b : Bool) → (cond b (recovers p w) p).ended ≡ p.ended
recovers_ended p w true = refl
recovers_ended p w false = refl

-- ---- sets of writers

pub ended_here : (ws : FinSet writer_cmp) (w added : Writer) → w.0 ≡ added.0 → sets.contains (sets.insert ws added) w ≡ true
ended_here ws w added same =
    sets.contains-insert writer_cmp-total ws added w
    ∙ ap (λ (b : Bool). b || sets.contains ws w) (unsigned_tied w.0 added.0 ∙ (let yes : nat_eq w.0 added.0 ≡ true = grind (arith, nat_tests) in yes))

pub ended_other : (ws : FinSet writer_cmp) (w added : Writer) → w.0 ≢ added.0 → sets.contains (sets.insert ws added) w ≡ sets.contains ws w
ended_other ws w added apart =
    sets.contains-insert writer_cmp-total ws added w
    ∙ ap (λ (b : Bool). b || sets.contains ws w) (unsigned_tied w.0 added.0 ∙ (let not : nat_eq w.0 added.0 ≡ false = grind (arith, nat_tests) in not))

not_closed : (p : Past) (s t : State) (from : Node) (writer : Writer) (length store : ℕ) → IsAfter s from (note.Close writer length store) t
    → past.is_live (at s.writers writer.0) ≡ false
    → NoEnd p s t (note.Close writer length store)
not_closed p s t from writer length store a over = record {
  same = λ w. kept_end_where w;
  reached = ap (λ (b : Bool). (cond (b && not (past.is_live (at t.writers writer.0))) (closes p writer length) p).hard) over;
  closed = ap (λ (b : Bool). (cond (b && not (past.is_live (at t.writers writer.0))) (closes p writer length) p).ended) over;
}
  where
    status_over : (w : ℕ) (e : WriterEntry) → at s.writers w ≡ Some e → nat_eq w writer.0 ≡ true → is_live e.status ≡ false
    status_over w e is one =
        let same : w ≡ writer.0 = grind (arith, nat_tests) in
        ap (λ (o : Option WriterEntry). past.is_live o) (sym is) ∙ (ap (λ (k : ℕ). past.is_live (at s.writers k)) same ∙ over)

    kept_end_where : (w : ℕ) → ended_at (at t.writers w) ≡ ended_at (at s.writers w)
    kept_end_where w = by (at s.writers w) refl (at t.writers w) refl
      where
        by : (o : Option WriterEntry) → at s.writers w ≡ o → (q : Option WriterEntry) → at t.writers w ≡ q → ended_at q ≡ ended_at o
        by None is None so = refl
        by None is (Some f) so = ap (λ (x : WriterStatus). end_of x) (a.new w f is so).live
        by (Some e) is q so =
            subst (λ (x : Option WriterEntry). ended_at x ≡ end_of e.status) (sym (a.known w e is) ∙ so)
            (closed_end (nat_eq w writer.0) length store e e.status (status_over w e is))

closed : (p : Past) (s t : State) (from : Node) (writer : Writer) (length store : ℕ) → IsAfter s from (note.Close writer length store) t
    → (e : WriterEntry) → at s.writers writer.0 ≡ Some e → e.status ≡ Live
    → OneEnd p s t (note.Close writer length store)
closed p s t from writer length store a e is live = record {
  writer = writer;
  end = record { length = length; store = store };
  is = refl;
  was = ap (λ (o : Option WriterEntry). ended_at o) is ∙ ap (λ (x : WriterStatus). end_of x) live;
  now = ap (λ (o : Option WriterEntry). ended_at o) there;
  others = others;
  reached = ap (λ (b : Bool). (cond (b && not (past.is_live (at t.writers writer.0))) (closes p writer length) p).hard) was_live
      ∙ ap (λ (b : Bool). (cond (not b) (closes p writer length) p).hard) now_over;
  closed = ap (λ (b : Bool). (cond (b && not (past.is_live (at t.writers writer.0))) (closes p writer length) p).ended) was_live
      ∙ ap (λ (b : Bool). (cond (not b) (closes p writer length) p).ended) now_over;
}
  where
    one : nat_eq writer.0 writer.0 ≡ true
    one = grind (arith, nat_tests)

    there : at t.writers writer.0 ≡ Some (record e { status = Closed length store false })
    there =
        a.known writer.0 e is
        ∙ (ap (λ (b : Bool). Some (closed_by b length store e e.status)) one ∙ ap (λ (x : WriterStatus). Some (closed_by true length store e x)) live)

    was_live : past.is_live (at s.writers writer.0) ≡ true
    was_live = ap (λ (o : Option WriterEntry). past.is_live o) is ∙ ap (λ (x : WriterStatus). is_live x) live

    now_over : past.is_live (at t.writers writer.0) ≡ false
    now_over = ap (λ (o : Option WriterEntry). past.is_live o) there

    others : (w : ℕ) → w ≢ writer.0 → ended_at (at t.writers w) ≡ ended_at (at s.writers w)
    others w apart = by (at s.writers w) refl (at t.writers w) refl
      where
        by : (o : Option WriterEntry) → at s.writers w ≡ o → (q : Option WriterEntry) → at t.writers w ≡ q → ended_at q ≡ ended_at o
        by None is None so = refl
        by None is (Some f) so = ap (λ (x : WriterStatus). end_of x) (a.new w f is so).live
        by (Some e) is q so =
            subst (λ (x : Option WriterEntry). ended_at x ≡ end_of e.status) (sym (a.known w e is) ∙ so)
            (closed_end (nat_eq w writer.0) length store e e.status (λ same. absurd (apart (grind (arith, nat_tests)))))

close_ends : (p : Past) (s t : State) (from : Node) (writer : Writer) (length store : ℕ) → IsAfter s from (note.Close writer length store) t
    → Ends p s t (note.Close writer length store)
close_ends p s t from writer length store a = by (at s.writers writer.0) refl
  where
    by_status : (e : WriterEntry) → at s.writers writer.0 ≡ Some e → (x : WriterStatus) → e.status ≡ x → Ends p s t (note.Close writer length store)
    by_status e is Live so = inr (closed p s t from writer length store a e is so)
    by_status e is (Closed kept_length kept_store taken) so =
        inl (not_closed p s t from writer length store a (ap (λ (o : Option WriterEntry). past.is_live o) is ∙ ap (λ (x : WriterStatus). is_live x) so))
    by_status e is (Recovered kept_length kept_store vector) so =
        inl (not_closed p s t from writer length store a (ap (λ (o : Option WriterEntry). past.is_live o) is ∙ ap (λ (x : WriterStatus). is_live x) so))

    by : (o : Option WriterEntry) → at s.writers writer.0 ≡ o → Ends p s t (note.Close writer length store)
    by None is = inl (not_closed p s t from writer length store a (ap (λ (o : Option WriterEntry). past.is_live o) is))
    by (Some e) is = by_status e is e.status refl

-- By the kind of message.
pub ends_of : (p : Past) (s t : State) (from : Node) (n : Note) → IsAfter s from n t → Ends p s t n
ends_of p s t from (note.Close writer length store) a = close_ends p s t from writer length store a
ends_of p s t from (note.Takeover writer part rest listed vector) a =
    inl (record { same = λ w. kept_end s t from (note.Takeover writer part rest listed vector) w a (λ e. taken_end (nat_eq w writer.0 && rest) e e.status refl); reached = refl; closed = refl })
ends_of p s t from (note.Undone writer recoverer vector) a =
    inl (record {
      same = λ w. kept_end s t from (note.Undone writer recoverer vector) w a (λ e. undone_end (nat_eq w writer.0 && is_live_at (at s.writers recoverer.0)) vector e e.status refl);
      reached = recovers_hard p writer (not (past.is_recovered (at s.writers writer.0)) && past.is_recovered (at t.writers writer.0));
      closed = recovers_ended p writer (not (past.is_recovered (at s.writers writer.0)) && past.is_recovered (at t.writers writer.0));
    })
ends_of p s t from (note.RequestFresh writer nth) a =
    inl (record { same = λ w. kept_end s t from (note.RequestFresh writer nth) w a (λ e. fresh_end s (nat_eq w writer.0 && asks_next (Some e) nth) nth e); reached = refl; closed = refl })
ends_of p s t from n a = inl (record { same = λ w. kept_end s t from n w a (λ e. refl); reached = refl; closed = refl })
