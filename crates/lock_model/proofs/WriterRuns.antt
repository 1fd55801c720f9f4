-- What holds of the writers in every run.
use Rattle.std.proofs.Common.{◌≡◌, ◌<◌, ◌≤◌, ℕ, Bool, true, false, List, [], ◌∷◌, Option, Some, None, refl, ap, sym, subst, ◌∙◌, cond, arith, inl, inr}
use Rattle.std.specs.Prelude.{◌⊎◌, length, nat_eq, nat_lt}
use Rattle.std.specs.List.{AllByRecursion, Contains}
use Rattle.std.proofs.lemmas.List.Elements.{Contains-append_cases}
use Rattle.std.proofs.lemmas.Bool.Decides.{nat_tests}
use Rattle.tm_data.specs.declared.transaction.Page.{Page}
use Rattle.tm_data.specs.declared.transaction.Stamp.{Stamp}
use Rattle.tm_data.specs.declared.transaction.Writer.{Writer}
use Rattle.tm_base.specs.declared.message.Message.{Message}
use Rattle.tm_base.specs.declared.message.Node.{Node}
use Rattle.tm_base.specs.declared.message.Note.{Note}
use Rattle.tm_base.specs.declared.message.Note.TheVariants as note
use Rattle.tm_base.specs.declared.message.RosterEntry.{RosterEntry}
use Rattle.lock_model.specs.declared.writer.Fresh.{Fresh}
use Rattle.lock_model.specs.declared.writer.WriterEntry.{WriterEntry}
use Rattle.lock_model.specs.declared.writer.WriterStatus.{WriterStatus}
use Rattle.lock_model.specs.declared.writer.WriterStatus.TheVariants.{Live, Closed, Recovered}
use Rattle.lock_model.specs.State.{State, start, at, is_live}
use Rattle.lock_model.specs.Moves.{is_live_at}
use Rattle.lock_model.specs.Step as does
use Rattle.lock_model.specs.Step.{step, roster, roster_entry, state_told, length_told, heard}
use Rattle.lock_model.specs.Runs.{after, sent, LogEnd, end_of, ended_at, IsSameWriter, WriterStays, WritersDiffer, told_of, IsToldLive, TellsEnd, EndStays, RosterHas, RostersAreWhole, SameFresh, FreshAgree, GivesEnd}
use Rattle.lock_model.proofs.WriterLemmas.{Numbered, FreshGoes, WriterMove, TellsWriters, WriterStep, note_writer, put_found}
use Rattle.lock_model.proofs.PageRuns.{all_each, all_join, all_at}

-- ---- a step, with the message heard

pub step_writer : (s : State) (m : Message) → Numbered s.writers → WriterStep (heard s m.stamp.0) (step s m)
step_writer s m n =
    let r = note_writer (heard s m.stamp.0) m.from m.note n in
    record { asker = r.asker; moves = r.moves; tells = r.tells; scalar = r.scalar; next = r.next; count = r.count }

pub scalar_rises : (s : State) (m : Message) → Numbered s.writers → s.scalar ≤ (step s m).0.scalar
scalar_rises s m n = omega (arith, (step_writer s m n).scalar)

-- ---- numbers and boot numbers

bounds_by : (s t : State) (asker w : ℕ) (o : Option WriterEntry) (f : WriterEntry) → WriterMove s t asker w o (Some f) → ((e : WriterEntry) → o ≡ Some e → (1 ≤ w) × (w ≤ length s.writers))
    → length s.writers ≤ length t.writers → (1 ≤ w) × (w ≤ length t.writers)
bounds_by s t asker w None f m h more = (omega (arith, m.number), omega (arith, m.number, m.counted))
bounds_by s t asker w (Some e) f m h more = let b = h e refl in (b.0, omega (arith, b.1))

-- what an old writer and any other become
rising_by : (s t : State) (asker w v : ℕ) (o p : Option WriterEntry) (e f : WriterEntry) → at s.writers w ≡ o → at s.writers v ≡ p → Numbered s.writers
    → WriterMove s t asker w o (Some e) → WriterMove s t asker v p (Some f) → e.master ≡ f.master → w < v → e.boot < f.boot
rising_by s t asker w v None None e f is_o is_p n m k own less = absurd (omega (arith, m.number, k.number))
rising_by s t asker w v None (Some g) e f is_o is_p n m k own less = absurd (let b = n.bounds v g is_p in omega (arith, b.1, m.number))
rising_by s t asker w v (Some g) None e f is_o is_p n m k own less = omega (arith, k.newest w g is_o (sym m.same.master ∙ own), m.same.boot)
rising_by s t asker w v (Some g) (Some h) e f is_o is_p n m k own less =
    omega (arith, n.rising w v g h is_o is_p (sym m.same.master ∙ own ∙ k.same.master) less, m.same.boot, k.same.boot)

pub numbered_step : (s : State) (m : Message) → Numbered s.writers → Numbered (step s m).0.writers
numbered_step s m n =
    let h : State = heard s m.stamp.0 in
    let r = step_writer s m n in
    let t : State = (step s m).0 in
    record {
      bounds = λ w f found. bounds_by h t r.asker w (at s.writers w) f (subst (WriterMove h t r.asker w (at s.writers w)) found (r.moves w)) (λ e is. n.bounds w e is) r.count;
      rising = λ w v e f is_w is_v own less.
          rising_by h t r.asker w v (at s.writers w) (at s.writers v) e f refl refl n
          (subst (WriterMove h t r.asker w (at s.writers w)) is_w (r.moves w))
          (subst (WriterMove h t r.asker v (at s.writers v)) is_v (r.moves v))
          own less;
    }

pub numbered_after : (ms : List Message) (s : State) → Numbered s.writers → Numbered (after s ms).writers
numbered_after [] s n = n
numbered_after (m ∷ ms) s n = numbered_after ms (step s m).0 (numbered_step s m n)

pub numbered_start : Numbered start.writers
numbered_start = record { bounds = λ w e found. absurd (cc found); rising = λ w v e f is_w is_v own less. absurd (cc is_w) }

differ_by : (w v : ℕ) (ws : List (ℕ × WriterEntry)) (e f : WriterEntry) → Numbered ws → at ws w ≡ Some e → at ws v ≡ Some f → e.master ≡ f.master → e.boot ≡ f.boot → (b c : Bool) → nat_lt w v ≡ b → nat_lt v w ≡ c → w ≡ v
differ_by w v ws e f n is_w is_v own same true c is_b is_c = absurd (let less : w < v = grind (arith, nat_tests) in omega (arith, n.rising w v e f is_w is_v own less))
differ_by w v ws e f n is_w is_v own same false true is_b is_c = absurd (let less : v < w = grind (arith, nat_tests) in omega (arith, n.rising v w f e is_v is_w (sym own) less))
differ_by w v ws e f n is_w is_v own same false false is_b is_c = grind (arith, nat_tests)

pub writers_differ : (inputs : List Message) (w v : ℕ) (e f : WriterEntry) → WritersDiffer inputs w v e f
writers_differ inputs w v e f is_w is_v own same =
    differ_by w v (after start inputs).writers e f (numbered_after inputs start numbered_start) is_w is_v own same (nat_lt w v) (nat_lt v w) refl refl

-- ---- a writer stays the same

same_both : (a b c : WriterEntry) → IsSameWriter a b → IsSameWriter b c → IsSameWriter a c
same_both a b c h k = record {
  master = k.master ∙ h.master;
  boot = k.boot ∙ h.boot;
  start = k.start ∙ h.start;
  ended = λ end is. k.ended end (h.ended end is);
}

follows_by : (s t : State) (asker w : ℕ) (e : WriterEntry) (o : Option WriterEntry) → at t.writers w ≡ o → WriterMove s t asker w (Some e) o → (f : WriterEntry) × (at t.writers w ≡ Some f) × IsSameWriter e f
follows_by s t asker w e None is m = absurd m
follows_by s t asker w e (Some f) is m = (f, is, m.same)

follows_step : (s : State) (m : Message) (w : ℕ) (e : WriterEntry) → Numbered s.writers → at s.writers w ≡ Some e → (f : WriterEntry) × (at (step s m).0.writers w ≡ Some f) × IsSameWriter e f
follows_step s m w e n found =
    let r = step_writer s m n in
    let t : State = (step s m).0 in
    follows_by (heard s m.stamp.0) t r.asker w e (at t.writers w) refl (subst (λ (o : Option WriterEntry). WriterMove (heard s m.stamp.0) t r.asker w o (at t.writers w)) found (r.moves w))

follows_after : (ms : List Message) (s : State) (w : ℕ) (e : WriterEntry) → Numbered s.writers → at s.writers w ≡ Some e → (f : WriterEntry) × (at (after s ms).writers w ≡ Some f) × IsSameWriter e f
follows_after [] s w e n found = (e, found, record { master = refl; boot = refl; start = refl; ended = λ end h. h })
follows_after (m ∷ ms) s w e n found =
    let a = follows_step s m w e n found in
    let b = follows_after ms (step s m).0 w a.0 (numbered_step s m n) a.1 in (b.0, b.1, same_both e a.0 b.0 a.2 b.2)

pub writer_stays : (inputs later : List Message) (writer : ℕ) (e : WriterEntry) → WriterStays inputs later writer e
writer_stays inputs later writer e found = follows_after later (after start inputs) writer e (numbered_after inputs start numbered_start) found

-- ---- ends

ended_entry : (o : Option WriterEntry) (end : LogEnd) → ended_at o ≡ Some end → (e : WriterEntry) × (o ≡ Some e) × (end_of e.status ≡ Some end)
ended_entry None end h = absurd (cc h)
ended_entry (Some e) end h = (e, refl, h)

ended_after : (ms : List Message) (s : State) (w : ℕ) (end : LogEnd) → Numbered s.writers → ended_at (at s.writers w) ≡ Some end → ended_at (at (after s ms).writers w) ≡ Some end
ended_after ms s w end n h =
    let e = ended_entry (at s.writers w) end h in
    let f = follows_after ms s w e.0 n e.1 in ap ended_at f.1 ∙ f.2.ended end e.2

-- what a roster says of a writer
told_next : (e : ℕ × WriterEntry) (ws : List (ℕ × WriterEntry)) (w : ℕ) (f : WriterEntry) (b : Bool) → nat_eq w e.0 ≡ b → cond b (Some e.1) (at ws w) ≡ Some f
    → (at ws w ≡ Some f → told_of (roster ws) w ≡ Some (roster_entry (w, f))) → cond b (Some (roster_entry e)) (told_of (roster ws) w) ≡ Some (roster_entry (w, f))
told_next e ws w f true is found rest =
    let same : e.0 ≡ w = grind (arith, nat_tests) in
    let one : e.1 ≡ f = cc found in ap (λ (n : ℕ). Some (roster_entry (n, e.1))) same ∙ ap (λ (x : WriterEntry). Some (roster_entry (w, x))) one
told_next e ws w f false is found rest = rest found

told_at : (ws : List (ℕ × WriterEntry)) (w : ℕ) (f : WriterEntry) → at ws w ≡ Some f → told_of (roster ws) w ≡ Some (roster_entry (w, f))
told_at [] w f found = absurd (cc found)
told_at (e ∷ ws) w f found = told_next e ws w f (nat_eq w e.0) refl found (told_at ws w f)

not_told_live : (status : WriterStatus) (end : LogEnd) → end_of status ≡ Some end → IsToldLive (state_told status) → ⊥
not_told_live Live end h live = absurd (cc h)
not_told_live (Closed l st t) end h live = live
not_told_live (Recovered l st v) end h live = live

end_told : (status : WriterStatus) (end : LogEnd) → end_of status ≡ Some end → length_told status ≡ end.length
end_told Live end h = absurd (cc h)
end_told (Closed l st t) end h = let one : record { length = l; store = st } ≡ end = cc h in ap (λ (x : LogEnd). x.length) one
end_told (Recovered l st v) end h = let one : record { length = l; store = st } ≡ end = cc h in ap (λ (x : LogEnd). x.length) one

tells_end : (s : State) (writer : ℕ) (end : LogEnd) → ended_at (at s.writers writer) ≡ Some end → (stamp : ℕ) (n : Note) → TellsWriters s stamp n → TellsEnd writer end n
tells_end s writer end h stamp (note.Closed w groups store) t = λ at_writer.
    let same : ended_at (at s.writers writer) ≡ Some (record { length = groups; store = store }) = subst (λ (k : ℕ). ended_at (at s.writers k) ≡ Some (record { length = groups; store = store })) at_writer t in
    let one : record { length = groups; store = store } ≡ end = cc (same, h) in (ap (λ (x : LogEnd). x.length) one, ap (λ (x : LogEnd). x.store) one)
tells_end s writer end h stamp (note.Roster entries) t =
    let e = ended_entry (at s.writers writer) end h in
    let r : RosterEntry = roster_entry (writer, e.0) in
    (r, ap (λ (x : List RosterEntry). told_of x writer) t.0 ∙ told_at s.writers writer e.0 e.1, end_told e.0.status end e.2, not_told_live e.0.status end e.2)
tells_end s writer end h stamp other t = tt

ends_told : (ms : List Message) (s : State) (w : ℕ) (end : LogEnd) → Numbered s.writers → ended_at (at s.writers w) ≡ Some end → AllByRecursion (λ m. TellsEnd w end m.note) (sent s ms)
ends_told [] s w end n h = tt
ends_told (m ∷ ms) s w end n h =
    let t : State = (step s m).0 in
    let then : ended_at (at t.writers w) ≡ Some end = ended_after (m ∷ []) s w end n h in
    all_join (λ g. TellsEnd w end g.note) (step s m).2 (sent t ms)
    (all_each (λ g. TellsWriters t g.stamp.0 g.note) (λ g. TellsEnd w end g.note) (λ g. tells_end t w end then g.stamp.0 g.note) (step s m).2 (step_writer s m n).tells)
    (ends_told ms t w end (numbered_step s m n) then)

pub end_stays : (inputs later : List Message) (writer : ℕ) (end : LogEnd) → EndStays inputs later writer end
end_stays inputs later writer end h =
    let s : State = after start inputs in
    let n : Numbered s.writers = numbered_after inputs start numbered_start in (ended_after later s writer end n h, ends_told later s writer end n h)

-- ---- rosters

-- a writer that is numbered later begins no lower
begins_by : (s t : State) (asker w : ℕ) (o : Option WriterEntry) → at t.writers w ≡ o → WriterMove s t asker w None o → ((f : WriterEntry) → at t.writers w ≡ Some f → s.scalar ≤ f.start.0)
begins_by s t asker w None is m f found = absurd (cc (is, found))
begins_by s t asker w (Some g) is m f found = let one : g ≡ f = cc (is, found) in omega (arith, m.begins, ap (λ (x : WriterEntry). x.start.0) one)

begins_step : (s : State) (m : Message) (w : ℕ) → Numbered s.writers → at s.writers w ≡ None → (f : WriterEntry) → at (step s m).0.writers w ≡ Some f → s.scalar ≤ f.start.0
begins_step s m w n none f found =
    let h : State = heard s m.stamp.0 in
    let r = step_writer s m n in
    let t : State = (step s m).0 in
    let late = begins_by h t r.asker w (at t.writers w) refl (subst (λ (o : Option WriterEntry). WriterMove h t r.asker w o (at t.writers w)) none (r.moves w)) f found in omega (arith, late)

begins_after : (ms : List Message) (s : State) (w : ℕ) (e : WriterEntry) → Numbered s.writers → at s.writers w ≡ None → at (after s ms).writers w ≡ Some e → s.scalar ≤ e.start.0
begins_after [] s w e n none found = absurd (cc (none, found))
begins_after (m ∷ ms) s w e n none found = by (at (step s m).0.writers w) refl (λ is. begins_after ms (step s m).0 w e (numbered_step s m n) is found)
  where
    next : Numbered (step s m).0.writers
    next = numbered_step s m n

    by : (o : Option WriterEntry) → at (step s m).0.writers w ≡ o → (at (step s m).0.writers w ≡ None → (step s m).0.scalar ≤ e.start.0) → s.scalar ≤ e.start.0
    by None is later = omega (arith, later is, scalar_rises s m n)
    by (Some f) is later =
        let g = follows_after ms (step s m).0 w f next is in
        let one : g.0 ≡ e = cc (g.1, found) in
        omega (arith, begins_step s m w n none f is, ap (λ (x : Stamp). x.0) g.2.start, ap (λ (x : WriterEntry). x.start.0) one)

roster_told : (ms : List Message) (t : State) (w : ℕ) (e : WriterEntry) → Numbered t.writers → at (after t ms).writers w ≡ Some e → (stamp : Stamp) (n : Note) → TellsWriters t stamp.0 n → RosterHas w e stamp n
roster_told ms t w e n found stamp (note.Roster entries) told = by (at t.writers w) refl
  where
    by : (o : Option WriterEntry) → at t.writers w ≡ o → e.start.0 < stamp.0 → (r : RosterEntry) × (told_of entries w ≡ Some r) × (r.master ≡ e.master) × (r.start ≡ e.start)
    by None is low = absurd (omega (arith, begins_after ms t w e n is found, told.1))
    by (Some f) is low =
        let g = follows_after ms t w f n is in
        let one : g.0 ≡ e = cc (g.1, found) in (
          roster_entry (w, f),
          ap (λ (x : List RosterEntry). told_of x w) told.0 ∙ told_at t.writers w f is,
          sym g.2.master ∙ ap (λ (x : WriterEntry). x.master) one,
          sym g.2.start ∙ ap (λ (x : WriterEntry). x.start) one,
        )
roster_told ms t w e n found stamp other told = tt

rosters_whole : (ms : List Message) (s : State) (w : ℕ) (e : WriterEntry) → Numbered s.writers → at (after s ms).writers w ≡ Some e → AllByRecursion (λ m. RosterHas w e m.stamp m.note) (sent s ms)
rosters_whole [] s w e n found = tt
rosters_whole (m ∷ ms) s w e n found =
    let t : State = (step s m).0 in
    let next : Numbered t.writers = numbered_step s m n in
    all_join (λ g. RosterHas w e g.stamp g.note) (step s m).2 (sent t ms)
    (all_each (λ g. TellsWriters t g.stamp.0 g.note) (λ g. RosterHas w e g.stamp g.note) (λ g. roster_told ms t w e next found g.stamp g.note) (step s m).2 (step_writer s m n).tells)
    (rosters_whole ms t w e next found)

pub rosters_are_whole : (inputs : List Message) (writer : ℕ) (e : WriterEntry) → RostersAreWhole inputs writer e
rosters_are_whole inputs writer e found = rosters_whole inputs start writer e numbered_start found

-- ---- fresh pages

-- Whoever has had this page last is this writer, by this request.
pub record GivenTo (s : State) (page w nth : ℕ) : Type 0 where
  pub below : page < s.next_fresh
  pub only : (v : ℕ) (e : WriterEntry) → at s.writers v ≡ Some e → e.fresh.page ≡ Some (does.page_of page) → (v ≡ w) × (e.fresh.nth ≡ nth)

-- No two writers have had one page last, and each such page was given out.
pub record Given (s : State) : Type 0 where
  pub below : (v : ℕ) (e : WriterEntry) (page : ℕ) → at s.writers v ≡ Some e → e.fresh.page ≡ Some (does.page_of page) → page < s.next_fresh
  pub apart : (v w : ℕ) (e f : WriterEntry) (page : ℕ) → at s.writers v ≡ Some e → at s.writers w ≡ Some f → e.fresh.page ≡ Some (does.page_of page) → f.fresh.page ≡ Some (does.page_of page) → v ≡ w

fresh_below : (old new : WriterEntry) (asker w next next' page : ℕ) → FreshGoes asker w next next' old.fresh new.fresh → next ≤ next' → (old.fresh.page ≡ Some (does.page_of page) → page < next) → new.fresh.page ≡ Some (does.page_of page) → page < next'
fresh_below old new asker w next next' page (inl same) more h is = omega (arith, h (ap (λ (x : Fresh). x.page) (sym same) ∙ is))
fresh_below old new asker w next next' page (inr (inl none)) more h is = absurd (cc (none, is))
fresh_below old new asker w next next' page (inr (inr got)) more h is = let one : does.page_of next ≡ does.page_of page = cc (got.page, is) in omega (arith, got.more, ap (λ (x : Page). x.0) one)

below_by : (s t : State) (asker w page : ℕ) (o : Option WriterEntry) (f : WriterEntry) → at s.writers w ≡ o → WriterMove s t asker w o (Some f) → s.next_fresh ≤ t.next_fresh
    → ((e : WriterEntry) → at s.writers w ≡ Some e → e.fresh.page ≡ Some (does.page_of page) → page < s.next_fresh) → f.fresh.page ≡ Some (does.page_of page) → page < t.next_fresh
below_by s t asker w page None f found m more h is = absurd (cc (m.none, is))
below_by s t asker w page (Some e) f found m more h is = fresh_below e f asker w s.next_fresh t.next_fresh page m.fresh more (h e found) is

-- where a writer's last page is one that was given out before, it had it before
had_by : (s t : State) (asker w page : ℕ) (o : Option WriterEntry) (f : WriterEntry) → at s.writers w ≡ o → WriterMove s t asker w o (Some f) → page < s.next_fresh → f.fresh.page ≡ Some (does.page_of page)
    → (e : WriterEntry) × (at s.writers w ≡ Some e) × (f.fresh ≡ e.fresh)
had_by s t asker w page None f found m low is = absurd (cc (m.none, is))
had_by s t asker w page (Some e) f found m low is = by m.fresh
  where
    by : FreshGoes asker w s.next_fresh t.next_fresh e.fresh f.fresh → (g : WriterEntry) × (at s.writers w ≡ Some g) × (f.fresh ≡ g.fresh)
    by (inl same) = (e, found, same)
    by (inr (inl none)) = absurd (cc (none, is))
    by (inr (inr got)) = absurd (let one : does.page_of s.next_fresh ≡ does.page_of page = cc (got.page, is) in omega (arith, ap (λ (x : Page). x.0) one))

-- where it is the next one, the writer is the one that asked
asked_by : (s t : State) (asker w page : ℕ) (o : Option WriterEntry) (f : WriterEntry) → at s.writers w ≡ o → WriterMove s t asker w o (Some f) → Given s → s.next_fresh ≤ page → f.fresh.page ≡ Some (does.page_of page) → w ≡ asker
asked_by s t asker w page None f found m g high is = absurd (cc (m.none, is))
asked_by s t asker w page (Some e) f found m g high is = by m.fresh
  where
    by : FreshGoes asker w s.next_fresh t.next_fresh e.fresh f.fresh → w ≡ asker
    by (inl same) = absurd (omega (arith, g.below w e page found (ap (λ (x : Fresh). x.page) (sym same) ∙ is)))
    by (inr (inl none)) = absurd (cc (none, is))
    by (inr (inr got)) = got.own

apart_by : (s t : State) (asker v w page : ℕ) (o p : Option WriterEntry) (e f : WriterEntry) → at s.writers v ≡ o → at s.writers w ≡ p → WriterMove s t asker v o (Some e) → WriterMove s t asker w p (Some f) → Given s
    → e.fresh.page ≡ Some (does.page_of page) → f.fresh.page ≡ Some (does.page_of page) → (b : Bool) → nat_lt page s.next_fresh ≡ b → v ≡ w
apart_by s t asker v w page o p e f is_o is_p m k g is_e is_f true is =
    let low : page < s.next_fresh = grind (arith, nat_tests) in
    let a = had_by s t asker v page o e is_o m low is_e in
    let b = had_by s t asker w page p f is_p k low is_f in
    g.apart v w a.0 b.0 page a.1 b.1 (ap (λ (x : Fresh). x.page) (sym a.2) ∙ is_e) (ap (λ (x : Fresh). x.page) (sym b.2) ∙ is_f)
apart_by s t asker v w page o p e f is_o is_p m k g is_e is_f false is =
    let high : s.next_fresh ≤ page = grind (arith, nat_tests) in asked_by s t asker v page o e is_o m g high is_e ∙ sym (asked_by s t asker w page p f is_p k g high is_f)

given_step : (s : State) (m : Message) → Numbered s.writers → Given s → Given (step s m).0
given_step s m n g =
    let h : State = heard s m.stamp.0 in
    let r = step_writer s m n in
    let t : State = (step s m).0 in
    let move : (w : ℕ) (f : WriterEntry) → at t.writers w ≡ Some f → WriterMove h t r.asker w (at s.writers w) (Some f) = λ w f found. subst (WriterMove h t r.asker w (at s.writers w)) found (r.moves w) in
    let gh : Given h = record { below = g.below; apart = g.apart } in
    record {
      below = λ v e page found is. below_by h t r.asker v page (at s.writers v) e refl (move v e found) r.next (λ f there had. g.below v f page there had) is;
      apart = λ v w e f page is_v is_w is_e is_f.
          apart_by h t r.asker v w page (at s.writers v) (at s.writers w) e f refl refl (move v e is_v) (move w f is_w) gh is_e is_f (nat_lt page s.next_fresh) refl;
    }

given_start : Given start
given_start = record { below = λ v e page found is. absurd (cc found); apart = λ v w e f page is_v is_w is_e is_f. absurd (cc is_v) }

to_step : (s : State) (m : Message) (page w nth : ℕ) → Numbered s.writers → GivenTo s page w nth → GivenTo (step s m).0 page w nth
to_step s m page w nth n g =
    let h : State = heard s m.stamp.0 in
    let r = step_writer s m n in
    let t : State = (step s m).0 in
    record {
      below = omega (arith, g.below, r.next);
      only = λ v e found is.
          let had = had_by h t r.asker v page (at s.writers v) e refl (subst (WriterMove h t r.asker v (at s.writers v)) found (r.moves v)) g.below is in
          let old = g.only v had.0 had.1 (ap (λ (x : Fresh). x.page) (sym had.2) ∙ is) in (old.0, ap (λ (x : Fresh). x.nth) had.2 ∙ old.1);
    }

-- The answers that give out the page are this writer's, to this request.
abbrev FreshAs : ℕ → ℕ → ℕ → Note → Type 0
FreshAs page w nth (note.FreshIs v k (Some p)) = p.0 ≡ page → (v.0 ≡ w) × (k ≡ nth)
FreshAs page w nth other = Unit {0}

fresh_told : (s : State) (page w nth : ℕ) → GivenTo s page w nth → (stamp : ℕ) (n : Note) → TellsWriters s stamp n → FreshAs page w nth n
fresh_told s page w nth g stamp (note.FreshIs v k (Some p)) t = λ at_page.
    let got : t.0.fresh.page ≡ Some (does.page_of page) = ap (λ (x : Fresh). x.page) t.2 ∙ ap (λ (n : ℕ). Some (does.page_of n)) at_page in
    let r = g.only v.0 t.0 t.1 got in (r.0, ap (λ (x : Fresh). x.nth) (sym t.2) ∙ r.1)
fresh_told s page w nth g stamp other t = tt

fresh_sent : (ms : List Message) (s : State) (page w nth : ℕ) → Numbered s.writers → GivenTo s page w nth → AllByRecursion (λ m. FreshAs page w nth m.note) (sent s ms)
fresh_sent [] s page w nth n g = tt
fresh_sent (m ∷ ms) s page w nth n g =
    let t : State = (step s m).0 in
    let next : GivenTo t page w nth = to_step s m page w nth n g in
    all_join (λ x. FreshAs page w nth x.note) (step s m).2 (sent t ms)
    (all_each (λ x. TellsWriters t x.stamp.0 x.note) (λ x. FreshAs page w nth x.note) (λ x. fresh_told t page w nth next x.stamp.0 x.note) (step s m).2 (step_writer s m n).tells)
    (fresh_sent ms t page w nth (numbered_step s m n) next)

-- an answer that is told in a state gives the page to its writer
given_to : (s : State) (w : Writer) (nth : ℕ) (p : Page) (e : WriterEntry) → Given s → at s.writers w.0 ≡ Some e → e.fresh ≡ record { nth = nth; page = Some p } → GivenTo s p.0 w.0 nth
given_to s w nth p e g found is =
    let has : e.fresh.page ≡ Some (does.page_of p.0) = ap (λ (x : Fresh). x.page) is in
    record {
      below = g.below w.0 e p.0 found has;
      only = λ v f there got.
          let same : v ≡ w.0 = g.apart v w.0 f e p.0 there found got has in
          let one : f ≡ e = cc (there, found, same) in (same, ap (λ (x : WriterEntry). x.fresh.nth) one ∙ ap (λ (x : Fresh). x.nth) is);
    }

fresh_pair : (s : State) → Given s → (stamp : ℕ) (n k : Note) → TellsWriters s stamp n → ((page w nth : ℕ) → GivenTo s page w nth → FreshAs page w nth k) → SameFresh n k
fresh_pair s g stamp (note.FreshIs w nth (Some p)) (note.FreshIs v l (Some q)) t like = λ at_page.
    let r = like p.0 w.0 nth (given_to s w nth p t.0 g t.1 t.2) (ap (λ (x : Page). x.0) (sym at_page)) in
    (ap (λ (x : ℕ). record { 0 = x }) (sym r.0), sym r.1)
fresh_pair s g stamp (note.FreshIs w nth (Some p)) (note.FreshIs v l None) t like = tt
fresh_pair s g stamp (note.FreshIs w nth (Some p)) other t like = tt
fresh_pair s g stamp (note.FreshIs w nth None) k t like = tt
fresh_pair s g stamp other k t like = tt

fresh_turned : (n k : Note) → SameFresh n k → SameFresh k n
fresh_turned (note.FreshIs w nth (Some p)) (note.FreshIs v l (Some q)) h = λ at_page. let r = h (sym at_page) in (sym r.0, sym r.1)
fresh_turned (note.FreshIs w nth None) (note.FreshIs v l (Some q)) h = tt
fresh_turned (note.FreshIs w nth o) (note.FreshIs v l None) h = tt
fresh_turned one (note.FreshIs v l None) h = tt
fresh_turned one (note.FreshIs v l (Some q)) h = tt
fresh_turned one other h = tt

fresh_agree : (ms : List Message) (s : State) (g h : Message) → Numbered s.writers → Given s → Contains (sent s ms) g → Contains (sent s ms) h → SameFresh g.note h.note
fresh_agree [] s g h n d is_g is_h = absurd (omega (arith, is_g.1))
fresh_agree (m ∷ ms) s g h n d is_g is_h =
    by (Contains-append_cases (step s m).2 (sent (step s m).0 ms) g is_g) (Contains-append_cases (step s m).2 (sent (step s m).0 ms) h is_h)
    (λ a b. fresh_agree ms (step s m).0 g h (numbered_step s m n) (given_step s m n d) a b)
  where
    next : Numbered (step s m).0.writers
    next = numbered_step s m n

    given : Given (step s m).0
    given = given_step s m n d

    tells : AllByRecursion (λ x. TellsWriters (step s m).0 x.stamp.0 x.note) (step s m).2
    tells = (step_writer s m n).tells

    early : (x y : Message) → Contains (step s m).2 x → Contains (step s m).2 y → SameFresh x.note y.note
    early x y is_x is_y =
        fresh_pair (step s m).0 given x.stamp.0 x.note y.note (all_at (λ z. TellsWriters (step s m).0 z.stamp.0 z.note) (step s m).2 x tells is_x)
        (λ page w nth to. fresh_told (step s m).0 page w nth to y.stamp.0 y.note (all_at (λ z. TellsWriters (step s m).0 z.stamp.0 z.note) (step s m).2 y tells is_y))

    mixed : (x y : Message) → Contains (step s m).2 x → Contains (sent (step s m).0 ms) y → SameFresh x.note y.note
    mixed x y is_x is_y =
        fresh_pair (step s m).0 given x.stamp.0 x.note y.note (all_at (λ z. TellsWriters (step s m).0 z.stamp.0 z.note) (step s m).2 x tells is_x)
        (λ page w nth to. all_at (λ z. FreshAs page w nth z.note) (sent (step s m).0 ms) y (fresh_sent ms (step s m).0 page w nth next to) is_y)

    by : Contains (step s m).2 g ⊎ Contains (sent (step s m).0 ms) g → Contains (step s m).2 h ⊎ Contains (sent (step s m).0 ms) h
        → (Contains (sent (step s m).0 ms) g → Contains (sent (step s m).0 ms) h → SameFresh g.note h.note) → SameFresh g.note h.note
    by (inl a) (inl b) rest = early g h a b
    by (inl a) (inr b) rest = mixed g h a b
    by (inr a) (inl b) rest = fresh_turned h.note g.note (mixed h g b a)
    by (inr a) (inr b) rest = rest a b

pub fresh_pages_agree : (inputs : List Message) (g h : Message) → FreshAgree inputs g h
fresh_pages_agree inputs g h is_g is_h = fresh_agree inputs start g h numbered_start given_start is_g is_h

-- ---- the first close

close_ends : (s : State) (from : Node) (writer length store : ℕ) (o : Option WriterEntry) → is_live_at o ≡ true
    → ended_at (at (does.on_close s from writer length store o).0.writers writer) ≡ Some (record { length = length; store = store })
close_ends s from writer length store None live = absurd (cc live)
close_ends s from writer length store (Some e) live = by e.status live
  where
    by : (status : WriterStatus) → is_live status ≡ true → ended_at (at (does.on_close_of s from writer length store e status).0.writers writer) ≡ Some (record { length = length; store = store })
    by Live h = ap ended_at (put_found s.writers writer (record e { status = Closed length store false }))
    by (Closed l st t) h = absurd (cc h)
    by (Recovered l st v) h = absurd (cc h)

note_ends : (s : State) (m : Message) (n : Note) → m.note ≡ n → GivesEnd s m n
note_ends s m (note.Close writer length store) is = λ live.
    ap (λ (x : Note). ended_at (at (does.on_note (heard s m.stamp.0) m.from x).0.writers writer.0)) is
    ∙ close_ends (heard s m.stamp.0) m.from writer.0 length store (at s.writers writer.0) live
note_ends s m other is = tt

pub gives_end : (s : State) (m : Message) → GivesEnd s m m.note
gives_end s m = note_ends s m m.note refl
