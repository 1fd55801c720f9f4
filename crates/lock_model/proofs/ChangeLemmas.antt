-- The truth value of a step says whether it changed the state.
use Rattle.std.proofs.Common.{◌≡◌, ◌<◌, ◌+◌, ◌-◌, ◌^◌, ℕ, Bool, true, false, List, [], ◌∷◌, Option, Some, None, refl, ap, sym, ◌∙◌, arith}
use Rattle.std.specs.Prelude.{nat_eq, nat_lt, not, ◌&&◌, ◌||◌, max, length}
use Rattle.std.specs.List.{cons_option}
use Rattle.std.specs.Option.{option_map}
use Rattle.std.proofs.lemmas.Bool.Decides.{nat_tests}
use Rattle.tm_data.specs.declared.transaction.Page.{Page}
use Rattle.tm_data.specs.declared.transaction.Txn.{Txn}
use Rattle.tm_data.specs.declared.transaction.Writer.{Writer}
use Rattle.tm_data.specs.declared.vector.VectorEntry.{VectorEntry}
use Rattle.tm_base.specs.declared.message.Message.{Message}
use Rattle.tm_base.specs.declared.message.Node.{Node}
use Rattle.tm_base.specs.declared.message.Node.TheVariants.{Master}
use Rattle.tm_base.specs.declared.message.Note.{Note}
use Rattle.tm_base.specs.declared.message.Note.TheVariants as note
use Rattle.tm_base.specs.declared.message.PageStamp.{PageStamp}
use Rattle.lock_model.specs.declared.page.PageEntry.{PageEntry}
use Rattle.lock_model.specs.declared.writer.Life.{Life}
use Rattle.lock_model.specs.declared.writer.WriterEntry.{WriterEntry}
use Rattle.lock_model.specs.declared.writer.WriterStatus.{WriterStatus}
use Rattle.lock_model.specs.declared.writer.WriterStatus.TheVariants.{Live, Closed, Recovered}
use Rattle.lock_model.specs.State.{State, start, at, page_in, holder_of, is_holder, is_live, leased, left}
use Rattle.lock_model.specs.Step as does
use Rattle.lock_model.specs.Step.{Effect, step, heard}
use Rattle.lock_model.specs.Runs.{after, TellsChange}
use Rattle.lock_model.proofs.TableLemmas.{length_new}
use Rattle.lock_model.proofs.PageLemmas.{put_here, holds_some, first_true}
use Rattle.lock_model.proofs.WriterLemmas.{Numbered, absent_next, put_found, note_writer}
use Rattle.lock_model.proofs.WriterRuns.{numbered_after, numbered_start}

pub record IsTold (s : State) (r : Effect) : Type 0 where
  pub same : r.1 ≡ false → r.0 ≡ s
  pub other : r.1 ≡ true → r.0 ≡ s → ⊥

quiet : (s : State) (out : List Message) → IsTold s (s, false, out)
quiet s out = record { same = λ h. refl; other = λ h e. absurd (cc h) }

changed : (s t : State) (out : List Message) → (t ≡ s → ⊥) → IsTold s (t, true, out)
changed s t out differs = record { same = λ h. absurd (cc h); other = λ h e. differs e }

-- ---- registers

joins_told : (s : State) (from : Node) (master boot : ℕ) (b : Bool) → Numbered s.writers → IsTold s (does.joins s from master boot b)
joins_told s from master boot false n = quiet s []
joins_told s from master boot true n =
    let r : Effect = does.joins s from master boot true in
    changed s r.0 r.2 (λ e.
    let more = length_new s.writers (length s.writers + 1) (does.new_writer s master boot) (absent_next s.writers n (at s.writers (length s.writers + 1)) refl) in
    omega (arith, more, ap (λ (x : State). length x.writers) e))

life_told : (s : State) (from : Node) (master boot : ℕ) (life : Life) (b c : Bool) → Numbered s.writers → IsTold s (does.joins_after s from master boot life b c)
life_told s from master boot life true c n = quiet s []
life_told s from master boot life false true n = quiet s (does.joins_after s from master boot life false true).2
life_told s from master boot life false false n = joins_told s from master boot (nat_lt (length s.writers) 1024) n

register_told : (s : State) (from : Node) (master boot : ℕ) (o : Option Life) → Numbered s.writers → IsTold s (does.on_life s from master boot o)
register_told s from master boot None n = joins_told s from master boot (nat_lt (length s.writers) 1024) n
register_told s from master boot (Some life) n = life_told s from master boot life (nat_lt boot life.boot) (nat_eq boot life.boot) n

register_from_told : (s : State) (from : Node) (boot : ℕ) → Numbered s.writers → IsTold s (does.on_register_from s from boot)
register_from_told s (Master number) boot n = register_told s (Master number) number boot (does.latest s.writers number (length s.writers)) n
register_from_told s from boot n = quiet s []

-- ---- requests

free_told : (s : State) (master writer page : ℕ) (b : Bool) → IsTold s (does.on_free s master writer page b)
free_told s master writer page false = quiet s []
free_told s master writer page true =
    let r : Effect = does.on_free s master writer page true in
    changed s r.0 r.2 (λ e.
    let here = ap (λ (x : PageEntry). x.epoch) (put_here s page (leased (page_in s page) writer)) in
    omega (arith, here, ap (λ (x : State). (page_in x page).epoch) e))

held_told : (s : State) (holder page : ℕ) (o : Option WriterEntry) → IsTold s (does.on_held s holder page o)
held_told s holder page None = quiet s []
held_told s holder page (Some e) = quiet s (does.on_held s holder page (Some e)).2

leased_told : (s : State) (master writer page holder : ℕ) (b : Bool) → IsTold s (does.on_leased s master writer page holder b)
leased_told s master writer page holder true = quiet s (does.on_leased s master writer page holder true).2
leased_told s master writer page holder false = held_told s holder page (at s.writers holder)

holder_told : (s : State) (master writer page : ℕ) (o : Option Writer) → IsTold s (does.on_holder s master writer page o)
holder_told s master writer page None = free_told s master writer page (nat_lt (page_in s page).epoch (2 ^ 32 - 1))
holder_told s master writer page (Some h) = leased_told s master writer page h.0 (nat_eq h.0 writer)

request_of_told : (s : State) (master writer page : ℕ) (b c : Bool) → IsTold s (does.on_request_of s master writer page b c)
request_of_told s master writer page true true = holder_told s master writer page (holder_of (page_in s page))
request_of_told s master writer page true false = quiet s []
request_of_told s master writer page false c = quiet s []

request_told : (s : State) (writer page : ℕ) (o : Option WriterEntry) → IsTold s (does.on_request s writer page o)
request_told s writer page None = quiet s []
request_told s writer page (Some e) = request_of_told s e.master writer page (is_live e.status) (does.is_there s page)

-- ---- what changes one writer

-- the entry that is put isn't the one that was there
writer_differs : (s t : State) (writer : ℕ) (e f : WriterEntry) → at s.writers writer ≡ Some e → at t.writers writer ≡ Some f → (f ≡ e → ⊥) → t ≡ s → ⊥
writer_differs s t writer e f was is differs same =
    let there : at t.writers writer ≡ at s.writers writer = ap (λ (x : State). at x.writers writer) same in
    let one : f ≡ e = cc (was, is, there) in differs one

next_told : (s : State) (writer : ℕ) (e : WriterEntry) (nth : ℕ) (b : Bool) → at s.writers writer ≡ Some e → nth ≡ e.fresh.nth + 1 → IsTold s (does.on_next s writer e nth (does.next_if s b))
next_told s writer e nth false found more =
    let r : Effect = does.on_next s writer e nth None in
    let f : WriterEntry = record e { fresh = record { nth = nth; page = None } } in
    changed s r.0 r.2 (writer_differs s r.0 writer e f found (put_found s.writers writer f) (λ same. omega (arith, more, ap (λ (x : WriterEntry). x.fresh.nth) same)))
next_told s writer e nth true found more =
    let page : Option Page = Some (does.page_of s.next_fresh) in
    let r : Effect = does.on_next s writer e nth page in
    let f : WriterEntry = record e { fresh = record { nth = nth; page = page } } in
    changed s r.0 r.2 (writer_differs s r.0 writer e f found (put_found s.writers writer f) (λ same. omega (arith, more, ap (λ (x : WriterEntry). x.fresh.nth) same)))

nth_told : (s : State) (writer : ℕ) (e : WriterEntry) (nth : ℕ) (b c : Bool) → nat_eq nth (e.fresh.nth + 1) ≡ b → at s.writers writer ≡ Some e → IsTold s (does.on_nth s writer e nth b c)
nth_told s writer e nth true c is found = next_told s writer e nth (nat_lt s.next_fresh (2 ^ 32 - 1)) found (grind (arith, nat_tests))
nth_told s writer e nth false true is found = quiet s (does.on_nth s writer e nth false true).2
nth_told s writer e nth false false is found = quiet s []

fresh_of_told : (s : State) (writer : ℕ) (e : WriterEntry) (nth : ℕ) (b : Bool) → at s.writers writer ≡ Some e → IsTold s (does.on_fresh_of s writer e nth b)
fresh_of_told s writer e nth true found = nth_told s writer e nth (nat_eq nth (e.fresh.nth + 1)) (nat_eq nth e.fresh.nth && not (nat_eq nth 0)) refl found
fresh_of_told s writer e nth false found = quiet s []

request_fresh_told : (s : State) (writer nth : ℕ) (o : Option WriterEntry) → at s.writers writer ≡ o → IsTold s (does.on_request_fresh s writer nth o)
request_fresh_told s writer nth None found = quiet s []
request_fresh_told s writer nth (Some e) found = fresh_of_told s writer e nth (is_live e.status) found

-- ---- releases

leaving_told : (s : State) (from : Node) (l : does.Leaving) (b : Bool) → does.is_present s l ≡ b → IsTold s (does.on_leaving s from l b)
leaving_told s from l false is = quiet s (does.on_leaving s from l false).2
leaving_told s from l true is =
    let r : Effect = does.on_leaving s from l true in
    changed s r.0 r.2 (λ e.
    let held = holds_some (page_in s l.page).holders l.writer (first_true (is_holder (page_in s l.page) l.writer) (nat_eq l.epoch (page_in s l.page).epoch) is) in
    held (ap (λ (x : State). (page_in x l.page).holders) (sym e) ∙ ap (λ (x : PageEntry). x.holders) (put_here s l.page (left (page_in s l.page) l.stamp l.tags l.vector))))

release_of_told : (s : State) (from : Node) (l : does.Leaving) (b : Bool) → IsTold s (does.on_release_of s from l b)
release_of_told s from l true = leaving_told s from l (does.is_present s l) refl
release_of_told s from l false = quiet s []

release_told : (s : State) (from : Node) (l : does.Leaving) (o : Option WriterEntry) → IsTold s (does.on_release s from l o)
release_told s from l None = quiet s []
release_told s from l (Some e) = release_of_told s from l (is_live e.status)

-- ---- questions

ask_told : (s : State) (from : Node) (txn : Txn) (asking : ℕ) (o : Option WriterEntry) → IsTold s (does.on_ask s from txn asking o)
ask_told s from txn asking None = quiet s []
ask_told s from txn asking (Some e) = by e.status
  where
    by : (status : WriterStatus) → IsTold s (does.on_ask_of s from txn asking e.master status)
    by Live = quiet s (does.on_ask_of s from txn asking e.master Live).2
    by (Closed l st t) = quiet s (does.on_ask_of s from txn asking e.master (Closed l st t)).2
    by (Recovered l st v) = quiet s (does.on_ask_of s from txn asking e.master (Recovered l st v)).2

ask_from_told : (s : State) (from : Node) (txn : Txn) (asking : ℕ) → IsTold s (does.on_ask_from s from txn asking)
ask_from_told s (Master number) txn asking = ask_told s (Master number) txn asking (at s.writers txn.writer.0)
ask_from_told s from txn asking = quiet s []

want_told : (s : State) (from : Node) (o : Option Writer) → IsTold s (does.on_want s from o)
want_told s from None = quiet s (does.on_want s from None).2
want_told s from (Some w) = quiet s []

-- ---- ends

close_told : (s : State) (from : Node) (writer length store : ℕ) (o : Option WriterEntry) → at s.writers writer ≡ o → IsTold s (does.on_close s from writer length store o)
close_told s from writer length store None found = quiet s []
close_told s from writer length store (Some e) found = by e.status refl
  where
    by : (status : WriterStatus) → e.status ≡ status → IsTold s (does.on_close_of s from writer length store e status)
    by Live is =
        let r : Effect = does.on_close_of s from writer length store e Live in
        let f : WriterEntry = record e { status = Closed length store false } in
        changed s r.0 r.2 (writer_differs s r.0 writer e f found (put_found s.writers writer f) (λ same. absurd (let st = ap (λ (x : WriterEntry). x.status) same in cc (st, is))))
    by (Closed l st t) is = quiet s (does.on_close_of s from writer length store e (Closed l st t)).2
    by (Recovered l st v) is = quiet s (does.on_close_of s from writer length store e (Recovered l st v)).2

undone_told : (s : State) (from : Node) (writer : ℕ) (vector : List VectorEntry) (o : Option WriterEntry) → at s.writers writer ≡ o → IsTold s (does.on_undone s from writer vector o)
undone_told s from writer vector None found = quiet s []
undone_told s from writer vector (Some e) found = by e.status refl
  where
    by : (status : WriterStatus) → e.status ≡ status → IsTold s (does.on_undone_of s from writer vector e status)
    by Live is = quiet s []
    by (Closed l st false) is = quiet s []
    by (Closed l st true) is =
        let r : Effect = does.on_undone_of s from writer vector e (Closed l st true) in
        let f : WriterEntry = record e { status = Recovered l st vector } in
        changed s r.0 r.2 (writer_differs s r.0 writer e f found (put_found s.writers writer f) (λ same. absurd (let at_end = ap (λ (x : WriterEntry). x.status) same in cc (at_end, is))))
    by (Recovered l st v) is = quiet s (does.on_undone_of s from writer vector e (Recovered l st v)).2

undone_by_told : (s : State) (from : Node) (writer : ℕ) (vector : List VectorEntry) (b : Bool) → IsTold s (does.on_undone_by s from writer vector b)
undone_by_told s from writer vector true = undone_told s from writer vector (at s.writers writer) refl
undone_by_told s from writer vector false = quiet s []

-- ---- takeovers

module _ (writer : ℕ) (rest : Bool) (listed : List (ℕ × ℕ)) (vector : List VectorEntry) where
  -- What a page that is freed becomes has no holder, and the page has one.
  freed_free : (e new : PageEntry) (b : Bool) (l : Option ℕ) → is_holder e writer ≡ b → does.freed_with e vector b l rest ≡ Some new → new ≡ e → ⊥
  freed_free e new false l is h same = absurd (cc h)
  freed_free e new true (Some stamp) is h same = holds_some e.holders writer is (ap (λ (x : PageEntry). x.holders) (sym same) ∙ ap (λ (x : PageEntry). x.holders) (let one : left e (max e.stamp.0 stamp) e.tags vector ≡ new = cc h in sym one))
  freed_free e new true None is h same = by rest h
    where
      by : (r : Bool) → does.freed_with e vector true None r ≡ Some new → ⊥
      by true k = holds_some e.holders writer is (ap (λ (x : PageEntry). x.holders) (sym same) ∙ ap (λ (x : PageEntry). x.holders) (let one : left e e.stamp.0 e.tags vector ≡ new = cc k in sym one))
      by false k = absurd (cc k)

  none_freed : (es : List (ℕ × PageEntry)) → does.is_any (does.freed es writer rest listed vector) ≡ false → does.taken es writer rest listed vector ≡ es
  none_freed [] h = refl
  none_freed (e ∷ es) h = by (does.freed_entry writer rest listed vector e.0 e.1) h (none_freed es)
    where
      by : (o : Option PageEntry) → does.is_any (cons_option (option_map (λ (x : PageEntry). (e.0, x)) o) (does.freed es writer rest listed vector)) ≡ false
          → (does.is_any (does.freed es writer rest listed vector) ≡ false → does.taken es writer rest listed vector ≡ es) → (e.0, does.or_kept e.1 o) ∷ does.taken es writer rest listed vector ≡ e ∷ es
      by None k others = ap (λ (t : List (ℕ × PageEntry)). e ∷ t) (others k)
      by (Some x) k others = absurd (cc k)

  some_freed : (es : List (ℕ × PageEntry)) → does.is_any (does.freed es writer rest listed vector) ≡ true → does.taken es writer rest listed vector ≡ es → ⊥
  some_freed [] h same = absurd (cc h)
  some_freed (e ∷ es) h same = by (does.freed_entry writer rest listed vector e.0 e.1) refl h same (some_freed es)
    where
      by : (o : Option PageEntry) → does.freed_entry writer rest listed vector e.0 e.1 ≡ o → does.is_any (cons_option (option_map (λ (x : PageEntry). (e.0, x)) o) (does.freed es writer rest listed vector)) ≡ true
          → (e.0, does.or_kept e.1 o) ∷ does.taken es writer rest listed vector ≡ e ∷ es → (does.is_any (does.freed es writer rest listed vector) ≡ true → does.taken es writer rest listed vector ≡ es → ⊥) → ⊥
      by None is k all others = let tails : does.taken es writer rest listed vector ≡ es = cc all in others k tails
      by (Some x) is k all others =
          let heads : (e.0, x) ≡ e = cc all in freed_free e.1 x (is_holder e.1 writer) (at listed e.0) refl is (ap (λ (p : ℕ × PageEntry). p.1) heads)

or_false : (b c : Bool) → (b || c) ≡ false → b ≡ false
or_false true c h = h
or_false false c h = refl

taking_told : (s : State) (from : Node) (writer part : ℕ) (rest : Bool) (listed : List (ℕ × ℕ)) (vector : List VectorEntry) (e : WriterEntry) (length store : ℕ) (t done : Bool)
    → at s.writers writer ≡ Some e → e.status ≡ Closed length store t → (done ≡ true → t ≡ false) → IsTold s (does.on_taking s from writer part rest listed vector e length store done)
taking_told s from writer part rest listed vector e length store t true found is first =
    let r : Effect = does.on_taking s from writer part rest listed vector e length store true in
    let f : WriterEntry = record e { status = Closed length store true } in
    record {
      same = λ h. absurd (or_true (does.is_any (does.freed s.pages writer rest listed vector)) h);
      other = λ h. writer_differs s r.0 writer e f found (put_found s.writers writer f)
          (λ same. absurd (let at_end = ap (λ (x : WriterEntry). x.status) same in let not = first refl in cc (at_end, is, not)));
    }
  where
    or_true : (b : Bool) → (b || true) ≡ false → ⊥
    or_true true h = absurd (cc h)
    or_true false h = absurd (cc h)
taking_told s from writer part rest listed vector e length store t false found is first = record {
  same = λ h. ap (λ (p : List (ℕ × PageEntry)). record s { pages = p }) (none_freed writer rest listed vector s.pages (or_false (does.is_any (does.freed s.pages writer rest listed vector)) false h));
  other = λ h same. some_freed writer rest listed vector s.pages (or_left (does.is_any (does.freed s.pages writer rest listed vector)) h) (ap (λ (x : State). x.pages) same);
}
  where
    or_left : (b : Bool) → (b || false) ≡ true → b ≡ true
    or_left true h = refl
    or_left false h = absurd (cc h)

and_not : (rest t : Bool) → (rest && not t) ≡ true → t ≡ false
and_not true true h = absurd (cc h)
and_not true false h = refl
and_not false t h = absurd (cc h)

takeover_told : (s : State) (from : Node) (writer part : ℕ) (rest : Bool) (listed : List PageStamp) (vector : List VectorEntry) (o : Option WriterEntry) → at s.writers writer ≡ o → IsTold s (does.on_takeover s from writer part rest listed vector o)
takeover_told s from writer part rest listed vector None found = quiet s []
takeover_told s from writer part rest listed vector (Some e) found = by e.status refl
  where
    by : (status : WriterStatus) → e.status ≡ status → IsTold s (does.on_takeover_of s from writer part rest listed vector e status)
    by Live is = quiet s []
    by (Closed l st t) is = taking_told s from writer part rest (does.stamps [] listed) vector e l st t (rest && not t) found is (and_not rest t)
    by (Recovered l st v) is = quiet s (does.on_takeover_of s from writer part rest listed vector e (Recovered l st v)).2

-- ---- every step

note_told : (s : State) (from : Node) (n : Note) → Numbered s.writers → IsTold s (does.on_note s from n)
note_told s from (note.Register boot) n = register_from_told s from boot n
note_told s from (note.Request writer page) n = request_told s writer.0 page.0 (at s.writers writer.0)
note_told s from (note.RequestFresh writer nth) n = request_fresh_told s writer.0 nth (at s.writers writer.0) refl
note_told s from (note.Release writer page epoch stamp tags vector) n =
    release_told s from (record { writer = writer.0; page = page.0; epoch = epoch; stamp = stamp.0; tags = tags; vector = vector }) (at s.writers writer.0)
note_told s from (note.Ask txn asking) n = ask_from_told s from txn asking
note_told s from (note.Close writer length store) n = close_told s from writer.0 length store (at s.writers writer.0) refl
note_told s from (note.Takeover writer part rest pages vector) n = takeover_told s from writer.0 part rest pages vector (at s.writers writer.0) refl
note_told s from (note.Undone writer recoverer vector) n = undone_by_told s from writer.0 vector (does.is_live_entry (at s.writers recoverer.0))
note_told s from (note.Want writer) n = want_told s from writer
note_told s from other n = quiet s []

-- the scalar of a step is the one after the message is heard
note_scalar : (s : State) (from : Node) (n : Note) → Numbered s.writers → (does.on_note s from n).0.scalar ≡ s.scalar
note_scalar s from n num = (note_writer s from n num).scalar

heard_same : (s : State) (stamp : ℕ) → nat_lt s.scalar stamp ≡ false → heard s stamp ≡ s
heard_same s stamp h = let most : max s.scalar stamp ≡ s.scalar = grind (arith, nat_tests) in ap (λ (n : ℕ). record s { scalar = n }) most

raise_told : (s : State) (stamp : ℕ) (r : Effect) (b : Bool) → nat_lt s.scalar stamp ≡ b → r.0.scalar ≡ max s.scalar stamp → IsTold (heard s stamp) r → IsTold s (does.with_raise b r)
raise_told s stamp r true is scalar told =
    let less : s.scalar < stamp = grind (arith, nat_tests) in
    record { same = λ h. absurd (cc h); other = λ h e. absurd (omega (arith, scalar, ap (λ (x : State). x.scalar) e)) }
raise_told s stamp r false is scalar told = record {
  same = λ h. told.same h ∙ heard_same s stamp is;
  other = λ h e. told.other h (e ∙ sym (heard_same s stamp is));
}

pub tells_change : (inputs : List Message) (m : Message) → TellsChange inputs m
tells_change inputs m =
    let s : State = after start inputs in
    let n : Numbered s.writers = numbered_after inputs start numbered_start in
    let told = raise_told s m.stamp.0 (does.on_note (heard s m.stamp.0) m.from m.note) (nat_lt s.scalar m.stamp.0) refl (note_scalar (heard s m.stamp.0) m.from m.note n) (note_told (heard s m.stamp.0) m.from m.note n) in
    (told.same, told.other)
