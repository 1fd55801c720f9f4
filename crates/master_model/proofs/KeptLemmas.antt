-- What is kept of a page that is given back was sent.
use Rattle.std.proofs.Common.{◌≡◌, ◌⊎◌, inl, inr, ℕ, Bool, true, false, List, [], ◌∷◌, ◌++◌, Option, Some, None, refl, ap, sym, subst, ◌∙◌, arith}
use Rattle.std.specs.Prelude.{nat_eq, nat_lt}
use Rattle.std.specs.Ordering.{nat_cmp}
use Rattle.std.specs.FinMap.{FinMap, gets}
use Rattle.std.specs.FinMap as fin
use Rattle.std.proofs.lemmas.Bool.Decides.{nat_tests}
use Rattle.tm_data.specs.declared.image.Image.{Image}
use Rattle.tm_data.specs.declared.transaction.Page.{Page}
use Rattle.tm_data.specs.declared.transaction.Writer.{Writer}
use Rattle.tm_base.specs.declared.command.Command.{Command}
use Rattle.tm_base.specs.declared.message.Message.{Message}
use Rattle.tm_base.specs.declared.message.Node.{Node}
use Rattle.tm_base.specs.declared.message.Node.TheVariants.{LogStore}
use Rattle.tm_base.specs.declared.message.Note.{Note}
use Rattle.tm_base.specs.declared.message.Note.TheVariants as note
use Rattle.lease_desk.specs.declared.lease.Lease.{Lease}
use Rattle.lease_desk.specs.declared.lease.Lease.TheVariants as lease
use Rattle.lease_desk.specs.Desk.{is_ready, lease_of, recalled}
use Rattle.master_model.specs.declared.left.Left.{Left}
use Rattle.master_model.specs.State.{Work, Life, State, Effect, durable, settled, writer_of}
use Rattle.master_model.specs.Leases as leases
use Rattle.master_model.specs.Leases.{left_of, with_images}
use Rattle.master_model.specs.Acks as acks
use Rattle.master_model.specs.Recovery.{LifeEffect}
use Rattle.master_model.specs.Step as does
use Rattle.master_model.specs.Step.{step, on_command}
use Rattle.master_model.specs.Facts.{Brings, BringsNote}
use Rattle.master_model.specs.Causes.{IsSent, LeftSent, left_in, release_note}
use Rattle.master_model.proofs.Moves.{Cause, GivenBack, ClosedFor, with_ack_of}
use Rattle.master_model.proofs.StepMoves.{Allows, AllowsAck, AllowsFresh, note_moves_for}
use Rattle.master_model.proofs.CauseLemmas.{Moved, asked_moves, joins_or_not}
use Rattle.master_model.proofs.EpochLemmas.{no_life_begins}

abbrev Kept : Type 0
Kept = FinMap nat_cmp Left

-- ---- where no page is given back

-- What is kept was kept before.
abbrev Older : Kept → Kept → Type 0
Older a b = (page : ℕ) (body : Left) → fin.get b page ≡ Some body → fin.get a page ≡ Some body

abbrev OlderWork : Work → Work → Type 0
OlderWork a b = (b.log.writer ≡ a.log.writer) × Older a.left b.left

abbrev pub NoneBack : Work → Cause → Type 0
NoneBack w (GivenBack page) = ⊥
NoneBack w other = Unit {0}

older_same : (a : Kept) → Older a a
older_same a page body h = h

older_removed : (a : Kept) (gone : ℕ) → Older a (fin.remove a gone)
older_removed a gone page body h = by (nat_eq page gone) refl
  where
    here : nat_eq page gone ≡ true → fin.get (fin.remove a gone) page ≡ None
    here is = grind (arith, nat_tests, gets)

    there : nat_eq page gone ≡ false → fin.get (fin.remove a gone) page ≡ fin.get a page
    there is = grind (arith, nat_tests, gets)

    by : (b : Bool) → nat_eq page gone ≡ b → fin.get a page ≡ Some body
    by true is = let none : None ≡ Some body = sym (here is) ∙ h in absurd (cc none)
    by false is = sym (there is) ∙ h

image_older : (w : Work) (o : Option (List Image)) → OlderWork w (with_images w o)
image_older w None = (refl, older_same w.left)
image_older w (Some images) = (refl, older_same w.left)

older_moves : ClosedFor NoneBack OlderWork
older_moves = record {
  none = λ w. (refl, older_same w.left);
  both = λ a b c h k. (k.0 ∙ h.0, λ page body x. h.1 page body (k.1 page body x));
  hears_stamp = λ w stamp fits. (refl, older_same w.left);
  hears_vector = λ w vector brought. (refl, older_same w.left);
  acks = λ w store seq is came. (refl, older_same w.left);
  acks_more = λ w store seq is came. (refl, older_same w.left);
  let_go = λ w may. (refl, older_same w.left);
  group = λ w records none room. (refl, older_same w.left);
  change = λ w r stamp page is. (refl, older_same w.left);
  grant = λ w page epoch stamp tags vector new brought fits granted. (refl, older_removed w.left page.0);
  image = λ w image held same. image_older w _;
  fresh_page = λ w page is came. (refl, older_same w.left);
  fresh_none = λ w. (refl, older_same w.left);
  recall = λ w page epoch came. (refl, older_same w.left);
  give_back = λ w page is came. absurd came;
  release = λ w page epoch is. (refl, older_removed w.left page);
  path = λ w path. (refl, older_same w.left);
  end = λ w t is. (refl, older_same w.left);
  mark = λ w t is known. (refl, older_same w.left);
  name = λ w t. (refl, older_same w.left);
  begin = λ w session is. (refl, older_same w.left);
  tag = λ w session page key own is active held. (refl, older_same w.left);
  put = λ w p leaf path fresh count is some. (refl, older_same w.left);
  session = λ w session own left is going. (refl, older_same w.left);
  ends = λ w session own committed is going room. (refl, older_same w.left);
  free = λ w session own committed seq is at durable. (refl, older_same w.left);
}

-- ---- where pages are given back

-- What is kept was kept before, or is sent now.
record Sends (w : Work) (e : Effect) : Type 0 where
  pub writer : e.0.log.writer ≡ w.log.writer
  pub kept : (page : ℕ) (body : Left) → fin.get e.0.left page ≡ Some body → (fin.get w.left page ≡ Some body) ⊎ IsSent (release_note w.log.writer page body) e.1

sends_none : (w : Work) → Sends w (w, [])
sends_none w = record { writer = refl; kept = λ page body h. inl h }

sent_left : (n : Note) (xs ys : List Message) → IsSent n xs → IsSent n (xs ++ ys)
sent_left n [] ys h = absurd h
sent_left n (x ∷ xs) ys (inl h) = inl h
sent_left n (x ∷ xs) ys (inr h) = inr (sent_left n xs ys h)

sent_right : (n : Note) (xs ys : List Message) → IsSent n ys → IsSent n (xs ++ ys)
sent_right n [] ys h = h
sent_right n (x ∷ xs) ys h = inr (sent_right n xs ys h)

ready_sends : (w : Work) (page : ℕ) → Sends w (leases.releases_ready w page)
ready_sends w page = by (is_ready (lease_of w.leases page) (settled w))
  where
    body : Left
    body = left_of w page

    here : fin.get (fin.insert w.left page body) page ≡ Some body
    here = kept_here w.left body
      where
        kept_here : (m : Kept) (l : Left) → fin.get (fin.insert m page l) page ≡ Some l
        kept_here m l = grind (arith, nat_tests, gets)

    there : (q : ℕ) → nat_eq q page ≡ false → fin.get (fin.insert w.left page body) q ≡ fin.get w.left q
    there q is = kept_there w.left body
      where
        kept_there : (m : Kept) (l : Left) → fin.get (fin.insert m page l) q ≡ fin.get m q
        kept_there m l = grind (arith, nat_tests, gets)

    kept : (q : ℕ) (l : Left) → fin.get (fin.insert w.left page body) q ≡ Some l → (b : Bool) → nat_eq q page ≡ b
        → (fin.get w.left q ≡ Some l) ⊎ IsSent (release_note w.log.writer q l) (leases.release w page body ∷ [])
    kept q l h true is =
        let one : page ≡ q = grind (arith, nat_tests) in
        let there : fin.get (fin.insert w.left page body) page ≡ Some l = ap (λ (n : ℕ). fin.get (fin.insert w.left page body) n) one ∙ h in
        let both : Some body ≡ Some l = sym here ∙ there in
        let same : body ≡ l = cc both in
        inr (inl (ap (λ (n : ℕ). release_note w.log.writer n body) one ∙ ap (λ (x : Left). release_note w.log.writer q x) same))
    kept q l h false is = inl (sym (there q is) ∙ h)

    by : (b : Bool) → Sends w (leases.releases_if w page b)
    by true = record { writer = refl; kept = λ q l h. kept q l h (nat_eq q page) refl }
    by false = sends_none w

all_sends : (ps : List ℕ) (w : Work) → Sends w (leases.releases_all ps w)
all_sends [] w = sends_none w
all_sends (p ∷ ps) w =
    let one : Effect = leases.releases_ready w p in
    let rest : Effect = leases.releases_all ps one.0 in
    then_sends w one rest (ready_sends w p) (all_sends ps one.0)
  where
    then_sends : (w : Work) (one rest : Effect) → Sends w one → Sends one.0 rest → Sends w (rest.0, one.1 ++ rest.1)
    then_sends w one rest h k = record { writer = k.writer ∙ h.writer; kept = λ page body x. by page body (k.kept page body x) }
      where
        first : (page : ℕ) (body : Left) → (fin.get w.left page ≡ Some body) ⊎ IsSent (release_note w.log.writer page body) one.1 → (fin.get w.left page ≡ Some body) ⊎ IsSent (release_note w.log.writer page body) (one.1 ++ rest.1)
        first page body (inl old) = inl old
        first page body (inr new) = inr (sent_left (release_note w.log.writer page body) one.1 rest.1 new)

        by : (page : ℕ) (body : Left) → (fin.get one.0.left page ≡ Some body) ⊎ IsSent (release_note one.0.log.writer page body) rest.1
            → (fin.get w.left page ≡ Some body) ⊎ IsSent (release_note w.log.writer page body) (one.1 ++ rest.1)
        by page body (inl old) = first page body (h.kept page body old)
        by page body (inr new) = inr (sent_right (release_note w.log.writer page body) one.1 rest.1 (subst (λ (x : Writer). IsSent (release_note x page body) rest.1) h.writer new))

recall_sends : (w : Work) (page epoch : ℕ) → Sends w (leases.on_recall w page epoch)
recall_sends w page epoch = by (nat_eq (lease_of w.leases page).epoch epoch)
  where
    in_state : (s : Lease) → Sends w (leases.on_recall_in w page epoch s)
    in_state lease.Held = let h = ready_sends (record w { leases = recalled w.leases page epoch }) page in record { writer = h.writer; kept = h.kept }
    in_state lease.Releasing = record { writer = refl; kept = λ q l h. inl h }
    in_state other = sends_none w

    by : (b : Bool) → Sends w (leases.on_recall_if w page epoch b)
    by true = in_state (lease_of w.leases page).state
    by false = sends_none w

ack_sends : (w : Work) (from : Node) (seq : ℕ) → Sends w (acks.on_ack w from seq)
ack_sends w (LogStore store) seq = by (nat_lt (durable w) (durable told))
  where
    told : Work
    told = with_ack_of w store seq

    by : (b : Bool) → Sends w (acks.on_more told (durable w) b)
    by false = record { writer = refl; kept = λ q l h. inl h }
    by true =
        let cut : Work = record told { tags = acks.without_all told.tags (acks.ends_between told.log (durable w) (durable told)) } in
        let h = all_sends (leases.recalled_pages told) cut in
        let sent : List Message = (leases.releases_all (leases.recalled_pages told) cut).1 in
        record { writer = h.writer; kept = λ q l x. front sent q l (h.kept q l x) }
      where
        front : (sent : List Message) (q : ℕ) (l : Left) → (fin.get w.left q ≡ Some l) ⊎ IsSent (release_note w.log.writer q l) sent
            → (fin.get w.left q ≡ Some l) ⊎ IsSent (release_note w.log.writer q l) (acks.to_stores (acks.stable (record told { tags = acks.without_all told.tags (acks.ends_between told.log (durable w) (durable told)) })) ++ sent)
        front sent q l (inl old) = inl old
        front sent q l (inr new) = inr (inr (inr (inr new)))
ack_sends w other seq = sends_none w

-- ---- a message

record LifeSends (l : Life) (e : LifeEffect) : Type 0 where
  pub kept : (page : ℕ) (body : Left) → fin.get e.0.work.left page ≡ Some body → (fin.get l.work.left page ≡ Some body) ⊎ IsSent (release_note e.0.work.log.writer page body) e.1

own_sends : (l : Life) (writer : Writer) (e : Effect) → Sends l.work e → LifeSends l (does.own l writer e)
own_sends l writer e h = by (nat_eq writer.0 (writer_of l.work))
  where
    named : (page : ℕ) (body : Left) → (fin.get l.work.left page ≡ Some body) ⊎ IsSent (release_note l.work.log.writer page body) e.1 → (fin.get l.work.left page ≡ Some body) ⊎ IsSent (release_note e.0.log.writer page body) e.1
    named page body (inl old) = inl old
    named page body (inr new) = inr (subst (λ (x : Writer). IsSent (release_note x page body) e.1) (sym h.writer) new)

    by : (b : Bool) → LifeSends l (does.if_own l b e)
    by true = record { kept = λ page body x. named page body (h.kept page body x) }
    by false = record { kept = λ page body x. inl x }

older_sends : (l : Life) (e : LifeEffect) → OlderWork l.work e.0.work → LifeSends l e
older_sends l e h = record { kept = λ page body x. inl (h.1 page body x) }

none_ack : (w : Work) (writer : Writer) (seq : ℕ) (from : Node) → AllowsAck NoneBack w writer seq from
none_ack w writer seq (LogStore store) = λ is. tt
none_ack w writer seq other = tt

none_fresh : (w : Work) (writer : Writer) (page : Option Page) → AllowsFresh NoneBack w writer page
none_fresh w writer None = tt
none_fresh w writer (Some page) = λ is. tt

pub none_allowed : (w : Work) (from : Node) (n : Note) → Allows NoneBack w from n
none_allowed w from (note.Ack writer seq) = none_ack w writer seq from
none_allowed w from (note.Grant writer page epoch of tags vector) = λ is. tt
none_allowed w from (note.FreshIs writer nth page) = none_fresh w writer page
none_allowed w from other = tt

note_sends : (l : Life) (from : Node) (stamp : ℕ) (n : Note) → BringsNote n → LifeSends l (does.on_note l from stamp n)
note_sends l from stamp (note.Ack writer seq) h = own_sends l writer _ (ack_sends l.work from seq)
note_sends l from stamp (note.Recall writer page epoch) h = own_sends l writer _ (recall_sends l.work page.0 epoch)
note_sends l from stamp other h = older_sends l (does.on_note l from stamp other) (note_moves_for older_moves l from stamp other h (none_allowed l.work from other) tt)

-- ---- a master

pub left_was_sent : (s : State) (m : Message) (page : ℕ) (body : Left) → Brings m → left_in (step s m).0.life page ≡ Some body → (left_in s.life page ≡ Some body) ⊎ LeftSent (step s m).0.life (step s m).1 page body
left_was_sent s m page body brings = by s.life refl
  where
    in_life : (l : Life) (b : Bool) → s.life ≡ Some l → left_in (does.step_in s l m b).0.life page ≡ Some body → (left_in (Some l) page ≡ Some body) ⊎ LeftSent (does.step_in s l m b).0.life (does.step_in s l m b).1 page body
    in_life l true is h = inl (ap (λ (o : Option Life). left_in o page) (sym is) ∙ h)
    in_life l false is h = (note_sends (does.heard l m.stamp.0) m.from m.stamp.0 m.note brings.0).kept page body h

    no_left : Kept
    no_left = fin.empty

    nothing : (page : ℕ) → fin.get no_left page ≡ None
    nothing page = fin.get-empty nat_cmp page

    by : (o : Option Life) → s.life ≡ o → left_in (does.step_by s m o).0.life page ≡ Some body → (left_in o page ≡ Some body) ⊎ LeftSent (does.step_by s m o).0.life (does.step_by s m o).1 page body
    by None is h =
        let none : left_in (does.step_by s m s.life).0.life page ≡ None = joins_or_not (λ o. left_in o page ≡ None) s m is refl (λ l joins. ap (λ (x : Life). left_in (Some x) page) joins.life ∙ nothing page) in
        let also : left_in (does.step_by s m None).0.life page ≡ None = subst (λ (o : Option Life). left_in (does.step_by s m o).0.life page ≡ None) is none in
        absurd (cc (also, h))
    by (Some l) is h = in_life l l.fenced is h

pub left_was_kept : (s : State) (session : ℕ) (asked : Command) (page : ℕ) (body : Left) → left_in (on_command s session asked).0.life page ≡ Some body → left_in s.life page ≡ Some body
left_was_kept s session asked page body = by s.life (on_command s session asked).0.life (no_life_begins s session asked) refl (asked_moves older_moves s session asked)
  where
    by : (o n : Option Life) → (s.life ≡ None → n ≡ None) → s.life ≡ o → Moved OlderWork o n → left_in n page ≡ Some body → left_in o page ≡ Some body
    by None n none is h x = absurd (cc (ap (λ (o : Option Life). left_in o page) (none is), x))
    by (Some a) None none is h x = absurd h
    by (Some a) (Some b) none is h x = h.1 page body x
