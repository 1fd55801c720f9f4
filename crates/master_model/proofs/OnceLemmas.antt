-- The ends of a master's log hold after each move: each is of an own transaction, and the only one of it.
use Rattle.std.proofs.Common.{◌≡◌, ◌≤◌, ◌+◌, ℕ, Bool, true, false, List, [], ◌∷◌, ◌++◌, Option, Some, None, refl, ap, sym, subst, ◌∙◌, arith, append_assoc}
use Rattle.std.specs.Prelude.{nat_eq, ◌&&◌}
use Rattle.std.specs.List.{AllByRecursion}
use Rattle.std.specs.FinMap as fin
use Rattle.std.proofs.lemmas.Bool.Decides.{nat_tests}
use Rattle.std.proofs.lemmas.List.{append-nil}
use Rattle.tm_data.specs.declared.image.Image.{Image}
use Rattle.tm_data.specs.declared.log.Group.{Group}
use Rattle.tm_data.specs.declared.transaction.Txn.{Txn}
use Rattle.tm_data.specs.declared.transaction.Writer.{Writer}
use Rattle.lock_table.specs.Tags.{same_txn}
use Rattle.master_model.specs.declared.session.Own.{Own}
use Rattle.master_model.specs.State.{Work}
use Rattle.master_model.specs.Acks.{ends_in}
use Rattle.master_model.specs.Leases.{with_images}
use Rattle.master_model.specs.Facts.{EndFacts, EndOnce, HasNoEnd, IsOf, SessionFacts, Sessions, Whole, all_ends, is_at_end, whole_of}
use Rattle.master_model.proofs.GrowMoves.{GrowsFor}
use Rattle.master_model.proofs.Moves.{AnyCause}
use Rattle.master_model.proofs.PageLemmas.{all_on, all_pushed}
use Rattle.master_model.proofs.SessionLemmas.{Found, Here, There, found, gone_here, gone_other, same_at, session_facts}
use Rattle.master_model.proofs.SessionLemmas as session_lemmas

abbrev pub Known : List Group → Work → Type 0
Known gs w = session_lemmas.Known gs w × EndFacts (all_ends gs) w.log.writer w.begun w.sessions

abbrev Ends : Type 0
Ends = List (Txn × Bool)

-- ---- the log

ends_pushed : (gs : List Group) (g : Group) → all_ends (gs ++ g ∷ []) ≡ all_ends gs ++ ends_in g.records
ends_pushed [] g = append-nil (ends_in g.records)
ends_pushed (x ∷ gs) g = ap (λ (es : Ends). ends_in x.records ++ es) (ends_pushed gs g) ∙ sym (append_assoc (ends_in x.records) (all_ends gs) (ends_in g.records))

same_ends : (a b : Ends) (writer : Writer) (begun : ℕ) (sessions : Sessions) → b ≡ a → EndFacts a writer begun sessions → EndFacts b writer begun sessions
same_ends a b writer begun sessions same f = subst (λ (es : Ends). EndFacts es writer begun sessions) (sym same) f

quiet_ends : (gs : List Group) (w : Work) (g : Group) → ends_in g.records ≡ [] → EndFacts (all_ends gs) w.log.writer w.begun w.sessions → EndFacts (all_ends (gs ++ g ∷ [])) w.log.writer w.begun w.sessions
quiet_ends gs w g none f = same_ends _ _ w.log.writer w.begun w.sessions (ends_pushed gs g ∙ (ap (λ (es : Ends). all_ends gs ++ es) none ∙ append-nil (all_ends gs))) f

-- ---- one more end

-- Two transactions are one, or not, in either order.
same_back : (a b : Txn) → same_txn a b ≡ false → same_txn b a ≡ false
same_back a b h = grind (arith, nat_tests)

other_number : (writer : Writer) (a b : ℕ) → nat_eq a b ≡ false → same_txn (record { writer = writer; number = a }) (record { writer = writer; number = b }) ≡ false
other_number writer a b not = by (nat_eq writer.0 writer.0) (nat_eq a b) not
  where
    by : (x y : Bool) → y ≡ false → (x && y) ≡ false
    by true y h = h
    by false y h = refl

once_pushed : (es : Ends) (t : Txn) (committed : Bool) → HasNoEnd es t → EndOnce es → EndOnce (es ++ (t, committed) ∷ [])
once_pushed [] t committed h k = (tt, tt)
once_pushed (e ∷ es) t committed h k = (all_pushed (λ (x : Txn × Bool). same_txn e.0 x.0 ≡ false) es (t, committed) k.0 (same_back t e.0 h.0), once_pushed es t committed h.1 k.1)

-- No end is of a number above all that were begun.
none_above : (writer : Writer) (begun number : ℕ) (es : Ends) → number ≡ begun + 1 → AllByRecursion (λ (e : Txn × Bool). IsOf writer begun e.0) es → HasNoEnd es (record { writer = writer; number = number })
none_above writer begun number es is h = all_on (λ (e : Txn × Bool). IsOf writer begun e.0) (λ (e : Txn × Bool). same_txn (record { writer = writer; number = number }) e.0 ≡ false) es (λ e f. by e.0 f.most) h
  where
    by : (t : Txn) → t.number ≤ begun → same_txn (record { writer = writer; number = number }) t ≡ false
    by t most = of (nat_eq writer.0 t.writer.0) (nat_eq number t.number) (grind (arith, nat_tests))
      where
        of : (x y : Bool) → y ≡ false → (x && y) ≡ false
        of true y h = h
        of false y h = refl

-- ---- sessions

-- A session goes on: where it isn't at its end now, it wasn't.
on_ends : (es : Ends) (writer : Writer) (begun session : ℕ) (m : Sessions) (old own : Own) → fin.get m session ≡ Some old → own.number ≡ old.number → (is_at_end own.progress ≡ false → is_at_end old.progress ≡ false)
    → EndFacts es writer begun m → EndFacts es writer begun (fin.insert m session own)
on_ends es writer begun session m old own is same goes f = record { own = f.own; once = f.once; none = λ other x at going. by other x (found m session own other x at) going }
  where
    by : (other : ℕ) (x : Own) → Found m session own other x → is_at_end x.progress ≡ false → HasNoEnd es (record { writer = writer; number = x.number })
    by other x (Here at one) going =
        subst (λ (n : ℕ). HasNoEnd es (record { writer = writer; number = n })) (sym same ∙ sym (ap (λ (o : Own). o.number) one)) (f.none session old is (goes (sym (ap (λ (o : Own). is_at_end o.progress) one) ∙ going)))
    by other x (There at not) going = f.none other x at going

-- A session begins.
begun_ends : (es : Ends) (writer : Writer) (begun session : ℕ) (m : Sessions) (own : Own) → own.number ≡ begun + 1 → EndFacts es writer begun m → EndFacts es writer (begun + 1) (fin.insert m session own)
begun_ends es writer begun session m own number f = record {
  own = all_on (λ (e : Txn × Bool). IsOf writer begun e.0) (λ (e : Txn × Bool). IsOf writer (begun + 1) e.0) es (λ e h. record { own = h.own; from_one = h.from_one; most = omega (arith, h.most) }) f.own;
  once = f.once;
  none = λ other x at going. by other x (found m session own other x at) going;
}
  where
    by : (other : ℕ) (x : Own) → Found m session own other x → is_at_end x.progress ≡ false → HasNoEnd es (record { writer = writer; number = x.number })
    by other x (Here at one) going = none_above writer begun x.number es (ap (λ (o : Own). o.number) one ∙ number) f.own
    by other x (There at not) going = f.none other x at going

-- A session ends.
one_more : (es : Ends) (log : Whole) (begun session : ℕ) (m : Sessions) (own new : Own) (committed : Bool) → fin.get m session ≡ Some own → is_at_end own.progress ≡ false → is_at_end new.progress ≡ true → SessionFacts log begun m
    → EndFacts es log.writer begun m → EndFacts (es ++ (record { writer = log.writer; number = own.number }, committed) ∷ []) log.writer begun (fin.insert m session new)
one_more es log begun session m own new committed is going ended s f = record {
  own = all_pushed (λ (e : Txn × Bool). IsOf log.writer begun e.0) es (t, committed) f.own (let h = s.each session own is in record { own = refl; from_one = h.from_one; most = h.most });
  once = once_pushed es t committed (f.none session own is going) f.once;
  none = λ other x at going. by other x (found m session new other x at) going;
}
  where
    t : Txn
    t = record { writer = log.writer; number = own.number }

    by : (other : ℕ) (x : Own) → Found m session new other x → is_at_end x.progress ≡ false → HasNoEnd (es ++ (t, committed) ∷ []) (record { writer = log.writer; number = x.number })
    by other x (Here at one) going = absurd (let yes : is_at_end x.progress ≡ true = ap (λ (o : Own). is_at_end o.progress) one ∙ ended in cc (yes, going))
    by other x (There at not) going =
        all_pushed (λ (e : Txn × Bool). same_txn (record { writer = log.writer; number = x.number }) e.0 ≡ false) es (t, committed) (f.none other x at going) (other_number log.writer x.number own.number (differs (nat_eq x.number own.number) refl))
      where
        differs : (b : Bool) → nat_eq x.number own.number ≡ b → nat_eq x.number own.number ≡ false
        differs false k = k
        differs true k = absurd (let one : other ≡ session = s.apart other session x own at is (same_at x.number own.number k) in let yes : nat_eq other session ≡ true = grind (arith, nat_tests) in cc (yes, not))

-- A session is free.
freed_ends : (es : Ends) (writer : Writer) (begun session : ℕ) (m : Sessions) → EndFacts es writer begun m → EndFacts es writer begun (fin.remove m session)
freed_ends es writer begun session m f = record { own = f.own; once = f.once; none = λ other x at going. f.none other x (still other x at (nat_eq other session) refl) going }
  where
    still : (other : ℕ) (x : Own) → fin.get (fin.remove m session) other ≡ Some x → (b : Bool) → nat_eq other session ≡ b → fin.get m other ≡ Some x
    still other x k true e = absurd (let n : None ≡ Some x = sym (gone_here m session) ∙ (ap (λ (n : ℕ). fin.get (fin.remove m session) n) (sym (same_at other session e)) ∙ k) in cc n)
    still other x k false e = sym (gone_other m session other e) ∙ k

image_ends : (gs : List Group) (w : Work) (o : Option (List Image)) → EndFacts (all_ends gs) w.log.writer w.begun w.sessions
    → EndFacts (all_ends gs) (with_images w o).log.writer (with_images w o).begun (with_images w o).sessions
image_ends gs w None f = f
image_ends gs w (Some images) f = f

-- ---- all of it

pub once_moves : GrowsFor AnyCause Known
once_moves = record {
  hears_stamp = λ w stamp is gs h. h;
  hears_vector = λ w vector is gs h. h;
  acks = λ w store seq is came gs h. (session_facts.acks w store seq is tt gs h.0, h.1);
  acks_more = λ w store seq is came gs h. (session_facts.acks_more w store seq is tt gs h.0, h.1);
  let_go = λ w may gs h. (session_facts.let_go w (λ page. tt) gs h.0, h.1);
  group = λ w records none room gs h. (session_facts.group w records none room gs h.0, quiet_ends gs w _ none h.1);
  change = λ w r stamp page is gs h. h;
  grant = λ w page epoch stamp tags vector new brought fits granted gs h. h;
  image = λ w image held same gs h. (session_facts.image w image held same gs h.0, image_ends gs w _ h.1);
  fresh_page = λ w page is came gs h. h;
  fresh_none = λ w gs h. h;
  recall = λ w page epoch came gs h. h;
  give_back = λ w page is came gs h. h;
  release = λ w page epoch is gs h. h;
  path = λ w path gs h. h;
  end = λ w t is gs h. h;
  mark = λ w t is known gs h. h;
  name = λ w t gs h. h;
  begin = λ w session is gs h. (session_facts.begin w session is gs h.0, begun_ends _ w.log.writer w.begun session w.sessions _ refl h.1);
  tag = λ w session page key own is active held gs h. h;
  put = λ w p leaf path fresh count is some gs h. (session_facts.put w p leaf path fresh count is some gs h.0, on_ends _ w.log.writer w.begun p.session w.sessions p.own _ is refl (λ k. k) h.1);
  session = λ w session own left is going gs h. (session_facts.session w session own left is going gs h.0, on_ends _ w.log.writer w.begun session w.sessions own _ is refl (λ k. going) h.1);
  ends = λ w session own committed is going room gs h. (
    session_facts.ends w session own committed is going room gs h.0,
    same_ends _ _ w.log.writer w.begun _ (ends_pushed gs _) (one_more (all_ends gs) (whole_of gs w.log) w.begun session w.sessions own _ committed is going refl h.0.1 h.1),
  );
  free = λ w session own committed seq is at durable gs h. (session_facts.free w session own committed seq is at durable gs h.0, freed_ends _ w.log.writer w.begun session w.sessions h.1);
}

-- A writer that has just joined.
pub no_ends : (writer : Writer) → EndFacts [] writer 0 fin.empty
no_ends writer = record { own = tt; once = tt; none = λ session own is going. tt }
