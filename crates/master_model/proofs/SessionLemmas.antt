-- What holds of a master's sessions holds after each move.
use Rattle.std.proofs.Common.{◌≡◌, ◌≤◌, ◌⊎◌, ◌+◌, ◌-◌, ℕ, zero, suc, Bool, true, false, List, [], ◌∷◌, ◌++◌, Option, Some, None, refl, ap, sym, subst, ◌∙◌, arith, inl, inr}
use Rattle.std.specs.Prelude.{nat_eq, slice_get}
use Rattle.std.specs.Ordering.{nat_cmp}
use Rattle.std.specs.FinMap.{gets}
use Rattle.std.specs.FinMap as fin
use Rattle.std.proofs.lemmas.Bool.Decides.{nat_tests}
use Rattle.tm_data.specs.declared.image.Image.{Image}
use Rattle.tm_data.specs.declared.log.Group.{Group}
use Rattle.tm_data.specs.declared.transaction.Writer.{Writer}
use Rattle.log_writer.specs.Log.{acked, appended, last_seq, let_go}
use Rattle.master_model.specs.declared.session.Own.{Own}
use Rattle.master_model.specs.declared.session.Progress.{Progress}
use Rattle.master_model.specs.declared.session.Progress.TheVariants.{Active, Undoing, Ended}
use Rattle.master_model.specs.State.{Work, durable}
use Rattle.master_model.specs.Leases.{with_images}
use Rattle.master_model.specs.Facts.{EndIsDurable, Fits, HasEndAt, InSession, IsRestOf, SessionFact, SessionFacts, Sessions, Whole, own_txn, whole_of}
use Rattle.master_model.specs.Logging.{next_group}
use Rattle.master_model.specs.Ends.{end_of}
use Rattle.master_model.proofs.LoggedLemmas.{end_at}
use Rattle.master_model.proofs.GrowMoves.{GrowsFor}
use Rattle.master_model.proofs.Moves.{AnyCause}
use Rattle.master_model.proofs.WholeLemmas.{WholeGoes, rest_acked, rest_appended, rest_gone, whole_acked, whole_appended, whole_gone, whole_length}

-- Of a work's sessions, and of all groups of its writer.
abbrev pub Known : List Group → Work → Type 0
Known gs w = IsRestOf gs w.log × SessionFacts (whole_of gs w.log) w.begun w.sessions

-- ---- the log goes on

pub found_left : (xs ys : List Group) (i : ℕ) (g : Group) → slice_get xs i ≡ Some g → slice_get (xs ++ ys) i ≡ Some g
found_left [] ys i g is = absurd (cc is)
found_left (x ∷ xs) ys zero g is = is
found_left (x ∷ xs) ys (suc i) g is = found_left xs ys i g is

end_stays : (a b : Whole) (seq number : ℕ) (committed : Bool) → WholeGoes a b → HasEndAt a.groups seq (own_txn a.writer number) committed → HasEndAt b.groups seq (own_txn b.writer number) committed
end_stays a b seq number committed goes e =
    subst (λ (x : Writer). HasEndAt b.groups seq (own_txn x number) committed) (sym goes.writer)
    (record {
      group = e.group;
      from_one = e.from_one;
      there = ap (λ (gs : List Group). slice_get gs (seq - 1)) goes.groups.1 ∙ found_left a.groups goes.groups.0 (seq - 1) e.group e.there;
      says = e.says;
    })

fits_stay : (a b : Whole) (number : ℕ) (p : Progress) → WholeGoes a b → Fits a number p → Fits b number p
fits_stay a b number Active goes f = tt
fits_stay a b number Undoing goes f = tt
fits_stay a b number (Ended committed seq) goes f = end_stays a b seq number committed goes f

pub durable_stays : (a b : Whole) (number : ℕ) → WholeGoes a b → EndIsDurable a number → EndIsDurable b number
durable_stays a b number goes e = (e.0, record { seq = e.1.seq; at = end_stays a b e.1.seq number e.0 goes e.1.at; is_durable = omega (arith, e.1.is_durable, goes.durable) })

log_goes : (a b : Whole) (begun : ℕ) (sessions : Sessions) → WholeGoes a b → SessionFacts a begun sessions → SessionFacts b begun sessions
log_goes a b begun sessions goes f = record {
  each = λ session own is. let e = f.each session own is in record { from_one = e.from_one; most = e.most; fits = fits_stay a b own.number own.progress goes e.fits };
  apart = f.apart;
  known = λ number from most. by number (f.known number from most);
}
  where
    by : (number : ℕ) → InSession sessions number ⊎ EndIsDurable a number → InSession sessions number ⊎ EndIsDurable b number
    by number (inl s) = inl s
    by number (inr e) = inr (durable_stays a b number goes e)

-- ---- a session changes

pub put_here : (m : Sessions) (session : ℕ) (own : Own) → fin.get (fin.insert m session own) session ≡ Some own
put_here m session own = grind (arith, nat_tests, gets)

pub put_other : (m : Sessions) (session other : ℕ) (own : Own) → nat_eq other session ≡ false → fin.get (fin.insert m session own) other ≡ fin.get m other
put_other m session other own not = grind (arith, nat_tests, gets)

pub gone_here : (m : Sessions) (session : ℕ) → fin.get (fin.remove m session) session ≡ None
gone_here m session = grind (arith, nat_tests, gets)

pub gone_other : (m : Sessions) (session other : ℕ) → nat_eq other session ≡ false → fin.get (fin.remove m session) other ≡ fin.get m other
gone_other m session other not = grind (arith, nat_tests, gets)

pub same_at : (a b : ℕ) → nat_eq a b ≡ true → a ≡ b
same_at a b is = grind (arith, nat_tests)

pub some_is : (x y : Own) → Some x ≡ Some y → x ≡ y
some_is x y is = cc is

-- What is of a session after it was put, by whether it is that one.
pub data Found (m : Sessions) (session : ℕ) (own : Own) (other : ℕ) (x : Own) : Type 0 where
  Here : other ≡ session → x ≡ own → Found m session own other x
  There : fin.get m other ≡ Some x → nat_eq other session ≡ false → Found m session own other x

pub found : (m : Sessions) (session : ℕ) (own : Own) (other : ℕ) (x : Own) → fin.get (fin.insert m session own) other ≡ Some x → Found m session own other x
found m session own other x is = by (nat_eq other session) refl
  where
    by : (b : Bool) → nat_eq other session ≡ b → Found m session own other x
    by true at =
        let one : other ≡ session = same_at other session at in
        Here one (some_is x own (sym is ∙ (ap (λ (n : ℕ). fin.get (fin.insert m session own) n) one ∙ put_here m session own)))
    by false at = There (sym (put_other m session other own at) ∙ is) at

-- A session has a transaction of which no other one has the number.
put_facts : (log : Whole) (begun most session : ℕ) (m : Sessions) (own : Own) → SessionFact log most own → begun ≤ most
    → ((other : ℕ) (x : Own) → fin.get m other ≡ Some x → nat_eq other session ≡ false → x.number ≡ own.number → other ≡ session)
    → ((number : ℕ) → 1 ≤ number → number ≤ most → InSession (fin.insert m session own) number ⊎ EndIsDurable log number)
    → SessionFacts log begun m → SessionFacts log most (fin.insert m session own)
put_facts log begun most session m own new more alone known f = record {
  each = λ other x is. each other x (found m session own other x is);
  apart = λ a b x y is_a is_b same. apart a b x y same (found m session own a x is_a) (found m session own b y is_b);
  known = known;
}
  where
    each : (other : ℕ) (x : Own) → Found m session own other x → SessionFact log most x
    each other x (Here at is) = subst (SessionFact log most) (sym is) new
    each other x (There is not) = let e = f.each other x is in record { from_one = e.from_one; most = omega (arith, e.most, more); fits = e.fits }

    apart : (a b : ℕ) (x y : Own) → x.number ≡ y.number → Found m session own a x → Found m session own b y → a ≡ b
    apart a b x y same (Here at is) (Here at' is') = at ∙ sym at'
    apart a b x y same (Here at is) (There is' not) = at ∙ sym (alone b y is' not (sym same ∙ ap (λ (o : Own). o.number) is))
    apart a b x y same (There is not) (Here at' is') = alone a x is not (same ∙ ap (λ (o : Own). o.number) is') ∙ sym at'
    apart a b x y same (There is not) (There is' not') = f.apart a b x y is is' same

-- A session goes on with its transaction.
on_with : (log : Whole) (begun session : ℕ) (m : Sessions) (old own : Own) → fin.get m session ≡ Some old → own.number ≡ old.number → Fits log own.number own.progress → SessionFacts log begun m
    → SessionFacts log begun (fin.insert m session own)
on_with log begun session m old own is same fits f = put_facts log begun begun session m own new (omega arith) alone known f
  where
    new : SessionFact log begun own
    new = let e = f.each session old is in record { from_one = omega (arith, e.from_one, same); most = omega (arith, e.most, same); fits = fits }

    alone : (other : ℕ) (x : Own) → fin.get m other ≡ Some x → nat_eq other session ≡ false → x.number ≡ own.number → other ≡ session
    alone other x at not k = f.apart other session x old at is (k ∙ same)

    by : (number : ℕ) → InSession m number ⊎ EndIsDurable log number → InSession (fin.insert m session own) number ⊎ EndIsDurable log number
    by number (inr e) = inr e
    by number (inl s) = in_it (nat_eq s.session session) refl
      where
        in_it : (b : Bool) → nat_eq s.session session ≡ b → InSession (fin.insert m session own) number ⊎ EndIsDurable log number
        in_it false at = inl (record { session = s.session; own = s.own; there = put_other m session s.session own at ∙ s.there; same = s.same })
        in_it true at =
            let one : s.own ≡ old = some_is s.own old (sym s.there ∙ (ap (λ (n : ℕ). fin.get m n) (same_at s.session session at) ∙ is)) in
            inl (record { session = session; own = own; there = put_here m session own; same = same ∙ (sym (ap (λ (o : Own). o.number) one) ∙ s.same) })

    known : (number : ℕ) → 1 ≤ number → number ≤ begun → InSession (fin.insert m session own) number ⊎ EndIsDurable log number
    known number from most = by number (f.known number from most)

-- A session begins.
begins : (log : Whole) (begun session : ℕ) (m : Sessions) (own : Own) → own.number ≡ begun + 1 → own.progress ≡ Active → fin.get m session ≡ None → SessionFacts log begun m
    → SessionFacts log (begun + 1) (fin.insert m session own)
begins log begun session m own number active none f = put_facts log begun (begun + 1) session m own new (omega arith) alone known f
  where
    new : SessionFact log (begun + 1) own
    new = record { from_one = omega (arith, number); most = omega (arith, number); fits = subst (Fits log own.number) (sym active) tt }

    alone : (other : ℕ) (x : Own) → fin.get m other ≡ Some x → nat_eq other session ≡ false → x.number ≡ own.number → other ≡ session
    alone other x at not k = absurd (omega (arith, (f.each other x at).most, k, number))

    other : (n : ℕ) (s : InSession m n) (b : Bool) → nat_eq s.session session ≡ b → InSession (fin.insert m session own) n
    other n s true at = absurd (let k : Some s.own ≡ None = sym s.there ∙ (ap (λ (n : ℕ). fin.get m n) (same_at s.session session at) ∙ none) in cc k)
    other n s false at = record { session = s.session; own = s.own; there = put_other m session s.session own at ∙ s.there; same = s.same }

    by : (n : ℕ) → InSession m n ⊎ EndIsDurable log n → InSession (fin.insert m session own) n ⊎ EndIsDurable log n
    by n (inr e) = inr e
    by n (inl s) = inl (other n s (nat_eq s.session session) refl)

    known_by : (n : ℕ) → 1 ≤ n → n ≤ begun + 1 → (b : Bool) → nat_eq n (begun + 1) ≡ b → InSession (fin.insert m session own) n ⊎ EndIsDurable log n
    known_by n from most true is = inl (record { session = session; own = own; there = put_here m session own; same = number ∙ sym (same_at n (begun + 1) is) })
    known_by n from most false is = by n (f.known n from (grind (arith, nat_tests)))

    known : (n : ℕ) → 1 ≤ n → n ≤ begun + 1 → InSession (fin.insert m session own) n ⊎ EndIsDurable log n
    known n from most = known_by n from most (nat_eq n (begun + 1)) refl

-- A session is free, once its end is durable.
frees : (log : Whole) (begun session : ℕ) (m : Sessions) (own : Own) (committed : Bool) (seq : ℕ) → fin.get m session ≡ Some own → own.progress ≡ Ended committed seq → seq ≤ log.durable
    → SessionFacts log begun m → SessionFacts log begun (fin.remove m session)
frees log begun session m own committed seq is at durable f = record {
  each = λ other x k. f.each other x (still other x k);
  apart = λ a b x y k l. f.apart a b x y (still a x k) (still b y l);
  known = λ number from most. by number (f.known number from most);
}
  where
    still : (other : ℕ) (x : Own) → fin.get (fin.remove m session) other ≡ Some x → fin.get m other ≡ Some x
    still other x k = one (nat_eq other session) refl
      where
        one : (b : Bool) → nat_eq other session ≡ b → fin.get m other ≡ Some x
        one true e = absurd (let n : None ≡ Some x = sym (gone_here m session) ∙ (ap (λ (n : ℕ). fin.get (fin.remove m session) n) (sym (same_at other session e)) ∙ k) in cc n)
        one false e = sym (gone_other m session other e) ∙ k

    ends : EndIsDurable log own.number
    ends = (committed, record { seq = seq; at = subst (Fits log own.number) at (f.each session own is).fits; is_durable = durable })

    by : (number : ℕ) → InSession m number ⊎ EndIsDurable log number → InSession (fin.remove m session) number ⊎ EndIsDurable log number
    by number (inr e) = inr e
    by number (inl s) = in_it (nat_eq s.session session) refl
      where
        in_it : (b : Bool) → nat_eq s.session session ≡ b → InSession (fin.remove m session) number ⊎ EndIsDurable log number
        in_it false e = inl (record { session = s.session; own = s.own; there = gone_other m session s.session e ∙ s.there; same = s.same })
        in_it true e =
            let one : s.own ≡ own = some_is s.own own (sym s.there ∙ (ap (λ (n : ℕ). fin.get m n) (same_at s.session session e) ∙ is)) in
            inr (subst (EndIsDurable log) (sym (ap (λ (o : Own). o.number) one) ∙ s.same) ends)

image_known : (w : Work) (o : Option (List Image)) (gs : List Group) → Known gs w → Known gs (with_images w o)
image_known w None gs f = f
image_known w (Some images) gs f = f

acked_known : (w : Work) (store seq : ℕ) (gs : List Group) → Known gs w → Known gs (record w { log = acked w.log store seq })
acked_known w store seq gs f = (rest_acked gs w.log store seq f.0, log_goes (whole_of gs w.log) (whole_of gs (acked w.log store seq)) w.begun w.sessions (whole_acked gs w.log store seq) f.1)

logged_known : (w : Work) (g : Group) (gs : List Group) → Known gs w → Known (gs ++ g ∷ []) (record w { log = appended w.log g })
logged_known w g gs f = (rest_appended gs w.log g f.0, log_goes (whole_of gs w.log) (whole_of (gs ++ g ∷ []) (appended w.log g)) w.begun w.sessions (whole_appended gs w.log g) f.1)

gone_known : (w : Work) (gs : List Group) → Known gs w → Known gs (record w { log = let_go w.log })
gone_known w gs f = (rest_gone gs w.log f.0, subst (λ (x : Whole). SessionFacts x w.begun w.sessions) (sym (whole_gone gs w.log)) f.1)

pub session_facts : GrowsFor AnyCause Known
session_facts = record {
  hears_stamp = λ w stamp h gs f. f;
  hears_vector = λ w vector h gs f. f;
  acks = λ w store seq h came. acked_known w store seq;
  acks_more = λ w store seq h came gs f. acked_known w store seq gs f;
  let_go = λ w may. gone_known w;
  group = λ w records none room gs f. logged_known w _ gs f;
  change = λ w r stamp page is gs f. f;
  grant = λ w page epoch stamp tags vector new brought fits granted gs f. f;
  image = λ w image held same. image_known w _;
  fresh_page = λ w page is came gs f. f;
  fresh_none = λ w gs f. f;
  recall = λ w page epoch came gs f. f;
  give_back = λ w page is came gs f. f;
  release = λ w page epoch is gs f. f;
  path = λ w path gs f. f;
  end = λ w t is gs f. f;
  mark = λ w t is known gs f. f;
  name = λ w t gs f. f;
  begin = λ w session is gs f. (f.0, begins (whole_of gs w.log) w.begun session w.sessions _ refl refl is f.1);
  tag = λ w session page key own is active held gs f. f;
  put = λ w p leaf path fresh count is some gs f. (f.0, on_with (whole_of gs w.log) w.begun p.session w.sessions p.own _ is refl (f.1.each p.session p.own is).fits f.1);
  session = λ w session own left is going gs f. (f.0, on_with (whole_of gs w.log) w.begun session w.sessions own _ is refl tt f.1);
  ends = λ w session own committed is going room gs f.
      let g : Group = next_group w (end_of (own_txn w.log.writer own.number) committed) in
      let all = logged_known w g gs f in (
        all.0,
        on_with (whole_of (gs ++ g ∷ []) (appended w.log g)) w.begun session w.sessions own _ is refl (end_at gs (last_seq w.log) g (own_txn w.log.writer own.number) committed (whole_length gs w.log f.0) refl) all.1,
      );
  free = λ w session own committed seq is at durable gs f. (f.0, frees (whole_of gs w.log) w.begun session w.sessions own committed seq is at durable f.1);
}

abbrev no_map : Sessions
no_map = fin.empty

-- A writer that has just joined.
pub no_sessions : (log : Whole) → SessionFacts log 0 fin.empty
no_sessions log = record {
  each = λ session own is. absurd (none session own is);
  apart = λ a b x y is k same. absurd (none a x is);
  known = λ number from most. absurd (omega (arith, from, most));
}
  where
    none : (session : ℕ) (own : Own) → fin.get no_map session ≡ Some own → ⊥
    none session own is = let k : None ≡ Some own = sym (fin.get-empty nat_cmp session) ∙ is in cc k
