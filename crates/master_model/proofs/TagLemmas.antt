-- What holds of a master's tags holds after each move.
use Rattle.std.proofs.Common.{◌≡◌, ◌<◌, ◌≤◌, ◌+◌, ◌-◌, ℕ, zero, suc, Bool, true, false, List, [], ◌∷◌, ◌++◌, Option, Some, None, refl, ap, sym, subst, ◌∙◌, cond, take, drop, arith}
use Rattle.std.specs.Prelude.{nat_eq, nat_le, nat_lt, not, ◌&&◌, ◌||◌, slice_get, length}
use Rattle.std.specs.List.{AllByRecursion}
use Rattle.std.specs.Ordering.{eq_by_cmp}
use Rattle.std.specs.FinMap as fin
use Rattle.std.specs.FinSet.{FinSet}
use Rattle.std.specs.FinSet as sets
use Rattle.std.proofs.lemmas.Bool.Decides.{nat_tests}
use Rattle.tm_data.specs.declared.image.Image.{Image}
use Rattle.tm_data.specs.declared.log.Group.{Group}
use Rattle.tm_data.specs.declared.transaction.Page.{Page}
use Rattle.tm_data.specs.declared.transaction.Stamp.{Stamp}
use Rattle.tm_data.specs.declared.transaction.Txn.{Txn}
use Rattle.tm_data.specs.Orders.{txn_cmp, txn_cmp-total}
use Rattle.tm_base.specs.declared.message.Tag.{Tag}
use Rattle.page_model.specs.Splits.{Halves, halves}
use Rattle.log_writer.specs.declared.logged.Logged.{Logged}
use Rattle.log_writer.specs.Log.{Log, acked, appended, durable_seq, last_seq, let_go}
use Rattle.log_writer.proofs.LetGoLemmas.{same_durable}
use Rattle.log_writer.proofs.OrderLemmas.{durable_appended}
use Rattle.lease_desk.specs.Desk as desk
use Rattle.lease_desk.specs.Desk.{Leases, is_held, lease_of}
use Rattle.master_model.specs.declared.session.Own.{Own}
use Rattle.master_model.specs.declared.session.Progress.{Progress}
use Rattle.master_model.specs.declared.session.Progress.TheVariants.{Active, Undoing, Ended}
use Rattle.lock_table.specs.Tags.{PageTag, Tags, is_on, moved, moved_tag, page_tag, same_txn, with_tags, without_page, without_txn}
use Rattle.master_model.specs.State.{Work, durable}
use Rattle.master_model.specs.Fates.{has_ended, is_ended, is_over, is_own}
use Rattle.master_model.specs.Logging.{next_group}
use Rattle.master_model.specs.Reads.{txn_numbered}
use Rattle.master_model.specs.Writes.{last_page, parted, parted_by, tags_after}
use Rattle.master_model.specs.Ends.{end_of}
use Rattle.master_model.specs.Acks.{ends_between, ends_in, ends_of, without_all}
use Rattle.master_model.specs.Leases.{binding, with_images}
use Rattle.master_model.specs.Facts.{Fits, Has, IsRestOf, PageFacts, SessionFacts, Sessions, TagFacts, groups_in, own_txn, whole_of}
use Rattle.master_model.proofs.GoesLemmas.{acked_is}
use Rattle.master_model.proofs.LackLemmas.{all_taken}
use Rattle.master_model.proofs.GrowMoves.{GrowsFor}
use Rattle.master_model.proofs.LoggedLemmas.{isnt_durable}
use Rattle.master_model.proofs.Moves.{AnyCause, with_ack_of, without_ended, begun_in}
use Rattle.master_model.proofs.OpenLemmas.{OpenIn, open_in_is, open_is_in, open_unended, session_open, unended_open}
use Rattle.master_model.proofs.PageLemmas.{has_changed, has_granted, has_others, has_recalled, has_released, held_had, page_moves}
use Rattle.master_model.proofs.SessionLemmas as session_lemmas
use Rattle.master_model.proofs.SessionLemmas.{gone_other, put_here, put_other, same_at, session_facts, some_is}
use Rattle.master_model.proofs.StepMoves.{granted_held}
use Rattle.master_model.proofs.WholeLemmas.{get_behind}
use Rattle.master_model.proofs.TagSetLemmas.{AllTags, all_inserted, all_moved, all_with, eq_txn, left_passes}

-- Of a master's pages, sessions and tags.
abbrev pub Known : List Group → Work → Type 0
Known gs w = PageFacts w.leases w.pool.images w.stock × session_lemmas.Known gs w × TagFacts w

-- ---- what hasn't ended

pub unended_own : (w : Work) (t : Txn) → is_ended w t ≡ false → is_own w t ≡ true → has_ended w t.number ≡ false
unended_own w t is own = sym (ap (λ (b : Bool). cond b (has_ended w t.number) (sets.contains w.ended t)) own) ∙ is

unended_other : (w : Work) (t : Txn) → is_ended w t ≡ false → is_own w t ≡ false → sets.contains w.ended t ≡ false
unended_other w t is own = sym (ap (λ (b : Bool). cond b (has_ended w t.number) (sets.contains w.ended t)) own) ∙ is

unended_by : (w : Work) (t : Txn) → (is_own w t ≡ true → has_ended w t.number ≡ false) → (is_own w t ≡ false → sets.contains w.ended t ≡ false) → is_ended w t ≡ false
unended_by w t own other = by (is_own w t) refl
  where
    by : (b : Bool) → is_own w t ≡ b → cond b (has_ended w t.number) (sets.contains w.ended t) ≡ false
    by true is = own is
    by false is = other is

-- What hasn't ended hasn't after a move that leaves it open.
unended_on : (a b : Work) (t : Txn) → (is_own a t ≡ true → 1 ≤ t.number → t.number ≤ b.begun → (t.number ≤ a.begun → OpenIn a.sessions (durable a) t.number) → OpenIn b.sessions (durable b) t.number)
    → b.log.writer ≡ a.log.writer → b.ended ≡ a.ended → is_ended a t ≡ false → is_ended b t ≡ false
unended_on a b t opens writer ended is = unended_by b t own other
  where
    same : is_own b t ≡ is_own a t
    same = ap (λ (x : _). nat_eq t.writer.0 x.0) writer

    own : is_own b t ≡ true → has_ended b t.number ≡ false
    own k =
        let old : is_own a t ≡ true = sym same ∙ k in
        open_unended b t.number (λ from most. open_in_is b t.number (opens old from most (λ less. open_is_in a t.number (unended_open a t.number (unended_own a t is old) from less))))

    other : is_own b t ≡ false → sets.contains b.ended t ≡ false
    other k = ap (λ (s : FinSet txn_cmp). sets.contains s t) ended ∙ unended_other a t is (sym same ∙ k)

-- ---- the log

same_durable_is : (w : Work) (log : Log) (t : Txn) → log.writer ≡ w.log.writer → durable_seq log ≡ durable w → is_ended w t ≡ false → is_ended (record w { log = log }) t ≡ false
same_durable_is w log t writer same is =
    unended_on w (record w { log = log }) t (λ own from most open_in. subst (λ (d : ℕ). OpenIn w.sessions d t.number) (sym same) (open_in most)) writer refl is

not_less : (a b : ℕ) → a ≤ b → nat_lt a b ≡ false → b ≡ a
not_less a b less is = grind (arith, nat_tests)

-- ---- ends that become durable

pub all_split : {X : Type 0} (P : X → Type 0) (xs ys : List X) → AllByRecursion P (xs ++ ys) → AllByRecursion P xs × AllByRecursion P ys
all_split P [] ys h = (tt, h)
all_split P (x ∷ xs) ys h = let rest = all_split P xs ys h.1 in ((h.0, rest.0), rest.1)

-- What holds of all ends between two numbers holds of the end of a group between them.
between : (P : Txn × Bool → Type 0) (ls : List Logged) (old count i : ℕ) (g : Group) (t : Txn) (committed : Bool) → slice_get (groups_in ls) i ≡ Some g → g.records ≡ end_of t committed → old ≤ i → i < old + count
    → AllByRecursion P (ends_of (take count (drop old ls))) → P (t, committed)
between P [] old count i g t committed is says from below h = absurd (cc is)
between P (l ∷ ls) (suc old) count zero g t committed is says from below h = absurd (omega (arith, from))
between P (l ∷ ls) (suc old) count (suc i) g t committed is says from below h = between P ls old count i g t committed is says (omega (arith, from)) (omega (arith, below)) h
between P (l ∷ ls) zero zero i g t committed is says from below h = absurd (omega (arith, below))
between P (l ∷ ls) zero (suc count) zero g t committed is says from below h =
    let one : l.group ≡ g = cc is in
    let ends : ends_in l.group.records ≡ (t, committed) ∷ [] = ap (λ (x : Group). ends_in x.records) one ∙ ap ends_in says in
    (subst (AllByRecursion P) ends (all_split P (ends_in l.group.records) (ends_of (take count ls)) h).0).0
between P (l ∷ ls) zero (suc count) (suc i) g t committed is says from below h =
    between P ls zero count i g t committed is says (omega arith) (omega (arith, below)) (all_split P (ends_in l.group.records) (ends_of (take count ls)) h).1

not_so : (b : Bool) → not b ≡ true → b ≡ false
not_so true h = cc h
not_so false h = refl

pub without_passes : (tags : Tags) (ends : List (Txn × Bool)) (t : PageTag) → fin.contains_key (without_all tags ends) t ≡ true → (fin.contains_key tags t ≡ true) × AllByRecursion (λ (e : Txn × Bool). same_txn t.txn e.0 ≡ false) ends
without_passes tags [] t is = (is, tt)
without_passes tags (e ∷ es) t is =
    let rest = without_passes (without_txn tags e.0) es t is in
    let here = left_passes tags (λ x. not (same_txn x.txn e.0)) t rest.0 in (here.0, (not_so (same_txn t.txn e.0) here.1, rest.1))

pub same_itself : (t : Txn) → same_txn t t ≡ true
same_itself t = by (nat_eq t.writer.0 t.writer.0) (nat_eq t.number t.number) (grind (arith, nat_tests)) (grind (arith, nat_tests))
  where
    by : (a b : Bool) → a ≡ true → b ≡ true → (a && b) ≡ true
    by true b h k = k
    by false b h k = absurd (cc h)

-- An own transaction that isn't among the ends that become durable stays open.
acked_open : (gs : List Group) (log new : Log) (begun most number : ℕ) (m : Sessions) → IsRestOf gs log → new.gone ≡ log.gone → groups_in new.groups ≡ groups_in log.groups → SessionFacts (whole_of gs log) begun m
    → AllByRecursion (λ (e : Txn × Bool). same_txn (own_txn log.writer number) e.0 ≡ false) (ends_between new (durable_seq log) most) → OpenIn m (durable_seq log) number → OpenIn m most number
acked_open gs log new begun most number m rest gone same f none o = record { session = o.session; own = o.own; there = o.there; same = o.same; goes_on = by o.own.progress o.goes_on (f.each o.session o.own o.there).fits }
  where
    old : ℕ
    old = durable_seq log

    -- a group that isn't durable is still there
    still : (seq : ℕ) (g : Group) → old < seq → slice_get gs (seq - 1) ≡ Some g → slice_get (groups_in new.groups) (seq - 1 - new.gone) ≡ Some g
    still seq g above is =
        let at : log.gone + (seq - 1 - new.gone) ≡ seq - 1 = omega (arith, above, gone) in
        ap (λ (xs : List Group). slice_get xs (seq - 1 - new.gone)) (same ∙ rest.rest) ∙ get_behind gs log.gone (seq - 1 - new.gone) ∙ ap (λ (k : ℕ). slice_get gs k) at ∙ is

    by : (p : Progress) → is_over old p ≡ false → Fits (whole_of gs log) o.own.number p → is_over most p ≡ false
    by Active goes fits = refl
    by Undoing goes fits = refl
    by (Ended committed seq) goes fits = at (nat_le seq most) refl
      where
        at : (b : Bool) → nat_le seq most ≡ b → nat_le seq most ≡ false
        at false is = is
        at true is =
            let above : old < seq = grind (arith, nat_tests) in
            let below : seq ≤ most = grind (arith, nat_tests) in
            let k : same_txn (own_txn log.writer number) (own_txn log.writer o.own.number) ≡ false =
            between (λ (e : Txn × Bool). same_txn (own_txn log.writer number) e.0 ≡ false) new.groups (old - new.gone) (most - old) (seq - 1 - new.gone) fits.group (own_txn log.writer o.own.number) committed
            (still seq fits.group above fits.there) fits.says (omega (arith, above, gone)) (omega (arith, above, below, gone, fits.from_one)) none in
            let yes : same_txn (own_txn log.writer number) (own_txn log.writer o.own.number) ≡ true = ap (λ (n : ℕ). same_txn (own_txn log.writer number) (own_txn log.writer n)) o.same ∙ same_itself (own_txn log.writer number) in absurd (cc (k, yes))

acked_tags : (w : Work) (store seq : ℕ) → nat_lt (durable w) (durable (with_ack_of w store seq)) ≡ false → TagFacts w → TagFacts (with_ack_of w store seq)
acked_tags w store seq is f = record {
  had = f.had;
  binds = λ t at. same_durable_is w (acked w.log store seq) t.txn refl (not_less (durable w) (durable (with_ack_of w store seq)) (acked_is w.log store seq).durable is) (f.binds t at);
}

gone_tags_stay : (w : Work) → TagFacts w → TagFacts (record w { log = let_go w.log })
gone_tags_stay w f = record { had = f.had; binds = λ t at. same_durable_is w (let_go w.log) t.txn refl (same_durable w.log) (f.binds t at) }

own_is : (w : Work) (t : Txn) → is_own w t ≡ true → t ≡ own_txn w.log.writer t.number
own_is w t is = let one : t.writer.0 ≡ w.log.writer.0 = grind (arith, nat_tests) in ap (λ (n : ℕ). record { writer = record { 0 = n }; number = t.number }) one

more_tags : (gs : List Group) (w : Work) (store seq : ℕ) → session_lemmas.Known gs w → TagFacts w → TagFacts (without_ended (with_ack_of w store seq) (durable w))
more_tags gs w store seq known f = record { had = λ t at. f.had t (left t at).0; binds = λ t at. binds t (left t at) }
  where
    new : Work
    new = with_ack_of w store seq

    ends : List (Txn × Bool)
    ends = ends_between new.log (durable w) (durable new)

    left : (t : PageTag) → fin.contains_key (without_all w.tags ends) t ≡ true → (fin.contains_key w.tags t ≡ true) × AllByRecursion (λ (e : Txn × Bool). same_txn t.txn e.0 ≡ false) ends
    left t at = without_passes w.tags ends t at

    binds : (t : PageTag) → (fin.contains_key w.tags t ≡ true) × AllByRecursion (λ (e : Txn × Bool). same_txn t.txn e.0 ≡ false) ends → is_ended (without_ended new (durable w)) t.txn ≡ false
    binds t two = unended_on w (without_ended new (durable w)) t.txn (λ own from most open_in.
        acked_open gs w.log new.log w.begun (durable new) t.txn.number w.sessions known.0 refl (acked_is w.log store seq).same known.1
        (subst (λ (x : Txn). AllByRecursion (λ (e : Txn × Bool). same_txn x e.0 ≡ false) ends) (own_is w t.txn own) two.1) (open_in most)) refl refl (f.binds t two.0)

-- ---- pages

on_pages : (w : Work) (leases : Leases) → ((q : ℕ) → Has w.leases q → Has leases q) → TagFacts w → TagFacts (record w { leases = leases })
on_pages w leases on f = record { had = λ t at. on t.page (f.had t at); binds = f.binds }

-- A tag that is on a page that is had, and binds.
abbrev Stands : Work → PageTag → Type 0
Stands w t = Has w.leases t.page × (is_ended w t.txn ≡ false)

stand_all : (w : Work) → TagFacts w → AllTags (Stands w) w.tags
stand_all w f t at = (f.had t at, f.binds t at)

bound_stand : (w : Work) (page : ℕ) (ts : List Tag) → Has w.leases page → AllByRecursion (λ (t : Tag). is_ended w t.txn ≡ false) ts → AllByRecursion (λ (t : Tag). Stands w (page_tag page t.key t.txn)) ts
bound_stand w page [] at h = tt
bound_stand w page (t ∷ ts) at h = ((at, h.0), bound_stand w page ts at h.1)

bound : (w : Work) (ts : List Tag) → AllByRecursion (λ (t : Tag). is_ended w t.txn ≡ false) (binding w ts)
bound w [] = tt
bound w (t ∷ ts) = by (is_ended w t.txn) refl (bound w ts)
  where
    by : (b : Bool) → is_ended w t.txn ≡ b → AllByRecursion (λ (t : Tag). is_ended w t.txn ≡ false) (binding w ts) → AllByRecursion (λ (t : Tag). is_ended w t.txn ≡ false) (cond (not b) (t ∷ binding w ts) (binding w ts))
    by true is rest = rest
    by false is rest = (is, rest)

to_facts : (w : Work) (tags : Tags) → AllTags (Stands w) tags → TagFacts (record w { tags = tags })
to_facts w tags h = record { had = λ t at. (h t at).0; binds = λ t at. (h t at).1 }

granted_tags : (w : Work) (page epoch : ℕ) (stamp : Stamp) (ts : List Tag) → nat_lt (lease_of w.leases page).epoch epoch ≡ true → TagFacts w
    → AllTags (Stands (record w { leases = desk.granted w.leases page epoch stamp })) (with_tags w.tags page (binding w ts))
granted_tags w page epoch stamp ts is f =
    let new : Work = record w { leases = desk.granted w.leases page epoch stamp } in
    all_with (Stands new) w.tags page (binding w ts) (λ t at. (has_granted w.leases page epoch stamp t.page (f.had t at), f.binds t at))
    (bound_stand new page (binding w ts) (held_had (lease_of new.leases page).state (granted_held w.leases page epoch stamp is)) (bound w ts))

gone_tags : (w : Work) (page : ℕ) → TagFacts w → AllTags (Stands (record w { leases = desk.releasing w.leases page })) (without_page w.tags page)
gone_tags w page f t at =
    let two = left_passes w.tags (λ x. not (is_on page x)) t at in (has_others w.leases page t.page (not_so (nat_eq t.page page) two.1) (f.had t two.0), f.binds t two.0)

image_tags : (w : Work) (o : Option (List Image)) → TagFacts w → TagFacts (with_images w o)
image_tags w None f = record { had = f.had; binds = f.binds }
image_tags w (Some images) f = record { had = f.had; binds = f.binds }

-- ---- fates

end_tags : (w : Work) (t : Txn) → is_own w t ≡ false → TagFacts w → TagFacts (record w { ended = sets.insert w.ended t; told_open = sets.remove w.told_open t; tags = without_txn w.tags t })
end_tags w t foreign f = record { had = λ u at. f.had u (left u at).0; binds = λ u at. binds u (left u at) }
  where
    left : (u : PageTag) → fin.contains_key (without_txn w.tags t) u ≡ true → (fin.contains_key w.tags u ≡ true) × (not (same_txn u.txn t) ≡ true)
    left u at = left_passes w.tags (λ x. not (same_txn x.txn t)) u at

    new : Work
    new = record w { ended = sets.insert w.ended t; told_open = sets.remove w.told_open t; tags = without_txn w.tags t }

    other : (u : Txn) → same_txn u t ≡ false → sets.contains w.ended u ≡ false → sets.contains (sets.insert w.ended t) u ≡ false
    other u differ old = by (eq_by_cmp txn_cmp u t) refl (sets.contains-insert txn_cmp-total w.ended t u)
      where
        by : (b : Bool) → eq_by_cmp txn_cmp u t ≡ b → sets.contains (sets.insert w.ended t) u ≡ (b || sets.contains w.ended u) → sets.contains (sets.insert w.ended t) u ≡ false
        by true same k = absurd (let yes : same_txn u t ≡ true = ap (λ (x : Txn). same_txn x t) (eq_txn u t same) ∙ same_itself t in cc (yes, differ))
        by false same k = k ∙ old

    binds : (u : PageTag) → (fin.contains_key w.tags u ≡ true) × (not (same_txn u.txn t) ≡ true) → is_ended new u.txn ≡ false
    binds u two = unended_by new u.txn (λ own. unended_own w u.txn (f.binds u two.0) own) (λ own. other u.txn (not_so (same_txn u.txn t) two.1) (unended_other w u.txn (f.binds u two.0) own))

-- ---- sessions

-- A session goes on with its transaction, which isn't over now if it wasn't.
open_on : (m : Sessions) (most session number : ℕ) (old own : Own) → fin.get m session ≡ Some old → own.number ≡ old.number → (is_over most old.progress ≡ false → is_over most own.progress ≡ false) → OpenIn m most number
    → OpenIn (fin.insert m session own) most number
open_on m most session number old own is same goes o = by (nat_eq o.session session) refl
  where
    by : (b : Bool) → nat_eq o.session session ≡ b → OpenIn (fin.insert m session own) most number
    by false at = record { session = o.session; own = o.own; there = put_other m session o.session own at ∙ o.there; same = o.same; goes_on = o.goes_on }
    by true at =
        let one : o.own ≡ old = some_is o.own old (sym o.there ∙ (ap (λ (n : ℕ). fin.get m n) (same_at o.session session at) ∙ is)) in
        record { session = session; own = own; there = put_here m session own; same = same ∙ (sym (ap (λ (x : Own). x.number) one) ∙ o.same); goes_on = goes (sym (ap (λ (x : Own). is_over most x.progress) one) ∙ o.goes_on) }

-- A session begins beside it.
open_beside : (m : Sessions) (most session number : ℕ) (own : Own) → fin.get m session ≡ None → OpenIn m most number → OpenIn (fin.insert m session own) most number
open_beside m most session number own none o = by (nat_eq o.session session) refl
  where
    by : (b : Bool) → nat_eq o.session session ≡ b → OpenIn (fin.insert m session own) most number
    by false at = record { session = o.session; own = o.own; there = put_other m session o.session own at ∙ o.there; same = o.same; goes_on = o.goes_on }
    by true at = absurd (let k : Some o.own ≡ None = sym o.there ∙ (ap (λ (n : ℕ). fin.get m n) (same_at o.session session at) ∙ none) in cc k)

-- Another session is free, whose transaction is over.
open_free : (m : Sessions) (most session number : ℕ) (own : Own) → fin.get m session ≡ Some own → is_over most own.progress ≡ true → OpenIn m most number → OpenIn (fin.remove m session) most number
open_free m most session number own is over o = by (nat_eq o.session session) refl
  where
    by : (b : Bool) → nat_eq o.session session ≡ b → OpenIn (fin.remove m session) most number
    by false at = record { session = o.session; own = o.own; there = gone_other m session o.session at ∙ o.there; same = o.same; goes_on = o.goes_on }
    by true at =
        let one : o.own ≡ own = some_is o.own own (sym o.there ∙ (ap (λ (n : ℕ). fin.get m n) (same_at o.session session at) ∙ is)) in
        absurd (let yes : is_over most o.own.progress ≡ true = ap (λ (x : Own). is_over most x.progress) one ∙ over in let no : is_over most o.own.progress ≡ false = o.goes_on in cc (yes, no))

begun_tags : (w : Work) (session : ℕ) → fin.get w.sessions session ≡ None → TagFacts w → TagFacts (begun_in w session)
begun_tags w session none f = record { had = f.had; binds = λ t at. unended_on w (begun_in w session) t.txn (λ own. opens t.txn.number) refl refl (f.binds t at) }
  where
    new : Own
    new = record { number = w.begun + 1; written = fin.empty; progress = Active }

    opens : (n : ℕ) → 1 ≤ n → n ≤ w.begun + 1 → (n ≤ w.begun → OpenIn w.sessions (durable w) n) → OpenIn (fin.insert w.sessions session new) (durable w) n
    opens n from most old = by (nat_eq n (w.begun + 1)) refl
      where
        by : (b : Bool) → nat_eq n (w.begun + 1) ≡ b → OpenIn (fin.insert w.sessions session new) (durable w) n
        by true is = record { session = session; own = new; there = put_here w.sessions session new; same = sym (same_at n (w.begun + 1) is); goes_on = refl }
        by false is = open_beside w.sessions (durable w) session n new none (old (grind (arith, nat_tests)))

-- A session's transaction goes on.
session_tags : (w : Work) (session : ℕ) (old own : Own) → fin.get w.sessions session ≡ Some old → own.number ≡ old.number → (is_over (durable w) old.progress ≡ false → is_over (durable w) own.progress ≡ false) → TagFacts w
    → TagFacts (record w { sessions = fin.insert w.sessions session own })
session_tags w session old own is same goes f = record {
  had = f.had;
  binds = λ t at. unended_on w (record w { sessions = fin.insert w.sessions session own }) t.txn (λ mine from most open_in. open_on w.sessions (durable w) session t.txn.number old own is same goes (open_in most)) refl refl (f.binds t at);
}

free_tags : (w : Work) (session : ℕ) (own : Own) → fin.get w.sessions session ≡ Some own → is_over (durable w) own.progress ≡ true → TagFacts w → TagFacts (record w { sessions = fin.remove w.sessions session })
free_tags w session own is over f = record {
  had = f.had;
  binds = λ t at. unended_on w (record w { sessions = fin.remove w.sessions session }) t.txn (λ mine from most open_in. open_free w.sessions (durable w) session t.txn.number own is over (open_in most)) refl refl (f.binds t at);
}

isnt_over : (most seq : ℕ) (committed : Bool) → most < seq → is_over most (Ended committed seq) ≡ false
isnt_over most seq committed above = grind (arith, nat_tests)

ended_over : (most seq : ℕ) (committed : Bool) (p : Progress) → p ≡ Ended committed seq → seq ≤ most → is_over most p ≡ true
ended_over most seq committed p is below = ap (is_over most) is ∙ yes
  where
    yes : nat_le seq most ≡ true
    yes = grind (arith, nat_tests)

read_tags : (w : Work) (session page : ℕ) (key : List ℕ) (own : Own) → fin.get w.sessions session ≡ Some own → own.progress ≡ Active → is_held (lease_of w.leases page).state ≡ true → Stands w (page_tag page key (txn_numbered w own.number))
read_tags w session page key own is active held = (
  held_had (lease_of w.leases page).state held,
  unended_by w (txn_numbered w own.number) (λ mine. open_unended w own.number (λ from most. session_open w session own is (ap (is_over (durable w)) active))) (λ mine. absurd (let yes : nat_eq w.log.writer.0 w.log.writer.0 ≡ true = grind (arith, nat_tests) in cc (mine, yes))),
)

-- ---- tags move

last_had : (m : Leases) (p : Page) (ps : List Page) → Has m p.0 → AllByRecursion (λ (q : Page). Has m q.0) ps → Has m (last_page p ps).0
last_had m p [] at h = at
last_had m p (q ∷ ps) at h = last_had m q ps h.0 h.1

moves_to : (w : Work) (page : ℕ) (at : List ℕ) (to : ℕ) → Has w.leases to → (t : PageTag) → Stands w t → Stands w (moved_tag page at to t)
moves_to w page at to had t h = by (_)
  where
    by : (b : Bool) → Stands w (cond b (record t { page = to }) t)
    by true = (had, h.1)
    by false = h

parted_stand : (w : Work) (leaf : Page) (separator : List ℕ) (fresh : List Page) (is_root : Bool) → AllByRecursion (λ (p : Page). Has w.leases p.0) fresh → AllTags (Stands w) w.tags → AllTags (Stands w) (parted w.tags leaf separator fresh is_root)
parted_stand w leaf separator [] is_root had h = h
parted_stand w leaf separator (p ∷ ps) false had h =
    all_moved (Stands w) (Stands w) w.tags leaf.0 separator (last_page p ps).0 (moves_to w leaf.0 separator (last_page p ps).0 (last_had w.leases p ps had.0 had.1)) h
parted_stand w leaf separator (p ∷ ps) true had h =
    all_moved (Stands w) (Stands w) (moved w.tags leaf.0 separator (last_page p ps).0) leaf.0 [] p.0 (moves_to w leaf.0 [] p.0 had.0)
    (all_moved (Stands w) (Stands w) w.tags leaf.0 separator (last_page p ps).0 (moves_to w leaf.0 separator (last_page p ps).0 (last_had w.leases p ps had.0 had.1)) h)

after_stand : (w : Work) (leaf : Image) (path fresh : List Page) → AllByRecursion (λ (p : Page). Has w.leases p.0) fresh → AllTags (Stands w) w.tags → AllTags (Stands w) (tags_after w.tags leaf path fresh)
after_stand w leaf path fresh had h = by (halves leaf.body)
  where
    by : (o : Option Halves) → AllTags (Stands w) (parted_by w.tags leaf.page fresh (nat_eq (length path) 1) o)
    by None = h
    by (Some half) = parted_stand w leaf.page half.separator fresh (nat_eq (length path) 1) had h

-- ---- all of it

pub tag_moves : GrowsFor AnyCause Known
tag_moves = record {
  hears_stamp = λ w stamp is gs h. (h.0, h.1, record { had = h.2.had; binds = h.2.binds });
  hears_vector = λ w vector is gs h. (h.0, h.1, record { had = h.2.had; binds = h.2.binds });
  acks = λ w store seq is came gs h. (h.0, session_facts.acks w store seq is tt gs h.1, acked_tags w store seq is h.2);
  acks_more = λ w store seq is came gs h. (h.0, session_facts.acks_more w store seq is tt gs h.1, more_tags gs w store seq h.1 h.2);
  let_go = λ w may gs h. (h.0, session_facts.let_go w (λ page. tt) gs h.1, let f = gone_tags_stay w h.2 in record { had = f.had; binds = f.binds });
  group = λ w records none room gs h. (
    h.0,
    session_facts.group w records none room gs h.1,
    record { had = h.2.had; binds = λ t at. same_durable_is w (appended w.log _) t.txn refl (durable_appended w.log _) (h.2.binds t at) },
  );
  change = λ w r stamp page is gs h. (page_moves.change w r stamp page is h.0, h.1, record { had = λ t at. has_changed w.leases page (record { 0 = stamp }) t.page (h.2.had t at); binds = h.2.binds });
  grant = λ w page epoch stamp tags vector new brought fits granted gs h. (
    page_moves.grant w page epoch stamp tags vector new brought fits granted h.0,
    h.1,
    let all = granted_tags w page.0 epoch stamp tags new h.2 in record { had = λ t at. (all t at).0; binds = λ t at. (all t at).1 },
  );
  image = λ w image held same gs h. (page_moves.image w image held same h.0, session_facts.image w image held same gs h.1, image_tags w _ h.2);
  fresh_page = λ w page is came gs h. (
    page_moves.fresh_page w page is tt h.0,
    h.1,
    record { had = λ t at. has_granted w.leases page.0 1 (record { 0 = 0 }) t.page (h.2.had t at); binds = h.2.binds },
  );
  fresh_none = λ w gs h. (h.0, h.1, record { had = h.2.had; binds = h.2.binds });
  recall = λ w page epoch came gs h. (
    page_moves.recall w page epoch tt h.0,
    h.1,
    record { had = λ t at. has_recalled w.leases page epoch t.page (h.2.had t at); binds = h.2.binds },
  );
  give_back = λ w page is came gs h. (
    page_moves.give_back w page is tt h.0,
    h.1,
    let all = gone_tags w page h.2 in record { had = λ t at. (all t at).0; binds = λ t at. (all t at).1 },
  );
  release = λ w page epoch is gs h. (
    page_moves.release w page epoch is h.0,
    h.1,
    record { had = λ t at. has_released w.leases page epoch t.page (h.2.had t at); binds = h.2.binds },
  );
  path = λ w path gs h. (page_moves.path w path h.0, h.1, record { had = h.2.had; binds = h.2.binds });
  end = λ w t is gs h. (h.0, h.1, end_tags w t is h.2);
  mark = λ w t is known gs h. (h.0, h.1, record { had = h.2.had; binds = h.2.binds });
  name = λ w t gs h. (h.0, h.1, record { had = h.2.had; binds = h.2.binds });
  begin = λ w session is gs h. (h.0, session_facts.begin w session is gs h.1, begun_tags w session is h.2);
  tag = λ w session page key own is active held gs h. (
    h.0,
    h.1,
    to_facts w _ (all_inserted (Stands w) w.tags (page_tag page key (txn_numbered w own.number)) (stand_all w h.2) (read_tags w session page key own is active held)),
  );
  put = λ w p leaf path fresh count is some gs h. (
    page_moves.put w p leaf path fresh count is some h.0,
    session_facts.put w p leaf path fresh count is some gs h.1,
    let had = subst (λ (ps : List Page). AllByRecursion (λ (q : Page). Has w.leases q.0) ps) (sym some) (all_taken (λ (q : Page). Has w.leases q.0) count w.stock h.0.fresh) in
        let moved_on = to_facts w (tags_after w.tags leaf path fresh) (after_stand w leaf path fresh had (stand_all w h.2)) in
        let last = session_tags (record w { tags = tags_after w.tags leaf path fresh }) p.session p.own _ is refl (λ k. k) moved_on in record { had = last.had; binds = last.binds },
  );
  session = λ w session own left is going gs h. (h.0, session_facts.session w session own left is going gs h.1, session_tags w session own _ is refl (λ k. refl) h.2);
  ends = λ w session own committed is going room gs h. (
    h.0,
    session_facts.ends w session own committed is going room gs h.1,
    let g : Group = next_group w (end_of (own_txn w.log.writer own.number) committed) in
        let late = isnt_durable w.log g in
        let logged : TagFacts (record w { log = appended w.log g }) = record { had = h.2.had; binds = λ t at. same_durable_is w (appended w.log g) t.txn refl (durable_appended w.log g) (h.2.binds t at) } in
        let last = session_tags (record w { log = appended w.log g }) session own _ is refl (λ k. isnt_over (durable_seq (appended w.log g)) (last_seq w.log + 1) committed late) logged in
        record { had = last.had; binds = last.binds },
  );
  free = λ w session own committed seq is at durable gs h. (
    h.0,
    session_facts.free w session own committed seq is at durable gs h.1,
    free_tags w session own is (ended_over _ seq committed own.progress at durable) h.2,
  );
}
