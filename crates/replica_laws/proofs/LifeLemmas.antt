-- What a replica does over a list of messages, ticks and publications: its points, and its order as that of a list of deeds.
use Rattle.std.specs.Prelude.{List, [], ◌∷◌, ◌++◌, ℕ, zero, suc, ◌-◌, Bool, true, false, cond, nat_eq, nat_lt, length, slice_get}
use Rattle.std.proofs.Common.{◌≡◌, ◌∙◌, refl, sym, ap, subst}
use Rattle.std.specs.List.{AllByRecursion}
use Rattle.std.specs.FinMap as fin
use Rattle.std.specs.declared.option.Option.{Option}
use Rattle.std.specs.declared.option.Option.TheVariants.{None, Some}
use Rattle.tm_data.specs.declared.log.Group.{Group}
use Rattle.tm_data.specs.declared.transaction.Writer.{Writer}
use Rattle.tm_data.specs.declared.vector.VectorEntry.{VectorEntry}
use Rattle.tm_base.specs.declared.message.Message.{Message}
use Rattle.tm_base.specs.declared.message.Node.{Node}
use Rattle.tm_base.specs.declared.message.Note.{Note}
use Rattle.tm_base.specs.declared.message.Note.TheVariants as note
use Rattle.tm_base.specs.declared.message.RosterEntry.{RosterEntry}
use Rattle.replica_model.specs.Order.{Order, after_next, applied, line_of, next, offered, uncovered}
use Rattle.replica_model.specs.State.{State, point, start}
use Rattle.replica_model.specs.Step.{applies, applies_some, applies_upto, heard, offered_of, on_listed, on_new, on_note, on_told, step, waiting}
use Rattle.replica_model.specs.Reads.{publish_past, publishes}
use Rattle.replica_laws.specs.Runs.{Deed, Next, Offer, Past, begun, done, run}
use Rattle.replica_laws.specs.Lives.{Hears, Input, OrdersRun, PointsStay, Publishes, Ticks, after_input, lives}
use Rattle.replica_laws.proofs.RunLemmas.{begun_holds, run_holds}

-- ---- points

some_points : (s : State) (o : Option Group) (further : State → State) → ((t : State) → (further t).points ≡ t.points) → (applies_some s o further).points ≡ s.points
some_points s None further h = refl
some_points s (Some g) further h = h (applies s g)

upto_points : (n : ℕ) (s : State) → (applies_upto n s).points ≡ s.points
upto_points zero s = refl
upto_points (suc n) s = some_points s (next s.order) (applies_upto n) (upto_points n)

new_points : (s : State) (from : Node) (writer : Writer) (b : Bool) → (on_new s from writer b).0.points ≡ s.points
new_points s from writer true = upto_points (waiting s.order) s
new_points s from writer false = refl

listed_points : (s : State) (from : Node) (writer : Writer) (groups : List Group) (o : Option RosterEntry) → (on_listed s from writer groups o).0.points ≡ s.points
listed_points s from writer groups None = refl
listed_points s from writer groups (Some e) =
    let order = offered_of s.order writer.0 groups in
    let t : State = record s { order = order } in
    new_points t from writer (nat_lt (line_of s.order writer.0).next (line_of order writer.0).next)

told_points : (s : State) (stamp : ℕ) (told : List RosterEntry) (b : Bool) → (on_told s stamp told b).0.points ≡ s.points
told_points s stamp told true = refl
told_points s stamp told false = refl

note_points : (s : State) (from : Node) (stamp : ℕ) (n : Note) → (on_note s from stamp n).0.points ≡ s.points
note_points s from stamp (note.Roster told) = told_points s stamp told (nat_lt stamp s.roster_stamp)
note_points s from stamp (note.Groups writer groups) = listed_points s from writer groups (fin.get s.roster writer.0)
note_points s from stamp n = refl

pub step_points : (s : State) (m : Message) → (step s m).0.points ≡ s.points
step_points s m = note_points (heard s m.stamp.0) m.from m.stamp.0 m.note

get_more : {X : Type 0} (xs : List X) (x : X) (i : ℕ) (y : X) → slice_get xs i ≡ Some y → slice_get (xs ++ x ∷ []) i ≡ Some y
get_more [] x i y h = absurd (cc)
get_more (z ∷ zs) x zero y h = h
get_more (z ∷ zs) x (suc i) y h = get_more zs x i y h

-- A point of the new list is one of the old list, or has the frontier.
point_more : (s : State) (number : ℕ) (v x : List VectorEntry) → point s number ≡ Some v → point (record s { points = s.points ++ x ∷ [] }) number ≡ Some v
point_more s number v x h = by (nat_eq number 0) h
  where
    by : (b : Bool) → cond b None (slice_get s.points (number - 1)) ≡ Some v → cond b None (slice_get (s.points ++ x ∷ []) (number - 1)) ≡ Some v
    by true h = h
    by false h = get_more s.points x (number - 1) v h

publish_point : (s : State) (o : Option VectorEntry) (number : ℕ) (v : List VectorEntry) → point s number ≡ Some v → point (publish_past s o).0 number ≡ Some v
publish_point s (Some e) number v h = h
publish_point s None number v h = by (nat_lt (length s.points) 65536)
  where
    by : (b : Bool) → point (publishes s b).0 number ≡ Some v
    by true = point_more s number v s.order.frontier h
    by false = h

input_point : (s : State) (i : Input) (number : ℕ) (v : List VectorEntry) → point s number ≡ Some v → point (after_input s i) number ≡ Some v
input_point s (Hears m) number v h = ap (λ (points : List (List VectorEntry)). cond (nat_eq number 0) None (slice_get points (number - 1))) (step_points s m) ∙ h
input_point s Ticks number v h = h
input_point s (Publishes bound) number v h = publish_point s (uncovered s.order.frontier bound) number v h

pub points_stay : PointsStay
points_stay s [] number v h = h
points_stay s (i ∷ inputs) number v h = points_stay (after_input s i) inputs number v (input_point s i number v h)

-- ---- the deeds of a step

abbrev pub deeds : Order → List Deed → Order
deeds o [] = o
deeds o (Offer g ∷ ds) = deeds (offered o g) ds
deeds o (Next ∷ ds) = deeds (after_next o (next o)) ds

pub run_order : (ds : List Deed) (p : Past) → (run p ds).order ≡ deeds p.order ds
run_order [] p = refl
run_order (Offer g ∷ ds) p = run_order ds (done p (Offer g))
run_order (Next ∷ ds) p = run_order ds (done p Next)

deeds_both : (ds es : List Deed) (o : Order) → deeds o (ds ++ es) ≡ deeds (deeds o ds) es
deeds_both [] es o = refl
deeds_both (Offer g ∷ ds) es o = deeds_both ds es (offered o g)
deeds_both (Next ∷ ds) es o = deeds_both ds es (after_next o (next o))

-- The groups that are offered have a property.
abbrev pub Has : (Group → Type 0) → Deed → Type 0
Has P (Offer g) = P g
Has P Next = Unit {0}

pub record Leads (P : Group → Type 0) (old new : Order) : Type 0 where
  pub way : List Deed
  pub comes : deeds old way ≡ new
  pub has : AllByRecursion (Has P) way

stays : (P : Group → Type 0) (o : Order) → Leads P o o
stays P o = record { way = []; comes = refl; has = tt }

all_both : (P : Group → Type 0) (ds es : List Deed) → AllByRecursion (Has P) ds → AllByRecursion (Has P) es → AllByRecursion (Has P) (ds ++ es)
all_both P [] es h k = k
all_both P (d ∷ ds) es h k = (h.0, all_both P ds es h.1 k)

pub goes_on : (P : Group → Type 0) (a b c : Order) → Leads P a b → Leads P b c → Leads P a c
goes_on P a b c h k = record {
  way = h.way ++ k.way;
  comes = deeds_both h.way k.way a ∙ ap (λ (o : Order). deeds o k.way) h.comes ∙ k.comes;
  has = all_both P h.way k.way h.has k.has;
}

upto_leads : (P : Group → Type 0) (n : ℕ) (s : State) → Leads P s.order (applies_upto n s).order
upto_leads P zero s = stays P s.order
upto_leads P (suc n) s = by (next s.order) refl (upto_leads P n)
  where
    by : (o : Option Group) → next s.order ≡ o → ((t : State) → Leads P t.order (applies_upto n t).order) → Leads P s.order (applies_some s o (applies_upto n)).order
    by None is rest = stays P s.order
    by (Some g) is rest =
        goes_on P s.order (applied s.order g) (applies_upto n (applies s g)).order (record { way = Next ∷ []; comes = ap (after_next s.order) is; has = (tt, tt) }) (rest (applies s g))

offered_leads : (P : Group → Type 0) (o : Order) (writer : ℕ) (gs : List Group) → AllByRecursion P gs → Leads P o (offered_of o writer gs)
offered_leads P o writer [] h = stays P o
offered_leads P o writer (g ∷ gs) h = by (nat_eq g.writer.0 writer) (λ (p : Order). offered_leads P p writer gs h.1)
  where
    by : (b : Bool) → ((p : Order) → Leads P p (offered_of p writer gs)) → Leads P o (offered_of (cond b (offered o g) o) writer gs)
    by true rest = goes_on P o (offered o g) (offered_of (offered o g) writer gs) (record { way = Offer g ∷ []; comes = refl; has = (h.0, tt) }) (rest (offered o g))
    by false rest = rest o

new_leads : (P : Group → Type 0) (s : State) (from : Node) (writer : Writer) (b : Bool) → Leads P s.order (on_new s from writer b).0.order
new_leads P s from writer true = upto_leads P (waiting s.order) s
new_leads P s from writer false = stays P s.order

listed_leads : (P : Group → Type 0) (s : State) (from : Node) (writer : Writer) (gs : List Group) (o : Option RosterEntry) → AllByRecursion P gs
    → Leads P s.order (on_listed s from writer gs o).0.order
listed_leads P s from writer gs None h = stays P s.order
listed_leads P s from writer gs (Some e) h =
    let order = offered_of s.order writer.0 gs in
    let t : State = record s { order = order } in
    let b = nat_lt (line_of s.order writer.0).next (line_of order writer.0).next in
    goes_on P s.order order (on_new t from writer b).0.order (offered_leads P s.order writer.0 gs h) (new_leads P t from writer b)

told_leads : (P : Group → Type 0) (s : State) (stamp : ℕ) (told : List RosterEntry) (b : Bool) → Leads P s.order (on_told s stamp told b).0.order
told_leads P s stamp told true = stays P s.order
told_leads P s stamp told false = stays P s.order

-- The groups that a message brings have it.
abbrev pub Brings : (Group → Type 0) → Note → Type 0
Brings P (note.Groups writer gs) = AllByRecursion P gs
Brings P other = Unit {0}

abbrev pub BringsIn : (Group → Type 0) → Input → Type 0
BringsIn P (Hears m) = Brings P m.note
BringsIn P Ticks = Unit {0}
BringsIn P (Publishes bound) = Unit {0}

note_leads : (P : Group → Type 0) (s : State) (from : Node) (stamp : ℕ) (n : Note) → Brings P n → Leads P s.order (on_note s from stamp n).0.order
note_leads P s from stamp (note.Roster told) h = told_leads P s stamp told (nat_lt stamp s.roster_stamp)
note_leads P s from stamp (note.Groups writer gs) h = listed_leads P s from writer gs (fin.get s.roster writer.0) h
note_leads P s from stamp n h = stays P s.order

publish_order : (s : State) (o : Option VectorEntry) → (publish_past s o).0.order ≡ s.order
publish_order s (Some e) = refl
publish_order s None = by (nat_lt (length s.points) 65536)
  where
    by : (b : Bool) → (publishes s b).0.order ≡ s.order
    by true = refl
    by false = refl

pub input_leads : (P : Group → Type 0) (s : State) (i : Input) → BringsIn P i → Leads P s.order (after_input s i).order
input_leads P s (Hears m) h = note_leads P (heard s m.stamp.0) m.from m.stamp.0 m.note h
input_leads P s Ticks h = stays P s.order
input_leads P s (Publishes bound) h = subst (Leads P s.order) (sym (publish_order s (uncovered s.order.frontier bound))) (stays P s.order)

pub life_leads : (P : Group → Type 0) (s : State) (inputs : List Input) → AllByRecursion (BringsIn P) inputs → Leads P s.order (lives s inputs).order
life_leads P s [] h = stays P s.order
life_leads P s (i ∷ inputs) h =
    goes_on P s.order (after_input s i).order (lives (after_input s i) inputs).order (input_leads P s i h.0) (life_leads P (after_input s i) inputs h.1)

-- ---- the order of a life

abbrev pub Any : Group → Type 0
Any g = Unit {0}

any_of : (gs : List Group) → AllByRecursion Any gs
any_of [] = tt
any_of (g ∷ gs) = (tt, any_of gs)

brings_any : (n : Note) → Brings Any n
brings_any (note.Groups writer gs) = any_of gs
brings_any n = tt

pub input_any : (i : Input) → BringsIn Any i
input_any (Hears m) = brings_any m.note
input_any Ticks = tt
input_any (Publishes bound) = tt

all_any : (inputs : List Input) → AllByRecursion (BringsIn Any) inputs
all_any [] = tt
all_any (i ∷ inputs) = (input_any i, all_any inputs)

pub orders_run : OrdersRun
orders_run number inputs =
    let its = life_leads Any (start number) inputs (all_any inputs) in
    (run begun its.way, sym its.comes ∙ sym (run_order its.way begun), run_holds its.way begun begun_holds)
