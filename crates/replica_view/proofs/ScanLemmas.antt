-- The pairs that a walk gathers.
use Rattle.std.specs.Prelude.{Result, Ok, Err, Option, Some, slice_get}
use Rattle.std.proofs.Common.{◌≡◌, ◌≢◌, ◌<◌, ◌≤◌, ◌∙◌, ℕ, zero, suc, ◌+◌, ◌-◌, Bool, true, false, cond, nat_le, List, [], ◌∷◌, ◌++◌, length, take, drop, refl, sym, ap, subst, arith, append_assoc, append-nil, length-append, take_all, drop_of_length-le}
use Rattle.std.proofs.lemmas.Bool.Decides.{nat_tests}
use Rattle.tm_data.specs.declared.image.Body.{Body}
use Rattle.tm_data.specs.declared.image.Body.TheVariants.{Blank, Leaf, Inner}
use Rattle.tm_data.specs.declared.image.Child.{Child}
use Rattle.tm_data.specs.declared.transaction.Page.{Page}
use Rattle.tm_data.specs.declared.vector.VectorEntry.{VectorEntry}
use Rattle.page_model.specs.Tree.{Place, children, level_of}
use Rattle.replica_model.specs.Reads.{Pair, Refused, NoPoint, NoTable, Unfit, after, at_point, at_table, body_at, from_on, gathers, is_table, pairs_in, scan, walk, walk_body, walk_places}
use Rattle.replica_model.specs.State.{State, point}
use Rattle.replica_view.specs.declared.error.ViewError.{ViewError}
use Rattle.replica_view.specs.declared.error.ViewError.TheVariants as view
use Rattle.tm_base.specs.declared.step.Pair as code
use Rattle.replica_view.specs.Answers.{Sees, pairs_of}

how_many : (pairs : List code.Pair) → length (pairs_of pairs) ≡ length pairs
how_many [] = refl
how_many (p ∷ pairs) = ap suc (how_many pairs)

-- ---- at most as many as are wanted

abbrev pairs_in_ok : List Pair → Result (List Pair) Refused → List Pair
pairs_in_ok other (Err why) = other
pairs_in_ok other (Ok pairs) = pairs

ok_same : (x y : List Pair) (r : Result (List Pair) Refused) → Ok x ≡ r → r ≡ Ok y → x ≡ y
ok_same x y r e f = ap (pairs_in_ok x) (e ∙ f)

take_most : {X : Type 0} (n : ℕ) (xs : List X) → length (take n xs) ≤ n
take_most zero xs = omega arith
take_most (suc n) [] = omega arith
take_most (suc n) (x ∷ xs) = omega (arith, take_most n xs)

gathers_most : (count : ℕ) (r : Result (List Pair) Refused) (further : ℕ → Result (List Pair) Refused)
    → ((m : ℕ) (ps : List Pair) → further m ≡ Ok ps → length ps ≤ m) → (ps : List Pair) → gathers count r further ≡ Ok ps → length ps ≤ count
gathers_most count (Err why) further h ps is = absurd (cc)
gathers_most count (Ok pairs) further h ps is = by (nat_le count (length pairs)) refl is
  where
    more : (x : Result (List Pair) Refused) → further (count - length pairs) ≡ x → length pairs < count → after pairs x ≡ Ok ps → length ps ≤ count
    more (Err why) was few is = absurd (cc)
    more (Ok rest) was few is =
        let low : length rest ≤ count - length pairs = h (count - length pairs) rest was in
        let whole : length (pairs ++ rest) ≡ length pairs + length rest = length-append pairs rest in
        let same : pairs ++ rest ≡ ps = ok_same (pairs ++ rest) ps (Ok (pairs ++ rest)) refl is in
        subst (λ (x : List Pair). length x ≤ count) same (omega (arith, low, whole, few))

    by : (b : Bool) → nat_le count (length pairs) ≡ b → cond b (Ok (take count pairs)) (after pairs (further (count - length pairs))) ≡ Ok ps → length ps ≤ count
    by true enough is = subst (λ (x : List Pair). length x ≤ count) (ok_same (take count pairs) ps (Ok (take count pairs)) refl is) (take_most count pairs)
    by false few is = more (further (count - length pairs)) refl (let P : length pairs < count = grind (arith, nat_tests) in P) is

places_most : (walk : Place → ℕ → Result (List Pair) Refused) → ((p : Place) (m : ℕ) (ps : List Pair) → walk p m ≡ Ok ps → length ps ≤ m) → (places : List Place) (count : ℕ) (ps : List Pair)
    → walk_places walk places count ≡ Ok ps → length ps ≤ count
places_most walk h [] count ps is = subst (λ (x : List Pair). length x ≤ count) (ok_same [] ps (Ok []) refl is) (omega arith)
places_most walk h (p ∷ places) count ps is = gathers_most count (walk p count) (walk_places walk places) (λ m qs. places_most walk h places m qs) ps is

pub walk_most : (s : State) (cut : List VectorEntry) (table : ℕ) (from : Option (List ℕ)) (levels : ℕ) (b : Result Body Refused) (count : ℕ) (ps : List Pair)
    → walk_body s cut table from levels b count ≡ Ok ps → length ps ≤ count
walk_most s cut table from levels (Err why) count ps is = absurd (cc)
walk_most s cut table from levels (Ok Blank) count ps is = subst (λ (x : List Pair). length x ≤ count) (ok_same [] ps (Ok []) refl is) (omega arith)
walk_most s cut table from levels (Ok (Leaf of low high rows)) count ps is =
    subst (λ (x : List Pair). length x ≤ count) (ok_same (take count (pairs_in s cut from rows)) ps (Ok (take count (pairs_in s cut from rows))) refl is) (take_most count (pairs_in s cut from rows))
walk_most s cut table from zero (Ok (Inner of level low high first entries)) count ps is = subst (λ (x : List Pair). length x ≤ count) (ok_same [] ps (Ok []) refl is) (omega arith)
walk_most s cut table from (suc n) (Ok (Inner of level low high first entries)) count ps is =
    places_most (λ place. walk_body s cut table from n (body_at s cut table place (Some level)))
    (λ p m qs was. walk_most s cut table from n (body_at s cut table p (Some level)) m qs was)
    (from_on from (children (Inner of level low high first entries))) count ps is

-- ---- refusals

-- What is refused on the way is the answer.
pub passes : {X Y : Type 0} (F : Result X Refused → Result Y Refused) → ((why : Refused) → F (Err why) ≡ Err why) → (e : ViewError) (r : Result X Refused) → Sees {X = X} (Err e) r → Sees {X = Y} (Err e) (F r)
passes F through view.NoPoint r is = ap F is ∙ through NoPoint
passes F through view.NoTable r is = ap F is ∙ through NoTable
passes F through (view.Unfit stamp) r is = ap F is ∙ through (Unfit stamp.0)
passes F through view.NoMemory r is = tt

clash : {X Y : Type 0} (x : X) (e : ViewError) (given : Result Y Refused) → Sees {X = X} (Err e) (Ok x) → Sees {X = Y} (Err e) given
clash x view.NoPoint given is = absurd (cc)
clash x view.NoTable given is = absurd (cc)
clash x (view.Unfit stamp) given is = absurd (cc)
clash x view.NoMemory given is = tt

-- A child that is refused refuses the walk, and so does what is below it.
pub below_refused : (old : List Pair) (left : ℕ) (further : ℕ → Result (List Pair) Refused) (e : ViewError) (r : Result (List Pair) Refused)
    → Sees {X = List Pair} (Err e) (after old r) → Sees {X = List Pair} (Err e) (after old (gathers left r further))
below_refused old left further e (Err why) is = is
below_refused old left further e (Ok more) is = clash (old ++ more) e (after old (gathers left (Ok more) further)) is

-- ---- one more child

after_both : (xs ys : List Pair) (r : Result (List Pair) Refused) → after xs (after ys r) ≡ after (xs ++ ys) r
after_both xs ys (Err why) = refl
after_both xs ys (Ok zs) = ap Ok (sym (append_assoc xs ys zs))

pub after_none : (r : Result (List Pair) Refused) → after [] r ≡ r
after_none (Err why) = refl
after_none (Ok ps) = refl

pub none_after : (old : List Pair) → after old (Ok []) ≡ Ok old
none_after old = ap Ok (append-nil old)

-- The walk of one child has added its pairs: fewer than are wanted, and the next place comes.
pub goes_on : (walk : Place → ℕ → Result (List Pair) Refused) (p : Place) (rest : List Place) (left found : ℕ) (old new : List Pair)
    → after old (walk p left) ≡ Ok new → found ≡ length new - length old → found < left
    → after old (walk_places walk (p ∷ rest) left) ≡ after new (walk_places walk rest (left - found))
goes_on walk p rest left found old new is counted few = by (walk p left) is
  where
    by : (r : Result (List Pair) Refused) → after old r ≡ Ok new → after old (gathers left r (walk_places walk rest)) ≡ after new (walk_places walk rest (left - found))
    by (Err why) is = absurd (cc)
    by (Ok more) is =
        let whole : old ++ more ≡ new = ok_same (old ++ more) new (Ok (old ++ more)) refl is in
        let size : found ≡ length more = omega (arith, counted, ap length whole, length-append old more) in
        let few_more : nat_le left (length more) ≡ false = grind (arith, nat_tests, few, size) in
        ap (λ b. after old (cond b (Ok (take left more)) (after more (walk_places walk rest (left - length more))))) few_more
        ∙ after_both old more (walk_places walk rest (left - length more))
        ∙ ap (λ (ps : List Pair). after ps (walk_places walk rest (left - length more))) whole
        ∙ ap (λ (n : ℕ). after new (walk_places walk rest (left - n))) (sym size)

-- Or as many as are wanted, and the walk is over.
pub is_over : (walk : Place → ℕ → Result (List Pair) Refused) (p : Place) (rest : List Place) (left found : ℕ) (old new : List Pair)
    → after old (walk p left) ≡ Ok new → found ≡ length new - length old → left ≤ found → ((ps : List Pair) → walk p left ≡ Ok ps → length ps ≤ left)
    → after old (walk_places walk (p ∷ rest) left) ≡ Ok new
is_over walk p rest left found old new is counted enough most = by (walk p left) refl is
  where
    by : (r : Result (List Pair) Refused) → walk p left ≡ r → after old r ≡ Ok new → after old (gathers left r (walk_places walk rest)) ≡ Ok new
    by (Err why) was is = absurd (cc)
    by (Ok more) was is =
        let whole : old ++ more ≡ new = ok_same (old ++ more) new (Ok (old ++ more)) refl is in
        let size : found ≡ length more = omega (arith, counted, ap length whole, length-append old more) in
        let all : nat_le left (length more) ≡ true = grind (arith, nat_tests, enough, size) in
        ap (λ b. after old (cond b (Ok (take left more)) (after more (walk_places walk rest (left - length more))))) all
        ∙ ap (λ (ps : List Pair). Ok (old ++ ps)) (take_all left more (most more was))
        ∙ is

-- A walk takes no pair away.
pub grown : (old new : List code.Pair) (r : Result (List Pair) Refused) → after (pairs_of old) r ≡ Ok (pairs_of new) → length old ≤ length new
grown old new (Err why) is = absurd (cc)
grown old new (Ok more) is =
    let whole : pairs_of old ++ more ≡ pairs_of new = ok_same (pairs_of old ++ more) (pairs_of new) (Ok (pairs_of old ++ more)) refl is in
    omega (arith, ap length whole, length-append (pairs_of old) more, how_many old, how_many new)

pub counted : (old new : List code.Pair) (found : ℕ) → found ≡ length new - length old → found ≡ length (pairs_of new) - length (pairs_of old)
counted old new found is = omega (arith, is, how_many old, how_many new)

-- ---- the children by their numbers

dropped : {X : Type 0} (xs : List X) (n : ℕ) (x : X) → slice_get xs n ≡ Some x → drop n xs ≡ x ∷ drop (suc n) xs
dropped [] n x is = absurd (cc)
dropped (y ∷ xs) zero x is = let e : y ≡ x = cc in ap (λ z. z ∷ xs) e
dropped (y ∷ xs) (suc n) x is = dropped xs n x is

abbrev pub walk_at : State → List VectorEntry → ℕ → Option (List ℕ) → ℕ → ℕ → Place → ℕ → Result (List Pair) Refused
walk_at s cut table from levels level place count = walk_body s cut table from levels (body_at s cut table place (Some level)) count

pub child_refused : (s : State) (cut : List VectorEntry) (table : ℕ) (from : Option (List ℕ)) (levels level : ℕ) (all : List Place) (n : ℕ) (p : Place) (left : ℕ) (old : List Pair) (target : Result (List Pair) Refused) (e : ViewError)
    → after old (walk_places (walk_at s cut table from levels level) (drop n all) left) ≡ target → slice_get all n ≡ Some p
    → Sees {X = Body} (Err e) (body_at s cut table p (Some level)) → Sees {X = List Pair} (Err e) target
child_refused s cut table from levels level all n p left old target e is at refused =
    subst (λ (r : Result (List Pair) Refused). Sees {X = List Pair} (Err e) r)
    (ap (λ (ps : List Place). after old (walk_places (walk_at s cut table from levels level) ps left)) (sym (dropped all n p at)) ∙ is)
    (passes (λ b. after old (gathers left (walk_body s cut table from levels b left) (walk_places (walk_at s cut table from levels level) (drop (suc n) all)))) (λ why. refl) e (body_at s cut table p (Some level)) refused)

pub walk_refused : (s : State) (cut : List VectorEntry) (table : ℕ) (from : Option (List ℕ)) (levels level : ℕ) (all : List Place) (n : ℕ) (p : Place) (left : ℕ) (old : List Pair) (target : Result (List Pair) Refused) (child : Body) (e : ViewError)
    → after old (walk_places (walk_at s cut table from levels level) (drop n all) left) ≡ target → slice_get all n ≡ Some p → body_at s cut table p (Some level) ≡ Ok child
    → Sees {X = List Pair} (Err e) (after old (walk_body s cut table from levels (Ok child) left)) → Sees {X = List Pair} (Err e) target
walk_refused s cut table from levels level all n p left old target child e is at there refused =
    subst (λ (r : Result (List Pair) Refused). Sees {X = List Pair} (Err e) r)
    (ap (λ (b : Result Body Refused). after old (gathers left (walk_body s cut table from levels b left) (walk_places (walk_at s cut table from levels level) (drop (suc n) all)))) (sym there)
    ∙ ap (λ (ps : List Place). after old (walk_places (walk_at s cut table from levels level) ps left)) (sym (dropped all n p at)) ∙ is)
    (below_refused old left (walk_places (walk_at s cut table from levels level) (drop (suc n) all)) e (walk_body s cut table from levels (Ok child) left) refused)

pub walk_goes_on : (s : State) (cut : List VectorEntry) (table : ℕ) (from : Option (List ℕ)) (levels level : ℕ) (all : List Place) (n : ℕ) (p : Place) (left found : ℕ) (old new : List Pair) (target : Result (List Pair) Refused) (child : Body)
    → after old (walk_places (walk_at s cut table from levels level) (drop n all) left) ≡ target → slice_get all n ≡ Some p → body_at s cut table p (Some level) ≡ Ok child
    → after old (walk_body s cut table from levels (Ok child) left) ≡ Ok new → found ≡ length new - length old → found < left
    → after new (walk_places (walk_at s cut table from levels level) (drop (n + 1) all) (left - found)) ≡ target
walk_goes_on s cut table from levels level all n p left found old new target child is at there adds counted few =
    ap (λ (m : ℕ). after new (walk_places (walk_at s cut table from levels level) (drop m all) (left - found))) (let e : n + 1 ≡ suc n = omega arith in e)
    ∙ sym (goes_on (walk_at s cut table from levels level) p (drop (suc n) all) left found old new
    (ap (λ (b : Result Body Refused). after old (walk_body s cut table from levels b left)) there ∙ adds) counted few)
    ∙ ap (λ (ps : List Place). after old (walk_places (walk_at s cut table from levels level) ps left)) (sym (dropped all n p at)) ∙ is

pub walk_is_over : (s : State) (cut : List VectorEntry) (table : ℕ) (from : Option (List ℕ)) (levels level : ℕ) (all : List Place) (n : ℕ) (p : Place) (left found : ℕ) (old new : List Pair) (target : Result (List Pair) Refused) (child : Body)
    → after old (walk_places (walk_at s cut table from levels level) (drop n all) left) ≡ target → slice_get all n ≡ Some p → body_at s cut table p (Some level) ≡ Ok child
    → after old (walk_body s cut table from levels (Ok child) left) ≡ Ok new → found ≡ length new - length old → left ≤ found
    → target ≡ Ok new
walk_is_over s cut table from levels level all n p left found old new target child is at there adds counted enough =
    sym is ∙ ap (λ (ps : List Place). after old (walk_places (walk_at s cut table from levels level) ps left)) (dropped all n p at)
    ∙ is_over (walk_at s cut table from levels level) p (drop (suc n) all) left found old new
    (ap (λ (b : Result Body Refused). after old (walk_body s cut table from levels b left)) there ∙ adds) counted enough
    (λ ps. walk_most s cut table from levels (body_at s cut table p (Some level)) left ps)

pub walk_ends : (walk : Place → ℕ → Result (List Pair) Refused) (all : List Place) (n left : ℕ) (old : List Pair) (target : Result (List Pair) Refused)
    → after old (walk_places walk (drop n all) left) ≡ target → length all ≤ n → target ≡ Ok old
walk_ends walk all n left old target is past =
    sym is ∙ ap (λ (ps : List Place). after old (walk_places walk ps left)) (drop_of_length-le all past) ∙ none_after old

-- ---- the way down

pub walks_down : (s : State) (cut : List VectorEntry) (table : ℕ) (from : Option (List ℕ)) (levels : ℕ) (body : Body) (of level : ℕ) (low high : Option (List ℕ)) (first : Page) (entries : List Child) (count : ℕ)
    → body ≡ Inner of level low high first entries → levels ≢ 0
    → walk_body s cut table from levels (Ok body) count ≡ walk_places (walk_at s cut table from (levels - 1) (level_of body)) (from_on from (children body)) count
walks_down s cut table from zero body of level low high first entries count is some = absurd (some refl)
walks_down s cut table from (suc n) body of level low high first entries count is some =
    let e : suc n - 1 ≡ n = omega arith in
    rw (is, e) refl

pub walks_no_further : (s : State) (cut : List VectorEntry) (table : ℕ) (from : Option (List ℕ)) (levels : ℕ) (body : Body) (of level : ℕ) (low high : Option (List ℕ)) (first : Page) (entries : List Child) (count : ℕ) (old : List Pair)
    → body ≡ Inner of level low high first entries → levels ≡ 0 → after old (walk_body s cut table from levels (Ok body) count) ≡ Ok old
walks_no_further s cut table from levels body of level low high first entries count old is none = rw (is, none) (none_after old)

-- ---- the whole walk

pub walk_all : (s : State) (cut : List VectorEntry) (table : ℕ) (from : Option (List ℕ)) (levels count : ℕ) (b : Result Body Refused) (body : Body) (old new : List code.Pair)
    → old ≡ [] → b ≡ Ok body → after (pairs_of old) (walk_body s cut table from levels (Ok body) count) ≡ Ok (pairs_of new) → walk_body s cut table from levels b count ≡ Ok (pairs_of new)
walk_all s cut table from levels count b body old new none there is =
    ap (λ (x : Result Body Refused). walk_body s cut table from levels x count) there ∙ sym (after_none (walk_body s cut table from levels (Ok body) count))
    ∙ ap (λ (ps : List code.Pair). after (pairs_of ps) (walk_body s cut table from levels (Ok body) count)) (sym none) ∙ is

pub walk_all_refused : (s : State) (cut : List VectorEntry) (table : ℕ) (from : Option (List ℕ)) (levels count : ℕ) (b : Result Body Refused) (body : Body) (old : List code.Pair) (e : ViewError)
    → old ≡ [] → b ≡ Ok body → Sees {X = List Pair} (Err e) (after (pairs_of old) (walk_body s cut table from levels (Ok body) count)) → Sees {X = List Pair} (Err e) (walk_body s cut table from levels b count)
walk_all_refused s cut table from levels count b body old e none there is =
    subst (λ (r : Result (List Pair) Refused). Sees {X = List Pair} (Err e) r)
    (ap (λ (ps : List code.Pair). after (pairs_of ps) (walk_body s cut table from levels (Ok body) count)) none
    ∙ after_none (walk_body s cut table from levels (Ok body) count) ∙ ap (λ (x : Result Body Refused). walk_body s cut table from levels x count) (sym there)) is

pub scan_there : (s : State) (number table : ℕ) (from given : Option (List ℕ)) (count : ℕ) (cut : List VectorEntry) → point s number ≡ Some cut → is_table table ≡ true → given ≡ from
    → walk s cut table given count ≡ scan s number table from count
scan_there s number table from given count cut there is same =
    ap (λ (f : Option (List ℕ)). walk s cut table f count) same
    ∙ sym (ap (λ (b : Bool). at_table b (walk s cut table from count)) is)
    ∙ sym (ap (λ (o : Option (List VectorEntry)). at_point o table (λ c. walk s c table from count)) there)
