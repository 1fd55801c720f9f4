-- Tags of other transactions on a key.
use Rattle.std.proofs.Common.{◌≡◌, ◌∙◌, ℕ, Bool, true, false, cond, List, [], ◌∷◌, Option, Some, None, refl, sym, ap}
use Rattle.std.specs.Prelude.{IfNone, IfOk, IfSome, map, not, ◌&&◌, nat_eq, Result, Ok, Err}
use Rattle.std.specs.List.{filter}
use Rattle.std.specs.Cmp.Lexicographic.{pointwise}
use Rattle.tm_data.specs.declared.transaction.Txn.{Txn}
use Rattle.tm_base.specs.declared.message.Tag.{Tag}
use Rattle.tm_base.specs.declared.reply.Reply.{Reply}
use Rattle.tm_base.specs.declared.reply.Reply.TheVariants as reply
use Rattle.lock_table.specs.Tags.{PageTag, Tags, first, is_on, items, others_on, same_txn, tag_of, tags_on, txn_of}
use Rattle.master_model.specs.State.{Answer, Work}
use Rattle.master_model.specs.Fates.{blocked, blocked_by_tags, or_later}
use Rattle.master_writes.specs.Stops.{is_reader}

pub others_are : (tags : Tags) (page : ℕ) (key : List ℕ) (own : Txn) → others_on tags page key own ≡ filter (is_reader key own) (tags_on tags page)
others_are tags page key own = by (items tags)
  where
    one : (t : PageTag) (rest : List PageTag) (a b c : Bool) → map tag_of (filter (λ (t : PageTag). is_on page t && pointwise nat_eq t.key key && not (same_txn t.txn own)) rest) ≡ filter (is_reader key own) (map tag_of (filter (is_on page) rest))
        → pointwise nat_eq t.key key ≡ b → not (same_txn t.txn own) ≡ c
        → map tag_of (cond (a && b && c) (t ∷ filter (λ (t : PageTag). is_on page t && pointwise nat_eq t.key key && not (same_txn t.txn own)) rest) (filter (λ (t : PageTag). is_on page t && pointwise nat_eq t.key key && not (same_txn t.txn own)) rest))
        ≡ filter (is_reader key own) (map tag_of (cond a (t ∷ filter (is_on page) rest) (filter (is_on page) rest)))
    one t rest false b c ih key_is txn_is = ih
    one t rest true true true ih key_is txn_is = ap (λ (ts : List Tag). tag_of t ∷ ts) ih ∙ sym (λ i. cond (key_is i && txn_is i) (tag_of t ∷ filter (is_reader key own) (map tag_of (filter (is_on page) rest))) (filter (is_reader key own) (map tag_of (filter (is_on page) rest))))
    one t rest true true false ih key_is txn_is = ih ∙ sym (λ i. cond (key_is i && txn_is i) (tag_of t ∷ filter (is_reader key own) (map tag_of (filter (is_on page) rest))) (filter (is_reader key own) (map tag_of (filter (is_on page) rest))))
    one t rest true false c ih key_is txn_is = ih ∙ sym (λ i. cond (key_is i && txn_is i) (tag_of t ∷ filter (is_reader key own) (map tag_of (filter (is_on page) rest))) (filter (is_reader key own) (map tag_of (filter (is_on page) rest))))

    by : (ts : List PageTag) → map tag_of (filter (λ (t : PageTag). is_on page t && pointwise nat_eq t.key key && not (same_txn t.txn own)) ts) ≡ filter (is_reader key own) (map tag_of (filter (is_on page) ts))
    by [] = refl
    by (t ∷ ts) = one t ts (is_on page t) (pointwise nat_eq t.key key) (not (same_txn t.txn own)) (by ts) refl refl

-- No tag is there.
pub none_stops : (w : Work) (f : Tag → Reply) (ts : List Tag) → txn_of (first ts) ≡ None → blocked_by_tags w f ts ≡ None
none_stops w f [] is = refl
none_stops w f (t ∷ ts) is = absurd (cc is)

-- The first one stands in the way.
pub first_stops : (w : Work) (f : Txn → Reply) (ts : List Tag) (t : Txn) (a : Answer) → txn_of (first ts) ≡ Some t → blocked w t (f t) ≡ Some a → blocked_by_tags w (λ (x : Tag). f x.txn) ts ≡ Some a
first_stops w f [] t a is by = absurd (cc is)
first_stops w f (x ∷ xs) t a is by =
    let one : x.txn ≡ t = cc is in
    ap (λ (o : Option Answer). or_later o (blocked_by_tags w (λ (x : Tag). f x.txn) xs)) (ap (λ (u : Txn). blocked w u (f u)) one ∙ by)

module _ (w : Work) (f : Tag → Reply) (r : Tag → Bool) (t : Tag) (ts all : List Tag) (are : all ≡ t ∷ ts) where
  abbrev later : Option Answer
  later = blocked_by_tags w f (filter r ts)

  -- A tag that isn't meant.
  pub skips : r t ≡ false → blocked_by_tags w f (filter r all) ≡ blocked_by_tags w f (filter r ts)
  skips is = ap (λ (l : List Tag). blocked_by_tags w f (filter r l)) are ∙ ap (λ (b : Bool). blocked_by_tags w f (cond b (t ∷ filter r ts) (filter r ts))) is

  meant : r t ≡ true → blocked_by_tags w f (filter r all) ≡ or_later (blocked w t.txn (f t)) (blocked_by_tags w f (filter r ts))
  meant is = ap (λ (l : List Tag). blocked_by_tags w f (filter r l)) are ∙ ap (λ (b : Bool). blocked_by_tags w f (cond b (t ∷ filter r ts) (filter r ts))) is

  -- One that stands in the way, and one that doesn't.
  pub stops_at : (a : Answer) → r t ≡ true → blocked w t.txn (f t) ≡ Some a → blocked_by_tags w f (filter r all) ≡ Some a
  stops_at a is by = meant is ∙ ap (λ (o : Option Answer). or_later o later) by

  pub passes : r t ≡ true → blocked w t.txn (f t) ≡ None → blocked_by_tags w f (filter r all) ≡ blocked_by_tags w f (filter r ts)
  passes is by = meant is ∙ ap (λ (o : Option Answer). or_later o later) by

-- What is said of the answer to the rest is said of the answer to all.
pub same_some : {E B : Type 0} (r : Result (Option B) E) (o p : Option Answer) (f : B → Option Answer) → p ≡ o → IfOk r (λ by. IfSome by (λ a. o ≡ f a)) → IfOk r (λ by. IfSome by (λ a. p ≡ f a))
same_some (Err e) o p f is h = h
same_some (Ok None) o p f is h = h
same_some (Ok (Some a)) o p f is h = is ∙ h

pub same_none : {E B : Type 0} (r : Result (Option B) E) (o p : Option Answer) → p ≡ o → IfOk r (λ by. IfNone by (o ≡ None)) → IfOk r (λ by. IfNone by (p ≡ None))
same_none (Err e) o p is h = h
same_none (Ok None) o p is h = is ∙ h
same_none (Ok (Some a)) o p is h = h
