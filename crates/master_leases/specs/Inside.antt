-- What a step keeps of the pool, and tags that came with a page and are taken back.
use Rattle.std.specs.Prelude.{ℕ, Bool, true, false, cond, ◌&&◌, nat_eq, List, [], ◌∷◌, Option, Some, None}
use Rattle.std.specs.Cmp.Lexicographic.{pointwise}
use Rattle.std.specs.FinMap as fin
use Rattle.tm_data.specs.declared.image.Image.{Image}
use Rattle.tm_base.specs.declared.message.Tag.{Tag}
use Rattle.page_model.specs.Pool.{Pool, put_in}
use Rattle.lock_table.specs.Tags.{Tags, page_tag, same_txn}

-- The pool with an image, unless all places are taken by images that aren't durable.
abbrev pub with_images : Pool → Option (List Image) → Pool
with_images p None = p
with_images p (Some images) = record p { images = images }

abbrev pub with_put : Pool → Image → ℕ → Pool
with_put p image durable = with_images p (put_in p image durable)

abbrev pub same_tag : Tag → Tag → Bool
same_tag s t = pointwise nat_eq s.key t.key && same_txn s.txn t.txn

abbrev pub is_among : List Tag → Tag → Bool
is_among [] t = false
is_among (s ∷ ss) t = cond (same_tag s t) true (is_among ss t)

-- The tags without one of a page, unless it was there before.
abbrev pub cut_unless : Tags → ℕ → Tag → Bool → Tags
cut_unless tags page t true = tags
cut_unless tags page t false = fin.remove tags (page_tag page t.key t.txn)

-- The tags without those of a list that weren't on the page before.
abbrev pub taken_back : Tags → ℕ → List Tag → List Tag → Tags
taken_back tags page before [] = tags
taken_back tags page before (t ∷ ts) = taken_back (cut_unless tags page t (is_among before t)) page before ts
