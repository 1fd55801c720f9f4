use Rattle.std.proofs.Common.{◌≡◌, ◌≤◌, ◌++◌, List, length, length-append, ap, sym, subst, ◌∙◌, arith}
use Rattle.std.specs.Prelude.{filter}
use Rattle.std.specs.declared.option.Option.TheVariants.{None, Some}
use Rattle.lock_table.specs.declared.heads.Head.{Head}
use Rattle.lock_table.specs.declared.node.Link.{Link}
use Rattle.lock_table.specs.declared.node.Side.TheVariants as side
use Rattle.lock_table.specs.Tags.{is_on, page_tag}
use Rattle.lock_table.specs.Inside.{Entry, IsList, IsLinked, least, link_at, tag_at, head_in, on, upto, from, last_of}
use Rattle.lock_table.proofs.Segments.{split}
use Rattle.lock_table.proofs.Filters.{all_filter}
use Rattle.lock_table.proofs.Tables.{all_parts}
use Rattle.lock_table.proofs.Places.{upto_from}
use Rattle.lock_table.proofs.nodes.Nodes.other.Goals as goal

pub returns : goal.returns
returns c = λ es l.
    let s = c.args.self.now.slab in
    let t = page_tag c.args.page.0 c.args.key.now least in
    let zs = filter (on c.args.page.0) es in
    let li : IsList (link_at side.Page s) c.or_empty-head.result zs =
    subst (λ (h : Head). IsList (link_at side.Page s) h zs) (sym (c.or_empty-head.ensures ∙ ap head_in c.get.ensures)) (l.page c.args.page.0) in
    let cut : zs ≡ upto t zs ++ from t zs = upto_from t zs in
    let links = split (link_at side.Page s) None None (upto t zs) (from t zs) (subst (λ (z : List Entry). IsLinked (link_at side.Page s) None z None) cut li.linked) in
    let here = all_parts (λ e. tag_at s e.0 ≡ Some e.1) (upto t zs) (from t zs) (subst (λ (z : List Entry). Rattle.std.specs.List.AllByRecursion (λ (e : Entry). tag_at s e.0 ≡ Some e.1) z) cut (all_filter (λ e. tag_at s e.0 ≡ Some e.1) (is_on c.args.page.0) es l.here)) in
    let long : length zs ≡ length (upto t zs ++ from t zs) = ap (λ (z : List Entry). length z) cut in
    let parts = length-append (upto t zs) (from t zs) in
    let enough : length (from t zs) ≤ c.or_empty-head.result.count = omega (arith, li.count, long, parts) in
    c.other_from.ensures (last_of None (upto t zs)) (from t zs) links.1 (ap (λ (z : Link). z.next) (c.place-place.ensures es l)) here.1 enough
