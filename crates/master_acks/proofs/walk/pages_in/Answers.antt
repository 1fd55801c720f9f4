use Rattle.std.proofs.Common.{◌++◌, ◌+◌, ℕ, List, [], ◌∷◌, append_assoc, ap, sym, ◌∙◌}
use Rattle.std.proofs.lemmas.List.{append-nil}
use Rattle.std.specs.FinMap as fin
use Rattle.master_acks.specs.Inside.{is_in, pages_from}
use Rattle.master_acks.proofs.WalkLemmas.{walk_ends, walk_on}
use Rattle.master_acks.proofs.walk.pages_in.Goals as goal

pub loop-page-preserved : goal.loop-page-preserved
loop-page-preserved c =
    let s = c.args.state in
    let m = c.args.desk.now in
    let p = c.in-Some.page.0 in
    ap (λ (ps : List ℕ). ps ++ pages_from (is_in s) (p + 1) (fin.entries m)) c.in_ok-push.ensures.items
    ∙ append_assoc c.loop-page.pages.items (p ∷ []) (pages_from (is_in s) (p + 1) (fin.entries m))
    ∙ ap (λ (ps : List ℕ). c.loop-page.pages.items ++ ps) (sym (walk_on m s c.loop-page.after c.in-Some.page c.requires c.in-Some.ensures.next))
    ∙ c.loop-page.invariant

pub returns : goal.returns
returns c =
    let s = c.args.state in
    let m = c.args.desk.now in
    sym (append-nil c.loop-page.pages.items)
    ∙ ap (λ (ps : List ℕ). c.loop-page.pages.items ++ ps) (sym (walk_ends m s c.loop-page.after c.in_default.ensures.next c.in_default.ensures.fits))
    ∙ c.loop-page.invariant
