use Rattle.lease_desk.proofs.HeldLemmas.{above_first, above_none, above_there}
use Rattle.lease_desk.proofs.held_pages.HeldPages.first_above.Goals as goal

pub returns-in-Some-clause-there : goal.returns-in-Some-clause-there
returns-in-Some-clause-there c =
    above_there c.self.inside.pages.keys c.args.self.now c.range-above.result c.next.new.self c.args.after c.in-Some.page.now c.self.view_is (c.range-above.ensures.in_range tt) c.in-Some.ensures.steps

pub returns-in-Some-clause-first : goal.returns-in-Some-clause-first
returns-in-Some-clause-first c =
    above_first c.self.inside.pages.keys c.args.self.now c.range-above.result c.next.new.self c.args.after c.in-Some.page.now c.self.view_is (c.range-above.ensures.in_range tt) c.in-Some.ensures.steps

pub returns-in-None-clause-none : goal.returns-in-None-clause-none
returns-in-None-clause-none c = above_none c.self.inside.pages.keys c.args.self.now c.range-above.result c.args.after c.self.view_is (c.range-above.ensures.in_range tt) c.in-None.ensures.steps.0
