use Rattle.std.proofs.Common.{◌∙◌, ap, List, rules}
use Rattle.std.specs.Prelude.{filter, not, nat_eq}
use Rattle.std.proofs.lemmas.Fn.{filter_same}
use Rattle.tm_data.specs.declared.transaction.Page.{Page}
use Rattle.master_parts.proofs.stock.Stock.remove.Goals as goal

pub returns : goal.returns
returns c =
    filter_same _ (λ (p : Page). not (nat_eq p.0 c.args.page.0)) _ (λ x b f' k. search rules) c.self.inside.pages.items c.retain.new.self.items c.retain.ensures.filtered
    ∙ ap (λ (z : List Page). filter (λ (p : Page). not (nat_eq p.0 c.args.page.0)) z) c.self.view_is
