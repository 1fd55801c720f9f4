use Rattle.format_laws.proofs.StoreLemmas.{page_stepped, page_ticked, wants_spelled}
use Rattle.format_laws.proofs.stores.a_page_store_sends_what_can_be_spelled.Goals as goal

pub returns : goal.returns
returns c = record { step = page_stepped; tick = page_ticked; refused = wants_spelled }
