use Rattle.std.proofs.Common.{ap, sym, ◌∙◌, ◌++◌, append_assoc, string_bytes, codes, decimal, List, ℕ}
use Rattle.std.proofs.lemmas.Result.{IfOk-weaker}
use Rattle.schedule_text.specs.Outcomes.{txn_text}
use Rattle.text_fields.specs.Fields.{hex_text}
use Rattle.schedule_text.proofs.reply.print_lock.Goals as goal

pub returns : goal.returns
returns c =
    let number : List ℕ = codes "." ++ decimal c.args.txn.now.number in
    let rest : List ℕ = codes " " ++ (string_bytes c.in_ok-key.key ++ c.args.end.now) in
    IfOk-weaker c.format.result _ _ (λ s h. h ∙ ap (λ (r : List ℕ). codes "Locked " ++ r) (sym (append_assoc (decimal c.args.txn.now.writer.0) number rest))
    ∙ ap (λ (k : List ℕ). codes "Locked " ++ (txn_text c.args.txn.now ++ (codes " " ++ (k ++ c.args.end.now)))) (c.in_ok-key.ensures ∙ ap hex_text c.as_slice.ensures.same)) c.format.ensures.ok
