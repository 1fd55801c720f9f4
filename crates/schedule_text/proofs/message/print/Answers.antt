use Rattle.std.proofs.Common.{◌≡◌, ◌∙◌, ◌++◌, ℕ, List, codes, decimal, append_assoc, string_bytes, ap}
use Rattle.std.proofs.lemmas.Result.{IfOk-weaker}
use Rattle.text_fields.specs.Fields.{hex_text}
use Rattle.schedule_lines.specs.Lines.{node_text}
use Rattle.schedule_text.proofs.message.print.Goals as goal

-- the parts of a message's line, put together
joined : (number from to name bytes f t n b : List ℕ) → f ≡ from ++ codes ">" → t ≡ to ++ codes " " → n ≡ name → b ≡ bytes
    → codes "#" ++ (number ++ (codes " " ++ (f ++ (t ++ (n ++ (codes " " ++ b)))))) ≡ codes "#" ++ (number ++ (codes " " ++ (from ++ (codes ">" ++ (to ++ (codes " " ++ (name ++ (codes " " ++ bytes))))))))
joined number from to name bytes f t n b p q r s =
    rw (p, q, r, s) (ap (λ (l : List ℕ). codes "#" ++ (number ++ (codes " " ++ l)))
    (append_assoc from (codes ">") ((to ++ codes " ") ++ (name ++ (codes " " ++ bytes)))
    ∙ ap (λ (l : List ℕ). from ++ (codes ">" ++ l)) (append_assoc to (codes " ") (name ++ (codes " " ++ bytes)))))

pub returns : goal.returns
returns c =
    IfOk-weaker c.format.result _ _ (λ s h. h ∙ joined (decimal c.args.number) (node_text c.args.message.now.from) (node_text c.args.message.now.to) _ _
    (string_bytes c.in_ok-from.from) (string_bytes c.in_ok-to.to) c.note_name-name.result.now (string_bytes c.in_ok-bytes.bytes)
    c.in_ok-from.ensures c.in_ok-to.ensures c.note_name-name.ensures (c.in_ok-bytes.ensures ∙ ap hex_text (c.as_slice.ensures ∙ c.in-Ok.ensures))) c.format.ensures.ok
