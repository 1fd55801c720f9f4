use Rattle.std.proofs.Common.{◌≡◌, ap, sym, subst, ◌∙◌, arith}
use Rattle.std.specs.Prelude.{List, ℕ, map}
use Rattle.tm_data.specs.Vectors.{IsVector}
use Rattle.tm_data.specs.declared.vector.VectorEntry.{VectorEntry}
use Rattle.log_record.specs.Spelling.{entry_of}
use Rattle.log_record.proofs.GroupLemmas.{is_vector}
use Rattle.log_record.proofs.learnt.read_vector.Goals as goal

pub from_entries-vector-requires : goal.from_entries-vector-requires
from_entries-vector-requires c =
    let is : c.from_vec.result ≡ map entry_of c.in_ok-pairs.pairs.items = c.from_vec.ensures ∙ c.in_ok-entries.ensures ∙ ap (λ (t : List (ℕ × ℕ)). map entry_of t) c.deref.ensures.value in
    subst (λ (t : List VectorEntry). IsVector t) (sym is) (is_vector c.args.total c.args.own c.args.bytes.now (c.in_ok-pairs.pairs.items, c.in_ok-pairs.rest.now) (λ i. omega (arith, c.type_inv.bytes i)) c.in_ok-pairs.ensures)
