use Rattle.std.proofs.Common.{◌∙◌, ap, subst}
use Rattle.tm_data.specs.Vectors.{IsVector, covers}
use Rattle.tm_data.proofs.VectorLemmas.{covers_meaning}
use Rattle.tm_data.proofs.vector.Vector.covers.Goals as goal

pub returns-clause-meaning : goal.returns-clause-meaning
returns-clause-meaning c =
    covers_meaning c.args.self.now c.args.other.now c.covers_entries.result
    (c.covers_entries.ensures ∙ ap (covers c.args.self.now) c.as_slice.ensures.same)
    (subst IsVector c.as_slice.ensures.same c.as_slice.ensures.ascending)
