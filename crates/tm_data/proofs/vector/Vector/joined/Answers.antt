use Rattle.std.proofs.Common.{◌∙◌, ap, max}
use Rattle.tm_data.specs.Vectors.{stamp_of}
use Rattle.tm_data.proofs.VectorLemmas.{joined_stamp}
use Rattle.tm_data.proofs.vector.Vector.joined.Goals as goal

pub returns-clause-greater : goal.returns-clause-greater
returns-clause-greater c =
    let left = c.as_slice.result.now in
    let right = c.as_slice-2.result.now in
    λ w. ap (λ z. stamp_of z w) (c.from_vec.ensures ∙ c.in_ok-merged.ensures.join)
    ∙ joined_stamp left right w c.as_slice.ensures.ascending c.as_slice-2.ensures.ascending
    ∙ ap (λ z. max (stamp_of z w) (stamp_of right w)) c.as_slice.ensures.same
    ∙ ap (λ z. max (stamp_of c.args.self.now w) (stamp_of z w)) c.as_slice-2.ensures.same
