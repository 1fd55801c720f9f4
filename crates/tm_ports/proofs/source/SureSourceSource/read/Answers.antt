use Rattle.std.proofs.Common.{rules, ◌≡◌, ◌∙◌, min, length, take, drop, sym}
use Rattle.tm_ports.proofs.BytesLemmas.{split_left, none_left}
use Rattle.tm_ports.proofs.source.SureSourceSource.read.Goals as goal

pub returns-clause-bytes : goal.returns-clause-bytes
returns-clause-bytes c =
    let bytes = c.self.inside.bytes in
    let at = c.self.inside.at in
    let n = c.fill-count.result in
    let room = length c.fill-count.new.into in
    let rest = c.split_at.result.1.now in
    let view = c.self.view_is in
    let front : take n c.fill-count.new.into ≡ take n (drop at bytes) = search rules in
    let count : n ≡ min room (length (drop at bytes)) = search rules in
    (sym view ∙ split_left bytes _ at n front, none_left bytes at n room count)
