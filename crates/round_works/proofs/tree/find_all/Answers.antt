use Rattle.std.proofs.Common.{◌≡◌, All, arith, rules, take}
use Rattle.std.proofs.lemmas.List.{take_all}
use Rattle.std.proofs.lemmas.List.Elements.{All-more}
use Rattle.round_works.specs.Shelves.{on_shelf, HasKey}
use Rattle.round_works.proofs.tree.find_all.Goals as goal

pub loop-key-preserved : goal.loop-key-preserved
loop-key-preserved c =
    let keys = c.args.keys.now in
    let IsThere = HasKey (on_shelf c.args.shelf.now) 1 in
    let found : IsThere c.key-item.result = c.in_ok-has.ensures (search rules) in
    (omega arith, All-more IsThere keys c.loop-key.key-index c.key-item.result c.loop-key-test.true c.loop-key.invariant.1 (rw (← c.key-item.is) found))

pub returns-clause-there : goal.returns-clause-there
returns-clause-there c =
    let keys = c.args.keys.now in
    let IsThere = HasKey (on_shelf c.args.shelf.now) 1 in
    let whole : take c.loop-key.key-index keys ≡ keys = take_all _ _ c.loop-key-test.false in
    let all : All IsThere (take c.loop-key.key-index keys) = c.loop-key.invariant.1 in
    rw whole at all
