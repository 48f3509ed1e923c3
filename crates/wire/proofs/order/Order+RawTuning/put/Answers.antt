-- The first byte is set, and no part: `using` with `set_split` doesn't find it.
use Rattle.std.proofs.Common.{◌∙◌, arith, rules}
use Rattle.std.proofs.lemmas.Grind.{common_steps}
use Rattle.std.proofs.lemmas.List.{set_split}
use Rattle.wire.proofs.order.Order+RawTuning.put.Goals as goal

pub returns : goal.returns
returns c =
    let kind = c.from.ensures ∙ c.kind.ensures in
    rw (set_split c.args.out.now 0 c.from.result (omega arith), kind, c.put.ensures, c.tuning.ensures, c.put-2.ensures, c.own.ensures)
    (search (rules, common_steps))
