use Rattle.std.proofs.Common.{◌≡◌, ◌+◌, rules, arith}
use Rattle.std.specs.Option.{MatchOption}
use Rattle.reach.proofs.Parts.{LastOther, last_up_is}
use Rattle.reach.proofs.last_up.Goals as goal

pub returns : goal.returns
returns c =
    let h : LastOther c.args.bytes.now c.rposition.result = search rules in
    let e : MatchOption c.rposition.result (c.map_or.result ≡ 0) (λ i. c.map_or.result ≡ i + 1) = search rules in
    last_up_is c.args.bytes.now c.rposition.result _ (λ k. omega (arith, c.type_inv.bytes k)) h e
