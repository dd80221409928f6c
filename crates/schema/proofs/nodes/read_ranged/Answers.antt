use Rattle.std.proofs.Common.{◌∷◌}
use Rattle.sequence.specs.Token.{number}
use Rattle.sequence.proofs.Grammars.{spelled_two}
use Rattle.sequence.proofs.Readers.{stopped}
use Rattle.schema.specs.Grammar.{a_bound, a_last}
use Rattle.schema.specs.Reading.{RangedAt}
use Rattle.schema.proofs.Places.{ceases_first, range_second}
use Rattle.schema.proofs.nodes.read_ranged.Goals as goal

pub returns-in_err-low : goal.returns-in_err-low
returns-in_err-low g c = stopped (RangedAt (goal.F-post g c.args.make)) _ _ _ _ c.from_residual.ensures.1 (λ ss. ceases_first a_bound (a_last ∷ ss) _ _ _ c.in_err-low.ensures.told)

pub returns-in_err-high : goal.returns-in_err-high
returns-in_err-high g c =
    let (b, t) = c.in_ok-low.ensures.told in
    stopped (RangedAt (goal.F-post g c.args.make)) _ _ _ _ c.from_residual-in_err-high.ensures.1 (range_second _ _ _ _ _ t (rw b at c.in_err-high.ensures.told))

pub returns : goal.returns
returns g c =
    let (b, t) = c.in_ok-low.ensures.told in
    let (d, u) = rw b at c.in_ok-high.ensures.told in
    (d, (c.in_ok-low.low, c.in_ok-high.high, c.make.ensures, t.0.2.1, u.0.2.1, spelled_two number number _ _ _ _ _ _ t u))
