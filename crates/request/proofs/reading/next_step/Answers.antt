use Rattle.std.proofs.Common.{refl}
use Rattle.sequence.specs.Token.{opcode, number, string}
use Rattle.sequence.proofs.Grammars.{stop_first, spelled_one, spelled_two}
use Rattle.sequence.proofs.Readers.{stopped}
use Rattle.request.specs.Grammar.{requests, a_step, a_number, a_string}
use Rattle.request.specs.Reading.{StepAt}
use Rattle.request.proofs.Requests.{completable}
use Rattle.request.proofs.Places.{step_stops}
use Rattle.request.proofs.reading.next_step.Goals as goal

pub returns-in_err-read_kind : goal.returns-in_err-read_kind
returns-in_err-read_kind c = stopped StepAt _ _ _ _ c.from_residual.ensures.1 (λ ss. stop_first requests completable a_step ss _ _ _ c.in_err-read_kind.ensures)

pub returns-in_err-number-in-Index : goal.returns-in_err-number-in-Index
returns-in_err-number-in-Index c =
    let (b, t) = rw c.in-Index.is at c.in_ok-read_kind.ensures in
    stopped StepAt _ _ _ _ c.from_residual-in_err-number-in-Index.ensures.1 (step_stops _ _ _ 0 a_number _ refl t (rw b at c.in_err-number-in-Index.ensures.told))

pub returns-in_err-string-in-Key : goal.returns-in_err-string-in-Key
returns-in_err-string-in-Key c =
    let (b, t) = rw c.in-Key.is at c.in_ok-read_kind.ensures in
    stopped StepAt _ _ _ _ c.from_residual-in_err-string-in-Key.ensures.1 (step_stops _ _ _ 1 a_string _ refl t (rw b at c.in_err-string-in-Key.ensures.told))

pub returns-in_ok-number-in-Index : goal.returns-in_ok-number-in-Index
returns-in_ok-number-in-Index c =
    let (b, t) = rw c.in-Index.is at c.in_ok-read_kind.ensures in
    let (d, u) = rw b at c.in_ok-number-in-Index.ensures.told in
    (d, (u.0.2.1, spelled_two (opcode 2) number _ _ _ _ _ _ t u))

pub returns-in_ok-string-in-Key : goal.returns-in_ok-string-in-Key
returns-in_ok-string-in-Key c =
    let (b, t) = rw c.in-Key.is at c.in_ok-read_kind.ensures in
    let (d, u) = rw b at c.in_ok-string-in-Key.ensures.told in
    (d, (u.0.2.1, spelled_two (opcode 2) string _ _ _ _ _ _ t u))

pub returns-in-Content : goal.returns-in-Content
returns-in-Content c =
    let (b, t) = rw c.in-Content.is at c.in_ok-read_kind.ensures in
    (b, (tt, spelled_one (opcode 2) _ _ _ _ t))
