use Rattle.std.proofs.Common.{◌≡◌, ◌-◌, Ok, Err, refl, ◌∙◌, subst, arith}
use Rattle.sequence.proofs.Grammars.{stop_first}
use Rattle.sequence.proofs.Readers.{stopped}
use Rattle.request.specs.Grammar.{requests, a_path}
use Rattle.request.specs.Reading.{PathAt, CountedPathAt, step_of}
use Rattle.request.proofs.Requests.{completable}
use Rattle.request.proofs.Places.{path_none, path_more, path_stop, counted_path_stops}
use Rattle.request.proofs.reading.read_path.Goals as goal

pub returns-in_err-count : goal.returns-in_err-count
returns-in_err-count c = stopped CountedPathAt _ _ _ _ c.from_residual.ensures.1 (λ ss. stop_first requests completable a_path ss _ _ _ c.in_err-count.ensures.told)

pub loop-init : goal.loop-init
loop-init c = record {
  same = refl;
  after = omega arith;
  within = rw c.in_ok-count.ensures.told.0 (c.in_ok-count.ensures.told.1.0.1);
  rest = λ r h. let z : c.in_ok-count.count - 0 ≡ c.in_ok-count.count = omega arith in subst (λ n. PathAt c.number.new.self.bytes.now c.number.new.self.at n r) z h;
}

pub returns-in_err-next_step : goal.returns-in_err-next_step
returns-in_err-next_step c =
    let (b, t) = c.in_ok-count.ensures.told in
    let s = c.in_err-next_step.field-0.0 in
    stopped CountedPathAt _ _ _ _ c.from_residual-in_err-next_step.ensures.1 (counted_path_stops _ _ _ c.in_ok-count.count s t (rw b at (c.loop.invariant.rest (Err s) (path_stop _ _ _ c.loop.counter s (omega arith) (rw c.loop.invariant.same at c.in_err-next_step.ensures)))))

pub loop-preserved : goal.loop-preserved
loop-preserved c =
    let (b, (w, t)) = rw c.loop.invariant.same at c.in_ok-next_step.ensures in
    record {
      same = b;
      after = omega arith;
      within = rw b t.1;
      rest = λ r h. c.loop.invariant.rest r (path_more _ _ _ _ c.loop.counter (step_of c.in_ok-next_step.field-0) r (omega arith) w t h);
    }

pub returns : goal.returns
returns c =
    let (b, t) = c.in_ok-count.ensures.told in
    let e = c.loop.invariant.same ∙ b in
    (e, (c.number.new.self.at, t, rw b at (c.loop.invariant.rest (Ok c.loop.reader.at) (path_none _ _ _ (omega arith) (rw c.loop.invariant.same at c.loop.invariant.within))), rw e refl))
