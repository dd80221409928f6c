use Rattle.sequence.specs.Reading.{Reads}
use Rattle.request.specs.Reading.{kind_number, KindAt}
use Rattle.request.proofs.Places.{told_ok, told_none, none_without_opcode, none_of_another, rules_told}
use Rattle.request.proofs.reading.rules_in.Goals as goal

pub returns-in_err-ok : goal.returns-in_err-ok
returns-in_err-ok c =
    let (s, h) = told_none (Reads (KindAt kind_number) _ _) _ c.in_err-ok.ensures.value c.read_kind.ensures in
    rw c.from_residual.ensures (λ rules. none_without_opcode c.args.bytes.now rules s h)

pub returns-in-Fit : goal.returns-in-Fit
returns-in-Fit c =
    let (b, k) = rw c.in-Fit.is at (told_ok (Reads (KindAt kind_number) _ _) _ _ c.in_ok-ok.ensures.value c.read_kind.ensures) in
    rw c.ok-in-Fit.ensures.value (rw b at (rules_told _ _ c.string.result (rw b k) c.string.ensures.told))

pub returns-in-Check : goal.returns-in-Check
returns-in-Check c =
    let (b, k) = told_ok (Reads (KindAt kind_number) _ _) _ _ c.in_ok-ok.ensures.value c.read_kind.ensures in
    λ rules. none_of_another c.args.bytes.now rules c.in_ok-ok.field-0 c.read_kind.new.reader.at k c.in-Check.is
