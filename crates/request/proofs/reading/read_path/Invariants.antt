use Rattle.std.proofs.Common.{◌≡◌, ℕ, ◌-◌, ◌≤◌, length, Result}
use Rattle.cbor.specs.declared.reading.Stop.{Stop}
use Rattle.request.specs.Reading.{PathAt}
use Rattle.request.proofs.reading.read_path.Given as goal

-- what is left decides
abbrev pub invariant-loop : goal.invariant-loop
invariant-loop l = record {
  same : l.reader.bytes ≡ l.initial.reader.bytes;
  after : l.from ≤ l.reader.at;
  within : l.reader.at ≤ length l.reader.bytes.now;
  rest : (r : Result ℕ Stop) → PathAt l.initial.reader.bytes.now l.reader.at (l.count - l.counter) r → PathAt l.initial.reader.bytes.now l.from l.count r;
}
