use Rattle.std.proofs.Common.{arith}
use Rattle.schema.specs.declared.reading.NoRules.TheVariants.{Wrong}
use Rattle.schema.specs.Verdict.{Advances}
use Rattle.schema.proofs.Progresses.{no_node, refused, too_many}
use Rattle.schema.proofs.reader.Reader.advance.Goals as goal

pub returns-in_err-read-clause-advances : goal.returns-in_err-read-clause-advances
returns-in_err-read-clause-advances c ss w h =
    let r = c.args.self.now in
    let stop = c.in_err-read.field-0.0 in
    refused (Advances r ss r) r.bytes.now (Wrong stop.place) c.from_residual.result c.from_residual.ensures.1 (no_node r.bytes.now r.table.now c.args.sort ss r.at r.parts r.nodes h stop c.in_err-read.ensures) (λ _ q. q)

pub returns-then-parts-gt-MOST_PARTS-clause-advances : goal.returns-then-parts-gt-MOST_PARTS-clause-advances
returns-then-parts-gt-MOST_PARTS-clause-advances c ss w h =
    let r = c.args.self.now in
    too_many r.bytes.now r.table.now c.args.sort ss r.at r.parts r.nodes h c.in_ok-read.read c.in_ok-read.ensures w (omega (arith, c.saturating_add-parts.ensures, c.parts.ensures, c.if-parts-gt-MOST_PARTS.true))
