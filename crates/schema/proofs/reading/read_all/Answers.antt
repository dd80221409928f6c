use Rattle.std.proofs.Common.{[], length, subst, ap, arith, rules}
use Rattle.schema.specs.Verdict.{Refused, RulesAt, Stands}
use Rattle.schema.specs.declared.reading.NoRules.TheVariants.{Wrong}
use Rattle.schema.proofs.Progresses.{refused, no_number, trailing, whole}
use Rattle.schema.proofs.reading.read_all.Goals as goal

pub returns-in_err-rules-clause-rules : goal.returns-in_err-rules-clause-rules
returns-in_err-rules-clause-rules c =
    let bytes = c.args.bytes.now in
    let stop = c.in_err-rules.field-0.0 in
    refused (RulesAt bytes c.args.table.now) bytes (Wrong stop.place) c.from_residual.result c.from_residual.ensures.1 (no_number bytes stop c.in_err-rules.ensures) (λ _ h. h)

pub returns-then-reader-bytes-clause-rules : goal.returns-then-reader-bytes-clause-rules
returns-then-reader-bytes-clause-rules c =
    let r = c.loop-sort.reader in
    let i = c.loop-sort.invariant in
    let h : Stands r [] = subst (Stands r) c.in_default.ensures.popped i.stands in
    subst (λ bs. Refused bs (Wrong r.at)) i.bytes (trailing r.bytes.now r.table.now r.at r.parts r.nodes h (omega (arith, c.if-reader-bytes.true, ap length i.bytes)))

pub returns-clause-rules : goal.returns-clause-rules
returns-clause-rules c =
    let r = c.loop-sort.reader in
    let i = c.loop-sort.invariant in
    let h : Stands r [] = subst (Stands r) c.in_default.ensures.popped i.stands in
    whole r.bytes.now c.args.bytes.now r.table.now _ r.at r.parts r.nodes h i.bytes (search rules) (omega (arith, c.if-reader-bytes.false, ap length i.bytes))
