use Rattle.std.proofs.Common.{rules, ◌≡◌, MatchResult, true, false, length, Ok, sym, subst, arith}
use Rattle.std.proofs.lemmas.Result.{IfOk-weaker, err_from_is_err_and}
use Rattle.prefixes.specs.Walks.{first_for}
use Rattle.checker.specs.Ends.{stop_within}
use Rattle.checker.proofs.Steps.{typed}
use Rattle.checker.proofs.Openings.{head_past, head_bad, head_told, head_stopped}
use Rattle.checker.proofs.heads.head_of.Goals as goal

pub returns-in_default-clause-told : goal.returns-in_default-clause-told
returns-in_default-clause-told c = head_past c.args.bytes.now c.args.at c.args.depth c.args.demand c.in_default.ensures.lookup.3

pub returns-then-not-may_begin-clause-told : goal.returns-then-not-may_begin-clause-told
returns-then-not-may_begin-clause-told c =
    let (inside, byte) = c.in-Some.ensures.lookup.3 in
    head_bad c.args.bytes.now c.args.at c.args.depth c.args.demand inside (subst (λ b. false ≡ first_for c.args.depth c.args.demand b) (byte 0) c.if-not-may_begin.ensures)

pub returns-in_err-head-clause-told : goal.returns-in_err-head-clause-told
returns-in_err-head-clause-told c =
    let (inside, byte) = c.in-Some.ensures.lookup.3 in
    let may = subst (λ b. first_for c.args.depth c.args.demand b ≡ true) (byte 0) (sym c.if-not-may_begin.ensures) in
    let is = byte 0 in
    let p = err_from_is_err_and c.from_residual.result c.from_residual.ensures.1 in
    let told : MatchResult c.read_head.result (λ h. ⊥) (λ e. c.in_err-head.field-0.0 ≡ stop_within (length c.args.bytes.now) e.place) = search rules in
    rw (p.1, p.2)
    (head_stopped c.args.bytes.now c.args.at c.args.depth c.args.demand (typed c.args.bytes.now c.type_inv.bytes) inside (omega (arith, c.type_inv.bytes c.args.at)) may c.of_head-major.result (omega arith) (λ z. omega arith) c.read_head.result c.read_head.ensures c.in_err-head.field-0.0 told)

pub returns-clause-told : goal.returns-clause-told
returns-clause-told c =
    let (inside, byte) = c.in-Some.ensures.lookup.3 in
    let may = subst (λ b. first_for c.args.depth c.args.demand b ≡ true) (byte 0) (sym c.if-not-may_begin.ensures) in
    let is = byte 0 in
    let told : c.read_head.result ≡ Ok c.in_ok-head.head = search rules in
    head_told c.args.bytes.now c.args.at c.args.depth c.args.demand (typed c.args.bytes.now c.type_inv.bytes) inside (omega (arith, c.type_inv.bytes c.args.at)) may c.of_head-major.result (omega arith) (λ z. omega arith) c.read_head.result c.read_head.ensures c.in_ok-head.head told

pub returns-then-first-clause-deep : goal.returns-then-first-clause-deep
returns-then-first-clause-deep c = IfOk-weaker c.long_simple.result _ _ (λ h deep. deep c.args.depth) c.long_simple.ensures.deep
