use Rattle.std.proofs.Common.{◌≡◌, ◌-◌, arith}
use Rattle.prefixes.specs.Walks.{walk}
use Rattle.reach.proofs.Rows.{many_start, many_more, many_cut, many_end, key_cut, value_cut, pairs_more, pairs_end}
use Rattle.reach.proofs.Measures.{no_head, no_body, with_body}
use Rattle.reach.proofs.+measuring.Goals as goal

-- by the head

pub measure-returns-in_err-head : goal.measure-returns-in_err-head
measure-returns-in_err-head t c =
    rw c.from_residual.ensures (no_head _ c.args.bytes.now c.args.at (λ i. omega (arith, c.type_inv.bytes i)) c.in_err-head.ensures)

pub measure-returns-in_err-body : goal.measure-returns-in_err-body
measure-returns-in_err-body t c =
    rw c.from_residual-in_err-body.ensures
    (no_body _ c.args.bytes.now c.args.at c.in_ok-head.head (λ i. omega (arith, c.type_inv.bytes i)) c.in_ok-head.ensures c.in_err-body.ensures)

pub measure-returns : goal.measure-returns
measure-returns t c =
    with_body _ c.args.bytes.now c.args.at c.in_ok-head.head (λ i. omega (arith, c.type_inv.bytes i)) c.in_ok-head.ensures
    _ _ c.in_ok-body.body c.head_reach-own.ensures c.join.ensures c.in_ok-body.ensures

-- elements

pub measure_elements-loop-init : goal.measure_elements-loop-init
measure_elements-loop-init t c = many_start (walk c.in_ok-inner.inner 0) c.args.bytes.now c.args.at c.args.count _ c.requires (omega arith)

pub measure_elements-returns-in_err-element : goal.measure_elements-returns-in_err-element
measure_elements-returns-in_err-element t c =
    let i : c.args.depth - 1 ≡ c.in_ok-inner.inner = omega arith in
    rw (c.from_residual-in_err-element.ensures, i)
    (λ h. many_cut _ _ _ _ _ _ _ (omega arith) c.loop.invariant (c.in_err-element.ensures 0))

pub measure_elements-loop-preserved : goal.measure_elements-loop-preserved
measure_elements-loop-preserved t c =
    let e = c.in_ok-element.element in
    let (b, s) = c.in_ok-element.ensures in
    many_more _ _ _ _ _ _ _ (omega arith) c.loop.invariant
    _ _ _ e.after _ (omega arith) b (s 0) c.join-reach.ensures

pub measure_elements-returns : goal.measure_elements-returns
measure_elements-returns t c =
    let (b, s) = many_end _ _ _ _ _ _ _ (omega arith) c.loop.invariant in
    let i : c.args.depth - 1 ≡ c.in_ok-inner.inner = omega arith in
    (b, λ h. rw i s)

-- entries

pub measure_entries-returns-in_err-key : goal.measure_entries-returns-in_err-key
measure_entries-returns-in_err-key t c =
    let i : c.args.depth - 1 ≡ c.in_ok-inner.inner = omega arith in
    rw (c.from_residual-in_err-key.ensures, i)
    (λ h. key_cut _ _ _ _ _ _ _ (omega arith) c.loop-left.invariant (c.in_err-key.ensures _))

pub measure_entries-returns-in_err-value : goal.measure_entries-returns-in_err-value
measure_entries-returns-in_err-value t c =
    let k = c.in_ok-key.key in
    let (b, s) = c.in_ok-key.ensures in
    let i : c.args.depth - 1 ≡ c.in_ok-inner.inner = omega arith in
    rw (c.from_residual-in_err-value.ensures, i)
    (λ h. value_cut _ _ _ _ _ _ _ (omega arith) c.loop-left.invariant
    _ _ k.after b (s _) (c.in_err-value.ensures 0))

pub measure_entries-loop-left-preserved : goal.measure_entries-loop-left-preserved
measure_entries-loop-left-preserved t c =
    let k = c.in_ok-key.key in
    let v = c.in_ok-value.value in
    let (b, s) = c.in_ok-key.ensures in
    let (d, u) = c.in_ok-value.ensures in
    pairs_more _ _ _ _ _ _ _ (omega arith) c.loop-left.invariant
    _ _ k.after b (s _) _ _ v.after _ _ _ d (u 0) c.key_reach.ensures c.join-entry.ensures c.join-reach.ensures

pub measure_entries-returns : goal.measure_entries-returns
measure_entries-returns t c =
    let (b, s) = pairs_end _ _ _ _ _ _ _ (omega arith) c.loop-left.invariant in
    let i : c.args.depth - 1 ≡ c.in_ok-inner.inner = omega arith in
    (b, λ h. rw i s)
