use Rattle.std.proofs.Common.{Some, None, arith}
use Rattle.items.proofs.Skips.{skips_none, skips_plain, skips_string, skips_inner, doubled, items_none, items_stop, items_more}
use Rattle.items.proofs.skipping.+skipping.Goals as goal

pub skip-returns-in_err-head : goal.skip-returns-in_err-head
skip-returns-in_err-head t c = rw c.from_residual.ensures (skips_none _ _ _ c.in_err-head.ensures)

pub skip-returns-in-Unsigned : goal.skip-returns-in-Unsigned
skip-returns-in-Unsigned t c = skips_plain _ _ _ c.in_ok-head.head c.in_ok-head.ensures c.in-Unsigned.is

pub skip-returns-in-Bytes : goal.skip-returns-in-Bytes
skip-returns-in-Bytes t c = skips_string _ _ _ c.in_ok-head.head c.in_ok-head.ensures c.bytes_end.result c.in-Bytes.is c.bytes_end.ensures

pub skip-returns-in-Array : goal.skip-returns-in-Array
skip-returns-in-Array t c = skips_inner _ _ _ c.in_ok-head.head c.in_ok-head.ensures _ _ _ c.in-Array.is (λ w b. b) c.skip_items.ensures

pub skip-returns-in-Map : goal.skip-returns-in-Map
skip-returns-in-Map t c =
    skips_inner _ _ _ c.in_ok-head.head c.in_ok-head.ensures _ _ _ c.in-Map.is (λ w b. b) (doubled _ _ _ _ _ _ (omega arith) c.saturating_mul.ensures c.skip_items-in-Map.ensures)

pub skip-returns-in-Tag : goal.skip-returns-in-Tag
skip-returns-in-Tag t c = skips_inner _ _ _ c.in_ok-head.head c.in_ok-head.ensures _ _ _ c.in-Tag.is (λ w b. b) c.skip_items-in-Tag.ensures

pub skip_items-returns-in_err-next : goal.skip_items-returns-in_err-next
skip_items-returns-in_err-next t c =
    rw c.from_residual-in_err-next.ensures (c.loop.invariant.1 None (items_stop _ _ _ _ _ (omega arith) (omega arith) c.in_err-next.ensures))

pub skip_items-loop-preserved : goal.skip_items-loop-preserved
skip_items-loop-preserved t c =
    (c.in_ok-next.ensures.within.1, λ r s. c.loop.invariant.1 r (items_more _ _ _ _ _ (omega arith) _ _ r (omega arith) c.in_ok-next.ensures s))

pub skip_items-returns : goal.skip_items-returns
skip_items-returns t c = c.loop.invariant.1 (Some c.loop.next) (items_none _ _ _ _ (omega arith) c.loop.invariant.0)
