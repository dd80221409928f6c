use Rattle.std.proofs.Common.{◌≡◌, ◌<◌, length, ◌+◌, ◌-◌, Ok, Err, subst, arith}
use Rattle.std.proofs.lemmas.Result.{err_from_is_err_and}
use Rattle.prefixes.specs.Walks.{walk}
use Rattle.reach.specs.Measured.{Deep}
use Rattle.checker.proofs.Steps.{bytes_ends, ends_within}
use Rattle.checker.proofs.Walks.{item_stop, item_bytes, item_text, item_array, item_map, item_tag, item_plain, many_stop, many_step, many_none}
use Rattle.checker.proofs.Entries.{key_refused, value_stop, entry_step, entries_none}
use Rattle.checker.proofs.walking.+walking.Goals as goal

pub walk-returns-in_err-head : goal.walk-returns-in_err-head
walk-returns-in_err-head t c =
    let p = err_from_is_err_and c.from_residual.result c.from_residual.ensures.1 in
    rw (p.1, p.2) (item_stop c.args.input.bytes.now c.args.at (length c.args.frames.now) c.args.demand c.in_err-head.field-0.0 c.in_err-head.ensures.told)

pub walk-returns-in-Bytes : goal.walk-returns-in-Bytes
walk-returns-in-Bytes t c = item_bytes c.args.input.bytes.now c.args.at (length c.args.frames.now) c.args.demand c.in_ok-head.head c.in_ok-head.ensures.told c.in-Bytes.is c.ok_or.result (rw c.ok_or.ensures.value (bytes_ends c.args.input.bytes.now c.in_ok-head.head.next c.in_ok-head.head.argument c.bytes_end.result c.in_ok-head.ensures.told.1 c.bytes_end.ensures))

pub walk-returns-in-Text : goal.walk-returns-in-Text
walk-returns-in-Text t c = item_text c.args.input.bytes.now c.args.at (length c.args.frames.now) c.args.demand c.in_ok-head.head c.in_ok-head.ensures.told c.in-Text.is c.text_end.result c.text_end.ensures

pub walk-returns-in-Array : goal.walk-returns-in-Array
walk-returns-in-Array t c = item_array c.args.input.bytes.now c.args.at (length c.args.frames.now) c.args.demand c.in_ok-head.head c.in_ok-head.ensures.told c.in-Array.is c.in_ok-head.ensures.deep _ (omega arith) c.walk_items.result c.walk_items.ensures

pub walk-walk_entries-requires : goal.walk-walk_entries-requires
walk-walk_entries-requires t c =
    let some : 0 < length c.args.frames.now = subst (λ m. Deep (length c.args.frames.now) m) c.in-Map.is c.in_ok-head.ensures.deep (omega arith) (omega arith) in
    (omega arith, (c.in_ok-head.ensures.told.1, (some, omega arith)))

pub walk-returns-in-Map : goal.walk-returns-in-Map
walk-returns-in-Map t c = item_map c.args.input.bytes.now c.args.at (length c.args.frames.now) c.args.demand c.in_ok-head.head c.in_ok-head.ensures.told c.in-Map.is c.in_ok-head.ensures.deep _ (omega arith) c.walk_entries.result c.walk_entries.ensures

pub walk-returns-in-Tag : goal.walk-returns-in-Tag
walk-returns-in-Tag t c = item_tag c.args.input.bytes.now c.args.at (length c.args.frames.now) c.args.demand c.in_ok-head.head c.in_ok-head.ensures.told c.in-Tag.is c.in_ok-head.ensures.deep _ (omega arith) c.demand_in.result c.demand_in.ensures c.walk.result c.walk.ensures

pub walk-returns-in-Unsigned : goal.walk-returns-in-Unsigned
walk-returns-in-Unsigned t c = item_plain c.args.input.bytes.now c.args.at (length c.args.frames.now) c.args.demand c.in_ok-head.head c.in_ok-head.ensures.told c.in-Unsigned.is

pub walk_entries-invariant_of-key-clause-last_within : goal.walk_entries-invariant_of-key-clause-last_within
walk_entries-invariant_of-key-clause-last_within t c = (c.loop-left.invariant.2 c.last_key.result c.last_key.ensures).within

pub walk_entries-end-requires : goal.walk_entries-end-requires
walk_entries-end-requires t c = ends_within c.args.input.bytes.now c.loop-left.next c.walk-walked.result _ c.walk-walked.ensures

pub walk_entries-returns-in_err-end : goal.walk_entries-returns-in_err-end
walk_entries-returns-in_err-end t c =
    let p = err_from_is_err_and c.from_residual.result c.from_residual.ensures.1 in
    rw (p.1, p.2, c.loop-left.invariant.1) (key_refused (c.loop-left.invariant.2 c.last_key.result c.last_key.ensures) (omega arith) c.args.input.few c.args.input.below_256 (omega arith) c.walk-walked.result c.walk-walked.ensures c.in_err-end.field-0.0 c.in_err-end.ensures)

pub walk_entries-returns-in_err-next : goal.walk_entries-returns-in_err-next
walk_entries-returns-in_err-next t c =
    let p = err_from_is_err_and c.from_residual-in_err-next.result c.from_residual-in_err-next.ensures.1 in
    let same : length c.loop-left.inner ≡ length c.walk-walked.new.frames = omega arith in
    rw (p.1, p.2, c.loop-left.invariant.1) (value_stop (c.loop-left.invariant.2 c.last_key.result c.last_key.ensures) (omega arith) c.args.input.few c.args.input.below_256 (omega arith) c.walk-walked.result c.walk-walked.ensures c.in_ok-end.end c.in_ok-end.ensures c.in_err-next.field-0.0 (rw same c.in_err-next.ensures))

pub walk_entries-loop-left-preserved : goal.walk_entries-loop-left-preserved
walk_entries-loop-left-preserved t c =
    let same : length c.loop-left.inner ≡ length c.walk-walked.new.frames = omega arith in
    let then : length c.walk.new.frames ≡ length c.loop-left.inner = omega arith in
    (c.in_ok-next.ensures.1.1, omega arith, rw then (entry_step (c.loop-left.invariant.2 c.last_key.result c.last_key.ensures) (omega arith) c.args.input.few c.args.input.below_256 (omega arith) c.walk-walked.result c.walk-walked.ensures c.in_ok-end.end c.in_ok-end.ensures c.in_ok-next.next (rw same c.in_ok-next.ensures)))

pub walk_entries-returns : goal.walk_entries-returns
walk_entries-returns t c = rw c.loop-left.invariant.1 (entries_none c.args.input.bytes.now (length c.loop-left.inner) c.loop-left.next c.loop-left.left c.args.at c.args.count c.loop-left.own c.loop-left.invariant.2 (omega arith) c.loop-left.invariant.0)

pub walk_items-returns-in_err-next : goal.walk_items-returns-in_err-next
walk_items-returns-in_err-next t c =
    let p = err_from_is_err_and c.from_residual.result c.from_residual.ensures.1 in
    let s = c.in_err-next.field-0.0 in
    rw (p.1, p.2, c.loop.invariant.1) (c.loop.invariant.2 (Err s) (many_stop (walk (length c.loop.frames) 0) c.args.input.bytes.now c.loop.next (c.args.count - c.loop.counter) s (omega arith) c.in_err-next.ensures))

pub walk_items-loop-preserved : goal.walk_items-loop-preserved
walk_items-loop-preserved t c =
    let same : length c.walk.new.frames ≡ length c.loop.frames = omega arith in
    (c.in_ok-next.ensures.1.1, omega arith, rw same (λ r g. c.loop.invariant.2 r (many_step (walk (length c.loop.frames) 0) c.args.input.bytes.now c.loop.next (c.args.count - c.loop.counter) (c.args.count - (c.loop.counter + 1)) c.in_ok-next.next (omega arith) c.in_ok-next.ensures r g)))

pub walk_items-returns : goal.walk_items-returns
walk_items-returns t c = rw c.loop.invariant.1 (c.loop.invariant.2 (Ok c.loop.next) (many_none (walk (length c.loop.frames) 0) c.args.input.bytes.now c.loop.next (c.args.count - c.loop.counter) (omega arith) c.loop.invariant.0))
