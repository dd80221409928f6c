use Rattle.std.proofs.Common.{◌≡◌, ◌/◌, ◌%◌, length, get_or, sym, ◌∙◌, arith}
use Rattle.std.proofs.lemmas.Nat.{and_mask}
use Rattle.std.proofs.lemmas.Bool.{ltb-false}
use Rattle.cbor.specs.Encoding.{major_number}
use Rattle.cbor.proofs.Majors.{same_number, other_number}
use Rattle.cbor.proofs.Places.{no_head, small_head}
use Rattle.cbor.proofs.reading.read_head.Goals as goal

pub returns-in_default : goal.returns-in_default
returns-in_default c =
    no_head (major_number c.args.major) c.args.bytes.now c.args.at (λ i s l e. other_number c.of_head.result c.args.major (sym c.eq.ensures ∙ c.if-eq.false) (omega (arith, c.of_head.ensures, c.in-Some.ensures.lookup.3.1 0, e)))

pub returns-in_default-2 : goal.returns-in_default-2
returns-in_default-2 c =
    let n = rw c.in_default.is at c.get.ensures.lookup.0 in
    no_head (major_number c.args.major) c.args.bytes.now c.args.at (λ i s l e. omega (arith, ltb-false c.args.at (length c.args.bytes.now) (sym n)))

pub returns-then-low-lt24 : goal.returns-then-low-lt24
returns-then-low-lt24 c =
    let bs = c.args.bytes.now in
    let at = c.args.at in
    let h = c.in-Some.ensures.lookup.3 in
    let e = h.1 0 in
    let m : get_or bs at 0 / 32 ≡ major_number c.args.major = omega (arith, e, c.of_head.ensures, same_number c.of_head.result c.args.major (sym c.eq.ensures ∙ c.if-eq.true)) in
    let n : c.from.result ≡ get_or bs at 0 % 32 = omega (arith, e, c.from.ensures, and_mask c.in-Some.field-0.now 5) in
    (small_head (major_number c.args.major) bs at c.from.result h.0 m n (omega arith), omega arith)
