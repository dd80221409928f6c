use Rattle.std.proofs.Common.{refl}
use Rattle.answer.proofs.Tells.{refused, some_refusal}
use Rattle.answer.proofs.answer.Goals as goal

pub unreachable-requires : goal.unreachable-requires
unreachable-requires c =
    let ((a, m, e, l), g) = c.in-Ok.ensures in
    some_refusal a (c.in_default-first_refusal.ensures a m)

pub returns-in-Some-first_refusal : goal.returns-in-Some-first_refusal
returns-in-Some-first_refusal c =
    let ((a, m, (e, w), l), g) = c.in-Ok.ensures in
    (c.in-Some.ensures.variant.0 refl, refused c.args.bytes.now a c.in-Ok.request.next c.in-Some-first_refusal.refusal l e w g (c.in-Some-first_refusal.ensures a m))
