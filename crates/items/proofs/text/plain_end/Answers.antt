use Rattle.std.proofs.Common.{ℕ, ◌-◌, arith, length-drop}
use Rattle.std.proofs.lemmas.List.{length-take}
use Rattle.items.proofs.Texts.{plain_part}
use Rattle.items.proofs.text.plain_end.Goals as goal

pub returns-in-Some : goal.returns-in-Some
returns-in-Some c =
    let p = c.in-Some.ensures in
    (omega arith, omega (arith, p.0, length-take {A = ℕ}), plain_part _ c.args.from _ _ c.in-Some.index (omega arith) (omega (arith, p.0)) p.1)

pub returns-in-None : goal.returns-in-None
returns-in-None c =
    (omega arith, omega arith, plain_part _ c.args.from c.args.to _ (c.args.to - c.args.from) (omega arith) (omega (arith, length-take {A = ℕ}, length-drop {A = ℕ})) (λ k h. c.in-None.ensures k (omega (arith, length-take {A = ℕ}, length-drop {A = ℕ}))))
