use Rattle.std.proofs.Common.{refl, inl, inr, arith}
use Rattle.cbor.proofs.Writes.{head_length}
use Rattle.cbor.proofs.writing.head_size.Goals as goal

pub returns-in-24-to-255 : goal.returns-in-24-to-255
returns-in-24-to-255 c = λ m. head_length m c.args.argument 24 1 (inr (inl (omega arith, omega arith, refl, refl)))

pub returns-in-256-to-65535 : goal.returns-in-256-to-65535
returns-in-256-to-65535 c = λ m. head_length m c.args.argument 25 2 (inr (inr (inl (omega arith, omega arith, refl, refl))))

pub returns-in-65536-to-4294967295 : goal.returns-in-65536-to-4294967295
returns-in-65536-to-4294967295 c = λ m. head_length m c.args.argument 26 4 (inr (inr (inr (inl (omega arith, omega arith, refl, refl)))))

pub returns-in_default : goal.returns-in_default
returns-in_default c = λ m. head_length m c.args.argument 27 8 (inr (inr (inr (inr (omega arith, omega arith, refl, refl)))))
