use Rattle.std.proofs.Common.{refl, inl, inr, arith}
use Rattle.cbor.proofs.Writes.{writes_head, one_byte, two_bytes, four_bytes, eight_bytes}
use Rattle.cbor.proofs.writing.write_head.Goals as goal

pub returns-in-24-to-255 : goal.returns-in-24-to-255
returns-in-24-to-255 c = writes_head c.args.major c.from-high.result c.args.argument 24 1 c.args.at _ c.args.out.now c.write_bytes-in-24-to-255.new.out c.write_bytes-in-24-to-255.result c.from-high.ensures (inr (inl (omega arith, omega arith, refl, refl))) (one_byte c.args.argument (omega arith)) c.write_bytes-in-24-to-255.ensures

pub returns-in-256-to-65535 : goal.returns-in-256-to-65535
returns-in-256-to-65535 c = writes_head c.args.major c.from-high.result c.args.argument 25 2 c.args.at _ c.args.out.now c.write_bytes-in-256-to-65535.new.out c.write_bytes-in-256-to-65535.result c.from-high.ensures (inr (inr (inl (omega arith, omega arith, refl, refl)))) (two_bytes _ c.args.argument c.to_be_bytes.ensures) c.write_bytes-in-256-to-65535.ensures

pub returns-in-65536-to-4294967295 : goal.returns-in-65536-to-4294967295
returns-in-65536-to-4294967295 c = writes_head c.args.major c.from-high.result c.args.argument 26 4 c.args.at _ c.args.out.now c.write_bytes-in-65536-to-4294967295.new.out c.write_bytes-in-65536-to-4294967295.result c.from-high.ensures (inr (inr (inr (inl (omega arith, omega arith, refl, refl))))) (four_bytes _ c.args.argument c.to_be_bytes-in-65536-to-4294967295.ensures) c.write_bytes-in-65536-to-4294967295.ensures

pub returns-in_default : goal.returns-in_default
returns-in_default c = writes_head c.args.major c.from-high.result c.args.argument 27 8 c.args.at _ c.args.out.now c.write_bytes-in_default.new.out c.write_bytes-in_default.result c.from-high.ensures (inr (inr (inr (inr (omega arith, omega arith, refl, refl))))) (eight_bytes _ c.args.argument c.to_be_bytes-in_default.ensures) c.write_bytes-in_default.ensures
