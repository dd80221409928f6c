use Rattle.std.proofs.Common.{[], ◌∷◌, Ok, Err, sym, subst, arith}
use Rattle.std.proofs.lemmas.Result.{err_from_is_err_and}
use Rattle.cbor.specs.Utf8.{tail, second}
use Rattle.items.specs.Text.{ByteTold, TailsTold}
use Rattle.cbor.proofs.Utf8.{tails_two, tails_three, tails_four}
use Rattle.items.proofs.Texts.{tails_none, tails_next, tails_stop, tails_last}
use Rattle.items.proofs.text.tails_end.Goals as goal

pub returns-in-0-to-127 : goal.returns-in-0-to-127
returns-in-0-to-127 c = tails_none c.args.first _ _ (omega arith) c.requires

pub returns-in-128-to-223 : goal.returns-in-128-to-223
returns-in-128-to-223 c =
    rw (tails_two c.args.first (omega arith) (omega arith)) (tails_last tail c.args.bytes.now c.args.at c.byte_end.result c.requires c.byte_end.ensures)

pub returns-in_err-third-in-224-to-239 : goal.returns-in_err-third-in-224-to-239
returns-in_err-third-in-224-to-239 c =
    let p = err_from_is_err_and c.from_residual.result c.from_residual.ensures.1 in
    let e = c.in_err-third-in-224-to-239 in
    rw (p.1, p.2, tails_three c.args.first (omega arith) (omega arith), sym c.second_of.ensures) (tails_stop _ (tail ∷ []) c.args.bytes.now c.args.at e.field-0.0 c.requires e.ensures)

pub returns-in_ok-third-in-224-to-239 : goal.returns-in_ok-third-in-224-to-239
returns-in_ok-third-in-224-to-239 c =
    let bs = c.args.bytes.now in
    let t = c.byte_end-in-224-to-239-2.result in
    let third = c.in_ok-third-in-224-to-239.third in
    let b = c.in_ok-third-in-224-to-239.ensures in
    subst (λ rs. TailsTold rs bs c.args.at t) (sym (tails_three c.args.first (omega arith) (omega arith)))
    (tails_next (second c.args.first) (tail ∷ []) bs c.args.at third t (subst (λ r. ByteTold r bs c.args.at (Ok third)) c.second_of.ensures b) (tails_last tail bs third t (omega (arith, b.0, b.1)) c.byte_end-in-224-to-239-2.ensures))

pub returns-in_err-third-in_default : goal.returns-in_err-third-in_default
returns-in_err-third-in_default c =
    let p = err_from_is_err_and c.from_residual-in_err-third-in_default.result c.from_residual-in_err-third-in_default.ensures.1 in
    let e = c.in_err-third-in_default in
    rw (p.1, p.2, tails_four c.args.first (omega arith), sym c.second_of-in_default.ensures) (tails_stop _ (tail ∷ tail ∷ []) c.args.bytes.now c.args.at e.field-0.0 c.requires e.ensures)

pub returns-in_err-fourth-in_default : goal.returns-in_err-fourth-in_default
returns-in_err-fourth-in_default c =
    let p = err_from_is_err_and c.from_residual-in_err-fourth-in_default.result c.from_residual-in_err-fourth-in_default.ensures.1 in
    let bs = c.args.bytes.now in
    let third = c.in_ok-third-in_default.third in
    let b = c.in_ok-third-in_default.ensures in
    let e = c.in_err-fourth-in_default in
    rw (p.1, p.2, tails_four c.args.first (omega arith), sym c.second_of-in_default.ensures)
    (tails_next _ (tail ∷ tail ∷ []) bs c.args.at third (Err e.field-0.0) b (tails_stop tail (tail ∷ []) bs third e.field-0.0 (omega (arith, b.0, b.1)) e.ensures))

pub returns-in_ok-fourth-in_default : goal.returns-in_ok-fourth-in_default
returns-in_ok-fourth-in_default c =
    let bs = c.args.bytes.now in
    let third = c.in_ok-third-in_default.third in
    let fourth = c.in_ok-fourth-in_default.fourth in
    let b = c.in_ok-third-in_default.ensures in
    let d = c.in_ok-fourth-in_default.ensures in
    let t = c.byte_end-in_default-3.result in
    subst (λ rs. TailsTold rs bs c.args.at t) (sym (tails_four c.args.first (omega arith)))
    (tails_next (second c.args.first) (tail ∷ tail ∷ []) bs c.args.at third t (subst (λ r. ByteTold r bs c.args.at (Ok third)) c.second_of-in_default.ensures b)
    (tails_next tail (tail ∷ []) bs third fourth t d (tails_last tail bs fourth t (omega (arith, d.0, d.1)) c.byte_end-in_default-3.ensures)))
