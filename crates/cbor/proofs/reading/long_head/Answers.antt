use Rattle.std.proofs.Common.{◌≡◌, ◌+◌, ◌%◌, ◌<◌, ◌≤◌, take, drop, get_or, sym, ap, ◌∙◌, subst, arith}
use Rattle.std.proofs.lemmas.Nat.{and_mask}
use Rattle.std.proofs.lemmas.List.{length-drop}
use Rattle.cbor.specs.Encoding.{major_number, of_bytes}
use Rattle.cbor.specs.Prefix.{StandsAt}
use Rattle.cbor.specs.Reading.{HeadOf, IsForm}
use Rattle.cbor.proofs.Numbers.{bytes_typed}
use Rattle.cbor.proofs.Places.{rest_all, start_of, no_head, cut_head, low_head, whole_head}
use Rattle.cbor.proofs.reading.long_head.Goals as goal

pub returns-in_default : goal.returns-in_default
returns-in_default c =
    let bs = c.args.bytes.now in
    let at = c.args.at in
    let m = and_mask (get_or bs at 0) 5 in
    let h : 27 < get_or bs at 0 % 32 = rw m at (c.in_default.ensures (omega (arith, m))) in
    no_head (major_number c.args.major) bs at (λ i s l e. omega arith)

pub returns-in_default-get : goal.returns-in_default-get
returns-in_default-get c =
    let bs = c.args.bytes.now in
    let at = c.args.at in
    let f = c.in-Some.form in
    let s : IsForm (get_or bs at 0 % 32) f = rw (and_mask (get_or bs at 0) 5) at c.in-Some.ensures in
    let g = rw (rest_all bs (at + 1), length-drop (at + 1) bs) at c.in_default-get.ensures.lookup in
    cut_head (major_number c.args.major) bs at f (omega arith) c.requires.same_major s (bytes_typed bs (λ i. omega (arith, c.type_inv.bytes i))) c.saturating_add.result (omega (arith, c.saturating_add.ensures)) (omega (arith, g)) (λ h. absurd (omega (arith, g)))

pub returns-then-number-form : goal.returns-then-number-form
returns-then-number-form c =
    let bs = c.args.bytes.now in
    let at = c.args.at in
    let f = c.in-Some.form in
    let s : IsForm (get_or bs at 0 % 32) f = rw (and_mask (get_or bs at 0) 5) at c.in-Some.ensures in
    let g = rw (rest_all bs (at + 1), length-drop (at + 1) bs) at c.in-Some-get.ensures.lookup in
    let n : c.number.result ≡ of_bytes (take f.front (drop (at + 1) bs)) = c.number.ensures ∙ ap of_bytes (g.0.2 ∙ start_of f.front (drop (at + 1) bs)) in
    low_head (major_number c.args.major) bs at f (omega arith) c.requires.same_major s (bytes_typed bs (λ i. omega (arith, c.type_inv.bytes i))) g.0.1 (omega (arith, n))

pub returns-in_default-get-2 : goal.returns-in_default-get-2
returns-in_default-get-2 c =
    let bs = c.args.bytes.now in
    let at = c.args.at in
    let f = c.in-Some.form in
    let s : IsForm (get_or bs at 0 % 32) f = rw (and_mask (get_or bs at 0) 5) at c.in-Some.ensures in
    let g = rw (rest_all bs (at + 1), length-drop (at + 1) bs) at c.in-Some-get.ensures.lookup in
    let n : c.number.result ≡ of_bytes (take f.front (drop (at + 1) bs)) = c.number.ensures ∙ ap of_bytes (g.0.2 ∙ start_of f.front (drop (at + 1) bs)) in
    let w = rw (rest_all bs (at + 1), length-drop (at + 1) bs) at c.in_default-get-2.ensures.lookup in
    cut_head (major_number c.args.major) bs at f (omega arith) c.requires.same_major s (bytes_typed bs (λ i. omega (arith, c.type_inv.bytes i))) c.saturating_add.result (omega (arith, c.saturating_add.ensures)) (omega (arith, w)) (λ h. omega (arith, n))

pub returns : goal.returns
returns c =
    let bs = c.args.bytes.now in
    let at = c.args.at in
    let f = c.in-Some.form in
    let s : IsForm (get_or bs at 0 % 32) f = rw (and_mask (get_or bs at 0) 5) at c.in-Some.ensures in
    let o : f.front ≤ f.width = omega arith in
    let g = rw (rest_all bs (at + 1), length-drop (at + 1) bs) at c.in-Some-get.ensures.lookup in
    let n : c.number.result ≡ of_bytes (take f.front (drop (at + 1) bs)) = c.number.ensures ∙ ap of_bytes (g.0.2 ∙ start_of f.front (drop (at + 1) bs)) in
    let a = rw (rest_all bs (at + 1), length-drop (at + 1) bs) at c.in-Some-get-2.ensures.lookup in
    let k : c.number-2.result ≡ of_bytes (take f.width (drop (at + 1) bs)) = c.number-2.ensures ∙ ap of_bytes (a.0.2 ∙ start_of f.width (drop (at + 1) bs)) in
    let w = whole_head (major_number c.args.major) bs at f (omega arith) c.requires.same_major s (bytes_typed bs (λ i. omega (arith, c.type_inv.bytes i))) a.0.1 (omega (arith, n)) o in
    (subst (λ n. StandsAt (HeadOf (major_number c.args.major) n) bs at (at + 1 + f.width)) (sym k) w, omega arith)
