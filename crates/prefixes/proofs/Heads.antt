-- Heads in order: by their major types, and then by their arguments.
use Rattle.std.proofs.Common.{ℕ, ◌<◌, refl, inl, inr, arith}
use Rattle.std.proofs.lemmas.Bool.{both_ways}
use Rattle.cbor.specs.Encoding.{head}
use Rattle.cbor.specs.Reading.{HeadOf}
use Rattle.cbor.proofs.Heads.{head_shape, head_free}
use Rattle.laws.proofs.Limits.{head_before}
use Rattle.prefixes.specs.Words.{Apart}
use Rattle.prefixes.proofs.Order.{apart_not_before}
use Rattle.prefixes.proofs.Words.{free_meets}

-- heads of one major type
pub head_apart : (k m n : ℕ) → m < n → n < 18446744073709551616 → (j : ℕ) × Apart j (head k m) (head k n)
head_apart k m n l h = elim (free_meets (HeadOf k) (head_free k) m n (head k m) (head k n) (refl, omega arith) (refl, h)) [
  | inl (e, _) ↦ absurd (omega arith)
  | inr (inl a) ↦ a
  | inr (inr (j, a)) ↦ absurd (both_ways _ (apart_not_before j (head k m) (head k n) a) (head_before k m n l h))
]

-- and of two
pub majors_apart : (k l m n : ℕ) → k < l → m < 18446744073709551616 → n < 18446744073709551616 → Apart 0 (head k m) (head l n)
unfolding Apart
majors_apart k l m n h a b =
    let (s, w, p, c) = head_shape k m a in
    let (t, x, q, e) = head_shape l n b in
    rw (p, q) (omega arith)
