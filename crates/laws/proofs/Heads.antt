-- Heads are decoded as they are encoded, and nothing else is.
use Rattle.std.proofs.Common.{◌≡◌, ℕ, ◌+◌, ◌*◌, ◌/◌, ◌%◌, ◌^◌, ◌<◌, ◌≤◌, leb, ◌⊎◌, List, ◌∷◌, ◌++◌, length, take, Some, refl, ap, ◌∙◌, inl, inr, arith, length-append}
use Rattle.std.proofs.lemmas.List.{take_at, drop_at}
use Rattle.std.proofs.lemmas.Bool.{lt-ltb, le-leb, and_from, cases_lt}
use Rattle.cbor.specs.Encoding.{to_bytes, of_bytes, head}
use Rattle.cbor.specs.Decoding.{decode_head, long_head}
use Rattle.cbor.proofs.Heads.{Sized, head_shape}
use Rattle.cbor.proofs.Numbers.{length_to_bytes, of_to_bytes}

-- the longer forms: the low part of the first byte, how many bytes follow, and the least argument
abbrev pub Long : ℕ → ℕ → ℕ → Type 0
Long s w least =
    ((s ≡ 24) × (w ≡ 1) × (least ≡ 24))
    ⊎ (((s ≡ 25) × (w ≡ 2) × (least ≡ 256)) ⊎ (((s ≡ 26) × (w ≡ 4) × (least ≡ 65536)) ⊎ ((s ≡ 27) × (w ≡ 8) × (least ≡ 4294967296))))

pub long_sized : (n s w least : ℕ) → Long s w least → least ≤ n → n < 256 ^ w → Sized n s w
long_sized n s w least (inl (a, b, c)) = rw (a, b, c) (λ l g. inr (inl (l, g, refl, refl)))
long_sized n s w least (inr (inl (a, b, c))) = rw (a, b, c) (λ l g. inr (inr (inl (l, g, refl, refl))))
long_sized n s w least (inr (inr (inl (a, b, c)))) = rw (a, b, c) (λ l g. inr (inr (inr (inl (l, g, refl, refl)))))
long_sized n s w least (inr (inr (inr (a, b, c)))) = rw (a, b, c) (λ l g. inr (inr (inr (inr (l, g, refl, refl)))))

pub sized_long : (n s w : ℕ) → Sized n s w → 24 ≤ n → (least : ℕ) × Long s w least × (least ≤ n) × (n < 256 ^ w)
sized_long n s w (inl (a, p, q)) h = absurd (omega arith)
sized_long n s w (inr (inl (a, b, p, q))) h = (24, inl (p, q, refl), a, rw q b)
sized_long n s w (inr (inr (inl (a, b, p, q)))) h = (256, inr (inl (p, q, refl)), a, rw q b)
sized_long n s w (inr (inr (inr (inl (a, b, p, q))))) h = (65536, inr (inr (inl (p, q, refl))), a, rw q b)
sized_long n s w (inr (inr (inr (inr (a, b, p, q))))) h = (4294967296, inr (inr (inr (p, q, refl))), a, rw q b)

-- the first byte of a longer form says how long it is
pub long_first : (m s w least : ℕ) (bs : List ℕ) → Long s w least → decode_head ((32 * m + s) ∷ bs) ≡ long_head m w least bs
unfolding decode_head
long_first m s w least bs h =
    let l : s < 32 = omega arith in
    let d : (32 * m + s) / 32 ≡ m = omega arith in
    let r : (32 * m + s) % 32 ≡ s = omega arith in
    rw (r, d) (elim h [ inl x ↦ rw (x.0, x.1, x.2) | inr (inl x) ↦ rw (x.0, x.1, x.2) | inr (inr (inl x)) ↦ rw (x.0, x.1, x.2) | inr (inr (inr x)) ↦ rw (x.0, x.1, x.2) ])

long_decoded : (m n s w least : ℕ) (rest : List ℕ) → Long s w least → least ≤ n → n < 256 ^ w → decode_head ((32 * m + s) ∷ (to_bytes w n ++ rest)) ≡ Some (m, n, rest)
long_decoded m n s w least rest h lo hi =
    let len = length_to_bytes w n in
    let all = to_bytes w n ++ rest in
    let e : of_bytes (take w all) ≡ n = ap of_bytes (take_at (to_bytes w n) rest w len) ∙ of_to_bytes w n hi in
    let l : w ≤ length all = rw (length-append (to_bytes w n) rest) (omega arith) in
    let enough : least ≤ of_bytes (take w all) = omega arith in
    let fits = and_from (leb w (length all)) (leb least (of_bytes (take w all))) (le-leb w (length all) l) (le-leb least (of_bytes (take w all)) enough) in
    long_first m s w least all h ∙ rw (fits, e, drop_at (to_bytes w n) rest w len)

short_decoded : (m n : ℕ) (rest : List ℕ) → n < 24 → decode_head ((32 * m + n) ∷ rest) ≡ Some (m, n, rest)
unfolding decode_head
short_decoded m n rest h =
    let d : (32 * m + n) / 32 ≡ m = omega arith in
    let r : (32 * m + n) % 32 ≡ n = omega arith in
    rw (r, d, lt-ltb n 24 h)

sized_decoded : (m n s w : ℕ) (rest : List ℕ) → Sized n s w → decode_head ((32 * m + s) ∷ (to_bytes w n ++ rest)) ≡ Some (m, n, rest)
unfolding to_bytes
sized_decoded m n s w rest z = elim (cases_lt n 24) [
  | inl h ↦
      let p : s ≡ n = omega arith in
      let q : w ≡ 0 = omega arith in
      rw (p, q) (short_decoded m n rest h)
  | inr h ↦ (let (least, form, lo, hi) = sized_long n s w z h in long_decoded m n s w least rest form lo hi)
]

pub head_decoded : (m n : ℕ) (rest : List ℕ) → n < 18446744073709551616 → decode_head (head m n ++ rest) ≡ Some (m, n, rest)
head_decoded m n rest h = let (s, w, p, z) = head_shape m n h in ap (λ x. decode_head (x ++ rest)) p ∙ sized_decoded m n s w rest z
