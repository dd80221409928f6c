-- Bytes, and numbers in bytes.
use Rattle.std.proofs.Common.{◌≡◌, ℕ, zero, suc, ◌+◌, ◌-◌, ◌*◌, ◌/◌, ◌%◌, ◌^◌, ◌<◌, ◌≤◌, true, ltb, List, [], ◌∷◌, ◌++◌, length, get_or, take, drop, replicate, sym, refl, ap, ◌∙◌, subst, append_assoc, mul-le-mul_right, mul_assoc, mul_comm, add-mul, pow-suc, arith, length-append}
use Rattle.std.proofs.lemmas.Nat.{div_below, div-add-mod'}
use Rattle.std.proofs.lemmas.List.{length-drop, take-append-drop}
use Rattle.std.proofs.lemmas.Bool.{lt-ltb, ltb-true, and_parts, and_from}
use Rattle.cbor.specs.Encoding.{all_bytes, to_bytes, number, of_bytes}

-- BYTES

pub bytes_append : (a b : List ℕ) → all_bytes a ≡ true → all_bytes b ≡ true → all_bytes (a ++ b) ≡ true
unfolding all_bytes
bytes_append [] b p q = q
bytes_append (x ∷ a) b p q = let r = and_parts (ltb x 256) (all_bytes a) p in and_from (ltb x 256) (all_bytes (a ++ b)) r.0 (bytes_append a b r.1 q)

pub bytes_parts : (a b : List ℕ) → all_bytes (a ++ b) ≡ true → (all_bytes a ≡ true) × (all_bytes b ≡ true)
unfolding all_bytes
bytes_parts [] b h = (refl, h)
bytes_parts (x ∷ a) b h =
    let p = and_parts (ltb x 256) (all_bytes (a ++ b)) h in
    let q = bytes_parts a b p.1 in
    (and_from (ltb x 256) (all_bytes a) p.0 q.0, q.1)

pub bytes_take : (k : ℕ) (bs : List ℕ) → all_bytes bs ≡ true → all_bytes (take k bs) ≡ true
unfolding all_bytes
bytes_take zero bs h = refl
bytes_take (suc k) [] h = refl
bytes_take (suc k) (b ∷ bs) h = let p = and_parts (ltb b 256) (all_bytes bs) h in and_from (ltb b 256) (all_bytes (take k bs)) p.0 (bytes_take k bs p.1)

pub bytes_drop : (k : ℕ) (bs : List ℕ) → all_bytes bs ≡ true → all_bytes (drop k bs) ≡ true
unfolding all_bytes
bytes_drop zero bs h = h
bytes_drop (suc k) [] h = refl
bytes_drop (suc k) (b ∷ bs) h = bytes_drop k bs (and_parts (ltb b 256) (all_bytes bs) h).1

pub bytes_replicate : (k b : ℕ) → b < 256 → all_bytes (replicate k b) ≡ true
unfolding all_bytes
bytes_replicate zero b h = refl
bytes_replicate (suc k) b h = and_from (ltb b 256) (all_bytes (replicate k b)) (lt-ltb b 256 h) (bytes_replicate k b h)

-- what a slice of u8 holds
pub bytes_typed : (bs : List ℕ) → ((i : ℕ) → get_or bs i 0 < 256) → all_bytes bs ≡ true
unfolding all_bytes
bytes_typed [] h = refl
bytes_typed (b ∷ bs) h = and_from (ltb b 256) (all_bytes bs) (lt-ltb b 256 (h 0)) (bytes_typed bs (λ i. h (suc i)))

-- NUMBERS

pub number_append : (a : ℕ) (xs ys : List ℕ) → number a (xs ++ ys) ≡ number (number a xs) ys
unfolding number
number_append a [] ys = refl
number_append a (x ∷ xs) ys = number_append (a * 256 + x) xs ys

number_shift : (a : ℕ) (bs : List ℕ) → number a bs ≡ a * 256 ^ length bs + number 0 bs
unfolding number
number_shift a [] = omega arith
number_shift a (b ∷ bs) =
    let p = number_shift (a * 256 + b) bs in
    let q = number_shift (0 * 256 + b) bs in
    let m = add-mul (a * 256) b (256 ^ length bs) in
    let n = mul_assoc a 256 (256 ^ length bs) in
    let o = mul_comm 256 (256 ^ length bs) in
    let r : 0 * 256 + b ≡ b = omega arith in
    rw (pow-suc) (omega (arith, p, q, m, n, o))

pub number_two : (x y : List ℕ) → of_bytes (x ++ y) ≡ of_bytes x * 256 ^ length y + of_bytes y
number_two x y = number_append 0 x y ∙ number_shift (of_bytes x) y

pub number_below : (bs : List ℕ) → all_bytes bs ≡ true → of_bytes bs < 256 ^ length bs
unfolding all_bytes number
number_below [] a = omega arith
number_below (b ∷ bs) a =
    let p = and_parts (ltb b 256) (all_bytes bs) a in
    let x = number_shift (0 * 256 + b) bs in
    let y = number_below bs p.1 in
    let z : b ≤ 255 = omega (arith, ltb-true b 256 p.0) in
    rw (pow-suc 256 (length bs)) (omega (arith, x, y, mul-le-mul_right (256 ^ length bs) z))

-- a number in two parts, the second of so many bytes
pub number_parts : (h k : ℕ) (t : List ℕ) → all_bytes t ≡ true → length t ≡ h + k → (of_bytes t ≡ of_bytes (take h t) * 256 ^ k + of_bytes (drop h t)) × (of_bytes (drop h t) < 256 ^ k)
number_parts h k t a l =
    let d : length (drop h t) ≡ k = length-drop h t ∙ (let z : length t - h ≡ k = omega arith in z) in
    (ap of_bytes (sym (take-append-drop h t)) ∙ number_two (take h t) (drop h t) ∙ ap (λ n. of_bytes (take h t) * 256 ^ n + of_bytes (drop h t)) d, subst (λ n. of_bytes (drop h t) < 256 ^ n) d (number_below (drop h t) (bytes_drop h t a)))

-- so many bytes by themselves
pub number_in_1 : (bs : List ℕ) → length bs ≡ 1 → get_or bs 0 0 ≡ of_bytes bs
unfolding number
number_in_1 [] l = omega arith
number_in_1 (a ∷ []) l = omega arith
number_in_1 (a ∷ z ∷ r) l = omega arith

pub number_in_2 : (bs : List ℕ) → length bs ≡ 2 → get_or bs 0 0 * 256 + get_or bs 1 0 ≡ of_bytes bs
unfolding number
number_in_2 [] l = omega arith
number_in_2 (a ∷ []) l = omega arith
number_in_2 (a ∷ b ∷ []) l = omega arith
number_in_2 (a ∷ b ∷ z ∷ r) l = omega arith

pub number_in_4 : (bs : List ℕ) → length bs ≡ 4 → get_or bs 0 0 * 16777216 + get_or bs 1 0 * 65536 + get_or bs 2 0 * 256 + get_or bs 3 0 ≡ of_bytes bs
unfolding number
number_in_4 [] l = omega arith
number_in_4 (a ∷ []) l = omega arith
number_in_4 (a ∷ b ∷ []) l = omega arith
number_in_4 (a ∷ b ∷ c ∷ []) l = omega arith
number_in_4 (a ∷ b ∷ c ∷ d ∷ []) l = omega arith
number_in_4 (a ∷ b ∷ c ∷ d ∷ z ∷ r) l = omega arith

pub number_in_8 : (bs : List ℕ) → length bs ≡ 8 → get_or bs 0 0 * 72057594037927936 + get_or bs 1 0 * 281474976710656 + get_or bs 2 0 * 1099511627776 + get_or bs 3 0 * 4294967296 + get_or bs 4 0 * 16777216 + get_or bs 5 0 * 65536 + get_or bs 6 0 * 256 + get_or bs 7 0 ≡ of_bytes bs
unfolding number
number_in_8 [] l = omega arith
number_in_8 (a ∷ []) l = omega arith
number_in_8 (a ∷ b ∷ []) l = omega arith
number_in_8 (a ∷ b ∷ c ∷ []) l = omega arith
number_in_8 (a ∷ b ∷ c ∷ d ∷ []) l = omega arith
number_in_8 (a ∷ b ∷ c ∷ d ∷ e ∷ []) l = omega arith
number_in_8 (a ∷ b ∷ c ∷ d ∷ e ∷ f ∷ []) l = omega arith
number_in_8 (a ∷ b ∷ c ∷ d ∷ e ∷ f ∷ g ∷ []) l = omega arith
number_in_8 (a ∷ b ∷ c ∷ d ∷ e ∷ f ∷ g ∷ h ∷ []) l = omega arith
number_in_8 (a ∷ b ∷ c ∷ d ∷ e ∷ f ∷ g ∷ h ∷ z ∷ r) l = omega arith

-- WRITTEN

pub length_to_bytes : (k n : ℕ) → length (to_bytes k n) ≡ k
unfolding to_bytes
length_to_bytes zero n = refl
length_to_bytes (suc k) n = length-append (to_bytes k (n / 256)) (n % 256 ∷ []) ∙ rw (length_to_bytes k (n / 256)) (omega arith)

pub to_bytes_bytes : (k n : ℕ) → all_bytes (to_bytes k n) ≡ true
unfolding to_bytes all_bytes
to_bytes_bytes zero n = refl
to_bytes_bytes (suc k) n = bytes_append (to_bytes k (n / 256)) (n % 256 ∷ []) (to_bytes_bytes k (n / 256)) (and_from (ltb (n % 256) 256) true (lt-ltb (n % 256) 256 (omega arith)) refl)

pub of_to_bytes : (k n : ℕ) → n < 256 ^ k → of_bytes (to_bytes k n) ≡ n
unfolding to_bytes number
of_to_bytes zero n h = omega arith
of_to_bytes (suc k) n h =
    let l : n < 256 ^ k * 256 = rw (pow-suc 256 k) at h in
    let r = of_to_bytes k (n / 256) (div_below n 256 (256 ^ k) (omega arith) l) in
    number_append 0 (to_bytes k (n / 256)) (n % 256 ∷ []) ∙ rw r (div-add-mod' n 256)

to_bytes_number : (k a : ℕ) (bs : List ℕ) → all_bytes bs ≡ true → to_bytes (k + length bs) (number a bs) ≡ to_bytes k a ++ bs
unfolding to_bytes number all_bytes
to_bytes_number k a [] h = rw (let z : k + 0 ≡ k = omega arith in z) (sym (append_nil_of (to_bytes k a)))
  where
    append_nil_of : (l : List ℕ) → l ++ [] ≡ l
    append_nil_of [] = refl
    append_nil_of (x ∷ l) = ap (λ z. x ∷ z) (append_nil_of l)
to_bytes_number k a (b ∷ bs) h =
    let p = and_parts (ltb b 256) (all_bytes bs) h in
    let s : b < 256 = ltb-true b 256 p.0 in
    let d : (a * 256 + b) / 256 ≡ a = omega arith in
    let m : (a * 256 + b) % 256 ≡ b = omega arith in
    let e : k + suc (length bs) ≡ suc k + length bs = omega arith in
    ap (λ n. to_bytes n (number (a * 256 + b) bs)) e ∙ to_bytes_number (suc k) (a * 256 + b) bs p.1 ∙ rw (d, m) (append_assoc (to_bytes k a) (b ∷ []) bs)

pub to_of_bytes : (bs : List ℕ) → all_bytes bs ≡ true → to_bytes (length bs) (of_bytes bs) ≡ bs
unfolding to_bytes
to_of_bytes bs h = ap (λ n. to_bytes n (of_bytes bs)) (let z : length bs ≡ 0 + length bs = omega arith in z) ∙ to_bytes_number 0 0 bs h
