-- Heads by the forms of their first bytes: a first byte, the bytes that settle that the form is the shortest, and the others.
use Rattle.std.proofs.Common.{◌≡◌, ℕ, zero, suc, ◌+◌, ◌-◌, ◌*◌, ◌/◌, ◌%◌, ◌^◌, ◌<◌, ◌≤◌, true, cond, ltb, ◌⊎◌, List, [], ◌∷◌, ◌++◌, length, take, drop, replicate, sym, refl, ap, ◌∙◌, subst, inl, inr, append_assoc, mul-le-mul_right, arith, length-append, take-append-drop}
use Rattle.std.proofs.lemmas.List.{append-nil, nil_from_length, length-replicate, length-take-le, length-drop}
use Rattle.std.proofs.lemmas.Bool.{lt-ltb, le-ltb, le-leb, lt-leb, cases_lt}
use Rattle.cbor.specs.declared.Major.{Major}
use Rattle.cbor.specs.declared.Major.TheVariants.{Unsigned, Negative, Bytes, Text, Array, Map, Tag, Simple}
use Rattle.cbor.specs.Encoding.{all_bytes, to_bytes, number, of_bytes, major_number, head}
use Rattle.cbor.specs.Prefix.{Begins, PrefixFree, Then}
use Rattle.cbor.proofs.Heads.{Sized, sized_head, head_shape}
use Rattle.cbor.proofs.Numbers.{bytes_append, bytes_take, bytes_drop, bytes_replicate, number_two, number_below, length_to_bytes, to_bytes_bytes, of_to_bytes, to_of_bytes}
use Rattle.prefixes.specs.Words.{Word}
use Rattle.prefixes.specs.Shapes.{major_of, SimpleFits, HeadFits, BytesOf, place_of, DemandFits, HeadFor}
use Rattle.prefixes.specs.Texts.{One}
use Rattle.prefixes.specs.Walks.{fronts, backs, low, high, head_says}
use Rattle.prefixes.proofs.Order.{cons_both}
use Rattle.prefixes.proofs.Free.{fits_below}
use Rattle.prefixes.proofs.Raise.{sized_below}

-- the first byte's own rule
abbrev pub FirstFor : ℕ → ℕ → ℕ → Type 0
FirstFor d r b = (b ≤ 248) × (b % 32 < 28) × (128 ≤ b → b < 224 → 0 < d) × (224 ≤ b → r + (b - 224) ≤ 247)

-- so many bytes that say a number from one up to another
abbrev pub High : ℕ → ℕ → ℕ → List ℕ → Type 0
High h lo hi x = (length x ≡ h) × (all_bytes x ≡ true) × (lo ≤ of_bytes x) × (of_bytes x < hi)

pub high_free : (h lo hi : ℕ) → PrefixFree (Word (High h lo hi))
high_free h lo hi i j u r (p, a) (q, b) =
    let z : r ≡ [] = nil_from_length r (omega (arith, a.0, b.0, length-append u r)) in
    (sym p ∙ sym (append-nil u) ∙ ap (λ x. u ++ x) (sym z) ∙ q, z)

-- a first byte's shape
abbrev Shape : ℕ → ℕ → ℕ → ℕ → ℕ → ℕ → Type 0
Shape r b h k lo hi =
    ((b % 32 < 24) × (h ≡ 0) × (k ≡ 0) × (lo ≡ 0) × (hi ≡ 1))
    ⊎ (((b ≡ 248) × (h ≡ 1) × (k ≡ 0) × (lo ≡ 32) × (hi ≡ 256 - r))
    ⊎ (((b < 224) × (b % 32 ≡ 24) × (h ≡ 1) × (k ≡ 0) × (lo ≡ 24) × (hi ≡ 256))
    ⊎ (((b < 224) × (b % 32 ≡ 25) × (h ≡ 1) × (k ≡ 1) × (lo ≡ 1) × (hi ≡ 256))
    ⊎ (((b < 224) × (b % 32 ≡ 26) × (h ≡ 2) × (k ≡ 2) × (lo ≡ 1) × (hi ≡ 65536)) ⊎ ((b < 224) × (b % 32 ≡ 27) × (h ≡ 4) × (k ≡ 4) × (lo ≡ 1) × (hi ≡ 4294967296))))))

pub shape_is : (d r b : ℕ) → FirstFor d r b → Shape r b (fronts b) (backs b) (low b) (high r b)
shape_is d r b (f, g, _, _) = elim (cases_lt (b % 32) 24) [
  | inl a ↦ rw (lt-ltb (b % 32) 24 a, lt-ltb (b % 32) 25 (omega arith)) (inl (a, refl, refl, refl, refl))
  | inr a ↦ elim (cases_lt b 224) [
    | inr c ↦ let e : b ≡ 248 = omega arith in let m : b % 32 ≡ 24 = omega arith in rw (m, le-leb 224 b c) (inr (inl (e, refl, refl, refl, refl)))
    | inl c ↦ elim (cases_lt (b % 32) 25) [
      | inl x ↦ let m : b % 32 ≡ 24 = omega arith in rw (m, lt-leb 224 b c) (inr (inr (inl (c, refl, refl, refl, refl, refl))))
      | inr x ↦ elim (cases_lt (b % 32) 26) [
        | inl y ↦ let m : b % 32 ≡ 25 = omega arith in rw (m, lt-leb 224 b c) (inr (inr (inr (inl (c, refl, refl, refl, refl, refl)))))
        | inr y ↦ elim (cases_lt (b % 32) 27) [
          | inl z ↦ let m : b % 32 ≡ 26 = omega arith in rw (m, lt-leb 224 b c) (inr (inr (inr (inr (inl (c, refl, refl, refl, refl, refl))))))
          | inr z ↦ let m : b % 32 ≡ 27 = omega arith in rw (m, lt-leb 224 b c) (inr (inr (inr (inr (inr (c, refl, refl, refl, refl, refl))))))
        ]
      ]
    ]
  ]
]

-- bytes can be filled up to such a number
fill_one : (lo hi : ℕ) (x : List ℕ) → lo < hi → hi ≤ 256 → length x < 1 → Begins (High 1 lo hi) x
unfolding all_bytes number
fill_one lo hi [] l m h = (lo ∷ [], (refl, rw (lt-ltb lo 256 (omega arith)), omega arith, omega arith))
fill_one lo hi (b ∷ x) l m h = absurd (omega arith)

ends_one : (x z : List ℕ) → 1 ≤ of_bytes (x ++ (z ++ 1 ∷ []))
unfolding number
ends_one x z = let k = number_two (x ++ z) (1 ∷ []) in let e = ap of_bytes (append_assoc x z (1 ∷ [])) in omega arith

fill_more : (h : ℕ) (x : List ℕ) → all_bytes x ≡ true → length x < h → Begins (High h 1 (256 ^ h)) x
unfolding all_bytes number
fill_more h x a l =
    let z : List ℕ = replicate (h - length x - 1) 0 in
    let n : length (x ++ (z ++ 1 ∷ [])) ≡ h = length-append x (z ++ 1 ∷ []) ∙ (let i = length-append z (1 ∷ []) in let j = length-replicate {A = ℕ} (h - length x - 1) 0 in omega arith) in
    let b = bytes_append x (z ++ 1 ∷ []) a (bytes_append z (1 ∷ []) (bytes_replicate (h - length x - 1) 0 (omega arith)) refl) in
    (z ++ 1 ∷ [], (n, b, ends_one x z, subst (λ m. of_bytes (x ++ (z ++ 1 ∷ [])) < 256 ^ m) n (number_below (x ++ (z ++ 1 ∷ [])) b)))

pub shape_fills : (d r b h k lo hi : ℕ) → FirstFor d r b → Shape r b h k lo hi → (x : List ℕ) → all_bytes x ≡ true → length x < h → Begins (High h lo hi) x
shape_fills d r b h k lo hi f (inl (a, p, q, s, t)) x ab l = absurd (omega arith)
shape_fills d r b h k lo hi f (inr (inl (a, p, q, s, t))) x ab l = rw (p, s, t) (fill_one 32 (256 - r) x (let z = f.3 (omega arith) in omega arith) (omega arith) (omega arith))
shape_fills d r b h k lo hi f (inr (inr (inl (a, m, p, q, s, t)))) x ab l = rw (p, s, t) (fill_one 24 256 x (omega arith) (omega arith) (omega arith))
shape_fills d r b h k lo hi f (inr (inr (inr (inl (a, m, p, q, s, t))))) x ab l = rw (p, s, t) (fill_one 1 256 x (omega arith) (omega arith) (omega arith))
shape_fills d r b h k lo hi f (inr (inr (inr (inr (inl (a, m, p, q, s, t)))))) x ab l = rw (p, s, t) (fill_more 2 x ab (omega arith))
shape_fills d r b h k lo hi f (inr (inr (inr (inr (inr (a, m, p, q, s, t)))))) x ab l = rw (p, s, t) (fill_more 4 x ab (omega arith))

pub shape_some : (r b h k lo hi : ℕ) → Shape r b h k lo hi → 0 < h ⊎ ((lo ≡ 0) × (hi ≡ 1))
shape_some r b h k lo hi (inl (a, p, q, s, t)) = inr (s, t)
shape_some r b h k lo hi (inr (inl (a, p, q, s, t))) = inl (omega arith)
shape_some r b h k lo hi (inr (inr (inl (a, m, p, q, s, t)))) = inl (omega arith)
shape_some r b h k lo hi (inr (inr (inr (inl (a, m, p, q, s, t))))) = inl (omega arith)
shape_some r b h k lo hi (inr (inr (inr (inr (inl (a, m, p, q, s, t)))))) = inl (omega arith)
shape_some r b h k lo hi (inr (inr (inr (inr (inr (a, m, p, q, s, t)))))) = inl (omega arith)

-- the bytes after the first, as two parts
abbrev pub Parts : ℕ → ℕ → ℕ → ℕ → List ℕ → Type 0
Parts h k lo hi t = Then (Word (High h lo hi)) (λ _. BytesOf k) t

abbrev pub HeadParts : ℕ → ℕ → List ℕ → Type 0
HeadParts d r w = Then (One (FirstFor d r)) (λ b. Parts (fronts b) (backs b) (low b) (high r b)) w

-- a number's bytes in two parts
number_parted : (h k lo hi n w : ℕ) → w ≡ h + k → n < 256 ^ (h + k) → ((x y : ℕ) → n ≡ x * 256 ^ k + y → y < 256 ^ k → x < 256 ^ h → (lo ≤ x) × (x < hi)) → Parts h k lo hi (to_bytes w n)
number_parted h k lo hi n w e l f =
    let t : List ℕ = to_bytes (h + k) n in
    let m : length t ≡ h + k = length_to_bytes (h + k) n in
    let a = to_bytes_bytes (h + k) n in
    let x : List ℕ = take h t in
    let y : List ℕ = drop h t in
    let lx : length x ≡ h = length-take-le h t (omega arith) in
    let ly : length y ≡ k = length-drop h t ∙ (omega arith) in
    let j : x ++ y ≡ t = take-append-drop h t in
    let ax : all_bytes x ≡ true = bytes_take h t a in
    let ay : all_bytes y ≡ true = bytes_drop h t a in
    let p : n ≡ of_bytes x * 256 ^ k + of_bytes y = sym (of_to_bytes (h + k) n l) ∙ ap of_bytes (sym j) ∙ number_two x y ∙ ap (λ z. of_bytes x * 256 ^ z + of_bytes y) ly in
    let g = f (of_bytes x) (of_bytes y) p (subst (λ z. of_bytes y < 256 ^ z) ly (number_below y ay)) (subst (λ z. of_bytes x < 256 ^ z) lx (number_below x ax)) in
    (x, x, y, (refl, (lx, ax, g.0, g.1)), (ly, ay), ap (λ z. to_bytes z n) e ∙ sym j)

nothing_parted : (n : ℕ) → Parts 0 0 0 1 (to_bytes 0 n)
unfolding to_bytes number all_bytes
nothing_parted n = ([], [], [], (refl, (refl, refl, omega arith, omega arith)), (refl, refl), refl)

head_tail : (r b h k lo hi n s w : ℕ) → b % 32 ≡ s → Shape r b h k lo hi → Sized n s w → (b ≡ 248 → (32 ≤ n) × (n < 256 - r)) → Parts h k lo hi (to_bytes w n)
head_tail r b h k lo hi n s w e (inl (a, p, q, u, v)) z f = rw (p, q, u, v) (let y : w ≡ 0 + 0 = omega arith in subst (λ m. Parts 0 0 0 1 (to_bytes m n)) (sym y) (nothing_parted n))
head_tail r b h k lo hi n s w e (inr (inl (a, p, q, u, v))) z f =
    rw (p, q, u, v) (let g = f a in let y : w ≡ 1 + 0 = omega arith in number_parted 1 0 32 (256 - r) n w y (omega arith) (λ x y i j l. omega arith))
head_tail r b h k lo hi n s w e (inr (inr (inl (a, m, p, q, u, v)))) z f =
    rw (p, q, u, v) (let y : w ≡ 1 + 0 = omega arith in number_parted 1 0 24 256 n w y (omega arith) (λ x y i j l. omega arith))
head_tail r b h k lo hi n s w e (inr (inr (inr (inl (a, m, p, q, u, v))))) z f =
    rw (p, q, u, v) (let y : w ≡ 1 + 1 = omega arith in number_parted 1 1 1 256 n w y (omega arith) (λ x y i j l. omega arith))
head_tail r b h k lo hi n s w e (inr (inr (inr (inr (inl (a, m, p, q, u, v)))))) z f =
    rw (p, q, u, v) (let y : w ≡ 2 + 2 = omega arith in number_parted 2 2 1 65536 n w y (omega arith) (λ x y i j l. omega arith))
head_tail r b h k lo hi n s w e (inr (inr (inr (inr (inr (a, m, p, q, u, v)))))) z f =
    rw (p, q, u, v) (let y : w ≡ 4 + 4 = omega arith in number_parted 4 4 1 4294967296 n w y (omega arith) (λ x y i j l. omega arith))

-- a head that meets a demand has such a first byte
place_demand : (r n : ℕ) → SimpleFits n → r + place_of n ≤ 247 → ((n < 24) × (r + n ≤ 247)) ⊎ ((32 ≤ n) × (n < 256) × (r + (n - 8) ≤ 247))
place_demand r n (inl a) h = inl (a, rw (lt-ltb n 24 a) at h)
place_demand r n (inr (a, b)) h = inr (a, b, rw (le-ltb n 24 (omega arith)) at h)

low_first : (d r b : ℕ) → b < 224 → b % 32 < 28 → (128 ≤ b → 0 < d) → FirstFor d r b
low_first d r b h l f = (omega arith, l, (λ x y. f x), λ x. absurd (omega arith))

sized_low : (n s w : ℕ) → Sized n s w → s < 28
sized_low n s w a = omega arith

first_from_head : (d r : ℕ) (k : Major) (n s w : ℕ) → HeadFits d k n → DemandFits r k n → Sized n s w
    → FirstFor d r (32 * major_number k + s) × (32 * major_number k + s ≡ 248 → (32 ≤ n) × (n < 256 - r))
first_from_head d r Unsigned n s w f g z = let y = sized_low n s w z in (low_first d r (32 * 0 + s) (omega arith) (omega arith) (λ x. absurd (omega arith)), λ e. absurd (omega arith))
first_from_head d r Negative n s w f g z = let y = sized_low n s w z in (low_first d r (32 * 1 + s) (omega arith) (omega arith) (λ x. absurd (omega arith)), λ e. absurd (omega arith))
first_from_head d r Bytes n s w f g z = let y = sized_low n s w z in (low_first d r (32 * 2 + s) (omega arith) (omega arith) (λ x. absurd (omega arith)), λ e. absurd (omega arith))
first_from_head d r Text n s w f g z = let y = sized_low n s w z in (low_first d r (32 * 3 + s) (omega arith) (omega arith) (λ x. absurd (omega arith)), λ e. absurd (omega arith))
first_from_head d r Array n s w f g z = let y = sized_low n s w z in (low_first d r (32 * 4 + s) (omega arith) (omega arith) (λ x. f.1), λ e. absurd (omega arith))
first_from_head d r Map n s w f g z = let y = sized_low n s w z in (low_first d r (32 * 5 + s) (omega arith) (omega arith) (λ x. f.1), λ e. absurd (omega arith))
first_from_head d r Tag n s w f g z = let y = sized_low n s w z in (low_first d r (32 * 6 + s) (omega arith) (omega arith) (λ x. f.1), λ e. absurd (omega arith))
first_from_head d r Simple n s w f g z =
    let y = place_demand r n f g in
    ((omega arith, omega arith, (λ i j. absurd (omega arith)), λ i. omega arith), λ e. (omega arith, omega arith))

mod_low : (c s : ℕ) → s < 28 → (32 * c + s) % 32 ≡ s
mod_low c s h = omega arith

pub parts_from_head : (d r : ℕ) (i : Major × ℕ) (w : List ℕ) → HeadFor d r i w → HeadParts d r w
parts_from_head d r (k, n) w ((p, f), g) =
    let (s, x, q, z) = head_shape (major_number k) n (fits_below d k n f) in
    let (a, c) = first_from_head d r k n s x f g z in
    let b : ℕ = 32 * major_number k + s in
    let t = head_tail r b (fronts b) (backs b) (low b) (high r b) n s x (mod_low (major_number k) s (sized_low n s x z)) (shape_is d r b a) z c in
    (b, b ∷ [], to_bytes x n, (refl, a), t, p ∙ q)

-- AND BACK

number_of_major : (m : ℕ) → m < 8 → major_number (major_of m) ≡ m
number_of_major zero h = refl
number_of_major (suc zero) h = refl
number_of_major (suc (suc zero)) h = refl
number_of_major (suc (suc (suc zero))) h = refl
number_of_major (suc (suc (suc (suc zero)))) h = refl
number_of_major (suc (suc (suc (suc (suc zero))))) h = refl
number_of_major (suc (suc (suc (suc (suc (suc zero)))))) h = refl
number_of_major (suc (suc (suc (suc (suc (suc (suc zero))))))) h = refl
number_of_major (suc (suc (suc (suc (suc (suc (suc (suc m)))))))) h = absurd (omega arith)

demand_place : (r n : ℕ) → ((n < 24) × (r + n ≤ 247)) ⊎ ((32 ≤ n) × (n < 256) × (r + (n - 8) ≤ 247)) → SimpleFits n × (r + place_of n ≤ 247)
demand_place r n (inl (a, h)) = (inl a, rw (lt-ltb n 24 a) h)
demand_place r n (inr (a, b, h)) = (inr (a, b), rw (le-ltb n 24 (omega arith)) h)

fits_of : (d r m b n : ℕ) → FirstFor d r b → b / 32 ≡ m → n < 18446744073709551616
    → (224 ≤ b → ((n < 24) × (r + n ≤ 247)) ⊎ ((32 ≤ n) × (n < 256) × (r + (n - 8) ≤ 247))) → HeadFits d (major_of m) n × DemandFits r (major_of m) n
fits_of d r zero b n f e l g = (l, tt)
fits_of d r (suc zero) b n f e l g = (l, tt)
fits_of d r (suc (suc zero)) b n f e l g = (l, tt)
fits_of d r (suc (suc (suc zero))) b n f e l g = (l, tt)
fits_of d r (suc (suc (suc (suc zero)))) b n f e l g = ((l, f.2 (omega arith) (omega arith)), tt)
fits_of d r (suc (suc (suc (suc (suc zero))))) b n f e l g = ((l, f.2 (omega arith) (omega arith)), tt)
fits_of d r (suc (suc (suc (suc (suc (suc zero)))))) b n f e l g = ((l, f.2 (omega arith) (omega arith)), tt)
fits_of d r (suc (suc (suc (suc (suc (suc (suc m))))))) b n f e l g = demand_place r n (g (omega arith))

wide_tail : (h k lo : ℕ) (x y : List ℕ) → length x ≡ h → all_bytes x ≡ true → lo ≤ of_bytes x → BytesOf k y
    → (lo * 256 ^ k ≤ of_bytes (x ++ y)) × (of_bytes (x ++ y) < 256 ^ (h + k)) × (to_bytes (h + k) (of_bytes (x ++ y)) ≡ x ++ y)
wide_tail h k lo x y l a m (n, b) =
    let j : length (x ++ y) ≡ h + k = length-append x y ∙ (omega arith) in
    let c = bytes_append x y a b in
    let p : of_bytes (x ++ y) ≡ of_bytes x * 256 ^ k + of_bytes y = number_two x y ∙ ap (λ z. of_bytes x * 256 ^ z + of_bytes y) n in (
      omega (arith, p, mul-le-mul_right (256 ^ k) m),
      subst (λ z. of_bytes (x ++ y) < 256 ^ z) j (number_below (x ++ y) c),
      ap (λ z. to_bytes z (of_bytes (x ++ y))) (sym j) ∙ to_of_bytes (x ++ y) c,
    )

abbrev tail_number : ℕ → List ℕ → ℕ
tail_number b t = cond (ltb (b % 32) 24) (b % 32) (of_bytes t)

none_tail : (x y : List ℕ) (n : ℕ) → length x ≡ 0 → length y ≡ 0 → to_bytes 0 n ≡ x ++ y
unfolding to_bytes
none_tail [] [] n p q = refl
none_tail [] (b ∷ y) n p q = absurd (omega arith)
none_tail (b ∷ x) y n p q = absurd (omega arith)

sized_tail : (r b h k lo hi : ℕ) (x y : List ℕ) → Shape r b h k lo hi → High h lo hi x → BytesOf k y
    → Sized (tail_number b (x ++ y)) (b % 32) (h + k) × (to_bytes (h + k) (tail_number b (x ++ y)) ≡ x ++ y)
sized_tail r b h k lo hi x y (inl (m, p, q, u, v)) (l, a, i, j) c = rw (lt-ltb (b % 32) 24 m, p, q) (inl (m, refl, refl), none_tail x y (b % 32) (omega arith) (omega arith))
sized_tail r b h k lo hi x y (inr (inl (g, p, q, u, v))) (l, a, i, j) c =
    let m : b % 32 ≡ 24 = omega arith in
    let (e, f, t) = wide_tail h k lo x y l a i c in
    rw (le-ltb (b % 32) 24 (omega arith)) (inr (inl ((let z : lo * 256 ^ k ≡ 32 = rw (q, u) in omega arith), (let z : 256 ^ (h + k) ≡ 256 = rw (p, q) in omega arith), m, omega arith)), t)
sized_tail r b h k lo hi x y (inr (inr (inl (g, m, p, q, u, v)))) (l, a, i, j) c =
    let (e, f, t) = wide_tail h k lo x y l a i c in
    rw (le-ltb (b % 32) 24 (omega arith)) (inr (inl ((let z : lo * 256 ^ k ≡ 24 = rw (q, u) in omega arith), (let z : 256 ^ (h + k) ≡ 256 = rw (p, q) in omega arith), m, omega arith)), t)
sized_tail r b h k lo hi x y (inr (inr (inr (inl (g, m, p, q, u, v))))) (l, a, i, j) c =
    let (e, f, t) = wide_tail h k lo x y l a i c in
    rw (le-ltb (b % 32) 24 (omega arith))
    (inr (inr (inl ((let z : lo * 256 ^ k ≡ 256 = rw (q, u) in omega arith), (let z : 256 ^ (h + k) ≡ 65536 = rw (p, q) in omega arith), m, omega arith))), t)
sized_tail r b h k lo hi x y (inr (inr (inr (inr (inl (g, m, p, q, u, v)))))) (l, a, i, j) c =
    let (e, f, t) = wide_tail h k lo x y l a i c in
    rw (le-ltb (b % 32) 24 (omega arith))
    (inr (inr (inr (inl ((let z : lo * 256 ^ k ≡ 65536 = rw (q, u) in omega arith), (let z : 256 ^ (h + k) ≡ 4294967296 = rw (p, q) in omega arith), m, omega arith)))), t)
sized_tail r b h k lo hi x y (inr (inr (inr (inr (inr (g, m, p, q, u, v)))))) (l, a, i, j) c =
    let (e, f, t) = wide_tail h k lo x y l a i c in
    rw (le-ltb (b % 32) 24 (omega arith))
    (inr (inr (inr (inr ((let z : lo * 256 ^ k ≡ 4294967296 = rw (q, u) in omega arith), (let z : 256 ^ (h + k) ≡ 18446744073709551616 = rw (p, q) in omega arith), m, omega arith)))), t)

simple_tail : (d r b h k lo hi : ℕ) (x y : List ℕ) → FirstFor d r b → Shape r b h k lo hi → High h lo hi x → BytesOf k y → 224 ≤ b
    → ((tail_number b (x ++ y) < 24) × (r + tail_number b (x ++ y) ≤ 247)) ⊎ ((32 ≤ tail_number b (x ++ y)) × (tail_number b (x ++ y) < 256) × (r + (tail_number b (x ++ y) - 8) ≤ 247))
unfolding number
simple_tail d r b h k lo hi x y f (inl (m, p, q, u, v)) (l, a, i, j) c g = rw (lt-ltb (b % 32) 24 m) (inl (m, (let z = f.3 g in let o = f.0 in omega arith)))
simple_tail d r b h k lo hi x y f (inr (inl (w, p, q, u, v))) (l, a, i, j) c g =
    let m : b % 32 ≡ 24 = omega arith in
    let n : y ≡ [] = nil_from_length y (let z = c.0 in omega arith) in
    let e : of_bytes (x ++ y) ≡ of_bytes x = ap of_bytes (ap (λ z. x ++ z) n ∙ append-nil x) in
    rw (le-ltb (b % 32) 24 (omega arith)) (inr (omega arith, omega arith, omega arith))
simple_tail d r b h k lo hi x y f (inr (inr (inl (w, m, p, q, u, v)))) (l, a, i, j) c g = absurd (omega arith)
simple_tail d r b h k lo hi x y f (inr (inr (inr (inl (w, m, p, q, u, v))))) (l, a, i, j) c g = absurd (omega arith)
simple_tail d r b h k lo hi x y f (inr (inr (inr (inr (inl (w, m, p, q, u, v)))))) (l, a, i, j) c g = absurd (omega arith)
simple_tail d r b h k lo hi x y f (inr (inr (inr (inr (inr (w, m, p, q, u, v)))))) (l, a, i, j) c g = absurd (omega arith)

parts_say : (d r b : ℕ) (x y : List ℕ) → FirstFor d r b → High (fronts b) (low b) (high r b) x → BytesOf (backs b) y → HeadFor d r (head_says (b ∷ (x ++ y))) (b ∷ (x ++ y))
parts_say d r b x y f a c =
    let s = shape_is d r b f in
    let n : ℕ = tail_number b (x ++ y) in
    let (z, t) = sized_tail r b (fronts b) (backs b) (low b) (high r b) x y s a c in
    let (g, e) = fits_of d r (b / 32) b n f refl (sized_below n (b % 32) (fronts b + backs b) z) (simple_tail d r b (fronts b) (backs b) (low b) (high r b) x y f s a c) in
    let k = number_of_major (b / 32) (let o = f.0 in omega arith) in
    let h : head (major_number (major_of (b / 32))) n ≡ b ∷ (x ++ y) =
    sized_head (major_number (major_of (b / 32))) n (b % 32) (fronts b + backs b) z
    ∙ cons_both (32 * major_number (major_of (b / 32)) + b % 32) b (to_bytes (fronts b + backs b) n) (x ++ y) (omega arith) t in
    ((sym h, g), e)

pub head_from_parts : (d r : ℕ) (w : List ℕ) → HeadParts d r w → HeadFor d r (head_says w) w
head_from_parts d r w (b, u, v, (p, f), (i, x, y, (q, a), c, e), o) =
    subst (λ z. HeadFor d r (head_says z) z) (sym (o ∙ ap (λ z. z ++ v) p ∙ ap (λ z. b ∷ z) e)) (parts_say d r b x y f a c)

some_high : (d r b h k lo hi : ℕ) → FirstFor d r b → Shape r b h k lo hi → (x : List ℕ) × High h lo hi x
unfolding all_bytes number
some_high d r b h k lo hi f s = elim (cases_lt 0 h) [
  | inl l ↦ shape_fills d r b h k lo hi f s [] refl l
  | inr l ↦ ([], (omega arith, refl, omega arith, omega arith))
]

pub bytes_some : (n : ℕ) → (w : List ℕ) × BytesOf n w
bytes_some n = (replicate n 0, (length-replicate {A = ℕ} n 0, bytes_replicate n 0 (omega arith)))

pub tail_some : (d r b : ℕ) → FirstFor d r b → (v : List ℕ) × Parts (fronts b) (backs b) (low b) (high r b) v
tail_some d r b f = let (x, a) = some_high d r b (fronts b) (backs b) (low b) (high r b) f (shape_is d r b f) in let (y, c) = bytes_some (backs b) in (x ++ y, (x, x, y, (refl, a), c, refl))
