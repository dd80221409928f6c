-- Heads: none begins with another, and where bytes cease to begin one.
use Rattle.std.proofs.Common.{◌≡◌, ℕ, suc, ◌+◌, ◌-◌, ◌*◌, ◌/◌, ◌%◌, ◌^◌, ◌<◌, ◌≤◌, true, ltb, ◌⊎◌, List, [], ◌∷◌, ◌++◌, length, take, replicate, sym, refl, ap, ◌∙◌, subst, inl, inr, append_assoc, arith, length-append}
use Rattle.std.proofs.lemmas.List.{append-nil, nil_from_length, length-replicate, length-take-le, take_all, take_at, take-append-le, replicate_more, replicate-append-replicate}
use Rattle.std.proofs.lemmas.Bool.{lt-ltb, le-ltb, cases_lt, and_from, cond_both}
use Rattle.cbor.specs.declared.reading.Form.{Form}
use Rattle.cbor.specs.Encoding.{all_bytes, to_bytes, number, of_bytes, head}
use Rattle.cbor.specs.Prefix.{Begins, Any, PrefixFree, Stops}
use Rattle.cbor.specs.Reading.{HeadOf, IsForm}
use Rattle.cbor.proofs.Numbers.{bytes_append, bytes_take, bytes_replicate, number_append, number_below, number_parts, length_to_bytes, to_bytes_bytes, of_to_bytes, to_of_bytes}

-- the low part of a head's first byte, and how many bytes follow
abbrev pub Sized : ℕ → ℕ → ℕ → Type 0
Sized n s w =
    ((n < 24) × (s ≡ n) × (w ≡ 0))
    ⊎ (((24 ≤ n) × (n < 256) × (s ≡ 24) × (w ≡ 1))
    ⊎ (((256 ≤ n) × (n < 65536) × (s ≡ 25) × (w ≡ 2)) ⊎ (((65536 ≤ n) × (n < 4294967296) × (s ≡ 26) × (w ≡ 4)) ⊎ ((4294967296 ≤ n) × (n < 18446744073709551616) × (s ≡ 27) × (w ≡ 8)))))

pub sized_head : (m n s w : ℕ) → Sized n s w → head m n ≡ (32 * m + s) ∷ to_bytes w n
unfolding to_bytes
sized_head m n s w (inl (a, p, q)) = rw (lt-ltb n 24 a, p, q)
sized_head m n s w (inr (inl (a, b, p, q))) = rw (le-ltb n 24 a, lt-ltb n 256 b, p, q)
sized_head m n s w (inr (inr (inl (a, b, p, q)))) = rw (le-ltb n 24 (omega arith), le-ltb n 256 a, lt-ltb n 65536 b, p, q)
sized_head m n s w (inr (inr (inr (inl (a, b, p, q))))) = rw (le-ltb n 24 (omega arith), le-ltb n 256 (omega arith), le-ltb n 65536 a, lt-ltb n 4294967296 b, p, q)
sized_head m n s w (inr (inr (inr (inr (a, b, p, q))))) = rw (le-ltb n 24 (omega arith), le-ltb n 256 (omega arith), le-ltb n 65536 (omega arith), le-ltb n 4294967296 a, p, q)

sized : (n : ℕ) → n < 18446744073709551616 → (s : ℕ) × (w : ℕ) × Sized n s w
sized n h = elim (cases_lt n 24) [
  | inl a ↦ (n, 0, inl (a, refl, refl))
  | inr a ↦ elim (cases_lt n 256) [
    | inl b ↦ (24, 1, inr (inl (a, b, refl, refl)))
    | inr b ↦ elim (cases_lt n 65536) [
      | inl c ↦ (25, 2, inr (inr (inl (b, c, refl, refl))))
      | inr c ↦ elim (cases_lt n 4294967296) [ inl d ↦ (26, 4, inr (inr (inr (inl (c, d, refl, refl))))) | inr d ↦ (27, 8, inr (inr (inr (inr (d, h, refl, refl))))) ]
    ]
  ]
]

pub head_shape : (m n : ℕ) → n < 18446744073709551616 → (s : ℕ) × (w : ℕ) × (head m n ≡ (32 * m + s) ∷ to_bytes w n) × Sized n s w
head_shape m n h = let (s, w, z) = sized n h in (s, w, sized_head m n s w z, z)

sized_fits : (n s w : ℕ) → Sized n s w → ((n ≡ s) × (w ≡ 0)) ⊎ (n < 256 ^ w)
sized_fits n s w (inl a) = inl (sym a.1, a.2)
sized_fits n s w (inr (inl a)) = inr (rw a.3 a.1)
sized_fits n s w (inr (inr (inl a))) = inr (rw a.3 a.1)
sized_fits n s w (inr (inr (inr (inl a)))) = inr (rw a.3 a.1)
sized_fits n s w (inr (inr (inr (inr a)))) = inr (rw a.3 a.1)

pub head_free : (m : ℕ) → PrefixFree (HeadOf m)
head_free m n k u r (e, a) (f, b) =
    let (s, w, p, z) = head_shape m n a in
    let (t, x, q, y) = head_shape m k b in
    let g : (32 * m + s) ∷ (to_bytes w n ++ r) ≡ (32 * m + t) ∷ to_bytes x k = ap (λ v. v ++ r) (sym p ∙ sym e) ∙ f ∙ q in
    let h : 32 * m + s ≡ 32 * m + t = cc in
    let i : to_bytes w n ++ r ≡ to_bytes x k = cc in
    let j : w ≡ x = omega arith in
    let l : length r ≡ 0 = omega (arith, ap length i, length-append (to_bytes w n) r, length_to_bytes w n, length_to_bytes x k) in
    let o = nil_from_length r l in
    let c : to_bytes w n ≡ to_bytes w k = sym (append-nil (to_bytes w n)) ∙ ap (λ v. to_bytes w n ++ v) (sym o) ∙ i ∙ ap (λ v. to_bytes v k) (sym j) in (
      elim (sized_fits n s w z) [
        | inl d ↦ (let v : n ≡ k = omega arith in v)
        | inr d ↦ elim (sized_fits k t x y) [
          | inl v ↦ (let y0 : n ≡ k = omega arith in y0)
          | inr v ↦ sym (of_to_bytes w n d) ∙ ap of_bytes c ∙ of_to_bytes w k (subst (λ y. k < 256 ^ y) (sym j) v)
        ]
      ],
      o,
    )

-- a head has a byte, also one whose argument does not fit it
pub head_not_empty : (m n : ℕ) → 0 < length (head m n)
head_not_empty m n =
    let P : List ℕ → Type 0 = λ l. 0 < length l in
    cond_both (ltb n 24) ((32 * m + n) ∷ []) _ P (λ _. omega arith)
    (λ _. cond_both (ltb n 256) ((32 * m + 24) ∷ to_bytes 1 n) _ P (λ _. omega arith)
    (λ _. cond_both (ltb n 65536) ((32 * m + 25) ∷ to_bytes 2 n) _ P (λ _. omega arith)
    (λ _. cond_both (ltb n 4294967296) ((32 * m + 26) ∷ to_bytes 4 n) ((32 * m + 27) ∷ to_bytes 8 n) P (λ _. omega arith) (λ _. omega arith))))

pub head_some : (m n : ℕ) → n < 18446744073709551616 → 0 < length (head m n)
head_some m n h = head_not_empty m n

pub head_bytes : (m n : ℕ) → m < 8 → n < 18446744073709551616 → all_bytes (head m n) ≡ true
unfolding all_bytes
head_bytes m n h l = let (s, w, p, z) = head_shape m n l in ap all_bytes p ∙ and_from (ltb (32 * m + s) 256) (all_bytes (to_bytes w n)) (lt-ltb (32 * m + s) 256 (omega arith)) (to_bytes_bytes w n)

-- BY THE FIRST BYTE

first_of : (m n : ℕ) (u : List ℕ) → HeadOf m n u → (s : ℕ) × (t : List ℕ) × (s < 28) × (u ≡ (32 * m + s) ∷ t)
first_of m n u (e, h) = let (s, w, p, z) = head_shape m n h in (s, to_bytes w n, (omega arith), e ∙ p)

-- none begins with this byte, if there is one
pub none_first : (m : ℕ) (q : List ℕ) → ((b : ℕ) (r : List ℕ) → q ≡ b ∷ r → (s : ℕ) → s < 28 → b ≡ 32 * m + s → ⊥) → Stops (Any (HeadOf m)) q 0 0
none_first m q bad = record {
  unread = λ u rest (n, h) e.
      let (s, t, l, f) = first_of m n u h in
      bad (32 * m + s) (t ++ rest) (e ∙ ap (λ x. x ++ rest) f) s l refl;
  within = omega arith;
  begins = (head m 0, (0, (refl, omega arith)));
  ends = λ h (rest, (n, w)). by_first q bad h rest n w;
  longer = λ rest w. omega arith;
}
  where
    by_first : (q : List ℕ) → ((b : ℕ) (r : List ℕ) → q ≡ b ∷ r → (s : ℕ) → s < 28 → b ≡ 32 * m + s → ⊥) → 0 < length q → (rest : List ℕ) (n : ℕ) → HeadOf m n (take 1 q ++ rest) → ⊥
    by_first [] bad h rest n w = omega arith
    by_first (b ∷ r) bad h rest n w =
        let (s, t, l, f) = first_of m n (b ∷ rest) w in
        bad b r refl s l cc

-- ARGUMENTS AFTER THE FIRST BYTE

-- the forms as plain numbers: the low part, how many bytes show that the form is the shortest, by at least how much, and how many more there are
abbrev Wide : ℕ → ℕ → ℕ → ℕ → Type 0
Wide s h lo k =
    ((s ≡ 24) × (h ≡ 1) × (lo ≡ 24) × (k ≡ 0))
    ⊎ (((s ≡ 25) × (h ≡ 1) × (lo ≡ 1) × (k ≡ 1)) ⊎ (((s ≡ 26) × (h ≡ 2) × (lo ≡ 1) × (k ≡ 2)) ⊎ ((s ≡ 27) × (h ≡ 4) × (lo ≡ 1) × (k ≡ 4))))

form_wide : (s : ℕ) (f : Form) → IsForm s f → Wide s f.front f.least (f.width - f.front) × (f.front ≤ f.width)
form_wide s f (inl (a, b, c, d)) = (inl (a, b, d, omega arith), omega arith)
form_wide s f (inr (inl (a, b, c, d))) = (inr (inl (a, b, d, omega arith)), omega arith)
form_wide s f (inr (inr (inl (a, b, c, d)))) = (inr (inr (inl (a, b, d, omega arith))), omega arith)
form_wide s f (inr (inr (inr (a, b, c, d)))) = (inr (inr (inr (a, b, d, omega arith))), omega arith)

wide_sized : (s h lo k : ℕ) (t : List ℕ) → all_bytes t ≡ true → Wide s h lo k → length t ≡ h + k → lo ≤ of_bytes (take h t) → Sized (of_bytes t) s (h + k)
wide_sized s h lo k t a (inl (p, b, c, d)) = rw (p, b, c, d) (λ l g. let e = number_parts 1 0 t a l in let z = e.0 in let y = e.1 in let v = number_below (take 1 t) (bytes_take 1 t a) in let u : length (take 1 t) ≡ 1 = length-take-le 1 t (omega arith) in let x : of_bytes (take 1 t) < 256 ^ 1 = subst (λ n. of_bytes (take 1 t) < 256 ^ n) u v in inr (inl (omega arith, omega arith, refl, refl)))
wide_sized s h lo k t a (inr (inl (p, b, c, d))) = rw (p, b, c, d) (λ l g. let e = number_parts 1 1 t a l in let z = e.0 in let y = e.1 in let v : of_bytes t < 256 ^ 2 = subst (λ n. of_bytes t < 256 ^ n) l (number_below t a) in inr (inr (inl (omega arith, omega arith, refl, refl))))
wide_sized s h lo k t a (inr (inr (inl (p, b, c, d)))) = rw (p, b, c, d) (λ l g. let e = number_parts 2 2 t a l in let z = e.0 in let y = e.1 in let v : of_bytes t < 256 ^ 4 = subst (λ n. of_bytes t < 256 ^ n) l (number_below t a) in inr (inr (inr (inl (omega arith, omega arith, refl, refl)))))
wide_sized s h lo k t a (inr (inr (inr (p, b, c, d)))) = rw (p, b, c, d) (λ l g. let e = number_parts 4 4 t a l in let z = e.0 in let y = e.1 in let v : of_bytes t < 256 ^ 8 = subst (λ n. of_bytes t < 256 ^ n) l (number_below t a) in inr (inr (inr (inr (omega arith, omega arith, refl, refl)))))

sized_wide : (s h lo k w : ℕ) (t : List ℕ) → all_bytes t ≡ true → Wide s h lo k → Sized (of_bytes t) s w → length t ≡ h + k → lo ≤ of_bytes (take h t)
sized_wide s h lo k w t a (inl (p, b, c, d)) z = rw (b, c, d) (λ l. let e = number_parts 1 0 t a l in let x = e.0 in let y = e.1 in omega arith)
sized_wide s h lo k w t a (inr (inl (p, b, c, d))) z = rw (b, c, d) (λ l. let e = number_parts 1 1 t a l in let x = e.0 in let y = e.1 in omega arith)
sized_wide s h lo k w t a (inr (inr (inl (p, b, c, d)))) z = rw (b, c, d) (λ l. let e = number_parts 2 2 t a l in let x = e.0 in let y = e.1 in omega arith)
sized_wide s h lo k w t a (inr (inr (inr (p, b, c, d)))) z = rw (b, c, d) (λ l. let e = number_parts 4 4 t a l in let x = e.0 in let y = e.1 in omega arith)

module _ (m b : ℕ) (f : Form) (major : b / 32 ≡ m) (form : IsForm (b % 32) f) where
  -- so many bytes, with enough in front, are the argument of a head
  pub long_is : (t : List ℕ) → all_bytes t ≡ true → length t ≡ f.width → f.least ≤ of_bytes (take f.front t) → HeadOf m (of_bytes t) (b ∷ t)
  long_is t a l g =
      let (w, o) = form_wide (b % 32) f form in
      let k : f.front + (f.width - f.front) ≡ f.width = omega arith in
      let z = wide_sized (b % 32) f.front f.least (f.width - f.front) t a w (l ∙ sym k) g in
      let e : 32 * m + b % 32 ≡ b = omega arith in
      (sym (sized_head m (of_bytes t) (b % 32) (f.front + (f.width - f.front)) z ∙ (λ i. e i ∷ to_bytes ((k ∙ sym l) i) (of_bytes t)) ∙ ap (λ x. b ∷ x) (to_of_bytes t a)), omega arith)

  -- and a head that begins so has them
  pub long_has : (n : ℕ) (t : List ℕ) → HeadOf m n (b ∷ t) → (length t ≡ f.width) × (f.least ≤ of_bytes (take f.front t))
  long_has n t (e, h) =
      let (s, w, p, z) = head_shape m n h in
      let g : b ∷ t ≡ (32 * m + s) ∷ to_bytes w n = e ∙ p in
      let x : b ≡ 32 * m + s = cc in
      let y : t ≡ to_bytes w n = cc in
      let c : b % 32 ≡ s = omega arith in
      let (v, o) = form_wide (b % 32) f form in
      let j : w ≡ f.width = omega arith in
      let l : length t ≡ f.width = ap length y ∙ length_to_bytes w n ∙ j in
      let a : all_bytes t ≡ true = ap all_bytes y ∙ to_bytes_bytes w n in (
        l,
        elim (sized_fits n s w z) [
          | inl d ↦ absurd (omega arith)
          | inr d ↦
              let q : of_bytes t ≡ n = ap of_bytes y ∙ of_to_bytes w n d in
              sized_wide (b % 32) f.front f.least (f.width - f.front) w t a v (subst (λ r. Sized r (b % 32) w) (sym q) (subst (λ r. Sized n r w) (sym c) z)) (omega arith)
        ],
      )

  starts_so : (u rest r : List ℕ) → Any (HeadOf m) u → b ∷ r ≡ u ++ rest → (t : List ℕ) × (length t ≡ f.width) × (f.least ≤ of_bytes (take f.front t)) × (r ≡ t ++ rest)
  starts_so [] rest r (n, (e, h)) g = absurd (omega (arith, ap length e, head_some m n h))
  starts_so (c ∷ t) rest r (n, h) g =
      let x : b ≡ c = cc in
      let y : r ≡ t ++ rest = cc in
      let (l, k) = long_has n t (subst (λ v. HeadOf m n (v ∷ t)) (sym x) h) in
      (t, l, k, y)

  -- bytes that can still be filled up, with bytes 255
  full : (h : ℕ) (x : List ℕ) (k : ℕ) → length x < h → h ≤ length x + k → 255 ≤ of_bytes (take h (x ++ replicate k 255))
  unfolding number
  full h x k l g =
      let j = h - length x - 1 in
      let e : replicate k 255 ≡ (replicate j 255 ++ 255 ∷ []) ++ replicate (k - (j + 1)) 255 = ap (λ n. replicate n 255) (let z : k ≡ j + 1 + (k - (j + 1)) = omega arith in z) ∙ sym (replicate-append-replicate (j + 1) (k - (j + 1)) 255) ∙ ap (λ y. y ++ replicate (k - (j + 1)) 255) (sym (replicate_more j 255)) in
      let y = x ++ replicate j 255 in
      let n : length (y ++ 255 ∷ []) ≡ h = length-append y (255 ∷ []) ∙ (let z = length-append x (replicate j 255) in let v = length-replicate {A = ℕ} j 255 in omega arith) in
      let d : x ++ replicate k 255 ≡ (y ++ 255 ∷ []) ++ replicate (k - (j + 1)) 255 = ap (λ v. x ++ v) e ∙ simp append_assoc in
      let o : of_bytes (take h (x ++ replicate k 255)) ≡ of_bytes y * 256 + 255 = ap (λ v. of_bytes (take h v)) d ∙ ap of_bytes (take_at (y ++ 255 ∷ []) (replicate (k - (j + 1)) 255) h n) ∙ number_append 0 y (255 ∷ []) in
      omega arith

  least_small : f.least ≤ 24
  least_small = omega arith

  pub long_begins : (x : List ℕ) → all_bytes x ≡ true → length x ≤ f.width → (f.front ≤ length x → f.least ≤ of_bytes (take f.front x)) → Begins (Any (HeadOf m)) (b ∷ x)
  long_begins x a l g =
      let k = f.width - length x in
      let t = x ++ replicate k 255 in
      let n : length t ≡ f.width = length-append x (replicate k 255) ∙ (let z = length-replicate {A = ℕ} k 255 in omega arith) in
      let enough : f.least ≤ of_bytes (take f.front t) = elim (cases_lt (length x) f.front) [
        | inl h ↦ (let z = full f.front x k h (let o = (form_wide (b % 32) f form).1 in omega arith) in let y = least_small in omega arith)
        | inr h ↦ rw (take-append-le f.front x (replicate k 255) h) (g h)
      ] in
      (replicate k 255, (of_bytes t, long_is t (bytes_append x (replicate k 255) a (bytes_replicate k 255 (omega arith))) n enough))

  -- too few bytes
  pub long_cut : (r : List ℕ) → all_bytes r ≡ true → length r < f.width → (f.front ≤ length r → f.least ≤ of_bytes (take f.front r)) → Stops (Any (HeadOf m)) (b ∷ r) (suc (length r)) (suc f.width)
  long_cut r a l g = record {
    unread = λ u rest w e. let (t, n, k, y) = starts_so u rest r w e in omega (arith, ap length y, length-append t rest);
    within = omega arith;
    begins = rw (take_all (length r) r (omega arith)) (long_begins r a (omega arith) g);
    ends = λ h. absurd (omega arith);
    longer = λ rest w.
        let (t, n, k, y) = starts_so (b ∷ (r ++ rest)) [] (r ++ rest) w (sym (append-nil (b ∷ (r ++ rest)))) in
        omega (arith, ap length y, length-append t []);
  }

  -- not the shortest form
  pub long_low : (r : List ℕ) → all_bytes r ≡ true → f.front ≤ length r → of_bytes (take f.front r) < f.least → Stops (Any (HeadOf m)) (b ∷ r) f.front 0
  long_low r a l g = record {
    unread = λ u rest w e.
        let (t, n, k, y) = starts_so u rest r w e in
        let (v, o) = form_wide (b % 32) f form in
        let z : take f.front r ≡ take f.front t = ap (take f.front) y ∙ take-append-le f.front t rest (omega arith) in
        omega (arith, ap of_bytes z);
    within = omega arith;
    begins = front_begins;
    ends = λ h (rest, w).
        let (t, n, k, y) = starts_so (b ∷ (take f.front r ++ rest)) [] (take f.front r ++ rest) w (sym (append-nil (b ∷ (take f.front r ++ rest)))) in
        let x : t ≡ take f.front r ++ rest = sym (append-nil t) ∙ sym y in
        let z : take f.front t ≡ take f.front r = ap (take f.front) x ∙ take_at (take f.front r) rest f.front (length-take-le f.front r l) in
        omega (arith, ap of_bytes z);
    longer = λ rest w. omega arith;
  }
    where
      front_begins : Begins (Any (HeadOf m)) (take f.front (b ∷ r))
      front_begins =
          let (v, o) = form_wide (b % 32) f form in
          let e : f.front ≡ suc (f.front - 1) = omega arith in
          let n : length (take (f.front - 1) r) ≡ f.front - 1 = length-take-le (f.front - 1) r (omega arith) in
          subst (λ k. Begins (Any (HeadOf m)) (take k (b ∷ r))) (sym e) (long_begins (take (f.front - 1) r) (bytes_take (f.front - 1) r a) (omega arith) (λ h. absurd (omega arith)))
