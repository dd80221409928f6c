-- Where heads and strings of bytes can be raised.
use Rattle.std.proofs.Common.{◌≡◌, ℕ, zero, suc, ◌+◌, ◌*◌, ◌/◌, ◌%◌, ◌^◌, ◌<◌, ◌≤◌, true, cond, ltb, List, [], ◌∷◌, ◌++◌, length, sym, refl, ap, ◌∙◌, subst, inl, inr, pow-suc, arith, length-append}
use Rattle.std.proofs.lemmas.Nat.{div_below}
use Rattle.std.proofs.lemmas.List.{append-nil, nil_from_length}
use Rattle.std.proofs.lemmas.Bool.{lt-ltb, le-ltb, ltb-true, cases_lt, both_ways, and_from, and_parts}
use Rattle.cbor.specs.declared.Major.{Major}
use Rattle.cbor.specs.declared.Major.TheVariants.{Unsigned, Negative, Bytes, Text, Array, Map, Tag, Simple}
use Rattle.cbor.specs.Encoding.{all_bytes, to_bytes, major_number, head}
use Rattle.cbor.specs.Order.{before}
use Rattle.cbor.specs.Prefix.{Any}
use Rattle.cbor.proofs.Heads.{Sized, sized_head, head_shape}
use Rattle.cbor.proofs.Numbers.{to_bytes_bytes}
use Rattle.cbor.proofs.Order.{before_irreflexive}
use Rattle.laws.proofs.Heads.{sized_long}
use Rattle.prefixes.specs.Words.{Apart, Up, Reach, joined, last_up, reach_of_head}
use Rattle.prefixes.specs.Shapes.{HeadFits, HeadWord, BytesOf}
use Rattle.prefixes.proofs.Order.{apart_front, apart_more, apart_not_before, meets}
use Rattle.prefixes.proofs.Words.{free_meets}
use Rattle.prefixes.proofs.Free.{fits_below, head_word_free}

one_add : (m : ℕ) → 1 + m ≡ suc m
one_add m = omega arith

joined_later : (n len m j : ℕ) → j < m → len + j < joined n len m
joined_later n len zero j h = absurd (omega arith)
joined_later n len (suc m) j h = omega arith

joined_first : (n len m : ℕ) → 0 < n → 0 < joined n len m
joined_first n len zero h = h
joined_first n len (suc m) h = omega arith

-- a byte that is smaller than another isn't 255
pub last_up_bound : (j : ℕ) (t u : List ℕ) → Apart j t u → all_bytes u ≡ true → j < last_up t
unfolding Apart last_up all_bytes
last_up_bound j [] u h a = absurd h
last_up_bound j (x ∷ t) [] h a = absurd h
last_up_bound zero (x ∷ t) (y ∷ u) h a =
    let z = ltb-true y 256 (and_parts (ltb y 256) (all_bytes u) a).0 in
    joined_first (cond (ltb x 255) 1 0) 1 (last_up t) (rw (lt-ltb x 255 (omega arith)) (omega arith))
last_up_bound (suc j) (x ∷ t) (y ∷ u) h a =
    let b = last_up_bound j t u h.1 (and_parts (ltb y 256) (all_bytes u) a).1 in
    let c = joined_later (cond (ltb x 255) 1 0) 1 (last_up t) j b in
    omega arith

-- strings of one length
pub same_length_apart : (t u : List ℕ) → length t ≡ length u → before t u ≡ true → (j : ℕ) × Apart j t u
same_length_apart t u e l = elim (meets t u) [
  | inl h ↦ h
  | inr (inl (j, h)) ↦ absurd (both_ways _ (apart_not_before j t u h) l)
  | inr (inr (inl (r, h))) ↦
      let z : r ≡ [] = nil_from_length r (omega (arith, ap length h, length-append t r)) in
      absurd (before_irreflexive t (ap (λ x. before t x) (sym (h ∙ ap (λ y. t ++ y) z ∙ append-nil t)) ∙ l))
  | inr (inr (inr (r, h))) ↦
      let z : r ≡ [] = nil_from_length r (omega (arith, ap length h, length-append u r)) in
      absurd (before_irreflexive u (ap (λ x. before x u) (sym (h ∙ ap (λ y. u ++ y) z ∙ append-nil u)) ∙ l))
]

up_more : (x : ℕ) (t : List ℕ) (m : ℕ) → x < 256 → all_bytes t ≡ true → Up (BytesOf (length t)) t m → Up (BytesOf (suc (length t))) (x ∷ t) (joined (cond (ltb x 255) 1 0) 1 m)
unfolding Apart all_bytes
up_more x t zero h a u = elim (cases_lt x 255) [
  | inl l ↦ rw (lt-ltb x 255 l) (suc x ∷ t, (refl, and_from (ltb (suc x) 256) (all_bytes t) (lt-ltb (suc x) 256 (omega arith)) a), (let z : x < suc x = omega arith in z))
  | inr l ↦ rw (le-ltb x 255 l) tt
]
up_more x t (suc m) h a (v, (e, b), p) = rw (one_add m) (x ∷ v, (ap suc e, and_from (ltb x 256) (all_bytes v) (lt-ltb x 256 h) b), (refl, p))

bytes_up : (t : List ℕ) → all_bytes t ≡ true → Up (BytesOf (length t)) t (last_up t)
unfolding last_up all_bytes
bytes_up [] a = tt
bytes_up (x ∷ t) a =
    let p = and_parts (ltb x 256) (all_bytes t) a in
    up_more x t (last_up t) (ltb-true x 256 p.0) p.1 (bytes_up t p.1)

pub bytes_reach : (t : List ℕ) → all_bytes t ≡ true → Reach (BytesOf (length t)) t (last_up t)
bytes_reach t a = ((λ v (e, b) l. let (j, h) = same_length_apart t v (sym e) l in (j, last_up_bound j t v h b, h)), bytes_up t a)

-- the number in so many bytes, one larger
snoc_up : (xs : List ℕ) (b : ℕ) → b < 255 → last_up (xs ++ b ∷ []) ≡ suc (length xs)
unfolding last_up
snoc_up [] b h = rw (lt-ltb b 255 h)
snoc_up (x ∷ xs) b h = rw (snoc_up xs b h) (omega arith)

snoc_same : (xs : List ℕ) (b : ℕ) → 255 ≤ b → last_up (xs ++ b ∷ []) ≡ last_up xs
unfolding last_up
snoc_same [] b h = rw (le-ltb b 255 h)
snoc_same (x ∷ xs) b h = rw (snoc_same xs b h)

pub counts_up : (w n m : ℕ) → n < 256 ^ w → last_up (to_bytes w n) ≡ suc m → (suc n < 256 ^ w) × Apart m (to_bytes w n) (to_bytes w (suc n))
unfolding to_bytes last_up Apart
counts_up zero n m h e = absurd (omega arith)
counts_up (suc w) n m h e = elim (cases_lt (n % 256) 255) [
  | inl a ↦
      let p : suc n / 256 ≡ n / 256 = omega arith in
      let q : suc n % 256 ≡ suc (n % 256) = omega arith in
      let l = snoc_up (to_bytes w (n / 256)) (n % 256) a in
      let k : length (to_bytes w (n / 256)) + 0 ≡ m = omega arith in (
        rw (pow-suc 256 w) (let z = rw (pow-suc 256 w) at h in omega arith),
        rw (p, q)
            (subst (λ y. Apart y (to_bytes w (n / 256) ++ n % 256 ∷ []) (to_bytes w (n / 256) ++ suc (n % 256) ∷ [])) k
            (apart_front (to_bytes w (n / 256)) 0 (n % 256 ∷ []) (suc (n % 256) ∷ []) (let z : n % 256 < suc (n % 256) = omega arith in z))),
      )
  | inr a ↦
      let p : suc n / 256 ≡ suc (n / 256) = omega arith in
      let l = snoc_same (to_bytes w (n / 256)) (n % 256) a in
      let h' : n < 256 ^ w * 256 = rw (pow-suc 256 w) at h in
      let (b, c) = counts_up w (n / 256) m (div_below n 256 (256 ^ w) (omega arith) h') (sym l ∙ e) in
      (rw (pow-suc 256 w) (omega arith), rw p (apart_more m (to_bytes w (n / 256)) (to_bytes w (suc (n / 256))) (n % 256 ∷ []) (suc n % 256 ∷ []) c))
]

-- the first byte of a head, and that bytes follow it
first_low : (d : ℕ) (k : Major) (n s w : ℕ) → HeadFits d k n → Sized n s w → 32 * major_number k + s ≤ 248
first_low d Unsigned n s w f z = omega arith
first_low d Negative n s w f z = omega arith
first_low d Bytes n s w f z = omega arith
first_low d Text n s w f z = omega arith
first_low d Array n s w f z = omega arith
first_low d Map n s w f z = omega arith
first_low d Tag n s w f z = omega arith
first_low d Simple n s w f z = omega arith

-- one larger, in as many bytes, is as short as can be
sized_more : (n s w : ℕ) → Sized n s w → suc n < 256 ^ w → 0 < w → Sized (suc n) s w
sized_more n s w (inl (a, p, q)) l h = absurd (omega arith)
sized_more n s w (inr (inl (a, b, p, q))) l h = inr (inl (omega arith, rw q at l, p, q))
sized_more n s w (inr (inr (inl (a, b, p, q)))) l h = inr (inr (inl (omega arith, rw q at l, p, q)))
sized_more n s w (inr (inr (inr (inl (a, b, p, q))))) l h = inr (inr (inr (inl (omega arith, rw q at l, p, q))))
sized_more n s w (inr (inr (inr (inr (a, b, p, q))))) l h = inr (inr (inr (inr (omega arith, rw q at l, p, q))))

pub sized_below : (n s w : ℕ) → Sized n s w → n < 18446744073709551616
sized_below n s w z = omega arith

fits_more : (d : ℕ) (k : Major) (n s w : ℕ) → HeadFits d k n → Sized n s w → 0 < w → Sized (suc n) s w → HeadFits d k (suc n)
fits_more d Unsigned n s w f z h y = sized_below (suc n) s w y
fits_more d Negative n s w f z h y = sized_below (suc n) s w y
fits_more d Bytes n s w f z h y = sized_below (suc n) s w y
fits_more d Text n s w f z h y = sized_below (suc n) s w y
fits_more d Array n s w f z h y = (sized_below (suc n) s w y, f.1)
fits_more d Map n s w f z h y = (sized_below (suc n) s w y, f.1)
fits_more d Tag n s w f z h y = (sized_below (suc n) s w y, f.1)
fits_more d Simple n s w f z h y = inr (omega arith)

sized_room : (n s w : ℕ) → Sized n s w → 0 < w → n < 256 ^ w
sized_room n s w z h = let (least, form, lo, hi) = sized_long n s w z (omega arith) in hi

-- a head parts from a larger one within its reach
parts_within : (b : ℕ) (t : List ℕ) (c : ℕ) (u : List ℕ) (k : ℕ) → c ≤ 248 → all_bytes u ≡ true → Apart k (b ∷ t) (c ∷ u) → k < reach_of_head (b ∷ t)
unfolding Apart reach_of_head
parts_within b t c u zero l a h = joined_first (cond (ltb b 248) 1 0) 1 (last_up t) (rw (lt-ltb b 248 (omega arith)) (omega arith))
parts_within b t c u (suc k) l a h = let z = joined_later (cond (ltb b 248) 1 0) 1 (last_up t) k (last_up_bound k t u h.1 a) in omega arith

head_within : (d : ℕ) (i j : Major × ℕ) (k : ℕ) → HeadFits d i.0 i.1 → HeadFits d j.0 j.1
    → Apart k (head (major_number i.0) i.1) (head (major_number j.0) j.1) → k < reach_of_head (head (major_number i.0) i.1)
head_within d (a, n) (b, m) k f g h =
    let (s, w, p, y) = head_shape (major_number a) n (fits_below d a n f) in
    let (t, x, q, z) = head_shape (major_number b) m (fits_below d b m g) in
    subst (λ e. k < reach_of_head e) (sym p)
    (parts_within (32 * major_number a + s) (to_bytes w n) (32 * major_number b + t) (to_bytes x m) k (first_low d b m t x g z) (to_bytes_bytes x m)
    (subst (λ e. Apart k e ((32 * major_number b + t) ∷ to_bytes x m)) p (subst (λ e. Apart k (head (major_number a) n) e) q h)))

some_wide : (w n m : ℕ) → last_up (to_bytes w n) ≡ suc m → 0 < w
unfolding last_up to_bytes
some_wide zero n m e = absurd (omega arith)
some_wide (suc w) n m e = omega arith

-- and one parts from it in the last byte of that
parts_up : (d : ℕ) (k : Major) (n s w : ℕ) → HeadFits d k n → Sized n s w → (m : ℕ) → last_up (to_bytes w n) ≡ m
    → Up (Any (HeadWord d)) ((32 * major_number k + s) ∷ to_bytes w n) (joined (cond (ltb (32 * major_number k + s) 248) 1 0) 1 m)
unfolding Apart to_bytes
parts_up d k n s w f z zero e = elim (cases_lt (32 * major_number k + s) 248) [
  | inl l ↦ rw (lt-ltb (32 * major_number k + s) 248 l) (head 7 255, ((Simple, 255), (refl, inr (omega arith))), l)
  | inr l ↦ rw (le-ltb (32 * major_number k + s) 248 l) tt
]
parts_up d k n s w f z (suc m) e =
    let h : 0 < w = some_wide w n m e in
    let (l, a) = counts_up w n m (sized_room n s w z h) e in
    let y = sized_more n s w z l h in
    rw (one_add m)
    (head (major_number k) (suc n), ((k, suc n), (refl, fits_more d k n s w f z h y)), subst (λ v. Apart (suc m) ((32 * major_number k + s) ∷ to_bytes w n) v) (sym (sized_head (major_number k) (suc n) s w y)) (refl, a))

pub heads_reach : (d : ℕ) (k : Major) (n : ℕ) → HeadFits d k n → Reach (Any (HeadWord d)) (head (major_number k) n) (reach_of_head (head (major_number k) n))
unfolding reach_of_head
heads_reach d k n f = (
  (λ v (j, (q, g)) l. elim (free_meets (HeadWord d) (head_word_free d) (k, n) j (head (major_number k) n) v (refl, f) (q, g)) [
    | inl (p, e) ↦ absurd (before_irreflexive v (ap (λ x. before x v) (sym e) ∙ l))
    | inr (inl (i, a)) ↦ (i, head_within d (k, n) j i f g (subst (λ x. Apart i (head (major_number k) n) x) q a), a)
    | inr (inr (i, a)) ↦ absurd (both_ways _ (apart_not_before i (head (major_number k) n) v a) l)
  ]),
  (let (s, w, p, z) = head_shape (major_number k) n (fits_below d k n f) in
      subst (λ e. Up (Any (HeadWord d)) e (reach_of_head e)) (sym p) (parts_up d k n s w f z (last_up (to_bytes w n)) refl)),
)
