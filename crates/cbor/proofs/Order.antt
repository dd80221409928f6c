-- The order of byte strings: bytes that are the same, and a total order.
use Rattle.std.proofs.Common.{◌≡◌, ℕ, ◌<◌, Bool, true, false, ◌&&◌, eqb, ltb, ◌⊎◌, List, [], ◌∷◌, ◌++◌, length, sym, refl, ◌∙◌, inl, inr, arith}
use Rattle.std.proofs.lemmas.Bool.{both_ways, ltb-true, lt-ltb, eqb-true, eq-eqb, and_parts, and_from, or_cases, or_left, or_right, cases_order}
use Rattle.cbor.specs.Order.{same, before}

pub same_refl : (xs : List ℕ) → same xs xs ≡ true
unfolding same
same_refl [] = refl
same_refl (x ∷ xs) = and_from (eqb x x) (same xs xs) (eq-eqb x x refl) (same_refl xs)

pub same_equal : (xs ys : List ℕ) → same xs ys ≡ true → xs ≡ ys
unfolding same
same_equal [] [] h = refl
same_equal [] (y ∷ ys) h = absurd (both_ways false refl h)
same_equal (x ∷ xs) [] h = absurd (both_ways false refl h)
same_equal (x ∷ xs) (y ∷ ys) h =
    let p = and_parts (eqb x y) (same xs ys) h in
    let e = eqb-true x y p.0 in
    let f = same_equal xs ys p.1 in
    cc

-- BEFORE

-- the first bytes tell, or are equal and the others tell
pub before_parts : (x y : ℕ) (xs ys : List ℕ) → before (x ∷ xs) (y ∷ ys) ≡ true → (x < y) ⊎ ((x ≡ y) × (before xs ys ≡ true))
unfolding before
before_parts x y xs ys h = elim (or_cases (ltb x y) (eqb x y && before xs ys) h) [
  | inl a ↦ inl (ltb-true x y a)
  | inr a ↦ (let p = and_parts (eqb x y) (before xs ys) a in inr (eqb-true x y p.0, p.1))
]

pub before_first : (x y : ℕ) (xs ys : List ℕ) → x < y → before (x ∷ xs) (y ∷ ys) ≡ true
unfolding before
before_first x y xs ys h = or_left (ltb x y) (eqb x y && before xs ys) (lt-ltb x y h)

pub before_later : (x y : ℕ) (xs ys : List ℕ) → x ≡ y → before xs ys ≡ true → before (x ∷ xs) (y ∷ ys) ≡ true
unfolding before
before_later x y xs ys e h = or_right (ltb x y) (eqb x y && before xs ys) (and_from (eqb x y) (before xs ys) (eq-eqb x y e) h)

pub before_irreflexive : (xs : List ℕ) → before xs xs ≡ true → ⊥
unfolding before
before_irreflexive [] h = both_ways false refl h
before_irreflexive (x ∷ xs) h = elim (before_parts x x xs xs h) [ inl a ↦ omega arith | inr a ↦ before_irreflexive xs a.1 ]

pub before_transitive : (xs ys zs : List ℕ) → before xs ys ≡ true → before ys zs ≡ true → before xs zs ≡ true
unfolding before
before_transitive [] [] zs h k = absurd (both_ways false refl h)
before_transitive [] (y ∷ ys) [] h k = absurd (both_ways false refl k)
before_transitive [] (y ∷ ys) (z ∷ zs) h k = refl
before_transitive (x ∷ xs) [] zs h k = absurd (both_ways false refl h)
before_transitive (x ∷ xs) (y ∷ ys) [] h k = absurd (both_ways false refl k)
before_transitive (x ∷ xs) (y ∷ ys) (z ∷ zs) h k = elim (before_parts x y xs ys h) [
  | inl a ↦ elim (before_parts y z ys zs k) [ inl b ↦ before_first x z xs zs (omega arith) | inr b ↦ before_first x z xs zs (omega arith) ]
  | inr a ↦ elim (before_parts y z ys zs k) [
    | inl b ↦ before_first x z xs zs (omega arith)
    | inr b ↦ before_later x z xs zs (a.0 ∙ b.0) (before_transitive xs ys zs a.1 b.1)
  ]
]

pub before_total : (xs ys : List ℕ) → (xs ≡ ys) ⊎ ((before xs ys ≡ true) ⊎ (before ys xs ≡ true))
unfolding before
before_total [] [] = inl refl
before_total [] (y ∷ ys) = inr (inl refl)
before_total (x ∷ xs) [] = inr (inr refl)
before_total (x ∷ xs) (y ∷ ys) = elim (cases_order x y) [
  | inl e ↦ elim (before_total xs ys) [
    | inl f ↦ inl (λ i. e i ∷ f i)
    | inr (inl h) ↦ inr (inl (before_later x y xs ys e h))
    | inr (inr h) ↦ inr (inr (before_later y x ys xs (sym e) h))
  ]
  | inr (inl h) ↦ inr (inl (before_first x y xs ys h))
  | inr (inr h) ↦ inr (inr (before_first y x ys xs h))
]

-- what comes before is not the same
pub before_other : (xs ys : List ℕ) → before xs ys ≡ true → same xs ys ≡ false
before_other xs ys h = not_same (same xs ys) refl
  where
    not_same : (b : Bool) → same xs ys ≡ b → b ≡ false
    not_same false e = refl
    not_same true e = absurd (before_irreflexive ys (rw (same_equal xs ys e) at h))

-- a common beginning
pub before_after : (u xs ys : List ℕ) → before xs ys ≡ true → before (u ++ xs) (u ++ ys) ≡ true
before_after [] xs ys h = h
before_after (x ∷ u) xs ys h = before_later x x (u ++ xs) (u ++ ys) refl (before_after u xs ys h)

-- strings of one length that tell by themselves, whatever comes after
pub before_front : (u v xs ys : List ℕ) → length u ≡ length v → before u v ≡ true → before (u ++ xs) (v ++ ys) ≡ true
unfolding before
before_front [] [] xs ys l h = absurd (both_ways false refl h)
before_front [] (y ∷ v) xs ys l h = absurd (omega arith)
before_front (x ∷ u) [] xs ys l h = absurd (omega arith)
before_front (x ∷ u) (y ∷ v) xs ys l h = elim (before_parts x y u v h) [
  | inl a ↦ before_first x y (u ++ xs) (v ++ ys) a
  | inr a ↦ before_later x y (u ++ xs) (v ++ ys) a.0 (before_front u v xs ys (omega arith) a.1)
]
