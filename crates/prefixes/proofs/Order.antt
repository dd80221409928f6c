-- The order of byte strings by the place where they part.
use Rattle.std.proofs.Common.{◌≡◌, ℕ, zero, suc, ◌+◌, ◌<◌, ◌≤◌, true, false, ◌⊎◌, List, [], ◌∷◌, ◌++◌, length, sym, refl, ◌∙◌, inl, inr, suc-add, zero-add, arith}
use Rattle.std.proofs.lemmas.Bool.{lt-ltb, le-ltb, eq-eqb, ne_eqb, cases_order}
use Rattle.cbor.specs.Order.{before}
use Rattle.prefixes.specs.Words.{Apart}

-- after the same bytes
pub apart_front : (p : List ℕ) (j : ℕ) (ls ks : List ℕ) → Apart j ls ks → Apart (length p + j) (p ++ ls) (p ++ ks)
unfolding Apart
apart_front [] j ls ks h = rw (zero-add j) h
apart_front (x ∷ p) j ls ks h = rw (suc-add (length p) j) (refl, apart_front p j ls ks h)

-- whatever comes after
pub apart_more : (j : ℕ) (ls ks us vs : List ℕ) → Apart j ls ks → Apart j (ls ++ us) (ks ++ vs)
unfolding Apart
apart_more j [] ks us vs h = absurd h
apart_more j (l ∷ ls) [] us vs h = absurd h
apart_more zero (l ∷ ls) (k ∷ ks) us vs h = h
apart_more (suc j) (l ∷ ls) (k ∷ ks) us vs h = (h.0, apart_more j ls ks us vs h.1)

pub apart_before : (j : ℕ) (ls ks : List ℕ) → Apart j ls ks → before ls ks ≡ true
unfolding Apart before
apart_before j [] ks h = absurd h
apart_before j (l ∷ ls) [] h = absurd h
apart_before zero (l ∷ ls) (k ∷ ks) h = rw (lt-ltb l k h)
apart_before (suc j) (l ∷ ls) (k ∷ ks) h = rw (le-ltb l k (omega arith), eq-eqb l k h.0) (apart_before j ls ks h.1)

pub apart_not_before : (j : ℕ) (ls ks : List ℕ) → Apart j ks ls → before ls ks ≡ false
unfolding Apart before
apart_not_before j ls [] h = absurd h
apart_not_before j [] (k ∷ ks) h = absurd h
apart_not_before zero (l ∷ ls) (k ∷ ks) h = rw (le-ltb l k (omega arith), ne_eqb l k (λ e. omega arith))
apart_not_before (suc j) (l ∷ ls) (k ∷ ks) h = rw (le-ltb l k (omega arith), eq-eqb l k (sym h.0)) (apart_not_before j ls ks h.1)

-- two strings part, or one begins with the other
abbrev pub Met : List ℕ → List ℕ → Type 0
Met ls ks = ((j : ℕ) × Apart j ls ks) ⊎ (((j : ℕ) × Apart j ks ls) ⊎ (((r : List ℕ) × (ks ≡ ls ++ r)) ⊎ ((r : List ℕ) × (ls ≡ ks ++ r))))

met_more : (x y : ℕ) (ls ks : List ℕ) → x ≡ y → Met ls ks → Met (x ∷ ls) (y ∷ ks)
unfolding Apart
met_more x y ls ks e (inl (j, h)) = inl (suc j, (e, h))
met_more x y ls ks e (inr (inl (j, h))) = inr (inl (suc j, (sym e, h)))
met_more x y ls ks e (inr (inr (inl (r, h)))) = inr (inr (inl (r, rw (e, h))))
met_more x y ls ks e (inr (inr (inr (r, h)))) = inr (inr (inr (r, rw (e, h))))

pub meets : (ls ks : List ℕ) → Met ls ks
unfolding Apart
meets [] ks = inr (inr (inl (ks, refl)))
meets (l ∷ ls) [] = inr (inr (inr (l ∷ ls, refl)))
meets (l ∷ ls) (k ∷ ks) =
    elim (cases_order l k) [ inl e ↦ met_more l k ls ks e (meets ls ks) | inr (inl h) ↦ inl (0, h) | inr (inr h) ↦ inr (inl (0, h)) ]

-- the earlier of two places decides
pub apart_between : (i j : ℕ) (ls ks ms : List ℕ) → Apart j ls ks → Apart i ls ms → i < j → Apart i ks ms
unfolding Apart
apart_between i j [] ks ms h g l = absurd h
apart_between i j (x ∷ ls) [] ms h g l = absurd h
apart_between i j (x ∷ ls) (k ∷ ks) [] h g l = absurd g
apart_between i zero (x ∷ ls) (k ∷ ks) (m ∷ ms) h g l = absurd (omega arith)
apart_between zero (suc j) (x ∷ ls) (k ∷ ks) (m ∷ ms) h g l = omega arith
apart_between (suc i) (suc j) (x ∷ ls) (k ∷ ks) (m ∷ ms) h g l = (sym h.0 ∙ g.0, apart_between i j ls ks ms h.1 g.1 (omega arith))

pub cons_both : (a b : ℕ) (xs ys : List ℕ) → a ≡ b → xs ≡ ys → a ∷ xs ≡ b ∷ ys
cons_both a b xs ys p q = cc

-- what stands before a place stands there in both
pub apart_starts : (j : ℕ) (q e ks : List ℕ) → Apart j (q ++ e) ks → length q ≤ j → (r : List ℕ) × (ks ≡ q ++ r)
unfolding Apart
apart_starts j [] e ks h l = (ks, refl)
apart_starts j (x ∷ q) e [] h l = absurd h
apart_starts zero (x ∷ q) e (k ∷ ks) h l = absurd (omega arith)
apart_starts (suc j) (x ∷ q) e (k ∷ ks) h l =
    let p = apart_starts j q e ks h.1 (omega arith) in
    (p.0, cons_both k x ks (q ++ p.0) (sym h.0) p.1)

-- strings with the same beginning don't part in it
pub apart_past : (j : ℕ) (q e r : List ℕ) → Apart j (q ++ e) (q ++ r) → length q ≤ j
unfolding Apart
apart_past j [] e r h = omega arith
apart_past zero (x ∷ q) e r h = absurd (omega arith)
apart_past (suc j) (x ∷ q) e r h = omega (arith, apart_past j q e r h.1)

pub apart_place : (j : ℕ) (ls ks : List ℕ) → Apart j ls ks → j < length ls
unfolding Apart
apart_place j [] ks h = absurd h
apart_place j (l ∷ ls) [] h = absurd h
apart_place zero (l ∷ ls) (k ∷ ks) h = omega arith
apart_place (suc j) (l ∷ ls) (k ∷ ks) h = omega (arith, apart_place j ls ks h.1)

-- a common beginning tells nothing
pub before_common : (p ls ks : List ℕ) → before (p ++ ls) (p ++ ks) ≡ before ls ks
unfolding before
before_common [] ls ks = refl
before_common (x ∷ p) ls ks = rw (le-ltb x x (omega arith), eq-eqb x x refl) (before_common p ls ks)
