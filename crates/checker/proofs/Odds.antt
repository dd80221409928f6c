-- Where a key is at odds with the last one, by comparing them.
use Rattle.std.proofs.Common.{◌≡◌, ℕ, slice_range, zero, suc, ◌+◌, ◌-◌, ◌<◌, ◌≤◌, false, ltb, List, [], ◌∷◌, ◌++◌, length, take, drop, Some, None, Option, sym, refl, ap, ◌∙◌, inl, inr, arith, length-append}
use Rattle.std.proofs.lemmas.Bool.{lt-ltb, le-ltb, cases_lt, both_ways}
use Rattle.cbor.proofs.Places.{part_length}
use Rattle.std.proofs.lemmas.List.{append-nil, length-take-le, length-drop, take_all, take-append-le}
use Rattle.std.specs.Bool.{then_some}
use Rattle.std.specs.Option.{SomeIff}
use Rattle.cbor.specs.Order.{before}
use Rattle.cbor.specs.Prefix.{PrefixFree}
use Rattle.items.specs.Comparing.{FirstBefore, DecidedAt}
use Rattle.prefixes.specs.Words.{Apart, Word, Up, Reach, Room}
use Rattle.prefixes.proofs.Order.{apart_before, apart_place}
use Rattle.prefixes.proofs.Words.{free_meets}
use Rattle.prefixes.specs.Walks.{odd_at, odd_next}
use Rattle.prefixes.proofs.Steps.{odd_part}
use Rattle.checker.specs.Keys.{OddOf}

odd_same : (m x b : ℕ) (l q : List ℕ) → x ≡ b → odd_at (suc m) (x ∷ l) (b ∷ q) ≡ odd_next m (odd_at m l q)
unfolding odd_at
odd_same m x b l q e = rw (le-ltb b x (omega arith), le-ltb x b (omega arith))

-- BY WHERE TWO KEYS PART, whatever comes after the next one

pub apart_larger : (m i : ℕ) (l q x : List ℕ) → i < m → Apart i l q → odd_at m l (q ++ x) ≡ []
unfolding Apart odd_at
apart_larger zero i l q x h a = absurd (omega arith)
apart_larger (suc m) i [] q x h a = absurd a
apart_larger (suc m) i (y ∷ l) [] x h a = absurd a
apart_larger (suc m) zero (y ∷ l) (b ∷ q) x h a = rw (le-ltb b y (omega arith), lt-ltb y b a)
apart_larger (suc zero) (suc i) (y ∷ l) (b ∷ q) x h a = absurd (omega arith)
apart_larger (suc (suc m)) (suc i) (y ∷ l) (b ∷ q) x h (e, a) = odd_same (suc m) y b l (q ++ x) e ∙ rw (apart_larger (suc m) i l q x (omega arith) a)

apart_smaller : (m i : ℕ) (l q x : List ℕ) → i < m → Apart i q l → odd_at m l (q ++ x) ≡ i ∷ []
unfolding Apart odd_at
apart_smaller zero i l q x h a = absurd (omega arith)
apart_smaller (suc m) i l [] x h a = absurd a
apart_smaller (suc m) i [] (b ∷ q) x h a = absurd a
apart_smaller (suc m) zero (y ∷ l) (b ∷ q) x h a = rw (lt-ltb b y a)
apart_smaller (suc zero) (suc i) (y ∷ l) (b ∷ q) x h a = absurd (omega arith)
apart_smaller (suc (suc m)) (suc i) (y ∷ l) (b ∷ q) x h (e, a) = odd_same (suc m) y b l (q ++ x) (sym e) ∙ rw (apart_smaller (suc m) i l q x (omega arith) a)

-- the same by an index that decides

decided_apart : (i : ℕ) (xs ys : List ℕ) → i < length xs → DecidedAt i xs ys → Apart i xs ys
unfolding Apart
decided_apart i [] ys h d = absurd (omega arith)
decided_apart zero (x ∷ xs) [] h (e, f) = absurd f
decided_apart (suc i) (x ∷ xs) [] h (e, f) = absurd (let z = ap length e in omega arith)
decided_apart zero (x ∷ xs) (y ∷ ys) h (e, f) = f
decided_apart (suc i) (x ∷ xs) (y ∷ ys) h (e, f) = ((cc), decided_apart i xs ys (omega arith) ((cc), f))

-- the key has the larger byte
pub odd_larger : (i m : ℕ) (l q : List ℕ) → i < m → i < length l → DecidedAt i l q → odd_at m l q ≡ []
odd_larger i m l q h k d = ap (odd_at m l) (sym (append-nil q)) ∙ apart_larger m i l q [] h (decided_apart i l q k d)

-- the key has the smaller byte
odd_smaller : (i m : ℕ) (l q : List ℕ) → i < m → i < length q → DecidedAt i q l → odd_at m l q ≡ i ∷ []
odd_smaller i m l q h k d = ap (odd_at m l) (sym (append-nil q)) ∙ apart_smaller m i l q [] h (decided_apart i q l k d)

-- the key ends before they differ
pub odd_short : (m : ℕ) (l q : List ℕ) → length q < m → take (length q) l ≡ q → odd_at m l q ≡ []
unfolding odd_at
odd_short zero l q h e = absurd (omega arith)
odd_short (suc m) [] q h e = refl
odd_short (suc m) (x ∷ l) [] h e = refl
odd_short (suc zero) (x ∷ l) (b ∷ q) h e = absurd (omega arith)
odd_short (suc (suc m)) (x ∷ l) (b ∷ q) h e =
    let p : x ≡ b = cc in
    let t : take (length q) l ≡ q = cc in
    odd_same (suc m) x b l q p ∙ rw (odd_short (suc m) l q (omega arith) t)

-- they are the same as far as the last key reaches
pub odd_tie : (m : ℕ) (l q : List ℕ) → 0 < m → m ≤ length l → m ≤ length q → take m l ≡ take m q → odd_at m l q ≡ (m - 1) ∷ []
unfolding odd_at
odd_tie zero l q p h k e = absurd (omega arith)
odd_tie (suc m) [] q p h k e = absurd (omega arith)
odd_tie (suc m) (x ∷ l) [] p h k e = absurd (omega arith)
odd_tie (suc zero) (x ∷ l) (b ∷ q) p h k e = let z : x ≡ b = cc in odd_same zero x b l q z
odd_tie (suc (suc m)) (x ∷ l) (b ∷ q) p h k e =
    let z : x ≡ b = cc in
    let t : take (suc m) l ≡ take (suc m) q = cc in
    odd_same (suc m) x b l q z ∙ rw (odd_tie (suc m) l q (omega arith) (omega arith) (omega arith) t) (ap (λ n. n ∷ []) (let y : suc (suc m - 1) ≡ suc (suc m) - 1 = omega arith in y))

-- BY COMPARING

some_after : (xs ys : List ℕ) → FirstBefore xs ys → 0 < length ys
some_after [] [] f = absurd f
some_after [] (y ∷ ys) f = omega arith
some_after (x ∷ xs) [] f = absurd f
some_after (x ∷ xs) (y ∷ ys) f = omega arith

decided_within : (i : ℕ) (xs ys : List ℕ) → DecidedAt i xs ys → i < length ys
decided_within i xs ys (e, f) = (let z = some_after (drop i xs) (drop i ys) f in let y = length-drop i ys in omega arith)

pub odd_by_after : (i : ℕ) (l q : List ℕ) → DecidedAt i q l → OddOf l q (then_some (ltb i (length q)) i)
odd_by_after i l q d =
    let k = decided_within i q l d in
    elim (cases_lt i (length q)) [ inl h ↦ rw (lt-ltb i (length q) h) (odd_smaller i (length l) l q k h d, k) | inr h ↦ rw (le-ltb i (length q) h) (at_end h k d) ]
  where
    at_end : length q ≤ i → i < length l → DecidedAt i q l → odd_at (length l) l q ≡ []
    at_end h k (e, f) =
        let a : q ≡ take i l = sym (take_all i q h) ∙ e in
        let b : length q ≡ i = ap length a ∙ length-take-le i l (omega arith) in
        odd_short (length l) l q (omega arith) (ap (λ n. take n l) b ∙ sym a)

-- they are the same as far as that
abbrev pub Ties : List ℕ → List ℕ → Type 0
Ties l q = (length l ≤ length q) × (take (length l) q ≡ l)

pub ties_before : (i : ℕ) (l q : List ℕ) → length l ≤ i → DecidedAt i l q → Ties l q
ties_before i l q h (e, f) =
    let k = decided_within i l q (e, f) in
    let a : l ≡ take i q = sym (take_all i l h) ∙ e in
    let b : length l ≡ i = ap length a ∙ length-take-le i q (omega arith) in
    (omega arith, ap (λ n. take n q) b ∙ sym a)

pub ties_same : (l q : List ℕ) → l ≡ q → Ties l q
ties_same l q e = (omega (arith, ap length e), ap (λ n. take n q) (ap length e) ∙ take_all (length q) q (omega arith) ∙ sym e)

odd_none : (m : ℕ) (l q : List ℕ) → m ≡ 0 → odd_at m l q ≡ []
unfolding odd_at
odd_none m l q e = rw e

pub odd_by_tie : (l q : List ℕ) (r : Option ℕ) → Ties l q → SomeIff r (1 ≤ length l) (length l - 1) → OddOf l q r
odd_by_tie l q (Some j) (h, e) (k, f) =
    (odd_tie (length l) l q k (omega arith) h (take_all (length l) l (omega arith) ∙ sym e) ∙ ap (λ n. n ∷ []) (sym f), omega arith)
odd_by_tie l q None t none = odd_none (length l) l q (elim (cases_lt 0 (length l)) [ inl k ↦ absurd (none k) | inr k ↦ (let z : length l ≡ 0 = omega arith in z) ])

-- AT PLACES

-- where the bytes from a place on are at odds with those of a key from another one on, as far as it reaches
abbrev pub OddTold : List ℕ → ℕ → ℕ → ℕ → Option ℕ → Type 0
OddTold bs last reach at (Some j) = (odd_at reach (drop last bs) (drop at bs) ≡ j ∷ []) × (j < reach)
OddTold bs last reach at None = odd_at reach (drop last bs) (drop at bs) ≡ []

module _ (bs : List ℕ) (last reach at : ℕ) (h : last + reach ≤ length bs) where
  reached_length : length (slice_range bs last (last + reach)) ≡ reach
  reached_length = part_length bs last (last + reach) (omega arith) h ∙ (let z : last + reach - last ≡ reach = omega arith in z)

  odd_moved : (q : List ℕ) → odd_at (length (slice_range bs last (last + reach))) (slice_range bs last (last + reach)) q ≡ odd_at reach (drop last bs) q
  odd_moved q = ap (λ m. odd_at m (slice_range bs last (last + reach)) q) reached_length ∙ odd_part bs last (last + reach - last) reach q (omega arith) (omega arith)

  pub odd_placed : (r : Option ℕ) → OddOf (slice_range bs last (last + reach)) (drop at bs) r → OddTold bs last reach at r
  odd_placed (Some j) (e, l) = (sym (odd_moved (drop at bs)) ∙ e, (let z = reached_length in omega arith))
  odd_placed None e = sym (odd_moved (drop at bs)) ∙ e

-- BY WHERE TWO KEYS PART, when one comes after the other

apart_tie : (m i : ℕ) (l q x : List ℕ) → 0 < m → m ≤ i → Apart i q l → odd_at m l (q ++ x) ≡ (m - 1) ∷ []
unfolding Apart
apart_tie zero i l q x p h a = absurd (omega arith)
apart_tie (suc m) i l [] x p h a = absurd a
apart_tie (suc m) i [] (b ∷ q) x p h a = absurd a
apart_tie (suc m) zero (y ∷ l) (b ∷ q) x p h a = absurd (omega arith)
apart_tie (suc zero) (suc i) (y ∷ l) (b ∷ q) x p h (e, a) = odd_same zero y b l (q ++ x) (sym e)
apart_tie (suc (suc m)) (suc i) (y ∷ l) (b ∷ q) x p h (e, a) =
    odd_same (suc m) y b l (q ++ x) (sym e) ∙ rw (apart_tie (suc m) i l q x (omega arith) (omega arith) a) (ap (λ n. n ∷ []) (let z : suc (suc m - 1) ≡ suc (suc m) - 1 = omega arith in z))

reach_long : (W : List ℕ → Type 0) (l : List ℕ) (m : ℕ) → Up W l m → m ≤ length l
reach_long W l zero u = omega arith
reach_long W l (suc m) (v, w, a) = (let z = apart_place m l v a in omega arith)

-- a word that does not come after another, which one does come after, is at odds with it
pub odd_there : (W : List ℕ → Type 0) → PrefixFree (Word W) → (l k x : List ℕ) (m n : ℕ) → W l → W k → Reach W l m → Room W l (suc n) → false ≡ before l k → (j : ℕ) × (odd_at m l (k ++ x) ≡ j ∷ [])
unfolding Room
odd_there W free l k x m n a b (within, up) (v, w, lv, more) e =
    let (i0, h, _) = within v w lv in
    let c = reach_long W l m up in
    elim (free_meets (Word W) free l k l k (refl, a) (refl, b)) [
      | inl (p, q) ↦ (m - 1, odd_tie m l (k ++ x) (omega arith) c (omega (arith, length-append k x, ap length q)) (sym (take-append-le m l x c) ∙ ap (λ y. take m (y ++ x)) q))
      | inr (inl (i, g)) ↦ absurd (both_ways (before l k) (sym e) (apart_before i l k g))
      | inr (inr (i, g)) ↦ elim (cases_lt i m) [ inl o ↦ (i, apart_smaller m i l k x o g) | inr o ↦ (m - 1, apart_tie m i l k x (omega arith) o g) ]
    ]
