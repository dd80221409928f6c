-- One word after another, and where bytes cease to begin one.
use Rattle.std.proofs.Common.{◌≡◌, ℕ, suc, ◌+◌, ◌<◌, ◌≤◌, ◌⊎◌, List, [], ◌∷◌, ◌++◌, length, take, drop, sym, refl, ap, ◌∙◌, subst, inl, inr, append_assoc, arith, length-append, take-append-drop, take-add}
use Rattle.std.proofs.lemmas.List.{append-nil, take_at, drop_at}
use Rattle.cbor.specs.Prefix.{Any, PrefixFree, Then, Stops}

-- two beginnings of one string: one begins with the other
pub two_fronts : (u v r s : List ℕ) → u ++ r ≡ v ++ s → ((e : List ℕ) × (v ≡ u ++ e) × (r ≡ e ++ s)) ⊎ ((e : List ℕ) × (u ≡ v ++ e) × (s ≡ e ++ r))
two_fronts [] v r s h = inl (v, refl, h)
two_fronts (x ∷ u) [] r s h = inr (x ∷ u, refl, sym h)
two_fronts (x ∷ u) (y ∷ v) r s h =
    let p : x ≡ y = cc in
    let t : u ++ r ≡ v ++ s = cc in
    elim (two_fronts u v r s t) [
      | inl (e, a, b) ↦ inl (e, (let c : y ∷ v ≡ x ∷ (u ++ e) = cc in c), b)
      | inr (e, a, b) ↦ inr (e, (let c : x ∷ u ≡ y ∷ (v ++ e) = cc in c), b)
    ]

-- a first word is one only
pub free_two : {I : Type 0} (A : I → List ℕ → Type 0) → PrefixFree A → (i j : I) (u v r s : List ℕ) → A i u → A j v → u ++ r ≡ v ++ s → (i ≡ j) × (u ≡ v) × (r ≡ s)
free_two A free i j u v r s a b h =
    elim (two_fronts u v r s h) [
      | inl (e, p, t) ↦
          let f = free i j u e a (rw p at b) in
          let z = f.1 in
          (f.0, sym (append-nil u) ∙ ap (λ x. u ++ x) (sym z) ∙ sym p, t ∙ ap (λ x. x ++ s) z)
      | inr (e, p, t) ↦
          let f = free j i v e b (rw p at a) in
          let z = f.1 in
          (sym f.0, p ∙ ap (λ x. v ++ x) z ∙ append-nil v, sym (t ∙ ap (λ x. x ++ r) z))
    ]

module _ {I : Type 0} (A B : I → List ℕ → Type 0) (free : PrefixFree A) where
  -- bytes that begin two words begin the first, or have it whole
  first_or_more : (q r : List ℕ) → Then A B (q ++ r) → ((u rest : List ℕ) → Any A u → q ≡ u ++ rest → ⊥) → (i : I) × (e : List ℕ) × (v : List ℕ) × A i (q ++ e) × (r ≡ e ++ v)
  first_or_more q r (i, u, v, a, b, h) none =
      elim (two_fronts q u r v h) [
        | inl (e, p, t) ↦ (i, e, v, rw p at a, t)
        | inr (e, p, t) ↦ absurd (none u e (i, a) p)
      ]

  -- they stop in the first word
  pub stops_first : ((i : I) (u : List ℕ) → A i u → (v : List ℕ) × B i v) → (q : List ℕ) (p n : ℕ) → Stops (Any A) q p n → Stops (Then A B) q p n
  stops_first on q p n s = record {
    unread = λ w r (i, u, v, a, b, e) h. s.unread u (v ++ r) (i, a) (h ∙ rw e (append_assoc u v r));
    within = s.within;
    begins =
        (let (r, (i, a)) = s.begins in
        let (v, b) = on i (take p q ++ r) a in
        (r ++ v, (i, take p q ++ r, v, a, b, sym (append_assoc (take p q) r v))));
    ends = λ h (r, t).
        let none = λ (u rest : List ℕ) (a : Any A u) (e : take (suc p) q ≡ u ++ rest). s.unread u (rest ++ drop (suc p) q) a (sym (take-append-drop (suc p) q) ∙ ap (λ x. x ++ drop (suc p) q) e ∙ append_assoc u rest (drop (suc p) q)) in
        let (i, e, v, a, b) = first_or_more (take (suc p) q) r t none in
        s.ends h (e, (i, a));
    longer = λ r t.
        let (i, e, v, a, b) = first_or_more q r t s.unread in
        omega (arith, s.longer e (i, a), length-append q e, length-append q r, ap length b, length-append e v);
  }

  -- what begins two words after the first begins the second
  pub second_of : (i : I) (u q r : List ℕ) → A i u → Then A B ((u ++ q) ++ r) → B i (q ++ r)
  second_of i u q r a (j, x, v, c, b, e) =
      let f = free_two A free i j u x (q ++ r) v a c (sym (append_assoc u q r) ∙ e) in
      subst (λ k. B k (q ++ r)) (sym f.0) (rw (sym f.2) at b)

  -- they stop after the first word
  pub stops_later : (i : I) (u q : List ℕ) (p n : ℕ) → A i u → Stops (B i) q p n → Stops (Then A B) (u ++ q) (length u + p) (length u + n)
  stops_later i u q p n a s = record {
    unread = λ w r (j, x, v, c, b, e) h.
        let f = free_two A free i j u x q (v ++ r) a c (h ∙ rw e (append_assoc x v r)) in
        s.unread v r (subst (λ k. B k v) (sym f.0) b) f.2;
    within = rw (length-append u q) (let z = s.within in omega arith);
    begins =
        (let (r, b) = s.begins in
        rw (take_past u q p) (r, (i, u, take p q ++ r, a, b, append_assoc u (take p q) r)));
    ends = λ h (r, t).
        let l : p < length q = (let z = length-append u q in omega arith) in
        let e : take (suc (length u + p)) (u ++ q) ≡ u ++ take (suc p) q = ap (λ k. take k (u ++ q)) (let z : suc (length u + p) ≡ length u + suc p = omega arith in z) ∙ take_past u q (suc p) in
        s.ends l (r, second_of i u (take (suc p) q) r a (subst (λ x. Then A B (x ++ r)) e t));
    longer = λ r t. omega (arith, s.longer r (second_of i u q r a t), length-append (u ++ q) r, length-append u q, length-append q r);
  }
    where
      take_past : (x y : List ℕ) (k : ℕ) → take (length x + k) (x ++ y) ≡ x ++ take k y
      take_past x y k = take-add (length x) k (x ++ y) ∙ (λ i. take_at x y (length x) refl i ++ take k (drop_at x y (length x) refl i))

-- of a set with the same words
pub stops_same : (V W : List ℕ → Type 0) → ((w : List ℕ) → V w → W w) → ((w : List ℕ) → W w → V w) → (q : List ℕ) (p n : ℕ) → Stops V q p n → Stops W q p n
stops_same V W to from q p n s = record {
  unread = λ u r w e. s.unread u r (from u w) e;
  within = s.within;
  begins = (let (r, v) = s.begins in (r, to (take p q ++ r) v));
  ends = λ h (r, w). s.ends h (r, from (take (suc p) q ++ r) w);
  longer = λ r w. s.longer r (from (q ++ r) w);
}

-- with a lower bound on how long
pub stops_lower : (W : List ℕ → Type 0) (q : List ℕ) (p n m : ℕ) → m ≤ n → Stops W q p n → Stops W q p m
stops_lower W q p n m h s = record {
  unread = s.unread;
  within = s.within;
  begins = s.begins;
  ends = s.ends;
  longer = λ r w. omega (arith, s.longer r w);
}
