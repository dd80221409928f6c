-- One word after another: what is told of them, and where they can be raised.
use Rattle.std.proofs.Common.{◌≡◌, ℕ, zero, suc, ◌+◌, true, ◌⊎◌, List, [], ◌∷◌, ◌++◌, length, sym, refl, ap, ◌∙◌, subst, inl, inr, append_assoc, arith, length-append}
use Rattle.std.proofs.lemmas.List.{append-nil}
use Rattle.std.proofs.lemmas.Bool.{both_ways}
use Rattle.cbor.specs.Order.{before}
use Rattle.cbor.specs.Prefix.{Begins, Any, PrefixFree, Then}
use Rattle.cbor.proofs.Words.{two_fronts, free_two, second_of}
use Rattle.prefixes.specs.Words.{Apart, Word, WrongAt, Unread, Up, Reach, joined}
use Rattle.prefixes.proofs.Order.{apart_front, apart_more, apart_before, apart_not_before, meets, apart_place, before_common}

-- what begins with more begins with less
pub begins_less : (W : List ℕ → Type 0) (q r : List ℕ) → Begins W (q ++ r) → Begins W q
begins_less W q r (s, w) = (r ++ s, rw (append_assoc q r s) at w)

pub wholly : (W : List ℕ → Type 0) (w : List ℕ) → W w → Begins W w
wholly W w h = ([], rw (append-nil w) h)

-- two first words are the same, or part
pub free_meets : {I : Type 0} (A : I → List ℕ → Type 0) → PrefixFree A → (i j : I) (u v : List ℕ) → A i u → A j v → ((i ≡ j) × (u ≡ v)) ⊎ (((k : ℕ) × Apart k u v) ⊎ ((k : ℕ) × Apart k v u))
free_meets A free i j u v a b =
    elim (meets u v) [
      | inl h ↦ inr (inl h)
      | inr (inl h) ↦ inr (inr h)
      | inr (inr (inl (r, h))) ↦ let f = free_two A free i j u v r [] a b (sym h ∙ sym (append-nil v)) in inl (f.0, f.1)
      | inr (inr (inr (r, h))) ↦ let f = free_two A free i j u v [] r a b (append-nil u ∙ h) in inl (f.0, f.1)
    ]

up_on : {I : Type 0} (A B : I → List ℕ → Type 0) (on : (i : I) (u : List ℕ) → A i u → (v : List ℕ) × B i v) (u v : List ℕ) (n : ℕ) → Up (Any A) u n → Up (Then A B) (u ++ v) n
up_on A B on u v zero up = tt
up_on A B on u v (suc j) (x, (i, a), h) = let b = on i x a in (x ++ b.0, (i, x, b.0, a, b.1, refl), apart_more j u x v b.0 h)

module _ {I : Type 0} (A B : I → List ℕ → Type 0) (free : PrefixFree A) (on : (i : I) (u : List ℕ) → A i u → (v : List ℕ) × B i v) where
  -- a first word begins the two
  pub then_starts : (q : List ℕ) → Begins (Any A) q → Begins (Then A B) q
  then_starts q (r, (i, a)) =
      let b = on i (q ++ r) a in
      (r ++ b.0, (i, q ++ r, b.0, a, b.1, sym (append_assoc q r b.0)))

  -- after a first word
  pub then_goes_on : (i : I) (u q : List ℕ) → A i u → Begins (B i) q → Begins (Then A B) (u ++ q)
  then_goes_on i u q a (r, b) = (r, (i, u, q ++ r, a, b, append_assoc u q r))

  -- of bytes after a first word, that begin the two
  pub then_inner : (i : I) (u q : List ℕ) → A i u → Begins (Then A B) (u ++ q) → Begins (B i) q
  then_inner i u q a (r, t) = (r, second_of A B free i u q r a t)

  -- what begins the two begins the first, or is a first word and more
  pub then_parts : (q : List ℕ) → Begins (Then A B) q → Begins (Any A) q ⊎ ((i : I) × (u : List ℕ) × (e : List ℕ) × A i u × (q ≡ u ++ e))
  then_parts q (r, (i, u, v, a, b, e)) =
      elim (two_fronts q u r v e) [
        | inl (s, p, t) ↦ inl (s, (i, rw p at a))
        | inr (s, p, t) ↦ inr (i, u, s, a, p)
      ]

  -- no first word, so none
  pub then_unread : (q : List ℕ) → Unread (Any A) q → Unread (Then A B) q
  then_unread q n w r (i, u, v, a, b, e) h = n u (v ++ r) (i, a) (h ∙ rw e (append_assoc u v r))

  pub then_unread_on : (i : I) (u q : List ℕ) → A i u → Unread (B i) q → Unread (Then A B) (u ++ q)
  then_unread_on i u q a n w r (j, u', v, a', b, e) h =
      let f = free_two A free i j u u' q (v ++ r) a a' (h ∙ rw e (append_assoc u' v r)) in
      n v r (subst (λ k. B k v) (sym f.0) b) f.2

  -- wrong in the first
  pub then_wrong : (q : List ℕ) (p : ℕ) → Unread (Any A) q → WrongAt (Any A) q p → WrongAt (Then A B) q p
  then_wrong q p Free-of (u, b, v, l, e, c, n) = (
    u,
    b,
    v,
    l,
    e,
    then_starts u c,
    λ z. elim (then_parts (u ++ b ∷ []) z) [ inl s ↦ n s | inr (i, x, y, a, h) ↦ Free-of x (y ++ v) (i, a) (e ∙ sym (append_assoc u (b ∷ []) v) ∙ ap (λ k. k ++ v) h ∙ append_assoc x y v) ],
  )

  -- wrong in the second
  pub then_wrong_on : (i : I) (u q : List ℕ) (p : ℕ) → A i u → WrongAt (B i) q p → WrongAt (Then A B) (u ++ q) (length u + p)
  then_wrong_on i u q p a (s, b, v, l, e, c, n) = (
    u ++ s,
    b,
    v,
    length-append u s ∙ ap (λ k. length u + k) l,
    ap (λ k. u ++ k) e ∙ sym (append_assoc u s (b ∷ v)),
    then_goes_on i u s a c,
    λ z. n (then_inner i u (s ++ b ∷ []) a (rw (append_assoc u s (b ∷ [])) at z)),
  )

  -- where the two can be raised: in the second
  pub reach_second : (i : I) (u v : List ℕ) (m : ℕ) → A i u → Reach (B i) v (suc m) → Reach (Then A B) (u ++ v) (suc (length u + m))
  reach_second i u v m a (within, (x, bx, ax)) = (
    (λ w (j, u', v', a', b', e) l.
        let l' : before (u ++ v) (u' ++ v') ≡ true = rw e at l in
        elim (free_meets A free i j u u' a a') [
          | inl (p, h) ↦
              let l'' : before v v' ≡ true = sym (before_common u v v') ∙ ap (λ k. before (u ++ v) (k ++ v')) h ∙ l' in
              let g = within v' (subst (λ k. B k v') (sym p) b') l'' in
              (length u + g.0, (let z = g.1 in omega arith), subst (λ k. Apart (length u + g.0) (u ++ v) k) (ap (λ k. k ++ v') h ∙ sym e) (apart_front u g.0 v v' g.2))
          | inr (inl (k, h)) ↦ (k, omega (arith, apart_place k u u' h), subst (λ y. Apart k (u ++ v) y) (sym e) (apart_more k u u' v v' h))
          | inr (inr (k, h)) ↦ absurd (both_ways _ (apart_not_before k (u ++ v) (u' ++ v') (apart_more k u' u v' v h)) l')
        ]),
    (u ++ x, (i, u, x, a, bx, refl), apart_front u m v x ax),
  )

  -- or else in the first
  pub reach_first : (i : I) (u v : List ℕ) (n : ℕ) → A i u → Reach (B i) v 0 → Reach (Any A) u n → Reach (Then A B) (u ++ v) n
  reach_first i u v n a (shut, _) (within, up) = (
    (λ w (j, u', v', a', b', e) l.
        let l' : before (u ++ v) (u' ++ v') ≡ true = rw e at l in
        elim (free_meets A free i j u u' a a') [
          | inl (p, h) ↦
              let l'' : before v v' ≡ true = sym (before_common u v v') ∙ ap (λ k. before (u ++ v) (k ++ v')) h ∙ l' in
              let g = shut v' (subst (λ k. B k v') (sym p) b') l'' in
              absurd (let z = g.1 in omega arith)
          | inr (inl (k, h)) ↦
              let g = within u' (j, a') (apart_before k u u' h) in
              (g.0, g.1, subst (λ y. Apart g.0 (u ++ v) y) (sym e) (apart_more g.0 u u' v v' g.2))
          | inr (inr (k, h)) ↦ absurd (both_ways _ (apart_not_before k (u ++ v) (u' ++ v') (apart_more k u' u v' v h)) l')
        ]),
    up_on A B on u v n up,
  )

  pub then_reach : (i : I) (u v : List ℕ) (n m : ℕ) → A i u → Reach (Any A) u n → Reach (B i) v m → Reach (Then A B) (u ++ v) (joined n (length u) m)
  then_reach i u v n zero a h g = reach_first i u v n a g h
  then_reach i u v n (suc m) a h g = reach_second i u v m a g

-- sets with the same words
pub reach_same : (V W : List ℕ → Type 0) → ((w : List ℕ) → V w → W w) → ((w : List ℕ) → W w → V w) → (w : List ℕ) (n : ℕ) → Reach V w n → Reach W w n
reach_same V W f g w zero (within, up) = ((λ v a l. within v (g v a) l), tt)
reach_same V W f g w (suc n) (within, (v, a, h)) = ((λ v a l. within v (g v a) l), (v, f v a, h))

pub reach_word : (W : List ℕ → Type 0) (w : List ℕ) (n : ℕ) → Reach W w n → Reach (Any (Word W)) w n
reach_word W w n h = reach_same W (Any (Word W)) (λ v a. (v, (refl, a))) (λ v (i, (e, a)). a) w n h

pub wrong_same : (V W : List ℕ → Type 0) → ((w : List ℕ) → V w → W w) → ((w : List ℕ) → W w → V w) → (q : List ℕ) (p : ℕ) → WrongAt V q p → WrongAt W q p
wrong_same V W f g q p (u, b, v, l, e, (r, c), n) = (u, b, v, l, e, (r, f (u ++ r) c), λ (s, d). n (s, g ((u ++ b ∷ []) ++ s) d))
