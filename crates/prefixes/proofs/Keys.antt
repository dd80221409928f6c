-- A key after the last one: held against it within its reach.
use Rattle.std.proofs.Common.{◌≡◌, ℕ, zero, suc, ◌<◌, ◌≤◌, true, ◌⊎◌, List, [], ◌∷◌, ◌++◌, length, sym, refl, ap, ◌∙◌, subst, inl, inr, append_assoc, arith, length-append}
use Rattle.std.proofs.lemmas.List.{append-nil}
use Rattle.std.proofs.lemmas.Bool.{lt-ltb, le-ltb, cases_lt, both_ways, cases_order}
use Rattle.cbor.specs.Order.{before}
use Rattle.cbor.specs.Prefix.{Begins, PrefixFree}
use Rattle.cbor.proofs.Order.{before_irreflexive}
use Rattle.cbor.proofs.Words.{two_fronts, free_two}
use Rattle.prefixes.specs.Words.{Apart, Word, WrongAt, Unread, Within, Up, Reach, Room, Keyed, Next}
use Rattle.prefixes.specs.Walks.{Told, done, cut, wrong, Holds, odd_next, odd_at, settle}
use Rattle.prefixes.proofs.Order.{apart_more, apart_before, apart_not_before, cons_both, apart_past, apart_place}
use Rattle.prefixes.proofs.Words.{begins_less}
use Rattle.prefixes.proofs.Rooms.{one_of, next_inside, next_past, next_larger, next_smaller}

-- what the comparison says: nowhere at odds, or first at a place
abbrev pub Fine : ℕ → List ℕ → List ℕ → Type 0
Fine m l q = ((i : ℕ) × (i < m) × Apart i l q) ⊎ ((e : List ℕ) × (l ≡ q ++ e) × (length q < m))

abbrev pub Odd : ℕ → List ℕ → List ℕ → ℕ → Type 0
Odd m l q j =
    (x : List ℕ) × (b : ℕ) × (y : List ℕ) × (e : List ℕ) × (q ≡ x ++ b ∷ y) × (l ≡ x ++ e) × (length x ≡ j) × (j < m) ×
    (Apart j (x ++ b ∷ []) l ⊎ ((z : List ℕ) × (l ≡ (x ++ b ∷ []) ++ z) × (m ≤ suc j)))

abbrev pub Compared : ℕ → List ℕ → List ℕ → List ℕ → Type 0
Compared m l q [] = Fine m l q
Compared m l q (j ∷ js) = Odd m l q j

fine_more : (x b m : ℕ) (l q : List ℕ) → x ≡ b → Fine m l q → Fine (suc m) (x ∷ l) (b ∷ q)
unfolding Apart
fine_more x b m l q e (inl (i, h, a)) = inl (suc i, omega arith, (e, a))
fine_more x b m l q e (inr (r, p, h)) = inr (r, (let z : x ∷ l ≡ b ∷ (q ++ r) = cc in z), omega arith)

odd_more : (x b m j : ℕ) (l q : List ℕ) → x ≡ b → Odd m l q j → Odd (suc m) (x ∷ l) (b ∷ q) (suc j)
unfolding Apart
odd_more x b m j l q e (u, c, y, r, p, s, h, k, inl a) = (x ∷ u, c, y, r, (let z : b ∷ q ≡ x ∷ (u ++ c ∷ y) = cc in z), ap (λ v. x ∷ v) s, ap suc h, omega arith, inl (refl, a))
odd_more x b m j l q e (u, c, y, r, p, s, h, k, inr (z, t, o)) =
    (x ∷ u, c, y, r, (let w : b ∷ q ≡ x ∷ (u ++ c ∷ y) = cc in w), ap (λ v. x ∷ v) s, ap suc h, omega arith, inr (z, ap (λ v. x ∷ v) t, omega arith))

compared_next : (x b m : ℕ) (l q : List ℕ) (js : List ℕ) → x ≡ b → (0 < m → Compared m l q js) → Compared (suc m) (x ∷ l) (b ∷ q) (odd_next m js)
compared_next x b zero l q js e h = ([], b, q, x ∷ l, refl, refl, refl, omega arith, inr (l, (let z : x ∷ l ≡ b ∷ l = cc in z), omega arith))
compared_next x b (suc m) l q [] e h = fine_more x b (suc m) l q e (h (omega arith))
compared_next x b (suc m) l q (j ∷ js) e h = odd_more x b (suc m) j l q e (h (omega arith))

pub compared : (m : ℕ) (l q : List ℕ) → 0 < m → m ≤ length l → Compared m l q (odd_at m l q)
unfolding odd_at Apart
compared zero l q h k = absurd (omega arith)
compared (suc m) [] q h k = absurd (omega arith)
compared (suc m) (x ∷ l) [] h k = inr (x ∷ l, refl, omega arith)
compared (suc m) (x ∷ l) (b ∷ q) h k = elim (cases_order x b) [
  | inl e ↦ rw (le-ltb b x (omega arith), le-ltb x b (omega arith)) (compared_next x b m l q (odd_at m l q) e (λ z. compared m l q z (omega arith)))
  | inr (inl a) ↦ rw (le-ltb b x (omega arith), lt-ltb x b a) (inl (0, omega arith, a))
  | inr (inr a) ↦ rw (lt-ltb b x a) ([], b, q, x ∷ l, refl, refl, refl, omega arith, inl a)
]

apart_cut : (i : ℕ) (l x y : List ℕ) → Apart i l (x ++ y) → i < length x → Apart i l x
unfolding Apart
apart_cut i [] x y a k = absurd a
apart_cut i (c ∷ l) [] y a k = absurd (omega arith)
apart_cut zero (c ∷ l) (b ∷ x) y a k = a
apart_cut (suc i) (c ∷ l) (b ∷ x) y a k = (a.0, apart_cut i l x y a.1 (omega arith))

apart_front_of : (i : ℕ) (l x y : List ℕ) → Apart i l (x ++ y) → length x ≤ i → (e : List ℕ) × (l ≡ x ++ e)
unfolding Apart
apart_front_of i l [] y a k = (l, refl)
apart_front_of i [] (b ∷ x) y a k = absurd a
apart_front_of zero (c ∷ l) (b ∷ x) y a k = absurd (omega arith)
apart_front_of (suc i) (c ∷ l) (b ∷ x) y a k = let (e, p) = apart_front_of i l x y a.1 (omega arith) in (e, cons_both c b l (x ++ e) a.0 p)

-- a front of bytes that are nowhere at odds
fine_front : (m : ℕ) (l x y : List ℕ) → Fine m l (x ++ y) → Fine m l x
fine_front m l x y (inl (i, h, a)) = elim (cases_lt i (length x)) [
  | inl k ↦ inl (i, h, apart_cut i l x y a k)
  | inr k ↦ let (e, p) = apart_front_of i l x y a k in inr (e, p, omega arith)
]
fine_front m l x y (inr (e, p, h)) = inr (y ++ e, p ∙ append_assoc x y e, (let z = length-append x y in omega arith))

module _ (W : List ℕ → Type 0) (free : PrefixFree (Word W)) (l : List ℕ) (wl : W l) (m r : ℕ) (reach : Reach W l m) (room : Room W l (suc r)) where
  inside : (q e : List ℕ) → l ≡ q ++ e → length q < m → Begins (Next W l r) q
  inside q e p h = subst (λ k. Begins (Next W k r) q) (sym p) (next_inside W free q e m r h (subst (λ k. Reach W k m) p reach) (subst (λ k. Room W k (suc r)) p room))

  past : (q e : List ℕ) → l ≡ q ++ e → m ≤ length q → Begins (Next W l r) q → ⊥
  past q e p h c = next_past W free q e m r h (subst (λ k. Within W k m) p reach.0) (subst (λ k. Begins (Next W k r) q) p c)

  -- a reach ends within the word
  reach_fits : (n : ℕ) → Up W l n → n ≤ length l
  reach_fits zero u = omega arith
  reach_fits (suc j) (v, w, a) = apart_place j l v a

  -- and there is one, since there's room
  reach_some : 0 < m
  unfolding Room
  reach_some = let (v, w, a, s) = room in let (i, h, b) = reach.0 v w a in omega arith

  fine_begins : (q : List ℕ) → Fine m l q → Begins (Keyed W r) q → Begins (Next W l r) q
  fine_begins q (inl (i, h, a)) b = next_larger W free l q i r a b
  fine_begins q (inr (e, p, h)) b = inside q e p h

  odd_begins : (q x y e : List ℕ) (b : ℕ) (j : ℕ) → Apart j (x ++ b ∷ []) l ⊎ ((z : List ℕ) × (l ≡ (x ++ b ∷ []) ++ z) × (m ≤ suc j)) → length x ≡ j → Begins (Next W l r) (x ++ b ∷ []) → ⊥
  odd_begins q x y e b j (inl a) h c = next_smaller W free l (x ++ b ∷ []) j r a c
  odd_begins q x y e b j (inr (z, p, k)) h c = past (x ++ b ∷ []) z p (let w = length-append x (b ∷ []) in omega arith) c

  odd_longer : (q : List ℕ) (j : ℕ) (x : List ℕ) (b : ℕ) (y e : List ℕ) → l ≡ x ++ e → length x ≡ j
      → Apart j (x ++ b ∷ []) l ⊎ ((z : List ℕ) × (l ≡ (x ++ b ∷ []) ++ z) × (m ≤ suc j)) → (u rest : List ℕ) → W u → Room W u r → before l u ≡ true → (f : List ℕ)
      → u ≡ x ++ f → b ∷ y ≡ f ++ rest → ⊥
  odd_longer q j x b y e s h o u rest w t a [] g i =
      let (c, d, n) = free_two (Word W) free u l u l e [] (refl, w) (refl, wl) (ap (λ v. v ++ e) (g ∙ append-nil x) ∙ sym s ∙ sym (append-nil l)) in
      before_irreflexive l (ap (λ v. before l v) (sym d) ∙ a)
  odd_longer q j x b y e s h o u rest w t a (c ∷ f) g i =
      let d : b ≡ c = cc in
      let g' : u ≡ (x ++ b ∷ []) ++ f = g ∙ ap (λ v. x ++ v ∷ f) (sym d) ∙ sym (append_assoc x (b ∷ []) f) in
      odd_begins q x y e b j o h (f, ((subst (λ v. W v) g' w, subst (λ v. Room W v r) g' t), ap (λ v. before l v) (sym g') ∙ a))

  -- no word after the last one is a front of bytes that are at odds with it
  odd_unread : (q : List ℕ) (j : ℕ) → Odd m l q j → Unread (Next W l r) q
  odd_unread q j (x, b, y, e, p, s, h, k, o) u rest ((w, t), a) z = elim (two_fronts u x rest (b ∷ y) (sym z ∙ p)) [
    | inl (f, g, i) ↦
        let (c, d, n) = free_two (Word W) free u l u l (f ++ e) [] (refl, w) (refl, wl) (sym (append_assoc u f e) ∙ ap (λ v. v ++ e) (sym g) ∙ sym s ∙ sym (append-nil l)) in
        before_irreflexive l (ap (λ v. before l v) (sym d) ∙ a)
    | inr (f, g, i) ↦ odd_longer q j x b y e s h o u rest w t a f g i
  ]

  -- at odds: wrong there
  odd_wrong : (q : List ℕ) (j : ℕ) → Odd m l q j → WrongAt (Next W l r) q j
  odd_wrong q j (x, b, y, e, p, s, h, k, o) = (x, b, y, h, p, inside x e s (omega arith), λ c. odd_begins q x y e b j o h c)

  fine_same : (u rest : List ℕ) → u ≡ l → Fine m l (u ++ rest) → ⊥
  fine_same u rest e (inl (i, h, a)) =
      let b : Apart i (l ++ []) (l ++ rest) = subst (λ v. Apart i v (l ++ rest)) (sym (append-nil l)) (subst (λ v. Apart i l (v ++ rest)) e a) in
      let c = apart_past i l [] rest b in
      let d = apart_place i l (u ++ rest) a in
      omega arith
  fine_same u rest e (inr (z, p, h)) =
      let c = reach_fits m reach.1 in
      let d = length-append u rest in
      let k = ap length e in
      omega arith

  fine_smaller : (u rest : List ℕ) (k : ℕ) → Apart k u l → Fine m l (u ++ rest) → ⊥
  fine_smaller u rest k a (inl (i, h, b)) =
      both_ways _ (apart_not_before k l (u ++ rest) (subst (λ v. Apart k (u ++ rest) v) (append-nil l) (apart_more k u l rest [] a))) (apart_before i l (u ++ rest) b)
  fine_smaller u rest k a (inr (z, p, h)) =
      let b : Apart k (u ++ []) (u ++ (rest ++ z)) = subst (λ v. Apart k v (u ++ (rest ++ z))) (sym (append-nil u)) (subst (λ v. Apart k u v) (p ∙ append_assoc u rest z) a) in
      let c = apart_past k u [] (rest ++ z) b in
      let d = apart_place k u l a in
      omega arith

  -- a word that is nowhere at odds is after the last one
  fine_after : (u rest : List ℕ) → W u → Fine m l (u ++ rest) → before l u ≡ true
  fine_after u rest w f = elim (one_of W free l u wl w) [
    | inl e ↦ absurd (fine_same u rest (sym e) f)
    | inr (inl (k, a)) ↦ apart_before k l u a
    | inr (inr (k, a)) ↦ absurd (fine_smaller u rest k a f)
  ]

  shorter : (u x v y : List ℕ) → u ++ v ≡ x ++ y → length u < length x → Begins (Next W l r) x → Begins (Next W l r) u
  shorter u x v y e h b = elim (two_fronts u x v y e) [
    | inl (s, p, t) ↦ begins_less (Next W l r) u s (subst (λ z. Begins (Next W l r) z) p b)
    | inr (s, p, t) ↦ absurd (let z = length-append x s in let k = ap length p in omega arith)
  ]

  -- wrong by itself before it is at odds
  earlier : (q : List ℕ) (p j : ℕ) → Odd m l q j → p < j → WrongAt (Keyed W r) q p → WrongAt (Next W l r) q p
  earlier q p j (x, b, y, e, t, s, h, k, o) a (u, c, v, g, z, i, d) =
      (u, c, v, g, z, shorter u x (c ∷ v) (b ∷ y) (sym z ∙ t) (omega arith) (inside x e s (omega arith)), λ (w, f). d (w, f.0))

  pub next_holds : {I : Type 0} (S : I → List ℕ → Type 0) (q : List ℕ) (o : Told I) (js : List ℕ) → Compared m l q js → Holds (Keyed W r) S q o → Holds (Next W l r) S q (settle o js)
  next_holds S q (done i u rest) [] f ((w, t), s, e) = (((w, t), fine_after u rest w (subst (λ v. Fine m l v) e f)), s, e)
  next_holds S q cut [] f (b, n) = (fine_begins q f b, λ u rest x e. n u rest x.0 e)
  next_holds S q (wrong p) [] f ((u, b, v, h, e, c, d), n) =
      ((u, b, v, h, e, fine_begins u (fine_front m l u (b ∷ v) (subst (λ z. Fine m l z) e f)) c, λ (t, x). d (t, x.0)), λ u rest x e. n u rest x.0 e)
  next_holds S q (done i u rest) (j ∷ js) f h = (odd_wrong q j f, odd_unread q j f)
  next_holds S q cut (j ∷ js) f h = (odd_wrong q j f, odd_unread q j f)
  next_holds S q (wrong p) (j ∷ js) f (k, n) = elim (cases_lt p j) [
    | inl a ↦ rw (lt-ltb p j a) (earlier q p j f a k, odd_unread q j f)
    | inr a ↦ rw (le-ltb p j a) (odd_wrong q j f, odd_unread q j f)
  ]

  pub next_told : {I : Type 0} (S : I → List ℕ → Type 0) (q : List ℕ) (o : Told I) → Holds (Keyed W r) S q o → Holds (Next W l r) S q (settle o (odd_at m l q))
  next_told S q o h = next_holds S q o (odd_at m l q) (compared m l q reach_some (reach_fits m reach.1)) h
