-- Words one after another, and a word after the last: what begins it, and where it can be raised.
use Rattle.std.proofs.Common.{◌≡◌, ℕ, zero, suc, ◌+◌, ◌<◌, ◌≤◌, true, ◌⊎◌, List, [], ◌++◌, length, refl, ◌∙◌, subst, inl, inr, suc-add, zero-add, arith}
use Rattle.std.proofs.lemmas.List.{append-nil}
use Rattle.std.proofs.lemmas.Bool.{cases_lt, both_ways}
use Rattle.cbor.specs.Order.{before}
use Rattle.cbor.specs.Prefix.{Begins, PrefixFree}
use Rattle.cbor.proofs.Order.{before_transitive}
use Rattle.prefixes.specs.Words.{Apart, Word, Within, Reach, Room, Keyed, Next}
use Rattle.prefixes.proofs.Order.{apart_more, apart_before, apart_not_before, apart_between, apart_starts, apart_past, before_common}
use Rattle.prefixes.proofs.Words.{free_meets}

pub room_fewer : (W : List ℕ → Type 0) (k : List ℕ) (r : ℕ) → Room W k (suc r) → Room W k r
unfolding Room
room_fewer W k zero h = tt
room_fewer W k (suc r) (v, w, l, h) = (v, w, l, room_fewer W v r h)

pub room_down : (W : List ℕ → Type 0) (k : List ℕ) (n r : ℕ) → Room W k (n + r) → Room W k r
room_down W k zero r h = rw (zero-add r) at h
room_down W k (suc n) r h = room_down W k n r (room_fewer W k (n + r) (rw (suc-add n r) at h))

pub room_before : (W : List ℕ → Type 0) (k j : List ℕ) (r : ℕ) → before j k ≡ true → Room W k r → Room W j r
unfolding Room
room_before W k j zero l h = tt
room_before W k j (suc r) l (v, w, m, h) = (v, w, before_transitive j k v l m, h)

-- a family of words, each before the next
pub room_run : (W : List ℕ → Type 0) (f : ℕ → List ℕ) (last : ℕ) (k : List ℕ) (a r : ℕ) → ((n : ℕ) → n < last → W (f n))
    → ((n : ℕ) → suc n < last → before (f n) (f (suc n)) ≡ true) → a + r ≤ last → (0 < r → before k (f a) ≡ true) → Room W k r
unfolding Room
room_run W f last k a zero w l b h = tt
room_run W f last k a (suc r) w l b h = (f a, w a (omega arith), h (omega arith), room_run W f last (f a) (suc a) r w l (omega arith) (λ z. l a (omega arith)))

-- words of another set, put after something
pub room_map : (V W : List ℕ → Type 0) (p k : List ℕ) (r : ℕ) → ((v : List ℕ) → V v → W (p ++ v)) → Room V k r → Room W (p ++ k) r
unfolding Room
room_map V W p k zero f h = tt
room_map V W p k (suc r) f (v, w, l, h) = (p ++ v, f v w, before_common p k v ∙ l, room_map V W p v r f h)

-- words of another set, put after something, and then more that come after all of these
pub room_map_on : (V W : List ℕ → Type 0) (p k : List ℕ) (r n : ℕ) → ((v : List ℕ) → V v → W (p ++ v)) → ((v : List ℕ) → Room W (p ++ v) n) → Room V k r → Room W (p ++ k) (r + n)
unfolding Room
room_map_on V W p k zero n f g h = rw (zero-add n) (g k)
room_map_on V W p k (suc r) n f g (v, w, l, h) = rw (suc-add r n) (p ++ v, f v w, before_common p k v ∙ l, room_map_on V W p v r n f g h)

module _ (W : List ℕ → Type 0) (free : PrefixFree (Word W)) where
  pub one_of : (u v : List ℕ) → W u → W v → (u ≡ v) ⊎ (((k : ℕ) × Apart k u v) ⊎ ((k : ℕ) × Apart k v u))
  one_of u v a b = elim (free_meets (Word W) free u v u v (refl, a) (refl, b)) [ inl (p, h) ↦ inl h | inr x ↦ inr x ]

  -- the word that parts last from one has as much room as one after it
  pub raised : (k : List ℕ) (j r : ℕ) → Reach W k (suc j) → Room W k (suc r) → (v : List ℕ) × W v × Apart j k v × Room W v r
  unfolding Room
  raised k j r (within, (u, wu, au)) (v, w, l, h) =
      let (i, b, a) = within v w l in
      elim (cases_lt i j) [
        | inl c ↦ (u, wu, au, room_before W v u r (apart_before i u v (apart_between i j k u v au a c)) h)
        | inr c ↦ let e : i ≡ j = omega arith in (v, w, subst (λ x. Apart x k v) e a, h)
      ]

  -- a part of the last word that ends before its reach begins a word after it
  pub next_inside : (q e : List ℕ) (n r : ℕ) → length q < n → Reach W (q ++ e) n → Room W (q ++ e) (suc r) → Begins (Next W (q ++ e) r) q
  next_inside q e zero r l h m = absurd (omega arith)
  next_inside q e (suc j) r l h m =
      let (v, w, a, s) = raised (q ++ e) j r h m in
      let (t, p) = apart_starts j q e v a (omega arith) in
      (t, ((subst (λ x. W x) p w, subst (λ x. Room W x r) p s), subst (λ x. before (q ++ e) x ≡ true) p (apart_before j (q ++ e) v a)))

  -- and one that doesn't, begins none
  pub next_past : (q e : List ℕ) (n r : ℕ) → n ≤ length q → Within W (q ++ e) n → Begins (Next W (q ++ e) r) q → ⊥
  next_past q e n r l within (t, ((w, s), b)) =
      let (i, c, a) = within (q ++ t) w b in
      let d = apart_past i q e t a in
      omega arith

  -- larger at a place: whatever comes after
  pub next_larger : (k q : List ℕ) (i r : ℕ) → Apart i k q → Begins (Keyed W r) q → Begins (Next W k r) q
  next_larger k q i r a (t, w) = (t, (w, apart_before i k (q ++ t) (subst (λ x. Apart i x (q ++ t)) (append-nil k) (apart_more i k q [] t a))))

  -- smaller at a place: nothing
  pub next_smaller : (k q : List ℕ) (i r : ℕ) → Apart i q k → Begins (Next W k r) q → ⊥
  next_smaller k q i r a (t, (w, l)) =
      both_ways _ (apart_not_before i k (q ++ t) (subst (λ x. Apart i (q ++ t) x) (append-nil k) (apart_more i q k t [] a))) l

  -- where a word can be raised among those after which there's room
  pub keyed_reach : (k : List ℕ) (n r : ℕ) → Reach W k n → Room W k (suc r) → Reach (Keyed W r) k n
  keyed_reach k zero r (within, up) m = ((λ v (w, s) l. within v w l), tt)
  keyed_reach k (suc j) r h m = let (v, w, a, s) = raised k j r h m in ((λ v (w, s) l. h.0 v w l), (v, (w, s), a))

  -- nowhere if there's no room for one more
  pub keyed_shut : (k : List ℕ) (r : ℕ) → (Room W k (suc r) → ⊥) → Reach (Keyed W r) k 0
  unfolding Room
  keyed_shut k r n = ((λ v (w, s) l. absurd (n (v, w, l, s))), tt)

  -- and among those after a last one too
  pub next_reach : (last k : List ℕ) (n r : ℕ) → before last k ≡ true → Reach (Keyed W r) k n → Reach (Next W last r) k n
  next_reach last k zero r l (within, up) = ((λ v (w, b) m. within v w m), tt)
  next_reach last k (suc j) r l (within, (v, w, a)) = ((λ v (w, b) m. within v w m), (v, (w, before_transitive last k v l (apart_before j k v a)), a))
