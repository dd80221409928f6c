-- So many words, so many keys and values: what is told of them holds.
use Rattle.std.proofs.Common.{ℕ, zero, suc, ◌<◌, List, [], ◌∷◌, ◌++◌, length, refl, subst, inl, inr, arith}
use Rattle.std.proofs.lemmas.Bool.{lt-ltb, le-ltb, cases_lt}
use Rattle.cbor.specs.Prefix.{PrefixFree, Then}
use Rattle.prefixes.specs.Words.{Word, Reach, joined, Room, Keyed}
use Rattle.prefixes.specs.Shapes.{Key, Many, Pairs}
use Rattle.prefixes.specs.Walks.{Told, Holds, on_told, carry, walk_many, next_key, reach_of_key, walk_pairs, Says, Last, lasts}
use Rattle.prefixes.proofs.Words.{then_reach, reach_word}
use Rattle.prefixes.proofs.Rooms.{keyed_reach, keyed_shut, next_reach}
use Rattle.prefixes.proofs.Items.{key_word}
use Rattle.prefixes.proofs.Many.{key_free, many_some, pairs_some, many_reach_none, many_reach, pairs_reach_none, value_some}
use Rattle.prefixes.proofs.Told.{carry_holds, then_holds, word_holds, keyed_holds, ReachTold}
use Rattle.prefixes.proofs.Keys.{next_told}

module _ (W : List ℕ → Type 0) (free : PrefixFree (Word W)) (some : (w : List ℕ) × W w) (Ok : List ℕ → Type 0) (ok_rest : (u rest : List ℕ) → Ok (u ++ rest) → Ok rest) where
  pub many_holds : (walk : List ℕ → Told (ℕ × ℕ)) → ((q : List ℕ) → Ok q → Holds W (Says W) q (walk q)) → (n : ℕ) (q : List ℕ) → Ok q → ReachTold (Many W n) q (walk_many walk n q)
  unfolding Many walk_many
  many_holds walk h zero q ok = (refl, many_reach_none W free some, refl)
  many_holds walk h (suc n) q ok =
      then_holds (Word W) (λ _. Many W n) free (λ i x y. many_some W free some n) (λ m u. Reach (Many W n) u m) (λ m u. Reach (Many W (suc n)) u m) (Says W) q (walk q) _
      (word_holds W (Says W) q (walk q) (h q ok))
      (λ i u rest (j, (p, w)) (r, a) e.
      carry_holds (Word W) (λ _. Many W n) free (λ i x y. many_some W free some n) (λ m u. Reach (Many W n) u m) (λ m u. Reach (Many W (suc n)) u m) (λ m. joined i.0 (length u) m) u u rest (walk_many walk n rest) (refl, w)
      (λ m v b s. many_reach W free some n u v i.0 m w r s) (many_holds walk h n rest (ok_rest u rest (subst Ok e ok))))

  keyed_counts : (n : ℕ) (i : ℕ × ℕ) (k : List ℕ) → suc n < 18446744073709551616 → Says W i k → Reach (Keyed W n) k (reach_of_key n i)
  keyed_counts n i k l (r, a) = elim (cases_lt n i.1) [
    | inl c ↦ rw (lt-ltb n i.1 c) (keyed_reach W free k i.0 n r ((a (suc n) l).0 c))
    | inr c ↦ rw (le-ltb n i.1 c) (keyed_shut W free k n (λ m. let z = (a (suc n) l).1 m in omega arith))
  ]

  -- a key's reach, as it counts
  key_reach_is : (last : List (List ℕ × ℕ)) (n : ℕ) (i : ℕ × ℕ) (k : List ℕ) → suc n < 18446744073709551616 → Key W (lasts last) n k → Says W i k
      → Reach (Key W (lasts last) n) k (reach_of_key n i)
  key_reach_is [] n i k l w s = keyed_counts n i k l s
  key_reach_is (c ∷ cs) n i k l w s = next_reach W free c.0 k (reach_of_key n i) n w.1 (keyed_counts n i k l s)

  next_key_holds : (last : List (List ℕ × ℕ)) (n : ℕ) (q : List ℕ) (o : Told (ℕ × ℕ)) → Last W last (suc n) → Holds (Keyed W n) (Says W) q o
      → Holds (Key W (lasts last) n) (Says W) q (next_key last q o)
  next_key_holds [] n q o l h = h
  next_key_holds (c ∷ cs) n q o l h = next_told W free c.0 l.0 c.1 n l.1 l.2 (Says W) q o h

  -- a value, and then what is told of the other pairs
  value_holds : (n : ℕ) (k q : List ℕ) (o : Told (ℕ × ℕ)) (f : List ℕ → Told ℕ) → Room W k n → Ok q → Holds W (Says W) q o
      → ((x : List ℕ) → Ok x → ReachTold (Pairs W n (k ∷ [])) x (f x))
      → ReachTold (Then (Word W) (λ _. Pairs W n (k ∷ []))) q (on_told o (λ j v rest. carry (λ m. joined j.0 (length v) m) v (f rest)))
  value_holds n k q o f room ok h g =
      let B = λ (_ : List ℕ). Pairs W n (k ∷ []) in
      let on = λ (i x : List ℕ) (y : Word W i x). pairs_some W free some n k room in
      then_holds (Word W) B free on (λ m u. Reach (Pairs W n (k ∷ [])) u m) (λ m u. Reach (Then (Word W) B) u m) (Says W) q o _ (word_holds W (Says W) q o h)
      (λ i u rest (j, (p, w)) (r, a) e. carry_holds (Word W) B free on (λ m u. Reach (Pairs W n (k ∷ [])) u m) (λ m u. Reach (Then (Word W) B) u m) (λ m. joined i.0 (length u) m) u u rest (f rest) (refl, w)
      (λ m v b s. then_reach (Word W) B free on u u v i.0 m (refl, w) (reach_word W u i.0 r) s) (g rest (ok_rest u rest (subst Ok e ok))))

  pub pairs_holds : (walk : ℕ → List ℕ → Told (ℕ × ℕ)) → ((r : ℕ) (q : List ℕ) → r < 18446744073709551616 → Ok q → Holds (Keyed W r) (Says W) q (walk r q))
      → (n : ℕ) (last : List (List ℕ × ℕ)) (q : List ℕ) → n < 18446744073709551616 → Last W last n → Ok q
      → ReachTold (Pairs W n (lasts last)) q (walk_pairs walk n last q)
  unfolding Pairs walk_pairs
  pairs_holds walk h zero last q b l ok = (refl, pairs_reach_none W free some (lasts last), refl)
  pairs_holds walk h (suc n) last q b l ok =
      let A = Word (Key W (lasts last) n) in
      let V = λ (k : List ℕ). Then (Word W) (λ _. Pairs W n (k ∷ [])) in
      let on = λ (i x : List ℕ) (y : A i x). value_some W free some n i (subst (λ z. Room W z n) y.0 (key_word W (lasts last) n x y.1).1) in
      then_holds A V (key_free W free (lasts last) n) on (λ (m : ℕ) u. ℕ) (λ m u. Reach (Pairs W (suc n) (lasts last)) u m) (Says W) q (next_key last q (walk n q)) _
      (word_holds (Key W (lasts last) n) (Says W) q (next_key last q (walk n q)) (next_key_holds last n q (walk n q) l (h n q (omega arith) ok)))
      (λ i k rest (j, (p, wk)) s e.
      let rk = key_word W (lasts last) n k wk in
      let ok' = ok_rest k rest (subst Ok e ok) in
      carry_holds A V (key_free W free (lasts last) n) on (λ m u. Reach (V k) u m) (λ m u. Reach (Pairs W (suc n) (lasts last)) u m)
      (λ m. joined (reach_of_key n i) (length k) m) k k rest _ (refl, wk)
      (λ m v y t. then_reach A V (key_free W free (lasts last) n) on k k v (reach_of_key n i) m (refl, wk) (reach_word (Key W (lasts last) n) k (reach_of_key n i) (key_reach_is last n i k b wk s)) t)
      (value_holds n k rest (walk 0 rest) (λ rest. walk_pairs walk n ((k, i.0) ∷ []) rest) rk.1 ok' (keyed_holds W (Says W) rest (walk 0 rest) (h 0 rest (omega arith) ok'))
      (λ x o. pairs_holds walk h n ((k, i.0) ∷ []) x (omega arith) (rk.0, s.0, rk.1) o)))
