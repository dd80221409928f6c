-- So many words, so many keys and values: that there are some, and where they can be raised.
use Rattle.std.proofs.Common.{◌≡◌, ℕ, zero, suc, true, false, List, [], ◌∷◌, ◌++◌, length, sym, refl, ap, ◌∙◌}
use Rattle.std.proofs.lemmas.Bool.{both_ways}
use Rattle.cbor.specs.Order.{before}
use Rattle.cbor.specs.Prefix.{PrefixFree, Then}
use Rattle.prefixes.specs.Words.{Word, Reach, joined, Room}
use Rattle.prefixes.specs.Shapes.{Key, Many, Pairs}
use Rattle.prefixes.proofs.Words.{then_reach, reach_word}
use Rattle.prefixes.proofs.Items.{key_word}

pub key_free : (W : List ℕ → Type 0) → PrefixFree (Word W) → (last : List (List ℕ)) (r : ℕ) → PrefixFree (Word (Key W last r))
key_free W free last r i j u s (p, a) (q, b) = free i j u s (p, (key_word W last r u a).0) (q, (key_word W last r (u ++ s) b).0)

none_before : (v : List ℕ) → v ≡ [] → before [] v ≡ true → ⊥
unfolding before
none_before v e l = both_ways false refl (ap (λ w. before [] w) (sym e) ∙ l)

pub nil_reach : (W : List ℕ → Type 0) → ((w : List ℕ) → W w → w ≡ []) → Reach W [] 0
nil_reach W f = ((λ v a l. absurd (none_before v (f v a) l)), tt)

pub empty_reach : Reach (λ w. w ≡ []) [] 0
empty_reach = nil_reach (λ w. w ≡ []) (λ w e. e)

module _ (W : List ℕ → Type 0) (free : PrefixFree (Word W)) (some : (w : List ℕ) × W w) where
  pub many_some : (n : ℕ) → (w : List ℕ) × Many W n w
  unfolding Many
  many_some zero = ([], refl)
  many_some (suc n) = let (w, a) = some in let (v, b) = many_some n in (w ++ v, (w, w, v, (refl, a), b, refl))

  pub pairs_some : (n : ℕ) (k : List ℕ) → Room W k n → (w : List ℕ) × Pairs W n (k ∷ []) w
  unfolding Pairs Room
  pairs_some zero k h = ([], refl)
  pairs_some (suc n) k (u, a, l, h) =
      let (w, b) = some in
      let (v, c) = pairs_some n u h in
      (u ++ (w ++ v), (u, u, w ++ v, (refl, ((a, h), l)), (w, w, v, (refl, b), c, refl), refl))

  -- where an array can be raised, by its parts
  pub many_reach_none : Reach (Many W 0) [] 0
  unfolding Many
  many_reach_none = nil_reach (Many W 0) (λ w h. h)

  pub many_reach : (n : ℕ) (u v : List ℕ) (a b : ℕ) → W u → Reach W u a → Reach (Many W n) v b → Reach (Many W (suc n)) (u ++ v) (joined a (length u) b)
  unfolding Many
  many_reach n u v a b w h g = then_reach (Word W) (λ _. Many W n) free (λ i x y. many_some n) u u v a b (refl, w) (reach_word W u a h) g

  -- where a map can be raised, if it is empty
  pub pairs_reach_none : (last : List (List ℕ)) → Reach (Pairs W 0 last) [] 0
  unfolding Pairs
  pairs_reach_none last = nil_reach (Pairs W 0 last) (λ w h. h)

  pub value_some : (n : ℕ) (k : List ℕ) → Room W k n → (w : List ℕ) × Then (Word W) (λ _. Pairs W n (k ∷ [])) w
  value_some n k h = let (w, a) = some in let (v, b) = pairs_some n k h in (w ++ v, (w, w, v, (refl, a), b, refl))
