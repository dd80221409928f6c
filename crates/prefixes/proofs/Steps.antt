-- The walks' steps, in the forms that loops want: by a count above 0, and at places.
use Rattle.std.proofs.Common.{◌≡◌, ℕ, zero, suc, ◌+◌, ◌-◌, ◌<◌, ◌≤◌, cond, ltb, List, [], ◌∷◌, ◌++◌, length, take, drop, sym, refl, ap, ◌∙◌, arith, take-append-drop}
use Rattle.std.proofs.lemmas.List.{length-take-le, length-drop}
use Rattle.cbor.specs.Utf8.{tails, first_in}
use Rattle.prefixes.specs.Words.{joined}
use Rattle.prefixes.specs.Texts.{top_of_first}
use Rattle.prefixes.specs.Walks.{Told, done, cut, wrong, on_told, carry, odd_next, odd_at, walk_many, next_key, reach_of_key, walk_pairs, walk_one, walk_ranges, walk_text}
use Rattle.prefixes.proofs.Items.{down_one}

pub many_step : (walk : List ℕ → Told (ℕ × ℕ)) (n : ℕ) (q : List ℕ) → 0 < n
    → walk_many walk n q ≡ on_told (walk q) (λ i u rest. carry (λ m. joined i.0 (length u) m) u (walk_many walk (n - 1) rest))
unfolding walk_many
many_step walk zero q h = absurd (omega arith)
many_step walk (suc n) q h = simp (down_one n)

pub pairs_step : (walk : ℕ → List ℕ → Told (ℕ × ℕ)) (n : ℕ) (last : List (List ℕ × ℕ)) (q : List ℕ) → 0 < n
    → walk_pairs walk n last q ≡ on_told (next_key last q (walk (n - 1) q)) (λ i k rest. carry (λ m. joined (reach_of_key (n - 1) i) (length k) m) k
    (on_told (walk 0 rest) (λ j v rest. carry (λ m. joined j.0 (length v) m) v (walk_pairs walk (n - 1) ((k, i.0) ∷ []) rest))))
unfolding walk_pairs
pairs_step walk zero last q h = absurd (omega arith)
pairs_step walk (suc n) last q h = simp (down_one n)

-- what comes after the same word
pub on_same : {I J : Type 0} (o : Told I) (f g : I → List ℕ → List ℕ → Told J) → ((i : I) (u rest : List ℕ) → f i u rest ≡ g i u rest) → on_told o f ≡ on_told o g
on_same (done i u rest) f g h = h i u rest
on_same cut f g h = refl
on_same (wrong p) f g h = refl

-- a text's fuel doesn't matter
pub text_fuel : (f g n : ℕ) (q : List ℕ) → n ≤ f → n ≤ g → walk_text f n q ≡ walk_text g n q
unfolding walk_text
text_fuel f g zero q h l = refl
text_fuel zero g (suc n) q h l = absurd (omega arith)
text_fuel (suc f) zero (suc n) q h l = absurd (omega arith)
text_fuel (suc f) (suc g) (suc n) q h l =
    on_same (walk_one (first_in (suc n)) q) _ _ (λ a u rest. ap (λ o. carry (λ m. joined (cond (ltb a (top_of_first (suc n))) 1 0) 1 m) u o)
    (on_same (walk_ranges (tails a) rest) _ _ (λ m t x. ap (λ o. carry (λ k. joined m (length t) k) t o) (text_fuel f g (n - length t) x (omega arith) (omega arith)))))

-- the last key is looked at within its reach only, so what stands after it doesn't matter
pub odd_front : (m : ℕ) (l x q : List ℕ) → m ≤ length l → odd_at m (l ++ x) q ≡ odd_at m l q
unfolding odd_at
odd_front zero l x q h = refl
odd_front (suc m) [] x q h = absurd (omega arith)
odd_front (suc m) (c ∷ l) x [] h = refl
odd_front (suc m) (c ∷ l) x (b ∷ q) h = ap (λ js. cond (ltb b c) (0 ∷ []) (cond (ltb c b) [] (odd_next m js))) (odd_front m l x q (omega arith))

pub odd_part : (bs : List ℕ) (last n m : ℕ) (q : List ℕ) → m ≤ n → last + n ≤ length bs → odd_at m (take n (drop last bs)) q ≡ odd_at m (drop last bs) q
odd_part bs last n m q h k =
    let l : length (take n (drop last bs)) ≡ n = length-take-le n (drop last bs) (let z = length-drop last bs in omega arith) in
    sym (odd_front m (take n (drop last bs)) (drop n (drop last bs)) q (omega arith)) ∙ ap (λ x. odd_at m x q) (take-append-drop n (drop last bs))
