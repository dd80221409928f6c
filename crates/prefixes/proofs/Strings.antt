-- Bytes, and texts: what is told of them holds.
use Rattle.std.proofs.Common.{◌≡◌, ℕ, zero, suc, ◌+◌, ◌-◌, ◌<◌, ◌≤◌, Bool, true, cond, ltb, leb, List, [], ◌∷◌, ◌++◌, length, take, replicate, sym, refl, ap, ◌∙◌, subst, inl, inr, arith, length-append, take-append-drop}
use Rattle.std.proofs.lemmas.List.{length-replicate, length-take-le}
use Rattle.std.proofs.lemmas.Bool.{le-leb, lt-leb, leb-true, cases_lt, cases_Bool, both_ways, and_from, and_parts}
use Rattle.cbor.specs.Encoding.{all_bytes}
use Rattle.cbor.specs.Utf8.{Range, leads, tails, first_in, utf8_after, TextOf}
use Rattle.cbor.specs.Prefix.{Any, Then}
use Rattle.cbor.proofs.Numbers.{bytes_append, bytes_take, bytes_replicate}
use Rattle.cbor.proofs.Utf8.{first_in_parts, Fair, tails_fair}
use Rattle.prefixes.specs.Words.{Word, Reach, joined, last_up}
use Rattle.prefixes.specs.Shapes.{BytesOf}
use Rattle.prefixes.specs.Texts.{One, Between, Ranges, FirstIn, top_of_first, CharText}
use Rattle.prefixes.specs.Walks.{Told, done, cut, wrong, Holds, on_told, carry, walk_one, between, walk_ranges, walk_bytes, walk_text}
use Rattle.prefixes.proofs.Words.{then_reach, reach_same, reach_word}
use Rattle.prefixes.proofs.Many.{empty_reach}
use Rattle.prefixes.proofs.Texts.{one_free, between_reach, ranges_some, ranges_free, text_parts, parts_text, text_some, tails_some, first_reach, text_reach_none}
use Rattle.prefixes.proofs.Raise.{bytes_reach}
use Rattle.prefixes.proofs.Told.{carry_holds, then_holds, holds_same, word_holds, ReachTold}

nil_cons : (b : ℕ) (xs : List ℕ) → [] ≡ b ∷ xs → ⊥
nil_cons b xs e = let z : ◌≡◌ {A = ℕ} 0 1 = cc in omega arith

first_same : (d b : ℕ) (xs ys : List ℕ) → b ∷ xs ≡ d ∷ ys → d ≡ b
first_same d b xs ys e = cc

-- one byte by a test that decides
pub one_holds : (P : ℕ → Type 0) (test : ℕ → Bool) → ((b : ℕ) → test b ≡ true → P b) → ((b : ℕ) → P b → test b ≡ true) → (c : ℕ) × P c → (q : List ℕ)
    → Holds (Any (One P)) (One P) q (walk_one test q)
unfolding walk_one
one_holds P test f g (c, p) [] = ((c ∷ [], (c, (refl, p))), λ u rest (b, (e, a)) h. nil_cons b rest (h ∙ ap (λ x. x ++ rest) e))
one_holds P test f g s (b ∷ q) = elim (cases_Bool (test b)) [
  | inl t ↦ rw t ((b, (refl, f b t)), (refl, f b t), refl)
  | inr t ↦ rw t (
    ([], b, q, refl, refl, (s.0 ∷ [], (s.0, (refl, s.1))), λ (r, (d, (e, a))). both_ways (test b) t (g b (subst P (first_same d b r [] e) a))),
    λ u rest (d, (e, a)) h. both_ways (test b) t (g b (subst P (first_same d b q rest (h ∙ ap (λ x. x ++ rest) e)) a)),
  )
]

between_true : (lo hi b : ℕ) → between lo hi b ≡ true → Between lo hi b
between_true lo hi b h = let p = and_parts (leb lo b) (leb b hi) h in (leb-true lo b p.0, leb-true b hi p.1)

true_between : (lo hi b : ℕ) → Between lo hi b → between lo hi b ≡ true
true_between lo hi b (h, l) = and_from (leb lo b) (leb b hi) (le-leb lo b h) (le-leb b hi l)

pub range_holds : (lo hi : ℕ) → lo ≤ hi → (q : List ℕ) → Holds (Any (One (Between lo hi))) (One (Between lo hi)) q (walk_one (between lo hi) q)
range_holds lo hi h q = one_holds (Between lo hi) (between lo hi) (λ b t. between_true lo hi b t) (λ b t. true_between lo hi b t) (lo, (omega arith, h)) q

pub ranges_holds : (rs : List Range) → Fair rs → (q : List ℕ) → ReachTold (Ranges rs) q (walk_ranges rs q)
unfolding Ranges walk_ranges
ranges_holds [] f q = (refl, empty_reach, refl)
ranges_holds (r ∷ rs) f q =
    let A = One (Between r.0 r.1) in
    let B = λ (_ : ℕ). Ranges rs in
    let on = λ (i : ℕ) (x : List ℕ) (y : A i x). ranges_some rs f.1 in
    let free = one_free (Between r.0 r.1) in
    then_holds A B free on (λ m u. Reach (Ranges rs) u m) (λ m u. Reach (Ranges (r ∷ rs)) u m) A q (walk_one (between r.0 r.1) q) _ (range_holds r.0 r.1 f.0 q)
    (λ b u rest s (p, x) e. carry_holds A B free on (λ m u. Reach (Ranges rs) u m) (λ m u. Reach (Ranges (r ∷ rs)) u m) (λ m. joined (cond (ltb b r.1) 1 0) 1 m) b u rest (walk_ranges rs rest) (p, x)
    (λ m v y t. subst (λ z. Reach (Ranges (r ∷ rs)) (z ++ v) (joined (cond (ltb b r.1) 1 0) 1 m)) (sym p) (then_reach A B free on b (b ∷ []) v (cond (ltb b r.1) 1 0) m (refl, x) (between_reach r.0 r.1 b x.0) t))
    (ranges_holds rs f.1 rest))

pub bytes_holds : (n : ℕ) (q : List ℕ) → all_bytes q ≡ true → ReachTold (BytesOf n) q (walk_bytes n q)
bytes_holds n q a = elim (cases_lt (length q) n) [
  | inl h ↦
      let more : List ℕ = replicate (n - length q) 0 in
      let l : length (q ++ more) ≡ n = length-append q more ∙ (let z = length-replicate {A = ℕ} (n - length q) 0 in omega arith) in
      rw (lt-leb n (length q) h) ((more, (l, bytes_append q more a (bytes_replicate (n - length q) 0 (omega arith)))), λ u rest (l, b) e. let z : length q ≡ length u + length rest = ap length e ∙ length-append u rest in omega arith)
  | inr h ↦
      let l = length-take-le n q h in
      rw (le-leb n (length q) h)
      ((l, bytes_take n q a), subst (λ m. Reach (BytesOf m) (take n q) (last_up (take n q))) l (bytes_reach (take n q) (bytes_take n q a)), sym (take-append-drop n q))
]

true_first_in : (n a : ℕ) → FirstIn n a → first_in n a ≡ true
true_first_in n a (h, l) = and_from (leads a) (leb (suc (length (tails a))) n) h (le-leb (suc (length (tails a))) n l)

less_suc : (n t : ℕ) → suc n - suc t ≡ n - t
less_suc n t = omega arith

-- the bytes after a character's first, and then a text
abbrev TailText : ℕ → ℕ → List ℕ → Type 0
TailText n a w = Then (Word (Ranges (tails a))) (λ t. TextOf (n - suc (length t))) w

tail_holds : (n a : ℕ) (q : List ℕ) (g : List ℕ → List ℕ → Told ℕ) → ((t rest : List ℕ) → ReachTold (TextOf (n - suc (length t))) rest (g t rest))
    → ReachTold (TailText n a) q (on_told (walk_ranges (tails a) q) (λ m t rest. carry (λ k. joined m (length t) k) t (g t rest)))
tail_holds n a q g h =
    let A = Word (Ranges (tails a)) in
    let T = λ (t : List ℕ). TextOf (n - suc (length t)) in
    let on = λ (i x : List ℕ) (y : A i x). text_some (n - suc (length i)) in
    let free = ranges_free (tails a) in
    then_holds A T free on (λ (m : ℕ) u. ℕ) (λ m u. Reach (TailText n a) u m) (λ m u. Reach (Ranges (tails a)) u m) q (walk_ranges (tails a) q) _
    (word_holds (Ranges (tails a)) (λ m u. Reach (Ranges (tails a)) u m) q (walk_ranges (tails a) q) (ranges_holds (tails a) (tails_fair a) q))
    (λ m t rest (j, (p, x)) r e. carry_holds A T free on (λ k v. Reach (TextOf (n - suc (length t))) v k) (λ k u. Reach (TailText n a) u k) (λ k. joined m (length t) k) t t rest (g t rest) (refl, x)
    (λ k v y s. then_reach A T free on t t v m k (refl, x) (reach_word (Ranges (tails a)) t m r) s) (h t rest))

text_step : (n : ℕ) (q : List ℕ) (g : List ℕ → List ℕ → Told ℕ) → 0 < n → ((t rest : List ℕ) → ReachTold (TextOf (n - suc (length t))) rest (g t rest))
    → ReachTold (CharText n) q
    (on_told (walk_one (first_in n) q) (λ a u rest. carry (λ m. joined (cond (ltb a (top_of_first n)) 1 0) 1 m) u (on_told (walk_ranges (tails a) rest) (λ m t rest. carry (λ k. joined m (length t) k) t (g t rest)))))
text_step n q g l h =
    let A = One (FirstIn n) in
    let B = λ (a : ℕ). TailText n a in
    let on = λ (i : ℕ) (x : List ℕ) (y : A i x). tails_some i n in
    let free = one_free (FirstIn n) in
    then_holds A B free on (λ (m : ℕ) u. ℕ) (λ m u. Reach (CharText n) u m) A q (walk_one (first_in n) q) _
    (one_holds (FirstIn n) (first_in n) (λ b t. first_in_parts n b t) (λ b t. true_first_in n b t) (0, (refl, omega arith)) q)
    (λ a u rest s (p, x) e. carry_holds A B free on (λ m v. Reach (TailText n a) v m) (λ m v. Reach (CharText n) v m) (λ m. joined (cond (ltb a (top_of_first n)) 1 0) 1 m) a u rest _ (p, x)
    (λ m v y t. subst (λ z. Reach (CharText n) (z ++ v) (joined (cond (ltb a (top_of_first n)) 1 0) 1 m)) (sym p) (then_reach A B free on a (a ∷ []) v (cond (ltb a (top_of_first n)) 1 0) m (refl, x) (first_reach n a x) t))
    (tail_holds n a rest g h))

chars_text : (n : ℕ) (q : List ℕ) (o : Told ℕ) → 0 < n → ReachTold (CharText n) q o → ReachTold (TextOf n) q o
chars_text n q (done i u rest) l (c, r, e) = (parts_text n u l c, reach_same (CharText n) (TextOf n) (λ w c. parts_text n w l c) (λ w c. text_parts n w l c) u i r, e)
chars_text n q cut l h = holds_same {I = ℕ} (CharText n) (TextOf n) (λ m u. Unit {0}) (λ w c. parts_text n w l c) (λ w c. text_parts n w l c) q cut h
chars_text n q (wrong p) l h = holds_same {I = ℕ} (CharText n) (TextOf n) (λ m u. Unit {0}) (λ w c. parts_text n w l c) (λ w c. text_parts n w l c) q (wrong p) h

pub text_holds : (f n : ℕ) (q : List ℕ) → n ≤ f → ReachTold (TextOf n) q (walk_text f n q)
unfolding walk_text utf8_after
text_holds f zero q h = ((refl, refl), text_reach_none, refl)
text_holds zero (suc n) q h = absurd (omega arith)
text_holds (suc f) (suc n) q h =
    chars_text (suc n) q _ (omega arith)
    (text_step (suc n) q (λ t rest. walk_text f (n - length t) rest) (omega arith)
    (λ t rest. subst (λ k. ReachTold (TextOf k) rest (walk_text f (n - length t) rest)) (sym (less_suc n (length t))) (text_holds f (n - length t) rest (omega arith))))
