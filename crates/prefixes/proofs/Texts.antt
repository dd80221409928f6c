-- Texts byte by byte, and where they can be raised.
use Rattle.std.proofs.Common.{◌≡◌, ℕ, suc, ◌+◌, ◌-◌, ◌<◌, ◌≤◌, Bool, true, false, cond, ◌&&◌, ltb, leb, List, [], ◌∷◌, ◌++◌, length, replicate, sym, refl, ap, ◌∙◌, subst, inl, inr, arith, length-append}
use Rattle.std.proofs.lemmas.List.{append-nil, nil_from_length, length-replicate}
use Rattle.std.proofs.lemmas.Bool.{lt-ltb, le-ltb, le-leb, lt-leb, leb-true, cases_lt, both_ways, and_from, and_parts, cond_both}
use Rattle.std.proofs.lemmas.Bool.Decides.{nat_tests}
use Rattle.cbor.specs.Order.{before}
use Rattle.cbor.specs.Utf8.{Range, tail, second, leads, tails, utf8_after, utf8, TextOf}
use Rattle.cbor.specs.Prefix.{Any, PrefixFree, Then}
use Rattle.cbor.proofs.Order.{before_parts}
use Rattle.cbor.proofs.Utf8.{leads_says, tails_two, tails_three, tails_four, Fair, tails_fair, utf8_replicate}
use Rattle.prefixes.specs.Words.{Apart, Word, Reach}
use Rattle.prefixes.specs.Texts.{One, Between, Ranges, ranges_reach, FirstIn, top_of_first, CharText}
use Rattle.prefixes.proofs.Words.{then_reach}
use Rattle.prefixes.proofs.Many.{nil_reach, empty_reach}

-- ONE BYTE

pub one_free : (P : ℕ → Type 0) → PrefixFree (One P)
one_free P i j u r (p, a) (q, b) =
    let e : i ∷ r ≡ j ∷ [] = ap (λ x. x ++ r) (sym p) ∙ q in
    ((cc), (cc))

one_before : (b c : ℕ) → before (b ∷ []) (c ∷ []) ≡ true → b < c
unfolding before
one_before b c h = elim (before_parts b c [] [] h) [ inl a ↦ a | inr a ↦ absurd (both_ways false refl a.1) ]

one_up : (P : ℕ → Type 0) (b c : ℕ) → P c → b < c → Reach (Any (One P)) (b ∷ []) 1
unfolding Apart
one_up P b c p l = ((λ v (i, (e, a)) m. (0, omega arith, subst (λ x. Apart 0 (b ∷ []) x) (sym e) (one_before b i (ap (λ x. before (b ∷ []) x) (sym e) ∙ m)))), (c ∷ [], (c, (refl, p)), l))

one_shut : (P : ℕ → Type 0) (b : ℕ) → ((c : ℕ) → P c → c ≤ b) → Reach (Any (One P)) (b ∷ []) 0
one_shut P b f = ((λ v (i, (e, a)) m. absurd (let z = f i a in let y = one_before b i (ap (λ x. before (b ∷ []) x) (sym e) ∙ m) in omega arith)), tt)

pub between_reach : (lo hi b : ℕ) → lo ≤ b → Reach (Any (One (Between lo hi))) (b ∷ []) (cond (ltb b hi) 1 0)
between_reach lo hi b h = elim (cases_lt b hi) [
  | inl l ↦ rw (lt-ltb b hi l) (one_up (Between lo hi) b (suc b) (omega arith, omega arith) (omega arith))
  | inr l ↦ rw (le-ltb b hi l) (one_shut (Between lo hi) b (λ c p. omega arith))
]

-- BYTES IN RANGES

pub ranges_some : (rs : List Range) → Fair rs → (t : List ℕ) × Ranges rs t
unfolding Ranges
ranges_some [] f = ([], refl)
ranges_some (r ∷ rs) f = let (t, a) = ranges_some rs f.1 in (r.0 ∷ t, (r.0, r.0 ∷ [], t, (refl, (omega arith, f.0)), a, refl))

pub ranges_length : (rs : List Range) (t : List ℕ) → Ranges rs t → length t ≡ length rs
unfolding Ranges
ranges_length [] t h = ap length h
ranges_length (r ∷ rs) t (b, u, v, (p, q), a, e) = ap length e ∙ length-append u v ∙ (let x = ranges_length rs v a in let y : length u ≡ 1 = ap length p in omega arith)

pub ranges_free : (rs : List Range) → PrefixFree (Word (Ranges rs))
ranges_free rs i j u r (p, a) (q, b) =
    let z : r ≡ [] = nil_from_length r (omega (arith, ranges_length rs u a, ranges_length rs (u ++ r) b, length-append u r)) in
    (sym p ∙ sym (append-nil u) ∙ ap (λ x. u ++ x) (sym z) ∙ q, z)

pub ranges_raise : (rs : List Range) (t : List ℕ) → Fair rs → Ranges rs t → Reach (Ranges rs) t (ranges_reach rs t)
unfolding Ranges ranges_reach
ranges_raise [] t f h = subst (λ x. Reach (λ w. w ≡ []) x 0) (sym h) empty_reach
ranges_raise (r ∷ rs) t f (b, u, v, (p, q), a, e) =
    let s = then_reach (One (Between r.0 r.1)) (λ _. Ranges rs) (one_free (Between r.0 r.1)) (λ i x y. ranges_some rs f.1) b (b ∷ []) v
    (cond (ltb b r.1) 1 0) (ranges_reach rs v) (refl, q) (between_reach r.0 r.1 b q.0) (ranges_raise rs v f.1 a) in
    subst (λ x. Reach (Then (One (Between r.0 r.1)) (λ _. Ranges rs)) x (ranges_reach (r ∷ rs) x)) (sym (e ∙ ap (λ y. y ++ v) p)) s

-- what is pending of a character, and then a text
pub pending_parts : (rs : List Range) (bs : List ℕ) → utf8_after rs bs ≡ true → (t : List ℕ) × (ys : List ℕ) × (bs ≡ t ++ ys) × Ranges rs t × (utf8 ys ≡ true)
unfolding Ranges utf8_after
pending_parts [] bs h = ([], bs, refl, refl, h)
pending_parts (r ∷ rs) [] h = absurd (both_ways false refl h)
pending_parts (r ∷ rs) (b ∷ bs) h =
    let p = and_parts (leb r.0 b && leb b r.1) (utf8_after rs bs) h in
    let q = and_parts (leb r.0 b) (leb b r.1) p.0 in
    let (t, ys, e, a, u) = pending_parts rs bs p.1 in
    (b ∷ t, ys, ap (λ x. b ∷ x) e, (b, b ∷ [], t, (refl, (leb-true r.0 b q.0, leb-true b r.1 q.1)), a, refl), u)

and_then_same : (b c d : Bool) → b ≡ true → c ≡ d → (b && c) ≡ d
and_then_same true c d e h = h
and_then_same false c d e h = absurd (both_ways false refl e)

pub pending_from : (rs : List Range) (t ys : List ℕ) → Ranges rs t → utf8_after rs (t ++ ys) ≡ utf8 ys
unfolding Ranges utf8_after
pending_from [] t ys h = ap (λ x. utf8_after [] (x ++ ys)) h
pending_from (r ∷ rs) t ys (b, u, v, (p, q), a, e) =
    ap (λ x. utf8_after (r ∷ rs) (x ++ ys)) (e ∙ ap (λ y. y ++ v) p)
    ∙ and_then_same (leb r.0 b && leb b r.1) (utf8_after rs (v ++ ys)) (utf8 ys)
    (and_from (leb r.0 b) (leb b r.1) (le-leb r.0 b q.0) (le-leb b r.1 q.1)) (pending_from rs v ys a)

-- TEXTS

pending_append : (rs : List Range) (a b : List ℕ) → utf8_after rs a ≡ true → utf8_after rs (a ++ b) ≡ utf8 b
unfolding utf8_after
pending_append [] [] b h = refl
pending_append (r ∷ rs) [] b h = absurd (both_ways false refl h)
pending_append [] (x ∷ a) b h =
    let p = and_parts (leads x) (utf8_after (tails x) a) h in
    and_then_same (leads x) (utf8_after (tails x) (a ++ b)) (utf8 b) p.0 (pending_append (tails x) a b p.1)
pending_append (r ∷ rs) (x ∷ a) b h =
    let p = and_parts (leb r.0 x && leb x r.1) (utf8_after rs a) h in
    and_then_same (leb r.0 x && leb x r.1) (utf8_after rs (a ++ b)) (utf8 b) p.0 (pending_append rs a b p.1)

pub utf8_append : (a b : List ℕ) → utf8 a ≡ true → utf8 (a ++ b) ≡ utf8 b
utf8_append a b h = pending_append [] a b h

tails_few : (a : ℕ) → length (tails a) ≤ 3
tails_few a =
    let P : List Range → Type 0 = λ rs. length rs ≤ 3 in
    cond_both (ltb a 128) [] _ P (λ _. omega arith)
    (λ _. cond_both (ltb a 224) (tail ∷ []) _ P (λ _. omega arith)
    (λ _. cond_both (ltb a 240) (second a ∷ tail ∷ []) (second a ∷ tail ∷ tail ∷ []) P (λ _. omega arith) (λ _. omega arith)))

-- a text cut off in a character goes on to its end within three bytes
pub pending_end : (rs : List Range) (c e : List ℕ) → length rs ≤ 3 → utf8_after rs (c ++ e) ≡ true
    → (k : List ℕ) × (e' : List ℕ) × (e ≡ k ++ e') × (length k ≤ 3) × (utf8_after rs (c ++ k) ≡ true)
unfolding utf8_after
pending_end rs [] e l t =
    let (k, e', p, r, u) = pending_parts rs e t in
    (k, e', p, (let z = ranges_length rs k r in omega arith), ap (utf8_after rs) (sym (append-nil k)) ∙ pending_from rs k [] r)
pending_end [] (x ∷ c) e l t =
    let p = and_parts (leads x) (utf8_after (tails x) (c ++ e)) t in
    let (k, e', q, m, v) = pending_end (tails x) c e (tails_few x) p.1 in
    (k, e', q, m, and_from (leads x) (utf8_after (tails x) (c ++ k)) p.0 v)
pending_end (r ∷ rs) (x ∷ c) e l t =
    let p = and_parts (leb r.0 x && leb x r.1) (utf8_after rs (c ++ e)) t in
    let (k, e', q, m, v) = pending_end rs c e (omega arith) p.1 in
    (k, e', q, m, and_from (leb r.0 x && leb x r.1) (utf8_after rs (c ++ k)) p.0 v)

-- a text of some length is a first byte, the bytes after it, and a text
pub text_parts : (n : ℕ) (w : List ℕ) → 0 < n → TextOf n w → CharText n w
unfolding utf8_after
text_parts n [] h (l, t) = absurd (omega arith)
text_parts n (x ∷ xs) h (l, t) =
    let p = and_parts (leads x) (utf8_after (tails x) xs) t in
    let (s, ys, e, r, u) = pending_parts (tails x) xs p.1 in
    let m = ranges_length (tails x) s r in
    let k : length xs ≡ length s + length ys = ap length e ∙ length-append s ys in
    (x, x ∷ [], xs, (refl, (p.0, omega arith)), (s, s, ys, (refl, r), (omega arith, u), e), refl)

pub parts_text : (n : ℕ) (w : List ℕ) → 0 < n → CharText n w → TextOf n w
unfolding utf8_after
parts_text n w h (b, u, v, (p, (g, m)), (i, s, ys, (q, r), (l, t), e), z) =
    let o : w ≡ b ∷ (s ++ ys) = z ∙ ap (λ y. y ++ v) p ∙ ap (λ y. b ∷ y) e in
    let y : length i ≡ length s = ap length (sym q) in
    let k : length s ≡ length (tails b) = ranges_length (tails b) s r in (
      ap length o ∙ (let a = length-append s ys in omega arith),
      ap utf8 o ∙ and_then_same (leads b) (utf8_after (tails b) (s ++ ys)) true g (pending_from (tails b) s ys r ∙ t),
    )

pub text_some : (n : ℕ) → (w : List ℕ) × TextOf n w
text_some n = (replicate n 0, (length-replicate n 0, utf8_replicate n 0 (omega arith)))

pub tails_some : (a n : ℕ) → (v : List ℕ) × Then (Word (Ranges (tails a))) (λ t. TextOf (n - suc (length t))) v
tails_some a n =
    let (t, r) = ranges_some (tails a) (tails_fair a) in
    let (w, x) = text_some (n - suc (length t)) in
    (t ++ w, (t, t, w, (refl, r), x, refl))

-- FIRST BYTES

top_least : (n : ℕ) → (127 ≤ top_of_first n) × (2 ≤ n → 223 ≤ top_of_first n) × (3 ≤ n → 239 ≤ top_of_first n) × (4 ≤ n → 244 ≤ top_of_first n)
top_least n = (grind (arith, nat_tests), (λ h. grind (arith, nat_tests)), (λ h. grind (arith, nat_tests)), λ h. grind (arith, nat_tests))

first_largest : (n a : ℕ) → FirstIn n a → a ≤ top_of_first n
first_largest n a (g, m) =
    let (t1, t2, t3, t4) = top_least n in
    elim (leads_says a g) [
      | inl h ↦ omega arith
      | inr (h, k) ↦ elim (cases_lt a 224) [
        | inl l ↦ (let e = ap length (tails_two a (omega arith) l) in let z = t2 (omega arith) in omega arith)
        | inr l ↦ elim (cases_lt a 240) [
          | inl o ↦ (let e = ap length (tails_three a l o) in let z = t3 (omega arith) in omega arith)
          | inr o ↦ (let e = ap length (tails_four a o) in let z = t4 (omega arith) in omega arith)
        ]
      ]
    ]

top_first : (n : ℕ) → 1 ≤ n → FirstIn n (top_of_first n)
top_first n h = elim (cases_lt n 2) [
  | inl a ↦ rw (lt-leb 4 n (omega arith), lt-leb 3 n (omega arith), lt-leb 2 n a) (refl, h)
  | inr a ↦ elim (cases_lt n 3) [
    | inl b ↦ rw (lt-leb 4 n (omega arith), lt-leb 3 n b, le-leb 2 n a) (refl, a)
    | inr b ↦ elim (cases_lt n 4) [ inl c ↦ rw (lt-leb 4 n c, le-leb 3 n b) (refl, b) | inr c ↦ rw (le-leb 4 n c) (refl, c) ]
  ]
]

pub first_reach : (n a : ℕ) → FirstIn n a → Reach (Any (One (FirstIn n))) (a ∷ []) (cond (ltb a (top_of_first n)) 1 0)
first_reach n a h = elim (cases_lt a (top_of_first n)) [
  | inl l ↦ rw (lt-ltb a (top_of_first n) l) (one_up (FirstIn n) a (top_of_first n) (top_first n (let z = h.1 in omega arith)) l)
  | inr l ↦ rw (le-ltb a (top_of_first n) l) (one_shut (FirstIn n) a (λ c p. let z = first_largest n c p in omega arith))
]

pub text_reach_none : Reach (TextOf 0) [] 0
text_reach_none = nil_reach (TextOf 0) (λ w (l, t). nil_from_length w l)
