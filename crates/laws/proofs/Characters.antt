-- Texts by their characters: the table of ranges is the encoding of Unicode scalar values.
use Rattle.std.proofs.Common.{◌≡◌, ℕ, zero, suc, ◌+◌, ◌-◌, ◌*◌, ◌/◌, ◌<◌, ◌≤◌, Bool, true, false, ◌&&◌, eqb, leb, ◌⊎◌, List, [], ◌∷◌, ◌++◌, length, IsUtf8, sym, refl, ap, ◌∙◌, inl, inr, arith, length-append}
use lib.Utf8.{scalar, scalars, encode, encodes, next, scalar_cases}
use Rattle.std.proofs.lemmas.Str.{length-encode, len_utf8_bounds}
use Rattle.std.proofs.lemmas.Bool.{both_ways, lt-ltb, le-ltb, le-leb, leb-true, eqb-true, and_parts, and_from, cases_lt, cases_order, cond_both}
use Rattle.cbor.specs.Utf8.{Range, tail, second, leads, tails, utf8_after, utf8}
use Rattle.cbor.proofs.Utf8.{leads_from, leads_says, tails_two, tails_three, tails_four}
use Rattle.laws.specs.Laws.{Utf8ByCharacters}

abbrev within : Range → ℕ → Bool
within r b = leb r.0 b && leb b r.1

within_from : (lo hi b : ℕ) → lo ≤ b → b ≤ hi → within (lo, hi) b ≡ true
within_from lo hi b h l = and_from (leb lo b) (leb b hi) (le-leb lo b h) (le-leb b hi l)

within_says : (r : Range) (b : ℕ) → within r b ≡ true → (r.0 ≤ b) × (b ≤ r.1)
within_says r b h = let p = and_parts (leb r.0 b) (leb b r.1) h in (leb-true r.0 b p.0, leb-true b r.1 p.1)

-- what the table asks of a second byte, after any first one and after each that has a range of its own
record Second (a b : ℕ) : Type 0 where
  low : 128 ≤ b
  high : b ≤ 191
  three_shortest : a ≡ 224 → 160 ≤ b
  no_surrogate : a ≡ 237 → b ≤ 159
  four_shortest : a ≡ 240 → 144 ≤ b
  no_higher : a ≡ 244 → b ≤ 143

second_tail : (a b : ℕ) → within (second a) b ≡ true → (128 ≤ b) × (b ≤ 191)
second_tail a b =
    let P : Range → Type 0 = λ r. within r b ≡ true → (128 ≤ b) × (b ≤ 191) in
    cond_both (eqb a 224) (160, 191) _ P (λ _. narrow 160 191 (omega arith) (omega arith))
    (λ _. cond_both (eqb a 237) (128, 159) _ P (λ _. narrow 128 159 (omega arith) (omega arith))
    (λ _. cond_both (eqb a 240) (144, 191) _ P (λ _. narrow 144 191 (omega arith) (omega arith))
    (λ _. cond_both (eqb a 244) (128, 143) tail P (λ _. narrow 128 143 (omega arith) (omega arith)) (λ _. within_says tail b))))
  where
    narrow : (lo hi : ℕ) → 128 ≤ lo → hi ≤ 191 → within (lo, hi) b ≡ true → (128 ≤ b) × (b ≤ 191)
    narrow lo hi l g h = let p = within_says (lo, hi) b h in (omega arith, omega arith)

second_says : (a b : ℕ) → within (second a) b ≡ true → Second a b
second_says a b h = record {
  low = (second_tail a b h).0;
  high = (second_tail a b h).1;
  three_shortest = λ e. (within_says (160, 191) b (rw e at h)).0;
  no_surrogate = λ e. (within_says (128, 159) b (rw e at h)).1;
  four_shortest = λ e. (within_says (144, 191) b (rw e at h)).0;
  no_higher = λ e. (within_says (128, 143) b (rw e at h)).1;
}

second_fits : (a b : ℕ) → Second a b → within (second a) b ≡ true
second_fits a b s =
    let P : Range → Type 0 = λ r. within r b ≡ true in
    cond_both (eqb a 224) (160, 191) _ P (λ e. within_from 160 191 b (s.three_shortest (eqb-true a 224 e)) s.high)
    (λ _. cond_both (eqb a 237) (128, 159) _ P (λ e. within_from 128 159 b s.low (s.no_surrogate (eqb-true a 237 e)))
    (λ _. cond_both (eqb a 240) (144, 191) _ P (λ e. within_from 144 191 b (s.four_shortest (eqb-true a 240 e)) s.high)
    (λ _. cond_both (eqb a 244) (128, 143) tail P (λ e. within_from 128 143 b s.low (s.no_higher (eqb-true a 244 e))) (λ _. within_from 128 191 b s.low s.high))))

-- CHARACTERS, BY THEIR CLASS

encode_one : (c : ℕ) → c < 128 → encode c ≡ c ∷ []
unfolding encode
encode_one c h = rw (lt-ltb c 128 h)

encode_two : (c : ℕ) → 128 ≤ c → c < 2048 → encode c ≡ (192 + c / 64) ∷ next c ∷ []
unfolding encode
encode_two c h l = rw (le-ltb c 128 h, lt-ltb c 2048 l)

encode_three : (c : ℕ) → 2048 ≤ c → c < 65536 → encode c ≡ (224 + c / 4096) ∷ next (c / 64) ∷ next c ∷ []
unfolding encode
encode_three c h l = rw (le-ltb c 128 (omega arith), le-ltb c 2048 h, lt-ltb c 65536 l)

encode_four : (c : ℕ) → 65536 ≤ c → encode c ≡ (240 + c / 262144) ∷ next (c / 4096) ∷ next (c / 64) ∷ next c ∷ []
unfolding encode
encode_four c h = rw (le-ltb c 128 (omega arith), le-ltb c 2048 (omega arith), le-ltb c 65536 h)

scalar_from : (c : ℕ) → (c < 55296) ⊎ ((57344 ≤ c) × (c < 1114112)) → scalar c ≡ true
scalar_from c (inl h) = rw (lt-ltb c 55296 h)
scalar_from c (inr (h, l)) = rw (le-ltb c 55296 (omega arith), le-leb 57344 c h, lt-ltb c 1114112 l)

-- CHARACTERS PASS

step_first : (a : ℕ) (rs : List Range) (bs : List ℕ) → leads a ≡ true → tails a ≡ rs → utf8_after [] (a ∷ bs) ≡ utf8_after rs bs
unfolding utf8_after
step_first a rs bs h e = ap (λ x. x && utf8_after (tails a) bs) h ∙ ap (λ x. utf8_after x bs) e

step_next : (r : Range) (rs : List Range) (b : ℕ) (bs : List ℕ) → within r b ≡ true → utf8_after (r ∷ rs) (b ∷ bs) ≡ utf8_after rs bs
unfolding utf8_after
step_next r rs b bs h = ap (λ x. x && utf8_after rs bs) h

step_tail : (rs : List Range) (c : ℕ) (bs : List ℕ) → utf8_after (tail ∷ rs) (next c ∷ bs) ≡ utf8_after rs bs
step_tail rs c bs = step_next tail rs (next c) bs (within_from 128 191 (next c) (omega arith) (omega arith))

pub character_passes : (c : ℕ) (rest : List ℕ) → scalar c ≡ true → utf8 (encode c ++ rest) ≡ utf8 rest
character_passes c rest h =
    let s = scalar_cases c h in
    elim (cases_lt c 128) [
      | inl i ↦ rw (encode_one c i) (step_first c [] rest (leads_from c (inl i)) (rw (lt-ltb c 128 i)))
      | inr i ↦ elim (cases_lt c 2048) [
        | inl j ↦
            let a = 192 + c / 64 in
            rw (encode_two c i j)
            (step_first a (tail ∷ []) (next c ∷ rest) (leads_from a (inr (omega arith, omega arith))) (tails_two a (omega arith) (omega arith))
            ∙ step_tail [] c rest)
        | inr j ↦ elim (cases_lt c 65536) [
          | inl k ↦
              let a = 224 + c / 4096 in
              let b = next (c / 64) in
              let fits : Second a b = record {
                low = omega arith;
                high = omega arith;
                three_shortest = λ e. omega arith;
                no_surrogate = λ e. omega arith;
                four_shortest = λ e. omega arith;
                no_higher = λ e. omega arith;
              } in
              rw (encode_three c j k)
              (step_first a (second a ∷ tail ∷ []) (b ∷ next c ∷ rest) (leads_from a (inr (omega arith, omega arith))) (tails_three a (omega arith) (omega arith))
              ∙ step_next (second a) (tail ∷ []) b (next c ∷ rest) (second_fits a b fits)
              ∙ step_tail [] c rest)
          | inr k ↦
              let a = 240 + c / 262144 in
              let b = next (c / 4096) in
              let fits : Second a b = record {
                low = omega arith;
                high = omega arith;
                three_shortest = λ e. omega arith;
                no_surrogate = λ e. omega arith;
                four_shortest = λ e. omega arith;
                no_higher = λ e. omega arith;
              } in
              rw (encode_four c k)
              (step_first a (second a ∷ tail ∷ tail ∷ []) (b ∷ next (c / 64) ∷ next c ∷ rest) (leads_from a (inr (omega arith, omega arith))) (tails_four a (omega arith))
              ∙ step_next (second a) (tail ∷ tail ∷ []) b (next (c / 64) ∷ next c ∷ rest) (second_fits a b fits)
              ∙ step_tail (tail ∷ []) (c / 64) (next c ∷ rest)
              ∙ step_tail [] c rest)
        ]
      ]
    ]

characters_pass : (cs : List ℕ) → scalars cs ≡ true → utf8 (encodes cs) ≡ true
unfolding utf8_after
characters_pass [] h = refl
characters_pass (c ∷ cs) h = let p = and_parts (scalar c) (scalars cs) h in character_passes c (encodes cs) p.0 ∙ characters_pass cs p.1

-- WHAT PASSES BEGINS WITH A CHARACTER

pending : (r : Range) (rs : List Range) (bs : List ℕ) → utf8_after (r ∷ rs) bs ≡ true
    → (b : ℕ) × (rest : List ℕ) × (bs ≡ b ∷ rest) × (within r b ≡ true) × (utf8_after rs rest ≡ true)
unfolding utf8_after
pending r rs [] h = absurd (both_ways false refl h)
pending r rs (b ∷ bs) h = let p = and_parts (within r b) (utf8_after rs bs) h in (b, bs, refl, p.0, p.1)

abbrev IsTail : ℕ → Type 0
IsTail b = (128 ≤ b) × (b ≤ 191)

two_bytes : (a b c : ℕ) → 194 ≤ a → a < 224 → IsTail b → c ≡ (a - 192) * 64 + (b - 128) → (scalar c ≡ true) × (encode c ≡ a ∷ b ∷ [])
two_bytes a b c h l t e =
    let x : 192 + c / 64 ≡ a = omega arith in
    let y : next c ≡ b = omega arith in
    (scalar_from c (inl (omega arith)), encode_two c (omega arith) (omega arith) ∙ (λ k. x k ∷ y k ∷ []))

three_bytes : (a b d c : ℕ) → 224 ≤ a → a < 240 → Second a b → IsTail d → c ≡ (a - 224) * 4096 + (b - 128) * 64 + (d - 128)
    → (scalar c ≡ true) × (encode c ≡ a ∷ b ∷ d ∷ [])
three_bytes a b d c h l s t e =
    let low = s.low in
    let high = s.high in
    let x : 224 + c / 4096 ≡ a = omega arith in
    let y : next (c / 64) ≡ b = omega arith in
    let z : next c ≡ d = omega arith in
    let least : 2048 ≤ c = elim (cases_lt 224 a) [ inl g ↦ omega arith | inr g ↦ omega (arith, s.three_shortest (omega arith)) ] in (
      scalar_from c (elim (cases_order a 237) [ inl g ↦ inl (omega (arith, s.no_surrogate g)) | inr (inl g) ↦ inl (omega arith) | inr (inr g) ↦ inr (omega arith, omega arith) ]),
      encode_three c least (omega arith) ∙ (λ k. x k ∷ y k ∷ z k ∷ []),
    )

four_bytes : (a b d f c : ℕ) → 240 ≤ a → a ≤ 244 → Second a b → IsTail d → IsTail f → c ≡ (a - 240) * 262144 + (b - 128) * 4096 + (d - 128) * 64 + (f - 128)
    → (scalar c ≡ true) × (encode c ≡ a ∷ b ∷ d ∷ f ∷ [])
four_bytes a b d f c h l s t u e =
    let low = s.low in
    let high = s.high in
    let x : 240 + c / 262144 ≡ a = omega arith in
    let y : next (c / 4096) ≡ b = omega arith in
    let z : next (c / 64) ≡ d = omega arith in
    let w : next c ≡ f = omega arith in
    let least : 65536 ≤ c = elim (cases_lt 240 a) [ inl g ↦ omega arith | inr g ↦ omega (arith, s.four_shortest (omega arith)) ] in
    let most : c < 1114112 = elim (cases_lt a 244) [ inl g ↦ omega arith | inr g ↦ omega (arith, s.no_higher (omega arith)) ] in
    (scalar_from c (inr (omega arith, most)), encode_four c least ∙ (λ k. x k ∷ y k ∷ z k ∷ w k ∷ []))

-- a character, and what passes after it
abbrev CharacterFirst : List ℕ → Type 0
CharacterFirst bs = (c : ℕ) × (rest : List ℕ) × (scalar c ≡ true) × (bs ≡ encode c ++ rest) × (utf8 rest ≡ true)

first_two : (a : ℕ) (bs : List ℕ) → 194 ≤ a → a < 224 → utf8_after (tail ∷ []) bs ≡ true → CharacterFirst (a ∷ bs)
first_two a bs l g h =
    let (b, rest, e, i, u) = pending tail [] bs h in
    let c = (a - 192) * 64 + (b - 128) in
    let p = two_bytes a b c l g (within_says tail b i) refl in
    (c, rest, p.0, ap (λ x. a ∷ x) e ∙ ap (λ x. x ++ rest) (sym p.1), u)

first_three : (a : ℕ) (bs : List ℕ) → 224 ≤ a → a < 240 → utf8_after (second a ∷ tail ∷ []) bs ≡ true → CharacterFirst (a ∷ bs)
first_three a bs l g h =
    let (b, r, e, i, u) = pending (second a) (tail ∷ []) bs h in
    let (d, rest, f, k, v) = pending tail [] r u in
    let c = (a - 224) * 4096 + (b - 128) * 64 + (d - 128) in
    let p = three_bytes a b d c l g (second_says a b i) (within_says tail d k) refl in
    (c, rest, p.0, ap (λ x. a ∷ x) (e ∙ ap (λ x. b ∷ x) f) ∙ ap (λ x. x ++ rest) (sym p.1), v)

first_four : (a : ℕ) (bs : List ℕ) → 240 ≤ a → a ≤ 244 → utf8_after (second a ∷ tail ∷ tail ∷ []) bs ≡ true → CharacterFirst (a ∷ bs)
first_four a bs l g h =
    let (b, r, e, i, u) = pending (second a) (tail ∷ tail ∷ []) bs h in
    let (d, s, f, k, v) = pending tail (tail ∷ []) r u in
    let (m, rest, n, o, w) = pending tail [] s v in
    let c = (a - 240) * 262144 + (b - 128) * 4096 + (d - 128) * 64 + (m - 128) in
    let p = four_bytes a b d m c l g (second_says a b i) (within_says tail d k) (within_says tail m o) refl in
    (c, rest, p.0, ap (λ x. a ∷ x) (e ∙ ap (λ x. b ∷ x) (f ∙ ap (λ x. d ∷ x) n)) ∙ ap (λ x. x ++ rest) (sym p.1), w)

pub first_character : (a : ℕ) (bs : List ℕ) → utf8 (a ∷ bs) ≡ true → CharacterFirst (a ∷ bs)
unfolding utf8_after
first_character a bs h =
    let p = and_parts (leads a) (utf8_after (tails a) bs) h in
    let k = leads_says a p.0 in
    elim (cases_lt a 128) [
      | inl i ↦
          let e : tails a ≡ [] = rw (lt-ltb a 128 i) in
          (a, bs, scalar_from a (inl (omega arith)), rw (encode_one a i), rw e at p.1)
      | inr i ↦ elim (cases_lt a 224) [
        | inl j ↦ first_two a bs (omega arith) j (rw (tails_two a i j) at p.1)
        | inr j ↦ elim (cases_lt a 240) [
          | inl l ↦ first_three a bs j l (rw (tails_three a j l) at p.1)
          | inr l ↦ first_four a bs l (omega arith) (rw (tails_four a l) at p.1)
        ]
      ]
    ]

characters_of : (n : ℕ) (bs : List ℕ) → length bs ≤ n → utf8 bs ≡ true → IsUtf8 bs
characters_of n [] l h = ([], (refl, refl))
characters_of zero (a ∷ bs) l h = absurd (omega arith)
characters_of (suc n) (a ∷ bs) l h =
    let (c, rest, s, e, u) = first_character a bs h in
    let shorter : length rest ≤ n = omega (arith, ap length e, length-append (encode c) rest, length-encode c, len_utf8_bounds c) in
    let (cs, (t, f)) = characters_of n rest shorter u in
    (c ∷ cs, (and_from (scalar c) (scalars cs) s t, ap (λ x. encode c ++ x) f ∙ sym e))

pub utf8_by_characters : Utf8ByCharacters
utf8_by_characters bs = (λ h. characters_of (length bs) bs (omega arith) h, λ (cs, (s, e)). ap utf8 (sym e) ∙ characters_pass cs s)
