-- Characters and texts, at places.
use Rattle.std.proofs.Common.{◌≡◌, ℕ, zero, suc, ◌+◌, ◌-◌, ◌<◌, ◌≤◌, false, cond, ltb, List, [], ◌∷◌, ◌++◌, length, get_or, take, drop, Some, None, Bor, sym, refl, ap, ◌∙◌, subst, arith}
use Rattle.std.proofs.lemmas.List.{drop_all, length-drop, get_or-take, get_or-drop}
use Rattle.std.proofs.lemmas.Bool.{lt-leb, cond_both}
use Rattle.std.proofs.Math.Bool.{and-false}
use Rattle.cbor.specs.Utf8.{Range, tail, second, leads, tails}
use Rattle.items.proofs.Texts.{Follows, tails_follow}
use Rattle.std.specs.Int.{from_bool}
use Rattle.std.specs.Slice.{IsItemAt}
use Rattle.items.proofs.Skips.{lent_is}
use Rattle.cbor.proofs.Places.{part_length, at_first}
use Rattle.prefixes.specs.Words.{joined}
use Rattle.prefixes.specs.Texts.{first_in, top_of_first}
use Rattle.prefixes.specs.Walks.{Told, done, cut, wrong, on_told, carry, walk_one, walk_ranges, walk_text, between}
use Rattle.reach.specs.declared.Extent.{Extent}
use Rattle.reach.specs.Measured.{DoneSo, NeverDone, Bounds, walk_char, CharExtends}
use Rattle.reach.proofs.Parts.{then_so, then_never, stop_never, carry_never, none_so, one_so, joined_twice, joined_within, byte_is, byte_within, Rest, rest_start, rest_more, rest_end}

-- THE BYTES AFTER A CHARACTER'S FIRST

-- what is left of them gives the character
abbrev pub LeftSo : List ℕ → ℕ → ℕ → Range → ℕ → Type 0
LeftSo bs at end r m = (rs : List Range) → Follows r rs → length rs ≡ end - at → DoneSo bs at end m (walk_ranges rs (drop at bs))

abbrev pub CharSo : List ℕ → ℕ → ℕ → ℕ → ℕ → Range → ℕ → Type 0
CharSo bs at end left place r reach = (at + reach ≤ place) × ((m : ℕ) → LeftSo bs place end r m → DoneSo bs at end (joined reach (place - at) m) (walk_char left (drop at bs)))

left_more : (bs : List ℕ) (at end : ℕ) (r : Range) (m : ℕ) → at < end → end ≤ length bs → LeftSo bs (at + 1) end tail m → LeftSo bs at end r (joined (cond (ltb (get_or bs at 0) r.1) 1 0) 1 m)
unfolding walk_ranges
left_more bs at end r m h l s [] t e = absurd (omega arith)
left_more bs at end r m h l s (q ∷ rs) (p, t) e =
    subst (λ k. DoneSo bs at end (joined (cond (ltb (get_or bs at 0) k.1) 1 0) 1 m) (walk_ranges (q ∷ rs) (drop at bs))) p
    (then_so bs at (at + 1) (get_or bs at 0) (walk_one (between q.0 q.1) (drop at bs)) (λ b u rest. walk_ranges rs rest) (λ b u k. joined (cond (ltb b q.1) 1 0) 1 k) end m (omega arith) (omega arith)
    (one_so bs at (between q.0 q.1) (omega arith)) (s rs t (omega arith)))

char_start : (bs : List ℕ) (at end left reach : ℕ) (r : Range) → at < length bs → end ≡ at + suc (length (tails (get_or bs at 0))) → r ≡ second (get_or bs at 0) → reach ≡ from_bool (ltb (get_or bs at 0) (top_of_first left)) → CharSo bs at end left (at + 1) r reach
char_start bs at end left reach r h e f g =
    let z : at + 1 - at ≡ 1 = omega arith in (
      omega (arith, byte_within (ltb (get_or bs at 0) (top_of_first left))),
      λ m s.
          rw (z, g, byte_is)
          (then_so bs at (at + 1) (get_or bs at 0) (walk_one (first_in left) (drop at bs)) (λ a u rest. walk_ranges (tails a) rest) (λ a u k. joined (cond (ltb a (top_of_first left)) 1 0) 1 k) end m (omega arith) (omega arith)
          (one_so bs at (first_in left) h) (s (tails (get_or bs at 0)) (rw f (tails_follow (get_or bs at 0))) (omega arith))),
    )

char_more : (bs : List ℕ) (at end left place reach k n : ℕ) (r : Range) → at < place → place < end → end ≤ length bs → CharSo bs at end left place r reach → k ≡ from_bool (ltb (get_or bs place 0) r.1) → n ≡ joined reach (place - at) k → CharSo bs at end left (place + 1) tail n
char_more bs at end left place reach k n r h i l (within, so) e f =
    let z : place + 1 - at ≡ place - at + 1 = omega arith in
    let b = byte_within (ltb (get_or bs place 0) r.1) in (
      rw f (joined_within at place (place + 1) reach k within (omega arith)),
      λ m s.
          rw (z, f, joined_twice reach (place - at) k 1 m, e, byte_is)
          (so (joined (cond (ltb (get_or bs place 0) r.1) 1 0) 1 m) (left_more bs place end r m i l s)),
    )

char_end : (bs : List ℕ) (at end left place reach : ℕ) (r : Range) → place ≡ end → CharSo bs at end left place r reach → (at + reach ≤ end) × DoneSo bs at end reach (walk_char left (drop at bs))
unfolding walk_ranges
char_end bs at end left place reach r e (within, so) = (omega arith, so 0 left_none)
  where
    left_none : LeftSo bs place end r 0
    left_none [] t f = none_so bs place end 0 (sym e)
    left_none (q ∷ rs) t f = absurd (omega arith)

-- the same by how many of them have been gone over
pub char_first : (bs : List ℕ) (at end left reach : ℕ) (r : Range) → at < length bs → end ≡ at + suc (length (tails (get_or bs at 0))) → r ≡ second (get_or bs at 0) → reach ≡ from_bool (ltb (get_or bs at 0) (top_of_first left)) → CharSo bs at end left (at + 1 + 0) r reach
char_first bs at end left reach r h e f g = subst (λ p. CharSo bs at end left p r reach) (let z : at + 1 ≡ at + 1 + 0 = omega arith in z) (char_start bs at end left reach r h e f g)

pub char_next : (bs : List ℕ) (at end left i reach k n : ℕ) (r : Range) → at + 1 ≤ end → end ≤ length bs → i < length (take (end - (at + 1)) (drop (at + 1) bs)) → CharSo bs at end left (at + 1 + i) r reach → k ≡ from_bool (ltb (get_or (take (end - (at + 1)) (drop (at + 1) bs)) i 0) r.1) → n ≡ joined reach (i + 1) k → CharSo bs at end left (at + 1 + (i + 1)) tail n
char_next bs at end left i reach k n r h l j so e f =
    let z = part_length bs (at + 1) end h l in
    let b : get_or (take (end - (at + 1)) (drop (at + 1) bs)) i 0 ≡ get_or bs (at + 1 + i) 0 = get_or-take (end - (at + 1)) (drop (at + 1) bs) i 0 (omega (arith, z)) ∙ get_or-drop (at + 1) bs i 0 in
    let p : i + 1 ≡ at + 1 + i - at = omega arith in
    subst (λ q. CharSo bs at end left q tail n) (let y : at + 1 + i + 1 ≡ at + 1 + (i + 1) = omega arith in y)
    (char_more bs at end left (at + 1 + i) reach k n r (omega arith) (omega (arith, z)) l so (e ∙ ap (λ x. from_bool (ltb x r.1)) b) (f ∙ ap (λ x. joined reach x k) p))

pub char_last : (bs : List ℕ) (at end left i reach : ℕ) (r : Range) → at + 1 ≤ end → end ≤ length bs → length (take (end - (at + 1)) (drop (at + 1) bs)) ≤ i → i ≤ length (take (end - (at + 1)) (drop (at + 1) bs)) → CharSo bs at end left (at + 1 + i) r reach → (at + reach ≤ end) × DoneSo bs at end reach (walk_char left (drop at bs))
char_last bs at end left i reach r h l j k so = char_end bs at end left (at + 1 + i) reach r (omega (arith, part_length bs (at + 1) end h l)) so

-- too few bytes
ranges_short : (rs : List Range) (q : List ℕ) → length q < length rs → NeverDone (walk_ranges rs q)
unfolding walk_ranges walk_one
ranges_short [] q h = absurd (omega arith)
ranges_short (r ∷ rs) [] h = tt
ranges_short (r ∷ rs) (b ∷ q) h =
    cond_both (between r.0 r.1 b) (done b (b ∷ []) q) (wrong 0) (λ t. NeverDone (on_told t (λ b u rest. carry (λ m. joined (cond (ltb b r.1) 1 0) 1 m) u (walk_ranges rs rest))))
    (λ e. carry_never (λ m. joined (cond (ltb b r.1) 1 0) 1 m) (b ∷ []) (walk_ranges rs q) (ranges_short rs q (omega arith))) (λ e. tt)

pub char_past : (bs : List ℕ) (at left : ℕ) → IsItemAt bs at None → NeverDone (walk_char left (drop at bs))
unfolding walk_one
char_past bs at left (a, b, c, l, d) = rw (drop_all at bs l) tt

module _ (bs : List ℕ) (at left size : ℕ) (first : Bor ℕ) (there : IsItemAt bs at (Some first)) (is : size ≡ suc (length (tails first.now))) where
  size_is : size ≡ suc (length (tails (get_or bs at 0)))
  size_is = is ∙ ap (λ b. suc (length (tails b))) (lent_is bs at first there)

  pub char_short : length bs < at + size → NeverDone (walk_char left (drop at bs))
  char_short l =
      let h = size_is in
      then_never bs at (at + 1) (get_or bs at 0) (walk_one (first_in left) (drop at bs)) (λ a u rest. walk_ranges (tails a) rest) (λ a u k. joined (cond (ltb a (top_of_first left)) 1 0) 1 k)
      (one_so bs at (first_in left) there.3.0) (ranges_short (tails (get_or bs at 0)) (drop (at + 1) bs) (rw (length-drop (at + 1) bs) (omega arith)))

  pub char_over : left < size → NeverDone (walk_char left (drop at bs))
  unfolding walk_one
  char_over l =
      let h = size_is in
      let e : first_in left (get_or bs at 0) ≡ false = rw (lt-leb (suc (length (tails (get_or bs at 0)))) left (omega arith)) (and-false (leads (get_or bs at 0))) in
      rw (at_first bs at there.3.0, e) tt

-- A TEXT

after_char : (w : ℕ → List ℕ → Told ℕ) (n g b : ℕ) (t : Told ℕ)
    → carry (λ m. joined g 1 m) (b ∷ []) (on_told t (λ m v rest. carry (λ k. joined m (length v) k) v (w (n - length v) rest)))
    ≡ on_told (carry (λ m. joined g 1 m) (b ∷ []) t) (λ m v rest. carry (λ k. joined m (length v) k) v (w (suc n - length v) rest))
after_char w n g b cut = refl
after_char w n g b (wrong p) = refl
after_char w n g b (done m v rest) =
    let z : suc n - suc (length v) ≡ n - length v = omega arith in
    rw z (both (w (n - length v) rest))
  where
    both : (t : Told ℕ) → carry (λ m. joined g 1 m) (b ∷ []) (carry (λ k. joined m (length v) k) v t) ≡ carry (λ k. joined (joined g 1 m) (suc (length v)) k) (b ∷ v) t
    both (done k x rest) = let z : suc (length v) ≡ 1 + length v = omega arith in rw z (ap (λ r. done r (b ∷ (v ++ x)) rest) (sym (joined_twice g 1 m (length v) k)))
    both cut = refl
    both (wrong p) = ap wrong (let z : 1 + (length v + p) ≡ suc (length v) + p = omega arith in z)

text_is : (f n : ℕ) (q : List ℕ) → 0 < f → 0 < n → walk_text f n q ≡ on_told (walk_char n q) (λ m u rest. carry (λ k. joined m (length u) k) u (walk_text (f - 1) (n - length u) rest))
unfolding walk_text walk_one
text_is zero n q h l = absurd (omega arith)
text_is (suc f) zero q h l = absurd (omega arith)
text_is (suc f) (suc n) [] h l = refl
text_is (suc f) (suc n) (b ∷ q) h l =
    let z : suc f - 1 ≡ f = omega arith in
    rw z
    (cond_both (first_in (suc n) b) (done b (b ∷ []) q) (wrong 0)
    (λ t. on_told t (λ a u rest. carry (λ m. joined (cond (ltb a (top_of_first (suc n))) 1 0) 1 m) u (on_told (walk_ranges (tails a) rest) (λ m t rest. carry (λ k. joined m (length t) k) t (walk_text f (n - length t) rest))))
    ≡ on_told (on_told t (λ a u rest. carry (λ m. joined (cond (ltb a (top_of_first (suc n))) 1 0) 1 m) u (walk_ranges (tails a) rest))) (λ m u rest. carry (λ k. joined m (length u) k) u (walk_text f (suc n - length u) rest)))
    (λ e. after_char (walk_text f) n (cond (ltb b (top_of_first (suc n))) 1 0) b (walk_ranges (tails b) q)) (λ e. refl))

module _ (bs : List ℕ) (at mid f n m : ℕ) (h : 0 < f) (l : 0 < n) where
  text_so : (end k : ℕ) → at ≤ mid → mid ≤ end → mid ≤ length bs → DoneSo bs at mid m (walk_char n (drop at bs)) → DoneSo bs mid end k (walk_text (f - 1) (n - (mid - at)) (drop mid bs)) → DoneSo bs at end (joined m (mid - at) k) (walk_text f n (drop at bs))
  text_so end k a b c s t =
      let z = part_length bs at mid a c in
      rw (text_is f n (drop at bs) h l)
      (subst (λ x. DoneSo bs at end (joined m x k) (on_told (walk_char n (drop at bs)) (λ m u rest. carry (λ k. joined m (length u) k) u (walk_text (f - 1) (n - length u) rest)))) z
      (then_so bs at mid m (walk_char n (drop at bs)) (λ m u rest. walk_text (f - 1) (n - length u) rest) (λ m u k. joined m (length u) k) end k a b s (rw z t)))

  text_never : at ≤ mid → mid ≤ length bs → DoneSo bs at mid m (walk_char n (drop at bs)) → NeverDone (walk_text (f - 1) (n - (mid - at)) (drop mid bs)) → NeverDone (walk_text f n (drop at bs))
  text_never a c s t =
      let z = part_length bs at mid a c in
      rw (text_is f n (drop at bs) h l) (then_never bs at mid m (walk_char n (drop at bs)) (λ m u rest. walk_text (f - 1) (n - length u) rest) (λ m u k. joined m (length u) k) s (rw z t))

text_stop : (bs : List ℕ) (at f n : ℕ) → 0 < f → 0 < n → NeverDone (walk_char n (drop at bs)) → NeverDone (walk_text f n (drop at bs))
text_stop bs at f n h l s = rw (text_is f n (drop at bs) h l) (stop_never (walk_char n (drop at bs)) _ s)

-- THE LOOP

-- the fuel for so many bytes
abbrev Fuel : ℕ → Type 0
Fuel n = (f : ℕ) × (n ≤ f)

abbrev pub TextLeft : List ℕ → ℕ → ℕ → ℕ → ℕ → ℕ → Type 0
TextLeft bs at size mid left reach = Rest bs at (walk_text size size (drop at bs)) mid (Fuel left) (λ f. walk_text f.0 left (drop mid bs)) reach

pub text_start : (bs : List ℕ) (at size : ℕ) → at ≤ length bs → TextLeft bs at size at size 0
text_start bs at size l = rest_start bs at (walk_text size size (drop at bs)) (Fuel size) (λ f. walk_text f.0 size (drop at bs)) (size, omega arith) l refl

module _ (bs : List ℕ) (at size mid left reach : ℕ) (some : 0 < left) (rest : TextLeft bs at size mid left reach) where
  pub text_more : (e : Extent) (n : ℕ) → CharExtends bs mid left (Some e) → n ≡ joined reach (mid - at) e.reach → TextLeft bs at size e.end (left - (e.end - mid)) n
  text_more e n (a, b, ((c, d), s)) i =
      rest_more bs at (walk_text size size (drop at bs)) mid (Fuel left) (λ f. walk_text f.0 left (drop mid bs)) reach rest e.end (Fuel (left - (e.end - mid))) (λ f. walk_text f.0 (left - (e.end - mid)) (drop e.end bs))
      e.reach n (c, d) i
      (λ end k h t f. text_so bs mid e.end f.0 left e.reach (omega (arith, f.1)) some end k (omega arith) h d s (t (f.0 - 1, omega (arith, f.1))))
      (λ t f. text_never bs mid e.end f.0 left e.reach (omega (arith, f.1)) some (omega arith) d s (t (f.0 - 1, omega (arith, f.1))))

  pub text_cut : NeverDone (walk_char left (drop mid bs)) → NeverDone (walk_text size size (drop at bs))
  text_cut s = rest.never (λ f. text_stop bs mid f.0 left (omega (arith, f.1)) some s)

pub text_end : (bs : List ℕ) (at size mid left reach : ℕ) → left ≡ 0 → TextLeft bs at size mid left reach → Bounds bs at mid reach × DoneSo bs at mid reach (walk_text size size (drop at bs))
unfolding walk_text
text_end bs at size mid left reach e rest = rest_end bs at (walk_text size size (drop at bs)) mid (Fuel left) (λ f. walk_text f.0 left (drop mid bs)) reach rest (λ f. rw e)
