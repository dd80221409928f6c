-- How little comes after a simple value, and after the last tag on something.
use Rattle.std.proofs.Common.{◌≡◌, ℕ, zero, suc, ◌+◌, ◌-◌, ◌<◌, ◌≤◌, true, ◌⊎◌, List, [], ◌++◌, sym, ap, ◌∙◌, subst, inl, inr, arith}
use Rattle.std.proofs.lemmas.Bool.{cases_lt, both_ways, cases_order}
use Rattle.std.proofs.lemmas.Bool.Decides.{nat_tests}
use Rattle.cbor.specs.declared.Major.{Major}
use Rattle.cbor.specs.declared.Major.TheVariants.{Unsigned, Negative, Bytes, Text, Array, Map, Tag, Simple}
use Rattle.cbor.specs.Encoding.{major_number, head}
use Rattle.cbor.specs.Order.{before}
use Rattle.cbor.proofs.Order.{before_irreflexive}
use Rattle.prefixes.specs.Words.{Room, After}
use Rattle.prefixes.specs.Shapes.{SimpleFits, HeadFits, BodyOf, ItemAt, place_of, Below}
use Rattle.prefixes.proofs.Order.{before_common}
use Rattle.prefixes.proofs.Rooms.{room_down}
use Rattle.prefixes.proofs.Families.{not_before_majors, not_before_arguments, room_simple, room_last_tag}

-- a word's head and what comes after it
pub item_parts : (d : ℕ) (w : List ℕ) → ItemAt d w → (k : Major) × (n : ℕ) × (v : List ℕ) × HeadFits d k n × BodyOf (Below d) k n v × (w ≡ head (major_number k) n ++ v)
unfolding ItemAt
item_parts zero w (i, u, v, (p, f), b, e) = (i.0, i.1, v, f, b, e ∙ ap (λ x. x ++ v) p)
item_parts (suc d) w (i, u, v, (p, f), b, e) = (i.0, i.1, v, f, b, e ∙ ap (λ x. x ++ v) p)

low_major : (k l n s : ℕ) (u v : List ℕ) → k < l → n < 18446744073709551616 → s < 18446744073709551616 → before (head l s ++ u) (head k n ++ v) ≡ true → ⊥
low_major k l n s u v h a b g = both_ways _ (not_before_majors k l n s v u h a b) g

-- after a simple value come simple values with larger numbers
above_simple : (d s : ℕ) (k : Major) (n : ℕ) (v : List ℕ) → s < 256 → HeadFits d k n → BodyOf (Below d) k n v
    → before (head 7 s ++ []) (head (major_number k) n ++ v) ≡ true → (head (major_number k) n ++ v ≡ head 7 n ++ []) × SimpleFits n × (s < n)
above_simple d s Unsigned n v h f b g = absurd (low_major 0 7 n s [] v (omega arith) f (omega arith) g)
above_simple d s Negative n v h f b g = absurd (low_major 1 7 n s [] v (omega arith) f (omega arith) g)
above_simple d s Bytes n v h f b g = absurd (low_major 2 7 n s [] v (omega arith) f (omega arith) g)
above_simple d s Text n v h f b g = absurd (low_major 3 7 n s [] v (omega arith) f (omega arith) g)
above_simple d s Array n v h f b g = absurd (low_major 4 7 n s [] v (omega arith) f.0 (omega arith) g)
above_simple d s Map n v h f b g = absurd (low_major 5 7 n s [] v (omega arith) f.0 (omega arith) g)
above_simple d s Tag n v h f b g = absurd (low_major 6 7 n s [] v (omega arith) f.0 (omega arith) g)
above_simple d s Simple n v h f b g = (
  ap (λ x. head 7 n ++ x) b,
  f,
  elim (cases_order s n) [
    | inl e ↦ absurd (before_irreflexive (head 7 s ++ []) (ap (λ x. before (head 7 s ++ []) (head 7 s ++ x)) (sym b) ∙ ap (λ m. before (head 7 s ++ []) (head 7 m ++ v)) e ∙ g))
    | inr (inl l) ↦ l
    | inr (inr l) ↦ absurd (both_ways _ (not_before_arguments 7 n s v [] l (omega arith)) g)
  ],
)

places_grow : (s t r : ℕ) → SimpleFits s → SimpleFits t → s < t → r + place_of t ≤ 247 → suc r + place_of s ≤ 247
places_grow s t r f g h l = grind (arith, nat_tests)

pub place_low : (s : ℕ) → SimpleFits s → 0 + place_of s ≤ 247
place_low s f = grind (arith, nat_tests)

fits_low : (s : ℕ) → SimpleFits s → s < 256
fits_low s f = omega arith

pub simple_room : (d s r : ℕ) → SimpleFits s → Room (ItemAt d) (head 7 s ++ []) r → r + place_of s ≤ 247
unfolding Room
simple_room d s zero f h = place_low s f
simple_room d s (suc r) f (w, a, l, h) =
    let (k, n, v, g, b, e) = item_parts d w a in
    let (p, q, m) = above_simple d s k n v (fits_low s f) g b (ap (λ x. before (head 7 s ++ []) x) (sym e) ∙ l) in
    places_grow s n r f q m (simple_room d n r q (subst (λ x. Room (ItemAt d) x r) (e ∙ p) h))

-- after the last tag on something
abbrev max : ℕ
max = 18446744073709551615

above_tag : (d : ℕ) (x : List ℕ) (k : Major) (n : ℕ) (v : List ℕ) → HeadFits d k n → BodyOf (Below d) k n v
    → before (head 6 max ++ x) (head (major_number k) n ++ v) ≡ true
    → ((head (major_number k) n ++ v ≡ head 6 max ++ v) × Below d v × (before x v ≡ true)) ⊎ ((head (major_number k) n ++ v ≡ head 7 n ++ []) × SimpleFits n)
above_tag d x Unsigned n v f b g = absurd (low_major 0 6 n max x v (omega arith) f (omega arith) g)
above_tag d x Negative n v f b g = absurd (low_major 1 6 n max x v (omega arith) f (omega arith) g)
above_tag d x Bytes n v f b g = absurd (low_major 2 6 n max x v (omega arith) f (omega arith) g)
above_tag d x Text n v f b g = absurd (low_major 3 6 n max x v (omega arith) f (omega arith) g)
above_tag d x Array n v f b g = absurd (low_major 4 6 n max x v (omega arith) f.0 (omega arith) g)
above_tag d x Map n v f b g = absurd (low_major 5 6 n max x v (omega arith) f.0 (omega arith) g)
above_tag d x Tag n v f b g = elim (cases_lt n max) [
  | inl l ↦ absurd (both_ways _ (not_before_arguments 6 n max v x l (omega arith)) g)
  | inr l ↦
      let e : n ≡ max = let y = f.0 in omega arith in
      inl (ap (λ m. head 6 m ++ v) e, b, sym (before_common (head 6 max) x v) ∙ ap (λ m. before (head 6 max ++ x) (head 6 m ++ v)) (sym e) ∙ g)
]
above_tag d x Simple n v f b g = inr (ap (λ y. head 7 n ++ y) b, f)

few : (r : ℕ) → r ≤ 248 → 0 ≡ r - 248
few r h = omega arith

pub last_tag_room : (d r : ℕ) (x : List ℕ) → Room (ItemAt (suc d)) (head 6 max ++ x) r → Room (ItemAt d) x (r - 248)
unfolding Room
last_tag_room d zero x h = subst (λ m. Room (ItemAt d) x m) (few 0 (omega arith)) tt
last_tag_room d (suc r) x (w, a, l, h) =
    let (k, n, v, g, b, e) = item_parts (suc d) w a in
    elim (above_tag (suc d) x k n v g b (ap (λ y. before (head 6 max ++ x) y) (sym e) ∙ l)) [
      | inl (p, q, m) ↦
          let i = last_tag_room d r v (subst (λ y. Room (ItemAt (suc d)) y r) (e ∙ p) h) in
          elim (cases_lt r 248) [
            | inl z ↦ subst (λ y. Room (ItemAt d) x y) (few (suc r) (omega arith)) tt
            | inr z ↦ let t : suc (r - 248) ≡ suc r - 248 = omega arith in subst (λ y. Room (ItemAt d) x y) t (v, q, m, i)
          ]
      | inr (p, q) ↦
          let i = simple_room (suc d) n r q (subst (λ y. Room (ItemAt (suc d)) y r) (e ∙ p) h) in
          subst (λ y. Room (ItemAt d) x y) (few (suc r) (omega arith)) tt
    ]

room_none : (d : ℕ) (x : List ℕ) → Room (ItemAt d) x 0
unfolding Room
room_none d x = tt

-- how many come after, as a number
pub after_endless : (W : List ℕ → Type 0) (k : List ℕ) → ((r : ℕ) → r ≤ 18446744073709551616 → Room W k r) → After W k max
after_endless W k f r h = ((λ l. f r (omega arith)), λ z. omega arith)

pub after_simple : (d s : ℕ) → SimpleFits s → After (ItemAt d) (head 7 s ++ []) (247 - place_of s)
after_simple d s f r h = ((λ l. room_simple d s r [] f (let z = place_low s f in omega arith)), λ l. let z = simple_room d s r f l in omega arith)

pub after_last_tag : (d a : ℕ) (x : List ℕ) → After (ItemAt d) x a → After (ItemAt (suc d)) (head 6 max ++ x) (a + 248)
after_last_tag d a x f r h = (
  (λ l. elim (cases_lt r 248) [
    | inl z ↦
        let e : (248 - r) + r ≡ 0 + 248 = omega arith in
        room_down (ItemAt (suc d)) (head 6 max ++ x) (248 - r) r (subst (λ m. Room (ItemAt (suc d)) (head 6 max ++ x) m) (sym e) (room_last_tag d 0 x (room_none d x)))
    | inr z ↦ let e : (r - 248) + 248 ≡ r = omega arith in subst (λ m. Room (ItemAt (suc d)) (head 6 max ++ x) m) e (room_last_tag d (r - 248) x ((f (r - 248) (omega arith)).0 (omega arith)))
  ]),
  λ l. let z = (f (r - 248) (omega arith)).1 (last_tag_room d r x l) in omega arith,
)
