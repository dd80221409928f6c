-- Heads that are read are those that the walk tells.
use Rattle.std.proofs.Common.{◌≡◌, ℕ, suc, ◌+◌, ◌-◌, ◌*◌, ◌/◌, ◌%◌, ◌<◌, ◌≤◌, true, false, ◌&&◌, ◌||◌, ltb, leb, ◌⊎◌, List, [], ◌∷◌, ◌++◌, length, get_or, take, drop, Ok, Err, Result, MatchResult, sym, refl, ap, ◌∙◌, subst, inl, inr, arith, length-append}
use Rattle.std.proofs.lemmas.List.{length-drop, drop_all, take_all, append-nil}
use Rattle.std.proofs.lemmas.Bool.{lt-ltb, le-ltb, ltb-true, leb-true, and_parts, or_cases, cases_lt}
use Rattle.cbor.specs.declared.Major.{Major}
use Rattle.cbor.specs.declared.Major.TheVariants.{Unsigned, Negative, Bytes, Text, Array, Map, Tag, Simple}
use Rattle.cbor.specs.Encoding.{all_bytes, major_number, to_bytes}
use Rattle.cbor.specs.Prefix.{Begins, Any, PrefixFree, StopsAt}
use Rattle.cbor.specs.declared.reading.Head.{Head}
use Rattle.cbor.specs.declared.reading.Stop.{Stop}
use Rattle.cbor.specs.Reading.{HeadOf, HeadAt}
use Rattle.cbor.proofs.Heads.{Sized, sized_head, head_shape, head_not_empty}
use Rattle.cbor.proofs.Writes.{one_byte, major_below}
use Rattle.cbor.proofs.Numbers.{bytes_drop}
use Rattle.cbor.proofs.Places.{part_rest, at_first}
use Rattle.cbor.proofs.Words.{free_two}
use Rattle.prefixes.specs.Words.{Unread}
use Rattle.prefixes.specs.Shapes.{HeadFor, major_of}
use Rattle.prefixes.specs.Walks.{Told, done, cut, wrong, Holds, first_for, walk_one, walk_head}
use Rattle.prefixes.proofs.Free.{fits_below, head_word_free, major_of_number}
use Rattle.prefixes.proofs.Fronts.{head_holds}
use Rattle.reach.specs.Measured.{Ended}
use Rattle.checker.specs.declared.Stop as checker
use Rattle.checker.specs.Ends.{stop_within, Stops}
use Rattle.checker.proofs.Verdicts.{told_wrong, told_cut}

-- BY THE FIRST BYTE

-- what the test of it says
abbrev FirstSays : ℕ → ℕ → ℕ → Type 0
FirstSays d r b = (b % 32 < 28) × (b ≤ 248) × (128 ≤ b → b < 224 → 0 < d) × (224 ≤ b → r + (b - 224) ≤ 247)

pub first_says : (d r b : ℕ) → first_for d r b ≡ true → FirstSays d r b
first_says d r b e =
    let p = and_parts (leb b 248 && ltb (b % 32) 28) (((ltb b 128 || leb 224 b) || ltb 0 d) && (ltb b 224 || leb (r + (b - 224)) 247)) e in
    let q = and_parts (leb b 248) (ltb (b % 32) 28) p.0 in
    let s = and_parts ((ltb b 128 || leb 224 b) || ltb 0 d) (ltb b 224 || leb (r + (b - 224)) 247) p.1 in (
      ltb-true (b % 32) 28 q.1,
      leb-true b 248 q.0,
      (λ h k. elim (or_cases (ltb b 128 || leb 224 b) (ltb 0 d) s.0) [
        | inl o ↦ absurd (elim (or_cases (ltb b 128) (leb 224 b) o) [ inl x ↦ (let z = ltb-true b 128 x in omega arith) | inr x ↦ (let z = leb-true 224 b x in omega arith) ])
        | inr o ↦ ltb-true 0 d o
      ]),
      λ h. elim (or_cases (ltb b 224) (leb (r + (b - 224)) 247) s.1) [ inl o ↦ absurd (let z = ltb-true b 224 o in omega arith) | inr o ↦ leb-true (r + (b - 224)) 247 o ],
    )

-- a head by its first byte
opens : (m n : ℕ) (w : List ℕ) → HeadOf m n w → (b : ℕ) (t : List ℕ) → w ≡ b ∷ t → (s : ℕ) × (k : ℕ) × (b ≡ 32 * m + s) × (t ≡ to_bytes k n) × Sized n s k
opens m n w (e, l) b t f =
    let (s, k, p, z) = head_shape m n l in
    let g : b ∷ t ≡ (32 * m + s) ∷ to_bytes k n = sym f ∙ e ∙ p in
    (s, k, (cc), (cc), z)

small : (n s k : ℕ) → Sized n s k → s < 24 → (s ≡ n) × (n < 24)
small n s k z h = omega arith

-- one that may begin so may stand there
fits : (d r b : ℕ) (k : Major) (n : ℕ) (w t : List ℕ) → FirstSays d r b → (b ≡ 248 → ⊥) → HeadOf (major_number k) n w → w ≡ b ∷ t → HeadFor d r (k, n) w
fits d r b Unsigned n w t f x h e = ((h.0, h.1), tt)
fits d r b Negative n w t f x h e = ((h.0, h.1), tt)
fits d r b Bytes n w t f x h e = ((h.0, h.1), tt)
fits d r b Text n w t f x h e = ((h.0, h.1), tt)
fits d r b Array n w t f x h e = let (s, k, p, q, z) = opens 4 n w h b t e in ((h.0, (h.1, f.2 (omega arith) (omega arith))), tt)
fits d r b Map n w t f x h e = let (s, k, p, q, z) = opens 5 n w h b t e in ((h.0, (h.1, f.2 (omega arith) (omega arith))), tt)
fits d r b Tag n w t f x h e = let (s, k, p, q, z) = opens 6 n w h b t e in ((h.0, (h.1, f.2 (omega arith) (omega arith))), tt)
fits d r b Simple n w t f x h e =
    let (s, k, p, q, z) = opens 7 n w h b t e in
    let l : s < 24 = elim (cases_lt s 24) [ inl o ↦ o | inr o ↦ absurd (x (let u = f.1 in omega arith)) ] in
    let (a, c) = small n s k z l in
    let g = f.3 (omega arith) in
    ((h.0, inl c), rw (lt-ltb n 24 c) (omega arith))

-- and the other way round
back : (d r b : ℕ) (i : Major × ℕ) (w t : List ℕ) → b < 256 → HeadFor d r i w → w ≡ b ∷ t → (major_number i.0 ≡ b / 32) × HeadOf (b / 32) i.1 w
back d r b (k, n) w t l ((e, f), g) h =
    let o = fits_below d k n f in
    let (s, j, p, q, z) = opens (major_number k) n w (e, o) b t h in
    let v = major_below k in
    let y : major_number k ≡ b / 32 = omega arith in
    (y, subst (λ m. HeadOf m n w) y (e, o))

-- some head begins with such a byte
first_begins : (b : ℕ) → b % 32 < 28 → Begins (Any (HeadOf (b / 32))) (b ∷ [])
first_begins b h = elim (cases_lt (b % 32) 24) [
  | inl o ↦ made (b % 32) 0 (inl (o, refl, refl)) (omega arith)
  | inr o ↦ elim (cases_lt (b % 32) 25) [
    | inl p ↦ made 24 1 (inr (inl (omega arith, omega arith, omega arith, refl))) (omega arith)
    | inr p ↦ elim (cases_lt (b % 32) 26) [
      | inl q ↦ made 256 2 (inr (inr (inl (omega arith, omega arith, omega arith, refl)))) (omega arith)
      | inr q ↦ elim (cases_lt (b % 32) 27) [
        | inl x ↦ made 65536 4 (inr (inr (inr (inl (omega arith, omega arith, omega arith, refl))))) (omega arith)
        | inr x ↦ made 4294967296 8 (inr (inr (inr (inr (omega arith, omega arith, omega arith, refl))))) (omega arith)
      ]
    ]
  ]
]
  where
    made : (n k : ℕ) → Sized n (b % 32) k → n < 18446744073709551616 → Begins (Any (HeadOf (b / 32))) (b ∷ [])
    made n k z l = (to_bytes k n, (n, (sym (sized_head (b / 32) n (b % 32) k z ∙ ap (λ x. x ∷ to_bytes k n) (let y : 32 * (b / 32) + b % 32 ≡ b = omega arith in y)), l)))

-- AT A PLACE

for_free : (d r : ℕ) → PrefixFree (HeadFor d r)
for_free d r i j u x a b = head_word_free d i j u x a.0 b.0

-- the walk tells the head that stands there
told_head : (d r : ℕ) (q u rest : List ℕ) (i : Major × ℕ) (t : Told (Major × ℕ)) → Holds (Any (HeadFor d r)) (HeadFor d r) q t → HeadFor d r i u → q ≡ u ++ rest → t ≡ done i u rest
told_head d r q u rest i (done j v x) (w, s, e) a f =
    let (p, g, h) = free_two (HeadFor d r) (for_free d r) j i v u x rest s a (sym e ∙ f) in
    cc
told_head d r q u rest i cut (b, none) a f = absurd (none u rest (i, a) f)
told_head d r q u rest i (wrong k) (b, none) a f = absurd (none u rest (i, a) f)

-- a word that stands there begins with the byte there
starts : (d r b : ℕ) (u rest tl : List ℕ) (i : Major × ℕ) → HeadFor d r i u → b ∷ tl ≡ u ++ rest → (t : List ℕ) × (u ≡ b ∷ t)
starts d r b [] rest tl i a e = absurd (let z = ap length a.0.0 in let y = head_not_empty (major_number i.0) i.1 in omega arith)
starts d r b (c ∷ t) rest tl i a e = (t, (let p : c ≡ b = cc in ap (λ x. x ∷ t) p))

module _ (bs : List ℕ) (at d r : ℕ) (bytes : all_bytes bs ≡ true) (inside : at < length bs) (byte : get_or bs at 0 < 256) (may : first_for d r (get_or bs at 0) ≡ true) where
  holds : Holds (Any (HeadFor d r)) (HeadFor d r) (drop at bs) (walk_head d r (drop at bs))
  holds = head_holds d r (drop at bs) (bytes_drop at bs bytes)

  says : FirstSays d r (get_or bs at 0)
  says = first_says d r (get_or bs at 0) may

  -- what begins with some of the bytes there begins with the first
  begins_so : (p : ℕ) (x : List ℕ) → 0 < p → take p (drop at bs) ++ x ≡ get_or bs at 0 ∷ (take (p - 1) (drop (at + 1) bs) ++ x)
  begins_so p x h = ap (λ q. take p q ++ x) (at_first bs at inside) ∙ ap (λ m. take m (get_or bs at 0 ∷ drop (at + 1) bs) ++ x) (let z : p ≡ suc (p - 1) = omega arith in z)

  module _ (k : Major) (major : major_number k ≡ get_or bs at 0 / 32) (short : get_or bs at 0 ≡ 248 → ⊥) where
    to_for : (n p : ℕ) (x : List ℕ) → 0 < p → HeadOf (major_number k) n (take p (drop at bs) ++ x) → Any (HeadFor d r) (take p (drop at bs) ++ x)
    to_for n p x h w = ((k, n), fits d r (get_or bs at 0) k n (take p (drop at bs) ++ x) (take (p - 1) (drop (at + 1) bs) ++ x) says short w (begins_so p x h))

    from_for : (p : ℕ) (x : List ℕ) → 0 < p → Any (HeadFor d r) (take p (drop at bs) ++ x) → Any (HeadOf (major_number k)) (take p (drop at bs) ++ x)
    from_for p x h (i, a) =
        let (_, w) = back d r (get_or bs at 0) i (take p (drop at bs) ++ x) (take (p - 1) (drop (at + 1) bs) ++ x) byte a (begins_so p x h) in
        (i.1, subst (λ m. HeadOf m i.1 (take p (drop at bs) ++ x)) (sym major) w)

    pub head_told : (x : Result Head Stop) → HeadAt (major_number k) bs at x → (h : Head) → x ≡ Ok h → Ended bs at h.next (k, h.argument) (walk_head d r (drop at bs))
    head_told x is h e =
        let ((m, l, w), o) = subst (HeadAt (major_number k) bs at) e is in
        let u = take (h.next - at) (drop at bs) in
        let a = fits d r (get_or bs at 0) k h.argument u (take (h.next - at - 1) (drop (at + 1) bs) ++ []) says short w (sym (append-nil u) ∙ begins_so (h.next - at) [] (omega arith)) in
        (m, l, told_head d r (drop at bs) u (drop h.next bs) (k, h.argument) (walk_head d r (drop at bs)) holds a (part_rest bs at h.next m))

    module _ (place least : ℕ) (stops : StopsAt (Any (HeadOf (major_number k))) bs at place least) where
      later : 0 < place - at
      later = elim (cases_lt 0 (place - at)) [
        | inl h ↦ h
        | inr h ↦
            let z : place - at ≡ 0 = omega arith in
            let one : take (suc (place - at)) (drop at bs) ≡ get_or bs at 0 ∷ [] = ap (λ m. take (suc m) (drop at bs)) z ∙ ap (take 1) (at_first bs at inside) in
            absurd (stops.1.ends (rw (length-drop at bs) (omega arith)) (subst (λ q. Begins (Any (HeadOf (major_number k))) q) (sym one) (subst (λ m. Begins (Any (HeadOf m)) (get_or bs at 0 ∷ [])) (sym major) (first_begins (get_or bs at 0) says.0))))
      ]

      unread : Unread (Any (HeadFor d r)) (drop at bs)
      unread u rest (i, a) e =
          let (t, f) = starts d r (get_or bs at 0) u rest (drop (at + 1) bs) i a (sym (at_first bs at inside) ∙ e) in
          let (_, w) = back d r (get_or bs at 0) i u t byte a f in
          stops.1.unread u rest (i.1, subst (λ m. HeadOf m i.1 u) (sym major) w) e

      begins : Begins (Any (HeadFor d r)) (take (place - at) (drop at bs))
      begins = let (x, (n, w)) = stops.1.begins in (x, to_for n (place - at) x later w)

      head_stops : Stops at (stop_within (length bs) place) (walk_head d r (drop at bs))
      head_stops = elim (cases_lt place (length bs)) [
        | inl h ↦
            let l : place - at < length (drop at bs) = rw (length-drop at bs) (let z = stops.0 in omega arith) in
            rw (lt-ltb place (length bs) h) (stops.0, told_wrong (Any (HeadFor d r)) (HeadFor d r) (drop at bs) (walk_head d r (drop at bs)) (place - at) holds unread begins (λ (x, w). stops.1.ends l (x, from_for (suc (place - at)) x (omega arith) w)) l)
        | inr h ↦
            let l : length (drop at bs) ≤ place - at = rw (length-drop at bs) (omega arith) in
            rw (le-ltb place (length bs) h) (told_cut (Any (HeadFor d r)) (HeadFor d r) (drop at bs) (walk_head d r (drop at bs)) holds unread (subst (Begins (Any (HeadFor d r))) (take_all (place - at) (drop at bs) l) begins))
      ]

    pub head_stopped : (x : Result Head Stop) → HeadAt (major_number k) bs at x → (s : checker.Stop) → MatchResult x (λ h. ⊥) (λ e. s ≡ stop_within (length bs) e.place) → Stops at s (walk_head d r (drop at bs))
    head_stopped (Ok h) is s m = absurd m
    head_stopped (Err e) is s m = rw m (head_stops e.place e.least is)

-- no byte, or one that none begins with
pub head_past : (bs : List ℕ) (at d r : ℕ) → length bs ≤ at → walk_head d r (drop at bs) ≡ cut
unfolding walk_head walk_one
head_past bs at d r h = rw (drop_all at bs h)

pub head_bad : (bs : List ℕ) (at d r : ℕ) → at < length bs → false ≡ first_for d r (get_or bs at 0) → (at ≤ at) × (walk_head d r (drop at bs) ≡ wrong (at - at))
unfolding walk_head walk_one
head_bad bs at d r h e = let x : at - at ≡ 0 = omega arith in (omega arith, rw (at_first bs at h, ← e, x))

-- SIMPLE VALUES FROM 32 ON

simple_made : (d r n : ℕ) → 32 ≤ n → n < 256 → r + (n - 8) ≤ 247 → HeadFor d r (Simple, n) (248 ∷ n ∷ [])
simple_made d r n h l g =
    ((sym (sized_head 7 n 24 1 (inr (inl (omega arith, l, refl, refl))) ∙ ap (λ t. 248 ∷ t) (sym (one_byte n l))), inr (h, l)), rw (le-ltb n 24 (omega arith)) g)

simple_number : (s n j : ℕ) → Sized n s j → s ≡ 24 → (j ≡ 1) × (24 ≤ n) × (n < 256)
simple_number s n j z e = omega arith

simple_back : (d r : ℕ) (i : Major × ℕ) (w t : List ℕ) → HeadFor d r i w → w ≡ 248 ∷ t → (t ≡ i.1 ∷ []) × (32 ≤ i.1) × (i.1 < 256) × (r + (i.1 - 8) ≤ 247)
simple_back d r (k, n) w t a h =
    let (y, _) = back d r 248 (k, n) w t (omega arith) a h in
    let e : k ≡ Simple = sym (major_of_number k) ∙ ap major_of y in
    simple_only d r n w t (subst (λ x. HeadFor d r (x, n) w) e a) h
  where
    simple_only : (d r n : ℕ) (w t : List ℕ) → HeadFor d r (Simple, n) w → w ≡ 248 ∷ t → (t ≡ n ∷ []) × (32 ≤ n) × (n < 256) × (r + (n - 8) ≤ 247)
    simple_only d r n w t ((e, f), g) h =
        let (s, j, p, q, z) = opens 7 n w (e, (let y : n < 18446744073709551616 = omega arith in y)) 248 t h in
        let (a, b, c) = simple_number s n j z (omega arith) in
        let v : r + (n - 8) ≤ 247 = rw (le-ltb n 24 b) at g in
        (q ∙ ap (λ m. to_bytes m n) a ∙ sym (one_byte n c), (let x : 32 ≤ n = omega arith in x), c, v)

module _ (bs : List ℕ) (at d r : ℕ) (bytes : all_bytes bs ≡ true) (inside : at < length bs) (is : get_or bs at 0 ≡ 248) (may : first_for d r 248 ≡ true) where
  simple_holds : Holds (Any (HeadFor d r)) (HeadFor d r) (drop at bs) (walk_head d r (drop at bs))
  simple_holds = head_holds d r (drop at bs) (bytes_drop at bs bytes)

  here : drop at bs ≡ 248 ∷ drop (at + 1) bs
  here = at_first bs at inside ∙ ap (λ x. x ∷ drop (at + 1) bs) is

  simple_starts : (u rest : List ℕ) (i : Major × ℕ) → HeadFor d r i u → drop at bs ≡ u ++ rest → (u ≡ 248 ∷ i.1 ∷ []) × (32 ≤ i.1) × (i.1 < 256) × (r + (i.1 - 8) ≤ 247)
  simple_starts u rest i a e =
      let (t, f) = starts d r 248 u rest (drop (at + 1) bs) i a (sym here ∙ e) in
      let (g, h, l, m) = simple_back d r i u t a f in
      (f ∙ ap (λ x. 248 ∷ x) g, h, l, m)

  -- 32 comes after the most
  begins_first : Begins (Any (HeadFor d r)) (248 ∷ [])
  begins_first = (32 ∷ [], ((Simple, 32), simple_made d r 32 (omega arith) (omega arith) (let z = (first_says d r 248 may).3 (omega arith) in omega arith)))

  pub simple_cut : length bs ≤ at + 1 → walk_head d r (drop at bs) ≡ cut
  simple_cut h =
      let e : drop at bs ≡ 248 ∷ [] = here ∙ ap (λ x. 248 ∷ x) (drop_all (at + 1) bs h) in
      told_cut (Any (HeadFor d r)) (HeadFor d r) (drop at bs) (walk_head d r (drop at bs)) simple_holds
      (λ u rest (i, a) f. let (g, _, _, _) = simple_starts u rest i a f in omega (arith, ap length (sym e ∙ f), length-append u rest, ap length g)) (subst (Begins (Any (HeadFor d r))) (sym e) begins_first)

  module _ (more : at + 1 < length bs) where
    two : drop at bs ≡ 248 ∷ get_or bs (at + 1) 0 ∷ drop (at + 1 + 1) bs
    two = here ∙ ap (λ x. 248 ∷ x) (at_first bs (at + 1) more)

    -- the byte is that of the word
    second : (u rest : List ℕ) (i : Major × ℕ) → HeadFor d r i u → drop at bs ≡ u ++ rest → (get_or bs (at + 1) 0 ≡ i.1) × (32 ≤ i.1) × (i.1 < 256) × (r + (i.1 - 8) ≤ 247)
    second u rest i a e =
        let (g, h, l, m) = simple_starts u rest i a e in
        let f : 248 ∷ get_or bs (at + 1) 0 ∷ drop (at + 1 + 1) bs ≡ 248 ∷ i.1 ∷ rest = sym two ∙ e ∙ ap (λ x. x ++ rest) g in
        ((cc), h, l, m)

    pub simple_wrong : (get_or bs (at + 1) 0 < 32) ⊎ (255 - get_or bs (at + 1) 0 < r) → (at ≤ at + 1) × (walk_head d r (drop at bs) ≡ wrong (at + 1 - at))
    simple_wrong bad =
        let z : at + 1 - at ≡ 1 = omega arith in (
          omega arith,
          told_wrong (Any (HeadFor d r)) (HeadFor d r) (drop at bs) (walk_head d r (drop at bs)) 1 simple_holds
              (λ u rest (i, a) f. let (x, h, l, m) = second u rest i a f in omega arith)
              (subst (Begins (Any (HeadFor d r))) (sym (ap (take 1) here)) begins_first)
              (λ (x, (i, a)).
              let f : take 2 (drop at bs) ++ x ≡ 248 ∷ get_or bs (at + 1) 0 ∷ x = ap (λ q. take 2 q ++ x) two in
              let (g, h, l, m) = simple_back d r i (take 2 (drop at bs) ++ x) (get_or bs (at + 1) 0 ∷ x) a f in
              let y : get_or bs (at + 1) 0 ≡ i.1 = cc in
              omega arith)
              (rw (length-drop at bs) (omega arith)) ∙ ap (λ m. wrong m) (sym z),
        )

    pub simple_told : (n : ℕ) → n ≡ get_or bs (at + 1) 0 → n < 256 → 32 ≤ n → r ≤ 255 - n → Ended bs at (at + 2) (Simple, n) (walk_head d r (drop at bs))
    simple_told n e l h g =
        let z : at + 2 - at ≡ 2 = omega arith in
        let w : take (at + 2 - at) (drop at bs) ≡ 248 ∷ n ∷ [] = ap (λ m. take m (drop at bs)) z ∙ ap (take 2) two ∙ ap (λ x. 248 ∷ x ∷ []) (sym e) in
        (omega arith, omega arith, told_head d r (drop at bs) (take (at + 2 - at) (drop at bs)) (drop (at + 2) bs) (Simple, n) (walk_head d r (drop at bs)) simple_holds (subst (HeadFor d r (Simple, n)) (sym w) (simple_made d r n h l (omega arith))) (part_rest bs at (at + 2) (omega arith)))
