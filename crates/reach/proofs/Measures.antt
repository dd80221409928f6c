-- Items by their heads, at places.
use Rattle.std.proofs.Common.{◌≡◌, ℕ, zero, suc, ◌+◌, ◌-◌, ◌<◌, ◌≤◌, true, List, ◌++◌, length, get_or, take, drop, Some, None, Option, sym, refl, ap, ◌∙◌, subst, arith, length-append}
use Rattle.std.proofs.lemmas.List.{take_at, drop_at, drop-drop, length-drop}
use Rattle.cbor.specs.declared.Major.{Major}
use Rattle.cbor.specs.declared.Major.TheVariants.{Unsigned, Negative, Bytes, Text, Array, Map, Tag, Simple}
use Rattle.cbor.specs.Encoding.{all_bytes, major_number}
use Rattle.cbor.specs.Prefix.{Any, StandsAt}
use Rattle.cbor.specs.Reading.{HeadOf}
use Rattle.cbor.proofs.Numbers.{bytes_drop, bytes_typed}
use Rattle.cbor.proofs.Heads.{head_not_empty}
use Rattle.cbor.proofs.Places.{part_length}
use Rattle.cbor.proofs.Writes.{major_below}
use Rattle.items.specs.declared.skipping.ItemHead.{ItemHead}
use Rattle.items.specs.Skipping.{HeadTold}
use Rattle.items.proofs.Skips.{head_major, head_once}
use Rattle.prefixes.specs.Words.{joined, reach_of_head}
use Rattle.prefixes.specs.Shapes.{major_of, HeadFits, HeadFor}
use Rattle.prefixes.specs.Walks.{Told, done, cut, wrong, Holds, on_told, carry, after_of, walk_head, walk_body, walk_item, walk}
use Rattle.prefixes.proofs.Free.{major_of_number, fits_below}
use Rattle.prefixes.proofs.Fronts.{head_holds}
use Rattle.reach.specs.declared.Measurement.{Measurement}
use Rattle.reach.specs.Measured.{DoneSo, NeverDone, Bounds, Deep, body, BodyMeasured, Measured, AsWalked}
use Rattle.reach.proofs.Parts.{carry_so, carry_never, stop_never, carry_retold, joined_within}

-- HEADS

-- a word at the beginning of what is left
at_word : (bs u rest : List ℕ) (at : ℕ) → drop at bs ≡ u ++ rest → 0 < length u → (at + length u ≤ length bs) × (take (at + length u - at) (drop at bs) ≡ u) × (drop (at + length u) bs ≡ rest)
at_word bs u rest at e h =
    let z : at + length u - at ≡ length u = omega arith in (
      omega (arith, ap length e, length-drop at bs, length-append u rest),
      ap (λ n. take n (drop at bs)) z ∙ ap (take (length u)) e ∙ take_at u rest (length u) refl,
      sym (drop-drop (length u) at bs) ∙ ap (drop (length u)) e ∙ drop_at u rest (length u) refl,
    )

fits_deep : (d : ℕ) (m : Major) (n : ℕ) → HeadFits d m n → Deep d m
fits_deep d Unsigned n f h l = absurd (omega arith)
fits_deep d Negative n f h l = absurd (omega arith)
fits_deep d Bytes n f h l = absurd (omega arith)
fits_deep d Text n f h l = absurd (omega arith)
fits_deep d Array n f h l = f.1
fits_deep d Map n f h l = f.1
fits_deep d Tag n f h l = f.1
fits_deep d Simple n f h l = absurd (omega arith)

-- the walk's head, if it is done, is the one that was read
abbrev HeadSo : ℕ → List ℕ → ℕ → ItemHead → Told (Major × ℕ) → Type 0
HeadSo d bs at h (done i u rest) = (i ≡ (h.major, h.argument)) × (u ≡ take (h.next - at) (drop at bs)) × (rest ≡ drop h.next bs) × Deep d h.major
HeadSo d bs at h cut = Unit {0}
HeadSo d bs at h (wrong p) = Unit {0}

-- a word that the walk takes for a head is one
stands : (d r : ℕ) (bs : List ℕ) (at : ℕ) (i : Major × ℕ) (u rest : List ℕ) → HeadFor d r i u → drop at bs ≡ u ++ rest → StandsAt (HeadOf (major_number i.0) i.1) bs at (at + length u) × (take (at + length u - at) (drop at bs) ≡ u) × (drop (at + length u) bs ≡ rest)
stands d r bs at i u rest ((e, f), g) q =
    let (l, a, b) = at_word bs u rest at q (let z = head_not_empty (major_number i.0) i.1 in let y = ap length e in omega arith) in
    ((omega arith, l, (a ∙ e, fits_below d i.0 i.1 f)), a, b)

head_so : (d r : ℕ) (bs : List ℕ) (at : ℕ) (h : ItemHead) → all_bytes bs ≡ true → HeadTold bs at (Some h) → HeadSo d bs at h (walk_head d r (drop at bs))
head_so d r bs at h all there = by (walk_head d r (drop at bs)) (head_holds d r (drop at bs) (bytes_drop at bs all))
  where
    by : (t : Told (Major × ℕ)) → Holds (Any (HeadFor d r)) (HeadFor d r) (drop at bs) t → HeadSo d bs at h t
    by (done i u rest) (any, w, q) =
        let (st, a, b) = stands d r bs at i u rest w q in
        let e : major_number i.0 ≡ major_number h.major = sym (head_major (major_number i.0) i.1 bs at (at + length u) st).1 ∙ (head_major (major_number h.major) h.argument bs at h.next there.0).1 in
        let m : i.0 ≡ h.major = sym (major_of_number i.0) ∙ ap major_of e ∙ major_of_number h.major in
        let (x, y) = head_once (major_number h.major) i.1 h.argument bs at (at + length u) h.next (subst (λ k. StandsAt (HeadOf k i.1) bs at (at + length u)) e st) there.0 in
        ((λ z. (m z, x z)), sym a ∙ ap (λ k. take (k - at) (drop at bs)) y, sym b ∙ ap (λ k. drop k bs) y, subst (Deep d) m (fits_deep d i.0 i.1 w.0.1))
    by cut q = tt
    by (wrong p) q = tt

no_head_never : (d r : ℕ) (bs : List ℕ) (at : ℕ) → all_bytes bs ≡ true → HeadTold bs at None → NeverDone (walk_head d r (drop at bs))
no_head_never d r bs at all none = by (walk_head d r (drop at bs)) (head_holds d r (drop at bs) (bytes_drop at bs all))
  where
    by : (t : Told (Major × ℕ)) → Holds (Any (HeadFor d r)) (HeadFor d r) (drop at bs) t → NeverDone t
    by (done i u rest) (any, w, q) = none (major_number i.0) i.1 (at + length u) (major_below i.0) (stands d r bs at i u rest w q).0
    by cut q = tt
    by (wrong p) q = tt

-- ITEMS

abbrev inner : ℕ → ℕ → List ℕ → Told (ℕ × ℕ)
inner zero = λ s x. cut
inner (suc d) = walk d

walk_is : (d r : ℕ) (q : List ℕ) → walk d r q ≡ walk_item (inner d) d r q
unfolding walk
walk_is zero r q = refl
walk_is (suc d) r q = refl

inner_is : (d : ℕ) → 0 < d → inner d ≡ walk (d - 1)
inner_is zero h = absurd (omega arith)
inner_is (suc d) h = let z : suc d - 1 ≡ d = omega arith in rw z

inner_body : (d r : ℕ) (m : Major) (n : ℕ) (q : List ℕ) → Deep d m → walk_body (inner d) r m n q ≡ walk_body (walk (d - 1)) r m n q
inner_body d r Unsigned n q h = refl
inner_body d r Negative n q h = refl
inner_body d r Bytes n q h = refl
inner_body d r Text n q h = refl
inner_body d r Array n q h = ap (λ w. walk_body w r Array n q) (inner_is d (h (omega arith) (omega arith)))
inner_body d r Map n q h = ap (λ w. walk_body w r Map n q) (inner_is d (h (omega arith) (omega arith)))
inner_body d r Tag n q h = ap (λ w. walk_body w r Tag n q) (inner_is d (h (omega arith) (omega arith)))
inner_body d r Simple n q h = refl

-- what follows a head, in an item
abbrev follow : ℕ → ℕ → (Major × ℕ) → List ℕ → List ℕ → Told (ℕ × ℕ)
follow d r i u rest = carry (λ m. (joined (reach_of_head u) (length u) m.0, after_of i.0 i.1 m.1)) u (walk_body (inner d) r i.0 i.1 rest)

abbrev under : List ℕ → (ℕ × ℕ) → ℕ × ℕ
under u m = (joined (reach_of_head u) (length u) m.0, m.1)

follow_is : (d r : ℕ) (m : Major) (n : ℕ) (u q : List ℕ) → Deep d m → carry (under u) u (body d r m n q) ≡ follow d r (m, n) u q
follow_is d r m n u q h = carry_retold (λ i. (i.0, after_of m n i.1)) (under u) u (walk_body (walk (d - 1)) r m n q) ∙ ap (λ t. carry (λ m'. (joined (reach_of_head u) (length u) m'.0, after_of m n m'.1)) u t) (sym (inner_body d r m n q h))

module _ (d r : ℕ) (bs : List ℕ) (at : ℕ) (h : ItemHead) where
  follow_so : (t : Told (Major × ℕ)) (end k a : ℕ) → at ≤ h.next → h.next ≤ end → HeadSo d bs at h t → (Deep d h.major → DoneSo bs h.next end (k, a) (body d r h.major h.argument (drop h.next bs)))
      → DoneSo bs at end (under (take (h.next - at) (drop at bs)) (k, a)) (on_told t (follow d r))
  follow_so (done i u rest) end k a x y (p, q, o, deep) s =
      let w = take (h.next - at) (drop at bs) in
      rw (p, q, o)
      (subst (λ t. DoneSo bs at end (under (take (h.next - at) (drop at bs)) (k, a)) t) (follow_is d r h.major h.argument (take (h.next - at) (drop at bs)) (drop h.next bs) deep)
      (carry_so bs at h.next (under (take (h.next - at) (drop at bs))) (take (h.next - at) (drop at bs)) end (k, a) (body d r h.major h.argument (drop h.next bs)) x y refl (s deep)))
  follow_so cut end k a x y p s = tt
  follow_so (wrong z) end k a x y p s = tt

  follow_never : (t : Told (Major × ℕ)) → HeadSo d bs at h t → (Deep d h.major → NeverDone (body d r h.major h.argument (drop h.next bs))) → NeverDone (on_told t (follow d r))
  follow_never (done i u rest) (p, q, o, deep) s =
      rw (p, q, o)
      (subst (λ t. NeverDone t) (follow_is d r h.major h.argument (take (h.next - at) (drop at bs)) (drop h.next bs) deep)
      (carry_never (under (take (h.next - at) (drop at bs))) (take (h.next - at) (drop at bs)) (body d r h.major h.argument (drop h.next bs)) (s deep)))
  follow_never cut p s = tt
  follow_never (wrong z) p s = tt

pub no_head : (d : ℕ) (bs : List ℕ) (at : ℕ) → ((i : ℕ) → get_or bs i 0 < 256) → HeadTold bs at None → Measured d bs at None
no_head d bs at typed none r = rw (walk_is d r (drop at bs)) (stop_never (walk_head d r (drop at bs)) (follow d r) (no_head_never d r bs at (bytes_typed bs typed) none))

module _ (d : ℕ) (bs : List ℕ) (at : ℕ) (h : ItemHead) (typed : (i : ℕ) → get_or bs i 0 < 256) (there : HeadTold bs at (Some h)) where
  pub no_body : BodyMeasured d bs h.major h.argument h.next None → Measured d bs at None
  no_body s r = rw (walk_is d r (drop at bs)) (follow_never d r bs at h (walk_head d r (drop at bs)) (head_so d r bs at h (bytes_typed bs typed) there) (s r))

  pub with_body : (own n : ℕ) (b : Measurement) → (own ≡ reach_of_head (take (h.next - at) (drop at bs))) × (own ≤ length (take (h.next - at) (drop at bs))) → n ≡ joined own (h.next - at) b.reach → BodyMeasured d bs h.major h.argument h.next (Some b)
      → Bounds bs at b.end n × ((r : ℕ) → DoneSo bs at b.end (n, b.after) (walk d r (drop at bs)))
  with_body own n b (e, l) f ((x, y), s) =
      let z = part_length bs at h.next there.0.0 there.0.1 in
      let g : joined (reach_of_head (take (h.next - at) (drop at bs))) (length (take (h.next - at) (drop at bs))) b.reach ≡ n = rw (z, ← e) (sym f) in (
        (rw f (joined_within at h.next b.end own b.reach (omega (arith, there.1)) x), y),
        λ r. rw (walk_is d r (drop at bs))
            (subst (λ k. DoneSo bs at b.end (k, b.after) (on_told (walk_head d r (drop at bs)) (follow d r))) g
            (follow_so d r bs at h (walk_head d r (drop at bs)) b.end b.reach b.after there.0.0 (omega arith) (head_so d r bs at h (bytes_typed bs typed) there) (s r))),
      )

-- FOR CALLERS

pub as_walked : (d : ℕ) (bs : List ℕ) (at : ℕ) (m : Option Measurement) → Measured d bs at m → AsWalked d bs at m
as_walked d bs at (Some m) ((a, b), s) = λ r end i (h, l, e).
    let (p, q, o) = subst (λ t. DoneSo bs at m.end (m.reach, m.after) t) e (s r) in
    let x = part_length bs at end h l in
    let y = part_length bs at m.end (omega arith) b in
    (omega (arith, ap length q), sym (ap (λ k. k.0) p), sym (ap (λ k. k.1) p))
as_walked d bs at None s = λ r end i (h, l, e). subst (λ (t : Told (ℕ × ℕ)). NeverDone t) e (s r)
