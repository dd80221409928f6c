-- Words and heads at places of lent bytes.
use Rattle.std.proofs.Common.{◌≡◌, ℕ, suc, ◌+◌, ◌-◌, ◌*◌, ◌/◌, ◌%◌, ◌<◌, ◌≤◌, true, List, [], ◌∷◌, ◌++◌, length, get_or, take, drop, sym, refl, ap, ◌∙◌, subst, arith, length-append, take-append-drop, take-add}
use Rattle.std.proofs.lemmas.List.{drop_more, length-drop, length-take-le, drop-drop, take-take, take_all, take_at, drop_at}
use Rattle.std.proofs.Math.Nat.{sub-zero}
use Rattle.std.proofs.lemmas.Bool.{lt-ltb}
use Rattle.cbor.specs.declared.reading.Form.{Form}
use Rattle.cbor.specs.Encoding.{all_bytes, of_bytes}
use Rattle.cbor.specs.Prefix.{Any, PrefixFree, Then, Stops, StopsAt, StandsAt}
use Rattle.cbor.specs.Reading.{HeadOf, IsForm}
use Rattle.cbor.proofs.Numbers.{bytes_take, bytes_drop}
use Rattle.cbor.proofs.Words.{stops_first, stops_later, stops_lower}
use Rattle.cbor.proofs.Heads.{none_first, long_is, long_cut, long_low}

pub part_rest : (bs : List ℕ) (at mid : ℕ) → at ≤ mid → drop at bs ≡ take (mid - at) (drop at bs) ++ drop mid bs
part_rest bs at mid h =
    let d : at + (mid - at) ≡ mid = omega arith in
    sym (take-append-drop (mid - at) (drop at bs)) ∙ ap (λ x. take (mid - at) (drop at bs) ++ x) (drop-drop (mid - at) at bs ∙ ap (λ n. drop n bs) d)

pub part_more : (bs : List ℕ) (at mid end : ℕ) → at ≤ mid → mid ≤ end → take (end - at) (drop at bs) ≡ take (mid - at) (drop at bs) ++ take (end - mid) (drop mid bs)
part_more bs at mid end h k =
    let e : (mid - at) + (end - mid) ≡ end - at = omega arith in
    let d : at + (mid - at) ≡ mid = omega arith in
    ap (λ n. take n (drop at bs)) (sym e) ∙ take-add (mid - at) (end - mid) (drop at bs) ∙ ap (λ x. take (mid - at) (drop at bs) ++ take (end - mid) x) (drop-drop (mid - at) at bs ∙ ap (λ n. drop n bs) d)

-- all that is left from a place on
pub rest_all : (bs : List ℕ) (at : ℕ) → take (length bs - at) (drop at bs) ≡ drop at bs
rest_all bs at = take_all (length bs - at) (drop at bs) (omega (arith, length-drop at bs))

-- and its beginning
pub start_of : (k : ℕ) (l : List ℕ) → take (k - 0) l ≡ take k l
start_of k l = ap (λ n. take n l) (sub-zero k)

pub part_length : (bs : List ℕ) (at end : ℕ) → at ≤ end → end ≤ length bs → length (take (end - at) (drop at bs)) ≡ end - at
part_length bs at end h k = length-take-le (end - at) (drop at bs) (rw (length-drop at bs) (omega arith))

-- two strings one after the other, from a place to another
pub part_join : (bs u v : List ℕ) (at mid end : ℕ) → at ≤ mid → mid ≤ end → take (mid - at) (drop at bs) ≡ u → take (end - mid) (drop mid bs) ≡ v → take (end - at) (drop at bs) ≡ u ++ v
part_join bs u v at mid end h k a b = part_more bs at mid end h k ∙ (λ i. a i ++ b i)

pub part_split : (bs u v : List ℕ) (at end : ℕ) → at ≤ end → end ≤ length bs → take (end - at) (drop at bs) ≡ u ++ v → (at + length u ≤ end) × (take (at + length u - at) (drop at bs) ≡ u) × (take (end - (at + length u)) (drop (at + length u) bs) ≡ v)
part_split bs u v at end h k e =
    let l : end - at ≡ length u + length v = sym (part_length bs at end h k) ∙ ap length e ∙ length-append u v in
    let m : at + length u ≤ end = omega arith in
    let f = sym (part_more bs at (at + length u) end (omega arith) m) ∙ e in
    let n : length (take (at + length u - at) (drop at bs)) ≡ length u = part_length bs at (at + length u) (omega arith) (omega arith) ∙ (let z : at + length u - at ≡ length u = omega arith in z) in
    let a : take (at + length u - at) (drop at bs) ≡ u = sym (take_at (take (at + length u - at) (drop at bs)) (take (end - (at + length u)) (drop (at + length u) bs)) (length u) n) ∙ ap (take (length u)) f ∙ take_at u v (length u) refl in
    let b : take (end - (at + length u)) (drop (at + length u) bs) ≡ v = sym (drop_at (take (at + length u - at) (drop at bs)) (take (end - (at + length u)) (drop (at + length u) bs)) (length u) n) ∙ ap (drop (length u)) f ∙ drop_at u v (length u) refl in
    (m, a, b)

module _ {I : Type 0} (A B : I → List ℕ → Type 0) (free : PrefixFree A) where
  pub stops_at_first : ((i : I) (u : List ℕ) → A i u → (v : List ℕ) × B i v) → (bs : List ℕ) (at p n : ℕ) → StopsAt (Any A) bs at p n → StopsAt (Then A B) bs at p n
  stops_at_first on bs at p n (h, s) = (h, stops_first A B free on (drop at bs) (p - at) (n - at) s)

  pub stops_at_later : (i : I) (bs : List ℕ) (at mid p n : ℕ) → StandsAt (A i) bs at mid → StopsAt (B i) bs mid p n → StopsAt (Then A B) bs at p n
  stops_at_later i bs at mid p n (h, k, a) (l, s) =
      let u = take (mid - at) (drop at bs) in
      let z = part_length bs at mid h k in
      let e : length u + (p - mid) ≡ p - at = omega arith in
      let t = stops_later A B free i u (drop mid bs) (p - mid) (n - mid) a s in
      (omega arith, stops_lower (Then A B) (drop at bs) (p - at) (length u + (n - mid)) (n - at) (omega arith) (subst (λ q. Stops (Then A B) q (p - at) (length u + (n - mid))) (sym (part_rest bs at mid h)) (subst (λ x. Stops (Then A B) (u ++ drop mid bs) x (length u + (n - mid))) e t)))

-- a byte of lent bytes, and what follows
pub at_first : (bs : List ℕ) (at : ℕ) → at < length bs → drop at bs ≡ get_or bs at 0 ∷ drop (at + 1) bs
at_first bs at h = drop_more bs at 0 h

head_stops : (m : ℕ) (bs : List ℕ) (at p n k j : ℕ) → at ≤ p → p - at ≡ k → n - at ≤ j → Stops (Any (HeadOf m)) (drop at bs) k j → StopsAt (Any (HeadOf m)) bs at p n
head_stops m bs at p n k j h e f s = (h, stops_lower (Any (HeadOf m)) (drop at bs) (p - at) j (n - at) f (subst (λ x. Stops (Any (HeadOf m)) (drop at bs) x j) (sym e) s))

pub no_head : (m : ℕ) (bs : List ℕ) (at : ℕ) → (at < length bs → (s : ℕ) → s < 28 → get_or bs at 0 ≡ 32 * m + s → ⊥) → StopsAt (Any (HeadOf m)) bs at at at
no_head m bs at bad =
    head_stops m bs at at at 0 0 (omega arith) (omega arith) (omega arith) (none_first m (drop at bs) (λ b r e s l f.
    let h : at < length bs = (let z : length bs - at ≡ suc (length r) = sym (length-drop at bs) ∙ ap length e in omega arith) in
    let g : get_or bs at 0 ∷ drop (at + 1) bs ≡ b ∷ r = sym (at_first bs at h) ∙ e in
    let c : get_or bs at 0 ≡ b = cc in
    bad h s l (c ∙ f)))

pub small_head : (m : ℕ) (bs : List ℕ) (at n : ℕ) → at < length bs → get_or bs at 0 / 32 ≡ m → n ≡ get_or bs at 0 % 32 → n < 24 → StandsAt (HeadOf m n) bs at (at + 1)
small_head m bs at n h e f l =
    let b = get_or bs at 0 in
    let x : take (at + 1 - at) (drop at bs) ≡ b ∷ [] = ap (λ q. take (at + 1 - at) q) (at_first bs at h) ∙ ap (λ k. take k (b ∷ drop (at + 1) bs)) (let z : at + 1 - at ≡ 1 = omega arith in z) in
    let y : b ∷ [] ≡ (32 * m + n) ∷ [] = ap (λ k. k ∷ []) (let z : b ≡ 32 * m + n = omega arith in z) in
    (omega arith, omega arith, (x ∙ y ∙ rw (lt-ltb n 24 l), omega arith))

module _ (m : ℕ) (bs : List ℕ) (at : ℕ) (f : Form) (inside : at < length bs) (major : get_or bs at 0 / 32 ≡ m) (form : IsForm (get_or bs at 0 % 32) f) (bytes : all_bytes bs ≡ true) where
  rest : List ℕ
  rest = drop (at + 1) bs

  rest_length : length (drop (at + 1) bs) ≡ length bs - (at + 1)
  rest_length = length-drop (at + 1) bs

  pub cut_head : (n : ℕ) → n ≤ at + 1 + f.width → length bs - (at + 1) < f.width → (f.front ≤ length bs - (at + 1) → f.least ≤ of_bytes (take f.front (drop (at + 1) bs))) → StopsAt (Any (HeadOf m)) bs at (length bs) n
  cut_head n i l g =
      let z = rest_length in
      head_stops m bs at (length bs) n (suc (length (drop (at + 1) bs))) (suc f.width) (omega arith) (omega arith) (omega arith)
      (subst (λ q. Stops (Any (HeadOf m)) q (suc (length (drop (at + 1) bs))) (suc f.width)) (sym (at_first bs at inside))
      (long_cut m (get_or bs at 0) f major form (drop (at + 1) bs) (bytes_drop (at + 1) bs bytes) (omega arith) (λ h. g (omega arith))))

  pub low_head : f.front ≤ length bs - (at + 1) → of_bytes (take f.front (drop (at + 1) bs)) < f.least → StopsAt (Any (HeadOf m)) bs at (at + f.front) at
  low_head l g =
      let z = rest_length in
      head_stops m bs at (at + f.front) at f.front 0 (omega arith) (omega arith) (omega arith)
      (subst (λ q. Stops (Any (HeadOf m)) q f.front 0) (sym (at_first bs at inside))
      (long_low m (get_or bs at 0) f major form (drop (at + 1) bs) (bytes_drop (at + 1) bs bytes) (omega arith) g))

  pub whole_head : f.width ≤ length bs - (at + 1) → f.least ≤ of_bytes (take f.front (drop (at + 1) bs)) → f.front ≤ f.width → StandsAt (HeadOf m (of_bytes (take f.width (drop (at + 1) bs)))) bs at (at + 1 + f.width)
  whole_head l g o =
      let z = rest_length in
      let t = take f.width (drop (at + 1) bs) in
      let x : take (at + 1 + f.width - at) (drop at bs) ≡ get_or bs at 0 ∷ t = ap (λ q. take (at + 1 + f.width - at) q) (at_first bs at inside) ∙ ap (λ k. take k (get_or bs at 0 ∷ drop (at + 1) bs)) (let y : at + 1 + f.width - at ≡ suc f.width = omega arith in y) in
      let y : take f.front t ≡ take f.front (drop (at + 1) bs) = take-take f.front f.width (drop (at + 1) bs) o in
      (omega arith, omega arith, subst (λ w. HeadOf m (of_bytes t) w) (sym x) (long_is m (get_or bs at 0) f major form t (bytes_take f.width (drop (at + 1) bs) (bytes_drop (at + 1) bs bytes)) (length-take-le f.width (drop (at + 1) bs) (omega arith)) (rw y g)))
