-- The walk of a head holds.
use Rattle.std.proofs.Common.{◌≡◌, ℕ, zero, suc, ◌+◌, ◌-◌, ◌<◌, ◌≤◌, Bool, true, false, cond, ◌&&◌, ltb, leb, ◌⊎◌, List, [], ◌∷◌, ◌++◌, length, take, drop, sym, refl, ap, ◌∙◌, subst, inl, inr, append_assoc, arith, length-append, take-append-drop}
use Rattle.std.proofs.lemmas.List.{append-nil, nil_from_length, length-take-le, take_at}
use Rattle.std.proofs.lemmas.Bool.{lt-ltb, le-leb, lt-leb, ltb-true, leb-true, cases_lt, cases_Bool, both_ways, and_from, and_parts}
use Rattle.std.proofs.lemmas.Bool.Decides.{nat_tests}
use Rattle.cbor.specs.Encoding.{all_bytes, number, of_bytes}
use Rattle.cbor.specs.Prefix.{Begins, Any}
use Rattle.cbor.proofs.Numbers.{bytes_parts, bytes_take}
use Rattle.prefixes.specs.Words.{Word, WrongAt, Unread, Reach}
use Rattle.prefixes.specs.Shapes.{BytesOf, HeadFor}
use Rattle.prefixes.specs.Texts.{One}
use Rattle.prefixes.specs.Walks.{Told, done, cut, wrong, Holds, on_told, carry, walk_one, walk_bytes, first_for, fronts, backs, low, high, walk_high, head_says, say, walk_head}
use Rattle.prefixes.proofs.Texts.{one_free}
use Rattle.prefixes.proofs.Told.{carry_holds, then_holds, holds_same}
use Rattle.prefixes.proofs.Strings.{one_holds, bytes_holds}
use Rattle.prefixes.proofs.Forms.{FirstFor, High, high_free, shape_is, shape_fills, shape_some, Parts, HeadParts, parts_from_head, head_from_parts, bytes_some, tail_some}

first_for_true : (d r b : ℕ) → first_for d r b ≡ true → FirstFor d r b
first_for_true d r b h = (grind (arith, nat_tests), grind (arith, nat_tests), λ x y. grind (arith, nat_tests), λ x. grind (arith, nat_tests))

true_first_for : (d r b : ℕ) → FirstFor d r b → first_for d r b ≡ true
true_first_for d r b h = grind (arith, nat_tests)

-- BYTES THAT SETTLE THE FORM

-- they can be filled up, and where there are none their number is 0
abbrev Fills : ℕ → ℕ → ℕ → Type 0
Fills h lo hi = (x : List ℕ) → all_bytes x ≡ true → length x < h → Begins (High h lo hi) x

abbrev Settled : ℕ → ℕ → ℕ → Type 0
Settled h lo hi = (0 < h) ⊎ ((lo ≡ 0) × (hi ≡ 1))

abbrev from_below : ℕ → ℕ → ℕ → Bool
from_below lo hi n = leb lo n && ltb n hi

split_at : (h : ℕ) (q : List ℕ) → h < length q → (c : ℕ) × (y : List ℕ) × (q ≡ take h q ++ c ∷ y) × (take (suc h) q ≡ take h q ++ c ∷ [])
split_at h [] l = absurd (omega arith)
split_at zero (b ∷ q) l = (b, q, refl, refl)
split_at (suc h) (b ∷ q) l = let (c, y, e, f) = split_at h q (omega arith) in (c, y, ap (λ z. b ∷ z) e, ap (λ z. b ∷ z) f)

high_not : (h lo hi : ℕ) (q x r : List ℕ) → from_below lo hi (of_bytes (take h q)) ≡ false → h ≤ length q → q ≡ x ++ r → High h lo hi x → ⊥
high_not h lo hi q x r t l e (n, a, b, c) =
    let z : take h q ≡ x = ap (λ v. take h v) e ∙ take_at x r h n in
    both_ways _ t (ap (λ v. from_below lo hi (of_bytes v)) z ∙ and_from (leb lo (of_bytes x)) (ltb (of_bytes x) hi) (le-leb lo (of_bytes x) b) (lt-ltb (of_bytes x) hi c))

high_wrong : (h lo hi : ℕ) (q : List ℕ) → all_bytes q ≡ true → h ≤ length q → Fills h lo hi → Settled h lo hi → from_below lo hi (of_bytes (take h q)) ≡ false
    → WrongAt (High h lo hi) q (h - 1) × Unread (High h lo hi) q
unfolding number
high_wrong zero lo hi q a l fill (inl s) t = absurd (omega arith)
high_wrong zero lo hi q a l fill (inr (p, s)) t = absurd (both_ways _ t (and_from (leb lo 0) (ltb 0 hi) (le-leb lo 0 (omega arith)) (lt-ltb 0 hi (omega arith))))
high_wrong (suc h) lo hi q a l fill s t =
    let (c, y, e, f) = split_at h q l in
    let n = length-take-le h q (omega arith) in (
      (
        take h q,
        c,
        y,
        n ∙ (omega arith),
        e,
        fill (take h q) (bytes_take h q a) (omega arith),
        λ (r, b).
            let z : r ≡ [] = nil_from_length r (let k = length-append (take h q ++ c ∷ []) r in let j = length-append (take h q) (c ∷ []) in let i = b.0 in omega arith) in
            high_not (suc h) lo hi q (take h q ++ c ∷ []) y t l (e ∙ sym (append_assoc (take h q) (c ∷ []) y))
            (subst (λ v. High (suc h) lo hi v) (ap (λ v. (take h q ++ c ∷ []) ++ v) z ∙ append-nil (take h q ++ c ∷ [])) b),
      ),
      λ u rest b g. high_not (suc h) lo hi q u rest t l g b,
    )

high_whole : (h lo hi : ℕ) (q : List ℕ) → all_bytes q ≡ true → h ≤ length q → Fills h lo hi → Settled h lo hi
    → Holds (High h lo hi) (λ (m : ℕ) u. Unit {0}) q (cond (from_below lo hi (of_bytes (take h q))) (done 0 (take h q) (drop h q)) (wrong (h - 1)))
high_whole h lo hi q a l fill s = elim (cases_Bool (from_below lo hi (of_bytes (take h q)))) [
  | inl t ↦
      let p = and_parts (leb lo (of_bytes (take h q))) (ltb (of_bytes (take h q)) hi) t in
      rw t ((length-take-le h q l, bytes_take h q a, leb-true lo (of_bytes (take h q)) p.0, ltb-true (of_bytes (take h q)) hi p.1), tt, sym (take-append-drop h q))
  | inr t ↦ rw t (high_wrong h lo hi q a l fill s t)
]

high_holds : (h lo hi : ℕ) (q : List ℕ) → all_bytes q ≡ true → Fills h lo hi → Settled h lo hi → Holds (High h lo hi) (λ (m : ℕ) u. Unit {0}) q (walk_high h lo hi q)
high_holds h lo hi q a fill s = elim (cases_lt (length q) h) [
  | inl l ↦ rw (lt-leb h (length q) l) (fill q a l, λ u rest (n, x, _, _) e. let z : length q ≡ length u + length rest = ap length e ∙ length-append u rest in omega arith)
  | inr l ↦ rw (le-leb h (length q) l) (high_whole h lo hi q a l fill s)
]

-- ALL OF THEM

tail_told : (d r b : ℕ) (q : List ℕ) → FirstFor d r b → all_bytes q ≡ true
    → Holds (Parts (fronts b) (backs b) (low b) (high r b)) (λ (m : ℕ) u. Unit {0}) q (on_told (walk_high (fronts b) (low b) (high r b) q) (λ m x rest. carry (λ (k : ℕ). k) x (walk_bytes (backs b) rest)))
tail_told d r b q f a =
    let A = Word (High (fronts b) (low b) (high r b)) in
    let B = λ (_ : List ℕ). BytesOf (backs b) in
    let on = λ (i x : List ℕ) (y : A i x). bytes_some (backs b) in
    let free = high_free (fronts b) (low b) (high r b) in
    let s = shape_is d r b f in
    let U = λ (m : ℕ) (u : List ℕ). Unit {0} in
    let h = high_holds (fronts b) (low b) (high r b) q a (λ x ab l. shape_fills d r b (fronts b) (backs b) (low b) (high r b) f s x ab l) (shape_some r b (fronts b) (backs b) (low b) (high r b) s) in
    then_holds A B free on (λ m u. Reach (BytesOf (backs b)) u m) U U q (walk_high (fronts b) (low b) (high r b) q) _
    (holds_same (High (fronts b) (low b) (high r b)) (Any A) U (λ w x. (w, (refl, x))) (λ w (i, (e, x)). x) q (walk_high (fronts b) (low b) (high r b) q) h)
    (λ m u rest (j, (p, x)) r e. carry_holds A B free on (λ m u. Reach (BytesOf (backs b)) u m) U (λ (k : ℕ). k) u u rest (walk_bytes (backs b) rest) (refl, x)
    (λ k v y t. tt) (bytes_holds (backs b) rest (bytes_parts u rest (ap all_bytes (sym e) ∙ a)).1))

head_told : (d r : ℕ) (q : List ℕ) → all_bytes q ≡ true
    → Holds (HeadParts d r) (λ (m : ℕ) u. Unit {0}) q (on_told (walk_one (first_for d r) q) (λ b u rest. carry (λ (m : ℕ). m) u (on_told (walk_high (fronts b) (low b) (high r b) rest) (λ m x rest. carry (λ (k : ℕ). k) x (walk_bytes (backs b) rest)))))
head_told d r q a =
    let A = One (FirstFor d r) in
    let B = λ (b : ℕ). Parts (fronts b) (backs b) (low b) (high r b) in
    let on = λ (i : ℕ) (x : List ℕ) (y : A i x). tail_some d r i y.1 in
    let free = one_free (FirstFor d r) in
    let U = λ (m : ℕ) (u : List ℕ). Unit {0} in
    then_holds A B free on U U A q (walk_one (first_for d r) q) _
    (one_holds (FirstFor d r) (first_for d r) (λ b t. first_for_true d r b t) (λ b t. true_first_for d r b t) (0, (omega arith, omega arith, (λ x y. absurd (omega arith)), λ x. absurd (omega arith))) q)
    (λ b u rest s (p, x) e. carry_holds A B free on U U (λ (m : ℕ). m) b u rest _ (p, x) (λ m v y t. tt) (tail_told d r b rest x (bytes_parts u rest (ap all_bytes (sym e) ∙ a)).1))

say_holds : (d r : ℕ) (q : List ℕ) (o : Told ℕ) → Holds (HeadParts d r) (λ (m : ℕ) u. Unit {0}) q o → Holds (Any (HeadFor d r)) (HeadFor d r) q (say head_says o)
say_holds d r q (done i u rest) (a, _, e) = let h = head_from_parts d r u a in ((head_says u, h), h, e)
say_holds d r q cut h =
    holds_same {I = ℕ} (HeadParts d r) (Any (HeadFor d r)) (λ m u. Unit {0}) (λ w a. (head_says w, head_from_parts d r w a)) (λ w (i, a). parts_from_head d r i w a) q cut h
say_holds d r q (wrong p) h =
    holds_same {I = ℕ} (HeadParts d r) (Any (HeadFor d r)) (λ m u. Unit {0}) (λ w a. (head_says w, head_from_parts d r w a)) (λ w (i, a). parts_from_head d r i w a) q (wrong p) h

pub head_holds : (d r : ℕ) (q : List ℕ) → all_bytes q ≡ true → Holds (Any (HeadFor d r)) (HeadFor d r) q (walk_head d r q)
unfolding walk_head
head_holds d r q a = say_holds d r q _ (head_told d r q a)
