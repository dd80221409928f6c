-- The part of a list from one place to another: what becomes of it as the list is moved, or written to behind it.
use Rattle.std.proofs.Common.{◌≡◌, ℕ, ◌+◌, ◌-◌, ◌≤◌, List, [], ◌++◌, length, take, drop, sym, ap, ◌∙◌, append-nil, arith, take-add}
use lib.Seq.{paste}
use Rattle.std.proofs.lemmas.List.Edits.{take-paste}
use Rattle.std.proofs.lemmas.List.{length-take, length-drop, drop-append-le}
use Rattle.std.proofs.lemmas.Slice.{between_is}
use Rattle.input.specs.Unread.{Grown}

-- what `copy_within` puts at the front
pub moved : (s e : ℕ) (xs : List ℕ) → s ≤ e → e ≤ length xs → take (e - s) (paste xs 0 (drop s xs) (e - s)) ≡ drop s (take e xs)
moved s e xs h k =
    let cut : e - s ≤ length (drop s xs) = omega (arith, length-drop s xs) in
    let low : 0 ≤ length xs = omega arith in
    let same : e - s ≡ 0 + (e - s) = omega arith in
    ap (λ (m : ℕ). take m (paste xs 0 (drop s xs) (e - s))) same ∙ take-paste xs 0 (drop s xs) (e - s) low cut ∙ between_is xs s e

-- what a read adds behind the part from s to e, where it leaves the first e elements
pub grown : (s e n : ℕ) (xs ys : List ℕ) → s ≤ e → e ≤ length xs → take e ys ≡ take e xs → Grown (drop s (take e xs)) (drop s (take (e + n) ys))
grown s e n xs ys h k p =
    let cut : s ≤ length (take e xs) = omega (arith, length-take e xs) in
    let more : List ℕ = take n (drop e ys) in
    let all : take (e + n) ys ≡ take e xs ++ more = take-add e n ys ∙ ap (λ (l : List ℕ). l ++ more) p in
    (more, ap (λ (l : List ℕ). drop s l) all ∙ drop-append-le s (take e xs) more cut)

pub same_grown : (xs ys : List ℕ) → ys ≡ xs → Grown xs ys
same_grown xs ys p = ([], p ∙ sym (append-nil xs))
