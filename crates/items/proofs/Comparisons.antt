-- Byte strings compared: the index that decides.
use Rattle.std.proofs.Common.{◌≡◌, ℕ, zero, suc, ◌<◌, ◌≤◌, true, ltb, List, [], ◌∷◌, length, get_or, take, drop, Some, None, Option, Less, Equal, Greater, Ordering, Bor, sym, refl, ap, ◌∙◌, arith}
use Rattle.std.proofs.lemmas.List.{drop_more, drop_all, take_all}
use Rattle.std.proofs.lemmas.Bool.{lt-ltb, eq-eqb}
use Rattle.std.proofs.Math.Bool.{or-true}
use Rattle.std.proofs.lemmas.Bool.Decides.{nat_tests}
use Rattle.std.proofs.lemmas.Grind.{common_steps, same_number_lists}
use Rattle.std.specs.Ordering.{nat_cmp}
use Rattle.std.specs.Option.{option_cmp}
use Rattle.std.specs.Slice.{IsItemAt}
use Rattle.cbor.specs.Order.{before}
use Rattle.items.specs.Comparing.{FirstBefore, SameSoFar, DecidedAt}

first_decides : (xs ys : List ℕ) → FirstBefore xs ys → before xs ys ≡ true
unfolding before
first_decides [] [] h = absurd h
first_decides [] (y ∷ ys) h = refl
first_decides (x ∷ xs) [] h = absurd h
first_decides (x ∷ xs) (y ∷ ys) h = rw (lt-ltb x y h)

decides : (i : ℕ) (xs ys : List ℕ) → DecidedAt i xs ys → before xs ys ≡ true
unfolding before
decides zero xs ys (e, h) = first_decides xs ys h
decides (suc i) [] [] (e, h) = absurd h
decides (suc i) [] (y ∷ ys) (e, h) = refl
decides (suc i) (x ∷ xs) [] (e, h) = absurd (let z = ap length e in omega arith)
decides (suc i) (x ∷ xs) (y ∷ ys) (e, h) =
    let p : x ≡ y = cc in
    let q : take i xs ≡ take i ys = cc in
    rw (eq-eqb x y p, decides i xs ys (q, h)) (or-true (ltb x y))

abbrev Decides : ℕ → List ℕ → List ℕ → Type 0
Decides i xs ys = DecidedAt i xs ys × (before xs ys ≡ true)

abbrev item_cmp : Option (Bor ℕ) → Option (Bor ℕ) → Ordering
item_cmp = option_cmp (λ x y. nat_cmp x.now y.now)

first_items : (i : ℕ) (xs ys : List ℕ) (r s : Option (Bor ℕ)) → IsItemAt xs i r → IsItemAt ys i s → Less ≡ item_cmp r s → FirstBefore (drop i xs) (drop i ys)
first_items i xs ys None None a b e = cc
first_items i xs ys None (Some y) a b e = rw (drop_all i xs (omega arith), drop_more ys i 0 (omega arith)) tt
first_items i xs ys (Some x) None a b e = cc
first_items i xs ys (Some x) (Some y) a b e = rw (drop_more xs i 0 (omega arith), drop_more ys i 0 (omega arith)) (grind (arith, nat_tests))

-- the same up to an index
module _ (i : ℕ) (xs ys : List ℕ) (k : i ≤ length xs) (l : i ≤ length ys) (same : (j : ℕ) → j < i → get_or xs j 0 ≡ get_or ys j 0) where
  same_so_far : SameSoFar i xs ys
  same_so_far = same_number_lists (take i xs) (take i ys) (grind (arith, common_steps)) (λ j h. grind (arith, common_steps, same j))

  pub item_decides : (r s : Option (Bor ℕ)) → IsItemAt xs i r → IsItemAt ys i s → Less ≡ item_cmp r s → Decides i xs ys
  item_decides r s a b e = let h : DecidedAt i xs ys = (same_so_far, first_items i xs ys r s a b e) in (h, decides i xs ys h)

  pub no_item_decides : (r s : Option (Bor ℕ)) → IsItemAt xs i r → IsItemAt ys i s → Equal ≡ item_cmp r s → (i < length xs → i < length ys → get_or xs i 0 ≡ get_or ys i 0 → ⊥) → xs ≡ ys
  no_item_decides None None a b e n = sym (take_all i xs (omega arith)) ∙ same_so_far ∙ take_all i ys (omega arith)
  no_item_decides None (Some y) a b e n = cc
  no_item_decides (Some x) None a b e n = cc
  no_item_decides (Some x) (Some y) a b e n = absurd (n (omega arith) (omega arith) (grind (arith, nat_tests)))

pub turned : (r s : Option (Bor ℕ)) → Greater ≡ item_cmp r s → Less ≡ item_cmp s r
turned None None e = cc
turned None (Some y) e = cc
turned (Some x) None e = refl
turned (Some x) (Some y) e = grind (arith, nat_tests)
