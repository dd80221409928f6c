-- Items by their major types, and items one after another, at places.
use Rattle.std.proofs.Common.{◌≡◌, ℕ, zero, suc, ◌-◌, ◌<◌, ◌≤◌, cond, eqb, ◌⊎◌, List, [], length, drop, Ok, Result, sym, refl, ◌∙◌, subst, inl, inr, arith}
use Rattle.std.proofs.lemmas.Bool.{eq-eqb, ne_eqb, cases_eq}
use Rattle.cbor.specs.declared.Major.{Major}
use Rattle.cbor.specs.declared.Major.TheVariants.{Unsigned, Negative, Bytes, Text, Array, Map, Tag, Simple}
use Rattle.items.specs.declared.skipping.ItemHead.{ItemHead}
use Rattle.prefixes.specs.Words.{joined, reach_of_head}
use Rattle.prefixes.specs.Walks.{Told, done, cut, on_told, carry, walk_head, walk_body, walk_item, walk_bytes, walk_text, walk_many, walk_pairs, walk, after_of}
use Rattle.checker.specs.declared.Stop.{Stop}
use Rattle.reach.specs.Measured.{Deep}
use Rattle.checker.specs.Ends.{Stops, Ends, Headed}
use Rattle.checker.proofs.Steps.{then_ends, stop_ends, retold_ends}

abbrev inner : ℕ → ℕ → List ℕ → Told (ℕ × ℕ)
inner zero = λ s x. cut
inner (suc d) = walk d

walk_is : (d r : ℕ) (q : List ℕ) → walk d r q ≡ walk_item (inner d) d r q
unfolding walk
walk_is zero r q = refl
walk_is (suc d) r q = refl

inner_is : (d n : ℕ) → 0 < d → n ≡ d - 1 → inner d ≡ walk n
inner_is zero n h e = absurd (omega arith)
inner_is (suc d) n h e = let z : n ≡ d = omega arith in rw z

pub item_stop : (bs : List ℕ) (at d r : ℕ) (s : Stop) → Stops at s (walk_head d r (drop at bs)) → Stops at s (walk d r (drop at bs))
item_stop bs at d r s h = rw (walk_is d r (drop at bs)) (stop_ends at (walk_head d r (drop at bs)) _ s h)

abbrev plain : List ℕ → Told (ℕ × ℕ)
plain q = done (0, 0) [] q

-- after a head
module _ (bs : List ℕ) (at d r : ℕ) (h : ItemHead) (is : Headed bs at (Ok h) (walk_head d r (drop at bs))) where
  item_on : (m : Major) → h.major ≡ m → (x : Result ℕ Stop) → Ends bs h.next x (walk_body (inner d) r m h.argument (drop h.next bs)) → Ends bs at x (walk d r (drop at bs))
  item_on m e x g =
      rw (walk_is d r (drop at bs))
      (then_ends bs at h.next (h.major, h.argument) (walk_head d r (drop at bs)) (λ i u rest. walk_body (inner d) r i.0 i.1 rest) (λ i u m. (joined (reach_of_head u) (length u) m.0, after_of i.0 i.1 m.1)) is x
      (subst (λ k. Ends bs h.next x (walk_body (inner d) r k h.argument (drop h.next bs))) (sym e) g))

  deep : (m : Major) → h.major ≡ m → Deep d h.major → Deep d m
  deep m e l = subst (λ m. Deep d m) e l

  pub item_bytes : h.major ≡ Bytes → (x : Result ℕ Stop) → Ends bs h.next x (walk_bytes h.argument (drop h.next bs)) → Ends bs at x (walk d r (drop at bs))
  item_bytes e x g = item_on Bytes e x (retold_ends (λ m. (m, 0)) bs h.next (walk_bytes h.argument (drop h.next bs)) x g)

  pub item_text : h.major ≡ Text → (x : Result ℕ Stop) → Ends bs h.next x (walk_text h.argument h.argument (drop h.next bs)) → Ends bs at x (walk d r (drop at bs))
  item_text e x g = item_on Text e x (retold_ends (λ m. (m, 0)) bs h.next (walk_text h.argument h.argument (drop h.next bs)) x g)

  pub item_array : h.major ≡ Array → Deep d h.major → (n : ℕ) → n ≡ d - 1 → (x : Result ℕ Stop) → Ends bs h.next x (walk_many (walk n 0) h.argument (drop h.next bs)) → Ends bs at x (walk d r (drop at bs))
  item_array e l n f x g = item_on Array e x (rw (inner_is d n (deep Array e l (omega arith) (omega arith)) f) (retold_ends (λ m. (m, 0)) bs h.next (walk_many (walk n 0) h.argument (drop h.next bs)) x g))

  pub item_map : h.major ≡ Map → Deep d h.major → (n : ℕ) → n ≡ d - 1 → (x : Result ℕ Stop) → Ends bs h.next x (walk_pairs (walk n) h.argument [] (drop h.next bs)) → Ends bs at x (walk d r (drop at bs))
  item_map e l n f x g = item_on Map e x (rw (inner_is d n (deep Map e l (omega arith) (omega arith)) f) (retold_ends (λ m. (m, 0)) bs h.next (walk_pairs (walk n) h.argument [] (drop h.next bs)) x g))

  pub item_tag : h.major ≡ Tag → Deep d h.major → (n : ℕ) → n ≡ d - 1 → (s : ℕ) → s ≡ cond (eqb h.argument 18446744073709551615) (r - 248) 0 → (x : Result ℕ Stop) → Ends bs h.next x (walk n s (drop h.next bs)) → Ends bs at x (walk d r (drop at bs))
  item_tag e l n f s q x g = elim (cases_eq h.argument 18446744073709551615) [
    | inl k ↦ item_on Tag e x (rw (inner_is d n (deep Tag e l (omega arith) (omega arith)) f, eq-eqb h.argument 18446744073709551615 k) (subst (λ s. Ends bs h.next x (walk n s (drop h.next bs))) (q ∙ rw (eq-eqb h.argument 18446744073709551615 k)) g))
    | inr k ↦ item_on Tag e x (rw (inner_is d n (deep Tag e l (omega arith) (omega arith)) f, ne_eqb h.argument 18446744073709551615 k) (subst (λ s. Ends bs h.next x (walk n s (drop h.next bs))) (q ∙ rw (ne_eqb h.argument 18446744073709551615 k)) g))
  ]

  none_ends : Ends bs h.next (Ok h.next) (plain (drop h.next bs))
  none_ends = let z : h.next - h.next ≡ 0 = omega arith in ((0, 0), (omega arith, is.1, rw z))

  pub item_plain : (h.major ≡ Unsigned) ⊎ ((h.major ≡ Negative) ⊎ (h.major ≡ Simple)) → Ends bs at (Ok h.next) (walk d r (drop at bs))
  item_plain (inl e) = item_on Unsigned e (Ok h.next) none_ends
  item_plain (inr (inl e)) = item_on Negative e (Ok h.next) none_ends
  item_plain (inr (inr e)) = item_on Simple e (Ok h.next) none_ends

-- items one after another
many_more : (w : List ℕ → Told (ℕ × ℕ)) (n : ℕ) (q : List ℕ) → 0 < n → walk_many w n q ≡ on_told (w q) (λ i u rest. carry (λ m. joined i.0 (length u) m) u (walk_many w (n - 1) rest))
unfolding walk_many
many_more w zero q h = absurd (omega arith)
many_more w (suc n) q h = let z : suc n - 1 ≡ n = omega arith in rw z

pub many_stop : (w : List ℕ → Told (ℕ × ℕ)) (bs : List ℕ) (at n : ℕ) (s : Stop) → 0 < n → Stops at s (w (drop at bs)) → Stops at s (walk_many w n (drop at bs))
many_stop w bs at n s h g = rw (many_more w n (drop at bs) h) (stop_ends at (w (drop at bs)) _ s g)

pub many_step : (w : List ℕ → Told (ℕ × ℕ)) (bs : List ℕ) (at n m end : ℕ) → n ≡ suc m → Ends bs at (Ok end) (w (drop at bs)) → (r : Result ℕ Stop) → Ends bs end r (walk_many w m (drop end bs)) → Ends bs at r (walk_many w n (drop at bs))
unfolding walk_many
many_step w bs at n m end h (i, e) r g = rw h (then_ends bs at end i (w (drop at bs)) (λ i u rest. walk_many w m rest) (λ i u m. joined i.0 (length u) m) e r g)

pub many_none : (w : List ℕ → Told (ℕ × ℕ)) (bs : List ℕ) (at n : ℕ) → n ≡ 0 → at ≤ length bs → Ends bs at (Ok at) (walk_many w n (drop at bs))
unfolding walk_many
many_none w bs at n e h = let z : at - at ≡ 0 = omega arith in (0, (omega arith, h, rw (e, z)))
