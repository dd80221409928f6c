-- Keys and values one after another, at places.
use Rattle.std.proofs.Common.{◌≡◌, ℕ, slice_range, suc, ◌+◌, ◌-◌, ◌<◌, ◌≤◌, true, false, Bool, List, [], ◌∷◌, length, get_or, drop, Some, None, Ok, Err, Option, Result, sym, refl, ap, ◌∙◌, subst, inl, inr, arith}
use Rattle.std.specs.Option.{unwrap_or}
use Rattle.std.proofs.lemmas.List.{length-drop}
use Rattle.std.proofs.lemmas.Bool.{cases_lt}
use Rattle.cbor.specs.Encoding.{all_bytes}
use Rattle.cbor.specs.Order.{before}
use Rattle.cbor.proofs.Numbers.{bytes_drop}
use Rattle.cbor.proofs.Order.{before_irreflexive, before_transitive}
use Rattle.items.specs.Comparing.{Compared}
use Rattle.items.specs.declared.comparing.Comparison.{Comparison}
use Rattle.items.specs.declared.comparing.Comparison.TheVariants.{Before, Same, After}
use Rattle.cbor.proofs.Places.{part_rest, part_length}
use Rattle.prefixes.specs.Words.{Reach, Keyed, joined}
use Rattle.prefixes.specs.Shapes.{ItemAt}
use Rattle.prefixes.specs.Walks.{Told, done, on_told, carry, odd_at, settle, next_key, reach_of_key, walk_pairs, walk, Holds, Says}
use Rattle.checker.specs.declared.Stop.{Stop}
use Rattle.checker.specs.declared.Stop.TheVariants.{Wrong}
use Rattle.checker.specs.declared.keys.KeySpan.{KeySpan}
use Rattle.reach.specs.Measured.{Measured, Ended}
use Rattle.checker.specs.Ends.{Stops, Ends}
use Rattle.checker.proofs.Steps.{rest_is, then_ends, stop_ends}
use Rattle.reach.proofs.Measures.{as_walked}
use Rattle.reach.specs.declared.Measurement.{Measurement}
use Rattle.checker.specs.Keys.{Kept, KeyWithin, AfterLast, OddOf, LastAt, odds, OddWith, Misplaced, KeyTold}
use Rattle.prefixes.proofs.Steps.{odd_part, pairs_step}
use Rattle.cbor.proofs.Items.{encode_not_empty}
use Rattle.prefixes.proofs.Items.{item_from_word}
use Rattle.prefixes.proofs.Free.{item_free}
use Rattle.prefixes.proofs.Verdict.{walk_is_right}
use Rattle.checker.proofs.Odds.{OddTold, odd_placed, apart_larger, odd_there}

-- COMPARING WHOLE KEYS

false_from : (b : Bool) → (b ≡ true → ⊥) → false ≡ b
false_from true h = absurd (h refl)
false_from false h = refl

-- a string that does not compare as the earlier one is not before the other
pub not_before : (xs ys : List ℕ) (r : Comparison) → Compared xs ys r → ((i : ℕ) → r ≡ Before i → ⊥) → false ≡ before xs ys
not_before xs ys (Before i) c h = absurd (h i refl)
not_before xs ys Same c h = false_from (before xs ys) (λ e. before_irreflexive xs (subst (λ z. before xs z ≡ true) (sym c) e))
not_before xs ys (After i) c h = false_from (before xs ys) (λ e. before_irreflexive xs (before_transitive xs ys xs e c.1))

-- REFUSING A KEY

-- the last key's reach and place, as measured
module _ (bs : List ℕ) (d n : ℕ) (s : KeySpan) (m : Measurement) (measured : Measured d bs s.start (Some m)) (k : List ℕ × ℕ) (ks : List (List ℕ × ℕ)) (at_last : LastAt bs d n (Some s) (k ∷ ks)) where
  odd_is : (q : List ℕ) → odd_at k.1 k.0 q ≡ odd_at m.reach (drop s.start bs) q
  odd_is q =
      let (e, i, r, o, (w, a, ended)) = at_last in
      let (x, y, z) = as_walked d bs s.start (Some m) measured w s.end (k.1, a) ended in
      let (g, h) = measured.0 in
      ap (λ l. odd_at k.1 l q) e ∙ ap (λ j. odd_at j (slice_range bs s.start s.end) q) (sym y) ∙ odd_part bs s.start (s.end - s.start) m.reach q (omega arith) (omega arith)

next_is : (ls : List (List ℕ × ℕ)) (q : List ℕ) (t : Told (ℕ × ℕ)) → next_key ls q t ≡ settle t (odds ls q)
next_is [] q t = refl
next_is (l ∷ ls) q t = refl

module _ (bs : List ℕ) (d : ℕ) (last : Option KeySpan) (at : ℕ) where
  -- by the last key, which is there
  module _ (s : KeySpan) (is : last ≡ Some s) (m : Measurement) (measured : Measured d bs s.start (Some m)) where
    odds_are : (n : ℕ) (ls : List (List ℕ × ℕ)) → LastAt bs d n last ls → odds ls (drop at bs) ≡ odd_at m.reach (drop s.start bs) (drop at bs)
    odds_are n [] l = absurd (subst (λ x. LastAt bs d n x []) is l)
    odds_are n (k ∷ ks) l = odd_is bs d n s m measured k ks (subst (λ x. LastAt bs d n x (k ∷ ks)) is l) (drop at bs)

    told : (r : Option ℕ) → OddOf (slice_range bs s.start (s.start + m.reach)) (slice_range bs at (length bs)) r → OddTold bs s.start m.reach at r
    told r o = odd_placed bs s.start m.reach at (let (h, k) = measured.0 in omega arith) r (subst (λ q. OddOf (slice_range bs s.start (s.start + m.reach)) q r) (rest_is bs at) o)

    pub odd_with_none : OddOf (slice_range bs s.start (s.start + m.reach)) (slice_range bs at (length bs)) None → OddWith bs d last at None
    odd_with_none o n ls l = odds_are n ls l ∙ told None o

    pub odd_with_some : (j : ℕ) → OddOf (slice_range bs s.start (s.start + m.reach)) (slice_range bs at (length bs)) (Some j) → OddWith bs d last at (Some (at + j))
    odd_with_some j o = (omega arith, λ n ls l. odds_are n ls l ∙ (told (Some j) o).0 ∙ ap (λ i. i ∷ []) (let z : j ≡ at + j - at = omega arith in z))

  -- there is such a place where a whole key does not come after the last one
  pub misplaced_by : (r : Option ℕ) (p : ℕ) → p ≡ unwrap_or r at → OddWith bs d last at r → Misplaced bs d last at p
  misplaced_by (Some q) p z (h, o) n end i ls t l w e a = rw (z, next_is ls (drop at bs) t, o (suc n) ls l, e.2) (h, refl)
  misplaced_by None p z o n end i ls t l w e a = absurd (none last ls l a (o (suc n) ls l))
    where
      none : (last : Option KeySpan) (ls : List (List ℕ × ℕ)) → LastAt bs d (suc n) last ls → AfterLast bs last at end false → odds ls (drop at bs) ≡ [] → ⊥
      none None ls l a o = (cc)
      none (Some s) [] l a o = absurd l
      none (Some s) (k ∷ ks) l a o =
          let b : false ≡ before k.0 (slice_range bs at end) = rw l.0 a in
          let (j, f) = odd_there (ItemAt d) (item_free d) k.0 (slice_range bs at end) (drop end bs) k.1 n l.1 w l.2 l.3 b in
          let g : odd_at k.1 k.0 (drop at bs) ≡ j ∷ [] = ap (odd_at k.1 k.0) (part_rest bs at end e.0) ∙ f in
          (cc)

-- ENTRIES ONE AFTER ANOTHER

-- what is known of a whole key
key_known : (bs : List ℕ) (at d r end : ℕ) (i : ℕ × ℕ) → r < 18446744073709551616 → all_bytes bs ≡ true → length bs < 1152921504606846976 → Ended bs at end i (walk d r (drop at bs)) → Keyed (ItemAt d) r (slice_range bs at end) × Reach (ItemAt d) (slice_range bs at end) i.0
key_known bs at d r end i l a b (x, y, e) =
    let k : length (drop at bs) < 1152921504606846976 = rw (length-drop at bs) (omega arith) in
    let h = subst (λ t. Holds (Keyed (ItemAt d) r) (Says (ItemAt d)) (drop at bs) t) e (walk_is_right d r (drop at bs) l (bytes_drop at bs a, k)) in
    (h.0, h.1.0)

-- one that comes after the last stays as it is told
key_on : (bs : List ℕ) (at d r n end : ℕ) (i : ℕ × ℕ) (last : Option KeySpan) (ls : List (List ℕ × ℕ)) → LastAt bs d n last ls → AfterLast bs last at end true → ItemAt d (slice_range bs at end) → Ended bs at end i (walk d r (drop at bs)) → next_key ls (drop at bs) (walk d r (drop at bs)) ≡ done i (slice_range bs at end) (drop end bs)
key_on bs at d r n end i last [] l g w (x, y, e) = e
key_on bs at d r n end i None (k ∷ ks) l g w (x, y, e) = absurd l
key_on bs at d r n end i (Some s) (k ∷ ks) (p, it, reach, room, v) g w (x, y, e) =
    let (j, h, a) = reach.0 (slice_range bs at end) w (rw p (sym g)) in
    let o : odd_at k.1 k.0 (drop at bs) ≡ [] = ap (odd_at k.1 k.0) (part_rest bs at end x) ∙ apart_larger k.1 j k.0 (slice_range bs at end) (drop end bs) h a in
    rw (o, e)

-- some last key is kept
kept_one : (own : List ℕ) → (last : Option KeySpan) × Kept own last
kept_one own = elim (cases_lt 0 (get_or own 1 0)) [
  | inl h ↦ (Some (record { start = get_or own 0 0; end = get_or own 1 0 }), (refl, refl, h))
  | inr h ↦ (None, (let z : get_or own 1 0 ≡ 0 = omega arith in z))
]

item_not_empty : (d : ℕ) (w : List ℕ) → ItemAt d w → 0 < length w
item_not_empty d w h = let (i, (e, v)) = item_from_word d w h in omega (arith, ap length e, encode_not_empty i)

-- by the last key, what is left gives the whole
pub record Going (bs : List ℕ) (d : ℕ) (last : Option KeySpan) (at n start count : ℕ) : Type 0 where
  pub within : KeyWithin bs last
  pub ls : List (List ℕ × ℕ)
  pub at_last : LastAt bs d n last ls
  pub whole : (r : Result ℕ Stop) → Ends bs at r (walk_pairs (walk d) n ls (drop at bs)) → Ends bs start r (walk_pairs (walk d) count [] (drop start bs))

-- whatever last key is kept
abbrev pub GoesOn : List ℕ → ℕ → List ℕ → ℕ → ℕ → ℕ → ℕ → Type 0
GoesOn bs d own at n start count = (last : Option KeySpan) → Kept own last → Going bs d last at n start count

-- no key yet
pub entries_start : (bs : List ℕ) (d at n : ℕ) → GoesOn bs d (0 ∷ 0 ∷ []) at n at n
entries_start bs d at n (Some s) (a, b, c) = absurd (omega arith)
entries_start bs d at n None k = record { within = tt; ls = []; at_last = tt; whole = λ r g. g }

module _ {bs : List ℕ} {d : ℕ} {last : Option KeySpan} {at n start count : ℕ} (on : Going bs d last at n start count) (some : 0 < n) where
  key_stop : (s : Stop) → Stops at s (next_key on.ls (drop at bs) (walk d (n - 1) (drop at bs))) → Stops start s (walk_pairs (walk d) count [] (drop start bs))
  key_stop s g = on.whole (Err s) (rw (pairs_step (walk d) n on.ls (drop at bs) some) (stop_ends at (next_key on.ls (drop at bs) (walk d (n - 1) (drop at bs))) _ s g))

  -- a whole key that comes after the last one
  module _ (end : ℕ) (i : ℕ × ℕ) (key : Ended bs at end i (walk d (n - 1) (drop at bs))) (keyed : Keyed (ItemAt d) (n - 1) (slice_range bs at end)) (reach : Reach (ItemAt d) (slice_range bs at end) i.0) (after : AfterLast bs last at end true) where
    entry_on : (r : Result ℕ Stop) → Ends bs end r (on_told (walk d 0 (drop end bs)) (λ j v rest. carry (λ m. joined j.0 (length v) m) v (walk_pairs (walk d) (n - 1) ((slice_range bs at end, i.0) ∷ []) rest))) → Ends bs start r (walk_pairs (walk d) count [] (drop start bs))
    entry_on r g =
        on.whole r (rw (pairs_step (walk d) n on.ls (drop at bs) some)
        (then_ends bs at end i (next_key on.ls (drop at bs) (walk d (n - 1) (drop at bs)))
        (λ i k rest. on_told (walk d 0 rest) (λ j v rest. carry (λ m. joined j.0 (length v) m) v (walk_pairs (walk d) (n - 1) ((k, i.0) ∷ []) rest)))
        (λ i k m. joined (reach_of_key (n - 1) i) (length k) m) (key.0, key.1, key_on bs at d (n - 1) n end i last on.ls on.at_last after keyed.0 key) r g))

    stop_so : (s : Stop) → Stops end s (walk d 0 (drop end bs)) → Stops start s (walk_pairs (walk d) count [] (drop start bs))
    stop_so s g = entry_on (Err s) (stop_ends end (walk d 0 (drop end bs)) _ s g)

    step_so : (next : ℕ) → Ends bs end (Ok next) (walk d 0 (drop end bs)) → GoesOn bs d (at ∷ end ∷ []) next (n - 1) start count
    step_so next (j, v) (Some s) (p, q, c) =
        let x : slice_range bs at end ≡ slice_range bs s.start s.end = ap (λ y. slice_range bs y end) (sym p) ∙ ap (λ y. slice_range bs s.start y) (sym q) in
        let w = subst (λ y. Ended bs y s.end i (walk d (n - 1) (drop y bs))) (sym p) (subst (λ y. Ended bs at y i (walk d (n - 1) (drop at bs))) (sym q) key) in
        record {
          within = let k = key.0 in let l = key.1 in (omega arith, omega arith);
          ls = (slice_range bs at end, i.0) ∷ [];
          at_last = (x, keyed.0, reach, keyed.1, (n - 1, i.1, w));
          whole = λ r g. entry_on r (then_ends bs end next j (walk d 0 (drop end bs)) (λ j v rest. walk_pairs (walk d) (n - 1) ((slice_range bs at end, i.0) ∷ []) rest) (λ j v m. joined j.0 (length v) m) v r g);
        }
    step_so next v None k = absurd (let l = item_not_empty d (slice_range bs at end) keyed.0 in let m = part_length bs at end key.0 key.1 in omega arith)

  -- what is told of a key
  module _ (few : length bs < 1152921504606846976) (bytes : all_bytes bs ≡ true) (word : n - 1 < 18446744073709551616) where
    known : (end : ℕ) (i : ℕ × ℕ) → Ended bs at end i (walk d (n - 1) (drop at bs)) → Keyed (ItemAt d) (n - 1) (slice_range bs at end) × Reach (ItemAt d) (slice_range bs at end) i.0
    known end i key = key_known bs at d (n - 1) end i word bytes few key

    pub key_refused : (x : Result ℕ Stop) → Ends bs at x (walk d (n - 1) (drop at bs)) → (r : Stop) → KeyTold bs d last at x (Err r) → Stops start r (walk_pairs (walk d) count [] (drop start bs))
    key_refused (Ok end) (i, key) r (after, (p, e, misplaced)) =
        let f : n ≡ suc (n - 1) = omega arith in
        rw e (key_stop (Wrong p) (misplaced (n - 1) end i on.ls (walk d (n - 1) (drop at bs)) (subst (λ m. LastAt bs d m last on.ls) f on.at_last) (known end i key).0.0 key after))
    key_refused (Err stop) g r f = key_stop r (f n on.ls (walk d (n - 1) (drop at bs)) on.at_last g)

    pub value_stop : (x : Result ℕ Stop) → Ends bs at x (walk d (n - 1) (drop at bs)) → (end : ℕ) → KeyTold bs d last at x (Ok end) → (s : Stop) → Stops end s (walk d 0 (drop end bs)) → Stops start s (walk_pairs (walk d) count [] (drop start bs))
    value_stop (Ok e) (i, key) end (same, after) s g =
        let (keyed, reach) = known e i key in
        stop_so e i key keyed reach after s (subst (λ m. Stops m s (walk d 0 (drop m bs))) same g)
    value_stop (Err stop) g end f s h = absurd f

    -- the key is the last one now
    pub entry_step : (x : Result ℕ Stop) → Ends bs at x (walk d (n - 1) (drop at bs)) → (end : ℕ) → KeyTold bs d last at x (Ok end) → (next : ℕ) → Ends bs end (Ok next) (walk d 0 (drop end bs)) → GoesOn bs d (at ∷ end ∷ []) next (n - 1) start count
    entry_step (Ok e) (i, key) end (same, after) next v =
        let (keyed, reach) = known e i key in
        subst (λ m. GoesOn bs d (at ∷ m ∷ []) next (n - 1) start count) (sym same) (step_so e i key keyed reach after next (subst (λ m. Ends bs m (Ok next) (walk d 0 (drop m bs))) same v))
    entry_step (Err stop) g end f next v = absurd f

pub entries_none : (bs : List ℕ) (d at n start count : ℕ) (own : List ℕ) → GoesOn bs d own at n start count → n ≡ 0 → at ≤ length bs → Ends bs start (Ok at) (walk_pairs (walk d) count [] (drop start bs))
unfolding walk_pairs
entries_none bs d at n start count own goes e h =
    let on = kept_one own in
    let z : at - at ≡ 0 = omega arith in
    (goes on.0 on.1).whole (Ok at) (0, (omega arith, h, rw (e, z)))
