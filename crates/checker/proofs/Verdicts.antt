-- The verdict on all of the bytes, by what the walk over them tells; what readers tell is what the walk tells.
use Rattle.std.proofs.Common.{◌≡◌, ℕ, slice_range, suc, ◌+◌, ◌-◌, ◌<◌, ◌≤◌, true, List, [], ◌∷◌, ◌++◌, length, take, drop, Some, None, Ok, Option, sym, refl, ap, ◌∙◌, subst, inl, inr, append_assoc, arith, length-append, take-append-drop}
use Rattle.std.specs.Option.{ok_or}
use Rattle.std.proofs.lemmas.List.{drop_more, drop_all, length-take-le, take_all, take-take, take_at, take-append-le, append-nil, append_cancel_left, nil_from_length, length-drop, drop-drop}
use Rattle.std.proofs.lemmas.Bool.{cases_order}
use Rattle.cbor.specs.Encoding.{all_bytes}
use Rattle.cbor.specs.Reading.{BytesEnd}
use Rattle.cbor.specs.Prefix.{Begins}
use Rattle.cbor.proofs.Places.{part_length}
use Rattle.cbor.specs.Utf8.{TextOf}
use Rattle.items.specs.Text.{FirstWrong}
use Rattle.prefixes.specs.Words.{Unread, Reach}
use Rattle.prefixes.specs.Walks.{Told, done, cut, wrong, Holds, walk_text, walk}
use Rattle.prefixes.specs.Verdict.{Verdict, whole, short, wrong_at, RightVerdict, check}
use Rattle.prefixes.proofs.Told.{ReachTold}
use Rattle.prefixes.proofs.Strings.{text_holds}
use Rattle.prefixes.proofs.Verdict.{check_is_right}
use Rattle.checker.specs.declared.Stop.{Stop}
use Rattle.checker.specs.declared.Stop.TheVariants.{Cut, Wrong}
use Rattle.checker.specs.Checked.{Right}
use Rattle.checker.proofs.Steps.{rest_is}
use Rattle.checker.specs.Ends.{verdict_of, Stops, Ends}

-- THE WHOLE

module _ (bs : List ℕ) (bytes : all_bytes bs ≡ true) (few : length bs < 1152921504606846976) where
  verdict_is : (v : Verdict) → check bs ≡ v → RightVerdict bs v
  verdict_is v e = subst (λ x. RightVerdict bs x) e (check_is_right bs bytes few)

  pub is_item : (end : ℕ) → Ends bs 0 (Ok end) (walk 32 0 bs) → length bs ≤ end → RightVerdict bs whole
  is_item end (i, (a, b, e)) h = verdict_is whole (rw (e, drop_all end bs h))

  pub is_past : (end : ℕ) → Ends bs 0 (Ok end) (walk 32 0 bs) → end < length bs → RightVerdict bs (wrong_at end)
  is_past end (i, (a, b, e)) h = verdict_is (wrong_at end) (rw (e, drop_more bs end 0 h) (ap (λ p. wrong_at p) (part_length bs 0 end a b ∙ (let z : end - 0 ≡ end = omega arith in z))))

  pub is_stop : (s : Stop) → Stops 0 s (walk 32 0 bs) → Right bs (verdict_of s)
  is_stop Cut e = verdict_is short (rw e)
  is_stop (Wrong p) (h, e) = verdict_is (wrong_at p) (rw e (ap (λ p. wrong_at p) (let z : p - 0 ≡ p = omega arith in z)))

-- BY WHAT BEGINS A WORD

-- what begins with more begins with less
begins_front : (W : List ℕ → Type 0) (q : List ℕ) (m n : ℕ) → m ≤ n → Begins W (take n q) → Begins W (take m q)
begins_front W q m n h (r, w) =
    let e : take n q ≡ take m q ++ drop m (take n q) = sym (take-append-drop m (take n q)) ∙ ap (λ x. x ++ drop m (take n q)) (take-take m n q h) in
    (drop m (take n q) ++ r, subst W (ap (λ x. x ++ r) e ∙ append_assoc (take m q) (drop m (take n q)) r) w)

module _ {I : Type 0} (W : List ℕ → Type 0) (S : I → List ℕ → Type 0) (q : List ℕ) where
  wrong_front : (u v : List ℕ) (b : ℕ) → q ≡ u ++ b ∷ v → take (suc (length u)) q ≡ u ++ b ∷ []
  wrong_front u v b e =
      let f : q ≡ (u ++ b ∷ []) ++ v = e ∙ sym (append_assoc u (b ∷ []) v) in
      ap (take (suc (length u))) f ∙ take_at (u ++ b ∷ []) v (suc (length u)) (length-append u (b ∷ []) ∙ (let z : length u + 1 ≡ suc (length u) = omega arith in z))

  -- no word stands there, and the bytes cease to begin one at a place
  pub told_wrong : (t : Told I) (p : ℕ) → Holds W S q t → Unread W q → Begins W (take p q) → (Begins W (take (suc p) q) → ⊥) → p < length q → t ≡ wrong p
  told_wrong (done i u rest) p (w, s, e) none b n l = absurd (none u rest w e)
  told_wrong cut p (b0, u) none b n l = absurd (n (begins_front W q (suc p) (length q) l (subst (Begins W) (sym (take_all (length q) q (omega arith))) b0)))
  told_wrong (wrong k) p ((u, x, v, len, e, c, d), _) none b n l =
      elim (cases_order k p) [
        | inl z ↦ ap (λ m. wrong m) z
        | inr (inl z) ↦ absurd (d (subst (Begins W) (ap (λ m. take (suc m) q) (sym len) ∙ wrong_front u v x e) (begins_front W q (suc k) p z b)))
        | inr (inr z) ↦ absurd (n (begins_front W q (suc p) k z (subst (Begins W) (sym (ap (take k) e ∙ take_at u (x ∷ v) k len)) c)))
      ]

  -- all of them begin one
  pub told_cut : (t : Told I) → Holds W S q t → Unread W q → Begins W q → t ≡ cut
  told_cut (done i u rest) (w, s, e) none b = absurd (none u rest w e)
  told_cut cut h none b = refl
  told_cut (wrong k) ((u, x, v, len, e, c, d), _) none b =
      absurd (d (subst (Begins W) (wrong_front u v x e) (begins_front W q (suc (length u)) (length q) (omega (arith, ap length e, length-append u (x ∷ v))) (subst (Begins W) (sym (take_all (length q) q (omega arith))) b))))

  -- a word stands there, the only one
  pub told_done : (t : Told I) (u rest : List ℕ) → Holds W S q t → ((v r : List ℕ) → W v → q ≡ v ++ r → v ≡ u) → W u → q ≡ u ++ rest → (i : I) × (t ≡ done i u rest)
  told_done (done i v r) u rest (w, s, e) only a f =
      let z = only v r w e in
      (i, ap (λ x. done i x r) z ∙ ap (λ x. done i u x) (append_cancel_left u r rest (ap (λ x. x ++ r) (sym z) ∙ sym e ∙ f)))
  told_done cut u rest (b, none) only a f = absurd (none u rest a f)
  told_done (wrong k) u rest (b, none) only a f = absurd (none u rest a f)

-- TEXTS

module _ (bs : List ℕ) (at n : ℕ) where
  text_told : ReachTold (TextOf n) (drop at bs) (walk_text n n (drop at bs))
  text_told = text_holds n n (drop at bs) (omega arith)

  none_shorter : (q : List ℕ) → length q < n → Unread (TextOf n) q
  none_shorter q l u rest (e, t) f = omega (arith, ap length f, length-append u rest)

  wrong_so : (p : ℕ) → FirstWrong n (drop at bs) (Some p) → Stops at (Wrong (at + p)) (walk_text n n (drop at bs))
  wrong_so p (h, l, b, ends) =
      (omega arith, told_wrong (TextOf n) (λ m u. Reach (TextOf n) u m) (drop at bs) (walk_text n n (drop at bs)) p text_told unread b ends l ∙ ap (λ m. wrong m) (let z : p ≡ at + p - at = omega arith in z))
    where
      unread : Unread (TextOf n) (drop at bs)
      unread u rest (e, t) f =
          let g : take (suc p) (drop at bs) ≡ take (suc p) u = ap (take (suc p)) f ∙ take-append-le (suc p) u rest (omega arith) in
          ends (drop (suc p) u, subst (TextOf n) (sym (ap (λ x. x ++ drop (suc p) u) g ∙ take-append-drop (suc p) u)) (e, t))

  goes_so : (r : Option ℕ) → at ≤ length bs → FirstWrong n (drop at bs) None → BytesEnd n bs at r → Ends bs at (ok_or r Cut) (walk_text n n (drop at bs))
  goes_so (Some end) k (rest, (len, t)) (e, h) =
      let q = drop at bs in
      let l : length (take n q) ≡ n = length-take-le n q (rw (length-drop at bs) (omega arith)) in
      let z : rest ≡ [] = nil_from_length rest (omega (arith, length-append (take n q) rest)) in
      let a : TextOf n (take n q) = subst (TextOf n) (ap (λ x. take n q ++ x) z ∙ append-nil (take n q)) (len, t) in
      let (i, f) = told_done (TextOf n) (λ m u. Reach (TextOf n) u m) q (walk_text n n q) (take n q) (drop n q) text_told
      (λ v r (lv, _) g. sym (ap (take n) g ∙ take_at v r n lv)) a (sym (take-append-drop n q)) in
      let x : end - at ≡ n = omega arith in
      (i, (omega arith, h, f ∙ (λ j. done i (take (sym x j) q) (moved j))))
    where
      moved : drop n (drop at bs) ≡ drop end bs
      moved = drop-drop n at bs ∙ ap (λ m. drop m bs) (sym e)
  goes_so None k b h =
      let l : length (drop at bs) < n = rw (length-drop at bs) (omega arith) in
      told_cut (TextOf n) (λ m u. Reach (TextOf n) u m) (drop at bs) (walk_text n n (drop at bs)) text_told (none_shorter (drop at bs) l) (subst (Begins (TextOf n)) (take_all n (drop at bs) (omega arith)) b)

  pub text_wrong : (p : ℕ) → FirstWrong n (slice_range bs at (length bs)) (Some p) → Stops at (Wrong (at + p)) (walk_text n n (drop at bs))
  text_wrong p first = wrong_so p (subst (λ q. FirstWrong n q (Some p)) (rest_is bs at) first)

  pub text_goes_on : (r : Option ℕ) → at ≤ length bs → FirstWrong n (slice_range bs at (length bs)) None → BytesEnd n bs at r → Ends bs at (ok_or r Cut) (walk_text n n (drop at bs))
  text_goes_on r k first = goes_so r k (subst (λ q. FirstWrong n q None) (rest_is bs at) first)
