-- Elements and entries one after another, at places.
use Rattle.std.proofs.Common.{◌≡◌, ℕ, suc, ◌+◌, ◌-◌, ◌<◌, ◌≤◌, ltb, List, [], ◌∷◌, length, take, drop, subst, arith}
use Rattle.std.proofs.lemmas.Bool.{cond_both}
use Rattle.cbor.proofs.Places.{part_length}
use Rattle.prefixes.specs.Words.{joined}
use Rattle.prefixes.specs.Walks.{Told, on_told, carry, odd_at, next_key, reach_of_key, walk_many, walk_pairs}
use Rattle.prefixes.proofs.Steps.{many_step, pairs_step}
use Rattle.reach.specs.Measured.{DoneSo, NeverDone, Bounds}
use Rattle.reach.proofs.Parts.{then_so, then_never, stop_never, settle_so, settle_never, joined_twice, joined_within, Rest, rest_start, rest_more, rest_end}

-- ELEMENTS

module _ (w : List ℕ → Told (ℕ × ℕ)) (bs : List ℕ) where
  many_so : (at mid end n m a k : ℕ) → 0 < n → at ≤ mid → mid ≤ end → mid ≤ length bs → DoneSo bs at mid (m, a) (w (drop at bs)) → DoneSo bs mid end k (walk_many w (n - 1) (drop mid bs))
      → DoneSo bs at end (joined m (mid - at) k) (walk_many w n (drop at bs))
  many_so at mid end n m a k h x y l s t =
      rw (many_step w n (drop at bs) h)
      (subst (λ z. DoneSo bs at end (joined m z k) (on_told (w (drop at bs)) (λ i u rest. carry (λ m. joined i.0 (length u) m) u (walk_many w (n - 1) rest)))) (part_length bs at mid x l)
      (then_so bs at mid (m, a) (w (drop at bs)) (λ i u rest. walk_many w (n - 1) rest) (λ i u m. joined i.0 (length u) m) end k x y s t))

  many_never : (at mid n m a : ℕ) → 0 < n → DoneSo bs at mid (m, a) (w (drop at bs)) → NeverDone (walk_many w (n - 1) (drop mid bs)) → NeverDone (walk_many w n (drop at bs))
  many_never at mid n m a h s t =
      rw (many_step w n (drop at bs) h) (then_never bs at mid (m, a) (w (drop at bs)) (λ i u rest. walk_many w (n - 1) rest) (λ i u m. joined i.0 (length u) m) s t)

  abbrev pub ManyLeft : ℕ → ℕ → ℕ → ℕ → ℕ → Type 0
  ManyLeft at count mid left reach = Rest bs at (walk_many w count (drop at bs)) mid (Unit {0}) (λ x. walk_many w left (drop mid bs)) reach

  pub many_start : (at count left : ℕ) → at ≤ length bs → left ≡ count → ManyLeft at count at left 0
  many_start at count left l e = rest_start bs at (walk_many w count (drop at bs)) (Unit {0}) (λ x. walk_many w left (drop at bs)) tt l (rw e)

  module _ (at count mid left reach : ℕ) (some : 0 < left) (rest : ManyLeft at count mid left reach) where
    pub many_more : (later next m a n : ℕ) → left ≡ suc later → Bounds bs mid next m → DoneSo bs mid next (m, a) (w (drop mid bs)) → n ≡ joined reach (mid - at) m → ManyLeft at count next later n
    many_more later next m a n f (x, l) s e =
        let g : later ≡ left - 1 = omega arith in
        rw g
        (rest_more bs at (walk_many w count (drop at bs)) mid (Unit {0}) (λ x. walk_many w left (drop mid bs)) reach rest next (Unit {0}) (λ x. walk_many w (left - 1) (drop next bs)) m n (x, l) e
        (λ end k h t _. many_so mid next end left m a k some (omega arith) h l s (t tt)) (λ t _. many_never mid next left m a some s (t tt)))

    pub many_cut : NeverDone (w (drop mid bs)) → NeverDone (walk_many w count (drop at bs))
    many_cut s = rest.never (λ _. rw (many_step w left (drop mid bs) some) (stop_never (w (drop mid bs)) _ s))

  pub many_end : (at count mid left reach : ℕ) → left ≡ 0 → ManyLeft at count mid left reach → Bounds bs at mid reach × DoneSo bs at mid reach (walk_many w count (drop at bs))
  unfolding walk_many
  many_end at count mid left reach e rest = rest_end bs at (walk_many w count (drop at bs)) mid (Unit {0}) (λ x. walk_many w left (drop mid bs)) reach rest (λ _. rw e)

-- ENTRIES

key_so : (bs : List ℕ) (at end : ℕ) (i : ℕ × ℕ) (last : List (List ℕ × ℕ)) (q : List ℕ) (t : Told (ℕ × ℕ)) → DoneSo bs at end i t → DoneSo bs at end i (next_key last q t)
key_so bs at end i [] q t s = s
key_so bs at end i (l ∷ ls) q t s = settle_so bs at end i t (odd_at l.1 l.0 q) s

key_never : (last : List (List ℕ × ℕ)) (q : List ℕ) (t : Told (ℕ × ℕ)) → NeverDone t → NeverDone (next_key last q t)
key_never [] q t s = s
key_never (l ∷ ls) q t s = settle_never t (odd_at l.1 l.0 q) s

key_within : (at end n m a : ℕ) → at + m ≤ end → at + reach_of_key n (m, a) ≤ end
key_within at end n m a h = cond_both (ltb n a) m 0 (λ k. at + k ≤ end) (λ _. h) (λ _. omega arith)

module _ (w : ℕ → List ℕ → Told (ℕ × ℕ)) (bs : List ℕ) where
  -- a value and the entries after it, by what the key said
  abbrev after_key : ℕ → (ℕ × ℕ) → List ℕ → List ℕ → Told ℕ
  after_key n i k rest = on_told (w 0 rest) (λ j v rest. carry (λ m. joined j.0 (length v) m) v (walk_pairs w n ((k, i.0) ∷ []) rest))

  abbrev pub PairsLeft : ℕ → ℕ → ℕ → ℕ → ℕ → Type 0
  PairsLeft at count mid left reach = Rest bs at (walk_pairs w count [] (drop at bs)) mid (List (List ℕ × ℕ)) (λ last. walk_pairs w left last (drop mid bs)) reach

  module _ (at count mid left reach : ℕ) (some : 0 < left) (rest : PairsLeft at count mid left reach) where
    pub key_cut : NeverDone (w (left - 1) (drop mid bs)) → NeverDone (walk_pairs w count [] (drop at bs))
    key_cut s =
        rest.never (λ last. rw (pairs_step w left last (drop mid bs) some) (stop_never (next_key last (drop mid bs) (w (left - 1) (drop mid bs))) _ (key_never last (drop mid bs) (w (left - 1) (drop mid bs)) s)))

    module _ (here m a : ℕ) (bounds : Bounds bs mid here m) (key : DoneSo bs mid here (m, a) (w (left - 1) (drop mid bs))) where
      key_on : (last : List (List ℕ × ℕ)) (end k : ℕ) → here ≤ end → DoneSo bs here end k (after_key (left - 1) (m, a) (take (here - mid) (drop mid bs)) (drop here bs))
          → DoneSo bs mid end (joined (reach_of_key (left - 1) (m, a)) (here - mid) k) (walk_pairs w left last (drop mid bs))
      key_on last end k g s =
          rw (pairs_step w left last (drop mid bs) some)
          (subst (λ z. DoneSo bs mid end (joined (reach_of_key (left - 1) (m, a)) z k) (on_told (next_key last (drop mid bs) (w (left - 1) (drop mid bs))) (λ i k rest. carry (λ m. joined (reach_of_key (left - 1) i) (length k) m) k (after_key (left - 1) i k rest))))
          (part_length bs mid here (omega arith) bounds.1)
          (then_so bs mid here (m, a) (next_key last (drop mid bs) (w (left - 1) (drop mid bs))) (λ i u rest. after_key (left - 1) i u rest) (λ i u m. joined (reach_of_key (left - 1) i) (length u) m) end k (omega arith) g
          (key_so bs mid here (m, a) last (drop mid bs) (w (left - 1) (drop mid bs)) key) s))

      key_off : (last : List (List ℕ × ℕ)) → NeverDone (after_key (left - 1) (m, a) (take (here - mid) (drop mid bs)) (drop here bs)) → NeverDone (walk_pairs w left last (drop mid bs))
      key_off last s =
          rw (pairs_step w left last (drop mid bs) some)
          (then_never bs mid here (m, a) (next_key last (drop mid bs) (w (left - 1) (drop mid bs))) (λ i u rest. after_key (left - 1) i u rest) (λ i u m. joined (reach_of_key (left - 1) i) (length u) m)
          (key_so bs mid here (m, a) last (drop mid bs) (w (left - 1) (drop mid bs)) key) s)

      pub value_cut : NeverDone (w 0 (drop here bs)) → NeverDone (walk_pairs w count [] (drop at bs))
      value_cut s = rest.never (λ last. key_off last (stop_never (w 0 (drop here bs)) _ s))

      -- the entries after the value, with this key for their last
      abbrev later : List ℕ → Told ℕ
      later q = walk_pairs w (left - 1) ((take (here - mid) (drop mid bs), m) ∷ []) q

      pub pairs_more : (next o b c j n : ℕ) → Bounds bs here next o → DoneSo bs here next (o, b) (w 0 (drop here bs)) → c ≡ reach_of_key (left - 1) (m, a) → j ≡ joined c (here - mid) o → n ≡ joined reach (mid - at) j
          → PairsLeft at count next (left - 1) n
      pairs_more next o b c j n (y, l) value d e f =
          rest_more bs at (walk_pairs w count [] (drop at bs)) mid (List (List ℕ × ℕ)) (λ last. walk_pairs w left last (drop mid bs)) reach rest next (List (List ℕ × ℕ)) (λ last. walk_pairs w (left - 1) last (drop next bs))
          j n (rw (e, d) (joined_within mid here next (reach_of_key (left - 1) (m, a)) o (key_within mid here (left - 1) m a bounds.0) y), l) f
          (λ end k g t before.
          let i : next - mid ≡ (here - mid) + (next - here) = omega arith in
          rw (e, d, i, joined_twice (reach_of_key (left - 1) (m, a)) (here - mid) o (next - here) k)
          (key_on before end (joined o (next - here) k) (omega arith)
          (subst (λ z. DoneSo bs here end (joined o z k) (after_key (left - 1) (m, a) (take (here - mid) (drop mid bs)) (drop here bs))) (part_length bs here next (omega arith) l)
          (then_so bs here next (o, b) (w 0 (drop here bs)) (λ j v rest. later rest) (λ j v m. joined j.0 (length v) m) end k (omega arith) g value (t ((take (here - mid) (drop mid bs), m) ∷ []))))))
          (λ t before. key_off before (then_never bs here next (o, b) (w 0 (drop here bs)) (λ j v rest. later rest) (λ j v m. joined j.0 (length v) m) value (t ((take (here - mid) (drop mid bs), m) ∷ []))))

  pub pairs_end : (at count mid left reach : ℕ) → left ≡ 0 → PairsLeft at count mid left reach → Bounds bs at mid reach × DoneSo bs at mid reach (walk_pairs w count [] (drop at bs))
  unfolding walk_pairs
  pairs_end at count mid left reach e rest =
      rest_end bs at (walk_pairs w count [] (drop at bs)) mid (List (List ℕ × ℕ)) (λ last. walk_pairs w left last (drop mid bs)) reach rest (λ last. rw e)
