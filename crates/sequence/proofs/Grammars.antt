-- Tokens one after the other, by a grammar.
use Rattle.std.proofs.Common.{◌≡◌, ℕ, ◌+◌, ◌-◌, ◌≤◌, true, ◌⊎◌, List, [], ◌∷◌, ◌++◌, length, drop, sym, refl, ap, ◌∙◌, subst, inl, inr, append_assoc, arith}
use Rattle.std.proofs.lemmas.List.{append-nil}
use Rattle.cbor.specs.Encoding.{all_bytes}
use Rattle.cbor.specs.declared.reading.Stop.{Stop}
use Rattle.cbor.specs.Prefix.{Any, PrefixFree, Then, StopsAt, StandsAt}
use Rattle.cbor.specs.Reading.{Stopped}
use Rattle.cbor.proofs.Numbers.{bytes_append}
use Rattle.cbor.proofs.Words.{free_two, stops_same}
use Rattle.cbor.proofs.Places.{part_rest, part_join, part_split, part_length, stops_at_first, stops_at_later}
use Rattle.sequence.specs.Token.{Token, token_bytes, spell, Shape, Suits, TokenOf}
use Rattle.sequence.specs.Grammar.{Grammar, next, Takes, Completes, Completable}
use Rattle.sequence.specs.Reading.{TokenAt, SpelledAt, PendingStops}
use Rattle.sequence.proofs.Tokens.{token_free, token_bytes_bytes}

pub spell_append : (ts us : List Token) → spell (ts ++ us) ≡ spell ts ++ spell us
unfolding spell
spell_append [] us = refl
spell_append (t ∷ ts) us = ap (λ x. token_bytes t ++ x) (spell_append ts us) ∙ sym (append_assoc (token_bytes t) (spell ts) (spell us))

module _ {S : Type 0} (G : Grammar S) where
  pub takes_append : (ss mid rest : List S) (ts us : List Token) → Takes G ss ts mid → Takes G mid us rest → Takes G ss (ts ++ us) rest
  unfolding Takes
  takes_append ss mid rest [] us f g = subst (λ x. Takes G x us rest) (sym f) g
  takes_append [] mid rest (t ∷ ts) us f g = absurd f
  takes_append (s ∷ ss) mid rest (t ∷ ts) us (a, f) g = (a, takes_append (next G s t ++ ss) mid rest ts us f g)

  -- in one way
  spell_free : (ss : List S) (ts us : List Token) (r : List ℕ) → Takes G ss ts [] → Takes G ss us [] → spell ts ++ r ≡ spell us → (ts ≡ us) × (r ≡ [])
  unfolding Takes spell
  spell_free [] [] [] r f g e = (refl, e)
  spell_free [] [] (u ∷ us) r f g e = absurd g
  spell_free [] (t ∷ ts) us r f g e = absurd f
  spell_free (s ∷ ss) [] us r f g e = absurd (let z : ◌≡◌ {A = ℕ} 0 1 = cc in omega arith)
  spell_free (s ∷ ss) (t ∷ ts) [] r f g e = absurd (let z : ◌≡◌ {A = ℕ} 0 1 = cc in omega arith)
  spell_free (s ∷ ss) (t ∷ ts) (u ∷ us) r (a, f) (b, g) e =
      let z = free_two (TokenOf (G.shape s)) (token_free (G.shape s)) t u (token_bytes t) (token_bytes u) (spell ts ++ r) (spell us) (refl, a) (refl, b) (sym (append_assoc (token_bytes t) (spell ts) r) ∙ e) in
      let g' = subst (λ x. Takes G (next G s x ++ ss) us []) (sym z.0) g in
      let y = spell_free (next G s t ++ ss) ts us r f g' z.2 in
      let p = z.0 in
      let q = y.0 in
      ((let c : t ∷ ts ≡ u ∷ us = cc in c), y.1)

  pub completes_free : (ss : List S) → PrefixFree (Completes G ss)
  completes_free ss ts us u r (a, f) (b, g) = spell_free ss ts us r f g (ap (λ x. x ++ r) (sym a) ∙ b)

  pub spell_bytes : (ss rest : List S) (ts : List Token) → Takes G ss ts rest → all_bytes (spell ts) ≡ true
  unfolding Takes spell all_bytes
  spell_bytes ss rest [] f = refl
  spell_bytes [] rest (t ∷ ts) f = absurd f
  spell_bytes (s ∷ ss) rest (t ∷ ts) (a, f) = bytes_append (token_bytes t) (spell ts) (token_bytes_bytes (G.shape s) t a) (spell_bytes (next G s t ++ ss) rest ts f)

  -- a token, and then what is pending after it
  abbrev Rest : S → List S → Token → List ℕ → Type 0
  Rest s ss t = Any (Completes G (next G s t ++ ss))

  open_one : (s : S) (ss : List S) (w : List ℕ) → Any (Completes G (s ∷ ss)) w → Then (TokenOf (G.shape s)) (Rest s ss) w
  unfolding Takes spell
  open_one s ss w ([], (e, f)) = absurd (let z : ◌≡◌ {A = ℕ} 0 1 = cc in omega arith)
  open_one s ss w (t ∷ ts, (e, (a, f))) = (t, token_bytes t, spell ts, (refl, a), (ts, (refl, f)), e)

  shut_one : (s : S) (ss : List S) (w : List ℕ) → Then (TokenOf (G.shape s)) (Rest s ss) w → Any (Completes G (s ∷ ss)) w
  unfolding Takes spell
  shut_one s ss w (t, u, v, (a, b), (ts, (c, f)), e) = (t ∷ ts, (e ∙ (let z : u ++ v ≡ token_bytes t ++ spell ts = cc in z), (b, f)))

  stops_shut : (s : S) (ss : List S) (bs : List ℕ) (at p n : ℕ) → StopsAt (Then (TokenOf (G.shape s)) (Rest s ss)) bs at p n → StopsAt (Any (Completes G (s ∷ ss))) bs at p n
  stops_shut s ss bs at p n (l, h) = (l, stops_same (Then (TokenOf (G.shape s)) (Rest s ss)) (Any (Completes G (s ∷ ss))) (shut_one s ss) (open_one s ss) (drop at bs) (p - at) (n - at) h)

  module _ (can : Completable G) where
    completed : (ss : List S) → (ts : List Token) × Takes G ss ts []
    unfolding Takes
    completed [] = ([], refl)
    completed (s ∷ ss) = let (ts, f) = can s in let (us, g) = completed ss in (ts ++ us, takes_append (s ∷ ss) ss [] ts us (f ss) g)

    -- bytes cease to begin what is pending in its first token
    pub stop_first : (s : S) (ss : List S) (bs : List ℕ) (at : ℕ) (stop : Stop) → Stopped (Any (TokenOf (G.shape s))) bs at stop → PendingStops G (s ∷ ss) bs at stop
    stop_first s ss bs at stop h = stops_shut s ss bs at stop.place stop.least (stops_at_first (TokenOf (G.shape s)) (Rest s ss) (token_free (G.shape s)) (λ t u a. let (ts, f) = completed (next G s t ++ ss) in (spell ts, (ts, (refl, f)))) bs at stop.place stop.least h)

  -- or after it
  pub stop_later : (s : S) (ss : List S) (t : Token) (bs : List ℕ) (at mid : ℕ) (stop : Stop) → StandsAt (TokenOf (G.shape s) t) bs at mid → PendingStops G (next G s t ++ ss) bs mid stop → PendingStops G (s ∷ ss) bs at stop
  stop_later s ss t bs at mid stop a h = stops_shut s ss bs at stop.place stop.least (stops_at_later (TokenOf (G.shape s)) (Rest s ss) (token_free (G.shape s)) t bs at mid stop.place stop.least a h)

  -- or after several
  pub stop_after : (ss rest : List S) (ts : List Token) (bs : List ℕ) (at end : ℕ) (stop : Stop) → Takes G ss ts rest → SpelledAt ts bs at end → PendingStops G rest bs end stop → PendingStops G ss bs at stop
  unfolding Takes spell
  stop_after ss rest [] bs at end stop f (h, k, e) s =
      let z : at ≡ end = (let y : end - at ≡ 0 = sym (part_length bs at end h k) ∙ ap length e in omega arith) in
      subst (λ x. PendingStops G ss bs x stop) (sym z) (subst (λ x. PendingStops G x bs end stop) (sym f) s)
  stop_after [] rest (t ∷ ts) bs at end stop f h s = absurd f
  stop_after (x ∷ ss) rest (t ∷ ts) bs at end stop (a, f) (h, k, e) s =
      let mid = at + length (token_bytes t) in
      let (m, u, v) = part_split bs (token_bytes t) (spell ts) at end h k e in
      stop_later x ss t bs at mid stop (omega arith, omega arith, (u, a)) (stop_after (next G x t ++ ss) rest ts bs mid end stop f (m, k, v) s)

-- TOKENS AT PLACES

pub spelled_one : (s : Shape) (t : Token) (bs : List ℕ) (at end : ℕ) → TokenAt s t bs at end → SpelledAt (t ∷ []) bs at end
unfolding spell
spelled_one s t bs at end ((h, k, (e, w)), l) = (h, k, e ∙ sym (append-nil (token_bytes t)))

pub spelled_append : (ts us : List Token) (bs : List ℕ) (at mid end : ℕ) → SpelledAt ts bs at mid → SpelledAt us bs mid end → SpelledAt (ts ++ us) bs at end
spelled_append ts us bs at mid end (h, k, e) (i, j, f) = (omega arith, j, part_join bs (spell ts) (spell us) at mid end h i e f ∙ sym (spell_append ts us))

pub spelled_two : (s r : Shape) (t u : Token) (bs : List ℕ) (at mid end : ℕ) → TokenAt s t bs at mid → TokenAt r u bs mid end → SpelledAt (t ∷ u ∷ []) bs at end
spelled_two s r t u bs at mid end a b = spelled_append (t ∷ []) (u ∷ []) bs at mid end (spelled_one s t bs at mid a) (spelled_one r u bs mid end b)

-- a token at the front of what stands at a place
front_token : (t : Token) (ts : List Token) (bs : List ℕ) (at end : ℕ) → SpelledAt (t ∷ ts) bs at end → (at + length (token_bytes t) ≤ end) × (drop at bs ≡ token_bytes t ++ drop (at + length (token_bytes t)) bs) × SpelledAt ts bs (at + length (token_bytes t)) end
unfolding spell
front_token t ts bs at end (h, k, e) =
    let (m, u, v) = part_split bs (token_bytes t) (spell ts) at end h k e in
    (m, part_rest bs at (at + length (token_bytes t)) (omega arith) ∙ ap (λ x. x ++ drop (at + length (token_bytes t)) bs) u, (m, k, v))

-- no token stands where bytes cease to begin one
pub none_stands : (s : Shape) (t : Token) (ts : List Token) (bs : List ℕ) (at end : ℕ) (stop : Stop) → Suits s t → SpelledAt (t ∷ ts) bs at end → Stopped (Any (TokenOf s)) bs at stop → ⊥
none_stands s t ts bs at end stop a p (l, h) = let (m, e, q) = front_token t ts bs at end p in h.unread (token_bytes t) (drop (at + length (token_bytes t)) bs) (t, (refl, a)) e

-- the same token stands there
pub same_token : (s : Shape) (t u : Token) (us : List Token) (bs : List ℕ) (at mid end : ℕ) → StandsAt (TokenOf s t) bs at mid → Suits s u → SpelledAt (u ∷ us) bs at end → (t ≡ u) × SpelledAt us bs mid end
same_token s t u us bs at mid end (h, k, (x, a)) b p =
    let (m, e, q) = front_token u us bs at end p in
    let f = free_two (TokenOf s) (token_free s) t u (token_bytes t) (token_bytes u) (drop mid bs) (drop (at + length (token_bytes u)) bs) (refl, a) (refl, b) (ap (λ w. w ++ drop mid bs) (sym x) ∙ sym (part_rest bs at mid h) ∙ e) in
    let z : at + length (token_bytes u) ≡ mid = (let y = part_length bs at mid h k in let n = ap length x in let j = ap length f.1 in omega arith) in
    (f.0, subst (λ n. SpelledAt us bs n end) z q)

module _ {S : Type 0} (G : Grammar S) where
  -- tokens that stand at one place begin with one another
  pub one_begins : (ss ra rb : List S) (ts us : List Token) (bs : List ℕ) (at ea eb : ℕ) → Takes G ss ts ra → Takes G ss us rb → SpelledAt ts bs at ea → SpelledAt us bs at eb → ((vs : List Token) × (us ≡ ts ++ vs) × Takes G ra vs rb × SpelledAt vs bs ea eb) ⊎ ((vs : List Token) × (ts ≡ us ++ vs) × Takes G rb vs ra)
  unfolding Takes spell
  one_begins ss ra rb [] us bs at ea eb f g (h, k, e) q =
      let z : at ≡ ea = (let y : ea - at ≡ 0 = sym (part_length bs at ea h k) ∙ ap length e in omega arith) in
      inl (us, refl, subst (λ x. Takes G x us rb) f g, subst (λ x. SpelledAt us bs x eb) z q)
  one_begins ss ra rb (t ∷ ts) [] bs at ea eb f g p q = inr (t ∷ ts, refl, subst (λ x. Takes G x (t ∷ ts) ra) g f)
  one_begins [] ra rb (t ∷ ts) (u ∷ us) bs at ea eb f g p q = absurd f
  one_begins (s ∷ ss) ra rb (t ∷ ts) (u ∷ us) bs at ea eb (a, f) (b, g) p q =
      let mid = at + length (token_bytes t) in
      let (m, e, r) = front_token t ts bs at ea p in
      let (h, k, x) = p in
      let (n, y, w) = part_split bs (token_bytes t) (spell ts) at ea h k x in
      let (i, v) = same_token (G.shape s) t u us bs at mid eb (omega arith, omega arith, (y, a)) b q in
      let g' = subst (λ x. Takes G (next G s x ++ ss) us rb) (sym i) g in
      elim (one_begins (next G s t ++ ss) ra rb ts us bs mid ea eb f g' r v) [
        | inl (vs, c, d, o) ↦ inl (vs, (let z : u ∷ us ≡ t ∷ (ts ++ vs) = cc in z), d, o)
        | inr (vs, c, d) ↦ inr (vs, (let z : t ∷ ts ≡ u ∷ (us ++ vs) = cc in z), d)
      ]
