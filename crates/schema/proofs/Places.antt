-- Nodes at places of lent bytes.
use Rattle.std.proofs.Common.{◌≡◌, ℕ, ◌-◌, ◌<◌, ◌≤◌, List, [], ◌∷◌, ◌++◌, length, take, drop, Ok, Err, Result, sym, refl, ap, ◌∙◌, subst, inr, arith}
use Rattle.std.specs.Result.{IsErrAnd}
use Rattle.cbor.specs.declared.reading.Stop.{Stop}
use Rattle.cbor.specs.Prefix.{Any}
use Rattle.cbor.specs.Reading.{Stopped}
use Rattle.cbor.proofs.Words.{stops_same}
use Rattle.cbor.proofs.Places.{part_length}
use Rattle.sequence.specs.Token.{Token, num, spell, number, TokenOf}
use Rattle.sequence.specs.Grammar.{next, Takes, Completes}
use Rattle.sequence.specs.declared.reading.Parsed.{Parsed}
use Rattle.sequence.specs.declared.reading.Reader.{Reader}
use Rattle.sequence.specs.Reading.{TokenAt, TokenRead, SpelledAt, Reads}
use Rattle.sequence.proofs.Grammars.{spelled_one, spelled_append, stop_first, stop_later, none_stands, same_token}
use Rattle.sequence.proofs.Readers.{stopped}
use Rattle.schema.specs.declared.nodes.Node.{Node}
use Rattle.schema.specs.declared.nodes.Node.TheVariants.{OfSchema, OfGroup, OfField}
use Rattle.schema.specs.Grammar.{Sort, a_rule, a_schema, a_bound, a_last, shape, after, grammar}
use Rattle.schema.specs.Nodes.{own_tokens, inside}
use Rattle.schema.specs.Reading.{MadeAt, RangedAt, OfSort, Opens, Whole, Stuck, Ceases, RestAt, NodeAt}
use Rattle.schema.proofs.Trees.{completable, as_rule, as_schema}

-- in the first token, or after it
stuck_first : (s : Sort) (ss : List Sort) (bs : List ℕ) (at : ℕ) (stop : Stop) → Stopped (Any (TokenOf (shape s))) bs at stop → Stuck (s ∷ ss) bs at
unfolding Takes
stuck_first s ss bs at stop h [] rest end f p w = refl
stuck_first s ss bs at stop h (t ∷ vs) rest end (a, f) p w = absurd (none_stands (shape s) t vs bs at end stop a p h)

stuck_later : (s : Sort) (ss : List Sort) (t : Token) (bs : List ℕ) (at mid : ℕ) → TokenAt (shape s) t bs at mid → Stuck (next grammar s t ++ ss) bs mid → (Whole (next grammar s t ++ ss) → ⊥) → Stuck (s ∷ ss) bs at
unfolding Takes
stuck_later s ss t bs at mid x h o [] rest end f p w = refl
stuck_later s ss t bs at mid x h o (u ∷ vs) rest end (a, f) p w =
    let (e, q) = same_token (shape s) t u vs bs at mid end x.0 a p in
    let g = subst (λ y. Takes grammar (next grammar s y ++ ss) vs rest) (sym e) f in
    let z = h vs rest end g q w in
    let k : next grammar s t ++ ss ≡ rest = subst (λ y. Takes grammar (next grammar s t ++ ss) y rest) z g in
    absurd (o (subst Whole (sym k) w))

pub ceases_first : (s : Sort) (ss : List Sort) (bs : List ℕ) (at : ℕ) (stop : Stop) → Stopped (Any (TokenOf (shape s))) bs at stop → Ceases (s ∷ ss) bs at stop
ceases_first s ss bs at stop h = (stop_first grammar completable s ss bs at stop h, stuck_first s ss bs at stop h)

ceases_later : (s : Sort) (ss : List Sort) (t : Token) (bs : List ℕ) (at mid : ℕ) (stop : Stop) → TokenAt (shape s) t bs at mid → Ceases (next grammar s t ++ ss) bs mid stop → (Whole (next grammar s t ++ ss) → ⊥) → Ceases (s ∷ ss) bs at stop
ceases_later s ss t bs at mid stop x (h, k) o = (stop_later grammar s ss t bs at mid stop x.0 h, stuck_later s ss t bs at mid x k o)

-- an opcode, and then the rest of the node
node_whole : (s : Sort) (n : ℕ) (bs : List ℕ) (at mid : ℕ) (r : Result (Parsed Node) Stop) → TokenAt (shape s) (num n) bs at mid → RestAt s n bs mid r → NodeAt s bs at r
unfolding Takes
node_whole s n bs at mid (Ok x) t (o, ts, e, p, f) =
    let q = spelled_append (num n ∷ []) ts bs at mid x.next (spelled_one (shape s) (num n) bs at mid t) p in
    (o, (let a = t.1 in let b = p.0 in omega arith), subst (λ us. SpelledAt us bs at x.next) (sym e) q, λ ss. subst (λ us. Takes grammar (s ∷ ss) us (inside x.value ++ ss)) (sym e) (t.0.2.1, f ss))
node_whole s n bs at mid (Err stop) t h = λ ss. ceases_later s ss (num n) bs at mid stop t (h ss).0 (h ss).1

-- nothing but the opcode
rest_none : (s : Sort) (n : ℕ) (x : Node) (bs : List ℕ) (mid : ℕ) → mid ≤ length bs → OfSort s x → own_tokens x ≡ num n ∷ [] → after s n ≡ inside x → RestAt s n bs mid (Ok (record { value = x; next = mid }))
unfolding Takes spell
rest_none s n x bs mid h o e f = (o, [], e, (omega arith, h, ap (λ k. take k (drop mid bs)) (let z : mid - mid ≡ 0 = omega arith in z)), λ ss. ap (λ ys. ys ++ ss) f)

-- TWO NUMBERS

pub range_second : (bs : List ℕ) (at mid n : ℕ) (stop : Stop) → TokenAt number (num n) bs at mid → Stopped (Any (TokenOf number)) bs mid stop → (ss : List Sort) → Ceases (a_bound ∷ a_last ∷ ss) bs at stop
range_second bs at mid n stop t h ss = ceases_later a_bound (a_last ∷ ss) (num n) bs at mid stop t (ceases_first a_last ss bs mid stop h) (λ w. w)

-- AFTER AN OPCODE

module _ {U : Type 0} (node_of : U → Node) (s : Sort) (n m : ℕ) (old mid : Reader) (z : n ≡ m) (opcode : Reads (TokenRead (shape s) num) old mid (Ok n)) where
  opened : TokenAt (shape s) (num m) old.bytes.now old.at mid.at
  opened = subst (λ k. TokenAt (shape s) (num k) old.bytes.now old.at mid.at) z opcode.1

  made_there : (new : Reader) (u : U) → new.bytes ≡ mid.bytes → RestAt s m old.bytes.now mid.at (Ok (record { value = node_of u; next = new.at })) → Reads (MadeAt node_of s) old new (Ok u)
  made_there new u d h = (d ∙ opcode.0, node_whole s m old.bytes.now old.at mid.at (Ok (record { value = node_of u; next = new.at })) opened h)

  made_stops : (new : Reader) (stop : Stop) → RestAt s m old.bytes.now mid.at (Err stop) → Reads (MadeAt node_of s) old new (Err stop)
  made_stops new stop h = node_whole s m old.bytes.now old.at mid.at (Err stop) opened h

  pub node_bare : (u : U) → OfSort s (node_of u) → own_tokens (node_of u) ≡ num m ∷ [] → after s m ≡ inside (node_of u) → Reads (MadeAt node_of s) old mid (Ok u)
  node_bare u o f g = made_there mid u refl (rest_none s m (node_of u) old.bytes.now mid.at opcode.1.0.1 o f g)

  pub node_ranged : (after_it : List Sort) (made : ℕ → ℕ → U → Type 0) (new : Reader) (y : Result U Stop) → Reads (RangedAt made) mid new y → after s m ≡ a_bound ∷ a_last ∷ after_it → ((lo hi : ℕ) (u : U) → made lo hi u → OfSort s (node_of u) × (own_tokens (node_of u) ≡ num m ∷ num lo ∷ num hi ∷ []) × (after_it ≡ inside (node_of u))) → Reads (MadeAt node_of s) old new y
  unfolding Takes
  node_ranged after_it made new (Ok u) (d, (lo, hi, x, v, w, p)) l f =
      let (o, e, g) = f lo hi u x in
      made_there new u d (o, num lo ∷ num hi ∷ [], e, rw opcode.0 at p, λ ss. subst (λ ys. Takes grammar (ys ++ ss) (num lo ∷ num hi ∷ []) (inside (node_of u) ++ ss)) (sym l) (v, (w, ap (λ ys. ys ++ ss) g)))
  node_ranged after_it made new (Err stop) h l f = made_stops new stop (λ ss. subst (λ ys. Ceases (ys ++ ss) old.bytes.now mid.at stop × (Whole (ys ++ ss) → ⊥)) (sym l) (rw opcode.0 at (h (after_it ++ ss)), λ w. w))

  pub token_there : (t : Token) (x : Sort) (after_it : List Sort) (new : Reader) (u : U) → (new.bytes ≡ mid.bytes) × TokenAt (shape x) t mid.bytes.now mid.at new.at → after s m ≡ x ∷ after_it → OfSort s (node_of u) → own_tokens (node_of u) ≡ num m ∷ t ∷ [] → ((ss : List Sort) → next grammar x t ++ (after_it ++ ss) ≡ inside (node_of u) ++ ss) → Reads (MadeAt node_of s) old new (Ok u)
  unfolding Takes
  token_there t x after_it new u (d, p) l o e g =
      let q = rw opcode.0 at p in
      made_there new u d (o, t ∷ [], e, spelled_one (shape x) t old.bytes.now mid.at new.at q, λ ss. subst (λ ys. Takes grammar (ys ++ ss) (t ∷ []) (inside (node_of u) ++ ss)) (sym l) (q.0.2.1, g ss))

  pub token_stops : (x : Sort) (after_it : List Sort) (new : Reader) (stop : Stop) (r : Result U Stop) → IsErrAnd r (λ y. y ≡ stop) → Stopped (Any (TokenOf (shape x))) mid.bytes.now mid.at stop → after s m ≡ x ∷ after_it → (Opens x → ⊥) → Reads (MadeAt node_of s) old new r
  token_stops x after_it new stop r e h l i = stopped (MadeAt node_of s) old new r stop e (made_stops new stop (λ ss. subst (λ ys. Ceases (ys ++ ss) old.bytes.now mid.at stop × (Whole (ys ++ ss) → ⊥)) (sym l) (ceases_first x (after_it ++ ss) old.bytes.now mid.at stop (rw opcode.0 at h), i)))

-- RULES

takes_as_rule : (ss rest : List Sort) (ts : List Token) → (ts ≡ [] → ⊥) → Takes grammar (a_schema ∷ ss) ts rest → Takes grammar (a_rule ∷ ss) ts rest
takes_as_rule ss rest [] none h = absurd (none refl)
takes_as_rule ss rest (t ∷ ts) none h = as_rule ss rest t ts h

some_tokens : (ts : List Token) (bs : List ℕ) (at end : ℕ) → at < end → SpelledAt ts bs at end → ts ≡ [] → ⊥
unfolding spell
some_tokens ts bs at end l (h, k, e) f =
    let z : end - at ≡ 0 = sym (part_length bs at end h k) ∙ ap length (e ∙ ap spell f) in
    omega arith

to_rule : (ss : List Sort) (w : List ℕ) → Any (Completes grammar (a_schema ∷ ss)) w → Any (Completes grammar (a_rule ∷ ss)) w
unfolding Takes
to_rule ss w ([], (e, h)) = absurd (let z : ◌≡◌ {A = ℕ} 0 1 = cc in omega arith)
to_rule ss w (t ∷ ts, (e, h)) = (t ∷ ts, (e, as_rule ss [] t ts h))

from_rule : (ss : List Sort) (w : List ℕ) → Any (Completes grammar (a_rule ∷ ss)) w → Any (Completes grammar (a_schema ∷ ss)) w
unfolding Takes
from_rule ss w ([], (e, h)) = absurd (let z : ◌≡◌ {A = ℕ} 0 1 = cc in omega arith)
from_rule ss w (t ∷ ts, (e, h)) = (t ∷ ts, (e, as_schema ss [] t ts h))

pub rule_node : (bs : List ℕ) (at : ℕ) (r : Result (Parsed Node) Stop) → NodeAt a_schema bs at r → NodeAt a_rule bs at r
rule_node bs at (Ok x) (o, l, p, f) = (of_rule x.value o, l, p, λ ss. takes_as_rule ss (inside x.value ++ ss) (own_tokens x.value) (some_tokens (own_tokens x.value) bs at x.next l p) (f ss))
  where
    of_rule : (x : Node) → OfSort a_schema x → OfSort a_rule x
    of_rule (OfSchema y) o = inr refl
    of_rule (OfGroup y) o = absurd (let z : ◌≡◌ {A = ℕ} 0 1 = cc in omega arith)
    of_rule (OfField y) o = absurd (let z : ◌≡◌ {A = ℕ} 0 1 = cc in omega arith)
rule_node bs at (Err stop) h = λ ss. (((h ss).0.0, stops_same (Any (Completes grammar (a_schema ∷ ss))) (Any (Completes grammar (a_rule ∷ ss))) (to_rule ss) (from_rule ss) (drop at bs) (stop.place - at) (stop.least - at) (h ss).0.1), stuck_rule ss (h ss).1)
  where
    stuck_rule : (ss : List Sort) → Stuck (a_schema ∷ ss) bs at → Stuck (a_rule ∷ ss) bs at
    stuck_rule ss f [] rest end g p w = refl
    stuck_rule ss f (t ∷ vs) rest end g p w = f (t ∷ vs) rest end (as_schema ss rest t vs g) p w
