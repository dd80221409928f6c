-- One token: none begins with another, and where bytes cease to begin one.
use Rattle.std.proofs.Common.{◌≡◌, ℕ, suc, ◌+◌, ◌-◌, ◌<◌, ◌≤◌, true, List, [], ◌∷◌, ◌++◌, length, get_or, take, drop, replicate, Ok, Err, Result, sym, refl, ap, ◌∙◌, subst, append_assoc, arith, length-append}
use Rattle.std.proofs.lemmas.Bool.{lt-ltb}
use Rattle.std.proofs.lemmas.List.{append-nil, length-drop, nil_from_length, take_all, length-replicate}
use Rattle.cbor.specs.declared.reading.Head.{Head}
use Rattle.cbor.specs.declared.reading.Stop.{Stop}
use Rattle.cbor.specs.Encoding.{all_bytes, head}
use Rattle.cbor.specs.Prefix.{Any, PrefixFree, Then, Stops, StopsAt, StandsAt}
use Rattle.cbor.specs.Reading.{HeadOf, HeadAt}
use Rattle.cbor.proofs.Numbers.{bytes_append, bytes_take, bytes_drop, bytes_replicate}
use Rattle.cbor.proofs.Words.{free_two, stops_same, stops_lower}
use Rattle.cbor.proofs.Heads.{head_free, head_some, head_bytes}
use Rattle.cbor.proofs.Places.{part_more, part_length, at_first, stops_at_first, stops_at_later}
use Rattle.sequence.specs.Token.{Token, num, str, token_bytes, Word, Shape, opcode, number, string, Suits, TokenOf}
use Rattle.sequence.specs.Reading.{TokenAt, NumberAt}

-- NONE BEGINS WITH ANOTHER

num_free : (n m : ℕ) (u r : List ℕ) → Word n → Word m → u ≡ head 0 n → u ++ r ≡ head 0 m → (num n ≡ num m) × (r ≡ [])
num_free n m u r h l a b = let f = head_free 0 n m u r (a, h) (b, l) in (ap num f.0, f.1)

same_length : (bs cs r : List ℕ) → length bs ≡ length cs → bs ++ r ≡ cs → (bs ≡ cs) × (r ≡ [])
same_length bs cs r l e =
    let z : r ≡ [] = nil_from_length r (omega (arith, ap length e, length-append bs r)) in
    (sym (append-nil bs) ∙ ap (λ x. bs ++ x) (sym z) ∙ e, z)

str_free : (bs cs u r : List ℕ) → Word (length bs) → Word (length cs) → u ≡ token_bytes (str bs) → u ++ r ≡ token_bytes (str cs) → (str bs ≡ str cs) × (r ≡ [])
str_free bs cs u r h l a b =
    let e : head 2 (length bs) ++ (bs ++ r) ≡ head 2 (length cs) ++ cs = sym (append_assoc (head 2 (length bs)) bs r) ∙ ap (λ x. x ++ r) (sym a) ∙ b in
    let f = free_two (HeadOf 2) (head_free 2) (length bs) (length cs) (head 2 (length bs)) (head 2 (length cs)) (bs ++ r) cs (refl, h) (refl, l) e in
    let g = same_length bs cs r f.0 f.2 in
    (ap str g.0, g.1)

pub token_free : (s : Shape) → PrefixFree (TokenOf s)
token_free (opcode k) (num n) (num m) u r (a, h) (b, l) = num_free n m u r (omega arith) (omega arith) a b
token_free number (num n) (num m) u r (a, h) (b, l) = num_free n m u r h l a b
token_free string (str bs) (str cs) u r (a, h) (b, l) = str_free bs cs u r h.1 l.1 a b
token_free (opcode k) (str bs) j u r (a, h) b = absurd h
token_free (opcode k) (num n) (str bs) u r a (b, h) = absurd h
token_free number (str bs) j u r (a, h) b = absurd h
token_free number (num n) (str bs) u r a (b, h) = absurd h
token_free string (num n) j u r (a, h) b = absurd h
token_free string (str bs) (num n) u r a (b, h) = absurd h

-- what is written is bytes
pub token_bytes_bytes : (s : Shape) (t : Token) → Suits s t → all_bytes (token_bytes t) ≡ true
token_bytes_bytes (opcode k) (num n) h = head_bytes 0 n (omega arith) (omega arith)
token_bytes_bytes (opcode k) (str bs) h = absurd h
token_bytes_bytes number (num n) h = head_bytes 0 n (omega arith) h
token_bytes_bytes number (str bs) h = absurd h
token_bytes_bytes string (num n) h = absurd h
token_bytes_bytes string (str bs) (b, l) = bytes_append (head 2 (length bs)) bs (head_bytes 2 (length bs) (omega arith) l) b

-- OPCODES

small_bytes : (n : ℕ) → n < 24 → head 0 n ≡ n ∷ []
small_bytes n h = rw (lt-ltb n 24 h) (ap (λ k. k ∷ []) (let z : 0 + n ≡ n = omega arith in z))

opcode_word : (last : ℕ) (w : List ℕ) → Any (TokenOf (opcode last)) w → (n : ℕ) × (n ≤ last) × (n < 24) × (w ≡ n ∷ [])
opcode_word last w (num n, (e, (h, l))) = (n, h, l, e ∙ small_bytes n l)
opcode_word last w (str bs, (e, h)) = absurd h

opcode_none : (last : ℕ) (q : List ℕ) → ((b : ℕ) (r : List ℕ) → q ≡ b ∷ r → b ≤ last → b < 24 → ⊥) → Stops (Any (TokenOf (opcode last))) q 0 0
opcode_none last q bad = record {
  unread = λ u rest w e.
      let (n, h, l, f) = opcode_word last u w in
      bad n rest (e ∙ ap (λ x. x ++ rest) f) h l;
  within = omega arith;
  begins = (0 ∷ [], (num 0, (refl, (omega arith, omega arith))));
  ends = λ h (rest, w). by_first q bad h rest w;
  longer = λ rest w. omega arith;
}
  where
    by_first : (q : List ℕ) → ((b : ℕ) (r : List ℕ) → q ≡ b ∷ r → b ≤ last → b < 24 → ⊥) → 0 < length q → (rest : List ℕ) → Any (TokenOf (opcode last)) (take 1 q ++ rest) → ⊥
    by_first [] bad h rest w = omega arith
    by_first (b ∷ r) bad h rest w =
        let (n, k, l, f) = opcode_word last (b ∷ rest) w in
        let z : b ≡ n = cc in
        bad b r refl (omega arith) (omega arith)

pub no_opcode : (last : ℕ) (bs : List ℕ) (at : ℕ) → (at < length bs → get_or bs at 0 ≤ last → get_or bs at 0 < 24 → ⊥) → StopsAt (Any (TokenOf (opcode last))) bs at at at
no_opcode last bs at bad =
    let z : 0 ≡ at - at = omega arith in (
      omega arith,
      (subst (λ k. Stops (Any (TokenOf (opcode last))) (drop at bs) k k) z (opcode_none last (drop at bs) (λ b r e k l.
          let h : at < length bs = (let y : length bs - at ≡ suc (length r) = sym (length-drop at bs) ∙ ap length e in omega arith) in
          let g : get_or bs at 0 ∷ drop (at + 1) bs ≡ b ∷ r = sym (at_first bs at h) ∙ e in
          let c : get_or bs at 0 ≡ b = cc in
          bad h (omega arith) (omega arith)))),
    )

pub opcode_there : (last : ℕ) (bs : List ℕ) (at n : ℕ) → at < length bs → n ≡ get_or bs at 0 → n ≤ last → n < 24 → TokenAt (opcode last) (num n) bs at (at + 1)
opcode_there last bs at n h e k l =
    let x : take (at + 1 - at) (drop at bs) ≡ get_or bs at 0 ∷ [] = ap (λ q. take (at + 1 - at) q) (at_first bs at h) ∙ ap (λ k. take k (get_or bs at 0 ∷ drop (at + 1) bs)) (let z : at + 1 - at ≡ 1 = omega arith in z) in
    ((omega arith, omega arith, (x ∙ ap (λ b. b ∷ []) (sym e) ∙ sym (small_bytes n l), (k, l))), omega arith)

-- NUMBERS

to_number : (w : List ℕ) → Any (HeadOf 0) w → Any (TokenOf number) w
to_number w (n, h) = (num n, h)

from_number : (w : List ℕ) → Any (TokenOf number) w → Any (HeadOf 0) w
from_number w (num n, h) = (n, h)
from_number w (str bs, (e, h)) = absurd h

pub number_from : (bs : List ℕ) (at : ℕ) (r : Result Head Stop) → HeadAt 0 bs at r → NumberAt number bs at r
number_from bs at (Ok h) s = s
number_from bs at (Err s) (l, h) = (l, stops_same (Any (HeadOf 0)) (Any (TokenOf number)) to_number from_number (drop at bs) (s.place - at) (s.least - at) h)

-- BYTE STRINGS

abbrev Content : ℕ → List ℕ → Type 0
Content n v = (length v ≡ n) × (all_bytes v ≡ true)

zeros : (n : ℕ) → (v : List ℕ) × Content n v
zeros n = (replicate n 0, (length-replicate {A = ℕ} n 0, bytes_replicate n 0 (omega arith)))

to_string : (w : List ℕ) → Then (HeadOf 2) Content w → Any (TokenOf string) w
to_string w (n, u, v, (a, h), (l, b), e) = (str v, (e ∙ ap (λ x. x ++ v) (a ∙ ap (head 2) (sym l)), (b, omega arith)))

from_string : (w : List ℕ) → Any (TokenOf string) w → Then (HeadOf 2) Content w
from_string w (num n, (e, h)) = absurd h
from_string w (str bs, (e, (b, h))) = (length bs, head 2 (length bs), bs, (refl, h), (refl, b), e)

string_stops : (bs : List ℕ) (at p n : ℕ) → StopsAt (Then (HeadOf 2) Content) bs at p n → StopsAt (Any (TokenOf string)) bs at p n
string_stops bs at p n (l, h) = (l, stops_same (Then (HeadOf 2) Content) (Any (TokenOf string)) to_string from_string (drop at bs) (p - at) (n - at) h)

pub no_string : (bs : List ℕ) (at p n : ℕ) → StopsAt (Any (HeadOf 2)) bs at p n → StopsAt (Any (TokenOf string)) bs at p n
no_string bs at p n h = string_stops bs at p n (stops_at_first (HeadOf 2) Content (head_free 2) (λ n u a. zeros n) bs at p n h)

content_cut : (n : ℕ) (q : List ℕ) → all_bytes q ≡ true → length q < n → Stops (Content n) q (length q) n
content_cut n q a h = record {
  unread = λ u rest (l, b) e. omega (arith, ap length e, length-append u rest);
  within = omega arith;
  begins = rw (take_all (length q) q (omega arith)) (replicate (n - length q) 0, (length-append q (replicate (n - length q) 0) ∙ (let z = length-replicate {A = ℕ} (n - length q) 0 in omega arith), bytes_append q (replicate (n - length q) 0) a (bytes_replicate (n - length q) 0 (omega arith))));
  ends = λ l. absurd (omega arith);
  longer = λ rest (l, b). omega arith;
}

pub cut_string : (bs : List ℕ) (at mid n k : ℕ) → all_bytes bs ≡ true → StandsAt (HeadOf 2 n) bs at mid → length bs < mid + n → k ≤ mid + n → StopsAt (Any (TokenOf string)) bs at (length bs) k
cut_string bs at mid n k a s h l =
    let z : length (drop mid bs) ≡ length bs - mid = length-drop mid bs in
    let c = content_cut n (drop mid bs) (bytes_drop mid bs a) (omega arith) in
    let m = s.1 in
    string_stops bs at (length bs) k (stops_at_later (HeadOf 2) Content (head_free 2) n bs at mid (length bs) k s (m, stops_lower (Content n) (drop mid bs) (length bs - mid) n (k - mid) (omega arith) (subst (λ x. Stops (Content n) (drop mid bs) x n) z c)))

pub string_there : (bs : List ℕ) (at mid n end : ℕ) → all_bytes bs ≡ true → StandsAt (HeadOf 2 n) bs at mid → at < mid → end ≡ mid + n → end ≤ length bs → TokenAt string (str (take (end - mid) (drop mid bs))) bs at end
string_there bs at mid n end a (h, k, (e, w)) i d l =
    let y : length (take (end - mid) (drop mid bs)) ≡ n = part_length bs mid end (omega arith) l ∙ (let x : end - mid ≡ n = omega arith in x) in
    ((omega arith, l, (part_more bs at mid end h (omega arith) ∙ (λ i. (e ∙ ap (head 2) (sym y)) i ++ take (end - mid) (drop mid bs)), (bytes_take (end - mid) (drop mid bs) (bytes_drop mid bs a), omega arith))), omega arith)

pub token_some : (s : Shape) (t : Token) (u : List ℕ) → TokenOf s t u → 0 < length u
token_some (opcode k) (num n) u (e, (h, l)) = omega (arith, ap length e, head_some 0 n (omega arith))
token_some number (num n) u (e, l) = omega (arith, ap length e, head_some 0 n l)
token_some string (str bs) u (e, l) = omega (arith, ap length e, length-append (head 2 (length bs)) bs, head_some 2 (length bs) l.1)
token_some (opcode k) (str bs) u (e, l) = absurd l
token_some number (str bs) u (e, l) = absurd l
token_some string (num n) u (e, l) = absurd l
