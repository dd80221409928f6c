-- Strings written one after the other.
use Rattle.std.proofs.Common.{◌≡◌, ℕ, suc, ◌+◌, ◌*◌, ◌/◌, ◌%◌, ◌<◌, ◌≤◌, List, [], ◌∷◌, ◌++◌, length, get_or, take, drop, Some, None, Option, sym, ap, ◌∙◌, subst, append_assoc, arith, length-append}
use native.Mathlib.Nat.{div-div-eq-div-mul}
use Rattle.std.proofs.lemmas.List.{length-drop, length-take-le, take_at, drop_at, drop-drop}
use Rattle.cbor.specs.declared.Major.{Major}
use Rattle.cbor.specs.declared.Major.TheVariants.{Unsigned, Negative, Bytes, Text, Array, Map, Tag, Simple}
use Rattle.cbor.specs.Encoding.{to_bytes, major_number, head}
use Rattle.cbor.specs.Writing.{Writes}
use Rattle.cbor.proofs.Numbers.{length_to_bytes}
use Rattle.cbor.proofs.Heads.{Sized, sized_head}

written_length : (old new w : List ℕ) (at : ℕ) → at + length w ≤ length old → new ≡ take at old ++ (w ++ drop (at + length w) old) → length new ≡ length old
written_length old new w at h e =
    ap length e ∙ length-append (take at old) (w ++ drop (at + length w) old)
    ∙ (let a = length-take-le at old (omega arith) in let b = length-append w (drop (at + length w) old) in let c = length-drop (at + length w) old in omega arith)

-- one string, and then another
writes_more : (old mid new u v : List ℕ) (at next end : ℕ) → Writes old at u mid (Some next) → Writes mid next v new (Some end) → Writes old at (u ++ v) new (Some end)
writes_more old mid new u v at next end (p, l, e) (q, k, f) =
    let a : length (take at old) ≡ at = length-take-le at old (omega arith) in
    let n = written_length old mid u at (omega arith) (e ∙ ap (λ x. take at old ++ (u ++ drop x old)) p) in
    let g : mid ≡ (take at old ++ u) ++ drop next old = e ∙ sym (append_assoc (take at old) u (drop next old)) in
    let o : length (take at old ++ u) ≡ next = length-append (take at old) u ∙ (let z : length (take at old) + length u ≡ next = omega arith in z) in
    let t : take next mid ≡ take at old ++ u = ap (take next) g ∙ take_at (take at old ++ u) (drop next old) next o in
    let d : drop next mid ≡ drop next old = ap (drop next) g ∙ drop_at (take at old ++ u) (drop next old) next o in
    let j : next + length v ≡ end = omega arith in
    let i : drop end mid ≡ drop end old = ap (λ x. drop x mid) (sym j) ∙ sym (drop-drop (length v) next mid) ∙ ap (drop (length v)) d ∙ drop-drop (length v) next old ∙ ap (λ x. drop x old) j in
    (omega (arith, length-append u v), omega arith, f ∙ (λ x. t x ++ (v ++ i x)) ∙ append_assoc (take at old) u (v ++ drop end old) ∙ ap (λ x. take at old ++ x) (sym (append_assoc u v (drop end old))))

-- with room for both there is room for the second
pub room_more : (old mid new u v : List ℕ) (at next : ℕ) → at + length (u ++ v) ≤ length old → Writes old at u mid (Some next) → Writes mid next v new None → ⊥
room_more old mid new u v at next h (p, l, e) (k, f) =
    let n = written_length old mid u at (omega arith) (e ∙ ap (λ x. take at old ++ (u ++ drop x old)) p) in
    omega (arith, length-append u v)

pub writes_then : (old mid new u v : List ℕ) (at next : ℕ) (r : Option ℕ) → at + length (u ++ v) ≤ length old → Writes old at u mid (Some next) → Writes mid next v new r → Writes old at (u ++ v) new r
writes_then old mid new u v at next (Some end) h a b = writes_more old mid new u v at next end a b
writes_then old mid new u v at next None h a b = absurd (room_more old mid new u v at next h a b)

-- HEADS

pub major_below : (m : Major) → major_number m < 8
major_below Unsigned = omega arith
major_below Negative = omega arith
major_below Bytes = omega arith
major_below Text = omega arith
major_below Array = omega arith
major_below Map = omega arith
major_below Tag = omega arith
major_below Simple = omega arith

head_written : (m : Major) (r n s w : ℕ) (t : List ℕ) → r ≡ major_number m → Sized n s w → t ≡ to_bytes w n → (r * 32 % 256 + s) ∷ t ≡ head (major_number m) n
head_written m r n s w t e z f =
    let l = major_below m in
    let k : r * 32 % 256 + s ≡ 32 * major_number m + s = omega arith in
    (λ i. k i ∷ f i) ∙ sym (sized_head (major_number m) n s w z)

pub writes_head : (m : Major) (r n s w at : ℕ) (t old new : List ℕ) (next : Option ℕ) → r ≡ major_number m → Sized n s w → t ≡ to_bytes w n → Writes old at ((r * 32 % 256 + s) ∷ t) new next → Writes old at (head (major_number m) n) new next
writes_head m r n s w at t old new next e z f h = subst (λ u. Writes old at u new next) (head_written m r n s w t e z f) h

pub one_byte : (n : ℕ) → n < 256 → n ∷ [] ≡ to_bytes 1 n
unfolding to_bytes
one_byte n h = ap (λ b. b ∷ []) (let z : n ≡ n % 256 = omega arith in z)

pub two_bytes : (bs : List ℕ) (n : ℕ) → bs ≡ (n / 256 % 256) ∷ (n % 256) ∷ [] → get_or bs 0 0 ∷ get_or bs 1 0 ∷ [] ≡ to_bytes 2 n
unfolding to_bytes
two_bytes bs n e = rw e

pub four_bytes : (bs : List ℕ) (n : ℕ) → bs ≡ (n / 16777216 % 256) ∷ (n / 65536 % 256) ∷ (n / 256 % 256) ∷ (n % 256) ∷ [] → get_or bs 0 0 ∷ get_or bs 1 0 ∷ get_or bs 2 0 ∷ get_or bs 3 0 ∷ [] ≡ to_bytes 4 n
unfolding to_bytes
four_bytes bs n e = rw (e, div-div-eq-div-mul n 256 256, div-div-eq-div-mul n 65536 256)

pub eight_bytes : (bs : List ℕ) (n : ℕ) → bs ≡ (n / 72057594037927936 % 256) ∷ (n / 281474976710656 % 256) ∷ (n / 1099511627776 % 256) ∷ (n / 4294967296 % 256) ∷ (n / 16777216 % 256) ∷ (n / 65536 % 256) ∷ (n / 256 % 256) ∷ (n % 256) ∷ [] → get_or bs 0 0 ∷ get_or bs 1 0 ∷ get_or bs 2 0 ∷ get_or bs 3 0 ∷ get_or bs 4 0 ∷ get_or bs 5 0 ∷ get_or bs 6 0 ∷ get_or bs 7 0 ∷ [] ≡ to_bytes 8 n
unfolding to_bytes
eight_bytes bs n e = rw (e, div-div-eq-div-mul n 256 256, div-div-eq-div-mul n 65536 256, div-div-eq-div-mul n 16777216 256, div-div-eq-div-mul n 4294967296 256, div-div-eq-div-mul n 1099511627776 256, div-div-eq-div-mul n 281474976710656 256)

pub head_length : (m n s w : ℕ) → Sized n s w → suc w ≡ length (head m n)
head_length m n s w z = ap suc (sym (length_to_bytes w n)) ∙ ap length (sym (sized_head m n s w z))
