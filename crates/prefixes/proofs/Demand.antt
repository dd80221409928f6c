-- With a demand: bytes begin a word with room just if they begin one whose head and last tags leave room.
use Rattle.std.proofs.Common.{◌≡◌, ℕ, zero, suc, ◌+◌, ◌-◌, ◌<◌, ◌≤◌, true, ◌⊎◌, List, [], ◌++◌, length, replicate, sym, refl, ap, ◌∙◌, subst, inl, inr, append_assoc, arith, length-append}
use Rattle.std.proofs.lemmas.List.{append-nil, length-replicate}
use Rattle.std.proofs.lemmas.Bool.{cases_lt}
use Rattle.cbor.specs.declared.Major.{Major}
use Rattle.cbor.specs.declared.Major.TheVariants.{Unsigned, Negative, Bytes, Text, Array, Map, Tag, Simple}
use Rattle.cbor.specs.Encoding.{major_number, head}
use Rattle.cbor.specs.Utf8.{utf8, TextOf}
use Rattle.cbor.specs.Prefix.{Begins}
use Rattle.cbor.proofs.Utf8.{utf8_replicate}
use Rattle.cbor.proofs.Words.{two_fronts}
use Rattle.prefixes.specs.Words.{Room, Keyed}
use Rattle.prefixes.specs.Shapes.{HeadFits, BodyOf, ItemAt, DemandFits, TagFits, Below, Demanded}
use Rattle.prefixes.proofs.Words.{begins_less}
use Rattle.prefixes.proofs.Rooms.{room_down}
use Rattle.prefixes.proofs.Items.{item_made}
use Rattle.prefixes.proofs.Texts.{utf8_append, pending_end}
use Rattle.prefixes.proofs.Families.{room_below_tags, room_tag, low7, counted, counted_word, room_below_text, room_text, room_text_zeros, room_simple, room_last_tag}
use Rattle.prefixes.proofs.Ends.{item_parts, simple_room, last_tag_room}

demand_major : (d r : ℕ) (k : Major) (n : ℕ) (v : List ℕ) → HeadFits d k n → BodyOf (Below d) k n v → Room (ItemAt d) (head (major_number k) n ++ v) r
    → DemandFits r k n × TagFits (Below d) r k n v
demand_major d r Unsigned n v f b h = (tt, tt)
demand_major d r Negative n v f b h = (tt, tt)
demand_major d r Bytes n v f b h = (tt, tt)
demand_major d r Text n v f b h = (tt, tt)
demand_major d r Array n v f b h = (tt, tt)
demand_major d r Map n v f b h = (tt, tt)
demand_major zero r Tag n v f b h = absurd b
demand_major (suc d) r Tag n v f b h = (tt, λ e. last_tag_room d r v (subst (λ m. Room (ItemAt (suc d)) (head 6 m ++ v) r) e h))
demand_major d r Simple n v f b h = (simple_room d n r f (subst (λ x. Room (ItemAt d) (head 7 n ++ x) r) b h), tt)

-- a word with room meets the demand
pub keyed_demanded : (d r : ℕ) (w : List ℕ) → Keyed (ItemAt d) r w → Demanded d r w
keyed_demanded d r w (a, h) =
    let (k, n, v, f, b, e) = item_parts d w a in
    let (x, y) = demand_major d r k n v f b (subst (λ z. Room (ItemAt d) z r) e h) in
    ((k, n), head (major_number k) n, v, ((refl, f), x), (b, y), e)

-- and one that meets it has room, unless it's too long a text
abbrev pub Short : Major → ℕ → Type 0
Short Unsigned n = Unit {0}
Short Negative n = Unit {0}
Short Bytes n = Unit {0}
Short Text n = n + 11 < 18446744073709551616
Short Array n = Unit {0}
Short Map n = Unit {0}
Short Tag n = Unit {0}
Short Simple n = Unit {0}

tag_room : (d r n : ℕ) (v : List ℕ) → n < 18446744073709551616 → r ≤ 18446744073709551616 → (n ≡ 18446744073709551615 → Room (ItemAt d) v (r - 248))
    → Room (ItemAt (suc d)) (head 6 n ++ v) r
tag_room d r n v h l f = elim (cases_lt n 18446744073709551615) [
  | inl a ↦ room_tag d n r v a l
  | inr a ↦
      let e : n ≡ 18446744073709551615 = omega arith in
      let x = room_last_tag d (r - 248) v (f e) in
      let y : (r - 248 + 248 - r) + r ≡ r - 248 + 248 = omega arith in
      subst (λ m. Room (ItemAt (suc d)) (head 6 m ++ v) r) (sym e)
      (room_down (ItemAt (suc d)) (head 6 18446744073709551615 ++ v) (r - 248 + 248 - r) r (subst (λ m. Room (ItemAt (suc d)) (head 6 18446744073709551615 ++ v) m) (sym y) x))
]

pub major_room : (d r : ℕ) (k : Major) (n : ℕ) (v : List ℕ) → HeadFits d k n → DemandFits r k n → BodyOf (Below d) k n v → TagFits (Below d) r k n v
    → r ≤ 18446744073709551616 → Short k n → Room (ItemAt d) (head (major_number k) n ++ v) r
major_room d r Unsigned n v f g b t l s = room_below_text d 0 n r v (omega arith) f l
major_room d r Negative n v f g b t l s = room_below_text d 1 n r v (omega arith) f l
major_room d r Bytes n v f g b t l s = room_below_text d 2 n r v (omega arith) f l
major_room d r Text n v f g b t l s = room_text d n r v s l
major_room zero r Array n v f g b t l s = absurd (omega arith)
major_room (suc d) r Array n v f g b t l s = room_below_tags d 4 n r v (omega arith) f.0 l
major_room zero r Map n v f g b t l s = absurd (omega arith)
major_room (suc d) r Map n v f g b t l s = room_below_tags d 5 n r v (omega arith) f.0 l
major_room zero r Tag n v f g b t l s = absurd b
major_room (suc d) r Tag n v f g b t l s = tag_room d r n v f.0 l t
major_room d r Simple n v f g b t l s = room_simple d n r v f g

regroup : (a b c d e : List ℕ) → a ++ (((b ++ c) ++ d) ++ e) ≡ (a ++ b) ++ (c ++ (d ++ e))
regroup a b c d e = simp append_assoc

-- a text of any length that is cut off early, filled up with zeros, has room after it
text_filled : (d r n : ℕ) (c e : List ℕ) → utf8 (c ++ e) ≡ true → length c + 13 ≤ n → n < 18446744073709551616 → r ≤ 18446744073709551616 → Begins (Keyed (ItemAt d) r) (head 3 n ++ c)
text_filled d r n c e t l h m =
    let (k, e', q, o, v) = pending_end [] c e (omega arith) t in
    let z : ℕ = n - 10 - length (c ++ k) in
    let f : List ℕ = (c ++ k) ++ replicate z 0 in
    let x : length f + 10 ≡ n = omega (arith, length-append (c ++ k) (replicate z 0), length-replicate {A = ℕ} z 0, length-append c k) in
    let uf : utf8 f ≡ true = utf8_append (c ++ k) (replicate z 0) v ∙ utf8_replicate z 0 (omega arith) in
    let p : counted f 0 ≡ (head 3 n ++ c) ++ (k ++ (replicate z 0 ++ low7 10 0)) = ap (λ y. head 3 y ++ (f ++ low7 10 0)) x ∙ regroup (head 3 n) c k (replicate z 0) (low7 10 0) in
    (k ++ (replicate z 0 ++ low7 10 0), subst (λ y. Keyed (ItemAt d) r y) p (counted_word d 0 f uf (omega arith), room_text_zeros d r f uf (omega arith) m))

text_begins : (d r n : ℕ) (q rest v : List ℕ) → length q + 13 ≤ n → n < 18446744073709551616 → r ≤ 18446744073709551616 → TextOf n v → q ++ rest ≡ head 3 n ++ v
    → Begins (Keyed (ItemAt d) r) q
text_begins d r n q rest v l h m (ln, t) e = elim (two_fronts q (head 3 n) rest v e) [
  | inl (s, x, y) ↦ begins_less (Keyed (ItemAt d) r) q s (subst (λ z. Begins (Keyed (ItemAt d) r) z) (append-nil (head 3 n) ∙ x) (text_filled d r n [] v t (omega arith) h m))
  | inr (s, x, y) ↦
      let z : length (head 3 n) + length s ≡ length q = sym (length-append (head 3 n) s) ∙ ap length (sym x) in
      subst (λ w. Begins (Keyed (ItemAt d) r) w) (sym x) (text_filled d r n s rest (ap utf8 (sym y) ∙ t) (omega arith) h m)
]

short_enough : (d r : ℕ) (k : Major) (n : ℕ) (q rest v : List ℕ) → length q < 1152921504606846976 → HeadFits d k n → DemandFits r k n → BodyOf (Below d) k n v
    → TagFits (Below d) r k n v → r ≤ 18446744073709551616 → q ++ rest ≡ head (major_number k) n ++ v → Short k n ⊎ Begins (Keyed (ItemAt d) r) q
short_enough d r Unsigned n q rest v l f g b t m e = inl tt
short_enough d r Negative n q rest v l f g b t m e = inl tt
short_enough d r Bytes n q rest v l f g b t m e = inl tt
short_enough d r Text n q rest v l f g b t m e = elim (cases_lt (n + 11) 18446744073709551616) [ inl h ↦ inl h | inr h ↦ inr (text_begins d r n q rest v (omega arith) f m b e) ]
short_enough d r Array n q rest v l f g b t m e = inl tt
short_enough d r Map n q rest v l f g b t m e = inl tt
short_enough d r Tag n q rest v l f g b t m e = inl tt
short_enough d r Simple n q rest v l f g b t m e = inl tt

-- bytes that begin a word that meets the demand begin one with room
pub demanded_begins : (d r : ℕ) (q : List ℕ) → length q < 1152921504606846976 → r ≤ 18446744073709551616 → Begins (Demanded d r) q → Begins (Keyed (ItemAt d) r) q
demanded_begins d r q l m (rest, (i, u, v, ((p, f), g), (b, t), e)) =
    let e' : q ++ rest ≡ head (major_number i.0) i.1 ++ v = e ∙ ap (λ x. x ++ v) p in
    elim (short_enough d r i.0 i.1 q rest v l f g b t m e') [
      | inl s ↦ (rest, subst (λ x. Keyed (ItemAt d) r x) (sym e') (item_made d i v f b, major_room d r i.0 i.1 v f g b t m s))
      | inr x ↦ x
    ]

pub short_whole : (d : ℕ) (k : Major) (n : ℕ) (v : List ℕ) → length (head (major_number k) n ++ v) < 1152921504606846976 → BodyOf (Below d) k n v → Short k n
short_whole d Unsigned n v l b = tt
short_whole d Negative n v l b = tt
short_whole d Bytes n v l b = tt
short_whole d Text n v l b = let z = length-append (head 3 n) v in let y = b.0 in omega arith
short_whole d Array n v l b = tt
short_whole d Map n v l b = tt
short_whole d Tag n v l b = tt
short_whole d Simple n v l b = tt

-- and a whole one that isn't too long is one with room
pub demanded_keyed : (d r : ℕ) (w : List ℕ) → length w < 1152921504606846976 → r ≤ 18446744073709551616 → Demanded d r w → Keyed (ItemAt d) r w
demanded_keyed d r w l m (i, u, v, ((p, f), g), (b, t), e) =
    let e' : w ≡ head (major_number i.0) i.1 ++ v = e ∙ ap (λ x. x ++ v) p in
    subst (λ x. Keyed (ItemAt d) r x) (sym e')
    (item_made d i v f b, major_room d r i.0 i.1 v f g b t m (short_whole d i.0 i.1 v (subst (λ x. length x < 1152921504606846976) e' l) b))
