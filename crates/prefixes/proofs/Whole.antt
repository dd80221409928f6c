-- Items: what the walk tells of them holds.
use Rattle.std.proofs.Common.{◌≡◌, ℕ, zero, suc, ◌+◌, ◌-◌, ◌<◌, ◌≤◌, true, cond, eqb, List, [], ◌∷◌, ◌++◌, length, sym, refl, ap, ◌∙◌, subst, inl, inr, arith, length-append}
use Rattle.std.proofs.lemmas.Bool.{lt-ltb, le-ltb, cases_lt, cases_eq, eq-eqb, ne_eqb}
use Rattle.cbor.specs.declared.Major.{Major}
use Rattle.cbor.specs.declared.Major.TheVariants.{Unsigned, Negative, Bytes, Text, Array, Map, Tag, Simple}
use Rattle.cbor.specs.Encoding.{all_bytes, major_number, head}
use Rattle.cbor.specs.Prefix.{PrefixFree}
use Rattle.cbor.proofs.Numbers.{bytes_parts}
use Rattle.prefixes.specs.Words.{Reach, joined, reach_of_head, Keyed, After}
use Rattle.prefixes.specs.Shapes.{HeadFits, BodyOf, ItemAt, place_of, HeadFor, TagFits, BodyFor, Below, Demanded}
use Rattle.prefixes.specs.Walks.{Told, done, cut, wrong, Holds, walk_many, walk_pairs, Says, walk_bytes, walk_text, walk_head, retold, walk_body, capped, after_of, walk_item, walk}
use Rattle.prefixes.proofs.Items.{item_made}
use Rattle.prefixes.proofs.Free.{item_free, head_word_free}
use Rattle.prefixes.proofs.Many.{empty_reach}
use Rattle.prefixes.proofs.Families.{room_tag, room_below_text}
use Rattle.prefixes.proofs.Ends.{after_endless, after_simple, after_last_tag}
use Rattle.prefixes.proofs.Reach.{some_item, body_some, item_reach}
use Rattle.prefixes.proofs.Demand.{keyed_demanded, major_room, demanded_begins, short_whole, demanded_keyed}
use Rattle.prefixes.proofs.Told.{carry_holds, then_holds, holds_same, keyed_holds}
use Rattle.prefixes.proofs.Loops.{many_holds, pairs_holds}
use Rattle.prefixes.proofs.Strings.{bytes_holds, text_holds}
use Rattle.prefixes.proofs.Fronts.{head_holds}

-- bytes, and not too many
abbrev pub Ok : List ℕ → Type 0
Ok q = (all_bytes q ≡ true) × (length q < 1152921504606846976)

ok_rest : (u rest : List ℕ) → Ok (u ++ rest) → Ok rest
ok_rest u rest (a, l) = ((bytes_parts u rest a).1, (let z = length-append u rest in omega arith))

-- how many come after what is in an item: told of tags only
abbrev InAfter : (List ℕ → Type 0) → Major → ℕ → List ℕ → Type 0
InAfter W Unsigned a v = Unit {0}
InAfter W Negative a v = Unit {0}
InAfter W Bytes a v = Unit {0}
InAfter W Text a v = Unit {0}
InAfter W Array a v = Unit {0}
InAfter W Map a v = Unit {0}
InAfter W Tag a v = After W v a
InAfter W Simple a v = Unit {0}

abbrev InSays : ℕ → Major → ℕ → (ℕ × ℕ) → List ℕ → Type 0
InSays d k n m v = Reach (BodyOf (Below d) k n) v m.0 × InAfter (Below d) k m.1 v

after_capped : (W : List ℕ → Type 0) (k : List ℕ) (a : ℕ) → After W k (a + 248) → After W k (capped a)
after_capped W k a f = elim (cases_lt a 18446744073709551368) [
  | inl l ↦ rw (lt-ltb a 18446744073709551368 l) f
  | inr l ↦ rw (le-ltb a 18446744073709551368 l) (λ r h. ((λ z. (f r h).0 (omega arith)), λ z. omega arith))
]

item_after : (d : ℕ) (k : Major) (n : ℕ) (v : List ℕ) (a : ℕ) → HeadFits d k n → BodyOf (Below d) k n v → InAfter (Below d) k a v
    → length (head (major_number k) n ++ v) < 1152921504606846976 → After (ItemAt d) (head (major_number k) n ++ v) (after_of k n a)
item_after d Unsigned n v a f b i l = after_endless (ItemAt d) (head 0 n ++ v) (λ r m. major_room d r Unsigned n v f tt b tt m tt)
item_after d Negative n v a f b i l = after_endless (ItemAt d) (head 1 n ++ v) (λ r m. major_room d r Negative n v f tt b tt m tt)
item_after d Bytes n v a f b i l = after_endless (ItemAt d) (head 2 n ++ v) (λ r m. major_room d r Bytes n v f tt b tt m tt)
item_after d Text n v a f b i l = after_endless (ItemAt d) (head 3 n ++ v) (λ r m. major_room d r Text n v f tt b tt m (short_whole d Text n v l b))
item_after d Array n v a f b i l = after_endless (ItemAt d) (head 4 n ++ v) (λ r m. major_room d r Array n v f tt b tt m tt)
item_after d Map n v a f b i l = after_endless (ItemAt d) (head 5 n ++ v) (λ r m. major_room d r Map n v f tt b tt m tt)
item_after zero Tag n v a f b i l = absurd b
item_after (suc d) Tag n v a f b i l = elim (cases_eq n 18446744073709551615) [
  | inl e ↦ rw (eq-eqb n 18446744073709551615 e) (subst (λ m. After (ItemAt (suc d)) (head 6 m ++ v) (capped a)) (sym e) (after_capped (ItemAt (suc d)) (head 6 18446744073709551615 ++ v) a (after_last_tag d a v i)))
  | inr e ↦ rw (ne_eqb n 18446744073709551615 e) (after_endless (ItemAt (suc d)) (head 6 n ++ v) (λ r m. room_tag d n r v (let z = f.0 in omega arith) m))
]
item_after d Simple n v a f b i l = subst (λ x. After (ItemAt d) (head 7 n ++ x) (247 - place_of n)) (sym b) (after_simple d n f)

retold_holds : (V W : List ℕ → Type 0) (S : ℕ → List ℕ → Type 0) (T : (ℕ × ℕ) → List ℕ → Type 0) → ((w : List ℕ) → V w → W w) → ((w : List ℕ) → W w → V w)
    → ((m : ℕ) (w : List ℕ) → S m w → T (m, 0) w) → (q : List ℕ) (o : Told ℕ) → Holds V S q o → Holds W T q (retold (λ m. (m, 0)) o)
retold_holds V W S T f g h q (done i u rest) (v, s, e) = (f u v, h i u s, e)
retold_holds V W S T f g h q cut x = holds_same {I = ℕ} V W (λ m u. Unit {0}) f g q cut x
retold_holds V W S T f g h q (wrong p) x = holds_same {I = ℕ} V W (λ m u. Unit {0}) f g q (wrong p) x

body_plain : (d r : ℕ) (k : Major) (n : ℕ) (q : List ℕ) (o : Told ℕ) → ((w : List ℕ) → TagFits (Below d) r k n w) → ((w : List ℕ) → InAfter (Below d) k 0 w)
    → Holds (BodyOf (Below d) k n) (λ m u. Reach (BodyOf (Below d) k n) u m) q o → Holds (BodyFor (Below d) r (k, n)) (InSays d k n) q (retold (λ m. (m, 0)) o)
body_plain d r k n q o t a h =
    retold_holds (BodyOf (Below d) k n) (BodyFor (Below d) r (k, n)) (λ m u. Reach (BodyOf (Below d) k n) u m) (InSays d k n) (λ w b. (b, t w)) (λ w b. b.0) (λ m w s. (s, a w)) q o h

abbrev Inner : ℕ → (ℕ → List ℕ → Told (ℕ × ℕ)) → Type 0
Inner d inner = (r : ℕ) (q : List ℕ) → r < 18446744073709551616 → Ok q → Holds (Keyed (ItemAt d) r) (Says (ItemAt d)) q (inner r q)

tag_body : (d r n : ℕ) (q : List ℕ) (inner : ℕ → List ℕ → Told (ℕ × ℕ)) → Inner d inner → r < 18446744073709551616 → Ok q
    → Holds (BodyFor (ItemAt d) r (Tag, n)) (Says (ItemAt d)) q (cond (eqb n 18446744073709551615) (inner (r - 248) q) (inner 0 q))
tag_body d r n q inner h l ok = elim (cases_eq n 18446744073709551615) [
  | inl e ↦ rw (eq-eqb n 18446744073709551615 e) (holds_same (Keyed (ItemAt d) (r - 248)) (BodyFor (ItemAt d) r (Tag, n)) (Says (ItemAt d)) (λ w (a, m). (a, λ z. m)) (λ w (a, m). (a, m e)) q (inner (r - 248) q)
      (h (r - 248) q (omega arith) ok))
  | inr e ↦ rw (ne_eqb n 18446744073709551615 e) (holds_same (ItemAt d) (BodyFor (ItemAt d) r (Tag, n)) (Says (ItemAt d)) (λ w a. (a, λ z. absurd (e z))) (λ w (a, m). a) q (inner 0 q)
      (keyed_holds (ItemAt d) (Says (ItemAt d)) q (inner 0 q) (h 0 q (omega arith) ok)))
]

-- one level down: nothing at depth 0
abbrev Under : ℕ → (ℕ → List ℕ → Told (ℕ × ℕ)) → Type 0
Under zero inner = Unit {0}
Under (suc d) inner = Inner d inner

body_holds : (d r : ℕ) (k : Major) (n : ℕ) (q : List ℕ) (inner : ℕ → List ℕ → Told (ℕ × ℕ)) → Under d inner → HeadFits d k n → r < 18446744073709551616 → Ok q
    → Holds (BodyFor (Below d) r (k, n)) (InSays d k n) q (walk_body inner r k n q)
body_holds d r Unsigned n q inner h f l ok = ((refl, tt), (empty_reach, tt), refl)
body_holds d r Negative n q inner h f l ok = ((refl, tt), (empty_reach, tt), refl)
body_holds d r Bytes n q inner h f l ok = body_plain d r Bytes n q (walk_bytes n q) (λ w. tt) (λ w. tt) (bytes_holds n q ok.0)
body_holds d r Text n q inner h f l ok = body_plain d r Text n q (walk_text n n q) (λ w. tt) (λ w. tt) (text_holds n n q (omega arith))
body_holds zero r Array n q inner h f l ok = absurd (omega arith)
body_holds (suc d) r Array n q inner h f l ok =
    body_plain (suc d) r Array n q (walk_many (inner 0) n q) (λ w. tt) (λ w. tt)
    (many_holds (ItemAt d) (item_free d) (some_item d) Ok ok_rest (inner 0) (λ x o. keyed_holds (ItemAt d) (Says (ItemAt d)) x (inner 0 x) (h 0 x (omega arith) o)) n q ok)
body_holds zero r Map n q inner h f l ok = absurd (omega arith)
body_holds (suc d) r Map n q inner h f l ok =
    body_plain (suc d) r Map n q (walk_pairs inner n [] q) (λ w. tt) (λ w. tt) (pairs_holds (ItemAt d) (item_free d) (some_item d) Ok ok_rest inner h n [] q f.0 tt ok)
body_holds zero r Tag n q inner h f l ok = absurd (omega arith)
body_holds (suc d) r Tag n q inner h f l ok = tag_body d r n q inner h l ok
body_holds d r Simple n q inner h f l ok = ((refl, tt), (empty_reach, tt), refl)

-- an item: its head, and what is in it
body_for_some : (d r : ℕ) (k : Major) (n : ℕ) → r ≤ 18446744073709551616 → HeadFits d k n → (v : List ℕ) × BodyFor (Below d) r (k, n) v
body_for_some d r Unsigned n l f = let (v, b) = body_some d Unsigned n f in (v, (b, tt))
body_for_some d r Negative n l f = let (v, b) = body_some d Negative n f in (v, (b, tt))
body_for_some d r Bytes n l f = let (v, b) = body_some d Bytes n f in (v, (b, tt))
body_for_some d r Text n l f = let (v, b) = body_some d Text n f in (v, (b, tt))
body_for_some d r Array n l f = let (v, b) = body_some d Array n f in (v, (b, tt))
body_for_some d r Map n l f = let (v, b) = body_some d Map n f in (v, (b, tt))
body_for_some zero r Tag n l f = absurd (omega arith)
body_for_some (suc d) r Tag n l f = (head 0 0 ++ [], (item_made d (Unsigned, 0) [] (omega arith) refl, λ e. room_below_text d 0 0 (r - 248) [] (omega arith) (omega arith) (omega arith)))
body_for_some d r Simple n l f = let (v, b) = body_some d Simple n f in (v, (b, tt))

head_for_free : (d r : ℕ) → PrefixFree (HeadFor d r)
head_for_free d r i j u s (a, x) (b, y) = head_word_free d i j u s a b

-- with how many come after, as long as it isn't too long
abbrev SaysShort : ℕ → (ℕ × ℕ) → List ℕ → Type 0
SaysShort d m w = Reach (ItemAt d) w m.0 × (length w < 1152921504606846976 → After (ItemAt d) w m.1)

item_holds : (d r : ℕ) (q : List ℕ) (inner : ℕ → List ℕ → Told (ℕ × ℕ)) → Under d inner → r < 18446744073709551616 → Ok q → Holds (Demanded d r) (SaysShort d) q (walk_item inner d r q)
item_holds d r q inner h l ok =
    let A = HeadFor d r in
    let B = BodyFor (Below d) r in
    let on = λ (i : Major × ℕ) (u : List ℕ) (y : A i u). body_for_some d r i.0 i.1 (omega arith) y.0.1 in
    let free = head_for_free d r in
    then_holds A B free on (λ (m : ℕ) u. ℕ) (SaysShort d) A q (walk_head d r q) _ (head_holds d r q ok.0)
    (λ i u rest s ((p, f), g) e.
    carry_holds A B free on (InSays d i.0 i.1) (SaysShort d) (λ m. (joined (reach_of_head u) (length u) m.0, after_of i.0 i.1 m.1)) i u rest (walk_body inner r i.0 i.1 rest) ((p, f), g)
    (λ m v b t. subst (λ x. SaysShort d (joined (reach_of_head x) (length x) m.0, after_of i.0 i.1 m.1) (x ++ v)) (sym p)
    (item_reach d i.0 i.1 v m.0 f b.0 t.0, λ z. item_after d i.0 i.1 v m.1 f b.0 t.1 z))
    (body_holds d r i.0 i.1 rest inner h f l (ok_rest u rest (subst Ok e ok))))

-- and with the demand as room
room_holds : (d r : ℕ) (q : List ℕ) (o : Told (ℕ × ℕ)) → r < 18446744073709551616 → Ok q → Holds (Demanded d r) (SaysShort d) q o → Holds (Keyed (ItemAt d) r) (Says (ItemAt d)) q o
room_holds d r q (done m u rest) l ok (b, (s, a), e) =
    let z : length u < 1152921504606846976 = let x : length q ≡ length u + length rest = ap length e ∙ length-append u rest in let y = ok.1 in omega arith in
    (demanded_keyed d r u z (omega arith) b, (s, a z), e)
room_holds d r q cut l ok (b, n) = (demanded_begins d r q ok.1 (omega arith) b, λ u rest x e. n u rest (keyed_demanded d r u x) e)
room_holds d r q (wrong p) l ok ((u, b, v, h, e, c, n), m) =
    let z : length u < 1152921504606846976 = let x : length q ≡ length u + length (b ∷ v) = ap length e ∙ length-append u (b ∷ v) in let y = ok.1 in omega arith in
    ((u, b, v, h, e, demanded_begins d r u z (omega arith) c, λ (s, k). n (s, keyed_demanded d r ((u ++ b ∷ []) ++ s) k)), λ u rest x e. m u rest (keyed_demanded d r u x) e)

pub walk_holds : (d r : ℕ) (q : List ℕ) → r < 18446744073709551616 → Ok q → Holds (Keyed (ItemAt d) r) (Says (ItemAt d)) q (walk d r q)
unfolding walk
walk_holds zero r q l ok = room_holds 0 r q (walk_item (λ s x. cut) 0 r q) l ok (item_holds 0 r q (λ s x. cut) tt l ok)
walk_holds (suc d) r q l ok = room_holds (suc d) r q (walk_item (walk d) (suc d) r q) l ok (item_holds (suc d) r q (walk d) (λ s x m o. walk_holds d s x m o) l ok)
