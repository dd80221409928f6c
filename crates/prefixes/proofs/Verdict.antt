-- The verdict on bytes.
use Rattle.std.proofs.Common.{◌≡◌, ℕ, suc, ◌+◌, ◌≤◌, List, [], ◌∷◌, ◌++◌, length, take, drop, sym, refl, ap, ◌∙◌, subst, inl, inr, append_assoc, arith, length-append, take-append-drop}
use Rattle.std.proofs.lemmas.List.{append-nil, take_at, take-take}
use Rattle.std.proofs.lemmas.Bool.{cases_order}
use Rattle.cbor.specs.Valid.{ItemOf}
use Rattle.cbor.specs.Prefix.{Begins, Any}
use Rattle.prefixes.specs.Shapes.{ItemAt}
use Rattle.prefixes.specs.Walks.{Told, done, cut, wrong, Holds, Says, walk}
use Rattle.prefixes.specs.Verdict.{IsItem, IsPrefix, whole, short, wrong_at, verdict, RightVerdict, CheckIsRight, OneVerdict, WalkIsRight, BeginsIsPrefix, RoomIsEntries}
use Rattle.prefixes.proofs.Words.{begins_less, wholly}
use Rattle.prefixes.proofs.Items.{item_from_word, word_from_item, entries_from_room}
use Rattle.prefixes.proofs.Free.{item_free}
use Rattle.prefixes.proofs.Told.{keyed_holds}
use Rattle.prefixes.proofs.Whole.{walk_holds}

begins_from_prefix : (bs : List ℕ) → IsPrefix bs → Begins (ItemAt 32) bs
begins_from_prefix bs (rest, w) = (rest, word_from_item 32 (bs ++ rest) w)

prefix_from_begins : (bs : List ℕ) → Begins (ItemAt 32) bs → IsPrefix bs
prefix_from_begins bs (rest, w) = (rest, item_from_word 32 (bs ++ rest) w)

-- wrong after a beginning, by places
placed : (bs u v : List ℕ) (b p : ℕ) → length u ≡ p → bs ≡ u ++ b ∷ v → Begins (ItemAt 32) u → (Begins (ItemAt 32) (u ++ b ∷ []) → ⊥) → RightVerdict bs (wrong_at p)
placed bs u v b p l e c n =
    let t : take p bs ≡ u = ap (λ x. take p x) e ∙ take_at u (b ∷ v) p l in
    let s : take (suc p) bs ≡ u ++ b ∷ [] = ap (λ x. take (suc p) x) (e ∙ sym (append_assoc u (b ∷ []) v)) ∙ take_at (u ++ b ∷ []) v (suc p) (length-append u (b ∷ []) ∙ (omega arith)) in (
      (let z : length bs ≡ length u + length (b ∷ v) = ap length e ∙ length-append u (b ∷ v) in omega arith),
      subst (λ x. IsPrefix x) (sym t) (prefix_from_begins u c),
      λ z. n (begins_from_prefix (u ++ b ∷ []) (subst (λ x. IsPrefix x) s z)),
    )

-- nothing goes on after a whole item
ended : (u : List ℕ) (b : ℕ) → ItemAt 32 u → Begins (ItemAt 32) (u ++ b ∷ []) → ⊥
ended u b w (s, x) =
    let f = item_free 32 u (u ++ (b ∷ s)) u (b ∷ s) (refl, w) (refl, subst (λ y. ItemAt 32 y) (append_assoc u (b ∷ []) s) x) in
    let z : ◌≡◌ {A = ℕ} (suc (length s)) 0 = ap length f.1 in
    omega arith

right_verdict : (bs : List ℕ) (o : Told (ℕ × ℕ)) → Holds (ItemAt 32) (Says (ItemAt 32)) bs o → RightVerdict bs (verdict o)
right_verdict bs (done i u []) (w, s, e) = subst IsItem (sym (append-nil u) ∙ sym e) (item_from_word 32 u w)
right_verdict bs (done i u (b ∷ rest)) (w, s, e) = placed bs u rest b (length u) refl e (wholly (ItemAt 32) u w) (λ z. ended u b w z)
right_verdict bs cut (c, n) = (prefix_from_begins bs c, λ z. n bs [] (word_from_item 32 bs z) (sym (append-nil bs)))
right_verdict bs (wrong p) ((u, b, v, l, e, c, n), m) = placed bs u v b p l e c n

pub check_is_right : CheckIsRight
check_is_right bs a l = right_verdict bs (walk 32 0 bs) (keyed_holds (ItemAt 32) (Says (ItemAt 32)) bs (walk 32 0 bs) (walk_holds 32 0 bs (omega arith) (a, l)))

-- ONE VERDICT

-- what begins a prefix is one
prefix_take : (bs : List ℕ) (k : ℕ) → IsPrefix bs → IsPrefix (take k bs)
prefix_take bs k h = begins_less (Any (ItemOf 32)) (take k bs) (drop k bs) (subst IsPrefix (sym (take-append-drop k bs)) h)

prefix_fewer : (bs : List ℕ) (p q : ℕ) → p ≤ q → IsPrefix (take q bs) → IsPrefix (take p bs)
prefix_fewer bs p q l h = subst IsPrefix (take-take p q bs l) (prefix_take (take q bs) p h)

one_place : (bs : List ℕ) (p q : ℕ) → RightVerdict bs (wrong_at p) → RightVerdict bs (wrong_at q) → p ≡ q
one_place bs p q (hp, bp, np) (hq, bq, nq) =
    elim (cases_order p q) [ inl e ↦ e | inr (inl l) ↦ absurd (np (prefix_fewer bs (suc p) q l bq)) | inr (inr l) ↦ absurd (nq (prefix_fewer bs (suc q) p l bp)) ]

pub one_verdict : OneVerdict
one_verdict bs whole whole h g = refl
one_verdict bs whole short h g = absurd (g.1 h)
one_verdict bs whole (wrong_at p) h g = absurd (g.2 (prefix_take bs (suc p) (wholly (Any (ItemOf 32)) bs h)))
one_verdict bs short whole h g = absurd (h.1 g)
one_verdict bs short short h g = refl
one_verdict bs short (wrong_at p) h g = absurd (g.2 (prefix_take bs (suc p) h.0))
one_verdict bs (wrong_at p) whole h g = absurd (h.2 (prefix_take bs (suc p) (wholly (Any (ItemOf 32)) bs g)))
one_verdict bs (wrong_at p) short h g = absurd (h.2 (prefix_take bs (suc p) g.0))
one_verdict bs (wrong_at p) (wrong_at q) h g = ap wrong_at (one_place bs p q h g)

-- THE OTHER STATEMENTS

pub walk_is_right : WalkIsRight
walk_is_right d r q l ok = walk_holds d r q l ok

pub begins_is_prefix : BeginsIsPrefix
begins_is_prefix bs = ((λ c. begins_from_prefix bs c), λ c. prefix_from_begins bs c)

pub room_is_entries : RoomIsEntries
room_is_entries d r k h = entries_from_room d r k h
