-- No item's bytes begin with another's, however deep; nor do heads.
use Rattle.std.proofs.Common.{◌≡◌, ℕ, ◌<◌, List, [], ◌++◌, Some, sym, refl, ap, ◌∙◌, arith}
use Rattle.std.proofs.lemmas.List.{append-nil}
use Rattle.cbor.specs.declared.Major.{Major}
use Rattle.cbor.specs.declared.Major.TheVariants.{Unsigned, Negative, Bytes, Text, Array, Map, Tag, Simple}
use Rattle.cbor.specs.Encoding.{major_number, head}
use Rattle.cbor.specs.Decoding.{decode_head}
use Rattle.cbor.specs.Prefix.{PrefixFree}
use Rattle.laws.proofs.Heads.{head_decoded}
use Rattle.laws.proofs.Once.{one_way}
use Rattle.prefixes.specs.Words.{Word}
use Rattle.prefixes.specs.Shapes.{major_of, HeadFits, HeadWord, ItemAt}
use Rattle.prefixes.proofs.Items.{item_from_word}

pub item_free : (d : ℕ) → PrefixFree (Word (ItemAt d))
item_free d i j u r (p, a) (q, b) =
    let (x, h) = item_from_word d u a in
    let (y, g) = item_from_word d (u ++ r) b in
    let (s, t) = one_way d x y u r h g in
    (sym p ∙ sym (append-nil u) ∙ ap (λ z. u ++ z) (sym t) ∙ q, t)

-- HEADS

pub major_of_number : (k : Major) → major_of (major_number k) ≡ k
major_of_number Unsigned = refl
major_of_number Negative = refl
major_of_number Bytes = refl
major_of_number Text = refl
major_of_number Array = refl
major_of_number Map = refl
major_of_number Tag = refl
major_of_number Simple = refl

pub fits_below : (d : ℕ) (k : Major) (n : ℕ) → HeadFits d k n → n < 18446744073709551616
fits_below d Unsigned n h = h
fits_below d Negative n h = h
fits_below d Bytes n h = h
fits_below d Text n h = h
fits_below d Array n h = h.0
fits_below d Map n h = h.0
fits_below d Tag n h = h.0
fits_below d Simple n h = omega arith

pub head_word_free : (d : ℕ) → PrefixFree (HeadWord d)
head_word_free d (k, n) (l, m) u r (p, f) (q, g) =
    let a = head_decoded (major_number k) n r (fits_below d k n f) in
    let b = head_decoded (major_number l) m [] (fits_below d l m g) in
    let e : head (major_number k) n ++ r ≡ head (major_number l) m ++ [] = ap (λ z. z ++ r) (sym p) ∙ q ∙ sym (append-nil (head (major_number l) m)) in
    let c : Some (major_number k, n, r) ≡ Some (major_number l, m, []) = sym a ∙ ap decode_head e ∙ b in
    let t : ◌≡◌ {A = ℕ × ℕ × List ℕ} (major_number k, n, r) (major_number l, m, []) = cc in
    let s : k ≡ l = sym (major_of_number k) ∙ ap (λ x. major_of x.0) t ∙ major_of_number l in
    let o : n ≡ m = ap (λ x. x.1) t in
    ((cc), ap (λ x. x.2) t)
