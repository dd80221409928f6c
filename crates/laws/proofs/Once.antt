-- Bytes encode one item at most, and none that begins with another's.
use Rattle.std.proofs.Common.{◌≡◌, ℕ, true, List, [], ◌++◌, Some, sym, refl, ap, ◌∙◌}
use Rattle.std.proofs.lemmas.List.{append-nil}
use Rattle.cbor.specs.Item.{Item}
use Rattle.cbor.specs.Encoding.{encode}
use Rattle.cbor.specs.Valid.{valid_at}
use Rattle.cbor.specs.Decoding.{decode}
use Rattle.laws.specs.Laws.{OneWay, SameBytes}
use Rattle.laws.proofs.Encoded.{encoded_is_decoded}
use Rattle.cbor.proofs.Order.{same_refl, same_equal}

pub one_way : OneWay
one_way d i j u r (e, h) (f, g) =
    let p : decode d (u ++ r) ≡ Some (i, r) = rw e (encoded_is_decoded d i r h) in
    let q : decode d (u ++ r) ≡ Some (j, []) = rw (f, sym (append-nil (encode j))) (encoded_is_decoded d j [] g) in
    let t : ◌≡◌ {A = Item × List ℕ} (i, r) (j, []) = cc in
    (ap (λ x. x.0) t, ap (λ x. x.1) t)

pub encode_once : (d : ℕ) (i j : Item) → valid_at d i ≡ true → valid_at d j ≡ true → encode i ≡ encode j → i ≡ j
encode_once d i j h g e = (one_way d i j (encode i) [] (refl, h) (append-nil (encode i) ∙ e, g)).0

pub same_bytes : SameBytes
same_bytes d i j h g = (λ e. encode_once d i j h g (same_equal (encode i) (encode j) e), λ e. rw e (same_refl (encode j)))
