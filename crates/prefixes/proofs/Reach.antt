-- Where items can be raised, by their heads and what is in them.
use Rattle.std.proofs.Common.{ℕ, zero, suc, List, [], ◌++◌, length, replicate, refl, arith}
use Rattle.std.proofs.lemmas.List.{length-replicate}
use Rattle.cbor.specs.declared.Major.{Major}
use Rattle.cbor.specs.declared.Major.TheVariants.{Unsigned, Negative, Bytes, Text, Array, Map, Tag, Simple}
use Rattle.cbor.specs.Encoding.{major_number, head}
use Rattle.cbor.specs.Prefix.{PrefixFree}
use Rattle.cbor.proofs.Numbers.{bytes_replicate}
use Rattle.prefixes.specs.Words.{Word, Reach, joined, reach_of_head, Room}
use Rattle.prefixes.specs.Shapes.{HeadFits, HeadWord, Pairs, BodyOf, Body, ItemAt, Below}
use Rattle.prefixes.proofs.Words.{then_reach}
use Rattle.prefixes.proofs.Items.{item_made}
use Rattle.prefixes.proofs.Free.{item_free, head_word_free}
use Rattle.prefixes.proofs.Many.{many_some, pairs_some}
use Rattle.prefixes.proofs.Texts.{text_some}
use Rattle.prefixes.proofs.Families.{room_numbers}
use Rattle.prefixes.proofs.Raise.{heads_reach}

-- there is an item, however deep
pub some_item : (d : ℕ) → (w : List ℕ) × ItemAt d w
some_item d = (head 0 0 ++ [], item_made d (Unsigned, 0) [] (omega arith) refl)

first_pairs : (W : List ℕ → Type 0) → PrefixFree (Word W) → (w : List ℕ) × W w → (n : ℕ) → Room W [] n → (v : List ℕ) × Pairs W n [] v
unfolding Pairs Room
first_pairs W free some zero h = ([], refl)
first_pairs W free some (suc n) (u, a, l, h) =
    let (w, b) = some in
    let (v, c) = pairs_some W free some n u h in
    (u ++ (w ++ v), (u, u, w ++ v, (refl, (a, h)), (w, w, v, (refl, b), c, refl), refl))

-- what a head announces can be had
pub body_some : (d : ℕ) (k : Major) (n : ℕ) → HeadFits d k n → (v : List ℕ) × BodyOf (Below d) k n v
body_some d Unsigned n f = ([], refl)
body_some d Negative n f = ([], refl)
body_some d Bytes n f = (replicate n 0, (length-replicate n 0, bytes_replicate n 0 (omega arith)))
body_some d Text n f = text_some n
body_some zero Array n f = absurd (omega arith)
body_some (suc d) Array n f = many_some (ItemAt d) (item_free d) (some_item d) n
body_some zero Map n f = absurd (omega arith)
body_some (suc d) Map n f = first_pairs (ItemAt d) (item_free d) (some_item d) n (room_numbers d n (omega arith))
body_some zero Tag n f = absurd (omega arith)
body_some (suc d) Tag n f = some_item d
body_some d Simple n f = ([], refl)

-- the reach of an item by its head's and that of what comes after it
pub item_reach : (d : ℕ) (k : Major) (n : ℕ) (v : List ℕ) (b : ℕ) → HeadFits d k n → BodyOf (Below d) k n v → Reach (BodyOf (Below d) k n) v b
    → Reach (ItemAt d) (head (major_number k) n ++ v) (joined (reach_of_head (head (major_number k) n)) (length (head (major_number k) n)) b)
unfolding ItemAt
item_reach zero k n v b f w h =
    then_reach (HeadWord 0) (Body (λ _. ⊥)) (head_word_free 0) (λ i u (e, g). body_some 0 i.0 i.1 g) (k, n) (head (major_number k) n) v
    (reach_of_head (head (major_number k) n)) b (refl, f) (heads_reach 0 k n f) h
item_reach (suc d) k n v b f w h =
    then_reach (HeadWord (suc d)) (Body (ItemAt d)) (head_word_free (suc d)) (λ i u (e, g). body_some (suc d) i.0 i.1 g) (k, n) (head (major_number k) n) v
    (reach_of_head (head (major_number k) n)) b (refl, f) (heads_reach (suc d) k n f) h
